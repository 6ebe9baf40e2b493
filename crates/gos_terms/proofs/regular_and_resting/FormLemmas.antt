-- The five forms: their branches, and that each session of theirs runs one.
use Rattle.std.specs.Prelude.{◌≡◌, ℕ, List, [], ◌∷◌, ◌++◌, Some}
use Rattle.std.proofs.Common.{refl, sym, subst}
use Rattle.gos_types.specs.Types.{Type', Com, Exp}
use Rattle.gos_model.specs.Terms as terms
use Rattle.gos_model.specs.Terms.{Op, Term, result_width}
use Rattle.gos_check.specs.declared.linear.Split.{Split}
use Rattle.gos_check.specs.Nodes.{Numbered, One, Two, If, OfNot, OfSeq, OfWhile, OfBin, type_of_node}
use Rattle.gos_check.specs.Linearity.{used}
use Rattle.gos_plan.specs.Firing.{Phase}
use Rattle.gos_plan.specs.Kinds as kinds
use Rattle.gos_nodes.specs.sessions.Sessions.{Form, Sequence, Choice, Loop, Binary, Complement, Session, session_of}
use Rattle.gos_compile.specs.Wiring.{Types}
use Rattle.gos_terms.specs.wired.Regular.{RegularWired}
use Rattle.gos_terms.specs.numbers.Kept.{IsKept}
use Rattle.gos_terms.specs.numbers.Inherited.{own_numbers, first_numbers, PartIsKept, BothAreKept, ThreeAreKept}
use Rattle.gos_terms.specs.run_children.Forks.{Branch, IsFork}
use Rattle.gos_terms.specs.run_children.Forms.{branch, SequenceIsFork, ChoiceIsFork, LoopIsFork, OperatorIsFork, ComplementIsFork}
use Rattle.gos_terms.proofs.branches.PartedLemmas.{same_bits, no_empty, of_one, of_two, of_three, first_branch, own_branch, one_branch, two_branches, three_branches}
use Rattle.gos_terms.proofs.branches.SessionLemmas.{RunsOne, of_sequence, of_choice, of_loop, of_operator, of_complement}
use Rattle.gos_terms.specs.regular_and_resting.Forks.{AreRun, ForkIsSteady, SequenceIsSteady, ChoiceIsSteady, LoopIsSteady, OperatorIsSteady, ComplementIsSteady}

-- whatever terms the parts have
abbrev pub skips : Numbered → Term
skips m = terms.Skip

pub are_run : (f : Form) (bs : List Branch) → ((p : Phase) (n : ℕ) (s : Session) → session_of f p n ≡ Some s → RunsOne skips bs s) → AreRun f bs
are_run f bs runs p n s given = let (before, after, b, is, asked, term, ty) = runs p n s given in (before, after, b, is, asked, ty)

abbrev Steady : Types → Branch → Type 0
Steady types b = RegularWired types b.uses b.term

pub sequence_is_steady : SequenceIsFork → BothAreKept → ForkIsSteady → SequenceIsSteady
sequence_is_steady fork kept law types ns t ss m n is done rm rn =
    law (Sequence t terms.Skip terms.Skip) types (Two t ss OfSeq m n) ss (a ∷ b ∷ []) ns
    (subst (λ (v : ℕ). IsFork types (Two t ss OfSeq m n) ss (kinds.Seq v) (a ∷ b ∷ [])) (same_bits t) (fork types t ss m n a.uses b.uses done is.typed.1.1 is.typed.1.2))
    (two_branches types ns t ss kept OfSeq m n is) (no_empty a (b ∷ [])) refl
    (are_run (Sequence t terms.Skip terms.Skip) (a ∷ b ∷ []) (of_sequence skips m n n a.uses b.uses b.uses t is.typed.1.1 is.typed.1.2))
    (of_two (Steady types) a b rm rn)
  where
    a : Branch
    a = first_branch ss ns (used n) m

    b : Branch
    b = own_branch ss ns n

pub choice_is_steady : ChoiceIsFork → ThreeAreKept → ForkIsSteady → ChoiceIsSteady
choice_is_steady fork kept law types ns t ss m n p is done rm rn rp =
    law (Choice t terms.Skip terms.Skip terms.Skip) types (If t ss m n p) ss (a ∷ b ∷ c ∷ []) ns
    (subst (λ (v : ℕ). IsFork types (If t ss m n p) ss (kinds.If v) (a ∷ b ∷ c ∷ [])) (same_bits t)
    (fork types t ss m n p a.uses b.uses c.uses done is.typed.1.1 is.typed.1.2 is.typed.1.3))
    (three_branches types ns t ss kept m n p is) (no_empty a (b ∷ c ∷ [])) refl
    (are_run (Choice t terms.Skip terms.Skip terms.Skip) (a ∷ b ∷ c ∷ [])
    (of_choice skips m n p a.uses b.uses c.uses t is.typed.1.1 is.typed.1.2 is.typed.1.3)) (of_three (Steady types) a b c rm rn rp)
  where
    a : Branch
    a = first_branch ss ns (used n ++ used p) m

    b : Branch
    b = own_branch ss ns n

    c : Branch
    c = own_branch ss ns p

module _ (fork : LoopIsFork) (kept : BothAreKept) (law : ForkIsSteady) (types : Types) (ns : List ℕ) (ss : List Split) (m n : Numbered) where
  plain_loop : IsKept types ns (Two Com ss OfWhile m n) → RegularWired types (first_numbers ss ns (used n)) m
      → RegularWired types (own_numbers ss ns n) n → RegularWired types ns (Two Com ss OfWhile m n)
  plain_loop is rm rn =
      law (Loop terms.Skip terms.Skip) types (Two Com ss OfWhile m n) ss (a ∷ b ∷ []) ns (fork types ss m n a.uses b.uses is.typed.1.1 is.typed.1.2)
      (two_branches types ns Com ss kept OfWhile m n is) (no_empty a (b ∷ [])) refl
      (are_run (Loop terms.Skip terms.Skip) (a ∷ b ∷ []) (of_loop skips m n n a.uses b.uses b.uses is.typed.1.1 is.typed.1.2))
      (of_two (Steady types) a b rm rn)
    where
      a : Branch
      a = first_branch ss ns (used n) m

      b : Branch
      b = own_branch ss ns n

pub loop_is_steady : LoopIsFork → BothAreKept → ForkIsSteady → LoopIsSteady
loop_is_steady fork kept law types ns t ss m n is rm rn =
    let e : t ≡ Com = is.typed.1.0 in
    subst (λ (u : Type'). RegularWired types ns (Two u ss OfWhile m n)) (sym e)
    (plain_loop fork kept law types ns ss m n (subst (λ (u : Type'). IsKept types ns (Two u ss OfWhile m n)) e is) rm rn)

module _ (fork : OperatorIsFork) (kept : BothAreKept) (law : ForkIsSteady) (types : Types) (ns : List ℕ) (ss : List Split) (op : Op) (w : ℕ) (m n : Numbered) where
  abbrev operation : Numbered
  operation = Two (Exp (result_width op w)) ss (OfBin op) m n

  plain_operator : type_of_node m ≡ Exp w → type_of_node n ≡ Exp w → IsKept types ns operation → RegularWired types (first_numbers ss ns (used n)) m
      → RegularWired types (own_numbers ss ns n) n → RegularWired types ns operation
  plain_operator em en is rm rn =
      law (Binary op w terms.Skip terms.Skip) types operation ss (a ∷ b ∷ []) ns (fork types op w ss m n a.uses b.uses em en)
      (two_branches types ns (Exp (result_width op w)) ss kept (OfBin op) m n is) (no_empty a (b ∷ [])) refl
      (are_run (Binary op w terms.Skip terms.Skip) (a ∷ b ∷ []) (of_operator skips m n n a.uses b.uses b.uses op w em en))
      (of_two (Steady types) a b rm rn)
    where
      a : Branch
      a = first_branch ss ns (used n) m

      b : Branch
      b = own_branch ss ns n

pub operator_is_steady : OperatorIsFork → BothAreKept → ForkIsSteady → OperatorIsSteady
operator_is_steady fork kept law types ns t ss op m n is rm rn =
    let (w, e, em, en) = is.typed.1 in
    subst (λ (u : Type'). RegularWired types ns (Two u ss (OfBin op) m n)) (sym e)
    (plain_operator fork kept law types ns ss op w m n em en (subst (λ (u : Type'). IsKept types ns (Two u ss (OfBin op) m n)) e is) rm rn)

module _ (fork : ComplementIsFork) (kept : PartIsKept) (law : ForkIsSteady) (types : Types) (ns : List ℕ) (m : Numbered) where
  plain_complement : (w : ℕ) → type_of_node m ≡ Exp w → IsKept types ns (One (Exp w) [] OfNot m) → RegularWired types ns m
      → RegularWired types ns (One (Exp w) [] OfNot m)
  plain_complement w em is steady =
      law (Complement w terms.Skip) types (One (Exp w) [] OfNot m) [] (branch m ns ∷ []) ns (fork types w [] m ns em)
      (one_branch types ns (Exp w) m (kept types ns (Exp w) [] OfNot m is).1 is) (no_empty (branch m ns) []) refl
      (are_run (Complement w terms.Skip) (branch m ns ∷ []) (of_complement skips m ns w em))
      (of_one (Steady types) (branch m ns) steady)

  unsplit_complement : (t : Type') → IsKept types ns (One t [] OfNot m) → RegularWired types ns m → RegularWired types ns (One t [] OfNot m)
  unsplit_complement t is steady =
      let (w, e, em) = is.typed.1 in
      subst (λ (u : Type'). RegularWired types ns (One u [] OfNot m)) (sym e)
      (plain_complement w em (subst (λ (u : Type'). IsKept types ns (One u [] OfNot m)) e is) steady)

pub complement_is_steady : ComplementIsFork → PartIsKept → ForkIsSteady → ComplementIsSteady
complement_is_steady fork kept law types ns t ss m is steady =
    let none : ss ≡ [] = (kept types ns t ss OfNot m is).0 in
    subst (λ (us : List Split). RegularWired types ns (One t us OfNot m)) (sym none)
    (unsplit_complement fork kept law types ns m t (subst (λ (us : List Split). IsKept types ns (One t us OfNot m)) none is) steady)
