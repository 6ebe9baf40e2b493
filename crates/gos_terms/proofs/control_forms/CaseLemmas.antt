-- The cases of the forms that run their parts one at a time.
use Rattle.std.specs.Prelude.{◌≡◌, ℕ, List, [], ◌∷◌, ◌++◌}
use Rattle.std.proofs.Common.{refl, sym, ◌∙◌, subst, inr}
use Rattle.gos_types.specs.Types.{Type', Com, Exp}
use Rattle.gos_model.specs.Terms.{Op, result_width}
use Rattle.gos_model.specs.Typing.{Typed}
use Rattle.gos_check.specs.declared.linear.Split.{Split}
use Rattle.gos_check.specs.Nodes.{Numbered, One, Two, If, OfNot, OfSeq, OfWhile, OfBin, inside, meaning, type_of_node}
use Rattle.gos_check.specs.Linearity.{used}
use Rattle.gos_plan.specs.Kinds as kinds
use Rattle.gos_plan.specs.Plans.{Plan}
use Rattle.gos_realises.specs.realises.Realises.{NamesDiffer}
use Rattle.gos_nodes.specs.sessions.Sessions.{Sequence, Choice, Loop, Binary, Complement}
use Rattle.gos_compile.specs.Wiring.{Types}
use Rattle.gos_compile.specs.Typed.{SidesTyped, NodesTyped}
use Rattle.gos_terms.specs.wired.Wired.{Supplies, Placing, IsWired, AreRealised, terms_of}
use Rattle.gos_terms.specs.stages.Inside.{AreSplit, numbers_inside}
use Rattle.gos_terms.specs.meanings.Meanings.{HasLeaves}
use Rattle.gos_terms.specs.ground_forms.Cases.{RealisesWired}
use Rattle.gos_terms.specs.numbers.Kept.{InScope, IsKept}
use Rattle.gos_terms.specs.numbers.Inherited.{own_numbers, first_numbers, PartIsKept, BothAreKept, ThreeAreKept}
use Rattle.gos_terms.specs.run_children.Forks.{Branch, IsFork}
use Rattle.gos_terms.specs.run_children.Forms.{branch, SequenceIsFork, ChoiceIsFork, LoopIsFork, OperatorIsFork, ComplementIsFork}
use Rattle.gos_terms.proofs.branches.PartedLemmas.{same_bits, no_empty, of_one, of_two, of_three, first_branch, own_branch, one_branch, two_branches, three_branches}
use Rattle.gos_terms.proofs.branches.SessionLemmas.{of_sequence, of_choice, of_loop, of_operator, of_complement}
use Rattle.gos_terms.specs.control_forms.Runs.{ForkRealises}
use Rattle.gos_terms.specs.control_forms.Cases.{SequenceCase, ChoiceCase, LoopCase, OperatorCase, ComplementCase}
use Rattle.gos_terms.proofs.control_forms.TypeLemmas.{known, inside_types, type_is, supplies_have}

module _ (types : Types) (ns : List ℕ) (t : Type') (ss : List Split) where
  -- the type of a part's term is the part's
  retyped : (i j : ℕ) (m n : Numbered) (u : Type') (env : Supplies) (pl : Placing) (r : Plan)
      → SidesTyped types ss → AreSplit ss ns → NodesTyped types m → InScope (numbers_inside ss ns) m
      → IsWired types i j n ns env pl r → AreRealised types env ns → NamesDiffer r.imports
      → Typed r.imports [] (meaning (inside ss (terms_of env)) m) u → Typed r.imports [] (meaning (inside ss (terms_of env)) m) (type_of_node m)
  retyped i j m n u env pl r agree split nodes scope w realised differ typed =
      subst (λ (v : Type'). Typed r.imports [] (meaning (inside ss (terms_of env)) m) v)
      (sym (known r.imports [] (meaning (inside ss (terms_of env)) m) u (inr typed))
      ∙ type_is r.imports types m [] (numbers_inside ss ns) (inside ss (terms_of env)) nodes scope
      (inside_types r.imports types [] ss ns (terms_of env) agree split (supplies_have types i j n ns env pl r w realised differ)))
      typed

-- a part's term has this type
abbrev HasType : List Split → Supplies → Plan → Numbered → Type' → Type 0
HasType ss env r m t = Typed r.imports [] (meaning (inside ss (terms_of env)) m) t

abbrev HasItsType : List Split → Supplies → Plan → Branch → Type 0
HasItsType ss env r b = HasType ss env r b.term (type_of_node b.term)

abbrev Leaved : Branch → Type 0
Leaved b = HasLeaves b.term

abbrev Real : Types → Branch → Type 0
Real types b = RealisesWired types b.uses b.term

its_type : (ss : List Split) (env : Supplies) (r : Plan) (m : Numbered) (t : Type')
    → type_of_node m ≡ t → HasType ss env r m t → HasType ss env r m (type_of_node m)
its_type ss env r m t e typed = subst (λ (u : Type'). HasType ss env r m u) (sym e) typed

pub sequence_case : SequenceIsFork → BothAreKept → ForkRealises → SequenceCase
sequence_case fork kept law types ns t ss m n is leaves_m leaves_n rm rn i j env pl r w supplies differ fit (done, typed_m, typed_n) =
    law (Sequence t (meaning (inside ss (terms_of env)) m) (meaning (inside ss (terms_of env)) n)) types i j (Two t ss OfSeq m n) ss (a ∷ b ∷ []) ns env pl r
    (subst (λ (v : ℕ). IsFork types (Two t ss OfSeq m n) ss (kinds.Seq v) (a ∷ b ∷ [])) (same_bits t) (fork types t ss m n a.uses b.uses done em en))
    (two_branches types ns t ss kept OfSeq m n is) (no_empty a (b ∷ [])) refl w supplies differ fit
    (record {
      session = of_sequence (meaning (inside ss (terms_of env))) m n n a.uses b.uses b.uses t em en;
      typed = of_two (HasItsType ss env r) a b (its_type ss env r m Com em typed_m) (its_type ss env r n t en typed_n);
    })
    (of_two Leaved a b leaves_m leaves_n) (of_two (Real types) a b rm rn)
  where
    a : Branch
    a = first_branch ss ns (used n) m

    b : Branch
    b = own_branch ss ns n

    em : type_of_node m ≡ Com
    em = is.typed.1.1

    en : type_of_node n ≡ t
    en = is.typed.1.2

pub choice_case : ChoiceIsFork → ThreeAreKept → ForkRealises → ChoiceCase
choice_case fork kept law types ns t ss m n p is leaves_m leaves_n leaves_p rm rn rp i j env pl r w supplies differ fit (done, typed_m, typed_n, typed_p) =
    law (Choice t (meaning (inside ss (terms_of env)) m) (meaning (inside ss (terms_of env)) n) (meaning (inside ss (terms_of env)) p))
    types i j (If t ss m n p) ss
    (a ∷ b ∷ c ∷ []) ns env pl r
    (subst (λ (v : ℕ). IsFork types (If t ss m n p) ss (kinds.If v) (a ∷ b ∷ c ∷ [])) (same_bits t)
    (fork types t ss m n p a.uses b.uses c.uses done em en ep))
    (three_branches types ns t ss kept m n p is) (no_empty a (b ∷ c ∷ [])) refl w supplies differ fit
    (record {
      session = of_choice (meaning (inside ss (terms_of env))) m n p a.uses b.uses c.uses t em en ep;
      typed =
          of_three (HasItsType ss env r) a b c (its_type ss env r m (Exp 1) em typed_m) (its_type ss env r n t en typed_n)
          (its_type ss env r p t ep typed_p);
    })
    (of_three Leaved a b c leaves_m leaves_n leaves_p) (of_three (Real types) a b c rm rn rp)
  where
    a : Branch
    a = first_branch ss ns (used n ++ used p) m

    b : Branch
    b = own_branch ss ns n

    c : Branch
    c = own_branch ss ns p

    em : type_of_node m ≡ Exp 1
    em = is.typed.1.1

    en : type_of_node n ≡ t
    en = is.typed.1.2

    ep : type_of_node p ≡ t
    ep = is.typed.1.3

module _ (fork : LoopIsFork) (kept : BothAreKept) (law : ForkRealises) (types : Types) (ns : List ℕ) (ss : List Split) (m n : Numbered) where
  plain_loop : IsKept types ns (Two Com ss OfWhile m n) → HasLeaves m → HasLeaves n → RealisesWired types (first_numbers ss ns (used n)) m
      → RealisesWired types (own_numbers ss ns n) n → RealisesWired types ns (Two Com ss OfWhile m n)
  plain_loop is leaves_m leaves_n rm rn i j env pl r w supplies differ fit (e, typed_m, typed_n) =
      law (Loop (meaning (inside ss (terms_of env)) m) (meaning (inside ss (terms_of env)) n)) types i j (Two Com ss OfWhile m n) ss (a ∷ b ∷ []) ns env pl r
      (fork types ss m n a.uses b.uses em en) (two_branches types ns Com ss kept OfWhile m n is) (no_empty a (b ∷ [])) refl w supplies differ fit
      (record {
        session = of_loop (meaning (inside ss (terms_of env))) m n n a.uses b.uses b.uses em en;
        typed = of_two (HasItsType ss env r) a b (its_type ss env r m (Exp 1) em typed_m) (its_type ss env r n Com en typed_n);
      })
      (of_two Leaved a b leaves_m leaves_n) (of_two (Real types) a b rm rn)
    where
      a : Branch
      a = first_branch ss ns (used n) m

      b : Branch
      b = own_branch ss ns n

      em : type_of_node m ≡ Exp 1
      em = is.typed.1.1

      en : type_of_node n ≡ Com
      en = is.typed.1.2

pub loop_case : LoopIsFork → BothAreKept → ForkRealises → LoopCase
loop_case fork kept law types ns t ss m n is leaves_m leaves_n rm rn =
    let e : t ≡ Com = is.typed.1.0 in
    subst (λ (u : Type'). RealisesWired types ns (Two u ss OfWhile m n)) (sym e)
    (plain_loop fork kept law types ns ss m n (subst (λ (u : Type'). IsKept types ns (Two u ss OfWhile m n)) e is) leaves_m leaves_n rm rn)

module _ (fork : OperatorIsFork) (kept : BothAreKept) (law : ForkRealises) (types : Types) (ns : List ℕ) (ss : List Split)
    (op : Op) (w : ℕ) (m n : Numbered) where
  abbrev operation : Numbered
  operation = Two (Exp (result_width op w)) ss (OfBin op) m n

  plain_operator : type_of_node m ≡ Exp w → type_of_node n ≡ Exp w → IsKept types ns operation → HasLeaves m → HasLeaves n
      → RealisesWired types (first_numbers ss ns (used n)) m → RealisesWired types (own_numbers ss ns n) n → RealisesWired types ns operation
  plain_operator em en is leaves_m leaves_n rm rn i j env pl r wired supplies differ fit (v, e, typed_m, typed_n) =
      law (Binary op w (meaning (inside ss (terms_of env)) m) (meaning (inside ss (terms_of env)) n)) types i j operation ss (a ∷ b ∷ []) ns env pl r
      (fork types op w ss m n a.uses b.uses em en) (two_branches types ns (Exp (result_width op w)) ss kept (OfBin op) m n is) (no_empty a (b ∷ [])) refl wired
      supplies differ fit
      (record {
        session = of_operator (meaning (inside ss (terms_of env))) m n n a.uses b.uses b.uses op w em en;
        typed =
            of_two (HasItsType ss env r) a b
            (retyped types ns (Exp (result_width op w)) ss i j m operation (Exp v) env pl r is.typed.0 is.scope.0 is.typed.2 is.scope.1 wired
            supplies differ typed_m)
            (retyped types ns (Exp (result_width op w)) ss i j n operation (Exp v) env pl r is.typed.0 is.scope.0 is.typed.3 is.scope.2 wired
            supplies differ typed_n);
      })
      (of_two Leaved a b leaves_m leaves_n) (of_two (Real types) a b rm rn)
    where
      a : Branch
      a = first_branch ss ns (used n) m

      b : Branch
      b = own_branch ss ns n

pub operator_case : OperatorIsFork → BothAreKept → ForkRealises → OperatorCase
operator_case fork kept law types ns t ss op m n is leaves_m leaves_n rm rn =
    let (w, e, em, en) = is.typed.1 in
    subst (λ (u : Type'). RealisesWired types ns (Two u ss (OfBin op) m n)) (sym e)
    (plain_operator fork kept law types ns ss op w m n em en (subst (λ (u : Type'). IsKept types ns (Two u ss (OfBin op) m n)) e is) leaves_m leaves_n rm rn)

module _ (fork : ComplementIsFork) (kept : PartIsKept) (law : ForkRealises) (types : Types) (ns : List ℕ) (m : Numbered) where
  plain_complement : (w : ℕ) → type_of_node m ≡ Exp w → IsKept types ns (One (Exp w) [] OfNot m) → HasLeaves m → RealisesWired types ns m
      → RealisesWired types ns (One (Exp w) [] OfNot m)
  plain_complement w em is leaves real i j env pl r wired supplies differ fit (v, e, typed) =
      law (Complement w (meaning (terms_of env) m)) types i j (One (Exp w) [] OfNot m) [] (branch m ns ∷ []) ns env pl r (fork types w [] m ns em)
      (one_branch types ns (Exp w) m (kept types ns (Exp w) [] OfNot m is).1 is) (no_empty (branch m ns) []) refl wired supplies differ fit
      (record {
        session = of_complement (meaning (terms_of env)) m ns w em;
        typed = of_one (HasItsType [] env r) (branch m ns) (its_type [] env r m (Exp v) (em ∙ e) typed);
      })
      (of_one Leaved (branch m ns) leaves) (of_one (Real types) (branch m ns) real)

  unsplit_complement : (t : Type') → IsKept types ns (One t [] OfNot m) → HasLeaves m → RealisesWired types ns m → RealisesWired types ns (One t [] OfNot m)
  unsplit_complement t is leaves real =
      let (w, e, em) = is.typed.1 in
      subst (λ (u : Type'). RealisesWired types ns (One u [] OfNot m)) (sym e)
      (plain_complement w em (subst (λ (u : Type'). IsKept types ns (One u [] OfNot m)) e is) leaves real)

pub complement_case : ComplementIsFork → PartIsKept → ForkRealises → ComplementCase
complement_case fork kept law types ns t ss m is leaves real =
    let none : ss ≡ [] = (kept types ns t ss OfNot m is).0 in
    subst (λ (us : List Split). RealisesWired types ns (One t us OfNot m)) (sym none)
    (unsplit_complement fork kept law types ns m t (subst (λ (us : List Split). IsKept types ns (One t us OfNot m)) none is) leaves real)
