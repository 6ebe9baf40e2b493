-- The five forms are forks: their own parts ask what their branches serve.
use Rattle.std.specs.Prelude.{◌+◌, length, slice_get, Contains}
use Rattle.std.proofs.Common.{◌≡◌, ℕ, zero, suc, List, [], ◌∷◌, ◌++◌, Some, refl, sym, ◌∙◌, ap, subst, arith}
use Rattle.std.proofs.lemmas.List.{append-nil}
use Rattle.gos_types.specs.Types.{Type', Com, Exp, IsDone}
use Rattle.gos_check.specs.Nodes.{Numbered, type_of_node}
use Rattle.gos_plan.specs.Kinds as kinds
use Rattle.gos_plan.specs.Kinds.{Contact, Part, asks, contacts_of}
use Rattle.gos_plan.specs.Plans.{turned_if}
use Rattle.gos_ties.specs.declared.points.Place.TheVariants as places
use Rattle.gos_ties.specs.declared.points.Tie.{Tie}
use Rattle.gos_ties.specs.Ties.{point}
use Rattle.gos_compile.specs.Wiring.{answer_bits, led, shares, shares_ties, parts_of, ties_of, nodes}
use Rattle.gos_terms.specs.run_children.Forks.{Branch}
use Rattle.gos_terms.specs.run_children.Forms.{branch, SequenceIsFork, ChoiceIsFork, LoopIsFork, OperatorIsFork, ComplementIsFork}
use Rattle.gos_terms.proofs.regions.BodyLemmas.{done_contact}

-- a branch of a command or an expression, and the handshake at which it is asked
record IsAskedAt (c : Contact) (m : Numbered) : Type 0 where
  pub done : IsDone (type_of_node m)
  pub asked : c ≡ asks 0 (answer_bits (type_of_node m))

-- The first handshakes are those at which these are asked.
abbrev AreAskedAt : List Contact → List Branch → Type 0
AreAskedAt cs [] = Unit {0}
AreAskedAt [] (b ∷ bs) = ⊥
AreAskedAt (c ∷ cs) (b ∷ bs) = IsAskedAt c b.term × AreAskedAt cs bs

asked_at : (v : ℕ) (t : Type') (m : Numbered) → IsDone t → type_of_node m ≡ t → v ≡ answer_bits t → IsAskedAt (asks 0 v) m
asked_at v t m done at_m at_v =
    record { done = subst IsDone (sym at_m) done; asked = ap (asks 0) (at_v ∙ ap answer_bits (sym at_m)) }

all_done : (cs : List Contact) (bs : List Branch) → AreAskedAt cs bs → (b : Branch) → Contains bs b → IsDone (type_of_node b.term)
all_done cs [] are b (k, lt, e) = absurd (omega (arith, lt))
all_done [] (a ∷ bs) are b there = absurd are
all_done (c ∷ cs) (a ∷ bs) (it, are) b (zero, lt, e) = subst (λ (x : Branch). IsDone (type_of_node x.term)) e it.done
all_done (c ∷ cs) (a ∷ bs) (it, are) b (suc k, lt, e) = all_done cs bs are b (k, omega (arith, lt), e)

all_asked : (cs : List Contact) (before after : List Branch) (b : Branch) (k : Contact) → AreAskedAt cs (before ++ b ∷ after)
    → turned_if (slice_get (contacts_of (type_of_node b.term)) 0) ≡ Some k → slice_get cs (length before) ≡ Some k
all_asked [] [] after b k are at = absurd are
all_asked (c ∷ cs) [] after b k (it, are) at = ap Some it.asked ∙ (sym (done_contact (type_of_node b.term) it.done) ∙ at)
all_asked [] (a ∷ before) after b k are at = absurd are
all_asked (c ∷ cs) (a ∷ before) after b k (it, are) at = all_asked cs before after b k are at

-- as a fork has it, where its branches are written out
asks_so : (cs : List Contact) (bs : List Branch) → AreAskedAt cs bs → (before after : List Branch) (b : Branch) (k : Contact)
    → bs ≡ before ++ b ∷ after → turned_if (slice_get (contacts_of (type_of_node b.term)) 0) ≡ Some k → slice_get cs (length before) ≡ Some k
asks_so cs bs are before after b k e at = all_asked cs before after b k (subst (AreAskedAt cs) e are) at

pub sequence_is_fork : SequenceIsFork
sequence_is_fork types t ss m n ms ks done at_m at_n =
    record {
      parts =
          ap (λ (ps : List Part). shares ss types ++ kinds.Seq (answer_bits t) ∷ (parts_of types m ++ ps)) (sym (append-nil (parts_of types n)));
      ties =
          λ i j out.
          ap (λ (ts : List Tie). shares_ties i ss types ++ (led out (places.Part (i + length ss)) 2
          ++ (ties_of types (i + length ss + 1) (suc j) m (point (places.Part (i + length ss)) 0 ∷ []) ++ ts)))
          (sym (append-nil (ties_of types (i + length ss + 1 + length (parts_of types m)) (suc j + nodes m) n (point (places.Part (i + length ss)) 1 ∷ []))));
      outcome = done;
      done = all_done (kinds.part_contacts (kinds.Seq (answer_bits t))) (branch m ms ∷ branch n ks ∷ []) are;
      shakes = refl;
      asks = asks_so (kinds.part_contacts (kinds.Seq (answer_bits t))) (branch m ms ∷ branch n ks ∷ []) are;
    }
  where
    are : AreAskedAt (kinds.part_contacts (kinds.Seq (answer_bits t))) (branch m ms ∷ branch n ks ∷ [])
    are = (asked_at 0 Com m tt at_m refl, (asked_at (answer_bits t) t n done at_n refl, tt))

pub choice_is_fork : ChoiceIsFork
choice_is_fork types t ss m n p ms ks ls done at_m at_n at_p =
    record {
      parts =
          ap (λ (ps : List Part). shares ss types ++ kinds.If (answer_bits t) ∷ (parts_of types m ++ (parts_of types n ++ ps)))
          (sym (append-nil (parts_of types p)));
      ties =
          λ i j out.
          ap (λ (ts : List Tie). shares_ties i ss types ++ (led out (places.Part (i + length ss)) 3
          ++ (ties_of types (i + length ss + 1) (suc j) m (point (places.Part (i + length ss)) 0 ∷ [])
          ++ (ties_of types (i + length ss + 1 + length (parts_of types m)) (suc j + nodes m) n (point (places.Part (i + length ss)) 1 ∷ []) ++ ts))))
          (sym (append-nil (ties_of types (i + length ss + 1 + length (parts_of types m) + length (parts_of types n)) (suc j + nodes m + nodes n) p
          (point (places.Part (i + length ss)) 2 ∷ []))));
      outcome = done;
      done = all_done (kinds.part_contacts (kinds.If (answer_bits t))) (branch m ms ∷ branch n ks ∷ branch p ls ∷ []) are;
      shakes = refl;
      asks = asks_so (kinds.part_contacts (kinds.If (answer_bits t))) (branch m ms ∷ branch n ks ∷ branch p ls ∷ []) are;
    }
  where
    are : AreAskedAt (kinds.part_contacts (kinds.If (answer_bits t))) (branch m ms ∷ branch n ks ∷ branch p ls ∷ [])
    are = (asked_at 1 (Exp 1) m tt at_m refl, (asked_at (answer_bits t) t n done at_n refl, (asked_at (answer_bits t) t p done at_p refl, tt)))

pub loop_is_fork : LoopIsFork
loop_is_fork types ss m n ms ks at_m at_n =
    record {
      parts = ap (λ (ps : List Part). shares ss types ++ kinds.While ∷ (parts_of types m ++ ps)) (sym (append-nil (parts_of types n)));
      ties =
          λ i j out.
          ap (λ (ts : List Tie). shares_ties i ss types ++ (led out (places.Part (i + length ss)) 2
          ++ (ties_of types (i + length ss + 1) (suc j) m (point (places.Part (i + length ss)) 0 ∷ []) ++ ts)))
          (sym (append-nil (ties_of types (i + length ss + 1 + length (parts_of types m)) (suc j + nodes m) n (point (places.Part (i + length ss)) 1 ∷ []))));
      outcome = tt;
      done = all_done (kinds.part_contacts kinds.While) (branch m ms ∷ branch n ks ∷ []) are;
      shakes = refl;
      asks = asks_so (kinds.part_contacts kinds.While) (branch m ms ∷ branch n ks ∷ []) are;
    }
  where
    are : AreAskedAt (kinds.part_contacts kinds.While) (branch m ms ∷ branch n ks ∷ [])
    are = (asked_at 1 (Exp 1) m tt at_m refl, (asked_at 0 Com n tt at_n refl, tt))

pub operator_is_fork : OperatorIsFork
operator_is_fork types op w ss m n ms ks at_m at_n =
    record {
      parts =
          ap (λ (u : Type'). shares ss types ++ kinds.Op op (answer_bits u) ∷ (parts_of types m ++ parts_of types n)) at_n
          ∙ ap (λ (ps : List Part). shares ss types ++ kinds.Op op w ∷ (parts_of types m ++ ps)) (sym (append-nil (parts_of types n)));
      ties =
          λ i j out.
          ap (λ (ts : List Tie). shares_ties i ss types ++ (led out (places.Part (i + length ss)) 2
          ++ (ties_of types (i + length ss + 1) (suc j) m (point (places.Part (i + length ss)) 0 ∷ []) ++ ts)))
          (sym (append-nil (ties_of types (i + length ss + 1 + length (parts_of types m)) (suc j + nodes m) n (point (places.Part (i + length ss)) 1 ∷ []))));
      outcome = tt;
      done = all_done (kinds.part_contacts (kinds.Op op w)) (branch m ms ∷ branch n ks ∷ []) are;
      shakes = refl;
      asks = asks_so (kinds.part_contacts (kinds.Op op w)) (branch m ms ∷ branch n ks ∷ []) are;
    }
  where
    are : AreAskedAt (kinds.part_contacts (kinds.Op op w)) (branch m ms ∷ branch n ks ∷ [])
    are = (asked_at w (Exp w) m tt at_m refl, (asked_at w (Exp w) n tt at_n refl, tt))

pub complement_is_fork : ComplementIsFork
complement_is_fork types w ss m ms at_m =
    record {
      parts = ap (λ (ps : List Part). shares ss types ++ kinds.Not w ∷ ps) (sym (append-nil (parts_of types m)));
      ties =
          λ i j out.
          ap (λ (ts : List Tie). shares_ties i ss types ++ (led out (places.Part (i + length ss)) 1 ++ ts))
          (sym (append-nil (ties_of types (i + length ss + 1) (suc j) m (point (places.Part (i + length ss)) 0 ∷ []))));
      outcome = tt;
      done = all_done (kinds.part_contacts (kinds.Not w)) (branch m ms ∷ []) are;
      shakes = refl;
      asks = asks_so (kinds.part_contacts (kinds.Not w)) (branch m ms ∷ []) are;
    }
  where
    are : AreAskedAt (kinds.part_contacts (kinds.Not w)) (branch m ms ∷ [])
    are = (asked_at w (Exp w) m tt at_m refl, tt)
