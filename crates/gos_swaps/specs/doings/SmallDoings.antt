-- Small terms: what happens at which place of them.
--
-- Read first: Sides. Each definition is met by one of them and missed by another.
use Rattle.std.specs.Prelude.{ℕ, [], ◌∷◌}
use Rattle.gos_types.specs.Types.{Com}
use Rattle.gos_model.specs.Terms.{Term, Skip, Lit, Bound, Import, Lam, App, Both, Seq, Par, Deref, Arr, Wait}
use Rattle.gos_model.specs.Stores.{Store}
use Rattle.gos_model.specs.Labels.{taken}
use Rattle.gos_model.specs.ArrayPorts.{a, b, an_array}
use Rattle.gos_model.specs.SmallPrograms.{c, d, two_commands}
use Rattle.gos_swaps.specs.doings.Doings.{Unfolding, Computing, Showing, DoesAt, SameSort, SameKind}

-- `(fun x . x) c`, which unfolds to `c`
abbrev pub applied_name : Term
applied_name = App (Lam Com (Bound 0)) (Import c)

-- `c || d` runs c at child 0 and d at child 1, and not c at child 1
abbrev pub EitherSideRuns : Type 0
EitherSideRuns =
    DoesAt two_commands (0 ∷ []) (Showing (taken c 0 0)) [] [] (Par (Import c) (Import d)) (Par (Wait c 1) (Import d))
    × DoesAt two_commands (1 ∷ []) (Showing (taken d 0 0)) [] [] (Par (Import c) (Import d)) (Par (Import c) (Wait d 1))
    × ((s : Store) (t : Term) → DoesAt two_commands (1 ∷ []) (Showing (taken c 0 0)) [] s (Par (Import c) (Import d)) t → ⊥)

-- of `(..) ; d` the head at child 0 unfolds, and nothing happens at child 1
abbrev pub HeadUnfolds : Type 0
HeadUnfolds =
    DoesAt two_commands (0 ∷ []) Unfolding [] [] (Seq applied_name (Import d)) (Seq (Import c) (Import d))
    × ((s : Store) (t : Term) → DoesAt two_commands (1 ∷ []) (Showing (taken d 0 0)) [] s (Seq applied_name (Import d)) t → ⊥)

-- where the first part of `skip ; d` has ended, that is a step of the whole, and nothing of its part
abbrev pub EndedPartSteps : Type 0
EndedPartSteps =
    DoesAt two_commands [] Computing [] [] (Seq Skip (Import d)) (Import d)
    × ((s : Store) (t : Term) → DoesAt two_commands (0 ∷ []) Computing [] s (Seq Skip (Import d)) t → ⊥)

-- the answers to one read are of one kind, whatever their numbers; a step and an unfolding aren't
abbrev pub KindsAreToldApart : Type 0
KindsAreToldApart = SameKind (Showing (taken c 1 3)) (Showing (taken c 1 4)) × (SameKind Computing Unfolding → ⊥)

-- `! (a b)`, of which the array awaits its index (s is 0), or has not asked for it, or has it (s is 1); the index is j now
abbrev pub read_waits : ℕ → Term → Term
read_waits s j = Deref (App (Wait a s) (Both (Import b) j))

-- What happens in an index that is asked for happens at 0, 1, 1; nothing does in one that is not. In the index of an array of the
-- program's own it happens at 0, 1.
abbrev pub IndexRuns : Type 0
IndexRuns =
    DoesAt an_array (0 ∷ 1 ∷ 1 ∷ []) (Showing (taken b 0 0)) [] [] (read_waits 0 (Import b)) (read_waits 0 (Wait b 1))
    × DoesAt an_array (0 ∷ 1 ∷ 1 ∷ []) Unfolding [] [] (read_waits 0 applied_name) (read_waits 0 (Import c))
    × ((s : Store) (t : Term) → DoesAt an_array (0 ∷ 1 ∷ 1 ∷ []) (Showing (taken b 0 0)) [] s (read_waits 1 (Import b)) t → ⊥)
    × DoesAt an_array (0 ∷ 1 ∷ []) (Showing (taken b 0 0)) [] [] (Deref (App (Arr 0) (Import b))) (Deref (App (Arr 0) (Wait b 1)))

-- While the index isn't asked for the array may ask for it, once more, or answer: at one place two events of one port. Both are
-- inputs; a request and an answer are not of one sort.
abbrev pub ArrayTakesEither : Type 0
ArrayTakesEither =
    DoesAt an_array [] (Showing (taken a 1 0)) [] [] (read_waits 1 (Import b)) (read_waits 0 (Import b))
    × DoesAt an_array [] (Showing (taken a 3 7)) [] [] (read_waits 1 (Import b)) (Lit 7 8)
    × SameSort (Showing (taken a 1 0)) (Showing (taken a 3 7)) × (SameKind (Showing (taken a 1 0)) (Showing (taken a 3 7)) → ⊥)
    × (SameSort (Showing (taken a 2 0)) (Showing (taken a 3 7)) → ⊥)
