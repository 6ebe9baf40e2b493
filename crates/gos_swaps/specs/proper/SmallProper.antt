-- Small configurations that are proper, and others that miss one part of it each.
--
-- Read first: Proper.
use Rattle.std.specs.Prelude.{[]}
use Rattle.gos_types.specs.Types.{Com}
use Rattle.gos_model.specs.Terms.{Bound, Import, Lam, App, Seq, Par, Loc, Put}
use Rattle.gos_model.specs.SmallPrograms.{c, d}
use Rattle.gos_programs.specs.contexts.SmallContexts.{block, one_at}
use Rattle.gos_swaps.specs.proper.Proper.{PartsApart, IsClosed, IsProper}

-- `c || d` has its parts apart, `c || c` hasn't, and `c ; c` has again; under a binder it is no other
abbrev pub NamesAreApart : Type 0
NamesAreApart =
    PartsApart (Par (Import c) (Import d)) × (PartsApart (Par (Import c) (Import c)) → ⊥) × PartsApart (Seq (Import c) (Import c))
    × (PartsApart (Lam Com (App (Bound 0) (Bound 0))) → ⊥)

-- `fun x . x` is closed, its body isn't
abbrev pub BodiesAreOpen : Type 0
BodiesAreOpen = IsClosed (Lam Com (Bound 0)) × (IsClosed (Bound 0) → ⊥)

-- an open block with its entry is proper, and isn't where the store has nothing, or its location stands behind it
abbrev pub BlockIsProper : Type 0
BlockIsProper =
    IsProper block (one_at 0) × (IsProper block [] → ⊥) × (IsProper (Seq block (Put (Loc 0) 1)) (one_at 0) → ⊥)
