-- A plan that is regular, and one that is not.
--
-- Read first: Regular; SmallPlans of gos_plan.
use Rattle.std.specs.Prelude.{[], ◌∷◌, codes}
use Rattle.gos_types.specs.Types.{Com, Pair}
use Rattle.gos_plan.specs.Kinds.{Par}
use Rattle.gos_plan.specs.Plans.{PartEnd, ImportEnd, ResultEnd, Plan}
use Rattle.gos_plan.specs.SmallPlans.{skip_plan}
use Rattle.gos_realises.specs.realises.Regular.{IsRegular}

-- the plan of `skip` is regular
abbrev pub SkipIsRegular : Type 0
SkipIsRegular = IsRegular skip_plan

-- `fst p || snd p` with an import p of a product: it asks both sides at once
abbrev pub both_sides : Plan
both_sides =
    record {
      weight = 20;
      imports = record { name = codes "p"; ty = Pair Com Com } ∷ [];
      outcome = Com;
      parts = Par ∷ [];
      joints =
          record { asking = ResultEnd 0; serving = PartEnd 0 2 }
          ∷ record { asking = PartEnd 0 0; serving = ImportEnd 0 0 }
          ∷ record { asking = PartEnd 0 1; serving = ImportEnd 0 1 } ∷ [];
    }

-- so its outputs do not keep turns
abbrev pub BothSidesAreNot : Type 0
BothSidesAreNot = IsRegular both_sides → ⊥
