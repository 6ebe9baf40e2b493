-- Regions that have their imports, and one that has not.
--
-- Read first: Source. A plan calls a function that is imported: one Skip is its argument, and the other one calls it.
use Rattle.std.specs.Prelude.{[], ◌∷◌, Some, codes}
use Rattle.gos_types.specs.Types.{Com, Fun}
use Rattle.gos_model.specs.Typing.{Imported}
use Rattle.gos_plan.specs.Kinds.{Skip}
use Rattle.gos_plan.specs.Plans.{PartEnd, ImportEnd, ResultEnd, Plan}
use Rattle.gos_joining.specs.webs.Webs.{joint}
use Rattle.gos_joining.specs.webs.Cutting.{Cut}
use Rattle.gos_sharing.specs.behind.Source.{HasItsImports}

abbrev pub function : Imported
function = record { name = codes "f"; ty = Fun Com Com }

-- `f skip`
abbrev pub call_of_skip : Plan
call_of_skip =
    record {
      weight = 0;
      imports = function ∷ [];
      outcome = Com;
      parts = Skip ∷ [];
      joints = joint (ImportEnd 0 0) (PartEnd 0 0) ∷ joint (ResultEnd 0) (ImportEnd 0 1) ∷ [];
    }

-- the argument alone
abbrev pub argument : Plan
argument =
    record { weight = 0; imports = function ∷ []; outcome = Com; parts = Skip ∷ []; joints = joint (ImportEnd 0 0) (PartEnd 0 0) ∷ [] }

-- all ends stay where they are
abbrev pub unmoved : Cut
unmoved = record { part = λ k. k; number = λ k. Some k; outer = λ e. e; inner = λ e. Some e }

-- The whole has its imports; the argument alone is asked while the rest of the whole uses its import.
abbrev pub WholeHasImports : Type 0
WholeHasImports = HasItsImports unmoved call_of_skip call_of_skip

abbrev pub ArgumentHasNot : Type 0
ArgumentHasNot = HasItsImports unmoved call_of_skip argument → ⊥
