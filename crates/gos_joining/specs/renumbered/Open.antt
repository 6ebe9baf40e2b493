-- Imports in another order: a plan that realises a term with any supplies does so under other numbers.
--
-- Read first: Renumbered; Modules of gos_realises.
use Rattle.gos_model.specs.Terms.{Term}
use Rattle.gos_plan.specs.Plans.{Plan}
use Rattle.gos_realises.specs.realises.Realises.{NamesDiffer}
use Rattle.gos_realises.specs.realises.Modules.{RealisesOpen}
use Rattle.gos_joining.specs.webs.Renumbering.{Renumber, IsRenumbered}

-- Each supply goes with its import, wherever that stands.
abbrev pub RenumberedIsOpen : Type 0
RenumberedIsOpen =
    (f : Renumber) (p q : Plan) (m : Term) → IsRenumbered f p q → NamesDiffer p.imports → RealisesOpen q m → RealisesOpen p m
