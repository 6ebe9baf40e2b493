-- Supplies one after another, or all at once.
--
-- Read first: Modules of gos_realises; Renumbering of gos_joining.
use Rattle.std.specs.Prelude.{◌≡◌, List, ◌∷◌, ◌++◌}
use Rattle.gos_model.specs.Typing.{Imported}
use Rattle.gos_plan.specs.Plans.{Plan}
use Rattle.gos_plan.specs.Joining.{Wiring}
use Rattle.gos_realises.specs.realises.Links.{IsJoined}
use Rattle.gos_realises.specs.realises.Modules.{Supply, AreSupplied, plans_of, imports_linked, supplying}
use Rattle.gos_joining.specs.webs.Renumbering.{Renumber, IsRenumbered}

-- a plan with supplies for its first imports; those behind stay
abbrev pub supplying_first : Plan → List Imported → List Supply → Wiring
supplying_first p is ss = record { plans = p ∷ plans_of ss; links = imports_linked 0 is; giver = 0; skipped = 0; outcome = p.outcome }

-- Supplies for the first imports, and then for those behind, are supplies for all of them.
abbrev pub InTurnIsAtOnce : Type 0
InTurnIsAtOnce =
    (is js : List Imported) (p x r z : Plan) (ss ts : List Supply)
    → p.imports ≡ is ++ js → AreSupplied is ss → AreSupplied js ts → IsJoined (supplying_first p is ss) x → IsJoined (supplying_first x js ts) r
    → IsJoined (supplying p (ss ++ ts)) z → (g : Renumber) × IsRenumbered g r z
