-- The plan of a name: an import of a ground type, joined to the result.
--
-- Read first: Realises of gos_realises. It is the supply by which an import stays an import.
use Rattle.std.specs.Prelude.{ℕ, zero, suc, List, [], ◌∷◌}
use Rattle.gos_types.specs.Types.{Type', Var, IsGround}
use Rattle.gos_types.specs.Widths.{IsWidth}
use Rattle.gos_model.specs.Terms.{Name, Import}
use Rattle.gos_model.specs.Typing.{Imported}
use Rattle.gos_plan.specs.Plans.{ImportEnd, ResultEnd, Joint, Plan}
use Rattle.gos_realises.specs.realises.Regular.{count}
use Rattle.gos_realises.specs.realises.Realises.{Realises}
use Rattle.gos_joining.specs.webs.Webs.{joint}

-- handshakes h, h + 1, .. of the result, so many of them, each asking at that of the import
abbrev pub passed_on : ℕ → ℕ → List Joint
passed_on h zero = []
passed_on h (suc n) = joint (ResultEnd h) (ImportEnd 0 h) ∷ passed_on (suc h) n

abbrev pub imported : Name → Type' → Imported
imported x t = record { name = x; ty = t }

abbrev pub name_plan : Name → Type' → Plan
name_plan x t =
    record { weight = 0; imports = imported x t ∷ []; outcome = t; parts = []; joints = passed_on 0 (count t) }

-- the numbers of a variable fit a width
abbrev pub HasWidth : Type' → Type 0
HasWidth (Var w) = IsWidth w
HasWidth t = Unit {0}

-- The plan of a name of a ground type realises it.
abbrev pub NameIsRealised : Type 0
NameIsRealised = (x : Name) (t : Type') → IsGround t → HasWidth t → Realises t (name_plan x t) (Import x)
