-- A variable's plan that is read is regular and rests where the variable's is and does.
--
-- Read first: Wirings of gos_realises; Rests of gos_supplies; Regular of wired. A Deref is a function of a variable; so a reading is an
-- application of that function.
use Rattle.std.specs.Prelude.{◌≡◌, ℕ, List, [], All, Contains}
use Rattle.gos_types.specs.Types.{Exp, Var}
use Rattle.gos_check.specs.Nodes.{Use, One, OfDeref}
use Rattle.gos_plan.specs.Plans.{Plan}
use Rattle.gos_plan.specs.TokenBits.{LiteralFits}
use Rattle.gos_realises.specs.realises.Regular.{IsRegular}
use Rattle.gos_realises.specs.realises.Links.{IsJoined}
use Rattle.gos_realises.specs.realises.Wirings.{reading}
use Rattle.gos_supplies.specs.turns.Rests.{Rests}
use Rattle.gos_compile.specs.Wiring.{Types}
use Rattle.gos_terms.specs.wired.Regular.{RegularWired}

abbrev pub ReadingIsRegular : Type 0
ReadingIsRegular =
    (w : ℕ) (p r : Plan) → p.outcome ≡ Var w → All LiteralFits p.parts → IsRegular p → Rests p → IsJoined (reading w p) r → IsRegular r × Rests r

-- a number that is read
abbrev pub ReadIsRegular : Type 0
ReadIsRegular =
    (types : Types) (ns : List ℕ) (n w : ℕ) → Contains ns n → types n ≡ Var w → RegularWired types ns (One (Exp w) [] OfDeref (Use (Var w) [] n))
