-- A wired node without parts of its own, or with a leaf alone, is regular and rests, with imports of any types.
--
-- Read first: Leaves; Regular of wired. What stands beside is never asked, whatever it is: nothing is said of the other
-- supplies.
use Rattle.std.specs.Prelude.{◌≡◌, ℕ, List, [], Contains}
use Rattle.gos_types.specs.Types.{Type', Com, Exp}
use Rattle.gos_model.specs.Terms.{Skip, Lit}
use Rattle.gos_check.specs.Nodes.{Closed, Use}
use Rattle.gos_compile.specs.Wiring.{Types}
use Rattle.gos_terms.specs.wired.Regular.{RegularWired}

-- a number that is used
abbrev pub UseIsRegular : Type 0
UseIsRegular = (types : Types) (ns : List ℕ) (n : ℕ) (t : Type') → Contains ns n → t ≡ types n → RegularWired types ns (Use t [] n)

-- `skip`, and a number
abbrev pub SkipIsRegular : Type 0
SkipIsRegular = (types : Types) (ns : List ℕ) → RegularWired types ns (Closed Com [] Skip)

abbrev pub LiteralIsRegular : Type 0
LiteralIsRegular = (types : Types) (ns : List ℕ) (w k : ℕ) → RegularWired types ns (Closed (Exp w) [] (Lit k w))
