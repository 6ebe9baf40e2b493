-- A wired node without parts of its own, or with a leaf alone below it, realises its term.
--
-- Read first: Wired of wired; Loose of gos_supplies. Of the supplies only that of the number that is used is joined to the
-- result. The others stand beside, without a joint to it, but their literals fit as well.
use Rattle.std.specs.Prelude.{◌≡◌, ◌<◌, ◌^◌, ℕ, [], List, All, Contains}
use Rattle.gos_types.specs.Types.{Type', Com, Exp, Var}
use Rattle.gos_types.specs.Widths.{IsWidth}
use Rattle.gos_model.specs.Terms.{Skip, Lit, Deref}
use Rattle.gos_check.specs.Nodes.{Closed, Use, One, OfDeref}
use Rattle.gos_plan.specs.Plans.{Plan}
use Rattle.gos_plan.specs.TokenBits.{LiteralFits}
use Rattle.gos_realises.specs.realises.Realises.{AllPorts, NamesDiffer, Realises}
use Rattle.gos_compile.specs.Wiring.{Types}
use Rattle.gos_terms.specs.wired.Wired.{Supplies, Placing, IsWired}

-- A number that is used: the plan of its supply, with what the other numbers stand for beside it.
abbrev pub UseIsRealised : Type 0
UseIsRealised =
    (types : Types) (i j n : ℕ) (t : Type') (ns : List ℕ) (env : Supplies) (pl : Placing) (r : Plan)
    → IsWired types i j (Use t [] n) ns env pl r → Contains ns n → t ≡ types n → All LiteralFits r.parts → AllPorts r.imports → NamesDiffer r.imports
    → Realises t (env n).plan (env n).term → Realises t r (env n).term

-- `skip` and a number: the node's own part, with all supplies beside it.
abbrev pub SkipIsRealised : Type 0
SkipIsRealised =
    (types : Types) (i j : ℕ) (ns : List ℕ) (env : Supplies) (pl : Placing) (r : Plan)
    → IsWired types i j (Closed Com [] Skip) ns env pl r → All LiteralFits r.parts → AllPorts r.imports → NamesDiffer r.imports
    → Realises Com r Skip

abbrev pub LiteralIsRealised : Type 0
LiteralIsRealised =
    (types : Types) (i j w k : ℕ) (ns : List ℕ) (env : Supplies) (pl : Placing) (r : Plan)
    → IsWired types i j (Closed (Exp w) [] (Lit k w)) ns env pl r → IsWidth w → k < 2 ^ w → All LiteralFits r.parts
    → AllPorts r.imports → NamesDiffer r.imports → Realises (Exp w) r (Lit k w)

-- A variable that is read: the plan of its supply joined to the Deref, with the other supplies beside it.
abbrev pub ReadIsRealised : Type 0
ReadIsRealised =
    (types : Types) (i j w n : ℕ) (ns : List ℕ) (env : Supplies) (pl : Placing) (r : Plan)
    → IsWired types i j (One (Exp w) [] OfDeref (Use (Var w) [] n)) ns env pl r → Contains ns n → types n ≡ Var w
    → All LiteralFits r.parts → AllPorts r.imports → NamesDiffer r.imports
    → Realises (Var w) (env n).plan (env n).term → Realises (Exp w) r (Deref (env n).term)
