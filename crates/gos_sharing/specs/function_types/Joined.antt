-- What is joined to split plans is split.
--
-- Read first: Split; Joining of gos_plan, Wirings of gos_realises: the links of all these join results, and no part of the first plan.
use Rattle.std.specs.Prelude.{◌≡◌, ℕ, List, ◌∷◌, Contains}
use Rattle.gos_types.specs.Types.{Type'}
use Rattle.gos_plan.specs.Plans.{Plan}
use Rattle.gos_plan.specs.Tokens.{IsPortEnd}
use Rattle.gos_plan.specs.Joining.{Place, Link, Wiring, IsJoining}
use Rattle.gos_sharing.specs.function_types.Split.{Splitting, IsSplit}

-- a wiring of a plan and others
abbrev pub wiring : Plan → List Plan → List Link → ℕ → ℕ → Type' → Wiring
wiring p ps ls giver skipped t = record { plans = p ∷ ps; links = ls; giver = giver; skipped = skipped; outcome = t }

-- a place of the first plan is a port's
abbrev pub IsPortPlace : Place → Type 0
IsPortPlace a = a.plan ≡ 0 → IsPortEnd a.end

-- the links join no part of the first plan
abbrev pub AllPortPlaces : List Link → Type 0
AllPortPlaces ls = (l : Link) → Contains ls l → IsPortPlace l.one × IsPortPlace l.other

-- Where a plan is split, so is what comes of joining others to it, at the same Share.
abbrev pub JoinedIsSplit : Type 0
JoinedIsSplit =
    (f : Splitting) (x u r s : Plan) (ps : List Plan) (ls : List Link) (giver skipped : ℕ) (t : Type')
    → IsSplit f x u → AllPortPlaces ls → IsJoining (wiring x ps ls giver skipped t) r → IsJoining (wiring u ps ls giver skipped t) s
    → (g : Splitting) × IsSplit g r s × (g.wide ≡ f.wide) × (g.caller ≡ f.caller) × (g.of ≡ f.of) × (g.to ≡ f.to)
