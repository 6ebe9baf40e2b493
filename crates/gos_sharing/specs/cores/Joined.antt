-- What is joined to a plan, joined to its core, gives the core of that.
--
-- Read first: Core; Joining of gos_plan, Wirings of gos_realises: the links of all these join results, and no part of the first plan.
use Rattle.std.specs.Prelude.{◌≡◌, ◌≢◌, ℕ, ◌+◌, ◌-◌, ◌^◌, ◌<◌, List, ◌∷◌, Option, Some, None, All, Contains, length, nat_lt, if◌then◌else◌}
use Rattle.gos_types.specs.Types.{Type', Var, Pair, Fun}
use Rattle.gos_plan.specs.Plans.{End, PartEnd, ImportEnd, ResultEnd, Plan}
use Rattle.gos_plan.specs.Joining.{Link, Wiring, IsJoining}
use Rattle.gos_plan.specs.TokenBits.{LiteralFits}
use Rattle.gos_realises.specs.realises.Regular.{count, IsRegular}
use Rattle.gos_realises.specs.realises.Links.{IsJoined}
use Rattle.gos_realises.specs.realises.Wirings.{reading, writing, side, applying}
use Rattle.gos_sharing.specs.cores.Core.{Core, IsCore, IsStill}

-- a wiring of a plan and others
abbrev pub wiring : Plan → List Plan → List Link → ℕ → ℕ → Type' → Wiring
wiring p ps ls giver skipped t = record { plans = p ∷ ps; links = ls; giver = giver; skipped = skipped; outcome = t }

-- an end of plan k that a link may join: of a result, or of a part of another plan than the first
abbrev pub IsOuter : ℕ → End → Type 0
IsOuter k (PartEnd i h) = k ≢ 0
IsOuter k (ImportEnd i h) = ⊥
IsOuter k (ResultEnd h) = Unit {0}

abbrev pub AllOuter : List Link → Type 0
AllOuter ls = (l : Link) → Contains ls l → IsOuter l.one.plan l.one.end × IsOuter l.other.plan l.other.end

-- The numbers of n parts in front, which get those of `to` among m, and of the parts behind them; and back, of so many in all.
abbrev pub ahead : ℕ → ℕ → (ℕ → ℕ) → ℕ → ℕ
ahead n m to i = if nat_lt i n then to i else m + (i - n)

abbrev pub ahead_back : ℕ → ℕ → ℕ → (ℕ → Option ℕ) → ℕ → Option ℕ
ahead_back n m all from i = if nat_lt i all then (if nat_lt i m then from i else Some (n + (i - m))) else None

-- how the joining of the core lies in the joining `whole` of the plan
abbrev pub carried : Core → Plan → Plan → Plan → Core
carried f r c whole =
    record {
      part = ahead (length c.parts) (length r.parts) f.part;
      number = ahead_back (length c.parts) (length r.parts) (length whole.parts) f.number;
      import = ahead (length c.imports) (length r.imports) f.import;
      origin = ahead_back (length c.imports) (length r.imports) (length whole.imports) f.origin;
    }

-- Where c is the core of r, what comes of joining others to c is the core of what comes of joining them to r.
abbrev pub JoinedIsCore : Type 0
JoinedIsCore =
    (f : Core) (r c x y : Plan) (ps : List Plan) (ls : List Link) (giver skipped : ℕ) (t : Type')
    → IsCore f r c → AllOuter ls → IsJoining (wiring r ps ls giver skipped t) x → IsJoining (wiring c ps ls giver skipped t) y
    → IsCore (carried f r c x) x y

-- No token lies on what is dead in the joinings that realising speaks of: of a function and its argument, of a product's sides, of a variable
-- that is read or written. A dead joint of the joining leads over a dead joint of the plan, and a list of the joining is one of the plan.
abbrev pub ApplyingIsStill : Type 0
ApplyingIsStill =
    (f : Core) (r c q x y : Plan) (a b : Type')
    → IsCore f r c → IsStill f r c → r.outcome ≡ Fun a b → q.outcome ≡ a → All LiteralFits r.parts → All LiteralFits q.parts → IsRegular c
    → IsRegular q → IsJoined (applying a b r q) x → IsJoined (applying a b c q) y → IsStill (carried f r c x) x y

abbrev pub SidesAreStill : Type 0
SidesAreStill =
    (f : Core) (r c x y : Plan) (a b : Type')
    → IsCore f r c → IsStill f r c → r.outcome ≡ Pair a b → All LiteralFits r.parts → IsRegular c
    → (IsJoined (side 0 a r) x → IsJoined (side 0 a c) y → IsStill (carried f r c x) x y)
    × (IsJoined (side (count a) b r) x → IsJoined (side (count a) b c) y → IsStill (carried f r c x) x y)

abbrev pub ReadingIsStill : Type 0
ReadingIsStill =
    (f : Core) (r c x y : Plan) (w : ℕ)
    → IsCore f r c → IsStill f r c → r.outcome ≡ Var w → All LiteralFits r.parts → IsRegular c → IsJoined (reading w r) x → IsJoined (reading w c) y
    → IsStill (carried f r c x) x y

abbrev pub WritingIsStill : Type 0
WritingIsStill =
    (f : Core) (r c x y : Plan) (w k : ℕ)
    → k < 2 ^ w → IsCore f r c → IsStill f r c → r.outcome ≡ Var w → All LiteralFits r.parts → IsRegular c → IsJoined (writing w k r) x
    → IsJoined (writing w k c) y → IsStill (carried f r c x) x y
