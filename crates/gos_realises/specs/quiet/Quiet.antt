-- Cycles of firings alone, none of which goes on, and that they end.
--
-- Read first: Made of gos_plan; Matched of realises. A firing goes on where it takes an answer and puts a
-- request.
use Rattle.std.specs.Prelude.{◌≡◌, ℕ, ◌+◌, ◌<◌, ◌≤◌, List, [], ◌∷◌, ◌++◌, length, Some, slice_get, Contains}
use Rattle.gos_model.specs.Weight.{pace}
use Rattle.gos_plan.specs.Plans.{Plan, IsRight}
use Rattle.gos_plan.specs.Tokens.{Tokens, Element, Fire, Out, In, Does, Runs, IsIdle, IsQuiet}
use Rattle.gos_plan.specs.Orderly.{IsOrderly}
use Rattle.gos_plan.specs.Made.{fires_of, Made, state_after}
use Rattle.gos_realises.specs.realises.Matched.{GoesOn}
use Rattle.gos_realises.specs.realises.Slim.{IsSlim}

-- the list leads from one token state to another, and none of its firings goes on
abbrev pub NoneGoesOn : Plan → List Element → Tokens → Tokens → Type 0
NoneGoesOn p [] s s' = s' ≡ s
NoneGoesOn p (x ∷ xs) s s' = (t : Tokens) × Does p x s t × GoesOn p s x [] × NoneGoesOn p xs t s'

-- the firings of these cycles, of which none goes on
abbrev pub FiresOnly : Plan → Tokens → List Made → Type 0
FiresOnly p s [] = Unit {0}
FiresOnly p s (m ∷ ms) = NoneGoesOn p (fires_of m.firings) s m.after × FiresOnly p m.after ms

abbrev pub all_fires : List Made → List Element
all_fires [] = []
all_fires (m ∷ ms) = fires_of m.firings ++ all_fires ms

-- the firing is made in one of the cycles t to t + 3; an output is not
abbrev pub IsFiredSoon : List Made → ℕ → Element → Type 0
IsFiredSoon ms t (Fire i k) =
    (j : ℕ) × (m : Made) × (t ≤ j) × (j ≤ t + 3) × (slice_get ms j ≡ Some m) × Contains m.firings (record { part = i; takes = k })
IsFiredSoon ms t (Out e n) = ⊥
IsFiredSoon ms t (In e n) = Unit {0}

-- each firing that is possible after t cycles is made within four, and no output is possible, where so many follow
abbrev pub FiresSoon : Plan → Tokens → List Made → Type 0
FiresSoon p s ms = (t : ℕ) (x : Element) (after : Tokens) → t + 3 < length ms → Does p x (state_after s ms t) after → IsFiredSoon ms t x

-- Where an orderly list ends in so many cycles of firings that don't go on, no firing and no output is possible at
-- the beginning of one of them or at their end.
abbrev pub GrowsQuiet : Plan → Type 0
GrowsQuiet p =
    (first s : Tokens) (xs : List Element) (ms : List Made)
    → IsIdle p first → Runs p xs first s → IsOrderly p (xs ++ all_fires ms) first → FiresOnly p s ms → FiresSoon p s ms
    → pace p.weight ≤ length ms
    → (j : ℕ) × (j ≤ length ms) × IsQuiet p (state_after s ms j)

-- and every right and slim plan is such
abbrev pub SlimGrowsQuiet : Type 0
SlimGrowsQuiet = (p : Plan) → IsRight p → IsSlim p → GrowsQuiet p
