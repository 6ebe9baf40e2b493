-- What one part does in an orderly list: it fires by its rows, and puts each request where none waits.
--
-- Read first: Orderly, Law. So the law of a part's gates speaks of what the part does in the list of a whole plan.
use Rattle.std.specs.Prelude.{◌≡◌, ℕ, List, [], ◌∷◌, Some, slice_get, nat_eq, if◌then◌else◌}
use Rattle.gos_plan.specs.Kinds.{Part}
use Rattle.gos_plan.specs.Firing.{Slot, Token}
use Rattle.gos_plan.specs.Plans.{PartEnd, Plan, IsRight}
use Rattle.gos_plan.specs.Tokens.{Tokens, Element, Fire, Out, In, shake_of, way_of, end_of, token_at, Does}
use Rattle.gos_plan.specs.Orderly.{Open, OrderlyFrom}
use Rattle.gos_plan.specs.Firings.{Asked, Fires}

-- the slots by which part i fires in a list
abbrev pub firings_of : ℕ → List Element → List Slot
firings_of i [] = []
firings_of i (Fire j t ∷ xs) = if nat_eq j i then t ∷ firings_of i xs else firings_of i xs
firings_of i (Out e v ∷ xs) = firings_of i xs
firings_of i (In e v ∷ xs) = firings_of i xs

-- at which of its handshakes part i waits for an answer, as the plan's handshakes are open
abbrev pub asked_by : ℕ → Open → Asked
asked_by i o = λ h. o (PartEnd i h)

-- the token that part i takes in this element, if it takes one, has the value of its handshake
abbrev pub TakesValue : Plan → ℕ → (ℕ → ℕ) → Element → Tokens → Type 0
TakesValue p i x (Fire j t) s = j ≡ i → token_at p s (end_of i t) (way_of t) ≡ Some (x (shake_of t))
TakesValue p i x (Out e v) s = Unit {0}
TakesValue p i x (In e v) s = Unit {0}

-- each token that part i takes in the list does
abbrev pub TakesValues : Plan → ℕ → (ℕ → ℕ) → List Element → Tokens → Type 0
TakesValues p i x [] s = Unit {0}
TakesValues p i x (y ∷ ys) s = TakesValue p i x y s × ((t : Tokens) → Does p y s t → TakesValues p i x ys t)

-- In an orderly list of a plan whose joints are right, each part fires by its own rows from its state at the beginning to
-- that at the end. What it asks for is what is open at its own ends, and no other part changes that.
abbrev pub PartsFire : Type 0
PartsFire =
    (p : Plan) (i : ℕ) (k : Part) (x : ℕ → ℕ) (xs : List Element) (o u : Open) (s t : Tokens)
    → IsRight p → slice_get p.parts i ≡ Some k → OrderlyFrom p xs o s u t → TakesValues p i x xs s
    → (ts : List Token) × Fires k x (asked_by i o) (s.state i) (firings_of i xs) (asked_by i u) (t.state i) ts
