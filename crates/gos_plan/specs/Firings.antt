-- The firings of one part in a row, and what they put.
--
-- Read first: Firing, Tokens. Each token is taken where it stands, and each request is put where none waits.
use Rattle.std.specs.Prelude.{ℕ, suc, ◌+◌, List, [], ◌∷◌, nat_eq, if◌then◌else◌, ◌≡◌, Bool, true, false, ◌++◌, Some}
use Rattle.gos_plan.specs.Firing.{Token, State, Slot, Req, Ans, Row, same_slot, firing}
use Rattle.gos_plan.specs.Tokens.{shake_of}
use Rattle.gos_plan.specs.Kinds.{Part}

-- how many of these tokens go out at a handshake, and the sum of their values
abbrev pub due : ℕ → List Token → ℕ
due j [] = 0
due j (t ∷ ts) = if nat_eq (shake_of t.slot) j then suc (due j ts) else due j ts

abbrev pub value_due : ℕ → List Token → ℕ
value_due j [] = 0
value_due j (t ∷ ts) = if nat_eq (shake_of t.slot) j then t.value + value_due j ts else value_due j ts

-- at which handshakes the part has put a request and has not taken its answer
abbrev pub Asked : Type 0
Asked = ℕ → Bool

abbrev pub with_asked : ℕ → Bool → Asked → Asked
with_asked h b o = λ j. if nat_eq j h then b else o j

-- after a token is taken, and after one is put
abbrev pub after_taking : Slot → Asked → Asked
after_taking (Req h) o = o
after_taking (Ans h) o = with_asked h false o

abbrev pub after_putting : List Token → Asked → Asked
after_putting [] o = o
after_putting (t ∷ ts) o = after_putting ts (after_one t.slot o)
  where
    after_one : Slot → Asked → Asked
    after_one (Req h) o = with_asked h true o
    after_one (Ans h) o = o

-- each request is put at a handshake at which none waits for its answer
abbrev pub PutsWell : List Token → Asked → Type 0
PutsWell [] o = Unit {0}
PutsWell (t ∷ ts) o = at_one t.slot o × PutsWell ts (after_putting (t ∷ []) o)
  where
    at_one : Slot → Asked → Type 0
    at_one (Req h) o = o h ≡ false
    at_one (Ans h) o = Unit {0}

-- The part fires by each of these slots, in their order, from a state to a state, and puts these tokens. Each is taken
-- where it stands; x is the value of each handshake.
abbrev pub Fires : Part → (ℕ → ℕ) → Asked → State → List Slot → Asked → State → List Token → Type 0
Fires k x o q [] p r ts = (p ≡ o) × (r ≡ q) × (ts ≡ [])
Fires k x o q (s ∷ ss) p r ts =
    (w : Row) × (us : List Token) × (firing k q s ≡ Some w) × PutsWell (w.puts (x (shake_of s))) (after_taking s o)
    × (ts ≡ w.puts (x (shake_of s)) ++ us)
    × Fires k x (after_putting (w.puts (x (shake_of s))) (after_taking s o)) (w.next (x (shake_of s))) ss p r us

-- how often a slot stands in a list
abbrev pub times : Slot → List Slot → ℕ
times s [] = 0
times s (t ∷ ts) = if same_slot t s then suc (times s ts) else times s ts
