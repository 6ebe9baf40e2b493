-- What is left of a text while it is read: which bytes may still follow, and for which value of the whole.
--
-- Read first: Items of gos_lex. Between the readers and their lemmas.
use Rattle.std.specs.Prelude.{◌≡◌, ℕ, ◌≤◌, List, [], ◌++◌, length}
use Rattle.std.specs.List.{slice_range}
use Rattle.gos_lex.specs.Items.{TextAt, Misses}

-- with these bytes some value is read
abbrev pub HasLeft : (V : Type 0) → (V → List ℕ → Type 0) → List ℕ → Type 0
HasLeft V S bytes = (v : V) × S v bytes

-- an item, and behind it what its value leaves
abbrev pub Behind : (V U : Type 0) → (U → Type 0) → (U → List ℕ) → (U → V → List ℕ → Type 0) → V → List ℕ → Type 0
Behind V U Is text T v bytes = (u : U) × (more : List ℕ) × Is u × T u v more × (bytes ≡ text u ++ more)

-- nothing is left, and this value is read
abbrev pub End : (V : Type 0) → V → V → List ℕ → Type 0
End V done v bytes = (v ≡ done) × (bytes ≡ [])

-- Of what S says, T is left behind what the cursor has passed.
pub record Leads (V : Type 0) (S T : V → List ℕ → Type 0) (old new : TextAt) : Type 0 where
  pub text : new.text ≡ old.text
  pub after : old.at ≤ new.at
  pub within : new.at ≤ length old.text
  pub says : (v : V) (more : List ℕ) → T v more → S v (slice_range old.text old.at new.at ++ more)
  pub cut : (v : V) (more : List ℕ) → S v (slice_range old.text old.at new.at ++ more) → T v more
  pub breaks : (place : ℕ) → Misses (HasLeft V T) old.text new.at place → Misses (HasLeft V S) old.text old.at place

-- what S says breaks off at this place
abbrev pub Breaks : (V : Type 0) → (V → List ℕ → Type 0) → TextAt → ℕ → Type 0
Breaks V S at place = Misses (HasLeft V S) at.text at.at place
