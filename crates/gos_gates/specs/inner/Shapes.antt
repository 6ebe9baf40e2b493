-- What may still follow while a text is read: fixed bytes, a number up to a bound, or its end.
--
-- Read first: AagText. What follows a number may depend on it. Between the reader and its lemmas.
use Rattle.std.specs.Prelude.{◌≡◌, ℕ, zero, suc, ◌+◌, ◌-◌, ◌*◌, ◌≤◌, List, [], ◌∷◌, ◌++◌, length, codes}
use Rattle.std.specs.List.{slice_range}
use Rattle.std.specs.Fmt.{decimal}
use Rattle.gos_lex.specs.Items.{TextAt, Misses}
use Rattle.gos_lex.specs.ItemTexts.{ended}
use Rattle.gos_gates.specs.Gates.{Gates}
use Rattle.gos_gates.specs.AagText.{spaced, last}
use Rattle.gos_gates.specs.declared.fault.AagFault.{AagFault}
use Rattle.gos_gates.specs.declared.fault.AagFault.TheVariants as faults
use Rattle.gos_gates.specs.declared.header.Header.{Header}

-- The end, where the text is read as this circuit; bytes; a number and the byte that ends it.
pub data Shape : Type 0 where
  End : (a : Gates) → Shape
  Word : (bytes : List ℕ) (rest : Shape) → Shape
  Number : (high end : ℕ) (rest : ℕ → Shape) → Shape

-- the bytes are of this shape, and are read as this circuit
abbrev pub Says : Shape → Gates → List ℕ → Type 0
Says (End a) b bytes = (a ≡ b) × (bytes ≡ [])
Says (Word word rest) b bytes = (more : List ℕ) × Says rest b more × (bytes ≡ word ++ more)
Says (Number high end rest) b bytes = (n : ℕ) × (more : List ℕ) × (n ≤ high) × Says (rest n) b more × (bytes ≡ ended end (decimal n) ++ more)

-- the bytes are of this shape
abbrev pub HasShape : Shape → List ℕ → Type 0
HasShape s bytes = (b : Gates) × Says s b bytes

-- What is left of shape s behind what the cursor has passed is of shape t.
pub record Leads (old new : TextAt) (s t : Shape) : Type 0 where
  pub text : new.text ≡ old.text
  pub after : old.at ≤ new.at
  pub within : new.at ≤ length old.text
  pub says : (b : Gates) (more : List ℕ) → Says t b more → Says s b (slice_range old.text old.at new.at ++ more)
  pub cut : (b : Gates) (more : List ℕ) → Says s b (slice_range old.text old.at new.at ++ more) → Says t b more
  pub breaks : (place : ℕ) → Misses (HasShape t) old.text new.at place → Misses (HasShape s) old.text old.at place

-- what should be of this shape at the cursor breaks off at this place
abbrev pub Breaks : Shape → TextAt → ℕ → Type 0
Breaks s at place = Misses (HasShape s) at.text at.at place

-- why what should be of this shape doesn't stand at the cursor
abbrev pub BreaksOff : Shape → TextAt → AagFault → Type 0
BreaksOff s at (faults.Form place) = Breaks s at place
BreaksOff s at faults.NoMemory = Unit {0}

-- so many gates, whose variables are v and those behind it, after these latches, outputs and gates
abbrev pub gates_shape : Header → List ℕ → List ℕ → ℕ → ℕ → List (ℕ × ℕ) → Shape
gates_shape h ls os v zero gs = End (record { inputs = h.inputs; latches = ls; outputs = os; gates = gs })
gates_shape h ls os v (suc left) gs =
    Word (spaced (2 * v)) (Number (2 * v - 1) 32 (λ a. Number a 10 (λ b. gates_shape h ls os (v + 1) left (gs ++ (a, b) ∷ []))))

-- all gates, after these latches and outputs
abbrev pub all_gates : Header → List ℕ → List ℕ → Shape
all_gates h ls os = gates_shape h ls os (h.inputs + h.latches + 1) (h.variables - h.inputs - h.latches) []

-- so many outputs, after these latches and outputs
abbrev pub outputs_shape : Header → List ℕ → ℕ → List ℕ → Shape
outputs_shape h ls zero os = all_gates h ls os
outputs_shape h ls (suc left) os = Number (2 * h.variables + 1) 10 (λ l. outputs_shape h ls left (os ++ l ∷ []))

-- all outputs, after these latches
abbrev pub all_outputs : Header → List ℕ → Shape
all_outputs h ls = outputs_shape h ls h.outputs []

-- so many latches, whose variables are v and those behind it, after these latches
abbrev pub latches_shape : Header → ℕ → ℕ → List ℕ → Shape
latches_shape h v zero ls = all_outputs h ls
latches_shape h v (suc left) ls = Word (spaced (2 * v)) (Number (2 * h.variables + 1) 10 (λ l. latches_shape h (v + 1) left (ls ++ l ∷ [])))

-- all latches
abbrev pub all_latches : Header → Shape
all_latches h = latches_shape h (h.inputs + 1) h.latches []

-- so many inputs, whose variables are v and those behind it
abbrev pub inputs_shape : Header → ℕ → ℕ → Shape
inputs_shape h v zero = all_latches h
inputs_shape h v (suc left) = Word (last (2 * v)) (inputs_shape h (v + 1) left)

-- what stands behind the first line
abbrev pub lines_shape : Header → Shape
lines_shape h = inputs_shape h 1 h.inputs

-- what stands behind the counts of the first line
abbrev pub behind_outputs : ℕ → ℕ → ℕ → ℕ → Shape
behind_outputs m i l o = Word (last (m - i - l)) (lines_shape (record { variables = m; inputs = i; latches = l; outputs = o }))

abbrev pub behind_latches : ℕ → ℕ → ℕ → Shape
behind_latches m i l = Number 4294967295 32 (behind_outputs m i l)

abbrev pub behind_inputs : ℕ → ℕ → Shape
behind_inputs m i = Number (m - i) 32 (behind_latches m i)

abbrev pub behind_variables : ℕ → Shape
behind_variables m = Number m 32 (behind_inputs m)

-- the counts and what stands behind them
abbrev pub counts_shape : Shape
counts_shape = Number 2147483647 32 behind_variables

-- a whole text
abbrev pub whole_shape : Shape
whole_shape = Word (codes "aag ") counts_shape
