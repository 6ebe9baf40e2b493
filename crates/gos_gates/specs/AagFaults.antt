-- Which texts are read as a circuit, and why the others are not.
--
-- Read first: AagText; Items of gos_lex. Places count bytes from 0.
use Rattle.std.specs.Prelude.{◌≡◌, ℕ, List, [], ◌++◌}
use Rattle.gos_lex.specs.Items.{StopsAt}
use Rattle.gos_gates.specs.Gates.{Gates, AreGates}
use Rattle.gos_gates.specs.AagText.{aag_text}
use Rattle.gos_gates.specs.declared.fault.AagFault.{AagFault}
use Rattle.gos_gates.specs.declared.fault.AagFault.TheVariants as faults

-- the text is that of this circuit
pub record IsRead (text : List ℕ) (a : Gates) : Type 0 where
  pub are : AreGates a
  pub is : text ≡ aag_text a

-- a text of the format
abbrev pub IsAagText : List ℕ → Type 0
IsAagText text = (a : Gates) × IsRead text a

-- Why a text is refused. `Form`: `at` is the first place at which it can't go on as a text of the format, or its end.
abbrev pub HasFault : List ℕ → AagFault → Type 0
HasFault text (faults.Form at) = StopsAt IsAagText text 0 at × (IsAagText text → ⊥)
HasFault text faults.NoMemory = Unit {0}

-- a text is the text of one circuit at most
abbrev pub IsOneCircuit : List ℕ → Type 0
IsOneCircuit text = (a b : Gates) → IsRead text a → IsRead text b → a ≡ b

-- behind the text of a circuit nothing may follow, as symbols or comments
abbrev pub NothingFollows : List ℕ → Type 0
NothingFollows text = (more : List ℕ) → IsAagText text → IsAagText (text ++ more) → more ≡ []

-- a text that is read has no fault but want of memory
abbrev pub ReadHasNoFault : List ℕ → Type 0
ReadHasNoFault text = (a : Gates) (fault : AagFault) → IsRead text a → HasFault text fault → fault ≡ faults.NoMemory

-- a text breaks off at one place at most
abbrev pub HasOneFault : List ℕ → Type 0
HasOneFault text = (at other : ℕ) → HasFault text (faults.Form at) → HasFault text (faults.Form other) → at ≡ other

-- what was printed is read, as that circuit
abbrev pub PrintedIsRead : Type 0
PrintedIsRead = (a : Gates) → AreGates a → IsRead (aag_text a) a
