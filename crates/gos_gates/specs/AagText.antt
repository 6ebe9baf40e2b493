-- The text of a circuit: ASCII AIGER 1.0, without symbols and comments.
--
-- Read first: Gates; ItemTexts of gos_lex. Numbers are decimal and stand apart by one space. The first line counts all
-- variables, inputs, latches, outputs and gates. A line follows for each input, latch, output and gate, in their order.
-- Each begins with the literal of its own variable, but for outputs, which have none.
use Rattle.std.specs.Prelude.{ℕ, zero, suc, ◌+◌, ◌*◌, List, [], ◌∷◌, ◌++◌, length, codes}
use Rattle.std.specs.List.{flat_map}
use Rattle.std.specs.Fmt.{decimal}
use Rattle.gos_lex.specs.ItemTexts.{ended}
use Rattle.gos_gates.specs.Gates.{Gates, sources, variables}

-- a number inside a line
abbrev pub spaced : ℕ → List ℕ
spaced n = ended 32 (decimal n)

-- the last number of a line
abbrev pub last : ℕ → List ℕ
last n = ended 10 (decimal n)

-- the first line
abbrev pub header_text : Gates → List ℕ
header_text a =
    codes "aag " ++ spaced (variables a) ++ spaced a.inputs ++ spaced (length a.latches) ++ spaced (length a.outputs) ++ last (length a.gates)

-- so many inputs, whose variables are v and those behind it
abbrev pub input_lines : ℕ → ℕ → List ℕ
input_lines v zero = []
input_lines v (suc left) = last (2 * v) ++ input_lines (v + 1) left

-- latches, whose variables are v and those behind it
abbrev pub latch_lines : ℕ → List ℕ → List ℕ
latch_lines v [] = []
latch_lines v (l ∷ ls) = spaced (2 * v) ++ last l ++ latch_lines (v + 1) ls

-- outputs
abbrev pub output_lines : List ℕ → List ℕ
output_lines = flat_map last

-- gates, whose variables are v and those behind it
abbrev pub gate_lines : ℕ → List (ℕ × ℕ) → List ℕ
gate_lines v [] = []
gate_lines v (g ∷ gs) = spaced (2 * v) ++ spaced g.0 ++ last g.1 ++ gate_lines (v + 1) gs

-- the whole text
abbrev pub aag_text : Gates → List ℕ
aag_text a =
    header_text a ++ input_lines 1 a.inputs ++ latch_lines (a.inputs + 1) a.latches ++ output_lines a.outputs ++ gate_lines (sources a + 1) a.gates
