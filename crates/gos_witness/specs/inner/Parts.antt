-- What is left of the texts of this crate while they are read.
--
-- Read first: Left, MovesText, TraceText. Between the readers and their lemmas.
use Rattle.std.specs.Prelude.{◌≡◌, ℕ, zero, suc, Bool, true, false, List, [], ◌∷◌, ◌++◌, length, codes, Option, Some, None}
use Rattle.std.specs.List.{AllByRecursion, flat_map}
use Rattle.std.specs.Fmt.{decimal}
use Rattle.gos_netlist.specs.NetText.{line}
use Rattle.gos_lex.specs.Items.{TextAt, Misses}
use Rattle.gos_lex.specs.ItemTexts.{IsTextOf, ended}
use Rattle.gos_witness.specs.declared.fault.ExplainFault.{ExplainFault}
use Rattle.gos_witness.specs.declared.fault.ExplainFault.TheVariants as faults
use Rattle.gos_witness.specs.declared.move_line.Verb.{Verb}
use Rattle.gos_witness.specs.declared.move_line.Verb.TheVariants as verbs
use Rattle.gos_witness.specs.declared.moves.Line.{Line}
use Rattle.gos_witness.specs.Paths.{IsChild}
use Rattle.gos_witness.specs.inner.Left.{End}
use Rattle.gos_witness.specs.MovesText.{dotted, path_text, line_text, HasPath, AreLines, IsMovesTextOf}

-- no item of this kind stands at the cursor, and what begins like one breaks off where the fault says
abbrev pub BreaksOff : (List ℕ → Type 0) → TextAt → ExplainFault → Type 0
BreaksOff IsItem at (faults.Form place) = Misses IsItem at.text at.at place
BreaksOff IsItem at faults.NoMemory = Unit {0}
BreaksOff IsItem at fault = ⊥

-- The next number of a path, or its end. `first`: there was none before.
abbrev pub IsStep : Option ℕ → Type 0
IsStep None = Unit {0}
IsStep (Some i) = IsChild i

abbrev pub step_text : Bool → Option ℕ → List ℕ
step_text true None = codes ".\n"
step_text true (Some i) = decimal i
step_text false None = codes "\n"
step_text false (Some i) = codes "." ++ decimal i

-- by its place among those that can be: the end, 0, 1 and 2
abbrev pub step_at : ℕ → Option ℕ
step_at zero = None
step_at (suc i) = Some i

abbrev pub IsStepText : Bool → List ℕ → Type 0
IsStepText first = IsTextOf (Option ℕ) IsStep (step_text first)

-- a path and its line feed
abbrev pub IsPath : List ℕ → Type 0
IsPath = AllByRecursion IsChild

abbrev pub path_line : List ℕ → List ℕ
path_line path = line (path_text path)

abbrev pub IsPathText : List ℕ → Type 0
IsPathText = IsTextOf (List ℕ) IsPath path_line

-- what is left of a path behind these numbers
abbrev pub PathLeft : List ℕ → List ℕ → List ℕ → Type 0
PathLeft [] path bytes = IsPath path × (bytes ≡ path_line path)
PathLeft (i ∷ done) path bytes = (rest : List ℕ) × IsPath rest × (path ≡ (i ∷ done) ++ rest) × (bytes ≡ line (dotted rest))

-- what is left behind one more, or behind the end
abbrev pub StepLeft : List ℕ → Option ℕ → List ℕ → List ℕ → Type 0
StepLeft done None = End (List ℕ) done
StepLeft done (Some i) = PathLeft (done ++ i ∷ [])

-- whether these are no numbers yet
abbrev pub is_first : List ℕ → Bool
is_first [] = true
is_first (i ∷ done) = false

-- how a line begins
abbrev pub verb_text : Verb → List ℕ
verb_text verbs.Unfold = codes "u "
verb_text verbs.Step = codes "s "
verb_text verbs.Label = codes "l "
verb_text verbs.Root = codes "r\n"

-- what stands behind: a path and its line feed, or nothing
abbrev pub VerbRest : Verb → List ℕ → Type 0
VerbRest verbs.Unfold bytes = IsPathText bytes
VerbRest verbs.Step bytes = IsPathText bytes
VerbRest verbs.Label bytes = IsPathText bytes
VerbRest verbs.Root bytes = bytes ≡ []

-- a line
abbrev pub IsLineText : List ℕ → Type 0
IsLineText = IsTextOf Line HasPath line_text

-- the text of a list of moves
abbrev pub WholeLeft : List Line → List ℕ → Type 0
WholeLeft lines bytes = IsMovesTextOf bytes lines

-- what stands behind all lines
abbrev pub foot : List ℕ
foot = codes "end\n"

-- the count, and so many lines
abbrev pub CountLeft : List Line → List ℕ → Type 0
CountLeft lines bytes = AreLines lines × (bytes ≡ ended 10 (decimal (length lines)) ++ (flat_map line_text lines ++ foot))

-- so many lines behind these
abbrev pub LinesLeft : ℕ → List Line → List Line → List ℕ → Type 0
LinesLeft count done lines bytes =
    (rest : List Line) × (length rest ≡ count) × AllByRecursion HasPath rest × (lines ≡ done ++ rest) × (bytes ≡ flat_map line_text rest ++ foot)
