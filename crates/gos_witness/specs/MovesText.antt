-- The text of lines that explain a trace.
--
-- Read first: Paths. `gosmoves 1`, how many lines there are, a line each, and `end`.
use Rattle.std.specs.Prelude.{◌≡◌, ℕ, ◌≤◌, List, [], ◌∷◌, ◌++◌, length, codes}
use Rattle.std.specs.List.{AllByRecursion, flat_map}
use Rattle.std.specs.Fmt.{decimal}
use Rattle.gos_netlist.specs.NetText.{line}
use Rattle.gos_witness.specs.declared.moves.Line.{Line}
use Rattle.gos_witness.specs.declared.moves.Line.TheVariants.{Unfold, Step, Label, Root}
use Rattle.gos_witness.specs.Paths.{IsChild}

-- numbers, each behind a point
abbrev pub dotted : List ℕ → List ℕ
dotted = flat_map (λ i. codes "." ++ decimal i)

-- a path: a point where it is empty, else its numbers with points between them
abbrev pub path_text : List ℕ → List ℕ
path_text [] = codes "."
path_text (i ∷ path) = decimal i ++ dotted path

abbrev pub line_text : Line → List ℕ
line_text (Unfold path) = line (codes "u " ++ path_text path)
line_text (Step path) = line (codes "s " ++ path_text path)
line_text (Label path) = line (codes "l " ++ path_text path)
line_text Root = line (codes "r")

abbrev pub moves_text : List Line → List ℕ
moves_text lines =
    line (codes "gosmoves 1") ++ line (codes "lines " ++ decimal (length lines)) ++ flat_map line_text lines ++ line (codes "end")

-- the numbers of its path are those of children
abbrev pub HasPath : Line → Type 0
HasPath (Unfold path) = AllByRecursion IsChild path
HasPath (Step path) = AllByRecursion IsChild path
HasPath (Label path) = AllByRecursion IsChild path
HasPath Root = Unit {0}

-- all do, and their count is below 2^64
pub record AreLines (lines : List Line) : Type 0 where
  pub paths : AllByRecursion HasPath lines
  pub few : length lines ≤ 18446744073709551615

-- the text is that of these lines
pub record IsMovesTextOf (text : List ℕ) (lines : List Line) : Type 0 where
  pub are : AreLines lines
  pub is : text ≡ moves_text lines

-- a text of the format
abbrev pub IsMovesText : List ℕ → Type 0
IsMovesText text = (lines : List Line) × IsMovesTextOf text lines
