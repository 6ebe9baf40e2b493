-- Small texts of moves and of a trace; lines and events that have none; and where texts break off.
--
-- Read first: MovesText, TraceText, Ports.
use Rattle.std.specs.Prelude.{◌≡◌, ℕ, List, [], ◌∷◌, codes}
use Rattle.gos_types.specs.Types.{Type', Com, Exp}
use Rattle.gos_lex.specs.Items.{StopsAt}
use Rattle.gos_model.specs.Labels.{given, taken}
use Rattle.gos_netlist.specs.Seen.{ground_type}
use Rattle.gos_witness.specs.declared.labels.Label as labels
use Rattle.gos_witness.specs.declared.moves.Line.TheVariants.{Unfold, Step, Label, Root}
use Rattle.gos_witness.specs.declared.program.ProgramPort.{ProgramPort}
use Rattle.gos_witness.specs.Ports.{ArePorts, AreOfPorts, imports_of, labels_of}
use Rattle.gos_witness.specs.MovesText.{moves_text, HasPath, IsMovesText}
use Rattle.gos_witness.specs.TraceText.{HasEvent, IsTraceText, IsTraceTextOf}

-- a port of this name and type
abbrev pub IsPort : ProgramPort → List ℕ → Type' → Type 0
IsPort p name t = (p.name ≡ name) × (ground_type p.ground ≡ t)

-- labels of a program of two ports: it is run, it asks, it is told 7, it is done
abbrev pub four_labels : List labels.Label
four_labels =
    record { port = 0; place = 0; value = 0 } ∷ record { port = 1; place = 0; value = 0 } ∷ record { port = 1; place = 1; value = 7 }
    ∷ record { port = 0; place = 1; value = 0 } ∷ []

-- the text of lines of each kind; the text of none; a child that there isn't
abbrev pub SmallMoves : Type 0
SmallMoves =
    (moves_text (Root ∷ Unfold [] ∷ Step (0 ∷ []) ∷ Label (1 ∷ 0 ∷ 2 ∷ []) ∷ []) ≡ codes "gosmoves 1\nlines 4\nr\nu .\ns 0\nl 1.0.2\nend\n")
    × (moves_text [] ≡ codes "gosmoves 1\nlines 0\nend\n")
    × (HasPath (Step (0 ∷ 3 ∷ [])) → ⊥)

-- The text of a trace of a program that runs and asks for a number of three bits: labels may stand in any order within a cycle. No
-- label has an event that its port lacks, or a value that its type can't hold.
abbrev pub SmallTraces : Type 0
SmallTraces =
    ((main asked : ProgramPort) → IsPort main (codes "main") Com → IsPort asked (codes "x") (Exp 3)
    → ArePorts (main ∷ asked ∷ [])
    × IsTraceTextOf (main ∷ asked ∷ []) (codes "0 main.run\n0 x.ask\n12 x.ans 7\n13 main.done\ncycles 20\n") four_labels)
    × (HasEvent (Exp 3) 1 8 → ⊥) × (HasEvent (Exp 3) 2 0 → ⊥) × (HasEvent Com 0 1 → ⊥)

-- Where fewer lines stand than are counted, the text breaks off at its end, and where more do, behind those that are counted. A fourth
-- child breaks off.
abbrev pub SmallMovesBreaks : Type 0
SmallMovesBreaks =
    StopsAt IsMovesText (codes "gosmoves 1\nlines 2\nr\nend\n") 0 21
    × StopsAt IsMovesText (codes "gosmoves 1\nlines 1\nr\nr\nend\n") 0 21
    × StopsAt IsMovesText (codes "gosmoves 1\nlines 1\ns 0.3\nend\n") 0 23

-- Where a cycle falls its text breaks off behind its number, since with more digits it need not fall; and in its number, where no more
-- digits can help. So does the last line, where its number is not above all cycles.
abbrev pub SmallTraceBreaks : Type 0
SmallTraceBreaks =
    (main : ProgramPort) → IsPort main (codes "main") Com
    → StopsAt (IsTraceText (main ∷ [])) (codes "5 main.run\n4 main.done\ncycles 20\n") 0 12
    × StopsAt (IsTraceText (main ∷ [])) (codes "999999 main.run\n8 main.done\ncycles 20\n") 0 16
    × StopsAt (IsTraceText (main ∷ [])) (codes "5 main.run\ncycles 5\n") 0 19

-- A program has a port, and no two of one name.
abbrev pub SmallPorts : Type 0
SmallPorts = (ArePorts [] → ⊥) × ((main : ProgramPort) → ArePorts (main ∷ main ∷ []) → ⊥)

-- What the labels of that trace are to the model: the first port is the one that is given, and the other one is taken. They are of
-- two ports, and not of the first alone.
abbrev pub SmallLabels : Type 0
SmallLabels =
    (main asked : ProgramPort) → IsPort main (codes "main") Com → IsPort asked (codes "x") (Exp 3)
    → (imports_of (main ∷ asked ∷ []) ≡ record { name = codes "x"; ty = Exp 3 } ∷ [])
    × (labels_of (main ∷ asked ∷ []) four_labels ≡ given 0 0 ∷ taken (codes "x") 0 0 ∷ taken (codes "x") 1 7 ∷ given 1 0 ∷ [])
    × AreOfPorts (main ∷ asked ∷ []) four_labels
    × (AreOfPorts (main ∷ []) four_labels → ⊥)
