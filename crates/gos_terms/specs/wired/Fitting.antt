-- What the ties of a typed term connect fits.
--
-- Read first: Modules; Typed of gos_compile; Linearity and Checked of gos_check.
use Rattle.std.specs.Prelude.{◌≡◌, ℕ, List, length}
use Rattle.gos_types.specs.Types.{Type', type_of}
use Rattle.gos_model.specs.Moves.{Program}
use Rattle.gos_check.specs.Nodes.{Numbered, type_of_node, node_seen}
use Rattle.gos_check.specs.Linearity.{StandsFor}
use Rattle.gos_check.specs.Checked.{SeenLinear, IsChecked, program_in}
use Rattle.gos_plan.specs.Plans.{Plan}
use Rattle.gos_realises.specs.realises.Links.{IsJoined}
use Rattle.gos_realises.specs.realises.Modules.{Supply, AreSupplied, supplying}
use Rattle.gos_compile.specs.Wiring.{IsPlanOf, all_types, all_ties}
use Rattle.gos_compile.specs.Typed.{NodesTyped}
use Rattle.gos_terms.specs.wired.Wired.{Placing, IsWired}
use Rattle.gos_terms.specs.wired.Modules.{PathsFit, MakesNoImport, numbers_from, supply_at}

-- Of two ends of the plan that ties connect each is the other side of the other.
abbrev pub TypedTiesFit : Type 0
TypedTiesFit =
    (program : Program) (t : Type') (w : ℕ) (m : Numbered) (p : Plan)
    → StandsFor program m → NodesTyped (all_types program.imports m) m → IsPlanOf program.imports t w m p → t ≡ type_of_node m
    → PathsFit (all_ties program.imports m) p

-- So what a supplied module has to have, a checked one has.
abbrev pub CheckedFits : Type 0
CheckedFits =
    (l : SeenLinear) (w : ℕ) (p : Plan)
    → IsChecked l → IsPlanOf (program_in l).imports (type_of l.result) w (node_seen l.term) p
    → (type_of l.result ≡ type_of_node (node_seen l.term)) × MakesNoImport (program_in l).imports (node_seen l.term)
    × PathsFit (all_ties (program_in l).imports (node_seen l.term)) p

-- The plan of a checked module, joined to its supplies, is its term's node, wired to them.
abbrev pub CheckedIsWired : Type 0
CheckedIsWired =
    (l : SeenLinear) (w : ℕ) (p r : Plan) (ss : List Supply)
    → IsChecked l → IsPlanOf (program_in l).imports (type_of l.result) w (node_seen l.term) p → AreSupplied (program_in l).imports ss
    → IsJoined (supplying p ss) r
    → (pl : Placing)
    × IsWired (all_types (program_in l).imports (node_seen l.term)) 0 0 (node_seen l.term) (numbers_from 0 (length (program_in l).imports))
    (supply_at ss) pl r
