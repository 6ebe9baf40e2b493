-- How much a term adds to what is made of it: parts, nodes, and handshakes of points.
--
-- Read first: Wiring. Between the functions of this crate. Of a checked module it is at most 8 times its weight, say
-- proofs/LoadLemmas, so that no counter of the walk overflows.
use Rattle.std.specs.Prelude.{ℕ, ◌+◌, ◌*◌, ◌≤◌, List, [], ◌∷◌, length}
use Rattle.gos_types.specs.declared.types.Ty.{Ty}
use Rattle.gos_types.specs.Types.{type_of}
use Rattle.gos_syntax.specs.Modules.{SeenImport}
use Rattle.gos_check.specs.declared.linear.Split.{Split}
use Rattle.gos_check.specs.declared.linear.Node.{Node}
use Rattle.gos_check.specs.Nodes.{Numbered, Closed, Use, Under, One, Two, If, node_seen}
use Rattle.gos_compile.specs.declared.wires.Wires.{Wires}
use Rattle.gos_realises.specs.realises.Regular.{count}
use Rattle.gos_compile.specs.Wiring.{Types, type_of_node}
use Rattle.gos_compile.specs.inner.Tables.{types_at}

-- a Share for each split, with three handshakes for each of what is split
abbrev pub share_load : Types → ℕ → ℕ
share_load types k = 1 + 3 * count (types k)

abbrev pub splits_load : List Split → Types → ℕ
splits_load [] types = 0
splits_load (s ∷ ss) types = share_load types s.of + splits_load ss types

-- A node with its own part, which has at most five handshakes, and those of its type; and for each of its parts the
-- handshakes that may lead to the node.
abbrev pub load : Types → Numbered → ℕ
load types (Closed t ss c) = splits_load ss types + (5 + count t)
load types (Use t ss n) = splits_load ss types + (5 + count t)
load types (Under t ss b n m) = splits_load ss types + (5 + count t + load types m)
load types (One t ss f m) = splits_load ss types + (5 + count t + (count (type_of_node m) + load types m))
load types (Two t ss f m n) =
    splits_load ss types + (5 + count t + (count (type_of_node m) + load types m + (count (type_of_node n) + load types n)))
load types (If t ss m n p) = splits_load ss types + (5 + count t + (load types m + (load types n + load types p)))

-- the same of a node of the program; and with the handshakes of its type, which may lead to the node around it
abbrev pub loaded : List Ty → Node → ℕ
loaded types node = load (types_at types) (node_seen node)

abbrev pub part_loaded : List Ty → Node → ℕ
part_loaded types node = count (type_of_node (node_seen node)) + loaded types node

-- the parts and the nodes so far
abbrev pub spent : Wires → ℕ
spent w = length w.parts.items + w.nodes

-- all counters stay within this
abbrev pub most : ℕ
most = 65536

-- an import's handshakes are as few
abbrev pub HasFewShakes : SeenImport → Type 0
HasFewShakes i = count (type_of i.ty) ≤ most
