-- A list of nodes as clauses see it.
use Rattle.gos_witness.specs.declared.nodes.NodeList.TheInside.{Inside}
use Rattle.gos_witness.specs.NodeLists.{Listed, IsKept}

abbrev pub list_of : Inside → Listed
list_of l = record { tables = record { types = l.types.items; names = l.names.items }; nodes = l.nodes.items }

abbrev pub IsList : Inside → Type 0
IsList l = IsKept (list_of l)
