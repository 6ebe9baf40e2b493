-- The task of a search of this crate's program.
use Rattle.gos_order.specs.declared.search.Search.{Search}
use Rattle.gos_order.specs.inner.Searches.{Task}

abbrev pub task_of : Search → Task
task_of search = record { way = search.way; limit = search.limit; edges = search.links.now.edges; levels = search.levels.now; apart = search.apart.now.items }
