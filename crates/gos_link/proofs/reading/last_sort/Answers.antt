use Rattle.gos_link.proofs.ItemLemmas.{sort_of_last}
use Rattle.gos_link.proofs.reading.last_sort.Goals as goal

pub returns-in-Some : goal.returns-in-Some
returns-in-Some c = rw c.sort.ensures (sort_of_last 0 c.args.items.now c.in-Some.item.now (rw c.in-Some.is at c.last.ensures.value))
