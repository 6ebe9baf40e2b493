use Rattle.std.proofs.Common.{arith}
use Rattle.gos_expand.proofs.arrivals.fill_of.Goals as goal
use Rattle.gos_expand.proofs.ArrivalLemmas.{filled_of, none_filled}

pub returns-then-at-len : goal.returns-then-at-len
returns-then-at-len c =
    filled_of c.args.lists.now.items c.args.at c.args.shake c.args.origin c.index_mut.result.now c.fill_entry.new.entries c.index_mut.ensures.value
    c.fill_entry.ensures

pub returns-else-at-len : goal.returns-else-at-len
returns-else-at-len c = none_filled c.args.lists.now.items c.args.at c.args.shake c.args.origin (omega (arith, c.if-at-len.false, c.len.ensures))
