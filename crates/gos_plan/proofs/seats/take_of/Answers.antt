use Rattle.gos_plan.proofs.seats.take_of.Goals as goal
use Rattle.gos_plan.proofs.SeatLemmas.{taken_of}

pub returns : goal.returns
returns c =
    taken_of c.args.lists.now.items c.args.at c.args.shake c.index_mut.result.now c.take_seat.new.seats c.index_mut.ensures.value c.take_seat.ensures
