use Rattle.gos_plan.specs.Seen.{joint_of}
use Rattle.gos_plan.proofs.seats.Seats.join.Goals as goal
use Rattle.gos_plan.proofs.SeatLemmas.{both_taken}

pub returns-in-Some-Some-clause-joined : goal.returns-in-Some-Some-clause-joined
returns-in-Some-Some-clause-joined c _ plan before stands =
    both_taken plan before (joint_of c.args.joint) c.args.self.now c.take.new.self c.take-in-Some-Some.new.self stands c.take.ensures c.take-in-Some-Some.ensures
