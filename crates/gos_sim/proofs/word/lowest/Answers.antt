use Rattle.std.proofs.lemmas.Nat.{and_mask}
use Rattle.gos_sim.proofs.word.lowest.Goals as goal

pub returns : goal.returns
returns c = rw c.greatest.ensures (and_mask c.args.number c.args.width)
