use Rattle.std.proofs.lemmas.Nat.{and_mask}
use Rattle.gos_types.proofs.widths.lowest.Goals as goal

pub returns : goal.returns
returns c = rw (c.from.ensures, c.greatest.ensures) (and_mask c.args.number c.args.width)
