use Rattle.gos_witness.proofs.MaskLemmas.{shifted_bit}
use Rattle.gos_witness.proofs.masks.bit.Goals as goal

pub returns : goal.returns
returns c = λ k. shifted_bit c.args.number k c.requires
