use Rattle.std.proofs.Common.{◌∙◌, length, refl}
use Rattle.std.proofs.lemmas.Option.{slice_get_read}
use Rattle.gos_sim.proofs.SpotLemmas.{first_of_kind}
use Rattle.gos_sim.proofs.evaluation.first_gate.Goals as goal

pub returns : goal.returns
returns g c = λ width net s at_0.
    let xs = c.args.operands.now in
    let is = slice_get_read xs (length xs) 0 c.index-operands-0.result refl c.requires c.index-operands-0.is in
    c.gate_of.ensures ∙ first_of_kind width (g.O.Operation.gate c.args.operation.now) net xs c.index-operands-0.result is s at_0
