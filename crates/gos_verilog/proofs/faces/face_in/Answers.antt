use Rattle.std.proofs.Common.{◌-◌, length, ap, ◌∙◌}
use Rattle.gos_verilog.specs.PortNets.{suffix}
use Rattle.gos_verilog.proofs.FreeLemmas.{front_cut}
use Rattle.gos_verilog.proofs.faces.face_in.Goals as goal

pub returns : goal.returns
returns c front is =
    let cut = front_cut c.args.name.now (suffix c.args.first) front c.saturating_sub.result (c.saturating_sub.ensures ∙ ap (λ end. length c.args.name.now - length end) c.suffix.ensures) is in
    (λ i. (c.args.first, cut i))
