use Rattle.std.proofs.Common.{◌∙◌, ap, length, sym}
use Rattle.gos_sim.proofs.SpotLemmas.{length_runs}
use Rattle.gos_sim.proofs.evaluation.Program.len.Goals as goal

pub returns : goal.returns
returns c =
    let known = c.self.invariant in
    known.count ∙ (sym (length_runs c.self.inside.operands c.self.inside.runs.items known.fit) ∙ ap length c.self.view_is)
