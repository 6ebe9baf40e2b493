use Rattle.std.proofs.Common.{ap, get_or-set_other, sym, ◌∙◌}
use Rattle.gos_netlist.specs.Settling.{Numbers, at}
use Rattle.gos_sim.proofs.active.take_latch.Goals as goal

pub returns-clause-noted : goal.returns-clause-noted
returns-clause-noted g c = λ p lacks.
    let apart = c.note.ensures.noted p lacks in (
      c.note.ensures.kept p lacks,
      ap (λ (v : Numbers). at v p) c.set.ensures ∙ get_or-set_other c.args.registers.now c.args.latch.now.net p _ 0 (λ same. apart (sym same)),
    )
