use Rattle.gos_verilog.proofs.PrintLemmas.{target_parts}
use Rattle.gos_verilog.proofs.printing.add_target.Goals as goal

pub returns-in_ok-add_clocked : goal.returns-in_ok-add_clocked
returns-in_ok-add_clocked c =
    let parts = target_parts c.args.i c.args.width c.args.text.now.items in
    rw (c.if-register.true) (cc (parts, c.in_ok-extend_from_slice.ensures.items, c.in_ok-add_reset.ensures, c.in_ok-extend_from_slice-2.ensures.items, c.in_ok-add_clocked.ensures))
