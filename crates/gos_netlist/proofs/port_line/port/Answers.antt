use Rattle.std.proofs.Common.{map}
use Rattle.std.proofs.lemmas.Result.{err_from_is_err_and}
use Rattle.gos_netlist.specs.Seen.{ground_type, number_of, side_of}
use Rattle.gos_netlist.specs.inner.NetLines.{IsNameText, IsTailText, IsPortText}
use Rattle.gos_netlist.proofs.BreakLemmas.{breaks_by}
use Rattle.gos_netlist.proofs.PortLemmas.{no_side_here, no_name_here, no_tail_here, port_passed}
use Rattle.gos_netlist.proofs.port_line.port.Goals as goal

pub returns-in-Err-clause-wrong : goal.returns-in-Err-clause-wrong
returns-in-Err-clause-wrong c = no_side_here c.args.cursor.now.text c.args.cursor.now.at c.in-Err.at c.in-Err.ensures.wrong

pub returns-in_err-name-clause-wrong : goal.returns-in_err-name-clause-wrong
returns-in_err-name-clause-wrong c =
    let old = c.args.cursor.now in
    let mid = c.side_word.new.cursor in
    let known = breaks_by IsNameText IsPortText mid.text old.text mid.at old.at (λ place misses. no_name_here old mid (side_of c.in-Ok.side) place c.in-Ok.ensures.passed misses) c.in_err-name.field-0.0 c.in_err-name.ensures.wrong in
    let p = err_from_is_err_and c.from_residual.result c.from_residual.ensures.1 in
    rw (p.1, p.2) known

pub returns-in_err-ground-clause-wrong : goal.returns-in_err-ground-clause-wrong
returns-in_err-ground-clause-wrong c =
    let old = c.args.cursor.now in
    let mid = c.side_word.new.cursor in
    let last = c.name.new.cursor in
    let known = breaks_by IsTailText IsPortText last.text old.text last.at old.at
    (λ place misses. no_tail_here old mid last (side_of c.in-Ok.side) c.in_ok-name.name place c.in_ok-name.ensures.name c.in-Ok.ensures.passed c.in_ok-name.ensures.passed misses) c.in_err-ground.field-0.0 c.in_err-ground.ensures.wrong in
    let p = err_from_is_err_and c.from_residual-in_err-ground.result c.from_residual-in_err-ground.ensures.1 in
    rw (p.1, p.2) known

pub returns-clause-passed : goal.returns-clause-passed
returns-clause-passed c =
    port_passed c.args.cursor.now c.side_word.new.cursor c.name.new.cursor c.type_and_nets.new.cursor (side_of c.in-Ok.side) c.in_ok-name.name (ground_type c.in_ok-ground.ground) (map number_of c.in_ok-ground.nets.items)
    c.in_ok-ground.ensures.ty c.in_ok-ground.ensures.nets.0 c.in-Ok.ensures.passed c.in_ok-name.ensures.passed c.in_ok-ground.ensures.passed
