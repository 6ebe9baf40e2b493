use Rattle.std.proofs.Common.{◌≡◌, ◌-◌, ℕ, suc, List, subst, sym, arith}
use Rattle.std.proofs.lemmas.Result.{err_from_is_err_and}
use Rattle.gos_netlist.specs.Nets.{NetPort}
use Rattle.gos_netlist.specs.NetText.{port_text}
use Rattle.gos_netlist.specs.Writable.{IsWritablePort}
use Rattle.gos_netlist.specs.inner.NetLines.{IsPortText, IsLinesText}
use Rattle.gos_netlist.proofs.BreakLemmas.{breaks_by}
use Rattle.gos_netlist.proofs.PortLemmas.{port_code}
use Rattle.gos_netlist.proofs.LinesLemmas.{LinesSoFar, one_line_more, no_line_more}
use Rattle.gos_netlist.proofs.sections.port_lines.Goals as goal

pub loop-left-preserved : goal.loop-left-preserved
loop-left-preserved c =
    let left : ℕ = c.loop-left.left - 1 in
    let fewer : c.loop-left.left ≡ suc left = omega (arith, c.loop-left-test.true) in
    let known = one_line_more NetPort IsWritablePort port_text port_code c.args.count c.args.cursor.now c.loop-left.cursor c.port.new.cursor c.loop-left.ports.items c.loop-left.left left c.in_ok-port.field-0 fewer c.loop-left.invariant c.in_ok-port.ensures.port c.in_ok-port.ensures.passed in
    subst (λ (ports : List NetPort). LinesSoFar NetPort IsWritablePort port_text c.args.count c.args.cursor.now c.port.new.cursor ports left) (sym c.in_ok-push.ensures.items) known

pub returns-in_err-port-clause-wrong : goal.returns-in_err-port-clause-wrong
returns-in_err-port-clause-wrong c =
    let old = c.args.cursor.now in
    let mid = c.loop-left.cursor in
    let left : ℕ = c.loop-left.left - 1 in
    let fewer : c.loop-left.left ≡ suc left = omega (arith, c.loop-left-test.true) in
    let known = breaks_by IsPortText (IsLinesText NetPort IsWritablePort port_text c.args.count) mid.text old.text mid.at old.at
    (λ place misses. no_line_more NetPort IsWritablePort port_text c.args.count old mid c.loop-left.ports.items c.loop-left.left left place fewer c.loop-left.invariant misses) c.in_err-port.field-0.0 c.in_err-port.ensures.wrong in
    let p = err_from_is_err_and c.from_residual.result c.from_residual.ensures.1 in
    rw (p.1, p.2) known
