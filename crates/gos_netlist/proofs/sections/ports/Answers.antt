use Rattle.std.proofs.Common.{◌≤◌, [], ◌∷◌, refl, arith}
use Rattle.std.specs.Prelude.{codes}
use Rattle.std.proofs.lemmas.Result.{err_from_is_err_and}
use Rattle.gos_types.specs.Types.{Com}
use Rattle.gos_netlist.specs.Nets.{NetPort, Give}
use Rattle.gos_netlist.specs.NetText.{port_text}
use Rattle.gos_netlist.specs.Writable.{IsWritablePort}
use Rattle.gos_netlist.proofs.SectionLemmas.{section_count, section_lines, section_passed}
use Rattle.gos_netlist.proofs.sections.ports.Goals as goal

-- some port
abbrev some : NetPort
some = record { name = codes "a"; side = Give; ty = Com; nets = 0 ∷ 0 ∷ [] }

is_some : IsWritablePort some
is_some = record { name = record { spelled = refl; short = omega arith }; ty = tt; many = refl; nets = (omega arith, (omega arith, tt)) }

pub returns-in_err-n-clause-wrong : goal.returns-in_err-n-clause-wrong
returns-in_err-n-clause-wrong c =
    let old = c.args.cursor.now in
    let known = section_count NetPort IsWritablePort port_text some is_some 65536 old.text old.at c.in_err-n.field-0.0 c.in_err-n.ensures.wrong in
    let p = err_from_is_err_and c.from_residual.result c.from_residual.ensures.1 in
    rw (p.1, p.2) known

pub returns-in_err-ports-clause-wrong : goal.returns-in_err-ports-clause-wrong
returns-in_err-ports-clause-wrong c =
    let small : c.in_ok-n.n ≤ 4294967295 = omega (arith, c.in_ok-n.ensures.few) in
    let known = section_lines NetPort IsWritablePort port_text 65536 c.in_ok-n.n c.args.cursor.now c.count.new.cursor c.in_err-ports.field-0.0 small c.in_ok-n.ensures.passed c.in_ok-n.ensures.under c.in_err-ports.ensures.wrong in
    let p = err_from_is_err_and c.from_residual-in_err-ports.result c.from_residual-in_err-ports.ensures.1 in
    rw (p.1, p.2) known

pub returns-clause-passed : goal.returns-clause-passed
returns-clause-passed c =
    section_passed NetPort port_text c.in_ok-n.n (c.in_ok-ports.ports.items) c.args.cursor.now c.count.new.cursor c.port_lines.new.cursor c.in_ok-ports.ensures.ports.0 c.in_ok-n.ensures.passed c.in_ok-ports.ensures.passed
