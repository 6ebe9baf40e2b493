use Rattle.std.proofs.Common.{List, map, ap, subst, refl, ◌∙◌}
use Rattle.gos_netlist.specs.Nets.{Cell, NetPort, Netlist}
use Rattle.gos_netlist.specs.Seen.{cell_of, number_of}
use Rattle.gos_netcheck.specs.CellRules.{NetsExist, WidthsFit}
use Rattle.gos_netcheck.specs.PortRules.{PortsFit, IsFirstWrongPort}
use Rattle.gos_netcheck.proofs.AcceptLemmas.{ok_then, err_then, accepted, faulty, wrong_cell}
use Rattle.gos_netcheck.proofs.checked.judged.Goals as goal

pub returns-in-Some-clause-fault : goal.returns-in-Some-clause-fault
returns-in-Some-clause-fault c =
    let seen = ap (λ (n : Netlist). n.cells) c.net.view_is in
    wrong_cell c.args.net.now (map cell_of c.deref.result.now) (ap (map cell_of) c.deref.ensures.value ∙ seen) c.in-Some.fault c.in-Some.ensures.fault

pub returns-in-Some-2-clause-fault : goal.returns-in-Some-2-clause-fault
returns-in-Some-2-clause-fault c =
    let seen = ap (λ (n : Netlist). n.cells) c.net.view_is in
    let ports = c.deref-3.ensures.value ∙ ap (λ (n : Netlist). n.ports) c.net.view_is in
    let wrong = rw c.in-Some-2.is at c.in_ok-index.ensures in
    let P : List Cell → Type 0 = λ cells. IsFirstWrongPort cells c.deref-3.result.now c.in-Some-2.index in
    let Q : List NetPort → Type 0 = λ ps. IsFirstWrongPort c.args.net.now.cells ps c.in-Some-2.index in (
      subst NetsExist (ap (map cell_of) c.deref.ensures.value ∙ seen) (c.in_default.ensures.nets refl),
      subst WidthsFit (ap (map cell_of) c.deref.ensures.value ∙ seen) (c.in_default.ensures.widths refl),
      subst Q ports (subst P (ap (map cell_of) c.deref-2.ensures.value ∙ seen) wrong),
    )

pub returns-clause-accepted : goal.returns-clause-accepted
returns-clause-accepted c =
    let seen = ap (λ (n : Netlist). n.cells) c.net.view_is in
    let ports = c.deref-3.ensures.value ∙ ap (λ (n : Netlist). n.ports) c.net.view_is in
    let right = rw c.in_default-2.is at c.in_ok-index.ensures in
    let P : List Cell → Type 0 = λ cells. PortsFit cells c.deref-3.result.now in
    let Q : List NetPort → Type 0 = λ ps. PortsFit c.args.net.now.cells ps in
    let nets = subst NetsExist (ap (map cell_of) c.deref.ensures.value ∙ seen) (c.in_default.ensures.nets refl) in
    let widths = subst WidthsFit (ap (map cell_of) c.deref.ensures.value ∙ seen) (c.in_default.ensures.widths refl) in
    let fit = subst Q ports (subst P (ap (map cell_of) c.deref-2.ensures.value ∙ seen) right) in
    ok_then c.schedule.result c.schedule.ensures.order
    (λ order scheduled. accepted c.args.net.now (map cell_of c.deref-4.result.now) (map number_of order.items) (ap (map cell_of) c.deref-4.ensures.value ∙ seen) nets widths fit scheduled)

pub returns-clause-fault : goal.returns-clause-fault
returns-clause-fault c =
    let seen = ap (λ (n : Netlist). n.cells) c.net.view_is in
    let ports = c.deref-3.ensures.value ∙ ap (λ (n : Netlist). n.ports) c.net.view_is in
    let right = rw c.in_default-2.is at c.in_ok-index.ensures in
    let P : List Cell → Type 0 = λ cells. PortsFit cells c.deref-3.result.now in
    let Q : List NetPort → Type 0 = λ ps. PortsFit c.args.net.now.cells ps in
    let nets = subst NetsExist (ap (map cell_of) c.deref.ensures.value ∙ seen) (c.in_default.ensures.nets refl) in
    let widths = subst WidthsFit (ap (map cell_of) c.deref.ensures.value ∙ seen) (c.in_default.ensures.widths refl) in
    let fit = subst Q ports (subst P (ap (map cell_of) c.deref-2.ensures.value ∙ seen) right) in
    err_then c.schedule.result c.schedule.ensures.cycle
    (λ fault cycle. faulty c.args.net.now (map cell_of c.deref-4.result.now) (ap (map cell_of) c.deref-4.ensures.value ∙ seen) nets widths fit fault cycle)
