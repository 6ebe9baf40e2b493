use Rattle.std.proofs.Common.{◌≡◌, ◌++◌, List, ℕ, length, map, drop, sym, ◌∙◌, ap, subst}
use Rattle.std.specs.List.{AllByRecursion}
use Rattle.std.proofs.lemmas.Result.{err_from_is_err_and}
use Rattle.gos_netlist.specs.Nets.{Netlist}
use Rattle.gos_verilog.specs.declared.declared.Shape.{Shape}
use Rattle.gos_verilog.specs.declared.fault.VFault.{VFault}
use Rattle.gos_verilog.specs.PortNets.{PortNet}
use Rattle.gos_verilog.specs.Lines.{cell_declarations}
use Rattle.gos_verilog.specs.inner.Stages.{declared_net, shape_of}
use Rattle.gos_verilog.specs.inner.Parts.{Parts}
use Rattle.gos_verilog.specs.inner.Breaks.{BreaksFrom, FaultFrom, PassedIn}
use Rattle.gos_verilog.specs.inner.Left.{HaveNetNames, IsShape, LeftDrivers, NoShape, shapes_text}
use Rattle.gos_verilog.proofs.WholeLemmas.{parts_of}
use Rattle.gos_verilog.proofs.FrontLemmas.{not_want, fault_want, fault_place, end_place, behind_place, behind_formed}
use Rattle.gos_verilog.proofs.LeftCellLemmas.{cells_found}
use Rattle.gos_verilog.proofs.PlaceLemmas.{read_is_formed}
use Rattle.gos_verilog.proofs.reading.parsed.Goals as goal

-- the cells whose declarations stand are found
two_of : (text : List ℕ) (net : Netlist) (parts : Parts net) (at end stopped : ℕ) (shapes : List Shape) → drop at text ≡ cell_declarations 0 parts.cells ++ (parts.drivers ++ parts.back) → AllByRecursion IsShape shapes
    → PassedIn text at end (shapes_text 0 shapes) → NoShape (length shapes) text end stopped → (shapes ≡ map shape_of parts.cells) × (drop end text ≡ parts.drivers ++ parts.back)
two_of text net parts at end stopped shapes left wide passed ends = cells_found text at end stopped shapes parts.cells (parts.drivers ++ parts.back) wide passed ends parts.cell_wide parts.few parts.body left

pub returns-in_err-declared-clause-stands : goal.returns-in_err-declared-clause-stands
returns-in_err-declared-clause-stands c net read =
    let text = c.args.text.now in
    let p = err_from_is_err_and c.from_residual.result c.from_residual.ensures.1 in
    rw (p.1, p.2) (fault_want text c.in_err-declared.field-0.0 (read_is_formed text net read) c.in_err-declared.ensures.head)

pub returns-in_err-shapes-clause-stands : goal.returns-in_err-shapes-clause-stands
returns-in_err-shapes-clause-stands c net read =
    let p = err_from_is_err_and c.from_residual-in_err-shapes.result c.from_residual-in_err-shapes.ensures.1 in
    rw (p.1, p.2) c.in_err-shapes.ensures.only

pub returns-in-Err-Form-clause-stands : goal.returns-in-Err-Form-clause-stands
returns-in-Err-Form-clause-stands c net read =
    let text = c.args.text.now in
    let known = parts_of net text read in
    let parts : Parts net = known.0 in
    let one = c.in_ok-declared.ensures.found net.ports (cell_declarations 0 parts.cells ++ (parts.drivers ++ parts.back)) known.1 known.2 in
    let declared = one.0 ∙ ap (map declared_net) (sym parts.nets_are) in
    let shapes = c.in_ok-shapes.ensures in
    let two = two_of text net parts c.in_ok-declared.at c.in_ok-shapes.end c.in_ok-shapes.stopped c.in_ok-shapes.shapes.items one.1 shapes.widths shapes.passed shapes.ends in
    not_want c.in-Err-Form.field-0 c.in-Err-Form.place c.in-Err-Form.field-0-is (c.in-Err-Form.ensures.stands net parts (c.deref-2.ensures.value ∙ declared) (c.deref.ensures.value ∙ two.0) two.1)

pub returns-in-Some-clause-stands : goal.returns-in-Some-clause-stands
returns-in-Some-clause-stands c net read =
    let text = c.args.text.now in
    let known = parts_of net text read in
    let parts : Parts net = known.0 in
    let one = c.in_ok-declared.ensures.found net.ports (cell_declarations 0 parts.cells ++ (parts.drivers ++ parts.back)) known.1 known.2 in
    let declared = one.0 ∙ ap (map declared_net) (sym parts.nets_are) in
    let shapes = c.in_ok-shapes.ensures in
    let two = two_of text net parts c.in_ok-declared.at c.in_ok-shapes.end c.in_ok-shapes.stopped c.in_ok-shapes.shapes.items one.1 shapes.widths shapes.passed shapes.ends in
    let three = c.in-Ok.ensures.stands net parts (c.deref-2.ensures.value ∙ declared) (c.deref.ensures.value ∙ two.0) two.1 in
    let found = c.in_ok-ports.ensures.stands net.ports parts.ports (c.deref-3.ensures.value ∙ (three.1 ∙ parts.nets_are)) in
    let ports = rw c.in-Some.is at found in
    (λ i. record { cells = (three.0 ∙ parts.cells_are) i; ports = ports i })

pub returns-clause-stands : goal.returns-clause-stands
returns-clause-stands c net read =
    let text = c.args.text.now in
    let known = parts_of net text read in
    let parts : Parts net = known.0 in
    let one = c.in_ok-declared.ensures.found net.ports (cell_declarations 0 parts.cells ++ (parts.drivers ++ parts.back)) known.1 known.2 in
    let declared = one.0 ∙ ap (map declared_net) (sym parts.nets_are) in
    let shapes = c.in_ok-shapes.ensures in
    let two = two_of text net parts c.in_ok-declared.at c.in_ok-shapes.end c.in_ok-shapes.stopped c.in_ok-shapes.shapes.items one.1 shapes.widths shapes.passed shapes.ends in
    let three = c.in-Ok.ensures.stands net parts (c.deref-2.ensures.value ∙ declared) (c.deref.ensures.value ∙ two.0) two.1 in
    let found = c.in_ok-ports.ensures.stands net.ports parts.ports (c.deref-3.ensures.value ∙ (three.1 ∙ parts.nets_are)) in
    absurd (rw c.in-None.is at found)

pub returns-in_err-declared-clause-place : goal.returns-in_err-declared-clause-place
returns-in_err-declared-clause-place c =
    let p = err_from_is_err_and c.from_residual.result c.from_residual.ensures.1 in
    rw (p.1, p.2) (fault_place c.args.text.now c.in_err-declared.field-0.0 c.in_err-declared.ensures.head)

pub returns-in-Err-Form-clause-place : goal.returns-in-Err-Form-clause-place
returns-in-Err-Form-clause-place c =
    let text = c.args.text.now in
    let nets = c.in_ok-declared.declared.items in
    let shapes = c.in_ok-shapes.shapes.items in
    let place = c.in-Err-Form.place in
    let end = c.in_ok-shapes.end in
    let known = c.in_ok-declared.ensures.head in
    let declared : c.deref-2.result.now ≡ nets = c.deref-2.ensures.value in
    let named = subst HaveNetNames (sym declared) known.1 in
    let wrong = subst (λ (f : VFault). FaultFrom (LeftDrivers c.deref-2.result.now 0 c.deref.result.now) (record { text = text; at = end }) f) c.in-Err-Form.field-0-is (c.in-Err-Form.ensures.wrong named) in
    let breaks = subst (λ (list : List Shape). BreaksFrom (LeftDrivers c.deref-2.result.now 0 list) (record { text = text; at = end }) place) c.deref.ensures.value wrong in
    let ensured = c.in_ok-shapes.ensures in
    behind_place text nets c.in_ok-declared.at end c.in_ok-shapes.stopped shapes place c.further.result
    (record { lead = known.0; wide = ensured.widths; few = ensured.few; passed = ensured.passed; ends = ensured.ends })
    (subst (λ (list : List PortNet). BreaksFrom (LeftDrivers list 0 shapes) (record { text = text; at = end }) place) declared breaks)
    c.further.ensures.at_least.0 (rw c.in-Err-Form.field-0-is at c.further.ensures.at_least.1) (rw c.in-Err-Form.field-0-is at c.further.ensures.one)

pub returns-in-Some-clause-formed : goal.returns-in-Some-clause-formed
returns-in-Some-clause-formed c =
    let text = c.args.text.now in
    let nets = c.in_ok-declared.declared.items in
    let shapes = c.in_ok-shapes.shapes.items in
    let end = c.in_ok-shapes.end in
    let known = c.in_ok-declared.ensures.head in
    let declared : c.deref-2.result.now ≡ nets = c.deref-2.ensures.value in
    let drivers = subst (λ (list : List Shape). LeftDrivers c.deref-2.result.now 0 list (drop end text)) c.deref.ensures.value (c.in-Ok.ensures.left (subst HaveNetNames (sym declared) known.1)) in
    let ensured = c.in_ok-shapes.ensures in
    behind_formed text nets c.in_ok-declared.at end c.in_ok-shapes.stopped shapes
    (record { lead = known.0; wide = ensured.widths; few = ensured.few; passed = ensured.passed; ends = ensured.ends })
    (subst (λ (list : List PortNet). LeftDrivers list 0 shapes (drop end text)) declared drivers)

pub returns-clause-place : goal.returns-clause-place
returns-clause-place c =
    let text = c.args.text.now in
    let nets = c.in_ok-declared.declared.items in
    let shapes = c.in_ok-shapes.shapes.items in
    let end = c.in_ok-shapes.end in
    let known = c.in_ok-declared.ensures.head in
    let declared : c.deref-2.result.now ≡ nets = c.deref-2.ensures.value in
    let drivers = subst (λ (list : List Shape). LeftDrivers c.deref-2.result.now 0 list (drop end text)) c.deref.ensures.value (c.in-Ok.ensures.left (subst HaveNetNames (sym declared) known.1)) in
    let ensured = c.in_ok-shapes.ensures in
    end_place text
    (behind_formed text nets c.in_ok-declared.at end c.in_ok-shapes.stopped shapes
    (record { lead = known.0; wide = ensured.widths; few = ensured.few; passed = ensured.passed; ends = ensured.ends })
    (subst (λ (list : List PortNet). LeftDrivers list 0 shapes (drop end text)) declared drivers))
