use Rattle.std.proofs.Common.{◌≡◌, ◌+◌, ◌-◌, take, subst, ◌++◌, List, ℕ, drop, length, map, ◌∙◌, ap}
use Rattle.std.proofs.lemmas.List.{length-map}
use Rattle.std.proofs.lemmas.Result.{err_from_is_err_and}
use Rattle.gos_lex.proofs.PlaceLemmas.{rest_whole}
use Rattle.gos_netlist.specs.Nets.{Netlist}
use Rattle.gos_verilog.specs.PortNets.{PortNet}
use Rattle.gos_verilog.specs.inner.Stages.{declared_net}
use Rattle.gos_verilog.specs.inner.Noted.{AreDriven}
use Rattle.gos_verilog.specs.inner.Parts.{Parts}
use Rattle.gos_verilog.proofs.WholeLemmas.{places_known}
use Rattle.gos_verilog.specs.inner.Left.{LeftDrivers, LeftOutputs}
use Rattle.gos_verilog.proofs.BreakLemmas.{on_breaks, on_rest}
use Rattle.gos_verilog.proofs.WordLemmas.{shift_breaks}
use Rattle.gos_verilog.specs.declared.fault.VFault.{VFault}
use Rattle.gos_verilog.specs.inner.Breaks.{FaultFrom}
use Rattle.gos_verilog.proofs.FrontLemmas.{not_want}
use Rattle.gos_verilog.proofs.reading.body.Goals as goal

driven_by : (net : Netlist) (parts : Parts net) (rest : List ℕ) → rest ≡ parts.drivers ++ parts.back → AreDriven rest parts.nets parts.cells parts.back
driven_by net parts rest is = record { right = parts.right; lines = parts.drivers; are = parts.are; is = is }

as_many : (nets declared : List PortNet) (n : ℕ) → declared ≡ map declared_net nets → n ≡ length declared → n ≡ length nets
as_many nets declared n is long = long ∙ (ap length is ∙ length-map nets declared_net)

pub returns-in_err-cells-clause-stands : goal.returns-in_err-cells-clause-stands
returns-in_err-cells-clause-stands c net parts is shaped left =
    let declared = c.args.declared.now in
    let inputs = c.in_ok-inputs.inputs in
    let has = places_known parts.nets declared inputs.places is parts.right.own c.in_ok-inputs.ensures.places in
    let p = err_from_is_err_and c.from_residual-in_err-cells.result c.from_residual-in_err-cells.ensures.1 in
    rw (p.1, p.2)
    (c.in_err-cells.ensures.stands parts.nets parts.cells parts.back is shaped has (as_many parts.nets declared (length inputs.cells.items) is c.in_ok-inputs.ensures.count)
    (driven_by net parts (drop c.args.at c.args.text.now) left))

pub returns-in-Ok-clause-stands : goal.returns-in-Ok-clause-stands
returns-in-Ok-clause-stands c net parts is shaped left =
    let declared = c.args.declared.now in
    let text = c.args.text.now in
    let inputs = c.in_ok-inputs.inputs in
    let has = places_known parts.nets declared inputs.places is parts.right.own c.in_ok-inputs.ensures.places in
    let told = c.in_ok-cells.ensures.stands parts.nets parts.cells parts.back is shaped has (as_many parts.nets declared (length inputs.cells.items) is c.in_ok-inputs.ensures.count)
    (driven_by net parts (drop c.args.at text) left) in
    (told.0, c.in-Ok.ensures.stands parts.nets is parts.numbers told.2 (rest_whole text c.in_ok-cells.end ∙ (told.1 ∙ parts.back_is)))

pub returns-in-Err-Form-clause-stands : goal.returns-in-Err-Form-clause-stands
returns-in-Err-Form-clause-stands c net parts is shaped left =
    let declared = c.args.declared.now in
    let text = c.args.text.now in
    let inputs = c.in_ok-inputs.inputs in
    let has = places_known parts.nets declared inputs.places is parts.right.own c.in_ok-inputs.ensures.places in
    let told = c.in_ok-cells.ensures.stands parts.nets parts.cells parts.back is shaped has (as_many parts.nets declared (length inputs.cells.items) is c.in_ok-inputs.ensures.count)
    (driven_by net parts (drop c.args.at text) left) in
    not_want c.in-Err-Form.field-0 c.in-Err-Form.place c.in-Err-Form.field-0-is (c.in-Err-Form.ensures.stands parts.nets is parts.numbers told.2 (rest_whole text c.in_ok-cells.end ∙ (told.1 ∙ parts.back_is)))

pub returns-in-Ok-clause-left : goal.returns-in-Ok-clause-left
returns-in-Ok-clause-left c named =
    let text = c.args.text.now in
    let nets = c.args.declared.now in
    let shapes = c.args.shapes.now in
    let end = c.in_ok-cells.end in
    on_rest (LeftDrivers nets 0 shapes) (LeftOutputs nets) (record { text = text; at = c.args.at }) (record { text = text; at = end }) (c.in_ok-cells.ensures.left named)
    (subst (LeftOutputs nets) (rest_whole text end) c.in-Ok.ensures.left)

pub returns-in-Err-Form-clause-wrong : goal.returns-in-Err-Form-clause-wrong
returns-in-Err-Form-clause-wrong c named =
    let text = c.args.text.now in
    let nets = c.args.declared.now in
    let shapes = c.args.shapes.now in
    let end = c.in_ok-cells.end in
    let place = c.in-Err-Form.place in
    let rest : List ℕ = take (length text - end) (drop end text) in
    let wrong = subst (λ (f : VFault). FaultFrom (LeftOutputs nets) (record { text = rest; at = 0 }) f) c.in-Err-Form.field-0-is c.in-Err-Form.ensures.wrong in
    on_breaks (LeftDrivers nets 0 shapes) (LeftOutputs nets) (record { text = text; at = c.args.at }) (record { text = text; at = end }) (end + place) (c.in_ok-cells.ensures.left named)
    (shift_breaks (LeftOutputs nets) text (take (length text - end) (drop end text)) end place (rest_whole text end) wrong)
