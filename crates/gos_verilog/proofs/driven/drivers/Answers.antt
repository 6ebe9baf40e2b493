use Rattle.std.proofs.Common.{◌≡◌, ◌+◌, ◌-◌, ◌++◌, ◌∷◌, ◌<◌, [], ℕ, zero, suc, List, false, take, drop, get_or, length, map, sym, ◌∙◌, ap, subst, arith, length-append, length-drop, drop-cons, add-one}
use Rattle.std.proofs.Math.ListN.{drop_of_length-le}
use Rattle.std.proofs.lemmas.List.{drop-drop}
use Rattle.std.specs.List.{AllByRecursion}
use Rattle.gos_lex.proofs.PlaceLemmas.{rest_whole}
use Rattle.gos_netlist.specs.declared.nets.Cell as seen
use Rattle.gos_netlist.specs.Writable.{IsWritableCell}
use Rattle.gos_verilog.specs.declared.declared.Shape.{Shape}
use Rattle.gos_verilog.specs.inner.Noted.{IsLineOf}
use Rattle.gos_verilog.proofs.ListLemmas.{cells_snoc}
use Rattle.gos_verilog.proofs.NotedLemmas.{DriversLeft, next_line, drivers_more, no_line_left}
use Rattle.gos_types.specs.Widths.{IsWidth}
use Rattle.gos_netlist.specs.Nets.{Function}
use Rattle.gos_netlist.specs.Seen.{function_of, cell_of}
use Rattle.gos_verilog.specs.inner.Breaks.{LeadsOn}
use Rattle.gos_verilog.specs.inner.Left.{LeftDrivers, driver_text}
use Rattle.gos_verilog.proofs.WordLemmas.{shift_passed}
use Rattle.gos_verilog.proofs.LeftDriverLemmas.{drivers_on, drivers_break}
use Rattle.gos_verilog.proofs.driven.drivers.Goals as goal

-- the shape at a place, and those behind it

cut : (shapes : List Shape) (i : ℕ) → i < length shapes → drop i shapes ≡ get_or shapes i (record { width = 0; register = false }) ∷ drop (i + 1) shapes
cut shapes i inside = drop-cons shapes i (record { width = 0; register = false }) inside ∙ ap (λ (n : ℕ). get_or shapes i (record { width = 0; register = false }) ∷ drop n shapes) (sym (add-one i))

-- each shape is of the format
shapes_wide : (shapes : List Shape) (i : ℕ) → i < length shapes → AllByRecursion (λ s. IsWidth s.width) shapes → IsWidth (get_or shapes i (record { width = 0; register = false })).width
shapes_wide [] i inside all = absurd (omega (arith, inside))
shapes_wide (s ∷ shapes) zero inside all = all.0
shapes_wide (s ∷ shapes) (suc i) inside all = shapes_wide shapes i (omega (arith, inside)) all.1

pub returns-in-Err-clause-wrong : goal.returns-in-Err-clause-wrong
returns-in-Err-clause-wrong c named =
    let text = c.args.text.now in
    let shapes = c.args.shapes.now in
    let nets = c.args.nets.now in
    let i = c.loop-i.i in
    let at = c.loop-i.at in
    let shape : Shape = get_or shapes i (record { width = 0; register = false }) in
    let rest : List ℕ = take (length text - at) (drop at text) in
    drivers_break nets shapes i shape text rest c.args.at at c.in-Err.place (cut shapes i c.loop-i-test.true) (c.loop-i.invariant.left named) (rest_whole text at) c.in-Err.ensures.wrong

pub returns-clause-left : goal.returns-clause-left
returns-clause-left c named =
    let end : drop c.loop-i.i c.args.shapes.now ≡ [] = drop_of_length-le c.args.shapes.now c.loop-i-test.false in
    let nets = c.args.nets.now in
    let text = c.args.text.now in
    subst (λ (L : List Shape). LeadsOn (LeftDrivers nets 0 c.args.shapes.now) (LeftDrivers nets c.loop-i.i L) (record { text = text; at = c.args.at }) (record { text = text; at = c.loop-i.at })) end
    (c.loop-i.invariant.left named)

pub returns-in-Err-clause-stands : goal.returns-in-Err-clause-stands
returns-in-Err-clause-stands c known all x is shaped has long driven =
    let text = c.args.text.now in
    let shapes = c.args.shapes.now in
    let i = c.loop-i.i in
    let at = c.loop-i.at in
    let cells = c.loop-i.cells.items in
    let shape : Shape = get_or shapes i (record { width = 0; register = false }) in
    let far = c.loop-i.invariant.far known all x is shaped has long driven in
    let next = next_line known all x text shapes c.args.nets.now c.args.inputs.now c.loop-i.inputs i at cells shape is has long driven.right c.loop-i.invariant.count (cut shapes i c.loop-i-test.true) far in
    let line = subst (λ (bytes : List ℕ). IsLineOf bytes i shape.width next.cell.gate next.source (next.rest ++ x)) (sym (rest_whole text at)) next.line in
    absurd (c.in-Err.ensures.stands next.cell.gate next.source (next.rest ++ x) (ap (λ (s : Shape). s.register) (sym next.is_shape)) line next.known_input)

pub loop-i-preserved : goal.loop-i-preserved
loop-i-preserved c =
    let text = c.args.text.now in
    let shapes = c.args.shapes.now in
    let i = c.loop-i.i in
    let at = c.loop-i.at in
    let cells = c.loop-i.cells.items in
    let shape : Shape = get_or shapes i (record { width = 0; register = false }) in
    let cell : seen.Cell = record { width = shape.width; gate = c.in-Ok.gate } in
    let longer = c.in_ok-push-in-Ok.ensures.items in
    let size : length (take (length text - at) (drop at text)) ≡ length text - at = ap length (rest_whole text at) ∙ length-drop at text in
    record {
      cells = subst (λ (list : List seen.Cell). AllByRecursion IsWritableCell (map cell_of list)) (sym longer) (cells_snoc cells cell c.loop-i.invariant.cells c.in-Ok.ensures.cell);
      count = ap length longer ∙ (length-append cells (cell ∷ []) ∙ ap (λ (n : ℕ). n + 1) c.loop-i.invariant.count);
      within = omega (arith, size, c.in-Ok.ensures.within, c.loop-i.invariant.within);
      left = λ named.
          let rest : List ℕ = take (length text - at) (drop at text) in
          let v : Function × List ℕ = (function_of c.in-Ok.gate, c.in-Ok.ensures.driven.0) in
          let wide = shapes_wide shapes i c.loop-i-test.true c.requires.widths in
          let passed = shift_passed text rest at c.in-Ok.len (driver_text i shape v) (rest_whole text at) (omega (arith, size, c.loop-i.invariant.within)) c.in-Ok.ensures.driven.2 in
          drivers_on c.args.nets.now shapes i shape (record { text = text; at = c.args.at }) (record { text = text; at = at }) (record { text = text; at = at + c.in-Ok.len }) v named wide (cut shapes i c.loop-i-test.true) c.in-Ok.ensures.driven.1
          (c.loop-i.invariant.left named) passed;
      far = λ known all x is shaped has long driven.
          let far = c.loop-i.invariant.far known all x is shaped has long driven in
          let next = next_line known all x text shapes c.args.nets.now c.args.inputs.now c.loop-i.inputs i at cells shape is has long driven.right c.loop-i.invariant.count (cut shapes i c.loop-i-test.true) far in
          let line = subst (λ (bytes : List ℕ). IsLineOf bytes i shape.width next.cell.gate next.source (next.rest ++ x)) (sym (rest_whole text at)) next.line in
          let told = c.in-Ok.ensures.stands next.cell.gate next.source (next.rest ++ x) (ap (λ (s : Shape). s.register) (sym next.is_shape)) line next.known_input in
          let width = ap (λ (s : Shape). s.width) next.is_shape in
          let rest : drop (at + c.in-Ok.len) text ≡ next.rest ++ x = sym (drop-drop c.in-Ok.len at text) ∙ (ap (drop c.in-Ok.len) (sym (rest_whole text at)) ∙ told.1) in
          subst (λ (list : List seen.Cell). DriversLeft known all x text shapes c.args.inputs.now c.driver.new.inputs (i + 1) (at + c.in-Ok.len) list) (sym longer)
          (drivers_more known all x text shapes c.args.nets.now c.args.inputs.now c.loop-i.inputs c.driver.new.inputs i at c.in-Ok.len cells shape cell has long driven.right far next
          (λ j. record { width = width j; gate = told.0 j }) rest told.2);
    }

pub returns-clause-stands : goal.returns-clause-stands
returns-clause-stands c known all x is shaped has long driven =
    let far = c.loop-i.invariant.far known all x is shaped has long driven in
    no_line_left known all x c.args.text.now c.args.shapes.now c.args.inputs.now c.loop-i.inputs c.loop-i.i c.loop-i.at c.loop-i.cells.items driven.right
    (drop_of_length-le c.args.shapes.now c.loop-i-test.false) c.loop-i.invariant.count far
