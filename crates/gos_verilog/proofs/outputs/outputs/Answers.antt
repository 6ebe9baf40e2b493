use Rattle.std.proofs.Common.{codes, ◌≡◌, ◌≤◌, drop, true, arith, ◌+◌, ◌++◌, ◌∷◌, [], ℕ, List, false, length, sym, ◌∙◌, ap, subst, length-append}
use Rattle.std.specs.List.{flat_map}
use Rattle.std.proofs.lemmas.Result.{err_from_is_err_and}
use Rattle.gos_lex.specs.Items.{TextAt, IsJust}
use Rattle.gos_verilog.specs.PortNets.{PortNet}
use Rattle.gos_verilog.specs.Lines.{assignment, cell_net, output_assignment}
use Rattle.gos_verilog.specs.inner.Stages.{Rest, BreaksAt}
use Rattle.gos_verilog.proofs.ListLemmas.{drop_at}
use Rattle.std.proofs.Math.ListN.{drop_of_length-le}
use Rattle.gos_lex.specs.ItemTexts.{Passed}
use Rattle.gos_lex.proofs.PassedLemmas.{passed_within}
use Rattle.gos_verilog.specs.inner.Breaks.{LeadsOn}
use Rattle.gos_verilog.specs.inner.Left.{LeftOutputs}
use Rattle.gos_verilog.proofs.BreakLemmas.{on_nothing, on_rest}
use Rattle.gos_verilog.proofs.PlaceLemmas.{start_at}
use Rattle.gos_verilog.proofs.LeftOutputLemmas.{IsOutput, outputs_on, outputs_over, outputs_break, end_breaks, end_leads, more_breaks}
use Rattle.gos_verilog.proofs.OutputLemmas.{OutputsSoFar, no_outputs_yet, last_line, OutputsLeft, NextOutput, next_output, outputs_more}
use Rattle.gos_verilog.proofs.outputs.outputs.Goals as goal
use Rattle.gos_verilog.proofs.outputs.outputs.Goals.{then-net, else-net+in_ok-cell}

-- the assignment of the next output, under the name that the code has
named : (known nets : List PortNet) (noted : List ℕ) (now : TextAt) (k : ℕ) (found : List PortNet) (seen : PortNet) (name : List ℕ) (next : NextOutput known nets noted now k found seen) → name ≡ seen.name → seen.input ≡ false
    → Rest now (assignment name (cell_net next.net.cell) ++ (flat_map output_assignment next.left ++ last_line))
named known nets noted now k found seen name next is output =
    let same : name ≡ next.net.name = is ∙ ap (λ (n : PortNet). n.name) next.is in
    next.output (ap (λ (n : PortNet). n.input) (sym next.is) ∙ output) ∙ ap (λ (b : List ℕ). assignment b (cell_net next.net.cell) ++ (flat_map output_assignment next.left ++ last_line)) (sym same)

abbrev start : List ℕ → TextAt
start rest = record { text = rest; at = 0 }

pub loop-k-init : goal.loop-k-init
loop-k-init c =
    let cursor = c.new-cursor.result in
    let here : cursor ≡ start c.args.rest.now = start_at cursor c.args.rest.now c.new-cursor.ensures.text c.new-cursor.ensures.at in
    let within : cursor.at ≤ length cursor.text = omega (arith, c.new-cursor.ensures.at) in
    let nets = c.args.nets.now in
    record {
      within = within;
      left = subst (λ (t : TextAt). LeadsOn (LeftOutputs nets) (LeftOutputs nets) t cursor) here (on_nothing (LeftOutputs nets) cursor within);
      count = ap length c.new-known.ensures.items;
      far =
          subst (λ (found : List PortNet). OutputsSoFar c.args.rest.now nets c.args.inputs.now.cells.items cursor 0 found) (sym c.new-known.ensures.items)
          (no_outputs_yet c.args.rest.now nets c.args.inputs.now.cells.items cursor c.new-cursor.ensures.text c.new-cursor.ensures.at);
    }

pub returns-in_err-cell-clause-stands : goal.returns-in_err-cell-clause-stands
returns-in_err-cell-clause-stands c known is numbers are rest =
    let nets = c.args.nets.now in
    let noted = c.args.inputs.now.cells.items in
    let k = c.loop-k.k in
    let found = c.loop-k.known.items in
    let seen = c.index-nets-k.result in
    let now : TextAt = c.loop-k.cursor in
    let next = next_output known nets noted now k found seen are c.loop-k.invariant.count (drop_at PortNet nets k seen c.loop-k-test.true c.index-nets-k.is) (c.loop-k.invariant.far known is numbers are rest) in
    let name : c.deref.result.now ≡ seen.name = c.deref.ensures.value ∙ ap (λ (n : PortNet). n.name) c.net.view_is in
    let output : seen.input ≡ false = ap (λ (n : PortNet). n.input) (sym c.net.view_is) ∙ c.if-net.false in
    let p = err_from_is_err_and c.from_residual.result c.from_residual.ensures.1 in
    rw (p.1, p.2) (c.in_err-cell.ensures.stands next.net.cell (flat_map output_assignment next.left ++ last_line) next.number (named known nets noted now k found seen c.deref.result.now next name output))

pub loop-k-preserved : goal.loop-k-preserved
loop-k-preserved c =
    let longer = c.in_ok-push.ensures.items in
    let found = c.loop-k.known.items in
    let net = c.in_ok-with_cell.field-0 in
    let left : LeadsOn (LeftOutputs c.args.nets.now) (LeftOutputs (drop (c.loop-k.k + 1) c.args.nets.now)) (start c.args.rest.now) c.if-net.cursor = elim c.if-net.branch [
      | then-net w ↦
          let seen = c.index-nets-k.result in
          let input : seen.input ≡ true = ap (λ (n : PortNet). n.input) (sym c.net.view_is) ∙ w.if-net.true in
          let far = outputs_over c.args.nets.now c.loop-k.k seen (start c.args.rest.now) c.loop-k.cursor (drop_at PortNet c.args.nets.now c.loop-k.k seen c.loop-k-test.true c.index-nets-k.is) input c.loop-k.invariant.left in
          subst (λ (t : TextAt). LeadsOn (LeftOutputs c.args.nets.now) (LeftOutputs (drop (c.loop-k.k + 1) c.args.nets.now)) (start c.args.rest.now) t) (sym w.cursor-is) far
      | else-net+in_ok-cell w ↦
          let seen = c.index-nets-k.result in
          let name : w.deref.result.now ≡ seen.name = w.deref.ensures.value ∙ ap (λ (n : PortNet). n.name) c.net.view_is in
          let output : seen.input ≡ false = ap (λ (n : PortNet). n.input) (sym c.net.view_is) ∙ w.if-net.false in
          let n : ℕ = w.in_ok-cell.cell.0 in
          let passed = subst (λ (bytes : List ℕ). Passed c.loop-k.cursor w.output.new.cursor (assignment bytes (cell_net n))) name w.in_ok-cell.ensures.passed in
          let far = outputs_on c.args.nets.now c.loop-k.k seen (start c.args.rest.now) c.loop-k.cursor w.output.new.cursor n (drop_at PortNet c.args.nets.now c.loop-k.k seen c.loop-k-test.true c.index-nets-k.is) output w.in_ok-cell.ensures.number c.loop-k.invariant.left passed in
          subst (λ (t : TextAt). LeadsOn (LeftOutputs c.args.nets.now) (LeftOutputs (drop (c.loop-k.k + 1) c.args.nets.now)) (start c.args.rest.now) t) (sym w.cursor-is) far
    ] in
    record {
      within = passed_within (start c.args.rest.now) c.if-net.cursor left.word left.passed;
      left = left;
      count = ap length longer ∙ (length-append found (net ∷ []) ∙ ap (λ (n : ℕ). n + 1) c.loop-k.invariant.count);
      far = λ known is numbers are rest.
          let nets = c.args.nets.now in
          let noted = c.args.inputs.now.cells.items in
          let k = c.loop-k.k in
          let seen = c.index-nets-k.result in
          let now : TextAt = c.loop-k.cursor in
          let new : TextAt = c.if-net.cursor in
          let next = next_output known nets noted now k found seen are c.loop-k.invariant.count (drop_at PortNet nets k seen c.loop-k-test.true c.index-nets-k.is) (c.loop-k.invariant.far known is numbers are rest) in
          let Left : TextAt → Type 0 = λ cursor. Rest cursor (flat_map output_assignment next.left ++ last_line) in
          let both : (c.if-net.cell.0 ≡ next.net.cell) × Left new = elim c.if-net.branch [
            | then-net w ↦
                let input = ap (λ (n : PortNet). n.input) (sym next.is ∙ sym c.net.view_is) ∙ w.if-net.true in
                (ap (λ d. d.0) w.cell-is ∙ (w.cell-cell.ensures ∙ next.read input), subst Left (sym w.cursor-is) (next.input input))
            | else-net+in_ok-cell w ↦
                let name : w.deref.result.now ≡ seen.name = w.deref.ensures.value ∙ ap (λ (n : PortNet). n.name) c.net.view_is in
                let output : seen.input ≡ false = ap (λ (n : PortNet). n.input) (sym c.net.view_is) ∙ w.if-net.false in
                let told = w.in_ok-cell.ensures.stands next.net.cell (flat_map output_assignment next.left ++ last_line) next.number (named known nets noted now k found seen w.deref.result.now next name output) in
                (ap (λ d. d.0) w.cell-is ∙ told.0, subst Left (sym w.cursor-is) told.1)
          ] in
          subst (λ (list : List PortNet). OutputsLeft known nets new (k + 1) list) (sym longer)
          (outputs_more known nets noted now new k found seen net c.if-net.cell.0 next c.in_ok-with_cell.ensures both.0 both.1);
    }

pub returns-in_err-cell-clause-wrong : goal.returns-in_err-cell-clause-wrong
returns-in_err-cell-clause-wrong c =
    let nets = c.args.nets.now in
    let k = c.loop-k.k in
    let seen = c.index-nets-k.result in
    let name : c.deref.result.now ≡ seen.name = c.deref.ensures.value ∙ ap (λ (n : PortNet). n.name) c.net.view_is in
    let output : seen.input ≡ false = ap (λ (n : PortNet). n.input) (sym c.net.view_is) ∙ c.if-net.false in
    let wrong = subst (λ (bytes : List ℕ). BreaksAt (IsOutput bytes) c.loop-k.cursor c.in_err-cell.field-0.0) name c.in_err-cell.ensures.wrong in
    let p = err_from_is_err_and c.from_residual.result c.from_residual.ensures.1 in
    rw (p.1, p.2)
    (outputs_break nets k seen (start c.args.rest.now) c.loop-k.cursor c.in_err-cell.field-0.0 (drop_at PortNet nets k seen c.loop-k-test.true c.index-nets-k.is) output c.loop-k.invariant.left wrong)

pub returns-in_err-word-clause-wrong : goal.returns-in_err-word-clause-wrong
returns-in_err-word-clause-wrong c =
    let nets = c.args.nets.now in
    let p = err_from_is_err_and c.from_residual-in_err-word.result c.from_residual-in_err-word.ensures.1 in
    rw (p.1, p.2)
    (end_breaks nets c.loop-k.k (start c.args.rest.now) c.loop-k.cursor c.in_err-word.field-0.0 (drop_of_length-le nets c.loop-k-test.false) c.loop-k.invariant.left c.in_err-word.ensures.wrong)

-- all is passed
passed_all : (nets : List PortNet) (k : ℕ) (rest : List ℕ) (now new : TextAt) → length nets ≤ k → LeadsOn (LeftOutputs nets) (LeftOutputs (drop k nets)) (start rest) now → Passed now new (codes "endmodule\n")
    → LeadsOn (LeftOutputs nets) (IsJust []) (start rest) new
passed_all nets k rest now new all far passed = end_leads nets k (start rest) now new (drop_of_length-le nets all) far passed

pub returns-then-finished-clause-left : goal.returns-then-finished-clause-left
returns-then-finished-clause-left c =
    let nets = c.args.nets.now in
    let new = c.word.new.cursor in
    let end : new.at ≡ length new.text = c.finished.ensures.0 c.if-finished.true in
    on_rest (LeftOutputs nets) (IsJust []) (start c.args.rest.now) new
    (passed_all nets c.loop-k.k c.args.rest.now c.loop-k.cursor new c.loop-k-test.false c.loop-k.invariant.left c.in_ok-word.ensures.passed)
    (drop_of_length-le new.text (omega (arith, end)))

pub returns-else-finished-clause-wrong : goal.returns-else-finished-clause-wrong
returns-else-finished-clause-wrong c =
    let nets = c.args.nets.now in
    let new = c.word.new.cursor in
    more_breaks nets (start c.args.rest.now) new c.at.result
    (passed_all nets c.loop-k.k c.args.rest.now c.loop-k.cursor new c.loop-k-test.false c.loop-k.invariant.left c.in_ok-word.ensures.passed) c.at.ensures.within
    (λ end. let both : false ≡ true = sym c.if-finished.false ∙ c.finished.ensures.1 end in cc both) c.at.ensures.at
