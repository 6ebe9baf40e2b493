use Rattle.std.proofs.Common.{◌≡◌, ◌-◌, [], ℕ, suc, List, subst, sym, arith}
use Rattle.std.proofs.lemmas.Result.{err_from_is_err_and}
use Rattle.gos_witness.specs.declared.moves.Line.{Line}
use Rattle.gos_witness.specs.inner.Left.{Leads}
use Rattle.gos_witness.specs.inner.Parts.{LinesLeft}
use Rattle.gos_witness.proofs.LeftLemmas.{stands, leads_within}
use Rattle.gos_witness.proofs.MovesLemmas.{line_more, no_line, no_line_left}
use Rattle.gos_witness.proofs.move_line.lines.Goals as goal

pub loop-left-init : goal.loop-left-init
loop-left-init c =
    let old = c.args.cursor.now in
    let count : ℕ = c.args.count in
    subst (λ (lines : List Line). Leads (List Line) (LinesLeft count []) (LinesLeft count lines) old old) (sym c.new-lines.ensures.items) (stands (List Line) (LinesLeft count []) old c.requires)

pub line-requires : goal.line-requires
line-requires c = leads_within (List Line) (LinesLeft c.args.count []) (LinesLeft c.loop-left.left c.loop-left.lines.items) c.args.cursor.now c.loop-left.cursor c.loop-left.invariant

pub returns-in_err-line-clause-wrong : goal.returns-in_err-line-clause-wrong
returns-in_err-line-clause-wrong c =
    let left : ℕ = c.loop-left.left - 1 in
    let fewer : c.loop-left.left ≡ suc left = omega (arith, c.loop-left-test.true) in
    let known = no_line c.args.cursor.now c.loop-left.cursor c.args.count c.loop-left.left left c.loop-left.lines.items c.in_err-line.field-0.0 fewer c.loop-left.invariant c.in_err-line.ensures.wrong in
    let p = err_from_is_err_and c.from_residual.result c.from_residual.ensures.1 in
    rw (p.1, p.2) known

pub loop-left-preserved : goal.loop-left-preserved
loop-left-preserved c =
    let left : ℕ = c.loop-left.left - 1 in
    let fewer : c.loop-left.left ≡ suc left = omega (arith, c.loop-left-test.true) in
    let known = line_more c.args.cursor.now c.loop-left.cursor c.line.new.cursor c.args.count c.loop-left.left left c.loop-left.lines.items c.in_ok-line.field-0 fewer c.loop-left.invariant c.in_ok-line.ensures.is c.in_ok-line.ensures.passed in
    subst (λ (lines : List Line). Leads (List Line) (LinesLeft c.args.count []) (LinesLeft left lines) c.args.cursor.now c.line.new.cursor) (sym {A = List Line} c.in_ok-push.ensures.items) known

pub returns-clause-passed : goal.returns-clause-passed
returns-clause-passed c =
    no_line_left c.args.cursor.now c.loop-left.cursor c.args.count c.loop-left.left c.loop-left.lines.items (omega (arith, c.loop-left-test.false)) c.loop-left.invariant
