use Rattle.std.proofs.Common.{◌<◌, ◌≤◌, List, length, sym, subst, arith}
use Rattle.gos_witness.specs.declared.moves.Line.{Line}
use Rattle.gos_witness.specs.inner.Finds.{IsFound}
use Rattle.std.proofs.lemmas.Result.{err_from_is_err_and}
use Rattle.gos_witness.proofs.FoundLemmas.{found_none, found_one, found_all, found_fault}
use Rattle.gos_witness.proofs.finding.find.Goals as goal

pub loop-preserved : goal.loop-preserved
loop-preserved c =
    let p = c.args.program.now in
    let labels = c.args.labels.now in
    let g = c.loop.search.stage in
    let h = c.advance.new.self.stage in
    let n = c.loop.search.steps in
    let k = c.advance.new.self.steps in
    let some : g.matched < length labels = grind (arith, c.if-search-labels.false) in (
      subst (λ (lines : List Line). IsFound p labels lines h k) (sym c.in_ok-push.ensures.items)
          (found_one p labels c.loop.lines.items c.in_ok-line.line g h n k c.requires.typed c.loop.invariant.0 some c.in_ok-line.ensures.advanced
          c.in_ok-line.ensures.steps),
      c.in_ok-line.ensures.masks,
    )

pub returns-in_err-line-clause-fault : goal.returns-in_err-line-clause-fault
returns-in_err-line-clause-fault c =
    let p = c.args.program.now in
    let labels = c.args.labels.now in
    let g = c.loop.search.stage in
    let some : g.matched < length labels = grind (arith, c.if-search-labels.false) in
    let known = found_fault p labels c.loop.lines.items g c.loop.search.steps c.in_err-line.field-0.0 c.loop.invariant.0 some c.in_err-line.ensures.halt in
    let e = err_from_is_err_and c.from_residual-in_err-line.result c.from_residual-in_err-line.ensures.1 in
    rw (e.1, e.2) known

pub loop-init : goal.loop-init
loop-init c =
    let p = c.args.program.now in
    let labels = c.args.labels.now in
    let begun = c.in_ok-search.search in
    let known = c.in_ok-search.ensures in (
      subst (λ (lines : List Line). IsFound p labels lines begun.stage begun.steps) (sym c.new-lines.ensures.items)
          (found_none p labels begun.stage begun.steps (known.stage labels) (known.stand labels) known.steps),
      known.masks begun.stage.list,
    )

pub returns-then-search-labels-clause-explained : goal.returns-then-search-labels-clause-explained
returns-then-search-labels-clause-explained c =
    let labels = c.args.labels.now in
    let g = c.loop.search.stage in
    let none : length labels ≤ g.matched = grind (arith, c.if-search-labels.true) in
    found_all c.args.program.now labels c.loop.lines.items g c.loop.search.steps c.loop.invariant.0 none
