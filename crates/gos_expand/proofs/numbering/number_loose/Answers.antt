use Rattle.std.proofs.Common.{◌+◌, ℕ, List, map, take, get_or, ap, subst, ◌∙◌, arith}
use Rattle.std.proofs.lemmas.Option.{slice_get-get_or}
use Rattle.gos_plan.specs.declared.plan.End as declared
use Rattle.gos_plan.specs.declared.plan.End.TheVariants as ends
use Rattle.gos_plan.specs.Plans.{End, same_end}
use Rattle.gos_plan.specs.Seen.{end_of}
use Rattle.gos_expand.specs.declared.arrivals.Origin.TheVariants.{Cells}
use Rattle.gos_expand.specs.Blocks.{total}
use Rattle.gos_expand.specs.Starts.{loose_size}
use Rattle.gos_expand.specs.inner.Arrivals.{AreAt, or_else, some_if, start_by_ends}
use Rattle.gos_expand.proofs.BlockLemmas.{there_mapped, total_more}
use Rattle.gos_expand.proofs.NumberLemmas.{ends_step, table_filled, all_mapped}
use Rattle.gos_expand.proofs.numbering.number_loose.Goals as goal

pub loop-end-preserved : goal.loop-end-preserved
loop-end-preserved c =
    let i : ℕ = c.loop-end.end-index in
    let ds : List End = map end_of c.args.loose.now in
    let end : declared.End = get_or c.args.loose.now i (ends.Part 0 0) in
    let there = there_mapped end_of i c.args.loose.now end (slice_get-get_or c.args.loose.now i (ends.Part 0 0) c.loop-end-test.true) in
    let low = c.loop-end.invariant.2 in
    let few = c.token_size-size.ensures.few in (
      (λ p f are.
          ends_step p f c.args.from i ds (end_of end) c.fill.new.self there
          (subst (λ (n : ℕ). AreAt p (λ e. or_else (or_else (f e) (start_by_ends p c.args.from (take i ds) e)) (some_if (same_end e (end_of end)) (Cells n))) c.fill.new.self)
          (c.loop-end.invariant.1 p f are) (table_filled p (λ e. or_else (f e) (start_by_ends p c.args.from (take i ds) e)) (end_of end) (Cells c.loop-end.next) c.loop-end.arrivals c.fill.new.self (c.loop-end.invariant.0 p f are) c.fill.ensures))),
      (λ p f are.
          let next = c.loop-end.invariant.1 p f are in
          let more = total_more (loose_size p) 0 i ds (end_of end) there in
          let bits = c.bits_at.ensures p (λ e. or_else (f e) (start_by_ends p c.args.from (take i ds) e)) (c.loop-end.invariant.0 p f are) in
          let size = c.token_size-size.ensures.is in
          rw (size, bits) (omega (arith, next, more))),
      omega (arith, low, few),
    )

pub returns-clause-table : goal.returns-clause-table
returns-clause-table c = λ p f are.
    let all = all_mapped end_of c.loop-end.end-index c.args.loose.now c.loop-end-test.false in
    subst (λ (ds : List End). AreAt p (λ e. or_else (f e) (start_by_ends p c.args.from ds e)) c.loop-end.arrivals) all (c.loop-end.invariant.0 p f are)

pub returns-clause-next : goal.returns-clause-next
returns-clause-next c = λ p f are.
    let all = all_mapped end_of c.loop-end.end-index c.args.loose.now c.loop-end-test.false in
    c.loop-end.invariant.1 p f are ∙ ap (λ (ds : List End). c.args.from + total (loose_size p) 0 ds) all
