use Rattle.std.proofs.Common.{[], List, subst, sym, arith}
use Rattle.gos_witness.specs.declared.labels.Label.{Label}
use Rattle.gos_witness.specs.inner.Left.{Leads}
use Rattle.gos_witness.specs.inner.TraceParts.{TraceLeft}
use Rattle.gos_witness.proofs.LeftLemmas.{leads_within}
use Rattle.gos_witness.proofs.TraceLemmas.{trace_starts, no_entry, pulse_more, last_end, line_shorter}
use Rattle.gos_witness.proofs.trace.labels.Goals as goal

pub loop-line-init : goal.loop-line-init
loop-line-init c =
    let old = c.args.cursor.now in
    let ports = c.args.ports.now in
    (omega arith, subst (λ (labels : List Label). Leads (List Label) (TraceLeft ports 0 []) (TraceLeft ports 0 labels) old old) (sym c.new-labels.ensures.items) (trace_starts ports old c.requires.within))

pub next_line-requires-clause-within : goal.next_line-requires-clause-within
next_line-requires-clause-within c =
    leads_within (List Label) (TraceLeft c.args.ports.now 0 []) (TraceLeft c.args.ports.now c.loop-line.from c.loop-line.labels.items) c.args.cursor.now c.loop-line.cursor c.loop-line.invariant.1

pub returns-in-Err-clause-wrong : goal.returns-in-Err-clause-wrong
returns-in-Err-clause-wrong c =
    no_entry c.args.ports.now c.requires.ports.named c.requires.ports c.loop-line.from c.loop-line.labels.items c.args.cursor.now c.loop-line.cursor c.in-Err.at c.loop-line.invariant.1 c.in-Err.ensures.wrong

pub loop-line-preserved : goal.loop-line-preserved
loop-line-preserved c =
    let ports = c.args.ports.now in
    let old = c.args.cursor.now in
    let new = c.next_line.new.cursor in
    let known = pulse_more ports c.requires.ports c.loop-line.from c.loop-line.labels.items c.in-Ok.line c.in-Pulse.cycle c.in-Pulse.label old c.loop-line.cursor new c.in-Pulse.is c.loop-line.invariant.1 c.in-Ok.ensures.is c.in-Ok.ensures.passed in
    (known.0, subst (λ (labels : List Label). Leads (List Label) (TraceLeft ports 0 []) (TraceLeft ports c.in-Pulse.cycle labels) old new) (sym c.in_ok-push-in-Pulse.ensures.items) known.1)

pub returns-in-Last-clause-passed : goal.returns-in-Last-clause-passed
returns-in-Last-clause-passed c =
    last_end c.args.ports.now c.requires.ports c.loop-line.from c.loop-line.labels.items c.in-Ok.line _ c.args.cursor.now c.loop-line.cursor c.next_line.new.cursor c.in-Last.is c.loop-line.invariant.1 c.in-Ok.ensures.is c.in-Ok.ensures.passed

pub loop-line-smaller : goal.loop-line-smaller
loop-line-smaller c =
    line_shorter c.args.ports.now c.loop-line.from c.loop-line.labels.items c.in-Ok.line c.args.cursor.now c.loop-line.cursor c.next_line.new.cursor c.loop-line.invariant.1 c.in-Ok.ensures.passed
