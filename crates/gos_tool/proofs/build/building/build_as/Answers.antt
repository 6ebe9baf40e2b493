use Rattle.std.proofs.Common.{◌∙◌, ◌∷◌, [], inl, refl, subst, sym}
use Rattle.std.specs.Prelude.{IfSome}
use Rattle.gos_outside.specs.Calls.{Whole}
use Rattle.gos_outside.proofs.CallsLemmas.{goes_on}
use Rattle.gos_command.proofs.EndLemmas.{early, late, of_stopped_both}
use Rattle.gos_command.specs.declared.report.Report.TheVariants as reports
use Rattle.gos_tool.specs.Calls.{circuit_calls, simulation_calls, build_calls}
use Rattle.gos_tool.specs.Causes.{OfSource, OfBuild, OfWeight, OfPulses}
use Rattle.gos_tool.specs.build.Built.{RejectsBuildAs}
use Rattle.gos_tool.specs.build.inner.Compiling.{AreApart, AreFit}
use Rattle.gos_tool.proofs.lemmas.StopLemmas.{stops_before, stops_behind}
use Rattle.gos_tool.proofs.lemmas.circuits.ExitLemmas.{err_is, failed_as, stopped_as, counts_as}
use Rattle.gos_tool.proofs.lemmas.circuits.CallLemmas.{by_build_file}
use Rattle.gos_tool.proofs.lemmas.circuits.LinkLemmas.{HasRead, linkable}
use Rattle.gos_tool.proofs.lemmas.build.ApartLemmas.{sources_apart}
use Rattle.gos_tool.proofs.lemmas.build.FitLemmas.{never_too_large}
use Rattle.gos_tool.proofs.lemmas.build.CallLemmas.{at_sources, by_sources, of_names}
use Rattle.gos_tool.proofs.lemmas.build.PlansLemmas.{plans_built, rejects_pulses, simulation_call, has_circuit, no_trace, with_trace}
use Rattle.gos_tool.proofs.lemmas.build.BuildLemmas.{HasCompiled, source_rejected, source_call, source_cut_short, source_others, compiled, plans_rejected, plans_call, plans_cut_short, plans_others, built}
use Rattle.gos_tool.proofs.build.building.build_as.Given.{Over}
use Rattle.gos_tool.proofs.build.building.build_as.Goals as goal

-- what the calls before left, at each end: the build file was read; and then the sources were compiled
has_read : (g : Over) (c : goal.After-drop-build-in_err-plans-6 g) → HasRead (g.S.Store.contents c.args.store.now) (g.S.Store.contents c.build_in.new.store) c.args.own.now c.in_ok-build.build
has_read g c = record { kept = c.in_ok-build.ensures.same_files; says = c.in_ok-build.ensures.says }

has_linked : (g : Over) (c : goal.After-drop-build-in_err-linked-7 g) → HasCompiled (g.S.Store.contents c.args.store.now) (g.S.Store.contents c.compile_all.new.store) c.args.own.now c.in_ok-build.build c.as_slice-2.result.now
has_linked g c =
    compiled (record { kept = c.in_ok-build.ensures.same_files; says = c.in_ok-build.ensures.says }) (g.S.Store.contents c.compile_all.new.store) c.as_slice.result.now c.in_ok-plans.plans.items
    c.as_slice-2.result.now c.as_slice.ensures.value c.as_slice-2.ensures.value c.in_ok-plans.ensures.written c.in_ok-plans.ensures.others

has_circuits : (g : Over) (c : goal.After-drop-build-in_err-counts-7 g) → HasCompiled (g.S.Store.contents c.args.store.now) (g.S.Store.contents c.compile_all.new.store) c.args.own.now c.in_ok-build.build c.as_slice-2.result.now
has_circuits g c =
    compiled (record { kept = c.in_ok-build.ensures.same_files; says = c.in_ok-build.ensures.says }) (g.S.Store.contents c.compile_all.new.store) c.as_slice.result.now c.in_ok-plans.plans.items
    c.as_slice-2.result.now c.as_slice.ensures.value c.as_slice-2.ensures.value c.in_ok-plans.ensures.written c.in_ok-plans.ensures.others

has_all : (g : Over) (c : goal.After-drop-build-8 g) → HasCompiled (g.S.Store.contents c.args.store.now) (g.S.Store.contents c.compile_all.new.store) c.args.own.now c.in_ok-build.build c.as_slice-2.result.now
has_all g c =
    compiled (record { kept = c.in_ok-build.ensures.same_files; says = c.in_ok-build.ensures.says }) (g.S.Store.contents c.compile_all.new.store) c.as_slice.result.now c.in_ok-plans.plans.items
    c.as_slice-2.result.now c.as_slice.ensures.value c.as_slice-2.ensures.value c.in_ok-plans.ensures.written c.in_ok-plans.ensures.others

-- the calls may be made
pub compile_all-requires : goal.compile_all-requires
compile_all-requires g c =
    subst AreApart (sym c.as_slice.ensures.value) (sources_apart _ _ _ c.in_ok-build.ensures.read.1)

-- a source is rejected, or a call fails there
pub returns-in_err-plans-clause-rejected : goal.returns-in_err-plans-clause-rejected
returns-in_err-plans-clause-rejected g c =
    stopped_as _ (λ fault line. IfSome (g.S.Store.contents c.args.store.now) (λ files. RejectsBuildAs c.args.layout files (g.S.Store.contents c.compile_all.new.store) c.args.own.now fault line)) _ c.in_err-plans.field-0.0 c.from_residual-in_err-plans.ensures.1
    (λ fault line h. source_rejected (has_read g c) (g.S.Store.contents c.compile_all.new.store) c.args.layout c.as_slice.result.now fault line c.as_slice.ensures.value h) c.in_err-plans.ensures.rejected

pub returns-in_err-plans-clause-failed_call : goal.returns-in_err-plans-clause-failed_call
returns-in_err-plans-clause-failed_call g c failed =
    source_call (has_read g c) (g.S.Store.contents c.compile_all.new.store) c.args.layout c.in_ok-build.ensures.read c.as_slice.result.now (g.S.Store.last_fault c.compile_all.new.store) c.as_slice.ensures.value
    (c.in_err-plans.ensures.failed_call (failed_as _ c.from_residual-in_err-plans.ensures.1 failed))

pub returns-in_err-plans-clause-memory_files : goal.returns-in_err-plans-clause-memory_files
returns-in_err-plans-clause-memory_files g c failed =
    source_cut_short (has_read g c) (g.S.Store.contents c.compile_all.new.store) c.args.layout c.as_slice.result.now c.as_slice.ensures.value (c.in_err-plans.ensures.memory_files (failed_as _ c.from_residual-in_err-plans.ensures.1 failed))

pub returns-in_err-plans-clause-others : goal.returns-in_err-plans-clause-others
returns-in_err-plans-clause-others g c =
    source_others (has_read g c) (g.S.Store.contents c.compile_all.new.store) c.as_slice.result.now c.as_slice.ensures.value c.in_err-plans.ensures.others

pub returns-in_err-plans-clause-calls : goal.returns-in_err-plans-clause-calls
returns-in_err-plans-clause-calls g c =
    by_build_file _ (g.S.Store.contents c.args.store.now) c.args.own.now build_calls c.in_ok-build.build (g.S.Store.calls c.args.store.now) (g.S.Store.calls c.build_in.new.store) (g.S.Store.calls c.compile_all.new.store)
    c.in_ok-build.ensures.read c.in_ok-build.ensures.says c.in_ok-build.ensures.calls
    (at_sources _ _ c.in_ok-build.build c.as_slice.result.now (g.S.Store.calls c.build_in.new.store) (g.S.Store.calls c.compile_all.new.store) c.from_residual-in_err-plans.ensures.1 c.as_slice.ensures.value c.in_err-plans.ensures.calls)

-- the plans are not linked
pub returns-in_err-linked-clause-rejected : goal.returns-in_err-linked-clause-rejected
returns-in_err-linked-clause-rejected g c =
    rw (err_is _ c.from_residual-in_err-linked.ensures.1)
    (of_stopped_both _ _ (λ fault line. IfSome (g.S.Store.contents c.args.store.now) (λ files. RejectsBuildAs c.args.layout files (g.S.Store.contents c.link_plans.new.store) c.args.own.now fault line)) c.in_err-linked.field-0.0
    (λ fault line why kept. plans_rejected (has_linked g c) (g.S.Store.contents c.link_plans.new.store) c.args.layout fault line (inl (why, kept))) c.in_err-linked.ensures.rejected c.in_err-linked.ensures.rejected_files)

pub returns-in_err-linked-clause-kind : goal.returns-in_err-linked-clause-kind
returns-in_err-linked-clause-kind g c =
    rw (err_is _ c.from_residual-in_err-linked.ensures.1)
    (stops_behind (OfSource ∷ []) (OfBuild ∷ OfWeight ∷ OfPulses ∷ []) c.in_err-linked.field-0.0 (stops_before (OfBuild ∷ OfWeight ∷ []) (OfPulses ∷ []) c.in_err-linked.field-0.0
    (never_too_large c.slim_plans_fit.ensures.fits c.args.own.now c.in_ok-build.build c.as_slice-2.result.now c.in_err-linked.field-0.0
    (linkable c.in_ok-build.build _ _ _ c.as_slice.ensures.value c.as_slice-2.ensures.value c.in_ok-plans.ensures.each c.in_ok-plans.ensures.limits
    c.in_ok-build.ensures.few_instances c.in_ok-build.ensures.few_binds)
    (subst AreFit (sym c.as_slice-2.ensures.value) c.in_ok-plans.ensures.fit) c.in_err-linked.ensures.rejected)))

pub returns-in_err-linked-clause-calls : goal.returns-in_err-linked-clause-calls
returns-in_err-linked-clause-calls g c =
    by_build_file _ (g.S.Store.contents c.args.store.now) c.args.own.now build_calls c.in_ok-build.build (g.S.Store.calls c.args.store.now) (g.S.Store.calls c.build_in.new.store) (g.S.Store.calls c.link_plans.new.store)
    c.in_ok-build.ensures.read c.in_ok-build.ensures.says c.in_ok-build.ensures.calls
    (by_sources _ c.in_ok-build.build c.as_slice.result.now (g.S.Store.calls c.build_in.new.store) (g.S.Store.calls c.compile_all.new.store) (g.S.Store.calls c.link_plans.new.store) c.as_slice.ensures.value c.in_ok-plans.ensures.calls
    (early _ _ (circuit_calls c.in_ok-build.build) (simulation_calls c.in_ok-build.build.pulses c.in_ok-build.build.trace) (g.S.Store.calls c.compile_all.new.store) (g.S.Store.calls c.link_plans.new.store) c.from_residual-in_err-linked.ensures.1 c.in_err-linked.ensures.calls))

pub returns-in_err-linked-clause-failed_call : goal.returns-in_err-linked-clause-failed_call
returns-in_err-linked-clause-failed_call g c failed =
    plans_call (has_linked g c) (g.S.Store.contents c.link_plans.new.store) c.args.layout c.in_ok-build.ensures.read (g.S.Store.last_fault c.link_plans.new.store) (inl (c.in_err-linked.ensures.failed_call (failed_as _ c.from_residual-in_err-linked.ensures.1 failed)))

pub returns-in_err-linked-clause-memory_files : goal.returns-in_err-linked-clause-memory_files
returns-in_err-linked-clause-memory_files g c failed =
    plans_cut_short (has_linked g c) (g.S.Store.contents c.link_plans.new.store) c.args.layout (inl (c.in_err-linked.ensures.memory_files (failed_as _ c.from_residual-in_err-linked.ensures.1 failed)))

pub returns-in_err-linked-clause-others : goal.returns-in_err-linked-clause-others
returns-in_err-linked-clause-others g c =
    plans_others (has_linked g c) (g.S.Store.contents c.link_plans.new.store) (no_trace c.in_ok-build.build.net c.in_ok-build.build.verilog c.in_ok-build.build.trace (g.S.Store.contents c.compile_all.new.store) (g.S.Store.contents c.link_plans.new.store) c.in_err-linked.ensures.others)

-- the pulse file is rejected, or a call fails there
pub returns-in_err-counts-clause-rejected : goal.returns-in_err-counts-clause-rejected
returns-in_err-counts-clause-rejected g c =
    rw (err_is _ c.from_residual-in_err-counts.ensures.1)
    (of_stopped_both _ _ (λ fault line. IfSome (g.S.Store.contents c.args.store.now) (λ files. RejectsBuildAs c.args.layout files (g.S.Store.contents c.simulate.new.store) c.args.own.now fault line)) c.in_err-counts.field-0.0
    (λ fault line why kept. plans_rejected (has_circuits g c) (g.S.Store.contents c.simulate.new.store) c.args.layout fault line
    (rejects_pulses (g.S.Store.contents c.compile_all.new.store) (g.S.Store.contents c.link_plans.new.store) (g.S.Store.contents c.simulate.new.store) c.args.own.now c.in_ok-build.build c.as_slice-2.result.now c.in_ok-linked.linked.weight c.in_ok-linked.linked.net c.bytes.result.now fault line c.bytes.ensures.bytes
    c.in_ok-linked.ensures.done kept why))
    c.in_err-counts.ensures.rejected c.in_err-counts.ensures.rejected_files)

pub returns-in_err-counts-clause-calls : goal.returns-in_err-counts-clause-calls
returns-in_err-counts-clause-calls g c =
    by_build_file _ (g.S.Store.contents c.args.store.now) c.args.own.now build_calls c.in_ok-build.build (g.S.Store.calls c.args.store.now) (g.S.Store.calls c.build_in.new.store) (g.S.Store.calls c.simulate.new.store)
    c.in_ok-build.ensures.read c.in_ok-build.ensures.says c.in_ok-build.ensures.calls
    (by_sources _ c.in_ok-build.build c.as_slice.result.now (g.S.Store.calls c.build_in.new.store) (g.S.Store.calls c.compile_all.new.store) (g.S.Store.calls c.simulate.new.store) c.as_slice.ensures.value c.in_ok-plans.ensures.calls
    (late _ _ (circuit_calls c.in_ok-build.build) (simulation_calls c.in_ok-build.build.pulses c.in_ok-build.build.trace) (g.S.Store.calls c.compile_all.new.store) (g.S.Store.calls c.link_plans.new.store) (g.S.Store.calls c.simulate.new.store) c.from_residual-in_err-counts.ensures.1 c.in_ok-linked.ensures.calls
    (of_names _ c.in_ok-build.build c.bytes.result.now c.bytes-2.result.now (g.S.Store.calls c.link_plans.new.store) (g.S.Store.calls c.simulate.new.store) c.bytes.ensures.bytes c.bytes-2.ensures.bytes c.in_err-counts.ensures.calls)))

pub returns-in_err-counts-clause-counts : goal.returns-in_err-counts-clause-counts
returns-in_err-counts-clause-counts g c =
    let read = c.in_ok-build.ensures.counts.1 (λ e. cc e) in
    let compiled = c.in_ok-plans.ensures.counts.1 (λ e. cc e) in
    let linked = c.in_ok-linked.ensures.counts.1 (λ e. cc e) in
    counts_as _ (g.S.Store.faults c.args.store.now) (g.S.Store.faults c.link_plans.new.store) (g.S.Store.faults c.simulate.new.store) c.from_residual-in_err-counts.ensures.1
    (linked ∙ (compiled ∙ read)) c.in_err-counts.ensures.counts

pub returns-in_err-counts-clause-failed_call : goal.returns-in_err-counts-clause-failed_call
returns-in_err-counts-clause-failed_call g c failed =
    plans_call (has_circuits g c) (g.S.Store.contents c.simulate.new.store) c.args.layout c.in_ok-build.ensures.read (g.S.Store.last_fault c.simulate.new.store)
    (simulation_call (g.S.Store.contents c.compile_all.new.store) (g.S.Store.contents c.link_plans.new.store) (g.S.Store.contents c.simulate.new.store) c.in_ok-build.build c.as_slice-2.result.now c.in_ok-linked.linked.weight c.in_ok-linked.linked.net c.bytes.result.now c.bytes-2.result.now
    (g.S.Store.last_fault c.simulate.new.store) c.bytes.ensures.bytes c.bytes-2.ensures.bytes c.in_ok-linked.ensures.done
    (c.in_err-counts.ensures.failed_call (failed_as _ c.from_residual-in_err-counts.ensures.1 failed)))

pub returns-in_err-counts-clause-memory_files : goal.returns-in_err-counts-clause-memory_files
returns-in_err-counts-clause-memory_files g c failed =
    plans_cut_short (has_circuits g c) (g.S.Store.contents c.simulate.new.store) c.args.layout
    (has_circuit (g.S.Store.contents c.compile_all.new.store) (g.S.Store.contents c.link_plans.new.store) (g.S.Store.contents c.simulate.new.store) c.in_ok-build.build c.as_slice-2.result.now c.in_ok-linked.linked.weight c.in_ok-linked.linked.net c.in_ok-linked.ensures.done
    (c.in_err-counts.ensures.memory_files (failed_as _ c.from_residual-in_err-counts.ensures.1 failed)))

pub returns-in_err-counts-clause-others : goal.returns-in_err-counts-clause-others
returns-in_err-counts-clause-others g c =
    plans_others (has_circuits g c) (g.S.Store.contents c.simulate.new.store)
    (with_trace c.in_ok-build.build.net c.in_ok-build.build.verilog c.in_ok-build.build.trace c.bytes-2.result.now (g.S.Store.contents c.compile_all.new.store) (g.S.Store.contents c.link_plans.new.store) (g.S.Store.contents c.simulate.new.store) c.bytes-2.ensures.bytes c.in_ok-linked.ensures.others c.in_err-counts.ensures.others)

-- all was done
pub returns-clause-done : goal.returns-clause-done
returns-clause-done g c =
    built (has_all g c) (g.S.Store.contents c.simulate.new.store) c.args.layout c.paced_modules.ensures.realises c.paced_modules.ensures.linked c.paced_modules.ensures.imports c.paced_modules.ensures.typed c.paced_modules.ensures.weight c.paced_modules.ensures.small _
    (plans_built (g.S.Store.contents c.compile_all.new.store) (g.S.Store.contents c.link_plans.new.store) (g.S.Store.contents c.simulate.new.store) c.in_ok-build.build c.as_slice-2.result.now c.in_ok-linked.linked.weight c.in_ok-linked.linked.net c.bytes.result.now c.bytes-2.result.now c.in_ok-counts.counts
    (reports.Build c.in_ok-linked.linked.weight c.in_ok-counts.counts) c.bytes.ensures.bytes c.bytes-2.ensures.bytes c.in_ok-linked.ensures.done c.in_ok-counts.ensures.done refl)

pub returns-clause-calls : goal.returns-clause-calls
returns-clause-calls g c =
    by_build_file _ (g.S.Store.contents c.args.store.now) c.args.own.now build_calls c.in_ok-build.build (g.S.Store.calls c.args.store.now) (g.S.Store.calls c.build_in.new.store) (g.S.Store.calls c.simulate.new.store)
    c.in_ok-build.ensures.read c.in_ok-build.ensures.says c.in_ok-build.ensures.calls
    (by_sources Whole c.in_ok-build.build c.as_slice.result.now (g.S.Store.calls c.build_in.new.store) (g.S.Store.calls c.compile_all.new.store) (g.S.Store.calls c.simulate.new.store) c.as_slice.ensures.value c.in_ok-plans.ensures.calls
    (goes_on Whole (circuit_calls c.in_ok-build.build) (simulation_calls c.in_ok-build.build.pulses c.in_ok-build.build.trace) (g.S.Store.calls c.compile_all.new.store) (g.S.Store.calls c.link_plans.new.store) (g.S.Store.calls c.simulate.new.store) c.in_ok-linked.ensures.calls
    (of_names Whole c.in_ok-build.build c.bytes.result.now c.bytes-2.result.now (g.S.Store.calls c.link_plans.new.store) (g.S.Store.calls c.simulate.new.store) c.bytes.ensures.bytes c.bytes-2.ensures.bytes c.in_ok-counts.ensures.calls)))

pub returns-clause-others : goal.returns-clause-others
returns-clause-others g c =
    plans_others (has_all g c) (g.S.Store.contents c.simulate.new.store)
    (with_trace c.in_ok-build.build.net c.in_ok-build.build.verilog c.in_ok-build.build.trace c.bytes-2.result.now (g.S.Store.contents c.compile_all.new.store) (g.S.Store.contents c.link_plans.new.store) (g.S.Store.contents c.simulate.new.store) c.bytes-2.ensures.bytes c.in_ok-linked.ensures.others c.in_ok-counts.ensures.others)
