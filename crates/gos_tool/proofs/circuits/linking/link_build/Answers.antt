use Rattle.std.proofs.Common.{◌∙◌, List, ap, length}
use Rattle.std.specs.Prelude.{IfSome}
use Rattle.gos_outside.specs.Calls.{Whole}
use Rattle.gos_outside.proofs.CallsLemmas.{goes_on}
use Rattle.gos_plan.specs.Seen.{SeenPlan}
use Rattle.gos_link.specs.declared.build.Instance.{Instance}
use Rattle.gos_command.proofs.EndLemmas.{early, late, made_of}
use Rattle.gos_tool.specs.Calls.{object_calls, circuit_calls, link_calls}
use Rattle.gos_tool.specs.circuits.Linked.{RejectsLink}
use Rattle.gos_tool.proofs.lemmas.circuits.ExitLemmas.{failed_as, stopped_as}
use Rattle.gos_tool.proofs.lemmas.circuits.CallLemmas.{by_build_file}
use Rattle.gos_tool.proofs.lemmas.circuits.LinkLemmas.{HasRead, HasPlans, object_rejected, object_call, has_plans, plans_rejected, plans_call, plans_cut_short, plans_others, link_done}
use Rattle.gos_tool.proofs.circuits.linking.link_build.Given.{Over}
use Rattle.gos_tool.proofs.circuits.linking.link_build.Goals as goal

-- what the calls before left, at each end: the build file was read; and then the objects
has_read : (g : Over) (c : goal.After-drop-build-in_err-plans-6 g) → HasRead (g.S.Store.contents c.args.store.now) (g.S.Store.contents c.build_in.new.store) c.args.own.now c.in_ok-build.build
has_read g c = record { kept = c.in_ok-build.ensures.same_files; says = c.in_ok-build.ensures.says }

has_objects : (g : Over) (c : goal.After-drop-build-in_err-linked-7 g) → HasPlans (g.S.Store.contents c.args.store.now) (g.S.Store.contents c.plans_in.new.store) c.args.own.now c.in_ok-build.build c.as_slice-2.result.now
has_objects g c =
    has_plans (record { kept = c.in_ok-build.ensures.same_files; says = c.in_ok-build.ensures.says }) c.as_slice.result.now c.as_slice.ensures.value
    (g.S.Store.contents c.plans_in.new.store) c.in_ok-plans.plans.items c.as_slice-2.result.now c.as_slice-2.ensures.value c.in_ok-plans.ensures.same_files c.in_ok-plans.ensures.held

has_all : (g : Over) (c : goal.After-drop-build-8 g) → HasPlans (g.S.Store.contents c.args.store.now) (g.S.Store.contents c.plans_in.new.store) c.args.own.now c.in_ok-build.build c.as_slice-2.result.now
has_all g c =
    has_plans (record { kept = c.in_ok-build.ensures.same_files; says = c.in_ok-build.ensures.says }) c.as_slice.result.now c.as_slice.ensures.value
    (g.S.Store.contents c.plans_in.new.store) c.in_ok-plans.plans.items c.as_slice-2.result.now c.as_slice-2.ensures.value c.in_ok-plans.ensures.same_files c.in_ok-plans.ensures.held

-- an object is rejected, or can't be read
pub returns-in_err-plans-clause-rejected : goal.returns-in_err-plans-clause-rejected
returns-in_err-plans-clause-rejected g c =
    stopped_as _ (λ fault line. IfSome (g.S.Store.contents c.args.store.now) (λ files. RejectsLink files c.args.own.now fault line)) _ c.in_err-plans.field-0.0 c.from_residual-in_err-plans.ensures.1
    (λ fault line h. object_rejected (has_read g c) c.as_slice.result.now c.as_slice.ensures.value fault line h) c.in_err-plans.ensures.rejected

pub returns-in_err-plans-clause-failed_call : goal.returns-in_err-plans-clause-failed_call
returns-in_err-plans-clause-failed_call g c failed =
    object_call (has_read g c) c.as_slice.result.now c.as_slice.ensures.value c.in_ok-build.ensures.read (g.S.Store.contents c.plans_in.new.store) (g.S.Store.last_fault c.plans_in.new.store) c.in_err-plans.ensures.same_files
    (c.in_err-plans.ensures.failed_call (failed_as _ c.from_residual-in_err-plans.ensures.1 failed))

pub returns-in_err-plans-clause-calls : goal.returns-in_err-plans-clause-calls
returns-in_err-plans-clause-calls g c =
    by_build_file _ (g.S.Store.contents c.args.store.now) c.args.own.now link_calls c.in_ok-build.build (g.S.Store.calls c.args.store.now) (g.S.Store.calls c.build_in.new.store) (g.S.Store.calls c.plans_in.new.store)
    c.in_ok-build.ensures.read c.in_ok-build.ensures.says c.in_ok-build.ensures.calls
    (early _ _ (object_calls c.in_ok-build.build.instances.items) (circuit_calls c.in_ok-build.build) (g.S.Store.calls c.build_in.new.store) (g.S.Store.calls c.plans_in.new.store) c.from_residual-in_err-plans.ensures.1
    (made_of object_calls _ (g.S.Store.calls c.build_in.new.store) (g.S.Store.calls c.plans_in.new.store) _ _ c.as_slice.ensures.value c.in_err-plans.ensures.calls))

-- the plans are not linked
pub returns-in_err-linked-clause-rejected : goal.returns-in_err-linked-clause-rejected
returns-in_err-linked-clause-rejected g c =
    stopped_as _ (λ fault line. IfSome (g.S.Store.contents c.args.store.now) (λ files. RejectsLink files c.args.own.now fault line)) _ c.in_err-linked.field-0.0 c.from_residual-in_err-linked.ensures.1
    (λ fault line h. plans_rejected (has_objects g c) (g.S.Store.contents c.link_plans.new.store) fault line h) c.in_err-linked.ensures.rejected

pub returns-in_err-linked-clause-calls : goal.returns-in_err-linked-clause-calls
returns-in_err-linked-clause-calls g c =
    by_build_file _ (g.S.Store.contents c.args.store.now) c.args.own.now link_calls c.in_ok-build.build (g.S.Store.calls c.args.store.now) (g.S.Store.calls c.build_in.new.store) (g.S.Store.calls c.link_plans.new.store)
    c.in_ok-build.ensures.read c.in_ok-build.ensures.says c.in_ok-build.ensures.calls
    (late _ _ (object_calls c.in_ok-build.build.instances.items) (circuit_calls c.in_ok-build.build) (g.S.Store.calls c.build_in.new.store) (g.S.Store.calls c.plans_in.new.store) (g.S.Store.calls c.link_plans.new.store) c.from_residual-in_err-linked.ensures.1
    (made_of object_calls Whole (g.S.Store.calls c.build_in.new.store) (g.S.Store.calls c.plans_in.new.store) _ _ c.as_slice.ensures.value c.in_ok-plans.ensures.calls) c.in_err-linked.ensures.calls)

pub returns-in_err-linked-clause-failed_call : goal.returns-in_err-linked-clause-failed_call
returns-in_err-linked-clause-failed_call g c failed =
    plans_call (has_objects g c) (g.S.Store.contents c.link_plans.new.store) c.in_ok-build.ensures.read (g.S.Store.last_fault c.link_plans.new.store) (c.in_err-linked.ensures.failed_call (failed_as _ c.from_residual-in_err-linked.ensures.1 failed))

pub returns-in_err-linked-clause-memory_files : goal.returns-in_err-linked-clause-memory_files
returns-in_err-linked-clause-memory_files g c failed =
    plans_cut_short (has_objects g c) (g.S.Store.contents c.link_plans.new.store) (c.in_err-linked.ensures.memory_files (failed_as _ c.from_residual-in_err-linked.ensures.1 failed))

pub returns-in_err-linked-clause-others : goal.returns-in_err-linked-clause-others
returns-in_err-linked-clause-others g c =
    plans_others (has_objects g c) (g.S.Store.contents c.link_plans.new.store) c.in_err-linked.ensures.others

-- all was done
pub returns-clause-done : goal.returns-clause-done
returns-clause-done g c =
    let each = ap (λ (ps : List SeenPlan). length ps) c.as_slice-2.ensures.value
    ∙ (c.in_ok-plans.ensures.each ∙ ap (λ (is : List Instance). length is) c.as_slice.ensures.value) in
    link_done (has_all g c) (g.S.Store.contents c.link_plans.new.store) c.paced_circuits.ensures.linked each c.in_ok-linked.linked.weight c.in_ok-linked.linked.net c.in_ok-linked.ensures.done

pub returns-clause-calls : goal.returns-clause-calls
returns-clause-calls g c =
    by_build_file _ (g.S.Store.contents c.args.store.now) c.args.own.now link_calls c.in_ok-build.build (g.S.Store.calls c.args.store.now) (g.S.Store.calls c.build_in.new.store) (g.S.Store.calls c.link_plans.new.store)
    c.in_ok-build.ensures.read c.in_ok-build.ensures.says c.in_ok-build.ensures.calls
    (goes_on Whole (object_calls c.in_ok-build.build.instances.items) (circuit_calls c.in_ok-build.build) (g.S.Store.calls c.build_in.new.store) (g.S.Store.calls c.plans_in.new.store) (g.S.Store.calls c.link_plans.new.store)
    (made_of object_calls Whole (g.S.Store.calls c.build_in.new.store) (g.S.Store.calls c.plans_in.new.store) _ _ c.as_slice.ensures.value c.in_ok-plans.ensures.calls) c.in_ok-linked.ensures.calls)

pub returns-clause-others : goal.returns-clause-others
returns-clause-others g c =
    plans_others (has_all g c) (g.S.Store.contents c.link_plans.new.store) c.in_ok-linked.ensures.others
