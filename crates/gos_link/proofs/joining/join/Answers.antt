use Rattle.std.proofs.Common.{◌≡◌, ◌∙◌, ◌<◌, ◌≤◌, List, arith, Option, Some, ap, length, map, refl, subst, sym}
use Rattle.std.specs.Prelude.{◌↔◌, slice_get, option_map}
use Rattle.std.proofs.lemmas.Option.{slice_get_read, slice_get-map, slice_get_within}
use Rattle.std.proofs.lemmas.List.{length-map}
use Rattle.gos_types.specs.declared.types.Ty.{Ty}
use Rattle.gos_types.specs.Types.{Type', type_of}
use Rattle.gos_types.specs.Handshakes.{handshakes_of}
use Rattle.gos_types.specs.Widths.{HasWidths}
use Rattle.gos_plan.specs.declared.kinds.Kind.{Kind}
use Rattle.gos_plan.specs.declared.plan.PlanImport.{PlanImport}
use Rattle.gos_plan.specs.Plans.{End, Plan}
use Rattle.gos_plan.specs.Seen.{SeenPlan, import_of, part_of, plan_of}
use Rattle.gos_plan.specs.Joining.{LeftImport, IsJoining}
use Rattle.gos_ties.specs.declared.points.Tie.{Tie}
use Rattle.gos_ties.specs.Counted.{IsThin}
use Rattle.gos_ties.specs.Ties.{Connects, Has, joint}
use Rattle.gos_ties.specs.Order.{AreInOrder}
use Rattle.gos_link.specs.declared.opens.Open.{Open}
use Rattle.gos_link.specs.Linked.{outcome_of, whole_of}
use Rattle.gos_link.specs.inner.Opens.{open_seen}
use Rattle.gos_link.proofs.ServiceLemmas.{opens_left}
use Rattle.gos_link.proofs.CountLemmas.{thin}
use Rattle.gos_link.proofs.CountedLemmas.{countable}
use Rattle.gos_link.proofs.JoinedLemmas.{Bears, is_joining}
use Rattle.gos_link.proofs.OrderLemmas.{in_order}
use Rattle.gos_link.proofs.joining.join.Goals as goal

pub tied_plan-requires-clause-thin : goal.tied_plan-requires-clause-thin
tied_plan-requires-clause-thin c =
    subst (λ (ts : List Tie). IsThin ts) (sym (c.deref-2.ensures.value ∙ c.in_ok-ties.ensures.ties))
    (thin (map plan_of c.args.plans.now) c.args.services.now c.args.root c.requires.joinable c.in_ok-ties.ensures.right)

pub tied_plan-requires-clause-in_range : goal.tied_plan-requires-clause-in_range
tied_plan-requires-clause-in_range c =
    record {
      of_imports = c.in_ok-imports.ensures.small;
      of_result =
          subst (λ (t : Type'). HasWidths t × (length (handshakes_of t) ≤ 64))
          (sym (c.in_ok-outcome.ensures ∙ ap (λ (t : Ty). type_of t) c.outcome_of.ensures.value)) c.outcome_of.ensures.small;
      of_parts = c.in_ok-parts.ensures.in_range;
    }

pub returns : goal.returns
returns c =
    let ps : List Plan = map plan_of c.args.plans.now in
    let s : SeenPlan = c.in_ok-plan.plan in
    let made = c.in_ok-plan.ensures in
    let (root_plan, root_at) = c.requires.joinable.some_root in
    let inside = slice_get_within ps c.args.root root_plan root_at in
    let size = length-map c.args.plans.now plan_of in
    let low : c.args.root < length c.args.plans.now = omega (arith, inside, size) in
    let p : SeenPlan = c.index-plans-root.result in
    let at : slice_get c.args.plans.now c.args.root ≡ Some p = slice_get_read c.args.plans.now (length c.args.plans.now) c.args.root p refl low c.index-plans-root.is in
    let at_root : slice_get ps c.args.root ≡ Some (plan_of p) = slice_get-map plan_of c.args.plans.now c.args.root ∙ ap (option_map plan_of) at in
    let parts = ap (λ (ks : List Kind). map part_of ks) made.parts ∙ c.in_ok-parts.ensures.same in
    let imports =
    ap (λ (is : List PlanImport). map import_of is) made.imports
    ∙ (c.in_ok-imports.ensures.same
    ∙ (ap (λ (os : List Open). map (λ l. l.import) (map open_seen os)) c.deref.ensures.value
    ∙ ap (λ (ls : List LeftImport). map (λ l. l.import) ls) (c.in_ok-opens.ensures.seen ∙ sym (opens_left ps c.args.services.now c.args.root c.requires.joinable)))) in
    let outcome : type_of s.outcome ≡ outcome_of (slice_get ps c.args.root) =
    ap (λ (t : Ty). type_of t) made.outcome
    ∙ (c.in_ok-outcome.ensures ∙ (ap (λ (t : Ty). type_of t) c.outcome_of.ensures.value ∙ ap (λ (o : Option Plan). outcome_of o) (sym at_root))) in
    let bears : Bears ps c.args.services.now c.args.root c.requires.joinable c.in_ok-ties.ensures.right (plan_of s) =
    record { parts = parts; imports = imports; outcome = outcome } in
    let joining : IsJoining (whole_of c.args.plans.now c.args.services.now c.args.root) (plan_of s) =
    is_joining ps c.args.services.now c.args.root c.requires.joinable c.in_ok-ties.ensures.right s
    bears (made.weight ∙ c.weight_of-weight.ensures) made.right
    (subst (λ (ts : List Tie). (a b : End) → Has (plan_of s).joints (joint a b) ↔ Connects ts (plan_of s) a b)
    (c.deref-2.ensures.value ∙ c.in_ok-ties.ensures.ties) made.joints) in
    record {
      joining = joining;
      order = in_order ps c.args.services.now c.args.root c.requires.joinable c.in_ok-ties.ensures.right (plan_of s) bears made.right
          (subst (λ (ts : List Tie). AreInOrder ts (plan_of s).joints) (c.deref-2.ensures.value ∙ c.in_ok-ties.ensures.ties) made.order);
      countable = countable ps c.args.services.now c.args.root (plan_of s) c.requires.joinable c.in_ok-ties.ensures.right c.requires.counted joining;
    }
