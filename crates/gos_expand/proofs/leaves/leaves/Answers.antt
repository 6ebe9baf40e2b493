use Rattle.std.specs.Prelude.{IsSome}
use Rattle.std.proofs.Common.{◌≡◌, ℕ, ◌<◌, ◌+◌, ◌∙◌, Some, length, map, sym, ap, subst, arith, get_or, slice_get}
use Rattle.gos_types.specs.Types.{type_of, IsGround}
use Rattle.gos_plan.specs.declared.contacts.Contact as held
use Rattle.gos_plan.specs.declared.plan.End as declared
use Rattle.gos_plan.specs.declared.plan.End.TheVariants as ends
use Rattle.gos_plan.specs.declared.plan.PlanImport.{PlanImport}
use Rattle.gos_plan.specs.Kinds.{contacts_of}
use Rattle.gos_plan.specs.Plans.{Plan, contact_at}
use Rattle.gos_plan.specs.Seen.{SeenPlan, plan_of, import_of, end_of}
use Rattle.gos_expand.specs.Starts.{Laying, port_start}
use Rattle.gos_expand.specs.inner.Arrivals.{start_at}
use Rattle.gos_expand.specs.Laid.{leaves, request_start}
use Rattle.gos_expand.proofs.ArriveLemmas.{entry_holds}
use Rattle.gos_expand.proofs.DepartureLemmas.{departs}
use Rattle.gos_expand.proofs.EndLemmas.{all_there, import_leaves_here}
use Rattle.gos_expand.proofs.HereLemmas.{some_import, this_import, import_base, import_low}
use Rattle.gos_expand.proofs.LeafLemmas.{there_within}
use Rattle.gos_expand.specs.declared.numbering.Numbering.{Numbering}
use Rattle.gos_expand.specs.inner.Tokens.{held_nets}
use Rattle.gos_expand.specs.inner.Departures.{nets_in}
use Rattle.gos_expand.specs.inner.Numbering.{IsNumbered, laying_in}
use Rattle.gos_expand.proofs.leaves.leaves.Goals as goal

-- the table has what leaves at an end of a part
part_departs : (plan : SeenPlan) (n : Numbering) (e : declared.End) (i h : ℕ) → IsNumbered (plan_of plan) n → IsSome (contact_at (plan_of plan) (end_of e)) → e ≡ ends.Part i h
    → nets_in (slice_get (map (λ s. map held_nets s.items) n.departures.parts.items) i) h ≡ Some (leaves (laying_in n) (plan_of plan) (end_of e))
part_departs plan n e i h numbered some is =
    let here = subst (λ (d : declared.End). IsSome (contact_at (plan_of plan) (end_of d))) is some in
    departs (laying_in n) (plan_of plan) (map (λ s. map held_nets s.items) n.departures.parts.items) i h numbered.of_departures here
    ∙ sym (ap (λ (d : declared.End). Some (leaves (laying_in n) (plan_of plan) (end_of d))) is)

pub bounds-starts-import : goal.bounds-starts-import
bounds-starts-import c =
    let n = c.args.numbering.now in
    let i = c.in-Import.import in
    let (x, here) = some_import c.args.plan.now n c.args.end i c.in-Import.shake c.requires.numbered c.requires.there c.in-Import.is in
    rw (c.as_slice-starts.ensures.value) (there_within n.ports.items (i + 1) (port_start (plan_of c.args.plan.now) (i + 1)) here.begins)

pub bounds-imports-import : goal.bounds-imports-import
bounds-imports-import c =
    let i = c.in-Import.import in
    let (x, here) = some_import c.args.plan.now c.args.numbering.now c.args.end i c.in-Import.shake c.requires.numbered c.requires.there c.in-Import.is in
    rw (c.imports.ensures) (there_within c.args.plan.now.imports i x here.listed)

pub request_start-request-requires-clause-ground : goal.request_start-request-requires-clause-ground
request_start-request-requires-clause-ground c =
    let i = c.in-Import.import in
    let x = c.index-imports-import.result in
    let here = this_import c.args.plan.now c.args.numbering.now c.args.end i c.in-Import.shake c.imports.result.now x c.requires.numbered c.requires.there c.in-Import.is c.imports.ensures c.index-imports-import.is in
    subst (λ (y : PlanImport). IsGround (type_of y.ty)) c.index-imports-import.is (all_there (λ y. IsGround (type_of y.ty)) c.args.plan.now.imports i x c.requires.ports.ground here.listed)

pub request_start-request-requires-clause-there : goal.request_start-request-requires-clause-there
request_start-request-requires-clause-there c =
    let h = c.in-Import.shake in
    let x = c.index-imports-import.result in
    let here = this_import c.args.plan.now c.args.numbering.now c.args.end c.in-Import.import h c.imports.result.now x c.requires.numbered c.requires.there c.in-Import.is c.imports.ensures c.index-imports-import.is in
    subst (λ (y : PlanImport). h < length (contacts_of (type_of y.ty))) c.index-imports-import.is (there_within (contacts_of (type_of x.ty)) h here.contact here.shake)

pub request_start-request-requires-clause-room : goal.request_start-request-requires-clause-room
request_start-request-requires-clause-room c =
    let (x, here) = some_import c.args.plan.now c.args.numbering.now c.args.end c.in-Import.import c.in-Import.shake c.requires.numbered c.requires.there c.in-Import.is in
    let low = import_low c.as_slice-starts.result.now here c.as_slice-starts.ensures.value c.requires.numbered in
    omega (arith, low)

pub overflow_add-request : goal.overflow_add-request
overflow_add-request c =
    let (x, here) = some_import c.args.plan.now c.args.numbering.now c.args.end c.in-Import.import c.in-Import.shake c.requires.numbered c.requires.there c.in-Import.is in
    let low = import_low c.as_slice-starts.result.now here c.as_slice-starts.ensures.value c.requires.numbered in
    omega (arith, low, c.request_start-request.ensures.few, c.token_size.ensures.few)

pub nets_from-requires : goal.nets_from-requires
nets_from-requires c =
    let (x, here) = some_import c.args.plan.now c.args.numbering.now c.args.end c.in-Import.import c.in-Import.shake c.requires.numbered c.requires.there c.in-Import.is in
    let low = import_low c.as_slice-starts.result.now here c.as_slice-starts.ensures.value c.requires.numbered in
    omega (arith, low, c.request_start-request.ensures.few, c.token_size.ensures.few)

pub returns-in-Import : goal.returns-in-Import
returns-in-Import c =
    let lay : Laying = laying_in c.args.numbering.now in
    let p : Plan = plan_of c.args.plan.now in
    let e = end_of c.args.end in
    let i = c.in-Import.import in
    let h = c.in-Import.shake in
    let x = c.index-imports-import.result in
    let starts = c.as_slice-starts.result.now in
    let here = this_import c.args.plan.now c.args.numbering.now c.args.end i h c.imports.result.now x c.requires.numbered c.requires.there c.in-Import.is c.imports.ensures c.index-imports-import.is in
    let base = import_base starts here c.as_slice-starts.ensures.value in
    let seen : contact_at p e ≡ Some here.contact = ap (λ (y : declared.End). contact_at p (end_of y)) c.in-Import.is ∙ (rw (here.there) (here.shake)) in
    let holds = entry_holds (start_at lay p e) (contact_at p e) c.in-Some.entry here.contact (sym c.in-Some.is ∙ (c.get.ensures ∙ c.requires.numbered.of_arrivals e)) seen in
    let answer = ap (λ (d : held.Contact). d.answer_bits) holds in
    let ask = ap (λ (d : held.Contact). d.ask_bits) holds in
    let request = c.request_start-request.ensures.is ∙ ap (λ (y : PlanImport). request_start (get_or starts (i + 1) 0) (contacts_of (type_of y.ty)) h) (sym c.index-imports-import.is) in
    c.nets_from.ensures
    ∙ (import_leaves_here lay p i h (get_or starts (i + 1) 0) c.request_start-request.result c.token_size.result c.in-Some.entry.contact.answer_bits c.in-Some.entry.contact.ask_bits (import_of x) here.contact here.there here.shake answer ask base request c.token_size.ensures.is
    ∙ sym (ap (λ (y : declared.End). leaves lay p (end_of y)) c.in-Import.is))

pub unreachable-requires-in_default-get : goal.unreachable-requires-in_default-get
unreachable-requires-in_default-get c =
    let known = c.in_default-get.ensures ∙ part_departs c.args.plan.now c.args.numbering.now c.args.end c.in-Part.part c.in-Part.shake c.requires.numbered c.requires.there c.in-Part.is in
    cc known

pub returns-in-Some-get : goal.returns-in-Some-get
returns-in-Some-get c =
    let known = c.in-Some-get.ensures ∙ part_departs c.args.plan.now c.args.numbering.now c.args.end c.in-Part.part c.in-Part.shake c.requires.numbered c.requires.there c.in-Part.is in
    cc known
