use Rattle.std.proofs.Common.{◌≡◌, ◌∙◌, ℕ, Some, sym, ap, subst, arith}
use Rattle.std.specs.Prelude.{Option, None}
use Rattle.gos_plan.specs.Contacts.{contact_held}
use Rattle.gos_plan.specs.Plans.{End, Plan, contact_at}
use Rattle.gos_plan.specs.Seen.{plan_of, end_of}
use Rattle.gos_plan.specs.Tokens.{bits_of, way_taken}
use Rattle.gos_expand.specs.declared.arrivals.Arrival.{Arrival}
use Rattle.gos_expand.specs.declared.arrivals.Origin.{Origin}
use Rattle.gos_expand.specs.declared.arrivals.Origin.TheVariants.{Cells, Other}
use Rattle.gos_expand.specs.Blocks.{nets_from}
use Rattle.gos_expand.specs.Starts.{Laying, parts_start}
use Rattle.gos_expand.specs.Laid.{leaves, arrives}
use Rattle.gos_expand.specs.inner.Arrivals.{arrival_if, start_at, nets_by, nets_of}
use Rattle.gos_expand.specs.inner.Numbering.{laying_in}
use Rattle.gos_expand.proofs.ArriveLemmas.{IsFound, entry_told, arrives_told, origin_found, parts_within}
use Rattle.gos_expand.proofs.leaves.arrives.Goals as goal

-- where what comes in begins, by its entry
origin_of : (lay : Laying) (p : Plan) (e : End) (a : Arrival) (o : Option Origin) → Some a ≡ arrival_if (start_at lay p e) (contact_at p e) → a.origin ≡ o
    → start_at lay p e ≡ o
origin_of lay p e a o told is =
    let entry = entry_told (start_at lay p e) (contact_at p e) a told in
    sym (ap (λ (b : Arrival). b.origin) entry.2) ∙ is

-- and its nets
nets_are : (lay : Laying) (p : Plan) (e : End) (a : Arrival) (o : Option Origin) → Some a ≡ arrival_if (start_at lay p e) (contact_at p e) → a.origin ≡ o
    → nets_by (leaves lay p) (parts_start lay p) (bits_of (contact_held a.contact) (way_taken a.contact.role)) o ≡ arrives lay p e
nets_are lay p e a o told is =
    let entry = entry_told (start_at lay p e) (contact_at p e) a told in
    ap (nets_by (leaves lay p) (parts_start lay p) (bits_of (contact_held a.contact) (way_taken a.contact.role))) (sym is)
    ∙ (ap (nets_of (leaves lay p) (parts_start lay p)) entry.2 ∙ arrives_told lay p e entry.0 entry.1)

pub nets_from-requires-in-Cells : goal.nets_from-requires-in-Cells
nets_from-requires-in-Cells c =
    let lay : Laying = laying_in c.args.numbering.now in
    let p : Plan = plan_of c.args.plan.now in
    let e : End = end_of c.args.end in
    let told = sym c.in-Some.is ∙ (c.get.ensures ∙ c.requires.numbered.of_arrivals e) in
    let origin = origin_of lay p e c.in-Some.entry (Some (Cells c.in-Cells.start)) told (c.in-Some-origin.is ∙ ap (λ (o : Origin). Some o) c.in-Cells.is) in
    let low = subst (IsFound p (parts_start lay p)) origin (origin_found lay p e c.requires.right) in
    let within = parts_within lay p in
    let whole = c.requires.numbered.whole in
    let room = c.requires.numbered.room in
    omega (arith, low, within, whole, room)

pub leaves-requires-clause-there : goal.leaves-requires-clause-there
leaves-requires-clause-there c =
    let lay : Laying = laying_in c.args.numbering.now in
    let p : Plan = plan_of c.args.plan.now in
    let e : End = end_of c.args.end in
    let told = sym c.in-Some.is ∙ (c.get.ensures ∙ c.requires.numbered.of_arrivals e) in
    let origin = origin_of lay p e c.in-Some.entry (Some (Other c.in-Other.other)) told (c.in-Some-origin.is ∙ ap (λ (o : Origin). Some o) c.in-Other.is) in
    subst (IsFound p (parts_start lay p)) origin (origin_found lay p e c.requires.right)

pub returns-in-Cells : goal.returns-in-Cells
returns-in-Cells c =
    let lay : Laying = laying_in c.args.numbering.now in
    let p : Plan = plan_of c.args.plan.now in
    let e : End = end_of c.args.end in
    let told = sym c.in-Some.is ∙ (c.get.ensures ∙ c.requires.numbered.of_arrivals e) in
    c.nets_from-in-Cells.ensures
    ∙ (ap (λ (w : ℕ). nets_from w c.in-Cells.start) c.bits-in-Cells.ensures
    ∙ nets_are lay p e c.in-Some.entry (Some (Cells c.in-Cells.start)) told (c.in-Some-origin.is ∙ ap (λ (o : Origin). Some o) c.in-Cells.is))

pub returns-in-Other : goal.returns-in-Other
returns-in-Other c =
    let lay : Laying = laying_in c.args.numbering.now in
    let p : Plan = plan_of c.args.plan.now in
    let e : End = end_of c.args.end in
    let told = sym c.in-Some.is ∙ (c.get.ensures ∙ c.requires.numbered.of_arrivals e) in
    c.leaves.ensures ∙ nets_are lay p e c.in-Some.entry (Some (Other c.in-Other.other)) told (c.in-Some-origin.is ∙ ap (λ (o : Origin). Some o) c.in-Other.is)

pub returns-in_default-origin : goal.returns-in_default-origin
returns-in_default-origin c =
    let lay : Laying = laying_in c.args.numbering.now in
    let p : Plan = plan_of c.args.plan.now in
    let e : End = end_of c.args.end in
    let told = sym c.in-Some.is ∙ (c.get.ensures ∙ c.requires.numbered.of_arrivals e) in
    c.nets_from.ensures
    ∙ (ap (λ (w : ℕ). nets_from w c.args.numbering.now.parts_start) c.bits.ensures
    ∙ (ap (nets_from (bits_of (contact_held c.in-Some.entry.contact) (way_taken c.in-Some.entry.contact.role))) c.requires.numbered.first_part
    ∙ nets_are lay p e c.in-Some.entry None told c.in_default-origin.is))
