use Rattle.std.proofs.Common.{◌≡◌, ◌∙◌, ℕ, Bool, List, ap₂, sym, subst, arith}
use Rattle.gos_netlist.specs.Nets.{Cell}
use Rattle.gos_types.specs.Events.{Request, Answer}
use Rattle.gos_plan.specs.Plans.{Joint, Plan, contact_at}
use Rattle.gos_plan.specs.Seen.{plan_of, joint_of}
use Rattle.gos_expand.specs.Starts.{Laying, kept_size, way_size}
use Rattle.gos_expand.specs.inner.Numbering.{laying_in}
use Rattle.gos_expand.specs.inner.Tokens.{Places}
use Rattle.gos_expand.specs.inner.Arrivals.{start_at}
use Rattle.gos_expand.specs.Laid.{leaves, registers_if, way_cells}
use Rattle.gos_expand.proofs.CountLemmas.{entry_bits}
use Rattle.gos_expand.proofs.GroupLemmas.{kept_length}
use Rattle.gos_expand.proofs.PlacingLemmas.{places_then}
use Rattle.gos_expand.proofs.placing.place_joint.Goals as goal

pub place_way-requires-clause-spare : goal.place_way-requires-clause-spare
place_way-requires-clause-spare c =
    let lay : Laying = laying_in c.args.numbering.now in
    let p : Plan = plan_of c.args.plan.now in
    let j : Joint = joint_of c.args.joint in
    let bits = entry_bits (start_at lay p j.asking) (contact_at p j.asking) c.in-Some.entry (sym c.in-Some.is ∙ (c.get.ensures ∙ c.requires.numbered.of_arrivals j.asking)) in
    let request : kept_size c.kept-request.result.0 c.in-Some.entry.contact.ask_bits ≡ way_size lay p c.args.index j Request =
    ap₂ kept_size c.kept-request.ensures.request bits.0 in
    let spare = c.requires.spare in
    omega (arith, request, spare)

pub place_way-requires-2-clause-spare : goal.place_way-requires-2-clause-spare
place_way-requires-2-clause-spare c =
    let lay : Laying = laying_in c.args.numbering.now in
    let p : Plan = plan_of c.args.plan.now in
    let j : Joint = joint_of c.args.joint in
    let bits = entry_bits (start_at lay p j.asking) (contact_at p j.asking) c.in-Some.entry (sym c.in-Some.is ∙ (c.get.ensures ∙ c.requires.numbered.of_arrivals j.asking)) in
    let request : kept_size c.kept-request.result.0 c.in-Some.entry.contact.ask_bits ≡ way_size lay p c.args.index j Request =
    ap₂ kept_size c.kept-request.ensures.request bits.0 in
    let answer : kept_size c.kept-request.result.1 c.in-Some.entry.contact.answer_bits ≡ way_size lay p c.args.index j Answer =
    ap₂ kept_size c.kept-request.ensures.answer bits.1 in
    let long = kept_length c.kept-request.result.0 c.in-Some.entry.contact.ask_bits (leaves lay p j.asking) in
    let placed = c.place_way.ensures.placed.spare in
    let spare = c.requires.spare in
    omega (arith, request, answer, long, placed, spare)

pub returns-clause-placed : goal.returns-clause-placed
returns-clause-placed c =
    let lay : Laying = laying_in c.args.numbering.now in
    let p : Plan = plan_of c.args.plan.now in
    let j : Joint = joint_of c.args.joint in
    let bits = entry_bits (start_at lay p j.asking) (contact_at p j.asking) c.in-Some.entry (sym c.in-Some.is ∙ (c.get.ensures ∙ c.requires.numbered.of_arrivals j.asking)) in
    let request : registers_if c.kept-request.result.0 c.in-Some.entry.contact.ask_bits (leaves lay p j.asking) ≡ way_cells lay p c.args.index j Request j.asking =
    ap₂ (λ (b : Bool) (w : ℕ). registers_if b w (leaves lay p j.asking)) c.kept-request.ensures.request bits.0 in
    let answer : registers_if c.kept-request.result.1 c.in-Some.entry.contact.answer_bits (leaves lay p j.serving) ≡ way_cells lay p c.args.index j Answer j.serving =
    ap₂ (λ (b : Bool) (w : ℕ). registers_if b w (leaves lay p j.serving)) c.kept-request.ensures.answer bits.1 in
    places_then c.args.pool.now c.place_way.new.pool c.place_way-2.new.pool (way_cells lay p c.args.index j Request j.asking)
    (way_cells lay p c.args.index j Answer j.serving) 0 0
    (subst (λ (cs : List Cell). Places c.args.pool.now c.place_way.new.pool cs 0) request c.place_way.ensures.placed)
    (subst (λ (cs : List Cell). Places c.place_way.new.pool c.place_way-2.new.pool cs 0) answer c.place_way-2.ensures.placed)
