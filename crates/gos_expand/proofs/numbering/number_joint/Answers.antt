use Rattle.std.proofs.Common.{◌≡◌, ◌+◌, ℕ, Bool, ap, ap₂, sym, ◌∙◌, arith}
use Rattle.gos_types.specs.Events.{Request, Answer}
use Rattle.gos_plan.specs.Plans.{Joint, contact_at}
use Rattle.gos_plan.specs.Seen.{joint_of}
use Rattle.gos_expand.specs.Starts.{kept_size, way_size, bits_if}
use Rattle.gos_expand.specs.inner.Arrivals.{by_way}
use Rattle.gos_expand.proofs.NumberLemmas.{table_joined}
use Rattle.gos_expand.proofs.numbering.number_joint.Goals as goal

pub returns-clause-table : goal.returns-clause-table
returns-clause-table c = λ lay p x f request answer are.
    let j : Joint = joint_of c.args.joint in
    let size : c.joint_sizes-request.result.0 ≡ way_size lay p x j Request =
    c.joint_sizes-request.ensures.request p f are ∙ ap (λ (b : Bool). kept_size b (bits_if (contact_at p j.asking) Request)) (sym request) in
    table_joined lay p x f j c.args.from c.origin.result c.origin-2.result c.args.arrivals.now c.fill.new.self c.fill-2.new.self are
    (c.origin.ensures ∙ ap₂ (λ (b : Bool) (n : ℕ). by_way b (c.args.from + n) j.serving) (sym answer) size)
    (c.origin-2.ensures ∙ ap (λ (b : Bool). by_way b c.args.from j.asking) (sym request)) c.fill.ensures c.fill-2.ensures

pub returns-clause-next : goal.returns-clause-next
returns-clause-next c = λ lay p x f request answer are.
    let j : Joint = joint_of c.args.joint in
    let first : c.joint_sizes-request.result.0 ≡ way_size lay p x j Request =
    c.joint_sizes-request.ensures.request p f are ∙ ap (λ (b : Bool). kept_size b (bits_if (contact_at p j.asking) Request)) (sym request) in
    let second : c.joint_sizes-request.result.1 ≡ way_size lay p x j Answer =
    c.joint_sizes-request.ensures.answer p f are ∙ ap (λ (b : Bool). kept_size b (bits_if (contact_at p j.asking) Answer)) (sym answer) in
    omega (arith, first, second)
