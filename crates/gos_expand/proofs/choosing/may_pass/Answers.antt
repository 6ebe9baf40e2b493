use Rattle.std.proofs.Common.{◌≡◌, ◌∙◌, ◌*◌, length, inl, inr, ap, subst, true, arith}
use Rattle.std.proofs.lemmas.Bool.{eq-eqb}
use Rattle.gos_plan.specs.Kinds.{Part, part_contacts}
use Rattle.gos_plan.specs.Seen.{part_of}
use Rattle.gos_expand.specs.Gates.{passing_of}
use Rattle.gos_expand.specs.inner.Choosing.{PassesAcross}
use Rattle.gos_expand.proofs.choosing.may_pass.Goals as goal

pub returns-else-apart-count : goal.returns-else-apart-count
returns-else-apart-count c = λ m across passes.
    let kind = ap part_of c.in-Share.is in
    let apart = c.abs_diff-apart.ensures in
    let count = c.requires.count ∙ ap (λ (p : Part). length (part_contacts p)) kind in
    let goes = subst (λ (p : Part). PassesAcross m p) kind across in
    let here = subst (λ (p : Part). passing_of m p c.args.from c.args.to ≡ true) kind passes in
    elim (goes c.args.from c.args.to here) [
      | inl one ↦ absurd (c.if-apart-count.false (omega (arith, apart, one, count)))
      | inr two ↦ eq-eqb (3 * c.abs_diff-apart.result) (2 * c.args.count) (omega (arith, apart, two, count))
    ]
