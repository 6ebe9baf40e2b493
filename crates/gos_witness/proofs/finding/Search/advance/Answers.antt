use Rattle.std.proofs.Common.{rules, ◌≡◌, Bool, true, subst, ◌∙◌}
use Rattle.gos_witness.specs.inner.Stages.{IsMade}
use Rattle.gos_witness.proofs.FoundLemmas.{masks_after}
use Rattle.gos_witness.proofs.finding.Search.advance.Goals as goal

pub compact-requires-clause-masks : goal.compact-requires-clause-masks
compact-requires-clause-masks c =
    let p = c.args.program.now in
    let g = c.args.self.now.stage in
    let h = c.count.new.self.stage in
    let k = c.make.new.self in
    let on : c.in_ok-make.field-0 ≡ true = search rules in
    let made : IsMade p c.args.labels.now c.in-Some.line h k true = subst (λ (b : Bool). IsMade p c.args.labels.now c.in-Some.line h k b) on c.in_ok-make.ensures in
    masks_after p.ports g h k c.candidate.new.self.masks c.count.new.self.masks (c.count.ensures.stage ∙ c.candidate.ensures.stage) c.count.ensures.masks made.2
    c.in_ok-line.ensures.masks
