use Rattle.std.proofs.Common.{◌++◌, ◌∷◌, [], ◌∙◌}
use Rattle.gos_gates.specs.Lowered.{gate_of}
use Rattle.gos_gates.proofs.DraftLemmas.{add_done}
use Rattle.gos_gates.proofs.draft.Draft.add.Goals as goal

pub returns-clause-draft : goal.returns-clause-draft
returns-clause-draft c =
    add_done c.args.self.now c.differ.new.self c.differ-2.new.self c.gate.new.self c.args.carry c.args.a c.args.b c.in_ok-half.half c.next-first.result c.next-second.result
    c.in_ok-half.ensures.draft c.in_ok-half.ensures.literal c.in_ok-literal.ensures.draft c.next-first.ensures c.next-second.ensures
    (c.in_ok-kept.ensures.draft ∙ (λ i. record c.differ-2.new.self { gates = c.differ-2.new.self.gates ++ gate_of (c.turned.ensures i) (c.turned-2.ensures i) ∷ [] }))
