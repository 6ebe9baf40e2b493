use Rattle.gos_gates.specs.inner.Laying.{literals_of}
use Rattle.gos_gates.proofs.TurnLemmas.{Chains}
use Rattle.gos_gates.proofs.draft.Draft.chain.Given as goal

-- what is laid so far, with what is still to come, is the whole chain
abbrev pub invariant-loop-i : goal.invariant-loop-i
invariant-loop-i l =
    Chains l.kind l.initial.self l.self (literals_of l.initial.self l.a) (literals_of l.initial.self l.b) l.initial.bits.items l.bits.items l.first l.carry l.i
