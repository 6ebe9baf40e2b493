use Rattle.std.proofs.Common.{◌≡◌, ◌++◌, ◌<◌, ◌≤◌, ℕ, List, length, get_or, min, arith, ap, ◌∙◌, []}
use Rattle.gos_gates.specs.inner.Layout.{bit_gates}
use Rattle.gos_gates.specs.inner.Laying.{literals_of, next_variable}
use Rattle.gos_gates.proofs.TurnLemmas.{chains_more, chains_end}
use Rattle.gos_gates.proofs.draft.Draft.chain.Goals as goal

pub loop-i-preserved : goal.loop-i-preserved
loop-i-preserved c =
    let ms : List ℕ = literals_of c.args.self.now c.args.a in
    let bs : List ℕ = literals_of c.args.self.now c.args.b in
    let one : c.literals_of-in-loop-i.result.now ≡ ms = c.literals_of-in-loop-i.ensures ∙ ap (λ (ns : List (List ℕ)). get_or ns c.args.a []) c.loop-i.invariant.nets in
    let other : c.literals_of-in-loop-i-2.result.now ≡ bs = c.literals_of-in-loop-i-2.ensures ∙ ap (λ (ns : List (List ℕ)). get_or ns c.args.b []) c.loop-i.invariant.nets in
    let count = c.min-count.ensures in
    let low_m : c.loop-i.i < length ms = omega (arith, c.loop-i-test.true, count, ap length c.literals_of.ensures) in
    let low_b : c.loop-i.i < length bs = omega (arith, c.loop-i-test.true, count, ap length c.literals_of-2.ensures) in
    rw c.in_ok-push.ensures.items
    (chains_more c.args.kind c.args.self.now c.loop-i.self c.bit.new.self ms bs c.args.bits.now.items c.loop-i.bits.items c.args.first c.loop-i.carry c.loop-i.i c.in_ok-turn.turn.literal c.in_ok-turn.turn.carry
    c.loop-i.invariant low_m low_b
    (c.in_ok-turn.ensures.draft ∙ (λ j. record c.loop-i.self { gates = c.loop-i.self.gates ++ bit_gates c.args.kind (next_variable c.loop-i.self) c.loop-i.carry (get_or (one j) c.loop-i.i 0) (get_or (other j) c.loop-i.i 0) }))
    c.in_ok-turn.ensures.literal c.in_ok-turn.ensures.carry)

pub returns-clause-draft : goal.returns-clause-draft
returns-clause-draft c =
    let past : min (length (literals_of c.args.self.now c.args.a)) (length (literals_of c.args.self.now c.args.b)) ≤ c.loop-i.i =
    omega (arith, c.loop-i-test.false, c.min-count.ensures, ap length c.literals_of.ensures, ap length c.literals_of-2.ensures) in
    (chains_end c.args.kind c.args.self.now c.loop-i.self _ _ c.args.bits.now.items c.loop-i.bits.items c.args.first c.loop-i.carry c.loop-i.i c.loop-i.invariant past).draft

pub returns-clause-bits : goal.returns-clause-bits
returns-clause-bits c =
    let past : min (length (literals_of c.args.self.now c.args.a)) (length (literals_of c.args.self.now c.args.b)) ≤ c.loop-i.i =
    omega (arith, c.loop-i-test.false, c.min-count.ensures, ap length c.literals_of.ensures, ap length c.literals_of-2.ensures) in
    (chains_end c.args.kind c.args.self.now c.loop-i.self _ _ c.args.bits.now.items c.loop-i.bits.items c.args.first c.loop-i.carry c.loop-i.i c.loop-i.invariant past).bits

pub returns-clause-carry : goal.returns-clause-carry
returns-clause-carry c =
    let past : min (length (literals_of c.args.self.now c.args.a)) (length (literals_of c.args.self.now c.args.b)) ≤ c.loop-i.i =
    omega (arith, c.loop-i-test.false, c.min-count.ensures, ap length c.literals_of.ensures, ap length c.literals_of-2.ensures) in
    (chains_end c.args.kind c.args.self.now c.loop-i.self _ _ c.args.bits.now.items c.loop-i.bits.items c.args.first c.loop-i.carry c.loop-i.i c.loop-i.invariant past).last
