use Rattle.std.proofs.Common.{◌≡◌, ℕ, List, length, subst, sym, ◌∙◌, refl, arith}
use Rattle.gos_lex.specs.Items.{TextAt, IsJust, Misses}
use Rattle.gos_lex.proofs.WordTableLemmas.{IsAmongFirst, first_word, next_word}
use Rattle.gos_witness.proofs.port_table.any_name.Goals as goal

pub loop-k-init : goal.loop-k-init
loop-k-init c =
    let names = c.args.names.now in
    let name : List ℕ = c.name_at.result.now in
    let here = subst (λ (p : TextAt). Misses (IsJust name) p.text p.at c.in-Err.at) (sym c.in-Err.ensures.stays) c.in-Err.ensures.wrong in
    (refl, first_word names name c.word.new.self.text c.word.new.self.at c.in-Err.at (sym c.name_at.ensures) here)

pub loop-k-preserved : goal.loop-k-preserved
loop-k-preserved c =
    let names = c.args.names.now in
    let k = c.loop-k.k in
    let name : List ℕ = c.name_at-in-loop-k.result.now in
    let here = subst (λ (p : TextAt). Misses (IsJust name) p.text p.at c.in-Err-word.at) c.loop-k.invariant.0 c.in-Err-word.ensures.wrong in
    let place = c.further-furthest in (
      c.in-Err-word.ensures.stays ∙ c.loop-k.invariant.0,
      next_word k names name c.word.new.self.text c.word.new.self.at c.loop-k.furthest c.in-Err-word.at place.result (sym c.name_at-in-loop-k.ensures) place.ensures.at_least.0 place.ensures.at_least.1 place.ensures.either c.loop-k.invariant.1 here,
    )

pub returns-clause-wrong : goal.returns-clause-wrong
returns-clause-wrong c =
    let names = c.args.names.now in
    let all : c.loop-k.k ≡ length names = omega (arith, c.loop-k.auto.k-end, c.loop-k-test.false, c.requires) in
    subst (λ (p : TextAt). Misses (IsAmongFirst (length names) names) p.text p.at c.loop-k.furthest) c.in-Err.ensures.stays
    (subst (λ (n : ℕ). Misses (IsAmongFirst n names) c.word.new.self.text c.word.new.self.at c.loop-k.furthest) all c.loop-k.invariant.1)
