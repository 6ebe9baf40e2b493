use Rattle.std.proofs.Common.{◌≡◌, ◌∙◌, ◌∷◌, ◌+◌, ℕ, List, suc, ap, arith, drop, subst, sym}
use Rattle.std.proofs.Math.Seq.{drop-cons}
use Rattle.std.proofs.lemmas.List.{drop_all}
use Rattle.gos_lex.specs.Lines.{Word}
use Rattle.gos_link.specs.declared.build.Instance.{Instance}
use Rattle.gos_link.proofs.FirstLemmas.{AreFirstSo, all_found, none_yet, one_more}
use Rattle.gos_link.proofs.instances.numbers_of.Goals as goal

pub loop-number-init : goal.loop-number-init
loop-number-init c = subst (λ (entries : List (Word × ℕ)). AreFirstSo entries 0 c.args.instances.now c.args.instances.now) (sym c.new-numbers.ensures.empty) (none_yet c.args.instances.now)

pub loop-number-preserved : goal.loop-number-preserved
loop-number-preserved c =
    let is : List Instance = c.args.instances.now in
    let n : ℕ = c.loop-number.number in
    let i : Instance = c.index-instances-number.result in
    let others : List Instance = drop (suc n) is in
    let here : drop n is ≡ i ∷ others = drop-cons is n i c.loop-number-test.true ∙ ap (λ (x : Instance). x ∷ others) (sym c.index-instances-number.is) in
    let next : suc n ≡ n + 1 = omega arith in
    subst (λ (k : ℕ). AreFirstSo c.add_first.new.numbers.entries (n + 1) (drop k is) is) next
    (one_more is (drop n is) others n i c.loop-number.numbers.entries c.add_first.new.numbers.entries c.loop-number.invariant here c.in_ok-add_first.ensures)

pub returns : goal.returns
returns c =
    all_found c.args.instances.now (drop c.loop-number.number c.args.instances.now) c.loop-number.number c.loop-number.numbers.entries c.loop-number.invariant
    (drop_all c.loop-number.number c.args.instances.now c.loop-number-test.false)
