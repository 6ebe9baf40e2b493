use Rattle.std.proofs.Common.{◌≡◌, ◌-◌, ◌∷◌, [], ℕ, take, refl, sym, subst, arith}
use Rattle.std.specs.Fmt.{decimal}
use Rattle.std.proofs.lemmas.Result.{err_from_is_err_and}
use Rattle.gos_lex.specs.Items.{Misses}
use Rattle.gos_lex.specs.ItemTexts.{Passed, ended, IsNumberText}
use Rattle.gos_netlist.specs.inner.NetLines.{numbers_text}
use Rattle.gos_netlist.proofs.NetsLemmas.{none_yet, first_net, one_more, no_more, nets_passed}
use Rattle.gos_netlist.proofs.items.few_nets.Goals as goal

pub returns-in_err-a-clause-wrong : goal.returns-in_err-a-clause-wrong
returns-in_err-a-clause-wrong c =
    let old = c.args.cursor.now in
    let here = subst (λ (end : ℕ). Misses (IsNumberText 0 4294967295 end) old.text old.at c.in_err-a.field-0.0) c.end_with.ensures.end c.in_err-a.ensures.wrong in
    let known = no_more c.args.count old old [] c.args.count (c.args.count - 1) c.in_err-a.field-0.0 (omega (arith, c.requires.few.0)) (none_yet c.args.count old c.requires.within) here in
    let p = err_from_is_err_and c.from_residual.result c.from_residual.ensures.1 in
    rw (p.1, p.2) known

pub returns-in_err-b-clause-wrong : goal.returns-in_err-b-clause-wrong
returns-in_err-b-clause-wrong c =
    let old = c.args.cursor.now in
    let one = c.ended_number.new.self in
    let count : ℕ = c.args.count in
    let a : ℕ = c.in_ok-a.a in
    let first = subst (λ (end : ℕ). Passed old one (ended end (decimal a))) c.end_with.ensures.end c.in_ok-a.ensures.passed in
    let far = first_net count old one a c.requires.few.0 c.requires.within c.in_ok-a.ensures.range.1 first in
    let here = subst (λ (end : ℕ). Misses (IsNumberText 0 4294967295 end) one.text one.at c.in_err-b.field-0.0) c.end_with-2.ensures.end c.in_err-b.ensures.wrong in
    let known = no_more count old one (a ∷ []) (count - 1) (count - 2) c.in_err-b.field-0.0 (omega (arith, c.requires.few.0, c.if-count-eq1.false)) far here in
    let p = err_from_is_err_and c.from_residual-in_err-b.result c.from_residual-in_err-b.ensures.1 in
    rw (p.1, p.2) known

pub returns-then-count-eq2-clause-passed : goal.returns-then-count-eq2-clause-passed
returns-then-count-eq2-clause-passed c =
    let old = c.args.cursor.now in
    let one = c.ended_number.new.self in
    let two = c.ended_number-2.new.self in
    let count : ℕ = c.args.count in
    let a : ℕ = c.in_ok-a.a in
    let b : ℕ = c.in_ok-b.b in
    let first = subst (λ (end : ℕ). Passed old one (ended end (decimal a))) c.end_with.ensures.end c.in_ok-a.ensures.passed in
    let far = first_net count old one a c.requires.few.0 c.requires.within c.in_ok-a.ensures.range.1 first in
    let second = subst (λ (end : ℕ). Passed one two (ended end (decimal b))) c.end_with-2.ensures.end c.in_ok-b.ensures.passed in
    let both = one_more count old one two (a ∷ []) (count - 1) (count - 2) b (omega (arith, c.requires.few.0, c.if-count-eq1.false)) far c.in_ok-b.ensures.range.1 second in
    let is : count ≡ 2 = c.if-count-eq2.true in
    subst (λ (k : ℕ). Passed old two (numbers_text (take k (a ∷ b ∷ 0 ∷ [])))) (sym is)
    (nets_passed count old two (a ∷ b ∷ []) (count - 2) (omega (arith, is)) both)

pub returns-in_err-c-clause-wrong : goal.returns-in_err-c-clause-wrong
returns-in_err-c-clause-wrong c =
    let old = c.args.cursor.now in
    let one = c.ended_number.new.self in
    let two = c.ended_number-2.new.self in
    let count : ℕ = c.args.count in
    let a : ℕ = c.in_ok-a.a in
    let b : ℕ = c.in_ok-b.b in
    let first = subst (λ (end : ℕ). Passed old one (ended end (decimal a))) c.end_with.ensures.end c.in_ok-a.ensures.passed in
    let far = first_net count old one a c.requires.few.0 c.requires.within c.in_ok-a.ensures.range.1 first in
    let second = subst (λ (end : ℕ). Passed one two (ended end (decimal b))) c.end_with-2.ensures.end c.in_ok-b.ensures.passed in
    let both = one_more count old one two (a ∷ []) (count - 1) (count - 2) b (omega (arith, c.requires.few.0, c.if-count-eq1.false)) far c.in_ok-b.ensures.range.1 second in
    let known = no_more count old two (a ∷ b ∷ []) (count - 2) 0 c.in_err-c.field-0.0 (omega (arith, c.requires.few.0, c.requires.few.1, c.if-count-eq1.false, c.if-count-eq2.false)) both c.in_err-c.ensures.wrong in
    let p = err_from_is_err_and c.from_residual-in_err-c.result c.from_residual-in_err-c.ensures.1 in
    rw (p.1, p.2) known

pub returns-clause-passed : goal.returns-clause-passed
returns-clause-passed c =
    let old = c.args.cursor.now in
    let one = c.ended_number.new.self in
    let two = c.ended_number-2.new.self in
    let new = c.ended_number-3.new.self in
    let count : ℕ = c.args.count in
    let a : ℕ = c.in_ok-a.a in
    let b : ℕ = c.in_ok-b.b in
    let n : ℕ = c.in_ok-c.c in
    let is : count ≡ 3 = omega (arith, c.requires.few.0, c.requires.few.1, c.if-count-eq1.false, c.if-count-eq2.false) in
    let first = subst (λ (end : ℕ). Passed old one (ended end (decimal a))) c.end_with.ensures.end c.in_ok-a.ensures.passed in
    let far = first_net count old one a c.requires.few.0 c.requires.within c.in_ok-a.ensures.range.1 first in
    let second = subst (λ (end : ℕ). Passed one two (ended end (decimal b))) c.end_with-2.ensures.end c.in_ok-b.ensures.passed in
    let both = one_more count old one two (a ∷ []) (count - 1) (count - 2) b (omega (arith, is)) far c.in_ok-b.ensures.range.1 second in
    let all = one_more count old two new (a ∷ b ∷ []) (count - 2) 0 n (omega (arith, is)) both c.in_ok-c.ensures.range.1 c.in_ok-c.ensures.passed in
    subst (λ (k : ℕ). Passed old new (numbers_text (take k (a ∷ b ∷ n ∷ [])))) (sym is) (nets_passed count old new (a ∷ b ∷ n ∷ []) 0 refl all)
