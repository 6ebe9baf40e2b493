use Rattle.std.proofs.Common.{◌≡◌, ℕ, suc, ◌+◌, ◌-◌, ◌*◌, ◌^◌, ◌<◌, ◌≤◌, true, get_or, ap, sym, subst, ◌∙◌, arith}
use Rattle.std.specs.Char.{is_ascii_digit}
use Rattle.std.specs.Fmt.{decimal}
use Rattle.std.proofs.Math.Nat.{pow-le-pow_right}
use Rattle.gos_lex.proofs.ItemLemmas.{part_more}
use Rattle.gos_lex.proofs.DecimalLemmas.{digit_range, digit_more, one_digit_more}
use Rattle.gos_lex.proofs.decimal.plain_number.Goals as goal

pub loop-i-init : goal.loop-i-init
loop-i-init c =
    let value : ℕ = c.in_ok-value.value in
    let one : 1 ≡ c.args.at + 1 - c.args.at = omega arith in
    let range = c.in_ok-value.ensures.range in
    (c.in_ok-value.ensures.value, range.0, subst (λ (k : ℕ). value < 10 ^ k) one range.1, omega (arith, range.1))

pub loop-i-preserved : goal.loop-i-preserved
loop-i-preserved c =
    let value : ℕ = c.loop-i.value in
    let digit : ℕ = c.from.result in
    let k : ℕ = c.loop-i.i - c.args.at in
    let byte : ℕ = get_or c.args.text.now c.loop-i.i 0 in
    let is : is_ascii_digit byte ≡ true = sym c.is_ascii_digit.ensures.value ∙ c.if-not-is_ascii_digit.false in
    let range = digit_range byte is in
    let small : digit < 10 = omega (arith, c.from.ensures, range.0, range.1) in
    let more : 10 * value + digit < 10 ^ suc k = one_digit_more value digit k c.loop-i.invariant.2 small in
    let most : 10 ^ suc k ≤ 10 ^ 18 = pow-le-pow_right {n = 10} (omega arith) {i = suc k} {j = 18} (omega (arith, c.loop-i-test.true, c.end_of_few-i-end.ensures.few)) in
    let next : suc k ≡ c.loop-i.i + 1 - c.args.at = omega arith in (
      part_more c.args.text.now c.args.at c.loop-i.i (decimal value) (omega arith) (omega arith) c.loop-i.invariant.0
          ∙ (digit_more value byte is (λ zero'. absurd (omega (arith, c.loop-i.invariant.1, zero'))) (omega (arith, c.loop-i.invariant.3, range.1))
          ∙ ap (λ d. decimal (10 * value + d)) (sym c.from.ensures)),
      omega (arith, c.loop-i.invariant.1),
      subst (λ (n : ℕ). 10 * value + digit < 10 ^ n) next more,
      omega (arith, more, most),
    )
