use Rattle.std.proofs.Common.{◌≡◌, ◌<◌, ◌-◌, ◌∙◌, ℕ, List, Option, Some, ap, arith, length, sym}
use Rattle.std.specs.Prelude.{unwrap_or}
use Rattle.gos_link.specs.declared.services.Service.{Service}
use Rattle.gos_link.specs.inner.Served.{lateness}
use Rattle.gos_link.specs.inner.Tops.{top_at}
use Rattle.gos_link.specs.inner.Wired.{number_used}
use Rattle.gos_link.proofs.ServedLemmas.{used_none}
use Rattle.gos_link.proofs.services.top_of.Goals as goal

pub loop-number-smaller : goal.loop-number-smaller
loop-number-smaller c =
    let ss : List Service = c.args.services.now in
    let found : number_used ss c.loop-number.at ≡ Some c.in-Some.number = sym c.in-Some.ensures.number in
    let late = (c.requires.1.on c.loop-number.at c.in-Some.number found).1 in
    let now : lateness ss c.loop-number.at ≡ c.in-Some.number = ap (λ (o : Option ℕ). unwrap_or o (length ss)) found in
    let next : lateness ss c.above_at-at.result ≡ lateness ss (top_at c.args.above.now c.in-Some.number) = ap (lateness ss) c.above_at-at.ensures in
    let within : c.in-Some.number < length ss = c.in-Some.ensures.within in
    let smaller : length ss - lateness ss c.above_at-at.result < length ss - lateness ss c.loop-number.at = omega (arith, late, now, next, within) in
    smaller

pub loop-number-preserved : goal.loop-number-preserved
loop-number-preserved c = λ n tops known are.
    let found : number_used c.args.services.now c.loop-number.at ≡ Some c.in-Some.number = sym c.in-Some.ensures.number in
    ap (top_at tops) c.above_at-at.ensures ∙ ((are.on c.loop-number.at c.in-Some.number found).0 ∙ c.loop-number.invariant n tops known are)

pub returns-in-None : goal.returns-in-None
returns-in-None c = λ n tops known are.
    let unused = used_none c.args.services.now c.loop-number.at (sym c.in-None.ensures.number) in
    sym (known.own c.loop-number.at unused) ∙ c.loop-number.invariant n tops known are
