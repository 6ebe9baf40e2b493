-- A number without its pulse is in range, and not clean; one of more bits than its net is not in range.
use Rattle.std.proofs.Common.{◌≡◌, ◌<◌, ◌^◌, suc, zero, refl, subst, arith}
use Rattle.gos_netlist.specs.Nets.{Input, Reg, Cell}
use Rattle.gos_netlist.specs.Settling.{Numbers, at}
use Rattle.gos_netlist.specs.SmallNets.{bit}
use Rattle.gos_pace.specs.RunProtocol.{IsInRange}
use Rattle.gos_pace.specs.SmallInputs.{byte, ask_circuit, answer, stray, AnswerIsClean, StrayIsInRange, WideIsNotInRange, GivingIsSilent}

-- numbers of which the last two alone are not 0 are in range where these are
last_in_range : (ins : Numbers) → at ins 0 ≡ 0 → at ins 4 < 2 → at ins 5 < 2 ^ 8 → IsInRange ask_circuit ins
last_in_range ins first pulse number zero c h g =
    let same : bit Input ≡ c = cc in
    let small : at ins 0 < 2 = omega (arith, first) in
    subst (λ (x : Cell). at ins 0 < 2 ^ x.width) same small
last_in_range ins first pulse number (suc zero) c h g = absurd (let same : bit (Reg 4) ≡ c = cc in grind (arith, same, g))
last_in_range ins first pulse number (suc (suc zero)) c h g = absurd (let same : byte (Reg 5) ≡ c = cc in grind (arith, same, g))
last_in_range ins first pulse number (suc (suc (suc zero))) c h g = absurd (let same : bit (Reg 0) ≡ c = cc in grind (arith, same, g))
last_in_range ins first pulse number (suc (suc (suc (suc zero)))) c h g =
    let same : bit Input ≡ c = cc in subst (λ (x : Cell). at ins 4 < 2 ^ x.width) same pulse
last_in_range ins first pulse number (suc (suc (suc (suc (suc zero))))) c h g =
    let same : byte Input ≡ c = cc in subst (λ (x : Cell). at ins 5 < 2 ^ x.width) same number
last_in_range ins first pulse number (suc (suc (suc (suc (suc (suc n)))))) c h g = absurd cc

pub answer_is_clean : AnswerIsClean
answer_is_clean =
    (last_in_range answer refl (omega arith) (omega arith), ((λ out none. refl, tt), ((λ out none. absurd (omega (arith, none)), tt), tt)))

pub stray_is_in_range : StrayIsInRange
stray_is_in_range =
    (last_in_range stray refl (omega arith) (omega arith), λ clean. let none = clean.1.1.0.0 refl refl in omega (arith, none))

pub wide_is_not_in_range : WideIsNotInRange
wide_is_not_in_range range = let small = range 5 (byte Input) refl refl in omega (arith, small)

pub giving_is_silent : GivingIsSilent
giving_is_silent = (
  (((λ out none. absurd (omega (arith, none)), tt), ((λ out none. refl, tt), tt)), tt),
  λ silent. let none = silent.0.0.0 refl refl in omega (arith, none),
)
