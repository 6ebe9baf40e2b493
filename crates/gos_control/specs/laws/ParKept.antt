-- The gates of two commands that run side by side keep the laws.
--
-- Read first: ParCounts, ParFit.
use Rattle.std.proofs.Common.{◌≡◌, ℕ, zero, suc, ◌+◌, ◌≤◌, [], refl, sym, ◌∙◌, subst, arith}
use Rattle.std.specs.Prelude.{bit_or, bit_and, bit_xor}
use Rattle.gos_netlist.specs.Settling as nets
use Rattle.gos_plan.specs.Kinds.{Par}
use Rattle.gos_plan.specs.Firing.{Phase, Rest, Both, LeftOnly, RightOnly, State, Req, Ans}
use Rattle.gos_macro.specs.Gates.{pulse_in, value_in, nothing_pending}
use Rattle.gos_plan.specs.Firings.{due, times}
use Rattle.gos_macro.specs.Law.{GatesLaw}
use Rattle.gos_macro.specs.Kept.{KeepLawsInEachOrder}
use Rattle.gos_macro.specs.laws.AnyOrder.{law_in_order}
use Rattle.gos_macro.specs.laws.Passing.{buffered, same_tokens}
use Rattle.gos_control.specs.Par.{par_layout, par_outs, ParPhase, par_stands}
use Rattle.gos_control.specs.laws.ParCounts.{left_done, right_done, IsParPhase, par_counts}
use Rattle.gos_control.specs.laws.ParFit.{par_fits}

-- registers that stand for a phase are those of it
flags : (p : Phase) (d e : ℕ) → ParPhase p d e → (d ≡ left_done p) × (e ≡ right_done p) × (left_done p + right_done p ≤ 1) × IsParPhase p
flags Rest d e (a, b) = (a, b, omega arith, (refl, refl))
flags Both d e (a, b) = (a, b, omega arith, (refl, refl))
flags LeftOnly d e (a, b) = (a, b, omega arith, (refl, refl))
flags RightOnly d e (a, b) = (a, b, omega arith, (refl, refl))
flags p d e a = absurd a

-- numbers that are those of a phase stand for it
stand : (p : Phase) (d e : ℕ) → IsParPhase p → d ≡ left_done p → e ≡ right_done p → ParPhase p d e
stand Rest d e a b c = (b, c)
stand Both d e a b c = (b, c)
stand LeftOnly d e a b c = (b, c)
stand RightOnly d e a b c = (b, c)
stand p d e a b c = absurd a

-- both are done: now or before
abbrev answered : ℕ → ℕ → ℕ → ℕ → ℕ
answered d e p q = bit_and (bit_or d p) (bit_or e q)

-- What the gates compute, for numbers of one bit: registers d and e and pulses p and q make n answers, and leave f
-- and g in the registers.
par_table : (d e p q n f g : ℕ) → d + e ≤ 1 → p ≤ 1 → q ≤ 1 → f + g ≤ 1 → f + n ≡ d + p → g + n ≡ e + q
    → (answered d e p q ≡ n) × (bit_xor (bit_xor d p) (answered d e p q) ≡ f) × (bit_xor (bit_xor e q) (answered d e p q) ≡ g) × (n ≤ 1)
par_table zero zero zero zero n f g a b c h i j = (omega arith, omega arith, omega arith, omega arith)
par_table zero zero zero (suc zero) n f g a b c h i j = (omega arith, omega arith, omega arith, omega arith)
par_table zero zero (suc zero) zero n f g a b c h i j = (omega arith, omega arith, omega arith, omega arith)
par_table zero zero (suc zero) (suc zero) n f g a b c h i j = (omega arith, omega arith, omega arith, omega arith)
par_table zero (suc zero) zero zero n f g a b c h i j = (omega arith, omega arith, omega arith, omega arith)
par_table zero (suc zero) zero (suc zero) n f g a b c h i j = (omega arith, omega arith, omega arith, omega arith)
par_table zero (suc zero) (suc zero) zero n f g a b c h i j = (omega arith, omega arith, omega arith, omega arith)
par_table zero (suc zero) (suc zero) (suc zero) n f g a b c h i j = (omega arith, omega arith, omega arith, omega arith)
par_table (suc zero) zero zero zero n f g a b c h i j = (omega arith, omega arith, omega arith, omega arith)
par_table (suc zero) zero zero (suc zero) n f g a b c h i j = (omega arith, omega arith, omega arith, omega arith)
par_table (suc zero) zero (suc zero) zero n f g a b c h i j = (omega arith, omega arith, omega arith, omega arith)
par_table (suc zero) zero (suc zero) (suc zero) n f g a b c h i j = (omega arith, omega arith, omega arith, omega arith)
par_table d e p q n f g a b c h i j = absurd (omega arith)

par_law : GatesLaw Par par_layout par_outs [] nothing_pending par_stands
par_law b i v regs after q s ts us (c0, k0, (c1, k1, (c2, k2, (c3, k3, (c4, k4, (c5, k5, (c6, k6, (c7, k7, (c8, k8, (c9, k9, (c10, k10, none))))))))))) pulses values stands fired =
    let d : ℕ = nets.at regs (b + 2) in
    let e : ℕ = nets.at regs (b + 3) in
    let p : ℕ → ℕ = pulse_in v i in
    let r : State = fired.state in
    let now = flags q.phase d e stands in
    let counts = par_counts (value_in Par v i) q.phase q.number fired.before fired.list fired.between r ts now.3 fired.sooner in
    let next = flags r.phase (left_done r.phase) (right_done r.phase) counts.phase in
    let asked = fired.exactly (Req 2) in
    let apart : d + e ≤ 1 = omega (arith, now.0, now.1, now.2) in
    let left_adds : left_done r.phase + due 2 ts ≡ d + p 0 = counts.left ∙ (λ j. sym now.0 j + fired.exactly (Ans 0) j) in
    let right_adds : right_done r.phase + due 2 ts ≡ e + p 1 = counts.right ∙ (λ j. sym now.1 j + fired.exactly (Ans 1) j) in
    let table = par_table d e (p 0) (p 1) (due 2 ts) (left_done r.phase) (right_done r.phase) apart (pulses 0 (omega arith)) (pulses 1 (omega arith)) next.2 left_adds right_adds in
    let answer : nets.at v (b + 6) ≡ answered d e (p 0) (p 1) = rw (c6, c4, c5, c2, c3) refl in
    let left : nets.at after (b + 2) ≡ left_done r.phase = rw (k2, c9, c7, c2, answer) table.1 in
    let right : nets.at after (b + 3) ≡ right_done r.phase = rw (k3, c10, c8, c3, answer) table.2 in
    let stood = stand r.phase (nets.at after (b + 2)) (nets.at after (b + 3)) counts.phase left right in
    let to_left = buffered (nets.at v (b + 0)) (p 2) (times (Req 2) fired.list) (due 0 ts) (pulses 2 (omega arith)) c0 asked counts.to_left in
    let to_right = buffered (nets.at v (b + 1)) (p 2) (times (Req 2) fired.list) (due 1 ts) (pulses 2 (omega arith)) c1 asked counts.to_right in (
      (to_left.0, to_left.1, (to_right.0, to_right.1, (table.3, answer ∙ table.0, tt))),
      same_tokens [] us (sym fired.later.2),
      subst (λ (c : State). ParPhase c.phase (nets.at after (b + 2)) (nets.at after (b + 3))) (sym fired.later.1) stood,
    )

pub par_gates : KeepLawsInEachOrder Par par_layout par_outs [] nothing_pending par_stands
par_gates rank =
    record {
      law = law_in_order Par par_layout par_outs [] nothing_pending par_stands par_law rank;
      rests = λ b regs zeros. ((zeros (b + 2), zeros (b + 3)), refl);
      silent = λ b i v regs after settled pulses. tt;
      fits = par_fits;
    }
