-- The gates of a choice keep the laws, of commands and of expressions.
--
-- Read first: ChoiceCounts, ChoiceFit.
use Rattle.std.proofs.Common.{◌≡◌, ℕ, ◌+◌, ◌≤◌, List, [], refl, sym, ◌∙◌, ap, subst, arith}
use Rattle.std.specs.Prelude.{◌-◌, ◌<◌, nat_eq, if◌then◌else◌, bit_or, bit_and}
use Rattle.gos_types.specs.declared.widths.TheConstants.{GREATEST_WIDTH}
use Rattle.gos_netlist.specs.Settling as nets
use Rattle.gos_plan.specs.Kinds.{If}
use Rattle.gos_plan.specs.Firing.{State, Slot, Req, Ans, Token}
use Rattle.gos_macro.specs.Gates.{Incoming, pulse_in, value_in, SameTokens, nothing_pending}
use Rattle.gos_plan.specs.Firings.{due, value_due, times}
use Rattle.gos_macro.specs.Law.{Order, Fired, FiredInOrder, PulsesComeIn, LawInOrder, StaySilent}
use Rattle.gos_macro.specs.Kept.{KeepLawsInEachOrder}
use Rattle.gos_macro.specs.laws.AnyOrder.{fired_in_some, EachShown, shown_each}
use Rattle.gos_macro.specs.laws.Passing.{repeated, bears, same_tokens}
use Rattle.gos_plan.specs.laws.Inversion.{passes}
use Rattle.gos_control.specs.laws.Pulses.{test_table, or_table, joined, neither, passed_over}
use Rattle.gos_control.specs.Choice.{choice_com_layout, choice_exp_layout, choice_com_outs, choice_exp_outs, IsChoicePhase, choice_stands}
use Rattle.gos_control.specs.laws.ChoiceCounts.{ChoiceCounts, choice_counts}
use Rattle.gos_control.specs.laws.ChoiceFit.{choice_com_fits, choice_exp_fits}

-- what is due at each handshake, by the pulses that come in: of answers that is said where one is due at most
record ChoiceDue (x p : ℕ → ℕ) (ts : List Token) : Type 0 where
  test : bit_or (p 3) (p 3) ≡ due 0 ts
  first : bit_and (p 0) (x 0) ≡ due 1 ts
  second : bit_and (p 0) (1 - x 0) ≡ due 2 ts
  answer : due 3 ts ≤ 1 → bit_or (p 1) (p 2) ≡ due 3 ts
  value : due 3 ts ≤ 1 → (if nat_eq (p 2) 1 then x 2 else (if nat_eq (p 1) 1 then x 1 else 0)) ≡ value_due 3 ts

choice_due : (x p : ℕ → ℕ) (fs : List Slot) (r : State) (ts : List Token) → p 0 ≤ 1 → p 3 ≤ 1 → x 0 < 2 → times (Req 3) fs ≡ p 3 → times (Ans 0) fs ≡ p 0
    → times (Ans 1) fs ≡ p 1 → times (Ans 2) fs ≡ p 2 → ChoiceCounts x fs r ts → ChoiceDue x p ts
choice_due x p fs r ts small small_request bit is_r is_p is_a is_c counts =
    let table = test_table (p 0) (x 0) small bit in
    record {
      test = passes (p 3) small_request ∙ sym (counts.to_test ∙ is_r);
      first = table.0 ∙ sym (counts.to_first ∙ (λ j. if nat_eq (x 0) 1 then is_p j else 0));
      second = table.1 ∙ sym (counts.to_second ∙ (λ j. if nat_eq (x 0) 1 then 0 else is_p j));
      answer = λ alone. or_table (p 1) (p 2) (apart alone) ∙ sym (counts.answers ∙ (λ j. is_a j + is_c j));
      value = λ alone. sym (counts.value ∙ ((λ j. repeated (is_a j) (x 1) + repeated (is_c j) (x 2)) ∙ joined (p 1) (p 2) (x 1) (x 2) (apart alone)));
    }
  where
    apart : due 3 ts ≤ 1 → p 1 + p 2 ≤ 1
    apart alone = let all = counts.answers in omega (arith, all, is_a, is_c, alone)

-- nothing is late, and nothing is held
nothing_late : (r s : State) (us : List Token) → IsChoicePhase r.phase → s ≡ r → us ≡ [] → SameTokens [] us × IsChoicePhase s.phase
nothing_late r s us a same none = (same_tokens [] us (sym none), subst (λ (c : State). IsChoicePhase c.phase) (sym same) a)

-- what the gates do for commands and for expressions alike
choice_cycle : (u : ℕ) (rank : Order) (i : Incoming) (v : nets.Numbers) (q s : State) (ts us : List Token)
    → PulsesComeIn (If u) v i → value_in (If u) v i 0 < 2 → IsChoicePhase q.phase → FiredInOrder (If u) [] rank v i q s ts us
    → ChoiceDue (value_in (If u) v i) (pulse_in v i) ts × SameTokens [] us × IsChoicePhase s.phase
choice_cycle u rank i v q s ts us pulses bit stands in_order =
    let fired : Fired (If u) [] v i q s ts us = fired_in_some (If u) [] rank v i q s ts us pulses in_order in
    let x : ℕ → ℕ = value_in (If u) v i in
    let r : State = fired.state in
    let came = fired.exactly in
    let counts = choice_counts u x q.phase q.number fired.before fired.list fired.between r ts stands fired.sooner in
    let shown = choice_due x (pulse_in v i) fired.list r ts (pulses 0 (omega arith)) (pulses 3 (omega arith)) bit (came (Req 3)) (came (Ans 0)) (came (Ans 1)) (came (Ans 2)) counts in
    let next = nothing_late r s us counts.phase fired.later.1 fired.later.2 in
    (shown, next.0, next.1)

choice_com_law : (rank : Order) → LawInOrder (If 0) choice_com_layout choice_com_outs [] nothing_pending choice_stands rank
choice_com_law rank b i v regs after q s ts us (c0, k0, (c1, k1, (c2, k2, (c3, k3, (c4, k4, none))))) pulses values stands fired =
    let cycle = choice_cycle 0 rank i v q s ts us pulses (values 0) stands fired in
    let shown = cycle.0 in
    let second = c3 ∙ (ap (bit_and (pulse_in v i 0)) c2 ∙ shown.second) in
    let each : EachShown v 0 (choice_com_outs b) ts = ((λ alone. c0 ∙ shown.test), ((λ alone. c1 ∙ shown.first), ((λ alone. second), ((λ alone. c4 ∙ shown.answer alone), tt)))) in
    (shown_each v (choice_com_outs b) ts each, cycle.1, cycle.2)

choice_exp_law : (w : ℕ) → 1 ≤ w → (rank : Order) → LawInOrder (If w) (choice_exp_layout w) choice_exp_outs [] nothing_pending choice_stands rank
choice_exp_law w some rank b i v regs after q s ts us (c0, k0, (c1, k1, (c2, k2, (c3, k3, (c4, k4, (c5, k5, (c6, k6, none))))))) pulses values stands fired =
    let x : ℕ → ℕ = value_in (If w) v i in
    let p : ℕ → ℕ = pulse_in v i in
    let cycle = choice_cycle w rank i v q s ts us pulses (values 0) stands fired in
    let shown = cycle.0 in
    let second = c3 ∙ (ap (bit_and (p 0)) c2 ∙ shown.second) in
    let of_first : nets.at v (i.value 1) ≡ x 1 = sym (bears w (nets.at v (i.value 1)) some) in
    let of_second : nets.at v (i.value 2) ≡ x 2 = sym (bears w (nets.at v (i.value 2)) some) in
    let gate = c5 ∙ ap (λ (n : ℕ). if nat_eq (p 1) 1 then n else 0) of_first in
    let mux = c6 ∙ (λ j. if nat_eq (p 2) 1 then of_second j else gate j) in
    let each : EachShown v 0 (choice_exp_outs b) ts =
    ((λ alone. c0 ∙ shown.test), ((λ alone. c1 ∙ shown.first), ((λ alone. second), ((λ alone. (c4 ∙ shown.answer alone, mux ∙ shown.value alone)), tt)))) in
    (shown_each v (choice_exp_outs b) ts each, cycle.1, cycle.2)

choice_exp_silent : (w : ℕ) → StaySilent (If w) (choice_exp_layout w) choice_exp_outs
choice_exp_silent w b i v regs after (c0, k0, (c1, k1, (c2, k2, (c3, k3, (c4, k4, (c5, k5, (c6, k6, none))))))) pulses =
    (no_number, tt)
  where
    no_number : nets.at v (b + 4) ≡ 0 → nets.at v (b + 6) ≡ 0
    no_number no_answer =
        let parts = neither (pulse_in v i 1) (pulse_in v i 2) (sym c4 ∙ no_answer) in
        let first = c5 ∙ passed_over (pulse_in v i 1) (nets.at v (i.value 1)) 0 parts.0 in
        c6 ∙ (passed_over (pulse_in v i 2) (nets.at v (i.value 2)) (nets.at v (b + 5)) parts.1 ∙ first)

pub choice_com_gates : KeepLawsInEachOrder (If 0) choice_com_layout choice_com_outs [] nothing_pending choice_stands
choice_com_gates rank =
    record {
      law = choice_com_law rank;
      rests = λ b regs zeros. (tt, refl);
      silent = λ b i v regs after settled pulses. tt;
      fits = choice_com_fits;
    }

pub choice_exp_gates : (w : ℕ) → 1 ≤ w → w ≤ GREATEST_WIDTH → KeepLawsInEachOrder (If w) (choice_exp_layout w) choice_exp_outs [] nothing_pending choice_stands
choice_exp_gates w some small rank =
    record {
      law = choice_exp_law w some rank;
      rests = λ b regs zeros. (tt, refl);
      silent = choice_exp_silent w;
      fits = choice_exp_fits w some small;
    }
