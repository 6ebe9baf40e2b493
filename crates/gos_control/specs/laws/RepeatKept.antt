-- The gates of a repeated command keep the laws.
--
-- Read first: RepeatCounts; Fit.
use Rattle.std.proofs.Common.{◌≡◌, inl, inr, ℕ, ◌+◌, ◌≤◌, List, ◌++◌, refl, sym, ◌∙◌, ap, arith}
use Rattle.std.specs.Prelude.{◌-◌, ◌<◌, nat_eq, if◌then◌else◌, bit_or, bit_and}
use Rattle.gos_netlist.specs.Settling as nets
use Rattle.gos_plan.specs.Kinds.{While}
use Rattle.gos_plan.specs.Firing.{State, Slot, Req, Ans, Token}
use Rattle.gos_macro.specs.Gates.{pulse_in, value_in, held}
use Rattle.gos_plan.specs.Firings.{due, times}
use Rattle.gos_macro.specs.Law.{Order, Fired, LawInOrder, RestsAtZero}
use Rattle.gos_macro.specs.Fit.{GatesFit}
use Rattle.gos_macro.specs.Kept.{KeepLawsInEachOrder}
use Rattle.gos_macro.specs.laws.AnyOrder.{fired_in_some, EachShown, shown_each}
use Rattle.gos_macro.specs.laws.Passing.{same_tokens}
use Rattle.gos_control.specs.laws.Pulses.{due_with_request, due_beside_request, test_table, or_table}
use Rattle.gos_control.specs.Repeat.{repeat_layout, repeat_outs, repeat_late, repeat_pending, RepeatStands}
use Rattle.gos_control.specs.laws.RepeatCounts.{RepeatCounts, repeat_counts, repeat_asks}

-- what is due at each handshake, by the register m and the pulses of the test's answer and of the caller's request: of requests
-- of the test that is said where one is due at most
record RepeatDue (x p : ℕ → ℕ) (m : ℕ) (ts : List Token) : Type 0 where
  test : due 0 (held (Req 0) m ++ ts) ≤ 1 → bit_or m (p 2) ≡ due 0 (held (Req 0) m ++ ts)
  body : bit_and (p 0) (x 0) ≡ due 1 (held (Req 0) m ++ ts)
  answer : bit_and (p 0) (1 - x 0) ≡ due 2 (held (Req 0) m ++ ts)

repeat_due : (x p : ℕ → ℕ) (m : ℕ) (fs : List Slot) (r : State) (ts : List Token) → m ≤ 1 → p 0 ≤ 1 → x 0 < 2 → times (Ans 0) fs ≡ p 0
    → times (Req 2) fs ≡ p 2 → times (Ans 1) fs ≡ 0 → RepeatCounts x fs r ts → RepeatDue x p m ts
repeat_due x p m fs r ts one small bit is is_request none counts =
    let table = test_table (p 0) (x 0) small bit in
    record {
      test = λ alone. or_table m (p 2) (apart alone) ∙ sym all;
      body = table.0 ∙ sym (due_beside_request 0 m ts one ∙ (counts.to_body ∙ (λ j. if nat_eq (x 0) 1 then is j else 0)));
      answer = table.1 ∙ sym (due_beside_request 1 m ts one ∙ (counts.to_caller ∙ (λ j. if nat_eq (x 0) 1 then 0 else is j)));
    }
  where
    all : due 0 (held (Req 0) m ++ ts) ≡ m + p 2
    all =
        let behind = due_with_request m ts one in
        let put = counts.to_test in
        omega (arith, behind, put, is_request, none)

    apart : due 0 (held (Req 0) m ++ ts) ≤ 1 → m + p 2 ≤ 1
    apart alone = omega (arith, alone, all)

repeat_law : (rank : Order) → LawInOrder While repeat_layout repeat_outs repeat_late repeat_pending RepeatStands rank
repeat_law rank b i v regs after q s ts us (c0, k0, (c1, k1, (c2, k2, (c3, k3, (c4, k4, none))))) pulses values stands in_order =
    let fired : Fired While repeat_late v i q s ts us = fired_in_some While repeat_late rank v i q s ts us pulses in_order in
    let x : ℕ → ℕ = value_in While v i in
    let m : ℕ = nets.at regs (b + 0) in
    let p : ℕ → ℕ = pulse_in v i in
    let r : State = fired.state in
    let came = fired.exactly in
    let counts = repeat_counts x q.phase q.number fired.before fired.list fired.between r ts stands.phase fired.sooner in
    let shown = repeat_due x p m fired.list r ts stands.one (pulses 0 (omega arith)) (values 0) (came (Ans 0)) (came (Req 2)) (came (Ans 1)) counts in
    let asks = repeat_asks x (p 1) r.phase r.number fired.between fired.behind s us counts.phase (pulses 1 (omega arith)) fired.later in
    let small = pulses 1 (omega arith) in
    let asked : nets.at v (b + 1) ≡ bit_or m (p 2) = c1 ∙ ap (λ (k : ℕ). bit_or k (p 2)) c0 in
    let each : EachShown v 0 (repeat_outs b) (repeat_pending b regs ++ ts) =
    ((λ alone. asked ∙ shown.test alone), ((λ alone. c2 ∙ shown.body), ((λ alone. c4 ∙ (ap (bit_and (p 0)) c3 ∙ shown.answer)), tt))) in (
      shown_each v (repeat_outs b) (repeat_pending b regs ++ ts) each,
      same_tokens (repeat_pending b after) us (ap (held (Req 0)) k0 ∙ asks.0),
      record { phase = asks.1; one = omega (arith, k0, small); tests = λ one. asks.2 (sym k0 ∙ one) },
    )

repeat_rests : RestsAtZero repeat_pending RepeatStands
repeat_rests b regs zeros =
    (record { phase = tt; one = omega (arith, zeros (b + 0)); tests = λ one. absurd (omega (arith, one, zeros (b + 0))) }, ap (held (Req 0)) (zeros (b + 0)))

repeat_fits : GatesFit While repeat_layout repeat_outs
repeat_fits =
    record {
      outgoing = λ b i. ((refl, (1, _, refl, refl, refl)), ((refl, (2, _, refl, refl, refl)), ((refl, (4, _, refl, refl, refl)), tt)));
      inner = λ b i. ((λ same. cc same), ((λ same. cc same), ((λ same. cc same), ((λ same. cc same), ((λ same. cc same), tt)))));
      order = λ b i. (
        (inl (1, omega arith, inl refl), tt),
        (
          (inr (0, _, refl, refl, inl (omega arith)), (inl (2, omega arith, inl refl), tt)),
          (
            (inl (0, omega arith, inl refl), (inl (0, omega arith, inr (omega arith, refl)), tt)),
            (
              (inl (0, omega arith, inr (omega arith, refl)), tt),
              ((inl (0, omega arith, inl refl), (inr (3, _, refl, refl, inl (omega arith)), tt)), tt),
            ),
          ),
        ),
      );
      widths = λ b i bits come (w0, (w1, (w2, (w3, (w4, none))))).
          let p0 = come 0 (omega arith) in
          let test = p0.1 (omega arith) in
          let p1 = (come 1 (omega arith)).0 in
          let p2 = (come 2 (omega arith)).0 in (
            (omega arith, omega arith, p1),
            (
              (omega arith, omega arith, (w0, p2)),
              ((omega arith, omega arith, (p0.0, test)), ((omega arith, omega arith, test), ((omega arith, omega arith, (p0.0, w3)), tt))),
            ),
          );
    }

pub repeat_gates : KeepLawsInEachOrder While repeat_layout repeat_outs repeat_late repeat_pending RepeatStands
repeat_gates rank =
    record {
      law = repeat_law rank;
      rests = repeat_rests;
      silent = λ b i v regs after settled pulses. tt;
      fits = repeat_fits;
    }
