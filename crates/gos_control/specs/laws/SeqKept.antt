-- The gates of a sequence keep the laws, with a command at its end and with an expression.
--
-- Read first: Seq. A firing takes one token and puts one, so that the counts of both are the same.
use Rattle.std.proofs.Common.{◌≡◌, inl, inr, ℕ, suc, ◌+◌, ◌≤◌, List, [], ◌∷◌, refl, sym, ◌∙◌, ap, subst, arith}
use Rattle.gos_types.specs.declared.widths.TheConstants.{GREATEST_WIDTH}
use Rattle.gos_netlist.specs.Settling as nets
use Rattle.gos_plan.specs.Kinds.{Seq}
use Rattle.gos_plan.specs.Firing.{Phase, Rest, First, Second, State, Slot, Req, Ans, Token, row, at, put}
use Rattle.gos_macro.specs.Gates.{pulse_in, value_in, SameTokens, nothing_pending}
use Rattle.gos_plan.specs.Firings.{due, value_due, Asked, Fires, times}
use Rattle.gos_macro.specs.Law.{GatesLaw, StaySilent}
use Rattle.gos_macro.specs.Kept.{KeepLawsInEachOrder}
use Rattle.gos_plan.specs.laws.Inversion.{by_one_row}
use Rattle.gos_macro.specs.laws.AnyOrder.{law_in_order}
use Rattle.gos_macro.specs.laws.Passing.{buffered, repeated, bears, let_through, same_tokens}
use Rattle.gos_control.specs.laws.Pulses.{neither, passed_over}
use Rattle.gos_control.specs.Seq.{seq_com_layout, seq_exp_layout, seq_com_outs, seq_exp_outs, IsSeqPhase, seq_stands}

-- what a list of firings puts, by the tokens that it takes
record SeqCounts (x : ℕ → ℕ) (fs : List Slot) (r : State) (ts : List Token) : Type 0 where
  first : due 0 ts ≡ times (Req 2) fs
  second : due 1 ts ≡ times (Ans 0) fs
  answer : due 2 ts ≡ times (Ans 1) fs
  value : value_due 2 ts ≡ repeated (times (Ans 1) fs) (x 1)
  phase : IsSeqPhase r.phase

no_firing : (x : ℕ → ℕ) (q : State) → IsSeqPhase q.phase → SeqCounts x [] q []
no_firing x q a = record { first = refl; second = refl; answer = refl; value = refl; phase = a }

seq_counts : (u : ℕ) (x : ℕ → ℕ) (p : Phase) (n : ℕ) (o : Asked) (fs : List Slot) (o' : Asked) (r : State) (ts : List Token) → IsSeqPhase p
    → Fires (Seq u) x o (at p n) fs o' r ts → SeqCounts x fs r ts
seq_counts u x Rest n o [] o' r ts a (c, e, f) = rw (e, f) (no_firing x (at Rest n) tt)
seq_counts u x First n o [] o' r ts a (c, e, f) = rw (e, f) (no_firing x (at First n) tt)
seq_counts u x Second n o [] o' r ts a (c, e, f) = rw (e, f) (no_firing x (at Second n) tt)
seq_counts u x Rest n o (s ∷ ss) o' r ts a h =
    let e = by_one_row (Seq u) x o (at Rest n) (row (Req 2) (at First n) (λ v. put (Req 0) 0)) s ss o' r ts refl h in
    let ih = seq_counts u x First n _ ss o' r e.rest tt e.go in
    rw (e.is, e.puts) (record { first = ap suc ih.first; second = ih.second; answer = ih.answer; value = ih.value; phase = ih.phase })
seq_counts u x First n o (s ∷ ss) o' r ts a h =
    let e = by_one_row (Seq u) x o (at First n) (row (Ans 0) (at Second n) (λ v. put (Req 1) 0)) s ss o' r ts refl h in
    let ih = seq_counts u x Second n _ ss o' r e.rest tt e.go in
    rw (e.is, e.puts) (record { first = ih.first; second = ap suc ih.second; answer = ih.answer; value = ih.value; phase = ih.phase })
seq_counts u x Second n o (s ∷ ss) o' r ts a h =
    let e = by_one_row (Seq u) x o (at Second n) (row (Ans 1) (at Rest n) (put (Ans 2))) s ss o' r ts refl h in
    let ih = seq_counts u x Rest n _ ss o' r e.rest tt e.go in
    let value = ap (λ (m : ℕ). x 1 + m) ih.value in
    rw (e.is, e.puts) (record { first = ih.first; second = ih.second; answer = ap suc ih.answer; value = value; phase = ih.phase })
seq_counts u x p n o fs o' r ts a h = absurd a

-- nothing is late, and nothing is held
nothing_late : (r s : State) (us : List Token) → IsSeqPhase r.phase → s ≡ r → us ≡ [] → SameTokens [] us × IsSeqPhase s.phase
nothing_late r s us a same none = (
  same_tokens [] us (sym none),
  subst (λ (c : State). IsSeqPhase c.phase) (sym same) a,
)

seq_com_law : GatesLaw (Seq 0) (λ b. seq_com_layout) seq_com_outs [] nothing_pending seq_stands
seq_com_law b i v regs after q s ts us (c0, k0, (c1, k1, (c2, k2, none))) pulses values stands fired =
    let x : ℕ → ℕ = value_in (Seq 0) v i in
    let r : State = fired.state in
    let came = fired.exactly in
    let counts = seq_counts 0 x q.phase q.number fired.before fired.list fired.between r ts stands fired.sooner in
    let p : ℕ → ℕ = pulse_in v i in
    let times_of : Slot → ℕ = λ (c : Slot). times c fired.list in
    let first = buffered (nets.at v (b + 0)) (p 2) (times_of (Req 2)) (due 0 ts) (pulses 2 (omega arith)) c0 (came (Req 2)) counts.first in
    let second = buffered (nets.at v (b + 1)) (p 0) (times_of (Ans 0)) (due 1 ts) (pulses 0 (omega arith)) c1 (came (Ans 0)) counts.second in
    let answer = buffered (nets.at v (b + 2)) (p 1) (times_of (Ans 1)) (due 2 ts) (pulses 1 (omega arith)) c2 (came (Ans 1)) counts.answer in
    let next = nothing_late r s us counts.phase fired.later.1 fired.later.2 in (
      (first.0, first.1, (second.0, second.1, (answer.0, answer.1, tt))),
      next.0,
      next.1,
    )

seq_exp_law : (w : ℕ) → 1 ≤ w → GatesLaw (Seq w) (λ b. seq_exp_layout w) seq_exp_outs [] nothing_pending seq_stands
seq_exp_law w some b i v regs after q s ts us (c0, k0, (c1, k1, (c2, k2, (c3, k3, none)))) pulses values stands fired =
    let x : ℕ → ℕ = value_in (Seq w) v i in
    let p : ℕ → ℕ = pulse_in v i in
    let r : State = fired.state in
    let came = fired.exactly in
    let counts = seq_counts w x q.phase q.number fired.before fired.list fired.between r ts stands fired.sooner in
    let times_of : Slot → ℕ = λ (c : Slot). times c fired.list in
    let first = buffered (nets.at v (b + 0)) (p 2) (times_of (Req 2)) (due 0 ts) (pulses 2 (omega arith)) c0 (came (Req 2)) counts.first in
    let second = buffered (nets.at v (b + 1)) (p 0) (times_of (Ans 0)) (due 1 ts) (pulses 0 (omega arith)) c1 (came (Ans 0)) counts.second in
    let answer = buffered (nets.at v (b + 2)) (p 1) (times_of (Ans 1)) (due 2 ts) (pulses 1 (omega arith)) c2 (came (Ans 1)) counts.answer in
    let next = nothing_late r s us counts.phase fired.later.1 fired.later.2 in
    let number = nets.at v (i.value 1) in
    let bits : x 1 ≡ number = bears w number some in
    let counted = counts.value ∙ ap (repeated (times_of (Ans 1))) bits in
    let value = let_through (nets.at v (b + 3)) (p 1) number (times_of (Ans 1)) (value_due 2 ts) (pulses 1 (omega arith)) c3 (came (Ans 1)) counted in (
      (first.0, first.1, (second.0, second.1, (answer.0, (answer.1, value), tt))),
      next.0,
      next.1,
    )

seq_exp_silent : (w : ℕ) → StaySilent (Seq w) (λ b. seq_exp_layout w) seq_exp_outs
seq_exp_silent w b i v regs after (c0, k0, (c1, k1, (c2, k2, (c3, k3, none)))) pulses = (no_number, tt)
  where
    no_number : nets.at v (b + 2) ≡ 0 → nets.at v (b + 3) ≡ 0
    no_number no_answer =
        let second = neither (pulse_in v i 1) (pulse_in v i 1) (sym c2 ∙ no_answer) in
        c3 ∙ passed_over (pulse_in v i 1) (nets.at v (i.value 1)) 0 second.0

pub seq_com_gates : KeepLawsInEachOrder (Seq 0) (λ b. seq_com_layout) seq_com_outs [] nothing_pending seq_stands
seq_com_gates rank =
    record {
      law = law_in_order (Seq 0) (λ b. seq_com_layout) seq_com_outs [] nothing_pending seq_stands seq_com_law rank;
      rests = λ b regs zeros. (tt, refl);
      silent = λ b i v regs after settled pulses. tt;
      fits =
          record {
            outgoing = λ b i. ((refl, (0, _, refl, refl, refl)), ((refl, (1, _, refl, refl, refl)), ((refl, (2, _, refl, refl, refl)), tt)));
            inner = λ b i. ((λ same. cc same), ((λ same. cc same), ((λ same. cc same), tt)));
            order = λ b i. (
              (inl (2, omega arith, inl refl), (inl (2, omega arith, inl refl), tt)),
              (
                (inl (0, omega arith, inl refl), (inl (0, omega arith, inl refl), tt)),
                ((inl (1, omega arith, inl refl), (inl (1, omega arith, inl refl), tt)), tt),
              ),
            );
            widths = λ b i bits come own.
                let p0 = (come 0 (omega arith)).0 in
                let p1 = (come 1 (omega arith)).0 in
                let p2 = (come 2 (omega arith)).0 in
                ((omega arith, omega arith, (p2, p2)), ((omega arith, omega arith, (p0, p0)), ((omega arith, omega arith, (p1, p1)), tt)));
          };
    }

pub seq_exp_gates : (w : ℕ) → 1 ≤ w → w ≤ GREATEST_WIDTH → KeepLawsInEachOrder (Seq w) (λ b. seq_exp_layout w) seq_exp_outs [] nothing_pending seq_stands
seq_exp_gates w some small rank =
    record {
      law = law_in_order (Seq w) (λ b. seq_exp_layout w) seq_exp_outs [] nothing_pending seq_stands (seq_exp_law w some) rank;
      rests = λ b regs zeros. (tt, refl);
      silent = seq_exp_silent w;
      fits =
          record {
            outgoing = λ b i. (
              (refl, (0, _, refl, refl, refl)),
              ((refl, (1, _, refl, refl, refl)), ((some, (2, _, refl, refl, refl), (3, _, refl, refl, refl)), tt)),
            );
            inner = λ b i. ((λ same. cc same), ((λ same. cc same), ((λ same. cc same), ((λ same. cc same), tt))));
            order = λ b i. (
              (inl (2, omega arith, inl refl), (inl (2, omega arith, inl refl), tt)),
              (
                (inl (0, omega arith, inl refl), (inl (0, omega arith, inl refl), tt)),
                (
                  (inl (1, omega arith, inl refl), (inl (1, omega arith, inl refl), tt)),
                  ((inl (1, omega arith, inl refl), (inl (1, omega arith, inr (some, refl)), tt)), tt),
                ),
              ),
            );
            widths = λ b i bits come own.
                let p0 = (come 0 (omega arith)).0 in
                let p1 = come 1 (omega arith) in
                let p2 = (come 2 (omega arith)).0 in (
                  (omega arith, omega arith, (p2, p2)),
                  (
                    (omega arith, omega arith, (p0, p0)),
                    ((omega arith, omega arith, (p1.0, p1.0)), ((some, small, (p1.0, p1.1 some)), tt)),
                  ),
                );
          };
    }
