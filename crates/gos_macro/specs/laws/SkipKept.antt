-- The gates of Skip keep the laws. The lemma stands here since an `impl` of `Macro` cites lemmas of `specs` alone.
use Rattle.std.proofs.Common.{◌≡◌, inl, inr, ◌⊎◌, ℕ, suc, List, [], ◌∷◌, Some, refl, sym, ◌∙◌, ap, subst, arith}
use Rattle.gos_plan.specs.Kinds.{Skip}
use Rattle.gos_plan.specs.Firing.{Rest, State, Slot, Req, Ans, Token, row, at, put, row_for}
use Rattle.gos_macro.specs.Gates.{pulse_in, value_in, nothing_pending}
use Rattle.gos_macro.specs.Law.{GatesLaw}
use Rattle.gos_plan.specs.Firings.{due, value_due, Asked, Fires, times}
use Rattle.gos_macro.specs.SmallGates.{skip_cells, skip_outs, skip_stands, SkipGates}
use Rattle.gos_macro.specs.laws.AnyOrder.{law_in_order}
use Rattle.gos_plan.specs.laws.Inversion.{first_or_later, no_row, stepped, passes, at_rest}

-- Skip: each request is answered.
skip_counts : (x : ℕ → ℕ) (o : Asked) (n : ℕ) (fs : List Slot) (p : Asked) (r : State) (ts : List Token) → Fires Skip x o (at Rest n) fs p r ts
    → (due 0 ts ≡ times (Req 0) fs) × (r.phase ≡ Rest)
skip_counts x o n [] p r ts (h0, h1, h2) = (ap (due 0) h2, ap (λ (q : State). q.phase) h1)
skip_counts x o n (s ∷ ss) p r ts (w, us, f, well, puts, go) = by_row (first_or_later (row (Req 0) (at Rest n) (λ v. put (Ans 0) 0)) w [] s f) (λ m q. skip_counts x q m ss p r)
  where
    by_row : ((Req 0 ≡ s) × (row (Req 0) (at Rest n) (λ v. put (Ans 0) 0) ≡ w)) ⊎ (row_for s [] ≡ Some w)
        → ((m : ℕ) (q : Asked) (vs : List Token) → Fires Skip x q (at Rest m) ss p r vs → (due 0 vs ≡ times (Req 0) ss) × (r.phase ≡ Rest))
        → (due 0 ts ≡ times (Req 0) (s ∷ ss)) × (r.phase ≡ Rest)
    by_row (inl (here, is)) ih =
        let e = stepped Skip x o (row (Req 0) (at Rest n) (λ v. put (Ans 0) 0)) w s ss p r ts us here is well puts go in
        let known = ih n _ e.rest e.go in
        (ap (due 0) e.puts ∙ (ap suc known.0 ∙ sym (ap (λ (c : Slot). times (Req 0) (c ∷ ss)) e.is)), known.1)
    by_row (inr none) ih = absurd (no_row w s none)

skip_law : GatesLaw Skip skip_cells skip_outs [] nothing_pending skip_stands
skip_law b i v regs after q s ts us settled pulses values stands fired =
    let early = subst (λ (c : State). Fires Skip (value_in Skip v i) fired.before c fired.list fired.between fired.state ts) (at_rest q stands) fired.sooner in
    let counts = skip_counts (value_in Skip v i) fired.before q.number fired.list fired.between fired.state ts early in
    let pulse = fired.exactly (Req 0) in
    let passed = passes (pulse_in v i 0) (pulses 0 (omega arith)) in (
      (omega (arith, counts.0, pulse, pulses 0 (omega arith)), settled.0 ∙ (passed ∙ sym (counts.0 ∙ pulse)), tt),
      (λ j. (sym (ap (due j) fired.later.2), sym (ap (value_due j) fired.later.2))),
      ap (λ (c : State). c.phase) fired.later.1 ∙ counts.1,
    )

pub skip_gates : SkipGates
skip_gates rank =
    record {
      law = law_in_order Skip skip_cells skip_outs [] nothing_pending skip_stands skip_law rank;
      rests = λ b regs zeros. (refl, refl);
      silent = λ b i v regs after settled pulses. tt;
      fits =
          record {
            outgoing = λ b i. ((refl, (0, _, refl, refl, refl)), tt);
            inner = λ b i. ((λ same. cc same), tt);
            order = λ b i. ((inl (0, omega arith, inl refl), (inl (0, omega arith, inl refl), tt)), tt);
            widths = λ b i bits come own. let first = come 0 (omega arith) in ((omega arith, omega arith, (first.0, first.0)), tt);
          };
    }
