-- The gates of a literal keep the laws.
--
-- Read first: Lit; Passing; Inversion of gos_plan.
use Rattle.std.proofs.Common.{◌≡◌, inl, inr, ℕ, suc, ◌+◌, ◌^◌, ◌<◌, List, [], ◌∷◌, refl, sym, ap, ◌∙◌, subst, arith}
use Rattle.std.specs.Prelude.{nat_eq, if◌then◌else◌}
use Rattle.std.specs.List.{AllByRecursion}
use Rattle.gos_netcheck.specs.CellRules.{HasRightWidths}
use Rattle.gos_types.specs.Widths.{IsWidth}
use Rattle.gos_plan.specs.Kinds.{Lit, part_contacts}
use Rattle.gos_plan.specs.Firing.{Phase, Rest, State, Slot, Req, Ans, Token, Row, row, at, put}
use Rattle.gos_macro.specs.Gates.{Incoming, pulse_in, value_in, nothing_pending}
use Rattle.gos_plan.specs.Firings.{due, value_due, Asked, Fires, times}
use Rattle.gos_macro.specs.Law.{GatesLaw, StaySilent}
use Rattle.gos_macro.specs.Fit.{BitsComeIn, HaveBits, GatesFit}
use Rattle.gos_macro.specs.Kept.{KeepLawsInEachOrder}
use Rattle.gos_macro.specs.laws.AnyOrder.{law_in_order}
use Rattle.gos_plan.specs.laws.Inversion.{by_one_row}
use Rattle.gos_macro.specs.laws.Passing.{repeated, buffered, let_through, same_tokens}
use Rattle.gos_data.specs.Lit.{lit_cells, lit_outs, IsLitPhase, lit_stands}
use Rattle.gos_data.specs.laws.Silent.{silent}

abbrev rest_row : ℕ → ℕ → Row
rest_row k n = row (Req 0) (at Rest n) (λ v. put (Ans 0) k)

-- what a list of firings puts, and where it leads
record Counts (k : ℕ) (fs : List Slot) (r : State) (ts : List Token) : Type 0 where
  answered : due 0 ts ≡ times (Req 0) fs
  number : value_due 0 ts ≡ repeated (times (Req 0) fs) k
  phase : IsLitPhase r.phase

counts : (w k : ℕ) (x : ℕ → ℕ) (p : Phase) (o : Asked) (n : ℕ) (fs : List Slot) (o' : Asked) (r : State) (ts : List Token)
    → IsLitPhase p → Fires (Lit w k) x o (at p n) fs o' r ts → Counts k fs r ts
counts w k x Rest o n [] o' r ts phase (h, same, none) =
    record {
      answered = ap (due 0) none;
      number = ap (value_due 0) none;
      phase = subst (λ (s : State). IsLitPhase s.phase) (sym same) tt;
    }
counts w k x Rest o n (s ∷ ss) o' r ts phase fires =
    let e = by_one_row (Lit w k) x o (at Rest n) (rest_row k n) s ss o' r ts refl fires in
    let ih = counts w k x Rest _ n ss o' r e.rest tt e.go in
    rw (e.is, e.puts) record { answered = ap suc ih.answered; number = ap (λ (m : ℕ). k + m) ih.number; phase = ih.phase }
counts w k x p o n fs o' r ts phase fires = absurd phase

lit_law : (w k : ℕ) → GatesLaw (Lit w k) (lit_cells w k) lit_outs [] nothing_pending lit_stands
lit_law w k b i v regs after q s ts us (c0, k0, (c1, k1, (c2, k2, nothing))) pulses values stands fired =
    let x = value_in (Lit w k) v i in
    let p0 = pulse_in v i 0 in
    let known = counts w k x q.phase fired.before q.number fired.list fired.between fired.state ts stands fired.sooner in
    let answered = buffered _ p0 _ _ (pulses 0 (omega arith)) c0 (fired.exactly (Req 0)) known.answered in
    let shown = c2 ∙ ap (λ (a : ℕ). if nat_eq p0 1 then a else 0) c1 in
    let number = let_through _ p0 k _ _ (pulses 0 (omega arith)) shown (fired.exactly (Req 0)) known.number in (
      (answered.0, (answered.1, number), tt),
      same_tokens [] us (sym fired.later.2),
      subst (λ (r : State). IsLitPhase r.phase) (sym fired.later.1) known.phase,
    )

lit_silent : (w k : ℕ) → StaySilent (Lit w k) (lit_cells w k) lit_outs
lit_silent w k b i v regs after (c0, k0, (c1, k1, (c2, k2, nothing))) pulses = (silent _ _ _ _ (pulses 0 (omega arith)) c0 c2, tt)

lit_widths : (w k : ℕ) → IsWidth w → k < 2 ^ w → (b : ℕ) (i : Incoming) (bits : List ℕ) → BitsComeIn (part_contacts (Lit w k)) i bits
    → HaveBits bits b 0 (lit_cells w k b i) → AllByRecursion (HasRightWidths bits) (lit_cells w k b i)
lit_widths w k (low, high) small b i bits come (w0, (w1, (w2, nothing))) =
    let request = (come 0 (omega arith)).0 in
    ((omega arith, omega arith, (request, request)), ((low, high, small), ((low, high, (request, w1)), tt)))

lit_fits : (w k : ℕ) → IsWidth w → k < 2 ^ w → GatesFit (Lit w k) (lit_cells w k) lit_outs
lit_fits w k width small =
    record {
      outgoing = λ b i. ((width.0, (0, _, refl, refl, refl), (2, _, refl, refl, refl)), tt);
      inner = λ b i. ((λ same. cc same), ((λ same. cc same), ((λ same. cc same), tt)));
      order = λ b i. (
        (inl (0, omega arith, inl refl), (inl (0, omega arith, inl refl), tt)),
        (tt, ((inl (0, omega arith, inl refl), (inr (1, _, refl, refl, inl (omega arith)), tt)), tt)),
      );
      widths = lit_widths w k width small;
    }

pub lit_gates : (w k : ℕ) → IsWidth w → k < 2 ^ w → KeepLawsInEachOrder (Lit w k) (lit_cells w k) lit_outs [] nothing_pending lit_stands
lit_gates w k width small rank =
    record { law = law_in_order (Lit w k) (lit_cells w k) lit_outs [] nothing_pending lit_stands (lit_law w k) rank; rests = λ b regs zeros. (tt, refl); silent = lit_silent w k; fits = lit_fits w k width small }
