-- The gates of an assignment keep the laws.
--
-- Read first: Assign; Passing; Inversion of gos_plan.
use Rattle.std.proofs.Common.{◌≡◌, inl, inr, ℕ, suc, ◌+◌, List, [], ◌∷◌, refl, sym, ap, ◌∙◌, subst, arith}
use Rattle.std.specs.Prelude.{nat_eq, if◌then◌else◌}
use Rattle.std.specs.List.{AllByRecursion}
use Rattle.gos_netlist.specs.Settling as nets
use Rattle.gos_netcheck.specs.CellRules.{HasRightWidths}
use Rattle.gos_types.specs.Widths.{IsWidth}
use Rattle.gos_plan.specs.Kinds.{Assign, part_contacts}
use Rattle.gos_plan.specs.Firing.{Phase, Rest, Value, Writing, State, Slot, Req, Ans, Token, Row, row, at, put}
use Rattle.gos_macro.specs.Gates.{Incoming, pulse_in, value_in, nothing_pending}
use Rattle.gos_plan.specs.Firings.{due, value_due, Asked, Fires, times}
use Rattle.gos_macro.specs.Law.{GatesLaw, StaySilent}
use Rattle.gos_macro.specs.Fit.{BitsComeIn, HaveBits, GatesFit}
use Rattle.gos_macro.specs.Kept.{KeepLawsInEachOrder}
use Rattle.gos_macro.specs.laws.AnyOrder.{law_in_order}
use Rattle.gos_plan.specs.laws.Inversion.{by_one_row}
use Rattle.gos_macro.specs.laws.Passing.{repeated, buffered, let_through, bears, same_tokens}
use Rattle.gos_data.specs.Assign.{assign_cells, assign_outs, IsAssignPhase, assign_stands}
use Rattle.gos_data.specs.laws.Silent.{silent}

-- the rows
abbrev rest_row : ℕ → Row
rest_row n = row (Req 2) (at Value n) (λ v. put (Req 0) 0)

abbrev value_row : ℕ → Row
value_row n = row (Ans 0) (at Writing n) (put (Req 1))

abbrev writing_row : ℕ → Row
writing_row n = row (Ans 1) (at Rest n) (λ v. put (Ans 2) 0)

-- what a list of firings puts, and where it leads, where a is to be written
record Counts (a : ℕ) (fs : List Slot) (r : State) (ts : List Token) : Type 0 where
  asked : due 0 ts ≡ times (Req 2) fs
  written : due 1 ts ≡ times (Ans 0) fs
  number : value_due 1 ts ≡ repeated (times (Ans 0) fs) a
  answered : due 2 ts ≡ times (Ans 1) fs
  phase : IsAssignPhase r.phase

no_firing : (a : ℕ) (q r : State) (ts : List Token) → IsAssignPhase q.phase → r ≡ q → ts ≡ [] → Counts a [] r ts
no_firing a q r ts phase same none =
    record {
      asked = ap (due 0) none;
      written = ap (due 1) none;
      number = ap (value_due 1) none;
      answered = ap (due 2) none;
      phase = subst (λ (s : State). IsAssignPhase s.phase) (sym same) phase;
    }

counts : (w : ℕ) (x : ℕ → ℕ) (p : Phase) (o : Asked) (n : ℕ) (fs : List Slot) (o' : Asked) (r : State) (ts : List Token)
    → IsAssignPhase p → Fires (Assign w) x o (at p n) fs o' r ts → Counts (x 0) fs r ts
counts w x Rest o n [] o' r ts phase (h, same, none) = no_firing _ (at Rest n) r ts tt same none
counts w x Value o n [] o' r ts phase (h, same, none) = no_firing _ (at Value n) r ts tt same none
counts w x Writing o n [] o' r ts phase (h, same, none) = no_firing _ (at Writing n) r ts tt same none
counts w x Rest o n (s ∷ ss) o' r ts phase fires =
    let e = by_one_row (Assign w) x o (at Rest n) (rest_row n) s ss o' r ts refl fires in
    let ih = counts w x Value _ n ss o' r e.rest tt e.go in
    rw (e.is, e.puts)
    record { asked = ap suc ih.asked; written = ih.written; number = ih.number; answered = ih.answered; phase = ih.phase }
counts w x Value o n (s ∷ ss) o' r ts phase fires =
    let e = by_one_row (Assign w) x o (at Value n) (value_row n) s ss o' r ts refl fires in
    let ih = counts w x Writing _ n ss o' r e.rest tt e.go in
    rw (e.is, e.puts)
    record {
      asked = ih.asked;
      written = ap suc ih.written;
      number = ap (λ (m : ℕ). x 0 + m) ih.number;
      answered = ih.answered;
      phase = ih.phase;
    }
counts w x Writing o n (s ∷ ss) o' r ts phase fires =
    let e = by_one_row (Assign w) x o (at Writing n) (writing_row n) s ss o' r ts refl fires in
    let ih = counts w x Rest _ n ss o' r e.rest tt e.go in
    rw (e.is, e.puts)
    record { asked = ih.asked; written = ih.written; number = ih.number; answered = ap suc ih.answered; phase = ih.phase }
counts w x p o n fs o' r ts phase fires = absurd phase

assign_law : (w : ℕ) → IsWidth w → GatesLaw (Assign w) (λ b. assign_cells w) assign_outs [] nothing_pending assign_stands
assign_law w width b i v regs after q s ts us (c0, k0, (c1, k1, (c2, k2, (c3, k3, nothing)))) pulses values stands fired =
    let x = value_in (Assign w) v i in
    let p0 = pulse_in v i 0 in
    let known = counts w x q.phase fired.before q.number fired.list fired.between fired.state ts stands fired.sooner in
    let asked = buffered _ (pulse_in v i 2) _ _ (pulses 2 (omega arith)) c0 (fired.exactly (Req 2)) known.asked in
    let written = buffered _ p0 _ _ (pulses 0 (omega arith)) c1 (fired.exactly (Ans 0)) known.written in
    let answered = buffered _ (pulse_in v i 1) _ _ (pulses 1 (omega arith)) c3 (fired.exactly (Ans 1)) known.answered in
    let came = sym (bears w (nets.at v (i.value 0)) width.0) in
    let shown = c2 ∙ ap (λ (a : ℕ). if nat_eq p0 1 then a else 0) came in
    let number = let_through _ p0 (x 0) _ _ (pulses 0 (omega arith)) shown (fired.exactly (Ans 0)) known.number in (
      (asked.0, asked.1, (written.0, (written.1, number), (answered.0, answered.1, tt))),
      same_tokens [] us (sym fired.later.2),
      subst (λ (r : State). IsAssignPhase r.phase) (sym fired.later.1) known.phase,
    )

assign_silent : (w : ℕ) → StaySilent (Assign w) (λ b. assign_cells w) assign_outs
assign_silent w b i v regs after (c0, k0, (c1, k1, (c2, k2, (c3, k3, nothing)))) pulses = (silent _ _ _ _ (pulses 0 (omega arith)) c1 c2, tt)

assign_widths : (w : ℕ) → IsWidth w → (b : ℕ) (i : Incoming) (bits : List ℕ) → BitsComeIn (part_contacts (Assign w)) i bits
    → HaveBits bits b 0 (assign_cells w i) → AllByRecursion (HasRightWidths bits) (assign_cells w i)
assign_widths w (low, high) b i bits come (w0, (w1, (w2, (w3, nothing)))) =
    let number = come 0 (omega arith) in
    let done = (come 1 (omega arith)).0 in
    let request = (come 2 (omega arith)).0 in (
      (omega arith, omega arith, (request, request)),
      (
        (omega arith, omega arith, (number.0, number.0)),
        ((low, high, (number.0, number.1 low)), ((omega arith, omega arith, (done, done)), tt)),
      ),
    )

assign_fits : (w : ℕ) → IsWidth w → GatesFit (Assign w) (λ b. assign_cells w) assign_outs
assign_fits w width =
    record {
      outgoing = λ b i. (
        (refl, (0, _, refl, refl, refl)),
        ((width.0, (1, _, refl, refl, refl), (2, _, refl, refl, refl)), ((refl, (3, _, refl, refl, refl)), tt)),
      );
      inner = λ b i. ((λ same. cc same), ((λ same. cc same), ((λ same. cc same), ((λ same. cc same), tt))));
      order = λ b i. (
        (inl (2, omega arith, inl refl), (inl (2, omega arith, inl refl), tt)),
        (
          (inl (0, omega arith, inl refl), (inl (0, omega arith, inl refl), tt)),
          (
            (inl (0, omega arith, inl refl), (inl (0, omega arith, inr (width.0, refl)), tt)),
            ((inl (1, omega arith, inl refl), (inl (1, omega arith, inl refl), tt)), tt),
          ),
        ),
      );
      widths = assign_widths w width;
    }

pub assign_gates : (w : ℕ) → IsWidth w → KeepLawsInEachOrder (Assign w) (λ b. assign_cells w) assign_outs [] nothing_pending assign_stands
assign_gates w width rank = record { law = law_in_order (Assign w) (λ b. assign_cells w) assign_outs [] nothing_pending assign_stands (assign_law w width) rank; rests = λ b regs zeros. (tt, refl); silent = assign_silent w; fits = assign_fits w width }
