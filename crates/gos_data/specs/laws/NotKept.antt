-- The gates of a complement keep the laws.
--
-- Read first: Not, WaitingKept; Passing.
use Rattle.std.proofs.Common.{inl, inr, ℕ, List, [], refl, sym, ap, ◌∙◌, subst, arith}
use Rattle.std.specs.Prelude.{nat_eq, if◌then◌else◌}
use Rattle.std.specs.List.{AllByRecursion}
use Rattle.gos_netlist.specs.Settling as nets
use Rattle.gos_netcheck.specs.CellRules.{HasRightWidths}
use Rattle.gos_types.specs.Widths.{IsWidth}
use Rattle.gos_plan.specs.Kinds.{Not, part_contacts}
use Rattle.gos_model.specs.Terms.{complement}
use Rattle.gos_plan.specs.Firing.{State, Req, Ans}
use Rattle.gos_macro.specs.Gates.{Incoming, pulse_in, value_in, nothing_pending}
use Rattle.gos_macro.specs.Law.{GatesLaw, StaySilent}
use Rattle.gos_macro.specs.Fit.{BitsComeIn, HaveBits, GatesFit}
use Rattle.gos_macro.specs.Kept.{KeepLawsInEachOrder}
use Rattle.gos_macro.specs.laws.AnyOrder.{law_in_order}
use Rattle.gos_macro.specs.laws.Passing.{buffered, let_through, bears, same_tokens}
use Rattle.gos_data.specs.Waiting.{IsWaitingPhase, waiting_stands}
use Rattle.gos_data.specs.Not.{not_cells, not_outs}
use Rattle.gos_data.specs.laws.WaitingKept.{counts}
use Rattle.gos_data.specs.laws.Silent.{silent}

not_law : (w : ℕ) → IsWidth w → GatesLaw (Not w) (not_cells w) not_outs [] nothing_pending waiting_stands
not_law w width b i v regs after q s ts us (c0, k0, (c1, k1, (c2, k2, (c3, k3, nothing)))) pulses values stands fired =
    let x = value_in (Not w) v i in
    let p0 = pulse_in v i 0 in
    let known = counts (Not w) (complement w) x q.phase fired.before q.number fired.list fired.between fired.state ts (λ n. (refl, refl)) stands fired.sooner in
    let asked = buffered _ (pulse_in v i 1) _ _ (pulses 1 (omega arith)) c0 (fired.exactly (Req 1)) known.asked in
    let answered = buffered _ p0 _ _ (pulses 0 (omega arith)) c1 (fired.exactly (Ans 0)) known.answered in
    let turned = c2 ∙ ap (complement w) (sym (bears w (nets.at v (i.value 0)) width.0)) in
    let shown = c3 ∙ ap (λ (a : ℕ). if nat_eq p0 1 then a else 0) turned in
    let number = let_through _ p0 (complement w (x 0)) _ _ (pulses 0 (omega arith)) shown (fired.exactly (Ans 0)) known.number in (
      (asked.0, asked.1, (answered.0, (answered.1, number), tt)),
      same_tokens [] us (sym fired.later.2),
      subst (λ (r : State). IsWaitingPhase r.phase) (sym fired.later.1) known.phase,
    )

not_silent : (w : ℕ) → StaySilent (Not w) (not_cells w) not_outs
not_silent w b i v regs after (c0, k0, (c1, k1, (c2, k2, (c3, k3, nothing)))) pulses = (silent _ _ _ _ (pulses 0 (omega arith)) c1 c3, tt)

not_widths : (w : ℕ) → IsWidth w → (b : ℕ) (i : Incoming) (bits : List ℕ) → BitsComeIn (part_contacts (Not w)) i bits
    → HaveBits bits b 0 (not_cells w b i) → AllByRecursion (HasRightWidths bits) (not_cells w b i)
not_widths w (low, high) b i bits come (w0, (w1, (w2, (w3, nothing)))) =
    let number = come 0 (omega arith) in
    let request = (come 1 (omega arith)).0 in (
      (omega arith, omega arith, (request, request)),
      ((omega arith, omega arith, (number.0, number.0)), ((low, high, number.1 low), ((low, high, (number.0, w2)), tt))),
    )

not_fits : (w : ℕ) → IsWidth w → GatesFit (Not w) (not_cells w) not_outs
not_fits w width =
    record {
      outgoing = λ b i. ((refl, (0, _, refl, refl, refl)), ((width.0, (1, _, refl, refl, refl), (3, _, refl, refl, refl)), tt));
      inner = λ b i. ((λ same. cc same), ((λ same. cc same), ((λ same. cc same), ((λ same. cc same), tt))));
      order = λ b i. (
        (inl (1, omega arith, inl refl), (inl (1, omega arith, inl refl), tt)),
        (
          (inl (0, omega arith, inl refl), (inl (0, omega arith, inl refl), tt)),
          (
            (inl (0, omega arith, inr (width.0, refl)), tt),
            ((inl (0, omega arith, inl refl), (inr (2, _, refl, refl, inl (omega arith)), tt)), tt),
          ),
        ),
      );
      widths = not_widths w width;
    }

pub not_gates : (w : ℕ) → IsWidth w → KeepLawsInEachOrder (Not w) (not_cells w) not_outs [] nothing_pending waiting_stands
not_gates w width rank = record { law = law_in_order (Not w) (not_cells w) not_outs [] nothing_pending waiting_stands (not_law w width) rank; rests = λ b regs zeros. (tt, refl); silent = not_silent w; fits = not_fits w width }
