-- The gates of a choice fit into a netlist.
--
-- Read first: Choice; Fit.
use Rattle.std.proofs.Common.{inl, inr, ℕ, ◌≤◌, refl, arith}
use Rattle.gos_types.specs.declared.widths.TheConstants.{GREATEST_WIDTH}
use Rattle.gos_plan.specs.Kinds.{If}
use Rattle.gos_macro.specs.Fit.{GatesFit}
use Rattle.gos_control.specs.Choice.{choice_com_layout, choice_exp_layout, choice_com_outs, choice_exp_outs}

pub choice_com_fits : GatesFit (If 0) choice_com_layout choice_com_outs
choice_com_fits =
    record {
      outgoing = λ b i. (
        (refl, (0, _, refl, refl, refl)),
        ((refl, (1, _, refl, refl, refl)), ((refl, (3, _, refl, refl, refl)), ((refl, (4, _, refl, refl, refl)), tt))),
      );
      inner = λ b i. ((λ same. cc same), ((λ same. cc same), ((λ same. cc same), ((λ same. cc same), ((λ same. cc same), tt)))));
      order = λ b i. (
        (inl (3, omega arith, inl refl), (inl (3, omega arith, inl refl), tt)),
        (
          (inl (0, omega arith, inl refl), (inl (0, omega arith, inr (omega arith, refl)), tt)),
          (
            (inl (0, omega arith, inr (omega arith, refl)), tt),
            (
              (inl (0, omega arith, inl refl), (inr (2, _, refl, refl, inl (omega arith)), tt)),
              ((inl (1, omega arith, inl refl), (inl (2, omega arith, inl refl), tt)), tt),
            ),
          ),
        ),
      );
      widths = λ b i bits come (w0, (w1, (w2, (w3, (w4, none))))).
          let p0 = come 0 (omega arith) in
          let test = p0.1 (omega arith) in
          let p1 = (come 1 (omega arith)).0 in
          let p2 = (come 2 (omega arith)).0 in
          let p3 = (come 3 (omega arith)).0 in (
            (omega arith, omega arith, (p3, p3)),
            (
              (omega arith, omega arith, (p0.0, test)),
              ((omega arith, omega arith, test), ((omega arith, omega arith, (p0.0, w2)), ((omega arith, omega arith, (p1, p2)), tt))),
            ),
          );
    }

pub choice_exp_fits : (w : ℕ) → 1 ≤ w → w ≤ GREATEST_WIDTH → GatesFit (If w) (choice_exp_layout w) choice_exp_outs
choice_exp_fits w some small =
    record {
      outgoing = λ b i. (
        (refl, (0, _, refl, refl, refl)),
        (
          (refl, (1, _, refl, refl, refl)),
          ((refl, (3, _, refl, refl, refl)), ((some, (4, _, refl, refl, refl), (6, _, refl, refl, refl)), tt)),
        ),
      );
      inner = λ b i. (
        (λ same. cc same),
        ((λ same. cc same), ((λ same. cc same), ((λ same. cc same), ((λ same. cc same), ((λ same. cc same), ((λ same. cc same), tt)))))),
      );
      order = λ b i. (
        (inl (3, omega arith, inl refl), (inl (3, omega arith, inl refl), tt)),
        (
          (inl (0, omega arith, inl refl), (inl (0, omega arith, inr (omega arith, refl)), tt)),
          (
            (inl (0, omega arith, inr (omega arith, refl)), tt),
            (
              (inl (0, omega arith, inl refl), (inr (2, _, refl, refl, inl (omega arith)), tt)),
              (
                (inl (1, omega arith, inl refl), (inl (2, omega arith, inl refl), tt)),
                (
                  (inl (1, omega arith, inl refl), (inl (1, omega arith, inr (some, refl)), tt)),
                  (
                    (
                      inl (2, omega arith, inl refl),
                      (inl (2, omega arith, inr (some, refl)), (inr (5, _, refl, refl, inl (omega arith)), tt)),
                    ),
                    tt,
                  ),
                ),
              ),
            ),
          ),
        ),
      );
      widths = λ b i bits come (w0, (w1, (w2, (w3, (w4, (w5, (w6, none))))))).
          let p0 = come 0 (omega arith) in
          let test = p0.1 (omega arith) in
          let p1 = come 1 (omega arith) in
          let p2 = come 2 (omega arith) in
          let p3 = (come 3 (omega arith)).0 in (
            (omega arith, omega arith, (p3, p3)),
            (
              (omega arith, omega arith, (p0.0, test)),
              (
                (omega arith, omega arith, test),
                (
                  (omega arith, omega arith, (p0.0, w2)),
                  (
                    (omega arith, omega arith, (p1.0, p2.0)),
                    ((some, small, (p1.0, p1.1 some)), ((some, small, (p2.0, p2.1 some, w5)), tt)),
                  ),
                ),
              ),
            ),
          );
    }
