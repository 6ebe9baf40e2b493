-- The gates of two commands that run side by side fit into a netlist.
--
-- Read first: Par; Fit.
use Rattle.std.proofs.Common.{inl, inr, ℕ, ◌+◌, List, refl, arith}
use Rattle.std.specs.List.{AllByRecursion}
use Rattle.gos_netcheck.specs.CellRules.{HasRightWidths}
use Rattle.gos_plan.specs.Kinds.{Par, part_contacts}
use Rattle.gos_macro.specs.Gates.{Incoming}
use Rattle.gos_macro.specs.Fit.{IsKnown, NameEarlier, BitsComeIn, HaveBits, GatesFit}
use Rattle.gos_control.specs.Par.{par_layout, par_outs}

-- what comes in, an earlier cell, or a register
abbrev Known : ℕ → Incoming → ℕ → ℕ → Type 0
Known b i n net = IsKnown (part_contacts Par) i b (par_layout b i) n net

par_order : (b : ℕ) (i : Incoming) → NameEarlier (part_contacts Par) i b (par_layout b i) 0 (par_layout b i)
par_order b i =
    let zeroth : (n : ℕ) → Known b i n (i.pulse 0) = λ n. inl (0, omega arith, inl refl) in
    let first : (n : ℕ) → Known b i n (i.pulse 1) = λ n. inl (1, omega arith, inl refl) in
    let second : (n : ℕ) → Known b i n (i.pulse 2) = λ n. inl (2, omega arith, inl refl) in
    let left : (n : ℕ) → Known b i n (b + 2) = λ n. inr (2, _, refl, refl, inr (b + 9, refl)) in
    let right : (n : ℕ) → Known b i n (b + 3) = λ n. inr (3, _, refl, refl, inr (b + 10, refl)) in (
      (second 0, (second 0, tt)),
      (
        (second 1, (second 1, tt)),
        (
          (inr (9, _, refl, refl, inl (omega arith)), tt),
          (
            (inr (10, _, refl, refl, inl (omega arith)), tt),
            (
              (left 4, (zeroth 4, tt)),
              (
                (right 5, (first 5, tt)),
                (
                  (inr (4, _, refl, refl, inl (omega arith)), (inr (5, _, refl, refl, inl (omega arith)), tt)),
                  (
                    (left 7, (zeroth 7, tt)),
                    (
                      (right 8, (first 8, tt)),
                      (
                        (inr (7, _, refl, refl, inl (omega arith)), (inr (6, _, refl, refl, inl (omega arith)), tt)),
                        ((inr (8, _, refl, refl, inl (omega arith)), (inr (6, _, refl, refl, inl (omega arith)), tt)), tt),
                      ),
                    ),
                  ),
                ),
              ),
            ),
          ),
        ),
      ),
    )

par_widths : (b : ℕ) (i : Incoming) (bits : List ℕ) → BitsComeIn (part_contacts Par) i bits → HaveBits bits b 0 (par_layout b i)
    → AllByRecursion (HasRightWidths bits) (par_layout b i)
par_widths b i bits come (w0, (w1, (w2, (w3, (w4, (w5, (w6, (w7, (w8, (w9, (w10, none))))))))))) =
    let p0 = (come 0 (omega arith)).0 in
    let p1 = (come 1 (omega arith)).0 in
    let p2 = (come 2 (omega arith)).0 in (
      (omega arith, omega arith, (p2, p2)),
      (
        (omega arith, omega arith, (p2, p2)),
        (
          (omega arith, omega arith, w9),
          (
            (omega arith, omega arith, w10),
            (
              (omega arith, omega arith, (w2, p0)),
              (
                (omega arith, omega arith, (w3, p1)),
                (
                  (omega arith, omega arith, (w4, w5)),
                  (
                    (omega arith, omega arith, (w2, p0)),
                    (
                      (omega arith, omega arith, (w3, p1)),
                      ((omega arith, omega arith, (w7, w6)), ((omega arith, omega arith, (w8, w6)), tt)),
                    ),
                  ),
                ),
              ),
            ),
          ),
        ),
      ),
    )

pub par_fits : GatesFit Par par_layout par_outs
par_fits =
    record {
      outgoing = λ b i. ((refl, (0, _, refl, refl, refl)), ((refl, (1, _, refl, refl, refl)), ((refl, (6, _, refl, refl, refl)), tt)));
      inner = λ b i. (
        (λ same. cc same),
        (
          (λ same. cc same),
          (
            (λ same. cc same),
            (
              (λ same. cc same),
              (
                (λ same. cc same),
                ((λ same. cc same), ((λ same. cc same), ((λ same. cc same), ((λ same. cc same), ((λ same. cc same), ((λ same. cc same), tt)))))),
              ),
            ),
          ),
        ),
      );
      order = par_order;
      widths = par_widths;
    }
