-- The gates of an array fit into a netlist, and keep the laws.
--
-- Read first: ArrayKept, ArrayOrder, ArrayWidths.
use Rattle.std.proofs.Common.{ℕ, zero, suc, ◌+◌, ◌*◌, ◌≤◌, ◌++◌, ap, ◌∙◌, arith}
use Rattle.std.specs.Prelude.{nat_eq, if◌then◌else◌}
use Rattle.gos_netlist.specs.Settling as nets
use Rattle.gos_types.specs.declared.widths.TheConstants.{GREATEST_WIDTH}
use Rattle.gos_types.specs.Widths.{IsWidth}
use Rattle.gos_model.specs.Typing.{IsLength, index_width}
use Rattle.gos_plan.specs.Kinds.{Array}
use Rattle.gos_plan.specs.Firing.{Req, Ans}
use Rattle.gos_macro.specs.Gates.{held}
use Rattle.gos_macro.specs.Law.{StaySilent}
use Rattle.gos_macro.specs.Fit.{GatesFit}
use Rattle.gos_macro.specs.Kept.{KeepLawsInEachOrder}
use Rattle.gos_macro.specs.laws.AnyOrder.{law_in_order}
use Rattle.gos_macro.specs.laws.SettledCells.{settled_both}
use Rattle.gos_data.specs.BodyAnswer.{number_cells}
use Rattle.gos_data.specs.Array.{array_nets, array_words, array_cells, array_outs, array_late, array_pending, found, ArrayStands}
use Rattle.gos_data.specs.laws.Silent.{silent}
use Rattle.gos_data.specs.laws.WordsKept.{words_length}
use Rattle.gos_data.specs.laws.ArrayKept.{array_law}
use Rattle.gos_data.specs.laws.ArrayOrder.{array_inner, array_order, array_out}
use Rattle.gos_data.specs.laws.ArrayWidths.{IsIndexed, indexed, array_widths}

array_fits : (w n u : ℕ) → IsWidth w → IsIndexed n → u ≤ GREATEST_WIDTH → GatesFit (Array w n u) (array_cells w n u) (array_outs n u)
array_fits w n u width known small =
    record {
      outgoing = array_out w n u width;
      inner = array_inner w n u;
      order = array_order w n u width known.narrow.0;
      widths = array_widths w n u width known small;
    }

array_silent : (w n u : ℕ) → StaySilent (Array w n u) (array_cells w n u) (array_outs n u)
array_silent w n zero b i v regs after settled pulses =
    let (c0, k0, (c1, k1, (c2, k2, (c3, k3, (c4, k4, (c5, k5, (c6, k6, (c7, k7, (c8, k8, (c9, k9, (c10, k10, (c11, k11, (c12, k12, (c13, k13, (c14, k14, (c15, k15, rest)))))))))))))))) = settled in
    ((λ none. c15 ∙ ap (λ (m : ℕ). if nat_eq m 1 then nets.at v (b + 14) else 0) none), tt)
array_silent w n (suc u) b i v regs after settled pulses =
    let (c0, k0, (c1, k1, (c2, k2, (c3, k3, (c4, k4, (c5, k5, (c6, k6, (c7, k7, (c8, k8, (c9, k9, (c10, k10, (c11, k11, (c12, k12, (c13, k13, (c14, k14, (c15, k15, (c16, k16, (c17, k17, (c18, k18, rest))))))))))))))))))) = settled in
    let (c, k, nothing) = (settled_both v regs after b 19 (7 * n) (array_words w n b i) (number_cells (suc u) i) (words_length w (index_width n) (array_nets b i) b 19 0 (b + 17) n) rest).1 in (
      (λ none. c15 ∙ ap (λ (m : ℕ). if nat_eq m 1 then nets.at v (b + 14) else 0) none),
      (silent _ _ _ _ (pulses 0 (omega arith)) c18 c, tt),
    )

pub array_gates : (w n u : ℕ) → IsWidth w → IsLength n → u ≤ GREATEST_WIDTH
    → KeepLawsInEachOrder (Array w n u) (array_cells w n u) (array_outs n u) array_late array_pending (ArrayStands n)
array_gates w n u width long small rank =
    let known = indexed n long in
    record {
      law = law_in_order (Array w n u) (array_cells w n u) (array_outs n u) array_late array_pending (ArrayStands n) (array_law w n u width known.narrow.0) rank;
      rests = λ b regs zeros. (
        record {
          entered = omega (arith, zeros (b + 0));
          asked = omega (arith, zeros (b + 2));
          writes = omega (arith, zeros (b + 6));
          read = omega (arith, zeros (b + 12));
          written = omega (arith, zeros (b + 13));
          numbers = tt;
          access = tt;
        },
        (λ z. (found (zeros (b + 12) z) (zeros (b + 14) z) ++ held (Ans 3) (zeros (b + 13) z)) ++ (held (Req 0) (zeros (b + 0) z) ++ held (Req 1) (zeros (b + 2) z))),
      );
      silent = array_silent w n u;
      fits = array_fits w n u width known small;
    }
