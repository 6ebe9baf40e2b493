-- The gates of a local variable fit into a netlist, and keep the laws.
--
-- Read first: Local, LocalKept; Fit.
use Rattle.std.proofs.Common.{inl, inr, ℕ, zero, suc, ◌+◌, ◌≤◌, List, [], ◌++◌, refl, sym, arith}
use Rattle.std.specs.List.{AllByRecursion}
use Rattle.gos_netlist.specs.Nets.{Cell}
use Rattle.gos_netcheck.specs.CellRules.{HasRightWidths}
use Rattle.gos_types.specs.declared.widths.TheConstants.{GREATEST_WIDTH}
use Rattle.gos_types.specs.Widths.{IsWidth}
use Rattle.gos_plan.specs.Kinds.{Local, part_contacts}
use Rattle.gos_plan.specs.Firing.{Req, Ans}
use Rattle.gos_macro.specs.Gates.{Incoming, held}
use Rattle.gos_macro.specs.Law.{StaySilent}
use Rattle.gos_macro.specs.Fit.{IsKnown, NameEarlier, BitsComeIn, HaveBits, GatesFit}
use Rattle.gos_macro.specs.Kept.{KeepLawsInEachOrder}
use Rattle.gos_macro.specs.laws.AnyOrder.{law_in_order}
use Rattle.gos_data.specs.BodyAnswer.{number_cells}
use Rattle.gos_data.specs.Local.{variable_cells, local_cells, local_outs, local_late, local_pending, LocalStands}
use Rattle.gos_data.specs.laws.LocalKept.{local_law}
use Rattle.gos_data.specs.laws.Silent.{silent}

-- the cells of the variable, where others stand behind them
variable_order : (w u : ℕ) → IsWidth w → (b : ℕ) (i : Incoming) (behind : List Cell)
    → NameEarlier (part_contacts (Local w u)) i b (variable_cells w b i ++ behind) 9 behind
    → NameEarlier (part_contacts (Local w u)) i b (variable_cells w b i ++ behind) 0 (variable_cells w b i ++ behind)
variable_order w u width b i behind rest =
    let pulse : (h n : ℕ) → h ≤ 3 → IsKnown (part_contacts (Local w u)) i b (variable_cells w b i ++ behind) n (i.pulse h) = λ h n there. inl (h, omega (arith, there), inl refl) in
    let number : (n : ℕ) → IsKnown (part_contacts (Local w u)) i b (variable_cells w b i ++ behind) n (b + 7) = λ n. inr (7, _, refl, refl, inr (b + 6, refl)) in (
      (pulse 3 _ (omega arith), tt),
      (
        (pulse 1 1 (omega arith), (pulse 1 1 (omega arith), tt)),
        (
          (pulse 1 2 (omega arith), (number 2, tt)),
          (
            (pulse 2 _ (omega arith), tt),
            (
              (pulse 3 4 (omega arith), tt),
              (
                (inr (4, _, refl, refl, inl (omega arith)), (number 5, tt)),
                (
                  (pulse 2 6 (omega arith), (inl (2, omega arith, inr (width.0, refl)), (inr (5, _, refl, refl, inl (omega arith)), tt))),
                  ((inr (6, _, refl, refl, inl (omega arith)), tt), ((pulse 0 8 (omega arith), (pulse 0 8 (omega arith), tt)), rest)),
                ),
              ),
            ),
          ),
        ),
      ),
    )

local_order : (w u : ℕ) → IsWidth w → (b : ℕ) (i : Incoming) → NameEarlier (part_contacts (Local w u)) i b (local_cells w u b i) 0 (local_cells w u b i)
local_order w zero width b i = variable_order w 0 width b i [] tt
local_order w (suc u) width b i =
    variable_order w (suc u) width b i (number_cells (suc u) i) ((inl (0, omega arith, inl refl), (inl (0, omega arith, inr (omega arith, refl)), tt)), tt)

variable_widths : (w u : ℕ) → IsWidth w → (b : ℕ) (i : Incoming) (bits : List ℕ) (behind : List Cell) → BitsComeIn (part_contacts (Local w u)) i bits
    → HaveBits bits b 0 (variable_cells w b i) → AllByRecursion (HasRightWidths bits) behind
    → AllByRecursion (HasRightWidths bits) (variable_cells w b i ++ behind)
variable_widths w u (low, high) b i bits behind come (w0, (w1, (w2, (w3, (w4, (w5, (w6, (w7, (w8, nothing))))))))) rest =
    let body = (come 0 (omega arith)).0 in
    let read = (come 1 (omega arith)).0 in
    let write = come 2 (omega arith) in
    let request = (come 3 (omega arith)).0 in (
      (omega arith, omega arith, request),
      (
        (omega arith, omega arith, (read, read)),
        (
          (low, high, (read, w7)),
          (
            (omega arith, omega arith, write.0),
            (
              (omega arith, omega arith, request),
              (
                (low, high, (w4, w7)),
                ((low, high, (write.0, write.1 low, w5)), ((low, high, w6), ((omega arith, omega arith, (body, body)), rest))),
              ),
            ),
          ),
        ),
      ),
    )

local_widths : (w u : ℕ) → IsWidth w → u ≤ GREATEST_WIDTH → (b : ℕ) (i : Incoming) (bits : List ℕ) → BitsComeIn (part_contacts (Local w u)) i bits
    → HaveBits bits b 0 (local_cells w u b i) → AllByRecursion (HasRightWidths bits) (local_cells w u b i)
local_widths w zero width small b i bits come own = variable_widths w 0 width b i bits [] come own tt
local_widths w (suc u) width small b i bits come (w0, (w1, (w2, (w3, (w4, (w5, (w6, (w7, (w8, (w9, nothing)))))))))) =
    let own : HaveBits bits b 0 (variable_cells w b i) = (w0, (w1, (w2, (w3, (w4, (w5, (w6, (w7, (w8, tt))))))))) in
    let answer = come 0 (omega arith) in
    variable_widths w (suc u) width b i bits (number_cells (suc u) i) come own ((omega arith, small, (answer.0, answer.1 (omega arith))), tt)

local_fits : (w u : ℕ) → IsWidth w → u ≤ GREATEST_WIDTH → GatesFit (Local w u) (local_cells w u) (local_outs u)
local_fits w zero width small =
    record {
      outgoing = λ b i. (
        (refl, (0, _, refl, refl, refl)),
        (
          (width.0, (1, _, refl, refl, refl), (2, _, refl, refl, refl)),
          ((refl, (3, _, refl, refl, refl)), ((refl, (8, _, refl, refl, refl)), tt)),
        ),
      );
      inner = λ b i. (
        (λ same. cc same),
        ((λ same. cc same), ((λ same. cc same), ((λ same. cc same), ((λ same. cc same), ((λ same. cc same), ((λ same. cc same), ((λ same. cc same), ((λ same. cc same), tt)))))))),
      );
      order = local_order w 0 width;
      widths = local_widths w 0 width small;
    }
local_fits w (suc u) width small =
    record {
      outgoing = λ b i. (
        (refl, (0, _, refl, refl, refl)),
        (
          (width.0, (1, _, refl, refl, refl), (2, _, refl, refl, refl)),
          ((refl, (3, _, refl, refl, refl)), ((omega arith, (8, _, refl, refl, refl), (9, _, refl, refl, refl)), tt)),
        ),
      );
      inner = λ b i. (
        (λ same. cc same),
        ((λ same. cc same), ((λ same. cc same), ((λ same. cc same), ((λ same. cc same), ((λ same. cc same), ((λ same. cc same), ((λ same. cc same), ((λ same. cc same), ((λ same. cc same), tt))))))))),
      );
      order = local_order w (suc u) width;
      widths = local_widths w (suc u) width small;
    }

local_silent : (w u : ℕ) → StaySilent (Local w u) (local_cells w u) (local_outs u)
local_silent w zero b i v regs after (c0, k0, (c1, k1, (c2, k2, rest))) pulses = (silent _ _ _ _ (pulses 1 (omega arith)) c1 c2, tt)
local_silent w (suc u) b i v regs after
    (c0, k0, (c1, k1, (c2, k2, (c3, k3, (c4, k4, (c5, k5, (c6, k6, (c7, k7, (c8, k8, (c9, k9, nothing)))))))))) pulses =
    (silent _ _ _ _ (pulses 1 (omega arith)) c1 c2, (silent _ _ _ _ (pulses 0 (omega arith)) c8 c9, tt))

pub local_gates : (w u : ℕ) → IsWidth w → u ≤ GREATEST_WIDTH → KeepLawsInEachOrder (Local w u) (local_cells w u) (local_outs u) local_late local_pending LocalStands
local_gates w u width small rank =
    record {
      law = law_in_order (Local w u) (local_cells w u) (local_outs u) local_late local_pending LocalStands (local_law w u width) rank;
      rests = λ b regs zeros. (
        record {
          asked = omega (arith, zeros (b + 0));
          written = omega (arith, zeros (b + 3));
          number = sym (zeros (b + 7));
          phase = tt;
        },
        λ i. held (Req 0) (zeros (b + 0) i) ++ held (Ans 2) (zeros (b + 3) i),
      );
      silent = local_silent w u;
      fits = local_fits w u width small;
    }
