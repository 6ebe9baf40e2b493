-- The lines of cells, kind by kind: what their numbers make.
use Rattle.std.proofs.Common.{◌≡◌, ℕ, ◌-◌, ◌^◌, ◌<◌, ◌≤◌, List, [], ◌∷◌, ◌++◌, refl, sym, ◌∙◌, ap, subst, arith, codes}
use Rattle.std.proofs.Math.Nat.{one-le-pow}
use Rattle.std.specs.List.{AllByRecursion}
use Rattle.gos_lex.specs.Items.{Misses}
use Rattle.gos_lex.proofs.SequenceLemmas.{misses_as}
use Rattle.gos_netlist.specs.Nets.{Function, Input, Const, Not, And, Or, Xor, Mux, Add, Sub, Eq, Less, Gate, Reg, pins}
use Rattle.gos_netlist.specs.Writable.{IsNumber, OperandsFit}
use Rattle.gos_verilog.specs.declared.cell_line.Kind.{Kind}
use Rattle.gos_verilog.specs.declared.cell_line.Kind.TheVariants as kinds
use Rattle.gos_verilog.specs.Lines.{driver_of}
use Rattle.gos_verilog.specs.inner.Slots.{Slot', IsSlot, FitSlots, line_text, IsLine}
use Rattle.gos_verilog.specs.inner.CellLines.{HasKind, IsKindLine, exactly, net_behind, target_slot, binary_slots, kind_slots, kind_tail, made}
use Rattle.gos_verilog.proofs.KindTextLemmas.{const_text, not_text, binary_text, mux_text, gate_text, reg_text}

-- the numbers of two, three or four slots
fit_two : (s t : Slot') (ns : List ℕ) → FitSlots (s ∷ t ∷ []) ns → (a b : ℕ) × IsSlot s a × IsSlot t b × (ns ≡ a ∷ b ∷ [])
fit_two s t [] fit = absurd fit
fit_two s t (a ∷ []) fit = absurd fit.1
fit_two s t (a ∷ b ∷ []) fit = (a, b, fit.0, fit.1.0, refl)
fit_two s t (a ∷ b ∷ c ∷ ns) fit = absurd fit.1.1

fit_three : (s t u : Slot') (ns : List ℕ) → FitSlots (s ∷ t ∷ u ∷ []) ns → (a b c : ℕ) × IsSlot s a × IsSlot t b × IsSlot u c × (ns ≡ a ∷ b ∷ c ∷ [])
fit_three s t u [] fit = absurd fit
fit_three s t u (a ∷ ns) fit = let rest = fit_two t u ns fit.1 in (a, rest.0, rest.1, fit.0, rest.2, rest.3, ap (λ more. a ∷ more) rest.4)

fit_four : (s t u v : Slot') (ns : List ℕ) → FitSlots (s ∷ t ∷ u ∷ v ∷ []) ns
    → (a b c d : ℕ) × IsSlot s a × IsSlot t b × IsSlot u c × IsSlot v d × (ns ≡ a ∷ b ∷ c ∷ d ∷ [])
fit_four s t u v [] fit = absurd fit
fit_four s t u v (a ∷ ns) fit =
    let rest = fit_three t u v ns fit.1 in (a, rest.0, rest.1, rest.2, fit.0, rest.3, rest.4, rest.5, ap (λ more. a ∷ more) rest.6)

-- what the numbers of a line of this kind make, and that its text is that of the slots
pub record IsMade (kind : Kind) (i w : ℕ) (ns : List ℕ) : Type 0 where
  pub kind_is : HasKind kind w (made kind ns)
  pub text : line_text (kind_slots kind i w) (kind_tail kind) ns ≡ driver_of i w [] (made kind ns)

same_number : (n m : ℕ) → (n ≤ m) × (m ≤ n) → m ≡ n
same_number n m is = omega (arith, is.0, is.1)

low : (w k : ℕ) → k ≤ 2 ^ w - 1 → k < 2 ^ w
low w k within = omega (arith, within, one-le-pow w 2 (omega arith))

const_made : (i w : ℕ) (ns : List ℕ) → FitSlots (kind_slots kinds.Const i w) ns → IsMade kinds.Const i w ns
const_made i w ns fit =
    let three = fit_three (target_slot i) (exactly (codes "= ") w 39) (record { before = codes "d"; low = 0; high = 2 ^ w - 1; end = 59 }) ns fit in
    let at_i = same_number i three.0 three.3 in
    let at_w = same_number w three.1 three.4 in
    let is : ns ≡ i ∷ w ∷ three.2 ∷ [] = three.6 ∙ (λ j. at_i j ∷ at_w j ∷ three.2 ∷ []) in
    subst (IsMade kinds.Const i w) (sym is) (record { kind_is = (refl, low w three.2 three.5.1); text = const_text i w three.2 })

not_made : (i w : ℕ) (ns : List ℕ) → FitSlots (kind_slots kinds.Not i w) ns → IsMade kinds.Not i w ns
not_made i w ns fit =
    let two = fit_two (target_slot i) (net_behind (codes "= ~n") 59) ns fit in
    let at_i = same_number i two.0 two.2 in
    let is : ns ≡ i ∷ two.1 ∷ [] = two.4 ∙ (λ j. at_i j ∷ two.1 ∷ []) in
    subst (IsMade kinds.Not i w) (sym is) (record { kind_is = (refl, (two.3.1, tt)); text = not_text i w two.1 })

-- the numbers of a line with a sign make a function of two nets
binary_made : (kind : Kind) (i w : ℕ) (word ns : List ℕ) → FitSlots (binary_slots i word) ns
    → ((a b : ℕ) → a ≤ 4294967295 → b ≤ 4294967295 → IsMade kind i w (i ∷ a ∷ b ∷ [])) → IsMade kind i w ns
binary_made kind i w word ns fit makes =
    let three = fit_three (target_slot i) (net_behind (codes "= n") 32) (net_behind word 59) ns fit in
    let at_i = same_number i three.0 three.3 in
    let is : ns ≡ i ∷ three.1 ∷ three.2 ∷ [] = three.6 ∙ (λ j. at_i j ∷ three.1 ∷ three.2 ∷ []) in
    subst (IsMade kind i w) (sym is) (makes three.1 three.2 three.4.1 three.5.1)

mux_made : (i w : ℕ) (ns : List ℕ) → FitSlots (kind_slots kinds.Mux i w) ns → IsMade kinds.Mux i w ns
mux_made i w ns fit =
    let four = fit_four (target_slot i) (net_behind (codes "= n") 32) (net_behind (codes "? n") 32) (net_behind (codes ": n") 59) ns fit in
    let at_i = same_number i four.0 four.4 in
    let is : ns ≡ i ∷ four.1 ∷ four.2 ∷ four.3 ∷ [] = four.8 ∙ (λ j. at_i j ∷ four.1 ∷ four.2 ∷ four.3 ∷ []) in
    subst (IsMade kinds.Mux i w) (sym is) (record { kind_is = (refl, (four.5.1, (four.6.1, (four.7.1, tt)))); text = mux_text i w four.1 four.2 four.3 })

gate_made : (i w : ℕ) (ns : List ℕ) → FitSlots (kind_slots kinds.Gate i w) ns → IsMade kinds.Gate i w ns
gate_made i w ns fit =
    let four = fit_four (target_slot i) (net_behind (codes "= n") 32) (net_behind (codes "? n") 32) (exactly (codes ": ") w 39) ns fit in
    let at_i = same_number i four.0 four.4 in
    let at_w = same_number w four.3 four.7 in
    let is : ns ≡ i ∷ four.1 ∷ four.2 ∷ w ∷ [] = four.8 ∙ (λ j. at_i j ∷ four.1 ∷ four.2 ∷ at_w j ∷ []) in
    subst (IsMade kinds.Gate i w) (sym is) (record { kind_is = (refl, (four.5.1, (four.6.1, tt))); text = gate_text i w four.1 four.2 })

reg_made : (i w : ℕ) (ns : List ℕ) → FitSlots (kind_slots kinds.Reg i w) ns → IsMade kinds.Reg i w ns
reg_made i w ns fit =
    let four = fit_four (exactly (codes "  always @(posedge clk) if (rst) n") i 32) (exactly (codes "<= ") w 39) (exactly (codes "d0; else n") i 32) (net_behind (codes "<= n") 59) ns fit in
    let at_i = same_number i four.0 four.4 in
    let at_w = same_number w four.1 four.5 in
    let at_j = same_number i four.2 four.6 in
    let is : ns ≡ i ∷ w ∷ i ∷ four.3 ∷ [] = four.8 ∙ (λ j. at_i j ∷ at_w j ∷ at_j j ∷ four.3 ∷ []) in
    subst (IsMade kinds.Reg i w) (sym is) (record { kind_is = (refl, (four.7.1, tt)); text = reg_text i w four.3 })

pub is_made : (kind : Kind) (i w : ℕ) (ns : List ℕ) → FitSlots (kind_slots kind i w) ns → IsMade kind i w ns
is_made kinds.Const i w ns fit = const_made i w ns fit
is_made kinds.Not i w ns fit = not_made i w ns fit
is_made kinds.Mux i w ns fit = mux_made i w ns fit
is_made kinds.Gate i w ns fit = gate_made i w ns fit
is_made kinds.Reg i w ns fit = reg_made i w ns fit
is_made kinds.And i w ns fit =
    binary_made kinds.And i w (codes "&" ++ codes " n") ns fit (λ a b is_a is_b. record { kind_is = (refl, (is_a, (is_b, tt))); text = binary_text i a b (codes "&") })
is_made kinds.Or i w ns fit =
    binary_made kinds.Or i w (codes "|" ++ codes " n") ns fit (λ a b is_a is_b. record { kind_is = (refl, (is_a, (is_b, tt))); text = binary_text i a b (codes "|") })
is_made kinds.Xor i w ns fit =
    binary_made kinds.Xor i w (codes "^" ++ codes " n") ns fit (λ a b is_a is_b. record { kind_is = (refl, (is_a, (is_b, tt))); text = binary_text i a b (codes "^") })
is_made kinds.Add i w ns fit =
    binary_made kinds.Add i w (codes "+" ++ codes " n") ns fit (λ a b is_a is_b. record { kind_is = (refl, (is_a, (is_b, tt))); text = binary_text i a b (codes "+") })
is_made kinds.Sub i w ns fit =
    binary_made kinds.Sub i w (codes "-" ++ codes " n") ns fit (λ a b is_a is_b. record { kind_is = (refl, (is_a, (is_b, tt))); text = binary_text i a b (codes "-") })
is_made kinds.Eq i w ns fit =
    binary_made kinds.Eq i w (codes "==" ++ codes " n") ns fit (λ a b is_a is_b. record { kind_is = (refl, (is_a, (is_b, tt))); text = binary_text i a b (codes "==") })
is_made kinds.Less i w ns fit =
    binary_made kinds.Less i w (codes "<" ++ codes " n") ns fit (λ a b is_a is_b. record { kind_is = (refl, (is_a, (is_b, tt))); text = binary_text i a b (codes "<") })

-- the nets of a function that fits are nets
pub nets_fit : (w : ℕ) (f : Function) → OperandsFit w f → AllByRecursion IsNumber (pins f)
nets_fit w Input fits = tt
nets_fit w (Const k) fits = tt
nets_fit w (Not a) fits = fits
nets_fit w (And a b) fits = fits
nets_fit w (Or a b) fits = fits
nets_fit w (Xor a b) fits = fits
nets_fit w (Mux s a b) fits = fits
nets_fit w (Add a b) fits = fits
nets_fit w (Sub a b) fits = fits
nets_fit w (Eq a b) fits = fits
nets_fit w (Less a b) fits = fits
nets_fit w (Gate s a) fits = fits
nets_fit w (Reg a) fits = fits

-- a line of this kind, by its slots
pub record IsUnmade (kind : Kind) (i w : ℕ) (f : Function) : Type 0 where
  pub numbers : List ℕ
  pub fit : FitSlots (kind_slots kind i w) numbers
  pub text : line_text (kind_slots kind i w) (kind_tail kind) numbers ≡ driver_of i w [] f

exact : (n : ℕ) → (n ≤ n) × (n ≤ n)
exact n = (omega arith, omega arith)

net : (a : ℕ) → a ≤ 4294967295 → (0 ≤ a) × (a ≤ 4294967295)
net a within = (omega arith, within)

below : (w k : ℕ) → k < 2 ^ w → (0 ≤ k) × (k ≤ 2 ^ w - 1)
below w k within = (omega arith, omega (arith, within))

-- the function is of the kind, so all others are out
pub is_unmade : (kind : Kind) (i w : ℕ) (f : Function) → HasKind kind w f → IsUnmade kind i w f
is_unmade kinds.Const i w (Const k) has =
    record { numbers = i ∷ w ∷ k ∷ []; fit = (exact i, (exact w, (below w k has.1, tt))); text = const_text i w k }
is_unmade kinds.Not i w (Not a) has = record { numbers = i ∷ a ∷ []; fit = (exact i, (net a has.1.0, tt)); text = not_text i w a }
is_unmade kinds.And i w (And a b) has =
    record { numbers = i ∷ a ∷ b ∷ []; fit = (exact i, (net a has.1.0, (net b has.1.1.0, tt))); text = binary_text i a b (codes "&") }
is_unmade kinds.Or i w (Or a b) has =
    record { numbers = i ∷ a ∷ b ∷ []; fit = (exact i, (net a has.1.0, (net b has.1.1.0, tt))); text = binary_text i a b (codes "|") }
is_unmade kinds.Xor i w (Xor a b) has =
    record { numbers = i ∷ a ∷ b ∷ []; fit = (exact i, (net a has.1.0, (net b has.1.1.0, tt))); text = binary_text i a b (codes "^") }
is_unmade kinds.Add i w (Add a b) has =
    record { numbers = i ∷ a ∷ b ∷ []; fit = (exact i, (net a has.1.0, (net b has.1.1.0, tt))); text = binary_text i a b (codes "+") }
is_unmade kinds.Sub i w (Sub a b) has =
    record { numbers = i ∷ a ∷ b ∷ []; fit = (exact i, (net a has.1.0, (net b has.1.1.0, tt))); text = binary_text i a b (codes "-") }
is_unmade kinds.Eq i w (Eq a b) has =
    record { numbers = i ∷ a ∷ b ∷ []; fit = (exact i, (net a has.1.0, (net b has.1.1.0, tt))); text = binary_text i a b (codes "==") }
is_unmade kinds.Less i w (Less a b) has =
    record { numbers = i ∷ a ∷ b ∷ []; fit = (exact i, (net a has.1.0, (net b has.1.1.0, tt))); text = binary_text i a b (codes "<") }
is_unmade kinds.Mux i w (Mux s a b) has =
    record {
      numbers = i ∷ s ∷ a ∷ b ∷ [];
      fit = (exact i, (net s has.1.0, (net a has.1.1.0, (net b has.1.1.1.0, tt))));
      text = mux_text i w s a b;
    }
is_unmade kinds.Gate i w (Gate s a) has =
    record { numbers = i ∷ s ∷ a ∷ w ∷ []; fit = (exact i, (net s has.1.0, (net a has.1.1.0, (exact w, tt)))); text = gate_text i w s a }
is_unmade kinds.Reg i w (Reg a) has =
    record { numbers = i ∷ w ∷ i ∷ a ∷ []; fit = (exact i, (exact w, (exact i, (net a has.1.0, tt)))); text = reg_text i w a }
is_unmade kind i w f has = absurd (cc (has.0))

-- where the slots of a kind break off, its line does
pub no_kind : (kind : Kind) (i w : ℕ) (text : List ℕ) (at place : ℕ) → Misses (IsLine (kind_slots kind i w) (kind_tail kind)) text at place → Misses (IsKindLine kind i w) text at place
no_kind kind i w text at place =
    misses_as (IsLine (kind_slots kind i w) (kind_tail kind)) (IsKindLine kind i w) text at place
    (λ bytes item. let is = is_made kind i w item.0 item.1 in (made kind item.0, is.kind_is, item.2 ∙ is.text))
    (λ bytes item. let is = is_unmade kind i w item.0 item.1 in (is.numbers, is.fit, item.2 ∙ sym is.text))
