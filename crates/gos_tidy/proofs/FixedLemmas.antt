-- What is tested of cells that show one number for ever, and what comes of it.
--
-- Read first: Steady, Fixed; MappedLemmas.
use Rattle.std.specs.Prelude.{◌≡◌, ◌≢◌, ◌⊎◌, ℕ, zero, suc, ◌≤◌, Bool, true, false, List, length, Some, slice_get, bit_and, nat_eq, nat_lt, if◌then◌else◌}
use Rattle.std.proofs.Common.{arith, refl, sym, ap, subst, inl, inr, ◌∙◌}
use Rattle.std.proofs.lemmas.Bool.{ne_eqb, le-ltb}
use Rattle.std.proofs.lemmas.Nat.{and_le_r}
use Rattle.gos_netlist.specs.Nets.{Function, Input, Const, Not, And, Or, Xor, Mux, Add, Sub, Eq, Less, Gate, Reg, Cell, NetPort, Netlist}
use Rattle.gos_tidy.specs.Mapped.{IsConst}
use Rattle.gos_tidy.specs.Steady.{ShowsAlways, IsSteady, IsSteadied}
use Rattle.gos_tidy.specs.inner.Reading.{FoldsTo, number_at}
use Rattle.gos_tidy.specs.inner.Fixed.{IsDecided, IsFixed, IsFixedAt, IsHeld, AreSteadied}
use Rattle.gos_tidy.proofs.MappedLemmas.{same_shown}

folds_always : (cells : List Cell) (w k : ℕ) (g : Function) → FoldsTo cells w g k → ShowsAlways cells w g k
folds_always cells w k g folds r i v consts =
    same_shown w r i g v (number_at cells) (λ a pin. consts a (number_at cells a) (folds.named a pin)) ∙ folds.shows r i

none_below : (x : ℕ) → nat_lt x 0 ≡ false
none_below x = le-ltb x 0 (omega arith)

other_selector : (s j a b : ℕ) → s ≡ j → j ≢ 1 → (if nat_eq s 1 then a else b) ≡ b
other_selector s j a b is other = ap (λ (x : ℕ). if nat_eq x 1 then a else b) is ∙ ap (λ (t : Bool). if t then a else b) (ne_eqb j 1 other)

either_side : (t : Bool) (a b k : ℕ) → a ≡ k → b ≡ k → (if t then a else b) ≡ k
either_side true a b k first second = first
either_side false a b k first second = second

pub decided_always : (cells : List Cell) (w k : ℕ) (g : Function) → IsDecided cells g k → ShowsAlways cells w g k
decided_always cells w k (And a b) (none, inl is) r i v consts = ap (λ (x : ℕ). bit_and x (v b)) (consts a 0 is) ∙ sym none
decided_always cells w k (And a b) (none, inr is) r i v consts =
    let less = and_le_r (v a) (v b) in
    let there = consts b 0 is in
    omega (arith, less, there, none)
decided_always cells w k (Mux s a b) (inl (one, is)) r i v consts =
    ap (λ (x : ℕ). if nat_eq x 1 then v a else v b) (consts s 1 one) ∙ consts a k is
decided_always cells w k (Mux s a b) (inr (inl (j, other, const, is))) r i v consts =
    other_selector (v s) j (v a) (v b) (consts s j const) other ∙ consts b k is
decided_always cells w k (Mux s a b) (inr (inr (first, second))) r i v consts =
    either_side (nat_eq (v s) 1) (v a) (v b) k (consts a k first) (consts b k second)
decided_always cells w k (Less a b) (none, is) r i v consts =
    ap (λ (x : ℕ). if nat_lt (v a) x then 1 else 0) (consts b 0 is) ∙ (ap (λ (t : Bool). if t then 1 else 0) (none_below (v a)) ∙ sym none)
decided_always cells w k (Gate s a) (none, inl (j, other, const)) r i v consts =
    other_selector (v s) j (v a) 0 (consts s j const) other ∙ sym none
decided_always cells w k (Gate s a) (none, inr is) r i v consts =
    either_side (nat_eq (v s) 1) (v a) 0 0 (consts a 0 is) refl ∙ sym none
decided_always cells w k Input never r i v consts = absurd never
decided_always cells w k (Const j) never r i v consts = absurd never
decided_always cells w k (Not a) never r i v consts = absurd never
decided_always cells w k (Or a b) never r i v consts = absurd never
decided_always cells w k (Xor a b) never r i v consts = absurd never
decided_always cells w k (Add a b) never r i v consts = absurd never
decided_always cells w k (Sub a b) never r i v consts = absurd never
decided_always cells w k (Eq a b) never r i v consts = absurd never
decided_always cells w k (Reg a) never r i v consts = absurd never

steady_at : (others : List Cell) (n : ℕ) (c : Cell) → IsFixedAt others n c → IsSteady others n c
steady_at others n c (k, low, is, inl folds) = (k, low, is, inl (folds_always others c.width k c.gate folds))
steady_at others n c (k, low, is, inr (inl decided)) = (k, low, is, inl (decided_always others c.width k c.gate decided))
steady_at others n c (k, low, is, inr (inr held)) = (k, low, is, inr held)

steadied_by : (net other : Netlist) → AreSteadied net.cells other.cells net.ports → other.ports ≡ net.ports → IsSteadied net other
steadied_by net other tested ports = record {
  each = tested.each;
  cells = λ n c there. by_kind n c (tested.held n c there);
  ports = ports;
  ends = tested.ends;
}
  where
    by_kind : (n : ℕ) (c : Cell) → IsHeld other.cells n c → (slice_get other.cells n ≡ Some c) ⊎ IsSteady other.cells n c
    by_kind n c (inl same) = inl same
    by_kind n c (inr fixed) = inr (steady_at other.cells n c fixed)

-- what is tested makes a netlist with steady cells as constants
pub steadied_right : (net other : Netlist) (cells others : List Cell) (ports : List NetPort) → cells ≡ net.cells → others ≡ other.cells → ports ≡ net.ports
    → other.ports ≡ ports → AreSteadied cells others ports → IsSteadied net other
steadied_right net other cells others ports of_net of_other at_net at_other tested =
    let First : List Cell → Type 0 = λ x. AreSteadied x others ports in
    let Second : List Cell → Type 0 = λ x. AreSteadied net.cells x ports in
    let Third : List NetPort → Type 0 = λ x. AreSteadied net.cells other.cells x in
    steadied_by net other (subst Third at_net (subst Second of_other (subst First of_net tested))) (at_other ∙ at_net)
