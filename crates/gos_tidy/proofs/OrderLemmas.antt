-- A netlist that is reduced has its cells in the order in which they stood, and no more of them.
--
-- Read first: Reduced, Alike.
use Rattle.std.proofs.Common.{◌≡◌, ◌⊎◌, inl, inr, ◌<◌, ◌≤◌, ℕ, zero, suc, List, length, slice_get, Some, refl, sym, ap, subst, ◌∙◌, arith}
use Rattle.std.proofs.lemmas.Option.{slice_get_within, slice_get-get_or, same_Some}
use Rattle.gos_netlist.specs.Nets.{Function, Input, Const, Not, And, Or, Xor, Mux, Add, Sub, Eq, Less, Gate, Reg, Cell, Netlist}
use Rattle.gos_netlist.specs.Settling.{at}
use Rattle.gos_tidy.specs.Mapped.{renamed, IsConst, IsKept}
use Rattle.gos_tidy.specs.Reduced.{IsReduced}
use Rattle.gos_tidy.specs.Alike.{Became, KeepsOrder}
use Rattle.gos_tidy.proofs.RenamedLemmas.{renamed_const, one_gate, one_width}
use Rattle.gos_tidy.proofs.QuotientLemmas.{kept_or_const, cell_there}
use Rattle.gos_tidy.proofs.RunLemmas.{drawn, length_drawn}

-- an element of what is drawn
pub drawn_is : (h : ℕ → ℕ) (k i m : ℕ) → slice_get (drawn h k) i ≡ Some m → (i < k) × (m ≡ h i)
drawn_is h zero i m is = absurd (cc is)
drawn_is h (suc k) zero m is = (omega arith, sym (same_Some (h 0) m is))
drawn_is h (suc k) (suc i) m is = let (low, same) = drawn_is (λ n. h (suc n)) k i m is in (omega (arith, low), same)

-- renaming all nets to 0 tells of a function which it is
pub kind_renamed : (f : ℕ → ℕ) (g : Function) → renamed (λ _. 0) (renamed f g) ≡ renamed (λ _. 0) g
kind_renamed f Input = refl
kind_renamed f (Const k) = refl
kind_renamed f (Not a) = refl
kind_renamed f (And a b) = refl
kind_renamed f (Or a b) = refl
kind_renamed f (Xor a b) = refl
kind_renamed f (Mux s a b) = refl
kind_renamed f (Add a b) = refl
kind_renamed f (Sub a b) = refl
kind_renamed f (Eq a b) = refl
kind_renamed f (Less a b) = refl
kind_renamed f (Gate s a) = refl
kind_renamed f (Reg a) = refl

-- numbers that rise are no less than their places
above_place : (h : ℕ → ℕ) (k : ℕ) → ((i j : ℕ) → i < j → j < k → h i < h j) → (i : ℕ) → i < k → i ≤ h i
above_place h k rises zero low = omega arith
above_place h k rises (suc i) low =
    let before = above_place h k rises i (omega (arith, low)) in
    let more = rises i (suc i) (omega arith) low in
    omega (arith, before, more)

few : (h : ℕ → ℕ) (k count : ℕ) → ((i j : ℕ) → i < j → j < k → h i < h j) → ((i : ℕ) → i < k → h i < count) → k ≤ count
few h zero count rises low = omega arith
few h (suc k) count rises low =
    let last = above_place h (suc k) rises k (omega arith) in
    let below = low k (omega arith) in
    omega (arith, last, below)

module _ (net other : Netlist) (reduced : IsReduced net other) where
  place : ℕ → ℕ
  place i = at reduced.roots (reduced.placing i)

  place_within : (i : ℕ) → i < length other.cells → reduced.placing i < length reduced.roots
  place_within i low =
      let (e, is) = cell_there other.cells i low in
      let within = slice_get_within reduced.merged (reduced.placing i) (record { width = e.width; gate = renamed reduced.placing e.gate }) (reduced.part.kept i e is) in
      omega (arith, within, reduced.quotient.each)

  place_is : (i : ℕ) → i < length other.cells → slice_get reduced.roots (reduced.placing i) ≡ Some (place i)
  unfolding place
  place_is i low = slice_get-get_or reduced.roots (reduced.placing i) 0 (place_within i low)

  place_rises : (i j : ℕ) → i < j → j < length other.cells → place i < place j
  place_rises i j less low =
      reduced.quotient.rises (reduced.placing i) (reduced.placing j) (place i) (place j) (reduced.part.rises i j less low)
      (place_is i (omega (arith, less, low))) (place_is j low)

  place_low : (i : ℕ) → i < length other.cells → place i < length net.cells
  place_low i low =
      let (to, c, there, stays) = reduced.quotient.stays (reduced.placing i) (place i) (place_is i low) in
      slice_get_within net.cells (place i) c there

  pub reduced_fewer : length other.cells ≤ length net.cells
  reduced_fewer = few place (length other.cells) (length net.cells) place_rises place_low

  became : (i : ℕ) (e : Cell) → slice_get other.cells i ≡ Some e → (c : Cell) × (slice_get net.cells (place i) ≡ Some c) × Became c e
  became i e is =
      let (to, c, there, stays) = reduced.quotient.stays (reduced.placing i) (place i) (place_is i (slice_get_within other.cells i e is)) in
      let (d, at_merged, width) = reduced.quotient.widths (place i) c there in
      let kept : slice_get reduced.merged (reduced.merging (place i)) ≡ Some (record { width = e.width; gate = renamed reduced.placing e.gate }) =
      subst (λ (x : ℕ). slice_get reduced.merged x ≡ Some (record { width = e.width; gate = renamed reduced.placing e.gate })) (sym to) (reduced.part.kept i e is) in (
        c,
        there,
        (
          one_width reduced.merged (reduced.merging (place i)) (record { width = e.width; gate = renamed reduced.placing e.gate }) d kept at_merged ∙ width,
          kind (place i) c kept (kept_or_const reduced.merged reduced.merging (place i) c stays),
        ),
      )
    where
      kind : (n : ℕ) (c : Cell) → slice_get reduced.merged (reduced.merging n) ≡ Some (record { width = e.width; gate = renamed reduced.placing e.gate })
          → IsKept reduced.merged reduced.merging n c ⊎ ((k : ℕ) × IsConst reduced.merged (reduced.merging n) k)
          → (renamed (λ _. 0) e.gate ≡ renamed (λ _. 0) c.gate) ⊎ ((k : ℕ) × (e.gate ≡ Const k))
      kind n c kept (inl was) =
          let same : renamed reduced.placing e.gate ≡ renamed reduced.merging c.gate =
          one_gate reduced.merged (reduced.merging n) (record { width = e.width; gate = renamed reduced.placing e.gate })
          (record { width = c.width; gate = renamed reduced.merging c.gate }) kept was in
          inl (sym (kind_renamed reduced.placing e.gate) ∙ (ap (renamed (λ _. 0)) same ∙ kind_renamed reduced.merging c.gate))
      kind n c kept (inr (k, (w, const))) =
          inr (
            k,
            renamed_const reduced.placing e.gate k
                (one_gate reduced.merged (reduced.merging n) (record { width = e.width; gate = renamed reduced.placing e.gate }) (record { width = w; gate = Const k }) kept const),
          )

  pub reduced_order : (places : List ℕ) × KeepsOrder net.cells other.cells places
  reduced_order = (
    drawn place (length other.cells),
    record {
      each = length_drawn place (length other.cells);
      rises = λ i j m n less at_m at_n.
          let (low, first) = drawn_is place (length other.cells) i m at_m in
          let (high, second) = drawn_is place (length other.cells) j n at_n in
          let rising = place_rises i j less high in
          omega (arith, rising, first, second);
      became = λ i m e at_m is.
          let (low, same) = drawn_is place (length other.cells) i m at_m in
          let (c, there, kind) = became i e is in
          (c, subst (λ (x : ℕ). slice_get net.cells x ≡ Some c) (sym same) there, kind);
    },
  )
