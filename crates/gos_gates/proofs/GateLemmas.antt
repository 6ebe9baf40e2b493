-- What literals show, and gates one after another: they show the conjunctions of their literals behind what was shown before.
use Rattle.std.specs.Prelude.{◌≡◌, ℕ, ◌+◌, ◌*◌, ◌/◌, ◌%◌, ◌<◌, ◌≤◌, ◌⊎◌, Bool, true, false, not, ◌&&◌, List, [], ◌∷◌, ◌++◌, length, get_or, max, min}
use Rattle.std.proofs.Common.{arith, refl, sym, ap, subst, inl, inr, ◌∙◌, append_assoc}
use Rattle.std.proofs.lemmas.List.{get_or_append_left, get_or-append-add}
use Rattle.std.proofs.lemmas.Bool.{cases_lt}
use Rattle.gos_gates.specs.Gates.{Bits, shown_by, after_gates}
use Rattle.gos_gates.specs.Lowered.{complement, gate_of}
use Rattle.gos_gates.specs.inner.Layout.{plain, turned}

not_twice : (b : Bool) → not (not b) ≡ b
not_twice true = refl
not_twice false = refl

pub both_turn : (a b : Bool) → a && b ≡ b && a
both_turn true true = refl
both_turn true false = refl
both_turn false true = refl
both_turn false false = refl

-- a literal of a known remainder
shown_even : (bits : Bits) (l v : ℕ) → l ≡ 2 * v → shown_by bits l ≡ get_or bits v false
shown_even bits l v e =
    let r : l % 2 ≡ 0 = omega (arith, e) in
    let q : l / 2 ≡ v = omega (arith, e) in
    rw (r, q)

shown_odd : (bits : Bits) (l v : ℕ) → l ≡ 2 * v + 1 → shown_by bits l ≡ not (get_or bits v false)
shown_odd bits l v e =
    let r : l % 2 ≡ 1 = omega (arith, e) in
    let q : l / 2 ≡ v = omega (arith, e) in
    rw (r, q)

pub shown_plain : (bits : Bits) (v : ℕ) → shown_by bits (plain v) ≡ get_or bits v false
shown_plain bits v = shown_even bits (plain v) v refl

pub shown_turned : (bits : Bits) (v : ℕ) → shown_by bits (turned v) ≡ not (get_or bits v false)
shown_turned bits v = shown_odd bits (turned v) v refl

-- a literal is one or the other of its variable
pub parity : (l : ℕ) → (l ≡ 2 * (l / 2)) ⊎ (l ≡ 2 * (l / 2) + 1)
parity l = by_rest (cases_lt (l % 2) 1)
  where
    by_rest : (l % 2 < 1) ⊎ (1 ≤ l % 2) → (l ≡ 2 * (l / 2)) ⊎ (l ≡ 2 * (l / 2) + 1)
    by_rest (inl low) = inl (omega (arith, low))
    by_rest (inr high) = inr (omega (arith, high))

pub complement_even : (l v : ℕ) → l ≡ 2 * v → complement l ≡ 2 * v + 1
complement_even l v e = let r : l % 2 ≡ 0 = omega (arith, e) in rw r (omega (arith, e))

pub complement_odd : (l v : ℕ) → l ≡ 2 * v + 1 → complement l ≡ 2 * v
complement_odd l v e = let r : l % 2 ≡ 1 = omega (arith, e) in rw r (omega (arith, e))

pub shown_complement : (bits : Bits) (l : ℕ) → shown_by bits (complement l) ≡ not (shown_by bits l)
shown_complement bits l = by_parity (parity l)
  where
    by_parity : (l ≡ 2 * (l / 2)) ⊎ (l ≡ 2 * (l / 2) + 1) → shown_by bits (complement l) ≡ not (shown_by bits l)
    by_parity (inl e) =
        shown_odd bits (complement l) (l / 2) (complement_even l (l / 2) e) ∙ sym (ap not (shown_even bits l (l / 2) e))
    by_parity (inr e) =
        shown_even bits (complement l) (l / 2) (complement_odd l (l / 2) e) ∙ (sym (not_twice (get_or bits (l / 2) false)) ∙ sym (ap not (shown_odd bits l (l / 2) e)))

pub complement_low : (l v : ℕ) → l < 2 * v → complement l < 2 * v
complement_low l v low = by_parity (parity l)
  where
    by_parity : (l ≡ 2 * (l / 2)) ⊎ (l ≡ 2 * (l / 2) + 1) → complement l < 2 * v
    by_parity (inl e) = omega (arith, complement_even l (l / 2) e, e, low)
    by_parity (inr e) = omega (arith, complement_odd l (l / 2) e, e, low)

-- a literal of a later variable
pub later_plain : (bits done : Bits) (v i : ℕ) → v ≡ length bits → shown_by (bits ++ done) (plain (v + i)) ≡ get_or done i false
later_plain bits done v i e =
    shown_plain (bits ++ done) (v + i) ∙ (ap (λ n. get_or (bits ++ done) (n + i) false) e ∙ get_or-append-add bits done i false)

pub later_turned : (bits done : Bits) (v i : ℕ) → v ≡ length bits → shown_by (bits ++ done) (turned (v + i)) ≡ not (get_or done i false)
later_turned bits done v i e =
    shown_turned (bits ++ done) (v + i) ∙ ap not (ap (λ n. get_or (bits ++ done) (n + i) false) e ∙ get_or-append-add bits done i false)

pub first_turned : (bits done : Bits) (v : ℕ) → v ≡ length bits → shown_by (bits ++ done) (turned v) ≡ not (get_or done 0 false)
first_turned bits done v e =
    let P : ℕ → Type 0 = λ n. shown_by (bits ++ done) (turned n) ≡ not (get_or done 0 false) in
    subst P (omega arith) (later_turned bits done v 0 e)

pub first_plain : (bits done : Bits) (v : ℕ) → v ≡ length bits → shown_by (bits ++ done) (plain v) ≡ get_or done 0 false
first_plain bits done v e =
    let P : ℕ → Type 0 = λ n. shown_by (bits ++ done) (plain n) ≡ get_or done 0 false in
    subst P (omega arith) (later_plain bits done v 0 e)

-- a gate shows both of its literals, in either order
pub shown_gate : (bits : Bits) (a b : ℕ) → shown_by bits (gate_of a b).0 && shown_by bits (gate_of a b).1 ≡ shown_by bits a && shown_by bits b
shown_gate bits a b = by_order (cases_lt a b)
  where
    by_order : (a < b) ⊎ (b ≤ a) → shown_by bits (gate_of a b).0 && shown_by bits (gate_of a b).1 ≡ shown_by bits a && shown_by bits b
    by_order (inl less) =
        let high : max a b ≡ b = omega (arith, less) in
        let low : min a b ≡ a = omega (arith, less) in
        rw (high, low) (both_turn (shown_by bits b) (shown_by bits a))
    by_order (inr more) =
        let high : max a b ≡ a = omega (arith, more) in
        let low : min a b ≡ b = omega (arith, more) in
        rw (high, low)

-- one gate more
pub gate_more : (bits done : Bits) (gs : List (ℕ × ℕ)) (a b : ℕ) (x y : Bool) → shown_by (bits ++ done) a ≡ x → shown_by (bits ++ done) b ≡ y
    → after_gates (gate_of a b ∷ gs) (bits ++ done) ≡ after_gates gs (bits ++ (done ++ (x && y) ∷ []))
gate_more bits done gs a b x y e f =
    let shows : shown_by (bits ++ done) (gate_of a b).0 && shown_by (bits ++ done) (gate_of a b).1 ≡ x && y =
    shown_gate (bits ++ done) a b ∙ (λ i. e i && f i) in
    ap (λ (b : Bool). after_gates gs ((bits ++ done) ++ b ∷ [])) shows ∙ ap (after_gates gs) (append_assoc bits done ((x && y) ∷ []))

pub after_append : (gs hs : List (ℕ × ℕ)) (bits : Bits) → after_gates (gs ++ hs) bits ≡ after_gates hs (after_gates gs bits)
after_append [] hs bits = refl
after_append (g ∷ gs) hs bits = after_append gs hs (bits ++ (shown_by bits g.0 && shown_by bits g.1) ∷ [])
