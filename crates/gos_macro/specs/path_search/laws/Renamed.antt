-- Gates that are the same at every place know nets by name alone, and paths through them lead on at every place.
--
-- Read first: Fixed, Search; Elements.
use Rattle.std.proofs.Common.{◌≡◌, ℕ, zero, suc, ◌+◌, ◌-◌, ◌<◌, ◌≤◌, Bool, true, false, ◌&&◌, List, [], ◌∷◌, length, map, Contains, nat_lt, if◌then◌else◌, refl, sym, ◌∙◌, ap, subst, arith, ltb-true, ltb-false, lt-ltb, le-ltb}
use Rattle.std.specs.List.{AllByRecursion, list_all}
use Rattle.std.proofs.lemmas.Option.{slice_get_within}
use Rattle.gos_netlist.specs.Nets.{Function, Input, Const, Not, And, Or, Xor, Mux, Add, Sub, Eq, Less, Gate, Reg, Cell, pins}
use Rattle.gos_netlist.specs.Cycles.{IsRegister}
use Rattle.gos_plan.specs.Kinds.{Contact}
use Rattle.gos_macro.specs.Gates.{Incoming, incoming_bits}
use Rattle.gos_macro.specs.Paths.{Drives, Path, Renames, renamed, with_renamed}
use Rattle.gos_macro.specs.path_search.Fixed.{fixed, placed, AreNamed}
use Rattle.gos_macro.specs.path_search.Search.{is_register, is_some_bits, is_known}
use Rattle.gos_macro.specs.path_search.laws.Elements.{both_true, mapped_in, mapped_at}

-- what a number at the fixed place stands for
pub data Stands (contacts : List Contact) (size n : ℕ) : Type 0 where
  Own : n < 1000 → n < size → Stands contacts size n
  Pulse : (h : ℕ) → h < 1000 → h < length contacts → n ≡ 1000 + h → Stands contacts size n
  Value : (h : ℕ) → h < length contacts → 0 < incoming_bits contacts h → n ≡ 2000 + h → Stands contacts size n

some_bits : (n : ℕ) → is_some_bits n ≡ true → 0 < n
some_bits zero some = absurd (cc some)
some_bits (suc n) some = omega arith

pub stands : (contacts : List Contact) (size n : ℕ) → is_known contacts size n ≡ true → Stands contacts size n
stands contacts size n known = by_own (nat_lt n 1000) refl known
  where
    past : Bool
    past = nat_lt (n - 2000) (length contacts) && is_some_bits (incoming_bits contacts (n - 2000))

    by_pulse : 1000 ≤ n → (t : Bool) → nat_lt n 2000 ≡ t → (if t then nat_lt (n - 1000) (length contacts) else past) ≡ true → Stands contacts size n
    by_pulse high true low known =
        let below = ltb-true n 2000 low in
        Pulse (n - 1000) (omega (arith, high, below)) (ltb-true (n - 1000) (length contacts) known) (omega (arith, high))
    by_pulse high false beyond known =
        let both = both_true (nat_lt (n - 2000) (length contacts)) (is_some_bits (incoming_bits contacts (n - 2000))) known in
        let above = ltb-false n 2000 beyond in
        Value (n - 2000) (ltb-true (n - 2000) (length contacts) both.0) (some_bits (incoming_bits contacts (n - 2000)) both.1) (omega (arith, above))

    by_own : (t : Bool) → nat_lt n 1000 ≡ t
        → (if t then nat_lt n size else (if nat_lt n 2000 then nat_lt (n - 1000) (length contacts) else past)) ≡ true → Stands contacts size n
    by_own true low known = Own (ltb-true n 1000 low) (ltb-true n size known)
    by_own false high known = by_pulse (ltb-false n 1000 high) (nat_lt n 2000) refl known

-- where it stands at another place
pub placed_own : (b : ℕ) (i : Incoming) (n : ℕ) → n < 1000 → placed b i n ≡ b + n
placed_own b i n low = ap (λ (t : Bool). if t then b + n else (if nat_lt n 2000 then i.pulse (n - 1000) else i.value (n - 2000))) (lt-ltb n 1000 low)

pub placed_pulse : (b : ℕ) (i : Incoming) (h : ℕ) → h < 1000 → placed b i (1000 + h) ≡ i.pulse h
placed_pulse b i h low =
    let n = 1000 + h in
    let back : n - 1000 ≡ h = omega arith in
    ap (λ (t : Bool). if t then b + n else (if nat_lt n 2000 then i.pulse (n - 1000) else i.value (n - 2000))) (le-ltb n 1000 (omega arith))
    ∙ (ap (λ (t : Bool). if t then i.pulse (n - 1000) else i.value (n - 2000)) (lt-ltb n 2000 (omega (arith, low))) ∙ ap i.pulse back)

pub placed_value : (b : ℕ) (i : Incoming) (h : ℕ) → placed b i (2000 + h) ≡ i.value h
placed_value b i h =
    let n = 2000 + h in
    let back : n - 2000 ≡ h = omega arith in
    ap (λ (t : Bool). if t then b + n else (if nat_lt n 2000 then i.pulse (n - 1000) else i.value (n - 2000))) (le-ltb n 1000 (omega arith))
    ∙ (ap (λ (t : Bool). if t then i.pulse (n - 1000) else i.value (n - 2000)) (le-ltb n 2000 (omega arith)) ∙ ap i.value back)

-- a renaming takes it from place to place
same_name : (contacts : List Contact) (size : ℕ) (f : ℕ → ℕ) (b d : ℕ) (i j : Incoming) → Renames contacts size f b d i j
    → (n : ℕ) → Stands contacts size n → f (placed b i n) ≡ placed d j n
same_name contacts size f b d i j r n (Own low small) = ap f (placed_own b i n low) ∙ (r.own n small ∙ sym (placed_own d j n low))
same_name contacts size f b d i j r n (Pulse h low small is) =
    subst (λ (m : ℕ). f (placed b i m) ≡ placed d j m) (sym is) (ap f (placed_pulse b i h low) ∙ (r.pulse h small ∙ sym (placed_pulse d j h low)))
same_name contacts size f b d i j r n (Value h small some is) =
    subst (λ (m : ℕ). f (placed b i m) ≡ placed d j m) (sym is) (ap f (placed_value b i h) ∙ (r.value h small some ∙ sym (placed_value d j h)))

-- a function of nets that are renamed twice
renamed_twice : (f g h : ℕ → ℕ) (c : Function) → AllByRecursion (λ n. f (g n) ≡ h n) (pins c) → renamed f (renamed g c) ≡ renamed h c
renamed_twice f g h Input same = refl
renamed_twice f g h (Const k) same = refl
renamed_twice f g h (Not a) (p, nothing) = λ i. Not (p i)
renamed_twice f g h (And a b) (p, (q, nothing)) = λ i. And (p i) (q i)
renamed_twice f g h (Or a b) (p, (q, nothing)) = λ i. Or (p i) (q i)
renamed_twice f g h (Xor a b) (p, (q, nothing)) = λ i. Xor (p i) (q i)
renamed_twice f g h (Mux s a b) (o, (p, (q, nothing))) = λ i. Mux (o i) (p i) (q i)
renamed_twice f g h (Add a b) (p, (q, nothing)) = λ i. Add (p i) (q i)
renamed_twice f g h (Sub a b) (p, (q, nothing)) = λ i. Sub (p i) (q i)
renamed_twice f g h (Eq a b) (p, (q, nothing)) = λ i. Eq (p i) (q i)
renamed_twice f g h (Less a b) (p, (q, nothing)) = λ i. Less (p i) (q i)
renamed_twice f g h (Gate s a) (p, (q, nothing)) = λ i. Gate (p i) (q i)
renamed_twice f g h (Reg a) (p, nothing) = λ i. Reg (p i)

cells_renamed : (contacts : List Contact) (size : ℕ) (f : ℕ → ℕ) (b d : ℕ) (i j : Incoming) → Renames contacts size f b d i j
    → (cs : List Cell) → list_all (λ c. list_all (is_known contacts size) (pins c.gate)) cs ≡ true
    → map (with_renamed f) (map (with_renamed (placed b i)) cs) ≡ map (with_renamed (placed d j)) cs
cells_renamed contacts size f b d i j r [] known = refl
cells_renamed contacts size f b d i j r (c ∷ cs) known =
    let both = both_true (list_all (is_known contacts size) (pins c.gate)) (list_all (λ c. list_all (is_known contacts size) (pins c.gate)) cs) known in
    let gate = renamed_twice f (placed b i) (placed d j) c.gate (each (pins c.gate) both.0) in
    let rest = cells_renamed contacts size f b d i j r cs both.1 in
    λ t. record { width = c.width; gate = gate t } ∷ rest t
  where
    each : (ns : List ℕ) → list_all (is_known contacts size) ns ≡ true → AllByRecursion (λ n. f (placed b i n) ≡ placed d j n) ns
    each [] all = tt
    each (n ∷ ns) all =
        let both = both_true (is_known contacts size n) (list_all (is_known contacts size) ns) all in
        (same_name contacts size f b d i j r n (stands contacts size n both.0), each ns both.1)

pub named_by_name : (contacts : List Contact) (cells : ℕ → Incoming → List Cell) (size : ℕ) → AreNamed cells
    → list_all (λ c. list_all (is_known contacts size) (pins c.gate)) (cells 0 fixed) ≡ true
    → (f : ℕ → ℕ) (b d : ℕ) (i j : Incoming) → Renames contacts size f b d i j → cells d j ≡ map (with_renamed f) (cells b i)
named_by_name contacts cells size named known f b d i j r =
    named d j
    ∙ (sym (cells_renamed contacts size f b d i j r (cells 0 fixed) known) ∙ ap (map (with_renamed f)) (sym (named b i)))

-- pins and registers of a renamed function
pub pins_renamed : (f : ℕ → ℕ) (g : Function) → pins (renamed f g) ≡ map f (pins g)
pins_renamed f Input = refl
pins_renamed f (Const k) = refl
pins_renamed f (Not a) = refl
pins_renamed f (And a b) = refl
pins_renamed f (Or a b) = refl
pins_renamed f (Xor a b) = refl
pins_renamed f (Mux s a b) = refl
pins_renamed f (Add a b) = refl
pins_renamed f (Sub a b) = refl
pins_renamed f (Eq a b) = refl
pins_renamed f (Less a b) = refl
pins_renamed f (Gate s a) = refl
pins_renamed f (Reg a) = refl

register_renamed : (f : ℕ → ℕ) (g : Function) → is_register (renamed f g) ≡ is_register g
register_renamed f (Reg a) = refl
register_renamed f Input = refl
register_renamed f g = refl

register_is : (g : Function) → is_register g ≡ true → IsRegister g
register_is (Reg a) holds = (a, refl)
register_is g holds = absurd (cc holds)

pub no_register : (g : Function) → is_register g ≡ false → IsRegister g → ⊥
no_register g fails r = let holds : is_register g ≡ true = ap is_register r.1 in let clash : true ≡ false = sym holds ∙ fails in cc clash

pub not_register : (g : Function) → (IsRegister g → ⊥) → is_register g ≡ false
not_register g none = by_test (is_register g) refl
  where
    by_test : (t : Bool) → is_register g ≡ t → is_register g ≡ false
    by_test true holds = absurd (none (register_is g holds))
    by_test false fails = fails

pub register_kept : (f : ℕ → ℕ) (g : Function) → (IsRegister (renamed f g) → ⊥) → is_register g ≡ false
register_kept f g none = sym (register_renamed f g) ∙ not_register (renamed f g) none

-- a path at the fixed place leads on at every place
drives_placed : (f : ℕ → ℕ) (b : ℕ) (cs : List Cell) → ((k : ℕ) → k < length cs → f k ≡ b + k)
    → (m n : ℕ) → Drives 0 cs m n → Drives b (map (with_renamed f) cs) (f m) (f n)
drives_placed f b cs own m n (k, c, is, at, none, there) = (
  k,
  with_renamed f c,
  (let same : n ≡ k = omega (arith, is) in ap f same ∙ own k (slice_get_within cs k c at)),
  mapped_at (with_renamed f) cs k c at,
  no_register (renamed f c.gate) (register_renamed f c.gate ∙ not_register c.gate none),
  subst (λ (xs : List ℕ). Contains xs (f m)) (sym (pins_renamed f c.gate)) (mapped_in f (pins c.gate) m there),
)

pub path_placed : (f : ℕ → ℕ) (b : ℕ) (cs : List Cell) → ((k : ℕ) → k < length cs → f k ≡ b + k)
    → (m : ℕ) (ns : List ℕ) (z : ℕ) → Path 0 cs m ns z → Path b (map (with_renamed f) cs) (f m) (map f ns) (f z)
path_placed f b cs own m [] z path = drives_placed f b cs own m z path
path_placed f b cs own m (n ∷ ns) z (step, path) = (drives_placed f b cs own m n step, path_placed f b cs own n ns z path)
