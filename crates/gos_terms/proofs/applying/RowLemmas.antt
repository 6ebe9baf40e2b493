-- Rows of points that lead to two places, one after the other.
use Rattle.std.specs.Prelude.{◌≡◌, ℕ, zero, suc, ◌+◌, ◌-◌, ◌<◌, ◌≤◌, Bool, true, false, List, ◌∷◌, ◌++◌, map, nat_lt, if◌then◌else◌}
use Rattle.std.proofs.Common.{refl, ◌∙◌, ap, arith}
use Rattle.std.proofs.lemmas.Bool.Decides.{nat_tests}
use Rattle.gos_ties.specs.declared.points.Place.{Place}
use Rattle.gos_ties.specs.declared.points.Place.TheVariants as places
use Rattle.gos_ties.specs.declared.points.Point.{Point}
use Rattle.gos_ties.specs.Ties.{point}
use Rattle.gos_compile.specs.Wiring.{row}
use Rattle.gos_terms.proofs.applying.RenamedLemmas.{renamed, map_two}

-- the first n handshakes lead to a place, and the others to another
abbrev pub to_two : ℕ → Place → Place → ℕ → Point
to_two n a b h = if nat_lt h n then point a h else point b (h - n)

pub to_first : (n : ℕ) (a b : Place) (h : ℕ) → h < n → to_two n a b h ≡ point a h
to_first n a b h low =
    let t : nat_lt h n ≡ true = grind (arith, nat_tests) in ap (λ (x : Bool). if x then point a h else point b (h - n)) t

pub to_second : (n : ℕ) (a b : Place) (h : ℕ) → n ≤ h → to_two n a b h ≡ point b (h - n)
to_second n a b h high =
    let t : nat_lt h n ≡ false = grind (arith, nat_tests) in ap (λ (x : Bool). if x then point a h else point b (h - n)) t

first_row : (n : ℕ) (a b : Place) (x l : ℕ) → x + l ≤ n → map (renamed (to_two n a b)) (row places.Result x l) ≡ row a x l
first_row n a b x zero low = refl
first_row n a b x (suc l) low =
    let one = to_first n a b x (omega (arith, low)) in
    let rest = first_row n a b (suc x) l (omega (arith, low)) in
    λ i. one i ∷ rest i

second_row : (n : ℕ) (a b : Place) (x y l : ℕ) → x ≡ n + y → map (renamed (to_two n a b)) (row places.Result x l) ≡ row b y l
second_row n a b x y zero same = refl
second_row n a b x y (suc l) same =
    let less : x - n ≡ y = omega (arith, same) in
    let one : to_two n a b x ≡ point b y = to_second n a b x (omega (arith, same)) ∙ ap (point b) less in
    let rest = second_row n a b (suc x) (suc y) l (omega (arith, same)) in
    λ i. one i ∷ rest i

pub row_two : (q : Place) (x n k : ℕ) → row q x (n + k) ≡ row q x n ++ row q (x + n) k
row_two q x zero k =
    let zeros : 0 + k ≡ k = omega arith in let same : x ≡ x + 0 = omega arith in λ i. row q (same i) (zeros i)
row_two q x (suc n) k =
    let sum : suc n + k ≡ suc (n + k) = omega arith in
    let next : suc x + n ≡ x + suc n = omega arith in
    ap (row q x) sum
    ∙ (ap (λ (ps : List Point). point q x ∷ ps) (row_two q (suc x) n k) ∙ ap (λ (y : ℕ). point q x ∷ (row q (suc x) n ++ row q y k)) next)

pub rows_two : (n k : ℕ) (a b : Place) → map (renamed (to_two n a b)) (row places.Result 0 (n + k)) ≡ row a 0 n ++ row b 0 k
rows_two n k a b =
    ap (map (renamed (to_two n a b))) (row_two places.Result 0 n k)
    ∙ (map_two (renamed (to_two n a b)) (row places.Result 0 n) (row places.Result (0 + n) k)
    ∙ (λ i. first_row n a b 0 n (omega arith) i ++ second_row n a b (0 + n) 0 k (omega arith) i))
