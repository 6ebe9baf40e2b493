-- Lists, one for each number, laid one after another: where each element is, and what is there.
use Rattle.std.specs.Prelude.{◌≢◌, ◌+◌, ◌-◌, ◌<◌, ◌≤◌, length, nat_eq, nat_lt, slice_get, Contains}
use Rattle.std.proofs.Common.{◌≡◌, ℕ, zero, suc, Bool, true, false, List, [], ◌∷◌, ◌++◌, Some, refl, sym, ◌∙◌, ap, subst, arith, if◌then◌else◌}
use Rattle.std.proofs.lemmas.Bool.Decides.{nat_tests}
use Rattle.std.proofs.lemmas.Bool.{lt-ltb, le-ltb, eq-eqb, ne_eqb}
use Rattle.gos_types.proofs.ListLemmas.{found_in_front, found_behind}
use Rattle.gos_model.proofs.NumberLemmas.{number_cases}
use Rattle.gos_check.specs.Linearity.{times}
use Rattle.gos_check.proofs.TimesLemmas.{times_same, some_times}

-- the number whose list has element j, and which of its elements it is
pub record Found : Type 0 where
  pub number : ℕ
  pub index : ℕ

abbrev pub found : ℕ → ℕ → Found
found n k = record { number = n; index = k }

-- elements of two lists
pub in_front : {X : Type 0} (xs ys : List X) (k : ℕ) (x : X) → slice_get (xs ++ ys) k ≡ Some x → k < length xs → slice_get xs k ≡ Some x
in_front [] ys k x at lt = absurd (omega (arith, lt))
in_front (y ∷ xs) ys zero x at lt = at
in_front (y ∷ xs) ys (suc k) x at lt = in_front xs ys k x at (omega (arith, lt))

pub in_back : {X : Type 0} (xs ys : List X) (k : ℕ) (x : X) → slice_get (xs ++ ys) k ≡ Some x → length xs ≤ k → slice_get ys (k - length xs) ≡ Some x
in_back [] ys k x at le = let same : k ≡ k - 0 = omega arith in subst (λ (m : ℕ). slice_get ys m ≡ Some x) same at
in_back (y ∷ xs) ys zero x at le = absurd (omega (arith, le))
in_back (y ∷ xs) ys (suc k) x at le =
    let same : k - length xs ≡ suc k - suc (length xs) = omega arith in
    subst (λ (m : ℕ). slice_get ys m ≡ Some x) same (in_back xs ys k x at (omega (arith, le)))

module _ {X : Type 0} (lists : ℕ → List X) where
  abbrev pub all : List ℕ → List X
  all [] = []
  all (n ∷ ns) = lists n ++ all ns

  abbrev pub place : List ℕ → ℕ → ℕ → ℕ
  place [] n k = k
  place (m ∷ ns) n k = if nat_eq n m then k else length (lists m) + place ns n k

  abbrev pub find : List ℕ → ℕ → Found
  find [] j = found 0 j
  find (m ∷ ns) j = if nat_lt j (length (lists m)) then found m j else find ns (j - length (lists m))

  pub placed_there : (ns : List ℕ) (n k : ℕ) (x : X) → Contains ns n → slice_get (lists n) k ≡ Some x → slice_get (all ns) (place ns n k) ≡ Some x
  placed_there [] n k x (i, lt, e) at = absurd (omega (arith, lt))
  placed_there (m ∷ ns) n k x there at =
      number_cases n m
      (λ e t. subst (λ (b : Bool). slice_get (lists m ++ all ns) (if b then k else length (lists m) + place ns n k) ≡ Some x) (sym t)
      (found_in_front (lists m) (all ns) k x (subst (λ (r : ℕ). slice_get (lists r) k ≡ Some x) e at)))
      (λ e t. subst (λ (b : Bool). slice_get (lists m ++ all ns) (if b then k else length (lists m) + place ns n k) ≡ Some x) (sym t)
      (found_behind (lists m) (all ns) (place ns n k) ∙ placed_there ns n k x (later e there) at))
    where
      later : n ≢ m → Contains (m ∷ ns) n → Contains ns n
      later e (zero, lt, is) = absurd (e (sym is))
      later e (suc i, lt, is) = (i, omega (arith, lt), is)

  pub placed_found : (ns : List ℕ) (n k : ℕ) → Contains ns n → k < length (lists n) → find ns (place ns n k) ≡ found n k
  placed_found [] n k (i, lt, e) small = absurd (omega (arith, lt))
  placed_found (m ∷ ns) n k there small =
      number_cases n m
      (λ e t. ap (λ (b : Bool). find (m ∷ ns) (if b then k else length (lists m) + place ns n k)) t
      ∙ (ap (λ (b : Bool). if b then found m k else find ns (k - length (lists m))) (lt-ltb k (length (lists m)) (subst (λ (r : ℕ). k < length (lists r)) e small))
      ∙ ap (λ (r : ℕ). found r k) (sym e)))
      (λ e t. ap (λ (b : Bool). find (m ∷ ns) (if b then k else length (lists m) + place ns n k)) t
      ∙ (ap (λ (b : Bool). if b then found m (length (lists m) + place ns n k) else find ns (length (lists m) + place ns n k - length (lists m)))
      (le-ltb (length (lists m) + place ns n k) (length (lists m)) (omega arith))
      ∙ (ap (find ns) (less (length (lists m)) (place ns n k)) ∙ placed_found ns n k (later e there) small)))
    where
      less : (a b : ℕ) → a + b - a ≡ b
      less a b = omega arith

      later : n ≢ m → Contains (m ∷ ns) n → Contains ns n
      later e (zero, lt, is) = absurd (e (sym is))
      later e (suc i, lt, is) = (i, omega (arith, lt), is)

  -- what is found
  pub record IsFound (ns : List ℕ) (j : ℕ) (x : X) : Type 0 where
    pub listed : Contains ns (find ns j).number
    pub there : slice_get (lists (find ns j).number) (find ns j).index ≡ Some x
    pub back : place ns (find ns j).number (find ns j).index ≡ j

  pub is_found : (ns : List ℕ) (j : ℕ) (x : X) → ((k : ℕ) → times k ns ≤ 1) → slice_get (all ns) j ≡ Some x → IsFound ns j x
  is_found [] j x once at = absurd (cc at)
  is_found (m ∷ ns) j x once at = by_size (nat_lt j (length (lists m))) refl (λ le. is_found ns (j - length (lists m)) x rest (in_back (lists m) (all ns) j x at le))
    where
      rest : (k : ℕ) → times k ns ≤ 1
      rest k = let all = once k in omega (arith, all)

      told_low : nat_lt j (length (lists m)) ≡ true → j < length (lists m)
      told_low h = grind (arith, nat_tests, h)

      told_high : nat_lt j (length (lists m)) ≡ false → length (lists m) ≤ j
      told_high h = grind (arith, nat_tests, h)

      own : j < length (lists m) → find (m ∷ ns) j ≡ found m j → IsFound (m ∷ ns) j x
      own lt at_find =
          record {
            listed = subst (λ (d : Found). Contains (m ∷ ns) d.number) (sym at_find) (0, omega arith, refl);
            there = subst (λ (d : Found). slice_get (lists d.number) d.index ≡ Some x) (sym at_find) (in_front (lists m) (all ns) j x at lt);
            back =
                subst (λ (d : Found). place (m ∷ ns) d.number d.index ≡ j) (sym at_find)
                (ap (λ (b : Bool). if b then j else length (lists m) + place ns m j) (eq-eqb m m refl));
          }

      apart : (n : ℕ) → Contains ns n → n ≢ m
      apart n there e =
          let all = once m in
          let same = times_same m ns in
          let some = some_times m ns (subst (Contains ns) e there) in
          omega (arith, all, same, some)

      further : length (lists m) ≤ j → find (m ∷ ns) j ≡ find ns (j - length (lists m)) → IsFound ns (j - length (lists m)) x → IsFound (m ∷ ns) j x
      further le at_find it =
          record {
            listed =
                subst (λ (d : Found). Contains (m ∷ ns) d.number) (sym at_find) (suc it.listed.0, omega (arith, it.listed.1), it.listed.2);
            there = subst (λ (d : Found). slice_get (lists d.number) d.index ≡ Some x) (sym at_find) it.there;
            back =
                subst (λ (d : Found). place (m ∷ ns) d.number d.index ≡ j) (sym at_find)
                (ap (λ (b : Bool). if b then (find ns (j - length (lists m))).index else length (lists m) + place ns (find ns (j - length (lists m))).number (find ns (j - length (lists m))).index)
                (ne_eqb (find ns (j - length (lists m))).number m (apart (find ns (j - length (lists m))).number it.listed))
                ∙ sum (place ns (find ns (j - length (lists m))).number (find ns (j - length (lists m))).index) it.back);
          }
        where
          sum : (p : ℕ) → p ≡ j - length (lists m) → length (lists m) + p ≡ j
          sum p e = omega (arith, e, le)

      by_size : (b : Bool) → nat_lt j (length (lists m)) ≡ b → (length (lists m) ≤ j → IsFound ns (j - length (lists m)) x) → IsFound (m ∷ ns) j x
      by_size true t it =
          own (told_low t) (ap (λ (b : Bool). if b then found m j else find ns (j - length (lists m))) t)
      by_size false t it =
          further (told_high t) (ap (λ (b : Bool). if b then found m j else find ns (j - length (lists m))) t) (it (told_high t))
