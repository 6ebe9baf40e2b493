-- The links of an import that is served, and the imports that stay.
use Rattle.std.specs.Prelude.{◌≡◌, ℕ, zero, suc, ◌+◌, ◌-◌, ◌<◌, ◌≤◌, Bool, true, false, List, [], ◌∷◌, ◌++◌, ◌⊎◌, length, map, Some, Contains, slice_get, if◌then◌else◌}
use Rattle.std.proofs.Common.{refl, sym, ◌∙◌, ap, arith, inl, inr}
use Rattle.std.proofs.lemmas.List.{map-append, append-nil, length-append}
use Rattle.gos_types.proofs.ListLemmas.{found_in_front, found_behind}
use Rattle.gos_model.specs.Typing.{Imported}
use Rattle.gos_plan.specs.Plans.{ImportEnd, ResultEnd, Plan}
use Rattle.gos_plan.specs.Joining.{Place, place, Link, is_joined, LeftImport, left_in, all_left}
use Rattle.gos_realises.specs.realises.Regular.{count}
use Rattle.gos_realises.specs.realises.Wirings.{link}
use Rattle.gos_realises.specs.realises.Modules.{import_linked}
use Rattle.gos_realises.proofs.realises.CountLemmas.{some_shake}
use Rattle.gos_realises.proofs.joined.OriginLemmas.{import_of}
use Rattle.gos_joining.proofs.unions.LinkLemmas.{IsAt, joined_by, by_joined}
use Rattle.gos_supplies.proofs.applications.SeamLemmas.{listed, left_none, listed_imports, listed_at, listed_length}
use Rattle.gos_supplies.specs.instances.Served.{serving}

-- handshake h of import k of the first plan, linked to the second
abbrev pub bound_link : ℕ → ℕ → Link
bound_link k h = link 0 (ImportEnd k h) 1 (ResultEnd h)

abbrev pub OfBound : ℕ → ℕ → ℕ → Link → Type 0
OfBound k n m l = (h : ℕ) × (h < n + m) × (l ≡ bound_link k h)

pub of_bound : (k n m : ℕ) (l : Link) → Contains (import_linked k 1 n m) l → OfBound k n m l
of_bound k n zero l (i, small, e) = absurd (omega (arith, small))
of_bound k n (suc m) l (zero, small, e) = (n, omega arith, sym e)
of_bound k n (suc m) l (suc i, small, e) =
    let (h, high, same) = of_bound k (suc n) m l (i, omega (arith, small), e) in (h, omega (arith, high), same)

in_tail : (k n m h : ℕ) → Contains (import_linked k 1 (suc n) m) (bound_link k h) → Contains (import_linked k 1 n (suc m)) (bound_link k h)
in_tail k n m h (i, small, e) = (suc i, omega (arith, small), e)

pub in_bound : (k n m h : ℕ) → n ≤ h → h < n + m → Contains (import_linked k 1 n m) (bound_link k h)
in_bound k n zero h low high = absurd (omega (arith, low, high))
in_bound k n (suc m) h low high =
    by_number (h - n) (omega (arith, low)) (λ above. in_tail k n m h (in_bound k (suc n) m h above (omega (arith, high))))
  where
    by_number : (d : ℕ) → h ≡ n + d → (suc n ≤ h → Contains (import_linked k 1 n (suc m)) (bound_link k h)) → Contains (import_linked k 1 n (suc m)) (bound_link k h)
    by_number zero e further = let same : n ≡ h = omega (arith, e) in (0, omega arith, ap (bound_link k) same)
    by_number (suc d) e further = further (omega (arith, e))

-- imports of which none, or one, is joined
left_free : (ls : List Link) (k i : ℕ) (xs : List Imported) → ((j : ℕ) → i ≤ j → is_joined ls k j ≡ false) → left_in ls k i xs ≡ listed k i xs
left_free ls k i [] free = refl
left_free ls k i (x ∷ xs) free =
    let here = free i (omega arith) in
    let rest = left_free ls k (suc i) xs (λ j above. free j (omega (arith, above))) in
    λ l. if here l then rest l else record { plan = k; number = i; import = x } ∷ rest l

left_one : (ls : List Link) (k i : ℕ) (is : List Imported) (x : Imported) (js : List Imported) → ((j : ℕ) → j < i + length is → is_joined ls k j ≡ false)
    → is_joined ls k (i + length is) ≡ true → ((j : ℕ) → i + length is < j → is_joined ls k j ≡ false)
    → left_in ls k i (is ++ (x ∷ js)) ≡ listed k i is ++ listed k (suc (i + length is)) js
left_one ls k i [] x js before at after =
    let zeros : i + 0 ≡ i = omega arith in
    let here : is_joined ls k i ≡ true = ap (is_joined ls k) (sym zeros) ∙ at in
    let rest = left_free ls k (suc i) js (λ j above. after j (omega (arith, above))) in
    (λ l. if here l then left_in ls k (suc i) js else record { plan = k; number = i; import = x } ∷ left_in ls k (suc i) js)
    ∙ (rest ∙ ap (λ (n : ℕ). listed k (suc n) js) (sym zeros))
left_one ls k i (y ∷ is) x js before at after =
    let sum : suc i + length is ≡ i + suc (length is) = omega arith in
    let here = before i (omega arith) in
    let rest =
    left_one ls k (suc i) is x js (λ j low. before j (omega (arith, low))) (ap (is_joined ls k) sum ∙ at) (λ j above. after j (omega (arith, above)))
    in
    (λ l. if here l then left_in ls k (suc i) (is ++ (x ∷ js)) else record { plan = k; number = i; import = y } ∷ left_in ls k (suc i) (is ++ (x ∷ js)))
    ∙ (ap (λ (ls : List LeftImport). record { plan = k; number = i; import = y } ∷ ls) rest
    ∙ ap (λ (n : ℕ). record { plan = k; number = i; import = y } ∷ (listed k (suc i) is ++ listed k (suc n) js)) sum)

module _ (is js : List Imported) (x : Imported) (p q : Plan) (imports : p.imports ≡ is ++ (x ∷ js)) where
  abbrev k : ℕ
  k = length is

  abbrev bound : List Link
  bound = import_linked k 1 0 (count x.ty)

  at_link : (n i : ℕ) (l : Link) → OfBound k 0 (count x.ty) l → IsAt n i l.one ⊎ IsAt n i l.other → (n ≡ 0) × (i ≡ k)
  at_link n i l (h, small, same) (inl (g, e)) =
      let places : place 0 (ImportEnd k h) ≡ place n (ImportEnd i g) = ap (λ (m : Link). m.one) (sym same) ∙ e in
      let plans : 0 ≡ n = ap (λ (a : Place). a.plan) places in
      let ends : ImportEnd k h ≡ ImportEnd i g = ap (λ (a : Place). a.end) places in
      let numbers : k ≡ i = cc ends in
      (sym plans, sym numbers)
  at_link n i l (h, small, same) (inr (g, e)) =
      let ends : ResultEnd h ≡ ImportEnd i g = ap (λ (a : Place). a.end) (ap (λ (m : Link). m.other) (sym same) ∙ e) in absurd (cc ends)

  free_at : (n i : ℕ) → ((n ≡ 0) × (i ≡ k) → ⊥) → is_joined bound n i ≡ false
  free_at n i other = by_test (is_joined bound n i) refl
    where
      by_test : (b : Bool) → is_joined bound n i ≡ b → is_joined bound n i ≡ false
      by_test true test =
          let (l, has, ends) = joined_by bound n i test in absurd (other (at_link n i l (of_bound k 0 (count x.ty) l has) ends))
      by_test false test = test

  joined_at : is_joined bound 0 (0 + k) ≡ true
  joined_at =
      let zeros : k ≡ 0 + k = omega arith in
      let some = some_shake x.ty in
      ap (is_joined bound 0) (sym zeros)
      ∙ by_joined bound 0 k (bound_link k 0, in_bound k 0 (count x.ty) 0 (omega arith) (omega (arith, some)), inl (0, refl))

  abbrev first_left : List LeftImport
  first_left = listed 0 0 is ++ listed 0 (suc (0 + k)) js

  pub served_left : all_left (serving k x.ty p q) ≡ first_left ++ listed 1 0 q.imports
  served_left =
      let one =
      ap (left_in bound 0 0) imports
      ∙ left_one bound 0 0 is x js (λ j low. free_at 0 j (λ e. (let same = e.1 in omega (arith, low, same)))) joined_at
      (λ j above. free_at 0 j (λ e. (let same = e.1 in omega (arith, above, same))))
      in
      let other = left_none bound 1 (λ j. free_at 1 j (λ e. (let same = e.0 in omega (arith, same)))) 0 q.imports in
      (λ l. one l ++ (other l ++ [])) ∙ ap (λ (l : List LeftImport). first_left ++ l) (append-nil (listed 1 0 q.imports))

  pub served_imports : map import_of (all_left (serving k x.ty p q)) ≡ (is ++ js) ++ q.imports
  served_imports =
      let two : map import_of first_left ≡ is ++ js =
      map-append import_of (listed 0 0 is) (listed 0 (suc (0 + k)) js) ∙ (λ l. listed_imports 0 0 is l ++ listed_imports 0 (suc (0 + k)) js l)
      in
      ap (map import_of) served_left
      ∙ (map-append import_of first_left (listed 1 0 q.imports) ∙ (λ l. two l ++ listed_imports 1 0 q.imports l))

  first_length : length first_left ≡ length (is ++ js)
  first_length =
      let sums = length-append (listed 0 0 is) (listed 0 (suc (0 + k)) js) in
      let both = length-append is js in
      let one = listed_length 0 0 is in
      let other = listed_length 0 (suc (0 + k)) js in
      sums ∙ ((λ l. one l + other l) ∙ sym both)

  pub left_first : (i : ℕ) (z : Imported) → slice_get is i ≡ Some z
      → slice_get (all_left (serving k x.ty p q)) i ≡ Some (record { plan = 0; number = i; import = z })
  left_first i z at =
      let zeros : 0 + i ≡ i = omega arith in
      let there = listed_at 0 0 is i z at in
      ap (λ (l : List LeftImport). slice_get l i) served_left
      ∙ (found_in_front first_left (listed 1 0 q.imports) i (record { plan = 0; number = 0 + i; import = z })
      (found_in_front (listed 0 0 is) (listed 0 (suc (0 + k)) js) i (record { plan = 0; number = 0 + i; import = z }) there)
      ∙ (λ l. Some (record { plan = 0; number = zeros l; import = z })))

  pub left_behind : (i : ℕ) (z : Imported) → slice_get js i ≡ Some z
      → slice_get (all_left (serving k x.ty p q)) (k + i) ≡ Some (record { plan = 0; number = k + suc i; import = z })
  left_behind i z at =
      let number : suc (0 + k) + i ≡ k + suc i = omega arith in
      let there = listed_at 0 (suc (0 + k)) js i z at in
      let size = listed_length 0 0 is in
      let here : slice_get first_left (k + i) ≡ Some (record { plan = 0; number = suc (0 + k) + i; import = z }) =
      ap (λ (n : ℕ). slice_get first_left (n + i)) (sym size) ∙ (found_behind (listed 0 0 is) (listed 0 (suc (0 + k)) js) i ∙ there)
      in
      ap (λ (l : List LeftImport). slice_get l (k + i)) served_left
      ∙ (found_in_front first_left (listed 1 0 q.imports) (k + i) (record { plan = 0; number = suc (0 + k) + i; import = z }) here
      ∙ (λ l. Some (record { plan = 0; number = number l; import = z })))

  pub left_second : (i : ℕ) (z : Imported) → slice_get q.imports i ≡ Some z
      → slice_get (all_left (serving k x.ty p q)) (length (is ++ js) + i) ≡ Some (record { plan = 1; number = i; import = z })
  left_second i z at =
      let zeros : 0 + i ≡ i = omega arith in
      ap (λ (l : List LeftImport). slice_get l (length (is ++ js) + i)) served_left
      ∙ (ap (λ (n : ℕ). slice_get (first_left ++ listed 1 0 q.imports) (n + i)) (sym first_length)
      ∙ (found_behind first_left (listed 1 0 q.imports) i
      ∙ (listed_at 1 0 q.imports i z at ∙ (λ l. Some (record { plan = 1; number = zeros l; import = z })))))
