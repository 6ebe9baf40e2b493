-- The two flat wirings of an application with its supplies: function, argument and then all supplies, and each of the two
-- with its own supplies. They have the same links, which are the seams: of the argument, and of the imports of both.
use Rattle.std.specs.Prelude.{◌≡◌, ℕ, zero, suc, ◌+◌, ◌-◌, ◌<◌, ◌≤◌, ◌||◌, false, List, [], ◌∷◌, ◌++◌, ◌⊎◌, length, map, Option, Some, Contains, slice_get, nat_eq, if◌then◌else◌}
use Rattle.std.proofs.Common.{refl, sym, ◌∙◌, ap, subst, arith, inl, inr}
use Rattle.std.proofs.lemmas.Option.{slice_get_within}
use Rattle.std.proofs.lemmas.List.{map-append, append-nil}
use Rattle.gos_types.specs.Types.{Type'}
use Rattle.gos_types.proofs.BoolLemmas.{and_false}
use Rattle.gos_types.proofs.ListLemmas.{found_in_front, found_behind}
use Rattle.gos_model.specs.Typing.{Imported}
use Rattle.gos_plan.specs.Plans.{ImportEnd, ResultEnd, Plan}
use Rattle.gos_plan.specs.Joining.{place, Link, Wiring, is_joined, LeftImport, left_in, all_left, left_place}
use Rattle.gos_realises.specs.realises.Regular.{count}
use Rattle.gos_realises.specs.realises.Wirings.{link, results_linked, side, applying}
use Rattle.gos_realises.specs.realises.Modules.{Supply, plans_of, supplying}
use Rattle.gos_realises.proofs.joined.OriginLemmas.{import_of}
use Rattle.gos_joining.specs.unions.Flat.{all_plans, first_of, later, later_link, origin_if, deeper, deeper_link, flat}
use Rattle.gos_joining.proofs.unions.LinkLemmas.{flat_inner, flat_outer, OfWiring, OfOuter, of_flat}
use Rattle.gos_joining.proofs.unions.FlatFitLemmas.{in_two}
use Rattle.gos_joining.proofs.renumbered.SupplyLemmas.{supply_link, OfImports, of_imports, in_imports}

-- a plan alone
abbrev pub single : Supply → Wiring
single u = side 0 u.plan.outcome u.plan

abbrev pub singles : List Supply → List Wiring
singles us = map single us

pub single_plans : (us : List Supply) → all_plans (singles us) ≡ plans_of us
single_plans [] = refl
single_plans (u ∷ us) = ap (λ (ps : List Plan). u.plan ∷ ps) (single_plans us)

pub single_first : (us : List Supply) (i : ℕ) → i < length us → first_of (singles us) i ≡ i
single_first [] i low = absurd (omega (arith, low))
single_first (u ∷ us) zero low = refl
single_first (u ∷ us) (suc i) low = let rest = single_first us i (omega (arith, low)) in omega (arith, rest)

pub single_at : (us : List Supply) (i : ℕ) → i < length us → (u : Supply) × (slice_get (singles us) i ≡ Some (single u))
single_at [] i low = absurd (omega (arith, low))
single_at (u ∷ us) zero low = (u, refl)
single_at (u ∷ us) (suc i) low = single_at us i (omega (arith, low))

pub single_links : (us : List Supply) (i : ℕ) (v : Wiring) → slice_get (singles us) i ≡ Some v → v.links ≡ []
single_links [] i v at = absurd (cc at)
single_links (u ∷ us) zero v at = let same : single u ≡ v = cc at in ap (λ (x : Wiring). x.links) (sym same)
single_links (u ∷ us) (suc i) v at = single_links us i v at

-- the links of an application
abbrev pub result_link : ℕ → Link
result_link h = link 0 (ResultEnd h) 1 (ResultEnd h)

abbrev pub OfResults : ℕ → ℕ → Link → Type 0
OfResults n m l = (h : ℕ) × (h < n + m) × (l ≡ result_link h)

pub of_results : (n m : ℕ) (l : Link) → Contains (results_linked 1 n m) l → OfResults n m l
of_results n zero l (k, small, e) = absurd (omega (arith, small))
of_results n (suc m) l (zero, small, e) = (n, omega arith, sym e)
of_results n (suc m) l (suc k, small, e) =
    let (h, high, same) = of_results (suc n) m l (k, omega (arith, small), e) in (h, omega (arith, high), same)

in_tail : (n m h : ℕ) → Contains (results_linked 1 (suc n) m) (result_link h) → Contains (results_linked 1 n (suc m)) (result_link h)
in_tail n m h (k, small, e) = (suc k, omega (arith, small), e)

pub in_results : (n m h : ℕ) → n ≤ h → h < n + m → Contains (results_linked 1 n m) (result_link h)
in_results n zero h low high = absurd (omega (arith, low, high))
in_results n (suc m) h low high = by_number (h - n) (omega (arith, low)) (λ above. in_tail n m h (in_results (suc n) m h above (omega (arith, high))))
  where
    by_number : (d : ℕ) → h ≡ n + d → (suc n ≤ h → Contains (results_linked 1 n (suc m)) (result_link h)) → Contains (results_linked 1 n (suc m)) (result_link h)
    by_number zero e further = let same : n ≡ h = omega (arith, e) in (0, omega arith, ap result_link same)
    by_number (suc d) e further = further (omega (arith, e))

-- no import of an application is joined
pub none_joined : (n m k i : ℕ) → is_joined (results_linked 1 n m) k i ≡ false
none_joined n zero k i = refl
none_joined n (suc m) k i =
    let one = and_false (nat_eq 0 k) in
    let other = and_false (nat_eq 1 k) in
    let rest = none_joined (suc n) m k i in
    λ j. (one j || other j) || rest j

abbrev pub listed : ℕ → ℕ → List Imported → List LeftImport
listed k i [] = []
listed k i (x ∷ xs) = record { plan = k; number = i; import = x } ∷ listed k (suc i) xs

pub left_none : (ls : List Link) (k : ℕ) → ((j : ℕ) → is_joined ls k j ≡ false) → (i : ℕ) (xs : List Imported) → left_in ls k i xs ≡ listed k i xs
left_none ls k none i [] = refl
left_none ls k none i (x ∷ xs) =
    let rest = left_none ls k none (suc i) xs in
    λ j. if none i j then rest j else record { plan = k; number = i; import = x } ∷ rest j

pub listed_imports : (k i : ℕ) (xs : List Imported) → map import_of (listed k i xs) ≡ xs
listed_imports k i [] = refl
listed_imports k i (x ∷ xs) = ap (λ (l : List Imported). x ∷ l) (listed_imports k (suc i) xs)

pub listed_at : (k i : ℕ) (xs : List Imported) (j : ℕ) (x : Imported) → slice_get xs j ≡ Some x
    → slice_get (listed k i xs) j ≡ Some (record { plan = k; number = i + j; import = x })
listed_at k i [] j x at = absurd (cc at)
listed_at k i (y ∷ xs) zero x at =
    let zeros : i ≡ i + 0 = omega arith in
    let same : y ≡ x = cc at in
    λ l. Some (record { plan = k; number = zeros l; import = same l })
listed_at k i (y ∷ xs) (suc j) x at =
    let sum : suc i + j ≡ i + suc j = omega arith in
    listed_at k (suc i) xs j x at ∙ (λ l. Some (record { plan = k; number = sum l; import = x }))

pub listed_length : (k i : ℕ) (xs : List Imported) → length (listed k i xs) ≡ length xs
listed_length k i [] = refl
listed_length k i (x ∷ xs) = ap suc (listed_length k (suc i) xs)

module _ (a b : Type') (p q : Plan) where
  pub applied_left : all_left (applying a b p q) ≡ listed 0 0 p.imports ++ listed 1 0 q.imports
  applied_left =
      let first = left_none (results_linked 1 0 (count a)) 0 (none_joined 0 (count a) 0) 0 p.imports in
      let second = left_none (results_linked 1 0 (count a)) 1 (none_joined 0 (count a) 1) 0 q.imports in
      (λ i. first i ++ (second i ++ [])) ∙ ap (λ (l : List LeftImport). listed 0 0 p.imports ++ l) (append-nil (listed 1 0 q.imports))

  pub applied_imports : map import_of (all_left (applying a b p q)) ≡ p.imports ++ q.imports
  applied_imports =
      ap (map import_of) applied_left
      ∙ (map-append import_of (listed 0 0 p.imports) (listed 1 0 q.imports) ∙ (λ i. listed_imports 0 0 p.imports i ++ listed_imports 1 0 q.imports i))

  left_first : (i : ℕ) (x : Imported) → slice_get p.imports i ≡ Some x
      → slice_get (all_left (applying a b p q)) i ≡ Some (record { plan = 0; number = i; import = x })
  left_first i x at =
      let zeros : 0 + i ≡ i = omega arith in
      ap (λ (l : List LeftImport). slice_get l i) applied_left
      ∙ (found_in_front (listed 0 0 p.imports) (listed 1 0 q.imports) i (record { plan = 0; number = 0 + i; import = x }) (listed_at 0 0 p.imports i x at)
      ∙ (λ j. Some (record { plan = 0; number = zeros j; import = x })))

  left_second : (i : ℕ) (x : Imported) → slice_get q.imports i ≡ Some x
      → slice_get (all_left (applying a b p q)) (length p.imports + i) ≡ Some (record { plan = 1; number = i; import = x })
  left_second i x at =
      let zeros : 0 + i ≡ i = omega arith in
      let same = listed_length 0 0 p.imports in
      ap (λ (l : List LeftImport). slice_get l (length p.imports + i)) applied_left
      ∙ (ap (λ (n : ℕ). slice_get (listed 0 0 p.imports ++ listed 1 0 q.imports) (n + i)) (sym same)
      ∙ (found_behind (listed 0 0 p.imports) (listed 1 0 q.imports) i
      ∙ (listed_at 1 0 q.imports i x at ∙ (λ j. Some (record { plan = 1; number = zeros j; import = x })))))

-- the links of both flat wirings
pub data Seam : Type 0 where
  Argument : (shake : ℕ) → Seam
  OfFirst : (import shake : ℕ) → Seam
  OfSecond : (import shake : ℕ) → Seam

abbrev IsHandshake : Plan → ℕ → ℕ → Type 0
IsHandshake p i h = (x : Imported) × (slice_get p.imports i ≡ Some x) × (h < count x.ty)

abbrev pub IsSeam : Type' → Plan → Plan → Seam → Type 0
IsSeam a p q (Argument h) = h < count a
IsSeam a p q (OfFirst i h) = IsHandshake p i h
IsSeam a p q (OfSecond i h) = IsHandshake q i h

-- where they stand: all supplies behind, n of them the function's, and each with its own
abbrev pub together_link : ℕ → Seam → Link
together_link n (Argument h) = link 0 (ResultEnd h) 1 (ResultEnd h)
together_link n (OfFirst i h) = link 0 (ImportEnd i h) (suc (suc i)) (ResultEnd h)
together_link n (OfSecond i h) = link 1 (ImportEnd i h) (suc (suc (n + i))) (ResultEnd h)

abbrev pub apart_link : ℕ → Seam → Link
apart_link n (Argument h) = link 0 (ResultEnd h) (suc n) (ResultEnd h)
apart_link n (OfFirst i h) = link 0 (ImportEnd i h) (suc i) (ResultEnd h)
apart_link n (OfSecond i h) = link (suc n) (ImportEnd i h) (suc (suc (n + i))) (ResultEnd h)

abbrev pub IsOfSeam : Type' → Plan → Plan → (Seam → Link) → Link → Type 0
IsOfSeam a p q f m = (k : Seam) × IsSeam a p q k × (m ≡ f k)

-- each with its own supplies
module _ (a b : Type') (p q x y : Plan) (ss ts : List Supply) where
  abbrev pub own : List Wiring
  own = supplying p ss ∷ supplying q ts ∷ []

  abbrev pub apart : Wiring
  apart = flat (applying a b x y) own

  abbrev pub size : ℕ
  size = length (plans_of ss)

  first_apart : (i h : ℕ) → later_link 0 (supply_link (0 + i) h) ≡ apart_link size (OfFirst i h)
  first_apart i h =
      let zeros : 0 + i ≡ i = omega arith in
      let next : 0 + suc (0 + i) ≡ suc i = omega arith in
      λ j. link 0 (ImportEnd (zeros j) h) (next j) (ResultEnd h)

  second_apart : (i h : ℕ) → later_link (first_of own 1) (supply_link (0 + i) h) ≡ apart_link size (OfSecond i h)
  second_apart i h =
      let zeros : 0 + i ≡ i = omega arith in
      let at_q : suc size + 0 + 0 ≡ suc size = omega arith in
      let next : suc size + 0 + suc (0 + i) ≡ suc (suc (size + i)) = omega arith in
      λ j. link (at_q j) (ImportEnd (zeros j) h) (next j) (ResultEnd h)

  argument_apart : (h : ℕ) → deeper_link own (result_link h) ≡ apart_link size (Argument h)
  argument_apart h =
      let zeros : 0 + h ≡ h = omega arith in
      let at_q : suc size + 0 + 0 ≡ suc size = omega arith in
      λ j. link 0 (ResultEnd (zeros j)) (at_q j) (ResultEnd (zeros j))

  pub apart_seam : (m : Link) → Contains apart.links m → IsOfSeam a p q (apart_link size) m
  apart_seam m has = by_flat (of_flat (applying a b x y) own m has)
    where
      by_flat : OfWiring own m ⊎ OfOuter (applying a b x y) own m → IsOfSeam a p q (apart_link size) m
      by_flat (inl (zero, v, l, at, among, same)) =
          let wirings : supplying p ss ≡ v = cc at in
          let there = of_imports 0 p.imports l (subst (λ (u : Wiring). Contains u.links l) (sym wirings) among) in (
            OfFirst there.number there.shake,
            (there.import, there.at, there.small),
            sym same ∙ (ap (later_link 0) there.same ∙ first_apart there.number there.shake),
          )
      by_flat (inl (suc zero, v, l, at, among, same)) =
          let wirings : supplying q ts ≡ v = cc at in
          let there = of_imports 0 q.imports l (subst (λ (u : Wiring). Contains u.links l) (sym wirings) among) in (
            OfSecond there.number there.shake,
            (there.import, there.at, there.small),
            sym same ∙ (ap (later_link (first_of own 1)) there.same ∙ second_apart there.number there.shake),
          )
      by_flat (inl (suc (suc k), v, l, at, among, same)) = absurd (cc at)
      by_flat (inr (l, among, same)) =
          let (h, small, is) = of_results 0 (count a) l among in
          (Argument h, omega (arith, small), sym same ∙ (ap (deeper_link own) is ∙ argument_apart h))

  pub seam_apart : (k : Seam) → IsSeam a p q k → Contains apart.links (apart_link size k)
  seam_apart (Argument h) small =
      subst (Contains apart.links) (argument_apart h)
      (flat_outer (applying a b x y) own (result_link h) (in_results 0 (count a) h (omega arith) (omega (arith, small))))
  seam_apart (OfFirst i h) (x', at, small) =
      subst (Contains apart.links) (first_apart i h)
      (flat_inner (applying a b x y) own 0 (supplying p ss) (supply_link (0 + i) h) refl (in_imports 0 p.imports i h x' at small))
  seam_apart (OfSecond i h) (x', at, small) =
      subst (Contains apart.links) (second_apart i h)
      (flat_inner (applying a b x y) own 1 (supplying q ts) (supply_link (0 + i) h) refl (in_imports 0 q.imports i h x' at small))

-- all supplies behind
module _ (a b : Type') (p q s : Plan) (us : List Supply) (imports : s.imports ≡ p.imports ++ q.imports) (enough : length s.imports ≡ length us) where
  abbrev pub joint_first : List Wiring
  joint_first = applying a b p q ∷ singles us

  abbrev pub together : Wiring
  together = flat (supplying s us) joint_first

  abbrev pub own_count : ℕ
  own_count = length p.imports

  supply_end : (i h : ℕ) → i < length us → deeper joint_first (place (suc i) (ResultEnd h)) ≡ place (suc (suc i)) (ResultEnd h)
  supply_end i h low =
      let (u, at) = single_at us i low in
      let first = single_first us i low in
      let sum : 2 + first_of (singles us) i + 0 ≡ suc (suc i) = omega (arith, first) in
      let zeros : 0 + h ≡ h = omega arith in
      ap (λ (o : Option Wiring). later (2 + first_of (singles us) i) (origin_if o (ResultEnd h))) at ∙ (λ j. place (sum j) (ResultEnd (zeros j)))

  below : (i : ℕ) (x : Imported) → slice_get s.imports i ≡ Some x → i < length us
  below i x at = let low = slice_get_within s.imports i x at in omega (arith, low, enough)

  first_in : (i : ℕ) (x : Imported) → slice_get p.imports i ≡ Some x → slice_get s.imports i ≡ Some x
  first_in i x at = ap (λ (l : List Imported). slice_get l i) imports ∙ found_in_front p.imports q.imports i x at

  second_in : (i : ℕ) (x : Imported) → slice_get q.imports i ≡ Some x → slice_get s.imports (own_count + i) ≡ Some x
  second_in i x at = ap (λ (l : List Imported). slice_get l (own_count + i)) imports ∙ (found_behind p.imports q.imports i ∙ at)

  first_together : (i h : ℕ) (x : Imported) → slice_get p.imports i ≡ Some x → deeper_link joint_first (supply_link i h) ≡ together_link own_count (OfFirst i h)
  first_together i h x at =
      let one : deeper joint_first (place 0 (ImportEnd i h)) ≡ place 0 (ImportEnd i h) =
      ap (λ (o : Option LeftImport). later 0 (left_place o h)) (left_first a b p q i x at)
      in
      let other = supply_end i h (below i x (first_in i x at)) in
      λ j. record { one = one j; other = other j }

  second_together : (i h : ℕ) (x : Imported) → slice_get q.imports i ≡ Some x
      → deeper_link joint_first (supply_link (own_count + i) h) ≡ together_link own_count (OfSecond i h)
  second_together i h x at =
      let one : deeper joint_first (place 0 (ImportEnd (own_count + i) h)) ≡ place 1 (ImportEnd i h) =
      ap (λ (o : Option LeftImport). later 0 (left_place o h)) (left_second a b p q i x at)
      in
      let other = supply_end (own_count + i) h (below (own_count + i) x (second_in i x at)) in
      λ j. record { one = one j; other = other j }

  plain : (i h : ℕ) → supply_link (0 + i) h ≡ supply_link i h
  plain i h = let zeros : 0 + i ≡ i = omega arith in ap (λ (n : ℕ). supply_link n h) zeros

  pub together_seam : (m : Link) → Contains together.links m → IsOfSeam a p q (together_link own_count) m
  together_seam m has = by_flat (of_flat (supplying s us) joint_first m has)
    where
      by_import : (l : Link) → OfImports 0 s.imports l → deeper_link joint_first l ≡ m → IsOfSeam a p q (together_link own_count) m
      by_import l there same =
          elim (in_two p.imports q.imports there.number there.import (ap (λ (xs : List Imported). slice_get xs there.number) (sym imports) ∙ there.at)) [
            | inl at ↦ (
              OfFirst there.number there.shake,
              (there.import, at, there.small),
              sym same ∙ (ap (deeper_link joint_first) (there.same ∙ plain there.number there.shake) ∙ first_together there.number there.shake there.import at),
            )
            | inr (i, sum, at) ↦ (
              OfSecond i there.shake,
              (there.import, at, there.small),
              sym same
                  ∙ (ap (deeper_link joint_first) (there.same ∙ (plain there.number there.shake ∙ ap (λ (n : ℕ). supply_link n there.shake) sum))
                  ∙ second_together i there.shake there.import at),
            )
          ]

      by_flat : OfWiring joint_first m ⊎ OfOuter (supplying s us) joint_first m → IsOfSeam a p q (together_link own_count) m
      by_flat (inl (zero, v, l, at, among, same)) =
          let wirings : applying a b p q ≡ v = cc at in
          let (h, small, is) = of_results 0 (count a) l (subst (λ (u : Wiring). Contains u.links l) (sym wirings) among) in
          (Argument h, omega (arith, small), sym same ∙ ap (later_link 0) is)
      by_flat (inl (suc k, v, l, at, among, same)) =
          let (n, small, e) = subst (λ (ls : List Link). Contains ls l) (single_links us k v at) among in absurd (omega (arith, small))
      by_flat (inr (l, among, same)) = by_import l (of_imports 0 s.imports l among) same

  pub seam_together : (k : Seam) → IsSeam a p q k → Contains together.links (together_link own_count k)
  seam_together (Argument h) small =
      flat_inner (supplying s us) joint_first 0 (applying a b p q) (result_link h) refl (in_results 0 (count a) h (omega arith) (omega (arith, small)))
  seam_together (OfFirst i h) (x, at, small) =
      subst (Contains together.links) (ap (deeper_link joint_first) (plain i h) ∙ first_together i h x at)
      (flat_outer (supplying s us) joint_first (supply_link (0 + i) h) (in_imports 0 s.imports i h x (first_in i x at) small))
  seam_together (OfSecond i h) (x, at, small) =
      subst (Contains together.links) (ap (deeper_link joint_first) (plain (own_count + i) h) ∙ second_together i h x at)
      (flat_outer (supplying s us) joint_first (supply_link (0 + (own_count + i)) h) (in_imports 0 s.imports (own_count + i) h x (second_in i x at) small))
