-- The links of a tree's wiring, with each plan named by the number of its instance.
use Rattle.std.specs.Prelude.{◌≡◌, ◌<◌, ◌≤◌, ◌+◌, ◌||◌, ℕ, zero, suc, false, List, [], ◌∷◌, ◌++◌, length, map, Option, Some, slice_get, nat_eq}
use Rattle.std.proofs.Common.{refl, sym, ◌∙◌, ap, subst, arith}
use Rattle.std.proofs.lemmas.Bool.{ne_eqb}
use Rattle.gos_types.proofs.ListLemmas.{found_in_front}
use Rattle.gos_model.specs.Typing.{Imported}
use Rattle.gos_plan.specs.Plans.{End, ImportEnd, ResultEnd, Plan}
use Rattle.gos_plan.specs.Joining.{Place, place, Link, Wiring, is_at_import, is_joined, LeftImport, left_in, left_among, left_place, all_left}
use Rattle.gos_realises.specs.realises.Wirings.{link}
use Rattle.gos_realises.specs.realises.Modules.{import_linked}
use Rattle.gos_link.specs.declared.services.Service.{Service}
use Rattle.gos_link.specs.Linked.{link_at, links_from}
use Rattle.gos_joining.specs.unions.Flat.{later, later_link, deeper, deeper_link}
use Rattle.gos_linked.proofs.linked.CountLemmas.{back, back_first, back_second}

abbrev pub named : ℕ → List ℕ → Place → Place
named n ns a = place (back ns n a.plan) a.end

abbrev pub named_link : ℕ → List ℕ → Link → Link
named_link n ns l = record { one = named n ns l.one; other = named n ns l.other }

-- each end is of one of the first n plans
abbrev pub AllWithin : ℕ → List Link → Type 0
AllWithin n [] = Unit {0}
AllWithin n (l ∷ ls) = (l.one.plan < n) × (l.other.plan < n) × AllWithin n ls

-- no end is of import i of the first plan
abbrev pub AllFree : ℕ → List Link → Type 0
AllFree i [] = Unit {0}
AllFree i (l ∷ ls) = (is_at_import 0 i l.one ≡ false) × (is_at_import 0 i l.other ≡ false) × AllFree i ls

pub within_both : (n : ℕ) (ls ms : List Link) → AllWithin n ls → AllWithin n ms → AllWithin n (ls ++ ms)
within_both n [] ms first second = second
within_both n (l ∷ ls) ms (one, two, first) second = (one, two, within_both n ls ms first second)

pub within_later : (n a m : ℕ) (ls : List Link) → a + n ≤ m → AllWithin n ls → AllWithin m (map (later_link a) ls)
within_later n a m [] room all = tt
within_later n a m (l ∷ ls) room (one, two, all) = (omega (arith, one, room), omega (arith, two, room), within_later n a m ls room all)

pub free_both : (i : ℕ) (ls ms : List Link) → AllFree i ls → AllFree i ms → AllFree i (ls ++ ms)
free_both i [] ms first second = second
free_both i (l ∷ ls) ms (one, two, first) second = (one, two, free_both i ls ms first second)

at_first : (i : ℕ) (a : Place) → is_at_import 0 i (later 0 a) ≡ is_at_import 0 i a
at_first i a = let none : 0 + a.plan ≡ a.plan = omega arith in ap (λ (k : ℕ). is_at_import 0 i (place k a.end)) none

not_first : (i k : ℕ) (e : End) → 0 < k → is_at_import 0 i (place k e) ≡ false
not_first i k e some = let apart : nat_eq k 0 ≡ false = ne_eqb k 0 (λ h. omega (arith, some, h)) in rw apart refl

pub free_first : (i : ℕ) (ls : List Link) → AllFree i ls → AllFree i (map (later_link 0) ls)
free_first i [] all = tt
free_first i (l ∷ ls) (one, two, all) = (at_first i l.one ∙ one, at_first i l.other ∙ two, free_first i ls all)

pub free_later : (i a : ℕ) (ls : List Link) → 0 < a → AllFree i (map (later_link a) ls)
free_later i a [] some = tt
free_later i a (l ∷ ls) some =
    (not_first i (a + l.one.plan) l.one.end (omega (arith, some)), not_first i (a + l.other.plan) l.other.end (omega (arith, some)), free_later i a ls some)

free_joined : (i : ℕ) (ls : List Link) → AllFree i ls → is_joined ls 0 i ≡ false
free_joined i [] all = refl
free_joined i (l ∷ ls) (one, two, all) = let rest = free_joined i ls all in λ j. (one j || two j) || rest j

-- the first imports of the first plan stay where they are
left_at : (ls : List Link) (start : ℕ) (is xs : List Imported) (x : Imported) → ((i : ℕ) → i ≤ length is → is_joined ls 0 (start + i) ≡ false)
    → slice_get (left_in ls 0 start (is ++ (x ∷ xs))) (length is) ≡ Some (record { plan = 0; number = start + length is; import = x })
left_at ls start [] xs x free =
    let none : start + 0 ≡ start = omega arith in
    let test : is_joined ls 0 start ≡ false = ap (is_joined ls 0) (sym none) ∙ free 0 (omega arith) in
    rw test (ap (λ (n : ℕ). Some (record { plan = 0; number = n; import = x })) (sym none))
left_at ls start (y ∷ is) xs x free =
    let none : start + 0 ≡ start = omega arith in
    let test : is_joined ls 0 start ≡ false = ap (is_joined ls 0) (sym none) ∙ free 0 (omega arith) in
    let sum : suc start + length is ≡ start + suc (length is) = omega arith in
    let rest =
    left_at ls (suc start) is xs x
    (λ i low. (let e : suc start + i ≡ start + suc i = omega arith in ap (is_joined ls 0) e ∙ free (suc i) (omega (arith, low))))
    in
    rw test (rest ∙ ap (λ (n : ℕ). Some (record { plan = 0; number = n; import = x })) sum)

pub left_of_first : (w : Wiring) (p : Plan) (ps : List Plan) (is xs : List Imported) (x : Imported) → w.plans ≡ p ∷ ps → p.imports ≡ is ++ (x ∷ xs)
    → ((i : ℕ) → i ≤ length is → AllFree i w.links) → slice_get (all_left w) (length is) ≡ Some (record { plan = 0; number = length is; import = x })
left_of_first w p ps is xs x plans imports free =
    ap (λ (qs : List Plan). slice_get (left_among w.links 0 qs) (length is)) plans
    ∙ (ap (λ (ys : List Imported). slice_get (left_in w.links 0 0 ys ++ left_among w.links 1 ps) (length is)) imports
    ∙ (found_in_front (left_in w.links 0 0 (is ++ (x ∷ xs))) (left_among w.links 1 ps) (length is) (record { plan = 0; number = 0 + length is; import = x })
    (left_at w.links 0 is xs x
    (λ i low. (let none : 0 + i ≡ i = omega arith in ap (is_joined w.links 0) none ∙ free_joined i w.links (free i low))))
    ∙ (let none : 0 + length is ≡ length is = omega arith in ap (λ (n : ℕ). Some (record { plan = 0; number = n; import = x })) none)))

module _ (n : ℕ) where
  pub first_named : (xs ys : List ℕ) (ls : List Link) → AllWithin (length xs) ls
      → map (named_link n (xs ++ ys)) (map (later_link 0) ls) ≡ map (named_link n xs) ls
  first_named xs ys [] all = refl
  first_named xs ys (l ∷ ls) (one, two, all) =
      let at : (a : Place) → a.plan < length xs → named n (xs ++ ys) (later 0 a) ≡ named n xs a = λ a low.
      let none : 0 + a.plan ≡ a.plan = omega arith in
      ap (λ (k : ℕ). place k a.end) (ap (back (xs ++ ys) n) none ∙ back_first n xs ys a.plan low)
      in
      let first = at l.one one in
      let second = at l.other two in
      let rest = first_named xs ys ls all in
      λ i. record { one = first i; other = second i } ∷ rest i

  pub second_named : (xs ys : List ℕ) (ls : List Link) → map (named_link n (xs ++ ys)) (map (later_link (length xs)) ls) ≡ map (named_link n ys) ls
  second_named xs ys [] = refl
  second_named xs ys (l ∷ ls) =
      let first = back_second n xs ys l.one.plan in
      let second = back_second n xs ys l.other.plan in
      let rest = second_named xs ys ls in
      λ i. record { one = place (first i) l.one.end; other = place (second i) l.other.end } ∷ rest i

-- A wiring whose first plan's import k is served by the result of another wiring.
module _ (v w : Wiring) (k : ℕ) (x : Imported) (at : slice_get (all_left v) k ≡ Some (record { plan = 0; number = k; import = x })) (giver : w.giver ≡ 0)
    (skipped : w.skipped ≡ 0)
  where
    abbrev both : List Wiring
    both = v ∷ w ∷ []

    abbrev between : ℕ → Link
    between h = record { one = place 0 (ImportEnd k h); other = place (length v.plans) (ResultEnd h) }

    pub bound_between : (h : ℕ) → deeper_link both (link 0 (ImportEnd k h) 1 (ResultEnd h)) ≡ between h
    bound_between h =
        let one : deeper both (place 0 (ImportEnd k h)) ≡ place 0 (ImportEnd k h) = ap (λ (o : Option LeftImport). later 0 (left_place o h)) at in
        let sum : length v.plans + 0 + w.giver ≡ length v.plans = omega (arith, giver) in
        let shake : w.skipped + h ≡ h = omega (arith, skipped) in
        λ i. record { one = one i; other = place (sum i) (ResultEnd (shake i)) }

    pub all_between : (n : ℕ) (ns : List ℕ) (s : Service) → back ns n 0 ≡ s.user → back ns n (length v.plans) ≡ s.giver → k ≡ s.import → (h m : ℕ)
        → map (named_link n ns) (map (deeper_link both) (import_linked k 1 h m)) ≡ links_from s h m
    all_between n ns s user serves import h zero = refl
    all_between n ns s user serves import h (suc m) =
        let one : named_link n ns (deeper_link both (link 0 (ImportEnd k h) 1 (ResultEnd h))) ≡ link_at s h =
        ap (named_link n ns) (bound_between h) ∙ (λ i. record { one = place (user i) (ImportEnd (import i) h); other = place (serves i) (ResultEnd h) })
        in
        let rest = all_between n ns s user serves import (suc h) m in
        λ i. one i ∷ rest i

    pub between_within : (n : ℕ) → length v.plans < n → (h m : ℕ) → AllWithin n (map (deeper_link both) (import_linked k 1 h m))
    between_within n low h zero = tt
    between_within n low h (suc m) =
        let is = bound_between h in (
          subst (λ (l : Link). l.one.plan < n) (sym is) (let some : 0 < n = omega (arith, low) in some),
          subst (λ (l : Link). l.other.plan < n) (sym is) low,
          between_within n low (suc h) m,
        )

    pub between_free : (i : ℕ) → i < k → 0 < length v.plans → (h m : ℕ) → AllFree i (map (deeper_link both) (import_linked k 1 h m))
    between_free i low some h zero = tt
    between_free i low some h (suc m) =
        let is = bound_between h in
        let apart : nat_eq k i ≡ false = ne_eqb k i (λ e. omega (arith, low, e)) in (
          subst (λ (l : Link). is_at_import 0 i l.one ≡ false) (sym is) apart,
          subst (λ (l : Link). is_at_import 0 i l.other ≡ false) (sym is) (not_first i (length v.plans) (ResultEnd h) some),
          between_free i low some (suc h) m,
        )
