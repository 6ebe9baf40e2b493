-- The imports that stay in the flat wiring are those that stay in the joining of joinings, in the same order.
use Rattle.std.specs.Prelude.{◌≡◌, ℕ, suc, ◌+◌, Bool, true, false, List, [], ◌∷◌, ◌++◌, length, map, Some, slice_get, if◌then◌else◌}
use Rattle.std.proofs.Common.{refl, sym, ◌∙◌, ap, arith}
use Rattle.std.proofs.lemmas.List.{map-append, length-map}
use Rattle.gos_types.proofs.ListLemmas.{found_in_front, found_behind}
use Rattle.gos_model.specs.Typing.{Imported}
use Rattle.gos_plan.specs.Plans.{Plan}
use Rattle.gos_plan.specs.Joining.{Link, is_joined, LeftImport, left_in, left_among}
use Rattle.gos_realises.proofs.joined.OriginLemmas.{import_of}

map_chosen : (f : LeftImport → LeftImport) (b : Bool) (l : LeftImport) (ls : List LeftImport)
    → (if b then map f ls else f l ∷ map f ls) ≡ map f (if b then ls else l ∷ ls)
map_chosen f true l ls = refl
map_chosen f false l ls = refl

append_chosen : (b : Bool) (l : LeftImport) (ls ms : List LeftImport) → (if b then ls ++ ms else l ∷ (ls ++ ms)) ≡ (if b then ls else l ∷ ls) ++ ms
append_chosen true l ls ms = refl
append_chosen false l ls ms = refl

left_append : (ls : List Link) (k t : ℕ) (xs ys : List Imported) → left_in ls k t (xs ++ ys) ≡ left_in ls k t xs ++ left_in ls k (t + length xs) ys
left_append ls k t [] ys = let sum : t ≡ t + 0 = omega arith in ap (λ (n : ℕ). left_in ls k n ys) sum
left_append ls k t (x ∷ xs) ys =
    let sum : suc t + length xs ≡ t + suc (length xs) = omega arith in
    let rest : left_in ls k (suc t) (xs ++ ys) ≡ left_in ls k (suc t) xs ++ left_in ls k (t + suc (length xs)) ys =
    left_append ls k (suc t) xs ys ∙ ap (λ (n : ℕ). left_in ls k (suc t) xs ++ left_in ls k n ys) sum
    in
    (λ i. if is_joined ls k t then rest i else record { plan = k; number = t; import = x } ∷ rest i)
    ∙ append_chosen (is_joined ls k t) (record { plan = k; number = t; import = x }) (left_in ls k (suc t) xs) (left_in ls k (t + suc (length xs)) ys)

-- One joining, number k of the outer wiring, whose plans begin at `first` in the flat one. `ms` are its links, and `all` its
-- imports that stay.
pub record Lowers (flats ms ls : List Link) (first k : ℕ) (all : List LeftImport) (low : LeftImport → LeftImport) : Type 0 where
  pub kept : (n i : ℕ) → is_joined ms n i ≡ true → is_joined flats (first + n) i ≡ true
  pub same : (t : ℕ) (l : LeftImport) → slice_get all t ≡ Some l → is_joined flats (first + l.plan) l.number ≡ is_joined ls k t
  pub lowered : (t : ℕ) (l : LeftImport) → slice_get all t ≡ Some l
      → record { plan = first + l.plan; number = l.number; import = l.import } ≡ low (record { plan = k; number = t; import = l.import })

module _ (flats ms ls : List Link) (first k : ℕ) (all : List LeftImport) (low : LeftImport → LeftImport) (lowers : Lowers flats ms ls first k all low) where
  -- these are the imports that stay from number t on
  abbrev Segment : ℕ → List LeftImport → Type 0
  Segment t xs = (u : ℕ) (l : LeftImport) → slice_get xs u ≡ Some l → slice_get all (t + u) ≡ Some l

  next_segment : (t : ℕ) (l : LeftImport) (xs : List LeftImport) → Segment t (l ∷ xs) → Segment (suc t) xs
  next_segment t l xs seg u m e = let sum : suc t + u ≡ t + suc u = omega arith in ap (slice_get all) sum ∙ seg (suc u) m e

  one_plan : (n i t : ℕ) (xs : List Imported) → Segment t (left_in ms n i xs)
      → left_in flats (first + n) i xs ≡ map low (left_in ls k t (map import_of (left_in ms n i xs)))
  one_plan n i t [] seg = refl
  one_plan n i t (x ∷ xs) seg = by_test (is_joined ms n i) refl seg (one_plan n (suc i) t xs) (one_plan n (suc i) (suc t) xs)
    where
      here : LeftImport
      here = record { plan = n; number = i; import = x }

      rest : List LeftImport
      rest = left_in ms n (suc i) xs

      by_test : (b : Bool) → is_joined ms n i ≡ b → Segment t (if b then rest else here ∷ rest)
          → (Segment t rest → left_in flats (first + n) (suc i) xs ≡ map low (left_in ls k t (map import_of rest)))
          → (Segment (suc t) rest → left_in flats (first + n) (suc i) xs ≡ map low (left_in ls k (suc t) (map import_of rest)))
          → left_in flats (first + n) i (x ∷ xs) ≡ map low (left_in ls k t (map import_of (if b then rest else here ∷ rest)))
      by_test true e part skip more =
          (λ j.
          if lowers.kept n i e j then left_in flats (first + n) (suc i) xs
          else record { plan = first + n; number = i; import = x } ∷ left_in flats (first + n) (suc i) xs)
          ∙ skip part
      by_test false e part skip more =
          let zeros : t + 0 ≡ t = omega arith in
          let at_t : slice_get all t ≡ Some here = ap (slice_get all) (sym zeros) ∙ part 0 here refl in
          let test = lowers.same t here at_t in
          let head = lowers.lowered t here at_t in
          let tail = more (next_segment t here rest part) in
          (λ j. if test j then tail j else head j ∷ tail j)
          ∙ map_chosen low (is_joined ls k t) (record { plan = k; number = t; import = x }) (left_in ls k (suc t) (map import_of rest))

  later_segment : (n t : ℕ) (q : Plan) (qs : List Plan) → Segment t (left_among ms n (q ∷ qs))
      → Segment (t + length (map import_of (left_in ms n 0 q.imports))) (left_among ms (suc n) qs)
  later_segment n t q qs seg u l e =
      let heres : List LeftImport = left_in ms n 0 q.imports in
      let lengths : length (map import_of heres) ≡ length heres = length-map heres import_of in
      let sum : t + length (map import_of heres) + u ≡ t + (length heres + u) = omega (arith, lengths) in
      ap (slice_get all) sum ∙ seg (length heres + u) l (found_behind heres (left_among ms (suc n) qs) u ∙ e)

  two_parts : (n t : ℕ) (q : Plan) (qs : List Plan) → Segment t (left_among ms n (q ∷ qs))
      → left_among flats (first + suc n) qs
      ≡ map low (left_in ls k (t + length (map import_of (left_in ms n 0 q.imports))) (map import_of (left_among ms (suc n) qs)))
      → left_among flats (first + n) (q ∷ qs) ≡ map low (left_in ls k t (map import_of (left_among ms n (q ∷ qs))))
  two_parts n t q qs seg rest =
      (λ j. head j ++ tail j)
      ∙ (sym (map-append low (left_in ls k t (map import_of heres)) (left_in ls k (t + length (map import_of heres)) (map import_of rests)))
      ∙ ap (map low) (sym (left_append ls k t (map import_of heres) (map import_of rests)) ∙ ap (left_in ls k t) (sym (map-append import_of heres rests))))
    where
      heres : List LeftImport
      heres = left_in ms n 0 q.imports

      rests : List LeftImport
      rests = left_among ms (suc n) qs

      head : left_in flats (first + n) 0 q.imports ≡ map low (left_in ls k t (map import_of heres))
      head = one_plan n 0 t q.imports (λ u l e. seg u l (found_in_front heres rests u l e))

      next : suc (first + n) ≡ first + suc n
      next = omega arith

      tail : left_among flats (suc (first + n)) qs ≡ map low (left_in ls k (t + length (map import_of heres)) (map import_of rests))
      tail = ap (λ (m : ℕ). left_among flats m qs) next ∙ rest

  many_plans : (n t : ℕ) (qs : List Plan) → Segment t (left_among ms n qs)
      → left_among flats (first + n) qs ≡ map low (left_in ls k t (map import_of (left_among ms n qs)))
  many_plans n t [] seg = refl
  many_plans n t (q ∷ qs) seg =
      two_parts n t q qs seg
      (many_plans (suc n) (t + length (map import_of (left_in ms n 0 q.imports))) qs (later_segment n t q qs seg))

  pub lowered_all : (qs : List Plan) → all ≡ left_among ms 0 qs → left_among flats first qs ≡ map low (left_in ls k 0 (map import_of all))
  lowered_all qs is =
      let zeros : first ≡ first + 0 = omega arith in
      ap (λ (m : ℕ). left_among flats m qs) zeros
      ∙ (many_plans 0 0 qs
      (λ u l e. (let none : 0 + u ≡ u = omega arith in ap (slice_get all) none ∙ (ap (λ (xs : List LeftImport). slice_get xs u) is ∙ e)))
      ∙ ap (λ (xs : List LeftImport). map low (left_in ls k 0 (map import_of xs))) (sym is))

pub left_two : (ls : List Link) (n : ℕ) (ps qs : List Plan) → left_among ls n (ps ++ qs) ≡ left_among ls n ps ++ left_among ls (n + length ps) qs
left_two ls n [] qs = let sum : n ≡ n + 0 = omega arith in ap (λ (m : ℕ). left_among ls m qs) sum
left_two ls n (p ∷ ps) qs =
    let sum : suc n + length ps ≡ n + suc (length ps) = omega arith in
    ap (λ (xs : List LeftImport). left_in ls n 0 p.imports ++ xs) (left_two ls (suc n) ps qs ∙ ap (λ (m : ℕ). left_among ls (suc n) ps ++ left_among ls m qs) sum)
    ∙ append_twice (left_in ls n 0 p.imports) (left_among ls (suc n) ps) (left_among ls (n + suc (length ps)) qs)
  where
    append_twice : (xs ys zs : List LeftImport) → xs ++ (ys ++ zs) ≡ (xs ++ ys) ++ zs
    append_twice [] ys zs = refl
    append_twice (x ∷ xs) ys zs = ap (λ (l : List LeftImport). x ∷ l) (append_twice xs ys zs)
