-- Joinings along results and parts: all imports stay.
use Rattle.std.specs.Prelude.{◌≡◌, ℕ, zero, suc, ◌+◌, ◌<◌, Bool, false, ◌&&◌, ◌||◌, List, [], ◌∷◌, ◌++◌, length, map, Some, slice_get, Contains, nat_eq, if◌then◌else◌}
use Rattle.std.proofs.Common.{refl, ◌∙◌, ap, subst, arith}
use Rattle.gos_types.proofs.BoolLemmas.{and_false}
use Rattle.gos_model.specs.Typing.{Imported}
use Rattle.gos_plan.specs.Plans.{End, PartEnd, ImportEnd, ResultEnd, Plan}
use Rattle.gos_plan.specs.Joining.{Place, Link, is_of_import, is_at_import, is_joined, LeftImport, left_in, left_among}
use Rattle.gos_realises.proofs.joined.OriginLemmas.{import_of}

-- A link's place is of a result, or of a part of another plan than the first.
abbrev pub IsPlain : ℕ → End → Type 0
IsPlain k (PartEnd i h) = 0 < k
IsPlain k (ImportEnd i h) = ⊥
IsPlain k (ResultEnd h) = Unit {0}

abbrev pub ArePlain : List Link → Type 0
ArePlain [] = Unit {0}
ArePlain (l ∷ ls) = IsPlain l.one.plan l.one.end × IsPlain l.other.plan l.other.end × ArePlain ls

pub plain_link : (ls : List Link) → ArePlain ls → (l : Link) → Contains ls l → IsPlain l.one.plan l.one.end × IsPlain l.other.plan l.other.end
plain_link [] plain l (k, small, e) = absurd (omega (arith, small))
plain_link (x ∷ ls) (one, other, rest) l (zero, small, e) =
    subst (λ (y : Link). IsPlain y.one.plan y.one.end × IsPlain y.other.plan y.other.end) e (one, other)
plain_link (x ∷ ls) (one, other, rest) l (suc k, small, e) = plain_link ls rest l (k, omega (arith, small), e)

no_import : (i k : ℕ) (e : End) → IsPlain k e → is_of_import i e ≡ false
no_import i k (PartEnd j h) plain = refl
no_import i k (ImportEnd j h) plain = absurd plain
no_import i k (ResultEnd h) plain = refl

not_at : (k i : ℕ) (a : Place) → IsPlain a.plan a.end → is_at_import k i a ≡ false
not_at k i a plain =
    ap (λ (b : Bool). is_at_import_of b) (no_import i a.plan a.end plain) ∙ and_false (nat_eq a.plan k)
  where
    is_at_import_of : Bool → Bool
    is_at_import_of b = nat_eq a.plan k && b

pub none_joined : (ls : List Link) → ArePlain ls → (k i : ℕ) → is_joined ls k i ≡ false
none_joined [] plain k i = refl
none_joined (l ∷ ls) (one, other, rest) k i =
    (λ j. (not_at k i l.one one j || is_at_import k i l.other) || is_joined ls k i)
    ∙ ((λ j. not_at k i l.other other j || is_joined ls k i) ∙ none_joined ls rest k i)

-- imports with their numbers
abbrev pub numbered : ℕ → ℕ → List Imported → List LeftImport
numbered k n [] = []
numbered k n (x ∷ xs) = record { plan = k; number = n; import = x } ∷ numbered k (suc n) xs

pub all_stay : (ls : List Link) → ArePlain ls → (k n : ℕ) (xs : List Imported) → left_in ls k n xs ≡ numbered k n xs
all_stay ls plain k n [] = refl
all_stay ls plain k n (x ∷ xs) =
    (λ j. if none_joined ls plain k n j then left_in ls k (suc n) xs else record { plan = k; number = n; import = x } ∷ left_in ls k (suc n) xs)
    ∙ ap (λ (ys : List LeftImport). record { plan = k; number = n; import = x } ∷ ys) (all_stay ls plain k (suc n) xs)

pub numbered_length : (k n : ℕ) (xs : List Imported) → length (numbered k n xs) ≡ length xs
numbered_length k n [] = refl
numbered_length k n (x ∷ xs) = ap suc (numbered_length k (suc n) xs)

pub numbered_imports : (k n : ℕ) (xs : List Imported) → map import_of (numbered k n xs) ≡ xs
numbered_imports k n [] = refl
numbered_imports k n (x ∷ xs) = ap (λ (ys : List Imported). x ∷ ys) (numbered_imports k (suc n) xs)

pub numbered_at : (k n : ℕ) (xs : List Imported) (i : ℕ) (x : Imported) → slice_get xs i ≡ Some x
    → slice_get (numbered k n xs) i ≡ Some (record { plan = k; number = n + i; import = x })
numbered_at k n [] i x at = absurd (cc at)
numbered_at k n (y ∷ xs) zero x at =
    let same : y ≡ x = cc at in
    let zeros : n ≡ n + 0 = omega arith in
    λ j. Some (record { plan = k; number = zeros j; import = same j })
numbered_at k n (y ∷ xs) (suc i) x at =
    let sum : suc n + i ≡ n + suc i = omega arith in
    numbered_at k (suc n) xs i x at ∙ ap (λ (m : ℕ). Some (record { plan = k; number = m; import = x })) sum

-- the imports of plans
abbrev pub all_imports : List Plan → List Imported
all_imports [] = []
all_imports (p ∷ ps) = p.imports ++ all_imports ps

map_both : (xs ys : List LeftImport) → map import_of (xs ++ ys) ≡ map import_of xs ++ map import_of ys
map_both [] ys = refl
map_both (x ∷ xs) ys = ap (λ (zs : List Imported). x.import ∷ zs) (map_both xs ys)

pub left_imports : (ls : List Link) → ArePlain ls → (k : ℕ) (ps : List Plan) → map import_of (left_among ls k ps) ≡ all_imports ps
left_imports ls plain k [] = refl
left_imports ls plain k (p ∷ ps) =
    map_both (left_in ls k 0 p.imports) (left_among ls (suc k) ps)
    ∙ (λ j. one j ++ left_imports ls plain (suc k) ps j)
  where
    one : map import_of (left_in ls k 0 p.imports) ≡ p.imports
    one = ap (map import_of) (all_stay ls plain k 0 p.imports) ∙ numbered_imports k 0 p.imports
