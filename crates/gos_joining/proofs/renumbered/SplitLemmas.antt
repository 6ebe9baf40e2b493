-- Parts and imports of joinings by the number of their plan and their number there.
use Rattle.std.specs.Prelude.{◌≡◌, ℕ, zero, suc, ◌+◌, ◌-◌, ◌<◌, ◌≤◌, Bool, true, false, List, [], ◌∷◌, ◌++◌, length, Option, Some, slice_get, nat_lt, if◌then◌else◌}
use Rattle.std.proofs.Common.{refl, sym, ◌∙◌, ap, subst, arith, length-append}
use Rattle.std.proofs.lemmas.Bool.Decides.{nat_tests}
use Rattle.std.proofs.lemmas.Option.{slice_get_within}
use Rattle.gos_types.proofs.ListLemmas.{element_at, found_in_front, found_behind, same_in_front}
use Rattle.gos_model.specs.Typing.{Imported}
use Rattle.gos_plan.specs.Plans.{End, PartEnd, ImportEnd, ResultEnd, Plan}
use Rattle.gos_plan.specs.Joining.{Place, Link, all_parts, is_joined, LeftImport, left_in, left_among, part_place}
use Rattle.gos_realises.proofs.joined.OriginLemmas.{behind_at, before, left_before, left_index}
use Rattle.gos_joining.proofs.unions.DeepLemmas.{place_of_part}

-- part i of all is part `part` of plan `plan`
pub record SplitAt (ps : List Plan) (i : ℕ) : Type 0 where
  pub plan : ℕ
  pub part : ℕ
  pub of : Plan
  pub is : slice_get ps plan ≡ Some of
  pub small : part < length of.parts
  pub number : i ≡ before ps plan + part

pub split_at : (ps : List Plan) (i : ℕ) → i < length (all_parts ps) → SplitAt ps i
split_at [] i low = absurd (omega (arith, low))
split_at (p ∷ ps) i low = by_test (nat_lt i (length p.parts)) refl (split_at ps (i - length p.parts))
  where
    by_test : (b : Bool) → nat_lt i (length p.parts) ≡ b → (i - length p.parts < length (all_parts ps) → SplitAt ps (i - length p.parts)) → SplitAt (p ∷ ps) i
    by_test true test rest =
        let small : i < length p.parts = grind (arith, nat_tests, test) in
        record { plan = 0; part = i; of = p; is = refl; small = small; number = omega arith }
    by_test false test rest =
        let large : length p.parts ≤ i = grind (arith, nat_tests, test) in
        let both = length-append p.parts (all_parts ps) in
        let there = rest (omega (arith, low, both, large)) in
        let number = there.number in
        record { plan = suc there.plan; part = there.part; of = there.of; is = there.is; small = there.small; number = omega (arith, number, large) }

pub part_get : (ps : List Plan) (k j : ℕ) (p : Plan) → slice_get ps k ≡ Some p → j < length p.parts
    → slice_get (all_parts ps) (before ps k + j) ≡ slice_get p.parts j
part_get [] k j p is small = absurd (cc is)
part_get (x ∷ ps) zero j p is small =
    let same : x ≡ p = cc is in
    let zeros : 0 + j ≡ j = omega arith in
    let low : j < length x.parts = subst (λ (y : Plan). j < length y.parts) (sym same) small in
    ap (slice_get (x.parts ++ all_parts ps)) zeros ∙ (same_in_front x.parts (all_parts ps) j low ∙ ap (λ (y : Plan). slice_get y.parts j) same)
part_get (x ∷ ps) (suc k) j p is small =
    let less : length x.parts + before ps k + j - length x.parts ≡ before ps k + j = omega arith in
    behind_at x.parts (all_parts ps) (length x.parts + before ps k + j) (omega arith)
    ∙ (ap (slice_get (all_parts ps)) less ∙ part_get ps k j p is small)

pub part_low : (ps : List Plan) (k j : ℕ) (p : Plan) → slice_get ps k ≡ Some p → j < length p.parts → before ps k + j < length (all_parts ps)
part_low ps k j p is small =
    let (x, at) = element_at p.parts j small in
    slice_get_within (all_parts ps) (before ps k + j) x (part_get ps k j p is small ∙ at)

-- the numbers of part i of all
abbrev pub part_number : End → ℕ
part_number (PartEnd j h) = j
part_number (ImportEnd j h) = 0
part_number (ResultEnd h) = 0

abbrev pub plan_in : List Plan → ℕ → ℕ
plan_in ps i = (part_place 0 ps i 0).plan

abbrev pub part_in : List Plan → ℕ → ℕ
part_in ps i = part_number (part_place 0 ps i 0).end

pub plan_is : (ps : List Plan) (k j : ℕ) (p : Plan) → slice_get ps k ≡ Some p → j < length p.parts → plan_in ps (before ps k + j) ≡ k
plan_is ps k j p is small =
    let zeros : 0 + k ≡ k = omega arith in ap (λ (a : Place). a.plan) (place_of_part 0 ps k j 0 p is small) ∙ zeros

pub part_is : (ps : List Plan) (k j : ℕ) (p : Plan) → slice_get ps k ≡ Some p → j < length p.parts → part_in ps (before ps k + j) ≡ j
part_is ps k j p is small = ap (λ (a : Place). part_number a.end) (place_of_part 0 ps k j 0 p is small)

-- an import that no link joins, by its number among those that stay
abbrev after_test : List Link → ℕ → ℕ → Imported → List Imported → ℕ → Bool → Option LeftImport
after_test ls k n y xs m b =
    slice_get (if b then left_in ls k (suc n) xs else record { plan = k; number = n; import = y } ∷ left_in ls k (suc n) xs)
    ((if b then 0 else 1) + left_before ls k (suc n) xs m)

left_in_get : (ls : List Link) (k n : ℕ) (xs : List Imported) (m : ℕ) (x : Imported) → slice_get xs m ≡ Some x → is_joined ls k (n + m) ≡ false
    → slice_get (left_in ls k n xs) (left_before ls k n xs m) ≡ Some (record { plan = k; number = n + m; import = x })
left_in_get ls k n [] m x at free = absurd (cc at)
left_in_get ls k n (y ∷ xs) zero x at free =
    let same : y ≡ x = cc at in
    let sum : n ≡ n + 0 = omega arith in
    let test : is_joined ls k n ≡ false = ap (is_joined ls k) sum ∙ free in
    ap (λ (b : Bool). slice_get (if b then left_in ls k (suc n) xs else record { plan = k; number = n; import = y } ∷ left_in ls k (suc n) xs) 0) test
    ∙ (λ i. Some (record { plan = k; number = sum i; import = same i }))
left_in_get ls k n (y ∷ xs) (suc m) x at free = by_test (is_joined ls k n) refl (left_in_get ls k (suc n) xs m x at (ap (is_joined ls k) sum ∙ free))
  where
    sum : suc n + m ≡ n + suc m
    sum = omega arith

    by_test : (b : Bool) → is_joined ls k n ≡ b
        → slice_get (left_in ls k (suc n) xs) (left_before ls k (suc n) xs m) ≡ Some (record { plan = k; number = suc n + m; import = x })
        → after_test ls k n y xs m (is_joined ls k n) ≡ Some (record { plan = k; number = n + suc m; import = x })
    by_test true test rest =
        let zeros : 0 + left_before ls k (suc n) xs m ≡ left_before ls k (suc n) xs m = omega arith in
        ap (after_test ls k n y xs m) test ∙ (ap (slice_get (left_in ls k (suc n) xs)) zeros ∙ (rest ∙ (λ i. Some (record { plan = k; number = sum i; import = x }))))
    by_test false test rest =
        let ones : 1 + left_before ls k (suc n) xs m ≡ suc (left_before ls k (suc n) xs m) = omega arith in
        ap (after_test ls k n y xs m) test
        ∙ (ap (slice_get (record { plan = k; number = n; import = y } ∷ left_in ls k (suc n) xs)) ones
        ∙ (rest ∙ (λ i. Some (record { plan = k; number = sum i; import = x }))))

pub left_get : (ls : List Link) (n : ℕ) (ps : List Plan) (k m : ℕ) (p : Plan) (x : Imported) → slice_get ps k ≡ Some p → slice_get p.imports m ≡ Some x
    → is_joined ls (n + k) m ≡ false
    → slice_get (left_among ls n ps) (left_index ls n ps k m) ≡ Some (record { plan = n + k; number = m; import = x })
left_get ls n [] k m p x is at free = absurd (cc is)
left_get ls n (q ∷ ps) zero m p x is at free =
    let same : q ≡ p = cc is in
    let sum : n ≡ n + 0 = omega arith in
    let zeros : 0 + m ≡ m = omega arith in
    let at_q : slice_get q.imports m ≡ Some x = ap (λ (y : Plan). slice_get y.imports m) same ∙ at in
    let test : is_joined ls n (0 + m) ≡ false = (λ i. is_joined ls (sum i) (zeros i)) ∙ free in
    found_in_front (left_in ls n 0 q.imports) (left_among ls (suc n) ps) (left_before ls n 0 q.imports m) (record { plan = n; number = 0 + m; import = x })
    (left_in_get ls n 0 q.imports m x at_q test)
    ∙ (λ i. Some (record { plan = sum i; number = zeros i; import = x }))
left_get ls n (q ∷ ps) (suc k) m p x is at free =
    let sum : suc n + k ≡ n + suc k = omega arith in
    found_behind (left_in ls n 0 q.imports) (left_among ls (suc n) ps) (left_index ls (suc n) ps k m)
    ∙ (left_get ls (suc n) ps k m p x is at (ap (λ (j : ℕ). is_joined ls j m) sum ∙ free) ∙ (λ i. Some (record { plan = sum i; number = m; import = x })))
