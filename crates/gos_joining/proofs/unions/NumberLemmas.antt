-- The numbers of plans in the flat wiring: those of one joining follow those of the one before.
use Rattle.std.specs.Prelude.{◌≡◌, ℕ, zero, suc, ◌+◌, ◌-◌, ◌<◌, ◌≤◌, List, [], ◌∷◌, ◌++◌, length, Some, slice_get}
use Rattle.std.proofs.Common.{refl, sym, ◌∙◌, ap, subst, arith}
use Rattle.gos_types.proofs.ListLemmas.{same_in_front}
use Rattle.gos_plan.specs.Plans.{Plan}
use Rattle.gos_plan.specs.Joining.{Wiring, IsJoining, all_parts}
use Rattle.gos_realises.proofs.joined.OriginLemmas.{behind_at, before}
use Rattle.gos_joining.specs.unions.Unions.{LinksStand}
use Rattle.gos_joining.specs.unions.Flat.{all_plans, first_of, AreJoinings, AllLinksStand}

-- plan k and wiring k
pub record Joins (vs : List Wiring) (ps : List Plan) (k : ℕ) : Type 0 where
  pub wiring : Wiring
  pub plan : Plan
  pub is_wiring : slice_get vs k ≡ Some wiring
  pub is_plan : slice_get ps k ≡ Some plan
  pub joins : IsJoining wiring plan

pub wiring_of : (vs : List Wiring) (ps : List Plan) (k : ℕ) (p : Plan) → AreJoinings vs ps → slice_get ps k ≡ Some p → Joins vs ps k
wiring_of [] [] k p are is = absurd (cc is)
wiring_of [] (q ∷ ps) k p are is = absurd are
wiring_of (v ∷ vs) [] k p are is = absurd are
wiring_of (v ∷ vs) (q ∷ ps) zero p are is = record { wiring = v; plan = q; is_wiring = refl; is_plan = refl; joins = are.0 }
wiring_of (v ∷ vs) (q ∷ ps) (suc k) p are is =
    let rest = wiring_of vs ps k p are.1 is in
    record { wiring = rest.wiring; plan = rest.plan; is_wiring = rest.is_wiring; is_plan = rest.is_plan; joins = rest.joins }

pub plan_of : (vs : List Wiring) (ps : List Plan) (k : ℕ) (v : Wiring) → AreJoinings vs ps → slice_get vs k ≡ Some v → Joins vs ps k
plan_of [] [] k v are is = absurd (cc is)
plan_of [] (q ∷ ps) k v are is = absurd are
plan_of (u ∷ vs) [] k v are is = absurd are
plan_of (u ∷ vs) (q ∷ ps) zero v are is = record { wiring = u; plan = q; is_wiring = refl; is_plan = refl; joins = are.0 }
plan_of (u ∷ vs) (q ∷ ps) (suc k) v are is =
    let rest = plan_of vs ps k v are.1 is in
    record { wiring = rest.wiring; plan = rest.plan; is_wiring = rest.is_wiring; is_plan = rest.is_plan; joins = rest.joins }

-- what holds of each wiring holds of wiring k
pub stands_of : (vs : List Wiring) (k : ℕ) (v : Wiring) → AllLinksStand vs → slice_get vs k ≡ Some v → LinksStand v
stands_of [] k v all is = absurd (cc is)
stands_of (u ∷ vs) zero v all is = let same : u ≡ v = cc is in subst LinksStand same all.0
stands_of (u ∷ vs) (suc k) v all is = stands_of vs k v all.1 is

-- plan j of wiring k is that plan of the flat one
pub flat_at : (vs : List Wiring) (k j : ℕ) (v : Wiring) → slice_get vs k ≡ Some v → j < length v.plans
    → slice_get (all_plans vs) (first_of vs k + j) ≡ slice_get v.plans j
flat_at [] k j v is small = absurd (cc is)
flat_at (u ∷ vs) zero j v is small =
    let same : u ≡ v = cc is in
    let zeros : 0 + j ≡ j = omega arith in
    let low : j < length u.plans = subst (λ (x : Wiring). j < length x.plans) (sym same) small in
    ap (slice_get (u.plans ++ all_plans vs)) zeros ∙ (same_in_front u.plans (all_plans vs) j low ∙ ap (λ (x : Wiring). slice_get x.plans j) same)
flat_at (u ∷ vs) (suc k) j v is small =
    let less : (length u.plans + first_of vs k + j) - length u.plans ≡ first_of vs k + j = omega arith in
    behind_at u.plans (all_plans vs) (length u.plans + first_of vs k + j) (omega arith)
    ∙ (ap (slice_get (all_plans vs)) less ∙ flat_at vs k j v is small)

abbrev One : ℕ → ℕ → ℕ → ℕ → Type 0
One k l i j = (k ≡ l) × (i ≡ j)

-- one number is that of one plan of one wiring
pub one_number : (vs : List Wiring) (k l i j : ℕ) (u v : Wiring) → slice_get vs k ≡ Some u → slice_get vs l ≡ Some v → i < length u.plans → j < length v.plans
    → first_of vs k + i ≡ first_of vs l + j → (k ≡ l) × (i ≡ j)
one_number [] k l i j u v is_u is_v small_i small_j e = absurd (cc is_u)
one_number (x ∷ vs) zero zero i j u v is_u is_v small_i small_j e = (refl, omega (arith, e))
one_number (x ∷ vs) zero (suc l) i j u v is_u is_v small_i small_j e =
    let same : x ≡ u = cc is_u in
    let low : i < length x.plans = subst (λ (y : Wiring). i < length y.plans) (sym same) small_i in
    absurd (omega (arith, e, low))
one_number (x ∷ vs) (suc k) zero i j u v is_u is_v small_i small_j e =
    let same : x ≡ v = cc is_v in
    let low : j < length x.plans = subst (λ (y : Wiring). j < length y.plans) (sym same) small_j in
    absurd (omega (arith, e, low))
one_number (x ∷ vs) (suc k) (suc l) i j u v is_u is_v small_i small_j e =
    let (same, number) = one_number vs k l i j u v is_u is_v small_i small_j (omega (arith, e)) in (ap suc same, number)

-- each plan of the flat one is plan j of some wiring
pub record Flat (vs : List Wiring) (n : ℕ) : Type 0 where
  pub joining : ℕ
  pub number : ℕ
  pub wiring : Wiring
  pub is : slice_get vs joining ≡ Some wiring
  pub small : number < length wiring.plans
  pub sum : n ≡ first_of vs joining + number

-- parts before them
before_front : (ps qs : List Plan) (k : ℕ) → k ≤ length ps → before (ps ++ qs) k ≡ before ps k
before_front [] [] k small = refl
before_front [] (q ∷ qs) zero small = refl
before_front [] (q ∷ qs) (suc k) small = absurd (omega (arith, small))
before_front (p ∷ ps) qs zero small = refl
before_front (p ∷ ps) qs (suc k) small = ap (λ (n : ℕ). length p.parts + n) (before_front ps qs k (omega (arith, small)))

parts_length : (ps qs : List Plan) (k : ℕ) → before (ps ++ qs) (length ps + k) ≡ length (all_parts ps) + before qs k
parts_length [] qs k =
    let zeros : 0 + k ≡ k = omega arith in
    let none : before qs k ≡ 0 + before qs k = omega arith in
    ap (before qs) zeros ∙ none
parts_length (p ∷ ps) qs k = omega (arith, lengths p.parts (all_parts ps), parts_length ps qs k, shift)
  where
    lengths : {X : Type 0} (xs ys : List X) → length (xs ++ ys) ≡ length xs + length ys
    lengths [] ys = omega arith
    lengths (x ∷ xs) ys = let e = lengths xs ys in omega (arith, e)

    shift : before (p ∷ (ps ++ qs)) (suc (length ps) + k) ≡ length p.parts + before (ps ++ qs) (length ps + k)
    shift = let e : suc (length ps) + k ≡ suc (length ps + k) = omega arith in ap (before (p ∷ (ps ++ qs))) e

pub before_flat : (vs : List Wiring) (ps : List Plan) (k j : ℕ) (v : Wiring) → AreJoinings vs ps → slice_get vs k ≡ Some v → j ≤ length v.plans
    → before (all_plans vs) (first_of vs k + j) ≡ before ps k + before v.plans j
before_flat [] [] k j v are is small = absurd (cc is)
before_flat [] (p ∷ ps) k j v are is small = absurd are
before_flat (u ∷ vs) [] k j v are is small = absurd are
before_flat (u ∷ vs) (p ∷ ps) zero j v are is small =
    let same : u ≡ v = cc is in
    let zeros : 0 + j ≡ j = omega arith in
    let low : j ≤ length u.plans = subst (λ (x : Wiring). j ≤ length x.plans) (sym same) small in
    let front = before_front u.plans (all_plans vs) j low in
    let none : before v.plans j ≡ 0 + before v.plans j = omega arith in
    ap (before (u.plans ++ all_plans vs)) zeros ∙ (front ∙ (ap (λ (x : Wiring). before x.plans j) same ∙ none))
before_flat (u ∷ vs) (p ∷ ps) (suc k) j v are is small =
    let sum : length u.plans + first_of vs k + j ≡ length u.plans + (first_of vs k + j) = omega arith in
    let parts : length (all_parts u.plans) ≡ length p.parts = ap length (sym are.0.parts) in
    let first = parts_length u.plans (all_plans vs) (first_of vs k + j) in
    let rest = before_flat vs ps k j v are.1 is small in
    ap (before (u.plans ++ all_plans vs)) sum ∙ omega (arith, first, rest, parts)
