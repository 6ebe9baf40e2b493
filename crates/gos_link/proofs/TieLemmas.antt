-- Lists of ties, of places and of imports that stay, one element further.
use Rattle.std.specs.Prelude.{◌≡◌, ℕ, zero, suc, ◌+◌, ◌<◌, ◌⊎◌, List, [], ◌∷◌, ◌++◌, drop, length, map, Option, Some, None, option_map, slice_get}
use Rattle.std.proofs.Common.{refl, sym, ◌∙◌, ap, subst, arith, inl, inr, append-nil, append_assoc, length-append}
use Rattle.std.proofs.lemmas.List.{length-map}
use Rattle.std.proofs.lemmas.Option.{slice_get-map}
use Rattle.gos_model.proofs.NumberLemmas.{number_cases}
use Rattle.gos_plan.specs.Plans.{Plan, IsRight}
use Rattle.gos_plan.specs.declared.plan.PlanImport.{PlanImport}
use Rattle.gos_plan.specs.declared.plan.Joint as declared_joint
use Rattle.gos_plan.specs.Seen.{SeenPlan, plan_of, part_of, import_of, joint_of}
use Rattle.gos_plan.specs.Joining.{LeftImport}
use Rattle.gos_ties.specs.declared.points.Place.{Place}
use Rattle.gos_ties.specs.declared.points.Tie.{Tie}
use Rattle.gos_ties.specs.Ties.{tie}
use Rattle.gos_link.specs.declared.services.Service.{Service}
use Rattle.gos_link.specs.inner.Opens.{number_bound, if_open, opens_in}
use Rattle.gos_link.specs.inner.Wired.{rank, stays, place_of_import, point_in, ties_in, ties_from, PlacesAre}

-- the list from a place on
pub drop_at : {X : Type 0} (xs : List X) (k : ℕ) (x : X) → slice_get xs k ≡ Some x → drop k xs ≡ x ∷ drop (k + 1) xs
drop_at [] k x e = absurd (cc e)
drop_at (y ∷ xs) zero x e = let same : y ≡ x = cc e in (λ i. same i ∷ xs)
drop_at (y ∷ xs) (suc k) x e =
    let next : k + 1 ≡ suc k = omega arith in
    let more : suc k + 1 ≡ suc (suc k) = omega arith in
    drop_at xs k x e ∙ (ap (λ (n : ℕ). x ∷ drop n xs) next ∙ ap (λ (n : ℕ). x ∷ drop n (y ∷ xs)) (sym more))

-- the last element of a list, or one before it
last_at : {X : Type 0} (xs : List X) (q : X) (i : ℕ) (x : X) → slice_get (xs ++ q ∷ []) i ≡ Some x → (slice_get xs i ≡ Some x) ⊎ ((i ≡ length xs) × (q ≡ x))
last_at [] q zero x e = inr (refl, (let same : q ≡ x = cc e in same))
last_at [] q (suc i) x e = absurd (cc e)
last_at (y ∷ xs) q zero x e = inl e
last_at (y ∷ xs) q (suc i) x e = elim (last_at xs q i x e) [ inl h ↦ inl h | inr (n, same) ↦ inr (ap suc n, same) ]

-- an import further
pub opens_more : (ss : List Service) (k n : ℕ) (x : PlanImport) (xs : List PlanImport) (old new all : List LeftImport) → slice_get xs n ≡ Some x
    → new ≡ old ++ if_open (number_bound ss k n) (record { plan = k; number = n; import = import_of x }) []
    → old ++ opens_in ss k n (map import_of (drop n xs)) ≡ all → new ++ opens_in ss k (n + 1) (map import_of (drop (n + 1) xs)) ≡ all
opens_more ss k n x xs old new all at added before =
    let rest : List LeftImport = opens_in ss k (n + 1) (map import_of (drop (n + 1) xs)) in
    let here : old ++ opens_in ss k n (map import_of (x ∷ drop (n + 1) xs)) ≡ all = ap (λ (ys : List PlanImport). old ++ opens_in ss k n (map import_of ys)) (sym (drop_at xs n x at)) ∙ before in
    ap (λ (ls : List LeftImport). ls ++ rest) added ∙ (by (number_bound ss k n) rest ∙ here)
  where
    l : LeftImport
    l = record { plan = k; number = n; import = import_of x }

    by : (o : Option ℕ) (rest : List LeftImport) → (old ++ if_open o l []) ++ rest ≡ old ++ if_open o l rest
    by None rest = append_assoc old (l ∷ []) rest
    by (Some t) rest = ap (λ (ls : List LeftImport). ls ++ rest) (append-nil old)

-- an import's place further
pub places_more : (ss : List Service) (k n from : ℕ) (each new : List Place) (q : Place) → PlacesAre ss k from each → length each ≡ n
    → q ≡ place_of_import ss k from n → new ≡ each ++ q ∷ [] → PlacesAre ss k from new
places_more ss k n from each new q are size is pushed =
    subst (λ (ps : List Place). PlacesAre ss k from ps) (sym pushed)
    (λ i p at.
    elim (last_at each q i p at) [
      | inl h ↦ are i p h
      | inr (number, same) ↦ sym same ∙ (is ∙ ap (place_of_import ss k from) (sym (number ∙ size)))
    ])

pub rank_more : (ss : List Service) (k n from stay more : ℕ) (o : Option ℕ) → stay ≡ from + rank ss k n → o ≡ number_bound ss k n → more ≡ stay + stays o
    → more ≡ from + rank ss k (n + 1)
rank_more ss k n from stay more o before is sum =
    let next : n + 1 ≡ suc n = omega arith in
    let ranks : rank ss k (n + 1) ≡ rank ss k n + stays (number_bound ss k n) = ap (rank ss k) next in
    let same : stays o ≡ stays (number_bound ss k n) = ap stays is in
    omega (arith, before, sum, ranks, same)

-- a joint further
pub ties_more : (ss : List Service) (root k P from n : ℕ) (j : declared_joint.Joint) (js : List declared_joint.Joint) (t : Tie) (old new all : List Tie)
    → slice_get js n ≡ Some j → t ≡ tie (point_in ss root k P from (joint_of j).asking) (point_in ss root k P from (joint_of j).serving) → new ≡ old ++ t ∷ []
    → old ++ ties_in ss root k P from (map joint_of (drop n js)) ≡ all → new ++ ties_in ss root k P from (map joint_of (drop (n + 1) js)) ≡ all
ties_more ss root k P from n j js t old new all at is pushed before =
    let rest : List Tie = ties_in ss root k P from (map joint_of (drop (n + 1) js)) in
    let here : old ++ ties_in ss root k P from (map joint_of (j ∷ drop (n + 1) js)) ≡ all =
    ap (λ (ys : List declared_joint.Joint). old ++ ties_in ss root k P from (map joint_of ys)) (sym (drop_at js n j at)) ∙ before in
    ap (λ (ts : List Tie). ts ++ rest) pushed ∙ (append_assoc old (t ∷ []) rest ∙ (ap (λ (u : Tie). old ++ u ∷ rest) is ∙ here))

-- a plan further
pub ties_from_more : (ss : List Service) (root k P I Q J : ℕ) (p : SeenPlan) (ps : List SeenPlan) (old new all : List Tie) → slice_get ps k ≡ Some p
    → new ≡ old ++ ties_in ss root k P I (map joint_of p.joints) → Q ≡ P + length p.parts → J ≡ I + rank ss k (length p.imports)
    → old ++ ties_from ss root k P I (map plan_of (drop k ps)) ≡ all → new ++ ties_from ss root (k + 1) Q J (map plan_of (drop (k + 1) ps)) ≡ all
ties_from_more ss root k P I Q J p ps old new all at added parts imports before =
    let rest : ℕ → ℕ → List Tie = (λ R K. ties_from ss root (k + 1) R K (map plan_of (drop (k + 1) ps))) in
    let here : old ++ ties_from ss root k P I (map plan_of (p ∷ drop (k + 1) ps)) ≡ all =
    ap (λ (qs : List SeenPlan). old ++ ties_from ss root k P I (map plan_of qs)) (sym (drop_at ps k p at)) ∙ before in
    let parts_are : Q ≡ P + length (plan_of p).parts = (let size : length (map part_of p.parts) ≡ length p.parts = length-map p.parts part_of in omega (arith, parts, size)) in
    let imports_are : J ≡ I + rank ss k (length (plan_of p).imports) = imports ∙ ap (λ (n : ℕ). I + rank ss k n) (sym (length-map p.imports import_of)) in
    ap (λ (ts : List Tie). ts ++ rest Q J) added
    ∙ (append_assoc old (ties_in ss root k P I (map joint_of p.joints)) (rest Q J)
    ∙ ((λ i. old ++ (ties_in ss root k P I (map joint_of p.joints) ++ rest (parts_are i) (imports_are i))) ∙ here))

pub right_more : (ps : List SeenPlan) (k : ℕ) (p : SeenPlan) → slice_get ps k ≡ Some p → IsRight (plan_of p)
    → ((n : ℕ) (q : Plan) → n < k → slice_get (map plan_of ps) n ≡ Some q → IsRight q) → (n : ℕ) (q : Plan) → n < k + 1 → slice_get (map plan_of ps) n ≡ Some q → IsRight q
right_more ps k p at right before n q low is =
    number_cases n k
    (λ e b.
    let there : slice_get (map plan_of ps) k ≡ Some (plan_of p) = slice_get-map plan_of ps k ∙ ap (option_map plan_of) at in
    let both : Some (plan_of p) ≡ Some q = sym there ∙ (ap (slice_get (map plan_of ps)) (sym e) ∙ is) in
    let same : plan_of p ≡ q = cc both in
    subst IsRight same right)
    (λ e b. before n q (omega (arith, low, e)) is)

pub grown : {X : Type 0} (old new : List X) (x : X) (n : ℕ) → length old ≡ n → new ≡ old ++ x ∷ [] → length new ≡ n + 1
grown old new x n size pushed =
    let all : length new ≡ length (old ++ x ∷ []) = ap length pushed in
    let sum = length-append old (x ∷ []) in
    omega (arith, all, sum, size)
