-- The numbers of parts and of imports that stay: each has one, and each number that there is belongs to one.
use Rattle.std.specs.Prelude.{◌≡◌, ℕ, zero, suc, ◌+◌, ◌-◌, ◌<◌, ◌⊎◌, true, false, List, [], ◌∷◌, ◌++◌, length, Option, Some, None, slice_get, nat_lt}
use Rattle.std.proofs.Common.{refl, sym, ◌∙◌, ap, subst, arith, inl, inr}
use Rattle.std.proofs.lemmas.Option.{slice_get_within}
use Rattle.gos_types.proofs.ListLemmas.{found_in_front, found_behind}
use Rattle.gos_model.specs.Typing.{Imported}
use Rattle.gos_plan.specs.Kinds.{Part}
use Rattle.gos_plan.specs.Plans.{PartEnd, Plan}
use Rattle.gos_plan.specs.Joining.{place, all_parts, LeftImport, part_place}
use Rattle.gos_link.specs.declared.services.Service.{Service}
use Rattle.gos_link.specs.inner.Opens.{number_bound, opens_in, opens_among}
use Rattle.gos_link.specs.inner.Wired.{rank, parts_before, stays_before}

-- an element of two lists is one of the first or of the second
either_at : {X : Type 0} (xs ys : List X) (i : ℕ) (x : X) → slice_get (xs ++ ys) i ≡ Some x
    → (slice_get xs i ≡ Some x) ⊎ ((j : ℕ) × (i ≡ length xs + j) × (slice_get ys j ≡ Some x))
either_at [] ys i x e = inr (i, omega arith, e)
either_at (y ∷ xs) ys zero x e = inl e
either_at (y ∷ xs) ys (suc i) x e =
    elim (either_at xs ys i x e) [ inl h ↦ inl h | inr (j, n, h) ↦ inr (j, omega (arith, n), h) ]

-- a part of the whole
pub record PartAt (k : ℕ) (ps : List Plan) (g : ℕ) (part : Part) : Type 0 where
  pub plan : ℕ
  pub number : ℕ
  pub of : Plan
  pub is : slice_get ps plan ≡ Some of
  pub has : slice_get of.parts number ≡ Some part
  pub sum : g ≡ parts_before ps plan + number

pub part_at : (k : ℕ) (ps : List Plan) (g : ℕ) (kind : Part) → slice_get (all_parts ps) g ≡ Some kind → PartAt k ps g kind
part_at k [] g kind e = absurd (cc e)
part_at k (p ∷ ps) g kind e =
    elim (either_at p.parts (all_parts ps) g kind e) [
      | inl h ↦ record { plan = 0; number = g; of = p; is = refl; has = h; sum = omega arith }
      | inr (j, n, h) ↦
          (let r = part_at (suc k) ps j kind h in
          let sum = r.sum in
          record { plan = suc r.plan; number = r.number; of = r.of; is = r.is; has = r.has; sum = omega (arith, n, sum) })
    ]

-- and where it stands in its plan
pub part_stands : (k : ℕ) (ps : List Plan) (n : ℕ) (p : Plan) (i h : ℕ) (kind : Part) → slice_get ps n ≡ Some p → slice_get p.parts i ≡ Some kind
    → (slice_get (all_parts ps) (parts_before ps n + i) ≡ Some kind) × (part_place k ps (parts_before ps n + i) h ≡ place (k + n) (PartEnd i h))
part_stands k [] n p i h kind e f = absurd (cc e)
part_stands k (q ∷ ps) zero p i h kind e f =
    let same : q ≡ p = cc e in
    let here : slice_get q.parts i ≡ Some kind = subst (λ (r : Plan). slice_get r.parts i ≡ Some kind) (sym same) f in
    let low : i < length q.parts = slice_get_within q.parts i kind here in
    let none : 0 + i ≡ i = omega arith in
    let test : nat_lt (0 + i) (length q.parts) ≡ true = grind (arith, low, none) in
    let sum : k ≡ k + 0 = omega arith in (
      ap (slice_get (q.parts ++ all_parts ps)) none ∙ found_in_front q.parts (all_parts ps) i kind here,
      rw test ((λ t. place (sum t) (PartEnd (none t) h))),
    )
part_stands k (q ∷ ps) (suc n) p i h kind e f =
    let (at, stands) = part_stands (suc k) ps n p i h kind e f in
    let m : ℕ = parts_before ps n + i in
    let sum : (length q.parts + parts_before ps n) + i ≡ length q.parts + m = omega arith in
    let less : ((length q.parts + parts_before ps n) + i) - length q.parts ≡ m = omega arith in
    let test : nat_lt ((length q.parts + parts_before ps n) + i) (length q.parts) ≡ false = grind arith in
    let plans : suc k + n ≡ k + suc n = omega arith in (
      ap (slice_get (q.parts ++ all_parts ps)) sum ∙ (found_behind q.parts (all_parts ps) m ∙ at),
      rw test (ap (λ (x : ℕ). part_place (suc k) ps x h) less ∙ (stands ∙ ap (λ (x : ℕ). place x (PartEnd i h)) plans)),
    )

next : (i : ℕ) → i + 1 ≡ suc i
next i = omega arith

-- the imports of one plan that stay
rank_all : (ss : List Service) (k i : ℕ) (xs : List Imported) → rank ss k (i + length xs) ≡ rank ss k i + length (opens_in ss k i xs)
rank_all ss k i [] = let e : i + 0 ≡ i = omega arith in ap (rank ss k) e ∙ (let z : rank ss k i ≡ rank ss k i + 0 = omega arith in z)
rank_all ss k i (x ∷ xs) = by (number_bound ss k i) refl (rank_all ss k (i + 1) xs)
  where
    next_all : rank ss k (i + suc (length xs)) ≡ rank ss k ((i + 1) + length xs)
    next_all = let e : i + suc (length xs) ≡ (i + 1) + length xs = omega arith in ap (rank ss k) e

    by : (o : Option ℕ) → number_bound ss k i ≡ o → rank ss k ((i + 1) + length xs) ≡ rank ss k (i + 1) + length (opens_in ss k (i + 1) xs)
        → rank ss k (i + suc (length xs)) ≡ rank ss k i + length (opens_in ss k i (x ∷ xs))
    by None e rest = let one : rank ss k (i + 1) ≡ rank ss k i + 1 = ap (rank ss k) (next i) ∙ rw e refl in rw e (omega (arith, next_all, rest, one))
    by (Some t) e rest = let one : rank ss k (i + 1) ≡ rank ss k i + 0 = ap (rank ss k) (next i) ∙ rw e refl in rw e (omega (arith, next_all, rest, one))

open_in : (ss : List Service) (k i : ℕ) (xs : List Imported) (m : ℕ) (x : Imported) → slice_get xs m ≡ Some x → number_bound ss k (i + m) ≡ None
    → (r : ℕ) × (rank ss k (i + m) ≡ rank ss k i + r) × (slice_get (opens_in ss k i xs) r ≡ Some (record { plan = k; number = i + m; import = x }))
open_in ss k i [] m x e none = absurd (cc e)
open_in ss k i (y ∷ xs) zero x e none =
    let sum : i + 0 ≡ i = omega arith in
    let bound : number_bound ss k i ≡ None = ap (number_bound ss k) (sym sum) ∙ none in
    let same : y ≡ x = cc e in (
      0,
      ap (rank ss k) sum ∙ (let z : rank ss k i ≡ rank ss k i + 0 = omega arith in z),
      rw bound (λ t. Some (record { plan = k; number = sym sum t; import = same t })),
    )
open_in ss k i (y ∷ xs) (suc m) x e none =
    let sum : (i + 1) + m ≡ i + suc m = omega arith in
    let (r, ranks, at) = open_in ss k (i + 1) xs m x e (ap (number_bound ss k) sum ∙ none) in
    let moved : rank ss k (i + suc m) ≡ rank ss k (i + 1) + r = ap (rank ss k) (sym sum) ∙ ranks in
    let there : slice_get (opens_in ss k (i + 1) xs) r ≡ Some (record { plan = k; number = i + suc m; import = x }) =
    at ∙ (λ t. Some (record { plan = k; number = sum t; import = x })) in
    by (number_bound ss k i) refl r moved there
  where
    by : (o : Option ℕ) → number_bound ss k i ≡ o → (r : ℕ) → rank ss k (i + suc m) ≡ rank ss k (i + 1) + r
        → slice_get (opens_in ss k (i + 1) xs) r ≡ Some (record { plan = k; number = i + suc m; import = x })
        → (r : ℕ) × (rank ss k (i + suc m) ≡ rank ss k i + r) × (slice_get (opens_in ss k i (y ∷ xs)) r ≡ Some (record { plan = k; number = i + suc m; import = x }))
    by None b r moved there =
        let one : rank ss k (i + 1) ≡ rank ss k i + 1 = ap (rank ss k) (next i) ∙ rw b refl in (suc r, omega (arith, moved, one), rw b there)
    by (Some t) b r moved there =
        let one : rank ss k (i + 1) ≡ rank ss k i + 0 = ap (rank ss k) (next i) ∙ rw b refl in (r, omega (arith, moved, one), rw b there)

-- what an import that stays is
pub record OpenIn (ss : List Service) (k i : ℕ) (xs : List Imported) (r : ℕ) (l : LeftImport) : Type 0 where
  pub number : ℕ
  pub import : Imported
  pub is : l ≡ record { plan = k; number = i + number; import = import }
  pub has : slice_get xs number ≡ Some import
  pub unbound : number_bound ss k (i + number) ≡ None
  pub sum : rank ss k (i + number) ≡ rank ss k i + r

open_back : (ss : List Service) (k i : ℕ) (xs : List Imported) (r : ℕ) (l : LeftImport) → slice_get (opens_in ss k i xs) r ≡ Some l → OpenIn ss k i xs r l
open_back ss k i [] r l e = absurd (cc e)
open_back ss k i (x ∷ xs) r l e = by (number_bound ss k i) refl (λ m f. open_back ss k (i + 1) xs m l f) r e
  where
    later : (r s : ℕ) → rank ss k (i + 1) + r ≡ rank ss k i + s → OpenIn ss k (i + 1) xs r l → OpenIn ss k i (x ∷ xs) s l
    later r s sums o =
        let number : (i + 1) + o.number ≡ i + suc o.number = omega arith in
        let sum = o.sum in
        let moved : rank ss k (i + suc o.number) ≡ rank ss k ((i + 1) + o.number) = ap (rank ss k) (sym number) in
        record {
          number = suc o.number;
          import = o.import;
          is = o.is ∙ (λ t. record { plan = k; number = number t; import = o.import });
          has = o.has;
          unbound = ap (number_bound ss k) (sym number) ∙ o.unbound;
          sum = omega (arith, moved, sum, sums);
        }

    by : (o : Option ℕ) → number_bound ss k i ≡ o → ((m : ℕ) → slice_get (opens_in ss k (i + 1) xs) m ≡ Some l → OpenIn ss k (i + 1) xs m l)
        → (r : ℕ) → slice_get (opens_in ss k i (x ∷ xs)) r ≡ Some l → OpenIn ss k i (x ∷ xs) r l
    by (Some t) b rest r e =
        let one : rank ss k (i + 1) ≡ rank ss k i + 0 = ap (rank ss k) (next i) ∙ rw b refl in later r r (omega (arith, one)) (rest r (rw b at e))
    by None b rest zero e =
        let first : Some (record { plan = k; number = i; import = x }) ≡ Some l = rw b at e in
        let same : record { plan = k; number = i; import = x } ≡ l = cc first in
        let sum : i + 0 ≡ i = omega arith in
        record {
          number = 0;
          import = x;
          is = sym same ∙ (λ t. record { plan = k; number = sym sum t; import = x });
          has = refl;
          unbound = ap (number_bound ss k) sum ∙ b;
          sum = ap (rank ss k) sum ∙ (let z : rank ss k i ≡ rank ss k i + 0 = omega arith in z);
        }
    by None b rest (suc r) e =
        let one : rank ss k (i + 1) ≡ rank ss k i + 1 = ap (rank ss k) (next i) ∙ rw b refl in
        let there : slice_get (opens_in ss k (i + 1) xs) r ≡ Some l = rw b at e in later r (suc r) (omega (arith, one)) (rest r there)

-- the imports of all plans that stay
pub record OpenAt (ss : List Service) (k : ℕ) (ps : List Plan) (r : ℕ) (l : LeftImport) : Type 0 where
  pub plan : ℕ
  pub of : Plan
  pub is : slice_get ps plan ≡ Some of
  pub plan_is : l.plan ≡ k + plan
  pub has : slice_get of.imports l.number ≡ Some l.import
  pub unbound : number_bound ss (k + plan) l.number ≡ None
  pub sum : r ≡ stays_before ss k ps plan + rank ss (k + plan) l.number

pub open_at : (ss : List Service) (k : ℕ) (ps : List Plan) (r : ℕ) (l : LeftImport) → slice_get (opens_among ss k ps) r ≡ Some l → OpenAt ss k ps r l
open_at ss k [] r l e = absurd (cc e)
open_at ss k (p ∷ ps) r l e =
    elim (either_at (opens_in ss k 0 p.imports) (opens_among ss (k + 1) ps) r l e) [
      | inl h ↦
          (let o = open_back ss k 0 p.imports r l h in
          let none : k + 0 ≡ k = omega arith in
          let zero_more : 0 + o.number ≡ o.number = omega arith in
          let number : l.number ≡ o.number = ap (λ (x : LeftImport). x.number) o.is ∙ zero_more in
          let import : l.import ≡ o.import = ap (λ (x : LeftImport). x.import) o.is in
          let unbound : number_bound ss (k + 0) l.number ≡ None = (λ t. number_bound ss (none t) ((number ∙ sym zero_more) t)) ∙ o.unbound in
          let ranks : rank ss (k + 0) l.number ≡ rank ss k (0 + o.number) = (λ t. rank ss (none t) ((number ∙ sym zero_more) t)) in
          let sum = o.sum in
          record {
            plan = 0;
            of = p;
            is = refl;
            plan_is = ap (λ (x : LeftImport). x.plan) o.is ∙ sym none;
            has = (λ t. slice_get p.imports (number t)) ∙ (o.has ∙ ap Some (sym import));
            unbound = unbound;
            sum = omega (arith, ranks, sum);
          })
      | inr (j, n, h) ↦
          (let o = open_at ss (k + 1) ps j l h in
          let plans : (k + 1) + o.plan ≡ k + suc o.plan = omega arith in
          let all = rank_all ss k 0 p.imports in
          let none : 0 + length p.imports ≡ length p.imports = omega arith in
          let whole : rank ss k (length p.imports) ≡ rank ss k (0 + length p.imports) = ap (rank ss k) (sym none) in
          let sum = o.sum in
          let ranks : rank ss ((k + 1) + o.plan) l.number ≡ rank ss (k + suc o.plan) l.number = ap (λ (x : ℕ). rank ss x l.number) plans in
          record {
            plan = suc o.plan;
            of = o.of;
            is = o.is;
            plan_is = o.plan_is ∙ plans;
            has = o.has;
            unbound = ap (λ (x : ℕ). number_bound ss x l.number) (sym plans) ∙ o.unbound;
            sum = omega (arith, n, all, whole, sum, ranks);
          })
    ]

pub open_stands : (ss : List Service) (k : ℕ) (ps : List Plan) (n : ℕ) (p : Plan) (i : ℕ) (x : Imported) → slice_get ps n ≡ Some p → slice_get p.imports i ≡ Some x
    → number_bound ss (k + n) i ≡ None
    → slice_get (opens_among ss k ps) (stays_before ss k ps n + rank ss (k + n) i) ≡ Some (record { plan = k + n; number = i; import = x })
open_stands ss k [] n p i x e f none = absurd (cc e)
open_stands ss k (q ∷ ps) zero p i x e f none =
    let same : q ≡ p = cc e in
    let here : slice_get q.imports i ≡ Some x = subst (λ (r : Plan). slice_get r.imports i ≡ Some x) (sym same) f in
    let sum : k + 0 ≡ k = omega arith in
    let number : 0 + i ≡ i = omega arith in
    let (r, ranks, at) = open_in ss k 0 q.imports i x here ((λ t. number_bound ss (sym sum t) (number t)) ∙ none) in
    let same_rank : rank ss (k + 0) i ≡ rank ss k (0 + i) = (λ t. rank ss (sum t) (sym number t)) in
    let place : 0 + rank ss (k + 0) i ≡ r = omega (arith, ranks, same_rank) in
    ap (slice_get (opens_in ss k 0 q.imports ++ opens_among ss (k + 1) ps)) place
    ∙ (found_in_front (opens_in ss k 0 q.imports) (opens_among ss (k + 1) ps) r (record { plan = k; number = 0 + i; import = x }) at
    ∙ (λ t. Some (record { plan = sym sum t; number = number t; import = x })))
open_stands ss k (q ∷ ps) (suc n) p i x e f none =
    let plans : (k + 1) + n ≡ k + suc n = omega arith in
    let rest = open_stands ss (k + 1) ps n p i x e f (ap (λ (y : ℕ). number_bound ss y i) plans ∙ none) in
    let all = rank_all ss k 0 q.imports in
    let zero_more : 0 + length q.imports ≡ length q.imports = omega arith in
    let whole : rank ss k (length q.imports) ≡ rank ss k (0 + length q.imports) = ap (rank ss k) (sym zero_more) in
    let ranks : rank ss ((k + 1) + n) i ≡ rank ss (k + suc n) i = ap (λ (y : ℕ). rank ss y i) plans in
    let m : ℕ = stays_before ss (k + 1) ps n + rank ss ((k + 1) + n) i in
    let place : (rank ss k (length q.imports) + stays_before ss (k + 1) ps n) + rank ss (k + suc n) i ≡ length (opens_in ss k 0 q.imports) + m =
    omega (arith, all, whole, ranks) in
    ap (slice_get (opens_in ss k 0 q.imports ++ opens_among ss (k + 1) ps)) place
    ∙ (found_behind (opens_in ss k 0 q.imports) (opens_among ss (k + 1) ps) m
    ∙ (rest ∙ (λ t. Some (record { plan = plans t; number = i; import = x }))))
