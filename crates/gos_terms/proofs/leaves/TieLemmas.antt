-- The ties of a wired node, by where they come from; and what is of one number alone.
use Rattle.std.specs.Prelude.{◌≡◌, ◌≢◌, ℕ, zero, suc, ◌+◌, ◌<◌, ◌⊎◌, List, Option, Some, None, Contains, slice_get, nat_eq, true, false, ◌≤◌, if◌then◌else◌}
use Rattle.std.proofs.Common.{refl, sym, ◌∙◌, ap, subst, arith, inl, inr}
use Rattle.std.proofs.lemmas.List.Elements.{Contains-append_left, Contains-append_right, Contains-append_cases}
use Rattle.std.proofs.lemmas.Option.{slice_get_within}
use Rattle.std.proofs.lemmas.Bool.{eq-eqb, ne_eqb}
use Rattle.gos_model.proofs.NumberLemmas.{number_cases}
use Rattle.gos_check.specs.Nodes.{Numbered, type_of_node}
use Rattle.gos_plan.specs.Kinds.{Contact, contacts_of}
use Rattle.gos_plan.specs.Plans.{ResultEnd, Plan, contact_at, turned_if}
use Rattle.gos_ties.specs.declared.points.Place.{Place}
use Rattle.gos_ties.specs.declared.points.Place.TheVariants as places
use Rattle.gos_ties.specs.declared.points.Tie as point_ties
use Rattle.gos_ties.specs.Ties as paths
use Rattle.gos_ties.specs.Ties.{point}
use Rattle.gos_realises.specs.realises.Regular.{count}
use Rattle.gos_joining.specs.webs.Webs.{Dot, Of, Number, Within, Tie, tie, own_web}
use Rattle.gos_joining.specs.unions.Unions.{within}
use Rattle.gos_joining.proofs.unions.UnionLemmas.{Image, of_image, in_image}
use Rattle.gos_compile.specs.Wiring.{Types, row, led, ties_of}
use Rattle.gos_terms.specs.wired.Wired.{dot_of, dot_ties, Supplies, result_ties, all_supply_ties, wired_ties}
use Rattle.gos_terms.proofs.wired.TieLemmas.{result_tie, of_results, in_results, in_supplies, of_supplies, OfSupplies}

-- something, if a number is this one
abbrev pub if_number : {A : Type 0} → ℕ → ℕ → A → Option A
if_number m n x = if nat_eq m n then Some x else None

pub same_number : {A : Type 0} (m n : ℕ) (x : A) → m ≡ n → if_number m n x ≡ Some x
same_number {A} m n x e = let t = eq-eqb m n e in (λ i. if t i then Some x else None)

pub other_number : {A : Type 0} (m n : ℕ) (x : A) → m ≢ n → if_number m n x ≡ None
other_number {A} m n x e = let f = ne_eqb m n e in (λ i. if f i then Some x else None)

pub is_number : {A : Type 0} (m n : ℕ) (x y : A) → if_number m n x ≡ Some y → (m ≡ n) × (x ≡ y)
is_number {A} m n x y h = number_cases m n same other
  where
    same : m ≡ n → nat_eq m n ≡ true → (m ≡ n) × (x ≡ y)
    same e t = let both : Some x ≡ Some y = sym (same_number m n x e) ∙ h in (e, cc both)

    other : m ≢ n → nat_eq m n ≡ false → (m ≡ n) × (x ≡ y)
    other e f = let both : None ≡ Some y = sym (other_number m n x e) ∙ h in absurd (cc both)

-- a row that is led to handshakes of a place, one by one
abbrev pub row_tie : Place → Place → ℕ → ℕ → ℕ → point_ties.Tie
row_tie q p a b k = paths.tie (point q (a + k)) (point p (b + k))

pub of_row : (q p : Place) (a b n : ℕ) (t : point_ties.Tie) → Contains (led (row q a n) p b) t → (k : ℕ) × (k < n) × (row_tie q p a b k ≡ t)
of_row q p a b zero t (k, small, e) = absurd (omega (arith, small))
of_row q p a b (suc n) t (zero, small, e) =
    let first : a + 0 ≡ a = omega arith in let second : b + 0 ≡ b = omega arith in
    (0, omega arith, (λ i. paths.tie (point q (first i)) (point p (second i))) ∙ e)
of_row q p a b (suc n) t (suc k, small, e) = next (of_row q p (suc a) (suc b) n t (k, omega (arith, small), e))
  where
    next : (m : ℕ) × (m < n) × (row_tie q p (suc a) (suc b) m ≡ t) → (m : ℕ) × (m < suc n) × (row_tie q p a b m ≡ t)
    next (m, low, same) =
        let first : a + suc m ≡ suc a + m = omega arith in let second : b + suc m ≡ suc b + m = omega arith in
        (suc m, omega (arith, low), (λ i. paths.tie (point q (first i)) (point p (second i))) ∙ same)

pub in_row : (q p : Place) (a b n k : ℕ) → k < n → Contains (led (row q a n) p b) (row_tie q p a b k)
in_row q p a b zero k small = absurd (omega (arith, small))
in_row q p a b (suc n) zero small =
    let first : a ≡ a + 0 = omega arith in let second : b ≡ b + 0 = omega arith in
    (0, omega arith, (λ i. paths.tie (point q (first i)) (point p (second i))))
in_row q p a b (suc n) (suc k) small = behind (subst (Contains (led (row q (suc a) n) p (suc b))) moved (in_row q p (suc a) (suc b) n k (omega (arith, small))))
  where
    first : suc a + k ≡ a + suc k
    first = omega arith

    second : suc b + k ≡ b + suc k
    second = omega arith

    moved : row_tie q p (suc a) (suc b) k ≡ row_tie q p a b (suc k)
    moved = (λ i. paths.tie (point q (first i)) (point p (second i)))

    behind : Contains (led (row q (suc a) n) p (suc b)) (row_tie q p a b (suc k)) → Contains (led (row q a (suc n)) p b) (row_tie q p a b (suc k))
    behind (m, low, same) = (suc m, omega (arith, low), same)

-- a handshake of the result is one of its type's
pub result_is_there : (p : Plan) (h : ℕ) (k : Contact) → contact_at p (ResultEnd h) ≡ Some k → h < count p.outcome
result_is_there p h k at = by_contact (slice_get (contacts_of p.outcome) h) refl
  where
    by_contact : (o : Option Contact) → slice_get (contacts_of p.outcome) h ≡ o → h < count p.outcome
    by_contact None none = let both : None ≡ Some k = sym (ap turned_if none) ∙ at in absurd (cc both)
    by_contact (Some c) there = slice_get_within (contacts_of p.outcome) h c there

module _ (types : Types) (i j : ℕ) (m : Numbered) (ns : List ℕ) (env : Supplies) where
  abbrev node_ties : List point_ties.Tie
  node_ties = ties_of types i j m (row places.Result 0 (count (type_of_node m)))

  abbrev dot_tie : point_ties.Tie → Tie
  dot_tie t = tie (dot_of t.one) (dot_of t.other)

  abbrev inside : ℕ → Tie → Tie
  inside k t = tie (Within k t.one) (Within k t.other)

  -- the node's ties, those of a supply, and those to its result, in the wired node
  pub own_tie : (t : point_ties.Tie) → Contains node_ties t
      → Contains (wired_ties types i j m ns env) (tie (Within 0 (dot_of t.one)) (Within 0 (dot_of t.other)))
  own_tie t has =
      Contains-append_left (within 0 (dot_ties node_ties)) (all_supply_ties types env ns) (inside 0 (dot_tie t))
      (in_image (inside 0) (dot_ties node_ties) (dot_tie t) (in_image dot_tie node_ties t has))

  pub inner_tie : (k : ℕ) → Contains ns k → (t : Tie) → Contains (own_web (env k).plan).ties t
      → Contains (wired_ties types i j m ns env) (tie (Within (suc k) t.one) (Within (suc k) t.other))
  inner_tie k among t has =
      Contains-append_right (within 0 (dot_ties node_ties)) (all_supply_ties types env ns) (inside (suc k) t)
      (in_supplies types env ns k (inside (suc k) t) among
      (Contains-append_left (within (suc k) (own_web (env k).plan).ties) (result_ties k 0 (count (types k))) (inside (suc k) t)
      (in_image (inside (suc k)) (own_web (env k).plan).ties t has)))

  pub outer_tie : (k h : ℕ) → Contains ns k → h < count (types k)
      → Contains (wired_ties types i j m ns env) (tie (Within 0 (Number k h)) (Within (suc k) (Of (ResultEnd h))))
  outer_tie k h among small =
      Contains-append_right (within 0 (dot_ties node_ties)) (all_supply_ties types env ns) (result_tie k h)
      (in_supplies types env ns k (result_tie k h) among
      (Contains-append_right (within (suc k) (own_web (env k).plan).ties) (result_ties k 0 (count (types k))) (result_tie k h)
      (in_results k 0 (count (types k)) h (omega arith) (omega (arith, small)))))

  -- and no others
  pub by_tie : (P : Dot → Dot → Type 0)
      → ((t : point_ties.Tie) → Contains node_ties t → P (Within 0 (dot_of t.one)) (Within 0 (dot_of t.other)))
      → ((k : ℕ) → Contains ns k → (t : Tie) → Contains (own_web (env k).plan).ties t → P (Within (suc k) t.one) (Within (suc k) t.other))
      → ((k h : ℕ) → Contains ns k → P (Within 0 (Number k h)) (Within (suc k) (Of (ResultEnd h))))
      → (a b : Dot) → Contains (wired_ties types i j m ns env) (tie a b) → P a b
  by_tie P own inner outer a b has =
      by_side (Contains-append_cases (within 0 (dot_ties node_ties)) (all_supply_ties types env ns) (tie a b) has)
    where
      moved : (t : Tie) → t ≡ tie a b → P t.one t.other → P a b
      moved t e h = subst (λ (u : Tie). P u.one u.other) e h

      by_dot : (u : Tie) → inside 0 u ≡ tie a b → Image dot_tie node_ties u → P a b
      by_dot u e (t, among, same) = moved (inside 0 (dot_tie t)) (ap (inside 0) same ∙ e) (own t among)

      by_own : Image (inside 0) (dot_ties node_ties) (tie a b) → P a b
      by_own (u, among, same) = by_dot u same (of_image dot_tie node_ties u among)

      by_inner : (k : ℕ) → Contains ns k → Image (inside (suc k)) (own_web (env k).plan).ties (tie a b) → P a b
      by_inner k in_ns (u, among, same) = moved (inside (suc k) u) same (inner k in_ns u among)

      by_result : (k : ℕ) → Contains ns k → (h : ℕ) × (0 ≤ h) × (h < 0 + count (types k)) × (tie a b ≡ result_tie k h) → P a b
      by_result k in_ns (h, low, high, same) = moved (result_tie k h) (sym same) (outer k h in_ns)

      by_part : (k : ℕ) → Contains ns k → Contains (within (suc k) (own_web (env k).plan).ties) (tie a b) ⊎ Contains (result_ties k 0 (count (types k))) (tie a b)
          → P a b
      by_part k in_ns (inl h) = by_inner k in_ns (of_image (inside (suc k)) (own_web (env k).plan).ties (tie a b) h)
      by_part k in_ns (inr h) = by_result k in_ns (of_results k 0 (count (types k)) (tie a b) h)

      by_supply : OfSupplies types env ns (tie a b) → P a b
      by_supply (k, in_ns, among) =
          by_part k in_ns (Contains-append_cases (within (suc k) (own_web (env k).plan).ties) (result_ties k 0 (count (types k))) (tie a b) among)

      by_side : Contains (within 0 (dot_ties node_ties)) (tie a b) ⊎ Contains (all_supply_ties types env ns) (tie a b) → P a b
      by_side (inl h) = by_own (of_image (inside 0) (dot_ties node_ties) (tie a b) h)
      by_side (inr h) = by_supply (of_supplies types env ns (tie a b) h)
