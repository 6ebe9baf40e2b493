-- The links of supplies, the supply of an import, and the term for a name.
use Rattle.std.specs.Prelude.{◌≡◌, ℕ, zero, suc, ◌+◌, ◌-◌, ◌<◌, ◌≤◌, Bool, true, false, List, [], ◌∷◌, ◌⊎◌, Some, Contains, slice_get, if◌then◌else◌}
use Rattle.std.specs.Str.{bytes_eq}
use Rattle.std.proofs.Common.{refl, sym, ◌∙◌, ap, subst, arith, inl, inr}
use Rattle.std.proofs.lemmas.List.Elements.{Contains-append_left, Contains-append_right, Contains-append_cases}
use Rattle.gos_types.proofs.BytesLemmas.{bytes_eq_same}
use Rattle.gos_model.specs.Terms.{Name, Term}
use Rattle.gos_model.specs.Typing.{Imported}
use Rattle.gos_plan.specs.Plans.{ImportEnd, ResultEnd, Plan}
use Rattle.gos_plan.specs.Joining.{Place, Link, is_joined}
use Rattle.gos_realises.specs.realises.Regular.{count}
use Rattle.gos_realises.specs.realises.Wirings.{link}
use Rattle.gos_realises.specs.realises.Realises.{NamesDiffer, Realises}
use Rattle.gos_realises.specs.realises.Modules.{Supply, plans_of, AreSupplied, term_for, import_linked, imports_linked}
use Rattle.gos_realises.proofs.realises.PlaceLemmas.{contains_at}
use Rattle.gos_realises.proofs.realises.CountLemmas.{some_shake}
use Rattle.gos_joining.proofs.unions.LinkLemmas.{IsAt, joined_by, by_joined}

-- handshake h of import i, linked to its supply
abbrev pub supply_link : ℕ → ℕ → Link
supply_link i h = link 0 (ImportEnd i h) (suc i) (ResultEnd h)

abbrev OfImport : ℕ → ℕ → ℕ → Link → Type 0
OfImport i n m l = (h : ℕ) × (n ≤ h) × (h < n + m) × (l ≡ supply_link i h)

of_import : (i n m : ℕ) (l : Link) → Contains (import_linked i (suc i) n m) l → OfImport i n m l
of_import i n zero l (k, small, e) = absurd (omega (arith, small))
of_import i n (suc m) l (zero, small, e) = (n, omega arith, omega arith, sym e)
of_import i n (suc m) l (suc k, small, e) =
    let (h, low, high, same) = of_import i (suc n) m l (k, omega (arith, small), e) in (h, omega (arith, low), omega (arith, high), same)

in_tail : (i n m h : ℕ) → Contains (import_linked i (suc i) (suc n) m) (supply_link i h) → Contains (import_linked i (suc i) n (suc m)) (supply_link i h)
in_tail i n m h (k, small, e) = (suc k, omega (arith, small), e)

in_import : (i n m h : ℕ) → n ≤ h → h < n + m → Contains (import_linked i (suc i) n m) (supply_link i h)
in_import i n zero h low high = absurd (omega (arith, low, high))
in_import i n (suc m) h low high =
    by_number (h - n) (omega (arith, low)) (λ above. in_tail i n m h (in_import i (suc n) m h above (omega (arith, high))))
  where
    by_number : (d : ℕ) → h ≡ n + d → (suc n ≤ h → Contains (import_linked i (suc i) n (suc m)) (supply_link i h))
        → Contains (import_linked i (suc i) n (suc m)) (supply_link i h)
    by_number zero e further = let same : n ≡ h = omega (arith, e) in (0, omega arith, ap (supply_link i) same)
    by_number (suc d) e further = further (omega (arith, e))

-- a link of all imports is that of a handshake of one
pub record OfImports (n : ℕ) (xs : List Imported) (l : Link) : Type 0 where
  pub number : ℕ
  pub shake : ℕ
  pub import : Imported
  pub at : slice_get xs number ≡ Some import
  pub small : shake < count import.ty
  pub same : l ≡ supply_link (n + number) shake

pub of_imports : (n : ℕ) (xs : List Imported) (l : Link) → Contains (imports_linked n xs) l → OfImports n xs l
of_imports n [] l (k, small, e) = absurd (omega (arith, small))
of_imports n (x ∷ xs) l has =
    by_part (Contains-append_cases (import_linked n (suc n) 0 (count x.ty)) (imports_linked (suc n) xs) l has) (λ h. of_imports (suc n) xs l h)
  where
    by_part : Contains (import_linked n (suc n) 0 (count x.ty)) l ⊎ Contains (imports_linked (suc n) xs) l
        → (Contains (imports_linked (suc n) xs) l → OfImports (suc n) xs l) → OfImports n (x ∷ xs) l
    by_part (inl h) rest =
        let (g, low, high, same) = of_import n 0 (count x.ty) l h in
        let zeros : n ≡ n + 0 = omega arith in
        record { number = 0; shake = g; import = x; at = refl; small = omega (arith, high); same = same ∙ ap (λ (m : ℕ). supply_link m g) zeros }
    by_part (inr h) rest =
        let there = rest h in
        let sum : suc n + there.number ≡ n + suc there.number = omega arith in
        record {
          number = suc there.number;
          shake = there.shake;
          import = there.import;
          at = there.at;
          small = there.small;
          same = there.same ∙ ap (λ (m : ℕ). supply_link m there.shake) sum;
        }

pub in_imports : (n : ℕ) (xs : List Imported) (i h : ℕ) (x : Imported) → slice_get xs i ≡ Some x → h < count x.ty
    → Contains (imports_linked n xs) (supply_link (n + i) h)
in_imports n [] i h x at small = absurd (cc at)
in_imports n (y ∷ xs) zero h x at small =
    let same : y ≡ x = cc at in
    let zeros : n ≡ n + 0 = omega arith in
    let low : h < 0 + count y.ty = (let less = subst (λ (z : Imported). h < count z.ty) (sym same) small in omega (arith, less)) in
    Contains-append_left (import_linked n (suc n) 0 (count y.ty)) (imports_linked (suc n) xs) (supply_link (n + 0) h)
    (subst (λ (m : ℕ). Contains (import_linked n (suc n) 0 (count y.ty)) (supply_link m h)) zeros (in_import n 0 (count y.ty) h (omega arith) low))
in_imports n (y ∷ xs) (suc i) h x at small =
    let sum : suc n + i ≡ n + suc i = omega arith in
    Contains-append_right (import_linked n (suc n) 0 (count y.ty)) (imports_linked (suc n) xs) (supply_link (n + suc i) h)
    (subst (λ (m : ℕ). Contains (imports_linked (suc n) xs) (supply_link m h)) sum (in_imports (suc n) xs i h x at small))

-- so each import of the plan is joined, and none of a supply
pub first_joined : (is : List Imported) (j : ℕ) (z : Imported) → slice_get is j ≡ Some z → is_joined (imports_linked 0 is) 0 (0 + j) ≡ true
first_joined is j z at = by_joined (imports_linked 0 is) 0 (0 + j) (supply_link (0 + j) 0, in_imports 0 is j 0 z at (some_shake z.ty), inl (0, refl))

pub supply_free : (is : List Imported) (k j : ℕ) → is_joined (imports_linked 0 is) (suc k) j ≡ false
supply_free is k j = by_test (is_joined (imports_linked 0 is) (suc k) j) refl
  where
    at_link : (l : Link) → OfImports 0 is l → IsAt (suc k) j l.one ⊎ IsAt (suc k) j l.other → ⊥
    at_link l there (inl (h, e)) =
        let plans : 0 ≡ suc k = ap (λ (a : Place). a.plan) (ap (λ (m : Link). m.one) (sym there.same) ∙ e) in omega (arith, plans)
    at_link l there (inr (h, e)) =
        let ends : ResultEnd there.shake ≡ ImportEnd j h = ap (λ (a : Place). a.end) (ap (λ (m : Link). m.other) (sym there.same) ∙ e) in cc ends

    by_test : (b : Bool) → is_joined (imports_linked 0 is) (suc k) j ≡ b → is_joined (imports_linked 0 is) (suc k) j ≡ false
    by_test true test = let (l, has, ends) = joined_by (imports_linked 0 is) (suc k) j test in absurd (at_link l (of_imports 0 is l has) ends)
    by_test false test = test

-- the supply of an import
pub supply_of : (is : List Imported) (ss : List Supply) (n : ℕ) (x : Imported) → AreSupplied is ss → slice_get is n ≡ Some x
    → (s : Supply) × (slice_get ss n ≡ Some s) × Realises x.ty s.plan s.term
supply_of [] ss n x are at = absurd (cc at)
supply_of (i ∷ is) [] n x are at = absurd are
supply_of (i ∷ is) (s ∷ ss) zero x are at = let same : i ≡ x = cc at in (s, refl, subst (λ (y : Imported). Realises y.ty s.plan s.term) same are.0)
supply_of (i ∷ is) (s ∷ ss) (suc n) x are at = supply_of is ss n x are.1 at

pub import_for : (is : List Imported) (ss : List Supply) (n : ℕ) (s : Supply) → AreSupplied is ss → slice_get ss n ≡ Some s
    → (x : Imported) × (slice_get is n ≡ Some x) × Realises x.ty s.plan s.term
import_for is [] n s are at = absurd (cc at)
import_for [] (t ∷ ss) n s are at = absurd are
import_for (i ∷ is) (t ∷ ss) zero s are at = let same : t ≡ s = cc at in (i, refl, subst (λ (y : Supply). Realises i.ty y.plan y.term) same are.0)
import_for (i ∷ is) (t ∷ ss) (suc n) s are at = import_for is ss n s are.1 at

pub plan_at : (ss : List Supply) (n : ℕ) (s : Supply) → slice_get ss n ≡ Some s → slice_get (plans_of ss) n ≡ Some s.plan
plan_at [] n s at = absurd (cc at)
plan_at (t ∷ ss) zero s at = let same : t ≡ s = cc at in ap (λ (y : Supply). Some y.plan) same
plan_at (t ∷ ss) (suc n) s at = plan_at ss n s at

pub supply_at : (ss : List Supply) (n : ℕ) (p : Plan) → slice_get (plans_of ss) n ≡ Some p → (s : Supply) × (slice_get ss n ≡ Some s) × (s.plan ≡ p)
supply_at [] n p at = absurd (cc at)
supply_at (s ∷ ss) zero p at = (s, refl, cc at)
supply_at (s ∷ ss) (suc n) p at = supply_at ss n p at

-- the term for a name
pub record TermAt (is : List Imported) (ss : List Supply) (x : Name) (t : Term) : Type 0 where
  pub number : ℕ
  pub import : Imported
  pub supply : Supply
  pub at_import : slice_get is number ≡ Some import
  pub at_supply : slice_get ss number ≡ Some supply
  pub named : bytes_eq import.name x ≡ true
  pub term : supply.term ≡ t

pub term_at : (is : List Imported) (ss : List Supply) (x : Name) (t : Term) → term_for is ss x ≡ Some t → TermAt is ss x t
term_at [] ss x t e = absurd (cc e)
term_at (i ∷ is) [] x t e = absurd (cc e)
term_at (i ∷ is) (s ∷ ss) x t e = by_test (bytes_eq i.name x) refl e (term_at is ss x t)
  where
    by_test : (b : Bool) → bytes_eq i.name x ≡ b → (if b then Some s.term else term_for is ss x) ≡ Some t → (term_for is ss x ≡ Some t → TermAt is ss x t)
        → TermAt (i ∷ is) (s ∷ ss) x t
    by_test true test e rest = record { number = 0; import = i; supply = s; at_import = refl; at_supply = refl; named = test; term = cc e }
    by_test false test e rest =
        let there = rest e in
        record {
          number = suc there.number;
          import = there.import;
          supply = there.supply;
          at_import = there.at_import;
          at_supply = there.at_supply;
          named = there.named;
          term = there.term;
        }

pub at_term : (is : List Imported) (ss : List Supply) (x : Name) (n : ℕ) (i : Imported) (s : Supply) → NamesDiffer is → slice_get is n ≡ Some i → slice_get ss n ≡ Some s
    → bytes_eq i.name x ≡ true → term_for is ss x ≡ Some s.term
at_term [] ss x n i s differ at_i at_s named = absurd (cc at_i)
at_term (j ∷ is) [] x n i s differ at_i at_s named = absurd (cc at_s)
at_term (j ∷ is) (t ∷ ss) x zero i s differ at_i at_s named =
    let same_i : j ≡ i = cc at_i in
    let same_s : t ≡ s = cc at_s in
    let there : bytes_eq j.name x ≡ true = subst (λ (y : Imported). bytes_eq y.name x ≡ true) (sym same_i) named in
    (λ k. if there k then Some t.term else term_for is ss x) ∙ ap (λ (y : Supply). Some y.term) same_s
at_term (j ∷ is) (t ∷ ss) x (suc n) i s differ at_i at_s named = by_test (bytes_eq j.name x) refl (at_term is ss x n i s differ.1 at_i at_s named)
  where
    by_test : (b : Bool) → bytes_eq j.name x ≡ b → term_for is ss x ≡ Some s.term → (if b then Some t.term else term_for is ss x) ≡ Some s.term
    by_test true there rest = absurd (differ.0 i (contains_at is n i at_i) (bytes_eq_same j.name x there ∙ sym (bytes_eq_same i.name x named)))
    by_test false there rest = rest
