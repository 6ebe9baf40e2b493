-- The links of applications, of servings and of supplies.
use Rattle.std.specs.Prelude.{ℕ, zero, suc, ◌+◌, ◌<◌, ◌≤◌, List, Some, Contains, slice_get, nat_eq, Bool, true, false}
use Rattle.std.proofs.Common.{◌≡◌, [], ◌∷◌, inl, inr, refl, sym, ◌∙◌, ap, subst, arith}
use Rattle.std.proofs.lemmas.List.Elements.{Contains-append_left, Contains-append_right, Contains-append_cases}
use Rattle.gos_model.specs.Typing.{Imported}
use Rattle.gos_plan.specs.Plans.{ImportEnd, ResultEnd}
use Rattle.gos_plan.specs.Joining.{Link}
use Rattle.gos_realises.specs.realises.Regular.{count}
use Rattle.gos_realises.specs.realises.Wirings.{link, results_linked}
use Rattle.gos_realises.specs.realises.Modules.{import_linked, imports_linked}

later_in : (x l : Link) (ls : List Link) → Contains ls l → Contains (x ∷ ls) l
later_in x l ls (n, small, is) = (suc n, omega (arith, small), is)

first_in : (l : Link) (ls : List Link) → Contains (l ∷ ls) l
first_in l ls = (0, omega arith, refl)

-- an argument's
pub of_results : (j n m : ℕ) (l : Link) → Contains (results_linked j n m) l → (h : ℕ) × (n ≤ h) × (h < n + m) × (l ≡ link 0 (ResultEnd h) j (ResultEnd h))
of_results j n zero l (k, small, is) = absurd (omega (arith, small))
of_results j n (suc m) l (zero, small, is) = (n, omega arith, omega arith, sym is)
of_results j n (suc m) l (suc k, small, is) =
    let (h, low, high, same) = of_results j (suc n) m l (k, omega (arith, small), is) in (h, omega (arith, low), omega (arith, high), same)

pub in_results : (j n m h : ℕ) → n ≤ h → h < n + m → Contains (results_linked j n m) (link 0 (ResultEnd h) j (ResultEnd h))
in_results j n zero h low high = absurd (omega (arith, low, high))
in_results j n (suc m) h low high = by_test (nat_eq h n) refl (λ above. in_results j (suc n) m h above (omega (arith, high)))
  where
    by_test : (b : Bool) → nat_eq h n ≡ b → (suc n ≤ h → Contains (results_linked j (suc n) m) (link 0 (ResultEnd h) j (ResultEnd h)))
        → Contains (results_linked j n (suc m)) (link 0 (ResultEnd h) j (ResultEnd h))
    by_test true t rest =
        let same : h ≡ n = grind (arith, t) in
        subst (λ (k : ℕ). Contains (results_linked j n (suc m)) (link 0 (ResultEnd k) j (ResultEnd k))) (sym same)
        (first_in (link 0 (ResultEnd n) j (ResultEnd n)) (results_linked j (suc n) m))
    by_test false t rest =
        let above : suc n ≤ h = grind (arith, t, low) in
        later_in (link 0 (ResultEnd n) j (ResultEnd n)) (link 0 (ResultEnd h) j (ResultEnd h)) (results_linked j (suc n) m) (rest above)

-- an import's
pub of_import : (i j n m : ℕ) (l : Link) → Contains (import_linked i j n m) l → (h : ℕ) × (n ≤ h) × (h < n + m) × (l ≡ link 0 (ImportEnd i h) j (ResultEnd h))
of_import i j n zero l (k, small, is) = absurd (omega (arith, small))
of_import i j n (suc m) l (zero, small, is) = (n, omega arith, omega arith, sym is)
of_import i j n (suc m) l (suc k, small, is) =
    let (h, low, high, same) = of_import i j (suc n) m l (k, omega (arith, small), is) in (h, omega (arith, low), omega (arith, high), same)

pub in_import : (i j n m h : ℕ) → n ≤ h → h < n + m → Contains (import_linked i j n m) (link 0 (ImportEnd i h) j (ResultEnd h))
in_import i j n zero h low high = absurd (omega (arith, low, high))
in_import i j n (suc m) h low high = by_test (nat_eq h n) refl (λ above. in_import i j (suc n) m h above (omega (arith, high)))
  where
    by_test : (b : Bool) → nat_eq h n ≡ b → (suc n ≤ h → Contains (import_linked i j (suc n) m) (link 0 (ImportEnd i h) j (ResultEnd h)))
        → Contains (import_linked i j n (suc m)) (link 0 (ImportEnd i h) j (ResultEnd h))
    by_test true t rest =
        let same : h ≡ n = grind (arith, t) in
        subst (λ (k : ℕ). Contains (import_linked i j n (suc m)) (link 0 (ImportEnd i k) j (ResultEnd k))) (sym same)
        (first_in (link 0 (ImportEnd i n) j (ResultEnd n)) (import_linked i j (suc n) m))
    by_test false t rest =
        let above : suc n ≤ h = grind (arith, t, low) in
        later_in (link 0 (ImportEnd i n) j (ResultEnd n)) (link 0 (ImportEnd i h) j (ResultEnd h)) (import_linked i j (suc n) m) (rest above)

-- those of all imports
pub of_imports : (i : ℕ) (xs : List Imported) (l : Link) → Contains (imports_linked i xs) l
    → (k : ℕ) × (x : Imported) × (h : ℕ) × (slice_get xs k ≡ Some x) × (h < count x.ty) × (l ≡ link 0 (ImportEnd (i + k) h) (suc (i + k)) (ResultEnd h))
of_imports i [] l (k, small, is) = absurd (omega (arith, small))
of_imports i (x ∷ xs) l has =
    elim (Contains-append_cases (import_linked i (suc i) 0 (count x.ty)) (imports_linked (suc i) xs) l has) [
      | inl here ↦ let (h, low, high, same) = of_import i (suc i) 0 (count x.ty) l here in
          let e : i ≡ i + 0 = omega arith in
          (0, x, h, refl, omega (arith, high), same ∙ ap (λ (n : ℕ). link 0 (ImportEnd n h) (suc n) (ResultEnd h)) e)
      | inr there ↦ let (k, y, h, at, low, same) = of_imports (suc i) xs l there in
          let e : suc i + k ≡ i + suc k = omega arith in
          (suc k, y, h, at, low, same ∙ ap (λ (n : ℕ). link 0 (ImportEnd n h) (suc n) (ResultEnd h)) e)
    ]

pub in_imports : (i : ℕ) (xs : List Imported) (k : ℕ) (x : Imported) (h : ℕ) → slice_get xs k ≡ Some x → h < count x.ty
    → Contains (imports_linked i xs) (link 0 (ImportEnd (i + k) h) (suc (i + k)) (ResultEnd h))
in_imports i [] k x h at low = absurd (cc at)
in_imports i (y ∷ xs) zero x h at low =
    let same : y ≡ x = cc at in
    let e : i ≡ i + 0 = omega arith in
    let low_y : h < count y.ty = subst (λ (z : Imported). h < count z.ty) (sym same) low in
    subst (λ (n : ℕ). Contains (imports_linked i (y ∷ xs)) (link 0 (ImportEnd n h) (suc n) (ResultEnd h))) e
    (Contains-append_left (import_linked i (suc i) 0 (count y.ty)) (imports_linked (suc i) xs) (link 0 (ImportEnd i h) (suc i) (ResultEnd h))
    (in_import i (suc i) 0 (count y.ty) h (omega arith) (omega (arith, low_y))))
in_imports i (y ∷ xs) (suc k) x h at low =
    let e : suc i + k ≡ i + suc k = omega arith in
    subst (λ (n : ℕ). Contains (imports_linked i (y ∷ xs)) (link 0 (ImportEnd n h) (suc n) (ResultEnd h))) e
    (Contains-append_right (import_linked i (suc i) 0 (count y.ty)) (imports_linked (suc i) xs) (link 0 (ImportEnd (suc i + k) h) (suc (suc i + k)) (ResultEnd h))
    (in_imports (suc i) xs k x h at low))
