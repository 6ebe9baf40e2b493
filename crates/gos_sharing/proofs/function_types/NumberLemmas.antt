-- The numbers of a plan behind a Share, applied to an argument, in that of the plan applied to the argument behind a Share, itself behind one.
use Rattle.std.specs.Prelude.{◌≡◌, ◌≢◌, ℕ, suc, ◌+◌, ◌-◌, ◌*◌, ◌<◌, ◌≤◌, Bool, true, false, nat_eq, nat_lt, if◌then◌else◌}
use Rattle.std.proofs.Common.{refl, sym, ◌∙◌, ap, subst, arith, inl, inr}
use Rattle.std.proofs.lemmas.Bool.Decides.{nat_tests}
use Rattle.gos_types.specs.Types.{Type', Fun}
use Rattle.gos_plan.specs.Plans.{End, PartEnd, ImportEnd, ResultEnd}
use Rattle.gos_realises.specs.realises.Regular.{count}
use Rattle.gos_realises.proofs.realises.GroundTurnLemmas.{count_fun}
use Rattle.gos_sharing.specs.function_types.Split.{Splitting, IsUsed}

pub so : {A : Type 0} (n m : ℕ) (x y : A) → n < m → (if nat_lt n m then x else y) ≡ x
so n m x y low = let test : nat_lt n m ≡ true = grind (arith, nat_tests, low) in ap (λ (b : Bool). if b then x else y) test

pub not_so : {A : Type 0} (n m : ℕ) (x y : A) → m ≤ n → (if nat_lt n m then x else y) ≡ y
not_so n m x y high = let test : nat_lt n m ≡ false = grind (arith, nat_tests, high) in ap (λ (b : Bool). if b then x else y) test

pub is_so : {A : Type 0} (n m : ℕ) (x y : A) → n ≡ m → (if nat_eq n m then x else y) ≡ x
is_so n m x y same = let test : nat_eq n m ≡ true = grind (arith, same) in ap (λ (b : Bool). if b then x else y) test

pub is_not : {A : Type 0} (n m : ℕ) (x y : A) → n ≢ m → (if nat_eq n m then x else y) ≡ y
is_not n m x y apart = by_test (nat_eq n m) refl
  where
    by_test : (b : Bool) → nat_eq n m ≡ b → (if b then x else y) ≡ y
    by_test false t = refl
    by_test true t = absurd (apart (grind (arith, t)))

-- P parts of the function, and Q of the argument
module _ (a b : Type') (c P Q : ℕ) where
  abbrev pub t : Type'
  t = Fun a b

  abbrev pub callers : Type' → ℕ
  callers s = count s + c * count s

  abbrev pub first : ℕ
  first = P + Q

  abbrev pub second : ℕ
  second = suc (P + Q)

  abbrev pub share_end : ℕ → End
  share_end h =
      if nat_lt h (count a) then PartEnd first (callers a + h)
      else if nat_lt h (count t) then PartEnd second (h - count a)
      else if nat_lt h (callers t + count a) then PartEnd first (h - callers t)
      else PartEnd second (callers b + (h - (callers t + count a)))

  abbrev pub new_part : ℕ → ℕ
  new_part n = if nat_lt n P then n else if nat_lt n (P + suc Q) then n - 1 else suc n

  abbrev pub old_part : ℕ → ℕ
  old_part n = if nat_lt n P then n else if nat_lt n first then suc n else n - 1

  abbrev pub new_end : End → End
  new_end (PartEnd n h) = if nat_eq n P then share_end h else PartEnd (new_part n) h
  new_end (ImportEnd n h) = ImportEnd n h
  new_end (ResultEnd h) = ResultEnd h

  abbrev pub first_back : ℕ → End
  first_back h = if nat_lt h (count a) then PartEnd P (callers t + h) else PartEnd P (h - callers a)

  abbrev pub second_back : ℕ → End
  second_back h = if nat_lt h (count b) then PartEnd P (count a + h) else PartEnd P (callers t + (count a + (h - callers b)))

  abbrev pub old_end : End → End
  old_end (PartEnd n h) = if nat_eq n first then first_back h else if nat_eq n second then second_back h else PartEnd (old_part n) h
  old_end (ImportEnd n h) = ImportEnd n h
  old_end (ResultEnd h) = ResultEnd h

  abbrev pub numbers : Splitting
  numbers =
      record {
        wide = P;
        caller = c;
        of = a;
        to = b;
        argument = first;
        outcome = second;
        part = new_part;
        part_back = old_part;
        end = new_end;
        end_back = old_end;
      }

  size : count t ≡ count a + count b
  size = count_fun a b

  pub wide_end : (h : ℕ) → new_end (PartEnd P h) ≡ share_end h
  wide_end h = is_so P P (share_end h) (PartEnd (new_part P) h) refl

  pub argument_source : (j : ℕ) → j < count a → new_end (PartEnd P j) ≡ PartEnd first (callers a + j)
  argument_source j low =
      wide_end j
      ∙ so j (count a) (PartEnd first (callers a + j))
      (if nat_lt j (count t) then PartEnd second (j - count a) else if nat_lt j (callers t + count a) then PartEnd first (j - callers t) else PartEnd second (callers b + (j - (callers t + count a)))) low

  pub outcome_source : (j : ℕ) → j < count b → new_end (PartEnd P (count a + j)) ≡ PartEnd second j
  outcome_source j low =
      let s = size in
      let less : count a + j - count a ≡ j = omega arith in
      wide_end (count a + j)
      ∙ (not_so (count a + j) (count a) (PartEnd first (callers a + (count a + j)))
      (if nat_lt (count a + j) (count t) then PartEnd second (count a + j - count a) else if nat_lt (count a + j) (callers t + count a) then PartEnd first (count a + j - callers t) else PartEnd second (callers b + (count a + j - (callers t + count a)))) (omega arith)
      ∙ (so (count a + j) (count t) (PartEnd second (count a + j - count a))
      (if nat_lt (count a + j) (callers t + count a) then PartEnd first (count a + j - callers t) else PartEnd second (callers b + (count a + j - (callers t + count a)))) (omega (arith, s, low))
      ∙ ap (PartEnd second) less))

  pub argument_caller : (j : ℕ) → j < count a → new_end (PartEnd P (callers t + j)) ≡ PartEnd first j
  argument_caller j low =
      let s = size in
      let h : ℕ = callers t + j in
      let less : callers t + j - callers t ≡ j = omega arith in
      wide_end (callers t + j)
      ∙ (not_so (callers t + j) (count a) (PartEnd first (callers a + (callers t + j)))
      (if nat_lt (callers t + j) (count t) then PartEnd second (callers t + j - count a) else if nat_lt (callers t + j) (callers t + count a) then PartEnd first (callers t + j - callers t) else PartEnd second (callers b + (callers t + j - (callers t + count a)))) (omega (arith, s))
      ∙ (not_so (callers t + j) (count t) (PartEnd second (callers t + j - count a))
      (if nat_lt (callers t + j) (callers t + count a) then PartEnd first (callers t + j - callers t) else PartEnd second (callers b + (callers t + j - (callers t + count a)))) (omega arith)
      ∙ (so (callers t + j) (callers t + count a) (PartEnd first (callers t + j - callers t)) (PartEnd second (callers b + (callers t + j - (callers t + count a)))) (omega (arith, low))
      ∙ ap (PartEnd first) less)))

  pub outcome_caller : (j : ℕ) → j < count b → new_end (PartEnd P (callers t + (count a + j))) ≡ PartEnd second (callers b + j)
  outcome_caller j low =
      let s = size in
      let less : callers t + (count a + j) - (callers t + count a) ≡ j = omega arith in
      wide_end (callers t + (count a + j))
      ∙ (not_so (callers t + (count a + j)) (count a) (PartEnd first (callers a + (callers t + (count a + j))))
      (if nat_lt (callers t + (count a + j)) (count t) then PartEnd second (callers t + (count a + j) - count a) else if nat_lt (callers t + (count a + j)) (callers t + count a) then PartEnd first (callers t + (count a + j) - callers t) else PartEnd second (callers b + (callers t + (count a + j) - (callers t + count a)))) (omega (arith, s))
      ∙ (not_so (callers t + (count a + j)) (count t) (PartEnd second (callers t + (count a + j) - count a))
      (if nat_lt (callers t + (count a + j)) (callers t + count a) then PartEnd first (callers t + (count a + j) - callers t) else PartEnd second (callers b + (callers t + (count a + j) - (callers t + count a)))) (omega arith)
      ∙ (not_so (callers t + (count a + j)) (callers t + count a) (PartEnd first (callers t + (count a + j) - callers t)) (PartEnd second (callers b + (callers t + (count a + j) - (callers t + count a)))) (omega arith)
      ∙ ap (λ (n : ℕ). PartEnd second (callers b + n)) less)))

  pub other_end : (n h : ℕ) → n ≢ P → new_end (PartEnd n h) ≡ PartEnd (new_part n) h
  other_end n h own = is_not n P (share_end h) (PartEnd (new_part n) h) own

  pub low_part : (n : ℕ) → n < P → new_part n ≡ n
  low_part n low = so n P n (if nat_lt n (P + suc Q) then n - 1 else suc n) low

  pub argument_part : (n : ℕ) → n < Q → new_part (suc P + n) ≡ P + n
  argument_part n low =
      let less : suc P + n - 1 ≡ P + n = omega arith in
      not_so (suc P + n) P (suc P + n) (if nat_lt (suc P + n) (P + suc Q) then suc P + n - 1 else suc (suc P + n)) (omega arith)
      ∙ (so (suc P + n) (P + suc Q) (suc P + n - 1) (suc (suc P + n)) (omega (arith, low)) ∙ less)

  pub high_part : (n : ℕ) → P + suc Q ≤ n → new_part n ≡ suc n
  high_part n high = not_so n P n (if nat_lt n (P + suc Q) then n - 1 else suc n) (omega (arith, high)) ∙ not_so n (P + suc Q) (n - 1) (suc n) high

  -- of numbers: those of the function, those of the argument, and beyond
  pub data Sort (n : ℕ) : Type 0 where
    of_function : n < P → Sort n
    of_argument : (m : ℕ) → m < Q → n ≡ suc P + m → Sort n
    beyond : P + suc Q ≤ n → Sort n

  pub sort : (n : ℕ) → n ≢ P → Sort n
  sort n own = by_low (nat_lt n P) refl (nat_lt n (P + suc Q)) refl
    where
      by_low : (x : Bool) → nat_lt n P ≡ x → (y : Bool) → nat_lt n (P + suc Q) ≡ y → Sort n
      by_low true test y other = of_function (grind (arith, nat_tests, test))
      by_low false test true other =
          let high : P ≤ n = grind (arith, nat_tests, test) in
          let low : n < P + suc Q = grind (arith, nat_tests, other) in
          let up : P < n = omega_apart high in of_argument (n - suc P) (omega (arith, up, low)) (omega (arith, up))
        where
          omega_apart : P ≤ n → P < n
          omega_apart high = by_eq (nat_eq n P) refl
            where
              by_eq : (e : Bool) → nat_eq n P ≡ e → P < n
              by_eq true t = absurd (own (grind (arith, t)))
              by_eq false t = grind (arith, t, high)
      by_low false test false other = beyond (grind (arith, nat_tests, other))

  pub old_low : (n : ℕ) → n < P → old_part n ≡ n
  old_low n low = so n P n (if nat_lt n first then suc n else n - 1) low

  pub old_argument : (n : ℕ) → P ≤ n → n < P + Q → old_part n ≡ suc n
  old_argument n high low = not_so n P n (if nat_lt n first then suc n else n - 1) high ∙ so n first (suc n) (n - 1) low

  old_high : (n : ℕ) → P + Q ≤ n → old_part n ≡ n - 1
  old_high n high = not_so n P n (if nat_lt n first then suc n else n - 1) (omega (arith, high)) ∙ not_so n first (suc n) (n - 1) high

  pub part_facts : (n : ℕ) → n ≢ P → (old_part (new_part n) ≡ n) × (new_part n ≢ first) × (new_part n ≢ second)
  part_facts n own = of_sort (sort n own)
    where
      of_sort : Sort n → (old_part (new_part n) ≡ n) × (new_part n ≢ first) × (new_part n ≢ second)
      of_sort (of_function low) =
          let e = low_part n low in (ap old_part e ∙ old_low n low, (λ s. omega (arith, e, s, low)), λ s. omega (arith, e, s, low))
      of_sort (of_argument m low same) =
          let e : new_part n ≡ P + m = ap new_part same ∙ argument_part m low in
          let back : suc (P + m) ≡ n = omega (arith, same) in
          (ap old_part e ∙ (old_argument (P + m) (omega arith) (omega (arith, low)) ∙ back), (λ s. omega (arith, e, s, low)), λ s. omega (arith, e, s, low))
      of_sort (beyond high) =
          let e = high_part n high in
          let back : suc n - 1 ≡ n = omega arith in
          (ap old_part e ∙ (old_high (suc n) (omega (arith, high)) ∙ back), (λ s. omega (arith, e, s, high)), λ s. omega (arith, e, s, high))

  pub back_facts : (n : ℕ) → n ≢ first → n ≢ second → (new_part (old_part n) ≡ n) × (old_part n ≢ P)
  back_facts n one other = by_test (nat_lt n P) refl (nat_lt n (P + Q)) refl
    where
      apart : (m k : ℕ) → m ≤ n → (n ≢ m) → m < n
      apart m k le own = by_eq (nat_eq n m) refl
        where
          by_eq : (e : Bool) → nat_eq n m ≡ e → m < n
          by_eq true t = absurd (own (grind (arith, t)))
          by_eq false t = grind (arith, t, le)

      by_test : (x : Bool) → nat_lt n P ≡ x → (y : Bool) → nat_lt n (P + Q) ≡ y → (new_part (old_part n) ≡ n) × (old_part n ≢ P)
      by_test true test y more =
          let low : n < P = grind (arith, nat_tests, test) in
          let e = old_low n low in (ap new_part e ∙ low_part n low, λ s. omega (arith, e, s, low))
      by_test false test true more =
          let high : P ≤ n = grind (arith, nat_tests, test) in
          let low : n < P + Q = grind (arith, nat_tests, more) in
          let e = old_argument n high low in
          let sum : suc n ≡ suc P + (n - P) = omega (arith, high) in
          let back : P + (n - P) ≡ n = omega (arith, high) in
          (ap new_part (e ∙ sum) ∙ (argument_part (n - P) (omega (arith, high, low)) ∙ back), λ s. omega (arith, e, s, high))
      by_test false test false more =
          let high : P + Q ≤ n = grind (arith, nat_tests, more) in
          let up : P + Q < n = apart (P + Q) 0 high one in
          let far : suc (P + Q) < n = apart (suc (P + Q)) 0 up other in
          let e = old_high n high in
          let back : suc (n - 1) ≡ n = omega (arith, far) in
          (ap new_part e ∙ (high_part (n - 1) (omega (arith, far)) ∙ back), λ s. omega (arith, e, s, far))

  -- and back
  pub first_old : (h : ℕ) → old_end (PartEnd first h) ≡ first_back h
  first_old h = is_so first first (first_back h) (if nat_eq first second then second_back h else PartEnd (old_part first) h) refl

  pub second_old : (h : ℕ) → old_end (PartEnd second h) ≡ second_back h
  second_old h =
      is_not second first (first_back h) (if nat_eq second second then second_back h else PartEnd (old_part second) h) (λ e. omega (arith, e))
      ∙ is_so second second (second_back h) (PartEnd (old_part second) h) refl

  pub other_old : (n h : ℕ) → n ≢ first → n ≢ second → old_end (PartEnd n h) ≡ PartEnd (old_part n) h
  other_old n h one other =
      is_not n first (first_back h) (if nat_eq n second then second_back h else PartEnd (old_part n) h) one ∙ is_not n second (second_back h) (PartEnd (old_part n) h) other

  source_back : (j : ℕ) → j < count t → old_end (new_end (PartEnd P j)) ≡ PartEnd P j
  source_back j low = by_test (nat_lt j (count a)) refl
    where
      by_test : (x : Bool) → nat_lt j (count a) ≡ x → old_end (new_end (PartEnd P j)) ≡ PartEnd P j
      by_test true test =
          let small : j < count a = grind (arith, nat_tests, test) in
          let less : callers a + j - callers a ≡ j = omega arith in
          ap old_end (argument_source j small)
          ∙ (first_old (callers a + j) ∙ (not_so (callers a + j) (count a) (PartEnd P (callers t + (callers a + j))) (PartEnd P (callers a + j - callers a)) (omega arith) ∙ ap (PartEnd P) less))
      by_test false test =
          let high : count a ≤ j = grind (arith, nat_tests, test) in
          let s = size in
          let sum : count a + (j - count a) ≡ j = omega (arith, high) in
          let small : j - count a < count b = omega (arith, s, low, high) in
          ap (λ (n : ℕ). old_end (new_end (PartEnd P n))) (sym sum)
          ∙ (ap old_end (outcome_source (j - count a) small)
          ∙ (second_old (j - count a)
          ∙ (so (j - count a) (count b) (PartEnd P (count a + (j - count a))) (PartEnd P (callers t + (count a + (j - count a - callers b)))) small ∙ ap (PartEnd P) sum)))

  caller_back : (j : ℕ) → j < count t → old_end (new_end (PartEnd P (callers t + j))) ≡ PartEnd P (callers t + j)
  caller_back j low = by_test (nat_lt j (count a)) refl
    where
      by_test : (x : Bool) → nat_lt j (count a) ≡ x → old_end (new_end (PartEnd P (callers t + j))) ≡ PartEnd P (callers t + j)
      by_test true test =
          let small : j < count a = grind (arith, nat_tests, test) in
          ap old_end (argument_caller j small) ∙ (first_old j ∙ so j (count a) (PartEnd P (callers t + j)) (PartEnd P (j - callers a)) small)
      by_test false test =
          let high : count a ≤ j = grind (arith, nat_tests, test) in
          let s = size in
          let sum : count a + (j - count a) ≡ j = omega (arith, high) in
          let small : j - count a < count b = omega (arith, s, low, high) in
          let less : callers b + (j - count a) - callers b ≡ j - count a = omega arith in
          ap (λ (n : ℕ). old_end (new_end (PartEnd P (callers t + n)))) (sym sum)
          ∙ (ap old_end (outcome_caller (j - count a) small)
          ∙ (second_old (callers b + (j - count a))
          ∙ (not_so (callers b + (j - count a)) (count b) (PartEnd P (count a + (callers b + (j - count a)))) (PartEnd P (callers t + (count a + (callers b + (j - count a) - callers b)))) (omega arith)
          ∙ (ap (λ (n : ℕ). PartEnd P (callers t + (count a + n))) less ∙ ap (λ (n : ℕ). PartEnd P (callers t + n)) sum))))

  pub comes_back : (e : End) → IsUsed numbers e → old_end (new_end e) ≡ e
  comes_back (ImportEnd n h) own = refl
  comes_back (ResultEnd h) own = refl
  comes_back (PartEnd n h) (inl own) =
      let (back, one, other) = part_facts n own in
      ap old_end (other_end n h own) ∙ (other_old (new_part n) h one other ∙ ap (λ (m : ℕ). PartEnd m h) back)
  comes_back (PartEnd n h) (inr (same, inl low)) = subst (λ (m : ℕ). old_end (new_end (PartEnd m h)) ≡ PartEnd m h) (sym same) (source_back h low)
  comes_back (PartEnd n h) (inr (same, inr (j, low, e))) =
      subst (λ (m : ℕ). old_end (new_end (PartEnd m h)) ≡ PartEnd m h) (sym same)
      (subst (λ (g : ℕ). old_end (new_end (PartEnd P g)) ≡ PartEnd P g) (sym e) (caller_back j low))
