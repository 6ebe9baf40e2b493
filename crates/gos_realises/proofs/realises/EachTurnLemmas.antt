-- Turns, import by import: in what order they stand is nothing to them.
--
-- Open handshakes keep turns where those of each import do, where the outcome's do, and where an import has an open one only
-- where the outcome has (`keeps_each`, `each_keeps`).
use Rattle.std.specs.Prelude.{◌≡◌, ℕ, zero, suc, ◌+◌, ◌-◌, ◌<◌, Bool, true, false, ◌&&◌, ◌||◌, IsTrue, IsFalse, List, [], ◌∷◌, Some, slice_get, nat_lt, if◌then◌else◌}
use Rattle.std.proofs.Common.{refl, sym, ◌∙◌, ap, subst, arith}
use Rattle.std.proofs.lemmas.Bool.Decides.{nat_tests}
use Rattle.gos_types.specs.Types.{Type', Com, Exp, Var, Pair, Fun}
use Rattle.gos_model.specs.Typing.{Imported}
use Rattle.gos_plan.specs.Plans.{End, ImportEnd, ResultEnd}
use Rattle.gos_realises.specs.realises.Regular.{count, some_open, beyond, KeepsTurnsOf, whole_type, whole_end}
use Rattle.gos_realises.proofs.realises.GroundTurnLemmas.{some_there, there_some}
use Rattle.gos_realises.proofs.realises.CountLemmas.{count_pair, count_fun}

-- turns of a type depend on its handshakes alone
abbrev pub Agree : ℕ → (ℕ → Bool) → (ℕ → Bool) → Type 0
Agree n f g = (h : ℕ) → h < n → f h ≡ g h

pub some_agree : (n : ℕ) (f g : ℕ → Bool) → Agree n f g → some_open n f ≡ some_open n g
some_agree zero f g agree = refl
some_agree (suc n) f g agree =
    let last = agree n (omega arith) in
    let rest = some_agree n f g (λ h low. agree h (omega (arith, low))) in
    λ i. last i || rest i

agree_back : (n : ℕ) (f g : ℕ → Bool) → Agree n f g → Agree n g f
agree_back n f g agree h low = sym (agree h low)

first_agree : (m n k : ℕ) (f g : ℕ → Bool) → k ≡ m + n → Agree k f g → Agree m f g
first_agree m n k f g sum agree h low = agree h (omega (arith, low, sum))

beyond_agree : (m n k : ℕ) (f g : ℕ → Bool) → k ≡ m + n → Agree k f g → Agree n (beyond m f) (beyond m g)
beyond_agree m n k f g sum agree h low = agree (m + h) (omega (arith, low, sum))

pub turns_agree : (t : Type') (f g : ℕ → Bool) → Agree (count t) f g → KeepsTurnsOf t f → KeepsTurnsOf t g
turns_agree Com f g agree keeps = tt
turns_agree (Exp w) f g agree keeps = tt
turns_agree (Var w) f g agree keeps =
    let one = agree 0 (omega arith) in
    let other = agree 1 (omega arith) in
    subst (λ (b : Bool). IsFalse (b && g 1)) one (subst (λ (b : Bool). IsFalse (f 0 && b)) other keeps)
turns_agree (Pair a b) f g agree (first, second, shut) =
    let of_a = first_agree (count a) (count b) (count (Pair a b)) f g (count_pair a b) agree in
    let of_b = beyond_agree (count a) (count b) (count (Pair a b)) f g (count_pair a b) agree in (
      turns_agree a f g of_a first,
      turns_agree b (beyond (count a) f) (beyond (count a) g) of_b second,
      subst (λ (x : Bool). IsFalse (x && some_open (count b) (beyond (count a) g))) (some_agree (count a) f g of_a)
          (subst (λ (x : Bool). IsFalse (some_open (count a) f && x)) (some_agree (count b) (beyond (count a) f) (beyond (count a) g) of_b) shut),
    )
turns_agree (Fun a b) f g agree (first, second, leads) =
    let of_a = first_agree (count a) (count b) (count (Fun a b)) f g (count_fun a b) agree in
    let of_b = beyond_agree (count a) (count b) (count (Fun a b)) f g (count_fun a b) agree in (
      turns_agree a f g of_a first,
      turns_agree b (beyond (count a) f) (beyond (count a) g) of_b second,
      λ busy.
          subst (λ (x : Bool). IsTrue x) (some_agree (count b) (beyond (count a) f) (beyond (count a) g) of_b)
          (leads (subst (λ (x : Bool). IsTrue x) (sym (some_agree (count a) f g of_a)) busy)),
    )

-- the handshakes of import i, and of the result, among all ends
abbrev pub of_import : (End → Bool) → ℕ → ℕ → Bool
of_import F i h = F (ImportEnd i h)

abbrev pub of_result : (End → Bool) → ℕ → Bool
of_result F h = F (ResultEnd h)

abbrev pub ImportKeeps : (End → Bool) → ℕ → Imported → Type' → Type 0
ImportKeeps F i x t =
    KeepsTurnsOf x.ty (of_import F i) × (IsTrue (some_open (count x.ty) (of_import F i)) → IsTrue (some_open (count t) (of_result F)))

abbrev pub EachKeeps : ℕ → List Imported → Type' → (End → Bool) → Type 0
EachKeeps n is t F = ((i : ℕ) (x : Imported) → slice_get is i ≡ Some x → ImportKeeps F (n + i) x t) × KeepsTurnsOf t (of_result F)

-- f is F along the ends of all imports and of the result, from import n on
abbrev Follows : ℕ → List Imported → (ℕ → Bool) → (End → Bool) → Type 0
Follows n is f F = (h : ℕ) → f h ≡ F (whole_end n is h)

first_follows : (n : ℕ) (x : Imported) (is : List Imported) (f : ℕ → Bool) (F : End → Bool) → Follows n (x ∷ is) f F → Agree (count x.ty) f (of_import F n)
first_follows n x is f F follows h low =
    let test : nat_lt h (count x.ty) ≡ true = grind (arith, nat_tests, low) in
    follows h ∙ ap (λ (b : Bool). F (if b then ImportEnd n h else whole_end (suc n) is (h - count x.ty))) test

rest_follows : (n : ℕ) (x : Imported) (is : List Imported) (f : ℕ → Bool) (F : End → Bool) → Follows n (x ∷ is) f F → Follows (suc n) is (beyond (count x.ty) f) F
rest_follows n x is f F follows h =
    let test : nat_lt (count x.ty + h) (count x.ty) ≡ false = grind (arith, nat_tests) in
    let less : count x.ty + h - count x.ty ≡ h = omega arith in
    follows (count x.ty + h)
    ∙ (ap (λ (b : Bool). F (if b then ImportEnd n (count x.ty + h) else whole_end (suc n) is (count x.ty + h - count x.ty))) test
    ∙ ap (λ (k : ℕ). F (whole_end (suc n) is k)) less)

-- where something is open the result is, and back
result_up : (n : ℕ) (is : List Imported) (t : Type') (f : ℕ → Bool) (F : End → Bool) → Follows n is f F → IsTrue (some_open (count t) (of_result F))
    → IsTrue (some_open (count (whole_type is t)) f)
result_up n [] t f F follows busy = subst (λ (b : Bool). IsTrue b) (some_agree (count t) (of_result F) f (λ h low. sym (follows h))) busy
result_up n (x ∷ is) t f F follows busy =
    let rest = result_up (suc n) is t (beyond (count x.ty) f) F (rest_follows n x is f F follows) busy in
    let (k, low, up) = some_there (count (whole_type is t)) (beyond (count x.ty) f) rest in
    let sum = count_fun x.ty (whole_type is t) in
    there_some (count (whole_type (x ∷ is) t)) f (count x.ty + k) (omega (arith, low, sum)) up

result_led : (n : ℕ) (is : List Imported) (t : Type') (f : ℕ → Bool) (F : End → Bool) → Follows n is f F → KeepsTurnsOf (whole_type is t) f
    → IsTrue (some_open (count (whole_type is t)) f) → IsTrue (some_open (count t) (of_result F))
result_led n [] t f F follows keeps busy = subst (λ (b : Bool). IsTrue b) (some_agree (count t) f (of_result F) (λ h low. follows h)) busy
result_led n (x ∷ is) t f F follows (own, rest, leads) busy =
    let (k, low, up) = some_there (count (whole_type (x ∷ is) t)) f busy in
    result_led (suc n) is t (beyond (count x.ty) f) F (rest_follows n x is f F follows) rest (by_test k low up (nat_lt k (count x.ty)) refl)
  where
    by_test : (k : ℕ) → k < count (whole_type (x ∷ is) t) → f k ≡ true → (b : Bool) → nat_lt k (count x.ty) ≡ b
        → IsTrue (some_open (count (whole_type is t)) (beyond (count x.ty) f))
    by_test k low up true test = leads (there_some (count x.ty) f k (grind (arith, nat_tests, test)) up)
    by_test k low up false test =
        let sum = count_fun x.ty (whole_type is t) in
        let past : count x.ty + (k - count x.ty) ≡ k = grind (arith, nat_tests, test) in
        let small : k - count x.ty < count (whole_type is t) = omega (arith, low, sum, past) in
        there_some (count (whole_type is t)) (beyond (count x.ty) f) (k - count x.ty) small (ap f past ∙ up)

pub keeps_each : (n : ℕ) (is : List Imported) (t : Type') (f : ℕ → Bool) (F : End → Bool) → Follows n is f F → KeepsTurnsOf (whole_type is t) f
    → EachKeeps n is t F
keeps_each n [] t f F follows keeps = (λ i x at. absurd (cc at), turns_agree t f (of_result F) (λ h low. follows h) keeps)
keeps_each n (x ∷ is) t f F follows (own, rest, leads) =
    let after = rest_follows n x is f F follows in
    let more = keeps_each (suc n) is t (beyond (count x.ty) f) F after rest in
    let agree = first_follows n x is f F follows in
    let here : ImportKeeps F n x t = (
      turns_agree x.ty f (of_import F n) agree own,
      λ busy. result_led (suc n) is t (beyond (count x.ty) f) F after rest
          (leads (subst (λ (b : Bool). IsTrue b) (sym (some_agree (count x.ty) f (of_import F n) agree)) busy)),
    )
    in
    (each_of n x is t F here more.0, more.1)
  where
    each_of : (n : ℕ) (x : Imported) (is : List Imported) (t : Type') (F : End → Bool) → ImportKeeps F n x t
        → ((i : ℕ) (y : Imported) → slice_get is i ≡ Some y → ImportKeeps F (suc n + i) y t)
        → (i : ℕ) (y : Imported) → slice_get (x ∷ is) i ≡ Some y → ImportKeeps F (n + i) y t
    each_of n x is t F here more zero y at =
        let zeros : n ≡ n + 0 = omega arith in
        let same : x ≡ y = cc at in
        subst (λ (m : ℕ). ImportKeeps F m y t) zeros (subst (λ (z : Imported). ImportKeeps F n z t) same here)
    each_of n x is t F here more (suc i) y at =
        let sum : suc n + i ≡ n + suc i = omega arith in subst (λ (m : ℕ). ImportKeeps F m y t) sum (more i y at)

pub each_keeps : (n : ℕ) (is : List Imported) (t : Type') (f : ℕ → Bool) (F : End → Bool) → Follows n is f F → EachKeeps n is t F
    → KeepsTurnsOf (whole_type is t) f
each_keeps n [] t f F follows (each, result) = turns_agree t (of_result F) f (λ h low. sym (follows h)) result
each_keeps n (x ∷ is) t f F follows (each, result) =
    let after = rest_follows n x is f F follows in
    let agree = first_follows n x is f F follows in
    let zeros : n + 0 ≡ n = omega arith in
    let here : ImportKeeps F n x t = subst (λ (m : ℕ). ImportKeeps F m x t) zeros (each 0 x refl) in
    let rest : (i : ℕ) (y : Imported) → slice_get is i ≡ Some y → ImportKeeps F (suc n + i) y t =
    λ i y at. (let sum : n + suc i ≡ suc n + i = omega arith in subst (λ (m : ℕ). ImportKeeps F m y t) sum (each (suc i) y at))
    in (
      turns_agree x.ty (of_import F n) f (agree_back (count x.ty) f (of_import F n) agree) here.0,
      each_keeps (suc n) is t (beyond (count x.ty) f) F after (rest, result),
      λ busy. result_up (suc n) is t (beyond (count x.ty) f) F after
          (here.1 (subst (λ (b : Bool). IsTrue b) (some_agree (count x.ty) f (of_import F n) agree) busy)),
    )
