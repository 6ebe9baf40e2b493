-- Turns of ground imports and of a command or an expression.
--
-- An import has an open handshake only where the result has. So turns are kept where handshakes of imports are closed, and
-- where the result is opened (`turns_kept`).
use Rattle.std.specs.Prelude.{◌≡◌, ℕ, zero, suc, ◌+◌, ◌-◌, ◌<◌, Bool, true, false, ◌&&◌, ◌||◌, IsFalse, List, [], ◌∷◌, nat_eq, nat_lt}
use Rattle.std.proofs.Common.{refl, sym, ◌∙◌, ap, arith}
use Rattle.std.proofs.lemmas.Bool.Decides.{nat_tests}
use Rattle.std.proofs.lemmas.Bool.{or_right}
use Rattle.gos_types.specs.Types.{Type', Com, Exp, Var, Pair, Fun, IsGround, IsDone}
use Rattle.gos_model.specs.Typing.{Imported}
use Rattle.gos_plan.specs.Plans.{ResultEnd}
use Rattle.gos_realises.specs.realises.Regular.{count, some_open, beyond, KeepsTurnsOf, whole_type, whole_end}
pub use Rattle.gos_realises.proofs.realises.CountLemmas.{count_fun}
use Rattle.gos_realises.proofs.realises.CountLemmas.{some_shake}

-- one of the first n is open
pub some_there : (n : ℕ) (f : ℕ → Bool) → some_open n f ≡ true → (k : ℕ) × (k < n) × (f k ≡ true)
some_there zero f h = absurd (cc h)
some_there (suc n) f h = by_test (f n) refl h (some_there n f)
  where
    by_test : (b : Bool) → f n ≡ b → b || some_open n f ≡ true → (some_open n f ≡ true → (k : ℕ) × (k < n) × (f k ≡ true))
        → (k : ℕ) × (k < suc n) × (f k ≡ true)
    by_test true t g further = (n, omega arith, t)
    by_test false t g further = let (k, low, is) = further g in (k, omega (arith, low), is)

pub there_some : (n : ℕ) (f : ℕ → Bool) (k : ℕ) → k < n → f k ≡ true → some_open n f ≡ true
there_some zero f k low is = absurd (omega (arith, low))
there_some (suc n) f k low is = by_test (nat_eq k n) refl (λ other. there_some n f k other is)
  where
    by_test : (b : Bool) → nat_eq k n ≡ b → (k < n → some_open n f ≡ true) → some_open (suc n) f ≡ true
    by_test true t further =
        let same : k ≡ n = grind (arith, t) in
        let here : f n ≡ true = ap f (sym same) ∙ is in rw here refl
    by_test false t further =
        let other : k < n = grind (arith, nat_tests, t, low) in or_right (f n) (some_open n f) (further other)

-- how many handshakes imports have together: the number of the result's
abbrev pub width : List Imported → ℕ
width [] = 0
width (i ∷ is) = count i.ty + width is

pub width_small : (is : List Imported) (t : Type') → IsDone t → width is < count (whole_type is t)
width_small [] t d = some_shake t
width_small (i ∷ is) t d =
    let rest = width_small is t d in
    let sum = count_fun i.ty (whole_type is t) in omega (arith, rest, sum)

pub first_open : (f : ℕ → Bool) → some_open 1 f ≡ true → f 0 ≡ true
first_open f h = by_test (f 0) refl h
  where
    by_test : (b : Bool) → f 0 ≡ b → b || false ≡ true → f 0 ≡ true
    by_test true t g = t
    by_test false t g = absurd (cc g)

pub done_open : (t : Type') → IsDone t → (f : ℕ → Bool) → some_open (count t) f ≡ true → f 0 ≡ true
done_open Com d f h = first_open f h
done_open (Exp w) d f h = first_open f h
done_open (Var w) d f h = absurd d
done_open (Pair a b) d f h = absurd d
done_open (Fun a b) d f h = absurd d

-- where something is open the result is
pub result_open : (is : List Imported) (t : Type') → IsDone t → (f : ℕ → Bool) → KeepsTurnsOf (whole_type is t) f
    → some_open (count (whole_type is t)) f ≡ true → f (width is) ≡ true
result_open [] t d f keeps h = done_open t d f h
result_open (i ∷ is) t d f (own, rest, leads) h =
    let (k, low, up) = some_there (count (whole_type (i ∷ is) t)) f h in
    result_open is t d (beyond (count i.ty) f) rest (by_test k low up (nat_lt k (count i.ty)) refl)
  where
    by_test : (k : ℕ) → k < count (whole_type (i ∷ is) t) → f k ≡ true → (b : Bool) → nat_lt k (count i.ty) ≡ b
        → some_open (count (whole_type is t)) (beyond (count i.ty) f) ≡ true
    by_test k low up true t' = leads (there_some (count i.ty) f k (grind (arith, nat_tests, t')) up)
    by_test k low up false t' =
        let sum = count_fun i.ty (whole_type is t) in
        let past : count i.ty + (k - count i.ty) ≡ k = grind (arith, nat_tests, t') in
        let small : k - count i.ty < count (whole_type is t) = omega (arith, low, sum, past) in
        there_some (count (whole_type is t)) (beyond (count i.ty) f) (k - count i.ty) small (ap f past ∙ up)

both_true : (a b c d : Bool) → (c ≡ true → a ≡ true) → (d ≡ true → b ≡ true) → IsFalse (a && b) → IsFalse (c && d)
both_true a b true true h k shut = let up = h refl in let also = k refl in absurd (grind (arith, up, also, shut))
both_true a b true false h k shut = refl
both_true a b false d h k shut = refl

pub ground_kept : (a : Type') → IsGround a → (f g : ℕ → Bool) → ((h : ℕ) → h < count a → g h ≡ true → f h ≡ true) → KeepsTurnsOf a f → KeepsTurnsOf a g
ground_kept Com ground f g less keeps = tt
ground_kept (Exp w) ground f g less keeps = tt
ground_kept (Var w) ground f g less keeps = both_true (f 0) (f 1) (g 0) (g 1) (less 0 (omega arith)) (less 1 (omega arith)) keeps
ground_kept (Pair a b) ground f g less keeps = absurd ground
ground_kept (Fun a b) ground f g less keeps = absurd ground

pub done_kept : (t : Type') → IsDone t → (g : ℕ → Bool) → KeepsTurnsOf t g
done_kept Com d g = tt
done_kept (Exp w) d g = tt
done_kept (Var w) d g = absurd d
done_kept (Pair a b) d g = absurd d
done_kept (Fun a b) d g = absurd d

-- where the ends of the whole type stand
pub result_end : (k : ℕ) (is : List Imported) → whole_end k is (width is) ≡ ResultEnd 0
result_end k [] = refl
result_end k (i ∷ is) =
    let past : nat_lt (count i.ty + width is) (count i.ty) ≡ false = grind (arith, nat_tests) in
    let less : count i.ty + width is - count i.ty ≡ width is = omega arith in
    rw (past, less) (result_end (suc k) is)
