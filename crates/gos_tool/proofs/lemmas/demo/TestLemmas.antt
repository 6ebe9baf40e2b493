-- What tests that are true tell.
use Rattle.std.proofs.Common.{◌≡◌, ◌<◌, ◌∙◌, ℕ, Bool, true, false, true≢false, ◌&&◌, nat_eq, nat_lt, Option, Some, None, refl, sym, arith}
use Rattle.std.proofs.lemmas.Bool.Decides.{nat_tests}

pub front_true : (a b : Bool) → (a && b) ≡ true → a ≡ true
front_true true b e = refl
front_true false b e = e

pub back_true : (a b : Bool) → (a && b) ≡ true → b ≡ true
back_true true b e = e
back_true false b e = absurd (true≢false (sym e))

pub equal_by : (a b : ℕ) → nat_eq a b ≡ true → a ≡ b
equal_by a b e = grind (arith, nat_tests)

pub less_by : (a b : ℕ) → nat_lt a b ≡ true → a < b
less_by a b e = grind (arith, nat_tests)

-- what is there is not missing
pub some_none : {X : Type 0} (o : Option X) (x : X) → o ≡ Some x → o ≡ None → ⊥
some_none o x e f = let h : Some x ≡ None = sym e ∙ f in absurd (cc h)
