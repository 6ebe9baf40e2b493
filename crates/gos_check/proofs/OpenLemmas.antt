-- What becomes of names at a binder, and where two parts come together.
use Rattle.std.specs.Prelude.{◌≡◌, ℕ, suc, ◌+◌, ◌≤◌, List, [], ◌∷◌, Option, Some, None, length}
use Rattle.std.proofs.Common.{arith, refl, sym, ap, ◌∙◌}
use Rattle.gos_model.specs.Terms.{Name}
use Rattle.gos_check.specs.declared.opens.Open.{Open}
use Rattle.gos_check.specs.Opens.{number_in, others, next_if, outside, merged_names, merged_next, binder_next}
use Rattle.gos_check.proofs.NameLemmas.{name_cases}

-- a name without a number is none of the names
pub others_none : (x : Name) (os : List Open) → number_in os x ≡ None → others x os ≡ os
others_none x [] h = refl
others_none x (o ∷ os) h =
    name_cases o.name x (λ e t. let q : Some o.number ≡ None = sym (rw t refl) ∙ h in cc)
    (λ other f. let q : number_in os x ≡ None = sym (rw f refl) ∙ h in rw f (ap (λ (ps : List Open). o ∷ ps) (others_none x os q)))

-- what is left is no longer
pub others_length : (x : Name) (os : List Open) → length (others x os) ≤ length os
others_length x [] = omega arith
others_length x (o ∷ os) =
    name_cases o.name x (λ e t. rw t (let h = others_length x os in omega (arith, h))) (λ other f. rw f (let h = others_length x os in omega (arith, h)))

-- and shorter, where the name has a number
others_shorter : (x : Name) (os : List Open) (k : ℕ) → number_in os x ≡ Some k → length (others x os) + 1 ≤ length os
others_shorter x [] k h = cc
others_shorter x (o ∷ os) k h =
    name_cases o.name x (λ e t. rw t (let l = others_length x os in omega (arith, l)))
    (λ other f. let q : number_in os x ≡ Some k = sym (rw f refl) ∙ h in rw f (let l = others_shorter x os k q in omega (arith, l)))

-- a binder takes a number at most
pub binder_room : (x : Name) (os : List Open) (n : ℕ) → binder_next (number_in os x) n + length (others x os) ≤ n + length os + 1
binder_room x os n = looked (number_in os x) refl
  where
    looked : (r : Option ℕ) → number_in os x ≡ r → binder_next r n + length (others x os) ≤ n + length os + 1
    looked None h = let l = others_length x os in omega (arith, l)
    looked (Some k) h = let l = others_length x os in omega (arith, l)

-- where two parts come together, no more is taken than names are saved
pub merged_room : (os ps : List Open) (n : ℕ) → merged_next os ps n + length (merged_names os ps n) ≤ n + length os + length ps
merged_room [] ps n = omega arith
merged_room (o ∷ os) ps n = looked (number_in ps o.name) refl (λ k. merged_room os (others o.name ps) k)
  where
    looked : (r : Option ℕ) → number_in ps o.name ≡ r
        → ((k : ℕ) → merged_next os (others o.name ps) k + length (merged_names os (others o.name ps) k) ≤ k + length os + length (others o.name ps))
        → merged_next os (others o.name ps) (next_if r n) + length (outside r n o ∷ merged_names os (others o.name ps) (next_if r n))
        ≤ n + length (o ∷ os) + length ps
    looked None h rest = let l = rest n in let m = others_length o.name ps in omega (arith, l, m)
    looked (Some k) h rest = let l = rest (suc n) in let m = others_shorter o.name ps k h in omega (arith, l, m)
