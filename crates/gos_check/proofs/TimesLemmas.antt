-- How often numbers are in lists, and what splits leave as it is.
use Rattle.std.specs.Prelude.{◌≡◌, ◌≢◌, ℕ, zero, suc, ◌+◌, ◌<◌, List, [], ◌∷◌, ◌++◌, Contains}
use Rattle.std.proofs.Common.{arith, refl, sym, ap, subst, ◌∙◌}
use Rattle.std.proofs.lemmas.Bool.{eq-eqb, ne_eqb}
use Rattle.gos_model.proofs.NumberLemmas.{number_cases}
use Rattle.gos_check.specs.declared.linear.Split.{Split}
use Rattle.gos_check.specs.Nodes.{Meaning, inside_one, inside}
use Rattle.gos_check.specs.Linearity.{times, split_in, sides}

-- a number is once in front of what comes after it
pub times_same : (n : ℕ) (ns : List ℕ) → times n (n ∷ ns) ≡ 1 + times n ns
times_same n ns = rw (eq-eqb n n refl) refl

pub times_other : (k n : ℕ) (ns : List ℕ) → n ≢ k → times k (n ∷ ns) ≡ times k ns
times_other k n ns h = rw (ne_eqb n k h) (omega arith)

-- what isn't in a list is not its first member
pub times_none : (k n : ℕ) (ns : List ℕ) → times k (n ∷ ns) ≡ 0 → (k ≢ n) × (times k ns ≡ 0)
times_none k n ns h =
    number_cases n k (λ e t. let q : 1 + times k ns ≡ 0 = sym (rw t refl) ∙ h in absurd (omega (arith, q)))
    (λ other f. let q : 0 + times k ns ≡ 0 = sym (rw f refl) ∙ h in ((λ e. other (sym e)), omega (arith, q)))

-- a number is in a list where it is there some times
pub some_times : (n : ℕ) (ns : List ℕ) → Contains ns n → 0 < times n ns
some_times n [] (k, lt, e) = absurd (omega (arith, lt))
some_times n (m ∷ ms) (zero, lt, e) =
    let same = subst (λ (r : ℕ). times r (m ∷ ms) ≡ 1 + times r ms) e (times_same m ms) in omega (arith, same)
some_times n (m ∷ ms) (suc k, lt, e) = let rest = some_times n ms (k, omega (arith, lt), e) in omega (arith, rest)

pub listed_times : (n : ℕ) (ns : List ℕ) → 0 < times n ns → Contains ns n
listed_times n [] some = absurd (omega (arith, some))
listed_times n (m ∷ ms) some =
    number_cases m n
    (λ e t. (0, omega arith, e))
    (λ e t. let rest = times_other n m ms e in let (k, lt, is) = listed_times n ms (omega (arith, some, rest)) in (suc k, omega (arith, lt), is))

pub times-append : (k : ℕ) (xs ys : List ℕ) → times k (xs ++ ys) ≡ times k xs + times k ys
times-append k [] ys = omega arith
times-append k (x ∷ xs) ys = let h = times-append k xs ys in omega (arith, h)

pub split_in-append : (ss ts : List Split) → split_in (ss ++ ts) ≡ split_in ss ++ split_in ts
split_in-append [] ts = refl
split_in-append (s ∷ ss) ts = ap (λ (ns : List ℕ). s.of ∷ ns) (split_in-append ss ts)

pub sides-append : (ss ts : List Split) → sides (ss ++ ts) ≡ sides ss ++ sides ts
sides-append [] ts = refl
sides-append (s ∷ ss) ts = ap (λ (ns : List ℕ). s.left ∷ s.right ∷ ns) (sides-append ss ts)

pub inside-append : (ss ts : List Split) (env : Meaning) → inside (ss ++ ts) env ≡ inside ts (inside ss env)
inside-append [] ts env = refl
inside-append (s ∷ ss) ts env = inside-append ss ts (inside_one s env)

-- a split changes its sides alone
pub one_other : (s : Split) (env : Meaning) (k : ℕ) → k ≢ s.left → k ≢ s.right → inside_one s env k ≡ env k
one_other s env k l r = rw (ne_eqb k s.left l, ne_eqb k s.right r) refl

pub one_left : (s : Split) (env : Meaning) → inside_one s env s.left ≡ env s.of
one_left s env = rw (eq-eqb s.left s.left refl) refl

pub one_right : (s : Split) (env : Meaning) → inside_one s env s.right ≡ env s.of
one_right s env =
    number_cases s.right s.left (λ e t. rw t refl) (λ other f. rw (f, eq-eqb s.right s.right refl) refl)

-- splits change their sides alone
pub inside_other : (ss : List Split) (env : Meaning) (k : ℕ) → times k (sides ss) ≡ 0 → inside ss env k ≡ env k
inside_other [] env k h = refl
inside_other (s ∷ ss) env k h =
    let l = times_none k s.left (s.right ∷ sides ss) h in
    let r = times_none k s.right (sides ss) l.1 in
    inside_other ss (inside_one s env) k r.1 ∙ one_other s env k l.0 r.0
