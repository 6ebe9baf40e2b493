-- What two parts leave open together: no number is lost or made twice, and each stands inside for what it stands for outside.
use Rattle.std.specs.Prelude.{◌≡◌, ◌≢◌, ◌⊎◌, ℕ, suc, ◌+◌, ◌<◌, ◌≤◌, List, [], ◌∷◌, ◌++◌, Bool, false, Option, Some, None, nat_eq, if◌then◌else◌}
use Rattle.std.specs.Str.{bytes_eq}
use Rattle.std.proofs.Common.{arith, refl, sym, ap, subst, ◌∙◌, inl, inr}
use Rattle.gos_model.specs.Terms.{Name, Term}
use Rattle.gos_model.proofs.NumberLemmas.{number_cases}
use Rattle.gos_check.specs.declared.linear.Split.{Split}
use Rattle.gos_check.specs.declared.opens.Open.{Open}
use Rattle.gos_check.specs.Nodes.{Meaning, inside_one, inside}
use Rattle.gos_check.specs.Linearity.{times, split_in, sides, IsOneOf}
use Rattle.gos_check.specs.Opens.{number_in, others, next_if, outside, split_of, merged_splits, merged_names, merged_next}
use Rattle.gos_check.proofs.NameLemmas.{name_cases, other_false}
use Rattle.gos_check.proofs.OpenLemmas.{others_none}
use Rattle.gos_check.proofs.TimesLemmas.{times_same, times_other, one_other, one_left, one_right, inside_other}

-- the numbers of names
abbrev pub numbers : List Open → List ℕ
numbers [] = []
numbers (o ∷ os) = o.number ∷ numbers os

-- a name is none of these
abbrev pub Lacks : Name → List Open → Type 0
Lacks x [] = Unit {0}
Lacks x (o ∷ os) = (o.name ≢ x) × Lacks x os

-- each name is there once
abbrev pub Differ : List Open → Type 0
Differ [] = Unit {0}
Differ (o ∷ os) = Lacks o.name os × Differ os

-- a meaning gives each name what it stands for
abbrev pub Gives : (Name → Term) → List Open → Meaning → Type 0
Gives stand names env = (x : Name) (k : ℕ) → number_in names x ≡ Some k → env k ≡ stand x

pub lacks_none : (x : Name) (os : List Open) → Lacks x os → number_in os x ≡ None
lacks_none x [] h = refl
lacks_none x (o ∷ os) h = rw (other_false o.name x h.0) (lacks_none x os h.1)

pub lacks_others : (x : Name) (os : List Open) → Lacks x (others x os)
lacks_others x [] = tt
lacks_others x (o ∷ os) =
    name_cases o.name x (λ e t. rw t (lacks_others x os)) (λ other f. rw f (other, lacks_others x os))

pub lacks_fewer : (y x : Name) (os : List Open) → Lacks y os → Lacks y (others x os)
lacks_fewer y x [] h = tt
lacks_fewer y x (o ∷ os) h =
    name_cases o.name x (λ e t. rw t (lacks_fewer y x os h.1)) (λ other f. rw f (h.0, lacks_fewer y x os h.1))

pub differ_others : (x : Name) (os : List Open) → Differ os → Differ (others x os)
differ_others x [] h = tt
differ_others x (o ∷ os) h =
    name_cases o.name x (λ e t. rw t (differ_others x os h.1)) (λ other f. rw f (lacks_fewer o.name x os h.0, differ_others x os h.1))

-- another name keeps its number
pub number_others : (x y : Name) (os : List Open) → (x ≡ y → ⊥) → number_in (others x os) y ≡ number_in os y
number_others x y [] h = refl
number_others x y (o ∷ os) h =
    name_cases o.name x
    (λ e t. let f : bytes_eq o.name y ≡ false = other_false o.name y (λ q. h (sym e ∙ q)) in rw (t, f) (number_others x y os h))
    (λ other f. rw f (ap (λ (r : Option ℕ). if bytes_eq o.name y then Some o.number else r) (number_others x y os h)))

-- a number that is taken, once
abbrev pub taken : ℕ → Option ℕ → ℕ
taken k None = 0
taken k (Some r) = if nat_eq r k then 1 else 0

-- without a name its number is missing, and nothing else
pub others_count : (k : ℕ) (x : Name) (os : List Open) → Differ os
    → times k (numbers (others x os)) + taken k (number_in os x) ≡ times k (numbers os)
others_count k x [] h = refl
others_count k x (o ∷ os) h =
    name_cases o.name x
    (λ e t.
    let none : number_in os x ≡ None = lacks_none x os (subst (λ (y : Name). Lacks y os) e h.0) in
    rw t (rw (others_none x os none) (omega arith)))
    (λ other f. rw f (let l = others_count k x os h.1 in omega (arith, l)))

-- a name's number is one of the numbers
pub number_times : (os : List Open) (x : Name) (k : ℕ) → number_in os x ≡ Some k → 0 < times k (numbers os)
number_times [] x k h = cc
number_times (o ∷ os) x k h =
    name_cases o.name x
    (λ e t.
    let q : Some o.number ≡ Some k = sym (rw t refl) ∙ h in
    let same : o.number ≡ k = cc in
    subst (λ (n : ℕ). 0 < times n (o.number ∷ numbers os)) same (let l = times_same o.number (numbers os) in omega (arith, l)))
    (λ other f.
    let q : number_in os x ≡ Some k = sym (rw f refl) ∙ h in
    let l = number_times os x k q in
    omega (arith, l))

pub merged_lacks : (x : Name) (os ps : List Open) (n : ℕ) → Lacks x os → Lacks x ps → Lacks x (merged_names os ps n)
merged_lacks x [] ps n h k = k
merged_lacks x (o ∷ os) ps n h k =
    looked (number_in ps o.name) (merged_lacks x os (others o.name ps) (next_if (number_in ps o.name) n) h.1 (lacks_fewer x o.name ps k))
  where
    looked : (r : Option ℕ) → Lacks x (merged_names os (others o.name ps) (next_if r n))
        → Lacks x (outside r n o ∷ merged_names os (others o.name ps) (next_if r n))
    looked None rest = (h.0, rest)
    looked (Some b) rest = (h.0, rest)

pub merged_differ : (os ps : List Open) (n : ℕ) → Differ os → Differ ps → Differ (merged_names os ps n)
merged_differ [] ps n h k = k
merged_differ (o ∷ os) ps n h k =
    looked (number_in ps o.name)
    (merged_lacks o.name os (others o.name ps) (next_if (number_in ps o.name) n) h.0 (lacks_others o.name ps))
    (merged_differ os (others o.name ps) (next_if (number_in ps o.name) n) h.1 (differ_others o.name ps k))
  where
    looked : (r : Option ℕ) → Lacks o.name (merged_names os (others o.name ps) (next_if r n)) → Differ (merged_names os (others o.name ps) (next_if r n))
        → Differ (outside r n o ∷ merged_names os (others o.name ps) (next_if r n))
    looked None lacks rest = (lacks, rest)
    looked (Some b) lacks rest = (lacks, rest)

pub merged_upto : (os ps : List Open) (n : ℕ) → n ≤ merged_next os ps n
merged_upto [] ps n = omega arith
merged_upto (o ∷ os) ps n = looked (number_in ps o.name) (merged_upto os (others o.name ps) (next_if (number_in ps o.name) n))
  where
    looked : (r : Option ℕ) → next_if r n ≤ merged_next os (others o.name ps) (next_if r n) → n ≤ merged_next os (others o.name ps) (next_if r n)
    looked None h = h
    looked (Some b) h = omega (arith, h)

-- what is split are new numbers, each once
pub merged_fresh : (k : ℕ) (os ps : List Open) (n : ℕ)
    → (times k (split_in (merged_splits os ps n)) ≡ 0)
    ⊎ ((times k (split_in (merged_splits os ps n)) ≡ 1) × (n ≤ k) × (k < merged_next os ps n))
merged_fresh k [] ps n = inl refl
merged_fresh k (o ∷ os) ps n =
    looked (number_in ps o.name) (merged_fresh k os (others o.name ps) (next_if (number_in ps o.name) n))
    (merged_upto os (others o.name ps) (next_if (number_in ps o.name) n))
  where
    looked : (r : Option ℕ)
        → (times k (split_in (merged_splits os (others o.name ps) (next_if r n))) ≡ 0)
        ⊎ ((times k (split_in (merged_splits os (others o.name ps) (next_if r n))) ≡ 1) × (next_if r n ≤ k) × (k < merged_next os (others o.name ps) (next_if r n)))
        → next_if r n ≤ merged_next os (others o.name ps) (next_if r n)
        → (times k (split_in (split_of r n o ++ merged_splits os (others o.name ps) (next_if r n))) ≡ 0)
        ⊎ ((times k (split_in (split_of r n o ++ merged_splits os (others o.name ps) (next_if r n))) ≡ 1) × (n ≤ k) × (k < merged_next os (others o.name ps) (next_if r n)))
    looked None h up = h
    looked (Some b) (inl h) up =
        number_cases n k (λ e t. inr (rw t (omega (arith, h)), omega (arith, e), omega (arith, e, up))) (λ other f. inl (rw f (omega (arith, h))))
    looked (Some b) (inr h) up =
        let other : n ≢ k = λ e. omega (arith, e, h.1) in inr (times_other k n _ other ∙ h.0, omega (arith, h.1), h.2)

-- what is open inside, and what is split, is open outside or the side of a split
pub merged_count : (k : ℕ) (os ps : List Open) (n : ℕ) → Differ ps
    → times k (numbers os) + times k (numbers ps) + times k (split_in (merged_splits os ps n))
    ≡ times k (numbers (merged_names os ps n)) + times k (sides (merged_splits os ps n))
merged_count k [] ps n h = omega arith
merged_count k (o ∷ os) ps n h =
    looked (number_in ps o.name) (others_count k o.name ps h)
    (merged_count k os (others o.name ps) (next_if (number_in ps o.name) n) (differ_others o.name ps h))
  where
    looked : (r : Option ℕ)
        → times k (numbers (others o.name ps)) + taken k r ≡ times k (numbers ps)
        → times k (numbers os) + times k (numbers (others o.name ps)) + times k (split_in (merged_splits os (others o.name ps) (next_if r n)))
        ≡ times k (numbers (merged_names os (others o.name ps) (next_if r n))) + times k (sides (merged_splits os (others o.name ps) (next_if r n)))
        → times k (numbers (o ∷ os)) + times k (numbers ps) + times k (split_in (split_of r n o ++ merged_splits os (others o.name ps) (next_if r n)))
        ≡ times k (numbers (outside r n o ∷ merged_names os (others o.name ps) (next_if r n)))
        + times k (sides (split_of r n o ++ merged_splits os (others o.name ps) (next_if r n)))
    looked None c rest = omega (arith, c, rest)
    looked (Some b) c rest = omega (arith, c, rest)

-- an older number that isn't open inside is neither open outside nor a side
pub merged_gone : (k : ℕ) (os ps : List Open) (n : ℕ) → Differ ps → times k (numbers os) + times k (numbers ps) ≡ 0 → k < n
    → (times k (numbers (merged_names os ps n)) ≡ 0) × (times k (sides (merged_splits os ps n)) ≡ 0)
merged_gone k os ps n h e old =
    let c = merged_count k os ps n h in
    elim (merged_fresh k os ps n) [
      | inl f ↦ (omega (arith, c, f, e), omega (arith, c, f, e))
      | inr f ↦ absurd (omega (arith, f.1, old))
    ]

-- numbers that are open inside are older, and differ
abbrev pub Fits : List Open → List Open → ℕ → Type 0
Fits os ps n =
    (k : ℕ) → (times k (numbers os) + times k (numbers ps) ≤ 1) × ((times k (numbers os) + times k (numbers ps) ≡ 0) ⊎ (k < n))

-- what outside stands for the names of two parts does so inside
pub merged_gives : (stand : Name → Term) (os ps : List Open) (n : ℕ) (env : Meaning)
    → Differ os → Differ ps → Fits os ps n → Gives stand (merged_names os ps n) env
    → Gives stand os (inside (merged_splits os ps n) env) × Gives stand ps (inside (merged_splits os ps n) env)
merged_gives stand [] ps n env d e fits gives = ((λ x k h. cc), gives)
merged_gives stand (o ∷ os) ps n env d e fits gives =
    looked (number_in ps o.name) refl gives
    (λ k env' f g. merged_gives stand os (others o.name ps) k env' d.1 (differ_others o.name ps e) f g)
  where
    rest_lacks : (k : ℕ) → number_in (merged_names os (others o.name ps) k) o.name ≡ None
    rest_lacks k = lacks_none o.name _ (merged_lacks o.name os (others o.name ps) k d.0 (lacks_others o.name ps))

    fewer : (k : ℕ) → times k (numbers (others o.name ps)) + taken k (number_in ps o.name) ≡ times k (numbers ps)
    fewer k = others_count k o.name ps e

    fits_rest : (m : ℕ) → n ≤ m → Fits os (others o.name ps) m
    fits_rest m more k =
        let c = fewer k in let f = fits k in (
          omega (arith, c, f.0),
          elim f.1 [ inl z ↦ inl (omega (arith, c, z)) | inr l ↦ inr (omega (arith, l, more)) ],
        )

    left_gone : (m : ℕ) → n ≤ m
        → (times o.number (numbers (merged_names os (others o.name ps) m)) ≡ 0) × (times o.number (sides (merged_splits os (others o.name ps) m)) ≡ 0)
    left_gone m more =
        let f = fits o.number in let s = times_same o.number (numbers os) in let c = fewer o.number in
        let old : o.number < n = elim f.1 [ inl z ↦ absurd (omega (arith, z, s)) | inr l ↦ l ] in
        merged_gone o.number os (others o.name ps) m (differ_others o.name ps e) (omega (arith, f.0, s, c)) (omega (arith, old, more))

    right_gone : (b m : ℕ) → number_in ps o.name ≡ Some b → n ≤ m
        → (times b (numbers (merged_names os (others o.name ps) m)) ≡ 0) × (times b (sides (merged_splits os (others o.name ps) m)) ≡ 0) × (b ≢ o.number)
    right_gone b m h more =
        let f = fits b in let l = number_times ps o.name b h in
        let c : times b (numbers (others o.name ps)) + taken b (Some b) ≡ times b (numbers ps) =
        subst (λ (r : Option ℕ). times b (numbers (others o.name ps)) + taken b r ≡ times b (numbers ps)) h (fewer b) in
        let s : taken b (Some b) ≡ 1 = omega (arith, times_same b []) in
        let old : b < n = elim f.1 [ inl z ↦ absurd (omega (arith, z, l)) | inr q ↦ q ] in
        let other : b ≢ o.number = λ q. let t = times_same o.number (numbers os) in
        let u : times b (numbers (o ∷ os)) ≡ 1 + times b (numbers os) = subst (λ (j : ℕ). times j (numbers (o ∷ os)) ≡ 1 + times j (numbers os)) (sym q) t in
        omega (arith, f.0, u, l) in
        let u : times b (numbers (o ∷ os)) ≡ times b (numbers os) = times_other b o.number (numbers os) (λ q. other (sym q)) in
        let g = merged_gone b os (others o.name ps) m (differ_others o.name ps e) (omega (arith, f.0, u, c, s, l)) (omega (arith, old, more)) in
        (g.0, g.1, other)

    looked : (r : Option ℕ) → number_in ps o.name ≡ r
        → Gives stand (outside r n o ∷ merged_names os (others o.name ps) (next_if r n)) env
        → ((k : ℕ) (env' : Meaning) → Fits os (others o.name ps) k → Gives stand (merged_names os (others o.name ps) k) env'
        → Gives stand os (inside (merged_splits os (others o.name ps) k) env') × Gives stand (others o.name ps) (inside (merged_splits os (others o.name ps) k) env'))
        → Gives stand (o ∷ os) (inside (split_of r n o ++ merged_splits os (others o.name ps) (next_if r n)) env)
        × Gives stand ps (inside (split_of r n o ++ merged_splits os (others o.name ps) (next_if r n)) env)
    looked None h g rest =
        let inner : Gives stand (merged_names os (others o.name ps) n) env =
        λ x k q. name_cases o.name x
        (λ same t. let z : None ≡ Some k = sym (subst (λ (y : Name). number_in (merged_names os (others o.name ps) n) y ≡ None) same (rest_lacks n)) ∙ q in cc)
        (λ other f. g x k (rw f q)) in
        let both = rest n env (fits_rest n (omega arith)) inner in (
          (λ x k q. name_cases o.name x
              (λ same t.
              let z : Some o.number ≡ Some k = sym (rw t refl) ∙ q in
              let number : o.number ≡ k = cc in
              subst (λ (j : ℕ). inside (merged_splits os (others o.name ps) n) env j ≡ stand x) number
              (inside_other (merged_splits os (others o.name ps) n) env o.number (left_gone n (omega arith)).1 ∙ g x o.number (rw t refl)))
              (λ other f. both.0 x k (sym (rw f refl) ∙ q))),
          (λ x k q. name_cases o.name x
              (λ same t. let z : None ≡ Some k = sym (subst (λ (y : Name). number_in ps y ≡ None) same h) ∙ q in cc)
              (λ other f. both.1 x k (number_others o.name x ps other ∙ q))),
        )
    looked (Some b) h g rest =
        let s : Split = record { of = n; left = o.number; right = b } in
        let inner : Gives stand (merged_names os (others o.name ps) (suc n)) (inside_one s env) =
        λ x k q. name_cases o.name x
        (λ same t. let z : None ≡ Some k = sym (subst (λ (y : Name). number_in (merged_names os (others o.name ps) (suc n)) y ≡ None) same (rest_lacks (suc n))) ∙ q in cc)
        (λ other f.
        let there = number_times (merged_names os (others o.name ps) (suc n)) x k q in
        one_other s env k
        (λ z. let l = left_gone (suc n) (omega arith) in let w : 0 < times o.number (numbers (merged_names os (others o.name ps) (suc n))) = subst (λ (j : ℕ). 0 < times j (numbers (merged_names os (others o.name ps) (suc n)))) z there in omega (arith, w, l.0))
        (λ z. let l = right_gone b (suc n) h (omega arith) in let w : 0 < times b (numbers (merged_names os (others o.name ps) (suc n))) = subst (λ (j : ℕ). 0 < times j (numbers (merged_names os (others o.name ps) (suc n)))) z there in omega (arith, w, l.0))
        ∙ g x k (rw f q)) in
        let both = rest (suc n) (inside_one s env) (fits_rest (suc n) (omega arith)) inner in (
          (λ x k q. name_cases o.name x
              (λ same t.
              let z : Some o.number ≡ Some k = sym (rw t refl) ∙ q in
              let number : o.number ≡ k = cc in
              subst (λ (j : ℕ). inside (merged_splits os (others o.name ps) (suc n)) (inside_one s env) j ≡ stand x) number
              (inside_other (merged_splits os (others o.name ps) (suc n)) (inside_one s env) o.number (left_gone (suc n) (omega arith)).1
              ∙ (one_left s env ∙ g x n (rw t refl))))
              (λ other f. both.0 x k (sym (rw f refl) ∙ q))),
          (λ x k q. name_cases o.name x
              (λ same t.
              let z : Some b ≡ Some k = sym (subst (λ (y : Name). number_in ps y ≡ Some b) same h) ∙ q in
              let number : b ≡ k = cc in
              subst (λ (j : ℕ). inside (merged_splits os (others o.name ps) (suc n)) (inside_one s env) j ≡ stand x) number
              (inside_other (merged_splits os (others o.name ps) (suc n)) (inside_one s env) b (right_gone b (suc n) h (omega arith)).1
              ∙ (one_right s env ∙ g x n (rw t refl))))
              (λ other f. both.1 x k (number_others o.name x ps other ∙ q))),
        )

-- the sides of a split are open in the left and in the right part, and what is split is new
pub split_where : (s : Split) (os ps : List Open) (n : ℕ) → IsOneOf s (merged_splits os ps n)
    → (0 < times s.left (numbers os)) × (0 < times s.right (numbers ps)) × (n ≤ s.of) × (s.of < merged_next os ps n)
split_where s [] ps n h = absurd h
split_where s (o ∷ os) ps n h =
    looked (number_in ps o.name) refl h (λ k q. split_where s os (others o.name ps) k q)
    (merged_upto os (others o.name ps) (next_if (number_in ps o.name) n))
  where
    fewer_right : (k : ℕ) → 0 < times k (numbers (others o.name ps)) → 0 < times k (numbers ps)
    fewer_right k q = fewer_times k o.name ps q
      where
        fewer_times : (k : ℕ) (x : Name) (ps : List Open) → 0 < times k (numbers (others x ps)) → 0 < times k (numbers ps)
        fewer_times k x [] q = q
        fewer_times k x (p ∷ ps) q =
            name_cases p.name x
            (λ e t. let r : 0 < times k (numbers (others x ps)) = subst (λ (b : Bool). 0 < times k (numbers (if b then others x ps else p ∷ others x ps))) t q in
            let l = fewer_times k x ps r in omega (arith, l))
            (λ other f. let r : 0 < times k (numbers (p ∷ others x ps)) = subst (λ (b : Bool). 0 < times k (numbers (if b then others x ps else p ∷ others x ps))) f q in
            number_cases p.number k (λ e t. rw t (omega arith))
            (λ differs g. let m : 0 < 0 + times k (numbers (others x ps)) = subst (λ (b : Bool). 0 < (if b then 1 else 0) + times k (numbers (others x ps))) g r in
            let l = fewer_times k x ps (omega (arith, m)) in omega (arith, l)))

    looked : (r : Option ℕ) → number_in ps o.name ≡ r → IsOneOf s (split_of r n o ++ merged_splits os (others o.name ps) (next_if r n))
        → ((k : ℕ) → IsOneOf s (merged_splits os (others o.name ps) k)
        → (0 < times s.left (numbers os)) × (0 < times s.right (numbers (others o.name ps))) × (k ≤ s.of) × (s.of < merged_next os (others o.name ps) k))
        → next_if r n ≤ merged_next os (others o.name ps) (next_if r n)
        → (0 < times s.left (numbers (o ∷ os))) × (0 < times s.right (numbers ps)) × (n ≤ s.of) × (s.of < merged_next os (others o.name ps) (next_if r n))
    looked None e q rest up =
        let l = rest n q in (omega (arith, l.0), fewer_right s.right l.1, l.2, l.3)
    looked (Some b) e (inl q) rest up =
        let t = times_same o.number (numbers os) in (
          subst (λ (u : Split). 0 < times u.left (numbers (o ∷ os))) (sym q) (omega (arith, t)),
          subst (λ (u : Split). 0 < times u.right (numbers ps)) (sym q) (number_times ps o.name b e),
          subst (λ (u : Split). n ≤ u.of) (sym q) (omega arith),
          subst (λ (u : Split). u.of < merged_next os (others o.name ps) (suc n)) (sym q) (omega (arith, up)),
        )
    looked (Some b) e (inr q) rest up =
        let l = rest (suc n) q in (omega (arith, l.0), fewer_right s.right l.1, omega (arith, l.2), l.3)
