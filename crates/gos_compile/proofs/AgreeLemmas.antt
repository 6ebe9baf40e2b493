-- The types of numbers are those of what the numbers stand for: both sides of a split have the type of what is split, and a
-- use has the type of its number.
--
-- Read first: BoundLemmas. Each number is made once, and what is bound is made before.
use Rattle.std.specs.Prelude.{◌≡◌, ◌≢◌, ℕ, ◌+◌, ◌≤◌, ◌<◌, ◌⊎◌, ◌||◌, Bool, true, false, List, [], ◌∷◌, ◌++◌, nat_eq, if◌then◌else◌}
use Rattle.std.proofs.Common.{refl, ap, sym, ◌∙◌, subst, arith, inl, inr, true≢false}
use Rattle.std.proofs.lemmas.Bool.{eq-eqb, ne_eqb}
use Rattle.gos_types.specs.Types.{Type'}
use Rattle.gos_model.specs.Terms as terms
use Rattle.gos_model.specs.Terms.{Term}
use Rattle.gos_model.specs.Typing.{Imports}
use Rattle.gos_model.specs.Weight.{node_type}
use Rattle.gos_model.proofs.NumberLemmas.{number_cases}
use Rattle.gos_check.proofs.TimesLemmas.{times_none, times-append}
use Rattle.gos_check.specs.declared.linear.Split.{Split}
use Rattle.gos_check.specs.Linearity.{times, sides, made}
use Rattle.gos_check.specs.Nodes.{Numbered, Closed, Use, Under, One, Two, If, Meaning, below, shifted, inside, inside_one, HasTypes, bound_type}
use Rattle.gos_compile.specs.Wiring.{Types, with_type, with_sides, with_types}
use Rattle.gos_compile.proofs.KnownLemmas.{is_bound, UsesBound, sides_counted, side_bound, inside_bound, shifted_bound}
use Rattle.gos_compile.proofs.BoundLemmas.{SplitsBound, AllBound}

-- both sides of splits have the type of what is split
abbrev pub SplitsAgree : List Split → Types → Type 0
SplitsAgree [] types = Unit {0}
SplitsAgree (s ∷ ss) types = (types s.left ≡ types s.of) × (types s.right ≡ types s.of) × SplitsAgree ss types

-- and so have those of a term; and each binder's number has the type that is bound
abbrev pub Agree : Types → Numbered → Type 0
Agree types (Closed t ss c) = SplitsAgree ss types
Agree types (Use t ss n) = SplitsAgree ss types
Agree types (Under t ss b n m) = SplitsAgree ss types × (types n ≡ bound_type b t) × Agree types m
Agree types (One t ss f m) = SplitsAgree ss types × Agree types m
Agree types (Two t ss f m n) = SplitsAgree ss types × Agree types m × Agree types n
Agree types (If t ss m n p) = SplitsAgree ss types × Agree types m × Agree types n × Agree types p

-- what isn't made keeps its type
type_there : (n : ℕ) (t : Type') (types : Types) → with_type n t types n ≡ t
type_there n t types = rw (eq-eqb n n refl) refl

type_elsewhere : (n : ℕ) (t : Type') (types : Types) (k : ℕ) → k ≢ n → with_type n t types k ≡ types k
type_elsewhere n t types k h = rw (ne_eqb k n h) refl

sides_keep : (k : ℕ) (ss : List Split) (types : Types) → times k (sides ss) ≡ 0 → with_sides ss types k ≡ types k
sides_keep k [] types none = refl
sides_keep k (s ∷ ss) types none =
    let (left, rest) = times_none k s.left (s.right ∷ sides ss) none in
    let (right, others) = times_none k s.right (sides ss) rest in
    sides_keep k ss (with_type s.left (types s.of) (with_type s.right (types s.of) types)) others
    ∙ (type_elsewhere s.left (types s.of) (with_type s.right (types s.of) types) k left ∙ type_elsewhere s.right (types s.of) types k right)

pub types_keep : (k : ℕ) (m : Numbered) (types : Types) → times k (made m) ≡ 0 → with_types m types k ≡ types k
types_keep k (Closed t ss c) types none = sides_keep k ss types none
types_keep k (Use t ss n) types none = sides_keep k ss types none
types_keep k (Under t ss b n m) types none =
    let parted = times-append k (sides ss) (n ∷ made m) in
    let own : times k (n ∷ made m) ≡ 0 = omega (arith, none, parted) in
    let (other, rest) = times_none k n (made m) own in
    types_keep k m (with_type n (bound_type b t) (with_sides ss types)) rest
    ∙ (type_elsewhere n (bound_type b t) (with_sides ss types) k other ∙ sides_keep k ss types (omega (arith, none, parted)))
types_keep k (One t ss f m) types none =
    let parted = times-append k (sides ss) (made m) in
    types_keep k m (with_sides ss types) (omega (arith, none, parted)) ∙ sides_keep k ss types (omega (arith, none, parted))
types_keep k (Two t ss f m n) types none =
    let parted = times-append k (sides ss) (made m ++ made n) in
    let parted_two = times-append k (made m) (made n) in
    types_keep k n (with_types m (with_sides ss types)) (omega (arith, none, parted, parted_two))
    ∙ (types_keep k m (with_sides ss types) (omega (arith, none, parted, parted_two)) ∙ sides_keep k ss types (omega (arith, none, parted)))
types_keep k (If t ss m n p) types none =
    let parted = times-append k (sides ss) (made m ++ (made n ++ made p)) in
    let parted_three = times-append k (made m) (made n ++ made p) in
    let parted_two = times-append k (made n) (made p) in
    types_keep k p (with_types n (with_types m (with_sides ss types))) (omega (arith, none, parted, parted_three, parted_two))
    ∙ (types_keep k n (with_types m (with_sides ss types)) (omega (arith, none, parted, parted_three, parted_two))
    ∙ (types_keep k m (with_sides ss types) (omega (arith, none, parted, parted_three)) ∙ sides_keep k ss types (omega (arith, none, parted))))

-- what is bound behind splits is bound before, or is one of their sides
bound_behind : (k : ℕ) (env : Meaning) (ss : List Split) → is_bound (inside ss env k) ≡ true → (is_bound (env k) ≡ true) ⊎ (0 < times k (sides ss))
bound_behind k env ss h =
    let parted = sides_counted k env ss in
    elim (inside_bound k env ss h) [ inl g ↦ inl g | inr more ↦ inr (omega (arith, more, parted)) ]

-- Numbers are made once, here or later; and what is bound is made neither here nor later.
abbrev Once : List ℕ → List ℕ → Type 0
Once here later = (k : ℕ) → times k here + times k later ≤ 1

abbrev Before : Meaning → List ℕ → List ℕ → Type 0
Before env here later = (k : ℕ) → is_bound (env k) ≡ true → times k here + times k later ≡ 0

-- the types that come of these, but for those of numbers that are made later
abbrev Comes : List ℕ → Types → Types → Type 0
Comes later types last = (k : ℕ) → times k later ≡ 0 → last k ≡ types k

before_one : (s : Split) (ss : List Split) (env : Meaning) (later : List ℕ) → Once (sides (s ∷ ss)) later → Before env (sides (s ∷ ss)) later
    → Before (inside_one s env) (sides ss) later
before_one s ss env later once before k h =
    let all = once k in
    elim (side_bound k env s h) [ inl g ↦ (let none = before k g in omega (arith, none)) | inr one ↦ (let some = one.0 in omega (arith, all, some)) ]

splits_agree : (env : Meaning) (ss : List Split) (types last : Types) (later : List ℕ) → Once (sides ss) later → Before env (sides ss) later
    → SplitsBound env ss → Comes later (with_sides ss types) last → SplitsAgree ss last
splits_agree env [] types last later once before bound comes = tt
splits_agree env (s ∷ ss) types last later once before (one, bound) comes =
    let rest : SplitsAgree ss last =
    splits_agree (inside_one s env) ss types' last later once_rest (before_one s ss env later once before) bound comes
    in
    (at_left ∙ sym at_of, at_right ∙ sym at_of, rest)
  where
    types' : Types
    types' = with_type s.left (types s.of) (with_type s.right (types s.of) types)

    once_rest : Once (sides ss) later
    once_rest k = let all = once k in omega (arith, all)

    at_of : last s.of ≡ types s.of
    at_of =
        let none = before s.of one in
        comes s.of (omega (arith, none)) ∙ sides_keep s.of (s ∷ ss) types (omega (arith, none))

    left_once : 1 + (times s.left (s.right ∷ sides ss) + times s.left later) ≤ 1
    left_once =
        let all = once s.left in
        let there : times s.left (sides (s ∷ ss)) ≡ 1 + times s.left (s.right ∷ sides ss) = rw (eq-eqb s.left s.left refl) refl in
        omega (arith, all, there)

    right_once : 1 + (times s.right (sides ss) + times s.right later) + (if nat_eq s.left s.right then 1 else 0) ≤ 1
    right_once =
        let all = once s.right in
        let there : times s.right (s.right ∷ sides ss) ≡ 1 + times s.right (sides ss) = rw (eq-eqb s.right s.right refl) refl in
        omega (arith, all, there)

    at_left : last s.left ≡ types s.of
    at_left =
        comes s.left (omega (arith, left_once))
        ∙ (sides_keep s.left ss types' (omega (arith, left_once)) ∙ type_there s.left (types s.of) (with_type s.right (types s.of) types))

    differ : s.right ≢ s.left
    differ e =
        let same : 0 + (if nat_eq s.left s.right then 1 else 0) ≡ 1 = rw (eq-eqb s.left s.right (sym e)) refl in
        omega (arith, right_once, same)

    at_right : last s.right ≡ types s.of
    at_right =
        comes s.right (omega (arith, right_once))
        ∙ (sides_keep s.right ss types' (omega (arith, right_once))
        ∙ (type_elsewhere s.left (types s.of) (with_type s.right (types s.of) types) s.right differ ∙ type_there s.right (types s.of) types))

before_inside : (ss : List Split) (env : Meaning) (here later all : List ℕ) → Once all later → Before env all later
    → ((k : ℕ) → times k all ≡ times k (sides ss) + times k here) → Before (inside ss env) here later
before_inside ss env here later all once before parted k h =
    let whole = parted k in
    let few = once k in
    elim (bound_behind k env ss h) [ inl g ↦ (let none = before k g in omega (arith, none, whole)) | inr some ↦ omega (arith, few, some, whole) ]

before_below : (n : ℕ) (env : Meaning) (here later : List ℕ) → Once (n ∷ here) later → Before env (n ∷ here) later → Before (below n env) here later
before_below n env here later once before k h =
    let all = once k in
    number_cases k n
    (λ e t. let there : times k (n ∷ here) ≡ 1 + times k here = rw (eq-eqb n k (sym e)) refl in omega (arith, all, there))
    (λ e t. let none = before k (shifted_bound (env k) (subst (λ (b : Bool). is_bound (if b then terms.Bound 0 else shifted (env k)) ≡ true) t h)) in
    omega (arith, none))

-- the types of a term's numbers, where they come of a walk over it and over what is behind it
agree : (m : Numbered) (env : Meaning) (types last : Types) (later : List ℕ) → Once (made m) later → Before env (made m) later → AllBound env m
    → Comes later (with_types m types) last → Agree last m
agree (Closed t ss c) env types last later once before bound comes = splits_agree env ss types last later once before bound comes
agree (Use t ss n) env types last later once before bound comes = splits_agree env ss types last later once before bound comes
agree (Under t ss b n m) env types last later once before (bound, rest) comes = (
  splits_agree env ss types last behind
      (λ k. let all = once k in let one = parted k in let other = late k in omega (arith, all, one, other))
      (λ k h. let none = before k h in let one = parted k in let other = late k in omega (arith, none, one, other)) bound
      (λ k none. let other = late k in
      let own : times k (n ∷ made m) ≡ 0 = omega (arith, none, other) in
      let (apart, gone) = times_none k n (made m) own in
      comes k (omega (arith, none, other)) ∙ (types_keep k m types' gone ∙ type_elsewhere n (bound_type b t) (with_sides ss types) k apart)),
  comes n (omega (arith, n_once)) ∙ (types_keep n m types' (omega (arith, n_once)) ∙ type_there n (bound_type b t) (with_sides ss types)),
  agree m (below n (inside ss env)) types' last later
      (λ k. let all = once k in let one = parted k in omega (arith, all, one))
      (before_below n (inside ss env) (made m) later (λ k. let all = once k in let one = parted k in omega (arith, all, one))
      (before_inside ss env (n ∷ made m) later (made (Under t ss b n m)) once before parted)) rest comes,
)
  where
    types' : Types
    types' = with_type n (bound_type b t) (with_sides ss types)

    behind : List ℕ
    behind = (n ∷ made m) ++ later

    parted : (k : ℕ) → times k (made (Under t ss b n m)) ≡ times k (sides ss) + times k (n ∷ made m)
    parted k = times-append k (sides ss) (n ∷ made m)

    late : (k : ℕ) → times k behind ≡ times k (n ∷ made m) + times k later
    late k = times-append k (n ∷ made m) later

    n_once : 1 + (times n (made m) + times n later) ≤ 1
    n_once =
        let all = once n in
        let one = parted n in
        let there : times n (n ∷ made m) ≡ 1 + times n (made m) = rw (eq-eqb n n refl) refl in
        omega (arith, all, one, there)
agree (One t ss f m) env types last later once before (bound, rest) comes = (
  splits_agree env ss types last behind
      (λ k. let all = once k in let one = parted k in let other = late k in omega (arith, all, one, other))
      (λ k h. let none = before k h in let one = parted k in let other = late k in omega (arith, none, one, other)) bound
      (λ k none. let other = late k in
      comes k (omega (arith, none, other)) ∙ types_keep k m (with_sides ss types) (omega (arith, none, other))),
  agree m (inside ss env) (with_sides ss types) last later (λ k. let all = once k in let one = parted k in omega (arith, all, one))
      (before_inside ss env (made m) later (made (One t ss f m)) once before parted) rest comes,
)
  where
    behind : List ℕ
    behind = made m ++ later

    parted : (k : ℕ) → times k (made (One t ss f m)) ≡ times k (sides ss) + times k (made m)
    parted k = times-append k (sides ss) (made m)

    late : (k : ℕ) → times k behind ≡ times k (made m) + times k later
    late k = times-append k (made m) later
agree (Two t ss f m n) env types last later once before (bound, rest, restn) comes = (
  splits_agree env ss types last behind
      (λ k. let all = once k in let one = parted k in let two = parted_two k in let other = late k in omega (arith, all, one, two, other))
      (λ k h. let none = before k h in let one = parted k in let two = parted_two k in let other = late k in omega (arith, none, one, two, other)) bound
      (λ k none. let other = late k in
      let two = parted_two k in
      comes k (omega (arith, none, two, other))
      ∙ (types_keep k n (with_types m (with_sides ss types)) (omega (arith, none, two, other))
      ∙ types_keep k m (with_sides ss types) (omega (arith, none, two, other)))),
  agree m (inside ss env) (with_sides ss types) last late_first
      (λ k. let all = once k in let one = parted k in let two = parted_two k in let other = later_first k in omega (arith, all, one, two, other))
      (λ k h. let none = inner k h in let two = parted_two k in let other = later_first k in omega (arith, none, two, other)) rest
      (λ k none. let other = later_first k in
      comes k (omega (arith, none, other)) ∙ types_keep k n (with_types m (with_sides ss types)) (omega (arith, none, other))),
  agree n (inside ss env) (with_types m (with_sides ss types)) last later
      (λ k. let all = once k in let one = parted k in let two = parted_two k in omega (arith, all, one, two))
      (λ k h. let none = inner k h in let two = parted_two k in omega (arith, none, two)) restn comes,
)
  where
    behind : List ℕ
    behind = (made m ++ made n) ++ later

    late_first : List ℕ
    late_first = made n ++ later

    parted : (k : ℕ) → times k (made (Two t ss f m n)) ≡ times k (sides ss) + times k (made m ++ made n)
    parted k = times-append k (sides ss) (made m ++ made n)

    parted_two : (k : ℕ) → times k (made m ++ made n) ≡ times k (made m) + times k (made n)
    parted_two k = times-append k (made m) (made n)

    late : (k : ℕ) → times k behind ≡ times k (made m ++ made n) + times k later
    late k = times-append k (made m ++ made n) later

    later_first : (k : ℕ) → times k late_first ≡ times k (made n) + times k later
    later_first k = times-append k (made n) later

    inner : Before (inside ss env) (made m ++ made n) later
    inner = before_inside ss env (made m ++ made n) later (made (Two t ss f m n)) once before parted
agree (If t ss m n p) env types last later once before (bound, rest, restn, restp) comes = (
  splits_agree env ss types last behind
      (λ k. let all = once k in let one = parted k in let other = late k in omega (arith, all, one, other))
      (λ k h. let none = before k h in let one = parted k in let other = late k in omega (arith, none, one, other)) bound
      (λ k none. let other = late k in
      let three = parted_three k in
      let two = parted_two k in
      comes k (omega (arith, none, other))
      ∙ (types_keep k p (with_types n (with_types m (with_sides ss types))) (omega (arith, none, three, two, other))
      ∙ (types_keep k n (with_types m (with_sides ss types)) (omega (arith, none, three, two, other))
      ∙ types_keep k m (with_sides ss types) (omega (arith, none, three, other))))),
  agree m (inside ss env) (with_sides ss types) last late_first
      (λ k. let all = once k in let one = parted k in let three = parted_three k in let other = later_first k in omega (arith, all, one, three, other))
      (λ k h. let none = inner k h in let three = parted_three k in let other = later_first k in omega (arith, none, three, other)) rest
      (λ k none. let other = later_first k in
      let two = parted_two k in
      comes k (omega (arith, none, other))
      ∙ (types_keep k p (with_types n (with_types m (with_sides ss types))) (omega (arith, none, two, other))
      ∙ types_keep k n (with_types m (with_sides ss types)) (omega (arith, none, two, other)))),
  agree n (inside ss env) (with_types m (with_sides ss types)) last late_second
      (λ k. let all = once k in
      let one = parted k in
      let three = parted_three k in
      let two = parted_two k in
      let other = later_second k in
      omega (arith, all, one, three, two, other))
      (λ k h. let none = inner k h in
      let three = parted_three k in
      let two = parted_two k in
      let other = later_second k in
      omega (arith, none, three, two, other))
      restn
      (λ k none. let other = later_second k in
      comes k (omega (arith, none, other)) ∙ types_keep k p (with_types n (with_types m (with_sides ss types))) (omega (arith, none, other))),
  agree p (inside ss env) (with_types n (with_types m (with_sides ss types))) last later
      (λ k. let all = once k in let one = parted k in let three = parted_three k in let two = parted_two k in omega (arith, all, one, three, two))
      (λ k h. let none = inner k h in let three = parted_three k in let two = parted_two k in omega (arith, none, three, two)) restp comes,
)
  where
    behind : List ℕ
    behind = (made m ++ (made n ++ made p)) ++ later

    late_first : List ℕ
    late_first = (made n ++ made p) ++ later

    late_second : List ℕ
    late_second = made p ++ later

    parted : (k : ℕ) → times k (made (If t ss m n p)) ≡ times k (sides ss) + times k (made m ++ (made n ++ made p))
    parted k = times-append k (sides ss) (made m ++ (made n ++ made p))

    parted_three : (k : ℕ) → times k (made m ++ (made n ++ made p)) ≡ times k (made m) + times k (made n ++ made p)
    parted_three k = times-append k (made m) (made n ++ made p)

    parted_two : (k : ℕ) → times k (made n ++ made p) ≡ times k (made n) + times k (made p)
    parted_two k = times-append k (made n) (made p)

    late : (k : ℕ) → times k behind ≡ times k (made m ++ (made n ++ made p)) + times k later
    late k = times-append k (made m ++ (made n ++ made p)) later

    later_first : (k : ℕ) → times k late_first ≡ times k (made n ++ made p) + times k later
    later_first k = times-append k (made n ++ made p) later

    later_second : (k : ℕ) → times k late_second ≡ times k (made p) + times k later
    later_second k = times-append k (made p) later

    inner : Before (inside ss env) (made m ++ (made n ++ made p)) later
    inner = before_inside ss env (made m ++ (made n ++ made p)) later (made (If t ss m n p)) once before parted

-- of a whole term, where nothing that is bound is made in it
pub all_agree : (m : Numbered) (env : Meaning) (types : Types) → ((k : ℕ) → times k (made m) ≤ 1)
    → ((k : ℕ) → is_bound (env k) ≡ true → times k (made m) ≡ 0) → AllBound env m → Agree (with_types m types) m
all_agree m env types once before bound =
    agree m env types (with_types m types) [] (λ k. let all = once k in omega (arith, all)) (λ k h. let none = before k h in omega (arith, none)) bound
    (λ k none. refl)

-- each number that is bound has the type of what it stands for
abbrev pub AreTyped : Imports → List Type' → Meaning → Types → Type 0
AreTyped i g env types = (k : ℕ) → is_bound (env k) ≡ true → types k ≡ node_type i g (env k)

-- and each use the type of its number
abbrev pub UsesTyped : Types → Numbered → Type 0
UsesTyped types (Closed t ss c) = Unit {0}
UsesTyped types (Use t ss n) = types n ≡ t
UsesTyped types (Under t ss b n m) = UsesTyped types m
UsesTyped types (One t ss f m) = UsesTyped types m
UsesTyped types (Two t ss f m n) = UsesTyped types m × UsesTyped types n
UsesTyped types (If t ss m n p) = UsesTyped types m × UsesTyped types n × UsesTyped types p

typed_one : (i : Imports) (g : List Type') (env : Meaning) (types : Types) (s : Split) → AreTyped i g env types → types s.left ≡ types s.of
    → types s.right ≡ types s.of → is_bound (env s.of) ≡ true → AreTyped i g (inside_one s env) types
typed_one i g env types s typed left right of k =
    number_cases k s.left
    (λ e t h. at (sym t) (ap (λ (n : ℕ). types n) e ∙ left))
    (λ e t. number_cases k s.right (λ f u h. at_second t u (ap (λ (n : ℕ). types n) f ∙ right))
    (λ f u h. subst (λ (b : Bool). types k ≡ node_type i g (if b || nat_eq k s.right then env s.of else env k)) (sym t)
    (subst (λ (b : Bool). types k ≡ node_type i g (if b then env s.of else env k)) (sym u)
    (typed k
    (subst (λ (b : Bool). is_bound (if b then env s.of else env k) ≡ true) u
    (subst (λ (b : Bool). is_bound (if b || nat_eq k s.right then env s.of else env k) ≡ true) t h))))))
  where
    at : true ≡ nat_eq k s.left → types k ≡ types s.of → types k ≡ node_type i g (inside_one s env k)
    at t e =
        subst (λ (b : Bool). types k ≡ node_type i g (if b || nat_eq k s.right then env s.of else env k)) t (e ∙ typed s.of of)

    at_second : nat_eq k s.left ≡ false → nat_eq k s.right ≡ true → types k ≡ types s.of → types k ≡ node_type i g (inside_one s env k)
    at_second t u e =
        subst (λ (b : Bool). types k ≡ node_type i g (if b || nat_eq k s.right then env s.of else env k)) (sym t)
        (subst (λ (b : Bool). types k ≡ node_type i g (if b then env s.of else env k)) (sym u) (e ∙ typed s.of of))

typed_inside : (i : Imports) (g : List Type') (ss : List Split) (env : Meaning) (types : Types) → AreTyped i g env types → SplitsAgree ss types
    → SplitsBound env ss → AreTyped i g (inside ss env) types
typed_inside i g [] env types typed agrees bound = typed
typed_inside i g (s ∷ ss) env types typed (left, right, agrees) (one, bound) =
    typed_inside i g ss (inside_one s env) types (typed_one i g env types s typed left right one) agrees bound

shifted_typed : (i : Imports) (g : List Type') (b : Type') (m : Term) → is_bound (shifted m) ≡ true
    → node_type i g m ≡ node_type i (b ∷ g) (shifted m)
shifted_typed i g b (terms.Bound n) h = refl
shifted_typed i g b (terms.Import x) h = refl
shifted_typed i g b m h = absurd (true≢false (sym h))

typed_below : (i : Imports) (g : List Type') (b : Type') (n : ℕ) (env : Meaning) (types : Types) → AreTyped i g env types → types n ≡ b
    → AreTyped i (b ∷ g) (below n env) types
typed_below i g b n env types typed there k =
    number_cases k n
    (λ e t h. subst (λ (c : Bool). types k ≡ node_type i (b ∷ g) (if c then terms.Bound 0 else shifted (env k))) (sym t)
    (ap (λ (j : ℕ). types j) e ∙ there))
    (λ e t h. let known : is_bound (shifted (env k)) ≡ true = subst (λ (c : Bool). is_bound (if c then terms.Bound 0 else shifted (env k)) ≡ true) t h in
    subst (λ (c : Bool). types k ≡ node_type i (b ∷ g) (if c then terms.Bound 0 else shifted (env k))) (sym t)
    (typed k (shifted_bound (env k) known) ∙ shifted_typed i g b (env k) known))

pub uses_typed : (i : Imports) (g : List Type') (env : Meaning) (m : Numbered) (types : Types) → AreTyped i g env types → Agree types m
    → AllBound env m → UsesBound env m → HasTypes i g env m → UsesTyped types m
uses_typed i g env (Closed t ss c) types typed agrees bound uses has = tt
uses_typed i g env (Use t ss n) types typed agrees bound uses has = typed n uses ∙ sym has
uses_typed i g env (Under t ss b n m) types typed (agrees, there, rest) (bound, more) uses (e, has) =
    uses_typed i (bound_type b t ∷ g) (below n (inside ss env)) m types
    (typed_below i g (bound_type b t) n (inside ss env) types (typed_inside i g ss env types typed agrees bound) there) rest more uses has
uses_typed i g env (One t ss f m) types typed (agrees, rest) (bound, more) uses (e, has) =
    uses_typed i g (inside ss env) m types (typed_inside i g ss env types typed agrees bound) rest more uses has
uses_typed i g env (Two t ss f m n) types typed (agrees, rest, restn) (bound, more, moren) (uses, usesn) (e, has, hasn) =
    let known : AreTyped i g (inside ss env) types = typed_inside i g ss env types typed agrees bound in (
      uses_typed i g (inside ss env) m types known rest more uses has,
      uses_typed i g (inside ss env) n types known restn moren usesn hasn,
    )
uses_typed i g env (If t ss m n p) types typed (agrees, rest, restn, restp) (bound, more, moren, morep) (uses, usesn, usesp) (e, has, hasn, hasp) =
    let known : AreTyped i g (inside ss env) types = typed_inside i g ss env types typed agrees bound in (
      uses_typed i g (inside ss env) m types known rest more uses has,
      uses_typed i g (inside ss env) n types known restn moren usesn hasn,
      uses_typed i g (inside ss env) p types known restp morep usesp hasp,
    )
