-- No point is in more than two ties of linked plans, and no end in more than one.
--
-- In its plan an end is in one joint at most; so a point is in no more ties than there are places at it.
use Rattle.std.specs.Prelude.{◌≡◌, ℕ, suc, ◌+◌, ◌≤◌, ◌<◌, ◌⊎◌, Bool, true, false, not, ◌&&◌, ◌||◌, IsTrue, List, [], ◌∷◌, ◌++◌, length, Option, Some, None, slice_get, nat_eq, if◌then◌else◌}
use Rattle.std.proofs.Common.{refl, sym, ◌∙◌, ap, subst, arith, inl, inr}
use Rattle.std.proofs.lemmas.Bool.{eq-eqb, ne_eqb}
use Rattle.gos_types.specs.declared.shakes.Role.{Role}
use Rattle.gos_types.specs.declared.shakes.Role.TheVariants.{Ask}
use Rattle.gos_types.proofs.RoleLemmas.{ask_is_not_serve}
use Rattle.gos_model.proofs.NumberLemmas.{number_cases}
use Rattle.gos_plan.specs.Kinds.{Contact, asks, serves}
use Rattle.gos_plan.specs.Plans.{End, Joint, Plan, contact_at, same_end, is_free, Fits, AreRight, IsRight}
use Rattle.gos_plan.specs.Joining.{Place, place}
use Rattle.gos_plan.proofs.JointLemmas.{same_itself, same_is}
use Rattle.gos_ties.specs.declared.points.Place as spot
use Rattle.gos_ties.specs.declared.points.Place.TheVariants as spots
use Rattle.gos_ties.specs.declared.points.Point.{Point}
use Rattle.gos_ties.specs.declared.points.Tie.{Tie}
use Rattle.gos_ties.specs.Ties.{end_of_place}
use Rattle.gos_ties.specs.Counted.{place_once, once, meetings, IsThin}
use Rattle.gos_link.specs.declared.services.Service.{Service}
use Rattle.gos_link.specs.inner.Wired.{rank, parts_before, stays_before, point_of, ties_in, ties_from, AllRight, AreJoinable}
use Rattle.gos_link.proofs.ServiceLemmas.{In}
use Rattle.gos_link.proofs.PointLemmas.{contact_in, IsThere, back, back_at, of_service, back_tells}

-- 1 where ends are one
abbrev pub one_if : Bool → ℕ
one_if b = if b then 1 else 0

abbrev pub one_end : End → End → ℕ
one_end e f = one_if (same_end e f)

-- how often an end is in joints
abbrev pub stands : End → List Joint → ℕ
stands e [] = 0
stands e (j ∷ js) = one_end e j.asking + one_end e j.serving + stands e js

abbrev pub role_or : Option Contact → Role
role_or None = Ask
role_or (Some c) = c.role

-- an end is in one joint at most, and in none behind one
abbrev pub Seldom : End → List Joint → List Joint → Type 0
Seldom e before js = (stands e js ≤ 1) × ((is_free e before ≡ false) → stands e js ≡ 0)

less : (a b f : Bool) → (a ≡ true) ⊎ (b ≡ true) → (not (a || b) && f) ≡ false
less true b f h = refl
less false true f h = refl
less false false f (inl e) = absurd (cc e)
less false false f (inr e) = absurd (cc e)

as_before : (a b f : Bool) → f ≡ false → (not (a || b) && f) ≡ false
as_before true b f h = refl
as_before false true f h = refl
as_before false false f h = h

count_true : (a : Bool) → a ≡ true → one_if a ≡ 1
count_true true e = refl
count_true false e = absurd (cc e)

count_false : (a : Bool) → a ≡ false → one_if a ≡ 0
count_false false e = refl
count_false true e = absurd (cc e)

pub seldom : (p : Plan) (before js : List Joint) (e : End) → AreRight p before js → Seldom e before js
seldom p before [] e r = (omega arith, λ f. refl)
seldom p before (j ∷ js) e ((fits, asking, serving), rest) = by (seldom p (j ∷ before) js e rest) (same_end e j.asking) (same_end e j.serving) refl refl
  where
    differ : j.asking ≡ j.serving → ⊥
    differ same =
        let (q, v, asked, served) = fits in
        let both : Some (asks q v) ≡ Some (serves q v) = sym asked ∙ (ap (contact_at p) same ∙ served) in
        ask_is_not_serve (ap role_or both)

    free_no : IsTrue (is_free e before) → is_free e before ≡ false → ⊥
    free_no t f = let wrong : true ≡ false = sym t ∙ f in absurd (cc wrong)

    by : Seldom e (j ∷ before) js → (a b : Bool) → same_end e j.asking ≡ a → same_end e j.serving ≡ b → Seldom e before (j ∷ js)
    by later true true a b = absurd (differ (sym (same_is e j.asking a) ∙ same_is e j.serving b))
    by later true false a b =
        let none = later.1 (less (same_end e j.asking) (same_end e j.serving) (is_free e before) (inl a)) in
        let one = count_true (same_end e j.asking) a in
        let other = count_false (same_end e j.serving) b in
        let free : IsTrue (is_free e before) = subst (λ (x : End). IsTrue (is_free x before)) (sym (same_is e j.asking a)) asking in
        (omega (arith, none, one, other), λ f. absurd (free_no free f))
    by later false true a b =
        let none = later.1 (less (same_end e j.asking) (same_end e j.serving) (is_free e before) (inr b)) in
        let one = count_false (same_end e j.asking) a in
        let other = count_true (same_end e j.serving) b in
        let free : IsTrue (is_free e before) = subst (λ (x : End). IsTrue (is_free x before)) (sym (same_is e j.serving b)) serving in
        (omega (arith, none, one, other), λ f. absurd (free_no free f))
    by later false false a b =
        let few = later.0 in
        let one = count_false (same_end e j.asking) a in
        let other = count_false (same_end e j.serving) b in (
          omega (arith, few, one, other),
          λ f. let none = later.1 (as_before (same_end e j.asking) (same_end e j.serving) (is_free e before) f) in omega (arith, none, one, other),
        )

-- how often places of plan n are in joints, and how often an end of it is one of them
abbrev if_plan : ℕ → ℕ → ℕ → ℕ
if_plan m n c = if nat_eq m n then c else 0

abbrev sums : List Place → ℕ → List Joint → ℕ
sums [] n js = 0
sums (x ∷ xs) n js = if_plan x.plan n (stands x.end js) + sums xs n js

abbrev hits : List Place → ℕ → End → ℕ
hits [] n e = 0
hits (x ∷ xs) n e = if_plan x.plan n (one_end x.end e) + hits xs n e

sums_none : (xs : List Place) (n : ℕ) → sums xs n [] ≡ 0
sums_none [] n = refl
sums_none (x ∷ xs) n =
    let rest = sums_none xs n in
    let one : if_plan x.plan n 0 ≡ 0 = number_cases x.plan n (λ e b. rw b refl) (λ e b. rw b refl) in omega (arith, rest, one)

sums_more : (xs : List Place) (n : ℕ) (j : Joint) (js : List Joint) → sums xs n (j ∷ js) ≡ hits xs n j.asking + hits xs n j.serving + sums xs n js
sums_more [] n j js = refl
sums_more (x ∷ xs) n j js =
    let rest = sums_more xs n j js in
    number_cases x.plan n (λ e b. rw b (omega (arith, rest))) (λ e b. rw b (omega (arith, rest)))

hit : (xs : List Place) (n : ℕ) (e : End) → In xs (place n e) → 1 ≤ hits xs n e
hit [] n e h = absurd h
hit (x ∷ xs) n e (inl is) =
    let plan : nat_eq x.plan n ≡ true = eq-eqb x.plan n (ap (λ (y : Place). y.plan) is) in
    let same : same_end x.end e ≡ true = ap (λ (y : Place). same_end y.end e) is ∙ same_itself e in
    rw (plan, same) (omega arith)
hit (x ∷ xs) n e (inr h) = let rest = hit xs n e h in omega (arith, rest)

-- a point is once in itself
same_place : (p q : spot.Place) → place_once p q ≡ 0 ⊎ (p ≡ q)
same_place (spots.Part k) (spots.Part l) = number_cases l k (λ e b. inr (ap spots.Part (sym e))) (λ e b. inl (rw b refl))
same_place (spots.Import k) (spots.Import l) = number_cases l k (λ e b. inr (ap spots.Import (sym e))) (λ e b. inl (rw b refl))
same_place spots.Result spots.Result = inr refl
same_place (spots.Number k) (spots.Number l) = number_cases l k (λ e b. inr (ap spots.Number (sym e))) (λ e b. inl (rw b refl))
same_place (spots.Node k) (spots.Node l) = number_cases l k (λ e b. inr (ap spots.Node (sym e))) (λ e b. inl (rw b refl))
same_place (spots.Part k) (spots.Import l) = inl refl
same_place (spots.Part k) spots.Result = inl refl
same_place (spots.Part k) (spots.Number l) = inl refl
same_place (spots.Part k) (spots.Node l) = inl refl
same_place (spots.Import k) (spots.Part l) = inl refl
same_place (spots.Import k) spots.Result = inl refl
same_place (spots.Import k) (spots.Number l) = inl refl
same_place (spots.Import k) (spots.Node l) = inl refl
same_place spots.Result (spots.Part l) = inl refl
same_place spots.Result (spots.Import l) = inl refl
same_place spots.Result (spots.Number l) = inl refl
same_place spots.Result (spots.Node l) = inl refl
same_place (spots.Number k) (spots.Part l) = inl refl
same_place (spots.Number k) (spots.Import l) = inl refl
same_place (spots.Number k) spots.Result = inl refl
same_place (spots.Number k) (spots.Node l) = inl refl
same_place (spots.Node k) (spots.Part l) = inl refl
same_place (spots.Node k) (spots.Import l) = inl refl
same_place (spots.Node k) spots.Result = inl refl
same_place (spots.Node k) (spots.Number l) = inl refl

once_itself : (p : spot.Place) → place_once p p ≤ 1
once_itself (spots.Part k) = number_cases k k (λ e b. rw b (omega arith)) (λ e b. rw b (omega arith))
once_itself (spots.Import k) = number_cases k k (λ e b. rw b (omega arith)) (λ e b. rw b (omega arith))
once_itself spots.Result = omega arith
once_itself (spots.Number k) = number_cases k k (λ e b. rw b (omega arith)) (λ e b. rw b (omega arith))
once_itself (spots.Node k) = number_cases k k (λ e b. rw b (omega arith)) (λ e b. rw b (omega arith))

pub once_cases : (q p : Point) → (once q p ≡ 0) ⊎ ((q ≡ p) × (once q p ≤ 1))
once_cases q p =
    number_cases p.shake q.shake
    (λ e b. elim (same_place q.place p.place) [
      | inl none ↦ inl (rw b none)
      | inr same ↦
          (let few : place_once q.place p.place ≤ 1 = subst (λ (r : spot.Place). place_once q.place r ≤ 1) same (once_itself q.place) in
          inr ((λ t. record { place = same t; shake = sym e t }), rw b few))
    ])
    (λ e b. inl (rw b refl))

meetings-append : (q : Point) (ts us : List Tie) → meetings q (ts ++ us) ≡ meetings q ts + meetings q us
meetings-append q [] us = omega arith
meetings-append q (t ∷ ts) us = let h = meetings-append q ts us in omega (arith, h)

-- how often places are in the joints of plans from number n on
abbrev total : List Place → ℕ → List Plan → ℕ
total xs n [] = 0
total xs n (p ∷ ps) = sums xs n p.joints + total xs (n + 1) ps

abbrev single : Place → ℕ → List Plan → ℕ
single x n [] = 0
single x n (p ∷ ps) = if_plan x.plan n (stands x.end p.joints) + single x (n + 1) ps

total_none : (n : ℕ) (ps : List Plan) → total [] n ps ≡ 0
total_none n [] = refl
total_none n (p ∷ ps) = let rest = total_none (n + 1) ps in omega (arith, rest)

total_more : (x : Place) (xs : List Place) (n : ℕ) (ps : List Plan) → total (x ∷ xs) n ps ≡ single x n ps + total xs n ps
total_more x xs n [] = refl
total_more x xs n (p ∷ ps) = let rest = total_more x xs (n + 1) ps in omega (arith, rest)

single_beyond : (x : Place) (n : ℕ) (ps : List Plan) → x.plan < n → single x n ps ≡ 0
single_beyond x n [] low = refl
single_beyond x n (p ∷ ps) low =
    let rest = single_beyond x (n + 1) ps (omega (arith, low)) in
    let other : nat_eq x.plan n ≡ false = ne_eqb x.plan n (λ e. let f : x.plan ≡ n = e in omega (arith, f, low)) in
    rw other (omega (arith, rest))

-- the plans are right, one after another
abbrev EachRight : List Plan → Type 0
EachRight [] = Unit {0}
EachRight (p ∷ ps) = IsRight p × EachRight ps

pub each_right : (ps : List Plan) → AllRight ps → EachRight ps
each_right [] right = tt
each_right (p ∷ ps) right = (right 0 p refl, each_right ps (λ n q e. right (suc n) q e))

single_once : (x : Place) (n : ℕ) (ps : List Plan) → EachRight ps → single x n ps ≤ 1
single_once x n [] right = omega arith
single_once x n (p ∷ ps) (one, right) =
    number_cases x.plan n
    (λ e b.
    let few = (seldom p [] p.joints x.end one).0 in
    let rest = single_beyond x (n + 1) ps (omega (arith, e)) in
    rw b (omega (arith, few, rest)))
    (λ e b. let rest = single_once x (n + 1) ps right in rw b (omega (arith, rest)))

total_few : (xs : List Place) (n : ℕ) (ps : List Plan) → EachRight ps → total xs n ps ≤ length xs
total_few [] n ps right = let none = total_none n ps in omega (arith, none)
total_few (x ∷ xs) n ps right =
    let more = total_more x xs n ps in let one = single_once x n ps right in let rest = total_few xs n ps right in omega (arith, more, one, rest)

module _ (ps : List Plan) (ss : List Service) (root : ℕ) (known : AreJoinable ps ss root) (right : AllRight ps) where
  -- a point of an end is met as often as its places
  once_hit : (q : Point) (n : ℕ) (e : End) → IsThere ps (place n e) → once q (point_of ps ss root n e) ≤ hits (back ps ss root q) n e
  once_hit q n e there =
      elim (once_cases q (point_of ps ss root n e)) [
        | inl none ↦ omega (arith, none)
        | inr (same, few) ↦
            (let found = hit (back ps ss root q) n e
            (subst (λ (r : Point). In (back ps ss root r) (place n e)) (sym same) (back_tells ps ss root known (place n e) there)) in
            omega (arith, few, found))
      ]

  ends_there : (n : ℕ) (p : Plan) (j : Joint) → slice_get ps n ≡ Some p → Fits p j → IsThere ps (place n j.asking) × IsThere ps (place n j.serving)
  ends_there n p j is (q, v, one, other) = (
    (asks q v, ap (λ (o : Option Plan). contact_in o j.asking) is ∙ one),
    (serves q v, ap (λ (o : Option Plan). contact_in o j.serving) is ∙ other),
  )

  met_in : (q : Point) (n : ℕ) (p : Plan) (before js : List Joint) → slice_get ps n ≡ Some p → AreRight p before js
      → meetings q (ties_in ss root n (parts_before ps n) (stays_before ss 0 ps n) js) ≤ sums (back ps ss root q) n js
  met_in q n p before [] is r = let none = sums_none (back ps ss root q) n in omega (arith, none)
  met_in q n p before (j ∷ js) is (here, rest) =
      let (one, other) = ends_there n p j is here.0 in
      let first = once_hit q n j.asking one in
      let second = once_hit q n j.serving other in
      let more = sums_more (back ps ss root q) n j js in
      let others = met_in q n p (j ∷ before) js is rest in
      omega (arith, first, second, more, others)

  -- the plans from number n on are these
  met_from : (q : Point) (n P I : ℕ) (qs : List Plan) → ((d : ℕ) (p : Plan) → slice_get qs d ≡ Some p → slice_get ps (n + d) ≡ Some p)
      → ((d : ℕ) → d < length qs → (P + parts_before qs d ≡ parts_before ps (n + d)) × (I + stays_before ss n qs d ≡ stays_before ss 0 ps (n + d)))
      → EachRight qs → meetings q (ties_from ss root n P I qs) ≤ total (back ps ss root q) n qs
  met_from q n P I [] are starts r = omega arith
  met_from q n P I (p ∷ qs) are starts (one, rest) =
      let here : slice_get ps (n + 0) ≡ Some p = are 0 p refl in
      let at : n + 0 ≡ n = omega arith in
      let (parts, imports) = starts 0 (omega arith) in
      let parts_are : P ≡ parts_before ps n = (let e : P ≡ P + 0 = omega arith in e) ∙ (parts ∙ ap (parts_before ps) at) in
      let imports_are : I ≡ stays_before ss 0 ps n = (let e : I ≡ I + 0 = omega arith in e) ∙ (imports ∙ ap (stays_before ss 0 ps) at) in
      let first : meetings q (ties_in ss root n P I p.joints) ≤ sums (back ps ss root q) n p.joints =
      subst (λ (m : ℕ). m ≤ sums (back ps ss root q) n p.joints)
      (λ t. meetings q (ties_in ss root n (sym parts_are t) (sym imports_are t) p.joints))
      (met_in q n p [] p.joints (ap (slice_get ps) (sym at) ∙ here) one) in
      let others = met_from q (n + 1) (P + length p.parts) (I + rank ss n (length p.imports)) qs
      (λ d r e. (let s : (n + 1) + d ≡ n + suc d = omega arith in ap (slice_get ps) s) ∙ are (suc d) r e)
      (λ d low.
      let (more_parts, more_imports) = starts (suc d) (omega (arith, low)) in
      let s : n + suc d ≡ (n + 1) + d = omega arith in
      let a : (P + length p.parts) + parts_before qs d ≡ P + (length p.parts + parts_before qs d) = omega arith in
      let b : (I + rank ss n (length p.imports)) + stays_before ss (n + 1) qs d ≡ I + (rank ss n (length p.imports) + stays_before ss (n + 1) qs d) = omega arith in
      (a ∙ (more_parts ∙ ap (parts_before ps) s), b ∙ (more_imports ∙ ap (stays_before ss 0 ps) s)))
      rest in
      let both = meetings-append q (ties_in ss root n P I p.joints) (ties_from ss root (n + 1) (P + length p.parts) (I + rank ss n (length p.imports)) qs) in
      omega (arith, both, first, others)

  met : (q : Point) → meetings q (ties_from ss root 0 0 0 ps) ≤ length (back ps ss root q)
  met q =
      let few = total_few (back ps ss root q) 0 ps (each_right ps right) in
      let all = met_from q 0 0 0 ps (λ d p e. (let s : 0 + d ≡ d = omega arith in ap (slice_get ps) s) ∙ e)
      (λ d low.
      let s : d ≡ 0 + d = omega arith in
      let a : 0 + parts_before ps d ≡ parts_before ps d = omega arith in
      let b : 0 + stays_before ss 0 ps d ≡ stays_before ss 0 ps d = omega arith in
      (a ∙ ap (parts_before ps) s, b ∙ ap (stays_before ss 0 ps) s)) (each_right ps right) in
      omega (arith, few, all)

  service_two : (o : Option Service) (h : ℕ) → length (of_service o h) ≤ 2
  service_two None h = omega arith
  service_two (Some s) h = omega arith

  two_back : (p : spot.Place) (h : ℕ) → length (back_at ps ss root p h) ≤ 2
  two_back (spots.Part g) h = omega arith
  two_back (spots.Import o) h = omega arith
  two_back spots.Result h = omega arith
  two_back (spots.Number k) h = omega arith
  two_back (spots.Node t) h = service_two (slice_get ss t) h

  one_back : (p : spot.Place) (h : ℕ) (e : End) → end_of_place p h ≡ Some e → length (back_at ps ss root p h) ≤ 1
  one_back (spots.Part g) h e is = omega arith
  one_back (spots.Import o) h e is = omega arith
  one_back spots.Result h e is = omega arith
  one_back (spots.Number k) h e is = absurd (cc is)
  one_back (spots.Node t) h e is = absurd (cc is)

  pub thin : IsThin (ties_from ss root 0 0 0 ps)
  thin =
      record {
        points = λ q. let all = met q in let two = two_back q.place q.shake in omega (arith, all, two);
        ends = λ q e is. let all = met q in let one = one_back q.place q.shake e is in omega (arith, all, one);
      }
