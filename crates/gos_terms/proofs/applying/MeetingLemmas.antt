-- How often a dot stands in the ties of a node and of its supplies.
use Rattle.std.specs.Prelude.{◌≡◌, ◌≢◌, ℕ, ◌+◌, ◌≤◌, Bool, true, false, ◌&&◌, List, [], ◌∷◌, ◌++◌, map, length, if◌then◌else◌}
use Rattle.std.proofs.Common.{refl, sym, ◌∙◌, ap, subst, arith, inl, inr}
use Rattle.std.proofs.lemmas.Bool.{eq-eqb, ne_eqb}
use Rattle.gos_check.specs.Nodes.{Numbered}
use Rattle.gos_check.specs.Linearity.{times, used, made}
use Rattle.gos_plan.specs.Plans.{End, PartEnd, ImportEnd, ResultEnd, Joint, Plan, same_end, stands_in, AreRight, IsRight}
use Rattle.gos_plan.proofs.JointLemmas.{IsIn, same_is, free_later, ends_are_apart}
use Rattle.gos_ties.specs.declared.points.Place.{Place}
use Rattle.gos_ties.specs.declared.points.Place.TheVariants as places
use Rattle.gos_ties.specs.declared.points.Point.{Point}
use Rattle.gos_ties.specs.declared.points.Tie as point_ties
use Rattle.gos_ties.specs.Ties.{point}
use Rattle.gos_ties.specs.Counted as points
use Rattle.gos_joining.specs.webs.Webs.{Dot, Of, Number, Node, Within, Tie, tie, own_web}
use Rattle.gos_joining.specs.unions.Unions.{within}
use Rattle.gos_compile.specs.Wiring.{Types, row, parts_of, nodes, ties_of}
use Rattle.gos_compile.proofs.TallyLemmas.{row_once, tallied}
use Rattle.gos_compile.proofs.ThinLemmas.{part_tells, node_tells, number_tells, outside_tells, span_once}
use Rattle.gos_terms.specs.wired.Wired.{dot_of_place, dot_of, dot_ties}
use Rattle.gos_joining.specs.weaving.Woven.{same_dot, once, meetings}
use Rattle.gos_joining.proofs.weaving.DotLemmas.{dot_is}
use Rattle.gos_terms.proofs.applying.StandLemmas.{once_at}
use Rattle.gos_terms.proofs.wired.WayLemmas.{point_of, there_and_back}

pub meet_two : (d : Dot) (ts us : List Tie) → meetings d (ts ++ us) ≡ meetings d ts + meetings d us
meet_two d [] us = omega arith
meet_two d (t ∷ ts) us = let rest = meet_two d ts us in omega (arith, rest)

-- in one of several webs
pub inner_once : (n : ℕ) (x y : Dot) → once (Within n x) (Within n y) ≡ once x y
inner_once n x y = ap (λ (b : Bool). if b && same_dot x y then 1 else 0) (eq-eqb n n refl)

pub other_once : (n k : ℕ) (x y : Dot) → n ≢ k → once (Within n x) (Within k y) ≡ 0
other_once n k x y differ = ap (λ (b : Bool). if b && same_dot x y then 1 else 0) (ne_eqb n k differ)

pub inner_meetings : (n : ℕ) (x : Dot) (ts : List Tie) → meetings (Within n x) (within n ts) ≡ meetings x ts
inner_meetings n x [] = refl
inner_meetings n x (t ∷ ts) =
    let one = inner_once n x t.one in
    let other = inner_once n x t.other in
    let rest = inner_meetings n x ts in
    omega (arith, one, other, rest)

pub other_meetings : (n k : ℕ) (x : Dot) (ts : List Tie) → n ≢ k → meetings (Within n x) (within k ts) ≡ 0
other_meetings n k x [] differ = refl
other_meetings n k x (t ∷ ts) differ =
    let one = other_once n k x t.one differ in
    let other = other_once n k x t.other differ in
    let rest = other_meetings n k x ts differ in
    omega (arith, one, other, rest)

-- a point's dot stands in ties no more often than the point
dot_once : (q p : Point) → once (dot_of q) (dot_of p) ≤ points.once q p
dot_once q p = by_test (same_dot (dot_of q) (dot_of p)) refl
  where
    by_test : (b : Bool) → same_dot (dot_of q) (dot_of p) ≡ b → once (dot_of q) (dot_of p) ≤ points.once q p
    by_test true t =
        let same : q ≡ p =
        sym (there_and_back q.place q.shake) ∙ (ap point_of (dot_is (dot_of q) (dot_of p) t) ∙ there_and_back p.place p.shake) in
        let one = once_at q p same in
        let here : once (dot_of q) (dot_of p) ≡ 1 = ap (λ (b : Bool). if b then 1 else 0) t in
        omega (arith, one, here)
    by_test false t =
        let none : once (dot_of q) (dot_of p) ≡ 0 = ap (λ (b : Bool). if b then 1 else 0) t in omega (arith, none)

pub dot_meetings : (q : Point) (ts : List point_ties.Tie) → meetings (dot_of q) (dot_ties ts) ≤ points.meetings q ts
dot_meetings q [] = omega arith
dot_meetings q (t ∷ ts) =
    let one = dot_once q t.one in
    let other = dot_once q t.other in
    let rest = dot_meetings q ts in
    omega (arith, one, other, rest)

within_none : (k : ℕ) (d : Dot) (ts : List point_ties.Tie) → meetings (Within k d) (dot_ties ts) ≡ 0
within_none k d [] = refl
within_none k d (t ∷ ts) =
    let one = apart t.one.place t.one.shake in
    let other = apart t.other.place t.other.shake in
    let rest = within_none k d ts in
    omega (arith, one, other, rest)
  where
    apart : (q : Place) (h : ℕ) → once (Within k d) (dot_of_place q h) ≡ 0
    apart (places.Part i) h = refl
    apart (places.Import i) h = refl
    apart places.Result h = refl
    apart (places.Number n) h = refl
    apart (places.Node n) h = refl

-- in the ties of a node
abbrev pub most : Numbered → Dot → ℕ
most m (Of e) = 1
most m (Number n h) = times n (used m) + times n (made m)
most m (Node n h) = 2
most m (Within k d) = 0

pub node_most : (types : Types) (i j : ℕ) (m : Numbered) (c : ℕ) (d : Dot)
    → meetings d (dot_ties (ties_of types i j m (row places.Result 0 c))) ≤ most m d
node_most types i j m c (Of (PartEnd k h)) =
    let ts : List point_ties.Tie = ties_of types i j m (row places.Result 0 c) in
    let dots = dot_meetings (point (places.Part k) h) ts in
    let all = tallied (point (places.Part k) h) types i j m (row places.Result 0 c) in
    let none = row_once (point (places.Part k) h) places.Result 0 c in
    let tells = part_tells k types i j m in
    let one = span_once k i (length (parts_of types m)) in
    omega (arith, dots, all, none, tells, one)
node_most types i j m c (Of (ImportEnd k h)) =
    let ts : List point_ties.Tie = ties_of types i j m (row places.Result 0 c) in
    let dots = dot_meetings (point (places.Import k) h) ts in
    let all = tallied (point (places.Import k) h) types i j m (row places.Result 0 c) in
    let none = row_once (point (places.Import k) h) places.Result 0 c in
    let tells = outside_tells (places.Import k) (λ n. omega arith) types i j m in
    omega (arith, dots, all, none, tells)
node_most types i j m c (Of (ResultEnd h)) =
    let ts : List point_ties.Tie = ties_of types i j m (row places.Result 0 c) in
    let dots = dot_meetings (point places.Result h) ts in
    let all = tallied (point places.Result h) types i j m (row places.Result 0 c) in
    let one = row_once (point places.Result h) places.Result 0 c in
    let tells = outside_tells places.Result (λ n. omega arith) types i j m in
    omega (arith, dots, all, one, tells)
node_most types i j m c (Number k h) =
    let ts : List point_ties.Tie = ties_of types i j m (row places.Result 0 c) in
    let dots = dot_meetings (point (places.Number k) h) ts in
    let all = tallied (point (places.Number k) h) types i j m (row places.Result 0 c) in
    let none = row_once (point (places.Number k) h) places.Result 0 c in
    let tells = number_tells k types i j m in
    omega (arith, dots, all, none, tells)
node_most types i j m c (Node k h) =
    let ts : List point_ties.Tie = ties_of types i j m (row places.Result 0 c) in
    let dots = dot_meetings (point (places.Node k) h) ts in
    let all = tallied (point (places.Node k) h) types i j m (row places.Result 0 c) in
    let none = row_once (point (places.Node k) h) places.Result 0 c in
    let tells = node_tells k types i j m in
    let one = span_once k j (nodes m) in
    omega (arith, dots, all, none, tells, one)
node_most types i j m c (Within k d) =
    let none = within_none k d (ties_of types i j m (row places.Result 0 c)) in omega (arith, none)

-- an end stands in one joint at most
abbrev joint_tie : Joint → Tie
joint_tie j = tie (Of j.asking) (Of j.serving)

end_once : (e a : End) → (same_end e a ≡ true → ⊥) → once (Of e) (Of a) ≡ 0
end_once e a never = by_test (same_end e a) refl
  where
    by_test : (b : Bool) → same_end e a ≡ b → once (Of e) (Of a) ≡ 0
    by_test true t = absurd (never t)
    by_test false t = ap (λ (b : Bool). if b then 1 else 0) t

none_later : (p : Plan) (before js : List Joint) (e : End) (j : Joint) → AreRight p before js → IsIn j before → stands_in e j ≡ true
    → meetings (Of e) (map joint_tie js) ≡ 0
none_later p before [] e j right is_in stands = refl
none_later p before (x ∷ xs) e j right is_in stands =
    let one = end_once e x.asking (λ t. free_later x.asking before j is_in right.0.1 (subst (λ (d : End). stands_in d j ≡ true) (same_is e x.asking t) stands)) in
    let other = end_once e x.serving (λ t. free_later x.serving before j is_in right.0.2 (subst (λ (d : End). stands_in d j ≡ true) (same_is e x.serving t) stands)) in
    let rest = none_later p (x ∷ before) xs e j right.1 (inr is_in) stands in
    omega (arith, one, other, rest)

joints_most : (p : Plan) (before js : List Joint) (e : End) → AreRight p before js → meetings (Of e) (map joint_tie js) ≤ 1
joints_most p before [] e right = omega arith
joints_most p before (x ∷ xs) e right =
    by_test (same_end e x.asking) (same_end e x.serving) refl refl (joints_most p (x ∷ before) xs e right.1)
  where
    later : stands_in e x ≡ true → meetings (Of e) (map joint_tie xs) ≡ 0
    later stands = none_later p (x ∷ before) xs e x right.1 (inl refl) stands

    by_test : (a b : Bool) → same_end e x.asking ≡ a → same_end e x.serving ≡ b → meetings (Of e) (map joint_tie xs) ≤ 1
        → meetings (Of e) (map joint_tie (x ∷ xs)) ≤ 1
    by_test true true s t rest = absurd (ends_are_apart p x right.0.0 (sym (same_is e x.asking s) ∙ same_is e x.serving t))
    by_test true false s t rest =
        let none = later (grind (arith, s)) in
        let one : once (Of e) (Of x.asking) ≡ 1 = ap (λ (b : Bool). if b then 1 else 0) s in
        let other : once (Of e) (Of x.serving) ≡ 0 = ap (λ (b : Bool). if b then 1 else 0) t in
        omega (arith, none, one, other)
    by_test false true s t rest =
        let none = later (grind (arith, s, t)) in
        let one : once (Of e) (Of x.asking) ≡ 0 = ap (λ (b : Bool). if b then 1 else 0) s in
        let other : once (Of e) (Of x.serving) ≡ 1 = ap (λ (b : Bool). if b then 1 else 0) t in
        omega (arith, none, one, other)
    by_test false false s t rest =
        let one : once (Of e) (Of x.asking) ≡ 0 = ap (λ (b : Bool). if b then 1 else 0) s in
        let other : once (Of e) (Of x.serving) ≡ 0 = ap (λ (b : Bool). if b then 1 else 0) t in
        omega (arith, rest, one, other)

pub own_most : (p : Plan) (e : End) → IsRight p → meetings (Of e) (own_web p).ties ≤ 1
own_most p e right = joints_most p [] p.joints e right

pub own_number : (js : List Joint) (n h : ℕ) → meetings (Number n h) (map joint_tie js) ≡ 0
own_number [] n h = refl
own_number (x ∷ xs) n h = let rest = own_number xs n h in omega (arith, rest)

pub own_node : (js : List Joint) (n h : ℕ) → meetings (Node n h) (map joint_tie js) ≡ 0
own_node [] n h = refl
own_node (x ∷ xs) n h = let rest = own_node xs n h in omega (arith, rest)

pub own_within : (js : List Joint) (k : ℕ) (d : Dot) → meetings (Within k d) (map joint_tie js) ≡ 0
own_within [] k d = refl
own_within (x ∷ xs) k d = let rest = own_within xs k d in omega (arith, rest)
