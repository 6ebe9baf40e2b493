-- No tie of a term is at an import's end: only the ties of the imports themselves are.
use Rattle.std.specs.Prelude.{◌≡◌, ℕ, zero, suc, ◌+◌, ◌-◌, List, [], ◌∷◌, ◌++◌, length, take, drop, Contains}
use Rattle.std.proofs.Common.{refl, subst, arith}
use Rattle.gos_types.specs.Types.{Type'}
use Rattle.gos_check.specs.declared.linear.Split.{Split}
use Rattle.gos_check.specs.Nodes.{Numbered, Closed, Use, Under, One, Two, If, Binding, OfFun, OfNew, OfArray, OneForm, OfFst, OfSnd, OfDeref, OfNot, TwoForm, OfApp, OfBoth, OfSeq, OfPar, OfWhile, OfAssign, OfBin, argument_of, type_of_node}
use Rattle.gos_ties.specs.declared.points.Place.{Place}
use Rattle.gos_ties.specs.declared.points.Place.TheVariants as places
use Rattle.gos_ties.specs.declared.points.Point.{Point}
use Rattle.gos_ties.specs.declared.points.Tie.{Tie}
use Rattle.gos_ties.specs.Ties.{point}
use Rattle.gos_realises.specs.realises.Regular.{count}
use Rattle.gos_plan.specs.Plans.{PartEnd, ImportEnd, ResultEnd}
use Rattle.gos_joining.specs.webs.Webs.{Dot, Of, Number, Node, Within}
use Rattle.gos_compile.specs.Wiring.{Types, row, led, share_ties, shares_ties, binder_part, one_part, two_part, parts_of, nodes, one_out, first_out, second_out, one_ties, two_ties, binder_ties, binder_out, ties_of}
use Rattle.gos_terms.specs.wired.Wired.{dot_of}

-- a place is no import's
abbrev pub IsAway : Place → Type 0
IsAway (places.Part i) = Unit {0}
IsAway (places.Import i) = ⊥
IsAway places.Result = Unit {0}
IsAway (places.Number n) = Unit {0}
IsAway (places.Node n) = Unit {0}

abbrev pub PointsAway : List Point → Type 0
PointsAway [] = Unit {0}
PointsAway (a ∷ points) = IsAway a.place × PointsAway points

abbrev pub TiesAway : List Tie → Type 0
TiesAway [] = Unit {0}
TiesAway (t ∷ ts) = IsAway t.one.place × IsAway t.other.place × TiesAway ts

pub ties_two : (ts us : List Tie) → TiesAway ts → TiesAway us → TiesAway (ts ++ us)
ties_two [] us first second = second
ties_two (t ∷ ts) us first second = (first.0, first.1, ties_two ts us first.2 second)

points_two : (ps rs : List Point) → PointsAway ps → PointsAway rs → PointsAway (ps ++ rs)
points_two [] rs first second = second
points_two (p ∷ ps) rs first second = (first.0, points_two ps rs first.1 second)

take_away : (n : ℕ) (ps : List Point) → PointsAway ps → PointsAway (take n ps)
take_away zero [] all = tt
take_away zero (p ∷ ps) all = tt
take_away (suc n) [] all = tt
take_away (suc n) (p ∷ ps) all = (all.0, take_away n ps all.1)

drop_away : (n : ℕ) (ps : List Point) → PointsAway ps → PointsAway (drop n ps)
drop_away zero [] all = tt
drop_away zero (p ∷ ps) all = all
drop_away (suc n) [] all = tt
drop_away (suc n) (p ∷ ps) all = drop_away n ps all.1

pub row_away : (q : Place) → IsAway q → (h n : ℕ) → PointsAway (row q h n)
row_away q away h zero = tt
row_away q away h (suc n) = (away, row_away q away (suc h) n)

led_away : (q : Place) → IsAway q → (h : ℕ) (ps : List Point) → PointsAway ps → TiesAway (led ps q h)
led_away q away h [] all = tt
led_away q away h (p ∷ ps) all = (all.0, away, led_away q away (suc h) ps all.1)

share_away : (i n : ℕ) (s : Split) → TiesAway (share_ties i n s)
share_away i n s =
    ties_two (led (row (places.Number s.of) 0 n) (places.Part i) 0)
    (led (row (places.Number s.left) 0 n) (places.Part i) n ++ led (row (places.Number s.right) 0 n) (places.Part i) (n + n))
    (led_away (places.Part i) tt 0 (row (places.Number s.of) 0 n) (row_away (places.Number s.of) tt 0 n))
    (ties_two (led (row (places.Number s.left) 0 n) (places.Part i) n) (led (row (places.Number s.right) 0 n) (places.Part i) (n + n))
    (led_away (places.Part i) tt n (row (places.Number s.left) 0 n) (row_away (places.Number s.left) tt 0 n))
    (led_away (places.Part i) tt (n + n) (row (places.Number s.right) 0 n) (row_away (places.Number s.right) tt 0 n)))

shares_away : (i : ℕ) (ss : List Split) (types : Types) → TiesAway (shares_ties i ss types)
shares_away i [] types = tt
shares_away i (s ∷ ss) types =
    ties_two (share_ties i (count (types s.of)) s) (shares_ties (suc i) ss types) (share_away i (count (types s.of)) s) (shares_away (suc i) ss types)

binder_away : (b : Binding) (t : Type') (i n : ℕ) (out : List Point) → PointsAway out → TiesAway (binder_ties b t i n out)
binder_away OfFun t i n out all = led_away (places.Number n) tt 0 (take (count (argument_of t)) out) (take_away (count (argument_of t)) out all)
binder_away (OfNew w) t i n out all =
    ties_two (led out (places.Part i) 3) (led (row (places.Number n) 0 2) (places.Part i) 1) (led_away (places.Part i) tt 3 out all)
    (led_away (places.Part i) tt 1 (row (places.Number n) 0 2) (row_away (places.Number n) tt 0 2))
binder_away (OfArray k w) t i n out all =
    ties_two (led out (places.Part i) 4) (led (row (places.Number n) 0 3) (places.Part i) 1) (led_away (places.Part i) tt 4 out all)
    (led_away (places.Part i) tt 1 (row (places.Number n) 0 3) (row_away (places.Number n) tt 0 3))

binder_out_away : (b : Binding) (t : Type') (i : ℕ) (out : List Point) → PointsAway out → PointsAway (binder_out b t i out)
binder_out_away OfFun t i out all = drop_away (count (argument_of t)) out all
binder_out_away (OfNew w) t i out all = (tt, tt)
binder_out_away (OfArray k w) t i out all = (tt, tt)

one_away : (f : OneForm) (i : ℕ) (out : List Point) → PointsAway out → TiesAway (one_ties f i out)
one_away OfFst i out all = tt
one_away OfSnd i out all = tt
one_away OfDeref i out all = led_away (places.Part i) tt 1 out all
one_away OfNot i out all = led_away (places.Part i) tt 1 out all

one_out_away : (f : OneForm) (t u : Type') (i j : ℕ) (out : List Point) → PointsAway out → PointsAway (one_out f t u i j out)
one_out_away OfFst t u i j out all = points_two out (row (places.Node j) 0 (count u - count t)) all (row_away (places.Node j) tt 0 (count u - count t))
one_out_away OfSnd t u i j out all = points_two (row (places.Node j) 0 (count u - count t)) out (row_away (places.Node j) tt 0 (count u - count t)) all
one_out_away OfDeref t u i j out all = (tt, (tt, tt))
one_out_away OfNot t u i j out all = (tt, tt)

two_away : (f : TwoForm) (i : ℕ) (out : List Point) → PointsAway out → TiesAway (two_ties f i out)
two_away OfApp i out all = tt
two_away OfBoth i out all = tt
two_away OfSeq i out all = led_away (places.Part i) tt 2 out all
two_away OfPar i out all = led_away (places.Part i) tt 2 out all
two_away OfWhile i out all = led_away (places.Part i) tt 2 out all
two_away OfAssign i out all = led_away (places.Part i) tt 2 out all
two_away (OfBin op) i out all = led_away (places.Part i) tt 2 out all

first_away : (f : TwoForm) (u v : Type') (i j : ℕ) (out : List Point) → PointsAway out → PointsAway (first_out f u v i j out)
first_away OfApp u v i j out all = points_two (row (places.Node j) 0 (count v)) out (row_away (places.Node j) tt 0 (count v)) all
first_away OfBoth u v i j out all = take_away (count u) out all
first_away OfSeq u v i j out all = (tt, tt)
first_away OfPar u v i j out all = (tt, tt)
first_away OfWhile u v i j out all = (tt, tt)
first_away OfAssign u v i j out all = (tt, (tt, tt))
first_away (OfBin op) u v i j out all = (tt, tt)

second_away : (f : TwoForm) (u v : Type') (i j : ℕ) (out : List Point) → PointsAway out → PointsAway (second_out f u v i j out)
second_away OfApp u v i j out all = row_away (places.Node j) tt 0 (count v)
second_away OfBoth u v i j out all = drop_away (count u) out all
second_away OfSeq u v i j out all = (tt, tt)
second_away OfPar u v i j out all = (tt, tt)
second_away OfWhile u v i j out all = (tt, tt)
second_away OfAssign u v i j out all = (tt, tt)
second_away (OfBin op) u v i j out all = (tt, tt)

pub ties_away : (types : Types) (i j : ℕ) (m : Numbered) (out : List Point) → PointsAway out → TiesAway (ties_of types i j m out)
ties_away types i j (Closed t ss c) out all =
    ties_two (shares_ties i ss types) (led out (places.Part (i + length ss)) 0) (shares_away i ss types)
    (led_away (places.Part (i + length ss)) tt 0 out all)
ties_away types i j (Use t ss n) out all =
    ties_two (shares_ties i ss types) (led out (places.Number n) 0) (shares_away i ss types) (led_away (places.Number n) tt 0 out all)
ties_away types i j (Under t ss b n m) out all =
    let i' : ℕ = i + length ss in
    let below : List Tie = ties_of types (i' + length (binder_part b t)) (suc j) m (binder_out b t i' out) in
    ties_two (shares_ties i ss types) (binder_ties b t i' n out ++ below) (shares_away i ss types)
    (ties_two (binder_ties b t i' n out) below (binder_away b t i' n out all)
    (ties_away types (i' + length (binder_part b t)) (suc j) m (binder_out b t i' out) (binder_out_away b t i' out all)))
ties_away types i j (One t ss f m) out all =
    let i' : ℕ = i + length ss in
    let out' : List Point = one_out f t (type_of_node m) i' j out in
    let below : List Tie = ties_of types (i' + length (one_part f t)) (suc j) m out' in
    ties_two (shares_ties i ss types) (one_ties f i' out ++ below) (shares_away i ss types)
    (ties_two (one_ties f i' out) below (one_away f i' out all)
    (ties_away types (i' + length (one_part f t)) (suc j) m out' (one_out_away f t (type_of_node m) i' j out all)))
ties_away types i j (Two t ss f m n) out all =
    let i' : ℕ = i + length ss in
    let k : ℕ = i' + length (two_part f t (type_of_node n)) in
    let first : List Point = first_out f (type_of_node m) (type_of_node n) i' j out in
    let second : List Point = second_out f (type_of_node m) (type_of_node n) i' j out in
    let left : List Tie = ties_of types k (suc j) m first in
    let right : List Tie = ties_of types (k + length (parts_of types m)) (suc j + nodes m) n second in
    ties_two (shares_ties i ss types) (two_ties f i' out ++ (left ++ right)) (shares_away i ss types)
    (ties_two (two_ties f i' out) (left ++ right) (two_away f i' out all)
    (ties_two left right (ties_away types k (suc j) m first (first_away f (type_of_node m) (type_of_node n) i' j out all))
    (ties_away types (k + length (parts_of types m)) (suc j + nodes m) n second (second_away f (type_of_node m) (type_of_node n) i' j out all))))
ties_away types i j (If t ss m n p) out all =
    let i' : ℕ = i + length ss in
    let P : Place = places.Part i' in
    let k : ℕ = i' + 1 in
    let l : ℕ = k + length (parts_of types m) in
    let test : List Tie = ties_of types k (suc j) m (point P 0 ∷ []) in
    let left : List Tie = ties_of types l (suc j + nodes m) n (point P 1 ∷ []) in
    let right : List Tie = ties_of types (l + length (parts_of types n)) (suc j + nodes m + nodes n) p (point P 2 ∷ []) in
    ties_two (shares_ties i ss types) (led out P 3 ++ (test ++ (left ++ right))) (shares_away i ss types)
    (ties_two (led out P 3) (test ++ (left ++ right)) (led_away P tt 3 out all)
    (ties_two test (left ++ right) (ties_away types k (suc j) m (point P 0 ∷ []) (tt, tt))
    (ties_two left right (ties_away types l (suc j + nodes m) n (point P 1 ∷ []) (tt, tt))
    (ties_away types (l + length (parts_of types n)) (suc j + nodes m + nodes n) p (point P 2 ∷ []) (tt, tt)))))

-- the ends of one of such ties
pub tie_away : (ts : List Tie) (t : Tie) → TiesAway ts → Contains ts t → IsAway t.one.place × IsAway t.other.place
tie_away [] t all (n, small, e) = absurd (omega (arith, small))
tie_away (u ∷ ts) t all (zero, small, e) = subst (λ (x : Tie). IsAway x.one.place × IsAway x.other.place) e (all.0, all.1)
tie_away (u ∷ ts) t all (suc n, small, e) = tie_away ts t all.2 (n, omega (arith, small), e)

-- in the place of an import's end its number's
abbrev pub for_import : Dot → Dot
for_import (Of (PartEnd i h)) = Of (PartEnd i h)
for_import (Of (ImportEnd i h)) = Number i h
for_import (Of (ResultEnd h)) = Of (ResultEnd h)
for_import (Number n h) = Number n h
for_import (Node n h) = Node n h
for_import (Within k d) = Within k d

pub stays_away : (q : Point) → IsAway q.place → for_import (dot_of q) ≡ dot_of q
stays_away q away = by_place q.place q.shake away
  where
    by_place : (x : Place) (h : ℕ) → IsAway x → for_import (dot_of (point x h)) ≡ dot_of (point x h)
    by_place (places.Part i) h away = refl
    by_place (places.Import i) h away = absurd away
    by_place places.Result h away = refl
    by_place (places.Number n) h away = refl
    by_place (places.Node n) h away = refl
