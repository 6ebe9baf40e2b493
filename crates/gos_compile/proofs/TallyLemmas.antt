-- No point of a module's ties is in more than two of them, and no end in more than one.
use Rattle.std.specs.Prelude.{◌≡◌, ℕ, zero, suc, ◌+◌, ◌-◌, ◌≤◌, ◌<◌, Bool, true, false, List, [], ◌∷◌, ◌++◌, length, take, drop, nat_eq, if◌then◌else◌}
use Rattle.std.proofs.Common.{refl, ap, ◌∙◌, arith}
use Rattle.std.proofs.lemmas.Bool.{ne_eqb}
use Rattle.gos_check.specs.declared.linear.Split.{Split}
use Rattle.gos_check.specs.Nodes.{Numbered, Closed, Use, Under, One, Two, If, Binding, OfFun, OfNew, OfArray, OneForm, OfFst, OfSnd, OfDeref, OfNot, TwoForm, OfApp, OfBoth, OfSeq, OfPar, OfWhile, OfAssign, OfBin, argument_of}
use Rattle.gos_types.specs.Types.{Type'}
use Rattle.gos_model.proofs.NumberLemmas.{number_cases}
use Rattle.gos_ties.specs.declared.points.Place.{Place}
use Rattle.gos_ties.specs.declared.points.Place.TheVariants as places
use Rattle.gos_ties.specs.declared.points.Point.{Point}
use Rattle.gos_ties.specs.declared.points.Tie.{Tie}
use Rattle.gos_realises.specs.realises.Regular.{count}
use Rattle.gos_ties.specs.Ties.{point}
use Rattle.gos_compile.specs.Wiring.{Types, row, led, share_ties, shares_ties, ties_of, parts_of, type_of_node, nodes, binder_part, binder_ties, binder_out, one_part, one_ties, one_out, two_part, two_ties, first_out, second_out}
use Rattle.gos_ties.specs.Counted.{place_once, once, meetings}

-- how often a point is in a list
abbrev pub occurs : Point → List Point → ℕ
occurs q [] = 0
occurs q (p ∷ ps) = once q p + occurs q ps

pub occurs-append : (q : Point) (ps rs : List Point) → occurs q (ps ++ rs) ≡ occurs q ps + occurs q rs
occurs-append q [] rs = omega arith
occurs-append q (p ∷ ps) rs = let h = occurs-append q ps rs in omega (arith, h)

occurs_parted : (q : Point) (n : ℕ) (ps : List Point) → occurs q (take n ps) + occurs q (drop n ps) ≡ occurs q ps
occurs_parted q zero [] = omega arith
occurs_parted q zero (p ∷ ps) = omega arith
occurs_parted q (suc n) [] = omega arith
occurs_parted q (suc n) (p ∷ ps) = let h = occurs_parted q n ps in omega (arith, h)

pub meetings-append : (q : Point) (ts us : List Tie) → meetings q (ts ++ us) ≡ meetings q ts + meetings q us
meetings-append q [] us = omega arith
meetings-append q (t ∷ ts) us = let h = meetings-append q ts us in omega (arith, h)

meetings_led : (q : Point) (ps : List Point) (place : Place) (h : ℕ) → meetings q (led ps place h) ≡ occurs q ps + occurs q (row place h (length ps))
meetings_led q [] place h = omega arith
meetings_led q (p ∷ ps) place h = let e = meetings_led q ps place (suc h) in omega (arith, e)

-- a point is at most once in a row
once_upto : (q : Point) (place : Place) (h : ℕ) → once q (point place h) ≤ place_once q.place place
once_upto q place h = by (nat_eq h q.shake)
  where
    by : (b : Bool) → (if b then place_once q.place place else 0) ≤ place_once q.place place
    by true = omega arith
    by false = omega arith

row_beyond : (q : Point) (place : Place) (h n : ℕ) → q.shake < h → occurs q (row place h n) ≡ 0
row_beyond q place h zero low = refl
row_beyond q place h (suc n) low =
    let rest = row_beyond q place (suc h) n (omega (arith, low)) in
    let none : nat_eq h q.shake ≡ false = ne_eqb h q.shake (λ e. let f : h ≡ q.shake = e in omega (arith, f, low)) in
    rw none (omega (arith, rest))

pub row_once : (q : Point) (place : Place) (h n : ℕ) → occurs q (row place h n) ≤ place_once q.place place
row_once q place h zero = omega arith
row_once q place h (suc n) =
    number_cases h q.shake
    (λ e t. let rest = row_beyond q place (suc h) n (omega (arith, e)) in let one = once_upto q place h in omega (arith, rest, one))
    (λ e t. let rest = row_once q place (suc h) n in
    let none : once q (point place h) ≡ 0 = rw t refl in
    omega (arith, rest, none))

row_parted : (q : Point) (place : Place) (h a b : ℕ) → occurs q (row place h (a + b)) ≡ occurs q (row place h a) + occurs q (row place (h + a) b)
row_parted q place h zero b =
    let none : 0 + b ≡ b = omega arith in
    let start : h ≡ h + 0 = omega arith in
    let count_same = ap (λ (n : ℕ). occurs q (row place h n)) none in
    let start_same = ap (λ (n : ℕ). occurs q (row place n b)) start in
    omega (arith, count_same, start_same)
row_parted q place h (suc a) b =
    let rest = row_parted q place (suc h) a b in
    let more : suc a + b ≡ suc (a + b) = omega arith in
    let count_same = ap (λ (n : ℕ). occurs q (row place h n)) more in
    let start : suc h + a ≡ h + suc a = omega arith in
    let start_same = ap (λ (n : ℕ). occurs q (row place n b)) start in
    omega (arith, rest, count_same, start_same)

pub row_length : (place : Place) (h n : ℕ) → length (row place h n) ≡ n
row_length place h zero = refl
row_length place h (suc n) = ap (λ (k : ℕ). suc k) (row_length place (suc h) n)

-- a row of one place leads to one of another
pub led_row : (q : Point) (one other : Place) (n h : ℕ) → meetings q (led (row one 0 n) other h) ≡ occurs q (row one 0 n) + occurs q (row other h n)
led_row q one other n h = meetings_led q (row one 0 n) other h ∙ ap (λ (k : ℕ). occurs q (row one 0 n) + occurs q (row other h k)) (row_length one 0 n)

-- How often a point is in ties at most, beside those of where a node's handshakes lead: of Shares, of a node's own form,
-- and of a whole term.
abbrev pub shares_tally : Place → ℕ → List Split → ℕ
shares_tally q i [] = 0
shares_tally q i (s ∷ ss) =
    place_once q (places.Part i) + place_once q (places.Number s.of) + place_once q (places.Number s.left) + place_once q (places.Number s.right)
    + shares_tally q (suc i) ss

abbrev pub binder_tally : Place → Binding → ℕ → ℕ → ℕ
binder_tally q OfFun i n = place_once q (places.Number n)
binder_tally q (OfNew w) i n = place_once q (places.Part i) + place_once q (places.Number n)
binder_tally q (OfArray k w) i n = place_once q (places.Part i) + place_once q (places.Number n)

abbrev pub one_tally : Place → OneForm → ℕ → ℕ → ℕ
one_tally q OfFst i j = place_once q (places.Node j)
one_tally q OfSnd i j = place_once q (places.Node j)
one_tally q OfDeref i j = place_once q (places.Part i) + place_once q (places.Node j)
one_tally q OfNot i j = place_once q (places.Part i)

abbrev pub two_tally : Place → TwoForm → ℕ → ℕ → ℕ
two_tally q OfApp i j = place_once q (places.Node j) + place_once q (places.Node j)
two_tally q OfBoth i j = 0
two_tally q OfAssign i j = place_once q (places.Part i) + place_once q (places.Node j)
two_tally q f i j = place_once q (places.Part i)

abbrev pub tally : Place → Types → ℕ → ℕ → Numbered → ℕ
tally q types i j (Closed t ss c) = shares_tally q i ss + place_once q (places.Part (i + length ss))
tally q types i j (Use t ss n) = shares_tally q i ss + place_once q (places.Number n)
tally q types i j (Under t ss b n m) =
    shares_tally q i ss + (binder_tally q b (i + length ss) n + tally q types (i + length ss + length (binder_part b t)) (suc j) m)
tally q types i j (One t ss f m) =
    shares_tally q i ss + (one_tally q f (i + length ss) j + tally q types (i + length ss + length (one_part f t)) (suc j) m)
tally q types i j (Two t ss f m n) =
    shares_tally q i ss
    + (two_tally q f (i + length ss) j
    + (tally q types (i + length ss + length (two_part f t (type_of_node n))) (suc j) m
    + tally q types (i + length ss + length (two_part f t (type_of_node n)) + length (parts_of types m)) (suc j + nodes m) n))
tally q types i j (If t ss m n p) =
    shares_tally q i ss
    + (place_once q (places.Part (i + length ss))
    + (tally q types (i + length ss + 1) (suc j) m
    + (tally q types (i + length ss + 1 + length (parts_of types m)) (suc j + nodes m) n
    + tally q types (i + length ss + 1 + length (parts_of types m) + length (parts_of types n)) (suc j + nodes m + nodes n) p)))

share_tallied : (q : Point) (i n : ℕ) (s : Split)
    → meetings q (share_ties i n s)
    ≤ place_once q.place (places.Part i) + place_once q.place (places.Number s.of) + place_once q.place (places.Number s.left)
    + place_once q.place (places.Number s.right)
share_tallied q i n s =
    let P : Place = places.Part i in
    let A : Place = places.Number s.of in
    let B : Place = places.Number s.left in
    let C : Place = places.Number s.right in
    let split = meetings-append q (led (row A 0 n) P 0) (led (row B 0 n) P n ++ led (row C 0 n) P (n + n)) in
    let split_rest = meetings-append q (led (row B 0 n) P n) (led (row C 0 n) P (n + n)) in
    let source = led_row q A P n 0 in
    let left = led_row q B P n n in
    let right = led_row q C P n (n + n) in
    let own = row_once q P 0 ((n + n) + n) in
    let parted = row_parted q P 0 (n + n) n in
    let parted_first = row_parted q P 0 n n in
    let second : 0 + n ≡ n = omega arith in
    let third : 0 + (n + n) ≡ n + n = omega arith in
    let at_second = ap (λ (h : ℕ). occurs q (row P h n)) second in
    let at_third = ap (λ (h : ℕ). occurs q (row P h n)) third in
    let of_source = row_once q A 0 n in
    let of_left = row_once q B 0 n in
    let of_right = row_once q C 0 n in
    omega (arith, split, split_rest, source, left, right, own, parted, parted_first, at_second, at_third, of_source, of_left, of_right)

shares_tallied : (q : Point) (i : ℕ) (ss : List Split) (types : Types) → meetings q (shares_ties i ss types) ≤ shares_tally q.place i ss
shares_tallied q i [] types = omega arith
shares_tallied q i (s ∷ ss) types =
    let split = meetings-append q (share_ties i (count (types s.of)) s) (shares_ties (suc i) ss types) in
    let one = share_tallied q i (count (types s.of)) s in
    let rest = shares_tallied q (suc i) ss types in
    omega (arith, split, one, rest)

-- where a node's own part serves it, and where the handshakes of its parts lead
binder_tallied : (q : Point) (b : Binding) (t : Type') (i n : ℕ) (out : List Point)
    → meetings q (binder_ties b t i n out) + occurs q (binder_out b t i out) ≤ occurs q out + binder_tally q.place b i n
binder_tallied q OfFun t i n out =
    let led_there = meetings_led q (take (count (argument_of t)) out) (places.Number n) 0 in
    let own = row_once q (places.Number n) 0 (length (take (count (argument_of t)) out)) in
    let parted = occurs_parted q (count (argument_of t)) out in
    omega (arith, led_there, own, parted)
binder_tallied q (OfNew w) t i n out =
    let split = meetings-append q (led out (places.Part i) 3) (led (row (places.Number n) 0 2) (places.Part i) 1) in
    let led_out = meetings_led q out (places.Part i) 3 in
    let led_number = led_row q (places.Number n) (places.Part i) 2 1 in
    let own = row_once q (places.Part i) 0 (suc (suc (suc (length out)))) in
    let of_number = row_once q (places.Number n) 0 2 in
    omega (arith, split, led_out, led_number, own, of_number)
binder_tallied q (OfArray k w) t i n out =
    let split = meetings-append q (led out (places.Part i) 4) (led (row (places.Number n) 0 3) (places.Part i) 1) in
    let led_out = meetings_led q out (places.Part i) 4 in
    let led_number = led_row q (places.Number n) (places.Part i) 3 1 in
    let own = row_once q (places.Part i) 0 (suc (suc (suc (suc (length out))))) in
    let of_number = row_once q (places.Number n) 0 3 in
    omega (arith, split, led_out, led_number, own, of_number)

one_tallied : (q : Point) (f : OneForm) (t u : Type') (i j : ℕ) (out : List Point)
    → meetings q (one_ties f i out) + occurs q (one_out f t u i j out) ≤ occurs q out + one_tally q.place f i j
one_tallied q OfFst t u i j out =
    let split = occurs-append q out (row (places.Node j) 0 (count u - count t)) in
    let own = row_once q (places.Node j) 0 (count u - count t) in
    omega (arith, split, own)
one_tallied q OfSnd t u i j out =
    let split = occurs-append q (row (places.Node j) 0 (count u - count t)) out in
    let own = row_once q (places.Node j) 0 (count u - count t) in
    omega (arith, split, own)
one_tallied q OfDeref t u i j out =
    let led_out = meetings_led q out (places.Part i) 1 in
    let own = row_once q (places.Part i) 0 (suc (length out)) in
    let of_node = row_once q (places.Node j) 0 1 in
    omega (arith, led_out, own, of_node)
one_tallied q OfNot t u i j out =
    let led_out = meetings_led q out (places.Part i) 1 in
    let own = row_once q (places.Part i) 0 (suc (length out)) in
    omega (arith, led_out, own)

-- a part that asks at 0 and at 1, and serves from 2 on
two_served : (q : Point) (i : ℕ) (out : List Point)
    → meetings q (led out (places.Part i) 2) + (once q (point (places.Part i) 0) + once q (point (places.Part i) 1))
    ≤ occurs q out + place_once q.place (places.Part i)
two_served q i out =
    let led_out = meetings_led q out (places.Part i) 2 in
    let own = row_once q (places.Part i) 0 (suc (suc (length out))) in
    omega (arith, led_out, own)

two_tallied : (q : Point) (f : TwoForm) (u v : Type') (i j : ℕ) (out : List Point)
    → meetings q (two_ties f i out) + (occurs q (first_out f u v i j out) + occurs q (second_out f u v i j out))
    ≤ occurs q out + two_tally q.place f i j
two_tallied q OfApp u v i j out =
    let split = occurs-append q (row (places.Node j) 0 (count v)) out in
    let own = row_once q (places.Node j) 0 (count v) in
    omega (arith, split, own)
two_tallied q OfBoth u v i j out = let parted = occurs_parted q (count u) out in omega (arith, parted)
two_tallied q OfSeq u v i j out = let h = two_served q i out in omega (arith, h)
two_tallied q OfPar u v i j out = let h = two_served q i out in omega (arith, h)
two_tallied q OfWhile u v i j out = let h = two_served q i out in omega (arith, h)
two_tallied q OfAssign u v i j out =
    let h = two_served q i out in let of_node = row_once q (places.Node j) 0 1 in omega (arith, h, of_node)
two_tallied q (OfBin op) u v i j out = let h = two_served q i out in omega (arith, h)

-- the ties of a term
pub tallied : (q : Point) (types : Types) (i j : ℕ) (m : Numbered) (out : List Point)
    → meetings q (ties_of types i j m out) ≤ occurs q out + tally q.place types i j m
tallied q types i j (Closed t ss c) out =
    let split = meetings-append q (shares_ties i ss types) (led out (places.Part (i + length ss)) 0) in
    let of_shares = shares_tallied q i ss types in
    let led_out = meetings_led q out (places.Part (i + length ss)) 0 in
    let own = row_once q (places.Part (i + length ss)) 0 (length out) in
    omega (arith, split, of_shares, led_out, own)
tallied q types i j (Use t ss n) out =
    let split = meetings-append q (shares_ties i ss types) (led out (places.Number n) 0) in
    let of_shares = shares_tallied q i ss types in
    let led_out = meetings_led q out (places.Number n) 0 in
    let own = row_once q (places.Number n) 0 (length out) in
    omega (arith, split, of_shares, led_out, own)
tallied q types i j (Under t ss b n m) out =
    let i' : ℕ = i + length ss in
    let below : List Tie = ties_of types (i' + length (binder_part b t)) (suc j) m (binder_out b t i' out) in
    let split = meetings-append q (shares_ties i ss types) (binder_ties b t i' n out ++ below) in
    let split_own = meetings-append q (binder_ties b t i' n out) below in
    let of_shares = shares_tallied q i ss types in
    let own = binder_tallied q b t i' n out in
    let rest = tallied q types (i' + length (binder_part b t)) (suc j) m (binder_out b t i' out) in
    omega (arith, split, split_own, of_shares, own, rest)
tallied q types i j (One t ss f m) out =
    let i' : ℕ = i + length ss in
    let out' : List Point = one_out f t (type_of_node m) i' j out in
    let below : List Tie = ties_of types (i' + length (one_part f t)) (suc j) m out' in
    let split = meetings-append q (shares_ties i ss types) (one_ties f i' out ++ below) in
    let split_own = meetings-append q (one_ties f i' out) below in
    let of_shares = shares_tallied q i ss types in
    let own = one_tallied q f t (type_of_node m) i' j out in
    let rest = tallied q types (i' + length (one_part f t)) (suc j) m out' in
    omega (arith, split, split_own, of_shares, own, rest)
tallied q types i j (Two t ss f m n) out =
    let i' : ℕ = i + length ss in
    let k : ℕ = i' + length (two_part f t (type_of_node n)) in
    let first : List Point = first_out f (type_of_node m) (type_of_node n) i' j out in
    let second : List Point = second_out f (type_of_node m) (type_of_node n) i' j out in
    let left : List Tie = ties_of types k (suc j) m first in
    let right : List Tie = ties_of types (k + length (parts_of types m)) (suc j + nodes m) n second in
    let split = meetings-append q (shares_ties i ss types) (two_ties f i' out ++ (left ++ right)) in
    let split_own = meetings-append q (two_ties f i' out) (left ++ right) in
    let split_two = meetings-append q left right in
    let of_shares = shares_tallied q i ss types in
    let own = two_tallied q f (type_of_node m) (type_of_node n) i' j out in
    let of_left = tallied q types k (suc j) m first in
    let of_right = tallied q types (k + length (parts_of types m)) (suc j + nodes m) n second in
    omega (arith, split, split_own, split_two, of_shares, own, of_left, of_right)
tallied q types i j (If t ss m n p) out =
    let i' : ℕ = i + length ss in
    let P : Place = places.Part i' in
    let k : ℕ = i' + 1 in
    let l : ℕ = k + length (parts_of types m) in
    let test : List Tie = ties_of types k (suc j) m (point P 0 ∷ []) in
    let left : List Tie = ties_of types l (suc j + nodes m) n (point P 1 ∷ []) in
    let right : List Tie = ties_of types (l + length (parts_of types n)) (suc j + nodes m + nodes n) p (point P 2 ∷ []) in
    let split = meetings-append q (shares_ties i ss types) (led out P 3 ++ (test ++ (left ++ right))) in
    let split_own = meetings-append q (led out P 3) (test ++ (left ++ right)) in
    let split_three = meetings-append q test (left ++ right) in
    let split_two = meetings-append q left right in
    let of_shares = shares_tallied q i ss types in
    let led_out = meetings_led q out P 3 in
    let own = row_once q P 0 (suc (suc (suc (length out)))) in
    let of_test = tallied q types k (suc j) m (point P 0 ∷ []) in
    let of_left = tallied q types l (suc j + nodes m) n (point P 1 ∷ []) in
    let of_right = tallied q types (l + length (parts_of types n)) (suc j + nodes m + nodes n) p (point P 2 ∷ []) in
    omega (arith, split, split_own, split_three, split_two, of_shares, led_out, own, of_test, of_left, of_right)
