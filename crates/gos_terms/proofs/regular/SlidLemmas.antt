-- A wired node's plan is that of the node whose own points have numbers one less: they are points within, and no ends.
--
-- As in RenamedLemmas of applying, here for the points of nodes.
use Rattle.std.specs.Prelude.{◌≡◌, ℕ, zero, suc, ◌+◌, ◌-◌, List, [], ◌∷◌, ◌++◌, ◌⊎◌, length, map, take, Contains}
use Rattle.std.proofs.Common.{refl, sym, ◌∙◌, ap, subst, arith, inl, inr}
use Rattle.std.proofs.lemmas.List.Elements.{Contains-append_left, Contains-append_right, Contains-append_cases}
use Rattle.gos_types.specs.Types.{Type'}
use Rattle.gos_check.specs.declared.linear.Split.{Split}
use Rattle.gos_check.specs.Nodes.{Numbered, Closed, Use, Under, One, Two, If, Binding, OfFun, OfNew, OfArray, OneForm, OfFst, OfSnd, OfDeref, OfNot, TwoForm, OfApp, OfBoth, OfSeq, OfPar, OfWhile, OfAssign, OfBin, argument_of, type_of_node}
use Rattle.gos_ties.specs.declared.points.Place.{Place}
use Rattle.gos_ties.specs.declared.points.Place.TheVariants as places
use Rattle.gos_ties.specs.declared.points.Point.{Point}
use Rattle.gos_ties.specs.declared.points.Tie as point_ties
use Rattle.gos_ties.specs.Ties as paths
use Rattle.gos_ties.specs.Ties.{point}
use Rattle.gos_plan.specs.Plans.{End, PartEnd, ImportEnd, ResultEnd, Plan}
use Rattle.gos_realises.specs.realises.Regular.{count}
use Rattle.gos_joining.specs.webs.Webs.{Dot, Of, Number, Node, Within, Tie, tie, Way, own_web, SameWays}
use Rattle.gos_joining.proofs.webs.WebLemmas.{same_ways}
use Rattle.gos_joining.proofs.webs.WayLemmas.{mapped_way, one_way}
use Rattle.gos_joining.specs.unions.Unions.{within}
use Rattle.gos_joining.proofs.unions.UnionLemmas.{of_image, in_image}
use Rattle.gos_terms.proofs.applying.RenamedLemmas.{map_two, map_take, map_drop}
use Rattle.gos_compile.specs.Wiring.{Types, row, led, share_ties, shares_ties, binder_part, one_part, two_part, parts_of, nodes, one_out, first_out, second_out, one_ties, two_ties, binder_ties, binder_out, ties_of}
use Rattle.gos_terms.specs.wired.Wired.{Supplies, Placing, Source, Own, Supplied, source_dot, dot_at, dot_of, dot_of_place, dot_ties, result_ties, all_supply_ties, wired_ties, wired_web, IsWired}
use Rattle.gos_terms.proofs.wired.TieLemmas.{inside, of_results, OfSupplies, of_supplies}

-- a point, where the next node's is meant
abbrev slid_at : Place → ℕ → Point
slid_at (places.Part k) h = point (places.Part k) h
slid_at (places.Import k) h = point (places.Import k) h
slid_at places.Result h = point places.Result h
slid_at (places.Number k) h = point (places.Number k) h
slid_at (places.Node k) h = point (places.Node (suc k)) h

abbrev slid : Point → Point
slid q = slid_at q.place q.shake

abbrev slid_tie : point_ties.Tie → point_ties.Tie
slid_tie t = paths.tie (slid t.one) (slid t.other)

-- a place whose points are those of another
abbrev Goes : Place → Place → Type 0
Goes q w = (h : ℕ) → slid_at q h ≡ point w h

part_goes : (k : ℕ) → Goes (places.Part k) (places.Part k)
part_goes k h = refl

number_goes : (k : ℕ) → Goes (places.Number k) (places.Number k)
number_goes k h = refl

result_goes : Goes places.Result places.Result
result_goes h = refl

node_goes : (k : ℕ) → Goes (places.Node k) (places.Node (suc k))
node_goes k h = refl

row_slid : (q w : Place) → Goes q w → (h n : ℕ) → map slid (row q h n) ≡ row w h n
row_slid q w goes h zero = refl
row_slid q w goes h (suc n) = let first = goes h in let rest = row_slid q w goes (suc h) n in λ i. first i ∷ rest i

led_slid : (q w : Place) → Goes q w → (ps : List Point) (h : ℕ) → map slid_tie (led ps q h) ≡ led (map slid ps) w h
led_slid q w goes [] h = refl
led_slid q w goes (p ∷ ps) h =
    let first = goes h in let rest = led_slid q w goes ps (suc h) in λ i. paths.tie (slid p) (first i) ∷ rest i

led_kept : (q w : Place) → Goes q q → Goes w w → (h n g : ℕ) → map slid_tie (led (row q h n) w g) ≡ led (row q h n) w g
led_kept q w goes also h n g = led_slid w w also (row q h n) g ∙ ap (λ (ps : List Point). led ps w g) (row_slid q q goes h n)

both : (xs ys us vs : List point_ties.Tie) → map slid_tie xs ≡ us → map slid_tie ys ≡ vs → map slid_tie (xs ++ ys) ≡ us ++ vs
both xs ys us vs first second = map_two slid_tie xs ys ∙ (λ i. first i ++ second i)

both_points : (xs ys us vs : List Point) → map slid xs ≡ us → map slid ys ≡ vs → map slid (xs ++ ys) ≡ us ++ vs
both_points xs ys us vs first second = map_two slid xs ys ∙ (λ i. first i ++ second i)

share_kept : (i n : ℕ) (s : Split) → map slid_tie (share_ties i n s) ≡ share_ties i n s
share_kept i n s =
    let of : List point_ties.Tie = led (row (places.Number s.of) 0 n) (places.Part i) 0 in
    let left : List point_ties.Tie = led (row (places.Number s.left) 0 n) (places.Part i) n in
    let right : List point_ties.Tie = led (row (places.Number s.right) 0 n) (places.Part i) (n + n) in
    both of (left ++ right) of (left ++ right)
    (led_kept (places.Number s.of) (places.Part i) (number_goes s.of) (part_goes i) 0 n 0)
    (both left right left right
    (led_kept (places.Number s.left) (places.Part i) (number_goes s.left) (part_goes i) 0 n n)
    (led_kept (places.Number s.right) (places.Part i) (number_goes s.right) (part_goes i) 0 n (n + n)))

shares_kept : (i : ℕ) (ss : List Split) (types : Types) → map slid_tie (shares_ties i ss types) ≡ shares_ties i ss types
shares_kept i [] types = refl
shares_kept i (s ∷ ss) types =
    let first : List point_ties.Tie = share_ties i (count (types s.of)) s in
    let rest : List point_ties.Tie = shares_ties (suc i) ss types in
    both first rest first rest (share_kept i (count (types s.of)) s) (shares_kept (suc i) ss types)

binder_slid : (b : Binding) (t : Type') (i n : ℕ) (out : List Point) → map slid_tie (binder_ties b t i n out) ≡ binder_ties b t i n (map slid out)
binder_slid OfFun t i n out =
    led_slid (places.Number n) (places.Number n) (number_goes n) (take (count (argument_of t)) out) 0
    ∙ ap (λ (ps : List Point). led ps (places.Number n) 0) (map_take slid (count (argument_of t)) out)
binder_slid (OfNew w) t i n out =
    let own : List point_ties.Tie = led (row (places.Number n) 0 2) (places.Part i) 1 in
    both (led out (places.Part i) 3) own (led (map slid out) (places.Part i) 3) own
    (led_slid (places.Part i) (places.Part i) (part_goes i) out 3) (led_kept (places.Number n) (places.Part i) (number_goes n) (part_goes i) 0 2 1)
binder_slid (OfArray k w) t i n out =
    let own : List point_ties.Tie = led (row (places.Number n) 0 3) (places.Part i) 1 in
    both (led out (places.Part i) 4) own (led (map slid out) (places.Part i) 4) own
    (led_slid (places.Part i) (places.Part i) (part_goes i) out 4) (led_kept (places.Number n) (places.Part i) (number_goes n) (part_goes i) 0 3 1)

binder_out_slid : (b : Binding) (t : Type') (i : ℕ) (out : List Point) → map slid (binder_out b t i out) ≡ binder_out b t i (map slid out)
binder_out_slid OfFun t i out = map_drop slid (count (argument_of t)) out
binder_out_slid (OfNew w) t i out = refl
binder_out_slid (OfArray k w) t i out = refl

one_slid : (f : OneForm) (i : ℕ) (out : List Point) → map slid_tie (one_ties f i out) ≡ one_ties f i (map slid out)
one_slid OfFst i out = refl
one_slid OfSnd i out = refl
one_slid OfDeref i out = led_slid (places.Part i) (places.Part i) (part_goes i) out 1
one_slid OfNot i out = led_slid (places.Part i) (places.Part i) (part_goes i) out 1

one_out_slid : (f : OneForm) (t u : Type') (i j : ℕ) (out : List Point) → map slid (one_out f t u i j out) ≡ one_out f t u i (suc j) (map slid out)
one_out_slid OfFst t u i j out =
    let own : List Point = row (places.Node j) 0 (count u - count t) in
    let next : List Point = row (places.Node (suc j)) 0 (count u - count t) in
    both_points out own (map slid out) next refl (row_slid (places.Node j) (places.Node (suc j)) (node_goes j) 0 (count u - count t))
one_out_slid OfSnd t u i j out =
    let own : List Point = row (places.Node j) 0 (count u - count t) in
    let next : List Point = row (places.Node (suc j)) 0 (count u - count t) in
    both_points own out next (map slid out) (row_slid (places.Node j) (places.Node (suc j)) (node_goes j) 0 (count u - count t)) refl
one_out_slid OfDeref t u i j out = refl
one_out_slid OfNot t u i j out = refl

two_slid : (f : TwoForm) (i : ℕ) (out : List Point) → map slid_tie (two_ties f i out) ≡ two_ties f i (map slid out)
two_slid OfApp i out = refl
two_slid OfBoth i out = refl
two_slid OfSeq i out = led_slid (places.Part i) (places.Part i) (part_goes i) out 2
two_slid OfPar i out = led_slid (places.Part i) (places.Part i) (part_goes i) out 2
two_slid OfWhile i out = led_slid (places.Part i) (places.Part i) (part_goes i) out 2
two_slid OfAssign i out = led_slid (places.Part i) (places.Part i) (part_goes i) out 2
two_slid (OfBin op) i out = led_slid (places.Part i) (places.Part i) (part_goes i) out 2

first_slid : (f : TwoForm) (u v : Type') (i j : ℕ) (out : List Point) → map slid (first_out f u v i j out) ≡ first_out f u v i (suc j) (map slid out)
first_slid OfApp u v i j out =
    let own : List Point = row (places.Node j) 0 (count v) in
    let next : List Point = row (places.Node (suc j)) 0 (count v) in
    both_points own out next (map slid out) (row_slid (places.Node j) (places.Node (suc j)) (node_goes j) 0 (count v)) refl
first_slid OfBoth u v i j out = map_take slid (count u) out
first_slid OfSeq u v i j out = refl
first_slid OfPar u v i j out = refl
first_slid OfWhile u v i j out = refl
first_slid OfAssign u v i j out = refl
first_slid (OfBin op) u v i j out = refl

second_slid : (f : TwoForm) (u v : Type') (i j : ℕ) (out : List Point) → map slid (second_out f u v i j out) ≡ second_out f u v i (suc j) (map slid out)
second_slid OfApp u v i j out = row_slid (places.Node j) (places.Node (suc j)) (node_goes j) 0 (count v)
second_slid OfBoth u v i j out = map_drop slid (count u) out
second_slid OfSeq u v i j out = refl
second_slid OfPar u v i j out = refl
second_slid OfWhile u v i j out = refl
second_slid OfAssign u v i j out = refl
second_slid (OfBin op) u v i j out = refl

-- the ties of a node, with the next numbers for its nodes
ties_slid : (types : Types) (i j : ℕ) (m : Numbered) (out : List Point) → map slid_tie (ties_of types i j m out) ≡ ties_of types i (suc j) m (map slid out)
ties_slid types i j (Closed t ss c) out =
    let P : Place = places.Part (i + length ss) in
    both (shares_ties i ss types) (led out P 0) (shares_ties i ss types) (led (map slid out) P 0)
    (shares_kept i ss types) (led_slid P P (part_goes (i + length ss)) out 0)
ties_slid types i j (Use t ss n) out =
    both (shares_ties i ss types) (led out (places.Number n) 0) (shares_ties i ss types) (led (map slid out) (places.Number n) 0)
    (shares_kept i ss types) (led_slid (places.Number n) (places.Number n) (number_goes n) out 0)
ties_slid types i j (Under t ss b n m) out =
    let k : ℕ = i + length ss in
    let l : ℕ = k + length (binder_part b t) in
    let new : List Point = map slid out in
    both (shares_ties i ss types) (binder_ties b t k n out ++ ties_of types l (suc j) m (binder_out b t k out))
    (shares_ties i ss types) (binder_ties b t k n new ++ ties_of types l (suc (suc j)) m (binder_out b t k new))
    (shares_kept i ss types)
    (both (binder_ties b t k n out) (ties_of types l (suc j) m (binder_out b t k out)) (binder_ties b t k n new)
    (ties_of types l (suc (suc j)) m (binder_out b t k new)) (binder_slid b t k n out)
    (ties_slid types l (suc j) m (binder_out b t k out) ∙ ap (ties_of types l (suc (suc j)) m) (binder_out_slid b t k out)))
ties_slid types i j (One t ss f m) out =
    let k : ℕ = i + length ss in
    let l : ℕ = k + length (one_part f t) in
    let u : Type' = type_of_node m in
    let new : List Point = map slid out in
    both (shares_ties i ss types) (one_ties f k out ++ ties_of types l (suc j) m (one_out f t u k j out))
    (shares_ties i ss types) (one_ties f k new ++ ties_of types l (suc (suc j)) m (one_out f t u k (suc j) new))
    (shares_kept i ss types)
    (both (one_ties f k out) (ties_of types l (suc j) m (one_out f t u k j out)) (one_ties f k new)
    (ties_of types l (suc (suc j)) m (one_out f t u k (suc j) new)) (one_slid f k out)
    (ties_slid types l (suc j) m (one_out f t u k j out) ∙ ap (ties_of types l (suc (suc j)) m) (one_out_slid f t u k j out)))
ties_slid types i j (Two t ss f m n) out =
    let k : ℕ = i + length ss in
    let l : ℕ = k + length (two_part f t (type_of_node n)) in
    let g : ℕ = l + length (parts_of types m) in
    let u : Type' = type_of_node m in
    let v : Type' = type_of_node n in
    let new : List Point = map slid out in
    let next : suc (suc j + nodes m) ≡ suc (suc j) + nodes m = omega arith in
    let left : List point_ties.Tie = ties_of types l (suc j) m (first_out f u v k j out) in
    let right : List point_ties.Tie = ties_of types g (suc j + nodes m) n (second_out f u v k j out) in
    let new_left : List point_ties.Tie = ties_of types l (suc (suc j)) m (first_out f u v k (suc j) new) in
    let new_right : List point_ties.Tie = ties_of types g (suc (suc j) + nodes m) n (second_out f u v k (suc j) new) in
    both (shares_ties i ss types) (two_ties f k out ++ (left ++ right)) (shares_ties i ss types) (two_ties f k new ++ (new_left ++ new_right))
    (shares_kept i ss types)
    (both (two_ties f k out) (left ++ right) (two_ties f k new) (new_left ++ new_right) (two_slid f k out)
    (both left right new_left new_right
    (ties_slid types l (suc j) m (first_out f u v k j out) ∙ ap (ties_of types l (suc (suc j)) m) (first_slid f u v k j out))
    (ties_slid types g (suc j + nodes m) n (second_out f u v k j out)
    ∙ (λ z. ties_of types g (next z) n (second_slid f u v k j out z)))))
ties_slid types i j (If t ss m n p) out =
    let k : ℕ = i + length ss in
    let P : Place = places.Part k in
    let l : ℕ = k + 1 in
    let g : ℕ = l + length (parts_of types m) in
    let next : suc (suc j + nodes m) ≡ suc (suc j) + nodes m = omega arith in
    let last : suc (suc j + nodes m + nodes n) ≡ suc (suc j) + nodes m + nodes n = omega arith in
    let test : List point_ties.Tie = ties_of types l (suc j) m (point P 0 ∷ []) in
    let left : List point_ties.Tie = ties_of types g (suc j + nodes m) n (point P 1 ∷ []) in
    let right : List point_ties.Tie = ties_of types (g + length (parts_of types n)) (suc j + nodes m + nodes n) p (point P 2 ∷ []) in
    let new_test : List point_ties.Tie = ties_of types l (suc (suc j)) m (point P 0 ∷ []) in
    let new_left : List point_ties.Tie = ties_of types g (suc (suc j) + nodes m) n (point P 1 ∷ []) in
    let new_right : List point_ties.Tie = ties_of types (g + length (parts_of types n)) (suc (suc j) + nodes m + nodes n) p (point P 2 ∷ []) in
    both (shares_ties i ss types) (led out P 3 ++ (test ++ (left ++ right)))
    (shares_ties i ss types) (led (map slid out) P 3 ++ (new_test ++ (new_left ++ new_right)))
    (shares_kept i ss types)
    (both (led out P 3) (test ++ (left ++ right)) (led (map slid out) P 3) (new_test ++ (new_left ++ new_right))
    (led_slid P P (part_goes k) out 3)
    (both test (left ++ right) new_test (new_left ++ new_right) (ties_slid types l (suc j) m (point P 0 ∷ []))
    (both left right new_left new_right
    (ties_slid types g (suc j + nodes m) n (point P 1 ∷ []) ∙ ap (λ (x : ℕ). ties_of types g x n (point P 1 ∷ [])) next)
    (ties_slid types (g + length (parts_of types n)) (suc j + nodes m + nodes n) p (point P 2 ∷ [])
    ∙ ap (λ (x : ℕ). ties_of types (g + length (parts_of types n)) x p (point P 2 ∷ [])) last))))

-- the dots of nodes, one number up and one down
abbrev up_within : Dot → Dot
up_within (Of e) = Of e
up_within (Number n h) = Number n h
up_within (Node n h) = Node (suc n) h
up_within (Within n d) = Within n d

abbrev one_down : ℕ → ℕ
one_down zero = zero
one_down (suc n) = n

abbrev down_within : Dot → Dot
down_within (Of e) = Of e
down_within (Number n h) = Number n h
down_within (Node n h) = Node (one_down n) h
down_within (Within n d) = Within n d

-- those of the term alone
abbrev up : Dot → Dot
up (Of e) = Of e
up (Number n h) = Number n h
up (Node n h) = Node n h
up (Within zero d) = Within zero (up_within d)
up (Within (suc n) d) = Within (suc n) d

abbrev down : Dot → Dot
down (Of e) = Of e
down (Number n h) = Number n h
down (Node n h) = Node n h
down (Within zero d) = Within zero (down_within d)
down (Within (suc n) d) = Within (suc n) d

down_up : (d : Dot) → down_within (up_within d) ≡ d
down_up (Of e) = refl
down_up (Number n h) = refl
down_up (Node n h) = refl
down_up (Within n d) = refl

slid_dot : (q : Place) (h : ℕ) → dot_of (slid_at q h) ≡ up_within (dot_of_place q h)
slid_dot (places.Part k) h = refl
slid_dot (places.Import k) h = refl
slid_dot places.Result h = refl
slid_dot (places.Number k) h = refl
slid_dot (places.Node k) h = refl

abbrev dot_tie : point_ties.Tie → Tie
dot_tie t = tie (dot_of t.one) (dot_of t.other)

-- the supplies' ties stay
module _
    (f : Dot → Dot) (supplied : (n : ℕ) (d : Dot) → f (Within (suc n) d) ≡ Within (suc n) d)
    (numbered : (n h : ℕ) → f (Within 0 (Number n h)) ≡ Within 0 (Number n h)) (types : Types) (env : Supplies) (ns : List ℕ) where
  abbrev Stays : Tie → Type 0
  Stays t = (f t.one ≡ t.one) × (f t.other ≡ t.other)

  stays : (t : Tie) → Contains (all_supply_ties types env ns) t → Stays t
  stays t has = of_some (of_supplies types env ns t has)
    where
      by_supply : (n : ℕ) → Contains (within (suc n) (own_web (env n).plan).ties) t ⊎ Contains (result_ties n 0 (count (types n))) t → Stays t
      by_supply n (inl h) =
          let (u, among, same) = of_image (inside (suc n)) (own_web (env n).plan).ties t h in
          subst Stays same (supplied n u.one, supplied n u.other)
      by_supply n (inr h) =
          let (g, low, high, same) = of_results n 0 (count (types n)) t h in subst Stays (sym same) (numbered n g, supplied n (Of (ResultEnd g)))

      of_some : OfSupplies types env ns t → Stays t
      of_some (n, number, among) =
          by_supply n (Contains-append_cases (within (suc n) (own_web (env n).plan).ties) (result_ties n 0 (count (types n))) t among)

module _ (types : Types) (i j : ℕ) (m : Numbered) (ns : List ℕ) (env : Supplies) (pl : Placing) (r : Plan) where
  abbrev out : List Point
  out = row places.Result 0 (count (type_of_node m))

  abbrev own : List point_ties.Tie
  own = ties_of types i j m out

  abbrev own_next : List point_ties.Tie
  own_next = ties_of types i (suc j) m out

  abbrev ties : List Tie
  ties = wired_ties types i j m ns env

  abbrev ties_next : List Tie
  ties_next = wired_ties types i (suc j) m ns env

  next_is : map slid_tie own ≡ own_next
  next_is = ties_slid types i j m out ∙ ap (ties_of types i (suc j) m) (row_slid places.Result places.Result result_goes 0 (count (type_of_node m)))

  own_up : (t : Tie) → Contains (within 0 (dot_ties own)) t → Way ties_next (up t.one) (up t.other)
  own_up t has =
      let (u, in_dots, same) = of_image (inside 0) (dot_ties own) t has in
      let (v, among, same_dots) = of_image dot_tie own u in_dots in
      let there : Contains own_next (slid_tie v) = subst (λ (vs : List point_ties.Tie). Contains vs (slid_tie v)) next_is (in_image slid_tie own v among) in
      let tied : Contains ties_next (inside 0 (dot_tie (slid_tie v))) =
      Contains-append_left (within 0 (dot_ties own_next)) (all_supply_ties types env ns) (inside 0 (dot_tie (slid_tie v)))
      (in_image (inside 0) (dot_ties own_next) (dot_tie (slid_tie v)) (in_image dot_tie own_next (slid_tie v) there))
      in
      let way : Way ties_next (Within 0 (dot_of (slid v.one))) (Within 0 (dot_of (slid v.other))) =
      one_way ties_next (Within 0 (dot_of (slid v.one))) (Within 0 (dot_of (slid v.other))) (inl tied)
      in
      let one = slid_dot v.one.place v.one.shake in
      let other = slid_dot v.other.place v.other.shake in
      let moved : Way ties_next (up (Within 0 (dot_of v.one))) (up (Within 0 (dot_of v.other))) =
      subst (λ (d : Dot). Way ties_next (Within 0 d) (Within 0 (up_within (dot_of v.other)))) one
      (subst (λ (d : Dot). Way ties_next (Within 0 (dot_of (slid v.one))) (Within 0 d)) other way)
      in
      subst (λ (x : Tie). Way ties_next (up x.one) (up x.other)) same
      (subst (λ (x : Tie). Way ties_next (up (Within 0 x.one)) (up (Within 0 x.other))) same_dots moved)

  own_down : (t : Tie) → Contains (within 0 (dot_ties own_next)) t → Way ties (down t.one) (down t.other)
  own_down t has =
      let (u, in_dots, same) = of_image (inside 0) (dot_ties own_next) t has in
      let (w, among, same_dots) = of_image dot_tie own_next u in_dots in
      let (v, in_own, same_tie) = of_image slid_tie own w (subst (λ (vs : List point_ties.Tie). Contains vs w) (sym next_is) among) in
      let tied : Contains ties (inside 0 (dot_tie v)) =
      Contains-append_left (within 0 (dot_ties own)) (all_supply_ties types env ns) (inside 0 (dot_tie v))
      (in_image (inside 0) (dot_ties own) (dot_tie v) (in_image dot_tie own v in_own))
      in
      let way : Way ties (Within 0 (dot_of v.one)) (Within 0 (dot_of v.other)) =
      one_way ties (Within 0 (dot_of v.one)) (Within 0 (dot_of v.other)) (inl tied)
      in
      let one : dot_of v.one ≡ down_within (dot_of (slid v.one)) = sym (ap down_within (slid_dot v.one.place v.one.shake) ∙ down_up (dot_of v.one)) in
      let other : dot_of v.other ≡ down_within (dot_of (slid v.other)) =
      sym (ap down_within (slid_dot v.other.place v.other.shake) ∙ down_up (dot_of v.other))
      in
      let moved : Way ties (down (Within 0 (dot_of (slid v.one)))) (down (Within 0 (dot_of (slid v.other)))) =
      subst (λ (d : Dot). Way ties (Within 0 d) (Within 0 (down_within (dot_of (slid v.other))))) one
      (subst (λ (d : Dot). Way ties (Within 0 (dot_of v.one)) (Within 0 d)) other way)
      in
      subst (λ (x : Tie). Way ties (down x.one) (down x.other)) same
      (subst (λ (x : Tie). Way ties (down (Within 0 x.one)) (down (Within 0 x.other))) same_dots
      (subst (λ (x : point_ties.Tie). Way ties (down (Within 0 (dot_of x.one))) (down (Within 0 (dot_of x.other)))) same_tie moved))

  supply_up : (t : Tie) → Contains (all_supply_ties types env ns) t → Way ties_next (up t.one) (up t.other)
  supply_up t has =
      let (one, other) = stays up (λ n d. refl) (λ n h. refl) types env ns t has in
      let tied = Contains-append_right (within 0 (dot_ties own_next)) (all_supply_ties types env ns) t has in
      subst (λ (d : Dot). Way ties_next d (up t.other)) (sym one)
      (subst (λ (d : Dot). Way ties_next t.one d) (sym other) (one_way ties_next t.one t.other (inl tied)))

  supply_down : (t : Tie) → Contains (all_supply_ties types env ns) t → Way ties (down t.one) (down t.other)
  supply_down t has =
      let (one, other) = stays down (λ n d. refl) (λ n h. refl) types env ns t has in
      let tied = Contains-append_right (within 0 (dot_ties own)) (all_supply_ties types env ns) t has in
      subst (λ (d : Dot). Way ties d (down t.other)) (sym one)
      (subst (λ (d : Dot). Way ties t.one d) (sym other) (one_way ties t.one t.other (inl tied)))

  tie_up : (t : Tie) → Contains ties t → Way ties_next (up t.one) (up t.other)
  tie_up t has = by_part (Contains-append_cases (within 0 (dot_ties own)) (all_supply_ties types env ns) t has)
    where
      by_part : Contains (within 0 (dot_ties own)) t ⊎ Contains (all_supply_ties types env ns) t → Way ties_next (up t.one) (up t.other)
      by_part (inl h) = own_up t h
      by_part (inr h) = supply_up t h

  tie_down : (t : Tie) → Contains ties_next t → Way ties (down t.one) (down t.other)
  tie_down t has = by_part (Contains-append_cases (within 0 (dot_ties own_next)) (all_supply_ties types env ns) t has)
    where
      by_part : Contains (within 0 (dot_ties own_next)) t ⊎ Contains (all_supply_ties types env ns) t → Way ties (down t.one) (down t.other)
      by_part (inl h) = own_down t h
      by_part (inr h) = supply_down t h

  -- ends are no points of nodes
  end_up : (e : End) → up (dot_at i pl e) ≡ dot_at i pl e
  end_up (PartEnd k h) = by_source (pl.source k)
    where
      by_source : (s : Source) → up (source_dot i s h) ≡ source_dot i s h
      by_source (Own n) = refl
      by_source (Supplied n o) = refl
  end_up (ImportEnd k h) = refl
  end_up (ResultEnd h) = refl

  end_down : (e : End) → down (dot_at i pl e) ≡ dot_at i pl e
  end_down (PartEnd k h) = by_source (pl.source k)
    where
      by_source : (s : Source) → down (source_dot i s h) ≡ source_dot i s h
      by_source (Own n) = refl
      by_source (Supplied n o) = refl
  end_down (ImportEnd k h) = refl
  end_down (ResultEnd h) = refl

  same : SameWays (wired_web types i (suc j) m ns env pl) (wired_web types i j m ns env pl) r
  same a b c d at_a at_b = (
    λ way.
        subst (λ (x : Dot). Way ties x (dot_at i pl b)) (end_down a)
        (subst (λ (x : Dot). Way ties (down (dot_at i pl a)) x) (end_down b)
        (mapped_way ties_next ties down tie_down (dot_at i pl a) (dot_at i pl b) way)),
    λ way.
        subst (λ (x : Dot). Way ties_next x (dot_at i pl b)) (end_up a)
        (subst (λ (x : Dot). Way ties_next (up (dot_at i pl a)) x) (end_up b)
        (mapped_way ties ties_next up tie_up (dot_at i pl a) (dot_at i pl b) way)),
  )

  pub lowered : IsWired types i (suc j) m ns env pl r → IsWired types i j m ns env pl r
  lowered is =
      record {
        outcome = is.outcome;
        parts = is.parts;
        no_more = is.no_more;
        imports = is.imports;
        no_import = is.no_import;
        web = same_ways (wired_web types i (suc j) m ns env pl) (wired_web types i j m ns env pl) r same is.web;
      }
