-- The ties of a node whose handshakes lead elsewhere: the same, with where they lead in the place of the result's.
use Rattle.std.specs.Prelude.{◌≡◌, ℕ, zero, suc, ◌+◌, ◌-◌, List, [], ◌∷◌, ◌++◌, length, map, take, drop}
use Rattle.std.proofs.Common.{refl, ◌∙◌, ap}
use Rattle.gos_types.specs.Types.{Type'}
use Rattle.gos_check.specs.declared.linear.Split.{Split}
use Rattle.gos_check.specs.Nodes.{Numbered, Closed, Use, Under, One, Two, If, Binding, OfFun, OfNew, OfArray, OneForm, OfFst, OfSnd, OfDeref, OfNot, TwoForm, OfApp, OfBoth, OfSeq, OfPar, OfWhile, OfAssign, OfBin, argument_of, type_of_node}
use Rattle.gos_ties.specs.declared.points.Place.{Place}
use Rattle.gos_ties.specs.declared.points.Place.TheVariants as places
use Rattle.gos_ties.specs.declared.points.Point.{Point}
use Rattle.gos_ties.specs.declared.points.Tie.{Tie}
use Rattle.gos_ties.specs.Ties.{point, tie}
use Rattle.gos_realises.specs.realises.Regular.{count}
use Rattle.gos_compile.specs.Wiring.{Types, row, led, share_ties, shares_ties, binder_part, one_part, two_part, parts_of, nodes, one_out, first_out, second_out, one_ties, two_ties, binder_ties, binder_out, ties_of}

-- a point, where the result's handshakes are these points
abbrev pub renamed_at : (ℕ → Point) → Place → ℕ → Point
renamed_at to (places.Part k) h = point (places.Part k) h
renamed_at to (places.Import k) h = point (places.Import k) h
renamed_at to places.Result h = to h
renamed_at to (places.Number k) h = point (places.Number k) h
renamed_at to (places.Node k) h = point (places.Node k) h

abbrev pub renamed : (ℕ → Point) → Point → Point
renamed to q = renamed_at to q.place q.shake

abbrev pub renamed_tie : (ℕ → Point) → Tie → Tie
renamed_tie to t = tie (renamed to t.one) (renamed to t.other)

pub map_two : {A B : Type 0} (f : A → B) (xs ys : List A) → map f (xs ++ ys) ≡ map f xs ++ map f ys
map_two f [] ys = refl
map_two f (x ∷ xs) ys = ap (λ zs. f x ∷ zs) (map_two f xs ys)

pub map_take : (f : Point → Point) (n : ℕ) (ps : List Point) → map f (take n ps) ≡ take n (map f ps)
map_take f zero [] = refl
map_take f zero (p ∷ ps) = refl
map_take f (suc n) [] = refl
map_take f (suc n) (p ∷ ps) = ap (λ (zs : List Point). f p ∷ zs) (map_take f n ps)

pub map_drop : (f : Point → Point) (n : ℕ) (ps : List Point) → map f (drop n ps) ≡ drop n (map f ps)
map_drop f zero [] = refl
map_drop f zero (p ∷ ps) = refl
map_drop f (suc n) [] = refl
map_drop f (suc n) (p ∷ ps) = map_drop f n ps

module _
    (to : ℕ → Point) where
  -- a place that keeps its points
  abbrev Kept : Place → Type 0
  Kept q = (h : ℕ) → renamed_at to q h ≡ point q h

  part_kept : (k : ℕ) → Kept (places.Part k)
  part_kept k h = refl

  number_kept : (k : ℕ) → Kept (places.Number k)
  number_kept k h = refl

  node_kept : (k : ℕ) → Kept (places.Node k)
  node_kept k h = refl

  row_kept : (q : Place) → Kept q → (h n : ℕ) → map (renamed to) (row q h n) ≡ row q h n
  row_kept q kept h zero = refl
  row_kept q kept h (suc n) = let first = kept h in let rest = row_kept q kept (suc h) n in λ i. first i ∷ rest i

  led_renamed : (q : Place) → Kept q → (ps : List Point) (h : ℕ) → map (renamed_tie to) (led ps q h) ≡ led (map (renamed to) ps) q h
  led_renamed q kept [] h = refl
  led_renamed q kept (p ∷ ps) h =
      let first = kept h in let rest = led_renamed q kept ps (suc h) in λ i. tie (renamed to p) (first i) ∷ rest i

  led_kept : (q w : Place) → Kept q → Kept w → (h n g : ℕ) → map (renamed_tie to) (led (row q h n) w g) ≡ led (row q h n) w g
  led_kept q w kept also h n g =
      led_renamed w also (row q h n) g ∙ ap (λ (ps : List Point). led ps w g) (row_kept q kept h n)

  both : (xs ys us vs : List Tie) → map (renamed_tie to) xs ≡ us → map (renamed_tie to) ys ≡ vs → map (renamed_tie to) (xs ++ ys) ≡ us ++ vs
  both xs ys us vs first second = map_two (renamed_tie to) xs ys ∙ (λ i. first i ++ second i)

  both_points : (xs ys us vs : List Point) → map (renamed to) xs ≡ us → map (renamed to) ys ≡ vs → map (renamed to) (xs ++ ys) ≡ us ++ vs
  both_points xs ys us vs first second = map_two (renamed to) xs ys ∙ (λ i. first i ++ second i)

  share_kept : (i n : ℕ) (s : Split) → map (renamed_tie to) (share_ties i n s) ≡ share_ties i n s
  share_kept i n s =
      let of : List Tie = led (row (places.Number s.of) 0 n) (places.Part i) 0 in
      let left : List Tie = led (row (places.Number s.left) 0 n) (places.Part i) n in
      let right : List Tie = led (row (places.Number s.right) 0 n) (places.Part i) (n + n) in
      both of (left ++ right) of (left ++ right)
      (led_kept (places.Number s.of) (places.Part i) (number_kept s.of) (part_kept i) 0 n 0)
      (both left right left right
      (led_kept (places.Number s.left) (places.Part i) (number_kept s.left) (part_kept i) 0 n n)
      (led_kept (places.Number s.right) (places.Part i) (number_kept s.right) (part_kept i) 0 n (n + n)))

  shares_kept : (i : ℕ) (ss : List Split) (types : Types) → map (renamed_tie to) (shares_ties i ss types) ≡ shares_ties i ss types
  shares_kept i [] types = refl
  shares_kept i (s ∷ ss) types =
      let first : List Tie = share_ties i (count (types s.of)) s in
      let rest : List Tie = shares_ties (suc i) ss types in
      both first rest first rest (share_kept i (count (types s.of)) s) (shares_kept (suc i) ss types)

  binder_kept : (b : Binding) (t : Type') (i n : ℕ) (out : List Point)
      → map (renamed_tie to) (binder_ties b t i n out) ≡ binder_ties b t i n (map (renamed to) out)
  binder_kept OfFun t i n out =
      led_renamed (places.Number n) (number_kept n) (take (count (argument_of t)) out) 0
      ∙ ap (λ (ps : List Point). led ps (places.Number n) 0) (map_take (renamed to) (count (argument_of t)) out)
  binder_kept (OfNew w) t i n out =
      let own : List Tie = led (row (places.Number n) 0 2) (places.Part i) 1 in
      both (led out (places.Part i) 3) own (led (map (renamed to) out) (places.Part i) 3) own
      (led_renamed (places.Part i) (part_kept i) out 3) (led_kept (places.Number n) (places.Part i) (number_kept n) (part_kept i) 0 2 1)
  binder_kept (OfArray k w) t i n out =
      let own : List Tie = led (row (places.Number n) 0 3) (places.Part i) 1 in
      both (led out (places.Part i) 4) own (led (map (renamed to) out) (places.Part i) 4) own
      (led_renamed (places.Part i) (part_kept i) out 4) (led_kept (places.Number n) (places.Part i) (number_kept n) (part_kept i) 0 3 1)

  binder_out_kept : (b : Binding) (t : Type') (i : ℕ) (out : List Point) → map (renamed to) (binder_out b t i out) ≡ binder_out b t i (map (renamed to) out)
  binder_out_kept OfFun t i out = map_drop (renamed to) (count (argument_of t)) out
  binder_out_kept (OfNew w) t i out = refl
  binder_out_kept (OfArray k w) t i out = refl

  one_kept : (f : OneForm) (i : ℕ) (out : List Point) → map (renamed_tie to) (one_ties f i out) ≡ one_ties f i (map (renamed to) out)
  one_kept OfFst i out = refl
  one_kept OfSnd i out = refl
  one_kept OfDeref i out = led_renamed (places.Part i) (part_kept i) out 1
  one_kept OfNot i out = led_renamed (places.Part i) (part_kept i) out 1

  one_out_kept : (f : OneForm) (t u : Type') (i j : ℕ) (out : List Point) → map (renamed to) (one_out f t u i j out) ≡ one_out f t u i j (map (renamed to) out)
  one_out_kept OfFst t u i j out =
      let own : List Point = row (places.Node j) 0 (count u - count t) in
      both_points out own (map (renamed to) out) own refl (row_kept (places.Node j) (node_kept j) 0 (count u - count t))
  one_out_kept OfSnd t u i j out =
      let own : List Point = row (places.Node j) 0 (count u - count t) in
      both_points own out own (map (renamed to) out) (row_kept (places.Node j) (node_kept j) 0 (count u - count t)) refl
  one_out_kept OfDeref t u i j out = refl
  one_out_kept OfNot t u i j out = refl

  two_kept : (f : TwoForm) (i : ℕ) (out : List Point) → map (renamed_tie to) (two_ties f i out) ≡ two_ties f i (map (renamed to) out)
  two_kept OfApp i out = refl
  two_kept OfBoth i out = refl
  two_kept OfSeq i out = led_renamed (places.Part i) (part_kept i) out 2
  two_kept OfPar i out = led_renamed (places.Part i) (part_kept i) out 2
  two_kept OfWhile i out = led_renamed (places.Part i) (part_kept i) out 2
  two_kept OfAssign i out = led_renamed (places.Part i) (part_kept i) out 2
  two_kept (OfBin op) i out = led_renamed (places.Part i) (part_kept i) out 2

  first_kept : (f : TwoForm) (u v : Type') (i j : ℕ) (out : List Point) → map (renamed to) (first_out f u v i j out) ≡ first_out f u v i j (map (renamed to) out)
  first_kept OfApp u v i j out =
      let own : List Point = row (places.Node j) 0 (count v) in
      both_points own out own (map (renamed to) out) (row_kept (places.Node j) (node_kept j) 0 (count v)) refl
  first_kept OfBoth u v i j out = map_take (renamed to) (count u) out
  first_kept OfSeq u v i j out = refl
  first_kept OfPar u v i j out = refl
  first_kept OfWhile u v i j out = refl
  first_kept OfAssign u v i j out = refl
  first_kept (OfBin op) u v i j out = refl

  second_kept : (f : TwoForm) (u v : Type') (i j : ℕ) (out : List Point) → map (renamed to) (second_out f u v i j out) ≡ second_out f u v i j (map (renamed to) out)
  second_kept OfApp u v i j out = row_kept (places.Node j) (node_kept j) 0 (count v)
  second_kept OfBoth u v i j out = map_drop (renamed to) (count u) out
  second_kept OfSeq u v i j out = refl
  second_kept OfPar u v i j out = refl
  second_kept OfWhile u v i j out = refl
  second_kept OfAssign u v i j out = refl
  second_kept (OfBin op) u v i j out = refl

  pub ties_renamed : (types : Types) (i j : ℕ) (m : Numbered) (out : List Point)
      → map (renamed_tie to) (ties_of types i j m out) ≡ ties_of types i j m (map (renamed to) out)
  ties_renamed types i j (Closed t ss c) out =
      let P : Place = places.Part (i + length ss) in
      both (shares_ties i ss types) (led out P 0) (shares_ties i ss types) (led (map (renamed to) out) P 0)
      (shares_kept i ss types) (led_renamed P (part_kept (i + length ss)) out 0)
  ties_renamed types i j (Use t ss n) out =
      both (shares_ties i ss types) (led out (places.Number n) 0) (shares_ties i ss types) (led (map (renamed to) out) (places.Number n) 0)
      (shares_kept i ss types) (led_renamed (places.Number n) (number_kept n) out 0)
  ties_renamed types i j (Under t ss b n m) out =
      let k : ℕ = i + length ss in
      let l : ℕ = k + length (binder_part b t) in
      let new : List Point = map (renamed to) out in
      both (shares_ties i ss types) (binder_ties b t k n out ++ ties_of types l (suc j) m (binder_out b t k out))
      (shares_ties i ss types) (binder_ties b t k n new ++ ties_of types l (suc j) m (binder_out b t k new))
      (shares_kept i ss types)
      (both (binder_ties b t k n out) (ties_of types l (suc j) m (binder_out b t k out)) (binder_ties b t k n new)
      (ties_of types l (suc j) m (binder_out b t k new)) (binder_kept b t k n out)
      (ties_renamed types l (suc j) m (binder_out b t k out) ∙ ap (ties_of types l (suc j) m) (binder_out_kept b t k out)))
  ties_renamed types i j (One t ss f m) out =
      let k : ℕ = i + length ss in
      let l : ℕ = k + length (one_part f t) in
      let u : Type' = type_of_node m in
      let new : List Point = map (renamed to) out in
      both (shares_ties i ss types) (one_ties f k out ++ ties_of types l (suc j) m (one_out f t u k j out))
      (shares_ties i ss types) (one_ties f k new ++ ties_of types l (suc j) m (one_out f t u k j new))
      (shares_kept i ss types)
      (both (one_ties f k out) (ties_of types l (suc j) m (one_out f t u k j out)) (one_ties f k new)
      (ties_of types l (suc j) m (one_out f t u k j new)) (one_kept f k out)
      (ties_renamed types l (suc j) m (one_out f t u k j out) ∙ ap (ties_of types l (suc j) m) (one_out_kept f t u k j out)))
  ties_renamed types i j (Two t ss f m n) out =
      let k : ℕ = i + length ss in
      let l : ℕ = k + length (two_part f t (type_of_node n)) in
      let g : ℕ = l + length (parts_of types m) in
      let u : Type' = type_of_node m in
      let v : Type' = type_of_node n in
      let new : List Point = map (renamed to) out in
      let left : List Tie = ties_of types l (suc j) m (first_out f u v k j out) in
      let right : List Tie = ties_of types g (suc j + nodes m) n (second_out f u v k j out) in
      let new_left : List Tie = ties_of types l (suc j) m (first_out f u v k j new) in
      let new_right : List Tie = ties_of types g (suc j + nodes m) n (second_out f u v k j new) in
      both (shares_ties i ss types) (two_ties f k out ++ (left ++ right)) (shares_ties i ss types) (two_ties f k new ++ (new_left ++ new_right))
      (shares_kept i ss types)
      (both (two_ties f k out) (left ++ right) (two_ties f k new) (new_left ++ new_right) (two_kept f k out)
      (both left right new_left new_right
      (ties_renamed types l (suc j) m (first_out f u v k j out) ∙ ap (ties_of types l (suc j) m) (first_kept f u v k j out))
      (ties_renamed types g (suc j + nodes m) n (second_out f u v k j out)
      ∙ ap (ties_of types g (suc j + nodes m) n) (second_kept f u v k j out))))
  ties_renamed types i j (If t ss m n p) out =
      let k : ℕ = i + length ss in
      let P : Place = places.Part k in
      let l : ℕ = k + 1 in
      let g : ℕ = l + length (parts_of types m) in
      let test : List Tie = ties_of types l (suc j) m (point P 0 ∷ []) in
      let left : List Tie = ties_of types g (suc j + nodes m) n (point P 1 ∷ []) in
      let right : List Tie = ties_of types (g + length (parts_of types n)) (suc j + nodes m + nodes n) p (point P 2 ∷ []) in
      both (shares_ties i ss types) (led out P 3 ++ (test ++ (left ++ right)))
      (shares_ties i ss types) (led (map (renamed to) out) P 3 ++ (test ++ (left ++ right)))
      (shares_kept i ss types)
      (both (led out P 3) (test ++ (left ++ right)) (led (map (renamed to) out) P 3) (test ++ (left ++ right))
      (led_renamed P (part_kept k) out 3)
      (both test (left ++ right) test (left ++ right) (ties_renamed types l (suc j) m (point P 0 ∷ []))
      (both left right left right (ties_renamed types g (suc j + nodes m) n (point P 1 ∷ []))
      (ties_renamed types (g + length (parts_of types n)) (suc j + nodes m + nodes n) p (point P 2 ∷ [])))))
