-- The ties of a term follow where its handshakes lead.
use Rattle.std.specs.Prelude.{◌+◌, ◌-◌, length, map, take, drop, slice_get}
use Rattle.std.proofs.Common.{◌≡◌, ℕ, zero, suc, List, [], ◌∷◌, ◌++◌, Option, refl, sym, ◌∙◌, ap, arith}
use Rattle.gos_types.specs.Types.{Type'}
use Rattle.gos_check.specs.declared.linear.Split.{Split}
use Rattle.gos_check.specs.Nodes.{Numbered, Closed, Use, Under, One, Two, If, Binding, OfFun, OfNew, OfArray, OneForm, OfFst, OfSnd, OfDeref, OfNot, TwoForm, OfApp, OfBoth, OfSeq, OfPar, OfWhile, OfAssign, OfBin, argument_of}
use Rattle.gos_realises.specs.realises.Regular.{count}
use Rattle.gos_ties.specs.declared.points.Place.{Place}
use Rattle.gos_ties.specs.declared.points.Place.TheVariants as places
use Rattle.gos_ties.specs.declared.points.Point.{Point}
use Rattle.gos_ties.specs.declared.points.Tie.{Tie}
use Rattle.gos_ties.specs.Ties.{point, tie}
use Rattle.gos_joining.specs.webs.Webs as webs
use Rattle.gos_compile.specs.Wiring.{Types, row, led, share_ties, shares_ties, ties_of, parts_of, type_of_node, nodes, binder_part, binder_ties, binder_out, one_part, one_ties, one_out, two_part, two_ties, first_out, second_out}
use Rattle.gos_terms.specs.wired.Wired.{dot_of_place, dot_of, dot_ties}
use Rattle.gos_terms.specs.stages.Leading.{led_by, LeavesInner, TiesFollow, or_point, at_place, leading, dot_leading, ResultLeads, DotsLead}

points_append : (f : Point → Point) (ps qs : List Point) → map f (ps ++ qs) ≡ map f ps ++ map f qs
points_append f [] qs = refl
points_append f (p ∷ ps) qs = ap (λ (rs : List Point). f p ∷ rs) (points_append f ps qs)

points_taken : (f : Point → Point) (n : ℕ) (ps : List Point) → take n (map f ps) ≡ map f (take n ps)
points_taken f zero [] = refl
points_taken f zero (p ∷ ps) = refl
points_taken f (suc n) [] = refl
points_taken f (suc n) (p ∷ ps) = ap (λ (rs : List Point). f p ∷ rs) (points_taken f n ps)

points_dropped : (f : Point → Point) (n : ℕ) (ps : List Point) → drop n (map f ps) ≡ map f (drop n ps)
points_dropped f zero [] = refl
points_dropped f zero (p ∷ ps) = refl
points_dropped f (suc n) [] = refl
points_dropped f (suc n) (p ∷ ps) = points_dropped f n ps

module _ (f : Point → Point) (leaves : LeavesInner f) where
  led_append : (ts us : List Tie) → led_by f (ts ++ us) ≡ led_by f ts ++ led_by f us
  led_append [] us = refl
  led_append (t ∷ ts) us = ap (λ (rs : List Tie). tie (f t.one) (f t.other) ∷ rs) (led_append ts us)

  two : (ts us vs ws : List Tie) → vs ≡ led_by f ts → ws ≡ led_by f us → vs ++ ws ≡ led_by f (ts ++ us)
  two ts us vs ws e d = (λ n. e n ++ d n) ∙ sym (led_append ts us)

  -- rows
  abbrev Stays : Place → Type 0
  Stays place = (h : ℕ) → f (point place h) ≡ point place h

  row_stays : (place : Place) → Stays place → (h n : ℕ) → row place h n ≡ map f (row place h n)
  row_stays place stays h zero = refl
  row_stays place stays h (suc n) = λ i. sym (stays h) i ∷ row_stays place stays (suc h) n i

  led_follows : (place : Place) → Stays place → (ps : List Point) (h : ℕ) → led (map f ps) place h ≡ led_by f (led ps place h)
  led_follows place stays [] h = refl
  led_follows place stays (p ∷ ps) h = λ i. tie (f p) (sym (stays h) i) ∷ led_follows place stays ps (suc h) i

  numbers_stay : (n i h m : ℕ) → led (row (places.Number n) 0 m) (places.Part i) h ≡ led_by f (led (row (places.Number n) 0 m) (places.Part i) h)
  numbers_stay n i h m =
      ap (λ (ps : List Point). led ps (places.Part i) h) (row_stays (places.Number n) (leaves.number n) 0 m)
      ∙ led_follows (places.Part i) (leaves.part i) (row (places.Number n) 0 m) h

  share_stays : (i n : ℕ) (s : Split) → share_ties i n s ≡ led_by f (share_ties i n s)
  share_stays i n s =
      let source : List Tie = led (row (places.Number s.of) 0 n) (places.Part i) 0 in
      let left : List Tie = led (row (places.Number s.left) 0 n) (places.Part i) n in
      let right : List Tie = led (row (places.Number s.right) 0 n) (places.Part i) (n + n) in
      two source (left ++ right) source (left ++ right) (numbers_stay s.of i 0 n)
      (two left right left right (numbers_stay s.left i n n) (numbers_stay s.right i (n + n) n))

  shares_stay : (types : Types) (i : ℕ) (ss : List Split) → shares_ties i ss types ≡ led_by f (shares_ties i ss types)
  shares_stay types i [] = refl
  shares_stay types i (s ∷ ss) =
      let here : List Tie = share_ties i (count (types s.of)) s in
      let rest : List Tie = shares_ties (suc i) ss types in
      two here rest here rest (share_stays i (count (types s.of)) s) (shares_stay types (suc i) ss)

  -- a node's own part
  one_point : (k h : ℕ) → point (places.Part k) h ∷ [] ≡ map f (point (places.Part k) h ∷ [])
  one_point k h = λ i. sym (leaves.part k h) i ∷ []

  binder_led : (b : Binding) (t : Type') (i n : ℕ) (out : List Point) → binder_ties b t i n (map f out) ≡ led_by f (binder_ties b t i n out)
  binder_led OfFun t i n out =
      ap (λ (ps : List Point). led ps (places.Number n) 0) (points_taken f (count (argument_of t)) out)
      ∙ led_follows (places.Number n) (leaves.number n) (take (count (argument_of t)) out) 0
  binder_led (OfNew w) t i n out =
      let served : List Tie = led out (places.Part i) 3 in
      let bound : List Tie = led (row (places.Number n) 0 2) (places.Part i) 1 in
      two served bound (led (map f out) (places.Part i) 3) bound (led_follows (places.Part i) (leaves.part i) out 3) (numbers_stay n i 1 2)
  binder_led (OfArray k w) t i n out =
      let served : List Tie = led out (places.Part i) 4 in
      let bound : List Tie = led (row (places.Number n) 0 3) (places.Part i) 1 in
      two served bound (led (map f out) (places.Part i) 4) bound (led_follows (places.Part i) (leaves.part i) out 4) (numbers_stay n i 1 3)

  binder_onward : (b : Binding) (t : Type') (i : ℕ) (out : List Point) → binder_out b t i (map f out) ≡ map f (binder_out b t i out)
  binder_onward OfFun t i out = points_dropped f (count (argument_of t)) out
  binder_onward (OfNew w) t i out = one_point i 0
  binder_onward (OfArray k w) t i out = one_point i 0

  one_led : (form : OneForm) (i : ℕ) (out : List Point) → one_ties form i (map f out) ≡ led_by f (one_ties form i out)
  one_led OfFst i out = refl
  one_led OfSnd i out = refl
  one_led OfDeref i out = led_follows (places.Part i) (leaves.part i) out 1
  one_led OfNot i out = led_follows (places.Part i) (leaves.part i) out 1

  nodes_stay : (j n : ℕ) → row (places.Node j) 0 n ≡ map f (row (places.Node j) 0 n)
  nodes_stay j n = row_stays (places.Node j) (leaves.node j) 0 n

  one_onward : (form : OneForm) (t u : Type') (i j : ℕ) (out : List Point) → one_out form t u i j (map f out) ≡ map f (one_out form t u i j out)
  one_onward OfFst t u i j out =
      ap (λ (ps : List Point). map f out ++ ps) (nodes_stay j (count u - count t)) ∙ sym (points_append f out (row (places.Node j) 0 (count u - count t)))
  one_onward OfSnd t u i j out =
      ap (λ (ps : List Point). ps ++ map f out) (nodes_stay j (count u - count t)) ∙ sym (points_append f (row (places.Node j) 0 (count u - count t)) out)
  one_onward OfDeref t u i j out = λ n. sym (leaves.part i 0) n ∷ sym (leaves.node j 0) n ∷ []
  one_onward OfNot t u i j out = one_point i 0

  two_led : (form : TwoForm) (i : ℕ) (out : List Point) → two_ties form i (map f out) ≡ led_by f (two_ties form i out)
  two_led OfApp i out = refl
  two_led OfBoth i out = refl
  two_led OfSeq i out = led_follows (places.Part i) (leaves.part i) out 2
  two_led OfPar i out = led_follows (places.Part i) (leaves.part i) out 2
  two_led OfWhile i out = led_follows (places.Part i) (leaves.part i) out 2
  two_led OfAssign i out = led_follows (places.Part i) (leaves.part i) out 2
  two_led (OfBin op) i out = led_follows (places.Part i) (leaves.part i) out 2

  first_onward : (form : TwoForm) (u v : Type') (i j : ℕ) (out : List Point) → first_out form u v i j (map f out) ≡ map f (first_out form u v i j out)
  first_onward OfApp u v i j out =
      ap (λ (ps : List Point). ps ++ map f out) (nodes_stay j (count v)) ∙ sym (points_append f (row (places.Node j) 0 (count v)) out)
  first_onward OfBoth u v i j out = points_taken f (count u) out
  first_onward OfSeq u v i j out = one_point i 0
  first_onward OfPar u v i j out = one_point i 0
  first_onward OfWhile u v i j out = one_point i 0
  first_onward OfAssign u v i j out = λ n. sym (leaves.node j 0) n ∷ sym (leaves.part i 1) n ∷ []
  first_onward (OfBin op) u v i j out = one_point i 0

  second_onward : (form : TwoForm) (u v : Type') (i j : ℕ) (out : List Point) → second_out form u v i j (map f out) ≡ map f (second_out form u v i j out)
  second_onward OfApp u v i j out = nodes_stay j (count v)
  second_onward OfBoth u v i j out = points_dropped f (count u) out
  second_onward OfSeq u v i j out = one_point i 1
  second_onward OfPar u v i j out = one_point i 1
  second_onward OfWhile u v i j out = one_point i 1
  second_onward OfAssign u v i j out = one_point i 0
  second_onward (OfBin op) u v i j out = one_point i 1

  -- the ties of a term
  follows : (types : Types) (i j : ℕ) (m : Numbered) (out : List Point) → ties_of types i j m (map f out) ≡ led_by f (ties_of types i j m out)
  follows types i j (Closed t ss c) out =
      let of_shares : List Tie = shares_ties i ss types in
      two of_shares (led out (places.Part (i + length ss)) 0) of_shares (led (map f out) (places.Part (i + length ss)) 0)
      (shares_stay types i ss) (led_follows (places.Part (i + length ss)) (leaves.part (i + length ss)) out 0)
  follows types i j (Use t ss n) out =
      let of_shares : List Tie = shares_ties i ss types in
      two of_shares (led out (places.Number n) 0) of_shares (led (map f out) (places.Number n) 0)
      (shares_stay types i ss) (led_follows (places.Number n) (leaves.number n) out 0)
  follows types i j (Under t ss b n m) out =
      let of_shares : List Tie = shares_ties i ss types in
      let own : ℕ = i + length ss in
      let k : ℕ = own + length (binder_part b t) in
      let out' : List Point = binder_out b t own out in
      let there : List Point = binder_out b t own (map f out) in
      two of_shares (binder_ties b t own n out ++ ties_of types k (suc j) m out')
      of_shares (binder_ties b t own n (map f out) ++ ties_of types k (suc j) m there) (shares_stay types i ss)
      (two (binder_ties b t own n out) (ties_of types k (suc j) m out') (binder_ties b t own n (map f out)) (ties_of types k (suc j) m there)
      (binder_led b t own n out)
      (ap (λ (ps : List Point). ties_of types k (suc j) m ps) (binder_onward b t own out) ∙ follows types k (suc j) m out'))
  follows types i j (One t ss form m) out =
      let of_shares : List Tie = shares_ties i ss types in
      let own : ℕ = i + length ss in
      let k : ℕ = own + length (one_part form t) in
      let out' : List Point = one_out form t (type_of_node m) own j out in
      let there : List Point = one_out form t (type_of_node m) own j (map f out) in
      two of_shares (one_ties form own out ++ ties_of types k (suc j) m out')
      of_shares (one_ties form own (map f out) ++ ties_of types k (suc j) m there) (shares_stay types i ss)
      (two (one_ties form own out) (ties_of types k (suc j) m out') (one_ties form own (map f out)) (ties_of types k (suc j) m there)
      (one_led form own out)
      (ap (λ (ps : List Point). ties_of types k (suc j) m ps) (one_onward form t (type_of_node m) own j out) ∙ follows types k (suc j) m out'))
  follows types i j (Two t ss form m n) out =
      let of_shares : List Tie = shares_ties i ss types in
      let own : ℕ = i + length ss in
      let k : ℕ = own + length (two_part form t (type_of_node n)) in
      let l : ℕ = k + length (parts_of types m) in
      let first : List Point = first_out form (type_of_node m) (type_of_node n) own j out in
      let first' : List Point = first_out form (type_of_node m) (type_of_node n) own j (map f out) in
      let second : List Point = second_out form (type_of_node m) (type_of_node n) own j out in
      let second' : List Point = second_out form (type_of_node m) (type_of_node n) own j (map f out) in
      let left : List Tie = ties_of types k (suc j) m first in
      let left' : List Tie = ties_of types k (suc j) m first' in
      let right : List Tie = ties_of types l (suc j + nodes m) n second in
      let right' : List Tie = ties_of types l (suc j + nodes m) n second' in
      two of_shares (two_ties form own out ++ (left ++ right)) of_shares (two_ties form own (map f out) ++ (left' ++ right')) (shares_stay types i ss)
      (two (two_ties form own out) (left ++ right) (two_ties form own (map f out)) (left' ++ right') (two_led form own out)
      (two left right left' right'
      (ap (λ (ps : List Point). ties_of types k (suc j) m ps) (first_onward form (type_of_node m) (type_of_node n) own j out)
      ∙ follows types k (suc j) m first)
      (ap (λ (ps : List Point). ties_of types l (suc j + nodes m) n ps) (second_onward form (type_of_node m) (type_of_node n) own j out)
      ∙ follows types l (suc j + nodes m) n second)))
  follows types i j (If t ss m n p) out =
      let of_shares : List Tie = shares_ties i ss types in
      let own : ℕ = i + length ss in
      let k : ℕ = own + 1 in
      let l : ℕ = k + length (parts_of types m) in
      let o : ℕ = l + length (parts_of types n) in
      let at : ℕ → List Point = λ h. point (places.Part own) h ∷ [] in
      let test : List Tie = ties_of types k (suc j) m (at 0) in
      let left : List Tie = ties_of types l (suc j + nodes m) n (at 1) in
      let right : List Tie = ties_of types o (suc j + nodes m + nodes n) p (at 2) in
      two of_shares (led out (places.Part own) 3 ++ (test ++ (left ++ right)))
      of_shares (led (map f out) (places.Part own) 3 ++ (test ++ (left ++ right))) (shares_stay types i ss)
      (two (led out (places.Part own) 3) (test ++ (left ++ right)) (led (map f out) (places.Part own) 3) (test ++ (left ++ right))
      (led_follows (places.Part own) (leaves.part own) out 3)
      (two test (left ++ right) test (left ++ right)
      (ap (λ (ps : List Point). ties_of types k (suc j) m ps) (one_point own 0) ∙ follows types k (suc j) m (at 0))
      (two left right left right
      (ap (λ (ps : List Point). ties_of types l (suc j + nodes m) n ps) (one_point own 1) ∙ follows types l (suc j + nodes m) n (at 1))
      (ap (λ (ps : List Point). ties_of types o (suc j + nodes m + nodes n) p ps) (one_point own 2) ∙ follows types o (suc j + nodes m + nodes n) p (at 2)))))

pub ties_follow : TiesFollow
ties_follow f types i j m out leaves = follows f leaves types i j m out

-- a result leads to the points themselves
leads_in : (all : List Point) (h : ℕ) (out : List Point) → ((k : ℕ) → slice_get all (h + k) ≡ slice_get out k)
    → map (leading all) (row places.Result h (length out)) ≡ out
leads_in all h [] at = refl
leads_in all h (p ∷ ps) at =
    let rest : map (leading all) (row places.Result (suc h) (length ps)) ≡ ps =
    leads_in all (suc h) ps (λ k. let same : suc h + k ≡ h + suc k = omega arith in ap (slice_get all) same ∙ at (suc k))
    in
    λ n. here n ∷ rest n
  where
    here : or_point (slice_get all h) (point places.Result h) ≡ p
    here =
        let same : h + 0 ≡ h = omega arith in
        ap (λ (x : Option Point). or_point x (point places.Result h)) (ap (slice_get all) (sym same) ∙ at 0)

leads_all : (out : List Point) → map (leading out) (row places.Result 0 (length out)) ≡ out
leads_all out = leads_in out 0 out (λ k. let same : 0 + k ≡ k = omega arith in ap (slice_get out) same)

leading_leaves : (out : List Point) → LeavesInner (leading out)
leading_leaves out = record { part = λ k h. refl; number = λ k h. refl; node = λ k h. refl }

pub result_leads : ResultLeads
result_leads types i j m out =
    ap (λ (ps : List Point). ties_of types i j m ps) (sym (leads_all out))
    ∙ ties_follow (leading out) types i j m (row places.Result 0 (length out)) (leading_leaves out)

-- the same of dots
dot_place : (out : List Point) (p : Place) (h : ℕ) → dot_of (at_place out p h) ≡ dot_leading out (dot_of_place p h)
dot_place out (places.Part k) h = refl
dot_place out (places.Import k) h = refl
dot_place out places.Result h = refl
dot_place out (places.Number k) h = refl
dot_place out (places.Node k) h = refl

dots_led : (out : List Point) (ts : List Tie)
    → dot_ties (led_by (leading out) ts) ≡ map (λ (t : webs.Tie). webs.tie (dot_leading out t.one) (dot_leading out t.other)) (dot_ties ts)
dots_led out [] = refl
dots_led out (t ∷ ts) =
    λ n. webs.tie (dot_place out t.one.place t.one.shake n) (dot_place out t.other.place t.other.shake n) ∷ dots_led out ts n

pub dots_lead : DotsLead
dots_lead types i j m out =
    ap dot_ties (result_leads types i j m out) ∙ dots_led out (ties_of types i j m (row places.Result 0 (length out)))
