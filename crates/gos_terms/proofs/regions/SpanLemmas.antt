-- What holds of a term's own points, and of those to which its handshakes lead, holds of all points of its ties.
use Rattle.std.specs.Prelude.{◌-◌, ◌<◌, ◌≤◌, take, drop, length, Contains}
use Rattle.std.proofs.Common.{◌≡◌, ℕ, zero, suc, ◌+◌, List, [], ◌∷◌, ◌++◌, inl, inr, refl, sym, ◌∙◌, ap, subst, arith, length-append}
use Rattle.std.proofs.lemmas.List.{append-nil}
use Rattle.gos_types.specs.Types.{Type'}
use Rattle.gos_check.specs.declared.linear.Split.{Split}
use Rattle.gos_check.specs.Nodes.{Numbered, Closed, Use, Under, One, Two, If, Binding, OfFun, OfNew, OfArray, OneForm, OfFst, OfSnd, OfDeref, OfNot, TwoForm, OfApp, OfBoth, OfSeq, OfPar, OfWhile, OfAssign, OfBin, argument_of}
use Rattle.gos_check.specs.Linearity.{times, split_in, sides, used, made}
use Rattle.gos_check.proofs.TimesLemmas.{times-append, times_same}
use Rattle.gos_plan.specs.Kinds as kinds
use Rattle.gos_plan.specs.Kinds.{Part}
use Rattle.gos_realises.specs.realises.Regular.{count}
use Rattle.gos_ties.specs.declared.points.Place.{Place}
use Rattle.gos_ties.specs.declared.points.Place.TheVariants as places
use Rattle.gos_ties.specs.declared.points.Point.{Point}
use Rattle.gos_ties.specs.declared.points.Tie.{Tie}
use Rattle.gos_ties.specs.Ties.{point}
use Rattle.gos_compile.specs.Wiring.{Types, row, led, shares, share_ties, shares_ties, ties_of, parts_of, type_of_node, nodes, closed_part, binder_part, binder_ties, binder_out, one_part, one_ties, one_out, two_part, two_ties, first_out, second_out, answer_bits}
use Rattle.gos_terms.specs.regions.Spans.{IsSpoken, TiesSpan}
use Rattle.gos_compile.proofs.ThinLemmas.{shares_length, closed_length}

-- all of a list
abbrev pub EachPoint : (Point → Type 0) → List Point → Type 0
EachPoint P [] = Unit {0}
EachPoint P (p ∷ ps) = P p × EachPoint P ps

abbrev pub EachTie : (Tie → Type 0) → List Tie → Type 0
EachTie Q [] = Unit {0}
EachTie Q (t ∷ ts) = Q t × EachTie Q ts

-- A term's own points: its parts have numbers from i on, and its nodes from j on.
pub record HoldsInside (P : Point → Type 0) (types : Types) (i j : ℕ) (m : Numbered) : Type 0 where
  pub parts : (k h : ℕ) → i ≤ k → k < i + length (parts_of types m) → P (point (places.Part k) h)
  pub nodes : (k h : ℕ) → j ≤ k → k < j + nodes m → P (point (places.Node k) h)
  pub numbers : (k h : ℕ) → 0 < times k (made m) + times k (used m) → P (point (places.Number k) h)

module _ (P : Point → Type 0) where
  abbrev pub Both : Tie → Type 0
  Both t = P t.one × P t.other

  points_both : (ps qs : List Point) → EachPoint P ps → EachPoint P qs → EachPoint P (ps ++ qs)
  points_both [] qs a b = b
  points_both (p ∷ ps) qs (x, a) b = (x, points_both ps qs a b)

  ties_both : (ts us : List Tie) → EachTie Both ts → EachTie Both us → EachTie Both (ts ++ us)
  ties_both [] us a b = b
  ties_both (t ∷ ts) us (x, a) b = (x, ties_both ts us a b)

  points_taken : (n : ℕ) (ps : List Point) → EachPoint P ps → EachPoint P (take n ps)
  points_taken zero [] a = tt
  points_taken zero (p ∷ ps) a = tt
  points_taken (suc n) [] a = tt
  points_taken (suc n) (p ∷ ps) (x, a) = (x, points_taken n ps a)

  points_dropped : (n : ℕ) (ps : List Point) → EachPoint P ps → EachPoint P (drop n ps)
  points_dropped zero [] a = tt
  points_dropped zero (p ∷ ps) a = a
  points_dropped (suc n) [] a = tt
  points_dropped (suc n) (p ∷ ps) (x, a) = points_dropped n ps a

  abbrev At : Place → Type 0
  At place = (h : ℕ) → P (point place h)

  row_holds : (place : Place) → At place → (h n : ℕ) → EachPoint P (row place h n)
  row_holds place here h zero = tt
  row_holds place here h (suc n) = (here h, row_holds place here (suc h) n)

  led_holds : (place : Place) → At place → (ps : List Point) → EachPoint P ps → (h : ℕ) → EachTie Both (led ps place h)
  led_holds place here [] a h = tt
  led_holds place here (p ∷ ps) (x, a) h = ((x, here h), led_holds place here ps a (suc h))

  -- Shares
  numbers_led : (n i h k : ℕ) → At (places.Number n) → At (places.Part i) → EachTie Both (led (row (places.Number n) 0 k) (places.Part i) h)
  numbers_led n i h k number part = led_holds (places.Part i) part (row (places.Number n) 0 k) (row_holds (places.Number n) number 0 k) h

  abbrev Parts : ℕ → ℕ → Type 0
  Parts i n = (k h : ℕ) → i ≤ k → k < i + n → P (point (places.Part k) h)

  abbrev Numbers : List ℕ → List ℕ → Type 0
  Numbers ns us = (k h : ℕ) → 0 < times k ns + times k us → P (point (places.Number k) h)

  shares_hold : (types : Types) (i : ℕ) (ss : List Split) → Parts i (length ss) → Numbers (sides ss) (split_in ss) → EachTie Both (shares_ties i ss types)
  shares_hold types i [] parts numbers = tt
  shares_hold types i (s ∷ ss) parts numbers =
      ties_both (share_ties i n s) (shares_ties (suc i) ss types)
      (ties_both source (left ++ right) (numbers_led s.of i 0 n of part)
      (ties_both left right (numbers_led s.left i n n one part) (numbers_led s.right i (n + n) n other part)))
      (shares_hold types (suc i) ss (λ k h low high. parts k h (omega (arith, low)) (omega (arith, high)))
      (λ k h some. numbers k h (omega (arith, some))))
    where
      n : ℕ
      n = count (types s.of)

      source : List Tie
      source = led (row (places.Number s.of) 0 n) (places.Part i) 0

      left : List Tie
      left = led (row (places.Number s.left) 0 n) (places.Part i) n

      right : List Tie
      right = led (row (places.Number s.right) 0 n) (places.Part i) (n + n)

      part : At (places.Part i)
      part h = parts i h (omega arith) (omega arith)

      of : At (places.Number s.of)
      of h = numbers s.of h (let same = times_same s.of (split_in ss) in omega (arith, same))

      one : At (places.Number s.left)
      one h = numbers s.left h (let same = times_same s.left (s.right ∷ sides ss) in omega (arith, same))

      other : At (places.Number s.right)
      other h = numbers s.right h (let same = times_same s.right (sides ss) in omega (arith, same))

  -- what holds inside a node holds inside a child
  narrow :
      (types : Types) (i j k l : ℕ) (m c : Numbered)
      → HoldsInside P types i j m → i ≤ k → k + length (parts_of types c) ≤ i + length (parts_of types m) → j ≤ l → l + nodes c ≤ j + nodes m
      → ((n : ℕ) → times n (made c) + times n (used c) ≤ times n (made m) + times n (used m)) → HoldsInside P types k l c
  narrow types i j k l m c inside low high first last fewer =
      record {
        parts = λ a h below above. inside.parts a h (omega (arith, low, below)) (omega (arith, high, above));
        nodes = λ a h below above. inside.nodes a h (omega (arith, first, below)) (omega (arith, last, above));
        numbers = λ a h some. inside.numbers a h (omega (arith, fewer a, some));
      }

  -- a node's own part and its nodes
  binder_holds : (b : Binding) (t : Type') (i n : ℕ) (out : List Point) → EachPoint P out
      → Parts i (length (binder_part b t)) → At (places.Number n) → EachTie Both (binder_ties b t i n out)
  binder_holds OfFun t i n out all parts number =
      led_holds (places.Number n) number (take (count (argument_of t)) out) (points_taken (count (argument_of t)) out all) 0
  binder_holds (OfNew w) t i n out all parts number =
      ties_both (led out (places.Part i) 3) (led (row (places.Number n) 0 2) (places.Part i) 1) (led_holds (places.Part i) part out all 3)
      (numbers_led n i 1 2 number part)
    where
      part : At (places.Part i)
      part h = parts i h (omega arith) (omega arith)
  binder_holds (OfArray k w) t i n out all parts number =
      ties_both (led out (places.Part i) 4) (led (row (places.Number n) 0 3) (places.Part i) 1) (led_holds (places.Part i) part out all 4)
      (numbers_led n i 1 3 number part)
    where
      part : At (places.Part i)
      part h = parts i h (omega arith) (omega arith)

  binder_leads : (b : Binding) (t : Type') (i : ℕ) (out : List Point) → EachPoint P out
      → Parts i (length (binder_part b t)) → EachPoint P (binder_out b t i out)
  binder_leads OfFun t i out all parts = points_dropped (count (argument_of t)) out all
  binder_leads (OfNew w) t i out all parts = (parts i 0 (omega arith) (omega arith), tt)
  binder_leads (OfArray k w) t i out all parts = (parts i 0 (omega arith) (omega arith), tt)

  one_holds : (form : OneForm) (t : Type') (i : ℕ) (out : List Point) → EachPoint P out
      → Parts i (length (one_part form t)) → EachTie Both (one_ties form i out)
  one_holds OfFst t i out all parts = tt
  one_holds OfSnd t i out all parts = tt
  one_holds OfDeref t i out all parts = led_holds (places.Part i) (λ h. parts i h (omega arith) (omega arith)) out all 1
  one_holds OfNot t i out all parts = led_holds (places.Part i) (λ h. parts i h (omega arith) (omega arith)) out all 1

  one_leads : (form : OneForm) (t u : Type') (i j : ℕ) (out : List Point) → EachPoint P out
      → Parts i (length (one_part form t)) → At (places.Node j) → EachPoint P (one_out form t u i j out)
  one_leads OfFst t u i j out all parts node =
      points_both out (row (places.Node j) 0 (count u - count t)) all (row_holds (places.Node j) node 0 (count u - count t))
  one_leads OfSnd t u i j out all parts node =
      points_both (row (places.Node j) 0 (count u - count t)) out (row_holds (places.Node j) node 0 (count u - count t)) all
  one_leads OfDeref t u i j out all parts node = (parts i 0 (omega arith) (omega arith), (node 0, tt))
  one_leads OfNot t u i j out all parts node = (parts i 0 (omega arith) (omega arith), tt)

  two_holds : (form : TwoForm) (t u : Type') (i : ℕ) (out : List Point) → EachPoint P out
      → Parts i (length (two_part form t u)) → EachTie Both (two_ties form i out)
  two_holds OfApp t u i out all parts = tt
  two_holds OfBoth t u i out all parts = tt
  two_holds OfSeq t u i out all parts = led_holds (places.Part i) (λ h. parts i h (omega arith) (omega arith)) out all 2
  two_holds OfPar t u i out all parts = led_holds (places.Part i) (λ h. parts i h (omega arith) (omega arith)) out all 2
  two_holds OfWhile t u i out all parts = led_holds (places.Part i) (λ h. parts i h (omega arith) (omega arith)) out all 2
  two_holds OfAssign t u i out all parts = led_holds (places.Part i) (λ h. parts i h (omega arith) (omega arith)) out all 2
  two_holds (OfBin op) t u i out all parts = led_holds (places.Part i) (λ h. parts i h (omega arith) (omega arith)) out all 2

  first_leads : (form : TwoForm) (t u v : Type') (i j : ℕ) (out : List Point) → EachPoint P out
      → Parts i (length (two_part form t v)) → At (places.Node j) → EachPoint P (first_out form u v i j out)
  first_leads OfApp t u v i j out all parts node =
      points_both (row (places.Node j) 0 (count v)) out (row_holds (places.Node j) node 0 (count v)) all
  first_leads OfBoth t u v i j out all parts node = points_taken (count u) out all
  first_leads OfSeq t u v i j out all parts node = (parts i 0 (omega arith) (omega arith), tt)
  first_leads OfPar t u v i j out all parts node = (parts i 0 (omega arith) (omega arith), tt)
  first_leads OfWhile t u v i j out all parts node = (parts i 0 (omega arith) (omega arith), tt)
  first_leads OfAssign t u v i j out all parts node = (node 0, (parts i 1 (omega arith) (omega arith), tt))
  first_leads (OfBin op) t u v i j out all parts node = (parts i 0 (omega arith) (omega arith), tt)

  second_leads : (form : TwoForm) (t u v : Type') (i j : ℕ) (out : List Point) → EachPoint P out
      → Parts i (length (two_part form t v)) → At (places.Node j) → EachPoint P (second_out form u v i j out)
  second_leads OfApp t u v i j out all parts node = row_holds (places.Node j) node 0 (count v)
  second_leads OfBoth t u v i j out all parts node = points_dropped (count u) out all
  second_leads OfSeq t u v i j out all parts node = (parts i 1 (omega arith) (omega arith), tt)
  second_leads OfPar t u v i j out all parts node = (parts i 1 (omega arith) (omega arith), tt)
  second_leads OfWhile t u v i j out all parts node = (parts i 1 (omega arith) (omega arith), tt)
  second_leads OfAssign t u v i j out all parts node = (parts i 0 (omega arith) (omega arith), tt)
  second_leads (OfBin op) t u v i j out all parts node = (parts i 1 (omega arith) (omega arith), tt)

  -- the splits of a node with these other parts
  front :
      (types : Types) (i j : ℕ) (m : Numbered) (ss : List Split) (rest : List Part) (ns us : List ℕ)
      → HoldsInside P types i j m → parts_of types m ≡ shares ss types ++ rest → made m ≡ sides ss ++ ns → used m ≡ split_in ss ++ us
      → EachTie Both (shares_ties i ss types) × Parts (i + length ss) (length rest) × Numbers ns us
  front types i j m ss rest ns us inside own makes uses = (
    shares_hold types i ss (λ k h low high. inside.parts k h low (omega (arith, high, long)))
        (λ k h some. inside.numbers k h (omega (arith, some, made_in k, used_in k))),
    λ k h low high. inside.parts k h (omega (arith, low)) (omega (arith, high, long)),
    λ k h some. inside.numbers k h (omega (arith, some, made_in k, used_in k)),
  )
    where
      long : length (parts_of types m) ≡ length ss + length rest
      long = ap length own ∙ (length-append (shares ss types) rest ∙ ap (λ n. n + length rest) (shares_length ss types))

      made_in : (k : ℕ) → times k (made m) ≡ times k (sides ss) + times k ns
      made_in k = ap (times k) makes ∙ times-append k (sides ss) ns

      used_in : (k : ℕ) → times k (used m) ≡ times k (split_in ss) + times k us
      used_in k = ap (times k) uses ∙ times-append k (split_in ss) us

  own_node : (types : Types) (i j : ℕ) (m : Numbered) → HoldsInside P types i j m → 0 < nodes m → At (places.Node j)
  own_node types i j m inside some h = inside.nodes j h (omega arith) (omega (arith, some))

  -- all ties of a term
  pub spans : (types : Types) (i j : ℕ) (m : Numbered) (out : List Point)
      → HoldsInside P types i j m → EachPoint P out → EachTie Both (ties_of types i j m out)
  spans types i j (Closed t ss c) out inside all =
      let (of_shares, parts, numbers) = front types i j (Closed t ss c) ss (closed_part c) [] [] inside refl (sym (append-nil (sides ss))) (sym (append-nil (split_in ss))) in
      ties_both (shares_ties i ss types) (led out (places.Part (i + length ss)) 0) of_shares
      (led_holds (places.Part (i + length ss)) (λ h. parts (i + length ss) h (omega arith) (let some = closed_length c in omega (arith, some))) out all 0)
  spans types i j (Use t ss n) out inside all =
      let (of_shares, parts, numbers) = front types i j (Use t ss n) ss [] [] (n ∷ []) inside (sym (append-nil (shares ss types))) (sym (append-nil (sides ss))) refl in
      ties_both (shares_ties i ss types) (led out (places.Number n) 0) of_shares
      (led_holds (places.Number n) (λ h. numbers n h (let same = times_same n [] in omega (arith, same))) out all 0)
  spans types i j (Under t ss b n m) out inside all =
      let (of_shares, parts, numbers) =
      front types i j (Under t ss b n m) ss (binder_part b t ++ parts_of types m) (n ∷ made m) (used m) inside refl refl refl in
      let own : ℕ = i + length ss in
      let k : ℕ = own + length (binder_part b t) in
      let out' : List Point = binder_out b t own out in
      let long : length (binder_part b t ++ parts_of types m) ≡ length (binder_part b t) + length (parts_of types m) =
      length-append (binder_part b t) (parts_of types m) in
      let mine : Parts own (length (binder_part b t)) = λ a h low high. parts a h low (omega (arith, high, long)) in
      let inner : HoldsInside P types k (suc j) m =
      record {
        parts = λ a h low high. parts a h (omega (arith, low)) (omega (arith, high, long));
        nodes = λ a h low high. inside.nodes a h (omega (arith, low)) (omega (arith, high));
        numbers = λ a h some. numbers a h (omega (arith, some));
      } in
      ties_both (shares_ties i ss types) (binder_ties b t own n out ++ ties_of types k (suc j) m out') of_shares
      (ties_both (binder_ties b t own n out) (ties_of types k (suc j) m out')
      (binder_holds b t own n out all mine (λ h. numbers n h (let same = times_same n (made m) in omega (arith, same))))
      (spans types k (suc j) m out' inner (binder_leads b t own out all mine)))
  spans types i j (One t ss form m) out inside all =
      let (of_shares, parts, numbers) =
      front types i j (One t ss form m) ss (one_part form t ++ parts_of types m) (made m) (used m) inside refl refl refl in
      let own : ℕ = i + length ss in
      let k : ℕ = own + length (one_part form t) in
      let out' : List Point = one_out form t (type_of_node m) own j out in
      let long : length (one_part form t ++ parts_of types m) ≡ length (one_part form t) + length (parts_of types m) =
      length-append (one_part form t) (parts_of types m) in
      let mine : Parts own (length (one_part form t)) = λ a h low high. parts a h low (omega (arith, high, long)) in
      let inner : HoldsInside P types k (suc j) m =
      record {
        parts = λ a h low high. parts a h (omega (arith, low)) (omega (arith, high, long));
        nodes = λ a h low high. inside.nodes a h (omega (arith, low)) (omega (arith, high));
        numbers = numbers;
      } in
      ties_both (shares_ties i ss types) (one_ties form own out ++ ties_of types k (suc j) m out') of_shares
      (ties_both (one_ties form own out) (ties_of types k (suc j) m out') (one_holds form t own out all mine)
      (spans types k (suc j) m out' inner
      (one_leads form t (type_of_node m) own j out all mine (own_node types i j (One t ss form m) inside (omega arith)))))
  spans types i j (Two t ss form m n) out inside all =
      let (of_shares, parts, numbers) =
      front types i j (Two t ss form m n) ss (two_part form t (type_of_node n) ++ (parts_of types m ++ parts_of types n)) (made m ++ made n)
      (used m ++ used n) inside refl refl refl in
      let own : ℕ = i + length ss in
      let k : ℕ = own + length (two_part form t (type_of_node n)) in
      let l : ℕ = k + length (parts_of types m) in
      let first : List Point = first_out form (type_of_node m) (type_of_node n) own j out in
      let second : List Point = second_out form (type_of_node m) (type_of_node n) own j out in
      let long : length (two_part form t (type_of_node n) ++ (parts_of types m ++ parts_of types n))
      ≡ length (two_part form t (type_of_node n)) + length (parts_of types m ++ parts_of types n) =
      length-append (two_part form t (type_of_node n)) (parts_of types m ++ parts_of types n) in
      let long' : length (parts_of types m ++ parts_of types n) ≡ length (parts_of types m) + length (parts_of types n) =
      length-append (parts_of types m) (parts_of types n) in
      let mine : Parts own (length (two_part form t (type_of_node n))) = λ a h low high. parts a h low (omega (arith, high, long)) in
      let node : At (places.Node j) = own_node types i j (Two t ss form m n) inside (omega arith) in
      let left : HoldsInside P types k (suc j) m =
      record {
        parts = λ a h low high. parts a h (omega (arith, low)) (omega (arith, high, long, long'));
        nodes = λ a h low high. inside.nodes a h (omega (arith, low)) (omega (arith, high));
        numbers = λ a h some. numbers a h (let one = times-append a (made m) (made n) in let other = times-append a (used m) (used n) in omega (arith, some, one, other));
      } in
      let right : HoldsInside P types l (suc j + nodes m) n =
      record {
        parts = λ a h low high. parts a h (omega (arith, low)) (omega (arith, high, long, long'));
        nodes = λ a h low high. inside.nodes a h (omega (arith, low)) (omega (arith, high));
        numbers = λ a h some. numbers a h (let one = times-append a (made m) (made n) in let other = times-append a (used m) (used n) in omega (arith, some, one, other));
      } in
      ties_both (shares_ties i ss types) (two_ties form own out ++ (ties_of types k (suc j) m first ++ ties_of types l (suc j + nodes m) n second)) of_shares
      (ties_both (two_ties form own out) (ties_of types k (suc j) m first ++ ties_of types l (suc j + nodes m) n second)
      (two_holds form t (type_of_node n) own out all mine)
      (ties_both (ties_of types k (suc j) m first) (ties_of types l (suc j + nodes m) n second)
      (spans types k (suc j) m first left (first_leads form t (type_of_node m) (type_of_node n) own j out all mine node))
      (spans types l (suc j + nodes m) n second right (second_leads form t (type_of_node m) (type_of_node n) own j out all mine node))))
  spans types i j (If t ss m n p) out inside all =
      let (of_shares, parts, numbers) =
      front types i j (If t ss m n p) ss (kinds.If (answer_bits t) ∷ (parts_of types m ++ (parts_of types n ++ parts_of types p)))
      (made m ++ (made n ++ made p)) (used m ++ (used n ++ used p)) inside refl refl refl in
      let own : ℕ = i + length ss in
      let k : ℕ = own + 1 in
      let l : ℕ = k + length (parts_of types m) in
      let o : ℕ = l + length (parts_of types n) in
      let at : ℕ → List Point = λ h. point (places.Part own) h ∷ [] in
      let long : length (parts_of types m ++ (parts_of types n ++ parts_of types p)) ≡ length (parts_of types m) + length (parts_of types n ++ parts_of types p) =
      length-append (parts_of types m) (parts_of types n ++ parts_of types p) in
      let long' : length (parts_of types n ++ parts_of types p) ≡ length (parts_of types n) + length (parts_of types p) =
      length-append (parts_of types n) (parts_of types p) in
      let makes : (a : ℕ) → times a (made m ++ (made n ++ made p)) ≡ times a (made m) + (times a (made n) + times a (made p)) =
      λ a. times-append a (made m) (made n ++ made p) ∙ ap (λ x. times a (made m) + x) (times-append a (made n) (made p)) in
      let uses : (a : ℕ) → times a (used m ++ (used n ++ used p)) ≡ times a (used m) + (times a (used n) + times a (used p)) =
      λ a. times-append a (used m) (used n ++ used p) ∙ ap (λ x. times a (used m) + x) (times-append a (used n) (used p)) in
      let mine : (h : ℕ) → P (point (places.Part own) h) = λ h. parts own h (omega arith) (omega arith) in
      let test : HoldsInside P types k (suc j) m =
      record {
        parts = λ a h low high. parts a h (omega (arith, low)) (omega (arith, high, long, long'));
        nodes = λ a h low high. inside.nodes a h (omega (arith, low)) (omega (arith, high));
        numbers = λ a h some. numbers a h (omega (arith, some, makes a, uses a));
      } in
      let left : HoldsInside P types l (suc j + nodes m) n =
      record {
        parts = λ a h low high. parts a h (omega (arith, low)) (omega (arith, high, long, long'));
        nodes = λ a h low high. inside.nodes a h (omega (arith, low)) (omega (arith, high));
        numbers = λ a h some. numbers a h (omega (arith, some, makes a, uses a));
      } in
      let right : HoldsInside P types o (suc j + nodes m + nodes n) p =
      record {
        parts = λ a h low high. parts a h (omega (arith, low)) (omega (arith, high, long, long'));
        nodes = λ a h low high. inside.nodes a h (omega (arith, low)) (omega (arith, high));
        numbers = λ a h some. numbers a h (omega (arith, some, makes a, uses a));
      } in
      ties_both (shares_ties i ss types)
      (led out (places.Part own) 3 ++ (ties_of types k (suc j) m (at 0) ++ (ties_of types l (suc j + nodes m) n (at 1) ++ ties_of types o (suc j + nodes m + nodes n) p (at 2))))
      of_shares
      (ties_both (led out (places.Part own) 3)
      (ties_of types k (suc j) m (at 0) ++ (ties_of types l (suc j + nodes m) n (at 1) ++ ties_of types o (suc j + nodes m + nodes n) p (at 2)))
      (led_holds (places.Part own) mine out all 3)
      (ties_both (ties_of types k (suc j) m (at 0)) (ties_of types l (suc j + nodes m) n (at 1) ++ ties_of types o (suc j + nodes m + nodes n) p (at 2))
      (spans types k (suc j) m (at 0) test (mine 0, tt))
      (ties_both (ties_of types l (suc j + nodes m) n (at 1)) (ties_of types o (suc j + nodes m + nodes n) p (at 2))
      (spans types l (suc j + nodes m) n (at 1) left (mine 1, tt)) (spans types o (suc j + nodes m + nodes n) p (at 2) right (mine 2, tt)))))

pub one_tie : (Q : Tie → Type 0) (ts : List Tie) (t : Tie) → EachTie Q ts → Contains ts t → Q t
one_tie Q [] t all (n, lt, e) = absurd (omega (arith, lt))
one_tie Q (q ∷ ts) t (x, all) (zero, lt, e) = subst Q e x
one_tie Q (q ∷ ts) t (x, all) (suc n, lt, e) = one_tie Q ts t all (n, omega (arith, lt), e)

pub each_of : (P : Point → Type 0) (ps : List Point) → ((p : Point) → Contains ps p → P p) → EachPoint P ps
each_of P [] all = tt
each_of P (p ∷ ps) all = (all p (0, omega arith, refl), each_of P ps (λ q (n, lt, e). all q (suc n, omega (arith, lt), e)))

pub ties_span : TiesSpan
ties_span types i j m out t has =
    one_tie (Both Spoken) (ties_of types i j m out) t
    (spans Spoken types i j m out
    (record { parts = λ k h low high. inl (low, high); nodes = λ k h low high. inl (low, high); numbers = λ k h some. inl some })
    (each_of Spoken out (λ p there. inr there)))
    has
  where
    Spoken : Point → Type 0
    Spoken p = IsSpoken types i j m out p
