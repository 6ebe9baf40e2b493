-- Marking nets, and what the search has come to.
use Rattle.std.specs.Prelude.{◌≡◌, ◌⊎◌, ℕ, zero, suc, ◌+◌, ◌<◌, ◌≤◌, Bool, true, false, List, [], ◌∷◌, ◌++◌, length, Some, slice_get, slice_set, get_or, Contains, replicate}
use Rattle.std.specs.List.{AllByRecursion}
use Rattle.std.proofs.Common.{arith, refl, sym, ap, subst, inl, inr, ◌∙◌}
use Rattle.std.proofs.lemmas.Bool.{cases_order}
use Rattle.std.proofs.lemmas.List.{length-set}
use Rattle.std.proofs.lemmas.List.Sums.{sum_by-set}
use Rattle.std.proofs.lemmas.List.Elements.{Contains-append_left, Contains-append_right, Contains-append_cases}
use Rattle.std.proofs.lemmas.Option.{same_Some, slice_get-get_or, get_or_from_slice_get, slice_get_within}
use Rattle.gos_netlist.specs.Nets.{Function, Input, Const, Not, And, Or, Xor, Mux, Add, Sub, Eq, Less, Gate, Reg, Cell, pins}
use Rattle.gos_tidy.specs.Tidy.{LeadsTo, IsEnd, IsPin}
use Rattle.gos_tidy.specs.inner.Marks.{IsMarked, IsInputAt, IsLive, AreMarks, if_input, missing, unmarked, AreFound, Grows, IsSearch}

-- a mark after one is set
set_here : (marks : List Bool) (p : ℕ) → p < length marks → slice_get (slice_set marks p true) p ≡ Some true
set_here [] p l = absurd (omega (arith, l))
set_here (x ∷ xs) zero l = refl
set_here (x ∷ xs) (suc p) l = set_here xs p (omega (arith, l))

set_keeps : (marks : List Bool) (p n : ℕ) → IsMarked marks n → IsMarked (slice_set marks p true) n
set_keeps [] p n h = h
set_keeps (x ∷ xs) zero zero h = refl
set_keeps (x ∷ xs) zero (suc n) h = h
set_keeps (x ∷ xs) (suc p) zero h = h
set_keeps (x ∷ xs) (suc p) (suc n) h = set_keeps xs p n h

set_only : (marks : List Bool) (p n : ℕ) → IsMarked (slice_set marks p true) n → IsMarked marks n ⊎ (n ≡ p)
set_only [] p n h = inl h
set_only (x ∷ xs) zero zero h = inr refl
set_only (x ∷ xs) zero (suc n) h = inl h
set_only (x ∷ xs) (suc p) zero h = inl h
set_only (x ∷ xs) (suc p) (suc n) h = by (set_only xs p n h)
  where
    by : IsMarked xs n ⊎ (n ≡ p) → IsMarked xs n ⊎ (suc n ≡ suc p)
    by (inl before) = inl before
    by (inr here) = inr (ap suc here)

set_fewer : (marks : List Bool) (p : ℕ) → p < length marks → get_or marks p false ≡ false → unmarked (slice_set marks p true) + 1 ≡ unmarked marks
set_fewer marks p l e =
    let so = sum_by-set missing marks p true false l in
    let one : missing (get_or marks p false) ≡ 1 = ap missing e in
    omega (arith, so, one)

-- the last element of a longer list, and the others
pub last_there : {A : Type 0} (xs : List A) (x : A) → slice_get (xs ++ (x ∷ [])) (length xs) ≡ Some x
last_there [] x = refl
last_there (y ∷ xs) x = last_there xs x

pub front_there : {A : Type 0} (xs : List A) (x : A) (i : ℕ) (n : A) → slice_get xs i ≡ Some n → slice_get (xs ++ (x ∷ [])) i ≡ Some n
front_there [] x i n h = absurd (cc)
front_there (y ∷ xs) x zero n h = h
front_there (y ∷ xs) x (suc i) n h = front_there xs x i n h

pub front_same : (xs : List ℕ) (x i n : ℕ) → i < length xs → slice_get (xs ++ (x ∷ [])) i ≡ Some n → slice_get xs i ≡ Some n
front_same [] x i n l h = absurd (omega (arith, l))
front_same (y ∷ xs) x zero n l h = h
front_same (y ∷ xs) x (suc i) n l h = front_same xs x i n (omega (arith, l)) h

pub back_cases : (xs : List ℕ) (x i n : ℕ) → slice_get (xs ++ (x ∷ [])) i ≡ Some n → (slice_get xs i ≡ Some n) ⊎ (n ≡ x)
back_cases [] x zero n h = inr (sym (same_Some x n h))
back_cases [] x (suc i) n h = absurd (cc)
back_cases (y ∷ xs) x zero n h = inl h
back_cases (y ∷ xs) x (suc i) n h = back_cases xs x i n h

pub longer : {A : Type 0} (xs : List A) (x : A) → length (xs ++ (x ∷ [])) ≡ length xs + 1
longer [] x = refl
longer (y ∷ xs) x = let so = longer xs x in omega (arith, so)

only_one : (x n : ℕ) → Contains (x ∷ []) n → n ≡ x
only_one x n (zero, inside, is) = sym is
only_one x n (suc i, inside, is) = absurd (omega (arith, inside))

the_one : (x n : ℕ) → n ≡ x → Contains (x ∷ []) n
the_one x n e = (0, omega arith, sym e)

pub no_one : {A : Type 0} (n : ℕ) → Contains [] n → A
no_one n h = absurd (omega (arith, h.1))

-- a net was marked before
pub grows_not : (marks : List Bool) (found : List ℕ) (p : ℕ) → p < length marks → get_or marks p true ≡ true → Grows (p ∷ []) marks found marks found
grows_not marks found p l e = record {
  count = refl;
  keeps = λ n h. h;
  all = λ n h. subst (λ (x : ℕ). IsMarked marks x) (sym (only_one p n h)) (slice_get-get_or marks p true l ∙ ap Some e);
  only = λ n h. inl h;
  front = λ i n h. h;
  same = λ i n l h. h;
  finds = λ h. h;
  total = refl;
}

-- a net is marked now
pub grows_new : (marks : List Bool) (found : List ℕ) (p : ℕ) → p < length marks → get_or marks p false ≡ false
    → Grows (p ∷ []) marks found (slice_set marks p true) (found ++ (p ∷ []))
grows_new marks found p l e = record {
  count = length-set marks p true;
  keeps = λ n h. set_keeps marks p n h;
  all = λ n h. subst (λ (x : ℕ). IsMarked (slice_set marks p true) x) (sym (only_one p n h)) (set_here marks p l);
  only = λ n h. by_mark n (set_only marks p n h);
  front = λ i n h. front_there found p i n h;
  same = λ i n l h. front_same found p i n l h;
  finds = λ h. record { listed = λ n m. list h n (set_only marks p n m); marked = λ i n m. mark h i n (back_cases found p i n m) };
  total = let so = set_fewer marks p l e in let more = longer found p in omega (arith, so, more);
}
  where
    by_mark : (n : ℕ) → IsMarked marks n ⊎ (n ≡ p) → IsMarked marks n ⊎ Contains (p ∷ []) n
    by_mark n (inl before) = inl before
    by_mark n (inr here) = inr (the_one p n here)

    list : AreFound marks found → (n : ℕ) → IsMarked marks n ⊎ (n ≡ p) → (i : ℕ) × (slice_get (found ++ (p ∷ [])) i ≡ Some n)
    list h n (inl before) = let it = h.listed n before in (it.0, front_there found p it.0 n it.1)
    list h n (inr here) = (length found, last_there found p ∙ ap Some (sym here))

    mark : AreFound marks found → (i n : ℕ) → (slice_get found i ≡ Some n) ⊎ (n ≡ p) → IsMarked (slice_set marks p true) n
    mark h i n (inl before) = set_keeps marks p n (h.marked i n before)
    mark h i n (inr here) = subst (λ (x : ℕ). IsMarked (slice_set marks p true) x) (sym here) (set_here marks p l)

-- nets are marked, and then others
pub grows_on : (ps qs : List ℕ) (a : List Bool) (f : List ℕ) (b : List Bool) (g : List ℕ) (c : List Bool) (h : List ℕ) → Grows ps a f b g → Grows qs b g c h
    → Grows (ps ++ qs) a f c h
grows_on ps qs a f b g c h first second = record {
  count = second.count ∙ first.count;
  keeps = λ n m. second.keeps n (first.keeps n m);
  all = λ n m. by_part n (Contains-append_cases ps qs n m);
  only = λ n m. by_time n (second.only n m);
  front = λ i n m. second.front i n (first.front i n m);
  same = λ i n l m. first.same i n l (second.same i n (first_longer i l) m);
  finds = λ m. second.finds (first.finds m);
  total = second.total ∙ first.total;
}
  where
    by_part : (n : ℕ) → Contains ps n ⊎ Contains qs n → IsMarked c n
    by_part n (inl m) = second.keeps n (first.all n m)
    by_part n (inr m) = second.all n m

    by_first : (n : ℕ) → IsMarked a n ⊎ Contains ps n → IsMarked a n ⊎ Contains (ps ++ qs) n
    by_first n (inl m) = inl m
    by_first n (inr m) = inr (Contains-append_left ps qs n m)

    by_time : (n : ℕ) → IsMarked b n ⊎ Contains qs n → IsMarked a n ⊎ Contains (ps ++ qs) n
    by_time n (inl m) = by_first n (first.only n m)
    by_time n (inr m) = inr (Contains-append_right ps qs n m)

    first_longer : (i : ℕ) → i < length f → i < length g
    first_longer i l = slice_get_within g i (get_or f i 0) (first.front i (get_or f i 0) (slice_get-get_or f i 0 l))

-- the search goes on where nets are marked that are inputs or lead to an end
pub search_grows : (cells : List Cell) (ends nets : List ℕ) (marks : List Bool) (found : List ℕ) (now : List Bool) (list : List ℕ) (i e next : ℕ)
    → IsSearch cells ends marks found i e next → next ≤ length found → Grows nets marks found now list → ((n : ℕ) → Contains nets n → IsLive cells ends n)
    → IsSearch cells ends now list i e next
search_grows cells ends nets marks found now list i e next s within grows live = record {
  count = grows.count ∙ s.count;
  finds = grows.finds s.finds;
  inputs = λ n l h. grows.keeps n (s.inputs n l h);
  at_ends = λ k n l h. grows.keeps n (s.at_ends k n l h);
  closed = λ k n a c l h there named. grows.keeps a (s.closed k n a c l (grows.same k n (omega (arith, l, within)) h) there named);
  live = λ n h. by_mark n (grows.only n h);
}
  where
    by_mark : (n : ℕ) → IsMarked marks n ⊎ Contains nets n → IsLive cells ends n
    by_mark n (inl before) = s.live n before
    by_mark n (inr now) = live n now

-- nothing is marked before it begins
pub search_begun : (cells : List Cell) (ends : List ℕ) (count : ℕ) → count ≡ length cells → IsSearch cells ends (replicate count false) [] 0 0 0
search_begun cells ends count same = record {
  count = length_of count ∙ same;
  finds = record { listed = λ n h. absurd (none count n h); marked = λ i n h. absurd (cc) };
  inputs = λ n l h. absurd (omega (arith, l));
  at_ends = λ k n l h. absurd (omega (arith, l));
  closed = λ k n a c l h there named. absurd (omega (arith, l));
  live = λ n h. absurd (none count n h);
}
  where
    length_of : (n : ℕ) → length (replicate n false) ≡ n
    length_of zero = refl
    length_of (suc n) = ap suc (length_of n)

    none : (count n : ℕ) → IsMarked (replicate count false) n → ⊥
    none zero n h = cc
    none (suc count) zero h = let so : false ≡ true = same_Some false true h in cc
    none (suc count) (suc n) h = none count n h

-- an input's net, and the net of another cell
input_in : (n : ℕ) (g : Function) → g ≡ Input → Contains (if_input n g) n
input_in n g e = subst (λ (x : Function). Contains (if_input n x) n) (sym e) (the_one n n refl)

input_net : (cells : List Cell) (n m : ℕ) (w : ℕ) (g : Function) → slice_get cells n ≡ Some (record { width = w; gate = g }) → Contains (if_input n g) m → IsInputAt cells m
input_net cells n m w Input is h = (record { width = w; gate = Input }, subst (λ (x : ℕ). slice_get cells x ≡ Some (record { width = w; gate = Input })) (sym (only_one n m h)) is, refl)
input_net cells n m w (Const k) is h = no_one m h
input_net cells n m w (Not a) is h = no_one m h
input_net cells n m w (And a b) is h = no_one m h
input_net cells n m w (Or a b) is h = no_one m h
input_net cells n m w (Xor a b) is h = no_one m h
input_net cells n m w (Mux s a b) is h = no_one m h
input_net cells n m w (Add a b) is h = no_one m h
input_net cells n m w (Sub a b) is h = no_one m h
input_net cells n m w (Eq a b) is h = no_one m h
input_net cells n m w (Less a b) is h = no_one m h
input_net cells n m w (Gate s a) is h = no_one m h
input_net cells n m w (Reg a) is h = no_one m h

pub split_last : (j i : ℕ) → j < i + 1 → (j ≡ i) ⊎ ((j < i) ⊎ (i < j)) → (j < i) ⊎ (j ≡ i)
split_last j i l (inl here) = inr here
split_last j i l (inr (inl earlier)) = inl earlier
split_last j i l (inr (inr later)) = absurd (omega (arith, l, later))

-- one cell more has been looked at
pub search_input : (cells : List Cell) (ends : List ℕ) (marks : List Bool) (found : List ℕ) (now : List Bool) (list : List ℕ) (n : ℕ) (c : Cell)
    → IsSearch cells ends marks found n 0 0 → slice_get cells n ≡ Some c → Grows (if_input n c.gate) marks found now list
    → IsSearch cells ends now list (n + 1) 0 0
search_input cells ends marks found now list n c s is grows =
    let on = search_grows cells ends (if_input n c.gate) marks found now list n 0 0 s (omega arith) grows (λ m h. inl (input_net cells n m c.width c.gate is h)) in
    record {
      count = on.count;
      finds = on.finds;
      inputs = λ m l h. by_place on m h (split_last m n l (cases_order m n));
      at_ends = on.at_ends;
      closed = on.closed;
      live = on.live;
    }
  where
    by_place : IsSearch cells ends now list n 0 0 → (m : ℕ) → IsInputAt cells m → (m < n) ⊎ (m ≡ n) → IsMarked now m
    by_place on m h (inl earlier) = on.inputs m earlier h
    by_place on m (e, there, input) (inr here) =
        let one : c ≡ e = same_Some c e (sym is ∙ ap (slice_get cells) (sym here) ∙ there) in
        let so : c.gate ≡ Input = ap (λ (x : Cell). x.gate) one ∙ input in
        subst (λ (x : ℕ). IsMarked now x) (sym here) (grows.all n (input_in n c.gate so))

-- one end more has been marked
pub search_end : (cells : List Cell) (ends : List ℕ) (marks : List Bool) (found : List ℕ) (now : List Bool) (list : List ℕ) (i e n : ℕ)
    → IsSearch cells ends marks found i e 0 → slice_get ends e ≡ Some n → Grows (n ∷ []) marks found now list
    → IsSearch cells ends now list i (e + 1) 0
search_end cells ends marks found now list i e n s is grows =
    let end : LeadsTo cells ends n = IsEnd n (e, slice_get_within ends e n is, get_or_from_slice_get ends e n n is) in
    let on = search_grows cells ends (n ∷ []) marks found now list i e 0 s (omega arith) grows (λ m h. inr (subst (LeadsTo cells ends) (sym (only_one n m h)) end)) in
    record {
      count = on.count;
      finds = on.finds;
      inputs = on.inputs;
      at_ends = λ k m l h. by_place on k m h (split_last k e l (cases_order k e));
      closed = on.closed;
      live = on.live;
    }
  where
    by_place : IsSearch cells ends now list i e 0 → (k m : ℕ) → slice_get ends k ≡ Some m → (k < e) ⊎ (k ≡ e) → IsMarked now m
    by_place on k m h (inl earlier) = on.at_ends k m earlier h
    by_place on k m h (inr here) =
        let one : n ≡ m = same_Some n m (sym is ∙ ap (slice_get ends) (sym here) ∙ h) in
        subst (λ (x : ℕ). IsMarked now x) one (grows.all n (the_one n n refl))

-- what one net more names has been marked
pub search_pins : (cells : List Cell) (ends : List ℕ) (marks : List Bool) (found : List ℕ) (now : List Bool) (list : List ℕ) (i e next n : ℕ) (c : Cell)
    → IsSearch cells ends marks found i e next → slice_get found next ≡ Some n → slice_get cells n ≡ Some c → Grows (pins c.gate) marks found now list
    → IsSearch cells ends now list i e (next + 1)
search_pins cells ends marks found now list i e next n c s found_it is grows =
    let within : next < length found = slice_get_within found next n found_it in
    let on = search_grows cells ends (pins c.gate) marks found now list i e next s (omega (arith, within)) grows (λ a h. live a h (s.live n (s.finds.marked next n found_it))) in
    record {
      count = on.count;
      finds = on.finds;
      inputs = on.inputs;
      at_ends = on.at_ends;
      closed = λ k m a d l h there named. by_place on k m a d h there named (split_last k next l (cases_order k next));
      live = on.live;
    }
  where
    live : (a : ℕ) → Contains (pins c.gate) a → IsLive cells ends n → IsLive cells ends a
    live a h (inr leads) = inr (IsPin a n c is h leads)
    live a h (inl (d, there, input)) =
        let one : c ≡ d = same_Some c d (sym is ∙ there) in
        let so : c.gate ≡ Input = ap (λ (x : Cell). x.gate) one ∙ input in
        no_one a (subst (λ (x : Function). Contains (pins x) a) so h)

    by_place : IsSearch cells ends now list i e next → (k m a : ℕ) (d : Cell) → slice_get list k ≡ Some m → slice_get cells m ≡ Some d → Contains (pins d.gate) a
        → (k < next) ⊎ (k ≡ next) → IsMarked now a
    by_place on k m a d h there named (inl earlier) = on.closed k m a d earlier h there named
    by_place on k m a d h there named (inr here) =
        let net : n ≡ m = same_Some n m (sym (grows.front next n found_it) ∙ ap (slice_get list) (sym here) ∙ h) in
        let one : c ≡ d = same_Some c d (sym is ∙ ap (slice_get cells) net ∙ there) in
        grows.all a (subst (λ (x : Cell). Contains (pins x.gate) a) (sym one) named)

-- the search has come to its end
pub search_done : (cells : List Cell) (ends : List ℕ) (marks : List Bool) (found : List ℕ) (i e next : ℕ) → IsSearch cells ends marks found i e next
    → length cells ≤ i → length ends ≤ e → length found ≤ next → AreMarks cells ends marks
search_done cells ends marks found i e next s all_cells all_ends all_found = record {
  count = s.count;
  inputs = λ n h. s.inputs n (omega (arith, all_cells, slice_get_within cells n h.0 h.1)) h;
  at_ends = λ k n h. s.at_ends k n (omega (arith, all_ends, slice_get_within ends k n h)) h;
  closed = λ n a c h there named. let it = s.finds.listed n h in s.closed it.0 n a c (omega (arith, all_found, slice_get_within found it.0 n it.1)) it.1 there named;
  live = s.live;
}

-- what is known of all inputs and ends is known of fewer
pub search_less : (cells : List Cell) (ends : List ℕ) (marks : List Bool) (found : List ℕ) (i j e k next : ℕ) → IsSearch cells ends marks found i e next → j ≤ i → k ≤ e
    → IsSearch cells ends marks found j k next
search_less cells ends marks found i j e k next s fewer less = record {
  count = s.count;
  finds = s.finds;
  inputs = λ n l h. s.inputs n (omega (arith, l, fewer)) h;
  at_ends = λ m n l h. s.at_ends m n (omega (arith, l, less)) h;
  closed = s.closed;
  live = s.live;
}

-- a net that was found is one of so many
pub found_low : (cells : List Cell) (ends : List ℕ) (marks : List Bool) (found : List ℕ) (i e next k n : ℕ) → IsSearch cells ends marks found i e next
    → slice_get found k ≡ Some n → n < length cells
found_low cells ends marks found i e next k n s is =
    let low = slice_get_within marks n true (s.finds.marked k n is) in
    let same = s.count in
    omega (arith, low, same)

-- what holds of all elements by recursion holds of each
pub each_below : (n : ℕ) (xs : List ℕ) → AllByRecursion (λ a. a < n) xs → (k d : ℕ) → k < length xs → get_or xs k d < n
each_below n [] h k d l = absurd (omega (arith, l))
each_below n (x ∷ xs) h zero d l = h.0
each_below n (x ∷ xs) h (suc k) d l = each_below n xs h.1 k d (omega (arith, l))
