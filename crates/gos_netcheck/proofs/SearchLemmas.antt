-- The search keeps what it stands for: where it goes on to a net, gives a net its place, and ends.
use Rattle.std.specs.Prelude.{◌≡◌, ◌≢◌, ℕ, zero, suc, ◌<◌, ◌⊎◌, Bool, true, false, List, [], ◌∷◌, ◌++◌, length, take, get_or, Contains, Some, Option, slice_get, slice_set}
use Rattle.std.proofs.Common.{arith, refl, sym, ap, subst, inl, inr, ◌∙◌}
use Rattle.std.proofs.Math.Dec.{eqb}
use Rattle.std.proofs.lemmas.Bool.{eqb-true, eqb-false}
use Rattle.std.proofs.lemmas.List.{length-set, take-append-le, take_all}
use Rattle.std.proofs.lemmas.List.Elements.{Contains-append_left, Contains-append_right, Contains-append_cases}
use Rattle.std.proofs.lemmas.List.Sums.{sum_by-set}
use Rattle.std.proofs.lemmas.Option.{same_Some, slice_get-get_or, get_or_from_slice_get, slice_get_within}
use Rattle.gos_netlist.specs.Nets.{Cell}
use Rattle.gos_netcheck.specs.declared.schedule.Mark.{Mark}
use Rattle.gos_netcheck.specs.declared.schedule.Mark.TheVariants.{New, Open, Placed}
use Rattle.gos_netcheck.specs.Schedule.{IsDue, IsSchedule}
use Rattle.gos_netcheck.specs.inner.Search.{Trail, IsSearch, IsReady, IsBegun, IsLater, steps_of}
use Rattle.gos_netcheck.proofs.TurnLemmas.{first, later, head_or_later, not_in_nil}

same_by : (a b : ℕ) (t : Bool) → eqb a b ≡ t → (a ≡ b) ⊎ (a ≢ b)
same_by a b true e = inl (eqb-true a b e)
same_by a b false e = inr (eqb-false a b e)

same_or_not : (a b : ℕ) → (a ≡ b) ⊎ (a ≢ b)
same_or_not a b = same_by a b (eqb a b) refl

-- a mark after one is set
pub set_here : (marks : List Mark) (p : ℕ) (m : Mark) → p < length marks → slice_get (slice_set marks p m) p ≡ Some m
set_here [] p m l = absurd (omega (arith, l))
set_here (x ∷ xs) zero m l = refl
set_here (x ∷ xs) (suc p) m l = set_here xs p m (omega (arith, l))

-- of two marks that are set the later one stays
set_twice : (marks : List Mark) (p : ℕ) (m k : Mark) → slice_set (slice_set marks p m) p k ≡ slice_set marks p k
set_twice [] p m k = refl
set_twice (x ∷ xs) zero m k = refl
set_twice (x ∷ xs) (suc p) m k = ap (λ rest. x ∷ rest) (set_twice xs p m k)

set_there : (marks : List Mark) (p n : ℕ) (m : Mark) → p ≢ n → slice_get (slice_set marks p m) n ≡ slice_get marks n
set_there [] p n m h = refl
set_there (x ∷ xs) zero zero m h = absurd (h refl)
set_there (x ∷ xs) zero (suc n) m h = refl
set_there (x ∷ xs) (suc p) zero m h = refl
set_there (x ∷ xs) (suc p) (suc n) m h = set_there xs p n m (λ e. h (ap suc e))

-- what a mark was before one is set, and that a mark of another kind stays
read_after : (marks : List Mark) (p n : ℕ) (m k : Mark) → p < length marks → slice_get (slice_set marks p m) n ≡ Some k
    → ((p ≡ n) × (m ≡ k)) ⊎ ((p ≢ n) × (slice_get marks n ≡ Some k))
read_after marks p n m k l is = by_place (same_or_not p n)
  where
    by_place : (p ≡ n) ⊎ (p ≢ n) → ((p ≡ n) × (m ≡ k)) ⊎ ((p ≢ n) × (slice_get marks n ≡ Some k))
    by_place (inl e) =
        let P : ℕ → Type 0 = λ j. slice_get (slice_set marks p m) j ≡ Some k in
        inl (e, same_Some m k (sym (set_here marks p m l) ∙ subst P (sym e) is))
    by_place (inr h) = inr (h, sym (set_there marks p n m h) ∙ is)

kept_after : (marks : List Mark) (p n : ℕ) (m k : Mark) → (slice_get marks p ≡ Some k → ⊥) → slice_get marks n ≡ Some k
    → slice_get (slice_set marks p m) n ≡ Some k
kept_after marks p n m k other is = by_place (same_or_not p n)
  where
    by_place : (p ≡ n) ⊎ (p ≢ n) → slice_get (slice_set marks p m) n ≡ Some k
    by_place (inl e) =
        let P : ℕ → Type 0 = λ j. slice_get marks j ≡ Some k in
        absurd (other (subst P (sym e) is))
    by_place (inr h) = set_there marks p n m h ∙ is

-- one net has one mark
new_or_open : (m : Option Mark) → m ≡ Some New → m ≡ Some Open → ⊥
new_or_open m a b = let no : Some New ≡ Some Open = sym a ∙ b in cc

new_or_placed : (m : Option Mark) → m ≡ Some New → m ≡ Some Placed → ⊥
new_or_placed m a b = let no : Some New ≡ Some Placed = sym a ∙ b in cc

open_or_placed : (m : Option Mark) → m ≡ Some Open → m ≡ Some Placed → ⊥
open_or_placed m a b = let no : Some Open ≡ Some Placed = sym a ∙ b in cc

-- it goes on to a net that is new
pub goes_on : (cells : List Cell) (marks : List Mark) (path order : List ℕ) (p : ℕ) → IsSearch cells marks path order
    → slice_get marks p ≡ Some New → Trail cells (p ∷ path) → IsSearch cells (slice_set marks p Open) (p ∷ path) order
goes_on cells marks path order p s new trail =
    record {
      count = length-set marks p Open ∙ s.count;
      placed = λ n e. placed n (read_after marks p n Open Placed within e);
      in_order = λ n among. kept_after marks p n Open Placed (new_or_placed (slice_get marks p) new) (s.in_order n among);
      opened = λ n e. opened n (read_after marks p n Open Open within e);
      on_path = λ n among. on_path n (head_or_later n p path among);
      due = s.due;
      distinct = (λ among. new_or_open (slice_get marks p) new (s.on_path p among), s.distinct);
      trail = trail;
    }
  where
    within : p < length marks
    within = slice_get_within marks p New new

    placed : (n : ℕ) → ((p ≡ n) × (Open ≡ Placed)) ⊎ ((p ≢ n) × (slice_get marks n ≡ Some Placed)) → Contains order n
    placed n (inl (e, other)) = absurd cc
    placed n (inr (h, was)) = s.placed n was

    opened : (n : ℕ) → ((p ≡ n) × (Open ≡ Open)) ⊎ ((p ≢ n) × (slice_get marks n ≡ Some Open)) → Contains (p ∷ path) n
    opened n (inl (e, same)) =
        let P : ℕ → Type 0 = λ j. Contains (p ∷ path) j in
        subst P e (first p path)
    opened n (inr (h, was)) = later n p path (s.opened n was)

    on_path : (n : ℕ) → (p ≡ n) ⊎ Contains path n → slice_get (slice_set marks p Open) n ≡ Some Open
    on_path n (inl e) =
        let P : ℕ → Type 0 = λ j. slice_get (slice_set marks p Open) j ≡ Some Open in
        subst P e (set_here marks p Open within)
    on_path n (inr among) = kept_after marks p n Open Open (new_or_open (slice_get marks p) new) (s.on_path n among)

-- the nets of an order and one more
push_cases : (xs : List ℕ) (x i b : ℕ) → slice_get (xs ++ x ∷ []) i ≡ Some b
    → ((i < length xs) × (slice_get xs i ≡ Some b)) ⊎ ((i ≡ length xs) × (x ≡ b))
push_cases [] x zero b is = inr (refl, same_Some x b is)
push_cases [] x (suc i) b is = absurd cc
push_cases (y ∷ ys) x zero b is = inl (omega arith, is)
push_cases (y ∷ ys) x (suc i) b is = one_on (push_cases ys x i b is)
  where
    one_on : ((i < length ys) × (slice_get ys i ≡ Some b)) ⊎ ((i ≡ length ys) × (x ≡ b))
        → ((suc i < length (y ∷ ys)) × (slice_get ys i ≡ Some b)) ⊎ ((suc i ≡ length (y ∷ ys)) × (x ≡ b))
    one_on (inl (l, at)) = inl (omega (arith, l), at)
    one_on (inr (e, same)) = inr (ap suc e, same)

due_more : (cells : List Cell) (order : List ℕ) (net : ℕ)
    → ((i b : ℕ) → slice_get order i ≡ Some b → IsDue cells (take i order) b) → IsDue cells order net
    → (i b : ℕ) → slice_get (order ++ net ∷ []) i ≡ Some b → IsDue cells (take i (order ++ net ∷ [])) b
due_more cells order net so_far this i b is = by_place (push_cases order net i b is)
  where
    by_place : ((i < length order) × (slice_get order i ≡ Some b)) ⊎ ((i ≡ length order) × (net ≡ b)) → IsDue cells (take i (order ++ net ∷ [])) b
    by_place (inl (l, at)) =
        let P : List ℕ → Type 0 = λ xs. IsDue cells xs b in
        subst P (sym (take-append-le i order (net ∷ []) (omega (arith, l)))) (so_far i b at)
    by_place (inr (e, same)) =
        let P : List ℕ → Type 0 = λ xs. IsDue cells xs b in
        let whole : take i (order ++ net ∷ []) ≡ order = take-append-le i order (net ∷ []) (omega (arith, e)) ∙ take_all i order (omega (arith, e)) in
        subst P (sym whole) (subst (IsDue cells order) same this)

trail_behind : (cells : List Cell) (a : ℕ) (ns : List ℕ) → Trail cells (a ∷ ns) → Trail cells ns
trail_behind cells a [] trail = tt
trail_behind cells a (b ∷ ns) trail = trail.1

-- it gives the last net of the path its place, where all that feeds it has one
pub places : (cells : List Cell) (marks : List Mark) (net : ℕ) (rest order : List ℕ) → IsSearch cells marks (net ∷ rest) order
    → IsReady cells marks net → IsSearch cells (slice_set marks net Placed) rest (order ++ net ∷ [])
places cells marks net rest order s ready =
    record {
      count = length-set marks net Placed ∙ s.count;
      placed = λ n e. placed n (read_after marks net n Placed Placed within e);
      in_order = λ n among. in_order n (Contains-append_cases order (net ∷ []) n among);
      opened = λ n e. opened n (read_after marks net n Placed Open within e);
      on_path = λ n among. set_there marks net n Placed (differs n among) ∙ s.on_path n (later n net rest among);
      due = due_more cells order net s.due
          (omega (arith, within, s.count), λ among. open_or_placed (slice_get marks net) is_open (s.in_order net among), λ a feeds. s.placed a (ready a feeds));
      distinct = s.distinct.1;
      trail = trail_behind cells net rest s.trail;
    }
  where
    is_open : slice_get marks net ≡ Some Open
    is_open = s.on_path net (first net rest)

    within : net < length marks
    within = slice_get_within marks net Open is_open

    differs : (n : ℕ) → Contains rest n → net ≢ n
    differs n among e =
        let P : ℕ → Type 0 = λ j. Contains rest j in
        s.distinct.0 (subst P (sym e) among)

    placed : (n : ℕ) → ((net ≡ n) × (Placed ≡ Placed)) ⊎ ((net ≢ n) × (slice_get marks n ≡ Some Placed)) → Contains (order ++ net ∷ []) n
    placed n (inl (e, same)) =
        let P : ℕ → Type 0 = λ j. Contains (order ++ net ∷ []) j in
        subst P e (Contains-append_right order (net ∷ []) net (first net []))
    placed n (inr (h, was)) = Contains-append_left order (net ∷ []) n (s.placed n was)

    this : (n : ℕ) → (net ≡ n) ⊎ Contains [] n → slice_get (slice_set marks net Placed) n ≡ Some Placed
    this n (inl e) =
        let P : ℕ → Type 0 = λ j. slice_get (slice_set marks net Placed) j ≡ Some Placed in
        subst P e (set_here marks net Placed within)
    this n (inr none) = absurd (not_in_nil n none)

    in_order : (n : ℕ) → Contains order n ⊎ Contains (net ∷ []) n → slice_get (slice_set marks net Placed) n ≡ Some Placed
    in_order n (inl among) = kept_after marks net n Placed Placed (open_or_placed (slice_get marks net) is_open) (s.in_order n among)
    in_order n (inr one) = this n (head_or_later n net [] one)

    behind : (n : ℕ) → net ≢ n → (net ≡ n) ⊎ Contains rest n → Contains rest n
    behind n h (inl e) = absurd (h e)
    behind n h (inr among) = among

    opened : (n : ℕ) → ((net ≡ n) × (Placed ≡ Open)) ⊎ ((net ≢ n) × (slice_get marks n ≡ Some Open)) → Contains rest n
    opened n (inl (e, other)) = absurd cc
    opened n (inr (h, was)) = behind n h (head_or_later n net rest (s.opened n was))

-- a step leaves fewer steps, and no net is new again
begun_after : (marks : List Mark) (p n : ℕ) (m : Mark) → IsBegun (Some m) → p < length marks → IsBegun (slice_get marks n)
    → IsBegun (slice_get (slice_set marks p m) n)
begun_after marks p n m this l was = by_place (same_or_not p n)
  where
    by_place : (p ≡ n) ⊎ (p ≢ n) → IsBegun (slice_get (slice_set marks p m) n)
    by_place (inl e) =
        let P : ℕ → Type 0 = λ j. IsBegun (slice_get (slice_set marks p m) j) in
        subst P e (subst IsBegun (sym (set_here marks p m l)) this)
    by_place (inr h) = subst IsBegun (sym (set_there marks p n m h)) was

pub later_by_open : (marks : List Mark) (p : ℕ) → slice_get marks p ≡ Some New → IsLater marks (slice_set marks p Open)
later_by_open marks p new =
    let l : p < length marks = slice_get_within marks p New new in
    let was : steps_of (get_or marks p New) ≡ 2 = ap steps_of (get_or_from_slice_get marks p New New new) in
    record {
      nearer = omega (arith, was, sum_by-set steps_of marks p Open New l);
      begun = λ n was. begun_after marks p n Open tt l was;
    }

pub later_by_placed : (marks : List Mark) (p : ℕ) → slice_get marks p ≡ Some Open → IsLater marks (slice_set marks p Placed)
later_by_placed marks p is_open =
    let l : p < length marks = slice_get_within marks p Open is_open in
    let was : steps_of (get_or marks p Open) ≡ 1 = ap steps_of (get_or_from_slice_get marks p Open Open is_open) in
    record {
      nearer = omega (arith, was, sum_by-set steps_of marks p Placed Open l);
      begun = λ n was. begun_after marks p n Placed tt l was;
    }

-- where the path is empty, it gives a new net its place at once, if all that feeds it has one
pub places_at_once : (cells : List Cell) (marks : List Mark) (net : ℕ) (order : List ℕ) → IsSearch cells marks [] order → slice_get marks net ≡ Some New
    → IsReady cells marks net → IsSearch cells (slice_set marks net Placed) [] (order ++ net ∷ [])
places_at_once cells marks net order s new ready =
    let other = new_or_placed (slice_get marks net) new in
    let ready_still : IsReady cells (slice_set marks net Open) net = λ a feeds. kept_after marks net a Open Placed other (ready a feeds) in
    let P : List Mark → Type 0 = λ m. IsSearch cells m [] (order ++ net ∷ []) in
    subst P (set_twice marks net Open Placed) (places cells (slice_set marks net Open) net [] order (goes_on cells marks [] order net s new tt) ready_still)

pub later_at_once : (marks : List Mark) (p : ℕ) → slice_get marks p ≡ Some New → IsLater marks (slice_set marks p Placed)
later_at_once marks p new =
    let l : p < length marks = slice_get_within marks p New new in
    let was : steps_of (get_or marks p New) ≡ 2 = ap steps_of (get_or_from_slice_get marks p New New new) in
    record {
      nearer = omega (arith, was, sum_by-set steps_of marks p Placed New l);
      begun = λ n was. begun_after marks p n Placed tt l was;
    }

-- where the path is empty and no net is new, the order is a schedule
pub search_ends : (cells : List Cell) (marks : List Mark) (order : List ℕ) → IsSearch cells marks [] order
    → ((n : ℕ) → n < length cells → IsBegun (slice_get marks n)) → IsSchedule cells order
search_ends cells marks order s begun = record { due = s.due; all = λ n l. by_mark n l (get_or marks n New) (slice_get-get_or marks n New (omega (arith, l, s.count))) }
  where
    by_mark : (n : ℕ) → n < length cells → (m : Mark) → slice_get marks n ≡ Some m → Contains order n
    by_mark n l New is = absurd (subst IsBegun is (begun n l))
    by_mark n l Open is = absurd (not_in_nil n (s.opened n is))
    by_mark n l Placed is = s.placed n is
