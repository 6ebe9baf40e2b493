-- What is left of cells is a part of them.
use Rattle.std.specs.Prelude.{◌≡◌, ◌⊎◌, ℕ, suc, ◌+◌, ◌<◌, Bool, true, false, if◌then◌else◌, List, [], ◌∷◌, ◌++◌, length, map, Some, slice_get, get_or, Contains}
use Rattle.std.specs.List.{AllByRecursion}
use Rattle.std.proofs.Common.{arith, refl, sym, ap, subst, inl, inr, ◌∙◌}
use Rattle.std.proofs.lemmas.Bool.{cases_order}
use Rattle.std.proofs.lemmas.Option.{same_Some, slice_get-get_or, get_or_from_slice_get, slice_get_within}
use Rattle.gos_netlist.specs.declared.nets.Cell as declared
use Rattle.gos_netlist.specs.Nets.{Function, Input, Const, Not, And, Or, Xor, Mux, Add, Sub, Eq, Less, Gate, Reg, Cell, pins}
use Rattle.gos_netlist.specs.Seen.{cell_of}
use Rattle.gos_netlist.specs.Settling.{at}
use Rattle.gos_netlist.specs.Renamed.{with_renamed}
use Rattle.gos_netcheck.specs.CellRules.{PinsExist, NetsExist}
use Rattle.gos_tidy.specs.Mapped.{renamed, IsKept}
use Rattle.gos_tidy.specs.Reduced.{IsPart}
use Rattle.gos_tidy.specs.Tidy.{LeadsTo, IsEnd, IsPin, AllLead}
use Rattle.gos_tidy.specs.inner.Marks.{IsMarked, IsLive, AreMarks}
use Rattle.gos_tidy.specs.inner.Places.{AreNumbers, ArePlaced}
use Rattle.gos_tidy.proofs.ReadLemmas.{contains_map, renamed_named}
use Rattle.gos_tidy.proofs.MarkLemmas.{last_there, front_there, back_cases, longer, split_last}

-- one mark more is numbered
pub numbers_more : (marks : List Bool) (n : ℕ) (mark : Bool) (numbers places : List ℕ) → AreNumbers marks n numbers places → slice_get marks n ≡ Some mark
    → AreNumbers marks (n + 1) (numbers ++ (length places ∷ [])) (if mark then places ++ (n ∷ []) else places)
numbers_more marks n true numbers places a is = record {
  count = longer numbers (length places) ∙ ap (λ (x : ℕ). x + 1) a.count;
  few = let one = longer places n in let so = a.few in omega (arith, one, so);
  placed = λ k l h. by_place k h (split_last k n l (cases_order k n));
  marked = λ i k h. by_case i k (back_cases places n i k h);
  rises = λ i j k l less first second. by_both i j k l less first second (back_cases places n i k first) (back_cases places n j l second);
}
  where
    here_at : at (numbers ++ (length places ∷ [])) n ≡ length places
    here_at = get_or_from_slice_get (numbers ++ (length places ∷ [])) n (length places) 0
        (ap (slice_get (numbers ++ (length places ∷ []))) (sym a.count) ∙ last_there numbers (length places))

    before_at : (k : ℕ) → k < n → at (numbers ++ (length places ∷ [])) k ≡ at numbers k
    before_at k l = get_or_from_slice_get (numbers ++ (length places ∷ [])) k (at numbers k) 0
        (front_there numbers (length places) k (at numbers k) (slice_get-get_or numbers k 0 (let so = a.count in omega (arith, l, so))))

    by_place : (k : ℕ) → IsMarked marks k → (k < n) ⊎ (k ≡ n) → slice_get (places ++ (n ∷ [])) (at (numbers ++ (length places ∷ [])) k) ≡ Some k
    by_place k h (inl earlier) =
        ap (slice_get (places ++ (n ∷ []))) (before_at k earlier) ∙ front_there places n (at numbers k) k (a.placed k earlier h)
    by_place k h (inr here) =
        ap (slice_get (places ++ (n ∷ []))) (ap (at (numbers ++ (length places ∷ []))) here ∙ here_at) ∙ last_there places n ∙ ap Some (sym here)

    by_case : (i k : ℕ) → (slice_get places i ≡ Some k) ⊎ (k ≡ n) → (k < n + 1) × IsMarked marks k
    by_case i k (inl before) = let so = a.marked i k before in let low = so.0 in (omega (arith, low), so.1)
    by_case i k (inr here) = (omega (arith, here), ap (slice_get marks) here ∙ is)

    by_both : (i j k l : ℕ) → i < j → slice_get (places ++ (n ∷ [])) i ≡ Some k → slice_get (places ++ (n ∷ [])) j ≡ Some l
        → (slice_get places i ≡ Some k) ⊎ (k ≡ n) → (slice_get places j ≡ Some l) ⊎ (l ≡ n) → k < l
    by_both i j k l less first second (inl before) (inl later) = a.rises i j k l less before later
    by_both i j k l less first second (inl before) (inr last) = let low = (a.marked i k before).0 in omega (arith, low, last)
    by_both i j k l less first second (inr here) other =
        let inside = slice_get_within (places ++ (n ∷ [])) j l second in
        let one = longer places n in
        let low : i < length places = omega (arith, less, inside, one) in
        let there = slice_get-get_or places i 0 low in
        let same : k ≡ get_or places i 0 = sym (same_Some (get_or places i 0) k (sym (front_there places n i (get_or places i 0) there) ∙ first)) in
        let under = (a.marked i (get_or places i 0) there).0 in
        absurd (omega (arith, here, same, under))
numbers_more marks n false numbers places a is = record {
  count = longer numbers (length places) ∙ ap (λ (x : ℕ). x + 1) a.count;
  few = let so = a.few in omega (arith, so);
  placed = λ k l h. by_place k h (split_last k n l (cases_order k n));
  marked = λ i k h. let so = a.marked i k h in let low = so.0 in (omega (arith, low), so.1);
  rises = a.rises;
}
  where
    by_place : (k : ℕ) → IsMarked marks k → (k < n) ⊎ (k ≡ n) → slice_get places (at (numbers ++ (length places ∷ [])) k) ≡ Some k
    by_place k h (inl earlier) =
        ap (slice_get places) (get_or_from_slice_get (numbers ++ (length places ∷ [])) k (at numbers k) 0
        (front_there numbers (length places) k (at numbers k) (slice_get-get_or numbers k 0 (let so = a.count in omega (arith, earlier, so)))))
        ∙ a.placed k earlier h
    by_place k h (inr here) = absurd (wrong (same_Some false true (sym is ∙ ap (slice_get marks) (sym here) ∙ h)))
      where
        wrong : false ≡ true → ⊥
        wrong e = cc

-- the same, as the program has it
pub numbers_step : (marks : List Bool) (n : ℕ) (mark : Bool) (numbers places : List ℕ) (count : ℕ) (more now : List ℕ) → AreNumbers marks n numbers places
    → slice_get marks n ≡ Some mark → count ≡ length places → more ≡ numbers ++ (count ∷ []) → now ≡ (if mark then places ++ (n ∷ []) else places)
    → AreNumbers marks (n + 1) more now
numbers_step marks n mark numbers places count more now a is same numbered placed =
    subst (λ (x : List ℕ). AreNumbers marks (n + 1) x now) (sym (numbered ∙ ap (λ (k : ℕ). numbers ++ (k ∷ [])) same))
    (subst (λ (x : List ℕ). AreNumbers marks (n + 1) (numbers ++ (length places ∷ [])) x) (sym placed) (numbers_more marks n mark numbers places a is))

map_last : (xs : List declared.Cell) (x : declared.Cell) → map cell_of (xs ++ (x ∷ [])) ≡ map cell_of xs ++ (cell_of x ∷ [])
map_last [] x = refl
map_last (y ∷ xs) x = ap (λ (cs : List Cell). cell_of y ∷ cs) (map_last xs x)

-- one cell more is placed
pub placed_more : (cells : List Cell) (left : List declared.Cell) (x : declared.Cell) (numbers places : List ℕ) (i p : ℕ) (c : Cell)
    → ArePlaced cells (map cell_of left) numbers places i → slice_get places i ≡ Some p → slice_get cells p ≡ Some c → cell_of x ≡ with_renamed (at numbers) c
    → ArePlaced cells (map cell_of (left ++ (x ∷ []))) numbers places (i + 1)
placed_more cells left x numbers places i p c a is there shown = record {
  count = ap length (map_last left x) ∙ longer (map cell_of left) (cell_of x) ∙ ap (λ (n : ℕ). n + 1) a.count;
  each = λ j q d l h at_q. ap (λ (cs : List Cell). slice_get cs j) (map_last left x) ∙ by_place j q d h at_q (split_last j i l (cases_order j i));
}
  where
    by_place : (j q : ℕ) (d : Cell) → slice_get places j ≡ Some q → slice_get cells q ≡ Some d → (j < i) ⊎ (j ≡ i)
        → slice_get (map cell_of left ++ (cell_of x ∷ [])) j ≡ Some (with_renamed (at numbers) d)
    by_place j q d h at_q (inl earlier) = front_there (map cell_of left) (cell_of x) j (with_renamed (at numbers) d) (a.each j q d earlier h at_q)
    by_place j q d h at_q (inr here) =
        let net : p ≡ q = same_Some p q (sym is ∙ ap (slice_get places) (sym here) ∙ h) in
        let one : c ≡ d = same_Some c d (sym there ∙ ap (slice_get cells) net ∙ at_q) in
        ap (slice_get (map cell_of left ++ (cell_of x ∷ []))) (here ∙ sym a.count) ∙ last_there (map cell_of left) (cell_of x)
        ∙ ap Some (shown ∙ ap (with_renamed (at numbers)) one)

-- the same, as the program has it
pub placed_step : (cells : List Cell) (left now : List declared.Cell) (x : declared.Cell) (numbers places : List ℕ) (i p : ℕ) (c : Cell)
    → ArePlaced cells (map cell_of left) numbers places i → now ≡ left ++ (x ∷ []) → slice_get places i ≡ Some p → slice_get cells p ≡ Some c
    → cell_of x ≡ with_renamed (at numbers) c → ArePlaced cells (map cell_of now) numbers places (i + 1)
placed_step cells left now x numbers places i p c a same is there shown =
    subst (λ (xs : List declared.Cell). ArePlaced cells (map cell_of xs) numbers places (i + 1)) (sym same)
    (placed_more cells left x numbers places i p c a is there shown)

-- a gate whose nets are renamed and renamed back
renamed_back : (f h : ℕ → ℕ) (g : Function) → ((a : ℕ) → Contains (pins g) a → h (f a) ≡ a) → renamed h (renamed f g) ≡ g
renamed_back f h Input b = refl
renamed_back f h (Const k) b = refl
renamed_back f h (Not x) b = ap Not (b x (0, omega arith, refl))
renamed_back f h (And x y) b = λ j. And (b x (0, omega arith, refl) j) (b y (1, omega arith, refl) j)
renamed_back f h (Or x y) b = λ j. Or (b x (0, omega arith, refl) j) (b y (1, omega arith, refl) j)
renamed_back f h (Xor x y) b = λ j. Xor (b x (0, omega arith, refl) j) (b y (1, omega arith, refl) j)
renamed_back f h (Mux x y z) b = λ j. Mux (b x (0, omega arith, refl) j) (b y (1, omega arith, refl) j) (b z (2, omega arith, refl) j)
renamed_back f h (Add x y) b = λ j. Add (b x (0, omega arith, refl) j) (b y (1, omega arith, refl) j)
renamed_back f h (Sub x y) b = λ j. Sub (b x (0, omega arith, refl) j) (b y (1, omega arith, refl) j)
renamed_back f h (Eq x y) b = λ j. Eq (b x (0, omega arith, refl) j) (b y (1, omega arith, refl) j)
renamed_back f h (Less x y) b = λ j. Less (b x (0, omega arith, refl) j) (b y (1, omega arith, refl) j)
renamed_back f h (Gate x y) b = λ j. Gate (b x (0, omega arith, refl) j) (b y (1, omega arith, refl) j)
renamed_back f h (Reg x) b = ap Reg (b x (0, omega arith, refl))

later_in : (x : ℕ) (xs : List ℕ) (a : ℕ) → Contains xs a → Contains (x ∷ xs) a
later_in x xs a (i, inside, is) = (suc i, omega (arith, inside), is)

all_below : (f : ℕ → ℕ) (n : ℕ) (xs : List ℕ) → ((a : ℕ) → Contains xs a → f a < n) → AllByRecursion (λ a. a < n) (map f xs)
all_below f n [] h = tt
all_below f n (x ∷ xs) h = (h x (0, omega arith, refl), all_below f n xs (λ a there. h a (later_in x xs a there)))

-- the nets of a renamed gate
pub pins_below : (f : ℕ → ℕ) (n : ℕ) (g : Function) → ((a : ℕ) → Contains (pins g) a → f a < n) → AllByRecursion (λ a. a < n) (pins (renamed f g))
pins_below f n Input h = tt
pins_below f n (Const k) h = tt
pins_below f n (Not x) h = all_below f n (x ∷ []) h
pins_below f n (And x y) h = all_below f n (x ∷ y ∷ []) h
pins_below f n (Or x y) h = all_below f n (x ∷ y ∷ []) h
pins_below f n (Xor x y) h = all_below f n (x ∷ y ∷ []) h
pins_below f n (Mux x y z) h = all_below f n (x ∷ y ∷ z ∷ []) h
pins_below f n (Add x y) h = all_below f n (x ∷ y ∷ []) h
pins_below f n (Sub x y) h = all_below f n (x ∷ y ∷ []) h
pins_below f n (Eq x y) h = all_below f n (x ∷ y ∷ []) h
pins_below f n (Less x y) h = all_below f n (x ∷ y ∷ []) h
pins_below f n (Gate x y) h = all_below f n (x ∷ y ∷ []) h
pins_below f n (Reg x) h = all_below f n (x ∷ []) h

-- what has been marked, numbered and placed
pub record IsLeft (cells : List Cell) (ends : List ℕ) (marks : List Bool) (numbers places : List ℕ) (others : List Cell) : Type 0 where
  pub marked : AreMarks cells ends marks
  pub numbered : AreNumbers marks (length marks) numbers places
  pub placed : ArePlaced cells others numbers places (length places)

-- a marked net has its number
number_at_place : (cells : List Cell) (ends : List ℕ) (marks : List Bool) (numbers places : List ℕ) (others : List Cell) → IsLeft cells ends marks numbers places others
    → (n : ℕ) → IsMarked marks n → slice_get places (at numbers n) ≡ Some n
number_at_place cells ends marks numbers places others l n h = l.numbered.placed n (slice_get_within marks n true h) h

pub back : (cells : List Cell) (ends : List ℕ) (marks : List Bool) (numbers places : List ℕ) (others : List Cell) → IsLeft cells ends marks numbers places others
    → (n : ℕ) → IsMarked marks n → at places (at numbers n) ≡ n
back cells ends marks numbers places others l n h =
    get_or_from_slice_get places (at numbers n) n 0 (number_at_place cells ends marks numbers places others l n h)

pub low_number : (cells : List Cell) (ends : List ℕ) (marks : List Bool) (numbers places : List ℕ) (others : List Cell) → IsLeft cells ends marks numbers places others
    → (n : ℕ) → IsMarked marks n → at numbers n < length others
low_number cells ends marks numbers places others l n h =
    let low = slice_get_within places (at numbers n) n (number_at_place cells ends marks numbers places others l n h) in
    let same = l.placed.count in
    omega (arith, low, same)

-- the cell that a cell was
pub was : (cells : List Cell) (ends : List ℕ) (marks : List Bool) (numbers places : List ℕ) (others : List Cell) → IsLeft cells ends marks numbers places others
    → (n : ℕ) (c : Cell) → slice_get others n ≡ Some c
    → (e : Cell) × (slice_get cells (at places n) ≡ Some e) × IsMarked marks (at places n) × (c ≡ with_renamed (at numbers) e) × (slice_get places n ≡ Some (at places n))
was cells ends marks numbers places others l n c is =
    let same = l.placed.count in
    let inside : n < length places = let low = slice_get_within others n c is in omega (arith, low, same) in
    let here = slice_get-get_or places n 0 inside in
    let mark = l.numbered.marked n (at places n) here in
    let count = l.marked.count in
    let low = mark.0 in
    let there = slice_get-get_or cells (at places n) (record { width = 0; gate = Input }) (omega (arith, low, count)) in
    (_, there, mark.1, same_Some c _ (sym is ∙ l.placed.each n (at places n) _ inside here there), here)

pub left_part : (cells : List Cell) (ends : List ℕ) (marks : List Bool) (numbers places : List ℕ) (others : List Cell) → IsLeft cells ends marks numbers places others
    → IsPart others cells (at places)
left_part cells ends marks numbers places others l = record {
  kept = kept;
  pins = pins_there;
  rises = rises;
  inputs = λ m e is input.
      let mark = l.marked.inputs m (e, is, input) in
      (at numbers m, low_number cells ends marks numbers places others l m mark, back cells ends marks numbers places others l m mark);
}
  where
    kept : (n : ℕ) (c : Cell) → slice_get others n ≡ Some c → IsKept cells (at places) n c
    kept n c is =
        let (e, there, mark, same, here) = was cells ends marks numbers places others l n c is in
        let gates : renamed (at places) (renamed (at numbers) e.gate) ≡ e.gate =
        renamed_back (at numbers) (at places) e.gate (λ a named. back cells ends marks numbers places others l a (l.marked.closed (at places n) a e mark there named)) in
        there ∙ (λ j. Some (record { width = e.width; gate = sym gates j })) ∙ (λ j. Some (record { width = (sym same j).width; gate = renamed (at places) (sym same j).gate }))

    pins_there : NetsExist others
    pins_there n c is =
        let (e, there, mark, same, here) = was cells ends marks numbers places others l n c is in
        subst (λ (x : Cell). PinsExist (length others) x) (sym same)
        (pins_below (at numbers) (length others) e.gate (λ a named. low_number cells ends marks numbers places others l a (l.marked.closed (at places n) a e mark there named)))

    rises : (m n : ℕ) → m < n → n < length others → at places m < at places n
    rises m n less inside =
        let same = l.placed.count in
        l.numbered.rises m n (at places m) (at places n) less
        (slice_get-get_or places m 0 (omega (arith, less, inside, same))) (slice_get-get_or places n 0 (omega (arith, inside, same)))

-- what leads to an end is marked, and leads there where it goes
marked_leads : (cells : List Cell) (ends : List ℕ) (marks : List Bool) → AreMarks cells ends marks → (n : ℕ) → LeadsTo cells ends n → IsMarked marks n
marked_leads cells ends marks m _ (IsEnd n (i, inside, is)) = m.at_ends i n (slice_get-get_or ends i n inside ∙ ap Some is)
marked_leads cells ends marks m _ (IsPin n k c there named leads) = m.closed k n c (marked_leads cells ends marks m k leads) there named

leads_down : (cells : List Cell) (ends : List ℕ) (marks : List Bool) (numbers places : List ℕ) (others : List Cell) → IsLeft cells ends marks numbers places others
    → (n : ℕ) → LeadsTo cells ends n → LeadsTo others (map (at numbers) ends) (at numbers n)
leads_down cells ends marks numbers places others l _ (IsEnd n has) = IsEnd (at numbers n) (contains_map (at numbers) ends n has)
leads_down cells ends marks numbers places others l _ (IsPin n k c there named leads) =
    let place = number_at_place cells ends marks numbers places others l k (marked_leads cells ends marks l.marked k leads) in
    let inside = slice_get_within places (at numbers k) k place in
    IsPin (at numbers n) (at numbers k) (with_renamed (at numbers) c) (l.placed.each (at numbers k) k c inside place there)
    (renamed_named (at numbers) c.gate n named) (leads_down cells ends marks numbers places others l k leads)

pub left_leads : (cells : List Cell) (ends : List ℕ) (marks : List Bool) (numbers places : List ℕ) (others : List Cell) → IsLeft cells ends marks numbers places others
    → AllLead others (map (at numbers) ends)
left_leads cells ends marks numbers places others l n c is other =
    let (e, there, mark, same, here) = was cells ends marks numbers places others l n c is in
    by_live e there mark same here (l.marked.live (at places n) mark)
  where
    by_order : (i j p : ℕ) → slice_get places i ≡ Some p → slice_get places j ≡ Some p → (i ≡ j) ⊎ ((i < j) ⊎ (j < i)) → i ≡ j
    by_order i j p first second (inl same) = same
    by_order i j p first second (inr (inl less)) = let wrong = l.numbered.rises i j p p less first second in absurd (omega (arith, wrong))
    by_order i j p first second (inr (inr more)) = let wrong = l.numbered.rises j i p p more second first in absurd (omega (arith, wrong))

    by_live : (e : Cell) → slice_get cells (at places n) ≡ Some e → IsMarked marks (at places n) → c ≡ with_renamed (at numbers) e → slice_get places n ≡ Some (at places n)
        → IsLive cells ends (at places n) → LeadsTo others (map (at numbers) ends) n
    by_live e there mark same here (inl (d, at_d, input)) =
        let one : e ≡ d = same_Some e d (sym there ∙ at_d) in
        absurd (other (ap (λ (x : Cell). x.gate) same ∙ ap (renamed (at numbers)) (ap (λ (x : Cell). x.gate) one ∙ input)))
    by_live e there mark same here (inr leads) =
        let number = number_at_place cells ends marks numbers places others l (at places n) mark in
        let it : at numbers (at places n) ≡ n = by_order (at numbers (at places n)) n (at places n) number here (cases_order (at numbers (at places n)) n) in
        subst (LeadsTo others (map (at numbers) ends)) it (leads_down cells ends marks numbers places others l (at places n) leads)
