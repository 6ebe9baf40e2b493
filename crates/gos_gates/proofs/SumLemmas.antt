-- Sums over the nets of a netlist: of its ends, of its registers and of its cells.
use Rattle.std.specs.Prelude.{◌≡◌, ℕ, zero, suc, ◌+◌, ◌<◌, ◌≤◌, ◌⊎◌, Bool, true, false, List, [], ◌∷◌, ◌++◌, filter, length, get_or, drop, take, map, replicate, sum_by}
use Rattle.std.proofs.Common.{arith, refl, sym, ap, subst, inl, inr, ◌∙◌, cond}
use Rattle.std.proofs.lemmas.List.{drop_more, drop_all, take_more, append-nil, length-map, map-append, get_or_past}
use Rattle.std.proofs.lemmas.Bool.{cases_lt}
use Rattle.std.proofs.lemmas.Option.{slice_get-get_or}
use Rattle.std.proofs.lemmas.List.Sums.{sum_by-cons, sum_by-append}
use Rattle.std.proofs.lemmas.List.Concat.{flat_map-append}
use Rattle.gos_types.specs.declared.widths.TheConstants.{GREATEST_WIDTH}
use Rattle.gos_netlist.specs.Nets.{Cell, NetPort}
use Rattle.gos_netlist.specs.Seen.{cell_of}
use Rattle.gos_netlist.specs.declared.nets.Cell as declared
use Rattle.gos_netlist.specs.declared.nets.Gate.TheVariants as gates
use Rattle.gos_netcheck.specs.CellRules.{WidthsFit}
use Rattle.gos_gates.specs.Lowered.{width_of, port_nets, literals_from}
use Rattle.gos_gates.specs.inner.Laying.{Laid, with_source, with_sources, cell_at, no_cell, IsNarrow, literals_of}
use Rattle.gos_gates.proofs.StandLemmas.{width_is}
use Rattle.gos_gates.proofs.LayLemmas.{seen_cell}
use Rattle.gos_gates.proofs.NarrowLemmas.{net_narrow}

-- the nets that pass a test, of a port more
pub filter_append : (p : ℕ → Bool) (xs ys : List ℕ) → filter p (xs ++ ys) ≡ filter p xs ++ filter p ys
filter_append p [] ys = refl
filter_append p (x ∷ xs) ys = by_test (p x) (filter_append p xs ys)
  where
    by_test : (b : Bool) → filter p (xs ++ ys) ≡ filter p xs ++ filter p ys → cond b (x ∷ filter p (xs ++ ys)) (filter p (xs ++ ys)) ≡ cond b (x ∷ filter p xs) (filter p xs) ++ filter p ys
    by_test true e = ap (λ (zs : List ℕ). x ∷ zs) e
    by_test false e = e

pub port_more : (test : ℕ → Bool) (ports : List NetPort) (i : ℕ) (d : NetPort) → i < length ports
    → filter test (port_nets (take (i + 1) ports)) ≡ filter test (port_nets (take i ports)) ++ filter test (get_or ports i d).nets
port_more test ports i d low =
    let nets : port_nets (take (i + 1) ports) ≡ port_nets (take i ports) ++ ((get_or ports i d).nets ++ []) =
    ap port_nets (take_more ports i d low) ∙ flat_map-append (λ (p : NetPort). p.nets) (take i ports) (get_or ports i d ∷ []) in
    ap (filter test) (nets ∙ ap (λ (ns : List ℕ). port_nets (take i ports) ++ ns) (append-nil (get_or ports i d).nets)) ∙ filter_append test (port_nets (take i ports)) (get_or ports i d).nets

-- what is given so far, with what is still to come, is all
pub record GivesOn (cells : List Cell) (nets : List ℕ) (old now : Laid) (i : ℕ) : Type 0 where
  pub rest : with_sources cells nets old ≡ with_sources cells (drop i nets) now
  pub room : now.base + sum_by (width_of cells) (drop i nets) ≡ old.base + sum_by (width_of cells) nets
  pub count : length now.nets ≡ length old.nets
  pub gates : now.gates ≡ old.gates
  pub narrow : IsNarrow cells now

literals_count : (v n : ℕ) → length (literals_from v n) ≡ n
literals_count v zero = refl
literals_count v (suc n) = ap suc (literals_count (suc v) n)

-- nothing is narrow
pub nothing_narrow : (cells : List Cell) (n : ℕ) (s : Laid) → s ≡ record { base = 1; gates = []; nets = replicate n [] } → IsNarrow cells s
nothing_narrow cells n s e m =
    let none_at : literals_of s m ≡ [] = ap (λ (x : Laid). literals_of x m) e ∙ empty n m in
    let size : length (literals_of s m) ≡ 0 = ap length none_at in
    omega (arith, size)
  where
    empty : (n m : ℕ) → get_or (replicate {A = List ℕ} n []) m [] ≡ []
    empty zero m = refl
    empty (suc n) zero = refl
    empty (suc n) (suc m) = empty n m

module _ (cells : List Cell) (nets : List ℕ) (old now : Laid) (i : ℕ) (so : GivesOn cells nets old now i) (inside : i < length nets) where
  here : drop i nets ≡ get_or nets i 0 ∷ drop (i + 1) nets
  here = drop_more nets i 0 inside

  total : sum_by (width_of cells) (drop i nets) ≡ width_of cells (get_or nets i 0) + sum_by (width_of cells) (drop (i + 1) nets)
  total = ap (sum_by (width_of cells)) here ∙ sum_by-cons (width_of cells) (get_or nets i 0) (drop (i + 1) nets)

  pub give_room : (top w : ℕ) → w ≡ width_of cells (get_or nets i 0) → old.base + sum_by (width_of cells) nets < top → now.base + w < top
  give_room top w e room = omega (arith, so.room, total, room, e)

  pub gives_more : (next : Laid) → next ≡ with_source cells (get_or nets i 0) now → length next.nets ≡ length now.nets → GivesOn cells nets old next (i + 1)
  gives_more next e count =
      record {
        rest = so.rest ∙ (ap (λ (ns : List ℕ). with_sources cells ns now) here ∙ ap (with_sources cells (drop (i + 1) nets)) (sym e));
        room = omega (arith, so.room, total, ap (λ (s : Laid). s.base) e);
        count = count ∙ so.count;
        gates = ap (λ (s : Laid). s.gates) e ∙ so.gates;
        narrow = let P : Laid → Type 0 = λ s. IsNarrow cells s in subst P (sym e) (net_narrow cells now (get_or nets i 0) (width_of cells (get_or nets i 0)) so.narrow refl (literals_from now.base (width_of cells (get_or nets i 0))) (let size = literals_count now.base (width_of cells (get_or nets i 0)) in omega (arith, size)));
      }

pub has_given : (cells : List Cell) (nets : List ℕ) (old now : Laid) (i : ℕ) → GivesOn cells nets old now i → length nets ≤ i → now.base ≡ old.base + sum_by (width_of cells) nets
has_given cells nets old now i so past =
    let e : drop i nets ≡ [] = drop_all i nets past in
    let left : sum_by (width_of cells) (drop i nets) ≡ 0 = ap (sum_by (width_of cells)) e in
    omega (arith, so.room, left)

pub gives_end : (cells : List Cell) (nets : List ℕ) (old now : Laid) (i : ℕ) → GivesOn cells nets old now i → length nets ≤ i → now ≡ with_sources cells nets old
gives_end cells nets old now i so past = sym (so.rest ∙ ap (λ (ns : List ℕ). with_sources cells ns now) (drop_all i nets past))

-- a cell's width as it is seen
abbrev pub none : declared.Cell
none = record { width = 0; gate = gates.Input }

pub width_seen : (cells : List declared.Cell) (n : ℕ) → width_of (map cell_of cells) n ≡ (get_or cells n none).width
width_seen cells n = width_is (map cell_of cells) n ∙ ap (λ (c : Cell). c.width) (seen_cell cells n)

pub width_low : (cells : List declared.Cell) (n : ℕ) → WidthsFit (map cell_of cells) → (get_or cells n none).width ≤ GREATEST_WIDTH
width_low cells n fits = by_place (cases_lt n (length cells))
  where
    by_place : (n < length cells) ⊎ (length cells ≤ n) → (get_or cells n none).width ≤ GREATEST_WIDTH
    by_place (inl low) =
        let inside : n < length (map cell_of cells) = omega (arith, low, length-map cells cell_of) in
        let right = fits n (cell_at (map cell_of cells) n) (slice_get-get_or (map cell_of cells) n no_cell inside) in
        omega (arith, right.1, ap (λ (c : Cell). c.width) (seen_cell cells n))
    by_place (inr past) = let e : get_or cells n none ≡ none = get_or_past cells n none past in let w : (get_or cells n none).width ≡ 0 = ap (λ (c : declared.Cell). c.width) e in omega (arith, w)

pub cells_more : (u : Cell → ℕ) (cells : List declared.Cell) (i : ℕ) → i < length cells
    → sum_by u (map cell_of (take (i + 1) cells)) ≡ sum_by u (map cell_of (take i cells)) + u (cell_of (get_or cells i none))
cells_more u cells i low =
    ap (λ (cs : List declared.Cell). sum_by u (map cell_of cs)) (take_more cells i none low)
    ∙ (ap (sum_by u) (map-append cell_of (take i cells) (get_or cells i none ∷ [])) ∙ (sum_by-append u (map cell_of (take i cells)) (cell_of (get_or cells i none) ∷ []) ∙ (let z : sum_by u (cell_of (get_or cells i none) ∷ []) ≡ u (cell_of (get_or cells i none)) = omega arith in ap (λ n. sum_by u (map cell_of (take i cells)) + n) z)))

-- a draft of nothing has a place for each cell
pub drafted : (cells : List declared.Cell) (s : Laid) → s ≡ record { base = 1; gates = []; nets = replicate (length cells) [] } → length s.nets ≡ length cells
drafted cells s e = ap (λ (x : Laid). length x.nets) e ∙ size (length cells)
  where
    size : (n : ℕ) → length (replicate {A = List ℕ} n []) ≡ n
    size zero = refl
    size (suc n) = ap suc (size n)
