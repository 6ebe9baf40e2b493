-- A closed region keeps its cells where cells and regions are only added.
use Rattle.std.specs.Prelude.{◌≡◌, ◌≤◌, ℕ, zero, suc, List, [], ◌∷◌, ◌++◌, length, take, drop, slice_range, All, Contains}
use Rattle.std.proofs.Common.{arith, sym, ap, ◌∙◌, subst}
use Rattle.std.proofs.lemmas.List.{take-append-le}
use Rattle.std.proofs.lemmas.List.Elements.{All-nil, All-cons, All-head, All-tail, All-contains, Contains-append_left}
use Rattle.std.proofs.lemmas.Slice.{between_is}
use Rattle.gos_netlist.specs.Nets.{Cell}
use Rattle.gos_pool.specs.declared.region.ClosedRegion.{ClosedRegion}
use Rattle.gos_pool.specs.Pools.{Pool, KeepsClosed, Follow, IsInOrder, EndsBy, closed_end}
use Rattle.gos_pool.specs.Marks.{Begins}

-- regions that follow one another leave room for none before the first
follow_le : (low : ℕ) (regions : List ClosedRegion) (high : ℕ) → Follow low regions high → low ≤ high
follow_le low [] high h = h
follow_le low (region ∷ regions) high h = omega (arith, h.0, h.1, follow_le region.end regions high h.2)

-- none ends above the upper place
pub ends_within : (low : ℕ) (regions : List ClosedRegion) (high : ℕ) → Follow low regions high → All (EndsBy high) regions
ends_within low [] high h = All-nil (EndsBy high)
ends_within low (region ∷ regions) high h =
    All-cons (EndsBy high) region regions (follow_le region.end regions high h.2) (ends_within region.end regions high h.2)

-- one more region that starts at the upper place
pub follow_more : (low : ℕ) (regions : List ClosedRegion) (high end : ℕ) → Follow low regions high → high ≤ end
    → Follow low (regions ++ record { start = high; end = end } ∷ []) end
follow_more low [] high end h l = (h, l, omega arith)
follow_more low (region ∷ regions) high end h l = (h.0, h.1, follow_more region.end regions high end h.2 l)

-- the first regions, below a place where none of them goes on
pub follow_take : (count low : ℕ) (regions : List ClosedRegion) (high place : ℕ) → Follow low regions high
    → All (EndsBy place) (take count regions) → low ≤ place → Follow low (take count regions) place
follow_take zero low regions high place h ends l = l
follow_take (suc count) low [] high place h ends l = l
follow_take (suc count) low (region ∷ regions) high place h ends l = (
  h.0,
  h.1,
  follow_take count region.end regions high place h.2 (All-tail (EndsBy place) region (take count regions) ends)
      (All-head (EndsBy place) region (take count regions) ends),
)

-- a part of a list is a part of each longer one
same_part : (cells rest : List Cell) (start end : ℕ) → end ≤ length cells
    → slice_range (cells ++ rest) start end ≡ slice_range cells start end
same_part cells rest start end l =
    between_is (cells ++ rest) start end ∙ ap (drop start) (take-append-le end cells rest l) ∙ sym (between_is cells start end)

-- a closed region ends within the cells
within_cells : (pool : Pool) → IsInOrder pool → (region : ClosedRegion) → Contains pool.closed region → region.end ≤ length pool.cells
within_cells pool order region here =
    let ends : All (EndsBy (closed_end pool)) pool.closed = ends_within 0 pool.closed (closed_end pool) order.apart in
    omega (arith, All-contains (EndsBy (closed_end pool)) pool.closed region ends here, order.within)

-- where cells and regions are only added, each closed region stays closed and keeps its cells
pub keeps_closed : (old new : Pool) → IsInOrder old → Begins old.cells new.cells → Begins old.closed new.closed → KeepsClosed old new
keeps_closed old new order cells closed = record {
  closed =
      λ region here.
      subst (λ (regions : List ClosedRegion). Contains regions region) (sym closed.1)
      (Contains-append_left old.closed closed.0 region here);
  cells =
      λ region here.
      ap (λ (all : List Cell). slice_range all region.start region.end) cells.1
      ∙ same_part old.cells cells.0 region.start region.end (within_cells old order region here);
}
