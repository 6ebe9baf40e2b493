-- The closed regions of a pool lie in order after each call, and a pool can be cut back to where it has come.
use Rattle.std.specs.Prelude.{◌≡◌, ◌≤◌, ℕ, List, [], ◌∷◌, ◌++◌, Option, Some, None, length, map, take, drop, unwrap_or, All, IfSome}
use Rattle.std.proofs.Common.{arith, sym, ap, ◌∙◌, subst}
use Rattle.std.proofs.lemmas.List.{length-take-le, take-append-drop, take-map}
use Rattle.std.proofs.lemmas.List.Elements.{All-take}
use Rattle.gos_netlist.specs.declared.nets.Cell as placed
use Rattle.gos_netlist.specs.Seen.{cell_of}
use Rattle.gos_pool.specs.declared.region.ClosedRegion.{ClosedRegion}
use Rattle.gos_pool.specs.declared.region.Mark.{Mark}
use Rattle.gos_pool.specs.Pools.{Pool, KeepsClosed, Follow, IsInOrder, EndsBy, closed_end}
use Rattle.gos_pool.specs.Marks.{Begins, CanCutBack}
use Rattle.gos_pool.proofs.RegionLemmas.{ends_within, follow_more, follow_take, keeps_closed}

-- where the closed regions end while a region is begun
end_begun : (pool : Pool) (start : ℕ) → pool.begun ≡ Some start → closed_end pool ≡ start
end_begun pool start e = ap (λ begun. unwrap_or begun (length pool.cells)) e

-- where they end while none is begun
end_idle : (pool : Pool) → pool.begun ≡ None → closed_end pool ≡ length pool.cells
end_idle pool e = ap (λ begun. unwrap_or begun (length pool.cells)) e

-- the pool after the region that is begun was closed
pub order_finished : (old new : Pool) (start : ℕ) → IsInOrder old → old.begun ≡ Some start
    → new.cells ≡ old.cells → new.closed ≡ old.closed ++ record { start = start; end = length old.cells } ∷ [] → new.begun ≡ None
    → IsInOrder new
order_finished old new start order begun cells closed idle =
    let at : closed_end old ≡ start = end_begun old start begun in
    let end : closed_end new ≡ length old.cells = end_idle new idle ∙ ap length cells in
    let apart : Follow 0 old.closed start = subst (λ (high : ℕ). Follow 0 old.closed high) at order.apart in
    let below : start ≤ length old.cells = subst (λ (high : ℕ). high ≤ length old.cells) at order.within in
    let all : Follow 0 (old.closed ++ record { start = start; end = length old.cells } ∷ []) (length old.cells) =
    follow_more 0 old.closed start (length old.cells) apart below in
    record {
      apart =
          subst (λ (regions : List ClosedRegion). Follow 0 regions (closed_end new)) (sym closed)
          (subst
          (λ (high : ℕ). Follow 0 (old.closed ++ record { start = start; end = length old.cells } ∷ []) high)
          (sym end) all);
      within = omega (arith, end, ap length cells);
    }

-- what was taken off the front of a list is how it begins
begins_taken : {X : Type 0} (count : ℕ) (xs front : List X) → front ≡ take count xs → Begins front xs
begins_taken {X} count xs front e =
    (drop count xs, sym (take-append-drop count xs) ∙ ap (λ (taken : List X). taken ++ drop count xs) (sym e))

-- the first cells of a vector, as clauses see them
pub seen_cut : (count : ℕ) (before after : List placed.Cell) → after ≡ take count before
    → map cell_of after ≡ take count (map cell_of before)
seen_cut count before after e = ap (map cell_of) e ∙ sym (take-map cell_of count before)

-- the pool after it was cut back
pub order_cut : (old new : Pool) (mark : Mark) → IsInOrder old → CanCutBack old mark
    → new.cells ≡ take mark.cells old.cells → new.closed ≡ take mark.regions old.closed → new.begun ≡ None
    → IsInOrder new
order_cut old new mark order can cells closed idle =
    let count : length new.cells ≡ mark.cells = ap length cells ∙ length-take-le mark.cells old.cells can.cells in
    let end : closed_end new ≡ mark.cells = end_idle new idle ∙ count in
    let all : Follow 0 (take mark.regions old.closed) mark.cells =
    follow_take mark.regions 0 old.closed (closed_end old) mark.cells order.apart can.whole (omega arith) in
    record {
      apart =
          subst (λ (regions : List ClosedRegion). Follow 0 regions (closed_end new)) (sym closed)
          (subst (λ (high : ℕ). Follow 0 (take mark.regions old.closed) high) (sym end) all);
      within = omega (arith, end, count);
    }

-- what is still closed then was closed before, with the same cells
pub cut_keeps : (old new : Pool) (mark : Mark) → IsInOrder old → CanCutBack old mark
    → new.cells ≡ take mark.cells old.cells → new.closed ≡ take mark.regions old.closed → new.begun ≡ None
    → KeepsClosed new old
cut_keeps old new mark order can cells closed idle =
    keeps_closed new old (order_cut old new mark order can cells closed idle)
    (begins_taken mark.cells old.cells new.cells cells) (begins_taken mark.regions old.closed new.closed closed)

-- while no region is begun, a pool can be cut back to where it is
pub cut_here : (pool : Pool) (mark : Mark) → IsInOrder pool → pool.begun ≡ None
    → mark.cells ≡ length pool.cells → mark.regions ≡ length pool.closed
    → CanCutBack pool mark
cut_here pool mark order idle cells regions =
    let end : closed_end pool ≡ mark.cells = end_idle pool idle ∙ sym cells in
    let ends : All (EndsBy mark.cells) pool.closed =
    subst (λ (high : ℕ). All (EndsBy high) pool.closed) end (ends_within 0 pool.closed (closed_end pool) order.apart) in
    record {
      cells = omega (arith, cells);
      regions = omega (arith, regions);
      whole = All-take (EndsBy mark.cells) mark.regions pool.closed ends;
      begun = subst (λ (begun : Option ℕ). IfSome begun (λ start. mark.cells ≤ start)) (sym idle) tt;
    }
