-- A mark stays one to which the pool can be cut back, as long as the pool only grows.
use Rattle.std.specs.Prelude.{◌≡◌, ◌≤◌, ℕ, List, Option, Some, None, length, take, IfSome}
use Rattle.std.proofs.Common.{arith, ◌∙◌, ap, length-append}
use Rattle.std.proofs.lemmas.List.{take-append-le}
use Rattle.std.proofs.lemmas.List.Elements.{All-same}
use Rattle.gos_pool.specs.Pools.{EndsBy}
use Rattle.gos_pool.specs.Marks.{Begins, MarksStay}

-- a list is no longer than one that begins with it
length_begins : {X : Type 0} (xs ys : List X) → Begins xs ys → length xs ≤ length ys
length_begins xs ys h = rw (h.1, length-append xs h.0) (omega arith)

-- it begins as that one does
take_begins : {X : Type 0} (count : ℕ) (xs ys : List X) → Begins xs ys → count ≤ length xs → take count ys ≡ take count xs
take_begins count xs ys h l = ap (take count) h.1 ∙ take-append-le count xs h.0 l

-- a region that starts behind the old cells starts behind the mark
behind : (mark cells : ℕ) (begun : Option ℕ) → mark ≤ cells → IfSome begun (λ start. cells ≤ start) → IfSome begun (λ start. mark ≤ start)
behind mark cells None l h = h
behind mark cells (Some start) l h = omega (arith, l, h)

pub marks_stay : MarksStay
marks_stay old new mark can grows = record {
  cells = omega (arith, can.cells, length_begins old.cells new.cells grows.cells);
  regions = omega (arith, can.regions, length_begins old.closed new.closed grows.closed);
  whole =
      All-same (EndsBy mark.cells) (take mark.regions new.closed) (take mark.regions old.closed)
      (take_begins mark.regions old.closed new.closed grows.closed can.regions) can.whole;
  begun = behind mark.cells (length old.cells) new.begun can.cells grows.begun;
}
