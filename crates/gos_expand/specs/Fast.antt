-- Fast circuits: no Share holds a request, and each is made for the order of the depths of its ends.
--
-- Read first: Laid, Choices, Facts, Rings; Order of gos_fast_share. Which directions of joints keep their registers is told by gates
-- in which each Share takes its handshakes by number: its source's sides stand first there, so that no request leads on to an
-- answer. They are the fewest passages that a Share can have, and by them ends are ranked. A Share that is made for these ranks
-- has more: from a request to each answer that comes behind it. They go up in rank too, and so they close no ring.
use Rattle.std.specs.Prelude.{◌≡◌, ◌⊎◌, ℕ, zero, suc, List, [], ◌∷◌, Option, Some, None, length, slice_get}
use Rattle.gos_types.specs.Types.{Type'}
use Rattle.gos_netlist.specs.Nets.{Netlist}
use Rattle.gos_plan.specs.Kinds.{Part, Share, part_contacts}
use Rattle.gos_plan.specs.Plans.{End, PartEnd, Plan}
use Rattle.gos_fast_share.specs.Order.{IsByRank}
use Rattle.gos_expand.specs.Gates.{Making, ForEach, ForOrder}
use Rattle.gos_expand.specs.Starts.{Keep, Laying}
use Rattle.gos_expand.specs.Laid.{Seat, seat_of, circuit_cells, circuit}
use Rattle.gos_expand.specs.Choices.{KeepsFewOf}
use Rattle.gos_expand.specs.Facts.{PassesOn, Rises, order_at}

-- so many numbers, from n on
abbrev pub numbers_from : ℕ → ℕ → List ℕ
numbers_from n zero = []
numbers_from n (suc k) = n ∷ numbers_from (suc n) k

-- a Share is made for the numbers of its handshakes, and all else for no order
abbrev pub making_by_number : Option Part → Making
making_by_number (Some (Share t)) = ForOrder (numbers_from 0 (length (part_contacts (Share t))))
making_by_number k = ForEach

-- a plan laid out with such gates
abbrev pub by_number : Plan → Keep → Laying
by_number p keep = record { keep = keep; making = λ i. making_by_number (slice_get p.parts i) }

-- Ranks are depths. An end without a joint has none. Of the others each has 1, if nothing passes on to it in one cycle from an
-- end that has a joint; else it has one more than the deepest of these.
pub record AreDepths (lay : Laying) (p : Plan) (rank : End → ℕ) : Type 0 where
  pub rises : Rises lay p rank
  pub loose : (e : End) → seat_of p e ≡ None → rank e ≡ 0
  pub least :
      (e : End) (s : Seat) → seat_of p e ≡ Some s
      → (rank e ≡ 1) ⊎ ((i from : ℕ) × PassesOn lay p i from e × (rank e ≡ suc (rank (PartEnd i from))))

-- each Share is made for the order of the ranks of its ends, where two are equal by number; and all else for no order
pub record SharesFollow (lay : Laying) (p : Plan) (rank : End → ℕ) : Type 0 where
  pub shares :
      (i : ℕ) (t : Type') → slice_get p.parts i ≡ Some (Share t)
      → (order : List ℕ) × (lay.making i ≡ ForOrder order) × IsByRank t order (order_at rank i)
  pub others : (i : ℕ) → ((t : Type') → slice_get p.parts i ≡ Some (Share t) → ⊥) → lay.making i ≡ ForEach

-- a way to lay a plan out fast
pub record IsFast (p : Plan) (lay : Laying) : Type 0 where
  pub few : KeepsFewOf (λ keep. circuit_cells (by_number p keep) p) p lay.keep
  pub rank : End → ℕ
  pub depths : AreDepths (by_number p lay.keep) p rank
  pub follow : SharesFollow lay p rank

-- The netlist is that of the plan, laid out fast.
abbrev pub IsFastOf : Plan → List ℕ → Netlist → Type 0
IsFastOf p root net = (lay : Laying) × IsFast p lay × (net ≡ circuit lay p root)
