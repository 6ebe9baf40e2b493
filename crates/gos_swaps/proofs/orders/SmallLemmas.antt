-- Small configurations in either order.
use Rattle.std.specs.Prelude.{◌≡◌, ℕ, zero, suc, Option, Some, None, get_or}
use Rattle.std.proofs.Common.{arith, refl, sym, ap, inl, ◌∙◌}
use Rattle.gos_model.specs.Terms.{Term, Skip, Loc, Par, Scope, Seq, Put, New}
use Rattle.gos_model.specs.Typing.{Place}
use Rattle.gos_model.specs.Stores.{Entry, variable_at, entry_at}
use Rattle.gos_model.specs.Moves.{Running}
use Rattle.gos_programs.specs.contexts.SmallContexts.{one_at}
use Rattle.gos_programs.proofs.contexts.SmallLemmas.{entries_in_any_order}
use Rattle.gos_swaps.specs.proper.Proper.{PartsApart, IsProper}
use Rattle.gos_swaps.specs.orders.Alike.{Alike}
use Rattle.gos_swaps.specs.orders.Effects.{carried}
use Rattle.gos_swaps.specs.orders.SmallOrders.{two_blocks, both_at, stale, shared, has_number, FirstTakesZero, StaleNamesTellOrder, SharedNamesTellOrder}
use Rattle.gos_swaps.proofs.proper.ThingLemmas.{there, nothing}
use Rattle.gos_swaps.proofs.orders.AlikeLemmas.{injective, corresponds}
use Rattle.gos_swaps.proofs.orders.OrderLemmas.{swapping}

zero_not_one : zero ≡ suc zero → ⊥
zero_not_one e = absurd (omega (arith, e))

-- the location of a block, and of the two sides
abbrev block_at : Term → ℕ
block_at (Scope l m) = l
block_at m = 0

abbrev left_at : Term → ℕ
left_at (Par m n) = block_at m
left_at m = 0

abbrev right_at : Term → ℕ
right_at (Par m n) = block_at n
right_at m = 0

other_blocks : Alike (Running (two_blocks 0 1) (both_at 1 0)) (Running (two_blocks 0 0) (one_at 0)) → ⊥
other_blocks (r, e, h) =
    let one : r.to zero ≡ r.to (suc zero) = sym (ap left_at e) ∙ ap right_at e in zero_not_one (injective r zero (suc zero) one)

pub first_takes_zero : FirstTakesZero
first_takes_zero = (
  (swapping 0 1, refl, λ l. sym (entries_in_any_order.0 l)),
  λ e. zero_not_one (ap left_at e),
  other_blocks,
)

-- what stands at the places of the stale term
abbrev right_of_first : Term → ℕ
right_of_first (Seq m n) = right_at m
right_of_first m = 0

abbrev written_at : Term → ℕ
written_at (Seq m (Put (Loc l) k)) = l
written_at m = 1

stale_apart : Alike (Running (stale Skip (Scope 0 Skip)) (one_at 0)) (Running (stale Skip (Scope 1 Skip)) (one_at 1)) → ⊥
stale_apart (r, e, h) =
    let opened : suc zero ≡ r.to zero = ap right_of_first e in
    let written : zero ≡ r.to zero = ap written_at e in
    zero_not_one (written ∙ sym opened)

stale_parts : PartsApart (stale (Scope 0 Skip) (New 1 Skip))
stale_parts = (((λ x h k. nothing x k), tt, tt), tt)

not_proper : IsProper (stale (Scope 0 Skip) (New 1 Skip)) (one_at 0) → ⊥
not_proper p = p.within.1

pub stale_names_tell_order : StaleNamesTellOrder
stale_names_tell_order = (
  stale_parts,
  (Par Skip (New 1 Skip), refl, (Skip, refl, (inl refl, refl, refl))),
  (Par Skip (Scope 0 Skip), refl, (Scope 0 Skip, refl, (0, refl, refl, refl))),
  (Par (Scope 0 Skip) (Scope 1 Skip), refl, (Scope 1 Skip, refl, (1, refl, refl, refl))),
  (Par Skip (Scope 1 Skip), refl, (Skip, refl, (inl refl, refl, refl))),
  stale_apart,
  not_proper,
)

-- the number that a store has
abbrev number_of : Option Entry → ℕ
number_of None = 0
number_of (Some e) = get_or e.numbers 0 0

shared_apart : Alike (Running (shared Skip Skip) (has_number 1)) (Running (shared Skip Skip) (has_number 0)) → ⊥
shared_apart (r, e, h) =
    let same : zero ≡ r.to zero = ap block_at e in
    let there : entry_at (has_number 0) (r.to zero) ≡ carried r.to (entry_at (has_number 1) zero) = corresponds r (has_number 1) (has_number 0) h zero in
    zero_not_one (ap number_of (ap (entry_at (has_number 0)) same ∙ there))

pub shared_names_tell_order : SharedNamesTellOrder
shared_names_tell_order = (
  (Par Skip (Put (Loc 0) 1), refl, (Skip, refl, (variable_at 0 1 0, 0, 0, inl (refl, refl), refl, refl, refl, refl))),
  (Par Skip Skip, refl, (Skip, refl, (variable_at 0 1 0, 0, 0, inl (refl, refl), refl, refl, refl, refl))),
  (Par (Put (Loc 0) 0) Skip, refl, (Skip, refl, (variable_at 0 1 0, 0, 0, inl (refl, refl), refl, refl, refl, refl))),
  (Par Skip Skip, refl, (Skip, refl, (variable_at 0 1 1, 0, 1, inl (refl, refl), refl, refl, refl, refl))),
  shared_apart,
  λ p. p.0 (Place 0) (there (Place 0)) (there (Place 0)),
)
