-- A part that is made for an order: the type of its source, and the numbers of its handshakes in this order.
--
-- Order says which of these can be laid out (IsMade). It doesn't ask that each handshake stands once: such an order is laid too. But
-- it is that of no ranks, so the law of a cycle says nothing of it.
use Rattle.std.specs.Prelude.{ℕ, List}
use Rattle.gos_types.specs.declared.types.Ty.{Ty}

pub record Made : Type 0 where
  pub ty : Ty
  pub order : List ℕ
