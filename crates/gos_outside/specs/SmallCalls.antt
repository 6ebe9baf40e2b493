-- Small cases of calls, from a store that was asked for none.
use Rattle.std.specs.Prelude.{[], ◌∷◌, Some}
use Rattle.gos_outside.specs.Calls.{StoreCall, Did, Refused, Whole, Failed, Short, AreMade}

-- two calls that were made are these two, in this order
abbrev pub TwoAreMade : Type 0
TwoAreMade = (a b : StoreCall) → AreMade Whole (a ∷ b ∷ []) (Some []) (Some (Did a ∷ Did b ∷ []))

-- where the first of two failed, the second isn't made
abbrev pub NoneFollows : Type 0
NoneFollows = (a b : StoreCall) → AreMade Failed (a ∷ b ∷ []) (Some []) (Some (Refused a ∷ Did b ∷ [])) → ⊥

-- no call is made twice
abbrev pub NoneComesTwice : Type 0
NoneComesTwice = (a : StoreCall) → AreMade Short (a ∷ []) (Some []) (Some (Did a ∷ Did a ∷ [])) → ⊥
