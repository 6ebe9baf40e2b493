-- The firings of a plan's parts in a cycle, and the token states that cycles lead to.
--
-- Read first: Tokens.
use Rattle.std.specs.Prelude.{ℕ, zero, suc, List, [], ◌∷◌}
use Rattle.gos_plan.specs.Firing.{Slot}
use Rattle.gos_plan.specs.Tokens.{Tokens, Element, Fire}

-- a part, and the token by which it fires
pub record PartFiring : Type 0 where
  pub part : ℕ
  pub takes : Slot

abbrev pub fires_of : List PartFiring → List Element
fires_of [] = []
fires_of (f ∷ fs) = Fire f.part f.takes ∷ fires_of fs

-- the firings of a cycle, and the token state after it
pub record Made : Type 0 where
  pub firings : List PartFiring
  pub after : Tokens

-- the token state after t of these cycles
abbrev pub state_after : Tokens → List Made → ℕ → Tokens
state_after s ms zero = s
state_after s [] (suc t) = s
state_after s (m ∷ ms) (suc t) = state_after m.after ms t
