-- Elements one after another, and the part that fires.
use Rattle.std.specs.Prelude.{None, ◌++◌}
use Rattle.std.proofs.Common.{◌≡◌, Option, Some, refl, List, [], ◌∷◌, subst}
use Rattle.gos_plan.specs.Kinds.{Part}
use Rattle.gos_plan.specs.Firing.{State, Slot, Row}
use Rattle.gos_plan.specs.Tokens.{firing_of, Tokens, Element, Runs}
use Rattle.gos_plan.specs.Plans.{Plan}
use Rattle.gos_plan.specs.Orderly.{Open, OrderlyFrom}

pub firing_part : (o : Option Part) (q : State) (t : Slot) (row : Row) → firing_of o q t ≡ Some row → (k : Part) × (o ≡ Some k)
firing_part None q t row e = absurd (cc e)
firing_part (Some k) q t row e = (k, refl)

pub runs_then : (c : Plan) (xs ys : List Element) (s u t : Tokens) → Runs c xs s u → Runs c ys u t → Runs c (xs ++ ys) s t
runs_then c [] ys s u t first rest = subst (λ (x : Tokens). Runs c ys x t) first rest
runs_then c (x ∷ xs) ys s u t (w, does, more) rest = (w, does, runs_then c xs ys w u t more rest)

pub orderly_then : (p : Plan) (xs ys : List Element) (o m u : Open) (s w t : Tokens) → OrderlyFrom p xs o s m w → OrderlyFrom p ys m w u t
    → OrderlyFrom p (xs ++ ys) o s u t
orderly_then p [] ys o m u s w t h k =
    subst (λ (y : Open). OrderlyFrom p ys y s u t) h.0 (subst (λ (y : Tokens). OrderlyFrom p ys m y u t) h.1 k)
orderly_then p (x ∷ xs) ys o m u s w t (n, z, does, comes, welcome, rest) k =
    (n, z, does, comes, welcome, orderly_then p xs ys n m u z w t rest k)
