-- Lists of one session, element by element.
use Rattle.std.specs.Prelude.{ℕ, List, [], ◌∷◌, ◌++◌}
use Rattle.std.proofs.Common.{inl, inr, refl, ap}
use Rattle.gos_plan.specs.Plans.{ResultEnd, Plan}
use Rattle.gos_plan.specs.Tokens.{Element, Fire, Out, In}
use Rattle.gos_nodes.specs.windows.OneSession.{Stays, AllStay, EndsWell, IsOpenSession, IsOneSession}

stay_then : (p : Plan) (xs : List Element) (y : Element) → AllStay p xs → Stays p y → AllStay p (xs ++ y ∷ [])
stay_then p [] y all one = (one, tt)
stay_then p (x ∷ xs) y all one = (all.0, stay_then p xs y all.1 one)

pub open_then : (h : ℕ) (p : Plan) (xs : List Element) (y : Element) → IsOpenSession h p xs → Stays p y → IsOpenSession h p (xs ++ y ∷ [])
open_then h p [] y begun one = absurd begun
open_then h p (Fire i t ∷ xs) y begun one = absurd begun
open_then h p (Out e v ∷ xs) y begun one = absurd begun
open_then h p (In e v ∷ xs) y begun one = (begun.0, stay_then p xs y begun.1 one)

pub open_is_one : (h : ℕ) (p : Plan) (xs : List Element) → IsOpenSession h p xs → IsOneSession h p xs
open_is_one h p [] begun = absurd begun
open_is_one h p (Fire i t ∷ xs) begun = absurd begun
open_is_one h p (Out e v ∷ xs) begun = absurd begun
open_is_one h p (In e v ∷ xs) begun = (begun.0, inl begun.1)

pub ended_is_one : (h : ℕ) (p : Plan) (xs : List Element) (v : ℕ) → IsOpenSession h p xs → IsOneSession h p (xs ++ Out (ResultEnd h) v ∷ [])
ended_is_one h p [] v begun = absurd begun
ended_is_one h p (Fire i t ∷ xs) v begun = absurd begun
ended_is_one h p (Out e k ∷ xs) v begun = absurd begun
ended_is_one h p (In e k ∷ xs) v begun = (begun.0, inr (xs, v, begun.1, refl))

pub then_one : (h : ℕ) (p : Plan) (xs : List Element) (y : Element) → IsOpenSession h p xs → Stays p y → IsOneSession h p (xs ++ y ∷ [])
then_one h p xs y begun one = open_is_one h p (xs ++ y ∷ []) (open_then h p xs y begun one)

pub well_before : (h : ℕ) (p : Plan) (y : Element) (ys : List Element) → Stays p y → EndsWell h p ys → EndsWell h p (y ∷ ys)
well_before h p y ys one (inl all) = inl (one, all)
well_before h p y ys one (inr (zs, v, all, is)) = inr (y ∷ zs, v, (one, all), ap (λ (l : List Element). y ∷ l) is)
