-- Orderly lists one after another: they join, they part in one way, and what follows one that is no order makes none.
use Rattle.std.proofs.Common.{◌≡◌, ℕ, List, [], ◌∷◌, ◌++◌, refl, sym, ◌∙◌, subst}
use Rattle.gos_plan.specs.Plans.{Plan}
use Rattle.gos_plan.specs.Tokens.{Tokens, Element, Does, Runs}
use Rattle.gos_plan.specs.Orderly.{Open, AllWelcome, OrderlyFrom}
use Rattle.gos_plan.specs.Projection.{TakesValues}
use Rattle.gos_plan.proofs.DecidedLemmas.{one_state, one_open}

pub orderly-append : (p : Plan) (xs ys : List Element) (o m u : Open) (s w t : Tokens) → OrderlyFrom p xs o s m w → OrderlyFrom p ys m w u t
    → OrderlyFrom p (xs ++ ys) o s u t
orderly-append p [] ys o m u s w t first rest =
    subst (λ (k : Open). OrderlyFrom p ys k s u t) first.0 (subst (λ (k : Tokens). OrderlyFrom p ys m k u t) first.1 rest)
orderly-append p (x ∷ xs) ys o m u s w t (n, z, does, comes, welcome, list) rest =
    (n, z, does, comes, welcome, orderly-append p xs ys n m u z w t list rest)

-- an orderly list of two parts
pub record Parted (p : Plan) (xs ys : List Element) (o u : Open) (s t : Tokens) : Type 0 where
  pub open_between : Open
  pub between : Tokens
  pub one : OrderlyFrom p xs o s open_between between
  pub two : OrderlyFrom p ys open_between between u t

pub orderly_parts : (p : Plan) (xs ys : List Element) (o u : Open) (s t : Tokens) → OrderlyFrom p (xs ++ ys) o s u t → Parted p xs ys o u s t
orderly_parts p [] ys o u s t list = record { open_between = o; between = s; one = (refl, refl); two = list }
orderly_parts p (x ∷ xs) ys o u s t (n, z, does, comes, welcome, list) =
    let rest = orderly_parts p xs ys n u z t list in
    record { open_between = rest.open_between; between = rest.between; one = (n, z, does, comes, welcome, rest.one); two = rest.two }

-- it leads to one state
pub one_way : (p : Plan) (xs : List Element) (o m u : Open) (s w t : Tokens) → OrderlyFrom p xs o s m w → OrderlyFrom p xs o s u t → (m ≡ u) × (w ≡ t)
one_way p [] o m u s w t one two = (one.0 ∙ sym two.0, one.1 ∙ sym two.1)
one_way p (x ∷ xs) o m u s w t (n, z, does, comes, welcome, list) (a, b, doing, coming, also, other) =
    let states : b ≡ z = one_state p x s b z doing does in
    let opens : a ≡ n = one_open p x o a n s z (subst (λ (k : Tokens). Does p x s k) states doing) coming comes in
    one_way p xs n m u z w t list
    (subst (λ (k : Open). OrderlyFrom p xs k z u t) opens (subst (λ (k : Tokens). OrderlyFrom p xs a k u t) states other))

-- so a list that goes on out of order is out of order
pub never_whole : (p : Plan) (xs ys : List Element) (o m : Open) (s w : Tokens) → OrderlyFrom p xs o s m w
    → ((u : Open) (t : Tokens) → OrderlyFrom p ys m w u t → ⊥) → (u : Open) (t : Tokens) → OrderlyFrom p (xs ++ ys) o s u t → ⊥
never_whole p xs ys o m s w first never u t list =
    let parts = orderly_parts p xs ys o u s t list in
    let same = one_way p xs o parts.open_between m s parts.between w parts.one first in
    never u t
    (subst (λ (k : Open). OrderlyFrom p ys k w u t) same.0 (subst (λ (k : Tokens). OrderlyFrom p ys parts.open_between k u t) same.1 parts.two))

pub runs-append : (p : Plan) (xs ys : List Element) (s w t : Tokens) → Runs p xs s w → Runs p ys w t → Runs p (xs ++ ys) s t
runs-append p [] ys s w t first rest = subst (λ (k : Tokens). Runs p ys k t) first rest
runs-append p (x ∷ xs) ys s w t (z, does, list) rest = (z, does, runs-append p xs ys z w t list rest)

-- a state after an orderly list has no token that waits in vain
pub welcome_after : (p : Plan) (xs : List Element) (o u : Open) (s t : Tokens) → AllWelcome p s → OrderlyFrom p xs o s u t → AllWelcome p t
welcome_after p [] o u s t welcome list = subst (λ (k : Tokens). AllWelcome p k) (sym list.1) welcome
welcome_after p (x ∷ xs) o u s t welcome (n, z, does, comes, now, list) = welcome_after p xs n u z t now list

-- the values that a part takes in two lists
pub takes-append : (p : Plan) (i : ℕ) (x : ℕ → ℕ) (xs ys : List Element) (s w : Tokens) → TakesValues p i x xs s → Runs p xs s w → TakesValues p i x ys w
    → TakesValues p i x (xs ++ ys) s
takes-append p i x [] ys s w takes runs more = subst (λ (k : Tokens). TakesValues p i x ys k) runs more
takes-append p i x (y ∷ xs) ys s w takes (z, does, runs) more = (
  takes.0,
  λ t also. takes-append p i x xs ys t w (takes.1 t also) (subst (λ (k : Tokens). Runs p xs k w) (one_state p y s z t does also) runs) more,
)
