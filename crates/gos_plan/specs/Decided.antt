-- Whether a possible list is orderly can be told, and an orderly list is possible.
--
-- Read first: Orderly. A cycle after which a list is not orderly is broken, so who follows a netlist's cycles has to
-- tell.
use Rattle.std.specs.Prelude.{◌≡◌, ◌⊎◌, List}
use Rattle.gos_plan.specs.Plans.{Plan}
use Rattle.gos_plan.specs.Tokens.{Tokens, Element, Does, Runs}
use Rattle.gos_plan.specs.Orderly.{Open, ComesInOrder, AllWelcome, OrderlyFrom}

-- a possible element leads to one token state
abbrev pub ElementsLeadOneWay : Type 0
ElementsLeadOneWay = (p : Plan) (x : Element) (s t w : Tokens) → Does p x s t → Does p x s w → t ≡ w

-- A possible element comes in order and leaves no token that is unwelcome, or it doesn't.
abbrev pub OrderIsDecided : Type 0
OrderIsDecided =
    (p : Plan) (x : Element) (o : Open) (s t : Tokens) → Does p x s t
    → ((u : Open) × ComesInOrder p x s o u × AllWelcome p t) ⊎ ((u : Open) → ComesInOrder p x s o u → AllWelcome p t → ⊥)

-- A possible list is orderly from where o is open, and leads where it leads, or it is not orderly at all.
abbrev pub ListsAreDecided : Type 0
ListsAreDecided =
    (p : Plan) (xs : List Element) (o : Open) (s t : Tokens) → Runs p xs s t
    → ((u : Open) × OrderlyFrom p xs o s u t) ⊎ ((u : Open) (w : Tokens) → OrderlyFrom p xs o s u w → ⊥)

-- an orderly list is possible
abbrev pub OrderlyIsPossible : Type 0
OrderlyIsPossible = (p : Plan) (xs : List Element) (o u : Open) (s t : Tokens) → OrderlyFrom p xs o s u t → Runs p xs s t
