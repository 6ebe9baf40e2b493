-- What every list of doings to an aim holds.
--
-- Read first: Lists, Orders. A place is needed where, at each `||` on the way, the other side hasn't the aim's port: nothing
-- that happens there can be the label. So what happens at a needed place is in every list to the aim, however the sides of
-- `||` take turns; and it may as well come first.
use Rattle.std.specs.Prelude.{◌≡◌, ℕ, zero, suc, List, ◌∷◌, Contains}
use Rattle.gos_model.specs.Terms.{Term, App, Both, Seq, Par, If, Assign, Deref, Not, Bin, Scope, Held, Put, Arr, Wait}
use Rattle.gos_model.specs.Typing.{Imports, Named, things}
use Rattle.gos_model.specs.Stores.{Store}
use Rattle.gos_model.specs.Labels.{Port, Given, Taken, Label}
use Rattle.gos_model.specs.Moves.{Running}
use Rattle.gos_programs.specs.contexts.Contexts.{Context, ParLeft, ParRight}
use Rattle.gos_swaps.specs.doings.Doings.{Doing, Unfolding, Computing, Showing, DoesAt}
use Rattle.gos_swaps.specs.proper.Proper.{IsProper}
use Rattle.gos_swaps.specs.orders.Alike.{Alike}
use Rattle.gos_swaps.specs.needed.Lists.{Runs, steps_among, labels_among, Goal, ToShow, port_of, Meets}

-- the port stands in the term; the given port stands in none
abbrev pub HasPort : Port → Term → Type 0
HasPort Given m = ⊥
HasPort (Taken x) m = Contains (things 0 m) (Named x)

-- the path leaves no side aside that has the port
abbrev pub IsNeeded : Port → List ℕ → Term → Type 0
IsNeeded o (zero ∷ path) (Par m n) = (HasPort o n → ⊥) × IsNeeded o path m
IsNeeded o (suc zero ∷ path) (Par m n) = (HasPort o m → ⊥) × IsNeeded o path n
IsNeeded o (zero ∷ path) (Seq m n) = IsNeeded o path m
IsNeeded o (zero ∷ path) (If m n p) = IsNeeded o path m
IsNeeded o (zero ∷ path) (Bin op m n) = IsNeeded o path m
IsNeeded o (zero ∷ path) (Held k op n) = IsNeeded o path n
IsNeeded o (zero ∷ path) (Not m) = IsNeeded o path m
IsNeeded o (suc zero ∷ path) (Assign m n) = IsNeeded o path n
IsNeeded o (zero ∷ path) (Scope l m) = IsNeeded o path m
IsNeeded o (zero ∷ suc zero ∷ path) (Deref (App (Arr l) m)) = IsNeeded o path m
IsNeeded o (zero ∷ suc zero ∷ path) (Put (App (Arr l) m) k) = IsNeeded o path m
IsNeeded o (zero ∷ suc zero ∷ suc zero ∷ path) (Deref (App (Wait x s) (Both n m))) = IsNeeded o path m
IsNeeded o (zero ∷ suc zero ∷ suc zero ∷ path) (Put (App (Wait x s) (Both n m)) k) = IsNeeded o path m
IsNeeded o path m = Unit {0}

-- a context leaves no side aside that has the port
abbrev pub IsOut : Port → Context → Type 0
IsOut o (ParLeft n) = HasPort o n → ⊥
IsOut o (ParRight m) = HasPort o m → ⊥
IsOut o c = Unit {0}

-- an unfolding, a step, or the label itself
abbrev pub IsToward : Goal → Doing → Type 0
IsToward g Unfolding = Unit {0}
IsToward g Computing = Unit {0}
IsToward g (Showing x) = g ≡ ToShow x

-- something happens at a needed place: a step towards the aim, or the label itself
pub record Leads (i : Imports) (g : Goal) (path : List ℕ) (e : Doing) (s u : Store) (m t : Term) : Type 0 where
  pub needed : IsNeeded (port_of g) path m
  pub does : DoesAt i path e s u m t
  pub toward : IsToward g e

-- what a doing takes off the labels and the number of steps of a list
abbrev pub TakesOff : Doing → List Label → ℕ → List Label → ℕ → Type 0
TakesOff Unfolding ls k ls' k' = (ls' ≡ ls) × (k' ≡ k)
TakesOff Computing ls k ls' k' = (ls' ≡ ls) × (k ≡ suc k')
TakesOff (Showing o) ls k ls' k' = (ls ≡ o ∷ ls') × (k' ≡ k)

-- Every list to the aim holds what leads to it, or what is alike. Without it, the list leads on from behind it to a
-- configuration that is alike: with one step less where it is a step, and with the same labels, but for the one that it is.
abbrev pub Residue : Type 0
Residue =
    (i : Imports) (g : Goal) (path : List ℕ) (e : Doing) (s u s' r : Store) (m t m' x : Term) (ds : List Doing)
    → IsProper m s → Leads i g path e s u m t → Alike (Running m s) (Running m' s') → Runs i ds s' r m' x → Meets g (labels_among ds) x
    → (u' : Store) × (r' : Store) × (t' : Term) × (x' : Term) × (es : List Doing)
    × Alike (Running t u) (Running t' u') × Alike (Running x r) (Running x' r') × Runs i es u' r' t' x'
    × TakesOff e (labels_among ds) (steps_among ds) (labels_among es) (steps_among es)
