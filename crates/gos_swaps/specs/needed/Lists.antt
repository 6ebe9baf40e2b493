-- Lists of doings: where they lead, what they show, and what is aimed at.
--
-- Read first: Doings. A list of doings is of one running term: the program's own request and answer are none of them.
use Rattle.std.specs.Prelude.{◌≡◌, ℕ, suc, List, [], ◌∷◌}
use Rattle.gos_model.specs.Terms.{Term}
use Rattle.gos_model.specs.Typing.{Imports}
use Rattle.gos_model.specs.Stores.{Store}
use Rattle.gos_model.specs.Steps.{IsValue}
use Rattle.gos_model.specs.Labels.{Port, Given, Label}
use Rattle.gos_swaps.specs.doings.Doings.{Doing, Unfolding, Computing, Showing, DoesAt}

-- these doings in this order, each at some place
abbrev pub Runs : Imports → List Doing → Store → Store → Term → Term → Type 0
Runs i [] s u m t = (m ≡ t) × (u ≡ s)
Runs i (d ∷ ds) s u m t = (p : List ℕ) × (x : Term) × (v : Store) × DoesAt i p d s v m x × Runs i ds v u x t

-- how many computation steps are among them
abbrev pub steps_among : List Doing → ℕ
steps_among [] = 0
steps_among (Unfolding ∷ ds) = steps_among ds
steps_among (Computing ∷ ds) = suc (steps_among ds)
steps_among (Showing o ∷ ds) = steps_among ds

-- and which labels
abbrev pub labels_among : List Doing → List Label
labels_among [] = []
labels_among (Unfolding ∷ ds) = labels_among ds
labels_among (Computing ∷ ds) = labels_among ds
labels_among (Showing o ∷ ds) = o ∷ labels_among ds

-- What is aimed at: a label, or the end, from which the program answers.
pub data Goal : Type 0 where
  ToShow : (o : Label) → Goal
  ToEnd : Goal

-- the port at which that is seen
abbrev pub port_of : Goal → Port
port_of (ToShow o) = o.port
port_of ToEnd = Given

-- a list that shows these labels and leads to this term has that aim first: the label is its first, or it shows none and ends in a value
abbrev pub Meets : Goal → List Label → Term → Type 0
Meets (ToShow o) ls t = (rest : List Label) × (ls ≡ o ∷ rest)
Meets ToEnd ls t = (ls ≡ []) × IsValue t
