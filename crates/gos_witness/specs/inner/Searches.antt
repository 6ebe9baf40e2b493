-- What is known of all lists of moves while lines are found.
--
-- Read first: Find, Lines; Needed of gos_swaps. A list of moves is taken apart into what happens at single places, with the root's own
-- requests and answers between. Each list that has the labels so far and the next one goes on from where the lines lead, but for the
-- names of locations, and the steps that are made are among its own.
use Rattle.std.specs.Prelude.{◌≡◌, ◌+◌, ℕ, List, [], ◌∷◌, ◌++◌}
use Rattle.gos_model.specs.Terms.{Term}
use Rattle.gos_model.specs.Stores.{Store}
use Rattle.gos_model.specs.Labels.{Port, Given, Taken, Label as Shown, given}
use Rattle.gos_model.specs.Moves.{Program, Config, Idle, Running, Answers}
use Rattle.gos_swaps.specs.doings.Doings.{Doing, Showing, DoesAt}
use Rattle.gos_swaps.specs.proper.Proper.{IsProper}
use Rattle.gos_swaps.specs.orders.Alike.{Alike}
use Rattle.gos_swaps.specs.needed.Lists.{steps_among, labels_among, Goal, ToShow, ToEnd}
use Rattle.gos_swaps.specs.needed.Needed.{IsNeeded}
use Rattle.gos_witness.specs.declared.moves.Line.{Line}
use Rattle.gos_witness.specs.declared.moves.Line.TheVariants.{Unfold, Step, Label, Root}
use Rattle.gos_witness.specs.Lines.{Stand, CantMake}

-- what happens to a configuration: something at a place, or the root's request or its answer
abbrev pub Happens : Program → Doing → Config → Config → Type 0
Happens p d Idle c = (d ≡ Showing (given 0 0)) × (c ≡ Running p.body [])
Happens p d (Running m s) Idle = (o : Shown) × (d ≡ Showing o) × Answers o m
Happens p d (Running m s) (Running t u) = (path : List ℕ) × DoesAt p.imports path d s u m t

-- all this in this order
abbrev pub Goes : Program → List Doing → Config → Config → Type 0
Goes p [] c d = c ≡ d
Goes p (x ∷ ds) c d = (b : Config) × Happens p x c b × Goes p ds b d

-- what leads to a label: a label of a taken port is shown, and the root's answer comes at the end
abbrev pub goal_at : Port → Shown → Goal
goal_at Given o = ToEnd
goal_at (Taken x) o = ToShow o

abbrev pub goal_of : Shown → Goal
goal_of o = goal_at o.port o

-- each list with these labels and then this one goes on from c, but for the names of locations, with n steps less
abbrev pub IsAhead : Program → List Shown → Shown → ℕ → Config → Type 0
IsAhead p done o n c =
    (rest : List Shown) (ds : List Doing) (d : Config) → Goes p ds Idle d → labels_among ds ≡ done ++ o ∷ rest
    → (b : Config) × (e : Config) × (es : List Doing) × Alike c b × Goes p es b e × (labels_among es ≡ o ∷ rest) × (n + steps_among es ≡ steps_among ds)

-- where a label is left
abbrev pub AreAhead : Program → List Shown → List Shown → ℕ → Config → Type 0
AreAhead p done [] n c = Unit {0}
AreAhead p done (o ∷ left) n c = IsAhead p done o n c

-- a running term with its store is proper
abbrev pub IsSound : Config → Type 0
IsSound Idle = Unit {0}
IsSound (Running m s) = IsProper m s

-- lines with n steps have led to a stand, by what each list to the next label holds
pub record IsSearch (p : Program) (ls : List Shown) (n : ℕ) (a : Stand) : Type 0 where
  pub done : List Shown
  pub whole : done ++ a.left ≡ ls
  pub sound : IsSound a.config
  pub ahead : AreAhead p done a.left n a.config

-- the line is at a place that the next label needs
abbrev pub IsNeededFor : Line → Config → List Shown → Type 0
IsNeededFor (Unfold path) (Running m s) (o ∷ left) = IsNeeded o.port path m
IsNeededFor (Step path) (Running m s) (o ∷ left) = IsNeeded o.port path m
IsNeededFor (Label path) (Running m s) (o ∷ left) = IsNeeded o.port path m
IsNeededFor line c left = Unit {0}

-- no list from here has the next label first
abbrev pub NeverComes : Program → Config → List Shown → Type 0
NeverComes p c [] = Unit {0}
NeverComes p c (o ∷ left) = (rest : List Shown) (ds : List Doing) (d : Config) → Goes p ds c d → labels_among ds ≡ o ∷ rest → ⊥

-- the line to try: if it can't be made, the label never comes
pub record IsNextLine (p : Program) (line : Line) (a : Stand) : Type 0 where
  pub needed : IsNeededFor line a.config a.left
  pub blocked : CantMake p line a → NeverComes p a.config a.left
