-- Where nothing can lead on at a needed place, no list comes to the aim.
--
-- Read first: Needed, Sides. Elsewhere nothing helps: what happens there changes neither the term at the place nor the numbers that
-- the store has at its locations.
use Rattle.std.specs.Prelude.{◌≡◌, ℕ, List, [], ◌∷◌, Contains}
use Rattle.gos_model.specs.Terms.{Term}
use Rattle.gos_model.specs.Typing.{Imports, Place, things}
use Rattle.gos_model.specs.Stores.{Store, entry_at}
use Rattle.gos_model.specs.Steps.{IsValue}
use Rattle.gos_model.specs.Labels.{Label}
use Rattle.gos_programs.specs.contexts.Contexts.{Context, plug_all}
use Rattle.gos_swaps.specs.doings.Doings.{Doing, DoesAt}
use Rattle.gos_swaps.specs.doings.Sides.{path_through}
use Rattle.gos_swaps.specs.proper.Proper.{IsProper}
use Rattle.gos_swaps.specs.needed.Lists.{Runs, labels_among, Goal, port_of, Meets}
use Rattle.gos_swaps.specs.needed.Needed.{HasPort, IsNeeded, IsToward}

-- both stores have the same at the locations of the term
abbrev pub SameAt : Term → Store → Store → Type 0
SameAt m s u = (l : ℕ) → Contains (things 0 m) (Place l) → entry_at u l ≡ entry_at s l

-- nothing that happens to the term leads toward the aim, on any store that has the same at its locations
abbrev pub IsStuck : Imports → Goal → Store → Term → Type 0
IsStuck i g s m = (path : List ℕ) (e : Doing) (v u : Store) (t : Term) → SameAt m s v → DoesAt i path e v u m t → IsToward g e → ⊥

-- no list comes to the aim where what is stuck stands at a needed place, and is no value
abbrev pub BlockedStays : Type 0
BlockedStays =
    (i : Imports) (g : Goal) (cs : List Context) (s r : Store) (m t : Term) (ds : List Doing)
    → IsProper (plug_all cs m) s → IsNeeded (port_of g) (path_through cs []) (plug_all cs m) → (IsValue m → ⊥) → IsStuck i g s m
    → Runs i ds s r (plug_all cs m) t → Meets g (labels_among ds) t → ⊥

-- and no list shows a label of a port that doesn't stand in the term
abbrev pub AbsentNeverComes : Type 0
AbsentNeverComes =
    (i : Imports) (o : Label) (s r : Store) (m t : Term) (ds : List Doing) (rest : List Label)
    → IsProper m s → (HasPort o.port m → ⊥) → Runs i ds s r m t → labels_among ds ≡ o ∷ rest → ⊥
