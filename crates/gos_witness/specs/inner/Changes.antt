-- What the changes of a whole term answer.
--
-- Read first: Places, Rows.
use Rattle.std.specs.Prelude.{◌<◌, ℕ, List, Option, Some, None, length}
use Rattle.gos_model.specs.Terms.{Term}
use Rattle.gos_model.specs.Typing.{Imports}
use Rattle.gos_model.specs.Stores.{Store}
use Rattle.gos_model.specs.Labels.{Label}
use Rattle.gos_model.specs.Reach.{Rewrites}
use Rattle.gos_model.specs.Paths.{ReachedAt}
use Rattle.gos_swaps.specs.doings.Heads.{HeadAt}
use Rattle.gos_witness.specs.NodeLists.{Listed, seen}
use Rattle.gos_witness.specs.declared.store.Entry.{Entry}
use Rattle.gos_witness.specs.inner.Rows.{entries_of, StepsTo, Shows}

-- an unfolding at a head leads to a node of the list, or there is none
abbrev pub UnfoldsAt : Listed → List ℕ → Term → Option ℕ → Type 0
UnfoldsAt l path m None = (t : Term) → HeadAt path Rewrites m t → ⊥
UnfoldsAt l path m (Some i) = (i < length l.nodes) × HeadAt path Rewrites m (seen l i)

-- a step does
abbrev pub StepsAt : Listed → List ℕ → List Entry → List Entry → Term → Option ℕ → Type 0
StepsAt l path s s' m None = (r : Store) (t : Term) → ReachedAt path (StepsTo (entries_of s) r) m t → ⊥
StepsAt l path s s' m (Some i) = (i < length l.nodes) × ReachedAt path (StepsTo (entries_of s) (entries_of s')) m (seen l i)

-- a label does
abbrev pub ShowsAt : Listed → Imports → Label → List ℕ → Term → Option ℕ → Type 0
ShowsAt l is o path m None = (t : Term) → ReachedAt path (Shows is o) m t → ⊥
ShowsAt l is o path m (Some i) = (i < length l.nodes) × ReachedAt path (Shows is o) m (seen l i)
