-- What the rows of the program answer.
--
-- Read first: NodeLists, Lines; Steps of gos_model.
use Rattle.std.specs.Prelude.{◌≡◌, ◌<◌, ◌≤◌, ◌⊎◌, ℕ, List, [], ◌∷◌, Option, Some, None, length, map, nat_eq, slice_get, ◌&&◌, if◌then◌else◌}
use Rattle.gos_types.specs.Types.{Type'}
use Rattle.gos_model.specs.Terms.{Term}
use Rattle.gos_model.specs.Typing.{Imports, import_type}
use Rattle.gos_model.specs.Reach.{Rewrites}
use Rattle.gos_model.specs.Stores as stores
use Rattle.gos_model.specs.Labels as shown
use Rattle.gos_model.specs.Labels.{Emits, Takes, IsAnswer}
use Rattle.gos_model.specs.Steps.{Computes}
use Rattle.gos_witness.specs.Lines.{TakesLeast}
use Rattle.gos_netlist.specs.Seen.{ground_type}
use Rattle.gos_witness.specs.declared.labels.Label.{Label}
use Rattle.gos_witness.specs.declared.nodes.Leaf.{Leaf}
use Rattle.gos_witness.specs.declared.nodes.OnePart.{OnePart}
use Rattle.gos_witness.specs.declared.nodes.OnePart.TheVariants as one
use Rattle.gos_witness.specs.declared.program.ProgramPort.{ProgramPort}
use Rattle.gos_witness.specs.declared.reading_nodes.Number.{Number}
use Rattle.gos_witness.specs.NodeLists.{Tables, Listed, FitsLeaf, leaf_term, seen}
use Rattle.gos_witness.specs.declared.store.Entry.{Entry}

-- an entry and a store of the program
abbrev pub entry_of : Entry → stores.Entry
entry_of e = record { place = e.place; width = e.width; numbers = e.numbers.items }

abbrev pub entries_of : List Entry → stores.Store
entries_of = map entry_of

-- numbers in the store have at most 64 bits
abbrev pub AreNarrow : List Entry → Type 0
AreNarrow [] = Unit {0}
AreNarrow (e ∷ s) = (e.width ≤ 64) × AreNarrow s

-- a number at an index of a location, with its width
pub record IsNumberAt (s : stores.Store) (l i : ℕ) (n : Number) : Type 0 where
  pub entry : stores.Entry
  pub place : entry.place ≡ l
  pub there : stores.entry_at s l ≡ Some entry
  pub number : slice_get entry.numbers i ≡ Some n.value
  pub width : entry.width ≡ n.width

-- a computation step where it happens, with the least new location
abbrev pub StepsTo : stores.Store → stores.Store → Term → Term → Type 0
StepsTo s s' m t = Computes s s' m t × TakesLeast s s' m

-- a step leads to a node of the list, or there is none
abbrev pub Outcome : Listed → List Entry → List Entry → Term → Option ℕ → Type 0
Outcome l s s' m None = (r : stores.Store) (t : Term) → StepsTo (entries_of s) r m t → ⊥
Outcome l s s' m (Some i) = (i < length l.nodes) × StepsTo (entries_of s) (entries_of s') m (seen l i)

-- a label where it happens
abbrev pub Shows : Imports → shown.Label → Term → Term → Type 0
Shows is o m t = Emits is o m t ⊎ Takes is o m t

-- a label leads to a node of the list, or it can't be there
abbrev pub ShowsTo : Listed → Imports → shown.Label → Term → Option ℕ → Type 0
ShowsTo l is o m None = (t : Term) → Shows is o m t → ⊥
ShowsTo l is o m (Some i) = (i < length l.nodes) × Shows is o m (seen l i)

-- an unfolding leads to a node of the list, or there is none
abbrev pub UnfoldsTo : Listed → Term → Option ℕ → Type 0
UnfoldsTo l m None = (t : Term) → Rewrites m t → ⊥
UnfoldsTo l m (Some i) = (i < length l.nodes) × Rewrites m (seen l i)

-- the port of an import, and a label of it
abbrev pub IsPortOf : Imports → ProgramPort → Type 0
IsPortOf is p = import_type is p.name ≡ Some (ground_type p.ground)

abbrev pub label_at : ProgramPort → Label → shown.Label
label_at p o = shown.taken p.name o.place o.value

-- a label leads to a leaf, or it can't be there
abbrev pub LeafShows : Tables → Imports → shown.Label → Term → Option Leaf → Type 0
LeafShows a is o m None = (t : Term) → Shows is o m t → ⊥
LeafShows a is o m (Some leaf) = Shows is o m (leaf_term a leaf)

-- the event that is waited for after the request of a read or a write, where the label is it
abbrev pub event_behind : Label → OnePart → Option ℕ
event_behind o one.Deref = if nat_eq o.place 0 && nat_eq o.value 0 then Some 1 else None
event_behind o (one.Put k) = if nat_eq o.place 2 && nat_eq o.value k then Some 3 else None
event_behind o f = None

-- an answer of a port of this type leads to a leaf, or it is none
abbrev pub IsAnswered : Type' → Tables → ℕ → ℕ → Option Leaf → Type 0
IsAnswered ty a s k None = (t : Term) → IsAnswer (Some ty) s k t → ⊥
IsAnswered ty a s k (Some leaf) = IsAnswer (Some ty) s k (leaf_term a leaf) × FitsLeaf a leaf
