-- Lists of nodes that grow.
--
-- Read first: NodeLists.
use Rattle.std.specs.Prelude.{◌≡◌, ◌<◌, ◌≤◌, ℕ, length}
use Rattle.gos_witness.specs.NodeLists.{Tables, Listed, type_at, name_at, seen}

-- the new tables have all types and names of the old ones
pub record KeepsTables (old new : Tables) : Type 0 where
  pub more_types : length old.types ≤ length new.types
  pub types : (i : ℕ) → i < length old.types → type_at new i ≡ type_at old i
  pub more_names : length old.names ≤ length new.names
  pub names : (i : ℕ) → i < length old.names → name_at new i ≡ name_at old i

-- the new list has all terms, types and names of the old one
pub record Keeps (old new : Listed) : Type 0 where
  pub more : length old.nodes ≤ length new.nodes
  pub terms : (i : ℕ) → i < length old.nodes → seen new i ≡ seen old i
  pub tables : KeepsTables old.tables new.tables
