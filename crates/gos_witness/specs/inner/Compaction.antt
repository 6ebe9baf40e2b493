-- Terms taken over from a list of nodes into a shorter one.
--
-- Read first: NodeLists, Keeping. The new list begins with the first nodes of the old one, of which there are base.
use Rattle.std.specs.Prelude.{◌≡◌, ◌<◌, ◌≤◌, ◌+◌, ℕ, List, Option, Some, length, slice_get}
use Rattle.gos_witness.specs.declared.nodes.Form.{Form}
use Rattle.gos_witness.specs.declared.nodes.Form.TheVariants as forms
use Rattle.gos_witness.specs.NodeLists.{Listed, seen}
use Rattle.gos_witness.specs.inner.Keeping.{KeepsTables}

-- node p of the new list has the term of node i of the old one
abbrev pub IsCopy : Listed → Listed → ℕ → ℕ → Type 0
IsCopy old new i p = (p < length new.nodes) × (seen new p ≡ seen old i)

-- the new list has the types and names of the old one, and the terms of its first nodes
pub record IsBeginning (old : Listed) (base : ℕ) (new : Listed) : Type 0 where
  pub tables : KeepsTables old.tables new.tables
  pub more : base ≤ length new.nodes
  pub terms : (i : ℕ) → i < base → seen new i ≡ seen old i

-- where the nodes behind the first ones stand in the new list, as far as they are in it
abbrev pub ArePlaces : Listed → Listed → ℕ → List (Option ℕ) → Type 0
ArePlaces old new base places = (i p : ℕ) → slice_get places i ≡ Some (Some p) → IsCopy old new (base + i) p

-- a form, and the one with the places of its parts
abbrev pub IsMoved : Listed → Listed → Form → Form → Type 0
IsMoved old new (forms.Leaf leaf) g = g ≡ forms.Leaf leaf
IsMoved old new (forms.One o a) g = (p : ℕ) × (g ≡ forms.One o p) × IsCopy old new a p
IsMoved old new (forms.Two o a b) g = (p q : ℕ) × (g ≡ forms.Two o p q) × IsCopy old new a p × IsCopy old new b q
IsMoved old new (forms.If a b c) g =
    (p q r : ℕ) × (g ≡ forms.If p q r) × IsCopy old new a p × IsCopy old new b q × IsCopy old new c r
