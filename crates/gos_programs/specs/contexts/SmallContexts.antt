-- Small terms and stores: the definitions of this crate can be met, and can be missed.
--
-- Read first: Together, LocalVariable, Standing.
use Rattle.std.specs.Prelude.{◌≡◌, ℕ, suc, [], ◌∷◌}
use Rattle.gos_types.specs.Types.{Com, Var}
use Rattle.gos_model.specs.Terms.{Term, Skip, Lit, Import, App, Seq, Par, Assign, Deref, Loc, Scope, Wait, Put, Both, Arr}
use Rattle.gos_model.specs.Typing.{Imports}
use Rattle.gos_model.specs.Stores.{variable_at, Store}
use Rattle.gos_model.specs.Labels.{given, taken}
use Rattle.gos_model.specs.Moves.{Computing, Showing}
use Rattle.gos_model.specs.SmallPrograms.{c}
use Rattle.gos_programs.specs.contexts.Contexts.{SeqFirst, ParLeft, ReadIndex, IsAlone, ReadAt}
use Rattle.gos_programs.specs.contexts.Plugged.{AreInner}
use Rattle.gos_programs.specs.contexts.Scopes.{IsShut, OpensInPlace, KeepsScopes}
use Rattle.gos_programs.specs.contexts.Standing.{StandsIn, InScope, OpensDiffer}
use Rattle.gos_programs.specs.contexts.Renaming.{renamed, IsInjective, IsFreeOf}
use Rattle.gos_programs.specs.contexts.Widening.{AreAmong, Knows}
use Rattle.gos_programs.specs.contexts.SameStores.{SameEntries, AreApart}
use Rattle.gos_programs.specs.contexts.Together.{Holds}
use Rattle.gos_programs.specs.contexts.LocalVariable.{placed, HasOthers, IsHome, IsElsewhere}

-- a block that is open, with 1 to be written, and a store with its variable at location l
abbrev pub block : Term
block = Scope 0 (Put (Loc 0) 1)

abbrev pub one_at : ℕ → Store
one_at l = variable_at l 1 0 ∷ []

abbrev pub one_command : Imports
one_command = record { name = c; ty = Com } ∷ []

abbrev pub one_variable : Imports
one_variable = record { name = c; ty = Var 1 } ∷ []

-- beside the first part of a sequence nothing is reached, beside a side of `||` the other side is
abbrev pub SidesAreNotAlone : Type 0
SidesAreNotAlone = IsAlone (SeqFirst Skip) × (IsAlone (ParLeft Skip) → ⊥)

-- the request of an import is inner, that of the program isn't
abbrev pub RequestsAreNotInner : Type 0
RequestsAreNotInner = AreInner (Computing ∷ Showing (taken c 0 0) ∷ []) × (AreInner (Showing (given 0 0) ∷ []) → ⊥)

-- the block may be open where it is reached, and nowhere else
abbrev pub BlocksOpenInPlace : Type 0
BlocksOpenInPlace = OpensInPlace (Seq block Skip) × (OpensInPlace (Seq Skip block) → ⊥) × (IsShut block → ⊥)

-- and in the index of an access that was asked for, but not in one that was not; and in that of an array of the program's own
abbrev pub BlocksOpenInIndex : Type 0
BlocksOpenInIndex =
    OpensInPlace (Deref (App (Wait c 0) (Both Skip block))) × (OpensInPlace (Deref (App (Wait c 1) (Both Skip block))) → ⊥)
    × OpensInPlace (Deref (App (Arr 0) block))

-- of an index at a port no context is alone, since its number is a label; at an array of the program's own it is
abbrev pub IndexIsNotAlone : Type 0
IndexIsNotAlone = (IsAlone (ReadIndex c Skip) → ⊥) × IsAlone (ReadAt 0)

-- a store keeps to the block, and doesn't outlast it
abbrev pub StoresKeepScopes : Type 0
StoresKeepScopes = KeepsScopes block (one_at 0) × (KeepsScopes Skip (one_at 0) → ⊥)

-- its location stands in its store, and in no other
abbrev pub LocationsStand : Type 0
LocationsStand = StandsIn (one_at 0) block × (StandsIn (one_at 1) block → ⊥)

-- and within the block alone
abbrev pub LocationsAreScoped : Type 0
LocationsAreScoped = InScope [] block × (InScope [] (Seq block (Put (Loc 0) 1)) → ⊥)

-- two open blocks have two locations
abbrev pub BlocksDiffer : Type 0
BlocksDiffer = OpensDiffer (Par block (renamed suc block)) × (OpensDiffer (Par block block) → ⊥)

abbrev pub BlockIsRenamed : Type 0
BlockIsRenamed = renamed suc block ≡ Scope 1 (Put (Loc 1) 1)

-- the next location is a renaming, one location for all is none
abbrev pub RenamingsTellApart : Type 0
RenamingsTellApart = IsInjective suc × (IsInjective (λ l. 0) → ⊥)

-- it never gives location 0, and gives location 1
abbrev pub ZeroIsFree : Type 0
ZeroIsFree = IsFreeOf suc (one_at 0) × (IsFreeOf suc (one_at 1) → ⊥)

-- more imports, and not fewer
abbrev pub NoneAreAmongSome : Type 0
NoneAreAmongSome = AreAmong [] one_command × (AreAmong one_command [] → ⊥)

abbrev pub NamesAreKnown : Type 0
NamesAreKnown = Knows one_command (Import c) × (Knows [] (Import c) → ⊥)

-- in which order entries stand doesn't matter, and whether there are any does
abbrev pub EntriesInAnyOrder : Type 0
EntriesInAnyOrder =
    SameEntries (variable_at 0 1 0 ∷ one_at 1) (variable_at 1 1 0 ∷ one_at 0)
    × (SameEntries (one_at 0) [] → ⊥)

abbrev pub StoresAreApart : Type 0
StoresAreApart = AreApart (one_at 0) (one_at 1) × (AreApart (one_at 0) (one_at 0) → ⊥)

-- a store with location 1 holds one with location 0, renamed, and doesn't hold it as it is
abbrev pub StoreIsHeld : Type 0
StoreIsHeld = Holds suc (one_at 0) [] (one_at 1) × (Holds suc (one_at 0) [] (one_at 0) → ⊥)

-- location 3 for the import that is written, and not for another one
abbrev pub LocationIsPlaced : Type 0
LocationIsPlaced =
    (placed (λ l. l) c 3 (Assign (Import c) (Lit 1 1)) ≡ Assign (Loc 3) (Lit 1 1))
    × (placed (λ l. l) (100 ∷ []) 3 (Assign (Import c) (Lit 1 1)) ≡ Assign (Import c) (Lit 1 1))

-- without the variable all others are as they were; with it left in as another, they aren't those of the command
abbrev pub OthersAreLeft : Type 0
OthersAreLeft = HasOthers c one_variable [] × (HasOthers (100 ∷ []) one_variable [] → ⊥)

-- location 0 is a home where the renaming doesn't give it
abbrev pub HomeIsApart : Type 0
HomeIsApart = IsHome suc (one_at 0) 0 1 0 × (IsHome (λ l. l) (one_at 0) 0 1 0 → ⊥)

-- a label of another import is elsewhere, one of the import itself isn't
abbrev pub LabelsElsewhere : Type 0
LabelsElsewhere = IsElsewhere (100 ∷ []) (Showing (taken c 0 0)) × (IsElsewhere c (Showing (taken c 0 0)) → ⊥)
