-- Which order of handshakes is that of ranks, and what the gates that are made for it keep.
--
-- Read first: Law and Kept of gos_macro; Ranges of gos_plan; Fast.
use Rattle.std.specs.Prelude.{◌≡◌, ◌<◌, ◌*◌, ℕ, List, [], All, length, map}
use Rattle.gos_types.specs.declared.types.Ty.{Ty}
use Rattle.gos_types.specs.Types.{Type', type_of}
use Rattle.gos_plan.specs.Kinds.{Share, contacts_of}
use Rattle.gos_plan.specs.Ranges.{IsSmall}
use Rattle.gos_plan.specs.Tokens.{shake_of}
use Rattle.gos_macro.specs.Gates.{nothing_pending}
use Rattle.gos_macro.specs.Law.{Order, IsAbove, early_in_order, LawInOrder}
use Rattle.gos_macro.specs.Kept.{KeepLaws}
use Rattle.gos_macro.specs.Fit.{GatesFit}
use Rattle.gos_macro.specs.Paths.{KeepPaths}
use Rattle.gos_fast_share.specs.Made.{Made}
use Rattle.gos_fast_share.specs.Fast.{fast_cells, fast_outs, fast_passing, FastStands}

-- The handshakes of the Share of a type stand in this order by their ranks, and where two are equal by their numbers.
abbrev pub IsByRank : Type' → List ℕ → Order → Type 0
IsByRank t order rank = (top : ℕ) → IsAbove (Share t) rank top → map shake_of (early_in_order (Share t) [] rank top) ≡ order

-- one number above all ranks tells of each
abbrev pub OneTopTells : Type 0
OneTopTells =
    (t : Type') (order : List ℕ) (rank : Order) (top : ℕ)
    → IsAbove (Share t) rank top → map shake_of (early_in_order (Share t) [] rank top) ≡ order → IsByRank t order rank

-- what the laws say of the gates that are made for this order, where the ranks are these
abbrev pub FastGates : Type' → List ℕ → Order → Type 0
FastGates t order rank = KeepLaws (Share t) (fast_cells (contacts_of t) order) (fast_outs (contacts_of t) order) [] nothing_pending FastStands rank

-- and what the first of them says: in each cycle they do what the part does by its rows
abbrev pub FastLaw : Type' → List ℕ → Order → Type 0
FastLaw t order rank = LawInOrder (Share t) (fast_cells (contacts_of t) order) (fast_outs (contacts_of t) order) [] nothing_pending FastStands rank

-- The gates of each type that are made for the order of the ranks keep the laws.
abbrev pub FastKeep : Type 0
FastKeep = (t : Ty) (order : List ℕ) (rank : Order) → IsSmall t → IsByRank (type_of t) order rank → FastGates (type_of t) order rank

-- Those that are made for any order keep what is asked of an accepted netlist, and of paths.
abbrev pub FastFit : Type 0
FastFit =
    (t : Ty) (order : List ℕ) → IsSmall t
    → GatesFit (Share (type_of t)) (fast_cells (contacts_of (type_of t)) order) (fast_outs (contacts_of (type_of t)) order)

abbrev pub FastPaths : Type' → List ℕ → Type 0
FastPaths t order =
    KeepPaths (Share t) (fast_cells (contacts_of t) order) (fast_outs (contacts_of t) order) [] (fast_passing (contacts_of t) order)

abbrev pub FastKeepPaths : Type 0
FastKeepPaths = (t : Ty) (order : List ℕ) → FastPaths (type_of t) order

-- A part that can be laid out: its type is small, and its order has three handshakes for each of the type's, all of them its own.
abbrev pub IsMade : Made → Type 0
IsMade m =
    IsSmall m.ty
    × (length m.order ≡ 3 * length (contacts_of (type_of m.ty)))
    × All (λ e. e < 3 * length (contacts_of (type_of m.ty))) m.order
