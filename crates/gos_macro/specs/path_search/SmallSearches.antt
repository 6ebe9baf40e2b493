-- Small searches: through the gates of Skip, and through those of a Share of a command.
--
-- Read first: Search; SmallGates and SmallPaths.
use Rattle.std.specs.Prelude.{◌≡◌, ℕ, Bool, true, false, List, [], ◌∷◌}
use Rattle.gos_types.specs.Types.{Com}
use Rattle.gos_plan.specs.Kinds.{Skip, Share, part_contacts}
use Rattle.gos_macro.specs.SmallGates.{skip_cells, skip_outs, shared_cells, shared_outs, shared_late}
use Rattle.gos_macro.specs.SmallPaths.{skip_passing}
use Rattle.gos_macro.specs.Paths.{is_pair}
use Rattle.gos_macro.specs.path_search.Fixed.{fixed}
use Rattle.gos_macro.specs.path_search.Search.{is_told}

-- what the search says of Skip, and of a Share of a command
abbrev pub skip_told : (ℕ → ℕ → Bool) → Bool
skip_told = is_told (part_contacts Skip) (skip_cells 0 fixed) (skip_outs 0) []

abbrev pub shared_told : List ℕ → (ℕ → ℕ → Bool) → Bool
shared_told = is_told (part_contacts (Share Com)) (shared_cells 0 fixed) (shared_outs 0)

-- the request of Skip goes on as its answer
abbrev pub SkipIsTold : Type 0
SkipIsTold = (skip_told skip_passing ≡ true) × (skip_told (λ from to. false) ≡ false)

-- the answer of the source goes on to both callers, and nothing else does
abbrev pub SharedIsTold : Type 0
SharedIsTold =
    (shared_told shared_late (is_pair ((0, 1) ∷ (0, 2) ∷ [])) ≡ true)
    × (shared_told shared_late (is_pair ((0, 1) ∷ [])) ≡ false)
    × (shared_told shared_late (is_pair ((0, 1) ∷ (0, 2) ∷ (1, 0) ∷ [])) ≡ false)

-- so it isn't late
abbrev pub LateIsToldApart : Type 0
LateIsToldApart = shared_told (0 ∷ []) (is_pair ((0, 1) ∷ (0, 2) ∷ [])) ≡ false
