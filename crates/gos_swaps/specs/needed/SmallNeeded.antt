-- Small terms with the places that an aim needs, and small lists.
--
-- Read first: Blocked.
use Rattle.std.specs.Prelude.{◌≡◌, [], ◌∷◌}
use Rattle.gos_model.specs.Terms.{Term, Skip, Import, App, Both, Seq, Par, Deref, Arr, Wait}
use Rattle.gos_model.specs.Labels.{Given, Taken, taken}
use Rattle.gos_model.specs.SmallPrograms.{c, d, two_commands}
use Rattle.gos_swaps.specs.doings.Doings.{Unfolding, Computing, Showing}
use Rattle.gos_swaps.specs.needed.Lists.{Runs, steps_among, labels_among, ToShow, ToEnd, Meets}
use Rattle.gos_swaps.specs.needed.Needed.{HasPort, IsNeeded, IsToward, TakesOff}
use Rattle.gos_swaps.specs.needed.Blocked.{IsStuck}

-- `c || d`: the port c needs the left side and not the right one, and the end needs both
abbrev pub SideOfPortIsNeeded : Type 0
SideOfPortIsNeeded =
    IsNeeded (Taken c) (0 ∷ []) (Par (Import c) Skip) × (IsNeeded (Taken c) (1 ∷ []) (Par (Import c) Skip) → ⊥)
    × IsNeeded Given (0 ∷ []) (Par (Import c) (Import d)) × IsNeeded Given (1 ∷ []) (Par (Import c) (Import d))

-- an access of d whose index, asked for, first runs `c || skip`: there too the port c needs the left side alone
abbrev pub index_first : Term
index_first = Deref (App (Wait d 0) (Both Skip (Seq (Par (Import c) Skip) Skip)))

-- the same index at an array of the program's own
abbrev pub own_index_first : Term
own_index_first = Deref (App (Arr 0) (Seq (Par (Import c) Skip) Skip))

abbrev pub SideInIndexIsNeeded : Type 0
SideInIndexIsNeeded =
    IsNeeded (Taken c) (0 ∷ 1 ∷ 1 ∷ 0 ∷ 0 ∷ []) index_first × (IsNeeded (Taken c) (0 ∷ 1 ∷ 1 ∷ 0 ∷ 1 ∷ []) index_first → ⊥)
    × IsNeeded (Taken c) (0 ∷ 1 ∷ 0 ∷ 0 ∷ []) own_index_first × (IsNeeded (Taken c) (0 ∷ 1 ∷ 0 ∷ 1 ∷ []) own_index_first → ⊥)

-- an import has its port, a wait too, and no term the given one
abbrev pub ImportsHavePorts : Type 0
ImportsHavePorts = HasPort (Taken c) (Wait c 1) × (HasPort (Taken c) Skip → ⊥) × (HasPort Given (Import c) → ⊥)

-- c and then d: two labels, two steps
abbrev pub ListIsCounted : Type 0
ListIsCounted =
    (labels_among (Unfolding ∷ Showing (taken c 0 0) ∷ Computing ∷ Showing (taken d 0 0) ∷ Computing ∷ []) ≡ taken c 0 0 ∷ taken d 0 0 ∷ [])
    × (steps_among (Unfolding ∷ Showing (taken c 0 0) ∷ Computing ∷ Showing (taken d 0 0) ∷ Computing ∷ []) ≡ 2)

-- `skip ; c` steps to c, which asks; the label of c is met first, and the end isn't
abbrev pub ListMeetsLabel : Type 0
ListMeetsLabel =
    Runs two_commands (Computing ∷ Showing (taken c 0 0) ∷ []) [] [] (Seq Skip (Import c)) (Wait c 1)
    × Meets (ToShow (taken c 0 0)) (taken c 0 0 ∷ []) (Wait c 1) × (Meets ToEnd (taken c 0 0 ∷ []) (Wait c 1) → ⊥)

-- a step is toward every aim, a label toward itself alone; a step takes one step off, and no label
abbrev pub StepsAreToward : Type 0
StepsAreToward =
    IsToward ToEnd Computing × IsToward (ToShow (taken c 0 0)) (Showing (taken c 0 0)) × (IsToward ToEnd (Showing (taken c 0 0)) → ⊥)
    × TakesOff Computing [] 2 [] 1 × (TakesOff Computing [] 2 [] 2 → ⊥)

-- a wait for c is stuck where d is aimed at, and not where its own answer is
abbrev pub WaitIsStuck : Type 0
WaitIsStuck =
    IsStuck two_commands (ToShow (taken d 0 0)) [] (Wait c 1) × (IsStuck two_commands (ToShow (taken c 1 0)) [] (Wait c 1) → ⊥)
