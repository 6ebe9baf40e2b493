-- What a search at the fixed place tells is so at every place.
--
-- Read first: Search.
use Rattle.std.specs.Prelude.{◌≡◌, ℕ, Bool, true, List}
use Rattle.gos_netlist.specs.Nets.{Cell}
use Rattle.gos_plan.specs.Kinds.{Part, part_contacts}
use Rattle.gos_macro.specs.Gates.{Incoming, Outgoing}
use Rattle.gos_macro.specs.Paths.{PutsPass, KeepPaths}
use Rattle.gos_macro.specs.path_search.Fixed.{fixed, AreNamed, OutsAreNamed}
use Rattle.gos_macro.specs.path_search.Search.{is_told}

-- Gates that know nets by name alone, and of which the search tells what `passing` says, keep what is asked of paths, where
-- the part's tokens go by these.
abbrev pub ToldIsKept : Type 0
ToldIsKept =
    (k : Part) (cells : ℕ → Incoming → List Cell) (outs : ℕ → List Outgoing) (late : List ℕ) (passing : ℕ → ℕ → Bool)
    → AreNamed cells → OutsAreNamed outs → is_told (part_contacts k) (cells 0 fixed) (outs 0) late passing ≡ true → PutsPass k late passing
    → KeepPaths k cells outs late passing
