-- Each path that the search finds is there.
--
-- Read first: Search; Elements, Renamed.
use Rattle.std.proofs.Common.{◌≡◌, ℕ, zero, suc, ◌<◌, Bool, true, false, not, ◌||◌, List, [], ◌∷◌, ◌++◌, length, Option, None, Some, slice_get, refl, arith}
use Rattle.std.specs.List.{list_any}
use Rattle.std.proofs.lemmas.Option.{slice_get_within}
use Rattle.gos_netlist.specs.Nets.{Cell, pins}
use Rattle.gos_macro.specs.Paths.{Drives, Path}
use Rattle.gos_macro.specs.path_search.Search.{is_register, flows, leads}
use Rattle.gos_macro.specs.path_search.laws.Elements.{both_true, passing_one}
use Rattle.gos_macro.specs.path_search.laws.Renamed.{no_register}

-- a path that leads one cell further
further : (b : ℕ) (cells : List Cell) (m : ℕ) (ns : List ℕ) (n z : ℕ) → Path b cells m ns n → Drives b cells n z → Path b cells m (ns ++ n ∷ []) z
further b cells m [] n z path step = (path, step)
further b cells m (o ∷ ns) n z (first, path) step = (first, further b cells o ns n z path step)

-- a path from one of these nets to that of a cell
abbrev pub LeadsFrom : List Cell → (ℕ → Bool) → ℕ → Type 0
LeadsFrom cells these z = (z < length cells) × (m : ℕ) × (ns : List ℕ) × (these m ≡ true) × Path 0 cells m ns z

pub is_not : (t : Bool) → not t ≡ true → t ≡ false
is_not true h = absurd (cc h)
is_not false h = refl

-- a net of these, or one that such a path leads to, with one cell more
behind : (cells : List Cell) (these : ℕ → Bool) (reached : ℕ → Bool) (n z : ℕ) → (reached n ≡ true → LeadsFrom cells these n)
    → (these n || reached n) ≡ true → z < length cells → Drives 0 cells n z → LeadsFrom cells these z
behind cells these reached n z known holds inside step = by_test (these n) refl holds
  where
    by_test : (t : Bool) → these n ≡ t → (t || reached n) ≡ true → LeadsFrom cells these z
    by_test true starts holds = (inside, n, [], starts, step)
    by_test false fails holds =
        let (there, m, ns, starts, path) = known holds in (inside, m, ns ++ n ∷ [], starts, further 0 cells m ns n z path step)

pub found_is_there : (cells : List Cell) (these : ℕ → Bool) (steps z : ℕ) → leads cells these steps z ≡ true → LeadsFrom cells these z
found_is_there cells these zero z holds = absurd (cc holds)
found_is_there cells these (suc steps) z holds = at_cell (found_is_there cells these steps) (slice_get cells z) refl holds
  where
    before : ℕ → Bool
    before n = these n || leads cells these steps n

    at_cell : ((n : ℕ) → leads cells these steps n ≡ true → LeadsFrom cells these n) → (f : Option Cell) → slice_get cells z ≡ f → flows before f ≡ true
        → LeadsFrom cells these z
    at_cell known None none holds = absurd (cc holds)
    at_cell known (Some c) at holds =
        let both = both_true (not (is_register c.gate)) (list_any before (pins c.gate)) holds in
        let (n, pin, starts) = passing_one before (pins c.gate) both.1 in
        behind cells these (leads cells these steps) n z (known n) starts (slice_get_within cells z c at)
        (z, c, omega arith, at, no_register c.gate (is_not (is_register c.gate) both.0), pin)
