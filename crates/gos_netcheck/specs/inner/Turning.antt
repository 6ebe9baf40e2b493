-- How a cycle is taken from the path of the search: its front, turned so that the least net stands first.
--
-- Read first: Accepted. Between the search and its lemmas.
use Rattle.std.specs.Prelude.{◌≡◌, ℕ, suc, List, ◌++◌, take, drop, Some, slice_get}
use Rattle.gos_netcheck.specs.Accepted.{BeginsWithLeast}

-- the first nets of the path, up to this net
abbrev pub IsFrontTo : List ℕ → ℕ → List ℕ → Type 0
IsFrontTo path net front = (i : ℕ) × (slice_get path i ≡ Some net) × (front ≡ take (suc i) path)

-- the same nets in a ring, from the least one on
abbrev pub IsTurned : List ℕ → List ℕ → Type 0
IsTurned front nets = (k : ℕ) × (nets ≡ drop k front ++ take k front) × BeginsWithLeast nets
