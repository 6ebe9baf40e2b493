-- What the test of the ports has seen of the ports before one.
--
-- Read first: PortRules. Between the test and its lemmas.
use Rattle.std.specs.Prelude.{◌≡◌, ◌↔◌, ℕ, Bool, true, List, Some, slice_get, Contains}
use Rattle.std.specs.List.{list_any}
use Rattle.std.specs.Str.{bytes_eq}
use Rattle.std.specs.HashSet.{HashSet}
use Rattle.std.proofs.Common.{Bor}
use Rattle.gos_netlist.specs.Nets.{NetPort}

-- whether the set has a name of these bytes
abbrev pub has_name : {S : Type 0} → HashSet (Bor (List ℕ)) S → List ℕ → Bool
has_name {S} names b = list_any (λ (k : Bor (List ℕ)). bytes_eq b k.now) names.keys

-- whether one of the ports has this name
abbrev pub is_named : List NetPort → List ℕ → Bool
is_named ports b = list_any (λ (p : NetPort). bytes_eq b p.name) ports

-- the set has the names of these ports
abbrev pub HasNames : {S : Type 0} → HashSet (Bor (List ℕ)) S → List NetPort → Type 0
HasNames {S} names ports = (b : List ℕ) → has_name names b ≡ is_named ports b

-- the nets that are marked are these
abbrev pub AreTaken : List Bool → List ℕ → Type 0
AreTaken taken nets = (n : ℕ) → (slice_get taken n ≡ Some true) ↔ Contains nets n
