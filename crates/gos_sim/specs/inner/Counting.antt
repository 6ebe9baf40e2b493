-- Levels as they are counted, one after another, each by the chain of its nets.
--
-- Read first: Chains; Visits.
use Rattle.std.specs.Prelude.{◌≡◌, ℕ, ◌<◌, ◌||◌, Bool, false, not, List, [], ◌∷◌, All, length, nat_eq}
use Rattle.gos_netlist.specs.Nets.{Cell}
use Rattle.gos_netlist.specs.Settling.{Numbers, at}
use Rattle.gos_netcheck.specs.Levels.{AreLevels}
use Rattle.gos_sim.specs.declared.chains.Chains.{Chains}
use Rattle.gos_sim.specs.Visits.{IsVisited, VisitsLevels}
use Rattle.gos_sim.specs.inner.Chains.{AreChained}

-- whether the value of a net differs
abbrev pub has_changed : Numbers → Numbers → ℕ → Bool
has_changed before values a = not (nat_eq (at values a) (at before a))

-- whether that of one of these nets does
abbrev pub one_has_changed : Numbers → Numbers → List ℕ → Bool
one_has_changed before values [] = false
one_has_changed before values (a ∷ []) = has_changed before values a
one_has_changed before values (a ∷ b ∷ ns) = has_changed before values a || one_has_changed before values (b ∷ ns)

-- the nets of these levels are chained, each level by a key of its own
pub record ChainLevels (chains : Chains) (levels : Numbers) : Type 0 where
  pub each : length chains.next.items ≡ length levels
  pub chained : AreChained (λ l. l) levels (length levels) chains.heads.items chains.next.items
  pub within : All (λ l. l < length chains.heads.items) levels

-- Whatever levels are chained so: one of them is visited, or isn't, or so many of them are.
abbrev pub HasVisit : Chains → List Cell → Numbers → Numbers → ℕ → Type 0
HasVisit chains cells before values level =
    (levels : Numbers) → length levels ≡ length cells → ChainLevels chains levels → 0 < level → IsVisited cells levels before values level

abbrev pub LacksVisit : Chains → List Cell → Numbers → Numbers → ℕ → Type 0
LacksVisit chains cells before values level =
    (levels : Numbers) → length levels ≡ length cells → ChainLevels chains levels → IsVisited cells levels before values level → ⊥

abbrev pub CountsVisited : Chains → List Cell → Numbers → Numbers → ℕ → Type 0
CountsVisited chains cells before values count =
    (levels : Numbers) → AreLevels cells levels → ChainLevels chains levels → VisitsLevels cells before values count
