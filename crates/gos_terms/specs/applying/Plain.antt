-- A wired node is plain: each end is connected to one other at most, since numbers are used once.
--
-- Read first: Uses; Linearity of gos_check. It is the half of `CanBeWired` that linearity tells.
use Rattle.std.specs.Prelude.{ℕ, ◌+◌, ◌≤◌, List, Contains}
use Rattle.gos_check.specs.Nodes.{Numbered}
use Rattle.gos_check.specs.Linearity.{times, used, made}
use Rattle.gos_plan.specs.Plans.{Plan, IsRight}
use Rattle.gos_compile.specs.Wiring.{Types}
use Rattle.gos_terms.specs.wired.Wired.{Supplies, Placing, wired_web}
use Rattle.gos_joining.specs.weaving.Woven.{IsThin}
use Rattle.gos_terms.specs.applying.Uses.{IsPlaced}

-- A number stands in a node twice at most, as it is made, used or supplied, and is supplied once; and the supplies are right.
abbrev pub WiredIsThin : Type 0
WiredIsThin =
    (types : Types) (i j : ℕ) (m : Numbered) (ns : List ℕ) (env : Supplies) (pl : Placing) (c : Plan)
    → IsPlaced types m ns env pl c → ((k : ℕ) → times k (used m) + times k (made m) + times k ns ≤ 2) → ((k : ℕ) → times k ns ≤ 1)
    → ((k : ℕ) → Contains ns k → IsRight (env k).plan) → IsThin (wired_web types i j m ns env pl) c
