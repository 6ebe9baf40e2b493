-- Plans laid out behind the cells of a pool.
--
-- Read first: Choices; Pools of gos_netlist. Behind n cells each net of a netlist has a number that is higher by n.
use Rattle.std.specs.Prelude.{◌≡◌, ◌↔◌, ℕ, ◌+◌, List, [], ◌++◌, map, length}
use Rattle.gos_netlist.specs.Nets.{Cell, NetPort, Netlist}
use Rattle.gos_pool.specs.Pools.{Pool}
use Rattle.gos_plan.specs.Plans.{Plan}
use Rattle.gos_macro.specs.Paths.{with_renamed}
use Rattle.gos_expand.specs.declared.whole.Policy.{Policy}
use Rattle.gos_expand.specs.Choices.{IsLaidBy}

-- a cell that names nets so many places further on
abbrev pub raised_cell : ℕ → Cell → Cell
raised_cell n = with_renamed (λ a. a + n)

-- such nets
abbrev pub raised_nets : ℕ → List ℕ → List ℕ
raised_nets n = map (λ a. a + n)

-- a port that has such nets
abbrev pub raised_port : ℕ → NetPort → NetPort
raised_port n p = record p { nets = raised_nets n p.nets }

-- Behind the cells of the first pool the second one has those of a netlist that a policy lays the plan out as, raised by
-- their number; and the ports given are its.
pub record LaysInto (policy : Policy) (p : Plan) (root : List ℕ) (old new : Pool) (given : List NetPort) : Type 0 where
  pub net : Netlist
  pub laid : IsLaidBy policy p root net
  pub cells : new.cells ≡ old.cells ++ map (raised_cell (length old.cells)) net.cells
  pub ports : given ≡ map (raised_port (length old.cells)) net.ports

-- laid into a pool without cells, a plan has there a netlist that the policy lays it out as
abbrev pub LaysIntoNone : Type 0
LaysIntoNone =
    (policy : Policy) (p : Plan) (root : List ℕ) (old new : Pool) (ports : List NetPort) → old.cells ≡ []
    → (LaysInto policy p root old new ports ↔ IsLaidBy policy p root (record { cells = new.cells; ports = ports }))
