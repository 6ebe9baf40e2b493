-- The plan of `skip` behind its own netlist.
--
-- Read first: Into, SmallNets.
use Rattle.std.specs.Prelude.{List, [], ◌∷◌, ◌++◌, None, codes}
use Rattle.gos_types.specs.Types.{Com}
use Rattle.gos_netlist.specs.Nets.{Netlist, Input, Reg, Cell, NetPort, Give}
use Rattle.gos_pool.specs.Pools.{Pool}
use Rattle.gos_plan.specs.SmallPlans.{skip_plan}
use Rattle.gos_macro.specs.Cells.{bit, buffer}
use Rattle.gos_expand.specs.declared.whole.Policy.TheVariants.{All}
use Rattle.gos_expand.specs.SmallNets.{skip_netlist}
use Rattle.gos_expand.specs.Into.{LaysInto}

-- a pool of these cells
abbrev pub pool_with : List Cell → Pool
pool_with cells = record { cells = cells; closed = []; begun = None; spare = 0 }

-- The netlist of the plan of `skip` behind five cells: run is net 5 and done is net 6.
abbrev pub skip_behind : Netlist
skip_behind =
    record {
      cells = bit Input ∷ bit (Reg 8) ∷ bit (Reg 5) ∷ bit (Reg 9) ∷ buffer 7 ∷ [];
      ports = record { name = codes "main"; side = Give; ty = Com; nets = 5 ∷ 6 ∷ [] } ∷ [];
    }

-- behind its own netlist the plan of `skip` has these cells and these ports
abbrev pub SkipHas : List Cell → List NetPort → Type 0
SkipHas cells ports = LaysInto All skip_plan (codes "main") (pool_with skip_netlist.cells) (pool_with (skip_netlist.cells ++ cells)) ports

-- they are raised
abbrev pub SkipIsRaised : Type 0
SkipIsRaised = SkipHas skip_behind.cells skip_behind.ports

-- and no cells, nor ports, that name the first ones' nets
abbrev pub SkipIsNotTwice : Type 0
SkipIsNotTwice = SkipHas skip_netlist.cells skip_behind.ports → ⊥

abbrev pub PortIsNotTwice : Type 0
PortIsNotTwice = SkipHas skip_behind.cells skip_netlist.ports → ⊥
