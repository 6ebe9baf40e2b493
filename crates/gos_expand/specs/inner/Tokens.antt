-- How clauses see the nets of a token, and what a call places in a pool.
--
-- Read first: Blocks; Pools of gos_netlist.
use Rattle.std.specs.Prelude.{◌≡◌, ℕ, ◌+◌, ◌++◌, List, length}
use Rattle.gos_netlist.specs.Nets.{Cell}
use Rattle.gos_pool.specs.Pools.{Pool}
use Rattle.gos_expand.specs.declared.tokens.Nets as held
use Rattle.gos_expand.specs.Blocks.{Nets}

-- the nets that the program holds
abbrev pub held_nets : held.Nets → Nets
held_nets n = record { pulse = n.pulse.0; number = n.number.0 }

-- Behind the cells of a pool stand these as well, and so many regions more are closed.
pub record Places (old new : Pool) (placed : List Cell) (regions : ℕ) : Type 0 where
  pub cells : new.cells ≡ old.cells ++ placed
  pub spare : old.spare ≡ new.spare + length placed + regions
  pub begun : new.begun ≡ old.begun
