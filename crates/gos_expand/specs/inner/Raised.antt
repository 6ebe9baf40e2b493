-- Nets of the program that are raised.
--
-- Read first: Into.
use Rattle.std.specs.Prelude.{ℕ, ◌+◌}
use Rattle.gos_netlist.specs.declared.nets.NetId.{NetId}

-- the net so many places further on
abbrev pub raised_net : ℕ → NetId → NetId
raised_net n net = record { 0 = net.0 + n }
