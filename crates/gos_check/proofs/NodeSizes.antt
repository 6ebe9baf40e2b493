-- How large a node is: what grows less as numbers are exchanged.
use Rattle.std.proofs.Common.{ℕ, ◌+◌}
use Rattle.gos_check.specs.Nodes.{Numbered, Closed, Use, Under, One, Two, If}

-- how many nodes there are
abbrev pub nodes : Numbered → ℕ
nodes (Closed t ss c) = 1
nodes (Use t ss n) = 1
nodes (Under t ss b n m) = nodes m + 1
nodes (One t ss g m) = nodes m + 1
nodes (Two t ss g m n) = nodes m + nodes n + 1
nodes (If t ss m n p) = nodes m + nodes n + nodes p + 1
