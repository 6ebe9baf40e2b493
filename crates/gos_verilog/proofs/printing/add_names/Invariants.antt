use Rattle.std.proofs.Common.{◌≡◌, ◌++◌, take, codes}
use Rattle.std.specs.List.{flat_map}
use Rattle.gos_verilog.proofs.printing.add_names.Given as goal

-- the names so far
abbrev pub invariant-loop-net : goal.invariant-loop-net
invariant-loop-net l = l.text.items ≡ l.initial.text.items ++ flat_map (λ net. codes ", " ++ net.name) (take l.net-index l.nets)
