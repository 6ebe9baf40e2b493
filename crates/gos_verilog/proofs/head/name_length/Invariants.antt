use Rattle.std.proofs.Common.{◌≡◌, ◌+◌, drop}
use Rattle.std.specs.List.{prefix_len}
use Rattle.gos_lex.specs.Bytes.{continues_name}
use Rattle.gos_verilog.proofs.head.name_length.Given as goal

-- with those that are left at the front they are all
abbrev pub invariant-loop-n : goal.invariant-loop-n
invariant-loop-n l = l.n + prefix_len continues_name (drop l.n l.text) ≡ prefix_len continues_name l.text
