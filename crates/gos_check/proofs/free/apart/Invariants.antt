use Rattle.std.proofs.Common.{◌≡◌, drop}
use Rattle.gos_check.specs.Free.{apart}
use Rattle.gos_check.proofs.free.apart.Given as goal

-- what is left answers as all do
abbrev pub invariant-loop-occurrence : goal.invariant-loop-occurrence
invariant-loop-occurrence l = apart (drop l.occurrence-index l.left) l.right ≡ apart l.left l.right
