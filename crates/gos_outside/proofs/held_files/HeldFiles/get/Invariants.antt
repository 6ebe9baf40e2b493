use Rattle.std.proofs.Common.{◌≡◌, drop}
use Rattle.std.specs.FinMap.{get}
use Rattle.gos_outside.proofs.HeldFilesLemmas.{file_at}
use Rattle.gos_outside.proofs.held_files.HeldFiles.get.Given as goal

abbrev pub invariant-loop-held : goal.invariant-loop-held
invariant-loop-held l = get l.self l.name ≡ file_at l.name (drop l.held-index l.held-items)
