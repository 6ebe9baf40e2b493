use Rattle.std.proofs.Common.{◌≡◌, take, drop}
use Rattle.gos_outside.specs.OtherFiles.{OthersSame}
use Rattle.gos_tool.specs.demo.Demo.{with_files, names_of}
use Rattle.gos_tool.specs.Calls.{write_calls}
use Rattle.gos_command.proofs.LoopLemmas.{IsLeft}
use Rattle.gos_tool.proofs.demo.files.write_files.Given as goal

-- the files so far
abbrev pub invariant-loop-file : goal.invariant-loop-file
invariant-loop-file g l =
    (g.S.Store.contents l.store ≡ with_files (take l.file-index l.files) (g.S.Store.contents l.initial.store))
    × OthersSame (names_of l.files) (g.S.Store.contents l.initial.store) (g.S.Store.contents l.store)
    × (g.S.Store.faults l.store ≡ g.S.Store.faults l.initial.store)
    × IsLeft (write_calls (names_of l.files)) (write_calls (names_of (drop l.file-index l.files))) (g.S.Store.calls l.initial.store) (g.S.Store.calls l.store)
