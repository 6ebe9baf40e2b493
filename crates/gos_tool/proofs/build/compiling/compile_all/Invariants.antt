use Rattle.std.proofs.Common.{◌≡◌, length, drop}
use Rattle.std.specs.Prelude.{IfSome}
use Rattle.gos_outside.specs.OtherFiles.{OthersSame}
use Rattle.gos_link.specs.Linked.{AllKeepLimits, plans_of}
use Rattle.gos_tool.specs.build.Objects.{objects_of}
use Rattle.gos_tool.specs.build.inner.Compiling.{AreFit, AreSoFar}
use Rattle.gos_command.proofs.LoopLemmas.{IsLeft}
use Rattle.gos_tool.specs.Calls.{module_calls}
use Rattle.gos_tool.proofs.build.compiling.compile_all.Given as goal

-- the objects so far
abbrev pub invariant-loop-instance : goal.invariant-loop-instance
invariant-loop-instance g l =
    IfSome (g.S.Store.contents l.initial.store) (λ files. AreSoFar files (g.S.Store.contents l.store) l.instances l.plans.items)
    × (length l.plans.items ≡ l.instance-index)
    × OthersSame (objects_of l.instances) (g.S.Store.contents l.initial.store) (g.S.Store.contents l.store)
    × (g.S.Store.faults l.store ≡ g.S.Store.faults l.initial.store)
    × AllKeepLimits (plans_of l.plans.items)
    × AreFit l.plans.items
    × IsLeft (module_calls l.instances) (module_calls (drop l.instance-index l.instances)) (g.S.Store.calls l.initial.store) (g.S.Store.calls l.store)
