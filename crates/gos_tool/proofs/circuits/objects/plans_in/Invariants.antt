use Rattle.std.proofs.Common.{◌≡◌, drop, length}
use Rattle.gos_link.specs.Linked.{AllKeepLimits, plans_of}
use Rattle.gos_tool.specs.circuits.inner.Reading.{AreReadBefore}
use Rattle.gos_command.proofs.LoopLemmas.{IsLeft}
use Rattle.gos_tool.specs.Calls.{object_calls}
use Rattle.gos_tool.proofs.circuits.objects.plans_in.Given as goal

-- the objects so far
abbrev pub invariant-loop-instance : goal.invariant-loop-instance
invariant-loop-instance g l =
    AreReadBefore (g.S.Store.contents l.initial.store) l.instances (drop l.instance-index l.instances) l.plans.items
    × (length l.plans.items ≡ l.instance-index)
    × (g.S.Store.contents l.store ≡ g.S.Store.contents l.initial.store)
    × (g.S.Store.faults l.store ≡ g.S.Store.faults l.initial.store)
    × AllKeepLimits (plans_of l.plans.items)
    × IsLeft (object_calls l.instances) (object_calls (drop l.instance-index l.instances)) (g.S.Store.calls l.initial.store) (g.S.Store.calls l.store)
