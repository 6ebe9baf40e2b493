use Rattle.std.proofs.Common.{◌≡◌, drop, length}
use Rattle.std.specs.List.{AllByRecursion}
use Rattle.gos_check.specs.Accepted.{IsAccepted}
use Rattle.gos_link.specs.Linked.{AllKeepLimits, plans_of}
use Rattle.gos_command.proofs.LoopLemmas.{IsLeft}
use Rattle.gos_tool.specs.Calls.{source_calls}
use Rattle.gos_tool.specs.explained.LinkedModules.{StandFor}
use Rattle.gos_tool.specs.explained.inner.Reading.{AreSaidBefore}
use Rattle.gos_tool.proofs.explained.sources.sources_in.Given as goal

-- the sources so far
abbrev pub invariant-loop-instance : goal.invariant-loop-instance
invariant-loop-instance g l =
    AreSaidBefore (g.S.Store.contents l.initial.store) l.instances (drop l.instance-index l.instances) l.sources.modules.items
    × (length l.sources.shells.items ≡ l.instance-index)
    × (g.S.Store.contents l.store ≡ g.S.Store.contents l.initial.store)
    × (g.S.Store.faults l.store ≡ g.S.Store.faults l.initial.store)
    × AllKeepLimits (plans_of l.sources.shells.items)
    × IsLeft (source_calls l.instances) (source_calls (drop l.instance-index l.instances)) (g.S.Store.calls l.initial.store) (g.S.Store.calls l.store)
    × StandFor l.sources.modules.items l.sources.shells.items
    × AllByRecursion IsAccepted l.sources.modules.items
