use Rattle.std.proofs.Common.{◌≡◌, map, take}
use Rattle.gos_tool.specs.explained.LinkedModules.{bound_of}
use Rattle.gos_tool.proofs.explained.linking.binds_of.Given as goal

-- those of the services so far
abbrev pub invariant-loop-service : goal.invariant-loop-service
invariant-loop-service l = l.binds.items ≡ map bound_of (take l.service-index l.services)
