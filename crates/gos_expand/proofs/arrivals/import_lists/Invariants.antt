use Rattle.std.proofs.Common.{◌≡◌, take, map}
use Rattle.gos_types.specs.Types.{type_of}
use Rattle.gos_plan.specs.Kinds.{contacts_of}
use Rattle.gos_expand.specs.inner.Arrivals.{new_arrival}
use Rattle.gos_expand.proofs.arrivals.import_lists.Given as goal

-- the entries of the imports so far
abbrev pub invariant-loop-import : goal.invariant-loop-import
invariant-loop-import l = map (λ s. s.items) l.lists.items ≡ map (λ i. map new_arrival (contacts_of (type_of i.ty))) (take l.import-index l.imports)
