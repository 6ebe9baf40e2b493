use Rattle.std.proofs.Common.{◌≡◌, map, take}
use Rattle.gos_types.specs.Types.{type_of}
use Rattle.gos_witness.proofs.nodes.copy_types.Given as goal

-- the types so far
abbrev pub invariant-loop-ty : goal.invariant-loop-ty
invariant-loop-ty l = map type_of l.copies.items ≡ map type_of (take l.ty-index l.types)
