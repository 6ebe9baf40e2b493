use Rattle.std.proofs.Common.{◌≡◌, map, take}
use Rattle.gos_types.specs.Types.{type_of}
use Rattle.gos_compile.proofs.types.import_list.Given as goal

-- the types of the imports so far
abbrev pub invariant-loop-import : goal.invariant-loop-import
invariant-loop-import l = map type_of l.types.items ≡ map (λ i. type_of i.ty) (take l.import-index l.imports)
