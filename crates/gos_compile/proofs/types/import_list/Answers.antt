use Rattle.std.proofs.Common.{arith, ap, map, ◌∙◌, length, ◌≤◌, List}
use Rattle.std.proofs.lemmas.List.{take_all}
use Rattle.gos_types.specs.Types.{type_of}
use Rattle.gos_syntax.specs.Modules.{SeenImport}
use Rattle.gos_compile.proofs.types.import_list.Goals as goal
use Rattle.gos_compile.proofs.TableLemmas.{types_of_imports}

pub returns : goal.returns
returns c =
    let all : length c.args.imports.now ≤ c.loop-import.import-index = omega (arith, c.loop-import-test.false, c.loop-import.auto.import-index-end) in
    types_of_imports c.loop-import.types.items c.args.imports.now
    (c.loop-import.invariant ∙ ap (λ (is : List SeenImport). map (λ i. type_of i.ty) is) (take_all c.loop-import.import-index c.args.imports.now all))
