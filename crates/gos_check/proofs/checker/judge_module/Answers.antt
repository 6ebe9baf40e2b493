use Rattle.std.specs.Prelude.{◌≡◌, ◌+◌, ◌*◌, ◌≤◌, List, [], map, length}
use Rattle.std.proofs.Common.{arith, rules}
use Rattle.gos_syntax.specs.Modules.{SeenImport}
use Rattle.gos_model.specs.Sources.{import_of}
use Rattle.gos_syntax.specs.Sizes.{size}
use Rattle.gos_check.specs.inner.Walked.{tree, weight_of}
use Rattle.gos_check.proofs.WeightLemmas.{nodes_weigh, imports_weigh}
use Rattle.gos_check.proofs.checker.judge_module.Goals as goal

pub returns-clause-size : goal.returns-clause-size
returns-clause-size c =
    let imports : List SeenImport = c.as_slice-imports.result.now in
    let same : c.args.program.now.imports ≡ imports = search rules in
    let weighs : c.in_ok-body.body.weight ≡ weight_of (map import_of imports) [] (tree c.args.program.now.body) =
    search (rules, c.in_ok-body.ensures.known.2) in
    let held : length imports + 4 * size (tree c.args.program.now.body) ≤ c.in_ok-weight.weight =
    omega (
      arith,
      nodes_weigh (map import_of imports) [] (tree c.args.program.now.body),
      imports_weigh imports,
      weighs,
      c.in_ok-handshakes.ensures.sum,
      c.in_ok-weight.ensures.same,
    ) in
    rw same held
