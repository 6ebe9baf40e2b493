use Rattle.std.proofs.Common.{rules, ◌≡◌, ◌++◌, List, map, subst, sym}
use Rattle.gos_syntax.specs.Modules.{SeenImport}
use Rattle.gos_witness.specs.declared.binding.Bound.{Bound}
use Rattle.gos_witness.specs.Ports.{imported}
use Rattle.gos_witness.specs.inner.Built.{list_at, open_in}
use Rattle.gos_witness.proofs.OpenLemmas.{MayBeTaken, first_taken, next_opens, rest_taken}
use Rattle.gos_witness.proofs.opening.push_all_open.Goals as goal

pub push_open-requires-clause-types : goal.push_open-requires-clause-types
push_open-requires-clause-types c =
    let lists = c.args.lists.now in
    let number = c.loop-number.number in
    let source = c.index-modules-number.result in
    let imports : c.as_slice.result.now ≡ source.imports = search rules in
    let taken = first_taken lists c.args.modules.now number source c.loop-number-test.true c.index-modules-number.is c.loop-number.invariant.1 in
    subst (λ (is : List SeenImport). MayBeTaken (open_in is c.own.result.now is)) (sym imports)
    (subst (λ (bs : List Bound). MayBeTaken (open_in source.imports bs source.imports)) (sym c.own.ensures) taken)

pub loop-number-preserved : goal.loop-number-preserved
loop-number-preserved c =
    let lists = c.args.lists.now in
    let number = c.loop-number.number in
    let source = c.index-modules-number.result in
    let imports : c.as_slice.result.now ≡ source.imports = search rules in
    let old = map imported c.loop-number.ports.items in
    let new = map imported c.push_open.new.ports.items in
    let more : new ≡ old ++ open_in source.imports (list_at lists number) source.imports =
    subst (λ (bs : List Bound). new ≡ old ++ open_in source.imports bs source.imports) c.own.ensures
    (subst (λ (is : List SeenImport). new ≡ old ++ open_in is c.own.result.now is) imports c.in_ok-push_open.ensures.faces) in (
      next_opens lists c.args.modules.now number source old new _ c.loop-number-test.true c.index-modules-number.is more c.loop-number.invariant.0,
      rest_taken lists c.args.modules.now number source c.loop-number-test.true c.index-modules-number.is c.loop-number.invariant.1,
      c.in_ok-push_open.ensures.named,
      c.in_ok-push_open.ensures.sides,
    )
