use Rattle.std.proofs.Common.{◌≤◌, ◌∙◌, ℕ, List, ap, subst, arith, length}
use Rattle.std.proofs.lemmas.List.{length-map}
use Rattle.gos_plan.specs.declared.plan.PlanImport.{PlanImport}
use Rattle.gos_model.specs.Typing.{Imported}
use Rattle.gos_plan.specs.Plans.{Plan}
use Rattle.gos_plan.specs.Seen.{plan_of, import_of}
use Rattle.gos_expand.specs.Blocks.{blocks}
use Rattle.gos_expand.specs.Starts.{Laying, Outer, taken_ports}
use Rattle.gos_expand.specs.inner.Tokens.{Places}
use Rattle.gos_expand.specs.Laid.{port_cells}
use Rattle.gos_expand.proofs.BlockLemmas.{item_mapped}
use Rattle.gos_expand.proofs.CountLemmas.{outer_import}
use Rattle.gos_expand.proofs.PortLemmas.{taken_port, import_port, all_taken}
use Rattle.gos_expand.proofs.PlacingLemmas.{block_placed, block_fits}
use Rattle.gos_expand.specs.inner.Numbering.{laying_in}
use Rattle.gos_expand.proofs.placing.place_imports.Goals as goal

pub place_port-requires-clause-spare : goal.place_port-requires-clause-spare
place_port-requires-clause-spare c =
    let lay : Laying = laying_in c.args.numbering.now in
    let p : Plan = plan_of c.args.plan.now in
    let i : ℕ = c.loop-index.index in
    let x : Imported = import_of c.index-imports-index.result in
    let in_plan = item_mapped import_of i c.imports-imports.result.now c.args.plan.now.imports c.index-imports-index.result c.imports-imports.ensures c.loop-index-test.true c.index-imports-index.is in
    let there = import_port i p.imports x in_plan in
    let spare = c.requires.spare in
    let fits =
    block_fits (port_cells lay p) i 0 0 (taken_ports 0 p.imports) (taken_port i x) c.args.pool.now c.loop-index.pool there c.loop-index.invariant.0 (omega (arith, spare)) in
    let same = ap (λ (o : Outer). length (port_cells lay p 0 o)) (outer_import p i x in_plan) in
    omega (arith, fits, same)

pub loop-index-preserved : goal.loop-index-preserved
loop-index-preserved c =
    let lay : Laying = laying_in c.args.numbering.now in
    let p : Plan = plan_of c.args.plan.now in
    let i : ℕ = c.loop-index.index in
    let x : Imported = import_of c.index-imports-index.result in
    let in_plan = item_mapped import_of i c.imports-imports.result.now c.args.plan.now.imports c.index-imports-index.result c.imports-imports.ensures c.loop-index-test.true c.index-imports-index.is in
    let there = import_port i p.imports x in_plan in (
      block_placed (port_cells lay p) i 0 0 (taken_ports 0 p.imports) (taken_port i x) c.args.pool.now c.loop-index.pool c.place_port.new.pool there c.loop-index.invariant.0
          (subst (λ (o : Outer). Places c.loop-index.pool c.place_port.new.pool (port_cells lay p 0 o) 0) (outer_import p i x in_plan) c.place_port.ensures.placed),
      c.place_port.ensures.region ∙ c.loop-index.invariant.1,
    )

pub returns-clause-placed : goal.returns-clause-placed
returns-clause-placed c =
    let lay : Laying = laying_in c.args.numbering.now in
    let p : Plan = plan_of c.args.plan.now in
    let over : length c.args.plan.now.imports ≤ c.loop-index.index = subst (λ (is : List PlanImport). length is ≤ c.loop-index.index) c.imports-imports.ensures c.loop-index-test.false in
    subst (λ (os : List Outer). Places c.args.pool.now c.loop-index.pool (blocks (port_cells lay p) 0 os) 0) (all_taken 0 c.loop-index.index p.imports (omega (arith, over, length-map c.args.plan.now.imports import_of)))
    c.loop-index.invariant.0
