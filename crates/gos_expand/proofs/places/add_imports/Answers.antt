use Rattle.std.proofs.Common.{◌∙◌, ℕ, map, ap, sym, length}
use Rattle.gos_types.specs.Types.{type_of}
use Rattle.gos_types.specs.Handshakes.{handshakes_of}
use Rattle.gos_plan.specs.declared.plan.PlanImport.{PlanImport}
use Rattle.gos_plan.specs.Seen.{end_of, import_of}
use Rattle.gos_expand.proofs.BlockLemmas.{item_mapped}
use Rattle.gos_expand.proofs.PlaceLemmas.{import_added}
use Rattle.gos_expand.proofs.places.add_imports.Goals as goal

pub loop-index-preserved : goal.loop-index-preserved
loop-index-preserved c =
    let i : ℕ = c.loop-index.index in
    let there = item_mapped import_of i c.imports-imports.result.now c.args.plan.now.imports c.index-imports-index.result c.imports-imports.ensures c.loop-index-test.true c.index-imports-index.is in
    import_added i c.count.result (map import_of c.args.plan.now.imports) (import_of c.index-imports-index.result) (map end_of c.loop-index.ends.items) (map end_of c.add_ends.new.ends.items) (map end_of c.args.ends.now.items) there
    (c.count.ensures ∙ ap (λ (x : PlanImport). length (handshakes_of (type_of x.ty))) (sym c.index-imports-index.is)) c.loop-index.invariant c.in_ok-add_ends.ensures
