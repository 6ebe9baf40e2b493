use Rattle.std.proofs.Common.{rules, ◌≡◌, ◌+◌, Some, List, drop, get_or, subst, sym, refl, ap, length, ◌∙◌, ◌++◌, ◌∷◌, []}
use Rattle.std.specs.Prelude.{slice_get}
use Rattle.std.proofs.lemmas.List.{drop_more}
use Rattle.std.proofs.lemmas.Option.{slice_get_read}
use Rattle.gos_witness.specs.inner.Built.{node_if}
use Rattle.gos_witness.specs.declared.adding.Supply.{Supply}
use Rattle.gos_witness.specs.declared.binding.Bound.{Bound}
use Rattle.gos_witness.specs.Substituted.{import_name}
use Rattle.gos_witness.proofs.SupplyLemmas.{AreSupplies, supply_step, named_of}
use Rattle.gos_witness.proofs.substituting.supplies_of.Goals as goal

pub loop-bind-preserved : goal.loop-bind-preserved
loop-bind-preserved c =
    let imports = c.args.imports.now in
    let nodes = c.args.nodes.now in
    let binds = c.args.binds.now in
    let i = c.loop-bind.bind-index in
    let none : Bound = record { user = 0; import = 0; giver = 0 } in
    let bind : Bound = get_or binds i none in
    let rest = drop (i + 1) binds in
    let before : AreSupplies imports nodes binds c.loop-bind.supplies.items (bind ∷ rest) =
    subst (λ (bs : List Bound). AreSupplies imports nodes binds c.loop-bind.supplies.items bs) (drop_more binds i none c.loop-bind-test.true) c.loop-bind.invariant in
    let there : slice_get imports bind.import ≡ Some c.index-imports-bind.result =
    slice_get_read imports (length imports) bind.import c.index-imports-bind.result refl before.3.0 c.index-imports-bind.is in
    let supply = c.supply-supply.result in
    let named : supply.name.now ≡ import_name imports bind.import = c.supply-supply.ensures.name ∙ named_of imports bind.import c.index-imports-bind.result there in
    let node : node_if (slice_get nodes bind.giver) ≡ Some supply.node = c.node_at.ensures ∙ ap Some (sym c.supply-supply.ensures.node) in
    let after : AreSupplies imports nodes binds (c.loop-bind.supplies.items ++ supply ∷ []) rest =
    supply_step imports nodes binds c.loop-bind.supplies.items supply bind rest named node before in
    let items : c.push.new.self.items ≡ c.loop-bind.supplies.items ++ supply ∷ [] = search rules in
    subst (λ (ss : List Supply). AreSupplies imports nodes binds ss rest) (sym items) after
