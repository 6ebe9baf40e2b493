use Rattle.std.proofs.Common.{ap, sym, ◌∙◌, subst, ◌≡◌, ◌<◌, ◌+◌, ℕ, length, slice_index_or, List, [], ◌∷◌, ◌++◌, map, take}
use Rattle.std.proofs.lemmas.List.{map-append, take_more}
use Rattle.gos_syntax.specs.Modules.{SeenImport}
use Rattle.gos_model.specs.Sources as sources
use Rattle.gos_plan.specs.declared.plan.PlanImport.{PlanImport}
use Rattle.gos_plan.specs.Seen as plans
use Rattle.gos_compile.specs.inner.Named.{HaveNames}
use Rattle.gos_compile.proofs.ReadLemmas.{names_more}
use Rattle.gos_compile.proofs.plans.plan_imports.Goals as goal

pub loop-import-preserved : goal.loop-import-preserved
loop-import-preserved c =
    let i : ℕ = c.loop-import.import-index in
    let within : i < length c.args.imports.now = c.loop-import-test.true in
    let x : SeenImport = c.import-item.result in
    let (same, names) = c.loop-import.invariant in
    let before : List SeenImport = take i c.args.imports.now in
    let there : slice_index_or c.args.imports.now i x ≡ x = sym {A = SeenImport} c.import-item.is in
    let longer : take (i + 1) c.args.imports.now ≡ before ++ x ∷ [] =
    take_more c.args.imports.now i x within ∙ ap (λ (y : SeenImport). before ++ y ∷ []) there
    in (
      ap (λ (is : List PlanImport). map plans.import_of is) c.in_ok-push.ensures.items
          ∙ (map-append plans.import_of c.loop-import.found.items (c.in_ok-plan_import.field-0 ∷ [])
          ∙ ((λ j. same j ++ c.in_ok-plan_import.ensures.import j ∷ [])
          ∙ (sym (map-append sources.import_of before (x ∷ [])) ∙ sym (ap (λ (is : List SeenImport). map sources.import_of is) longer)))),
      subst (λ (is : List PlanImport). HaveNames is) (sym {A = List PlanImport} c.in_ok-push.ensures.items)
          (names_more c.loop-import.found.items c.in_ok-plan_import.field-0 names c.in_ok-plan_import.ensures.name),
    )
