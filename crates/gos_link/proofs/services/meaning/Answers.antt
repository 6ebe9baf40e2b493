use Rattle.std.proofs.Common.{◌≡◌, ◌≢◌, ◌<◌, ◌∙◌, List, Some, None, ap, arith, length, refl, subst, sym, true}
use Rattle.std.specs.Prelude.{slice_get}
use Rattle.std.proofs.lemmas.Option.{slice_get_read}
use Rattle.gos_types.specs.Types.{type_of}
use Rattle.gos_types.specs.declared.types.Ty.{Ty}
use Rattle.gos_types.proofs.ListLemmas.{element_at}
use Rattle.gos_plan.specs.declared.plan.PlanImport.{PlanImport}
use Rattle.gos_plan.specs.Seen.{SeenPlan}
use Rattle.gos_link.specs.declared.services.Service.{Service}
use Rattle.gos_link.specs.declared.fault.LinkFault.{LinkFault}
use Rattle.gos_link.specs.Services.{instance_named, import_named, NamesBoth, NamesAll, IsWrongBind}
use Rattle.gos_link.proofs.BindLemmas.{instance_low, import_low}
use Rattle.gos_link.proofs.services.meaning.Goals as goal

pub returns-in_default-import_named-clause-fault : goal.returns-in_default-import_named-clause-fault
returns-in_default-import_named-clause-fault c =
    let finds_user : instance_named c.args.instances.now c.args.bind.now.user ≡ Some c.in-Some.user = sym c.in-Some.ensures in
    let finds_giver : instance_named c.args.instances.now c.args.bind.now.giver ≡ Some c.in-Some-number.giver = sym c.in-Some-number.ensures in
    let low_user : c.in-Some.user < length c.args.plans.now = (let low = instance_low c.args.instances.now c.args.bind.now.user c.in-Some.user finds_user in omega (arith, low, c.requires)) in
    let low_giver : c.in-Some-number.giver < length c.args.plans.now = (let low = instance_low c.args.instances.now c.args.bind.now.giver c.in-Some-number.giver finds_giver in omega (arith, low, c.requires)) in
    let of_user : slice_get c.args.plans.now c.in-Some.user ≡ Some c.index-plans-user.result = slice_get_read c.args.plans.now (length c.args.plans.now) c.in-Some.user c.index-plans-user.result refl low_user c.index-plans-user.is in
    let (q, of_giver) = element_at c.args.plans.now c.in-Some-number.giver low_giver in
    let both : NamesBoth c.args.instances.now c.args.plans.now c.args.bind.now c.in-Some.user c.in-Some-number.giver c.index-plans-user.result q =
    record { finds_user = finds_user; finds_giver = finds_giver; of_user = of_user; of_giver = of_giver } in
    let lacks : import_named c.index-plans-user.result.imports c.args.bind.now.import ≡ None =
    (λ t. import_named (sym c.imports-imports.ensures t) (sym c.bytes.ensures.value t)) ∙ (sym c.import_named.ensures ∙ c.in_default-import_named.is) in
    λ real before. subst (λ (f : LinkFault). IsWrongBind c.args.instances.now c.args.plans.now before c.args.bind.now f) (sym (c.no_import.ensures.names real))
    (refl, refl, (c.in-Some.user, c.in-Some-number.giver, c.index-plans-user.result, q, both, lacks))

pub returns-then-not-same-clause-fault : goal.returns-then-not-same-clause-fault
returns-then-not-same-clause-fault c =
    let finds_user : instance_named c.args.instances.now c.args.bind.now.user ≡ Some c.in-Some.user = sym c.in-Some.ensures in
    let finds_giver : instance_named c.args.instances.now c.args.bind.now.giver ≡ Some c.in-Some-number.giver = sym c.in-Some-number.ensures in
    let low_user : c.in-Some.user < length c.args.plans.now = (let low = instance_low c.args.instances.now c.args.bind.now.user c.in-Some.user finds_user in omega (arith, low, c.requires)) in
    let low_giver : c.in-Some-number.giver < length c.args.plans.now = (let low = instance_low c.args.instances.now c.args.bind.now.giver c.in-Some-number.giver finds_giver in omega (arith, low, c.requires)) in
    let p : SeenPlan = c.index-plans-user.result in
    let q : SeenPlan = c.index-plans-giver.result in
    let x : PlanImport = c.index-imports-import.result in
    let of_user : slice_get c.args.plans.now c.in-Some.user ≡ Some p = slice_get_read c.args.plans.now (length c.args.plans.now) c.in-Some.user p refl low_user c.index-plans-user.is in
    let of_giver : slice_get c.args.plans.now c.in-Some-number.giver ≡ Some q = slice_get_read c.args.plans.now (length c.args.plans.now) c.in-Some-number.giver q refl low_giver c.index-plans-giver.is in
    let named : import_named p.imports c.args.bind.now.import ≡ Some c.in-Some-import_named.import =
    (λ t. import_named (sym c.imports-imports.ensures t) (sym c.bytes.ensures.value t)) ∙ sym c.in-Some-import_named.ensures in
    let low_import : c.in-Some-import_named.import < length c.imports-imports.result.now =
    (let low = import_low p.imports c.args.bind.now.import c.in-Some-import_named.import named in subst (λ (is : List PlanImport). c.in-Some-import_named.import < length is) (sym c.imports-imports.ensures) low) in
    let import : slice_get p.imports c.in-Some-import_named.import ≡ Some x =
    ap (λ (is : List PlanImport). slice_get is c.in-Some-import_named.import) (sym c.imports-imports.ensures)
    ∙ slice_get_read c.imports-imports.result.now (length c.imports-imports.result.now) c.in-Some-import_named.import x refl low_import c.index-imports-import.is in
    let s : Service = record { line = c.args.bind.now.line; user = c.in-Some.user; import = c.in-Some-import_named.import; giver = c.in-Some-number.giver } in
    let all : NamesAll c.args.instances.now c.args.plans.now c.args.bind.now s p q x =
    record { both = record { finds_user = finds_user; finds_giver = finds_giver; of_user = of_user; of_giver = of_giver }; named = named; import = import } in
    let there = ap (λ (i : PlanImport). type_of i.ty) c.index-imports-import.is in
    let differ : type_of x.ty ≢ type_of q.outcome =
    (λ e. let t : c.same.result ≡ true = c.same.ensures.1 (sym there ∙ (e ∙ ap (λ (ty : Ty). type_of ty) (sym c.result-got.ensures))) in
    let wrong : true ≡ _ = sym t ∙ c.if-not-same.true in absurd (cc wrong)) in
    let (w, g, is, want, got) = c.in_ok-type_differs.ensures.types in
    λ real before. subst (λ (f : LinkFault). IsWrongBind c.args.instances.now c.args.plans.now before c.args.bind.now f) (sym is)
    (s, p, q, x, refl, all, want ∙ sym there, got ∙ ap (λ (ty : Ty). type_of ty) c.result-got.ensures, differ)

pub returns-clause-means : goal.returns-clause-means
returns-clause-means c =
    let finds_user : instance_named c.args.instances.now c.args.bind.now.user ≡ Some c.in-Some.user = sym c.in-Some.ensures in
    let finds_giver : instance_named c.args.instances.now c.args.bind.now.giver ≡ Some c.in-Some-number.giver = sym c.in-Some-number.ensures in
    let low_user : c.in-Some.user < length c.args.plans.now = (let low = instance_low c.args.instances.now c.args.bind.now.user c.in-Some.user finds_user in omega (arith, low, c.requires)) in
    let low_giver : c.in-Some-number.giver < length c.args.plans.now = (let low = instance_low c.args.instances.now c.args.bind.now.giver c.in-Some-number.giver finds_giver in omega (arith, low, c.requires)) in
    let p : SeenPlan = c.index-plans-user.result in
    let q : SeenPlan = c.index-plans-giver.result in
    let x : PlanImport = c.index-imports-import.result in
    let of_user : slice_get c.args.plans.now c.in-Some.user ≡ Some p = slice_get_read c.args.plans.now (length c.args.plans.now) c.in-Some.user p refl low_user c.index-plans-user.is in
    let of_giver : slice_get c.args.plans.now c.in-Some-number.giver ≡ Some q = slice_get_read c.args.plans.now (length c.args.plans.now) c.in-Some-number.giver q refl low_giver c.index-plans-giver.is in
    let named : import_named p.imports c.args.bind.now.import ≡ Some c.in-Some-import_named.import =
    (λ t. import_named (sym c.imports-imports.ensures t) (sym c.bytes.ensures.value t)) ∙ sym c.in-Some-import_named.ensures in
    let low_import : c.in-Some-import_named.import < length c.imports-imports.result.now =
    (let low = import_low p.imports c.args.bind.now.import c.in-Some-import_named.import named in subst (λ (is : List PlanImport). c.in-Some-import_named.import < length is) (sym c.imports-imports.ensures) low) in
    let import : slice_get p.imports c.in-Some-import_named.import ≡ Some x =
    ap (λ (is : List PlanImport). slice_get is c.in-Some-import_named.import) (sym c.imports-imports.ensures)
    ∙ slice_get_read c.imports-imports.result.now (length c.imports-imports.result.now) c.in-Some-import_named.import x refl low_import c.index-imports-import.is in
    let same : type_of x.ty ≡ type_of q.outcome = ap (λ (i : PlanImport). type_of i.ty) c.index-imports-import.is ∙ c.same.ensures.0 c.if-not-same.false ∙ ap (λ (ty : Ty). type_of ty) c.result-got.ensures in (
      p,
      q,
      x,
      refl,
      record { both = record { finds_user = finds_user; finds_giver = finds_giver; of_user = of_user; of_giver = of_giver }; named = named; import = import },
      same,
    )
