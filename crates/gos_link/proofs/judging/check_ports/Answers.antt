use Rattle.std.proofs.Common.{◌≡◌, ◌∙◌, ◌<◌, ◌∷◌, ℕ, List, ap, length, map, refl, subst, sym}
use Rattle.std.specs.Prelude.{slice_get}
use Rattle.std.proofs.lemmas.Option.{slice_get_read}
use Rattle.std.proofs.lemmas.Result.{IfErr-weaker, IfOk-weaker, err_from_is_err_and}
use Rattle.gos_types.specs.declared.types.Ty.{Ty}
use Rattle.gos_types.specs.Types.{type_of}
use Rattle.gos_plan.specs.Joining.{LeftImport}
use Rattle.gos_link.specs.declared.build.Instance.{Instance}
use Rattle.gos_link.specs.declared.opens.Open.{Open}
use Rattle.gos_link.specs.Linked.{outcome_of, plans_of, port_of}
use Rattle.gos_link.specs.inner.Opens.{open_seen}
use Rattle.gos_link.proofs.JudgeLemmas.{plan_low, lefts, ports, root_at, wrong_names, named, wrong_result, done, wrong_import, all_ground}
use Rattle.gos_link.proofs.judging.check_ports.Goals as goal

pub check_names-requires : goal.check_names-requires
check_names-requires c = λ k l at.
    let low = plan_low c.args.services.now c.args.plans.now k l
    (ap (λ (ls : List LeftImport). slice_get ls k) (sym (ap (λ (os : List Open). map open_seen os) c.deref-2.ensures.value ∙ c.in_ok-opens.ensures.seen)) ∙ at) in
    subst (λ (n : ℕ). l.plan < n) (c.requires.each ∙ ap (λ (is : List Instance). length is) (sym c.deref.ensures.value)) low

pub returns-in_err-check_names-clause-fault : goal.returns-in_err-check_names-clause-fault
returns-in_err-check_names-clause-fault c =
    let seen = ap (λ (os : List Open). map open_seen os) c.deref-2.ensures.value ∙ c.in_ok-opens.ensures.seen in
    let all = ap (λ (is : List Instance). (record { name = c.args.build.now.root; instance = c.args.build.now.root }) ∷ map (port_of is) (map open_seen c.deref-2.result.now)) c.deref.ensures.value
    ∙ ports c.args.build.now c.args.plans.now c.args.services.now c.args.root c.requires c.deref-2.result.now seen in
    let p = err_from_is_err_and c.from_residual-in_err-check_names.result c.from_residual-in_err-check_names.ensures.1 in
    rw (p.1, p.2) (λ real. wrong_names c.args.build.now c.args.plans.now c.args.services.now c.args.root c.requires _ _ all (c.in_err-check_names.ensures.fault real))

pub returns-in_err-check_result-clause-fault : goal.returns-in_err-check_result-clause-fault
returns-in_err-check_result-clause-fault c =
    let seen = ap (λ (os : List Open). map open_seen os) c.deref-2.ensures.value ∙ c.in_ok-opens.ensures.seen in
    let all = ap (λ (is : List Instance). (record { name = c.args.build.now.root; instance = c.args.build.now.root }) ∷ map (port_of is) (map open_seen c.deref-2.result.now)) c.deref.ensures.value
    ∙ ports c.args.build.now c.args.plans.now c.args.services.now c.args.root c.requires c.deref-2.result.now seen in
    let names = named c.args.build.now c.args.plans.now c.args.services.now c.args.root c.requires _ all c.in_ok-check_names.ensures.different in
    let root : outcome_of (slice_get (plans_of c.args.plans.now) c.args.root) ≡ type_of c.result.result.now =
    root_at c.args.build.now c.args.plans.now c.args.services.now c.args.root c.requires c.index-plans-root.result
    (λ low. slice_get_read c.args.plans.now (length c.args.plans.now) c.args.root c.index-plans-root.result refl low c.index-plans-root.is)
    ∙ ap (λ (t : Ty). type_of t) (sym c.result.ensures) in
    let p = err_from_is_err_and c.from_residual-in_err-check_result.result c.from_residual-in_err-check_result.ensures.1 in
    rw (p.1, p.2) (λ real. let (never, told) = c.in_err-check_result.ensures.fault real in
    wrong_result c.args.build.now c.args.plans.now c.args.services.now c.args.root c.requires (type_of c.result.result.now) _ names root never told)

pub returns-clause-fault : goal.returns-clause-fault
returns-clause-fault c =
    let seen = ap (λ (os : List Open). map open_seen os) c.deref-2.ensures.value ∙ c.in_ok-opens.ensures.seen in
    let all = ap (λ (is : List Instance). (record { name = c.args.build.now.root; instance = c.args.build.now.root }) ∷ map (port_of is) (map open_seen c.deref-2.result.now)) c.deref.ensures.value
    ∙ ports c.args.build.now c.args.plans.now c.args.services.now c.args.root c.requires c.deref-2.result.now seen in
    let names = named c.args.build.now c.args.plans.now c.args.services.now c.args.root c.requires _ all c.in_ok-check_names.ensures.different in
    let root : outcome_of (slice_get (plans_of c.args.plans.now) c.args.root) ≡ type_of c.result.result.now =
    root_at c.args.build.now c.args.plans.now c.args.services.now c.args.root c.requires c.index-plans-root.result
    (λ low. slice_get_read c.args.plans.now (length c.args.plans.now) c.args.root c.index-plans-root.result refl low c.index-plans-root.is)
    ∙ ap (λ (t : Ty). type_of t) (sym c.result.ensures) in
    let result = done c.args.build.now c.args.plans.now c.args.services.now c.args.root c.requires (type_of c.result.result.now) root c.in_ok-check_result.ensures.done in
    let imports = lefts c.args.build.now c.args.plans.now c.args.services.now c.args.root c.requires c.deref-3.result.now
    (ap (λ (os : List Open). map open_seen os) c.deref-3.ensures.value ∙ c.in_ok-opens.ensures.seen) in
    IfErr-weaker c.check_imports.result _ _
    (λ f first real. wrong_import c.args.build.now c.args.plans.now c.args.services.now c.args.root c.requires _ f names result imports (first real))
    c.check_imports.ensures.fault

pub returns-clause-grounded : goal.returns-clause-grounded
returns-clause-grounded c =
    let seen = ap (λ (os : List Open). map open_seen os) c.deref-2.ensures.value ∙ c.in_ok-opens.ensures.seen in
    let all = ap (λ (is : List Instance). (record { name = c.args.build.now.root; instance = c.args.build.now.root }) ∷ map (port_of is) (map open_seen c.deref-2.result.now)) c.deref.ensures.value
    ∙ ports c.args.build.now c.args.plans.now c.args.services.now c.args.root c.requires c.deref-2.result.now seen in
    let names = named c.args.build.now c.args.plans.now c.args.services.now c.args.root c.requires _ all c.in_ok-check_names.ensures.different in
    let root : outcome_of (slice_get (plans_of c.args.plans.now) c.args.root) ≡ type_of c.result.result.now =
    root_at c.args.build.now c.args.plans.now c.args.services.now c.args.root c.requires c.index-plans-root.result
    (λ low. slice_get_read c.args.plans.now (length c.args.plans.now) c.args.root c.index-plans-root.result refl low c.index-plans-root.is)
    ∙ ap (λ (t : Ty). type_of t) (sym c.result.ensures) in
    let imports = lefts c.args.build.now c.args.plans.now c.args.services.now c.args.root c.requires c.deref-3.result.now
    (ap (λ (os : List Open). map open_seen os) c.deref-3.ensures.value ∙ c.in_ok-opens.ensures.seen) in
    let result = done c.args.build.now c.args.plans.now c.args.services.now c.args.root c.requires (type_of c.result.result.now) root c.in_ok-check_result.ensures.done in
    IfOk-weaker c.check_imports.result _ _
    (λ u ground. record {
      named = names;
      result = result;
      imports = all_ground c.args.build.now c.args.plans.now c.args.services.now c.args.root c.requires c.deref-3.result.now imports ground;
    })
    c.check_imports.ensures.ground
