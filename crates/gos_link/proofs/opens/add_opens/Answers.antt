use Rattle.std.proofs.Common.{◌≡◌, ◌∙◌, ◌++◌, [], ℕ, Option, Some, ap, length, map, refl, subst, sym}
use Rattle.std.specs.Prelude.{slice_get}
use Rattle.std.proofs.lemmas.Option.{slice_get_read}
use Rattle.gos_plan.specs.declared.plan.PlanImport.{PlanImport}
use Rattle.gos_plan.specs.Ranges.{IsSmall}
use Rattle.gos_plan.specs.Seen.{import_of}
use Rattle.gos_link.specs.inner.Opens.{if_open, open_seen}
use Rattle.gos_link.proofs.TieLemmas.{opens_more}
use Rattle.gos_link.proofs.opens.add_opens.Goals as goal

pub loop-number-preserved : goal.loop-number-preserved
loop-number-preserved c =
    let k : ℕ = c.loop-number.number in
    let x : PlanImport = c.index-imports-number.result in
    let at : slice_get c.args.imports.now k ≡ Some x = slice_get_read c.args.imports.now (length c.args.imports.now) k x refl c.loop-number-test.true c.index-imports-number.is in
    let added = c.in_ok-add_open.ensures.seen ∙ ap (λ (o : Option ℕ). map open_seen c.loop-number.opens.items ++ if_open o (record { plan = c.args.plan; number = k; import = import_of x }) []) c.number_bound-bound.ensures.number in (
      opens_more c.args.services.now c.args.plan k x c.args.imports.now (map open_seen c.loop-number.opens.items) (map open_seen c.add_open.new.opens.items) _ at added c.loop-number.invariant.0,
      λ smalls olds. c.in_ok-add_open.ensures.small (subst (λ (i : PlanImport). IsSmall i.ty) (sym c.index-imports-number.is) (smalls k x c.loop-number-test.true)) (c.loop-number.invariant.1 smalls olds),
    )
