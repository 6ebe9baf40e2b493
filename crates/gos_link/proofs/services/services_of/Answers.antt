use Rattle.std.proofs.Common.{◌≡◌, ◌∙◌, ◌∷◌, ◌++◌, ◌+◌, [], ℕ, List, suc, ap, arith, drop, length, map, refl, subst, sym}
use Rattle.std.proofs.Math.Seq.{drop-cons}
use Rattle.std.proofs.lemmas.List.{drop_all}
use Rattle.gos_link.specs.declared.build.Bind.{Bind}
use Rattle.gos_link.specs.declared.services.Service.{Service}
use Rattle.gos_link.specs.Services.{IsRightBind}
use Rattle.gos_link.specs.inner.Served.{AreAbove}
use Rattle.gos_link.specs.inner.Tops.{AreTops, moved, top_at}
use Rattle.gos_link.proofs.BindLemmas.{MeansSoFar, all_meant, one_more, first_wrong, giver_low, tops_meant}
use Rattle.gos_link.proofs.AboveLemmas.{above_more, above_none}
use Rattle.gos_link.proofs.TopLemmas.{one_closed}
use Rattle.gos_link.proofs.services.services_of.Goals as goal

pub returns-in-Err-clause-fault : goal.returns-in-Err-clause-fault
returns-in-Err-clause-fault c =
    let b : Bind = c.bind-item.result in
    let rest : List Bind = drop (suc c.loop-bind.bind-index) c.args.binds.now in
    let here : drop c.loop-bind.bind-index c.args.binds.now ≡ b ∷ rest =
    drop-cons c.args.binds.now c.loop-bind.bind-index b c.loop-bind-test.true ∙ ap (λ (x : Bind). x ∷ rest) (sym c.bind-item.is) in
    λ real. first_wrong c.args.instances.now c.args.plans.now c.args.binds.now c.loop-bind.services (drop c.loop-bind.bind-index c.args.binds.now) b
    rest c.in-Err.fault c.loop-bind.invariant.0 here
    (c.in-Err.ensures.fault real)

pub loop-bind-preserved : goal.loop-bind-preserved
loop-bind-preserved c =
    let b : Bind = c.bind-item.result in
    let old : List Service = c.loop-bind.services in
    let rest : List Bind = drop (suc c.loop-bind.bind-index) c.args.binds.now in
    let here : drop c.loop-bind.bind-index c.args.binds.now ≡ b ∷ rest =
    drop-cons c.args.binds.now c.loop-bind.bind-index b c.loop-bind-test.true ∙ ap (λ (x : Bind). x ∷ rest) (sym c.bind-item.is) in
    let s : Service = c.in-Ok.service in
    let right : IsRightBind c.args.instances.now c.args.plans.now old b s = c.in-Ok.ensures.right in
    let tops : List ℕ = c.loop-bind.invariant.1 in
    let known = c.loop-bind.invariant.2 in
    let are = c.loop-bind.invariant.3 in
    let n : ℕ = length c.args.instances.now in
    let after : List ℕ = map (moved s.giver (top_at tops s.user)) tops in
    let passed : AreAbove old tops c.deref-in-Ok.result.now = subst (λ (above : List ℕ). AreAbove old tops above) (sym c.deref-in-Ok.ensures.value) are in
    let pushed : c.push.new.self.items ≡ c.loop-bind.above.items ++ top_at tops s.user ∷ [] =
    c.in_ok-push-in-Ok.ensures.items ∙ ap (λ (top : ℕ). c.loop-bind.above.items ++ top ∷ []) (c.top_of.ensures n tops known passed) in
    let higher : AreAbove (old ++ s ∷ []) after c.push.new.self.items =
    above_more n old s tops c.loop-bind.above.items known are (giver_low c.args.instances.now c.args.plans.now b s right.means) right.unused
    (λ e. right.ringless (one_closed n old tops known s e)) c.push.new.self.items pushed in
    let grown : c.in_ok-services-in-Ok.services ≡ old ++ s ∷ [] = c.in_ok-services-in-Ok.ensures in
    let next : suc c.loop-bind.bind-index ≡ c.loop-bind.bind-index + 1 = omega arith in
    subst (λ (ss : List Service). MeansSoFar c.args.instances.now c.args.plans.now c.args.binds.now ss (drop (c.loop-bind.bind-index + 1) c.args.binds.now) × (tops : List ℕ) × AreTops n ss tops × AreAbove ss tops c.push.new.self.items)
    (sym grown) (
      subst (λ (j : ℕ). MeansSoFar c.args.instances.now c.args.plans.now c.args.binds.now (old ++ s ∷ []) (drop j c.args.binds.now)) next
          (one_more c.args.instances.now c.args.plans.now c.args.binds.now old (drop c.loop-bind.bind-index c.args.binds.now) b rest s c.loop-bind.invariant.0 here right),
      after,
      tops_meant c.args.instances.now c.args.plans.now old b s tops after known right refl,
      higher,
    )

pub returns-clause-right : goal.returns-clause-right
returns-clause-right c =
    let ends : drop c.loop-bind.bind-index c.args.binds.now ≡ [] = drop_all c.loop-bind.bind-index c.args.binds.now (omega arith) in
    all_meant c.args.instances.now c.args.plans.now c.args.binds.now c.loop-bind.services (drop c.loop-bind.bind-index c.args.binds.now) c.loop-bind.invariant.0 ends

pub loop-bind-init : goal.loop-bind-init
loop-bind-init c =
    let n : ℕ = length c.args.instances.now in
    let none = above_none n in
    subst (λ (ss : List Service). MeansSoFar c.args.instances.now c.args.plans.now c.args.binds.now ss c.args.binds.now × (tops : List ℕ) × AreTops n ss tops × AreAbove ss tops c.new-above.result.items)
    (sym c.new-services.ensures)
    ((λ more ending means. means), none.0, none.1, subst (λ (above : List ℕ). AreAbove [] none.0 above) (sym c.new-above.ensures.items) none.2)
