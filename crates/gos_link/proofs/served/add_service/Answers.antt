use Rattle.std.proofs.Common.{rules, ◌≡◌, List, length, subst, sym}
use Rattle.gos_link.specs.declared.services.Service.{Service}
use Rattle.gos_link.specs.inner.Served.{AreServed}
use Rattle.gos_link.proofs.ServedLemmas.{served_more}
use Rattle.gos_link.proofs.served.add_service.Goals as goal

pub returns-clause-served : goal.returns-clause-served
returns-clause-served c =
    let size : c.len-number.result ≡ length c.args.all.now.items = search rules in
    let adds_import = rw size at c.in_ok-add_bound.ensures in
    let adds_giver = rw size at c.in_ok-add_used.ensures in
    λ known. subst (λ (ss : List Service). AreServed ss c.add_bound.new.bound.entries c.add_used.new.used.entries) (sym c.in_ok-push.ensures.items)
    (served_more c.args.all.now.items c.args.service c.args.bound.now.entries c.add_bound.new.bound.entries c.args.used.now.entries
    c.add_used.new.used.entries known adds_import adds_giver)
