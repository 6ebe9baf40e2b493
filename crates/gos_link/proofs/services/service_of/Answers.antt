use Rattle.std.proofs.Common.{◌≡◌, ◌∙◌, ℕ, None, length, sym}
use Rattle.std.proofs.lemmas.Result.{err_from_is_err_and}
use Rattle.gos_link.specs.Services.{first_bound, first_used}
use Rattle.gos_link.proofs.TopLemmas.{none_closed, one_closed}
use Rattle.gos_link.proofs.services.service_of.Goals as goal

pub returns-in_err-service-clause-fault : goal.returns-in_err-service-clause-fault
returns-in_err-service-clause-fault c =
    let p = err_from_is_err_and c.from_residual.result c.from_residual.ensures.1 in
    rw (p.1, p.2) (λ h. c.in_err-service.ensures.fault h c.args.before.now)

pub returns-then-top_of-service-clause-fault : goal.returns-then-top_of-service-clause-fault
returns-then-top_of-service-clause-fault c =
    let n : ℕ = length c.args.instances.now in
    let (tops, known, are) = c.requires.tops in
    let s = c.in_ok-service.service in
    let means = c.in_ok-service.ensures.means in
    let unbound : first_bound c.args.before.now s.user s.import ≡ None = sym c.first_bound.ensures ∙ c.in_default.is in
    let unused : first_used c.args.before.now s.giver ≡ None = sym c.first_used.ensures ∙ c.in_default-first_used.is in
    let ring = one_closed n c.args.before.now tops known s (sym (c.top_of.ensures n tops known are) ∙ c.if-top_of-service.true) in
    λ _. (s, means.3, means, unbound, unused, ring)

pub returns-clause-right : goal.returns-clause-right
returns-clause-right c =
    let n : ℕ = length c.args.instances.now in
    let (tops, known, are) = c.requires.tops in
    let s = c.in_ok-service.service in
    let unbound : first_bound c.args.before.now s.user s.import ≡ None = sym c.first_bound.ensures ∙ c.in_default.is in
    let unused : first_used c.args.before.now s.giver ≡ None = sym c.first_used.ensures ∙ c.in_default-first_used.is in
    record {
      means = c.in_ok-service.ensures.means;
      unbound = unbound;
      unused = unused;
      ringless = none_closed n c.args.before.now tops known s unused (λ e. c.if-top_of-service.false (c.top_of.ensures n tops known are ∙ e));
    }
