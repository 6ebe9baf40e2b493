use Rattle.gos_link.proofs.CountedLemmas.{counted}
use Rattle.gos_link.proofs.JudgeLemmas.{judged}
use Rattle.gos_link.proofs.linking.link.Goals as goal

pub joined-requires-clause-joinable : goal.joined-requires-clause-joinable
joined-requires-clause-joinable c =
    let links = c.in_ok-links.ensures.links in
    (judged c.args.build.now c.args.plans.now c.in_ok-links.links.services c.in_ok-links.links.root c.requires.each links.binds links.grounded.named.placed).joinable

pub joined-requires-clause-counted : goal.joined-requires-clause-counted
joined-requires-clause-counted c = counted c.args.build.now c.args.plans.now c.in_ok-links.links.services c.requires c.in_ok-links.ensures.links.binds
