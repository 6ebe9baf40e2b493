use Rattle.std.proofs.Common.{rules, ◌≡◌}
use Rattle.gos_link.specs.inner.Opens.{number_bound}
use Rattle.gos_link.proofs.ServedLemmas.{bound_within}
use Rattle.gos_link.proofs.served.Services.number_bound.Goals as goal

pub returns-clause-within : goal.returns-clause-within
returns-clause-within c =
    let found : c.copied.result ≡ number_bound c.args.self.now c.args.user c.args.import = search rules in
    bound_within c.args.self.now c.args.user c.args.import c.copied.result found
