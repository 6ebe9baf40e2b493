use Rattle.gos_terms.proofs.regular.RegularLemmas.{regular_is_steady, steady_is_realised}
use Rattle.gos_terms.proofs.laws.regular.regular_nodes.Goals as goal

pub returns-clause-steady : goal.returns-clause-steady
returns-clause-steady c =
    regular_is_steady
    (record {
      fits = c.wired_nodes.ensures.fit;
      plain = c.wired_nodes.ensures.plain;
      body = c.bodies.ensures;
      function = c.functions.ensures.regular;
      applying = c.applications.ensures;
      renumbered = c.renumberings.ensures.regular;
      one = c.wired_nodes_are_one.ensures;
    })

pub returns-clause-realised : goal.returns-clause-realised
returns-clause-realised c = steady_is_realised (returns-clause-steady c)
