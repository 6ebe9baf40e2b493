use Rattle.gos_terms.proofs.function_forms.ApplicationLemmas.{application_case, application_is_regular}
use Rattle.gos_terms.proofs.laws.function_forms.applications.Goals as goal

pub returns-clause-realised : goal.returns-clause-realised
returns-clause-realised c =
    application_case
    (record {
      both = c.parts_are_kept.ensures.both;
      parted = c.parts_are_kept.ensures.parted;
      fits = c.wired_nodes.ensures.fit;
      plain = c.wired_nodes.ensures.plain;
      applied = c.applications_are_joined.ensures;
    })
    c.types_of_terms.ensures.one c.starts.ensures.types c.uses_are_realised.ensures.application

pub returns-clause-regular : goal.returns-clause-regular
returns-clause-regular c =
    application_is_regular
    (record {
      both = c.parts_are_kept.ensures.both;
      parted = c.parts_are_kept.ensures.parted;
      fits = c.wired_nodes.ensures.fit;
      plain = c.wired_nodes.ensures.plain;
      applied = c.applications_are_joined.ensures;
    })
    c.applications.ensures c.rests.ensures.applied c.renumberings.ensures.regular c.rests.ensures.renumbered
