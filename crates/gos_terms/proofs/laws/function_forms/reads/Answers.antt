use Rattle.gos_terms.proofs.function_forms.PartLemmas.{deref_case, deref_is_regular}
use Rattle.gos_terms.proofs.laws.function_forms.reads.Goals as goal

pub returns-clause-realised : goal.returns-clause-realised
returns-clause-realised c =
    deref_case
    (record {
      one = c.parts_are_kept.ensures.one;
      fits = c.wired_nodes.ensures.fit;
      plain = c.wired_nodes.ensures.plain;
    })
    c.types_of_terms.ensures.one c.starts.ensures.types c.derefs_are_readings.ensures c.uses_are_realised.ensures.deref

pub returns-clause-regular : goal.returns-clause-regular
returns-clause-regular c =
    deref_is_regular
    (record {
      one = c.parts_are_kept.ensures.one;
      fits = c.wired_nodes.ensures.fit;
      plain = c.wired_nodes.ensures.plain;
    })
    c.derefs_are_readings.ensures c.renumberings.ensures.regular c.rests.ensures.renumbered
    c.readings_are_regular.ensures.joined
