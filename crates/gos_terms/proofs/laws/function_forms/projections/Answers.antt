use Rattle.gos_terms.proofs.function_forms.PartLemmas.{first_case, second_case, first_is_regular, second_is_regular}
use Rattle.gos_terms.proofs.laws.function_forms.projections.Goals as goal

pub returns-clause-first : goal.returns-clause-first
returns-clause-first c =
    first_case
    (record {
      one = c.parts_are_kept.ensures.one;
      fits = c.wired_nodes.ensures.fit;
      plain = c.wired_nodes.ensures.plain;
    })
    c.types_of_terms.ensures.one c.starts.ensures.types c.projections_are_sides.ensures.first c.uses_are_realised.ensures.first

pub returns-clause-second : goal.returns-clause-second
returns-clause-second c =
    second_case
    (record {
      one = c.parts_are_kept.ensures.one;
      fits = c.wired_nodes.ensures.fit;
      plain = c.wired_nodes.ensures.plain;
    })
    c.types_of_terms.ensures.one c.starts.ensures.types c.projections_are_sides.ensures.second c.uses_are_realised.ensures.second

pub returns-clause-first_regular : goal.returns-clause-first_regular
returns-clause-first_regular c =
    first_is_regular
    (record {
      one = c.parts_are_kept.ensures.one;
      fits = c.wired_nodes.ensures.fit;
      plain = c.wired_nodes.ensures.plain;
    })
    c.projections_are_sides.ensures.first c.sides.ensures c.rests.ensures.sides c.renumberings.ensures.regular c.rests.ensures.renumbered

pub returns-clause-second_regular : goal.returns-clause-second_regular
returns-clause-second_regular c =
    second_is_regular
    (record {
      one = c.parts_are_kept.ensures.one;
      fits = c.wired_nodes.ensures.fit;
      plain = c.wired_nodes.ensures.plain;
    })
    c.projections_are_sides.ensures.second c.sides.ensures c.rests.ensures.sides c.renumberings.ensures.regular c.rests.ensures.renumbered
