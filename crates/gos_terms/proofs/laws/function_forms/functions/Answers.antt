use Rattle.gos_terms.proofs.function_forms.FunctionLemmas.{function_node_is_regular}
use Rattle.gos_terms.proofs.function_forms.LambdaLemmas.{function_case}
use Rattle.gos_terms.proofs.laws.function_forms.functions.Goals as goal

pub returns-clause-regular : goal.returns-clause-regular
returns-clause-regular c =
    function_node_is_regular
    (record {
      there = c.names.ensures.there;
      name = c.names.ensures.regular;
      name_rests = c.rests.ensures.name;
      function = c.functions.ensures;
      function_rests = c.rests.ensures.function;
    })
    c.bodies.ensures

pub returns-clause-realised : goal.returns-clause-realised
returns-clause-realised c =
    function_case
    (record {
      one = c.types_of_terms.ensures.one;
      kept = c.parts_are_kept.ensures.body;
      body = c.bodies.ensures;
      instantiated = c.meanings.ensures.body;
    })
