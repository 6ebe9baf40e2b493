use Rattle.gos_terms.specs.theorem.Terms.{TermIsRegular}
use Rattle.gos_terms.proofs.theorem.RegularLemmas.{term_is_regular}
use Rattle.gos_terms.proofs.theorem.RealisedLemmas.{term_is_realised}
use Rattle.gos_terms.proofs.laws.theorem.wired_terms.Goals as goal

regular_so : (c : goal.After-parts_are_kept) → TermIsRegular
regular_so c =
    term_is_regular
    (record {
      used = c.leaves_are_regular.ensures.used;
      skip = c.leaves_are_regular.ensures.skip;
      literal = c.leaves_are_regular.ensures.literal;
      parallel = c.parallel_nodes.ensures;
      block = c.block_nodes.ensures.one;
      array = c.block_nodes.ensures.array;
      sequence = c.forms.ensures.sequence;
      choice = c.forms.ensures.choice;
      loop = c.forms.ensures.repeat;
      operator = c.forms.ensures.operator;
      complement = c.forms.ensures.complement;
      application = c.applications.ensures.regular;
      first = c.projections.ensures.first_regular;
      second = c.projections.ensures.second_regular;
      deref = c.reads.ensures.regular;
      function = c.functions.ensures.regular;
      pair = c.steady.ensures;
      assignment = c.assignments_of_any_target_are_steady.ensures;
      body = c.parts_are_kept.ensures.body;
      one = c.parts_are_kept.ensures.one;
      both = c.parts_are_kept.ensures.both;
      parted = c.parts_are_kept.ensures.parted;
      three = c.parts_are_kept.ensures.three;
    })

pub returns-clause-regular : goal.returns-clause-regular
returns-clause-regular c = regular_so c

pub returns-clause-realised : goal.returns-clause-realised
returns-clause-realised c =
    term_is_realised
    (record {
      used = c.leaves.ensures.used;
      skip = c.leaves.ensures.skip;
      literal = c.leaves.ensures.literal;
      parallel = c.parallel_nodes-2.ensures;
      block = c.blocks-2.ensures.one;
      array = c.blocks-2.ensures.array;
      sequence = c.fork_cases.ensures.sequence;
      choice = c.fork_cases.ensures.choice;
      loop = c.fork_cases.ensures.repeat;
      operator = c.fork_cases.ensures.operator;
      complement = c.fork_cases.ensures.complement;
      application = c.applications.ensures.realised;
      first = c.projections.ensures.first;
      second = c.projections.ensures.second;
      deref = c.reads.ensures.realised;
      function = c.functions.ensures.realised;
      pair = c.cases.ensures;
      assignment = c.assignments_of_any_target.ensures;
      regular = regular_so c;
      steady = c.regular_nodes.ensures.realised;
      body = c.parts_are_kept.ensures.body;
      one = c.parts_are_kept.ensures.one;
      both = c.parts_are_kept.ensures.both;
      parted = c.parts_are_kept.ensures.parted;
      three = c.parts_are_kept.ensures.three;
    })
