use Rattle.std.proofs.Common.{map}
use Rattle.gos_netlist.specs.Seen.{cell_of, function_of}
use Rattle.gos_tidy.proofs.ReadLemmas.{first_named, second_named, third_named, no_number}
use Rattle.gos_tidy.proofs.constants.folded.Goals as goal

pub returns-in_err-a-clause-none : goal.returns-in_err-a-clause-none
returns-in_err-a-clause-none c _ folds =
    no_number (map cell_of c.args.cells.now) (function_of c.args.gate) _ _ c.in_ok-first.ensures.nets.0 (first_named (function_of c.args.gate) folds) c.in_err-a.ensures

pub returns-in_err-b-clause-none : goal.returns-in_err-b-clause-none
returns-in_err-b-clause-none c _ folds =
    no_number (map cell_of c.args.cells.now) (function_of c.args.gate) _ _ c.in_ok-first.ensures.nets.1 (second_named (function_of c.args.gate) folds) c.in_err-b.ensures

pub returns-in_err-c-clause-none : goal.returns-in_err-c-clause-none
returns-in_err-c-clause-none c _ folds =
    no_number (map cell_of c.args.cells.now) (function_of c.args.gate) _ _ c.in_ok-first.ensures.nets.2 (third_named (function_of c.args.gate) folds) c.in_err-c.ensures
