use Rattle.std.specs.Prelude.{◌≡◌, map}
use Rattle.std.proofs.Common.{rules, sym}
use Rattle.std.proofs.lemmas.Result.{err_from_is_err_and}
use Rattle.gos_types.specs.Types.{type_of}
use Rattle.gos_model.specs.Sources.{program_of}
use Rattle.gos_check.specs.Nodes.{node_seen}
use Rattle.gos_check.specs.Linearity.{StandsFor}
use Rattle.gos_check.specs.Copies.{plain_import}
use Rattle.gos_check.proofs.ModuleLemmas.{accepted_where_none, refused_where_fault}
use Rattle.gos_check.proofs.StandLemmas.{stands}
use Rattle.gos_check.proofs.CheckedLemmas.{checked_of, program_same}
use Rattle.gos_check.proofs.checker.check.Goals as goal

pub returns-in_err-weight-clause-refused : goal.returns-in_err-weight-clause-refused
returns-in_err-weight-clause-refused c =
    let p = err_from_is_err_and c.from_residual.result c.from_residual.ensures.1 in
    rw (p.1, p.2) (refused_where_fault c.found_exactly.ensures c.args.program.now c.in_err-weight.field-0.0 c.in_err-weight.ensures.err)

pub returns-clause-accepted : goal.returns-clause-accepted
returns-clause-accepted c = accepted_where_none c.found_exactly.ensures c.args.program.now c.in_ok-weight.weight c.in_ok-weight.ensures.ok

pub returns-clause-term : goal.returns-clause-term
returns-clause-term c =
    let accepted = accepted_where_none c.found_exactly.ensures c.args.program.now c.in_ok-weight.weight c.in_ok-weight.ensures.ok in
    rw c.in_ok-term.ensures.ok (stands c.args.program.now (type_of c.args.program.now.result) accepted.typed)

pub invariant_of-result : goal.invariant_of-result
invariant_of-result c =
    let accepted = accepted_where_none c.found_exactly.ensures c.args.program.now c.in_ok-weight.weight c.in_ok-weight.ensures.ok in
    let term : StandsFor (program_of c.args.program.now) (node_seen c.in_ok-term.term) =
    rw c.in_ok-term.ensures.ok (stands c.args.program.now (type_of c.args.program.now.result) accepted.typed) in
    let imports : map plain_import c.in_ok-copy_imports.field-0.items ≡ map plain_import c.args.program.now.imports = search rules in
    let outcome : type_of c.in_ok-copy.field-0 ≡ type_of c.args.program.now.result = search rules in
    let found = (c.found_exactly.ensures c.args.program.now c.in_ok-weight.weight).0 c.in_ok-weight.ensures.ok in
    checked_of c.args.program.now
    (record { weight = c.in_ok-weight.weight; imports = c.in_ok-copy_imports.field-0.items; result = c.in_ok-copy.field-0; term = c.in_ok-term.term })
    accepted imports outcome term (sym found.1)

pub returns-clause-program : goal.returns-clause-program
returns-clause-program c =
    let accepted = accepted_where_none c.found_exactly.ensures c.args.program.now c.in_ok-weight.weight c.in_ok-weight.ensures.ok in
    let term : StandsFor (program_of c.args.program.now) (node_seen c.in_ok-term.term) =
    rw c.in_ok-term.ensures.ok (stands c.args.program.now (type_of c.args.program.now.result) accepted.typed) in
    let imports : map plain_import c.in_ok-copy_imports.field-0.items ≡ map plain_import c.args.program.now.imports = search rules in
    program_same c.args.program.now
    (record { weight = c.in_ok-weight.weight; imports = c.in_ok-copy_imports.field-0.items; result = c.in_ok-copy.field-0; term = c.in_ok-term.term })
    imports term
