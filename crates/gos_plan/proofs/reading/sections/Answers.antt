use Rattle.std.proofs.Common.{map}
use Rattle.std.proofs.lemmas.Result.{err_from_is_err_and}
use Rattle.gos_types.specs.Types.{type_of}
use Rattle.gos_plan.specs.Seen.{import_of, part_of, joint_of}
use Rattle.gos_plan.proofs.WholeLemmas.{weight_fails, imports_fail, result_fails, parts_fail, joints_fail, foot_fails, sections_read}
use Rattle.gos_plan.proofs.reading.sections.Goals as goal

pub returns-in_err-format-clause-wrong : goal.returns-in_err-format-clause-wrong
returns-in_err-format-clause-wrong c =
    let known = weight_fails c.args.cursor.now c.in_err-format.field-0.0 c.in_err-format.ensures.wrong in
    let p = err_from_is_err_and c.from_residual.result c.from_residual.ensures.1 in
    rw (p.1, p.2) known

pub returns-in_err-imports-clause-wrong : goal.returns-in_err-imports-clause-wrong
returns-in_err-imports-clause-wrong c =
    let known = imports_fail c.in_ok-format.format c.args.cursor.now c.weight.new.cursor c.in_ok-format.weight c.in_ok-format.ensures.read c.in_err-imports.field-0.0 c.in_err-imports.ensures.wrong in
    let p = err_from_is_err_and c.from_residual-in_err-imports.result c.from_residual-in_err-imports.ensures.1 in
    rw (p.1, p.2) known

pub returns-in_err-outcome-clause-wrong : goal.returns-in_err-outcome-clause-wrong
returns-in_err-outcome-clause-wrong c =
    let known = result_fails c.in_ok-format.format c.args.cursor.now c.weight.new.cursor c.imports.new.cursor c.in_ok-format.weight (map import_of c.in_ok-imports.imports.items) c.in_ok-format.ensures.read c.in_ok-imports.ensures.read c.in_err-outcome.field-0.0 c.in_err-outcome.ensures.wrong in
    let p = err_from_is_err_and c.from_residual-in_err-outcome.result c.from_residual-in_err-outcome.ensures.1 in
    rw (p.1, p.2) known

pub returns-in_err-parts-clause-wrong : goal.returns-in_err-parts-clause-wrong
returns-in_err-parts-clause-wrong c =
    let known = parts_fail c.in_ok-format.format c.args.cursor.now c.weight.new.cursor c.imports.new.cursor c.outcome.new.cursor c.in_ok-format.weight (map import_of c.in_ok-imports.imports.items) (type_of c.in_ok-outcome.outcome) c.in_ok-format.ensures.read c.in_ok-imports.ensures.read c.in_ok-outcome.ensures.read c.in_err-parts.field-0.0 c.in_err-parts.ensures.wrong in
    let p = err_from_is_err_and c.from_residual-in_err-parts.result c.from_residual-in_err-parts.ensures.1 in
    rw (p.1, p.2) known

pub returns-in_err-joints-clause-wrong : goal.returns-in_err-joints-clause-wrong
returns-in_err-joints-clause-wrong c =
    let known = joints_fail c.in_ok-format.format c.args.cursor.now c.weight.new.cursor c.imports.new.cursor c.outcome.new.cursor c.parts.new.cursor c.in_ok-format.weight (map import_of c.in_ok-imports.imports.items) (type_of c.in_ok-outcome.outcome) (map part_of c.in_ok-parts.parts.items) c.in_ok-format.ensures.read c.in_ok-imports.ensures.read c.in_ok-outcome.ensures.read c.in_ok-parts.ensures.read c.in_err-joints.field-0.0 c.in_err-joints.ensures.wrong in
    let p = err_from_is_err_and c.from_residual-in_err-joints.result c.from_residual-in_err-joints.ensures.1 in
    rw (p.1, p.2) known

pub returns-in_err-exact-clause-wrong : goal.returns-in_err-exact-clause-wrong
returns-in_err-exact-clause-wrong c =
    let known = foot_fails c.in_ok-format.format c.args.cursor.now c.weight.new.cursor c.imports.new.cursor c.outcome.new.cursor c.parts.new.cursor c.joints.new.cursor c.in_ok-format.weight (map import_of c.in_ok-imports.imports.items) (type_of c.in_ok-outcome.outcome) (map part_of c.in_ok-parts.parts.items) (map joint_of c.in_ok-joints.joints.items) c.in_ok-format.ensures.read c.in_ok-imports.ensures.read c.in_ok-outcome.ensures.read c.in_ok-parts.ensures.read c.in_ok-joints.ensures.read c.in_err-exact.field-0.0 c.in_err-exact.ensures.wrong in
    let p = err_from_is_err_and c.from_residual-in_err-exact.result c.from_residual-in_err-exact.ensures.1 in
    rw (p.1, p.2) known

pub returns-clause-read : goal.returns-clause-read
returns-clause-read c =
    sections_read c.in_ok-format.format c.args.cursor.now c.weight.new.cursor c.imports.new.cursor c.outcome.new.cursor c.parts.new.cursor c.joints.new.cursor c.exact.new.cursor c.in_ok-format.weight (map import_of c.in_ok-imports.imports.items) (type_of c.in_ok-outcome.outcome) (map part_of c.in_ok-parts.parts.items) (map joint_of c.in_ok-joints.joints.items) c.in_ok-format.ensures.read c.in_ok-imports.ensures.read c.in_ok-outcome.ensures.read c.in_ok-parts.ensures.read c.in_ok-joints.ensures.read c.in_ok-exact.ensures.read
