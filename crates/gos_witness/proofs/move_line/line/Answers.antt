use Rattle.std.proofs.Common.{refl}
use Rattle.std.proofs.lemmas.Result.{err_from_is_err_and}
use Rattle.gos_lex.proofs.PassedLemmas.{passed_within}
use Rattle.gos_witness.specs.inner.Parts.{verb_text}
use Rattle.gos_witness.proofs.LineLemmas.{no_path, line_passed, root_passed}
use Rattle.gos_witness.proofs.move_line.line.Goals as goal

pub path-requires : goal.path-requires
path-requires c = passed_within c.args.cursor.now c.beginning.new.cursor (verb_text c.in-Ok.verb) c.in-Ok.ensures.passed

pub returns-in_err-path-clause-wrong : goal.returns-in_err-path-clause-wrong
returns-in_err-path-clause-wrong c =
    let known = no_path c.in-Ok.verb c.args.cursor.now c.beginning.new.cursor c.in_err-path.field-0.0 (λ same. absurd (cc (c.if-is_root.ensures.1 same))) c.in-Ok.ensures.passed c.in_err-path.ensures.wrong in
    let p = err_from_is_err_and c.from_residual.result c.from_residual.ensures.1 in
    rw (p.1, p.2) known

pub returns-then-is_root-clause-passed : goal.returns-then-is_root-clause-passed
returns-then-is_root-clause-passed c = root_passed c.in-Ok.verb c.args.cursor.now c.beginning.new.cursor (c.if-is_root.ensures.0 refl) c.in-Ok.ensures.passed

pub returns-clause-passed : goal.returns-clause-passed
returns-clause-passed c =
    line_passed c.in-Ok.verb c.line_of.result c.args.cursor.now c.beginning.new.cursor c.path.new.cursor c.in_ok-path.path c.line_of.ensures.text c.in-Ok.ensures.passed c.in_ok-path.ensures.passed
