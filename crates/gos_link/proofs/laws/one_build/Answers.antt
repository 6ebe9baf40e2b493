use Rattle.gos_link.proofs.ReadingLemmas.{is_one_build, has_one_wrong_line, build_has_no_wrong_line}
use Rattle.gos_link.proofs.laws.one_build.Goals as goal

pub returns-clause-build : goal.returns-clause-build
returns-clause-build c = is_one_build

pub returns-clause-wrong_line : goal.returns-clause-wrong_line
returns-clause-wrong_line c = has_one_wrong_line

pub returns-clause-either : goal.returns-clause-either
returns-clause-either c = build_has_no_wrong_line
