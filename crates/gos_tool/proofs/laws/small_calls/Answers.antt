use Rattle.gos_tool.proofs.SmallCallLemmas.{build_file_may_fail, no_fault_is_no_call, verify_writes_nothing}
use Rattle.gos_tool.proofs.laws.small_calls.Goals as goal

pub returns-clause-build_file : goal.returns-clause-build_file
returns-clause-build_file c = build_file_may_fail

pub returns-clause-no_fault : goal.returns-clause-no_fault
returns-clause-no_fault c = no_fault_is_no_call

pub returns-clause-verify : goal.returns-clause-verify
returns-clause-verify c = verify_writes_nothing
