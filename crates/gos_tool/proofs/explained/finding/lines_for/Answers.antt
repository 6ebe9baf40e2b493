use Rattle.gos_witness.specs.Ports.{labels_of}
use Rattle.gos_witness.specs.Programs.{program_of}
use Rattle.gos_command.specs.declared.status.Cause.TheVariants.{Explain}
use Rattle.gos_command.proofs.EndLemmas.{of_stopped}
use Rattle.gos_tool.specs.Causes.{IsFileFault}
use Rattle.gos_tool.specs.explained.Found.{IsFindCause}
use Rattle.gos_tool.proofs.lemmas.explained.TextLemmas.{file_fault}
use Rattle.gos_tool.proofs.explained.finding.lines_for.Goals as goal

pub returns-in-Err-clause-rejected : goal.returns-in-Err-clause-rejected
returns-in-Err-clause-rejected c =
    let cause = IsFindCause (program_of c.args.program.now) (labels_of c.args.program.now.ports c.args.labels.now) in
    of_stopped _ (λ fault line. IsFileFault c.args.trace.now cause fault line) c.reject.result
    (λ fault line h. file_fault cause c.args.trace.now (Explain c.in-Err.fault) fault line (h.1, c.in-Err.ensures.fault h.1) h.0 h.2)
    c.reject.ensures.stopped
