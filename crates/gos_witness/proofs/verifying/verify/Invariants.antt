use Rattle.gos_witness.specs.inner.Stages.{IsPassed}
use Rattle.gos_witness.proofs.verifying.verify.Given as goal

-- the lines so far have led to the stage
abbrev pub invariant-loop-number : goal.invariant-loop-number
invariant-loop-number l = IsPassed l.fn.program l.fn.labels l.fn.lines l.number l.stage
