use Rattle.gos_witness.specs.inner.Finds.{IsFound}
use Rattle.gos_witness.specs.inner.PortMasks.{AreMasks}
use Rattle.gos_witness.proofs.finding.find.Given as goal

-- the lines so far lead to the stage
abbrev pub invariant-loop : goal.invariant-loop
invariant-loop l =
    IsFound l.fn.program l.fn.labels l.lines.items l.search.stage l.search.steps
    × AreMasks l.fn.program.ports l.search.stage.list l.search.masks
