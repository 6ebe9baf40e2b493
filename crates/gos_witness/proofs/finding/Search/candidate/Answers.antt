use Rattle.std.proofs.Common.{List, subst}
use Rattle.gos_witness.specs.declared.program.ProgramPort.{ProgramPort}
use Rattle.gos_witness.specs.Ports.{port_of}
use Rattle.gos_witness.specs.inner.PortMasks.{Knows}
use Rattle.gos_witness.proofs.CandidateLemmas.{next_placed}
use Rattle.gos_witness.proofs.finding.Search.candidate.Goals as goal

pub returns-clause-line : goal.returns-clause-line
returns-clause-line c =
    let p = c.args.program.now in
    let g = c.args.self.now.stage in
    let o = c.args.label in
    let knows : Knows g.list (port_of p.ports o.port) o.port c.follow.new.self =
    subst (λ (z : List ProgramPort). Knows g.list (port_of z o.port) o.port c.follow.new.self) c.ports.ensures.value c.in_ok-follow.ensures.knows in
    next_placed p c.args.labels.now g c.in-Some.root c.in-Some.is o c.requires.label c.requires.sound c.in_ok-line.line
    (c.in_ok-line.ensures (port_of p.ports o.port) knows)
