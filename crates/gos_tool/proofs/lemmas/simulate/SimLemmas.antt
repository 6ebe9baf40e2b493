-- Why the command `sim` rejects a file.
use Rattle.std.proofs.Common.{inr, ℕ, List, Option}
use Rattle.std.specs.Prelude.{IfSome}
use Rattle.gos_outside.specs.Files.{Files, bytes_at}
use Rattle.gos_lex.specs.Lines.{Word}
use Rattle.gos_netlist.specs.Nets.{Netlist}
use Rattle.gos_command.specs.declared.status.Fault.{Fault}
use Rattle.gos_command.proofs.EndLemmas.{of_some_both}
use Rattle.gos_tool.specs.simulate.Simulation.{IsPulseFault}
use Rattle.gos_tool.specs.netlists.Netlist.{SaysNet}
use Rattle.gos_tool.specs.simulate.Sim.{IsSimFault}

-- a pulse file, where the netlist is right
pub pulses_rejected : (told : Option Files) (net pulses : Word) (circuit : Netlist) (fault : Fault) (line : List ℕ)
    → IfSome told (λ files. SaysNet (bytes_at files net) circuit) → IfSome told (λ files. IsPulseFault files circuit pulses fault line)
    → IfSome told (λ files. IsSimFault files net pulses fault line)
pulses_rejected told net pulses circuit fault line says rejected =
    of_some_both (λ files. SaysNet (bytes_at files net) circuit) (λ files. IsPulseFault files circuit pulses fault line) (λ files. IsSimFault files net pulses fault line) told
    (λ files right wrong. inr (circuit, right, wrong)) says rejected
