use Rattle.std.proofs.Common.{refl, ap}
use Rattle.gos_netlist.specs.Seen.{function_of}
use Rattle.gos_netcheck.proofs.schedule.is_register.Goals as goal

pub returns-in-Reg : goal.returns-in-Reg
returns-in-Reg c = (λ _. (c.in-Reg.field-0.0, ap function_of c.in-Reg.is), λ _. refl)
