-- The circuit of a plan that realises a module keeps pace with the module's program, and that of linked modules with the
-- substituted one.
use Rattle.std.proofs.Common.{subst}
use Rattle.gos_model.specs.Moves.{Program}
use Rattle.gos_pace.specs.Pace.{KeepsPaceAlways}
use Rattle.gos_plan.specs.Seen.{plan_of}
use Rattle.gos_supplies.specs.ports.Ports.{OpenIsDone}
use Rattle.gos_linked.specs.linked.Linked.{linked_program}
use Rattle.gos_linked.specs.linked.Modules.{LinkedIsModule, LinkedIsDone}
use Rattle.gos_tool.proofs.lemmas.circuits.WidthLemmas.{imports_are_wide}
use Rattle.gos_tool.specs.circuits.Paced.{EveryChoiceKeepsPace, EveryChoiceOfModule, OpenCircuitsKeepPace, ModuleCircuitsKeepPace, LinkedCircuitsKeepPace}

pub open_circuits : OpenIsDone → OpenCircuitsKeepPace
open_circuits law layout root p m net right slim ports any circuit =
    circuit.pace slim m (law p m right ports.ground (imports_are_wide root p net circuit ports.ground) ports.names any ports.done).1

pub module_circuits : OpenIsDone → ModuleCircuitsKeepPace
module_circuits law layout root p m net realised ground done =
    open_circuits law layout root p m net realised.right realised.slim (record { names = realised.names; ground = ground; done = done })
    realised.open_imports

pub choices_of_module : OpenIsDone → EveryChoiceKeepsPace → EveryChoiceOfModule
choices_of_module law every keep p root m realised ground done can acyclic =
    every keep p root m can acyclic realised.slim
    (law (plan_of p) m realised.right ground realised.import_widths realised.names realised.open_imports done).1

pub linked_circuits : LinkedIsModule → LinkedIsDone → LinkedCircuitsKeepPace
linked_circuits is_module is_done layout b ps whole programs root net l each all circuit =
    let linked = is_module b ps whole programs l each all in
    let (matched, program) = is_done b ps whole programs l each all in
    subst (λ (p : Program). KeepsPaceAlways whole.weight p net) program
    (circuit.pace linked.realises.slim (linked_program b ps whole l programs).body matched)
