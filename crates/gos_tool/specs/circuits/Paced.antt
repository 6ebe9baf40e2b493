-- The circuit of a plan that realises a module keeps pace with the module's program, and that of linked modules with the
-- substituted one.
--
-- Read first: Circuit; Acceptance of gos_expand (plans that can be laid out); Modules of gos_realises (what it is to realise a
-- module); Ports of gos_supplies (imports that may be ports); Linked and Modules of gos_linked (the substituted program).
use Rattle.std.specs.Prelude.{◌≡◌, List, length}
use Rattle.gos_types.specs.Types.{IsDone}
use Rattle.gos_lex.specs.Lines.{Word}
use Rattle.gos_netlist.specs.Nets.{Netlist}
use Rattle.gos_netlist.specs.Cycles.{HasCycle}
use Rattle.gos_model.specs.Terms.{Term}
use Rattle.gos_model.specs.Linking.{Instances}
use Rattle.gos_pace.specs.Pace.{KeepsPaceAlways}
use Rattle.gos_plan.specs.Plans.{Plan, IsRight}
use Rattle.gos_plan.specs.Seen.{SeenPlan, plan_of}
use Rattle.gos_realises.specs.realises.Matched.{RealisesDone, program_of}
use Rattle.gos_realises.specs.realises.Realises.{AllGround, NamesDiffer}
use Rattle.gos_realises.specs.realises.Modules.{RealisesOpen, RealisesModule}
use Rattle.gos_realises.specs.realises.Slim.{IsSlim}
use Rattle.gos_expand.specs.Starts.{Keep}
use Rattle.gos_expand.specs.Laid.{laid}
use Rattle.gos_expand.specs.Acceptance.{CanBeLaid}
use Rattle.gos_link.specs.declared.build.Build.{Build}
use Rattle.gos_link.specs.Linked.{plans_of, IsLinked}
use Rattle.gos_linked.specs.linked.Linked.{linked_program}
use Rattle.gos_linked.specs.linked.Modules.{AreModules}
use Rattle.gos_tool.specs.declared.circuits.layout.Layout.{Layout}
use Rattle.gos_tool.specs.circuits.Circuit.{IsCircuitOf}

-- The netlist that a slim plan is laid out as keeps pace with every program that the plan realises, whichever directions of joints
-- keep their registers, where no combinational cycle is left.
abbrev pub EveryChoiceKeepsPace : Type 0
EveryChoiceKeepsPace =
    (keep : Keep) (p : SeenPlan) (root : Word) (m : Term)
    → CanBeLaid p root → (HasCycle (laid keep (plan_of p) root).cells → ⊥) → IsSlim (plan_of p) → RealisesDone (plan_of p) m
    → KeepsPaceAlways p.weight (program_of (plan_of p) m) (laid keep (plan_of p) root)

-- So it is of a plan that realises a module, whose imports are ground and whose result is a command or an expression: each choice of
-- the registers between its parts gives a netlist that keeps pace with the module's program, where it has no combinational cycle.
abbrev pub EveryChoiceOfModule : Type 0
EveryChoiceOfModule =
    (keep : Keep) (p : SeenPlan) (root : Word) (m : Term)
    → RealisesModule (plan_of p) m → AllGround (plan_of p).imports → IsDone (plan_of p).outcome → CanBeLaid p root
    → (HasCycle (laid keep (plan_of p) root).cells → ⊥)
    → KeepsPaceAlways p.weight (program_of (plan_of p) m) (laid keep (plan_of p) root)

-- what ports a plan has: its imports have different names and ground types, and its result is a command or an expression
pub record HasOpenPorts (p : Plan) : Type 0 where
  pub names : NamesDiffer p.imports
  pub ground : AllGround p.imports
  pub done : IsDone p.outcome

-- the circuit of a slim plan with such ports, which realises a term with any supplies
abbrev pub OpenCircuitsKeepPace : Type 0
OpenCircuitsKeepPace =
    (layout : Layout) (root : Word) (p : Plan) (m : Term) (net : Netlist)
    → IsRight p → IsSlim p → HasOpenPorts p → RealisesOpen p m → IsCircuitOf layout root p net → KeepsPaceAlways p.weight (program_of p m) net

-- so that of one which realises a module
abbrev pub ModuleCircuitsKeepPace : Type 0
ModuleCircuitsKeepPace =
    (layout : Layout) (root : Word) (p : Plan) (m : Term) (net : Netlist)
    → RealisesModule p m → AllGround p.imports → IsDone p.outcome → IsCircuitOf layout root p net
    → KeepsPaceAlways p.weight (program_of p m) net

-- and so that of the linked plan of such plans, a plan for each instance of the build, with the substituted program
abbrev pub LinkedCircuitsKeepPace : Type 0
LinkedCircuitsKeepPace =
    (layout : Layout) (b : Build) (ps : List SeenPlan) (whole : Plan) (programs : Instances) (root : Word) (net : Netlist) (l : IsLinked b ps whole)
    → length ps ≡ length b.instances.items → AreModules (plans_of ps) programs → IsCircuitOf layout root whole net
    → KeepsPaceAlways whole.weight (linked_program b ps whole l programs) net
