-- Which files `build` doesn't reject, in whichever way it lays out plans. A law of these definitions, for all files.
--
-- Read first: Headline (`SayModules`), Built; Complete of simulate (`MayRunUnder`). `files` are those that the store held when the
-- command began. `new` are those that it leaves: of these only the netlist that is written counts, as it is what runs.
use Rattle.std.specs.Prelude.{◌≡◌, ℕ, List, [], Option, IfSome}
use Rattle.gos_outside.specs.Files.{Files, bytes_at}
use Rattle.gos_lex.specs.Lines.{Word}
use Rattle.gos_netlist.specs.Nets.{Netlist}
use Rattle.gos_netlist.specs.NetText.{text_of}
use Rattle.gos_syntax.specs.Modules.{SeenModule}
use Rattle.gos_plan.specs.Plans.{Plan}
use Rattle.gos_plan.specs.Seen.{SeenPlan}
use Rattle.gos_link.specs.Linked.{IsLinked, IsUnlinked}
use Rattle.gos_link.specs.declared.build.Build.{Build}
use Rattle.gos_link.specs.declared.fault.LinkFault.{LinkFault}
use Rattle.gos_command.specs.declared.status.Fault.{Fault}
use Rattle.gos_tool.specs.declared.circuits.layout.Layout.{Layout}
use Rattle.gos_tool.specs.declared.circuits.layout.Layout.TheVariants.{Few}
use Rattle.gos_tool.specs.circuits.Circuit.{IsCircuitOf}
use Rattle.gos_tool.specs.circuits.Linked.{SaysBuild}
use Rattle.gos_tool.specs.simulate.Complete.{MayRunUnder}
use Rattle.gos_tool.specs.build.Objects.{HavePlans}
use Rattle.gos_tool.specs.build.Headline.{SayModules}
use Rattle.gos_tool.specs.build.Built.{RejectsBuildAs}

-- a netlist that is written for a build of these modules: a circuit of the linked plan of their plans
pub record IsNetFor (layout : Layout) (b : Build) (ms : List SeenModule) (net : Netlist) : Type 0 where
  pub plans : List SeenPlan
  pub whole : Plan
  pub compiled : HavePlans ms plans
  pub linked : IsLinked b plans whole
  pub circuit : IsCircuitOf layout b.root whole net

-- the netlist file holds the text of this netlist
abbrev pub HoldsNet : Option Files → Build → Netlist → Type 0
HoldsNet new b net = IfSome new (λ all. bytes_at all b.net ≡ text_of net)

-- The files are right for `build`: the build file says a build, and each source a module that is accepted. No fault of linking
-- holds for the plans of these modules. The pulse file is one that the written netlist may run under.
pub record AreRightToBuildAs (layout : Layout) (files : Files) (new : Option Files) (own : Word) : Type 0 where
  pub build : Build
  pub modules : List SeenModule
  pub says : SaysBuild files own build
  pub sources : SayModules files build.instances.items modules
  pub links : (plans : List SeenPlan) (fault : LinkFault) → HavePlans modules plans → IsUnlinked build plans fault → ⊥
  pub runs : (net : Netlist) → IsNetFor layout build modules net → HoldsNet new build net → MayRunUnder net (bytes_at files build.pulses)

-- `build` lays plans out with few registers
abbrev pub AreRightToBuild : Files → Option Files → Word → Type 0
AreRightToBuild files new own = AreRightToBuildAs Few files new own

-- files that are right for a build are not rejected
abbrev pub BuildIsNotRejected : Type 0
BuildIsNotRejected =
    (layout : Layout) (files : Files) (new : Option Files) (own : Word) (fault : Fault) (line : List ℕ)
    → AreRightToBuildAs layout files new own → RejectsBuildAs layout files new own fault line → ⊥

-- and an empty build file is not right
abbrev pub EmptyIsNotRight : Type 0
EmptyIsNotRight =
    (layout : Layout) (files : Files) (new : Option Files) (own : Word) → bytes_at files own ≡ [] → AreRightToBuildAs layout files new own → ⊥
