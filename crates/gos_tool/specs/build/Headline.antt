-- The headline: what the circuit is that `build BUILD` has written, where it ends with status 0.
--
-- The words are defined in SaysBuild and SaysModule (what files say), Linking (the program of linked modules), NetText and
-- VerilogText (texts of a netlist), Accepted (no combinational cycle), Programs (its ports), and Pace (which circuits keep pace with a
-- program).
use Rattle.std.specs.Prelude.{◌≡◌, ℕ, List, [], ◌∷◌, map, Some}
use Rattle.gos_outside.specs.Files.{Files, bytes_at}
use Rattle.gos_lex.specs.Lines.{Word}
use Rattle.gos_netlist.specs.Nets.{Netlist}
use Rattle.gos_netlist.specs.NetText.{text_of}
use Rattle.gos_verilog.specs.VerilogText.{IsVerilogOf}
use Rattle.gos_netcheck.specs.Accepted.{IsAccepted}
use Rattle.gos_syntax.specs.Modules.{SeenModule}
use Rattle.gos_model.specs.Sources.{program_of}
use Rattle.gos_model.specs.Linking.{Bind, substituted, link_weight}
use Rattle.gos_pace.specs.Pace.{KeepsPaceAlways}
use Rattle.gos_link.specs.declared.build.Instance.{Instance}
use Rattle.gos_link.specs.declared.build.Bind as lines
use Rattle.gos_link.specs.declared.build.Build.{Build}
use Rattle.gos_link.specs.Services.{instance_named}
use Rattle.gos_tool.specs.objects.Checked.{SaysModule}
use Rattle.gos_tool.specs.circuits.Linked.{SaysBuild}
use Rattle.gos_tool.specs.build.Programs.{HasPorts}

-- the source of each instance says the module of its place
abbrev pub SayModules : Files → List Instance → List SeenModule → Type 0
SayModules files [] [] = Unit {0}
SayModules files (i ∷ is) (m ∷ ms) = SaysModule (bytes_at files i.source) m × SayModules files is ms
SayModules files is ms = ⊥

-- each bind line names an import of an instance, and the instance that serves it
abbrev pub SayBinds : List Instance → List lines.Bind → List Bind → Type 0
SayBinds is [] [] = Unit {0}
SayBinds is (l ∷ ls) (b ∷ bs) =
    (instance_named is l.user ≡ Some b.user) × (l.import ≡ b.import) × (instance_named is l.giver ≡ Some b.giver) × SayBinds is ls bs
SayBinds is ls bs = ⊥

-- The files `old` were there when the command began, and `new` are there when it has ended. The build file says these instances,
-- binds and root; their sources say the modules. The netlist that was written has no combinational cycle, the Verilog that was
-- written is its text. Its ports are those of the substituted program, with which it keeps pace for all inputs that keep the protocol.
pub record Headline (old new : Files) (own : Word) : Type 0 where
  pub build : Build
  pub modules : List SeenModule
  pub binds : List Bind
  pub root : ℕ
  pub net : Netlist
  pub says : SaysBuild old own build
  pub sources : SayModules old build.instances.items modules
  pub bound : SayBinds build.instances.items build.binds.items binds
  pub named : instance_named build.instances.items build.root ≡ Some root
  pub netlist : bytes_at new build.net ≡ text_of net
  pub verilog : IsVerilogOf net (bytes_at new build.verilog)
  pub accepted : IsAccepted net
  pub ports : HasPorts build.root (substituted (map program_of modules) binds root) net
  pub pace : KeepsPaceAlways (link_weight (map program_of modules)) (substituted (map program_of modules) binds root) net
