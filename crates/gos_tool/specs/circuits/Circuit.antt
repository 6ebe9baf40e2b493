-- The circuit of a plan.
--
-- Read first: Accepted of gos_netcheck; Laid, Choices and Fast of gos_expand (how a plan is laid out); Alike of gos_tidy; Pace of gos_pace;
-- Matched of gos_realises (what it means that a plan realises a program).
use Rattle.std.specs.Prelude.{◌≡◌, ◌≤◌, List, ◌∷◌, map, length}
use Rattle.gos_types.specs.Types.{Type'}
use Rattle.gos_lex.specs.Lines.{Word}
use Rattle.gos_netlist.specs.Nets.{Side, Give, Take, NetPort, Netlist}
use Rattle.gos_netcheck.specs.Accepted.{IsAccepted}
use Rattle.gos_model.specs.Terms.{Term}
use Rattle.gos_model.specs.Typing.{Imported}
use Rattle.gos_pace.specs.Pace.{KeepsPaceAlways}
use Rattle.gos_plan.specs.Plans.{Plan}
use Rattle.gos_plan.specs.Size.{plan_size}
use Rattle.gos_realises.specs.realises.Matched.{RealisesDone, program_of}
use Rattle.gos_realises.specs.realises.Slim.{IsSlim}
use Rattle.gos_expand.specs.declared.whole.Policy.TheVariants as policies
use Rattle.gos_expand.specs.Choices.{IsLaidBy}
use Rattle.gos_expand.specs.Fast.{IsFastOf}
use Rattle.gos_tidy.specs.Alike.{IsTidied}
use Rattle.gos_tool.specs.declared.circuits.layout.Layout.{Layout}
use Rattle.gos_tool.specs.declared.circuits.layout.Layout.TheVariants.{Few, Fast}

-- a port without its nets
pub record Face : Type 0 where
  pub name : Word
  pub side : Side
  pub ty : Type'

abbrev pub face_of : NetPort → Face
face_of p = record { name = p.name; side = p.side; ty = p.ty }

abbrev pub taken_face : Imported → Face
taken_face i = record { name = i.name; side = Take; ty = i.ty }

-- the ports of a plan: the root gives the result, and then the imports are taken, in their order
abbrev pub plan_faces : Word → Plan → List Face
plan_faces root p = record { name = root; side = Give; ty = p.outcome } ∷ map taken_face p.imports

-- The netlist is one that the plan is laid out as in this way: the one with few registers; or the fast one, made tidy.
abbrev pub IsLaidAs : Layout → Plan → Word → Netlist → Type 0
IsLaidAs Few p root net = IsLaidBy policies.Few p root net
IsLaidAs Fast p root net = (base : Netlist) × IsFastOf p root base × IsTidied base net

-- The netlist has the plan's ports, is accepted, and has at most as many cells as the plan's size. It is one that the
-- plan is laid out as in this way. And it keeps pace with every program that the plan realises, where the plan is slim.
pub record IsCircuitOf (layout : Layout) (root : Word) (p : Plan) (net : Netlist) : Type 0 where
  pub ports : map face_of net.ports ≡ plan_faces root p
  pub accepted : IsAccepted net
  pub few : length net.cells ≤ plan_size p
  pub is_laid : IsLaidAs layout p root net
  pub pace : IsSlim p → (m : Term) → RealisesDone p m → KeepsPaceAlways p.weight (program_of p m) net
