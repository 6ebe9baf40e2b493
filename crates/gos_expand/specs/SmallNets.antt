-- The netlist of the plan of `skip`, cell by cell; and a plan with a combinational cycle.
--
-- Read first: Laid, Acceptance; SmallPlans of gos_plan.
use Rattle.std.specs.Prelude.{◌≡◌, true, false, [], ◌∷◌, codes}
use Rattle.gos_types.specs.declared.types.Ty.TheVariants.{Com as AtCom}
use Rattle.gos_types.specs.Types.{Com}
use Rattle.gos_netlist.specs.Nets.{Netlist, Input, Reg, Give}
use Rattle.gos_netlist.specs.Cycles.{HasCycle}
use Rattle.gos_plan.specs.Kinds.{Seq}
use Rattle.gos_plan.specs.Plans.{PartEnd, Plan}
use Rattle.gos_macro.specs.Cells.{bit, buffer}
use Rattle.gos_plan.specs.declared.kinds.Kind.TheVariants as kinds
use Rattle.gos_plan.specs.declared.plan.End.TheVariants as ends
use Rattle.gos_plan.specs.Seen.{SeenPlan, plan_of}
use Rattle.gos_plan.specs.SmallPlans.{skip_plan}
use Rattle.gos_expand.specs.Starts.{keep_all, chosen}
use Rattle.gos_expand.specs.Laid.{laid_cells, laid}
use Rattle.gos_expand.specs.Acceptance.{CanBeLaid}

-- Run is net 0 and done is net 1, nets 2 and 3 are the registers of the joint, and net 4 is the part's answer.
abbrev pub skip_netlist : Netlist
skip_netlist =
    record {
      cells = bit Input ∷ bit (Reg 3) ∷ bit (Reg 0) ∷ bit (Reg 4) ∷ buffer 2 ∷ [];
      ports = record { name = codes "main"; side = Give; ty = Com; nets = 0 ∷ 1 ∷ [] } ∷ [];
    }

abbrev pub SkipIsLaid : Type 0
SkipIsLaid = laid keep_all skip_plan (codes "main") ≡ skip_netlist

-- Where the joint keeps no registers, what comes in at the part is net 0 itself, and net 2 is the part's answer.
abbrev pub skip_straight : Netlist
skip_straight = record skip_netlist { cells = bit Input ∷ bit (Reg 2) ∷ buffer 0 ∷ [] }

-- Where it keeps that of the request alone, net 2 is this register, and net 3 the part's answer.
abbrev pub skip_asked : Netlist
skip_asked = record skip_netlist { cells = bit Input ∷ bit (Reg 3) ∷ bit (Reg 0) ∷ buffer 2 ∷ [] }

abbrev pub SkipIsChosen : Type 0
SkipIsChosen =
    (laid (chosen (false ∷ false ∷ [])) skip_plan (codes "main") ≡ skip_straight)
    × (laid (chosen (true ∷ false ∷ [])) skip_plan (codes "main") ≡ skip_asked)

-- A sequence whose first request comes back as its caller's. Where this direction of the joint keeps no register, the gate
-- of the request, net 5, names itself.
abbrev pub ring_plan : Plan
ring_plan =
    record {
      weight = 5;
      imports = [];
      outcome = Com;
      parts = Seq 0 ∷ [];
      joints = record { asking = PartEnd 0 0; serving = PartEnd 0 2 } ∷ [];
    }

abbrev pub RingIsLeft : Type 0
RingIsLeft = HasCycle (laid_cells (chosen (false ∷ true ∷ [])) ring_plan)

-- The plan of `skip` as the program has it. It can be laid out, so what is asked of a plan can be met.
abbrev pub skip_seen : SeenPlan
skip_seen =
    record {
      weight = 5;
      imports = [];
      outcome = AtCom;
      parts = kinds.Skip ∷ [];
      joints = record { asks = ends.Result 0; serves = ends.Part 0 0 } ∷ [];
    }

abbrev pub SkipCanBeLaid : Type 0
SkipCanBeLaid = (plan_of skip_seen ≡ skip_plan) × CanBeLaid skip_seen (codes "main")
