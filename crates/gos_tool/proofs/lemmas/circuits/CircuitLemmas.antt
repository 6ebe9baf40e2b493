-- The netlist that a plan is laid out as is a circuit of the plan; and what the fast one is made tidy to.
use Rattle.std.proofs.Common.{◌≤◌, map, length, ap, sym, subst, ◌∙◌, arith}
use Rattle.gos_lex.specs.Lines.{Word}
use Rattle.gos_netlist.specs.Nets.{Netlist}
use Rattle.gos_netlist.specs.Cycles.{HasCycle}
use Rattle.gos_netcheck.specs.Accepted.{IsAccepted}
use Rattle.gos_model.specs.Terms.{Term}
use Rattle.gos_pace.specs.Pace.{KeepsPaceAlways}
use Rattle.gos_plan.specs.Seen.{SeenPlan, plan_of}
use Rattle.gos_plan.specs.Size.{plan_size}
use Rattle.gos_realises.specs.realises.Matched.{RealisesDone, program_of}
use Rattle.gos_realises.specs.realises.Slim.{IsSlim}
use Rattle.gos_expand.specs.declared.whole.Policy.TheVariants as policies
use Rattle.gos_expand.specs.Starts.{Keep, plain}
use Rattle.gos_expand.specs.Laid.{laid}
use Rattle.gos_expand.specs.Choices.{IsLaidBy}
use Rattle.gos_expand.specs.Acceptance.{CanBeLaid}
use Rattle.gos_expand.specs.Runs.{LaidMakesLists}
use Rattle.gos_expand.specs.Fast.{IsFastOf}
use Rattle.gos_expand.specs.FastRuns.{FastIsSmall, FastMakesLists}
use Rattle.gos_tidy.specs.Alike.{IsTidied}
use Rattle.gos_linked.specs.keeping.Ports.{HasPorts}
use Rattle.gos_linked.specs.keeping.Keeping.{IsNetOf, IsPlanFor, NetKeepsPace}
use Rattle.gos_tool.specs.declared.circuits.layout.Layout.TheVariants.{Few, Fast}
use Rattle.gos_tool.specs.circuits.Circuit.{face_of, IsCircuitOf}
use Rattle.gos_tool.proofs.lemmas.circuits.PortLemmas.{has_faces, has_ports, same_faces, imports_differ, all_ground}

-- its cycles are lists of the plan
net_of : (keep : Keep) (p : SeenPlan) (root : Word) → CanBeLaid p root → (HasCycle (laid keep (plan_of p) root).cells → ⊥) → LaidMakesLists
    → IsNetOf (plan_of p) (laid keep (plan_of p) root)
net_of keep p root can acyclic lists =
    record {
      ports = has_ports (plain keep) (plan_of p) root;
      cycles = λ ins vs in_range run. lists keep p root ins vs can acyclic in_range run;
    }

-- a slim plan that can be laid out is one for the program that it realises
plan_for : (p : SeenPlan) (root : Word) (m : Term) → CanBeLaid p root → IsSlim (plan_of p) → RealisesDone (plan_of p) m → IsPlanFor (plan_of p) m
plan_for p root m can slim realises =
    record {
      right = can.right;
      slim = slim;
      outcome = can.ports.result;
      ground = all_ground p.imports can.ports.ground;
      names = imports_differ root p.imports can.names;
      realises = realises;
    }

-- so it keeps pace with what the plan realises
pub paces : (keep : Keep) (p : SeenPlan) (root : Word) (m : Term) → CanBeLaid p root → (HasCycle (laid keep (plan_of p) root).cells → ⊥)
    → LaidMakesLists
    → NetKeepsPace
    → IsSlim (plan_of p)
    → RealisesDone (plan_of p) m
    → KeepsPaceAlways p.weight (program_of (plan_of p) m) (laid keep (plan_of p) root)
paces keep p root m can acyclic lists keeps slim realises =
    keeps (plan_of p) m (laid keep (plan_of p) root) (plan_for p root m can slim realises) (net_of keep p root can acyclic lists)

pub is_circuit : (p : SeenPlan) (root : Word) (net : Netlist) → CanBeLaid p root → LaidMakesLists → NetKeepsPace
    → IsLaidBy policies.Few (plan_of p) root net → IsAccepted net → length net.cells ≤ plan_size (plan_of p) → IsCircuitOf Few root (plan_of p) net
is_circuit p root net can lists keeps (keep, chosen, is) accepted few =
    let acyclic : HasCycle (laid keep (plan_of p) root).cells → ⊥ = subst (λ (n : Netlist). HasCycle n.cells → ⊥) is accepted.acyclic in
    record {
      ports = ap (λ (n : Netlist). map face_of n.ports) is ∙ has_faces (plain keep) (plan_of p) root;
      accepted = accepted;
      few = few;
      is_laid = (keep, chosen, is);
      pace = λ slim m realises.
          subst (λ (n : Netlist). KeepsPaceAlways p.weight (program_of (plan_of p) m) n) (sym is)
          (paces keep p root m can acyclic lists keeps slim realises);
    }

-- the cycles of the fast one are lists of the plan, too
fast_net : (p : SeenPlan) (root : Word) (base : Netlist) → CanBeLaid p root → FastMakesLists → IsFastOf (plan_of p) root base → IsNetOf (plan_of p) base
fast_net p root base can lists fast =
    let (lay, chosen, is) = fast in
    record {
      ports = subst (λ (n : Netlist). HasPorts (plan_of p) n.ports) (sym is) (has_ports lay (plan_of p) root);
      cycles = λ ins vs in_range run. lists p root base ins vs can fast in_range run;
    }

pub is_fast_circuit : (p : SeenPlan) (root : Word) (base net : Netlist) → CanBeLaid p root → FastIsSmall → FastMakesLists → NetKeepsPace
    → IsFastOf (plan_of p) root base → IsTidied base net → IsCircuitOf Fast root (plan_of p) net
is_fast_circuit p root base net can small lists keeps fast tidied =
    let (lay, chosen, is) = fast in
    let fewer = tidied.fewer in
    let size = small p root base can fast in
    record {
      ports =
          same_faces base.ports net.ports tidied.alike.ports ∙ (ap (λ (n : Netlist). map face_of n.ports) is ∙ has_faces lay (plan_of p) root);
      accepted = tidied.accepted;
      few = omega (arith, fewer, size);
      is_laid = (base, fast, tidied);
      pace = λ slim m realises.
          tidied.alike.pace p.weight (program_of (plan_of p) m)
          (keeps (plan_of p) m base (plan_for p root m can slim realises) (fast_net p root base can lists fast));
    }
