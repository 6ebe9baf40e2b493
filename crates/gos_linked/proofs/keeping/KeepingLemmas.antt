-- A netlist whose cycles are lists of a plan keeps pace with the program that the plan realises.
--
-- The list of a run is matched by moves. Cut by cycles they are its turns, and where none of many turns has a move
-- the program can only wait.
use Rattle.std.proofs.Common.{◌≡◌, inl, inr, List, [], length, refl, sym, ◌∙◌}
use Rattle.gos_netlist.specs.Nets.{Netlist}
use Rattle.gos_netlist.specs.Settling.{Numbers}
use Rattle.gos_model.specs.Terms.{Term}
use Rattle.gos_model.specs.Labels.{Label}
use Rattle.gos_model.specs.Moves.{Idle}
use Rattle.gos_pace.specs.Flattening.{Flattening}
use Rattle.gos_pace.specs.RunProtocol.{RunKeeps}
use Rattle.gos_pace.specs.Pace.{Turn, Follows, MovesWithin}
use Rattle.gos_model.specs.Weight.{pace}
use Rattle.gos_plan.specs.Plans.{Plan}
use Rattle.gos_plan.specs.Tokens.{Tokens, IsIdle}
use Rattle.gos_pace.specs.Cycles.{MakesCycles, IsPrompt, CyclesAreLists}
use Rattle.gos_plan.specs.Made.{Made}
use Rattle.gos_realises.specs.realises.Matched.{all_shown, program_of}
use Rattle.gos_realises.specs.quiet.Quiet.{GrowsQuiet}
use Rattle.gos_linked.specs.keeping.Ports.{HasPorts}
use Rattle.gos_linked.specs.keeping.Keeping.{IsPlanFor, NetKeepsPace}
use Rattle.gos_linked.proofs.keeping.LabelLemmas.{pulses_shown, ports_taken}
use Rattle.gos_linked.proofs.keeping.ListedLemmas.{CyclesShown, append_nothing, first_keeps, none_broken}
use Rattle.gos_linked.proofs.keeping.FollowLemmas.{ordered, runs_ordered, ordered_shows, turns}
use Rattle.gos_linked.proofs.keeping.PeriodLemmas.{moves_within}
use Rattle.gos_realises.proofs.quiet.GrowLemmas.{grows_quiet}

-- all cycles of the run are lists
abbrev AllListed : Plan → Netlist → List Numbers → Type 0
AllListed p net vs =
    (s : Tokens) × (ms : List Made) × IsIdle p s × MakesCycles p net vs s ms × IsPrompt p net vs s ms × (length ms ≡ length vs)

all_listed : (p : Plan) (m : Term) (net : Netlist) (vs : List Numbers) → IsPlanFor p m → HasPorts p net.ports → RunKeeps net vs → CyclesAreLists p net vs
    → AllListed p net vs
all_listed p m net vs is ports keeps (s, ms, idle, made, prompt, inl long) = (s, ms, idle, made, prompt, long)
all_listed p m net vs is ports keeps (s, ms, idle, made, prompt, inr broken) =
    absurd (none_broken p m net vs s ms (λ v. pulses_shown p net.ports v is.outcome is.ground is.names ports) (ports_taken p net.ports ports) is.realises idle
    keeps broken)

follows : (p : Plan) (m : Term) (net : Netlist) (vs : List Numbers) (parts : List (List Label)) → IsPlanFor p m → HasPorts p net.ports → GrowsQuiet p
    → RunKeeps net vs → AllListed p net vs → Flattening net vs parts
    → (ts : List Turn) × Follows (program_of p m) Idle parts ts × MovesWithin (pace p.weight) (program_of p m) ts
follows p m net vs parts is ports grows keeps (s, ms, idle, made, prompt, long) f =
    let shown : CyclesShown p net = λ v. pulses_shown p net.ports v is.outcome is.ground is.names ports in
    let run = runs_ordered p net vs parts ms s f made in
    let labelled = ordered_shows p net vs parts ms f shown long in
    let protocol = first_keeps p net vs parts (all_shown p (ordered p net vs parts ms f)) [] (ports_taken p net.ports ports) keeps f
    (sym labelled ∙ sym (append_nothing (all_shown p (ordered p net vs parts ms f)))) in
    let done = is.realises s run.0 (ordered p net vs parts ms f) idle run.1 protocol in
    let all = turns p (program_of p m) net s vs parts ms [] s Idle f shown long made refl done.1 done.0 in
    (all.0, all.1, moves_within p (program_of p m) net s ms vs all.0 [] s Idle grows idle all.2 prompt)

pub net_keeps_pace : NetKeepsPace
net_keeps_pace p m net is of_plan ins vs range run keeps parts f =
    follows p m net vs parts is of_plan.ports (grows_quiet p is.right is.slim) keeps (all_listed p m net vs is of_plan.ports keeps (of_plan.cycles ins vs range run)) f
