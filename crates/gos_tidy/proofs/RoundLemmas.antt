-- Round by round a netlist is made tidy.
--
-- Read first: Alike; StillLemmas, TidiedLemmas, BreachLemmas.
use Rattle.std.proofs.Common.{◌<◌, ◌^◌, length, arith}
use Rattle.gos_netlist.specs.Nets.{Netlist}
use Rattle.gos_netcheck.specs.Accepted.{IsAccepted}
use Rattle.gos_tidy.specs.Ends.{all_outputs}
use Rattle.gos_tidy.specs.Steady.{IsSteadied}
use Rattle.gos_tidy.specs.Reduced.{IsReduced, Reduces, NotYet, Again, Steadied}
use Rattle.gos_tidy.specs.Tidy.{AllLead}
use Rattle.gos_tidy.specs.Alike.{IsTidied}
use Rattle.gos_tidy.specs.inner.Breaches.{AllFirm}
use Rattle.gos_tidy.specs.inner.Places.{port_nets}
use Rattle.gos_tidy.proofs.SteadyLemmas.{steadied_once}
use Rattle.gos_tidy.proofs.AgainLemmas.{reduced_again}
use Rattle.gos_tidy.proofs.TidiedLemmas.{leads_out, tidied}
use Rattle.gos_tidy.proofs.BreachLemmas.{firm_tidy}

-- the second netlist is reduced from the first one, and none of its cells leads nowhere
pub record IsOnTheWay (net other : Netlist) : Type 0 where
  pub reduces : Reduces net other
  pub accepted : IsAccepted other
  pub few : length other.cells < 2 ^ 32
  pub lead : AllLead other.cells (port_nets other.ports)

-- what is reduced once, and in two steps
pub reduces_once : (net other : Netlist) → IsReduced net other → Reduces net other
reduces_once net other reduced = Again net other NotYet reduced

reduces_along : (net mid other : Netlist) → Reduces net mid → Reduces mid other → Reduces net other
reduces_along net mid other first NotYet = first
reduces_along net mid other first (Again late _ second reduced) = Again late other (reduces_along net mid late first second) reduced
reduces_along net mid other first (Steadied late _ second steadied) = Steadied late other (reduces_along net mid late first second) steadied

pub steadied_then : (net mid other : Netlist) → IsSteadied net mid → IsReduced mid other → Reduces net other
steadied_then net mid other steadied reduced = Again mid other (Steadied net mid NotYet steadied) reduced

-- what was made steady may be reduced
pub steadied_accepted : (net mid : Netlist) → IsAccepted net → IsSteadied net mid → IsAccepted mid
steadied_accepted net mid accepted steadied = (steadied_once net mid accepted steadied).accepted

pub steadied_few : (net mid : Netlist) → length net.cells < 2 ^ 32 → IsSteadied net mid → length mid.cells < 2 ^ 32
steadied_few net mid few steadied = let each = steadied.each in omega (arith, few, each)

pub reduced_few : (net other : Netlist) → IsAccepted net → length net.cells < 2 ^ 32 → IsReduced net other → length other.cells < 2 ^ 32
reduced_few net other accepted few reduced =
    let fewer = (reduced_again net other accepted (reduces_once net other reduced)).fewer in
    omega (arith, few, fewer)

one_step : (net mid other : Netlist) → Reduces net mid → IsAccepted mid → length mid.cells < 2 ^ 32 → Reduces mid other
    → AllLead other.cells (port_nets other.ports) → IsOnTheWay net other
one_step net mid other reduces accepted few further lead =
    let still = reduced_again mid other accepted further in
    record {
      reduces = reduces_along net mid other reduces further;
      accepted = still.accepted;
      few = let fewer = still.fewer in omega (arith, few, fewer);
      lead = lead;
    }

pub first_step : (net other : Netlist) → IsAccepted net → length net.cells < 2 ^ 32 → IsReduced net other → AllLead other.cells (port_nets other.ports)
    → IsOnTheWay net other
first_step net other accepted few reduced lead = one_step net net other NotYet accepted few (reduces_once net other reduced) lead

pub next_step : (net mid other : Netlist) → IsOnTheWay net mid → Reduces mid other → AllLead other.cells (port_nets other.ports) → IsOnTheWay net other
next_step net mid other way reduces lead = one_step net mid other way.reduces way.accepted way.few reduces lead

pub reduced_step : (net mid other : Netlist) → IsOnTheWay net mid → IsReduced mid other → AllLead other.cells (port_nets other.ports) → IsOnTheWay net other
reduced_step net mid other way reduced lead = next_step net mid other way (reduces_once mid other reduced) lead

pub last_step : (net other : Netlist) → IsAccepted net → IsOnTheWay net other → AllFirm other.cells → IsTidied net other
last_step net other accepted way firm =
    tidied net other accepted way.reduces (firm_tidy other.cells (all_outputs other.ports) firm
    (λ n c there input. leads_out other.cells other.ports way.accepted.ports n (way.lead n c there input) c there input))
