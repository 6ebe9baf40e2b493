-- How many outputs and inputs come at an end of a port in the list of a cycle: as its pulse says.
use Rattle.std.proofs.Common.{◌≡◌, ℕ, zero, suc, ◌≤◌, ◌<◌, true, false, List, ◌++◌, refl, arith, nat_eq, if◌then◌else◌}
use Rattle.gos_netlist.specs.Settling.{Numbers, at}
use Rattle.gos_plan.specs.Plans.{End, Plan}
use Rattle.gos_plan.specs.Made.{PartFiring, fires_of}
use Rattle.gos_expand.specs.Blocks.{Nets}
use Rattle.gos_expand.specs.Starts.{ports_of, port_ends}
use Rattle.gos_expand.specs.Facts.{Places, bits_in_at, bits_out_at, given_elements, occurs}
use Rattle.gos_expand.proofs.StandingLemmas.{number_by_pulse, carried}
use Rattle.gos_expand.proofs.PossibleLemmas.{listing}
use Rattle.gos_expand.proofs.PulseLemmas.{flag, number_if, Come, shown_before, others_before, none_of_fires}

-- where an end is listed once, as many as its pulse says
pub outs_listed : (p : Plan) (n : Places) (v : Numbers) (e : End) (fs : List PartFiring) → occurs e (port_ends (ports_of p)) ≡ 1
    → Come true e (listing p n v fs) (flag v (n.shows e)) (number_if v (bits_out_at p e) (n.shows e))
outs_listed p n v e fs once =
    let shown = shown_before true e v (bits_out_at p) n.shows (port_ends (ports_of p)) (given_elements p n v ++ fires_of fs) in
    let given = others_before true e v (bits_in_at p) n.leaves (port_ends (ports_of p)) (fires_of fs) in
    let fires = none_of_fires true e fs in
    (grind (arith, shown.0, given.0, fires.0, once), grind (arith, shown.1, given.1, fires.1, once))

pub ins_listed : (p : Plan) (n : Places) (v : Numbers) (e : End) (fs : List PartFiring) → occurs e (port_ends (ports_of p)) ≡ 1
    → Come false e (listing p n v fs) (flag v (n.leaves e)) (number_if v (bits_in_at p e) (n.leaves e))
ins_listed p n v e fs once =
    let shown = others_before false e v (bits_out_at p) n.shows (port_ends (ports_of p)) (given_elements p n v ++ fires_of fs) in
    let given = shown_before false e v (bits_in_at p) n.leaves (port_ends (ports_of p)) (fires_of fs) in
    let fires = none_of_fires false e fs in
    (grind (arith, shown.0, given.0, fires.0, once), grind (arith, shown.1, given.1, fires.1, once))

-- a pulse or none is as many tokens
pub flag_is : (v : Numbers) (nets : Nets) → at v nets.pulse ≤ 1 → flag v nets ≡ at v nets.pulse
flag_is v nets small = by_pulse (at v nets.pulse) small
  where
    by_pulse : (m : ℕ) → m ≤ 1 → (if nat_eq m 1 then 1 else 0) ≡ m
    by_pulse zero small = refl
    by_pulse (suc zero) small = refl
    by_pulse (suc (suc m)) small = absurd (omega (arith, small))

-- and so is its number, where it has bits
pub number_is : (v : Numbers) (w : ℕ) (nets : Nets) → 0 < w → at v nets.pulse ≤ 1 → number_if v w nets ≡ carried v nets
number_is v zero nets some small = absurd (omega (arith, some))
number_is v (suc w) nets some small = by_pulse (at v nets.pulse) small
  where
    by_pulse : (m : ℕ) → m ≤ 1 → (if nat_eq m 1 then at v nets.number else 0) ≡ number_by_pulse m (at v nets.number)
    by_pulse zero small = refl
    by_pulse (suc zero) small = refl
    by_pulse (suc (suc m)) small = absurd (omega (arith, small))
