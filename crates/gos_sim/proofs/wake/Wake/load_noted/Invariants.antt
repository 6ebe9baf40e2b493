use Rattle.std.proofs.Common.{ℕ, ◌≡◌, ◌≢◌, All, drop, length}
use Rattle.gos_netlist.specs.Settling.{at}
use Rattle.gos_sim.specs.inner.Active.{Follows, IsWake}
use Rattle.gos_sim.proofs.ActiveLemmas.{LoadedButListed}
use Rattle.gos_sim.proofs.wake.Wake.load_noted.Given as goal

-- the places so far have what the registers hold
abbrev pub invariant-loop-place : goal.invariant-loop-place
invariant-loop-place g l =
    record {
      loaded : (p : ℕ) → LoadedButListed l.places l.registers l.initial.values p → LoadedButListed (drop l.place-index l.places) l.registers l.values p;
      others : (p : ℕ) → All (λ q. q ≢ p) l.places → at l.values p ≡ at l.initial.values p;
      long : length l.values ≡ length l.initial.values;
      follows : Follows l.initial.self l.self l.initial.values l.values;
      wake : IsWake (length l.initial.values) l.self;
    }
