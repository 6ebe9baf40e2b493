use Rattle.std.proofs.Common.{ℕ, ◌≡◌, drop, length}
use Rattle.gos_sim.proofs.ActiveLemmas.{LoadedButListed}
use Rattle.gos_sim.proofs.past.keep_noted.Given as goal

-- the places so far are copied
abbrev pub invariant-loop-place : goal.invariant-loop-place
invariant-loop-place g l =
    record {
      long : length l.before ≡ length l.initial.before;
      copied : (p : ℕ) → LoadedButListed (drop l.place-index l.places) l.values l.before p;
    }
