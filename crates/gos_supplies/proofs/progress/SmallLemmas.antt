-- Small programs.
use Rattle.std.specs.Prelude.{◌≡◌, ℕ, zero, suc, IsTrue, []}
use Rattle.std.proofs.Common.{arith, refl, sym, subst, inl}
use Rattle.gos_types.specs.Types.{Com}
use Rattle.gos_model.specs.Terms.{Term, Skip, Import, App, Wait}
use Rattle.gos_model.specs.SmallPrograms.{c}
use Rattle.gos_model.specs.Labels.{Label, given, is_output}
use Rattle.gos_model.specs.Reach.{Unfolds}
use Rattle.gos_model.specs.Moves.{Program, Config, Idle, Running, Act, Computing, Showing, Unfoldings, ActsTo, Stalled}
use Rattle.gos_realises.proofs.realises.NameLemmas.{no_unfolding}
use Rattle.gos_supplies.specs.progress.SmallProgress.{one_run, applied_import, SkipBegins, WaitIsStalled, FunctionImportWaits, WaitsAreSeen}

pub skip_begins : SkipBegins
skip_begins stalled = stalled.1 (given 1 0) Idle refl (0, Skip, refl, inl (refl, refl))

-- a term without unfoldings, computation steps and outputs is stalled
still : (p : Program) (m : Term) → ((u : Term) → Unfolds m u → ⊥) → ((d : Config) → ActsTo p.imports Computing [] m d → ⊥)
    → ((o : Label) (d : Config) → IsTrue (is_output o) → ActsTo p.imports (Showing o) [] m d → ⊥) → Stalled p (Running m [])
still p m none computes shows = (
  λ d move. computes d (from move.0 move.1 Computing d move.2 move.3),
  λ o d out move. shows o d out (from move.0 move.1 (Showing o) d move.2 move.3),
)
  where
    same : (n : ℕ) (u : Term) → Unfoldings n m u → m ≡ u
    same zero u h = h
    same (suc n) u h = absurd (none h.0 h.1)

    from : (n : ℕ) (u : Term) (a : Act) (d : Config) → Unfoldings n m u → ActsTo p.imports a [] u d → ActsTo p.imports a [] m d
    from n u a d us h = subst (λ (v : Term). ActsTo p.imports a [] v d) (sym (same n u us)) h

wait_computes : (d : Config) → ActsTo one_run.imports Computing [] (Wait c 1) d → ⊥
wait_computes Idle h = h
wait_computes (Running m s) h = grind (arith, h)

wait_shows : (o : Label) (d : Config) → IsTrue (is_output o) → ActsTo one_run.imports (Showing o) [] (Wait c 1) d → ⊥
wait_shows o Idle out h = grind (arith, h)
wait_shows o (Running m s) out h = grind (arith, h, out)

pub wait_is_stalled : WaitIsStalled
wait_is_stalled = still one_run (Wait c 1) no_unfolding wait_computes wait_shows

applied_unfolds : (u : Term) → Unfolds (App (Import c) Skip) u → ⊥
applied_unfolds u h = grind (arith, h)

applied_computes : (d : Config) → ActsTo applied_import.imports Computing [] (App (Import c) Skip) d → ⊥
applied_computes Idle h = h
applied_computes (Running m s) h = grind (arith, h)

applied_shows : (o : Label) (d : Config) → IsTrue (is_output o) → ActsTo applied_import.imports (Showing o) [] (App (Import c) Skip) d → ⊥
applied_shows o Idle out h = grind (arith, h)
applied_shows o (Running m s) out h = grind (arith, h, out)

pub function_import_waits : FunctionImportWaits
function_import_waits = (
  (Com, refl, refl, λ t here there. grind (arith, there)),
  still applied_import (App (Import c) Skip) applied_unfolds applied_computes applied_shows,
)

pub waits_are_seen : WaitsAreSeen
waits_are_seen = ((tt, tt), λ h. h.0)
