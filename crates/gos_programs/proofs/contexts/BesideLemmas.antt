-- Moves of a term, and its waiting, beside other locations and in a context.
use Rattle.std.specs.Prelude.{◌≡◌, ℕ, ◌+◌, IsTrue, List, [], ◌∷◌}
use Rattle.std.proofs.Common.{arith, refl, sym, subst}
use Rattle.gos_model.specs.Terms.{Term}
use Rattle.gos_model.specs.Typing.{Imports}
use Rattle.gos_model.specs.Stores.{Store}
use Rattle.gos_model.specs.Steps.{IsValue, Steps}
use Rattle.gos_model.specs.Labels.{Label, given, is_output}
use Rattle.gos_model.specs.Moves.{Program, Config, Idle, Running, Act, Showing, Acts, ActsTo, Moves}
use Rattle.gos_programs.specs.contexts.Contexts.{plug}
use Rattle.gos_programs.specs.contexts.Plugged.{AreInner}
use Rattle.gos_programs.specs.contexts.Renaming.{renamed, renamed_store, IsInjective, IsFreeOf, beside}
use Rattle.gos_programs.specs.contexts.Beside.{ActsRenamed, MoveBeside, MoveWithin, MovesWithin, RunsWithin, WholeRunsWithin, WaitsBeside, WaitsBesideWithin}
use Rattle.gos_programs.proofs.contexts.PluggedLemmas.{acts_of, acts_to, move_plugged, moves_plugged, stays_running, inner_rest, running_at}
use Rattle.gos_programs.proofs.contexts.BackwardLemmas.{IsStuck, NeverValue, AlwaysStuck, stalled_of, stuck_in, value_answers, waits_within}
use Rattle.gos_programs.proofs.contexts.ShutLemmas.{sources_are_shut}
use Rattle.gos_programs.proofs.contexts.ScopeLemmas.{ends_empty}
use Rattle.gos_programs.proofs.contexts.RenamedStoreLemmas.{nothing_beside, above, above_absent}
use Rattle.gos_programs.proofs.contexts.RenamedLemmas.{acts_beside, unfoldings_renamed, value_renamed, sources_renamed}
use Rattle.gos_programs.proofs.contexts.RenamedBackLemmas.{unfoldings_back, steps_some, shows_some, is_value}

pub acts_renamed : ActsRenamed
acts_renamed r i a s u m t inj h =
    let moved : Acts i a (beside r s []) (beside r u []) (renamed r m) (renamed r t) = acts_beside r [] i a s u m t inj (λ l. refl) h in
    let left : Acts i a (renamed_store r s) (beside r u []) (renamed r m) (renamed r t) =
    subst (λ (x : Store). Acts i a x (beside r u []) (renamed r m) (renamed r t)) (nothing_beside r s) moved in
    subst (λ (x : Store). Acts i a (renamed_store r s) x (renamed r m) (renamed r t)) (nothing_beside r u) left

pub move_beside : MoveBeside
move_beside p q r f a s u m t e inj free (n, v, hs, h) = (
  n,
  renamed r v,
  unfoldings_renamed r n m v hs,
  subst (λ (i : Imports). ActsTo i a (beside r s f) (renamed r v) (Running (renamed r t) (beside r u f))) e
      (acts_to p.imports a (beside r s f) (beside r u f) (renamed r v) (renamed r t)
      (acts_beside r f p.imports a s u v t inj free (acts_of p.imports a s u v t h))),
)

pub move_within : MoveWithin
move_within p q c r f a s u m t e inj free h =
    move_plugged q q a c (beside r s f) (beside r u f) (renamed r m) (renamed r t) refl (move_beside p q r f a s u m t e inj free h)

pub moves_beside : (p q : Program) (r : ℕ → ℕ) (f : Store) (acts : List Act) (s u : Store) (m t : Term)
    → p.imports ≡ q.imports → IsInjective r → IsFreeOf r f → AreInner acts → Moves p acts (Running m s) (Running t u)
    → Moves q acts (Running (renamed r m) (beside r s f)) (Running (renamed r t) (beside r u f))
moves_beside p q r f [] s u m t e inj free inner h =
    let same = running_at m t s u h in
    λ i. Running (renamed r (same.0 i)) (beside r (same.1 i) f)
moves_beside p q r f (a ∷ acts) s u m t e inj free inner (Idle, h, hs) = absurd (stays_running p a acts s m inner h)
moves_beside p q r f (a ∷ acts) s u m t e inj free inner (Running v w, h, hs) = (
  Running (renamed r v) (beside r w f),
  move_beside p q r f a s w m v e inj free h,
  moves_beside p q r f acts w u v t e inj free (inner_rest a acts inner) hs,
)

pub moves_within : MovesWithin
moves_within p q c r f acts s u m t e inj free inner h =
    moves_plugged q q acts c (beside r s f) (beside r u f) (renamed r m) (renamed r t) refl inner
    (moves_beside p q r f acts s u m t e inj free inner h)

pub runs_within : RunsWithin
runs_within p q c r f acts u t ty e inj free inner typed (b, (is, at_body), hs) =
    let inside : Moves p acts (Running p.body []) (Running t u) = subst (λ (x : Config). Moves p acts x (Running t u)) at_body hs in
    subst (λ (x : Term). Moves q acts (Running (plug c x) f) (Running (plug c (renamed r t)) (beside r u f)))
    (sources_renamed r p.imports [] p.body ty typed)
    (moves_within p q c r f acts [] u p.body t e inj free inner inside)

pub whole_runs_within : WholeRunsWithin
whole_runs_within p q c f acts u v ty e inner typed is h =
    let r : ℕ → ℕ = λ l. above f + l in
    let inj : IsInjective r = λ k l g. omega (arith, g) in
    let free : IsFreeOf r f = λ l. above_absent f (above f + l) (omega arith) in
    let empty = ends_empty p (Showing (given 0 0) ∷ acts) v u (sources_are_shut p.imports [] p.body ty typed) h is in
    let run : Moves q acts (Running (plug c p.body) f) (Running (plug c (renamed r v)) (beside r u f)) =
    runs_within p q c r f acts u v ty e inj free inner typed h in
    let ended : Moves q acts (Running (plug c p.body) f) (Running (plug c (renamed r v)) f) =
    subst (λ (x : Store). Moves q acts (Running (plug c p.body) f) (Running (plug c (renamed r v)) (beside r x f))) empty run in
    subst (λ (x : Term). Moves q acts (Running (plug c p.body) f) (Running (plug c x) f)) (value_renamed r v is) ended

-- waiting
stuck_renamed : (r : ℕ → ℕ) (f : Store) (i : Imports) (s : Store) (m : Term) → IsInjective r → IsFreeOf r f → IsStuck i s m
    → IsStuck i (beside r s f) (renamed r m)
stuck_renamed r f i s m inj free stuck = (silent, shown)
  where
    silent : (u : Store) (v : Term) → Steps (beside r s f) u (renamed r m) v → ⊥
    silent u v h = let k = steps_some r f inj free s u m v h in stuck.0 k.1 k.0 k.2

    shown : (o : Label) (u : Store) (v : Term) → IsTrue (is_output o) → Acts i (Showing o) (beside r s f) u (renamed r m) v → ⊥
    shown o u v out (h, e) = let k = shows_some r i o m v h in stuck.1 o s k.0 out (k.1, refl)

pub waits_beside : WaitsBeside
waits_beside p q r f s m e inj free stalled = stalled_of q (beside r s f) (renamed r m) never stuck
  where
    never : NeverValue (renamed r m)
    never n v hs is =
        let b = unfoldings_back r n m v hs in
        value_answers p s m b.0 n b.2 (is_value r b.0 (subst IsValue b.1 is)) stalled

    stuck : AlwaysStuck q.imports (beside r s f) (renamed r m)
    stuck n v hs =
        let b = unfoldings_back r n m v hs in
        subst (λ (x : Term). IsStuck q.imports (beside r s f) x) (sym b.1)
        (stuck_renamed r f q.imports s b.0 inj free (stuck_in p q s m b.0 n e b.2 stalled))

pub waits_beside_within : WaitsBesideWithin
waits_beside_within p q c r f s m e alone inj free stalled =
    waits_within q q c (beside r s f) (renamed r m) refl alone (waits_beside p q r f s m e inj free stalled)
