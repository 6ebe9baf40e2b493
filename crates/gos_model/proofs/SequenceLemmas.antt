-- `c ; d`: its trace, what it cannot show, its weight, and where it is stalled.
use Rattle.std.specs.Prelude.{◌≡◌, ℕ, zero, suc, IsTrue, List, [], ◌∷◌}
use Rattle.std.proofs.Common.{arith, refl, sym, subst, inl, inr}
use Rattle.gos_model.specs.Terms.{Term, Skip, Import, Seq, Wait}
use Rattle.gos_model.specs.Reach.{Unfolds}
use Rattle.gos_model.specs.Labels.{Label, given, taken, is_output}
use Rattle.gos_model.specs.Moves.{Act, Computing, Showing, Config, Idle, Running, Move, Moves, labels, Unfoldings, ActsTo}
use Rattle.gos_model.specs.SmallPrograms.{c, d, two_commands, one_then_other, SeqRuns, SeqWaits, SeqWeight, WaitingIsStalled, EmittingIsNotStalled}

runs_acts : List Act
runs_acts = Showing (given 0 0) ∷ Showing (taken c 0 0) ∷ Showing (taken c 1 0) ∷ Computing ∷ Showing (taken d 0 0) ∷ Showing (taken d 1 0) ∷ Showing (given 1 0) ∷ []

pub seq_runs : SeqRuns
unfolding runs_acts
seq_runs = (
  runs_acts,
  Idle,
  (
    Running (Seq (Import c) (Import d)) [],
    (refl, refl),
    (
      Running (Seq (Wait c 1) (Import d)) [],
      (0, Seq (Import c) (Import d), refl, (inr (Wait c 1, refl, inl (inl (inl (refl, refl, refl)))), refl)),
      (
        Running (Seq Skip (Import d)) [],
        (0, Seq (Wait c 1) (Import d), refl, (inr (Skip, refl, inl (inr (refl, refl, (refl, refl)))), refl)),
        (
          Running (Import d) [],
          (0, Seq Skip (Import d), refl, inl (refl, refl, refl)),
          (
            Running (Wait d 1) [],
            (0, Import d, refl, (inl (inl (inl (refl, refl, refl))), refl)),
            (
              Running Skip [],
              (0, Wait d 1, refl, (inl (inr (refl, refl, (refl, refl))), refl)),
              (
                Idle,
                (0, Skip, refl, inl (refl, refl)),
                refl,
              ),
            ),
          ),
        ),
      ),
    ),
  ),
  refl,
)

no_unfolding : (u : Term) → Unfolds (Seq (Import c) (Import d)) u → ⊥
no_unfolding u h = grind (arith, h)

begun : (n : ℕ) (u : Term) → Unfoldings n (Seq (Import c) (Import d)) u → Seq (Import c) (Import d) ≡ u
begun zero u h = h
begun (suc n) u h = absurd (no_unfolding h.0 h.1)

acts_first : (a : Act) (e : Config) → ActsTo two_commands a [] (Seq (Import c) (Import d)) e → a ≡ Showing (taken c 0 0)
acts_first Computing Idle h = grind (arith, h)
acts_first Computing (Running m s) h = grind (arith, h)
acts_first (Showing o) Idle h = grind (arith, h)
acts_first (Showing o) (Running m s) h = grind (arith, h)

first_label : (a : Act) (e : Config) → Move one_then_other a (Running (Seq (Import c) (Import d)) []) e → a ≡ Showing (taken c 0 0)
first_label a e (n, u, us, h) = acts_first a e (subst (λ v. ActsTo two_commands a [] v e) (sym (begun n u us)) h)

waits : (acts : List Act) (b : Config) → Moves one_then_other acts Idle b → labels acts ≡ given 0 0 ∷ taken d 0 0 ∷ [] → ⊥
waits [] b ms e = grind (arith, e)
waits (Computing ∷ acts) b ms e = grind (arith, ms.1)
waits (Showing o ∷ []) b ms e = grind (arith, e)
waits (Showing o ∷ a ∷ acts) b ms e =
    let at_start = ms.1.1 in
    let first = first_label a ms.2.0 (subst (λ x. Move one_then_other a x ms.2.0) at_start ms.2.1) in
    let e' = subst (λ x. labels (Showing o ∷ x ∷ acts) ≡ given 0 0 ∷ taken d 0 0 ∷ []) first e in
    grind (arith, e')

pub seq_waits : SeqWaits
seq_waits (acts, b, ms, e) = waits acts b ms e

pub seq_weight : SeqWeight
seq_weight = refl

no_unfolding_waiting : (u : Term) → Unfolds (Seq (Wait c 1) (Import d)) u → ⊥
no_unfolding_waiting u h = grind (arith, h)

waiting : (n : ℕ) (u : Term) → Unfoldings n (Seq (Wait c 1) (Import d)) u → Seq (Wait c 1) (Import d) ≡ u
waiting zero u h = h
waiting (suc n) u h = absurd (no_unfolding_waiting h.0 h.1)

-- nothing is computed while c runs
computes_none : (e : Config) → ActsTo two_commands Computing [] (Seq (Wait c 1) (Import d)) e → ⊥
computes_none Idle h = h
computes_none (Running m s) h = grind (arith, h)

-- a label then is the answer of c, an input
shows_none : (o : Label) (e : Config) → IsTrue (is_output o) → ActsTo two_commands (Showing o) [] (Seq (Wait c 1) (Import d)) e → ⊥
shows_none o Idle out h = grind (arith, h)
shows_none o (Running m s) out h = grind (arith, h, out)

pub waiting_is_stalled : WaitingIsStalled
waiting_is_stalled = (
  λ e move. computes_none e (from move.0 move.1 Computing e move.2 move.3),
  λ o e out move. shows_none o e out (from move.0 move.1 (Showing o) e move.2 move.3),
)
  where
    from : (n : ℕ) (u : Term) (a : Act) (e : Config) → Unfoldings n (Seq (Wait c 1) (Import d)) u → ActsTo two_commands a [] u e → ActsTo two_commands a [] (Seq (Wait c 1) (Import d)) e
    from n u a e us h = subst (λ v. ActsTo two_commands a [] v e) (sym (waiting n u us)) h

pub emitting_is_not_stalled : EmittingIsNotStalled
emitting_is_not_stalled stalled =
    stalled.1 (taken c 0 0) (Running (Seq (Wait c 1) (Import d)) []) refl
    (0, Seq (Import c) (Import d), refl, (inr (Wait c 1, refl, inl (inl (inl (refl, refl, refl)))), refl))
