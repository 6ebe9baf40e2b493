-- A wait is stalled.
use Rattle.std.specs.Prelude.{◌≡◌, ℕ, zero, suc, IsTrue, [], true}
use Rattle.std.proofs.Common.{sym, subst, arith}
use Rattle.gos_model.specs.Terms.{Name, Term, Wait}
use Rattle.gos_model.specs.Typing.{Imports}
use Rattle.gos_model.specs.Reach.{Unfolds}
use Rattle.gos_model.specs.Labels.{Label, is_output, is_answer}
use Rattle.gos_model.specs.Moves.{Config, Idle, Running, Act, Computing, Showing, Unfoldings, ActsTo, Stalled}

module _ (n : Name) (k : ℕ) where
  no_unfolding : (u : Term) → Unfolds (Wait n k) u → ⊥
  no_unfolding u h = grind (arith, h)

  waiting : (j : ℕ) (u : Term) → Unfoldings j (Wait n k) u → Wait n k ≡ u
  waiting zero u h = h
  waiting (suc j) u h = absurd (no_unfolding h.0 h.1)

  computes_none : (i : Imports) (e : Config) → ActsTo i Computing [] (Wait n k) e → ⊥
  computes_none i Idle h = h
  computes_none i (Running m s) h = grind (arith, h)

  -- where it waits for an answer
  shows_none : (i : Imports) (o : Label) (e : Config) → is_answer k ≡ true → IsTrue (is_output o) → ActsTo i (Showing o) [] (Wait n k) e → ⊥
  shows_none i o Idle answer out h = grind (arith, h)
  shows_none i o (Running m s) answer out h = grind (arith, h, out, answer)

  pub wait_is_stalled : (i : Imports) (m : Term) → is_answer k ≡ true → Stalled (record { imports = i; body = m }) (Running (Wait n k) [])
  wait_is_stalled i m answer = (
    λ e move. computes_none i e (from move.0 move.1 Computing e move.2 move.3),
    λ o e out move. shows_none i o e answer out (from move.0 move.1 (Showing o) e move.2 move.3),
  )
    where
      from : (j : ℕ) (u : Term) (a : Act) (e : Config) → Unfoldings j (Wait n k) u → ActsTo i a [] u e → ActsTo i a [] (Wait n k) e
      from j u a e us h = subst (λ (v : Term). ActsTo i a [] v e) (sym (waiting j u us)) h
