-- Assignments whose left sides are a head and what it unfolds to: the left side waits until the right one is a value,
-- and then unfolds.
use Rattle.std.specs.Prelude.{◌≡◌, ℕ, zero, suc, []}
use Rattle.std.proofs.Common.{refl, sym, ◌∙◌, ap, subst, arith, inl, inr}
use Rattle.gos_model.specs.Terms.{Term, Lit, Assign, Put}
use Rattle.gos_model.specs.Stores.{Store}
use Rattle.gos_model.specs.Typing.{Imports}
use Rattle.gos_model.specs.Reach.{Unfolds}
use Rattle.gos_model.specs.Moves.{Program, Config, Idle, Running, Act, Computing, Showing, Move, ActsTo, Stalled}
use Rattle.gos_model.proofs.HeadLemmas.{IsReady}
use Rattle.gos_plan.specs.Plans.{Plan}
use Rattle.gos_realises.specs.realises.Matched.{RealisesInTurn}
use Rattle.gos_realises.proofs.realises.SimulationLemmas.{Follows, followed_is_realised}
use Rattle.gos_realises.proofs.realises.ReadyLemmas.{more, stalls_before}

-- an assignment of a literal: nothing in it unfolds, and all that it does is to hold the literal
no_unfolding : (m v : Term) (k w : ℕ) → Unfolds (Assign m (Lit k w)) v → ⊥
no_unfolding m v k w (inl (inl (inl h))) = h
no_unfolding m v k w (inl (inl (inr h))) = h
no_unfolding m v k w (inl (inr h)) = h
no_unfolding m v k w (inr (l, e, inl (inl (inl h)))) = h
no_unfolding m v k w (inr (l, e, inl (inl (inr h)))) = h
no_unfolding m v k w (inr (l, e, inl (inr h))) = h
no_unfolding m v k w (inr (l, e, inr h)) = h

record IsHold (m : Term) (k : ℕ) (a : Act) (c : Config) : Type 0 where
  act : a ≡ Computing
  config : c ≡ Running (Put m k) []

holds : (i : Imports) (m : Term) (k w : ℕ) (a : Act) (c : Config) → ActsTo i a [] (Assign m (Lit k w)) c → IsHold m k a c
holds i m k w Computing Idle h = absurd h
holds i m k w Computing (Running t s) (inl (j, v, e, to, same)) =
    let number : k ≡ j = cc e in
    let left : t ≡ Put m k = to ∙ ap (λ (x : ℕ). Put m x) (sym number) in
    record { act = refl; config = λ n. Running (left n) (same n) }
holds i m k w Computing (Running t s) (inr (l, e, inl h)) = absurd h
holds i m k w Computing (Running t s) (inr (l, e, inr h)) = absurd h
holds i m k w (Showing o) Idle h = absurd (grind (arith, h))
holds i m k w (Showing o) (Running t s) (inl (inl h), e) = absurd h
holds i m k w (Showing o) (Running t s) (inl (inr h), e) = absurd h
holds i m k w (Showing o) (Running t s) (inr (l, f, inl (inl h)), e) = absurd h
holds i m k w (Showing o) (Running t s) (inr (l, f, inl (inr h)), e) = absurd h
holds i m k w (Showing o) (Running t s) (inr (l, f, inr h), e) = absurd h

hold : (i : Imports) (m : Term) (k w : ℕ) → ActsTo i Computing [] (Assign m (Lit k w)) (Running (Put m k) [])
hold i m k w = inl (k, w, refl, refl, refl)

module _ (is : Imports) (m n : Term) (k w : ℕ) (ready : IsReady (Put m k) (Put n k)) where
  abbrev lagging : Program
  lagging = record { imports = is; body = Assign m (Lit k w) }

  abbrev prompt : Program
  prompt = record { imports = is; body = Assign n (Lit k w) }

  -- both stand before the hold, or behind it, or do the same
  data Written : Config → Config → Type 0 where
    same : (c : Config) → Written c c
    before : Written (Running (Assign m (Lit k w)) []) (Running (Assign n (Lit k w)) [])
    behind : Written (Running (Put m k) []) (Running (Put n k) [])

  held : (a : Act) (d : Config) → IsHold n k a d
      → (b : Config) × Move lagging a (Running (Assign m (Lit k w)) []) b × Written b d
  held a d is_hold = (
    Running (Put m k) [],
    (0, Assign m (Lit k w), refl, subst (λ x. ActsTo is x [] (Assign m (Lit k w)) (Running (Put m k) [])) (sym is_hold.act) (hold is m k w)),
    subst (Written (Running (Put m k) [])) (sym is_hold.config) behind,
  )

  step : (a : Act) (c e d : Config) → Written c e → Move prompt a e d → (b : Config) × Move lagging a c b × Written b d
  step a Idle e d (same Idle) (is_run, to) =
      (Running (Assign m (Lit k w)) [], (is_run, refl), subst (Written (Running (Assign m (Lit k w)) [])) (sym to) before)
  step a c e d (same (Running t s)) move = (d, move, same d)
  step a c e d before (zero, u, is_it, act) = held a d (holds is n k w a d (subst (λ x. ActsTo is a [] x d) (sym is_it) act))
  step a c e d before (suc j, u, (v, one, us), act) = absurd (no_unfolding n v k w one)
  step a c e d behind move = (d, more lagging prompt refl (Put m k) (Put n k) ready a d move, same d)

  stalls : (c e : Config) → Written c e → Stalled prompt e → Stalled lagging c
  stalls c e (same Idle) stalled = (
    λ d move. stalled.0 (Running (Assign n (Lit k w)) []) (move.0, refl),
    λ o d out move. stalled.1 o (Running (Assign n (Lit k w)) []) out (move.0, refl),
  )
  stalls c e (same (Running t s)) stalled = stalled
  stalls c e before stalled = absurd (stalled.0 (Running (Put n k) []) (0, Assign n (Lit k w), refl, hold is n k w))
  stalls c e behind stalled = stalls_before lagging prompt refl (Put m k) (Put n k) ready stalled

  running : (t : Term) (s : Store) → Running t s ≡ Idle → ⊥
  running t s e = cc e

  idles : (c e : Config) → Written c e → c ≡ Idle → e ≡ Idle
  idles c e (same d) is_idle = is_idle
  idles c e before is_idle = absurd (running (Assign m (Lit k w)) [] is_idle)
  idles c e behind is_idle = absurd (running (Put m k) [] is_idle)

  follows : Follows lagging prompt Written
  follows = record { starts = same Idle; step = step; stalls = stalls; idles = idles }

pub writing_is_realised : (p : Plan) (m n : Term) (k w : ℕ) → IsReady (Put m k) (Put n k) → RealisesInTurn p (Assign n (Lit k w))
    → RealisesInTurn p (Assign m (Lit k w))
writing_is_realised p m n k w ready =
    followed_is_realised p (Assign m (Lit k w)) (Assign n (Lit k w)) (Written p.imports m n k w ready) (follows p.imports m n k w ready)
