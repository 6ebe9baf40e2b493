-- A program whose body unfolds in one way has the moves of one whose body is what it unfolds to.
use Rattle.std.specs.Prelude.{◌≡◌, zero, suc, []}
use Rattle.std.proofs.Common.{refl, sym, subst}
use Rattle.gos_model.specs.Terms.{Term}
use Rattle.gos_model.specs.Stores.{Store}
use Rattle.gos_model.specs.Typing.{Imports}
use Rattle.gos_model.specs.Moves.{Program, Config, Idle, Running, Act, Computing, Showing, Move, Unfoldings, ActsTo, Stalled}
use Rattle.gos_model.proofs.HeadLemmas.{IsReady}
use Rattle.gos_plan.specs.Plans.{Plan}
use Rattle.gos_realises.specs.realises.Matched.{RealisesInTurn}
use Rattle.gos_realises.proofs.realises.SimulationLemmas.{Follows, followed_is_realised}

-- of any two programs with these imports: a running term does what it unfolds to does
module _ (g f : Program) (same_imports : f.imports ≡ g.imports) (m n : Term) (ready : IsReady m n) where
  pub more : (a : Act) (d : Config) → Move f a (Running n []) d → Move g a (Running m []) d
  more a d (k, u, us, act) = (suc k, u, (n, ready.unfolds, us), subst (λ (i : Imports). ActsTo i a [] u d) same_imports act)

  pub less : (a : Act) (d : Config) → Move g a (Running m []) d → Move f a (Running n []) d
  less a d (zero, u, is_it, act) = absurd (ready.rests g.imports a [] d (subst (λ v. ActsTo g.imports a [] v d) (sym is_it) act))
  less a d (suc k, u, (v, one, us), act) = (
    k,
    u,
    subst (λ x. Unfoldings k x u) (sym (ready.only v one)) us,
    subst (λ (i : Imports). ActsTo i a [] u d) (sym same_imports) act,
  )

  pub stalls_before : Stalled f (Running n []) → Stalled g (Running m [])
  stalls_before stalled = (λ d move. stalled.0 d (less Computing d move), λ o d out move. stalled.1 o d out (less (Showing o) d move))

module _ (is : Imports) (m n : Term) (ready : IsReady m n) where
  abbrev lagging : Program
  lagging = record { imports = is; body = m }

  abbrev prompt : Program
  prompt = record { imports = is; body = n }

  -- the one runs the body where the other runs what it unfolds to
  data Late : Config → Config → Type 0 where
    same : (c : Config) → Late c c
    late : Late (Running m []) (Running n [])

  step : (a : Act) (c e d : Config) → Late c e → Move prompt a e d → (b : Config) × Move lagging a c b × Late b d
  step a Idle e d (same Idle) (is_run, to) = (Running m [], (is_run, refl), subst (Late (Running m [])) (sym to) late)
  step a c e d (same (Running t s)) move = (d, move, same d)
  step a c e d late move = (d, more lagging prompt refl m n ready a d move, same d)

  stalls : (c e : Config) → Late c e → Stalled prompt e → Stalled lagging c
  stalls c e (same Idle) stalled = (
    λ d move. stalled.0 (Running n []) (move.0, refl),
    λ o d out move. stalled.1 o (Running n []) out (move.0, refl),
  )
  stalls c e (same (Running t s)) stalled = stalled
  stalls c e late stalled = stalls_before lagging prompt refl m n ready stalled

  running : (t : Term) (s : Store) → Running t s ≡ Idle → ⊥
  running t s e = cc e

  idles : (c e : Config) → Late c e → c ≡ Idle → e ≡ Idle
  idles c e (same d) is_idle = is_idle
  idles c e late is_idle = absurd (running m [] is_idle)

  follows : Follows lagging prompt Late
  follows = record { starts = same Idle; step = step; stalls = stalls; idles = idles }

pub ready_is_realised : (p : Plan) (m n : Term) → IsReady m n → RealisesInTurn p n → RealisesInTurn p m
ready_is_realised p m n ready = followed_is_realised p m n (Late p.imports m n ready) (follows p.imports m n ready)
