-- What a term does it does in a context.
use Rattle.std.specs.Prelude.{◌≡◌, ◌⊎◌, zero, suc, List, [], ◌∷◌}
use Rattle.std.proofs.Common.{refl, subst, inl, inr}
use Rattle.gos_model.specs.Terms.{Term, App, Wait, Both, Arr}
use Rattle.gos_model.specs.Typing.{Imports}
use Rattle.gos_model.specs.Stores.{Store}
use Rattle.gos_model.specs.Reach.{Rel, Reached, Below, Rewrites, Under, Aside}
use Rattle.gos_model.specs.Steps.{Computes}
use Rattle.gos_model.specs.Labels.{Emits, Takes}
use Rattle.gos_model.specs.Moves.{Program, Idle, Running, Act, Computing, Showing, Acts, ActsTo, Move}
use Rattle.gos_programs.specs.contexts.Contexts.{Context, SeqFirst, ParLeft, ParRight, IfTest, BinLeft, HeldRight, NotOf, AssignRight, ScopeBody, ReadIndex, WriteIndex, plug, ReadAt, WriteAt}
use Rattle.gos_programs.specs.contexts.Plugged.{AreInner, StepsPlugged, UnfoldingsPlugged, ActsPlugged, MovePlugged, MovesPlugged}

-- of any relation
pub below_plugged : (R : Rel) (c : Context) (m t : Term) → Reached R m t → Below R (plug c m) (plug c t)
below_plugged R (SeqFirst n) m t h = (t, refl, h)
below_plugged R (ParLeft n) m t h = inl (t, refl, h)
below_plugged R (ParRight n) m t h = inr (t, refl, h)
below_plugged R (IfTest n p) m t h = (t, refl, h)
below_plugged R (BinLeft op n) m t h = (t, refl, h)
below_plugged R (HeldRight k op) m t h = (t, refl, h)
below_plugged R NotOf m t h = (t, refl, h)
below_plugged R (AssignRight n) m t h = (t, refl, h)
below_plugged R (ScopeBody l) m t h = (t, refl, h)
below_plugged R (ReadIndex x n) m t h = (App (Wait x 0) (Both n t), refl, inl ((x, refl), t, refl, h))
below_plugged R (WriteIndex x n k) m t h = (App (Wait x 0) (Both n t), refl, inl ((x, refl), t, refl, h))
below_plugged R (ReadAt l) m t h = (App (Arr l) t, refl, inr ((l, refl), t, refl, h))
below_plugged R (WriteAt l k) m t h = (App (Arr l) t, refl, inr ((l, refl), t, refl, h))

pub reached_plugged : (R : Rel) (c : Context) (m t : Term) → Reached R m t → Reached R (plug c m) (plug c t)
reached_plugged R c m t h = inr (below_plugged R c m t h)

pub steps_plugged : StepsPlugged
steps_plugged c s s' m t h = reached_plugged (Computes s s') c m t h

pub unfoldings_plugged : UnfoldingsPlugged
unfoldings_plugged c zero m t h = λ i. plug c (h i)
unfoldings_plugged c (suc n) m t (u, h, hs) =
    (plug c u, reached_plugged (λ a b. (Rewrites a b ⊎ Under Rewrites a b) ⊎ Aside Rewrites a b) c m u h, unfoldings_plugged c n u t hs)

pub acts_plugged : ActsPlugged
acts_plugged i Computing c s s' m t h = reached_plugged (Computes s s') c m t h
acts_plugged i (Showing o) c s s' m t (h, e) = (reached_plugged (λ a b. Emits i o a b ⊎ Takes i o a b) c m t h, e)

-- a move to a running term does what its row says
pub acts_of : (i : Imports) (a : Act) (s u : Store) (m t : Term) → ActsTo i a s m (Running t u) → Acts i a s u m t
acts_of i Computing s u m t h = h
acts_of i (Showing o) s u m t h = h

pub acts_to : (i : Imports) (a : Act) (s u : Store) (m t : Term) → Acts i a s u m t → ActsTo i a s m (Running t u)
acts_to i Computing s u m t h = h
acts_to i (Showing o) s u m t h = h

pub move_plugged : MovePlugged
move_plugged p q a c s u m t e (n, v, hs, h) = (
  n,
  plug c v,
  unfoldings_plugged c n m v hs,
  subst (λ (i : Imports). ActsTo i a s (plug c v) (Running (plug c t) u)) e
      (acts_to p.imports a s u (plug c v) (plug c t) (acts_plugged p.imports a c s u v t (acts_of p.imports a s u v t h))),
)

-- an inner move from a running term leads to a running term
pub stays_running : (p : Program) (a : Act) (acts : List Act) (s : Store) (m : Term)
    → AreInner (a ∷ acts) → Move p a (Running m s) Idle → ⊥
stays_running p Computing acts s m inner (n, v, hs, h) = h
stays_running p (Showing o) acts s m (apart, inner) (n, v, hs, inl (is, e)) = apart (λ i. (e i).port)
stays_running p (Showing o) acts s m (apart, inner) (n, v, hs, inr (k, w, is, e)) = apart (λ i. (e i).port)

pub inner_rest : (a : Act) (acts : List Act) → AreInner (a ∷ acts) → AreInner acts
inner_rest Computing acts h = h
inner_rest (Showing o) acts h = h.1

pub running_at : (m t : Term) (s u : Store) → Running m s ≡ Running t u → (m ≡ t) × (s ≡ u)
running_at m t s u e = (cc, cc)

pub moves_plugged : MovesPlugged
moves_plugged p q [] c s u m t e inner h =
    let same = running_at m t s u h in
    λ i. Running (plug c (same.0 i)) (same.1 i)
moves_plugged p q (a ∷ acts) c s u m t e inner (Idle, h, hs) = absurd (stays_running p a acts s m inner h)
moves_plugged p q (a ∷ acts) c s u m t e inner (Running v r, h, hs) =
    (Running (plug c v) r, move_plugged p q a c s r m v e h, moves_plugged p q acts c r u v t e (inner_rest a acts inner) hs)
