-- The frames of sessions: each is nothing, or one context beside which nothing is reached. What a child does, and where it can
-- only wait, in its frame.
use Rattle.std.specs.Prelude.{◌≡◌, ◌⊎◌, ℕ, List, Option, Some, None}
use Rattle.std.proofs.Common.{refl, sym, subst, inl, inr}
use Rattle.gos_model.specs.Terms as terms
use Rattle.gos_model.specs.Terms.{Term}
use Rattle.gos_model.specs.Stores.{Store}
use Rattle.gos_model.specs.Moves.{Program, Running, Act, Moves, Unfoldings, Stalled}
use Rattle.gos_plan.specs.Firing.{Phase, First, Second, Test, Branch, Body, Left, Right, Waiting}
use Rattle.gos_nodes.specs.sessions.Sessions.{Form, Sequence, Choice, Loop, Binary, Complement, Session, session_of}
use Rattle.gos_programs.specs.contexts.Contexts.{Context, SeqFirst, IfTest, BinLeft, HeldRight, NotOf, plug, IsAlone}
use Rattle.gos_programs.specs.contexts.Plugged.{AreInner}
use Rattle.gos_programs.specs.contexts.Widening.{AreAmong, Knows}
use Rattle.gos_programs.proofs.contexts.PluggedLemmas.{unfoldings_plugged, moves_plugged}
use Rattle.gos_programs.proofs.contexts.BackwardLemmas.{waits_within}
use Rattle.gos_programs.proofs.contexts.WideningLemmas.{moves_widen, waits_widely}

-- nothing stands around a term, or a context alone
abbrev pub IsFrame : (Term → Term) → Type 0
IsFrame f = ((m : Term) → f m ≡ m) ⊎ ((c : Context) × IsAlone c × ((m : Term) → f m ≡ plug c m))

abbrev of_some : Option Session → Type 0
of_some None = Unit {0}
of_some (Some e) = IsFrame e.frame

pub frame_is : (f : Form) (p : Phase) (n : ℕ) (e : Session) → session_of f p n ≡ Some e → IsFrame e.frame
frame_is f p n e h = subst of_some h (each f p n)
  where
    each : (f : Form) (p : Phase) (n : ℕ) → of_some (session_of f p n)
    each (Sequence t a b) First n = inr (SeqFirst b, tt, λ m. refl)
    each (Sequence t a b) Second n = inl (λ m. refl)
    each (Choice t a b c) Test n = inr (IfTest b c, tt, λ m. refl)
    each (Choice t a b c) Branch n = inl (λ m. refl)
    each (Loop a b) Test n = inr (IfTest (terms.Seq b (terms.While a b)) terms.Skip, tt, λ m. refl)
    each (Loop a b) Body n = inr (SeqFirst (terms.While a b), tt, λ m. refl)
    each (Binary op w a b) Left n = inr (BinLeft op b, tt, λ m. refl)
    each (Binary op w a b) Right n = inr (HeldRight n op, tt, λ m. refl)
    each (Complement w a) Waiting n = inr (NotOf, tt, λ m. refl)
    each f p n = tt

-- moves of the child
pub framed : (p q : Program) (f : Term → Term) (acts : List Act) (m t : Term) (s u : Store)
    → IsFrame f → AreAmong p.imports q.imports → AreInner acts → Moves p acts (Running m s) (Running t u)
    → Moves q acts (Running (f m) s) (Running (f t) u)
framed p q f acts m t s u (inl same) among inner h =
    subst (λ (x : Term). Moves q acts (Running x s) (Running (f t) u)) (sym (same m))
    (subst (λ (x : Term). Moves q acts (Running m s) (Running x u)) (sym (same t)) (moves_widen p q acts m t s u among inner h))
framed p q f acts m t s u (inr (c, alone, same)) among inner h =
    subst (λ (x : Term). Moves q acts (Running x s) (Running (f t) u)) (sym (same m))
    (subst (λ (x : Term). Moves q acts (Running (plug c m) s) (Running x u)) (sym (same t))
    (moves_plugged q q acts c s u m t refl inner (moves_widen p q acts m t s u among inner h)))

-- where the child can only wait
pub framed_waits : (p q : Program) (f : Term → Term) (m : Term) (s : Store)
    → IsFrame f → AreAmong p.imports q.imports → Knows p.imports m → Stalled p (Running m s) → Stalled q (Running (f m) s)
framed_waits p q f m s (inl same) among knows h =
    subst (λ (x : Term). Stalled q (Running x s)) (sym (same m)) (waits_widely p q m s among knows h)
framed_waits p q f m s (inr (c, alone, same)) among knows h =
    subst (λ (x : Term). Stalled q (Running x s)) (sym (same m)) (waits_within q q c s m refl alone (waits_widely p q m s among knows h))

-- unfoldings of the child
pub framed_unfolds : (f : Term → Term) (n : ℕ) (m t : Term) → IsFrame f → Unfoldings n m t → Unfoldings n (f m) (f t)
framed_unfolds f n m t (inl same) h =
    subst (λ (x : Term). Unfoldings n x (f t)) (sym (same m)) (subst (λ (x : Term). Unfoldings n m x) (sym (same t)) h)
framed_unfolds f n m t (inr (c, alone, same)) h =
    subst (λ (x : Term). Unfoldings n x (f t)) (sym (same m))
    (subst (λ (x : Term). Unfoldings n (plug c m) x) (sym (same t)) (unfoldings_plugged c n m t h))
