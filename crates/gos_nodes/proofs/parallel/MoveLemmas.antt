-- Lists of moves that match one element: how they begin and end by the labels that they show.
use Rattle.std.specs.Prelude.{◌≡◌, ◌≢◌, ℕ, List, [], ◌∷◌, ◌++◌}
use Rattle.std.proofs.Common.{refl, sym, ap, subst, ◌∙◌}
use Rattle.gos_model.specs.Terms.{Term}
use Rattle.gos_model.specs.Stores.{Store}
use Rattle.gos_model.specs.Labels.{Given, Label, taken}
use Rattle.gos_model.specs.Moves.{Program, Config, Idle, Running, Act, Computing, Showing, Acts, Answers, Unfoldings, Moves, labels}
use Rattle.gos_model.proofs.MoveLemmas.{moves_then}
use Rattle.gos_programs.specs.contexts.Plugged.{AreInner}
use Rattle.gos_programs.proofs.contexts.BackwardLemmas.{OneLabel}
use Rattle.gos_programs.proofs.contexts.PluggedLemmas.{acts_of}
use Rattle.gos_programs.proofs.contexts.ReachedLemmas.{reached_lifted}
use Rattle.gos_programs.proofs.contexts.SilentLemmas.{port_is_taken}

-- none of these labels is of the given port
abbrev pub AllTaken : List Label → Type 0
AllTaken [] = Unit {0}
AllTaken (l ∷ ls) = (l.port ≢ Given) × AllTaken ls

pub inner_of : (acts : List Act) → AllTaken (labels acts) → AreInner acts
inner_of [] taken = tt
inner_of (Computing ∷ acts) taken = inner_of acts taken
inner_of (Showing o ∷ acts) taken = (taken.0, inner_of acts taken.1)

pub inner_from : (acts : List Act) (ls : List Label) → labels acts ≡ ls → AllTaken ls → AreInner acts
inner_from acts ls same taken = inner_of acts (subst AllTaken (sym same) taken)

-- from Idle nothing but the request comes
pub idle_silent : (g : Program) (acts : List Act) (c : Config) → Moves g acts Idle c → labels acts ≡ [] → (acts ≡ []) × (c ≡ Idle)
idle_silent g [] c moves none = (refl, sym moves)
idle_silent g (Computing ∷ acts) c (b, (is, to), moves) none = absurd (cc is)
idle_silent g (Showing o ∷ acts) c (b, move, moves) none = absurd (cc none)

-- a program that was idle has come so far
abbrev pub Came : Program → Config → Type 0
Came g c = (acts : List Act) × Moves g acts Idle c

pub came_on : (g : Program) (acts : List Act) (c e : Config) → Came g c → Moves g acts c e → Came g e
came_on g acts c e (before, moves) more = (before ++ acts, moves_then g before acts Idle c e moves more)

pub record Began (g : Program) (c : Config) : Type 0 where
  pub acts : List Act
  pub silent : labels acts ≡ []
  pub moves : Moves g acts (Running g.body []) c

rest_silent : (o l : Label) (ls : List Label) → o ∷ ls ≡ l ∷ [] → ls ≡ []
rest_silent o l ls e = cc e

pub request_begins : (g : Program) (acts : List Act) (c : Config) (l : Label) → Moves g acts Idle c → labels acts ≡ l ∷ [] → Began g c
request_begins g [] c l moves none = absurd (cc none)
request_begins g (Computing ∷ acts) c l (b, (is, to), moves) none = absurd (cc is)
request_begins g (Showing o ∷ acts) c l (b, (is, to), moves) none =
    record { acts = acts; silent = rest_silent o l (labels acts) none; moves = subst (λ (x : Config). Moves g acts x c) to moves }

pub record Ended (g : Program) (t : Term) (s : Store) (o : Label) (c : Config) : Type 0 where
  pub acts : List Act
  pub silent : labels acts ≡ []
  pub term : Term
  pub store : Store
  pub moves : Moves g acts (Running t s) (Running term store)
  pub count : ℕ
  pub last : Term
  pub unfolds : Unfoldings count term last
  pub answers : Answers o last
  pub idle : c ≡ Idle

shown_within : (g : Program) (o : Label) (s v : Store) (t u : Term) → Acts g.imports (Showing o) s v t u → o.port ≡ Given → ⊥
shown_within g o s v t u (reached, same) is =
    reached_lifted (OneLabel g.imports o) (λ a b. ⊥) (λ a b h. port_is_taken g.imports o a b h is) (λ c a b h. h) t u reached

pub answer_ends : (g : Program) (acts : List Act) (t : Term) (s : Store) (c : Config) (o : Label) → o.port ≡ Given → Moves g acts (Running t s) c
    → labels acts ≡ o ∷ [] → Ended g t s o c
answer_ends g [] t s c o is moves none = absurd (cc none)
answer_ends g (Computing ∷ acts) t s c o is (Idle, (n, u, hs, h), moves) none = absurd h
answer_ends g (Computing ∷ acts) t s c o is (Running u v, move, moves) none =
    let e = answer_ends g acts u v c o is moves none in
    record {
      acts = Computing ∷ e.acts;
      silent = e.silent;
      term = e.term;
      store = e.store;
      moves = (Running u v, move, e.moves);
      count = e.count;
      last = e.last;
      unfolds = e.unfolds;
      answers = e.answers;
      idle = e.idle;
    }
answer_ends g (Showing l ∷ acts) t s c o is (Idle, (n, u, hs, h), moves) none =
    let same : l ≡ o = cc none in
    record {
      acts = [];
      silent = refl;
      term = t;
      store = s;
      moves = refl;
      count = n;
      last = u;
      unfolds = hs;
      answers = subst (λ (x : Label). Answers x u) same h;
      idle = (idle_silent g acts c moves (rest_silent l o (labels acts) none)).1;
    }
answer_ends g (Showing l ∷ acts) t s c o is (Running u v, (n, x, hs, h), moves) none =
    let same : l ≡ o = cc none in
    absurd (shown_within g l s v x u (acts_of g.imports (Showing l) s v x u h) (ap (λ (y : Label). y.port) same ∙ is))
