-- A session's child: how it begins, what it does in its frame, and how it ends.
use Rattle.std.specs.Prelude.{◌≡◌, ℕ, List, [], ◌∷◌, ◌++◌, Some}
use Rattle.std.proofs.Common.{sym, ap, subst, inl, inr, ◌∙◌}
use Rattle.gos_types.specs.Types.{Type'}
use Rattle.gos_types.specs.Events.{Request, Answer}
use Rattle.gos_model.specs.Terms.{Term}
use Rattle.gos_model.specs.Typing.{Imported, Typed}
use Rattle.gos_model.specs.Stores.{Store}
use Rattle.gos_model.specs.Steps.{IsValue}
use Rattle.gos_model.specs.Labels.{given}
use Rattle.gos_model.specs.Moves.{Program, Config, Idle, Running, Act, Unfoldings, Moves, labels}
use Rattle.gos_plan.specs.Firing.{State}
use Rattle.gos_plan.specs.Plans.{PartEnd, ImportEnd, ResultEnd, Plan}
use Rattle.gos_plan.specs.Tokens.{Tokens, Element, Fire, Out, In, Does, Runs}
use Rattle.gos_realises.specs.realises.Matched.{label_at, shows, GoesOn, IsMatched, program_of, RealisesInTurn}
use Rattle.gos_realises.specs.realises.Realises.{NamesDiffer}
use Rattle.gos_nodes.specs.sessions.Sessions.{Form, Session, session_of, value_of}
use Rattle.gos_programs.specs.contexts.Plugged.{AreInner}
use Rattle.gos_programs.specs.contexts.Scopes.{KeepsScopes}
use Rattle.gos_programs.specs.contexts.Widening.{AreAmong}
use Rattle.gos_programs.proofs.contexts.ScopeLemmas.{runs_keep_scopes, unfoldings_keep, none_left}
use Rattle.gos_programs.proofs.contexts.ShutLemmas.{sources_are_shut}
use Rattle.gos_programs.specs.results.Results.{IsResult}
use Rattle.gos_programs.proofs.results.ResultLemmas.{moves_then, answers_are_typed}
use Rattle.gos_nodes.specs.windows.Regions.{IsRegion, whole_element}
use Rattle.gos_nodes.specs.windows.Nodes.{Stage, IsStage}
use Rattle.gos_nodes.specs.windows.OneSession.{Stays}
use Rattle.gos_nodes.specs.windows.Windows.{seen, Begins, PassesPort}
use Rattle.gos_programs.proofs.contexts.SilentLemmas.{silent_inner, one_inner, inner_stays, asked_first, answer_last}
use Rattle.gos_nodes.proofs.nodes.FrameLemmas.{IsFrame, frame_is, framed, framed_unfolds}
use Rattle.gos_nodes.proofs.nodes.RegionLemmas.{outside_stays, fires_goes_on, out_shown, in_shown}
use Rattle.gos_realises.proofs.realises.InputLemmas.{in_there}
use Rattle.gos_nodes.proofs.nodes.PortLemmas.{request_shown, answer_shown, out_held, among, import_port}

-- what is known within a session: of its stage, the rest of its list, the tokens, and what the child ran to
abbrev pub Inside : Type 1
Inside = Stage → List Element → Tokens → Session → Term → Store → Type 0

-- a child's program
abbrev pub child : Stage → Session → Program
child g e = program_of g.plan e.term

-- Within a session of stage g, of which ys is left: what the child ran to, and that the rest of its list is matched from there.
pub record Inner (d : ℕ) (f : Form) (g : Stage) (ys : List Element) (s : Tokens) (e : Session) (m : Term) (st : Store) : Type 0 where
  pub at : session_of f (s.state d).phase (s.state d).number ≡ Some e
  pub asked : e.asked_at ≡ g.asked_at
  pub outcome : g.plan.outcome ≡ e.ty
  pub typed : Typed g.plan.imports [] e.term e.ty
  pub acts : List Act
  pub ran : Moves (child g e) acts Idle (Running m st)
  pub matched : IsMatched g.plan (child g e) ys (seen g s) (Running m st)

-- the imports of a stage are among those of the whole
pub stage_among : (r : Plan) (d : ℕ) (g : Stage) → NamesDiffer r.imports → IsStage r d g → AreAmong g.plan.imports r.imports
stage_among r d g differ is = among g.plan.imports r.imports differ is.imports

-- to an equal configuration
pub moves_at : (q : Program) (acts : List Act) (b c d : Config) → c ≡ d → Moves q acts b c → Moves q acts b d
moves_at q acts b c d e h = subst (λ (x : Config). Moves q acts b x) e h

matched_at : (p : Plan) (q : Program) (xs : List Element) (s : Tokens) (c d : Config) → c ≡ d → IsMatched p q xs s c → IsMatched p q xs s d
matched_at p q xs s c d e h = subst (λ (x : Config). IsMatched p q xs s x) e h

-- what is known of a session that begins
pub record Opened (d : ℕ) (f : Form) (g : Stage) (ys : List Element) (s : Tokens) (e : Session) : Type 0 where
  pub term : Term
  pub store : Store
  pub acts : List Act
  pub silent : labels acts ≡ []
  pub moves : Moves (child g e) acts (Running e.term []) (Running term store)
  pub inner : Inner d f g ys s e term store

pub opens : (r : Plan) (d : ℕ) (f : Form) (g : Stage) (ys : List Element) (s : Tokens) (e : Session)
    → IsStage r d g
    → session_of f (s.state d).phase (s.state d).number ≡ Some e → e.asked_at ≡ g.asked_at → g.plan.outcome ≡ e.ty
    → Typed g.plan.imports [] e.term e.ty → RealisesInTurn g.plan e.term → Begins 0 g 0 ys s → Opened d f g ys s e
opens r d f g ys s e is at asked outcome typed realises begins =
    let p = g.plan in
    let list : List Element = In (ResultEnd 0) 0 ∷ ys in
    let runs : Runs p list begins.before begins.after = (seen g s, begins.asked, begins.runs) in
    let first = (realises begins.before begins.after list begins.idle runs begins.turns).0.1 (seen g s) begins.asked in
    let shown : labels first.0 ≡ given 0 0 ∷ [] = first.3 ∙ request_shown p 0 is.outcome in
    let after = asked_first (child g e) first.0 first.1 (given 0 0) first.2 shown in
    let stays = inner_stays (child g e) after.0 e.term [] first.1 (silent_inner after.0 after.1) after.2 in
    record {
      term = stays.0;
      store = stays.1;
      acts = after.0;
      silent = after.1;
      moves = moves_at (child g e) after.0 (Running e.term []) first.1 (Running stays.0 stays.1) stays.2 after.2;
      inner =
          record {
            at = at;
            asked = asked;
            outcome = outcome;
            typed = typed;
            acts = first.0;
            ran = moves_at (child g e) first.0 Idle first.1 (Running stays.0 stays.1) stays.2 first.2;
            matched = matched_at p (child g e) ys (seen g s) first.1 (Running stays.0 stays.1) stays.2 first.5;
          };
    }

-- of the acts that match an element of a stage: what they are in the whole, and what is left
pub record Stirred (r : Plan) (g : Stage) (y : Element) (s : Tokens) (acts : List Act) : Type 0 where
  pub inner : AreInner acts
  pub shown : labels acts ≡ shows r (whole_element g.cut y)
  pub goes : GoesOn r s (whole_element g.cut y) acts

-- an element that stays in the stage shows in the whole what it shows in the stage, and goes on there where it does here
pub stirred : (r : Plan) (g : Stage) → IsRegion g.cut g.sides r g.plan → (y : Element) (s u t : Tokens) (acts : List Act)
    → Does g.plan y (seen g s) u → Stays g.plan y → PassesPort r g y → Does r (whole_element g.cut y) s t → labels acts ≡ shows g.plan y
    → GoesOn g.plan (seen g s) y acts → Stirred r g y s acts
stirred r g region (Fire i slot) s u t acts does stays port whole shown goes =
    record { inner = silent_inner acts shown; shown = shown; goes = fires_goes_on r g region i slot s u t acts does goes }
stirred r g region (Out (PartEnd i h) v) s u t acts does stays port whole shown goes = absurd does.0
stirred r g region (Out (ImportEnd i h) v) s u t acts does stays port whole shown goes =
    let (k, at, held) = out_held g.plan (ImportEnd i h) v (seen g s) u does in
    record {
      inner = one_inner acts (label_at g.plan (ImportEnd i h) Request v) shown (import_port g.plan i h v Request k at);
      shown = shown ∙ sym (out_shown r g i h v port);
      goes = tt;
    }
stirred r g region (Out (ResultEnd h) v) s u t acts does stays port whole shown goes = absurd stays
stirred r g region (In (PartEnd i h) v) s u t acts does stays port whole shown goes = absurd does.0
stirred r g region (In (ImportEnd i h) v) s u t acts does stays port whole shown goes =
    let (k, at) = in_there g.plan (ImportEnd i h) v (seen g s) u does in
    record {
      inner = one_inner acts (label_at g.plan (ImportEnd i h) Answer v) shown (import_port g.plan i h v Answer k at);
      shown = shown ∙ sym (in_shown r g i h v port);
      goes = tt;
    }
stirred r g region (In (ResultEnd h) v) s u t acts does stays port whole shown goes = absurd stays

-- what an element of a stage is in the whole
pub record Went (Inner : Inside) (r : Plan) (q : Program) (g : Stage) (y : Element) (ys : List Element) (s t : Tokens) (e : Session) (b : Term) (st : Store) : Type 0 where
  pub term : Term
  pub store : Store
  pub acts : List Act
  pub moves : Moves q acts (Running (e.frame b) st) (Running (e.frame term) store)
  pub shown : labels acts ≡ shows r (whole_element g.cut y)
  pub goes : GoesOn r s (whole_element g.cut y) acts
  pub inner : Inner g ys t e term store

pub goes_within : (r : Plan) (d : ℕ) (f : Form) (q : Program) (g : Stage) (y : Element) (ys : List Element) (s t : Tokens) (e : Session) (m : Term) (st : Store)
    → NamesDiffer r.imports → q.imports ≡ r.imports → IsStage r d g
    → Does g.plan y (seen g s) (seen g t) → Stays g.plan y → PassesPort r g y → Does r (whole_element g.cut y) s t → Inner d f g (y ∷ ys) s e m st → Went (Inner d f) r q g y ys s t e m st
goes_within r d f q g y ys s t e m st differ same is does stays port whole inner =
    let p = child g e in
    let next = inner.matched.1 (seen g t) does in
    let stir = stirred r g is.region y s (seen g t) t next.0 does stays port whole next.3 next.4 in
    let stays = inner_stays p next.0 m st next.1 stir.inner next.2 in
    let moves : Moves p next.0 (Running m st) (Running stays.0 stays.1) =
    moves_at p next.0 (Running m st) next.1 (Running stays.0 stays.1) stays.2 next.2 in
    let less : AreAmong g.plan.imports q.imports = subst (λ (i : List Imported). AreAmong g.plan.imports i) (sym same) (stage_among r d g differ is) in
    record {
      term = stays.0;
      store = stays.1;
      acts = next.0;
      moves = framed p q e.frame next.0 m stays.0 st stays.1 (frame_is f (s.state d).phase (s.state d).number e inner.at) less stir.inner moves;
      shown = stir.shown;
      goes = stir.goes;
      inner =
          record {
            at = ap (λ (x : State). session_of f x.phase x.number) (outside_stays r g is.region d is.outside y s (seen g t) t does whole) ∙ inner.at;
            asked = inner.asked;
            outcome = inner.outcome;
            typed = inner.typed;
            acts = inner.acts ++ next.0;
            ran = moves_then p inner.acts next.0 Idle (Running m st) (Running stays.0 stays.1) inner.ran moves;
            matched = matched_at g.plan p ys (seen g t) next.1 (Running stays.0 stays.1) stays.2 next.5;
          };
    }

-- how it ends: silent moves lead to a term that unfolds to the value of the answer, with an empty store
pub record Ended (q : Program) (e : Session) (m : Term) (st : Store) (v : ℕ) : Type 0 where
  pub term : Term
  pub acts : List Act
  pub silent : labels acts ≡ []
  pub moves : Moves q acts (Running (e.frame m) st) (Running term [])
  pub count : ℕ
  pub unfolds : Unfoldings count term (e.frame (value_of e.ty v))

is_value : (t : Type') (m : Term) (k : ℕ) → IsResult t m k → (m ≡ value_of t k) × IsValue m
is_value t m k (inl (command, skip, zero_is)) = (skip ∙ ap (λ x. value_of x k) (sym command), inl skip)
is_value t m k (inr (w, exp, lit, fits)) = (lit ∙ ap (λ x. value_of x k) (sym exp), inr (k, w, lit))

-- An answer of the child, in its frame: of a child that ran from its request.
pub child_ends : (q : Program) (g : Stage) (e : Session) (acts : List Act) (m : Term) (st : Store) (v : ℕ) (more : List Act) (c : Config)
    → IsFrame e.frame → AreAmong g.plan.imports q.imports → Typed g.plan.imports [] e.term e.ty → Moves (child g e) acts Idle (Running m st)
    → Moves (child g e) more (Running m st) c → labels more ≡ given 1 v ∷ [] → Ended q e m st v
child_ends q g e acts m st v more c frame less typed ran goes shown =
    let p = child g e in
    let last = answer_last p more m st c v goes shown in
    let all = moves_then p acts last.0 Idle (Running m st) (Running last.1 last.2) ran last.4 in
    let answer = answers_are_typed p e.ty (acts ++ last.0) last.1 last.2 v typed all last.5 in
    let value = is_value e.ty answer.1 v answer.3 in
    let shut = sources_are_shut g.plan.imports [] e.term e.ty typed in
    let scopes : KeepsScopes answer.1 last.2 =
    unfoldings_keep last.2 answer.0 last.1 answer.1 answer.2 (runs_keep_scopes p (acts ++ last.0) last.1 last.2 shut all) in
    let empty : last.2 ≡ [] = none_left answer.1 last.2 scopes value.1 in
    let moves : Moves q last.0 (Running (e.frame m) st) (Running (e.frame last.1) last.2) =
    framed p q e.frame last.0 m last.1 st last.2 frame less (silent_inner last.0 last.3) last.4 in
    record {
      term = e.frame last.1;
      acts = last.0;
      silent = last.3;
      moves = subst (λ (x : Store). Moves q last.0 (Running (e.frame m) st) (Running (e.frame last.1) x)) empty moves;
      count = answer.0;
      unfolds =
          subst (λ (x : Term). Unfoldings answer.0 (e.frame last.1) (e.frame x)) value.0 (framed_unfolds e.frame answer.0 last.1 answer.1 frame answer.2);
    }

pub ends : (r : Plan) (d : ℕ) (f : Form) (q : Program) (g : Stage) (s u : Tokens) (e : Session) (m : Term) (st : Store) (v : ℕ)
    → NamesDiffer r.imports → q.imports ≡ r.imports → IsStage r d g
    → Does g.plan (Out (ResultEnd 0) v) (seen g s) u → Inner d f g (Out (ResultEnd 0) v ∷ []) s e m st → Ended q e m st v
ends r d f q g s u e m st v differ same is does inner =
    let next = inner.matched.1 u does in
    let less : AreAmong g.plan.imports q.imports = subst (λ (i : List Imported). AreAmong g.plan.imports i) (sym same) (stage_among r d g differ is) in
    child_ends q g e inner.acts m st v next.0 next.1 (frame_is f (s.state d).phase (s.state d).number e inner.at) less inner.typed inner.ran next.2
    (next.3 ∙ answer_shown g.plan v is.outcome)
