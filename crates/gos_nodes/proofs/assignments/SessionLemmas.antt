-- A stage's session: how it begins, what it does in its frame, and how it ends. As in gos_nodes.
use Rattle.std.specs.Prelude.{◌≡◌, ◌≢◌, ◌⊎◌, ℕ, zero, suc, List, [], ◌∷◌, ◌++◌}
use Rattle.std.proofs.Common.{arith, refl, sym, subst, inl, inr, ◌∙◌}
use Rattle.gos_types.specs.Types.{Com, Exp, IsDone}
use Rattle.gos_model.specs.Terms.{Term, Lit, Assign}
use Rattle.gos_model.specs.Typing.{Imported, Typed}
use Rattle.gos_model.specs.Stores.{Store}
use Rattle.gos_model.specs.Labels.{given}
use Rattle.gos_model.specs.Moves.{Program, Config, Idle, Running, Act, Showing, Moves, labels}
use Rattle.gos_plan.specs.Plans.{PartEnd, ImportEnd, ResultEnd, Plan}
use Rattle.gos_plan.specs.Tokens.{Tokens, Element, Fire, Out, In, Does}
use Rattle.gos_realises.specs.realises.Matched.{shows, Agrees, IsMatched, program_of, RealisesInTurn}
use Rattle.gos_realises.specs.realises.Realises.{NamesDiffer}
use Rattle.gos_nodes.specs.sessions.Sessions.{Session, session}
use Rattle.gos_programs.specs.contexts.Contexts.{AssignRight}
use Rattle.gos_programs.specs.contexts.Widening.{AreAmong}
use Rattle.gos_programs.proofs.results.ResultLemmas.{moves_then}
use Rattle.gos_nodes.specs.windows.Regions.{whole_element}
use Rattle.gos_nodes.specs.windows.Nodes.{Stage}
use Rattle.gos_nodes.specs.windows.Windows.{seen, Begins, PassesPort}
use Rattle.gos_programs.proofs.contexts.SilentLemmas.{silent_inner, inner_stays, asked_first}
use Rattle.gos_nodes.proofs.nodes.ChildLemmas.{child, moves_at, stirred, Went, Ended, child_ends}
use Rattle.gos_nodes.proofs.nodes.FrameLemmas.{IsFrame, framed}
use Rattle.gos_nodes.proofs.nodes.PortLemmas.{request_shown, answer_shown, no_other_out, among}
use Rattle.gos_nodes.specs.assignments.Writes.{IsWriteStage}
use Rattle.gos_nodes.specs.windows.OneSession.{Stays}
use Rattle.gos_nodes.specs.assignments.Realised.{session_shows, IsSessionMatched, SessionIsRealised}

-- the two sessions of an assignment: N in its frame, and the write of the number k
abbrev pub number_session : ℕ → Term → Term → Session
number_session w m n = session 0 n (Exp w) (λ x. Assign m x)

abbrev pub write_session : ℕ → Term → ℕ → Session
write_session w m k = session 1 (Assign m (Lit k w)) Com (λ x. x)

abbrev pub IsSession : ℕ → Term → Term → Session → Type 0
IsSession w m n e = (number_session w m n ≡ e) ⊎ ((k : ℕ) × (write_session w m k ≡ e))

pub frame_is : (w : ℕ) (m n : Term) (e : Session) → IsSession w m n e → IsFrame e.frame
frame_is w m n e (inl is) = subst (λ (x : Session). IsFrame x.frame) is (inr (AssignRight m, tt, λ x. refl))
frame_is w m n e (inr (k, is)) = subst (λ (x : Session). IsFrame x.frame) is (inl (λ x. refl))

-- Within a session of stage g, of which ys is left: what the child ran to, and that the rest of its list is matched from there.
pub record Inner (w : ℕ) (m n : Term) (g : Stage) (ys : List Element) (s : Tokens) (e : Session) (b : Term) (st : Store) : Type 0 where
  pub at : IsSession w m n e
  pub asked : e.asked_at ≡ g.asked_at
  pub typed : Typed g.plan.imports [] e.term e.ty
  pub acts : List Act
  pub ran : Moves (child g e) acts Idle (Running b st)
  pub matched : IsSessionMatched g.plan (child g e) ys (seen g s) (Running b st)

-- where a list is matched, the state agrees with the configuration
pub agrees_here : (p : Plan) (g : Program) (xs : List Element) (s : Tokens) (c : Config) → IsSessionMatched p g xs s c → Agrees p g s c
agrees_here p g [] s c h = h
agrees_here p g (x ∷ xs) s c h = h.0

-- the imports of a stage are among those of the whole
pub stage_among : (r : Plan) (d wide : ℕ) (g : Stage) → NamesDiffer r.imports → IsWriteStage r d wide g → AreAmong g.plan.imports r.imports
stage_among r d wide g differ is = among g.plan.imports r.imports differ is.imports

-- to an equal configuration
matched_at : (p : Plan) (q : Program) (xs : List Element) (s : Tokens) (c d : Config) → c ≡ d → IsSessionMatched p q xs s c → IsSessionMatched p q xs s d
matched_at p q xs s c d e h = subst (λ (x : Config). IsSessionMatched p q xs s x) e h

-- what a plan of a command or an expression realises, it does in a session of its one handshake
shown : (p : Plan) (x : Element) (s t : Tokens) → IsDone p.outcome → Does p x s t → shows p x ≡ session_shows p x
shown p (Fire i t) s u done does = refl
shown p (In e v) s u done does = refl
shown p (Out (PartEnd i h) v) s u done does = refl
shown p (Out (ImportEnd i h) v) s u done does = refl
shown p (Out (ResultEnd zero) v) s u done does = answer_shown p v done
shown p (Out (ResultEnd (suc h)) v) s u done does = absurd (no_other_out p h v s u done does)

as_session : (p : Plan) (g : Program) → IsDone p.outcome → (xs : List Element) (s : Tokens) (c : Config) → IsMatched p g xs s c → IsSessionMatched p g xs s c
as_session p g done [] s c h = h
as_session p g done (x ∷ xs) s c (agrees, next) = (
  agrees,
  λ t does.
      let (acts, d, moves, shows_so, goes, rest) = next t does in
      (acts, d, moves, shows_so ∙ shown p x s t done does, goes, as_session p g done xs t d rest),
)

pub done_session : (p : Plan) (n : Term) → IsDone p.outcome → RealisesInTurn p n → SessionIsRealised p 0 0 n
done_session p n done realises s u t ys tidy idle well does runs turns =
    let list : List Element = In (ResultEnd 0) 0 ∷ ys in
    let (acts, c, moves, shows_so, goes, rest) = (realises s t list idle (u, does, runs) turns).0.1 u does in
    let after = asked_first (program_of p n) acts c (given 0 0) moves (shows_so ∙ request_shown p 0 done) in
    (after.0, c, after.2, after.1, (λ same. absurd (omega (arith, same))), as_session p (program_of p n) done ys u c rest)

-- what is known of a session that begins
pub record Opened (w : ℕ) (m n : Term) (g : Stage) (ys : List Element) (s : Tokens) (e : Session) : Type 0 where
  pub term : Term
  pub store : Store
  pub acts : List Act
  pub silent : labels acts ≡ []
  pub some : g.asked_at ≡ 1 → acts ≢ []
  pub moves : Moves (child g e) acts (Running e.term []) (Running term store)
  pub inner : Inner w m n g ys s e term store

pub opens : (w : ℕ) (m n : Term) (g : Stage) (k : ℕ) (ys : List Element) (s : Tokens) (e : Session)
    → IsSession w m n e → e.asked_at ≡ g.asked_at → Typed g.plan.imports [] e.term e.ty → SessionIsRealised g.plan g.asked_at k e.term → Begins g.asked_at g k ys s
    → Opened w m n g ys s e
opens w m n g k ys s e at asked typed realised begins =
    let first = realised begins.before (seen g s) begins.after ys begins.tidy begins.idle begins.well begins.asked begins.runs begins.turns in
    let stays = inner_stays (child g e) first.0 e.term [] first.1 (silent_inner first.0 first.3) first.2 in
    let moves : Moves (child g e) first.0 (Running e.term []) (Running stays.0 stays.1) =
    moves_at (child g e) first.0 (Running e.term []) first.1 (Running stays.0 stays.1) stays.2 first.2 in
    record {
      term = stays.0;
      store = stays.1;
      acts = first.0;
      silent = first.3;
      some = first.4;
      moves = moves;
      inner =
          record {
            at = at;
            asked = asked;
            typed = typed;
            acts = Showing (given 0 0) ∷ first.0;
            ran = (Running e.term [], (refl, refl), moves);
            matched = matched_at g.plan (child g e) ys (seen g s) first.1 (Running stays.0 stays.1) stays.2 first.5;
          };
    }

-- an element that stays in a stage shows the same in a session
pub stay_shows : (p : Plan) (y : Element) → Stays p y → session_shows p y ≡ shows p y
stay_shows p (Fire i t) stays = refl
stay_shows p (Out (PartEnd i h) v) stays = refl
stay_shows p (Out (ImportEnd i h) v) stays = refl
stay_shows p (Out (ResultEnd h) v) stays = absurd stays
stay_shows p (In e v) stays = refl

-- an element of a stage, in the whole
pub goes_within : (r : Plan) (d w : ℕ) (m n : Term) (q : Program) (g : Stage) (y : Element) (ys : List Element) (s t : Tokens) (e : Session) (b : Term) (st : Store)
    → NamesDiffer r.imports → q.imports ≡ r.imports → IsWriteStage r d w g → Does g.plan y (seen g s) (seen g t) → Stays g.plan y → PassesPort r g y
    → Does r (whole_element g.cut y) s t → Inner w m n g (y ∷ ys) s e b st → Went (Inner w m n) r q g y ys s t e b st
goes_within r d w m n q g y ys s t e b st differ same is does stands port whole inner =
    let p = child g e in
    let next = inner.matched.1 (seen g t) does in
    let stir = stirred r g is.region y s (seen g t) t next.0 does stands port whole (next.3 ∙ stay_shows g.plan y stands) next.4 in
    let stays = inner_stays p next.0 b st next.1 stir.inner next.2 in
    let moves : Moves p next.0 (Running b st) (Running stays.0 stays.1) =
    moves_at p next.0 (Running b st) next.1 (Running stays.0 stays.1) stays.2 next.2 in
    let less : AreAmong g.plan.imports q.imports = subst (λ (i : List Imported). AreAmong g.plan.imports i) (sym same) (stage_among r d w g differ is) in
    record {
      term = stays.0;
      store = stays.1;
      acts = next.0;
      moves = framed p q e.frame next.0 b stays.0 st stays.1 (frame_is w m n e inner.at) less stir.inner moves;
      shown = stir.shown;
      goes = stir.goes;
      inner =
          record {
            at = inner.at;
            asked = inner.asked;
            typed = inner.typed;
            acts = inner.acts ++ next.0;
            ran = moves_then p inner.acts next.0 Idle (Running b st) (Running stays.0 stays.1) inner.ran moves;
            matched = matched_at g.plan p ys (seen g t) next.1 (Running stays.0 stays.1) stays.2 next.5;
          };
    }

-- how it ends
pub ends : (r : Plan) (d w : ℕ) (m n : Term) (q : Program) (g : Stage) (s u : Tokens) (e : Session) (b : Term) (st : Store) (v : ℕ)
    → NamesDiffer r.imports → q.imports ≡ r.imports → IsWriteStage r d w g
    → Does g.plan (Out (ResultEnd g.asked_at) v) (seen g s) u → Inner w m n g (Out (ResultEnd g.asked_at) v ∷ []) s e b st → Ended q e b st v
ends r d w m n q g s u e b st v differ same is does inner =
    let next = inner.matched.1 u does in
    let less : AreAmong g.plan.imports q.imports = subst (λ (i : List Imported). AreAmong g.plan.imports i) (sym same) (stage_among r d w g differ is) in
    child_ends q g e inner.acts b st v next.0 next.1 (frame_is w m n e inner.at) less inner.typed inner.ran next.2 next.3
