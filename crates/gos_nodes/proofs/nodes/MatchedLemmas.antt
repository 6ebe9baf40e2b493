-- A node's list is matched by its term: at rest, asked, within a session, and answered.
use Rattle.std.specs.Prelude.{◌≡◌, ◌≢◌, ◌⊎◌, ℕ, ◌^◌, ◌<◌, Bool, true, false, List, [], ◌∷◌, ◌++◌, Some, Contains}
use Rattle.std.proofs.Common.{refl, sym, ap, subst, inl, inr, ◌∙◌}
use Rattle.gos_types.specs.Types.{Type', IsDone}
use Rattle.gos_types.specs.Events.{Request}
use Rattle.gos_model.specs.Terms.{Term}
use Rattle.gos_model.specs.Typing.{Typed}
use Rattle.gos_model.specs.Stores.{Store}
use Rattle.gos_model.specs.Moves.{Program, Config, Running, Act, Unfoldings, Moves}
use Rattle.gos_plan.specs.Firing.{Rest, State, Req, Ans, Token, Row, at, put, firing}
use Rattle.gos_plan.specs.Plans.{PartEnd, ResultEnd, Plan}
use Rattle.gos_plan.specs.Tokens.{Tokens, Element, Out}
use Rattle.gos_realises.specs.realises.Matched.{asks_on, Agrees, program_of, RealisesInTurn}
use Rattle.gos_realises.proofs.realises.InputLemmas.{matching_suffices}
use Rattle.gos_realises.proofs.realises.MatchedLemmas.{matched_agrees}
use Rattle.gos_nodes.specs.sessions.Sessions.{Form, Session, bits, own_part, own_term, own_type, run_shake, value_of, session_of, Computes, LeadsOn}
use Rattle.gos_nodes.proofs.sessions.TableLemmas.{tables_are_right}
use Rattle.gos_programs.proofs.contexts.WideningLemmas.{sources_known, runs_known}
use Rattle.gos_programs.proofs.results.ResultLemmas.{moves_then}
use Rattle.gos_nodes.specs.windows.Nodes.{Stage}
use Rattle.gos_nodes.specs.windows.OpenNodes.{IsOpenNode}
use Rattle.gos_nodes.specs.windows.Windows.{form_runner, seen, HoldsOnly, StirsOnly, Begins, Where, Within, Answered, LeadsTo, to_session, to_answer}
use Rattle.gos_nodes.proofs.windows.WholeLemmas.{zero_only}
use Rattle.gos_nodes.proofs.windows.FormLemmas.{quiet_is_within, own_part_can, lists_are_staged, open_node_is_regular}
use Rattle.gos_nodes.specs.nodes.Realised.{AreRealised, NodeIsMatched, NodeRealises}
use Rattle.gos_programs.proofs.contexts.SilentLemmas.{unfold_first, silent_inner}
use Rattle.gos_nodes.proofs.nodes.FrameLemmas.{frame_is, framed, framed_waits}
use Rattle.gos_nodes.proofs.nodes.PortLemmas.{answers_value}
use Rattle.gos_nodes.proofs.nodes.FollowedLemmas.{running_is_not_idle, both_silent, Led, Follows, matched}
use Rattle.gos_nodes.proofs.nodes.ChildLemmas.{child, Inner, stage_among, opens, goes_within, ends}

-- the tokens that the own part puts
pub first_token : (t u : Token) → t ∷ [] ≡ u ∷ [] → t ≡ u
first_token t u e = cc e

pub one_asked : (a b x y : ℕ) → put (Req a) x ∷ [] ≡ put (Req b) y ∷ [] → (a ≡ b) × (x ≡ y)
one_asked a b x y e =
    let tokens = first_token (put (Req a) x) (put (Req b) y) e in
    let slots : Req a ≡ Req b = ap (λ t. t.slot) tokens in (cc slots, ap (λ t. t.value) tokens)

pub asks_or_answers : (a b x j : ℕ) → put (Req a) x ∷ [] ≡ put (Ans b) j ∷ [] → ⊥
asks_or_answers a b x j e = let slots : Req a ≡ Ans b = ap (λ t. t.slot) (first_token (put (Req a) x) (put (Ans b) j) e) in cc slots

pub no_asking : (ts : List Token) (a j : ℕ) → ts ≡ put (Ans a) j ∷ [] → asks_on ts ≡ true → ⊥
no_asking ts a j e asks = let clash : asks_on (put (Ans a) j ∷ []) ≡ true = subst (λ (x : List Token). asks_on x ≡ true) e asks in cc clash

one_answer : (a j k : ℕ) → put (Ans a) j ∷ [] ≡ put (Ans a) k ∷ [] → j ≡ k
one_answer a j k e = ap (λ t. t.value) (first_token (put (Ans a) j) (put (Ans a) k) e)

still_some : (xs ys : List Act) → xs ≢ [] → xs ++ ys ≢ []
still_some [] ys some e = some refl
still_some (x ∷ xs) ys some e = cc e

module _
    (r : Plan) (d : ℕ) (f : Form) (gs : List Stage) (node : IsOpenNode r d f gs) (real : AreRealised f gs) where
  abbrev whole : Program
  whole = program_of r (own_term f)

  -- within a session the child is
  within_agrees : (g : Stage) (ys : List Element) (s : Tokens) (e : Session) (m : Term) (st : Store)
      → Contains gs g → StirsOnly d (form_runner f) g s → Inner d f g ys s e m st → Agrees r whole s (Running (e.frame m) st)
  within_agrees g ys s e m st has only inner = (
    λ q.
        framed_waits (child g e) whole e.frame m st (frame_is f (s.state d).phase (s.state d).number e inner.at)
        (stage_among r d g node.names (node.stages g has).stage)
        (runs_known (child g e) inner.acts m st (sources_known g.plan.imports [] e.term e.ty inner.typed) inner.ran)
        ((matched_agrees g.plan (child g e) ys (seen g s) (Running m st) inner.matched).0 (quiet_is_within r d f gs g s node has only q)),
    λ x. absurd (running_is_not_idle (e.frame m) st x),
  )

  -- from a term that unfolds to another one, or is it, where the other one makes a step
  early : (n : ℕ) (m base : Term) (acts : List Act) (c : Config) → Unfoldings n m base → (acts ≢ []) ⊎ (m ≡ base)
      → Moves whole acts (Running base []) c → Moves whole acts (Running m []) c
  early n m base acts c us (inr same) h = subst (λ (x : Term). Moves whole acts (Running x []) c) (sym same) h
  early n m base [] c us (inl some) h = absurd (some refl)
  early n m base (a ∷ acts) c us (inl some) h = unfold_first whole a acts n m base [] c us h

  -- what a firing of the own part leads to
  abbrev Leads : Row → ℕ → Where → Tokens → Term → Bool → Type 0
  Leads row v w t m answered = Led (Inner d f) whole (own_term f) (value_of (own_type f)) (row.puts v) w t m answered

  enters : (row : Row) (v : ℕ) (t : Tokens) (n : ℕ) (m base : Term) (answered : Bool) (g : Stage) (ys : List Element)
      → Unfoldings n m base → (answered ≡ true) ⊎ (m ≡ base) → t.state d ≡ row.next v
      → Contains gs g → Begins 0 g 0 ys t → row.puts v ≡ put (Req g.asked_at) 0 ∷ []
      → (e : Session) (acts : List Act) → session_of f (row.next v).phase (row.next v).number ≡ Some e → row.puts v ≡ put (Req e.asked_at) 0 ∷ []
      → Computes whole acts base (e.frame e.term) → (answered ≡ true → acts ≢ []) → Leads row v (Within g ys) t m answered
  enters row v t n m base answered g ys us from is has start puts e acts at ts (silent, moves) some =
      let asked : e.asked_at ≡ g.asked_at = (one_asked e.asked_at g.asked_at 0 0 (sym ts ∙ puts)).0 in
      let found = real (row.next v).phase (row.next v).number e at in
      let same : found.0 ≡ g = node.one found.0 g found.1 has (found.2 ∙ asked) in
      let outcome : g.plan.outcome ≡ e.ty = subst (λ (x : Stage). x.plan.outcome ≡ e.ty) same found.3 in
      let typed : Typed g.plan.imports [] e.term e.ty = subst (λ (x : Stage). Typed x.plan.imports [] e.term e.ty) same found.4 in
      let realises : RealisesInTurn g.plan e.term = subst (λ (x : Stage). RealisesInTurn x.plan e.term) same found.5 in
      let here : session_of f (t.state d).phase (t.state d).number ≡ Some e = ap (λ (x : State). session_of f x.phase x.number) is ∙ at in
      let o = opens r d f g ys t e (node.stages g has).stage here asked outcome typed realises start in
      let within =
      framed (child g e) whole e.frame o.acts e.term o.term [] o.store (frame_is f (t.state d).phase (t.state d).number e here)
      (stage_among r d g node.names (node.stages g has).stage) (silent_inner o.acts o.silent) o.moves in
      let first = early n m base acts (Running (e.frame e.term) []) us (elim from [ inl took ↦ inl (some took) | inr y ↦ inr y ]) moves in
      record {
        acts = acts ++ o.acts;
        to = Running (e.frame o.term) o.store;
        moves = moves_then whole acts o.acts (Running m []) (Running (e.frame e.term) []) (Running (e.frame o.term) o.store) first within;
        silent = both_silent acts o.acts silent o.silent;
        some = λ asks took. still_some acts o.acts (some took);
        stands = (e, o.term, o.store, o.inner, refl);
      }

  answers : (row : Row) (v : ℕ) (t : Tokens) (n : ℕ) (m base : Term) (answered : Bool) (k : ℕ)
      → Unfoldings n m base → row.puts v ≡ put (Ans (run_shake (own_part f))) k ∷ []
      → (j : ℕ) (acts : List Act) → row.puts v ≡ put (Ans (run_shake (own_part f))) j ∷ [] → Computes whole acts base (value_of (own_type f) j)
      → Leads row v (Answered k) t m answered
  answers row v t n m base answered k us puts j [] ts (silent, moves) =
      let same : j ≡ k = one_answer (run_shake (own_part f)) j k (sym ts ∙ puts) in
      let value : base ≡ value_of (own_type f) k = running_term base (value_of (own_type f) j) moves ∙ ap (value_of (own_type f)) same in
      record {
        acts = [];
        to = Running m [];
        moves = refl;
        silent = refl;
        some = λ asks took. absurd (no_asking (row.puts v) (run_shake (own_part f)) k puts asks);
        stands = (n, m, subst (λ (x : Term). Unfoldings n m x) value us, refl);
      }
    where
      running_term : (a b : Term) → Running a [] ≡ Running b [] → a ≡ b
      running_term a b e = cc e
  answers row v t n m base answered k us puts j (a ∷ acts) ts (silent, moves) =
      let same : j ≡ k = one_answer (run_shake (own_part f)) j k (sym ts ∙ puts) in
      let to : Moves whole (a ∷ acts) (Running base []) (Running (value_of (own_type f) k) []) =
      subst (λ (x : ℕ). Moves whole (a ∷ acts) (Running base []) (Running (value_of (own_type f) x) [])) same moves in
      record {
        acts = a ∷ acts;
        to = Running (value_of (own_type f) k) [];
        moves = unfold_first whole a acts n m base [] (Running (value_of (own_type f) k) []) us to;
        silent = silent;
        some = λ asks took. absurd (no_asking (row.puts v) (run_shake (own_part f)) k puts asks);
        stands = (0, value_of (own_type f) k, refl, refl);
      }

  -- a request without bits
  asks_zero : (g : Stage) (k : ℕ) → k ≡ 0 → (ts : List Token) → ts ≡ put (Req g.asked_at) k ∷ [] → ts ≡ put (Req g.asked_at) 0 ∷ []
  asks_zero g k none ts puts = puts ∙ ap (λ (x : ℕ). put (Req g.asked_at) x ∷ []) none

  leads : (row : Row) (v : ℕ) (t : Tokens) (w : Where) (n : ℕ) (m base : Term) (answered : Bool)
      → Unfoldings n m base → (answered ≡ true) ⊎ (m ≡ base) → t.state d ≡ row.next v
      → LeadsTo r d (form_runner f) gs row v t w → LeadsOn whole f base (row.next v) (row.puts v) answered → Leads row v w t m answered
  leads row v t w n m base answered us from is (to_session g k ys has fits only start puts) (inl (e, acts, at, ts, goes, some)) =
      let none = zero_only k fits in
      enters row v t n m base answered g ys us from is has (subst (λ (x : ℕ). Begins 0 g x ys t) none start) (asks_zero g k none (row.puts v) puts) e acts at ts goes some
  leads row v t w n m base answered us from is (to_session g k ys has fits only start puts) (inr (j, acts, phase, ts, goes)) =
      absurd (asks_or_answers g.asked_at (run_shake (own_part f)) 0 j (sym (asks_zero g k (zero_only k fits) (row.puts v) puts) ∙ ts))
  leads row v t w n m base answered us from is (to_answer k here puts) (inl (e, acts, at, ts, goes, some)) =
      absurd (asks_or_answers e.asked_at (run_shake (own_part f)) 0 k (sym ts ∙ puts))
  leads row v t w n m base answered us from is (to_answer k here puts) (inr (j, acts, phase, ts, goes)) =
      answers row v t n m base answered k us puts j acts ts goes

  -- the own part is asked
  begun : (s t : Tokens) (row : Row) (w : Where)
      → HoldsOnly r (PartEnd d (run_shake (own_part f))) Request 0 s → firing (own_part f) (s.state d) (Req (run_shake (own_part f))) ≡ Some row
      → t.state d ≡ row.next 0 → LeadsTo r d (form_runner f) gs row 0 t w → Leads row 0 w t (own_term f) false
  begun s t row w here fires is to =
      let own_state : s.state d ≡ at Rest (s.state d).number = λ i. at (here.states d i) (s.state d).number in
      let fires_so : firing (own_part f) (at Rest (s.state d).number) (Req (run_shake (own_part f))) ≡ Some row =
      subst (λ (q : State). firing (own_part f) q (Req (run_shake (own_part f))) ≡ Some row) own_state fires in
      leads row 0 t w 0 (own_term f) (own_term f) false refl (inr refl) is to ((tables_are_right whole f).begins (s.state d).number row fires_so)

  -- a child has answered
  gone_on : (g : Stage) (v : ℕ) (s t : Tokens) (row : Row) (w : Where) (e : Session) (b : Term) (st : Store) (n : ℕ) (x : Term)
      → v < 2 ^ bits g.plan.outcome → firing (own_part f) (s.state d) (Ans g.asked_at) ≡ Some row
      → Inner d f g (Out (ResultEnd 0) v ∷ []) s e b st → Unfoldings n x (e.frame (value_of e.ty v)) → t.state d ≡ row.next v
      → LeadsTo r d (form_runner f) gs row v t w → Leads row v w t x true
  gone_on g v s t row w e b st n x fits fires inner us is to =
      let fits_so : v < 2 ^ bits e.ty = subst (λ (y : Type'). v < 2 ^ bits y) inner.outcome fits in
      let fires_so : firing (own_part f) (s.state d) (Ans e.asked_at) ≡ Some row =
      subst (λ (y : ℕ). firing (own_part f) (s.state d) (Ans y) ≡ Some row) (sym inner.asked) fires in
      leads row v t w n x (e.frame (value_of e.ty v)) true us (inl refl) is to
      ((tables_are_right whole f).goes_on (s.state d) e row v inner.at fits_so fires_so)

  pub follows : Follows r d (form_runner f) gs (own_term f) (value_of (own_type f)) (Inner d f)
  follows =
      record {
        right = node.right;
        literals = node.literals;
        done = subst IsDone (sym node.outcome) node.done;
        own = node.own;
        asked_can = λ s here q. (own_part_can r d f gs s node).0 here q;
        answer_can = λ s v here q. (own_part_can r d f gs s node).1 v here q;
        answers = λ s v fits here. answers_value r (own_type f) s v node.outcome node.done fits.0 here.held;
        begins = begun;
        within = λ g ys s e b st has only inner. within_agrees g ys s e b st has only inner;
        goes_within = λ g y ys s t e b st has does stay port whole_does inner.
            goes_within r d f whole g y ys s t e b st node.names refl (node.stages g has).stage does stay port whole_does inner;
        ends = λ g v s u e b st has answer inner. ends r d f whole g s u e b st v node.names refl (node.stages g has).stage answer inner;
        leads = λ g v s t row w e b st n x only fits fires inner us is to. gone_on g v s t row w e b st n x fits fires inner us is to;
      }

pub node_is_matched : NodeIsMatched
node_is_matched r d f gs s t xs node real idle runs turns =
    matched r d (form_runner f) gs (own_term f) (value_of (own_type f)) (Inner d f) (follows r d f gs node real) xs s
    (lists_are_staged r d f gs s t xs node idle runs turns) idle

pub node_realises : NodeRealises
node_realises r d f gs node real =
    matching_suffices r (own_term f) (open_node_is_regular r d f gs node).0
    (λ s t xs idle runs turns. node_is_matched r d f gs s t xs node real idle runs turns)
