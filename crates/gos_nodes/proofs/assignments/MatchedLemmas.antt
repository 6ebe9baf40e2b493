-- The list of a write is matched by its term: what its firings lead to.
use Rattle.std.specs.Prelude.{◌≡◌, ◌≢◌, ℕ, ◌^◌, ◌<◌, Bool, true, false, List, [], ◌∷◌, Some, Contains}
use Rattle.std.proofs.Common.{refl, sym, ap, subst, inl, inr, ◌∙◌}
use Rattle.gos_types.specs.Types.{Com, IsDone}
use Rattle.gos_types.specs.Events.{Request}
use Rattle.gos_model.specs.Terms.{Term, Skip, Lit, Assign}
use Rattle.gos_model.specs.Typing.{Typed}
use Rattle.gos_model.specs.Stores.{Store}
use Rattle.gos_model.specs.Moves.{Program, Config, Running, Act, Unfoldings, Moves}
use Rattle.gos_plan.specs.Kinds as kinds
use Rattle.gos_plan.specs.Kinds.{Part}
use Rattle.gos_plan.specs.Firing.{Req, Ans, Row, put, firing}
use Rattle.gos_plan.specs.Plans.{PartEnd, Plan}
use Rattle.gos_plan.specs.Tokens.{Tokens, Element}
use Rattle.gos_realises.specs.realises.Matched.{Agrees, program_of}
use Rattle.gos_realises.proofs.realises.InputLemmas.{matching_suffices}
use Rattle.gos_nodes.specs.sessions.Sessions.{Session, value_of}
use Rattle.gos_programs.proofs.contexts.WideningLemmas.{sources_known, runs_known}
use Rattle.gos_nodes.specs.windows.Nodes.{Stage}
use Rattle.gos_nodes.specs.windows.Windows.{seen, HoldsOnly, StirsOnly, Begins, Where, LeadsTo, to_session, to_answer}
use Rattle.gos_nodes.proofs.nodes.MatchedLemmas.{one_asked, asks_or_answers, no_asking}
use Rattle.gos_nodes.proofs.nodes.FollowedLemmas.{running_is_not_idle, Led, Follows, matched}
use Rattle.gos_programs.proofs.contexts.SilentLemmas.{unfold_first, silent_inner}
use Rattle.gos_nodes.proofs.nodes.FrameLemmas.{framed, framed_waits}
use Rattle.gos_nodes.proofs.nodes.PortLemmas.{answers_value}
use Rattle.gos_nodes.specs.assignments.Writes.{asked_type, answer_bits, IsWriteStage, IsWrite}
use Rattle.gos_nodes.specs.assignments.Windows.{assign_runner}
use Rattle.gos_nodes.specs.assignments.Realised.{SessionIsRealised, AreWritten, WriteRealises, WriteRealisesByType}
use Rattle.gos_nodes.proofs.assignments.OwnLemmas.{asks_number, asks_write, answers_zero}
use Rattle.gos_nodes.proofs.assignments.AssignLemmas.{quiet_is_within, assign_can, writes_are_staged, write_is_regular}
use Rattle.gos_nodes.proofs.assignments.SessionLemmas.{number_session, write_session, IsSession, frame_is, Inner, agrees_here, stage_among, done_session, Opened, opens, goes_within, ends}
use Rattle.gos_nodes.proofs.nodes.ChildLemmas.{child}

module _
    (r : Plan) (d : ℕ) (wide : ℕ) (gs : List Stage) (node : IsWrite r d wide gs) (m n : Term)
    (real : AreWritten wide m n gs) where
  abbrev whole : Program
  whole = program_of r (Assign m n)

  -- within a session the child is
  within_agrees : (g : Stage) (ys : List Element) (s : Tokens) (e : Session) (b : Term) (st : Store)
      → Contains gs g → StirsOnly d (assign_runner wide) g s → Inner wide m n g ys s e b st → Agrees r whole s (Running (e.frame b) st)
  within_agrees g ys s e b st has only inner = (
    λ q.
        framed_waits (child g e) whole e.frame b st (frame_is wide m n e inner.at) (stage_among r d wide g node.base.names (node.base.stages g has))
        (runs_known (child g e) inner.acts b st (sources_known g.plan.imports [] e.term e.ty inner.typed) inner.ran)
        ((agrees_here g.plan (child g e) ys (seen g s) (Running b st) inner.matched).0 (quiet_is_within r d wide gs g s node has only q)),
    λ x. absurd (running_is_not_idle (e.frame b) st x),
  )

  -- a session that begins, in the whole
  record Entered (g : Stage) (ys : List Element) (s : Tokens) (e : Session) : Type 0 where
    o : Opened wide m n g ys s e
    moves : Moves whole o.acts (Running (e.frame e.term) []) (Running (e.frame o.term) o.store)

  enters : (g : Stage) (k : ℕ) (ys : List Element) (s : Tokens) (e : Session) → Contains gs g → IsSession wide m n e → e.asked_at ≡ g.asked_at
      → Typed g.plan.imports [] e.term e.ty → SessionIsRealised g.plan g.asked_at k e.term → Begins g.asked_at g k ys s → Entered g ys s e
  enters g k ys s e has at asked typed realised start =
      let opened = opens wide m n g k ys s e at asked typed realised start in
      record {
        o = opened;
        moves =
            framed (child g e) whole e.frame opened.acts e.term opened.term [] opened.store (frame_is wide m n e at)
            (stage_among r d wide g node.base.names (node.base.stages g has)) (silent_inner opened.acts opened.silent) opened.moves;
      }

  -- N is asked
  of_number : (g : Stage) (k : ℕ) (ys : List Element) (s : Tokens) → Contains gs g → 0 ≡ g.asked_at → 0 ≡ k → Begins g.asked_at g k ys s → Entered g ys s (number_session wide m n)
  of_number g k ys s has at none start =
      let (typed, realises) = real.number g has (sym at) in
      let there : IsWriteStage r d wide g = node.base.stages g has in
      let outcome = there.outcome ∙ ap (λ (h : ℕ). asked_type h wide) (sym at) in
      let realised : SessionIsRealised g.plan 0 0 n =
      done_session g.plan n (subst IsDone (sym outcome) tt) realises in
      enters g k ys s (number_session wide m n) has (inl refl) at typed
      (subst (λ (h : ℕ). SessionIsRealised g.plan h k n) at (subst (λ (x : ℕ). SessionIsRealised g.plan 0 x n) none realised)) start

  -- M is written
  of_write : (g : Stage) (v k : ℕ) (ys : List Element) (s : Tokens) → Contains gs g → 1 ≡ g.asked_at → v ≡ k → v < 2 ^ wide → Begins g.asked_at g k ys s → Entered g ys s (write_session wide m v)
  of_write g v k ys s has at same fits start =
      let (typed, realised) = real.variable g has (sym at) v fits in
      enters g k ys s (write_session wide m v) has (inr (v, refl)) at typed
      (subst (λ (h : ℕ). SessionIsRealised g.plan h k (Assign m (Lit v wide))) at
      (subst (λ (x : ℕ). SessionIsRealised g.plan 1 x (Assign m (Lit v wide))) same realised)) start

  abbrev Leads : Row → ℕ → Where → Tokens → Term → Bool → Type 0
  Leads row v w t b answered = Led (Inner wide m n) whole (Assign m n) (λ v. Skip) (row.puts v) w t b answered

  -- the Assign is run
  begun : (s t : Tokens) (row : Row) (w : Where)
      → HoldsOnly r (PartEnd d 2) Request 0 s → firing (kinds.Assign wide) (s.state d) (Req 2) ≡ Some row
      → LeadsTo r d (assign_runner wide) gs row 0 t w → Leads row 0 w t (Assign m n) false
  begun s t row w here fires (to_session g k ys has low only start puts) =
      let same = one_asked 0 g.asked_at 0 k (sym (asks_number wide (s.state d) row (here.states d) fires) ∙ puts) in
      let entered = of_number g k ys t has same.0 same.1 start in
      let o = entered.o in
      record {
        acts = o.acts;
        to = Running (Assign m o.term) o.store;
        moves = entered.moves;
        silent = o.silent;
        some = λ asks took. absurd (cc took);
        stands = (number_session wide m n, o.term, o.store, o.inner, refl);
      }
  begun s t row w here fires (to_answer k holding puts) =
      absurd (asks_or_answers 0 2 0 k (sym (asks_number wide (s.state d) row (here.states d) fires) ∙ puts))

  early : (j : ℕ) (b base : Term) (acts : List Act) (c : Config) → Unfoldings j b base → acts ≢ []
      → Moves whole acts (Running base []) c → Moves whole acts (Running b []) c
  early j b base [] c us some h = absurd (some refl)
  early j b base (a ∷ acts) c us some h = unfold_first whole a acts j b base [] c us h

  -- with the number
  to_write : (v : ℕ) (row : Row) (t : Tokens) (w : Where) (j : ℕ) (b : Term) → v < 2 ^ wide → row.puts v ≡ put (Req 1) v ∷ []
      → Unfoldings j b (Assign m (Lit v wide)) → LeadsTo r d (assign_runner wide) gs row v t w → Leads row v w t b true
  to_write v row t w j b fits puts us (to_session g k ys has low only start asks) =
      let same = one_asked 1 g.asked_at v k (sym puts ∙ asks) in
      let entered = of_write g v k ys t has same.0 same.1 fits start in
      let o = entered.o in
      record {
        acts = o.acts;
        to = Running o.term o.store;
        moves = early j b (Assign m (Lit v wide)) o.acts (Running o.term o.store) us (o.some (sym same.0)) entered.moves;
        silent = o.silent;
        some = λ asking took. o.some (sym same.0);
        stands = (write_session wide m v, o.term, o.store, o.inner, refl);
      }
  to_write v row t w j b fits puts us (to_answer k holding answers) = absurd (asks_or_answers 1 2 v k (sym puts ∙ answers))

  -- the write is done
  to_end : (v : ℕ) (row : Row) (t : Tokens) (w : Where) (j : ℕ) (b : Term) → row.puts v ≡ put (Ans 2) 0 ∷ []
      → Unfoldings j b Skip → LeadsTo r d (assign_runner wide) gs row v t w → Leads row v w t b true
  to_end v row t w j b puts us (to_session g k ys has low only start asks) = absurd (asks_or_answers g.asked_at 2 k 0 (sym asks ∙ puts))
  to_end v row t w j b puts us (to_answer k holding answers) =
      record {
        acts = [];
        to = Running b [];
        moves = refl;
        silent = refl;
        some = λ asking took. absurd (no_asking (row.puts v) 2 0 puts asking);
        stands = (j, b, us, refl);
      }

  leads : (g : Stage) (v : ℕ) (row : Row) (s t : Tokens) (w : Where) (e : Session) (j : ℕ) (b : Term) → StirsOnly d (assign_runner wide) g s
      → v < 2 ^ answer_bits g.asked_at wide → firing (kinds.Assign wide) (s.state d) (Ans g.asked_at) ≡ Some row → IsSession wide m n e → e.asked_at ≡ g.asked_at
      → Unfoldings j b (e.frame (value_of e.ty v)) → LeadsTo r d (assign_runner wide) gs row v t w → Leads row v w t b true
  leads g v row s t w e j b only fits fires (inl is) asked us to =
      let at : g.asked_at ≡ 0 = sym asked ∙ ap (λ (x : Session). x.asked_at) (sym is) in
      let puts =
      asks_write wide (s.state d) v row (only.session ∙ ap (λ (h : ℕ). Some h) at) (subst (λ (h : ℕ). firing (kinds.Assign wide) (s.state d) (Ans h) ≡ Some row) at fires) in
      to_write v row t w j b (subst (λ (h : ℕ). v < 2 ^ answer_bits h wide) at fits) puts
      (subst (λ (x : Session). Unfoldings j b (x.frame (value_of x.ty v))) (sym is) us) to
  leads g v row s t w e j b only fits fires (inr (k, is)) asked us to =
      let at : g.asked_at ≡ 1 = sym asked ∙ ap (λ (x : Session). x.asked_at) (sym is) in
      let puts =
      answers_zero wide (s.state d) v row (only.session ∙ ap (λ (h : ℕ). Some h) at) (subst (λ (h : ℕ). firing (kinds.Assign wide) (s.state d) (Ans h) ≡ Some row) at fires) in
      to_end v row t w j b puts (subst (λ (x : Session). Unfoldings j b (x.frame (value_of x.ty v))) (sym is) us) to

  pub follows : Follows r d (assign_runner wide) gs (Assign m n) (λ v. Skip) (Inner wide m n)
  follows =
      record {
        right = node.base.right;
        literals = node.base.literals;
        done = subst IsDone (sym node.outcome) tt;
        own = node.base.own;
        asked_can = λ s here q. (assign_can r d wide gs s node).0 here q;
        answer_can = λ s v here q. (assign_can r d wide gs s node).1 v here q;
        answers = λ s v fits here. answers_value r Com s v node.outcome tt fits.0 here.held;
        begins = λ s t row w here fires is to. begun s t row w here fires to;
        within = λ g ys s e b st has only inner. within_agrees g ys s e b st has only inner;
        goes_within = λ g y ys s t e b st has does stay port whole_does inner.
            goes_within r d wide m n whole g y ys s t e b st node.base.names refl (node.base.stages g has) does stay port whole_does inner;
        ends = λ g v s u e b st has answer inner. ends r d wide m n whole g s u e b st v node.base.names refl (node.base.stages g has) answer inner;
        leads = λ g v s t row w e b st j x only fits fires inner us is to. leads g v row s t w e j x only fits fires inner.at inner.asked us to;
      }

pub write_realises : WriteRealises
write_realises r d wide gs m n node restful real =
    matching_suffices r (Assign m n) (write_is_regular r d wide gs node restful).0
    (λ s t xs idle runs turns.
    matched r d (assign_runner wide) gs (Assign m n) (λ v. Skip) (Inner wide m n) (follows r d wide gs node m n real) xs s
    (writes_are_staged r d wide gs s t xs node restful idle runs turns) idle)

pub write_realises_by_type : WriteRealisesByType
write_realises_by_type r d wide gs m n node ports restful real typed =
    record {
      suits =
          record {
            right = node.base.right;
            literals = node.base.literals;
            outcome = node.outcome;
            all_ports = ports;
            names = node.base.names;
            typed = typed;
            regular = (write_is_regular r d wide gs node restful).0;
          };
      means = write_realises r d wide gs m n node restful real;
    }
