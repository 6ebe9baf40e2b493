-- A list of the whole is matched by moves of `M || N`, where those of its regions are matched by moves of M and of N.
use Rattle.std.specs.Prelude.{◌≡◌, ℕ, List, [], ◌∷◌, ◌++◌, Option, Some, None, All, slice_get}
use Rattle.std.proofs.Common.{refl, sym, ap, subst, inl, inr, ◌∙◌}
use Rattle.gos_types.specs.Types.{Com}
use Rattle.gos_types.specs.Events.{Direction, Request, Answer}
use Rattle.gos_model.specs.Terms.{Term, Skip, Par}
use Rattle.gos_model.specs.Typing.{Typed}
use Rattle.gos_model.specs.Stores.{Store}
use Rattle.gos_model.specs.Labels.{Label, given}
use Rattle.gos_model.specs.Moves.{Program, Config, Idle, Running, Act, Computing, Showing, Unfoldings, Move, Moves, labels, Stalled}
use Rattle.gos_model.proofs.MoveLemmas.{moves_then, unfoldings_then, idle_is_stalled}
use Rattle.gos_plan.specs.Kinds.{Contact}
use Rattle.gos_plan.specs.Firing.{Phase, Rest, Both, LeftOnly, RightOnly, Req, Ans, Row, at, quiet_row}
use Rattle.gos_plan.specs.Plans.{ImportEnd, ResultEnd, Plan}
use Rattle.gos_plan.specs.Tokens.{Tokens, Element, Fire, Out, In, held_at, with_token, firing_of, fired, Passes, Does, Runs, IsIdle, IsQuiet}
use Rattle.gos_plan.specs.Orderly.{Open}
use Rattle.gos_plan.specs.TokenBits.{LiteralFits}
use Rattle.gos_plan.proofs.DecidedLemmas.{one_state}
use Rattle.gos_joining.specs.webs.Cutting.{Cut, cut_tokens}
use Rattle.gos_realises.specs.realises.Regular.{Pass, is_open, InputsKeepTurns, IsRegular}
use Rattle.gos_realises.specs.realises.Matched.{port_if, event_number, shows, GoesOn, Agrees, IsMatched, program_of}
use Rattle.gos_realises.proofs.realises.RingLemmas.{after}
use Rattle.gos_realises.proofs.realises.ToldLemmas.{there_is}
use Rattle.gos_realises.proofs.realises.InputLemmas.{passed, first_turn, later_turns}
use Rattle.gos_realises.proofs.realises.MatchedLemmas.{matched_agrees}
use Rattle.gos_programs.specs.contexts.Contexts.{ParLeft, ParRight}
use Rattle.gos_programs.specs.contexts.Renaming.{renamed, beside}
use Rattle.gos_programs.specs.contexts.Widening.{Knows}
use Rattle.gos_programs.proofs.contexts.PluggedLemmas.{unfoldings_plugged}
use Rattle.gos_programs.proofs.contexts.RenamedLemmas.{unfoldings_renamed, sources_renamed}
use Rattle.gos_programs.proofs.contexts.WideningLemmas.{sources_known, runs_known}
use Rattle.gos_programs.proofs.contexts.TogetherLemmas.{two_renamings, waits_together, both_wait_together}
use Rattle.gos_programs.specs.results.Results.{IsResult}
use Rattle.gos_programs.proofs.results.ResultLemmas.{results_are_typed}
use Rattle.gos_programs.proofs.contexts.EndedLemmas.{right_waits_for_ended, left_waits_for_ended}
use Rattle.gos_programs.proofs.variables.UnfoldedLemmas.{answers_value}
use Rattle.gos_nodes.specs.parallel.Parallel.{IsSide, IsParallel}
use Rattle.gos_nodes.proofs.parallel.GateLemmas.{gate, Same, result_gate, part_gate}
use Rattle.gos_nodes.proofs.parallel.HungLemmas.{Unseen, Sees, Local, fires, puts_out, takes_in, import_real}
use Rattle.gos_nodes.proofs.parallel.DriverLemmas.{begin_row, end_row}
use Rattle.gos_nodes.proofs.windows.MeetLemmas.{IsUnjoined, HasPorts}
use Rattle.gos_nodes.proofs.parallel.StepLemmas.{Step, of_left, of_right, asked, told, starts, left_ends, right_ends, left_ends_all, right_ends_all, lost, IsSeen, hung_left, hung_right, is_run, result_contact}
use Rattle.gos_nodes.proofs.parallel.LinkedLemmas.{Driven, Comes, left_seen, right_seen, when_asking, asked_turn}
use Rattle.gos_nodes.proofs.parallel.RegularLemmas.{Holds, Went, is_seen, lost_left, lost_right, left_of, right_of, comes_of_turn}
use Rattle.gos_nodes.proofs.parallel.WalkLemmas.{one_on, left_list, right_list}
use Rattle.gos_nodes.proofs.parallel.OrderLemmas.{par_firing}
use Rattle.gos_nodes.proofs.parallel.QuietLemmas.{Neat, neat_step, side_quiet, whole_idle}
use Rattle.gos_nodes.proofs.parallel.MoveLemmas.{AllTaken, inner_from, Came, came_on, request_begins, Ended, answer_ends}
use Rattle.gos_nodes.proofs.parallel.LocalLemmas.{local_shows, not_given, local_goes, quiet_goes}
use Rattle.gos_nodes.proofs.parallel.StandLemmas.{One, Two, also_holds, Stand, rests, waits, both_run, left_alone, right_alone, is_done, one_moves, left_moves, right_moves, stand_left, stand_right}
use Rattle.gos_programs.proofs.contexts.SilentLemmas.{silent_inner}
use Rattle.gos_nodes.proofs.nodes.FollowedLemmas.{both_silent}

-- the result of a command
skip_of : (v : Term) → (k : ℕ) × IsResult Com v k → v ≡ Skip
skip_of v (k, inl (same, is, none)) = is
skip_of v (k, inr (w, wrong, is, fits)) = absurd (cc wrong)

module _
    (d : ℕ) (f g : Cut) (r p q : Plan) (is : IsParallel d f g r p q) (literals : All LiteralFits r.parts) (m n : Term)
    (left_typed : Typed p.imports [] m Com) (right_typed : Typed q.imports [] n Com) where
  abbrev on_left : Program
  on_left = program_of p m

  abbrev on_right : Program
  on_right = program_of q n

  abbrev on_both : Program
  on_both = program_of r (Par m n)

  abbrev Stood : Tokens → Config → Config → Config → Type 0
  Stood s left right c = Stand (Par m n) (s.state d).phase (gate s Request) (gate s Answer) left right c

  -- the regions are quiet where the whole is
  left_quiet : (row : Row) (s : Tokens) → IsQuiet r s → firing_of (slice_get r.parts d) (s.state d) (Ans 0) ≡ Some row → IsQuiet p (cut_tokens f p s)
  left_quiet row s quiet by =
      side_quiet d 0 f r p is.left (hung_left d f g r p q is) s quiet (λ v lies. (fired r d row v s, (v, row, lies, by, refl)))

  right_quiet : (row : Row) (s : Tokens) → IsQuiet r s → firing_of (slice_get r.parts d) (s.state d) (Ans 1) ≡ Some row → IsQuiet q (cut_tokens g q s)
  right_quiet row s quiet by =
      side_quiet d 1 g r q is.right (hung_right d f g r p q is) s quiet (λ v lies. (fired r d row v s, (v, row, lies, by, refl)))

  knows_left : (t : Term) (v : Store) → Came on_left (Running t v) → Knows p.imports t
  knows_left t v (acts, moves) = runs_known on_left acts t v (sources_known p.imports [] m Com left_typed) moves

  knows_right : (t : Term) (v : Store) → Came on_right (Running t v) → Knows q.imports t
  knows_right t v (acts, moves) = runs_known on_right acts t v (sources_known q.imports [] n Com right_typed) moves

  -- where nothing is possible the whole can only wait
  whole_waits : (s : Tokens) (left right c : Config) → Stood s left right c → IsQuiet r s → Agrees p on_left (cut_tokens f p s) left
      → Agrees q on_right (cut_tokens g q s) right → Came on_left left → Came on_right right → Stalled on_both c
  whole_waits s left right c (rests rest none empty left_is right_is is_idle) quiet left_agrees right_agrees left_came right_came =
      subst (Stalled on_both) (sym is_idle) (idle_is_stalled on_both)
  whole_waits s left right c (waits rest some empty left_is right_is is_body) quiet left_agrees right_agrees left_came right_came =
      let row = begin_row (s.state d).number in
      absurd (quiet.0 d (Req 2) (fired r d row 0 s)
      (0, row, ap (held_at s Request) (part_gate (is_run d f g r p q is)) ∙ some, par_firing d f g r p q is literals (Req 2) row Rest s rest refl, refl))
  whole_waits s left right c (both_run phase none empty two) quiet left_agrees right_agrees left_came right_came =
      let one = quiet_row (Ans 0) (at RightOnly (s.state d).number) in
      let other = quiet_row (Ans 1) (at LeftOnly (s.state d).number) in
      let left_stalled =
      subst (Stalled on_left) two.left_is
      (left_agrees.0 (left_quiet one s quiet (par_firing d f g r p q is literals (Ans 0) one Both s phase refl))) in
      let right_stalled =
      subst (Stalled on_right) two.right_is
      (right_agrees.0 (right_quiet other s quiet (par_firing d f g r p q is literals (Ans 1) other Both s phase refl))) in
      subst (Stalled on_both) (sym two.whole_is)
      (both_wait_together on_left on_right on_both two.naming two.other_naming (beside two.other_naming two.second_store two.rest)
      (beside two.naming two.first_store two.rest) two.first_store two.second_store two.whole two.first two.second is.left.among
      (knows_left two.first two.first_store (subst (Came on_left) two.left_is left_came)) two.holds left_stalled is.right.among
      (knows_right two.second two.second_store (subst (Came on_right) two.right_is right_came)) (also_holds left right c two) right_stalled)
  whole_waits s left right c (left_alone phase none empty right_is one) quiet left_agrees right_agrees left_came right_came =
      let row = end_row 0 (s.state d).number in
      let stalled =
      subst (Stalled on_left) one.own_is
      (left_agrees.0 (left_quiet row s quiet (par_firing d f g r p q is literals (Ans 0) row LeftOnly s phase refl))) in
      let within =
      waits_together on_left on_both [] one.naming one.rest one.store one.whole one.term is.left.among
      (knows_left one.term one.store (subst (Came on_left) one.own_is left_came)) tt one.holds stalled in
      subst (Stalled on_both) (sym one.whole_is)
      (left_waits_for_ended on_both one.count one.whole (renamed one.naming one.term) one.other Skip within one.has_ended (inl refl))
  whole_waits s left right c (right_alone phase none empty left_is one) quiet left_agrees right_agrees left_came right_came =
      let row = end_row 1 (s.state d).number in
      let stalled =
      subst (Stalled on_right) one.own_is
      (right_agrees.0 (right_quiet row s quiet (par_firing d f g r p q is literals (Ans 1) row RightOnly s phase refl))) in
      let within =
      waits_together on_right on_both [] one.naming one.rest one.store one.whole one.term is.right.among
      (knows_right one.term one.store (subst (Came on_right) one.own_is right_came)) tt one.holds stalled in
      subst (Stalled on_both) (sym one.whole_is)
      (right_waits_for_ended on_both one.count one.whole one.other Skip (renamed one.naming one.term) one.has_ended (inl refl) within)
  whole_waits s left right c (is_done x rest none some left_is right_is is_skip) quiet left_agrees right_agrees left_came right_came =
      let next = with_token r (ResultEnd 0) Answer None s in
      absurd (quiet.1 (ResultEnd 0) 0 next (
        tt,
        subst (λ (o : Option Contact). Passes r (Out (ResultEnd 0) 0) o s next) (sym (result_contact d f g r p q is))
            (ap (held_at s Answer) (result_gate (is_run d f g r p q is)) ∙ some, refl),
      ))

  running_not_idle : (t : Term) (v : Store) (c : Config) → c ≡ Running t v → c ≡ Idle → ⊥
  running_not_idle t v c is_running is_idle = let bad : Running t v ≡ Idle = sym is_running ∙ is_idle in cc bad

  -- and where it is idle so is the plan
  whole_rests : (s : Tokens) (left right c : Config) → Stood s left right c → Neat r s → Agrees p on_left (cut_tokens f p s) left
      → Agrees q on_right (cut_tokens g q s) right → c ≡ Idle → IsIdle r s
  whole_rests s left right c (rests rest none empty left_is right_is is_idle) neat left_agrees right_agrees same =
      whole_idle d f g r p q is s neat (left_agrees.1 left_is) (right_agrees.1 right_is) rest none empty
  whole_rests s left right c (waits rest some empty left_is right_is is_body) neat left_agrees right_agrees same =
      absurd (running_not_idle (Par m n) [] c is_body same)
  whole_rests s left right c (both_run phase none empty two) neat left_agrees right_agrees same = absurd (running_not_idle _ _ c two.whole_is same)
  whole_rests s left right c (left_alone phase none empty right_is one) neat left_agrees right_agrees same =
      absurd (running_not_idle _ _ c one.whole_is same)
  whole_rests s left right c (right_alone phase none empty left_is one) neat left_agrees right_agrees same =
      absurd (running_not_idle _ _ c one.whole_is same)
  whole_rests s left right c (is_done x rest none some left_is right_is is_skip) neat left_agrees right_agrees same =
      absurd (running_not_idle Skip x c is_skip same)

  -- what an element of a region shows
  local_taken : (h : ℕ) (c : Cut) (a : Plan) (side : IsSide d h c r a) (x y : Element) → Local c r a x y → AllTaken (shows a y)
  local_taken h c a side x y (fires i j k number) = tt
  local_taken h c a side x y (puts_out i j k v stands leads slices) =
      let (z, at, low) = import_real a side.cut.right i k stands in (not_given (slice_get a.imports i) z at, tt)
  local_taken h c a side x y (takes_in i j k v stands leads slices) =
      let (z, at, low) = import_real a side.cut.right i k stands in (not_given (slice_get a.imports i) z at, tt)

  stand_same : (s w : Tokens) (left right c : Config) → (w.state d).phase ≡ (s.state d).phase → gate w Request ≡ gate s Request → gate w Answer ≡ gate s Answer
      → Stood s left right c → Stood w left right c
  stand_same s w left right c phase ask ans stood =
      subst (λ (x : Phase). Stand (Par m n) x (gate w Request) (gate w Answer) left right c) (sym phase)
      (subst (λ (x : Option ℕ). Stand (Par m n) (s.state d).phase x (gate w Answer) left right c) (sym ask)
      (subst (λ (x : Option ℕ). Stand (Par m n) (s.state d).phase (gate s Request) x left right c) (sym ans) stood))

  record Follows (x : Element) (s w : Tokens) (c : Config) (ys zs : List Element) : Type 0 where
    acts : List Act
    to : Config
    left_to : Config
    right_to : Config
    moves : Moves on_both acts c to
    shown : labels acts ≡ shows r x
    goes_on : GoesOn r s x acts
    stood : Stood w left_to right_to to
    left_came : Came on_left left_to
    right_came : Came on_right right_to
    left_matched : IsMatched p on_left ys (cut_tokens f p w) left_to
    right_matched : IsMatched q on_right zs (cut_tokens g q w) right_to

  clash_none : (v : ℕ) (o : Option ℕ) → o ≡ None → o ≡ Some v → ⊥
  clash_none v o none some = let bad : None ≡ Some v = sym none ∙ some in cc bad

  clash_phase : (a b ph : Phase) → (a ≡ b → ⊥) → ph ≡ a → ph ≡ b → ⊥
  clash_phase a b ph apart one other = apart (sym one ∙ other)

  both_rest : Both ≡ Rest → ⊥
  both_rest e = cc e

  left_rest : LeftOnly ≡ Rest → ⊥
  left_rest e = cc e

  right_rest : RightOnly ≡ Rest → ⊥
  right_rest e = cc e

  both_left : Both ≡ LeftOnly → ⊥
  both_left e = cc e

  both_right : Both ≡ RightOnly → ⊥
  both_right e = cc e

  left_right : LeftOnly ≡ RightOnly → ⊥
  left_right e = cc e

  -- which of the cases it is
  module _ (ph : Phase) (ask ans : Option ℕ) (left right c : Config) where
    abbrev Here : Type 0
    Here = Stand (Par m n) ph ask ans left right c

    at_rest : Here → ph ≡ Rest → ask ≡ None → ans ≡ None → (left ≡ Idle) × (right ≡ Idle) × (c ≡ Idle)
    at_rest (rests rest none empty left_is right_is is_idle) phase no_ask no_ans = (left_is, right_is, is_idle)
    at_rest (waits rest some empty left_is right_is is_body) phase no_ask no_ans = absurd (clash_none 0 ask no_ask some)
    at_rest (both_run both none empty two) phase no_ask no_ans = absurd (clash_phase Both Rest ph both_rest both phase)
    at_rest (left_alone alone none empty right_is one) phase no_ask no_ans = absurd (clash_phase LeftOnly Rest ph left_rest alone phase)
    at_rest (right_alone alone none empty left_is one) phase no_ask no_ans = absurd (clash_phase RightOnly Rest ph right_rest alone phase)
    at_rest (is_done x rest none some left_is right_is is_skip) phase no_ask no_ans = absurd (clash_none 0 ans no_ans some)

    at_asked : (v : ℕ) → Here → ask ≡ Some v → (left ≡ Idle) × (right ≡ Idle) × (c ≡ Running (Par m n) []) × (ans ≡ None)
    at_asked v (rests rest none empty left_is right_is is_idle) some = absurd (clash_none v ask none some)
    at_asked v (waits rest here empty left_is right_is is_body) some = (left_is, right_is, is_body, empty)
    at_asked v (both_run both none empty two) some = absurd (clash_none v ask none some)
    at_asked v (left_alone alone none empty right_is one) some = absurd (clash_none v ask none some)
    at_asked v (right_alone alone none empty left_is one) some = absurd (clash_none v ask none some)
    at_asked v (is_done x rest none here left_is right_is is_skip) some = absurd (clash_none v ask none some)

    at_done : (v : ℕ) → Here → ans ≡ Some v → (x : Store) × (ph ≡ Rest) × (ask ≡ None) × (0 ≡ v) × (left ≡ Idle) × (right ≡ Idle) × (c ≡ Running Skip x)
    at_done v (rests rest none empty left_is right_is is_idle) some = absurd (clash_none v ans empty some)
    at_done v (waits rest here empty left_is right_is is_body) some = absurd (clash_none v ans empty some)
    at_done v (both_run both none empty two) some = absurd (clash_none v ans empty some)
    at_done v (left_alone alone none empty right_is one) some = absurd (clash_none v ans empty some)
    at_done v (right_alone alone none empty left_is one) some = absurd (clash_none v ans empty some)
    at_done v (is_done x rest none here left_is right_is is_skip) some =
        let same : Some 0 ≡ Some v = sym here ∙ some in (x, rest, none, cc same, left_is, right_is, is_skip)

    at_both : Here → ph ≡ Both → Two left right c × (ask ≡ None) × (ans ≡ None)
    at_both (rests rest none empty left_is right_is is_idle) both = absurd (clash_phase Both Rest ph both_rest both rest)
    at_both (waits rest here empty left_is right_is is_body) both = absurd (clash_phase Both Rest ph both_rest both rest)
    at_both (both_run also none empty two) both = (two, none, empty)
    at_both (left_alone alone none empty right_is one) both = absurd (clash_phase Both LeftOnly ph both_left both alone)
    at_both (right_alone alone none empty left_is one) both = absurd (clash_phase Both RightOnly ph both_right both alone)
    at_both (is_done x rest none here left_is right_is is_skip) both = absurd (clash_phase Both Rest ph both_rest both rest)

    at_left : Here → ph ≡ LeftOnly → One ParLeft left c × (right ≡ Idle) × (ask ≡ None)
    at_left (rests rest none empty left_is right_is is_idle) only = absurd (clash_phase LeftOnly Rest ph left_rest only rest)
    at_left (waits rest here empty left_is right_is is_body) only = absurd (clash_phase LeftOnly Rest ph left_rest only rest)
    at_left (both_run both none empty two) only = absurd (clash_phase Both LeftOnly ph both_left both only)
    at_left (left_alone alone none empty right_is one) only = (one, right_is, none)
    at_left (right_alone alone none empty left_is one) only = absurd (clash_phase LeftOnly RightOnly ph left_right only alone)
    at_left (is_done x rest none here left_is right_is is_skip) only = absurd (clash_phase LeftOnly Rest ph left_rest only rest)

    at_right : Here → ph ≡ RightOnly → One ParRight right c × (left ≡ Idle) × (ask ≡ None)
    at_right (rests rest none empty left_is right_is is_idle) only = absurd (clash_phase RightOnly Rest ph right_rest only rest)
    at_right (waits rest here empty left_is right_is is_body) only = absurd (clash_phase RightOnly Rest ph right_rest only rest)
    at_right (both_run both none empty two) only = absurd (clash_phase Both RightOnly ph both_right both only)
    at_right (left_alone alone none empty right_is one) only = absurd (clash_phase LeftOnly RightOnly ph left_right alone only)
    at_right (right_alone alone none empty left_is one) only = (one, left_is, none)
    at_right (is_done x rest none here left_is right_is is_skip) only = absurd (clash_phase RightOnly Rest ph right_rest only rest)

  -- both sides have ended
  par_ends : (a b : Term) (i j : ℕ) (x : Store) → Unfoldings i a Skip → Unfoldings j b Skip → Move on_both Computing (Running (Par a b) x) (Running Skip x)
  par_ends a b i j x left right =
      let one = unfoldings_plugged (ParLeft b) i a Skip left in
      let other = unfoldings_plugged (ParRight Skip) j b Skip right in
      let (k, both) = unfoldings_then i j (Par a b) (Par Skip b) (Par Skip Skip) one other in (k, Par Skip Skip, both, inl (refl, refl, refl, refl))

  -- what a side ends with
  left_skip : (t : Term) (v : Store) (o : Label) (c : Config) → Came on_left (Running t v) → (e : Ended on_left t v o c) → e.last ≡ Skip
  left_skip t v o c came e =
      let (acts, moves) = came_on on_left e.acts (Running t v) (Running e.term e.store) came e.moves in
      skip_of e.last (results_are_typed on_left Com acts e.term e.last e.store e.count left_typed moves e.unfolds (answers_value o e.last e.answers))

  right_skip : (t : Term) (v : Store) (o : Label) (c : Config) → Came on_right (Running t v) → (e : Ended on_right t v o c) → e.last ≡ Skip
  right_skip t v o c came e =
      let (acts, moves) = came_on on_right e.acts (Running t v) (Running e.term e.store) came e.moves in
      skip_of e.last (results_are_typed on_right Com acts e.term e.last e.store e.count right_typed moves e.unfolds (answers_value o e.last e.answers))

  renamed_ends : (naming : ℕ → ℕ) (count : ℕ) (t u last : Term) → t ≡ u → last ≡ Skip → Unfoldings count t last → Unfoldings count (renamed naming u) Skip
  renamed_ends naming count t u last same skip unfolds =
      subst (λ (x : Term). Unfoldings count (renamed naming x) Skip) same
      (subst (λ (x : Term). Unfoldings count (renamed naming t) (renamed naming x)) skip (unfoldings_renamed naming count t last unfolds))

  running_term : (t u : Term) (v w : Store) → Running t v ≡ Running u w → t ≡ u
  running_term t u v w e = cc e

  module _ (past lefts rights : List Pass) (left right c : Config) (ys zs : List Element) where
    abbrev Result : Element → Tokens → Tokens → Type 0
    Result x s w = Follows x s w c ys zs

    -- by an element of the region that shows the same
    by_left : (x y : Element) (s w : Tokens) → AllTaken (shows p y) → shows p y ≡ shows r x
        → ((acts : List Act) → GoesOn p (cut_tokens f p s) y acts → GoesOn r s x acts) → Does p y (cut_tokens f p s) (cut_tokens f p w)
        → cut_tokens g q w ≡ cut_tokens g q s → Same d s w → Stood s left right c → Came on_left left → Came on_right right
        → IsMatched p on_left (y ∷ ys) (cut_tokens f p s) left → IsMatched q on_right zs (cut_tokens g q s) right → Result x s w
    by_left x y s w taken shows_same goes_too sees unseen same stood left_came right_came (agrees, next) right_matched =
        let (acts, to, moves, shown, goes, rest) = next (cut_tokens f p w) sees in
        let inner = inner_from acts (shows p y) shown taken in
        let now = stand_same s w left right c (ap (λ q. q.phase) same.state) (same.gates Request) (same.gates Answer) stood in
        let (e, made, stood_now) =
        stand_left (Par m n) (w.state d).phase (gate w Request) (gate w Answer) on_left on_both acts left right to c is.left.among inner now moves in
        record {
          acts = acts;
          to = e;
          left_to = to;
          right_to = right;
          moves = made;
          shown = shown ∙ shows_same;
          goes_on = goes_too acts goes;
          stood = stood_now;
          left_came = came_on on_left acts left to left_came moves;
          right_came = right_came;
          left_matched = rest;
          right_matched = subst (λ a. IsMatched q on_right zs a right) (sym unseen) right_matched;
        }

    by_right : (x y : Element) (s w : Tokens) → AllTaken (shows q y) → shows q y ≡ shows r x
        → ((acts : List Act) → GoesOn q (cut_tokens g q s) y acts → GoesOn r s x acts) → Does q y (cut_tokens g q s) (cut_tokens g q w)
        → cut_tokens f p w ≡ cut_tokens f p s → Same d s w → Stood s left right c → Came on_left left → Came on_right right
        → IsMatched p on_left ys (cut_tokens f p s) left → IsMatched q on_right (y ∷ zs) (cut_tokens g q s) right → Result x s w
    by_right x y s w taken shows_same goes_too sees unseen same stood left_came right_came left_matched (agrees, next) =
        let (acts, to, moves, shown, goes, rest) = next (cut_tokens g q w) sees in
        let inner = inner_from acts (shows q y) shown taken in
        let now = stand_same s w left right c (ap (λ q. q.phase) same.state) (same.gates Request) (same.gates Answer) stood in
        let (e, made, stood_now) =
        stand_right (Par m n) (w.state d).phase (gate w Request) (gate w Answer) on_right on_both acts left right to c is.right.among inner now moves in
        record {
          acts = acts;
          to = e;
          left_to = left;
          right_to = to;
          moves = made;
          shown = shown ∙ shows_same;
          goes_on = goes_too acts goes;
          stood = stood_now;
          left_came = left_came;
          right_came = came_on on_right acts right to right_came moves;
          left_matched = subst (λ a. IsMatched p on_left ys a left) (sym unseen) left_matched;
          right_matched = rest;
        }

    follow_left : (x y : Element) (s w : Tokens) → Local f r p x y → Does p y (cut_tokens f p s) (cut_tokens f p w) → cut_tokens g q w ≡ cut_tokens g q s
        → Same d s w → Stood s left right c → Came on_left left → Came on_right right → IsMatched p on_left (y ∷ ys) (cut_tokens f p s) left
        → IsMatched q on_right zs (cut_tokens g q s) right → Result x s w
    follow_left x y s w local =
        by_left x y s w (local_taken 0 f p is.left x y local) (local_shows f r p x y local)
        (λ acts goes. local_goes (hung_left d f g r p q is) x y s acts local goes)

    follow_right : (x y : Element) (s w : Tokens) → Local g r q x y → Does q y (cut_tokens g q s) (cut_tokens g q w) → cut_tokens f p w ≡ cut_tokens f p s
        → Same d s w → Stood s left right c → Came on_left left → Came on_right right → IsMatched p on_left ys (cut_tokens f p s) left
        → IsMatched q on_right (y ∷ zs) (cut_tokens g q s) right → Result x s w
    follow_right x y s w local =
        by_right x y s w (local_taken 1 g q is.right x y local) (local_shows g r q x y local)
        (λ acts goes. local_goes (hung_right d f g r p q is) x y s acts local goes)

    follow_starts : (s w : Tokens) (v : ℕ) → Does p (In (ResultEnd 0) 0) (cut_tokens f p s) (cut_tokens f p w)
        → Does q (In (ResultEnd 0) 0) (cut_tokens g q s) (cut_tokens g q w) → gate s Request ≡ Some v → (w.state d).phase ≡ Both → gate w Request ≡ None
        → gate w Answer ≡ gate s Answer → Stood s left right c → Came on_left left → Came on_right right
        → IsMatched p on_left (In (ResultEnd 0) 0 ∷ ys) (cut_tokens f p s) left → IsMatched q on_right (In (ResultEnd 0) 0 ∷ zs) (cut_tokens g q s) right
        → Result (Fire d (Req 2)) s w
    follow_starts s w v left_does right_does ask both none ans stood left_came right_came (left_agrees, left_next) (right_agrees, right_next) =
        let (left_is, right_is, is_body, empty) = at_asked (s.state d).phase (gate s Request) (gate s Answer) left right c v stood ask in
        let (left_acts, left_to, left_made, left_shown, left_goes, left_rest) = left_next (cut_tokens f p w) left_does in
        let (right_acts, right_to, right_made, right_shown, right_goes, right_rest) = right_next (cut_tokens g q w) right_does in
        let one = request_begins on_left left_acts left_to _ (subst (λ (x : Config). Moves on_left left_acts x left_to) left_is left_made) left_shown in
        let other = request_begins on_right right_acts right_to _ (subst (λ (x : Config). Moves on_right right_acts x right_to) right_is right_made) right_shown in
        let (naming, other_naming, injective, other_injective, differ, free, other_free) = two_renamings [] in
        let first : Two (Running m []) (Running n []) (Running (Par m n) []) =
        record {
          first = m;
          second = n;
          first_store = [];
          second_store = [];
          rest = [];
          whole = [];
          naming = naming;
          other_naming = other_naming;
          left_is = refl;
          right_is = refl;
          whole_is = λ i. Running (Par (sym (sources_renamed naming p.imports [] m Com left_typed) i) (sym (sources_renamed other_naming q.imports [] n Com right_typed) i)) [];
          injective = injective;
          other_injective = other_injective;
          differ = differ;
          free = free;
          other_free = other_free;
          holds = (injective, (λ l. refl), λ l. refl);
        } in
        let (e, made, two) =
        left_moves on_left on_both one.acts (Running m []) (Running n []) left_to (Running (Par m n) []) is.left.among (silent_inner one.acts one.silent) first one.moves in
        let (z, also_made, both_now) =
        right_moves on_right on_both other.acts left_to (Running n []) right_to e is.right.among (silent_inner other.acts other.silent) two other.moves in
        record {
          acts = one.acts ++ other.acts;
          to = z;
          left_to = left_to;
          right_to = right_to;
          moves =
              subst (λ (x : Config). Moves on_both (one.acts ++ other.acts) x z) (sym is_body)
              (moves_then on_both one.acts other.acts (Running (Par m n) []) e z made also_made);
          shown = both_silent one.acts other.acts one.silent other.silent;
          goes_on = tt;
          stood = both_run both none (ans ∙ empty) both_now;
          left_came = came_on on_left left_acts left left_to left_came left_made;
          right_came = came_on on_right right_acts right right_to right_came right_made;
          left_matched = left_rest;
          right_matched = right_rest;
        }

    follow_left_ends : (s w : Tokens) (v : ℕ) → Does p (Out (ResultEnd 0) v) (cut_tokens f p s) (cut_tokens f p w) → cut_tokens g q w ≡ cut_tokens g q s
        → (s.state d).phase ≡ Both → (w.state d).phase ≡ RightOnly → ((way : Direction) → gate w way ≡ gate s way) → Stood s left right c → Came on_left left
        → Came on_right right → IsMatched p on_left (Out (ResultEnd 0) v ∷ ys) (cut_tokens f p s) left → IsMatched q on_right zs (cut_tokens g q s) right
        → Result (Fire d (Ans 0)) s w
    follow_left_ends s w v does unseen both after' gates stood left_came right_came (agrees, next) right_matched =
        let (two, none, empty) = at_both (s.state d).phase (gate s Request) (gate s Answer) left right c stood both in
        let (acts, to, moves, shown, goes, rest) = next (cut_tokens f p w) does in
        let e = answer_ends on_left acts two.first two.first_store to _ refl (subst (λ (x : Config). Moves on_left acts x to) two.left_is moves) shown in
        let skip = left_skip two.first two.first_store _ to (subst (Came on_left) two.left_is left_came) e in
        let (z, made, now) =
        left_moves on_left on_both e.acts left right (Running e.term e.store) c is.left.among (silent_inner e.acts e.silent) two
        (subst (λ (x : Config). Moves on_left e.acts x (Running e.term e.store)) (sym two.left_is) e.moves) in
        let one : One ParRight right z =
        record {
          term = now.second;
          other = renamed now.naming now.first;
          store = now.second_store;
          rest = beside now.naming now.first_store now.rest;
          whole = now.whole;
          naming = now.other_naming;
          count = e.count;
          own_is = now.right_is;
          whole_is = now.whole_is;
          has_ended = renamed_ends now.naming e.count e.term now.first e.last (running_term e.term now.first e.store now.first_store now.left_is) skip e.unfolds;
          holds = also_holds (Running e.term e.store) right z now;
        } in
        let row = quiet_row (Ans 0) (at RightOnly (s.state d).number) in
        record {
          acts = e.acts;
          to = z;
          left_to = to;
          right_to = right;
          moves = made;
          shown = e.silent;
          goes_on = quiet_goes r d (Ans 0) row s e.acts (par_firing d f g r p q is literals (Ans 0) row Both s both refl) (λ k. refl);
          stood = right_alone after' (gates Request ∙ none) (gates Answer ∙ empty) e.idle one;
          left_came = came_on on_left acts left to left_came moves;
          right_came = right_came;
          left_matched = rest;
          right_matched = subst (λ a. IsMatched q on_right zs a right) (sym unseen) right_matched;
        }

    follow_right_ends : (s w : Tokens) (v : ℕ) → Does q (Out (ResultEnd 0) v) (cut_tokens g q s) (cut_tokens g q w) → cut_tokens f p w ≡ cut_tokens f p s
        → (s.state d).phase ≡ Both → (w.state d).phase ≡ LeftOnly → ((way : Direction) → gate w way ≡ gate s way) → Stood s left right c → Came on_left left
        → Came on_right right → IsMatched p on_left ys (cut_tokens f p s) left → IsMatched q on_right (Out (ResultEnd 0) v ∷ zs) (cut_tokens g q s) right
        → Result (Fire d (Ans 1)) s w
    follow_right_ends s w v does unseen both after' gates stood left_came right_came left_matched (agrees, next) =
        let (two, none, empty) = at_both (s.state d).phase (gate s Request) (gate s Answer) left right c stood both in
        let (acts, to, moves, shown, goes, rest) = next (cut_tokens g q w) does in
        let e = answer_ends on_right acts two.second two.second_store to _ refl (subst (λ (x : Config). Moves on_right acts x to) two.right_is moves) shown in
        let skip = right_skip two.second two.second_store _ to (subst (Came on_right) two.right_is right_came) e in
        let (z, made, now) =
        right_moves on_right on_both e.acts left right (Running e.term e.store) c is.right.among (silent_inner e.acts e.silent) two
        (subst (λ (x : Config). Moves on_right e.acts x (Running e.term e.store)) (sym two.right_is) e.moves) in
        let one : One ParLeft left z =
        record {
          term = now.first;
          other = renamed now.other_naming now.second;
          store = now.first_store;
          rest = beside now.other_naming now.second_store now.rest;
          whole = now.whole;
          naming = now.naming;
          count = e.count;
          own_is = now.left_is;
          whole_is = now.whole_is;
          has_ended = renamed_ends now.other_naming e.count e.term now.second e.last (running_term e.term now.second e.store now.second_store now.right_is) skip e.unfolds;
          holds = now.holds;
        } in
        let row = quiet_row (Ans 1) (at LeftOnly (s.state d).number) in
        record {
          acts = e.acts;
          to = z;
          left_to = left;
          right_to = to;
          moves = made;
          shown = e.silent;
          goes_on = quiet_goes r d (Ans 1) row s e.acts (par_firing d f g r p q is literals (Ans 1) row Both s both refl) (λ k. refl);
          stood = left_alone after' (gates Request ∙ none) (gates Answer ∙ empty) e.idle one;
          left_came = left_came;
          right_came = came_on on_right acts right to right_came moves;
          left_matched = subst (λ a. IsMatched p on_left ys a left) (sym unseen) left_matched;
          right_matched = rest;
        }

    follow_left_last : (s w : Tokens) (v : ℕ) → Does p (Out (ResultEnd 0) v) (cut_tokens f p s) (cut_tokens f p w) → cut_tokens g q w ≡ cut_tokens g q s
        → (s.state d).phase ≡ LeftOnly → (w.state d).phase ≡ Rest → gate w Request ≡ gate s Request → gate w Answer ≡ Some 0 → Stood s left right c
        → Came on_left left → Came on_right right → IsMatched p on_left (Out (ResultEnd 0) v ∷ ys) (cut_tokens f p s) left
        → IsMatched q on_right zs (cut_tokens g q s) right → Result (Fire d (Ans 0)) s w
    follow_left_last s w v does unseen only rest' ask ans stood left_came right_came (agrees, next) right_matched =
        let (one, right_is, none) = at_left (s.state d).phase (gate s Request) (gate s Answer) left right c stood only in
        let (acts, to, moves, shown, goes, rest) = next (cut_tokens f p w) does in
        let e = answer_ends on_left acts one.term one.store to _ refl (subst (λ (x : Config). Moves on_left acts x to) one.own_is moves) shown in
        let skip = left_skip one.term one.store _ to (subst (Came on_left) one.own_is left_came) e in
        let (z, made, now) =
        one_moves ParLeft on_left on_both e.acts left (Running e.term e.store) c is.left.among (silent_inner e.acts e.silent) one
        (subst (λ (x : Config). Moves on_left e.acts x (Running e.term e.store)) (sym one.own_is) e.moves) in
        let own_ends = renamed_ends now.naming e.count e.term now.term e.last (running_term e.term now.term e.store now.store now.own_is) skip e.unfolds in
        let last = par_ends (renamed now.naming now.term) now.other e.count now.count now.whole own_ends now.has_ended in
        let row = end_row 0 (s.state d).number in
        record {
          acts = e.acts ++ Computing ∷ [];
          to = Running Skip now.whole;
          left_to = to;
          right_to = right;
          moves =
              moves_then on_both e.acts (Computing ∷ []) c z (Running Skip now.whole) made
              (subst (λ (x : Config). Moves on_both (Computing ∷ []) x (Running Skip now.whole)) (sym now.whole_is) (Running Skip now.whole, last, refl));
          shown = both_silent e.acts (Computing ∷ []) e.silent refl;
          goes_on = quiet_goes r d (Ans 0) row s (e.acts ++ Computing ∷ []) (par_firing d f g r p q is literals (Ans 0) row LeftOnly s only refl) (λ k. refl);
          stood = is_done now.whole rest' (ask ∙ none) ans e.idle right_is refl;
          left_came = came_on on_left acts left to left_came moves;
          right_came = right_came;
          left_matched = rest;
          right_matched = subst (λ a. IsMatched q on_right zs a right) (sym unseen) right_matched;
        }

    follow_right_last : (s w : Tokens) (v : ℕ) → Does q (Out (ResultEnd 0) v) (cut_tokens g q s) (cut_tokens g q w) → cut_tokens f p w ≡ cut_tokens f p s
        → (s.state d).phase ≡ RightOnly → (w.state d).phase ≡ Rest → gate w Request ≡ gate s Request → gate w Answer ≡ Some 0 → Stood s left right c
        → Came on_left left → Came on_right right → IsMatched p on_left ys (cut_tokens f p s) left
        → IsMatched q on_right (Out (ResultEnd 0) v ∷ zs) (cut_tokens g q s) right → Result (Fire d (Ans 1)) s w
    follow_right_last s w v does unseen only rest' ask ans stood left_came right_came left_matched (agrees, next) =
        let (one, left_is, none) = at_right (s.state d).phase (gate s Request) (gate s Answer) left right c stood only in
        let (acts, to, moves, shown, goes, rest) = next (cut_tokens g q w) does in
        let e = answer_ends on_right acts one.term one.store to _ refl (subst (λ (x : Config). Moves on_right acts x to) one.own_is moves) shown in
        let skip = right_skip one.term one.store _ to (subst (Came on_right) one.own_is right_came) e in
        let (z, made, now) =
        one_moves ParRight on_right on_both e.acts right (Running e.term e.store) c is.right.among (silent_inner e.acts e.silent) one
        (subst (λ (x : Config). Moves on_right e.acts x (Running e.term e.store)) (sym one.own_is) e.moves) in
        let own_ends = renamed_ends now.naming e.count e.term now.term e.last (running_term e.term now.term e.store now.store now.own_is) skip e.unfolds in
        let last = par_ends now.other (renamed now.naming now.term) now.count e.count now.whole now.has_ended own_ends in
        let row = end_row 1 (s.state d).number in
        record {
          acts = e.acts ++ Computing ∷ [];
          to = Running Skip now.whole;
          left_to = left;
          right_to = to;
          moves =
              moves_then on_both e.acts (Computing ∷ []) c z (Running Skip now.whole) made
              (subst (λ (x : Config). Moves on_both (Computing ∷ []) x (Running Skip now.whole)) (sym now.whole_is) (Running Skip now.whole, last, refl));
          shown = both_silent e.acts (Computing ∷ []) e.silent refl;
          goes_on = quiet_goes r d (Ans 1) row s (e.acts ++ Computing ∷ []) (par_firing d f g r p q is literals (Ans 1) row RightOnly s only refl) (λ k. refl);
          stood = is_done now.whole rest' (ask ∙ none) ans left_is e.idle refl;
          left_came = left_came;
          right_came = came_on on_right acts right to right_came moves;
          left_matched = subst (λ a. IsMatched p on_left ys a left) (sym unseen) left_matched;
          right_matched = rest;
        }

    follow : (x : Element) (s w : Tokens) (z : Step d f g r p q x s w) → IsSeen d f g r p q x s w z → Driven d past lefts rights s → Comes r past x → Stood s left right c
        → Came on_left left → Came on_right right → IsMatched p on_left (left_seen d f g r p q is literals x s w z ++ ys) (cut_tokens f p s) left
        → IsMatched q on_right (right_seen d f g r p q is literals x s w z ++ zs) (cut_tokens g q s) right → Result x s w
    follow x s w (of_left x' y s' w' local sees unseen same) seen driven comes stood left_came right_came left_matched right_matched =
        follow_left x' y s' w' local sees unseen same stood left_came right_came left_matched right_matched
    follow x s w (of_right x' y s' w' local sees unseen same) seen driven comes stood left_came right_came left_matched right_matched =
        follow_right x' y s' w' local sees unseen same stood left_came right_came left_matched right_matched
    follow x s w (asked v s' w' small left_same right_same state ask ans) seen driven comes stood left_came right_came left_matched right_matched =
        let (rest, none, empty) =
        when_asking (is_open past (ResultEnd 0)) (s'.state d).phase (gate s' Request) (gate s' Answer) driven.stage
        (asked_turn d f g r p q is literals past comes) in
        let (left_is, right_is, is_idle) = at_rest (s'.state d).phase (gate s' Request) (gate s' Answer) left right c stood rest none empty in
        record {
          acts = Showing (given 0 0) ∷ [];
          to = Running (Par m n) [];
          left_to = left;
          right_to = right;
          moves =
              subst (λ (x : Config). Moves on_both (Showing (given 0 0) ∷ []) x (Running (Par m n) [])) (sym is_idle) (Running (Par m n) [], (refl, refl), refl);
          shown = λ t. given 0 (sym small t) ∷ [];
          goes_on = tt;
          stood = waits (ap (λ q. q.phase) state ∙ rest) (ask ∙ ap (λ k. Some k) small) (ans ∙ empty) left_is right_is refl;
          left_came = left_came;
          right_came = right_came;
          left_matched = subst (λ a. IsMatched p on_left ys a left) (sym left_same) left_matched;
          right_matched = subst (λ a. IsMatched q on_right zs a right) (sym right_same) right_matched;
        }
    follow x s w (told v s' w' left_same right_same state ans none ask) seen driven comes stood left_came right_came left_matched right_matched =
        let (store, rest, empty, value, left_is, right_is, is_skip) = at_done (s'.state d).phase (gate s' Request) (gate s' Answer) left right c v stood ans in
        record {
          acts = Showing (given 1 0) ∷ [];
          to = Idle;
          left_to = left;
          right_to = right;
          moves =
              subst (λ (x : Config). Moves on_both (Showing (given 1 0) ∷ []) x Idle) (sym is_skip) (Idle, (0, Skip, refl, inl (refl, refl)), refl);
          shown = λ t. given 1 (value t) ∷ [];
          goes_on = tt;
          stood = rests (ap (λ q. q.phase) state ∙ rest) (ask ∙ empty) none left_is right_is refl;
          left_came = left_came;
          right_came = right_came;
          left_matched = subst (λ a. IsMatched p on_left ys a left) (sym left_same) left_matched;
          right_matched = subst (λ a. IsMatched q on_right zs a right) (sym right_same) right_matched;
        }
    follow x s w (starts v s' w' left_does right_does rest ask both none ans) seen driven comes stood left_came right_came left_matched right_matched =
        follow_starts s' w' v left_does right_does ask both none ans stood left_came right_came left_matched right_matched
    follow x s w (left_ends v s' w' does unseen both next gates) seen driven comes stood left_came right_came left_matched right_matched =
        follow_left_ends s' w' v does unseen both next gates stood left_came right_came left_matched right_matched
    follow x s w (right_ends v s' w' does unseen both next gates) seen driven comes stood left_came right_came left_matched right_matched =
        follow_right_ends s' w' v does unseen both next gates stood left_came right_came left_matched right_matched
    follow x s w (left_ends_all v s' w' does unseen only rest ask ans) seen driven comes stood left_came right_came left_matched right_matched =
        follow_left_last s' w' v does unseen only rest ask ans stood left_came right_came left_matched right_matched
    follow x s w (right_ends_all v s' w' does unseen only rest ask ans) seen driven comes stood left_came right_came left_matched right_matched =
        follow_right_last s' w' v does unseen only rest ask ans stood left_came right_came left_matched right_matched
    follow x s w (lost j k v s' w' t there not_left not_right left_same right_same same) seen driven comes stood left_came right_came left_matched right_matched =
        absurd seen

    -- an input at an end that stands in no joint, of one of the regions
    lost_shows : (a : Plan) (cut : Cut) (i k j v : ℕ) (none : IsUnjoined r cut a i j) → none.import ≡ k → shows a (In (ImportEnd i j) v) ≡ shows r (In (ImportEnd k j) v)
    lost_shows a cut i k j v none import =
        let same : slice_get a.imports i ≡ slice_get r.imports k = sym none.same ∙ ap (slice_get r.imports) import in
        λ t. record { port = port_if (same t); event = event_number Answer j; value = v } ∷ []

    lost_taken : (a : Plan) (cut : Cut) (i j v : ℕ) → IsUnjoined r cut a i j → AllTaken (shows a (In (ImportEnd i j) v))
    lost_taken a cut i j v none = let (z, at) = there_is a.imports i j none.contact none.own in (not_given (slice_get a.imports i) z at, tt)

    lost_on_left : (k j v i : ℕ) (none : IsUnjoined r f p i j) → none.import ≡ k → (s w : Tokens) → Sees f p (In (ImportEnd i j) v) s w → Unseen g q s w → Same d s w
        → Stood s left right c → Came on_left left → Came on_right right → IsMatched p on_left (In (ImportEnd i j) v ∷ ys) (cut_tokens f p s) left
        → IsMatched q on_right zs (cut_tokens g q s) right → Result (In (ImportEnd k j) v) s w
    lost_on_left k j v i none import s w =
        by_left (In (ImportEnd k j) v) (In (ImportEnd i j) v) s w (lost_taken p f i j v none) (lost_shows p f i k j v none import) (λ acts goes. tt)

    lost_on_right : (k j v i : ℕ) (none : IsUnjoined r g q i j) → none.import ≡ k → (s w : Tokens) → Sees g q (In (ImportEnd i j) v) s w → Unseen f p s w → Same d s w
        → Stood s left right c → Came on_left left → Came on_right right → IsMatched p on_left ys (cut_tokens f p s) left
        → IsMatched q on_right (In (ImportEnd i j) v ∷ zs) (cut_tokens g q s) right → Result (In (ImportEnd k j) v) s w
    lost_on_right k j v i none import s w =
        by_right (In (ImportEnd k j) v) (In (ImportEnd i j) v) s w (lost_taken q g i j v none) (lost_shows q g i k j v none import) (λ acts goes. tt)

  module _
      (left_ports : HasPorts r f p) (right_ports : HasPorts r g q) (left_regular : IsRegular p) (right_regular : IsRegular q) (first : Tokens) (resting : IsIdle r first) where
    abbrev HoldsHere : Tokens → List Pass → List Element → List Element → Open → Open → Open → Type 0
    HoldsHere = Holds d f g r p q is literals left_ports right_ports left_regular right_regular first resting

    abbrev WentHere : Element → Tokens → Tokens → Type 0
    WentHere = Went d f g r p q is literals left_ports right_ports left_regular right_regular first resting

    abbrev lefts_of : (x : Element) (s w : Tokens) → WentHere x s w → List Element
    lefts_of = left_of d f g r p q is literals left_ports right_ports left_regular right_regular first resting

    abbrev rights_of : (x : Element) (s w : Tokens) → WentHere x s w → List Element
    rights_of = right_of d f g r p q is literals left_ports right_ports left_regular right_regular first resting

    goes : (past lefts rights : List Pass) (left right c : Config) (ys zs : List Element) (x : Element) (s w : Tokens) (z : WentHere x s w) → Driven d past lefts rights s
        → Comes r past x → Stood s left right c → Came on_left left → Came on_right right → IsMatched p on_left (lefts_of x s w z ++ ys) (cut_tokens f p s) left
        → IsMatched q on_right (rights_of x s w z ++ zs) (cut_tokens g q s) right → Follows x s w c ys zs
    goes past lefts rights left right c ys zs x s w (is_seen z seen) driven comes stood left_came right_came left_matched right_matched =
        follow past lefts rights left right c ys zs x s w z seen driven comes stood left_came right_came left_matched right_matched
    goes past lefts rights left right c ys zs x s w (lost_left k j v i none import at sees unseen same) driven comes stood left_came right_came left_matched right_matched =
        subst (λ (e : Element). Follows e s w c ys zs) (sym at)
        (lost_on_left past lefts rights left right c ys zs k j v i none import s w sees unseen same stood left_came right_came left_matched right_matched)
    goes past lefts rights left right c ys zs x s w (lost_right k j v i none import at sees unseen same) driven comes stood left_came right_came left_matched right_matched =
        subst (λ (e : Element). Follows e s w c ys zs) (sym at)
        (lost_on_right past lefts rights left right c ys zs k j v i none import s w sees unseen same stood left_came right_came left_matched right_matched)

    pub matches : (xs : List Element) (s t : Tokens) (past : List Pass) (hs ks : List Element) (o lo ro : Open) (holds : HoldsHere s past hs ks o lo ro) (runs : Runs r xs s t)
        (turns : InputsKeepTurns r past xs) → Neat r s → (left right c : Config) → Stood s left right c → Came on_left left → Came on_right right
        → IsMatched p on_left
        (left_list d f g r p q is literals left_ports right_ports left_regular right_regular first resting xs s t past hs ks o lo ro holds runs turns) (cut_tokens f p s) left
        → IsMatched q on_right
        (right_list d f g r p q is literals left_ports right_ports left_regular right_regular first resting xs s t past hs ks o lo ro holds runs turns) (cut_tokens g q s) right
        → IsMatched r on_both xs s c
    matches [] s t past hs ks o lo ro holds runs turns neat left right c stood left_came right_came left_matched right_matched = (
      λ quiet. whole_waits s left right c stood quiet left_matched right_matched left_came right_came,
      λ same. whole_rests s left right c stood neat left_matched right_matched same,
    )
    matches (x ∷ xs) s t past hs ks o lo ro holds (w, does, runs) turns neat left right c stood left_came right_came left_matched right_matched =
        let one = one_on d f g r p q is literals left_ports right_ports left_regular right_regular first resting x xs s w past hs ks o lo ro holds does turns in
        let hs_on = hs ++ lefts_of x s w one.went in
        let ks_on = ks ++ rights_of x s w one.went in
        let later = later_turns r past x xs turns in
        let ys =
        left_list d f g r p q is literals left_ports right_ports left_regular right_regular first resting xs w t (after r x past) hs_on ks_on one.now one.lo one.ro one.holds runs
        later in
        let zs =
        right_list d f g r p q is literals left_ports right_ports left_regular right_regular first resting xs w t (after r x past) hs_on ks_on one.now one.lo one.ro one.holds runs
        later in
        let left_agrees = matched_agrees p on_left (lefts_of x s w one.went ++ ys) (cut_tokens f p s) left left_matched in
        let right_agrees = matched_agrees q on_right (rights_of x s w one.went ++ zs) (cut_tokens g q s) right right_matched in
        let on =
        goes past (passed p [] hs) (passed q [] ks) left right c ys zs x s w one.went holds.driven (comes_of_turn r past x (first_turn r past x xs turns)) stood left_came
        right_came left_matched right_matched in
        let more =
        matches xs w t (after r x past) hs_on ks_on one.now one.lo one.ro one.holds runs later (neat_step r x s w does neat) on.left_to on.right_to on.to on.stood
        on.left_came on.right_came on.left_matched on.right_matched in (
          (
            λ quiet. whole_waits s left right c stood quiet left_agrees right_agrees left_came right_came,
            λ same. whole_rests s left right c stood neat left_agrees right_agrees same,
          ),
          λ u also. (
            on.acts,
            on.to,
            on.moves,
            on.shown,
            on.goes_on,
            subst (λ a. IsMatched r on_both xs a on.to) (one_state r x s w u does also) more,
          ),
        )
