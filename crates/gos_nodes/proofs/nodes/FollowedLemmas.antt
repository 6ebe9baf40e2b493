-- A whole that runs stages one at a time is matched by its term, where the term goes along with it (`Follows`): at rest, asked, within a
-- session, and answered.
use Rattle.std.specs.Prelude.{◌≡◌, ◌≢◌, ℕ, ◌<◌, ◌^◌, Bool, true, false, List, [], ◌∷◌, ◌++◌, Option, Some, All, Contains, slice_get}
use Rattle.std.proofs.Common.{refl, sym, ap, subst, ◌∙◌}
use Rattle.gos_types.specs.Types.{IsDone}
use Rattle.gos_types.specs.Events.{Request, Answer}
use Rattle.gos_model.specs.Terms.{Term}
use Rattle.gos_model.specs.Stores.{Store}
use Rattle.gos_model.specs.Labels.{given}
use Rattle.gos_model.specs.Moves.{Program, Config, Idle, Running, Act, Showing, Answers, Unfoldings, Moves, labels}
use Rattle.gos_model.proofs.MoveLemmas.{labels_then, idle_is_stalled}
use Rattle.gos_plan.specs.Kinds.{Part}
use Rattle.gos_plan.specs.Firing.{Slot, Req, Ans, Token, Row, firing}
use Rattle.gos_plan.specs.Plans.{PartEnd, ResultEnd, Plan, IsRight}
use Rattle.gos_plan.specs.Tokens.{Tokens, Element, Fire, Out, In, token_at, firing_of, Does, IsIdle, IsQuiet}
use Rattle.gos_plan.specs.TokenBits.{LiteralFits, AllFit}
use Rattle.gos_plan.proofs.DecidedLemmas.{one_state}
use Rattle.gos_plan.proofs.TokenBitsLemmas.{all_stay_fit, idle_fits}
use Rattle.gos_realises.specs.realises.Matched.{asks_on, shows, GoesOn, Agrees, IsMatched, program_of}
use Rattle.gos_programs.proofs.results.ResultLemmas.{moves_then}
use Rattle.gos_nodes.specs.sessions.Sessions.{Session, value_of}
use Rattle.gos_nodes.specs.windows.Regions.{whole_element}
use Rattle.gos_nodes.specs.windows.Nodes.{Stage}
use Rattle.gos_nodes.specs.windows.OneSession.{Stays}
use Rattle.gos_nodes.specs.windows.Windows.{Runner, seen, HoldsOnly, StirsOnly, Where, Resting, Asked, Within, Answered, PassesPort, LeadsTo, Staged, rests, waits, stays, holds, is_asked, begins, stirs, goes_on, replies}
use Rattle.gos_nodes.proofs.nodes.PortLemmas.{request_shown, answer_shown}
use Rattle.gos_nodes.proofs.nodes.ChildLemmas.{Inside, Went, Ended}

pub running_is_not_idle : (m : Term) (s : Store) → Running m s ≡ Idle → ⊥
running_is_not_idle m s e = cc e

pub more_some : (xs ys : List Act) → ys ≢ [] → xs ++ ys ≢ []
more_some [] ys some e = some e
more_some (x ∷ xs) ys some e = cc e

pub both_silent : (xs ys : List Act) → labels xs ≡ [] → labels ys ≡ [] → labels (xs ++ ys) ≡ []
both_silent xs ys e h = labels_then xs ys ∙ (ap (λ ls. ls ++ labels ys) e ∙ h)

-- where the term m stands; in the end it unfolds to the value of the answer
abbrev pub Stands : Inside → Term → (ℕ → Term) → Where → Tokens → Config → Type 0
Stands Inner m value Resting s c = c ≡ Idle
Stands Inner m value Asked s c = c ≡ Running m []
Stands Inner m value (Within g ys) s c = (e : Session) × (b : Term) × (st : Store) × Inner g ys s e b st × (c ≡ Running (e.frame b) st)
Stands Inner m value (Answered v) s c = (n : ℕ) × (b : Term) × Unfoldings n b (value v) × (c ≡ Running b [])

-- Silent moves from b to where the term stands then. After an answer some are made, where the own part asks.
pub record Led (Inner : Inside) (q : Program) (m : Term) (value : ℕ → Term) (puts : List Token) (w : Where) (t : Tokens) (b : Term) (answered : Bool) : Type 0 where
  pub acts : List Act
  pub to : Config
  pub moves : Moves q acts (Running b []) to
  pub silent : labels acts ≡ []
  pub some : asks_on puts ≡ true → answered ≡ true → acts ≢ []
  pub stands : Stands Inner m value w t to

pub record Follows (r : Plan) (d : ℕ) (o : Runner) (gs : List Stage) (m : Term) (value : ℕ → Term) (Inner : Inside) : Type 0 where
  pub right : IsRight r
  pub literals : All LiteralFits r.parts
  pub done : IsDone r.outcome
  pub own : slice_get r.parts d ≡ Some o.part
  -- where all rests but one token, something can go on
  pub asked_can : (s : Tokens) → HoldsOnly r (PartEnd d o.run) Request 0 s → IsQuiet r s → ⊥
  pub answer_can : (s : Tokens) (v : ℕ) → HoldsOnly r (ResultEnd 0) Answer v s → IsQuiet r s → ⊥
  pub answers : (s : Tokens) (v : ℕ) → AllFit r s → HoldsOnly r (ResultEnd 0) Answer v s → Answers (given 1 v) (value v)
  -- the own part is run
  pub begins :
      (s t : Tokens) (row : Row) (w : Where)
      → HoldsOnly r (PartEnd d o.run) Request 0 s → firing o.part (s.state d) (Req o.run) ≡ Some row → t.state d ≡ row.next 0
      → LeadsTo r d o gs row 0 t w → Led Inner (program_of r m) m value (row.puts 0) w t m false
  -- a stage goes on
  pub within :
      (g : Stage) (ys : List Element) (s : Tokens) (e : Session) (b : Term) (st : Store)
      → Contains gs g → StirsOnly d o g s → Inner g ys s e b st → Agrees r (program_of r m) s (Running (e.frame b) st)
  pub goes_within :
      (g : Stage) (y : Element) (ys : List Element) (s t : Tokens) (e : Session) (b : Term) (st : Store)
      → Contains gs g → Does g.plan y (seen g s) (seen g t) → Stays g.plan y → PassesPort r g y → Does r (whole_element g.cut y) s t
      → Inner g (y ∷ ys) s e b st → Went Inner r (program_of r m) g y ys s t e b st
  -- it has answered
  pub ends :
      (g : Stage) (v : ℕ) (s u : Tokens) (e : Session) (b : Term) (st : Store)
      → Contains gs g → Does g.plan (Out (ResultEnd (o.asked g)) v) (seen g s) u → Inner g (Out (ResultEnd (o.asked g)) v ∷ []) s e b st
      → Ended (program_of r m) e b st v
  pub leads :
      (g : Stage) (v : ℕ) (s t : Tokens) (row : Row) (w : Where) (e : Session) (b : Term) (st : Store) (n : ℕ) (x : Term)
      → StirsOnly d o g s → v < 2 ^ o.answer_bits g → firing o.part (s.state d) (Ans g.asked_at) ≡ Some row
      → Inner g (Out (ResultEnd (o.asked g)) v ∷ []) s e b st → Unfoldings n x (e.frame (value_of e.ty v)) → t.state d ≡ row.next v
      → LeadsTo r d o gs row v t w → Led Inner (program_of r m) m value (row.puts v) w t x true

module _
    (r : Plan) (d : ℕ) (o : Runner) (gs : List Stage) (m : Term) (value : ℕ → Term) (Inner : Inside) (follows : Follows r d o gs m value Inner) where
  abbrev whole : Program
  whole = program_of r m

  -- an element, with the moves that match it
  abbrev Found : Element → List Element → Tokens → Tokens → Config → Type 0
  Found x xs s t c =
      (acts : List Act) × (e : Config) × Moves whole acts c e × (labels acts ≡ shows r x) × GoesOn r s x acts × IsMatched r whole xs t e

  step : (x : Element) (xs : List Element) (s t : Tokens) (c : Config) → Agrees r whole s c → Does r x s t → Found x xs s t c → IsMatched r whole (x ∷ xs) s c
  step x xs s t c agrees does found =
      (agrees, λ u other. subst (λ (y : Tokens). Found x xs s y c) (one_state r x s t u does other) found)

  at_config : (xs : List Element) (s : Tokens) (c b : Config) → c ≡ b → IsMatched r whole xs s b → IsMatched r whole xs s c
  at_config xs s c b same h = subst (λ (x : Config). IsMatched r whole xs s x) (sym same) h

  asked_agrees : (s : Tokens) (b : Term) (st : Store) → HoldsOnly r (PartEnd d o.run) Request 0 s → Agrees r whole s (Running b st)
  asked_agrees s b st here = (λ q. absurd (follows.asked_can s here q), λ e. absurd (running_is_not_idle b st e))

  answered_agrees : (s : Tokens) (v : ℕ) (b : Term) (st : Store) → HoldsOnly r (ResultEnd 0) Answer v s → Agrees r whole s (Running b st)
  answered_agrees s v b st here = (λ q. absurd (follows.answer_can s v here q), λ e. absurd (running_is_not_idle b st e))

  -- what is to be shown of a list that begins there
  abbrev Matches : Where → List Element → Tokens → Type 0
  Matches w xs s = (c : Config) → Stands Inner m value w s c → IsMatched r whole xs s c

  asked_on : (s t : Tokens) (xs : List Element) → IsIdle r s → Does r (In (ResultEnd 0) 0) s t → Matches Asked xs t
      → IsMatched r whole (In (ResultEnd 0) 0 ∷ xs) s Idle
  asked_on s t xs idle does rest =
      step (In (ResultEnd 0) 0) xs s t Idle (λ q. idle_is_stalled whole, λ e. idle) does (
        Showing (given 0 0) ∷ [],
        Running m [],
        (Running m [], (refl, refl), refl),
        sym (request_shown r 0 follows.done),
        tt,
        rest (Running m []) refl,
      )

  begun : (s t : Tokens) (xs : List Element) (row : Row) (w : Where)
      → HoldsOnly r (PartEnd d o.run) Request 0 s → firing o.part (s.state d) (Req o.run) ≡ Some row → Does r (Fire d (Req o.run)) s t
      → t.state d ≡ row.next 0 → LeadsTo r d o gs row 0 t w → Matches w xs t → IsMatched r whole (Fire d (Req o.run) ∷ xs) s (Running m [])
  begun s t xs row w here fires does is to rest =
      let led = follows.begins s t row w here fires is to in
      step (Fire d (Req o.run)) xs s t (Running m []) (asked_agrees s m [] here) does (led.acts, led.to, led.moves, led.silent, tt, rest led.to led.stands)

  firing_own : (s : Tokens) (slot : Slot) (line row : Row) → firing o.part (s.state d) slot ≡ Some row
      → firing_of (slice_get r.parts d) (s.state d) slot ≡ Some line → line ≡ row
  firing_own s slot line row fires other =
      some_row line row (sym (ap (λ (x : Option Part). firing_of x (s.state d) slot) (sym follows.own) ∙ other) ∙ fires)
    where
      some_row : (a b : Row) → Some a ≡ Some b → a ≡ b
      some_row a b e = cc e

  answered_on : (s : Tokens) (h v : ℕ) (row : Row) (xs ys : List Act)
      → token_at r s (PartEnd d h) Answer ≡ Some v → firing o.part (s.state d) (Ans h) ≡ Some row
      → (asks_on (row.puts v) ≡ true → ys ≢ []) → GoesOn r s (Fire d (Ans h)) (xs ++ ys)
  answered_on s h v row xs ys held fires some = λ w line lies other asks.
      let value : w ≡ v = some_value w v (sym lies ∙ held) in
      let same : line ≡ row = firing_own s (Ans h) line row fires other in
      more_some xs ys (some (subst (λ (x : ℕ). asks_on (row.puts x) ≡ true) value (subst (λ (x : Row). asks_on (x.puts w) ≡ true) same asks)))
    where
      some_value : (a b : ℕ) → Some a ≡ Some b → a ≡ b
      some_value a b e = cc e

  gone_on : (s t : Tokens) (xs : List Element) (g : Stage) (v : ℕ) (u : Tokens) (row : Row) (w : Where)
      → Contains gs g → StirsOnly d o g s → Does g.plan (Out (ResultEnd (o.asked g)) v) (seen g s) u → v < 2 ^ o.answer_bits g
      → token_at r s (PartEnd d g.asked_at) Answer ≡ Some v → firing o.part (s.state d) (Ans g.asked_at) ≡ Some row
      → Does r (Fire d (Ans g.asked_at)) s t → t.state d ≡ row.next v → LeadsTo r d o gs row v t w → Matches w xs t
      → Matches (Within g (Out (ResultEnd (o.asked g)) v ∷ [])) (Fire d (Ans g.asked_at) ∷ xs) s
  gone_on s t xs g v u row w has only answer fits held fires does is to rest c (e, b, st, inner, same) =
      let over = follows.ends g v s u e b st has answer inner in
      let led = follows.leads g v s t row w e b st over.count over.term only fits fires inner over.unfolds is to in
      at_config (Fire d (Ans g.asked_at) ∷ xs) s c (Running (e.frame b) st) same
      (step (Fire d (Ans g.asked_at)) xs s t (Running (e.frame b) st)
      (follows.within g (Out (ResultEnd (o.asked g)) v ∷ []) s e b st has only inner) does (
        over.acts ++ led.acts,
        led.to,
        moves_then whole over.acts led.acts (Running (e.frame b) st) (Running over.term []) led.to over.moves led.moves,
        both_silent over.acts led.acts over.silent led.silent,
        answered_on s g.asked_at v row over.acts led.acts held fires (λ asks. led.some asks refl),
        rest led.to led.stands,
      ))

  stirred_on : (s t : Tokens) (xs ys : List Element) (g : Stage) (y : Element)
      → Contains gs g → StirsOnly d o g s → Does g.plan y (seen g s) (seen g t) → Stays g.plan y → PassesPort r g y → Does r (whole_element g.cut y) s t
      → Matches (Within g ys) xs t → Matches (Within g (y ∷ ys)) (whole_element g.cut y ∷ xs) s
  stirred_on s t xs ys g y has only does_there stay port does rest c (e, b, st, inner, same) =
      let went = follows.goes_within g y ys s t e b st has does_there stay port does inner in
      at_config (whole_element g.cut y ∷ xs) s c (Running (e.frame b) st) same
      (step (whole_element g.cut y) xs s t (Running (e.frame b) st) (follows.within g (y ∷ ys) s e b st has only inner) does (
        went.acts,
        Running (e.frame went.term) went.store,
        went.moves,
        went.shown,
        went.goes,
        rest (Running (e.frame went.term) went.store) (e, went.term, went.store, went.inner, refl),
      ))

  replied : (s t : Tokens) (xs : List Element) (v : ℕ)
      → AllFit r s → HoldsOnly r (ResultEnd 0) Answer v s → Does r (Out (ResultEnd 0) v) s t → Matches Resting xs t
      → Matches (Answered v) (Out (ResultEnd 0) v ∷ xs) s
  replied s t xs v fits here does rest c (n, b, us, same) =
      at_config (Out (ResultEnd 0) v ∷ xs) s c (Running b []) same
      (step (Out (ResultEnd 0) v) xs s t (Running b []) (answered_agrees s v b [] here) does (
        Showing (given 1 v) ∷ [],
        Idle,
        (Idle, (n, value v, us, follows.answers s v fits here), refl),
        sym (answer_shown r v follows.done),
        tt,
        rest Idle refl,
      ))

  -- numbers fit all along
  next_fits : (x : Element) (s t : Tokens) → AllFit r s → Does r x s t → AllFit r t
  next_fits x s t fits does = all_stay_fit r (x ∷ []) s t follows.right follows.literals fits (t, does, refl)

  matches : (w : Where) (xs : List Element) (s : Tokens) → Staged r d o gs w xs s → AllFit r s → Matches w xs s
  matches w xs s (rests s1 idle) fits = λ c same. at_config [] s1 c Idle same (λ q. idle_is_stalled whole, λ e. idle)
  matches w xs s (waits s1 here) fits = λ c same. at_config [] s1 c (Running m []) same (asked_agrees s1 m [] here)
  matches w xs s (stays s1 g has only) fits =
      λ c stands. at_config [] s1 c (Running (stands.0.frame stands.1) stands.2) stands.4 (follows.within g [] s1 stands.0 stands.1 stands.2 has only stands.3)
  matches w xs s (holds s1 v here) fits = λ c stands. at_config [] s1 c (Running stands.1 []) stands.3 (answered_agrees s1 v stands.1 [] here)
  matches w xs s (is_asked s1 t ys idle does rest) fits =
      λ c same.
      at_config (In (ResultEnd 0) 0 ∷ ys) s1 c Idle same
      (asked_on s1 t ys idle does (matches Asked ys t rest (next_fits (In (ResultEnd 0) 0) s1 t fits does)))
  matches w xs s (begins s1 t ys row v here fires does is to rest) fits =
      λ c same.
      at_config (Fire d (Req o.run) ∷ ys) s1 c (Running m []) same
      (begun s1 t ys row v here fires does is to (matches v ys t rest (next_fits (Fire d (Req o.run)) s1 t fits does)))
  matches w xs s (stirs s1 t ys zs g y has only does_there stay port does rest) fits =
      stirred_on s1 t ys zs g y has only does_there stay port does (matches (Within g zs) ys t rest (next_fits (whole_element g.cut y) s1 t fits does))
  matches w xs s (goes_on s1 t ys g v u row k has only answer idle small held fires does is to rest) fits =
      gone_on s1 t ys g v u row k has only answer small held fires does is to (matches k ys t rest (next_fits (Fire d (Ans g.asked_at)) s1 t fits does))
  matches w xs s (replies s1 t ys v here does rest) fits =
      replied s1 t ys v fits here does (matches Resting ys t rest (next_fits (Out (ResultEnd 0) v) s1 t fits does))

  pub matched : (xs : List Element) (s : Tokens) → Staged r d o gs Resting xs s → IsIdle r s → IsMatched r whole xs s Idle
  matched xs s staged idle = matches Resting xs s staged (idle_fits r s idle) Idle refl
