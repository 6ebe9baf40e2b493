-- Windows: from the request of a stage to its answer all else rests, and what is done is of the stage.
--
-- Read first: Nodes; OneSession. It is so whatever part asks the stages, one at a time: the own part of a form, or an Assign.
use Rattle.std.specs.Prelude.{◌≡◌, ◌≢◌, ℕ, ◌^◌, ◌<◌, true, List, [], ◌∷◌, Option, Some, None, Contains, slice_get}
use Rattle.gos_types.specs.Events.{Direction, Request, Answer}
use Rattle.gos_plan.specs.Kinds.{Part}
use Rattle.gos_plan.specs.Firing.{Rest, State, Req, Ans, Row, put, firing}
use Rattle.gos_plan.specs.Plans.{End, PartEnd, ImportEnd, ResultEnd, Plan}
use Rattle.gos_plan.specs.Tokens.{Tokens, Element, Fire, Out, In, places_of, token_at, Does, Runs, IsIdle, IsQuiet}
use Rattle.gos_realises.specs.realises.Regular.{InputsKeepTurns}
use Rattle.gos_joining.specs.webs.Cutting.{lies_at, asks_in, cut_tokens}
use Rattle.gos_nodes.specs.sessions.Sessions.{Form, Session, bits, own_part, run_shake, session_of}
use Rattle.gos_nodes.specs.windows.Regions.{whole_element}
use Rattle.gos_nodes.specs.windows.OneSession.{IsTidy, Stays, EndsWell}
use Rattle.gos_nodes.specs.windows.Nodes.{Stage}
use Rattle.gos_nodes.specs.windows.OpenNodes.{IsOpenNode}

-- What runs stages: a part; the handshake by which it is run; in each of its states that at which it waits for an answer, if it
-- does; and for each stage the handshake of the stage's result that it asks, the bits of the request and those of the answer.
pub record Runner : Type 0 where
  pub part : Part
  pub run : ℕ
  pub waits : State → Option ℕ
  pub asked : Stage → ℕ
  pub request_bits : Stage → ℕ
  pub answer_bits : Stage → ℕ

-- the tokens of a stage
abbrev pub seen : Stage → Tokens → Tokens
seen g s = cut_tokens g.cut g.plan s

-- all is idle but for one token, which lies where this end has its places
pub record HoldsOnly (r : Plan) (e : End) (way : Direction) (v : ℕ) (s : Tokens) : Type 0 where
  pub states : (i : ℕ) → (s.state i).phase ≡ Rest
  pub held : token_at r s e way ≡ Some v
  pub alone : (w : Direction) (d : End) (k : ℕ) → s.in_place w d ≡ Some k → (w ≡ way) × (places_of r e ≡ Some d)

-- All but the own part, number d, and the stage is idle: the own part waits for the stage's answer, no other part has
-- begun, and no token lies but on the stage's joints.
pub record StirsOnly (d : ℕ) (o : Runner) (g : Stage) (s : Tokens) : Type 0 where
  pub session : o.waits (s.state d) ≡ Some g.asked_at
  pub states : (i : ℕ) → i ≢ d → g.cut.number i ≡ None → (s.state i).phase ≡ Rest
  pub places :
      (way : Direction) (e : End) (v : ℕ) → s.in_place way e ≡ Some v
      → (a : End) × (asks_in g.plan.joints a ≡ true) × (lies_at g.cut a ≡ e)

-- A session of the stage begins with state s: handshake h of its result has been asked, with the number n, in an idle state of its
-- plan; its list goes on with ys, and its inputs keep turns.
pub record Begins (h : ℕ) (g : Stage) (n : ℕ) (ys : List Element) (s : Tokens) : Type 0 where
  pub before : Tokens
  pub after : Tokens
  pub idle : IsIdle g.plan before
  pub asked : Does g.plan (In (ResultEnd h) n) before (seen g s)
  pub runs : Runs g.plan ys (seen g s) after
  pub turns : InputsKeepTurns g.plan [] (In (ResultEnd h) n ∷ ys)
  pub tidy : IsTidy g.plan before
  pub well : EndsWell h g.plan ys

-- where a list of the whole begins: at rest; asked; within a session, of which so much is left; answered, with a number
pub data Where : Type 0 where
  Resting : Where
  Asked : Where
  Within : (g : Stage) (ys : List Element) → Where
  Answered : (v : ℕ) → Where

-- after a firing of the own part: it asks a stage, whose session begins, or answers
pub data LeadsTo (r : Plan) (d : ℕ) (o : Runner) (gs : List Stage) (row : Row) (v : ℕ) (s : Tokens) : Where → Type 0 where
  to_session :
      (g : Stage) (n : ℕ) (ys : List Element)
      → Contains gs g → n < 2 ^ o.request_bits g → StirsOnly d o g s → Begins (o.asked g) g n ys s → row.puts v ≡ put (Req g.asked_at) n ∷ []
      → LeadsTo r d o gs row v s (Within g ys)
  to_answer :
      (k : ℕ) → HoldsOnly r (ResultEnd 0) Answer k s → row.puts v ≡ put (Ans o.run) k ∷ [] → LeadsTo r d o gs row v s (Answered k)

-- the end of an import of the stage is that of an import of the whole, with its name and type
abbrev pub IsAtPort : Plan → Stage → End → Type 0
IsAtPort r g (PartEnd i h) = Unit {0}
IsAtPort r g (ImportEnd i h) = (k : ℕ) × (g.cut.outer (ImportEnd i h) ≡ ImportEnd k h) × (slice_get r.imports k ≡ slice_get g.plan.imports i)
IsAtPort r g (ResultEnd h) = Unit {0}

-- so is that at which an element passes, if any
abbrev pub PassesPort : Plan → Stage → Element → Type 0
PassesPort r g (Fire i t) = Unit {0}
PassesPort r g (Out e v) = IsAtPort r g e
PassesPort r g (In e v) = IsAtPort r g e

-- The list of the whole from a state: each element of it is one of the session that is running, or leads from one place of
-- the own part's table to the next.
pub data Staged (r : Plan) (d : ℕ) (o : Runner) (gs : List Stage) : Where → List Element → Tokens → Type 0 where
  rests : (s : Tokens) → IsIdle r s → Staged r d o gs Resting [] s
  waits : (s : Tokens) → HoldsOnly r (PartEnd d o.run) Request 0 s → Staged r d o gs Asked [] s
  stays : (s : Tokens) (g : Stage) → Contains gs g → StirsOnly d o g s → Staged r d o gs (Within g []) [] s
  holds : (s : Tokens) (v : ℕ) → HoldsOnly r (ResultEnd 0) Answer v s → Staged r d o gs (Answered v) [] s
  is_asked :
      (s t : Tokens) (xs : List Element)
      → IsIdle r s → Does r (In (ResultEnd 0) 0) s t → Staged r d o gs Asked xs t → Staged r d o gs Resting (In (ResultEnd 0) 0 ∷ xs) s
  begins :
      (s t : Tokens) (xs : List Element) (row : Row) (w : Where)
      → HoldsOnly r (PartEnd d o.run) Request 0 s → firing o.part (s.state d) (Req o.run) ≡ Some row → Does r (Fire d (Req o.run)) s t
      → t.state d ≡ row.next 0 → LeadsTo r d o gs row 0 t w → Staged r d o gs w xs t → Staged r d o gs Asked (Fire d (Req o.run) ∷ xs) s
  stirs :
      (s t : Tokens) (xs ys : List Element) (g : Stage) (y : Element)
      → Contains gs g → StirsOnly d o g s → Does g.plan y (seen g s) (seen g t) → Stays g.plan y → PassesPort r g y → Does r (whole_element g.cut y) s t
      → Staged r d o gs (Within g ys) xs t → Staged r d o gs (Within g (y ∷ ys)) (whole_element g.cut y ∷ xs) s
  goes_on :
      (s t : Tokens) (xs : List Element) (g : Stage) (v : ℕ) (u : Tokens) (row : Row) (w : Where)
      → Contains gs g → StirsOnly d o g s → Does g.plan (Out (ResultEnd (o.asked g)) v) (seen g s) u → IsIdle g.plan u
      → v < 2 ^ o.answer_bits g → token_at r s (PartEnd d g.asked_at) Answer ≡ Some v → firing o.part (s.state d) (Ans g.asked_at) ≡ Some row
      → Does r (Fire d (Ans g.asked_at)) s t → t.state d ≡ row.next v → LeadsTo r d o gs row v t w → Staged r d o gs w xs t
      → Staged r d o gs (Within g (Out (ResultEnd (o.asked g)) v ∷ [])) (Fire d (Ans g.asked_at) ∷ xs) s
  replies :
      (s t : Tokens) (xs : List Element) (v : ℕ)
      → HoldsOnly r (ResultEnd 0) Answer v s → Does r (Out (ResultEnd 0) v) s t → Staged r d o gs Resting xs t
      → Staged r d o gs (Answered v) (Out (ResultEnd 0) v ∷ xs) s

-- The own part of a form runs the stages of a node: it waits at the handshake of its session, and asks the one handshake of a
-- command or an expression, by a request without bits.
abbrev pub session_at : Option Session → Option ℕ
session_at None = None
session_at (Some e) = Some e.asked_at

abbrev pub form_runner : Form → Runner
form_runner f =
    record {
      part = own_part f;
      run = run_shake (own_part f);
      waits = λ q. session_at (session_of f q.phase q.number);
      asked = λ g. 0;
      request_bits = λ g. 0;
      answer_bits = λ g. bits g.plan.outcome;
    }

-- Every list of a node from an idle state whose inputs keep turns is such.
abbrev pub ListsAreStaged : Type 0
ListsAreStaged =
    (r : Plan) (d : ℕ) (f : Form) (gs : List Stage) (s t : Tokens) (xs : List Element)
    → IsOpenNode r d f gs → IsIdle r s → Runs r xs s t → InputsKeepTurns r [] xs → Staged r d (form_runner f) gs Resting xs s

-- Within a session, where the whole is quiet so is the stage.
abbrev pub QuietIsWithin : Type 0
QuietIsWithin =
    (r : Plan) (d : ℕ) (f : Form) (gs : List Stage) (g : Stage) (s : Tokens)
    → IsOpenNode r d f gs → Contains gs g → StirsOnly d (form_runner f) g s → IsQuiet r s → IsQuiet g.plan (seen g s)

-- Before its firing the own part can fire, and before its output the answer can go out.
abbrev pub OwnPartCan : Type 0
OwnPartCan =
    (r : Plan) (d : ℕ) (f : Form) (gs : List Stage) (s : Tokens)
    → IsOpenNode r d f gs
    → (HoldsOnly r (PartEnd d (run_shake (own_part f))) Request 0 s → IsQuiet r s → ⊥)
    × ((v : ℕ) → HoldsOnly r (ResultEnd 0) Answer v s → IsQuiet r s → ⊥)
