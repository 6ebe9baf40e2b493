-- How a block plays its body: what its program does while its server runs the body, from state to state of the server.
--
-- That a block realises its term is shown of any server that is played so (`MatchLemmas`). A Local is (`LocalLemmas`), and so is an
-- Array.
use Rattle.std.specs.Prelude.{◌≡◌, ◌≢◌, ℕ, false, List, [], ◌∷◌, Some}
use Rattle.gos_types.specs.Events.{Request, Answer}
use Rattle.gos_model.specs.Terms.{Name, Term}
use Rattle.gos_model.specs.Stores.{Store}
use Rattle.gos_model.specs.Labels.{Given, Taken, Label, taken}
use Rattle.gos_model.specs.Moves.{Program, Config, Idle, Running, Act, Computing, Answers, Move, Moves, labels, Stalled}
use Rattle.gos_plan.specs.Firing.{Rest, State, Slot, Req, Ans, Row, firing}
use Rattle.gos_realises.specs.realises.Matched.{asks_on, event_number}
use Rattle.gos_nodes.proofs.parallel.MoveLemmas.{Came, Ended}
use Rattle.gos_nodes.specs.blocks.Servers.{Server, run_of, begin_row, end_row, Serves}

-- none of these labels is of the given port, nor of this import
abbrev pub AllOthers : Name → List Label → Type 0
AllOthers y [] = Unit {0}
AllOthers y (l ∷ ls) = (l.port ≢ Given) × (l.port ≢ Taken y) × AllOthers y ls

-- the body has ended, and with it the block
pub record Left (whole : Program) (o : Label) (c : Config) : Type 0 where
  pub acts : List Act
  pub silent : labels acts ≡ []
  pub last : Term
  pub store : Store
  pub moves : Moves whole acts c (Running last store)
  pub answers : Answers o last

-- what the block does for a service: silent moves, to where the body stands as the server does
pub record Served (Within : State → Config → Config → Type 0) (whole : Program) (q : State) (next c : Config) : Type 0 where
  pub acts : List Act
  pub to : Config
  pub silent : labels acts ≡ []
  pub moves : Moves whole acts c to
  pub within : Within q next to

-- The body of the import y and the block that has it, where the server is in a state in which it runs the body.
pub record IsPlayed (a : Server) (y : Name) (own whole : Program) (Within : State → Config → Config → Type 0) : Type 0 where
  pub runs : (q : State) (inner c : Config) → Within q inner c → (t : Term) × (s : Store) × (inner ≡ Running t s)
  pub busy : (q : State) (inner c : Config) → Within q inner c → c ≡ Idle → ⊥
  pub begins :
      (q : State) (next : ℕ → State) (v : ℕ) → firing a.part q (Req (run_of a)) ≡ Some (begin_row a next) → q.phase ≡ Rest
      → (c : Config) × Move whole Computing (Running whole.body []) c × Within (next v) (Running own.body []) c
  pub others :
      (q : State) (acts : List Act) (inner next c : Config) → AllOthers y (labels acts) → Within q inner c → Moves own acts inner next
      → (e : Config) × Moves whole acts c e × Within q next e
  pub serves :
      (q : State) (slot : Slot) (row : Row) (z : Serves a q slot row) (v : ℕ) (first more : List Act) (inner between next c : Config)
      → firing a.part q slot ≡ Some row → Came own inner
      → labels first ≡ taken y (event_number Request z.at) v ∷ [] → labels more ≡ taken y (event_number Answer z.back) (z.number v) ∷ []
      → Within q inner c → Moves own first inner between → Moves own more between next → Served Within whole (z.next v) next c
  -- where an answer is taken nobody is asked
  pub quiet :
      (q : State) (h : ℕ) (row : Row) → firing a.part q (Ans h) ≡ Some row → (v : ℕ) → asks_on (row.puts v) ≡ false
  pub leaves :
      (q : State) (next : ℕ → State) (t : Term) (s : Store) (o : Label) (d c : Config)
      → firing a.part q (Ans 0) ≡ Some (end_row a next) → Within q (Running t s) c → Ended own t s o d → Left whole o c
  pub waits : (q : State) (inner c : Config) → Came own inner → Within q inner c → Stalled own inner → Stalled whole c
