-- Servers: the parts that run a body, and serve it a supply of a type while it runs.
--
-- Read first: Firing of gos_plan; Regular of gos_realises. A server asks its body at handshake 0, and is run at its last one; at those
-- between it serves the supply, as an import of this type is served. A local variable is a server of a variable, and an array of an array.
use Rattle.std.specs.Prelude.{◌≡◌, ◌^◌, ◌<◌, ℕ, zero, suc, Bool, true, false, not, [], ◌∷◌, ◌++◌, Some, nat_eq, slice_get, if◌then◌else◌}
use Rattle.gos_types.specs.declared.shakes.Role.TheVariants.{Ask}
use Rattle.gos_types.specs.Types.{Type', Var}
use Rattle.gos_types.specs.Events.{Direction}
use Rattle.gos_model.specs.Typing.{array_type}
use Rattle.gos_plan.specs.Kinds.{Part, Contact, asks, serves, contacts_of, part_contacts, Local, Array}
use Rattle.gos_plan.specs.Firing.{Phase, Rest, Active, Cells, Reading, WritingTo, State, Slot, Req, Ans, Row, put, firing}
use Rattle.gos_plan.specs.Tokens.{shake_of, way_of, way_taken, way_put}
use Rattle.gos_realises.specs.realises.Regular.{is_request, count, KeepsTurnsOf}

-- A part, and the type of its supply; in which phases the body runs, and which handshakes of the supply are open to it in a state.
pub record Server : Type 0 where
  pub part : Part
  pub supply : Type'
  pub runs : Phase → Bool
  pub opened : State → ℕ → Bool

-- the handshake by which a server is run
abbrev pub run_of : Server → ℕ
run_of a = suc (count a.supply)

-- what of a supply is open after a request or an answer has passed at one of its handshakes
abbrev pub after_pass : ℕ → Direction → (ℕ → Bool) → ℕ → Bool
after_pass h way before n = if nat_eq h n then is_request way else before n

-- a request finds a handshake closed, and an answer finds it open
abbrev pub FindsTurn : ℕ → Direction → (ℕ → Bool) → Type 0
FindsTurn h way before = before h ≡ not (is_request way)

-- rows that take one token and put one: of a server that is run, that serves, and whose body ends
abbrev pub begin_row : Server → (ℕ → State) → Row
begin_row a next = record { takes = Req (run_of a); next = next; puts = λ v. put (Req 0) 0 ∷ [] }

abbrev pub serve_row : Slot → Slot → (ℕ → ℕ) → (ℕ → State) → Row
serve_row slot reply number next = record { takes = slot; next = next; puts = λ v. put reply (number v) ∷ [] }

abbrev pub end_row : Server → (ℕ → State) → Row
end_row a next = record { takes = Ans 0; next = next; puts = λ v. put (Ans (run_of a)) v ∷ [] }

-- A row by which a server serves: what the body puts at one handshake of the supply is taken, and a token is put back at once, at this
-- handshake or at another one. What is put back comes in turn, and a request has at most the bits of its handshake.
pub record Serves (a : Server) (q : State) (slot : Slot) (w : Row) : Type 0 where
  pub at : ℕ
  pub back : ℕ
  pub taken : Contact
  pub given : Contact
  pub reply : Slot
  pub number : ℕ → ℕ
  pub next : ℕ → State
  pub is_row : w ≡ serve_row slot reply number next
  pub at_there : slice_get (contacts_of a.supply) at ≡ Some taken
  pub takes_at : shake_of slot ≡ suc at
  pub takes : way_of slot ≡ way_taken taken.role
  pub back_there : slice_get (contacts_of a.supply) back ≡ Some given
  pub puts_at : shake_of reply ≡ suc back
  pub puts : way_of reply ≡ way_put given.role
  pub fits : (v : ℕ) → given.role ≡ Ask → number v < 2 ^ given.ask_bits
  pub running : a.runs q.phase ≡ true
  pub stays : (v : ℕ) → a.runs (next v).phase ≡ true
  pub turn : FindsTurn back (way_put given.role) (after_pass at (way_taken taken.role) (a.opened q))
  pub opened :
      (v h : ℕ)
      → a.opened (next v) h ≡ after_pass back (way_put given.role) (after_pass at (way_taken taken.role) (a.opened q)) h

-- What a row of a server does. It begins, with nothing of the supply open; it serves; or its body ends, with nothing open.
pub data ServerRow (a : Server) (q : State) (slot : Slot) (w : Row) : Type 0 where
  begins :
      (next : ℕ → State) → q.phase ≡ Rest → slot ≡ Req (run_of a) → w ≡ begin_row a next → ((v : ℕ) → a.runs (next v).phase ≡ true)
      → ((v h : ℕ) → a.opened (next v) h ≡ false) → ServerRow a q slot w
  serves_one : Serves a q slot w → ServerRow a q slot w
  ends :
      (next : ℕ → State) → a.runs q.phase ≡ true → slot ≡ Ans 0 → w ≡ end_row a next → ((v : ℕ) → (next v).phase ≡ Rest)
      → ((h : ℕ) → a.opened q h ≡ false) → ServerRow a q slot w

-- The part serves this supply to a body that answers with v bits: it has the handshakes and no other rows, while the body runs the
-- supply's turns are kept, and each token that comes in turn finds a row.
pub record IsServer (a : Server) (v : ℕ) : Type 0 where
  pub contacts : part_contacts a.part ≡ asks 0 v ∷ (contacts_of a.supply ++ serves 0 v ∷ [])
  pub rests : a.runs Rest ≡ false
  pub closed : (q : State) (h : ℕ) → a.runs q.phase ≡ false → a.opened q h ≡ false
  pub turns : (q : State) → a.runs q.phase ≡ true → KeepsTurnsOf a.supply (a.opened q)
  pub rows : (q : State) (slot : Slot) (w : Row) → firing a.part q slot ≡ Some w → ServerRow a q slot w
  pub begun : (q : State) → q.phase ≡ Rest → (w : Row) × (firing a.part q (Req (run_of a)) ≡ Some w)
  pub served :
      (q : State) (slot : Slot) (h : ℕ) (c : Contact)
      → a.runs q.phase ≡ true → slice_get (contacts_of a.supply) h ≡ Some c → shake_of slot ≡ suc h → way_of slot ≡ way_taken c.role
      → FindsTurn h (way_taken c.role) (a.opened q) → KeepsTurnsOf a.supply (after_pass h (way_taken c.role) (a.opened q))
      → (w : Row) × (firing a.part q slot ≡ Some w)
  pub ended :
      (q : State)
      → a.runs q.phase ≡ true → ((h : ℕ) (c : Contact) → slice_get (contacts_of a.supply) h ≡ Some c → a.opened q h ≡ false)
      → (w : Row) × (firing a.part q (Ans 0) ≡ Some w)

-- A local variable of w bits, whose body answers with v bits, is a server of a variable. What is asked of it is answered at once, so
-- nothing stays open.
abbrev pub is_active : Phase → Bool
is_active Active = true
is_active p = false

abbrev pub local_server : ℕ → ℕ → Server
local_server w v = record { part = Local w v; supply = Var w; runs = is_active; opened = λ q h. false }

-- An array of n numbers of w bits, whose body answers with v bits, is a server of an array. A read and a write stay open while it waits
-- for their index.
abbrev pub array_runs : Phase → Bool
array_runs (Cells ns) = true
array_runs (Reading ns) = true
array_runs (WritingTo ns) = true
array_runs p = false

abbrev pub array_opened : Phase → ℕ → Bool
array_opened (Reading ns) zero = true
array_opened (Reading ns) (suc zero) = true
array_opened (WritingTo ns) zero = true
array_opened (WritingTo ns) (suc (suc zero)) = true
array_opened p h = false

abbrev pub array_server : ℕ → ℕ → ℕ → Server
array_server w n v =
    record { part = Array w n v; supply = array_type n w; runs = array_runs; opened = λ q. array_opened q.phase }
