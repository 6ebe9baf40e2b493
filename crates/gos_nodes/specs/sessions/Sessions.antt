-- Sessions: a form whose own part runs one child at a time does what its term does.
--
-- Read first: Firing of gos_plan; Moves of gos_model. From the request of a child to its answer the own part rests, and the
-- program steps within the child. What the own part does with its request and with each answer is a table.
use Rattle.std.specs.Prelude.{◌≡◌, ◌≢◌, ℕ, ◌-◌, ◌^◌, ◌<◌, Bool, true, false, List, [], ◌∷◌, ◌⊎◌, length, Option, Some, None, nat_eq, if◌then◌else◌}
use Rattle.gos_types.specs.Types.{Type', Com, Exp}
use Rattle.gos_model.specs.Terms as terms
use Rattle.gos_model.specs.Terms.{Op, Term}
use Rattle.gos_model.specs.Moves.{Program, Running, Act, Moves, labels}
use Rattle.gos_plan.specs.Kinds as kinds
use Rattle.gos_plan.specs.Kinds.{Part, part_contacts}
use Rattle.gos_plan.specs.Firing.{Phase, Rest, First, Second, Test, Branch, Body, Left, Right, Waiting, State, Slot, Req, Ans, Token, Row, at, put, firing}

-- The forms that run one child at a time, with their terms. `!` and `:=` are none: what they do is what a variable's plan is
-- asked for.
pub data Form : Type 0 where
  Sequence : (t : Type') (m n : Term) → Form
  Choice : (t : Type') (m n p : Term) → Form
  Loop : (m n : Term) → Form
  Binary : (op : Op) (w : ℕ) (m n : Term) → Form
  Complement : (w : ℕ) (m : Term) → Form

-- the bits of an answer
abbrev pub bits : Type' → ℕ
bits (Exp w) = w
bits t = 0

abbrev pub own_part : Form → Part
own_part (Sequence t m n) = kinds.Seq (bits t)
own_part (Choice t m n p) = kinds.If (bits t)
own_part (Loop m n) = kinds.While
own_part (Binary op w m n) = kinds.Op op w
own_part (Complement w m) = kinds.Not w

abbrev pub own_term : Form → Term
own_term (Sequence t m n) = terms.Seq m n
own_term (Choice t m n p) = terms.If m n p
own_term (Loop m n) = terms.While m n
own_term (Binary op w m n) = terms.Bin op m n
own_term (Complement w m) = terms.Not m

abbrev pub own_type : Form → Type'
own_type (Sequence t m n) = t
own_type (Choice t m n p) = t
own_type (Loop m n) = Com
own_type (Binary op w m n) = Exp (terms.result_width op w)
own_type (Complement w m) = Exp w

-- the value that an answer gives
abbrev pub value_of : Type' → ℕ → Term
value_of (Exp w) v = terms.Lit v w
value_of t v = terms.Skip

-- A session: the handshake at which the own part runs the child, the child's term and its type, and what stands around it.
pub record Session : Type 0 where
  pub asked_at : ℕ
  pub term : Term
  pub ty : Type'
  pub frame : Term → Term

abbrev pub session : ℕ → Term → Type' → (Term → Term) → Session
session h m t f = record { asked_at = h; term = m; ty = t; frame = f }

-- the handshake by which such a part is run: its last
abbrev pub run_shake : Part → ℕ
run_shake k = length (part_contacts k) - 1

-- The table: the session of a form in each state of its own part, if it is one.
abbrev pub session_of : Form → Phase → ℕ → Option Session
session_of (Sequence t m n) First k = Some (session 0 m Com (λ x. terms.Seq x n))
session_of (Sequence t m n) Second k = Some (session 1 n t (λ x. x))
session_of (Choice t m n p) Test k = Some (session 0 m (Exp 1) (λ x. terms.If x n p))
session_of (Choice t m n p) Branch k =
    Some (session (if nat_eq k 1 then 1 else 2) (if nat_eq k 1 then n else p) t (λ x. x))
session_of (Loop m n) Test k = Some (session 0 m (Exp 1) (λ x. terms.If x (terms.Seq n (terms.While m n)) terms.Skip))
session_of (Loop m n) Body k = Some (session 1 n Com (λ x. terms.Seq x (terms.While m n)))
session_of (Binary op w m n) Left k = Some (session 0 m (Exp w) (λ x. terms.Bin op x n))
session_of (Binary op w m n) Right k = Some (session 1 n (Exp w) (λ x. terms.Held k op x))
session_of (Complement w m) Waiting k = Some (session 0 m (Exp w) (λ x. terms.Not x))
session_of f p k = None

-- only computation steps
abbrev pub Computes : Program → List Act → Term → Term → Type 0
Computes g acts m n = (labels acts ≡ []) × Moves g acts (Running m []) (Running n [])

-- What a firing of the own part leads to, from this term: the next session, or the own answer. If it takes an answer and goes
-- on, there is a step.
abbrev pub LeadsOn : Program → Form → Term → State → List Token → Bool → Type 0
LeadsOn g f m q ts answered =
    ((s : Session) × (acts : List Act) × (session_of f q.phase q.number ≡ Some s) × (ts ≡ put (Req s.asked_at) 0 ∷ [])
    × Computes g acts m (s.frame s.term) × (answered ≡ true → acts ≢ []))
    ⊎ ((k : ℕ) × (acts : List Act) × (q.phase ≡ Rest) × (ts ≡ put (Ans (run_shake (own_part f))) k ∷ [])
    × Computes g acts m (value_of (own_type f) k))

-- The table is right: what the own part does with its request, and with each answer that fits, is what the term does.
pub record TableIsRight (g : Program) (f : Form) : Type 0 where
  pub begins :
      (n : ℕ) (r : Row) → firing (own_part f) (at Rest n) (Req (run_shake (own_part f))) ≡ Some r
      → LeadsOn g f (own_term f) (r.next 0) (r.puts 0) false
  pub goes_on :
      (q : State) (s : Session) (r : Row) (v : ℕ)
      → session_of f q.phase q.number ≡ Some s → v < 2 ^ bits s.ty → firing (own_part f) q (Ans s.asked_at) ≡ Some r
      → LeadsOn g f (s.frame (value_of s.ty v)) (r.next v) (r.puts v) true
  pub no_other :
      (q : State) (slot : Slot) (r : Row) → firing (own_part f) q slot ≡ Some r
      → ((q.phase ≡ Rest) × (slot ≡ Req (run_shake (own_part f))))
      ⊎ ((s : Session) × (session_of f q.phase q.number ≡ Some s) × (slot ≡ Ans s.asked_at))

-- of every form, in every program
abbrev pub TablesAreRight : Type 0
TablesAreRight = (g : Program) (f : Form) → TableIsRight g f
