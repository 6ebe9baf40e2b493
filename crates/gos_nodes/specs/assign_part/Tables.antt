-- The table of `:=`: what an Assign does with its request and with each answer, and what its term does meanwhile.
--
-- Read first: Firing of gos_plan; Moves of gos_model; Matched of gos_realises. The number is asked for first, then it is
-- written, and then the Assign answers.
use Rattle.std.specs.Prelude.{◌≡◌, ◌⊎◌, ℕ, [], ◌∷◌, Some, slice_get}
use Rattle.gos_types.specs.Types.{Var}
use Rattle.gos_model.specs.Terms as terms
use Rattle.gos_model.specs.Terms.{Name, Term, Lit, Import, Wait, Put}
use Rattle.gos_model.specs.Typing.{import_type}
use Rattle.gos_model.specs.Stores.{Store}
use Rattle.gos_model.specs.Labels.{taken}
use Rattle.gos_model.specs.Moves.{Program, Running, Computing, Showing, Moves, Stalled}
use Rattle.gos_plan.specs.Kinds.{Assign}
use Rattle.gos_plan.specs.Firing.{Rest, Value, Writing, State, Slot, Req, Ans, Row, at, put, firing}
use Rattle.gos_plan.specs.Plans.{ImportEnd, Plan}
use Rattle.gos_plan.specs.Tokens.{Out, In}
use Rattle.gos_realises.specs.realises.Matched.{shows}

-- an Assign that is taken so leads to this state and puts this token
abbrev pub Leads : Row → ℕ → State → Slot → ℕ → Type 0
Leads r v q slot n = (r.next v ≡ q) × (r.puts v ≡ put slot n ∷ [])

-- what an Assign of w bits does: run, it asks for the number; it writes the number that it is given; and when that is done
-- it answers
pub record AssignDoes (w : ℕ) : Type 0 where
  pub begins : (n v : ℕ) (r : Row) → firing (Assign w) (at Rest n) (Req 2) ≡ Some r → Leads r v (at Value n) (Req 0) 0
  pub writes : (n v : ℕ) (r : Row) → firing (Assign w) (at Value n) (Ans 0) ≡ Some r → Leads r v (at Writing n) (Req 1) v
  pub ends : (n v : ℕ) (r : Row) → firing (Assign w) (at Writing n) (Ans 1) ≡ Some r → Leads r v (at Rest n) (Ans 2) 0
  pub no_other :
      (q : State) (slot : Slot) (r : Row) → firing (Assign w) q slot ≡ Some r
      → ((q.phase ≡ Rest) × (slot ≡ Req 2)) ⊎ (((q.phase ≡ Value) × (slot ≡ Ans 0)) ⊎ ((q.phase ≡ Writing) × (slot ≡ Ans 1)))

-- What its term does in a program that takes the variable x: one step where the number is there, whatever the variable;
-- at x the write, of which it waits for the answer, and the answer, with which it is done.
pub record WriteMoves (g : Program) (x : Name) (w : ℕ) (s : Store) : Type 0 where
  pub computes : (m : Term) (v : ℕ) → Moves g (Computing ∷ []) (Running (terms.Assign m (Lit v w)) s) (Running (Put m v) s)
  pub writes : (v : ℕ) → Moves g (Showing (taken x 2 v) ∷ []) (Running (Put (Import x) v) s) (Running (Wait x 3) s)
  pub answered : Moves g (Showing (taken x 3 0) ∷ []) (Running (Wait x 3) s) (Running terms.Skip s)
  pub waits : Stalled g (Running (Wait x 3) s)

-- what a plan with the variable x for its import k shows at that import when it writes, and when that is answered
abbrev pub WriteShows : Plan → ℕ → Name → Type 0
WriteShows p k x =
    ((v : ℕ) → shows p (Out (ImportEnd k 1) v) ≡ taken x 2 v ∷ []) × ((v : ℕ) → shows p (In (ImportEnd k 1) v) ≡ taken x 3 v ∷ [])

-- of every width; of every program that takes a variable of that name; of every plan with such an import
abbrev pub AssignsDo : Type 0
AssignsDo = (w : ℕ) → AssignDoes w

abbrev pub WritesMove : Type 0
WritesMove = (g : Program) (x : Name) (w : ℕ) (s : Store) → import_type g.imports x ≡ Some (Var w) → WriteMoves g x w s

abbrev pub WritesShow : Type 0
WritesShow = (p : Plan) (k w : ℕ) (x : Name) → slice_get p.imports k ≡ Some (record { name = x; ty = Var w }) → WriteShows p k x
