-- Nodes that run their parts one at a time are regular and rest where their parts are so wired: `;`, `if`, `while`, operators, `not`.
--
-- Read first: Cases; Forks of run_children; Kept and Inherited of numbers. The parts may share supplies, by the splits of the node.
use Rattle.std.specs.Prelude.{◌≡◌, ◌≢◌, ℕ, List, [], ◌∷◌, ◌++◌, Some, Contains, length}
use Rattle.gos_types.specs.Types.{Type', IsDone}
use Rattle.gos_model.specs.Terms.{Op}
use Rattle.gos_check.specs.declared.linear.Split.{Split}
use Rattle.gos_check.specs.Nodes.{Numbered, One, Two, If, OfNot, OfSeq, OfWhile, OfBin, type_of_node}
use Rattle.gos_check.specs.Linearity.{used}
use Rattle.gos_plan.specs.Firing.{Phase}
use Rattle.gos_nodes.specs.sessions.Sessions.{Form, Session, own_part, own_type, session_of}
use Rattle.gos_compile.specs.Wiring.{Types}
use Rattle.gos_terms.specs.wired.Regular.{RegularWired}
use Rattle.gos_terms.specs.numbers.Kept.{IsKept}
use Rattle.gos_terms.specs.numbers.Inherited.{own_numbers, first_numbers}
use Rattle.gos_terms.specs.run_children.Forks.{Branch, IsFork, AreBranches}

-- Each session of the form runs the branch of its handshake, and has its type. (What terms the form is of is free.)
abbrev pub AreRun : Form → List Branch → Type 0
AreRun f bs =
    (p : Phase) (n : ℕ) (s : Session) → session_of f p n ≡ Some s
    → (before : List Branch) × (after : List Branch) × (b : Branch) × (bs ≡ before ++ b ∷ after) × (s.asked_at ≡ length before)
    × (s.ty ≡ type_of_node b.term)

abbrev pub ForkIsSteady : Type 0
ForkIsSteady =
    (f : Form) (types : Types) (m : Numbered) (ss : List Split) (bs : List Branch) (ns : List ℕ)
    → IsFork types m ss (own_part f) bs → AreBranches types ss ns bs → bs ≢ [] → own_type f ≡ type_of_node m → AreRun f bs
    → ((b : Branch) → Contains bs b → RegularWired types b.uses b.term) → RegularWired types ns m

-- `m ; n`
abbrev pub SequenceIsSteady : Type 0
SequenceIsSteady =
    (types : Types) (ns : List ℕ) (t : Type') (ss : List Split) (m n : Numbered)
    → IsKept types ns (Two t ss OfSeq m n) → IsDone t
    → RegularWired types (first_numbers ss ns (used n)) m → RegularWired types (own_numbers ss ns n) n → RegularWired types ns (Two t ss OfSeq m n)

-- `if m then n else p`
abbrev pub ChoiceIsSteady : Type 0
ChoiceIsSteady =
    (types : Types) (ns : List ℕ) (t : Type') (ss : List Split) (m n p : Numbered)
    → IsKept types ns (If t ss m n p) → IsDone t
    → RegularWired types (first_numbers ss ns (used n ++ used p)) m → RegularWired types (own_numbers ss ns n) n
    → RegularWired types (own_numbers ss ns p) p → RegularWired types ns (If t ss m n p)

-- `while m do n`
abbrev pub LoopIsSteady : Type 0
LoopIsSteady =
    (types : Types) (ns : List ℕ) (t : Type') (ss : List Split) (m n : Numbered)
    → IsKept types ns (Two t ss OfWhile m n)
    → RegularWired types (first_numbers ss ns (used n)) m → RegularWired types (own_numbers ss ns n) n → RegularWired types ns (Two t ss OfWhile m n)

-- an operator of two operands
abbrev pub OperatorIsSteady : Type 0
OperatorIsSteady =
    (types : Types) (ns : List ℕ) (t : Type') (ss : List Split) (op : Op) (m n : Numbered)
    → IsKept types ns (Two t ss (OfBin op) m n)
    → RegularWired types (first_numbers ss ns (used n)) m → RegularWired types (own_numbers ss ns n) n
    → RegularWired types ns (Two t ss (OfBin op) m n)

-- `not m`
abbrev pub ComplementIsSteady : Type 0
ComplementIsSteady =
    (types : Types) (ns : List ℕ) (t : Type') (ss : List Split) (m : Numbered)
    → IsKept types ns (One t ss OfNot m) → RegularWired types ns m → RegularWired types ns (One t ss OfNot m)
