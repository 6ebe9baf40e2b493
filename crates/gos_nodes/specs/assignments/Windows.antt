-- Windows of `M := N`: from the request of N to its answer, and from the write to its answer, all else rests, and what is done is
-- of the one stage.
--
-- Read first: Writes; Windows of windows.
use Rattle.std.specs.Prelude.{ℕ, List, [], Contains}
use Rattle.gos_types.specs.Events.{Request, Answer}
use Rattle.gos_plan.specs.Kinds.{Assign}
use Rattle.gos_plan.specs.Plans.{PartEnd, ResultEnd, Plan}
use Rattle.gos_plan.specs.Tokens.{Tokens, Element, Runs, IsIdle, IsQuiet}
use Rattle.gos_realises.specs.realises.Regular.{InputsKeepTurns}
use Rattle.gos_nodes.specs.windows.Nodes.{Stage}
use Rattle.gos_nodes.specs.windows.Windows.{Runner, seen, HoldsOnly, StirsOnly, Resting, Staged}
use Rattle.gos_nodes.specs.assignments.Writes.{request_bits, answer_bits, waits_at, IsWrite, AreRestful}

-- An Assign of w bits runs the stages of N and M: it is run by its handshake 2, and asks of each stage's result the handshake at which
-- it asks the stage.
abbrev pub assign_runner : ℕ → Runner
assign_runner w =
    record {
      part = Assign w;
      run = 2;
      waits = λ q. waits_at q.phase;
      asked = λ g. g.asked_at;
      request_bits = λ g. request_bits g.asked_at w;
      answer_bits = λ g. answer_bits g.asked_at w;
    }

-- Every list of such a plan from an idle state whose inputs keep turns is such.
abbrev pub WritesAreStaged : Type 0
WritesAreStaged =
    (r : Plan) (d w : ℕ) (gs : List Stage) (s t : Tokens) (xs : List Element)
    → IsWrite r d w gs → AreRestful gs → IsIdle r s → Runs r xs s t → InputsKeepTurns r [] xs → Staged r d (assign_runner w) gs Resting xs s

-- Within a session, where the whole is quiet so is the stage.
abbrev pub QuietIsWithin : Type 0
QuietIsWithin =
    (r : Plan) (d w : ℕ) (gs : List Stage) (g : Stage) (s : Tokens)
    → IsWrite r d w gs → Contains gs g → StirsOnly d (assign_runner w) g s → IsQuiet r s → IsQuiet g.plan (seen g s)

-- Before its firing the Assign can fire, and before its output the answer can go out.
abbrev pub AssignCan : Type 0
AssignCan =
    (r : Plan) (d w : ℕ) (gs : List Stage) (s : Tokens)
    → IsWrite r d w gs
    → (HoldsOnly r (PartEnd d 2) Request 0 s → IsQuiet r s → ⊥) × ((v : ℕ) → HoldsOnly r (ResultEnd 0) Answer v s → IsQuiet r s → ⊥)
