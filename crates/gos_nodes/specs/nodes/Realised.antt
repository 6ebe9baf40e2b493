-- That a node realises its term, where the plans of its stages realise theirs. Its imports may have any types.
--
-- Read first: Windows of windows; Sessions of sessions; Matched, Realises of gos_realises.
use Rattle.std.specs.Prelude.{◌≡◌, ℕ, List, [], Some, Contains}
use Rattle.gos_types.specs.Types.{IsDone}
use Rattle.gos_model.specs.Terms.{Term}
use Rattle.gos_model.specs.Typing.{Typed}
use Rattle.gos_model.specs.Moves.{Idle}
use Rattle.gos_plan.specs.Firing.{Phase}
use Rattle.gos_plan.specs.Plans.{Plan}
use Rattle.gos_plan.specs.Tokens.{Tokens, Element, Runs, IsIdle}
use Rattle.gos_realises.specs.realises.Regular.{InputsKeepTurns}
use Rattle.gos_realises.specs.realises.Matched.{IsMatched, program_of, RealisesInTurn}
use Rattle.gos_realises.specs.realises.Realises.{AllPorts, Realises}
use Rattle.gos_nodes.specs.sessions.Sessions.{Form, Session, session_of, own_term, own_type}
use Rattle.gos_nodes.specs.windows.Nodes.{Stage, IsRestful}
use Rattle.gos_nodes.specs.windows.OpenNodes.{IsOpenNode}

-- each session of the form has a stage whose plan realises the session's term
abbrev pub AreRealised : Form → List Stage → Type 0
AreRealised f gs =
    (p : Phase) (n : ℕ) (e : Session) → session_of f p n ≡ Some e
    → (g : Stage) × Contains gs g × (g.asked_at ≡ e.asked_at) × (g.plan.outcome ≡ e.ty)
    × Typed g.plan.imports [] e.term e.ty × RealisesInTurn g.plan e.term

-- Then each list of the node from an idle state, where its inputs keep turns, is matched by the form's term.
abbrev pub NodeIsMatched : Type 0
NodeIsMatched =
    (r : Plan) (d : ℕ) (f : Form) (gs : List Stage) (s t : Tokens) (xs : List Element)
    → IsOpenNode r d f gs → AreRealised f gs → IsIdle r s → Runs r xs s t → InputsKeepTurns r [] xs
    → IsMatched r (program_of r (own_term f)) xs s Idle

-- So the node realises the term: its lists are orderly too, since a node is regular.
abbrev pub NodeRealises : Type 0
NodeRealises = (r : Plan) (d : ℕ) (f : Form) (gs : List Stage) → IsOpenNode r d f gs → AreRealised f gs → RealisesInTurn r (own_term f)

-- The plan suits the term too, where its imports are ports, so it realises it by its type.
abbrev pub NodeRealisesByType : Type 0
NodeRealisesByType =
    (r : Plan) (d : ℕ) (f : Form) (gs : List Stage) → IsOpenNode r d f gs → AllPorts r.imports → AreRealised f gs → Realises (own_type f) r (own_term f)

-- A plan that realises a term of a command or an expression rests after its answer.
abbrev pub RealisersRest : Type 0
RealisersRest =
    (p : Plan) (m : Term)
    → IsDone p.outcome → RealisesInTurn p m → IsRestful p
