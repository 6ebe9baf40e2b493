-- A fork realises its term, where its branches realise theirs.
--
-- Read first: Forks of run_children; Cases of ground_forms; Sessions of gos_nodes, Realised of gos_nodes.
use Rattle.std.specs.Prelude.{◌≡◌, ◌≢◌, ℕ, List, [], ◌∷◌, ◌++◌, All, Some, Contains, length}
use Rattle.gos_model.specs.Typing.{Typed}
use Rattle.gos_check.specs.declared.linear.Split.{Split}
use Rattle.gos_check.specs.Nodes.{Numbered, inside, meaning, type_of_node}
use Rattle.gos_plan.specs.Firing.{Phase}
use Rattle.gos_plan.specs.Plans.{Plan}
use Rattle.gos_plan.specs.TokenBits.{LiteralFits}
use Rattle.gos_realises.specs.realises.Realises.{NamesDiffer, Realises}
use Rattle.gos_nodes.specs.sessions.Sessions.{Form, Session, own_part, own_term, own_type, session_of}
use Rattle.gos_compile.specs.Wiring.{Types}
use Rattle.gos_terms.specs.meanings.Meanings.{HasLeaves}
use Rattle.gos_terms.specs.wired.Wired.{Supplies, Placing, IsWired, AreRealised, terms_of}
use Rattle.gos_terms.specs.ground_forms.Cases.{RealisesWired}
use Rattle.gos_terms.specs.run_children.Forks.{Branch, IsFork, AreBranches}

-- Each session of the form runs the branch of its handshake, and its term is that branch's, which has its type.
pub record AreSessionsOf (f : Form) (ss : List Split) (bs : List Branch) (env : Supplies) (r : Plan) : Type 0 where
  pub session :
      (p : Phase) (n : ℕ) (s : Session) → session_of f p n ≡ Some s
      → (before : List Branch) × (after : List Branch) × (b : Branch) × (bs ≡ before ++ b ∷ after) × (s.asked_at ≡ length before)
      × (s.term ≡ meaning (inside ss (terms_of env)) b.term) × (s.ty ≡ type_of_node b.term)
  pub typed : (b : Branch) → Contains bs b → Typed r.imports [] (meaning (inside ss (terms_of env)) b.term) (type_of_node b.term)

abbrev pub ForkRealises : Type 0
ForkRealises =
    (f : Form) (types : Types) (i j : ℕ) (m : Numbered) (ss : List Split) (bs : List Branch) (ns : List ℕ) (env : Supplies) (pl : Placing) (r : Plan)
    → IsFork types m ss (own_part f) bs → AreBranches types ss ns bs → bs ≢ [] → own_type f ≡ type_of_node m
    → IsWired types i j m ns env pl r → AreRealised types env ns → NamesDiffer r.imports → All LiteralFits r.parts
    → AreSessionsOf f ss bs env r
    → ((b : Branch) → Contains bs b → HasLeaves b.term)
    → ((b : Branch) → Contains bs b → RealisesWired types b.uses b.term)
    → Realises (own_type f) r (own_term f)
