-- A node's plan suits its term: the term has its type under the imports of the whole, since each child has its own under those
-- of its stage.
use Rattle.std.specs.Prelude.{◌≡◌, ℕ, [], Some}
use Rattle.std.proofs.Common.{refl}
use Rattle.gos_types.specs.Types.{Type', Com, Exp, Var, Pair, Fun, IsDone}
use Rattle.gos_model.specs.Terms.{Term, Skip, Seq, If, While, Not, Bin, Held}
use Rattle.gos_model.specs.Typing.{Imports, Typed}
use Rattle.gos_plan.specs.Firing.{Phase, First, Second, Test, Branch, Body, Left, Right, Waiting}
use Rattle.gos_plan.specs.Plans.{Plan}
use Rattle.gos_realises.specs.realises.Matched.{RealisesInTurn}
use Rattle.gos_realises.specs.realises.Realises.{Means}
use Rattle.gos_nodes.specs.sessions.Sessions.{Form, Sequence, Choice, Loop, Binary, Complement, Session, session, session_of, own_term, own_type}
use Rattle.gos_programs.proofs.contexts.WideningLemmas.{typed_more}
use Rattle.gos_nodes.proofs.windows.FormLemmas.{open_node_is_regular}
use Rattle.gos_nodes.specs.nodes.Realised.{NodeRealisesByType}
use Rattle.gos_nodes.proofs.nodes.ChildLemmas.{stage_among}
use Rattle.gos_nodes.proofs.nodes.MatchedLemmas.{node_realises}

-- each session's term has its type
abbrev HaveTypes : Imports → Form → Type 0
HaveTypes i f = (p : Phase) (n : ℕ) (e : Session) → session_of f p n ≡ Some e → Typed i [] e.term e.ty

-- so has the form's
own_typed : (i : Imports) (f : Form) → IsDone (own_type f) → HaveTypes i f → Typed i [] (own_term f) (own_type f)
own_typed i (Sequence t m n) done each =
    (done, each First 0 (session 0 m Com (λ x. Seq x n)) refl, each Second 0 (session 1 n t (λ x. x)) refl)
own_typed i (Choice t m n p) done each = (
  done,
  each Test 0 (session 0 m (Exp 1) (λ x. If x n p)) refl,
  each Branch 1 (session 1 n t (λ x. x)) refl,
  each Branch 0 (session 2 p t (λ x. x)) refl,
)
own_typed i (Loop m n) done each = (
  refl,
  each Test 0 (session 0 m (Exp 1) (λ x. If x (Seq n (While m n)) Skip)) refl,
  each Body 0 (session 1 n Com (λ x. Seq x (While m n))) refl,
)
own_typed i (Binary op w m n) done each = (
  w,
  refl,
  each Left 0 (session 0 m (Exp w) (λ x. Bin op x n)) refl,
  each Right 0 (session 1 n (Exp w) (λ x. Held 0 op x)) refl,
)
own_typed i (Complement w m) done each = (w, refl, each Waiting 0 (session 0 m (Exp w) (λ x. Not x)) refl)

means_done : (t : Type') (p : Plan) (m : Term) → IsDone t → RealisesInTurn p m → Means t p m
means_done Com p m d h = h
means_done (Exp w) p m d h = h
means_done (Var w) p m d h = absurd d
means_done (Pair a b) p m d h = absurd d
means_done (Fun a b) p m d h = absurd d

pub node_realises_by_type : NodeRealisesByType
node_realises_by_type r d f gs node ports real =
    record {
      suits =
          record {
            right = node.right;
            literals = node.literals;
            outcome = node.outcome;
            all_ports = ports;
            names = node.names;
            typed = own_typed r.imports f node.done each;
            regular = (open_node_is_regular r d f gs node).0;
          };
      means = means_done (own_type f) r (own_term f) node.done (node_realises r d f gs node real);
    }
  where
    each : (p : Phase) (n : ℕ) (e : Session) → session_of f p n ≡ Some e → Typed r.imports [] e.term e.ty
    each p n e h =
        let s = real p n e h in
        typed_more s.0.plan.imports r.imports (stage_among r d s.0 node.names (node.stages s.0 s.1).stage) [] e.term e.ty s.4
