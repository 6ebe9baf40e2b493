-- A node is a whole that runs stages: its own part's table is that of a form, and each stage is asked by a request without bits.
use Rattle.std.specs.Prelude.{◌^◌, ◌<◌, None, Contains}
use Rattle.std.proofs.Common.{◌≡◌, ℕ, List, [], ◌∷◌, Option, Some, inl, inr, refl, sym, ◌∙◌, ap, subst, pow_pos}
use Rattle.std.proofs.lemmas.Option.{none-some, same_Some}
use Rattle.gos_types.specs.Types.{Type', IsDone}
use Rattle.gos_plan.specs.Firing.{State, Req, Ans, Token, Row, at, put, firing}
use Rattle.gos_plan.specs.Plans.{ResultEnd, Plan}
use Rattle.gos_model.specs.Moves.{Program}
use Rattle.gos_model.specs.Terms.{Term}
use Rattle.gos_plan.proofs.TokenBitsLemmas.{idle_fits}
use Rattle.gos_realises.proofs.realises.InputLemmas.{result_asks}
use Rattle.gos_nodes.specs.sessions.Sessions as forms
use Rattle.gos_nodes.specs.sessions.Sessions.{Form, Session, bits, own_part, own_term, session_of, value_of}
use Rattle.gos_nodes.proofs.sessions.TableLemmas.{tables_are_right}
use Rattle.gos_nodes.specs.windows.Nodes.{Stage, IsStage, NodeKeepsTurns, NodeIsRegular}
use Rattle.gos_nodes.specs.windows.OpenNodes.{IsOpenNode, OpenNodeIsRegular}
use Rattle.gos_nodes.specs.windows.Windows.{session_at, form_runner, ListsAreStaged, QuietIsWithin, OwnPartCan}
use Rattle.gos_nodes.proofs.windows.PortLemmas.{stands_contact}
use Rattle.gos_nodes.proofs.windows.OwnLemmas.{takes_answer, takes_request, none_at_rest, asked_apart}
use Rattle.gos_nodes.proofs.windows.OpenLemmas.{ground_node_is_open}
use Rattle.gos_nodes.proofs.windows.AskedLemmas.{done_asked}
use Rattle.gos_nodes.proofs.windows.RunnerLemmas.{IsAskedStage, LeadsOn, Table, RunsStages, AreRestful}
use Rattle.gos_nodes.proofs.windows.NodeLemmas.{AtRest}
use Rattle.gos_nodes.proofs.windows.WindowLemmas.{along}
use Rattle.gos_nodes.proofs.windows.QuietLemmas.{stage_is_quiet, part_can}
use Rattle.gos_nodes.proofs.windows.OutputLemmas.{outputs_in_turn, is_restful}
use Rattle.gos_nodes.proofs.windows.OrderLemmas.{runner_is_regular}

-- the session in which a form waits there
pub session_there : (o : Option Session) (h : ℕ) → session_at o ≡ Some h → (e : Session) × (o ≡ Some e) × (e.asked_at ≡ h)
session_there None h is = absurd (none-some h is)
session_there (Some e) h is = (e, refl, same_Some e.asked_at h is)

module _ (r : Plan) (d : ℕ) (f : Form) (gs : List Stage) (node : IsOpenNode r d f gs) where
  asked_stage : (g : Stage) → Contains gs g → IsAskedStage r d (form_runner f) g
  asked_stage g has =
      record {
        region = stage.region;
        outside = stage.outside;
        asked = done_asked g.plan stage.outcome;
        only = λ h stands.
            let (k, is) = stands_contact g.plan stage.region.right (ResultEnd h) stands in (result_asks g.plan.outcome stage.outcome h k is).0;
        regular = λ s t xs tidy idle session runs turns. stage.regular s t xs idle runs turns;
        loyal = λ n i side number s w u xs slot tidy idle session runs turns does low. stage.loyal n i side number s w u xs slot idle runs turns does low;
        run_by = stage.run_by;
        imports = stage.imports;
        names = stage.names;
        ports = stage.ports;
        heard = (node.stages g has).heard;
      }
    where
      stage : IsStage r d g
      stage = (node.stages g has).stage

  pub are_restful : AreRestful (form_runner f) gs
  are_restful g has s t xs v tidy idle session runs turns = (node.stages g has).stage.restful s t xs v idle runs turns

  abbrev program : Program
  program = record { imports = r.imports; body = own_term f }

  leads : (m : Term) (answered : _) (q : State) (ts : List Token) → forms.LeadsOn program f m q ts answered → LeadsOn (form_runner f) gs q ts
  leads m answered q ts (inl (e, acts, is, puts, steps, more)) =
      let (g, has, same, ty) = node.staged q.phase q.number e is in
      inl (g, 0, has, ap session_at is ∙ ap Some (sym same), puts ∙ ap (λ (h : ℕ). put (Req h) 0 ∷ []) (sym same), pow_pos 0)
  leads m answered q ts (inr (k, acts, rests, puts, steps)) = inr (k, rests, puts)

  goes_on : (q : State) (g : Stage) (v : ℕ) (row : Row) → Contains gs g → session_at (session_of f q.phase q.number) ≡ Some g.asked_at
      → v < 2 ^ bits g.plan.outcome → firing (own_part f) q (Ans g.asked_at) ≡ Some row → LeadsOn (form_runner f) gs (row.next v) (row.puts v)
  goes_on q g v row has waits fits fires =
      let (e, is, same) = session_there (session_of f q.phase q.number) g.asked_at waits in
      let (k, also, at, ty) = node.staged q.phase q.number e is in
      let outcome : g.plan.outcome ≡ e.ty = ap (λ (x : Stage). x.plan.outcome) (node.one g k has also (sym same ∙ sym at)) ∙ ty in
      leads (e.frame (value_of e.ty v)) _ (row.next v) (row.puts v)
      ((tables_are_right program f).goes_on q e row v is (subst (λ (x : Type'). v < 2 ^ bits x) outcome fits)
      (ap (λ (h : ℕ). firing (own_part f) q (Ans h)) same ∙ fires))

  table : Table (form_runner f) gs
  table =
      record {
        begins = λ n row fires. leads (own_term f) _ (row.next 0) (row.puts 0) ((tables_are_right program f).begins n row fires);
        goes_on = goes_on;
        no_other = λ q slot row fires.
            elim ((tables_are_right program f).no_other q slot row fires) [
              | inl rest ↦ inl rest
              | inr (e, is, slot_is) ↦ inr (e.asked_at, ap session_at is, slot_is)
            ];
        takes_answer = λ q h waits.
            let (e, is, same) = session_there (session_of f q.phase q.number) h waits in
            subst (λ (k : ℕ). (row : Row) × (firing (own_part f) q (Ans k) ≡ Some row)) same (takes_answer f q e is);
        takes_request = takes_request f;
        none_at_rest = λ q h rests waits.
            let (e, is, same) = session_there (session_of f q.phase q.number) h waits in
            none_at_rest f q.number e (ap (λ p. session_of f p q.number) (sym rests) ∙ is);
        apart = λ q h waits run.
            let (e, is, same) = session_there (session_of f q.phase q.number) h waits in asked_apart f q.phase q.number e is (same ∙ run);
      }

  pub node_runs : RunsStages r d (form_runner f) gs
  node_runs =
      record {
        base = record { right = node.right; own = node.own; literals = node.literals; names = node.names; stages = asked_stage };
        done = subst IsDone (sym node.outcome) node.done;
        table = table;
        one = node.one;
        result = node.result;
        joints = node.joints;
      }

pub lists_are_staged : ListsAreStaged
lists_are_staged r d f gs s t xs node idle runs turns =
    along r d (form_runner f) gs (node_runs r d f gs node) (are_restful r d f gs node) xs AtRest s t [] (idle_fits r s idle)
    (idle, (refl, λ k h. refl)) runs turns

pub quiet_is_within : QuietIsWithin
quiet_is_within r d f gs g s node has stirs quiet = stage_is_quiet r d (form_runner f) gs g s (node_runs r d f gs node) has stirs quiet

pub own_part_can : OwnPartCan
own_part_can r d f gs s node = part_can r d (form_runner f) gs s (node_runs r d f gs node)

pub node_keeps_turns : NodeKeepsTurns
node_keeps_turns r d f gs node =
    let whole = ground_node_is_open r d f gs node in
    let runs = node_runs r d f gs whole in
    let rests = are_restful r d f gs whole in (outputs_in_turn r d (form_runner f) gs runs rests, is_restful r d (form_runner f) gs runs rests)

pub open_node_is_regular : OpenNodeIsRegular
open_node_is_regular r d f gs node = runner_is_regular r d (form_runner f) gs (node_runs r d f gs node) (are_restful r d f gs node)

pub node_is_regular : NodeIsRegular
node_is_regular r d f gs node = open_node_is_regular r d f gs (ground_node_is_open r d f gs node)
