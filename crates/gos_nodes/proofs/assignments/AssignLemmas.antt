-- `M := N` is a whole that runs stages: its Assign asks N, and writes M with the number.
use Rattle.std.specs.Prelude.{◌^◌, ◌<◌}
use Rattle.std.proofs.Common.{ℕ, List, [], ◌∷◌, Some, inl, inr, refl, sym, ◌∙◌, ap, subst}
use Rattle.gos_types.specs.Types.{IsDone}
use Rattle.gos_plan.specs.Firing.{State, Req, Token, put}
use Rattle.gos_plan.specs.Plans.{Plan}
use Rattle.gos_plan.proofs.TokenBitsLemmas.{idle_fits}
use Rattle.gos_nodes.specs.windows.Nodes.{Stage}
use Rattle.gos_nodes.proofs.windows.RunnerLemmas as runners
use Rattle.gos_nodes.proofs.windows.RunnerLemmas.{IsAskedStage, Table, RunsStages}
use Rattle.gos_nodes.proofs.windows.NodeLemmas.{AtRest}
use Rattle.gos_nodes.proofs.windows.WindowLemmas.{along}
use Rattle.gos_nodes.proofs.windows.QuietLemmas.{stage_is_quiet, part_can}
use Rattle.gos_nodes.proofs.windows.OrderLemmas.{runner_is_regular}
use Rattle.gos_nodes.specs.assignments.Writes.{request_bits, IsWriteStage, HasStages, IsWrite, WriteIsRegular}
use Rattle.gos_nodes.specs.assignments.Windows.{assign_runner, WritesAreStaged, QuietIsWithin, AssignCan}
use Rattle.gos_nodes.proofs.assignments.AskedLemmas.{asked_by}
use Rattle.gos_nodes.proofs.assignments.OwnLemmas as own

asked_stage : (r : Plan) (d w : ℕ) (g : Stage) → IsWriteStage r d w g → IsAskedStage r d (assign_runner w) g
asked_stage r d w g stage =
    record {
      region = stage.region;
      outside = stage.outside;
      asked = asked_by g.plan g.asked_at w stage.low stage.outcome;
      only = stage.only;
      regular = stage.regular;
      loyal = stage.loyal;
      run_by = stage.run_by;
      imports = stage.imports;
      names = stage.names;
      ports = stage.ports;
      heard = stage.heard;
    }

pub has_stages : (r : Plan) (d w : ℕ) (gs : List Stage) → HasStages r d w gs → runners.HasStages r d (assign_runner w) gs
has_stages r d w gs base =
    record {
      right = base.right;
      own = base.own;
      literals = base.literals;
      names = base.names;
      stages = λ g has. asked_stage r d w g (base.stages g has);
    }

module _ (r : Plan) (d w : ℕ) (gs : List Stage) (node : IsWrite r d w gs) where
  leads : (q : State) (ts : List Token) → own.LeadsOn w q ts → runners.LeadsOn (assign_runner w) gs q ts
  leads q ts (inl (h, n, low, is, puts, fits)) =
      let (g, has, same) = node.staged h low in
      inl
      (g, n, has, is ∙ ap Some (sym same), puts ∙ ap (λ (k : ℕ). put (Req k) n ∷ []) (sym same), subst (λ (k : ℕ). n < 2 ^ request_bits k w) (sym same) fits)
  leads q ts (inr answer) = inr answer

  table : Table (assign_runner w) gs
  table =
      record {
        begins = λ n row fires. leads (row.next 0) (row.puts 0) (own.begins w n row fires);
        goes_on = λ q g v row has is fits fires. leads (row.next v) (row.puts v) (own.goes_on w q g.asked_at v row is fits fires);
        no_other = own.no_other w;
        takes_answer = own.takes_answer w;
        takes_request = own.takes_request w;
        none_at_rest = λ q h rests is. own.none_at_rest q.phase h rests is;
        apart = λ q h is run. own.asked_apart q.phase h is run;
      }

  pub write_runs : RunsStages r d (assign_runner w) gs
  write_runs =
      record {
        base = has_stages r d w gs node.base;
        done = subst IsDone (sym node.outcome) tt;
        table = table;
        one = node.one;
        result = node.result;
        joints = node.joints;
      }

pub writes_are_staged : WritesAreStaged
writes_are_staged r d w gs s t xs node restful idle runs turns =
    along r d (assign_runner w) gs (write_runs r d w gs node) restful xs AtRest s t [] (idle_fits r s idle) (idle, (refl, λ k h. refl)) runs turns

pub quiet_is_within : QuietIsWithin
quiet_is_within r d w gs g s node has stirs quiet = stage_is_quiet r d (assign_runner w) gs g s (write_runs r d w gs node) has stirs quiet

pub assign_can : AssignCan
assign_can r d w gs s node = part_can r d (assign_runner w) gs s (write_runs r d w gs node)

pub write_is_regular : WriteIsRegular
write_is_regular r d w gs node restful = runner_is_regular r d (assign_runner w) gs (write_runs r d w gs node) restful
