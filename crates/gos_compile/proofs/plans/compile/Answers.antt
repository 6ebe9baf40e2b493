use Rattle.std.proofs.Common.{ap, sym, subst, ◌∙◌, ◌≡◌, ◌≤◌, ◌+◌, All, length, map, List}
use Rattle.gos_types.specs.declared.types.Ty.{Ty}
use Rattle.gos_types.specs.Types.{type_of}
use Rattle.gos_syntax.specs.Modules.{SeenImport}
use Rattle.gos_model.specs.Typing.{Imports}
use Rattle.gos_model.specs.Sources as sources
use Rattle.gos_check.specs.declared.linear.Node.{Node}
use Rattle.gos_check.specs.Nodes.{Numbered, node_seen}
use Rattle.gos_plan.specs.declared.kinds.Kind.{Kind}
use Rattle.gos_plan.specs.declared.plan.PlanImport.{PlanImport}
use Rattle.gos_plan.specs.Seen.{SeenPlan, plan_of, part_of, import_of}
use Rattle.gos_ties.specs.declared.points.Tie.{Tie}
use Rattle.gos_realises.specs.realises.Regular.{count}
use Rattle.gos_realises.specs.realises.Slim.{IsSlim}
use Rattle.gos_compile.specs.Wiring.{type_of_node, all_parts, all_ties, all_types, IsPlanOf}
use Rattle.gos_compile.specs.inner.Loads.{load, HasFewShakes}
use Rattle.gos_ties.specs.Counted.{IsThin}
use Rattle.gos_compile.proofs.ThinLemmas.{thin}
use Rattle.gos_check.specs.Checked.{program_in}
use Rattle.gos_compile.proofs.LoadLemmas.{counters}
use Rattle.gos_compile.proofs.SlimLemmas.{is_slim, few_parts, few_imports, all_small}
use Rattle.gos_compile.proofs.ReadLemmas.{reads_back}
use Rattle.gos_compile.proofs.RangeLemmas.{in_range}
use Rattle.gos_compile.proofs.PlanLemmas.{is_plan}
use Rattle.gos_compile.proofs.plans.compile.Goals as goal

pub tied_plan-requires-clause-thin : goal.tied_plan-requires-clause-thin
tied_plan-requires-clause-thin c =
    let ties : c.in_ok-wires.wires.ties.items ≡ all_ties (program_in c.args.program.now).imports (node_seen c.args.program.now.term) =
    c.in_ok-wires.ensures.ties ∙ (λ i. all_ties (map sources.import_of (c.imports.ensures i)) (node_seen (c.term.ensures.value i)))
    in
    subst (λ (ts : List Tie). IsThin ts) (sym (c.deref.ensures.value ∙ ties))
    (thin (program_in c.args.program.now) (node_seen c.args.program.now.term) c.term.ensures.checked.term)

pub tied_plan-requires-clause-in_range : goal.tied_plan-requires-clause-in_range
tied_plan-requires-clause-in_range c =
    in_range c.types_of_terms.ensures.node c.args.program.now c.term.ensures.checked c.in_ok-imports.imports.items c.in_ok-outcome.outcome
    c.in_ok-wires.wires.parts.items
    (c.in_ok-imports.ensures.imports ∙ ap (λ (is : List SeenImport). map sources.import_of is) c.imports-2.ensures)
    (c.in_ok-outcome.ensures ∙ ap (λ (t : Ty). type_of t) c.result.ensures)
    (c.in_ok-wires.ensures.parts ∙ (λ i. all_parts (map sources.import_of (c.imports.ensures i)) (node_seen (c.term.ensures.value i))))
    c.in_ok-wires.ensures.plain

pub wires_of-requires-clause-few : goal.wires_of-requires-clause-few
wires_of-requires-clause-few c =
    subst (λ (is : List SeenImport). length is ≤ 65536) (sym c.imports.ensures) (few_imports c.args.program.now c.term.ensures.checked)

pub wires_of-requires-clause-small : goal.wires_of-requires-clause-small
wires_of-requires-clause-small c =
    subst (λ (is : List SeenImport). All HasFewShakes is) (sym c.imports.ensures) (all_small c.args.program.now.imports c.term.ensures.checked.imports)

pub wires_of-requires-clause-room : goal.wires_of-requires-clause-room
wires_of-requires-clause-room c =
    subst
    (λ (is : List SeenImport). count (type_of_node (node_seen c.term.result.now))
    + load (all_types (map sources.import_of is) (node_seen c.term.result.now)) (node_seen c.term.result.now) ≤ 65536) (sym c.imports.ensures)
    (subst
    (λ (m : Node). count (type_of_node (node_seen m)) + load (all_types (map sources.import_of c.args.program.now.imports) (node_seen m)) (node_seen m) ≤ 65536)
    (sym c.term.ensures.value) (counters c.args.program.now c.term.ensures.checked))

pub returns : goal.returns
returns c =
    let is : Imports = map sources.import_of c.args.program.now.imports in
    let m : Numbered = node_seen c.args.program.now.term in
    let s : SeenPlan = c.in_ok-plan.plan in
    let made = c.in_ok-plan.ensures in
    let imports : map import_of s.imports ≡ is =
    ap (λ (xs : List PlanImport). map import_of xs) made.imports
    ∙ (c.in_ok-imports.ensures.imports ∙ ap (λ (is : List SeenImport). map sources.import_of is) c.imports-2.ensures)
    in
    let outcome : type_of s.outcome ≡ type_of c.args.program.now.result =
    ap (λ (t : Ty). type_of t) made.outcome ∙ (c.in_ok-outcome.ensures ∙ ap (λ (t : Ty). type_of t) c.result.ensures)
    in
    let parts : map part_of s.parts ≡ all_parts is m =
    ap (λ (ks : List Kind). map part_of ks) made.parts
    ∙ (c.in_ok-wires.ensures.parts ∙ (λ i. all_parts (map sources.import_of (c.imports.ensures i)) (node_seen (c.term.ensures.value i))))
    in
    let ties : c.deref.result.now ≡ all_ties is m =
    c.deref.ensures.value
    ∙ (c.in_ok-wires.ensures.ties ∙ (λ i. all_ties (map sources.import_of (c.imports.ensures i)) (node_seen (c.term.ensures.value i))))
    in
    let plan : IsPlanOf is (type_of c.args.program.now.result) c.args.program.now.weight m (plan_of s) =
    is_plan is (type_of c.args.program.now.result) c.args.program.now.weight m s c.deref.result.now imports outcome (made.weight ∙ c.weight.ensures) parts
    made.right ties made.joints made.order
    in
    let slim : IsSlim (plan_of s) = is_slim c.types_of_terms.ensures.node c.args.program.now c.term.ensures.checked (plan_of s) plan in
    let (few, joined) = few_parts c.args.program.now c.term.ensures.checked (plan_of s) plan.weight slim in
    record {
      plan = plan;
      slim = slim;
      few_parts = few;
      few_joints = joined;
      read_back = reads_back c.types_of_terms.ensures.node c.args.program.now c.term.ensures.checked (plan_of s) c.in_ok-imports.imports.items plan slim
          (ap (λ (xs : List PlanImport). map import_of xs) made.imports) c.in_ok-imports.ensures.names;
    }
