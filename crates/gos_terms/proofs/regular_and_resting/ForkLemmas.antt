-- A fork is a node of its branches, with imports of any types.
use Rattle.std.specs.Prelude.{◌≡◌, ◌≢◌, ℕ, ◌≤◌, List, [], ◌∷◌, ◌++◌, All, Some, Contains, length, map}
use Rattle.std.proofs.Common.{refl, sym, ◌∙◌, subst, arith}
use Rattle.std.proofs.lemmas.List.Elements.{Contains-append_right}
use Rattle.gos_types.specs.Types.{IsDone}
use Rattle.gos_check.specs.declared.linear.Split.{Split}
use Rattle.gos_check.specs.Nodes.{Numbered, type_of_node}
use Rattle.gos_check.specs.Linearity.{times}
use Rattle.gos_plan.specs.Kinds.{Part}
use Rattle.gos_plan.specs.Firing.{Phase}
use Rattle.gos_plan.specs.Plans.{PartEnd, ResultEnd, Plan}
use Rattle.gos_plan.specs.TokenBits.{LiteralFits}
use Rattle.gos_realises.specs.realises.Regular.{IsRegular}
use Rattle.gos_realises.specs.realises.Realises.{NamesDiffer}
use Rattle.gos_joining.specs.webs.Webs.{Tie, joint}
use Rattle.gos_joining.proofs.unions.UnionLemmas.{in_image, of_image}
use Rattle.gos_nodes.specs.sessions.Sessions.{Form, Session, own_part, own_type, run_shake, session_of}
use Rattle.gos_supplies.specs.turns.Rests.{Rests}
use Rattle.gos_nodes.specs.windows.Nodes.{Stage}
use Rattle.gos_nodes.specs.windows.OpenNodes.{IsOpenStage, IsOpenNode}
use Rattle.gos_nodes.proofs.windows.FormLemmas.{open_node_is_regular}
use Rattle.gos_compile.specs.Wiring.{Types, parts_of}
use Rattle.gos_terms.specs.wired.Wired.{Supplies, Placing, IsWired, wired_ties}
use Rattle.gos_terms.specs.wired.NodeFitting.{AreOfTypes}
use Rattle.gos_terms.specs.wired.Regular.{AreRegular, RegularWired}
use Rattle.gos_terms.specs.stages.Folding.{Child, asked, IsChild, IsLaid}
use Rattle.gos_terms.specs.stages.Regions.{HasParts, IsStaged}
use Rattle.gos_terms.specs.stages.Nodes.{Cared, stage, IsCared, AreCovering}
use Rattle.gos_terms.proofs.stages.ChildStageLemmas.{child_is_staged}
use Rattle.gos_terms.proofs.stages.NodeLemmas.{joints_so, ones, parts_so}
use Rattle.gos_terms.specs.run_children.Forks.{Branch, IsFork, AreBranches, branch_child, BranchIsChild, BranchHasParts}
use Rattle.gos_terms.specs.branches.Covers.{BranchesCover}
use Rattle.gos_terms.proofs.branches.CaredLemmas as children
use Rattle.gos_terms.proofs.branches.OwnLemmas as own
use Rattle.gos_terms.specs.regular_and_resting.Forks.{AreRun, ForkIsSteady}
use Rattle.gos_terms.proofs.regular_and_resting.RestLemmas.{rests_where_restful}
use Rattle.gos_terms.proofs.regular_and_resting.ChildLemmas.{child_is_open_stage}

-- the supplies have the numbers' types
pub of_types : (types : Types) (env : Supplies) (ns : List ℕ) → AreRegular types env ns → AreOfTypes types env ns
of_types types env ns all n has = let one = all n has in (one.right, one.outcome)

module _ (child : BranchIsChild) (parts : BranchHasParts) (cover : BranchesCover) (f : Form) (types : Types) (i j : ℕ) (m : Numbered)
    (ss : List Split) (bs : List Branch) (ns : List ℕ) (env : Supplies) (pl : Placing) (r : Plan)
    (fork : IsFork types m ss (own_part f) bs) (branches : AreBranches types ss ns bs) (some : bs ≢ [])
    (same : own_type f ≡ type_of_node m) (w : IsWired types i j m ns env pl r) (supplies : AreRegular types env ns) (differ : NamesDiffer r.imports)
    (fit : All LiteralFits r.parts) (sessions : AreRun f bs) (steady : (b : Branch) → Contains bs b → RegularWired types b.uses b.term) where
  abbrev own_number : ℕ
  own_number = pl.own (length ss)

  abbrev its_ties : List Tie
  its_ties = wired_ties types i j m ns env

  abbrev all_parts : List Part
  all_parts = parts_of types m

  laid : IsLaid all_parts ns env pl r
  laid = record { parts = w.parts; no_more = w.no_more; imports = w.imports; no_import = w.no_import }

  -- a branch as a child
  module _ (before after : List Branch) (b : Branch) (at : bs ≡ before ++ b ∷ after) where
    abbrev its_child : Child
    its_child = branch_child types i j ss env ns before b

    listed : Contains bs b
    listed = subst (λ (xs : List Branch). Contains xs b) (sym at) (Contains-append_right before (b ∷ after) b (0, omega arith, refl))

    is_child : IsChild its_child its_ties
    is_child = child types i j m ss (own_part f) bs before after b ns env fork branches (of_types types env ns supplies) at

    has_parts : HasParts its_child all_parts r.outcome
    has_parts = parts types i j m ss (own_part f) bs before after b ns env r.outcome fork at

    once : (k : ℕ) → times k b.uses ≤ 1
    once k = let all = (branches.parts b listed).kept.once k in omega (arith, all)

    abbrev its_plan : (plc : Placing) × (c : Plan) × IsStaged its_child pl plc r c
    its_plan = child_is_staged its_child all_parts its_ties pl r is_child has_parts once laid w.web

    abbrev cared : Cared
    cared = record { child = its_child; placing = its_plan.0; plan = its_plan.1 }

    outcome_there : cared.plan.outcome ≡ type_of_node b.term
    outcome_there = its_plan.2.wired.outcome

    open_stage : IsOpenStage r own_number (stage pl r cared)
    open_stage =
        child_is_open_stage its_child all_parts its_ties pl its_plan.0 r its_plan.1 is_child has_parts laid its_plan.2 w.web (length before) refl
        (subst IsDone (sym outcome_there) (fork.done b listed)) (steady b listed) supplies differ fit

  abbrev IsCaredHere : Cared → Type 0
  IsCaredHere x = IsCared all_parts its_ties i pl r own_number x

  is_cared : (before after : List Branch) (b : Branch) (at : bs ≡ before ++ b ∷ after) → IsCaredHere (cared before after b at)
  is_cared before after b at =
      record {
        child = is_child before after b at;
        parts = has_parts before after b at;
        laid = laid;
        staged = (its_plan before after b at).2;
        stage = (open_stage before after b at).stage;
        begins = refl;
      }

  abbrev IsOpenHere : Cared → Type 0
  IsOpenHere x = IsOpenStage r own_number (stage pl r x)

  is_its : (before after : List Branch) (b : Branch) (at : bs ≡ before ++ b ∷ after) → (cared before after b at).child ≡ branch_child types i j ss env ns before b
  is_its before after b at = refl

  -- the type of the child that runs a branch
  abbrev Runs : Branch → Cared → Type 0
  Runs b x = x.plan.outcome ≡ type_of_node b.term

  abbrev es : List Cared
  es = children.cares types i j ss env ns bs cared is_its [] bs refl

  each_cared : (x : Cared) → Contains es x → IsCaredHere x
  each_cared = children.each types i j ss env ns bs cared is_its IsCaredHere is_cared [] bs refl

  each_open : (x : Cared) → Contains es x → IsOpenHere x
  each_open = children.each types i j ss env ns bs cared is_its IsOpenHere open_stage [] bs refl

  -- and so each session of the form has one
  record Served (s : Session) (x : Cared) : Type 0 where
    listed : Contains es x
    shake : asked x.child ≡ s.asked_at
    ty : x.plan.outcome ≡ s.ty

  served : (p : Phase) (n : ℕ) (s : Session) → session_of f p n ≡ Some s → (x : Cared) × Served s x
  served p n s e =
      let (before, after, b, at, asked, ty) = sessions p n s e in
      let it = children.found_in types i j ss env ns bs cared is_its Runs outcome_there before after b at in
      (it.one, record { listed = it.listed; shake = (let so = it.shake in omega (arith, so, asked)); ty = it.known ∙ sym ty })

  -- what the node itself is
  run_joint : Contains r.joints (joint (ResultEnd 0) (PartEnd own_number (run_shake (own_part f))))
  run_joint = own.run_joint f types i j m ss bs ns env pl r fork same w

  covering : AreCovering f i pl r own_number es
  covering =
      cover f types i j m ss bs ns env pl r es fork branches (of_types types env ns supplies) some w
      (children.are_children types i j ss env ns bs cared is_its [] bs refl)

  abbrev Stages : List Stage
  Stages = map (stage pl r) es

  stages : (g : Stage) → Contains Stages g → IsOpenStage r own_number g
  stages g has = let (e, there, is) = of_image (stage pl r) es g has in subst (IsOpenStage r own_number) is (each_open e there)

  node : IsOpenNode r own_number f Stages
  node =
      record {
        right = w.web.right;
        own = own.own_there f types i j m ss bs ns env pl r fork same w;
        outcome = own.outcome f types i j m ss bs ns env pl r fork same w;
        done = own.done f types i j m ss bs ns env pl r fork same w;
        literals = fit;
        names = differ;
        stages = stages;
        one = ones f all_parts its_ties i pl r own_number es w.web run_joint each_cared covering (children.one_each types i j ss env ns bs cared is_its);
        staged =
            λ p n s e.
            let (x, it) = served p n s e in (stage pl r x, in_image (stage pl r) es x it.listed, it.shake, it.ty);
        result = run_joint;
        joints = joints_so f all_parts its_ties i pl r own_number es w.web run_joint each_cared covering;
        parts = parts_so f all_parts its_ties i pl r own_number es w.web run_joint each_cared covering;
      }

  pub fork_steady : IsRegular r × Rests r
  fork_steady =
      let (regular, restful) = open_node_is_regular r own_number f Stages node in
      let outcome = own.outcome f types i j m ss bs ns env pl r fork same w in
      let done = own.done f types i j m ss bs ns env pl r fork same w in (regular, rests_where_restful r (subst IsDone (sym outcome) done) regular restful)

pub fork_is_steady : BranchIsChild → BranchHasParts → BranchesCover → ForkIsSteady
fork_is_steady child parts cover f types m ss bs ns fork branches some same sessions steady i j env pl r w supplies differ fit =
    fork_steady child parts cover f types i j m ss bs ns env pl r fork branches some same w supplies differ fit sessions steady
