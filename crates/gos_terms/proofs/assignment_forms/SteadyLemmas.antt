-- A wired assignment is regular and rests, where its two sides are and do.
use Rattle.std.specs.Prelude.{◌≡◌, ℕ, suc, ◌+◌, List, All, length}
use Rattle.std.proofs.Common.{refl, sym, ◌∙◌, subst}
use Rattle.gos_types.specs.Types.{Com, Exp, Var, IsDone}
use Rattle.gos_check.specs.declared.linear.Split.{Split}
use Rattle.gos_check.specs.Nodes.{Numbered, Two, OfAssign, type_of_node}
use Rattle.gos_check.specs.Linearity.{used}
use Rattle.gos_plan.specs.Kinds.{Part}
use Rattle.gos_plan.specs.Plans.{Plan}
use Rattle.gos_plan.specs.TokenBits.{LiteralFits}
use Rattle.gos_realises.specs.realises.Regular.{IsRegular}
use Rattle.gos_realises.specs.realises.Realises.{NamesDiffer}
use Rattle.gos_realises.proofs.realises.LiteralLemmas.{literals_among}
use Rattle.gos_joining.specs.webs.Webs.{Tie, Web}
use Rattle.gos_supplies.specs.turns.Rests.{Rests}
use Rattle.gos_nodes.specs.windows.OpenNodes.{IsOpenStage}
use Rattle.gos_compile.specs.Wiring.{Types, parts_of}
use Rattle.gos_terms.specs.wired.Wired.{Supplies, Placing, IsWired, dot_at}
use Rattle.gos_terms.specs.wired.NodeFitting.{AreOfTypes}
use Rattle.gos_terms.specs.wired.Regular.{AreRegular, RegularWired}
use Rattle.gos_terms.specs.stages.Inside.{inside_supplies, AreOrdered}
use Rattle.gos_terms.specs.stages.InsideRegular.{InsideIsRegular}
use Rattle.gos_terms.specs.stages.Folding.{Child, child_cut, IsChild, IsLaid}
use Rattle.gos_terms.specs.stages.Regions.{IsStaged}
use Rattle.gos_terms.specs.stages.Stages.{stage_of}
use Rattle.gos_terms.proofs.stages.ChildNameLemmas.{names_below}
use Rattle.gos_terms.proofs.stages.ChildImportLemmas.{child_is_steady}
use Rattle.gos_terms.specs.numbers.Kept.{IsKept}
use Rattle.gos_terms.specs.numbers.Inherited.{first_numbers, own_numbers}
use Rattle.gos_nodes.specs.assignments.Assignments as assignments
use Rattle.gos_terms.specs.regular_and_resting.Assignments.{AssignmentIsSteady}
use Rattle.gos_terms.proofs.regular_and_resting.ChildLemmas.{child_is_open_stage}
use Rattle.gos_terms.specs.assignment_forms.inner.Targets.{target_stage}
use Rattle.gos_terms.specs.assignment_forms.Cases.{AnyAssignIsSteady}
use Rattle.gos_terms.proofs.assignment_forms.WebLemmas.{variable_child, number_child, open_ties}
use Rattle.gos_terms.proofs.assignment_forms.NodeLemmas as node

module _ (types : Types) (ns : List ℕ) (ss : List Split) (w : ℕ) (m n : Numbered) (kept : IsKept types ns (Two Com ss OfAssign m n))
    (var : type_of_node m ≡ Var w) (num : type_of_node n ≡ Exp w)
    (i j : ℕ) (env : Supplies) (pl : Placing) (r : Plan) (wired : IsWired types i j (Two Com ss OfAssign m n) ns env pl r) (of_types : AreOfTypes types env ns)
    (ordered : AreOrdered env ns) (all : AreRegular types env ns) (differ : NamesDiffer r.imports) (fit : All LiteralFits r.parts) where
  abbrev g : Child
  g = variable_child types i j ss m n ns env

  abbrev f : Child
  f = number_child types i j ss m n ns env

  abbrev own : List Part
  own = parts_of types (Two Com ss OfAssign m n)

  abbrev ts : List Tie
  ts = open_ties types i j ss m n ns env

  abbrev d : ℕ
  d = pl.own (length ss)

  abbrev whole : Web
  whole = record { ties = open_ties types i j ss m n ns env; at = dot_at i pl }

  abbrev ms : List ℕ
  ms = first_numbers ss ns (used n)

  abbrev inner : Supplies
  inner = inside_supplies types ss env

  g_is : IsChild g ts
  g_is = node.g_is types ns ss w m n kept var num i j env pl r wired of_types ordered

  f_is : IsChild f ts
  f_is = node.f_is types ns ss w m n kept var num i j env pl r wired of_types ordered

  laid : IsLaid own ns env pl r
  laid = node.laid types ns ss w m n kept var num i j env pl r wired of_types ordered

  module _ (plc : Placing) (c : Plan) (of : IsWired types (i + (length ss + 1)) (suc j) m ms inner plc c) where
    below : NamesDiffer c.imports
    below = names_below g own ts pl plc r c g_is laid of differ

    literals_below : All LiteralFits c.parts
    literals_below =
        literals_among (child_cut g pl plc (length r.parts)).part c.parts r.parts (λ k x at. ((node.region types ns ss w m n kept var num i j env pl r wired of_types ordered plc c of).parts k x at).0) fit

    -- the variable's plan is regular and rests
    variable_is_steady : InsideIsRegular → RegularWired types ms m → IsRegular c × Rests c
    variable_is_steady insides steady =
        steady (i + (length ss + 1)) (suc j) inner plc c of
        (λ k has. insides types ss env ns g_is.agree g_is.split all k (g_is.scope k has).0) below literals_below

    -- with the number's plan too
    module _ (pln : Placing) (e : Plan) (staged : IsStaged f pl pln r e) where
      module _ (steady_n : RegularWired types (own_numbers ss ns n) n) where
        is_number : e.outcome ≡ Exp w
        is_number = staged.wired.outcome ∙ num

        open_stage : IsOpenStage r d (stage_of f pl pln r e)
        open_stage =
            child_is_open_stage f own ts pl pln r e f_is (node.parts types ns ss w m n kept var num i j env pl r wired of_types ordered) laid staged (node.web types ns ss w m n kept var num i j env pl r wired of_types ordered) 0 refl (subst IsDone (sym is_number) tt) steady_n all differ fit

        number_steady : IsRegular e × Rests e
        number_steady = child_is_steady f own ts pl pln r e f_is (node.parts types ns ss w m n kept var num i j env pl r wired of_types ordered) laid staged (node.web types ns ss w m n kept var num i j env pl r wired of_types ordered) steady_n all differ fit

        number_laid : assignments.IsLaid r d (stage_of f pl pln r e) e
        number_laid =
            let stage = open_stage.stage in
            record {
              region = stage.region;
              outside = stage.outside;
              loyal = stage.loyal;
              run_by = λ stands. refl;
              imports = stage.imports;
              ports = stage.ports;
            }

        is_open : assignments.IsOpenAssignment r d w (stage_of f pl pln r e) (target_stage g pl plc r c) c
        is_open =
            record {
              right = (node.web types ns ss w m n kept var num i j env pl r wired of_types ordered).right;
              own = (node.own_at types ns ss w m n kept var num i j env pl r wired of_types ordered plc c of pln e staged).0;
              outcome = wired.outcome;
              literals = fit;
              names = differ;
              asked = refl;
              written = refl;
              plan = refl;
              laid_number = number_laid;
              laid_variable = node.variable_laid types ns ss w m n kept var num i j env pl r wired of_types ordered plc c of;
              number_names = open_stage.stage.names;
              variable_names = below;
              number_heard = open_stage.heard;
              variable_heard = node.variable_is_heard types ns ss w m n kept var num i j env pl r wired of_types ordered plc c of pln e staged differ;
              result = node.result types ns ss w m n kept var num i j env pl r wired of_types ordered plc c of pln e staged;
              joints = node.joints types ns ss w m n kept var num i j env pl r wired of_types ordered plc c of pln e staged;
            }

        steady : AssignmentIsSteady → InsideIsRegular → RegularWired types ms m → IsRegular r × Rests r
        steady law insides steady_m =
            let (regular, rests) = variable_is_steady insides steady_m in
            law r d w (stage_of f pl pln r e) (target_stage g pl plc r c) c is_open is_number number_steady.0 number_steady.1 of.web.right (of.outcome ∙ var) regular rests

pub any_assign_is_steady : AssignmentIsSteady → InsideIsRegular → AnyAssignIsSteady
any_assign_is_steady law insides types ns ss w m n kept var num steady_m steady_n i j env pl r wired all differ fit =
    let of_types : AreOfTypes types env ns = λ k has. let it = all k has in (it.right, it.outcome) in
    let ordered : AreOrdered env ns = λ k has. let it = all k has in record { literals = it.literals; regular = it.regular } in
    let (pln, e, staged) = node.number_staged types ns ss w m n kept var num i j env pl r wired of_types ordered in
    let (plc, c, of) = node.variable_wired types ns ss w m n kept var num i j env pl r wired of_types ordered in
    steady types ns ss w m n kept var num i j env pl r wired of_types ordered all differ fit plc c of pln e staged steady_n law insides steady_m
