-- A wired assignment realises its term, where its two sides realise theirs.
use Rattle.std.specs.Prelude.{◌≡◌, ℕ, suc, ◌+◌, List, [], All, length}
use Rattle.std.proofs.Common.{inr, refl, sym, ◌∙◌, subst}
use Rattle.gos_types.specs.Types.{Type', Com, Exp, Var, IsDone}
use Rattle.gos_model.specs.Terms.{Term}
use Rattle.gos_model.specs.Typing.{Typed}
use Rattle.gos_check.specs.declared.linear.Split.{Split}
use Rattle.gos_check.specs.Nodes.{Numbered, Two, OfAssign, inside, meaning, type_of_node}
use Rattle.gos_check.specs.Linearity.{used}
use Rattle.gos_plan.specs.Kinds.{Part}
use Rattle.gos_plan.specs.Plans.{Plan}
use Rattle.gos_plan.specs.TokenBits.{LiteralFits}
use Rattle.gos_realises.specs.realises.Realises.{NamesDiffer, Realises}
use Rattle.gos_joining.specs.webs.Webs.{Tie, Web}
use Rattle.gos_nodes.specs.windows.Nodes.{IsStage}
use Rattle.gos_nodes.proofs.nodes.RestLemmas.{realisers_rest}
use Rattle.gos_compile.specs.Wiring.{Types, parts_of}
use Rattle.gos_terms.specs.wired.Wired.{Supplies, Placing, IsWired, AreRealised, dot_at, terms_of}
use Rattle.gos_terms.specs.wired.NodeFitting.{AreOfTypes}
use Rattle.gos_terms.proofs.wired.NodeFitLemmas.{realised_are_of_types}
use Rattle.gos_terms.specs.stages.Inside.{inside_supplies, numbers_inside, AreOrdered, InsideIsRealised}
use Rattle.gos_terms.specs.stages.Folding.{Child}
use Rattle.gos_terms.specs.stages.Regions.{IsStaged}
use Rattle.gos_terms.specs.stages.Stages.{stage_of}
use Rattle.gos_terms.proofs.stages.InsideLemmas.{realised_are_ordered}
use Rattle.gos_terms.proofs.stages.LoyalLemmas.{servings_are_loyal}
use Rattle.gos_terms.proofs.stages.StageLemmas.{child_is_stage}
use Rattle.gos_terms.proofs.stages.ChildImportLemmas.{child_is_heard}
use Rattle.gos_terms.specs.meanings.Meanings.{HasLeaves}
use Rattle.gos_terms.specs.ground_forms.Cases.{RealisesWired}
use Rattle.gos_terms.proofs.ground_forms.ChildLemmas.{wired_child_realises, child_realises}
use Rattle.gos_terms.proofs.ground_forms.WiredLemmas.{imports_are_ports}
use Rattle.gos_terms.specs.numbers.Kept.{IsKept}
use Rattle.gos_terms.specs.numbers.Inherited.{first_numbers, own_numbers}
use Rattle.gos_terms.proofs.control_forms.TypeLemmas.{known, inside_types, type_is, supplies_have}
use Rattle.gos_nodes.specs.assignments.Assignments as assignments
use Rattle.gos_nodes.proofs.assignments.AssignmentLemmas.{assignment_is_realised}
use Rattle.gos_terms.specs.assignment_forms.inner.Targets.{target_stage}
use Rattle.gos_terms.specs.assignment_forms.Cases.{AnyAssignCase}
use Rattle.gos_terms.proofs.assignment_forms.WebLemmas.{variable_child, number_child, open_ties}
use Rattle.gos_terms.proofs.assignment_forms.OtherLemmas.{number_part}
use Rattle.gos_terms.proofs.assignment_forms.SideLemmas.{number_is_child}
use Rattle.gos_terms.proofs.assignment_forms.NodeLemmas as node

module _ (insides : InsideIsRealised) (types : Types) (ns : List ℕ) (ss : List Split) (w : ℕ) (m n : Numbered) (kept : IsKept types ns (Two Com ss OfAssign m n))
    (var : type_of_node m ≡ Var w) (num : type_of_node n ≡ Exp w) (leaves_m : HasLeaves m) (leaves_n : HasLeaves n)
    (real_m : RealisesWired types (first_numbers ss ns (used n)) m) (real_n : RealisesWired types (own_numbers ss ns n) n)
    (i j : ℕ) (env : Supplies) (pl : Placing) (r : Plan) (wired : IsWired types i j (Two Com ss OfAssign m n) ns env pl r) (supplies : AreRealised types env ns)
    (differ : NamesDiffer r.imports) (fit : All LiteralFits r.parts) where
  abbrev g : Child
  g = variable_child types i j ss m n ns env

  abbrev f : Child
  f = number_child types i j ss m n ns env

  abbrev own : List Part
  own = parts_of types (Two Com ss OfAssign m n)

  abbrev ts : List Tie
  ts = open_ties types i j ss m n ns env

  abbrev d : ℕ
  d = pl.own (length ss)

  abbrev whole : Web
  whole = record { ties = open_ties types i j ss m n ns env; at = dot_at i pl }

  abbrev ms : List ℕ
  ms = first_numbers ss ns (used n)

  abbrev inner : Supplies
  inner = inside_supplies types ss env

  abbrev Means : Numbered → Term
  Means x = meaning (inside ss (terms_of env)) x

  of_types : AreOfTypes types env ns
  of_types = realised_are_of_types types env ns supplies

  ordered : AreOrdered env ns
  ordered = realised_are_ordered types env ns supplies

  module _ (plc : Placing) (c : Plan) (of : IsWired types (i + (length ss + 1)) (suc j) m ms inner plc c) where
    variable_realises : Typed r.imports [] (Means m) (type_of_node m) → Realises (type_of_node m) c (Means m)
    variable_realises =
        wired_child_realises g own ts pl plc r c (node.g_is types ns ss w m n kept var num i j env pl r wired of_types ordered) (node.laid types ns ss w m n kept var num i j env pl r wired of_types ordered) of (λ k x at. ((node.region types ns ss w m n kept var num i j env pl r wired of_types ordered plc c of).parts k x at).0) insides supplies real_m
        differ fit leaves_m (node.of_variable types ns ss w m n kept var num i j env pl r wired of_types ordered).kept.scope

    module _ (pln : Placing) (e : Plan) (staged : IsStaged f pl pln r e) where
      module _ (realises : Realises (type_of_node m) c (Means m)) (answers : Realises (Exp w) e (Means n)) where
        done : IsDone e.outcome
        done = subst IsDone (sym answers.suits.outcome) tt

        number_stage : IsStage r d (stage_of f pl pln r e)
        number_stage =
            child_is_stage f own ts pl pln r e 0 (node.f_is types ns ss w m n kept var num i j env pl r wired of_types ordered) refl (node.parts types ns ss w m n kept var num i j env pl r wired of_types ordered) (node.laid types ns ss w m n kept var num i j env pl r wired of_types ordered) staged done answers.suits.regular
            (realisers_rest e (Means n) done answers.means) answers.suits.names
            (servings_are_loyal f own ts pl pln r e (node.f_is types ns ss w m n kept var num i j env pl r wired of_types ordered) (node.parts types ns ss w m n kept var num i j env pl r wired of_types ordered) (node.laid types ns ss w m n kept var num i j env pl r wired of_types ordered) staged ordered)

        number_laid : assignments.IsLaid r d (stage_of f pl pln r e) e
        number_laid =
            record {
              region = number_stage.region;
              outside = number_stage.outside;
              loyal = number_stage.loyal;
              run_by = λ stands. refl;
              imports = number_stage.imports;
              ports = number_stage.ports;
            }

        made : assignments.IsAssignment r d w (stage_of f pl pln r e) (target_stage g pl plc r c) c
        made =
            record {
              right = (node.web types ns ss w m n kept var num i j env pl r wired of_types ordered).right;
              own = (node.own_at types ns ss w m n kept var num i j env pl r wired of_types ordered plc c of pln e staged).0;
              outcome = wired.outcome;
              literals = fit;
              open_imports = imports_are_ports types i j (Two Com ss OfAssign m n) ns env pl r wired supplies;
              names = differ;
              asked = refl;
              written = refl;
              plan = refl;
              own_literals = realises.suits.literals;
              laid_number = number_laid;
              laid_variable = node.variable_laid types ns ss w m n kept var num i j env pl r wired of_types ordered plc c of;
              number_heard =
                  child_is_heard f own ts pl pln r e (node.f_is types ns ss w m n kept var num i j env pl r wired of_types ordered) (node.parts types ns ss w m n kept var num i j env pl r wired of_types ordered) (node.laid types ns ss w m n kept var num i j env pl r wired of_types ordered) staged
                  (node.web types ns ss w m n kept var num i j env pl r wired of_types ordered) answers.suits.names;
              variable_heard = node.variable_is_heard types ns ss w m n kept var num i j env pl r wired of_types ordered plc c of pln e staged differ;
              result = node.result types ns ss w m n kept var num i j env pl r wired of_types ordered plc c of pln e staged;
              joints = node.joints types ns ss w m n kept var num i j env pl r wired of_types ordered plc c of pln e staged;
            }

        case : Typed r.imports [] (meaning (terms_of env) (Two Com ss OfAssign m n)) Com → Realises Com r (meaning (terms_of env) (Two Com ss OfAssign m n))
        case typed =
            (assignment_is_realised r d w (stage_of f pl pln r e) (target_stage g pl plc r c) c (Means m) (Means n) made answers
            (subst (λ (t : Type'). Realises t c (Means m)) var realises) typed).0

pub any_assign_case : InsideIsRealised → AnyAssignCase
any_assign_case insides types ns ss w m n kept var num leaves_m leaves_n real_m real_n i j env pl r wired supplies differ fit (v, is_com, typed_m, typed_n) =
    let have =
    inside_types r.imports types [] ss ns (terms_of env) kept.typed.0 kept.scope.0
    (supplies_have types i j (Two Com ss OfAssign m n) ns env pl r wired supplies differ)
    in
    let type_m = sym (known r.imports [] (meaning (inside ss (terms_of env)) m) (Var v) (inr typed_m))
    ∙ type_is r.imports types m [] (numbers_inside ss ns) (inside ss (terms_of env)) kept.typed.2 kept.scope.1 have in
    let type_n = sym (known r.imports [] (meaning (inside ss (terms_of env)) n) (Exp v) (inr typed_n))
    ∙ type_is r.imports types n [] (numbers_inside ss ns) (inside ss (terms_of env)) kept.typed.3 kept.scope.2 have in
    let (pln, e, staged) = node.number_staged types ns ss w m n kept var num i j env pl r wired (realised_are_of_types types env ns supplies) (realised_are_ordered types env ns supplies) in
    let (plc, c, of) = node.variable_wired types ns ss w m n kept var num i j env pl r wired (realised_are_of_types types env ns supplies) (realised_are_ordered types env ns supplies) in
    let realises =
    variable_realises insides types ns ss w m n kept var num leaves_m leaves_n real_m real_n i j env pl r wired supplies differ fit plc c of
    (subst (Typed r.imports [] (meaning (inside ss (terms_of env)) m)) type_m typed_m)
    in
    let answers =
    child_realises (number_child types i j ss m n ns env) (parts_of types (Two Com ss OfAssign m n)) (open_ties types i j ss m n ns env) pl pln r e
    (number_is_child types i j ss w m n ns env kept var num (realised_are_of_types types env ns supplies))
    (record { parts = wired.parts; no_more = wired.no_more; imports = wired.imports; no_import = wired.no_import }) staged insides
    supplies real_n differ fit leaves_n (number_part types ns ss m n kept).kept.scope
    (subst (Typed r.imports [] (meaning (inside ss (terms_of env)) n)) type_n typed_n)
    in
    case insides types ns ss w m n kept var num leaves_m leaves_n real_m real_n i j env pl r wired supplies differ fit plc c of pln e staged realises
    (subst (λ (t : Type'). Realises t e (meaning (inside ss (terms_of env)) n)) num answers) (v, is_com, typed_m, typed_n)
