-- A branch of a fork as a stage of its node, whose plan realises the branch's term.
use Rattle.std.specs.Prelude.{◌≡◌, ℕ, ◌≤◌, List, [], ◌∷◌, ◌++◌, All, Contains, length}
use Rattle.std.proofs.Common.{refl, sym, subst, arith}
use Rattle.std.proofs.lemmas.List.Elements.{Contains-append_right}
use Rattle.gos_types.specs.Types.{Type', Com, Exp, Var, Pair, Fun, IsDone}
use Rattle.gos_model.specs.Terms.{Term}
use Rattle.gos_model.specs.Typing.{Typed}
use Rattle.gos_check.specs.declared.linear.Split.{Split}
use Rattle.gos_check.specs.Nodes.{Numbered, inside, meaning, type_of_node}
use Rattle.gos_check.specs.Linearity.{times}
use Rattle.gos_plan.specs.Kinds.{Part}
use Rattle.gos_plan.specs.Plans.{Plan}
use Rattle.gos_plan.specs.TokenBits.{LiteralFits}
use Rattle.gos_realises.specs.realises.Matched.{RealisesInTurn}
use Rattle.gos_realises.specs.realises.Realises.{NamesDiffer, Means, Realises}
use Rattle.gos_joining.specs.webs.Webs.{Tie}
use Rattle.gos_nodes.specs.windows.Nodes.{IsStage}
use Rattle.gos_compile.specs.Wiring.{Types, parts_of}
use Rattle.gos_terms.specs.wired.Wired.{Supplies, Placing, IsWired, AreRealised, terms_of, wired_ties}
use Rattle.gos_nodes.proofs.nodes.RestLemmas.{realisers_rest}
use Rattle.gos_terms.proofs.wired.NodeFitLemmas.{realised_are_of_types}
use Rattle.gos_terms.specs.stages.Inside.{InsideIsRealised}
use Rattle.gos_terms.specs.stages.Folding.{Child, IsChild, IsLaid}
use Rattle.gos_terms.specs.stages.Regions.{HasParts, IsStaged}
use Rattle.gos_terms.specs.stages.Stages.{stage_of}
use Rattle.gos_terms.specs.stages.Nodes.{Cared, IsCared}
use Rattle.gos_terms.proofs.stages.ChildStageLemmas.{child_is_staged}
use Rattle.gos_terms.proofs.stages.InsideLemmas.{realised_are_ordered}
use Rattle.gos_terms.proofs.stages.LoyalLemmas.{servings_are_loyal}
use Rattle.gos_terms.proofs.stages.StageLemmas.{child_is_stage}
use Rattle.gos_terms.specs.meanings.Meanings.{HasLeaves}
use Rattle.gos_terms.specs.ground_forms.Cases.{RealisesWired}
use Rattle.gos_terms.proofs.ground_forms.ChildLemmas.{child_realises}
use Rattle.gos_terms.specs.run_children.Forks.{Branch, IsFork, AreBranches, branch_child, BranchIsChild, BranchHasParts}

pub means_run : (t : Type') (p : Plan) (m : Term) → IsDone t → Means t p m → RealisesInTurn p m
means_run Com p m done h = h
means_run (Exp w) p m done h = h
means_run (Var w) p m done h = absurd done
means_run (Pair a b) p m done h = absurd done
means_run (Fun a b) p m done h = absurd done

module _ (within : InsideIsRealised) (child : BranchIsChild) (parts : BranchHasParts) (types : Types) (i j : ℕ) (m : Numbered) (ss : List Split) (own : Part)
    (bs : List Branch) (ns : List ℕ) (env : Supplies) (pl : Placing) (r : Plan) (fork : IsFork types m ss own bs) (branches : AreBranches types ss ns bs)
    (w : IsWired types i j m ns env pl r) (supplies : AreRealised types env ns)
    (differ : NamesDiffer r.imports) (fit : All LiteralFits r.parts)
    (typed : (b : Branch) → Contains bs b → Typed r.imports [] (meaning (inside ss (terms_of env)) b.term) (type_of_node b.term))
    (leaves : (b : Branch) → Contains bs b → HasLeaves b.term) (real : (b : Branch) → Contains bs b → RealisesWired types b.uses b.term) where
  abbrev pub ties : List Tie
  ties = wired_ties types i j m ns env

  abbrev pub all_parts : List Part
  all_parts = parts_of types m

  pub laid : IsLaid all_parts ns env pl r
  laid = record { parts = w.parts; no_more = w.no_more; imports = w.imports; no_import = w.no_import }

  module _ (before after : List Branch) (b : Branch) (at : bs ≡ before ++ b ∷ after) where
    abbrev pub its_child : Child
    its_child = branch_child types i j ss env ns before b

    listed : Contains bs b
    listed = subst (λ (xs : List Branch). Contains xs b) (sym at) (Contains-append_right before (b ∷ after) b (0, omega arith, refl))

    pub is_child : IsChild its_child ties
    is_child = child types i j m ss own bs before after b ns env fork branches (realised_are_of_types types env ns supplies) at

    pub has_parts : HasParts its_child all_parts r.outcome
    has_parts = parts types i j m ss own bs before after b ns env r.outcome fork at

    pub once : (k : ℕ) → times k b.uses ≤ 1
    once k = let all = (branches.parts b listed).kept.once k in omega (arith, all)

    abbrev found : (plc : Placing) × (c : Plan) × IsStaged its_child pl plc r c
    found = child_is_staged its_child all_parts ties pl r is_child has_parts once laid w.web

    abbrev pub cared : Cared
    cared = record { child = its_child; placing = found.0; plan = found.1 }

    pub realises : Realises (type_of_node b.term) cared.plan (meaning (inside ss (terms_of env)) b.term)
    realises =
        child_realises its_child all_parts ties pl found.0 r found.1 is_child laid found.2 within supplies (real b listed) differ fit (leaves b listed)
        (branches.parts b listed).kept.scope (typed b listed)

    pub outcome : cared.plan.outcome ≡ type_of_node b.term
    outcome = realises.suits.outcome

    pub is_run : RealisesInTurn cared.plan (meaning (inside ss (terms_of env)) b.term)
    is_run = means_run (type_of_node b.term) cared.plan (meaning (inside ss (terms_of env)) b.term) (fork.done b listed) realises.means

    done : IsDone cared.plan.outcome
    done = subst IsDone (sym outcome) (fork.done b listed)

    is_stage : IsStage r (pl.own (length ss)) (stage_of its_child pl cared.placing r cared.plan)
    is_stage =
        child_is_stage its_child all_parts ties pl cared.placing r cared.plan (length before) is_child refl has_parts laid found.2 done realises.suits.regular
        (realisers_rest cared.plan (meaning (inside ss (terms_of env)) b.term) done is_run) realises.suits.names
        (servings_are_loyal its_child all_parts ties pl cared.placing r cared.plan is_child has_parts laid found.2 (realised_are_ordered types env ns supplies))

    pub is_cared : IsCared all_parts ties i pl r (pl.own (length ss)) cared
    is_cared = record { child = is_child; parts = has_parts; laid = laid; staged = found.2; stage = is_stage; begins = refl }
