-- A fork is a node of its branches, and so it realises its term.
use Rattle.std.specs.Prelude.{◌≡◌, ◌≢◌, ℕ, List, [], ◌∷◌, ◌++◌, All, Some, Contains, length, map}
use Rattle.std.proofs.Common.{refl, sym, subst, arith}
use Rattle.gos_types.specs.Types.{Type'}
use Rattle.gos_model.specs.Terms.{Term}
use Rattle.gos_check.specs.declared.linear.Split.{Split}
use Rattle.gos_check.specs.Nodes.{Numbered, inside, meaning, type_of_node}
use Rattle.gos_plan.specs.Firing.{Phase}
use Rattle.gos_plan.specs.Plans.{Plan}
use Rattle.gos_plan.specs.TokenBits.{LiteralFits}
use Rattle.gos_realises.specs.realises.Matched.{RealisesInTurn}
use Rattle.gos_realises.specs.realises.Realises.{NamesDiffer, Realises}
use Rattle.gos_joining.specs.webs.Webs.{Tie}
use Rattle.gos_joining.proofs.unions.UnionLemmas.{in_image}
use Rattle.gos_nodes.specs.sessions.Sessions.{Form, Session, own_part, own_term, own_type, session_of}
use Rattle.gos_nodes.specs.windows.OpenNodes.{IsOpenNode}
use Rattle.gos_nodes.specs.nodes.Realised.{AreRealised}
use Rattle.gos_nodes.proofs.nodes.SuitLemmas.{node_realises_by_type}
use Rattle.gos_compile.specs.Wiring.{Types, parts_of}
use Rattle.gos_terms.specs.wired.Wired as wirings
use Rattle.gos_terms.specs.wired.Wired.{Supplies, Placing, IsWired, wired_ties, terms_of}
use Rattle.gos_terms.proofs.wired.NodeFitLemmas.{realised_are_of_types}
use Rattle.gos_terms.specs.stages.Inside.{InsideIsRealised}
use Rattle.gos_terms.specs.stages.Folding.{asked}
use Rattle.gos_terms.specs.stages.Nodes.{Cared, stage, IsCared, IsFormed}
use Rattle.gos_terms.proofs.stages.NodeLemmas.{stages_make_node}
use Rattle.gos_terms.specs.meanings.Meanings.{HasLeaves}
use Rattle.gos_terms.specs.ground_forms.Cases.{RealisesWired}
use Rattle.gos_terms.proofs.ground_forms.WiredLemmas.{imports_are_ports}
use Rattle.gos_terms.specs.run_children.Forks.{Branch, IsFork, AreBranches, branch_child, BranchIsChild, BranchHasParts}
use Rattle.gos_terms.specs.branches.Covers.{BranchesCover}
use Rattle.gos_terms.proofs.branches.CaredLemmas as children
use Rattle.gos_terms.proofs.branches.OwnLemmas as own
use Rattle.gos_terms.specs.control_forms.Runs.{AreSessionsOf, ForkRealises}
use Rattle.gos_terms.proofs.control_forms.BranchLemmas as branch_lemmas

module _ (insides : InsideIsRealised) (child : BranchIsChild) (parts : BranchHasParts) (cover : BranchesCover) (f : Form) (types : Types) (i j : ℕ) (m : Numbered)
    (ss : List Split) (bs : List Branch) (ns : List ℕ) (env : Supplies) (pl : Placing) (r : Plan)
    (fork : IsFork types m ss (own_part f) bs) (branches : AreBranches types ss ns bs) (some : bs ≢ [])
    (same : own_type f ≡ type_of_node m) (w : IsWired types i j m ns env pl r) (supplies : wirings.AreRealised types env ns) (differ : NamesDiffer r.imports)
    (fit : All LiteralFits r.parts) (sessions : AreSessionsOf f ss bs env r) (leaves : (b : Branch) → Contains bs b → HasLeaves b.term)
    (real : (b : Branch) → Contains bs b → RealisesWired types b.uses b.term) where
  abbrev own_number : ℕ
  own_number = pl.own (length ss)

  abbrev its_ties : List Tie
  its_ties = wired_ties types i j m ns env

  abbrev cared : (before after : List Branch) (b : Branch) → bs ≡ before ++ b ∷ after → Cared
  cared = branch_lemmas.cared insides child parts types i j m ss (own_part f) bs ns env pl r fork branches w supplies differ fit sessions.typed leaves real

  abbrev IsCaredHere : Cared → Type 0
  IsCaredHere x = IsCared (parts_of types m) its_ties i pl r own_number x

  is_cared : (before after : List Branch) (b : Branch) (at : bs ≡ before ++ b ∷ after) → IsCaredHere (cared before after b at)
  is_cared = branch_lemmas.is_cared insides child parts types i j m ss (own_part f) bs ns env pl r fork branches w supplies differ fit sessions.typed leaves real

  is_its : (before after : List Branch) (b : Branch) (at : bs ≡ before ++ b ∷ after) → (cared before after b at).child ≡ branch_child types i j ss env ns before b
  is_its before after b at = refl

  -- what the child does that runs a branch
  record Runs (b : Branch) (x : Cared) : Type 0 where
    realises : Realises (type_of_node b.term) x.plan (meaning (inside ss (terms_of env)) b.term)
    is_run : RealisesInTurn x.plan (meaning (inside ss (terms_of env)) b.term)

  runs : (before after : List Branch) (b : Branch) (at : bs ≡ before ++ b ∷ after) → Runs b (cared before after b at)
  runs before after b at =
      record {
        realises =
            branch_lemmas.realises insides child parts types i j m ss (own_part f) bs ns env pl r fork branches w supplies differ fit sessions.typed leaves real
            before after b at;
        is_run =
            branch_lemmas.is_run insides child parts types i j m ss (own_part f) bs ns env pl r fork branches w supplies differ fit sessions.typed leaves real before
            after b at;
      }

  abbrev es : List Cared
  es = children.cares types i j ss env ns bs cared is_its [] bs refl

  each_cared : (x : Cared) → Contains es x → IsCaredHere x
  each_cared = children.each types i j ss env ns bs cared is_its IsCaredHere is_cared [] bs refl

  -- and so each session of the form has one
  record Served (s : Session) (x : Cared) : Type 0 where
    listed : Contains es x
    shake : asked x.child ≡ s.asked_at
    realises : Realises s.ty x.plan s.term
    is_run : RealisesInTurn x.plan s.term

  served : (p : Phase) (n : ℕ) (s : Session) → session_of f p n ≡ Some s → (x : Cared) × Served s x
  served p n s e =
      let (before, after, b, at, asked, term, ty) = sessions.session p n s e in
      let it = children.found_in types i j ss env ns bs cared is_its Runs runs before after b at in (
        it.one,
        record {
          listed = it.listed;
          shake = let at = it.shake in omega (arith, at, asked);
          realises =
              subst (λ (u : Type'). Realises u it.one.plan s.term) (sym ty)
              (subst (λ (z : Term). Realises (type_of_node b.term) it.one.plan z) (sym term) it.known.realises);
          is_run = subst (λ (z : Term). RealisesInTurn it.one.plan z) (sym term) it.known.is_run;
        },
      )

  -- what the node itself is
  formed : IsFormed f r own_number
  formed =
      record {
        own = own.own_there f types i j m ss bs ns env pl r fork same w;
        outcome = own.outcome f types i j m ss bs ns env pl r fork same w;
        done = own.done f types i j m ss bs ns env pl r fork same w;
        literals = fit;
        names = differ;
        result = own.run_joint f types i j m ss bs ns env pl r fork same w;
      }

  node : IsOpenNode r own_number f (map (stage pl r) es)
  node =
      stages_make_node f (parts_of types m) its_ties i pl r own_number es w.web formed each_cared
      (cover f types i j m ss bs ns env pl r es fork branches (realised_are_of_types types env ns supplies) some w
      (children.are_children types i j ss env ns bs cared is_its [] bs refl))
      (children.one_each types i j ss env ns bs cared is_its)
      (λ p n s e. let (x, it) = served p n s e in (x, it.listed, it.shake, it.realises.suits.outcome))

  realised : AreRealised f (map (stage pl r) es)
  realised p n s e =
      let (x, it) = served p n s e in (
        stage pl r x,
        in_image (stage pl r) es x it.listed,
        it.shake,
        it.realises.suits.outcome,
        it.realises.suits.typed,
        it.is_run,
      )

  pub fork_is_realised : Realises (own_type f) r (own_term f)
  fork_is_realised = node_realises_by_type r own_number f (map (stage pl r) es) node (imports_are_ports types i j m ns env pl r w supplies) realised

pub fork_realises : InsideIsRealised → BranchIsChild → BranchHasParts → BranchesCover → ForkRealises
fork_realises insides child parts cover f types i j m ss bs ns env pl r fork branches some same w supplies differ fit sessions leaves real =
    fork_is_realised insides child parts cover f types i j m ss bs ns env pl r fork branches some same w supplies differ fit sessions leaves real
