-- Small servings: `import f : com -> com; f skip`, served by `fun a : com . a`.
--
-- Read first: Trees; SmallPlans of gos_plan. They show that the definitions can be met and can be missed.
use Rattle.std.specs.Prelude.{◌≡◌, [], ◌∷◌, codes}
use Rattle.gos_types.specs.Types.{Com, Fun}
use Rattle.gos_model.specs.Terms.{Term, Skip, Bound, Import, Lam, App}
use Rattle.gos_model.specs.Typing.{Imported}
use Rattle.gos_model.specs.Linking.{supplied}
use Rattle.gos_plan.specs.Kinds as kinds
use Rattle.gos_plan.specs.Plans.{PartEnd, ImportEnd, ResultEnd, Plan}
use Rattle.gos_plan.specs.Joining.{Wiring}
use Rattle.gos_plan.specs.SmallPlans.{skip_plan, same_plan}
use Rattle.gos_realises.specs.realises.Links.{LinksFit}
use Rattle.gos_realises.specs.realises.Wirings.{link}
use Rattle.gos_joining.specs.webs.Webs.{joint}
use Rattle.gos_supplies.specs.instances.Served.{serving, bound_to}
use Rattle.gos_supplies.specs.instances.Trees.{Tree, Alone, Serve, left_of, body_of, IsTree}

-- the plan and the term of the user, and the giver's term
abbrev pub called : Imported
called = record { name = codes "f"; ty = Fun Com Com }

abbrev pub user_plan : Plan
user_plan =
    record {
      weight = 10;
      imports = called ∷ [];
      outcome = Com;
      parts = kinds.Skip ∷ [];
      joints = joint (ResultEnd 0) (ImportEnd 0 1) ∷ joint (ImportEnd 0 0) (PartEnd 0 0) ∷ [];
    }

abbrev pub user_term : Term
user_term = App (Import (codes "f")) Skip

abbrev pub same_term : Term
same_term = Lam Com (Bound 0)

-- both handshakes of the import are joined, and the links fit
abbrev pub small_serving : Wiring
small_serving = serving 0 (Fun Com Com) user_plan same_plan

abbrev pub SmallServingIs : Type 0
SmallServingIs =
    small_serving
    ≡ record {
      plans = user_plan ∷ same_plan ∷ [];
      links = link 0 (ImportEnd 0 0) 1 (ResultEnd 0) ∷ link 0 (ImportEnd 0 1) 1 (ResultEnd 1) ∷ [];
      giver = 0;
      skipped = 0;
      outcome = Com;
    }

abbrev pub SmallServingFits : Type 0
SmallServingFits = LinksFit small_serving

-- those to a plan of `skip` don't: it has no second handshake
abbrev pub SkipServesNot : Type 0
SkipServesNot = LinksFit (serving 0 (Fun Com Com) user_plan skip_plan) → ⊥

-- the giver's term stands where the name stood, and for another name nothing is put in
abbrev pub FunctionIsApplied : Type 0
FunctionIsApplied = supplied (bound_to (codes "f") same_term) user_term ≡ App same_term Skip

abbrev pub OtherNameStays : Type 0
OtherNameStays = supplied (bound_to (codes "g") same_term) user_term ≡ user_term

-- The same as a tree of two instances. An instance of `skip` serves no function.
abbrev pub small_tree : Tree
small_tree = Serve [] [] called (Alone user_plan user_term) (Alone same_plan same_term)

abbrev pub SmallTreeIs : Type 0
SmallTreeIs = (left_of small_tree ≡ []) × (body_of small_tree ≡ App same_term Skip)

abbrev pub SkipIsNoGiver : Type 0
SkipIsNoGiver = IsTree (Serve [] [] called (Alone user_plan user_term) (Alone skip_plan Skip)) → ⊥

-- Two instances with an import of one name: that of the giver stays, and the user's is served.
abbrev pub two_calls : Tree
two_calls = Serve [] [] called (Alone user_plan user_term) (Alone (record user_plan { outcome = Fun Com Com }) (Lam Com user_term))

abbrev pub OneNameTwice : Type 0
OneNameTwice = (left_of two_calls ≡ (called ∷ [])) × (body_of two_calls ≡ App (Lam Com user_term) Skip)
