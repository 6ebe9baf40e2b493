-- How the bind lines of a build read on, line by line.
use Rattle.std.proofs.Common.{◌≡◌, ◌<◌, ℕ, List, [], ◌∷◌, ◌++◌, refl, sym, subst, Option, Some, None, append-nil, append_assoc, length, map}
use Rattle.std.proofs.lemmas.List.Quantifiers.{position-Some}
use Rattle.std.specs.Str.{bytes_eq}
use Rattle.gos_types.specs.declared.types.Ty.TheVariants.{Com}
use Rattle.gos_plan.specs.declared.plan.PlanImport.{PlanImport}
use Rattle.gos_lex.specs.Lines.{Word}
use Rattle.gos_plan.specs.Seen.{SeenPlan}
use Rattle.gos_link.specs.declared.build.Instance.{Instance}
use Rattle.gos_link.specs.declared.build.Bind.{Bind}
use Rattle.gos_link.specs.declared.services.Service.{Service}
use Rattle.gos_link.specs.declared.fault.LinkFault.{LinkFault}
use Rattle.gos_link.specs.Services.{instance_named, import_named, Means, IsRightBind, IsWrongBind, BindsOn}
use Rattle.gos_link.specs.inner.Tops.{AreTops, top_at, moved}
use Rattle.gos_link.proofs.TopLemmas.{tops_more}

-- an instance that is found is one of them
pub instance_low : (is : List Instance) (name : Word) (k : ℕ) → instance_named is name ≡ Some k → k < length is
instance_low is name k e =
    (position-Some (λ i. bytes_eq i.name name) is k (record { line = 0; name = []; source = []; object = [] }) e).0

pub import_low : (is : List PlanImport) (name : Word) (k : ℕ) → import_named is name ≡ Some k → k < length is
import_low is name k e = (position-Some (λ i. bytes_eq i.name name) is k (record { name = []; ty = Com }) e).0

pub user_low : (is : List Instance) (ps : List SeenPlan) (b : Bind) (s : Service) → Means is ps b s → s.user < length is
user_low is ps b s (p, q, x, line, all, type) = instance_low is b.user s.user all.both.finds_user

pub giver_low : (is : List Instance) (ps : List SeenPlan) (b : Bind) (s : Service) → Means is ps b s → s.giver < length is
giver_low is ps b s (p, q, x, line, all, type) = instance_low is b.giver s.giver all.both.finds_giver

-- the tops after a line more
pub tops_meant : (is : List Instance) (ps : List SeenPlan) (ss : List Service) (b : Bind) (s : Service) (tops after : List ℕ) → AreTops (length is) ss tops
    → IsRightBind is ps ss b s → after ≡ map (moved s.giver (top_at tops s.user)) tops → AreTops (length is) (ss ++ s ∷ []) after
tops_meant is ps ss b s tops after known right moves =
    tops_more (length is) ss tops known s after (user_low is ps b s right.means) (giver_low is ps b s right.means) right.unused right.ringless moves

-- whatever the rest means, all the lines mean the services so far and then that
abbrev pub MeansSoFar : List Instance → List SeenPlan → List Bind → List Service → List Bind → Type 0
MeansSoFar is ps all ss rest =
    (more : List Service) (ending : Option LinkFault) → BindsOn is ps ss rest more ending → BindsOn is ps [] all (ss ++ more) ending

module _ (is : List Instance) (ps : List SeenPlan) (all : List Bind) (ss : List Service) (rest : List Bind) where
  -- the lines end
  pub all_meant : MeansSoFar is ps all ss rest → rest ≡ [] → BindsOn is ps [] all ss None
  all_meant so_far ends =
      let last = so_far [] None (subst (λ (bs : List Bind). BindsOn is ps ss bs [] None) (sym ends) refl) in
      subst (λ (ts : List Service). BindsOn is ps [] all ts None) (append-nil ss) last

  -- the next line is right
  pub one_more : (b : Bind) (others : List Bind) (s : Service) → MeansSoFar is ps all ss rest → rest ≡ b ∷ others → IsRightBind is ps ss b s
      → MeansSoFar is ps all (ss ++ s ∷ []) others
  one_more b others s so_far here right = λ more ending means.
      let whole = so_far (s ∷ more) ending (subst (λ (bs : List Bind). BindsOn is ps ss bs (s ∷ more) ending) (sym here) (right, means)) in
      subst (λ (ts : List Service). BindsOn is ps [] all ts ending) (sym (append_assoc ss (s ∷ []) more)) whole

  -- the next line is wrong
  pub first_wrong : (b : Bind) (others : List Bind) (fault : LinkFault) → MeansSoFar is ps all ss rest → rest ≡ b ∷ others → IsWrongBind is ps ss b fault
      → (ts : List Service) × BindsOn is ps [] all ts (Some fault)
  first_wrong b others fault so_far here wrong =
      (ss ++ [], so_far [] (Some fault) (subst (λ (bs : List Bind). BindsOn is ps ss bs [] (Some fault)) (sym here) wrong))
