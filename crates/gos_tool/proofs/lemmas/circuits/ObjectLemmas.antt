-- Object files are read one after another.
use Rattle.std.proofs.Common.{◌≡◌, ◌<◌, ◌+◌, ◌∙◌, inl, inr, ℕ, suc, List, [], ◌∷◌, ◌++◌, Option, Some, None, drop, length, slice_index_or, subst, sym, arith}
use Rattle.std.specs.Prelude.{IfSome}
use Rattle.std.proofs.lemmas.List.{append-nil, append_assoc}
use Rattle.std.proofs.Math.Seq.{drop-cons}
use Rattle.gos_outside.specs.Files.{Files, bytes_at}
use Rattle.gos_lex.specs.Lines.{Word}
use Rattle.gos_plan.specs.Seen.{SeenPlan, plan_of}
use Rattle.gos_plan.specs.ObjectFaults.{IsRead}
use Rattle.gos_link.specs.declared.build.Instance.{Instance}
use Rattle.gos_command.specs.declared.status.Fault.{Fault}
use Rattle.gos_command.proofs.EndLemmas.{of_some, of_some_both}
use Rattle.gos_tool.specs.circuits.Objects.{HoldsPlan, HoldPlans, IsObjectFault, RejectsObject}
use Rattle.gos_tool.specs.circuits.inner.Reading.{AreReadBefore}

-- the next instance
pub next_instance : (xs : List Instance) (k : ℕ) (x : Instance) → k < length xs → x ≡ slice_index_or xs k x → drop k xs ≡ x ∷ drop (k + 1) xs
next_instance xs k x less is =
    let after : suc k ≡ k + 1 = omega arith in
    subst (λ (n : ℕ). drop k xs ≡ x ∷ drop n xs) after (drop-cons xs k x less ∙ (λ i. sym is i ∷ drop (suc k) xs))

-- what was read of its object, from the files as they were
pub same_read : (old mid : Option Files) (i : Instance) (name : Word) (p : SeenPlan) → mid ≡ old → name ≡ i.object
    → IfSome mid (λ files. IsRead (bytes_at files name) (plan_of p)) → IfSome old (λ files. HoldsPlan files i p)
same_read old mid i name p same is read =
    subst (λ (n : Word). IfSome old (λ files. IsRead (bytes_at files n) (plan_of p))) is
    (subst (λ (told : Option Files). IfSome told (λ files. IsRead (bytes_at files name) (plan_of p))) same read)

pub same_rejected : (old mid : Option Files) (i : Instance) (name : Word) (fault : Fault) (line : List ℕ) → mid ≡ old → name ≡ i.object
    → IfSome mid (λ files. IsObjectFault files name fault line) → IfSome old (λ files. IsObjectFault files i.object fault line)
same_rejected old mid i name fault line same is wrong =
    subst (λ (n : Word). IfSome old (λ files. IsObjectFault files n fault line)) is
    (subst (λ (told : Option Files). IfSome told (λ files. IsObjectFault files name fault line)) same wrong)

-- one more
pub one_read : (old : Option Files) (all rest : List Instance) (i : Instance) (plans : List SeenPlan) (p : SeenPlan)
    → AreReadBefore old all (i ∷ rest) plans → IfSome old (λ files. HoldsPlan files i p) → AreReadBefore old all rest (plans ++ p ∷ [])
one_read old all rest i plans p before holds =
    record {
      held = λ more h. subst (λ (ps : List SeenPlan). IfSome old (λ files. HoldPlans files all ps)) (sym (append_assoc plans (p ∷ []) more))
          (before.held (p ∷ more)
          (of_some_both (λ files. HoldsPlan files i p) (λ files. HoldPlans files rest more) (λ files. HoldPlans files (i ∷ rest) (p ∷ more)) old
          (λ files one others. (one, others)) holds h));
      rejected = λ fault line h. before.rejected fault line
          (of_some_both (λ files. HoldsPlan files i p) (λ files. RejectsObject files rest fault line) (λ files. RejectsObject files (i ∷ rest) fault line) old
          (λ files one wrong. inr (p, one, wrong)) holds h);
      call = λ fault h. before.call fault (inr (p, holds, h));
    }

-- the next is rejected
pub next_rejected : (old : Option Files) (all rest : List Instance) (i : Instance) (plans : List SeenPlan) (fault : Fault) (line : List ℕ)
    → AreReadBefore old all (i ∷ rest) plans → IfSome old (λ files. IsObjectFault files i.object fault line) → IfSome old (λ files. RejectsObject files all fault line)
next_rejected old all rest i plans fault line before wrong =
    before.rejected fault line
    (of_some (λ files. IsObjectFault files i.object fault line) (λ files. RejectsObject files (i ∷ rest) fault line) old (λ files h. inl h) wrong)

-- all
pub all_read : (old : Option Files) (all : List Instance) (plans : List SeenPlan) → AreReadBefore old all [] plans → IfSome old (λ files. HoldPlans files all plans)
all_read old all plans before =
    subst (λ (ps : List SeenPlan). IfSome old (λ files. HoldPlans files all ps)) (append-nil plans) (before.held [] (nothing old))
  where
    nothing : (old : Option Files) → IfSome old (λ files. HoldPlans files [] [])
    nothing None = tt
    nothing (Some files) = tt
