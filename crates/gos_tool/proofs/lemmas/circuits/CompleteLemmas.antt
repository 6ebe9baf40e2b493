-- Files that are right for `link` have no fault: a build file has one answer, and so has an object file.
use Rattle.std.proofs.Common.{◌≡◌, inl, inr, ℕ, List, [], ◌∷◌, None, ap, subst}
use Rattle.gos_outside.specs.Files.{Files, bytes_at}
use Rattle.gos_lex.specs.Lines.{Word, statements_of}
use Rattle.gos_plan.specs.Seen.{SeenPlan, plan_of}
use Rattle.gos_plan.specs.ObjectFaults.{ReadHasNoFault}
use Rattle.gos_link.specs.Answers.{IsOneBuild, BuildHasNoWrongLine}
use Rattle.gos_link.specs.BuildFile.{IsBuildFile, ReadsOn, Sum, nothing, sum_of, whole}
use Rattle.gos_link.specs.Linked.{IsUnlinked}
use Rattle.gos_link.specs.declared.build.Build.{Build}
use Rattle.gos_link.specs.declared.build.Instance.{Instance}
use Rattle.gos_link.specs.declared.said.Item.{Item}
use Rattle.gos_link.specs.declared.fault.LinkFault.{LinkFault}
use Rattle.gos_link.specs.declared.fault.LinkFault.TheVariants as faults
use Rattle.gos_command.specs.declared.status.Cause.{Cause}
use Rattle.gos_command.specs.declared.status.Cause.TheVariants as causes
use Rattle.gos_command.specs.declared.status.Fault.{Fault}
use Rattle.gos_tool.specs.circuits.Objects.{HoldPlans, HoldsPlan, IsObjectCause, RejectsObject}
use Rattle.gos_tool.specs.circuits.Plans.{IsPlansCause}
use Rattle.gos_tool.specs.circuits.Linked.{IsFormCause, IsLinkCause, RejectsWhole}
use Rattle.gos_tool.specs.circuits.Complete.{EmptyIsNoBuild, LinkIsNotRejected}
use Rattle.gos_tool.proofs.lemmas.circuits.SameBuildLemmas.{instances_same, unlinked_too}

-- a build file has no wrong line
no_wrong_line : BuildHasNoWrongLine → (text own : List ℕ) (b : Build) → IsBuildFile text own b → (fault : LinkFault) → IsFormCause text own (causes.Link fault) → ⊥
no_wrong_line not_wrong text own b is (faults.Form line) wrong = not_wrong text own b line is wrong
no_wrong_line not_wrong text own b is (faults.NoInstance line name) wrong = wrong
no_wrong_line not_wrong text own b is (faults.NoImport line name) wrong = wrong
no_wrong_line not_wrong text own b is (faults.TypeDiffers line want got) wrong = wrong
no_wrong_line not_wrong text own b is (faults.BoundTwice first second) wrong = wrong
no_wrong_line not_wrong text own b is (faults.UsedTwice first second) wrong = wrong
no_wrong_line not_wrong text own b is (faults.Loop line) wrong = wrong
no_wrong_line not_wrong text own b is (faults.Unplaced name) wrong = wrong
no_wrong_line not_wrong text own b is (faults.OpenTwice name first second) wrong = wrong
no_wrong_line not_wrong text own b is (faults.NotGround name) wrong = wrong
no_wrong_line not_wrong text own b is (faults.TooHeavy weight) wrong = wrong
no_wrong_line not_wrong text own b is (faults.TooLarge size ports) wrong = wrong
no_wrong_line not_wrong text own b is faults.NoMemory wrong = wrong

pub no_form_cause : BuildHasNoWrongLine → (text own : List ℕ) (b : Build) → IsBuildFile text own b → (cause : Cause) → IsFormCause text own cause → ⊥
no_form_cause not_wrong text own b is (causes.Link fault) wrong = no_wrong_line not_wrong text own b is fault wrong
no_form_cause not_wrong text own b is (causes.Lex fault) wrong = wrong
no_form_cause not_wrong text own b is (causes.Syntax fault) wrong = wrong
no_form_cause not_wrong text own b is (causes.Check fault) wrong = wrong
no_form_cause not_wrong text own b is (causes.Object fault) wrong = wrong
no_form_cause not_wrong text own b is (causes.Net fault) wrong = wrong
no_form_cause not_wrong text own b is (causes.Refused fault) wrong = wrong
no_form_cause not_wrong text own b is (causes.Pulse fault) wrong = wrong
no_form_cause not_wrong text own b is (causes.Gates fault) wrong = wrong
no_form_cause not_wrong text own b is (causes.Explain fault) wrong = wrong

-- plans without a fault of linking
pub no_plans_cause : (b : Build) (ps : List SeenPlan) → ((fault : LinkFault) → IsUnlinked b ps fault → ⊥) → (cause : Cause) → IsPlansCause b ps cause → ⊥
no_plans_cause b ps links (causes.Link fault) wrong = links fault wrong.1
no_plans_cause b ps links (causes.Lex fault) wrong = wrong
no_plans_cause b ps links (causes.Syntax fault) wrong = wrong
no_plans_cause b ps links (causes.Check fault) wrong = wrong
no_plans_cause b ps links (causes.Object fault) wrong = wrong
no_plans_cause b ps links (causes.Net fault) wrong = wrong
no_plans_cause b ps links (causes.Refused fault) wrong = wrong
no_plans_cause b ps links (causes.Pulse fault) wrong = wrong
no_plans_cause b ps links (causes.Gates fault) wrong = wrong
no_plans_cause b ps links (causes.Explain fault) wrong = wrong

-- object files that hold plans
no_object_cause : ((text : List ℕ) → ReadHasNoFault text) → (files : Files) (i : Instance) (p : SeenPlan) → HoldsPlan files i p
    → (cause : Cause) → IsObjectCause (bytes_at files i.object) cause → ⊥
no_object_cause no_fault files i p held (causes.Object fault) (real, has) = real (no_fault (bytes_at files i.object) (plan_of p) fault held has)
no_object_cause no_fault files i p held (causes.Lex fault) wrong = wrong
no_object_cause no_fault files i p held (causes.Syntax fault) wrong = wrong
no_object_cause no_fault files i p held (causes.Check fault) wrong = wrong
no_object_cause no_fault files i p held (causes.Link fault) wrong = wrong
no_object_cause no_fault files i p held (causes.Net fault) wrong = wrong
no_object_cause no_fault files i p held (causes.Refused fault) wrong = wrong
no_object_cause no_fault files i p held (causes.Pulse fault) wrong = wrong
no_object_cause no_fault files i p held (causes.Gates fault) wrong = wrong
no_object_cause no_fault files i p held (causes.Explain fault) wrong = wrong

no_object : ((text : List ℕ) → ReadHasNoFault text) → (files : Files) (is : List Instance) (ps : List SeenPlan) (fault : Fault) (line : List ℕ)
    → HoldPlans files is ps → RejectsObject files is fault line → ⊥
no_object no_fault files [] ps fault line held wrong = wrong
no_object no_fault files (i ∷ is) [] fault line held wrong = held
no_object no_fault files (i ∷ is) (p ∷ ps) fault line held (inl wrong) = no_object_cause no_fault files i p held.0 fault.cause wrong.cause
no_object no_fault files (i ∷ is) (p ∷ ps) fault line held (inr (q, other, wrong)) = no_object no_fault files is ps fault line held.1 wrong

-- the plans of another build that says the same
no_link_cause : (files : Files) (b c : Build) → whole b ≡ whole c
    → ((ps : List SeenPlan) (fault : LinkFault) → HoldPlans files c.instances.items ps → IsUnlinked c ps fault → ⊥)
    → (cause : Cause) → IsLinkCause files b cause → ⊥
no_link_cause files b c same links cause (ps, held, why) =
    no_plans_cause b ps
    (λ fault unlinked. links ps fault (subst (λ (is : List Instance). HoldPlans files is ps) (instances_same b c same) held) (unlinked_too b c same ps fault unlinked))
    cause why

pub link_is_not_rejected : IsOneBuild → BuildHasNoWrongLine → ((text : List ℕ) → ReadHasNoFault text) → LinkIsNotRejected
link_is_not_rejected one_build not_wrong no_fault files own fault line right (inl wrong) =
    no_form_cause not_wrong (bytes_at files own) own right.build right.says fault.cause wrong.cause
link_is_not_rejected one_build not_wrong no_fault files own fault line right (inr (b, says, wrong)) =
    by (one_build (bytes_at files own) own b right.build says right.says) wrong
  where
    by : whole b ≡ whole right.build → RejectsWhole files own b fault line → ⊥
    by same (inl no_plan) =
        no_object no_fault files right.build.instances.items right.plans fault line right.held
        (subst (λ (is : List Instance). RejectsObject files is fault line) (instances_same b right.build same) no_plan)
    by same (inr unlinked) = no_link_cause files b right.build same right.links fault.cause unlinked.cause

-- an empty text says nothing, and so no build
nothing_said : (own : Word) (items : List Item) (b : Build) → ReadsOn own [] (statements_of []) items None → sum_of nothing items ≡ whole b → ⊥
nothing_said own [] b reads e = let root = ap (λ (s : Sum). s.root) e in cc
nothing_said own (item ∷ items) b reads e = reads

pub empty_is_no_build : EmptyIsNoBuild
empty_is_no_build files own b e says =
    let is = subst (λ (text : List ℕ). IsBuildFile text own b) e says in
    nothing_said own is.items b is.reads is.says
