-- From the calls of `build` to what it leaves, at each of its ends: once the build file is read, once the sources are compiled, and
-- once the plans are linked.
use Rattle.std.proofs.Common.{◌≡◌, inl, inr, ℕ, List, [], ◌∷◌, Option, subst, sym}
use Rattle.std.specs.Prelude.{IfSome}
use Rattle.gos_outside.specs.Files.{Files}
use Rattle.gos_outside.specs.OtherFiles.{OthersSame}
use Rattle.gos_outside.specs.Faults.{LastFault}
use Rattle.gos_outside.proofs.OtherFilesLemmas.{then_later, more_names, apart_front, apart_back}
use Rattle.gos_lex.specs.Lines.{Word}
use Rattle.gos_plan.specs.Seen.{SeenPlan}
use Rattle.gos_link.specs.BuildFile.{IsBuildFile}
use Rattle.gos_link.specs.declared.build.Build.{Build}
use Rattle.gos_link.specs.declared.build.Instance.{Instance}
use Rattle.gos_command.specs.declared.report.Report.{Report}
use Rattle.gos_command.specs.declared.status.Fault.{Fault}
use Rattle.gos_command.proofs.EndLemmas.{of_some_both}
use Rattle.gos_tool.specs.declared.circuits.layout.Layout.{Layout}
use Rattle.gos_tool.specs.circuits.Linked.{SaysBuild}
use Rattle.gos_tool.specs.build.Objects.{objects_of, AllWritten, SomeWritten, RejectsModule, IsModuleCall}
use Rattle.gos_tool.specs.build.Built.{IsPlansBuilt, IsBuiltAs, RejectsPlans, RejectsBuildAs, IsPlansBuildCall, IsBuildCallAs, IsPlansBuildCutShort, IsBuildCutShortAs, KeepsUnnamed, written_by}
use Rattle.gos_tool.proofs.lemmas.circuits.LinkLemmas.{HasRead}
use Rattle.gos_tool.specs.build.Paced.{BuildRealises, BuildKeepsPace, BuildHasImports, BuildIsTyped, BuildHasWeight, BuildIsSmall}

module _ {old told : Option Files} {own : Word} {b : Build} (has : HasRead old told own b) (new : Option Files) where
  -- what the compiling of the sources leaves, of instances that are those of the build
  after_reading : (P Q : Files → Type 0) → IfSome told P → ((files : Files) → SaysBuild files own b → P files → Q files) → IfSome old Q
  after_reading P Q h f =
      of_some_both (λ files. SaysBuild files own b) P Q old f has.says (subst (λ (o : Option Files). IfSome o P) has.kept h)

  pub source_rejected : (layout : Layout) (is : List Instance) (fault : Fault) (line : List ℕ) → is ≡ b.instances.items
      → IfSome told (λ files. RejectsModule files new is fault line) → IfSome old (λ files. RejectsBuildAs layout files new own fault line)
  source_rejected layout is fault line same wrong =
      after_reading (λ files. RejectsModule files new is fault line) (λ files. RejectsBuildAs layout files new own fault line) wrong
      (λ files says h. inr (b, says, inl (subst (λ (js : List Instance). RejectsModule files new js fault line) same h)))

  pub source_call : (layout : Layout) → ((text : List ℕ) × IsBuildFile text own b) → (is : List Instance) (fault : LastFault) → is ≡ b.instances.items
      → IsModuleCall told new is fault → IsBuildCallAs layout old new own fault
  source_call layout read is fault same call =
      inr (
        b,
        (read, has.says),
        inl (subst (λ (o : Option Files). IsModuleCall o new b.instances.items fault) has.kept
            (subst (λ (js : List Instance). IsModuleCall told new js fault) same call)),
      )

  pub source_cut_short : (layout : Layout) (is : List Instance) → is ≡ b.instances.items
      → IfSome told (λ files. SomeWritten files new is) → IfSome old (λ files. IsBuildCutShortAs layout files new own)
  source_cut_short layout is same short =
      after_reading (λ files. SomeWritten files new is) (λ files. IsBuildCutShortAs layout files new own) short
      (λ files says h. inr (b, says, inl (subst (λ (js : List Instance). SomeWritten files new js) same h)))

  -- all files but the objects are as they were
  objects_alone : (is : List Instance) → is ≡ b.instances.items → OthersSame (objects_of is) told new → OthersSame (written_by b) old new
  objects_alone is same others =
      subst (λ (o : Option Files). OthersSame (written_by b) o new) has.kept
      (more_names (objects_of b.instances.items) (written_by b) told new
      (λ other apart. apart_front other (objects_of b.instances.items) (b.net ∷ b.verilog ∷ b.trace ∷ []) apart)
      (subst (λ (js : List Instance). OthersSame (objects_of js) told new) same others))

  pub source_others : (is : List Instance) → is ≡ b.instances.items → OthersSame (objects_of is) told new → KeepsUnnamed own old new
  source_others is same others = inr (b, has.says, objects_alone is same others)

-- the sources were compiled to these plans, and their objects written
pub record HasCompiled (old told : Option Files) (own : Word) (b : Build) (plans : List SeenPlan) : Type 0 where
  pub says : IfSome old (λ files. SaysBuild files own b)
  pub written : IfSome old (λ files. AllWritten files told b.instances.items plans)
  pub others : OthersSame (written_by b) old told

pub compiled : {old between : Option Files} {own : Word} {b : Build} → HasRead old between own b → (told : Option Files) (is : List Instance) (made plans : List SeenPlan)
    → is ≡ b.instances.items → plans ≡ made → IfSome between (λ files. AllWritten files told is made) → OthersSame (objects_of is) between told
    → HasCompiled old told own b plans
compiled {old} {between} {own} {b} has told is made plans same linked written others =
    record {
      says = has.says;
      written =
          after_reading has told (λ files. AllWritten files told is made) (λ files. AllWritten files told b.instances.items plans) written
          (λ files says h. subst (λ (ps : List SeenPlan). AllWritten files told b.instances.items ps) (sym linked)
          (subst (λ (js : List Instance). AllWritten files told js made) same h));
      others = objects_alone has told is same others;
    }

module _ {old told : Option Files} {own : Word} {b : Build} {plans : List SeenPlan} (has : HasCompiled old told own b plans) (new : Option Files) where
  after_compiling : (Q : Files → Type 0) → ((files : Files) → SaysBuild files own b → AllWritten files told b.instances.items plans → Q files) → IfSome old Q
  after_compiling Q f =
      of_some_both (λ files. SaysBuild files own b) (λ files. AllWritten files told b.instances.items plans) Q old f has.says has.written

  pub plans_rejected : (layout : Layout) (fault : Fault) (line : List ℕ) → RejectsPlans layout told new own b plans fault line → IfSome old (λ files. RejectsBuildAs layout files new own fault line)
  plans_rejected layout fault line wrong =
      after_compiling (λ files. RejectsBuildAs layout files new own fault line) (λ files says written. inr (b, says, inr (plans, told, written, wrong)))

  pub plans_call : (layout : Layout) → ((text : List ℕ) × IsBuildFile text own b) → (fault : LastFault) → IsPlansBuildCall layout told new b plans fault
      → IsBuildCallAs layout old new own fault
  plans_call layout read fault call = inr (b, (read, has.says), inr (plans, told, has.written, call))

  pub plans_cut_short : (layout : Layout) → IsPlansBuildCutShort layout told new b plans → IfSome old (λ files. IsBuildCutShortAs layout files new own)
  plans_cut_short layout short =
      after_compiling (λ files. IsBuildCutShortAs layout files new own) (λ files says written. inr (b, says, inr (plans, told, written, short)))

  pub plans_others : OthersSame (b.net ∷ b.verilog ∷ b.trace ∷ []) told new → KeepsUnnamed own old new
  plans_others others =
      inr (
        b,
        has.says,
        then_later (written_by b) old told new has.others
            (more_names (b.net ∷ b.verilog ∷ b.trace ∷ []) (written_by b) told new
            (λ other apart. apart_back other (objects_of b.instances.items) (b.net ∷ b.verilog ∷ b.trace ∷ []) apart) others),
      )

  -- all was done
  pub built : (layout : Layout) → BuildRealises → BuildKeepsPace → BuildHasImports → BuildIsTyped → BuildHasWeight → BuildIsSmall → (report : Report)
      → IsPlansBuilt layout told new b plans report → IfSome old (λ files. IsBuiltAs layout files new own report)
  built layout realises has_pace has_imports is_typed has_weight small report h =
      after_compiling (λ files. IsBuiltAs layout files new own report)
      (λ files said written. record {
        build = b;
        plans = plans;
        objects = told;
        says = said;
        compiled = written;
        built = h;
        realises = realises layout files told told h.between b plans h.weight h.net written h.written;
        pace = has_pace layout files told told h.between b plans h.weight h.net written h.written;
        imports = has_imports layout files told told h.between b plans h.weight h.net written h.written;
        typed = is_typed layout files told told h.between b plans h.weight h.net written h.written;
        weighs = has_weight layout files told told h.between b plans h.weight h.net written h.written;
        few = small layout files told told h.between b plans h.weight h.net written h.written;
      })
