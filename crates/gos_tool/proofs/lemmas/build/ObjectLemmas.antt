-- The objects of instances are written one after another.
--
-- `so_far` adds the next instance to those before it; `rejects` and `calls` say what is so where it is rejected or a call for it
-- fails. What is known of a source from the files in between holds of the files before, since it is no object (`moved`).
use Rattle.std.proofs.Common.{◌≡◌, ◌≢◌, ◌<◌, ◌∙◌, inl, inr, ℕ, zero, suc, List, [], ◌∷◌, ◌++◌, Option, Some, None, length, take, slice_get, slice_index_or, unwrap_or, refl, ap, sym, subst, arith}
use Rattle.std.specs.Prelude.{IfSome}
use Rattle.gos_outside.specs.Files.{Files, bytes_at, with_file, SameBut}
use Rattle.gos_outside.specs.OtherFiles.{IsApart, OthersSame}
use Rattle.gos_outside.specs.Faults.{LastFault, WriteFault}
use Rattle.gos_outside.proofs.OtherFilesLemmas.{one_more}
use Rattle.gos_lex.specs.Lines.{Word}
use Rattle.gos_syntax.specs.Modules.{SeenModule}
use Rattle.gos_check.specs.Checked.{SeenLinear}
use Rattle.gos_plan.specs.ObjectText.{text_of}
use Rattle.gos_plan.specs.Plans.{Plan}
use Rattle.gos_plan.specs.Seen.{SeenPlan, plan_of}
use Rattle.gos_link.specs.declared.build.Instance.{Instance}
use Rattle.gos_command.specs.declared.status.Fault.{Fault}
use Rattle.gos_command.proofs.EndLemmas.{of_some, of_some_both}
use Rattle.gos_tool.specs.objects.Checked.{SaysModule, IsSourceFault, IsSourceCause}
use Rattle.gos_tool.specs.objects.Typed.{IsTypedAs, IsPlanFor}
use Rattle.gos_tool.specs.objects.Compiled.{IsPlanOfModule}
use Rattle.gos_tool.proofs.lemmas.objects.CompiledLemmas.{plan_is}
use Rattle.gos_tool.specs.build.Objects.{BeginWith, HavePlans, objects_of, with_objects, AllWritten, SomeWritten, RejectsModule, IsInstanceCall, AreFirstWritten, IsModuleCall}
use Rattle.gos_tool.specs.build.inner.Compiling.{EachApart, AreApart, IsCompiledAs, AreSoFar}

-- an instance at its place
instance_at : (is : List Instance) (k : ℕ) (i : Instance) → k < length is → i ≡ slice_index_or is k i → slice_get is k ≡ Some i
instance_at [] k i less e = absurd (omega (arith, less))
instance_at (j ∷ is) zero i less e = ap (λ (x : Instance). Some x) (sym e)
instance_at (j ∷ is) (suc k) i less e = instance_at is k i (omega (arith, less)) e

pub none_at : (k : ℕ) (i : Instance) → slice_get [] k ≡ Some i → ⊥
none_at zero i e = cc e
none_at (suc k) i e = cc e

pub first_at : (j : Instance) (is : List Instance) (i : Instance) → slice_get (j ∷ is) 0 ≡ Some i → j ≡ i
first_at j is i e = cc e

apart_at : (is : List Instance) (names : List Word) (k : ℕ) (i : Instance) → slice_get is k ≡ Some i → EachApart is names → IsApart i.source names
apart_at [] names k i at apart = absurd (none_at k i at)
apart_at (j ∷ is) names zero i at apart = subst (λ (x : Instance). IsApart x.source names) (first_at j is i at) apart.0
apart_at (j ∷ is) names (suc k) i at apart = apart_at is names k i at apart.1

object_at : (is : List Instance) (k : ℕ) (i : Instance) (other : Word) → slice_get is k ≡ Some i → IsApart other (objects_of is) → other ≢ i.object
object_at [] k i other at apart = absurd (none_at k i at)
object_at (j ∷ is) zero i other at apart = subst (λ (x : Instance). other ≢ x.object) (first_at j is i at) apart.0
object_at (j ∷ is) (suc k) i other at apart = object_at is k i other at apart.1

-- what is so of a source in the files in between is so in those before
moved : (P : Files → Type 0) (source : Word) (names : List Word) (old mid : Option Files)
    → ((now files : Files) → bytes_at now source ≡ bytes_at files source → P now → P files)
    → IsApart source names → OthersSame names old mid → IfSome mid P → IfSome old P
moved P source names None mid step apart same h = tt
moved P source names (Some files) None step apart same h = absurd same
moved P source names (Some files) (Some now) step apart same h =
    step now files (ap (λ (found : Option (List ℕ)). unwrap_or found []) (same source apart)) h

fault_moved : (source : Word) (fault : Fault) (line : List ℕ) (now files : Files) → bytes_at now source ≡ bytes_at files source
    → IsSourceFault now source fault line → IsSourceFault files source fault line
fault_moved source fault line now files e w =
    record { file = w.file; real = w.real; cause = subst (λ (t : List ℕ). IsSourceCause (take 65537 t) fault.cause) e w.cause; says = w.says }

-- modules, plans and files with one instance more
same_length : (ms : List SeenModule) (ps : List SeenPlan) → HavePlans ms ps → length ms ≡ length ps
same_length [] [] have = refl
same_length [] (p ∷ ps) have = absurd have
same_length (m ∷ ms) [] have = absurd have
same_length (m ∷ ms) (p ∷ ps) have = ap suc (same_length ms ps have.1)

begin_more : (files : Files) (is : List Instance) (ms : List SeenModule) (i : Instance) (m : SeenModule) → slice_get is (length ms) ≡ Some i
    → BeginWith files is ms → SaysModule (bytes_at files i.source) m → BeginWith files is (ms ++ m ∷ [])
begin_more files [] [] i m at begin says = absurd (none_at 0 i at)
begin_more files [] (n ∷ ms) i m at begin says = absurd begin
begin_more files (j ∷ is) [] i m at begin says = (subst (λ (x : Instance). SaysModule (bytes_at files x.source) m) (sym (first_at j is i at)) says, tt)
begin_more files (j ∷ is) (n ∷ ms) i m at begin says = (begin.0, begin_more files is ms i m at begin.1 says)

plans_more : (ms : List SeenModule) (ps : List SeenPlan) (m : SeenModule) (p : SeenPlan) → HavePlans ms ps → IsPlanOfModule m (plan_of p)
    → HavePlans (ms ++ m ∷ []) (ps ++ p ∷ [])
plans_more [] [] m p have one = (one, tt)
plans_more [] (q ∷ ps) m p have one = absurd have
plans_more (n ∷ ms) [] m p have one = absurd have
plans_more (n ∷ ms) (q ∷ ps) m p have one = (have.0, plans_more ms ps m p have.1 one)

objects_more : (old : Option Files) (is : List Instance) (ps : List SeenPlan) (i : Instance) (p : SeenPlan) → slice_get is (length ps) ≡ Some i
    → with_objects old is (ps ++ p ∷ []) ≡ with_file i.object (text_of (plan_of p)) (with_objects old is ps)
objects_more old [] ps i p at = absurd (none_at (length ps) i at)
objects_more old (j ∷ is) [] i p at = ap (λ (x : Instance). with_file x.object (text_of (plan_of p)) old) (first_at j is i at)
objects_more old (j ∷ is) (q ∷ ps) i p at = objects_more (with_file j.object (text_of (plan_of q)) old) is ps i p at

-- one more
more_written : (files : Files) (mid new : Option Files) (is : List Instance) (plans : List SeenPlan) (i : Instance) (p : SeenPlan)
    → slice_get is (length plans) ≡ Some i → new ≡ with_file i.object (text_of (plan_of p)) mid → AreSoFar files mid is plans
    → IsCompiledAs (bytes_at files i.source) (plan_of p) → AreSoFar files new is (plans ++ p ∷ [])
more_written files mid new is plans i p at wrote before one =
    let w = before.written in
    let text = text_of (plan_of p) in
    let place = subst (λ (n : ℕ). slice_get is n ≡ Some i) (sym (same_length before.modules plans w.plans)) at in
    record {
      modules = before.modules ++ one.made ∷ [];
      written = record {
        say = begin_more files is before.modules i one.made place w.say one.says;
        plans = plans_more before.modules plans one.made p w.plans one.compiled;
        wrote = wrote ∙ (ap (λ (told : Option Files). with_file i.object text told) w.wrote ∙ sym (objects_more (Some files) is plans i p at));
      };
    }

-- the first instances, where no call after them changed a file
abbrev some_of : (files : Files) (mid new : Option Files) (is : List Instance) (plans : List SeenPlan) → new ≡ mid → AreSoFar files mid is plans
    → SomeWritten files new is
some_of files mid new is plans kept far =
    record {
      modules = far.modules;
      plans = plans;
      written = record { say = far.written.say; plans = far.written.plans; wrote = kept ∙ far.written.wrote };
    }

pub some_written : (old mid new : Option Files) (is : List Instance) (plans : List SeenPlan) → new ≡ mid → IfSome old (λ files. AreSoFar files mid is plans)
    → IfSome old (λ files. SomeWritten files new is)
some_written old mid new is plans kept before =
    of_some (λ files. AreSoFar files mid is plans) (λ files. SomeWritten files new is) old (λ files far. some_of files mid new is plans kept far) before

-- the source of an instance is compiled, and the write of its object fails
pub compiled_as : (told : Option Files) (name source : Word) → name ≡ source → (linear : SeenLinear) (plan : Plan)
    → IfSome told (λ files. IsTypedAs (bytes_at files name) linear) → IsPlanFor linear plan → IfSome told (λ files. IsCompiledAs (bytes_at files source) plan)
compiled_as told name source same linear plan typed is =
    subst (λ (n : Word). IfSome told (λ files. IsCompiledAs (bytes_at files n) plan)) same
    (of_some (λ files. IsTypedAs (bytes_at files name) linear) (λ files. IsCompiledAs (bytes_at files name) plan) told
    (λ files h. record {
      made = h.made;
      says = h.says;
      compiled = plan_is (bytes_at files name) linear h plan is;
    })
    typed)

pub instance_call : (old mid new : Option Files) (i : Instance) (name object : Word) (linear : SeenLinear) (fault : LastFault)
    → name ≡ i.source → object ≡ i.object → mid ≡ old → IfSome old (λ files. IsTypedAs (bytes_at files name) linear)
    → fault ≡ WriteFault object → SameBut object mid new
    → IsInstanceCall old new i (IfSome old (λ files. (m : SeenModule) × SaysModule (bytes_at files i.source) m)) fault
instance_call old mid new i name object linear fault same_source same_object kept typed is others =
    inr (
      subst (λ (n : Word). fault ≡ WriteFault n) same_object is,
      subst (λ (n : Word). SameBut n old new) same_object (subst (λ (told : Option Files). SameBut object told new) kept others),
      subst (λ (n : Word). IfSome old (λ files. (m : SeenModule) × SaysModule (bytes_at files n) m)) same_source
          (of_some (λ files. IsTypedAs (bytes_at files name) linear) (λ files. (m : SeenModule) × SaysModule (bytes_at files name) m) old
          (λ files h. (h.made, h.says)) typed),
    )

-- The next instance, once the objects of those before it were written. No source is an object.
pub record IsNext (old mid : Option Files) (is : List Instance) (plans : List SeenPlan) (i : Instance) : Type 0 where
  pub apart : AreApart is
  pub before : IfSome old (λ files. AreSoFar files mid is plans)
  pub same : OthersSame (objects_of is) old mid
  pub at : slice_get is (length plans) ≡ Some i

pub is_next : {old mid : Option Files} {is : List Instance} {plans : List SeenPlan} {k : ℕ} {i : Instance} → AreApart is
    → IfSome old (λ files. AreSoFar files mid is plans) → length plans ≡ k → OthersSame (objects_of is) old mid
    → k < length is → i ≡ slice_index_or is k i → IsNext old mid is plans i
is_next {is = is} {k = k} {i = i} apart before count same less e =
    record { apart = apart; before = before; same = same; at = subst (λ (n : ℕ). slice_get is n ≡ Some i) (sym count) (instance_at is k i less e) }

module _ {old mid : Option Files} {is : List Instance} {plans : List SeenPlan} {i : Instance} (next : IsNext old mid is plans i) where
  -- what is so of its source is so in the files before
  source_was : (P : Files → Type 0) → ((now files : Files) → bytes_at now i.source ≡ bytes_at files i.source → P now → P files) → IfSome mid P → IfSome old P
  source_was P step h = moved P i.source (objects_of is) old mid step (apart_at is (objects_of is) (length plans) i next.at next.apart) next.same h

  -- its object is written
  pub so_far : (new : Option Files) (p : SeenPlan) → new ≡ with_file i.object (text_of (plan_of p)) mid → IfSome mid (λ files. IsCompiledAs (bytes_at files i.source) (plan_of p))
      → IfSome old (λ files. AreSoFar files new is (plans ++ p ∷ []))
  so_far new p wrote one =
      of_some_both (λ files. AreSoFar files mid is plans) (λ files. IsCompiledAs (bytes_at files i.source) (plan_of p)) (λ files. AreSoFar files new is (plans ++ p ∷ [])) old
      (λ files far h. more_written files mid new is plans i p next.at wrote far h) next.before
      (source_was (λ files. IsCompiledAs (bytes_at files i.source) (plan_of p)) (λ now files e h. subst (λ (t : List ℕ). IsCompiledAs t (plan_of p)) e h) one)

  -- all files but the objects are as they were
  pub objects_same : (new : Option Files) → SameBut i.object mid new → OthersSame (objects_of is) old new
  objects_same new same = one_more i.object (objects_of is) old mid new (λ other apart. object_at is (length plans) i other next.at apart) next.same same

  -- it is rejected
  pub rejects : (new : Option Files) (fault : Fault) (line : List ℕ) → new ≡ mid → IfSome mid (λ files. IsSourceFault files i.source fault line)
      → IfSome old (λ files. RejectsModule files new is fault line)
  rejects new fault line kept wrong =
      of_some_both (λ files. AreSoFar files mid is plans) (λ files. IsSourceFault files i.source fault line) (λ files. RejectsModule files new is fault line) old
      (λ files far why. record { before = some_of files mid new is plans kept far; instance = i; at = next.at; why = why }) next.before
      (source_was (λ files. IsSourceFault files i.source fault line) (fault_moved i.source fault line) wrong)

  -- a call for it fails
  call_moved : (new : Option Files) (fault : LastFault) → IsInstanceCall mid new i (IfSome mid (λ files. (m : SeenModule) × SaysModule (bytes_at files i.source) m)) fault
      → IsInstanceCall mid new i (IfSome old (λ files. (m : SeenModule) × SaysModule (bytes_at files i.source) m)) fault
  call_moved new fault (inl read) = inl read
  call_moved new fault (inr (failed, others, says)) =
      inr (
        failed,
        others,
        source_was (λ files. (m : SeenModule) × SaysModule (bytes_at files i.source) m) (λ now files e h. (h.0, subst (λ (t : List ℕ). SaysModule t h.0) e h.1)) says,
      )

  pub calls : (new : Option Files) (fault : LastFault) → IsInstanceCall mid new i (IfSome mid (λ files. (m : SeenModule) × SaysModule (bytes_at files i.source) m)) fault
      → IsModuleCall old new is fault
  calls new fault call =
      record {
        number = length plans;
        between = mid;
        instance = i;
        at = next.at;
        before =
            of_some (λ files. AreSoFar files mid is plans) (λ files. AreFirstWritten files mid is (length plans)) old
            (λ files far. (some_of files mid mid is plans refl far, refl)) next.before;
        call = call_moved new fault call;
      }

-- all
pub all_written : (old new : Option Files) (is : List Instance) (plans : List SeenPlan) → length plans ≡ length is → IfSome old (λ files. AreSoFar files new is plans)
    → IfSome old (λ files. AllWritten files new is plans)
all_written old new is plans each before =
    of_some (λ files. AreSoFar files new is plans) (λ files. AllWritten files new is plans) old
    (λ files far. record { modules = far.modules; written = far.written; all = same_length far.modules plans far.written.plans ∙ each }) before
