-- A source is read and checked, and the plan that stands for its module is made; and so one after another.
use Rattle.std.proofs.Common.{◌≡◌, ◌≤◌, ◌∙◌, inl, inr, ℕ, List, [], ◌∷◌, ◌++◌, Option, Some, None, ap, arith, length, map, subst, sym, take}
use Rattle.std.specs.Prelude.{IfSome}
use Rattle.std.specs.List.{AllByRecursion}
use Rattle.std.proofs.lemmas.List.{append-nil, append_assoc, map-append}
use Rattle.gos_outside.specs.Files.{Files, bytes_at}
use Rattle.gos_lex.specs.Lines.{Word}
use Rattle.gos_types.specs.Types.{type_of}
use Rattle.gos_syntax.specs.Modules.{SeenModule}
use Rattle.gos_model.specs.Sources.{program_of}
use Rattle.gos_check.specs.Accepted.{IsAccepted}
use Rattle.gos_check.specs.Checked.{SeenLinear, program_in}
use Rattle.gos_plan.specs.Plans.{Plan}
use Rattle.gos_plan.specs.Seen.{SeenPlan, plan_of}
use Rattle.gos_plan.specs.ObjectText.{IsSmallPlan}
use Rattle.gos_compile.specs.Shells.{shell_of}
use Rattle.gos_link.specs.Faces.{Face, face_of, faces_of}
use Rattle.gos_link.specs.Linked.{KeepsLimits}
use Rattle.gos_link.specs.declared.build.Instance.{Instance}
use Rattle.gos_command.specs.declared.status.Fault.{Fault}
use Rattle.gos_command.proofs.EndLemmas.{of_some, of_some_both}
use Rattle.gos_command.proofs.FilesLemmas.{is_read_whole}
use Rattle.gos_tool.specs.objects.Checked.{IsSource, SaysModule, IsSourceFault}
use Rattle.gos_tool.specs.build.Headline.{SayModules}
use Rattle.gos_tool.specs.explained.Sources.{RejectsSource}
use Rattle.gos_tool.specs.explained.LinkedModules.{StandFor, module_face}
use Rattle.gos_tool.specs.explained.inner.Reading.{AreSaidBefore}
use Rattle.gos_tool.proofs.lemmas.objects.CompiledLemmas.{few_of}

-- a source that says a module is no longer than what was read
pub said_file : (told : Option Files) (source : Word) (text : List ℕ) (m : SeenModule) → IfSome told (λ files. text ≡ take 65537 (bytes_at files source))
    → SaysModule text m → IfSome told (λ files. SaysModule (bytes_at files source) m)
said_file told source text m read says =
    of_some (λ files. text ≡ take 65537 (bytes_at files source)) (λ files. SaysModule (bytes_at files source) m) told
    (λ files e. subst (λ (t : List ℕ). SaysModule t m) ((is_read_whole 65536 (bytes_at files source) text e).whole says.source.scanned.short) says) read

-- the shell of a checked module has the imports and the result of the module, and is within the limits of object files
abbrev face_in : Plan → Face
face_in p = record { imports = p.imports; outcome = p.outcome }

module _ (text : List ℕ) (m : SeenModule) (linear : SeenLinear) (shell : SeenPlan) (program : program_in linear ≡ program_of m)
    (is : plan_of shell ≡ shell_of (program_in linear).imports (type_of linear.result)) where
  pub shell_face : type_of linear.result ≡ type_of m.result → face_of shell ≡ module_face m
  shell_face outcome = ap face_in is ∙ (λ i. record { imports = (program i).imports; outcome = outcome i })

  pub shell_limits : IsSource text m → (length linear.imports ≤ 64 → IsSmallPlan (plan_of shell)) → KeepsLimits (plan_of shell)
  shell_limits source small =
      let weight = ap (λ (p : Plan). p.weight) is in record { light = omega (arith, weight); small = small (few_of text m linear source program) }

-- one module and its plan more
pub stand_more : (ms ns : List SeenModule) (ps qs : List SeenPlan) (m : SeenModule) (p : SeenPlan) → ns ≡ ms ++ m ∷ [] → qs ≡ ps ++ p ∷ [] → StandFor ms ps
    → face_of p ≡ module_face m → StandFor ns qs
stand_more ms ns ps qs m p modules shells stand one =
    ap faces_of shells
    ∙ (map-append face_of ps (p ∷ [])
    ∙ ((λ i. stand i ++ one i ∷ []) ∙ (sym (map-append module_face ms (m ∷ [])) ∙ ap (map module_face) (sym modules))))

and_one : (ms : List SeenModule) (m : SeenModule) → AllByRecursion IsAccepted ms → IsAccepted m → AllByRecursion IsAccepted (ms ++ m ∷ [])
and_one [] m all one = (one, tt)
and_one (n ∷ ms) m all one = (all.0, and_one ms m all.1 one)

pub accepted_more : (ms ns : List SeenModule) (m : SeenModule) → ns ≡ ms ++ m ∷ [] → AllByRecursion IsAccepted ms → IsAccepted m
    → AllByRecursion IsAccepted ns
accepted_more ms ns m modules all one = subst (AllByRecursion IsAccepted) (sym modules) (and_one ms m all one)

-- what was read of its source, from the files as they were
pub same_said : (old mid : Option Files) (i : Instance) (name : Word) (m : SeenModule) → mid ≡ old → name ≡ i.source
    → IfSome mid (λ files. SaysModule (bytes_at files name) m) → IfSome old (λ files. SaysModule (bytes_at files i.source) m)
same_said old mid i name m same is read =
    subst (λ (n : Word). IfSome old (λ files. SaysModule (bytes_at files n) m)) is
    (subst (λ (told : Option Files). IfSome told (λ files. SaysModule (bytes_at files name) m)) same read)

pub same_rejected : (old mid : Option Files) (i : Instance) (name : Word) (fault : Fault) (line : List ℕ) → mid ≡ old → name ≡ i.source
    → IfSome mid (λ files. IsSourceFault files name fault line) → IfSome old (λ files. IsSourceFault files i.source fault line)
same_rejected old mid i name fault line same is wrong =
    subst (λ (n : Word). IfSome old (λ files. IsSourceFault files n fault line)) is
    (subst (λ (told : Option Files). IfSome told (λ files. IsSourceFault files name fault line)) same wrong)

-- one more
pub one_said : (old : Option Files) (all rest : List Instance) (i : Instance) (modules : List SeenModule) (m : SeenModule)
    → AreSaidBefore old all (i ∷ rest) modules → IfSome old (λ files. SaysModule (bytes_at files i.source) m) → AreSaidBefore old all rest (modules ++ m ∷ [])
one_said old all rest i modules m before holds =
    record {
      say = λ more h. subst (λ (ms : List SeenModule). IfSome old (λ files. SayModules files all ms)) (sym (append_assoc modules (m ∷ []) more))
          (before.say (m ∷ more)
          (of_some_both (λ files. SaysModule (bytes_at files i.source) m) (λ files. SayModules files rest more) (λ files. SayModules files (i ∷ rest) (m ∷ more)) old
          (λ files one others. (one, others)) holds h));
      rejected = λ fault line h. before.rejected fault line
          (of_some_both (λ files. SaysModule (bytes_at files i.source) m) (λ files. RejectsSource files rest fault line) (λ files. RejectsSource files (i ∷ rest) fault line) old
          (λ files one wrong. inr (m, one, wrong)) holds h);
      call = λ fault h. before.call fault (inr (m, holds, h));
    }

-- the next is rejected
pub next_rejected : (old : Option Files) (all rest : List Instance) (i : Instance) (modules : List SeenModule) (fault : Fault) (line : List ℕ)
    → AreSaidBefore old all (i ∷ rest) modules → IfSome old (λ files. IsSourceFault files i.source fault line) → IfSome old (λ files. RejectsSource files all fault line)
next_rejected old all rest i modules fault line before wrong =
    before.rejected fault line
    (of_some (λ files. IsSourceFault files i.source fault line) (λ files. RejectsSource files (i ∷ rest) fault line) old (λ files h. inl h) wrong)

-- all
pub all_said : (old : Option Files) (all : List Instance) (modules : List SeenModule) → AreSaidBefore old all [] modules → IfSome old (λ files. SayModules files all modules)
all_said old all modules before =
    subst (λ (ms : List SeenModule). IfSome old (λ files. SayModules files all ms)) (append-nil modules) (before.say [] (nothing old))
  where
    nothing : (old : Option Files) → IfSome old (λ files. SayModules files [] [])
    nothing None = tt
    nothing (Some files) = tt
