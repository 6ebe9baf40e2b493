-- The pulse file is none of those that are written before it is read.
--
-- A file of a role is no object of a line before it, and an object is no file of a line before it (`is_new` of gos_link). So what stood
-- in the pulse file when the command began stands there when it is read.
use Rattle.std.proofs.Common.{◌≡◌, ◌≢◌, ◌∙◌, false, true≢false, ◌&&◌, not, inl, inr, ℕ, List, [], ◌∷◌, ◌++◌, None, Option, Some, IsTrue, refl, ap, sym, subst}
use Rattle.std.specs.FinMap.{insert}
use Rattle.std.specs.Str.{bytes_eq}
use Rattle.std.proofs.lemmas.List.{append-nil, append_assoc, map-append}
use Rattle.gos_outside.specs.Files.{Files, bytes_at, with_file}
use Rattle.gos_outside.specs.OtherFiles.{IsApart}
use Rattle.gos_lex.specs.Lines.{Word, Statement, statements_of}
use Rattle.gos_plan.specs.ObjectText.{text_of}
use Rattle.gos_plan.specs.Seen.{SeenPlan, plan_of}
use Rattle.gos_link.specs.BuildFile as said
use Rattle.gos_link.specs.BuildFile.{Sum, nothing, sum_of, with_said, has_instance, has_source, has_no_source, is_new, is_new_file, is_new_source, ReadsOn, IsBuildFile}
use Rattle.gos_link.specs.declared.build.Build.{Build}
use Rattle.gos_link.specs.declared.build.Instance.{Instance}
use Rattle.gos_link.specs.declared.said.Role.{Role}
use Rattle.gos_link.specs.declared.said.Role.TheVariants as roles
use Rattle.gos_link.specs.declared.said.Said.{Said}
use Rattle.gos_link.specs.declared.said.Said.TheVariants as says
use Rattle.gos_link.specs.declared.said.Item.{Item}
use Rattle.gos_tool.specs.build.Objects.{objects_of, with_objects}
use Rattle.gos_tool.proofs.lemmas.build.ApartLemmas.{instance_in, instances_in, instances-append, no_object, apart_more, sum_with, front_true}
use Rattle.gos_tool.proofs.lemmas.build.RoleLemmas.{file_of, AreNew, is_false, back_true, OfRole, of_role, one_name, untouched, one_more, nothing_new}
use Rattle.gos_tool.proofs.lemmas.build.HeadlineLemmas.{found_last, found_before}

-- what lines say together, where the file of a role is no object
record AreElse (before : List Item) (sum : Sum) : Type 0 where
  new : AreNew before sum
  held : sum.instances ≡ instances_in before
  else : (r : Role) (file : Word) → file_of r sum ≡ Some file → IsApart file (objects_of sum.instances)

same_instances : (role : Role) (name : Word) (sum : Sum) → (said.with_file role name sum).instances ≡ sum.instances
same_instances roles.Net name sum = refl
same_instances roles.Verilog name sum = refl
same_instances roles.Pulses name sum = refl
same_instances roles.Trace name sum = refl

-- a new file is named by no line before
unnamed : (own : Word) (before : List Item) (file : Word) → IsTrue (is_new_file own before file) → has_no_source before file ≡ false
unnamed own before file new =
    is_false (has_no_source before file)
    (back_true (not (has_source before file)) (not (has_no_source before file))
    (back_true (not (bytes_eq file own)) (not (has_source before file) && not (has_no_source before file)) new))

new_object : (own : Word) (before : List Item) (name source object : Word) → IsTrue (is_new own before (says.Inst name source object))
    → has_no_source before object ≡ false
new_object own before name source object new =
    unnamed own before object
    (front_true (is_new_file own before object) (not (bytes_eq object source))
    (back_true (is_new_source own before source) (is_new_file own before object && not (bytes_eq object source))
    (back_true (not (has_instance before name)) (is_new_source own before source && (is_new_file own before object && not (bytes_eq object source))) new)))

module _ (own : Word) (before : List Item) (sum : Sum) (so_far : AreElse before sum) where
  -- an object that a line names
  of_object : (line : ℕ) (name source object : Word) → IsTrue (is_new own before (says.Inst name source object)) → (r : Role) (file : Word)
      → file_of r sum ≡ Some file → IsApart file (objects_of (sum.instances ++ record { line = line; name = name; source = source; object = object } ∷ []))
  of_object line name source object new r file e =
      let none = new_object own before name source object new in
      subst (IsApart file) (sym (map-append (λ (i : Instance). i.object) sum.instances (record { line = line; name = name; source = source; object = object } ∷ [])))
      (apart_more file object (objects_of sum.instances) (so_far.else r file e)
      (λ same. true≢false (sym (so_far.new.named r file e) ∙ (ap (has_no_source before) same ∙ none))))

  -- a file of a role that a line names
  of_file : (role : Role) (name : Word) → IsTrue (is_new own before (says.File role name)) → (r : Role) (file : Word)
      → file_of r (said.with_file role name sum) ≡ Some file → IsApart file (objects_of (said.with_file role name sum).instances)
  of_file role name new r file e =
      subst (λ (is : List Instance). IsApart file (objects_of is)) (sym (same_instances role name sum)) (by (of_role r role name sum))
    where
      here : IsApart name (objects_of sum.instances)
      here = subst (λ (is : List Instance). IsApart name (objects_of is)) (sym so_far.held) (no_object name before (unnamed own before name new))

      by : OfRole r role name sum → IsApart file (objects_of sum.instances)
      by (inl (is, found)) =
          subst (λ (w : Word). IsApart w (objects_of sum.instances)) (one_name name file (file_of r (said.with_file role name sum)) found e) here
      by (inr (else, old)) = so_far.else r file (sym old ∙ e)

  still_else : (line : ℕ) (said : Said) → IsTrue (is_new own before said) → (r : Role) (file : Word)
      → file_of r (with_said line said sum) ≡ Some file → IsApart file (objects_of (with_said line said sum).instances)
  still_else line says.Version new r file e = so_far.else r file e
  still_else line (says.Inst name source object) new r file e =
      of_object line name source object new r file (sym (untouched sum line (says.Inst name source object) r tt) ∙ e)
  still_else line (says.Bind user import giver) new r file e = so_far.else r file (sym (untouched sum line (says.Bind user import giver) r tt) ∙ e)
  still_else line (says.Root name) new r file e = so_far.else r file (sym (untouched sum line (says.Root name) r tt) ∙ e)
  still_else line (says.File role name) new r file e = of_file role name new r file e

  one_line : (item : Item) → IsTrue (is_new own before item.said) → AreElse (before ++ item ∷ []) (with_said item.line item.said sum)
  one_line item new =
      record {
        new = one_more own before item sum so_far.new new;
        held =
            sum_with item.line item.said sum
            ∙ (ap (λ (is : List Instance). is ++ instance_in item.line item.said) so_far.held
            ∙ (ap (λ (is : List Instance). instances_in before ++ is) (sym (append-nil (instance_in item.line item.said)))
            ∙ sym (instances-append before (item ∷ []))));
        else = still_else item.line item.said new;
      }

-- with all lines
all_else : (own : Word) (before : List Item) (statements : List Statement) (items : List Item) (sum : Sum) → ReadsOn own before statements items None
    → AreElse before sum → AreElse (before ++ items) (sum_of sum items)
all_else own before [] [] sum reads so_far = subst (λ (all : List Item). AreElse all sum) (sym (append-nil before)) so_far
all_else own before [] (item ∷ items) sum reads so_far = absurd reads
all_else own before (s ∷ statements) [] sum reads so_far = absurd reads
all_else own before (s ∷ statements) (item ∷ items) sum reads so_far =
    subst (λ (all : List Item). AreElse all (sum_of sum (item ∷ items))) (append_assoc before (item ∷ []) items)
    (all_else own (before ++ item ∷ []) statements items (with_said item.line item.said sum) reads.2 (one_line own before sum so_far item reads.1.2))

nothing_else : AreElse [] nothing
nothing_else = record { new = nothing_new; held = refl; else = λ r file e. tt }

-- so it is with a build file's pulse file
pub record PulsesElse (b : Build) : Type 0 where
  pub net : b.pulses ≢ b.net
  pub verilog : b.pulses ≢ b.verilog
  pub objects : IsApart b.pulses (objects_of b.instances.items)

pub pulses_else : (text own : List ℕ) (b : Build) → IsBuildFile text own b → PulsesElse b
pulses_else text own b is =
    let all = all_else own [] (statements_of text) is.items nothing is.reads nothing_else in
    let named = ap (λ (sum : Sum). sum.pulses) is.says in
    record {
      net = all.new.differ roles.Pulses roles.Net b.pulses b.net (λ e. cc e) named (ap (λ (sum : Sum). sum.net) is.says);
      verilog = all.new.differ roles.Pulses roles.Verilog b.pulses b.verilog (λ e. cc e) named (ap (λ (sum : Sum). sum.verilog) is.says);
      objects = subst (λ (held : List Instance). IsApart b.pulses (objects_of held)) (ap (λ (sum : Sum). sum.instances) is.says) (all.else roles.Pulses b.pulses named);
    }

-- the store tells its files, and this one has this text
pub record Stands (told : Option Files) (name text : Word) : Type 0 where
  pub all : Files
  pub is : told ≡ Some all
  pub held : bytes_at all name ≡ text

over_file : (told : Option Files) (name text other bytes : Word) → name ≢ other → Stands told name text → Stands (with_file other bytes told) name text
over_file told name text other bytes apart s =
    record {
      all = insert s.all other bytes;
      is = ap (with_file other bytes) s.is;
      held = found_before s.all other bytes name apart ∙ s.held;
    }

over_objects : (told : Option Files) (name text : Word) (is : List Instance) (ps : List SeenPlan) → IsApart name (objects_of is) → Stands told name text
    → Stands (with_objects told is ps) name text
over_objects told name text is [] apart s = s
over_objects told name text [] (p ∷ ps) apart s = s
over_objects told name text (i ∷ is) (p ∷ ps) apart s =
    over_objects (with_file i.object (text_of (plan_of p)) told) name text is ps apart.1
    (over_file told name text i.object (text_of (plan_of p)) apart.0 s)

-- once objects, netlist and Verilog text are written, the pulse file stands as it was, and the netlist in its file
pub record StandBoth (files : Files) (b : Build) (new : Option Files) (net : Word) : Type 0 where
  pub pulses : Stands new b.pulses (bytes_at files b.pulses)
  pub netlist : Stands new b.net net

pub stand_both : (files : Files) (b : Build) (plans : List SeenPlan) (objects new : Option Files) (net verilog : Word) → PulsesElse b → b.net ≢ b.verilog
    → objects ≡ with_objects (Some files) b.instances.items plans → new ≡ with_file b.verilog verilog (with_file b.net net objects)
    → StandBoth files b new net
stand_both files b plans objects new net verilog apart differ made wrote =
    let text = bytes_at files b.pulses in
    let before = over_objects (Some files) b.pulses text b.instances.items plans apart.objects (record { all = files; is = refl; held = refl }) in
    let here : Stands objects b.pulses text = subst (λ (told : Option Files). Stands told b.pulses text) (sym made) before in
    let written : Stands (with_file b.net net objects) b.net net =
    record { all = insert here.all b.net net; is = ap (with_file b.net net) here.is; held = found_last here.all b.net net } in
    record {
      pulses = subst (λ (told : Option Files). Stands told b.pulses text) (sym wrote)
          (over_file (with_file b.net net objects) b.pulses text b.verilog verilog apart.verilog (over_file objects b.pulses text b.net net apart.net here));
      netlist = subst (λ (told : Option Files). Stands told b.net net) (sym wrote)
          (over_file (with_file b.net net objects) b.net net b.verilog verilog differ written);
    }
