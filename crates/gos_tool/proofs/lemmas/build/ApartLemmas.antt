-- No source of a build file is one of its objects.
--
-- A line's source is no object before it, its object is no source before it, and they differ (`is_new` of gos_link). So the
-- instances of the lines so far stay apart, line by line.
use Rattle.std.proofs.Common.{◌≡◌, ◌≢◌, ◌∙◌, ℕ, Bool, true, false, true≢false, List, [], ◌∷◌, ◌++◌, ◌&&◌, ◌||◌, None, not, IsTrue, refl, ap, sym, subst}
use Rattle.std.specs.Str.{bytes_eq}
use Rattle.std.proofs.lemmas.Slice.Eq.{bytes_eq-Decides}
use Rattle.std.proofs.lemmas.List.{append-nil, append_assoc, map-append}
use Rattle.gos_outside.specs.OtherFiles.{IsApart}
use Rattle.gos_lex.specs.Lines.{Word, Statement, statements_of}
use Rattle.gos_link.specs.BuildFile.{Sum, nothing, sum_of, with_said, has_source, has_no_source, is_source, is_no_source, is_new, ReadsOn, IsBuildFile}
use Rattle.gos_link.specs.declared.build.Build.{Build}
use Rattle.gos_link.specs.declared.build.Instance.{Instance}
use Rattle.gos_link.specs.declared.said.Role.TheVariants as roles
use Rattle.gos_link.specs.declared.said.Said.{Said}
use Rattle.gos_link.specs.declared.said.Said.TheVariants as says
use Rattle.gos_link.specs.declared.said.Item.{Item}
use Rattle.gos_tool.specs.build.Objects.{objects_of}
use Rattle.gos_tool.specs.build.inner.Compiling.{EachApart, AreApart}

-- the instances of lines
abbrev pub instance_in : ℕ → Said → List Instance
instance_in line says.Version = []
instance_in line (says.Inst name source object) = record { line = line; name = name; source = source; object = object } ∷ []
instance_in line (says.Bind user import giver) = []
instance_in line (says.Root name) = []
instance_in line (says.File role name) = []

abbrev pub instances_in : List Item → List Instance
instances_in [] = []
instances_in (item ∷ items) = instance_in item.line item.said ++ instances_in items

pub instances-append : (items more : List Item) → instances_in (items ++ more) ≡ instances_in items ++ instances_in more
instances-append [] more = refl
instances-append (item ∷ items) more =
    ap (λ (is : List Instance). instance_in item.line item.said ++ is) (instances-append items more)
    ∙ sym (append_assoc (instance_in item.line item.said) (instances_in items) (instances_in more))

-- the file is the source of none of these instances
abbrev IsNoSource : Word → List Instance → Type 0
IsNoSource file [] = Unit {0}
IsNoSource file (i ∷ is) = (i.source ≢ file) × IsNoSource file is

-- tests that are false
pub differ : (a b : Word) → bytes_eq a b ≡ false → a ≢ b
differ a b e same = true≢false (sym ((bytes_eq-Decides a b).1 same) ∙ e)

pub left_false : (a b : Bool) → (a || b) ≡ false → a ≡ false
left_false false b e = refl
left_false true b e = e

pub right_false : (a b : Bool) → (a || b) ≡ false → b ≡ false
right_false false b e = e
right_false true b e = absurd (true≢false e)

is_false : (a : Bool) → not a ≡ true → a ≡ false
is_false false e = refl
is_false true e = sym e

pub front_true : (a b : Bool) → (a && b) ≡ true → a ≡ true
front_true true b e = refl
front_true false b e = e

back_true : (a b : Bool) → (a && b) ≡ true → b ≡ true
back_true true b e = e
back_true false b e = absurd (true≢false (sym e))

-- a file that no line before has as its source, or as its object
no_source : (file : Word) (before : List Item) → has_source before file ≡ false → IsNoSource file (instances_in before)
no_source file [] e = tt
no_source file (item ∷ before) e =
    by item.line item.said (left_false (is_source file item.said) (has_source before file) e) (no_source file before (right_false (is_source file item.said) (has_source before file) e))
  where
    by : (line : ℕ) (said : Said) → is_source file said ≡ false → IsNoSource file (instances_in before) → IsNoSource file (instance_in line said ++ instances_in before)
    by line says.Version one rest = rest
    by line (says.Inst name source object) one rest = (differ source file one, rest)
    by line (says.Bind user import giver) one rest = rest
    by line (says.Root name) one rest = rest
    by line (says.File role name) one rest = rest

pub no_object : (file : Word) (before : List Item) → has_no_source before file ≡ false → IsApart file (objects_of (instances_in before))
no_object file [] e = tt
no_object file (item ∷ before) e =
    by item.line item.said (left_false (is_no_source file item.said) (has_no_source before file) e)
    (no_object file before (right_false (is_no_source file item.said) (has_no_source before file) e))
  where
    by : (line : ℕ) (said : Said) → is_no_source file said ≡ false → IsApart file (objects_of (instances_in before))
        → IsApart file (objects_of (instance_in line said ++ instances_in before))
    by line says.Version one rest = rest
    by line (says.Inst name source object) one rest = (λ same. differ object file one (sym same), rest)
    by line (says.Bind user import giver) one rest = rest
    by line (says.Root name) one rest = rest
    by line (says.File role name) one rest = rest

-- one file more, and one instance more
pub apart_more : (file object : Word) (names : List Word) → IsApart file names → file ≢ object → IsApart file (names ++ object ∷ [])
apart_more file object [] apart other = (other, tt)
apart_more file object (name ∷ names) apart other = (apart.0, apart_more file object names apart.1 other)

each_more : (is : List Instance) (names : List Word) (object : Word) → EachApart is names → IsNoSource object is → EachApart is (names ++ object ∷ [])
each_more [] names object apart none = tt
each_more (i ∷ is) names object apart none = (apart_more i.source object names apart.0 none.0, each_more is names object apart.1 none.1)

each_last : (is : List Instance) (i : Instance) (names : List Word) → EachApart is names → IsApart i.source names → EachApart (is ++ i ∷ []) names
each_last [] i names apart one = (one, tt)
each_last (j ∷ is) i names apart one = (apart.0, each_last is i names apart.1 one)

apart_last : (is : List Instance) (i : Instance) → AreApart is → IsNoSource i.object is → IsApart i.source (objects_of is) → i.source ≢ i.object → AreApart (is ++ i ∷ [])
apart_last is i apart none old own =
    subst (EachApart (is ++ i ∷ [])) (sym (map-append (λ (j : Instance). j.object) is (i ∷ [])))
    (each_last is i (objects_of is ++ i.object ∷ []) (each_more is (objects_of is) i.object apart none) (apart_more i.source i.object (objects_of is) old own))

-- the instances of lines, with one line more
apart_item : (own : Word) (before : List Item) (item : Item) → AreApart (instances_in before) → IsTrue (is_new own before item.said) → AreApart (instances_in (before ++ item ∷ []))
apart_item own before item apart new =
    subst AreApart (sym (instances-append before (item ∷ []) ∙ ap (λ (is : List Instance). instances_in before ++ is) (append-nil (instance_in item.line item.said))))
    (by item.line item.said new)
  where
    same : AreApart (instances_in before ++ [])
    same = subst AreApart (sym (append-nil (instances_in before))) apart

    by : (line : ℕ) (said : Said) → IsTrue (is_new own before said) → AreApart (instances_in before ++ instance_in line said)
    by line says.Version new = same
    by line (says.Inst name source object) new =
        let files = back_true _ _ new in
        let source_new = front_true _ _ files in
        let object_new = front_true _ _ (back_true _ _ files) in
        let own_new = is_false _ (back_true _ _ (back_true _ _ files)) in
        apart_last (instances_in before) (record { line = line; name = name; source = source; object = object }) apart
        (no_source object before (is_false _ (front_true _ _ (back_true _ _ object_new))))
        (no_object source before (is_false _ (back_true _ _ source_new)))
        (λ e. differ object source own_new (sym e))
    by line (says.Bind user import giver) new = same
    by line (says.Root name) new = same
    by line (says.File role name) new = same

-- with all lines
apart_on : (own : Word) (before : List Item) (statements : List Statement) (items : List Item) → ReadsOn own before statements items None
    → AreApart (instances_in before) → AreApart (instances_in (before ++ items))
apart_on own before [] [] reads apart = subst (λ (all : List Item). AreApart (instances_in all)) (sym (append-nil before)) apart
apart_on own before [] (item ∷ items) reads apart = absurd reads
apart_on own before (s ∷ statements) [] reads apart = absurd reads
apart_on own before (s ∷ statements) (item ∷ items) reads apart =
    subst (λ (all : List Item). AreApart (instances_in all)) (append_assoc before (item ∷ []) items)
    (apart_on own (before ++ item ∷ []) statements items reads.2 (apart_item own before item apart reads.1.2))

-- the instances of a sum are those of its lines
pub sum_with : (line : ℕ) (said : Said) (sum : Sum) → (with_said line said sum).instances ≡ sum.instances ++ instance_in line said
sum_with line says.Version sum = sym (append-nil sum.instances)
sum_with line (says.Inst name source object) sum = refl
sum_with line (says.Bind user import giver) sum = sym (append-nil sum.instances)
sum_with line (says.Root name) sum = sym (append-nil sum.instances)
sum_with line (says.File roles.Net name) sum = sym (append-nil sum.instances)
sum_with line (says.File roles.Verilog name) sum = sym (append-nil sum.instances)
sum_with line (says.File roles.Pulses name) sum = sym (append-nil sum.instances)
sum_with line (says.File roles.Trace name) sum = sym (append-nil sum.instances)

sum_instances : (sum : Sum) (items : List Item) → (sum_of sum items).instances ≡ sum.instances ++ instances_in items
sum_instances sum [] = sym (append-nil sum.instances)
sum_instances sum (item ∷ items) =
    sum_instances (with_said item.line item.said sum) items
    ∙ (ap (λ (is : List Instance). is ++ instances_in items) (sum_with item.line item.said sum)
    ∙ append_assoc sum.instances (instance_in item.line item.said) (instances_in items))

pub sources_apart : (text own : List ℕ) (b : Build) → IsBuildFile text own b → AreApart b.instances.items
sources_apart text own b is =
    subst AreApart (sym (sum_instances nothing is.items) ∙ ap (λ (sum : Sum). sum.instances) is.says)
    (apart_on own [] (statements_of text) is.items is.reads tt)
