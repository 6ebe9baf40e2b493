-- The files for the netlist, for the Verilog text and for the trace have different names.
--
-- Each file that a line names is none of a line before it. So the files of two roles differ, line by line.
use Rattle.std.proofs.Common.{◌≡◌, ◌≢◌, ◌∙◌, ℕ, Bool, true, false, true≢false, List, [], ◌∷◌, ◌++◌, ◌&&◌, ◌||◌, ◌⊎◌, inl, inr, Option, None, Some, not, IsTrue, refl, ap, sym, subst}
use Rattle.std.specs.Str.{bytes_eq}
use Rattle.std.proofs.lemmas.Slice.Eq.{bytes_eq-Decides}
use Rattle.std.proofs.lemmas.List.{append-nil, append_assoc}
use Rattle.gos_lex.specs.Lines.{Word, Statement, statements_of}
use Rattle.gos_link.specs.BuildFile.{Sum, nothing, sum_of, with_said, with_file, has_no_source, is_no_source, is_new, ReadsOn, IsBuildFile}
use Rattle.gos_link.specs.declared.build.Build.{Build}
use Rattle.gos_link.specs.declared.said.Role.{Role}
use Rattle.gos_link.specs.declared.said.Role.TheVariants as roles
use Rattle.gos_link.specs.declared.said.Said.{Said}
use Rattle.gos_link.specs.declared.said.Said.TheVariants as says
use Rattle.gos_link.specs.declared.said.Item.{Item}

-- the file of a role, of what lines say together
abbrev pub file_of : Role → Sum → Option Word
file_of roles.Net sum = sum.net
file_of roles.Verilog sum = sum.verilog
file_of roles.Pulses sum = sum.pulses
file_of roles.Trace sum = sum.trace

-- each file is that of a line, and files of two roles differ
pub record AreNew (before : List Item) (sum : Sum) : Type 0 where
  pub named : (r : Role) (file : Word) → file_of r sum ≡ Some file → has_no_source before file ≡ true
  pub differ : (r q : Role) (file other : Word) → (r ≡ q → ⊥) → file_of r sum ≡ Some file → file_of q sum ≡ Some other → file ≢ other

pub is_false : (a : Bool) → not a ≡ true → a ≡ false
is_false false e = refl
is_false true e = sym e

pub back_true : (a b : Bool) → (a && b) ≡ true → b ≡ true
back_true true b e = e
back_true false b e = absurd (true≢false (sym e))

or_right : (a b : Bool) → b ≡ true → (a || b) ≡ true
or_right false b e = e
or_right true b e = refl

same_bytes : (a : Word) → bytes_eq a a ≡ true
same_bytes a = (bytes_eq-Decides a a).1 refl

more : (a b c : Bool) → (b ≡ true → c ≡ true) → (a || b) ≡ true → (a || c) ≡ true
more true b c on e = refl
more false b c on e = on e

-- what names no file of a role
abbrev pub IsNoFile : Said → Type 0
IsNoFile (says.File role name) = ⊥
IsNoFile said = Unit {0}

-- what a line before names, one of the lines names where there is one more
kept : (before : List Item) (item : Item) (file : Word) → has_no_source before file ≡ true → has_no_source (before ++ item ∷ []) file ≡ true
kept [] item file e = absurd (true≢false (sym e))
kept (x ∷ before) item file e =
    more (is_no_source file x.said) (has_no_source before file) (has_no_source (before ++ item ∷ []) file) (kept before item file) e

last : (before : List Item) (item : Item) (file : Word) → is_no_source file item.said ≡ true → has_no_source (before ++ item ∷ []) file ≡ true
last [] item file e = ap (λ (b : Bool). b || false) e
last (x ∷ before) item file e = or_right (is_no_source file x.said) (has_no_source (before ++ item ∷ []) file) (last before item file e)

-- the file of a role, where a line names one
abbrev pub OfRole : Role → Role → Word → Sum → Type 0
OfRole r role name sum =
    ((r ≡ role) × (file_of r (with_file role name sum) ≡ Some name))
    ⊎ ((r ≡ role → ⊥) × (file_of r (with_file role name sum) ≡ file_of r sum))

pub of_role : (r role : Role) (name : Word) (sum : Sum) → OfRole r role name sum
of_role roles.Net roles.Net name sum = inl (refl, refl)
of_role roles.Net roles.Verilog name sum = inr (λ e. cc e, refl)
of_role roles.Net roles.Pulses name sum = inr (λ e. cc e, refl)
of_role roles.Net roles.Trace name sum = inr (λ e. cc e, refl)
of_role roles.Verilog roles.Net name sum = inr (λ e. cc e, refl)
of_role roles.Verilog roles.Verilog name sum = inl (refl, refl)
of_role roles.Verilog roles.Pulses name sum = inr (λ e. cc e, refl)
of_role roles.Verilog roles.Trace name sum = inr (λ e. cc e, refl)
of_role roles.Pulses roles.Net name sum = inr (λ e. cc e, refl)
of_role roles.Pulses roles.Verilog name sum = inr (λ e. cc e, refl)
of_role roles.Pulses roles.Pulses name sum = inl (refl, refl)
of_role roles.Pulses roles.Trace name sum = inr (λ e. cc e, refl)
of_role roles.Trace roles.Net name sum = inr (λ e. cc e, refl)
of_role roles.Trace roles.Verilog name sum = inr (λ e. cc e, refl)
of_role roles.Trace roles.Pulses name sum = inr (λ e. cc e, refl)
of_role roles.Trace roles.Trace name sum = inl (refl, refl)

pub one_name : (a b : Word) (o : Option Word) → o ≡ Some a → o ≡ Some b → a ≡ b
one_name a b o e d = let same : Some a ≡ Some b = sym e ∙ d in cc same

module _ (before : List Item) (item : Item) (sum : Sum) (new : AreNew before sum) where
  -- a line that names no file of a role
  same : ((r : Role) → file_of r (with_said item.line item.said sum) ≡ file_of r sum) → AreNew (before ++ item ∷ []) (with_said item.line item.said sum)
  same keeps =
      record {
        named = λ r file e. kept before item file (new.named r file (sym (keeps r) ∙ e));
        differ = λ r q file other apart e d. new.differ r q file other apart (sym (keeps r) ∙ e) (sym (keeps q) ∙ d);
      }

  module _ (role : Role) (name : Word) (is : item.said ≡ says.File role name) (none : has_no_source before name ≡ false) where
    abbrev then : Sum
    then = with_file role name sum

    -- what was named before is another file
    another : (r : Role) (file : Word) → file_of r sum ≡ Some file → file ≢ name
    another r file e same = true≢false (sym (new.named r file e) ∙ (ap (has_no_source before) same ∙ none))

    names : (r : Role) (file : Word) → file_of r then ≡ Some file → has_no_source (before ++ item ∷ []) file ≡ true
    names r file e = by (of_role r role name sum)
      where
        by : OfRole r role name sum → has_no_source (before ++ item ∷ []) file ≡ true
        by (inl (here, found)) =
            subst (λ (w : Word). has_no_source (before ++ item ∷ []) w ≡ true) (one_name name file (file_of r then) found e)
            (last before item name (ap (is_no_source name) is ∙ same_bytes name))
        by (inr (else, old)) = kept before item file (new.named r file (sym old ∙ e))

    differs : (r q : Role) (file other : Word) → (r ≡ q → ⊥) → file_of r then ≡ Some file → file_of q then ≡ Some other → file ≢ other
    differs r q file other apart e d = by (of_role r role name sum) (of_role q role name sum)
      where
        by : OfRole r role name sum → OfRole q role name sum → file ≢ other
        by (inl (here, found)) (inl (there, also)) = absurd (apart (here ∙ sym there))
        by (inl (here, found)) (inr (else, old)) =
            λ same. another q other (sym old ∙ d) (sym same ∙ sym (one_name name file (file_of r then) found e))
        by (inr (else, old)) (inl (there, also)) =
            λ same. another r file (sym old ∙ e) (same ∙ sym (one_name name other (file_of q then) also d))
        by (inr (else, old)) (inr (other_else, also)) = new.differ r q file other apart (sym old ∙ e) (sym also ∙ d)

    names_more : AreNew (before ++ item ∷ []) then
    names_more = record { named = names; differ = differs }

-- what names no file of a role leaves these as they were
pub untouched : (sum : Sum) (line : ℕ) (said : Said) (r : Role) → IsNoFile said → file_of r (with_said line said sum) ≡ file_of r sum
untouched sum line says.Version r none = refl
untouched sum line (says.Inst name source object) roles.Net none = refl
untouched sum line (says.Inst name source object) roles.Verilog none = refl
untouched sum line (says.Inst name source object) roles.Pulses none = refl
untouched sum line (says.Inst name source object) roles.Trace none = refl
untouched sum line (says.Bind user import giver) roles.Net none = refl
untouched sum line (says.Bind user import giver) roles.Verilog none = refl
untouched sum line (says.Bind user import giver) roles.Pulses none = refl
untouched sum line (says.Bind user import giver) roles.Trace none = refl
untouched sum line (says.Root name) roles.Net none = refl
untouched sum line (says.Root name) roles.Verilog none = refl
untouched sum line (says.Root name) roles.Pulses none = refl
untouched sum line (says.Root name) roles.Trace none = refl
untouched sum line (says.File role name) r none = absurd none

pub one_more : (own : Word) (before : List Item) (item : Item) (sum : Sum) → AreNew before sum → IsTrue (is_new own before item.said)
    → AreNew (before ++ item ∷ []) (with_said item.line item.said sum)
one_more own before item sum new is = by item.said refl is
  where
    keep : (said : Said) → item.said ≡ said → ((r : Role) → file_of r (with_said item.line said sum) ≡ file_of r sum)
        → AreNew (before ++ item ∷ []) (with_said item.line item.said sum)
    keep said e keeps = same before item sum new (λ r. ap (λ (x : Said). file_of r (with_said item.line x sum)) e ∙ keeps r)

    by : (said : Said) → item.said ≡ said → IsTrue (is_new own before said) → AreNew (before ++ item ∷ []) (with_said item.line item.said sum)
    by says.Version e new_line = keep says.Version e (λ r. untouched sum item.line says.Version r tt)
    by (says.Inst name source object) e new_line = keep (says.Inst name source object) e (λ r. untouched sum item.line (says.Inst name source object) r tt)
    by (says.Bind user import giver) e new_line = keep (says.Bind user import giver) e (λ r. untouched sum item.line (says.Bind user import giver) r tt)
    by (says.Root name) e new_line = keep (says.Root name) e (λ r. untouched sum item.line (says.Root name) r tt)
    by (says.File role name) e new_line =
        subst (λ (said : Said). AreNew (before ++ item ∷ []) (with_said item.line said sum)) (sym e)
        (names_more before item sum new role name e (is_false _ (back_true _ _ (back_true _ _ new_line))))

-- with all lines
all_new : (own : Word) (before : List Item) (statements : List Statement) (items : List Item) (sum : Sum) → ReadsOn own before statements items None
    → AreNew before sum → AreNew (before ++ items) (sum_of sum items)
all_new own before [] [] sum reads new = subst (λ (all : List Item). AreNew all sum) (sym (append-nil before)) new
all_new own before [] (item ∷ items) sum reads new = absurd reads
all_new own before (s ∷ statements) [] sum reads new = absurd reads
all_new own before (s ∷ statements) (item ∷ items) sum reads new =
    subst (λ (all : List Item). AreNew all (sum_of sum (item ∷ items))) (append_assoc before (item ∷ []) items)
    (all_new own (before ++ item ∷ []) statements items (with_said item.line item.said sum) reads.2 (one_more own before item sum new reads.1.2))

pub nothing_new : AreNew [] nothing
nothing_new = record { named = λ r file e. none_yet r file e; differ = λ r q file other apart e d. absurd (no_file r file e) }
  where
    no_file : (r : Role) (file : Word) → file_of r nothing ≡ Some file → ⊥
    no_file roles.Net file e = cc e
    no_file roles.Verilog file e = cc e
    no_file roles.Pulses file e = cc e
    no_file roles.Trace file e = cc e

    none_yet : (r : Role) (file : Word) → file_of r nothing ≡ Some file → has_no_source [] file ≡ true
    none_yet r file e = absurd (no_file r file e)

-- so it is with a build file's
pub record RolesDiffer (b : Build) : Type 0 where
  pub net_verilog : b.net ≢ b.verilog
  pub net_trace : b.net ≢ b.trace
  pub verilog_trace : b.verilog ≢ b.trace

pub roles_differ : (text own : List ℕ) (b : Build) → IsBuildFile text own b → RolesDiffer b
roles_differ text own b is =
    let all = all_new own [] (statements_of text) is.items nothing is.reads nothing_new in
    record {
      net_verilog = all.differ roles.Net roles.Verilog b.net b.verilog (λ e. cc e) (ap (λ (sum : Sum). sum.net) is.says) (ap (λ (sum : Sum). sum.verilog) is.says);
      net_trace = all.differ roles.Net roles.Trace b.net b.trace (λ e. cc e) (ap (λ (sum : Sum). sum.net) is.says) (ap (λ (sum : Sum). sum.trace) is.says);
      verilog_trace = all.differ roles.Verilog roles.Trace b.verilog b.trace (λ e. cc e) (ap (λ (sum : Sum). sum.verilog) is.says) (ap (λ (sum : Sum). sum.trace) is.says);
    }
