-- A text reads in one way: what a line says is one thing, and so is what lines say together, or the first wrong line.
use Rattle.std.specs.Prelude.{◌≡◌, ◌≢◌, ◌≤◌, ◌+◌, ℕ, List, [], ◌∷◌, ◌++◌, Option, Some, None, length}
use Rattle.std.proofs.Common.{refl, sym, ◌∙◌, ap, subst, arith, inl, inr, length-append}
use Rattle.gos_lex.specs.Lines.{Word, Words, Statement, statements_of}
use Rattle.gos_link.specs.declared.said.Role.{Role}
use Rattle.gos_link.specs.declared.said.Role.TheVariants as roles
use Rattle.gos_link.specs.declared.said.Said.{Said}
use Rattle.gos_link.specs.declared.said.Said.TheVariants as says
use Rattle.gos_link.specs.declared.said.Item.{Item}
use Rattle.gos_link.specs.declared.build.Build.{Build}
use Rattle.gos_link.specs.BuildFile.{keyword, words_said, ReadsOn, Sum, nothing, sum_of, whole, with_said}
use Rattle.gos_link.specs.Answers.{IsOneBuild, HasOneWrongLine, BuildHasNoWrongLine}

-- the first byte of the first word tells the sort of a line
abbrev first_byte : Word → ℕ
first_byte [] = 0
first_byte (b ∷ bytes) = b

abbrev first_of : Words → ℕ
first_of [] = 0
first_of (word ∷ words) = first_byte word

abbrev role_byte : Role → ℕ
role_byte roles.Net = 110
role_byte roles.Verilog = 118
role_byte roles.Pulses = 112
role_byte roles.Trace = 116

role_first : (r : Role) → first_byte (keyword r) ≡ role_byte r
role_first roles.Net = refl
role_first roles.Verilog = refl
role_first roles.Pulses = refl
role_first roles.Trace = refl

one_role : (r q : Role) → role_byte r ≡ role_byte q → r ≡ q
one_role roles.Net roles.Net e = refl
one_role roles.Verilog roles.Verilog e = refl
one_role roles.Pulses roles.Pulses e = refl
one_role roles.Trace roles.Trace e = refl
one_role roles.Net roles.Verilog e = absurd (omega (arith, e))
one_role roles.Net roles.Pulses e = absurd (omega (arith, e))
one_role roles.Net roles.Trace e = absurd (omega (arith, e))
one_role roles.Verilog roles.Net e = absurd (omega (arith, e))
one_role roles.Verilog roles.Pulses e = absurd (omega (arith, e))
one_role roles.Verilog roles.Trace e = absurd (omega (arith, e))
one_role roles.Pulses roles.Net e = absurd (omega (arith, e))
one_role roles.Pulses roles.Verilog e = absurd (omega (arith, e))
one_role roles.Pulses roles.Trace e = absurd (omega (arith, e))
one_role roles.Trace roles.Net e = absurd (omega (arith, e))
one_role roles.Trace roles.Verilog e = absurd (omega (arith, e))
one_role roles.Trace roles.Pulses e = absurd (omega (arith, e))

-- no other sort begins as a file of the build does
record IsOther (r : Role) : Type 0 where
  version : role_byte r ≢ 103
  instance : role_byte r ≢ 105
  bind : role_byte r ≢ 98
  root : role_byte r ≢ 114

other_sort : (r : Role) → IsOther r
other_sort roles.Net = record { version = λ e. omega (arith, e); instance = λ e. omega (arith, e); bind = λ e. omega (arith, e); root = λ e. omega (arith, e) }
other_sort roles.Verilog = record { version = λ e. omega (arith, e); instance = λ e. omega (arith, e); bind = λ e. omega (arith, e); root = λ e. omega (arith, e) }
other_sort roles.Pulses = record { version = λ e. omega (arith, e); instance = λ e. omega (arith, e); bind = λ e. omega (arith, e); root = λ e. omega (arith, e) }
other_sort roles.Trace = record { version = λ e. omega (arith, e); instance = λ e. omega (arith, e); bind = λ e. omega (arith, e); root = λ e. omega (arith, e) }

-- what a line says
abbrev said_byte : Said → ℕ
said_byte says.Version = 103
said_byte (says.Inst name source object) = 105
said_byte (says.Bind user import giver) = 98
said_byte (says.Root name) = 114
said_byte (says.File role name) = role_byte role

said_first : (s : Said) → first_of (words_said s) ≡ said_byte s
said_first says.Version = refl
said_first (says.Inst name source object) = refl
said_first (says.Bind user import giver) = refl
said_first (says.Root name) = refl
said_first (says.File role name) = role_first role

same_said : (a b : Said) → words_said a ≡ words_said b → said_byte a ≡ said_byte b → a ≡ b
same_said says.Version says.Version e f = refl
same_said (says.Inst n s o) (says.Inst m t p) e f =
    let name : n ≡ m = cc e in
    let source : s ≡ t = cc e in
    let object : o ≡ p = cc e in
    λ i. says.Inst (name i) (source i) (object i)
same_said (says.Bind u i g) (says.Bind v j h) e f =
    let user : u ≡ v = cc e in
    let import : i ≡ j = cc e in
    let giver : g ≡ h = cc e in
    λ k. says.Bind (user k) (import k) (giver k)
same_said (says.Root n) (says.Root m) e f = let name : n ≡ m = cc e in ap says.Root name
same_said (says.File r n) (says.File q m) e f =
    let role : r ≡ q = one_role r q f in
    let name : n ≡ m = cc e in
    λ i. says.File (role i) (name i)
same_said says.Version (says.Inst m t p) e f = absurd (omega (arith, f))
same_said says.Version (says.Bind v j h) e f = absurd (omega (arith, f))
same_said says.Version (says.Root m) e f = absurd (omega (arith, f))
same_said says.Version (says.File q m) e f = absurd ((other_sort q).version (sym f))
same_said (says.Inst n s o) says.Version e f = absurd (omega (arith, f))
same_said (says.Inst n s o) (says.Bind v j h) e f = absurd (omega (arith, f))
same_said (says.Inst n s o) (says.Root m) e f = absurd (omega (arith, f))
same_said (says.Inst n s o) (says.File q m) e f = absurd ((other_sort q).instance (sym f))
same_said (says.Bind u i g) says.Version e f = absurd (omega (arith, f))
same_said (says.Bind u i g) (says.Inst m t p) e f = absurd (omega (arith, f))
same_said (says.Bind u i g) (says.Root m) e f = absurd (omega (arith, f))
same_said (says.Bind u i g) (says.File q m) e f = absurd ((other_sort q).bind (sym f))
same_said (says.Root n) says.Version e f = absurd (omega (arith, f))
same_said (says.Root n) (says.Inst m t p) e f = absurd (omega (arith, f))
same_said (says.Root n) (says.Bind v j h) e f = absurd (omega (arith, f))
same_said (says.Root n) (says.File q m) e f = absurd ((other_sort q).root (sym f))
same_said (says.File r n) says.Version e f = absurd ((other_sort r).version f)
same_said (says.File r n) (says.Inst m t p) e f = absurd ((other_sort r).instance f)
same_said (says.File r n) (says.Bind v j h) e f = absurd ((other_sort r).bind f)
same_said (says.File r n) (says.Root m) e f = absurd ((other_sort r).root f)

one_said : (a b : Said) → words_said a ≡ words_said b → a ≡ b
one_said a b e = same_said a b e (sym (said_first a) ∙ (ap first_of e ∙ said_first b))

-- what lines say, and where they end
record Agree (said others : List Item) (last end : Option ℕ) : Type 0 where
  items : said ≡ others
  ending : last ≡ end

reads_agree : (own : Word) (before : List Item) (ss : List Statement) (items others : List Item) (ending end : Option ℕ)
    → ReadsOn own before ss items ending → ReadsOn own before ss others end → Agree items others ending end
reads_agree own before [] [] [] ending end a b = record { items = refl; ending = a ∙ sym b }
reads_agree own before [] [] (x ∷ others) ending end a b = absurd b
reads_agree own before [] (x ∷ items) others ending end a b = absurd a
reads_agree own before (s ∷ ss) [] [] None end a b = absurd a
reads_agree own before (s ∷ ss) [] [] (Some line) None a b = absurd b
reads_agree own before (s ∷ ss) [] [] (Some line) (Some last) a b = record { items = refl; ending = ap Some (a.0 ∙ sym b.0) }
reads_agree own before (s ∷ ss) [] (x ∷ others) None end a b = absurd a
reads_agree own before (s ∷ ss) [] (x ∷ others) (Some line) end a b = absurd (a.1 x.said b.1)
reads_agree own before (s ∷ ss) (x ∷ items) [] ending None a b = absurd b
reads_agree own before (s ∷ ss) (x ∷ items) [] ending (Some last) a b = absurd (b.1 x.said a.1)
reads_agree own before (s ∷ ss) (x ∷ items) (y ∷ others) ending end a b =
    let line : x.line ≡ y.line = a.0 ∙ sym b.0 in
    let said : x.said ≡ y.said = one_said x.said y.said (sym a.1.0.0 ∙ b.1.0.0) in
    let same : x ≡ y = (λ i. record { line = line i; said = said i }) in
    let rest = reads_agree own (before ++ y ∷ []) ss items others ending end
    (subst (λ (z : Item). ReadsOn own (before ++ z ∷ []) ss items ending) same a.2) b.2 in
    record { items = (λ i. same i ∷ rest.items i); ending = rest.ending }

pub is_one_build : IsOneBuild
is_one_build text own b c one two =
    let agree = reads_agree own [] (statements_of text) one.items two.items None None one.reads two.reads in
    sym one.says ∙ (ap (λ (items : List Item). sum_of nothing items) agree.items ∙ two.says)

-- the ends of readings differ
never_ends : (text own : List ℕ) (items others : List Item) (line : ℕ) → ReadsOn own [] (statements_of text) items None
    → ReadsOn own [] (statements_of text) others (Some line) → ⊥
never_ends text own items others line one two =
    let ends = (reads_agree own [] (statements_of text) items others None (Some line) one two).ending in absurd (cc ends)

pub build_has_no_wrong_line : BuildHasNoWrongLine
build_has_no_wrong_line text own b line build (inl (long, is)) = let short = build.short in absurd (omega (arith, long, short))
build_has_no_wrong_line text own b line build (inr (inl (short, (items, reads)))) = never_ends text own build.items items line build.reads reads
build_has_no_wrong_line text own b line build (inr (inr (short, items, reads, never, is))) =
    let agree = reads_agree own [] (statements_of text) items build.items None None reads build.reads in
    never b (ap (λ (list : List Item). sum_of nothing list) agree.items ∙ build.says)

pub has_one_wrong_line : HasOneWrongLine
has_one_wrong_line text own line last (inl (long, is)) (inl (longer, same)) = is ∙ sym same
has_one_wrong_line text own line last (inl (long, is)) (inr (inl (short, rest))) = absurd (omega (arith, long, short))
has_one_wrong_line text own line last (inl (long, is)) (inr (inr (short, items, reads, never, same))) = absurd (omega (arith, long, short))
has_one_wrong_line text own line last (inr (inl (short, rest))) (inl (long, is)) = absurd (omega (arith, long, short))
has_one_wrong_line text own line last (inr (inr (short, items, reads, never, same))) (inl (long, is)) = absurd (omega (arith, long, short))
has_one_wrong_line text own line last (inr (inl (short, (items, reads)))) (inr (inl (low, (others, read)))) =
    let ends = (reads_agree own [] (statements_of text) items others (Some line) (Some last) reads read).ending in cc ends
has_one_wrong_line text own line last (inr (inl (short, (items, reads)))) (inr (inr (low, others, read, never, is))) =
    absurd (never_ends text own others items line read reads)
has_one_wrong_line text own line last (inr (inr (short, items, reads, never, is))) (inr (inl (low, (others, read)))) =
    absurd (never_ends text own items others last reads read)
has_one_wrong_line text own line last (inr (inr (short, items, reads, never, is))) (inr (inr (low, others, read, never_so, same))) = is ∙ sym same

-- there are no more instances and bind lines than lines that say something
one_said_more : (line : ℕ) (said : Said) (sum : Sum)
    → (length (with_said line said sum).instances ≤ length sum.instances + 1) × (length (with_said line said sum).binds ≤ length sum.binds + 1)
one_said_more line says.Version sum = (omega arith, omega arith)
one_said_more line (says.Inst n s o) sum =
    let more = length-append sum.instances (record { line = line; name = n; source = s; object = o } ∷ []) in (omega (arith, more), omega arith)
one_said_more line (says.Bind u i g) sum =
    let more = length-append sum.binds (record { line = line; user = u; import = i; giver = g } ∷ []) in (omega arith, omega (arith, more))
one_said_more line (says.Root n) sum = (omega arith, omega arith)
one_said_more line (says.File roles.Net n) sum = (omega arith, omega arith)
one_said_more line (says.File roles.Verilog n) sum = (omega arith, omega arith)
one_said_more line (says.File roles.Pulses n) sum = (omega arith, omega arith)
one_said_more line (says.File roles.Trace n) sum = (omega arith, omega arith)

few_said : (sum : Sum) (items : List Item)
    → (length (sum_of sum items).instances ≤ length sum.instances + length items) × (length (sum_of sum items).binds ≤ length sum.binds + length items)
few_said sum [] = (omega arith, omega arith)
few_said sum (x ∷ items) =
    let (instances, binds) = one_said_more x.line x.said sum in
    let (more_instances, more_binds) = few_said (with_said x.line x.said sum) items in
    (omega (arith, instances, more_instances), omega (arith, binds, more_binds))

pub few_lines : (items : List Item) (b : Build) → sum_of nothing items ≡ whole b
    → (length b.instances.items ≤ length items) × (length b.binds.items ≤ length items)
few_lines items b is =
    let (instances, binds) = few_said nothing items in
    let one : length (sum_of nothing items).instances ≡ length b.instances.items = ap (λ (s : Sum). length s.instances) is in
    let other : length (sum_of nothing items).binds ≡ length b.binds.items = ap (λ (s : Sum). length s.binds) is in
    (omega (arith, one, instances), omega (arith, other, binds))
