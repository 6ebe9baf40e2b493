-- That the demo's build file is one: each of its lines is right in its place.
--
-- Whether lines read so is tested, and the test computes for each number of levels.
use Rattle.std.proofs.Common.{◌≡◌, ◌≤◌, ◌<◌, ◌⊎◌, ◌+◌, ◌*◌, ◌^◌, inl, inr, ℕ, zero, suc, Bool, true, false, true≢false, not, ◌&&◌, ◌||◌, nat_eq, nat_lt, List, [], ◌∷◌, ◌++◌, Some, None, length, refl, sym, subst, arith}
use Rattle.std.specs.Prelude.{codes, All}
use Rattle.std.specs.Str.{bytes_eq}
use Rattle.std.specs.List.{list_all}
use Rattle.std.specs.Global.{Vec}
use Rattle.std.proofs.lemmas.Slice.Eq.{bytes_eq-Decides}
use Rattle.std.proofs.lemmas.List.Elements.{All-nil, All-cons}
use denote.RawPtr.{null_ptr}
use Rattle.gos_outside.specs.FileName.{IsFileByte, IsFileName}
use Rattle.gos_lex.specs.Names.{spells_name, IsName}
use Rattle.gos_lex.specs.Words.{is_word}
use Rattle.gos_lex.specs.Lines.{Word, Words, Statement, statements_of}
use Rattle.gos_link.specs.BuildFile.{nothing, sum_of, whole, words_said, sort_of, IsNamed, may_follow, last_sort, is_new, IsRightAfter, ReadsOn, IsBuildFile}
use Rattle.gos_link.specs.declared.build.Build.{Build}
use Rattle.gos_link.specs.declared.said.Role.TheVariants as roles
use Rattle.gos_link.specs.declared.said.Said.{Said}
use Rattle.gos_link.specs.declared.said.Said.TheVariants as says
use Rattle.gos_link.specs.declared.said.Item.{Item}
use Rattle.gos_tool.specs.demo.DemoFiles.{source_of, build_file}
use Rattle.gos_tool.proofs.lemmas.demo.TestLemmas.{front_true, back_true, equal_by, less_by}
use Rattle.gos_tool.proofs.lemmas.demo.PlainLemmas.{digits_of, plain_text, text_plain}

-- tests of numbers and of words
one_true : (a b : Bool) → (a || b) ≡ true → (a ≡ true) ⊎ (b ≡ true)
one_true true b e = inl refl
one_true false b e = inr e

abbrev same_words : Words → Words → Bool
same_words [] [] = true
same_words [] (b ∷ bs) = false
same_words (a ∷ rest) [] = false
same_words (a ∷ rest) (b ∷ bs) = bytes_eq a b && same_words rest bs

words_by : (a b : Words) → same_words a b ≡ true → a ≡ b
words_by [] [] e = refl
words_by [] (b ∷ bs) e = absurd (true≢false (sym e))
words_by (a ∷ rest) [] e = absurd (true≢false (sym e))
words_by (a ∷ rest) (b ∷ bs) e = λ i. (bytes_eq-Decides a b).0 (front_true _ _ e) i ∷ words_by rest bs (back_true _ _ e) i

-- tests of names
abbrev in_range : ℕ → ℕ → ℕ → Bool
in_range low high b = nat_lt low (b + 1) && nat_lt b (high + 1)

abbrev is_file_byte : ℕ → Bool
is_file_byte b = in_range 97 122 b || (in_range 48 57 b || (nat_eq b 95 || nat_eq b 46))

range_by : (low high b : ℕ) → in_range low high b ≡ true → (low ≤ b) × (b ≤ high)
range_by low high b e =
    let above : nat_lt low (b + 1) ≡ true = front_true _ _ e in
    let below : nat_lt b (high + 1) ≡ true = back_true _ _ e in
    let least = less_by low (b + 1) above in
    let most = less_by b (high + 1) below in (omega (arith, least), omega (arith, most))

byte_by : (b : ℕ) → is_file_byte b ≡ true → IsFileByte b
byte_by b e = letter (one_true _ _ e)
  where
    dot : (nat_eq b 95 ≡ true) ⊎ (nat_eq b 46 ≡ true) → IsFileByte b
    dot (inl h) = inr (inr (inr (inl (equal_by b 95 h))))
    dot (inr h) = inr (inr (inr (inr (inl (equal_by b 46 h)))))

    digit : (in_range 48 57 b ≡ true) ⊎ ((nat_eq b 95 || nat_eq b 46) ≡ true) → IsFileByte b
    digit (inl h) = inr (inr (inl (range_by 48 57 b h)))
    digit (inr h) = dot (one_true _ _ h)

    letter : (in_range 97 122 b ≡ true) ⊎ ((in_range 48 57 b || (nat_eq b 95 || nat_eq b 46)) ≡ true) → IsFileByte b
    letter (inl h) = inr (inl (range_by 97 122 b h))
    letter (inr h) = digit (one_true _ _ h)

bytes_by : (bytes : List ℕ) → list_all is_file_byte bytes ≡ true → All IsFileByte bytes
bytes_by [] e = All-nil IsFileByte
bytes_by (b ∷ bytes) e = All-cons IsFileByte b bytes (byte_by b (front_true _ _ e)) (bytes_by bytes (back_true _ _ e))

abbrev is_file : Word → Bool
is_file name = nat_lt 0 (length name) && (nat_lt (length name) 256 && list_all is_file_byte name)

file_by : (name : Word) → is_file name ≡ true → IsFileName name
file_by name e =
    let test : nat_lt (length name) 256 ≡ true = front_true _ _ (back_true _ _ e) in
    let short = less_by (length name) 256 test in
    record { some = less_by 0 (length name) (front_true _ _ e); short = omega (arith, short); each = bytes_by name (back_true _ _ (back_true _ _ e)) }

abbrev is_name : Word → Bool
is_name name = spells_name name && (nat_lt (length name) 256 && not (is_word name))

not_true : (b : Bool) → not b ≡ true → b ≡ false
not_true false e = refl
not_true true e = sym e

name_by : (name : Word) → is_name name ≡ true → IsName name
name_by name e =
    let test : nat_lt (length name) 256 ≡ true = front_true _ _ (back_true _ _ e) in
    let short = less_by (length name) 256 test in
    record { spelled = front_true _ _ e; short = omega (arith, short); no_word = not_true _ (back_true _ _ (back_true _ _ e)) }

abbrev is_named : Said → Bool
is_named says.Version = true
is_named (says.Inst name source object) = is_name name && (is_file source && is_file object)
is_named (says.Bind user import giver) = is_name user && (is_name import && is_name giver)
is_named (says.Root name) = is_name name
is_named (says.File role name) = is_file name

named_by : (said : Said) → is_named said ≡ true → IsNamed said
named_by says.Version e = tt
named_by (says.Inst name source object) e =
    (name_by name (front_true _ _ e), file_by source (front_true _ _ (back_true _ _ e)), file_by object (back_true _ _ (back_true _ _ e)))
named_by (says.Bind user import giver) e =
    (name_by user (front_true _ _ e), name_by import (front_true _ _ (back_true _ _ e)), name_by giver (back_true _ _ (back_true _ _ e)))
named_by (says.Root name) e = name_by name e
named_by (says.File role name) e = file_by name e

-- the test of lines
abbrev is_right : Word → List Item → Words → Said → Bool
is_right own before words said =
    same_words words (words_said said) && (is_named said && (may_follow (last_sort 0 before) (sort_of said) && is_new own before said))

right_by : (own : Word) (before : List Item) (words : Words) (said : Said) → is_right own before words said ≡ true → IsRightAfter own before words said
right_by own before words said e =
    let rest = back_true _ _ e in
    ((words_by words (words_said said) (front_true _ _ e), named_by said (front_true _ _ rest)), front_true _ _ (back_true _ _ rest), back_true _ _ (back_true _ _ rest))

abbrev reads_on : Word → List Item → List Statement → List Item → Bool
reads_on own before [] [] = true
reads_on own before [] (item ∷ items) = false
reads_on own before (s ∷ ss) [] = false
reads_on own before (s ∷ ss) (item ∷ items) =
    nat_eq item.line s.line && (is_right own before s.words item.said && reads_on own (before ++ item ∷ []) ss items)

reads_by : (own : Word) (before : List Item) (ss : List Statement) (items : List Item) → reads_on own before ss items ≡ true → ReadsOn own before ss items None
reads_by own before [] [] e = refl
reads_by own before [] (item ∷ items) e = absurd (true≢false (sym e))
reads_by own before (s ∷ ss) [] e = absurd (true≢false (sym e))
reads_by own before (s ∷ ss) (item ∷ items) e =
    let rest = back_true _ _ e in
    (equal_by item.line s.line (front_true _ _ e), right_by own before s.words item.said (front_true _ _ rest), reads_by own (before ++ item ∷ []) ss items (back_true _ _ rest))

-- a build that says what lines say
abbrev vector : {A : Type 0} (xs : List A) → length xs < 2 ^ 63 → Vec A
vector xs few = record { ptr = null_ptr; len = length xs; cap = length xs; alloc = record { memory = record { seal = tt } }; items = xs; ok = (refl, omega arith); small = few }

abbrev build_of : (items : List Item) (line : ℕ) → length (sum_of nothing items).instances < 2 ^ 63 → length (sum_of nothing items).binds < 2 ^ 63 → Build
build_of items line instances binds =
    record {
      instances = vector (sum_of nothing items).instances instances;
      binds = vector (sum_of nothing items).binds binds;
      root = codes "main";
      root_line = line;
      net = codes "demo.net";
      verilog = codes "demo.v";
      pulses = codes "demo.pls";
      trace = codes "demo.trc";
    }

-- the lines of the demo
abbrev level_name : ℕ → Word
level_name level = codes "l" ++ digits_of level

abbrev level_items : ℕ → List Item
level_items zero = []
level_items (suc n) =
    level_items n
    ++ (record { line = n + 3; said = says.Inst (level_name (suc n)) (source_of (suc n)) ((codes "demo_l" ++ digits_of (suc n)) ++ codes ".obj") } ∷ [])

abbrev next_items : ℕ → ℕ → List Item
next_items line zero = []
next_items line (suc n) = next_items line n ++ (record { line = line + n; said = says.Bind (level_name (suc n)) (codes "f") (level_name (n + 2)) } ∷ [])

-- of k + 1 levels
abbrev pub demo_items : ℕ → List Item
demo_items k =
    record { line = 1; said = says.Version } ∷ record { line = 2; said = says.Inst (codes "main") (codes "demo_main.gos") (codes "demo_main.obj") }
    ∷ (level_items (suc k)
    ++ (record { line = k + 4; said = says.Inst (codes "leaf") (codes "demo_id.gos") (codes "demo_leaf.obj") }
    ∷ record { line = k + 5; said = says.Bind (codes "main") (codes "f") (codes "l1") }
    ∷ (next_items (k + 6) k
    ++ (record { line = 2 * k + 6; said = says.Bind (level_name (suc k)) (codes "f") (codes "leaf") }
    ∷ record { line = 2 * k + 7; said = says.Root (codes "main") }
    ∷ record { line = 2 * k + 8; said = says.File roles.Net (codes "demo.net") }
    ∷ record { line = 2 * k + 9; said = says.File roles.Verilog (codes "demo.v") }
    ∷ record { line = 2 * k + 10; said = says.File roles.Pulses (codes "demo.pls") }
    ∷ record { line = 2 * k + 11; said = says.File roles.Trace (codes "demo.trc") }
    ∷ []))))

-- what is tested of them
record Tested (k : ℕ) : Type 0 where
  short : nat_lt (length (plain_text (suc k))) 65537 ≡ true
  reads : reads_on (codes "demo.txt") [] (statements_of (plain_text (suc k))) (demo_items k) ≡ true
  instances : nat_lt (length (sum_of nothing (demo_items k)).instances) 100 ≡ true
  binds : nat_lt (length (sum_of nothing (demo_items k)).binds) 100 ≡ true
  root : (sum_of nothing (demo_items k)).root ≡ Some (record { line = 2 * k + 7; name = codes "main" })
  net : (sum_of nothing (demo_items k)).net ≡ Some (codes "demo.net")
  verilog : (sum_of nothing (demo_items k)).verilog ≡ Some (codes "demo.v")
  pulses : (sum_of nothing (demo_items k)).pulses ≡ Some (codes "demo.pls")
  trace : (sum_of nothing (demo_items k)).trace ≡ Some (codes "demo.trc")

tested : (k : ℕ) → k ≤ 11 → Tested k
tested zero few = record { short = refl; reads = refl; instances = refl; binds = refl; root = refl; net = refl; verilog = refl; pulses = refl; trace = refl }
tested (suc zero) few = record { short = refl; reads = refl; instances = refl; binds = refl; root = refl; net = refl; verilog = refl; pulses = refl; trace = refl }
tested (suc (suc zero)) few = record { short = refl; reads = refl; instances = refl; binds = refl; root = refl; net = refl; verilog = refl; pulses = refl; trace = refl }
tested (suc (suc (suc zero))) few = record { short = refl; reads = refl; instances = refl; binds = refl; root = refl; net = refl; verilog = refl; pulses = refl; trace = refl }
tested (suc (suc (suc (suc zero)))) few = record { short = refl; reads = refl; instances = refl; binds = refl; root = refl; net = refl; verilog = refl; pulses = refl; trace = refl }
tested (suc (suc (suc (suc (suc zero))))) few = record { short = refl; reads = refl; instances = refl; binds = refl; root = refl; net = refl; verilog = refl; pulses = refl; trace = refl }
tested (suc (suc (suc (suc (suc (suc zero)))))) few = record { short = refl; reads = refl; instances = refl; binds = refl; root = refl; net = refl; verilog = refl; pulses = refl; trace = refl }
tested (suc (suc (suc (suc (suc (suc (suc zero))))))) few = record { short = refl; reads = refl; instances = refl; binds = refl; root = refl; net = refl; verilog = refl; pulses = refl; trace = refl }
tested (suc (suc (suc (suc (suc (suc (suc (suc zero)))))))) few = record { short = refl; reads = refl; instances = refl; binds = refl; root = refl; net = refl; verilog = refl; pulses = refl; trace = refl }
tested (suc (suc (suc (suc (suc (suc (suc (suc (suc zero))))))))) few = record { short = refl; reads = refl; instances = refl; binds = refl; root = refl; net = refl; verilog = refl; pulses = refl; trace = refl }
tested (suc (suc (suc (suc (suc (suc (suc (suc (suc (suc zero)))))))))) few = record { short = refl; reads = refl; instances = refl; binds = refl; root = refl; net = refl; verilog = refl; pulses = refl; trace = refl }
tested (suc (suc (suc (suc (suc (suc (suc (suc (suc (suc (suc zero))))))))))) few = record { short = refl; reads = refl; instances = refl; binds = refl; root = refl; net = refl; verilog = refl; pulses = refl; trace = refl }
tested (suc (suc (suc (suc (suc (suc (suc (suc (suc (suc (suc (suc k)))))))))))) few = absurd (omega (arith, few))

-- the text says a build, and what its lines say together
abbrev Says : ℕ → List ℕ → Type 0
Says k text = (b : Build) × IsBuildFile text (codes "demo.txt") b × (sum_of nothing (demo_items k) ≡ whole b)

is_plain_build : (k : ℕ) → Tested k → Says k (plain_text (suc k))
is_plain_build k t =
    let instances : length (sum_of nothing (demo_items k)).instances < 100 = less_by _ _ t.instances in
    let binds : length (sum_of nothing (demo_items k)).binds < 100 = less_by _ _ t.binds in
    let short : length (plain_text (suc k)) < 65537 = less_by _ _ t.short in
    let sum = sum_of nothing (demo_items k) in
    let made : Build = build_of (demo_items k) (2 * k + 7) (omega (arith, instances)) (omega (arith, binds)) in
    let says : sum ≡ whole made =
    λ i. record { instances = sum.instances; binds = sum.binds; root = t.root i; net = t.net i; verilog = t.verilog i; pulses = t.pulses i; trace = t.trace i } in (
      made,
      record {
        short = omega (arith, short);
        items = demo_items k;
        reads = reads_by (codes "demo.txt") [] (statements_of (plain_text (suc k))) (demo_items k) t.reads;
        says = says;
      },
      says,
    )

-- of k + 1 levels
pub demo_build : (k : ℕ) → k ≤ 11 → (b : Build) × IsBuildFile (build_file (suc k)).text (build_file (suc k)).name b × (sum_of nothing (demo_items k) ≡ whole b)
demo_build k few = subst (λ (text : List ℕ). Says k text) (sym (text_plain (suc k) (omega arith, omega (arith, few)))) (is_plain_build k (tested k few))
