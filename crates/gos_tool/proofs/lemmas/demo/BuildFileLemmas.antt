-- What the demo's build file says: which files its build writes.
--
-- A line's words tell the object that it names, or the file of the build; so the files that a build names are known from the words
-- of its lines.
use Rattle.std.proofs.Common.{◌≡◌, ◌≤◌, ◌∙◌, ℕ, zero, suc, List, [], ◌∷◌, ◌++◌, Option, Some, None, if◌then◌else◌, refl, ap, sym, arith}
use Rattle.std.specs.Prelude.{codes}
use Rattle.std.specs.Str.{bytes_eq}
use Rattle.std.proofs.lemmas.List.{append_assoc, map-append}
use Rattle.gos_lex.specs.Lines.{Word, Words, Statement, statements_of}
use Rattle.gos_link.specs.BuildFile.{Sum, nothing, sum_of, with_said, words_said, whole, ReadsOn, IsBuildFile}
use Rattle.gos_link.specs.declared.build.Build.{Build}
use Rattle.gos_link.specs.declared.said.Role.TheVariants as roles
use Rattle.gos_link.specs.declared.said.Said.{Said}
use Rattle.gos_link.specs.declared.said.Said.TheVariants as says
use Rattle.gos_link.specs.declared.said.Item.{Item}
use Rattle.gos_tool.specs.build.Objects as instances
use Rattle.gos_tool.specs.build.Built as building
use Rattle.gos_tool.specs.demo.DemoFiles.{IsLevelCount, build_file}
use Rattle.gos_tool.specs.demo.Demo.{built_by}
use Rattle.gos_tool.proofs.lemmas.demo.PlainLemmas.{plain_text, plain_objects, text_plain, objects_plain}

-- the files that a build writes, as far as lines name them
record Written : Type 0 where
  objects : List Word
  net : Option Word
  verilog : Option Word
  trace : Option Word

abbrev written_so : Sum → Written
written_so sum = record { objects = instances.objects_of sum.instances; net = sum.net; verilog = sum.verilog; trace = sum.trace }

-- and with those that the words of a line name
abbrev with_words : Written → Words → Written
with_words w (a ∷ b ∷ []) =
    record w {
      net = if bytes_eq a (codes "net") then Some b else w.net;
      verilog = if bytes_eq a (codes "verilog") then Some b else w.verilog;
      trace = if bytes_eq a (codes "trace") then Some b else w.trace;
    }
with_words w (a ∷ b ∷ c ∷ d ∷ []) = if bytes_eq a (codes "inst") then record w { objects = w.objects ++ d ∷ [] } else w
with_words w words = w

abbrev with_lines : Written → List Statement → Written
with_lines w [] = w
with_lines w (s ∷ ss) = with_lines (with_words w s.words) ss

said_written : (line : ℕ) (said : Said) (sum : Sum) → written_so (with_said line said sum) ≡ with_words (written_so sum) (words_said said)
said_written line says.Version sum = refl
said_written line (says.Inst name source object) sum = ap (λ (os : List Word). record (written_so sum) { objects = os }) (map-append (λ i. i.object) sum.instances (record { line = line; name = name; source = source; object = object } ∷ []))
said_written line (says.Bind user import giver) sum = refl
said_written line (says.Root name) sum = refl
said_written line (says.File roles.Net name) sum = refl
said_written line (says.File roles.Verilog name) sum = refl
said_written line (says.File roles.Pulses name) sum = refl
said_written line (says.File roles.Trace name) sum = refl

all_written : (own : Word) (before : List Item) (sum : Sum) (ss : List Statement) (items : List Item) → ReadsOn own before ss items None
    → written_so (sum_of sum items) ≡ with_lines (written_so sum) ss
all_written own before sum [] [] reads = refl
all_written own before sum [] (item ∷ items) reads = absurd reads
all_written own before sum (s ∷ ss) [] reads = absurd reads
all_written own before sum (s ∷ ss) (item ∷ items) reads =
    all_written own (before ++ item ∷ []) (with_said item.line item.said sum) ss items reads.2
    ∙ ap (λ (w : Written). with_lines w ss)
    (said_written item.line item.said sum ∙ ap (λ (ws : Words). with_words (written_so sum) ws) (sym reads.1.0.0))

-- those of the demo's build, with these objects
abbrev built_files : List Word → Written
built_files objects = record { objects = objects; net = Some (codes "demo.net"); verilog = Some (codes "demo.v"); trace = Some (codes "demo.trc") }

same_word : (a b : Word) → Some a ≡ Some b → a ≡ b
same_word a b same = cc same

written_as : (text own : List ℕ) (b : Build) (objects : List Word) → IsBuildFile text own b
    → with_lines (written_so nothing) (statements_of text) ≡ built_files objects
    → building.written_by b ≡ objects ++ (codes "demo.net" ∷ codes "demo.v" ∷ codes "demo.trc" ∷ [])
written_as text own b named is same =
    let all : written_so (whole b) ≡ built_files named = sym (ap written_so is.says) ∙ (all_written own [] nothing (statements_of text) is.items is.reads ∙ same) in
    let net = same_word b.net (codes "demo.net") (ap (λ (w : Written). w.net) all) in
    let verilog = same_word b.verilog (codes "demo.v") (ap (λ (w : Written). w.verilog) all) in
    let trace = same_word b.trace (codes "demo.trc") (ap (λ (w : Written). w.trace) all) in
    (λ i. (all i).objects ++ (net i ∷ verilog i ∷ trace i ∷ []))

-- of each number of levels
abbrev demo_objects : ℕ → List Word
demo_objects n = codes "demo_main.obj" ∷ plain_objects n ++ (codes "demo_leaf.obj" ∷ [])

demo_writes : (k : ℕ) → k ≤ 11 → with_lines (written_so nothing) (statements_of (plain_text (suc k))) ≡ built_files (demo_objects (suc k))
demo_writes zero few = refl
demo_writes (suc zero) few = refl
demo_writes (suc (suc zero)) few = refl
demo_writes (suc (suc (suc zero))) few = refl
demo_writes (suc (suc (suc (suc zero)))) few = refl
demo_writes (suc (suc (suc (suc (suc zero))))) few = refl
demo_writes (suc (suc (suc (suc (suc (suc zero)))))) few = refl
demo_writes (suc (suc (suc (suc (suc (suc (suc zero))))))) few = refl
demo_writes (suc (suc (suc (suc (suc (suc (suc (suc zero)))))))) few = refl
demo_writes (suc (suc (suc (suc (suc (suc (suc (suc (suc zero))))))))) few = refl
demo_writes (suc (suc (suc (suc (suc (suc (suc (suc (suc (suc zero)))))))))) few = refl
demo_writes (suc (suc (suc (suc (suc (suc (suc (suc (suc (suc (suc zero))))))))))) few = refl
demo_writes (suc (suc (suc (suc (suc (suc (suc (suc (suc (suc (suc (suc k)))))))))))) few = absurd (omega (arith, few))

pub demo_written : (levels : ℕ) (b : Build) → IsLevelCount levels → IsBuildFile (build_file levels).text (build_file levels).name b → building.written_by b ≡ built_by levels
demo_written zero b count is = let some = count.0 in absurd (omega (arith, some))
demo_written (suc k) b count is =
    let few = count.1 in
    written_as (build_file (suc k)).text (build_file (suc k)).name b (demo_objects (suc k)) is
    (ap (λ (text : List ℕ). with_lines (written_so nothing) (statements_of text)) (text_plain (suc k) count) ∙ demo_writes k (omega (arith, few)))
    ∙ (append_assoc (codes "demo_main.obj" ∷ plain_objects (suc k)) (codes "demo_leaf.obj" ∷ []) (codes "demo.net" ∷ codes "demo.v" ∷ codes "demo.trc" ∷ [])
    ∙ ap (λ (os : List Word). codes "demo_main.obj" ∷ os ++ (codes "demo_leaf.obj" ∷ codes "demo.net" ∷ codes "demo.v" ∷ codes "demo.trc" ∷ [])) (sym (objects_plain (suc k) few)))
