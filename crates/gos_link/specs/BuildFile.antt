-- What a build file says, and its first wrong line.
--
-- A line says one thing, and its place decides whether it is right: its sort has to follow that of the line before it,
-- and the names that it gives have to be new. `Said`, `Item` and `Build` are those of said.rt and build.rt.
use Rattle.std.specs.Prelude.{◌≡◌, ◌≤◌, ◌<◌, ◌+◌, ◌⊎◌, ◌==◌, ◌&&◌, ◌||◌, ℕ, Bool, true, false, not, IsTrue, List, [], ◌∷◌, ◌++◌, Option, Some, None, length, codes}
use Rattle.std.specs.List.{list_any}
use Rattle.std.specs.Str.{bytes_eq}
use Rattle.std.specs.Str.Lines.{lines}
use Rattle.gos_outside.specs.FileName.{IsFileName}
use Rattle.gos_lex.specs.Names.{IsName}
use Rattle.gos_lex.specs.Lines.{Word, Words, Statement, statements_of}
use Rattle.gos_link.specs.declared.build.Instance.{Instance}
use Rattle.gos_link.specs.declared.build.Bind.{Bind}
use Rattle.gos_link.specs.declared.build.Build.{Build}
use Rattle.gos_link.specs.declared.said.Role.{Role}
use Rattle.gos_link.specs.declared.said.Role.TheVariants as roles
use Rattle.gos_link.specs.declared.said.Said.{Said}
use Rattle.gos_link.specs.declared.said.Said.TheVariants as says
use Rattle.gos_link.specs.declared.said.Item.{Item}

-- the keyword of a file of the build
abbrev pub keyword : Role → Word
keyword roles.Net = codes "net"
keyword roles.Verilog = codes "verilog"
keyword roles.Pulses = codes "pulses"
keyword roles.Trace = codes "trace"

-- the words of a line that says this
abbrev pub words_said : Said → Words
words_said says.Version = codes "gosbuild" ∷ codes "1" ∷ []
words_said (says.Inst name source object) = codes "inst" ∷ name ∷ source ∷ object ∷ []
words_said (says.Bind user import giver) = codes "bind" ∷ user ∷ import ∷ giver ∷ []
words_said (says.Root name) = codes "root" ∷ name ∷ []
words_said (says.File role name) = keyword role ∷ name ∷ []

-- its names are names, and its files have names of files
abbrev pub IsNamed : Said → Type 0
IsNamed says.Version = Unit {0}
IsNamed (says.Inst name source object) = IsName name × IsFileName source × IsFileName object
IsNamed (says.Bind user import giver) = IsName user × IsName import × IsName giver
IsNamed (says.Root name) = IsName name
IsNamed (says.File role name) = IsFileName name

-- a line of these words says this
abbrev pub Says : Words → Said → Type 0
Says words said = (words ≡ words_said said) × IsNamed said

-- the sorts of lines, in their order
abbrev pub sort_of_file : Role → ℕ
sort_of_file roles.Net = 5
sort_of_file roles.Verilog = 6
sort_of_file roles.Pulses = 7
sort_of_file roles.Trace = 8

abbrev pub sort_of : Said → ℕ
sort_of says.Version = 1
sort_of (says.Inst name source object) = 2
sort_of (says.Bind user import giver) = 3
sort_of (says.Root name) = 4
sort_of (says.File role name) = sort_of_file role

-- Whether a line of the second sort may come after one of the first. Each sort comes after the one before it; of
-- instances and binds there may be more, and of binds none.
abbrev pub may_follow : ℕ → ℕ → Bool
may_follow last next = (next == last + 1) || (((next == last) && ((next == 2) || (next == 3))) || ((last == 2) && (next == 4)))

-- the sort of the last of these lines; 0 where there is none, and the first sort follows that
abbrev pub last_sort : ℕ → List Item → ℕ
last_sort n [] = n
last_sort n (item ∷ items) = last_sort (sort_of item.said) items

-- whether what a line says gives this name to an instance, this file as a source, this file as something else
abbrev pub is_instance : Word → Said → Bool
is_instance name (says.Inst other source object) = bytes_eq other name
is_instance name said = false

abbrev pub is_source : Word → Said → Bool
is_source file (says.Inst name source object) = bytes_eq source file
is_source file said = false

abbrev pub is_no_source : Word → Said → Bool
is_no_source file (says.Inst name source object) = bytes_eq object file
is_no_source file (says.File role name) = bytes_eq name file
is_no_source file said = false

-- whether one of these lines does so
abbrev pub has_instance : List Item → Word → Bool
has_instance items name = list_any (λ item. is_instance name item.said) items

abbrev pub has_source : List Item → Word → Bool
has_source items file = list_any (λ item. is_source file item.said) items

abbrev pub has_no_source : List Item → Word → Bool
has_no_source items file = list_any (λ item. is_no_source file item.said) items

-- Whether what a line says is new after these lines of the file `own`: an instance has another name than those before
-- it. A source may be one already, and no other file may.
abbrev pub is_new_file : Word → List Item → Word → Bool
is_new_file own before file = not (bytes_eq file own) && (not (has_source before file) && not (has_no_source before file))

abbrev pub is_new_source : Word → List Item → Word → Bool
is_new_source own before file = not (bytes_eq file own) && not (has_no_source before file)

abbrev pub is_new : Word → List Item → Said → Bool
is_new own before (says.Inst name source object) =
    not (has_instance before name) && (is_new_source own before source && (is_new_file own before object && not (bytes_eq object source)))
is_new own before (says.File role name) = is_new_file own before name
is_new own before said = true

-- a line of these words says this, and is right in its place
abbrev pub IsRightAfter : Word → List Item → Words → Said → Type 0
IsRightAfter own before words said =
    Says words said × IsTrue (may_follow (last_sort 0 before) (sort_of said)) × IsTrue (is_new own before said)

-- After these lines, the statements are these, and then end or have their first wrong line.
abbrev pub ReadsOn : Word → List Item → List Statement → List Item → Option ℕ → Type 0
ReadsOn own before [] [] ending = ending ≡ None
ReadsOn own before [] (item ∷ items) ending = ⊥
ReadsOn own before (s ∷ rest) [] None = ⊥
ReadsOn own before (s ∷ rest) [] (Some line) = (line ≡ s.line) × ((said : Said) → IsRightAfter own before s.words said → ⊥)
ReadsOn own before (s ∷ rest) (item ∷ items) ending =
    (item.line ≡ s.line) × IsRightAfter own before s.words item.said × ReadsOn own (before ++ item ∷ []) rest items ending

-- the line is the first of the statements that is wrong
abbrev pub IsWrongAt : Word → List Statement → ℕ → Type 0
IsWrongAt own statements line = (items : List Item) × ReadsOn own [] statements items (Some line)

-- the root line
pub record RootLine : Type 0 where
  pub line : ℕ
  pub name : Word

-- what lines say together
pub record Sum : Type 0 where
  pub instances : List Instance
  pub binds : List Bind
  pub root : Option RootLine
  pub net : Option Word
  pub verilog : Option Word
  pub pulses : Option Word
  pub trace : Option Word

abbrev pub nothing : Sum
nothing = record { instances = []; binds = []; root = None; net = None; verilog = None; pulses = None; trace = None }

abbrev pub with_file : Role → Word → Sum → Sum
with_file roles.Net name sum = record sum { net = Some name }
with_file roles.Verilog name sum = record sum { verilog = Some name }
with_file roles.Pulses name sum = record sum { pulses = Some name }
with_file roles.Trace name sum = record sum { trace = Some name }

abbrev pub with_said : ℕ → Said → Sum → Sum
with_said line says.Version sum = sum
with_said line (says.Inst name source object) sum =
    record sum { instances = sum.instances ++ record { line = line; name = name; source = source; object = object } ∷ [] }
with_said line (says.Bind user import giver) sum =
    record sum { binds = sum.binds ++ record { line = line; user = user; import = import; giver = giver } ∷ [] }
with_said line (says.Root name) sum = record sum { root = Some (record { line = line; name = name }) }
with_said line (says.File role name) sum = with_file role name sum

abbrev pub sum_of : Sum → List Item → Sum
sum_of sum [] = sum
sum_of sum (item ∷ items) = sum_of (with_said item.line item.said sum) items

-- all of a build
abbrev pub whole : Build → Sum
whole b =
    record {
      instances = b.instances.items;
      binds = b.binds.items;
      root = Some (record { line = b.root_line; name = b.root });
      net = Some b.net;
      verilog = Some b.verilog;
      pulses = Some b.pulses;
      trace = Some b.trace;
    }

-- the text of a build file that stands in the file `own`
pub record IsBuildFile (text own : List ℕ) (b : Build) : Type 0 where
  pub short : length text ≤ 65536
  pub items : List Item
  pub reads : ReadsOn own [] (statements_of text) items None
  pub says : sum_of nothing items ≡ whole b

-- The first wrong line of a text: 0 where the text is too long, and the line after the last where lines are missing.
abbrev pub IsFirstWrong : List ℕ → List ℕ → ℕ → Type 0
IsFirstWrong text own line =
    ((65536 < length text) × (line ≡ 0))
    ⊎ ((length text ≤ 65536) × IsWrongAt own (statements_of text) line)
    ⊎ ((length text ≤ 65536) × (items : List Item) × ReadsOn own [] (statements_of text) items None
    × ((b : Build) → sum_of nothing items ≡ whole b → ⊥) × (line ≡ length (lines text) + 1))
