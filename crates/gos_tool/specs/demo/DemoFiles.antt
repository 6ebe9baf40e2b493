-- The files of the demo: five sources, a pulse file and a build file.
--
-- The demo of N levels is a chain of N modules, each of which hands the command that it is given on to the next. The main module
-- gives the first one a command of the surroundings; the last one runs it. Level 1 hands it on twice, so that it is run twice;
-- even levels take it from a pair, and the other odd ones pass it on as it is.
use Rattle.std.specs.Prelude.{◌≤◌, ◌+◌, ◌-◌, ◌*◌, ◌%◌, ◌==◌, ℕ, zero, suc, if◌then◌else◌, List, [], ◌∷◌, ◌++◌, codes}
use Rattle.gos_lex.specs.Lines.{Word}
use Rattle.gos_command.specs.Lines.{counted}

-- a file with its name
pub record NamedText : Type 0 where
  pub name : Word
  pub text : List ℕ

-- how many levels there may be
abbrev pub IsLevelCount : ℕ → Type 0
IsLevelCount n = (1 ≤ n) × (n ≤ 12)

-- a line, with its line feed
abbrev pub line : List ℕ → List ℕ
line words = words ++ 10 ∷ []

-- the sources, of one line each
abbrev pub main_source : NamedText
main_source = record { name = codes "demo_main.gos"; text = line (codes "import f : com -> com import c : com export f c : com") }

abbrev pub twice_source : NamedText
twice_source = record { name = codes "demo_twice.gos"; text = line (codes "import f : com -> com export fun a : com . f a ; f a : com -> com") }

abbrev pub pass_source : NamedText
pass_source = record { name = codes "demo_pass.gos"; text = line (codes "import f : com -> com export fun a : com . f a : com -> com") }

abbrev pub pair_source : NamedText
pair_source =
    record { name = codes "demo_pair.gos"; text = line (codes "import f : com -> com export fun a : com . f (fst (a, skip)) : com -> com") }

abbrev pub id_source : NamedText
id_source = record { name = codes "demo_id.gos"; text = line (codes "export fun a : com . a : com -> com") }

abbrev pub sources : List NamedText
sources = main_source ∷ twice_source ∷ pass_source ∷ pair_source ∷ id_source ∷ []

-- how many cycles the run has: 12,000, and 7,200 for each level
abbrev pub cycles_of : ℕ → ℕ
cycles_of levels = 12000 + 7200 * levels

-- the pulse file: the surroundings run the whole once, and the command that they give is done at once, both times
abbrev pub pulse_file : ℕ → NamedText
pulse_file levels =
    record {
      name = codes "demo.pls";
      text =
          line (counted (codes "cycles ") (cycles_of levels))
          ++ (line (codes "next 0 main.run") ++ (line (codes "next 0 c.done") ++ line (codes "next 0 c.done")));
    }

-- the source of a level
abbrev pub source_of : ℕ → Word
source_of level = if level == 1 then twice_source.name else (if level % 2 == 0 then pair_source.name else pass_source.name)

-- the line of a level's instance
abbrev pub level_line : ℕ → List ℕ
level_line level = counted (codes "inst l") level ++ (codes " " ++ (source_of level ++ (counted (codes " demo_l") level ++ line (codes ".obj"))))

-- the lines of the first levels, in their order
abbrev pub level_lines : ℕ → List ℕ
level_lines zero = []
level_lines (suc n) = level_lines n ++ level_line (suc n)

-- the line that gives a level the next one, and those of the first levels
abbrev pub next_line : ℕ → List ℕ
next_line level = line (counted (codes "bind l") level ++ counted (codes " f l") (level + 1))

abbrev pub next_lines : ℕ → List ℕ
next_lines zero = []
next_lines (suc n) = next_lines n ++ next_line (suc n)

-- the lines of the instances, and those of the binds
abbrev pub instance_lines : ℕ → List ℕ
instance_lines levels =
    (line (codes "gosbuild 1") ++ line (codes "inst main demo_main.gos demo_main.obj"))
    ++ (level_lines levels ++ line (codes "inst leaf demo_id.gos demo_leaf.obj"))

abbrev pub bind_lines : ℕ → List ℕ
bind_lines levels =
    line (codes "bind main f l1") ++ (next_lines (levels - 1) ++ (counted (codes "bind l") levels ++ line (codes " f leaf")))

-- the lines of the root and the files
abbrev pub file_lines : List ℕ
file_lines =
    line (codes "root main")
    ++ (line (codes "net demo.net") ++ (line (codes "verilog demo.v") ++ (line (codes "pulses demo.pls") ++ line (codes "trace demo.trc"))))

abbrev pub build_file : ℕ → NamedText
build_file levels = record { name = codes "demo.txt"; text = instance_lines levels ++ (bind_lines levels ++ file_lines) }

-- all of them, in the order in which they are written
abbrev pub demo_files : ℕ → List NamedText
demo_files levels = sources ++ (pulse_file levels ∷ build_file levels ∷ [])
