-- The command `demo N`: what it leaves, that it rejects no file, and which calls it makes.
--
-- Read first: DemoFiles; Built of build. The files of the demo are written first, and then all is as `build demo.txt` has it over
-- these. `old` and `new` are the files of the store before and after, `files` those before where it tells them.
use Rattle.std.specs.Prelude.{◌≡◌, ◌⊎◌, ◌++◌, ℕ, zero, suc, List, [], ◌∷◌, map, take, slice_get, Option, Some, None, codes}
use Rattle.std.specs.FinMap.{get, insert}
use Rattle.gos_outside.specs.Files.{Files, SameBut}
use Rattle.gos_outside.specs.Faults.{LastFault, WriteFault}
use Rattle.gos_outside.specs.Calls.{Calls, Ending}
use Rattle.gos_lex.specs.Lines.{Word}
use Rattle.gos_command.specs.Lines.{counted}
use Rattle.gos_command.specs.declared.report.Report.{Report}
use Rattle.gos_tool.specs.Calls.{write_calls, build_calls, GoesByBuild}
use Rattle.gos_tool.specs.build.Built.{IsBuilt, IsBuildCall, IsBuildCutShort}
use Rattle.gos_tool.specs.demo.DemoFiles.{NamedText, build_file, demo_files}

-- the files with these written, one after another; and where the store tells its files
abbrev pub holding : List NamedText → Files → Files
holding [] files = files
holding (f ∷ fs) files = holding fs (insert files f.name f.text)

abbrev pub with_files : List NamedText → Option Files → Option Files
with_files fs None = None
with_files fs (Some files) = Some (holding fs files)

-- the first of these files were written, and no others; or all
abbrev pub IsFront : List NamedText → Option Files → Option Files → Type 0
IsFront fs old new = (n : ℕ) × (new ≡ with_files (take n fs) old)

-- one of these files could not be written, after those before it were; it may hold anything
pub record IsWriting (fs : List NamedText) (old new : Option Files) (fault : LastFault) : Type 0 where
  pub number : ℕ
  pub file : NamedText
  pub at : slice_get fs number ≡ Some file
  pub blamed : fault ≡ WriteFault file.name
  pub before : SameBut file.name (with_files (take number fs) old) new

-- the file has this name and this text
pub record Holds (new : Option Files) (f : NamedText) : Type 0 where
  pub all : Files
  pub told : new ≡ Some all
  pub text : get all f.name ≡ Some f.text

abbrev pub HoldsEach : Option Files → List NamedText → Type 0
HoldsEach new [] = Unit {0}
HoldsEach new (f ∷ fs) = Holds new f × HoldsEach new fs

-- the files with those of the demo written
abbrev pub with_demo : ℕ → Files → Files
with_demo levels files = holding (demo_files levels) files

-- The files of the demo hold their texts, and all that `build demo.txt` promises of its end is so with them as its files.
pub record IsDemoDone (files : Files) (new : Option Files) (levels : ℕ) (report : Report) : Type 0 where
  pub hold : HoldsEach new (demo_files levels)
  pub built : IsBuilt (with_demo levels files) new (build_file levels).name report

-- the calls: the files of the demo are written, and then come those of `build demo.txt`
abbrev pub IsDemoCall : Option Files → Option Files → ℕ → LastFault → Type 0
IsDemoCall old new levels fault =
    IsWriting (demo_files levels) old new fault
    ⊎ IsBuildCall (with_files (demo_files levels) old) new (build_file levels).name fault

-- what is left where memory runs out: some of the files of the demo, or all, and then what `build demo.txt` leaves
abbrev pub IsDemoCutShort : Files → Option Files → ℕ → Type 0
IsDemoCutShort files new levels =
    IsFront (demo_files levels) (Some files) new ⊎ IsBuildCutShort (with_demo levels files) new (build_file levels).name

-- the names of these files
abbrev pub names_of : List NamedText → List Word
names_of fs = map (λ f. f.name) fs

-- the object of a level, and those of the first levels, in their order
abbrev pub object_of : ℕ → Word
object_of level = counted (codes "demo_l") level ++ codes ".obj"

abbrev pub objects_of : ℕ → List Word
objects_of zero = []
objects_of (suc n) = objects_of n ++ (object_of (suc n) ∷ [])

-- the files that `build demo.txt` writes
abbrev pub built_by : ℕ → List Word
built_by levels =
    (codes "demo_main.obj" ∷ objects_of levels) ++ (codes "demo_leaf.obj" ∷ codes "demo.net" ∷ codes "demo.v" ∷ codes "demo.trc" ∷ [])

-- the files that the command writes: those of the demo, and then those of the build
abbrev pub written_by : ℕ → List Word
written_by levels = names_of (demo_files levels) ++ built_by levels

-- The calls: the files of the demo are written, and then `build demo.txt` makes its own. What its build file says is known where the
-- store tells its files.
abbrev pub CallsOfDemo : Ending → Option Files → ℕ → Calls → Calls → Type 0
CallsOfDemo ending files levels old new =
    GoesByBuild ending (write_calls (names_of (demo_files levels))) (with_files (demo_files levels) files) (build_file levels).name build_calls old new
