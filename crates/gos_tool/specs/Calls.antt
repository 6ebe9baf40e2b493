-- Which calls of the store each command makes, in their order.
--
-- Each file is read by one call, which asks for one byte more than such a file may have, and written by one. After a call that failed
-- there is none.
use Rattle.std.specs.Prelude.{◌≢◌, ◌⊎◌, ℕ, List, [], ◌∷◌, ◌++◌, map, Option, IfSome}
use Rattle.gos_outside.specs.Files.{Files, bytes_at}
use Rattle.gos_outside.specs.Calls.{StoreCall, Read, Write, Calls, Ending, Whole, AreMade}
use Rattle.gos_lex.specs.Lines.{Word}
use Rattle.gos_link.specs.BuildFile.{IsBuildFile}
use Rattle.gos_link.specs.declared.build.Instance.{Instance}
use Rattle.gos_link.specs.declared.build.Build.{Build}

-- how each kind of file is read
abbrev pub read_source : Word → StoreCall
read_source name = Read name 65537

abbrev pub read_build_file : Word → StoreCall
read_build_file name = Read name 65537

abbrev pub read_object : Word → StoreCall
read_object name = Read name 4194305

abbrev pub read_netlist : Word → StoreCall
read_netlist name = Read name 268435457

abbrev pub read_pulses : Word → StoreCall
read_pulses name = Read name 16777217

-- a trace file, and a file of moves
abbrev pub read_explained : Word → StoreCall
read_explained name = Read name 268435457

-- a source is compiled; and the sources of instances are, each written as its object before the next is read
abbrev pub compile_calls : Word → Word → List StoreCall
compile_calls source object = read_source source ∷ Write object ∷ []

abbrev pub module_calls : List Instance → List StoreCall
module_calls [] = []
module_calls (i ∷ is) = read_source i.source ∷ Write i.object ∷ module_calls is

-- the objects of instances are read
abbrev pub object_calls : List Instance → List StoreCall
object_calls [] = []
object_calls (i ∷ is) = read_object i.object ∷ object_calls is

-- the circuit of a build is written
abbrev pub circuit_calls : Build → List StoreCall
circuit_calls b = Write b.net ∷ Write b.verilog ∷ []

-- a netlist is run under a pulse file; and one that is read is
abbrev pub simulation_calls : Word → Word → List StoreCall
simulation_calls pulses trace = read_pulses pulses ∷ Write trace ∷ []

abbrev pub sim_calls : Word → Word → Word → List StoreCall
sim_calls net pulses trace = read_netlist net ∷ simulation_calls pulses trace

-- a netlist is read, and what is made of it is written
abbrev pub rewrite_calls : Word → Word → List StoreCall
rewrite_calls net out = read_netlist net ∷ Write out ∷ []

-- what `link` and `build` do once their build file is read
abbrev pub link_calls : Build → List StoreCall
link_calls b = object_calls b.instances.items ++ circuit_calls b

abbrev pub plans_calls : Build → List StoreCall
plans_calls b = circuit_calls b ++ simulation_calls b.pulses b.trace

abbrev pub build_calls : Build → List StoreCall
build_calls b = module_calls b.instances.items ++ plans_calls b

-- the sources of instances are read, with nothing written between
abbrev pub source_calls : List Instance → List StoreCall
source_calls [] = []
source_calls (i ∷ is) = read_source i.source ∷ source_calls is

-- a trace file and a file of moves are read
abbrev pub explained_calls : Word → Word → List StoreCall
explained_calls trace moves = read_explained trace ∷ read_explained moves ∷ []

-- what `verify` does once its build file is read
abbrev pub verify_calls : Word → Build → List StoreCall
verify_calls moves b = source_calls b.instances.items ++ explained_calls b.trace moves

-- a trace file is read, and the lines that explain it are written
abbrev pub found_calls : Word → Word → List StoreCall
found_calls trace moves = read_explained trace ∷ Write moves ∷ []

-- what `explain` does once its build file is read
abbrev pub explain_calls : Word → Build → List StoreCall
explain_calls moves b = source_calls b.instances.items ++ found_calls b.trace moves

-- files are written
abbrev pub write_calls : List Word → List StoreCall
write_calls names = map Write names

-- A build file was read as saying b: some text does, and the file's own where the store tells its files.
abbrev pub ReadsAs : Option Files → Word → Build → Type 0
ReadsAs files own b = ((text : List ℕ) × IsBuildFile text own b) × IfSome files (λ all. IsBuildFile (bytes_at all own) own b)

-- After some calls a build file is read. The command ends before or with that call, or it goes on as the file says.
abbrev pub GoesByBuild : Ending → List StoreCall → Option Files → Word → (Build → List StoreCall) → Calls → Calls → Type 0
GoesByBuild ending first files own rest old new =
    ((ending ≢ Whole) × AreMade ending (first ++ read_build_file own ∷ []) old new)
    ⊎ ((b : Build) × ReadsAs files own b × AreMade ending (first ++ read_build_file own ∷ rest b) old new)
