-- The calls of a command that goes by its build file.
use Rattle.std.proofs.Common.{◌≡◌, inr, List, [], ◌∷◌, ℕ, Option}
use Rattle.std.specs.Prelude.{IfSome}
use Rattle.gos_outside.specs.Files.{Files}
use Rattle.gos_outside.specs.Calls.{StoreCall, Calls, and_all, Ending, AreMade}
use Rattle.gos_outside.proofs.CallsLemmas.{goes_on}
use Rattle.gos_lex.specs.Lines.{Word}
use Rattle.gos_link.specs.BuildFile.{IsBuildFile}
use Rattle.gos_link.specs.declared.build.Build.{Build}
use Rattle.gos_tool.specs.Calls.{read_build_file, GoesByBuild}
use Rattle.gos_tool.specs.circuits.Linked.{SaysBuild}

-- it goes on once the file is read
pub by_build_file : (end : Ending) (files : Option Files) (own : Word) (rest : Build → List StoreCall) (b : Build) (old between new : Calls)
    → ((text : List ℕ) × IsBuildFile text own b) → IfSome files (λ all. SaysBuild all own b) → between ≡ and_all old (read_build_file own ∷ []) → AreMade end (rest b) between new
    → GoesByBuild end [] files own rest old new
by_build_file end files own rest b old between new read says first made = inr (b, (read, says), goes_on end (read_build_file own ∷ []) (rest b) old between new first made)
