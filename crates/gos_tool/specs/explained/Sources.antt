-- The sources of a build's instances, read one after another, and the first that is rejected.
--
-- Read first: BuildFile of gos_link (instances); Checked of objects; Headline of build (`SayModules`). A file that the store doesn't hold
-- counts as empty.
use Rattle.std.specs.Prelude.{◌≡◌, ◌⊎◌, ℕ, List, [], ◌∷◌, Option, IfSome}
use Rattle.gos_outside.specs.Files.{Files, bytes_at}
use Rattle.gos_outside.specs.Faults.{LastFault, ReadFault}
use Rattle.gos_syntax.specs.Modules.{SeenModule}
use Rattle.gos_link.specs.declared.build.Instance.{Instance}
use Rattle.gos_command.specs.declared.status.Fault.{Fault}
use Rattle.gos_tool.specs.objects.Checked.{SaysModule, IsSourceFault}

-- the first source that is rejected: those before it say modules
abbrev pub RejectsSource : Files → List Instance → Fault → List ℕ → Type 0
RejectsSource files [] fault line = ⊥
RejectsSource files (i ∷ is) fault line =
    IsSourceFault files i.source fault line
    ⊎ ((m : SeenModule) × SaysModule (bytes_at files i.source) m × RejectsSource files is fault line)

-- a source is read, where those before it say modules
abbrev pub IsSourceCall : Option Files → List Instance → LastFault → Type 0
IsSourceCall old [] fault = ⊥
IsSourceCall old (i ∷ is) fault =
    (fault ≡ ReadFault i.source)
    ⊎ ((m : SeenModule) × IfSome old (λ files. SaysModule (bytes_at files i.source) m) × IsSourceCall old is fault)
