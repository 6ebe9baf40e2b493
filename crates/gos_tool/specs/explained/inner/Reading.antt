-- What is known of files while others are still to be read.
use Rattle.std.specs.Prelude.{◌≡◌, ◌<◌, ℕ, List, ◌++◌, length, None, Option, IfSome}
use Rattle.gos_outside.specs.Files.{Files, bytes_at}
use Rattle.gos_outside.specs.Faults.{LastFault}
use Rattle.gos_lex.specs.Lines.{Word}
use Rattle.gos_syntax.specs.Modules.{SeenModule}
use Rattle.gos_link.specs.declared.build.Instance.{Instance}
use Rattle.gos_command.specs.Lines.{fault_line}
use Rattle.gos_command.specs.declared.status.Cause.TheVariants.{Explain}
use Rattle.gos_command.specs.declared.status.Fault.{Fault}
use Rattle.gos_tool.specs.build.Headline.{SayModules}
use Rattle.gos_tool.specs.explained.Sources.{RejectsSource, IsSourceCall}
use Rattle.gos_tool.specs.explained.Texts.{too_long}

-- The sources of the instances before `rest` say these modules: whatever the rest does, all do with these before it.
pub record AreSaidBefore (old : Option Files) (all rest : List Instance) (modules : List SeenModule) : Type 0 where
  pub say : (more : List SeenModule) → IfSome old (λ files. SayModules files rest more) → IfSome old (λ files. SayModules files all (modules ++ more))
  pub rejected :
      (fault : Fault) (line : List ℕ) → IfSome old (λ files. RejectsSource files rest fault line)
      → IfSome old (λ files. RejectsSource files all fault line)
  pub call : (fault : LastFault) → IsSourceCall old rest fault → IsSourceCall old all fault

-- a file of a trace or of moves is too long, and this is told of it
pub record IsLongFile (files : Files) (name : Word) (fault : Fault) (line : List ℕ) : Type 0 where
  pub long : 268435456 < length (bytes_at files name)
  pub is : fault ≡ record { file = name; cause = Explain too_long }
  pub says : line ≡ fault_line None fault
