-- Which sources are not rejected; and that a source says one program, and has one typed term. Laws of these definitions, for all
-- texts.
--
-- Read first: Checked; Numbering of gos_check.
use Rattle.std.specs.Prelude.{◌≡◌, ℕ, List}
use Rattle.gos_outside.specs.Files.{Files, bytes_at}
use Rattle.gos_lex.specs.Lines.{Word}
use Rattle.gos_types.specs.Types.{type_of}
use Rattle.gos_syntax.specs.Modules.{SeenModule}
use Rattle.gos_model.specs.Sources.{program_of}
use Rattle.gos_check.specs.Numbering.{typed_term}
use Rattle.gos_command.specs.declared.status.Fault.{Fault}
use Rattle.gos_tool.specs.objects.Checked.{SaysModule, IsSourceFault}

-- a source that says a module that is accepted is not rejected
abbrev pub AcceptedIsNotRejected : Type 0
AcceptedIsNotRejected =
    (files : Files) (source : Word) (m : SeenModule) (fault : Fault) (line : List ℕ)
    → SaysModule (bytes_at files source) m → IsSourceFault files source fault line → ⊥

-- modules that a text says have one program, and one type of the result
abbrev pub SaysOneProgram : Type 0
SaysOneProgram =
    (text : List ℕ) (m other : SeenModule) → SaysModule text m → SaysModule text other
    → (program_of m ≡ program_of other) × (type_of m.result ≡ type_of other.result)

-- and they have one typed term
abbrev pub SaysOneTerm : Type 0
SaysOneTerm = (text : List ℕ) (m other : SeenModule) → SaysModule text m → SaysModule text other → typed_term m ≡ typed_term other
