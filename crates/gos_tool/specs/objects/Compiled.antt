-- The command `compile SRC OBJ`.
--
-- Read first: Checked; Numbering of gos_check (the typed term of a module); Wiring of gos_compile (the plan of a module); Modules
-- and Slim of gos_realises (what it is to realise a module); ObjectText and ObjectFaults of gos_plan (its text, and which texts are read).
use Rattle.std.specs.Prelude.{◌≡◌, ◌⊎◌, ℕ, List, Option, Some, IfSome}
use Rattle.gos_outside.specs.Files.{Files, bytes_at, with_file, SameBut}
use Rattle.gos_outside.specs.Faults.{LastFault, ReadFault, WriteFault}
use Rattle.gos_lex.specs.Lines.{Word}
use Rattle.gos_types.specs.Types.{type_of}
use Rattle.gos_syntax.specs.Modules.{SeenModule}
use Rattle.gos_model.specs.Sources.{program_of}
use Rattle.gos_check.specs.Accepted.{weighed}
use Rattle.gos_check.specs.Linearity.{StandsFor}
use Rattle.gos_check.specs.Numbering.{typed_term}
use Rattle.gos_plan.specs.Plans.{Plan}
use Rattle.gos_plan.specs.ObjectText.{text_of}
use Rattle.gos_plan.specs.ObjectFaults.{IsRead}
use Rattle.gos_realises.specs.realises.Modules.{RealisesModule}
use Rattle.gos_realises.specs.realises.Slim.{IsSlim}
use Rattle.gos_compile.specs.Wiring.{IsPlanOf}
use Rattle.gos_command.specs.declared.report.Report.{Report}
use Rattle.gos_command.specs.declared.report.Report.TheVariants as reports
use Rattle.gos_tool.specs.objects.Checked.{SaysModule}

-- The plan of a module: its parts and joints are those of the module's typed term, which stands for it. The plan is slim and
-- realises the module's program, and its text is read as it.
pub record IsPlanOfModule (m : SeenModule) (plan : Plan) : Type 0 where
  pub stands : StandsFor (program_of m) (typed_term m)
  pub made : IsPlanOf (program_of m).imports (type_of m.result) (weighed m) (typed_term m) plan
  pub slim : IsSlim plan
  pub read : IsRead (text_of plan) plan
  pub realises : RealisesModule plan (program_of m).body

-- the text is that of the plan of a module
pub record IsObjectOf (text : List ℕ) (m : SeenModule) : Type 0 where
  pub plan : Plan
  pub compiled : IsPlanOfModule m plan
  pub is : text ≡ text_of plan

-- The source file says a module that is accepted, the text of its plan is written over the files before, and the report
-- has its weight.
pub record IsCompiled (files : Files) (new : Option Files) (source object : Word) (report : Report) : Type 0 where
  pub made : SeenModule
  pub text : List ℕ
  pub says : SaysModule (bytes_at files source) made
  pub compiled : IsObjectOf text made
  pub wrote : new ≡ with_file object text (Some files)
  pub tells : report ≡ reports.Weight (weighed made)

-- The calls of the store, each with what was written before it: the source is read, and the object is written where the
-- source says a module that is accepted. A file whose write fails may hold anything.
abbrev pub IsCompileCall : Option Files → Option Files → Word → Word → LastFault → Type 0
IsCompileCall old new source object fault =
    ((fault ≡ ReadFault source) × (new ≡ old))
    ⊎ ((fault ≡ WriteFault object) × SameBut object old new
    × IfSome old (λ files. (m : SeenModule) × SaysModule (bytes_at files source) m))
