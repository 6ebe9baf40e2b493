-- Of the same source `check` tells the same, and `compile` makes the same: the text says one module but for its boxes, which has one plan.
use Rattle.std.proofs.Common.{◌≡◌, ◌∙◌, ℕ, List, Some, ap, refl, subst, sym}
use Rattle.gos_outside.specs.Files.{bytes_at}
use Rattle.gos_types.specs.Types.{type_of}
use Rattle.gos_model.specs.Moves.{Program}
use Rattle.gos_model.specs.Sources.{program_of}
use Rattle.gos_model.specs.Weight.{weight}
use Rattle.gos_check.specs.Accepted.{weighed}
use Rattle.gos_check.specs.Numbering.{typed_term}
use Rattle.gos_plan.specs.ObjectText.{text_of}
use Rattle.gos_compile.specs.Wiring.{PlanIsOne}
use Rattle.gos_command.specs.declared.report.Report.TheVariants as reports
use Rattle.gos_tool.specs.Calls.{compile_calls}
use Rattle.gos_tool.specs.objects.Checked.{SaysModule}
use Rattle.gos_tool.specs.objects.Complete.{SaysOneProgram, SaysOneTerm}
use Rattle.gos_tool.specs.objects.Repeated.{CheckTellsOne, CompileMakesOne, SaysOnePlan}
use Rattle.gos_tool.proofs.lemmas.AgreeLemmas.{same_text}
use Rattle.gos_tool.proofs.lemmas.objects.CompiledLemmas.{plan_too}

module _ (one_program : SaysOneProgram) (one_term : SaysOneTerm) (one_plan : PlanIsOne) where
  pub says_one_plan : SaysOnePlan
  says_one_plan text m other plan also says too one two =
      let same = one_program text m other says too in
      let made = (plan_too m other plan same.0 same.1 (one_term text m other says too) one).made in
      one_plan (program_of other).imports (type_of other.result) (weighed other) (typed_term other) plan also made two.made

pub check_tells_one : SaysOneProgram → CheckTellsOne
check_tells_one one_program files others source report told agree one two =
    let says : SaysModule (bytes_at files source) two.made = subst (λ (text : List ℕ). SaysModule text two.made) (sym agree.0) two.says in
    let same = (one_program (bytes_at files source) one.made two.made one.says says).0 in
    one.tells ∙ (ap (λ (p : Program). reports.Weight (weight p.imports p.body)) same ∙ sym two.tells)

pub compile_makes_one : SaysOneProgram → SaysOnePlan → CompileMakesOne
compile_makes_one one_program one_plan files others source object new other report told agree one two = (
  same_text (compile_calls source object) (Some files) (Some others) new other object one.text two.text refl texts one.wrote two.wrote,
  one.tells ∙ (ap (λ (p : Program). reports.Weight (weight p.imports p.body)) same ∙ sym two.tells),
)
  where
    says : SaysModule (bytes_at files source) two.made
    says = subst (λ (text : List ℕ). SaysModule text two.made) (sym agree.0) two.says

    same : program_of one.made ≡ program_of two.made
    same = (one_program (bytes_at files source) one.made two.made one.says says).0

    texts : one.text ≡ two.text
    texts =
        one.compiled.is
        ∙ (ap text_of (one_plan (bytes_at files source) one.made two.made one.compiled.plan two.compiled.plan one.says says one.compiled.compiled two.compiled.compiled)
        ∙ sym two.compiled.is)
