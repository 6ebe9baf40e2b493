use Rattle.std.proofs.Common.{◌∙◌, List, ap, map, subst, sym}
use Rattle.gos_types.specs.declared.types.Ty.{Ty}
use Rattle.gos_types.specs.Types.{type_of}
use Rattle.gos_syntax.specs.Modules.{SeenImport}
use Rattle.gos_model.specs.Sources as sources
use Rattle.gos_plan.specs.declared.kinds.Kind.{Kind}
use Rattle.gos_plan.specs.Ranges.{AreInRange}
use Rattle.gos_compile.proofs.ShellLemmas.{no_wrong, shell_range, is_shell, small_shell}
use Rattle.gos_compile.proofs.shells.shell.Goals as goal

pub make-requires : goal.make-requires
make-requires c =
    subst (λ (parts : List Kind). AreInRange c.in_ok-imports.imports.items c.in_ok-outcome.outcome parts) (sym c.new.ensures.items)
    (shell_range c.args.program.now c.term-checked.ensures.checked c.in_ok-imports.imports.items c.in_ok-outcome.outcome
    (c.in_ok-imports.ensures.imports ∙ ap (λ (is : List SeenImport). map sources.import_of is) c.imports.ensures)
    (c.in_ok-outcome.ensures ∙ ap (λ (t : Ty). type_of t) c.result.ensures))

pub only_memory-requires : goal.only_memory-requires
only_memory-requires c = no_wrong _ c.in-Err.fault c.new-2.ensures.items c.in-Err.ensures.fault

pub returns-in-Ok-clause-shell : goal.returns-in-Ok-clause-shell
returns-in-Ok-clause-shell c =
    is_shell c.args.program.now c.in-Ok.plan c.in_ok-imports.imports.items c.in_ok-outcome.outcome c.new.result.items c.new-2.result.items c.in-Ok.ensures.plan
    (c.in_ok-imports.ensures.imports ∙ ap (λ (is : List SeenImport). map sources.import_of is) c.imports.ensures)
    (c.in_ok-outcome.ensures ∙ ap (λ (t : Ty). type_of t) c.result.ensures) c.new.ensures.items c.new-2.ensures.items

pub returns-in-Ok-clause-small : goal.returns-in-Ok-clause-small
returns-in-Ok-clause-small c =
    small_shell c.args.program.now c.term-checked.ensures.checked _
    (is_shell c.args.program.now c.in-Ok.plan c.in_ok-imports.imports.items c.in_ok-outcome.outcome c.new.result.items c.new-2.result.items c.in-Ok.ensures.plan
    (c.in_ok-imports.ensures.imports ∙ ap (λ (is : List SeenImport). map sources.import_of is) c.imports.ensures)
    (c.in_ok-outcome.ensures ∙ ap (λ (t : Ty). type_of t) c.result.ensures) c.new.ensures.items c.new-2.ensures.items)
