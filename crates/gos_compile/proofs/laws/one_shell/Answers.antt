use Rattle.gos_compile.proofs.ShellLemmas.{shell_is_of_plan}
use Rattle.gos_compile.proofs.laws.one_shell.Goals as goal

pub returns : goal.returns
returns c = shell_is_of_plan
