use Rattle.std.proofs.Common.{[], ◌∷◌, refl, rules}
use Rattle.std.specs.Prelude.{codes}
use Rattle.gos_lex.specs.Names.{IsName}
use Rattle.gos_link.specs.BuildFile.{Says}
use Rattle.gos_link.specs.declared.said.Said.{Said}
use Rattle.gos_link.specs.declared.said.Said.TheVariants as says
use Rattle.gos_link.proofs.SaidLemmas.{on_refusal}
use Rattle.gos_link.proofs.said.said_by_root.Goals as goal

pub returns-in_err-name-clause-memory : goal.returns-in_err-name-clause-memory
returns-in_err-name-clause-memory c =
    let named : IsName c.args.name.now = search rules in
    on_refusal ((said : Said) × Says (codes "root" ∷ c.args.name.now ∷ []) said) c.from_residual.result (says.Root c.args.name.now, (refl, named))
