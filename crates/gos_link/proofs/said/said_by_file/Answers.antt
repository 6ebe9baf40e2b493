use Rattle.std.proofs.Common.{[], ◌∷◌, refl, rules}
use Rattle.gos_outside.specs.FileName.{IsFileName}
use Rattle.gos_link.specs.BuildFile.{keyword, Says}
use Rattle.gos_link.specs.declared.said.Said.{Said}
use Rattle.gos_link.specs.declared.said.Said.TheVariants as says
use Rattle.gos_link.proofs.SaidLemmas.{on_refusal}
use Rattle.gos_link.proofs.said.said_by_file.Goals as goal

pub returns-in_err-name-clause-memory : goal.returns-in_err-name-clause-memory
returns-in_err-name-clause-memory c =
    let named : IsFileName c.args.name.now = search rules in
    on_refusal ((said : Said) × Says (keyword c.args.role ∷ c.args.name.now ∷ []) said) c.from_residual.result (says.File c.args.role c.args.name.now, (refl, named))
