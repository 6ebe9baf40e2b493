use Rattle.std.proofs.Common.{refl}
use Rattle.gos_types.specs.Types.{type_of}
use Rattle.gos_check.proofs.RuleLemmas.{one_countable}
use Rattle.gos_check.proofs.judged.typed_one.Goals as goal

pub returns-clause-known : goal.returns-clause-known
returns-clause-known c =
    (refl, one_countable c.args.rule c.args.span (type_of c.args.part.ty) (type_of c.in_ok-ty.ty) c.requires c.in_ok-ty.ensures.ok, refl)
