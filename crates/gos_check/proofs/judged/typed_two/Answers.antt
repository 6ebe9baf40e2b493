use Rattle.std.proofs.Common.{refl}
use Rattle.gos_types.specs.Types.{type_of}
use Rattle.gos_check.proofs.RuleLemmas.{two_countable}
use Rattle.gos_check.proofs.judged.typed_two.Goals as goal

pub returns-clause-known : goal.returns-clause-known
returns-clause-known c = (
  c.in_ok-joined.ensures.ok,
  two_countable c.args.rule c.args.s (type_of c.args.left.ty) c.args.t (type_of c.args.right.ty) (type_of c.in_ok-ty.ty)
      c.requires.left c.requires.right c.in_ok-ty.ensures.ok,
  refl,
)
