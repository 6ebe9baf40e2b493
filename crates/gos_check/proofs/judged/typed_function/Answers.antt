use Rattle.std.proofs.Common.{refl, sym, subst}
use Rattle.gos_types.specs.Types.{Type'}
use Rattle.gos_check.specs.Sizes.{IsCountable}
use Rattle.gos_check.proofs.SizeLemmas.{countable_fun}
use Rattle.gos_check.proofs.judged.typed_function.Goals as goal

pub returns-clause-known : goal.returns-clause-known
returns-clause-known c = (
  c.in_ok-without.ensures.ok,
  subst (λ (t : Type'). IsCountable t) (sym c.in_ok-ty.ensures.ok) (countable_fun _ _ c.requires.argument c.requires.outcome),
  refl,
)
