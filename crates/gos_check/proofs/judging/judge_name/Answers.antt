use Rattle.gos_types.specs.Types.{type_of}
use Rattle.gos_check.specs.inner.Seen.{binders_of}
use Rattle.gos_check.proofs.ScopeLemmas.{type_countable}
use Rattle.gos_check.proofs.judging.judge_name.Goals as goal

pub typed_name-requires : goal.typed_name-requires
typed_name-requires c =
    type_countable c.args.imports.now (binders_of c.args.scope.now) c.args.name.now (type_of c.in-Some.ty.now) c.requires.imports c.requires.scope c.in-Some.ensures
