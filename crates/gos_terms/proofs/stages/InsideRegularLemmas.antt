-- Inside splits supplies are regular and rest, since behind a Share they do.
use Rattle.std.specs.Prelude.{length}
use Rattle.std.proofs.Common.{[], ◌∷◌}
use Rattle.std.proofs.lemmas.List.Elements.{All-push}
use Rattle.gos_plan.specs.Kinds.{Share}
use Rattle.gos_plan.specs.TokenBits.{LiteralFits}
use Rattle.gos_sharing.specs.behind.Behind.{passing, IsBehind}
use Rattle.gos_sharing.proofs.behind.RegularLemmas.{behind_is_regular}
use Rattle.gos_sharing.proofs.behind.RestLemmas.{behind_rests}
use Rattle.gos_terms.specs.wired.Regular.{IsRegularOf}
use Rattle.gos_terms.specs.stages.Inside.{inside_one_supply}
use Rattle.gos_terms.specs.stages.InsideRegular.{PassingIsRegularOf, InsideIsRegular}
use Rattle.gos_terms.proofs.stages.InsideLemmas.{lies_there, one_so}

pub passing_is_regular_of : PassingIsRegularOf
passing_is_regular_of t c p two is =
    record {
      right = there.right;
      outcome = is.outcome;
      literals = All-push LiteralFits p.parts (Share t) is.literals tt;
      regular = behind_is_regular (length p.parts) t c (passing t c p) p there is.literals is.regular;
      rests = behind_rests (length p.parts) t c (passing t c p) p there is.literals is.regular is.rests;
    }
  where
    there : IsBehind (length p.parts) t c (passing t c p) p
    there = lies_there t c p two (is.right, is.outcome)

pub inside_is_regular : InsideIsRegular
inside_is_regular types [] env ns agree split are = are
inside_is_regular types (s ∷ ss) env ns (left, right, agree) (of, split) are =
    inside_is_regular types ss (inside_one_supply types s env) (s.left ∷ s.right ∷ ns) agree split
    (one_so (λ t x. IsRegularOf t x.plan) types s env ns left right of (λ c two is. passing_is_regular_of (types s.of) c (env s.of).plan two is) are)
