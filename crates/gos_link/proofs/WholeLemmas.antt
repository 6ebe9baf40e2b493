-- Where the bind lines are right and all instances have their places, the joining of the plans has no more joints than these.
use Rattle.std.specs.Prelude.{◌≡◌, zero, suc, List, [], ◌∷◌}
use Rattle.std.proofs.Common.{subst}
use Rattle.gos_plan.specs.Plans.{Plan, IsRight}
use Rattle.gos_link.specs.Linked.{plans_of}
use Rattle.gos_link.specs.Answers.{EachRight, JointsAreFew}
use Rattle.gos_link.specs.inner.Wired.{AllRight}
use Rattle.gos_link.proofs.JudgeLemmas.{judged}
use Rattle.gos_link.proofs.FewLemmas.{few_joined}

pub all_right : (ps : List Plan) → EachRight ps → AllRight ps
all_right [] right n p e = absurd (cc e)
all_right (q ∷ ps) (here, rest) zero p e = let same : q ≡ p = cc e in subst IsRight same here
all_right (q ∷ ps) (here, rest) (suc n) p e = all_right ps rest n p e

pub joints_are_few : JointsAreFew
joints_are_few b ps ss root p are binds placed joining =
    few_joined (plans_of ps) ss root (judged b ps ss root are.each binds placed).joinable (all_right (plans_of ps) are.right) p joining
