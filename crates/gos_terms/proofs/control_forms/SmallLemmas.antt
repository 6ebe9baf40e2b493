-- The sessions of `skip ; skip`.
use Rattle.std.specs.Prelude.{◌≡◌, suc, List, [], ◌∷◌, ◌++◌, length}
use Rattle.std.proofs.Common.{refl, ap, arith, length-append}
use Rattle.gos_types.specs.Types.{Com}
use Rattle.gos_model.specs.Terms as terms
use Rattle.gos_model.specs.Typing.{Typed}
use Rattle.gos_check.specs.Nodes.{inside, meaning, type_of_node}
use Rattle.gos_plan.specs.Firing.{Second}
use Rattle.gos_nodes.specs.sessions.Sessions.{session}
use Rattle.gos_terms.specs.wired.Wired.{terms_of}
use Rattle.gos_terms.specs.run_children.Forks.{Branch}
use Rattle.gos_terms.specs.run_children.Forms.{branch}
use Rattle.gos_terms.specs.run_children.SmallForks.{skip}
use Rattle.gos_terms.specs.control_forms.SmallRuns.{BothHaveBranches, SecondHasNone}
use Rattle.gos_terms.proofs.branches.PartedLemmas.{of_two}
use Rattle.gos_terms.proofs.branches.SessionLemmas.{of_sequence}

pub both_have_branches : BothHaveBranches
both_have_branches env r =
    record {
      session = of_sequence (meaning (terms_of env)) skip skip skip [] [] [] Com refl refl;
      typed = of_two (λ b. Typed r.imports [] (meaning (inside [] (terms_of env)) b.term) (type_of_node b.term)) (branch skip []) (branch skip []) refl refl;
    }

pub second_has_none : SecondHasNone
second_has_none env r sessions =
    let (before, after, b, at, asked, term, ty) = sessions.session Second 0 (session 1 terms.Skip Com (λ x. x)) refl in
    let long = length-append before (b ∷ after) in
    let all : 1 ≡ length (before ++ b ∷ after) = ap (λ (xs : List Branch). length xs) at in
    let more : length (b ∷ after) ≡ suc (length after) = refl in
    omega (arith, long, all, more, asked)
