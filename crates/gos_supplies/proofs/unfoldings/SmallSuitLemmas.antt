-- The plan of `skip`, with no supplies: what it suits, and what it doesn't.
use Rattle.std.specs.Prelude.{[], ◌∷◌}
use Rattle.std.proofs.Common.{sym, subst}
use Rattle.gos_types.specs.Types.{Com}
use Rattle.gos_types.proofs.ListLemmas.{none_in_empty}
use Rattle.gos_model.specs.Terms.{Skip}
use Rattle.gos_plan.specs.Plans.{Plan}
use Rattle.gos_plan.specs.SmallPlans.{skip_plan}
use Rattle.gos_realises.specs.realises.Links.{IsJoined}
use Rattle.gos_realises.specs.realises.Realises.{NamesDiffer, Suits}
use Rattle.gos_realises.specs.realises.Modules.{supplying}
use Rattle.gos_realises.proofs.realises.SkipLemmas.{skip_is_realised}
use Rattle.gos_realises.proofs.joined.WholeLemmas.{supplied_is_joined}
use Rattle.gos_joining.specs.renumbered.SmallRewirings.{unchanged}
use Rattle.gos_joining.proofs.renumbered.HigherLemmas.{is_itself, joined_moved, renumbered_is_realised}
use Rattle.gos_supplies.proofs.applications.SingleLemmas.{alone_joins}
use Rattle.gos_supplies.specs.unfoldings.SmallSuits.{SkipSuits, NumberSuitsNot}

-- what is joined of the plan alone is the plan but for numbers
alone_suits : (r : Plan) → IsJoined (supplying skip_plan []) r → Suits Com r Skip
alone_suits r of_r =
    let right = skip_is_realised.suits.right in
    let (g, same) = joined_moved unchanged skip_plan skip_plan [] [] 0 0 Com (is_itself skip_plan right) (λ k x at. absurd (cc at)) (λ l has. absurd (none_in_empty l has)) r skip_plan of_r
    (record { fits = of_r.fits; joining = alone_joins skip_plan right })
    in
    (renumbered_is_realised g r skip_plan Com Skip same skip_is_realised).suits

pub skip_suits : SkipSuits
skip_suits [] r are of_r names = alone_suits r of_r
skip_suits (s ∷ ss) r are of_r names = absurd are

pub number_suits_not : NumberSuitsNot
number_suits_not suits =
    let (r, of_r) = supplied_is_joined skip_plan [] skip_is_realised.suits.right tt in
    let names : NamesDiffer r.imports = subst NamesDiffer (sym of_r.joining.imports) tt in
    let (is_number, width, small) = (suits [] r tt of_r names).typed in
    cc is_number
