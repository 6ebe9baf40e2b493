-- Where the handshakes of a small child lead.
--
-- Read first: Folding. They show that the definitions can be met and can be missed.
use Rattle.std.specs.Prelude.{◌≡◌, List, [], ◌∷◌, Some, None}
use Rattle.gos_plan.specs.Plans.{ResultEnd}
use Rattle.gos_joining.specs.webs.Webs.{Of, Within}
use Rattle.gos_terms.specs.stages.Folding.{Lead, AtOwn, AtResult, of_own, of_result, AreDistinct}

-- the first to the own part's handshake 1, the second to that of the node's result
abbrev pub two_leads : List Lead
two_leads = AtOwn 1 ∷ AtResult 0 ∷ []

-- Each stands for its own; the own part's first handshake for none.
abbrev pub LeadsStand : Type 0
LeadsStand =
    (of_own two_leads 0 1 ≡ Some (Within 0 (Of (ResultEnd 0)))) × (of_result two_leads 0 0 ≡ Some (Within 0 (Of (ResultEnd 1))))
    × (of_own two_leads 0 0 ≡ None)

-- They lead to two, and not both to one.
abbrev pub TwoAreDistinct : Type 0
TwoAreDistinct = AreDistinct two_leads

abbrev pub TwiceIsNotDistinct : Type 0
TwiceIsNotDistinct = AreDistinct (AtResult 0 ∷ AtResult 0 ∷ []) → ⊥
