-- Each node of a typed term, wired to supplies for its numbers, realises its term, at every type.
--
-- Read first: Cases of ground_forms (`RealisesWired`); Regular of wired (`RegularWired`); Kept and Unsplit of numbers.
use Rattle.std.specs.Prelude.{ℕ, List}
use Rattle.gos_check.specs.Nodes.{Numbered}
use Rattle.gos_compile.specs.Wiring.{Types}
use Rattle.gos_terms.specs.wired.Regular.{RegularWired}
use Rattle.gos_terms.specs.numbers.Kept.{IsKept}
use Rattle.gos_terms.specs.numbers.Unsplit.{ParallelsAreUnsplit, ApplicationsAreUnsplit}
use Rattle.gos_terms.specs.ground_forms.Cases.{RealisesWired}

-- However a node is wired to supplies that are regular and rest, with imports of any types, its plan is regular and rests.
abbrev pub TermIsRegular : Type 0
TermIsRegular =
    (types : Types) (ns : List ℕ) (m : Numbered) → IsKept types ns m → ParallelsAreUnsplit m → ApplicationsAreUnsplit m → RegularWired types ns m

-- However it is wired to supplies that realise terms, its plan realises its term with these.
abbrev pub TermIsRealised : Type 0
TermIsRealised =
    (types : Types) (ns : List ℕ) (m : Numbered) → IsKept types ns m → ParallelsAreUnsplit m → ApplicationsAreUnsplit m → RealisesWired types ns m
