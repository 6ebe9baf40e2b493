-- A plan with a Share of a function's type realises what the one with two Shares does, at any type.
--
-- Read first: Split; Source of behind, by which the Share is loyal; Realises of gos_realises.
use Rattle.gos_types.specs.Types.{Type', Fun}
use Rattle.gos_model.specs.Terms.{Term}
use Rattle.gos_plan.specs.Plans.{Plan}
use Rattle.gos_realises.specs.realises.Regular.{IsRegular}
use Rattle.gos_realises.specs.realises.Realises.{Realises}
use Rattle.gos_joining.specs.webs.Cutting.{Cut}
use Rattle.gos_sharing.specs.behind.Source.{IsBefore, HasItsImports}
use Rattle.gos_sharing.specs.function_types.Split.{Splitting, IsSplit}

-- What is joined to its source is a region that is a regular plan. Where an import of the whole asks the region, as an array's does for
-- its index, all of it is the region's; at ground imports nothing asks.
abbrev pub SplitIsRealised : Type 0
SplitIsRealised =
    (f : Splitting) (h : Cut) (x u p : Plan) (t : Type') (m : Term)
    → IsSplit f x u → IsBefore h f.wide (Fun f.of f.to) f.caller x p → HasItsImports h x p → IsRegular p → Realises t u m → Realises t x m
