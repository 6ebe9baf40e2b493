-- All that realising speaks of is joined, since its links fit.
use Rattle.std.proofs.lemmas.Nat.{pow_pos}
use Rattle.gos_realises.specs.realises.Regular.{count}
use Rattle.gos_realises.specs.realises.Wirings.{reading, writing, side, applying}
use Rattle.gos_realises.specs.realises.Modules.{supplying}
use Rattle.gos_realises.proofs.realises.FittingLemmas.{applied_fits, sides_fit, variables_fit, supplied_fits}
use Rattle.gos_realises.specs.joined.Joined.{AppliedIsJoined, SidesAreJoined, VariablesAreJoined, SuppliedIsJoined, VariablesHaveWidths}
use Rattle.gos_realises.proofs.joined.JoiningLemmas.{fitting_is_joined}

pub applied_is_joined : AppliedIsJoined
applied_is_joined a b p q right also_right outcome argument =
    fitting_is_joined (applying a b p q) (applied_fits a b p q right also_right outcome argument)

pub sides_are_joined : SidesAreJoined
sides_are_joined a b p right outcome =
    let fit = sides_fit a b p right outcome in
    (fitting_is_joined (side 0 a p) fit.0, fitting_is_joined (side (count a) b p) fit.1)

pub variables_are_joined : VariablesAreJoined
variables_are_joined w k p right outcome =
    let fit = variables_fit w k p right outcome in
    (fitting_is_joined (reading w p) fit.0, fitting_is_joined (writing w k p) fit.1)

pub supplied_is_joined : SuppliedIsJoined
supplied_is_joined p ss right supplied = fitting_is_joined (supplying p ss) (supplied_fits p ss right supplied)

-- what is written to it is typed
pub variables_have_widths : VariablesHaveWidths
variables_have_widths w p m realised =
    let (r, joined) = (variables_are_joined w 0 p realised.suits.right realised.suits.outcome).1 in
    let (v, none, target, (same, width, low)) = (realised.means.1 r 0 (pow_pos w) joined).0.typed in
    width
