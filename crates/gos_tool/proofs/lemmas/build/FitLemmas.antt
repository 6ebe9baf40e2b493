-- Plans of sources are right and slim, so that what they are linked to is never too large.
use Rattle.std.proofs.Common.{inl, inr, refl, List, [], ◌∷◌, ◌++◌}
use Rattle.gos_lex.specs.Lines.{Word}
use Rattle.gos_plan.specs.Seen.{SeenPlan, plan_of}
use Rattle.gos_link.specs.declared.build.Build.{Build}
use Rattle.gos_link.specs.declared.fault.LinkFault.{LinkFault}
use Rattle.gos_link.specs.declared.fault.LinkFault.TheVariants as links
use Rattle.gos_link.specs.Linked.{IsLinkable, IsUnlinked}
use Rattle.gos_linked.specs.fits.Fits.{SlimIsNeverTooLarge}
use Rattle.gos_command.specs.Ends.{IfStopped}
use Rattle.gos_command.specs.declared.status.Cause.{Cause}
use Rattle.gos_command.specs.declared.status.Cause.TheVariants as causes
use Rattle.gos_command.specs.declared.stop.Stop.{Stop}
use Rattle.gos_command.specs.declared.stop.Stop.TheVariants.{Rejected, StoreFailed, NoMemory}
use Rattle.gos_tool.specs.Causes.{IsFileFault, OfBuild, OfWeight, IsOneOf, StopsFor}
use Rattle.gos_tool.specs.circuits.Plans.{IsPlansCause}
use Rattle.gos_tool.specs.build.inner.Compiling.{IsFit, AreFit}

pub one_more_fits : (ps : List SeenPlan) (p : SeenPlan) → AreFit ps → IsFit (plan_of p) → AreFit (ps ++ p ∷ [])
one_more_fits [] p fit one = record { right = (one.right, tt); slim = (one.slim, tt) }
one_more_fits (q ∷ qs) p fit one =
    let rest = one_more_fits qs p (record { right = fit.right.1; slim = fit.slim.1 }) one in
    record { right = (fit.right.0, rest.right); slim = (fit.slim.0, rest.slim) }

-- what is wrong of such plans is not their size
of_link : SlimIsNeverTooLarge → (b : Build) (ps : List SeenPlan) (fault : LinkFault) → IsLinkable b ps → AreFit ps → IsUnlinked b ps fault
    → IsOneOf (OfBuild ∷ OfWeight ∷ []) (causes.Link fault)
of_link law b ps (links.TooLarge size ports) linkable fit is =
    absurd (law b ps size ports (record { each = linkable.each; right = fit.right }) fit.slim is)
of_link law b ps (links.TooHeavy weight) linkable fit is = inr (inl refl)
of_link law b ps fault linkable fit is = inl refl

of_build : SlimIsNeverTooLarge → (b : Build) (ps : List SeenPlan) (cause : Cause) → IsLinkable b ps → AreFit ps → IsPlansCause b ps cause
    → IsOneOf (OfBuild ∷ OfWeight ∷ []) cause
of_build law b ps (causes.Link fault) linkable fit is = of_link law b ps fault linkable fit is.1
of_build law b ps cause linkable fit is = absurd is

pub never_too_large : SlimIsNeverTooLarge → (own : Word) (b : Build) (ps : List SeenPlan) (stop : Stop) → IsLinkable b ps → AreFit ps
    → IfStopped stop (IsFileFault own (IsPlansCause b ps)) → StopsFor (OfBuild ∷ OfWeight ∷ []) stop
never_too_large law own b ps (Rejected r) linkable fit is = of_build law b ps r.fault.cause linkable fit is.cause
never_too_large law own b ps StoreFailed linkable fit is = tt
never_too_large law own b ps NoMemory linkable fit is = tt
