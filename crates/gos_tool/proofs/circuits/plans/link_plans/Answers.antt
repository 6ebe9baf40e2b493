use Rattle.std.proofs.Common.{◌∷◌, [], ap}
use Rattle.gos_command.specs.declared.status.Cause.TheVariants.{Link}
use Rattle.gos_command.specs.declared.status.Fault.{Fault}
use Rattle.gos_tool.specs.Causes.{OfBuild, OfWeight, OfSize}
use Rattle.gos_tool.proofs.lemmas.StopLemmas.{stops_for, of_any_link}
use Rattle.gos_tool.proofs.circuits.plans.link_plans.Goals as goal

pub returns-in-Err-clause-kind : goal.returns-in-Err-clause-kind
returns-in-Err-clause-kind g c =
    let fault = c.in-Err.fault in
    stops_for (OfBuild ∷ OfWeight ∷ OfSize ∷ []) (Link fault) c.reject.result _ (λ real. of_any_link fault)
    (λ fault line is. (ap (λ (f : Fault). f.cause) is.0, is.1)) c.reject.ensures.stopped
