-- The kinds of causes that a command may stop for.
use Rattle.std.proofs.Common.{◌≡◌, ◌≢◌, ℕ, inl, inr, List, [], ◌∷◌, ◌++◌, Result, Ok, Err, refl, sym, ap, subst}
use Rattle.std.specs.Prelude.{IfErr}
use Rattle.gos_link.specs.declared.fault.LinkFault.{LinkFault}
use Rattle.gos_link.specs.declared.fault.LinkFault.TheVariants as links
use Rattle.gos_command.specs.Ends.{IfStopped, IsRealCause}
use Rattle.gos_command.specs.declared.status.Cause.{Cause}
use Rattle.gos_command.specs.declared.status.Cause.TheVariants as causes
use Rattle.gos_command.specs.declared.status.Fault.{Fault}
use Rattle.gos_command.specs.declared.stop.Stop.{Stop}
use Rattle.gos_command.specs.declared.stop.Stop.TheVariants.{Rejected, StoreFailed, NoMemory}
use Rattle.gos_tool.specs.Causes.{Kind, OfBuild, OfWeight, OfSize, kind_of_link, IsOneOf, StopsFor}

-- of some kinds, and so of more
before : (kinds more : List Kind) (cause : Cause) → IsOneOf kinds cause → IsOneOf (kinds ++ more) cause
before [] more cause is = absurd is
before (kind ∷ kinds) more cause (inl is) = inl is
before (kind ∷ kinds) more cause (inr is) = inr (before kinds more cause is)

behind : (more kinds : List Kind) (cause : Cause) → IsOneOf kinds cause → IsOneOf (more ++ kinds) cause
behind [] kinds cause is = is
behind (kind ∷ more) kinds cause is = inr (behind more kinds cause is)

pub stops_before : (kinds more : List Kind) (stop : Stop) → StopsFor kinds stop → StopsFor (kinds ++ more) stop
stops_before kinds more (Rejected r) is = before kinds more r.fault.cause is
stops_before kinds more StoreFailed is = tt
stops_before kinds more NoMemory is = tt

pub stops_behind : (more kinds : List Kind) (stop : Stop) → StopsFor kinds stop → StopsFor (more ++ kinds) stop
stops_behind more kinds (Rejected r) is = behind more kinds r.fault.cause is
stops_behind more kinds StoreFailed is = tt
stops_behind more kinds NoMemory is = tt

pub behind_all : {A : Type 0} (more kinds : List Kind) (r : Result A Stop) → IfErr r (StopsFor kinds) → IfErr r (StopsFor (more ++ kinds))
behind_all more kinds (Ok x) is = tt
behind_all more kinds (Err stop) is = stops_behind more kinds stop is

-- a file that is rejected for a cause
pub stops_for : (kinds : List Kind) (cause : Cause) (stop : Stop) (P : Fault → List ℕ → Type 0) → (IsRealCause cause → IsOneOf kinds cause)
    → ((fault : Fault) (line : List ℕ) → P fault line → (fault.cause ≡ cause) × IsRealCause cause) → IfStopped stop P → StopsFor kinds stop
stops_for kinds cause (Rejected r) P is has h =
    let known = has r.fault r.line.items h in subst (IsOneOf kinds) (sym known.0) (is known.1)
stops_for kinds cause StoreFailed P is has h = tt
stops_for kinds cause NoMemory P is has h = tt

-- a build file that is rejected for its form, or for any reason
pub of_form : (fault : LinkFault) (Q : ℕ → Type 0) → (fault ≢ links.NoMemory → (line : ℕ) × (fault ≡ links.Form line) × Q line)
    → IsRealCause (causes.Link fault) → IsOneOf (OfBuild ∷ []) (causes.Link fault)
of_form fault Q is real = let found = is real in inl (ap kind_of_link found.1)

pub of_any_link : (fault : LinkFault) → IsOneOf (OfBuild ∷ OfWeight ∷ OfSize ∷ []) (causes.Link fault)
of_any_link (links.TooHeavy weight) = inr (inl refl)
of_any_link (links.TooLarge size ports) = inr (inr (inl refl))
of_any_link fault = inl refl
