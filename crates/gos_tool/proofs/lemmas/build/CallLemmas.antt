-- The calls of `build` once the build file is read: those of its sources, those that write the circuit, and those of its run.
use Rattle.std.proofs.Common.{◌≡◌, List, Result}
use Rattle.std.specs.Result.{IsErrAnd}
use Rattle.gos_outside.specs.Calls.{Calls, and_all, Ending, Whole, AreMade}
use Rattle.gos_outside.proofs.CallsLemmas.{goes_on}
use Rattle.gos_lex.specs.Lines.{Word}
use Rattle.gos_link.specs.declared.build.Build.{Build}
use Rattle.gos_link.specs.declared.build.Instance.{Instance}
use Rattle.gos_command.specs.Ends.{stop_ending, ending}
use Rattle.gos_command.specs.declared.stop.Stop.{Stop}
use Rattle.gos_command.proofs.EndLemmas.{early, made_of}
use Rattle.gos_tool.specs.Calls.{module_calls, plans_calls, simulation_calls, build_calls}

-- it ends among the sources
pub at_sources : {T : Type 0} (r : Result T Stop) (stop : Stop) (b : Build) (is : List Instance) (old new : Calls) → IsErrAnd r (λ e. e ≡ stop)
    → is ≡ b.instances.items → AreMade (stop_ending stop) (module_calls is) old new → AreMade (ending r) (build_calls b) old new
at_sources r stop b is old new failed same made =
    early r stop (module_calls b.instances.items) (plans_calls b) old new failed (made_of module_calls (stop_ending stop) old new is b.instances.items same made)

-- or it goes on
pub by_sources : (end : Ending) (b : Build) (is : List Instance) (old between new : Calls) → is ≡ b.instances.items → between ≡ and_all old (module_calls is)
    → AreMade end (plans_calls b) between new → AreMade end (build_calls b) old new
by_sources end b is old between new same first made =
    goes_on end (module_calls b.instances.items) (plans_calls b) old between new (made_of module_calls Whole old between is b.instances.items same first) made

-- the files that are named by these words are those that the build names
pub of_names : (end : Ending) (b : Build) (pulses trace : Word) (old new : Calls) → pulses ≡ b.pulses → trace ≡ b.trace
    → AreMade end (simulation_calls pulses trace) old new → AreMade end (simulation_calls b.pulses b.trace) old new
of_names end b pulses trace old new same_pulses same_trace made =
    made_of (λ (p : Word). simulation_calls p b.trace) end old new pulses b.pulses same_pulses
    (made_of (λ (t : Word). simulation_calls pulses t) end old new trace b.trace same_trace made)
