-- The calls of `demo`: those that write its files, and then those of the build.
use Rattle.std.proofs.Common.{◌≡◌, ◌≢◌, inl, inr, refl, ℕ, List, [], ◌∷◌, ◌++◌, Option, Result, Ok, Err, subst, sym}
use Rattle.std.specs.Result.{IsErrAnd}
use Rattle.gos_outside.specs.Files.{Files}
use Rattle.gos_outside.specs.Calls.{StoreCall, Calls, and_all, Ending, Whole, AreMade}
use Rattle.gos_outside.proofs.CallsLemmas.{ends_before, goes_on}
use Rattle.gos_command.specs.Ends.{stop_ending, ending}
use Rattle.gos_command.specs.declared.stop.Stop.{Stop}
use Rattle.gos_command.specs.declared.stop.Stop.TheVariants as stops
use Rattle.gos_command.proofs.EndLemmas.{not_whole, out_after}
use Rattle.gos_tool.specs.Calls.{read_build_file, write_calls, build_calls, ReadsAs, GoesByBuild}
use Rattle.gos_tool.specs.demo.DemoFiles.{build_file, demo_files}
use Rattle.gos_tool.specs.demo.Demo.{with_files, names_of, CallsOfDemo}

abbrev first_calls : ℕ → List StoreCall
first_calls levels = write_calls (names_of (demo_files levels))

-- an error ends no list of calls
short : {T : Type 0} (r : Result T Stop) (stop : Stop) → IsErrAnd r (λ e. e ≡ stop) → ending r ≢ Whole
short (Ok x) stop same = absurd same
short (Err e) stop same = not_whole e

-- memory runs out before the first
pub out_of_memory : {T : Type 0} (levels : ℕ) (r : Result T Stop) (files : Option Files) (old : Calls) → IsErrAnd r (λ e. e ≡ stops.NoMemory) → CallsOfDemo (ending r) files levels old old
out_of_memory levels r files old out =
    inl (short r stops.NoMemory out, out_after r [] (first_calls levels ++ read_build_file (build_file levels).name ∷ []) old old out refl)

-- a file of the demo isn't written
pub at_files : {T : Type 0} (levels : ℕ) (r : Result T Stop) (stop : Stop) (files : Option Files) (old new : Calls) → IsErrAnd r (λ e. e ≡ stop)
    → AreMade (stop_ending stop) (first_calls levels) old new → CallsOfDemo (ending r) files levels old new
at_files levels (Ok x) stop files old new same made = absurd same
at_files levels (Err e) stop files old new same made =
    inl (
      not_whole e,
      ends_before (stop_ending e) (first_calls levels) (read_build_file (build_file levels).name ∷ []) old new (not_whole e)
          (subst (λ (s : Stop). AreMade (stop_ending s) (first_calls levels) old new) (sym same) made),
    )

-- all are written
pub then_builds : (levels : ℕ) (end : Ending) (files between : Option Files) (old mid new : Calls) → between ≡ with_files (demo_files levels) files
    → mid ≡ and_all old (first_calls levels) → GoesByBuild end [] between (build_file levels).name build_calls mid new → CallsOfDemo end files levels old new
then_builds levels end files between old mid new same made (inl (cut, read)) =
    inl (cut, goes_on end (first_calls levels) (read_build_file (build_file levels).name ∷ []) old mid new made read)
then_builds levels end files between old mid new same made (inr (b, says, calls)) =
    inr (
      b,
      subst (λ (told : Option Files). ReadsAs told (build_file levels).name b) same says,
      goes_on end (first_calls levels) (read_build_file (build_file levels).name ∷ build_calls b) old mid new made calls,
    )
