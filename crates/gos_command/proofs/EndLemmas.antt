-- Facts of results, stops and files that follow from other ones.
use Rattle.std.proofs.Common.{◌≡◌, ◌≢◌, List, ◌++◌, ℕ, Option, Some, None, Result, Ok, Err, refl, sym, subst}
use Rattle.std.specs.Result.{IsErrAnd}
use Rattle.std.specs.Prelude.{IfSome, IfOk, IfErr}
use Rattle.gos_outside.specs.Calls.{StoreCall, Calls, and_all, Ending, Whole, AreMade}
use Rattle.gos_outside.proofs.CallsLemmas.{ends_before, goes_on, stops_short}
use Rattle.gos_command.specs.Ends.{IfStopped, stop_ending, ending}
use Rattle.gos_command.specs.declared.status.Fault.{Fault}
use Rattle.gos_command.specs.declared.stop.Stop.{Stop}
use Rattle.gos_command.specs.declared.stop.Stop.TheVariants.{Rejected, StoreFailed, NoMemory}

-- a fact of a value that may be there
pub of_some : {X : Type 0} (P Q : X → Type 0) (o : Option X) → ((x : X) → P x → Q x) → IfSome o P → IfSome o Q
of_some P Q None f h = tt
of_some P Q (Some x) f h = f x h

-- and from two
pub of_some_both : {X : Type 0} (P R Q : X → Type 0) (o : Option X) → ((x : X) → P x → R x → Q x) → IfSome o P → IfSome o R → IfSome o Q
of_some_both P R Q None f h k = tt
of_some_both P R Q (Some x) f h k = f x h k

-- a fact of the result of a call
pub of_result : {T E : Type 0} (P Q : T → Type 0) (r : Result T E) → ((x : T) → P x → Q x) → IfOk r P → IfOk r Q
of_result P Q (Ok x) f h = f x h
of_result P Q (Err e) f h = tt

pub of_result_both : {T E : Type 0} (P R Q : T → Type 0) (r : Result T E) → ((x : T) → P x → R x → Q x) → IfOk r P → IfOk r R → IfOk r Q
of_result_both P R Q (Ok x) f h k = f x h k
of_result_both P R Q (Err e) f h k = tt

-- a fact of a stop, and of a call that may end with one
pub of_stopped : (P Q : Fault → List ℕ → Type 0) (stop : Stop) → ((fault : Fault) (line : List ℕ) → P fault line → Q fault line) → IfStopped stop P → IfStopped stop Q
of_stopped P Q (Rejected r) f h = f r.fault r.line.items h
of_stopped P Q StoreFailed f h = tt
of_stopped P Q NoMemory f h = tt

pub of_stopped_both : (P R Q : Fault → List ℕ → Type 0) (stop : Stop) → ((fault : Fault) (line : List ℕ) → P fault line → R fault line → Q fault line)
    → IfStopped stop P → IfStopped stop R → IfStopped stop Q
of_stopped_both P R Q (Rejected r) f h k = f r.fault r.line.items h k
of_stopped_both P R Q StoreFailed f h k = tt
of_stopped_both P R Q NoMemory f h k = tt

pub of_stop : {T : Type 0} (P Q : Fault → List ℕ → Type 0) (r : Result T Stop) → ((fault : Fault) (line : List ℕ) → P fault line → Q fault line)
    → IfErr r (λ stop. IfStopped stop P) → IfErr r (λ stop. IfStopped stop Q)
of_stop P Q (Ok x) f h = tt
of_stop P Q (Err stop) f h = of_stopped P Q stop f h

-- A stop is no end of all calls.
pub not_whole : (stop : Stop) → stop_ending stop ≢ Whole
not_whole (Rejected r) = λ e. cc e
not_whole StoreFailed = λ e. cc e
not_whole NoMemory = λ e. cc e

-- a stop after all of some calls, of which none failed
pub stops_after : (stop : Stop) (calls more : List StoreCall) (old new : Calls) → stop ≢ StoreFailed → new ≡ and_all old calls → AreMade (stop_ending stop) (calls ++ more) old new
stops_after (Rejected r) calls more old new other made = stops_short calls more old new made
stops_after StoreFailed calls more old new other made = absurd (other refl)
stops_after NoMemory calls more old new other made = stops_short calls more old new made

-- and a want of memory there
pub out_after : {A : Type 0} (r : Result A Stop) (calls more : List StoreCall) (old new : Calls) → IsErrAnd r (λ e. e ≡ NoMemory) → new ≡ and_all old calls → AreMade (ending r) (calls ++ more) old new
out_after (Ok x) calls more old new out made = absurd out
out_after (Err stop) calls more old new out made = subst (λ (s : Stop). AreMade (stop_ending s) (calls ++ more) old new) (sym out) (stops_short calls more old new made)

-- at the exit of a `?`: the call that failed made the first of the calls, or the last of them
pub early : {T : Type 0} (r : Result T Stop) (stop : Stop) (calls more : List StoreCall) (old new : Calls) → IsErrAnd r (λ e. e ≡ stop) → AreMade (stop_ending stop) calls old new
    → AreMade (ending r) (calls ++ more) old new
early (Ok x) stop calls more old new same made = absurd same
early (Err e) stop calls more old new same made =
    subst (λ (s : Stop). AreMade (stop_ending s) (calls ++ more) old new) (sym same) (ends_before (stop_ending stop) calls more old new (not_whole stop) made)

pub late : {T : Type 0} (r : Result T Stop) (stop : Stop) (calls more : List StoreCall) (old between new : Calls) → IsErrAnd r (λ e. e ≡ stop) → between ≡ and_all old calls
    → AreMade (stop_ending stop) more between new → AreMade (ending r) (calls ++ more) old new
late (Ok x) stop calls more old between new same first made = absurd same
late (Err e) stop calls more old between new same first made =
    subst (λ (s : Stop). AreMade (stop_ending s) (calls ++ more) old new) (sym same) (goes_on (stop_ending stop) calls more old between new first made)

-- calls of what is the same
pub made_of : {A : Type 0} (f : A → List StoreCall) (ending : Ending) (old new : Calls) (a b : A) → a ≡ b → AreMade ending (f a) old new → AreMade ending (f b) old new
made_of f ending old new a b same made = subst (λ x. AreMade ending (f x) old new) same made
