-- What a function returns at the exit of a `?`.
use Rattle.std.proofs.Common.{◌≡◌, ◌≤◌, ◌∙◌, ℕ, List, Result, Ok, Err, ap, subst, sym}
use Rattle.std.specs.Result.{IsErrAnd, IsErrOf}
use Rattle.std.specs.Prelude.{IfErr}
use Rattle.gos_outside.specs.Faults.{Rose, CountsFaults}
use Rattle.gos_command.specs.Ends.{IfStopped}
use Rattle.gos_command.specs.declared.status.Fault.{Fault}
use Rattle.gos_command.specs.declared.stop.Stop.{Stop}
use Rattle.gos_command.proofs.EndLemmas.{of_stopped}

-- the error with which the call failed
pub err_is : {T E : Type 0} {e : E} (r : Result T E) → IsErrAnd r (λ y. y ≡ e) → r ≡ Err e
err_is (Ok x) h = absurd h
err_is (Err y) h = ap Err h

-- so this is the error of the call too
pub failed_as : {T U E : Type 0} {e d : E} (r : Result T E) → IsErrAnd r (λ y. y ≡ e) → IsErrOf r d → IsErrOf {T = U} (Err e) d
failed_as (Ok x) h same = absurd h
failed_as {d = d} (Err y) h same = let is : y ≡ d = cc same in ap Err (sym h ∙ is)

-- and the call's error this one
pub call_failed_as : {T U E : Type 0} {e d : E} (r : Result T E) → IsErrAnd r (λ y. y ≡ e) → IsErrOf {T = U} (Err e) d → IsErrOf r d
call_failed_as (Ok x) h same = absurd h
call_failed_as {e = e} {d = d} (Err y) h same = let is : e ≡ d = cc same in ap Err (h ∙ is)

-- a fact of the stop with which a call failed
pub stopped_as : {T : Type 0} (P Q : Fault → List ℕ → Type 0) (r : Result T Stop) (stop : Stop) → IsErrAnd r (λ y. y ≡ stop)
    → ((fault : Fault) (line : List ℕ) → P fault line → Q fault line) → IfStopped stop P → IfErr r (λ e. IfStopped e Q)
stopped_as P Q (Ok x) stop h f known = absurd h
stopped_as P Q (Err e) stop h f known = subst (λ (s : Stop). IfStopped s Q) (sym h) (of_stopped P Q stop f known)

-- the faults that a call counts are all, where those before it counted none
pub counts_as : {T U E : Type 0} {e d : E} (r : Result T E) (old between new : ℕ) → IsErrAnd r (λ y. y ≡ e) → between ≡ old
    → CountsFaults (IsErrOf {T = U} (Err e) d) between new → CountsFaults (IsErrOf r d) old new
counts_as {U = U} {e = e} {d = d} r old between new h same counts = (
  λ failed. subst (λ (n : ℕ). Rose n new) same (counts.0 (failed_as {U = U} r h failed)),
  λ none. counts.1 (λ failed. none (call_failed_as r h failed)) ∙ same,
  subst (λ (n : ℕ). n ≤ new) same counts.2,
)
