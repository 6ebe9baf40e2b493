-- What the program numbers is what the definition numbers.
use Rattle.std.specs.Prelude.{◌≡◌, ℕ, ◌+◌, ◌≤◌, List, length, IfOk}
use Rattle.std.specs.Prelude as prelude
use Rattle.std.proofs.Common.{arith, subst}
use Rattle.std.proofs.lemmas.Result.{IfOk-weaker}
use Rattle.gos_check.specs.declared.fault.CheckFault.{CheckFault}
use Rattle.gos_check.specs.declared.numbering.NumberedTerm.{NumberedTerm}
use Rattle.gos_check.specs.declared.linear.Split.{Split}
use Rattle.gos_check.specs.declared.opens.Open.{Open}
use Rattle.gos_check.specs.Numbering.{Result, inner_splits, inner_names, choice_after, choice_result}
use Rattle.gos_check.specs.inner.NumberedTerms.{Numbers}

-- an answer that is seen as a result is seen as one that is the same
pub numbers_same : (answer : prelude.Result NumberedTerm CheckFault) (found there : Result) → found ≡ there → Numbers found answer → Numbers there answer
numbers_same answer found there same numbers = subst (λ (it : Result). Numbers it answer) same numbers

-- a choice whose test and first branch have these splits and leave these names open together
pub choice_merged : (a b c : Result) (splits : List Split) (names : List Open) → splits ≡ inner_splits a b → names ≡ inner_names a b
    → choice_after splits names a.node b.node c ≡ choice_result a b c
choice_merged a b c splits names h k = λ i. choice_after (h i) (k i) a.node b.node c

-- there is room where there is more than what is needed
pub room_there : (answer : prelude.Result NumberedTerm CheckFault) (most more : ℕ) → most ≤ more
    → IfOk answer (λ r. r.next + length r.names.items ≤ most) → IfOk answer (λ r. r.next + length r.names.items ≤ more)
room_there answer most more h k = IfOk-weaker answer _ _ (λ r it. omega (arith, it, h)) k
