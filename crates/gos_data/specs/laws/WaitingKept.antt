-- What a part puts that waits for one number.
--
-- Read first: Waiting; Passing; Inversion of gos_plan.
use Rattle.std.proofs.Common.{◌≡◌, ℕ, suc, ◌+◌, List, [], ◌∷◌, sym, ap, subst}
use Rattle.gos_plan.specs.Kinds.{Part}
use Rattle.gos_plan.specs.Firing.{Phase, Rest, Waiting, State, Slot, Req, Ans, Token, Row, rows, row, at, put}
use Rattle.gos_plan.specs.Firings.{due, value_due, Asked, Fires, times}
use Rattle.gos_plan.specs.laws.Inversion.{by_one_row}
use Rattle.gos_macro.specs.laws.Passing.{repeated}
use Rattle.gos_data.specs.Waiting.{IsWaitingPhase}

-- the rows, where f computes the answer
abbrev rest_row : ℕ → Row
rest_row n = row (Req 1) (at Waiting n) (λ v. put (Req 0) 0)

abbrev waiting_row : (ℕ → ℕ) → ℕ → Row
waiting_row f n = row (Ans 0) (at Rest n) (λ a. put (Ans 1) (f a))

abbrev pub WaitsForOne : Part → (ℕ → ℕ) → Type 0
WaitsForOne k f = (n : ℕ) → (rows k Rest n ≡ rest_row n ∷ []) × (rows k Waiting n ≡ waiting_row f n ∷ [])

-- what a list of firings puts, and where it leads, where a is answered
pub record Counts (a : ℕ) (fs : List Slot) (r : State) (ts : List Token) : Type 0 where
  pub asked : due 0 ts ≡ times (Req 1) fs
  pub answered : due 1 ts ≡ times (Ans 0) fs
  pub number : value_due 1 ts ≡ repeated (times (Ans 0) fs) a
  pub phase : IsWaitingPhase r.phase

no_firing : (a : ℕ) (q r : State) (ts : List Token) → IsWaitingPhase q.phase → r ≡ q → ts ≡ [] → Counts a [] r ts
no_firing a q r ts phase same none =
    record {
      asked = ap (due 0) none;
      answered = ap (due 1) none;
      number = ap (value_due 1) none;
      phase = subst (λ (s : State). IsWaitingPhase s.phase) (sym same) phase;
    }

pub counts : (k : Part) (f x : ℕ → ℕ) (p : Phase) (o : Asked) (n : ℕ) (fs : List Slot) (o' : Asked) (r : State) (ts : List Token)
    → WaitsForOne k f → IsWaitingPhase p → Fires k x o (at p n) fs o' r ts → Counts (f (x 0)) fs r ts
counts k f x Rest o n [] o' r ts waits phase (h, same, none) = no_firing _ (at Rest n) r ts tt same none
counts k f x Waiting o n [] o' r ts waits phase (h, same, none) = no_firing _ (at Waiting n) r ts tt same none
counts k f x Rest o n (s ∷ ss) o' r ts waits phase fires =
    let e = by_one_row k x o (at Rest n) (rest_row n) s ss o' r ts (waits n).0 fires in
    let ih = counts k f x Waiting _ n ss o' r e.rest waits tt e.go in
    rw (e.is, e.puts) record { asked = ap suc ih.asked; answered = ih.answered; number = ih.number; phase = ih.phase }
counts k f x Waiting o n (s ∷ ss) o' r ts waits phase fires =
    let e = by_one_row k x o (at Waiting n) (waiting_row f n) s ss o' r ts (waits n).1 fires in
    let ih = counts k f x Rest _ n ss o' r e.rest waits tt e.go in
    rw (e.is, e.puts)
    record {
      asked = ih.asked;
      answered = ap suc ih.answered;
      number = ap (λ (m : ℕ). f (x 0) + m) ih.number;
      phase = ih.phase;
    }
counts k f x p o n fs o' r ts waits phase fires = absurd phase
