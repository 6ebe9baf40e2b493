-- What a choice puts, by the tokens that it takes.
--
-- Read first: Choice. A firing takes one token and puts one, so that the counts of both are the same.
use Rattle.std.proofs.Common.{◌≡◌, ℕ, suc, ◌+◌, Bool, true, false, List, [], ◌∷◌, refl, ◌∙◌, ap, arith}
use Rattle.std.specs.Prelude.{nat_eq, if◌then◌else◌}
use Rattle.gos_plan.specs.Kinds.{If}
use Rattle.gos_plan.specs.Firing.{Phase, Rest, Test, Branch, State, Slot, Req, Ans, Token, Row, row, at, put, chosen}
use Rattle.gos_plan.specs.Firings.{due, value_due, Asked, Fires, times}
use Rattle.gos_plan.specs.laws.Inversion.{by_one_row}
use Rattle.gos_macro.specs.laws.Passing.{repeated}
use Rattle.gos_control.specs.laws.Pulses.{to_no_side, one_more, one_less}
use Rattle.gos_control.specs.Choice.{IsChoicePhase}

-- the rows of a choice; handshake h is that of the part that was chosen
abbrev rest_row : ℕ → Row
rest_row n = row (Req 3) (at Test n) (λ v. put (Req 0) 0)

abbrev test_row : Row
test_row = record { takes = Ans 0; next = λ v. at Branch v; puts = λ v. chosen v (put (Req 1) 0) (put (Req 2) 0) ∷ [] }

abbrev branch_row : ℕ → ℕ → Row
branch_row n h = row (Ans h) (at Rest n) (put (Ans 3))

-- what a list of firings puts, by the tokens that it takes
pub record ChoiceCounts (x : ℕ → ℕ) (fs : List Slot) (r : State) (ts : List Token) : Type 0 where
  pub phase : IsChoicePhase r.phase
  pub to_test : due 0 ts ≡ times (Req 3) fs
  pub to_first : due 1 ts ≡ (if nat_eq (x 0) 1 then times (Ans 0) fs else 0)
  pub to_second : due 2 ts ≡ (if nat_eq (x 0) 1 then 0 else times (Ans 0) fs)
  pub answers : due 3 ts ≡ times (Ans 1) fs + times (Ans 2) fs
  pub value : value_due 3 ts ≡ repeated (times (Ans 1) fs) (x 1) + repeated (times (Ans 2) fs) (x 2)

nothing : (x : ℕ → ℕ) (q : State) → IsChoicePhase q.phase → ChoiceCounts x [] q []
nothing x q a =
    let none = to_no_side (nat_eq (x 0) 1) 0 refl in
    record { phase = a; to_test = refl; to_first = none.0; to_second = none.1; answers = refl; value = refl }

-- the request that an answer of the test puts, before others
after_test : (t : Bool) (ts : List Token)
    → (due 0 ((if t then put (Req 1) 0 else put (Req 2) 0) ∷ ts) ≡ due 0 ts)
    × (due 1 ((if t then put (Req 1) 0 else put (Req 2) 0) ∷ ts) ≡ (if t then suc (due 1 ts) else due 1 ts))
    × (due 2 ((if t then put (Req 1) 0 else put (Req 2) 0) ∷ ts) ≡ (if t then due 2 ts else suc (due 2 ts)))
    × (due 3 ((if t then put (Req 1) 0 else put (Req 2) 0) ∷ ts) ≡ due 3 ts)
    × (value_due 3 ((if t then put (Req 1) 0 else put (Req 2) 0) ∷ ts) ≡ value_due 3 ts)
after_test true ts = (refl, refl, refl, refl, refl)
after_test false ts = (refl, refl, refl, refl, refl)

-- one more on the left, or on the right
on_left : (a b c : ℕ) → a + (b + c) ≡ (a + b) + c
on_left a b c = omega arith

on_right : (a b c : ℕ) → a + (b + c) ≡ b + (a + c)
on_right a b c = omega arith

counted_left : (a b : ℕ) → suc (a + b) ≡ suc a + b
counted_left a b = omega arith

counted_right : (a b : ℕ) → suc (a + b) ≡ a + suc b
counted_right a b = omega arith

pub choice_counts : (u : ℕ) (x : ℕ → ℕ) (p : Phase) (n : ℕ) (o : Asked) (fs : List Slot) (o' : Asked) (r : State) (ts : List Token) → IsChoicePhase p
    → Fires (If u) x o (at p n) fs o' r ts → ChoiceCounts x fs r ts
choice_counts u x Rest n o [] o' r ts a (c, e, f) = rw (e, f) (nothing x (at Rest n) tt)
choice_counts u x Test n o [] o' r ts a (c, e, f) = rw (e, f) (nothing x (at Test n) tt)
choice_counts u x Branch n o [] o' r ts a (c, e, f) = rw (e, f) (nothing x (at Branch n) tt)
choice_counts u x Rest n o (s ∷ ss) o' r ts a h =
    let e = by_one_row (If u) x o (at Rest n) (rest_row n) s ss o' r ts refl h in
    let ih = choice_counts u x Test n _ ss o' r e.rest tt e.go in
    rw (e.is, e.puts) (
    record { phase = ih.phase; to_test = ap suc ih.to_test; to_first = ih.to_first; to_second = ih.to_second; answers = ih.answers; value = ih.value }
    )
choice_counts u x Test n o (s ∷ ss) o' r ts a h =
    let e = by_one_row (If u) x o (at Test n) test_row s ss o' r ts refl h in
    let ih = choice_counts u x Branch (x 0) _ ss o' r e.rest tt e.go in
    let test = after_test (nat_eq (x 0) 1) e.rest in
    rw (e.is, e.puts) (
    record {
      phase = ih.phase;
      to_test = test.0 ∙ ih.to_test;
      to_first = test.1 ∙ one_more (nat_eq (x 0) 1) (due 1 e.rest) (times (Ans 0) ss) ih.to_first;
      to_second = test.2 ∙ one_less (nat_eq (x 0) 1) (due 2 e.rest) (times (Ans 0) ss) ih.to_second;
      answers = test.3 ∙ ih.answers;
      value = test.4 ∙ ih.value;
    }
    )
choice_counts u x Branch n o (s ∷ ss) o' r ts a h = by_test (nat_eq n 1) refl (λ p q vs. choice_counts u x Rest n p ss q r vs tt)
  where
    by_test : (t : Bool) → nat_eq n 1 ≡ t → ((p q : Asked) (vs : List Token) → Fires (If u) x p (at Rest n) ss q r vs → ChoiceCounts x ss r vs)
        → ChoiceCounts x (s ∷ ss) r ts
    by_test true is behind =
        let e = by_one_row (If u) x o (at Branch n) (branch_row n 1) s ss o' r ts (λ j. branch_row n (if is j then 1 else 2) ∷ []) h in
        let ih = behind _ o' e.rest e.go in
        rw (e.is, e.puts) (
        record {
          phase = ih.phase;
          to_test = ih.to_test;
          to_first = ih.to_first;
          to_second = ih.to_second;
          answers = ap suc ih.answers ∙ counted_left (times (Ans 1) ss) (times (Ans 2) ss);
          value = ap (λ (m : ℕ). x 1 + m) ih.value ∙ on_left (x 1) (repeated (times (Ans 1) ss) (x 1)) (repeated (times (Ans 2) ss) (x 2));
        }
        )
    by_test false is behind =
        let e = by_one_row (If u) x o (at Branch n) (branch_row n 2) s ss o' r ts (λ j. branch_row n (if is j then 1 else 2) ∷ []) h in
        let ih = behind _ o' e.rest e.go in
        rw (e.is, e.puts) (
        record {
          phase = ih.phase;
          to_test = ih.to_test;
          to_first = ih.to_first;
          to_second = ih.to_second;
          answers = ap suc ih.answers ∙ counted_right (times (Ans 1) ss) (times (Ans 2) ss);
          value = ap (λ (m : ℕ). x 2 + m) ih.value ∙ on_right (x 2) (repeated (times (Ans 1) ss) (x 1)) (repeated (times (Ans 2) ss) (x 2));
        }
        )
choice_counts u x p n o fs o' r ts a h = absurd a
