-- What a repeated command puts, by the tokens that it takes.
--
-- Read first: Repeat. A firing takes one token and puts one, so that the counts of both are the same.
use Rattle.std.proofs.Common.{◌≡◌, ℕ, zero, suc, ◌+◌, ◌≤◌, Bool, true, false, List, [], ◌∷◌, refl, sym, ◌∙◌, ap, subst, arith}
use Rattle.std.specs.Prelude.{nat_eq, if◌then◌else◌}
use Rattle.gos_plan.specs.Kinds.{While}
use Rattle.gos_plan.specs.Firing.{Phase, Rest, Test, Body, State, Slot, Req, Ans, Token, Row, row, at, put, chosen}
use Rattle.gos_macro.specs.Gates.{held}
use Rattle.gos_plan.specs.Firings.{due, Asked, Fires, times}
use Rattle.gos_plan.specs.laws.Inversion.{by_one_row}
use Rattle.gos_control.specs.laws.Pulses.{to_no_side, one_more, one_less}
use Rattle.gos_control.specs.Repeat.{IsRepeatPhase}

-- the rows of a repeated command
abbrev rest_row : ℕ → Row
rest_row n = row (Req 2) (at Test n) (λ v. put (Req 0) 0)

abbrev test_row : ℕ → Row
test_row n =
    record {
      takes = Ans 0;
      next = λ v. at (if nat_eq v 1 then Body else Rest) n;
      puts = λ v. chosen v (put (Req 1) 0) (put (Ans 2) 0) ∷ [];
    }

abbrev body_row : ℕ → Row
body_row n = row (Ans 1) (at Test n) (λ v. put (Req 0) 0)

-- what a list of firings puts, by the tokens that it takes
pub record RepeatCounts (x : ℕ → ℕ) (fs : List Slot) (r : State) (ts : List Token) : Type 0 where
  pub phase : IsRepeatPhase r.phase
  pub to_test : due 0 ts ≡ times (Req 2) fs + times (Ans 1) fs
  pub to_body : due 1 ts ≡ (if nat_eq (x 0) 1 then times (Ans 0) fs else 0)
  pub to_caller : due 2 ts ≡ (if nat_eq (x 0) 1 then 0 else times (Ans 0) fs)

nothing : (x : ℕ → ℕ) (q : State) → IsRepeatPhase q.phase → RepeatCounts x [] q []
nothing x q a =
    let none = to_no_side (nat_eq (x 0) 1) 0 refl in
    record { phase = a; to_test = refl; to_body = none.0; to_caller = none.1 }

-- what a test's answer puts, before others, and where it leads
after_test : (t : Bool) (ts : List Token)
    → (due 0 ((if t then put (Req 1) 0 else put (Ans 2) 0) ∷ ts) ≡ due 0 ts)
    × (due 1 ((if t then put (Req 1) 0 else put (Ans 2) 0) ∷ ts) ≡ (if t then suc (due 1 ts) else due 1 ts))
    × (due 2 ((if t then put (Req 1) 0 else put (Ans 2) 0) ∷ ts) ≡ (if t then due 2 ts else suc (due 2 ts)))
after_test true ts = (refl, refl, refl)
after_test false ts = (refl, refl, refl)

side_is : (t : Bool) → IsRepeatPhase (if t then Body else Rest)
side_is true = tt
side_is false = tt

counted_left : (a b : ℕ) → suc (a + b) ≡ suc a + b
counted_left a b = omega arith

counted_right : (a b : ℕ) → suc (a + b) ≡ a + suc b
counted_right a b = omega arith

pub repeat_counts : (x : ℕ → ℕ) (p : Phase) (n : ℕ) (o : Asked) (fs : List Slot) (o' : Asked) (r : State) (ts : List Token) → IsRepeatPhase p
    → Fires While x o (at p n) fs o' r ts → RepeatCounts x fs r ts
repeat_counts x p n o [] o' r ts a (c, e, f) = rw (e, f) (nothing x (at p n) a)
repeat_counts x Rest n o (s ∷ ss) o' r ts a h =
    let e = by_one_row While x o (at Rest n) (rest_row n) s ss o' r ts refl h in
    let ih = repeat_counts x Test n _ ss o' r e.rest tt e.go in
    rw (e.is, e.puts) (
    record {
      phase = ih.phase;
      to_test = ap suc ih.to_test ∙ counted_left (times (Req 2) ss) (times (Ans 1) ss);
      to_body = ih.to_body;
      to_caller = ih.to_caller;
    }
    )
repeat_counts x Test n o (s ∷ ss) o' r ts a h =
    let e = by_one_row While x o (at Test n) (test_row n) s ss o' r ts refl h in
    let ih = repeat_counts x (if nat_eq (x 0) 1 then Body else Rest) n _ ss o' r e.rest (side_is (nat_eq (x 0) 1)) e.go in
    let test = after_test (nat_eq (x 0) 1) e.rest in
    rw (e.is, e.puts) (
    record {
      phase = ih.phase;
      to_test = test.0 ∙ ih.to_test;
      to_body = test.1 ∙ one_more (nat_eq (x 0) 1) (due 1 e.rest) (times (Ans 0) ss) ih.to_body;
      to_caller = test.2 ∙ one_less (nat_eq (x 0) 1) (due 2 e.rest) (times (Ans 0) ss) ih.to_caller;
    }
    )
repeat_counts x Body n o (s ∷ ss) o' r ts a h =
    let e = by_one_row While x o (at Body n) (body_row n) s ss o' r ts refl h in
    let ih = repeat_counts x Test n _ ss o' r e.rest tt e.go in
    rw (e.is, e.puts) (
    record {
      phase = ih.phase;
      to_test = ap suc ih.to_test ∙ counted_right (times (Req 2) ss) (times (Ans 1) ss);
      to_body = ih.to_body;
      to_caller = ih.to_caller;
    }
    )
repeat_counts x p n o fs o' r ts a h = absurd a

-- the command's end, which is late and has the pulse m, leads to a test
pub repeat_asks : (x : ℕ → ℕ) (m : ℕ) (p : Phase) (n : ℕ) (o o' : Asked) (s : State) (us : List Token) → IsRepeatPhase p → m ≤ 1
    → Fires While x o (at p n) (if nat_eq m 1 then Ans 1 ∷ [] else []) o' s us
    → (held (Req 0) m ≡ us) × IsRepeatPhase s.phase × (m ≡ 1 → s.phase ≡ Test)
repeat_asks x zero p n o o' s us a small (c, e, f) =
    (sym f, subst (λ (q : State). IsRepeatPhase q.phase) (sym e) a, λ one. absurd (omega (arith, one)))
repeat_asks x (suc zero) Rest n o o' s us a small h =
    absurd (let e = by_one_row While x o (at Rest n) (rest_row n) (Ans 1) [] o' s us refl h in cc e.is)
repeat_asks x (suc zero) Test n o o' s us a small h =
    absurd (let e = by_one_row While x o (at Test n) (test_row n) (Ans 1) [] o' s us refl h in let no = e.is in grind (arith, no))
repeat_asks x (suc zero) Body n o o' s us a small h =
    let e = by_one_row While x o (at Body n) (body_row n) (Ans 1) [] o' s us refl h in
    rw (e.puts, e.go.2, e.go.1) (refl, tt, λ one. refl)
repeat_asks x (suc zero) p n o o' s us a small h = absurd a
repeat_asks x (suc (suc m)) p n o o' s us a small h = absurd (omega (arith, small))
