-- What two commands that run side by side put, by the tokens that are taken.
--
-- Read first: Par. What is added up is a number for each command, which is 1 where it is done and the other is not.
use Rattle.std.proofs.Common.{◌≡◌, inl, inr, ℕ, suc, ◌+◌, List, [], ◌∷◌, refl, ap, arith}
use Rattle.gos_plan.specs.Kinds.{Par}
use Rattle.gos_plan.specs.Firing.{Phase, Rest, Both, LeftOnly, RightOnly, State, Slot, Req, Ans, Token, Row, row, quiet_row, at, put}
use Rattle.gos_plan.specs.Firings.{due, Asked, Fires, times}
use Rattle.gos_plan.specs.laws.Inversion.{by_one_row, by_two_rows}
use Rattle.gos_control.specs.Par.{ParPhase}

-- the registers of a phase
abbrev pub left_done : Phase → ℕ
left_done RightOnly = 1
left_done p = 0

abbrev pub right_done : Phase → ℕ
right_done LeftOnly = 1
right_done p = 0

abbrev pub IsParPhase : Phase → Type 0
IsParPhase p = ParPhase p (left_done p) (right_done p)

-- what a list of firings puts from a phase on, and where it leads
pub record ParCounts (p : Phase) (fs : List Slot) (r : State) (ts : List Token) : Type 0 where
  pub to_left : due 0 ts ≡ times (Req 2) fs
  pub to_right : due 1 ts ≡ times (Req 2) fs
  pub left : left_done r.phase + due 2 ts ≡ left_done p + times (Ans 0) fs
  pub right : right_done r.phase + due 2 ts ≡ right_done p + times (Ans 1) fs
  pub phase : IsParPhase r.phase

no_firing : (q : State) → IsParPhase q.phase → ParCounts q.phase [] q []
no_firing q a = record { to_left = refl; to_right = refl; left = refl; right = refl; phase = a }

abbrev both_row : ℕ → Row
both_row n = record { takes = Req 2; next = λ v. at Both n; puts = λ v. put (Req 0) 0 ∷ put (Req 1) 0 ∷ [] }

pub par_counts : (x : ℕ → ℕ) (p : Phase) (n : ℕ) (o : Asked) (fs : List Slot) (o' : Asked) (r : State) (ts : List Token) → IsParPhase p
    → Fires Par x o (at p n) fs o' r ts → ParCounts p fs r ts
par_counts x Rest n o [] o' r ts a (c, e, f) = rw (e, f) (no_firing (at Rest n) a)
par_counts x Both n o [] o' r ts a (c, e, f) = rw (e, f) (no_firing (at Both n) a)
par_counts x LeftOnly n o [] o' r ts a (c, e, f) = rw (e, f) (no_firing (at LeftOnly n) a)
par_counts x RightOnly n o [] o' r ts a (c, e, f) = rw (e, f) (no_firing (at RightOnly n) a)
par_counts x Rest n o (s ∷ ss) o' r ts a h =
    let e = by_one_row Par x o (at Rest n) (both_row n) s ss o' r ts refl h in
    let ih = par_counts x Both n _ ss o' r e.rest (refl, refl) e.go in
    rw (e.is, e.puts) (record { to_left = ap suc ih.to_left; to_right = ap suc ih.to_right; left = ih.left; right = ih.right; phase = ih.phase })
par_counts x Both n o (s ∷ ss) o' r ts a h =
    elim (by_two_rows Par x o (at Both n) (quiet_row (Ans 0) (at RightOnly n)) (quiet_row (Ans 1) (at LeftOnly n)) s ss o' r ts refl h) [
      | inl e ↦
          (let ih = par_counts x RightOnly n _ ss o' r e.rest (refl, refl) e.go in
          let left = ih.left in
          let right = ih.right in
          rw (e.is, e.puts)
          (record { to_left = ih.to_left; to_right = ih.to_right; left = omega (arith, left); right = omega (arith, right); phase = ih.phase }))
      | inr e ↦
          (let ih = par_counts x LeftOnly n _ ss o' r e.rest (refl, refl) e.go in
          let left = ih.left in
          let right = ih.right in
          rw (e.is, e.puts)
          (record { to_left = ih.to_left; to_right = ih.to_right; left = omega (arith, left); right = omega (arith, right); phase = ih.phase }))
    ]
par_counts x LeftOnly n o (s ∷ ss) o' r ts a h =
    let e = by_one_row Par x o (at LeftOnly n) (row (Ans 0) (at Rest n) (λ v. put (Ans 2) 0)) s ss o' r ts refl h in
    let ih = par_counts x Rest n _ ss o' r e.rest (refl, refl) e.go in
    let left = ih.left in
    let right = ih.right in
    rw (e.is, e.puts)
    (record { to_left = ih.to_left; to_right = ih.to_right; left = omega (arith, left); right = omega (arith, right); phase = ih.phase })
par_counts x RightOnly n o (s ∷ ss) o' r ts a h =
    let e = by_one_row Par x o (at RightOnly n) (row (Ans 1) (at Rest n) (λ v. put (Ans 2) 0)) s ss o' r ts refl h in
    let ih = par_counts x Rest n _ ss o' r e.rest (refl, refl) e.go in
    let left = ih.left in
    let right = ih.right in
    rw (e.is, e.puts)
    (record { to_left = ih.to_left; to_right = ih.to_right; left = omega (arith, left); right = omega (arith, right); phase = ih.phase })
par_counts x p n o fs o' r ts a h = absurd a
