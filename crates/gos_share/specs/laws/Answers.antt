-- What the early firings of a Share put: answers alone, by the branch n. They leave the state as it is.
--
-- Read first: Rows. The handshakes of the branch's caller begin at h + n * h, and those of the other one at l.
use Rattle.std.proofs.Common.{◌≡◌, ℕ, suc, ◌+◌, ◌≤◌, Bool, true, false, List, [], ◌∷◌, refl, sym, ◌∙◌, ap, subst, arith}
use Rattle.std.specs.Prelude.{◌≢◌, ◌<◌, nat_eq}
use Rattle.gos_types.specs.Types.{Type'}
use Rattle.gos_plan.specs.Kinds.{Share}
use Rattle.gos_plan.specs.Firing.{Rest, State, Slot, Req, Ans, Token, at, put}
use Rattle.gos_plan.specs.Firings.{due, value_due, Asked, Fires, times}
use Rattle.gos_macro.specs.laws.Passing.{repeated}
use Rattle.gos_share.specs.laws.Rows.{count_of, branch_side, Turn, first_asks, second_asks, source_answers, source_asks, branch_answers, turn}

-- m tokens go out at handshake d, with the sum a
abbrev pub Puts : ℕ → ℕ → ℕ → List Token → Type 0
Puts d m a ts = (due d ts ≡ m) × (value_due d ts ≡ a)

-- both tests are of the same answer
pub same_test : (a b c d : ℕ) → (a ≡ b → c ≡ d) → (c ≡ d → a ≡ b) → nat_eq a b ≡ nat_eq c d
same_test a b c d to back = by_tests (nat_eq a b) (nat_eq c d) refl refl
  where
    by_tests : (p q : Bool) → nat_eq a b ≡ p → nat_eq c d ≡ q → nat_eq a b ≡ nat_eq c d
    by_tests true true e f = e ∙ sym f
    by_tests false false e f = e ∙ sym f
    by_tests true false e f = absurd (let here : a ≡ b = grind (arith, e) in let there = to here in grind (arith, f, there))
    by_tests false true e f = absurd (let here : c ≡ d = grind (arith, f) in let there = back here in grind (arith, e, there))

-- no two numbers that differ are tested as one
pub no_test : (a b : ℕ) → a ≢ b → nat_eq a b ≡ false
no_test a b apart = by_test (nat_eq a b) refl
  where
    by_test : (p : Bool) → nat_eq a b ≡ p → nat_eq a b ≡ false
    by_test false e = e
    by_test true e = absurd (let here : a ≡ b = grind (arith, e) in apart here)

-- an answer that is taken at m is put at e: it counts at d where it counts at j
abbrev Taken : ℕ → ℕ → (ℕ → ℕ) → List Slot → List Token → Type 0
Taken d j x ss ts = Puts d (times (Ans j) ss) (repeated (times (Ans j) ss) (x j)) ts

one_more : (d e m j : ℕ) (x : ℕ → ℕ) (ss : List Slot) (ts : List Token) → nat_eq e d ≡ nat_eq m j → Taken d j x ss ts
    → Taken d j x (Ans m ∷ ss) (put (Ans e) (x m) ∷ ts)
one_more d e m j x ss ts same ih = by_test (nat_eq m j) refl
  where
    by_test : (p : Bool) → nat_eq m j ≡ p → Taken d j x (Ans m ∷ ss) (put (Ans e) (x m) ∷ ts)
    by_test true here =
        let is : m ≡ j = grind (arith, here) in
        rw (same, here) (ap suc ih.0, (λ i. x (is i) + ih.1 i))
    by_test false here = rw (same, here) ih

-- an answer that is put at another handshake doesn't count
none_more : (d e a : ℕ) (ts : List Token) → nat_eq e d ≡ false → Puts d 0 0 ts → Puts d 0 0 (put (Ans e) a ∷ ts)
none_more d e a ts other ih = rw other ih

no_more : (m j : ℕ) (ss : List Slot) → nat_eq m j ≡ false → times (Ans j) ss ≡ 0 → times (Ans j) (Ans m ∷ ss) ≡ 0
no_more m j ss other ih = rw other ih

-- what a list of answers puts: h handshakes, k the side of the branch's caller, and l that of the other
pub record Answered (h k l n : ℕ) (x : ℕ → ℕ) (fs : List Slot) (r : State) (ts : List Token) : Type 0 where
  pub state : r ≡ at Rest n
  pub to_caller : (j : ℕ) → j < h → Puts (k + j) (times (Ans j) fs) (repeated (times (Ans j) fs) (x j)) ts
  pub to_source : (j : ℕ) → j < h → Puts j (times (Ans (k + j)) fs) (repeated (times (Ans (k + j)) fs) (x (k + j))) ts
  pub to_other : (j : ℕ) → j < h → Puts (l + j) 0 0 ts
  pub by_other : (j : ℕ) → j < h → times (Ans (l + j)) fs ≡ 0

-- two sides behind the source's, which have no handshake in common
pub record AreSides (h k l : ℕ) : Type 0 where
  pub near : h ≤ k
  pub far : h ≤ l
  pub apart : (m j : ℕ) → m < h → j < h → k + m ≢ l + j

pub answers : (t : Type') (x : ℕ → ℕ) (n l : ℕ) (o : Asked) (fs : List Slot) (p : Asked) (r : State) (ts : List Token)
    → AreSides (count_of t) (branch_side (count_of t) n) l → ((m : ℕ) → times (Req m) fs ≡ 0)
    → Fires (Share t) x o (at Rest n) fs p r ts → Answered (count_of t) (branch_side (count_of t) n) l n x fs r ts
answers t x n l o [] p r ts sides none (e, same, nothing) =
    rw (same, nothing)
    record {
      state = refl;
      to_caller = λ j there. (refl, refl);
      to_source = λ j there. (refl, refl);
      to_other = λ j there. (refl, refl);
      by_other = λ j there. refl;
    }
answers t x n l o (s ∷ ss) p r ts sides none fires =
    by_turn (turn t x o n s ss p r ts fires) (λ q us none_behind. answers t x n l q ss p r us sides none_behind)
  where
    k : ℕ
    k = branch_side (count_of t) n

    h : ℕ
    h = count_of t

    no_request : (m : ℕ) → s ≡ Req m → ⊥
    no_request m is = let wrong = subst (λ (c : Slot). times (Req m) (c ∷ ss) ≡ 0) is (none m) in grind (arith, wrong)

    behind : (m : ℕ) → s ≡ Ans m → (e : ℕ) → times (Req e) ss ≡ 0
    behind m is e = subst (λ (c : Slot). times (Req e) (c ∷ ss) ≡ 0) is (none e)

    by_turn : Turn t x o n s ss p r ts
        → ((q : Asked) (us : List Token) → ((m : ℕ) → times (Req m) ss ≡ 0) → Fires (Share t) x q (at Rest n) ss p r us → Answered h k l n x ss r us)
        → Answered h k l n x (s ∷ ss) r ts
    by_turn (first_asks m there e) ih = absurd (no_request (h + m) e.is)
    by_turn (second_asks m there e) ih = absurd (no_request (h + h + m) e.is)
    by_turn (source_asks m there e) ih = absurd (no_request m e.is)
    by_turn (source_answers m there e) ih =
        let known = ih _ e.rest (behind m e.is) e.go in
        let near = sides.near in
        let far = sides.far in
        rw (e.is, e.puts)
        record {
          state = known.state;
          to_caller = λ j small. one_more (k + j) (k + m) m j x ss e.rest (same_test (k + m) (k + j) m j (λ f. omega (arith, f)) (λ f. omega (arith, f))) (known.to_caller j small);
          to_source = λ j small. one_more j (k + m) m (k + j) x ss e.rest (same_test (k + m) j m (k + j) (λ f. absurd (omega (arith, f, near, small))) (λ f. absurd (omega (arith, f, near, there)))) (known.to_source j small);
          to_other = λ j small. none_more (l + j) (k + m) (x m) e.rest (no_test (k + m) (l + j) (sides.apart m j there small)) (known.to_other j small);
          by_other = λ j small. no_more m (l + j) ss (no_test m (l + j) (λ f. omega (arith, f, far, there))) (known.by_other j small);
        }
    by_turn (branch_answers m there e) ih =
        let known = ih _ e.rest (behind (k + m) e.is) e.go in
        let near = sides.near in
        let far = sides.far in
        rw (e.is, e.puts)
        record {
          state = known.state;
          to_caller = λ j small. one_more (k + j) m (k + m) j x ss e.rest (same_test m (k + j) (k + m) j (λ f. absurd (omega (arith, f, near, there))) (λ f. absurd (omega (arith, f, near, small)))) (known.to_caller j small);
          to_source = λ j small. one_more j m (k + m) (k + j) x ss e.rest (same_test m j (k + m) (k + j) (λ f. omega (arith, f)) (λ f. omega (arith, f))) (known.to_source j small);
          to_other = λ j small. none_more (l + j) m (x (k + m)) e.rest (no_test m (l + j) (λ f. omega (arith, f, far, there))) (known.to_other j small);
          by_other = λ j small. no_more (k + m) (l + j) ss (no_test (k + m) (l + j) (sides.apart m j there small)) (known.by_other j small);
        }
