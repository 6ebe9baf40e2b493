-- Inversion of a list of firings: by which row the first one is, where a state has one row, two or three.
--
-- Read first: Law. These lemmas stand here since an `impl` of `Macro` cites lemmas of `specs` alone.
use Rattle.std.proofs.Common.{◌≡◌, inl, inr, ◌⊎◌, ℕ, zero, suc, ◌≤◌, Bool, true, false, List, [], ◌∷◌, ◌++◌, Some, refl, sym, subst, arith}
use Rattle.std.specs.Prelude.{bit_or}
use Rattle.gos_plan.specs.Kinds.{Part}
use Rattle.gos_plan.specs.Firing.{Rest, State, Slot, Req, Ans, Token, Row, rows, at, same_slot, row_for}
use Rattle.gos_plan.specs.Tokens.{shake_of}
use Rattle.gos_plan.specs.Firings.{Asked, after_taking, after_putting, PutsWell, Fires}

pub same : (a b : Slot) → same_slot a b ≡ true → a ≡ b
same (Req h) (Req j) e = grind (arith, e)
same (Req h) (Ans j) e = grind (arith, e)
same (Ans h) (Req j) e = grind (arith, e)
same (Ans h) (Ans j) e = grind (arith, e)

-- the row of a token among several: the first, or one of the others
pub first_or_later : (r w : Row) (rs : List Row) (s : Slot) → row_for s (r ∷ rs) ≡ Some w → ((r.takes ≡ s) × (r ≡ w)) ⊎ (row_for s rs ≡ Some w)
first_or_later r w rs s e = by_test (same_slot r.takes s) refl
  where
    by_test : (t : Bool) → same_slot r.takes s ≡ t → ((r.takes ≡ s) × (r ≡ w)) ⊎ (row_for s rs ≡ Some w)
    by_test true h = inl (same r.takes s h, grind (arith, h, e))
    by_test false h = inr (grind (arith, h, e))

pub no_row : (w : Row) (s : Slot) → row_for s [] ≡ Some w → ⊥
no_row w s e = cc e

-- what a first firing by this row leaves
pub record Stepped (k : Part) (x : ℕ → ℕ) (o : Asked) (r : Row) (s : Slot) (ss : List Slot) (p : Asked) (q : State) (ts : List Token) : Type 0 where
  pub is : s ≡ r.takes
  pub rest : List Token
  pub well : PutsWell (r.puts (x (shake_of r.takes))) (after_taking r.takes o)
  pub puts : ts ≡ r.puts (x (shake_of r.takes)) ++ rest
  pub go : Fires k x (after_putting (r.puts (x (shake_of r.takes))) (after_taking r.takes o)) (r.next (x (shake_of r.takes))) ss p q rest

pub stepped : (k : Part) (x : ℕ → ℕ) (o : Asked) (r w : Row) (s : Slot) (ss : List Slot) (p : Asked) (q : State) (ts us : List Token) → r.takes ≡ s → r ≡ w
    → PutsWell (w.puts (x (shake_of s))) (after_taking s o) → ts ≡ w.puts (x (shake_of s)) ++ us
    → Fires k x (after_putting (w.puts (x (shake_of s))) (after_taking s o)) (w.next (x (shake_of s))) ss p q us → Stepped k x o r s ss p q ts
stepped k x o r w s ss p q ts us a e well puts go =
    subst (λ (c : Slot). s ≡ c → Stepped k x o r s ss p q ts) (sym a) (λ here. whole) (sym a)
  where
    at_slot : (c : Slot) → c ≡ s → PutsWell (r.puts (x (shake_of c))) (after_taking c o) × (ts ≡ r.puts (x (shake_of c)) ++ us)
        × Fires k x (after_putting (r.puts (x (shake_of c))) (after_taking c o)) (r.next (x (shake_of c))) ss p q us
    at_slot c same =
        subst (λ (d : Slot). PutsWell (r.puts (x (shake_of d))) (after_taking d o) × (ts ≡ r.puts (x (shake_of d)) ++ us) × Fires k x (after_putting (r.puts (x (shake_of d))) (after_taking d o)) (r.next (x (shake_of d))) ss p q us) (sym same)
        (subst (λ (z : Row). PutsWell (z.puts (x (shake_of s))) (after_taking s o) × (ts ≡ z.puts (x (shake_of s)) ++ us) × Fires k x (after_putting (z.puts (x (shake_of s))) (after_taking s o)) (z.next (x (shake_of s))) ss p q us) (sym e) (well, puts, go))

    whole : Stepped k x o r s ss p q ts
    whole = let known = at_slot r.takes a in record { is = sym a; rest = us; well = known.0; puts = known.1; go = known.2 }

-- the first firing of a state with one row
pub by_one_row : (k : Part) (x : ℕ → ℕ) (o : Asked) (q : State) (a : Row) (s : Slot) (ss : List Slot) (p : Asked) (r : State) (ts : List Token)
    → rows k q.phase q.number ≡ a ∷ [] → Fires k x o q (s ∷ ss) p r ts → Stepped k x o a s ss p r ts
by_one_row k x o q a s ss p r ts e (w, us, f, well, puts, go) =
    elim (first_or_later a w [] s (subst (λ (l : List Row). row_for s l ≡ Some w) e f)) [
      | inl h ↦ stepped k x o a w s ss p r ts us h.0 h.1 well puts go
      | inr none ↦ absurd (no_row w s none)
    ]

-- of a state with two
pub by_two_rows : (k : Part) (x : ℕ → ℕ) (o : Asked) (q : State) (a b : Row) (s : Slot) (ss : List Slot) (p : Asked) (r : State) (ts : List Token)
    → rows k q.phase q.number ≡ a ∷ b ∷ [] → Fires k x o q (s ∷ ss) p r ts → Stepped k x o a s ss p r ts ⊎ Stepped k x o b s ss p r ts
by_two_rows k x o q a b s ss p r ts e (w, us, f, well, puts, go) =
    elim (first_or_later a w (b ∷ []) s (subst (λ (l : List Row). row_for s l ≡ Some w) e f)) [
      | inl h ↦ inl (stepped k x o a w s ss p r ts us h.0 h.1 well puts go)
      | inr later ↦
          elim (first_or_later b w [] s later) [
            | inl h ↦ inr (stepped k x o b w s ss p r ts us h.0 h.1 well puts go)
            | inr none ↦ absurd (no_row w s none)
          ]
    ]

-- of a state with three
pub by_three_rows : (k : Part) (x : ℕ → ℕ) (o : Asked) (q : State) (a b c : Row) (s : Slot) (ss : List Slot) (p : Asked) (r : State) (ts : List Token)
    → rows k q.phase q.number ≡ a ∷ b ∷ c ∷ [] → Fires k x o q (s ∷ ss) p r ts
    → Stepped k x o a s ss p r ts ⊎ (Stepped k x o b s ss p r ts ⊎ Stepped k x o c s ss p r ts)
by_three_rows k x o q a b c s ss p r ts e (w, us, f, well, puts, go) =
    elim (first_or_later a w (b ∷ c ∷ []) s (subst (λ (l : List Row). row_for s l ≡ Some w) e f)) [
      | inl h ↦ inl (stepped k x o a w s ss p r ts us h.0 h.1 well puts go)
      | inr later ↦
          elim (first_or_later b w (c ∷ []) s later) [
            | inl h ↦ inr (inl (stepped k x o b w s ss p r ts us h.0 h.1 well puts go))
            | inr last ↦
                elim (first_or_later c w [] s last) [
                  | inl h ↦ inr (inr (stepped k x o c w s ss p r ts us h.0 h.1 well puts go))
                  | inr none ↦ absurd (no_row w s none)
                ]
          ]
    ]

-- a buffer passes a pulse
pub passes : (n : ℕ) → n ≤ 1 → bit_or n n ≡ n
passes zero h = refl
passes (suc zero) h = refl
passes (suc (suc n)) h = absurd (omega (arith, h))

-- a state at rest
pub at_rest : (q : State) → q.phase ≡ Rest → q ≡ at Rest q.number
at_rest q rests = λ i. record { phase = rests i; number = q.number }
