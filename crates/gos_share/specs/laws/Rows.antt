-- By which row a firing of a Share is, in the branch n: one of five kinds, each at a handshake m of its type.
--
-- Read first: Firing and Inversion of gos_plan.
use Rattle.std.proofs.Common.{◌≡◌, inl, inr, ℕ, suc, ◌+◌, ◌*◌, ◌≤◌, List, [], ◌∷◌, ◌++◌, Some, arith}
use Rattle.std.specs.Prelude.{◌<◌, length}
use Rattle.gos_types.specs.declared.shakes.Role.{Role}
use Rattle.gos_types.specs.declared.shakes.Role.TheVariants.{Serve, Ask}
use Rattle.gos_types.specs.Types.{Type'}
use Rattle.gos_plan.specs.Kinds.{Share, Contact, contacts_of}
use Rattle.gos_plan.specs.Firing.{Rest, State, Slot, Req, Ans, Token, Row, row, at, put, shared_rows, share_rows, row_for}
use Rattle.gos_plan.specs.Tokens.{shake_of}
use Rattle.gos_plan.specs.Firings.{Asked, after_taking, after_putting, PutsWell, Fires}
use Rattle.gos_plan.specs.laws.Inversion.{Stepped, stepped, first_or_later, no_row}

-- how many handshakes the type has
abbrev pub count_of : Type' → ℕ
count_of t = length (contacts_of t)

-- where the handshakes of the branch's caller begin
abbrev pub branch_side : ℕ → ℕ → ℕ
branch_side h n = h + n * h

abbrev pub first_row : ℕ → ℕ → Row
first_row h m = row (Req (h + m)) (at Rest 0) (put (Req m))

abbrev pub second_row : ℕ → ℕ → Row
second_row h m = row (Req (h + h + m)) (at Rest 1) (put (Req m))

abbrev pub answer_row : ℕ → ℕ → ℕ → Row
answer_row h n m = row (Ans m) (at Rest n) (put (Ans (h + n * h + m)))

abbrev pub request_row : ℕ → ℕ → ℕ → Row
request_row h n m = row (Req m) (at Rest n) (put (Req (h + n * h + m)))

abbrev pub back_row : ℕ → ℕ → ℕ → Row
back_row h n m = row (Ans (h + n * h + m)) (at Rest n) (put (Ans m))

-- the first firing of a list: what it leaves, by its row
pub data Turn (t : Type') (x : ℕ → ℕ) (o : Asked) (n : ℕ) (s : Slot) (ss : List Slot) (p : Asked) (q : State) (ts : List Token) : Type 0 where
  first_asks : (m : ℕ) → m < count_of t → Stepped (Share t) x o (first_row (count_of t) m) s ss p q ts → Turn t x o n s ss p q ts
  second_asks : (m : ℕ) → m < count_of t → Stepped (Share t) x o (second_row (count_of t) m) s ss p q ts → Turn t x o n s ss p q ts
  source_answers : (m : ℕ) → m < count_of t → Stepped (Share t) x o (answer_row (count_of t) n m) s ss p q ts → Turn t x o n s ss p q ts
  source_asks : (m : ℕ) → m < count_of t → Stepped (Share t) x o (request_row (count_of t) n m) s ss p q ts → Turn t x o n s ss p q ts
  branch_answers : (m : ℕ) → m < count_of t → Stepped (Share t) x o (back_row (count_of t) n m) s ss p q ts → Turn t x o n s ss p q ts

-- the row of a token among those of the handshakes from j on
by_rows : (t : Type') (x : ℕ → ℕ) (o : Asked) (n : ℕ) (s : Slot) (ss : List Slot) (p : Asked) (q : State) (ts : List Token) (w : Row) (us : List Token)
    → PutsWell (w.puts (x (shake_of s))) (after_taking s o) → ts ≡ w.puts (x (shake_of s)) ++ us
    → Fires (Share t) x (after_putting (w.puts (x (shake_of s))) (after_taking s o)) (w.next (x (shake_of s))) ss p q us
    → (ks : List Contact) (j : ℕ) → j + length ks ≤ count_of t → row_for s (share_rows ks (count_of t) j n) ≡ Some w → Turn t x o n s ss p q ts
by_rows t x o n s ss p q ts w us well puts go [] j within f = absurd (no_row w s f)
by_rows t x o n s ss p q ts w us well puts go (k ∷ ks) j within f =
    by_role k.role (by_rows t x o n s ss p q ts w us well puts go ks (suc j) (omega (arith, within))) f
  where
    step : (r : Row) → r.takes ≡ s → r ≡ w → Stepped (Share t) x o r s ss p q ts
    step r takes is = stepped (Share t) x o r w s ss p q ts us takes is well puts go

    there : j < count_of t
    there = omega (arith, within)

    by_role : (r : Role) → (row_for s (share_rows ks (count_of t) (suc j) n) ≡ Some w → Turn t x o n s ss p q ts)
        → row_for s (shared_rows r (count_of t) j n ++ share_rows ks (count_of t) (suc j) n) ≡ Some w → Turn t x o n s ss p q ts
    by_role Serve ih e =
        elim (first_or_later (first_row (count_of t) j) w (second_row (count_of t) j ∷ answer_row (count_of t) n j ∷ share_rows ks (count_of t) (suc j) n) s e) [
          | inl h ↦ first_asks j there (step (first_row (count_of t) j) h.0 h.1)
          | inr e2 ↦
              (elim (first_or_later (second_row (count_of t) j) w (answer_row (count_of t) n j ∷ share_rows ks (count_of t) (suc j) n) s e2) [
                | inl h ↦ second_asks j there (step (second_row (count_of t) j) h.0 h.1)
                | inr e3 ↦
                    (elim (first_or_later (answer_row (count_of t) n j) w (share_rows ks (count_of t) (suc j) n) s e3) [
                      | inl h ↦ source_answers j there (step (answer_row (count_of t) n j) h.0 h.1)
                      | inr later ↦ ih later
                    ])
              ])
        ]
    by_role Ask ih e =
        elim (first_or_later (request_row (count_of t) n j) w (back_row (count_of t) n j ∷ share_rows ks (count_of t) (suc j) n) s e) [
          | inl h ↦ source_asks j there (step (request_row (count_of t) n j) h.0 h.1)
          | inr e2 ↦
              (elim (first_or_later (back_row (count_of t) n j) w (share_rows ks (count_of t) (suc j) n) s e2) [
                | inl h ↦ branch_answers j there (step (back_row (count_of t) n j) h.0 h.1)
                | inr later ↦ ih later
              ])
        ]

pub turn : (t : Type') (x : ℕ → ℕ) (o : Asked) (n : ℕ) (s : Slot) (ss : List Slot) (p : Asked) (q : State) (ts : List Token)
    → Fires (Share t) x o (at Rest n) (s ∷ ss) p q ts → Turn t x o n s ss p q ts
turn t x o n s ss p q ts (w, us, f, well, puts, go) =
    by_rows t x o n s ss p q ts w us well puts go (contacts_of t) 0 (omega arith) f
