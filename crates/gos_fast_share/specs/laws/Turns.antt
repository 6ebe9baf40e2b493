-- By which row a firing of a Share is, in the branch n: which handshake it puts a token at, and that it leads to the branch that
-- its own handshake sets.
--
-- Read first: Thread; Firing and Inversion of gos_plan.
use Rattle.std.proofs.Common.{◌≡◌, inl, inr, ◌⊎◌, ℕ, zero, suc, ◌+◌, ◌*◌, ◌-◌, ◌≤◌, ◌<◌, true, false, List, [], ◌∷◌, ◌++◌, Some, refl, sym, ◌∙◌, ap, subst, arith}
use Rattle.std.specs.Prelude.{length, nat_lt, if◌then◌else◌}
use Rattle.gos_types.specs.declared.shakes.Role.{Role}
use Rattle.gos_types.specs.declared.shakes.Role.TheVariants.{Serve, Ask}
use Rattle.gos_types.specs.Types.{Type'}
use Rattle.gos_plan.specs.Kinds.{Share, Contact, contacts_of}
use Rattle.gos_plan.specs.Firing.{Rest, State, Slot, Req, Ans, Token, Row, row, at, put, shared_rows, share_rows, row_for}
use Rattle.gos_plan.specs.Tokens.{shake_of}
use Rattle.gos_plan.specs.Firings.{Asked, after_taking, after_putting, PutsWell, Fires}
use Rattle.gos_plan.specs.laws.Inversion.{Stepped, stepped, first_or_later, no_row}
use Rattle.gos_share.specs.laws.Rows.{count_of, first_row, second_row, answer_row, request_row, back_row}
use Rattle.gos_fast_share.specs.Thread.{Nobody, Caller0, Caller1, is_asked, asked_at, asker, set_by}

-- where the handshakes of a caller begin
abbrev pub side : ℕ → ℕ → ℕ
side h c = h + c * h

-- what comes in at e is put at d: from the source to the caller of the branch n, or from a caller to the source
abbrev pub Goes : ℕ → ℕ → ℕ → ℕ → Type 0
Goes h n e d =
    ((m : ℕ) × (m < h) × (e ≡ m) × (d ≡ side h n + m)) ⊎ ((c : ℕ) × (m : ℕ) × (c ≤ 1) × (m < h) × (e ≡ side h c + m) × (d ≡ m))

-- the first firing of a list: it puts one token, and leaves the branch that its handshake sets
pub record Turn (t : Type') (x : ℕ → ℕ) (n : ℕ) (s : Slot) (ss : List Slot) (p : Asked) (q : State) (ts : List Token) : Type 0 where
  pub to : Slot
  pub rest : List Token
  pub then_asked : Asked
  pub goes : Goes (count_of t) n (shake_of s) (shake_of to)
  pub puts : ts ≡ put to (x (shake_of s)) ∷ rest
  pub go : Fires (Share t) x then_asked (at Rest (set_by (asker (contacts_of t) (shake_of s)) n)) ss p q rest

-- who asks at the three sides of a handshake
less : (n m : ℕ) → n < m → nat_lt n m ≡ true
less n m h = grind (arith, h)

not_less : (n m : ℕ) → m ≤ n → nat_lt n m ≡ false
not_less n m h = grind (arith, h)

pub at_source : (ks : List Contact) (m : ℕ) → m < length ks → asker ks m ≡ Nobody
at_source ks m low = rw (less m (length ks) low) refl

pub at_first : (ks : List Contact) (m : ℕ) → m < length ks → asker ks (length ks + m) ≡ (if asked_at ks m then Caller0 else Nobody)
at_first ks m low =
    let back : length ks + m - length ks ≡ m = omega arith in
    rw (not_less (length ks + m) (length ks) (omega arith)) (rw (less (length ks + m) (length ks + length ks) (omega (arith, low))) (rw back refl))

pub at_second : (ks : List Contact) (m : ℕ) → m < length ks → asker ks (length ks + length ks + m) ≡ (if asked_at ks m then Caller1 else Nobody)
at_second ks m low =
    let back : length ks + length ks + m - (length ks + length ks) ≡ m = omega arith in
    rw (not_less (length ks + length ks + m) (length ks) (omega arith)) (rw (not_less (length ks + length ks + m) (length ks + length ks) (omega arith)) (rw back refl))

-- a firing by a row that takes a token at e, puts it at d, and leads to the branch l
as_turn : (t : Type') (x : ℕ → ℕ) (o : Asked) (n l : ℕ) (taken given s : Slot) (ss : List Slot) (p : Asked) (q : State) (ts : List Token)
    → Goes (count_of t) n (shake_of taken) (shake_of given) → set_by (asker (contacts_of t) (shake_of taken)) n ≡ l
    → Stepped (Share t) x o (row taken (at Rest l) (put given)) s ss p q ts → Turn t x n s ss p q ts
as_turn t x o n l taken given s ss p q ts goes leads step =
    record {
      to = given;
      rest = step.rest;
      then_asked = after_putting (put given (x (shake_of taken)) ∷ []) (after_taking taken o);
      goes = subst (λ (c : Slot). Goes (count_of t) n (shake_of c) (shake_of given)) (sym step.is) goes;
      puts = step.puts ∙ ap (λ (c : Slot). put given (x (shake_of c)) ∷ step.rest) (sym step.is);
      go = subst (λ (c : Slot). Fires (Share t) x (after_putting (put given (x (shake_of taken)) ∷ []) (after_taking taken o)) (at Rest (set_by (asker (contacts_of t) (shake_of c)) n)) ss p q step.rest) (sym step.is)
          (subst (λ (m : ℕ). Fires (Share t) x (after_putting (put given (x (shake_of taken)) ∷ []) (after_taking taken o)) (at Rest m) ss p q step.rest) (sym leads) step.go);
    }

-- by each kind of row, at handshake j of the type
by_first : (t : Type') (x : ℕ → ℕ) (o : Asked) (n j : ℕ) (s : Slot) (ss : List Slot) (p : Asked) (q : State) (ts : List Token) → j < count_of t
    → asked_at (contacts_of t) j ≡ true → Stepped (Share t) x o (first_row (count_of t) j) s ss p q ts → Turn t x n s ss p q ts
by_first t x o n j s ss p q ts low is step =
    as_turn t x o n 0 (Req (count_of t + j)) (Req j) s ss p q ts (inr (0, j, omega arith, low, omega arith, refl))
    ((λ i. set_by (at_first (contacts_of t) j low i) n) ∙ (λ i. set_by (if is i then Caller0 else Nobody) n)) step

by_second : (t : Type') (x : ℕ → ℕ) (o : Asked) (n j : ℕ) (s : Slot) (ss : List Slot) (p : Asked) (q : State) (ts : List Token) → j < count_of t
    → asked_at (contacts_of t) j ≡ true → Stepped (Share t) x o (second_row (count_of t) j) s ss p q ts → Turn t x n s ss p q ts
by_second t x o n j s ss p q ts low is step =
    as_turn t x o n 1 (Req (count_of t + count_of t + j)) (Req j) s ss p q ts (inr (1, j, omega arith, low, omega arith, refl))
    ((λ i. set_by (at_second (contacts_of t) j low i) n) ∙ (λ i. set_by (if is i then Caller1 else Nobody) n)) step

by_answer : (t : Type') (x : ℕ → ℕ) (o : Asked) (n j : ℕ) (s : Slot) (ss : List Slot) (p : Asked) (q : State) (ts : List Token) → j < count_of t
    → Stepped (Share t) x o (answer_row (count_of t) n j) s ss p q ts → Turn t x n s ss p q ts
by_answer t x o n j s ss p q ts low step =
    as_turn t x o n n (Ans j) (Ans (count_of t + n * count_of t + j)) s ss p q ts (inl (j, low, refl, refl)) (λ i. set_by (at_source (contacts_of t) j low i) n) step

by_request : (t : Type') (x : ℕ → ℕ) (o : Asked) (n j : ℕ) (s : Slot) (ss : List Slot) (p : Asked) (q : State) (ts : List Token) → j < count_of t
    → Stepped (Share t) x o (request_row (count_of t) n j) s ss p q ts → Turn t x n s ss p q ts
by_request t x o n j s ss p q ts low step =
    as_turn t x o n n (Req j) (Req (count_of t + n * count_of t + j)) s ss p q ts (inl (j, low, refl, refl)) (λ i. set_by (at_source (contacts_of t) j low i) n) step

-- nobody asks where the source does
not_asked : (ks : List Contact) (n j : ℕ) → n ≤ 1 → j < length ks → asked_at ks j ≡ false → asker ks (side (length ks) n + j) ≡ Nobody
not_asked ks zero j small low isn't =
    let here : length ks + j ≡ side (length ks) 0 + j = omega arith in
    subst (λ (e : ℕ). asker ks e ≡ Nobody) here (at_first ks j low ∙ (λ i. if isn't i then Caller0 else Nobody))
not_asked ks (suc zero) j small low isn't =
    let here : length ks + length ks + j ≡ side (length ks) 1 + j = omega arith in
    subst (λ (e : ℕ). asker ks e ≡ Nobody) here (at_second ks j low ∙ (λ i. if isn't i then Caller1 else Nobody))
not_asked ks (suc (suc n)) j small low isn't = absurd (omega (arith, small))

by_back : (t : Type') (x : ℕ → ℕ) (o : Asked) (n j : ℕ) (s : Slot) (ss : List Slot) (p : Asked) (q : State) (ts : List Token) → n ≤ 1 → j < count_of t
    → asked_at (contacts_of t) j ≡ false → Stepped (Share t) x o (back_row (count_of t) n j) s ss p q ts → Turn t x n s ss p q ts
by_back t x o n j s ss p q ts small low isn't step =
    as_turn t x o n n (Ans (count_of t + n * count_of t + j)) (Ans j) s ss p q ts (inr (n, j, small, low, refl, refl))
    (λ i. set_by (not_asked (contacts_of t) n j small low isn't i) n) step

-- the row of a token among those of the handshakes from j on
by_rows : (t : Type') (x : ℕ → ℕ) (o : Asked) (n : ℕ) (s : Slot) (ss : List Slot) (p : Asked) (q : State) (ts : List Token) (w : Row) (us : List Token) → n ≤ 1
    → PutsWell (w.puts (x (shake_of s))) (after_taking s o) → ts ≡ w.puts (x (shake_of s)) ++ us
    → Fires (Share t) x (after_putting (w.puts (x (shake_of s))) (after_taking s o)) (w.next (x (shake_of s))) ss p q us
    → (ks : List Contact) (j : ℕ) → j + length ks ≤ count_of t → ((m : ℕ) → m < length ks → asked_at (contacts_of t) (j + m) ≡ asked_at ks m)
    → row_for s (share_rows ks (count_of t) j n) ≡ Some w → Turn t x n s ss p q ts
by_rows t x o n s ss p q ts w us small well puts go [] j within there f = absurd (no_row w s f)
by_rows t x o n s ss p q ts w us small well puts go (k ∷ ks) j within there f =
    by_role k.role asked_here (by_rows t x o n s ss p q ts w us small well puts go ks (suc j) (omega (arith, within)) later) f
  where
    step : (r : Row) → r.takes ≡ s → r ≡ w → Stepped (Share t) x o r s ss p q ts
    step r takes is = stepped (Share t) x o r w s ss p q ts us takes is well puts go

    low : j < count_of t
    low = omega (arith, within)

    asked_here : asked_at (contacts_of t) j ≡ is_asked k.role
    asked_here = let here : j + 0 ≡ j = omega arith in subst (λ (e : ℕ). asked_at (contacts_of t) e ≡ is_asked k.role) here (there 0 (omega arith))

    later : (m : ℕ) → m < length ks → asked_at (contacts_of t) (suc j + m) ≡ asked_at ks m
    later m less_than =
        let here : j + suc m ≡ suc j + m = omega arith in
        subst (λ (e : ℕ). asked_at (contacts_of t) e ≡ asked_at ks m) here (there (suc m) (omega (arith, less_than)))

    by_role : (r : Role) → asked_at (contacts_of t) j ≡ is_asked r → (row_for s (share_rows ks (count_of t) (suc j) n) ≡ Some w → Turn t x n s ss p q ts)
        → row_for s (shared_rows r (count_of t) j n ++ share_rows ks (count_of t) (suc j) n) ≡ Some w → Turn t x n s ss p q ts
    by_role Serve is ih e =
        elim (first_or_later (first_row (count_of t) j) w (second_row (count_of t) j ∷ answer_row (count_of t) n j ∷ share_rows ks (count_of t) (suc j) n) s e) [
          | inl h ↦ by_first t x o n j s ss p q ts low is (step (first_row (count_of t) j) h.0 h.1)
          | inr e2 ↦
              (elim (first_or_later (second_row (count_of t) j) w (answer_row (count_of t) n j ∷ share_rows ks (count_of t) (suc j) n) s e2) [
                | inl h ↦ by_second t x o n j s ss p q ts low is (step (second_row (count_of t) j) h.0 h.1)
                | inr e3 ↦
                    (elim (first_or_later (answer_row (count_of t) n j) w (share_rows ks (count_of t) (suc j) n) s e3) [
                      | inl h ↦ by_answer t x o n j s ss p q ts low (step (answer_row (count_of t) n j) h.0 h.1)
                      | inr more ↦ ih more
                    ])
              ])
        ]
    by_role Ask is ih e =
        elim (first_or_later (request_row (count_of t) n j) w (back_row (count_of t) n j ∷ share_rows ks (count_of t) (suc j) n) s e) [
          | inl h ↦ by_request t x o n j s ss p q ts low (step (request_row (count_of t) n j) h.0 h.1)
          | inr e2 ↦
              (elim (first_or_later (back_row (count_of t) n j) w (share_rows ks (count_of t) (suc j) n) s e2) [
                | inl h ↦ by_back t x o n j s ss p q ts small low is (step (back_row (count_of t) n j) h.0 h.1)
                | inr more ↦ ih more
              ])
        ]

pub turn : (t : Type') (x : ℕ → ℕ) (o : Asked) (n : ℕ) (s : Slot) (ss : List Slot) (p : Asked) (q : State) (ts : List Token) → n ≤ 1
    → Fires (Share t) x o (at Rest n) (s ∷ ss) p q ts → Turn t x n s ss p q ts
turn t x o n s ss p q ts small (w, us, f, well, puts, go) =
    by_rows t x o n s ss p q ts w us small well puts go (contacts_of t) 0 (omega arith)
    (λ m less_than. let here : m ≡ 0 + m = omega arith in ap (asked_at (contacts_of t)) (sym here)) f
