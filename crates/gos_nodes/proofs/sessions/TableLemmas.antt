-- The table of sessions is right: form by form, state by state.
use Rattle.std.specs.Prelude.{◌≢◌, ◌^◌, ◌<◌, ◌⊎◌, None, nat_eq}
use Rattle.std.proofs.Common.{◌≡◌, inl, inr, ℕ, zero, suc, Bool, true, false, List, [], ◌∷◌, Option, Some, refl, subst, arith, if◌then◌else◌}
use Rattle.std.proofs.lemmas.Option.{none-some}
use Rattle.gos_types.specs.Types.{Type', Com, Exp}
use Rattle.gos_model.specs.Terms as terms
use Rattle.gos_model.specs.Terms.{Op, Term}
use Rattle.gos_model.specs.Steps as steps
use Rattle.gos_model.specs.Moves.{Program, Running, Act, Computing}
use Rattle.gos_plan.specs.Firing.{Phase, Rest, First, Second, Test, Branch, Body, Left, Right, Waiting, State, Slot, Req, Ans, Row, at, put, row, row_for, rows, firing}
use Rattle.gos_plan.specs.Kinds as kinds
use Rattle.gos_plan.proofs.SlotLemmas.{one_row}
use Rattle.gos_nodes.specs.sessions.Sessions.{run_shake, Form, Sequence, Choice, Loop, Binary, Complement, Session, session, session_of, own_part, own_term, value_of, bits, Computes, LeadsOn, TablesAreRight}

none : (g : Program) (m : Term) → Computes g [] m m
none g m = (refl, refl)

one : (g : Program) (m n : Term) → steps.Computes [] [] m n → Computes g (Computing ∷ []) m n
one g m n row = (refl, (Running n [], (0, m, refl, inl row), refl))

two : (g : Program) (m n t : Term) → steps.Computes [] [] m n → steps.Computes [] [] n t → Computes g (Computing ∷ Computing ∷ []) m t
two g m n t a b = (refl, (Running n [], (0, m, refl, inl a), (Running t [], (0, n, refl, inl b), refl)))

some : {x : Act} {xs : List Act} → x ∷ xs ≢ []
some e = cc e

-- the row is this one
abbrev From : Program → Form → Term → Row → ℕ → Bool → Type 0
From g f m r v answered = LeadsOn g f m (r.next v) (r.puts v) answered

by_row : (g : Program) (f : Form) (m : Term) (v : ℕ) (answered : Bool) (a r : Row) → Some a ≡ Some r → From g f m a v answered → From g f m r v answered
by_row g f m v answered a r e h = subst (λ (o : Option Row). of o) e h
  where
    of : Option Row → Type 0
    of None = ⊥
    of (Some x) = From g f m x v answered

-- it begins
begins : (g : Program) (f : Form) (n : ℕ) (r : Row) → firing (own_part f) (at Rest n) (Req (run_shake (own_part f))) ≡ Some r → From g f (own_term f) r 0 false
begins g (Sequence t a b) n r e =
    by_row g (Sequence t a b) (terms.Seq a b) 0 false _ r e (inl (session 0 a Com (λ x. terms.Seq x b), [], refl, refl, none g (terms.Seq a b), λ h. absurd (cc h)))
begins g (Choice t a b c) n r e =
    by_row g (Choice t a b c) (terms.If a b c) 0 false _ r e (inl (session 0 a (Exp 1) (λ x. terms.If x b c), [], refl, refl, none g (terms.If a b c), λ h. absurd (cc h)))
begins g (Loop a b) n r e =
    by_row g (Loop a b) (terms.While a b) 0 false _ r e
    (inl (
      session 0 a (Exp 1) (λ x. terms.If x (terms.Seq b (terms.While a b)) terms.Skip),
      Computing ∷ [],
      refl,
      refl,
      one g (terms.While a b) (terms.If a (terms.Seq b (terms.While a b)) terms.Skip) (refl, refl),
      λ h. absurd (cc h),
    ))
begins g (Binary op w a b) n r e =
    by_row g (Binary op w a b) (terms.Bin op a b) 0 false _ r e (inl (session 0 a (Exp w) (λ x. terms.Bin op x b), [], refl, refl, none g (terms.Bin op a b), λ h. absurd (cc h)))
begins g (Complement w a) n r e =
    by_row g (Complement w a) (terms.Not a) 0 false _ r e (inl (session 0 a (Exp w) terms.Not, [], refl, refl, none g (terms.Not a), λ h. absurd (cc h)))

-- what is to be shown of a session in a state
abbrev Goes : Program → Form → Phase → ℕ → Session → Type 0
Goes g f p n s =
    (r : Row) (v : ℕ) → v < 2 ^ bits s.ty → firing (own_part f) (at p n) (Ans s.asked_at) ≡ Some r → From g f (s.frame (value_of s.ty v)) r v true

by_session : (g : Program) (f : Form) (p : Phase) (n : ℕ) (a s : Session) → Some a ≡ Some s → Goes g f p n a → Goes g f p n s
by_session g f p n a s e h = subst (λ (o : Option Session). of o) e h
  where
    of : Option Session → Type 0
    of None = ⊥
    of (Some x) = Goes g f p n x

no_session : {A : Type 0} (s : Session) → None ≡ Some s → A
no_session s e = absurd (cc e)

-- a truth value is 0 or 1
chosen_by : (A : ℕ → Type 0) (v : ℕ) → v < 2 ^ 1 → A 0 → A 1 → A v
chosen_by A zero h a b = a
chosen_by A (suc zero) h a b = b
chosen_by A (suc (suc v)) h a b = absurd (omega (arith, h))

in_sequence : (g : Program) (t : Type') (a b : Term) (p : Phase) (n : ℕ) (s : Session) → session_of (Sequence t a b) p n ≡ Some s → Goes g (Sequence t a b) p n s
in_sequence g t a b First n s e =
    by_session g (Sequence t a b) First n _ s e (λ r v fits x.
    by_row g (Sequence t a b) (terms.Seq terms.Skip b) v true _ r x (inl (session 1 b t (λ y. y), Computing ∷ [], refl, refl, one g (terms.Seq terms.Skip b) b (refl, refl, refl), λ h. some)))
in_sequence g t a b Second n s e =
    by_session g (Sequence t a b) Second n _ s e (λ r v fits x.
    by_row g (Sequence t a b) (value_of t v) v true _ r x (inr (v, [], refl, refl, none g (value_of t v))))
in_sequence g t a b p n s e = no_session s e

in_loop : (g : Program) (a b : Term) (p : Phase) (n : ℕ) (s : Session) → session_of (Loop a b) p n ≡ Some s → Goes g (Loop a b) p n s
in_loop g a b Test n s e =
    by_session g (Loop a b) Test n _ s e (λ r v fits x.
    by_row g (Loop a b) (terms.If (terms.Lit v 1) (terms.Seq b (terms.While a b)) terms.Skip) v true _ r x
    (chosen_by (λ k. LeadsOn g (Loop a b) (terms.If (terms.Lit k 1) (terms.Seq b (terms.While a b)) terms.Skip) (at (if nat_eq k 1 then Body else Rest) n) ((if nat_eq k 1 then put (Req 1) 0 else put (Ans 2) 0) ∷ []) true) v fits
    (inr (0, Computing ∷ [], refl, refl, one g (terms.If (terms.Lit 0 1) (terms.Seq b (terms.While a b)) terms.Skip) terms.Skip (inr (refl, refl), refl)))
    (inl (session 1 b Com (λ y. terms.Seq y (terms.While a b)), Computing ∷ [], refl, refl, one g (terms.If (terms.Lit 1 1) (terms.Seq b (terms.While a b)) terms.Skip) (terms.Seq b (terms.While a b)) (inl (refl, refl), refl), λ h. some))))
in_loop g a b Body n s e =
    by_session g (Loop a b) Body n _ s e (λ r v fits x.
    by_row g (Loop a b) (terms.Seq terms.Skip (terms.While a b)) v true _ r x
    (inl (
      session 0 a (Exp 1) (λ y. terms.If y (terms.Seq b (terms.While a b)) terms.Skip),
      Computing ∷ Computing ∷ [],
      refl,
      refl,
      two g (terms.Seq terms.Skip (terms.While a b)) (terms.While a b) (terms.If a (terms.Seq b (terms.While a b)) terms.Skip) (refl, refl, refl) (refl, refl),
      λ h. some,
    )))
in_loop g a b p n s e = no_session s e

in_complement : (g : Program) (w : ℕ) (a : Term) (p : Phase) (n : ℕ) (s : Session) → session_of (Complement w a) p n ≡ Some s → Goes g (Complement w a) p n s
in_complement g w a Waiting n s e =
    by_session g (Complement w a) Waiting n _ s e (λ r v fits x.
    by_row g (Complement w a) (terms.Not (terms.Lit v w)) v true _ r x
    (inr (terms.complement w v, Computing ∷ [], refl, refl, one g (terms.Not (terms.Lit v w)) (terms.Lit (terms.complement w v) w) (v, w, refl, refl, refl))))
in_complement g w a p n s e = no_session s e

in_choice : (g : Program) (t : Type') (a b c : Term) (p : Phase) (n : ℕ) (s : Session) → session_of (Choice t a b c) p n ≡ Some s → Goes g (Choice t a b c) p n s
in_choice g t a b c Test n s e =
    by_session g (Choice t a b c) Test n _ s e (λ r v fits x.
    by_row g (Choice t a b c) (terms.If (terms.Lit v 1) b c) v true _ r x
    (chosen_by (λ k. LeadsOn g (Choice t a b c) (terms.If (terms.Lit k 1) b c) (at Branch k) ((if nat_eq k 1 then put (Req 1) 0 else put (Req 2) 0) ∷ []) true) v fits
    (inl (session 2 c t (λ y. y), Computing ∷ [], refl, refl, one g (terms.If (terms.Lit 0 1) b c) c (inr (refl, refl), refl), λ h. some))
    (inl (session 1 b t (λ y. y), Computing ∷ [], refl, refl, one g (terms.If (terms.Lit 1 1) b c) b (inl (refl, refl), refl), λ h. some))))
in_choice g t a b c Branch n s e =
    by_session g (Choice t a b c) Branch n _ s e (λ r v fits x. by_branch (nat_eq n 1) r v x)
  where
    by_branch : (y : Bool) (r : Row) (v : ℕ)
        → row_for (Ans (if y then 1 else 2)) (row (Ans (if y then 1 else 2)) (at Rest n) (put (Ans 3)) ∷ []) ≡ Some r
        → From g (Choice t a b c) (value_of t v) r v true
    by_branch true r v x = by_row g (Choice t a b c) (value_of t v) v true _ r x (inr (v, [], refl, refl, none g (value_of t v)))
    by_branch false r v x = by_row g (Choice t a b c) (value_of t v) v true _ r x (inr (v, [], refl, refl, none g (value_of t v)))
in_choice g t a b c p n s e = no_session s e

in_binary : (g : Program) (op : Op) (w : ℕ) (a b : Term) (p : Phase) (n : ℕ) (s : Session) → session_of (Binary op w a b) p n ≡ Some s → Goes g (Binary op w a b) p n s
in_binary g op w a b Left n s e =
    by_session g (Binary op w a b) Left n _ s e (λ r v fits x.
    by_row g (Binary op w a b) (terms.Bin op (terms.Lit v w) b) v true _ r x
    (inl (
      session 1 b (Exp w) (λ y. terms.Held v op y),
      Computing ∷ [],
      refl,
      refl,
      one g (terms.Bin op (terms.Lit v w) b) (terms.Held v op b) (v, w, refl, refl, refl),
      λ h. some,
    )))
in_binary g op w a b Right n s e =
    by_session g (Binary op w a b) Right n _ s e (λ r v fits x.
    by_row g (Binary op w a b) (terms.Held n op (terms.Lit v w)) v true _ r x
    (inr (
      terms.result_of op w n v,
      Computing ∷ [],
      refl,
      refl,
      one g (terms.Held n op (terms.Lit v w)) (terms.Lit (terms.result_of op w n v) (terms.result_width op w)) (v, w, refl, refl, refl),
    )))
in_binary g op w a b p n s e = no_session s e

goes_on : (g : Program) (f : Form) (q : State) (s : Session) → session_of f q.phase q.number ≡ Some s → Goes g f q.phase q.number s
goes_on g (Sequence t a b) q s e = in_sequence g t a b q.phase q.number s e
goes_on g (Choice t a b c) q s e = in_choice g t a b c q.phase q.number s e
goes_on g (Loop a b) q s e = in_loop g a b q.phase q.number s e
goes_on g (Binary op w a b) q s e = in_binary g op w a b q.phase q.number s e
goes_on g (Complement w a) q s e = in_complement g w a q.phase q.number s e

-- the own part takes its request where it rests, and the answer of the session that it is in
abbrev Taken : Form → Phase → ℕ → Slot → Type 0
Taken f p n slot =
    ((p ≡ Rest) × (slot ≡ Req (run_shake (own_part f)))) ⊎ ((s : Session) × (session_of f p n ≡ Some s) × (slot ≡ Ans s.asked_at))

of_sequence : (t : Type') (a b : Term) (p : Phase) (n : ℕ) (slot : Slot) (r : Row) → row_for slot (rows (kinds.Seq (bits t)) p n) ≡ Some r → Taken (Sequence t a b) p n slot
of_sequence t a b Rest n slot r e = inl (refl, one_row _ r slot e)
of_sequence t a b First n slot r e = inr (session 0 a Com (λ x. terms.Seq x b), refl, one_row _ r slot e)
of_sequence t a b Second n slot r e = inr (session 1 b t (λ x. x), refl, one_row _ r slot e)
of_sequence t a b p n slot r e = absurd (none-some r e)

of_choice : (t : Type') (a b c : Term) (p : Phase) (n : ℕ) (slot : Slot) (r : Row) → row_for slot (rows (kinds.If (bits t)) p n) ≡ Some r → Taken (Choice t a b c) p n slot
of_choice t a b c Rest n slot r e = inl (refl, one_row _ r slot e)
of_choice t a b c Test n slot r e = inr (session 0 a (Exp 1) (λ x. terms.If x b c), refl, one_row _ r slot e)
of_choice t a b c Branch n slot r e =
    inr (session (if nat_eq n 1 then 1 else 2) (if nat_eq n 1 then b else c) t (λ x. x), refl, one_row _ r slot e)
of_choice t a b c p n slot r e = absurd (none-some r e)

of_loop : (a b : Term) (p : Phase) (n : ℕ) (slot : Slot) (r : Row) → row_for slot (rows kinds.While p n) ≡ Some r → Taken (Loop a b) p n slot
of_loop a b Rest n slot r e = inl (refl, one_row _ r slot e)
of_loop a b Test n slot r e = inr (session 0 a (Exp 1) (λ x. terms.If x (terms.Seq b (terms.While a b)) terms.Skip), refl, one_row _ r slot e)
of_loop a b Body n slot r e = inr (session 1 b Com (λ x. terms.Seq x (terms.While a b)), refl, one_row _ r slot e)
of_loop a b p n slot r e = absurd (none-some r e)

of_binary : (op : Op) (w : ℕ) (a b : Term) (p : Phase) (n : ℕ) (slot : Slot) (r : Row) → row_for slot (rows (kinds.Op op w) p n) ≡ Some r → Taken (Binary op w a b) p n slot
of_binary op w a b Rest n slot r e = inl (refl, one_row _ r slot e)
of_binary op w a b Left n slot r e = inr (session 0 a (Exp w) (λ x. terms.Bin op x b), refl, one_row _ r slot e)
of_binary op w a b Right n slot r e = inr (session 1 b (Exp w) (λ x. terms.Held n op x), refl, one_row _ r slot e)
of_binary op w a b p n slot r e = absurd (none-some r e)

of_complement : (w : ℕ) (a : Term) (p : Phase) (n : ℕ) (slot : Slot) (r : Row) → row_for slot (rows (kinds.Not w) p n) ≡ Some r → Taken (Complement w a) p n slot
of_complement w a Rest n slot r e = inl (refl, one_row _ r slot e)
of_complement w a Waiting n slot r e = inr (session 0 a (Exp w) (λ x. terms.Not x), refl, one_row _ r slot e)
of_complement w a p n slot r e = absurd (none-some r e)

taken : (f : Form) (p : Phase) (n : ℕ) (slot : Slot) (r : Row) → row_for slot (rows (own_part f) p n) ≡ Some r → Taken f p n slot
taken (Sequence t a b) p n slot r e = of_sequence t a b p n slot r e
taken (Choice t a b c) p n slot r e = of_choice t a b c p n slot r e
taken (Loop a b) p n slot r e = of_loop a b p n slot r e
taken (Binary op w a b) p n slot r e = of_binary op w a b p n slot r e
taken (Complement w a) p n slot r e = of_complement w a p n slot r e

pub tables_are_right : TablesAreRight
tables_are_right g f =
    record {
      begins = begins g f;
      goes_on = λ q s r v e fits x. goes_on g f q s e r v fits x;
      no_other = λ q slot r x. taken f q.phase q.number slot r x;
    }
