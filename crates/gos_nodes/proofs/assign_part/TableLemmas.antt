-- The table of `:=` is right: state by state, and what the term does meanwhile.
use Rattle.std.specs.Prelude.{◌≡◌, ◌⊎◌, ℕ, zero, suc, IsTrue, [], ◌∷◌, Option, Some}
use Rattle.std.proofs.Common.{refl, sym, ap, subst, inl, inr, ◌∙◌}
use Rattle.std.proofs.lemmas.Option.{none-some, same_Some}
use Rattle.std.proofs.lemmas.Bool.{false≢true}
use Rattle.gos_types.specs.Types.{Type'}
use Rattle.gos_types.specs.Events.{Request, Answer}
use Rattle.gos_model.specs.Terms as terms
use Rattle.gos_model.specs.Terms.{Name, Term, Lit, Import, Wait, Put}
use Rattle.gos_model.specs.Typing.{Imported, Imports, import_type}
use Rattle.gos_model.specs.Stores.{Store}
use Rattle.gos_model.specs.Reach.{Unfolds}
use Rattle.gos_model.specs.Labels.{Label, is_output, is_output_at, IsAnswer}
use Rattle.gos_model.specs.Moves.{Program, Config, Idle, Running, Act, Computing, Showing, Unfoldings, ActsTo, Stalled}
use Rattle.gos_plan.specs.Kinds.{Assign}
use Rattle.gos_plan.specs.Firing.{Phase, Rest, Value, Writing, Slot, Req, Ans, Row, at, row_for, rows}
use Rattle.gos_plan.proofs.SlotLemmas.{one_row}
use Rattle.gos_realises.specs.realises.Matched.{port_if, event_number}
use Rattle.gos_nodes.specs.assign_part.Tables.{Leads, AssignsDo, WritesMove, WritesShow}

-- a state's one row
by_row : (P : Row → Type 0) (a r : Row) → Some a ≡ Some r → P a → P r
by_row P a r e h = subst P (same_Some a r e) h

-- the part takes no other token than that of its state
abbrev Taken' : Phase → Slot → Type 0
Taken' p slot = ((p ≡ Rest) × (slot ≡ Req 2)) ⊎ (((p ≡ Value) × (slot ≡ Ans 0)) ⊎ ((p ≡ Writing) × (slot ≡ Ans 1)))

taken_by : (w : ℕ) (p : Phase) (n : ℕ) (slot : Slot) (r : Row) → row_for slot (rows (Assign w) p n) ≡ Some r → Taken' p slot
taken_by w Rest n slot r e = inl (refl, one_row _ r slot e)
taken_by w Value n slot r e = inr (inl (refl, one_row _ r slot e))
taken_by w Writing n slot r e = inr (inr (refl, one_row _ r slot e))
taken_by w p n slot r e = absurd (none-some r e)

pub assigns_do : AssignsDo
assigns_do w =
    record {
      begins = λ n v r e. by_row (λ (x : Row). Leads x v (at Value n) (Req 0) 0) _ r e (refl, refl);
      writes = λ n v r e. by_row (λ (x : Row). Leads x v (at Writing n) (Req 1) v) _ r e (refl, refl);
      ends = λ n v r e. by_row (λ (x : Row). Leads x v (at Rest n) (Ans 2) 0) _ r e (refl, refl);
      no_other = λ q slot r e. taken_by w q.phase q.number slot r e;
    }

-- while the write is not answered the program can only wait
no_unfolding : (x : Name) (u : Term) → Unfolds (Wait x 3) u → ⊥
no_unfolding x u (inl (inl (inl h))) = h
no_unfolding x u (inl (inl (inr h))) = h
no_unfolding x u (inl (inr h)) = h
no_unfolding x u (inr h) = h

waiting : (x : Name) (n : ℕ) (u : Term) → Unfoldings n (Wait x 3) u → Wait x 3 ≡ u
waiting x zero u h = h
waiting x (suc n) u (t, h, hs) = absurd (no_unfolding x t h)

is_no_skip : (x : Name) → Wait x 3 ≡ terms.Skip → ⊥
is_no_skip x e = cc e

is_no_number : (x : Name) (k w : ℕ) → Wait x 3 ≡ Lit k w → ⊥
is_no_number x k w e = cc e

module _ (i : Imports) (x : Name) (s : Store) where
  computes_none : (e : Config) → ActsTo i Computing s (Wait x 3) e → ⊥
  computes_none Idle h = h
  computes_none (Running m u) (inl h) = h
  computes_none (Running m u) (inr h) = h

  shows_none : (o : Label) (e : Config) → IsTrue (is_output o) → ActsTo i (Showing o) s (Wait x 3) e → ⊥
  shows_none o Idle out (inl (is, shown)) = is_no_skip x is
  shows_none o Idle out (inr (k, w, is, shown)) = is_no_number x k w is
  shows_none o (Running m u) out (inl (inl h), kept) = h
  shows_none o (Running m u) out (inl (inr (port, event, answers)), kept) =
      false≢true (sym (λ l. is_output_at (port l) (event l)) ∙ out)
  shows_none o (Running m u) out (inr h, kept) = h

  from : (n : ℕ) (u : Term) (a : Act) (e : Config) → Unfoldings n (Wait x 3) u → ActsTo i a s u e → ActsTo i a s (Wait x 3) e
  from n u a e us h = subst (λ (v : Term). ActsTo i a s v e) (sym (waiting x n u us)) h

waits : (g : Program) (x : Name) (s : Store) → Stalled g (Running (Wait x 3) s)
waits g x s = (
  λ e move. computes_none g.imports x s e (from g.imports x s move.0 move.1 Computing e move.2 move.3),
  λ o e out move. shows_none g.imports x s o e out (from g.imports x s move.0 move.1 (Showing o) e move.2 move.3),
)

pub writes_move : WritesMove
writes_move g x w s known =
    record {
      computes = λ m v. (Running (Put m v) s, (0, terms.Assign m (Lit v w), refl, inl (v, w, refl, refl, refl)), refl);
      writes = λ v. (Running (Wait x 3) s, (0, Put (Import x) v, refl, (inl (inl (inl (x, w, refl, known, refl, refl))), refl)), refl);
      answered = (Running terms.Skip s, (0, Wait x 3, refl, (inl (inr (refl, refl, answers)), refl)), refl);
      waits = waits g x s;
    }
  where
    answers : IsAnswer (import_type g.imports x) 3 0 terms.Skip
    answers = subst (λ (o : Option Type'). IsAnswer o 3 0 terms.Skip) (sym known) (refl, refl)

-- the variable's port
pub writes_show : WritesShow
writes_show p k w x known = (
  λ v. ap (λ (o : Option Imported). record { port = port_if o; event = event_number Request 1; value = v } ∷ []) known,
  λ v. ap (λ (o : Option Imported). record { port = port_if o; event = event_number Answer 1; value = v } ∷ []) known,
)
