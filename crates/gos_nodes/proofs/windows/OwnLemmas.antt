-- The own part of a form: in a session it takes the answer of that session, and at rest its request.
use Rattle.std.specs.Prelude.{nat_eq}
use Rattle.std.proofs.Common.{◌≡◌, ℕ, Bool, true, false, [], ◌∷◌, Some, refl, subst, arith, if◌then◌else◌}
use Rattle.std.proofs.lemmas.Option.{none-some, same_Some}
use Rattle.gos_types.specs.Types.{Type'}
use Rattle.gos_model.specs.Terms.{Op, Term}
use Rattle.gos_plan.specs.Firing.{Phase, Rest, First, Second, Test, Branch, Body, Left, Right, Waiting, State, Req, Ans, Row, at, put, row, row_for, firing}
use Rattle.gos_nodes.specs.sessions.Sessions.{run_shake, Form, Sequence, Choice, Loop, Binary, Complement, Session, session_of, own_part}

abbrev CanTake : Form → Phase → ℕ → ℕ → Type 0
CanTake f p n h = (r : Row) × (firing (own_part f) (at p n) (Ans h) ≡ Some r)

via : (P : ℕ → Type 0) (a e : Session) → Some a ≡ Some e → P a.asked_at → P e.asked_at
via P a e is h = subst (λ (x : Session). P x.asked_at) (same_Some a e is) h

takes_branch : (n : ℕ) (y : Bool) → (r : Row) × (row_for (Ans (if y then 1 else 2)) (row (Ans (if y then 1 else 2)) (at Rest n) (put (Ans 3)) ∷ []) ≡ Some r)
takes_branch n true = (_, refl)
takes_branch n false = (_, refl)

takes_sequence : (t : Type') (a b : Term) (p : Phase) (n : ℕ) (e : Session) → session_of (Sequence t a b) p n ≡ Some e → CanTake (Sequence t a b) p n e.asked_at
takes_sequence t a b First n e is = via (CanTake (Sequence t a b) First n) _ e is (_, refl)
takes_sequence t a b Second n e is = via (CanTake (Sequence t a b) Second n) _ e is (_, refl)
takes_sequence t a b p n e is = absurd (none-some e is)

takes_choice : (t : Type') (a b c : Term) (p : Phase) (n : ℕ) (e : Session) → session_of (Choice t a b c) p n ≡ Some e → CanTake (Choice t a b c) p n e.asked_at
takes_choice t a b c Test n e is = via (CanTake (Choice t a b c) Test n) _ e is (_, refl)
takes_choice t a b c Branch n e is = via (CanTake (Choice t a b c) Branch n) _ e is (takes_branch n (nat_eq n 1))
takes_choice t a b c p n e is = absurd (none-some e is)

takes_loop : (a b : Term) (p : Phase) (n : ℕ) (e : Session) → session_of (Loop a b) p n ≡ Some e → CanTake (Loop a b) p n e.asked_at
takes_loop a b Test n e is = via (CanTake (Loop a b) Test n) _ e is (_, refl)
takes_loop a b Body n e is = via (CanTake (Loop a b) Body n) _ e is (_, refl)
takes_loop a b p n e is = absurd (none-some e is)

takes_binary : (op : Op) (w : ℕ) (a b : Term) (p : Phase) (n : ℕ) (e : Session) → session_of (Binary op w a b) p n ≡ Some e → CanTake (Binary op w a b) p n e.asked_at
takes_binary op w a b Left n e is = via (CanTake (Binary op w a b) Left n) _ e is (_, refl)
takes_binary op w a b Right n e is = via (CanTake (Binary op w a b) Right n) _ e is (_, refl)
takes_binary op w a b p n e is = absurd (none-some e is)

takes_complement : (w : ℕ) (a : Term) (p : Phase) (n : ℕ) (e : Session) → session_of (Complement w a) p n ≡ Some e → CanTake (Complement w a) p n e.asked_at
takes_complement w a Waiting n e is = via (CanTake (Complement w a) Waiting n) _ e is (_, refl)
takes_complement w a p n e is = absurd (none-some e is)

pub takes_answer : (f : Form) (q : State) (e : Session) → session_of f q.phase q.number ≡ Some e → (r : Row) × (firing (own_part f) q (Ans e.asked_at) ≡ Some r)
takes_answer (Sequence t a b) q e is = takes_sequence t a b q.phase q.number e is
takes_answer (Choice t a b c) q e is = takes_choice t a b c q.phase q.number e is
takes_answer (Loop a b) q e is = takes_loop a b q.phase q.number e is
takes_answer (Binary op w a b) q e is = takes_binary op w a b q.phase q.number e is
takes_answer (Complement w a) q e is = takes_complement w a q.phase q.number e is

pub takes_request : (f : Form) (n : ℕ) → (r : Row) × (firing (own_part f) (at Rest n) (Req (run_shake (own_part f))) ≡ Some r)
takes_request (Sequence t a b) n = (_, refl)
takes_request (Choice t a b c) n = (_, refl)
takes_request (Loop a b) n = (_, refl)
takes_request (Binary op w a b) n = (_, refl)
takes_request (Complement w a) n = (_, refl)

-- it is in no session at rest
pub none_at_rest : (f : Form) (n : ℕ) (e : Session) → session_of f Rest n ≡ Some e → ⊥
none_at_rest (Sequence t a b) n e is = none-some e is
none_at_rest (Choice t a b c) n e is = none-some e is
none_at_rest (Loop a b) n e is = none-some e is
none_at_rest (Binary op w a b) n e is = none-some e is
none_at_rest (Complement w a) n e is = none-some e is

-- a child is asked at another handshake than that by which the part is run
abbrev Apart : ℕ → ℕ → Type 0
Apart k h = h ≡ k → ⊥

branch_apart : (y : Bool) → Apart 3 (if y then 1 else 2)
branch_apart true = λ h. omega (arith, h)
branch_apart false = λ h. omega (arith, h)

apart_sequence : (t : Type') (a b : Term) (p : Phase) (n : ℕ) (e : Session) → session_of (Sequence t a b) p n ≡ Some e → Apart 2 e.asked_at
apart_sequence t a b First n e is = via (Apart 2) _ e is (λ h. omega (arith, h))
apart_sequence t a b Second n e is = via (Apart 2) _ e is (λ h. omega (arith, h))
apart_sequence t a b p n e is = absurd (none-some e is)

apart_choice : (t : Type') (a b c : Term) (p : Phase) (n : ℕ) (e : Session) → session_of (Choice t a b c) p n ≡ Some e → Apart 3 e.asked_at
apart_choice t a b c Test n e is = via (Apart 3) _ e is (λ h. omega (arith, h))
apart_choice t a b c Branch n e is = via (Apart 3) _ e is (branch_apart (nat_eq n 1))
apart_choice t a b c p n e is = absurd (none-some e is)

apart_loop : (a b : Term) (p : Phase) (n : ℕ) (e : Session) → session_of (Loop a b) p n ≡ Some e → Apart 2 e.asked_at
apart_loop a b Test n e is = via (Apart 2) _ e is (λ h. omega (arith, h))
apart_loop a b Body n e is = via (Apart 2) _ e is (λ h. omega (arith, h))
apart_loop a b p n e is = absurd (none-some e is)

apart_binary : (op : Op) (w : ℕ) (a b : Term) (p : Phase) (n : ℕ) (e : Session) → session_of (Binary op w a b) p n ≡ Some e → Apart 2 e.asked_at
apart_binary op w a b Left n e is = via (Apart 2) _ e is (λ h. omega (arith, h))
apart_binary op w a b Right n e is = via (Apart 2) _ e is (λ h. omega (arith, h))
apart_binary op w a b p n e is = absurd (none-some e is)

apart_complement : (w : ℕ) (a : Term) (p : Phase) (n : ℕ) (e : Session) → session_of (Complement w a) p n ≡ Some e → Apart 1 e.asked_at
apart_complement w a Waiting n e is = via (Apart 1) _ e is (λ h. omega (arith, h))
apart_complement w a p n e is = absurd (none-some e is)

pub asked_apart : (f : Form) (p : Phase) (n : ℕ) (e : Session) → session_of f p n ≡ Some e → e.asked_at ≡ run_shake (own_part f) → ⊥
asked_apart (Sequence t a b) p n e is = apart_sequence t a b p n e is
asked_apart (Choice t a b c) p n e is = apart_choice t a b c p n e is
asked_apart (Loop a b) p n e is = apart_loop a b p n e is
asked_apart (Binary op w a b) p n e is = apart_binary op w a b p n e is
asked_apart (Complement w a) p n e is = apart_complement w a p n e is
