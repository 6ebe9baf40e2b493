-- The Assign: where it waits it takes the answer, at rest its request; and what its firings lead to.
use Rattle.std.specs.Prelude.{◌^◌, ◌<◌}
use Rattle.std.proofs.Common.{◌≡◌, ℕ, List, [], ◌∷◌, ◌⊎◌, Some, inl, inr, refl, sym, ◌∙◌, ap, subst, arith, pow_pos}
use Rattle.std.proofs.lemmas.Option.{none-some, same_Some}
use Rattle.gos_plan.specs.Kinds.{Assign}
use Rattle.gos_plan.specs.Firing.{Phase, Rest, Value, Writing, State, Slot, Req, Ans, Token, Row, at, put, firing}
use Rattle.gos_nodes.proofs.assign_part.TableLemmas.{assigns_do}
use Rattle.gos_nodes.specs.assignments.Writes.{request_bits, answer_bits, waits_at}

-- a firing leads to where the Assign asks handshake h with the number n, or it answers with k
abbrev pub LeadsOn : ℕ → State → List Token → Type 0
LeadsOn w q ts =
    ((h n : ℕ) × (h < 2) × (waits_at q.phase ≡ Some h) × (ts ≡ put (Req h) n ∷ []) × (n < 2 ^ request_bits h w))
    ⊎ ((k : ℕ) × (q.phase ≡ Rest) × (ts ≡ put (Ans 2) k ∷ []))

pub begins : (w n : ℕ) (r : Row) → firing (Assign w) (at Rest n) (Req 2) ≡ Some r → LeadsOn w (r.next 0) (r.puts 0)
begins w n r by =
    let leads = (assigns_do w).begins n 0 r by in
    let low : 0 < 2 = omega arith in
    let small : 0 < 2 ^ 0 = pow_pos 0 in inl (0, 0, low, ap (λ (q : State). waits_at q.phase) leads.0, leads.1, small)

goes_on_at : (w : ℕ) (p : Phase) (n h v : ℕ) (r : Row) → waits_at p ≡ Some h → v < 2 ^ answer_bits h w → firing (Assign w) (at p n) (Ans h) ≡ Some r
    → LeadsOn w (r.next v) (r.puts v)
goes_on_at w Value n h v r is fits by =
    let same : 0 ≡ h = same_Some 0 h is in
    let by_first : firing (Assign w) (at Value n) (Ans 0) ≡ Some r = subst (λ (k : ℕ). firing (Assign w) (at Value n) (Ans k) ≡ Some r) (sym same) by in
    let fits_first : v < 2 ^ w = subst (λ (k : ℕ). v < 2 ^ answer_bits k w) (sym same) fits in
    let leads = (assigns_do w).writes n v r by_first in
    let low : 1 < 2 = omega arith in inl (1, v, low, ap (λ (q : State). waits_at q.phase) leads.0, leads.1, fits_first)
goes_on_at w Writing n h v r is fits by =
    let same : 1 ≡ h = same_Some 1 h is in
    let by_second : firing (Assign w) (at Writing n) (Ans 1) ≡ Some r = subst (λ (k : ℕ). firing (Assign w) (at Writing n) (Ans k) ≡ Some r) (sym same) by in
    let leads = (assigns_do w).ends n v r by_second in inr (0, ap (λ (q : State). q.phase) leads.0, leads.1)
goes_on_at w p n h v r is fits by = absurd (none-some h is)

pub goes_on : (w : ℕ) (q : State) (h v : ℕ) (r : Row) → waits_at q.phase ≡ Some h → v < 2 ^ answer_bits h w → firing (Assign w) q (Ans h) ≡ Some r
    → LeadsOn w (r.next v) (r.puts v)
goes_on w q h v r is fits by = goes_on_at w q.phase q.number h v r is fits by

pub no_other : (w : ℕ) (q : State) (slot : Slot) (r : Row) → firing (Assign w) q slot ≡ Some r
    → ((q.phase ≡ Rest) × (slot ≡ Req 2)) ⊎ ((h : ℕ) × (waits_at q.phase ≡ Some h) × (slot ≡ Ans h))
no_other w q slot r by =
    elim ((assigns_do w).no_other q slot r by) [
      | inl rest ↦ inl rest
      | inr (inl value) ↦ inr (0, ap waits_at value.0, value.1)
      | inr (inr writing) ↦ inr (1, ap waits_at writing.0, writing.1)
    ]

takes_at : (w : ℕ) (p : Phase) (n h : ℕ) → waits_at p ≡ Some h → (r : Row) × (firing (Assign w) (at p n) (Ans h) ≡ Some r)
takes_at w Value n h is =
    subst (λ (k : ℕ). (r : Row) × (firing (Assign w) (at Value n) (Ans k) ≡ Some r)) (same_Some 0 h is) (_, refl)
takes_at w Writing n h is =
    subst (λ (k : ℕ). (r : Row) × (firing (Assign w) (at Writing n) (Ans k) ≡ Some r)) (same_Some 1 h is) (_, refl)
takes_at w p n h is = absurd (none-some h is)

pub takes_answer : (w : ℕ) (q : State) (h : ℕ) → waits_at q.phase ≡ Some h → (r : Row) × (firing (Assign w) q (Ans h) ≡ Some r)
takes_answer w q h is = takes_at w q.phase q.number h is

pub takes_request : (w n : ℕ) → (r : Row) × (firing (Assign w) (at Rest n) (Req 2) ≡ Some r)
takes_request w n = (_, refl)

-- at rest it waits for nothing
pub none_at_rest : (p : Phase) (h : ℕ) → p ≡ Rest → waits_at p ≡ Some h → ⊥
none_at_rest p h rests is = none-some h (ap waits_at (sym rests) ∙ is)

-- what it puts
waiting : (p : Phase) (h : ℕ) → waits_at p ≡ Some h → ((p ≡ Value) × (h ≡ 0)) ⊎ ((p ≡ Writing) × (h ≡ 1))
waiting Value h is = inl (refl, sym (same_Some 0 h is))
waiting Writing h is = inr (refl, sym (same_Some 1 h is))
waiting p h is = absurd (none-some h is)

-- a stage is asked at another handshake than that by which the Assign is run
pub asked_apart : (p : Phase) (h : ℕ) → waits_at p ≡ Some h → h ≡ 2 → ⊥
asked_apart p h is run =
    elim (waiting p h is) [
      | inl value ↦ omega (arith, run, value.1)
      | inr writing ↦ omega (arith, run, writing.1)
    ]

pub asks_number : (w : ℕ) (q : State) (r : Row) → q.phase ≡ Rest → firing (Assign w) q (Req 2) ≡ Some r → r.puts 0 ≡ put (Req 0) 0 ∷ []
asks_number w q r rests by =
    ((assigns_do w).begins q.number 0 r (subst (λ (p : Phase). firing (Assign w) (at p q.number) (Req 2) ≡ Some r) rests by)).1

pub asks_write : (w : ℕ) (q : State) (v : ℕ) (r : Row) → waits_at q.phase ≡ Some 0 → firing (Assign w) q (Ans 0) ≡ Some r → r.puts v ≡ put (Req 1) v ∷ []
asks_write w q v r is by =
    elim (waiting q.phase 0 is) [
      | inl value ↦ ((assigns_do w).writes q.number v r (subst (λ (p : Phase). firing (Assign w) (at p q.number) (Ans 0) ≡ Some r) value.0 by)).1
      | inr writing ↦ absurd (omega (arith, writing.1))
    ]

pub answers_zero : (w : ℕ) (q : State) (v : ℕ) (r : Row) → waits_at q.phase ≡ Some 1 → firing (Assign w) q (Ans 1) ≡ Some r → r.puts v ≡ put (Ans 2) 0 ∷ []
answers_zero w q v r is by =
    elim (waiting q.phase 1 is) [
      | inl value ↦ absurd (omega (arith, value.1))
      | inr writing ↦ ((assigns_do w).ends q.number v r (subst (λ (p : Phase). firing (Assign w) (at p q.number) (Ans 1) ≡ Some r) writing.0 by)).1
    ]
