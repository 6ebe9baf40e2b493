-- The Share of a ground type: its handshakes, the tokens that it takes, and the branch that it is left at.
use Rattle.std.specs.Prelude.{◌+◌, ◌*◌, ◌<◌, slice_get}
use Rattle.std.proofs.Common.{◌≡◌, ℕ, zero, suc, Some, inl, inr, refl, sym, ◌∙◌, ap, subst, arith}
use Rattle.std.proofs.lemmas.Option.{slice_get_within, none-some}
use Rattle.gos_types.specs.Types.{Type', Com, Exp, Var, Pair, Fun, IsGround}
use Rattle.gos_types.specs.declared.shakes.Role.{Role}
use Rattle.gos_types.specs.declared.shakes.Role.TheVariants.{Serve, Ask}
use Rattle.gos_types.specs.Events.{Request, Answer}
use Rattle.gos_realises.specs.realises.Regular.{count}
use Rattle.gos_plan.specs.Kinds.{Contact, asks, serves, Share, contacts_of, part_contacts}
use Rattle.gos_plan.specs.Firing.{Rest, State, at, Slot, Req, Ans, Row, rows, row_for, shared_rows, firing}
use Rattle.gos_plan.specs.Tokens.{shake_of, way_of, way_taken}
use Rattle.gos_plan.proofs.RowLemmas.{EachRow}
use Rattle.gos_plan.proofs.ShareTableLemmas.{share_row}
use Rattle.gos_sharing.specs.sharing.Sharing.{IsForCaller}
use Rattle.gos_sharing.proofs.sharing.ShareRowLemmas.{first_caller, second_caller, same_branch}

-- a row that fires for caller c leaves the branch at c
abbrev NextIf : Type' → ℕ → ℕ → Row → Type 0
NextIf t c b r = IsForCaller t c b (shake_of r.takes) → (v : ℕ) → r.next v ≡ at Rest c

of_first : (t : Type') (c b j : ℕ) → j < count t → IsForCaller t c b (count t + j) → at Rest 0 ≡ at Rest c
of_first t c b j lt (inl h) = ap (at Rest) (sym (first_caller (count t) j c lt h.0))
of_first t c b j lt (inr h) = absurd (omega (arith, h.0))

of_second : (t : Type') (c b j : ℕ) → c < 2 → j < count t → IsForCaller t c b (count t + count t + j) → at Rest 1 ≡ at Rest c
of_second t c b j two lt (inl h) = ap (at Rest) (sym (second_caller (count t) j c two h.1))
of_second t c b j two lt (inr h) = absurd (omega (arith, h.0))

of_source : (t : Type') (c b j : ℕ) → j < count t → IsForCaller t c b j → at Rest b ≡ at Rest c
of_source t c b j lt (inl h) = absurd (omega (arith, h.0, lt))
of_source t c b j lt (inr h) = ap (at Rest) h.1

of_branch : (t : Type') (c b j : ℕ) → c < 2 → j < count t → IsForCaller t c b (count t + b * count t + j) → at Rest b ≡ at Rest c
of_branch t c b j two lt (inl h) = ap (at Rest) (same_branch (count t) j b c two lt h.0 h.1)
of_branch t c b j two lt (inr h) = absurd (omega (arith, h.0))

next_of : (t : Type') (c b j : ℕ) (role : Role) → c < 2 → j < count t → EachRow (NextIf t c b) (shared_rows role (count t) j b)
next_of t c b j Serve two lt = (
  λ for v. of_first t c b j lt for,
  ((λ for v. of_second t c b j two lt for), ((λ for v. of_source t c b j lt for), tt)),
)
next_of t c b j Ask two lt = ((λ for v. of_source t c b j lt for), ((λ for v. of_branch t c b j two lt for), tt))

pub next_rests : (t : Type') (c : ℕ) → c < 2 → (x : State) (slot : Slot) (row : Row) (v : ℕ)
    → firing (Share t) x slot ≡ Some row → IsForCaller t c x.number (shake_of slot) → row.next v ≡ at Rest c
next_rests t c two x slot row v by for =
    let found = share_row (NextIf t c x.number) t x slot row (λ j k at. next_of t c x.number j k.role two (slice_get_within (contacts_of t) j k at)) by in
    found.1 (subst (λ (y : Slot). IsForCaller t c x.number (shake_of y)) (sym found.0) for) v

-- where it asks, and where it serves
abbrev pub OfCaller : Type' → ℕ → Type 0
OfCaller t h = (b : ℕ) × (j : ℕ) × (b < 2) × (j < count t) × (h ≡ count t + b * count t + j)

asks_or_serves : (k : Contact) (q a : ℕ) → Some (asks q a) ≡ Some k → k.role ≡ Serve → ⊥
asks_or_serves k q a there role = cc (there, role)

serves_or_asks : (k : Contact) (q a : ℕ) → Some (serves q a) ≡ Some k → k.role ≡ Ask → ⊥
serves_or_asks k q a there role = cc (there, role)

pub source_asks : (t : Type') (h : ℕ) (k : Contact) → IsGround t → slice_get (part_contacts (Share t)) h ≡ Some k → k.role ≡ Ask → h < count t
source_asks Com zero k g there role = omega arith
source_asks Com (suc zero) k g there role = absurd (serves_or_asks k 0 0 there role)
source_asks Com (suc (suc zero)) k g there role = absurd (serves_or_asks k 0 0 there role)
source_asks Com (suc (suc (suc h))) k g there role = absurd (none-some k there)
source_asks (Exp w) zero k g there role = omega arith
source_asks (Exp w) (suc zero) k g there role = absurd (serves_or_asks k 0 w there role)
source_asks (Exp w) (suc (suc zero)) k g there role = absurd (serves_or_asks k 0 w there role)
source_asks (Exp w) (suc (suc (suc h))) k g there role = absurd (none-some k there)
source_asks (Var w) zero k g there role = omega arith
source_asks (Var w) (suc zero) k g there role = omega arith
source_asks (Var w) (suc (suc zero)) k g there role = absurd (serves_or_asks k 0 w there role)
source_asks (Var w) (suc (suc (suc zero))) k g there role = absurd (serves_or_asks k w 0 there role)
source_asks (Var w) (suc (suc (suc (suc zero)))) k g there role = absurd (serves_or_asks k 0 w there role)
source_asks (Var w) (suc (suc (suc (suc (suc zero))))) k g there role = absurd (serves_or_asks k w 0 there role)
source_asks (Var w) (suc (suc (suc (suc (suc (suc h)))))) k g there role = absurd (none-some k there)
source_asks (Pair a b) h k g there role = absurd g
source_asks (Fun a b) h k g there role = absurd g

pub callers_serve : (t : Type') (h : ℕ) (k : Contact) → IsGround t → slice_get (part_contacts (Share t)) h ≡ Some k → k.role ≡ Serve → OfCaller t h
callers_serve Com zero k g there role = absurd (asks_or_serves k 0 0 there role)
callers_serve Com (suc zero) k g there role = (0, 0, omega arith, omega arith, refl)
callers_serve Com (suc (suc zero)) k g there role = (1, 0, omega arith, omega arith, refl)
callers_serve Com (suc (suc (suc h))) k g there role = absurd (none-some k there)
callers_serve (Exp w) zero k g there role = absurd (asks_or_serves k 0 w there role)
callers_serve (Exp w) (suc zero) k g there role = (0, 0, omega arith, omega arith, refl)
callers_serve (Exp w) (suc (suc zero)) k g there role = (1, 0, omega arith, omega arith, refl)
callers_serve (Exp w) (suc (suc (suc h))) k g there role = absurd (none-some k there)
callers_serve (Var w) zero k g there role = absurd (asks_or_serves k 0 w there role)
callers_serve (Var w) (suc zero) k g there role = absurd (asks_or_serves k w 0 there role)
callers_serve (Var w) (suc (suc zero)) k g there role = (0, 0, omega arith, omega arith, refl)
callers_serve (Var w) (suc (suc (suc zero))) k g there role = (0, 1, omega arith, omega arith, refl)
callers_serve (Var w) (suc (suc (suc (suc zero)))) k g there role = (1, 0, omega arith, omega arith, refl)
callers_serve (Var w) (suc (suc (suc (suc (suc zero))))) k g there role = (1, 1, omega arith, omega arith, refl)
callers_serve (Var w) (suc (suc (suc (suc (suc (suc h)))))) k g there role = absurd (none-some k there)
callers_serve (Pair a b) h k g there role = absurd g
callers_serve (Fun a b) h k g there role = absurd g

-- at rest it takes each token that it may be given
abbrev Takes : Type' → Slot → ℕ → Type 0
Takes t slot b = (row : Row) × (firing (Share t) (at Rest b) slot ≡ Some row)

request_served : (role : Role) → way_taken role ≡ Request → role ≡ Serve
request_served Serve e = refl
request_served Ask e = cc e

answer_asked : (role : Role) → way_taken role ≡ Answer → role ≡ Ask
answer_asked Serve e = cc e
answer_asked Ask e = refl

takes_request : (t : Type') (h b : ℕ) → IsGround t → OfCaller t h → Takes t (Req h) b
takes_request Com h n g (zero, zero, two, lt, e) = subst (λ (x : ℕ). Takes Com (Req x) n) (sym e) (_, refl)
takes_request Com h n g (suc zero, zero, two, lt, e) = subst (λ (x : ℕ). Takes Com (Req x) n) (sym e) (_, refl)
takes_request Com h n g (b, suc j, two, lt, e) = absurd (omega (arith, lt))
takes_request Com h n g (suc (suc b), j, two, lt, e) = absurd (omega (arith, two))
takes_request (Exp w) h n g (zero, zero, two, lt, e) = subst (λ (x : ℕ). Takes (Exp w) (Req x) n) (sym e) (_, refl)
takes_request (Exp w) h n g (suc zero, zero, two, lt, e) = subst (λ (x : ℕ). Takes (Exp w) (Req x) n) (sym e) (_, refl)
takes_request (Exp w) h n g (b, suc j, two, lt, e) = absurd (omega (arith, lt))
takes_request (Exp w) h n g (suc (suc b), j, two, lt, e) = absurd (omega (arith, two))
takes_request (Var w) h n g (zero, zero, two, lt, e) = subst (λ (x : ℕ). Takes (Var w) (Req x) n) (sym e) (_, refl)
takes_request (Var w) h n g (zero, suc zero, two, lt, e) = subst (λ (x : ℕ). Takes (Var w) (Req x) n) (sym e) (_, refl)
takes_request (Var w) h n g (suc zero, zero, two, lt, e) = subst (λ (x : ℕ). Takes (Var w) (Req x) n) (sym e) (_, refl)
takes_request (Var w) h n g (suc zero, suc zero, two, lt, e) = subst (λ (x : ℕ). Takes (Var w) (Req x) n) (sym e) (_, refl)
takes_request (Var w) h n g (b, suc (suc j), two, lt, e) = absurd (omega (arith, lt))
takes_request (Var w) h n g (suc (suc b), j, two, lt, e) = absurd (omega (arith, two))
takes_request (Pair a b) h n g of = absurd g
takes_request (Fun a b) h n g of = absurd g

takes_answer : (t : Type') (h b : ℕ) → IsGround t → h < count t → Takes t (Ans h) b
takes_answer Com zero n g lt = (_, refl)
takes_answer Com (suc h) n g lt = absurd (omega (arith, lt))
takes_answer (Exp w) zero n g lt = (_, refl)
takes_answer (Exp w) (suc h) n g lt = absurd (omega (arith, lt))
takes_answer (Var w) zero n g lt = (_, refl)
takes_answer (Var w) (suc zero) n g lt = (_, refl)
takes_answer (Var w) (suc (suc h)) n g lt = absurd (omega (arith, lt))
takes_answer (Pair a b) h n g lt = absurd g
takes_answer (Fun a b) h n g lt = absurd g

pub share_takes : (t : Type') (slot : Slot) (k : Contact) (x : State) → IsGround t → slice_get (part_contacts (Share t)) (shake_of slot) ≡ Some k
    → way_taken k.role ≡ way_of slot → x.phase ≡ Rest → (row : Row) × (firing (Share t) x slot ≡ Some row)
share_takes t (Req h) k x g there way rests =
    let takes = takes_request t h x.number g (callers_serve t h k g there (request_served k.role way)) in
    (takes.0, ap (λ p. row_for (Req h) (rows (Share t) p x.number)) rests ∙ takes.1)
share_takes t (Ans h) k x g there way rests =
    let takes = takes_answer t h x.number g (source_asks t h k g there (answer_asked k.role way)) in
    (takes.0, ap (λ p. row_for (Ans h) (rows (Share t) p x.number)) rests ∙ takes.1)

-- the handshakes of a ground type are served by its holder
pub ground_serves : (t : Type') (j : ℕ) → IsGround t → j < count t → (k : Contact) × (slice_get (contacts_of t) j ≡ Some k) × (k.role ≡ Serve)
ground_serves Com zero g lt = (_, refl, refl)
ground_serves Com (suc j) g lt = absurd (omega (arith, lt))
ground_serves (Exp w) zero g lt = (_, refl, refl)
ground_serves (Exp w) (suc j) g lt = absurd (omega (arith, lt))
ground_serves (Var w) zero g lt = (_, refl, refl)
ground_serves (Var w) (suc zero) g lt = (_, refl, refl)
ground_serves (Var w) (suc (suc j)) g lt = absurd (omega (arith, lt))
ground_serves (Pair a b) j g lt = absurd g
ground_serves (Fun a b) j g lt = absurd g
