-- Of the callers of a Share one at most is asked at each handshake that the source asks, and then the source waits.
-- So a Share ties what it puts to what it takes.
use Rattle.std.proofs.Common.{◌≡◌, inl, inr, ℕ, ◌+◌, ◌*◌, ◌<◌, Bool, true, false, length, Some, slice_get, refl, sym, ◌∙◌, ap, subst, arith, nat_eq, if◌then◌else◌}
use Rattle.std.proofs.lemmas.Option.{slice_get_within}
use Rattle.std.proofs.lemmas.Bool.{eqb-true}
use Rattle.gos_types.specs.declared.shakes.Role.TheVariants.{Ask}
use Rattle.gos_types.specs.Types.{Type'}
use Rattle.gos_types.specs.Events.{Request, Answer}
use Rattle.gos_plan.specs.Kinds.{Part, Share, Contact, contacts_of}
use Rattle.gos_plan.specs.Firing.{State, Slot, Req, Ans, Row, same_slot, firing}
use Rattle.gos_plan.specs.Plans.{End, PartEnd, Plan, IsRight}
use Rattle.gos_plan.specs.Tokens.{Tokens, places_of, end_of, way_of, token_at}
use Rattle.gos_plan.specs.Orderly.{Open}
use Rattle.gos_plan.proofs.HeldLemmas.{AllFit}
use Rattle.gos_plan.proofs.AskingLemmas.{TakesAsking, row_asks}
use Rattle.gos_plan.proofs.ProjectionLemmas.{named}
use Rattle.gos_realises.proofs.quiet.RankLemmas.{taken_at}
use Rattle.gos_realises.proofs.quiet.QuietLemmas.{lies_open}
use Rattle.gos_realises.proofs.quiet.TieLemmas.{Passed, Tied, is_put}
use Rattle.gos_realises.proofs.quiet.FrameLemmas.{Busy}
use Rattle.gos_realises.proofs.quiet.LadderLemmas.{LawAt}
use Rattle.gos_realises.proofs.quiet.SharedLemmas.{caller, one_shake, Passes, asked_first, asked_second, answered_source, asked_source, answered_caller, shared_row}

-- caller x alone is asked at handshake j, and the source waits
pub record Lone (p : Plan) (o : Open) (s : Tokens) (i n x j : ℕ) : Type 0 where
  pub place : End
  pub there : places_of p (PartEnd i j) ≡ Some place
  pub busy : Busy o s place
  pub only : (y : ℕ) → o (PartEnd i (caller n y j)) ≡ true → caller n y j ≡ caller n x j

abbrev pub Alone : Plan → Open → Tokens → Type 0
Alone p o s =
    (i : ℕ) (t : Type') (j : ℕ) (c : Contact) → slice_get p.parts i ≡ Some (Share t) → slice_get (contacts_of t) j ≡ Some c → c.role ≡ Ask
    → (x : ℕ) → o (PartEnd i (caller (length (contacts_of t)) x j)) ≡ true → Lone p o s i (length (contacts_of t)) x j

-- where an answer lies for a part, its handshake is open
pub answer_open : (p : Plan) (i h : ℕ) (k : Part) (v : ℕ) (o : Open) (s : Tokens) → IsRight p → AllFit o s → slice_get p.parts i ≡ Some k
    → TakesAsking k (Ans h) → token_at p s (PartEnd i h) Answer ≡ Some v → o (PartEnd i h) ≡ true
answer_open p i h k v o s right fit is asks lies =
    let at = taken_at p (PartEnd i h) Answer v s lies in
    let e = at.joint.asking in
    ap o (sym (named p i h k right is asks) ∙ at.named) ∙ lies_open (o e) (s.in_place Request e) (s.in_place Answer e) v (fit e) (inr at.lies)

pub one_put : (n m : ℕ) → (if nat_eq n m then true else false) ≡ true → n ≡ m
one_put n m e = grind (arith, e)

pub unlike : (n m : ℕ) → (n ≡ m → ⊥) → (if nat_eq n m then true else false) ≡ false
unlike n m apart = by_test (nat_eq n m) refl
  where
    by_test : (b : Bool) → nat_eq n m ≡ b → (if b then true else false) ≡ false
    by_test true e = absurd (apart (eqb-true n m e))
    by_test false e = refl

pub differ : (n m : ℕ) → nat_eq n m ≡ false → n ≡ m → ⊥
differ n m e same = grind (arith, e, same)

-- the law of a row
law_of_row : (p : Plan) (o : Open) (s : Tokens) (i : ℕ) (t : Type') (q : State) (v : ℕ) (r : Row) (j : ℕ) (c : Contact) → Alone p o s
    → slice_get p.parts i ≡ Some (Share t) → slice_get (contacts_of t) j ≡ Some c → ((h : ℕ) → r.takes ≡ Ans h → o (PartEnd i h) ≡ true)
    → Passes (length (contacts_of t)) q.number j c.role v r → LawAt p o i (Share t) q v r
law_of_row p o s i t q v r j c alone is there open_answer passes a b = (first r passes, second r passes open_answer)
  where
    n : ℕ
    n = length (contacts_of t)

    low : j < n
    low = slice_get_within (contacts_of t) j c there

    first : (r : Row) → Passes (length (contacts_of t)) q.number j c.role v r → is_put (Req a) (r.puts v) ≡ true → same_slot r.takes (Req b) ≡ true
        → Tied (Share t) (r.next v) a b × (is_put (Ans b) (r.puts v) ≡ false)
    first r (asked_first role) put takes =
        let one = one_put j a put in
        let two = eqb-true (n + j) b takes in
        ((j, c, there, inl (role, sym one, inl (sym two))), refl)
    first r (asked_second role) put takes =
        let one = one_put j a put in
        let two = eqb-true (n + n + j) b takes in
        ((j, c, there, inl (role, sym one, inr (sym two))), refl)
    first r (answered_source role) put takes = absurd (cc put)
    first r (asked_source role) put takes =
        let one = one_put (caller n q.number j) a put in
        let two = eqb-true j b takes in
        ((j, c, there, inr (role, sym two, q.number, sym one)), refl)
    first r (answered_caller role) put takes = absurd (cc put)

    not_from_source : Passed (contacts_of t) a b → nat_eq j a ≡ false → caller n q.number j ≡ b → ⊥
    not_from_source (k, d, at, inl (role, one, inl two)) other same =
        let first_caller : caller n q.number j ≡ caller n 0 k = same ∙ (two ∙ omega arith) in
        differ j a other (one_shake n q.number 0 j k low (slice_get_within (contacts_of t) k d at) first_caller ∙ sym one)
    not_from_source (k, d, at, inl (role, one, inr two)) other same =
        let second_caller : caller n q.number j ≡ caller n 1 k = same ∙ (two ∙ omega arith) in
        differ j a other (one_shake n q.number 1 j k low (slice_get_within (contacts_of t) k d at) second_caller ∙ sym one)
    not_from_source (k, d, at, inr (role, one, x, two)) other same =
        let less = slice_get_within (contacts_of t) k d at in
        let all : n + q.number * n + j ≡ k = same ∙ one in
        omega (arith, less, all)

    not_from_caller : Passed (contacts_of t) a b → o (PartEnd i a) ≡ true → nat_eq (caller n q.number j) a ≡ false
        → o (PartEnd i (caller n q.number j)) ≡ true → j ≡ b → ⊥
    not_from_caller (k, d, at, inl (role, one, inl two)) opened other up same = let all : j ≡ n + k = same ∙ two in omega (arith, low, all)
    not_from_caller (k, d, at, inl (role, one, inr two)) opened other up same = let all : j ≡ n + n + k = same ∙ two in omega (arith, low, all)
    not_from_caller (k, d, at, inr (role, one, x, two)) opened other up same =
        let here : j ≡ k = same ∙ one in
        let lone = alone i t k d is at role x (subst (λ (h : ℕ). o (PartEnd i h) ≡ true) two opened) in
        differ (caller n q.number j) a other
        (ap (caller n q.number) here ∙ (lone.only q.number (subst (λ (h : ℕ). o (PartEnd i (caller n q.number h)) ≡ true) here up) ∙ sym two))

    second : (r : Row) → Passes (length (contacts_of t)) q.number j c.role v r → ((h : ℕ) → r.takes ≡ Ans h → o (PartEnd i h) ≡ true)
        → Tied (Share t) q a b → o (PartEnd i a) ≡ true → same_slot r.takes (Ans a) ≡ false
        → (is_put (Ans b) (r.puts v) ≡ false) × Tied (Share t) (r.next v) a b
    second r (asked_first role) up tied opened other = (refl, tied)
    second r (asked_second role) up tied opened other = (refl, tied)
    second r (answered_source role) up tied opened other = (unlike (caller n q.number j) b (not_from_source tied other), tied)
    second r (asked_source role) up tied opened other = (refl, tied)
    second r (answered_caller role) up tied opened other =
        (unlike j b (not_from_caller tied opened other (up (caller n q.number j) refl)), tied)

pub share_law : (p : Plan) (o : Open) (s : Tokens) (i : ℕ) (t : Type') (slot : Slot) (r : Row) (v : ℕ) → IsRight p → AllFit o s → Alone p o s
    → slice_get p.parts i ≡ Some (Share t) → token_at p s (end_of i slot) (way_of slot) ≡ Some v → firing (Share t) (s.state i) slot ≡ Some r
    → LawAt p o i (Share t) (s.state i) v r
share_law p o s i t slot r v right fit alone is lies fires =
    let row = shared_row t (s.state i) slot r v fires in
    law_of_row p o s i t (s.state i) v r row.shake row.contact alone is row.there open_answer row.passes
  where
    asks : (r.takes ≡ slot) × TakesAsking (Share t) r.takes
    asks = let row = row_asks (Share t) (s.state i) slot r v fires in (row.0, row.1.0)

    open_answer : (h : ℕ) → r.takes ≡ Ans h → o (PartEnd i h) ≡ true
    open_answer h takes =
        let slot_is : slot ≡ Ans h = sym asks.0 ∙ takes in
        answer_open p i h (Share t) v o s right fit is (subst (TakesAsking (Share t)) takes asks.1)
        (subst (λ (x : Slot). token_at p s (end_of i x) (way_of x) ≡ Some v) slot_is lies)
