-- A part takes answers and puts requests where it asks, and the others where it serves: the table of all kinds, Share
-- among them.
use Rattle.std.specs.Prelude.{None, option_map}
use Rattle.std.proofs.Common.{◌≡◌, inl, inr, ◌⊎◌, ℕ, zero, suc, ◌+◌, ◌*◌, Bool, List, [], ◌∷◌, ◌++◌, length, Some, slice_get, refl, sym, ◌∙◌, ap, subst, arith}
use Rattle.std.proofs.lemmas.Option.{slice_get_past, slice_get-map}
use Rattle.std.proofs.lemmas.List.{length-map, length-append}
use Rattle.gos_types.specs.declared.shakes.Role.{Role}
use Rattle.gos_types.specs.declared.shakes.Role.TheVariants.{Serve, Ask}
use Rattle.gos_types.specs.Types.{Type'}
use Rattle.gos_types.specs.Handshakes.{turned}
use Rattle.gos_types.proofs.ListLemmas.{found_in_front}
use Rattle.gos_plan.specs.Kinds.{Part, Share, Contact, contacts_of, other_side, turned_contact, part_contacts}
use Rattle.gos_plan.specs.Firing.{Phase, State, at, Slot, Req, Ans, Token, Row, rows, shared_rows, firing}
use Rattle.gos_plan.specs.Tokens.{shake_of}
use Rattle.gos_plan.specs.Turns.{IsUnshared}
use Rattle.gos_plan.proofs.ShareTableLemmas.{share_table}
use Rattle.gos_plan.proofs.RowLemmas.{HasRole, role_taking, role_putting, Turns, RowKeeps, EachRow, row_with, table}

-- the part doesn't serve at this handshake
abbrev pub NotServing : Part → ℕ → Type 0
NotServing k h = (c : Contact) → slice_get (part_contacts k) h ≡ Some c → c.role ≡ Serve → ⊥

-- it asks where it takes an answer, and where it puts a request
abbrev pub TakesAsking : Part → Slot → Type 0
TakesAsking k (Req h) = Unit {0}
TakesAsking k (Ans h) = NotServing k h

abbrev pub RequestAsks : Part → Slot → Type 0
RequestAsks k (Req h) = NotServing k h
RequestAsks k (Ans h) = Unit {0}

abbrev pub PutsAsking : Part → List Token → Type 0
PutsAsking k [] = Unit {0}
PutsAsking k (t ∷ ts) = RequestAsks k t.slot × PutsAsking k ts

abbrev pub RowAsks : Part → ℕ → Row → Type 0
RowAsks k v r = TakesAsking k r.takes × PutsAsking k (r.puts v)

-- the role of the part at a handshake, where it has it
abbrev pub RoleIs : Part → ℕ → Role → Type 0
RoleIs k h role = (c : Contact) → slice_get (part_contacts k) h ≡ Some c → c.role ≡ role

-- each token is put in the role that puts it, and taken in the role that takes it
abbrev pub PutsInRole : Part → List Token → Type 0
PutsInRole k [] = Unit {0}
PutsInRole k (t ∷ ts) = RoleIs k (shake_of t.slot) (role_putting t.slot) × PutsInRole k ts

abbrev pub RowInRole : Part → ℕ → Row → Type 0
RowInRole k v r = RoleIs k (shake_of r.takes) (role_taking r.takes) × PutsInRole k (r.puts v)

role_of : (k : Part) (h : ℕ) (c : Contact) → slice_get (part_contacts k) h ≡ Some c → RoleIs k h c.role
role_of k h c there d also = let same : c ≡ d = cc (there, also) in ap (λ (x : Contact). x.role) (sym same)

-- so it is with the rows that keep turns, which are those of every kind but Share
having : (k : Part) (h : ℕ) (role : Role) → HasRole k h role → RoleIs k h role
having k h role (c, there, is) = subst (RoleIs k h) is (role_of k h c there)

putting : (k : Part) (ts : List Token) (engaged after : ℕ → Bool) → Turns k engaged ts after → PutsInRole k ts
putting k [] engaged after turns = tt
putting k (t ∷ ts) engaged after turns = (having k (shake_of t.slot) (role_putting t.slot) turns.0, putting k ts _ after turns.2)

each_is : (P Q : Row → Type 0) (rs : List Row) → ((r : Row) → P r → Q r) → EachRow P rs → EachRow Q rs
each_is P Q [] f h = tt
each_is P Q (r ∷ rs) f h = (f r h.0, each_is P Q rs f h.1)

unshared_rows : (k : Part) (p : Phase) (n v : ℕ) → IsUnshared k → EachRow (RowInRole k v) (rows k p n)
unshared_rows k p n v u =
    each_is (RowKeeps k (at p n) v) (RowInRole k v) (rows k p n)
    (λ r keeps. (having k (shake_of r.takes) (role_taking r.takes) keeps.0, putting k (r.puts v) _ _ keeps.1)) (table k p n v u)

-- where the handshakes of a Share stand: the source's, and behind them those of each caller
pub behind : (xs ys : List Contact) (m n : ℕ) → n ≡ length xs + m → slice_get (xs ++ ys) n ≡ slice_get ys m
behind [] ys m n e = let same : n ≡ m = omega (arith, e) in ap (slice_get ys) same
behind (x ∷ xs) ys m zero e = absurd (omega (arith, e))
behind (x ∷ xs) ys m (suc n) e = behind xs ys m n (omega (arith, e))

-- the handshake of the source, and that of a caller: the callers are 0 and 1
pub source_at : (t : Type') (j : ℕ) (c : Contact) → slice_get (contacts_of t) j ≡ Some c → slice_get (part_contacts (Share t)) j ≡ Some (turned_contact c)
source_at t j c there =
    found_in_front (other_side (contacts_of t)) (contacts_of t ++ contacts_of t) j (turned_contact c)
    (slice_get-map turned_contact (contacts_of t) j ∙ ap (option_map turned_contact) there)

sources : (t : Type') → length (other_side (contacts_of t)) ≡ length (contacts_of t)
sources t = length-map (contacts_of t) turned_contact

pub first_caller_at : (t : Type') (j : ℕ) (c : Contact) → slice_get (contacts_of t) j ≡ Some c → slice_get (part_contacts (Share t)) (length (contacts_of t) + j) ≡ Some c
first_caller_at t j c there =
    behind (other_side (contacts_of t)) (contacts_of t ++ contacts_of t) j (length (contacts_of t) + j) (omega (arith, sources t))
    ∙ found_in_front (contacts_of t) (contacts_of t) j c there

pub second_caller_at : (t : Type') (j : ℕ) (c : Contact) → slice_get (contacts_of t) j ≡ Some c
    → slice_get (part_contacts (Share t)) (length (contacts_of t) + length (contacts_of t) + j) ≡ Some c
second_caller_at t j c there =
    behind (other_side (contacts_of t)) (contacts_of t ++ contacts_of t) (length (contacts_of t) + j) (length (contacts_of t) + length (contacts_of t) + j)
    (omega (arith, sources t))
    ∙ (behind (contacts_of t) (contacts_of t) j (length (contacts_of t) + j) refl ∙ there)

pub caller_at : (t : Type') (b j : ℕ) (c : Contact) → slice_get (contacts_of t) j ≡ Some c
    → (slice_get (part_contacts (Share t)) (length (contacts_of t) + b * length (contacts_of t) + j) ≡ Some c)
    ⊎ (slice_get (part_contacts (Share t)) (length (contacts_of t) + b * length (contacts_of t) + j) ≡ None)
caller_at t b j c there = by_branch b
  where
    size : ℕ
    size = length (contacts_of t)

    by_branch : (b : ℕ) → (slice_get (part_contacts (Share t)) (size + b * size + j) ≡ Some c) ⊎ (slice_get (part_contacts (Share t)) (size + b * size + j) ≡ None)
    by_branch zero =
        let is : size + 0 * size + j ≡ size + j = omega arith in
        inl (ap (slice_get (part_contacts (Share t))) is ∙ first_caller_at t j c there)
    by_branch (suc zero) =
        let is : size + 1 * size + j ≡ size + size + j = omega arith in
        inl (ap (slice_get (part_contacts (Share t))) is ∙ second_caller_at t j c there)
    by_branch (suc (suc b)) =
        let whole : length (other_side (contacts_of t) ++ (contacts_of t ++ contacts_of t)) ≡ size + (size + size) =
        length-append (other_side (contacts_of t)) (contacts_of t ++ contacts_of t) ∙ (λ i. sources t i + length-append (contacts_of t) (contacts_of t) i) in
        inr (slice_get_past (other_side (contacts_of t) ++ (contacts_of t ++ contacts_of t)) (size + suc (suc b) * size + j) (omega (arith, whole)))

source_role : (t : Type') (j : ℕ) (c : Contact) (role : Role) → slice_get (contacts_of t) j ≡ Some c → c.role ≡ role → RoleIs (Share t) j (turned role)
source_role t j c role there is = subst (λ (r : Role). RoleIs (Share t) j (turned r)) is (role_of (Share t) j (turned_contact c) (source_at t j c there))

caller_role : (t : Type') (b j : ℕ) (c : Contact) (role : Role) → slice_get (contacts_of t) j ≡ Some c → c.role ≡ role
    → RoleIs (Share t) (length (contacts_of t) + b * length (contacts_of t) + j) role
caller_role t b j c role there is =
    elim (caller_at t b j c there) [
      | inl here ↦ subst (RoleIs (Share t) (length (contacts_of t) + b * length (contacts_of t) + j)) is (role_of (Share t) (length (contacts_of t) + b * length (contacts_of t) + j) c here)
      | inr past ↦ λ d other. let none : None ≡ Some d = sym past ∙ other in absurd (cc none)
    ]

share_roles : (t : Type') (b v j : ℕ) (c : Contact) → slice_get (contacts_of t) j ≡ Some c
    → EachRow (RowInRole (Share t) v) (shared_rows c.role (length (contacts_of t)) j b)
share_roles t b v j c here = of_role c.role refl
  where
    size : ℕ
    size = length (contacts_of t)

    of_role : (role : Role) → c.role ≡ role → EachRow (RowInRole (Share t) v) (shared_rows role size j b)
    of_role Serve is =
        let source = source_role t j c Serve here is in
        let first = subst (RoleIs (Share t) (size + j)) is (role_of (Share t) (size + j) c (first_caller_at t j c here)) in
        let second = subst (RoleIs (Share t) (size + size + j)) is (role_of (Share t) (size + size + j) c (second_caller_at t j c here)) in
        ((first, (source, tt)), ((second, (source, tt)), ((source, (caller_role t b j c Serve here is, tt)), tt)))
    of_role Ask is =
        let source = source_role t j c Ask here is in
        let caller = caller_role t b j c Ask here is in
        ((source, (caller, tt)), ((caller, (source, tt)), tt))

all_rows : (k : Part) (p : Phase) (n v : ℕ) → EachRow (RowInRole k v) (rows k p n)
all_rows (Share t) p n v = share_table (RowInRole (Share t) v) t n (share_roles t n v) p
all_rows k p n v = unshared_rows k p n v (λ t e. cc e)

-- each firing of a part takes and puts in its roles
pub row_roles : (k : Part) (q : State) (t : Slot) (r : Row) (v : ℕ) → firing k q t ≡ Some r → (r.takes ≡ t) × RowInRole k v r
row_roles k q t r v e = row_with (RowInRole k v) t (rows k q.phase q.number) r (all_rows k q.phase q.number v) e

-- so it asks where it takes answers and puts requests
asking : (k : Part) (h : ℕ) → RoleIs k h Ask → NotServing k h
asking k h role c there serves = let other : Ask ≡ Serve = sym (role c there) ∙ serves in cc other

taking : (k : Part) (t : Slot) → RoleIs k (shake_of t) (role_taking t) → TakesAsking k t
taking k (Req h) role = tt
taking k (Ans h) role = asking k h role

requesting : (k : Part) (t : Slot) → RoleIs k (shake_of t) (role_putting t) → RequestAsks k t
requesting k (Req h) role = asking k h role
requesting k (Ans h) role = tt

all_asking : (k : Part) (ts : List Token) → PutsInRole k ts → PutsAsking k ts
all_asking k [] roles = tt
all_asking k (t ∷ ts) roles = (requesting k t.slot roles.0, all_asking k ts roles.1)

pub row_asks : (k : Part) (q : State) (t : Slot) (r : Row) (v : ℕ) → firing k q t ≡ Some r → (r.takes ≡ t) × RowAsks k v r
row_asks k q t r v e = let row = row_roles k q t r v e in (row.0, (taking k r.takes row.1.0, all_asking k (r.puts v) row.1.1))
