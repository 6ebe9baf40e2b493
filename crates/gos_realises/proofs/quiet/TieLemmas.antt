-- Which handshake a part will not answer while it waits at another: the table of all kinds but Share.
use Rattle.std.specs.Prelude.{◌&&◌, ◌||◌}
use Rattle.std.specs.List.{list_any}
use Rattle.std.proofs.Common.{◌≡◌, ◌⊎◌, ℕ, ◌+◌, ◌*◌, Bool, true, false, List, [], ◌∷◌, length, Some, slice_get, refl, arith, nat_eq, if◌then◌else◌}
use Rattle.gos_types.specs.declared.shakes.Role.TheVariants.{Serve, Ask}
use Rattle.gos_plan.specs.Kinds.{Part, Skip, Lit, Seq, Par, If, While, Op, Not, Assign, Deref, Local, Array, Share, Contact, contacts_of}
use Rattle.gos_plan.specs.Firing.{Phase, Rest, First, Second, Both, LeftOnly, RightOnly, Test, Branch, Body, Left, Right, Waiting, Value, Writing, Active, Cells, Reading, WritingTo, State, at, Slot, Req, Ans, Token, Row, same_slot, rows, firing}
use Rattle.gos_plan.specs.Turns.{IsUnshared}
use Rattle.gos_plan.proofs.RowLemmas.{EachRow, row_with}

-- where a part waits for answers
abbrev pub waits : Part → Phase → ℕ → List ℕ
waits (Seq v) First n = 0 ∷ []
waits (Seq v) Second n = 1 ∷ []
waits Par Both n = 0 ∷ 1 ∷ []
waits Par LeftOnly n = 0 ∷ []
waits Par RightOnly n = 1 ∷ []
waits (If v) Test n = 0 ∷ []
waits (If v) Branch n = (if nat_eq n 1 then 1 else 2) ∷ []
waits While Test n = 0 ∷ []
waits While Body n = 1 ∷ []
waits (Op op w) Left n = 0 ∷ []
waits (Op op w) Right n = 1 ∷ []
waits (Not w) Waiting n = 0 ∷ []
waits (Assign w) Value n = 0 ∷ []
waits (Assign w) Writing n = 1 ∷ []
waits (Deref w) Waiting n = 0 ∷ []
waits (Local w v) Active n = 0 ∷ []
waits (Array w k v) (Cells ns) n = 0 ∷ []
waits (Array w k v) (Reading ns) n = 0 ∷ 1 ∷ []
waits (Array w k v) (WritingTo ns) n = 0 ∷ 1 ∷ []
waits k p n = []

-- the handshake by which a part is run
abbrev pub runs_by : Part → ℕ
runs_by (Seq v) = 2
runs_by Par = 2
runs_by (If v) = 3
runs_by While = 2
runs_by (Op op w) = 2
runs_by (Not w) = 1
runs_by (Assign w) = 2
runs_by (Deref w) = 1
runs_by (Local w v) = 3
runs_by k = 0

-- handshakes a and b of a Share of a type of these handshakes, of which one is passed on to the other
abbrev pub Passed : List Contact → ℕ → ℕ → Type 0
Passed cs a b =
    (j : ℕ) × (c : Contact) × (slice_get cs j ≡ Some c)
    × (((c.role ≡ Serve) × (a ≡ j) × ((b ≡ length cs + j) ⊎ (b ≡ length cs + length cs + j)))
    ⊎ ((c.role ≡ Ask) × (b ≡ j) × (x : ℕ) × (a ≡ length cs + x * length cs + j)))

-- which handshake of an array is open, and which is not answered meanwhile: the caller's while the body runs, and an access
-- while its index is asked
abbrev pub array_ties : Phase → ℕ → ℕ → Bool
array_ties (Cells ns) a b = nat_eq a 0 && nat_eq b 4
array_ties (Reading ns) a b = (nat_eq a 0 && nat_eq b 4) || (nat_eq a 1 && nat_eq b 2)
array_ties (WritingTo ns) a b = (nat_eq a 0 && nat_eq b 4) || (nat_eq a 1 && nat_eq b 3)
array_ties p a b = false

-- while a is open, b is not answered
abbrev pub Tied : Part → State → ℕ → ℕ → Type 0
Tied (Share t) q a b = Passed (contacts_of t) a b
Tied (Array w k v) q a b = array_ties q.phase a b ≡ true
Tied k q a b = (nat_eq b (runs_by k) && list_any (nat_eq a) (waits k q.phase q.number)) ≡ true

-- whether a token is put at this slot
abbrev pub is_put : Slot → List Token → Bool
is_put s [] = false
is_put s (t ∷ ts) = if same_slot t.slot s then true else is_put s ts

-- what a row puts is tied to what it takes, and what was tied stays so
abbrev pub RowTies : Part → State → ℕ → Row → Type 0
RowTies k q v r =
    (a b : ℕ)
    → (is_put (Req a) (r.puts v) ≡ true → same_slot r.takes (Req b) ≡ true → Tied k (r.next v) a b × (is_put (Ans b) (r.puts v) ≡ false))
    × (Tied k q a b → same_slot r.takes (Ans a) ≡ false → (is_put (Ans b) (r.puts v) ≡ false) × Tied k (r.next v) a b)

choosing : (w n v : ℕ) (b : Bool) → nat_eq v 1 ≡ b → EachRow (RowTies (If w) (at Test n) v) (rows (If w) Test n)
choosing w n v true t = ((λ a b. ((λ p h. grind (arith, t, p, h)), (λ y h. grind (arith, t, y, h)))), tt)
choosing w n v false t = ((λ a b. ((λ p h. grind (arith, t, p, h)), (λ y h. grind (arith, t, y, h)))), tt)

chosen_branch : (w n v : ℕ) (b : Bool) → nat_eq n 1 ≡ b → EachRow (RowTies (If w) (at Branch n) v) (rows (If w) Branch n)
chosen_branch w n v true t = ((λ a b. ((λ p h. grind (arith, t, p, h)), (λ y h. grind (arith, t, y, h)))), tt)
chosen_branch w n v false t = ((λ a b. ((λ p h. grind (arith, t, p, h)), (λ y h. grind (arith, t, y, h)))), tt)

looping : (n v : ℕ) (b : Bool) → nat_eq v 1 ≡ b → EachRow (RowTies While (at Test n) v) (rows While Test n)
looping n v true t = ((λ a b. ((λ p h. grind (arith, t, p, h)), (λ y h. grind (arith, t, y, h)))), tt)
looping n v false t = ((λ a b. ((λ p h. grind (arith, t, p, h)), (λ y h. grind (arith, t, y, h)))), tt)

tie_table : (k : Part) (p : Phase) (n v : ℕ) → IsUnshared k → EachRow (RowTies k (at p n) v) (rows k p n)
tie_table Skip Rest n v u = ((λ a b. ((λ p h. grind (arith, p, h)), (λ y h. grind (arith, y, h)))), tt)
tie_table (Lit w k) Rest n v u = ((λ a b. ((λ p h. grind (arith, p, h)), (λ y h. grind (arith, y, h)))), tt)
tie_table (Seq w) Rest n v u = ((λ a b. ((λ p h. grind (arith, p, h)), (λ y h. grind (arith, y, h)))), tt)
tie_table (Seq w) First n v u = ((λ a b. ((λ p h. grind (arith, p, h)), (λ y h. grind (arith, y, h)))), tt)
tie_table (Seq w) Second n v u = ((λ a b. ((λ p h. grind (arith, p, h)), (λ y h. grind (arith, y, h)))), tt)
tie_table Par LeftOnly n v u = ((λ a b. ((λ p h. grind (arith, p, h)), (λ y h. grind (arith, y, h)))), tt)
tie_table Par RightOnly n v u = ((λ a b. ((λ p h. grind (arith, p, h)), (λ y h. grind (arith, y, h)))), tt)
tie_table (If w) Rest n v u = ((λ a b. ((λ p h. grind (arith, p, h)), (λ y h. grind (arith, y, h)))), tt)
tie_table While Rest n v u = ((λ a b. ((λ p h. grind (arith, p, h)), (λ y h. grind (arith, y, h)))), tt)
tie_table While Body n v u = ((λ a b. ((λ p h. grind (arith, p, h)), (λ y h. grind (arith, y, h)))), tt)
tie_table (Op op w) Rest n v u = ((λ a b. ((λ p h. grind (arith, p, h)), (λ y h. grind (arith, y, h)))), tt)
tie_table (Op op w) Left n v u = ((λ a b. ((λ p h. grind (arith, p, h)), (λ y h. grind (arith, y, h)))), tt)
tie_table (Op op w) Right n v u = ((λ a b. ((λ p h. grind (arith, p, h)), (λ y h. grind (arith, y, h)))), tt)
tie_table (Not w) Rest n v u = ((λ a b. ((λ p h. grind (arith, p, h)), (λ y h. grind (arith, y, h)))), tt)
tie_table (Not w) Waiting n v u = ((λ a b. ((λ p h. grind (arith, p, h)), (λ y h. grind (arith, y, h)))), tt)
tie_table (Assign w) Rest n v u = ((λ a b. ((λ p h. grind (arith, p, h)), (λ y h. grind (arith, y, h)))), tt)
tie_table (Assign w) Value n v u = ((λ a b. ((λ p h. grind (arith, p, h)), (λ y h. grind (arith, y, h)))), tt)
tie_table (Assign w) Writing n v u = ((λ a b. ((λ p h. grind (arith, p, h)), (λ y h. grind (arith, y, h)))), tt)
tie_table (Deref w) Rest n v u = ((λ a b. ((λ p h. grind (arith, p, h)), (λ y h. grind (arith, y, h)))), tt)
tie_table (Deref w) Waiting n v u = ((λ a b. ((λ p h. grind (arith, p, h)), (λ y h. grind (arith, y, h)))), tt)
tie_table (Local w b) Rest n v u = ((λ a d. ((λ p h. grind (arith, p, h)), (λ y h. grind (arith, y, h)))), tt)
tie_table Par Rest n v u = ((λ a b. ((λ p h. grind (arith, p, h)), (λ y h. grind (arith, y, h)))), tt)
tie_table Par Both n v u = ((λ a b. ((λ p h. grind (arith, p, h)), (λ y h. grind (arith, y, h)))), ((λ a b. ((λ p h. grind (arith, p, h)), (λ y h. grind (arith, y, h)))), tt))
tie_table (Local w b) Active n v u = ((λ a d. ((λ p h. grind (arith, p, h)), (λ y h. grind (arith, y, h)))), ((λ a d. ((λ p h. grind (arith, p, h)), (λ y h. grind (arith, y, h)))), ((λ a d. ((λ p h. grind (arith, p, h)), (λ y h. grind (arith, y, h)))), tt)))
tie_table (Array w c b) Rest n v u = ((λ a d. ((λ p h. grind (arith, p, h)), (λ y h. grind (arith, y, h)))), tt)
tie_table (Array w c b) (Cells ns) n v u = ((λ a d. ((λ p h. grind (arith, p, h)), (λ y h. grind (arith, y, h)))), ((λ a d. ((λ p h. grind (arith, p, h)), (λ y h. grind (arith, y, h)))), ((λ a d. ((λ p h. grind (arith, p, h)), (λ y h. grind (arith, y, h)))), tt)))
tie_table (Array w c b) (Reading ns) n v u = ((λ a d. ((λ p h. grind (arith, p, h)), (λ y h. grind (arith, y, h)))), tt)
tie_table (Array w c b) (WritingTo ns) n v u = ((λ a d. ((λ p h. grind (arith, p, h)), (λ y h. grind (arith, y, h)))), tt)
tie_table (If w) Test n v u = choosing w n v (nat_eq v 1) refl
tie_table (If w) Branch n v u = chosen_branch w n v (nat_eq n 1) refl
tie_table While Test n v u = looping n v (nat_eq v 1) refl
tie_table (Share t) p n v u = absurd (u t refl)
tie_table k p n v u = tt

pub unshared_ties : (k : Part) (q : State) (slot : Slot) (r : Row) (v : ℕ) → IsUnshared k → firing k q slot ≡ Some r → RowTies k q v r
unshared_ties k q slot r v u fires = (row_with (RowTies k q v) slot (rows k q.phase q.number) r (tie_table k q.phase q.number v u) fires).1
