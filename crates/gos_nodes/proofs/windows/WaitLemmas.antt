-- Where a part of another kind than Share waits for an answer, its phase says so.
use Rattle.std.specs.List.{list_any}
use Rattle.std.proofs.Common.{◌≡◌, ℕ, Bool, true, false, Some, refl, arith, nat_eq}
use Rattle.gos_types.specs.Types.{Type'}
use Rattle.gos_plan.specs.Kinds.{Part, Skip, Lit, Seq, Par, If, While, Op, Not, Assign, Deref, Local, Array, Share}
use Rattle.gos_plan.specs.Firing.{Phase, Rest, First, Second, Both, LeftOnly, RightOnly, Test, Branch, Body, Left, Right, Waiting, Value, Writing, Active, Cells, Reading, WritingTo, State, at, Slot, Req, Ans, Row, same_slot, rows, firing}
use Rattle.gos_plan.specs.Turns.{IsUnshared}
use Rattle.gos_plan.proofs.RowLemmas.{EachRow, row_with}
use Rattle.gos_realises.proofs.quiet.TieLemmas.{waits, is_put}

-- a part waits at a handshake
abbrev pub Waits : Part → State → ℕ → Type 0
Waits k q a = list_any (nat_eq a) (waits k q.phase q.number) ≡ true

-- what a row asks it waits for, and it waits on where it isn't answered
abbrev pub RowWaits : Part → State → ℕ → Row → Type 0
RowWaits k q v r =
    (a : ℕ) → (is_put (Req a) (r.puts v) ≡ true → Waits k (r.next v) a) × (Waits k q a → same_slot r.takes (Ans a) ≡ false → Waits k (r.next v) a)

choosing : (w n v : ℕ) (b : Bool) → nat_eq v 1 ≡ b → EachRow (RowWaits (If w) (at Test n) v) (rows (If w) Test n)
choosing w n v true t = ((λ a. ((λ p. grind (arith, t, p)), (λ y h. grind (arith, t, y, h)))), tt)
choosing w n v false t = ((λ a. ((λ p. grind (arith, t, p)), (λ y h. grind (arith, t, y, h)))), tt)

chosen_branch : (w n v : ℕ) (b : Bool) → nat_eq n 1 ≡ b → EachRow (RowWaits (If w) (at Branch n) v) (rows (If w) Branch n)
chosen_branch w n v true t = ((λ a. ((λ p. grind (arith, t, p)), (λ y h. grind (arith, t, y, h)))), tt)
chosen_branch w n v false t = ((λ a. ((λ p. grind (arith, t, p)), (λ y h. grind (arith, t, y, h)))), tt)

looping : (n v : ℕ) (b : Bool) → nat_eq v 1 ≡ b → EachRow (RowWaits While (at Test n) v) (rows While Test n)
looping n v true t = ((λ a. ((λ p. grind (arith, t, p)), (λ y h. grind (arith, t, y, h)))), tt)
looping n v false t = ((λ a. ((λ p. grind (arith, t, p)), (λ y h. grind (arith, t, y, h)))), tt)

table : (k : Part) (p : Phase) (n v : ℕ) → IsUnshared k → EachRow (RowWaits k (at p n) v) (rows k p n)
table Skip Rest n v u = ((λ a. ((λ p. grind (arith, p)), (λ y h. grind (arith, y, h)))), tt)
table (Lit w k) Rest n v u = ((λ a. ((λ p. grind (arith, p)), (λ y h. grind (arith, y, h)))), tt)
table (Seq w) Rest n v u = ((λ a. ((λ p. grind (arith, p)), (λ y h. grind (arith, y, h)))), tt)
table (Seq w) First n v u = ((λ a. ((λ p. grind (arith, p)), (λ y h. grind (arith, y, h)))), tt)
table (Seq w) Second n v u = ((λ a. ((λ p. grind (arith, p)), (λ y h. grind (arith, y, h)))), tt)
table Par LeftOnly n v u = ((λ a. ((λ p. grind (arith, p)), (λ y h. grind (arith, y, h)))), tt)
table Par RightOnly n v u = ((λ a. ((λ p. grind (arith, p)), (λ y h. grind (arith, y, h)))), tt)
table (If w) Rest n v u = ((λ a. ((λ p. grind (arith, p)), (λ y h. grind (arith, y, h)))), tt)
table While Rest n v u = ((λ a. ((λ p. grind (arith, p)), (λ y h. grind (arith, y, h)))), tt)
table While Body n v u = ((λ a. ((λ p. grind (arith, p)), (λ y h. grind (arith, y, h)))), tt)
table (Op op w) Rest n v u = ((λ a. ((λ p. grind (arith, p)), (λ y h. grind (arith, y, h)))), tt)
table (Op op w) Left n v u = ((λ a. ((λ p. grind (arith, p)), (λ y h. grind (arith, y, h)))), tt)
table (Op op w) Right n v u = ((λ a. ((λ p. grind (arith, p)), (λ y h. grind (arith, y, h)))), tt)
table (Not w) Rest n v u = ((λ a. ((λ p. grind (arith, p)), (λ y h. grind (arith, y, h)))), tt)
table (Not w) Waiting n v u = ((λ a. ((λ p. grind (arith, p)), (λ y h. grind (arith, y, h)))), tt)
table (Assign w) Rest n v u = ((λ a. ((λ p. grind (arith, p)), (λ y h. grind (arith, y, h)))), tt)
table (Assign w) Value n v u = ((λ a. ((λ p. grind (arith, p)), (λ y h. grind (arith, y, h)))), tt)
table (Assign w) Writing n v u = ((λ a. ((λ p. grind (arith, p)), (λ y h. grind (arith, y, h)))), tt)
table (Deref w) Rest n v u = ((λ a. ((λ p. grind (arith, p)), (λ y h. grind (arith, y, h)))), tt)
table (Deref w) Waiting n v u = ((λ a. ((λ p. grind (arith, p)), (λ y h. grind (arith, y, h)))), tt)
table (Local w b) Rest n v u = ((λ a. ((λ p. grind (arith, p)), (λ y h. grind (arith, y, h)))), tt)
table Par Rest n v u = ((λ a. ((λ p. grind (arith, p)), (λ y h. grind (arith, y, h)))), tt)
table Par Both n v u = ((λ a. ((λ p. grind (arith, p)), (λ y h. grind (arith, y, h)))), ((λ a. ((λ p. grind (arith, p)), (λ y h. grind (arith, y, h)))), tt))
table (Local w b) Active n v u = ((λ a. ((λ p. grind (arith, p)), (λ y h. grind (arith, y, h)))), ((λ a. ((λ p. grind (arith, p)), (λ y h. grind (arith, y, h)))), ((λ a. ((λ p. grind (arith, p)), (λ y h. grind (arith, y, h)))), tt)))
table (Array w c b) Rest n v u = ((λ a. ((λ p. grind (arith, p)), (λ y h. grind (arith, y, h)))), tt)
table (Array w c b) (Cells ns) n v u = ((λ a. ((λ p. grind (arith, p)), (λ y h. grind (arith, y, h)))), ((λ a. ((λ p. grind (arith, p)), (λ y h. grind (arith, y, h)))), ((λ a. ((λ p. grind (arith, p)), (λ y h. grind (arith, y, h)))), tt)))
table (Array w c b) (Reading ns) n v u = ((λ a. ((λ p. grind (arith, p)), (λ y h. grind (arith, y, h)))), tt)
table (Array w c b) (WritingTo ns) n v u = ((λ a. ((λ p. grind (arith, p)), (λ y h. grind (arith, y, h)))), tt)
table (If w) Test n v u = choosing w n v (nat_eq v 1) refl
table (If w) Branch n v u = chosen_branch w n v (nat_eq n 1) refl
table While Test n v u = looping n v (nat_eq v 1) refl
table (Share t) p n v u = absurd (u t refl)
table k p n v u = tt

pub row_waits : (k : Part) (q : State) (slot : Slot) (r : Row) (v : ℕ) → IsUnshared k → firing k q slot ≡ Some r → RowWaits k q v r
row_waits k q slot r v u fires = (row_with (RowWaits k q v) slot (rows k q.phase q.number) r (table k q.phase q.number v u) fires).1

-- and at rest it waits for nothing
pub rest_waits : (k : Part) (n a : ℕ) → Waits k (at Rest n) a → ⊥
rest_waits Skip n a h = cc h
rest_waits (Lit w k) n a h = cc h
rest_waits (Seq w) n a h = cc h
rest_waits Par n a h = cc h
rest_waits (If w) n a h = cc h
rest_waits While n a h = cc h
rest_waits (Op op w) n a h = cc h
rest_waits (Not w) n a h = cc h
rest_waits (Assign w) n a h = cc h
rest_waits (Deref w) n a h = cc h
rest_waits (Local w v) n a h = cc h
rest_waits (Array w c v) n a h = cc h
rest_waits (Share t) n a h = cc h

-- each kind is Share or another
pub told_share : (k : Part) → (Q : Part → Type 0) → (IsUnshared k → Q k) → ((t : Type') → k ≡ Share t → Q k) → Q k
told_share (Share t) Q plain share = share t refl
told_share Skip Q plain share = plain (λ t h. cc h)
told_share (Lit w n) Q plain share = plain (λ t h. cc h)
told_share (Seq n) Q plain share = plain (λ t h. cc h)
told_share Par Q plain share = plain (λ t h. cc h)
told_share (If n) Q plain share = plain (λ t h. cc h)
told_share While Q plain share = plain (λ t h. cc h)
told_share (Op op w) Q plain share = plain (λ t h. cc h)
told_share (Not w) Q plain share = plain (λ t h. cc h)
told_share (Assign w) Q plain share = plain (λ t h. cc h)
told_share (Deref w) Q plain share = plain (λ t h. cc h)
told_share (Local w n) Q plain share = plain (λ t h. cc h)
told_share (Array w c n) Q plain share = plain (λ t h. cc h)
