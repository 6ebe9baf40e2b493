-- The table of the firing rules: each row takes and puts in turn, and leaves the handshakes under way that its next phase says.
use Rattle.std.specs.Prelude.{not}
use Rattle.std.proofs.Common.{◌≡◌, inl, inr, ℕ, Bool, true, false, List, [], ◌∷◌, Some, slice_get, refl, subst, arith, nat_eq, if◌then◌else◌}
use Rattle.gos_types.specs.declared.shakes.Role.{Role}
use Rattle.gos_types.specs.declared.shakes.Role.TheVariants.{Serve, Ask}
use Rattle.gos_plan.specs.Kinds.{Part, Skip, Lit, Seq, Par, If, While, Op, Not, Assign, Deref, Local, Array, Share, Contact, part_contacts}
use Rattle.gos_plan.specs.Firing.{Phase, Rest, First, Second, Both, LeftOnly, RightOnly, Test, Branch, Body, Left, Right, Waiting, Value, Writing, Active, Cells, Reading, WritingTo, State, at, Slot, Req, Ans, Token, Row, rows, row_for}
use Rattle.gos_plan.specs.Tokens.{shake_of}
use Rattle.gos_plan.specs.Turns.{IsUnshared}
use Rattle.gos_plan.specs.inner.Engaged.{is_engaged}
use Rattle.gos_plan.specs.laws.Inversion.{first_or_later}
use Rattle.gos_plan.proofs.BalanceLemmas.{before_putting}

-- the role of a part at the slot that it takes, and at one that it puts
abbrev pub role_taking : Slot → Role
role_taking (Req h) = Serve
role_taking (Ans h) = Ask

abbrev pub role_putting : Slot → Role
role_putting (Req h) = Ask
role_putting (Ans h) = Serve

-- the part has this handshake, and this role at it
abbrev pub HasRole : Part → ℕ → Role → Type 0
HasRole k h role = (c : Contact) × (slice_get (part_contacts k) h ≡ Some c) × (c.role ≡ role)

-- one handshake is turned
abbrev pub flipped : ℕ → (ℕ → Bool) → ℕ → Bool
flipped h engaged g = if nat_eq g h then not (engaged g) else engaged g

-- tokens are put in turn, one after another, and lead to what is engaged afterwards
abbrev pub Turns : Part → (ℕ → Bool) → List Token → (ℕ → Bool) → Type 0
Turns k engaged [] after = (g : ℕ) → engaged g ≡ after g
Turns k engaged (t ∷ ts) after =
    HasRole k (shake_of t.slot) (role_putting t.slot) × (engaged (shake_of t.slot) ≡ before_putting (role_putting t.slot))
    × Turns k (flipped (shake_of t.slot) engaged) ts after

-- a row takes in turn, and puts in turn
abbrev pub RowKeeps : Part → State → ℕ → Row → Type 0
RowKeeps k q v r =
    HasRole k (shake_of r.takes) (role_taking r.takes)
    × Turns k (flipped (shake_of r.takes) (is_engaged k q)) (r.puts v) (is_engaged k (r.next v))

-- each of these rows is so
abbrev pub EachRow : (Row → Type 0) → List Row → Type 0
EachRow P [] = Unit {0}
EachRow P (r ∷ rs) = P r × EachRow P rs

-- so is the row of a token
pub row_with : (P : Row → Type 0) (t : Slot) (rs : List Row) (r : Row) → EachRow P rs → row_for t rs ≡ Some r → (r.takes ≡ t) × P r
row_with P t [] r h e = absurd (grind (arith, e))
row_with P t (x ∷ xs) r h e =
    elim (first_or_later x r xs t e) [
      | inl here ↦ subst (λ (y : Row). (y.takes ≡ t) × P y) here.1 (here.0, h.0)
      | inr later ↦ row_with P t xs r h.1 later
    ]

-- each of these rows keeps turns
abbrev pub RowsKeep : Part → State → ℕ → List Row → Type 0
RowsKeep k q v rs = EachRow (RowKeeps k q v) rs

-- the rows that depend on a truth value
choosing : (w n v : ℕ) (b : Bool) → nat_eq v 1 ≡ b → RowsKeep (If w) (at Test n) v (rows (If w) Test n)
choosing w n v true t = rw t (((_, refl, refl), ((_, refl, refl), refl, λ g. grind arith)), tt)
choosing w n v false t = rw t (((_, refl, refl), ((_, refl, refl), refl, λ g. grind arith)), tt)

chosen_branch : (w n v : ℕ) (b : Bool) → nat_eq n 1 ≡ b → RowsKeep (If w) (at Branch n) v (rows (If w) Branch n)
chosen_branch w n v true t = rw t (((_, refl, refl), ((_, refl, refl), refl, λ g. grind arith)), tt)
chosen_branch w n v false t = rw t (((_, refl, refl), ((_, refl, refl), refl, λ g. grind arith)), tt)

looping : (n v : ℕ) (b : Bool) → nat_eq v 1 ≡ b → RowsKeep While (at Test n) v (rows While Test n)
looping n v true t = rw t (((_, refl, refl), ((_, refl, refl), refl, λ g. grind arith)), tt)
looping n v false t = rw t (((_, refl, refl), ((_, refl, refl), refl, λ g. grind arith)), tt)

-- each row of a kind other than Share keeps turns
pub table : (k : Part) (p : Phase) (n v : ℕ) → IsUnshared k → RowsKeep k (at p n) v (rows k p n)
table Skip Rest n v u = (((_, refl, refl), ((_, refl, refl), refl, λ g. grind arith)), tt)
table (Lit w k) Rest n v u = (((_, refl, refl), ((_, refl, refl), refl, λ g. grind arith)), tt)
table (Seq w) Rest n v u = (((_, refl, refl), ((_, refl, refl), refl, λ g. grind arith)), tt)
table (Seq w) First n v u = (((_, refl, refl), ((_, refl, refl), refl, λ g. grind arith)), tt)
table (Seq w) Second n v u = (((_, refl, refl), ((_, refl, refl), refl, λ g. grind arith)), tt)
table Par LeftOnly n v u = (((_, refl, refl), ((_, refl, refl), refl, λ g. grind arith)), tt)
table Par RightOnly n v u = (((_, refl, refl), ((_, refl, refl), refl, λ g. grind arith)), tt)
table (If w) Rest n v u = (((_, refl, refl), ((_, refl, refl), refl, λ g. grind arith)), tt)
table While Rest n v u = (((_, refl, refl), ((_, refl, refl), refl, λ g. grind arith)), tt)
table While Body n v u = (((_, refl, refl), ((_, refl, refl), refl, λ g. grind arith)), tt)
table (Op op w) Rest n v u = (((_, refl, refl), ((_, refl, refl), refl, λ g. grind arith)), tt)
table (Op op w) Left n v u = (((_, refl, refl), ((_, refl, refl), refl, λ g. grind arith)), tt)
table (Op op w) Right n v u = (((_, refl, refl), ((_, refl, refl), refl, λ g. grind arith)), tt)
table (Not w) Rest n v u = (((_, refl, refl), ((_, refl, refl), refl, λ g. grind arith)), tt)
table (Not w) Waiting n v u = (((_, refl, refl), ((_, refl, refl), refl, λ g. grind arith)), tt)
table (Assign w) Rest n v u = (((_, refl, refl), ((_, refl, refl), refl, λ g. grind arith)), tt)
table (Assign w) Value n v u = (((_, refl, refl), ((_, refl, refl), refl, λ g. grind arith)), tt)
table (Assign w) Writing n v u = (((_, refl, refl), ((_, refl, refl), refl, λ g. grind arith)), tt)
table (Deref w) Rest n v u = (((_, refl, refl), ((_, refl, refl), refl, λ g. grind arith)), tt)
table (Deref w) Waiting n v u = (((_, refl, refl), ((_, refl, refl), refl, λ g. grind arith)), tt)
table (Local w b) Rest n v u = (((_, refl, refl), ((_, refl, refl), refl, λ g. grind arith)), tt)
table Par Rest n v u = (((_, refl, refl), ((_, refl, refl), refl, ((_, refl, refl), refl, λ g. grind arith))), tt)
table Par Both n v u = (((_, refl, refl), λ g. grind arith), (((_, refl, refl), λ g. grind arith), tt))
table (If w) Test n v u = choosing w n v (nat_eq v 1) refl
table (If w) Branch n v u = chosen_branch w n v (nat_eq n 1) refl
table While Test n v u = looping n v (nat_eq v 1) refl
table (Local w b) Active n v u = (((_, refl, refl), ((_, refl, refl), refl, λ g. grind arith)), (((_, refl, refl), ((_, refl, refl), refl, λ g. grind arith)), (((_, refl, refl), ((_, refl, refl), refl, λ g. grind arith)), tt)))
table (Array w k b) Rest n v u = (((_, refl, refl), ((_, refl, refl), refl, λ g. grind arith)), tt)
table (Array w k b) (Cells ns) n v u = (((_, refl, refl), ((_, refl, refl), refl, λ g. grind arith)), (((_, refl, refl), ((_, refl, refl), refl, λ g. grind arith)), (((_, refl, refl), ((_, refl, refl), refl, λ g. grind arith)), tt)))
table (Array w k b) (Reading ns) n v u = (((_, refl, refl), ((_, refl, refl), refl, λ g. grind arith)), tt)
table (Array w k b) (WritingTo ns) n v u = (((_, refl, refl), ((_, refl, refl), refl, λ g. grind arith)), tt)
table (Share t) p n v u = absurd (u t refl)
table k p n v u = tt
