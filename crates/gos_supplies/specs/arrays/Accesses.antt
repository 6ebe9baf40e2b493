-- An access of an array: a read, or a write of a number.
--
-- Read first: Accesses, Reach of gos_model; Contexts of gos_programs. While the array waits for its index, the index is reached.
use Rattle.std.specs.Prelude.{ℕ}
use Rattle.gos_types.specs.Types.{Type', Com, Exp}
use Rattle.gos_model.specs.Terms.{Name, Term, Skip, Lit, App, Both, Assign, Deref, Wait, Put}
use Rattle.gos_programs.specs.contexts.Contexts.{Context, ReadIndex, WriteIndex}

pub data Access : Type 0 where
  Read : Access
  Write : (m : ℕ) → Access

-- the access of m, as a source has it, with numbers of w bits
abbrev pub accessing : Access → ℕ → Term → Term
accessing Read w m = Deref m
accessing (Write k) w m = Assign m (Lit k w)

-- and where its number is there
abbrev pub accessed : Access → Term → Term
accessed Read m = Deref m
accessed (Write k) m = Put m k

-- the access of x at n while the array may ask for the index, of which j is what it was last; and the place of the index while the
-- array waits for it
abbrev pub waiting : Access → Name → Term → Term → Term
waiting a x n j = accessed a (App (Wait x 1) (Both n j))

abbrev pub index_of : Access → Name → Term → Context
index_of Read x n = ReadIndex x n
index_of (Write k) x n = WriteIndex x n k

-- what it puts when it asks, with its number; what it takes when it ends; and what it leaves
abbrev pub asks_by : Access → ℕ
asks_by Read = 2
asks_by (Write k) = 4

abbrev pub asks_with : Access → ℕ
asks_with Read = 0
asks_with (Write k) = k

abbrev pub ends_by : Access → ℕ
ends_by Read = 3
ends_by (Write k) = 5

abbrev pub ended : Access → (w v : ℕ) → Term
ended Read w v = Lit v w
ended (Write k) w v = Skip

abbrev pub type_of : Access → ℕ → Type'
type_of Read w = Exp w
type_of (Write k) w = Com
