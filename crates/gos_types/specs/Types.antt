-- Types: the view that every other specification has of them.
--
-- A `Ty` of the program has boxes. `Type'` is the same type without them, and `type_of` leads from one to the other.
use Rattle.std.specs.Prelude.{ℕ, ◌+◌, ◌⊎◌, nat_eq, if◌then◌else◌}
use Rattle.gos_types.specs.declared.types.Ty.{Ty}
use Rattle.gos_types.specs.declared.types.Ty.TheVariants.{Com as AtCom, Exp as AtExp, Var as AtVar, Pair', Fun'}

-- a command, an expression or a variable of w bits, a product, or a function
pub data Type' : Type 0 where
  Com : Type'
  Exp : (w : ℕ) → Type'
  Var : (w : ℕ) → Type'
  Pair : (a b : Type') → Type'
  Fun : (a b : Type') → Type'

-- a type of the program, without its boxes
abbrev pub type_of : Ty → Type'
type_of AtCom = Com
type_of (AtExp w) = Exp w
type_of (AtVar w) = Var w
type_of (Pair' p a q b) = Pair (type_of a) (type_of b)
type_of (Fun' p a q b) = Fun (type_of a) (type_of b)

-- how many nodes a type has
abbrev pub size : Type' → ℕ
size Com = 1
size (Exp w) = 1
size (Var w) = 1
size (Pair a b) = size a + size b + 1
size (Fun a b) = size a + size b + 1

-- neither a product nor a function
abbrev pub IsGround : Type' → Type 0
IsGround Com = Unit {0}
IsGround (Exp w) = Unit {0}
IsGround (Var w) = Unit {0}
IsGround (Pair a b) = ⊥
IsGround (Fun a b) = ⊥

-- how many bits the index of an array of n numbers has: 2 to this number is n. Of another n it says nothing.
abbrev pub index_width : ℕ → ℕ
index_width n = if nat_eq n 2 then 1 else if nat_eq n 4 then 2 else if nat_eq n 8 then 3 else 4

-- the type of an array of n numbers of w bits: a variable at each index
abbrev pub array_type : ℕ → ℕ → Type'
array_type n w = Fun (Exp (index_width n)) (Var w)

-- the type of an array: of a variable, behind an index
abbrev pub IsArray : Type' → Type 0
IsArray (Fun (Exp i) (Var w)) = Unit {0}
IsArray t = ⊥

-- what may be a port, and so has events: a ground type, or that of an array
abbrev pub IsPort : Type' → Type 0
IsPort t = IsGround t ⊎ IsArray t

-- a command or an expression: what a sequence, a choice or a block may be
abbrev pub IsDone : Type' → Type 0
IsDone Com = Unit {0}
IsDone (Exp w) = Unit {0}
IsDone (Var w) = ⊥
IsDone (Pair a b) = ⊥
IsDone (Fun a b) = ⊥
