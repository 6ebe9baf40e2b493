-- Which ports stand in a term, as masks keep it.
--
-- Read first: NodeLists, Ports. A mask has a bit for each of 64 ports, a block of them: port number k has bit k % 64 of block k / 64.
use Rattle.std.specs.Prelude.{◌≡◌, ◌↔◌, ◌⊎◌, ◌<◌, ◌≤◌, ◌/◌, ◌%◌, ℕ, List, Option, Some, None, length, slice_get, get_or}
use Rattle.std.specs.Int.{bit_at}
use Rattle.gos_model.specs.Terms.{Name, Term, Import, Lam, App, Both, Fst, Snd, Seq, Par, If, While, Assign, Deref, New, NewArray, Not, Bin, Scope, Wait, Held, Put}
use Rattle.gos_model.specs.Labels.{Port}
use Rattle.gos_swaps.specs.needed.Needed.{HasPort}
use Rattle.gos_witness.specs.declared.masks.Masks.{Masks}
use Rattle.gos_witness.specs.declared.program.ProgramPort.{ProgramPort}
use Rattle.gos_witness.specs.NodeLists.{Listed, name_at, seen}

-- an import of this name stands in the term, or a wait for it
abbrev pub Mentions : Name → Term → Type 0
Mentions x (Import y) = y ≡ x
Mentions x (Wait y s) = y ≡ x
Mentions x (Lam a m) = Mentions x m
Mentions x (App m n) = Mentions x m ⊎ Mentions x n
Mentions x (Both m n) = Mentions x m ⊎ Mentions x n
Mentions x (Fst m) = Mentions x m
Mentions x (Snd m) = Mentions x m
Mentions x (Seq m n) = Mentions x m ⊎ Mentions x n
Mentions x (Par m n) = Mentions x m ⊎ Mentions x n
Mentions x (If m n p) = Mentions x m ⊎ (Mentions x n ⊎ Mentions x p)
Mentions x (While m n) = Mentions x m ⊎ Mentions x n
Mentions x (Assign m n) = Mentions x m ⊎ Mentions x n
Mentions x (Deref m) = Mentions x m
Mentions x (New w m) = Mentions x m
Mentions x (NewArray n w m) = Mentions x m
Mentions x (Not m) = Mentions x m
Mentions x (Bin op m n) = Mentions x m ⊎ Mentions x n
Mentions x (Scope l m) = Mentions x m
Mentions x (Held k op n) = Mentions x n
Mentions x (Put m k) = Mentions x m
Mentions x m = ⊥

-- a name is that of this taken port, or of none
abbrev pub IsNumberOf : List ProgramPort → Name → Option ℕ → Type 0
IsNumberOf ports x (Some k) = (0 < k) × (p : ProgramPort) × (slice_get ports k ≡ Some p) × (p.name ≡ x)
IsNumberOf ports x None = (k : ℕ) (p : ProgramPort) → 0 < k → slice_get ports k ≡ Some p → p.name ≡ x → ⊥

-- bit number k is set
abbrev pub HasBit : ℕ → ℕ → Type 0
HasBit mask k = bit_at mask k ≡ 1

-- the bits of a mask are those of the ports of a block that stand in the term
abbrev pub IsMask : List ProgramPort → ℕ → ℕ → Term → Type 0
IsMask ports block mask m =
    (k : ℕ) (p : ProgramPort) → 0 < k → slice_get ports k ≡ Some p → k / 64 ≡ block → HasBit mask (k % 64) ↔ Mentions p.name m

-- the masks of the first nodes of a list, and the ports of its first names
pub record AreMasks (ports : List ProgramPort) (l : Listed) (s : Masks) : Type 0 where
  pub few_names : length s.ports.items ≤ length l.tables.names
  pub numbers : (i : ℕ) → i < length s.ports.items → IsNumberOf ports (name_at l.tables i) (get_or s.ports.items i None)
  pub few : length s.masks.items ≤ length l.nodes
  pub masks : (i : ℕ) → i < length s.masks.items → IsMask ports s.block (get_or s.masks.items i 0) (seen l i)

-- a mask has the bit of a taken port
abbrev pub IsMarked : Masks → ℕ → ℕ → Type 0
IsMarked s port i = (0 < port) × HasBit (get_or s.masks.items i 0) (port % 64)

-- the masks say in which terms of the list port o stands, which has this number
pub record Knows (l : Listed) (o : Port) (port : ℕ) (s : Masks) : Type 0 where
  pub all : length s.masks.items ≡ length l.nodes
  pub marked : (i : ℕ) → i < length l.nodes → IsMarked s port i ↔ HasPort o (seen l i)
