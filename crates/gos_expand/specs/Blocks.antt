-- Cells in blocks, and the cells of a token.
--
-- Read first: Nets of gos_netlist. A token is a pulse, and a number behind it where it has bits.
use Rattle.std.specs.Prelude.{ℕ, zero, suc, ◌+◌, List, [], ◌∷◌, ◌++◌}
use Rattle.gos_netlist.specs.Nets.{Function, Input, Const, Reg, Cell}
use Rattle.gos_macro.specs.Cells.{bit, wide}

-- the nets of a token: of its pulse, and of its number; 0 where it has no bits
pub record Nets : Type 0 where
  pub pulse : ℕ
  pub number : ℕ

-- the nets of a token of these bits whose cells begin at net n
abbrev pub nets_from : ℕ → ℕ → Nets
nets_from zero n = record { pulse = n; number = 0 }
nets_from (suc w) n = record { pulse = n; number = n + 1 }

-- how many cells a token of these bits has
abbrev pub token_size : ℕ → ℕ
token_size zero = 1
token_size (suc w) = 2

-- the cells of a token of these bits
abbrev pub token_cells : ℕ → Function → Function → List Cell
token_cells zero p x = bit p ∷ []
token_cells (suc w) p x = bit p ∷ wide (suc w) x ∷ []

-- a token that the outside gives, one that is held for a cycle, and none
abbrev pub inputs : ℕ → List Cell
inputs w = token_cells w Input Input

abbrev pub registers : ℕ → Nets → List Cell
registers w n = token_cells w (Reg n.pulse) (Reg n.number)

abbrev pub nothing : ℕ → List Cell
nothing w = token_cells w (Const 0) (Const 0)

-- the blocks of a list's elements, one behind the other; each knows its element's place, of which the first is n
abbrev pub blocks : {A : Type 0} → (ℕ → A → List Cell) → ℕ → List A → List Cell
blocks {A} f n [] = []
blocks {A} f n (x ∷ xs) = f n x ++ blocks f (suc n) xs

-- how many cells such blocks have together
abbrev pub total : {A : Type 0} → (ℕ → A → ℕ) → ℕ → List A → ℕ
total {A} size n [] = 0
total {A} size n (x ∷ xs) = size n x + total size (suc n) xs

-- so many nets, from net n on
abbrev pub nets_on : ℕ → ℕ → List ℕ
nets_on n zero = []
nets_on n (suc k) = n ∷ nets_on (n + 1) k
