-- The words of an array: seven cells for each of its numbers.
--
-- Read first: Stored. Each word stores one number, and picks it where the index is its own. Which index is asked for, and what
-- is written there, is told to all of them.
use Rattle.std.specs.Prelude.{◌≡◌, ℕ, zero, suc, ◌+◌, ◌≤◌, List, [], ◌∷◌, ◌++◌, get_or, set, replicate, nat_eq, if◌then◌else◌}
use Rattle.gos_netlist.specs.Nets.{Const, And, Or, Mux, Eq, Cell}
use Rattle.gos_netlist.specs.Settling.{Numbers, at}
use Rattle.gos_macro.specs.Gates.{Settled}
use Rattle.gos_macro.specs.Cells.{bit, wide}
use Rattle.gos_data.specs.Stored.{stored_cells}

-- the nets that all words name: the index, the pulse of a write, what is written, and a net that is 1 where there is no entry
pub record WordNets : Type 0 where
  pub index : ℕ
  pub writes : ℕ
  pub written : ℕ
  pub stays : ℕ

-- The word of number x, whose index has i bits, from cell n of a region on that begins at net b. Cell 0 is x; cell 1 tells whether
-- x is the index, and cell 2 whether number x is written; cells 3 to 5 store it; cell 6 picks it, or what was picked before it.
abbrev pub word_cells : (w i : ℕ) → WordNets → (b n x picked : ℕ) → List Cell
word_cells w i a b n x picked =
    wide i (Const x)
    ∷ bit (Eq a.index (b + (n + 0)))
    ∷ bit (And a.writes (b + (n + 1)))
    ∷ (stored_cells w (b + (n + 3)) (b + (n + 4)) (b + (n + 5)) a.stays (b + (n + 2)) a.written
    ++ wide w (Mux (b + (n + 1)) (b + (n + 5)) picked) ∷ [])

-- so many words, from number x on
abbrev pub words_cells : (w i : ℕ) → WordNets → (b n x picked count : ℕ) → List Cell
words_cells w i a b n x picked zero = []
words_cells w i a b n x picked (suc count) =
    word_cells w i a b n x picked ++ words_cells w i a b (n + 7) (suc x) (b + (n + 6)) count

-- the net of what so many words pick
abbrev pub picked_net : (b n picked count : ℕ) → ℕ
picked_net b n picked zero = picked
picked_net b n picked (suc count) = picked_net b (n + 7) (b + (n + 6)) count

-- the numbers that so many words hold
abbrev pub numbers_held : Numbers → (b n count : ℕ) → List ℕ
numbers_held regs b n zero = []
numbers_held regs b n (suc count) = at regs (b + (n + 5)) ∷ numbers_held regs b (n + 7) count

-- what an entry leaves of so many numbers: all of them where `stays` is 1, and else zeros
abbrev pub kept_numbers : (count stays : ℕ) → List ℕ → List ℕ
kept_numbers count stays ns = if nat_eq stays 1 then ns else replicate count 0

-- so many numbers behind a cycle: where `writes` is 1, this value is written at this index
abbrev pub next_numbers : (count writes stays index value : ℕ) → List ℕ → List ℕ
next_numbers count writes stays index value ns =
    if nat_eq writes 1 then set (kept_numbers count stays ns) index value else kept_numbers count stays ns

-- The law: where nothing was picked before the words, they pick the number at the index, or 0 where there is none; and an entry
-- clears all numbers, and a write sets the one at the index.
abbrev pub WordsAreKept : Type 0
WordsAreKept =
    (w i : ℕ) (a : WordNets) (b n picked count : ℕ) (v regs after : Numbers)
    → at v a.writes ≤ 1 → at v a.stays ≤ 1 → at v picked ≡ 0
    → Settled v regs after b n (words_cells w i a b n 0 picked count)
    → (at v (picked_net b n picked count) ≡ get_or (numbers_held regs b n count) (at v a.index) 0)
    × (numbers_held after b n count
    ≡ next_numbers count (at v a.writes) (at v a.stays) (at v a.index) (at v a.written) (numbers_held regs b n count))

-- Not so where the number is picked at each index: here net 0 shows 7, which is number 0, and the index is 5.
abbrev pub EachIndexPicksNoNumber : Type 0
EachIndexPicksNoNumber =
    ((v regs after : Numbers) → Settled v regs after 0 0 (wide 8 (Or 1 1) ∷ []) → at v 0 ≡ get_or (at v 1 ∷ []) (at v 2) 0) → ⊥
