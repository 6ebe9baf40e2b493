-- A number that is stored: a write sets it, and an entry clears it.
--
-- Read first: Cells and Gates of gos_macro. A local variable has one.
use Rattle.std.specs.Prelude.{◌≡◌, ℕ, suc, ◌+◌, List, [], ◌∷◌, nat_eq, if◌then◌else◌}
use Rattle.gos_netlist.specs.Nets.{Gate, Mux, Reg, Cell}
use Rattle.gos_netlist.specs.Settling.{Numbers, at}
use Rattle.gos_macro.specs.Gates.{Settled}
use Rattle.gos_macro.specs.Cells.{wide}

-- The cells are what an entry leaves of the number, what it is next, and the number itself. The net `stays` is 1 where
-- there is no entry, and `sets` is 1 where `value` is written.
abbrev pub stored_cells : (w kept next number stays sets value : ℕ) → List Cell
stored_cells w kept next number stays sets value =
    wide w (Gate stays number) ∷ wide w (Mux sets value kept) ∷ wide w (Reg next) ∷ []

-- what a number is next
abbrev pub next_stored : (stays sets value number : ℕ) → ℕ
next_stored stays sets value number = if nat_eq sets 1 then value else (if nat_eq stays 1 then number else 0)

-- The law: from cell n of a region on, its last cell shows the register, which is set, cleared or kept.
abbrev pub StoredIsKept : Type 0
StoredIsKept =
    (w b n stays sets value : ℕ) (v regs after : Numbers)
    → Settled v regs after b n (stored_cells w (b + n) (b + suc n) (b + suc (suc n)) stays sets value)
    → (at v (b + suc (suc n)) ≡ at regs (b + suc (suc n)))
    × (at after (b + suc (suc n)) ≡ next_stored (at v stays) (at v sets) (at v value) (at regs (b + suc (suc n))))

-- Not so where an entry leaves the number as it is: here it is 7, there is an entry and no write, and it stays 7.
abbrev pub KeptIsNotStored : Type 0
KeptIsNotStored =
    ((v regs after : Numbers)
    → Settled v regs after 0 0 (wide 8 (Mux 3 2 2) ∷ wide 8 (Mux 4 5 0) ∷ wide 8 (Reg 1) ∷ [])
    → at after 2 ≡ next_stored (at v 3) (at v 4) (at v 5) (at regs 2))
    → ⊥
