-- What is known of nets that are laid, in a cycle with given values.
--
-- Read first: Laying; Settling of gos_netlist.
use Rattle.std.specs.Prelude.{◌≡◌, ℕ, suc, ◌*◌, ◌<◌, ◌≤◌, ◌⊎◌, Bool, true, false, List, [], ◌∷◌, ◌++◌, length}
use Rattle.std.specs.List.{AllByRecursion}
use Rattle.gos_netlist.specs.Nets.{Function, Input, Reg, Cell, pins}
use Rattle.gos_netlist.specs.Settling.{Numbers, at}
use Rattle.gos_gates.specs.Gates.{Bits, shown_by, after_gates}
use Rattle.gos_gates.specs.Lowered.{width_of}
use Rattle.gos_gates.specs.inner.Adding.{number_of_bits}
use Rattle.gos_gates.specs.inner.Laying.{Laid, literals_of, cell_at}

-- the literal shows this, whatever gates come behind
abbrev pub Holds : Bits → ℕ → Bool → Type 0
Holds bits l x = (done : Bits) → shown_by (bits ++ done) l ≡ x

-- literals show these bits, one each
abbrev pub HoldAll : Bits → List ℕ → List Bool → Type 0
HoldAll bits [] [] = Unit {0}
HoldAll bits [] (x ∷ xs) = ⊥
HoldAll bits (l ∷ ls) [] = ⊥
HoldAll bits (l ∷ ls) (x ∷ xs) = Holds bits l x × HoldAll bits ls xs

-- literals show a number, of so many bits
pub record ShowNumber (bits : Bits) (ls : List ℕ) (w k : ℕ) : Type 0 where
  pub shown : List Bool
  pub holds : HoldAll bits ls shown
  pub wide : length shown ≡ w
  pub is : number_of_bits shown ≡ k

-- gates from variable v on look back
abbrev pub LookBackFrom : ℕ → List (ℕ × ℕ) → Type 0
LookBackFrom v [] = Unit {0}
LookBackFrom v (g ∷ gs) = (g.0 < 2 * v) × (g.1 ≤ g.0) × LookBackFrom (suc v) gs

-- an input or a register, whose value is given
abbrev pub is_source : Function → Bool
is_source Input = true
is_source (Reg a) = true
is_source f = false

-- the net is one of these
abbrev pub Among : ℕ → List ℕ → Type 0
Among m [] = ⊥
Among m (n ∷ ns) = (m ≡ n) ⊎ Among m ns

-- the net is laid where these are still to come
abbrev pub IsLaid : List Cell → List ℕ → ℕ → Type 0
IsLaid cells ns m = (is_source (cell_at cells m).gate ≡ true) ⊎ (Among m ns → ⊥)

-- each net comes once, and behind its pins
abbrev pub ComeInOrder : List Cell → List ℕ → Type 0
ComeInOrder cells [] = Unit {0}
ComeInOrder cells (n ∷ ns) =
    (n < length cells) × (Among n ns → ⊥)
    × (is_source (cell_at cells n).gate ≡ false → AllByRecursion (λ a. (a < length cells) × IsLaid cells (n ∷ ns) a) (pins (cell_at cells n).gate))
    × ComeInOrder cells ns

-- what is laid where these nets are still to come: with the sources' bits, all others show what the nets do
pub record Stands (cells : List Cell) (v : Numbers) (given : Bits) (s : Laid) (ns : List ℕ) : Type 0 where
  pub sources : s.base ≡ length given
  pub nets : length s.nets ≡ length cells
  pub back : LookBackFrom s.base s.gates
  pub show : (m : ℕ) → m < length cells → IsLaid cells ns m → ShowNumber (after_gates s.gates given) (literals_of s m) (width_of cells m) (at v m)
