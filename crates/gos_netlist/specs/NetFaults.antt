-- Which texts are read as a netlist, and why the others are not.
--
-- Read first: Writable; Items and Decimals of gos_lex. Places count bytes from 0.
use Rattle.std.specs.Prelude.{◌≡◌, ℕ, ◌<◌, ◌≤◌, ◌⊎◌, List, ◌++◌, length, codes, take}
use Rattle.std.specs.List.{AllByRecursion, flat_map}
use Rattle.gos_lex.specs.Items.{StopsAt}
use Rattle.gos_netlist.specs.Nets.{Cell, Netlist}
use Rattle.gos_netlist.specs.NetText.{line, count_line, cell_text, text_of}
use Rattle.gos_netlist.specs.Writable.{IsWritable, IsWritableCell}
use Rattle.gos_netlist.specs.declared.fault.NetTextFault.{NetTextFault}
use Rattle.gos_netlist.specs.declared.fault.NetTextFault.TheVariants as faults
use Rattle.gos_lex.specs.ItemTexts.{IsAbove}

-- a text of the format
abbrev pub IsNetText : List ℕ → Type 0
IsNetText text = (net : Netlist) × IsWritable net × (text ≡ text_of net)

-- the text is that of this netlist, and both are within their limits
pub record IsRead (text : List ℕ) (net : Netlist) : Type 0 where
  pub short : length text ≤ 268435456
  pub is : text ≡ text_of net
  pub writable : IsWritable net
  pub few_cells : length net.cells ≤ 5000000
  pub few_ports : length net.ports ≤ 65536

-- such a count stands behind these bytes
abbrev pub CountAbove : ℕ → List ℕ → List ℕ → ℕ → Type 0
CountAbove limit before text at = (take at text ≡ before) × IsAbove limit text at

-- what stands before the count of cells
abbrev pub before_cells : List ℕ
before_cells = line (codes "gosnet 1") ++ codes "cells "

-- what stands before the count of ports, behind these cells
abbrev pub before_ports : List Cell → List ℕ
before_ports cells = line (codes "gosnet 1") ++ count_line (codes "cells") (length cells) ++ flat_map cell_text cells ++ codes "ports "

-- the first digit of a count that is above its limit stands at `at`
abbrev pub IsAboveLimit : List ℕ → ℕ → Type 0
IsAboveLimit text at =
    CountAbove 5000000 before_cells text at
    ⊎ ((cells : List Cell) × AllByRecursion IsWritableCell cells × (length cells ≤ 5000000) × CountAbove 65536 (before_ports cells) text at)

-- Why a text is refused. `Form`: `at` is the first place at which it can't go on as a text of the format, or its end.
abbrev pub HasFault : List ℕ → NetTextFault → Type 0
HasFault text (faults.Form at) =
    (length text ≤ 268435456) × ((place : ℕ) → IsAboveLimit text place → ⊥) × StopsAt IsNetText text 0 at × (IsNetText text → ⊥)
HasFault text (faults.Limit at) =
    ((268435456 < length text) × (at ≡ 268435456)) ⊎ ((length text ≤ 268435456) × IsAboveLimit text at)
HasFault text faults.NoMemory = Unit {0}

-- a text is the text of one netlist at most
abbrev pub IsOneNetlist : List ℕ → Type 0
IsOneNetlist text = (net other : Netlist) → IsWritable net → IsWritable other → text ≡ text_of net → text ≡ text_of other → net ≡ other

-- a text that is read has no fault but want of memory
abbrev pub ReadHasNoFault : List ℕ → Type 0
ReadHasNoFault text = (net : Netlist) (fault : NetTextFault) → IsRead text net → HasFault text fault → fault ≡ faults.NoMemory

-- A netlist of the format with so many cells and ports at most has a text that is not too long: it is read, as that netlist.
abbrev pub PrintedIsRead : Type 0
PrintedIsRead = (net : Netlist) → IsWritable net → length net.cells ≤ 5000000 → length net.ports ≤ 65536 → IsRead (text_of net) net

-- a text has one fault at most beside want of memory
abbrev pub HasOneFault : List ℕ → Type 0
HasOneFault text =
    (fault other : NetTextFault) → HasFault text fault → HasFault text other
    → (fault ≡ other) ⊎ ((fault ≡ faults.NoMemory) ⊎ (other ≡ faults.NoMemory))
