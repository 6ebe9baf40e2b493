-- The text of a netlist.
--
-- Read first: Nets. A line for each cell and each port, in their order, between lines with their counts. Words stand
-- apart by one space, numbers are decimal, and each line ends with a line feed. A type is written as in the source.
use Rattle.std.specs.Prelude.{ℕ, List, [], ◌∷◌, ◌++◌, length, codes}
use Rattle.std.specs.List.{flat_map}
use Rattle.std.specs.Fmt.{decimal}
use Rattle.gos_types.specs.TypeText.{type_text}
use Rattle.gos_netlist.specs.Nets.{Function, Input, Const, Not, And, Or, Xor, Mux, Add, Sub, Eq, Less, Gate, Reg, Cell, pins, Side, Give, Take, NetPort, Netlist}

-- a text as a line
abbrev pub line : List ℕ → List ℕ
line text = text ++ 10 ∷ []

-- a number behind a space
abbrev pub spaced_number : ℕ → List ℕ
spaced_number n = codes " " ++ decimal n

-- numbers, each behind a space
abbrev pub spaced : List ℕ → List ℕ
spaced = flat_map spaced_number

-- the word for a function
abbrev pub word_of : Function → List ℕ
word_of Input = codes "input"
word_of (Const k) = codes "const"
word_of (Not a) = codes "not"
word_of (And a b) = codes "and"
word_of (Or a b) = codes "or"
word_of (Xor a b) = codes "xor"
word_of (Mux s a b) = codes "mux"
word_of (Add a b) = codes "add"
word_of (Sub a b) = codes "sub"
word_of (Eq a b) = codes "eq"
word_of (Less a b) = codes "less"
word_of (Gate s a) = codes "gate"
word_of (Reg a) = codes "reg"

-- the numbers behind a function's word and width: the constant, or the nets that it names
abbrev pub operands : Function → List ℕ
operands (Const k) = k ∷ []
operands f = pins f

-- the line of a cell: its word, its width, its numbers
abbrev pub cell_text : Cell → List ℕ
cell_text c = line (word_of c.gate ++ spaced (c.width ∷ operands c.gate))

-- the word for a side
abbrev pub side_word : Side → List ℕ
side_word Give = codes "give"
side_word Take = codes "take"

-- a side and a name, each with a space behind it
abbrev pub port_head : Side → List ℕ → List ℕ
port_head side name = side_word side ++ codes " " ++ name ++ codes " "

-- the line of a port: its side, its name, its type, its nets
abbrev pub port_text : NetPort → List ℕ
port_text p = line (port_head p.side p.name ++ type_text p.ty ++ spaced p.nets)

-- a line with a count
abbrev pub count_line : List ℕ → ℕ → List ℕ
count_line word n = line (word ++ spaced (n ∷ []))

-- the whole text
abbrev pub text_of : Netlist → List ℕ
text_of net =
    line (codes "gosnet 1")
    ++ count_line (codes "cells") (length net.cells) ++ flat_map cell_text net.cells
    ++ count_line (codes "ports") (length net.ports) ++ flat_map port_text net.ports
    ++ line (codes "end")
