-- How long the text of a netlist is: at most 42 bytes a cell and 334 a port, so that a text within the counts is not too long.
use Rattle.std.proofs.Common.{◌≡◌, ℕ, ◌+◌, ◌*◌, ◌^◌, ◌<◌, ◌≤◌, List, [], ◌∷◌, ◌++◌, length, refl, arith, length-append}
use Rattle.std.proofs.Math.Pow.{pow_mono}
use Rattle.std.proofs.lemmas.Fmt.{length-decimal-le}
use Rattle.std.specs.Prelude.{codes}
use Rattle.std.specs.Fmt.{decimal}
use Rattle.std.specs.List.{AllByRecursion, flat_map}
use Rattle.gos_types.specs.declared.widths.TheConstants.{GREATEST_WIDTH}
use Rattle.gos_types.specs.Types.{Type', Com, Exp, Var, Pair, Fun}
use Rattle.gos_types.specs.TypeText.{type_text}
use Rattle.gos_netlist.specs.Nets.{Function, Input, Const, Not, And, Or, Xor, Mux, Add, Sub, Eq, Less, Gate, Reg, Cell, Side, Give, Take, NetPort, Netlist}
use Rattle.gos_netlist.specs.NetText.{line, spaced_number, spaced, word_of, operands, cell_text, side_word, port_head, port_text, count_line, text_of}
use Rattle.gos_netlist.specs.Writable.{IsNumber, OperandsFit, IsWritableCell, IsPortType, IsWritablePort, IsWritable}
use Rattle.gos_netlist.specs.Events.{net_count}
use Rattle.gos_types.specs.Widths.{IsWidth}
use Rattle.gos_netlist.specs.NetFaults.{PrintedIsRead}

-- a number behind a space
number_length : (k n : ℕ) → 0 < k → n < 10 ^ k → n < 2 ^ 64 → length (spaced_number n) ≤ 1 + k
number_length k n some below fits = omega (arith, length-append (codes " ") (decimal n), length-decimal-le k n some below fits)

net_length : (n : ℕ) → IsNumber n → length (spaced_number n) ≤ 11
net_length n is = number_length 10 n (omega arith) (omega (arith, is)) (omega (arith, is))

width_length : (w : ℕ) → IsWidth w → length (spaced_number w) ≤ 3
width_length w is = number_length 2 w (omega arith) (omega (arith, is)) (omega (arith, is))

-- nets, each behind a space
nets_length : (ns : List ℕ) → AllByRecursion IsNumber ns → length (spaced ns) ≤ 11 * length ns
nets_length [] all = omega arith
nets_length (n ∷ ns) all =
    omega (arith, length-append (spaced_number n) (spaced ns), net_length n all.0, nets_length ns all.1)

one_length : (n : ℕ) → length (spaced_number n) ≤ 11 → length (spaced (n ∷ [])) ≤ 11
one_length n short = omega (arith, length-append (spaced_number n) [], short)

-- what stands behind the width of a cell
operands_length : (w : ℕ) (f : Function) → IsWidth w → OperandsFit w f → length (spaced (operands f)) ≤ 33
operands_length w Input width fit = omega arith
operands_length w (Const k) width fit =
    let most : 2 ^ w ≤ 2 ^ GREATEST_WIDTH = pow_mono width.1 in
    omega (arith, length-append (spaced_number k) [], number_length 20 k (omega arith) (omega (arith, fit, most)) (omega (arith, fit, most)))
operands_length w (Not a) width fit = omega (arith, nets_length (a ∷ []) fit)
operands_length w (And a b) width fit = omega (arith, nets_length (a ∷ b ∷ []) fit)
operands_length w (Or a b) width fit = omega (arith, nets_length (a ∷ b ∷ []) fit)
operands_length w (Xor a b) width fit = omega (arith, nets_length (a ∷ b ∷ []) fit)
operands_length w (Mux s a b) width fit = omega (arith, nets_length (s ∷ a ∷ b ∷ []) fit)
operands_length w (Add a b) width fit = omega (arith, nets_length (a ∷ b ∷ []) fit)
operands_length w (Sub a b) width fit = omega (arith, nets_length (a ∷ b ∷ []) fit)
operands_length w (Eq a b) width fit = omega (arith, nets_length (a ∷ b ∷ []) fit)
operands_length w (Less a b) width fit = omega (arith, nets_length (a ∷ b ∷ []) fit)
operands_length w (Gate s a) width fit = omega (arith, nets_length (s ∷ a ∷ []) fit)
operands_length w (Reg a) width fit = omega (arith, nets_length (a ∷ []) fit)

word_length : (f : Function) → length (word_of f) ≤ 5
word_length Input = omega arith
word_length (Const k) = omega arith
word_length (Not a) = omega arith
word_length (And a b) = omega arith
word_length (Or a b) = omega arith
word_length (Xor a b) = omega arith
word_length (Mux s a b) = omega arith
word_length (Add a b) = omega arith
word_length (Sub a b) = omega arith
word_length (Eq a b) = omega arith
word_length (Less a b) = omega arith
word_length (Gate s a) = omega arith
word_length (Reg a) = omega arith

line_length : (text : List ℕ) → length (line text) ≡ length text + 1
line_length text = length-append text (10 ∷ [])

cell_length : (c : Cell) → IsWritableCell c → length (cell_text c) ≤ 42
cell_length c is =
    let numbers : List ℕ = spaced_number c.width ++ spaced (operands c.gate) in
    omega (
      arith,
      line_length (word_of c.gate ++ numbers),
      length-append (word_of c.gate) numbers,
      length-append (spaced_number c.width) (spaced (operands c.gate)),
      word_length c.gate,
      width_length c.width is.0,
      operands_length c.width c.gate is.0 is.1,
    )

-- the type of a port
type_length : (t : Type') → IsPortType t → (length (type_text t) ≤ 6) × (net_count t ≤ 6)
type_length Com is = (omega arith, omega arith)
type_length (Exp w) is = (omega (arith, width_length w is), omega arith)
type_length (Var w) is = (omega (arith, width_length w is), omega arith)
type_length (Pair a b) is = absurd is
type_length (Fun a b) is = absurd is

side_length : (side : Side) → length (side_word side) ≡ 4
side_length Give = refl
side_length Take = refl

head_length : (side : Side) (name : List ℕ) → length (port_head side name) ≡ 6 + length name
head_length side name =
    omega (
      arith,
      length-append ((side_word side ++ codes " ") ++ name) (codes " "),
      length-append (side_word side ++ codes " ") name,
      length-append (side_word side) (codes " "),
      side_length side,
    )

port_length : (p : NetPort) → IsWritablePort p → length (port_text p) ≤ 334
port_length p is =
    let head : List ℕ = port_head p.side p.name in
    omega (
      arith,
      line_length ((head ++ type_text p.ty) ++ spaced p.nets),
      length-append (head ++ type_text p.ty) (spaced p.nets),
      length-append head (type_text p.ty),
      head_length p.side p.name,
      is.name.short,
      type_length p.ty is.ty,
      nets_length p.nets is.nets,
      is.many,
    )

-- all lines of a section, where each has so many bytes at most
lines_length : (V : Type 0) (Is : V → Type 0) (text : V → List ℕ) (most : ℕ) → ((v : V) → Is v → length (text v) ≤ most)
    → (vs : List V) → AllByRecursion Is vs → length (flat_map text vs) ≤ most * length vs
lines_length V Is text most each [] all = omega arith
lines_length V Is text most each (v ∷ vs) all =
    omega (arith, length-append (text v) (flat_map text vs), each v all.0, lines_length V Is text most each vs all.1)

count_length : (word : List ℕ) (n : ℕ) → IsNumber n → length (count_line word n) ≤ length word + 12
count_length word n is =
    omega (arith, line_length (word ++ spaced (n ∷ [])), length-append word (spaced (n ∷ [])), one_length n (net_length n is))

text_length : (net : Netlist) → IsWritable net → length net.cells ≤ 5000000 → length net.ports ≤ 65536 → length (text_of net) ≤ 268435456
text_length net is few_cells few_ports =
    let first : List ℕ = line (codes "gosnet 1") in
    let second : List ℕ = count_line (codes "cells") (length net.cells) in
    let cells : List ℕ = flat_map cell_text net.cells in
    let third : List ℕ = count_line (codes "ports") (length net.ports) in
    let ports : List ℕ = flat_map port_text net.ports in
    let last : List ℕ = line (codes "end") in
    omega (
      arith,
      length-append ((((first ++ second) ++ cells) ++ third) ++ ports) last,
      length-append (((first ++ second) ++ cells) ++ third) ports,
      length-append ((first ++ second) ++ cells) third,
      length-append (first ++ second) cells,
      length-append first second,
      count_length (codes "cells") (length net.cells) is.cell_count,
      count_length (codes "ports") (length net.ports) is.port_count,
      lines_length Cell IsWritableCell cell_text 42 cell_length net.cells is.cells,
      lines_length NetPort IsWritablePort port_text 334 port_length net.ports is.ports,
    )

pub printed_is_read : PrintedIsRead
printed_is_read net is few_cells few_ports = record {
  short = text_length net is few_cells few_ports;
  is = refl;
  writable = is;
  few_cells = few_cells;
  few_ports = few_ports;
}
