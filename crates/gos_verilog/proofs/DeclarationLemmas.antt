-- The declarations are known by their text.
use Rattle.std.proofs.Common.{◌≡◌, inl, inr, ℕ, suc, ◌-◌, ◌≤◌, Bool, true, false, if◌then◌else◌, List, [], ◌∷◌, ◌++◌, get_or, refl, sym, ◌∙◌, ap, arith, append_assoc, codes}
use Rattle.std.specs.Fmt.{decimal}
use Rattle.std.specs.List.{AllByRecursion, flat_map}
use Rattle.std.proofs.lemmas.List.{append_cancel_left}
use Rattle.gos_lex.specs.Bytes.{continues_name}
use Rattle.gos_netlist.specs.Nets.{Function, Reg, Cell}
use Rattle.gos_verilog.specs.PortNets.{PortNet}
use Rattle.gos_verilog.specs.Lines.{declaration, direction_word, port_declaration, cell_net, kind_word, cell_declaration, cell_declarations, output_assignment, assignment}
use Rattle.gos_verilog.specs.inner.Drivers.{is_register}
pub use Rattle.gos_verilog.specs.inner.Stages.{word_of, IsBody, HaveNames, listed}
use Rattle.gos_verilog.proofs.CodeLemmas.{number_code, name_code}
use Rattle.gos_verilog.proofs.ExpressionLemmas.{IsSmall}

-- a number of bits
abbrev pub IsBits : ℕ → Type 0
IsBits w = (1 ≤ w) × IsSmall w

same_bits : (v w : ℕ) → IsBits v → IsBits w → v - 1 ≡ w - 1 → v ≡ w
same_bits v w is_v is_w same = omega (arith, same, is_v.0, is_w.0)

-- a declaration, by its parts
pub declaration_text : (kind name x : List ℕ) (w : ℕ) → declaration kind w name ++ x ≡ 32 ∷ 32 ∷ (kind ++ 32 ∷ 91 ∷ (decimal (w - 1) ++ 58 ∷ 48 ∷ 93 ∷ 32 ∷ (name ++ 59 ∷ 10 ∷ x)))
declaration_text kind name x w =
    append_assoc (codes "  " ++ kind ++ codes " [" ++ decimal (w - 1) ++ codes ":0] " ++ name) (codes ";\n") x
    ∙ (append_assoc (codes "  " ++ kind ++ codes " [" ++ decimal (w - 1) ++ codes ":0] ") name (59 ∷ 10 ∷ x)
    ∙ (append_assoc (codes "  " ++ kind ++ codes " [" ++ decimal (w - 1)) (codes ":0] ") (name ++ 59 ∷ 10 ∷ x)
    ∙ (append_assoc (codes "  " ++ kind ++ codes " [") (decimal (w - 1)) (58 ∷ 48 ∷ 93 ∷ 32 ∷ (name ++ 59 ∷ 10 ∷ x))
    ∙ append_assoc (codes "  " ++ kind) (codes " [") (decimal (w - 1) ++ 58 ∷ 48 ∷ 93 ∷ 32 ∷ (name ++ 59 ∷ 10 ∷ x)))))

-- declarations of one kind and one name
pub same_kind : (kind name x y : List ℕ) (v w : ℕ) → IsBits v → IsBits w → declaration kind v name ++ x ≡ declaration kind w name ++ y → (v ≡ w) × (x ≡ y)
same_kind kind name x y v w is_v is_w same =
    let whole : 32 ∷ 32 ∷ (kind ++ 32 ∷ 91 ∷ (decimal (v - 1) ++ 58 ∷ 48 ∷ 93 ∷ 32 ∷ (name ++ 59 ∷ 10 ∷ x))) ≡ 32 ∷ 32 ∷ (kind ++ 32 ∷ 91 ∷ (decimal (w - 1) ++ 58 ∷ 48 ∷ 93 ∷ 32 ∷ (name ++ 59 ∷ 10 ∷ y))) =
    sym (declaration_text kind name x v) ∙ (same ∙ declaration_text kind name y w) in
    let behind = append_cancel_left (32 ∷ 32 ∷ kind) (32 ∷ 91 ∷ (decimal (v - 1) ++ 58 ∷ 48 ∷ 93 ∷ 32 ∷ (name ++ 59 ∷ 10 ∷ x))) (32 ∷ 91 ∷ (decimal (w - 1) ++ 58 ∷ 48 ∷ 93 ∷ 32 ∷ (name ++ 59 ∷ 10 ∷ y))) whole in
    let known = number_code (v - 1) (w - 1) 58 58 (48 ∷ 93 ∷ 32 ∷ (name ++ 59 ∷ 10 ∷ x)) (48 ∷ 93 ∷ 32 ∷ (name ++ 59 ∷ 10 ∷ y)) (omega (arith, is_v.1)) (omega (arith, is_w.1)) refl refl (cc behind) in
    let last = append_cancel_left name (59 ∷ 10 ∷ x) (59 ∷ 10 ∷ y) (cc (known.1)) in
    (same_bits v w is_v is_w known.0, cc last)

kind_is : (f : Function) → kind_word f ≡ word_of (is_register f)
kind_is (Reg a) = refl
kind_is f = refl

pub cell_text : (i : ℕ) (cell : Cell) (x : List ℕ)
    → cell_declaration i cell ++ x ≡ declaration (word_of (is_register cell.gate)) cell.width (cell_net i) ++ x
cell_text i cell x = ap (λ kind. declaration kind cell.width (cell_net i) ++ x) (kind_is cell.gate)

-- the declarations of one cell
pub cell_code : (i : ℕ) (c d : Cell) (x y : List ℕ) → IsBits c.width → IsBits d.width → cell_declaration i c ++ x ≡ cell_declaration i d ++ y
    → (is_register c.gate ≡ is_register d.gate) × (c.width ≡ d.width) × (x ≡ y)
cell_code i c d x y is_c is_d same = by (is_register c.gate) (is_register d.gate) refl refl
  where
    Known : Type 0
    Known = (is_register c.gate ≡ is_register d.gate) × (c.width ≡ d.width) × (x ≡ y)

    whole : declaration (word_of (is_register c.gate)) c.width (cell_net i) ++ x ≡ declaration (word_of (is_register d.gate)) d.width (cell_net i) ++ y
    whole = sym (cell_text i c x) ∙ (same ∙ cell_text i d y)

    alike : (kind : Bool) → is_register c.gate ≡ kind → is_register d.gate ≡ kind → Known
    alike kind is_one is_two =
        let known = same_kind (word_of kind) (cell_net i) x y c.width d.width is_c is_d
        (ap (λ (b : Bool). declaration (word_of b) c.width (cell_net i) ++ x) (sym is_one) ∙ (whole ∙ ap (λ (b : Bool). declaration (word_of b) d.width (cell_net i) ++ y) is_two)) in
        (is_one ∙ sym is_two, known.0, known.1)

    unlike : (a b : Bool) → is_register c.gate ≡ a → is_register d.gate ≡ b → get_or (declaration (word_of a) c.width (cell_net i) ++ x) 2 0 ≡ get_or (declaration (word_of b) d.width (cell_net i) ++ y) 2 0
    unlike a b is_one is_two =
        ap (λ (bytes : List ℕ). get_or bytes 2 0)
        (ap (λ (k : Bool). declaration (word_of k) c.width (cell_net i) ++ x) (sym is_one) ∙ (whole ∙ ap (λ (k : Bool). declaration (word_of k) d.width (cell_net i) ++ y) is_two))

    by : (a b : Bool) → is_register c.gate ≡ a → is_register d.gate ≡ b → Known
    by true true is_one is_two = alike true is_one is_two
    by false false is_one is_two = alike false is_one is_two
    by true false is_one is_two = let byte : 114 ≡ 119 = unlike true false is_one is_two in absurd (omega (arith, byte))
    by false true is_one is_two = let byte : 119 ≡ 114 = unlike false true is_one is_two in absurd (omega (arith, byte))

-- cells of equal bits and kinds
abbrev pub AreAlike : List Cell → List Cell → Type 0
AreAlike [] [] = Unit {0}
AreAlike [] (d ∷ ds) = ⊥
AreAlike (c ∷ cs) [] = ⊥
AreAlike (c ∷ cs) (d ∷ ds) = (is_register c.gate ≡ is_register d.gate) × (c.width ≡ d.width) × AreAlike cs ds

abbrev pub HaveBits : List Cell → Type 0
HaveBits = AllByRecursion (λ c. IsBits c.width)

pub no_body : (i : ℕ) (c : Cell) (x body : List ℕ) → IsBody body → cell_declaration i c ++ x ≡ body → ⊥
no_body i c x body is same = by (is_register c.gate) refl is
  where
    whole : (kind : Bool) → is_register c.gate ≡ kind → declaration (word_of kind) c.width (cell_net i) ++ x ≡ body
    whole kind is_kind = ap (λ (k : Bool). declaration (word_of k) c.width (cell_net i) ++ x) (sym is_kind) ∙ (sym (cell_text i c x) ∙ same)

    by : (kind : Bool) → is_register c.gate ≡ kind → IsBody body → ⊥
    by true is_kind (inl first) = let byte : 32 ≡ 101 = ap (λ (bytes : List ℕ). get_or bytes 0 0) (whole true is_kind) ∙ first in omega (arith, byte)
    by true is_kind (inr third) = let byte : 114 ≡ 97 = ap (λ (bytes : List ℕ). get_or bytes 2 0) (whole true is_kind) ∙ third in omega (arith, byte)
    by false is_kind (inl first) = let byte : 32 ≡ 101 = ap (λ (bytes : List ℕ). get_or bytes 0 0) (whole false is_kind) ∙ first in omega (arith, byte)
    by false is_kind (inr third) = let byte : 119 ≡ 97 = ap (λ (bytes : List ℕ). get_or bytes 2 0) (whole false is_kind) ∙ third in omega (arith, byte)

pub cells_code : (i : ℕ) (cs ds : List Cell) (x y : List ℕ) → HaveBits cs → HaveBits ds → IsBody x → IsBody y → cell_declarations i cs ++ x ≡ cell_declarations i ds ++ y → AreAlike cs ds × (x ≡ y)
cells_code i [] [] x y is_c is_d body_x body_y same = (tt, same)
cells_code i [] (d ∷ ds) x y is_c is_d body_x body_y same =
    absurd (no_body i d (cell_declarations (suc i) ds ++ y) x body_x (sym (append_assoc (cell_declaration i d) (cell_declarations (suc i) ds) y) ∙ sym same))
cells_code i (c ∷ cs) [] x y is_c is_d body_x body_y same =
    absurd (no_body i c (cell_declarations (suc i) cs ++ x) y body_y (sym (append_assoc (cell_declaration i c) (cell_declarations (suc i) cs) x) ∙ same))
cells_code i (c ∷ cs) (d ∷ ds) x y is_c is_d body_x body_y same =
    let one = cell_code i c d (cell_declarations (suc i) cs ++ x) (cell_declarations (suc i) ds ++ y) is_c.0 is_d.0
    (sym (append_assoc (cell_declaration i c) (cell_declarations (suc i) cs) x) ∙ (same ∙ append_assoc (cell_declaration i d) (cell_declarations (suc i) ds) y)) in
    let rest = cells_code (suc i) cs ds x y is_c.1 is_d.1 body_x body_y one.2 in
    ((one.0, one.1, rest.0), rest.1)

-- nets of ports of equal names, directions and bits
abbrev pub AreSameHeads : List PortNet → List PortNet → Type 0
AreSameHeads [] [] = Unit {0}
AreSameHeads [] (m ∷ ms) = ⊥
AreSameHeads (n ∷ ns) [] = ⊥
AreSameHeads (n ∷ ns) (m ∷ ms) = (n.name ≡ m.name) × (n.input ≡ m.input) × (n.width ≡ m.width) × AreSameHeads ns ms

abbrev pub AreSameNames : List PortNet → List PortNet → Type 0
AreSameNames [] [] = Unit {0}
AreSameNames [] (m ∷ ms) = ⊥
AreSameNames (n ∷ ns) [] = ⊥
AreSameNames (n ∷ ns) (m ∷ ms) = (n.name ≡ m.name) × AreSameNames ns ms

abbrev pub HaveNetBits : List PortNet → Type 0
HaveNetBits = AllByRecursion (λ n. IsBits n.width)

-- the declaration of one net of a port
pub net_declaration_code : (n m : PortNet) (x y : List ℕ) → IsBits n.width → IsBits m.width → n.name ≡ m.name → port_declaration n ++ x ≡ port_declaration m ++ y
    → (n.input ≡ m.input) × (n.width ≡ m.width) × (x ≡ y)
net_declaration_code n m x y is_n is_m named same = by n.input m.input refl refl
  where
    Known : Type 0
    Known = (n.input ≡ m.input) × (n.width ≡ m.width) × (x ≡ y)

    whole : (a b : Bool) → n.input ≡ a → m.input ≡ b → declaration (direction_word a) n.width n.name ++ x ≡ declaration (direction_word b) m.width n.name ++ y
    whole a b is_a is_b =
        ap (λ (k : Bool). declaration (direction_word k) n.width n.name ++ x) (sym is_a)
        ∙ (same ∙ (λ i. declaration (direction_word (is_b i)) m.width (sym named i) ++ y))

    alike : (a : Bool) → n.input ≡ a → m.input ≡ a → Known
    alike a is_a is_b = let known = same_kind (direction_word a) n.name x y n.width m.width is_n is_m (whole a a is_a is_b) in (is_a ∙ sym is_b, known.0, known.1)

    by : (a b : Bool) → n.input ≡ a → m.input ≡ b → Known
    by true true is_a is_b = alike true is_a is_b
    by false false is_a is_b = alike false is_a is_b
    by true false is_a is_b = let byte : 105 ≡ 111 = ap (λ (bytes : List ℕ). get_or bytes 2 0) (whole true false is_a is_b) in absurd (omega (arith, byte))
    by false true is_a is_b = let byte : 111 ≡ 105 = ap (λ (bytes : List ℕ). get_or bytes 2 0) (whole false true is_a is_b) in absurd (omega (arith, byte))

pub nets_code : (ns ms : List PortNet) (x y : List ℕ) → HaveNetBits ns → HaveNetBits ms → AreSameNames ns ms → flat_map port_declaration ns ++ x ≡ flat_map port_declaration ms ++ y
    → AreSameHeads ns ms × (x ≡ y)
nets_code [] [] x y is_n is_m named same = (tt, same)
nets_code [] (m ∷ ms) x y is_n is_m named same = absurd named
nets_code (n ∷ ns) [] x y is_n is_m named same = absurd named
nets_code (n ∷ ns) (m ∷ ms) x y is_n is_m named same =
    let one = net_declaration_code n m (flat_map port_declaration ns ++ x) (flat_map port_declaration ms ++ y) is_n.0 is_m.0 named.0
    (sym (append_assoc (port_declaration n) (flat_map port_declaration ns) x) ∙ (same ∙ append_assoc (port_declaration m) (flat_map port_declaration ms) y)) in
    let rest = nets_code ns ms x y is_n.1 is_m.1 named.1 one.2 in
    ((named.0, one.0, one.1, rest.0), rest.1)

-- what follows a name
pub follows : (ns : List PortNet) (x : List ℕ) → (c : ℕ) × (rest : List ℕ) × (listed ns ++ 41 ∷ x ≡ c ∷ rest) × (continues_name c ≡ false)
follows [] x = (41, x, refl, refl)
follows (n ∷ ns) x = (44, 32 ∷ (n.name ++ listed ns ++ 41 ∷ x), refl, refl)

pub names_code : (ns ms : List PortNet) (x y : List ℕ) → HaveNames ns → HaveNames ms → listed ns ++ 41 ∷ x ≡ listed ms ++ 41 ∷ y → AreSameNames ns ms × (x ≡ y)
names_code [] [] x y is_n is_m same = (tt, cc same)
names_code [] (m ∷ ms) x y is_n is_m same = let byte : 41 ≡ 44 = ap (λ (bytes : List ℕ). get_or bytes 0 0) same in absurd (omega (arith, byte))
names_code (n ∷ ns) [] x y is_n is_m same = let byte : 44 ≡ 41 = ap (λ (bytes : List ℕ). get_or bytes 0 0) same in absurd (omega (arith, byte))
names_code (n ∷ ns) (m ∷ ms) x y is_n is_m same =
    let next_n = follows ns x in
    let next_m = follows ms y in
    let inner : (n.name ++ listed ns) ++ 41 ∷ x ≡ (m.name ++ listed ms) ++ 41 ∷ y = cc same in
    let whole : n.name ++ next_n.0 ∷ next_n.1 ≡ m.name ++ next_m.0 ∷ next_m.1 =
    ap (λ rest. n.name ++ rest) (sym next_n.2) ∙ (sym (append_assoc n.name (listed ns) (41 ∷ x)) ∙ (inner ∙ (append_assoc m.name (listed ms) (41 ∷ y) ∙ ap (λ rest. m.name ++ rest) next_m.2))) in
    let one = name_code n.name m.name next_n.0 next_m.0 next_n.1 next_m.1 is_n.0 is_m.0 next_n.3 next_m.3 whole in
    let rest = names_code ns ms x y is_n.1 is_m.1 (next_n.2 ∙ (one.1 ∙ sym next_m.2)) in
    ((one.0, rest.0), rest.1)

-- the cells of the outputs are equal
abbrev pub AreSameOutputs : List PortNet → List PortNet → Type 0
AreSameOutputs [] [] = Unit {0}
AreSameOutputs [] (m ∷ ms) = ⊥
AreSameOutputs (n ∷ ns) [] = ⊥
AreSameOutputs (n ∷ ns) (m ∷ ms) = (n.input ≡ false → n.cell ≡ m.cell) × AreSameOutputs ns ms

abbrev pub HaveSmallCells : List PortNet → Type 0
HaveSmallCells = AllByRecursion (λ n. IsSmall n.cell)

pub output_text : (n : PortNet) (x : List ℕ) → n.input ≡ false → output_assignment n ++ x ≡ codes "  assign " ++ (n.name ++ 32 ∷ 61 ∷ 32 ∷ 110 ∷ (decimal n.cell ++ 59 ∷ 10 ∷ x))
output_text n x is =
    ap (λ (b : Bool). (if b then [] else assignment n.name (cell_net n.cell)) ++ x) is
    ∙ (append_assoc (codes "  assign " ++ n.name ++ codes " = " ++ cell_net n.cell) (codes ";\n") x
    ∙ (append_assoc (codes "  assign " ++ n.name ++ codes " = ") (cell_net n.cell) (59 ∷ 10 ∷ x)
    ∙ (append_assoc (codes "  assign " ++ n.name) (codes " = ") (cell_net n.cell ++ 59 ∷ 10 ∷ x)
    ∙ append_assoc (codes "  assign ") n.name (codes " = " ++ (cell_net n.cell ++ 59 ∷ 10 ∷ x)))))

pub outputs_code : (ns ms : List PortNet) (x y : List ℕ) → HaveSmallCells ns → HaveSmallCells ms → AreSameHeads ns ms → flat_map output_assignment ns ++ x ≡ flat_map output_assignment ms ++ y
    → AreSameOutputs ns ms
outputs_code [] [] x y is_n is_m heads same = tt
outputs_code [] (m ∷ ms) x y is_n is_m heads same = absurd heads
outputs_code (n ∷ ns) [] x y is_n is_m heads same = absurd heads
outputs_code (n ∷ ns) (m ∷ ms) x y is_n is_m heads same =
    by n.input refl (λ rest. outputs_code ns ms x y is_n.1 is_m.1 heads.3 rest)
  where
    one : List ℕ
    one = flat_map output_assignment ns ++ x

    other : List ℕ
    other = flat_map output_assignment ms ++ y

    whole : output_assignment n ++ one ≡ output_assignment m ++ other
    whole = sym (append_assoc (output_assignment n) (flat_map output_assignment ns) x) ∙ (same ∙ append_assoc (output_assignment m) (flat_map output_assignment ms) y)

    by : (b : Bool) → n.input ≡ b → (one ≡ other → AreSameOutputs ns ms) → (n.input ≡ false → n.cell ≡ m.cell) × AreSameOutputs ns ms
    by true is behind =
        let none_n : output_assignment n ++ one ≡ one = ap (λ (b : Bool). (if b then [] else assignment n.name (cell_net n.cell)) ++ one) is in
        let none_m : output_assignment m ++ other ≡ other = ap (λ (b : Bool). (if b then [] else assignment m.name (cell_net m.cell)) ++ other) (sym heads.1 ∙ is) in
        ((λ no. absurd (let both : true ≡ false = sym is ∙ no in cc both)), behind (sym none_n ∙ (whole ∙ none_m)))
    by false is behind =
        let text : codes "  assign " ++ (n.name ++ 32 ∷ 61 ∷ 32 ∷ 110 ∷ (decimal n.cell ++ 59 ∷ 10 ∷ one)) ≡ codes "  assign " ++ (n.name ++ 32 ∷ 61 ∷ 32 ∷ 110 ∷ (decimal m.cell ++ 59 ∷ 10 ∷ other)) =
        sym (output_text n one is) ∙ (whole ∙ (output_text m other (sym heads.1 ∙ is) ∙ ap (λ name. codes "  assign " ++ (name ++ 32 ∷ 61 ∷ 32 ∷ 110 ∷ (decimal m.cell ++ 59 ∷ 10 ∷ other))) (sym heads.0))) in
        let inner = append_cancel_left (codes "  assign ") (n.name ++ 32 ∷ 61 ∷ 32 ∷ 110 ∷ (decimal n.cell ++ 59 ∷ 10 ∷ one)) (n.name ++ 32 ∷ 61 ∷ 32 ∷ 110 ∷ (decimal m.cell ++ 59 ∷ 10 ∷ other)) text in
        let behind_name = append_cancel_left n.name (32 ∷ 61 ∷ 32 ∷ 110 ∷ (decimal n.cell ++ 59 ∷ 10 ∷ one)) (32 ∷ 61 ∷ 32 ∷ 110 ∷ (decimal m.cell ++ 59 ∷ 10 ∷ other)) inner in
        let known = number_code n.cell m.cell 59 59 (10 ∷ one) (10 ∷ other) is_n.0 is_m.0 refl refl (cc behind_name) in
        ((λ _. known.0), behind (cc (known.1)))
