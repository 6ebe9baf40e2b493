-- The whole text: its head, its cells, a word, its ports and its end. Where one of them breaks off, no netlist is read,
-- and no count is above its limit unless it is named.
use Rattle.std.proofs.Common.{◌≡◌, inl, inr, ℕ, ◌+◌, ◌-◌, ◌≤◌, List, [], ◌∷◌, ◌++◌, length, take, refl, sym, ◌∙◌, ap, subst, arith, append_assoc, append-nil, length-append}
use Rattle.std.specs.Prelude.{codes}
use Rattle.std.specs.Fmt.{decimal}
use Rattle.std.specs.List.{flat_map, slice_range}
use Rattle.std.proofs.lemmas.List.{append_cancel_left}
use Rattle.gos_lex.specs.Items.{TextAt, Misses}
use Rattle.gos_lex.proofs.PlaceLemmas.{length_slice, rest_whole, slice_split}
use Rattle.gos_netlist.specs.Nets.{Cell, NetPort, Netlist}
use Rattle.gos_netlist.specs.NetText.{line, count_line, cell_text, port_text, text_of}
use Rattle.gos_netlist.specs.Writable.{IsWritable, IsWritableCell, IsWritablePort}
use Rattle.gos_netlist.specs.NetFaults.{IsNetText, before_ports, IsAboveLimit}
use Rattle.gos_lex.specs.ItemTexts.{IsAbove, IsFixed, Passed, ended}
use Rattle.gos_netlist.specs.inner.NetLines.{AreCounted, section_text}
use Rattle.gos_lex.proofs.SequenceLemmas.{Then, IsCode, no_item, misses_as, then_first, then_rest, same_fronts}
use Rattle.gos_netlist.proofs.CellLemmas.{cell_code}
use Rattle.gos_netlist.proofs.PortLemmas.{port_code}
use Rattle.gos_netlist.proofs.SectionLemmas.{section_code}

-- the bytes before the count of cells, between the cells and the count of ports, and behind the ports
abbrev pub head : List ℕ
head = codes "gosnet 1\ncells "

abbrev pub middle : List ℕ
middle = codes "ports "

abbrev pub foot : List ℕ
foot = codes "end\n"

abbrev pub cells_text : List Cell → List ℕ
cells_text cells = section_text Cell cell_text cells

abbrev pub ports_text : List NetPort → List ℕ
ports_text ports = section_text NetPort port_text ports

abbrev pub AreCells : List Cell → Type 0
AreCells = AreCounted Cell IsWritableCell

abbrev pub ArePorts : List NetPort → Type 0
ArePorts = AreCounted NetPort IsWritablePort

-- what stands before the count of ports, by its parts
pub ports_front : (cells : List Cell) → before_ports cells ≡ head ++ (cells_text cells ++ middle)
ports_front cells =
    append_assoc (line (codes "gosnet 1") ++ count_line (codes "cells") (length cells)) (flat_map cell_text cells) middle
    ∙ (append_assoc (line (codes "gosnet 1")) (count_line (codes "cells") (length cells)) (flat_map cell_text cells ++ middle)
    ∙ ap (λ more. head ++ more) (inner ∙ sym (append_assoc (ended 10 (decimal (length cells))) (flat_map cell_text cells) middle)))
  where
    inner : (((decimal (length cells) ++ []) ++ 10 ∷ []) ++ (flat_map cell_text cells ++ middle)) ≡ ended 10 (decimal (length cells)) ++ (flat_map cell_text cells ++ middle)
    inner = ap (λ digits. (digits ++ 10 ∷ []) ++ (flat_map cell_text cells ++ middle)) (append-nil (decimal (length cells)))

-- the text by its parts
pub text_parts : (net : Netlist) → text_of net ≡ head ++ (cells_text net.cells ++ (middle ++ (ports_text net.ports ++ foot)))
text_parts net =
    let front : List ℕ = line (codes "gosnet 1") ++ count_line (codes "cells") (length net.cells) ++ flat_map cell_text net.cells in
    let number : List ℕ = ended 10 (decimal (length net.ports)) in
    let lines : List ℕ = flat_map port_text net.ports in
    let count : count_line (codes "ports") (length net.ports) ≡ middle ++ number = ap (λ digits. middle ++ (digits ++ 10 ∷ [])) (append-nil (decimal (length net.ports))) in
    append_assoc (front ++ count_line (codes "ports") (length net.ports)) lines foot
    ∙ (append_assoc front (count_line (codes "ports") (length net.ports)) (lines ++ foot)
    ∙ (ap (λ more. front ++ (more ++ (lines ++ foot))) count
    ∙ (ap (λ more. front ++ more) (append_assoc middle number (lines ++ foot))
    ∙ (sym (append_assoc front middle (number ++ (lines ++ foot)))
    ∙ (ap (λ more. more ++ (number ++ (lines ++ foot))) (ports_front net.cells)
    ∙ (append_assoc head (cells_text net.cells ++ middle) (number ++ (lines ++ foot))
    ∙ ap (λ more. head ++ more)
    (append_assoc (cells_text net.cells) middle (number ++ (lines ++ foot)) ∙ ap (λ more. cells_text net.cells ++ (middle ++ more)) (sym (append_assoc number lines foot)))))))))

-- texts of netlists don't begin one another
pub net_code : IsCode Netlist IsWritable text_of
net_code net other x y is is_other same =
    let one = whole net x in
    let two = whole other y in
    let behind_head = append_cancel_left head (cells_text net.cells ++ (middle ++ (ports_text net.ports ++ (foot ++ x)))) (cells_text other.cells ++ (middle ++ (ports_text other.ports ++ (foot ++ y)))) (sym one ∙ (same ∙ two)) in
    let cells = section_code Cell IsWritableCell cell_text cell_code net.cells other.cells (middle ++ (ports_text net.ports ++ (foot ++ x))) (middle ++ (ports_text other.ports ++ (foot ++ y))) (is.cell_count, is.cells) (is_other.cell_count, is_other.cells) behind_head in
    let behind_middle = append_cancel_left middle (ports_text net.ports ++ (foot ++ x)) (ports_text other.ports ++ (foot ++ y)) cells.1 in
    let ports = section_code NetPort IsWritablePort port_text port_code net.ports other.ports (foot ++ x) (foot ++ y) (is.port_count, is.ports) (is_other.port_count, is_other.ports) behind_middle in
    ((λ i. record { cells = cells.0 i; ports = ports.0 i }), append_cancel_left foot x y ports.1)
  where
    whole : (n : Netlist) (more : List ℕ) → text_of n ++ more ≡ head ++ (cells_text n.cells ++ (middle ++ (ports_text n.ports ++ (foot ++ more))))
    whole n more =
        ap (λ text. text ++ more) (text_parts n)
        ∙ (append_assoc head (cells_text n.cells ++ (middle ++ (ports_text n.ports ++ foot))) more
        ∙ ap (λ text. head ++ text) (append_assoc (cells_text n.cells) (middle ++ (ports_text n.ports ++ foot)) more
        ∙ ap (λ text. cells_text n.cells ++ text) (append_assoc middle (ports_text n.ports ++ foot) more
        ∙ ap (λ text. middle ++ text) (append_assoc (ports_text n.ports) foot more))))

-- these bytes stand in the text from place a to place b
pub record Spans (text : List ℕ) (a b : ℕ) (bytes : List ℕ) : Type 0 where
  pub after : a ≤ b
  pub within : b ≤ length text
  pub is : slice_range text a b ≡ bytes

pub spans_of : (text : List ℕ) (old new : TextAt) (bytes : List ℕ) → old.text ≡ text → Passed old new bytes → Spans text old.at new.at bytes
spans_of text old new bytes same passed =
    record {
      after = passed.after;
      within = subst (λ (source : List ℕ). new.at ≤ length source) same passed.within;
      is = subst (λ (source : List ℕ). slice_range source old.at new.at ≡ bytes) same passed.is;
    }

pub slice_whole : (text : List ℕ) → slice_range text 0 (length text) ≡ text
slice_whole text = rest_whole text 0

pub slice_take : (text : List ℕ) (n : ℕ) → slice_range text 0 n ≡ take n text
slice_take text n = let e : n - 0 ≡ n = omega arith in ap (λ (k : ℕ). take k text) e

-- what may stand from each part on
abbrev Foot : List ℕ → Type 0
Foot = IsFixed foot

abbrev pub Ports : List ℕ → Type 0
Ports = Then (List NetPort) ArePorts ports_text (λ _. IsFixed foot)

abbrev pub Middle : List ℕ → Type 0
Middle = Then (Unit {0}) (λ _. Unit {0}) (λ _. middle) (λ _. Ports)

abbrev Cells : List ℕ → Type 0
Cells = Then (List Cell) AreCells cells_text (λ _. Middle)

abbrev Whole : List ℕ → Type 0
Whole = Then (Unit {0}) (λ _. Unit {0}) (λ _. head) (λ _. Cells)

joined : (bytes : List ℕ) → Whole bytes → IsNetText bytes
joined bytes (u, behind_head, i, (cells, behind_cells, are_cells, (v, behind_middle, j, (ports, behind_ports, are_ports, (w, k, e5), e4), e3), e2), e1) =
    let net : Netlist = record { cells = cells; ports = ports } in (
      net,
      record { cells = are_cells.1; cell_count = are_cells.0; ports = are_ports.1; port_count = are_ports.0 },
      e1 ∙ (ap (λ more. head ++ more) (e2 ∙ ap (λ more. cells_text cells ++ more) (e3 ∙ ap (λ more. middle ++ more) (e4 ∙ ap (λ more. ports_text ports ++ more) e5))) ∙ sym (text_parts net)),
    )

cut : (bytes : List ℕ) → IsNetText bytes → Whole bytes
cut bytes (net, is, text) = (
  tt,
  cells_text net.cells ++ (middle ++ (ports_text net.ports ++ foot)),
  tt,
  (
    net.cells,
    middle ++ (ports_text net.ports ++ foot),
    (is.cell_count, is.cells),
    (tt, ports_text net.ports ++ foot, tt, (net.ports, foot, (is.port_count, is.ports), (tt, tt, refl), refl), refl),
    refl,
  ),
  text ∙ text_parts net,
)

fixed_code : (bytes : List ℕ) → IsCode (Unit {0}) (λ _. Unit {0}) (λ _. bytes)
fixed_code bytes v w x y is_v is_w same = (refl, append_cancel_left bytes x y same)

pub some_ports : (rest : List ℕ) × Ports rest
some_ports = (ports_text [] ++ foot, ([], foot, (omega arith, tt), (tt, tt, refl), refl))

pub some_middle : (rest : List ℕ) × Middle rest
some_middle = (middle ++ some_ports.0, (tt, some_ports.0, tt, some_ports.1, refl))

some_cells : (rest : List ℕ) × Cells rest
some_cells = (cells_text [] ++ some_middle.0, ([], some_middle.0, (omega arith, tt), some_middle.1, refl))

pub no_head : (text : List ℕ) (place : ℕ) → Misses (IsFixed head) text 0 place → Misses IsNetText text 0 place
no_head text place misses =
    misses_as Whole IsNetText text 0 place joined cut (then_first (Unit {0}) (λ _. Unit {0}) (λ _. head) (λ _. Cells) text 0 place (λ v is. some_cells) misses)

pub behind_head : (text : List ℕ) (a place : ℕ) → Spans text 0 a head → Misses Cells text a place → Misses IsNetText text 0 place
behind_head text a place spans misses =
    misses_as Whole IsNetText text 0 place joined cut (then_rest (Unit {0}) (λ _. Unit {0}) (λ _. head) (λ _. Cells) text 0 a place tt (fixed_code head) tt spans.after spans.within spans.is misses)

pub behind_cells : (text : List ℕ) (a b place : ℕ) (cells : List Cell) → Spans text 0 a head → AreCells cells → Spans text a b (cells_text cells) → Misses Middle text b place → Misses IsNetText text 0 place
behind_cells text a b place cells first are spans misses =
    behind_head text a place first
    (then_rest (List Cell) AreCells cells_text (λ _. Middle) text a b place cells (section_code Cell IsWritableCell cell_text cell_code) are spans.after spans.within spans.is misses)

pub behind_middle : (text : List ℕ) (a b d place : ℕ) (cells : List Cell) → Spans text 0 a head → AreCells cells → Spans text a b (cells_text cells) → Spans text b d middle → Misses Ports text d place → Misses IsNetText text 0 place
behind_middle text a b d place cells first are second spans misses =
    behind_cells text a b place cells first are second (then_rest (Unit {0}) (λ _. Unit {0}) (λ _. middle) (λ _. Ports) text b d place tt (fixed_code middle) tt spans.after spans.within spans.is misses)

pub behind_ports : (text : List ℕ) (a b d e place : ℕ) (cells : List Cell) (ports : List NetPort) → Spans text 0 a head → AreCells cells → Spans text a b (cells_text cells) → Spans text b d middle
    → ArePorts ports → Spans text d e (ports_text ports) → Misses (IsFixed foot) text e place → Misses IsNetText text 0 place
behind_ports text a b d e place cells ports first are second third are_ports spans misses =
    behind_middle text a b d place cells first are second third
    (then_rest (List NetPort) ArePorts ports_text (λ _. IsFixed foot) text d e place ports (section_code NetPort IsWritablePort port_text port_code) are_ports spans.after spans.within spans.is misses)

-- no count is above its limit
abbrev pub NoLimit : List ℕ → Type 0
NoLimit text = (place : ℕ) → IsAboveLimit text place → ⊥

pub above_within : (limit : ℕ) (text : List ℕ) (at : ℕ) → IsAbove limit text at → at ≤ length text
above_within limit text at above = omega (arith, above.passes.after, above.passes.within)

-- without the head there is none
pub no_limit_head : (text : List ℕ) (p : ℕ) → Misses (IsFixed head) text 0 p → NoLimit text
no_limit_head text p misses place (inl (front, above)) =
    no_item (Unit {0}) (λ _. Unit {0}) (λ _. head) text 0 p place tt [] misses tt (omega arith) (above_within 5000000 text place above) (slice_take text place ∙ front)
no_limit_head text p misses place (inr (cells, all, few, (front, above))) =
    no_item (Unit {0}) (λ _. Unit {0}) (λ _. head) text 0 p place tt (cells_text cells ++ middle) misses tt (omega arith) (above_within 65536 text place above) (slice_take text place ∙ (front ∙ ports_front cells))

-- a count of ports that is above its limit stands behind cells
abbrev PortsAbove : List ℕ → ℕ → Type 0
PortsAbove text a =
    (place : ℕ) (cells : List Cell) → AreCells cells → a ≤ place → place ≤ length text → slice_range text a place ≡ cells_text cells ++ middle → IsAbove 65536 text place → ⊥

-- behind the head only these two counts can be
pub no_limit_by : (text : List ℕ) (a : ℕ) → Spans text 0 a head → (IsAbove 5000000 text a → ⊥) → PortsAbove text a → NoLimit text
no_limit_by text a spans under none place (inl (front, above)) =
    let within = above_within 5000000 text place above in
    let here : place ≡ a =
    omega (arith, length_slice text 0 place within, length_slice text 0 a spans.within, ap length (slice_take text place ∙ (front ∙ sym spans.is))) in
    under (subst (λ (n : ℕ). IsAbove 5000000 text n) here above)
no_limit_by text a spans under none place (inr (cells, all, few, (front, above))) =
    let within = above_within 65536 text place above in
    let whole : slice_range text 0 place ≡ head ++ (cells_text cells ++ middle) = slice_take text place ∙ (front ∙ ports_front cells) in
    let after : a ≤ place =
    omega (arith, length_slice text 0 place within, length_slice text 0 a spans.within, ap length spans.is, ap length whole, length-append head (cells_text cells ++ middle)) in
    let rest : slice_range text a place ≡ cells_text cells ++ middle =
    append_cancel_left head (slice_range text a place) (cells_text cells ++ middle)
    (ap (λ part. part ++ slice_range text a place) (sym spans.is) ∙ (sym (slice_split text 0 a place (omega arith) after) ∙ whole)) in
    none place cells (omega (arith, few), all) after within rest above

-- behind the cells that are read stands the word before the count
pub word_behind : (text : List ℕ) (a b place : ℕ) (cells other : List Cell) → AreCells cells → AreCells other → Spans text a b (cells_text cells) → a ≤ place → place ≤ length text
    → slice_range text a place ≡ cells_text other ++ middle → (b ≤ place) × (slice_range text b place ≡ middle)
word_behind text a b place cells other are are_other spans after within is =
    let end : ℕ = length text in
    let one : slice_range text a end ≡ cells_text cells ++ slice_range text b end =
    slice_split text a b end spans.after spans.within ∙ ap (λ part. part ++ slice_range text b end) spans.is in
    let two : slice_range text a end ≡ cells_text other ++ (middle ++ slice_range text place end) =
    slice_split text a place end after within ∙ (ap (λ part. part ++ slice_range text place end) is ∙ append_assoc (cells_text other) middle (slice_range text place end)) in
    let known = section_code Cell IsWritableCell cell_text cell_code cells other (slice_range text b end) (middle ++ slice_range text place end) are are_other (sym one ∙ two) in
    let long = length_slice text b end (omega arith) in
    let short = length_slice text place end (omega arith) in
    let six : length middle ≡ 6 = refl in
    let here : place ≡ b + 6 = omega (arith, long, short, ap length known.1, length-append middle (slice_range text place end), six, spans.within, within) in
    let order : b ≤ place = omega (arith, here) in
    let size : length (slice_range text b place) ≡ length middle = omega (arith, length_slice text b place within, here, six) in
    (order, (same_fronts (slice_range text b place) (slice_range text place end) middle (slice_range text place end) (sym (slice_split text b place end order within) ∙ known.1) size).0)

-- no count is above its limit where both are read
pub no_limit_counts : (text : List ℕ) (a b d : ℕ) (cells : List Cell) → Spans text 0 a head → AreCells cells → (IsAbove 5000000 text a → ⊥) → Spans text a b (cells_text cells) → Spans text b d middle
    → (IsAbove 65536 text d → ⊥) → NoLimit text
no_limit_counts text a b d cells first are under second third under_ports =
    no_limit_by text a first under (λ at other are_other after within is above.
    let word = word_behind text a b at cells other are are_other second after within is in
    let here : at ≡ d = omega (arith, length_slice text b at within, length_slice text b d third.within, ap length (word.1 ∙ sym third.is), word.0, third.after) in
    under_ports (subst (λ (n : ℕ). IsAbove 65536 text n) here above))
