-- The laws of reading: a text is that of one netlist at most, and has one answer at most.
use Rattle.std.proofs.Common.{◌≡◌, inl, inr, ℕ, ◌+◌, ◌≤◌, List, [], ◌∷◌, ◌++◌, length, take, refl, sym, ◌∙◌, ap, subst, arith, append_assoc, append-nil, length-append}
use Rattle.std.specs.Fmt.{decimal}
use Rattle.std.specs.List.{AllByRecursion, flat_map, slice_range}
use Rattle.gos_lex.proofs.ItemLemmas.{breaks_off_once}
use Rattle.gos_lex.proofs.PlaceLemmas.{length_slice, slice_split}
use Rattle.gos_netlist.specs.declared.fault.NetTextFault.TheVariants as faults
use Rattle.gos_netlist.specs.Nets.{Cell, NetPort, Netlist}
use Rattle.gos_netlist.specs.NetText.{cell_text, port_text, text_of}
use Rattle.gos_netlist.specs.Writable.{IsWritableCell}
use Rattle.gos_netlist.specs.NetFaults.{IsNetText, IsRead, CountAbove, before_cells, before_ports, IsAboveLimit, IsOneNetlist, ReadHasNoFault, HasOneFault}
use Rattle.gos_lex.specs.ItemTexts.{IsAbove}
use Rattle.gos_netlist.specs.inner.NetLines.{section_text}
use Rattle.gos_lex.proofs.SequenceLemmas.{slice_front, same_fronts}
use Rattle.gos_lex.proofs.NumberTextLemmas.{no_longer_number, number_under}
use Rattle.gos_netlist.proofs.WholeLemmas.{head, middle, foot, cells_text, ports_text, Spans, NoLimit, net_code, text_parts, ports_front, slice_whole, slice_take, no_limit_counts, word_behind, above_within}

pub one_netlist : (text : List ℕ) → IsOneNetlist text
one_netlist text net other is is_other same same_other =
    (net_code net other [] [] is is_other (append-nil (text_of net) ∙ (sym same ∙ (same_other ∙ sym (append-nil (text_of other)))))).0

-- a part stands behind its front
spans_at : (text front part rest : List ℕ) → text ≡ front ++ (part ++ rest) → Spans text (length front) (length front + length part) part
spans_at text front part rest whole =
    let size : length text ≡ length front + (length part + length rest) = ap length whole ∙ (length-append front (part ++ rest) ∙ ap (λ (n : ℕ). length front + n) (length-append part rest)) in
    let end : ℕ = length text in
    let a : ℕ = length front in
    let split = slice_split text 0 a end (omega arith) (omega (arith, size)) in
    let first = same_fronts (slice_range text 0 a) (slice_range text a end) front (part ++ rest) (sym split ∙ (slice_whole text ∙ whole)) (omega (arith, length_slice text 0 a (omega (arith, size)))) in
    let here = slice_front text a end part rest (omega (arith, size)) (omega arith) first.1 in
    record { after = omega arith; within = omega (arith, size); is = here.1 }

-- a count that stands there with its lines is not above a limit that it keeps
section_under : (V : Type 0) (text_of_one : V → List ℕ) (text : List ℕ) (a b limit : ℕ) (vs : List V) → length vs ≤ limit → length vs ≤ 4294967295 → a ≤ b → b ≤ length text
    → slice_range text a b ≡ section_text V text_of_one vs → IsAbove limit text a → ⊥
section_under V text_of_one text a b limit vs few small after within is =
    let n : ℕ = length vs in
    let rest : List ℕ = flat_map text_of_one vs in
    let whole : slice_range text a b ≡ decimal n ++ 10 ∷ rest = is ∙ append_assoc (decimal n) (10 ∷ []) rest in
    let front = slice_front text a b (decimal n) (10 ∷ rest) after within whole in
    number_under limit n text a (a + length (decimal n)) few small front.1 (no_longer_number text a b n rest small after within whole)

-- The places of the parts of a text that is read.
record Parts (text : List ℕ) (net : Netlist) : Type 0 where
  a : ℕ
  b : ℕ
  d : ℕ
  first : Spans text 0 a head
  second : Spans text a b (cells_text net.cells)
  third : Spans text b d middle
  ports : ℕ
  fourth : Spans text d ports (ports_text net.ports)

parts_of : (text : List ℕ) (net : Netlist) → text ≡ text_of net → Parts text net
parts_of text net same =
    let whole = same ∙ text_parts net in
    let rest : List ℕ = middle ++ (ports_text net.ports ++ foot) in
    let by_cells : text ≡ head ++ (cells_text net.cells ++ rest) = whole in
    let by_middle : text ≡ (head ++ cells_text net.cells) ++ rest = whole ∙ sym (append_assoc head (cells_text net.cells) rest) in
    let by_ports : text ≡ ((head ++ cells_text net.cells) ++ middle) ++ (ports_text net.ports ++ foot) =
    by_middle ∙ sym (append_assoc (head ++ cells_text net.cells) middle (ports_text net.ports ++ foot)) in
    let front = spans_at text [] head (cells_text net.cells ++ rest) whole in
    let cells = spans_at text head (cells_text net.cells) rest by_cells in
    let word = spans_at text (head ++ cells_text net.cells) middle (ports_text net.ports ++ foot) by_middle in
    let ports = spans_at text ((head ++ cells_text net.cells) ++ middle) (ports_text net.ports) foot by_ports in
    let b : length (head ++ cells_text net.cells) ≡ length head + length (cells_text net.cells) = length-append head (cells_text net.cells) in
    let d : length ((head ++ cells_text net.cells) ++ middle) ≡ length (head ++ cells_text net.cells) + length middle = length-append (head ++ cells_text net.cells) middle in
    record {
      a = length head;
      b = length (head ++ cells_text net.cells);
      d = length ((head ++ cells_text net.cells) ++ middle);
      first = record { after = omega arith; within = omega (arith, cells.after, cells.within); is = front.is };
      second = subst (λ (n : ℕ). Spans text (length head) n (cells_text net.cells)) (sym b) cells;
      third = subst (λ (n : ℕ). Spans text (length (head ++ cells_text net.cells)) n middle) (sym d) word;
      ports = length ((head ++ cells_text net.cells) ++ middle) + length (ports_text net.ports);
      fourth = ports;
    }

-- in a text that is read no count is above its limit
no_limit_read : (text : List ℕ) (net : Netlist) → IsRead text net → NoLimit text
no_limit_read text net read =
    let parts = parts_of text net read.is in
    no_limit_counts text parts.a parts.b parts.d net.cells parts.first (read.writable.cell_count, read.writable.cells)
    (section_under Cell cell_text text parts.a parts.b 5000000 net.cells read.few_cells read.writable.cell_count parts.second.after parts.second.within parts.second.is) parts.second parts.third
    (section_under NetPort port_text text parts.d parts.ports 65536 net.ports read.few_ports read.writable.port_count parts.fourth.after parts.fourth.within parts.fourth.is)

pub read_has_no_fault : (text : List ℕ) → ReadHasNoFault text
read_has_no_fault text net (faults.Form at) read fault = absurd (fault.3 (net, read.writable, read.is))
read_has_no_fault text net (faults.Limit at) read (inl (longer, here)) = absurd (omega (arith, longer, read.short))
read_has_no_fault text net (faults.Limit at) read (inr (short, above)) = absurd (no_limit_read text net read at above)
read_has_no_fault text net faults.NoMemory read fault = refl

-- what stands before the count of ports that is above its limit
record PortsFront (text : List ℕ) (at : ℕ) (cells : List Cell) : Type 0 where
  a : ℕ
  b : ℕ
  first : Spans text 0 a head
  second : Spans text a b (cells_text cells)
  third : Spans text b at middle

ports_stand : (text : List ℕ) (at : ℕ) (cells : List Cell) → at ≤ length text → take at text ≡ before_ports cells → PortsFront text at cells
ports_stand text at cells within front =
    let same : slice_range text 0 at ≡ head ++ (cells_text cells ++ middle) = slice_take text at ∙ (front ∙ ports_front cells) in
    let end : ℕ = length text in
    let rest : List ℕ = slice_range text at end in
    let whole : text ≡ (head ++ (cells_text cells ++ middle)) ++ rest =
    sym (slice_whole text) ∙ (slice_split text 0 at end (omega arith) within ∙ ap (λ part. part ++ rest) same) in
    let by_head : text ≡ head ++ (cells_text cells ++ (middle ++ rest)) =
    whole ∙ (append_assoc head (cells_text cells ++ middle) rest ∙ ap (λ more. head ++ more) (append_assoc (cells_text cells) middle rest)) in
    let by_middle : text ≡ (head ++ cells_text cells) ++ (middle ++ rest) = by_head ∙ sym (append_assoc head (cells_text cells) (middle ++ rest)) in
    let front_span = spans_at text [] head (cells_text cells ++ (middle ++ rest)) by_head in
    let cells_span = spans_at text head (cells_text cells) (middle ++ rest) by_head in
    let word = spans_at text (head ++ cells_text cells) middle rest by_middle in
    let b : length (head ++ cells_text cells) ≡ length head + length (cells_text cells) = length-append head (cells_text cells) in
    let here : length (head ++ cells_text cells) + length middle ≡ at =
    omega (arith, length_slice text 0 at within, ap length same, length-append head (cells_text cells ++ middle), length-append (cells_text cells) middle, b) in
    record {
      a = length head;
      b = length (head ++ cells_text cells);
      first = record { after = omega arith; within = omega (arith, cells_span.after, cells_span.within); is = front_span.is };
      second = subst (λ (n : ℕ). Spans text (length head) n (cells_text cells)) (sym b) cells_span;
      third = subst (λ (n : ℕ). Spans text (length (head ++ cells_text cells)) n middle) here word;
    }

-- where the count of cells is above its limit, no count of ports is
cells_alone : (text : List ℕ) (at other : ℕ) → CountAbove 5000000 before_cells text at
    → (cells : List Cell) → AllByRecursion IsWritableCell cells → length cells ≤ 5000000 → CountAbove 65536 (before_ports cells) text other → ⊥
cells_alone text at other (front, above) cells all few (other_front, other_above) =
    let stand = ports_stand text other cells (above_within 65536 text other other_above) other_front in
    let within = above_within 5000000 text at above in
    let here : at ≡ stand.a = omega (arith, length_slice text 0 at within, length_slice text 0 stand.a stand.first.within, ap length (slice_take text at ∙ (front ∙ sym stand.first.is))) in
    section_under Cell cell_text text stand.a stand.b 5000000 cells few (omega (arith, few)) stand.second.after stand.second.within stand.second.is (subst (λ (n : ℕ). IsAbove 5000000 text n) here above)

-- one count at most is above its limit
one_limit : (text : List ℕ) (at other : ℕ) → IsAboveLimit text at → IsAboveLimit text other → at ≡ other
one_limit text at other (inl (front, above)) (inl (other_front, other_above)) =
    omega (arith, length_slice text 0 at (above_within 5000000 text at above), length_slice text 0 other (above_within 5000000 text other other_above), ap length (slice_take text at ∙ (front ∙ (sym other_front ∙ sym (slice_take text other)))))
one_limit text at other (inl one) (inr (cells, all, few, two)) = absurd (cells_alone text at other one cells all few two)
one_limit text at other (inr (cells, all, few, one)) (inl two) = absurd (cells_alone text other at two cells all few one)
one_limit text at other (inr (cells, all, few, (front, above))) (inr (others, all_others, few_others, (other_front, other_above))) =
    let stand = ports_stand text at cells (above_within 65536 text at above) front in
    let within = above_within 65536 text other other_above in
    let stand_other = ports_stand text other others within other_front in
    let same_a : stand_other.a ≡ stand.a =
    omega (arith, length_slice text 0 stand.a stand.first.within, length_slice text 0 stand_other.a stand_other.first.within, ap length stand.first.is, ap length stand_other.first.is) in
    let part : slice_range text stand_other.a other ≡ cells_text others ++ middle =
    slice_split text stand_other.a stand_other.b other stand_other.second.after stand_other.third.after ∙ (λ i. stand_other.second.is i ++ stand_other.third.is i) in
    let word = word_behind text stand.a stand.b other cells others (omega (arith, few), all) (omega (arith, few_others), all_others) stand.second
    (omega (arith, same_a, stand_other.second.after, stand_other.third.after)) within (subst (λ (n : ℕ). slice_range text n other ≡ cells_text others ++ middle) same_a part) in
    omega (arith, length_slice text stand.b at (above_within 65536 text at above), length_slice text stand.b other within, ap length (stand.third.is ∙ sym word.1), word.0, stand.third.after)

pub has_one_fault : (text : List ℕ) → HasOneFault text
has_one_fault text (faults.Form at) (faults.Form other) one two = inl (ap (λ (n : ℕ). faults.Form n) (breaks_off_once IsNetText text 0 at other one.2 two.2))
has_one_fault text (faults.Form at) (faults.Limit other) one (inl (longer, here)) = absurd (omega (arith, longer, one.0))
has_one_fault text (faults.Form at) (faults.Limit other) one (inr (short, above)) = absurd (one.1 other above)
has_one_fault text (faults.Limit at) (faults.Form other) (inl (longer, here)) two = absurd (omega (arith, longer, two.0))
has_one_fault text (faults.Limit at) (faults.Form other) (inr (short, above)) two = absurd (two.1 at above)
has_one_fault text (faults.Limit at) (faults.Limit other) (inl one) (inl two) = inl (ap (λ (n : ℕ). faults.Limit n) (one.1 ∙ sym two.1))
has_one_fault text (faults.Limit at) (faults.Limit other) (inl one) (inr two) = absurd (omega (arith, one.0, two.0))
has_one_fault text (faults.Limit at) (faults.Limit other) (inr one) (inl two) = absurd (omega (arith, one.0, two.0))
has_one_fault text (faults.Limit at) (faults.Limit other) (inr one) (inr two) = inl (ap (λ (n : ℕ). faults.Limit n) (one_limit text at other one.1 two.1))
has_one_fault text faults.NoMemory other one two = inr (inl refl)
has_one_fault text (faults.Form at) faults.NoMemory one two = inr (inr refl)
has_one_fault text (faults.Limit at) faults.NoMemory one two = inr (inr refl)
