-- How far a text is read: behind its head, its cells, the word behind them, its ports, and its end. Where the next part breaks off
-- the text has that fault.
use Rattle.std.proofs.Common.{◌≡◌, ◌≢◌, inl, inr, ℕ, ◌+◌, ◌<◌, ◌≤◌, List, [], ◌++◌, length, take, refl, sym, ◌∙◌, ap, subst, arith, append_assoc, append-nil, length-append}
use Rattle.std.specs.List.{slice_range}
use Rattle.gos_lex.specs.Items.{TextAt, Misses}
use Rattle.gos_lex.proofs.PlaceLemmas.{length_slice, slice_split}
use Rattle.gos_netlist.specs.declared.fault.NetTextFault.{NetTextFault}
use Rattle.gos_netlist.specs.declared.fault.NetTextFault.TheVariants as faults
use Rattle.gos_netlist.specs.Nets.{Cell, NetPort, Netlist}
use Rattle.gos_netlist.specs.NetText.{cell_text, port_text, text_of}
use Rattle.gos_netlist.specs.Writable.{IsWritable, IsWritableCell, IsWritablePort}
use Rattle.gos_netlist.specs.NetFaults.{IsNetText, HasFault, IsRead}
use Rattle.gos_lex.specs.ItemTexts.{IsAbove, IsFixed, Passed}
use Rattle.gos_netlist.specs.inner.NetLines.{BreaksOff, IsSectionText, SectionFault}
use Rattle.gos_lex.proofs.SequenceLemmas.{no_item, then_first}
use Rattle.gos_netlist.proofs.WholeLemmas.{head, middle, foot, cells_text, ports_text, AreCells, ArePorts, Middle, Ports, Spans, NoLimit, spans_of, slice_whole, slice_take, text_parts, ports_front, net_code, some_ports, some_middle, no_head, behind_head, behind_cells, behind_middle, behind_ports, no_limit_head, no_limit_by, no_limit_counts, word_behind}

-- The stages. A cursor stands behind each part.

pub record HeadRead (text : List ℕ) (c1 : TextAt) : Type 0 where
  pub short : length text ≤ 268435456
  pub same : c1.text ≡ text
  pub spans : Spans text 0 c1.at head

pub record CellsRead (text : List ℕ) (c1 c2 : TextAt) (cells : List Cell) : Type 0 where
  pub before : HeadRead text c1
  pub same : c2.text ≡ text
  pub are : AreCells cells
  pub few : length cells ≤ 5000000
  pub under : IsAbove 5000000 text c1.at → ⊥
  pub spans : Spans text c1.at c2.at (cells_text cells)

pub record MiddleRead (text : List ℕ) (c1 c2 c3 : TextAt) (cells : List Cell) : Type 0 where
  pub before : CellsRead text c1 c2 cells
  pub same : c3.text ≡ text
  pub spans : Spans text c2.at c3.at middle

pub record PortsRead (text : List ℕ) (c1 c2 c3 c4 : TextAt) (net : Netlist) : Type 0 where
  pub before : MiddleRead text c1 c2 c3 net.cells
  pub same : c4.text ≡ text
  pub are : ArePorts net.ports
  pub few : length net.ports ≤ 65536
  pub under : IsAbove 65536 text c3.at → ⊥
  pub spans : Spans text c3.at c4.at (ports_text net.ports)

-- behind the end all before is the text of a netlist
pub record AllRead (text : List ℕ) (c1 c2 c3 c5 : TextAt) (net : Netlist) : Type 0 where
  pub before : MiddleRead text c1 c2 c3 net.cells
  pub same : c5.text ≡ text
  pub within : c5.at ≤ length text
  pub under : IsAbove 65536 text c3.at → ⊥
  pub few : length net.ports ≤ 65536
  pub writable : IsWritable net
  pub is : slice_range text 0 c5.at ≡ text_of net

-- From stage to stage.

pub head_read : (text : List ℕ) (c0 c1 : TextAt) → length text ≤ 268435456 → c0.text ≡ text → c0.at ≡ 0 → Passed c0 c1 head → HeadRead text c1
head_read text c0 c1 short same start passed =
    record {
      short = short;
      same = passed.text ∙ same;
      spans = subst (λ (a : ℕ). Spans text a c1.at head) start (spans_of text c0 c1 head same passed);
    }

pub cells_read : {text : List ℕ} {c1 : TextAt} (c2 : TextAt) (cells : List Cell) → HeadRead text c1 → AreCells cells → length cells ≤ 5000000 → (IsAbove 5000000 c1.text c1.at → ⊥)
    → Passed c1 c2 (cells_text cells) → CellsRead text c1 c2 cells
cells_read {text} {c1} c2 cells before are few under passed =
    record {
      before = before;
      same = passed.text ∙ before.same;
      are = are;
      few = few;
      under = subst (λ (source : List ℕ). IsAbove 5000000 source c1.at → ⊥) before.same under;
      spans = spans_of text c1 c2 (cells_text cells) before.same passed;
    }

pub middle_read : {text : List ℕ} {c1 c2 : TextAt} {cells : List Cell} (c3 : TextAt) → CellsRead text c1 c2 cells → Passed c2 c3 middle → MiddleRead text c1 c2 c3 cells
middle_read {text} {c1} {c2} {cells} c3 before passed =
    record { before = before; same = passed.text ∙ before.same; spans = spans_of text c2 c3 middle before.same passed }

pub ports_read : {text : List ℕ} {c1 c2 c3 : TextAt} {cells : List Cell} (c4 : TextAt) (ports : List NetPort) → MiddleRead text c1 c2 c3 cells → ArePorts ports → length ports ≤ 65536
    → (IsAbove 65536 c3.text c3.at → ⊥) → Passed c3 c4 (ports_text ports) → PortsRead text c1 c2 c3 c4 (record { cells = cells; ports = ports })
ports_read {text} {c1} {c2} {c3} {cells} c4 ports before are few under passed =
    record {
      before = before;
      same = passed.text ∙ before.same;
      are = are;
      few = few;
      under = subst (λ (source : List ℕ). IsAbove 65536 source c3.at → ⊥) before.same under;
      spans = spans_of text c3 c4 (ports_text ports) before.same passed;
    }

pub all_read : {text : List ℕ} {c1 c2 c3 c4 : TextAt} {net : Netlist} (c5 : TextAt) → PortsRead text c1 c2 c3 c4 net → Passed c4 c5 foot → AllRead text c1 c2 c3 c5 net
all_read {text} {c1} {c2} {c3} {c4} {net} c5 done passed =
    record {
      before = done.before;
      same = passed.text ∙ done.same;
      within = fifth.within;
      under = done.under;
      few = done.few;
      writable = record { cells = second.are.1; cell_count = second.are.0; ports = done.are.1; port_count = done.are.0 };
      is = slice_split text 0 c1.at c5.at (omega arith) (omega (arith, second.spans.after, third.after, fourth.after, fifth.after)) ∙ ((λ i. first.is i ++ at_b i) ∙ sym (text_parts net));
    }
  where
    second : CellsRead text c1 c2 net.cells
    second = done.before.before

    first : Spans text 0 c1.at head
    first = second.before.spans

    third : Spans text c2.at c3.at middle
    third = done.before.spans

    fourth : Spans text c3.at c4.at (ports_text net.ports)
    fourth = done.spans

    fifth : Spans text c4.at c5.at foot
    fifth = spans_of text c4 c5 foot done.same passed

    at_e : slice_range text c3.at c5.at ≡ ports_text net.ports ++ foot
    at_e = slice_split text c3.at c4.at c5.at fourth.after fifth.after ∙ (λ i. fourth.is i ++ fifth.is i)

    at_d : slice_range text c2.at c5.at ≡ middle ++ (ports_text net.ports ++ foot)
    at_d = slice_split text c2.at c3.at c5.at third.after (omega (arith, fourth.after, fifth.after)) ∙ (λ i. third.is i ++ at_e i)

    at_b : slice_range text c1.at c5.at ≡ cells_text net.cells ++ (middle ++ (ports_text net.ports ++ foot))
    at_b =
        slice_split text c1.at c2.at c5.at second.spans.after (omega (arith, third.after, fourth.after, fifth.after))
        ∙ (λ i. second.spans.is i ++ at_d i)

-- where both counts are read, none is above its limit
under_limits : {text : List ℕ} {c1 c2 c3 : TextAt} {cells : List Cell} → MiddleRead text c1 c2 c3 cells → (IsAbove 65536 text c3.at → ⊥) → NoLimit text
under_limits {text} {c1} {c2} {c3} {cells} done under =
    no_limit_counts text c1.at c2.at c3.at cells done.before.before.spans done.before.are done.before.under done.before.spans done.spans under

-- What breaks off.

-- a place at which the text breaks off, where no count is above its limit
form_fault : (text : List ℕ) (place : ℕ) → length text ≤ 268435456 → NoLimit text → Misses IsNetText text 0 place → HasFault text (faults.Form place)
form_fault text place short none misses = (
  short,
  none,
  misses.stops,
  λ is. misses.none (length text) (omega arith) (omega arith) (subst IsNetText (sym (slice_whole text)) is),
)

pub fault_head : (text : List ℕ) (c0 : TextAt) (fault : NetTextFault) → length text ≤ 268435456 → c0.text ≡ text → c0.at ≡ 0 → BreaksOff (IsFixed head) c0.text c0.at fault → HasFault text fault
fault_head text c0 (faults.Form place) short same start wrong =
    let misses : Misses (IsFixed head) text 0 place =
    subst (λ (a : ℕ). Misses (IsFixed head) text a place) start (subst (λ (source : List ℕ). Misses (IsFixed head) source c0.at place) same wrong) in
    form_fault text place short (no_limit_head text place misses) (no_head text place misses)
fault_head text c0 (faults.Limit place) short same start wrong = absurd wrong
fault_head text c0 faults.NoMemory short same start wrong = tt

pub fault_cells : {text : List ℕ} {c1 : TextAt} (fault : NetTextFault) → HeadRead text c1 → SectionFault (IsSectionText Cell IsWritableCell cell_text) 5000000 c1.text c1.at fault → HasFault text fault
fault_cells {text} {c1} fault done wrong =
    by fault (subst (λ (source : List ℕ). SectionFault (IsSectionText Cell IsWritableCell cell_text) 5000000 source c1.at fault) done.same wrong)
  where
    by : (fault : NetTextFault) → SectionFault (IsSectionText Cell IsWritableCell cell_text) 5000000 text c1.at fault → HasFault text fault
    by (faults.Form place) (misses, under) =
        form_fault text place done.short
        (no_limit_by text c1.at done.spans under (λ at cells are after within is above. no_item (List Cell) AreCells cells_text text c1.at place at cells middle misses are after within is))
        (behind_head text c1.at place done.spans (then_first (List Cell) AreCells cells_text (λ _. Middle) text c1.at place (λ v is. some_middle) misses))
    by (faults.Limit place) (here, above) =
        inr (done.short, inl (ap (λ (n : ℕ). take n text) here ∙ (sym (slice_take text c1.at) ∙ done.spans.is), subst (λ (n : ℕ). IsAbove 5000000 text n) (sym here) above))
    by faults.NoMemory any = tt

pub fault_middle : {text : List ℕ} {c1 c2 : TextAt} {cells : List Cell} (fault : NetTextFault) → CellsRead text c1 c2 cells → BreaksOff (IsFixed middle) c2.text c2.at fault → HasFault text fault
fault_middle {text} {c1} {c2} {cells} (faults.Form place) done wrong =
    let first = done.before.spans in
    let misses = subst (λ (source : List ℕ). Misses (IsFixed middle) source c2.at place) done.same wrong in
    form_fault text place done.before.short
    (no_limit_by text c1.at first done.under (λ at other are_other after within is above.
    let word = word_behind text c1.at c2.at at cells other done.are are_other done.spans after within is in
    no_item (Unit {0}) (λ _. Unit {0}) (λ _. middle) text c2.at place at tt [] misses tt word.0 within word.1))
    (behind_cells text c1.at c2.at place cells first done.are done.spans (then_first (Unit {0}) (λ _. Unit {0}) (λ _. middle) (λ _. Ports) text c2.at place (λ v is. some_ports) misses))
fault_middle {text} {c1} {c2} {cells} (faults.Limit place) done wrong = absurd wrong
fault_middle {text} {c1} {c2} {cells} faults.NoMemory done wrong = tt

pub fault_ports : {text : List ℕ} {c1 c2 c3 : TextAt} {cells : List Cell} (fault : NetTextFault) → MiddleRead text c1 c2 c3 cells
    → SectionFault (IsSectionText NetPort IsWritablePort port_text) 65536 c3.text c3.at fault → HasFault text fault
fault_ports {text} {c1} {c2} {c3} {cells} fault done wrong =
    by fault (subst (λ (source : List ℕ). SectionFault (IsSectionText NetPort IsWritablePort port_text) 65536 source c3.at fault) done.same wrong)
  where
    second : CellsRead text c1 c2 cells
    second = done.before

    first : HeadRead text c1
    first = second.before

    front : slice_range text 0 c3.at ≡ head ++ (cells_text cells ++ middle)
    front =
        slice_split text 0 c2.at c3.at (omega arith) done.spans.after
        ∙ ((λ i. (slice_split text 0 c1.at c2.at (omega arith) second.spans.after ∙ (λ j. first.spans.is j ++ second.spans.is j)) i ++ done.spans.is i) ∙ append_assoc head (cells_text cells) middle)

    by : (fault : NetTextFault) → SectionFault (IsSectionText NetPort IsWritablePort port_text) 65536 text c3.at fault → HasFault text fault
    by (faults.Form place) (misses, under) =
        form_fault text place first.short (under_limits done under)
        (behind_middle text c1.at c2.at c3.at place cells first.spans second.are second.spans done.spans (then_first (List NetPort) ArePorts ports_text (λ _. IsFixed foot) text c3.at place (λ v is. (foot, (tt, tt, refl))) misses))
    by (faults.Limit place) (here, above) =
        inr (first.short, inr (cells, second.are.1, second.few, (ap (λ (n : ℕ). take n text) here ∙ (sym (slice_take text c3.at) ∙ (front ∙ sym (ports_front cells))), subst (λ (n : ℕ). IsAbove 65536 text n) (sym here) above)))
    by faults.NoMemory any = tt

pub fault_foot : {text : List ℕ} {c1 c2 c3 c4 : TextAt} {net : Netlist} (fault : NetTextFault) → PortsRead text c1 c2 c3 c4 net → BreaksOff (IsFixed foot) c4.text c4.at fault → HasFault text fault
fault_foot {text} {c1} {c2} {c3} {c4} {net} (faults.Form place) done wrong =
    let second = done.before.before in
    form_fault text place second.before.short (under_limits done.before done.under)
    (behind_ports text c1.at c2.at c3.at c4.at place net.cells net.ports second.before.spans second.are second.spans done.before.spans done.are done.spans
    (subst (λ (source : List ℕ). Misses (IsFixed foot) source c4.at place) done.same wrong))
fault_foot {text} {c1} {c2} {c3} {c4} {net} (faults.Limit place) done wrong = absurd wrong
fault_foot {text} {c1} {c2} {c3} {c4} {net} faults.NoMemory done wrong = tt

-- nothing stands behind the end
pub whole_read : {text : List ℕ} {c1 c2 c3 c5 : TextAt} {net : Netlist} → AllRead text c1 c2 c3 c5 net → c5.at ≡ length c5.text → IsRead text net
whole_read {text} {c1} {c2} {c3} {c5} {net} done ended =
    record {
      short = done.before.before.before.short;
      is = sym (slice_whole text) ∙ (ap (λ (n : ℕ). slice_range text 0 n) (sym (ended ∙ ap length done.same)) ∙ done.is);
      writable = done.writable;
      few_cells = done.before.before.few;
      few_ports = done.few;
    }

-- something stands behind the end
pub fault_behind : {text : List ℕ} {c1 c2 c3 c5 : TextAt} {net : Netlist} → AllRead text c1 c2 c3 c5 net → c5.at ≢ length c5.text → HasFault text (faults.Form c5.at)
fault_behind {text} {c1} {c2} {c3} {c5} {net} done more = (
  done.before.before.before.short,
  under_limits done.before done.under,
  record {
    after = omega arith;
    within = done.within;
    before = ([], (net, done.writable, append-nil (slice_range text 0 c5.at) ∙ done.is));
    stops = λ some longer. longer_no some longer.0 longer.1.0 longer.1.1 longer.1.2;
  },
  λ all. not_whole all.0 all.1 all.2,
)
  where
    inside : c5.at < length text
    inside =
        let size : length c5.text ≡ length text = ap length done.same in
        let apart : c5.at ≢ length text = λ same. more (same ∙ sym size) in
        omega (arith, done.within, apart)

    longer_no : c5.at < length text → (rest : List ℕ) (other : Netlist) → IsWritable other → slice_range text 0 (c5.at + 1) ++ rest ≡ text_of other → ⊥
    longer_no some rest other is_other same =
        let parts : slice_range text 0 (c5.at + 1) ≡ text_of net ++ slice_range text c5.at (c5.at + 1) =
        slice_split text 0 c5.at (c5.at + 1) (omega arith) (omega arith) ∙ ap (λ part. part ++ slice_range text c5.at (c5.at + 1)) done.is in
        let both : text_of net ++ (slice_range text c5.at (c5.at + 1) ++ rest) ≡ text_of other ++ [] =
        sym (append_assoc (text_of net) (slice_range text c5.at (c5.at + 1)) rest) ∙ (ap (λ part. part ++ rest) (sym parts) ∙ (same ∙ sym (append-nil (text_of other)))) in
        let known = net_code net other (slice_range text c5.at (c5.at + 1) ++ rest) [] done.writable is_other both in
        omega (arith, ap length known.1, length-append (slice_range text c5.at (c5.at + 1)) rest, length_slice text c5.at (c5.at + 1) (omega (arith, some)))

    not_whole : (other : Netlist) → IsWritable other → text ≡ text_of other → ⊥
    not_whole other is_other same =
        let parts : text ≡ text_of net ++ slice_range text c5.at (length text) =
        sym (slice_whole text) ∙ (slice_split text 0 c5.at (length text) (omega arith) done.within ∙ ap (λ part. part ++ slice_range text c5.at (length text)) done.is) in
        let known = net_code net other (slice_range text c5.at (length text)) [] done.writable is_other (sym parts ∙ (same ∙ sym (append-nil (text_of other)))) in
        omega (arith, ap length known.1, length_slice text c5.at (length text) (omega arith), inside)
