-- The assignments of outputs, as lines of one slot, and what may be left behind each.
use Rattle.std.proofs.Common.{◌≡◌, ℕ, ◌+◌, ◌≤◌, Bool, true, false, List, [], ◌∷◌, ◌++◌, length, length-drop, drop, get_or, refl, sym, ◌∙◌, ap, subst, arith, append_assoc, append-nil, codes}
use Rattle.std.specs.Fmt.{decimal}
use Rattle.std.proofs.lemmas.List.{append_cancel_left}
use Rattle.gos_lex.specs.Items.{TextAt, IsJust, Misses}
use Rattle.gos_netlist.specs.Writable.{IsNumber}
use Rattle.gos_lex.specs.ItemTexts.{Passed, IsTextOf, ended}
use Rattle.gos_lex.proofs.PassedLemmas.{passed_as}
use Rattle.gos_lex.proofs.SequenceLemmas.{IsCode, misses_as}
use Rattle.gos_verilog.specs.PortNets.{PortNet}
use Rattle.gos_verilog.specs.Lines.{cell_net, assignment}
use Rattle.gos_verilog.specs.inner.Slots.{Slot', FitSlots, line_text, IsLine}
use Rattle.gos_verilog.specs.inner.Breaks.{LeadsOn, BreaksFrom, FaultFrom}
use Rattle.gos_verilog.specs.inner.Left.{LeftOutput, LeftOutputs}
use Rattle.gos_lex.proofs.NumberTextLemmas.{number_code}
use Rattle.gos_verilog.specs.declared.fault.VFault.{VFault}
use Rattle.gos_verilog.specs.inner.Stages.{Rest, BreaksAt}
use Rattle.gos_lex.proofs.RestLemmas.{passed_rest}
use Rattle.gos_verilog.proofs.BreakLemmas.{on_item, on_both, on_breaks, fault_on, fault_first, fault_item}
use Rattle.gos_verilog.proofs.LeftLemmas.{some_outputs}

abbrev pub output_slot : List ℕ → Slot'
output_slot name = record { before = (codes "  assign " ++ name) ++ codes " = n"; low = 0; high = 4294967295; end = 59 }

pub output_line : (name : List ℕ) (n : ℕ) → line_text (output_slot name ∷ []) (codes "\n") (n ∷ []) ≡ assignment name (cell_net n)
output_line name n =
    let front : List ℕ = codes "  assign " ++ name in
    let digits : List ℕ = decimal n in
    ap (λ (line : List ℕ). line ++ codes "\n") (append-nil ((front ++ codes " = n") ++ ended 59 digits))
    ∙ (append_assoc (front ++ codes " = n") (ended 59 digits) (codes "\n")
    ∙ (append_assoc front (codes " = n") (ended 59 digits ++ codes "\n")
    ∙ (ap (λ (rest : List ℕ). front ++ (codes " = n" ++ rest)) (append_assoc digits (59 ∷ []) (codes "\n"))
    ∙ sym (append_assoc (front ++ codes " = ") (cell_net n) (codes ";\n") ∙ append_assoc front (codes " = ") (cell_net n ++ codes ";\n")))))

pub one_number : (s : Slot') (ns : List ℕ) → FitSlots (s ∷ []) ns → (n : ℕ) × (s.low ≤ n) × (n ≤ s.high) × (ns ≡ n ∷ [])
one_number s [] fit = absurd fit
one_number s (n ∷ []) fit = (n, fit.0.0, fit.0.1, refl)
one_number s (n ∷ m ∷ ns) fit = absurd fit.1

abbrev pub IsOutput : List ℕ → List ℕ → Type 0
IsOutput name = IsTextOf ℕ IsNumber (λ n. assignment name (cell_net n))

pub output_misses : (name text : List ℕ) (at place : ℕ) → Misses (IsLine (output_slot name ∷ []) (codes "\n")) text at place → Misses (IsOutput name) text at place
output_misses name text at place =
    misses_as (IsLine (output_slot name ∷ []) (codes "\n")) (IsOutput name) text at place
    (λ bytes line.
    let one = one_number (output_slot name) line.0 line.1 in
    (one.0, one.2, line.2 ∙ (ap (line_text (output_slot name ∷ []) (codes "\n")) one.3 ∙ output_line name one.0)))
    (λ bytes output. (output.0 ∷ [], ((omega arith, output.1), tt), output.2 ∙ sym (output_line name output.0)))

pub output_passed : (name : List ℕ) (old new : TextAt) (ns : List ℕ) → FitSlots (output_slot name ∷ []) ns → Passed old new (line_text (output_slot name ∷ []) (codes "\n") ns)
    → IsNumber (get_or ns 0 0) × Passed old new (assignment name (cell_net (get_or ns 0 0)))
output_passed name old new ns fit passed =
    let one = one_number (output_slot name) ns fit in
    let first : get_or ns 0 0 ≡ one.0 = ap (λ (list : List ℕ). get_or list 0 0) one.3 in (
      subst IsNumber (sym first) one.2,
      passed_as old new (line_text (output_slot name ∷ []) (codes "\n") ns) (assignment name (cell_net (get_or ns 0 0)))
          (ap (line_text (output_slot name ∷ []) (codes "\n")) one.3 ∙ (output_line name one.0 ∙ ap (λ (n : ℕ). assignment name (cell_net n)) (sym first))) passed,
    )

output_parts : (name : List ℕ) (n : ℕ) (x : List ℕ) → assignment name (cell_net n) ++ x ≡ ((codes "  assign " ++ name) ++ codes " = n") ++ (ended 59 (decimal n) ++ (codes "\n" ++ x))
output_parts name n x =
    let front : List ℕ = codes "  assign " ++ name in
    let digits : List ℕ = decimal n in
    append_assoc (front ++ codes " = " ++ cell_net n) (codes ";\n") x
    ∙ (append_assoc (front ++ codes " = ") (cell_net n) (codes ";\n" ++ x)
    ∙ (append_assoc front (codes " = ") (cell_net n ++ (codes ";\n" ++ x))
    ∙ sym (append_assoc front (codes " = n") (ended 59 digits ++ (codes "\n" ++ x)) ∙ ap (λ (rest : List ℕ). front ++ (codes " = n" ++ rest)) (append_assoc digits (59 ∷ []) (codes "\n" ++ x)))))

pub output_code : (name : List ℕ) → IsCode ℕ IsNumber (λ n. assignment name (cell_net n))
output_code name v w x y is_v is_w same =
    let whole = append_cancel_left ((codes "  assign " ++ name) ++ codes " = n") (ended 59 (decimal v) ++ (codes "\n" ++ x)) (ended 59 (decimal w) ++ (codes "\n" ++ y)) (sym (output_parts name v x) ∙ (same ∙ output_parts name w y)) in
    let known = number_code 0 4294967295 59 (omega arith) refl v w (codes "\n" ++ x) (codes "\n" ++ y) (omega arith, is_v) (omega arith, is_w) whole in
    (known.0, append_cancel_left (codes "\n") x y known.1)

-- what was passed is the one that stands
pub output_rest : (name : List ℕ) (old new : TextAt) (m n : ℕ) (x : List ℕ) → IsNumber m → IsNumber n → Passed old new (assignment name (cell_net m)) → Rest old (assignment name (cell_net n) ++ x) → (m ≡ n) × Rest new x
output_rest name old new m n x is_m is_n passed left =
    output_code name m n (drop new.at new.text) x is_m is_n (sym (passed_rest old new (assignment name (cell_net m)) passed) ∙ left)

-- an output's assignment is passed
pub outputs_on : (nets : List PortNet) (k : ℕ) (net : PortNet) (old now new : TextAt) (n : ℕ) → drop k nets ≡ net ∷ drop (k + 1) nets → net.input ≡ false → IsNumber n
    → LeadsOn (LeftOutputs nets) (LeftOutputs (drop k nets)) old now → Passed now new (assignment net.name (cell_net n)) → LeadsOn (LeftOutputs nets) (LeftOutputs (drop (k + 1) nets)) old new
outputs_on nets k net old now new n cut output is far passed =
    on_both (LeftOutputs nets) (LeftOutputs (drop k nets)) (LeftOutputs (drop (k + 1) nets)) old now new far
    (subst (λ (L : List PortNet). LeadsOn (LeftOutputs L) (LeftOutputs (drop (k + 1) nets)) now new) (sym cut)
    (subst (λ (b : Bool). LeadsOn (LeftOutput b net.name (LeftOutputs (drop (k + 1) nets))) (LeftOutputs (drop (k + 1) nets)) now new) (sym output)
    (on_item ℕ IsNumber (λ m. assignment net.name (cell_net m)) (λ _. LeftOutputs (drop (k + 1) nets)) now new n (output_code net.name) is passed)))

-- an input has none
pub outputs_over : (nets : List PortNet) (k : ℕ) (net : PortNet) (old now : TextAt) → drop k nets ≡ net ∷ drop (k + 1) nets → net.input ≡ true
    → LeadsOn (LeftOutputs nets) (LeftOutputs (drop k nets)) old now → LeadsOn (LeftOutputs nets) (LeftOutputs (drop (k + 1) nets)) old now
outputs_over nets k net old now cut input far =
    subst (λ (b : Bool). LeadsOn (LeftOutputs nets) (LeftOutput b net.name (LeftOutputs (drop (k + 1) nets))) old now) input
    (subst (λ (L : List PortNet). LeadsOn (LeftOutputs nets) (LeftOutputs L) old now) cut far)

-- an output's assignment breaks off
pub outputs_break : (nets : List PortNet) (k : ℕ) (net : PortNet) (old now : TextAt) (fault : VFault) → drop k nets ≡ net ∷ drop (k + 1) nets → net.input ≡ false
    → LeadsOn (LeftOutputs nets) (LeftOutputs (drop k nets)) old now → BreaksAt (IsOutput net.name) now fault → FaultFrom (LeftOutputs nets) old fault
outputs_break nets k net old now fault cut output far breaks =
    fault_on (LeftOutputs nets) (LeftOutputs (drop k nets)) old now fault far
    (subst (λ (L : List PortNet). FaultFrom (LeftOutputs L) now fault) (sym cut)
    (subst (λ (b : Bool). FaultFrom (LeftOutput b net.name (LeftOutputs (drop (k + 1) nets))) now fault) (sym output)
    (fault_first ℕ IsNumber (λ m. assignment net.name (cell_net m)) (λ _. LeftOutputs (drop (k + 1) nets)) now fault (λ _ _. some_outputs (drop (k + 1) nets)) breaks)))

-- behind the outputs, the module's end
pub end_breaks : (nets : List PortNet) (k : ℕ) (old now : TextAt) (fault : VFault) → drop k nets ≡ [] → LeadsOn (LeftOutputs nets) (LeftOutputs (drop k nets)) old now
    → BreaksAt (IsJust (codes "endmodule\n")) now fault → FaultFrom (LeftOutputs nets) old fault
end_breaks nets k old now fault end far breaks =
    fault_on (LeftOutputs nets) (LeftOutputs (drop k nets)) old now fault far
    (subst (λ (L : List PortNet). FaultFrom (LeftOutputs L) now fault) (sym end) (fault_item (IsJust (codes "endmodule\n")) now fault breaks))

pub end_leads : (nets : List PortNet) (k : ℕ) (old now new : TextAt) → drop k nets ≡ [] → LeadsOn (LeftOutputs nets) (LeftOutputs (drop k nets)) old now → Passed now new (codes "endmodule\n")
    → LeadsOn (LeftOutputs nets) (IsJust []) old new
end_leads nets k old now new end far passed =
    on_both (LeftOutputs nets) (LeftOutputs (drop k nets)) (IsJust []) old now new far
    (subst (λ (L : List PortNet). LeadsOn (LeftOutputs L) (IsJust []) now new) (sym end)
    (record {
      word = codes "endmodule\n";
      passed = passed;
      leads = record { on = λ x is. ap (λ (rest : List ℕ). codes "endmodule\n" ++ rest) is; back = λ x is. append_cancel_left (codes "endmodule\n") x [] is };
    }))

-- something stands behind the end
pub more_breaks : (nets : List PortNet) (old new : TextAt) (place : ℕ) → LeadsOn (LeftOutputs nets) (IsJust []) old new → new.at ≤ length new.text → (new.at ≡ length new.text → ⊥) → place ≡ new.at
    → BreaksFrom (LeftOutputs nets) old place
more_breaks nets old new place far within more is =
    on_breaks (LeftOutputs nets) (IsJust []) old new place far (
      0,
      omega (arith, is),
      record {
        good = [];
        bad = drop new.at new.text;
        is = refl;
        count = refl;
        begins = ([], refl);
        stops = λ b rest left longer. cc longer.1;
        none = λ none. more (omega (arith, within, ap length none, length-drop new.at new.text));
      },
    )
