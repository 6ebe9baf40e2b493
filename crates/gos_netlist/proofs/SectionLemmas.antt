-- A count and so many lines.
use Rattle.std.proofs.Common.{◌≡◌, ℕ, ◌≤◌, List, ◌++◌, length, refl, sym, ◌∙◌, ap, subst, arith, append_assoc}
use Rattle.std.specs.Fmt.{decimal}
use Rattle.std.specs.List.{flat_map}
use Rattle.gos_lex.specs.Items.{TextAt, Misses}
use Rattle.gos_netlist.specs.declared.fault.NetTextFault.{NetTextFault}
use Rattle.gos_netlist.specs.declared.fault.NetTextFault.TheVariants as faults
use Rattle.gos_lex.specs.ItemTexts.{IsAbove, IsInRange, Passed, ended}
use Rattle.gos_netlist.specs.inner.NetLines.{BreaksOff, IsLinesText, CountFault, section_text, AreCounted, IsSectionText, SectionFault}
use Rattle.gos_lex.proofs.SequenceLemmas.{Then, IsCode, misses_as, then_first, then_rest}
use Rattle.gos_lex.proofs.PassedLemmas.{passed_both, passed_as}
use Rattle.gos_lex.proofs.NumberTextLemmas.{number_code}
use Rattle.gos_netlist.proofs.LinesLemmas.{repeated, lines_code}

joined : (V : Type 0) (Is : V → Type 0) (text : V → List ℕ) (bytes : List ℕ)
    → Then ℕ (IsInRange 0 4294967295) (λ n. ended 10 (decimal n)) (λ n. IsLinesText V Is text n) bytes → IsSectionText V Is text bytes
joined V Is text bytes (n, rest, range, (vs, are, lines), whole) =
    (vs, (omega (arith, range.1, are.0), are.1), whole ∙ (λ i. ended 10 (decimal (sym are.0 i)) ++ lines i))

cut : (V : Type 0) (Is : V → Type 0) (text : V → List ℕ) (bytes : List ℕ)
    → IsSectionText V Is text bytes → Then ℕ (IsInRange 0 4294967295) (λ n. ended 10 (decimal n)) (λ n. IsLinesText V Is text n) bytes
cut V Is text bytes (vs, are, whole) = (length vs, flat_map text vs, (omega arith, are.0), (vs, (refl, are.1), refl), whole)

-- where the count breaks off, the section does; v is some value
pub section_count : (V : Type 0) (Is : V → Type 0) (text : V → List ℕ) (v : V) → Is v → (limit : ℕ) (source : List ℕ) (at : ℕ) (fault : NetTextFault)
    → CountFault limit source at fault → SectionFault (IsSectionText V Is text) limit source at fault
section_count V Is text v is limit source at (faults.Form place) known = (
  misses_as (Then ℕ (IsInRange 0 4294967295) (λ n. ended 10 (decimal n)) (λ n. IsLinesText V Is text n)) (IsSectionText V Is text) source at place (joined V Is text) (cut V Is text)
      (then_first ℕ (IsInRange 0 4294967295) (λ n. ended 10 (decimal n)) (λ n. IsLinesText V Is text n) source at place (λ n range. repeated V Is text v is n) known.0),
  known.1,
)
section_count V Is text v is limit source at (faults.Limit place) known = known
section_count V Is text v is limit source at faults.NoMemory known = tt

-- where the lines break off, the section does
pub section_lines : (V : Type 0) (Is : V → Type 0) (text : V → List ℕ) (limit n : ℕ) (old mid : TextAt) (fault : NetTextFault) → n ≤ 4294967295 → Passed old mid (ended 10 (decimal n))
    → (IsAbove limit old.text old.at → ⊥) → BreaksOff (IsLinesText V Is text n) mid.text mid.at fault → SectionFault (IsSectionText V Is text) limit old.text old.at fault
section_lines V Is text limit n old mid (faults.Form place) small passed under misses = (
  misses_as (Then ℕ (IsInRange 0 4294967295) (λ n. ended 10 (decimal n)) (λ n. IsLinesText V Is text n)) (IsSectionText V Is text) old.text old.at place (joined V Is text) (cut V Is text)
      (then_rest ℕ (IsInRange 0 4294967295) (λ n. ended 10 (decimal n)) (λ n. IsLinesText V Is text n) old.text old.at mid.at place n (number_code 0 4294967295 10 (omega arith) refl) (omega arith, small) passed.after passed.within passed.is
      (subst (λ (source : List ℕ). Misses (IsLinesText V Is text n) source mid.at place) passed.text misses)),
  under,
)
section_lines V Is text limit n old mid (faults.Limit place) small passed under none = absurd none
section_lines V Is text limit n old mid faults.NoMemory small passed under any = tt

-- a count and so many lines, passed one behind the other
pub section_passed : (V : Type 0) (text : V → List ℕ) (n : ℕ) (vs : List V) (old mid new : TextAt) → length vs ≡ n → Passed old mid (ended 10 (decimal n)) → Passed mid new (flat_map text vs)
    → Passed old new (section_text V text vs)
section_passed V text n vs old mid new long first second =
    passed_as old new (ended 10 (decimal n) ++ flat_map text vs) (section_text V text vs) (ap (λ (k : ℕ). ended 10 (decimal k) ++ flat_map text vs) (sym long))
    (passed_both old mid new (ended 10 (decimal n)) (flat_map text vs) first second)

-- sections don't begin one another
pub section_code : (V : Type 0) (Is : V → Type 0) (text : V → List ℕ) → IsCode V Is text → IsCode (List V) (AreCounted V Is) (section_text V text)
section_code V Is text code vs ws x y is_v is_w same =
    let count = number_code 0 4294967295 10 (omega arith) refl (length vs) (length ws) (flat_map text vs ++ x) (flat_map text ws ++ y) (omega arith, is_v.0) (omega arith, is_w.0)
    (sym (append_assoc (ended 10 (decimal (length vs))) (flat_map text vs) x) ∙ (same ∙ append_assoc (ended 10 (decimal (length ws))) (flat_map text ws) y)) in
    lines_code V Is text code (length vs) vs ws x y (refl, is_v.1) (sym count.0, is_w.1) count.1
