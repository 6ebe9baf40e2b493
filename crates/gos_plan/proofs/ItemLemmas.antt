-- Numbers and names with the byte that ends them.
use Rattle.std.proofs.Common.{◌≡◌, ℕ, ◌^◌, ◌<◌, ◌≤◌, false, List, [], ◌∷◌, refl, subst, arith}
use Rattle.std.specs.Char.{is_ascii_digit}
use Rattle.std.specs.Fmt.{decimal}
use Rattle.std.specs.List.{slice_range}
use Rattle.gos_lex.specs.Items.{TextAt, IsJust, Passes, Misses}
use Rattle.gos_lex.specs.Names.{IsNameOrWord}
use Rattle.gos_lex.specs.ItemTexts.{Passed, IsTextOf, IsInRange, IsNumberText, ended}
use Rattle.gos_lex.proofs.NumberTextLemmas.{number_code}
use Rattle.gos_lex.proofs.NameTextLemmas.{name_code}
use Rattle.gos_plan.specs.declared.fault.ObjectFault.TheVariants as faults
use Rattle.gos_plan.specs.TextItems.{Spans, Reads, Fails, number_in, any_name}
use Rattle.gos_plan.proofs.TextLemmas.{Lawful, lawful_plain, span_both}

pub lawful_number : (low high c : ℕ) → low ≤ high → high < 2 ^ 64 → is_ascii_digit c ≡ false → Lawful (number_in low high c)
lawful_number low high c range fits is_end =
    lawful_plain ℕ (IsInRange low high) (λ n. ended c (decimal n)) (number_code low high c fits is_end) low (omega arith, range)

-- a name of one letter
pub lawful_name : Lawful any_name
lawful_name = lawful_plain (List ℕ) IsNameOrWord (ended 32) (name_code 32 refl) (97 ∷ []) record { spelled = refl; short = omega arith }

-- no number stands
pub number_misses : (low high c : ℕ) (text : List ℕ) (at place : ℕ) → Misses (IsNumberText low high c) text at place → Fails (number_in low high c) text at (faults.Form place)
number_misses low high c text at place misses = (misses, λ p over. over)

-- a number is passed
pub number_reads : (low high c : ℕ) (old new : TextAt) (n : ℕ) → IsInRange low high n → Passed old new (ended c (decimal n)) → Reads (number_in low high c) old new n
number_reads low high c old new n range passed =
    record {
      same = passed.text;
      spans = record { after = passed.after; within = passed.within; is = passed.is };
      is = range;
      keeps = tt;
    }

pub name_misses : (text : List ℕ) (at place : ℕ) → Misses (IsTextOf (List ℕ) IsNameOrWord (ended 32)) text at place → Fails any_name text at (faults.Form place)
name_misses text at place misses = (misses, λ p over. over)

-- what a cursor has passed
pub passed_span : (IsPart : List ℕ → Type 0) (old new : TextAt) (bytes : List ℕ) → slice_range old.text old.at new.at ≡ bytes → Passes IsPart old.text old.at new.at → Spans old.text old.at new.at bytes
passed_span IsPart old new bytes is passes = record { after = passes.after; within = passes.within; is = is }

pub passed_then : (IsPart : List ℕ → Type 0) (old mid new : TextAt) (bytes : List ℕ) (c : ℕ) → mid.text ≡ old.text → slice_range old.text old.at mid.at ≡ bytes → Passes IsPart old.text old.at mid.at
    → Passes (IsJust (c ∷ [])) mid.text mid.at new.at → Spans old.text old.at new.at (ended c bytes)
passed_then IsPart old mid new bytes c same is passes last =
    let behind : Passes (IsJust (c ∷ [])) old.text mid.at new.at = subst (λ (text : List ℕ). Passes (IsJust (c ∷ [])) text mid.at new.at) same last in
    span_both old.text old.at mid.at new.at bytes (c ∷ []) (passed_span IsPart old mid bytes is passes) record { after = behind.after; within = behind.within; is = behind.item }
