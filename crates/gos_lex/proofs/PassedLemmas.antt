-- A cursor that passes one part and then another has passed both.
use Rattle.std.proofs.Common.{◌≡◌, ℕ, ◌≤◌, List, ◌++◌, length, sym, ◌∙◌, subst, arith}
use Rattle.std.specs.List.{slice_range}
use Rattle.gos_lex.specs.Items.{TextAt, Passes}
use Rattle.gos_lex.proofs.PlaceLemmas.{slice_split}
use Rattle.gos_lex.specs.ItemTexts.{Passed}

pub passed_both : (old mid new : TextAt) (a b : List ℕ) → Passed old mid a → Passed mid new b → Passed old new (a ++ b)
passed_both old mid new a b first second =
    let within : new.at ≤ length old.text = subst (λ (text : List ℕ). new.at ≤ length text) first.text second.within in
    let rest : slice_range old.text mid.at new.at ≡ b = subst (λ (text : List ℕ). slice_range text mid.at new.at ≡ b) first.text second.is in
    record {
      text = second.text ∙ first.text;
      after = omega (arith, first.after, second.after);
      within = within;
      is = slice_split old.text old.at mid.at new.at first.after second.after ∙ (λ i. first.is i ++ rest i);
    }

pub passed_as : (old new : TextAt) (a b : List ℕ) → a ≡ b → Passed old new a → Passed old new b
passed_as old new a b same passed = record { text = passed.text; after = passed.after; within = passed.within; is = passed.is ∙ same }

pub passed_item : (IsItem : List ℕ → Type 0) (old new : TextAt) (a : List ℕ) → new.text ≡ old.text → slice_range old.text old.at new.at ≡ a
    → Passes IsItem old.text old.at new.at → Passed old new a
passed_item IsItem old new a text is passes = record { text = text; after = passes.after; within = passes.within; is = is }

-- a cursor that has passed something is within the text
pub passed_within : (old new : TextAt) (a : List ℕ) → Passed old new a → new.at ≤ length new.text
passed_within old new a passed = subst (λ (text : List ℕ). new.at ≤ length text) (sym passed.text) passed.within
