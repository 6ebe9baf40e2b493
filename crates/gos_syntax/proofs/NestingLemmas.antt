-- One token more: the levels and the imports before the next token.
use Rattle.std.proofs.Common.{◌≡◌, ℕ, zero, suc, ◌+◌, ◌<◌, List, [], ◌∷◌, length, Some, Bool, true, false, if◌then◌else◌, refl, ap, sym, ◌∙◌, add-one, arith, slice_index_or}
use Rattle.gos_lex.specs.declared.word.Word.TheVariants as words
use Rattle.gos_lex.specs.declared.token.Token.{Token}
use Rattle.gos_lex.specs.Tokens.{Reading, AWord, reading_of}
use Rattle.gos_syntax.specs.Items.{Item, items_of}
use Rattle.gos_syntax.specs.Grammar.{HasWord}
use Rattle.gos_syntax.specs.declared.nesting.Nesting.{Nesting}
use Rattle.gos_syntax.specs.inner.Nested.{levels_of, IsCounted}
use Rattle.gos_syntax.specs.OpenTokens.{Levels, at_first, past, levels_before, items_in, deepest_in, open_before, is_import, imports_before}

-- past one token more
levels_suc : (text : List ℕ) (tokens : List Token) (levels : Levels) (n : ℕ) (d : Token) → n < length tokens
    → levels_before levels (items_of text tokens) (suc n) ≡ past (levels_before levels (items_of text tokens) n) (reading_of text (slice_index_or tokens n d))
levels_suc text [] levels n d h = absurd (omega arith)
levels_suc text (t ∷ tokens) levels zero d h = refl
levels_suc text (t ∷ tokens) levels (suc n) d h = levels_suc text tokens (past levels (reading_of text t)) n d (omega arith)

pub levels_step : (text : List ℕ) (tokens : List Token) (levels : Levels) (n : ℕ) (d : Token) → n < length tokens
    → levels_before levels (items_of text tokens) (n + 1) ≡ past (levels_before levels (items_of text tokens) n) (reading_of text (slice_index_or tokens n d))
levels_step text tokens levels n d h =
    ap (λ (k : ℕ). levels_before levels (items_of text tokens) k) (add-one n) ∙ levels_suc text tokens levels n d h

-- past an import there is one more
import_suc : (items : List Item) (n : ℕ) → HasWord items n words.Import → imports_before items (suc n) ≡ suc (imports_before items n)
import_suc [] n h = cc
import_suc (item ∷ items) zero h =
    let is : item.reading ≡ AWord words.Import = cc in
    rw is refl
import_suc (item ∷ items) (suc n) h = step (is_import item.reading) _ _ (import_suc items n h)
  where
    step : (b : Bool) (x y : ℕ) → x ≡ suc y → (if b then suc x else x) ≡ suc (if b then suc y else y)
    step true x y e = ap suc e
    step false x y e = e

pub one_import_more : (items : List Item) (n : ℕ) → HasWord items n words.Import → imports_before items (n + 1) ≡ imports_before items n + 1
one_import_more items n h = ap (imports_before items) (add-one n) ∙ import_suc items n h ∙ sym (add-one (imports_before items n))

-- past another token there are as many
other_suc : (items : List Item) (n : ℕ) → (HasWord items n words.Import → ⊥) → imports_before items (suc n) ≡ imports_before items n
other_suc [] zero h = refl
other_suc [] (suc n) h = refl
other_suc (item ∷ items) zero h = rw (no_import item.reading (λ e. h (ap (λ (r : Reading). Some r) e))) refl
  where
    no_import : (r : Reading) → (r ≡ AWord words.Import → ⊥) → is_import r ≡ false
    no_import r h = grind arith
other_suc (item ∷ items) (suc n) h = ap (λ (k : ℕ). if is_import item.reading then suc k else k) (other_suc items n h)

pub as_many_imports : (items : List Item) (n : ℕ) → (HasWord items n words.Import → ⊥) → imports_before items (n + 1) ≡ imports_before items n
as_many_imports items n h = ap (imports_before items) (add-one n) ∙ other_suc items n h

-- the open tokens are those that are kept
pub open_kept : (nesting : Nesting) (items : List Item) (n : ℕ) → levels_of nesting ≡ levels_before at_first items n → IsCounted nesting
    → open_before items n ≡ nesting.items + nesting.deepest
open_kept nesting items n e counted =
    ap (λ (levels : Levels). items_in levels + deepest_in levels) (sym e) ∙ sym (cc (counted.items, counted.deepest))
