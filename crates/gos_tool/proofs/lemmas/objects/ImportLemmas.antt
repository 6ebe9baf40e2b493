-- A module that was parsed has at most 64 imports, since no import has 64 before it.
use Rattle.std.specs.Prelude.{◌≡◌, ◌⊎◌, ℕ, zero, suc, ◌+◌, ◌-◌, ◌<◌, ◌≤◌, Bool, true, false, List, [], ◌∷◌, length, map, Some, if◌then◌else◌}
use Rattle.std.proofs.Common.{refl, ap, arith, inl, inr}
use Rattle.std.proofs.lemmas.List.{length-map}
use Rattle.gos_lex.specs.declared.token.Token.{Token}
use Rattle.gos_lex.specs.declared.word.Word.TheVariants as words
use Rattle.gos_lex.specs.Tokens.{Reading, AWord}
use Rattle.gos_types.specs.Types.{Type'}
use Rattle.gos_syntax.specs.Items.{Item, item_of, items_of, reading_at}
use Rattle.gos_syntax.specs.Grammar.{HasWord, TypeRule, Whole, Product, Base, IsType, a_product, a_function, a_base, a_pair, a_command, an_expression, a_variable, in_brackets}
use Rattle.gos_syntax.specs.Modules.{SeenModule}
use Rattle.gos_syntax.specs.ModuleTrees.{ImportTree, import_tree}
use Rattle.gos_syntax.specs.OpenTokens.{is_import, imports_before, IsExtraImport}
use Rattle.gos_syntax.specs.ParsedModules.{AreImports, IsParsed}
use Rattle.gos_syntax.proofs.NestingLemmas.{one_import_more}

-- a type has a token
type_longer : (items : List Item) (rule : TypeRule) (i j : ℕ) (a : Type') → IsType items rule i j a → i < j
type_longer items rule i j a (a_product _ _ _ t) = type_longer items Product i j a t
type_longer items rule i k c (a_function _ j _ a b t arrow u) =
    let one = type_longer items Product i j a t in let other = type_longer items Whole (j + 1) k b u in omega (arith, one, other)
type_longer items rule i j a (a_base _ _ _ t) = type_longer items Base i j a t
type_longer items rule i k c (a_pair _ j _ a b t star u) =
    let one = type_longer items Base i j a t in let other = type_longer items Product (j + 1) k b u in omega (arith, one, other)
type_longer items rule i j a (a_command _ word) = omega arith
type_longer items rule i j a (an_expression _ w word number) = omega arith
type_longer items rule i j a (a_variable _ w word number) = omega arith
type_longer items rule i k a (in_brackets _ j _ open_sign t close_sign) = let one = type_longer items Whole (i + 1) j a t in omega (arith, one)

-- past a token there are as many imports, or it is one
abbrev Past : List Item → ℕ → Type 0
Past items n =
    (imports_before items (suc n) ≡ imports_before items n)
    ⊎ (HasWord items n words.Import × (imports_before items (suc n) ≡ suc (imports_before items n)))

import_is : (r : Reading) → is_import r ≡ true → r ≡ AWord words.Import
import_is r e = grind arith

past : (items : List Item) (n : ℕ) → Past items n
past [] zero = inl refl
past [] (suc n) = inl refl
past (item ∷ items) zero = by (is_import item.reading) refl
  where
    by : (b : Bool) → is_import item.reading ≡ b → Past (item ∷ items) zero
    by true e = inr (ap (λ (r : Reading). Some r) (import_is item.reading e), rw e refl)
    by false e = inl (rw e refl)
past (item ∷ items) (suc n) =
    elim (past items n) [
      | inl e ↦ inl (ap (λ (k : ℕ). if is_import item.reading then suc k else k) e)
      | inr (word, e) ↦ inr (word, step (is_import item.reading) (imports_before items (suc n)) (imports_before items n) e)
    ]
  where
    step : (b : Bool) (x y : ℕ) → x ≡ suc y → (if b then suc x else x) ≡ suc (if b then suc y else y)
    step true x y e = ap suc e
    step false x y e = e

-- so there are more and more
more_imports : (items : List Item) (m n : ℕ) → imports_before items m ≤ imports_before items (n + m)
more_imports items m zero = let e : m ≡ 0 + m = omega arith in let same = ap (imports_before items) e in omega (arith, same)
more_imports items m (suc n) =
    let rest = more_imports items m n in
    let e : suc (n + m) ≡ suc n + m = omega arith in
    let same = ap (imports_before items) e in
    elim (past items (n + m)) [ inl one ↦ omega (arith, rest, same, one) | inr (word, one) ↦ omega (arith, rest, same, one) ]

-- and never more than 64, where no import is one too many
word_low : (items : List Item) (n : ℕ) (r : Reading) → reading_at items n ≡ Some r → n < length items
word_low [] n r e = absurd (cc e)
word_low (item ∷ items) zero r e = omega arith
word_low (item ∷ items) (suc n) r e = let rest = word_low items n r e in omega (arith, rest)

never_more : (items : List Item) → ((n : ℕ) → n < length items → IsExtraImport items n → ⊥) → (n : ℕ) → imports_before items n ≤ 64
never_more items none zero = none_yet items
  where
    none_yet : (items : List Item) → imports_before items 0 ≤ 64
    none_yet [] = omega arith
    none_yet (item ∷ items) = omega arith
never_more items none (suc n) =
    let rest = never_more items none n in
    elim (past items n) [
      | inl e ↦ omega (arith, rest, e)
      | inr (word, e) ↦
          (let low = word_low items n (AWord words.Import) word in
          let other : imports_before items n ≡ 64 → ⊥ = (λ full. none n low (word, full)) in
          omega (arith, rest, e, other))
    ]

-- each import is one
imports_count : (items : List Item) (i j : ℕ) (imports : List ImportTree) → AreImports items i j imports
    → imports_before items i + length imports ≤ imports_before items j
imports_count items i j [] same = let e = ap (imports_before items) same in omega (arith, e)
imports_count items i j (x ∷ imports) (k, import, others) =
    let one = one_import_more items i import.word in
    let long = type_longer items Whole (i + 3) k x.ty import.ty in
    let more = more_imports items (i + 1) (k - (i + 1)) in
    let same : (k - (i + 1)) + (i + 1) ≡ k = omega (arith, long) in
    let there = ap (imports_before items) same in
    let rest = imports_count items k j imports others in
    omega (arith, one, more, there, rest)

pub few_imports : (text : List ℕ) (tokens : List Token) (made : SeenModule) → IsParsed text tokens made → length made.imports ≤ 64
few_imports text tokens made parsed =
    let items : List Item = items_of text tokens in
    let size = length-map tokens (item_of text) in
    let whole = parsed.derived.whole in
    let count = imports_count items 0 whole.exported (map import_tree made.imports) whole.imports in
    let limit = never_more items (λ n low extra. parsed.imports n (omega (arith, low, size)) extra) whole.exported in
    let trees = length-map made.imports import_tree in
    omega (arith, count, limit, trees)
