-- Items between two places that are read as given tokens.
use Rattle.std.proofs.Common.{◌≡◌, ℕ, suc, ◌+◌, List, [], ◌∷◌, ◌++◌, length, Some, refl, ◌∙◌, ap, subst, arith}
use Rattle.gos_lex.specs.Tokens.{Reading}
use Rattle.gos_syntax.specs.Items.{Item, reading_at}
use Rattle.gos_syntax.specs.ReadsBack.{readings}

-- the items from i to just before j are read as these tokens
abbrev pub Between : List Item → ℕ → List Reading → ℕ → Type 0
Between items i [] j = i ≡ j
Between items i (token ∷ tokens) j = (reading_at items i ≡ Some token) × Between items (i + 1) tokens j

-- tokens after others
pub between_both : (items : List Item) (i k : ℕ) (tokens more : List Reading) → Between items i (tokens ++ more) k
    → (j : ℕ) × Between items i tokens j × Between items j more k
between_both items i k [] more between = (i, refl, between)
between_both items i k (token ∷ tokens) more (is, between) =
    let both = between_both items (i + 1) k tokens more between in
    (both.0, (is, both.1), both.2)

-- all the items, from any of them on
all_from : (all items : List Item) (i : ℕ) → ((k : ℕ) → reading_at all (i + k) ≡ reading_at items k) → Between all i (readings items) (i + length items)
all_from all [] i same = omega arith
all_from all (item ∷ items) i same =
    let next : i + 1 + length items ≡ i + suc (length items) = omega arith in (
      ap (reading_at all) (plus_zero i) ∙ same 0,
      subst (λ (j : ℕ). Between all (i + 1) (readings items) j) next
          (all_from all items (i + 1) (λ k. ap (reading_at all) (plus_one i k) ∙ same (suc k))),
    )
  where
    plus_zero : (n : ℕ) → n ≡ n + 0
    plus_zero n = omega arith

    plus_one : (n k : ℕ) → n + 1 + k ≡ n + suc k
    plus_one n k = omega arith

-- all the items are between the first and the end
pub between_all : (items : List Item) (tokens : List Reading) → readings items ≡ tokens → Between items 0 tokens (length items)
between_all items tokens e =
    subst (λ (all : List Reading). Between items 0 all (length items)) e
    (subst (λ (j : ℕ). Between items 0 (readings items) j) (zero_plus (length items)) (all_from items items 0 (λ k. ap (reading_at items) (zero_plus k))))
  where
    zero_plus : (n : ℕ) → 0 + n ≡ n
    zero_plus n = omega arith
