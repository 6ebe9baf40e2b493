-- Lists of items that are read alike up to a place.
use Rattle.std.proofs.Common.{◌≡◌, ℕ, zero, suc, ◌<◌, ◌≤◌, List, [], ◌∷◌, ◌++◌, length, take, None, refl, sym, ◌∙◌, arith}
use Rattle.gos_syntax.specs.Items.{Item, Agree, reading_at}

-- up to an earlier place they are read alike too
pub agree_less : (items other : List Item) (m n : ℕ) → m ≤ n → Agree n items other → Agree m items other
agree_less items other m n less agree = λ k below. agree k (omega (arith, below, less))

pub agree_back : (items other : List Item) (n : ℕ) → Agree n items other → Agree n other items
agree_back items other n agree = λ k below. sym (agree k below)

pub agree_then : (items other last : List Item) (n : ℕ) → Agree n items other → Agree n other last → Agree n items last
agree_then items other last n one two = λ k below. one k below ∙ two k below

-- past the last item there is none
pub none_past : (items : List Item) (i : ℕ) → length items ≤ i → reading_at items i ≡ None
none_past [] i past = refl
none_past (item ∷ items) zero past = absurd (omega (arith, past))
none_past (item ∷ items) (suc i) past = none_past items i (omega (arith, past))

-- before it there is one
pub some_before : (items : List Item) (i : ℕ) → i < length items → reading_at items i ≡ None → ⊥
some_before [] i below none = omega (arith, below)
some_before (item ∷ items) zero below none = cc
some_before (item ∷ items) (suc i) below none = some_before items i (omega (arith, below)) none

-- the first items, and others behind them
pub take_agrees : (n : ℕ) (items more : List Item) → n ≤ length items → Agree n items (take n items ++ more)
take_agrees zero items more within = λ k below. absurd (omega (arith, below))
take_agrees (suc n) [] more within = absurd (omega (arith, within))
take_agrees (suc n) (item ∷ items) more within =
    elim [
      | zero ↦ λ below. refl
      | suc k ↦ λ below. take_agrees n items more (omega (arith, within)) k (omega (arith, below))
    ]

-- the first items alone
pub take_alike : (n : ℕ) (items : List Item) → Agree n items (take n items)
take_alike zero items = λ k below. absurd (omega (arith, below))
take_alike (suc n) [] = λ k below. refl
take_alike (suc n) (item ∷ items) = elim [ zero ↦ λ below. refl | suc k ↦ λ below. take_alike n items k (omega (arith, below)) ]
