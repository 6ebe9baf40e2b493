-- A number of the store is read, and written.
use Rattle.std.proofs.Common.{◌≡◌, ℕ, Option, refl, sym, ap, subst, ◌∙◌}
use Rattle.std.specs.Prelude.{MatchOption}
use Rattle.gos_model.specs.Terms.{Term, Skip, Lit, Deref, Put}
use Rattle.gos_model.specs.Stores.{Store, entry_at, store_put}
use Rattle.gos_model.specs.Steps.{Locates}
use Rattle.gos_witness.specs.declared.reading_nodes.Number.{Number}
use Rattle.gos_witness.specs.declared.reading_nodes.Position.{Position}
use Rattle.gos_witness.specs.inner.Rows.{IsNumberAt, StepsTo}

-- what stands for a term's number stands for that of the same term
pub same_place : (m n : Term) (r : Option Position) → m ≡ n → MatchOption r ((l i : ℕ) → Locates n l i → ⊥) (λ at. Locates n at.place at.index)
    → MatchOption r ((l i : ℕ) → Locates m l i → ⊥) (λ at. Locates m at.place at.index)
same_place m n r e h = subst (λ (t : Term). MatchOption r ((l i : ℕ) → Locates t l i → ⊥) (λ at. Locates t at.place at.index)) (sym e) h

module _ (s : Store) (m t : Term) (l i : ℕ) (n : Number) (stands : Locates m l i) (is : IsNumberAt s l i n) where
  here : Locates m is.entry.place i
  here = subst (λ (p : ℕ). Locates m p i) (sym is.place) stands

  pub reads : t ≡ Lit n.value n.width → StepsTo s s (Deref m) t
  reads e = ((is.entry, i, n.value, here, ap (entry_at s) is.place ∙ is.there, is.number, e ∙ ap (λ (w : ℕ). Lit n.value w) (sym is.width), refl), tt)

  pub writes : (r : Store) (k : ℕ) → t ≡ Skip → r ≡ store_put s l i k → StepsTo s r (Put m k) t
  writes r k e now = (
    (is.entry, i, n.value, here, ap (entry_at s) is.place ∙ is.there, is.number, e, now ∙ ap (λ (p : ℕ). store_put s p i k) (sym is.place)),
    tt,
  )
