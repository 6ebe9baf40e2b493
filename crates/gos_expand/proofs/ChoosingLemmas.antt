-- The loop that chooses: one direction more, left out or kept.
--
-- Read first: Choosing; LinkedLemmas.
use Rattle.std.proofs.Common.{◌≡◌, ◌+◌, ◌<◌, ◌≤◌, ◌⊎◌, ℕ, zero, suc, Bool, true, false, not, if◌then◌else◌, List, [], ◌∷◌, ◌++◌, length, take, slice_get, Some, inl, inr, refl, sym, ap, subst, ◌∙◌, arith}
use Rattle.std.proofs.lemmas.Option.{none-some, same_Some}
use Rattle.gos_expand.specs.inner.Choosing.{GoAcross, linked, AreFew}
use Rattle.gos_order.specs.Rings as graph
use Rattle.gos_order.specs.Rings.{Edge, and_edge}
use Rattle.gos_expand.proofs.LinkedLemmas.{across_ringless, linked_more}

take_all : (keeps : List Bool) → take (length keeps) keeps ≡ keeps
take_all [] = refl
take_all (k ∷ keeps) = ap (λ (ks : List Bool). k ∷ ks) (take_all keeps)

take_front : (keeps more : List Bool) (n : ℕ) → n ≤ length keeps → take n (keeps ++ more) ≡ take n keeps
take_front keeps more zero low = refl
take_front [] more (suc n) low = absurd (omega (arith, low))
take_front (k ∷ keeps) more (suc n) low = ap (λ (ks : List Bool). k ∷ ks) (take_front keeps more n (omega (arith, low)))

-- a place of a list with one element more
at_place : (keeps : List Bool) (k : Bool) (n : ℕ) (b : Bool) → slice_get (keeps ++ k ∷ []) n ≡ Some b
    → ((n < length keeps) × (slice_get keeps n ≡ Some b)) ⊎ ((n ≡ length keeps) × (k ≡ b))
at_place [] k zero b is = inr (refl, same_Some k b is)
at_place [] k (suc n) b is = absurd (none-some b is)
at_place (x ∷ keeps) k zero b is = inl (omega arith, is)
at_place (x ∷ keeps) k (suc n) b is =
    elim (at_place keeps k n b is) [
      | inl h ↦ inl (let low = h.0 in omega (arith, low), h.1)
      | inr h ↦ inr (ap suc h.0, h.1)
    ]

pub few_none : (d : ℕ) (edges : List Edge) → GoAcross d edges → AreFew d edges []
few_none d edges across =
    record {
      kept = λ n is. absurd (none-some true is);
      left_out = λ n is. absurd (none-some false is);
      ringless = across_ringless d edges across;
    }

pub few_more : (d : ℕ) (edges : List Edge) (keeps : List Bool) (k : Bool) → AreFew d edges keeps
    → (k ≡ true → graph.HasRing (and_edge (linked d edges 0 keeps) (d + length keeps) (length keeps)))
    → (k ≡ false → graph.HasRing (and_edge (linked d edges 0 keeps) (d + length keeps) (length keeps)) → ⊥)
    → AreFew d edges (keeps ++ k ∷ [])
few_more d edges keeps k few ring none = record { kept = kept; left_out = left_out; ringless = ringless k none (linked_more d edges 0 keeps k) }
  where
    ringless : (b : Bool) → (b ≡ false → graph.HasRing (and_edge (linked d edges 0 keeps) (d + length keeps) (length keeps)) → ⊥)
        → linked d edges 0 (keeps ++ k ∷ [])
        ≡ (if b then linked d edges 0 keeps else and_edge (linked d edges 0 keeps) (d + (0 + length keeps)) (0 + length keeps))
        → graph.HasRing (linked d edges 0 (keeps ++ k ∷ [])) → ⊥
    ringless true free is here = few.ringless (subst graph.HasRing is here)
    ringless false free is here =
        let e : 0 + length keeps ≡ length keeps = omega arith in
        free refl
        (subst (λ (m : ℕ). graph.HasRing (and_edge (linked d edges 0 keeps) (d + m) m)) e (subst graph.HasRing is here))

    kept : (n : ℕ) → slice_get (keeps ++ k ∷ []) n ≡ Some true → graph.HasRing (and_edge (linked d edges 0 (take n (keeps ++ k ∷ []))) (d + n) n)
    kept n is = by_place (at_place keeps k n true is)
      where
        by_place : ((n < length keeps) × (slice_get keeps n ≡ Some true)) ⊎ ((n ≡ length keeps) × (k ≡ true))
            → graph.HasRing (and_edge (linked d edges 0 (take n (keeps ++ k ∷ []))) (d + n) n)
        by_place (inl (low, here)) =
            subst (λ (ks : List Bool). graph.HasRing (and_edge (linked d edges 0 ks) (d + n) n)) (sym (take_front keeps (k ∷ []) n (omega (arith, low)))) (few.kept n here)
        by_place (inr (last, kept_now)) =
            let front : take n (keeps ++ k ∷ []) ≡ keeps =
            take_front keeps (k ∷ []) n (omega (arith, last)) ∙ (ap (λ (m : ℕ). take m keeps) last ∙ take_all keeps) in
            subst (λ (ks : List Bool). graph.HasRing (and_edge (linked d edges 0 ks) (d + n) n)) (sym front)
            (subst (λ (m : ℕ). graph.HasRing (and_edge (linked d edges 0 keeps) (d + m) m)) (sym last) (ring kept_now))

    left_out : (n : ℕ) → slice_get (keeps ++ k ∷ []) n ≡ Some false
        → graph.HasRing (and_edge (linked d edges 0 (take n (keeps ++ k ∷ []))) (d + n) n) → ⊥
    left_out n is here = by_place (at_place keeps k n false is)
      where
        by_place : ((n < length keeps) × (slice_get keeps n ≡ Some false)) ⊎ ((n ≡ length keeps) × (k ≡ false)) → ⊥
        by_place (inl (low, found)) =
            few.left_out n found
            (subst (λ (ks : List Bool). graph.HasRing (and_edge (linked d edges 0 ks) (d + n) n)) (take_front keeps (k ∷ []) n (omega (arith, low))) here)
        by_place (inr (last, out_now)) =
            let front : take n (keeps ++ k ∷ []) ≡ keeps =
            take_front keeps (k ∷ []) n (omega (arith, last)) ∙ (ap (λ (m : ℕ). take m keeps) last ∙ take_all keeps) in
            none out_now
            (subst (λ (m : ℕ). graph.HasRing (and_edge (linked d edges 0 keeps) (d + m) m)) last
            (subst (λ (ks : List Bool). graph.HasRing (and_edge (linked d edges 0 ks) (d + n) n)) front here))

-- what one turn makes of the edges and of the choice
pub record Chosen (d : ℕ) (edges : List Edge) (keeps : List Bool) (order : graph.Graph) : Type 0 where
  pub nodes : order.nodes ≡ d + d
  pub edges_are : order.edges ≡ linked d edges 0 keeps
  pub few : AreFew d edges keeps

pub chosen_more : (d : ℕ) (edges : List Edge) (keeps : List Bool) (order after : graph.Graph) (added : Bool) → Chosen d edges keeps order
    → (added ≡ true → graph.HasRing (and_edge order.edges (d + length keeps) (length keeps)) → ⊥)
    → (added ≡ false → graph.HasRing (and_edge order.edges (d + length keeps) (length keeps)))
    → after ≡ (if added then record order { edges = and_edge order.edges (d + length keeps) (length keeps) } else order)
    → Chosen d edges (keeps ++ not added ∷ []) after
chosen_more d edges keeps order after true c free ring is =
    record {
      nodes = ap (λ (g : graph.Graph). g.nodes) is ∙ c.nodes;
      edges_are =
          ap (λ (g : graph.Graph). g.edges) is
          ∙ (ap (λ (es : List Edge). and_edge es (d + length keeps) (length keeps)) c.edges_are ∙ sym (linked_more d edges 0 keeps false ∙ same));
      few =
          few_more d edges keeps false c.few (λ wrong. cc wrong)
          (λ so here. free refl (subst (λ (es : List Edge). graph.HasRing (and_edge es (d + length keeps) (length keeps))) (sym c.edges_are) here));
    }
  where
    same : and_edge (linked d edges 0 keeps) (d + (0 + length keeps)) (0 + length keeps)
        ≡ and_edge (linked d edges 0 keeps) (d + length keeps) (length keeps)
    same = ap (λ (m : ℕ). and_edge (linked d edges 0 keeps) (d + m) m) (omega arith)
chosen_more d edges keeps order after false c free ring is =
    record {
      nodes = ap (λ (g : graph.Graph). g.nodes) is ∙ c.nodes;
      edges_are = ap (λ (g : graph.Graph). g.edges) is ∙ (c.edges_are ∙ sym (linked_more d edges 0 keeps true));
      few =
          few_more d edges keeps true c.few
          (λ here. subst (λ (es : List Edge). graph.HasRing (and_edge es (d + length keeps) (length keeps))) c.edges_are (ring refl)) (λ wrong. cc wrong);
    }

pub chosen_next : (d : ℕ) (edges : List Edge) (keeps : List Bool) (n : ℕ) (order after : graph.Graph) (added : Bool) → length keeps ≡ n
    → Chosen d edges keeps order
    → (added ≡ true → graph.HasRing (and_edge order.edges (d + n) n) → ⊥)
    → (added ≡ false → graph.HasRing (and_edge order.edges (d + n) n))
    → after ≡ (if added then record order { edges = and_edge order.edges (d + n) n } else order)
    → Chosen d edges (keeps ++ not added ∷ []) after
chosen_next d edges keeps n order after added long c =
    subst
    (λ (m : ℕ).
    (added ≡ true → graph.HasRing (and_edge order.edges (d + m) m) → ⊥) → (added ≡ false → graph.HasRing (and_edge order.edges (d + m) m))
    → after ≡ (if added then record order { edges = and_edge order.edges (d + m) m } else order)
    → Chosen d edges (keeps ++ not added ∷ []) after)
    long (chosen_more d edges keeps order after added c)
