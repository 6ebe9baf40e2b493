-- Some cells of others keep widths and have no combinational cycle, where the others do.
use Rattle.std.proofs.Common.{◌≡◌, ◌⊎◌, inl, inr, ◌<◌, ℕ, zero, suc, List, [], ◌∷◌, length, slice_get, Some, Contains, refl, sym, ap, subst, ◌∙◌, arith}
use Rattle.gos_netlist.specs.Nets.{Cell, pins}
use Rattle.gos_netlist.specs.Cycles.{Feeds, HasCycle}
use Rattle.gos_netcheck.specs.CellRules.{width_at, widths_of, WidthsFit}
use Rattle.gos_tidy.specs.Mapped.{renamed}
use Rattle.gos_tidy.specs.Reduced.{IsPart}
use Rattle.gos_tidy.proofs.GroundLemmas.{ungrounded}
use Rattle.gos_tidy.proofs.NarrowLemmas.{pin_first, width_is}
use Rattle.gos_tidy.proofs.RenamedLemmas.{renamed_register, renamed_pins, to_mapped, each_of, fits_renamed}
use Rattle.gos_tidy.proofs.QuotientLemmas.{cell_there, ring_back}

module _ (cells others : List Cell) (g : ℕ → ℕ) (part : IsPart cells others g) where
  part_width : (n : ℕ) (c : Cell) → slice_get cells n ≡ Some c → width_at (widths_of cells) n ≡ width_at (widths_of others) (g n)
  part_width n c there =
      width_is cells n c there ∙ sym (width_is others (g n) (record { width = c.width; gate = renamed g c.gate }) (part.kept n c there))

  pub part_widths : WidthsFit others → WidthsFit cells
  part_widths fits n c there =
      let fit = fits (g n) (record { width = c.width; gate = renamed g c.gate }) (part.kept n c there) in (
        fit.0,
        fit.1,
        fits_renamed (widths_of cells) (widths_of others) c.width c.gate g fit.2 (λ a pin.
            let (e, is) = cell_there cells a (each_of (λ (m : ℕ). m < length cells) (pins c.gate) a (part.pins n c there) pin) in
            part_width a e is),
      )

  part_feeds : (a b : ℕ) → Feeds cells a b → Feeds others (g a) (g b)
  part_feeds a b (c, e, first, second, free, pin) = (
    record { width = c.width; gate = renamed g c.gate },
    record { width = e.width; gate = renamed g e.gate },
    part.kept a c first,
    part.kept b e second,
    (λ (r, is). let (d, gate, same) = renamed_register g c.gate r is in free (d, gate)),
    subst (λ (xs : List ℕ). Contains xs (g a)) (sym (renamed_pins g e.gate)) (to_mapped g (pins e.gate) a pin),
  )

  pub part_acyclic : (HasCycle others → ⊥) → HasCycle cells → ⊥
  part_acyclic acyclic ([], ring) = ring
  part_acyclic acyclic (z ∷ ns, (apart, chain)) =
      ungrounded others acyclic (λ (m : ℕ). (n : ℕ) × Contains (z ∷ ns) n × (g n ≡ m)) back (g z) (z, pin_first z ns, refl)
    where
      back : (b : ℕ) → (n : ℕ) × Contains (z ∷ ns) n × (g n ≡ b) → (a : ℕ) × ((n : ℕ) × Contains (z ∷ ns) n × (g n ≡ a)) × Feeds others a b
      back b (n, has, is) =
          let (a, member, feeds) = ring_back cells z ns n chain has in
          (g a, (a, member, refl), subst (Feeds others (g a)) is (part_feeds a n feeds))

  -- nets rise, so no two go to one place
  pub part_apart : (m n : ℕ) → m < length cells → n < length cells → g m ≡ g n → m ≡ n
  part_apart m n low high same = by_order (order m n)
    where
      order : (m n : ℕ) → (m < n) ⊎ ((n < m) ⊎ (m ≡ n))
      order zero zero = inr (inr refl)
      order zero (suc n) = inl (omega arith)
      order (suc m) zero = inr (inl (omega arith))
      order (suc m) (suc n) = one_on (order m n)
        where
          one_on : (m < n) ⊎ ((n < m) ⊎ (m ≡ n)) → (suc m < suc n) ⊎ ((suc n < suc m) ⊎ (suc m ≡ suc n))
          one_on (inl less) = inl (omega (arith, less))
          one_on (inr (inl more)) = inr (inl (omega (arith, more)))
          one_on (inr (inr is)) = inr (inr (ap suc is))

      by_order : (m < n) ⊎ ((n < m) ⊎ (m ≡ n)) → m ≡ n
      by_order (inl less) = absurd (let rises = part.rises m n less high in omega (arith, rises, same))
      by_order (inr (inl more)) = absurd (let rises = part.rises n m more low in omega (arith, rises, same))
      by_order (inr (inr is)) = is
