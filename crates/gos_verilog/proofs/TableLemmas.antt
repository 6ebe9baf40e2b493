-- The table from Input cells to the nets of ports, and that each Input cell of an accepted netlist is fed.
use Rattle.std.proofs.Common.{◌≡◌, ◌⊎◌, inl, inr, ℕ, ◌+◌, ◌<◌, Bool, true, false, List, length, get_or, Some, refl, sym, ◌∙◌, ap, subst, arith, slice_get}
use Rattle.std.proofs.lemmas.Bool.{cases_eq}
use Rattle.gos_verilog.specs.PortNets.{PortNet}
use Rattle.gos_verilog.specs.inner.Drivers.{FeedsAt, LeadsToFeeds}

-- one net more is noted
pub leads_more : (nets : List PortNet) (net : PortNet) (k : ℕ) (old new : List ℕ) → slice_get nets k ≡ Some net → length new ≡ length old
    → (net.input ≡ true → net.cell < length old → get_or new net.cell 0 ≡ k)
    → ((i : ℕ) → (i ≡ net.cell → ⊥) → get_or new i 0 ≡ get_or old i 0)
    → (net.input ≡ false → new ≡ old)
    → LeadsToFeeds nets k old → LeadsToFeeds nets (k + 1) new
leads_more nets net k old new here long noted others output leads j i below within feeds =
    by net.input refl
  where
    same_net : (other : PortNet) → slice_get nets k ≡ Some other → other ≡ net
    same_net other is = let both : Some other ≡ Some net = sym is ∙ here in cc both

    -- a net before the new one, or the new one, which is cell i
    old_or_new : (j ≡ k → ⊥) ⊎ ((net.input ≡ true) × (net.cell ≡ i))
    old_or_new =
        elim (cases_eq j k) [
          | inl last ↦ inr (let is = same_net feeds.0 (subst (λ (n : ℕ). slice_get nets n ≡ Some feeds.0) last feeds.1) in (subst (λ (p : PortNet). p.input ≡ true) is feeds.2, subst (λ (p : PortNet). p.cell ≡ i) is feeds.3))
          | inr earlier ↦ inl earlier
        ]

    kept : get_or new i 0 ≡ get_or old i 0 → (j ≡ k → ⊥) → FeedsAt nets (get_or new i 0) i
    kept same earlier = subst (λ (n : ℕ). FeedsAt nets n i) (sym same) (leads j i (omega (arith, below, earlier)) (omega (arith, within, long)) feeds)

    by : (input : Bool) → net.input ≡ input → FeedsAt nets (get_or new i 0) i
    by true is =
        elim (cases_eq i net.cell) [
          | inl at_cell ↦
              let place : get_or new i 0 ≡ k = ap (λ (n : ℕ). get_or new n 0) at_cell ∙ noted is (omega (arith, within, long, at_cell)) in
              subst (λ (n : ℕ). FeedsAt nets n i) (sym place) (net, here, is, sym at_cell)
          | inr apart ↦
              elim old_or_new [
                | inl earlier ↦ kept (others i apart) earlier
                | inr new_one ↦ absurd (apart (sym new_one.1))
              ]
        ]
    by false is =
        elim old_or_new [
          | inl earlier ↦ kept (ap (λ (t : List ℕ). get_or t i 0) (output is)) earlier
          | inr new_one ↦ absurd (let both : true ≡ false = sym new_one.0 ∙ is in cc both)
        ]
