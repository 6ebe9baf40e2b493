-- Two settlings agree at a net, where they agree at each net that comes in and from which a path leads to it.
use Rattle.std.proofs.Common.{◌≡◌, inl, inr, ◌⊎◌, ℕ, zero, suc, ◌+◌, ◌<◌, List, [], ◌∷◌, Some, length, refl, sym, ◌∙◌, subst, arith}
use Rattle.std.specs.Prelude.{slice_get, Contains}
use Rattle.gos_netlist.specs.Nets.{Cell, pins}
use Rattle.gos_netlist.specs.Settling.{Numbers, at}
use Rattle.gos_netlist.specs.Cycles.{IsRegister}
use Rattle.gos_plan.specs.Kinds.{Contact}
use Rattle.gos_macro.specs.Gates.{Incoming}
use Rattle.gos_macro.specs.Fit.{IsKnown, NameEarlier}
use Rattle.gos_macro.specs.Paths.{Drives, Path, IsIn}
use Rattle.gos_macro.proofs.causal.CellLemmas.{Meets, same_gate, register_shows, known}

-- a path leads from net n to net z, or n is z
abbrev pub Reaches : ℕ → List Cell → ℕ → ℕ → Type 0
Reaches b cells n z = (n ≡ z) ⊎ ((ns : List ℕ) × Path b cells n ns z)

further : (b : ℕ) (cells : List Cell) (m n z : ℕ) → Drives b cells m n → Reaches b cells n z → (ns : List ℕ) × Path b cells m ns z
further b cells m n z drives (inl same) = ([], subst (λ (x : ℕ). Drives b cells m x) same drives)
further b cells m n z drives (inr (ns, path)) = (n ∷ ns, (drives, path))

-- two settlings with the same registers
pub record Both (contacts : List Contact) (b : ℕ) (i : Incoming) (cells : List Cell) (regs : Numbers) (u v : ℕ → ℕ) (z : ℕ) : Type 0 where
  pub order : NameEarlier contacts i b cells 0 cells
  pub one : Meets u regs b cells
  pub other : Meets v regs b cells
  pub inputs :
      (h net : ℕ) → h < length contacts → IsIn contacts i h net → (u net ≡ v net) ⊎ ((ns : List ℕ) → Path b cells net ns z → ⊥)

pub agree : (contacts : List Contact) (b : ℕ) (i : Incoming) (cells : List Cell) (regs : Numbers) (u v : ℕ → ℕ) (z : ℕ) → Both contacts b i cells regs u v z
    → (bound k : ℕ) (c : Cell) → k < bound → slice_get cells k ≡ Some c → Reaches b cells (b + k) z → u (b + k) ≡ v (b + k)
agree contacts b i cells regs u v z both zero k c below is reaches = absurd (omega (arith, below))
agree contacts b i cells regs u v z both (suc bound) k c below is reaches =
    both.one k c is
    ∙ (same_gate c.width (at regs (b + k)) c.gate u v (λ none net named.
    at_pin none net named (known contacts i b cells both.order k c is none net named) (λ j d. agree contacts b i cells regs u v z both bound j d))
    ∙ sym (both.other k c is))
  where
    Earlier : Type 0
    Earlier = (j : ℕ) (d : Cell) → j < bound → slice_get cells j ≡ Some d → Reaches b cells (b + j) z → u (b + j) ≡ v (b + j)

    onward : (IsRegister c.gate → ⊥) → (net : ℕ) → Contains (pins c.gate) net → (ns : List ℕ) × Path b cells net ns z
    onward none net named = further b cells net (b + k) z (k, c, refl, is, none, named) reaches

    or_not : (net : ℕ) → (u net ≡ v net) ⊎ ((ns : List ℕ) → Path b cells net ns z → ⊥) → (ns : List ℕ) × Path b cells net ns z → u net ≡ v net
    or_not net (inl same) path = same
    or_not net (inr none) path = absurd (none path.0 path.1)

    at_pin : (IsRegister c.gate → ⊥) → (net : ℕ) → Contains (pins c.gate) net → IsKnown contacts i b cells k net → Earlier → u net ≡ v net
    at_pin none net named (inl (h, small, come)) ih = or_not net (both.inputs h net small come) (onward none net named)
    at_pin none net named (inr (j, d, place, here, inl earlier)) ih =
        let path = onward none net named in
        let reached = subst (λ (x : ℕ). Reaches b cells x z) place (inr path) in
        subst (λ (x : ℕ). u x ≡ v x) (sym place) (ih j d (omega (arith, earlier, below)) here reached)
    at_pin none net named (inr (j, d, place, here, inr register)) ih =
        subst (λ (x : ℕ). u x ≡ v x) (sym place)
        (both.one j d here ∙ register_shows d.width (at regs (b + j)) d.gate u register
        ∙ sym (both.other j d here ∙ register_shows d.width (at regs (b + j)) d.gate v register))
