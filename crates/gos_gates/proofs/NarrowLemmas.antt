-- A cell more: no net has more literals than bits, and there are few gates more.
use Rattle.std.specs.Prelude.{◌≡◌, ℕ, ◌+◌, ◌*◌, ◌<◌, ◌≤◌, ◌⊎◌, List, [], length, map, set, get_or}
use Rattle.std.proofs.Common.{arith, refl, sym, subst, inl, inr, length-append, get_or-set_same, get_or-set_other}
use Rattle.std.proofs.lemmas.List.{length-map, length-set, set_past}
use Rattle.std.proofs.lemmas.Bool.{cases_eq, cases_lt}
use Rattle.std.proofs.Math.Nat.{mul-le-mul_right}
use Rattle.gos_netlist.specs.Nets.{Function, Cell, pins}
use Rattle.gos_netlist.specs.Nets as net
use Rattle.gos_netcheck.specs.CellRules.{OperandsFit, widths_of}
use Rattle.gos_gates.specs.Bits.{bits_of}
use Rattle.gos_gates.specs.Lowered.{complement, width_of}
use Rattle.gos_gates.specs.declared.kinds.Kind.{Kind}
use Rattle.gos_gates.specs.declared.kinds.Kind.TheVariants.{And, Or, Gate, Xor, Mux, Add, Sub, Eq, Less}
use Rattle.gos_gates.specs.inner.Adding.{one_bit}
use Rattle.gos_gates.specs.inner.Layout.{bit_cost, chain_gates, chain_literals}
use Rattle.gos_gates.specs.inner.Laying.{Laid, literals_of, next_variable, with_net, with_gates, with_function, pin_bits, IsNarrow}
use Rattle.gos_gates.proofs.BackLemmas.{chain_few, chain_literals_few, cost_low}
use Rattle.gos_gates.proofs.KindLemmas.{length_bits_of}

-- what one net more keeps
pub record GrowsBy (cells : List Cell) (old new : Laid) (most : ℕ) : Type 0 where
  pub narrow : IsNarrow cells new
  pub few : length new.gates ≤ length old.gates + most
  pub base : new.base ≡ old.base
  pub nets : length new.nets ≡ length old.nets

module _ (cells : List Cell) (s : Laid) (n w : ℕ) (narrow : IsNarrow cells s) (wide : w ≡ width_of cells n) where
  pub net_narrow : (ls : List ℕ) → length ls ≤ w → (m : ℕ) → length (get_or (set s.nets n ls) m []) ≤ width_of cells m
  net_narrow ls fits m = by_net (cases_eq m n)
    where
      by_net : (m ≡ n) ⊎ (m ≡ n → ⊥) → length (get_or (set s.nets n ls) m []) ≤ width_of cells m
      by_net (inr other) =
          let P : List ℕ → Type 0 = λ xs. length xs ≤ width_of cells m in
          subst P (sym (get_or-set_other s.nets n m ls [] other)) (narrow m)
      by_net (inl same) = by_room (cases_lt n (length s.nets))
        where
          by_room : (n < length s.nets) ⊎ (length s.nets ≤ n) → length (get_or (set s.nets n ls) m []) ≤ width_of cells m
          by_room (inl low) =
              let Q : ℕ → Type 0 = λ k. length (get_or (set s.nets n ls) k []) ≤ width_of cells k in
              let P : List ℕ → Type 0 = λ xs. length xs ≤ width_of cells n in
              subst Q (sym same) (subst P (sym (get_or-set_same s.nets n ls [] low)) (omega (arith, fits, wide)))
          by_room (inr past) =
              let P : List (List ℕ) → Type 0 = λ ns. length (get_or ns m []) ≤ width_of cells m in
              subst P (sym (set_past s.nets n ls past)) (narrow m)

  by_gates : (f : Function) (gs : List (ℕ × ℕ)) (ls : List ℕ) (most : ℕ) → with_function n w f s ≡ with_gates s n gs ls → length ls ≤ w → length gs ≤ most → GrowsBy cells s (with_function n w f s) most
  by_gates f gs ls most same fits count =
      let P : Laid → Type 0 = λ x. GrowsBy cells s x most in
      subst P (sym same) (record { narrow = net_narrow ls fits; few = omega (arith, length-append s.gates gs, count); base = refl; nets = length-set s.nets n ls })

  by_net : (f : Function) (ls : List ℕ) (most : ℕ) → with_function n w f s ≡ with_net s n ls → length ls ≤ w → GrowsBy cells s (with_function n w f s) most
  by_net f ls most same fits =
      let P : Laid → Type 0 = λ x. GrowsBy cells s x most in
      subst P (sym same) (record { narrow = net_narrow ls fits; few = omega arith; base = refl; nets = length-set s.nets n ls })

  count : (kind : Kind) (v c : ℕ) (ms bs : List ℕ) (most : ℕ) → length ms ≤ most → length (chain_gates kind v c ms bs) ≤ 7 * most
  count kind v c ms bs most le =
      let most_cost : bit_cost kind * length ms ≤ 7 * length ms = mul-le-mul_right (length ms) (cost_low kind) in
      omega (arith, chain_few kind v c ms bs, most_cost, le)

  fits_chain : (kind : Kind) (v a : ℕ) (bs : List ℕ) → width_of cells a ≡ w → length (chain_literals kind v (literals_of s a) bs) ≤ w
  fits_chain kind v a bs e = omega (arith, chain_literals_few kind v (literals_of s a) bs, narrow a, e)

  pub grows : (f : Function) → 1 ≤ w → OperandsFit (widths_of cells) w f → GrowsBy cells s (with_function n w f s) (7 * pin_bits s f)
  grows net.Input some fit = record { narrow = narrow; few = omega arith; base = refl; nets = refl }
  grows (net.Reg a) some fit = record { narrow = narrow; few = omega arith; base = refl; nets = refl }
  grows (net.Const k) some fit = by_net (net.Const k) (map one_bit (bits_of w k)) _ refl (omega (arith, length-map (bits_of w k) one_bit, length_bits_of w k))
  grows (net.Not a) some fit = by_net (net.Not a) (map complement (literals_of s a)) _ refl (omega (arith, length-map (literals_of s a) complement, narrow a, fit))
  grows (net.And a b) some fit = by_gates (net.And a b) _ _ _ refl (fits_chain And (next_variable s) a (literals_of s b) fit.0) (count And _ _ (literals_of s a) (literals_of s b) (pin_bits s (net.And a b)) (omega arith))
  grows (net.Or a b) some fit = by_gates (net.Or a b) _ _ _ refl (fits_chain Or (next_variable s) a (literals_of s b) fit.0) (count Or _ _ (literals_of s a) (literals_of s b) (pin_bits s (net.Or a b)) (omega arith))
  grows (net.Xor a b) some fit = by_gates (net.Xor a b) _ _ _ refl (fits_chain Xor (next_variable s) a (literals_of s b) fit.0) (count Xor _ _ (literals_of s a) (literals_of s b) (pin_bits s (net.Xor a b)) (omega arith))
  grows (net.Mux x a b) some fit = by_gates (net.Mux x a b) _ _ _ refl (fits_chain Mux (next_variable s) a (literals_of s b) fit.1) (count Mux _ _ (literals_of s a) (literals_of s b) (pin_bits s (net.Mux x a b)) (omega arith))
  grows (net.Add a b) some fit = by_gates (net.Add a b) _ _ _ refl (fits_chain Add (next_variable s) a (literals_of s b) fit.0) (count Add _ _ (literals_of s a) (literals_of s b) (pin_bits s (net.Add a b)) (omega arith))
  grows (net.Sub a b) some fit = by_gates (net.Sub a b) _ _ _ refl (fits_chain Sub (next_variable s) a (literals_of s b) fit.0) (count Sub _ _ (literals_of s a) (literals_of s b) (pin_bits s (net.Sub a b)) (omega arith))
  grows (net.Eq a b) some fit = by_gates (net.Eq a b) _ _ _ refl some (count Eq _ _ (literals_of s a) (literals_of s b) (pin_bits s (net.Eq a b)) (omega arith))
  grows (net.Less a b) some fit = by_gates (net.Less a b) _ _ _ refl some (count Less _ _ (literals_of s a) (literals_of s b) (pin_bits s (net.Less a b)) (omega arith))
  grows (net.Gate x a) some fit = by_gates (net.Gate x a) _ _ _ refl (fits_chain Gate (next_variable s) a (literals_of s a) fit.1) (count Gate _ _ (literals_of s a) (literals_of s a) (pin_bits s (net.Gate x a)) (omega arith))
