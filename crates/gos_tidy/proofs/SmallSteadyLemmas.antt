-- Small netlists with steady cells, and others without.
--
-- Read first: SmallTidy; SteadyLemmas, FixedLemmas.
use Rattle.std.proofs.Common.{◌≡◌, ◌⊎◌, inl, inr, ◌^◌, ◌<◌, ℕ, zero, suc, List, [], ◌∷◌, length, slice_get, Some, refl, sym, ap, subst, ◌∙◌, arith}
use Rattle.std.proofs.lemmas.Option.{same_Some}
use Rattle.gos_netlist.specs.Nets.{Function, Input, Const, And, Or, Reg, Cell, Netlist}
use Rattle.gos_netlist.specs.SmallNets.{bit}
use Rattle.gos_netcheck.specs.Rules.{Kept}
use Rattle.gos_tidy.specs.Mapped.{IsConst}
use Rattle.gos_tidy.specs.Steady.{ShowsAlways, StaysZero, IsSteady, IsSteadied}
use Rattle.gos_tidy.specs.SmallTidy.{command, LoopIsSteadied, HeldIsNotSteadied, OneIsNotSteadied, EndIsNotSteadied}
use Rattle.gos_tidy.proofs.RenamedLemmas.{one_gate}
use Rattle.gos_tidy.proofs.SmallTidyLemmas.{each_at}
use Rattle.gos_tidy.proofs.SteadyLemmas.{always_no_register}
use Rattle.gos_tidy.proofs.FixedLemmas.{decided_always}

abbrev looped : List Cell
looped = bit Input ∷ bit (Const 0) ∷ bit (Const 0) ∷ bit (Or 0 1) ∷ bit (Reg 3) ∷ []

pub loop_steadied : LoopIsSteadied
loop_steadied =
    record {
      each = refl;
      cells = each_at (λ n c. (slice_get looped n ≡ Some c) ⊎ IsSteady looped n c)
          (bit Input ∷ bit (Reg 2) ∷ bit (And 1 0) ∷ bit (Or 0 1) ∷ bit (Reg 3) ∷ []) (
            inl refl,
            (
              inr (0, omega arith, refl, inr (2, refl, (1, refl), refl)),
              (inr (0, omega arith, refl, inl (decided_always looped 1 0 (And 1 0) (refl, inl (1, refl)))), (inl refl, (inl refl, tt))),
            ),
          );
      ports = refl;
      ends = each_at (λ _ p. Kept (λ _ n. slice_get looped n ≡ slice_get (bit Input ∷ bit (Reg 2) ∷ bit (And 1 0) ∷ bit (Or 0 1) ∷ bit (Reg 3) ∷ []) n) p.nets)
          (command looped (0 ∷ 4 ∷ [])).ports (
            each_at (λ _ n. slice_get looped n ≡ slice_get (bit Input ∷ bit (Reg 2) ∷ bit (And 1 0) ∷ bit (Or 0 1) ∷ bit (Reg 3) ∷ []) n)
                (0 ∷ 4 ∷ []) (refl, (refl, tt)),
            tt,
          );
    }

-- a register is a constant only where it reads 0
module _ (others : List Cell) (n a j : ℕ) (other : slice_get others n ≡ Some (bit (Const j))) where
  reads_zero : (slice_get others n ≡ Some (bit (Reg a))) ⊎ IsSteady others n (bit (Reg a)) → IsConst others a 0
  reads_zero (inl same) =
      let never : Const j ≡ Reg a = one_gate others n (bit (Const j)) (bit (Reg a)) other same in
      absurd (cc never)
  reads_zero (inr (k, low, is, inl always)) = absurd (always_no_register others 1 k a always)
  reads_zero (inr (k, low, is, inr (b, gate, const, none))) =
      let here : b ≡ a = cc gate in
      subst (λ (x : ℕ). IsConst others x 0) here const

pub held_not_steadied : HeldIsNotSteadied
held_not_steadied steadied =
    let others : List Cell = bit Input ∷ bit (Const 0) ∷ bit (Or 1 0) ∷ bit (Reg 2) ∷ [] in
    let (w, is) = reads_zero others 1 2 0 refl (steadied.cells 1 (bit (Reg 2)) refl) in
    let never : Or 1 0 ≡ Const 0 = one_gate others 2 (bit (Or 1 0)) (record { width = w; gate = Const 0 }) refl is in
    cc never

pub one_not_steadied : OneIsNotSteadied
one_not_steadied k steadied =
    let others : List Cell = bit Input ∷ bit (Const 1) ∷ bit (Const k) ∷ bit (And 2 0) ∷ bit (Reg 3) ∷ [] in
    let (w, is) = reads_zero others 2 1 k refl (steadied.cells 2 (bit (Reg 1)) refl) in
    let never : Const 1 ≡ Const 0 = one_gate others 1 (bit (Const 1)) (record { width = w; gate = Const 0 }) refl is in
    cc never

pub end_not_steadied : EndIsNotSteadied
end_not_steadied steadied =
    let same : Some (bit (Const 0)) ≡ Some (bit (Reg 1)) = steadied.ends 0 _ refl 1 2 refl in
    let never : Const 0 ≡ Reg 1 = ap (λ (c : Cell). c.gate) (same_Some (bit (Const 0)) (bit (Reg 1)) same) in
    cc never
