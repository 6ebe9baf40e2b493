-- Without a combinational cycle no fact leads from each net on to one that feeds it.
--
-- Read first: Cycles of gos_netlist. Such a fact of one net would make chains of any length, and in a long one is a cycle.
use Rattle.std.proofs.Common.{◌≡◌, ℕ, zero, suc, List, [], ◌∷◌, length, refl, ap, arith}
use Rattle.gos_netlist.specs.Nets.{Cell}
use Rattle.gos_netlist.specs.Cycles.{Feeds, Chain, HasCycle}
use Rattle.gos_netlist.proofs.RepeatLemmas.{long_chain_has_cycle}

module _ (cells : List Cell) (acyclic : HasCycle cells → ⊥) (P : ℕ → Type 0) (back : (b : ℕ) → P b → (a : ℕ) × P a × Feeds cells a b) where
  -- a chain of one net more than so many leads to the net, from one of which the fact holds
  chain_to : (k b : ℕ) → P b → (a : ℕ) × (ns : List ℕ) × (length ns ≡ k) × P a × Chain cells (a ∷ ns) b
  chain_to zero b p = let (a, q, feeds) = back b p in (a, [], refl, q, feeds)
  chain_to (suc k) b p =
      let (a, ns, long, q, chain) = chain_to k b p in
      let (c, r, feeds) = back a q in
      (c, a ∷ ns, ap suc long, r, (feeds, chain))

  pub ungrounded : (b : ℕ) → P b → ⊥
  ungrounded b p =
      let (a, ns, long, q, chain) = chain_to (length cells) b p in
      acyclic (long_chain_has_cycle cells a ns b chain (omega (arith, long)))
