-- Numbers of words: those that may be given to a netlist fit the words in which it is simulated.
use Rattle.std.specs.Prelude.{ℕ, ◌<◌, ◌≤◌, ◌^◌, List, All, get_or}
use Rattle.std.proofs.Common.{arith, inl, inr, pow_mono}
use Rattle.gos_netlist.specs.Nets.{Cell}
use Rattle.gos_sim.specs.declared.pulse.Pulse.{Pulse}
use Rattle.gos_sim.specs.Cycle.{IsWord}
use Rattle.gos_sim.proofs.PlaceLemmas.{all_at, place_of}

word_fits : (bits : ℕ) (cells : List Cell) (n : ℕ) → 32 ≤ bits → All (λ c. c.width ≤ bits) cells → IsWord cells n → n < 2 ^ bits
word_fits bits cells n roomy widths (inl low) = let more : 2 ^ 32 ≤ 2 ^ bits = pow_mono roomy in omega (arith, low, more)
word_fits bits cells n roomy widths (inr (c, has, low)) =
    let (k, is) = place_of cells c has in
    let more : 2 ^ c.width ≤ 2 ^ bits = pow_mono (all_at (λ d. d.width ≤ bits) cells k c widths is) in
    omega (arith, low, more)

-- so do those of pulses
pub words_fit : (bits : ℕ) (cells : List Cell) (given : List Pulse) → 32 ≤ bits → All (λ c. c.width ≤ bits) cells → All (λ p. IsWord cells p.value) given
    → All (λ p. p.value < 2 ^ bits) given
words_fit bits cells given roomy widths are = λ k d below. word_fits bits cells (get_or given k d).value roomy widths (are k d below)
