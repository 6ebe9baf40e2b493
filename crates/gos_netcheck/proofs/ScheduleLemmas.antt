-- Where there is a schedule, there is no combinational cycle: each net of one would come behind itself.
use Rattle.std.specs.Prelude.{◌≡◌, ℕ, zero, suc, ◌<◌, List, [], ◌∷◌, length, take, get_or, Contains, Some, slice_get}
use Rattle.std.proofs.Common.{arith, sym, subst, ◌∙◌}
use Rattle.std.proofs.lemmas.List.{length-take, get_or-take}
use Rattle.std.proofs.lemmas.Option.{slice_get-get_or, slice_get_within}
use Rattle.gos_netlist.specs.Nets.{Cell}
use Rattle.gos_netlist.specs.Cycles.{Chain, HasCycle}
use Rattle.gos_netcheck.specs.Schedule.{IsSchedule}

-- a net before a place of the order
pub record IsBefore (order : List ℕ) (i a : ℕ) : Type 0 where
  pub at : ℕ
  pub before : at < i
  pub is : slice_get order at ≡ Some a

pub place_of : (order : List ℕ) (a : ℕ) (h : Contains order a) → slice_get order h.0 ≡ Some a
place_of order a (k, l, e) = slice_get_read k l e
  where
    slice_get_read : (k : ℕ) → k < length order → get_or order k a ≡ a → slice_get order k ≡ Some a
    slice_get_read k l e =
        let P : ℕ → Type 0 = λ n. slice_get order k ≡ Some n in
        subst P e (slice_get-get_or order k a l)

pub among_first : (order : List ℕ) (i a : ℕ) → Contains (take i order) a → IsBefore order i a
among_first order i a (k, l, e) =
    let count : length (take i order) ≡ _ = length-take i order in
    let low : k < i = omega (arith, l, count) in
    let high : k < length order = omega (arith, l, count) in
    record { at = k; before = low; is = place_of order a (k, high, sym (get_or-take i order k a low) ∙ e) }

-- the first net of a chain comes before what the chain leads to
chain_before : (cells : List Cell) (order : List ℕ) → IsSchedule cells order → (a : ℕ) (ns : List ℕ) (z i : ℕ) → Chain cells (a ∷ ns) z
    → slice_get order i ≡ Some z → IsBefore order i a
chain_before cells order s a [] z i chain is = among_first order i a ((s.due i z is).2 a chain)
chain_before cells order s a (b ∷ ns) z i chain is =
    let next = chain_before cells order s b ns z i chain.1 is in
    let this = among_first order next.at a ((s.due next.at b next.is).2 a chain.0) in
    record { at = this.at; before = omega (arith, this.before, next.before); is = this.is }

no_ring : (cells : List Cell) (order : List ℕ) → IsSchedule cells order → (a : ℕ) (ns : List ℕ) → Chain cells (a ∷ ns) a
    → (n i : ℕ) → i < n → slice_get order i ≡ Some a → ⊥
no_ring cells order s a ns chain zero i l is = omega (arith, l)
no_ring cells order s a ns chain (suc n) i l is =
    let earlier = chain_before cells order s a ns a i chain is in
    no_ring cells order s a ns chain n earlier.at (omega (arith, l, earlier.before)) earlier.is

there : (cells : List Cell) (a : ℕ) (ns : List ℕ) (z : ℕ) → Chain cells (a ∷ ns) z → a < length cells
there cells a [] z (c, e, is, rest, register, named) = slice_get_within cells a c is
there cells a (b ∷ ns) z ((c, e, is, rest, register, named), chain) = slice_get_within cells a c is

pub scheduled_is_acyclic : (cells : List Cell) (order : List ℕ) → IsSchedule cells order → HasCycle cells → ⊥
scheduled_is_acyclic cells order s ([], cycle) = cycle
scheduled_is_acyclic cells order s (a ∷ ns, cycle) =
    let among = s.all a (there cells a ns a cycle.1) in
    no_ring cells order s a ns cycle.1 (suc among.0) among.0 (omega arith) (place_of order a among)
