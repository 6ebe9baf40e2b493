-- A simulator whose values stand still is as it was after another cycle; and a latch at rest is.
use Rattle.std.specs.Prelude.{◌≡◌, ℕ, zero, suc, Bool, IsTrue, Option, Some, List, [], ◌∷◌, get_or, map, slice_get, take}
use Rattle.std.proofs.Common.{arith, refl, sym, ap, subst, ◌∙◌}
use Rattle.std.proofs.lemmas.Option.{same_Some}
use Rattle.gos_netlist.specs.Nets.{Function, Input, Const, Not, And, Or, Xor, Mux, Add, Sub, Eq, Less, Gate, Reg, Cell, Netlist}
use Rattle.gos_netlist.specs.SmallNets.{bit, latch}
use Rattle.gos_netlist.specs.Settling.{Numbers, at, shown, Settling, next_registers}
use Rattle.gos_sim.specs.declared.active.Active.{Active}
use Rattle.gos_sim.specs.declared.machine.Machine.{Machine}
use Rattle.gos_sim.specs.declared.past.Past.{Past}
use Rattle.gos_sim.specs.declared.past.Past.TheVariants.{Still}
use Rattle.gos_sim.specs.declared.pulse.Pulse.{Pulse}
use Rattle.gos_sim.specs.Cycle.{IsCycle, Simulator, pulse_shown}
use Rattle.gos_sim.specs.Repeats.{LatchRepeats, Repeats, StaysAsItIs, latch_with}
use Rattle.gos_sim.specs.inner.Places.{by_net}
use Rattle.gos_sim.specs.inner.Machine.{IsBuilt, plan_of, seen}
use Rattle.gos_sim.proofs.MachineLemmas.{machine_cycle}
use Rattle.gos_sim.proofs.StillLemmas.{still_runs}

-- what a cell shows is what it shows with the same input
same_input : (w : ℕ) (f : Function) (r i x : ℕ) (v : ℕ → ℕ) → x ≡ shown w f r i v → x ≡ shown w f r x v
same_input w Input r i x v is = refl
same_input w (Const k) r i x v is = is
same_input w (Not a) r i x v is = is
same_input w (And a b) r i x v is = is
same_input w (Or a b) r i x v is = is
same_input w (Xor a b) r i x v is = is
same_input w (Mux s a b) r i x v is = is
same_input w (Add a b) r i x v is = is
same_input w (Sub a b) r i x v is = is
same_input w (Eq a b) r i x v is = is
same_input w (Less a b) r i x v is = is
same_input w (Gate s a) r i x v is = is
same_input w (Reg a) r i x v is = is

-- a settling is one with its own inputs
with_own_inputs : (cells : List Cell) (registers ins v : Numbers) → Settling cells registers ins v → Settling cells registers v v
with_own_inputs cells registers ins v settles =
    (settles.0, λ n c is. same_input c.width c.gate (at registers n) (at ins n) (at v n) (at v) (settles.1 n c is))

-- a simulator whose next cycle changes neither its registers nor its last two settlings
repeated : (net : Netlist) (registers values : Numbers) (given shows : List Pulse)
    → IsCycle (record { net = net; registers = registers; settlings = values ∷ values ∷ [] }) given shows
    (record { net = net; registers = registers; settlings = values ∷ values ∷ [] })
    → Repeats (record { net = net; registers = registers; settlings = values ∷ values ∷ [] })
repeated net registers values given shows cycle =
    let newest : values ≡ cycle.values = ap (λ (s : Simulator). get_or s.settlings 0 []) cycle.registers in
    let next : registers ≡ next_registers net.cells cycle.values = ap (λ (s : Simulator). s.registers) cycle.registers in
    record {
      values = values;
      twice = refl;
      settled = subst (λ (v : Numbers). Settling net.cells registers v v) (sym newest) (with_own_inputs net.cells registers cycle.ins cycle.values cycle.settled);
      registers = ap (next_registers net.cells) newest ∙ sym next;
    }

-- where the last cycle left the values as they were, and they stand still
pub still_repeats : (bits : ℕ) (net : Netlist) (m : Machine) (active : Active) (registers values before : Numbers) (still : Bool) (past : Past) → IsTrue still
    → past ≡ Still → IsBuilt bits net m active registers values before still past → Repeats (seen net m registers values before past)
still_repeats bits net m active registers values before still past stands is built =
    subst (λ (p : Past). Repeats (seen net m registers values before p)) (sym is)
    (repeated net (nets registers) (nets values) [] shows
    (machine_cycle net m built.machine registers values registers (nets values ∷ nets values ∷ []) [] shows built.others
    (still_runs (plan_of m) [] shows registers values (built.stands stands).0 (λ k e p at_e at_p. absurd (cc)) refl)))
  where
    nets : Numbers → Numbers
    nets = by_net m.places.items

    shows : List Pulse
    shows = map (pulse_shown values) m.outputs.items

pub stays_as_it_is : StaysAsItIs
stays_as_it_is sim given repeats gives =
    record {
      ins = repeats.values;
      values = repeats.values;
      inputs = gives;
      settled = repeats.settled;
      outputs = refl;
      registers = (λ i. record { net = sim.net; registers = sym repeats.registers i; settlings = kept i });
    }
  where
    kept : sim.settlings ≡ repeats.values ∷ take 1 sim.settlings
    kept = repeats.twice ∙ ap (λ (vs : List Numbers). repeats.values ∷ take 1 vs) (sym repeats.twice)

-- the latch at rest
rests : Repeats (latch_with (0 ∷ 0 ∷ 1 ∷ 1 ∷ []) ((0 ∷ 1 ∷ 1 ∷ 1 ∷ []) ∷ (0 ∷ 1 ∷ 1 ∷ 1 ∷ []) ∷ []))
rests = record { values = 0 ∷ 1 ∷ 1 ∷ 1 ∷ []; twice = refl; settled = (refl, each); registers = refl }
  where
    cell : (n : ℕ) (a : Cell) (o : Option Cell) (c : Cell) → o ≡ Some a → o ≡ Some c
        → at (0 ∷ 1 ∷ 1 ∷ 1 ∷ []) n ≡ shown a.width a.gate (at (0 ∷ 0 ∷ 1 ∷ 1 ∷ []) n) (at (0 ∷ 1 ∷ 1 ∷ 1 ∷ []) n) (at (0 ∷ 1 ∷ 1 ∷ 1 ∷ []))
        → at (0 ∷ 1 ∷ 1 ∷ 1 ∷ []) n ≡ shown c.width c.gate (at (0 ∷ 0 ∷ 1 ∷ 1 ∷ []) n) (at (0 ∷ 1 ∷ 1 ∷ 1 ∷ []) n) (at (0 ∷ 1 ∷ 1 ∷ 1 ∷ []))
    cell n a o c here is shows =
        subst (λ (d : Cell). at (0 ∷ 1 ∷ 1 ∷ 1 ∷ []) n ≡ shown d.width d.gate (at (0 ∷ 0 ∷ 1 ∷ 1 ∷ []) n) (at (0 ∷ 1 ∷ 1 ∷ 1 ∷ []) n) (at (0 ∷ 1 ∷ 1 ∷ 1 ∷ [])))
        (same_Some a c (sym here ∙ is)) shows

    each : (n : ℕ) (c : Cell) → slice_get latch.cells n ≡ Some c
        → at (0 ∷ 1 ∷ 1 ∷ 1 ∷ []) n ≡ shown c.width c.gate (at (0 ∷ 0 ∷ 1 ∷ 1 ∷ []) n) (at (0 ∷ 1 ∷ 1 ∷ 1 ∷ []) n) (at (0 ∷ 1 ∷ 1 ∷ 1 ∷ []))
    each zero c is = cell 0 (bit Input) _ c refl is refl
    each (suc zero) c is = cell 1 (bit (Or 0 2)) _ c refl is refl
    each (suc (suc zero)) c is = cell 2 (bit (Reg 1)) _ c refl is refl
    each (suc (suc (suc zero))) c is = cell 3 (bit (Reg 1)) _ c refl is refl
    each (suc (suc (suc (suc n)))) c is = grind (arith, is)

-- one whose settling has changed
changed : Repeats (latch_with (0 ∷ 0 ∷ 1 ∷ 1 ∷ []) ((0 ∷ 1 ∷ 1 ∷ 1 ∷ []) ∷ (1 ∷ 1 ∷ 0 ∷ 0 ∷ []) ∷ [])) → ⊥
changed repeats =
    let now : 0 ≡ at repeats.values 0 = ap (λ (vs : List Numbers). at (get_or vs 0 []) 0) repeats.twice in
    let before : 1 ≡ at repeats.values 0 = ap (λ (vs : List Numbers). at (get_or vs 1 []) 0) repeats.twice in
    omega (arith, now, before)

-- one with other registers
apart : Repeats (latch_with (0 ∷ 0 ∷ 0 ∷ 0 ∷ []) ((0 ∷ 1 ∷ 1 ∷ 1 ∷ []) ∷ (0 ∷ 1 ∷ 1 ∷ 1 ∷ []) ∷ [])) → ⊥
apart repeats =
    let pin : 1 ≡ at repeats.values 1 = ap (λ (vs : List Numbers). at (get_or vs 0 []) 1) repeats.twice in
    let held : at repeats.values 1 ≡ 0 = ap (λ (rs : Numbers). at rs 2) repeats.registers in
    omega (arith, pin, held)

pub latch_repeats : LatchRepeats
latch_repeats = (rests, changed, apart)
