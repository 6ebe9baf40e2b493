-- A latch is accepted and lowered to a keeper, and to no other of three circuits.
--
-- Read first: SmallLowered; LoweredLemmas.
use Rattle.std.specs.Prelude.{◌≡◌, ℕ, zero, suc, ◌+◌, ◌^◌, ◌<◌, ◌≤◌, List, [], ◌∷◌, ◌++◌, Contains, IsPermutation, Some, slice_get, get_or, length, take}
use Rattle.std.specs.List.{AllByRecursion}
use Rattle.std.proofs.Common.{arith, refl, sym, ap, subst, inl, inr, ◌∙◌}
use Rattle.std.proofs.lemmas.Option.{same_Some}
use Rattle.gos_types.specs.Types.{Com}
use Rattle.gos_netlist.specs.Nets.{Input, Or, Reg, Cell, Give, NetPort, pins}
use Rattle.gos_netlist.specs.Cycles.{Feeds, IsRegister}
use Rattle.gos_netlist.specs.Settling.{Numbers, at, shown, Settling, IsRun}
use Rattle.gos_netlist.specs.SmallNets.{bit, latch, latch_inputs, latch_values}
use Rattle.gos_netcheck.specs.CellRules.{PinsExist, HasRightWidths, widths_of}
use Rattle.gos_netcheck.specs.PortRules.{places, FitsAt, IsRightPort}
use Rattle.gos_netcheck.specs.Schedule.{IsDue, IsSchedule}
use Rattle.gos_netcheck.specs.Accepted.{IsAccepted}
use Rattle.gos_netcheck.proofs.ScheduleLemmas.{scheduled_is_acyclic}
use Rattle.gos_netcheck.proofs.LevelLawLemmas.{latch_has_levels}
use Rattle.gos_gates.specs.Lowered.{AreInputs, IsLowered}
use Rattle.gos_gates.specs.SmallCircuits.{keeper}
use Rattle.gos_gates.specs.SmallLowered.{LatchIsLowered, TurnedIsNotLowered, LackingIsNotLowered, LatchIsSmall}
use Rattle.gos_gates.specs.inner.Laying.{circuit_of}
use Rattle.gos_gates.specs.inner.Orders.{IsOrdered, numbers_from}
use Rattle.gos_gates.specs.inner.Standing.{Among}
use Rattle.gos_gates.proofs.OrderLemmas.{among_contains}
use Rattle.gos_gates.proofs.AmongLemmas.{contains_among}
use Rattle.gos_gates.proofs.LoweredLemmas.{is_lowered}

-- what holds at each of four places
four : {X : Type 0} (P : ℕ → X → Type 0) (a b c d : X) → P 0 a → P 1 b → P 2 c → P 3 d → (n : ℕ) (x : X) → slice_get (a ∷ b ∷ c ∷ d ∷ []) n ≡ Some x → P n x
four P a b c d pa pb pc pd zero x is = subst (P 0) (same_Some a x is) pa
four P a b c d pa pb pc pd (suc zero) x is = subst (P 1) (same_Some b x is) pb
four P a b c d pa pb pc pd (suc (suc zero)) x is = subst (P 2) (same_Some c x is) pc
four P a b c d pa pb pc pd (suc (suc (suc zero))) x is = subst (P 3) (same_Some d x is) pd
four P a b c d pa pb pc pd (suc (suc (suc (suc n)))) x is = absurd (cc is)

of_cells : (P : ℕ → Cell → Type 0) → P 0 (bit Input) → P 1 (bit (Or 0 2)) → P 2 (bit (Reg 1)) → P 3 (bit (Reg 1)) → (n : ℕ) (c : Cell) → slice_get latch.cells n ≡ Some c → P n c
of_cells P = four P (bit Input) (bit (Or 0 2)) (bit (Reg 1)) (bit (Reg 1))

-- The latch is accepted.

stands : (i n : ℕ) → slice_get (0 ∷ 3 ∷ []) i ≡ Some n → FitsAt latch.cells (slice_get (places Give Com) i) n
stands zero n is = subst (FitsAt latch.cells (slice_get (places Give Com) 0)) (same_Some 0 n is) (bit Input, refl, refl, refl)
stands (suc zero) n is = subst (FitsAt latch.cells (slice_get (places Give Com) 1)) (same_Some 3 n is) (bit (Reg 1), refl, refl, (1, refl))
stands (suc (suc i)) n is = absurd (cc is)

once : (i n : ℕ) → slice_get (0 ∷ []) i ≡ Some n → Contains ([] ++ take i (0 ∷ [])) n → ⊥
once zero n is (k, low, e) = omega (arith, low)
once (suc i) n is has = cc is

right : (k : ℕ) (p : NetPort) → slice_get latch.ports k ≡ Some p → IsRightPort latch.cells latch.ports k p
right zero p is =
    subst (IsRightPort latch.cells latch.ports 0) (same_Some _ p is)
    (record { side = (refl, tt); name = λ k q low at_k same. omega (arith, low); nets = (refl, stands); inputs = once })
right (suc k) p is = absurd (cc is)

alone : (n : ℕ) (c : Cell) → slice_get latch.cells n ≡ Some c → c.gate ≡ Input → n ≡ 0
alone = of_cells (λ n c. c.gate ≡ Input → n ≡ 0) (λ e. refl) (λ e. absurd (cc e)) (λ e. absurd (cc e)) (λ e. absurd (cc e))

-- the nets, each behind those that feed it
abbrev in_turn : List ℕ
in_turn = 0 ∷ 1 ∷ 2 ∷ 3 ∷ []

pins_of : (a b : ℕ) (d : Cell) → slice_get latch.cells b ≡ Some d → Feeds latch.cells a b → Among a (pins d.gate) × ((c : Cell) → slice_get latch.cells a ≡ Some c → IsRegister c.gate → ⊥)
pins_of a b d there (c, e, at_a, at_b, free, pin) =
    let same : e ≡ d = same_Some e d (sym at_b ∙ there) in
    let P : Cell → Type 0 = λ x. Among a (pins x.gate) in
    (subst P same (among_contains (pins e.gate) a pin), λ x at_x is. let one : x ≡ c = same_Some x c (sym at_x ∙ at_a) in let Q : Cell → Type 0 = λ y. IsRegister y.gate in free (subst Q one is))

contains : (ns : List ℕ) (a m : ℕ) → a ≡ m → Among m ns → Contains ns a
contains ns a m e h = let P : ℕ → Type 0 = λ k. Contains ns k in subst P (sym e) (contains_among ns m h)

not_before : (ns : List ℕ) (b : ℕ) → (Among b ns → ⊥) → Contains ns b → ⊥
not_before ns b none has = none (among_contains ns b has)

first_due : IsDue latch.cells [] 0
first_due = (omega arith, not_before [] 0 (λ h. h), λ a feeds. absurd (pins_of a 0 (bit Input) refl feeds).0)

gate_due : IsDue latch.cells (0 ∷ []) 1
gate_due = (omega arith, not_before (0 ∷ []) 1 other, λ a feeds. by_pin a (pins_of a 1 (bit (Or 0 2)) refl feeds).0 (pins_of a 1 (bit (Or 0 2)) refl feeds).1)
  where
    other : Among 1 (0 ∷ []) → ⊥
    other (inl e) = omega (arith, e)
    other (inr h) = h

    by_pin : (a : ℕ) → Among a (0 ∷ 2 ∷ []) → ((c : Cell) → slice_get latch.cells a ≡ Some c → IsRegister c.gate → ⊥) → Contains (0 ∷ []) a
    by_pin a (inl e) free = contains (0 ∷ []) a 0 e (inl refl)
    by_pin a (inr (inl e)) free = absurd (free (bit (Reg 1)) (ap (slice_get latch.cells) e) (1, refl))
    by_pin a (inr (inr h)) free = absurd h

register_due : (before : List ℕ) (b : ℕ) → b < 4 → (Among b before → ⊥) → Among 1 before → slice_get latch.cells b ≡ Some (bit (Reg 1)) → IsDue latch.cells before b
register_due before b low new has there = (low, not_before before b new, λ a feeds. by_pin a (pins_of a b (bit (Reg 1)) there feeds).0)
  where
    by_pin : (a : ℕ) → Among a (1 ∷ []) → Contains before a
    by_pin a (inl e) = contains before a 1 e has
    by_pin a (inr h) = absurd h

in_schedule : IsSchedule latch.cells in_turn
in_schedule = record {
  due = four (λ i b. IsDue latch.cells (take i in_turn) b) 0 1 2 3 first_due gate_due
      (register_due (0 ∷ 1 ∷ []) 2 (omega arith) two (inr (inl refl)) refl)
      (register_due (0 ∷ 1 ∷ 2 ∷ []) 3 (omega arith) three (inr (inl refl)) refl);
  all = each;
}
  where
    two : Among 2 (0 ∷ 1 ∷ []) → ⊥
    two (inl e) = omega (arith, e)
    two (inr (inl e)) = omega (arith, e)
    two (inr (inr h)) = h

    three : Among 3 (0 ∷ 1 ∷ 2 ∷ []) → ⊥
    three (inl e) = omega (arith, e)
    three (inr (inl e)) = omega (arith, e)
    three (inr (inr (inl e))) = omega (arith, e)
    three (inr (inr (inr h))) = h

    each : (n : ℕ) → n < 4 → Contains in_turn n
    each zero low = (0, omega arith, refl)
    each (suc zero) low = (1, omega arith, refl)
    each (suc (suc zero)) low = (2, omega arith, refl)
    each (suc (suc (suc zero))) low = (3, omega arith, refl)
    each (suc (suc (suc (suc n)))) low = absurd (omega (arith, low))

latch_accepted : IsAccepted latch
latch_accepted = record {
  nets = of_cells (λ _ c. PinsExist 4 c) tt (omega arith, (omega arith, tt)) (omega arith, tt) (omega arith, tt);
  widths = of_cells (λ _ c. HasRightWidths (widths_of latch.cells) c) (omega arith, omega arith, tt) (omega arith, omega arith, (refl, refl)) (omega arith, omega arith, refl) (omega arith, omega arith, refl);
  ports = record { some = omega arith; each = right; inputs = λ n (c, there, gate, missing). missing (0, omega arith, sym (alone n c there gate)) };
  acyclic = scheduled_is_acyclic latch.cells in_turn in_schedule;
}

-- It is lowered by level.

abbrev by_level : List ℕ
by_level = 0 ∷ 2 ∷ 3 ∷ 1 ∷ []

abbrev levels : Numbers
levels = 0 ∷ 1 ∷ 0 ∷ 0 ∷ []

reordered : IsPermutation (numbers_from 0 4) by_level
reordered = record { moves = (2, 3) ∷ (1, 2) ∷ []; below = (omega arith, omega arith, (omega arith, omega arith, tt)); is = refl }

is_ordered : IsOrdered levels by_level
is_ordered = record { rising = rising; numbers = numbers }
  where
    rising : (i j : ℕ) → i ≤ j → j < 4 → at levels (get_or by_level i 0) ≤ at levels (get_or by_level j 0)
    rising zero j le low = omega arith
    rising (suc zero) j le low = omega arith
    rising (suc (suc zero)) j le low = omega arith
    rising (suc (suc (suc zero))) j le low = let e : 3 ≡ j = omega (arith, le, low) in let P : ℕ → Type 0 = λ k. 1 ≤ at levels (get_or by_level k 0) in subst P e (omega arith)
    rising (suc (suc (suc (suc i)))) j le low = absurd (omega (arith, le, low))

    numbers : (k : ℕ) → k + 1 < 4 → at levels (get_or by_level k 0) ≡ at levels (get_or by_level (k + 1) 0) → get_or by_level k 0 ≤ get_or by_level (k + 1) 0
    numbers zero low same = omega arith
    numbers (suc zero) low same = omega arith
    numbers (suc (suc zero)) low same = absurd (omega (arith, same))
    numbers (suc (suc (suc k))) low same = absurd (omega (arith, low))

pub latch_is_lowered : LatchIsLowered
latch_is_lowered =
    let same : circuit_of latch by_level ≡ keeper = refl in
    subst (IsLowered latch) same (is_lowered latch latch_accepted levels latch_has_levels by_level reordered is_ordered (omega arith))

-- Its run, and that it is lowered to no others.
settles : (regs ins v : Numbers) → length v ≡ 4 → at v 0 ≡ at ins 0 → at v 1 ≡ shown 1 (Or 0 2) (at regs 1) (at ins 1) (at v) → at v 2 ≡ at regs 2 → at v 3 ≡ at regs 3 → Settling latch.cells regs ins v
settles regs ins v size first second third fourth = (size, of_cells (λ n c. at v n ≡ shown c.width c.gate (at regs n) (at ins n) (at v)) first second third fourth)

runs : IsRun latch.cells latch_inputs latch_values
runs = (
  settles (0 ∷ 0 ∷ 0 ∷ 0 ∷ []) (1 ∷ []) (1 ∷ 1 ∷ 0 ∷ 0 ∷ []) refl refl refl refl refl,
  (settles (0 ∷ 0 ∷ 1 ∷ 1 ∷ []) (0 ∷ []) (0 ∷ 1 ∷ 1 ∷ 1 ∷ []) refl refl refl refl refl, (settles (0 ∷ 0 ∷ 1 ∷ 1 ∷ []) (0 ∷ []) (0 ∷ 1 ∷ 1 ∷ 1 ∷ []) refl refl refl refl refl, refl)),
)

inputs_low : (ins : Numbers) → at ins 0 < 2 → AreInputs latch.cells ins
inputs_low ins first = of_cells (λ n c. c.gate ≡ Input → at ins n < 2 ^ c.width) (λ e. first) (λ e. absurd (cc e)) (λ e. absurd (cc e)) (λ e. absurd (cc e))

pub turned_is_not_lowered : TurnedIsNotLowered
turned_is_not_lowered = (
  λ lowered. let out = (lowered.runs latch_inputs latch_values narrow runs).outputs in absurd (cc out),
  λ lowered. let out = (lowered.runs latch_inputs latch_values narrow runs).outputs in absurd (cc out),
)
  where
    narrow : AllByRecursion (AreInputs latch.cells) latch_inputs
    narrow = (inputs_low (1 ∷ []) (omega arith), (inputs_low (0 ∷ []) (omega arith), (inputs_low (0 ∷ []) (omega arith), tt)))

pub lacking_is_not_lowered : LackingIsNotLowered
lacking_is_not_lowered lowered = let e : 1 ≡ 2 = lowered.latches in omega (arith, e)

pub latch_is_small : LatchIsSmall
latch_is_small = (refl, λ fault. omega (arith, fault.0))
