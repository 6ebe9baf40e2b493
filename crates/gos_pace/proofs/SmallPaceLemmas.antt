-- The circuit of `skip` keeps pace with it.
--
-- Its register tells where the program is: 1 where it runs, 0 where it is idle. Each cycle makes the moves of its
-- pulses, done before run.
use Rattle.std.specs.Prelude.{◌≡◌, ◌≢◌, ℕ, zero, suc, ◌+◌, ◌<◌, ◌≤◌, not, IsTrue, ◌⊎◌, List, [], ◌∷◌, ◌++◌, length, filter, nat_eq, if◌then◌else◌, Some, slice_get}
use Rattle.std.proofs.Common.{arith, refl, sym, ap, subst, inl, inr, ◌∙◌}
use Rattle.gos_model.specs.Terms.{Skip}
use Rattle.gos_model.specs.Labels.{Label, given, is_output}
use Rattle.gos_model.specs.Moves.{Config, Idle, Running, Act, Showing, Moves, labels, Stalled}
use Rattle.gos_netlist.specs.Nets.{Input, Reg}
use Rattle.gos_netlist.specs.Settling.{Numbers, at, next_registers, RunFrom}
use Rattle.gos_pace.specs.Flattening.{if_pulse, AnyOrder, Flattening}
use Rattle.gos_pace.specs.RunProtocol.{InputsInRange}
use Rattle.gos_pace.specs.Pace.{Turn, Follows, config_after}
use Rattle.gos_model.specs.Weight.{pace}
use Rattle.gos_netlist.specs.SmallNets.{bit}
use Rattle.gos_pace.specs.SmallPace.{skip, skip_circuit, SkipKeepsPace}

abbrev run : Label
run = given 0 0

abbrev done : Label
done = given 1 0

-- the pulses of a cycle in which the input is a and the register b
abbrev all_pulses : ℕ → ℕ → List Label
all_pulses a b = (if_pulse a run ++ (if_pulse b done ++ [])) ++ []

-- the moves of that cycle
abbrev acts_of : ℕ → ℕ → List Act
acts_of a b = (if nat_eq b 1 then Showing done ∷ [] else []) ++ (if nat_eq a 1 then Showing run ∷ [] else [])

-- where the program is, by the register
abbrev config_of : ℕ → Config
config_of b = if nat_eq b 1 then Running Skip [] else Idle

moves : (a b : ℕ) → a < 2 → b < 2 → Moves skip (acts_of a b) (config_of b) (config_of a)
moves zero zero l k = refl
moves zero (suc zero) l k = (Idle, (0, Skip, refl, inl (refl, refl)), refl)
moves (suc zero) zero l k = (Running Skip [], (refl, refl), refl)
moves (suc zero) (suc zero) l k = (Idle, (0, Skip, refl, inl (refl, refl)), (Running Skip [], (refl, refl), refl))
moves (suc (suc a)) b l k = absurd (omega (arith, l))
moves a (suc (suc b)) l k = absurd (omega (arith, k))

-- an idle cycle, or one with a move
lively : (a b : ℕ) → b < 2 → (config_of b ≡ Idle) ⊎ (acts_of a b ≢ [])
lively a zero k = inl refl
lively a (suc zero) k = inr (λ e. cc)
lively a (suc (suc b)) k = absurd (omega (arith, k))

pub only_order : (x : Label) (ys : List Label) → AnyOrder (x ∷ []) ys → ys ≡ x ∷ []
only_order x ys ([], after, e, none) = e ∙ ap (λ zs. x ∷ zs) none
only_order x ys (b ∷ before, after, e, none) = absurd cc

-- the moves have the labels of each flattening
shows : (a b : ℕ) (out inp : List Label) → a < 2 → b < 2 → AnyOrder (filter is_output (all_pulses a b)) out
    → AnyOrder (filter (λ l. not (is_output l)) (all_pulses a b)) inp → labels (acts_of a b) ≡ out ++ inp
shows zero zero out inp l k o i = λ j. sym o j ++ sym i j
shows zero (suc zero) out inp l k o i = λ j. sym (only_order done out o) j ++ sym i j
shows (suc zero) zero out inp l k o i = λ j. sym o j ++ sym (only_order run inp i) j
shows (suc zero) (suc zero) out inp l k o i = λ j. sym (only_order done out o) j ++ sym (only_order run inp i) j
shows (suc (suc a)) b out inp l k o i = absurd (omega (arith, l))
shows a (suc (suc b)) out inp l k o i = absurd (omega (arith, k))

-- each cycle begins idle or has a move
abbrev Lively : Config → List Turn → Type 0
Lively c [] = Unit {0}
Lively c (t ∷ ts) = ((c ≡ Idle) ⊎ (t.acts ≢ [])) × Lively t.config ts

follows : (ins vs : List Numbers) (regs : Numbers) (parts : List (List Label)) → at regs 1 < 2 → InputsInRange skip_circuit ins
    → RunFrom skip_circuit.cells regs ins vs → Flattening skip_circuit vs parts
    → (ts : List Turn) × Follows skip (config_of (at regs 1)) parts ts × Lively (config_of (at regs 1)) ts
follows [] [] regs [] k range r fl = ([], tt, tt)
follows [] [] regs (part ∷ parts) k range r fl = absurd fl
follows [] (v ∷ vs) regs parts k range r fl = absurd cc
follows (i ∷ ins) [] regs parts k range r fl = absurd r
follows (i ∷ ins) (v ∷ vs) regs [] k range r fl = absurd fl
follows (i ∷ ins) (v ∷ vs) regs (part ∷ parts) k range r ((out, inp, o, n, e), fl) =
    let input = r.0.1 0 (bit Input) refl in
    let register = r.0.1 1 (bit (Reg 0)) refl in
    let small : at v 0 < 2 = subst (λ (m : ℕ). m < 2) (sym input) (range.0 0 (bit Input) refl refl) in
    let held : at v 1 < 2 = subst (λ (m : ℕ). m < 2) (sym register) k in
    let (ts, rest, alive) = follows ins vs (next_registers skip_circuit.cells v) parts small range.1 r.1 fl in (
      record { acts = acts_of (at v 0) (at v 1); config = config_of (at v 0) } ∷ ts,
      (
        subst (λ (b : ℕ). Moves skip (acts_of (at v 0) (at v 1)) (config_of b) (config_of (at v 0))) register (moves (at v 0) (at v 1) small held),
        shows (at v 0) (at v 1) out inp small held o n ∙ sym e,
        rest,
      ),
      (subst (λ (b : ℕ). (config_of b ≡ Idle) ⊎ (acts_of (at v 0) (at v 1) ≢ [])) register (lively (at v 0) (at v 1) held), alive),
    )

-- in Idle the program can only wait
idle_is_stalled : Stalled skip Idle
idle_is_stalled = (λ d (e, _). cc, λ o d out (e, _). not_output o out e)
  where
    not_output : (o : Label) → IsTrue (is_output o) → Showing o ≡ Showing run → ⊥
    not_output o out e = let same : o ≡ run = cc in grind (arith, same, out)

paced : (c : Config) (ts : List Turn) (k i : ℕ) → 0 < k → Lively c ts → i + k ≤ length ts
    → (config_after c ts i ≡ Idle) ⊎ ((t : Turn) × (slice_get ts i ≡ Some t) × (t.acts ≢ []))
paced c [] k i some alive l = absurd (omega (arith, l, some))
paced c (t ∷ ts) k zero some (inl e, alive) l = inl e
paced c (t ∷ ts) k zero some (inr h, alive) l = inr (t, refl, h)
paced c (t ∷ ts) k (suc i) some alive l = paced t.config ts k i some alive.1 (omega (arith, l))

pub skip_keeps_pace : SkipKeepsPace
skip_keeps_pace ins vs range r keeps parts fl =
    let (ts, rest, alive) = follows ins vs (0 ∷ 0 ∷ []) parts (omega arith) range r fl in
    (ts, rest, λ i l. within ts i (paced Idle ts (pace 5) i (omega arith) alive l))
  where
    within : (ts : List Turn) (i : ℕ) → (config_after Idle ts i ≡ Idle) ⊎ ((t : Turn) × (slice_get ts i ≡ Some t) × (t.acts ≢ []))
        → Stalled skip (config_after Idle ts i) ⊎ ((j : ℕ) × (t : Turn) × (i ≤ j) × (j < i + pace 5) × (slice_get ts j ≡ Some t) × (t.acts ≢ []))
    within ts i (inl e) = inl (subst (Stalled skip) (sym e) idle_is_stalled)
    within ts i (inr (t, there, h)) = inr (i, t, omega arith, omega arith, there, h)
