-- A run of others is, through a map of nets, a run of the cells that are mapped to them.
--
-- Read first: Mapped; Settling of gos_netlist; MappedLemmas, NarrowLemmas.
use Rattle.std.proofs.Common.{◌≡◌, ◌^◌, ◌<◌, ℕ, zero, suc, List, [], ◌∷◌, length, map, replicate, slice_get, Some, Contains, refl, sym, ap, subst, ◌∙◌, arith}
use Rattle.std.proofs.lemmas.Option.{slice_get_within}
use Rattle.gos_netlist.specs.Nets.{Function, Input, Const, Not, And, Or, Xor, Mux, Add, Sub, Eq, Less, Gate, Reg, Cell, pins}
use Rattle.gos_netlist.specs.Settling.{Numbers, at, shown, next_of, next_registers, Settling, RunFrom, IsRun}
use Rattle.gos_netlist.specs.Cycles.{IsRegister, HasCycle}
use Rattle.gos_netlist.proofs.SettlingLemmas.{acyclic_settles, acyclic_settles_once, same_shown}
use Rattle.gos_netcheck.specs.CellRules.{width_at, widths_of, NetsExist, WidthsFit}
use Rattle.gos_tidy.specs.Mapped.{renamed, Mapped}
use Rattle.gos_tidy.specs.Reduced.{HasWidth}
use Rattle.gos_tidy.proofs.MappedLemmas.{pulled_back}
use Rattle.gos_tidy.proofs.NarrowLemmas.{AreNarrow, GivesNarrow, of_width, width_is, values_are_narrow, next_at, next_are_narrow, zeros_are_narrow, at_zeros}
use Rattle.gos_tidy.proofs.RenamedLemmas.{each_of}
use Rattle.gos_tidy.proofs.QuotientLemmas.{register_kept}

-- what a function gives for each number below a count
abbrev pub drawn : (ℕ → ℕ) → ℕ → List ℕ
drawn h zero = []
drawn h (suc k) = h 0 ∷ drawn (λ n. h (suc n)) k

pub at_drawn : (h : ℕ → ℕ) (k n : ℕ) → n < k → at (drawn h k) n ≡ h n
at_drawn h zero n low = absurd (omega (arith, low))
at_drawn h (suc k) zero low = refl
at_drawn h (suc k) (suc n) low = at_drawn (λ m. h (suc m)) k n (omega (arith, low))

pub length_drawn : (h : ℕ → ℕ) (k : ℕ) → length (drawn h k) ≡ k
length_drawn h zero = refl
length_drawn h (suc k) = ap suc (length_drawn (λ n. h (suc n)) k)

-- the values of these cells, where those of the others are known
abbrev pub through : List Cell → (ℕ → ℕ) → Numbers → Numbers
through cells f v = drawn (λ n. at v (f n)) (length cells)

-- cells are mapped to others, with their widths, and name nets that are there
pub record IsView (cells others : List Cell) (f : ℕ → ℕ) : Type 0 where
  pub mapped : Mapped cells others f
  pub widths : (n : ℕ) (c : Cell) → slice_get cells n ≡ Some c → HasWidth others (f n) c.width
  pub pins : NetsExist cells

-- the inputs of a cycle are those of the others, and so in each cycle
abbrev pub GivesSame : List Cell → (ℕ → ℕ) → Numbers → Numbers → Type 0
GivesSame cells f i j = (n : ℕ) (c : Cell) → slice_get cells n ≡ Some c → c.gate ≡ Input → at i n ≡ at j (f n)

abbrev pub GiveSame : List Cell → (ℕ → ℕ) → List Numbers → List Numbers → Type 0
GiveSame cells f [] [] = Unit {0}
GiveSame cells f [] (j ∷ js) = ⊥
GiveSame cells f (i ∷ is) [] = ⊥
GiveSame cells f (i ∷ is) (j ∷ js) = GivesSame cells f i j × GiveSame cells f is js

-- and registers hold what theirs do
abbrev pub HoldsSame : List Cell → (ℕ → ℕ) → Numbers → Numbers → Type 0
HoldsSame cells f regs held = (n : ℕ) (c : Cell) → slice_get cells n ≡ Some c → IsRegister c.gate → at regs n ≡ at held (f n)

-- the inputs of all cycles are in range
abbrev pub GiveNarrow : List Cell → List Numbers → Type 0
GiveNarrow cells [] = Unit {0}
GiveNarrow cells (i ∷ is) = GivesNarrow cells i × GiveNarrow cells is

shown_same : (w r s i j : ℕ) (g : Function) (v h : ℕ → ℕ) → (IsRegister g → r ≡ s) → (g ≡ Input → i ≡ j) → ((a : ℕ) → Contains (pins g) a → v a ≡ h a)
    → shown w g r i v ≡ shown w g s j h
shown_same w r s i j Input v h held given same = given refl
shown_same w r s i j (Const k) v h held given same = refl
shown_same w r s i j (Not a) v h held given same = same_shown w r i (Not a) v h same
shown_same w r s i j (And a b) v h held given same = same_shown w r i (And a b) v h same
shown_same w r s i j (Or a b) v h held given same = same_shown w r i (Or a b) v h same
shown_same w r s i j (Xor a b) v h held given same = same_shown w r i (Xor a b) v h same
shown_same w r s i j (Mux x a b) v h held given same = same_shown w r i (Mux x a b) v h same
shown_same w r s i j (Add a b) v h held given same = same_shown w r i (Add a b) v h same
shown_same w r s i j (Sub a b) v h held given same = same_shown w r i (Sub a b) v h same
shown_same w r s i j (Eq a b) v h held given same = same_shown w r i (Eq a b) v h same
shown_same w r s i j (Less a b) v h held given same = same_shown w r i (Less a b) v h same
shown_same w r s i j (Gate x a) v h held given same = same_shown w r i (Gate x a) v h same
shown_same w r s i j (Reg a) v h held given same = held (a, refl)

-- at reset all registers hold the same
pub zeros_hold : (cells : List Cell) (f : ℕ → ℕ) (k m : ℕ) → HoldsSame cells f (replicate k 0) (replicate m 0)
zeros_hold cells f k m n c there is = at_zeros k n ∙ sym (at_zeros m (f n))

module _ (cells others : List Cell) (f : ℕ → ℕ) (view : IsView cells others f) (acyclic : HasCycle others → ⊥) (fits : WidthsFit others) where
  pin_there : (n a : ℕ) (c : Cell) → slice_get cells n ≡ Some c → Contains (pins c.gate) a → a < length cells
  pin_there n a c there pin = each_of (λ (m : ℕ). m < length cells) (pins c.gate) a (view.pins n c there) pin

  settling_through : (regs held i j v : Numbers) → Settling others held j v → AreNarrow (widths_of others) (at v) → HoldsSame cells f regs held
      → GivesSame cells f i j → Settling cells regs i (through cells f v)
  settling_through regs held i j v settles narrow holds gives = (length_drawn (λ n. at v (f n)) (length cells), each)
    where
      low_at : (n : ℕ) (c : Cell) → slice_get cells n ≡ Some c → at v (f n) < 2 ^ c.width
      low_at n c there =
          let (e, is, same) = view.widths n c there in
          of_width (at v (f n)) (width_at (widths_of others) (f n)) c.width (narrow (f n)) (width_is others (f n) e is ∙ same)

      each : (n : ℕ) (c : Cell) → slice_get cells n ≡ Some c → at (through cells f v) n ≡ shown c.width c.gate (at regs n) (at i n) (at (through cells f v))
      each n c there =
          at_drawn (λ m. at v (f m)) (length cells) n (slice_get_within cells n c there)
          ∙ (pulled_back cells others f held j v view.mapped settles low_at n c there
          ∙ shown_same c.width (at held (f n)) (at regs n) (at j (f n)) (at i n) c.gate (λ a. at v (f a)) (at (through cells f v))
          (λ is. sym (holds n c there is)) (λ is. sym (gives n c there is))
          (λ a pin. sym (at_drawn (λ m. at v (f m)) (length cells) a (pin_there n a c there pin))))

  holds_next : (v : Numbers) → HoldsSame cells f (next_registers cells (through cells f v)) (next_registers others v)
  holds_next v n c there (a, is) =
      let kept = register_kept others f n c (a, is) (view.mapped n c there) in
      let pin : Contains (pins c.gate) a = subst (λ (g : Function). Contains (pins g) a) (sym is) (0, omega arith, refl) in
      next_at cells (through cells f v) n c there
      ∙ (ap (λ (g : Function). next_of g (through cells f v)) is
      ∙ (at_drawn (λ m. at v (f m)) (length cells) a (pin_there n a c there pin)
      ∙ (sym (ap (λ (g : Function). next_of (renamed f g) v) is)
      ∙ sym (next_at others v (f n) (record { width = c.width; gate = renamed f c.gate }) kept))))

  pub run_through : (regs held : Numbers) (ins js vs : List Numbers) → HoldsSame cells f regs held → AreNarrow (widths_of others) (at held)
      → GiveNarrow others js → GiveSame cells f ins js → RunFrom others held js vs → RunFrom cells regs ins (map (through cells f) vs)
  run_through regs held [] [] vs holds low narrow gives run = ap (map (through cells f)) run
  run_through regs held [] (j ∷ js) vs holds low narrow gives run = absurd gives
  run_through regs held (i ∷ ins) [] vs holds low narrow gives run = absurd gives
  run_through regs held (i ∷ ins) (j ∷ js) [] holds low narrow gives run = run
  run_through regs held (i ∷ ins) (j ∷ js) (v ∷ vs) holds low narrow gives run =
      let here = values_are_narrow others acyclic fits held j v run.0 low narrow.0 in (
        settling_through regs held i j v run.0 here holds gives.0,
        run_through (next_registers cells (through cells f v)) (next_registers others v) ins js vs (holds_next v) (next_are_narrow others v fits here)
            narrow.1 gives.1 run.1,
      )

  -- from reset
  pub reset_through : (ins js vs : List Numbers) → GiveNarrow others js → GiveSame cells f ins js → IsRun others js vs → IsRun cells ins (map (through cells f) vs)
  reset_through ins js vs narrow gives run =
      run_through (replicate (length cells) 0) (replicate (length others) 0) ins js vs (zeros_hold cells f (length cells) (length others))
      (zeros_are_narrow (widths_of others) (length others)) narrow gives run

-- without a combinational cycle there is a run, and one alone
pub some_run : (cells : List Cell) → (HasCycle cells → ⊥) → (regs : Numbers) (ins : List Numbers) → (vs : List Numbers) × RunFrom cells regs ins vs
some_run cells acyclic regs [] = ([], refl)
some_run cells acyclic regs (i ∷ ins) =
    let (v, settles) = acyclic_settles cells regs i acyclic in
    let (vs, run) = some_run cells acyclic (next_registers cells v) ins in
    (v ∷ vs, (settles, run))

pub one_run : (cells : List Cell) → (HasCycle cells → ⊥) → (regs : Numbers) (ins vs ws : List Numbers) → RunFrom cells regs ins vs → RunFrom cells regs ins ws → vs ≡ ws
one_run cells acyclic regs [] vs ws run other = run ∙ sym other
one_run cells acyclic regs (i ∷ ins) [] ws run other = absurd run
one_run cells acyclic regs (i ∷ ins) (v ∷ vs) [] run other = absurd other
one_run cells acyclic regs (i ∷ ins) (v ∷ vs) (w ∷ ws) run other =
    let first : v ≡ w = acyclic_settles_once cells regs i v w acyclic run.0 other.0 in
    let rest = one_run cells acyclic (next_registers cells v) ins vs ws run.1
    (subst (λ (x : Numbers). RunFrom cells (next_registers cells x) ins ws) (sym first) other.1) in
    (λ k. first k ∷ rest k)
