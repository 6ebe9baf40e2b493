-- The latches of cells, made in an order of all cells.
use Rattle.std.specs.Prelude.{◌≡◌, ℕ, ◌+◌, ◌≤◌, if◌then◌else◌, ◌⊎◌, List, [], ◌∷◌, ◌++◌, length, map, take, All, Contains, Some, get_or, slice_get}
use Rattle.std.proofs.Common.{arith, sym, ap, subst, inl, inr, ◌∙◌}
use Rattle.std.proofs.lemmas.List.{append-nil, length-append, length-map, take_all}
use Rattle.std.proofs.lemmas.List.Elements.{All-push, All-nil, All-cons, Contains-push, Contains-append_left, Contains-push_cases}
use Rattle.std.proofs.lemmas.Option.{get_or_from_slice_get, slice_get_within}
use Rattle.gos_netlist.specs.declared.nets.Cell as declared
use Rattle.gos_netlist.specs.Nets.{Function, Input, Const, Not, And, Or, Xor, Mux, Add, Sub, Eq, Less, Gate, Reg, Cell}
use Rattle.gos_netlist.specs.Cycles.{IsRegister}
use Rattle.gos_netlist.specs.Settling.{Numbers, next_of}
use Rattle.gos_netlist.specs.Seen.{cell_of, function_of}
use Rattle.gos_sim.specs.declared.program.Latch.{Latch}
use Rattle.gos_sim.specs.declared.program.Step.{Step}
use Rattle.gos_sim.specs.inner.Order.{IsOrder}
use Rattle.gos_sim.specs.inner.Program.{IsLatchOf, IsLatchWithin, HasLatch, AreLatches, is_source, latches_at, no_cell, steps_at, steps_named}
use Rattle.gos_sim.specs.inner.Ready.{AreCellsReady, IsCellWithin}
use Rattle.gos_sim.proofs.PlaceLemmas.{same_element}
use Rattle.gos_sim.proofs.SourceLemmas.{register_or_not}
use Rattle.gos_sim.proofs.ProgramLemmas.{cell_at, steps_named_more, take_one}

-- the latches that are made of the nets that came before
pub record AreMade (cells : List Cell) (before : List ℕ) (latches : List Latch) : Type 0 where
  pub sound : All (IsLatchOf cells) latches
  pub whole : (n a : ℕ) (c : Cell) → Contains before n → slice_get cells n ≡ Some c → c.gate ≡ Reg a → HasLatch latches n

-- a cell that is no register comes
made_other : (cells : List Cell) (before : List ℕ) (latches : List Latch) (n : ℕ) (c : Cell) → slice_get cells n ≡ Some c → (IsRegister c.gate → ⊥)
    → AreMade cells before latches → AreMade cells (before ++ n ∷ []) latches
made_other cells before latches n c is other made =
    record {
      sound = made.sound;
      whole = λ m a d came at_m register. at_net m a d at_m register (Contains-push_cases before n m came);
    }
  where
    at_net : (m a : ℕ) (d : Cell) → slice_get cells m ≡ Some d → d.gate ≡ Reg a → Contains before m ⊎ (n ≡ m) → HasLatch latches m
    at_net m a d at_m register (inl came) = made.whole m a d came at_m register
    at_net m a d at_m register (inr same) =
        let one : c ≡ d = same_element cells m c d (subst (λ (k : ℕ). slice_get cells k ≡ Some c) same is) at_m in
        absurd (other (subst (λ (e : Cell). IsRegister e.gate) (sym one) (a, register)))

-- a register comes
made_register : (cells : List Cell) (before : List ℕ) (latches : List Latch) (l : Latch) → IsLatchOf cells l
    → AreMade cells before latches → AreMade cells (before ++ l.net ∷ []) (latches ++ l ∷ [])
made_register cells before latches l is made =
    record {
      sound = All-push (IsLatchOf cells) latches l made.sound is;
      whole = λ m a d came at_m register. at_net m a d at_m register (Contains-push_cases before l.net m came);
    }
  where
    at_net : (m a : ℕ) (d : Cell) → slice_get cells m ≡ Some d → d.gate ≡ Reg a → Contains before m ⊎ (l.net ≡ m) → HasLatch (latches ++ l ∷ []) m
    at_net m a d at_m register (inl came) =
        let (k, has, e) = made.whole m a d came at_m register in
        (k, Contains-append_left latches (l ∷ []) k has, e)
    at_net m a d at_m register (inr same) = (l, Contains-push latches l, same)

-- one net more of the order
pub made_more : (cells : List declared.Cell) (order : List ℕ) (latches : List Latch) (i n : ℕ) (c : declared.Cell)
    → slice_get order i ≡ Some n → slice_get cells n ≡ Some c
    → AreMade (map cell_of cells) (take i order) latches → AreMade (map cell_of cells) (take (i + 1) order) (latches ++ latches_at n (function_of c.gate))
made_more cells order latches i n c at_i at_n made =
    subst (λ (before : List ℕ). AreMade (map cell_of cells) before (latches ++ latches_at n (function_of c.gate))) (sym (take_one order i n at_i))
    (by_cell (function_of c.gate) (cell_at cells n c at_n) (register_or_not (function_of c.gate)))
  where
    by_cell : (f : Function) → slice_get (map cell_of cells) n ≡ Some (record { width = c.width; gate = f })
        → IsRegister f ⊎ ((IsRegister f → ⊥) × ((v : Numbers) → next_of f v ≡ 0) × ((n : ℕ) → latches_at n f ≡ []))
        → AreMade (map cell_of cells) (take i order ++ n ∷ []) (latches ++ latches_at n f)
    by_cell f is (inl (a, e)) =
        subst (λ (g : Function). AreMade (map cell_of cells) (take i order ++ n ∷ []) (latches ++ latches_at n g)) (sym e)
        (made_register (map cell_of cells) (take i order) latches (record { net = n; pin = a })
        (c.width, subst (λ (g : Function). slice_get (map cell_of cells) n ≡ Some (record { width = c.width; gate = g })) e is) made)
    by_cell f is (inr other) =
        subst (λ (more : List Latch). AreMade (map cell_of cells) (take i order ++ n ∷ []) (latches ++ more)) (sym (other.2 n))
        (subst (λ (more : List Latch). AreMade (map cell_of cells) (take i order ++ n ∷ []) more) (sym (append-nil latches))
        (made_other (map cell_of cells) (take i order) latches n (record { width = c.width; gate = f }) is other.0 made))

-- all has come
pub latches_of_made : (cells : List Cell) (order : List ℕ) (latches : List Latch) (i : ℕ) → IsOrder cells order → length order ≤ i
    → AreMade cells (take i order) latches → AreLatches cells latches
latches_of_made cells order latches i is_order end made =
    record {
      sound = made.sound;
      whole = λ n a c is register. made.whole n a c (subst (λ (ns : List ℕ). Contains ns n) (sym (take_all i order end)) (is_order.all n (slice_get_within cells n c is))) is register;
    }

-- a latch of a cell that is ready is within
pub latches_at_within : (cells : List declared.Cell) (n : ℕ) (c : declared.Cell) → AreCellsReady (map cell_of cells) → slice_get cells n ≡ Some c
    → All (IsLatchWithin (length cells)) (latches_at n (function_of c.gate))
latches_at_within cells n c ready at_n = by_cell (function_of c.gate) cell (register_or_not (function_of c.gate))
  where
    cell : IsCellWithin (length cells) (cell_of c)
    cell = subst (λ (m : ℕ). IsCellWithin m (cell_of c)) (length-map cells cell_of) (ready n (cell_of c) (cell_at cells n c at_n))

    by_cell : (f : Function) → IsCellWithin (length cells) (record { width = c.width; gate = f })
        → IsRegister f ⊎ ((IsRegister f → ⊥) × ((v : Numbers) → next_of f v ≡ 0) × ((n : ℕ) → latches_at n f ≡ []))
        → All (IsLatchWithin (length cells)) (latches_at n f)
    by_cell f is (inl (a, e)) =
        let register : IsCellWithin (length cells) (record { width = c.width; gate = Reg a }) =
        subst (λ (g : Function). IsCellWithin (length cells) (record { width = c.width; gate = g })) e is in
        subst (λ (g : Function). All (IsLatchWithin (length cells)) (latches_at n g)) (sym e)
        (All-cons (IsLatchWithin (length cells)) (record { net = n; pin = a }) []
        (record { net = slice_get_within cells n c at_n; pin = register.pins 0 0 (omega arith) }) (All-nil (IsLatchWithin (length cells))))
    by_cell f is (inr other) = subst (λ (ls : List Latch). All (IsLatchWithin (length cells)) ls) (sym (other.2 n)) (All-nil (IsLatchWithin (length cells)))

-- a cell is a step or a latch, or neither
one_of_cell : (f : Function) (n : ℕ) (s : Step) → length (if is_source f then [] else s ∷ []) + length (latches_at n f) ≤ 1
one_of_cell Input n s = omega arith
one_of_cell (Const k) n s = omega arith
one_of_cell (Not a) n s = omega arith
one_of_cell (And a b) n s = omega arith
one_of_cell (Or a b) n s = omega arith
one_of_cell (Xor a b) n s = omega arith
one_of_cell (Mux t a b) n s = omega arith
one_of_cell (Add a b) n s = omega arith
one_of_cell (Sub a b) n s = omega arith
one_of_cell (Eq a b) n s = omega arith
one_of_cell (Less a b) n s = omega arith
one_of_cell (Gate t a) n s = omega arith
one_of_cell (Reg a) n s = omega arith

-- so nets have no more steps and latches than they are
pub counted_more : (cells : List declared.Cell) (order : List ℕ) (latches : List Latch) (i n : ℕ) (c : declared.Cell)
    → slice_get order i ≡ Some n → slice_get cells n ≡ Some c → length (steps_named cells (take i order)) + length latches ≤ i
    → length (steps_named cells (take (i + 1) order)) + length (latches ++ latches_at n (function_of c.gate)) ≤ i + 1
counted_more cells order latches i n c at_i at_n few =
    let before : List Step = steps_named cells (take i order) in
    let is : get_or cells n no_cell ≡ c = get_or_from_slice_get cells n c no_cell at_n in
    let more : length (steps_named cells (take (i + 1) order)) ≡ length before + length (steps_at n c) =
    ap (λ (ns : List ℕ). length (steps_named cells ns)) (take_one order i n at_i)
    ∙ (ap length (steps_named_more cells (take i order) n)
    ∙ (length-append before (steps_at n (get_or cells n no_cell)) ∙ ap (λ (d : declared.Cell). length before + length (steps_at n d)) is)) in
    let others = length-append latches (latches_at n (function_of c.gate)) in
    let one = one_of_cell (function_of c.gate) n (record { net = n; width = c.width; gate = c.gate }) in
    omega (arith, more, others, one, few)
