-- The registers of a netlist, by number, and the nets that they take over.
use Rattle.std.specs.Prelude.{◌≡◌, ℕ, zero, suc, ◌+◌, ◌<◌, ◌≤◌, Bool, true, false, List, [], ◌∷◌, ◌++◌, Some, slice_get, length, if◌then◌else◌}
use Rattle.std.specs.List.{AllByRecursion}
use Rattle.std.proofs.Common.{arith, refl, sym, ap, subst, inl, inr, ◌∙◌}
use Rattle.gos_netlist.specs.Nets.{Function, Reg, Cell, pins}
use Rattle.gos_netlist.specs.Nets as net
use Rattle.gos_gates.specs.Lowered.{is_register, registers_from}
use Rattle.gos_gates.specs.inner.Laying.{held_nets, register_pins}
use Rattle.gos_gates.specs.inner.Standing.{Among}
use Rattle.gos_gates.proofs.SourceLemmas.{NoTwice}

-- a register among cells, of which the first has number n
pub record IsRegisterAt (cells : List Cell) (n m : ℕ) : Type 0 where
  pub place : ℕ
  pub net : m ≡ n + place
  pub cell : Cell
  pub is : slice_get cells place ≡ Some cell
  pub pin : ℕ
  pub register : cell.gate ≡ Reg pin

later : (c : Cell) (cs : List Cell) (n m : ℕ) → IsRegisterAt cs (suc n) m → IsRegisterAt (c ∷ cs) n m
later c cs n m r = record { place = suc r.place; net = omega (arith, r.net); cell = r.cell; is = r.is; pin = r.pin; register = r.register }

pub register_at : (cells : List Cell) (n m : ℕ) → Among m (registers_from n cells) → IsRegisterAt cells n m
register_at [] n m h = absurd h
register_at (c ∷ cs) n m h = by_kind c.gate refl (λ more. later c cs n m (register_at cs (suc n) m more)) h
  where
    by_kind : (f : Function) → c.gate ≡ f → (Among m (registers_from (suc n) cs) → IsRegisterAt (c ∷ cs) n m)
        → Among m ((if is_register f then n ∷ [] else []) ++ registers_from (suc n) cs) → IsRegisterAt (c ∷ cs) n m
    by_kind (Reg a) e rest (inl same) = record { place = 0; net = omega (arith, same); cell = c; is = refl; pin = a; register = e }
    by_kind (Reg a) e rest (inr h) = rest h
    by_kind net.Input e rest h = rest h
    by_kind (net.Const k) e rest h = rest h
    by_kind (net.Not a) e rest h = rest h
    by_kind (net.And a b) e rest h = rest h
    by_kind (net.Or a b) e rest h = rest h
    by_kind (net.Xor a b) e rest h = rest h
    by_kind (net.Mux s a b) e rest h = rest h
    by_kind (net.Add a b) e rest h = rest h
    by_kind (net.Sub a b) e rest h = rest h
    by_kind (net.Eq a b) e rest h = rest h
    by_kind (net.Less a b) e rest h = rest h
    by_kind (net.Gate s a) e rest h = rest h

pub among_registers : (cells : List Cell) (n k : ℕ) (c : Cell) (a : ℕ) → slice_get cells k ≡ Some c → c.gate ≡ Reg a → Among (n + k) (registers_from n cells)
among_registers [] n k c a is e = absurd (cc)
among_registers (x ∷ cs) n zero c a is e =
    let same : x.gate ≡ Reg a = (let here : x ≡ c = cc in ap (λ (y : Cell). y.gate) here) ∙ e in
    let P : Function → Type 0 = λ f. Among (n + 0) ((if is_register f then n ∷ [] else []) ++ registers_from (suc n) cs) in
    let first : n + 0 ≡ n = omega arith in
    subst P (sym same) (inl first)
among_registers (x ∷ cs) n (suc k) c a is e =
    let shift : suc n + k ≡ n + suc k = omega arith in
    let P : ℕ → Type 0 = λ m. Among m (registers_from (suc n) cs) in
    by_kind (is_register x.gate) (subst P shift (among_registers cs (suc n) k c a is e))
  where
    by_kind : (b : Bool) → Among (n + suc k) (registers_from (suc n) cs) → Among (n + suc k) ((if b then n ∷ [] else []) ++ registers_from (suc n) cs)
    by_kind true h = inr h
    by_kind false h = h

pub registers_once : (cells : List Cell) (n : ℕ) → NoTwice (registers_from n cells)
registers_once [] n = tt
registers_once (c ∷ cs) n = by_kind (is_register c.gate) (registers_once cs (suc n))
  where
    by_kind : (b : Bool) → NoTwice (registers_from (suc n) cs) → NoTwice ((if b then n ∷ [] else []) ++ registers_from (suc n) cs)
    by_kind true rest = ((λ h. let r = register_at cs (suc n) n h in omega (arith, r.net)), rest)
    by_kind false rest = rest

pub registers_low : (count : ℕ) (cells : List Cell) (n : ℕ) → n + length cells ≤ count → AllByRecursion (λ m. m < count) (registers_from n cells)
registers_low count [] n le = tt
registers_low count (c ∷ cs) n le = by_kind (is_register c.gate) (registers_low count cs (suc n) (omega (arith, le)))
  where
    by_kind : (b : Bool) → AllByRecursion (λ m. m < count) (registers_from (suc n) cs) → AllByRecursion (λ m. m < count) ((if b then n ∷ [] else []) ++ registers_from (suc n) cs)
    by_kind true rest = (omega (arith, le), rest)
    by_kind false rest = rest

-- the nets that registers take over are nets
pub held_low : (count : ℕ) (cells : List Cell) → ((k : ℕ) (c : Cell) → slice_get cells k ≡ Some c → AllByRecursion (λ a. a < count) (pins c.gate)) → AllByRecursion (λ a. a < count) (held_nets cells)
held_low count [] exist = tt
held_low count (c ∷ cs) exist = by_kind c.gate (exist 0 c refl) (held_low count cs (λ k x is. exist (suc k) x is))
  where
    by_kind : (f : Function) → AllByRecursion (λ a. a < count) (pins f) → AllByRecursion (λ a. a < count) (held_nets cs) → AllByRecursion (λ a. a < count) (register_pins f ++ held_nets cs)
    by_kind (Reg a) pin rest = (pin.0, rest)
    by_kind net.Input pin rest = rest
    by_kind (net.Const k) pin rest = rest
    by_kind (net.Not a) pin rest = rest
    by_kind (net.And a b) pin rest = rest
    by_kind (net.Or a b) pin rest = rest
    by_kind (net.Xor a b) pin rest = rest
    by_kind (net.Mux s a b) pin rest = rest
    by_kind (net.Add a b) pin rest = rest
    by_kind (net.Sub a b) pin rest = rest
    by_kind (net.Eq a b) pin rest = rest
    by_kind (net.Less a b) pin rest = rest
    by_kind (net.Gate s a) pin rest = rest
