-- Cells that others are merged to keep widths and have no combinational cycle, where the others do.
--
-- Read first: Reduced; GroundLemmas. A fact of nets that a Not and a Xor hand on leads from each net back to a pin: a gate
-- that is kept has such a pin, and one that is short goes where a pin of its goes, or where a net of the pin's Not or Xor goes. So no net of the first cells goes
-- where such a fact holds. A ring makes one, and so does a constant that is too wide.
use Rattle.std.proofs.Common.{◌≡◌, ◌⊎◌, inl, inr, ◌^◌, ◌<◌, ◌≤◌, ℕ, zero, suc, List, [], ◌∷◌, length, get_or, slice_get, Option, Some, Contains, refl, sym, ap, subst, ◌∙◌, arith, pow_pos}
use Rattle.std.proofs.lemmas.Option.{slice_get_within, slice_get_cases}
use Rattle.gos_types.specs.declared.widths.TheConstants.{GREATEST_WIDTH}
use Rattle.gos_netlist.specs.Nets.{Function, Input, Const, Not, And, Or, Xor, Mux, Add, Sub, Eq, Less, Gate, Reg, Cell, pins}
use Rattle.gos_netlist.specs.Settling.{shown}
use Rattle.gos_netlist.specs.Cycles.{IsRegister, Feeds, Chain, HasCycle}
use Rattle.gos_netcheck.specs.CellRules.{width_at, widths_of, OperandsFit, NetsExist, WidthsFit}
use Rattle.gos_tidy.specs.Mapped.{renamed, IsConst, IsXorOf, IsKept, IsShort, Stands, Mapped}
use Rattle.gos_tidy.specs.Reduced.{IsClosed, Stays, IsQuotient}
use Rattle.gos_tidy.proofs.GroundLemmas.{ungrounded}
use Rattle.gos_tidy.proofs.NarrowLemmas.{pin_first, pin_second, pin_third, narrow_shown, narrow_or_wide, less_or, width_is}
use Rattle.gos_tidy.proofs.RenamedLemmas.{renamed_const, renamed_not, renamed_xor, xor_gate, renamed_pins, from_mapped, each_of, one_cell, one_gate, one_width, one_const, renamed_fits}

-- a cell at each net below the count
pub cell_there : (cells : List Cell) (n : ℕ) → n < length cells → (c : Cell) × (slice_get cells n ≡ Some c)
cell_there [] n low = absurd (omega (arith, low))
cell_there (c ∷ cells) zero low = (c, refl)
cell_there (c ∷ cells) (suc n) low = cell_there cells n (omega (arith, low))

-- a register is kept, and so is an input
pub register_kept : (others : List Cell) (f : ℕ → ℕ) (n : ℕ) (c : Cell) → IsRegister c.gate → Stands others f n c → IsKept others f n c
register_kept others f n c is (inl kept) = kept
register_kept others f n c (a, is) (inr (inl (u, consts, there))) =
    let shows : (r i : ℕ) → IsConst others (f n) (shown c.width (Reg a) r i u) =
    subst (λ (g : Function). (r i : ℕ) → IsConst others (f n) (shown c.width g r i u)) is there in
    absurd (let never : 0 ≡ 1 = one_const others (f n) 0 1 (shows 0 0) (shows 1 0) in omega (arith, never))
register_kept others f n c (a, is) (inr (inr short)) = absurd (subst (λ (g : Function). IsShort others f n c.width g) is short)

pub input_kept : (others : List Cell) (f : ℕ → ℕ) (n : ℕ) (c : Cell) → c.gate ≡ Input → Stands others f n c → IsKept others f n c
input_kept others f n c is (inl kept) = kept
input_kept others f n c is (inr (inl (u, consts, there))) =
    let shows : (r i : ℕ) → IsConst others (f n) (shown c.width Input r i u) =
    subst (λ (g : Function). (r i : ℕ) → IsConst others (f n) (shown c.width g r i u)) is there in
    absurd (let never : 0 ≡ 1 = one_const others (f n) 0 1 (shows 0 0) (shows 0 1) in omega (arith, never))
input_kept others f n c is (inr (inr short)) = absurd (subst (λ (g : Function). IsShort others f n c.width g) is short)

-- a gate that is closed goes to 0
pub closed_zero : (others : List Cell) (f : ℕ → ℕ) (n : ℕ) (g : Function) → IsClosed others f n g → IsConst others (f n) 0
closed_zero others f n Input h = absurd h
closed_zero others f n (Const k) h = absurd h
closed_zero others f n (Not a) h = absurd h
closed_zero others f n (And a b) h = absurd h
closed_zero others f n (Or a b) h = absurd h
closed_zero others f n (Xor a b) h = absurd h
closed_zero others f n (Mux s a b) h = absurd h
closed_zero others f n (Add a b) h = absurd h
closed_zero others f n (Sub a b) h = absurd h
closed_zero others f n (Eq a b) h = absurd h
closed_zero others f n (Less a b) h = absurd h
closed_zero others f n (Gate s a) (k, other, const, there) = there
closed_zero others f n (Reg a) h = absurd h

-- what stays is kept, or goes to a constant
pub kept_or_const : (others : List Cell) (f : ℕ → ℕ) (n : ℕ) (c : Cell) → Stays others f n c → IsKept others f n c ⊎ ((k : ℕ) × IsConst others (f n) k)
kept_or_const others f n c (inl kept) = inl kept
kept_or_const others f n c (inr (inl (u, consts, shows))) = inr (shown c.width c.gate 0 0 u, shows 0 0)
kept_or_const others f n c (inr (inr closed)) = inr (0, closed_zero others f n c.gate closed)

module _ (cells others : List Cell) (f : ℕ → ℕ) (acyclic : HasCycle cells → ⊥) (exist : NetsExist cells) (mapped : Mapped cells others f)
    (R : ℕ → Type 0) (free : (m : ℕ) (e : Cell) → R m → slice_get others m ≡ Some e → IsRegister e.gate → ⊥)
    (turned : (m w x : ℕ) → slice_get others m ≡ Some (record { width = w; gate = Not x }) → R x → R m)
    (mixed : (m w a x : ℕ) → IsXorOf others w m a x → R x → R m)
    (nothing : (m : ℕ) → IsConst others m 0 → R m → ⊥)
    (pin_of : (n : ℕ) (c : Cell) → slice_get cells n ≡ Some c → R (f n) → Stays others f n c → (a : ℕ) × Contains (pins c.gate) a × R (f a)) where
  -- a short gate goes where a pin of its goes, or where a net of the pin's Not or Xor goes
  short_back : (n w : ℕ) (g : Function) → R (f n) → IsShort others f n w g → (a : ℕ) × Contains (pins g) a × R (f a)
  short_back n w Input r h = absurd h
  short_back n w (Const k) r h = absurd h
  short_back n w (Not a) r h = (a, pin_first a [], turned (f a) w (f n) h r)
  short_back n w (And a b) r (one, is) = (a, pin_first a (b ∷ []), subst R is r)
  short_back n w (Or a b) r (one, is) = (a, pin_first a (b ∷ []), subst R is r)
  short_back n w (Xor a b) r (inl there) = (b, pin_second a b [], mixed (f b) w (f a) (f n) there r)
  short_back n w (Xor a b) r (inr there) = (a, pin_first a (b ∷ []), mixed (f a) w (f b) (f n) there r)
  short_back n w (Mux s a b) r (inl (one, is)) = (a, pin_second s a (b ∷ []), subst R is r)
  short_back n w (Mux s a b) r (inr (k, other, const, is)) = (b, pin_third s a b, subst R is r)
  short_back n w (Add a b) r h = absurd h
  short_back n w (Sub a b) r h = absurd h
  short_back n w (Eq a b) r h = absurd h
  short_back n w (Less a b) r h = absurd h
  short_back n w (Gate s a) r (inl (one, is)) = (a, pin_second s a [], subst R is r)
  short_back n w (Gate s a) r (inr (k, other, const, zero_there)) = absurd (nothing (f n) zero_there r)
  short_back n w (Reg a) r h = absurd h

  stands_back : (n : ℕ) (c : Cell) → slice_get cells n ≡ Some c → R (f n) → Stands others f n c → (a : ℕ) × Contains (pins c.gate) a × R (f a)
  stands_back n c there r (inl kept) = pin_of n c there r (inl kept)
  stands_back n c there r (inr (inl folded)) = pin_of n c there r (inr (inl folded))
  stands_back n c there r (inr (inr short)) = short_back n c.width c.gate r short

  -- what goes there is no register
  pin_free : (a : ℕ) (e : Cell) → slice_get cells a ≡ Some e → R (f a) → IsRegister e.gate → ⊥
  pin_free a e there r (b, is) =
      let kept = register_kept others f a e (b, is) (mapped a e there) in
      free (f a) (record { width = e.width; gate = renamed f e.gate }) r kept (f b, ap (renamed f) is)

  back : (n : ℕ) → (n < length cells) × R (f n) → (a : ℕ) × ((a < length cells) × R (f a)) × Feeds cells a n
  back n (low, r) =
      let (c, there) = cell_there cells n low in
      let (a, pin, at_pin) = stands_back n c there r (mapped n c there) in
      let below : a < length cells = each_of (λ (m : ℕ). m < length cells) (pins c.gate) a (exist n c there) pin in
      let (e, is) = cell_there cells a below in
      (a, (below, at_pin), (e, c, is, there, pin_free a e is at_pin, pin))

  pub none_there : (n : ℕ) → n < length cells → R (f n) → ⊥
  none_there n low r = ungrounded cells acyclic (λ (m : ℕ). (m < length cells) × R (f m)) back n (low, r)

-- Rings.

-- a net that some net of the ring leads to, by nets that feed one another
data Behind (cells : List Cell) (ring : List ℕ) : ℕ → Type 0 where
  InRing : (m : ℕ) → Contains ring m → Behind cells ring m
  Fed : (a m : ℕ) → Feeds cells a m → Behind cells ring a → Behind cells ring m

-- the net is no register
abbrev IsFree : List Cell → ℕ → Type 0
IsFree cells m = (e : Cell) → slice_get cells m ≡ Some e → IsRegister e.gate → ⊥

feeder_free : (cells : List Cell) (a b : ℕ) → Feeds cells a b → IsFree cells a
feeder_free cells a b (c, d, there, there_too, free, pin) e is (r, gate) = free (r, one_gate cells a c e there is ∙ gate)

-- the last net of a chain feeds its end, each other one the next one
chain_last : (cells : List Cell) (a : ℕ) (ns : List ℕ) (z : ℕ) → Chain cells (a ∷ ns) z → (b : ℕ) × Contains (a ∷ ns) b × Feeds cells b z
chain_last cells a [] z feeds = (a, pin_first a [], feeds)
chain_last cells a (b ∷ ns) z (feeds, chain) =
    let (c, (k, l, e), last) = chain_last cells b ns z chain in
    (c, (suc k, omega (arith, l), e), last)

chain_before : (cells : List Cell) (a : ℕ) (ns : List ℕ) (z m : ℕ) → Chain cells (a ∷ ns) z → Contains ns m → (b : ℕ) × Contains (a ∷ ns) b × Feeds cells b m
chain_before cells a [] z m chain (k, l, e) = absurd (omega (arith, l))
chain_before cells a (b ∷ ns) z m (feeds, chain) (zero, l, e) = (a, pin_first a (b ∷ ns), subst (Feeds cells a) e feeds)
chain_before cells a (b ∷ ns) z m (feeds, chain) (suc k, l, e) =
    let (c, (j, below, is), last) = chain_before cells b ns z m chain (k, omega (arith, l), e) in
    (c, (suc j, omega (arith, below), is), last)

pub ring_back : (cells : List Cell) (a : ℕ) (ns : List ℕ) (m : ℕ) → Chain cells (a ∷ ns) a → Contains (a ∷ ns) m → (b : ℕ) × Contains (a ∷ ns) b × Feeds cells b m
ring_back cells a ns m chain (zero, l, e) =
    let (b, has, feeds) = chain_last cells a ns a chain in
    (b, has, subst (Feeds cells b) e feeds)
ring_back cells a ns m chain (suc k, l, e) = chain_before cells a ns a m chain (k, omega (arith, l), e)

chain_next : (cells : List Cell) (a : ℕ) (ns : List ℕ) (z m : ℕ) → Chain cells (a ∷ ns) z → Contains (a ∷ ns) m → (b : ℕ) × Feeds cells m b
chain_next cells a [] z m feeds (zero, l, e) = (z, subst (λ (n : ℕ). Feeds cells n z) e feeds)
chain_next cells a [] z m feeds (suc k, l, e) = absurd (omega (arith, l))
chain_next cells a (b ∷ ns) z m (feeds, chain) (zero, l, e) = (b, subst (λ (n : ℕ). Feeds cells n b) e feeds)
chain_next cells a (b ∷ ns) z m (feeds, chain) (suc k, l, e) = chain_next cells b ns z m chain (k, omega (arith, l), e)

module _ (others : List Cell) (z : ℕ) (ns : List ℕ) (chain : Chain others (z ∷ ns) z) where
  InCycle : ℕ → Type 0
  InCycle m = IsFree others m × Behind others (z ∷ ns) m

  cycle_feeder : (m : ℕ) → InCycle m → (a : ℕ) × InCycle a × Feeds others a m
  unfolding InCycle
  cycle_feeder m (free, behind) = from_behind m behind
    where
      from_behind : (m : ℕ) → Behind others (z ∷ ns) m → (a : ℕ) × (IsFree others a × Behind others (z ∷ ns) a) × Feeds others a m
      from_behind m (InRing _ has) =
          let (a, member, feeds) = ring_back others z ns m chain has in
          (a, (feeder_free others a m feeds, InRing a member), feeds)
      from_behind m (Fed a _ feeds behind) = (a, (feeder_free others a m feeds, behind), feeds)

  cycle_free : (m : ℕ) (e : Cell) → InCycle m → slice_get others m ≡ Some e → IsRegister e.gate → ⊥
  unfolding InCycle
  cycle_free m e r there = r.0 e there

  cycle_turned : (m w x : ℕ) → slice_get others m ≡ Some (record { width = w; gate = Not x }) → InCycle x → InCycle m
  unfolding InCycle
  cycle_turned m w x there r =
      let (a, in_ring, (c, e, first, second, free, pin)) = cycle_feeder x r in
      let turn : Cell = record { width = w; gate = Not x } in (
        (λ d is (b, gate). let never : Not x ≡ Reg b = one_gate others m turn d there is ∙ gate in cc),
        Fed x m (e, turn, second, there, r.0 e second, pin_first x []) r.1,
      )

  cycle_mixed : (m w a x : ℕ) → IsXorOf others w m a x → InCycle x → InCycle m
  unfolding InCycle
  cycle_mixed m w a x there r =
      let (b, in_ring, (c, e, first, second, free, pin)) = cycle_feeder x r in
      by_order there e second
    where
      by_order : IsXorOf others w m a x → (e : Cell) → slice_get others x ≡ Some e → IsFree others m × Behind others (z ∷ ns) m
      by_order (inl is) e second =
          let mix : Cell = record { width = w; gate = Xor a x } in (
            (λ d there (b, gate). let never : Xor a x ≡ Reg b = one_gate others m mix d is there ∙ gate in cc),
            Fed x m (e, mix, second, is, r.0 e second, pin_second a x []) r.1,
          )
      by_order (inr is) e second =
          let mix : Cell = record { width = w; gate = Xor x a } in (
            (λ d there (b, gate). let never : Xor x a ≡ Reg b = one_gate others m mix d is there ∙ gate in cc),
            Fed x m (e, mix, second, is, r.0 e second, pin_first x (a ∷ [])) r.1,
          )

  cycle_const : (m k : ℕ) → IsConst others m k → InCycle m → ⊥
  cycle_const m k (w, there) r =
      let (a, in_ring, (c, e, first, second, free, pin)) = cycle_feeder m r in
      let none : Contains (pins (Const k)) a =
      subst (λ (g : Function). Contains (pins g) a) (one_gate others m e (record { width = w; gate = Const k }) second there) pin in
      omega (arith, none.1)

  cycle_pin : (f : ℕ → ℕ) (n : ℕ) (c : Cell) → InCycle (f n) → Stays others f n c → (a : ℕ) × Contains (pins c.gate) a × InCycle (f a)
  cycle_pin f n c r (inl kept) =
      let (b, in_ring, (d, e, first, second, free, pin)) = cycle_feeder (f n) r in
      let renamed_pin : Contains (pins (renamed f c.gate)) b =
      subst (λ (g : Function). Contains (pins g) b) (one_gate others (f n) e (record { width = c.width; gate = renamed f c.gate }) second kept) pin in
      let (a, has, is) = from_mapped f (pins c.gate) b (subst (λ (xs : List ℕ). Contains xs b) (renamed_pins f c.gate) renamed_pin) in
      (a, has, subst InCycle (sym is) in_ring)
  cycle_pin f n c r (inr (inl (u, consts, there))) = absurd (cycle_const (f n) (shown c.width c.gate 0 0 u) (there 0 0) r)
  cycle_pin f n c r (inr (inr closed)) = absurd (cycle_const (f n) 0 (closed_zero others f n c.gate closed) r)

  ring_in_cycle : InCycle z
  unfolding InCycle
  ring_in_cycle =
      let (b, feeds) = chain_next others z ns z z chain (pin_first z ns) in
      (feeder_free others z b feeds, InRing z (pin_first z ns))

-- a root for each of the others
pub root_of : (cells others : List Cell) (f : ℕ → ℕ) (roots : List ℕ) → IsQuotient cells others f roots → (m : ℕ) → m < length others
    → (n : ℕ) × (c : Cell) × (f n ≡ m) × (slice_get cells n ≡ Some c) × Stays others f n c
root_of cells others f roots q m low = from_cases (slice_get_cases roots m).1
  where
    from_cases : ((x : ℕ) × (m < length roots) × (slice_get roots m ≡ Some x) × (get_or roots m x ≡ x)) ⊎ ((length roots ≤ m) × (slice_get roots m ≡ Option.None))
        → (n : ℕ) × (c : Cell) × (f n ≡ m) × (slice_get cells n ≡ Some c) × Stays others f n c
    from_cases (inl (n, below, is, same)) = let (to, c, there, stays) = q.stays m n is in (n, c, to, there, stays)
    from_cases (inr (past, none)) = absurd (omega (arith, past, low, q.each))

pub quotient_acyclic : (cells others : List Cell) (f : ℕ → ℕ) (roots : List ℕ) → (HasCycle cells → ⊥) → NetsExist cells → IsQuotient cells others f roots
    → HasCycle others → ⊥
quotient_acyclic cells others f roots acyclic exist q ([], ring) = ring
quotient_acyclic cells others f roots acyclic exist q (z ∷ ns, (apart, chain)) =
    let (b, (c, e, first, second, free, pin)) = chain_next others z ns z z chain (pin_first z ns) in
    let (n, d, to, there, stays) = root_of cells others f roots q z (slice_get_within others z c first) in
    none_there cells others f acyclic exist q.mapped (InCycle others z ns chain) (cycle_free others z ns chain) (cycle_turned others z ns chain)
    (cycle_mixed others z ns chain) (λ m is r. cycle_const others z ns chain m 0 is r) (λ m x is r stay. cycle_pin others z ns chain f m x r stay) n (slice_get_within cells n d there)
    (subst (InCycle others z ns chain) (sym to) (ring_in_cycle others z ns chain))

-- Widths.

-- a constant of too many bits, or a Not or a Xor of such
data IsTooWide (others : List Cell) : ℕ → Type 0 where
  Much : (m w k : ℕ) → slice_get others m ≡ Some (record { width = w; gate = Const k }) → 2 ^ w ≤ k → IsTooWide others m
  Turned : (m w x : ℕ) → slice_get others m ≡ Some (record { width = w; gate = Not x }) → IsTooWide others x → IsTooWide others m
  Mixed : (m w a x : ℕ) → IsXorOf others w m a x → IsTooWide others x → IsTooWide others m

wide_free : (others : List Cell) (m : ℕ) (e : Cell) → IsTooWide others m → slice_get others m ≡ Some e → IsRegister e.gate → ⊥
wide_free others m e (Much _ w k there much) is (b, gate) =
    let never : Const k ≡ Reg b = one_gate others m (record { width = w; gate = Const k }) e there is ∙ gate in cc
wide_free others m e (Turned _ w x there wide) is (b, gate) =
    let never : Not x ≡ Reg b = one_gate others m (record { width = w; gate = Not x }) e there is ∙ gate in cc
wide_free others m e (Mixed _ w a x there wide) is (b, gate) = by_order (xor_gate others m w a x e there is)
  where
    by_order : (e.gate ≡ Xor a x) ⊎ (e.gate ≡ Xor x a) → ⊥
    by_order (inl same) = let never : Xor a x ≡ Reg b = sym same ∙ gate in cc
    by_order (inr same) = let never : Xor x a ≡ Reg b = sym same ∙ gate in cc

-- a constant that is too wide is so by its own number
wide_const : (others : List Cell) (m w k : ℕ) → slice_get others m ≡ Some (record { width = w; gate = Const k }) → IsTooWide others m → 2 ^ w ≤ k
wide_const others m w k is (Much _ u j there much) =
    let width : u ≡ w = one_width others m (record { width = u; gate = Const j }) (record { width = w; gate = Const k }) there is in
    let number : j ≡ k = one_const others m j k (u, there) (w, is) in
    subst (λ (v : ℕ). 2 ^ v ≤ k) width (subst (λ (v : ℕ). 2 ^ u ≤ v) number much)
wide_const others m w k is (Turned _ u x there wide) =
    absurd (let never : Not x ≡ Const k = one_gate others m (record { width = u; gate = Not x }) (record { width = w; gate = Const k }) there is in cc)
wide_const others m w k is (Mixed _ u a x there wide) = absurd (by_order (xor_gate others m u a x (record { width = w; gate = Const k }) there is))
  where
    by_order : (Const k ≡ Xor a x) ⊎ (Const k ≡ Xor x a) → ⊥
    by_order (inl same) = cc
    by_order (inr same) = cc

module _ (cells others : List Cell) (f : ℕ → ℕ) (roots : List ℕ) (acyclic : HasCycle cells → ⊥) (exist : NetsExist cells) (fits : WidthsFit cells)
    (q : IsQuotient cells others f roots) where
  -- widths are kept
  pub width_kept : (n : ℕ) (c : Cell) → slice_get cells n ≡ Some c → width_at (widths_of others) (f n) ≡ width_at (widths_of cells) n
  width_kept n c there =
      let (e, is, same) = q.widths n c there in
      width_is others (f n) e is ∙ (same ∙ sym (width_is cells n c there))

  pub pin_width : (n a : ℕ) (c : Cell) → slice_get cells n ≡ Some c → Contains (pins c.gate) a → width_at (widths_of others) (f a) ≡ width_at (widths_of cells) a
  pin_width n a c there pin =
      let (e, is) = cell_there cells a (each_of (λ (m : ℕ). m < length cells) (pins c.gate) a (exist n c there) pin) in
      width_kept a e is

  wide_pin : (n : ℕ) (c : Cell) → slice_get cells n ≡ Some c → IsTooWide others (f n) → Stays others f n c → (a : ℕ) × Contains (pins c.gate) a × IsTooWide others (f a)
  wide_pin n c there wide (inl kept) = by_kind (f n) refl wide
    where
      by_kind : (m : ℕ) → m ≡ f n → IsTooWide others m → (a : ℕ) × Contains (pins c.gate) a × IsTooWide others (f a)
      by_kind m at_f (Much _ w k is much) =
          let here : slice_get others (f n) ≡ Some (record { width = w; gate = Const k }) = subst (λ (x : ℕ). slice_get others x ≡ Some (record { width = w; gate = Const k })) at_f is in
          let gate : c.gate ≡ Const k = renamed_const f c.gate k (one_gate others (f n) (record { width = c.width; gate = renamed f c.gate }) (record { width = w; gate = Const k }) kept here) in
          let width : c.width ≡ w = one_width others (f n) (record { width = c.width; gate = renamed f c.gate }) (record { width = w; gate = Const k }) kept here in
          let low : k < 2 ^ c.width = subst (λ (g : Function). OperandsFit (widths_of cells) c.width g) gate (fits n c there).2 in
          let same : k < 2 ^ w = subst (λ (v : ℕ). k < 2 ^ v) width low in
          absurd (omega (arith, same, much))
      by_kind m at_f (Turned _ w x is wide) =
          let here : slice_get others (f n) ≡ Some (record { width = w; gate = Not x }) = subst (λ (y : ℕ). slice_get others y ≡ Some (record { width = w; gate = Not x })) at_f is in
          let (a, pin, same) = renamed_not f c.gate x (one_gate others (f n) (record { width = c.width; gate = renamed f c.gate }) (record { width = w; gate = Not x }) kept here) in
          (a, pin, subst (IsTooWide others) (sym same) wide)
      by_kind m at_f (Mixed _ w x y is wide) =
          let here : IsXorOf others w (f n) x y = subst (λ (z : ℕ). IsXorOf others w z x y) at_f is in
          let (a, pin, same) = renamed_xor f c.gate x y (xor_gate others (f n) w x y (record { width = c.width; gate = renamed f c.gate }) here kept) in
          (a, pin, subst (IsTooWide others) (sym same) wide)
  wide_pin n c there wide (inr (inr closed)) =
      let (w, is) = closed_zero others f n c.gate closed in
      absurd (let much = wide_const others (f n) w 0 is wide in let some = pow_pos w in omega (arith, much, some))
  wide_pin n c there wide (inr (inl (u, consts, shows))) = by_pins (narrow_or_wide (widths_of cells) u (pins c.gate))
    where
      by_pins : ((a : ℕ) → Contains (pins c.gate) a → u a < 2 ^ width_at (widths_of cells) a) ⊎ ((a : ℕ) × Contains (pins c.gate) a × (2 ^ width_at (widths_of cells) a ≤ u a))
          → (a : ℕ) × Contains (pins c.gate) a × IsTooWide others (f a)
      by_pins (inl low) =
          let k : ℕ = shown c.width c.gate 0 0 u in
          let (w, is) = shows 0 0 in
          let (e, there_too, same) = q.widths n c there in
          let width : w ≡ c.width = one_width others (f n) (record { width = w; gate = Const k }) e is there_too ∙ same in
          let much : 2 ^ c.width ≤ k = subst (λ (v : ℕ). 2 ^ v ≤ k) width (wide_const others (f n) w k is wide) in
          let less : k < 2 ^ c.width =
          narrow_shown (widths_of cells) c.width 0 0 c.gate u (fits n c there).2 (λ r. pow_pos c.width) (λ i. pow_pos c.width) (λ a pin free. low a pin) in
          absurd (omega (arith, much, less))
      by_pins (inr (a, pin, much)) =
          let (w, is) = consts a pin in
          let width : w ≡ width_at (widths_of cells) a = sym (width_is others (f a) (record { width = w; gate = Const (u a) }) is) ∙ pin_width n a c there pin in
          (a, pin, Much (f a) w (u a) is (subst (λ (v : ℕ). 2 ^ v ≤ u a) (sym width) much))

  none_too_wide : (m : ℕ) → m < length others → IsTooWide others m → ⊥
  none_too_wide m low wide =
      let (n, c, to, there, stays) = root_of cells others f roots q m low in
      none_there cells others f acyclic exist q.mapped (IsTooWide others) (wide_free others) (λ x w y is r. Turned x w y is r)
      (λ x w a y is r. Mixed x w a y is r)
      (λ x (w, is) r. let much = wide_const others x w 0 is r in let some = pow_pos w in omega (arith, much, some)) wide_pin n (slice_get_within cells n c there)
      (subst (IsTooWide others) (sym to) wide)

  consts_fit : (m w k : ℕ) → slice_get others m ≡ Some (record { width = w; gate = Const k }) → k < 2 ^ w
  consts_fit m w k is = by_test (less_or k (2 ^ w))
    where
      by_test : (k < 2 ^ w) ⊎ (2 ^ w ≤ k) → k < 2 ^ w
      by_test (inl low) = low
      by_test (inr much) = absurd (none_too_wide m (slice_get_within others m (record { width = w; gate = Const k }) is) (Much m w k is much))

  pub quotient_widths : WidthsFit others
  quotient_widths m e is =
      let (n, c, to, there, stays) = root_of cells others f roots q m (slice_get_within others m e is) in
      let here : slice_get others (f n) ≡ Some e = subst (λ (x : ℕ). slice_get others x ≡ Some e) (sym to) is in
      by_kind n c there here stays
    where
      of_const : (n : ℕ) (c : Cell) → slice_get cells n ≡ Some c → slice_get others (f n) ≡ Some e → (k : ℕ) → IsConst others (f n) k
          → (1 ≤ e.width) × (e.width ≤ GREATEST_WIDTH) × OperandsFit (widths_of others) e.width e.gate
      of_const n c there here k (w, const) =
          let (d, there_too, width) = q.widths n c there in
          let same : record { width = w; gate = Const k } ≡ e = one_cell others (f n) (record { width = w; gate = Const k }) e const here in
          let of_width : w ≡ c.width = one_width others (f n) (record { width = w; gate = Const k }) d const there_too ∙ width in
          let fit = fits n c there in
          subst (λ (x : Cell). (1 ≤ x.width) × (x.width ≤ GREATEST_WIDTH) × OperandsFit (widths_of others) x.width x.gate) same
          (subst (λ (v : ℕ). 1 ≤ v) (sym of_width) fit.0, subst (λ (v : ℕ). v ≤ GREATEST_WIDTH) (sym of_width) fit.1, consts_fit (f n) w k const)

      by_kind : (n : ℕ) (c : Cell) → slice_get cells n ≡ Some c → slice_get others (f n) ≡ Some e → Stays others f n c
          → (1 ≤ e.width) × (e.width ≤ GREATEST_WIDTH) × OperandsFit (widths_of others) e.width e.gate
      by_kind n c there here (inl kept) =
          let same : record { width = c.width; gate = renamed f c.gate } ≡ e = one_cell others (f n) (record { width = c.width; gate = renamed f c.gate }) e kept here in
          let fit = fits n c there in
          subst (λ (x : Cell). (1 ≤ x.width) × (x.width ≤ GREATEST_WIDTH) × OperandsFit (widths_of others) x.width x.gate) same
          (fit.0, fit.1, renamed_fits (widths_of cells) (widths_of others) c.width c.gate f fit.2 (λ a pin. pin_width n a c there pin))
      by_kind n c there here (inr (inl (u, consts, shows))) = of_const n c there here (shown c.width c.gate 0 0 u) (shows 0 0)
      by_kind n c there here (inr (inr closed)) = of_const n c there here 0 (closed_zero others f n c.gate closed)
