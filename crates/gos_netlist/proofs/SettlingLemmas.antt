-- Without a combinational cycle there is a settling, and one alone.
--
-- Take two sequences of values, each of which follows its own passes. A net in which they differ after a pass has a
-- pin in which they differed before it. So behind a late difference stands a long chain, and in it a cycle.
use Rattle.std.specs.Prelude.{◌≡◌, ◌≢◌, ℕ, zero, suc, ◌+◌, ◌<◌, ◌≤◌, Bool, true, false, ◌⊎◌, List, [], ◌∷◌, length, Contains, Some, None, slice_get, bit_and, bit_or, bit_xor, nat_eq, nat_lt, if◌then◌else◌, ◌-◌, ◌^◌, ◌%◌}
use Rattle.std.specs.Str.{bytes_eq}
use Rattle.std.proofs.lemmas.Slice.Eq.{bytes_eq-Decides}
use Rattle.std.proofs.Common.{arith, refl, sym, ap, subst, inl, inr, ◌∙◌, add-one}
use Rattle.std.proofs.Math.ListN.{get_or, get_or-eq_default}
use Rattle.std.proofs.lemmas.Option.{slice_get_cases}
use Rattle.gos_netlist.specs.Nets.{Function, Input, Const, Not, And, Or, Xor, Mux, Add, Sub, Eq, Less, Gate, Reg, Cell, pins}
use Rattle.gos_netlist.specs.Settling.{Numbers, at, shown, Settling}
use Rattle.gos_netlist.specs.Cycles.{IsRegister, Feeds, Chain, HasCycle}
use Rattle.gos_netlist.specs.inner.Passes.{pass, after_passes}
use Rattle.gos_netlist.specs.Laws.{AcyclicSettles, AcyclicSettlesOnce}
use Rattle.gos_netlist.proofs.PassLemmas.{at_pass, length-pass_from, settling_of_pass, pass_of_settling}
use Rattle.gos_netlist.proofs.RepeatLemmas.{same_or_not, long_chain_has_cycle}

first : (a : ℕ) (ns : List ℕ) → Contains (a ∷ ns) a
first a ns = (0, omega arith, refl)

second : (a b : ℕ) (ns : List ℕ) → Contains (a ∷ b ∷ ns) b
second a b ns = (1, omega arith, refl)

third : (a b c : ℕ) → Contains (a ∷ b ∷ c ∷ []) c
third a b c = (2, omega arith, refl)

-- what a cell shows depends on its pins alone
pub same_shown : (w r i : ℕ) (g : Function) (f h : ℕ → ℕ) → ((a : ℕ) → Contains (pins g) a → f a ≡ h a) → shown w g r i f ≡ shown w g r i h
same_shown w r i Input f h same = refl
same_shown w r i (Const k) f h same = refl
same_shown w r i (Not a) f h same = ap (λ (x : ℕ). 2 ^ w - 1 - x) (same a (first a []))
same_shown w r i (And a b) f h same = λ j. bit_and (same a (first a (b ∷ [])) j) (same b (second a b []) j)
same_shown w r i (Or a b) f h same = λ j. bit_or (same a (first a (b ∷ [])) j) (same b (second a b []) j)
same_shown w r i (Xor a b) f h same = λ j. bit_xor (same a (first a (b ∷ [])) j) (same b (second a b []) j)
same_shown w r i (Mux s a b) f h same =
    λ j. if nat_eq (same s (first s (a ∷ b ∷ [])) j) 1 then same a (second s a (b ∷ [])) j else same b (third s a b) j
same_shown w r i (Add a b) f h same = λ j. (same a (first a (b ∷ [])) j + same b (second a b []) j) % 2 ^ w
same_shown w r i (Sub a b) f h same = λ j. (same a (first a (b ∷ [])) j + 2 ^ w - same b (second a b []) j) % 2 ^ w
same_shown w r i (Eq a b) f h same = λ j. if nat_eq (same a (first a (b ∷ [])) j) (same b (second a b []) j) then 1 else 0
same_shown w r i (Less a b) f h same = λ j. if nat_lt (same a (first a (b ∷ [])) j) (same b (second a b []) j) then 1 else 0
same_shown w r i (Gate s a) f h same = λ j. if nat_eq (same s (first s (a ∷ [])) j) 1 then same a (second s a []) j else 0
same_shown w r i (Reg a) f h same = refl

-- two functions agree on a list, or differ at a member
agree_or_differ : (f h : ℕ → ℕ) (ns : List ℕ)
    → ((a : ℕ) → Contains ns a → f a ≡ h a) ⊎ ((a : ℕ) × Contains ns a × (f a ≢ h a))
agree_or_differ f h [] = inl none
  where
    none : (a : ℕ) → Contains [] a → f a ≡ h a
    none a (k, l, e) = absurd (omega (arith, l))
agree_or_differ f h (b ∷ ns) = at_head (same_or_not (f b) (h b)) (agree_or_differ f h ns)
  where
    both : f b ≡ h b → ((a : ℕ) → Contains ns a → f a ≡ h a) → (a : ℕ) → Contains (b ∷ ns) a → f a ≡ h a
    both e rest a (zero, l, is) = subst (λ (n : ℕ). f n ≡ h n) is e
    both e rest a (suc k, l, is) = rest a (k, omega (arith, l), is)

    at_head : (f b ≡ h b) ⊎ (f b ≢ h b) → ((a : ℕ) → Contains ns a → f a ≡ h a) ⊎ ((a : ℕ) × Contains ns a × (f a ≢ h a))
        → ((a : ℕ) → Contains (b ∷ ns) a → f a ≡ h a) ⊎ ((a : ℕ) × Contains (b ∷ ns) a × (f a ≢ h a))
    at_head (inr differ) rest = inr (b, first b ns, differ)
    at_head (inl e) (inl rest) = inl (both e rest)
    at_head (inl e) (inr (a, (k, l, is), differ)) = inr (a, (suc k, omega (arith, l), is), differ)

-- two sequences of values, in which each pass follows from the one before
record Followed (cells : List Cell) (regs ins : Numbers) : Type 0 where
  one : ℕ → Numbers
  other : ℕ → Numbers
  one_passes : (n : ℕ) → one (suc n) ≡ pass cells regs ins (one n)
  other_passes : (n : ℕ) → other (suc n) ≡ pass cells regs ins (other n)

-- after n passes they differ in this net
abbrev Differ : {cells : List Cell} {regs ins : Numbers} → Followed cells regs ins → ℕ → ℕ → Type 0
Differ s n net = at (s.one n) net ≢ at (s.other n) net

-- a cell in which they differ after a pass is no register, and has a pin in which they differed before
record Late (cells : List Cell) (regs ins : Numbers) (s : Followed cells regs ins) (n net : ℕ) : Type 0 where
  cell : Cell
  is : slice_get cells net ≡ Some cell
  gate : IsRegister cell.gate → ⊥
  pin : ℕ
  named : Contains (pins cell.gate) pin
  differ : Differ s n pin

-- if what the cell shows is the same, so are both sequences in its net
same_net : (cells : List Cell) (regs ins : Numbers) (s : Followed cells regs ins) (n net : ℕ) (c : Cell) → slice_get cells net ≡ Some c
    → shown c.width c.gate (at regs net) (at ins net) (at (s.one n)) ≡ shown c.width c.gate (at regs net) (at ins net) (at (s.other n))
    → at (s.one (suc n)) net ≡ at (s.other (suc n)) net
same_net cells regs ins s n net c is same =
    ap (λ v. at v net) (s.one_passes n) ∙ at_pass net cells regs ins (s.one n) c is ∙ same
    ∙ sym (at_pass net cells regs ins (s.other n) c is) ∙ sym (ap (λ v. at v net) (s.other_passes n))

late : (cells : List Cell) (regs ins : Numbers) (s : Followed cells regs ins) (n net : ℕ) → Differ s (suc n) net → Late cells regs ins s n net
late cells regs ins s n net differ = at_cell (slice_get_cases cells net).1
  where
    at_pins : (c : Cell) → slice_get cells net ≡ Some c
        → ((a : ℕ) → Contains (pins c.gate) a → at (s.one n) a ≡ at (s.other n) a)
        ⊎ ((a : ℕ) × Contains (pins c.gate) a × (at (s.one n) a ≢ at (s.other n) a))
        → Late cells regs ins s n net
    at_pins c is (inl same) =
        absurd (differ (same_net cells regs ins s n net c is (same_shown c.width (at regs net) (at ins net) c.gate (at (s.one n)) (at (s.other n)) same)))
    at_pins c is (inr (a, named, before)) =
        record {
          cell = c;
          is = is;
          gate = λ (b, e). differ (same_net cells regs ins s n net c is (register_shows (at regs net) (at ins net) c b e));
          pin = a;
          named = named;
          differ = before;
        }
      where
        register_shows : (r i : ℕ) (c : Cell) (b : ℕ) → c.gate ≡ Reg b → shown c.width c.gate r i (at (s.one n)) ≡ shown c.width c.gate r i (at (s.other n))
        register_shows r i c b e =
            let P : Function → Type 0 = λ g. shown c.width g r i (at (s.one n)) ≡ shown c.width g r i (at (s.other n)) in
            subst P (sym e) refl

    past : (v : Numbers) → length cells ≤ net → at (pass cells regs ins v) net ≡ 0
    past v l = get_or-eq_default (pass cells regs ins v) 0 (subst (λ (m : ℕ). m ≤ net) (sym (length-pass_from 0 cells regs ins v)) l)

    at_cell : ((c : Cell) × (net < length cells) × (slice_get cells net ≡ Some c) × (get_or cells net c ≡ c)) ⊎ ((length cells ≤ net) × (slice_get cells net ≡ None))
        → Late cells regs ins s n net
    at_cell (inl (c, l, is, same)) = at_pins c is (agree_or_differ (at (s.one n)) (at (s.other n)) (pins c.gate))
    at_cell (inr (l, none)) =
        absurd (differ (ap (λ v. at v net) (s.one_passes n) ∙ past (s.one n) l ∙ sym (past (s.other n) l) ∙ sym (ap (λ v. at v net) (s.other_passes n))))

-- the pin in which they differed feeds the net
record Fed (cells : List Cell) (regs ins : Numbers) (s : Followed cells regs ins) (n net : ℕ) : Type 0 where
  pin : ℕ
  differ : Differ s (suc n) pin
  feeds : Feeds cells pin net

fed : (cells : List Cell) (regs ins : Numbers) (s : Followed cells regs ins) (n net : ℕ) → Differ s (suc (suc n)) net → Fed cells regs ins s n net
fed cells regs ins s n net differ =
    let here = late cells regs ins s (suc n) net differ in
    let there = late cells regs ins s n here.pin here.differ in
    record { pin = here.pin; differ = here.differ; feeds = (there.cell, here.cell, there.is, here.is, there.gate, here.named) }

-- behind a net in which they differ after n passes stands a chain of n nets
chain_behind : (cells : List Cell) (regs ins : Numbers) (s : Followed cells regs ins) (n net : ℕ) (ns : List ℕ) (z : ℕ) → Differ s (suc n) net
    → Chain cells (net ∷ ns) z
    → (a : ℕ) × (longer : List ℕ) × (length (a ∷ longer) ≡ n + length (net ∷ ns)) × Chain cells (a ∷ longer) z
chain_behind cells regs ins s zero net ns z differ chain = (net, ns, omega arith, chain)
chain_behind cells regs ins s (suc n) net ns z differ chain =
    let behind = fed cells regs ins s n net differ in
    let (a, longer, e, whole) = chain_behind cells regs ins s n behind.pin (net ∷ ns) z behind.differ (behind.feeds, chain) in
    (a, longer, omega (arith, e), whole)

-- so a difference after more passes than there are cells makes a cycle
difference_has_cycle : (cells : List Cell) (regs ins : Numbers) (s : Followed cells regs ins) (z : ℕ) → Differ s (suc (length cells)) z → HasCycle cells
difference_has_cycle [] regs ins s z differ = let none = (late [] regs ins s zero z differ).is in cc
difference_has_cycle (c ∷ cells) regs ins s z differ =
    let behind = fed (c ∷ cells) regs ins s (length cells) z differ in
    let (a, ns, e, chain) = chain_behind (c ∷ cells) regs ins s (length cells) behind.pin [] z behind.differ behind.feeds in
    long_chain_has_cycle (c ∷ cells) a ns z chain (omega (arith, e))

-- two lists of one length are equal, or differ somewhere
differ_somewhere : (xs ys : Numbers) → length xs ≡ length ys → (xs ≡ ys → ⊥) → (n : ℕ) × (at xs n ≢ at ys n)
differ_somewhere [] [] l h = absurd (h refl)
differ_somewhere [] (y ∷ ys) l h = absurd (omega (arith, l))
differ_somewhere (x ∷ xs) [] l h = absurd (omega (arith, l))
differ_somewhere (x ∷ xs) (y ∷ ys) l h = at_head (same_or_not x y) (λ rest. differ_somewhere xs ys (omega (arith, l)) rest)
  where
    at_head : (x ≡ y) ⊎ (x ≢ y) → ((xs ≡ ys → ⊥) → (n : ℕ) × (at xs n ≢ at ys n)) → (n : ℕ) × (at (x ∷ xs) n ≢ at (y ∷ ys) n)
    at_head (inr differ) rest = (0, differ)
    at_head (inl e) rest =
        let (n, differ) = rest (λ same. h (λ i. e i ∷ same i)) in
        (suc n, differ)

-- where a pass after more passes than cells still changes the values, there is a cycle
pub unsettled_has_cycle : (cells : List Cell) (regs ins : Numbers)
    → (pass cells regs ins (after_passes (length cells + 1) cells regs ins) ≡ after_passes (length cells + 1) cells regs ins → ⊥) → HasCycle cells
unsettled_has_cycle cells regs ins changes =
    let P : ℕ → Type 0 = λ n. pass cells regs ins (after_passes n cells regs ins) ≡ after_passes n cells regs ins → ⊥ in
    let values : Numbers = after_passes (suc (length cells)) cells regs ins in
    let same_length : length (pass cells regs ins values) ≡ length values =
    length-pass_from 0 cells regs ins values ∙ sym (length-pass_from 0 cells regs ins (after_passes (length cells) cells regs ins)) in
    let somewhere = differ_somewhere (pass cells regs ins values) values same_length (subst P (add-one (length cells)) changes) in
    let passes : Followed cells regs ins =
    record {
      one = λ n. after_passes (suc n) cells regs ins;
      other = λ n. after_passes n cells regs ins;
      one_passes = λ n. refl;
      other_passes = λ n. refl;
    } in
    difference_has_cycle cells regs ins passes somewhere.0 somewhere.1

equal_or_not : (xs ys : Numbers) → (xs ≡ ys) ⊎ (xs ≡ ys → ⊥)
equal_or_not xs ys = by_test (bytes_eq xs ys) refl
  where
    by_test : (t : Bool) → bytes_eq xs ys ≡ t → (xs ≡ ys) ⊎ (xs ≡ ys → ⊥)
    by_test true e = inl ((bytes_eq-Decides xs ys).0 e)
    by_test false e = inr (λ same. let no : false ≡ true = sym e ∙ (bytes_eq-Decides xs ys).1 same in cc)

-- without a cycle there is a settling
pub acyclic_settles : AcyclicSettles
acyclic_settles cells regs ins acyclic = by_pass (equal_or_not _ _)
  where
    by_pass : (pass cells regs ins (after_passes (length cells + 1) cells regs ins) ≡ after_passes (length cells + 1) cells regs ins)
        ⊎ (pass cells regs ins (after_passes (length cells + 1) cells regs ins) ≡ after_passes (length cells + 1) cells regs ins → ⊥)
        → (v : Numbers) × Settling cells regs ins v
    by_pass (inl same) = (after_passes (length cells + 1) cells regs ins, settling_of_pass cells regs ins _ same)
    by_pass (inr changes) = absurd (acyclic (unsettled_has_cycle cells regs ins changes))

-- and all settlings are one
pub acyclic_settles_once : AcyclicSettlesOnce
acyclic_settles_once cells regs ins u v acyclic first second = by_values (equal_or_not u v)
  where
    stays : (w : Numbers) → Settling cells regs ins w → ℕ → w ≡ pass cells regs ins w
    stays w settles n = sym (pass_of_settling cells regs ins w settles)

    both : Followed cells regs ins
    both = record { one = λ n. u; other = λ n. v; one_passes = stays u first; other_passes = stays v second }

    by_values : (u ≡ v) ⊎ (u ≡ v → ⊥) → u ≡ v
    by_values (inl same) = same
    by_values (inr differ) =
        let somewhere = differ_somewhere u v (first.0 ∙ sym second.0) differ in
        absurd (acyclic (difference_has_cycle cells regs ins both somewhere.0 somewhere.1))
