-- A cell more: its literals show what its net does, its gates are those of its kind, and they look back.
use Rattle.std.specs.Prelude.{◌≡◌, ℕ, suc, ◌+◌, ◌-◌, ◌*◌, ◌^◌, ◌%◌, ◌≤◌, Bool, true, false, not, List, [], ◌∷◌, ◌++◌, length, map, set, sum_by, nat_eq, nat_lt, bit_and, bit_or, bit_xor, if◌then◌else◌}
use Rattle.std.specs.List.{AllByRecursion}
use Rattle.std.proofs.Common.{arith, refl, sym, ap, subst, ◌∙◌}
use Rattle.std.proofs.lemmas.List.{append-nil}
use Rattle.std.proofs.Math.Nat.{mul-le-mul_right}
use Rattle.gos_netlist.specs.Nets.{Function, Cell, pins}
use Rattle.gos_netlist.specs.Nets as net
use Rattle.gos_netlist.specs.Settling.{Numbers, at, shown}
use Rattle.gos_netcheck.specs.CellRules.{OperandsFit, widths_of}
use Rattle.gos_gates.specs.Gates.{Bits, after_gates}
use Rattle.gos_gates.specs.Bits.{bits_of}
use Rattle.gos_gates.specs.Lowered.{complement, gate_of, width_of, literals_from, gates_over, HasGates}
use Rattle.gos_gates.specs.inner.Adding.{one_bit, number_of_bits}
use Rattle.gos_gates.specs.declared.kinds.Kind.{Kind}
use Rattle.gos_gates.specs.declared.kinds.Kind.TheVariants.{And, Or, Gate, Xor, Mux, Add, Sub, Eq, Less}
use Rattle.gos_gates.specs.inner.Layout.{chain_gates, chain_literals, chain_carry, chain_values, chain_end, bit_cost, plain, turned}
use Rattle.gos_gates.specs.inner.Laying.{Laid, literals_of, next_variable, first_literal, with_net, with_gates, with_function}
use Rattle.gos_gates.specs.inner.Standing.{Holds, HoldAll, ShowNumber, LookBackFrom, is_source}
use Rattle.gos_gates.proofs.BitLemmas.{holds_other}
use Rattle.gos_gates.proofs.ChainLemmas.{Adds, chain_adds, hold_all_length}
use Rattle.gos_gates.proofs.BackLemmas.{AreLow, all_low, holds_low, chain_back, chain_few, cost_low}
use Rattle.gos_gates.proofs.KindLemmas.{chain_length, and_number, or_number, xor_number, mux_number, gate_number, not_number, add_number, sub_number, eq_end, less_end, number_of_bits_of, length_bits_of, one_bit_test}

-- a net more, and what it brings
pub record LaysNet (cells : List Cell) (s : Laid) (bits : Bits) (n w k : ℕ) (f : Function) : Type 0 where
  pub gs : List (ℕ × ℕ)
  pub ls : List ℕ
  pub is : with_function n w f s ≡ with_gates s n gs ls
  pub more : Bits
  pub after : after_gates gs bits ≡ bits ++ more
  pub size : length more ≡ length gs
  pub show : ShowNumber (bits ++ more) ls w k
  pub back : LookBackFrom (length bits) gs
  pub has : HasGates (literals_of s) (next_variable s) f gs ls
  pub few : length gs ≤ 8 * (w + sum_by (width_of cells) (pins f))

-- constants
const_holds : (bits : Bits) (xs : List Bool) → Holds bits 0 false → Holds bits 1 true → HoldAll bits (map one_bit xs) xs
const_holds bits [] z o = tt
const_holds bits (true ∷ xs) z o = (o, const_holds bits xs z o)
const_holds bits (false ∷ xs) z o = (z, const_holds bits xs z o)

-- complements
turned_hold : (bits : Bits) (ls : List ℕ) (xs : List Bool) → HoldAll bits ls xs → HoldAll bits (map complement ls) (map not xs)
turned_hold bits [] [] h = tt
turned_hold bits [] (x ∷ xs) h = absurd h
turned_hold bits (l ∷ ls) [] h = absurd h
turned_hold bits (l ∷ ls) (x ∷ xs) h = (holds_other bits l x h.0, turned_hold bits ls xs h.1)

not_length : (xs : List Bool) → length (map not xs) ≡ length xs
not_length [] = refl
not_length (x ∷ xs) = ap suc (not_length xs)

-- the one bit of a selector
pub record Selects (bits : Bits) (ls : List ℕ) (k : ℕ) : Type 0 where
  pub bit : Bool
  pub holds : Holds bits (first_literal ls) bit
  pub is : k ≡ one_bit bit

selects : (bits : Bits) (ls : List ℕ) (k : ℕ) → ShowNumber bits ls 1 k → Selects bits ls k
selects bits ls k show = by_lists ls show.shown show.holds show.wide show.is
  where
    by_lists : (ls : List ℕ) (xs : List Bool) → HoldAll bits ls xs → length xs ≡ 1 → number_of_bits xs ≡ k → Selects bits ls k
    by_lists [] [] h e is = absurd (omega (arith, e))
    by_lists [] (x ∷ xs) h e is = absurd h
    by_lists (l ∷ ls) [] h e is = absurd h
    by_lists (l ∷ ls) (x ∷ []) h e is = record { bit = x; holds = h.0; is = omega (arith, is) }
    by_lists (l ∷ ls) (x ∷ y ∷ xs) h e is = absurd (omega (arith, e))

-- gates and literals of the kinds that have one gate a bit
and_gates : (v c : ℕ) (ms bs : List ℕ) → chain_gates And v c ms bs ≡ gates_over ms bs
and_gates v c [] bs = refl
and_gates v c (a ∷ ls) [] = refl
and_gates v c (a ∷ ls) (b ∷ bs) = ap (λ (gs : List (ℕ × ℕ)). gate_of a b ∷ gs) (and_gates (v + 1) c ls bs)

or_gates : (v c : ℕ) (ms bs : List ℕ) → chain_gates Or v c ms bs ≡ gates_over (map complement ms) (map complement bs)
or_gates v c [] bs = refl
or_gates v c (a ∷ ls) [] = refl
or_gates v c (a ∷ ls) (b ∷ bs) = ap (λ (gs : List (ℕ × ℕ)). gate_of (complement a) (complement b) ∷ gs) (or_gates (v + 1) c ls bs)

gate_gates : (v c : ℕ) (ms : List ℕ) → chain_gates Gate v c ms ms ≡ map (gate_of c) ms
gate_gates v c [] = refl
gate_gates v c (a ∷ ls) = ap (λ (gs : List (ℕ × ℕ)). gate_of c a ∷ gs) (gate_gates (v + 1) c ls)

and_literals : (v c : ℕ) (ms bs : List ℕ) → chain_literals And v ms bs ≡ literals_from v (length (chain_gates And v c ms bs))
and_literals v c [] bs = refl
and_literals v c (a ∷ ls) [] = refl
and_literals v c (a ∷ ls) (b ∷ bs) =
    let e : v + 1 ≡ suc v = omega arith in
    let P : ℕ → Type 0 = λ n. chain_literals And (v + 1) ls bs ≡ literals_from n (length (chain_gates And (v + 1) c ls bs)) in
    ap (λ (ns : List ℕ). plain v ∷ ns) (subst P e (and_literals (v + 1) c ls bs))

gate_literals : (v c : ℕ) (ms bs : List ℕ) → chain_literals Gate v ms bs ≡ literals_from v (length (chain_gates Gate v c ms bs))
gate_literals v c [] bs = refl
gate_literals v c (a ∷ ls) [] = refl
gate_literals v c (a ∷ ls) (b ∷ bs) =
    let e : v + 1 ≡ suc v = omega arith in
    let P : ℕ → Type 0 = λ n. chain_literals Gate (v + 1) ls bs ≡ literals_from n (length (chain_gates Gate (v + 1) c ls bs)) in
    ap (λ (ns : List ℕ). plain v ∷ ns) (subst P e (gate_literals (v + 1) c ls bs))

turned_is : (v : ℕ) → turned v ≡ complement (2 * v)
turned_is v = let r : 2 * v % 2 ≡ 0 = omega arith in rw r

or_literals : (v c : ℕ) (ms bs : List ℕ) → chain_literals Or v ms bs ≡ map complement (literals_from v (length (chain_gates Or v c ms bs)))
or_literals v c [] bs = refl
or_literals v c (a ∷ ls) [] = refl
or_literals v c (a ∷ ls) (b ∷ bs) =
    let e : v + 1 ≡ suc v = omega arith in
    let P : ℕ → Type 0 = λ n. chain_literals Or (v + 1) ls bs ≡ map complement (literals_from n (length (chain_gates Or (v + 1) c ls bs))) in
    let rest : chain_literals Or (v + 1) ls bs ≡ map complement (literals_from (suc v) (length (chain_gates Or (v + 1) c ls bs))) = subst P e (or_literals (v + 1) c ls bs) in
    (λ i. turned_is v i ∷ rest i)

-- a number of as many bits
as_wide : (bits : Bits) (ls : List ℕ) (u w k : ℕ) → u ≡ w → ShowNumber bits ls u k → ShowNumber bits ls w k
as_wide bits ls u w k e show = record { shown = show.shown; holds = show.holds; wide = show.wide ∙ e; is = show.is }

-- what a selector chooses
chosen : (k : ℕ) (b : Bool) (m n p q : ℕ) → k ≡ one_bit b → m ≡ p → n ≡ q → (if b then m else n) ≡ (if nat_eq k 1 then p else q)
chosen k b m n p q e first second =
    let test : b ≡ nat_eq k 1 = sym (ap (λ j. nat_eq j 1) e ∙ one_bit_test b) in
    (λ i. if test i then first i else second i)

-- a chain has few gates
few_gates : (kind : Kind) (u : ℕ) (ls : List ℕ) (gs : List (ℕ × ℕ)) (more w : ℕ) → length ls ≡ u → length gs ≤ bit_cost kind * length ls → u ≤ w + more → length gs ≤ 8 * (w + more)
few_gates kind u ls gs more w long count read =
    let most : bit_cost kind * length ls ≤ 7 * length ls = mul-le-mul_right (length ls) (cost_low kind) in
    omega (arith, long, count, read, most)

as_number : (b : Bool) → one_bit b + 2 * 0 ≡ (if b then 1 else 0)
as_number true = refl
as_number false = refl

module _ (cells : List Cell) (v : Numbers) (s : Laid) (bits : Bits) (n w k r i : ℕ) (next : next_variable s ≡ length bits) (none : Holds bits 0 false) where
  abbrev Shows : ℕ → Type 0
  Shows a = ShowNumber bits (literals_of s a) (width_of cells a) (at v a)

  one : Holds bits 1 true
  one = holds_other bits 0 false none

  -- a chain of bits over two nets of one width
  chain : (kind : Kind) (f : Function) (c a b : ℕ) (z : Bool) → Holds bits c z → (x : ShowNumber bits (literals_of s a) w (at v a)) (y : ShowNumber bits (literals_of s b) w (at v b))
      → with_function n w f s ≡ with_gates s n (chain_gates kind (next_variable s) c (literals_of s a) (literals_of s b)) (chain_literals kind (next_variable s) (literals_of s a) (literals_of s b))
      → number_of_bits (chain_values kind z x.shown y.shown) ≡ k
      → HasGates (literals_of s) (next_variable s) f (chain_gates kind (next_variable s) c (literals_of s a) (literals_of s b)) (chain_literals kind (next_variable s) (literals_of s a) (literals_of s b))
      → LaysNet cells s bits n w k f
  chain kind f c a b z hc x y same is has =
      let adds : Adds bits (chain_gates kind (next_variable s) c (literals_of s a) (literals_of s b)) (chain_literals kind (next_variable s) (literals_of s a) (literals_of s b))
      (chain_values kind z x.shown y.shown) (chain_carry kind (next_variable s) c (literals_of s a) (literals_of s b)) (chain_end kind z x.shown y.shown) =
      chain_adds kind bits (next_variable s) c (literals_of s a) (literals_of s b) z x.shown y.shown next hc x.holds y.holds in
      let P : ℕ → Type 0 = λ u. LookBackFrom u (chain_gates kind (next_variable s) c (literals_of s a) (literals_of s b)) in
      let Q : ℕ → List ℕ → Type 0 = λ u ls. AreLow u ls in
      record {
        gs = chain_gates kind (next_variable s) c (literals_of s a) (literals_of s b);
        ls = chain_literals kind (next_variable s) (literals_of s a) (literals_of s b);
        is = same;
        more = adds.more;
        after = ap (λ (hs : List (ℕ × ℕ)). after_gates hs bits) (sym (append-nil (chain_gates kind (next_variable s) c (literals_of s a) (literals_of s b)))) ∙ adds.after [];
        size = adds.size;
        show = record { shown = chain_values kind z x.shown y.shown; holds = adds.literals; wide = chain_length kind z x.shown y.shown (x.wide ∙ sym y.wide) ∙ x.wide; is = is };
        back = subst P next
            (chain_back kind (next_variable s) c (literals_of s a) (literals_of s b)
            (let low = holds_low bits c z hc in omega (arith, low, next))
            (let R : ℕ → Type 0 = λ u. AreLow u (literals_of s a) in subst R (sym next) (all_low bits (literals_of s a) x.shown x.holds))
            (let R : ℕ → Type 0 = λ u. AreLow u (literals_of s b) in subst R (sym next) (all_low bits (literals_of s b) y.shown y.holds)));
        has = has;
        few =
            let count = chain_few kind (next_variable s) c (literals_of s a) (literals_of s b) in
            few_gates kind w (literals_of s a) _ _ w (hold_all_length bits (literals_of s a) x.shown x.holds ∙ x.wide) count (omega arith);
      }

  -- and of a comparison of two nets of one width
  comparison : (kind : Kind) (f : Function) (c a b u : ℕ) (z : Bool) → Holds bits c z → w ≡ 1 → u ≤ w + sum_by (width_of cells) (pins f) → (x : ShowNumber bits (literals_of s a) u (at v a)) (y : ShowNumber bits (literals_of s b) u (at v b))
      → with_function n w f s ≡ with_gates s n (chain_gates kind (next_variable s) c (literals_of s a) (literals_of s b)) (chain_carry kind (next_variable s) c (literals_of s a) (literals_of s b) ∷ [])
      → one_bit (chain_end kind z x.shown y.shown) + 2 * 0 ≡ k
      → HasGates (literals_of s) (next_variable s) f (chain_gates kind (next_variable s) c (literals_of s a) (literals_of s b)) (chain_carry kind (next_variable s) c (literals_of s a) (literals_of s b) ∷ [])
      → LaysNet cells s bits n w k f
  comparison kind f c a b u z hc narrow read x y same is has =
      let adds : Adds bits (chain_gates kind (next_variable s) c (literals_of s a) (literals_of s b)) (chain_literals kind (next_variable s) (literals_of s a) (literals_of s b))
      (chain_values kind z x.shown y.shown) (chain_carry kind (next_variable s) c (literals_of s a) (literals_of s b)) (chain_end kind z x.shown y.shown) =
      chain_adds kind bits (next_variable s) c (literals_of s a) (literals_of s b) z x.shown y.shown next hc x.holds y.holds in
      let P : ℕ → Type 0 = λ u. LookBackFrom u (chain_gates kind (next_variable s) c (literals_of s a) (literals_of s b)) in
      record {
        gs = chain_gates kind (next_variable s) c (literals_of s a) (literals_of s b);
        ls = chain_carry kind (next_variable s) c (literals_of s a) (literals_of s b) ∷ [];
        is = same;
        more = adds.more;
        after = ap (λ (hs : List (ℕ × ℕ)). after_gates hs bits) (sym (append-nil (chain_gates kind (next_variable s) c (literals_of s a) (literals_of s b)))) ∙ adds.after [];
        size = adds.size;
        show = record { shown = chain_end kind z x.shown y.shown ∷ []; holds = (adds.carry, tt); wide = sym narrow; is = is };
        back = subst P next
            (chain_back kind (next_variable s) c (literals_of s a) (literals_of s b)
            (let low = holds_low bits c z hc in omega (arith, low, next))
            (let R : ℕ → Type 0 = λ u. AreLow u (literals_of s a) in subst R (sym next) (all_low bits (literals_of s a) x.shown x.holds))
            (let R : ℕ → Type 0 = λ u. AreLow u (literals_of s b) in subst R (sym next) (all_low bits (literals_of s b) y.shown y.holds)));
        has = has;
        few =
            let count = chain_few kind (next_variable s) c (literals_of s a) (literals_of s b) in
            few_gates kind u (literals_of s a) _ _ w (hold_all_length bits (literals_of s a) x.shown x.holds ∙ x.wide) count read;
      }

  -- a net that has no gates
  plain_net : (f : Function) (ls : List ℕ) → with_function n w f s ≡ with_net s n ls → ShowNumber bits ls w k → HasGates (literals_of s) (next_variable s) f [] ls → LaysNet cells s bits n w k f
  plain_net f ls same show has =
      record {
        gs = [];
        ls = ls;
        is = same ∙ ap (λ (gs : List (ℕ × ℕ)). record s { gates = gs; nets = set s.nets n ls }) (sym (append-nil s.gates));
        more = [];
        after = sym (append-nil bits);
        size = refl;
        show = let P : Bits → Type 0 = λ b. ShowNumber b ls w k in subst P (sym (append-nil bits)) show;
        back = tt;
        has = has;
        few = omega arith;
      }

  -- each kind of cell
  pub lays : (f : Function) → is_source f ≡ false → OperandsFit (widths_of cells) w f → k ≡ shown w f r i (at v) → AllByRecursion Shows (pins f) → LaysNet cells s bits n w k f
  lays net.Input source fit value pin = absurd (cc)
  lays (net.Reg a) source fit value pin = absurd (cc)
  lays (net.Const c) source fit value pin =
      plain_net (net.Const c) (map one_bit (bits_of w c)) refl
      (record { shown = bits_of w c; holds = const_holds bits (bits_of w c) none one; wide = length_bits_of w c; is = number_of_bits_of w c fit ∙ sym value }) refl
  lays (net.Not a) source fit value pin =
      let x = as_wide bits (literals_of s a) (width_of cells a) w (at v a) fit pin.0 in
      let whole = not_number x.shown in
      let size : 2 ^ length x.shown ≡ 2 ^ w = ap (λ (u : ℕ). 2 ^ u) x.wide in
      plain_net (net.Not a) (map complement (literals_of s a)) refl
      (record {
        shown = map not x.shown;
        holds = turned_hold bits (literals_of s a) x.shown x.holds;
        wide = not_length x.shown ∙ x.wide;
        is = omega (arith, whole, size, x.is, value);
      }) refl
  lays (net.And a b) source fit value pin =
      let x = as_wide bits (literals_of s a) (width_of cells a) w (at v a) fit.0 pin.0 in
      let y = as_wide bits (literals_of s b) (width_of cells b) w (at v b) fit.1 pin.1.0 in
      chain And (net.And a b) 0 a b false none x y refl
      (and_number false x.shown y.shown (x.wide ∙ sym y.wide) ∙ ((λ j. bit_and (x.is j) (y.is j)) ∙ sym value))
      (and_gates (next_variable s) 0 (literals_of s a) (literals_of s b), and_literals (next_variable s) 0 (literals_of s a) (literals_of s b))
  lays (net.Or a b) source fit value pin =
      let x = as_wide bits (literals_of s a) (width_of cells a) w (at v a) fit.0 pin.0 in
      let y = as_wide bits (literals_of s b) (width_of cells b) w (at v b) fit.1 pin.1.0 in
      chain Or (net.Or a b) 0 a b false none x y refl
      (or_number false x.shown y.shown (x.wide ∙ sym y.wide) ∙ ((λ j. bit_or (x.is j) (y.is j)) ∙ sym value))
      (or_gates (next_variable s) 0 (literals_of s a) (literals_of s b), or_literals (next_variable s) 0 (literals_of s a) (literals_of s b))
  lays (net.Xor a b) source fit value pin =
      let x = as_wide bits (literals_of s a) (width_of cells a) w (at v a) fit.0 pin.0 in
      let y = as_wide bits (literals_of s b) (width_of cells b) w (at v b) fit.1 pin.1.0 in
      chain Xor (net.Xor a b) 0 a b false none x y refl
      (xor_number false x.shown y.shown (x.wide ∙ sym y.wide) ∙ ((λ j. bit_xor (x.is j) (y.is j)) ∙ sym value)) tt
  lays (net.Mux t a b) source fit value pin =
      let sel = selects bits (literals_of s t) (at v t) (as_wide bits (literals_of s t) (width_of cells t) 1 (at v t) fit.0 pin.0) in
      let x = as_wide bits (literals_of s a) (width_of cells a) w (at v a) fit.1 pin.1.0 in
      let y = as_wide bits (literals_of s b) (width_of cells b) w (at v b) fit.2 pin.1.1.0 in
      chain Mux (net.Mux t a b) (first_literal (literals_of s t)) a b sel.bit sel.holds x y refl
      (mux_number sel.bit x.shown y.shown (x.wide ∙ sym y.wide) ∙ (chosen (at v t) sel.bit _ _ (at v a) (at v b) sel.is x.is y.is ∙ sym value)) tt
  lays (net.Add a b) source fit value pin =
      let x = as_wide bits (literals_of s a) (width_of cells a) w (at v a) fit.0 pin.0 in
      let y = as_wide bits (literals_of s b) (width_of cells b) w (at v b) fit.1 pin.1.0 in
      chain Add (net.Add a b) 0 a b false none x y refl
      (add_number x.shown y.shown (x.wide ∙ sym y.wide) ∙ ((λ j. (x.is j + y.is j) % 2 ^ x.wide j) ∙ sym value)) tt
  lays (net.Sub a b) source fit value pin =
      let x = as_wide bits (literals_of s a) (width_of cells a) w (at v a) fit.0 pin.0 in
      let y = as_wide bits (literals_of s b) (width_of cells b) w (at v b) fit.1 pin.1.0 in
      chain Sub (net.Sub a b) 1 a b true one x y refl
      (sub_number x.shown y.shown (x.wide ∙ sym y.wide) ∙ ((λ j. (x.is j + 2 ^ x.wide j - y.is j) % 2 ^ x.wide j) ∙ sym value)) tt
  lays (net.Eq a b) source fit value pin =
      let x : ShowNumber bits (literals_of s a) (width_of cells a) (at v a) = pin.0 in
      let y = as_wide bits (literals_of s b) (width_of cells b) (width_of cells a) (at v b) (sym fit.0) pin.1.0 in
      comparison Eq (net.Eq a b) 1 a b (width_of cells a) true one fit.1 (omega arith) x y refl
      (as_number (chain_end Eq true x.shown y.shown)
      ∙ (ap (λ (t : Bool). if t then 1 else 0) (eq_end true x.shown y.shown (x.wide ∙ sym y.wide) ∙ (λ j. nat_eq (x.is j) (y.is j))) ∙ sym value)) tt
  lays (net.Less a b) source fit value pin =
      let x : ShowNumber bits (literals_of s a) (width_of cells a) (at v a) = pin.0 in
      let y = as_wide bits (literals_of s b) (width_of cells b) (width_of cells a) (at v b) (sym fit.0) pin.1.0 in
      let last : number_of_bits y.shown + one_bit false ≡ at v b = omega (arith, y.is) in
      comparison Less (net.Less a b) 0 a b (width_of cells a) false none fit.1 (omega arith) x y refl
      (as_number (chain_end Less false x.shown y.shown)
      ∙ (ap (λ (t : Bool). if t then 1 else 0) (less_end false x.shown y.shown (x.wide ∙ sym y.wide) ∙ (λ j. nat_lt (x.is j) (last j))) ∙ sym value)) tt
  lays (net.Gate t a) source fit value pin =
      let sel = selects bits (literals_of s t) (at v t) (as_wide bits (literals_of s t) (width_of cells t) 1 (at v t) fit.0 pin.0) in
      let x = as_wide bits (literals_of s a) (width_of cells a) w (at v a) fit.1 pin.1.0 in
      chain Gate (net.Gate t a) (first_literal (literals_of s t)) a a sel.bit sel.holds x x refl
      (gate_number sel.bit x.shown x.shown refl ∙ (chosen (at v t) sel.bit _ 0 (at v a) 0 sel.is x.is refl ∙ sym value))
      (gate_gates (next_variable s) (first_literal (literals_of s t)) (literals_of s a), gate_literals (next_variable s) (first_literal (literals_of s t)) (literals_of s a) (literals_of s a))
