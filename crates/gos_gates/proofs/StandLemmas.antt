-- Cells one after another: where each comes behind its pins, all nets show what they do in the end.
use Rattle.std.specs.Prelude.{◌≡◌, ℕ, zero, suc, ◌+◌, ◌*◌, ◌<◌, ◌≤◌, ◌⊎◌, Bool, true, false, ◌&&◌, List, [], ◌∷◌, ◌++◌, length, Some, slice_get}
use Rattle.std.specs.List.{AllByRecursion}
use Rattle.std.proofs.Common.{arith, refl, sym, ap, subst, inl, inr, ◌∙◌, length-append, append_assoc, get_or-set_same, get_or-set_other}
use Rattle.std.proofs.lemmas.List.{append-nil, length-set}
use Rattle.std.proofs.lemmas.Bool.{cases_eq}
use Rattle.std.proofs.lemmas.Option.{slice_get-get_or}
use Rattle.gos_netlist.specs.Nets.{Function, Cell, pins}
use Rattle.gos_netlist.specs.Nets as net
use Rattle.gos_netlist.specs.Settling.{Numbers, at, Settling}
use Rattle.gos_netcheck.specs.CellRules.{WidthsFit}
use Rattle.gos_gates.specs.Gates.{Bits, shown_by, after_gates}
use Rattle.gos_gates.specs.Lowered.{width_of, units, HasGates, AreBlocks}
use Rattle.gos_gates.specs.inner.Laying.{Laid, literals_of, next_variable, with_function, with_cell, with_cells, cell_at, no_cell}
use Rattle.gos_gates.specs.inner.Standing.{Holds, HoldAll, ShowNumber, LookBackFrom, is_source, Among, IsLaid, ComeInOrder, Stands}
use Rattle.gos_gates.proofs.GateLemmas.{after_append}
use Rattle.gos_gates.proofs.BitLemmas.{holds_on}
use Rattle.gos_gates.proofs.ChainLemmas.{hold_all_on}
use Rattle.gos_gates.proofs.BackLemmas.{back_append}
use Rattle.gos_gates.proofs.CellLemmas.{LaysNet, lays}

-- what gates show stands behind what was shown before
pub record Behind (gs : List (ℕ × ℕ)) (bits : Bits) : Type 0 where
  pub more : Bits
  pub is : after_gates gs bits ≡ bits ++ more
  pub size : length more ≡ length gs

pub behind : (gs : List (ℕ × ℕ)) (bits : Bits) → Behind gs bits
behind [] bits = record { more = []; is = sym (append-nil bits); size = refl }
behind (g ∷ gs) bits =
    let new : Bool = shown_by bits g.0 && shown_by bits g.1 in
    let rest = behind gs (bits ++ new ∷ []) in
    record { more = new ∷ rest.more; is = rest.is ∙ append_assoc bits (new ∷ []) rest.more; size = ap suc rest.size }

pub after_length : (gs : List (ℕ × ℕ)) (bits : Bits) → length (after_gates gs bits) ≡ length bits + length gs
after_length gs bits =
    let b = behind gs bits in
    omega (arith, ap length b.is, length-append bits b.more, b.size)

-- the width of a net is that of its cell
pub width_is : (cells : List Cell) (n : ℕ) → width_of cells n ≡ (cell_at cells n).width
width_is [] n = refl
width_is (c ∷ cells) zero = refl
width_is (c ∷ cells) (suc n) = width_is cells n

source_same : (n w : ℕ) (f : Function) (s : Laid) → is_source f ≡ true → with_function n w f s ≡ s
source_same n w net.Input s e = refl
source_same n w (net.Const k) s e = absurd (cc)
source_same n w (net.Not a) s e = absurd (cc)
source_same n w (net.And a b) s e = absurd (cc)
source_same n w (net.Or a b) s e = absurd (cc)
source_same n w (net.Xor a b) s e = absurd (cc)
source_same n w (net.Mux x a b) s e = absurd (cc)
source_same n w (net.Add a b) s e = absurd (cc)
source_same n w (net.Sub a b) s e = absurd (cc)
source_same n w (net.Eq a b) s e = absurd (cc)
source_same n w (net.Less a b) s e = absurd (cc)
source_same n w (net.Gate x a) s e = absurd (cc)
source_same n w (net.Reg a) s e = refl

-- sources have no gates
source_has : (of : ℕ → List ℕ) (v : ℕ) (f : Function) (ls : List ℕ) → is_source f ≡ true → HasGates of v f [] ls
source_has of v net.Input ls e = refl
source_has of v (net.Const k) ls e = absurd (cc)
source_has of v (net.Not a) ls e = absurd (cc)
source_has of v (net.And a b) ls e = absurd (cc)
source_has of v (net.Or a b) ls e = absurd (cc)
source_has of v (net.Xor a b) ls e = absurd (cc)
source_has of v (net.Mux x a b) ls e = absurd (cc)
source_has of v (net.Add a b) ls e = absurd (cc)
source_has of v (net.Sub a b) ls e = absurd (cc)
source_has of v (net.Eq a b) ls e = absurd (cc)
source_has of v (net.Less a b) ls e = absurd (cc)
source_has of v (net.Gate x a) ls e = absurd (cc)
source_has of v (net.Reg a) ls e = refl

-- the gates of a cell speak of its pins' literals alone
has_same : (of also : ℕ → List ℕ) (v : ℕ) (f : Function) (gs : List (ℕ × ℕ)) (ls : List ℕ) → AllByRecursion (λ a. of a ≡ also a) (pins f) → HasGates of v f gs ls → HasGates also v f gs ls
has_same of also v net.Input gs ls same has = has
has_same of also v (net.Const k) gs ls same has = has
has_same of also v (net.Not a) gs ls same has = has
has_same of also v (net.And a b) gs ls same has =
    rw (sym same.0, sym same.1.0) has
has_same of also v (net.Or a b) gs ls same has = rw (sym same.0, sym same.1.0) has
has_same of also v (net.Xor a b) gs ls same has = tt
has_same of also v (net.Mux x a b) gs ls same has = tt
has_same of also v (net.Add a b) gs ls same has = tt
has_same of also v (net.Sub a b) gs ls same has = tt
has_same of also v (net.Eq a b) gs ls same has = tt
has_same of also v (net.Less a b) gs ls same has = tt
has_same of also v (net.Gate x a) gs ls same has = rw (sym same.0, sym same.1.0) has
has_same of also v (net.Reg a) gs ls same has = has

source_any : (of also : ℕ → List ℕ) (v : ℕ) (f : Function) (gs : List (ℕ × ℕ)) (ls : List ℕ) → is_source f ≡ true → HasGates of v f gs ls → HasGates also v f gs ls
source_any of also v net.Input gs ls e has = has
source_any of also v (net.Const k) gs ls e has = has
source_any of also v (net.Not a) gs ls e has = has
source_any of also v (net.And a b) gs ls e has = absurd (cc)
source_any of also v (net.Or a b) gs ls e has = absurd (cc)
source_any of also v (net.Xor a b) gs ls e has = absurd (cc)
source_any of also v (net.Mux x a b) gs ls e has = absurd (cc)
source_any of also v (net.Add a b) gs ls e has = absurd (cc)
source_any of also v (net.Sub a b) gs ls e has = absurd (cc)
source_any of also v (net.Eq a b) gs ls e has = absurd (cc)
source_any of also v (net.Less a b) gs ls e has = absurd (cc)
source_any of also v (net.Gate x a) gs ls e has = absurd (cc)
source_any of also v (net.Reg a) gs ls e has = has

-- a net that is laid stays so
stays_laid : (cells : List Cell) (n : ℕ) (ns : List ℕ) (m : ℕ) → IsLaid cells (n ∷ ns) m → IsLaid cells ns m
stays_laid cells n ns m (inl source) = inl source
stays_laid cells n ns m (inr none) = inr (λ h. none (inr h))

-- a net other than the first that is to come was laid before
was_laid : (cells : List Cell) (n : ℕ) (ns : List ℕ) (m : ℕ) → (m ≡ n → ⊥) → IsLaid cells ns m → IsLaid cells (n ∷ ns) m
was_laid cells n ns m other (inl source) = inl source
was_laid cells n ns m other (inr none) = inr again
  where
    again : (m ≡ n) ⊎ Among m ns → ⊥
    again (inl same) = other same
    again (inr later) = none later

-- what comes of laying all of these nets
pub record LaysAll (cells : List Cell) (v : Numbers) (given : Bits) (s : Laid) (ns : List ℕ) : Type 0 where
  pub gs : List (ℕ × ℕ)
  pub is : (with_cells cells ns s).gates ≡ s.gates ++ gs
  pub blocks : AreBlocks cells (literals_of (with_cells cells ns s)) (next_variable s) ns gs
  pub stands : Stands cells v given (with_cells cells ns s) []
  pub kept : (m : ℕ) → IsLaid cells ns m → literals_of (with_cells cells ns s) m ≡ literals_of s m
  pub base : (with_cells cells ns s).base ≡ s.base

-- one net more
pub record LaysOne (cells : List Cell) (v : Numbers) (given : Bits) (s : Laid) (n : ℕ) (ns : List ℕ) : Type 0 where
  pub gs : List (ℕ × ℕ)
  pub is : (with_cell cells n s).gates ≡ s.gates ++ gs
  pub base : (with_cell cells n s).base ≡ s.base
  pub has : HasGates (literals_of s) (next_variable s) (cell_at cells n).gate gs (literals_of (with_cell cells n s) n)
  pub few : length gs ≤ 8 * units cells (cell_at cells n)
  pub others : (m : ℕ) → (m ≡ n → ⊥) → literals_of (with_cell cells n s) m ≡ literals_of s m
  pub source : is_source (cell_at cells n).gate ≡ true → literals_of (with_cell cells n s) n ≡ literals_of s n
  pub stands : Stands cells v given (with_cell cells n s) ns

module _ (cells : List Cell) (fits : WidthsFit cells) (regs ins v : Numbers) (settled : Settling cells regs ins v) (given : Bits) (none : Holds given 0 false)
    (s : Laid) (n : ℕ) (ns : List ℕ) (before : Stands cells v given s (n ∷ ns)) (low : n < length cells) where
  abbrev bits : Bits
  bits = after_gates s.gates given

  abbrev cell : Cell
  cell = cell_at cells n

  there : slice_get cells n ≡ Some cell
  there = slice_get-get_or cells n no_cell low

  next : next_variable s ≡ length bits
  next = omega (arith, after_length s.gates given, before.sources)

  still : Holds bits 0 false
  still =
      let b = behind s.gates given in
      let P : Bits → Type 0 = λ x. Holds x 0 false in
      subst P (sym b.is) (holds_on given b.more 0 false none)

  -- an input or a register is there already
  given_one : is_source cell.gate ≡ true → LaysOne cells v given s n ns
  given_one source =
      let same : with_cell cells n s ≡ s = source_same n cell.width cell.gate s source in
      let P : Laid → Type 0 = λ x. Stands cells v given x ns in
      record {
        gs = [];
        is = ap (λ (x : Laid). x.gates) same ∙ sym (append-nil s.gates);
        base = ap (λ (x : Laid). x.base) same;
        has = source_has (literals_of s) (next_variable s) cell.gate _ source;
        few = omega arith;
        others = λ m other. ap (λ (x : Laid). literals_of x m) same;
        source = λ _. ap (λ (x : Laid). literals_of x n) same;
        stands = subst P (sym same) (record { sources = before.sources; nets = before.nets; back = before.back; show = show });
      }
    where
      show : (m : ℕ) → m < length cells → IsLaid cells ns m → ShowNumber (after_gates s.gates given) (literals_of s m) (width_of cells m) (at v m)
      show m there laid = by_net (cases_eq m n)
        where
          by_net : (m ≡ n) ⊎ (m ≡ n → ⊥) → ShowNumber (after_gates s.gates given) (literals_of s m) (width_of cells m) (at v m)
          by_net (inl same) = before.show m there (inl (ap (λ (k : ℕ). is_source (cell_at cells k).gate) same ∙ source))
          by_net (inr other) = before.show m there (was_laid cells n ns m other laid)

  -- any other net is laid
  laid_one : is_source cell.gate ≡ false → AllByRecursion (λ a. (a < length cells) × IsLaid cells (n ∷ ns) a) (pins cell.gate) → LaysOne cells v given s n ns
  laid_one made pin =
      record {
        gs = l.gs;
        is = ap (λ (x : Laid). x.gates) l.is;
        base = ap (λ (x : Laid). x.base) l.is;
        has = let P : List ℕ → Type 0 = λ ls. HasGates (literals_of s) (next_variable s) cell.gate l.gs ls in subst P (sym own) l.has;
        few = omega (arith, l.few, wide);
        others = others;
        source = λ source. absurd (true_is_false (sym source ∙ made));
        stands = record {
          sources = ap (λ (x : Laid). x.base) l.is ∙ before.sources;
          nets = ap (λ (x : Laid). length x.nets) l.is ∙ (length-set s.nets n l.ls ∙ before.nets);
          back = let P : Laid → Type 0 = λ x. LookBackFrom x.base x.gates in subst P (sym l.is) (back_append s.base s.gates l.gs before.back (let Q : ℕ → Type 0 = λ k. LookBackFrom k l.gs in subst Q (sym next) l.back));
          show = show;
        };
      }
    where
      true_is_false : true ≡ false → ⊥
      true_is_false e = cc

      all_pins : (ps : List ℕ) → AllByRecursion (λ a. (a < length cells) × IsLaid cells (n ∷ ns) a) ps → AllByRecursion (λ a. ShowNumber bits (literals_of s a) (width_of cells a) (at v a)) ps
      all_pins [] h = tt
      all_pins (a ∷ ps) h = (before.show a h.0.0 h.0.1, all_pins ps h.1)

      wide : width_of cells n ≡ cell.width
      wide = width_is cells n

      l : LaysNet cells s bits n cell.width (at v n) cell.gate
      l = lays cells v s bits n cell.width (at v n) (at regs n) (at ins n) next still cell.gate made (fits n cell there).2 (settled.1 n cell there) (all_pins (pins cell.gate) pin)

      own : literals_of (with_cell cells n s) n ≡ l.ls
      own = ap (λ (x : Laid). literals_of x n) l.is ∙ get_or-set_same s.nets n l.ls [] (omega (arith, low, before.nets))

      others : (m : ℕ) → (m ≡ n → ⊥) → literals_of (with_cell cells n s) m ≡ literals_of s m
      others m other = ap (λ (x : Laid). literals_of x m) l.is ∙ get_or-set_other s.nets n m l.ls [] other

      shown_now : after_gates (with_cell cells n s).gates given ≡ bits ++ l.more
      shown_now = ap (λ (x : Laid). after_gates x.gates given) l.is ∙ (after_append s.gates l.gs given ∙ l.after)

      show : (m : ℕ) → m < length cells → IsLaid cells ns m → ShowNumber (after_gates (with_cell cells n s).gates given) (literals_of (with_cell cells n s) m) (width_of cells m) (at v m)
      show m there laid = by_net (cases_eq m n)
        where
          by_net : (m ≡ n) ⊎ (m ≡ n → ⊥) → ShowNumber (after_gates (with_cell cells n s).gates given) (literals_of (with_cell cells n s) m) (width_of cells m) (at v m)
          by_net (inl same) =
              let P : ℕ → Type 0 = λ k. ShowNumber (after_gates (with_cell cells n s).gates given) (literals_of (with_cell cells n s) k) (width_of cells k) (at v k) in
              subst P (sym same)
              (record {
                shown = l.show.shown;
                holds =
                    let Q : Bits → Type 0 = λ b. HoldAll b (literals_of (with_cell cells n s) n) l.show.shown in
                    let R : List ℕ → Type 0 = λ ls. HoldAll (bits ++ l.more) ls l.show.shown in
                    subst Q (sym shown_now) (subst R (sym own) l.show.holds);
                wide = l.show.wide ∙ sym wide;
                is = l.show.is;
              })
          by_net (inr other) =
              let old = before.show m there (was_laid cells n ns m other laid) in
              record {
                shown = old.shown;
                holds =
                    let Q : Bits → Type 0 = λ b. HoldAll b (literals_of (with_cell cells n s) m) old.shown in
                    let R : List ℕ → Type 0 = λ ls. HoldAll (bits ++ l.more) ls old.shown in
                    subst Q (sym shown_now) (subst R (sym (others m other)) (hold_all_on bits l.more (literals_of s m) old.shown old.holds));
                wide = old.wide;
                is = old.is;
              }

  pub one_laid : (is_source cell.gate ≡ false → AllByRecursion (λ a. (a < length cells) × IsLaid cells (n ∷ ns) a) (pins cell.gate)) → LaysOne cells v given s n ns
  one_laid pin = by_source (is_source cell.gate) refl
    where
      by_source : (b : Bool) → is_source cell.gate ≡ b → LaysOne cells v given s n ns
      by_source true e = given_one e
      by_source false e = laid_one e (pin e)

module _ (cells : List Cell) (fits : WidthsFit cells) (regs ins v : Numbers) (settled : Settling cells regs ins v) (given : Bits) (none : Holds given 0 false) where
  pub all_laid : (ns : List ℕ) (s : Laid) → Stands cells v given s ns → ComeInOrder cells ns → LaysAll cells v given s ns
  all_laid [] s before order =
      record { gs = []; is = sym (append-nil s.gates); blocks = refl; stands = before; kept = λ m laid. refl; base = refl }
  all_laid (n ∷ ns) s before order =
      let one = one_laid cells fits regs ins v settled given none s n ns before order.0 order.2 in
      let rest : LaysAll cells v given (with_cell cells n s) ns = all_laid ns (with_cell cells n s) one.stands order.3 in
      let end : Laid = with_cells cells ns (with_cell cells n s) in
      let own : literals_of (with_cell cells n s) n ≡ literals_of end n = sym (rest.kept n (inr order.1)) in
      let later : next_variable (with_cell cells n s) ≡ next_variable s + length one.gs =
      omega (arith, one.base, ap length one.is, length-append s.gates one.gs) in
      let P : ℕ → Type 0 = λ k. AreBlocks cells (literals_of end) k ns rest.gs in
      record {
        gs = one.gs ++ rest.gs;
        is = rest.is ∙ (ap (λ (gs : List (ℕ × ℕ)). gs ++ rest.gs) one.is ∙ append_assoc s.gates one.gs rest.gs);
        blocks = (
          one.gs,
          rest.gs,
          refl,
          record {
            cell = cell_at cells n;
            is = slice_get-get_or cells n no_cell order.0;
            gates = let Q : List ℕ → Type 0 = λ ls. HasGates (literals_of end) (next_variable s) (cell_at cells n).gate one.gs ls in subst Q own (gates one rest);
            few = one.few;
          },
          subst P later rest.blocks,
        );
        stands = rest.stands;
        kept = kept one rest;
        base = rest.base ∙ one.base;
      }
    where
      -- a net that was laid is as it was after one more
      same_after : LaysOne cells v given s n ns → (m : ℕ) → IsLaid cells (n ∷ ns) m → literals_of (with_cell cells n s) m ≡ literals_of s m
      same_after one m laid = by_net (cases_eq m n)
        where
          by_net : (m ≡ n) ⊎ (m ≡ n → ⊥) → literals_of (with_cell cells n s) m ≡ literals_of s m
          by_net (inr other) = one.others m other
          by_net (inl same) = by_laid laid
            where
              by_laid : IsLaid cells (n ∷ ns) m → literals_of (with_cell cells n s) m ≡ literals_of s m
              by_laid (inl source) =
                  let P : ℕ → Type 0 = λ k. literals_of (with_cell cells n s) k ≡ literals_of s k in
                  subst P (sym same) (one.source (ap (λ (k : ℕ). is_source (cell_at cells k).gate) (sym same) ∙ source))
              by_laid (inr fresh) = absurd (fresh (inl same))

      kept : LaysOne cells v given s n ns → LaysAll cells v given (with_cell cells n s) ns → (m : ℕ) → IsLaid cells (n ∷ ns) m
          → literals_of (with_cells cells ns (with_cell cells n s)) m ≡ literals_of s m
      kept one rest m laid = rest.kept m (stays_laid cells n ns m laid) ∙ same_after one m laid

      same_pins : (ps : List ℕ) → AllByRecursion (λ a. (a < length cells) × IsLaid cells (n ∷ ns) a) ps → LaysOne cells v given s n ns → LaysAll cells v given (with_cell cells n s) ns
          → AllByRecursion (λ a. literals_of s a ≡ literals_of (with_cells cells ns (with_cell cells n s)) a) ps
      same_pins [] h one rest = tt
      same_pins (a ∷ ps) h one rest = (sym (kept one rest a h.0.1), same_pins ps h.1 one rest)

      gates : (one : LaysOne cells v given s n ns) → LaysAll cells v given (with_cell cells n s) ns
          → HasGates (literals_of (with_cells cells ns (with_cell cells n s))) (next_variable s) (cell_at cells n).gate one.gs (literals_of (with_cell cells n s) n)
      gates one rest = by_source (is_source (cell_at cells n).gate) refl
        where
          by_source : (b : Bool) → is_source (cell_at cells n).gate ≡ b
              → HasGates (literals_of (with_cells cells ns (with_cell cells n s))) (next_variable s) (cell_at cells n).gate one.gs (literals_of (with_cell cells n s) n)
          by_source true e = source_any (literals_of s) (literals_of (with_cells cells ns (with_cell cells n s))) (next_variable s) (cell_at cells n).gate one.gs _ e one.has
          by_source false e =
              has_same (literals_of s) (literals_of (with_cells cells ns (with_cell cells n s))) (next_variable s) (cell_at cells n).gate one.gs _ (same_pins (pins (cell_at cells n).gate) (order.2 e) one rest) one.has
