-- One cycle: with the bits of its inputs and registers, every net's literals show what the net does.
use Rattle.std.specs.Prelude.{◌≡◌, ℕ, zero, suc, ◌+◌, ◌^◌, ◌<◌, ◌⊎◌, true, false, List, [], ◌∷◌, ◌++◌, length, map, replicate, Some, slice_get, if◌then◌else◌}
use Rattle.std.specs.List.{AllByRecursion}
use Rattle.std.proofs.Common.{arith, refl, sym, ap, subst, inl, inr, ◌∙◌}
use Rattle.std.proofs.lemmas.List.{append-nil, map-append}
use Rattle.std.proofs.lemmas.Option.{slice_get-get_or}
use Rattle.gos_netlist.specs.Nets.{Function, Input, Reg, Cell}
use Rattle.gos_netlist.specs.Nets as net
use Rattle.gos_netlist.specs.Settling.{Numbers, at, shown, Settling}
use Rattle.gos_netcheck.specs.CellRules.{WidthsFit}
use Rattle.gos_gates.specs.Gates.{Bits, shown_by, after_gates}
use Rattle.gos_gates.specs.Bits.{bits_of}
use Rattle.gos_gates.specs.Lowered.{width_of, bits_at, is_register, registers_from}
use Rattle.gos_gates.specs.inner.Adding.{number_of_bits}
use Rattle.gos_gates.specs.inner.Laying.{Laid, literals_of, literals_at, held_nets, register_pins, with_sources, with_cells, nothing_laid, cell_at, no_cell}
use Rattle.gos_gates.specs.inner.Standing.{HoldAll, ShowNumber, LookBackFrom, is_source, Among, IsLaid, ComeInOrder, Stands}
use Rattle.gos_gates.proofs.KindLemmas.{bits_of_number, length_bits_of, number_low, number_of_bits_of}
use Rattle.gos_gates.proofs.ChainLemmas.{hold_all_shown}
use Rattle.gos_gates.proofs.StandLemmas.{LaysAll, all_laid}
use Rattle.gos_gates.proofs.SourceLemmas.{NoTwice, SourcesShow, sources_show}

-- what the lists of inputs and registers, and the order of the cells, keep
pub record AreSources (cells : List Cell) (ins regs order : List ℕ) : Type 0 where
  pub inputs_apart : NoTwice ins
  pub registers_apart : NoTwice regs
  pub inputs_low : AllByRecursion (λ n. n < length cells) ins
  pub registers_low : AllByRecursion (λ n. n < length cells) regs
  pub inputs : (m : ℕ) → Among m ins → (cell_at cells m).gate ≡ Input
  pub registers : (m : ℕ) → Among m regs → (a : ℕ) × ((cell_at cells m).gate ≡ Reg a)
  pub covered : (m : ℕ) → m < length cells → is_source (cell_at cells m).gate ≡ true → Among m ins ⊎ Among m regs
  pub all : (m : ℕ) → m < length cells → Among m order
  pub ordered : ComeInOrder cells order

all_low : (xs : List ℕ) (m n : ℕ) → m ≡ n → AllByRecursion (λ k. k < m) xs → AllByRecursion (λ k. k < n) xs
all_low [] m n e h = tt
all_low (x ∷ xs) m n e h = (omega (arith, e, h.0), all_low xs m n e h.1)

module _ (cells : List Cell) (fits : WidthsFit cells) (ins regs order : List ℕ) (are : AreSources cells ins regs order) (held given v : Numbers) (settled : Settling cells held given v)
    (held_low : (m : ℕ) → Among m regs → at held m < 2 ^ width_of cells m) (given_low : (m : ℕ) → Among m ins → at given m < 2 ^ width_of cells m) where
  abbrev none : Laid
  none = nothing_laid cells

  abbrev first : Laid
  first = with_sources cells ins none

  abbrev sources : Laid
  sources = with_sources cells regs first

  abbrev bits : Bits
  bits = false ∷ (bits_at cells ins given ++ bits_at cells regs held)

  nets_none : length none.nets ≡ length cells
  nets_none = size (length cells)
    where
      size : (n : ℕ) → length (replicate {A = List ℕ} n []) ≡ n
      size zero = refl
      size (suc n) = ap suc (size n)

  inputs_show : SourcesShow cells given ins none (false ∷ []) (bits_at cells regs held)
  inputs_show = sources_show cells given ins none (false ∷ []) (bits_at cells regs held) refl are.inputs_apart (all_low ins (length cells) (length none.nets) (sym nets_none) are.inputs_low)

  registers_show : SourcesShow cells held regs first (false ∷ bits_at cells ins given) []
  registers_show =
      sources_show cells held regs first (false ∷ bits_at cells ins given) [] inputs_show.base are.registers_apart
      (all_low regs (length cells) (length first.nets) (sym (inputs_show.nets ∙ nets_none)) are.registers_low)

  input_not_register : (m a : ℕ) → (cell_at cells m).gate ≡ Input → (cell_at cells m).gate ≡ Reg a → ⊥
  input_not_register m a e f = cc (sym e ∙ f)

  value : (m : ℕ) → m < length cells → at v m ≡ shown (cell_at cells m).width (cell_at cells m).gate (at held m) (at given m) (at v)
  value m low = settled.1 m (cell_at cells m) (slice_get-get_or cells m no_cell low)

  -- a net whose bits are given
  shows_given : (m k : ℕ) (ls : List ℕ) → HoldAll bits ls (bits_of (width_of cells m) k) → k < 2 ^ width_of cells m → at v m ≡ k → ShowNumber bits ls (width_of cells m) (at v m)
  shows_given m k ls holds low is =
      record { shown = bits_of (width_of cells m) k; holds = holds; wide = length_bits_of (width_of cells m) k; is = number_of_bits_of (width_of cells m) k low ∙ sym is }

  show_input : (m : ℕ) → m < length cells → Among m ins → ShowNumber bits (literals_of sources m) (width_of cells m) (at v m)
  show_input m low among =
      let f : (cell_at cells m).gate ≡ Input = are.inputs m among in
      let apart : Among m regs → ⊥ = λ h. let r = are.registers m h in input_not_register m r.0 f r.1 in
      let P : List ℕ → Type 0 = λ ls. HoldAll bits ls (bits_of (width_of cells m) (at given m)) in
      shows_given m (at given m) (literals_of sources m) (subst P (sym (registers_show.others m apart)) (inputs_show.show m among)) (given_low m among)
      (value m low ∙ ap (λ (g : Function). shown (cell_at cells m).width g (at held m) (at given m) (at v)) f)

  show_register : (m : ℕ) → m < length cells → Among m regs → ShowNumber bits (literals_of sources m) (width_of cells m) (at v m)
  show_register m low among =
      let r = are.registers m among in
      let e : (false ∷ bits_at cells ins given) ++ (bits_at cells regs held ++ []) ≡ bits = ap (λ (b : Bits). (false ∷ bits_at cells ins given) ++ b) (append-nil (bits_at cells regs held)) in
      let P : Bits → Type 0 = λ b. HoldAll b (literals_of sources m) (bits_of (width_of cells m) (at held m)) in
      shows_given m (at held m) (literals_of sources m) (subst P e (registers_show.show m among)) (held_low m among)
      (value m low ∙ ap (λ (g : Function). shown (cell_at cells m).width g (at held m) (at given m) (at v)) r.1)

  no_gates : sources.gates ≡ []
  no_gates = registers_show.gates ∙ inputs_show.gates

  stands_first : Stands cells v bits sources order
  stands_first =
      record {
        sources = registers_show.base;
        nets = registers_show.nets ∙ (inputs_show.nets ∙ nets_none);
        back = let P : List (ℕ × ℕ) → Type 0 = λ gs. LookBackFrom sources.base gs in subst P (sym no_gates) tt;
        show = λ m low laid. let P : List (ℕ × ℕ) → Type 0 = λ gs. ShowNumber (after_gates gs bits) (literals_of sources m) (width_of cells m) (at v m) in subst P (sym no_gates) (by_laid m low laid);
      }
    where
      by_laid : (m : ℕ) → m < length cells → IsLaid cells order m → ShowNumber bits (literals_of sources m) (width_of cells m) (at v m)
      by_laid m low (inr fresh) = absurd (fresh (are.all m low))
      by_laid m low (inl source) = by_source (are.covered m low source)
        where
          by_source : Among m ins ⊎ Among m regs → ShowNumber bits (literals_of sources m) (width_of cells m) (at v m)
          by_source (inl input) = show_input m low input
          by_source (inr register) = show_register m low register

  -- every net shows what it does, and the gates of each cell stand in the order of the cells
  pub cycle_shows : LaysAll cells v bits sources order
  cycle_shows = all_laid cells fits held given v settled bits (λ done. refl) order sources stands_first are.ordered

  -- so do the literals of nets, one net behind another
  pub nets_show : (ns : List ℕ) → AllByRecursion (λ n. n < length cells) ns
      → map (shown_by (after_gates (with_cells cells order sources).gates bits)) (literals_at (with_cells cells order sources) ns) ≡ bits_at cells ns v
  nets_show [] low = refl
  nets_show (n ∷ ns) low =
      let final : Laid = with_cells cells order sources in
      let all : Bits = after_gates final.gates bits in
      let show : ShowNumber all (literals_of final n) (width_of cells n) (at v n) = cycle_shows.stands.show n low.0 (inr (λ h. h)) in
      let here : map (shown_by all) (literals_of final n) ≡ show.shown = hold_all_shown all (literals_of final n) show.shown show.holds in
      let same : bits_of (width_of cells n) (at v n) ≡ show.shown = (λ i. bits_of (sym show.wide i) (sym show.is i)) ∙ bits_of_number show.shown in
      map-append (shown_by all) (literals_of final n) (literals_at final ns) ∙ (λ i. (here ∙ sym same) i ++ nets_show ns low.1 i)

  -- the value of a net is one of its bits
  pub value_low : (n : ℕ) → n < length cells → at v n < 2 ^ width_of cells n
  value_low n low =
      let final : Laid = with_cells cells order sources in
      let show : ShowNumber (after_gates final.gates bits) (literals_of final n) (width_of cells n) (at v n) = cycle_shows.stands.show n low (inr (λ h. h)) in
      let Q : ℕ → Type 0 = λ w. number_of_bits show.shown < 2 ^ w in
      let R : ℕ → Type 0 = λ k. k < 2 ^ width_of cells n in
      subst R show.is (subst Q show.wide (number_low show.shown))

-- what registers take over is the bits of their pins
pub next_bits : (whole cells : List Cell) (n : ℕ) (v next : Numbers) → ((k : ℕ) (c : Cell) (a : ℕ) → slice_get cells k ≡ Some c → c.gate ≡ Reg a → (width_of whole a ≡ width_of whole (n + k)) × (at next (n + k) ≡ at v a))
    → bits_at whole (held_nets cells) v ≡ bits_at whole (registers_from n cells) next
next_bits whole [] n v next fit = refl
next_bits whole (c ∷ cs) n v next fit = by_kind c.gate refl (next_bits whole cs (suc n) v next (λ k x a is e. rest k x a is e))
  where
    rest : (k : ℕ) (x : Cell) (a : ℕ) → slice_get cs k ≡ Some x → x.gate ≡ Reg a → (width_of whole a ≡ width_of whole (suc n + k)) × (at next (suc n + k) ≡ at v a)
    rest k x a is e =
        let shift : n + suc k ≡ suc n + k = omega arith in
        let P : ℕ → Type 0 = λ j. (width_of whole a ≡ width_of whole j) × (at next j ≡ at v a) in
        subst P shift (fit (suc k) x a is e)

    by_kind : (f : Function) → c.gate ≡ f → bits_at whole (held_nets cs) v ≡ bits_at whole (registers_from (suc n) cs) next → bits_at whole (register_pins f ++ held_nets cs) v ≡ bits_at whole ((if is_register f then n ∷ [] else []) ++ registers_from (suc n) cs) next
    by_kind (Reg a) e more =
        let z : n + 0 ≡ n = omega arith in
        let P : ℕ → Type 0 = λ j. (width_of whole a ≡ width_of whole j) × (at next j ≡ at v a) in
        let here = subst P z (fit 0 c a refl e) in
        (λ i. bits_of (here.0 i) (sym here.1 i) ++ more i)
    by_kind Input e more = more
    by_kind (net.Const k) e more = more
    by_kind (net.Not a) e more = more
    by_kind (net.And a b) e more = more
    by_kind (net.Or a b) e more = more
    by_kind (net.Xor a b) e more = more
    by_kind (net.Mux x a b) e more = more
    by_kind (net.Add a b) e more = more
    by_kind (net.Sub a b) e more = more
    by_kind (net.Eq a b) e more = more
    by_kind (net.Less a b) e more = more
    by_kind (net.Gate x a) e more = more
