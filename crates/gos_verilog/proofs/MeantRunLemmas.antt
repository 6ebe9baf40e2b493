-- The runs of a module that means an accepted netlist are the netlist's, cycle by cycle: both have the same registers.
use Rattle.std.proofs.Common.{◌≡◌, ℕ, zero, suc, ◌^◌, ◌<◌, ◌≤◌, ◌↔◌, true, false, List, [], ◌∷◌, length, replicate, Some, refl, sym, ◌∙◌, ap, subst, arith, slice_get}
use Rattle.gos_netlist.specs.Nets.{Function, Input, Reg, Cell, Netlist}
use Rattle.gos_netlist.specs.Cycles.{IsRegister}
use Rattle.gos_netlist.specs.Settling.{Numbers, at, next_of, next_registers, shown, RunFrom, Settling}
use Rattle.gos_netcheck.specs.Accepted.{IsAccepted}
use Rattle.gos_netcheck.specs.CellRules.{OperandsFit, widths_of}
use Rattle.gos_verilog.specs.Meaning.{Module, PortValues, is_clocked, HoldBits, Means}
use Rattle.gos_verilog.specs.MeantRuns.{ModuleRunsFrom, InputsGiven, OutputsShown, RunsAreMeant}
use Rattle.gos_verilog.proofs.BitLemmas.{BigPin, GrowsBig, big_shown, bit_at, cell_there, selectors}
use Rattle.gos_verilog.proofs.MeaningLemmas.{register_shows}

-- two lists of registers that are the same to all cells
abbrev AreAlike : List Cell → Numbers → Numbers → Type 0
AreAlike cells regs others = (n : ℕ) (c : Cell) → slice_get cells n ≡ Some c → is_clocked c.gate ≡ true → at regs n ≡ at others n

shows_same : (w : ℕ) (f : Function) (r s i : ℕ) (v : ℕ → ℕ) → (is_clocked f ≡ true → r ≡ s) → shown w f r i v ≡ shown w f s i v
shows_same w (Reg a) r s i v same = same refl
shows_same w f r s i v same = refl

settles_same : (cells : List Cell) (regs others ins v : Numbers) → AreAlike cells regs others → Settling cells regs ins v → Settling cells others ins v
settles_same cells regs others ins v alike settles =
    (settles.0, λ n c is. settles.1 n c is ∙ shows_same c.width c.gate (at regs n) (at others n) (at ins n) (at v) (alike n c is))

-- a net of one bit that shows none, by its cell
grows_shown : (cells : List Cell) (v : Numbers) (w : ℕ) (f : Function) (x r i : ℕ) → w ≡ 1 → OperandsFit (widths_of cells) w f → (is_clocked f ≡ true → r < 2) → (f ≡ Input → i < 2)
    → x ≡ shown w f r i (at v) → 2 ≤ x → (IsRegister f → ⊥) × BigPin cells v f
grows_shown cells v w f x r i one fit held small is h = (
  (λ register. let clocked : is_clocked f ≡ true = ap is_clocked register.1 in omega (arith, held clocked, register_shows w r i v f clocked, is, h)),
  big_shown cells v f r i (subst (λ (k : ℕ). OperandsFit (widths_of cells) k f) one fit) held small (subst (λ (k : ℕ). 2 ≤ k) (is ∙ ap (λ (k : ℕ). shown k f r i (at v)) one) h),
)

module _ (net : Netlist) (accepted : IsAccepted net) where
  grows : (regs ins v : Numbers) → HoldBits net.cells regs ins → Settling net.cells regs ins v → GrowsBig net.cells v
  grows regs ins v hold settles n c is one big =
      let held = hold n c is one in
      grows_shown net.cells v c.width c.gate (at v n) (at regs n) (at ins n) one (accepted.widths n c is).2 held.0 held.1 (settles.1 n c is) big

  at_next : (cells : List Cell) (v : Numbers) (n : ℕ) (c : Cell) → slice_get cells n ≡ Some c → at (next_registers cells v) n ≡ next_of c.gate v
  at_next [] v n c is = absurd (cc is)
  at_next (d ∷ cells) v zero c is = let same : d ≡ c = cc is in ap (λ (x : Cell). next_of x.gate v) same
  at_next (d ∷ cells) v (suc n) c is = at_next cells v n c is

  next_bit : (v : Numbers) → GrowsBig net.cells v → (w : ℕ) (f : Function) → OperandsFit (widths_of net.cells) w f → w ≡ 1 → is_clocked f ≡ true → next_of f v < 2
  next_bit v big w (Reg a) fit one clocked = let its = cell_there net.cells a (fit ∙ one) in bit_at net.cells v accepted.acyclic big a its.0 its.1 its.2
  next_bit v big w f fit one clocked = absurd (cc clocked)

  -- registers of one bit hold bits
  abbrev RegistersHold : Numbers → Type 0
  RegistersHold regs = (n : ℕ) (c : Cell) → slice_get net.cells n ≡ Some c → c.width ≡ 1 → is_clocked c.gate ≡ true → at regs n < 2

  hold_both : (regs ins : Numbers) → RegistersHold regs → ((n : ℕ) (c : Cell) → slice_get net.cells n ≡ Some c → c.gate ≡ Input → at ins n < 2 ^ c.width) → HoldBits net.cells regs ins
  hold_both regs ins held range n c is one = (held n c is one, λ gate. subst (λ (w : ℕ). at ins n < 2 ^ w) one (range n c is gate))

  next_hold : (regs ins v : Numbers) → HoldBits net.cells regs ins → Settling net.cells regs ins v → RegistersHold (next_registers net.cells v)
  next_hold regs ins v hold settles n c is one clocked =
      subst (λ (k : ℕ). k < 2) (sym (at_next net.cells v n c is)) (next_bit v (grows regs ins v hold settles) c.width c.gate (accepted.widths n c is).2 one clocked)

  -- from registers that are alike
  runs_same : (m : Module) → Means m net → (seens : List PortValues) (ins vs : List Numbers) (regs others : Numbers) → AreAlike net.cells regs others → RegistersHold others → InputsGiven net seens ins
      → ModuleRunsFrom m regs seens vs ↔ (RunFrom net.cells others ins vs × OutputsShown net seens vs)
  runs_same m means [] [] vs regs others alike held given = ((λ none. (none, tt)), (λ both. both.0))
  runs_same m means [] (i ∷ ins) vs regs others alike held given = absurd given
  runs_same m means (seen ∷ seens) [] vs regs others alike held given = absurd given
  runs_same m means (seen ∷ seens) (i ∷ ins) [] regs others alike held given = ((λ wrong. absurd wrong), (λ both. absurd both.0))
  runs_same m means (seen ∷ seens) (i ∷ ins) (v ∷ vs) regs others alike held given =
      let held_regs : RegistersHold regs = λ n c is one clocked. subst (λ (k : ℕ). k < 2) (sym (alike n c is clocked)) (held n c is one clocked) in
      let hold = hold_both regs i held_regs given.1 in
      let hold_others = hold_both others i held given.1 in
      let back : AreAlike net.cells others regs = λ n c is clocked. sym (alike n c is clocked) in (
        (λ runs.
            let cycle = (means.settles regs i v seen (means.selectors regs i v seen accepted hold given.0 runs.0) given.0).0 runs.0 in
            let settled = settles_same net.cells regs others i v alike cycle.0 in
            let set = (means.edge false seen v runs.1).0 runs.2 in
            let next : AreAlike net.cells runs.1 (next_registers net.cells v) = λ n c is clocked. set n c is clocked ∙ sym (at_next net.cells v n c is) in
            let rest = (runs_same m means seens ins vs runs.1 (next_registers net.cells v) next (next_hold others i v hold_others settled) given.2).0 runs.3 in
            ((settled, rest.0), (cycle.1, rest.1))),
        (λ both.
            let settled = settles_same net.cells others regs i v back both.0.0 in
            let bits = selectors net.cells v accepted.acyclic (grows others i v hold_others both.0.0) accepted.widths in
            let meets = (means.settles regs i v seen bits given.0).1 (settled, both.1.0) in
            let set = (means.edge false seen v (next_registers net.cells v)).1 (λ n c is clocked. at_next net.cells v n c is) in
            let rest = (runs_same m means seens ins vs (next_registers net.cells v) (next_registers net.cells v) (λ n c is clocked. refl) (next_hold others i v hold_others both.0.0) given.2).1 (both.0.1, both.1.1) in
            (meets, next_registers net.cells v, set, rest)),
      )

-- a register at reset
zero_at : (k n : ℕ) → at (replicate k 0) n ≡ 0
zero_at zero n = refl
zero_at (suc k) zero = refl
zero_at (suc k) (suc n) = zero_at k n

pub runs_are_meant : RunsAreMeant
runs_are_meant net m seens ins vs accepted means given =
    runs_same net accepted m means seens ins vs (replicate (length m.nets) 0) (replicate (length net.cells) 0)
    (λ n c is clocked. zero_at (length m.nets) n ∙ sym (zero_at (length net.cells) n))
    (λ n c is one clocked. let none : at (replicate (length net.cells) 0) n ≡ 0 = zero_at (length net.cells) n in omega (arith, none)) given
