-- The cells of a part at wires of their own, where no two nets that come in are one, with two settlings.
--
-- The one has what comes in in the cycle. In the other all that comes in late or outside of a set of handshakes is left out.
use Rattle.std.proofs.Common.{◌≡◌, inl, inr, ℕ, ◌+◌, ◌<◌, Bool, List, length, sym, ◌∙◌, ap, arith, if◌then◌else◌}
use Rattle.std.proofs.Math.ListN.{length-map}
use Rattle.gos_netlist.specs.Nets.{Cell}
use Rattle.gos_netlist.specs.Settling.{Numbers, at}
use Rattle.gos_plan.specs.Kinds.{Part, part_contacts}
use Rattle.gos_macro.specs.Gates.{Incoming, Outgoing, Settled, pulse_in, is_among}
use Rattle.gos_macro.specs.Fit.{GatesFit}
use Rattle.gos_macro.specs.Paths.{IsIn, AreApart, with_renamed, KeepPaths}
use Rattle.gos_macro.specs.causal.Causal.{Set, pulses_of}
use Rattle.gos_macro.proofs.causal.CellLemmas.{Meets, meets, meets_unnamed}
use Rattle.gos_macro.proofs.causal.SpreadLemmas.{spread_wires, spread, Beside, spread_apart, to_wires, renames}
use Rattle.gos_macro.proofs.causal.SettleLemmas.{Settles, there_are}

-- the gates of a part, and a cycle in which they settle
pub record Cycle (k : Part) (cells : ℕ → Incoming → List Cell) (outs : ℕ → List Outgoing) (late : List ℕ) (passing : ℕ → ℕ → Bool)
    (b : ℕ) (i : Incoming) (v regs after : Numbers) : Type 0 where
  pub fits : GatesFit k cells outs
  pub paths : KeepPaths k cells outs late passing
  pub settled : Settled v regs after b 0 (cells b i)

-- how many handshakes a part has
abbrev pub shakes : Part → ℕ
shakes k = length (part_contacts k)

-- A part has the same number of cells wherever they begin and whatever comes in: that of the region behind wires from net 0 on.
same_size : (k : Part) (cells : ℕ → Incoming → List Cell) (outs : ℕ → List Outgoing) (late : List ℕ) (passing : ℕ → ℕ → Bool)
    → KeepPaths k cells outs late passing → (b : ℕ) (i : Incoming)
    → length (cells b i) ≡ length (cells (shakes k + shakes k) (spread_wires 0 (shakes k)))
same_size k cells outs late passing paths b i =
    let l = shakes k in
    let first = cells (l + l) (spread_wires 0 l) in
    let f = to_wires 0 l (l + l) b i in
    ap length (paths.named f (l + l) b (spread_wires 0 l) i (renames (part_contacts k) 0 (l + l) b (length first) i (inr (omega arith))))
    ∙ length-map first (with_renamed f)

-- the wires behind the region
abbrev pub wires : Part → (ℕ → Incoming → List Cell) → ℕ → Incoming → Incoming
wires k cells b i = spread_wires (b + length (cells b i)) (shakes k)

-- and the renaming that takes them to those that come in
abbrev pub back : Part → (ℕ → Incoming → List Cell) → ℕ → Incoming → ℕ → ℕ
back k cells b i = to_wires (b + length (cells b i)) (shakes k) b b i

-- the numbers of handshakes of the set that are not late, and 0 of the others
abbrev pub cut : List ℕ → Set → (ℕ → ℕ) → ℕ → ℕ
cut late inside p h = if is_among late h then 0 else pulses_of inside p h

-- the values of all nets by handshake
abbrev pub values : Numbers → Incoming → ℕ → ℕ
values v i h = at v (i.value h)

-- what comes in at these wires where the others are left out
abbrev pub input : Part → (ℕ → Incoming → List Cell) → ℕ → Incoming → Numbers → List ℕ → Set → ℕ → ℕ
input k cells b i v late inside = spread (b + length (cells b i)) (shakes k) (cut late inside (pulse_in v i)) (cut late inside (values v i)) (λ n. 0)

-- The cells at these wires, with both settlings.
pub record Parted (k : Part) (cells : ℕ → Incoming → List Cell) (late : List ℕ) (b : ℕ) (i : Incoming) (v regs : Numbers) (inside : Set) : Type 0 where
  pub apart : AreApart (part_contacts k) b (length (cells b (wires k cells b i))) (wires k cells b i)
  pub own : (n : ℕ) → n < length (cells b (wires k cells b i)) → back k cells b i (b + n) ≡ b + n
  pub whole : Meets (λ n. at v (back k cells b i n)) regs b (cells b (wires k cells b i))
  pub less : Settles (part_contacts k) b (wires k cells b i) (cells b (wires k cells b i)) regs (input k cells b i v late inside)

pub parted : (k : Part) (cells : ℕ → Incoming → List Cell) (outs : ℕ → List Outgoing) (late : List ℕ) (passing : ℕ → ℕ → Bool) (b : ℕ) (i : Incoming) (v regs after : Numbers)
    → Cycle k cells outs late passing b i v regs after → (inside : Set) → Parted k cells late b i v regs inside
parted k cells outs late passing b i v regs after y inside =
    let l = shakes k in
    let d = b + length (cells b i) in
    let here = cells b (wires k cells b i) in
    let size : length here ≡ length (cells b i) =
    same_size k cells outs late passing y.paths b (wires k cells b i) ∙ sym (same_size k cells outs late passing y.paths b i) in
    let beside : Beside d l b (length here) = inl (omega (arith, size)) in
    let apart = spread_apart (part_contacts k) d b (length here) beside in
    let names = renames (part_contacts k) d b b (length here) i beside in
    record {
      apart = apart;
      own = names.own;
      whole = meets_unnamed (back k cells b i) (at v) regs b here (cells b i) (y.paths.named (back k cells b i) b b (wires k cells b i) i names) names.own (meets v regs after b (cells b i) y.settled);
      less = there_are (part_contacts k) b (wires k cells b i) here (record { order = y.fits.order b (wires k cells b i); outside = apart.outside }) regs (input k cells b i v late inside) (d + l + l) (omega (arith, size)) wide;
    }
  where
    wide : (h net : ℕ) → h < shakes k → IsIn (part_contacts k) (wires k cells b i) h net → net < b + length (cells b i) + shakes k + shakes k
    wide h net small (inl is) = omega (arith, is, small)
    wide h net small (inr is) = omega (arith, is.1, small)
