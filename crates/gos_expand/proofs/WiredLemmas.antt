-- The netlist of a plan as its parts see it: where their gates stand, and which nets come in.
--
-- Read first: Facts; GenericLemmas. Of these facts it follows which handshakes pass on, and so which rings there are.
use Rattle.std.proofs.Common.{◌≡◌, ◌+◌, ◌<◌, ◌⊎◌, ℕ, zero, suc, false, List, [], ◌∷◌, map, length, slice_get, Some, Contains, refl, sym, ap, subst, arith}
use Rattle.std.proofs.lemmas.Option.{none-some, same_Some}
use Rattle.gos_netlist.specs.Nets.{Function, Input, Const, Not, And, Or, Xor, Mux, Add, Sub, Eq, Less, Gate, Reg, Cell, pins}
use Rattle.gos_types.specs.Events.{Direction}
use Rattle.gos_netlist.specs.Cycles.{IsRegister}
use Rattle.gos_plan.specs.Kinds.{Part, Contact, part_contacts}
use Rattle.gos_plan.specs.Plans.{End, PartEnd, Joint, Plan, IsRight, contact_at}
use Rattle.gos_plan.specs.Tokens.{IsPortEnd}
use Rattle.gos_macro.specs.Gates.{Incoming}
use Rattle.gos_macro.specs.Fit.{GatesFit}
use Rattle.gos_macro.specs.Paths.{AreApart, Renames, renamed, with_renamed, KeepPaths}
use Rattle.gos_expand.specs.Blocks.{Nets}
use Rattle.gos_expand.specs.Gates.{Making, layout, outs_of, late_of, passing_of, part_size}
use Rattle.gos_expand.specs.Starts.{Laying, bits_taken}
use Rattle.gos_expand.specs.Laid.{nets_out}
use Rattle.gos_expand.specs.Facts.{Places, source, target, bits_put, incoming_at}
use Rattle.gos_expand.proofs.StandLemmas.{StandAt}
use Rattle.gos_expand.proofs.NetLemmas.{IsCut}
use Rattle.gos_expand.proofs.GroupLemmas.{layout_length}
use Rattle.gos_expand.proofs.GenericLemmas.{generic, named_for, generic_apart, generic_renames}

-- net m is that of a cell at a place of part i
pub record OfPart (lay : Laying) (p : Plan) (n : Places) (m : ℕ) (c : Cell) : Type 0 where
  pub part : ℕ
  pub kind : Part
  pub there : slice_get p.parts part ≡ Some kind
  pub place : ℕ
  pub number : m ≡ n.start part + place
  pub cell : slice_get (layout (lay.making part) kind (n.start part) (incoming_at p n part)) place ≡ Some c

-- a net is that of a register or of a cell without pins
abbrev pub IsCutNet : List Cell → ℕ → Type 0
IsCutNet cells m = (c : Cell) × (slice_get cells m ≡ Some c) × IsCut c.gate

-- the nets of a token of these bits are cut
pub record AreCut (cells : List Cell) (bits : ℕ) (nets : Nets) : Type 0 where
  pub pulse : IsCutNet cells nets.pulse
  pub number : 0 < bits → IsCutNet cells nets.number

-- what comes in at an end is what goes in at the other end of its joint
pub record ComesStraight (lay : Laying) (p : Plan) (n : Places) (e : End) : Type 0 where
  pub joint : ℕ
  pub passed : Joint
  pub way : Direction
  pub stands : slice_get p.joints joint ≡ Some passed
  pub straight : lay.keep joint way ≡ false
  pub here : target passed way ≡ e
  pub nets : n.arrives e ≡ n.leaves (source passed way)

-- the netlist as parts see it
pub record Wired (lay : Laying) (p : Plan) (cells : List Cell) (n : Places) : Type 0 where
  pub right : IsRight p
  pub fits : (i : ℕ) (k : Part) → slice_get p.parts i ≡ Some k → GatesFit k (layout (lay.making i) k) (outs_of (lay.making i) k)
  pub paths : (i : ℕ) (k : Part) → slice_get p.parts i ≡ Some k → KeepPaths k (layout (lay.making i) k) (outs_of (lay.making i) k) (late_of (lay.making i) k) (passing_of (lay.making i) k)
  pub gates : (i : ℕ) (k : Part) → slice_get p.parts i ≡ Some k → StandAt cells (n.start i) (layout (lay.making i) k (n.start i) (incoming_at p n i))
  pub fed : (m : ℕ) (c : Cell) → slice_get cells m ≡ Some c → IsCut c.gate ⊎ OfPart lay p n m c
  pub apart :
      (m : ℕ) (c d : Cell) (a : OfPart lay p n m c) (b : OfPart lay p n m d) → a.part ≡ b.part
  pub leaving : (i h : ℕ) (k : Part) → slice_get p.parts i ≡ Some k → n.leaves (PartEnd i h) ≡ nets_out (slice_get (outs_of (lay.making i) k (n.start i)) h)
  pub straight :
      (x : ℕ) (j : Joint) (way : Direction) → slice_get p.joints x ≡ Some j → lay.keep x way ≡ false
      → n.arrives (target j way) ≡ n.leaves (source j way)
  pub coming :
      (i h : ℕ) (c : Contact) → contact_at p (PartEnd i h) ≡ Some c
      → AreCut cells (bits_taken (Some c)) (n.arrives (PartEnd i h)) ⊎ ComesStraight lay p n (PartEnd i h)
  pub given : (e : End) (c : Contact) → IsPortEnd e → contact_at p e ≡ Some c → AreCut cells (bits_put (Some c)) (n.leaves e)

-- generic wires of a part that begins at b, and their renaming to those that it has
abbrev pub wires : Making → Part → ℕ → Incoming
wires m k b = generic (b + part_size m k)

abbrev pub naming : Making → Part → ℕ → Incoming → ℕ → ℕ
naming m k b i = named_for (b + part_size m k) i

-- the cells of a part are those of generic wires, renamed
pub cells_named : (m : Making) (k : Part) (b : ℕ) (i : Incoming) → KeepPaths k (layout m k) (outs_of m k) (late_of m k) (passing_of m k)
    → layout m k b i ≡ map (with_renamed (naming m k b i)) (layout m k b (wires m k b))
cells_named m k b i keeps =
    keeps.named (naming m k b i) b b (wires m k b) i
    (subst (λ (n : ℕ). Renames (part_contacts k) n (naming m k b i) b b (wires m k b) i) (sym (layout_length m k b (wires m k b)))
    (generic_renames (part_contacts k) (part_size m k) b i))

pub wires_apart : (m : Making) (k : Part) (b : ℕ) → AreApart (part_contacts k) b (length (layout m k b (wires m k b))) (wires m k b)
wires_apart m k b =
    subst (λ (n : ℕ). AreApart (part_contacts k) b n (wires m k b)) (sym (layout_length m k b (wires m k b)))
    (generic_apart (part_contacts k) (part_size m k) b)

-- a renamed function names the renamed nets, and is a register where the function is
pub renamed_pins : (f : ℕ → ℕ) (g : Function) → pins (renamed f g) ≡ map f (pins g)
renamed_pins f Input = refl
renamed_pins f (Const k) = refl
renamed_pins f (Not a) = refl
renamed_pins f (And a b) = refl
renamed_pins f (Or a b) = refl
renamed_pins f (Xor a b) = refl
renamed_pins f (Mux s a b) = refl
renamed_pins f (Add a b) = refl
renamed_pins f (Sub a b) = refl
renamed_pins f (Eq a b) = refl
renamed_pins f (Less a b) = refl
renamed_pins f (Gate s a) = refl
renamed_pins f (Reg a) = refl

pub register_renamed : (f : ℕ → ℕ) (g : Function) → IsRegister g → IsRegister (renamed f g)
register_renamed f g (a, is) = (f a, ap (renamed f) is)

pub register_before : (f : ℕ → ℕ) (g : Function) → IsRegister (renamed f g) → IsRegister g
register_before f Input (a, is) = cc is
register_before f (Const k) (a, is) = cc is
register_before f (Not x) (a, is) = cc is
register_before f (And x y) (a, is) = cc is
register_before f (Or x y) (a, is) = cc is
register_before f (Xor x y) (a, is) = cc is
register_before f (Mux s x y) (a, is) = cc is
register_before f (Add x y) (a, is) = cc is
register_before f (Sub x y) (a, is) = cc is
register_before f (Eq x y) (a, is) = cc is
register_before f (Less x y) (a, is) = cc is
register_before f (Gate s x) (a, is) = cc is
register_before f (Reg x) (a, is) = (x, refl)

-- elements of a mapped list
pub of_mapped : (f : ℕ → ℕ) (xs : List ℕ) (a : ℕ) → Contains (map f xs) a → (x : ℕ) × Contains xs x × (f x ≡ a)
of_mapped f [] a h = absurd (omega (arith, h.1))
of_mapped f (x ∷ xs) a (zero, low, is) = (x, (0, omega arith, refl), is)
of_mapped f (x ∷ xs) a (suc k, low, is) =
    let rest = of_mapped f xs a (k, omega (arith, low), is) in
    (rest.0, (suc rest.1.0, omega (arith, rest.1.1), rest.1.2), rest.2)

pub in_mapped : (f : ℕ → ℕ) (xs : List ℕ) (x : ℕ) → Contains xs x → Contains (map f xs) (f x)
in_mapped f [] x h = absurd (omega (arith, h.1))
in_mapped f (y ∷ xs) x (zero, low, is) = (0, omega arith, ap f is)
in_mapped f (y ∷ xs) x (suc k, low, is) =
    let rest = in_mapped f xs x (k, omega (arith, low), is) in
    (suc rest.0, omega (arith, rest.1), rest.2)

-- a cell of a mapped list is that of one there
pub cell_before : (f : ℕ → ℕ) (cells : List Cell) (j : ℕ) (c : Cell) → slice_get (map (with_renamed f) cells) j ≡ Some c
    → (d : Cell) × (slice_get cells j ≡ Some d) × (with_renamed f d ≡ c)
cell_before f [] j c is = absurd (none-some c is)
cell_before f (d ∷ cells) zero c is = (d, refl, same_Some (with_renamed f d) c is)
cell_before f (d ∷ cells) (suc j) c is = cell_before f cells j c is

pub cell_after : (f : ℕ → ℕ) (cells : List Cell) (j : ℕ) (c : Cell) → slice_get cells j ≡ Some c
    → slice_get (map (with_renamed f) cells) j ≡ Some (with_renamed f c)
cell_after f [] j c is = absurd (none-some c is)
cell_after f (d ∷ cells) zero c is = ap (λ (x : Cell). Some (with_renamed f x)) (same_Some d c is)
cell_after f (d ∷ cells) (suc j) c is = cell_after f cells j c is
