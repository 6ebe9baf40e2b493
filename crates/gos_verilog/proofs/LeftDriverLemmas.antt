-- The lines that drive cells' nets: of some kind, or from an input; and what may be left behind each.
use Rattle.std.proofs.Common.{◌≡◌, inl, inr, ℕ, zero, suc, ◌+◌, ◌<◌, ◌≤◌, true, false, List, [], ◌∷◌, ◌++◌, length, drop, get_or, Some, refl, sym, ◌∙◌, ap, subst, arith, slice_get, append_assoc, append-nil, codes}
use Rattle.std.specs.Fmt.{decimal}
use Rattle.std.specs.List.{AllByRecursion}
use Rattle.std.proofs.lemmas.Option.{slice_get_within}
use Rattle.gos_lex.specs.Items.{TextAt, IsJust, Misses}
use Rattle.gos_types.specs.Widths.{IsWidth}
use Rattle.gos_netlist.specs.Nets.{Function, Input, Const, Not, And, Or, Xor, Mux, Add, Sub, Eq, Less, Gate, Reg}
use Rattle.gos_lex.specs.ItemTexts.{Passed, ended}
use Rattle.gos_lex.proofs.PassedLemmas.{passed_as}
use Rattle.gos_lex.proofs.SequenceLemmas.{IsCode, misses_as}
use Rattle.gos_verilog.specs.declared.cell_line.Kind.{Kind}
use Rattle.gos_verilog.specs.declared.cell_line.Kind.TheVariants as kinds
use Rattle.gos_verilog.specs.declared.declared.Shape.{Shape}
use Rattle.gos_verilog.specs.PortNets.{PortNet}
use Rattle.gos_verilog.specs.Lines.{cell_net, driver_of}
use Rattle.gos_verilog.specs.inner.Drivers.{is_register}
use Rattle.gos_verilog.specs.inner.Stages.{IsNetName}
use Rattle.gos_verilog.specs.inner.CellLines.{kind_of, IsKindLine, is_wire, target_slot}
use Rattle.gos_verilog.specs.inner.Slots.{FitSlots, line_text, IsLine}
use Rattle.gos_verilog.specs.inner.Breaks.{Left, LeadsOn, AllMiss, Among, BreaksFrom}
use Rattle.gos_verilog.specs.inner.Left.{HaveNetNames, IsSource, IsDriver, IsDriverLine, IsWireLine, driver_text, LeftDrivers}
use Rattle.gos_verilog.proofs.OneTextLemmas.{small_function, no_source, get_all}
use Rattle.gos_verilog.proofs.LineLemmas.{line_code, kind_no_input, tried, is_input_or, register_kind, register_no_input}
use Rattle.gos_verilog.proofs.AmongLemmas.{among_as, among_first}
use Rattle.gos_verilog.proofs.BreakLemmas.{on_item, on_both, on_breaks, first_breaks}
use Rattle.gos_verilog.proofs.WordLemmas.{shift_breaks}
use Rattle.gos_verilog.proofs.LeftLemmas.{some_drivers}
use Rattle.gos_verilog.proofs.LeftOutputLemmas.{one_number}

-- a function of a kind of wires is no register
wire_of : (kind : Kind) (f : Function) → kind_of f ≡ Some kind → is_wire kind ≡ true → is_register f ≡ false
wire_of kind (Reg a) has wire =
    let same : kinds.Reg ≡ kind = cc has in let both : false ≡ true = ap is_wire same ∙ wire in absurd (cc both)
wire_of kind f has wire = refl

-- the kinds that are tried are those of wires
get_or_all : (P : Kind → Type 0) (ks : List Kind) (k : ℕ) → k < length ks → AllByRecursion P ks → P (get_or ks k kinds.Const)
get_or_all P [] k inside all = absurd (omega (arith, inside))
get_or_all P (d ∷ ks) zero inside all = all.0
get_or_all P (d ∷ ks) (suc k) inside all = get_or_all P ks k (omega (arith, inside)) all.1

tried_wires : (likely : Kind) (k : ℕ) → is_wire likely ≡ true → k < 12 → is_wire (get_or (tried likely) k kinds.Const) ≡ true
tried_wires likely k wire inside =
    get_or_all (λ kind. is_wire kind ≡ true) (tried likely) k inside (wire, (refl, (refl, (refl, (refl, (refl, (refl, (refl, (refl, (refl, (refl, (refl, tt))))))))))))

abbrev Tried : Kind → Function → Type 0
Tried likely f = (k : ℕ) × (k < 12) × (kind_of f ≡ Some (get_or (tried likely) k kinds.Const))

is_tried : (likely : Kind) (f : Function) → is_register f ≡ false → (f ≡ Input → ⊥) → Tried likely f
is_tried likely Input wire other = absurd (other refl)
is_tried likely (Const k) wire other = (1, omega arith, refl)
is_tried likely (Not a) wire other = (2, omega arith, refl)
is_tried likely (And a b) wire other = (3, omega arith, refl)
is_tried likely (Or a b) wire other = (4, omega arith, refl)
is_tried likely (Xor a b) wire other = (5, omega arith, refl)
is_tried likely (Mux s a b) wire other = (6, omega arith, refl)
is_tried likely (Add a b) wire other = (7, omega arith, refl)
is_tried likely (Sub a b) wire other = (8, omega arith, refl)
is_tried likely (Eq a b) wire other = (9, omega arith, refl)
is_tried likely (Less a b) wire other = (10, omega arith, refl)
is_tried likely (Gate s a) wire other = (11, omega arith, refl)
is_tried likely (Reg a) wire other = absurd (cc wire)

abbrev pub KindAt : List Kind → ℕ → ℕ → ℕ → Left
KindAt list i w j = IsKindLine (get_or list j kinds.Const) i w

-- where none of the kinds stands, the line of no wire does
pub wires_miss : (likely : Kind) (i w : ℕ) (text : List ℕ) (furthest : ℕ) → is_wire likely ≡ true → AllMiss (KindAt (tried likely) i w) text 0 12 furthest → Misses (IsWireLine i w) text 0 furthest
wires_miss likely i w text furthest wire far =
    among_as (KindAt (tried likely) i w) (IsWireLine i w) text 0 12 furthest (omega arith)
    (λ j bytes inside item.
    let kind : Kind = get_or (tried likely) j kinds.Const in
    (item.0, (wire_of kind item.0 item.1.0 (tried_wires likely j wire inside), kind_no_input kind item.0 item.1.0, item.1.1), item.2))
    (λ bytes item. let is = is_tried likely item.0 item.1.0 item.1.1 in (is.0, is.1, (item.0, (is.2, item.1.2), item.2)))
    far

-- the line of a register
register_of : (f : Function) → kind_of f ≡ Some kinds.Reg → is_register f ≡ true
register_of (Reg a) has = refl
register_of f has = absurd (cc has)

pub register_misses : (nets : List PortNet) (i w : ℕ) (text : List ℕ) (place : ℕ) → Misses (IsKindLine kinds.Reg i w) text 0 place → Misses (IsDriverLine nets i (record { width = w; register = true })) text 0 place
register_misses nets i w text place =
    misses_as (IsKindLine kinds.Reg i w) (IsDriverLine nets i (record { width = w; register = true })) text 0 place
    (λ bytes item. ((item.0, []), (record { kind = register_of item.0 item.1.0; fits = item.1.1; fed = λ input. absurd (kind_no_input kinds.Reg item.0 item.1.0 input); bare = λ _. refl }), item.2))
    (λ bytes item.
    let f : Function = item.0.0 in
    let driver = item.1 in
    (f, (register_kind f driver.kind, driver.fits), item.2 ∙ no_source i w item.0.1 [] f (λ input. absurd (register_no_input f driver.kind input))))

-- the line of an Input cell that reads the net at a place; before them all the line of another wire
abbrev pub SourceAt : List PortNet → ℕ → ℕ → ℕ → Left
SourceAt nets i w zero bytes = IsWireLine i w bytes
SourceAt nets i w (suc k) bytes =
    (net : PortNet) × (slice_get nets k ≡ Some net) × (net.input ≡ true) × (net.width ≡ w) × (bytes ≡ driver_of i w net.name Input)

pub sources_miss : (nets : List PortNet) (i w : ℕ) (text : List ℕ) (k furthest : ℕ) → length nets ≤ k → AllMiss (SourceAt nets i w) text 0 (k + 1) furthest
    → Misses (IsDriverLine nets i (record { width = w; register = false })) text 0 furthest
sources_miss nets i w text k furthest all far =
    among_as (SourceAt nets i w) (IsDriverLine nets i (record { width = w; register = false })) text 0 (k + 1) furthest (omega arith) to from far
  where
    to : (j : ℕ) (bytes : List ℕ) → j < k + 1 → SourceAt nets i w j bytes → IsDriverLine nets i (record { width = w; register = false }) bytes
    to zero bytes inside item =
        ((item.0, []), (record { kind = item.1.0; fits = item.1.2; fed = λ input. absurd (item.1.1 input); bare = λ _. refl }), item.2)
    to (suc j) bytes inside item =
        ((Input, item.0.name), (record { kind = refl; fits = tt; fed = λ _. (j, item.0, item.1, item.2, item.3, refl); bare = λ other. absurd (other refl) }), item.4)

    from : (bytes : List ℕ) → IsDriverLine nets i (record { width = w; register = false }) bytes → Among (SourceAt nets i w) (k + 1) bytes
    from bytes (v, driver, is) =
        elim (is_input_or v.0) [
          | inl input ↦
              let fed = driver.fed input in
              let inside = slice_get_within nets fed.0 fed.1 fed.2 in
              (suc fed.0, omega (arith, inside, all), (fed.1, fed.2, fed.3, fed.4, is ∙ (λ j. driver_of i w (fed.5 j) (input j))))
          | inr other ↦ (0, omega arith, (v.0, (driver.kind, other, driver.fits), is ∙ ap (λ (s : List ℕ). driver_of i w s v.0) (driver.bare other)))
        ]

pub first_source : (nets : List PortNet) (i w : ℕ) (text : List ℕ) (place : ℕ) → Misses (IsWireLine i w) text 0 place → AllMiss (SourceAt nets i w) text 0 1 place
first_source nets i w text place misses = record { none = λ nothing. absurd (omega (arith, nothing)); some = λ _. among_first (SourceAt nets i w) text 0 place misses }

-- the line at a place, of the net that stands there
pub source_at : (nets : List PortNet) (i w k : ℕ) (net : PortNet) (text : List ℕ) (place : ℕ) → slice_get nets k ≡ Some net → net.input ≡ true → net.width ≡ w
    → Misses (IsJust (driver_of i w net.name Input)) text 0 place → Misses (SourceAt nets i w (k + 1)) text 0 place
source_at nets i w k net text place at input width misses =
    let e : suc k ≡ k + 1 = omega arith in
    subst (λ (n : ℕ). Misses (SourceAt nets i w n) text 0 place) e
    (misses_as (IsJust (driver_of i w net.name Input)) (SourceAt nets i w (suc k)) text 0 place
    (λ bytes is. (net, at, input, width, is))
    (λ bytes item. let same : net ≡ item.0 = let both : Some net ≡ Some item.0 = sym at ∙ item.1 in cc both in item.4 ∙ ap (λ (n : PortNet). driver_of i w n.name Input) (sym same))
    misses)

pub no_source_at : (nets : List PortNet) (i w k : ℕ) (net : PortNet) (bytes : List ℕ) → slice_get nets k ≡ Some net → (net.input ≡ true → net.width ≡ w → ⊥) → SourceAt nets i w (k + 1) bytes → ⊥
no_source_at nets i w k net bytes at other item =
    let e : k + 1 ≡ suc k = omega arith in
    let known : SourceAt nets i w (suc k) bytes = subst (λ (n : ℕ). SourceAt nets i w n bytes) e item in
    let same : known.0 ≡ net = let both : Some known.0 ≡ Some net = sym known.1 ∙ at in cc both in
    other (ap (λ (n : PortNet). n.input) (sym same) ∙ known.2) (ap (λ (n : PortNet). n.width) (sym same) ∙ known.3)

-- an input that is read
pub input_driver : (nets : List PortNet) (w : ℕ) (source : List ℕ) → IsSource nets w source → IsDriver nets (record { width = w; register = false }) (Input, source)
input_driver nets w source is = record { kind = refl; fits = tt; fed = λ _. is; bare = λ other. absurd (other refl) }

-- the front of the line of an Input cell, up to the name
abbrev pub input_front : ℕ → List ℕ
input_front i = line_text (target_slot i ∷ []) (codes "= ") (i ∷ [])

pub input_text : (i w : ℕ) (name : List ℕ) → input_front i ++ (name ++ codes ";\n") ≡ driver_of i w name Input
input_text i w name =
    ap (λ (front : List ℕ). front ++ (name ++ codes ";\n")) front
    ∙ sym (append_assoc (codes "  assign " ++ cell_net i ++ codes " = ") name (codes ";\n"))
  where
    front : input_front i ≡ codes "  assign " ++ cell_net i ++ codes " = "
    front =
        ap (λ (line : List ℕ). line ++ codes "= ") (append-nil (codes "  assign n" ++ ended 32 (decimal i)))
        ∙ (append_assoc (codes "  assign n") (ended 32 (decimal i)) (codes "= ")
        ∙ (ap (λ (rest : List ℕ). codes "  assign n" ++ rest) (append_assoc (decimal i) (32 ∷ []) (codes "= "))
        ∙ sym (append_assoc (codes "  assign n") (decimal i) (codes " = "))))

exact : (i n : ℕ) → i ≤ n → n ≤ i → n ≡ i
exact i n low high = omega (arith, low, high)

pub front_misses : (i : ℕ) (text : List ℕ) (at place : ℕ) → Misses (IsLine (target_slot i ∷ []) (codes "= ")) text at place → Misses (IsJust (input_front i)) text at place
front_misses i text at place =
    misses_as (IsLine (target_slot i ∷ []) (codes "= ")) (IsJust (input_front i)) text at place
    (λ bytes line.
    let one = one_number (target_slot i) line.0 line.1 in
    line.2 ∙ ap (line_text (target_slot i ∷ []) (codes "= ")) (one.3 ∙ ap (λ (n : ℕ). n ∷ []) (exact i one.0 one.1 one.2)))
    (λ bytes is. (i ∷ [], ((omega arith, omega arith), tt), is))

pub front_passed : (i : ℕ) (old new : TextAt) (ns : List ℕ) → FitSlots (target_slot i ∷ []) ns → Passed old new (line_text (target_slot i ∷ []) (codes "= ") ns) → Passed old new (input_front i)
front_passed i old new ns fit passed =
    let one = one_number (target_slot i) ns fit in
    passed_as old new (line_text (target_slot i ∷ []) (codes "= ") ns) (input_front i) (ap (line_text (target_slot i ∷ []) (codes "= ")) (one.3 ∙ ap (λ (n : ℕ). n ∷ []) (exact i one.0 one.1 one.2))) passed

-- a line is that of one function and one input
pub driver_code : (nets : List PortNet) (i : ℕ) (shape : Shape) → HaveNetNames nets → IsWidth shape.width → IsCode (Function × List ℕ) (IsDriver nets shape) (driver_text i shape)
driver_code nets i shape named wide v w x y is_v is_w same =
    let known = line_code i shape.width v.1 w.1 v.0 w.0 x y (omega (arith, wide.1)) (small_function shape.width v.0 wide is_v.fits) (small_function shape.width w.0 wide is_w.fits)
    (net_name v.0 v.1 is_v.fed) (net_name w.0 w.1 is_w.fed) same in
    let source : v.1 ≡ w.1 = elim (is_input_or v.0) [
      | inl input ↦ known.1 input
      | inr other ↦ is_v.bare other ∙ sym (is_w.bare (λ is. other (known.0 ∙ is)))
    ] in
    ((λ j. (known.0 j, source j)), known.2)
  where
    net_name : (f : Function) (s : List ℕ) → (f ≡ Input → IsSource nets shape.width s) → f ≡ Input → IsNetName s
    net_name f s fed input = let it = fed input in subst IsNetName (sym it.5) (get_all PortNet (λ n. IsNetName n.name) nets it.0 it.1 named it.2)

-- a line is passed
pub drivers_on : (nets : List PortNet) (shapes : List Shape) (i : ℕ) (shape : Shape) (old now new : TextAt) (v : Function × List ℕ) → HaveNetNames nets → IsWidth shape.width
    → drop i shapes ≡ shape ∷ drop (i + 1) shapes → IsDriver nets shape v → LeadsOn (LeftDrivers nets 0 shapes) (LeftDrivers nets i (drop i shapes)) old now → Passed now new (driver_text i shape v)
    → LeadsOn (LeftDrivers nets 0 shapes) (LeftDrivers nets (i + 1) (drop (i + 1) shapes)) old new
drivers_on nets shapes i shape old now new v named wide cut driver far passed =
    let rest : List Shape = drop (i + 1) shapes in
    let e : suc i ≡ i + 1 = omega arith in
    on_both (LeftDrivers nets 0 shapes) (LeftDrivers nets i (drop i shapes)) (LeftDrivers nets (i + 1) rest) old now new far
    (subst (λ (L : List Shape). LeadsOn (LeftDrivers nets i L) (LeftDrivers nets (i + 1) rest) now new) (sym cut)
    (subst (λ (n : ℕ). LeadsOn (LeftDrivers nets i (shape ∷ rest)) (LeftDrivers nets n rest) now new) e
    (on_item (Function × List ℕ) (IsDriver nets shape) (driver_text i shape) (λ _. LeftDrivers nets (suc i) rest) now new v (driver_code nets i shape named wide) driver passed)))

-- a line breaks off in the rest of the text
pub drivers_break : (nets : List PortNet) (shapes : List Shape) (i : ℕ) (shape : Shape) (text rest : List ℕ) (from at place : ℕ) → drop i shapes ≡ shape ∷ drop (i + 1) shapes
    → LeadsOn (LeftDrivers nets 0 shapes) (LeftDrivers nets i (drop i shapes)) (record { text = text; at = from }) (record { text = text; at = at }) → rest ≡ drop at text
    → Misses (IsDriverLine nets i shape) rest 0 place → BreaksFrom (LeftDrivers nets 0 shapes) (record { text = text; at = from }) (at + place)
drivers_break nets shapes i shape text rest from at place cut far is misses =
    let left : List Shape = drop (i + 1) shapes in
    on_breaks (LeftDrivers nets 0 shapes) (LeftDrivers nets i (drop i shapes)) (record { text = text; at = from }) (record { text = text; at = at }) (at + place) far
    (shift_breaks (LeftDrivers nets i (drop i shapes)) text rest at place is
    (subst (λ (L : List Shape). BreaksFrom (LeftDrivers nets i L) (record { text = rest; at = 0 }) place) (sym cut)
    (first_breaks (Function × List ℕ) (IsDriver nets shape) (driver_text i shape) (λ _. LeftDrivers nets (suc i) left) rest 0 place (λ _ _. some_drivers nets (suc i) left) misses)))
