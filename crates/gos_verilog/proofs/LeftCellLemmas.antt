-- The declarations of cells' nets, as lines of two slots, and what may be left behind each.
use Rattle.std.proofs.Common.{◌≡◌, ◌⊎◌, inl, inr, ℕ, suc, ◌+◌, ◌-◌, ◌<◌, ◌≤◌, Bool, true, false, List, [], ◌∷◌, ◌++◌, length, map, drop, get_or, refl, sym, ◌∙◌, ap, subst, arith, append_assoc, append-nil, length-append, codes}
use Rattle.std.specs.Fmt.{decimal}
use Rattle.std.specs.List.{AllByRecursion}
use Rattle.gos_lex.specs.Items.{TextAt, Misses}
use Rattle.gos_types.specs.Widths.{IsWidth}
use Rattle.gos_netlist.specs.Nets.{Cell}
use Rattle.gos_netlist.specs.Writable.{IsNumber}
use Rattle.gos_lex.specs.ItemTexts.{Passed, IsTextOf, ended}
use Rattle.gos_lex.proofs.PassedLemmas.{passed_as, passed_both}
use Rattle.gos_lex.proofs.SequenceLemmas.{IsCode, misses_as}
use Rattle.gos_verilog.specs.declared.slots.TheConstants.{LAST_BIT}
use Rattle.gos_verilog.specs.declared.declared.Shape.{Shape}
use Rattle.gos_verilog.specs.PortNets.{PortNet}
use Rattle.gos_verilog.specs.Lines.{cell_net, cell_declaration, cell_declarations}
use Rattle.gos_verilog.specs.inner.Stages.{IsBody, HaveCellWidths, shape_of, word_of}
use Rattle.gos_verilog.specs.inner.CellLines.{exactly}
use Rattle.gos_verilog.specs.inner.Slots.{Slot', FitSlots, line_text, IsLine}
use Rattle.gos_verilog.specs.inner.Breaks.{Either, Leads, LeadsOn, BreaksFrom}
use Rattle.gos_verilog.specs.inner.Left.{IsShape, IsShapeLine, IsShapeOf, NoShape, shape_front, shape_text, shapes_text, LeftCells, LeftShape, LeftDrivers}
use Rattle.gos_verilog.proofs.DeclarationLemmas.{same_kind, cell_text}
use Rattle.gos_verilog.proofs.OneTextLemmas.{width_bits}
use Rattle.gos_verilog.proofs.AmongLemmas.{either_misses}
use Rattle.gos_lex.proofs.RestLemmas.{not_missed, passed_rest}
use Rattle.gos_verilog.proofs.BreakLemmas.{from_as, first_breaks, either_further, item_leads, leads_none, leads_both, leads_as, alone_leads}
use Rattle.gos_verilog.proofs.LeftLemmas.{some_cells, no_shape, cells_split, cells_join, shape_first}

abbrev pub range_slot : Bool → Slot'
range_slot register = record { before = shape_front register; low = 0; high = LAST_BIT; end = 58 }

abbrev pub shape_slots : Bool → ℕ → List Slot'
shape_slots register i = range_slot register ∷ exactly (codes "0] n") i 59 ∷ []

-- the line of the slots
slots_line : (register : Bool) (i n : ℕ) → line_text (shape_slots register i) (codes "\n") (n ∷ i ∷ []) ≡ shape_text i (record { width = n + 1; register = register })
slots_line register i n =
    let front : List ℕ = shape_front register in
    let digits : List ℕ = decimal n in
    let first : List ℕ = front ++ ended 58 digits in
    let second : List ℕ = codes "0] n" ++ ended 59 (decimal i) in
    let e : n ≡ n + 1 - 1 = omega arith in
    append_assoc first (second ++ []) (codes "\n")
    ∙ (ap (λ (part : List ℕ). first ++ (part ++ codes "\n")) (append-nil second)
    ∙ (append_assoc front (ended 58 digits) (second ++ codes "\n")
    ∙ (ap (λ (part : List ℕ). front ++ part) (append_assoc digits (58 ∷ []) (second ++ codes "\n"))
    ∙ (ap (λ (part : List ℕ). front ++ (digits ++ (codes ":0] n" ++ part))) (append_assoc (decimal i) (59 ∷ []) (codes "\n"))
    ∙ (sym (append_assoc (front ++ digits ++ codes ":0] ") (cell_net i) (codes ";\n") ∙ (append_assoc (front ++ digits) (codes ":0] ") (cell_net i ++ codes ";\n") ∙ append_assoc front digits (codes ":0] " ++ (cell_net i ++ codes ";\n"))))
    ∙ ap (λ (m : ℕ). front ++ decimal m ++ codes ":0] " ++ cell_net i ++ codes ";\n") e)))))

-- the numbers of two slots
two_numbers : (register : Bool) (i : ℕ) (ns : List ℕ) → FitSlots (shape_slots register i) ns → (n : ℕ) × (n ≤ LAST_BIT) × (ns ≡ n ∷ i ∷ [])
two_numbers register i [] fit = absurd fit
two_numbers register i (n ∷ []) fit = absurd fit.1
two_numbers register i (n ∷ m ∷ []) fit = let same : m ≡ i = omega (arith, fit.1.0.0, fit.1.0.1) in (n, fit.0.1, ap (λ (k : ℕ). n ∷ k ∷ []) same)
two_numbers register i (n ∷ m ∷ k ∷ ns) fit = absurd fit.1.1

pub shape_misses : (register : Bool) (i : ℕ) (text : List ℕ) (at place : ℕ) → Misses (IsLine (shape_slots register i) (codes "\n")) text at place → Misses (IsShapeOf register i) text at place
shape_misses register i text at place =
    misses_as (IsLine (shape_slots register i) (codes "\n")) (IsShapeOf register i) text at place
    (λ bytes line.
    let two = two_numbers register i line.0 line.1 in
    (two.0 + 1, (omega arith, omega (arith, two.1)), line.2 ∙ (ap (line_text (shape_slots register i) (codes "\n")) two.2 ∙ slots_line register i two.0)))
    (λ bytes shape.
    let w : ℕ = shape.0 in
    let e : w - 1 + 1 ≡ w = omega (arith, shape.1.0) in (
      (w - 1) ∷ (i ∷ []),
      ((omega arith, omega (arith, shape.1.1)), ((omega arith, omega arith), tt)),
      shape.2 ∙ sym (slots_line register i (w - 1) ∙ ap (λ (v : ℕ). shape_text i (record { width = v; register = register })) e),
    ))

pub shape_passed : (register : Bool) (i : ℕ) (old new : TextAt) (ns : List ℕ) → FitSlots (shape_slots register i) ns → Passed old new (line_text (shape_slots register i) (codes "\n") ns)
    → IsWidth (get_or ns 0 0 + 1) × Passed old new (shape_text i (record { width = get_or ns 0 0 + 1; register = register }))
shape_passed register i old new ns fit passed =
    let two = two_numbers register i ns fit in
    let first : get_or ns 0 0 ≡ two.0 = ap (λ (list : List ℕ). get_or list 0 0) two.2 in (
      (omega arith, omega (arith, first, two.1)),
      passed_as old new (line_text (shape_slots register i) (codes "\n") ns) (shape_text i (record { width = get_or ns 0 0 + 1; register = register }))
          (ap (line_text (shape_slots register i) (codes "\n")) two.2 ∙ (slots_line register i two.0 ∙ ap (λ (n : ℕ). shape_text i (record { width = n + 1; register = register })) (sym first))) passed,
    )

-- where neither a wire nor a register is declared
pub no_shape_line : (i : ℕ) (text : List ℕ) (at a b r : ℕ) → a ≤ r → b ≤ r → (r ≡ a) ⊎ (r ≡ b) → Misses (IsShapeOf false i) text at a → Misses (IsShapeOf true i) text at b → Misses (IsShapeLine i) text at r
no_shape_line i text at a b r over_a over_b max wire reg =
    misses_as (Either (IsShapeOf false i) (IsShapeOf true i)) (IsShapeLine i) text at r to from
    (either_misses (IsShapeOf false i) (IsShapeOf true i) text at a b r over_a over_b max wire reg)
  where
    to : (bytes : List ℕ) → Either (IsShapeOf false i) (IsShapeOf true i) bytes → IsShapeLine i bytes
    to bytes (inl wire) = (record { width = wire.0; register = false }, wire.1, wire.2)
    to bytes (inr reg) = (record { width = reg.0; register = true }, reg.1, reg.2)

    by : (b : Bool) (w : ℕ) (bytes : List ℕ) → IsWidth w → bytes ≡ shape_text i (record { width = w; register = b }) → Either (IsShapeOf false i) (IsShapeOf true i) bytes
    by true w bytes wide is = inr (w, wide, is)
    by false w bytes wide is = inl (w, wide, is)

    from : (bytes : List ℕ) → IsShapeLine i bytes → Either (IsShapeOf false i) (IsShapeOf true i) bytes
    from bytes (s, wide, is) = by s.register s.width bytes wide is

-- a declaration is that of one shape
pub shape_code : (i : ℕ) → IsCode Shape IsShape (shape_text i)
shape_code i v w x y is_v is_w same = by v.register w.register refl refl
  where
    Known : Type 0
    Known = (v ≡ w) × (x ≡ y)

    whole : (a b : Bool) → v.register ≡ a → w.register ≡ b → shape_text i (record { width = v.width; register = a }) ++ x ≡ shape_text i (record { width = w.width; register = b }) ++ y
    whole a b is_a is_b =
        ap (λ (k : Bool). shape_text i (record { width = v.width; register = k }) ++ x) (sym is_a) ∙ (same ∙ ap (λ (k : Bool). shape_text i (record { width = w.width; register = k }) ++ y) is_b)

    alike : (k : Bool) → v.register ≡ k → w.register ≡ k → Known
    alike k is_a is_b =
        let known = same_kind (word_of k) (cell_net i) x y v.width w.width (width_bits v.width is_v) (width_bits w.width is_w) (whole k k is_a is_b) in
        ((λ j. record { width = known.0 j; register = (is_a ∙ sym is_b) j }), known.1)

    byte : (a b : Bool) → v.register ≡ a → w.register ≡ b
        → get_or (shape_text i (record { width = v.width; register = a }) ++ x) 2 0 ≡ get_or (shape_text i (record { width = w.width; register = b }) ++ y) 2 0
    byte a b is_a is_b = ap (λ (bytes : List ℕ). get_or bytes 2 0) (whole a b is_a is_b)

    by : (a b : Bool) → v.register ≡ a → w.register ≡ b → Known
    by true true is_a is_b = alike true is_a is_b
    by false false is_a is_b = alike false is_a is_b
    by true false is_a is_b = let other : 114 ≡ 119 = byte true false is_a is_b in absurd (omega (arith, other))
    by false true is_a is_b = let other : 119 ≡ 114 = byte false true is_a is_b in absurd (omega (arith, other))

-- one more is declared
pub shapes_snoc : (i : ℕ) (shapes : List Shape) (s : Shape) → shapes_text i (shapes ++ s ∷ []) ≡ shapes_text i shapes ++ shape_text (i + length shapes) s
shapes_snoc i [] s = let e : i ≡ i + 0 = omega arith in append-nil (shape_text i s) ∙ ap (λ (n : ℕ). shape_text n s) e
shapes_snoc i (t ∷ shapes) s =
    let e : suc i + length shapes ≡ i + suc (length shapes) = omega arith in
    ap (λ (rest : List ℕ). shape_text i t ++ rest) (shapes_snoc (suc i) shapes s ∙ ap (λ (n : ℕ). shapes_text (suc i) shapes ++ shape_text n s) e)
    ∙ sym (append_assoc (shape_text i t) (shapes_text (suc i) shapes) (shape_text (i + length (t ∷ shapes)) s))

pub shapes_more : (shapes longer : List Shape) (s : Shape) (i : ℕ) (old mid new : TextAt) → longer ≡ shapes ++ s ∷ [] → length shapes ≡ i → Passed old mid (shapes_text 0 shapes) → Passed mid new (shape_text i s) → Passed old new (shapes_text 0 longer)
shapes_more shapes longer s i old mid new is count first second =
    let e : 0 + length shapes ≡ i = omega (arith, count) in
    let whole = passed_both old mid new (shapes_text 0 shapes) (shape_text i s) first second in
    passed_as old new (shapes_text 0 shapes ++ shape_text i s) (shapes_text 0 longer) (sym (ap (shapes_text 0) is ∙ (shapes_snoc 0 shapes s ∙ ap (λ (n : ℕ). shapes_text 0 shapes ++ shape_text n s) e))) whole

-- declarations lead on
pub cells_lead : (nets : List PortNet) (before more : List Shape) → AllByRecursion IsShape more → IsNumber (length (before ++ more)) → Leads (LeftCells nets before) (LeftCells nets (before ++ more)) (shapes_text (length before) more)
cells_lead nets before [] wide few = subst (λ (all : List Shape). Leads (LeftCells nets before) (LeftCells nets all) []) (sym (append-nil before)) (leads_none (LeftCells nets before))
cells_lead nets before (s ∷ more) wide few =
    let longer : List Shape = before ++ s ∷ [] in
    let size = length-append before (s ∷ more) in
    let count : length longer ≡ suc (length before) = let e : length before + 1 ≡ suc (length before) = omega arith in length-append before (s ∷ []) ∙ e in
    let all : longer ++ more ≡ before ++ s ∷ more = append_assoc before (s ∷ []) more in
    let some : IsNumber (length before) = omega (arith, few, size) in
    let one : Leads (LeftShape nets before) (LeftCells nets longer) (shape_text (length before) s) =
    item_leads Shape (λ t. IsShape t × (length before < 4294967295)) (shape_text (length before)) (λ t. LeftCells nets (before ++ t ∷ [])) s
    (λ v w x y is_v is_w same. shape_code (length before) v w x y is_v.0 is_w.0 same) (wide.0, omega (arith, few, size)) in
    let first : Leads (LeftCells nets before) (LeftCells nets longer) (shape_text (length before) s) =
    leads_as (Either (LeftShape nets before) (LeftDrivers nets 0 before)) (LeftCells nets longer) (LeftCells nets before) (LeftCells nets longer) (shape_text (length before) s)
    (cells_join nets before some) (cells_split nets before) (λ x is. is) (λ x is. is)
    (alone_leads (LeftShape nets before) (LeftDrivers nets 0 before) (LeftCells nets longer) (shape_text (length before) s) (no_shape nets 0 (length before) before s) one) in
    let rest = cells_lead nets longer more wide.1 (subst (λ (list : List Shape). IsNumber (length list)) (sym all) few) in
    leads_both (LeftCells nets before) (LeftCells nets longer) (LeftCells nets (before ++ s ∷ more)) (shape_text (length before) s) (shapes_text (suc (length before)) more) first
    (subst (λ (n : ℕ). Leads (LeftCells nets longer) (LeftCells nets (before ++ s ∷ more)) (shapes_text n more)) count
    (subst (λ (list : List Shape). Leads (LeftCells nets longer) (LeftCells nets list) (shapes_text (length longer) more)) all rest))

pub cells_on : (nets : List PortNet) (shapes : List Shape) (old new : TextAt) → AllByRecursion IsShape shapes → IsNumber (length shapes) → Passed old new (shapes_text 0 shapes) → LeadsOn (LeftCells nets []) (LeftCells nets shapes) old new
cells_on nets shapes old new wide few passed = record { word = shapes_text 0 shapes; passed = passed; leads = cells_lead nets [] shapes wide few }

-- where no further one is declared, and the lines behind break off
pub cells_break : (nets : List PortNet) (shapes : List Shape) (text : List ℕ) (at stopped place r : ℕ) → IsNumber (length shapes) → NoShape (length shapes) text at stopped
    → BreaksFrom (LeftDrivers nets 0 shapes) (record { text = text; at = at }) place → stopped ≤ r → place ≤ r → (r ≡ stopped) ⊎ (r ≡ place) → BreaksFrom (LeftCells nets shapes) (record { text = text; at = at }) r
cells_break nets shapes text at stopped place r few (inl (full, same)) (n, is, breaks) over_stopped over_place max =
    let e : place ≡ r = ends max in
    subst (λ (p : ℕ). BreaksFrom (LeftCells nets shapes) (record { text = text; at = at }) p) e
    (from_as (LeftDrivers nets 0 shapes) (LeftCells nets shapes) (record { text = text; at = at }) place (λ x left. cells_join nets shapes few x (inr left)) from (n, is, breaks))
  where
    ends : r ≡ stopped ⊎ (r ≡ place) → place ≡ r
    ends (inl is_stopped) = omega (arith, is_stopped, same, is, over_place)
    ends (inr is_place) = sym is_place

    from : (x : List ℕ) → LeftCells nets shapes x → LeftDrivers nets 0 shapes x
    from x left = elim (cells_split nets shapes x left) [ inl shape ↦ absurd (omega (arith, full, shape.2.1)) | inr drivers ↦ drivers ]
cells_break nets shapes text at stopped place r few (inr (room, misses)) breaks over_stopped over_place max =
    let more : Misses (IsTextOf Shape (λ s. IsShape s × (length shapes < 4294967295)) (shape_text (length shapes))) text at stopped =
    misses_as (IsShapeLine (length shapes)) (IsTextOf Shape (λ s. IsShape s × (length shapes < 4294967295)) (shape_text (length shapes))) text at stopped
    (λ bytes is. (is.0, (is.1, room), is.2)) (λ bytes is. (is.0, is.1.0, is.2)) misses in
    let one = first_breaks Shape (λ s. IsShape s × (length shapes < 4294967295)) (shape_text (length shapes)) (λ s. LeftCells nets (shapes ++ s ∷ [])) text at stopped
    (λ s is. some_cells nets (shapes ++ s ∷ []) (omega (arith, room, length-append shapes (s ∷ [])))) more in
    from_as (Either (LeftShape nets shapes) (LeftDrivers nets 0 shapes)) (LeftCells nets shapes) (record { text = text; at = at }) r (cells_join nets shapes few) (cells_split nets shapes)
    (either_further (LeftShape nets shapes) (LeftDrivers nets 0 shapes) (record { text = text; at = at }) stopped place r over_stopped over_place max one breaks)

declared_first : (i : ℕ) (c : Cell) (cells : List Cell) (x : List ℕ) → cell_declarations i (c ∷ cells) ++ x ≡ shape_text i (shape_of c) ++ (cell_declarations (suc i) cells ++ x)
declared_first i c cells x = append_assoc (cell_declaration i c) (cell_declarations (suc i) cells) x ∙ cell_text i c (cell_declarations (suc i) cells ++ x)

-- cells whose declarations stand in the text are found
pub shapes_found : (i : ℕ) (shapes : List Shape) (cells : List Cell) (x rest : List ℕ) → AllByRecursion IsShape shapes → HaveCellWidths cells → IsBody x
    → ((c : Cell) (more : List Cell) → IsWidth c.width → length cells ≡ length shapes + suc (length more) → (y : List ℕ) → rest ≡ shape_text (i + length shapes) (shape_of c) ++ y → ⊥)
    → shapes_text i shapes ++ rest ≡ cell_declarations i cells ++ x → (shapes ≡ map shape_of cells) × (rest ≡ x)
shapes_found i [] [] x rest wide is body none same = (refl, same)
shapes_found i (s ∷ shapes) [] x rest wide is body none same =
    absurd (shape_first i s (shapes_text (suc i) shapes ++ rest) (subst IsBody (sym same ∙ append_assoc (shape_text i s) (shapes_text (suc i) shapes) rest) body))
shapes_found i [] (c ∷ cells) x rest wide is body none same =
    let e : i ≡ i + 0 = omega arith in
    absurd
    (none c cells is.0 (omega arith) (cell_declarations (suc i) cells ++ x)
    (same ∙ (declared_first i c cells x ∙ ap (λ (n : ℕ). shape_text n (shape_of c) ++ (cell_declarations (suc i) cells ++ x)) e)))
shapes_found i (s ∷ shapes) (c ∷ cells) x rest wide is body none same =
    let whole : shape_text i s ++ (shapes_text (suc i) shapes ++ rest) ≡ shape_text i (shape_of c) ++ (cell_declarations (suc i) cells ++ x) =
    sym (append_assoc (shape_text i s) (shapes_text (suc i) shapes) rest) ∙ (same ∙ declared_first i c cells x) in
    let known = shape_code i s (shape_of c) (shapes_text (suc i) shapes ++ rest) (cell_declarations (suc i) cells ++ x) wide.0 is.0 whole in
    let e : suc i + length shapes ≡ i + suc (length shapes) = omega arith in
    let more = shapes_found (suc i) shapes cells x rest wide.1 is.1 body
    (λ d left wide_d size y stands. none d left wide_d (omega (arith, size)) y (stands ∙ ap (λ (n : ℕ). shape_text n (shape_of d) ++ y) e)) known.1 in
    ((λ j. known.0 j ∷ more.0 j), more.1)

-- so the cells of a text are those that the reader finds
pub cells_found : (text : List ℕ) (at end stopped : ℕ) (shapes : List Shape) (cells : List Cell) (x : List ℕ) → AllByRecursion IsShape shapes
    → Passed (record { text = text; at = at }) (record { text = text; at = end }) (shapes_text 0 shapes) → NoShape (length shapes) text end stopped
    → HaveCellWidths cells → length cells ≤ 4294967295 → IsBody x → drop at text ≡ cell_declarations 0 cells ++ x → (shapes ≡ map shape_of cells) × (drop end text ≡ x)
cells_found text at end stopped shapes cells x wide passed ends is few body stands =
    shapes_found 0 shapes cells x (drop end text) wide is body (none ends)
    (sym (passed_rest (record { text = text; at = at }) (record { text = text; at = end }) (shapes_text 0 shapes) passed) ∙ stands)
  where
    none : NoShape (length shapes) text end stopped → (c : Cell) (more : List Cell) → IsWidth c.width → length cells ≡ length shapes + suc (length more) → (y : List ℕ)
        → drop end text ≡ shape_text (0 + length shapes) (shape_of c) ++ y → ⊥
    none (inl (full, same)) c more wide_c size y left = omega (arith, full, size, few)
    none (inr (room, misses)) c more wide_c size y left =
        let e : 0 + length shapes ≡ length shapes = omega arith in
        not_missed (IsShapeLine (length shapes)) text end stopped (shape_text (length shapes) (shape_of c)) y misses (shape_of c, wide_c, refl)
        (left ∙ ap (λ (n : ℕ). shape_text n (shape_of c) ++ y) e)
