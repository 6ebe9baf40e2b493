-- The steps of cells, made in an order in which these can be evaluated.
--
-- A step reads only sources and nets that came before it, and the net of a later step is neither.
use Rattle.std.specs.Prelude.{◌≡◌, ◌≢◌, ℕ, zero, suc, ◌+◌, ◌<◌, ◌≤◌, Bool, true, false, IsTrue, IsFalse, if◌then◌else◌, ◌⊎◌, List, [], ◌∷◌, ◌++◌, length, map, take, get_or, All, Contains, Some, slice_get}
use Rattle.std.specs.Option.{option_map}
use Rattle.std.proofs.Common.{arith, refl, sym, ◌∙◌, ap, subst, inl, inr}
use Rattle.std.proofs.lemmas.List.{append-nil, append_assoc, length-map, take_more, take_all}
use Rattle.std.proofs.lemmas.List.Elements.{All-append, All-push, All-nil, All-cons, All-weaker, Contains-get_or, Contains-push, Contains-append_left, Contains-push_cases}
use Rattle.std.proofs.lemmas.Option.{slice_get-get_or, slice_get-map, slice_get_within, get_or_from_slice_get}
use Rattle.gos_netlist.specs.declared.nets.Cell as declared
use Rattle.gos_netlist.specs.declared.nets.Gate as gate
use Rattle.gos_netlist.specs.declared.nets.Gate.TheVariants as gates
use Rattle.gos_netlist.specs.declared.nets.NetId.{NetId}
use Rattle.gos_netlist.specs.Nets.{Cell, pins}
use Rattle.gos_netlist.specs.Seen.{cell_of, function_of, number_of}
use Rattle.gos_sim.specs.declared.program.Step.{Step}
use Rattle.gos_sim.specs.inner.Order.{IsDueStep, IsOrder}
use Rattle.gos_sim.specs.inner.Program.{IsProgram, IsStepOf, IsStepWithin, HasStep, HaveOneCell, Spares, SparesEarlier, cell_of_step, is_source, no_cell, reads, steps_at, steps_named}
use Rattle.gos_sim.specs.inner.Ready.{AreCellsReady, IsCellWithin}
use Rattle.gos_sim.proofs.PlaceLemmas.{all_at, same_element}
use Rattle.gos_sim.proofs.SourceLemmas.{register_is_source}

-- an element after one more is pushed is an earlier one or that one
pub pushed : {A : Type 0} (xs : List A) (y z : A) (j : ℕ) → slice_get (xs ++ y ∷ []) j ≡ Some z
    → (slice_get xs j ≡ Some z) × (j < length xs) ⊎ (j ≡ length xs) × (y ≡ z)
pushed [] y z zero is = inr (refl, cc)
pushed [] y z (suc j) is = absurd (cc)
pushed (x ∷ xs) y z zero is = inl (is, omega arith)
pushed (x ∷ xs) y z (suc j) is = further (pushed xs y z j is)
  where
    further : (slice_get xs j ≡ Some z) × (j < length xs) ⊎ (j ≡ length xs) × (y ≡ z)
        → (slice_get (x ∷ xs) (suc j) ≡ Some z) × (suc j < length (x ∷ xs)) ⊎ (suc j ≡ length (x ∷ xs)) × (y ≡ z)
    further (inl (e, l)) = inl (e, omega arith)
    further (inr (e, same)) = inr (ap suc e, same)

-- a net is a source, or came before
abbrev pub IsKnown : List Cell → List ℕ → ℕ → Type 0
IsKnown cells before a = ((c : Cell) × (slice_get cells a ≡ Some c) × IsTrue (is_source c.gate)) ⊎ Contains before a

-- the steps that are made of the nets that came before
pub record ArePlaced (cells : List Cell) (before : List ℕ) (steps : List Step) : Type 0 where
  pub sound : All (IsStepOf cells) steps
  pub whole : (n : ℕ) (c : Cell) → Contains before n → slice_get cells n ≡ Some c → IsFalse (is_source c.gate) → HasStep steps n
  pub came : All (λ s. Contains before s.net) steps
  pub known : All (λ s. All (IsKnown cells before) (reads s)) steps
  pub ordered : SparesEarlier steps

known_more : (cells : List Cell) (before : List ℕ) (n a : ℕ) → IsKnown cells before a → IsKnown cells (before ++ n ∷ []) a
known_more cells before n a (inl source) = inl source
known_more cells before n a (inr came) = inr (Contains-append_left before (n ∷ []) a came)

-- what is placed stays so when one more net has come
came_more : (cells : List Cell) (before : List ℕ) (n : ℕ) (steps : List Step) → All (λ s. Contains before s.net) steps → All (λ s. Contains (before ++ n ∷ []) s.net) steps
came_more cells before n steps came =
    All-weaker (λ (s : Step). Contains before s.net) (λ (s : Step). Contains (before ++ n ∷ []) s.net) (λ s h. Contains-append_left before (n ∷ []) s.net h) steps came

reads_more : (cells : List Cell) (before : List ℕ) (n : ℕ) (s : Step) → All (IsKnown cells before) (reads s) → All (IsKnown cells (before ++ n ∷ [])) (reads s)
reads_more cells before n s = All-weaker (IsKnown cells before) (IsKnown cells (before ++ n ∷ [])) (known_more cells before n) (reads s)

all_reads_more : (cells : List Cell) (before : List ℕ) (n : ℕ) (steps : List Step) → All (λ s. All (IsKnown cells before) (reads s)) steps
    → All (λ s. All (IsKnown cells (before ++ n ∷ [])) (reads s)) steps
all_reads_more cells before n steps known =
    All-weaker (λ (s : Step). All (IsKnown cells before) (reads s)) (λ (s : Step). All (IsKnown cells (before ++ n ∷ [])) (reads s)) (reads_more cells before n) steps known

-- a source comes
placed_source : (cells : List Cell) (before : List ℕ) (steps : List Step) (n : ℕ) (c : Cell) → slice_get cells n ≡ Some c → IsTrue (is_source c.gate)
    → ArePlaced cells before steps → ArePlaced cells (before ++ n ∷ []) steps
placed_source cells before steps n c is source placed =
    record {
      sound = placed.sound;
      whole = λ m d came at_m inside. at_net m d at_m inside (Contains-push_cases before n m came);
      came = came_more cells before n steps placed.came;
      known = all_reads_more cells before n steps placed.known;
      ordered = placed.ordered;
    }
  where
    at_net : (m : ℕ) (d : Cell) → slice_get cells m ≡ Some d → IsFalse (is_source d.gate) → Contains before m ⊎ (n ≡ m) → HasStep steps m
    at_net m d at_m inside (inl came) = placed.whole m d came at_m inside
    at_net m d at_m inside (inr same) =
        let one : c ≡ d = same_element cells m c d (subst (λ (k : ℕ). slice_get cells k ≡ Some c) same is) at_m in
        let no : true ≡ false = sym source ∙ (ap (λ (e : Cell). is_source e.gate) one ∙ inside) in
        absurd (cc)

-- what is known is not the net of a step that has not come
apart : (cells : List Cell) (before : List ℕ) (s : Step) (a : ℕ) → IsStepOf cells s → (Contains before s.net → ⊥) → IsKnown cells before a → a ≢ s.net
apart cells before s a step new (inl (c, is, source)) = λ same.
    let one : c ≡ cell_of_step s = same_element cells s.net c (cell_of_step s) (subst (λ (k : ℕ). slice_get cells k ≡ Some c) same is) step.0 in
    let no : true ≡ false = sym source ∙ (ap (λ (e : Cell). is_source e.gate) one ∙ step.1) in
    absurd (cc)
apart cells before s a step new (inr came) = λ same. new (subst (λ (k : ℕ). Contains before k) same came)

-- a step comes
placed_step : (cells : List Cell) (before : List ℕ) (steps : List Step) (s : Step) → IsStepOf cells s → (Contains before s.net → ⊥) → All (IsKnown cells before) (reads s)
    → ArePlaced cells before steps → ArePlaced cells (before ++ s.net ∷ []) (steps ++ s ∷ [])
placed_step cells before steps s step new known placed =
    record {
      sound = All-push (IsStepOf cells) steps s placed.sound step;
      whole = λ m d came at_m inside. at_net m d at_m inside (Contains-push_cases before s.net m came);
      came = All-push (λ (t : Step). Contains (before ++ s.net ∷ []) t.net) steps s (came_more cells before s.net steps placed.came) (Contains-push before s.net);
      known = All-push (λ (t : Step). All (IsKnown cells (before ++ s.net ∷ [])) (reads t)) steps s (all_reads_more cells before s.net steps placed.known) (reads_more cells before s.net s known);
      ordered = λ j k t u at_j at_k le. at_places j k t u le (pushed steps s t j at_j) (pushed steps s u k at_k);
    }
  where
    at_net : (m : ℕ) (d : Cell) → slice_get cells m ≡ Some d → IsFalse (is_source d.gate) → Contains before m ⊎ (s.net ≡ m) → HasStep (steps ++ s ∷ []) m
    at_net m d at_m inside (inl came) =
        let (t, has, e) = placed.whole m d came at_m inside in
        (t, Contains-append_left steps (s ∷ []) t has, e)
    at_net m d at_m inside (inr same) = (s, Contains-push steps s, same)

    spares : (t : Step) → All (IsKnown cells before) (reads t) → Spares s (reads t)
    spares t reads_known = All-weaker (IsKnown cells before) (λ a. a ≢ s.net) (λ a h. apart cells before s a step new h) (reads t) reads_known

    at_places : (j k : ℕ) (t u : Step) → j ≤ k
        → (slice_get steps j ≡ Some t) × (j < length steps) ⊎ (j ≡ length steps) × (s ≡ t)
        → (slice_get steps k ≡ Some u) × (k < length steps) ⊎ (k ≡ length steps) × (s ≡ u)
        → Spares u (reads t)
    at_places j k t u le (inl old) (inl other) = placed.ordered j k t u old.0 other.0 le
    at_places j k t u le (inl old) (inr last) =
        subst (λ (u : Step). Spares u (reads t)) last.1 (spares t (all_at (λ (t : Step). All (IsKnown cells before) (reads t)) steps j t placed.known old.0))
    at_places j k t u le (inr last) (inl old) = absurd (omega (arith, last.0, old.1))
    at_places j k t u le (inr last) (inr also) =
        subst (λ (u : Step). Spares u (reads t)) also.1 (subst (λ (t : Step). Spares s (reads t)) last.1 (spares s known))

-- the pins of a due cell that is no source are known
due_known : (cells : List Cell) (before : List ℕ) (n : ℕ) (c : Cell) → AreCellsReady cells → IsDueStep cells before n → slice_get cells n ≡ Some c
    → IsFalse (is_source c.gate) → All (IsKnown cells before) (pins c.gate)
due_known cells before n c ready due is inside = λ k d l. at_pin (get_or (pins c.gate) k d) ((ready n c is).pins k d l) (Contains-get_or (pins c.gate) k d l)
  where
    by_test : (a : ℕ) (e : Cell) (t : Bool) → slice_get cells a ≡ Some e → Contains (pins c.gate) a → is_source e.gate ≡ t → IsKnown cells before a
    by_test a e true at_a named source = inl (e, at_a, source)
    by_test a e false at_a named other =
        inr (due.fed c is inside a (e, c, at_a, is, (λ register. let no : true ≡ false = sym (register_is_source e.gate register) ∙ other in absurd (cc)), named))

    at_pin : (a : ℕ) → a < length cells → Contains (pins c.gate) a → IsKnown cells before a
    at_pin a below named = by_test a (get_or cells a c) (is_source (get_or cells a c).gate) (slice_get-get_or cells a c below) named refl

-- the cell behind what clauses see
pub cell_at : (cells : List declared.Cell) (n : ℕ) (c : declared.Cell) → slice_get cells n ≡ Some c → slice_get (map cell_of cells) n ≡ Some (cell_of c)
cell_at cells n c is = slice_get-map cell_of cells n ∙ ap (option_map cell_of) is

-- the nets so far, and one more
pub take_one : (order : List ℕ) (i n : ℕ) → slice_get order i ≡ Some n → take (i + 1) order ≡ take i order ++ n ∷ []
take_one order i n is =
    take_more order i n (slice_get_within order i n is) ∙ ap (λ (m : ℕ). take i order ++ m ∷ []) (get_or_from_slice_get order i n n is)

-- one net more of the order
pub placed_more : (cells : List declared.Cell) (order : List ℕ) (steps : List Step) (i n : ℕ) (c : declared.Cell) → AreCellsReady (map cell_of cells)
    → IsOrder (map cell_of cells) order → slice_get order i ≡ Some n → slice_get cells n ≡ Some c
    → ArePlaced (map cell_of cells) (take i order) steps → ArePlaced (map cell_of cells) (take (i + 1) order) (steps ++ steps_at n c)
placed_more cells order steps i n c ready is_order at_i at_n placed =
    subst (λ (before : List ℕ). ArePlaced (map cell_of cells) before (steps ++ steps_at n c)) (sym (take_one order i n at_i)) (by_test (is_source (function_of c.gate)) refl)
  where
    made : Step
    made = record { net = n; width = c.width; gate = c.gate }

    by_test : (t : Bool) → is_source (function_of c.gate) ≡ t → ArePlaced (map cell_of cells) (take i order ++ n ∷ []) (steps ++ (if t then [] else made ∷ []))
    by_test true source =
        subst (λ (more : List Step). ArePlaced (map cell_of cells) (take i order ++ n ∷ []) more) (sym (append-nil steps))
        (placed_source (map cell_of cells) (take i order) steps n (cell_of c) (cell_at cells n c at_n) source placed)
    by_test false inside =
        let due = is_order.due i n at_i in
        placed_step (map cell_of cells) (take i order) steps made (cell_at cells n c at_n, inside) due.new
        (due_known (map cell_of cells) (take i order) n (cell_of c) ready due (cell_at cells n c at_n) inside) placed

-- nothing has come yet
pub placed_none : (cells : List Cell) → ArePlaced cells [] []
placed_none cells =
    record {
      sound = All-nil (IsStepOf cells);
      whole = λ n c came. absurd (omega (arith, came.1));
      came = All-nil (λ (s : Step). Contains [] s.net);
      known = All-nil (λ (s : Step). All (IsKnown cells []) (reads s));
      ordered = λ j k s t at_j. absurd (cc);
    }

-- a step of a cell that is ready is within
pub steps_at_within : (cells : List declared.Cell) (n : ℕ) (c : declared.Cell) → AreCellsReady (map cell_of cells) → slice_get cells n ≡ Some c
    → All (IsStepWithin (length cells)) (steps_at n c)
steps_at_within cells n c ready at_n = by_test (is_source (function_of c.gate))
  where
    cell : IsCellWithin (length cells) (cell_of c)
    cell = subst (λ (m : ℕ). IsCellWithin m (cell_of c)) (length-map cells cell_of) (ready n (cell_of c) (cell_at cells n c at_n))

    by_test : (t : Bool) → All (IsStepWithin (length cells)) (if t then [] else record { net = n; width = c.width; gate = c.gate } ∷ [])
    by_test true = All-nil (IsStepWithin (length cells))
    by_test false =
        All-cons (IsStepWithin (length cells)) (record { net = n; width = c.width; gate = c.gate }) []
        (record { net = slice_get_within cells n c at_n; reads = cell.pins }) (All-nil (IsStepWithin (length cells)))

-- it is a cell
pub below_cells : (cells : List declared.Cell) (order : List ℕ) (i n : ℕ) → IsOrder (map cell_of cells) order → slice_get order i ≡ Some n → n < length cells
below_cells cells order i n is_order at_i = subst (λ (m : ℕ). n < m) (length-map cells cell_of) (is_order.due i n at_i).below

-- the steps of nets, and those of one more
pub steps_named_more : (cells : List declared.Cell) (ns : List ℕ) (n : ℕ) → steps_named cells (ns ++ n ∷ []) ≡ steps_named cells ns ++ steps_at n (get_or cells n no_cell)
steps_named_more cells [] n = append-nil (steps_at n (get_or cells n no_cell))
steps_named_more cells (m ∷ ns) n =
    ap (λ (ss : List Step). steps_at m (get_or cells m no_cell) ++ ss) (steps_named_more cells ns n)
    ∙ sym (append_assoc (steps_at m (get_or cells m no_cell)) (steps_named cells ns) (steps_at n (get_or cells n no_cell)))

-- the steps of nets in an order are a program
module _ (cells : List declared.Cell) (order : List ℕ) (ready : AreCellsReady (map cell_of cells)) (is_order : IsOrder (map cell_of cells) order) where
  placed_one : (i n : ℕ) → slice_get order i ≡ Some n → ArePlaced (map cell_of cells) (take i order) (steps_named cells (take i order))
      → ArePlaced (map cell_of cells) (take (i + 1) order) (steps_named cells (take (i + 1) order))
  placed_one i n at_i placed =
      let at_n = slice_get-get_or cells n no_cell (below_cells cells order i n is_order at_i) in
      subst (ArePlaced (map cell_of cells) (take (i + 1) order)) (sym (ap (steps_named cells) (take_one order i n at_i) ∙ steps_named_more cells (take i order) n))
      (placed_more cells order (steps_named cells (take i order)) i n (get_or cells n no_cell) ready is_order at_i at_n placed)

  all_placed : (i : ℕ) → i ≤ length order → ArePlaced (map cell_of cells) (take i order) (steps_named cells (take i order))
  all_placed zero low = placed_none (map cell_of cells)
  all_placed (suc i) low =
      let next : i + 1 ≡ suc i = omega arith in
      subst (λ (k : ℕ). ArePlaced (map cell_of cells) (take k order) (steps_named cells (take k order))) next
      (placed_one i (get_or order i 0) (slice_get-get_or order i 0 (omega (arith, low))) (all_placed i (omega (arith, low))))

  pub program_of_order : IsProgram (map cell_of cells) (steps_named cells order)
  program_of_order =
      let placed = subst (λ (ns : List ℕ). ArePlaced (map cell_of cells) ns (steps_named cells ns)) (take_all (length order) order (omega arith)) (all_placed (length order) (omega arith)) in
      record {
        sound = placed.sound;
        whole = λ n c is inside. placed.whole n c (is_order.all n (slice_get_within (map cell_of cells) n c is)) is inside;
        ordered = placed.ordered;
      }

  pub steps_named_within : All (IsStepWithin (length cells)) (steps_named cells order)
  steps_named_within = each order (λ i n is. below_cells cells order i n is_order is)
    where
      each : (ns : List ℕ) → ((i n : ℕ) → slice_get ns i ≡ Some n → n < length cells) → All (IsStepWithin (length cells)) (steps_named cells ns)
      each [] below = All-nil (IsStepWithin (length cells))
      each (n ∷ ns) below =
          All-append (IsStepWithin (length cells)) (steps_at n (get_or cells n no_cell)) (steps_named cells ns)
          (steps_at_within cells n (get_or cells n no_cell) ready (slice_get-get_or cells n no_cell (below 0 n refl)))
          (each ns (λ i m is. below (suc i) m is))

-- a gate that is neither an input nor a register is a step's
pub step_gate : (g : gate.Gate) → (g ≡ gates.Input → ⊥) → ((a : NetId) → g ≡ gates.Reg a → ⊥) → IsFalse (is_source (function_of g))
step_gate gates.Input input register = absurd (input refl)
step_gate (gates.Const k) input register = refl
step_gate (gates.Not a) input register = refl
step_gate (gates.And a b) input register = refl
step_gate (gates.Or a b) input register = refl
step_gate (gates.Xor a b) input register = refl
step_gate (gates.Mux s a b) input register = refl
step_gate (gates.Add a b) input register = refl
step_gate (gates.Sub a b) input register = refl
step_gate (gates.Eq a b) input register = refl
step_gate (gates.Less a b) input register = refl
step_gate (gates.Gate s a) input register = refl
step_gate (gates.Reg a) input register = absurd (register a refl)

-- the steps of such a cell are one
pub one_step : (n : ℕ) (c : declared.Cell) → IsFalse (is_source (function_of c.gate)) → steps_at n c ≡ record { net = n; width = c.width; gate = c.gate } ∷ []
one_step n c inside = ap (λ (t : Bool). if t then [] else record { net = n; width = c.width; gate = c.gate } ∷ []) inside

-- the net at a place of the order
pub order_at : (order : List NetId) (i : ℕ) (d : NetId) → i < length order → slice_get (map number_of order) i ≡ Some (number_of (get_or order i d))
order_at order i d below = slice_get-map number_of order i ∙ ap (option_map number_of) (slice_get-get_or order i d below)

-- a cell that is ready reads cells
pub pins_below : (cells : List declared.Cell) (n count : ℕ) (d : declared.Cell) → AreCellsReady (map cell_of cells) → n < length cells → count ≡ length (map cell_of cells)
    → All (λ a. a < count) (pins (function_of (get_or cells n d).gate))
pins_below cells n count d ready below same =
    subst (λ (m : ℕ). All (λ a. a < m) (pins (function_of (get_or cells n d).gate))) (sym same) (ready n (cell_of (get_or cells n d)) (cell_at cells n (get_or cells n d) (slice_get-get_or cells n d below))).pins

-- so do its steps
pub steps_below : (cells : List declared.Cell) (n count : ℕ) (d : declared.Cell) → AreCellsReady (map cell_of cells) → n < length cells → count ≡ length cells
    → All (IsStepWithin count) (steps_at n (get_or cells n d))
steps_below cells n count d ready below same =
    subst (λ (m : ℕ). All (IsStepWithin m) (steps_at n (get_or cells n d))) (sym same) (steps_at_within cells n (get_or cells n d) ready (slice_get-get_or cells n d below))

-- steps of one net are of one cell
pub one_cell : (cells : List Cell) (steps : List Step) → All (IsStepOf cells) steps → HaveOneCell steps
one_cell cells steps sound = λ j k s t at_j at_k same.
    let first : IsStepOf cells s = all_at (IsStepOf cells) steps j s sound at_j in
    let other : IsStepOf cells t = all_at (IsStepOf cells) steps k t sound at_k in
    same_element cells t.net (cell_of_step s) (cell_of_step t) (subst (λ (n : ℕ). slice_get cells n ≡ Some (cell_of_step s)) same first.0) other.0
