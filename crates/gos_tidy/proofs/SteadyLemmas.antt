-- A netlist whose steady cells have become constants is accepted and alike, and has its cells in their order.
--
-- Read first: Steady, Laws; RunLemmas, AlikeLemmas. Its runs are runs of the netlist that it was made from, with the same numbers at
-- all nets.
use Rattle.std.proofs.Common.{◌≡◌, ◌⊎◌, inl, inr, ◌^◌, ◌<◌, ℕ, zero, suc, List, [], ◌∷◌, length, map, replicate, slice_get, Option, Some, None, Contains, refl, sym, ap, subst, ◌∙◌, arith}
use Rattle.std.specs.Prelude.{not, filter, ◌++◌}
use Rattle.std.specs.List.{AllByRecursion}
use Rattle.std.proofs.lemmas.Option.{slice_get_within, same_Some}
use Rattle.gos_model.specs.Labels.{Label, is_output}
use Rattle.gos_model.specs.Moves.{Program}
use Rattle.gos_model.specs.Protocol.{KeepsProtocol}
use Rattle.gos_netlist.specs.Nets.{Function, Input, Const, Not, And, Or, Xor, Mux, Add, Sub, Eq, Less, Gate, Reg, Cell, NetPort, Netlist, pins}
use Rattle.gos_netlist.specs.Settling.{Numbers, at, shown, next_of, next_registers, Settling, RunFrom, IsRun}
use Rattle.gos_netlist.specs.Cycles.{Feeds, Chain, HasCycle}
use Rattle.gos_netcheck.specs.CellRules.{PinsExist, HasRightWidths, widths_of, NetsExist, WidthsFit}
use Rattle.gos_netcheck.specs.PortRules.{places, FitsAt, all_inputs, IsRightPort, PortsFit}
use Rattle.gos_netcheck.specs.Accepted.{IsAccepted}
use Rattle.gos_pace.specs.Flattening.{AnyOrder, Flattening, flat, pulses}
use Rattle.gos_pace.specs.RunProtocol.{InputsInRange, IsInRange, RunKeeps, taken_by}
use Rattle.gos_pace.specs.Pace.{KeepsPaceAlways}
use Rattle.gos_tidy.specs.Ends.{all_outputs}
use Rattle.gos_tidy.specs.Mapped.{renamed, IsConst}
use Rattle.gos_tidy.specs.Steady.{ShowsAlways, StaysZero, IsSteady, IsSteadied}
use Rattle.gos_tidy.specs.Alike.{face, numbers_at, SameInputs, SameOutputs, Became, IsAlike, KeepsOrder}
use Rattle.gos_tidy.specs.Laws.{SteadiedOnce}
use Rattle.gos_tidy.specs.inner.Reading.{number_in, number_at}
use Rattle.gos_tidy.proofs.NarrowLemmas.{next_at, at_zeros}
use Rattle.gos_tidy.proofs.RenamedLemmas.{one_cell}
use Rattle.gos_tidy.proofs.QuotientLemmas.{cell_there, ring_back}
use Rattle.gos_tidy.proofs.RunLemmas.{drawn, length_drawn}
use Rattle.gos_tidy.proofs.OrderLemmas.{drawn_is}
use Rattle.gos_tidy.proofs.AlikeLemmas.{alike_outputs}
use Rattle.gos_tidy.proofs.StillLemmas.{reduced_itself}

-- Lists.

maps_same : {X : Type 0} (h : X → ℕ) (xs ys : List X) → length xs ≡ length ys
    → ((n : ℕ) (x y : X) → slice_get xs n ≡ Some x → slice_get ys n ≡ Some y → h x ≡ h y) → map h xs ≡ map h ys
maps_same h [] [] long each = refl
maps_same h [] (y ∷ ys) long each = absurd (omega (arith, long))
maps_same h (x ∷ xs) [] long each = absurd (omega (arith, long))
maps_same h (x ∷ xs) (y ∷ ys) long each =
    let first = each 0 x y refl refl in
    let rest = maps_same h xs ys (omega (arith, long)) (λ n. each (suc n)) in
    (λ i. first i ∷ rest i)

-- Constants.

-- each constant shows its number
number_is : (cells : List Cell) (a j : ℕ) → IsConst cells a j → number_at cells a ≡ j
number_is cells a j (w, is) = ap number_in is

-- what a gate shows for ever it shows whatever its register and input
always_one : (cells : List Cell) (w : ℕ) (g : Function) (k r i : ℕ) → ShowsAlways cells w g k → shown w g r i (number_at cells) ≡ k
always_one cells w g k r i always = always r i (number_at cells) (number_is cells)

-- it is no input, and has no register that could be another one
always_no_input : (cells : List Cell) (w k : ℕ) (g : Function) → ShowsAlways cells w g k → g ≡ Input → ⊥
always_no_input cells w k g always input =
    let here = subst (λ (f : Function). ShowsAlways cells w f k) input always in
    let first : 0 ≡ k = always_one cells w Input k 0 0 here in
    let second : 1 ≡ k = always_one cells w Input k 0 1 here in
    omega (arith, first, second)

pub always_no_register : (cells : List Cell) (w k a : ℕ) → ShowsAlways cells w (Reg a) k → ⊥
always_no_register cells w k a always =
    let first : 0 ≡ k = always_one cells w (Reg a) k 0 0 always in
    let second : 1 ≡ k = always_one cells w (Reg a) k 1 0 always in
    omega (arith, first, second)

always_next : (cells : List Cell) (w k : ℕ) (g : Function) (v : Numbers) → ShowsAlways cells w g k → next_of g v ≡ 0
always_next cells w k Input v always = refl
always_next cells w k (Const j) v always = refl
always_next cells w k (Not a) v always = refl
always_next cells w k (And a b) v always = refl
always_next cells w k (Or a b) v always = refl
always_next cells w k (Xor a b) v always = refl
always_next cells w k (Mux s a b) v always = refl
always_next cells w k (Add a b) v always = refl
always_next cells w k (Sub a b) v always = refl
always_next cells w k (Eq a b) v always = refl
always_next cells w k (Less a b) v always = refl
always_next cells w k (Gate s a) v always = refl
always_next cells w k (Reg a) v always = absurd (always_no_register cells w k a always)

-- Flattenings tell of ports alone.

flattened_by : (net other : Netlist) → net.ports ≡ other.ports → (vs : List Numbers) (parts : List (List Label)) → Flattening net vs parts → Flattening other vs parts
flattened_by net other same [] [] parts_of = tt
flattened_by net other same [] (part ∷ parts) parts_of = absurd parts_of
flattened_by net other same (v ∷ vs) [] parts_of = absurd parts_of
flattened_by net other same (v ∷ vs) (part ∷ parts) parts_of = (
  subst (λ (ps : List NetPort). (out : List Label) × (inp : List Label) × AnyOrder (filter is_output (pulses ps v)) out
      × AnyOrder (filter (λ l. not (is_output l)) (pulses ps v)) inp × (part ≡ out ++ inp)) same parts_of.0,
  flattened_by net other same vs parts parts_of.1,
)

module _ (net other : Netlist) (steadied : IsSteadied net other) where
  -- a cell of the second netlist is the one that stood there, or a constant
  record WasBefore (n : ℕ) (e : Cell) : Type 0 where
    cell : Cell
    there : slice_get net.cells n ≡ Some cell
    kind : (e ≡ cell) ⊎ ((k : ℕ) × (k < 2 ^ cell.width) × (e ≡ record { width = cell.width; gate = Const k }))

  was_before : (n : ℕ) (e : Cell) → slice_get other.cells n ≡ Some e → WasBefore n e
  was_before n e is =
      let (c, there) = cell_there net.cells n (let low = slice_get_within other.cells n e is in omega (arith, low, steadied.each)) in
      by_kind c there (steadied.cells n c there)
    where
      by_kind : (c : Cell) → slice_get net.cells n ≡ Some c → (slice_get other.cells n ≡ Some c) ⊎ IsSteady other.cells n c → WasBefore n e
      by_kind c there (inl same) = record { cell = c; there = there; kind = inl (one_cell other.cells n e c is same) }
      by_kind c there (inr (k, low, const, why)) =
          record { cell = c; there = there; kind = inr (k, low, one_cell other.cells n e (record { width = c.width; gate = Const k }) is const) }

  width_before : (n : ℕ) (c e : Cell) → slice_get net.cells n ≡ Some c → slice_get other.cells n ≡ Some e → e.width ≡ c.width
  width_before n c e there is =
      let was = was_before n e is in
      by_kind was.cell was.kind ∙ ap (λ (x : Cell). x.width) (one_cell net.cells n was.cell c was.there there)
    where
      by_kind : (d : Cell) → (e ≡ d) ⊎ ((k : ℕ) × (k < 2 ^ d.width) × (e ≡ record { width = d.width; gate = Const k })) → e.width ≡ d.width
      by_kind d (inl same) = ap (λ (x : Cell). x.width) same
      by_kind d (inr (k, low, same)) = ap (λ (x : Cell). x.width) same

  widths_before : widths_of other.cells ≡ widths_of net.cells
  widths_before = maps_same (λ c. c.width) other.cells net.cells steadied.each (λ n e c is there. width_before n c e there is)

  -- It is accepted.

  module _ (accepted : IsAccepted net) where
    nets_exist : NetsExist other.cells
    nets_exist n e is = let was = was_before n e is in by_kind was.cell was.there was.kind
      where
        by_kind : (d : Cell) → slice_get net.cells n ≡ Some d → (e ≡ d) ⊎ ((k : ℕ) × (k < 2 ^ d.width) × (e ≡ record { width = d.width; gate = Const k }))
            → PinsExist (length other.cells) e
        by_kind d there (inl same) =
            subst (λ (x : Cell). PinsExist (length other.cells) x) (sym same)
            (subst (λ (count : ℕ). PinsExist count d) (sym steadied.each) (accepted.nets n d there))
        by_kind d there (inr (k, low, same)) = subst (λ (x : Cell). PinsExist (length other.cells) x) (sym same) tt

    widths_fit : WidthsFit other.cells
    widths_fit n e is = let was = was_before n e is in by_kind was.cell was.there was.kind
      where
        by_kind : (d : Cell) → slice_get net.cells n ≡ Some d → (e ≡ d) ⊎ ((k : ℕ) × (k < 2 ^ d.width) × (e ≡ record { width = d.width; gate = Const k }))
            → HasRightWidths (widths_of other.cells) e
        by_kind d there (inl same) =
            subst (λ (x : Cell). HasRightWidths (widths_of other.cells) x) (sym same)
            (subst (λ (ws : List ℕ). HasRightWidths ws d) (sym widths_before) (accepted.widths n d there))
        by_kind d there (inr (k, low, same)) =
            let (some, few, fit) = accepted.widths n d there in
            subst (λ (x : Cell). HasRightWidths (widths_of other.cells) x) (sym same) (some, few, low)

    fits_kept : (o : Option _) (n : ℕ) → slice_get other.cells n ≡ slice_get net.cells n → FitsAt net.cells o n → FitsAt other.cells o n
    fits_kept None n same fits = fits
    fits_kept (Some p) n same (c, there, width, end) = (c, same ∙ there, width, end)

    input_before : (n : ℕ) (e : Cell) → slice_get other.cells n ≡ Some e → e.gate ≡ Input → slice_get net.cells n ≡ Some e
    input_before n e is input = let was = was_before n e is in by_kind was.cell was.there was.kind
      where
        by_kind : (d : Cell) → slice_get net.cells n ≡ Some d → (e ≡ d) ⊎ ((k : ℕ) × (k < 2 ^ d.width) × (e ≡ record { width = d.width; gate = Const k }))
            → slice_get net.cells n ≡ Some e
        by_kind d there (inl same) = subst (λ (x : Cell). slice_get net.cells n ≡ Some x) (sym same) there
        by_kind d there (inr (k, low, same)) =
            let never : Input ≡ Const k = sym input ∙ ap (λ (x : Cell). x.gate) same in
            absurd (cc never)

    ports_fit : PortsFit other.cells net.ports
    ports_fit =
        record {
          some = accepted.ports.some;
          each = λ k p is.
              let right = accepted.ports.each k p is in
              record {
                side = right.side;
                name = right.name;
                nets = (right.nets.0, λ i n at_n. fits_kept (slice_get (places p.side p.ty) i) n (steadied.ends k p is i n at_n) (right.nets.1 i n at_n));
                inputs = right.inputs;
              };
          inputs = λ n (e, is, input, missing). accepted.ports.inputs n (e, input_before n e is input, input, missing);
        }

    -- what has a pin is as it was
    fed_before : (a m : ℕ) → Feeds other.cells a m → (e : Cell) × (slice_get other.cells m ≡ Some e) × (slice_get net.cells m ≡ Some e) × Contains (pins e.gate) a
    fed_before a m (c, e, at_a, at_m, free, pin) = let was = was_before m e at_m in by_kind was.cell was.there was.kind
      where
        by_kind : (d : Cell) → slice_get net.cells m ≡ Some d → (e ≡ d) ⊎ ((k : ℕ) × (k < 2 ^ d.width) × (e ≡ record { width = d.width; gate = Const k }))
            → (x : Cell) × (slice_get other.cells m ≡ Some x) × (slice_get net.cells m ≡ Some x) × Contains (pins x.gate) a
        by_kind d there (inl same) = (e, at_m, subst (λ (x : Cell). slice_get net.cells m ≡ Some x) (sym same) there, pin)
        by_kind d there (inr (k, low, same)) =
            let (i, within, at_i) = subst (λ (x : Cell). Contains (pins x.gate) a) same pin in
            absurd (omega (arith, within))

    feeds_before : (a m : ℕ) → Feeds other.cells a m → ((e : Cell) × (slice_get other.cells a ≡ Some e) × (slice_get net.cells a ≡ Some e)) → Feeds net.cells a m
    feeds_before a m (c, e, at_a, at_m, free, pin) (d, in_other, in_net) =
        let (x, is, there, has) = fed_before a m (c, e, at_a, at_m, free, pin) in
        let one : c ≡ d = one_cell other.cells a c d at_a in_other in
        (d, x, in_net, there, subst (λ (y : Cell). ((b : ℕ) × (y.gate ≡ Reg b)) → ⊥) one free, has)

    chain_before : (ns : List ℕ) (z : ℕ) → ((m : ℕ) → Contains ns m → (e : Cell) × (slice_get other.cells m ≡ Some e) × (slice_get net.cells m ≡ Some e))
        → Chain other.cells ns z → Chain net.cells ns z
    chain_before [] z as_was chain = tt
    chain_before (a ∷ []) z as_was chain = feeds_before a z chain (as_was a (0, omega arith, refl))
    chain_before (a ∷ b ∷ ns) z as_was chain = (
      feeds_before a b chain.0 (as_was a (0, omega arith, refl)),
      chain_before (b ∷ ns) z (λ m (k, l, e). as_was m (suc k, omega (arith, l), e)) chain.1,
    )

    acyclic : HasCycle other.cells → ⊥
    acyclic ([], ring) = ring
    acyclic (a ∷ ns, (apart, chain)) =
        accepted.acyclic (
          a ∷ ns,
          (
            apart,
            chain_before (a ∷ ns) a (λ m has.
                let (b, member, feeds) = ring_back other.cells a ns m chain has in
                let (e, is, there, pin) = fed_before b m feeds in
                (e, is, there)) chain,
          ),
        )

    steadied_accepted : IsAccepted other
    steadied_accepted =
        record {
          nets = nets_exist;
          widths = widths_fit;
          ports = subst (PortsFit other.cells) (sym steadied.ports) ports_fit;
          acyclic = acyclic;
        }

  -- Its runs.

  const_shown : (regs ins v : Numbers) → Settling other.cells regs ins v → (a j : ℕ) → IsConst other.cells a j → at v a ≡ j
  const_shown regs ins v settles a j (w, is) = settles.1 a (record { width = w; gate = Const j }) is

  -- at constants registers hold 0
  AreIdle : Numbers → Type 0
  AreIdle regs = (n j : ℕ) → IsConst other.cells n j → at regs n ≡ 0

  settling_back : (regs ins v : Numbers) → AreIdle regs → Settling other.cells regs ins v → Settling net.cells regs ins v
  unfolding AreIdle
  settling_back regs ins v idle settles = (settles.0 ∙ steadied.each, λ n c there. by_kind n c (steadied.cells n c there))
    where
      by_kind : (n : ℕ) (c : Cell) → (slice_get other.cells n ≡ Some c) ⊎ IsSteady other.cells n c → at v n ≡ shown c.width c.gate (at regs n) (at ins n) (at v)
      by_kind n c (inl same) = settles.1 n c same
      by_kind n c (inr (k, low, is, inl always)) =
          const_shown regs ins v settles n k (c.width, is) ∙ sym (always (at regs n) (at ins n) (at v) (const_shown regs ins v settles))
      by_kind n c (inr (k, low, is, inr (a, gate, zero_pin, none))) =
          let read : shown c.width c.gate (at regs n) (at ins n) (at v) ≡ at regs n = ap (λ (g : Function). shown c.width g (at regs n) (at ins n) (at v)) gate in
          const_shown regs ins v settles n k (c.width, is) ∙ (none ∙ sym (read ∙ idle n k (c.width, is)))

  next_same : (regs ins v : Numbers) → Settling other.cells regs ins v → next_registers other.cells v ≡ next_registers net.cells v
  next_same regs ins v settles = maps_same (λ c. next_of c.gate v) other.cells net.cells steadied.each (λ n e c is there. by_kind n c e is (steadied.cells n c there))
    where
      by_kind : (n : ℕ) (c e : Cell) → slice_get other.cells n ≡ Some e → (slice_get other.cells n ≡ Some c) ⊎ IsSteady other.cells n c → next_of e.gate v ≡ next_of c.gate v
      by_kind n c e is (inl same) = ap (λ (x : Cell). next_of x.gate v) (one_cell other.cells n e c is same)
      by_kind n c e is (inr (k, low, const, inl always)) =
          ap (λ (x : Cell). next_of x.gate v) (one_cell other.cells n e (record { width = c.width; gate = Const k }) is const)
          ∙ sym (always_next other.cells c.width k c.gate v always)
      by_kind n c e is (inr (k, low, const, inr (a, gate, zero_pin, none))) =
          ap (λ (x : Cell). next_of x.gate v) (one_cell other.cells n e (record { width = c.width; gate = Const k }) is const)
          ∙ sym (ap (λ (g : Function). next_of g v) gate ∙ const_shown regs ins v settles a 0 zero_pin)

  idle_next : (v : Numbers) → AreIdle (next_registers other.cells v)
  unfolding AreIdle
  idle_next v n j (w, is) = next_at other.cells v n (record { width = w; gate = Const j }) is

  run_back : (regs : Numbers) (ins vs : List Numbers) → AreIdle regs → RunFrom other.cells regs ins vs → RunFrom net.cells regs ins vs
  run_back regs [] vs idle run = run
  run_back regs (i ∷ ins) [] idle run = run
  run_back regs (i ∷ ins) (v ∷ vs) idle run = (
    settling_back regs i v idle run.0,
    subst (λ (rs : Numbers). RunFrom net.cells rs ins vs) (next_same regs i v run.0)
        (run_back (next_registers other.cells v) ins vs (idle_next v) run.1),
  )

  reset_back : (ins vs : List Numbers) → IsRun other.cells ins vs → IsRun net.cells ins vs
  unfolding AreIdle
  reset_back ins vs run =
      subst (λ (count : ℕ). RunFrom net.cells (replicate count 0) ins vs) steadied.each
      (run_back (replicate (length other.cells) 0) ins vs (λ n j const. at_zeros (length other.cells) n) run)

  -- It is alike.

  range_on : (ins : Numbers) → IsInRange net ins → IsInRange other ins
  range_on ins low n e is input = let was = was_before n e is in by_kind was.cell was.there was.kind
    where
      by_kind : (d : Cell) → slice_get net.cells n ≡ Some d → (e ≡ d) ⊎ ((k : ℕ) × (k < 2 ^ d.width) × (e ≡ record { width = d.width; gate = Const k }))
          → at ins n < 2 ^ e.width
      by_kind d there (inl same) = low n e (subst (λ (x : Cell). slice_get net.cells n ≡ Some x) (sym same) there) input
      by_kind d there (inr (k, less, same)) =
          let never : Input ≡ Const k = sym input ∙ ap (λ (x : Cell). x.gate) same in
          absurd (cc never)

  range_off : (ins : Numbers) → IsInRange other ins → IsInRange net ins
  range_off ins low n c there input = by_kind (steadied.cells n c there)
    where
      by_kind : (slice_get other.cells n ≡ Some c) ⊎ IsSteady other.cells n c → at ins n < 2 ^ c.width
      by_kind (inl same) = low n c same input
      by_kind (inr (k, less, is, inl always)) = absurd (always_no_input other.cells c.width k c.gate always input)
      by_kind (inr (k, less, is, inr (a, gate, zero_pin, none))) =
          let never : Input ≡ Reg a = sym input ∙ gate in
          absurd (cc never)

  all_on : (ins : List Numbers) → InputsInRange net ins → InputsInRange other ins
  all_on [] range = tt
  all_on (i ∷ ins) range = (range_on i range.0, all_on ins range.1)

  all_off : (ins : List Numbers) → InputsInRange other ins → InputsInRange net ins
  all_off [] range = tt
  all_off (i ∷ ins) range = (range_off i range.0, all_off ins range.1)

  module _ (accepted : IsAccepted net) where
    same_outputs : (ins vs others ws : List Numbers) → InputsInRange net ins → SameInputs net other ins others
        → IsRun net.cells ins vs → IsRun other.cells others ws → SameOutputs net other vs ws
    same_outputs ins vs others ws range same run other_run =
        alike_outputs net net accepted (reduced_itself net accepted) ins vs others ws range
        (same ∙ ap (λ (ps : List NetPort). numbers_at (all_inputs ps) others) steadied.ports) run (reset_back others ws other_run)
        ∙ ap (λ (ps : List NetPort). numbers_at (all_outputs ps) ws) (sym steadied.ports)

    same_pace : (weight : ℕ) (p : Program) → KeepsPaceAlways weight p net → KeepsPaceAlways weight p other
    same_pace weight p keeps ins vs range run protocol parts parts_of =
        let kept : RunKeeps net vs = λ own own_parts.
        subst (λ (ps : List NetPort). KeepsProtocol (taken_by ps) (flat own)) steadied.ports (protocol own (flattened_by net other (sym steadied.ports) vs own own_parts)) in
        keeps ins vs (all_off ins range) (reset_back ins vs run) kept parts (flattened_by other net steadied.ports vs parts parts_of)

    steadied_alike : IsAlike net other
    steadied_alike =
        record {
          ports = ap (map face) (sym steadied.ports);
          inputs = λ ins range. (ins, all_on ins range, ap (λ (ps : List NetPort). numbers_at (all_inputs ps) ins) (sym steadied.ports));
          outputs = same_outputs;
          pace = same_pace;
        }

  -- Its cells are in their order.

  became : (n : ℕ) (e : Cell) → slice_get other.cells n ≡ Some e → (c : Cell) × (slice_get net.cells n ≡ Some c) × Became c e
  became n e is = let was = was_before n e is in (was.cell, was.there, by_kind was.cell was.kind)
    where
      by_kind : (d : Cell) → (e ≡ d) ⊎ ((k : ℕ) × (k < 2 ^ d.width) × (e ≡ record { width = d.width; gate = Const k })) → Became d e
      by_kind d (inl same) = (ap (λ (x : Cell). x.width) same, inl (ap (λ (x : Cell). renamed (λ _. 0) x.gate) same))
      by_kind d (inr (k, low, same)) = (ap (λ (x : Cell). x.width) same, inr (k, ap (λ (x : Cell). x.gate) same))

  steadied_order : (places : List ℕ) × KeepsOrder net.cells other.cells places
  steadied_order = (
    drawn (λ n. n) (length other.cells),
    record {
      each = length_drawn (λ n. n) (length other.cells);
      rises = λ i j m n less at_m at_n.
          let (low, first) = drawn_is (λ x. x) (length other.cells) i m at_m in
          let (high, second) = drawn_is (λ x. x) (length other.cells) j n at_n in
          omega (arith, less, first, second);
      became = λ i m e at_m is.
          let (low, same) = drawn_is (λ x. x) (length other.cells) i m at_m in
          subst (λ (x : ℕ). (c : Cell) × (slice_get net.cells x ≡ Some c) × Became c e) (sym same) (became i e is);
    },
  )

pub steadied_once : SteadiedOnce
steadied_once net other accepted steadied =
    record {
      alike = steadied_alike net other steadied accepted;
      accepted = steadied_accepted net other steadied accepted;
      fewer = let each = steadied.each in omega (arith, each);
      order = steadied_order net other steadied;
    }
