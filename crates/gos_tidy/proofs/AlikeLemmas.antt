-- A netlist that is reduced has the outputs of the one that it was reduced from.
--
-- Read first: Alike; RunLemmas, AcceptedLemmas. Both are views of the merged cells, so runs of both come from one run of these.
use Rattle.std.proofs.Common.{◌≡◌, ◌⊎◌, inl, inr, ◌^◌, ◌<◌, ℕ, zero, suc, Bool, true, false, if◌then◌else◌, List, [], ◌∷◌, ◌++◌, length, map, replicate, slice_get, Some, None, Contains, refl, sym, ap, subst, ◌∙◌, arith}
use Rattle.std.proofs.lemmas.Option.{slice_get_within, same_Some}
use Rattle.std.proofs.lemmas.List.Elements.{Contains-append_cases}
use Rattle.gos_types.specs.Events.{Event, Is, events}
use Rattle.gos_netlist.specs.Nets.{Input, Const, Cell, Side, NetPort, Netlist}
use Rattle.gos_netlist.specs.Events.{is_input}
use Rattle.gos_netlist.specs.Settling.{Numbers, at, IsRun}
use Rattle.gos_netlist.proofs.RepeatLemmas.{same_or_not}
use Rattle.gos_netcheck.specs.PortRules.{places, FitsAt, all_inputs, PortsFit}
use Rattle.gos_netcheck.specs.Accepted.{IsAccepted}
use Rattle.gos_pace.specs.RunProtocol.{InputsInRange}
use Rattle.gos_tidy.specs.Ends.{outputs_among, outputs_of, all_outputs, with_nets}
use Rattle.gos_tidy.specs.Mapped.{renamed, IsConst, IsKept}
use Rattle.gos_tidy.specs.Reduced.{IsReduced}
use Rattle.gos_tidy.specs.Alike.{face, SamePorts, numbers_at, SameInputs, SameOutputs}
use Rattle.gos_tidy.proofs.NarrowLemmas.{GivesNarrow}
use Rattle.gos_tidy.proofs.RenamedLemmas.{renamed_input, one_gate, one_width}
use Rattle.gos_tidy.proofs.QuotientLemmas.{input_kept, kept_or_const}
use Rattle.gos_tidy.proofs.PortNetLemmas.{contained_at, at_contained, flat_member, all_outputs_map, input_there, net_beside}
use Rattle.gos_tidy.proofs.AcceptedLemmas.{merged_acyclic, merged_widths, end_there, inputs_beside, reduced_accepted}
use Rattle.gos_tidy.proofs.RunLemmas.{at_drawn, through, IsView, GivesSame, GiveSame, GiveNarrow, reset_through, some_run, one_run}

-- Lists of numbers.

pub item_there : {X : Type 0} (xs : List X) (n : ℕ) → n < length xs → (x : X) × (slice_get xs n ≡ Some x)
item_there [] n low = absurd (omega (arith, low))
item_there (x ∷ xs) zero low = (x, refl)
item_there (x ∷ xs) (suc n) low = item_there xs n (omega (arith, low))

at_mapped : (h : ℕ → ℕ) (ns : List ℕ) (k n : ℕ) → slice_get ns k ≡ Some n → at (map h ns) k ≡ h n
at_mapped h [] k n is = absurd (cc is)
at_mapped h (x ∷ ns) zero n is = ap h (same_Some x n is)
at_mapped h (x ∷ ns) (suc k) n is = at_mapped h ns k n is

map_by : (h k f : ℕ → ℕ) (xs : List ℕ) → ((x : ℕ) → Contains xs x → h x ≡ k (f x)) → map h xs ≡ map k (map f xs)
map_by h k f [] each = refl
map_by h k f (x ∷ xs) each =
    let first = each x (0, omega arith, refl) in
    let rest = map_by h k f xs (λ y (n, l, e). each y (suc n, omega (arith, l), e)) in
    (λ i. first i ∷ rest i)

-- numbers at nets that are one net of other values
numbers_beside : (f g : ℕ → ℕ) (xs ys : List ℕ) (v w u : Numbers) → map g ys ≡ map f xs → ((x : ℕ) → Contains xs x → at v x ≡ at u (f x))
    → ((y : ℕ) → Contains ys y → at w y ≡ at u (g y)) → map (at v) xs ≡ map (at w) ys
numbers_beside f g xs ys v w u same first second =
    map_by (at v) (at u) f xs first ∙ (ap (map (at u)) (sym same) ∙ sym (map_by (at w) (at u) g ys second))

contains_or : (ns : List ℕ) (x : ℕ) → Contains ns x ⊎ (Contains ns x → ⊥)
contains_or [] x = inr (λ (k, l, e). omega (arith, l))
contains_or (n ∷ ns) x = by_first (same_or_not n x) (contains_or ns x)
  where
    neither : (n ≡ x → ⊥) → (Contains ns x → ⊥) → Contains (n ∷ ns) x → ⊥
    neither differ none (zero, l, e) = differ e
    neither differ none (suc k, l, e) = none (k, omega (arith, l), e)

    by_first : (n ≡ x) ⊎ (n ≡ x → ⊥) → Contains ns x ⊎ (Contains ns x → ⊥) → Contains (n ∷ ns) x ⊎ (Contains (n ∷ ns) x → ⊥)
    by_first (inl e) rest = inl (0, omega arith, e)
    by_first (inr differ) (inl (k, l, e)) = inl (suc k, omega (arith, l), e)
    by_first (inr differ) (inr none) = inr (neither differ none)

-- Outputs are nets of the port.

output_is_net : (side : Side) (es : List Event) (ns : List ℕ) (x : ℕ) → Contains (outputs_among side es ns) x → Contains ns x
output_is_net side [] ns x (k, l, e) = absurd (omega (arith, l))
output_is_net side (Is way None ∷ es) [] x (k, l, e) = absurd (omega (arith, l))
output_is_net side (Is way None ∷ es) (a ∷ ns) x has = by_way (is_input side way) has (λ rest. output_is_net side es ns x rest)
  where
    later : Contains ns x → Contains (a ∷ ns) x
    later (k, l, e) = (suc k, omega (arith, l), e)

    either : Contains (a ∷ []) x ⊎ Contains (outputs_among side es ns) x → (Contains (outputs_among side es ns) x → Contains ns x) → Contains (a ∷ ns) x
    either (inl (zero, l, e)) further = (0, omega arith, e)
    either (inl (suc k, l, e)) further = absurd (omega (arith, l))
    either (inr rest) further = later (further rest)

    by_way : (b : Bool) → Contains ((if b then [] else a ∷ []) ++ outputs_among side es ns) x → (Contains (outputs_among side es ns) x → Contains ns x) → Contains (a ∷ ns) x
    by_way true has further = later (further has)
    by_way false has further = either (Contains-append_cases (a ∷ []) (outputs_among side es ns) x has) further
output_is_net side (Is way (Some b) ∷ es) [] x (k, l, e) = absurd (omega (arith, l))
output_is_net side (Is way (Some b) ∷ es) (a ∷ []) x (k, l, e) = absurd (omega (arith, l))
output_is_net side (Is way (Some b) ∷ es) (a ∷ m ∷ ns) x has = by_way (is_input side way) has (λ rest. output_is_net side es ns x rest)
  where
    later : Contains ns x → Contains (a ∷ m ∷ ns) x
    later (k, l, e) = (suc (suc k), omega (arith, l), e)

    either : Contains (a ∷ m ∷ []) x ⊎ Contains (outputs_among side es ns) x → (Contains (outputs_among side es ns) x → Contains ns x) → Contains (a ∷ m ∷ ns) x
    either (inl (zero, l, e)) further = (0, omega arith, e)
    either (inl (suc zero, l, e)) further = (1, omega arith, e)
    either (inl (suc (suc k), l, e)) further = absurd (omega (arith, l))
    either (inr rest) further = later (further rest)

    by_way : (b : Bool) → Contains ((if b then [] else a ∷ m ∷ []) ++ outputs_among side es ns) x → (Contains (outputs_among side es ns) x → Contains ns x)
        → Contains (a ∷ m ∷ ns) x
    by_way true has further = later (further has)
    by_way false has further = either (Contains-append_cases (a ∷ m ∷ []) (outputs_among side es ns) x has) further

fits_within : (cells : List Cell) (o : _) (x : ℕ) → FitsAt cells o x → x < length cells
fits_within cells None x fit = absurd fit
fits_within cells (Some p) x (c, there, width, end) = slice_get_within cells x c there

-- the nets of the ports of an accepted netlist are there
pub port_net_there : (cells : List Cell) (ports : List NetPort) → PortsFit cells ports → (k : ℕ) (p : NetPort) → slice_get ports k ≡ Some p
    → (x : ℕ) → Contains p.nets x → x < length cells
port_net_there cells ports fit k p is x has =
    let (i, at_x) = at_contained p.nets x has in
    fits_within cells (slice_get (places p.side p.ty) i) x ((fit.each k p is).nets.1 i x at_x)

-- Faces of ports.

faces_kept : (f : ℕ → ℕ) (ps : List NetPort) → map face (map (with_nets f) ps) ≡ map face ps
faces_kept f [] = refl
faces_kept f (p ∷ ps) = ap (λ rest. face p ∷ rest) (faces_kept f ps)

-- Views.

through_gives : (cells : List Cell) (f : ℕ → ℕ) (j : Numbers) → GivesSame cells f (through cells f j) j
through_gives cells f j n c there is = at_drawn (λ m. at j (f m)) (length cells) n (slice_get_within cells n c there)

pub through_all : (cells : List Cell) (f : ℕ → ℕ) (js : List Numbers) → GiveSame cells f (map (through cells f) js) js
through_all cells f [] = tt
through_all cells f (j ∷ js) = (through_gives cells f j, through_all cells f js)

module _ (cells others : List Cell) (f : ℕ → ℕ) (view : IsView cells others f) where
  through_narrow : (j : Numbers) → GivesNarrow others j → GivesNarrow cells (through cells f j)
  through_narrow j low n c there is =
      let kept = input_kept others f n c is (view.mapped n c there) in
      subst (λ (x : ℕ). x < 2 ^ c.width) (sym (through_gives cells f j n c there is))
      (low (f n) (record { width = c.width; gate = renamed f c.gate }) kept (ap (renamed f) is))

  pub through_all_narrow : (js : List Numbers) → GiveNarrow others js → GiveNarrow cells (map (through cells f) js)
  through_all_narrow [] low = tt
  through_all_narrow (j ∷ js) low = (through_narrow j low.0, through_all_narrow js low.1)

pub range_narrow : (net : Netlist) (ins : List Numbers) → InputsInRange net ins → GiveNarrow net.cells ins
range_narrow net [] range = tt
range_narrow net (i ∷ ins) range = (range.0, range_narrow net ins range.1)

pub narrow_range : (net : Netlist) (ins : List Numbers) → GiveNarrow net.cells ins → InputsInRange net ins
narrow_range net [] range = tt
narrow_range net (i ∷ ins) range = (range.0, narrow_range net ins range.1)

-- the root of an input is one
record InputRoot (net other : Netlist) (reduced : IsReduced net other) (m : ℕ) (e : Cell) : Type 0 where
  root : ℕ
  cell : Cell
  is : slice_get reduced.roots m ≡ Some root
  to : reduced.merging root ≡ m
  there : slice_get net.cells root ≡ Some cell
  input : cell.gate ≡ Input
  width : cell.width ≡ e.width

module _ (net other : Netlist) (accepted : IsAccepted net) (reduced : IsReduced net other) where
  pub first_view : IsView net.cells reduced.merged reduced.merging
  first_view = record { mapped = reduced.quotient.mapped; widths = reduced.quotient.widths; pins = accepted.nets }

  pub second_view : IsView other.cells reduced.merged reduced.placing
  second_view =
      record {
        mapped = λ n c there. inl (reduced.part.kept n c there);
        widths = λ n c there. (record { width = c.width; gate = renamed reduced.placing c.gate }, reduced.part.kept n c there, refl);
        pins = reduced.part.pins;
      }

  input_root : (m : ℕ) (e : Cell) → slice_get reduced.merged m ≡ Some e → e.gate ≡ Input → InputRoot net other reduced m e
  input_root m e is gate =
      let (r, at_root) = item_there reduced.roots m (let low = slice_get_within reduced.merged m e is in omega (arith, low, reduced.quotient.each)) in
      let (to, c, there, stays) = reduced.quotient.stays m r at_root in
      let here : slice_get reduced.merged (reduced.merging r) ≡ Some e = subst (λ (x : ℕ). slice_get reduced.merged x ≡ Some e) (sym to) is in
      let both = was r c here (kept_or_const reduced.merged reduced.merging r c stays) in
      record { root = r; cell = c; is = at_root; to = to; there = there; input = both.0; width = both.1 }
    where
      was : (r : ℕ) (c : Cell) → slice_get reduced.merged (reduced.merging r) ≡ Some e
          → IsKept reduced.merged reduced.merging r c ⊎ ((k : ℕ) × IsConst reduced.merged (reduced.merging r) k) → (c.gate ≡ Input) × (c.width ≡ e.width)
      was r c here (inl kept) = (
        renamed_input reduced.merging c.gate
            (one_gate reduced.merged (reduced.merging r) (record { width = c.width; gate = renamed reduced.merging c.gate }) e kept here ∙ gate),
        one_width reduced.merged (reduced.merging r) (record { width = c.width; gate = renamed reduced.merging c.gate }) e kept here,
      )
      was r c here (inr (k, (w, const))) =
          let never : Const k ≡ Input = one_gate reduced.merged (reduced.merging r) (record { width = w; gate = Const k }) e const here ∙ gate in
          absurd (cc never)

  -- the inputs of the merged cells, where those of the netlist are known
  lifted : Numbers → Numbers
  lifted i = map (at i) reduced.roots

  lift_gives : (i : Numbers) → GivesSame net.cells reduced.merging i (lifted i)
  unfolding lifted
  lift_gives i n c there is =
      let kept = input_kept reduced.merged reduced.merging n c is (reduced.quotient.mapped n c there) in
      let root = input_root (reduced.merging n) (record { width = c.width; gate = renamed reduced.merging c.gate }) kept (ap (renamed reduced.merging) is) in
      let one : root.root ≡ n = reduced.quotient.inputs root.root n root.cell c root.there there root.input is root.to in
      sym (at_mapped (at i) reduced.roots (reduced.merging n) root.root root.is ∙ ap (at i) one)

  lift_narrow : (i : Numbers) → GivesNarrow net.cells i → GivesNarrow reduced.merged (lifted i)
  unfolding lifted
  lift_narrow i low m e is gate =
      let root = input_root m e is gate in
      let less : at i root.root < 2 ^ root.cell.width = low root.root root.cell root.there root.input in
      subst (λ (x : ℕ). x < 2 ^ e.width) (sym (at_mapped (at i) reduced.roots m root.root root.is)) (subst (λ (w : ℕ). at i root.root < 2 ^ w) root.width less)

  lift_all : (ins : List Numbers) → GiveSame net.cells reduced.merging ins (map lifted ins)
  lift_all [] = tt
  lift_all (i ∷ ins) = (lift_gives i, lift_all ins)

  lift_all_narrow : (ins : List Numbers) → GiveNarrow net.cells ins → GiveNarrow reduced.merged (map lifted ins)
  lift_all_narrow [] low = tt
  lift_all_narrow (i ∷ ins) low = (lift_narrow i low.0, lift_all_narrow ins low.1)

  -- at their ports both have the inputs of the merged cells
  given_other : (o j : Numbers) → GivesSame other.cells reduced.placing o j → (y : ℕ) → Contains (all_inputs other.ports) y → at o y ≡ at j (reduced.placing y)
  given_other o j gives y has =
      let (c, there, is) = input_there other.cells other.ports (reduced_accepted net other accepted reduced).ports y has in
      gives y c there is

  given_net : (i j : Numbers) → GivesSame net.cells reduced.merging i j → (x : ℕ) → Contains (all_inputs net.ports) x → at i x ≡ at j (reduced.merging x)
  given_net i j gives x has =
      let (c, there, is) = input_there net.cells net.ports accepted.ports x has in
      gives x c there is

  pub same_inputs : (ins others js : List Numbers) → GiveSame net.cells reduced.merging ins js → GiveSame other.cells reduced.placing others js
      → SameInputs net other ins others
  same_inputs [] [] [] first second = refl
  same_inputs [] (o ∷ others) [] first second = absurd second
  same_inputs [] others (j ∷ js) first second = absurd first
  same_inputs (i ∷ ins) others [] first second = absurd first
  same_inputs (i ∷ ins) [] (j ∷ js) first second = absurd second
  same_inputs (i ∷ ins) (o ∷ others) (j ∷ js) first second =
      let here = numbers_beside reduced.merging reduced.placing (all_inputs net.ports) (all_inputs other.ports) i o j (inputs_beside net other accepted reduced)
      (given_net i j first.0) (given_other o j second.0) in
      let rest = same_inputs ins others js first.1 second.1 in
      (λ k. here k ∷ rest k)

  -- and so it is where both have the same
  given_beside : (i o j : Numbers) → map (at i) (all_inputs net.ports) ≡ map (at o) (all_inputs other.ports) → GivesSame net.cells reduced.merging i j
      → GivesSame other.cells reduced.placing o j
  given_beside i o j same gives n c there is = by_port (contains_or (all_inputs other.ports) n)
    where
      by_port : Contains (all_inputs other.ports) n ⊎ (Contains (all_inputs other.ports) n → ⊥) → at o n ≡ at j (reduced.placing n)
      by_port (inr missing) = absurd ((reduced_accepted net other accepted reduced).ports.inputs n (c, there, is, missing))
      by_port (inl has) =
          let (k, at_n) = at_contained (all_inputs other.ports) n has in
          let (x, at_x, to) = net_beside reduced.merging reduced.placing (all_inputs other.ports) (all_inputs net.ports) (inputs_beside net other accepted reduced) k n at_n in
          let (y, at_y, number) = net_beside (at i) (at o) (all_inputs other.ports) (all_inputs net.ports) (sym same) k n at_n in
          let one : y ≡ x = same_Some y x (sym at_y ∙ at_x) in
          number ∙ (ap (at i) one ∙ (given_net i j gives x (contained_at (all_inputs net.ports) k x at_x) ∙ ap (at j) (sym to)))

  gives_beside : (ins others js : List Numbers) → SameInputs net other ins others → GiveSame net.cells reduced.merging ins js → GiveSame other.cells reduced.placing others js
  gives_beside [] [] [] same gives = tt
  gives_beside [] (o ∷ others) js same gives = absurd (cc same)
  gives_beside [] [] (j ∷ js) same gives = absurd gives
  gives_beside (i ∷ ins) [] js same gives = absurd (cc same)
  gives_beside (i ∷ ins) (o ∷ others) [] same gives = absurd gives
  gives_beside (i ∷ ins) (o ∷ others) (j ∷ js) same gives =
      let first : map (at i) (all_inputs net.ports) ≡ map (at o) (all_inputs other.ports) = cc in
      let rest : SameInputs net other ins others = cc in
      (given_beside i o j first gives.0, gives_beside ins others js rest gives.1)

  -- Outputs.

  net_output_there : (x : ℕ) → Contains (all_outputs net.ports) x → x < length net.cells
  net_output_there x has =
      let (k, p, is, in_p) = flat_member outputs_of net.ports x has in
      port_net_there net.cells net.ports accepted.ports k p is x (output_is_net p.side (events p.ty) p.nets x in_p)

  other_output_there : (x : ℕ) → Contains (all_outputs other.ports) x → x < length other.cells
  other_output_there x has =
      let (k, p, is, in_p) = flat_member outputs_of other.ports x has in
      end_there net other accepted reduced k p is x (output_is_net p.side (events p.ty) p.nets x in_p)

  outputs_beside : map reduced.placing (all_outputs other.ports) ≡ map reduced.merging (all_outputs net.ports)
  outputs_beside = sym (all_outputs_map reduced.placing other.ports) ∙ (ap all_outputs reduced.ports ∙ all_outputs_map reduced.merging net.ports)

  same_outputs : (us : List Numbers) → SameOutputs net other (map (through net.cells reduced.merging) us) (map (through other.cells reduced.placing) us)
  same_outputs [] = refl
  same_outputs (u ∷ us) =
      let here = numbers_beside reduced.merging reduced.placing (all_outputs net.ports) (all_outputs other.ports) (through net.cells reduced.merging u)
      (through other.cells reduced.placing u) u outputs_beside
      (λ x has. at_drawn (λ m. at u (reduced.merging m)) (length net.cells) x (net_output_there x has))
      (λ y has. at_drawn (λ m. at u (reduced.placing m)) (length other.cells) y (other_output_there y has)) in
      let rest = same_outputs us in
      (λ k. here k ∷ rest k)

  -- the runs of both netlists are views of one run of the merged cells
  pub common_run : (ins others js vs ws : List Numbers) → GiveNarrow reduced.merged js → GiveSame net.cells reduced.merging ins js
      → GiveSame other.cells reduced.placing others js → IsRun net.cells ins vs → IsRun other.cells others ws
      → (us : List Numbers) × (vs ≡ map (through net.cells reduced.merging) us) × (ws ≡ map (through other.cells reduced.placing) us)
  common_run ins others js vs ws low first second run other_run =
      let acyclic = merged_acyclic net other accepted reduced in
      let fits = merged_widths net other accepted reduced in
      let (us, merged_run) = some_run reduced.merged acyclic (replicate (length reduced.merged) 0) js in (
        us,
        one_run net.cells accepted.acyclic (replicate (length net.cells) 0) ins vs (map (through net.cells reduced.merging) us) run
            (reset_through net.cells reduced.merged reduced.merging first_view acyclic fits ins js us low first merged_run),
        one_run other.cells (reduced_accepted net other accepted reduced).acyclic (replicate (length other.cells) 0) others ws
            (map (through other.cells reduced.placing) us) other_run
            (reset_through other.cells reduced.merged reduced.placing second_view acyclic fits others js us low second merged_run),
      )

  pub alike_ports : SamePorts net.ports other.ports
  alike_ports = sym (faces_kept reduced.merging net.ports) ∙ (ap (map face) (sym reduced.ports) ∙ faces_kept reduced.placing other.ports)

  pub alike_inputs : (ins : List Numbers) → InputsInRange net ins → (others : List Numbers) × InputsInRange other others × SameInputs net other ins others
  alike_inputs ins range =
      let js : List Numbers = map lifted ins in
      let others : List Numbers = map (through other.cells reduced.placing) js in
      let low = lift_all_narrow ins (range_narrow net ins range) in (
        others,
        narrow_range other others (through_all_narrow other.cells reduced.merged reduced.placing second_view js low),
        same_inputs ins others js (lift_all ins) (through_all other.cells reduced.placing js),
      )

  pub alike_outputs : (ins vs others ws : List Numbers) → InputsInRange net ins → SameInputs net other ins others
      → IsRun net.cells ins vs → IsRun other.cells others ws → SameOutputs net other vs ws
  alike_outputs ins vs others ws range same run other_run =
      let js : List Numbers = map lifted ins in
      let gives = lift_all ins in
      let (us, first, second) = common_run ins others js vs ws (lift_all_narrow ins (range_narrow net ins range)) gives (gives_beside ins others js same gives) run other_run in
      ap (numbers_at (all_outputs net.ports)) first ∙ (same_outputs us ∙ sym (ap (numbers_at (all_outputs other.ports)) second))
