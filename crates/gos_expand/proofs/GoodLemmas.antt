-- Each cell of a plan's netlist names nets that are there, has right widths, and names no later gate.
--
-- Read first: Accepted of gos_netcheck; FlowLemmas.
use Rattle.std.proofs.Common.{◌≡◌, ◌+◌, ◌≤◌, ◌<◌, ◌⊎◌, ℕ, zero, suc, Bool, true, false, List, [], ◌∷◌, Option, length, slice_get, Some, inl, inr, refl, sym, ap, subst, ◌∙◌, zero-add, pow_pos, arith}
use Rattle.std.specs.Prelude.{None}
use Rattle.std.specs.List.{AllByRecursion}
use Rattle.std.proofs.lemmas.Option.{none-some, same_Some, slice_get_within}
use Rattle.gos_types.specs.declared.widths.TheConstants.{GREATEST_WIDTH}
use Rattle.gos_types.specs.declared.shakes.Role.{Role}
use Rattle.gos_types.specs.declared.shakes.Role.TheVariants.{Serve, Ask}
use Rattle.gos_netlist.specs.Nets.{Function, Input, Const, Not, And, Or, Xor, Mux, Add, Sub, Eq, Less, Gate, Reg, Cell, Side, Give, Take, pins}
use Rattle.gos_types.specs.Events.{Request, Answer}
use Rattle.gos_netlist.specs.Cycles.{IsRegister}
use Rattle.gos_netcheck.specs.CellRules.{PinsExist, widths_of, HasRightWidths}
use Rattle.gos_plan.specs.Kinds.{Part, Contact, part_contacts, turned_contact, asks, serves}
use Rattle.gos_model.specs.Typing.{Imported}
use Rattle.gos_plan.specs.Plans.{End, PartEnd, ImportEnd, ResultEnd, Joint, Plan, contacts_of_part, contacts_of_import, turned_if, contact_at}
use Rattle.gos_plan.specs.Tokens.{bits_of, way_taken}
use Rattle.gos_macro.specs.Gates.{Incoming, bits_in, incoming_bits}
use Rattle.gos_macro.specs.Fit.{IsKnown, reach_of, NameEarlier, BitsComeIn, HaveBits, GatesFit}
use Rattle.gos_expand.specs.Blocks.{Nets, inputs, registers, nothing}
use Rattle.gos_expand.specs.Gates.{Making, layout, outs_of}
use Rattle.gos_expand.specs.Starts.{Laying, Outer, ports_of, taken_ports, shake_size, bits_if, bits_taken, port_start, joint_start, part_start}
use Rattle.gos_expand.specs.Laid.{arrives, leaves, registers_if, side_cells, shake_cells, port_cells, way_cells, joint_cells, loose_cells, part_cells, known, incoming}
use Rattle.gos_expand.proofs.StandLemmas.{Each, StandAt, each_none, each_both, each_of_blocks}
use Rattle.gos_expand.proofs.GroupLemmas.{shakes_length, each_laid, part_stands}
use Rattle.gos_expand.proofs.NetLemmas.{IsNet, IsCut, IsAny, HasNets, any_nets, net_within, net_width, each_token}
use Rattle.gos_expand.proofs.SeatLemmas.{joint_fits}
use Rattle.gos_expand.proofs.FlowLemmas.{IsSound, Arriving, cells_of, ground_serves, done_ground, result_port, import_port, leaves_nets, arrives_nets}

-- the net is one of such a function, or an earlier one
abbrev pub GoesBack : (Function → Type 0) → List Cell → ℕ → ℕ → Type 0
GoesBack G all n a = (e : Cell) × (slice_get all a ≡ Some e) × (G e.gate ⊎ (a < n))

-- what is asked of the cell of net n; G is what is known of what comes in at ends
pub record IsGood (G : Function → Type 0) (all : List Cell) (n : ℕ) (c : Cell) : Type 0 where
  pub exist : PinsExist (length all) c
  pub fit : HasRightWidths (widths_of all) c
  pub order : IsRegister c.gate ⊎ AllByRecursion (GoesBack G all n) (pins c.gate)

-- the cells of tokens

good_registers : (G : Function → Type 0) (all : List Cell) (w b : ℕ) (n : Nets) → w ≤ GREATEST_WIDTH → HasNets all IsAny w n → Each (IsGood G all) b (registers w n)
good_registers G all w b n small has =
    each_token (IsGood G all) w b (Reg n.pulse) (Reg n.number)
    (record {
      exist = (net_within all IsAny n.pulse 1 has.of_pulse, tt);
      fit = (omega arith, omega arith, net_width all IsAny n.pulse 1 has.of_pulse);
      order = inl (n.pulse, refl);
    })
    (λ some.
    let number = has.of_number some in
    record {
      exist = (net_within all IsAny n.number w number, tt);
      fit = (omega (arith, some), small, net_width all IsAny n.number w number);
      order = inl (n.number, refl);
    })

good_inputs : (G : Function → Type 0) (all : List Cell) (w b : ℕ) → w ≤ GREATEST_WIDTH → Each (IsGood G all) b (inputs w)
good_inputs G all w b small =
    each_token (IsGood G all) w b Input Input (record { exist = tt; fit = (omega arith, omega arith, tt); order = inr tt })
    (λ some. record { exist = tt; fit = (omega (arith, some), small, tt); order = inr tt })

good_nothing : (G : Function → Type 0) (all : List Cell) (w b : ℕ) → w ≤ GREATEST_WIDTH → Each (IsGood G all) b (nothing w)
good_nothing G all w b small =
    each_token (IsGood G all) w b (Const 0) (Const 0) (record { exist = tt; fit = (omega arith, omega arith, pow_pos 1); order = inr tt })
    (λ some. record { exist = tt; fit = (omega (arith, some), small, pow_pos w); order = inr tt })

-- ports

-- the bits of what a port puts out at a handshake
abbrev pub bits_shown : Side → Contact → ℕ
bits_shown Give c = c.answer_bits
bits_shown Take c = c.ask_bits

good_side : (G : Function → Type 0) (all : List Cell) (side : Side) (c : Contact) (n : Nets) (b : ℕ) → (c.ask_bits ≤ GREATEST_WIDTH) × (c.answer_bits ≤ GREATEST_WIDTH)
    → HasNets all IsAny (bits_shown side c) n
    → Each (IsGood G all) b (side_cells side c n)
good_side G all Give c n b small has =
    each_both (IsGood G all) b (inputs c.ask_bits) (registers c.answer_bits n) (good_inputs G all c.ask_bits b small.0)
    (good_registers G all c.answer_bits (b + length (inputs c.ask_bits)) n small.1 has)
good_side G all Take c n b small has =
    each_both (IsGood G all) b (registers c.ask_bits n) (inputs c.answer_bits) (good_registers G all c.ask_bits b n small.0 has)
    (good_inputs G all c.answer_bits (b + length (registers c.ask_bits n)) small.1)

-- each handshake of a port has what comes in, and few bits
abbrev pub ShakesFit : (Function → Type 0) → Laying → Plan → Outer → Type 0
ShakesFit G lay p o =
    (h : ℕ) (c : Contact) → slice_get o.contacts h ≡ Some c
    → ((c.ask_bits ≤ GREATEST_WIDTH) × (c.answer_bits ≤ GREATEST_WIDTH)) × HasNets (cells_of lay p) G (bits_shown o.side c) (arrives lay p (o.end_at h))

result_fits : (G : Function → Type 0) (lay : Laying) (p : Plan) → Arriving lay G → IsSound lay p → ShakesFit G lay p (result_port p)
result_fits G lay p arriving sound h c is =
    let at : contact_at p (ResultEnd h) ≡ Some (turned_contact c) = ap turned_if is in
    let role = ground_serves p.outcome h c (done_ground p.outcome sound.done) is in (
      sound.narrow (ResultEnd h) (turned_contact c) at,
      subst (λ (w : ℕ). HasNets (cells_of lay p) G w (arrives lay p (ResultEnd h))) (bits_turned c role)
          (arrives_nets lay p G arriving sound (ResultEnd h) (turned_contact c) at),
    )
  where
    bits_turned : (d : Contact) → d.role ≡ Serve → bits_of (turned_contact d) (way_taken (turned_contact d).role) ≡ d.answer_bits
    bits_turned d role = ap (λ (r : Role). bits_of (turned_contact (record d { role = r })) (way_taken (turned_contact (record d { role = r })).role)) role

import_fits : (G : Function → Type 0) (lay : Laying) (p : Plan) → Arriving lay G → IsSound lay p → (i : ℕ) (t : Imported)
    → slice_get p.imports i ≡ Some t → ShakesFit G lay p (import_port i t)
import_fits G lay p arriving sound i t there h c is =
    let at : contact_at p (ImportEnd i h) ≡ Some c = ap (λ (o : Option Imported). slice_get (contacts_of_import o) h) there ∙ is in
    let role = ground_serves t.ty h c (sound.grounds i t there) is in
    let bits : bits_of c (way_taken c.role) ≡ c.ask_bits = ap (λ (r : Role). bits_of c (way_taken r)) role in (
      sound.narrow (ImportEnd i h) c at,
      subst (λ (w : ℕ). HasNets (cells_of lay p) G w (arrives lay p (ImportEnd i h))) bits
          (arrives_nets lay p G arriving sound (ImportEnd i h) c at),
    )

taken_found : (n : ℕ) (ts : List Imported) (i : ℕ) (o : Outer) → slice_get (taken_ports n ts) i ≡ Some o
    → (t : Imported) × (slice_get ts i ≡ Some t) × (o ≡ import_port (n + i) t)
taken_found n [] i o is = absurd (none-some o is)
taken_found n (t ∷ ts) zero o is =
    let e : n ≡ n + 0 = omega arith in (t, refl, sym (same_Some (import_port n t) o is) ∙ ap (λ (m : ℕ). import_port m t) e)
taken_found n (u ∷ ts) (suc i) o is =
    let e : suc n + i ≡ n + suc i = omega arith in
    let (t, found, same) = taken_found (suc n) ts i o is in
    (t, found, same ∙ ap (λ (m : ℕ). import_port m t) e)

port_fits : (G : Function → Type 0) (lay : Laying) (p : Plan) → Arriving lay G → IsSound lay p → (k : ℕ) (o : Outer)
    → slice_get (ports_of p) k ≡ Some o → ShakesFit G lay p o
port_fits G lay p arriving sound zero o is = subst (ShakesFit G lay p) (same_Some (result_port p) o is) (result_fits G lay p arriving sound)
port_fits G lay p arriving sound (suc i) o is =
    let (t, found, same) = taken_found 0 p.imports i o is in
    let same' : o ≡ import_port i t = same ∙ ap (λ (m : ℕ). import_port m t) (zero-add i) in
    subst (ShakesFit G lay p) (sym same') (import_fits G lay p arriving sound i t found)

good_port : (G : Function → Type 0) (lay : Laying) (p : Plan) → Arriving lay G → IsSound lay p → (k : ℕ) (o : Outer) → slice_get (ports_of p) k ≡ Some o
    → Each (IsGood G (cells_of lay p)) (port_start p k) (port_cells lay p k o)
good_port G lay p arriving sound k o is =
    let fits = port_fits G lay p arriving sound k o is in
    each_of_blocks (IsGood G (cells_of lay p)) (shake_cells lay p o) shake_size (shakes_length lay p o) (port_start p k) 0 o.contacts
    (λ h c there.
    let at : slice_get o.contacts (0 + h) ≡ Some c = ap (slice_get o.contacts) (zero-add h) ∙ there in
    let (small, has) = fits (0 + h) c at in
    good_side G (cells_of lay p) o.side c (arrives lay p (o.end_at (0 + h))) _ small (any_nets (cells_of lay p) G _ _ has))

-- joints

good_way : (G : Function → Type 0) (all : List Cell) (kept : Bool) (w b : ℕ) (n : Nets) → w ≤ GREATEST_WIDTH → HasNets all IsAny w n
    → Each (IsGood G all) b (registers_if kept w n)
good_way G all true w b n small has = good_registers G all w b n small has
good_way G all false w b n small has = each_none (IsGood G all) b

good_joint : (G : Function → Type 0) (lay : Laying) (p : Plan) → IsSound lay p → (x : ℕ) (j : Joint) → slice_get p.joints x ≡ Some j
    → Each (IsGood G (cells_of lay p)) (joint_start lay p x) (joint_cells lay p x j)
good_joint G lay p sound x j is =
    let fits = joint_fits p [] p.joints x j sound.right is in
    each_both (IsGood G (cells_of lay p)) (joint_start lay p x) (way_cells lay p x j Request j.asking) (way_cells lay p x j Answer j.serving)
    (requests (fits.0) (fits.1) _ fits.2)
    (answers (fits.0) (fits.1) _ fits.2 fits.3)
  where
    requests : (q a b : ℕ) → contact_at p j.asking ≡ Some (asks q a)
        → Each (IsGood G (cells_of lay p)) b (way_cells lay p x j Request j.asking)
    requests q a b asking =
        let here = good_way G (cells_of lay p) (lay.keep x Request) q b (leaves lay p j.asking) (sound.narrow j.asking (asks q a) asking).0
        (leaves_nets lay p sound j.asking (asks q a) asking) in
        let same = ap (λ (o : Option Contact). bits_if o Request) asking in
        subst (λ (w : ℕ). Each (IsGood G (cells_of lay p)) b (registers_if (lay.keep x Request) w (leaves lay p j.asking))) (sym same) here

    answers : (q a b : ℕ) → contact_at p j.asking ≡ Some (asks q a) → contact_at p j.serving ≡ Some (serves q a)
        → Each (IsGood G (cells_of lay p)) b (way_cells lay p x j Answer j.serving)
    answers q a b asking serving =
        let here = good_way G (cells_of lay p) (lay.keep x Answer) a b (leaves lay p j.serving) (sound.narrow j.serving (serves q a) serving).1
        (leaves_nets lay p sound j.serving (serves q a) serving) in
        let same = ap (λ (o : Option Contact). bits_if o Answer) asking in
        subst (λ (w : ℕ). Each (IsGood G (cells_of lay p)) b (registers_if (lay.keep x Answer) w (leaves lay p j.serving))) (sym same) here

-- ends without a joint

good_loose : (G : Function → Type 0) (lay : Laying) (p : Plan) → IsSound lay p → (b n : ℕ) (e : End) → Each (IsGood G (cells_of lay p)) b (loose_cells p n e)
good_loose G lay p sound b n e = good_nothing G (cells_of lay p) (bits_taken (contact_at p e)) b (small (contact_at p e) refl)
  where
    few : (r : Role) (c : Contact) → (c.ask_bits ≤ GREATEST_WIDTH) × (c.answer_bits ≤ GREATEST_WIDTH) → bits_of c (way_taken r) ≤ GREATEST_WIDTH
    few Serve c h = h.0
    few Ask c h = h.1

    small : (o : Option Contact) → contact_at p e ≡ o → bits_taken o ≤ GREATEST_WIDTH
    small None is = omega arith
    small (Some c) is = few c.role c (sound.narrow e c is)

-- parts

-- what comes in at these handshakes has such functions
abbrev pub AllComeIn : (Function → Type 0) → List Cell → List Contact → Incoming → Type 0
AllComeIn G all cs i =
    (h : ℕ) → h < length cs → IsNet all G (i.pulse h) 1 × (0 < incoming_bits cs h → IsNet all G (i.value h) (incoming_bits cs h))

pub is_there : {A : Type 0} (xs : List A) (h : ℕ) → h < length xs → (x : A) × (slice_get xs h ≡ Some x)
is_there [] h l = absurd (omega (arith, l))
is_there (x ∷ xs) zero l = (x, refl)
is_there (x ∷ xs) (suc h) l = is_there xs h (omega (arith, l))

pub in_bits : (cs : List Contact) (h : ℕ) (c : Contact) → slice_get cs h ≡ Some c → incoming_bits cs h ≡ bits_of c (way_taken c.role)
in_bits [] h c is = absurd (none-some c is)
in_bits (d ∷ cs) zero c is = ap (λ (x : Contact). bits_in x.role x) (same_Some d c is) ∙ by_role c.role c
  where
    by_role : (r : Role) (c : Contact) → bits_in r c ≡ bits_of c (way_taken r)
    by_role Serve c = refl
    by_role Ask c = refl
in_bits (d ∷ cs) (suc h) c is = in_bits cs h c is

all_come : (G : Function → Type 0) (lay : Laying) (p : Plan) → Arriving lay G → IsSound lay p → (i : ℕ) (k : Part) → slice_get p.parts i ≡ Some k
    → AllComeIn G (cells_of lay p) (part_contacts k) (incoming lay p i)
all_come G lay p arriving sound i k there h l =
    let (c, is) = is_there (part_contacts k) h l in
    let e : End = PartEnd i h in
    let at : contact_at p e ≡ Some c = ap (λ (o : Option Part). slice_get (contacts_of_part o) h) there ∙ is in
    let bits : ℕ = bits_of c (way_taken c.role) in
    let nets : Nets = arrives lay p e in
    let has = arrives_nets lay p G arriving sound e c at in
    let pulse = subst (λ (o : Option Contact). IsNet (cells_of lay p) G (known o nets.pulse) 1) (sym at) has.of_pulse in
    let number : 0 < bits → IsNet (cells_of lay p) G (known (contact_at p e) nets.number) bits =
    subst (λ (o : Option Contact). 0 < bits → IsNet (cells_of lay p) G (known o nets.number) bits) (sym at) has.of_number in
    let same = in_bits (part_contacts k) h c is in
    (pulse, subst (λ (w : ℕ). 0 < w → IsNet (cells_of lay p) G (known (contact_at p e) nets.number) w) (sym same) number)

bits_come : (G : Function → Type 0) (all : List Cell) (cs : List Contact) (i : Incoming) → AllComeIn G all cs i → BitsComeIn cs i (widths_of all)
bits_come G all cs i come h l =
    (net_width all G (i.pulse h) 1 (come h l).0, λ some. net_width all G (i.value h) (incoming_bits cs h) ((come h l).1 some))

have_bits : (all : List Cell) (b n : ℕ) (cells : List Cell) → StandAt all (b + n) cells → HaveBits (widths_of all) b n cells
have_bits all b n [] stand = tt
have_bits all b n (c ∷ cs) stand =
    let e : b + n + 0 ≡ b + n = omega arith in
    let here = subst (λ (m : ℕ). slice_get all m ≡ Some c) e (stand 0 c refl) in (
      net_width all IsAny (b + n) c.width (c, here, refl, tt),
      have_bits all b (suc n) cs
          (λ k d h. let f : b + n + suc k ≡ b + suc n + k = omega arith in subst (λ (m : ℕ). slice_get all m ≡ Some d) f (stand (suc k) d h)),
    )

goes_back : (G : Function → Type 0) → ((f : Function) → IsCut f → G f)
    → (all : List Cell) (cs : List Contact) (i : Incoming) (b : ℕ) (cells : List Cell) (m a : ℕ) → AllComeIn G all cs i
    → StandAt all b cells
    → IsKnown cs i b cells m a → GoesBack G all (b + m) a
goes_back G cut all cs i b cells m a come stand (inl (h, l, inl e)) =
    let net = (come h l).0 in (net.0, subst (λ (n : ℕ). slice_get all n ≡ Some net.0) (sym e) net.1, inl net.3)
goes_back G cut all cs i b cells m a come stand (inl (h, l, inr e)) =
    let net = (come h l).1 e.0 in (net.0, subst (λ (n : ℕ). slice_get all n ≡ Some net.0) (sym e.1) net.1, inl net.3)
goes_back G cut all cs i b cells m a come stand (inr (k, d, e, at, inl low)) =
    (d, subst (λ (n : ℕ). slice_get all n ≡ Some d) (sym e) (stand k d at), inr (omega (arith, e, low)))
goes_back G cut all cs i b cells m a come stand (inr (k, d, e, at, inr register)) =
    (d, subst (λ (n : ℕ). slice_get all n ≡ Some d) (sym e) (stand k d at), inl (cut d.gate (inl register)))

all_then : (P Q : ℕ → Type 0) (xs : List ℕ) → ((x : ℕ) → P x → Q x) → AllByRecursion P xs → AllByRecursion Q xs
all_then P Q [] f all = tt
all_then P Q (x ∷ xs) f all = (f x all.0, all_then P Q xs f all.1)

all_at : (P : Cell → Type 0) (cells : List Cell) (k : ℕ) (c : Cell) → AllByRecursion P cells → slice_get cells k ≡ Some c → P c
all_at P [] k c all is = absurd (none-some c is)
all_at P (d ∷ cells) zero c all is = subst P (same_Some d c is) all.0
all_at P (d ∷ cells) (suc k) c all is = all_at P cells k c all.1 is

pub pins_known : (cs : List Contact) (i : Incoming) (b : ℕ) (cells : List Cell) (n : ℕ) (rest : List Cell) (k : ℕ) (c : Cell)
    → NameEarlier cs i b cells n rest
    → slice_get rest k ≡ Some c → AllByRecursion (IsKnown cs i b cells (reach_of c.gate (n + k) (length cells))) (pins c.gate)
pins_known cs i b cells n [] k c order is = absurd (none-some c is)
pins_known cs i b cells n (d ∷ rest) zero c order is =
    let e : n ≡ n + 0 = omega arith in
    let same : d ≡ c = same_Some d c is in
    subst (λ (m : ℕ). AllByRecursion (IsKnown cs i b cells (reach_of c.gate m (length cells))) (pins c.gate)) e
    (subst (λ (x : Cell). AllByRecursion (IsKnown cs i b cells (reach_of x.gate n (length cells))) (pins x.gate)) same order.0)
pins_known cs i b cells n (d ∷ rest) (suc k) c order is =
    let e : suc n + k ≡ n + suc k = omega arith in
    subst (λ (m : ℕ). AllByRecursion (IsKnown cs i b cells (reach_of c.gate m (length cells))) (pins c.gate)) e
    (pins_known cs i b cells (suc n) rest k c order.1 is)

pub register_or : (f : Function) → IsRegister f ⊎ ((n size : ℕ) → reach_of f n size ≡ n)
register_or (Reg a) = inl (a, refl)
register_or Input = inr (λ n size. refl)
register_or (Const k) = inr (λ n size. refl)
register_or (Not a) = inr (λ n size. refl)
register_or (And a b) = inr (λ n size. refl)
register_or (Or a b) = inr (λ n size. refl)
register_or (Xor a b) = inr (λ n size. refl)
register_or (Mux s a b) = inr (λ n size. refl)
register_or (Add a b) = inr (λ n size. refl)
register_or (Sub a b) = inr (λ n size. refl)
register_or (Eq a b) = inr (λ n size. refl)
register_or (Less a b) = inr (λ n size. refl)
register_or (Gate s a) = inr (λ n size. refl)

good_gates : (G : Function → Type 0) → ((f : Function) → IsCut f → G f)
    → (all : List Cell) (m : Making) (k : Part) (b : ℕ) (i : Incoming) → GatesFit k (layout m k) (outs_of m k) → AllComeIn G all (part_contacts k) i
    → StandAt all b (layout m k b i) → Each (IsGood G all) b (layout m k b i)
good_gates G cut all m k b i fits come stand n c is =
    let cells : List Cell = layout m k b i in
    let cs : List Contact = part_contacts k in
    let e : b ≡ b + 0 = omega arith in
    let bits = have_bits all b 0 cells (subst (λ (m : ℕ). StandAt all m cells) e stand) in
    let known_pins = pins_known cs i b cells 0 cells n c (fits.order b i) is in
    record {
      exist =
          all_then (IsKnown cs i b cells (reach_of c.gate (0 + n) (length cells))) (λ a. a < length all) (pins c.gate)
          (λ a h. let back = goes_back G cut all cs i b cells (reach_of c.gate (0 + n) (length cells)) a come stand h in slice_get_within all a back.0 back.1)
          known_pins;
      fit = all_at (HasRightWidths (widths_of all)) cells n c (fits.widths b i (widths_of all) (bits_come G all cs i come) bits) is;
      order =
          elim (register_or c.gate) [
            | inl register ↦ inl register
            | inr reach ↦ inr
                (all_then (IsKnown cs i b cells (reach_of c.gate (0 + n) (length cells))) (GoesBack G all (b + n)) (pins c.gate)
                (λ a h.
                let same : reach_of c.gate (0 + n) (length cells) ≡ n = reach (0 + n) (length cells) ∙ zero-add n in
                subst (λ (m : ℕ). GoesBack G all (b + m) a) same (goes_back G cut all cs i b cells (reach_of c.gate (0 + n) (length cells)) a come stand h))
                known_pins)
          ];
    }

good_part : (G : Function → Type 0) (lay : Laying) (p : Plan) → Arriving lay G → IsSound lay p → (i : ℕ) (k : Part) → slice_get p.parts i ≡ Some k
    → Each (IsGood G (cells_of lay p)) (part_start lay p i) (part_cells lay p i k)
good_part G lay p arriving sound i k is =
    good_gates G arriving.cut (cells_of lay p) (lay.making i) k (part_start lay p i) (incoming lay p i)
    (sound.gates i k is) (all_come G lay p arriving sound i k is) (part_stands lay p i k is)

-- all cells, by what is known of what comes in
pub all_good : (G : Function → Type 0) (lay : Laying) (p : Plan) → Arriving lay G → IsSound lay p → Each (IsGood G (cells_of lay p)) 0 (cells_of lay p)
all_good G lay p arriving sound =
    each_laid lay (IsGood G (cells_of lay p)) p (good_port G lay p arriving sound) (good_joint G lay p sound) (good_loose G lay p sound) (good_part G lay p arriving sound)
