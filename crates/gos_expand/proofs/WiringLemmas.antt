-- The netlist of a plan as its parts see it: where their gates stand, and which nets come in.
--
-- Read first: WiredLemmas; FlowLemmas, RegisterLemmas. Regions of parts are apart, each other cell is cut, and what comes in at a
-- part is cut or what goes in at the other end of a joint.
use Rattle.std.specs.Prelude.{Option}
use Rattle.std.proofs.Common.{◌≡◌, ◌+◌, ◌≤◌, ◌<◌, ◌⊎◌, ℕ, zero, suc, Bool, true, false, List, [], ◌∷◌, slice_get, take, Some, inl, inr, refl, sym, ap, subst, zero-add, arith}
use Rattle.std.proofs.lemmas.Option.{none-some, same_Some, slice_get_within}
use Rattle.gos_netlist.specs.Nets.{Function, Input, Const, Reg, Cell, Side, Give, Take}
use Rattle.gos_types.specs.Events.{Request, Answer}
use Rattle.gos_plan.specs.Kinds.{Part, Contact}
use Rattle.gos_plan.specs.Plans.{End, PartEnd, ImportEnd, ResultEnd, Joint, Plan, contact_at}
use Rattle.gos_plan.specs.Tokens.{IsPortEnd}
use Rattle.gos_macro.specs.Paths.{KeepPaths}
use Rattle.gos_expand.specs.Blocks.{Nets, token_cells, inputs, registers, total}
use Rattle.gos_expand.specs.Gates.{layout, outs_of, late_of, passing_of, part_size}
use Rattle.gos_expand.specs.Starts.{Laying, Outer, bits_taken, shake_size, part_start}
use Rattle.gos_expand.specs.Laid.{leaves, arrives, nets_out, outs_if, incoming, registers_if, side_cells, shake_cells, port_cells, way_cells, joint_cells, part_cells, circuit_cells}
use Rattle.gos_expand.specs.Facts.{Places, bits_put}
use Rattle.gos_expand.proofs.StandLemmas.{Each, each_none, each_both, each_of_blocks}
use Rattle.gos_expand.proofs.GroupLemmas.{layout_length, shakes_length, each_laid, part_stands}
use Rattle.gos_expand.proofs.NetLemmas.{IsCut, HasNets, token_nets, each_token}
use Rattle.gos_expand.proofs.FlowLemmas.{IsSound, comes_in, done_ground}
use Rattle.gos_expand.proofs.RegisterLemmas.{shows, PortCells, result_cells, import_cells, arrives_straight}
use Rattle.gos_expand.proofs.OnceLemmas.{import_there}
use Rattle.gos_expand.proofs.WiredLemmas.{OfPart, AreCut, ComesStraight, Wired}

-- where the netlist has what passes the ends
abbrev pub places_in : Laying → Plan → Places
places_in lay p = record { leaves = leaves lay p; arrives = arrives lay p; shows = shows p; start = part_start lay p }

pub port_cells_at : (lay : Laying) (p : Plan) → IsSound lay p → (e : End) (c : Contact) → IsPortEnd e → contact_at p e ≡ Some c → PortCells lay p e c
port_cells_at lay p fits (PartEnd i h) c port there = absurd port
port_cells_at lay p fits (ResultEnd h) c port there = result_cells lay p h c (done_ground p.outcome fits.done) there
port_cells_at lay p fits (ImportEnd i h) c port there =
    let of_import = import_there p i h c there in import_cells lay p i h of_import.0 c of_import.1 (fits.grounds i of_import.0 of_import.1) there

-- each cell is cut, or that of a part

abbrev pub IsFed : Laying → Plan → ℕ → Cell → Type 0
IsFed lay p m c = IsCut c.gate ⊎ OfPart lay p (places_in lay p) m c

fed_token : (lay : Laying) (p : Plan) (w b : ℕ) (f g : Function) → IsCut f → IsCut g → Each (IsFed lay p) b (token_cells w f g)
fed_token lay p w b f g first second = each_token (IsFed lay p) w b f g (inl first) (λ some. inl second)

fed_registers : (lay : Laying) (p : Plan) (w b : ℕ) (n : Nets) → Each (IsFed lay p) b (registers w n)
fed_registers lay p w b n = fed_token lay p w b (Reg n.pulse) (Reg n.number) (inl (n.pulse, refl)) (inl (n.number, refl))

fed_inputs : (lay : Laying) (p : Plan) (w b : ℕ) → Each (IsFed lay p) b (inputs w)
fed_inputs lay p w b = fed_token lay p w b Input Input (inr refl) (inr refl)

fed_side : (lay : Laying) (p : Plan) (side : Side) (c : Contact) (n : Nets) (b : ℕ) → Each (IsFed lay p) b (side_cells side c n)
fed_side lay p Give c n b =
    each_both (IsFed lay p) b (inputs c.ask_bits) (registers c.answer_bits n) (fed_inputs lay p c.ask_bits b) (fed_registers lay p c.answer_bits _ n)
fed_side lay p Take c n b =
    each_both (IsFed lay p) b (registers c.ask_bits n) (inputs c.answer_bits) (fed_registers lay p c.ask_bits b n) (fed_inputs lay p c.answer_bits _)

fed_port : (lay : Laying) (p : Plan) (k b : ℕ) (o : Outer) → Each (IsFed lay p) b (port_cells lay p k o)
fed_port lay p k b o =
    each_of_blocks (IsFed lay p) (shake_cells lay p o) shake_size (shakes_length lay p o) b 0 o.contacts
    (λ h c there. fed_side lay p o.side c (arrives lay p (o.end_at (0 + h))) _)

fed_way : (lay : Laying) (p : Plan) (kept : Bool) (w b : ℕ) (n : Nets) → Each (IsFed lay p) b (registers_if kept w n)
fed_way lay p true w b n = fed_registers lay p w b n
fed_way lay p false w b n = each_none (IsFed lay p) b

fed_joint : (lay : Laying) (p : Plan) (x b : ℕ) (j : Joint) → Each (IsFed lay p) b (joint_cells lay p x j)
fed_joint lay p x b j =
    each_both (IsFed lay p) b (way_cells lay p x j Request j.asking) (way_cells lay p x j Answer j.serving) (fed_way lay p (lay.keep x Request) _ b _)
    (fed_way lay p (lay.keep x Answer) _ _ _)

fed_part : (lay : Laying) (p : Plan) (i : ℕ) (k : Part) → slice_get p.parts i ≡ Some k → Each (IsFed lay p) (part_start lay p i) (part_cells lay p i k)
fed_part lay p i k is j c there = inr (record { part = i; kind = k; there = is; place = j; number = refl; cell = there })

all_fed : (lay : Laying) (p : Plan) → Each (IsFed lay p) 0 (circuit_cells lay p)
all_fed lay p =
    each_laid lay (IsFed lay p) p (λ k o is. fed_port lay p k _ o) (λ x j is. fed_joint lay p x _ j)
    (λ b n e. fed_token lay p (bits_taken (contact_at p e)) b (Const 0) (Const 0) (inr refl) (inr refl)) (fed_part lay p)

-- parts are apart

sizes_before : (lay : Laying) (n : ℕ) (ks : List Part) (i j : ℕ) (k : Part) → i < j → slice_get ks i ≡ Some k
    → total (λ n k. part_size (lay.making n) k) n (take i ks) + part_size (lay.making (n + i)) k ≤ total (λ n k. part_size (lay.making n) k) n (take j ks)
sizes_before lay n [] i j k less is = absurd (none-some k is)
sizes_before lay n (x ∷ ks) i zero k less is = absurd (omega (arith, less))
sizes_before lay n (x ∷ ks) zero (suc j) k less is =
    let here : part_size (lay.making n) x ≡ part_size (lay.making (n + 0)) k =
    let at : n ≡ n + 0 = omega arith in λ i. part_size (lay.making (at i)) (same_Some x k is i) in
    omega (arith, here)
sizes_before lay n (x ∷ ks) (suc i) (suc j) k less is =
    let rest = sizes_before lay (suc n) ks i j k (omega (arith, less)) is in
    let at : part_size (lay.making (suc n + i)) k ≡ part_size (lay.making (n + suc i)) k =
    ap (λ (x : ℕ). part_size (lay.making x) k) (omega arith) in
    omega (arith, rest, at)

not_before : (lay : Laying) (p : Plan) (m : ℕ) (c d : Cell) (a : OfPart lay p (places_in lay p) m c) (b : OfPart lay p (places_in lay p) m d) → a.part < b.part → ⊥
not_before lay p m c d a b less =
    let before = sizes_before lay 0 p.parts a.part b.part a.kind less a.there in
    let at : part_size (lay.making (0 + a.part)) a.kind ≡ part_size (lay.making a.part) a.kind = ap (λ (x : ℕ). part_size (lay.making x) a.kind) (omega arith) in
    let within = slice_get_within (layout (lay.making a.part) a.kind (part_start lay p a.part) (incoming lay p a.part)) a.place c a.cell in
    let size = layout_length (lay.making a.part) a.kind (part_start lay p a.part) (incoming lay p a.part) in
    let one = a.number in
    let two = b.number in
    omega (arith, before, at, within, size, one, two)

either_way : (i j : ℕ) → (i < j) ⊎ ((i ≡ j) ⊎ (j < i))
either_way zero zero = inr (inl refl)
either_way zero (suc j) = inl (omega arith)
either_way (suc i) zero = inr (inr (omega arith))
either_way (suc i) (suc j) =
    elim (either_way i j) [
      | inl less ↦ inl (omega (arith, less))
      | inr rest ↦ elim rest [ inl same ↦ inr (inl (ap suc same)) | inr more ↦ inr (inr (omega (arith, more))) ]
    ]

parts_apart : (lay : Laying) (p : Plan) (m : ℕ) (c d : Cell) (a : OfPart lay p (places_in lay p) m c) (b : OfPart lay p (places_in lay p) m d) → a.part ≡ b.part
parts_apart lay p m c d a b =
    elim (either_way a.part b.part) [
      | inl less ↦ absurd (not_before lay p m c d a b less)
      | inr rest ↦ elim rest [ inl same ↦ same | inr more ↦ absurd (not_before lay p m d c b a more) ]
    ]

-- what comes in at a part, and what goes in at a port

cut_nets : (cells : List Cell) (w : ℕ) (n : Nets) → HasNets cells IsCut w n → AreCut cells w n
cut_nets cells w n has =
    record { pulse = (has.of_pulse.0, has.of_pulse.1, has.of_pulse.3); number = λ some. let net = has.of_number some in (net.0, net.1, net.3) }

coming : (lay : Laying) (p : Plan) → IsSound lay p → (e : End) (c : Contact) → contact_at p e ≡ Some c
    → AreCut (circuit_cells lay p) (bits_taken (Some c)) (arrives lay p e) ⊎ ComesStraight lay p (places_in lay p) e
coming lay p sound e c is =
    elim (comes_in lay p sound.right e c is) [
      | inl cut ↦ inl
          (subst (λ (o : Option Contact). AreCut (circuit_cells lay p) (bits_taken o) (arrives lay p e)) is
          (cut_nets (circuit_cells lay p) (bits_taken (contact_at p e)) (arrives lay p e) cut))
      | inr s ↦ inr
          (record {
            joint = s.joint;
            passed = s.passed;
            way = s.way;
            stands = s.stands_there;
            straight = s.straight;
            here = s.here;
            nets = s.nets;
          })
    ]

given : (lay : Laying) (p : Plan) → IsSound lay p → (e : End) (c : Contact) → IsPortEnd e → contact_at p e ≡ Some c
    → AreCut (circuit_cells lay p) (bits_put (Some c)) (leaves lay p e)
given lay p sound e c port is =
    let cells : PortCells lay p e c = port_cells_at lay p sound e c port is in
    let w : ℕ = bits_put (Some c) in
    subst (λ (n : Nets). AreCut (circuit_cells lay p) w n) (sym cells.leaves_is)
    (cut_nets (circuit_cells lay p) w _ (token_nets (circuit_cells lay p) IsCut w cells.in_from Input Input cells.in_stands (inr refl) (inr refl)))

-- the netlist of a plan whose parts keep what is asked of paths
pub laid_wired : (lay : Laying) (p : Plan) → IsSound lay p
    → ((i : ℕ) (k : Part) → slice_get p.parts i ≡ Some k → KeepPaths k (layout (lay.making i) k) (outs_of (lay.making i) k) (late_of (lay.making i) k) (passing_of (lay.making i) k))
    → Wired lay p (circuit_cells lay p) (places_in lay p)
laid_wired lay p sound paths =
    record {
      right = sound.right;
      fits = sound.gates;
      paths = paths;
      gates = λ i k is. part_stands lay p i k is;
      fed = λ m c is. subst (λ (n : ℕ). IsFed lay p n c) (zero-add m) (all_fed lay p m c is);
      apart = parts_apart lay p;
      leaving = λ i h k is. ap (λ (f : Option Part). nets_out (slice_get (outs_if (lay.making i) f (part_start lay p i)) h)) is;
      straight = λ x j way there none. arrives_straight lay p x j way sound.right there none;
      coming = λ i h c is. coming lay p sound (PartEnd i h) c is;
      given = given lay p sound;
    }
