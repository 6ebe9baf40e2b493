-- What goes into the circuit at an end, and what comes in there, are nets with the bits of its handshake.
--
-- Read first: Laid; NetLemmas, EndLemmas.
use Rattle.std.proofs.Common.{◌≡◌, ◌+◌, ◌≤◌, ◌⊎◌, ℕ, zero, suc, Bool, true, false, if◌then◌else◌, List, [], ◌∷◌, Option, length, slice_get, Some, inl, inr, refl, sym, ap, subst, ◌∙◌, zero-add, arith}
use Rattle.std.specs.Prelude.{None}
use Rattle.std.proofs.lemmas.Option.{none-some, same_Some}
use Rattle.gos_types.specs.declared.widths.TheConstants.{GREATEST_WIDTH}
use Rattle.gos_types.specs.declared.shakes.Role.{Role}
use Rattle.gos_types.specs.declared.shakes.Role.TheVariants.{Serve, Ask}
use Rattle.gos_types.specs.Types.{Type', Com, Exp, Var, Pair, Fun, IsGround, IsDone}
use Rattle.gos_netlist.specs.Nets.{Function, Const, Cell, Give, Take}
use Rattle.gos_types.specs.Events.{Direction, Request, Answer}
use Rattle.gos_plan.specs.Kinds.{Part, Contact, contacts_of, part_contacts, turned_contact, asks, serves}
use Rattle.gos_model.specs.Typing.{Imported}
use Rattle.gos_plan.specs.Plans.{End, PartEnd, ImportEnd, ResultEnd, Joint, Plan, contacts_of_part, contacts_of_import, turned_if, contact_at, IsRight}
use Rattle.gos_plan.specs.Tokens.{bits_of, way_put, way_taken}
use Rattle.gos_macro.specs.Gates.{Outgoing, Bare, Bearing, bits_out}
use Rattle.gos_types.specs.Widths.{HasWidths}
use Rattle.gos_macro.specs.Fit.{IsOwn, GoesOut, AllGoOut, GatesFit}
use Rattle.gos_expand.specs.Blocks.{Nets, nets_from, token_size, inputs, registers}
use Rattle.gos_expand.specs.Gates.{layout, outs_of}
use Rattle.gos_expand.specs.Starts.{plain, Laying, keep_all, Outer, ports_of, taken_ports, shake_size, bits_if, bits_taken, port_start, part_start, loose_start}
use Rattle.gos_expand.specs.Laid.{Seat, seat_of, request_start, nets_out, outs_if, leaves, way_start, arrives_by, arrives, shake_cells, incoming, circuit_cells}
use Rattle.gos_expand.specs.Facts.{source, target, width}
use Rattle.gos_expand.proofs.StandLemmas.{StandAt, each_left, each_right, each_block}
use Rattle.gos_expand.proofs.GroupLemmas.{stands, token_length, shakes_length, port_stands, way_stands, part_stands}
use Rattle.gos_expand.proofs.NetLemmas.{IsNet, IsCut, IsAny, HasNets, token_nets}
use Rattle.gos_expand.proofs.SeatLemmas.{joint_fits, IsSide, seat_found, loose_stands}

-- what is asked of a plan, in its own words
pub record IsSound (lay : Laying) (p : Plan) : Type 0 where
  pub gates : (i : ℕ) (k : Part) → slice_get p.parts i ≡ Some k → GatesFit k (layout (lay.making i) k) (outs_of (lay.making i) k)
  pub narrow : (e : End) (c : Contact) → contact_at p e ≡ Some c → (c.ask_bits ≤ GREATEST_WIDTH) × (c.answer_bits ≤ GREATEST_WIDTH)
  pub right : IsRight p
  pub done : IsDone p.outcome
  pub done_widths : HasWidths p.outcome
  pub grounds : (i : ℕ) (t : Imported) → slice_get p.imports i ≡ Some t → IsGround t.ty
  pub ground_widths : (i : ℕ) (t : Imported) → slice_get p.imports i ≡ Some t → HasWidths t.ty

-- the cells of a plan
abbrev pub cells_of : Laying → Plan → List Cell
cells_of lay p = circuit_cells lay p

moved_nets : (all : List Cell) (G : Function → Type 0) (w v m n : ℕ) → w ≡ v → m ≡ n → HasNets all G w (nets_from w m)
    → HasNets all G v (nets_from v n)
moved_nets all G w v m n e f h =
    subst (λ (k : ℕ). HasNets all G v (nets_from v k)) f (subst (λ (k : ℕ). HasNets all G k (nets_from k m)) e h)

-- of a part

own_net : (all : List Cell) (b : ℕ) (cells : List Cell) (net bits : ℕ) → StandAt all b cells → IsOwn b cells net bits
    → IsNet all IsAny net bits
own_net all b cells net bits stand (k, d, e, at, width) = (d, subst (λ (n : ℕ). slice_get all n ≡ Some d) (sym e) (stand k d at), width, tt)

out_nets : (all : List Cell) (b : ℕ) (cells : List Cell) (c : Contact) (o : Outgoing) → StandAt all b cells → GoesOut b cells c o
    → HasNets all IsAny (bits_out c.role c) (nets_out (Some o))
out_nets all b cells c (Bare q) stand out =
    let none = out.0 in
    record { of_pulse = own_net all b cells q 1 stand out.1; of_number = λ some. absurd (omega (arith, some, none)) }
out_nets all b cells c (Bearing q a) stand out =
    record {
      of_pulse = own_net all b cells q 1 stand out.1;
      of_number = λ some. own_net all b cells a (bits_out c.role c) stand out.2;
    }

out_at : (b : ℕ) (cells : List Cell) (cs : List Contact) (os : List Outgoing) (h : ℕ) (c : Contact) → AllGoOut b cells cs os
    → slice_get cs h ≡ Some c
    → (o : Outgoing) × (slice_get os h ≡ Some o) × GoesOut b cells c o
out_at b cells [] os h c all is = absurd (none-some c is)
out_at b cells (d ∷ cs) [] h c all is = absurd all
out_at b cells (d ∷ cs) (o ∷ os) zero c all is = (o, refl, subst (λ (x : Contact). GoesOut b cells x o) (same_Some d c is) all.0)
out_at b cells (d ∷ cs) (o ∷ os) (suc h) c all is = out_at b cells cs os h c all.1 is

put_bits : (r : Role) (c : Contact) → bits_out r c ≡ bits_of c (way_put r)
put_bits Serve c = refl
put_bits Ask c = refl

part_leaves : (lay : Laying) (p : Plan) → IsSound lay p → (i h : ℕ) (c : Contact) (o : Option Part) → slice_get p.parts i ≡ o
    → slice_get (contacts_of_part o) h ≡ Some c
    → HasNets (cells_of lay p) IsAny (bits_of c (way_put c.role)) (nets_out (slice_get (outs_if (lay.making i) o (part_start lay p i)) h))
part_leaves lay p sound i h c None at is = absurd (none-some c is)
part_leaves lay p sound i h c (Some k) at is =
    let b : ℕ = part_start lay p i in
    let cells : List Cell = layout (lay.making i) k b (incoming lay p i) in
    let (o, found, out) = out_at b cells (part_contacts k) (outs_of (lay.making i) k b) h c ((sound.gates i k at).outgoing b (incoming lay p i)) is in
    let here = out_nets (cells_of lay p) b cells c o (part_stands lay p i k at) out in
    let bits = subst (λ (w : ℕ). HasNets (cells_of lay p) IsAny w (nets_out (Some o))) (put_bits c.role c) here in
    subst (λ (x : Option Outgoing). HasNets (cells_of lay p) IsAny (bits_of c (way_put c.role)) (nets_out x)) (sym found) bits

-- of a port: a ground type serves at each handshake

pub ground_serves : (t : Type') (h : ℕ) (c : Contact) → IsGround t → slice_get (contacts_of t) h ≡ Some c → c.role ≡ Serve
ground_serves Com zero c g is = sym (ap (λ (x : Contact). x.role) (same_Some _ c is))
ground_serves Com (suc h) c g is = absurd (none-some c is)
ground_serves (Exp w) zero c g is = sym (ap (λ (x : Contact). x.role) (same_Some _ c is))
ground_serves (Exp w) (suc h) c g is = absurd (none-some c is)
ground_serves (Var w) zero c g is = sym (ap (λ (x : Contact). x.role) (same_Some _ c is))
ground_serves (Var w) (suc zero) c g is = sym (ap (λ (x : Contact). x.role) (same_Some _ c is))
ground_serves (Var w) (suc (suc h)) c g is = absurd (none-some c is)
ground_serves (Pair a b) h c g is = absurd g
ground_serves (Fun a b) h c g is = absurd g

pub done_ground : (t : Type') → IsDone t → IsGround t
done_ground Com d = tt
done_ground (Exp w) d = tt
done_ground (Var w) d = absurd d
done_ground (Pair a b) d = absurd d
done_ground (Fun a b) d = absurd d

-- the cells of a handshake of a port
pub shake_stands : (lay : Laying) (p : Plan) (k : ℕ) (o : Outer) (h : ℕ) (c : Contact) → slice_get (ports_of p) k ≡ Some o
    → slice_get o.contacts h ≡ Some c
    → StandAt (cells_of lay p) (request_start (port_start p k) o.contacts h) (shake_cells lay p o (0 + h) c)
shake_stands lay p k o h c at is =
    each_block (stands lay p) (shake_cells lay p o) shake_size (shakes_length lay p o) (port_start p k) 0 o.contacts h c is (port_stands lay p k o at)

abbrev pub result_port : Plan → Outer
result_port p = record { side = Give; contacts = contacts_of p.outcome; end_at = ResultEnd }

abbrev pub import_port : ℕ → Imported → Outer
import_port i t = record { side = Take; contacts = contacts_of t.ty; end_at = ImportEnd i }

taken_at : (n : ℕ) (ts : List Imported) (i : ℕ) (t : Imported) → slice_get ts i ≡ Some t
    → slice_get (taken_ports n ts) i ≡ Some (import_port (n + i) t)
taken_at n [] i t is = absurd (none-some t is)
taken_at n (u ∷ ts) zero t is =
    let e : n ≡ n + 0 = omega arith in
    ap (λ (m : ℕ). Some (import_port m u)) e ∙ ap (λ (x : Imported). Some (import_port (n + 0) x)) (same_Some u t is)
taken_at n (u ∷ ts) (suc i) t is =
    let e : suc n + i ≡ n + suc i = omega arith in taken_at (suc n) ts i t is ∙ ap (λ (m : ℕ). Some (import_port m t)) e

pub import_at : (p : Plan) (i : ℕ) (t : Imported) → slice_get p.imports i ≡ Some t → slice_get (ports_of p) (suc i) ≡ Some (import_port i t)
import_at p i t is = taken_at 0 p.imports i t is ∙ ap (λ (m : ℕ). Some (import_port m t)) (zero-add i)

result_leaves : (lay : Laying) (p : Plan) → IsSound lay p → (h : ℕ) (c : Contact) (o : Option Contact) → slice_get (contacts_of p.outcome) h ≡ o
    → turned_if o ≡ Some c
    → HasNets (cells_of lay p) IsAny (bits_of c (way_put c.role)) (nets_from (bits_if o Request) (request_start (port_start p 0) (contacts_of p.outcome) h))
result_leaves lay p sound h c None at is = absurd (none-some c is)
result_leaves lay p sound h c (Some d) at is =
    let n : ℕ = request_start (port_start p 0) (contacts_of p.outcome) h in
    let o : Outer = result_port p in
    let whole = shake_stands lay p 0 o h d refl at in
    let request = each_left (stands lay p) n (inputs d.ask_bits) (registers d.answer_bits (arrives lay p (ResultEnd (0 + h)))) whole in
    let here = token_nets (cells_of lay p) IsAny d.ask_bits n _ _ request tt tt in
    let role = ground_serves p.outcome h d (done_ground p.outcome sound.done) at in
    let same : turned_contact d ≡ c = same_Some (turned_contact d) c is in
    let bits : d.ask_bits ≡ bits_of c (way_put c.role) =
    bits_turned d role ∙ ap (λ (x : Contact). bits_of x (way_put x.role)) same in
    subst (λ (w : ℕ). HasNets (cells_of lay p) IsAny w (nets_from d.ask_bits n)) bits here
  where
    bits_turned : (d : Contact) → d.role ≡ Serve → d.ask_bits ≡ bits_of (turned_contact d) (way_put (turned_contact d).role)
    bits_turned d role = sym (ap (λ (r : Role). bits_of (turned_contact (record d { role = r })) (way_put (turned_contact (record d { role = r })).role)) role)

import_leaves : (lay : Laying) (p : Plan) → IsSound lay p → (i h : ℕ) (c : Contact) (o : Option Imported) → slice_get p.imports i ≡ o
    → slice_get (contacts_of_import o) h ≡ Some c
    → HasNets (cells_of lay p) IsAny (bits_of c (way_put c.role))
    (nets_from (bits_if (slice_get (contacts_of_import o) h) Answer)
    (request_start (port_start p (suc i)) (contacts_of_import o) h + token_size (bits_if (slice_get (contacts_of_import o) h) Request)))
import_leaves lay p sound i h c None at is = absurd (none-some c is)
import_leaves lay p sound i h c (Some t) at is =
    let n : ℕ = request_start (port_start p (suc i)) (contacts_of t.ty) h in
    let o : Outer = import_port i t in
    let whole = shake_stands lay p (suc i) o h c (import_at p i t at) is in
    let request : List Cell = registers c.ask_bits (arrives lay p (ImportEnd i (0 + h))) in
    let answer = each_right (stands lay p) n request (inputs c.answer_bits) whole in
    let here = token_nets (cells_of lay p) IsAny c.answer_bits (n + length request) _ _ answer tt tt in
    let role = ground_serves t.ty h c (sound.grounds i t at) is in
    let bits : c.answer_bits ≡ bits_of c (way_put c.role) = sym (ap (λ (r : Role). bits_of c (way_put r)) role) in
    let long : length request ≡ token_size c.ask_bits = token_length c.ask_bits _ _ in
    let moved = subst (λ (m : ℕ). HasNets (cells_of lay p) IsAny c.answer_bits (nets_from c.answer_bits (n + m))) long here in
    let width = subst (λ (w : ℕ). HasNets (cells_of lay p) IsAny w (nets_from c.answer_bits (n + token_size c.ask_bits))) bits moved in
    subst (λ (x : Option Contact). HasNets (cells_of lay p) IsAny (bits_of c (way_put c.role)) (nets_from (bits_if x Answer) (n + token_size (bits_if x Request))))
    (sym is) width

-- what goes into the circuit at an end
pub leaves_nets : (lay : Laying) (p : Plan) → IsSound lay p → (e : End) (c : Contact) → contact_at p e ≡ Some c
    → HasNets (cells_of lay p) IsAny (bits_of c (way_put c.role)) (leaves lay p e)
leaves_nets lay p sound (PartEnd i h) c is = part_leaves lay p sound i h c (slice_get p.parts i) refl is
leaves_nets lay p sound (ImportEnd i h) c is = import_leaves lay p sound i h c (slice_get p.imports i) refl is
leaves_nets lay p sound (ResultEnd h) c is = result_leaves lay p sound h c (slice_get (contacts_of p.outcome) h) refl is

-- what comes in at an end

-- What is known of the cells of what comes in: of registers and of constants, and of all cells where a direction of a joint
-- keeps no registers.
pub record Arriving (lay : Laying) (G : Function → Type 0) : Type 0 where
  pub cut : (f : Function) → IsCut f → G f
  pub passed : (x : ℕ) (way : Direction) → lay.keep x way ≡ false → (f : Function) → G f

-- nothing is known of them, or that they are cut where all directions keep registers
pub any_arriving : (lay : Laying) → Arriving lay IsAny
any_arriving lay = record { cut = λ f is. tt; passed = λ x way none f. tt }

pub cut_arriving : Arriving (plain keep_all) IsCut
cut_arriving = record { cut = λ f is. is; passed = λ x way none. absurd (cc none) }

-- a seat tells the joint, the end that takes there, and the bits of what comes in: those of what goes in at the other end
record AtSeat (p : Plan) (e : End) (s : Seat) : Type 0 where
  joint : Joint
  stands_there : slice_get p.joints s.joint ≡ Some joint
  here : target joint s.way ≡ e
  other : s.other ≡ source joint s.way
  width_is : width p joint s.way ≡ bits_taken (contact_at p e)
  contact : Contact
  contact_is : contact_at p (source joint s.way) ≡ Some contact
  bits : bits_of contact (way_put contact.role) ≡ bits_taken (contact_at p e)

seat_of_side : (p : Plan) (e : End) (s : Seat) (j : Joint) (q a : ℕ) → slice_get p.joints s.joint ≡ Some j → contact_at p j.asking ≡ Some (asks q a)
    → contact_at p j.serving ≡ Some (serves q a) → IsSide j e s → AtSeat p e s
seat_of_side p e s j q a at asking serving (inl (end, way, other)) =
    let taken : bits_taken (contact_at p e) ≡ a = ap bits_taken (ap (contact_at p) end ∙ asking) in
    record {
      joint = j;
      stands_there = at;
      here = ap (target j) way ∙ sym end;
      other = other ∙ sym (ap (source j) way);
      width_is = ap (width p j) way ∙ (ap (λ (o : Option Contact). bits_if o Answer) asking ∙ sym taken);
      contact = serves q a;
      contact_is = ap (λ (w : Direction). contact_at p (source j w)) way ∙ serving;
      bits = sym taken;
    }
seat_of_side p e s j q a at asking serving (inr (end, way, other)) =
    let taken : bits_taken (contact_at p e) ≡ q = ap bits_taken (ap (contact_at p) end ∙ serving) in
    record {
      joint = j;
      stands_there = at;
      here = ap (target j) way ∙ sym end;
      other = other ∙ sym (ap (source j) way);
      width_is = ap (width p j) way ∙ (ap (λ (o : Option Contact). bits_if o Request) asking ∙ sym taken);
      contact = asks q a;
      contact_is = ap (λ (w : Direction). contact_at p (source j w)) way ∙ asking;
      bits = sym taken;
    }

seat_tells : (p : Plan) → IsRight p → (e : End) (s : Seat) → seat_of p e ≡ Some s → AtSeat p e s
seat_tells p right e s seat =
    let seated = seat_found 0 p.joints e s seat in
    let number : seated.place ≡ s.joint = sym (seated.number ∙ zero-add seated.place) in
    let at : slice_get p.joints s.joint ≡ Some seated.at_joint = subst (λ (n : ℕ). slice_get p.joints n ≡ Some seated.at_joint) number seated.found in
    let fits = joint_fits p [] p.joints s.joint seated.at_joint right at in
    seat_of_side p e s seated.at_joint fits.0 fits.1 at fits.2 fits.3 seated.side

-- what comes in at an end is what goes in at the other end of its joint
pub record Straight (lay : Laying) (p : Plan) (e : End) : Type 0 where
  pub joint : ℕ
  pub passed : Joint
  pub way : Direction
  pub stands_there : slice_get p.joints joint ≡ Some passed
  pub straight : lay.keep joint way ≡ false
  pub here : target passed way ≡ e
  pub nets : arrives lay p e ≡ leaves lay p (source passed way)
  pub contact : Contact
  pub contact_is : contact_at p (source passed way) ≡ Some contact
  pub bits : bits_of contact (way_put contact.role) ≡ bits_taken (contact_at p e)

-- what comes in at an end is cut, or straight
pub comes_in : (lay : Laying) (p : Plan) → IsRight p → (e : End) (c : Contact) → contact_at p e ≡ Some c
    → HasNets (cells_of lay p) IsCut (bits_taken (contact_at p e)) (arrives lay p e) ⊎ Straight lay p e
comes_in lay p right e c is = by_seat (seat_of p e) refl
  where
    all : List Cell
    all = cells_of lay p

    w : ℕ
    w = bits_taken (contact_at p e)

    registers_at : Seat → ℕ
    registers_at s = way_start lay p s.joint (slice_get p.joints s.joint) s.way

    by_kept : (s : Seat) → seat_of p e ≡ Some s → (known : AtSeat p e s) (b : Bool) → lay.keep s.joint s.way ≡ b
        → HasNets all IsCut w (if b then nets_from w (registers_at s) else leaves lay p s.other) ⊎ Straight lay p e
    by_kept s seat known true kept =
        let j : Joint = known.joint in
        let start : way_start lay p s.joint (Some j) s.way ≡ registers_at s =
        ap (λ (o : Option Joint). way_start lay p s.joint o s.way) (sym known.stands_there) in
        let nets = token_nets all IsCut (width p j s.way) (way_start lay p s.joint (Some j) s.way) _ _
        (way_stands lay p s.joint j s.way known.stands_there kept) (inl (_, refl)) (inl (_, refl)) in
        inl (moved_nets all IsCut _ _ _ _ known.width_is start nets)
    by_kept s seat known false none =
        inr
        (record {
          joint = s.joint;
          passed = known.joint;
          way = s.way;
          stands_there = known.stands_there;
          straight = none;
          here = known.here;
          nets =
              ap (arrives_by lay p e) seat
              ∙ (ap (λ (b : Bool). if b then nets_from w (registers_at s) else leaves lay p s.other) none ∙ ap (leaves lay p) known.other);
          contact = known.contact;
          contact_is = known.contact_is;
          bits = known.bits;
        })

    by_seat : (o : Option Seat) → seat_of p e ≡ o → HasNets all IsCut w (arrives_by lay p e o) ⊎ Straight lay p e
    by_seat None none =
        inl (token_nets all IsCut w (loose_start lay p e) (Const 0) (Const 0) (loose_stands lay p e c is none) (inr refl) (inr refl))
    by_seat (Some s) seat = by_kept s seat (seat_tells p right e s seat) (lay.keep s.joint s.way) refl

-- so it has the bits of its handshake, and what is known of its cells
nets_known : (all : List Cell) (F G : Function → Type 0) (w : ℕ) (n : Nets) → ((f : Function) → F f → G f) → HasNets all F w n → HasNets all G w n
nets_known all F G w n each has =
    record { of_pulse = known n.pulse 1 has.of_pulse; of_number = λ some. known n.number w (has.of_number some) }
  where
    known : (net v : ℕ) → IsNet all F net v → IsNet all G net v
    known net v (c, at, bits, is) = (c, at, bits, each c.gate is)

pub arrives_nets : (lay : Laying) (p : Plan) (G : Function → Type 0) → Arriving lay G → IsSound lay p → (e : End) (c : Contact) → contact_at p e ≡ Some c
    → HasNets (cells_of lay p) G (bits_of c (way_taken c.role)) (arrives lay p e)
arrives_nets lay p G arriving sound e c is =
    subst (λ (v : ℕ). HasNets (cells_of lay p) G v (arrives lay p e)) (ap bits_taken is) (of_coming (comes_in lay p sound.right e c is))
  where
    of_coming : HasNets (cells_of lay p) IsCut (bits_taken (contact_at p e)) (arrives lay p e) ⊎ Straight lay p e
        → HasNets (cells_of lay p) G (bits_taken (contact_at p e)) (arrives lay p e)
    of_coming (inl cut) = nets_known (cells_of lay p) IsCut G (bits_taken (contact_at p e)) (arrives lay p e) arriving.cut cut
    of_coming (inr s) =
        nets_known (cells_of lay p) IsAny G (bits_taken (contact_at p e)) (arrives lay p e) (λ f is. arriving.passed s.joint s.way s.straight f)
        (subst (λ (n : Nets). HasNets (cells_of lay p) IsAny (bits_taken (contact_at p e)) n) (sym s.nets)
        (subst (λ (v : ℕ). HasNets (cells_of lay p) IsAny v (leaves lay p (source s.passed s.way))) s.bits
        (leaves_nets lay p sound (source s.passed s.way) s.contact s.contact_is)))
