-- What the cells of a plan's netlist show in a cycle: registers delay, and the gates of each part settle.
use Rattle.std.specs.Prelude.{Option, None}
use Rattle.std.proofs.Common.{◌≡◌, ◌≢◌, ◌||◌, ℕ, zero, suc, ◌+◌, ◌^◌, ◌<◌, ◌≤◌, Bool, true, false, List, [], ◌∷◌, ◌++◌, Some, slice_get, length, refl, sym, ◌∙◌, ap, subst, arith, if◌then◌else◌, inl, inr}
use Rattle.gos_types.specs.declared.shakes.Role.TheVariants.{Serve}
use Rattle.gos_types.specs.Types.{IsGround}
use Rattle.gos_netlist.specs.Nets.{Function, Input, Const, Not, And, Or, Xor, Mux, Add, Sub, Eq, Less, Gate, Reg, Cell, Give, Take}
use Rattle.gos_types.specs.Events.{Direction, Request, Answer}
use Rattle.gos_netlist.specs.Settling.{Numbers, at, shown, next_of, next_registers, Settling}
use Rattle.gos_plan.specs.Kinds.{Part, Contact, contacts_of, turned_contact}
use Rattle.gos_model.specs.Typing.{Imported}
use Rattle.gos_plan.specs.Plans.{End, PartEnd, ImportEnd, ResultEnd, Joint, Plan, IsRight, AreRight, contact_at, same_end, stands_in, is_free, turned_if, contacts_of_import}
use Rattle.gos_macro.specs.Cells.{bit, wide}
use Rattle.gos_macro.specs.Gates.{Settled}
use Rattle.gos_macro.specs.Fit.{HasNoInput}
use Rattle.gos_plan.specs.Tokens.{places_of, asking_in}
use Rattle.gos_plan.proofs.JointLemmas.{IsIn, same_itself}
use Rattle.gos_plan.proofs.BalanceLemmas.{ends_differ}
use Rattle.gos_expand.specs.Blocks.{Nets, nets_from, token_size, registers, nothing, inputs}
use Rattle.gos_expand.specs.Starts.{Laying, Outer, ports_of, port_start, bits_if, bits_taken, loose_start, part_start, shake_size}
use Rattle.gos_expand.specs.Laid.{Seat, seat_among, seat_of, arrives, arrives_by, leaves, circuit_cells, part_cells, side_cells, shake_cells, way_start, request_nets, answer_nets, request_start}
use Rattle.gos_expand.specs.Facts.{Delays, source, target, width, bits_put}
use Rattle.gos_expand.proofs.StandLemmas.{StandAt, each_left, each_right, each_block}
use Rattle.gos_expand.proofs.GroupLemmas.{token_length, shakes_length, port_stands, way_stands, part_stands}
use Rattle.gos_expand.proofs.SeatLemmas.{joint_fits, loose_stands}
use Rattle.gos_expand.proofs.FlowLemmas.{ground_serves}
use Rattle.gos_expand.proofs.PortLemmas.{port_there}
use Rattle.gos_expand.proofs.StandingLemmas.{is_in_at}
use Rattle.gos_expand.proofs.StepLemmas.{Ends, ends_of}

-- the next register of a cell
pub next_at : (cells : List Cell) (v : Numbers) (n : ℕ) (c : Cell) → slice_get cells n ≡ Some c → at (next_registers cells v) n ≡ next_of c.gate v
next_at [] v n c e = absurd (grind (arith, e))
next_at (d ∷ cells) v zero c e = let is : d ≡ c = cc e in ap (λ (x : Cell). next_of x.gate v) is
next_at (d ∷ cells) v (suc n) c e = next_at cells v n c e

-- where the first of some cells stands
first_stands : (all : List Cell) (b : ℕ) (c : Cell) (cells : List Cell) → StandAt all b (c ∷ cells) → slice_get all b ≡ Some c
first_stands all b c cells stands = let same : b + 0 ≡ b = omega arith in subst (λ (m : ℕ). slice_get all m ≡ Some c) same (stands 0 c refl)

-- registers of a token delay it
pub delayed : (all : List Cell) (v regs ins : Numbers) (w b : ℕ) (from : Nets) → Settling all regs ins v → StandAt all b (registers w from)
    → Delays w v regs (next_registers all v) from (nets_from w b)
delayed all v regs ins zero b from settles stands =
    record {
      pulse = settles.1 b (bit (Reg from.pulse)) (first_stands all b (bit (Reg from.pulse)) [] stands);
      next = next_at all v b (bit (Reg from.pulse)) (first_stands all b (bit (Reg from.pulse)) [] stands);
      number = λ some. absurd (omega (arith, some));
      next_number = λ some. absurd (omega (arith, some));
    }
delayed all v regs ins (suc w) b from settles stands =
    record {
      pulse = settles.1 b (bit (Reg from.pulse)) (first_stands all b (bit (Reg from.pulse)) (wide (suc w) (Reg from.number) ∷ []) stands);
      next = next_at all v b (bit (Reg from.pulse)) (first_stands all b (bit (Reg from.pulse)) (wide (suc w) (Reg from.number) ∷ []) stands);
      number = λ some. settles.1 (b + 1) _ (stands 1 _ refl);
      next_number = λ some. next_at all v (b + 1) _ (stands 1 _ refl);
    }

-- nothing comes from the constants of a token
pub silent_nets : (all : List Cell) (v regs ins : Numbers) (w b : ℕ) → Settling all regs ins v → StandAt all b (nothing w)
    → (at v (nets_from w b).pulse ≡ 0) × (0 < w → at v (nets_from w b).number ≡ 0)
silent_nets all v regs ins zero b settles stands = (settles.1 b (bit (Const 0)) (first_stands all b (bit (Const 0)) [] stands), λ some. absurd (omega (arith, some)))
silent_nets all v regs ins (suc w) b settles stands = (settles.1 b (bit (Const 0)) (first_stands all b (bit (Const 0)) (wide (suc w) (Const 0) ∷ []) stands), λ some. settles.1 (b + 1) _ (stands 1 _ refl))

-- gates that are no inputs settle
without_input : (w r i : ℕ) (f : Function) (v : ℕ → ℕ) → f ≢ Input → shown w f r i v ≡ shown w f r 0 v
without_input w r i Input v other = absurd (other refl)
without_input w r i (Const k) v other = refl
without_input w r i (Not a) v other = refl
without_input w r i (And a b) v other = refl
without_input w r i (Or a b) v other = refl
without_input w r i (Xor a b) v other = refl
without_input w r i (Mux s a b) v other = refl
without_input w r i (Add a b) v other = refl
without_input w r i (Sub a b) v other = refl
without_input w r i (Eq a b) v other = refl
without_input w r i (Less a b) v other = refl
without_input w r i (Gate s a) v other = refl
without_input w r i (Reg a) v other = refl

gates_settle : (all : List Cell) (v regs ins : Numbers) (b n : ℕ) (cells : List Cell) → Settling all regs ins v → StandAt all (b + n) cells → HasNoInput cells
    → Settled v regs (next_registers all v) b n cells
gates_settle all v regs ins b n [] settles stands none = tt
gates_settle all v regs ins b n (c ∷ cells) settles stands none =
    let here : slice_get all (b + n) ≡ Some c = first_stands all (b + n) c cells stands in (
      settles.1 (b + n) c here ∙ without_input c.width (at regs (b + n)) (at ins (b + n)) c.gate (at v) none.0,
      next_at all v (b + n) c here,
      gates_settle all v regs ins b (suc n) cells settles
          (λ k d e. let same : b + n + suc k ≡ b + suc n + k = omega arith in subst (λ (m : ℕ). slice_get all m ≡ Some d) same (stands (suc k) d e)) none.1,
    )

pub part_settles : (lay : Laying) (p : Plan) (v regs ins : Numbers) (i : ℕ) (k : Part) → Settling (circuit_cells lay p) regs ins v → slice_get p.parts i ≡ Some k
    → HasNoInput (part_cells lay p i k)
    → Settled v regs (next_registers (circuit_cells lay p) v) (part_start lay p i) 0 (part_cells lay p i k)
part_settles lay p v regs ins i k settles is none =
    let same : part_start lay p i ≡ part_start lay p i + 0 = omega arith in
    gates_settle (circuit_cells lay p) v regs ins (part_start lay p i) 0 (part_cells lay p i k) settles
    (subst (λ (m : ℕ). StandAt (circuit_cells lay p) m (part_cells lay p i k)) same (part_stands lay p i k is)) none

-- the ends of a later joint stand in no earlier one
free_of : (e : End) (y : Joint) (before : List Joint) → IsIn y before → is_free e before ≡ true → stands_in e y ≡ false
free_of e y [] h f = absurd h
free_of e y (x ∷ before) (inl is) f = subst (λ (z : Joint). stands_in e z ≡ false) (sym is) (grind (arith, f))
free_of e y (x ∷ before) (inr h) f = free_of e y before h (grind (arith, f))

apart_later : (p : Plan) (before js : List Joint) (x : ℕ) (j y : Joint) → AreRight p before js → IsIn y before → slice_get js x ≡ Some j
    → (stands_in j.asking y ≡ false) × (stands_in j.serving y ≡ false)
apart_later p before [] x j y right h e = absurd (grind (arith, e))
apart_later p before (k ∷ js) zero j y right h e =
    let is : k ≡ j = cc e in
    subst (λ (z : Joint). (stands_in z.asking y ≡ false) × (stands_in z.serving y ≡ false)) is
    (free_of k.asking y before h (grind (arith, right.0.1)), free_of k.serving y before h (grind (arith, right.0.2)))
apart_later p before (k ∷ js) (suc x) j y right h e = apart_later p (k ∷ before) js x j y right.1 (inr h) e

-- an end of a joint has its seat there
abbrev pub seat_at : ℕ → Joint → Direction → Seat
seat_at x j way = record { joint = x; way = way; other = source j way }

seat_is : (p : Plan) (before js : List Joint) (n x : ℕ) (j : Joint) (way : Direction) → AreRight p before js → slice_get js x ≡ Some j
    → (same_end j.serving j.asking ≡ false) → seat_among n js (target j way) ≡ Some (seat_at (n + x) j way)
seat_is p before [] n x j way right e differ = absurd (grind (arith, e))
seat_is p before (k ∷ js) n zero j way right e differ =
    let is : k ≡ j = cc e in
    subst (λ (z : Joint). seat_among n (z ∷ js) (target j way) ≡ Some (seat_at (n + 0) j way)) (sym is)
    (by_way way ∙ ap (λ (m : ℕ). Some (seat_at m j way)) here)
  where
    here : n ≡ n + 0
    here = omega arith

    by_way : (way : Direction) → seat_among n (j ∷ js) (target j way) ≡ Some (seat_at n j way)
    by_way Answer = rw (same_itself j.asking) refl
    by_way Request = rw (differ, same_itself j.serving) refl
seat_is p before (k ∷ js) n (suc x) j way right e differ =
    let shift : suc n + x ≡ n + suc x = omega arith in
    by_way way (apart_later p (k ∷ before) js x j k right.1 (inl refl) e)
    (seat_is p (k ∷ before) js (suc n) x j way right.1 e differ ∙ ap (λ (m : ℕ). Some (seat_at m j way)) shift)
  where
    by_way : (way : Direction) → (stands_in j.asking k ≡ false) × (stands_in j.serving k ≡ false)
        → seat_among (suc n) js (target j way) ≡ Some (seat_at (n + suc x) j way) → seat_among n (k ∷ js) (target j way) ≡ Some (seat_at (n + suc x) j way)
    by_way Answer apart rest =
        let a : same_end j.asking k.asking ≡ false = grind (arith, apart.0) in
        let b : same_end j.asking k.serving ≡ false = grind (arith, apart.0) in
        rw (a, b) rest
    by_way Request apart rest =
        let a : same_end j.serving k.asking ≡ false = grind (arith, apart.1) in
        let b : same_end j.serving k.serving ≡ false = grind (arith, apart.1) in
        rw (a, b) rest

pub seat_there : (p : Plan) (x : ℕ) (j : Joint) (way : Direction) → IsRight p → slice_get p.joints x ≡ Some j → seat_of p (target j way) ≡ Some (seat_at x j way)
seat_there p x j way right there =
    let none : 0 + x ≡ x = omega arith in
    seat_is p [] p.joints 0 x j way right there (ends_differ p j right (is_in_at x p.joints j there)).1 ∙ ap (λ (m : ℕ). Some (seat_at m j way)) none

-- what comes in by a direction of a joint, of which it is known whether it keeps its registers
arrives_if : (lay : Laying) (p : Plan) (x : ℕ) (j : Joint) (way : Direction) (kept : Bool) → IsRight p → slice_get p.joints x ≡ Some j → lay.keep x way ≡ kept
    → arrives lay p (target j way)
    ≡ (if kept then nets_from (bits_taken (contact_at p (target j way))) (way_start lay p x (slice_get p.joints x) way) else leaves lay p (source j way))
arrives_if lay p x j way kept right there is =
    ap (arrives_by lay p (target j way)) (seat_there p x j way right there)
    ∙ ap
    (λ (b : Bool). if b then nets_from (bits_taken (contact_at p (target j way))) (way_start lay p x (slice_get p.joints x) way) else leaves lay p (source j way))
    is

-- it is what goes in at the other end where it doesn't
pub arrives_straight : (lay : Laying) (p : Plan) (x : ℕ) (j : Joint) (way : Direction) → IsRight p → slice_get p.joints x ≡ Some j → lay.keep x way ≡ false
    → arrives lay p (target j way) ≡ leaves lay p (source j way)
arrives_straight lay p x j way right there none = arrives_if lay p x j way false right there none

-- and its registers where it does
arrives_joint : (lay : Laying) (p : Plan) (x : ℕ) (j : Joint) (way : Direction) → IsRight p → slice_get p.joints x ≡ Some j → lay.keep x way ≡ true
    → arrives lay p (target j way) ≡ nets_from (width p j way) (way_start lay p x (Some j) way)
arrives_joint lay p x j way right there kept =
    let ends : Ends p j way = ends_of p j way (joint_fits p [] p.joints x j right there) in
    let bits : bits_taken (contact_at p (target j way)) ≡ width p j way = ap bits_taken ends.to_there ∙ ends.to_bits in
    arrives_if lay p x j way true right there kept ∙ (λ i. nets_from (bits i) (way_start lay p x (there i) way))

pub joint_delays : (lay : Laying) (p : Plan) (v regs ins : Numbers) (x : ℕ) (j : Joint) (way : Direction) → IsRight p
    → Settling (circuit_cells lay p) regs ins v → slice_get p.joints x ≡ Some j → lay.keep x way ≡ true
    → Delays (width p j way) v regs (next_registers (circuit_cells lay p) v) (leaves lay p (source j way)) (arrives lay p (target j way))
joint_delays lay p v regs ins x j way right settles there kept =
    subst (λ (n : Nets). Delays (width p j way) v regs (next_registers (circuit_cells lay p) v) (leaves lay p (source j way)) n)
    (sym (arrives_joint lay p x j way right there kept))
    (delayed (circuit_cells lay p) v regs ins (width p j way) (way_start lay p x (Some j) way) (leaves lay p (source j way)) settles
    (way_stands lay p x j way there kept))

-- an end without a place has no seat
no_seat : (e : End) (n : ℕ) (js : List Joint) → asking_in js e ≡ None → seat_among n js e ≡ None
no_seat e n [] none = refl
no_seat e n (j ∷ js) none = by_tests (same_end e j.asking) (same_end e j.serving) none (no_seat e (suc n) js)
  where
    by_tests : (a b : Bool) → (if a || b then Some j.asking else asking_in js e) ≡ None → (asking_in js e ≡ None → seat_among (suc n) js e ≡ None)
        → (if a then Some (record { joint = n; way = Answer; other = j.serving })
        else (if b then Some (record { joint = n; way = Request; other = j.asking }) else seat_among (suc n) js e)) ≡ None
    by_tests true b none go = absurd (cc none)
    by_tests false true none go = absurd (cc none)
    by_tests false false none go = go none

pub loose_silent : (lay : Laying) (p : Plan) (v regs ins : Numbers) (e : End) (c : Contact) → Settling (circuit_cells lay p) regs ins v → contact_at p e ≡ Some c
    → places_of p e ≡ None → (at v (arrives lay p e).pulse ≡ 0) × (0 < bits_taken (Some c) → at v (arrives lay p e).number ≡ 0)
loose_silent lay p v regs ins e c settles there none =
    let free : seat_of p e ≡ None = no_seat e 0 p.joints none in
    let silent = silent_nets (circuit_cells lay p) v regs ins (bits_taken (contact_at p e)) (loose_start lay p e) settles (loose_stands lay p e c there free) in
    let is : arrives lay p e ≡ nets_from (bits_taken (contact_at p e)) (loose_start lay p e) = ap (arrives_by lay p e) free in
    subst (λ (n : Nets). (at v n.pulse ≡ 0) × (0 < bits_taken (Some c) → at v n.number ≡ 0)) (sym is)
    (silent.0, λ some. silent.1 (subst (λ (f : Option Contact). 0 < bits_taken f) (sym there) some))

-- the cells of a handshake of a port
shake_stands : (lay : Laying) (p : Plan) (k h : ℕ) (o : Outer) (c : Contact) → slice_get (ports_of p) k ≡ Some o → slice_get o.contacts h ≡ Some c
    → StandAt (circuit_cells lay p) (request_start (port_start p k) o.contacts h) (side_cells o.side c (arrives lay p (o.end_at h)))
shake_stands lay p k h o c there is =
    let none : 0 + h ≡ h = omega arith in
    subst (λ (m : ℕ). StandAt (circuit_cells lay p) (request_start (port_start p k) o.contacts h) (side_cells o.side c (arrives lay p (o.end_at m)))) none
    (each_block (λ n d. slice_get (circuit_cells lay p) n ≡ Some d) (shake_cells lay p o) shake_size (shakes_length lay p o) (port_start p k) 0 o.contacts h c is
    (port_stands lay p k o there))

-- the nets of what a port shows
abbrev pub shows : Plan → End → Nets
shows p (PartEnd i h) = record { pulse = 0; number = 0 }
shows p (ImportEnd i h) = request_nets (port_start p (suc i)) (contacts_of_import (slice_get p.imports i)) h
shows p (ResultEnd h) = answer_nets (port_start p 0) (contacts_of p.outcome) h

-- an end of a port: its inputs and the registers of its output
pub record PortCells (lay : Laying) (p : Plan) (e : End) (c : Contact) : Type 0 where
  pub out_from : ℕ
  pub shows_is : shows p e ≡ nets_from (bits_taken (Some c)) out_from
  pub out_stands : StandAt (circuit_cells lay p) out_from (registers (bits_taken (Some c)) (arrives lay p e))
  pub in_from : ℕ
  pub leaves_is : leaves lay p e ≡ nets_from (bits_put (Some c)) in_from
  pub in_stands : StandAt (circuit_cells lay p) in_from (inputs (bits_put (Some c)))

pub turned_back : (f : Option Contact) (c : Contact) → turned_if f ≡ Some c → (d : Contact) × (f ≡ Some d) × (turned_contact d ≡ c)
turned_back None c e = absurd (cc e)
turned_back (Some d) c e = (d, refl, cc e)

pub result_cells : (lay : Laying) (p : Plan) (h : ℕ) (c : Contact) → IsGround p.outcome → contact_at p (ResultEnd h) ≡ Some c → PortCells lay p (ResultEnd h) c
result_cells lay p h c ground there = of_contact back.0 back.1 back.2 (ground_serves p.outcome h back.0 ground back.1)
  where
    back : (d : Contact) × (slice_get (contacts_of p.outcome) h ≡ Some d) × (turned_contact d ≡ c)
    back = turned_back (slice_get (contacts_of p.outcome) h) c there

    of_contact : (d : Contact) → slice_get (contacts_of p.outcome) h ≡ Some d → turned_contact d ≡ c → d.role ≡ Serve → PortCells lay p (ResultEnd h) c
    of_contact d is turned role = subst (λ (x : Contact). PortCells lay p (ResultEnd h) x) turned made
      where
        start : ℕ
        start = request_start (port_start p 0) (contacts_of p.outcome) h

        o : Outer
        o = record { side = Give; contacts = contacts_of p.outcome; end_at = ResultEnd }

        cells : StandAt (circuit_cells lay p) start (inputs d.ask_bits ++ registers d.answer_bits (arrives lay p (ResultEnd h)))
        cells = shake_stands lay p 0 h o d refl is

        asked : bits_put (Some (turned_contact d)) ≡ d.ask_bits
        asked = rw role refl

        answered : bits_taken (Some (turned_contact d)) ≡ d.answer_bits
        answered = rw role refl

        long : length (inputs d.ask_bits) ≡ token_size d.ask_bits
        long = token_length d.ask_bits Input Input

        made : PortCells lay p (ResultEnd h) (turned_contact d)
        made =
            record {
              out_from = start + token_size d.ask_bits;
              shows_is =
                  (λ i. nets_from (bits_if (is i) Answer) (start + token_size (bits_if (is i) Request)))
                  ∙ ap (λ (w : ℕ). nets_from w (start + token_size d.ask_bits)) (sym answered);
              out_stands =
                  subst (λ (w : ℕ). StandAt (circuit_cells lay p) (start + token_size d.ask_bits) (registers w (arrives lay p (ResultEnd h)))) (sym answered)
                  (subst (λ (m : ℕ). StandAt (circuit_cells lay p) (start + m) (registers d.answer_bits (arrives lay p (ResultEnd h)))) long
                  (each_right (λ n x. slice_get (circuit_cells lay p) n ≡ Some x) start (inputs d.ask_bits) (registers d.answer_bits (arrives lay p (ResultEnd h))) cells));
              in_from = start;
              leaves_is = (λ i. nets_from (bits_if (is i) Request) start) ∙ ap (λ (w : ℕ). nets_from w start) (sym asked);
              in_stands =
                  subst (λ (w : ℕ). StandAt (circuit_cells lay p) start (inputs w)) (sym asked)
                  (each_left (λ n x. slice_get (circuit_cells lay p) n ≡ Some x) start (inputs d.ask_bits) (registers d.answer_bits (arrives lay p (ResultEnd h))) cells);
            }

pub import_cells : (lay : Laying) (p : Plan) (i h : ℕ) (t : Imported) (c : Contact) → slice_get p.imports i ≡ Some t → IsGround t.ty → contact_at p (ImportEnd i h) ≡ Some c
    → PortCells lay p (ImportEnd i h) c
import_cells lay p i h t c there ground contact =
    record {
      out_from = start;
      shows_is = (λ j. nets_from (bits_if (here j) Request) (starts j)) ∙ ap (λ (w : ℕ). nets_from w start) (sym asked);
      out_stands =
          subst (λ (w : ℕ). StandAt (circuit_cells lay p) start (registers w (arrives lay p (ImportEnd i h)))) (sym asked)
          (each_left (λ n x. slice_get (circuit_cells lay p) n ≡ Some x) start (registers c.ask_bits (arrives lay p (ImportEnd i h))) (inputs c.answer_bits) cells);
      in_from = start + token_size c.ask_bits;
      leaves_is =
          (λ j. nets_from (bits_if (here j) Answer) (starts j + token_size (bits_if (here j) Request)))
          ∙ ap (λ (w : ℕ). nets_from w (start + token_size c.ask_bits)) (sym answered);
      in_stands =
          subst (λ (w : ℕ). StandAt (circuit_cells lay p) (start + token_size c.ask_bits) (inputs w)) (sym answered)
          (subst (λ (m : ℕ). StandAt (circuit_cells lay p) (start + m) (inputs c.answer_bits)) long
          (each_right (λ n x. slice_get (circuit_cells lay p) n ≡ Some x) start (registers c.ask_bits (arrives lay p (ImportEnd i h))) (inputs c.answer_bits) cells));
    }
  where
    start : ℕ
    start = request_start (port_start p (suc i)) (contacts_of t.ty) h

    starts : request_start (port_start p (suc i)) (contacts_of_import (slice_get p.imports i)) h ≡ start
    starts = ap (λ (f : Option Imported). request_start (port_start p (suc i)) (contacts_of_import f) h) there

    here : slice_get (contacts_of_import (slice_get p.imports i)) h ≡ Some c
    here = contact

    own : slice_get (contacts_of t.ty) h ≡ Some c
    own = subst (λ (f : Option Imported). slice_get (contacts_of_import f) h ≡ Some c) there contact

    role : c.role ≡ Serve
    role = ground_serves t.ty h c ground own

    asked : bits_taken (Some c) ≡ c.ask_bits
    asked = rw role refl

    answered : bits_put (Some c) ≡ c.answer_bits
    answered = rw role refl

    o : Outer
    o = record { side = Take; contacts = contacts_of t.ty; end_at = ImportEnd i }

    cells : StandAt (circuit_cells lay p) start (registers c.ask_bits (arrives lay p (ImportEnd i h)) ++ inputs c.answer_bits)
    cells =
        let up : i + 1 ≡ suc i = omega arith in
        shake_stands lay p (suc i) h o c (subst (λ (m : ℕ). slice_get (ports_of p) m ≡ Some o) up (port_there p i t there)) own

    long : length (registers c.ask_bits (arrives lay p (ImportEnd i h))) ≡ token_size c.ask_bits
    long = token_length c.ask_bits (Reg (arrives lay p (ImportEnd i h)).pulse) (Reg (arrives lay p (ImportEnd i h)).number)

-- so outputs delay, and inputs are in range
pub port_delays : (lay : Laying) (p : Plan) (v regs ins : Numbers) (e : End) (c : Contact) → PortCells lay p e c → Settling (circuit_cells lay p) regs ins v
    → Delays (bits_taken (Some c)) v regs (next_registers (circuit_cells lay p) v) (arrives lay p e) (shows p e)
port_delays lay p v regs ins e c cells settles =
    subst (λ (n : Nets). Delays (bits_taken (Some c)) v regs (next_registers (circuit_cells lay p) v) (arrives lay p e) n) (sym cells.shows_is)
    (delayed (circuit_cells lay p) v regs ins (bits_taken (Some c)) cells.out_from (arrives lay p e) settles cells.out_stands)

-- inputs show what is given
pub shown_inputs : (all : List Cell) (v regs ins : Numbers) (w b : ℕ) → Settling all regs ins v → StandAt all b (inputs w)
    → (at v (nets_from w b).pulse ≡ at ins (nets_from w b).pulse) × (0 < w → at v (nets_from w b).number ≡ at ins (nets_from w b).number)
shown_inputs all v regs ins zero b settles stands = (settles.1 b (bit Input) (first_stands all b (bit Input) [] stands), λ some. absurd (omega (arith, some)))
shown_inputs all v regs ins (suc w) b settles stands =
    (settles.1 b (bit Input) (first_stands all b (bit Input) (wide (suc w) Input ∷ []) stands), λ some. settles.1 (b + 1) (wide (suc w) Input) (stands 1 _ refl))

-- they are in range
pub given_nets : (all : List Cell) (v regs ins : Numbers) (w b : ℕ) → Settling all regs ins v
    → ((n : ℕ) (c : Cell) → slice_get all n ≡ Some c → c.gate ≡ Input → at ins n < 2 ^ c.width) → StandAt all b (inputs w)
    → (at v (nets_from w b).pulse ≤ 1) × (0 < w → at v (nets_from w b).number < 2 ^ w)
given_nets all v regs ins zero b settles range stands =
    let shows = (shown_inputs all v regs ins zero b settles stands).0 in
    let small : at ins b < 2 ^ 1 = range b (bit Input) (first_stands all b (bit Input) [] stands) refl in
    (omega (arith, shows, small), λ some. absurd (omega (arith, some)))
given_nets all v regs ins (suc w) b settles range stands =
    let shows = shown_inputs all v regs ins (suc w) b settles stands in
    let pulse = shows.0 in
    let small : at ins b < 2 ^ 1 = range b (bit Input) (first_stands all b (bit Input) (wide (suc w) Input ∷ []) stands) refl in (
      omega (arith, pulse, small),
      λ some. subst (λ (m : ℕ). m < 2 ^ suc w) (sym (shows.1 some)) (range (b + 1) (wide (suc w) Input) (stands 1 (wide (suc w) Input) refl) refl),
    )
