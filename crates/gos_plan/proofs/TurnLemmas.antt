-- A plan without a Share puts each token on an empty joint, while its inputs alternate.
--
-- Which ends are engaged is read off the states of the parts and, at ports, off the elements so far. At the beginning every
-- joint is balanced (BalanceLemmas); each element keeps them so, by the table of rows (RowLemmas).
use Rattle.std.specs.Prelude.{IsTrue, not, Option, None, All}
use Rattle.std.proofs.Common.{◌≡◌, ℕ, Bool, true, false, List, [], ◌∷◌, Some, slice_get, refl, sym, ◌∙◌, ap, subst, arith, nat_eq, if◌then◌else◌}
use Rattle.std.proofs.lemmas.Option.{get_or_from_slice_get, slice_get_within}
use Rattle.gos_types.specs.declared.shakes.Role.{Role}
use Rattle.gos_types.specs.declared.shakes.Role.TheVariants.{Serve, Ask}
use Rattle.gos_types.specs.Events.{Direction, Request, Answer}
use Rattle.gos_model.proofs.NumberLemmas.{nat_eq_itself}
use Rattle.gos_plan.specs.Kinds as kinds
use Rattle.gos_plan.specs.Kinds.{Part, Contact, part_contacts}
use Rattle.gos_plan.specs.Firing.{Rest, State, Slot, Req, Ans, Token, Row, rows, firing}
use Rattle.gos_plan.specs.Plans.{End, PartEnd, ImportEnd, ResultEnd, Plan, IsRight, contact_at, same_end}
use Rattle.gos_plan.specs.Tokens.{Tokens, Element, Fire, Out, In, shake_of, way_of, end_of, token_at, with_token, with_held, with_state, with_puts, places_of, firing_of, fired, way_taken, way_put, IsPortEnd, Passes, Does, Runs, IsIdle}
use Rattle.gos_plan.specs.Turns.{alternates, alternates_at, Alternates, InputsAlternate, IsEmptyAt, PutsOnEmpty, HoldsOne, AllHoldOne, IsUnshared, OneTokenEach}
use Rattle.gos_plan.specs.inner.Engaged.{is_engaged, is_engaged_at}
use Rattle.gos_plan.proofs.JointLemmas.{same_is, same_itself}
use Rattle.gos_plan.proofs.BalanceLemmas.{Balanced, turned_at, before_taking, before_putting, taken, put_well, balanced_by, at_most_one}
use Rattle.gos_plan.proofs.RowLemmas.{role_taking, role_putting, flipped, Turns, RowKeeps, table, row_with}

-- whether a port's end is engaged, where an input there alternates or not
abbrev by_role : Role → Bool → Bool
by_role Ask turn = not turn
by_role Serve turn = turn

abbrev port_engaged : Option Contact → End → List Element → Bool
port_engaged None e past = false
port_engaged (Some c) e past = by_role c.role (alternates c.role e past)

-- which ends are engaged after these elements, the newest first
abbrev engaged_after : Plan → List Element → Tokens → End → Bool
engaged_after p past s (PartEnd i h) = is_engaged_at (slice_get p.parts i) (s.state i) h
engaged_after p past s (ImportEnd i h) = port_engaged (contact_at p (ImportEnd i h)) (ImportEnd i h) past
engaged_after p past s (ResultEnd h) = port_engaged (contact_at p (ResultEnd h)) (ResultEnd h) past

-- at the beginning none is
none_at_rest : (k : Part) (q : State) (h : ℕ) → q.phase ≡ Rest → is_engaged k q h ≡ false
none_at_rest k q h e = rw e (at_rest k q.number)
  where
    at_rest : (k : Part) (n : ℕ) → is_engaged k (record { phase = Rest; number = n }) h ≡ false
    at_rest kinds.Skip n = refl
    at_rest (kinds.Lit w v) n = refl
    at_rest (kinds.Seq v) n = refl
    at_rest kinds.Par n = refl
    at_rest (kinds.If v) n = refl
    at_rest kinds.While n = refl
    at_rest (kinds.Op op w) n = refl
    at_rest (kinds.Not w) n = refl
    at_rest (kinds.Assign w) n = refl
    at_rest (kinds.Deref w) n = refl
    at_rest (kinds.Local w v) n = refl
    at_rest (kinds.Array w k v) n = refl
    at_rest (kinds.Share t) n = refl

port_at_first : (o : Option Contact) (e : End) → port_engaged o e [] ≡ false
port_at_first None e = refl
port_at_first (Some c) e = of_role c.role
  where
    of_role : (role : Role) → by_role role (alternates role e []) ≡ false
    of_role Ask = refl
    of_role Serve = refl

none_at_first : (p : Plan) (s : Tokens) (e : End) → IsIdle p s → engaged_after p [] s e ≡ false
none_at_first p s (PartEnd i h) idle = of_part (slice_get p.parts i)
  where
    of_part : (o : Option Part) → is_engaged_at o (s.state i) h ≡ false
    of_part None = refl
    of_part (Some k) = none_at_rest k (s.state i) h (idle.1 i)
none_at_first p s (ImportEnd i h) idle = port_at_first (contact_at p (ImportEnd i h)) (ImportEnd i h)
none_at_first p s (ResultEnd h) idle = port_at_first (contact_at p (ResultEnd h)) (ResultEnd h)

pub balanced_at_first : (p : Plan) (s : Tokens) → IsIdle p s → Balanced p (engaged_after p [] s) s
balanced_at_first p s idle j i =
    rw (none_at_first p s j.asking idle, none_at_first p s j.serving idle, idle.0 Request j.asking, idle.0 Answer j.asking) tt

-- tokens put or taken leave the states of parts
pub token_state : (p : Plan) (e : End) (way : Direction) (held : Option ℕ) (s : Tokens) (i : ℕ) → (with_token p e way held s).state i ≡ s.state i
token_state p e way held s i = of_place (places_of p e)
  where
    of_place : (o : Option End) → (with_held way o held s).state i ≡ s.state i
    of_place None = refl
    of_place (Some a) = refl

pub puts_state : (p : Plan) (i : ℕ) (ts : List Token) (s : Tokens) (j : ℕ) → (with_puts p i ts s).state j ≡ s.state j
puts_state p i [] s j = refl
puts_state p i (t ∷ ts) s j =
    puts_state p i ts (with_token p (end_of i t.slot) (way_of t.slot) (Some t.value) s) j
    ∙ token_state p (end_of i t.slot) (way_of t.slot) (Some t.value) s j

-- a firing changes the state of its part alone
pub fired_state : (p : Plan) (i : ℕ) (r : Row) (v : ℕ) (s : Tokens) (j : ℕ) → (fired p i r v s).state j ≡ (if nat_eq j i then r.next v else s.state j)
fired_state p i r v s j =
    puts_state p i (r.puts v) (with_state i (r.next v) (with_token p (end_of i r.takes) (way_of r.takes) None s)) j
    ∙ ap (λ (q : State). if nat_eq j i then r.next v else q) (token_state p (end_of i r.takes) (way_of r.takes) None s j)

-- the handshake of a part's end
contact_of : (p : Plan) (i h : ℕ) (k : Part) (c : Contact) → slice_get p.parts i ≡ Some k → slice_get (part_contacts k) h ≡ Some c
    → contact_at p (PartEnd i h) ≡ Some c
contact_of p i h k c e f = rw e f

-- the way of a slot, by the role that takes or puts it
pub way_to_take : (t : Slot) → way_of t ≡ way_taken (role_taking t)
way_to_take (Req h) = refl
way_to_take (Ans h) = refl

pub way_to_put : (t : Slot) → way_of t ≡ way_put (role_putting t)
way_to_put (Req h) = refl
way_to_put (Ans h) = refl

-- whether an end is one of a part's
abbrev is_of : ℕ → End → Bool
is_of i (PartEnd j h) = nat_eq j i
is_of i (ImportEnd j h) = false
is_of i (ResultEnd h) = false

-- turning an end of a part turns its handshake, and nothing at other parts and ports
turned_within : (i h g : ℕ) (engaged : End → Bool) → turned_at (PartEnd i h) engaged (PartEnd i g) ≡ flipped h (λ n. engaged (PartEnd i n)) g
turned_within i h g engaged = grind arith

turned_outside : (i h : ℕ) (d : End) (engaged : End → Bool) → is_of i d ≡ false → turned_at (PartEnd i h) engaged d ≡ engaged d
turned_outside i h (PartEnd j g) engaged n = grind (arith, n)
turned_outside i h (ImportEnd j g) engaged n = refl
turned_outside i h (ResultEnd g) engaged n = refl

flipped_by : (h g : ℕ) (a b : ℕ → Bool) → a g ≡ b g → flipped h a g ≡ flipped h b g
flipped_by h g a b e = rw e refl

-- what holds after a part has put tokens
pub record Put (p : Plan) (i : ℕ) (engaged : End → Bool) (after : ℕ → Bool) (ts : List Token) (s : Tokens) : Type 0 where
  pub on_empty : PutsOnEmpty p i ts s
  pub now : End → Bool
  pub balanced : Balanced p now (with_puts p i ts s)
  pub within : (g : ℕ) → now (PartEnd i g) ≡ after g
  pub outside : (d : End) → is_of i d ≡ false → now d ≡ engaged d

pub put_all : (p : Plan) (i : ℕ) (k : Part) (engaged : End → Bool) (inner after : ℕ → Bool) (ts : List Token) (s : Tokens) → IsRight p
    → slice_get p.parts i ≡ Some k → Balanced p engaged s → ((g : ℕ) → engaged (PartEnd i g) ≡ inner g) → Turns k inner ts after
    → Put p i engaged after ts s
put_all p i k engaged inner after [] s r e b same turns =
    record { on_empty = tt; now = engaged; balanced = b; within = λ g. same g ∙ turns g; outside = λ d n. refl }
put_all p i k engaged inner after (t ∷ ts) s r e b same turns =
    let h : ℕ = shake_of t.slot in
    let c = turns.0.0 in
    let ready : engaged (PartEnd i h) ≡ before_putting c.role = same h ∙ (turns.1 ∙ ap before_putting (sym turns.0.2)) in
    let way : way_put c.role ≡ way_of t.slot = ap way_put turns.0.2 ∙ sym (way_to_put t.slot) in
    let first = put_well p engaged s (PartEnd i h) c t.value r b (contact_of p i h k c e turns.0.1) ready in
    let placed = subst (λ (w : Direction). Balanced p (turned_at (PartEnd i h) engaged) (with_token p (PartEnd i h) w (Some t.value) s)) way first.1 in
    let turned = λ (g : ℕ). turned_within i h g engaged ∙ flipped_by h g (λ n. engaged (PartEnd i n)) inner (same g) in
    let rest = put_all p i k (turned_at (PartEnd i h) engaged) (flipped h inner) after ts (with_token p (PartEnd i h) (way_of t.slot) (Some t.value) s) r e placed turned turns.2 in
    record {
      on_empty = (first.0, rest.on_empty);
      now = rest.now;
      balanced = rest.balanced;
      within = rest.within;
      outside = λ d n. rest.outside d n ∙ turned_outside i h d engaged n;
    }

-- what holds after an element
pub record Kept (p : Plan) (past : List Element) (x : Element) (s t : Tokens) : Type 0 where
  pub one : HoldsOne p x s
  pub balanced : Balanced p (engaged_after p (x ∷ past) t) t

-- a firing is no turn of a port
turn_of_firing : (role : Role) (e : End) (i : ℕ) (t : Slot) (past : List Element) → alternates role e (Fire i t ∷ past) ≡ alternates role e past
turn_of_firing Ask e i t past = refl
turn_of_firing Serve e i t past = refl

port_of_firing : (o : Option Contact) (e : End) (i : ℕ) (t : Slot) (past : List Element) → port_engaged o e (Fire i t ∷ past) ≡ port_engaged o e past
port_of_firing None e i t past = refl
port_of_firing (Some c) e i t past = ap (by_role c.role) (turn_of_firing c.role e i t past)

-- a firing of a part that there is, by a row of it
pub fires : (p : Plan) (past : List Element) (i : ℕ) (k : Part) (t : Slot) (v : ℕ) (r : Row) (s : Tokens) → IsRight p → IsUnshared k
    → Balanced p (engaged_after p past s) s → slice_get p.parts i ≡ Some k → token_at p s (end_of i t) (way_of t) ≡ Some v
    → firing k (s.state i) t ≡ Some r
    → PutsOnEmpty p i (r.puts v) (with_state i (r.next v) (with_token p (end_of i r.takes) (way_of r.takes) None s))
    × Balanced p (engaged_after p (Fire i t ∷ past) (fired p i r v s)) (fired p i r v s)
fires p past i k t v r s right u b e lies fire = (put.on_empty, balanced_by p put.now (engaged_after p (Fire i t ∷ past) (fired p i r v s)) (fired p i r v s) same put.balanced)
  where
    keeps : (r.takes ≡ t) × RowKeeps k (s.state i) v r
    keeps = row_with (RowKeeps k (s.state i) v) t (rows k (s.state i).phase (s.state i).number) r (table k (s.state i).phase (s.state i).number v u) fire

    h : ℕ
    h = shake_of r.takes

    c : Contact
    c = keeps.1.0.0

    way : way_taken c.role ≡ way_of r.takes
    way = ap way_taken keeps.1.0.2 ∙ sym (way_to_take r.takes)

    lies_there : token_at p s (PartEnd i h) (way_taken c.role) ≡ Some v
    lies_there =
        subst (λ (w : Direction). token_at p s (PartEnd i h) w ≡ Some v) (sym way)
        (subst (λ (x : Slot). token_at p s (end_of i x) (way_of x) ≡ Some v) (sym keeps.0) lies)

    first : (engaged_after p past s (PartEnd i h) ≡ before_taking c.role)
        × Balanced p (turned_at (PartEnd i h) (engaged_after p past s)) (with_token p (PartEnd i h) (way_taken c.role) None s)
    first = taken p (engaged_after p past s) s (PartEnd i h) c v right b (contact_of p i h k c e keeps.1.0.1) lies_there

    without : Tokens
    without = with_state i (r.next v) (with_token p (PartEnd i h) (way_of r.takes) None s)

    emptied : Balanced p (turned_at (PartEnd i h) (engaged_after p past s)) without
    emptied = subst (λ (w : Direction). Balanced p (turned_at (PartEnd i h) (engaged_after p past s)) (with_token p (PartEnd i h) w None s)) way first.1

    of_part : (g : ℕ) → engaged_after p past s (PartEnd i g) ≡ is_engaged k (s.state i) g
    of_part g = rw e refl

    inner : (g : ℕ) → turned_at (PartEnd i h) (engaged_after p past s) (PartEnd i g) ≡ flipped h (is_engaged k (s.state i)) g
    inner g = turned_within i h g (engaged_after p past s) ∙ flipped_by h g (λ n. engaged_after p past s (PartEnd i n)) (is_engaged k (s.state i)) (of_part g)

    put : Put p i (turned_at (PartEnd i h) (engaged_after p past s)) (is_engaged k (r.next v)) (r.puts v) without
    put = put_all p i k (turned_at (PartEnd i h) (engaged_after p past s)) (flipped h (is_engaged k (s.state i))) (is_engaged k (r.next v)) (r.puts v) without right e emptied inner keeps.1.1

    unmoved : (d : End) → is_of i d ≡ false → put.now d ≡ engaged_after p past s d
    unmoved d n = put.outside d n ∙ turned_outside i h d (engaged_after p past s) n

    same : (d : End) → put.now d ≡ engaged_after p (Fire i t ∷ past) (fired p i r v s) d
    same (PartEnd j g) = by_test (nat_eq j i) refl
      where
        by_test : (x : Bool) → nat_eq j i ≡ x → put.now (PartEnd j g) ≡ is_engaged_at (slice_get p.parts j) ((fired p i r v s).state j) g
        by_test true y =
            let is : j ≡ i = grind (arith, y) in
            rw (fired_state p i r v s j, is, nat_eq_itself i, e) (put.within g)
        by_test false n = rw (fired_state p i r v s j, n) (unmoved (PartEnd j g) n)
    same (ImportEnd j g) = unmoved (ImportEnd j g) refl ∙ sym (port_of_firing (contact_at p (ImportEnd j g)) (ImportEnd j g) i t past)
    same (ResultEnd g) = unmoved (ResultEnd g) refl ∙ sym (port_of_firing (contact_at p (ResultEnd g)) (ResultEnd g) i t past)

-- the ports' ends
engaged_at_port : (p : Plan) (past : List Element) (s : Tokens) (e : End) → IsPortEnd e → engaged_after p past s e ≡ port_engaged (contact_at p e) e past
engaged_at_port p past s (PartEnd i h) port = absurd port
engaged_at_port p past s (ImportEnd i h) port = refl
engaged_at_port p past s (ResultEnd h) port = refl

apart_turned : (d e : End) → same_end d e ≡ false → same_end e d ≡ false
apart_turned d e n = by_test (same_end e d) refl
  where
    by_test : (b : Bool) → same_end e d ≡ b → same_end e d ≡ false
    by_test false t = t
    by_test true t =
        let y : same_end d e ≡ true = subst (λ (x : End). same_end d x ≡ true) (sym (same_is e d t)) (same_itself d) in
        absurd (grind (arith, n, y))

-- an element at another end is no turn of a port
other_turn : (role : Role) (d e : End) (v : ℕ) (past : List Element) → same_end e d ≡ false
    → (alternates role d (In e v ∷ past) ≡ alternates role d past) × (alternates role d (Out e v ∷ past) ≡ alternates role d past)
other_turn Ask d e v past n = (rw n refl, rw n refl)
other_turn Serve d e v past n = (rw n refl, rw n refl)

other_port : (o : Option Contact) (d e : End) (v : ℕ) (past : List Element) → same_end e d ≡ false
    → (port_engaged o d (In e v ∷ past) ≡ port_engaged o d past) × (port_engaged o d (Out e v ∷ past) ≡ port_engaged o d past)
other_port None d e v past n = (refl, refl)
other_port (Some c) d e v past n =
    let t = other_turn c.role d e v past n in (ap (by_role c.role) t.0, ap (by_role c.role) t.1)

-- at its own end an input is out of turn next, and an output lets one be
own_turn : (role : Role) (e : End) (v : ℕ) (past : List Element) → (alternates role e (In e v ∷ past) ≡ false) × (alternates role e (Out e v ∷ past) ≡ true)
own_turn Ask e v past = (rw (same_itself e) refl, rw (same_itself e) refl)
own_turn Serve e v past = (rw (same_itself e) refl, rw (same_itself e) refl)

in_turn : (role : Role) → by_role role true ≡ before_putting role
in_turn Ask = refl
in_turn Serve = refl

after_input : (role : Role) → not (before_putting role) ≡ by_role role false
after_input Ask = refl
after_input Serve = refl

after_output : (role : Role) → not (before_taking role) ≡ by_role role true
after_output Ask = refl
after_output Serve = refl

-- what a port's element leaves at every end
port_element : (p : Plan) (past : List Element) (x : Element) (e : End) (c : Contact) (s t : Tokens) → contact_at p e ≡ Some c → IsPortEnd e
    → ((i : ℕ) → t.state i ≡ s.state i)
    → ((d : End) → same_end e d ≡ false → (o : Option Contact) → port_engaged o d (x ∷ past) ≡ port_engaged o d past)
    → not (engaged_after p past s e) ≡ by_role c.role (alternates c.role e (x ∷ past))
    → (d : End) → turned_at e (engaged_after p past s) d ≡ engaged_after p (x ∷ past) t d
port_element p past x e c s t k port states others own d = by_test (same_end d e) refl
  where
    at_port : engaged_after p (x ∷ past) t e ≡ by_role c.role (alternates c.role e (x ∷ past))
    at_port = engaged_at_port p (x ∷ past) t e port ∙ rw k refl

    elsewhere : (d : End) → same_end e d ≡ false → engaged_after p past s d ≡ engaged_after p (x ∷ past) t d
    elsewhere (PartEnd i h) n = ap (λ (q : State). is_engaged_at (slice_get p.parts i) q h) (sym (states i))
    elsewhere (ImportEnd i h) n = sym (others (ImportEnd i h) n (contact_at p (ImportEnd i h)))
    elsewhere (ResultEnd h) n = sym (others (ResultEnd h) n (contact_at p (ResultEnd h)))

    by_test : (b : Bool) → same_end d e ≡ b → turned_at e (engaged_after p past s) d ≡ engaged_after p (x ∷ past) t d
    by_test false n = rw n (elsewhere d (apart_turned d e n))
    by_test true y = rw (same_is d e y, same_itself e) (own ∙ sym at_port)

-- an input that alternates
enters : (p : Plan) (past : List Element) (e : End) (v : ℕ) (c : Contact) (s : Tokens) → IsRight p → Balanced p (engaged_after p past s) s
    → IsPortEnd e → contact_at p e ≡ Some c → alternates c.role e past ≡ true
    → IsEmptyAt p s e × Balanced p (engaged_after p (In e v ∷ past) (with_token p e (way_put c.role) (Some v) s)) (with_token p e (way_put c.role) (Some v) s)
enters p past e v c s right b port k turn =
    let engaged : engaged_after p past s e ≡ before_putting c.role = engaged_at_port p past s e port ∙ (rw k (ap (by_role c.role) turn) ∙ in_turn c.role) in
    let put = put_well p (engaged_after p past s) s e c v right b k engaged in
    let own = ap not engaged ∙ (after_input c.role ∙ ap (by_role c.role) (sym (own_turn c.role e v past).0)) in (
      put.0,
      balanced_by p (turned_at e (engaged_after p past s)) (engaged_after p (In e v ∷ past) (with_token p e (way_put c.role) (Some v) s)) (with_token p e (way_put c.role) (Some v) s)
          (port_element p past (In e v) e c s (with_token p e (way_put c.role) (Some v) s) k port (token_state p e (way_put c.role) (Some v) s) (λ d n o. (other_port o d e v past n).0) own)
          put.1,
    )

-- an output
leaves : (p : Plan) (past : List Element) (e : End) (v : ℕ) (c : Contact) (s : Tokens) → IsRight p → Balanced p (engaged_after p past s) s
    → IsPortEnd e → contact_at p e ≡ Some c → token_at p s e (way_taken c.role) ≡ Some v
    → Balanced p (engaged_after p (Out e v ∷ past) (with_token p e (way_taken c.role) None s)) (with_token p e (way_taken c.role) None s)
leaves p past e v c s right b port k lies =
    let took = taken p (engaged_after p past s) s e c v right b k lies in
    let own = ap not took.0 ∙ (after_output c.role ∙ ap (by_role c.role) (sym (own_turn c.role e v past).1)) in
    balanced_by p (turned_at e (engaged_after p past s)) (engaged_after p (Out e v ∷ past) (with_token p e (way_taken c.role) None s)) (with_token p e (way_taken c.role) None s)
    (port_element p past (Out e v) e c s (with_token p e (way_taken c.role) None s) k port (token_state p e (way_taken c.role) None s) (λ d n o. (other_port o d e v past n).1) own)
    took.1

-- a part of the plan is none of the shared kind
unshared_at : (parts : List Part) (i : ℕ) (k : Part) → All IsUnshared parts → slice_get parts i ≡ Some k → IsUnshared k
unshared_at parts i k all e = subst IsUnshared (get_or_from_slice_get parts i k k e) (all i k (slice_get_within parts i k e))

-- each element keeps all joints balanced, and puts on empty ones
step : (p : Plan) (past : List Element) (x : Element) (s t : Tokens) → IsRight p → All IsUnshared p.parts → Balanced p (engaged_after p past s) s
    → Alternates p past x → Does p x s t → Kept p past x s t
step p past (Fire i slot) s t right unshared b turn does = of_part (slice_get p.parts i) refl
  where
    of_part : (o : Option Part) → slice_get p.parts i ≡ o → Kept p past (Fire i slot) s t
    of_part None e = absurd (grind (arith, e, does.3))
    of_part (Some k) e =
        let u = unshared_at p.parts i k unshared e in
        let go = λ (v : ℕ) (r : Row) (lies : token_at p s (end_of i slot) (way_of slot) ≡ Some v) (fire : firing_of (slice_get p.parts i) (s.state i) slot ≡ Some r).
        fires p past i k slot v r s right u b e lies (subst (λ (o : Option Part). firing_of o (s.state i) slot ≡ Some r) e fire) in
        record {
          one = λ v r lies fire. (go v r lies fire).0;
          balanced = subst (λ (u : Tokens). Balanced p (engaged_after p (Fire i slot ∷ past) u) u) (sym does.4) (go does.0 does.1 does.2 does.3).1;
        }
step p past (In e v) s t right unshared b turn does = of_contact (contact_at p e) refl
  where
    of_contact : (o : Option Contact) → contact_at p e ≡ o → Kept p past (In e v) s t
    of_contact None k = absurd (grind (arith, turn, k))
    of_contact (Some c) k =
        let passes = subst (λ (o : Option Contact). Passes p (In e v) o s t) k does.1 in
        let in_its_turn = subst (λ (o : Option Contact). IsTrue (alternates_at o e past)) k turn in
        let go = enters p past e v c s right b does.0 k in_its_turn in
        record { one = go.0; balanced = subst (λ (u : Tokens). Balanced p (engaged_after p (In e v ∷ past) u) u) (sym passes.1) go.1 }
step p past (Out e v) s t right unshared b turn does = of_contact (contact_at p e) refl
  where
    of_contact : (o : Option Contact) → contact_at p e ≡ o → Kept p past (Out e v) s t
    of_contact None k = absurd (subst (λ (o : Option Contact). Passes p (Out e v) o s t) k does.1)
    of_contact (Some c) k =
        let passes = subst (λ (o : Option Contact). Passes p (Out e v) o s t) k does.1 in
        let go = leaves p past e v c s right b does.0 k passes.0 in
        record { one = tt; balanced = subst (λ (u : Tokens). Balanced p (engaged_after p (Out e v ∷ past) u) u) (sym passes.1) go }

all_hold_one : (p : Plan) (past xs : List Element) (s : Tokens) → IsRight p → All IsUnshared p.parts → Balanced p (engaged_after p past s) s
    → InputsAlternate p past xs → AllHoldOne p xs s
all_hold_one p past [] s right unshared b turns = tt
all_hold_one p past (x ∷ xs) s right unshared b turns = λ t does.
    let kept = step p past x s t right unshared b turns.0 does in
    (kept.one, all_hold_one p (x ∷ past) xs t right unshared kept.balanced turns.1)

balanced_at_end : (p : Plan) (past xs : List Element) (s t : Tokens) → IsRight p → All IsUnshared p.parts → Balanced p (engaged_after p past s) s
    → InputsAlternate p past xs → Runs p xs s t → (engaged : End → Bool) × Balanced p engaged t
balanced_at_end p past [] s t right unshared b turns runs = (engaged_after p past s, subst (λ (u : Tokens). Balanced p (engaged_after p past s) u) (sym runs) b)
balanced_at_end p past (x ∷ xs) s t right unshared b turns runs =
    let kept = step p past x s runs.0 right unshared b turns.0 runs.1 in
    balanced_at_end p (x ∷ past) xs runs.0 t right unshared kept.balanced turns.1 runs.2

pub one_token_each : OneTokenEach
one_token_each p xs s right unshared idle turns =
    let first = balanced_at_first p s idle in (
      all_hold_one p [] xs s right unshared first turns,
      λ t runs. let last = balanced_at_end p [] xs s t right unshared first turns runs in at_most_one p last.0 t last.1,
    )
