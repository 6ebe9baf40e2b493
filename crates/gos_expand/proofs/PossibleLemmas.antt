-- The outputs of a cycle are possible and orderly, its inputs are possible, and so are firings by tokens that lie there: these
-- are orderly to their end, or an initial part of them is possible and out of order.
use Rattle.std.specs.Prelude.{Option, None, ◌&&◌}
use Rattle.std.proofs.Common.{◌≡◌, inl, inr, ◌⊎◌, ℕ, zero, suc, ◌+◌, ◌*◌, ◌^◌, ◌≤◌, ◌<◌, Bool, true, false, List, [], ◌∷◌, ◌++◌, Some, slice_get, length, refl, sym, ◌∙◌, ap, subst, arith, nat_eq, append_assoc, if◌then◌else◌}
use Rattle.gos_types.specs.declared.shakes.Role.{Role}
use Rattle.gos_types.specs.declared.shakes.Role.TheVariants.{Serve, Ask}
use Rattle.gos_netlist.specs.Nets.{Netlist}
use Rattle.gos_types.specs.Events.{Direction}
use Rattle.gos_netlist.specs.Settling.{Numbers, at}
use Rattle.gos_plan.specs.Kinds.{Contact}
use Rattle.gos_plan.specs.Firing.{Slot, Req, Ans, same_slot}
use Rattle.gos_plan.specs.Plans.{End, PartEnd, ImportEnd, ResultEnd, Plan, IsRight, contact_at, same_end}
use Rattle.gos_plan.specs.Tokens.{Tokens, Element, Fire, Out, In, IsPortEnd, places_of, same_way, with_place, with_held, held_at, token_at, with_token, bits_of, way_taken, way_put, way_of, end_of, shake_of, fired, Does, Passes, Runs}
use Rattle.gos_plan.specs.Orderly.{Open, after_taken, ComesInOrder, AllWelcome, OrderlyFrom}
use Rattle.gos_macro.specs.Gates.{slot_in}
use Rattle.gos_plan.specs.Firings.{times}
use Rattle.gos_plan.specs.Projection.{firings_of, TakesValues}
use Rattle.gos_plan.specs.Made.{PartFiring, fires_of}
use Rattle.gos_plan.proofs.JointLemmas.{same_itself}
use Rattle.gos_plan.proofs.DecidedLemmas.{order_is_decided, one_state, orderly_is_possible}
use Rattle.gos_expand.specs.Blocks.{Nets}
use Rattle.gos_expand.specs.Starts.{Laying, ports_of, port_ends, bits_taken}
use Rattle.gos_expand.specs.Facts.{Places, number_by, target, elements, bits_put, bits_out_at, bits_in_at, shown_elements, given_elements, occurs, PlanFacts}
use Rattle.gos_plan.specs.Accounts.{number, outs_at, taken_at, slot_at}
use Rattle.gos_expand.proofs.TallyLemmas.{times-append, itself}
use Rattle.gos_expand.proofs.ChainLemmas.{orderly-append, never_whole, runs-append, welcome_after, takes-append}
use Rattle.gos_expand.proofs.StandingLemmas.{Led, Now, values, lies_at}
use Rattle.gos_expand.proofs.DueLemmas.{still_there, Due, due_at_port}
use Rattle.gos_expand.proofs.ScheduleLemmas.{fires-append, firings_joined, EachFiring}
use Rattle.gos_expand.proofs.PulseLemmas.{elements-append, occurs-append, each_element, no_values, flag, shown_alone}

-- a token less leaves none that waits in vain
fewer_at : (p : Plan) (t : Tokens) (way : Direction) (f : Option End) → AllWelcome p t → AllWelcome p (with_held way f None t)
fewer_at p t way None welcome = welcome
fewer_at p t way (Some a) welcome = λ i slot c v there is lies. welcome i slot c v there is (was slot v (places_of p (end_of i slot)) lies)
  where
    was : (slot : Slot) (v : ℕ) (g : Option End) → held_at (with_place way a None t) (way_of slot) g ≡ Some v → held_at t (way_of slot) g ≡ Some v
    was slot v None e = e
    was slot v (Some b) e = by_test (same_way (way_of slot) way && same_end b a) e
      where
        by_test : (x : Bool) → (if x then None else t.in_place (way_of slot) b) ≡ Some v → t.in_place (way_of slot) b ≡ Some v
        by_test true e = absurd (cc e)
        by_test false e = e

fewer : (p : Plan) (t : Tokens) (e : End) (way : Direction) → AllWelcome p t → AllWelcome p (with_token p e way None t)
fewer p t e way welcome = fewer_at p t way (places_of p e) welcome

pub taken_port : (xs : List Element) (way : Direction) (e : End) → IsPortEnd e → taken_at way e xs ≡ outs_at e xs
taken_port xs way (PartEnd i h) port = absurd port
taken_port xs way (ImportEnd i h) port = refl
taken_port xs way (ResultEnd h) port = refl

none_shown : (e : End) (v : Numbers) (bits : End → ℕ) (nets : End → Nets) (es : List End) → occurs e es ≡ 0 → outs_at e (elements Out v bits nets es) ≡ 0
none_shown e v bits nets es none = shown_alone true e v bits nets es ∙ (ap (λ (m : ℕ). m * flag v (nets e)) none ∙ grind arith)

-- an output that is shown, after the outputs of other ends
out_step : (lay : Laying) (p : Plan) (net : Netlist) (n : Places) (rank : End → ℕ) (v regs after : Numbers) (o u : Open) (s t : Tokens) (xs : List Element) (e : End) (c : Contact)
    → Now lay p net n rank v regs after o s → OrderlyFrom p xs o s u t → ((i : ℕ) → TakesValues p i (values p n v i) xs s) → IsPortEnd e → contact_at p e ≡ Some c
    → at v (n.shows e).pulse ≡ 1 → outs_at e xs ≡ 0
    → (m : Open) × (w : Tokens) × OrderlyFrom p (Out e (number_by v (bits_out_at p e) (n.shows e)) ∷ []) u t m w
out_step lay p net n rank v regs after o u s t xs e c now list takes port there pulse none =
    let due : Due p s e c (number_by v (bits_taken (Some c)) (n.shows e)) = due_at_port lay p net n rank v regs after o s e c now port there pulse in
    let way : Direction = way_taken c.role in
    let untaken : taken_at way (target due.at_end.joint way) xs ≡ 0 = ap (λ (d : End). taken_at way d xs) (sym due.at_end.is_target) ∙ (taken_port xs way e port ∙ none) in
    let lies = still_there p n v o u s t xs due.at_end.index due.at_end.joint way now.right now.led list takes due.at_end.there untaken due.one in
    let x : ℕ = number_by v (bits_out_at p e) (n.shows e) in
    let is_x : number (s.in_place way due.at_end.joint.asking) ≡ x = due.is ∙ ap (λ (f : Option Contact). number_by v (bits_taken f) (n.shows e)) (sym there) in
    let token : token_at p t e way ≡ Some x = lies_at p t e c due.at_end ∙ (lies ∙ ap Some is_x) in
    let w : Tokens = with_token p e way None t in
    let passes : Passes p (Out e x) (contact_at p e) t w = subst (λ (f : Option Contact). Passes p (Out e x) f t w) (sym there) (token, refl) in (
      after_taken p e way u,
      w,
      (
        after_taken p e way u,
        w,
        (port, passes),
        (λ d also. let same : c ≡ d = cc (there, also) in ap (λ (y : Contact). after_taken p e (way_taken y.role) u) same),
        fewer p t e way (welcome_after p xs o u s t now.standing.welcome list),
        (refl, refl),
      ),
    )

-- an end of a port among all of them, none of which comes twice
pub record Listed (p : Plan) (e : End) (before : List End) : Type 0 where
  pub port : IsPortEnd e
  pub contact : Contact
  pub there : contact_at p e ≡ Some contact
  pub new : occurs e before ≡ 0

listed_here : (lay : Laying) (p : Plan) (n : Places) (before es : List End) (e : End) → PlanFacts lay p n → before ++ (e ∷ es) ≡ port_ends (ports_of p) → Listed p e before
listed_here lay p n before es e facts all =
    let counted : occurs e (port_ends (ports_of p)) ≡ occurs e before + suc (occurs e es) =
    ap (occurs e) (sym all) ∙ (occurs-append e before (e ∷ es) ∙ rw (same_itself e) refl) in
    let is = facts.listed e (omega (arith, counted)) in
    let once = facts.once e is.1.0 is.0 is.1.1 in
    record { port = is.0; contact = is.1.0; there = is.1.1; new = omega (arith, counted, once) }

abbrev shown_of : Plan → Places → Numbers → List End → List Element
shown_of p n v es = elements Out v (bits_out_at p) n.shows es

pub outs_go : (lay : Laying) (p : Plan) (net : Netlist) (n : Places) (rank : End → ℕ) (v regs after : Numbers) (o u : Open) (s t : Tokens) (before es : List End)
    → Now lay p net n rank v regs after o s → before ++ es ≡ port_ends (ports_of p) → OrderlyFrom p (shown_of p n v before) o s u t
    → (m : Open) × (w : Tokens) × OrderlyFrom p (shown_of p n v es) u t m w
outs_go lay p net n rank v regs after o u s t before [] now all list = (u, t, (refl, refl))
outs_go lay p net n rank v regs after o u s t before (e ∷ es) now all list =
    by_test (nat_eq (at v (n.shows e).pulse) 1) refl
    (λ m w so_far. outs_go lay p net n rank v regs after o m s w (before ++ (e ∷ [])) es now (append_assoc before (e ∷ []) es ∙ all) so_far)
  where
    is : Listed p e before
    is = listed_here lay p n before es e now.plan_facts all

    more : (m : Open) (w : Tokens) → OrderlyFrom p (shown_of p n v (e ∷ [])) u t m w → OrderlyFrom p (shown_of p n v (before ++ (e ∷ []))) o s m w
    more m w one =
        subst (λ (l : List Element). OrderlyFrom p l o s m w) (sym (elements-append Out v (bits_out_at p) n.shows before (e ∷ [])))
        (orderly-append p (shown_of p n v before) (shown_of p n v (e ∷ [])) o u m s t w list one)

    by_test : (b : Bool) → nat_eq (at v (n.shows e).pulse) 1 ≡ b
        → ((m : Open) (w : Tokens) → OrderlyFrom p (shown_of p n v (before ++ (e ∷ []))) o s m w
        → (l : Open) × (z : Tokens) × OrderlyFrom p (shown_of p n v es) m w l z)
        → (m : Open) × (w : Tokens) × OrderlyFrom p (if b then Out e (number_by v (bits_out_at p e) (n.shows e)) ∷ shown_of p n v es else shown_of p n v es) u t m w
    by_test true h go =
        let pulse : at v (n.shows e).pulse ≡ 1 = grind (arith, h) in
        let step =
        out_step lay p net n rank v regs after o u s t (shown_of p n v before) e is.contact now list (λ i. no_values true p i (values p n v i) v (bits_out_at p) n.shows before s)
        is.port is.there pulse (none_shown e v (bits_out_at p) n.shows before is.new) in
        let rest = go step.0 step.1 (more step.0 step.1 (rw h step.2)) in (
          rest.0,
          rest.1,
          orderly-append p (Out e (number_by v (bits_out_at p e) (n.shows e)) ∷ []) (shown_of p n v es) u step.0 rest.0 t step.1 rest.1 step.2 rest.2,
        )
    by_test false h go = go u t (more u t (rw h (refl, refl)))

-- what is given is possible
number_small : (v : Numbers) (w : ℕ) (nets : Nets) → (0 < w → at v nets.number < 2 ^ w) → number_by v w nets < 2 ^ w
number_small v zero nets small = omega arith
number_small v (suc w) nets small = small (omega arith)

pub ins_go : (lay : Laying) (p : Plan) (net : Netlist) (n : Places) (rank : End → ℕ) (v regs after : Numbers) (o : Open) (s t : Tokens) (before es : List End)
    → Now lay p net n rank v regs after o s → before ++ es ≡ port_ends (ports_of p) → (w : Tokens) × Runs p (elements In v (bits_in_at p) n.leaves es) t w
ins_go lay p net n rank v regs after o s t before [] now all = (t, refl)
ins_go lay p net n rank v regs after o s t before (e ∷ es) now all =
    by_test (nat_eq (at v (n.leaves e).pulse) 1) (λ w. ins_go lay p net n rank v regs after o s w (before ++ (e ∷ [])) es now (append_assoc before (e ∷ []) es ∙ all))
  where
    is : Listed p e before
    is = listed_here lay p n before es e now.plan_facts all

    x : ℕ
    x = number_by v (bits_in_at p e) (n.leaves e)

    small : x < 2 ^ bits_of is.contact (way_put is.contact.role)
    small =
        let given = now.facts.given e is.contact is.port is.there in
        subst (λ (f : Option Contact). number_by v (bits_put f) (n.leaves e) < 2 ^ bits_put (Some is.contact)) (sym is.there)
        (number_small v (bits_put (Some is.contact)) (n.leaves e) given.1)

    next : Tokens
    next = with_token p e (way_put is.contact.role) (Some x) t

    does : Does p (In e x) t next
    does = (is.port, subst (λ (f : Option Contact). Passes p (In e x) f t next) (sym is.there) (small, refl))

    by_test : (b : Bool) → ((w : Tokens) → (z : Tokens) × Runs p (elements In v (bits_in_at p) n.leaves es) w z)
        → (w : Tokens) × Runs p (if b then In e x ∷ elements In v (bits_in_at p) n.leaves es else elements In v (bits_in_at p) n.leaves es) t w
    by_test true go = let rest = go next in (rest.0, (next, does, rest.1))
    by_test false go = go t

-- a list of handshakes has one at each place within it
pub there_is : (cs : List Contact) (g : ℕ) → g < length cs → (c : Contact) × (slice_get cs g ≡ Some c)
there_is [] g lt = absurd (omega (arith, lt))
there_is (c ∷ cs) zero lt = (c, refl)
there_is (c ∷ cs) (suc g) lt = there_is cs g (omega (arith, lt))

-- the list of a cycle with these firings
abbrev pub listing : Plan → Places → Numbers → List PartFiring → List Element
listing p n v fs = shown_elements p n v ++ (given_elements p n v ++ fires_of fs)

pub listing-append : (p : Plan) (n : Places) (v : Numbers) (fs gs : List PartFiring) → listing p n v (fs ++ gs) ≡ listing p n v fs ++ fires_of gs
listing-append p n v fs gs =
    ap (λ (l : List Element). shown_elements p n v ++ (given_elements p n v ++ l)) (fires-append fs gs)
    ∙ (ap (λ (l : List Element). shown_elements p n v ++ l) (sym (append_assoc (given_elements p n v) (fires_of fs) (fires_of gs)))
    ∙ sym (append_assoc (shown_elements p n v) (given_elements p n v ++ fires_of fs) (fires_of gs)))

pub firings_listed : (p : Plan) (n : Places) (v : Numbers) (i : ℕ) (fs : List PartFiring) → firings_of i (listing p n v fs) ≡ firings_of i (fires_of fs)
firings_listed p n v i fs =
    each_element (λ (xs : List Element). firings_of i (xs ++ (given_elements p n v ++ fires_of fs)) ≡ firings_of i (fires_of fs))
    Out v (bits_out_at p) n.shows (port_ends (ports_of p))
    (each_element (λ (xs : List Element). firings_of i (xs ++ fires_of fs) ≡ firings_of i (fires_of fs))
    In v (bits_in_at p) n.leaves (port_ends (ports_of p)) refl (λ d x xs h. h)) (λ d x xs h. h)

pub slot_taken : (role : Role) (h : ℕ) → slot_at (way_taken role) h ≡ slot_in role h
slot_taken Serve h = refl
slot_taken Ask h = refl

-- a firing by a token that lies there, after others
fire_step : (p : Plan) (n : Places) (v : Numbers) (o u : Open) (s t : Tokens) (xs : List Element) (i h : ℕ) (c : Contact)
    → IsRight p → Led p o s → AllWelcome p s → OrderlyFrom p xs o s u t → ((j : ℕ) → TakesValues p j (values p n v j) xs s)
    → contact_at p (PartEnd i h) ≡ Some c → Due p s (PartEnd i h) c (values p n v i h) → times (slot_in c.role h) (firings_of i xs) ≡ 0
    → (w : Tokens) × Does p (Fire i (slot_in c.role h)) t w
    × (token_at p t (end_of i (slot_in c.role h)) (way_of (slot_in c.role h)) ≡ Some (values p n v i (shake_of (slot_in c.role h))))
fire_step p n v o u s t xs i h c right led welcome_first list takes there due none =
    let way : Direction = way_taken c.role in
    let untaken : taken_at way (target due.at_end.joint way) xs ≡ 0 =
    ap (λ (d : End). taken_at way d xs) (sym due.at_end.is_target) ∙ (ap (λ (x : Slot). times x (firings_of i xs)) (slot_taken c.role h) ∙ none) in
    let lies = still_there p n v o u s t xs due.at_end.index due.at_end.joint way right led list takes due.at_end.there untaken due.one in
    let token : token_at p t (PartEnd i h) way ≡ Some (values p n v i h) = lies_at p t (PartEnd i h) c due.at_end ∙ (lies ∙ ap Some due.is) in
    by_role c.role refl token
  where
    welcome : AllWelcome p t
    welcome = welcome_after p xs o u s t welcome_first list

    x : ℕ
    x = values p n v i h

    by_role : (role : Role) → c.role ≡ role → token_at p t (PartEnd i h) (way_taken role) ≡ Some x
        → (w : Tokens) × Does p (Fire i (slot_in role h)) t w
        × (token_at p t (end_of i (slot_in role h)) (way_of (slot_in role h)) ≡ Some (values p n v i (shake_of (slot_in role h))))
    by_role Serve e token =
        let r = welcome i (Req h) c x there (ap way_taken e) token in (fired p i r.0 x t, (x, r.0, token, r.1, refl), token)
    by_role Ask e token =
        let r = welcome i (Ans h) c x there (ap way_taken e) token in (fired p i r.0 x t, (x, r.0, token, r.1, refl), token)

-- a firing by a token that lies there, of which there is one in all
pub record Ready (p : Plan) (n : Places) (v : Numbers) (s : Tokens) (all : List PartFiring) (f : PartFiring) : Type 0 where
  pub shake : ℕ
  pub contact : Contact
  pub there : contact_at p (PartEnd f.part shake) ≡ Some contact
  pub slot : f.takes ≡ slot_in contact.role shake
  pub due : Due p s (PartEnd f.part shake) contact (values p n v f.part shake)
  pub once : times (slot_in contact.role shake) (firings_of f.part (fires_of all)) ≤ 1

-- how firings from a state end: orderly to the last of them, or out of order after some of them
pub record Went (p : Plan) (n : Places) (v : Numbers) (o : Open) (s : Tokens) (all : List PartFiring) : Type 0 where
  pub open_then : Open
  pub state_then : Tokens
  pub list : OrderlyFrom p (fires_of all) o s open_then state_then
  pub takes : (i : ℕ) → TakesValues p i (values p n v i) (fires_of all) s

pub record Failed (p : Plan) (o : Open) (s : Tokens) : Type 0 where
  pub firings : List PartFiring
  pub state_then : Tokens
  pub runs : Runs p (fires_of firings) s state_then
  pub never : (u : Open) (t : Tokens) → OrderlyFrom p (fires_of firings) o s u t → ⊥

fires_go : (p : Plan) (n : Places) (v : Numbers) (o u : Open) (s t : Tokens) (all fs gs : List PartFiring)
    → IsRight p → Led p o s → AllWelcome p s → fs ++ gs ≡ all → EachFiring (Ready p n v s all) gs → OrderlyFrom p (fires_of fs) o s u t
    → ((i : ℕ) → TakesValues p i (values p n v i) (fires_of fs) s) → Went p n v o s all ⊎ Failed p o s
fires_go p n v o u s t all fs [] right led welcome whole ready list takes =
    let same : fs ≡ all = sym (nil_right fs) ∙ whole in
    inl
    (record {
      open_then = u;
      state_then = t;
      list = subst (λ (l : List PartFiring). OrderlyFrom p (fires_of l) o s u t) same list;
      takes = subst (λ (l : List PartFiring). (i : ℕ) → TakesValues p i (values p n v i) (fires_of l) s) same takes;
    })
  where
    nil_right : (xs : List PartFiring) → xs ++ [] ≡ xs
    nil_right [] = refl
    nil_right (x ∷ xs) = ap (λ (l : List PartFiring). x ∷ l) (nil_right xs)
fires_go p n v o u s t all fs (f ∷ gs) right led welcome whole (ready, further) list takes =
    by_order (order_is_decided p (Fire f.part f.takes) u t step.0 does)
    (λ m w so_far values_so_far. fires_go p n v o m s w all (fs ++ (f ∷ [])) gs right led welcome (append_assoc fs (f ∷ []) gs ∙ whole) further so_far values_so_far)
  where
    slot : Slot
    slot = slot_in ready.contact.role ready.shake

    nat_eq_self : (m : ℕ) → nat_eq m m ≡ true
    nat_eq_self m = grind arith

    same_slot_self : same_slot f.takes slot ≡ true
    same_slot_self = ap (λ (y : Slot). same_slot y slot) ready.slot ∙ itself ready.contact.role ready.shake

    here : times slot (firings_of f.part (fires_of (f ∷ gs))) ≡ suc (times slot (firings_of f.part (fires_of gs)))
    here = rw (nat_eq_self f.part, same_slot_self) refl

    not_yet : times slot (firings_of f.part (fires_of fs)) ≡ 0
    not_yet =
        let parts : times slot (firings_of f.part (fires_of (fs ++ (f ∷ gs))))
        ≡ times slot (firings_of f.part (fires_of fs)) + times slot (firings_of f.part (fires_of (f ∷ gs))) =
        ap (times slot) (firings_joined f.part fs (f ∷ gs)) ∙ times-append slot (firings_of f.part (fires_of fs)) (firings_of f.part (fires_of (f ∷ gs))) in
        let in_all : times slot (firings_of f.part (fires_of (fs ++ (f ∷ gs)))) ≤ 1 =
        subst (λ (l : List PartFiring). times slot (firings_of f.part (fires_of l)) ≤ 1) (sym whole) ready.once in
        omega (arith, parts, here, in_all)

    step : (w : Tokens) × Does p (Fire f.part slot) t w
        × (token_at p t (end_of f.part slot) (way_of slot) ≡ Some (values p n v f.part (shake_of slot)))
    step =
        fire_step p n v o u s t (fires_of fs) f.part ready.shake ready.contact right led welcome list takes ready.there ready.due not_yet

    does : Does p (Fire f.part f.takes) t step.0
    does = subst (λ (y : Slot). Does p (Fire f.part y) t step.0) (sym ready.slot) step.1

    token : token_at p t (end_of f.part f.takes) (way_of f.takes) ≡ Some (values p n v f.part (shake_of f.takes))
    token = subst (λ (y : Slot). token_at p t (end_of f.part y) (way_of y) ≡ Some (values p n v f.part (shake_of y))) (sym ready.slot) step.2

    takes_one : (i : ℕ) → TakesValues p i (values p n v i) (Fire f.part f.takes ∷ []) t
    takes_one i = (
      λ same. subst (λ (m : ℕ). token_at p t (end_of m f.takes) (way_of f.takes) ≡ Some (values p n v m (shake_of f.takes))) same token,
      λ w also. tt,
    )

    possible : Runs p (fires_of fs) s t
    possible = orderly_is_possible p (fires_of fs) o u s t list

    pushed : fires_of fs ++ (Fire f.part f.takes ∷ []) ≡ fires_of (fs ++ (f ∷ []))
    pushed = sym (fires-append fs (f ∷ []))

    by_order : ((m : Open) × ComesInOrder p (Fire f.part f.takes) t u m × AllWelcome p step.0)
        ⊎ ((m : Open) → ComesInOrder p (Fire f.part f.takes) t u m → AllWelcome p step.0 → ⊥)
        → ((m : Open) (w : Tokens) → OrderlyFrom p (fires_of (fs ++ (f ∷ []))) o s m w
        → ((i : ℕ) → TakesValues p i (values p n v i) (fires_of (fs ++ (f ∷ []))) s) → Went p n v o s all ⊎ Failed p o s)
        → Went p n v o s all ⊎ Failed p o s
    by_order (inl (m, comes, welcome_then)) go =
        go m step.0
        (subst (λ (l : List Element). OrderlyFrom p l o s m step.0) pushed
        (orderly-append p (fires_of fs) (Fire f.part f.takes ∷ []) o u m s t step.0 list (m, step.0, does, comes, welcome_then, (refl, refl))))
        (λ i. subst (λ (l : List Element). TakesValues p i (values p n v i) l s) pushed
        (takes-append p i (values p n v i) (fires_of fs) (Fire f.part f.takes ∷ []) s t (takes i) possible (takes_one i)))
    by_order (inr fails) go =
        inr
        (record {
          firings = fs ++ (f ∷ []);
          state_then = step.0;
          runs =
              subst (λ (l : List Element). Runs p l s step.0) pushed
              (runs-append p (fires_of fs) (Fire f.part f.takes ∷ []) s t step.0 possible (step.0, does, refl));
          never =
              subst (λ (l : List Element). (m : Open) (w : Tokens) → OrderlyFrom p l o s m w → ⊥) pushed
              (never_whole p (fires_of fs) (Fire f.part f.takes ∷ []) o u s t list no_one);
        })
      where
        no_one : (m : Open) (w : Tokens) → OrderlyFrom p (Fire f.part f.takes ∷ []) u t m w → ⊥
        no_one m w (a, z, doing, comes, welcome_then, rest) =
            fails a comes (subst (λ (y : Tokens). AllWelcome p y) (one_state p (Fire f.part f.takes) t z step.0 doing does) welcome_then)

-- Firings by tokens that lie there, each once, are orderly to their end, or out of order.
pub firings_end : (p : Plan) (n : Places) (v : Numbers) (o : Open) (s : Tokens) (all : List PartFiring)
    → IsRight p → Led p o s → AllWelcome p s → EachFiring (Ready p n v s all) all → Went p n v o s all ⊎ Failed p o s
firings_end p n v o s all right led welcome ready =
    fires_go p n v o o s s all [] all right led welcome refl ready (refl, refl) (λ i. tt)
