-- Promptness: what is possible after a cycle is made in one of the four that follow; and the facts of its cycles make a run
-- lists of its plan.
--
-- A token that can be taken lies in one of three registers: of a part's gates, of its joint, or of a port's output. From the
-- first it goes to the second, or arrives at once where that is not kept; and what arrives is taken, or shown in the next cycle.
use Rattle.std.specs.Prelude.{Option, None}
use Rattle.std.proofs.Common.{◌≡◌, inl, inr, ◌⊎◌, ℕ, zero, suc, ◌+◌, ◌≤◌, ◌<◌, Bool, true, false, List, [], ◌∷◌, Some, slice_get, length, Contains, refl, sym, ◌∙◌, ap, subst, arith, nat_eq, if◌then◌else◌}
use Rattle.gos_types.specs.declared.shakes.Role.{Role}
use Rattle.gos_netlist.specs.Nets.{Netlist}
use Rattle.gos_types.specs.Events.{Direction}
use Rattle.gos_netlist.specs.Settling.{Numbers, at}
use Rattle.gos_pace.specs.Flattening.{outputs}
use Rattle.gos_plan.specs.Kinds.{Part, Contact, part_contacts}
use Rattle.gos_plan.specs.Firing.{Slot, Req, Ans, firing}
use Rattle.gos_plan.specs.Plans.{End, PartEnd, Joint, Plan, contact_at, contacts_of_part, same_end}
use Rattle.gos_plan.specs.Tokens.{Tokens, Element, Fire, Out, In, IsPortEnd, IsIdle, places_of, token_at, held_at, shake_of, way_of, way_taken, end_of, firing_of, Passes, Does}
use Rattle.gos_plan.specs.Orderly.{none_open}
use Rattle.gos_macro.specs.Gates.{slot_in}
use Rattle.gos_plan.specs.Firings.{times}
use Rattle.gos_plan.specs.Projection.{firings_of}
use Rattle.gos_plan.specs.Accounts.{count, number, taken_at}
use Rattle.gos_pace.specs.Cycles.{IsMadeSoon}
use Rattle.gos_plan.specs.Made.{PartFiring, Made, fires_of, state_after}
use Rattle.gos_pace.specs.Cycles as cycles
use Rattle.gos_plan.proofs.JointLemmas.{same_is, joined}
use Rattle.gos_plan.proofs.RowLemmas.{HasRole, role_taking}
use Rattle.gos_plan.proofs.AskingLemmas.{RoleIs, row_roles}
use Rattle.gos_expand.specs.Blocks.{Nets}
use Rattle.gos_expand.specs.Starts.{Laying, ports_of, port_ends, bits_taken}
use Rattle.gos_expand.specs.Facts.{Places, number_by, source, target, elements, bits_out_at, occurs, shown_elements, FactsMakeLists}
use Rattle.gos_expand.proofs.TallyLemmas.{counted}
use Rattle.gos_expand.proofs.StandingLemmas.{pending_at, shown_at, held_pulse, Led, Taking, taking, small_count, counts_token, lies_at}
use Rattle.gos_expand.proofs.DueLemmas.{still_there, pulse_shape, Due, due_at_port, shown_port}
use Rattle.gos_expand.proofs.ScheduleLemmas.{made_firings, slot_count}
use Rattle.gos_expand.proofs.PossibleLemmas.{taken_port}
use Rattle.gos_expand.proofs.EventLemmas.{outs_listed}
use Rattle.gos_expand.proofs.CauseLemmas.{pulses_small}
use Rattle.gos_expand.proofs.StepLemmas.{whole_list}
use Rattle.gos_expand.proofs.FollowLemmas.{OneCycle, Chain, BrokenFrom, Listed, follows, empty, at_reset}

-- a pulse that comes in at a part is a firing of the cycle
firing_made : (lay : Laying) (p : Plan) (net : Netlist) (n : Places) (rank : End → ℕ) (v regs after : Numbers) (s : Tokens) (m : Made) (i h : ℕ) (k : Part) (c : Contact)
    → OneCycle lay p net n rank v regs after s m → slice_get p.parts i ≡ Some k → slice_get (part_contacts k) h ≡ Some c → contact_at p (PartEnd i h) ≡ Some c
    → at v (n.arrives (PartEnd i h)).pulse ≡ 1 → Contains m.firings (record { part = i; takes = slot_in c.role h })
firing_made lay p net n rank v regs after s m i h k c one is own there pulse =
    let often : times (slot_in c.role h) (firings_of i (fires_of (made_firings lay p n rank v))) ≡ 1 =
    slot_count lay p n rank v i h k c is (λ g lt. pulses_small p n v (λ i k h. true) i k one.whole.comes is g lt refl) own
    ∙ (pulse_shape p n v i h c there ∙ pulse) in
    subst (λ (fs : List PartFiring). Contains fs (record { part = i; takes = slot_in c.role h })) (sym one.fired)
    (counted i (slot_in c.role h) (made_firings lay p n rank v) (omega (arith, often)))

-- an output that is shown is one of the cycle
element_there : (e : End) (v : Numbers) (bits : End → ℕ) (nets : End → Nets) (es : List End) → 0 < occurs e es → at v (nets e).pulse ≡ 1
    → Contains (elements Out v bits nets es) (Out e (number_by v (bits e) (nets e)))
element_there e v bits nets [] some pulse = absurd (omega (arith, some))
element_there e v bits nets (d ∷ ds) some pulse = by_same (same_end d e) refl some (λ more. element_there e v bits nets ds more pulse)
  where
    x : Element
    x = Out e (number_by v (bits e) (nets e))

    behind : (b : Bool) → Contains (elements Out v bits nets ds) x
        → Contains (if b then Out d (number_by v (bits d) (nets d)) ∷ elements Out v bits nets ds else elements Out v bits nets ds) x
    behind true c = let lt = c.1 in (suc c.0, omega (arith, lt), c.2)
    behind false c = c

    by_same : (b : Bool) → same_end d e ≡ b → 0 < (if b then suc (occurs e ds) else occurs e ds)
        → (0 < occurs e ds → Contains (elements Out v bits nets ds) x) → Contains (elements Out v bits nets (d ∷ ds)) x
    by_same true t more go =
        let is : d ≡ e = same_is d e t in
        let on : nat_eq (at v (nets d).pulse) 1 ≡ true = ap (λ (z : End). nat_eq (at v (nets z).pulse) 1) is ∙ ap (λ (m : ℕ). nat_eq m 1) pulse in
        rw on (0, omega arith, λ i. Out (is i) (number_by v (bits (is i)) (nets (is i))))
    by_same false t more go = behind (nat_eq (at v (nets d).pulse) 1) (go more)

out_made : (lay : Laying) (p : Plan) (net : Netlist) (n : Places) (rank : End → ℕ) (v regs after : Numbers) (s : Tokens) (m : Made) (e : End) (c : Contact) (x : ℕ) (t : Taking p e c)
    → OneCycle lay p net n rank v regs after s m → IsPortEnd e → contact_at p e ≡ Some c → s.in_place (way_taken c.role) t.joint.asking ≡ Some x
    → at v (n.shows e).pulse ≡ 1 → Contains (cycles.outs_of p (outputs net v)) (Out e x)
out_made lay p net n rank v regs after s m e c x t one port there lies pulse =
    let due : Due p s e c (number_by v (bits_taken (Some c)) (n.shows e)) = due_at_port lay p net n rank v regs after one.opened s e c one.now port there pulse in
    let once = one.now.plan_facts.once e c port there in
    let same : s.in_place (way_taken c.role) due.at_end.joint.asking ≡ Some x =
    sym (lies_at p s e c due.at_end) ∙ (lies_at p s e c t ∙ lies) in
    let is : x ≡ number_by v (bits_out_at p e) (n.shows e) =
    sym (ap number same) ∙ (due.is ∙ ap (λ (f : Option Contact). number_by v (bits_taken f) (n.shows e)) (sym there)) in
    subst (λ (l : List Element). Contains l (Out e x)) (sym one.now.facts.outs)
    (subst (λ (y : ℕ). Contains (shown_elements p n v) (Out e y)) (sym is)
    (element_there e v (bits_out_at p) n.shows (port_ends (ports_of p)) (omega (arith, once)) pulse))

-- a token that an output doesn't take yet stays
out_waits : (lay : Laying) (p : Plan) (net : Netlist) (n : Places) (rank : End → ℕ) (v regs after : Numbers) (s : Tokens) (m : Made) (e : End) (c : Contact) (x : ℕ) (t : Taking p e c)
    → OneCycle lay p net n rank v regs after s m → IsPortEnd e → contact_at p e ≡ Some c → s.in_place (way_taken c.role) t.joint.asking ≡ Some x
    → at v (n.shows e).pulse ≡ 0 → m.after.in_place (way_taken c.role) t.joint.asking ≡ Some x
out_waits lay p net n rank v regs after s m e c x t one port there lies pulse =
    let way : Direction = way_taken c.role in
    let none : taken_at way (target t.joint way) (whole_list lay p n rank v) ≡ 0 =
    ap (λ (d : End). taken_at way d (whole_list lay p n rank v)) (sym t.is_target)
    ∙ (taken_port (whole_list lay p n rank v) way e port
    ∙ ((outs_listed p n v e (made_firings lay p n rank v) (one.now.plan_facts.once e c port there)).0 ∙ ap (λ (y : ℕ). if nat_eq y 1 then 1 else 0) pulse)) in
    let stays =
    still_there p n v one.opened one.whole.open_then s one.whole.state_then (whole_list lay p n rank v) t.index t.joint way one.now.right one.now.led one.whole.list one.whole.takes t.there none
    (counts_token (s.in_place way t.joint.asking) x lies).0 in
    ap (λ (z : Tokens). z.in_place way t.joint.asking) one.leads ∙ (stays ∙ ap Some (counts_token (s.in_place way t.joint.asking) x lies).1)

-- where a token is that lies at an end, in one of the three registers
pub record Held (lay : Laying) (p : Plan) (n : Places) (regs : Numbers) (x : ℕ) (j : Joint) (way : Direction) : Type 0 where
  pub one :
      held_pulse (lay.keep x way) regs (n.arrives (target j way)) + (pending_at lay p n regs (source j way) + shown_at n regs (target j way)) ≡ 1

held_in : (lay : Laying) (p : Plan) (net : Netlist) (n : Places) (rank : End → ℕ) (v regs after : Numbers) (s : Tokens) (m : Made) (e : End) (c : Contact) (x : ℕ) (t : Taking p e c)
    → OneCycle lay p net n rank v regs after s m → s.in_place (way_taken c.role) t.joint.asking ≡ Some x
    → Held lay p n regs t.index t.joint (way_taken c.role)
held_in lay p net n rank v regs after s m e c x t one lies =
    let way : Direction = way_taken c.role in
    record {
      one = sym (one.now.standing.joints t.index t.joint way t.there).counts ∙ (counts_token (s.in_place way t.joint.asking) x lies).0;
    }

-- what lies at an end, and is not shown there, arrives there in this cycle or in the next one
abbrev ArrivesSoon : Places → Numbers → Numbers → End → Type 0
ArrivesSoon n v0 v1 e = (at v0 (n.arrives e).pulse ≡ 1) ⊎ ((at v0 (n.arrives e).pulse ≡ 0) × (at v1 (n.arrives e).pulse ≡ 1))

arrives_soon : (lay : Laying) (p : Plan) (net : Netlist) (n : Places) (rank : End → ℕ) (v0 v1 regs a0 a1 : Numbers) (s : Tokens) (m0 m1 : Made) (e : End) (c : Contact) (x : ℕ) (t : Taking p e c)
    → OneCycle lay p net n rank v0 regs a0 s m0 → OneCycle lay p net n rank v1 a0 a1 m0.after m1 → s.in_place (way_taken c.role) t.joint.asking ≡ Some x
    → shown_at n regs e ≡ 0 → at v0 (n.arrives e).pulse ≤ 1 → ArrivesSoon n v0 v1 e
arrives_soon lay p net n rank v0 v1 regs a0 a1 s m0 m1 e c x t zeroth once lies unshown small = by_keep (lay.keep t.index way) refl
  where
    way : Direction
    way = way_taken c.role

    to : Nets
    to = n.arrives (target t.joint way)

    from : Nets
    from = n.leaves (source t.joint way)

    here0 : at v0 (n.arrives e).pulse ≡ at v0 to.pulse
    here0 = ap (λ (d : End). at v0 (n.arrives d).pulse) t.is_target

    here1 : at v1 (n.arrives e).pulse ≡ at v1 to.pulse
    here1 = ap (λ (d : End). at v1 (n.arrives d).pulse) t.is_target

    none_shown : shown_at n regs (target t.joint way) ≡ 0
    none_shown = ap (shown_at n regs) (sym t.is_target) ∙ unshown

    goes : pending_at lay p n regs (source t.joint way) ≤ at v0 from.pulse
    goes = zeroth.goes t.index t.joint way t.there

    held : held_pulse (lay.keep t.index way) regs to + (pending_at lay p n regs (source t.joint way) + shown_at n regs (target t.joint way)) ≡ 1
    held = (held_in lay p net n rank v0 regs a0 s m0 e c x t zeroth lies).one

    kept : lay.keep t.index way ≡ true → (m : ℕ) → at v0 (n.arrives e).pulse ≡ m → ArrivesSoon n v0 v1 e
    kept keeps m is =
        let now = (zeroth.now.facts.joints t.index t.joint way t.there keeps).pulse in
        let next = (zeroth.now.facts.joints t.index t.joint way t.there keeps).next in
        let later = (once.now.facts.joints t.index t.joint way t.there keeps).pulse in
        let old = ap (λ (b : Bool). held_pulse b regs to) keeps in
        let new = ap (λ (b : Bool). held_pulse b a0 to) keeps in
        let counts = (once.now.standing.joints t.index t.joint way t.there).counts in
        let few = small_count (m0.after.in_place way t.joint.asking) in
        by_pulse now next later old new counts few m is
      where
        by_pulse : at v0 to.pulse ≡ at regs to.pulse → at a0 to.pulse ≡ at v0 from.pulse → at v1 to.pulse ≡ at a0 to.pulse
            → held_pulse (lay.keep t.index way) regs to ≡ at regs to.pulse → held_pulse (lay.keep t.index way) a0 to ≡ at a0 to.pulse
            → count (m0.after.in_place way t.joint.asking)
            ≡ held_pulse (lay.keep t.index way) a0 to + (pending_at lay p n a0 (source t.joint way) + shown_at n a0 (target t.joint way))
            → count (m0.after.in_place way t.joint.asking) ≤ 1
            → (m : ℕ) → at v0 (n.arrives e).pulse ≡ m → ArrivesSoon n v0 v1 e
        by_pulse now next later old new counts few zero is = inr (is, omega (arith, is, here0, here1, now, next, later, old, new, counts, few, held, none_shown, goes))
        by_pulse now next later old new counts few (suc m) is = inl (omega (arith, is, small))

    straight : lay.keep t.index way ≡ false → at v0 (n.arrives e).pulse ≡ 1
    straight passes =
        let old = ap (λ (b : Bool). held_pulse b regs to) passes in
        let same : at v0 to.pulse ≡ at v0 from.pulse = ap (λ (y : Nets). at v0 y.pulse) (zeroth.now.plan_facts.straight t.index t.joint way t.there passes) in
        omega (arith, old, same, here0, held, none_shown, goes, small)

    by_keep : (b : Bool) → lay.keep t.index way ≡ b → ArrivesSoon n v0 v1 e
    by_keep true keeps = kept keeps (at v0 (n.arrives e).pulse) refl
    by_keep false passes = inl (straight passes)

-- what arrives at a port is shown there in the next cycle, so it is a pulse or none
port_small : (lay : Laying) (p : Plan) (net : Netlist) (n : Places) (rank : End → ℕ) (v0 v1 regs a0 a1 : Numbers) (s : Tokens) (m0 m1 : Made) (e : End) (c : Contact) (t : Taking p e c)
    → OneCycle lay p net n rank v0 regs a0 s m0 → OneCycle lay p net n rank v1 a0 a1 m0.after m1 → IsPortEnd e → contact_at p e ≡ Some c
    → at v0 (n.arrives e).pulse ≤ 1
port_small lay p net n rank v0 v1 regs a0 a1 s m0 m1 e c t zeroth once port there =
    let way : Direction = way_taken c.role in
    let counts = (once.now.standing.joints t.index t.joint way t.there).counts in
    let few = small_count (m0.after.in_place way t.joint.asking) in
    let next = (zeroth.now.facts.ports e c port there).next in
    let shows = (shown_port n a0 e port).0 in
    let here : shown_at n a0 e ≡ shown_at n a0 (target t.joint way) = ap (shown_at n a0) t.is_target in
    omega (arith, counts, few, next, shows, here)

-- what is possible at the beginning of a cycle is made in it, or in one of the next two
pub record Three (lay : Laying) (p : Plan) (net : Netlist) (n : Places) (rank : End → ℕ) (v0 v1 v2 regs a0 a1 a2 : Numbers) (s : Tokens) (m0 m1 m2 : Made) : Type 0 where
  pub zeroth : OneCycle lay p net n rank v0 regs a0 s m0
  pub once : OneCycle lay p net n rank v1 a0 a1 m0.after m1
  pub twice : OneCycle lay p net n rank v2 a1 a2 m1.after m2

fire_soon : (lay : Laying) (p : Plan) (net : Netlist) (n : Places) (rank : End → ℕ) (v0 v1 v2 regs a0 a1 a2 : Numbers) (s after : Tokens) (m0 m1 m2 : Made) (vs : List Numbers) (ms : List Made) (i : ℕ) (t : Slot)
    → Three lay p net n rank v0 v1 v2 regs a0 a1 a2 s m0 m1 m2 → Does p (Fire i t) s after
    → IsMadeSoon p net (v0 ∷ (v1 ∷ (v2 ∷ vs))) (m0 ∷ (m1 ∷ (m2 ∷ ms))) 0 (Fire i t)
fire_soon lay p net n rank v0 v1 v2 regs a0 a1 a2 s after m0 m1 m2 vs ms i t three (x, r, lies, fires, leads) = by_part (slice_get p.parts i) refl
  where
    Soon : Type 0
    Soon = IsMadeSoon p net (v0 ∷ (v1 ∷ (v2 ∷ vs))) (m0 ∷ (m1 ∷ (m2 ∷ ms))) 0 (Fire i t)

    by_held : (k : Part) (h : ℕ) (c : Contact) → slice_get p.parts i ≡ Some k → slice_get (part_contacts k) h ≡ Some c → contact_at p (PartEnd i h) ≡ Some c
        → slot_in c.role h ≡ t → ArrivesSoon n v0 v1 (PartEnd i h) → Soon
    by_held k h c is own there slot (inl pulse) = (
      0,
      m0,
      omega arith,
      omega arith,
      refl,
      subst (λ (y : Slot). Contains m0.firings (record { part = i; takes = y })) slot (firing_made lay p net n rank v0 regs a0 s m0 i h k c three.zeroth is own there pulse),
    )
    by_held k h c is own there slot (inr (none, pulse)) = (
      1,
      m1,
      omega arith,
      omega arith,
      refl,
      subst (λ (y : Slot). Contains m1.firings (record { part = i; takes = y })) slot (firing_made lay p net n rank v1 a0 a1 m0.after m1 i h k c three.once is own there pulse),
    )

    by_place : (k : Part) (h : ℕ) (c : Contact) → slice_get p.parts i ≡ Some k → slice_get (part_contacts k) h ≡ Some c → contact_at p (PartEnd i h) ≡ Some c
        → slot_in c.role h ≡ t → token_at p s (PartEnd i h) (way_taken c.role) ≡ Some x → (f : Option End) → places_of p (PartEnd i h) ≡ f → Soon
    by_place k h c is own there slot token None none = let no : None ≡ Some x = sym (ap (held_at s (way_taken c.role)) none) ∙ token in absurd (cc no)
    by_place k h c is own there slot token (Some a) place =
        let g : Taking p (PartEnd i h) c = taking p (PartEnd i h) a c three.zeroth.now.right there place in
        let here : s.in_place (way_taken c.role) g.joint.asking ≡ Some x = sym (lies_at p s (PartEnd i h) c g) ∙ token in
        by_held k h c is own there slot
        (arrives_soon lay p net n rank v0 v1 regs a0 a1 s m0 m1 (PartEnd i h) c x g three.zeroth three.once here refl (three.zeroth.whole.comes i h k c is there refl).small)

    by_slot : (k : Part) (y : Slot) → y ≡ t → slice_get p.parts i ≡ Some k → HasRole k (shake_of y) (role_taking y) → token_at p s (end_of i y) (way_of y) ≡ Some x → Soon
    by_slot k (Req h) e is (c, own, role) token =
        let there : contact_at p (PartEnd i h) ≡ Some c = subst (λ (f : Option Part). slice_get (contacts_of_part f) h ≡ Some c) (sym is) own in
        by_place k h c is own there (ap (λ (z : Role). slot_in z h) role ∙ e)
        (subst (λ (z : Role). token_at p s (PartEnd i h) (way_taken z) ≡ Some x) (sym role) token) (places_of p (PartEnd i h)) refl
    by_slot k (Ans h) e is (c, own, role) token =
        let there : contact_at p (PartEnd i h) ≡ Some c = subst (λ (f : Option Part). slice_get (contacts_of_part f) h ≡ Some c) (sym is) own in
        by_place k h c is own there (ap (λ (z : Role). slot_in z h) role ∙ e)
        (subst (λ (z : Role). token_at p s (PartEnd i h) (way_taken z) ≡ Some x) (sym role) token) (places_of p (PartEnd i h)) refl

    -- the token lies in a place, so the end stands in a joint, and has a handshake
    by_joint : (k : Part) → slice_get p.parts i ≡ Some k → RoleIs k (shake_of t) (role_taking t) → (f : Option End) → places_of p (end_of i t) ≡ f
        → HasRole k (shake_of t) (role_taking t)
    by_joint k is role None none = let no : None ≡ Some x = sym (ap (held_at s (way_of t)) none) ∙ lies in absurd (cc no)
    by_joint k is role (Some a) place =
        let at_end = joined p (end_of i t) a three.zeroth.now.right place in
        let own : slice_get (part_contacts k) (shake_of t) ≡ Some at_end.here =
        subst (λ (f : Option Part). slice_get (contacts_of_part f) (shake_of t) ≡ Some at_end.here) is at_end.is_here in
        (at_end.here, own, role at_end.here own)

    by_part : (f : Option Part) → slice_get p.parts i ≡ f → Soon
    by_part None none = absurd (grind (arith, none, fires))
    by_part (Some k) is =
        let row : firing k (s.state i) t ≡ Some r = subst (λ (f : Option Part). firing_of f (s.state i) t ≡ Some r) is fires in
        let roles = row_roles k (s.state i) t r x row in
        let role : RoleIs k (shake_of t) (role_taking t) = subst (λ (y : Slot). RoleIs k (shake_of y) (role_taking y)) roles.0 roles.1.0 in
        by_slot k t refl is (by_joint k is role (places_of p (end_of i t)) refl) lies

out_soon : (lay : Laying) (p : Plan) (net : Netlist) (n : Places) (rank : End → ℕ) (v0 v1 v2 regs a0 a1 a2 : Numbers) (s after : Tokens) (m0 m1 m2 : Made) (vs : List Numbers) (ms : List Made) (e : End) (x : ℕ)
    → Three lay p net n rank v0 v1 v2 regs a0 a1 a2 s m0 m1 m2 → Does p (Out e x) s after
    → IsMadeSoon p net (v0 ∷ (v1 ∷ (v2 ∷ vs))) (m0 ∷ (m1 ∷ (m2 ∷ ms))) 0 (Out e x)
out_soon lay p net n rank v0 v1 v2 regs a0 a1 a2 s after m0 m1 m2 vs ms e x three (port, passes) = by_contact (contact_at p e) refl
  where
    Soon : Type 0
    Soon = IsMadeSoon p net (v0 ∷ (v1 ∷ (v2 ∷ vs))) (m0 ∷ (m1 ∷ (m2 ∷ ms))) 0 (Out e x)

    by_held : (c : Contact) → contact_at p e ≡ Some c → (g : Taking p e c) → s.in_place (way_taken c.role) g.joint.asking ≡ Some x
        → (q : ℕ) → at regs (n.shows e).pulse ≡ q → Soon
    by_held c there g lies (suc q) shown =
        let one = (held_in lay p net n rank v0 regs a0 s m0 e c x g three.zeroth lies).one in
        let is : shown_at n regs (target g.joint (way_taken c.role)) ≡ at regs (n.shows e).pulse =
        ap (shown_at n regs) (sym g.is_target) ∙ (shown_port n regs e port).0 in
        let pulse : at v0 (n.shows e).pulse ≡ 1 = (three.zeroth.now.facts.ports e c port there).pulse ∙ omega (arith, one, is, shown) in
        (0, v0, omega arith, omega arith, refl, out_made lay p net n rank v0 regs a0 s m0 e c x g three.zeroth port there lies pulse)
    by_held c there g lies zero shown =
        by_arrival
        (arrives_soon lay p net n rank v0 v1 regs a0 a1 s m0 m1 e c x g three.zeroth three.once lies ((shown_port n regs e port).0 ∙ shown)
        (port_small lay p net n rank v0 v1 regs a0 a1 s m0 m1 e c g three.zeroth three.once port there))
      where
        now : at v0 (n.shows e).pulse ≡ 0
        now = (three.zeroth.now.facts.ports e c port there).pulse ∙ shown

        next : m0.after.in_place (way_taken c.role) g.joint.asking ≡ Some x
        next = out_waits lay p net n rank v0 regs a0 s m0 e c x g three.zeroth port there lies now

        shown_then : at v1 (n.shows e).pulse ≡ at v0 (n.arrives e).pulse
        shown_then = (three.once.now.facts.ports e c port there).pulse ∙ (three.zeroth.now.facts.ports e c port there).next

        by_arrival : ArrivesSoon n v0 v1 e → Soon
        by_arrival (inl pulse) =
            (1, v1, omega arith, omega arith, refl, out_made lay p net n rank v1 a0 a1 m0.after m1 e c x g three.once port there next (shown_then ∙ pulse))
        by_arrival (inr (none, pulse)) =
            let last = out_waits lay p net n rank v1 a0 a1 m0.after m1 e c x g three.once port there next (shown_then ∙ none) in
            let shows : at v2 (n.shows e).pulse ≡ 1 =
            (three.twice.now.facts.ports e c port there).pulse ∙ ((three.once.now.facts.ports e c port there).next ∙ pulse) in
            (2, v2, omega arith, omega arith, refl, out_made lay p net n rank v2 a1 a2 m1.after m2 e c x g three.twice port there last shows)

    by_place : (c : Contact) → contact_at p e ≡ Some c → token_at p s e (way_taken c.role) ≡ Some x → (f : Option End) → places_of p e ≡ f → Soon
    by_place c there token None none = let no : None ≡ Some x = sym (ap (held_at s (way_taken c.role)) none) ∙ token in absurd (cc no)
    by_place c there token (Some a) place =
        let g : Taking p e c = taking p e a c three.zeroth.now.right there place in
        by_held c there g (sym (lies_at p s e c g) ∙ token) (at regs (n.shows e).pulse) refl

    by_contact : (f : Option Contact) → contact_at p e ≡ f → Soon
    by_contact None none = absurd (subst (λ (f : Option Contact). Passes p (Out e x) f s after) none passes)
    by_contact (Some c) there =
        by_place c there (subst (λ (f : Option Contact). Passes p (Out e x) f s after) there passes).0 (places_of p e) refl

soon : (lay : Laying) (p : Plan) (net : Netlist) (n : Places) (rank : End → ℕ) (v0 v1 v2 regs a0 a1 a2 : Numbers) (s after : Tokens) (m0 m1 m2 : Made) (vs : List Numbers) (ms : List Made) (x : Element)
    → Three lay p net n rank v0 v1 v2 regs a0 a1 a2 s m0 m1 m2 → Does p x s after
    → IsMadeSoon p net (v0 ∷ (v1 ∷ (v2 ∷ vs))) (m0 ∷ (m1 ∷ (m2 ∷ ms))) 0 x
soon lay p net n rank v0 v1 v2 regs a0 a1 a2 s after m0 m1 m2 vs ms (Fire i t) three does = fire_soon lay p net n rank v0 v1 v2 regs a0 a1 a2 s after m0 m1 m2 vs ms i t three does
soon lay p net n rank v0 v1 v2 regs a0 a1 a2 s after m0 m1 m2 vs ms (Out e x) three does = out_soon lay p net n rank v0 v1 v2 regs a0 a1 a2 s after m0 m1 m2 vs ms e x three does
soon lay p net n rank v0 v1 v2 regs a0 a1 a2 s after m0 m1 m2 vs ms (In e x) three does = tt

later : (p : Plan) (net : Netlist) (v : Numbers) (vs : List Numbers) (m : Made) (ms : List Made) (t : ℕ) (x : Element)
    → IsMadeSoon p net vs ms t x → IsMadeSoon p net (v ∷ vs) (m ∷ ms) (suc t) x
later p net v vs m ms t (Fire i k) (j, made, from, to, there, has) = (suc j, made, omega (arith, from), omega (arith, to), there, has)
later p net v vs m ms t (Out e n) (j, made, from, to, there, has) = (suc j, made, omega (arith, from), omega (arith, to), there, has)
later p net v vs m ms t (In e n) made = tt

pub prompt : (lay : Laying) (p : Plan) (net : Netlist) (n : Places) (rank : End → ℕ) (vs : List Numbers) (regs : Numbers) (s : Tokens) (ms : List Made) (t : ℕ) (x : Element) (after : Tokens)
    → Chain lay p net n rank vs regs s ms → t + 3 < length ms → Does p x (state_after s ms t) after → IsMadeSoon p net vs ms t x
prompt lay p net n rank vs regs s [] t x after chain few does = absurd (omega (arith, few))
prompt lay p net n rank [] regs s (m ∷ ms) t x after chain few does = absurd chain
prompt lay p net n rank (v ∷ vs) regs s (m ∷ ms) (suc t) x after chain few does =
    later p net v vs m ms t x (prompt lay p net n rank vs chain.0 m.after ms t x after chain.2 (omega (arith, few)) does)
prompt lay p net n rank (v ∷ vs) regs s (m ∷ []) zero x after chain few does = absurd (omega (arith, few))
prompt lay p net n rank (v ∷ []) regs s (m ∷ (m1 ∷ ms)) zero x after chain few does = absurd chain.2
prompt lay p net n rank (v ∷ (v1 ∷ vs)) regs s (m ∷ (m1 ∷ [])) zero x after chain few does = absurd (omega (arith, few))
prompt lay p net n rank (v ∷ (v1 ∷ [])) regs s (m ∷ (m1 ∷ (m2 ∷ ms))) zero x after chain few does = absurd chain.2.2
prompt lay p net n rank (v ∷ (v1 ∷ (v2 ∷ vs))) regs s (m ∷ (m1 ∷ (m2 ∷ ms))) zero x after chain few does =
    soon lay p net n rank v v1 v2 regs chain.0 chain.2.0 chain.2.2.0 s after m m1 m2 vs ms x (record { zeroth = chain.1; once = chain.2.1; twice = chain.2.2.1 }) does

-- the theorem
pub facts_make_lists : FactsMakeLists
facts_make_lists lay p net n rank regs vs right parts plan rises zero_all follow =
    let idle : IsIdle p empty = ((λ way e. refl), λ i. refl) in
    let led : Led p none_open empty = record { past = []; first = empty; idle = idle; list = (refl, refl) } in
    let all : Listed lay p net n rank regs vs none_open empty =
    follows lay p net n rank regs vs none_open empty rises right parts plan led (at_reset lay p n rank regs parts zero_all) follow in (
      empty,
      all.cycles,
      idle,
      all.made,
      (λ t x after few does. prompt lay p net n rank vs regs empty all.cycles t x after all.chain few does),
      by_end all.cycles all.ends,
    )
  where
    by_end : (ms : List Made) → (length ms ≡ length vs) ⊎ BrokenFrom p net vs none_open empty ms → (length ms ≡ length vs) ⊎ cycles.IsBroken p net vs empty ms
    by_end ms (inl as_many) = inl as_many
    by_end ms (inr (v, fs, t, there, runs, never)) = inr (v, fs, t, there, runs, λ order. never order.0 order.1 order.2)
