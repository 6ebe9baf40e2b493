-- While a handshake of the source is open, the branch of a buffer is that of its caller. So each firing is for that caller.
use Rattle.std.specs.Prelude.{◌⊎◌, ◌+◌, ◌-◌, ◌*◌, ◌<◌, None, nat_eq, slice_get}
use Rattle.std.proofs.Common.{◌≡◌, ℕ, zero, suc, Bool, true, false, List, [], ◌∷◌, Option, Some, inl, inr, refl, sym, ◌∙◌, ap, subst, arith, if◌then◌else◌}
use Rattle.gos_types.specs.Types.{Type'}
use Rattle.gos_types.specs.declared.shakes.Role.TheVariants.{Serve, Ask}
use Rattle.gos_types.specs.Events.{Direction, Request, Answer}
use Rattle.gos_types.proofs.RoleLemmas.{request_is_not_answer}
use Rattle.gos_realises.specs.realises.Regular.{count}
use Rattle.gos_plan.specs.Kinds.{Contact, serves, Part, Share, part_contacts}
use Rattle.gos_plan.specs.Plans.{End, PartEnd, Plan, contact_at, same_end, IsRight}
use Rattle.gos_plan.specs.Firing.{Rest, State, at, Slot, Req, Ans, Token, put}
use Rattle.gos_plan.specs.Tokens.{Tokens, Element, Fire, Out, In, places_of, held_at, token_at, end_of, way_of, shake_of, way_taken, way_put, firing_of, Passes, Does, IsIdle}
use Rattle.gos_plan.specs.Orderly.{Open, none_open, named_by, handshake_at, after_taken, after_put, after_puts, ComesInOrder, OrderlyFrom}
use Rattle.gos_plan.proofs.JointLemmas.{IsIn, same_is, found, joined}
use Rattle.gos_plan.proofs.HeldLemmas.{AllFit, step}
use Rattle.gos_plan.proofs.RowLemmas.{role_taking}
use Rattle.gos_plan.proofs.AskingLemmas.{RoleIs, PutsInRole, row_roles}
use Rattle.gos_plan.proofs.TurnLemmas.{token_state, fired_state}
use Rattle.gos_plan.proofs.DecidedLemmas.{one_state}
use Rattle.gos_plan.proofs.ContactLemmas.{part_contact}
use Rattle.gos_joining.specs.webs.Webs.{joint}
use Rattle.gos_joining.specs.webs.Cutting.{StandsIn}
use Rattle.gos_joining.proofs.webs.MovedLemmas.{listed}
use Rattle.gos_sharing.specs.sharing.Sharing.{source_end, caller_end, IsOfPart, IsSeenThrough, passed_on, IsForCaller, WorksFor}
use Rattle.gos_sharing.proofs.sharing.SeenPlaceLemmas.{to_caller}
use Rattle.gos_sharing.proofs.sharing.SeenTokenLemmas.{of_part}
use Rattle.gos_sharing.proofs.sharing.SeenFireLemmas.{port_outside}
use Rattle.gos_sharing.proofs.sharing.ShareRowLemmas.{served_there, asked_there, Pair, Passed, IsRequestPassed, IsAnswerPassed, share_passes}
use Rattle.gos_sharing.proofs.sharing.SeenKeptLemmas.{Side, side, PutsSo, fit_none, not_both_so, still_open}
use Rattle.gos_sharing.proofs.sharing.SeenElementLemmas.{puts_so, one_contact}
use Rattle.gos_sharing.proofs.sharing.SeenRunLemmas.{name_of}
use Rattle.gos_sharing.specs.buffers.Buffers.{IsBuffer, WorksForOne, BuffersAreLoyal}
use Rattle.gos_sharing.proofs.buffers.GroundLemmas.{OfCaller, source_asks, callers_serve, next_rests}

-- while a handshake of the source is open, the branch is caller c's, whose handshake is joined
abbrev pub Branch : ℕ → Type' → ℕ → Plan → Open → Tokens → Type 0
Branch i t c r o s =
    (j : ℕ) → j < count t → o (source_end i j) ≡ true → ((s.state i).number ≡ c) × ((a : End) × IsIn (joint a (caller_end i t c j)) r.joints)

-- who puts a request at an end names the handshake
pub named_itself : (r : Plan) (e : End) → IsRight r → PutsSo r e Request → handshake_at r e ≡ e
named_itself r e right puts = by_place (places_of r e) refl
  where
    by_side : (d : End) → Side r e d → d ≡ e
    by_side d (inl g) = g.0
    by_side d (inr g) = absurd (request_is_not_answer (sym (puts (serves g.1.0 g.1.1) g.1.2)))

    by_place : (p : Option End) → places_of r e ≡ p → named_by p e ≡ e
    by_place None h = refl
    by_place (Some d) h = by_side d (side r e d right h)

pub open_before_put : (r : Plan) (i j : ℕ) (e : End) (way : Direction) (o : Open) → IsRight r → (IsOfPart i e → ⊥) → PutsSo r e way
    → after_put r e way o (PartEnd i j) ≡ true → o (PartEnd i j) ≡ true
open_before_put r i j e Request o right apart puts up = by_test (same_end (PartEnd i j) (handshake_at r e)) refl up
  where
    by_test : (b : Bool) → same_end (PartEnd i j) (handshake_at r e) ≡ b → (if b then true else o (PartEnd i j)) ≡ true → o (PartEnd i j) ≡ true
    by_test true h k = absurd (apart (of_part i j e (sym (same_is (PartEnd i j) (handshake_at r e) h ∙ named_itself r e right puts))))
    by_test false h k = k
open_before_put r i j e Answer o right apart puts up = up

pub open_before_taken : (r : Plan) (d e : End) (way : Direction) (o : Open) → after_taken r e way o d ≡ true → o d ≡ true
open_before_taken r d e Request o up = up
open_before_taken r d e Answer o up = (still_open (handshake_at r e) d (same_end d (handshake_at r e)) (o d) refl up).1

open_before_puts : (r : Plan) (i j k : ℕ) (p : Part) → IsRight r → (k ≡ i → ⊥) → slice_get r.parts k ≡ Some p → (xs : List Token) (o : Open)
    → PutsInRole p xs → after_puts r k xs o (PartEnd i j) ≡ true → o (PartEnd i j) ≡ true
open_before_puts r i j k p right apart at_k [] o roles up = up
open_before_puts r i j k p right apart at_k (x ∷ xs) o roles up =
    open_before_put r i j (end_of k x.slot) (way_of x.slot) o right apart (puts_so r k p x.slot at_k roles.0)
    (open_before_puts r i j k p right apart at_k xs (after_put r (end_of k x.slot) (way_of x.slot) o) roles.1 up)

-- an element other than the Share's opens none of its handshakes, and leaves its state
abbrev pub Leaves : ℕ → Open → Open → Tokens → Tokens → Type 0
Leaves i o m s u = ((j : ℕ) → m (PartEnd i j) ≡ true → o (PartEnd i j) ≡ true) × (u.state i ≡ s.state i)

pub fire_leaves : (r : Plan) (i k : ℕ) (slot : Slot) (o m : Open) (s u : Tokens) → IsRight r → (k ≡ i → ⊥)
    → Does r (Fire k slot) s u → ComesInOrder r (Fire k slot) s o m → Leaves i o m s u
fire_leaves r i k slot o m s u right apart (v, row, lies, by, leads) comes = (opened (slice_get r.parts k) refl, stays)
  where
    opens : m ≡ after_puts r k (row.puts v) (after_taken r (end_of k slot) (way_of slot) o)
    opens = (comes v row lies by).1

    opened : (f : Option Part) → slice_get r.parts k ≡ f → (j : ℕ) → m (PartEnd i j) ≡ true → o (PartEnd i j) ≡ true
    opened None h j up = let no : None ≡ Some row = ap (λ f. firing_of f (s.state k) slot) (sym h) ∙ by in absurd (cc no)
    opened (Some p) h j up =
        let roles = row_roles p (s.state k) slot row v (ap (λ f. firing_of f (s.state k) slot) (sym h) ∙ by) in
        open_before_taken r (PartEnd i j) (end_of k slot) (way_of slot) o
        (open_before_puts r i j k p right apart h (row.puts v) (after_taken r (end_of k slot) (way_of slot) o) roles.1.1
        (subst (λ (w : Open). w (PartEnd i j) ≡ true) opens up))

    stays : u.state i ≡ s.state i
    stays = ap (λ (w : Tokens). w.state i) leads ∙ (fired_state r k row v s i ∙ other (nat_eq i k) refl)
      where
        other : (b : Bool) → nat_eq i k ≡ b → (if b then row.next v else s.state i) ≡ s.state i
        other true h = absurd (apart (grind (arith, h)))
        other false h = refl

pub out_leaves : (r : Plan) (i : ℕ) (e : End) (v : ℕ) (o m : Open) (s u : Tokens) → Does r (Out e v) s u → ComesInOrder r (Out e v) s o m → Leaves i o m s u
out_leaves r i e v o m s u does comes = with_contact (contact_at r e) refl
  where
    with_contact : (f : Option Contact) → contact_at r e ≡ f → Leaves i o m s u
    with_contact None h = absurd (subst (λ (f : Option Contact). Passes r (Out e v) f s u) h does.1)
    with_contact (Some k) h =
        let passes = subst (λ (f : Option Contact). Passes r (Out e v) f s u) h does.1 in (
          (λ j up. open_before_taken r (PartEnd i j) e (way_taken k.role) o (subst (λ (w : Open). w (PartEnd i j) ≡ true) (comes k h) up)),
          ap (λ (w : Tokens). w.state i) passes.1 ∙ token_state r e (way_taken k.role) None s i,
        )

pub in_leaves : (r : Plan) (i : ℕ) (e : End) (v : ℕ) (o m : Open) (s u : Tokens) → IsRight r → Does r (In e v) s u → ComesInOrder r (In e v) s o m → Leaves i o m s u
in_leaves r i e v o m s u right does comes = with_contact (contact_at r e) refl
  where
    with_contact : (f : Option Contact) → contact_at r e ≡ f → Leaves i o m s u
    with_contact None h = absurd (subst (λ (f : Option Contact). Passes r (In e v) f s u) h does.1)
    with_contact (Some k) h =
        let passes = subst (λ (f : Option Contact). Passes r (In e v) f s u) h does.1 in
        let so : PutsSo r e (way_put k.role) = λ d there. ap (λ (x : Contact). way_put x.role) (one_contact r e k d h there) in (
          (λ j up. open_before_put r i j e (way_put k.role) o right (port_outside i e does.0) so (subst (λ (w : Open). w (PartEnd i j) ≡ true) (comes k h).1 up)),
          ap (λ (w : Tokens). w.state i) passes.1 ∙ token_state r e (way_put k.role) (Some v) s i,
        )

-- so what is known of the branch stays
pub branch_left : (i : ℕ) (t : Type') (c : ℕ) (r : Plan) (o m : Open) (s u : Tokens) → Leaves i o m s u → Branch i t c r o s → Branch i t c r m u
branch_left i t c r o m s u leaves branch j lt up =
    let old = branch j lt (leaves.0 j up) in (ap (λ (x : State). x.number) leaves.1 ∙ old.0, old.1)

-- a token that the Share may take is for caller c
pub one_of_two : (c b : ℕ) → c < 2 → b < 2 → (b ≡ c) ⊎ (b ≡ 1 - c)
one_of_two zero zero h k = inl refl
one_of_two zero (suc zero) h k = inr refl
one_of_two (suc zero) zero h k = inr refl
one_of_two (suc zero) (suc zero) h k = inl refl
one_of_two (suc (suc c)) b h k = absurd (omega (arith, h))
one_of_two c (suc (suc b)) h k = absurd (omega (arith, k))

pub place_stands : (r : Plan) (e a : End) → places_of r e ≡ Some a → StandsIn r e
place_stands r e a there =
    let f = found r.joints e a there in
    let t = f.stands in
    (f.joint, listed r.joints f.joint f.is_in, grind (arith, t))

-- the number of a joined handshake of the Share, by its role
joined_contact : (i : ℕ) (t : Type') (c : ℕ) (r q : Plan) → IsSeenThrough i t c r q → (h : ℕ) (d : End) → places_of r (PartEnd i h) ≡ Some d
    → (k : Contact) × (slice_get (part_contacts (Share t)) h ≡ Some k)
joined_contact i t c r q is h d there =
    let at = joined r (PartEnd i h) d is.right there in (at.here, sym (part_contact r i h (Share t) is.share) ∙ at.is_here)

pub caller_shake : (i : ℕ) (t : Type') (c : ℕ) (r q : Plan) → IsBuffer i t c r q → (h : ℕ) (d : End) → RoleIs (Share t) h Serve → places_of r (PartEnd i h) ≡ Some d → OfCaller t h
caller_shake i t c r q is h d role there =
    let at = joined_contact i t c r q is.seen h d there in callers_serve t h at.0 is.ground at.1 (role at.0 at.1)

pub source_shake : (i : ℕ) (t : Type') (c : ℕ) (r q : Plan) → IsBuffer i t c r q → (h : ℕ) (d : End) → RoleIs (Share t) h Ask → places_of r (PartEnd i h) ≡ Some d → h < count t
source_shake i t c r q is h d role there =
    let at = joined_contact i t c r q is.seen h d there in source_asks t h at.0 is.ground at.1 (role at.0 at.1)

pub for_one : (i : ℕ) (t : Type') (c : ℕ) (r q : Plan) → IsBuffer i t c r q → (slot : Slot) (o : Open) (s u : Tokens)
    → AllFit o s → Branch i t c r o s → Does r (Fire i slot) s u → IsForCaller t c (s.state i).number (shake_of slot)
for_one i t c r q is slot o s u fit branch (v, row, lies, by, leads) = by_place (places_of r (end_of i slot)) refl
  where
    role : RoleIs (Share t) (shake_of slot) (role_taking slot)
    role =
        let roles = row_roles (Share t) (s.state i) slot row v (ap (λ x. firing_of x (s.state i) slot) (sym is.seen.share) ∙ by) in
        subst (λ (x : Slot). RoleIs (Share t) (shake_of x) (role_taking x)) roles.0 roles.1.0

    of_caller : (h : ℕ) (d : End) → places_of r (PartEnd i h) ≡ Some d → OfCaller t h → IsForCaller t c (s.state i).number h
    of_caller h d there (b, j, two, lt, same) = choose (one_of_two c b is.seen.caller two)
      where
        choose : (b ≡ c) ⊎ (b ≡ 1 - c) → IsForCaller t c (s.state i).number h
        choose (inl own) =
            let here : h ≡ count t + c * count t + j = same ∙ ap (λ x. count t + x * count t + j) own in
            inl (omega (arith, here, lt), omega (arith, here, lt))
        choose (inr other) =
            let here : h ≡ count t + (1 - c) * count t + j = same ∙ ap (λ x. count t + x * count t + j) other in
            absurd (is.alone j lt (subst (λ (n : ℕ). StandsIn r (PartEnd i n)) here (place_stands r (PartEnd i h) d there)))

    of_slot : (x : Slot) → RoleIs (Share t) (shake_of x) (role_taking x) → (d : End) → places_of r (end_of i x) ≡ Some d → s.in_place (way_of x) d ≡ Some v
        → IsForCaller t c (s.state i).number (shake_of x)
    of_slot (Req h) at_role d placed here = of_caller h d placed (caller_shake i t c r q is h d at_role placed)
    of_slot (Ans h) at_role d placed here = inr (lt, (branch h lt (is_open (o (PartEnd i h)) refl lying)).0)
      where
        lt : h < count t
        lt = source_shake i t c r q is h d at_role placed

        lying : s.in_place Answer (PartEnd i h) ≡ Some v
        lying = ap (s.in_place Answer) (sym (asked_there r i h (Share t) d is.seen.right is.seen.share at_role placed)) ∙ here

        is_open : (b : Bool) → o (PartEnd i h) ≡ b → s.in_place Answer (PartEnd i h) ≡ Some v → o (PartEnd i h) ≡ true
        is_open true y k = y
        is_open false y k = absurd (not_both_so v (s.in_place Answer (PartEnd i h)) (fit_none o s fit (PartEnd i h) y Answer) k)

    by_place : (p : Option End) → places_of r (end_of i slot) ≡ p → IsForCaller t c (s.state i).number (shake_of slot)
    by_place None h = absurd (not_both_so v (token_at r s (end_of i slot) (way_of slot)) (ap (held_at s (way_of slot)) h) lies)
    by_place (Some d) h = of_slot slot role d h (sym (ap (held_at s (way_of slot)) h) ∙ lies)

-- The Share's own firing leaves the branch at c.
pub share_leaves : (i : ℕ) (t : Type') (c : ℕ) (r q : Plan) → IsBuffer i t c r q → (slot : Slot) (s u : Tokens)
    → IsForCaller t c (s.state i).number (shake_of slot) → Does r (Fire i slot) s u → u.state i ≡ at Rest c
share_leaves i t c r q is slot s u for (v, row, lies, by, leads) =
    ap (λ (w : Tokens). w.state i) leads
    ∙ (fired_state r i row v s i ∙ (own ∙ next_rests t c is.seen.caller (s.state i) slot row v (ap (λ x. firing_of x (s.state i) slot) (sym is.seen.share) ∙ by) for))
  where
    own : (if nat_eq i i then row.next v else s.state i) ≡ row.next v
    own = let e : nat_eq i i ≡ true = grind arith in rw e refl

-- what it is to pass a request or an answer on: which handshakes are open then
pub passed_opens : (i : ℕ) (t : Type') (c : ℕ) (r : Plan) (slot : Slot) (o m : Open) (s u : Tokens) → ComesInOrder r (Fire i slot) s o m → (p : Passed i t c r slot s u)
    → m ≡ after_puts r i (p.row.puts p.value) (after_taken r (end_of i slot) (way_of slot) o)
passed_opens i t c r slot o m s u comes p = (comes p.value p.row p.lies p.fires).1

-- the caller of the handshake at which the Share asks is joined where a request came from it
pub caller_of : (i : ℕ) (t : Type') (c : ℕ) (r : Plan) (h g j : ℕ) → j < count t → Pair i t c r h g → PartEnd i j ≡ PartEnd i g → caller_end i t c j ≡ PartEnd i h
caller_of i t c r h g j lt pair e =
    let same : j ≡ g = cc e in
    ap (PartEnd i) (sym (to_caller (count t) (count t + c * count t) j lt) ∙ (ap (passed_on t c) same ∙ pair.back))

pub share_branch : (i : ℕ) (t : Type') (c : ℕ) (r q : Plan) → IsBuffer i t c r q → (slot : Slot) (o m : Open) (s u : Tokens)
    → AllFit o s → Branch i t c r o s → Does r (Fire i slot) s u → ComesInOrder r (Fire i slot) s o m → Branch i t c r m u
share_branch i t c r q is slot o m s u fit branch does comes j lt up =
    (ap (λ (x : State). x.number) (share_leaves i t c r q is slot s u for does), of_kind p.passed)
  where
    for : IsForCaller t c (s.state i).number (shake_of slot)
    for = for_one i t c r q is slot o s u fit branch does

    p : Passed i t c r slot s u
    p = share_passes i t c r q is.seen slot s u for does

    opens : m ≡ after_puts r i (p.row.puts p.value) (after_taken r (end_of i slot) (way_of slot) o)
    opens = passed_opens i t c r slot o m s u comes p

    own : (d : End) → places_of r (PartEnd i p.out) ≡ Some d → d ≡ PartEnd i p.out
    own d there = asked_there r i p.out (Share t) d is.seen.right is.seen.share p.pair.asks_at there

    asker : token_at r s (PartEnd i p.into) Request ≡ Some p.value → (f : Option End) → places_of r (PartEnd i p.into) ≡ f → (a : End) × IsIn (joint a (PartEnd i p.into)) r.joints
    asker lies None h = absurd (not_both_so p.value (token_at r s (PartEnd i p.into) Request) (ap (held_at s Request) h) lies)
    asker lies (Some a) h = (a, served_there r i p.into (Share t) a is.seen.right is.seen.share p.pair.serves_at h)

    of_kind : IsRequestPassed i r p.into p.out slot p.value p.row s u ⊎ IsAnswerPassed i r p.into p.out slot p.value p.row s u
        → (a : End) × IsIn (joint a (caller_end i t c j)) r.joints
    of_kind (inl (same, puts, lies, leads)) = by_test (same_end (PartEnd i j) (PartEnd i p.out)) refl
      where
        now : m ≡ Rattle.gos_plan.specs.Orderly.with_open (handshake_at r (PartEnd i p.out)) true o
        now = opens ∙ (ap (λ ts. after_puts r i ts (after_taken r (end_of i slot) (way_of slot) o)) puts
            ∙ ap (λ x. after_puts r i (put (Req p.out) p.value ∷ []) (after_taken r (end_of i x) (way_of x) o)) same)

        named : m ≡ Rattle.gos_plan.specs.Orderly.with_open (PartEnd i p.out) true o
        named = now ∙ ap (λ e. Rattle.gos_plan.specs.Orderly.with_open e true o) (name_of r i p.out own)

        by_test : (b : Bool) → same_end (PartEnd i j) (PartEnd i p.out) ≡ b → (a : End) × IsIn (joint a (caller_end i t c j)) r.joints
        by_test true h =
            let from = asker lies (places_of r (PartEnd i p.into)) refl in
            let at = caller_of i t c r p.into p.out j lt p.pair (same_is (PartEnd i j) (PartEnd i p.out) h) in
            (from.0, subst (λ (e : End). IsIn (joint from.0 e) r.joints) (sym at) from.1)
        by_test false h =
            let old : (if same_end (PartEnd i j) (PartEnd i p.out) then true else o (PartEnd i j)) ≡ true = subst (λ (w : Open). w (PartEnd i j) ≡ true) named up in
            let was : o (PartEnd i j) ≡ true = rw h at old in
            (branch j lt was).1
    of_kind (inr (same, puts, lies, leads)) =
        let now : m ≡ Rattle.gos_plan.specs.Orderly.with_open (handshake_at r (PartEnd i p.out)) false o =
        opens ∙ (ap (λ ts. after_puts r i ts (after_taken r (end_of i slot) (way_of slot) o)) puts
        ∙ ap (λ x. after_puts r i (put (Ans p.into) p.value ∷ []) (after_taken r (end_of i x) (way_of x) o)) same) in
        let was = still_open (handshake_at r (PartEnd i p.out)) (PartEnd i j) (same_end (PartEnd i j) (handshake_at r (PartEnd i p.out))) (o (PartEnd i j)) refl
        (subst (λ (w : Open). w (PartEnd i j) ≡ true) now up) in
        (branch j lt was.1).1

-- what an element in order leaves
pub branch_step : (i : ℕ) (t : Type') (c : ℕ) (r q : Plan) → IsBuffer i t c r q → (x : Element) (o m : Open) (s u : Tokens)
    → AllFit o s → Branch i t c r o s → Does r x s u → ComesInOrder r x s o m → Branch i t c r m u
branch_step i t c r q is (Fire k slot) o m s u fit branch does comes = by_part (nat_eq k i) refl
  where
    by_part : (b : Bool) → nat_eq k i ≡ b → Branch i t c r m u
    by_part true h =
        let same : k ≡ i = grind (arith, h) in
        share_branch i t c r q is slot o m s u fit branch (subst (λ (j : ℕ). Does r (Fire j slot) s u) same does) (subst (λ (j : ℕ). ComesInOrder r (Fire j slot) s o m) same comes)
    by_part false h =
        let apart : k ≡ i → ⊥ = λ e. let y : nat_eq k i ≡ true = grind (arith, e) in let z : true ≡ false = sym y ∙ h in cc z in
        branch_left i t c r o m s u (fire_leaves r i k slot o m s u is.seen.right apart does comes) branch
branch_step i t c r q is (Out e v) o m s u fit branch does comes = branch_left i t c r o m s u (out_leaves r i e v o m s u does comes) branch
branch_step i t c r q is (In e v) o m s u fit branch does comes = branch_left i t c r o m s u (in_leaves r i e v o m s u is.seen.right does comes) branch

pub works_on : (i : ℕ) (t : Type') (c : ℕ) (r q : Plan) → IsBuffer i t c r q → (xs : List Element) (o v : Open) (s w : Tokens)
    → AllFit o s → Branch i t c r o s → OrderlyFrom r xs o s v w → WorksFor i t c r xs s
works_on i t c r q is [] o v s w fit branch list = tt
works_on i t c r q is (x ∷ xs) o v s w fit branch (m, u, does, comes, welcome, list) = (
  (λ slot e. for_one i t c r q is slot o s u fit branch (subst (λ (y : Element). Does r y s u) e does)),
  (λ y also. subst (λ (z : Tokens). WorksFor i t c r xs z) (one_state r x s u y does also)
      (works_on i t c r q is xs m v u w (step r x o m s u does comes fit) (branch_step i t c r q is x o m s u fit branch does comes) list)),
)

pub none_fits : (r : Plan) (s : Tokens) → IsIdle r s → AllFit none_open s
none_fits r s idle = λ a. (idle.0 Request a, idle.0 Answer a)

pub no_branch : (i : ℕ) (t : Type') (c : ℕ) (r : Plan) (s : Tokens) → Branch i t c r none_open s
no_branch i t c r s = λ j lt up. absurd (cc up)

pub works_for_one : WorksForOne
works_for_one i t c r q xs o s w is idle list = works_on i t c r q is xs none_open o s w (none_fits r s idle) (no_branch i t c r s) list

-- the branch after a list
branch_after : (i : ℕ) (t : Type') (c : ℕ) (r q : Plan) → IsBuffer i t c r q → (xs : List Element) (o v : Open) (s w : Tokens)
    → AllFit o s → Branch i t c r o s → OrderlyFrom r xs o s v w → AllFit v w × Branch i t c r v w
branch_after i t c r q is [] o v s w fit branch list =
    subst (λ (z : Tokens). AllFit v z × Branch i t c r v z) (sym list.1) (subst (λ (z : Open). AllFit z s × Branch i t c r z s) (sym list.0) (fit, branch))
branch_after i t c r q is (x ∷ xs) o v s w fit branch (m, u, does, comes, welcome, list) =
    branch_after i t c r q is xs m v u w (step r x o m s u does comes fit) (branch_step i t c r q is x o m s u fit branch does comes) list

one_end : (r : Plan) (xs : List Element) (o v : Open) (s w z : Tokens) → OrderlyFrom r xs o s v z → Rattle.gos_plan.specs.Tokens.Runs r xs s w → z ≡ w
one_end r [] o v s w z list runs = list.1 ∙ sym runs
one_end r (x ∷ xs) o v s w z (m, u, does, comes, welcome, list) (y, also, runs) =
    one_end r xs m v u w z list (subst (λ (k : Tokens). Rattle.gos_plan.specs.Tokens.Runs r xs k w) (one_state r x s y u also does) runs)

pub buffers_are_loyal : BuffersAreLoyal
buffers_are_loyal i t c r q is regular xs slot s w u idle runs turns lt does = by_order (regular s w xs idle runs turns).0
  where
    at_source : IsForCaller t c (w.state i).number (shake_of slot) → (w.state i).number ≡ c
    at_source (inl h) = absurd (omega (arith, h.0, lt))
    at_source (inr h) = h.1

    by_order : Rattle.gos_plan.specs.Orderly.IsOrderly r xs s → (w.state i).number ≡ c
    by_order (v, z, list) =
        let same = one_end r xs none_open v s w z list runs in
        let known = branch_after i t c r q is xs none_open v s z (none_fits r s idle) (no_branch i t c r s) list in
        at_source (for_one i t c r q is slot v w u (subst (λ (k : Tokens). AllFit v k) same known.0) (subst (λ (k : Tokens). Branch i t c r v k) same known.1) does)
