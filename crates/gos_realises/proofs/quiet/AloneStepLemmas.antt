-- Over an orderly list one caller of a Share at most is asked at each handshake that the source asks.
use Rattle.std.specs.Prelude.{Option, None}
use Rattle.std.proofs.Common.{◌≡◌, ℕ, ◌+◌, ◌*◌, ◌<◌, Bool, true, false, length, Some, slice_get, refl, sym, ◌∙◌, ap, subst, arith, nat_eq, if◌then◌else◌}
use Rattle.std.proofs.lemmas.Option.{slice_get_within}
use Rattle.std.proofs.lemmas.Bool.{eqb-true}
use Rattle.gos_types.specs.declared.shakes.Role.TheVariants.{Serve, Ask}
use Rattle.gos_types.specs.Types.{Type'}
use Rattle.gos_types.specs.Handshakes.{turned}
use Rattle.gos_types.specs.Events.{Request}
use Rattle.gos_model.proofs.NumberLemmas.{nat_eq_itself}
use Rattle.gos_plan.specs.Kinds.{Part, Share, Contact, contacts_of, turned_contact}
use Rattle.gos_plan.specs.Firing.{Slot, Req, Ans, Row, same_slot, firing}
use Rattle.gos_plan.specs.Plans.{End, PartEnd, Plan, IsRight, contacts_of_part, contact_at}
use Rattle.gos_plan.specs.Tokens.{Tokens, Fire, end_of, way_of, token_at, with_token, with_state, firing_of, fired, Does}
use Rattle.gos_plan.specs.Orderly.{Open, after_taken, after_puts, AllComeWell, ComesInOrder}
use Rattle.gos_plan.specs.Firings.{after_taking}
use Rattle.gos_plan.specs.Projection.{asked_by}
use Rattle.gos_plan.proofs.HeldLemmas.{AllFit}
use Rattle.gos_plan.proofs.AskingLemmas.{TakesAsking, PutsAsking, PutsInRole, row_roles, row_asks, source_at}
use Rattle.gos_plan.proofs.ProjectionLemmas.{taken_own, taken_other, puts_other}
use Rattle.gos_realises.specs.quiet.Ranks.{no_ranks}
use Rattle.gos_realises.proofs.quiet.RankLemmas.{TakenAt, taken_at}
use Rattle.gos_realises.proofs.quiet.TieLemmas.{is_put}
use Rattle.gos_realises.proofs.quiet.FrameLemmas.{Busy, one_server, busy_taken, NeverAnswers, busy_puts}
use Rattle.gos_realises.proofs.quiet.LadderLemmas.{opened_by, put_role, at_end, part_is, shake_is}
use Rattle.gos_realises.proofs.quiet.LadderStepLemmas.{taken_busy, was_open}
use Rattle.gos_realises.proofs.quiet.SharedLemmas.{caller, one_shake, asked_first, asked_second, answered_source, asked_source, answered_caller, SharedRow, shared_row}
use Rattle.gos_realises.proofs.quiet.SharedLemmas as shared
use Rattle.gos_realises.proofs.quiet.AloneLemmas.{Lone, Alone, answer_open, one_put, unlike, differ}

-- a firing in order, with what is known of its row
pub record Fact (p : Plan) (j : ℕ) (slot : Slot) (o : Open) (s : Tokens) (m : Open) (w : Tokens) : Type 0 where
  pub value : ℕ
  pub row : Row
  pub lies : token_at p s (end_of j slot) (way_of slot) ≡ Some value
  pub kind : Part
  pub is : slice_get p.parts j ≡ Some kind
  pub fires : firing kind (s.state j) slot ≡ Some row
  pub leads : w ≡ fired p j row value s
  pub well : AllComeWell p j (row.puts value) (after_taken p (end_of j slot) (way_of slot) o) (with_state j (row.next value) (with_token p (end_of j row.takes) (way_of row.takes) None s))
  pub opens : m ≡ after_puts p j (row.puts value) (after_taken p (end_of j slot) (way_of slot) o)
  pub takes : row.takes ≡ slot
  pub puts_role : PutsInRole kind (row.puts value)
  pub takes_asking : TakesAsking kind slot
  pub puts_asking : PutsAsking kind (row.puts value)

pub fact : (p : Plan) (j : ℕ) (slot : Slot) (o m : Open) (s w : Tokens) → Does p (Fire j slot) s w → ComesInOrder p (Fire j slot) s o m → Fact p j slot o s m w
fact p j slot o m s w (v, r, lies, fires, leads) comes = of_part (slice_get p.parts j) refl
  where
    of_part : (k : Option Part) → slice_get p.parts j ≡ k → Fact p j slot o s m w
    of_part None none =
        let never : None ≡ Some r = subst (λ (y : Option Part). firing_of y (s.state j) slot ≡ Some r) none fires in
        absurd (cc never)
    of_part (Some k) is =
        let fires_so = subst (λ (y : Option Part). firing_of y (s.state j) slot ≡ Some r) is fires in
        let roles = row_roles k (s.state j) slot r v fires_so in
        let asks = row_asks k (s.state j) slot r v fires_so in
        let now = comes v r lies fires in
        record {
          value = v;
          row = r;
          lies = lies;
          kind = k;
          is = is;
          fires = fires_so;
          leads = leads;
          well = now.0;
          opens = now.1;
          takes = roles.0;
          puts_role = roles.1.1;
          takes_asking = subst (TakesAsking k) asks.0 asks.1.0;
          puts_asking = asks.1.1;
        }

pub keeps_busy : (p : Plan) (j : ℕ) (slot : Slot) (o m : Open) (s w : Tokens) (n : End) → (x : Fact p j slot o s m w)
    → Busy (after_taken p (end_of j slot) (way_of slot) o) (with_token p (end_of j slot) (way_of slot) None s) n
    → NeverAnswers p j n (x.row.puts x.value) → Busy m w n
keeps_busy p j slot o m s w n x busy never =
    let before = after_taken p (end_of j slot) (way_of slot) o in
    let between : Slot → Tokens = λ (c : Slot). with_state j (x.row.next x.value) (with_token p (end_of j c) (way_of c) None s) in
    let first = subst (λ (c : Slot). Busy before (between c) n) (sym x.takes)
    (record { is_open = busy.is_open; request = busy.request; answer = busy.answer }) in
    let all = busy_puts p j 0 (x.row.puts x.value) before no_ranks (between x.row.takes) n x.well never first in
    subst (λ (y : Tokens). Busy m y n) (sym x.leads) (subst (λ (y : Open). Busy y (fired p j x.row x.value s) n) (sym x.opens) all.0)

pub open_after : (p : Plan) (j : ℕ) (slot : Slot) (o m : Open) (s w : Tokens) (a : ℕ) → IsRight p → (x : Fact p j slot o s m w)
    → m (PartEnd j a) ≡ (if is_put (Req a) (x.row.puts x.value) then true else after_taking slot (asked_by j o) a)
open_after p j slot o m s w a right x =
    ap (λ (y : Open). y (PartEnd j a)) x.opens
    ∙ (opened_by p j x.kind (x.row.puts x.value) (after_taken p (end_of j slot) (way_of slot) o) a right x.is x.puts_asking
    ∙ ap (λ (b : Bool). if is_put (Req a) (x.row.puts x.value) then true else b) (taken_own p j x.kind slot o right x.is x.takes_asking a))

pub open_other : (p : Plan) (i j : ℕ) (slot : Slot) (o m : Open) (s w : Tokens) (a : ℕ) → IsRight p → (x : Fact p j slot o s m w) → nat_eq i j ≡ false
    → m (PartEnd i a) ≡ o (PartEnd i a)
open_other p i j slot o m s w a right x apart =
    ap (λ (y : Open). y (PartEnd i a)) x.opens
    ∙ (puts_other p i j x.kind (x.row.puts x.value) (after_taken p (end_of j slot) (way_of slot) o) right x.is x.puts_asking apart a
    ∙ taken_other p i j x.kind slot o right x.is x.takes_asking apart a)

-- a Share serves where the source asks
pub serves_source : (p : Plan) (i : ℕ) (t : Type') (j : ℕ) (c : Contact) → slice_get p.parts i ≡ Some (Share t) → slice_get (contacts_of t) j ≡ Some c
    → c.role ≡ Ask → (d : Contact) → contact_at p (PartEnd i j) ≡ Some d → d.role ≡ Serve
serves_source p i t j c is there role d at =
    let here = subst (λ (x : Option Part). slice_get (contacts_of_part x) j ≡ Some d) is at in
    let source = source_at t j c there in
    let same : turned_contact c ≡ d = cc (source, here) in
    ap (λ (x : Contact). x.role) (sym same) ∙ ap turned role

-- another part
pub other_part : (p : Plan) (i j : ℕ) (slot : Slot) (o m : Open) (s w : Tokens) → IsRight p → (x : Fact p j slot o s m w) → nat_eq i j ≡ false → Alone p o s
    → (t : Type') (k : ℕ) (c : Contact) → slice_get p.parts i ≡ Some (Share t) → slice_get (contacts_of t) k ≡ Some c → c.role ≡ Ask
    → (y : ℕ) → m (PartEnd i (caller (length (contacts_of t)) y k)) ≡ true → Lone p m w i (length (contacts_of t)) y k
other_part p i j slot o m s w right x apart alone t k c is there role y opened =
    record {
      place = lone.place;
      there = lone.there;
      busy = keeps_busy p j slot o m s w lone.place x (busy_taken p (end_of j slot) (way_of slot) x.value o s lone.place x.lies lone.busy) never;
      only = λ z up. lone.only z (sym (open_other p i j slot o m s w (caller n z k) right x apart) ∙ up);
    }
  where
    n : ℕ
    n = length (contacts_of t)

    lone : Lone p o s i n y k
    lone = alone i t k c is there role y (sym (open_other p i j slot o m s w (caller n y k) right x apart) ∙ opened)

    never : NeverAnswers p j lone.place (x.row.puts x.value)
    never h put at =
        let one = one_server p (PartEnd j h) (PartEnd i k) lone.place right at lone.there
        (at_end p j h x.kind x.is (put_role x.kind (x.row.puts x.value) h x.puts_role put)) (serves_source p i t k c is there role) in
        let same = part_is j i h k one in
        let no_part : true ≡ false = sym (nat_eq_itself i) ∙ (ap (nat_eq i) (sym same) ∙ apart) in
        cc no_part

-- the Share itself, where it neither asks a caller at this handshake nor answers the source
own_kept : (p : Plan) (i : ℕ) (slot : Slot) (o m : Open) (s w : Tokens) → IsRight p → (x : Fact p i slot o s m w) → Alone p o s
    → (t : Type') (k : ℕ) (c : Contact) → slice_get p.parts i ≡ Some (Share t) → slice_get (contacts_of t) k ≡ Some c → c.role ≡ Ask
    → ((z : ℕ) → is_put (Req (caller (length (contacts_of t)) z k)) (x.row.puts x.value) ≡ false) → is_put (Ans k) (x.row.puts x.value) ≡ false
    → (y : ℕ) → m (PartEnd i (caller (length (contacts_of t)) y k)) ≡ true → Lone p m w i (length (contacts_of t)) y k
own_kept p i slot o m s w right x alone t k c is there role none silent y opened =
    record {
      place = lone.place;
      there = lone.there;
      busy = keeps_busy p i slot o m s w lone.place x (busy_taken p (end_of i slot) (way_of slot) x.value o s lone.place x.lies lone.busy) never;
      only = λ z up. lone.only z (before z up);
    }
  where
    n : ℕ
    n = length (contacts_of t)

    before : (z : ℕ) → m (PartEnd i (caller n z k)) ≡ true → o (PartEnd i (caller n z k)) ≡ true
    before z up =
        (was_open slot (asked_by i o) (caller n z k)
        (sym (open_after p i slot o m s w (caller n z k) right x ∙ rw (none z) refl) ∙ up)).0

    lone : Lone p o s i n y k
    lone = alone i t k c is there role y (before y opened)

    never : NeverAnswers p i lone.place (x.row.puts x.value)
    never h put at =
        let one = one_server p (PartEnd i h) (PartEnd i k) lone.place right at lone.there
        (at_end p i h x.kind x.is (put_role x.kind (x.row.puts x.value) h x.puts_role put)) (serves_source p i t k c is there role) in
        let same = shake_is i i h k one in
        let no_put : true ≡ false = sym (subst (λ (z : ℕ). is_put (Ans z) (x.row.puts x.value) ≡ true) same put) ∙ silent in
        cc no_put

-- where it asks a caller, no caller was asked before
own_asked : (p : Plan) (i : ℕ) (slot : Slot) (o m : Open) (s w : Tokens) → IsRight p → AllFit o s → (x : Fact p i slot o s m w) → Alone p o s
    → (t : Type') (k : ℕ) (c : Contact) → slice_get p.parts i ≡ Some (Share t) → slice_get (contacts_of t) k ≡ Some c → c.role ≡ Ask → slot ≡ Req k
    → (b : ℕ) → ((z : ℕ) → is_put (Req z) (x.row.puts x.value) ≡ true → caller (length (contacts_of t)) b k ≡ z)
    → ((h : ℕ) → is_put (Ans h) (x.row.puts x.value) ≡ false)
    → (y : ℕ) → m (PartEnd i (caller (length (contacts_of t)) y k)) ≡ true → Lone p m w i (length (contacts_of t)) y k
own_asked p i slot o m s w right fit x alone t k c is there role slot_is b asked none y opened =
    record {
      place = at.joint.asking;
      there = at.place;
      busy =
          keeps_busy p i slot o m s w at.joint.asking x
          (subst (λ (d : Slot). Busy (after_taken p (end_of i d) (way_of d) o) (with_token p (end_of i d) (way_of d) None s) at.joint.asking) (sym slot_is)
          (taken_busy p (PartEnd i k) x.value o s fit at))
          (λ h put here. let never : true ≡ false = sym put ∙ none h in cc never);
      only = λ z up. sym (is_asked z up) ∙ is_asked y opened;
    }
  where
    n : ℕ
    n = length (contacts_of t)

    at : TakenAt p (PartEnd i k) Request x.value s
    at = taken_at p (PartEnd i k) Request x.value s (subst (λ (d : Slot). token_at p s (end_of i d) (way_of d) ≡ Some x.value) slot_is x.lies)

    closed : (z : ℕ) → o (PartEnd i (caller n z k)) ≡ true → ⊥
    closed z up =
        let lone = alone i t k c is there role z up in
        let one = lone.there in
        let two = at.place in
        let same : lone.place ≡ at.joint.asking = cc (one, two) in
        let busy = lone.busy in
        let never : None ≡ Some x.value = sym busy.request ∙ (ap (s.in_place Request) same ∙ at.lies) in
        cc never

    is_asked : (z : ℕ) → m (PartEnd i (caller n z k)) ≡ true → caller n b k ≡ caller n z k
    is_asked z up = by_test (is_put (Req (caller n z k)) (x.row.puts x.value)) refl
      where
        by_test : (d : Bool) → is_put (Req (caller n z k)) (x.row.puts x.value) ≡ d → caller n b k ≡ caller n z k
        by_test true put = asked (caller n z k) put
        by_test false no_put =
            absurd (closed z (was_open slot (asked_by i o) (caller n z k)
            (sym (open_after p i slot o m s w (caller n z k) right x ∙ rw no_put refl) ∙ up)).0)

-- where a caller answered, no other is asked
own_answered : (p : Plan) (i : ℕ) (slot : Slot) (o m : Open) (s w : Tokens) → IsRight p → AllFit o s → (x : Fact p i slot o s m w) → Alone p o s
    → (t : Type') (k : ℕ) (c : Contact) → slice_get p.parts i ≡ Some (Share t) → slice_get (contacts_of t) k ≡ Some c → c.role ≡ Ask
    → (b : ℕ) → slot ≡ Ans (caller (length (contacts_of t)) b k) → ((z : ℕ) → is_put (Req z) (x.row.puts x.value) ≡ false)
    → (y : ℕ) → m (PartEnd i (caller (length (contacts_of t)) y k)) ≡ true → ⊥
own_answered p i slot o m s w right fit x alone t k c is there role b slot_is none y opened =
    let was = was_open slot (asked_by i o) (caller n y k) (sym (open_after p i slot o m s w (caller n y k) right x ∙ rw (none (caller n y k)) refl) ∙ opened) in
    let answered = answer_open p i (caller n b k) x.kind x.value o s right fit x.is (subst (TakesAsking x.kind) slot_is x.takes_asking)
    (subst (λ (d : Slot). token_at p s (end_of i d) (way_of d) ≡ Some x.value) slot_is x.lies) in
    let lone = alone i t k c is there role y was.0 in
    differ (caller n b k) (caller n y k) (subst (λ (d : Slot). same_slot d (Ans (caller n y k)) ≡ false) slot_is was.1) (lone.only b answered)
  where
    n : ℕ
    n = length (contacts_of t)

-- so the Share itself keeps it
pub own_part : (p : Plan) (i : ℕ) (slot : Slot) (o m : Open) (s w : Tokens) → IsRight p → AllFit o s → (x : Fact p i slot o s m w) → Alone p o s
    → (t : Type') (k : ℕ) (c : Contact) → slice_get p.parts i ≡ Some (Share t) → slice_get (contacts_of t) k ≡ Some c → c.role ≡ Ask
    → (y : ℕ) → m (PartEnd i (caller (length (contacts_of t)) y k)) ≡ true → Lone p m w i (length (contacts_of t)) y k
own_part p i slot o m s w right fit x alone t k c is there role y opened = by_row x.row refl row.passes
  where
    n : ℕ
    n = length (contacts_of t)

    kind_is : x.kind ≡ Share t
    kind_is = let one = x.is in cc (one, is)

    row : SharedRow (contacts_of t) (s.state i).number x.value x.row
    row = shared_row t (s.state i) slot x.row x.value (subst (λ (d : Part). firing d (s.state i) slot ≡ Some x.row) kind_is x.fires)

    low : k < n
    low = slice_get_within (contacts_of t) k c there

    h : ℕ
    h = row.shake

    less : h < n
    less = row.low

    b : ℕ
    b = (s.state i).number

    kept : (r : Row) → r ≡ x.row → ((z : ℕ) → is_put (Req (caller n z k)) (r.puts x.value) ≡ false) → is_put (Ans k) (r.puts x.value) ≡ false
        → Lone p m w i n y k
    kept r e none silent =
        own_kept p i slot o m s w right x alone t k c is there role
        (λ z. subst (λ (d : Row). is_put (Req (caller n z k)) (d.puts x.value) ≡ false) e (none z))
        (subst (λ (d : Row). is_put (Ans k) (d.puts x.value) ≡ false) e silent) y opened

    not_source : (z : ℕ) → h ≡ caller n z k → ⊥
    not_source z e = omega (arith, e, less)

    not_caller : caller n b h ≡ k → ⊥
    not_caller e = let all : n + b * n + h ≡ k = e in omega (arith, all, low)

    by_row : (r : Row) → r ≡ x.row → shared.Passes n b h row.contact.role x.value r → Lone p m w i n y k
    by_row r e (asked_first serves) = kept r e (λ z. unlike h (caller n z k) (not_source z)) refl
    by_row r e (asked_second serves) = kept r e (λ z. unlike h (caller n z k) (not_source z)) refl
    by_row r e (answered_source serves) = kept r e (λ z. refl) (unlike (caller n b h) k not_caller)
    by_row r e (asked_source asks) = by_test (nat_eq h k) refl
      where
        by_test : (d : Bool) → nat_eq h k ≡ d → Lone p m w i n y k
        by_test false apart = kept r e (λ z. unlike (caller n b h) (caller n z k) (λ same. differ h k apart (one_shake n b z h k less low same))) refl
        by_test true same =
            let here = eqb-true h k same in
            own_asked p i slot o m s w right fit x alone t k c is there role
            (sym x.takes ∙ (ap (λ (d : Row). d.takes) (sym e) ∙ ap Req here)) b
            (λ z put. ap (caller n b) (sym here) ∙ one_put (caller n b h) z (subst (λ (d : Row). is_put (Req z) (d.puts x.value) ≡ true) (sym e) put))
            (λ z. subst (λ (d : Row). is_put (Ans z) (d.puts x.value) ≡ false) e refl) y opened
    by_row r e (answered_caller asks) = by_test (nat_eq h k) refl
      where
        by_test : (d : Bool) → nat_eq h k ≡ d → Lone p m w i n y k
        by_test false apart = kept r e (λ z. refl) (unlike h k (differ h k apart))
        by_test true same =
            let here = eqb-true h k same in
            absurd (own_answered p i slot o m s w right fit x alone t k c is there role b
            (sym x.takes ∙ (ap (λ (d : Row). d.takes) (sym e) ∙ ap (λ (z : ℕ). Ans (caller n b z)) here))
            (λ z. subst (λ (d : Row). is_put (Req z) (d.puts x.value) ≡ false) e refl) y opened)
