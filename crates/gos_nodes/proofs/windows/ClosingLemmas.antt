-- Where all is idle nothing is open but what ports asked.
--
-- Whoever asks waits, and so is not idle: but a Share asks for a caller, whose handshake is in service. So from each open
-- handshake a way leads back through Shares to a part that waits, or to a port.
use Rattle.std.specs.Prelude.{Option, None}
use Rattle.std.proofs.Common.{◌≡◌, inl, inr, ℕ, Bool, true, false, List, [], ◌∷◌, ◌++◌, length, Some, slice_get, refl, sym, ◌∙◌, ap, subst, arith, nat_eq, if◌then◌else◌}
use Rattle.std.proofs.lemmas.Option.{same_Some}
use Rattle.gos_types.specs.declared.shakes.Role.{Role}
use Rattle.gos_types.specs.declared.shakes.Role.TheVariants.{Serve, Ask}
use Rattle.gos_types.specs.Types.{Type'}
use Rattle.gos_types.specs.Events.{Direction, Request, Answer}
use Rattle.gos_types.proofs.BoolLemmas.{true_is_not_false, else_true}
use Rattle.gos_model.proofs.NumberLemmas.{nat_eq_itself}
use Rattle.gos_plan.specs.Kinds.{Part, Share, Contact, contacts_of}
use Rattle.gos_plan.specs.Firing.{Phase, State, Slot, Req, Ans, Token, Row, at, same_slot, firing}
use Rattle.gos_plan.specs.Plans.{End, PartEnd, ImportEnd, ResultEnd, Plan, IsRight, contact_at, same_end}
use Rattle.gos_plan.specs.Tokens.{Tokens, Element, Fire, Out, In, IsPortEnd, places_of, way_taken, way_put, way_of, end_of, shake_of, token_at, with_token, Does, IsIdle}
use Rattle.gos_plan.specs.Tokens as tokens
use Rattle.gos_plan.specs.Turns.{IsUnshared}
use Rattle.gos_plan.specs.Orderly.{named_by, handshake_at, Open, none_open, with_open, after_taken, after_put, after_puts, ComesInOrder, OrderlyFrom}
use Rattle.gos_plan.specs.Firings.{after_taking}
use Rattle.gos_plan.specs.Projection.{asked_by}
use Rattle.gos_plan.proofs.JointLemmas.{fits, Found, found, same_is, same_itself}
use Rattle.gos_plan.proofs.HeldLemmas.{AllFit, step}
use Rattle.gos_plan.proofs.TurnLemmas.{token_state, fired_state}
use Rattle.gos_plan.proofs.AskingLemmas.{RoleIs, RequestAsks, PutsAsking, row_roles}
use Rattle.gos_plan.proofs.RowLemmas.{role_taking}
use Rattle.gos_plan.proofs.ProjectionLemmas.{named, taken_port, put_port}
use Rattle.gos_plan.proofs.ElementLemmas.{orderly_then}
use Rattle.gos_realises.specs.realises.Regular.{Pass, pass, is_open, way_in, way_out}
use Rattle.gos_realises.proofs.realises.InputLemmas.{passed, in_there, out_there}
use Rattle.gos_realises.proofs.realises.RingLemmas.{after}
use Rattle.gos_realises.proofs.quiet.TieLemmas.{Passed, is_put}
use Rattle.gos_realises.proofs.quiet.FrameLemmas.{Busy, one_server, busy_taken, busy_put, NeverAnswers}
use Rattle.gos_realises.proofs.quiet.RankLemmas.{TakenAt, taken_at}
use Rattle.gos_realises.proofs.quiet.LadderLemmas.{LawAt, put_role, at_end, part_is, shake_is}
use Rattle.gos_realises.proofs.quiet.LadderStepLemmas.{Law, taken_busy, was_open}
use Rattle.gos_realises.proofs.quiet.SharedLemmas.{Passes, asked_first, asked_second, answered_source, asked_source, answered_caller, shared_row}
use Rattle.gos_realises.proofs.quiet.AloneStepLemmas.{Fact, fact, keeps_busy, open_after, open_other}
use Rattle.gos_realises.proofs.quiet.GrowLemmas.{always_ties}
use Rattle.gos_nodes.specs.windows.Closing.{OpenIdleIsClosed, IdleIsClosed}
use Rattle.gos_nodes.proofs.windows.PortLemmas.{port_role}
use Rattle.gos_nodes.proofs.windows.WaitLemmas.{Waits, row_waits, rest_waits, told_share}

-- An open handshake, and who asks there.
pub data Rooted (p : Plan) (o : Open) (s : Tokens) : End → Type 0 where
  at_port : (e : End) → IsPortEnd e → Rooted p o s e
  at_plain : (i a : ℕ) (k : Part) → slice_get p.parts i ≡ Some k → IsUnshared k → Waits k (s.state i) a → Rooted p o s (PartEnd i a)
  at_share :
      (i a b : ℕ) (t : Type') (n : End)
      → slice_get p.parts i ≡ Some (Share t) → places_of p (PartEnd i b) ≡ Some n → RoleIs (Share t) b Serve → Passed (contacts_of t) a b → Busy o s n
      → Rooted p o s n → Rooted p o s (PartEnd i a)

abbrev Passes' : Plan → End → ℕ → Option Contact → Tokens → Tokens → Type 0
Passes' p e v f s w = tokens.Passes p (Out e v) f s w

abbrev Comes' : Plan → End → ℕ → Option Contact → Tokens → Tokens → Type 0
Comes' p e v f s w = tokens.Passes p (In e v) f s w

abbrev pub AllRooted : Plan → Open → Tokens → Type 0
AllRooted p o s = (x : End) → o x ≡ true → Rooted p o s x

-- what a row of a Share that puts a request takes
takes_request : (n b i : ℕ) (role : Role) (v : ℕ) (r : Row) → Passes n b i role v r → (a : ℕ) → is_put (Req a) (r.puts v) ≡ true → (h : ℕ) × (r.takes ≡ Req h)
takes_request n b i role v r (asked_first is) a put = (_, refl)
takes_request n b i role v r (asked_second is) a put = (_, refl)
takes_request n b i role v r (answered_source is) a put = absurd (cc put)
takes_request n b i role v r (asked_source is) a put = (_, refl)
takes_request n b i role v r (answered_caller is) a put = absurd (cc put)

same_number : (i j : ℕ) → nat_eq i j ≡ true → j ≡ i
same_number i j same = grind (arith, same)

same_req : (h : ℕ) → same_slot (Req h) (Req h) ≡ true
same_req h = grind arith

module _ (p : Plan) (right : IsRight p) where
  -- what asks has the name of its handshake
  pub asks_itself : (e : End) (c : Contact) → contact_at p e ≡ Some c → c.role ≡ Ask → handshake_at p e ≡ e
  asks_itself e c there asks = by_place (places_of p e) refl
    where
      of_found : (a : End) (g : Found p.joints e a) (b : Bool) → same_end e g.joint.asking ≡ b → a ≡ e
      of_found a g true t = sym g.named ∙ sym (same_is e g.joint.asking t)
      of_found a g false t =
          let s : same_end e g.joint.serving ≡ true = grind (arith, g.stands, t) in
          let fit = fits p [] p.joints g.joint right g.is_in in
          let at = ap (contact_at p) (same_is e g.joint.serving s) ∙ fit.3 in
          let role : Ask ≡ Serve = sym asks ∙ ap (λ (x : Contact). x.role) (same_Some c _ (sym there ∙ at)) in absurd (cc role)

      by_place : (o : Option End) → places_of p e ≡ o → named_by o e ≡ e
      by_place None none = refl
      by_place (Some a) named_so = let g = found p.joints e a named_so in of_found a g (same_end e g.joint.asking) refl

  -- ports after what a part takes and puts
  puts_port : (i : ℕ) (k : Part) (ts : List Token) (o : Open) (e : End) → slice_get p.parts i ≡ Some k → PutsAsking k ts → IsPortEnd e → after_puts p i ts o e ≡ o e
  puts_port i k [] o e is asks port = refl
  puts_port i k (t ∷ ts) o e is asks port = puts_port i k ts (after_put p (end_of i t.slot) (way_of t.slot) o) e is asks.1 port ∙ by_slot t.slot asks.0
    where
      apart : (h : ℕ) (e : End) → IsPortEnd e → same_end e (PartEnd i h) ≡ false
      apart h (PartEnd j g) port = absurd port
      apart h (ImportEnd j g) port = refl
      apart h (ResultEnd g) port = refl

      by_slot : (slot : Slot) → RequestAsks k slot → after_put p (end_of i slot) (way_of slot) o e ≡ o e
      by_slot (Req h) request =
          subst (λ (d : End). with_open d true o e ≡ o e) (sym (named p i h k right is request))
          (ap (λ (b : Bool). if b then true else o e) (apart h e port))
      by_slot (Ans h) request = refl

  taken_more : (d : End) (way : Direction) (o : Open) (e : End) → after_taken p d way o e ≡ true → o e ≡ true
  taken_more d Request o e up = up
  taken_more d Answer o e up = else_true (same_end e (handshake_at p d)) (o e) up

  pub port_before : (j : ℕ) (slot : Slot) (o m : Open) (s w : Tokens) → Fact p j slot o s m w → (e : End) → IsPortEnd e → m e ≡ true → o e ≡ true
  port_before j slot o m s w x e port up =
      taken_more (end_of j slot) (way_of slot) o e
      (sym (ap (λ (y : Open). y e) x.opens ∙ puts_port j x.kind (x.row.puts x.value) (after_taken p (end_of j slot) (way_of slot) o) e x.is x.puts_asking port) ∙ up)

  -- a firing
  module _
      (j : ℕ) (slot : Slot) (o m : Open) (s w : Tokens) (fit : AllFit o s) (law : Law p o s) (x : Fact p j slot o s m w) where
    state_other : (i : ℕ) → nat_eq i j ≡ false → w.state i ≡ s.state i
    state_other i apart =
        ap (λ (y : Tokens). y.state i) x.leads
        ∙ (fired_state p j x.row x.value s i ∙ ap (λ (b : Bool). if b then x.row.next x.value else s.state i) apart)

    state_own : w.state j ≡ x.row.next x.value
    state_own =
        ap (λ (y : Tokens). y.state j) x.leads
        ∙ (fired_state p j x.row x.value s j ∙ ap (λ (b : Bool). if b then x.row.next x.value else s.state j) (nat_eq_itself j))

    -- a part that waits
    plain_now : (a : ℕ) → IsUnshared x.kind → (o (PartEnd j a) ≡ true → Waits x.kind (s.state j) a) → m (PartEnd j a) ≡ true → Waits x.kind (w.state j) a
    plain_now a plain before up =
        subst (λ (q : State). Waits x.kind q a) (sym state_own) (by_put (is_put (Req a) (x.row.puts x.value)) refl (sym (open_after p j slot o m s w a right x) ∙ up))
      where
        waits : (is_put (Req a) (x.row.puts x.value) ≡ true → Waits x.kind (x.row.next x.value) a)
            × (Waits x.kind (s.state j) a → same_slot x.row.takes (Ans a) ≡ false → Waits x.kind (x.row.next x.value) a)
        waits = row_waits x.kind (s.state j) slot x.row x.value plain x.fires a

        by_put : (b : Bool) → is_put (Req a) (x.row.puts x.value) ≡ b → (if b then true else after_taking slot (asked_by j o) a) ≡ true → Waits x.kind (x.row.next x.value) a
        by_put true put up_now = waits.0 put
        by_put false put up_now =
            let was = was_open slot (asked_by j o) a up_now in
            waits.1 (before was.0) (subst (λ (c : Slot). same_slot c (Ans a) ≡ false) (sym x.takes) was.1)

    -- a Share that puts a request took one
    share_takes : (t : Type') → x.kind ≡ Share t → (a : ℕ) → is_put (Req a) (x.row.puts x.value) ≡ true → (h : ℕ) × (slot ≡ Req h)
    share_takes t is a put =
        let row = shared_row t (s.state j) slot x.row x.value (subst (λ (k : Part). firing k (s.state j) slot ≡ Some x.row) is x.fires) in
        let took = takes_request (length (contacts_of t)) (s.state j).number row.shake row.contact.role x.value x.row row.passes a put in
        (took.0, sym x.takes ∙ took.1)

    -- what was open and stays so
    not_taken : (t : Type') → x.kind ≡ Share t → (a : ℕ) → m (PartEnd j a) ≡ true → same_slot x.row.takes (Ans a) ≡ false
    not_taken t is a up = by_put (is_put (Req a) (x.row.puts x.value)) refl (sym (open_after p j slot o m s w a right x) ∙ up)
      where
        by_put : (b : Bool) → is_put (Req a) (x.row.puts x.value) ≡ b → (if b then true else after_taking slot (asked_by j o) a) ≡ true → same_slot x.row.takes (Ans a) ≡ false
        by_put true put up_now =
            let took = share_takes t is a put in ap (λ (c : Slot). same_slot c (Ans a)) (x.takes ∙ took.1)
        by_put false put up_now = subst (λ (c : Slot). same_slot c (Ans a) ≡ false) (sym x.takes) (was_open slot (asked_by j o) a up_now).1

    keeps : (y : End) → Rooted p o s y → o y ≡ true → m y ≡ true → Rooted p m w y
    keeps y (at_port e port) before up = at_port y port
    keeps y (at_plain i a k is plain waits) before up = by_part (nat_eq i j) refl
      where
        by_part : (b : Bool) → nat_eq i j ≡ b → Rooted p m w (PartEnd i a)
        by_part false apart = at_plain i a k is plain (subst (λ (q : State). Waits k q a) (sym (state_other i apart)) waits)
        by_part true same =
            let here : j ≡ i = same_number i j same in
            let kind : x.kind ≡ k = cc (x.is, is, here) in
            let now = plain_now a (subst IsUnshared (sym kind) plain) (λ was. subst (λ (n : ℕ). Waits x.kind (s.state n) a) (sym here) (subst (λ (l : Part). Waits l (s.state i) a) (sym kind) waits))
            (ap (λ (n : ℕ). m (PartEnd n a)) here ∙ up) in
            at_plain i a k is plain (subst (λ (l : Part). Waits l (w.state i) a) kind (subst (λ (n : ℕ). Waits x.kind (w.state n) a) here now))
    keeps y (at_share i a b t n is there serves passed busy below) before up =
        at_share i a b t n is there serves passed busy_now (keeps n below busy.is_open busy_now.is_open)
      where
        after : Busy (after_taken p (end_of j slot) (way_of slot) o) (with_token p (end_of j slot) (way_of slot) None s) n
        after = busy_taken p (end_of j slot) (way_of slot) x.value o s n x.lies busy

        of_own : (h : ℕ) → is_put (Ans h) (x.row.puts x.value) ≡ true → i ≡ j → b ≡ h → ⊥
        of_own h put part shake =
            let kind : x.kind ≡ Share t = cc (x.is, is, part) in
            let up_now = ap (λ (k : ℕ). m (PartEnd k a)) (sym part) ∙ up in
            let before_now = ap (λ (k : ℕ). o (PartEnd k a)) (sym part) ∙ before in
            let tied = subst (λ (k : Part). LawAt p o j k (s.state j) x.value x.row) kind (law j x.kind slot x.row x.value x.is x.lies x.fires) in
            let never = ((tied a b).1 passed before_now (not_taken t kind a up_now)).0 in
            true_is_not_false (is_put (Ans b) (x.row.puts x.value)) (ap (λ (k : ℕ). is_put (Ans k) (x.row.puts x.value)) shake ∙ put) never

        never : NeverAnswers p j n (x.row.puts x.value)
        never h put place =
            let same = one_server p (PartEnd i b) (PartEnd j h) n right there place (at_end p i b (Share t) is serves)
            (at_end p j h x.kind x.is (put_role x.kind (x.row.puts x.value) h x.puts_role put)) in
            of_own h put (part_is i j b h same) (shake_is i j b h same)

        busy_now : Busy m w n
        busy_now = keeps_busy p j slot o m s w n x after never

    -- what is opened
    module _ (rooted : AllRooted p o s) where
      opened : (t : Type') → x.kind ≡ Share t → (a h : ℕ) → slot ≡ Req h → is_put (Req a) (x.row.puts x.value) ≡ true → Rooted p m w (PartEnd j a)
      opened t kind a h slot_is put =
          at_share j a h t taken.joint.asking (x.is ∙ ap (λ (k : Part). Some k) kind) taken.place serves tied.0 busy_now
          (keeps taken.joint.asking (rooted taken.joint.asking busy.is_open) busy.is_open busy_now.is_open)
        where
          lies : token_at p s (PartEnd j h) Request ≡ Some x.value
          lies = subst (λ (c : Slot). token_at p s (end_of j c) (way_of c) ≡ Some x.value) slot_is x.lies

          taken : TakenAt p (PartEnd j h) Request x.value s
          taken = taken_at p (PartEnd j h) Request x.value s lies

          busy : Busy o (with_token p (PartEnd j h) Request None s) taken.joint.asking
          busy = taken_busy p (PartEnd j h) x.value o s fit taken

          busy_taken_so : Busy (after_taken p (end_of j slot) (way_of slot) o) (with_token p (end_of j slot) (way_of slot) None s) taken.joint.asking
          busy_taken_so =
              subst (λ (c : Slot). Busy (after_taken p (end_of j c) (way_of c) o) (with_token p (end_of j c) (way_of c) None s) taken.joint.asking) (sym slot_is) busy

          law_here : LawAt p o j (Share t) (s.state j) x.value x.row
          law_here = subst (λ (k : Part). LawAt p o j k (s.state j) x.value x.row) kind (law j x.kind slot x.row x.value x.is x.lies x.fires)

          tied : Passed (contacts_of t) a h × (is_put (Ans h) (x.row.puts x.value) ≡ false)
          tied = (law_here a h).0 put (ap (λ (c : Slot). same_slot c (Req h)) (x.takes ∙ slot_is) ∙ same_req h)

          serves : RoleIs (Share t) h Serve
          serves =
              let role = (row_roles x.kind (s.state j) slot x.row x.value x.fires).1.0 in
              subst (λ (k : Part). RoleIs k h Serve) kind (subst (λ (c : Slot). RoleIs x.kind (shake_of c) (role_taking c)) (x.takes ∙ slot_is) role)

          never : NeverAnswers p j taken.joint.asking (x.row.puts x.value)
          never g put_there place =
              let same = one_server p (PartEnd j h) (PartEnd j g) taken.joint.asking right taken.place place (at_end p j h (Share t) (x.is ∙ ap (λ (k : Part). Some k) kind) serves)
              (at_end p j g x.kind x.is (put_role x.kind (x.row.puts x.value) g x.puts_role put_there)) in
              true_is_not_false (is_put (Ans g) (x.row.puts x.value)) put_there (ap (λ (k : ℕ). is_put (Ans k) (x.row.puts x.value)) (sym (shake_is j j h g same)) ∙ tied.1)

          busy_now : Busy m w taken.joint.asking
          busy_now = keeps_busy p j slot o m s w taken.joint.asking x busy_taken_so never

      own_rooted : (a : ℕ) → m (PartEnd j a) ≡ true → Rooted p m w (PartEnd j a)
      own_rooted a up = by_before (o (PartEnd j a)) refl
        where
          of_share : o (PartEnd j a) ≡ false → (t : Type') → x.kind ≡ Share t → Rooted p m w (PartEnd j a)
          of_share shut t kind = by_put (is_put (Req a) (x.row.puts x.value)) refl (sym (open_after p j slot o m s w a right x) ∙ up)
            where
              by_put : (b : Bool) → is_put (Req a) (x.row.puts x.value) ≡ b → (if b then true else after_taking slot (asked_by j o) a) ≡ true → Rooted p m w (PartEnd j a)
              by_put true put now = let took = share_takes t kind a put in opened t kind a took.0 took.1 put
              by_put false put now = absurd (true_is_not_false (o (PartEnd j a)) (was_open slot (asked_by j o) a now).0 shut)

          of_plain : o (PartEnd j a) ≡ false → IsUnshared x.kind → Rooted p m w (PartEnd j a)
          of_plain shut plain = at_plain j a x.kind x.is plain (plain_now a plain (λ was. absurd (true_is_not_false (o (PartEnd j a)) was shut)) up)

          by_before : (b : Bool) → o (PartEnd j a) ≡ b → Rooted p m w (PartEnd j a)
          by_before true before = keeps (PartEnd j a) (rooted (PartEnd j a) before) before up
          by_before false shut = told_share x.kind (λ k. x.kind ≡ k → Rooted p m w (PartEnd j a)) (λ plain same. of_plain shut plain) (λ t kind same. of_share shut t kind) refl

      pub fire_rooted : AllRooted p m w
      fire_rooted (ImportEnd i h) up = at_port (ImportEnd i h) tt
      fire_rooted (ResultEnd h) up = at_port (ResultEnd h) tt
      fire_rooted (PartEnd i a) up = by_part (nat_eq i j) refl
        where
          by_part : (b : Bool) → nat_eq i j ≡ b → Rooted p m w (PartEnd i a)
          by_part false apart =
              let before = sym (open_other p i j slot o m s w a right x apart) ∙ up in keeps (PartEnd i a) (rooted (PartEnd i a) before) before up
          by_part true same =
              let here : i ≡ j = sym (same_number i j same) in
              subst (λ (n : ℕ). Rooted p m w (PartEnd n a)) (sym here) (own_rooted a (ap (λ (n : ℕ). m (PartEnd n a)) (sym here) ∙ up))

  -- an input or an output
  module _
      (o u : Open) (s w : Tokens) (same : (i a : ℕ) → u (PartEnd i a) ≡ o (PartEnd i a)) (states : (i : ℕ) → w.state i ≡ s.state i)
      (busy :
      (i k : ℕ) (n : End)
      → ((d : Contact) → contact_at p (PartEnd i k) ≡ Some d → d.role ≡ Serve) → places_of p (PartEnd i k) ≡ Some n → Busy o s n → Busy u w n) where
    keeps_port : (y : End) → Rooted p o s y → Rooted p u w y
    keeps_port y (at_port e port) = at_port y port
    keeps_port y (at_plain i a k is plain waits) = at_plain i a k is plain (subst (λ (q : State). Waits k q a) (sym (states i)) waits)
    keeps_port y (at_share i a b t n is there serves passed busy_there below) =
        at_share i a b t n is there serves passed (busy i b n (at_end p i b (Share t) is serves) there busy_there) (keeps_port n below)

    port_rooted : AllRooted p o s → AllRooted p u w
    port_rooted rooted (PartEnd i a) up = keeps_port (PartEnd i a) (rooted (PartEnd i a) (sym (same i a) ∙ up))
    port_rooted rooted (ImportEnd i h) up = at_port (ImportEnd i h) tt
    port_rooted rooted (ResultEnd h) up = at_port (ResultEnd h) tt

  out_rooted : (e : End) (v : ℕ) (o u : Open) (s w : Tokens) → Does p (Out e v) s w → ComesInOrder p (Out e v) s o u → AllRooted p o s → AllRooted p u w
  out_rooted e v o u s w does comes rooted = of_contact (contact_at p e) refl
    where
      of_contact : (f : Option Contact) → contact_at p e ≡ f → AllRooted p u w
      of_contact None none = absurd (subst (λ (f : Option Contact). Passes' p e v f s w) none does.1)
      of_contact (Some c) there =
          let passes = subst (λ (f : Option Contact). Passes' p e v f s w) there does.1 in
          let opens = comes c there in
          port_rooted o u s w (λ i a. ap (λ (z : Open). z (PartEnd i a)) opens ∙ taken_port p i e c o right does.0 there a)
          (λ i. ap (λ (z : Tokens). z.state i) passes.1 ∙ token_state p e (way_taken c.role) None s i)
          (λ i k n serves place busy. subst (λ (z : Open). Busy z w n) (sym opens)
          (subst (λ (z : Tokens). Busy (after_taken p e (way_taken c.role) o) z n) (sym passes.1) (busy_taken p e (way_taken c.role) v o s n passes.0 busy)))
          rooted

  in_rooted : (e : End) (v : ℕ) (o u : Open) (s w : Tokens) → Does p (In e v) s w → ComesInOrder p (In e v) s o u → AllRooted p o s → AllRooted p u w
  in_rooted e v o u s w does comes rooted = of_contact (contact_at p e) refl
    where
      port_apart : (i k : ℕ) → IsPortEnd e → e ≡ PartEnd i k → ⊥
      port_apart i k port same = subst (λ (y : End). IsPortEnd y) same port

      of_role : (role : Role) → way_put role ≡ Answer → role ≡ Serve
      of_role Serve is = refl
      of_role Ask is = absurd (cc is)

      of_contact : (f : Option Contact) → contact_at p e ≡ f → AllRooted p u w
      of_contact None none = absurd (subst (λ (f : Option Contact). Comes' p e v f s w) none does.1)
      of_contact (Some c) there =
          let passes = subst (λ (f : Option Contact). Comes' p e v f s w) there does.1 in
          let opens = comes c there in
          port_rooted o u s w (λ i a. ap (λ (z : Open). z (PartEnd i a)) opens.1 ∙ put_port p i e c o right does.0 there a)
          (λ i. ap (λ (z : Tokens). z.state i) passes.1 ∙ token_state p e (way_put c.role) (Some v) s i)
          (λ i k n serves place busy. subst (λ (z : Open). Busy z w n) (sym opens.1)
          (subst (λ (z : Tokens). Busy (after_put p e (way_put c.role) o) z n) (sym passes.1)
          (busy_put p e (way_put c.role) v o s n opens.0
          (λ way at. port_apart i k does.0 (one_server p e (PartEnd i k) n right at place
          (λ d also. let same : c ≡ d = cc (there, also) in ap (λ (z : Contact). z.role) (sym same) ∙ of_role c.role way) serves)) busy)))
          rooted

  one_rooted : (x : Element) (o u : Open) (s w : Tokens) → AllFit o s → Law p o s → Does p x s w → ComesInOrder p x s o u → AllRooted p o s → AllRooted p u w
  one_rooted (Fire j slot) o u s w fit law does comes rooted = fire_rooted j slot o u s w fit law (fact p j slot o u s w does comes) rooted
  one_rooted (Out e v) o u s w fit law does comes rooted = out_rooted e v o u s w does comes rooted
  one_rooted (In e v) o u s w fit law does comes rooted = in_rooted e v o u s w does comes rooted

  all_rooted : (first : Tokens) → IsIdle p first → (xs ys : List Element) (o u : Open) (s t : Tokens) → OrderlyFrom p ys none_open first o s → OrderlyFrom p xs o s u t
      → AllFit o s → AllRooted p o s → AllRooted p u t
  all_rooted first idle [] ys o u s t before list fit rooted =
      subst (λ (z : Open). AllRooted p z t) (sym list.0) (subst (λ (z : Tokens). AllRooted p o z) (sym list.1) rooted)
  all_rooted first idle (x ∷ xs) ys o u s t before (m, w, does, comes, welcome, list) fit rooted =
      all_rooted first idle xs (ys ++ x ∷ []) m u w t (orderly_then p ys (x ∷ []) none_open o m first s w before (m, w, does, comes, welcome, (refl, refl))) list
      (step p x o m s w does comes fit) (one_rooted x o m s w fit (always_ties p right first s ys o idle before) does comes rooted)

  -- where all is idle
  none_waits : (o : Open) (t : Tokens) → IsIdle p t → ((e : End) → IsPortEnd e → o e ≡ false) → (y : End) → Rooted p o t y → o y ≡ true → ⊥
  none_waits o t idle shut y (at_port e port) up = true_is_not_false (o y) up (shut y port)
  none_waits o t idle shut y (at_plain i a k is plain waits) up =
      rest_waits k (t.state i).number a (subst (λ (q : Phase). Waits k (at q (t.state i).number) a) (idle.1 i) waits)
  none_waits o t idle shut y (at_share i a b s n is there serves passed busy below) up = none_waits o t idle shut n below busy.is_open

  -- What is open at a port's name the port asks, and it is open by what passed there.
  abbrev pub Ports : Open → List Pass → Type 0
  Ports o past = (e : End) → IsPortEnd e → o e ≡ true → ((c : Contact) × (contact_at p e ≡ Some c) × (c.role ≡ Ask)) × (is_open past e ≡ true)

  put_port_open : (e : End) (c : Contact) → IsPortEnd e → contact_at p e ≡ Some c → (o : Open) (past : List Pass) → Ports o past
      → (role : Role) → c.role ≡ role → Ports (after_put p e (way_put role) o) (pass e (way_put role) ∷ past)
  put_port_open e c port there o past ports Ask asks d at up = by_test (same_end d e) (same_end e d) refl refl shown
    where
      shown : (if same_end d e then true else o d) ≡ true
      shown = ap (λ (n : End). if same_end d n then true else o d) (sym (asks_itself e c there asks)) ∙ up

      by_test : (b q : Bool) → same_end d e ≡ b → same_end e d ≡ q → (if b then true else o d) ≡ true
          → ((c : Contact) × (contact_at p d ≡ Some c) × (c.role ≡ Ask)) × (is_open (pass e Request ∷ past) d ≡ true)
      by_test true q t l up =
          let is = same_is d e t in
          ((c, ap (contact_at p) is ∙ there, asks), ap (λ (x : End). if same_end e x then true else is_open past x) is ∙ ap (λ (b : Bool). if b then true else is_open past e) (same_itself e))
      by_test false true t l up = absurd (true_is_not_false (same_end d e) (ap (λ (x : End). same_end d x) (same_is e d l) ∙ same_itself d) t)
      by_test false false t l up = let (own, held) = ports d at up in (own, ap (λ (b : Bool). if b then true else is_open past d) l ∙ held)
  put_port_open e c port there o past ports Serve serves d at up = by_test (same_end e d) refl
    where
      by_test : (q : Bool) → same_end e d ≡ q → ((c : Contact) × (contact_at p d ≡ Some c) × (c.role ≡ Ask)) × (is_open (pass e Answer ∷ past) d ≡ true)
      by_test true l =
          let ((k, at_d, asks), held) = ports d at up in
          let same : c ≡ k = same_Some c k (sym there ∙ (ap (contact_at p) (same_is e d l) ∙ at_d)) in
          let clash : Serve ≡ Ask = sym serves ∙ (ap (λ (x : Contact). x.role) same ∙ asks) in absurd (cc clash)
      by_test false l = let (own, held) = ports d at up in (own, ap (λ (b : Bool). if b then false else is_open past d) l ∙ held)

  taken_port_open : (e : End) (c : Contact) → IsPortEnd e → contact_at p e ≡ Some c → (o : Open) (past : List Pass) → Ports o past
      → (role : Role) → c.role ≡ role → Ports (after_taken p e (way_taken role) o) (pass e (way_taken role) ∷ past)
  taken_port_open e c port there o past ports Ask asks d at up = by_test (same_end d e) (same_end e d) refl refl shown
    where
      shown : (if same_end d e then false else o d) ≡ true
      shown = ap (λ (n : End). if same_end d n then false else o d) (sym (asks_itself e c there asks)) ∙ up

      by_test : (b q : Bool) → same_end d e ≡ b → same_end e d ≡ q → (if b then false else o d) ≡ true
          → ((c : Contact) × (contact_at p d ≡ Some c) × (c.role ≡ Ask)) × (is_open (pass e Answer ∷ past) d ≡ true)
      by_test true q t l up = absurd (cc up)
      by_test false true t l up = absurd (true_is_not_false (same_end d e) (ap (λ (x : End). same_end d x) (same_is e d l) ∙ same_itself d) t)
      by_test false false t l up = let (own, held) = ports d at up in (own, ap (λ (b : Bool). if b then false else is_open past d) l ∙ held)
  taken_port_open e c port there o past ports Serve serves d at up = by_test (same_end e d) refl
    where
      by_test : (q : Bool) → same_end e d ≡ q → ((c : Contact) × (contact_at p d ≡ Some c) × (c.role ≡ Ask)) × (is_open (pass e Request ∷ past) d ≡ true)
      by_test true l = let (own, held) = ports d at up in (own, ap (λ (b : Bool). if b then true else is_open past d) l)
      by_test false l = let (own, held) = ports d at up in (own, ap (λ (b : Bool). if b then true else is_open past d) l ∙ held)

  pub ports_after : (x : Element) (o u : Open) (s w : Tokens) (past : List Pass) → Does p x s w → ComesInOrder p x s o u → Ports o past → Ports u (after p x past)
  ports_after (Fire j slot) o u s w past does comes ports =
      λ e port up. ports e port (port_before j slot o u s w (fact p j slot o u s w does comes) e port up)
  ports_after (Out e v) o u s w past does comes ports =
      let (c, there) = out_there p e v s w does in
      subst (λ (z : Open). Ports z (pass e (way_out (contact_at p e)) ∷ past)) (sym (comes c there))
      (subst (λ (way : Direction). Ports (after_taken p e (way_taken c.role) o) (pass e way ∷ past)) (sym (ap way_out there))
      (taken_port_open e c does.0 there o past ports c.role refl))
  ports_after (In e v) o u s w past does comes ports =
      let (c, there) = in_there p e v s w does in
      subst (λ (z : Open). Ports z (pass e (way_in (contact_at p e)) ∷ past)) (sym (comes c there).1)
      (subst (λ (way : Direction). Ports (after_put p e (way_put c.role) o) (pass e way ∷ past)) (sym (ap way_in there))
      (put_port_open e c does.0 there o past ports c.role refl))

  pub ports_along : (xs : List Element) (o u : Open) (s t : Tokens) (past : List Pass) → OrderlyFrom p xs o s u t → Ports o past → Ports u (passed p past xs)
  ports_along [] o u s t past (is, same) ports = subst (λ (z : Open). Ports z past) (sym is) ports
  ports_along (x ∷ xs) o u s t past (m, w, does, comes, welcome, rest) ports =
      ports_along xs m u w t (after p x past) rest (ports_after x o m s w past does comes ports)

pub open_idle_is_closed : OpenIdleIsClosed
open_idle_is_closed p xs o s t right idle list rests shut e = by_test (o e) refl
  where
    at_first : AllFit none_open s
    at_first a = (idle.0 Request a, idle.0 Answer a)

    rooted : AllRooted p o t
    rooted = all_rooted p right s idle xs [] none_open o s t (refl, refl) list at_first (λ x up. absurd (cc up))

    by_test : (b : Bool) → o e ≡ b → b ≡ false
    by_test false t' = refl
    by_test true up = absurd (none_waits p right o t rests shut e (rooted e up) up)

-- with ground imports the result alone asks
pub idle_is_closed : IdleIsClosed
idle_is_closed p xs o s t right ground done idle list rests shut = open_idle_is_closed p xs o s t right idle list rests ports
  where
    ports : (e : End) → IsPortEnd e → o e ≡ false
    ports e port = by_test (o e) refl
      where
        by_test : (b : Bool) → o e ≡ b → b ≡ false
        by_test false t' = refl
        by_test true up =
            let ((c, there, asks), held) = ports_along p right xs none_open o s t [] list (λ d at up. absurd (cc up)) e port up in
            elim (port_role p ground done e c port there) [
              | inl result ↦ sym up ∙ (ap o result.0 ∙ shut)
              | inr import ↦ (let clash : Ask ≡ Serve = sym asks ∙ import.3 in absurd (cc clash))
            ]
