-- The rows of a Share that it fires between its source and one caller, and what is seen of such a firing.
use Rattle.std.specs.Prelude.{◌⊎◌, ◌+◌, ◌*◌, ◌<◌, ◌≤◌, None, slice_get}
use Rattle.std.proofs.Common.{◌≡◌, ℕ, zero, suc, Bool, true, false, List, [], ◌∷◌, Option, Some, Contains, inl, inr, refl, sym, ◌∙◌, ap, subst, arith}
use Rattle.std.proofs.lemmas.Option.{slice_get_within}
use Rattle.gos_types.specs.Types.{Type'}
use Rattle.gos_types.specs.declared.shakes.Role.{Role}
use Rattle.gos_types.specs.declared.shakes.Role.TheVariants.{Serve, Ask}
use Rattle.gos_types.specs.Events.{Direction, Request, Answer}
use Rattle.gos_types.proofs.RoleLemmas.{serve_is_not_ask}
use Rattle.gos_realises.specs.realises.Regular.{count}
use Rattle.gos_plan.specs.Kinds.{Contact, asks, serves, Part, Share, contacts_of, part_contacts}
use Rattle.gos_plan.specs.Plans.{End, PartEnd, Joint, Plan, contact_at, IsRight}
use Rattle.gos_plan.specs.Firing.{Rest, State, at, Slot, Req, Ans, Token, put, Row, row, shared_rows, firing}
use Rattle.gos_plan.specs.Tokens.{Tokens, Fire, places_of, with_place, with_held, held_at, token_at, with_token, with_state, with_puts, end_of, way_of, shake_of, firing_of, Does}
use Rattle.gos_plan.proofs.JointLemmas.{IsIn, Found, found, fits, one_joint}
use Rattle.gos_plan.proofs.RowLemmas.{role_taking, EachRow}
use Rattle.gos_plan.proofs.AskingLemmas.{RoleIs, PutsInRole, row_roles}
use Rattle.gos_plan.proofs.ShareTableLemmas.{share_row}
use Rattle.gos_plan.proofs.ContactLemmas.{part_contact}
use Rattle.gos_joining.specs.webs.Webs.{joint}
use Rattle.gos_joining.specs.webs.Cutting.{asks_in}
use Rattle.gos_sharing.specs.sharing.Sharing.{IsSeenThrough, passed_on, follower, seen_tokens, IsForCaller, LeadsThrough, way_into, way_out_of}
use Rattle.gos_joining.proofs.webs.MovedLemmas.{listed}
use Rattle.gos_joining.proofs.webs.WebLemmas.{serves_there}
use Rattle.gos_sharing.proofs.sharing.SeenPlaceLemmas.{to_caller, to_source, other_in, followed}
use Rattle.gos_sharing.proofs.sharing.SeenTokenLemmas.{next, Owns, asking_at, outside_at, follows, of_part, either_end, place_asking, place_serving}
use Rattle.gos_sharing.proofs.sharing.SeenFillLemmas.{IsClear}
use Rattle.gos_sharing.proofs.sharing.SeenFireLemmas.{passed_seen, passed_unseen}

-- where requests of handshake j come in and go out, by its role
abbrev pub in_number : ℕ → ℕ → ℕ → Role → ℕ
in_number n c j Serve = n + c * n + j
in_number n c j Ask = j

abbrev pub out_number : ℕ → ℕ → ℕ → Role → ℕ
out_number n c j Serve = j
out_number n c j Ask = n + c * n + j

-- a row that passes a request or an answer on
abbrev pub Passing : ℕ → ℕ → ℕ → Role → Row → Type 0
Passing n c j role r =
    ((r.takes ≡ Req (in_number n c j role)) × ((v : ℕ) → r.puts v ≡ put (Req (out_number n c j role)) v ∷ []))
    ⊎ ((r.takes ≡ Ans (out_number n c j role)) × ((v : ℕ) → r.puts v ≡ put (Ans (in_number n c j role)) v ∷ []))

-- the type has a handshake of this number and role
abbrev pub IsAt : Type' → ℕ → Role → Type 0
IsAt t j role = (k : Contact) × (slice_get (contacts_of t) j ≡ Some k) × (k.role ≡ role)

abbrev pub Passes : Type' → ℕ → Row → Type 0
Passes t c r = (j : ℕ) × (role : Role) × IsAt t j role × Passing (count t) c j role r

abbrev pub PassesIf : Type' → ℕ → ℕ → Row → Type 0
PassesIf t c b r = IsForCaller t c b (shake_of r.takes) → Passes t c r

pub first_caller : (n j c : ℕ) → j < n → n + c * n ≤ n + j → c ≡ 0
first_caller n j zero h k = refl
first_caller n j (suc c) h k = absurd (omega (arith, h, k))

pub second_caller : (n j c : ℕ) → c < 2 → n + n + j < n + c * n + n → c ≡ 1
second_caller n j zero h k = absurd (omega (arith, h, k))
second_caller n j (suc zero) h k = refl
second_caller n j (suc (suc c)) h k = absurd (omega (arith, h))

pub same_branch : (n j b c : ℕ) → c < 2 → j < n → n + c * n ≤ n + b * n + j → n + b * n + j < n + c * n + n → b ≡ c
same_branch n j zero zero h l k m = refl
same_branch n j (suc b) zero h l k m = absurd (omega (arith, h, l, k, m))
same_branch n j zero (suc zero) h l k m = absurd (omega (arith, h, l, k, m))
same_branch n j (suc zero) (suc zero) h l k m = refl
same_branch n j (suc (suc b)) (suc zero) h l k m = absurd (omega (arith, h, l, k, m))
same_branch n j b (suc (suc c)) h l k m = absurd (omega (arith, h))

serve_first : (t : Type') (c b j : ℕ) → j < count t → IsAt t j Serve → (r : Row) → r.takes ≡ Req (count t + j) → ((v : ℕ) → r.puts v ≡ put (Req j) v ∷ [])
    → IsForCaller t c b (count t + j) → Passes t c r
serve_first t c b j lt there r takes puts (inl h) =
    let e : c ≡ 0 = first_caller (count t) j c lt h.0 in
    let same : count t + j ≡ count t + c * count t + j = rw e (omega arith) in (j, Serve, there, inl (takes ∙ ap Req same, puts))
serve_first t c b j lt there r takes puts (inr h) = absurd (omega (arith, h.0))

serve_second : (t : Type') (c b j : ℕ) → c < 2 → j < count t → IsAt t j Serve → (r : Row) → r.takes ≡ Req (count t + count t + j) → ((v : ℕ) → r.puts v ≡ put (Req j) v ∷ [])
    → IsForCaller t c b (count t + count t + j) → Passes t c r
serve_second t c b j two lt there r takes puts (inl h) =
    let e : c ≡ 1 = second_caller (count t) j c two h.1 in
    let same : count t + count t + j ≡ count t + c * count t + j = rw e (omega arith) in (j, Serve, there, inl (takes ∙ ap Req same, puts))
serve_second t c b j two lt there r takes puts (inr h) = absurd (omega (arith, h.0))

serve_answer : (t : Type') (c b j : ℕ) → j < count t → IsAt t j Serve → (r : Row) → r.takes ≡ Ans j → ((v : ℕ) → r.puts v ≡ put (Ans (count t + b * count t + j)) v ∷ [])
    → IsForCaller t c b j → Passes t c r
serve_answer t c b j lt there r takes puts (inl h) = absurd (omega (arith, h.0, lt))
serve_answer t c b j lt there r takes puts (inr h) =
    (j, Serve, there, inr (takes, λ v. puts v ∙ ap (λ x. put (Ans (count t + x * count t + j)) v ∷ []) h.1))

ask_request : (t : Type') (c b j : ℕ) → j < count t → IsAt t j Ask → (r : Row) → r.takes ≡ Req j → ((v : ℕ) → r.puts v ≡ put (Req (count t + b * count t + j)) v ∷ [])
    → IsForCaller t c b j → Passes t c r
ask_request t c b j lt there r takes puts (inl h) = absurd (omega (arith, h.0, lt))
ask_request t c b j lt there r takes puts (inr h) =
    (j, Ask, there, inl (takes, λ v. puts v ∙ ap (λ x. put (Req (count t + x * count t + j)) v ∷ []) h.1))

ask_answer : (t : Type') (c b j : ℕ) → c < 2 → j < count t → IsAt t j Ask → (r : Row) → r.takes ≡ Ans (count t + b * count t + j) → ((v : ℕ) → r.puts v ≡ put (Ans j) v ∷ [])
    → IsForCaller t c b (count t + b * count t + j) → Passes t c r
ask_answer t c b j two lt there r takes puts (inl h) =
    let e : b ≡ c = same_branch (count t) j b c two lt h.0 h.1 in
    (j, Ask, there, inr (takes ∙ ap (λ x. Ans (count t + x * count t + j)) e, puts))
ask_answer t c b j two lt there r takes puts (inr h) = absurd (omega (arith, h.0))

of_role : (t : Type') (c b j : ℕ) (role : Role) → c < 2 → j < count t → IsAt t j role → EachRow (PassesIf t c b) (shared_rows role (count t) j b)
of_role t c b j Serve two lt there = (
  serve_first t c b j lt there (row (Req (count t + j)) (at Rest 0) (put (Req j))) refl (λ v. refl),
  (
    serve_second t c b j two lt there (row (Req (count t + count t + j)) (at Rest 1) (put (Req j))) refl (λ v. refl),
    (serve_answer t c b j lt there (row (Ans j) (at Rest b) (put (Ans (count t + b * count t + j)))) refl (λ v. refl), tt),
  ),
)
of_role t c b j Ask two lt there = (
  ask_request t c b j lt there (row (Req j) (at Rest b) (put (Req (count t + b * count t + j)))) refl (λ v. refl),
  (ask_answer t c b j two lt there (row (Ans (count t + b * count t + j)) (at Rest b) (put (Ans j))) refl (λ v. refl), tt),
)

pub passing : (t : Type') (c : ℕ) → c < 2 → (x : State) (slot : Slot) (r : Row) → firing (Share t) x slot ≡ Some r → (r.takes ≡ slot) × PassesIf t c x.number r
passing t c two x slot r by =
    share_row (PassesIf t c x.number) t x slot r (λ j k at. of_role t c x.number j k.role two (slice_get_within (contacts_of t) j k at) (k, at, refl)) by

-- who asks, and who serves, at a handshake of the Share
pub served_there : (r : Plan) (i h : ℕ) (k : Part) (d : End) → IsRight r → slice_get r.parts i ≡ Some k → RoleIs k h Serve → places_of r (PartEnd i h) ≡ Some d → IsIn (joint d (PartEnd i h)) r.joints
served_there r i h k d right at_i role there = by_end (either_end (PartEnd i h) f.joint.asking f.joint.serving f.stands)
  where
    f : Found r.joints (PartEnd i h) d
    f = found r.joints (PartEnd i h) d there

    by_end : (PartEnd i h ≡ f.joint.asking) ⊎ (PartEnd i h ≡ f.joint.serving) → IsIn (joint d (PartEnd i h)) r.joints
    by_end (inl e) =
        let fit = fits r [] r.joints f.joint right f.is_in in
        let there : slice_get (part_contacts k) h ≡ Some (asks fit.0 fit.1) = sym (part_contact r i h k at_i) ∙ (ap (contact_at r) e ∙ fit.2) in
        let other : Ask ≡ Serve = role (asks fit.0 fit.1) there in
        absurd (serve_is_not_ask (sym other))
    by_end (inr e) =
        subst (λ (x : End). IsIn (joint d x) r.joints) (sym e) (subst (λ (x : End). IsIn (joint x f.joint.serving) r.joints) f.named f.is_in)

pub asked_there : (r : Plan) (i h : ℕ) (k : Part) (d : End) → IsRight r → slice_get r.parts i ≡ Some k → RoleIs k h Ask → places_of r (PartEnd i h) ≡ Some d → d ≡ PartEnd i h
asked_there r i h k d right at_i role there = by_end (either_end (PartEnd i h) f.joint.asking f.joint.serving f.stands)
  where
    f : Found r.joints (PartEnd i h) d
    f = found r.joints (PartEnd i h) d there

    by_end : (PartEnd i h ≡ f.joint.asking) ⊎ (PartEnd i h ≡ f.joint.serving) → d ≡ PartEnd i h
    by_end (inl e) = sym f.named ∙ sym e
    by_end (inr e) =
        let fit = fits r [] r.joints f.joint right f.is_in in
        let there : slice_get (part_contacts k) h ≡ Some (serves fit.0 fit.1) = sym (part_contact r i h k at_i) ∙ (ap (contact_at r) e ∙ fit.3) in
        let other : Serve ≡ Ask = role (serves fit.0 fit.1) there in
        absurd (serve_is_not_ask other)

-- Two handshakes of the Share that belong together: at the one it serves, and at the other it asks.
pub record Pair (i : ℕ) (t : Type') (c : ℕ) (r : Plan) (h g : ℕ) : Type 0 where
  pub onward : passed_on t c h ≡ g
  pub back : passed_on t c g ≡ h
  pub serves_at : RoleIs (Share t) h Serve
  pub asks_at : RoleIs (Share t) g Ask
  pub leads : (a b : End) → IsIn (joint a (PartEnd i h)) r.joints → IsIn (joint (PartEnd i g) b) r.joints → LeadsThrough i t c r a b

pub pair_through : (i : ℕ) (t : Type') (c : ℕ) (r q : Plan) → IsSeenThrough i t c r q → (h g : ℕ) → Pair i t c r h g → (a : End) → IsIn (joint a (PartEnd i h)) r.joints
    → asks_in q.joints a ≡ true → next i t c r a ≡ Some (PartEnd i g)
pair_through i t c r q is h g pair a into asks =
    ap (follower i t c) (other_in r a (PartEnd i h) is.right into) ∙ (followed i t c h ∙ ap (λ n. Some (PartEnd i n)) pair.onward)

-- whose next place is the one at which the Share asks, leads into it at the other
pub into_pair : (i : ℕ) (t : Type') (c : ℕ) (r q : Plan) → IsSeenThrough i t c r q → (h g : ℕ) → Pair i t c r h g → (a : End) → asks_in q.joints a ≡ true
    → next i t c r a ≡ Some (PartEnd i g) → IsIn (joint a (PartEnd i h)) r.joints
into_pair i t c r q is h g pair a asks onto =
    let w = follows i t c r q a (PartEnd i g) (asking_at i t c r q is a asks) onto in
    let ends = w.1 in
    let passed : g ≡ passed_on t c w.0.shake = cc ends in
    let same : w.0.shake ≡ h = sym w.0.back ∙ (ap (passed_on t c) (sym passed) ∙ pair.back) in
    subst (λ (n : ℕ). IsIn (joint a (PartEnd i n)) r.joints) same w.0.into

-- so nobody who isn't seen owns a place of either
no_asker : (i : ℕ) (t : Type') (c : ℕ) (r q : Plan) → IsSeenThrough i t c r q → (h g : ℕ) → Pair i t c r h g → (a d : End) → IsIn (joint d (PartEnd i h)) r.joints
    → asks_in q.joints d ≡ false → asks_in q.joints a ≡ true → Owns i t c r a d → ⊥
no_asker i t c r q is h g pair a d into hidden asks (inl o) =
    let e : asks_in q.joints d ≡ true = ap (asks_in q.joints) o ∙ asks in let f : true ≡ false = sym e ∙ hidden in cc f
no_asker i t c r q is h g pair a d into hidden asks (inr o) =
    let w = follows i t c r q a d (asking_at i t c r q is a asks) o in
    is.apart d (PartEnd i h) (listed r.joints (joint d (PartEnd i h)) into) (of_part i (passed_on t c w.0.shake) d w.1) refl

no_follower : (i : ℕ) (t : Type') (c : ℕ) (r q : Plan) → IsSeenThrough i t c r q → (h g : ℕ) → Pair i t c r h g → (a d : End) → d ≡ PartEnd i g
    → ((b : End) → IsIn (joint b (PartEnd i h)) r.joints → asks_in q.joints b ≡ false)
    → asks_in q.joints a ≡ true → Owns i t c r a d → ⊥
no_follower i t c r q is h g pair a d at_g hidden asks (inl o) = outside_at i t c r q a (asking_at i t c r q is a asks) (of_part i g a (sym o ∙ at_g))
no_follower i t c r q is h g pair a d at_g hidden asks (inr o) =
    let onto : next i t c r a ≡ Some (PartEnd i g) = o ∙ ap Some at_g in
    let into = into_pair i t c r q is h g pair a asks onto in
    let f : true ≡ false = sym asks ∙ hidden a into in cc f

-- what lies in one place of a joint leaves the other empty
abbrev pub AllClear : ℕ → Type' → ℕ → Plan → Plan → Tokens → Type 0
AllClear i t c r q s = (way : Direction) (a d : End) (v : ℕ) → asks_in q.joints a ≡ true → Owns i t c r a d → s.in_place way d ≡ Some v → IsClear i t c r s way a d

pub only_asker : (r : Plan) (i h : ℕ) (a b : End) → IsRight r → IsIn (joint a (PartEnd i h)) r.joints → IsIn (joint b (PartEnd i h)) r.joints → a ≡ b
only_asker r i h a b right one other =
    ap (λ (j : Joint). j.asking)
    (one_joint r [] r.joints (joint a (PartEnd i h)) (joint b (PartEnd i h)) (PartEnd i h) right one other (serves_there a (PartEnd i h)) (serves_there b (PartEnd i h)))

pub differ : (i : ℕ) (t : Type') (c : ℕ) (r q : Plan) → IsSeenThrough i t c r q → (a : End) (g : ℕ) → asks_in q.joints a ≡ true → a ≡ PartEnd i g → ⊥
differ i t c r q is a g asks e = outside_at i t c r q a (asking_at i t c r q is a asks) (of_part i g a e)

request_passed : (i : ℕ) (t : Type') (c : ℕ) (r q : Plan) → IsSeenThrough i t c r q → (h g : ℕ) → Pair i t c r h g → (v : ℕ) (x : State) (s : Tokens) → AllClear i t c r q s
    → token_at r s (PartEnd i h) Request ≡ Some v
    → seen_tokens i t c r q (with_token r (PartEnd i g) Request (Some v) (with_state i x (with_token r (PartEnd i h) Request None s))) ≡ seen_tokens i t c r q s
request_passed i t c r q is h g pair v x s clear lies = by_place (places_of r (PartEnd i h)) refl
  where
    at_place : (d : End) → places_of r (PartEnd i h) ≡ Some d → IsIn (joint d (PartEnd i h)) r.joints → s.in_place Request d ≡ Some v → (b : Bool) → asks_in q.joints d ≡ b
        → (o : Option End) → places_of r (PartEnd i g) ≡ o
        → seen_tokens i t c r q (with_held Request o (Some v) (with_state i x (with_place Request d None s))) ≡ seen_tokens i t c r q s
    at_place d there into here true asks None out =
        let onto = pair_through i t c r q is h g pair d into asks in
        let w = follows i t c r q d (PartEnd i g) (asking_at i t c r q is d asks) onto in
        let at_g : places_of r (PartEnd i g) ≡ Some (PartEnd i g) =
        subst (λ (y : End). places_of r y ≡ Some y) (sym w.1) (place_asking r (PartEnd i (passed_on t c w.0.shake)) w.0.serving is.right w.0.out) in
        let clash : None ≡ Some (PartEnd i g) = sym out ∙ at_g in
        absurd (cc clash)
    at_place d there into here true asks (Some e) out =
        let at_g : e ≡ PartEnd i g = asked_there r i g (Share t) e is.right is.share pair.asks_at out in
        let onto = pair_through i t c r q is h g pair d into asks in
        passed_seen i t c r q is Request d d e v x s asks (inl refl) (inr (onto ∙ ap Some (sym at_g))) (λ k. differ i t c r q is d g asks (k ∙ at_g)) here
        (clear Request d d v asks (inl refl) here)
    at_place d there into here false hidden o out =
        passed_unseen i t c r q Request d o v x s (λ a asks owns. no_asker i t c r q is h g pair a d into hidden asks owns)
        (λ a e asks is_e owns. no_follower i t c r q is h g pair a e (asked_there r i g (Share t) e is.right is.share pair.asks_at (out ∙ is_e))
        (λ b also. ap (asks_in q.joints) (only_asker r i h b d is.right also into) ∙ hidden) asks owns)

    by_place : (o : Option End) → places_of r (PartEnd i h) ≡ o
        → seen_tokens i t c r q (with_token r (PartEnd i g) Request (Some v) (with_state i x (with_held Request (places_of r (PartEnd i h)) None s))) ≡ seen_tokens i t c r q s
    by_place None none = let no : None ≡ Some v = sym (ap (held_at s Request) none) ∙ lies in absurd (cc no)
    by_place (Some d) there =
        let here : s.in_place Request d ≡ Some v = sym (ap (held_at s Request) there) ∙ lies in
        ap (λ o. seen_tokens i t c r q (with_token r (PartEnd i g) Request (Some v) (with_state i x (with_held Request o None s)))) there
        ∙ at_place d there (served_there r i h (Share t) d is.right is.share pair.serves_at there) here (asks_in q.joints d) refl (places_of r (PartEnd i g)) refl

answer_passed : (i : ℕ) (t : Type') (c : ℕ) (r q : Plan) → IsSeenThrough i t c r q → (h g : ℕ) → Pair i t c r h g → (v : ℕ) (x : State) (s : Tokens) → AllClear i t c r q s
    → token_at r s (PartEnd i g) Answer ≡ Some v
    → seen_tokens i t c r q (with_token r (PartEnd i h) Answer (Some v) (with_state i x (with_token r (PartEnd i g) Answer None s))) ≡ seen_tokens i t c r q s
answer_passed i t c r q is h g pair v x s clear lies = by_place (places_of r (PartEnd i g)) refl
  where
    unseen : (d : End) → d ≡ PartEnd i g → (o : Option End) → places_of r (PartEnd i h) ≡ o → ((b : End) → o ≡ Some b → asks_in q.joints b ≡ false)
        → seen_tokens i t c r q (with_held Answer o (Some v) (with_state i x (with_place Answer d None s))) ≡ seen_tokens i t c r q s
    unseen d at_g o out hidden =
        passed_unseen i t c r q Answer d o v x s
        (λ a asks owns. no_follower i t c r q is h g pair a d at_g
        (λ b also. hidden b (sym out ∙ place_serving r b (PartEnd i h) is.right also)) asks owns)
        (λ a e asks is_e owns. no_asker i t c r q is h g pair a e (served_there r i h (Share t) e is.right is.share pair.serves_at (out ∙ is_e)) (hidden e is_e) asks owns)

    at_place : (d : End) → d ≡ PartEnd i g → s.in_place Answer d ≡ Some v → (o : Option End) → places_of r (PartEnd i h) ≡ o
        → seen_tokens i t c r q (with_held Answer o (Some v) (with_state i x (with_place Answer d None s))) ≡ seen_tokens i t c r q s
    at_place d at_g here None out = unseen d at_g None out (λ b h. absurd (cc h))
    at_place d at_g here (Some e) out = by_test (asks_in q.joints e) refl
      where
        into : IsIn (joint e (PartEnd i h)) r.joints
        into = served_there r i h (Share t) e is.right is.share pair.serves_at out

        by_test : (b : Bool) → asks_in q.joints e ≡ b
            → seen_tokens i t c r q (with_place Answer e (Some v) (with_state i x (with_place Answer d None s))) ≡ seen_tokens i t c r q s
        by_test true asks =
            let onto : next i t c r e ≡ Some d = pair_through i t c r q is h g pair e into asks ∙ ap Some (sym at_g) in
            passed_seen i t c r q is Answer e d e v x s asks (inr onto) (inl refl) (λ k. differ i t c r q is e g asks (sym k ∙ at_g)) here
            (clear Answer e d v asks (inr onto) here)
        by_test false hidden =
            unseen d at_g (Some e) out (λ b k. subst (λ (y : End). asks_in q.joints y ≡ false) (cc k) hidden)

    by_place : (o : Option End) → places_of r (PartEnd i g) ≡ o
        → seen_tokens i t c r q (with_token r (PartEnd i h) Answer (Some v) (with_state i x (with_held Answer (places_of r (PartEnd i g)) None s))) ≡ seen_tokens i t c r q s
    by_place None none = let no : None ≡ Some v = sym (ap (held_at s Answer) none) ∙ lies in absurd (cc no)
    by_place (Some d) there =
        let here : s.in_place Answer d ≡ Some v = sym (ap (held_at s Answer) there) ∙ lies in
        ap (λ o. seen_tokens i t c r q (with_token r (PartEnd i h) Answer (Some v) (with_state i x (with_held Answer o None s)))) there
        ∙ at_place d (asked_there r i g (Share t) d is.right is.share pair.asks_at there) here (places_of r (PartEnd i h)) refl

-- what a firing of the Share for caller c is
abbrev pub IsRequestPassed : ℕ → Plan → ℕ → ℕ → Slot → ℕ → Row → Tokens → Tokens → Type 0
IsRequestPassed i r h g slot v row s u =
    (slot ≡ Req h) × (row.puts v ≡ put (Req g) v ∷ []) × (token_at r s (PartEnd i h) Request ≡ Some v)
    × (u ≡ with_token r (PartEnd i g) Request (Some v) (with_state i (row.next v) (with_token r (PartEnd i h) Request None s)))

abbrev pub IsAnswerPassed : ℕ → Plan → ℕ → ℕ → Slot → ℕ → Row → Tokens → Tokens → Type 0
IsAnswerPassed i r h g slot v row s u =
    (slot ≡ Ans g) × (row.puts v ≡ put (Ans h) v ∷ []) × (token_at r s (PartEnd i g) Answer ≡ Some v)
    × (u ≡ with_token r (PartEnd i h) Answer (Some v) (with_state i (row.next v) (with_token r (PartEnd i g) Answer None s)))

pub record Passed (i : ℕ) (t : Type') (c : ℕ) (r : Plan) (slot : Slot) (s u : Tokens) : Type 0 where
  pub into : ℕ
  pub out : ℕ
  pub value : ℕ
  pub row : Row
  pub pair : Pair i t c r into out
  pub lies : token_at r s (end_of i slot) (way_of slot) ≡ Some value
  pub fires : firing_of (slice_get r.parts i) (s.state i) slot ≡ Some row
  pub takes : row.takes ≡ slot
  pub passed : IsRequestPassed i r into out slot value row s u ⊎ IsAnswerPassed i r into out slot value row s u

pair_of : (i : ℕ) (t : Type') (c : ℕ) (r : Plan) (j : ℕ) (role : Role) → IsAt t j role
    → RoleIs (Share t) (in_number (count t) c j role) Serve → RoleIs (Share t) (out_number (count t) c j role) Ask
    → Pair i t c r (in_number (count t) c j role) (out_number (count t) c j role)
pair_of i t c r j Serve (k, at_j, is) serves_at asks_at =
    record {
      onward = to_source (count t) (count t + c * count t) j (omega arith);
      back = to_caller (count t) (count t + c * count t) j (slice_get_within (contacts_of t) j k at_j);
      serves_at = serves_at;
      asks_at = asks_at;
      leads = λ a b into out. (
        j,
        k,
        at_j,
        subst (λ (x : Role). Contains r.joints (joint a (way_into i t c j x))) (sym is) (listed r.joints (joint a (way_into i t c j Serve)) into),
        subst (λ (x : Role). Contains r.joints (joint (way_out_of i t c j x) b)) (sym is) (listed r.joints (joint (way_out_of i t c j Serve) b) out),
      );
    }
pair_of i t c r j Ask (k, at_j, is) serves_at asks_at =
    record {
      onward = to_caller (count t) (count t + c * count t) j (slice_get_within (contacts_of t) j k at_j);
      back = to_source (count t) (count t + c * count t) j (omega arith);
      serves_at = serves_at;
      asks_at = asks_at;
      leads = λ a b into out. (
        j,
        k,
        at_j,
        subst (λ (x : Role). Contains r.joints (joint a (way_into i t c j x))) (sym is) (listed r.joints (joint a (way_into i t c j Ask)) into),
        subst (λ (x : Role). Contains r.joints (joint (way_out_of i t c j x) b)) (sym is) (listed r.joints (joint (way_out_of i t c j Ask) b) out),
      );
    }

pub share_passes : (i : ℕ) (t : Type') (c : ℕ) (r q : Plan) → IsSeenThrough i t c r q → (slot : Slot) (s u : Tokens)
    → IsForCaller t c (s.state i).number (shake_of slot) → Does r (Fire i slot) s u → Passed i t c r slot s u
share_passes i t c r q is slot s u for (v, row, lies, by, leads) = of_kind (pass.1 here)
  where
    fires : firing (Share t) (s.state i) slot ≡ Some row
    fires = ap (λ x. firing_of x (s.state i) slot) (sym is.share) ∙ by

    pass : (row.takes ≡ slot) × PassesIf t c (s.state i).number row
    pass = passing t c is.caller (s.state i) slot row fires

    here : IsForCaller t c (s.state i).number (shake_of row.takes)
    here = subst (λ (x : Slot). IsForCaller t c (s.state i).number (shake_of x)) (sym pass.0) for

    takes_at : RoleIs (Share t) (shake_of row.takes) (role_taking row.takes)
    takes_at = (row_roles (Share t) (s.state i) slot row v fires).1.0

    puts_at : PutsInRole (Share t) (row.puts v)
    puts_at = (row_roles (Share t) (s.state i) slot row v fires).1.1

    of_kind : Passes t c row → Passed i t c r slot s u
    of_kind (j, role, at_j, inl (takes, puts)) =
        let serves_at : RoleIs (Share t) (in_number (count t) c j role) Serve = subst (λ (x : Slot). RoleIs (Share t) (shake_of x) (role_taking x)) takes takes_at in
        let asks_at : PutsInRole (Share t) (put (Req (out_number (count t) c j role)) v ∷ []) = subst (λ (x : List Token). PutsInRole (Share t) x) (puts v) puts_at in
        let same : slot ≡ Req (in_number (count t) c j role) = sym pass.0 ∙ takes in
        record {
          into = in_number (count t) c j role;
          out = out_number (count t) c j role;
          value = v;
          row = row;
          pair = pair_of i t c r j role at_j serves_at asks_at.0;
          lies = lies;
          fires = by;
          takes = pass.0;
          passed =
              inl (
                same,
                puts v,
                subst (λ (x : Slot). token_at r s (end_of i x) (way_of x) ≡ Some v) same lies,
                leads
                    ∙ (ap (λ y. with_puts r i y (with_state i (row.next v) (with_token r (end_of i row.takes) (way_of row.takes) None s))) (puts v)
                    ∙ ap (λ y. with_token r (PartEnd i (out_number (count t) c j role)) Request (Some v) (with_state i (row.next v) (with_token r (end_of i y) (way_of y) None s))) takes),
              );
        }
    of_kind (j, role, at_j, inr (takes, puts)) =
        let asks_at : RoleIs (Share t) (out_number (count t) c j role) Ask = subst (λ (x : Slot). RoleIs (Share t) (shake_of x) (role_taking x)) takes takes_at in
        let serves_at : PutsInRole (Share t) (put (Ans (in_number (count t) c j role)) v ∷ []) = subst (λ (x : List Token). PutsInRole (Share t) x) (puts v) puts_at in
        let same : slot ≡ Ans (out_number (count t) c j role) = sym pass.0 ∙ takes in
        record {
          into = in_number (count t) c j role;
          out = out_number (count t) c j role;
          value = v;
          row = row;
          pair = pair_of i t c r j role at_j serves_at.0 asks_at;
          lies = lies;
          fires = by;
          takes = pass.0;
          passed =
              inr (
                same,
                puts v,
                subst (λ (x : Slot). token_at r s (end_of i x) (way_of x) ≡ Some v) same lies,
                leads
                    ∙ (ap (λ y. with_puts r i y (with_state i (row.next v) (with_token r (end_of i row.takes) (way_of row.takes) None s))) (puts v)
                    ∙ ap (λ y. with_token r (PartEnd i (in_number (count t) c j role)) Answer (Some v) (with_state i (row.next v) (with_token r (end_of i y) (way_of y) None s))) takes),
              );
        }

-- nothing is seen of it
pub share_seen : (i : ℕ) (t : Type') (c : ℕ) (r q : Plan) → IsSeenThrough i t c r q → (slot : Slot) (s u : Tokens) → AllClear i t c r q s → Passed i t c r slot s u
    → seen_tokens i t c r q u ≡ seen_tokens i t c r q s
share_seen i t c r q is slot s u clear p = of_kind p.passed
  where
    of_kind : IsRequestPassed i r p.into p.out slot p.value p.row s u ⊎ IsAnswerPassed i r p.into p.out slot p.value p.row s u
        → seen_tokens i t c r q u ≡ seen_tokens i t c r q s
    of_kind (inl (same, puts, lies, leads)) =
        ap (seen_tokens i t c r q) leads ∙ request_passed i t c r q is p.into p.out p.pair p.value (p.row.next p.value) s clear lies
    of_kind (inr (same, puts, lies, leads)) =
        ap (seen_tokens i t c r q) leads ∙ answer_passed i t c r q is p.into p.out p.pair p.value (p.row.next p.value) s clear lies
