-- A plan with a buffer realises what the plan without it realises.
--
-- Along a list of the plan with the Share the match of what is seen of it is a match of the list itself: a firing of the Share
-- is matched by no move. Where what is seen is idle, nothing waits at the Share.
use Rattle.std.specs.Prelude.{◌⊎◌, ◌+◌, ◌*◌, ◌-◌, ◌<◌, ◌≢◌, ◌&&◌, None, nat_eq, slice_get}
use Rattle.std.proofs.Common.{◌≡◌, ℕ, Bool, true, false, List, [], ◌∷◌, Option, Some, Contains, inl, inr, refl, sym, ◌∙◌, ap, subst, arith, if◌then◌else◌}
use Rattle.gos_types.specs.Types.{Type'}
use Rattle.gos_types.specs.Handshakes.{turned}
use Rattle.gos_types.specs.declared.shakes.Role.{Role}
use Rattle.gos_types.specs.declared.shakes.Role.TheVariants.{Serve, Ask}
use Rattle.gos_types.specs.Events.{Direction, Request, Answer}
use Rattle.gos_model.specs.Moves.{Program, Config, Idle, Act, Moves, labels}
use Rattle.gos_model.specs.Typing.{Imports}
use Rattle.gos_plan.specs.Kinds.{Contact, Part, Share, asks, serves, contacts_of, turned_contact, part_contacts}
use Rattle.gos_plan.specs.Plans.{End, PartEnd, ImportEnd, ResultEnd, Plan, contact_at, same_end}
use Rattle.gos_plan.specs.Firing.{Rest, State, at, Slot, Req, Ans, Token, put, Row}
use Rattle.gos_plan.specs.Tokens.{Tokens, Element, Fire, Out, In, places_of, same_way, with_held, token_at, end_of, way_of, shake_of, way_taken, way_put, firing_of, with_token, with_state, with_puts, Passes, Does, IsIdle}
use Rattle.gos_plan.specs.Orderly.{Open, none_open, ComesInOrder, AllWelcome, OrderlyFrom, IsOrderly}
use Rattle.gos_plan.proofs.JointLemmas.{IsIn, same_is, fits, contained, stands_there}
use Rattle.gos_plan.proofs.RowLemmas.{role_taking}
use Rattle.gos_plan.proofs.AskingLemmas.{RoleIs, row_roles, source_at}
use Rattle.gos_plan.proofs.DecidedLemmas.{one_state}
use Rattle.gos_plan.proofs.ContactLemmas.{part_contact}
use Rattle.gos_realises.specs.realises.Regular.{count, InputsKeepTurns}
use Rattle.gos_realises.specs.realises.Matched.{port_if, event_number, shows, asks_on, GoesOn, Agrees, IsMatched, program_of}
use Rattle.gos_joining.specs.webs.Webs.{joint}
use Rattle.gos_joining.specs.webs.Cutting.{asks_in, StandsIn}
use Rattle.gos_joining.proofs.webs.MovedLemmas.{listed}
use Rattle.gos_sharing.specs.sharing.Sharing.{source_end, caller_end, IsOfPart, IsSeenThrough, follower, way_into, way_out_of, LeadsThrough, held_or, held_if, seen_tokens, without, IsForCaller}
use Rattle.gos_sharing.proofs.sharing.SeenIdleLemmas.{idle_is_seen}
use Rattle.gos_sharing.proofs.sharing.SeenPlaceLemmas.{asks_so, asker, other_in, followed, to_source}
use Rattle.gos_sharing.proofs.sharing.SeenTokenLemmas.{next, place_asking, place_serving}
use Rattle.gos_sharing.proofs.sharing.SeenFillLemmas.{token_seen}
use Rattle.gos_sharing.proofs.sharing.ShareRowLemmas.{asked_there, Passed, IsRequestPassed, IsAnswerPassed, share_passes, share_seen}
use Rattle.gos_sharing.proofs.sharing.SeenKeptLemmas.{Kept, fit_none, all_clear}
use Rattle.gos_sharing.proofs.sharing.SeenElementLemmas.{fire_too, out_too, in_too, takes_so, visible, clear_of_taken}
use Rattle.gos_sharing.proofs.sharing.SeenRunLemmas.{share_kept, runs_are_seen}
use Rattle.gos_sharing.proofs.sharing.SeenQuietLemmas.{quiet_here}
use Rattle.gos_sharing.specs.buffers.Buffers.{IsBuffer, BufferedRealises}
use Rattle.gos_sharing.proofs.buffers.BranchLemmas.{Branch, one_of_two, caller_shake, source_shake, for_one, share_leaves, fire_leaves, out_leaves, in_leaves, branch_step, works_for_one, place_stands}
use Rattle.gos_sharing.proofs.buffers.GroundLemmas.{OfCaller, ground_serves}
use Rattle.gos_sharing.proofs.buffers.RegularLemmas.{same_number, outside_share, same_state, same_row, beside_first, orderly_from_idle, turns_begin, inputs_seen}
use Rattle.gos_realises.proofs.realises.IdleLemmas.{idle_welcome}
use Rattle.gos_realises.proofs.realises.MatchedLemmas.{matched_agrees}
use Rattle.gos_joining.proofs.webs.CutLemmas.{asker_asks}

-- nothing lies where there is no joint
abbrev pub Nowhere : Plan → Tokens → Type 0
Nowhere p s = (way : Direction) (e : End) → asks_in p.joints e ≡ false → s.in_place way e ≡ None

unplaced : (s : Tokens) (way w : Direction) (p : Option End) (held : Option ℕ) (e : End) → (p ≡ Some e → ⊥) → s.in_place w e ≡ None → (with_held way p held s).in_place w e ≡ None
unplaced s way w None held e apart h = h
unplaced s way w (Some d) held e apart h = by_test (same_way w way) (same_end e d) refl
  where
    by_test : (x y : Bool) → same_end e d ≡ y → (if x && y then held else s.in_place w e) ≡ None
    by_test true true k = absurd (apart (ap Some (sym (same_is e d k))))
    by_test true false k = h
    by_test false y k = h

nowhere_token : (p : Plan) (d : End) (way : Direction) (held : Option ℕ) (s : Tokens) → Nowhere p s → Nowhere p (with_token p d way held s)
nowhere_token p d way held s nowhere w e out =
    unplaced s way w (places_of p d) held e (λ h. let clash : true ≡ false = sym (asker_asks p d e h) ∙ out in cc clash) (nowhere w e out)

nowhere_puts : (p : Plan) (k : ℕ) (xs : List Token) (s : Tokens) → Nowhere p s → Nowhere p (with_puts p k xs s)
nowhere_puts p k [] s nowhere = nowhere
nowhere_puts p k (x ∷ xs) s nowhere =
    nowhere_puts p k xs (with_token p (end_of k x.slot) (way_of x.slot) (Some x.value) s) (nowhere_token p (end_of k x.slot) (way_of x.slot) (Some x.value) s nowhere)

nowhere_step : (p : Plan) (x : Element) (s w : Tokens) → Does p x s w → Nowhere p s → Nowhere p w
nowhere_step p (Fire k slot) s w (v, row, lies, by, leads) nowhere =
    subst (λ (z : Tokens). Nowhere p z) (sym leads)
    (nowhere_puts p k (row.puts v) (with_state k (row.next v) (with_token p (end_of k row.takes) (way_of row.takes) None s))
    (nowhere_token p (end_of k row.takes) (way_of row.takes) None s nowhere))
nowhere_step p (Out e v) s w does nowhere = with_contact (contact_at p e) refl
  where
    with_contact : (f : Option Contact) → contact_at p e ≡ f → Nowhere p w
    with_contact None h = absurd (subst (λ (f : Option Contact). Passes p (Out e v) f s w) h does.1)
    with_contact (Some k) h =
        let passes = subst (λ (f : Option Contact). Passes p (Out e v) f s w) h does.1 in
        subst (λ (z : Tokens). Nowhere p z) (sym passes.1) (nowhere_token p e (way_taken k.role) None s nowhere)
nowhere_step p (In e v) s w does nowhere = with_contact (contact_at p e) refl
  where
    with_contact : (f : Option Contact) → contact_at p e ≡ f → Nowhere p w
    with_contact None h = absurd (subst (λ (f : Option Contact). Passes p (In e v) f s w) h does.1)
    with_contact (Some k) h =
        let passes = subst (λ (f : Option Contact). Passes p (In e v) f s w) h does.1 in
        subst (λ (z : Tokens). Nowhere p z) (sym passes.1) (nowhere_token p e (way_put k.role) (Some v) s nowhere)

-- the joint of caller c's handshake leads through the Share
record Leading (i : ℕ) (t : Type') (c : ℕ) (r q : Plan) (j : ℕ) (a : End) : Type 0 where
  pub asks : asks_in q.joints a ≡ true
  pub onto : next i t c r a ≡ Some (source_end i j)

leading : (i : ℕ) (t : Type') (c : ℕ) (r q : Plan) → IsBuffer i t c r q → (j : ℕ) → j < count t → (a : End) → IsIn (joint a (caller_end i t c j)) r.joints → Leading i t c r q j a
leading i t c r q is j lt a into = of_joint (is.goes_on j lt (place_stands r (caller_end i t c j) a (place_serving r a (caller_end i t c j) is.seen.right into)))
  where
    contact : (k : Contact) × (slice_get (contacts_of t) j ≡ Some k) × (k.role ≡ Serve)
    contact = ground_serves t j is.ground lt

    role_there : (h : ℕ) → h ≡ j → (k : Contact) → slice_get (part_contacts (Share t)) h ≡ Some k → k.role ≡ Ask
    role_there h e k there =
        let both : Some (turned_contact contact.0) ≡ Some k = sym (source_at t j contact.0 contact.1) ∙ (ap (slice_get (part_contacts (Share t))) (sym e) ∙ there) in
        let same : turned_contact contact.0 ≡ k = cc both in
        ap (λ (x : Contact). x.role) (sym same) ∙ ap turned contact.2

    with_server : (b : End) → IsIn (joint (source_end i j) b) r.joints → Leading i t c r q j a
    with_server b out =
        record {
          asks = asks_so q.joints a b (contained q.joints (joint a b) ((is.seen.joints a b).1 (inr through)));
          onto =
              ap (follower i t c) (other_in r a (caller_end i t c j) is.seen.right into)
              ∙ (followed i t c (count t + c * count t + j) ∙ ap (λ n. Some (PartEnd i n)) (to_source (count t) (count t + c * count t) j (omega arith)));
        }
      where
        through : LeadsThrough i t c r a b
        through = (
          j,
          contact.0,
          contact.1,
          subst (λ (x : Role). Contains r.joints (joint a (way_into i t c j x))) (sym contact.2) (listed r.joints (joint a (caller_end i t c j)) into),
          subst (λ (x : Role). Contains r.joints (joint (way_out_of i t c j x) b)) (sym contact.2) (listed r.joints (joint (source_end i j) b) out),
        )

    of_joint : StandsIn r (source_end i j) → Leading i t c r q j a
    of_joint (k, has, at_end) =
        let here = contained r.joints k has in
        let there : places_of r (source_end i j) ≡ Some k.asking = stands_there r k (source_end i j) is.seen.right here (grind (arith, at_end)) in
        let own : k.asking ≡ source_end i j = asked_there r i j (Share t) k.asking is.seen.right is.seen.share (role_there j refl) there in
        with_server k.serving (subst (λ (x : End). IsIn (joint x k.serving) r.joints) own here)

-- what is carried along the list
record Carried (i : ℕ) (t : Type') (c : ℕ) (r q : Plan) (o : Open) (s : Tokens) : Type 0 where
  pub kept : Kept i t c r q o s
  pub branch : Branch i t c r o s
  pub rests : (s.state i).phase ≡ Rest
  pub nowhere : Nowhere r s
  pub welcome : AllWelcome r s

-- where what is seen is idle, so is all
first_none : (x y : Option ℕ) → held_or x y ≡ None → x ≡ None
first_none None y h = refl
first_none (Some v) y h = absurd (cc h)

second_none : (x y : Option ℕ) → held_or x y ≡ None → y ≡ None
second_none None y h = h
second_none (Some v) y h = absurd (cc h)

of_share : (i : ℕ) (e : End) → (IsOfPart i e → ⊥) ⊎ ((h : ℕ) × (e ≡ PartEnd i h))
of_share i (PartEnd k h) = by_test (nat_eq k i) refl
  where
    by_test : (b : Bool) → nat_eq k i ≡ b → (IsOfPart i (PartEnd k h) → ⊥) ⊎ ((g : ℕ) × (PartEnd k h ≡ PartEnd i g))
    by_test true n = inr (h, ap (λ (x : ℕ). PartEnd x h) (same_number i k n))
    by_test false n = inl (outside_share i k n)
of_share i (ImportEnd k h) = inl (λ of. of)
of_share i (ResultEnd h) = inl (λ of. of)

role_by : (r : Plan) (i h : ℕ) (p : Part) (k : Contact) → slice_get r.parts i ≡ Some p → contact_at r (PartEnd i h) ≡ Some k → RoleIs p h k.role
role_by r i h p k at_i there d also =
    let both : Some k ≡ Some d = sym there ∙ (part_contact r i h p at_i ∙ also) in
    let same : k ≡ d = cc both in ap (λ (x : Contact). x.role) (sym same)

places_idle : (i : ℕ) (t : Type') (c : ℕ) (r q : Plan) → IsBuffer i t c r q → (o : Open) (s : Tokens) → Carried i t c r q o s
    → ((way : Direction) (e : End) → (seen_tokens i t c r q s).in_place way e ≡ None) → (way : Direction) (e : End) → s.in_place way e ≡ None
places_idle i t c r q is o s carried empty way e = by_asks (asks_in r.joints e) refl
  where
    -- what is seen in a place
    seen_empty : (a : End) → asks_in q.joints a ≡ true → held_or (s.in_place way a) (held_if s way (next i t c r a)) ≡ None
    seen_empty a asking =
        let seen : (if asks_in q.joints a then held_or (s.in_place way a) (held_if s way (next i t c r a)) else None) ≡ None = empty way a in
        rw asking at seen

    of_seen : (a : End) → asks_in q.joints a ≡ true → s.in_place way a ≡ None
    of_seen a asking = first_none (s.in_place way a) (held_if s way (next i t c r a)) (seen_empty a asking)

    -- a joint that leads into the Share
    into_share : (a : End) (h : ℕ) → IsIn (joint a (PartEnd i h)) r.joints → s.in_place way a ≡ None
    into_share a h into =
        let fit = fits r [] r.joints (joint a (PartEnd i h)) is.seen.right into in
        let there = place_serving r a (PartEnd i h) is.seen.right into in
        of_caller (caller_shake i t c r q is h a (role_by r i h (Share t) (serves fit.0 fit.1) is.seen.share fit.3) there)
      where
        of_number : (b j : ℕ) → j < count t → h ≡ count t + b * count t + j → (b ≡ c) ⊎ (b ≡ 1 - c) → s.in_place way a ≡ None
        of_number b j lt e (inl own) =
            let same : h ≡ count t + c * count t + j = e ∙ ap (λ x. count t + x * count t + j) own in
            of_seen a (leading i t c r q is j lt a (subst (λ (n : ℕ). IsIn (joint a (PartEnd i n)) r.joints) same into)).asks
        of_number b j lt e (inr other) =
            let same : h ≡ count t + (1 - c) * count t + j = e ∙ ap (λ x. count t + x * count t + j) other in
            absurd (is.alone j lt (subst (λ (n : ℕ). StandsIn r (PartEnd i n)) same (place_stands r (PartEnd i h) a (place_serving r a (PartEnd i h) is.seen.right into))))

        of_caller : OfCaller t h → s.in_place way a ≡ None
        of_caller (b, j, two, lt, e) = of_number b j lt e (one_of_two c b is.seen.caller two)

    -- the source's own
    out_of_share : (h : ℕ) (b : End) → IsIn (joint (PartEnd i h) b) r.joints → s.in_place way (PartEnd i h) ≡ None
    out_of_share h b out =
        let fit = fits r [] r.joints (joint (PartEnd i h) b) is.seen.right out in
        let there = place_asking r (PartEnd i h) b is.seen.right out in
        by_open (source_shake i t c r q is h (PartEnd i h) (role_by r i h (Share t) (asks fit.0 fit.1) is.seen.share fit.2) there) (o (PartEnd i h)) refl
      where
        by_open : h < count t → (x : Bool) → o (PartEnd i h) ≡ x → s.in_place way (PartEnd i h) ≡ None
        by_open lt false k = fit_none o s carried.kept.fit (PartEnd i h) k way
        by_open lt true k =
            let from = (carried.branch h lt k).1 in
            let lead = leading i t c r q is h lt from.0 from.1 in
            ap (held_if s way) (sym lead.onto) ∙ second_none (s.in_place way from.0) (held_if s way (next i t c r from.0)) (seen_empty from.0 lead.asks)

    by_ends : (b : End) → IsIn (joint e b) r.joints → (IsOfPart i e → ⊥) ⊎ ((h : ℕ) × (e ≡ PartEnd i h)) → (IsOfPart i b → ⊥) ⊎ ((h : ℕ) × (b ≡ PartEnd i h)) → s.in_place way e ≡ None
    by_ends b has (inr (h, at)) side =
        subst (λ (x : End). s.in_place way x ≡ None) (sym at) (out_of_share h b (subst (λ (x : End). IsIn (joint x b) r.joints) at has))
    by_ends b has (inl apart) (inr (h, at)) = into_share e h (subst (λ (x : End). IsIn (joint e x) r.joints) at has)
    by_ends b has (inl apart) (inl other) =
        of_seen e (asks_so q.joints e b (contained q.joints (joint e b) ((is.seen.joints e b).1 (inl (listed r.joints (joint e b) has, apart, other)))))

    by_asks : (x : Bool) → asks_in r.joints e ≡ x → s.in_place way e ≡ None
    by_asks false k = carried.nowhere way e k
    by_asks true k = let b = asker r.joints e k in by_ends b.0 b.1 (of_share i e) (of_share i b.0)

idle_too : (i : ℕ) (t : Type') (c : ℕ) (r q : Plan) → IsBuffer i t c r q → (o : Open) (s : Tokens) → Carried i t c r q o s → IsIdle q (seen_tokens i t c r q s) → IsIdle r s
idle_too i t c r q is o s carried idle = (places_idle i t c r q is o s carried idle.0, λ k. by_part k (nat_eq k i) refl)
  where
    by_part : (k : ℕ) (b : Bool) → nat_eq k i ≡ b → (s.state k).phase ≡ Rest
    by_part k true h = ap (λ j. (s.state j).phase) (same_number i k h) ∙ carried.rests
    by_part k false h = ap (λ (x : State). x.phase) (sym (same_state i k c (s.state k) (outside_share i k h))) ∙ idle.1 k

agrees_too : (i : ℕ) (t : Type') (c : ℕ) (r q : Plan) → IsBuffer i t c r q → (g : Program) (o : Open) (s : Tokens) (d : Config) → Carried i t c r q o s
    → Agrees q g (seen_tokens i t c r q s) d → Agrees r g s d
agrees_too i t c r q is g o s d carried agrees = (
  λ quiet. agrees.0 (quiet_here i t c r q is.seen s carried.welcome quiet),
  λ idle. idle_too i t c r q is o s carried (agrees.1 idle),
)

-- what is shown
shows_seen : (i : ℕ) (t : Type') (c : ℕ) (r q : Plan) → IsSeenThrough i t c r q → (x : Element) → shows q x ≡ shows r x
shows_seen i t c r q is (Fire k slot) = refl
shows_seen i t c r q is (Out (PartEnd k h) v) = refl
shows_seen i t c r q is (Out (ImportEnd k h) v) = λ n. record { port = port_if (slice_get (is.imports n) k); event = event_number Request h; value = v } ∷ []
shows_seen i t c r q is (Out (ResultEnd h) v) = refl
shows_seen i t c r q is (In (PartEnd k h) v) = refl
shows_seen i t c r q is (In (ImportEnd k h) v) = λ n. record { port = port_if (slice_get (is.imports n) k); event = event_number Answer h; value = v } ∷ []
shows_seen i t c r q is (In (ResultEnd h) v) = refl

-- the Share's firing goes on for nobody
no_request : (i : ℕ) (t : Type') (c : ℕ) (r q : Plan) (h : ℕ) (s w : Tokens) → Passed i t c r (Ans h) s w → (v : ℕ) (row : Row)
    → token_at r s (PartEnd i h) Answer ≡ Some v → firing_of (slice_get r.parts i) (s.state i) (Ans h) ≡ Some row → asks_on (row.puts v) ≡ true → ⊥
no_request i t c r q h s w p v row lies by asking = of_kind p.passed
  where
    puts_now : row.puts v ≡ p.row.puts p.value
    puts_now =
        let values : Some v ≡ Some p.value = sym lies ∙ p.lies in
        let rows : Some row ≡ Some p.row = sym by ∙ p.fires in
        let value : v ≡ p.value = cc values in
        let same : row ≡ p.row = cc rows in
        λ n. (same n).puts (value n)

    of_kind : IsRequestPassed i r p.into p.out (Ans h) p.value p.row s w ⊎ IsAnswerPassed i r p.into p.out (Ans h) p.value p.row s w → ⊥
    of_kind (inl (same, puts, there, leads)) = cc same
    of_kind (inr (same, puts, there, leads)) =
        let none : asks_on (put (Ans p.into) p.value ∷ []) ≡ true = subst (λ (ts : List Token). asks_on ts ≡ true) (puts_now ∙ puts) asking in cc none

share_goes : (i : ℕ) (t : Type') (c : ℕ) (r q : Plan) (slot : Slot) (s w : Tokens) → Passed i t c r slot s w → GoesOn r s (Fire i slot) []
share_goes i t c r q (Req h) s w p = tt
share_goes i t c r q (Ans h) s w p = λ v row lies by asking. absurd (no_request i t c r q h s w p v row lies by asking)

goes_answer : (i : ℕ) (t : Type') (c : ℕ) (r q : Plan) → IsSeenThrough i t c r q → (k : ℕ) → (k ≡ i → ⊥) → (h : ℕ) (o : Open) (s : Tokens) (acts : List Act) → Kept i t c r q o s
    → GoesOn q (seen_tokens i t c r q s) (Fire k (Ans h)) acts → (v : ℕ) (row : Row) → token_at r s (PartEnd k h) Answer ≡ Some v
    → firing_of (slice_get r.parts k) (s.state k) (Ans h) ≡ Some row → asks_on (row.puts v) ≡ true → acts ≢ []
goes_answer i t c r q is k apart h o s acts kept goes v row lies by asking = with_part (slice_get r.parts k) refl
  where
    with_part : (f : Option Part) → slice_get r.parts k ≡ f → acts ≢ []
    with_part None z = let no : None ≡ Some row = ap (λ f. firing_of f (s.state k) (Ans h)) (sym z) ∙ by in absurd (cc no)
    with_part (Some p) z =
        let roles = row_roles p (s.state k) (Ans h) row v (ap (λ f. firing_of f (s.state k) (Ans h)) (sym z) ∙ by) in
        let role = subst (λ (x : Slot). RoleIs p (shake_of x) (role_taking x)) roles.0 roles.1.0 in
        goes v row
        (token_seen i t c r q is s (PartEnd k h) Answer v (visible i t c r q is o s (PartEnd k h) Answer v apart (takes_so r k p (Ans h) z role) kept lies)
        (clear_of_taken i t c r q is o s (PartEnd k h) Answer v kept lies) lies)
        (same_row i t c r q is k apart s (Ans h) ∙ by) asking

goes_too : (i : ℕ) (t : Type') (c : ℕ) (r q : Plan) → IsSeenThrough i t c r q → (k : ℕ) → (k ≡ i → ⊥) → (slot : Slot) (o : Open) (s : Tokens) (acts : List Act) → Kept i t c r q o s
    → GoesOn q (seen_tokens i t c r q s) (Fire k slot) acts → GoesOn r s (Fire k slot) acts
goes_too i t c r q is k apart (Req h) o s acts kept goes = tt
goes_too i t c r q is k apart (Ans h) o s acts kept goes = goes_answer i t c r q is k apart h o s acts kept goes

carried_on : (i : ℕ) (t : Type') (c : ℕ) (r q : Plan) → IsBuffer i t c r q → (x : Element) (o m : Open) (s u : Tokens) → Does r x s u → ComesInOrder r x s o m → AllWelcome r u
    → Carried i t c r q o s → Kept i t c r q m u → (u.state i).phase ≡ Rest → Carried i t c r q m u
carried_on i t c r q is x o m s u does comes welcome carried kept rests =
    record {
      kept = kept;
      branch = branch_step i t c r q is x o m s u carried.kept.fit carried.branch does comes;
      rests = rests;
      nowhere = nowhere_step r x s u does carried.nowhere;
      welcome = welcome;
    }

-- a match of what is seen is a match of the list
matched_on : (i : ℕ) (t : Type') (c : ℕ) (r q : Plan) → IsSeenThrough i t c r q → (g : Program) (x : Element) (xs ys : List Element) (s u : Tokens) (d : Config) → Agrees r g s d
    → ((acts : List Act) → GoesOn q (seen_tokens i t c r q s) x acts → GoesOn r s x acts) → Does r x s u → Does q x (seen_tokens i t c r q s) (seen_tokens i t c r q u)
    → ((e : Config) → IsMatched q g ys (seen_tokens i t c r q u) e → IsMatched r g xs u e)
    → IsMatched q g (x ∷ ys) (seen_tokens i t c r q s) d → IsMatched r g (x ∷ xs) s d
matched_on i t c r q is g x xs ys s u d agrees goes does too rest matched = (agrees, λ w also. with_moves w also (matched.1 (seen_tokens i t c r q u) too))
  where
    with_moves : (w : Tokens) → Does r x s w
        → ((acts : List Act) × (e : Config) × Moves g acts d e × (labels acts ≡ shows q x) × GoesOn q (seen_tokens i t c r q s) x acts × IsMatched q g ys (seen_tokens i t c r q u) e)
        → (acts : List Act) × (e : Config) × Moves g acts d e × (labels acts ≡ shows r x) × GoesOn r s x acts × IsMatched r g xs w e
    with_moves w also (acts, e, moves, shown, on, now) = (
      acts,
      e,
      moves,
      shown ∙ shows_seen i t c r q is x,
      goes acts on,
      subst (λ (z : Tokens). IsMatched r g xs z e) (one_state r x s u w does also) (rest e now),
    )

matched_share : (r : Plan) (g : Program) (k : ℕ) (slot : Slot) (xs : List Element) (s u : Tokens) (d : Config) → Agrees r g s d → GoesOn r s (Fire k slot) [] → Does r (Fire k slot) s u
    → IsMatched r g xs u d → IsMatched r g (Fire k slot ∷ xs) s d
matched_share r g k slot xs s u d agrees goes does rest =
    (agrees, λ w also. ([], d, refl, refl, goes, subst (λ (z : Tokens). IsMatched r g xs z d) (one_state r (Fire k slot) s u w does also) rest))

matched_too : (i : ℕ) (t : Type') (c : ℕ) (r q : Plan) → IsBuffer i t c r q → (g : Program) (xs : List Element) (o v : Open) (s w : Tokens) (d : Config)
    → OrderlyFrom r xs o s v w → Carried i t c r q o s → IsMatched q g (without i xs) (seen_tokens i t c r q s) d → IsMatched r g xs s d
matched_too i t c r q is g [] o v s w d list carried matched = agrees_too i t c r q is g o s d carried matched
matched_too i t c r q is g (Fire k slot ∷ xs) o v s w d (m, u, does, comes, welcome, list) carried matched =
    by_part (nat_eq k i) refl matched (λ e now match. matched_too i t c r q is g xs m v u w e list now match)
  where
    agrees_by : (ys : List Element) → IsMatched q g ys (seen_tokens i t c r q s) d → Agrees r g s d
    agrees_by ys match = agrees_too i t c r q is g o s d carried (matched_agrees q g ys (seen_tokens i t c r q s) d match)

    by_part : (b : Bool) → nat_eq k i ≡ b → IsMatched q g (if b then without i xs else Fire k slot ∷ without i xs) (seen_tokens i t c r q s) d
        → ((e : Config) → Carried i t c r q m u → IsMatched q g (without i xs) (seen_tokens i t c r q u) e → IsMatched r g xs u e) → IsMatched r g (Fire k slot ∷ xs) s d
    by_part true h match rest =
        matched_share r g k slot xs s u d (agrees_by (without i xs) match)
        (subst (λ (j : ℕ). GoesOn r s (Fire j slot) []) (sym same) (share_goes i t c r q slot s u p)) does
        (rest d (carried_on i t c r q is (Fire k slot) o m s u does comes welcome carried (share_kept i t c r q is.seen slot o m s u fires p now carried.kept)
        (ap (λ (x : State). x.phase) (share_leaves i t c r q is slot s u for fires)))
        (subst (λ (z : Tokens). IsMatched q g (without i xs) z d) (sym (share_seen i t c r q is.seen slot s u (all_clear i t c r q is.seen o s carried.kept) p)) match))
      where
        same : k ≡ i
        same = same_number i k h

        fires : Does r (Fire i slot) s u
        fires = subst (λ (j : ℕ). Does r (Fire j slot) s u) same does

        now : ComesInOrder r (Fire i slot) s o m
        now = subst (λ (j : ℕ). ComesInOrder r (Fire j slot) s o m) same comes

        for : IsForCaller t c (s.state i).number (shake_of slot)
        for = for_one i t c r q is slot o s u carried.kept.fit carried.branch fires

        p : Passed i t c r slot s u
        p = share_passes i t c r q is.seen slot s u for fires
    by_part false h match rest =
        let apart = outside_share i k h in
        let too = fire_too i t c r q is.seen k apart slot o m s u does comes carried.kept in
        let stays = (fire_leaves r i k slot o m s u is.seen.right apart does comes).1 in
        let now = carried_on i t c r q is (Fire k slot) o m s u does comes welcome carried too.1 (ap (λ (x : State). x.phase) stays ∙ carried.rests) in
        matched_on i t c r q is.seen g (Fire k slot) xs (without i xs) s u d (agrees_by (Fire k slot ∷ without i xs) match)
        (λ acts goes. goes_too i t c r q is.seen k apart slot o s acts carried.kept goes) does too.0 (λ e also. rest e now also) match
matched_too i t c r q is g (Out e n ∷ xs) o v s w d (m, u, does, comes, welcome, list) carried matched =
    let too = out_too i t c r q is.seen e n o m s u does comes carried.kept in
    let stays = (out_leaves r i e n o m s u does comes).1 in
    let now = carried_on i t c r q is (Out e n) o m s u does comes welcome carried too.1 (ap (λ (x : State). x.phase) stays ∙ carried.rests) in
    matched_on i t c r q is.seen g (Out e n) xs (without i xs) s u d (agrees_too i t c r q is g o s d carried matched.0) (λ acts goes. goes) does too.0
    (λ a also. matched_too i t c r q is g xs m v u w a list now also) matched
matched_too i t c r q is g (In e n ∷ xs) o v s w d (m, u, does, comes, welcome, list) carried matched =
    let too = in_too i t c r q is.seen e n o m s u does comes carried.kept in
    let stays = (in_leaves r i e n o m s u is.seen.right does comes).1 in
    let now = carried_on i t c r q is (In e n) o m s u does comes welcome carried too.1 (ap (λ (x : State). x.phase) stays ∙ carried.rests) in
    matched_on i t c r q is.seen g (In e n) xs (without i xs) s u d (agrees_too i t c r q is g o s d carried matched.0) (λ acts goes. goes) does too.0
    (λ a also. matched_too i t c r q is g xs m v u w a list now also) matched

carried_first : (i : ℕ) (t : Type') (c : ℕ) (r q : Plan) (s : Tokens) → IsIdle r s → Carried i t c r q none_open s
carried_first i t c r q s idle =
    let beside = beside_first i t c r q s idle in
    record {
      kept = beside.kept;
      branch = beside.branch;
      rests = beside.rests;
      nowhere = λ way e out. idle.0 way e;
      welcome = idle_welcome r s idle;
    }

pub buffered_realises : BufferedRealises
buffered_realises i t c r q m is realises s w xs idle runs keeps = (matched_of orderly, orderly)
  where
    idle_q : IsIdle q (seen_tokens i t c r q s)
    idle_q = idle_is_seen i t c r q s idle

    keeps_q : InputsKeepTurns q [] (without i xs)
    keeps_q = inputs_seen i t c r q is.seen [] xs keeps

    orderly : IsOrderly r xs s
    orderly =
        orderly_from_idle i t c r q is xs (InputsKeepTurns q []) s w (turns_begin q [])
        (λ zs v run k. (realises (seen_tokens i t c r q s) v zs idle_q run k).1) idle runs keeps_q

    matched_of : IsOrderly r xs s → IsMatched r (program_of r m) xs s Idle
    matched_of (o, v, list) =
        let seen =
        runs_are_seen i t c r q xs s v (record { plans = is.seen; idle = idle; opened = o; orderly = list; works = works_for_one i t c r q xs o s v is idle list }) in
        subst (λ (js : Imports). IsMatched r (record { imports = js; body = m }) xs s Idle) is.seen.imports
        (matched_too i t c r q is (program_of q m) xs none_open o s v Idle list (carried_first i t c r q s idle)
        (realises (seen_tokens i t c r q s) (seen_tokens i t c r q v) (without i xs) idle_q seen keeps_q).0)
