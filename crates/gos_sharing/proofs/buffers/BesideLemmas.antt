-- The plan with a buffer beside the plan without it: what is open in the one and in the other, and what they do alike.
--
-- At ends that ask the same is open. A joint that leads into the Share and is open is empty only while the one that follows is
-- open too. So what comes well in the plan without the Share comes well in the plan with it.
use Rattle.std.specs.Prelude.{◌⊎◌, ◌&&◌, None, nat_eq, slice_get}
use Rattle.std.proofs.Common.{◌≡◌, ℕ, Bool, true, false, List, [], ◌∷◌, Option, Some, inl, inr, refl, sym, ◌∙◌, ap, subst, arith, if◌then◌else◌}
use Rattle.gos_types.specs.Types.{Type'}
use Rattle.gos_types.specs.declared.shakes.Role.{Role}
use Rattle.gos_types.specs.declared.shakes.Role.TheVariants.{Serve, Ask}
use Rattle.gos_types.specs.Events.{Direction, Request, Answer}
use Rattle.gos_types.proofs.RoleLemmas.{request_is_not_answer}
use Rattle.gos_plan.specs.Kinds.{Contact, Part, asks, serves}
use Rattle.gos_plan.specs.Plans.{End, PartEnd, Plan, contact_at, same_end}
use Rattle.gos_plan.specs.Firing.{Rest, State, Token}
use Rattle.gos_plan.specs.Tokens.{Tokens, places_of, same_way, held_at, with_held, with_place, token_at, with_token, with_state, with_puts, end_of, way_of, way_taken, way_put}
use Rattle.gos_plan.specs.Orderly.{Open, named_by, handshake_at, after_taken, after_put, ComesWell, AllComeWell, after_puts}
use Rattle.gos_plan.proofs.JointLemmas.{IsIn, same_itself, same_is}
use Rattle.gos_plan.proofs.AskingLemmas.{PutsInRole}
use Rattle.gos_plan.proofs.TurnLemmas.{token_state}
use Rattle.gos_joining.specs.webs.Webs.{joint}
use Rattle.gos_joining.specs.webs.Cutting.{asks_in}
use Rattle.gos_sharing.specs.sharing.Sharing.{IsOfPart, IsSeenThrough, passed_on, held_or, held_if, seen_tokens}
use Rattle.gos_sharing.proofs.sharing.SeenPlaceLemmas.{Plain, Through}
use Rattle.gos_sharing.proofs.sharing.SeenTokenLemmas.{next, Owns, Seen, seen_at, asking_at, outside_at, follows, of_part, one_server, place_asking}
use Rattle.gos_sharing.proofs.sharing.SeenFillLemmas.{ClearAt, token_filled, token_seen}
use Rattle.gos_sharing.proofs.sharing.SeenFireLemmas.{contact_seen}
use Rattle.gos_sharing.proofs.sharing.SeenKeptLemmas.{Kept, Side, side, PutsSo, not_both_so, kept_taken, kept_put, still_open}
use Rattle.gos_sharing.proofs.sharing.SeenElementLemmas.{kept_state, clear_of_taken, clear_of_put, visible, puts_so}
use Rattle.gos_sharing.proofs.buffers.BranchLemmas.{Branch, named_itself, open_before_put, open_before_taken}

-- what is taken at an end, by its role
abbrev pub TakesSo : Plan → End → Direction → Type 0
TakesSo r e way = (k : Contact) → contact_at r e ≡ Some k → way_taken k.role ≡ way

-- a joint that leads into the Share and is open holds a token, or the one that follows is open
abbrev pub Linked : ℕ → Type' → ℕ → Plan → Plan → Open → Tokens → Type 0
Linked i t c r q o s =
    (a d : End) → asks_in q.joints a ≡ true → next i t c r a ≡ Some d → o a ≡ true → s.in_place Request a ≡ None → s.in_place Answer a ≡ None → o d ≡ true

-- o is open in the plan with the Share, and u in the one without it
pub record Beside (i : ℕ) (t : Type') (c : ℕ) (r q : Plan) (o u : Open) (s : Tokens) : Type 0 where
  pub kept : Kept i t c r q o s
  pub branch : Branch i t c r o s
  pub rests : (s.state i).phase ≡ Rest
  pub same : (e : End) → (IsOfPart i e → ⊥) → PutsSo r e Request → o e ≡ u e
  pub linked : Linked i t c r q o s
  pub asking : (e : End) → u e ≡ true → PutsSo r e Request

-- roles
pub puts_request : (role : Role) → way_taken role ≡ Answer → way_put role ≡ Request
puts_request Serve e = absurd (request_is_not_answer e)
puts_request Ask e = refl

pub asks_at : (r : Plan) (e : End) (x y : ℕ) → contact_at r e ≡ Some (asks x y) → PutsSo r e Request
asks_at r e x y h k there = let both : Some (asks x y) ≡ Some k = sym h ∙ there in let same : asks x y ≡ k = cc both in ap (λ (z : Contact). way_put z.role) (sym same)

so_in_q : (i : ℕ) (t : Type') (c : ℕ) (r q : Plan) → IsSeenThrough i t c r q → (e : End) (way : Direction) → PutsSo r e way → PutsSo q e way
so_in_q i t c r q is e way puts k there = puts k (sym (contact_seen i t c r q is e) ∙ there)

pub named_in_q : (i : ℕ) (t : Type') (c : ℕ) (r q : Plan) → IsSeenThrough i t c r q → (e : End) → PutsSo r e Request → handshake_at q e ≡ e
named_in_q i t c r q is e puts = named_itself q e is.also_right (so_in_q i t c r q is e Request puts)

-- who asks in the plan without the Share has its own place in the plan with it, and asks there
pub asker_place : (i : ℕ) (t : Type') (c : ℕ) (r q : Plan) → IsSeenThrough i t c r q → (a : End) → asks_in q.joints a ≡ true → places_of r a ≡ Some a
asker_place i t c r q is a asking = by_kind (asking_at i t c r q is a asking)
  where
    by_kind : Plain i t c r q a ⊎ Through i t c r q a → places_of r a ≡ Some a
    by_kind (inl p) = place_asking r a p.serving is.right p.in_r
    by_kind (inr p) = place_asking r a (PartEnd i p.shake) is.right p.into

pub asker_asks : (i : ℕ) (t : Type') (c : ℕ) (r q : Plan) → IsSeenThrough i t c r q → (a : End) → asks_in q.joints a ≡ true → PutsSo r a Request
asker_asks i t c r q is a asking = by_kind (asking_at i t c r q is a asking)
  where
    of_joint : (b : End) → IsIn (joint a b) r.joints → PutsSo r a Request
    of_joint b h = let fit = Rattle.gos_plan.proofs.JointLemmas.fits r [] r.joints (joint a b) is.right h in asks_at r a fit.0 fit.1 fit.2

    by_kind : Plain i t c r q a ⊎ Through i t c r q a → PutsSo r a Request
    by_kind (inl p) = of_joint p.serving p.in_r
    by_kind (inr p) = of_joint (PartEnd i p.shake) p.into

-- where nothing lies afterwards, nothing lay before, if a token was put
pub none_before_put : (s : Tokens) (way w : Direction) (p : Option End) (v : ℕ) (a : End) → (with_held way p (Some v) s).in_place w a ≡ None → s.in_place w a ≡ None
none_before_put s way w None v a h = h
none_before_put s way w (Some d) v a h = by_test (same_way w way && same_end a d) h
  where
    by_test : (b : Bool) → (if b then Some v else s.in_place w a) ≡ None → s.in_place w a ≡ None
    by_test true k = absurd (cc k)
    by_test false k = k

-- and if one was taken elsewhere
pub none_before_taken : (s : Tokens) (way w : Direction) (p : Option End) (a : End) → (p ≡ Some a → w ≡ way → ⊥) → (with_held way p None s).in_place w a ≡ None → s.in_place w a ≡ None
none_before_taken s way w None a apart h = h
none_before_taken s way w (Some d) a apart h = by_test (same_way w way) refl (same_end a d) refl h
  where
    by_test : (x : Bool) → same_way w way ≡ x → (y : Bool) → same_end a d ≡ y → (if x && y then None else s.in_place w a) ≡ None → s.in_place w a ≡ None
    by_test true m true n k = absurd (apart (ap Some (sym (same_is a d n))) (Rattle.gos_plan.proofs.TokenBitsLemmas.same_way_is w way m))
    by_test true m false n k = k
    by_test false m y n k = k

pub filled : (s : Tokens) (e : End) (v : ℕ) (way : Direction) → (with_place way e (Some v) s).in_place way e ≡ Some v
filled s e v Request = rw (same_itself e) refl
filled s e v Answer = rw (same_itself e) refl

-- what comes well without the Share comes well with it
pub well_too : (i : ℕ) (t : Type') (c : ℕ) (r q : Plan) → IsSeenThrough i t c r q → (o u : Open) (s : Tokens) (e : End) (way : Direction) → Beside i t c r q o u s
    → (IsOfPart i e → ⊥) → PutsSo r e way → ComesWell q e way u (seen_tokens i t c r q s) → ComesWell r e way o s
well_too i t c r q is o u s e Request beside apart puts well =
    ap o (named_itself r e is.right puts) ∙ (beside.same e apart puts ∙ (ap u (sym (named_in_q i t c r q is e puts)) ∙ well))
well_too i t c r q is o u s e Answer beside apart puts well = by_place (places_of q e) refl
  where
    nothing : (p : Option End) → places_of r e ≡ p → p ≡ None → (way : Direction) → token_at r s e way ≡ None
    nothing p h k way = ap (held_at s way) (h ∙ k)

    -- an end that has no place in q
    unplaced : places_of q e ≡ None → (f : Option Contact) → contact_at r e ≡ f → ComesWell r e Answer o s
    unplaced none (Some k) there =
        let up : u e ≡ true = subst (λ (p : Option End). u (named_by p e) ≡ true) none well.0 in
        absurd (request_is_not_answer (sym (beside.asking e up k there) ∙ puts k there))
    unplaced none None there = of_place (places_of r e) refl
      where
        no_contact : (k : Contact) → contact_at r e ≡ Some k → ⊥
        no_contact k h = let clash : None ≡ Some k = sym there ∙ h in cc clash

        by_side : (d : End) → Side r e d → ⊥
        by_side d (inl g) = no_contact (asks g.1.0 g.1.1) g.1.2
        by_side d (inr g) = no_contact (serves g.1.0 g.1.1) g.1.2

        of_place : (p : Option End) → places_of r e ≡ p → ComesWell r e Answer o s
        of_place (Some d) h = absurd (by_side d (side r e d is.right h))
        of_place None h =
            let up : u e ≡ true = subst (λ (p : Option End). u (named_by p e) ≡ true) none well.0 in
            let open_too : o e ≡ true = beside.same e apart (λ k g. absurd (no_contact k g)) ∙ up in
            (subst (λ (p : Option End). o (named_by p e) ≡ true) (sym h) open_too, nothing None h refl)

    -- what is seen to be empty is
    first_none : (x y : Option ℕ) → held_or x y ≡ None → x ≡ None
    first_none None y h = refl
    first_none (Some v) y h = absurd (cc h)

    second_none : (x y : Option ℕ) → held_or x y ≡ None → y ≡ None
    second_none None y h = h
    second_none (Some v) y h = absurd (cc h)

    placed : (a : End) → places_of q e ≡ Some a → Seen i t c r q e a → ComesWell r e Answer o s
    placed a there at = by_owner at.owns
      where
        up : o a ≡ true
        up = beside.same a (outside_at i t c r q a (asking_at i t c r q is a at.asks)) (asker_asks i t c r q is a at.asks)
            ∙ subst (λ (p : Option End). u (named_by p e) ≡ true) there well.0

        empty : (way : Direction) → held_or (s.in_place way a) (held_if s way (next i t c r a)) ≡ None
        empty way =
            let asking = at.asks in
            let seen : (if asks_in q.joints a then held_or (s.in_place way a) (held_if s way (next i t c r a)) else None) ≡ None =
            sym (ap (held_at (seen_tokens i t c r q s) way) there) ∙ well.1 way in
            rw asking at seen

        at_place : (d : End) → places_of r e ≡ Some d → o d ≡ true → ((way : Direction) → s.in_place way d ≡ None) → ComesWell r e Answer o s
        at_place d h open_d none = (subst (λ (p : Option End). o (named_by p e) ≡ true) (sym h) open_d, λ way. ap (held_at s way) h ∙ none way)

        firsts : (way : Direction) → s.in_place way a ≡ None
        firsts way = first_none (s.in_place way a) (held_if s way (next i t c r a)) (empty way)

        by_owner : Owns i t c r a at.place → ComesWell r e Answer o s
        by_owner (inl own) = at_place a (at.in_r ∙ ap Some own) up firsts
        by_owner (inr onto) =
            at_place at.place at.in_r (beside.linked a at.place at.asks onto up (firsts Request) (firsts Answer))
            (λ way. ap (held_if s way) (sym onto) ∙ second_none (s.in_place way a) (held_if s way (next i t c r a)) (empty way))

    by_place : (p : Option End) → places_of q e ≡ p → ComesWell r e Answer o s
    by_place None none = unplaced none (contact_at r e) refl
    by_place (Some a) there = placed a there (seen_at i t c r q is e a there)

same_put : (i : ℕ) (t : Type') (c : ℕ) (r q : Plan) → IsSeenThrough i t c r q → (e : End) (way : Direction) (o u : Open) → PutsSo r e way
    → (d : End) → o d ≡ u d → after_put r e way o d ≡ after_put q e way u d
same_put i t c r q is e Request o u puts d h =
    ap (λ (x : End). if same_end d x then true else o d) (named_itself r e is.right puts)
    ∙ (ap (λ (x : Bool). if same_end d e then true else x) h
    ∙ ap (λ (x : End). if same_end d x then true else u d) (sym (named_in_q i t c r q is e puts)))
same_put i t c r q is e Answer o u puts d h = h

linked_put : (i : ℕ) (t : Type') (c : ℕ) (r q : Plan) → IsSeenThrough i t c r q → (e : End) (way : Direction) (v : ℕ) (o : Open) (s : Tokens) → PutsSo r e way
    → Linked i t c r q o s → Linked i t c r q (after_put r e way o) (with_token r e way (Some v) s)
linked_put i t c r q is e Request v o s puts linked a d asking onto up none also = by_test (same_end a (handshake_at r e)) refl up
  where
    here : a ≡ e → ⊥
    here h =
        let there : places_of r e ≡ Some e = subst (λ (x : End). places_of r x ≡ Some x) h (asker_place i t c r q is a asking) in
        let lies : (with_held Request (Some e) (Some v) s).in_place Request a ≡ None = subst (λ (p : Option End). (with_held Request p (Some v) s).in_place Request a ≡ None) there none in
        not_both_so v _ (subst (λ (x : End). (with_held Request (Some e) (Some v) s).in_place Request x ≡ None) h lies) (filled s e v Request)

    still : (b : Bool) → o d ≡ true → (if b then true else o d) ≡ true
    still true k = refl
    still false k = k

    by_test : (b : Bool) → same_end a (handshake_at r e) ≡ b → (if b then true else o a) ≡ true → after_put r e Request o d ≡ true
    by_test true h k = absurd (here (same_is a (handshake_at r e) h ∙ named_itself r e is.right puts))
    by_test false h k =
        still (same_end d (handshake_at r e))
        (linked a d asking onto k (none_before_put s Request Request (places_of r e) v a none) (none_before_put s Request Answer (places_of r e) v a also))
linked_put i t c r q is e Answer v o s puts linked a d asking onto up none also =
    linked a d asking onto up (none_before_put s Answer Request (places_of r e) v a none) (none_before_put s Answer Answer (places_of r e) v a also)

asking_put : (i : ℕ) (t : Type') (c : ℕ) (r q : Plan) → IsSeenThrough i t c r q → (e : End) (way : Direction) (u : Open) → PutsSo r e way
    → ((d : End) → u d ≡ true → PutsSo r d Request) → (d : End) → after_put q e way u d ≡ true → PutsSo r d Request
asking_put i t c r q is e Request u puts asking d up = by_test (same_end d (handshake_at q e)) refl up
  where
    by_test : (b : Bool) → same_end d (handshake_at q e) ≡ b → (if b then true else u d) ≡ true → PutsSo r d Request
    by_test true h k = subst (λ (x : End). PutsSo r x Request) (sym (same_is d (handshake_at q e) h ∙ named_in_q i t c r q is e puts)) puts
    by_test false h k = asking d k
asking_put i t c r q is e Answer u puts asking d up = asking d up

-- A token put alike in both.
pub record PutAlike (i : ℕ) (t : Type') (c : ℕ) (r q : Plan) (o u : Open) (s : Tokens) (e : End) (way : Direction) (v : ℕ) : Type 0 where
  pub well : ComesWell r e way o s
  pub beside : Beside i t c r q (after_put r e way o) (after_put q e way u) (with_token r e way (Some v) s)
  pub seen : seen_tokens i t c r q (with_token r e way (Some v) s) ≡ with_token q e way (Some v) (seen_tokens i t c r q s)

pub put_alike : (i : ℕ) (t : Type') (c : ℕ) (r q : Plan) → IsSeenThrough i t c r q → (o u : Open) (s : Tokens) (e : End) (way : Direction) (v : ℕ) → Beside i t c r q o u s
    → (IsOfPart i e → ⊥) → PutsSo r e way → ComesWell q e way u (seen_tokens i t c r q s) → PutAlike i t c r q o u s e way v
put_alike i t c r q is o u s e way v beside apart puts well =
    record {
      well = now;
      beside =
          record {
            kept = kept_put i t c r q is e way v o s apart puts now beside.kept;
            branch = λ j lt up.
                let old = beside.branch j lt (open_before_put r i j e way o is.right apart puts up) in
                (ap (λ (x : State). x.number) (token_state r e way (Some v) s i) ∙ old.0, old.1);
            rests = ap (λ (x : State). x.phase) (token_state r e way (Some v) s i) ∙ beside.rests;
            same = λ d outside so. same_put i t c r q is e way o u puts d (beside.same d outside so);
            linked = linked_put i t c r q is e way v o s puts beside.linked;
            asking = asking_put i t c r q is e way u puts beside.asking;
          };
      seen = token_filled i t c r q is s e way (Some v) apart (clear_of_put i t c r q is o s e way apart puts beside.kept now);
    }
  where
    now : ComesWell r e way o s
    now = well_too i t c r q is o u s e way beside apart puts well

-- A token taken alike in both.
pub record TakenAlike (i : ℕ) (t : Type') (c : ℕ) (r q : Plan) (o u : Open) (s : Tokens) (e : End) (way : Direction) (v : ℕ) : Type 0 where
  pub lies : token_at q (seen_tokens i t c r q s) e way ≡ Some v
  pub beside : Beside i t c r q (after_taken r e way o) (after_taken q e way u) (with_token r e way None s)
  pub seen : seen_tokens i t c r q (with_token r e way None s) ≡ with_token q e way None (seen_tokens i t c r q s)

asks_there : (r : Plan) (e : End) → TakesSo r e Answer → PutsSo r e Request
asks_there r e takes k there = puts_request k.role (takes k there)

same_taken : (i : ℕ) (t : Type') (c : ℕ) (r q : Plan) → IsSeenThrough i t c r q → (e : End) (way : Direction) (o u : Open) → TakesSo r e way
    → (d : End) → o d ≡ u d → after_taken r e way o d ≡ after_taken q e way u d
same_taken i t c r q is e Request o u takes d h = h
same_taken i t c r q is e Answer o u takes d h =
    let puts = asks_there r e takes in
    ap (λ (x : End). if same_end d x then false else o d) (named_itself r e is.right puts)
    ∙ (ap (λ (x : Bool). if same_end d e then false else x) h
    ∙ ap (λ (x : End). if same_end d x then false else u d) (sym (named_in_q i t c r q is e puts)))

linked_taken : (i : ℕ) (t : Type') (c : ℕ) (r q : Plan) → IsSeenThrough i t c r q → (e : End) (way : Direction) (o : Open) (s : Tokens) → (IsOfPart i e → ⊥) → TakesSo r e way
    → Linked i t c r q o s → Linked i t c r q (after_taken r e way o) (with_token r e way None s)
linked_taken i t c r q is e Request o s apart takes linked a d asking onto up none also =
    linked a d asking onto up (none_before_taken s Request Request (places_of r e) a (λ h w. into a h) none) (none_before_taken s Request Answer (places_of r e) a (λ h w. request_is_not_answer (sym w)) also)
  where
    -- what e takes of a joint that leads into the Share is no request
    into : (x : End) → places_of r e ≡ Some a → ⊥
    into x h = by_side (side r e a is.right h)
      where
        by_side : Side r e a → ⊥
        by_side (inl g) = request_is_not_answer (sym (takes (asks g.1.0 g.1.1) g.1.2))
        by_side (inr g) =
            let w = follows i t c r q a d (asking_at i t c r q is a asking) onto in
            apart (of_part i w.0.shake e (one_server r a e (PartEnd i w.0.shake) is.right g.0 w.0.into))
linked_taken i t c r q is e Answer o s apart takes linked a d asking onto up none also =
    still (same_end d (handshake_at r e)) refl
    (linked a d asking onto was.1 (none_before_taken s Answer Request (places_of r e) a (λ h w. request_is_not_answer w) none)
    (none_before_taken s Answer Answer (places_of r e) a (λ h w. other h) also))
  where
    named : handshake_at r e ≡ e
    named = named_itself r e is.right (asks_there r e takes)

    was : (same_end a (handshake_at r e) ≡ false) × (o a ≡ true)
    was = still_open (handshake_at r e) a (same_end a (handshake_at r e)) (o a) refl up

    other : places_of r e ≡ Some a → ⊥
    other h =
        let y : same_end a (handshake_at r e) ≡ true = ap (λ (p : Option End). same_end a (named_by p e)) h ∙ same_itself a in
        let clash : true ≡ false = sym y ∙ was.0 in cc clash

    still : (b : Bool) → same_end d (handshake_at r e) ≡ b → o d ≡ true → (if b then false else o d) ≡ true
    still true h k =
        let w = follows i t c r q a d (asking_at i t c r q is a asking) onto in
        absurd (apart (of_part i (passed_on t c w.0.shake) e (sym named ∙ (sym (same_is d (handshake_at r e) h) ∙ w.1))))
    still false h k = k

pub take_alike : (i : ℕ) (t : Type') (c : ℕ) (r q : Plan) → IsSeenThrough i t c r q → (o u : Open) (s : Tokens) (e : End) (way : Direction) (v : ℕ) → Beside i t c r q o u s
    → (IsOfPart i e → ⊥) → TakesSo r e way → token_at r s e way ≡ Some v → TakenAlike i t c r q o u s e way v
take_alike i t c r q is o u s e way v beside apart takes lies =
    record {
      lies = token_seen i t c r q is s e way v (visible i t c r q is o s e way v apart takes beside.kept lies) clear lies;
      beside =
          record {
            kept = kept_taken i t c r q e way v o s lies beside.kept;
            branch = λ j lt up.
                let old = beside.branch j lt (open_before_taken r (PartEnd i j) e way o up) in
                (ap (λ (x : State). x.number) (token_state r e way None s i) ∙ old.0, old.1);
            rests = ap (λ (x : State). x.phase) (token_state r e way None s i) ∙ beside.rests;
            same = λ d outside so. same_taken i t c r q is e way o u takes d (beside.same d outside so);
            linked = linked_taken i t c r q is e way o s apart takes beside.linked;
            asking = λ d up. beside.asking d (open_before_taken q d e way u up);
          };
      seen = token_filled i t c r q is s e way None apart clear;
    }
  where
    clear : ClearAt i t c r q s e way
    clear = clear_of_taken i t c r q is o s e way v beside.kept lies

-- a part other than the Share in another state
pub beside_state : (i : ℕ) (t : Type') (c : ℕ) (r q : Plan) (k : ℕ) (x : State) (o u : Open) (s : Tokens) → (k ≡ i → ⊥) → Beside i t c r q o u s → Beside i t c r q o u (with_state k x s)
beside_state i t c r q k x o u s apart beside =
    record {
      kept = kept_state i t c r q k x o s beside.kept;
      branch = λ j lt up. let old = beside.branch j lt up in (ap (λ (y : State). y.number) stays ∙ old.0, old.1);
      rests = ap (λ (y : State). y.phase) stays ∙ beside.rests;
      same = beside.same;
      linked = beside.linked;
      asking = beside.asking;
    }
  where
    other : (b : Bool) → nat_eq i k ≡ b → (if b then x else s.state i) ≡ s.state i
    other true h = absurd (apart (grind (arith, h)))
    other false h = refl

    stays : (with_state k x s).state i ≡ s.state i
    stays = other (nat_eq i k) refl

-- what a part puts, token by token
pub record AllAlike (i : ℕ) (t : Type') (c : ℕ) (r q : Plan) (o u : Open) (s : Tokens) (k : ℕ) (xs : List Token) : Type 0 where
  pub well : AllComeWell r k xs o s
  pub beside : Beside i t c r q (after_puts r k xs o) (after_puts q k xs u) (with_puts r k xs s)
  pub seen : seen_tokens i t c r q (with_puts r k xs s) ≡ with_puts q k xs (seen_tokens i t c r q s)

pub all_alike : (i : ℕ) (t : Type') (c : ℕ) (r q : Plan) → IsSeenThrough i t c r q → (k : ℕ) (p : Part) → (k ≡ i → ⊥) → slice_get r.parts k ≡ Some p
    → (xs : List Token) (o u : Open) (s : Tokens) → Beside i t c r q o u s → PutsInRole p xs → AllComeWell q k xs u (seen_tokens i t c r q s) → AllAlike i t c r q o u s k xs
all_alike i t c r q is k p apart at_k [] o u s beside roles well = record { well = tt; beside = beside; seen = refl }
all_alike i t c r q is k p apart at_k (x ∷ xs) o u s beside roles well =
    let one = put_alike i t c r q is o u s (end_of k x.slot) (way_of x.slot) x.value beside apart (puts_so r k p x.slot at_k roles.0) well.0 in
    let rest =
    all_alike i t c r q is k p apart at_k xs (after_put r (end_of k x.slot) (way_of x.slot) o) (after_put q (end_of k x.slot) (way_of x.slot) u)
    (with_token r (end_of k x.slot) (way_of x.slot) (Some x.value) s) one.beside roles.1
    (subst (λ (z : Tokens). AllComeWell q k xs (after_put q (end_of k x.slot) (way_of x.slot) u) z) (sym one.seen) well.1) in
    record {
      well = (one.well, rest.well);
      beside = rest.beside;
      seen = rest.seen ∙ ap (with_puts q k xs) one.seen;
    }
