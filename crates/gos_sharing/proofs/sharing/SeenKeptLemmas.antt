-- What an orderly list keeps where a Share works for one caller: a joint that leads into it is open, and empty, while the
-- one that follows is open; and nothing comes to an end that has no place in the plan without the Share.
use Rattle.std.specs.Prelude.{◌⊎◌, None, ◌&&◌}
use Rattle.std.proofs.Common.{◌≡◌, ℕ, Bool, true, false, [], Option, Some, inl, inr, refl, sym, ◌∙◌, ap, subst, if◌then◌else◌}
use Rattle.gos_types.specs.Types.{Type'}
use Rattle.gos_types.specs.declared.shakes.Role.{Role}
use Rattle.gos_types.specs.declared.shakes.Role.TheVariants.{Serve, Ask}
use Rattle.gos_types.specs.Events.{Direction, Request, Answer}
use Rattle.gos_types.proofs.RoleLemmas.{request_is_not_answer}
use Rattle.gos_plan.specs.Kinds.{Contact, asks, serves}
use Rattle.gos_plan.specs.Plans.{End, PartEnd, Plan, same_end, contact_at, IsRight}
use Rattle.gos_plan.specs.Tokens.{Tokens, places_of, same_way, with_held, held_at, token_at, with_token, way_taken, way_put}
use Rattle.gos_plan.specs.Orderly.{Open, named_by, handshake_at, after_taken, after_put, ComesWell}
use Rattle.gos_plan.proofs.JointLemmas.{IsIn, same_is, Found, found, fits, contained}
use Rattle.gos_plan.proofs.HeldLemmas.{AllFit, taken, put_well}
use Rattle.gos_plan.proofs.TokenBitsLemmas.{same_way_is}
use Rattle.gos_joining.specs.webs.Webs.{joint}
use Rattle.gos_joining.specs.webs.Cutting.{asks_in}
use Rattle.gos_sharing.specs.sharing.Sharing.{IsOfPart, IsSeenThrough, passed_on, held_if}
use Rattle.gos_joining.proofs.webs.MovedLemmas.{listed}
use Rattle.gos_sharing.proofs.sharing.SeenTokenLemmas.{next, asking_at, follows, of_part, either_end, one_server, place_asking, place_serving}
use Rattle.gos_sharing.proofs.sharing.ShareRowLemmas.{AllClear, differ}

pub record Kept (i : ℕ) (t : Type') (c : ℕ) (r q : Plan) (o : Open) (s : Tokens) : Type 0 where
  pub fit : AllFit o s
  pub firsts : (a d : End) → asks_in q.joints a ≡ true → next i t c r a ≡ Some d → o d ≡ true → (o a ≡ true) × (s.in_place Request a ≡ None) × (s.in_place Answer a ≡ None)
  pub lost : (e : End) (k : Contact) → (IsOfPart i e → ⊥) → contact_at r e ≡ Some k → places_of q e ≡ None → token_at r s e (way_taken k.role) ≡ None

pub fit_none : (o : Open) (s : Tokens) → AllFit o s → (d : End) → o d ≡ false → (way : Direction) → s.in_place way d ≡ None
fit_none o s fit d shut way = by_bool (o d) refl (fit d) way
  where
    by_bool : (b : Bool) → o d ≡ b → Rattle.gos_plan.proofs.HeldLemmas.Fits b (s.in_place Request d) (s.in_place Answer d) → (w : Direction) → s.in_place w d ≡ None
    by_bool true h f w = let clash : true ≡ false = sym h ∙ shut in absurd (cc clash)
    by_bool false h f Request = f.0
    by_bool false h f Answer = f.1

pub both_none : (s : Tokens) (a : End) (way : Direction) → s.in_place Request a ≡ None → s.in_place Answer a ≡ None → s.in_place way a ≡ None
both_none s a Request h k = h
both_none s a Answer h k = k

pub not_both_so : (v : ℕ) (x : Option ℕ) → x ≡ None → x ≡ Some v → ⊥
not_both_so v x h k = let clash : None ≡ Some v = sym h ∙ k in cc clash

pub all_clear : (i : ℕ) (t : Type') (c : ℕ) (r q : Plan) → IsSeenThrough i t c r q → (o : Open) (s : Tokens) → Kept i t c r q o s → AllClear i t c r q s
all_clear i t c r q is o s kept way a d v asks (inl e) lies = (λ h. next_empty (next i t c r a) refl, λ h. absurd (own h))
  where
    here : s.in_place way a ≡ Some v
    here = ap (s.in_place way) (sym e) ∙ lies

    own : next i t c r a ≡ Some d → ⊥
    own h = let w = follows i t c r q a d (asking_at i t c r q is a asks) h in differ i t c r q is a (passed_on t c w.0.shake) asks (sym e ∙ w.1)

    next_empty : (n : Option End) → next i t c r a ≡ n → held_if s way n ≡ None
    next_empty None h = refl
    next_empty (Some f) h = by_open (o f) refl
      where
        by_open : (b : Bool) → o f ≡ b → s.in_place way f ≡ None
        by_open true k = let old = kept.firsts a f asks h k in absurd (not_both_so v (s.in_place way a) (both_none s a way old.1 old.2) here)
        by_open false k = fit_none o s kept.fit f k way
all_clear i t c r q is o s kept way a d v asks (inr e) lies = (λ h. absurd (own h), λ h. by_open (o d) refl)
  where
    own : d ≡ a → ⊥
    own h = let w = follows i t c r q a d (asking_at i t c r q is a asks) e in differ i t c r q is a (passed_on t c w.0.shake) asks (sym h ∙ w.1)

    by_open : (b : Bool) → o d ≡ b → s.in_place way a ≡ None
    by_open true k = let old = kept.firsts a d asks e k in both_none s a way old.1 old.2
    by_open false k = absurd (not_both_so v (s.in_place way d) (fit_none o s kept.fit d k way) lies)

-- an end asks in its joint, or serves in it
abbrev pub Side : Plan → End → End → Type 0
Side r e d =
    ((d ≡ e) × ((x : ℕ) × (y : ℕ) × (contact_at r e ≡ Some (asks x y))))
    ⊎ (IsIn (joint d e) r.joints × ((x : ℕ) × (y : ℕ) × (contact_at r e ≡ Some (serves x y))))

pub side : (r : Plan) (e d : End) → IsRight r → places_of r e ≡ Some d → Side r e d
side r e d right there = by_end (either_end e f.joint.asking f.joint.serving f.stands)
  where
    f : Found r.joints e d
    f = found r.joints e d there

    by_end : (e ≡ f.joint.asking) ⊎ (e ≡ f.joint.serving) → Side r e d
    by_end (inl h) = let fit = fits r [] r.joints f.joint right f.is_in in inl (sym f.named ∙ sym h, (fit.0, fit.1, ap (contact_at r) h ∙ fit.2))
    by_end (inr h) =
        let fit = fits r [] r.joints f.joint right f.is_in in
        inr (
          subst (λ (x : End). IsIn (joint d x) r.joints) (sym h) (subst (λ (x : End). IsIn (joint x f.joint.serving) r.joints) f.named f.is_in),
          (fit.0, fit.1, ap (contact_at r) h ∙ fit.3),
        )

-- what is put at an end, by its role
abbrev pub PutsSo : Plan → End → Direction → Type 0
PutsSo r e way = (k : Contact) → contact_at r e ≡ Some k → way_put k.role ≡ way

not_taken : (role : Role) → way_put role ≡ way_taken role → ⊥
not_taken Serve h = request_is_not_answer (sym h)
not_taken Ask h = request_is_not_answer h

pub stays_empty : (s : Tokens) (way w : Direction) (o : Option End) (a : End) → s.in_place w a ≡ None → (with_held way o None s).in_place w a ≡ None
stays_empty s way w None a h = h
stays_empty s way w (Some d) a h = by_test (same_way w way && same_end a d)
  where
    by_test : (b : Bool) → (if b then None else s.in_place w a) ≡ None
    by_test true = refl
    by_test false = h

pub held_stays : (s : Tokens) (way w : Direction) (o n : Option End) → held_at s w n ≡ None → held_at (with_held way o None s) w n ≡ None
held_stays s way w o None h = refl
held_stays s way w o (Some a) h = stays_empty s way w o a h

pub still_open : (H d : End) (b x : Bool) → same_end d H ≡ b → (if same_end d H then false else x) ≡ true → (same_end d H ≡ false) × (x ≡ true)
still_open H d true x h k = let g : false ≡ true = rw h at k in absurd (cc g)
still_open H d false x h k = (h, rw h at k)

pub kept_taken : (i : ℕ) (t : Type') (c : ℕ) (r q : Plan) (e : End) (way : Direction) (v : ℕ) (o : Open) (s : Tokens)
    → token_at r s e way ≡ Some v → Kept i t c r q o s → Kept i t c r q (after_taken r e way o) (with_token r e way None s)
kept_taken i t c r q e Request v o s lies kept =
    record {
      fit = taken r e Request v o s lies kept.fit;
      firsts = λ a d asks n up_d. let old = kept.firsts a d asks n up_d in
          (old.0, stays_empty s Request Request (places_of r e) a old.1, stays_empty s Request Answer (places_of r e) a old.2);
      lost = λ x k apart there none. held_stays s Request (way_taken k.role) (places_of r e) (places_of r x) (kept.lost x k apart there none);
    }
kept_taken i t c r q e Answer v o s lies kept =
    record {
      fit = taken r e Answer v o s lies kept.fit;
      firsts = λ a d asks n up_d. let was = still_open (handshake_at r e) d (same_end d (handshake_at r e)) (o d) refl up_d in
          let old = kept.firsts a d asks n was.1 in
          (open_still a (same_end a (handshake_at r e)) refl old.0 old.2, stays_empty s Answer Request (places_of r e) a old.1, stays_empty s Answer Answer (places_of r e) a old.2);
      lost = λ x k apart there none. held_stays s Answer (way_taken k.role) (places_of r e) (places_of r x) (kept.lost x k apart there none);
    }
  where
    named : (p : Option End) → places_of r e ≡ p → s.in_place Answer (named_by p e) ≡ Some v
    named None none = absurd (not_both_so v (token_at r s e Answer) (ap (held_at s Answer) none) lies)
    named (Some d) there = ap (held_at s Answer) (sym there) ∙ lies

    open_still : (a : End) (b : Bool) → same_end a (handshake_at r e) ≡ b → o a ≡ true → s.in_place Answer a ≡ None → (if same_end a (handshake_at r e) then false else o a) ≡ true
    open_still a true h k none =
        absurd (not_both_so v (s.in_place Answer a) none (ap (s.in_place Answer) (same_is a (handshake_at r e) h) ∙ named (places_of r e) refl))
    open_still a false h k none = rw h k

-- two ends outside at one place: what is put at the one isn't taken at the other, where that has no place in q
lost_clash : (i : ℕ) (t : Type') (c : ℕ) (r q : Plan) → IsSeenThrough i t c r q → (e x d : End) (way : Direction) (k : Contact) → (IsOfPart i e → ⊥) → (IsOfPart i x → ⊥)
    → PutsSo r e way → contact_at r x ≡ Some k → places_of q x ≡ None → way_taken k.role ≡ way → Side r e d → Side r x d → ⊥
lost_clash i t c r q is e x d way k apart other puts there none same one two = by_sides one two
  where
    equal : e ≡ x → ⊥
    equal h = not_taken k.role (puts k (ap (contact_at r) h ∙ there) ∙ sym same)

    in_q : (a b : End) → IsIn (joint a b) r.joints → (IsOfPart i a → ⊥) → (IsOfPart i b → ⊥) → IsIn (joint a b) q.joints
    in_q a b h na nb = contained q.joints (joint a b) ((is.joints a b).1 (inl (listed r.joints (joint a b) h, na, nb)))

    placed : (y : End) → places_of q x ≡ Some y → ⊥
    placed y h = let clash : None ≡ Some y = sym none ∙ h in cc clash

    by_sides : Side r e d → Side r x d → ⊥
    by_sides (inl (h, j)) (inl (g, l)) = equal (sym h ∙ g)
    by_sides (inl (h, j)) (inr (g, l)) =
        placed d (place_serving q d x is.also_right (in_q d x g (λ of. apart (subst (λ (y : End). IsOfPart i y) h of)) other))
    by_sides (inr (g, l)) (inl (h, j)) =
        placed x (place_asking q x e is.also_right (in_q x e (subst (λ (y : End). IsIn (joint y e) r.joints) h g) other apart))
    by_sides (inr (g, l)) (inr (h, j)) = equal (one_server r d e x is.right g h)

lost_put : (i : ℕ) (t : Type') (c : ℕ) (r q : Plan) → IsSeenThrough i t c r q → (e : End) (way : Direction) (v : ℕ) (o : Open) (s : Tokens) → (IsOfPart i e → ⊥) → PutsSo r e way
    → Kept i t c r q o s → (x : End) (k : Contact) → (IsOfPart i x → ⊥) → contact_at r x ≡ Some k → places_of q x ≡ None → token_at r (with_token r e way (Some v) s) x (way_taken k.role) ≡ None
lost_put i t c r q is e way v o s apart puts kept x k other there none = by_places (places_of r e) refl (places_of r x) refl
  where
    by_places : (m : Option End) → places_of r e ≡ m → (n : Option End) → places_of r x ≡ n → held_at (with_held way m (Some v) s) (way_taken k.role) n ≡ None
    by_places m g None h = refl
    by_places None g (Some d) h = ap (held_at s (way_taken k.role)) (sym h) ∙ kept.lost x k other there none
    by_places (Some f) g (Some d) h = by_test (same_way (way_taken k.role) way) refl (same_end d f) refl
      where
        old : s.in_place (way_taken k.role) d ≡ None
        old = ap (held_at s (way_taken k.role)) (sym h) ∙ kept.lost x k other there none

        by_test : (a : Bool) → same_way (way_taken k.role) way ≡ a → (b : Bool) → same_end d f ≡ b
            → (if same_way (way_taken k.role) way && same_end d f then Some v else s.in_place (way_taken k.role) d) ≡ None
        by_test true y true z =
            absurd (lost_clash i t c r q is e x d way k apart other puts there none (same_way_is (way_taken k.role) way y) (side r e d is.right (g ∙ ap Some (sym (same_is d f z)))) (side r x d is.right h))
        by_test true y false z = rw (y, z) old
        by_test false y b z = rw y old

pub kept_put : (i : ℕ) (t : Type') (c : ℕ) (r q : Plan) → IsSeenThrough i t c r q → (e : End) (way : Direction) (v : ℕ) (o : Open) (s : Tokens) → (IsOfPart i e → ⊥) → PutsSo r e way
    → ComesWell r e way o s → Kept i t c r q o s → Kept i t c r q (after_put r e way o) (with_token r e way (Some v) s)
kept_put i t c r q is e Request v o s apart puts well kept =
    record { fit = put_well r e Request v o s well kept.fit; firsts = λ a d asks n up_d. first a d asks n (same_end d (handshake_at r e)) refl up_d; lost = lost_put i t c r q is e Request v o s apart puts kept }
  where
    no_request : (p : Option End) → places_of r e ≡ p → IsOfPart i (named_by p e) → ⊥
    no_request None h of = apart of
    no_request (Some d) h of = by_side (side r e d is.right h)
      where
        by_side : Side r e d → ⊥
        by_side (inl g) = apart (subst (λ (y : End). IsOfPart i y) g.0 of)
        by_side (inr g) = request_is_not_answer (sym (puts (serves g.1.0 g.1.1) g.1.2))

    first : (a d : End) → asks_in q.joints a ≡ true → next i t c r a ≡ Some d → (b : Bool) → same_end d (handshake_at r e) ≡ b → (if same_end d (handshake_at r e) then true else o d) ≡ true
        → ((if same_end a (handshake_at r e) then true else o a) ≡ true) × ((with_token r e Request (Some v) s).in_place Request a ≡ None) × ((with_token r e Request (Some v) s).in_place Answer a ≡ None)
    first a d asks n true h up_d =
        let w = follows i t c r q a d (asking_at i t c r q is a asks) n in
        absurd (no_request (places_of r e) refl (of_part i (passed_on t c w.0.shake) (handshake_at r e) (sym (same_is d (handshake_at r e) h) ∙ w.1)))
    first a d asks n false h up_d =
        let was : o d ≡ true = rw h at up_d in
        let old = kept.firsts a d asks n was in
        (still (same_end a (handshake_at r e)) old.0, empty (places_of r e) refl old.0 old.1, beside (places_of r e) old.2)
      where
        still : (b : Bool) → o a ≡ true → (if b then true else o a) ≡ true
        still true k = refl
        still false k = k

        beside : (p : Option End) → s.in_place Answer a ≡ None → (with_held Request p (Some v) s).in_place Answer a ≡ None
        beside None k = k
        beside (Some f) k = k

        empty : (p : Option End) → places_of r e ≡ p → o a ≡ true → s.in_place Request a ≡ None → (with_held Request p (Some v) s).in_place Request a ≡ None
        empty None g up k = k
        empty (Some f) g up k = by_test (same_end a f) refl
          where
            by_test : (b : Bool) → same_end a f ≡ b → (if same_end a f then Some v else s.in_place Request a) ≡ None
            by_test true z =
                let shut : o f ≡ false = subst (λ (p : Option End). o (named_by p e) ≡ false) g well in
                let clash : true ≡ false = sym up ∙ (ap o (same_is a f z) ∙ shut) in
                absurd (cc clash)
            by_test false z = rw z k
kept_put i t c r q is e Answer v o s apart puts well kept =
    record { fit = put_well r e Answer v o s well kept.fit; firsts = λ a d asks n up_d. let old = kept.firsts a d asks n up_d in (old.0, beside a (places_of r e) old.1, empty a d asks n (places_of r e) refl old.2); lost = lost_put i t c r q is e Answer v o s apart puts kept }
  where
    beside : (a : End) (p : Option End) → s.in_place Request a ≡ None → (with_held Answer p (Some v) s).in_place Request a ≡ None
    beside a None k = k
    beside a (Some f) k = k

    empty : (a d : End) → asks_in q.joints a ≡ true → next i t c r a ≡ Some d → (p : Option End) → places_of r e ≡ p → s.in_place Answer a ≡ None → (with_held Answer p (Some v) s).in_place Answer a ≡ None
    empty a d asks n None g k = k
    empty a d asks n (Some f) g k = by_test (same_end a f) refl
      where
        by_side : a ≡ f → Side r e f → ⊥
        by_side z (inl j) = request_is_not_answer (puts (Rattle.gos_plan.specs.Kinds.asks j.1.0 j.1.1) j.1.2)
        by_side z (inr j) =
            let w = follows i t c r q a d (asking_at i t c r q is a asks) n in
            apart (of_part i w.0.shake e (one_server r a e (PartEnd i w.0.shake) is.right (subst (λ (y : End). IsIn (joint y e) r.joints) (sym z) j.0) w.0.into))

        by_test : (b : Bool) → same_end a f ≡ b → (if same_end a f then Some v else s.in_place Answer a) ≡ None
        by_test true z = absurd (by_side (same_is a f z) (side r e f is.right g))
        by_test false z = rw z k
