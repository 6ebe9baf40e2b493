-- A plan of a variable that is read: joined to a Deref it is driven at the handshake by which it is read.
use Rattle.std.specs.Prelude.{◌↔◌, ◌⊎◌, ◌+◌, ◌-◌, ◌<◌, ◌||◌, ◌&&◌, nat_eq, slice_get, length}
use Rattle.std.proofs.Common.{◌≡◌, ℕ, zero, suc, Bool, true, false, [], ◌∷◌, Some, Contains, inl, inr, refl, sym, ◌∙◌, ap, subst, arith}
use Rattle.std.proofs.lemmas.Option.{none-some}
use Rattle.gos_types.specs.Types.{Type', Exp, Var}
use Rattle.gos_types.specs.Events.{Request}
use Rattle.gos_plan.specs.Kinds as kinds
use Rattle.gos_plan.specs.Kinds.{asks, serves, Part, part_contacts}
use Rattle.gos_plan.specs.Plans.{End, PartEnd, ImportEnd, ResultEnd, Joint, Plan, contact_at, IsRight}
use Rattle.gos_plan.specs.Joining.{Place, place, Link, Wiring, is_joined, origin, Path, Connects, IsJoining}
use Rattle.gos_plan.specs.Orderly.{handshake_at}
use Rattle.gos_plan.proofs.JointLemmas.{contained}
use Rattle.gos_realises.specs.realises.Renumbered.{moved}
use Rattle.gos_realises.specs.realises.Wirings.{lone, link, reading}
use Rattle.gos_realises.proofs.realises.RenumberLemmas.{moved_twice}
use Rattle.gos_joining.specs.webs.Webs.{joint}
use Rattle.gos_sharing.specs.sharing.Sharing.{IsOfPart}
use Rattle.gos_sharing.proofs.sharing.SeenKeptLemmas.{PutsSo}
use Rattle.gos_sharing.proofs.buffers.BranchLemmas.{named_itself}
use Rattle.gos_sharing.proofs.buffers.BesideLemmas.{asks_at}
use Rattle.gos_sharing.proofs.buffers.KeptLemmas.{joint_keeps, link_keeps, path_keeps}
use Rattle.gos_sharing.proofs.buffers.HousedLemmas.{one_handshake, not_both, joint_to, asker_apart}
use Rattle.gos_sharing.proofs.buffers.DrivenLemmas.{IsPlain, DrivenJoint, IsDriven, IsOwn}
use Rattle.gos_sharing.proofs.buffers.AttachedLemmas.{Attached, Joined, Stands, OfPlan, OfOther, OfResult, part_later, at_result, same_imports, result_contact, own_contact, other_contact, stands, plain_connects, result_connects, own_connects}
use Rattle.gos_sharing.proofs.buffers.LooseDrivenLemmas.{forth, back, IsLater, forth_mid, back_mid, returns}

-- the Deref's own joint
abbrev pub ReadOwn : ℕ → End → End → Type 0
ReadOwn n a b = (a ≡ ResultEnd 0) × (b ≡ PartEnd n 1)

pub read_is_own : IsOwn ReadOwn
read_is_own =
    record {
      asking = λ n i a b lt own of. subst (λ (x : End). IsOfPart i x) own.0 of;
      serving = λ n i a b lt own of. let e : n ≡ i = subst (λ (x : End). IsOfPart i x) own.1 of in omega (arith, e, lt);
    }

-- it comes one number later
next_first : (n m h : ℕ) → 0 < m → moved (forth n m) (PartEnd (suc n) h) ≡ PartEnd n h
next_first n m h some =
    let e : suc n - 1 ≡ n = omega arith in ap (λ j. PartEnd j h) (forth_mid n m (suc n) (omega arith) (omega (arith, some)) ∙ e)

first_back : (n m h : ℕ) → 0 < m → moved (back n m) (PartEnd n h) ≡ PartEnd (suc n) h
first_back n m h some = ap (λ j. PartEnd j h) (back_mid n m n (omega arith) (omega (arith, some)))

pub later_first : (n m h : ℕ) (e : End) → 0 < m → (e ≡ PartEnd (suc n) h) ↔ (moved (forth n m) e ≡ PartEnd n h)
later_first n m h e some = (
  λ at. ap (moved (forth n m)) at ∙ next_first n m h some,
  λ at. sym (moved_twice (forth n m) (back n m) (returns n m) e) ∙ (ap (moved (back n m)) at ∙ first_back n m h some),
)

pub later_result : (n m h : ℕ) (e : End) → (e ≡ ResultEnd h) ↔ (moved (forth n m) e ≡ ResultEnd h)
later_result n m h e = (
  λ at. ap (moved (forth n m)) at,
  λ at. sym (moved_twice (forth n m) (back n m) (returns n m) e) ∙ ap (moved (back n m)) at,
)

pub read_is_later : IsLater ReadOwn 1
read_is_later n a b = (
  λ own. ((later_result n 1 0 a).0 own.0, (later_first n 1 1 b (omega arith)).0 own.1),
  λ own. ((later_result n 1 0 a).1 own.0, (later_first n 1 1 b (omega arith)).1 own.1),
)

-- who asks by a name that a joint has
pub record Name : Type 0 where
  pub side : ℕ
  pub end : End

abbrev pub name : ℕ → End → Name
name n e = record { side = n; end = e }

-- two sides
pub sides_differ : (m n : ℕ) (d e : End) → (m ≡ n → ⊥) → name m d ≡ name n e → ⊥
sides_differ m n d e apart h = apart (ap (λ (x : Name). x.side) h)

pub zero_one : zero ≡ suc zero → ⊥
zero_one e = omega (arith, e)

pub one_side : (n : ℕ) (d e : End) → name n d ≡ name n e → d ≡ e
one_side n d e h = ap (λ (x : Name). x.end) h

-- the name of a place; that of the Deref's operand is the variable's
abbrev name_in : Plan → ℕ → End → Name
name_in p zero e = name 0 (handshake_at p e)
name_in p (suc k) (PartEnd i zero) = name 0 (ResultEnd 0)
name_in p (suc k) (PartEnd i (suc h)) = name 1 (ResultEnd h)
name_in p (suc k) (ImportEnd i h) = name 1 (ImportEnd i h)
name_in p (suc k) (ResultEnd h) = name 1 (ResultEnd h)

abbrev name_at : Plan → Place → Name
name_at p a = name_in p a.plan a.end

-- the one joint of a part alone
pub lone_joint : (k : Part) (s : ℕ) (t : Type') (j : Joint) → Contains (lone k s t).joints j → j ≡ joint (ResultEnd 0) (PartEnd 0 s)
lone_joint k s t j has = by_joint (contained (lone k s t).joints j has)
  where
    by_joint : (j ≡ joint (ResultEnd 0) (PartEnd 0 s)) ⊎ ⊥ → j ≡ joint (ResultEnd 0) (PartEnd 0 s)
    by_joint (inl e) = e
    by_joint (inr none) = absurd none

none_else : (k j : ℕ) → is_joined (link 0 (ResultEnd 0) 1 (PartEnd 0 0) ∷ []) k j ≡ false
none_else k j = both (nat_eq 0 k) (nat_eq 1 k)
  where
    both : (a b : Bool) → (((a && false) || (b && false)) || false) ≡ false
    both true true = refl
    both true false = refl
    both false true = refl
    both false false = refl

module _ (w : ℕ) (p r : Plan) (right : IsRight p) (outcome : p.outcome ≡ Var w) (join : IsJoining (reading w p) r) where
  abbrev number : ℕ
  number = length p.parts

  abbrev deref : Plan
  deref = lone (kinds.Deref w) 1 (Exp w)

  abbrev wiring : Wiring
  wiring = reading w p

  abbrev base : Attached
  base = record { plan = p; others = deref ∷ []; links = link 0 (ResultEnd 0) 1 (PartEnd 0 0) ∷ []; outcome = Exp w; free = none_else 0; alone = refl }

  abbrev joining : Joined
  joining = record { base = base; width = w; whole = r; right = right; typed = outcome; join = join }

  reads : PutsSo p (ResultEnd 0) Request
  reads = asks_at p (ResultEnd 0) 0 w (result_contact joining 0)

  -- steps keep names
  of_joint : (k : ℕ) (x : Plan) → slice_get wiring.plans k ≡ Some x → (j : Joint) → Contains x.joints j → name_in p k j.asking ≡ name_in p k j.serving
  of_joint zero x is j has =
      let same : p ≡ x = cc is in
      ap (name 0) (one_handshake p j.asking j.serving right (contained p.joints j (subst (λ (y : Plan). Contains y.joints j) (sym same) has)))
  of_joint (suc zero) x is j has =
      let same : deref ≡ x = cc is in
      let e = lone_joint (kinds.Deref w) 1 (Exp w) j (subst (λ (y : Plan). Contains y.joints j) (sym same) has) in
      subst (λ (y : Joint). name_in p 1 y.asking ≡ name_in p 1 y.serving) (sym e) refl
  of_joint (suc (suc k)) x is j has = absurd (none-some x is)

  link_named : (l : Link) → Contains wiring.links l → name_at p l.one ≡ name_at p l.other
  link_named l (zero, inside, is) = subst (λ (x : Link). name_at p x.one ≡ name_at p x.other) is (ap (name 0) (named_itself p (ResultEnd 0) right reads))
  link_named l (suc k, inside, is) = absurd (omega (arith, inside))

  walked : (n : ℕ) (a b : Place) → Path wiring n a b → name_at p a ≡ name_at p b
  walked = path_keeps Name (name_at p) wiring (joint_keeps Name (name_in p) wiring of_joint) (link_keeps Name (name_at p) wiring link_named)

  -- the Deref's ends
  first : number ≡ number + 0
  first = omega arith

  only : (e : End) (i j h : ℕ) → j < 1 → i ≡ number + j → e ≡ PartEnd i h → e ≡ PartEnd number h
  only e i j h lt is at = let same : i ≡ number = omega (arith, lt, is) in at ∙ ap (λ n. PartEnd n h) same

  at_deref : (e : End) (h g : ℕ) → e ≡ PartEnd number h → h ≡ g → origin wiring e ≡ place 1 (PartEnd 0 g)
  at_deref e h g at is = ap (origin wiring) (at ∙ ap (PartEnd number) is) ∙ part_later base number 0 g first

  deref_contact : (h : ℕ) → contact_at r (PartEnd number h) ≡ slice_get (part_contacts (kinds.Deref w)) h
  deref_contact h = other_contact joining number 0 h first

  deref_asks : (h q v : ℕ) → contact_at r (PartEnd number h) ≡ Some (asks q v) → h ≡ 0
  deref_asks zero q v there = refl
  deref_asks (suc zero) q v there =
      let e : Some (serves 0 w) ≡ Some (asks q v) = sym (deref_contact 1) ∙ there in
      let same : serves 0 w ≡ asks q v = cc e in
      absurd (not_both q v 0 w (sym same))
  deref_asks (suc (suc h)) q v there = absurd (none-some (asks q v) (sym (deref_contact (suc (suc h))) ∙ there))

  deref_serves : (h q v : ℕ) → contact_at r (PartEnd number h) ≡ Some (serves q v) → h ≡ 1
  deref_serves zero q v there =
      let e : Some (asks 0 w) ≡ Some (serves q v) = sym (deref_contact 0) ∙ there in
      let same : asks 0 w ≡ serves q v = cc e in
      absurd (not_both 0 w q v same)
  deref_serves (suc zero) q v there = refl
  deref_serves (suc (suc h)) q v there = absurd (none-some (serves q v) (sym (deref_contact (suc (suc h))) ∙ there))

  result_asks : (h q v : ℕ) → contact_at r (ResultEnd h) ≡ Some (serves q v) → ⊥
  result_asks zero q v there =
      let e : Some (asks 0 w) ≡ Some (serves q v) = sym (own_contact joining 0) ∙ there in
      let same : asks 0 w ≡ serves q v = cc e in
      not_both 0 w q v same
  result_asks (suc h) q v there = none-some (serves q v) (sym (own_contact joining (suc h)) ∙ there)

  result_is : (h q v : ℕ) → contact_at r (ResultEnd h) ≡ Some (asks q v) → h ≡ 0
  result_is zero q v there = refl
  result_is (suc h) q v there = absurd (none-some (asks q v) (sym (own_contact joining (suc h)) ∙ there))

  -- from a joint of the whole
  to_driven : (a b : End) → Connects wiring r a b → DrivenJoint 0 0 ReadOwn number p a b
  to_driven a b (q, v, n, there, also, path) = by_places (stands joining a (asks q v) there) (stands joining b (serves q v) also)
    where
      names : (x y : Place) → origin wiring a ≡ x → origin wiring b ≡ y → name_at p x ≡ name_at p y
      names x y at_a at_b = ap (name_at p) (sym at_a) ∙ (walked n (origin wiring a) (origin wiring b) path ∙ ap (name_at p) at_b)

      asks_there : (h : ℕ) → a ≡ PartEnd number h → h ≡ 0
      asks_there h e = deref_asks h q v (ap (contact_at r) (sym e) ∙ there)

      serves_there : (h : ℕ) → b ≡ PartEnd number h → h ≡ 1
      serves_there h e = deref_serves h q v (ap (contact_at r) (sym e) ∙ also)

      by_places : Stands joining a → Stands joining b → DrivenJoint 0 0 ReadOwn number p a b
      by_places x (OfResult h e) = absurd (result_asks h q v (ap (contact_at r) (sym e) ∙ also))
      by_places (OfPlan plain at_a same) (OfPlan other at_b also_same) = inl (
        joint_to p a b q v right (asker_apart r a b q v there also) (also_same ∙ also)
            (one_side 0 (handshake_at p a) (handshake_at p b) (names (place 0 a) (place 0 b) at_a at_b)),
        plain,
      )
      by_places (OfPlan plain at_a same) (OfOther k j h lt sum e) =
          let at = only b k j h lt sum e in
          absurd (sides_differ 0 1 (handshake_at p a) (ResultEnd 0) zero_one
          (names (place 0 a) (place 1 (PartEnd 0 1)) at_a (at_deref b h 1 at (serves_there h at))))
      by_places (OfOther k j h lt sum e) (OfPlan other at_b same) =
          let at = only a k j h lt sum e in
          let is = asks_there h at in
          inr (inl (
            at ∙ ap (PartEnd number) is,
            joint_to p (ResultEnd 0) b q v right (λ d. subst IsPlain (sym d) other) (same ∙ also)
                (named_itself p (ResultEnd 0) right reads
                ∙ one_side 0 (ResultEnd 0) (handshake_at p b) (names (place 1 (PartEnd 0 0)) (place 0 b) (at_deref a h 0 at is) at_b)),
          ))
      by_places (OfOther k j h lt sum e) (OfOther l i g less also_sum d) =
          let at = only a k j h lt sum e in
          let also_at = only b l i g less also_sum d in
          absurd (sides_differ 0 1 (ResultEnd 0) (ResultEnd 0) zero_one
          (names (place 1 (PartEnd 0 0)) (place 1 (PartEnd 0 1)) (at_deref a h 0 at (asks_there h at)) (at_deref b g 1 also_at (serves_there g also_at))))
      by_places (OfResult h e) (OfPlan other at_b same) =
          absurd (sides_differ 0 1 (handshake_at p b) (ResultEnd h) zero_one
          (sym (names (place 1 (ResultEnd h)) (place 0 b) (ap (origin wiring) e ∙ at_result base h) at_b)))
      by_places (OfResult h e) (OfOther k j g less sum d) =
          let at = only b k j g less sum d in
          inr (inr (e ∙ ap ResultEnd (result_is h q v (ap (contact_at r) (sym e) ∙ there)), at ∙ ap (PartEnd number) (serves_there g at)))

  -- and back
  from_driven : (a b : End) → DrivenJoint 0 0 ReadOwn number p a b → Connects wiring r a b
  from_driven a b (inl (here, plain)) = plain_connects joining a b here plain
  from_driven a b (inr (inl (is_a, here))) =
      subst (λ (x : End). Connects wiring r x b) (sym is_a) (result_connects joining 0 0 b (0, omega arith, refl) refl refl here)
  from_driven a b (inr (inr (is_a, is_b))) =
      subst (λ (x : End). Connects wiring r x b) (sym is_a) (subst (λ (x : End). Connects wiring r (ResultEnd 0) x) (sym is_b)
      (own_connects joining (kinds.Deref w) 1 0 w refl refl (own_contact joining 0) (deref_contact 1)))

  pub read_is_driven : IsDriven 0 0 (kinds.Deref w ∷ []) ReadOwn p r
  read_is_driven =
      record {
        right = join.right;
        parts = join.parts;
        imports = same_imports joining;
        joints = λ a b. ((λ has. to_driven a b ((join.joints a b).0 has)), (λ here. (join.joints a b).1 (from_driven a b here)));
      }
