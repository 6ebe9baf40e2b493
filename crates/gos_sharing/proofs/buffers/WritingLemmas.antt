-- A plan of a variable that is written: joined to an Assign and a Lit it is driven at the handshake by which it is written.
use Rattle.std.specs.Prelude.{◌⊎◌, ◌+◌, ◌-◌, ◌<◌, ◌||◌, ◌&&◌, nat_eq, slice_get, length}
use Rattle.std.proofs.Common.{◌≡◌, ℕ, zero, suc, Bool, true, false, List, [], ◌∷◌, Some, Contains, inl, inr, refl, sym, ◌∙◌, ap, subst, arith}
use Rattle.std.proofs.lemmas.Option.{none-some}
use Rattle.gos_types.specs.Types.{Com, Exp, Var}
use Rattle.gos_types.specs.Events.{Request}
use Rattle.gos_plan.specs.Kinds as kinds
use Rattle.gos_plan.specs.Kinds.{asks, serves, Part, part_contacts}
use Rattle.gos_plan.specs.Plans.{End, PartEnd, ImportEnd, ResultEnd, Joint, Plan, contact_at, IsRight}
use Rattle.gos_plan.specs.Joining.{Place, place, Link, Wiring, is_joined, origin, Path, Connects, IsJoining}
use Rattle.gos_plan.specs.Orderly.{handshake_at}
use Rattle.gos_plan.proofs.JointLemmas.{contained}
use Rattle.gos_realises.specs.realises.Renumbered.{moved}
use Rattle.gos_realises.specs.realises.Wirings.{lone, link, writing}
use Rattle.gos_realises.proofs.realises.RenumberLemmas.{moved_twice}
use Rattle.gos_joining.specs.webs.Webs.{joint}
use Rattle.gos_sharing.specs.sharing.Sharing.{IsOfPart}
use Rattle.gos_sharing.proofs.sharing.SeenKeptLemmas.{PutsSo}
use Rattle.gos_sharing.proofs.buffers.BranchLemmas.{named_itself}
use Rattle.gos_sharing.proofs.buffers.BesideLemmas.{asks_at}
use Rattle.gos_sharing.proofs.buffers.KeptLemmas.{joint_keeps, link_keeps, path_keeps}
use Rattle.gos_sharing.proofs.buffers.HousedLemmas.{one_handshake, not_both, joint_to, asker_apart}
use Rattle.gos_sharing.proofs.buffers.DrivenLemmas.{IsPlain, DrivenJoint, IsDriven, IsOwn}
use Rattle.gos_sharing.proofs.buffers.AttachedLemmas.{Attached, Joined, Stands, OfPlan, OfOther, OfResult, part_later, at_result, same_imports, result_contact, own_contact, other_contact, stands, plain_connects, result_connects, own_connects}
use Rattle.gos_sharing.proofs.buffers.LooseDrivenLemmas.{forth, back, IsLater, forth_mid, back_mid, returns}
use Rattle.gos_sharing.proofs.buffers.ReadingLemmas.{later_first, later_result, Name, name, sides_differ, zero_one, one_side, lone_joint}

-- the joints of the Assign and the Lit
abbrev pub WriteOwn : ℕ → End → End → Type 0
WriteOwn n a b = ((a ≡ ResultEnd 0) × (b ≡ PartEnd n 2)) ⊎ ((a ≡ PartEnd n 0) × (b ≡ PartEnd (suc n) 0))

pub write_is_own : IsOwn WriteOwn
write_is_own = record { asking = asking; serving = serving }
  where
    asking : (n i : ℕ) (a b : End) → i < n → WriteOwn n a b → IsOfPart i a → ⊥
    asking n i a b lt (inl own) of = subst (λ (x : End). IsOfPart i x) own.0 of
    asking n i a b lt (inr own) of = let e : n ≡ i = subst (λ (x : End). IsOfPart i x) own.0 of in omega (arith, e, lt)

    serving : (n i : ℕ) (a b : End) → i < n → WriteOwn n a b → IsOfPart i b → ⊥
    serving n i a b lt (inl own) of = let e : n ≡ i = subst (λ (x : End). IsOfPart i x) own.1 of in omega (arith, e, lt)
    serving n i a b lt (inr own) of = let e : suc n ≡ i = subst (λ (x : End). IsOfPart i x) own.1 of in omega (arith, e, lt)

-- they come one number later
next_second : (n h : ℕ) → moved (forth n 2) (PartEnd (suc (suc n)) h) ≡ PartEnd (suc n) h
next_second n h =
    let e : suc (suc n) - 1 ≡ suc n = omega arith in ap (λ j. PartEnd j h) (forth_mid n 2 (suc (suc n)) (omega arith) (omega arith) ∙ e)

second_back : (n h : ℕ) → moved (back n 2) (PartEnd (suc n) h) ≡ PartEnd (suc (suc n)) h
second_back n h = ap (λ j. PartEnd j h) (back_mid n 2 (suc n) (omega arith) (omega arith))

pub write_is_later : IsLater WriteOwn 2
write_is_later n a b = (onto, from)
  where
    onto : WriteOwn (suc n) a b → WriteOwn n (moved (forth n 2) a) (moved (forth n 2) b)
    onto (inl own) = inl ((later_result n 2 0 a).0 own.0, (later_first n 2 2 b (omega arith)).0 own.1)
    onto (inr own) = inr ((later_first n 2 0 a (omega arith)).0 own.0, ap (moved (forth n 2)) own.1 ∙ next_second n 0)

    from : WriteOwn n (moved (forth n 2) a) (moved (forth n 2) b) → WriteOwn (suc n) a b
    from (inl own) = inl ((later_result n 2 0 a).1 own.0, (later_first n 2 2 b (omega arith)).1 own.1)
    from (inr own) =
        inr ((later_first n 2 0 a (omega arith)).1 own.0, sym (moved_twice (forth n 2) (back n 2) (returns n 2) b) ∙ (ap (moved (back n 2)) own.1 ∙ second_back n 0))

-- sides
zero_two : zero ≡ suc (suc zero) → ⊥
zero_two e = omega (arith, e)

one_two : suc zero ≡ suc (suc zero) → ⊥
one_two e = omega (arith, e)

-- The name of a place. That of the Assign's write is the variable's, and that of its value the number's.
abbrev name_in : Plan → ℕ → End → Name
name_in p zero e = name 0 (handshake_at p e)
name_in p (suc zero) (PartEnd i zero) = name 2 (ResultEnd 0)
name_in p (suc zero) (PartEnd i (suc zero)) = name 0 (ResultEnd 1)
name_in p (suc zero) (PartEnd i (suc (suc h))) = name 1 (ResultEnd h)
name_in p (suc zero) (ImportEnd i h) = name 1 (ImportEnd i h)
name_in p (suc zero) (ResultEnd h) = name 1 (ResultEnd h)
name_in p (suc (suc k)) (PartEnd i h) = name 2 (ResultEnd h)
name_in p (suc (suc k)) (ImportEnd i h) = name 2 (ImportEnd i h)
name_in p (suc (suc k)) (ResultEnd h) = name 2 (ResultEnd h)

abbrev name_at : Plan → Place → Name
name_at p a = name_in p a.plan a.end

abbrev write_links : List Link
write_links = link 0 (ResultEnd 1) 1 (PartEnd 0 1) ∷ link 1 (PartEnd 0 0) 2 (ResultEnd 0) ∷ []

none_else : (k j : ℕ) → is_joined write_links k j ≡ false
none_else k j = both (nat_eq 0 k) (nat_eq 1 k) (nat_eq 2 k)
  where
    both : (a b c : Bool) → (((a && false) || (b && false)) || (((b && false) || (c && false)) || false)) ≡ false
    both true true true = refl
    both true true false = refl
    both true false true = refl
    both true false false = refl
    both false true true = refl
    both false true false = refl
    both false false true = refl
    both false false false = refl

module _ (w k : ℕ) (p r : Plan) (right : IsRight p) (outcome : p.outcome ≡ Var w) (join : IsJoining (writing w k p) r) where
  abbrev number : ℕ
  number = length p.parts

  abbrev drivers : List Part
  drivers = kinds.Assign w ∷ kinds.Lit w k ∷ []

  abbrev assign : Plan
  assign = lone (kinds.Assign w) 2 Com

  abbrev lit : Plan
  lit = lone (kinds.Lit w k) 0 (Exp w)

  abbrev wiring : Wiring
  wiring = writing w k p

  abbrev base : Attached
  base = record { plan = p; others = assign ∷ lit ∷ []; links = write_links; outcome = Com; free = none_else 0; alone = refl }

  abbrev joining : Joined
  joining = record { base = base; width = w; whole = r; right = right; typed = outcome; join = join }

  writes : PutsSo p (ResultEnd 1) Request
  writes = asks_at p (ResultEnd 1) w 0 (result_contact joining 1)

  -- steps keep names
  of_joint : (i : ℕ) (x : Plan) → slice_get wiring.plans i ≡ Some x → (j : Joint) → Contains x.joints j → name_in p i j.asking ≡ name_in p i j.serving
  of_joint zero x is j has =
      let same : p ≡ x = cc is in
      ap (name 0) (one_handshake p j.asking j.serving right (contained p.joints j (subst (λ (y : Plan). Contains y.joints j) (sym same) has)))
  of_joint (suc zero) x is j has =
      let same : assign ≡ x = cc is in
      let e = lone_joint (kinds.Assign w) 2 Com j (subst (λ (y : Plan). Contains y.joints j) (sym same) has) in
      subst (λ (y : Joint). name_in p 1 y.asking ≡ name_in p 1 y.serving) (sym e) refl
  of_joint (suc (suc zero)) x is j has =
      let same : lit ≡ x = cc is in
      let e = lone_joint (kinds.Lit w k) 0 (Exp w) j (subst (λ (y : Plan). Contains y.joints j) (sym same) has) in
      subst (λ (y : Joint). name_in p 2 y.asking ≡ name_in p 2 y.serving) (sym e) refl
  of_joint (suc (suc (suc i))) x is j has = absurd (none-some x is)

  link_named : (l : Link) → Contains wiring.links l → name_at p l.one ≡ name_at p l.other
  link_named l (zero, inside, is) = subst (λ (x : Link). name_at p x.one ≡ name_at p x.other) is (ap (name 0) (named_itself p (ResultEnd 1) right writes))
  link_named l (suc zero, inside, is) = subst (λ (x : Link). name_at p x.one ≡ name_at p x.other) is refl
  link_named l (suc (suc i), inside, is) = absurd (omega (arith, inside))

  walked : (n : ℕ) (a b : Place) → Path wiring n a b → name_at p a ≡ name_at p b
  walked = path_keeps Name (name_at p) wiring (joint_keeps Name (name_in p) wiring of_joint) (link_keeps Name (name_at p) wiring link_named)

  -- the ends of the Assign and the Lit
  first : number ≡ number + 0
  first = omega arith

  second : suc number ≡ number + 1
  second = omega arith

  of_assign : (e : End) (i h : ℕ) → i ≡ number + 0 → e ≡ PartEnd i h → e ≡ PartEnd number h
  of_assign e i h is at = at ∙ ap (λ n. PartEnd n h) (is ∙ sym first)

  of_lit : (e : End) (i h : ℕ) → i ≡ number + 1 → e ≡ PartEnd i h → e ≡ PartEnd (suc number) h
  of_lit e i h is at = at ∙ ap (λ n. PartEnd n h) (is ∙ sym second)

  at_assign : (e : End) (h g : ℕ) → e ≡ PartEnd number h → h ≡ g → origin wiring e ≡ place 1 (PartEnd 0 g)
  at_assign e h g at is = ap (origin wiring) (at ∙ ap (PartEnd number) is) ∙ part_later base number 0 g first

  at_lit : (e : End) (h g : ℕ) → e ≡ PartEnd (suc number) h → h ≡ g → origin wiring e ≡ place 2 (PartEnd 0 g)
  at_lit e h g at is = ap (origin wiring) (at ∙ ap (PartEnd (suc number)) is) ∙ part_later base (suc number) 1 g second

  assign_contact : (h : ℕ) → contact_at r (PartEnd number h) ≡ slice_get (part_contacts (kinds.Assign w)) h
  assign_contact h = other_contact joining number 0 h first

  lit_contact : (h : ℕ) → contact_at r (PartEnd (suc number) h) ≡ slice_get (part_contacts (kinds.Lit w k)) h
  lit_contact h = other_contact joining (suc number) 1 h second

  assign_asks : (h q v : ℕ) → contact_at r (PartEnd number h) ≡ Some (asks q v) → (h ≡ 0) ⊎ (h ≡ 1)
  assign_asks zero q v there = inl refl
  assign_asks (suc zero) q v there = inr refl
  assign_asks (suc (suc zero)) q v there =
      let e : Some (serves 0 0) ≡ Some (asks q v) = sym (assign_contact 2) ∙ there in
      let same : serves 0 0 ≡ asks q v = cc e in
      absurd (not_both q v 0 0 (sym same))
  assign_asks (suc (suc (suc h))) q v there = absurd (none-some (asks q v) (sym (assign_contact (suc (suc (suc h)))) ∙ there))

  assign_serves : (h q v : ℕ) → contact_at r (PartEnd number h) ≡ Some (serves q v) → h ≡ 2
  assign_serves zero q v there =
      let e : Some (asks 0 w) ≡ Some (serves q v) = sym (assign_contact 0) ∙ there in
      let same : asks 0 w ≡ serves q v = cc e in
      absurd (not_both 0 w q v same)
  assign_serves (suc zero) q v there =
      let e : Some (asks w 0) ≡ Some (serves q v) = sym (assign_contact 1) ∙ there in
      let same : asks w 0 ≡ serves q v = cc e in
      absurd (not_both w 0 q v same)
  assign_serves (suc (suc zero)) q v there = refl
  assign_serves (suc (suc (suc h))) q v there = absurd (none-some (serves q v) (sym (assign_contact (suc (suc (suc h)))) ∙ there))

  lit_asks : (h q v : ℕ) → contact_at r (PartEnd (suc number) h) ≡ Some (asks q v) → ⊥
  lit_asks zero q v there =
      let e : Some (serves 0 w) ≡ Some (asks q v) = sym (lit_contact 0) ∙ there in
      let same : serves 0 w ≡ asks q v = cc e in
      not_both q v 0 w (sym same)
  lit_asks (suc h) q v there = none-some (asks q v) (sym (lit_contact (suc h)) ∙ there)

  lit_serves : (h q v : ℕ) → contact_at r (PartEnd (suc number) h) ≡ Some (serves q v) → h ≡ 0
  lit_serves zero q v there = refl
  lit_serves (suc h) q v there = absurd (none-some (serves q v) (sym (lit_contact (suc h)) ∙ there))

  result_asks : (h q v : ℕ) → contact_at r (ResultEnd h) ≡ Some (serves q v) → ⊥
  result_asks zero q v there =
      let e : Some (asks 0 0) ≡ Some (serves q v) = sym (own_contact joining 0) ∙ there in
      let same : asks 0 0 ≡ serves q v = cc e in
      not_both 0 0 q v same
  result_asks (suc h) q v there = none-some (serves q v) (sym (own_contact joining (suc h)) ∙ there)

  result_is : (h q v : ℕ) → contact_at r (ResultEnd h) ≡ Some (asks q v) → h ≡ 0
  result_is zero q v there = refl
  result_is (suc h) q v there = absurd (none-some (asks q v) (sym (own_contact joining (suc h)) ∙ there))

  -- from a joint of the whole
  to_driven : (a b : End) → Connects wiring r a b → DrivenJoint 1 1 WriteOwn number p a b
  to_driven a b (q, v, n, there, also, path) = by_places (stands joining a (asks q v) there) (stands joining b (serves q v) also)
    where
      names : (x y : Place) → origin wiring a ≡ x → origin wiring b ≡ y → name_at p x ≡ name_at p y
      names x y at_a at_b = ap (name_at p) (sym at_a) ∙ (walked n (origin wiring a) (origin wiring b) path ∙ ap (name_at p) at_b)

      serves_assign : (h : ℕ) → b ≡ PartEnd number h → h ≡ 2
      serves_assign h e = assign_serves h q v (ap (contact_at r) (sym e) ∙ also)

      serves_lit : (h : ℕ) → b ≡ PartEnd (suc number) h → h ≡ 0
      serves_lit h e = lit_serves h q v (ap (contact_at r) (sym e) ∙ also)

      from_assign : (h : ℕ) → a ≡ PartEnd number h → (h ≡ 0) ⊎ (h ≡ 1) → Stands joining b → DrivenJoint 1 1 WriteOwn number p a b
      from_assign h e side (OfResult g d) = absurd (result_asks g q v (ap (contact_at r) (sym d) ∙ also))
      from_assign h e side (OfOther l (suc (suc j)) g lt sum d) = absurd (omega (arith, lt))
      from_assign h e (inl is) (OfPlan other at_b same) =
          absurd (sides_differ 0 2 (handshake_at p b) (ResultEnd 0) zero_two (sym (names (place 1 (PartEnd 0 0)) (place 0 b) (at_assign a h 0 e is) at_b)))
      from_assign h e (inr is) (OfPlan other at_b same) =
          inr (inl (
            e ∙ ap (PartEnd number) is,
            joint_to p (ResultEnd 1) b q v right (λ d. subst IsPlain (sym d) other) (same ∙ also)
                (named_itself p (ResultEnd 1) right writes
                ∙ one_side 0 (ResultEnd 1) (handshake_at p b) (names (place 1 (PartEnd 0 1)) (place 0 b) (at_assign a h 1 e is) at_b)),
          ))
      from_assign h e (inl is) (OfOther l zero g lt sum d) =
          let at = of_assign b l g sum d in
          absurd (sides_differ 1 2 (ResultEnd 0) (ResultEnd 0) one_two
          (sym (names (place 1 (PartEnd 0 0)) (place 1 (PartEnd 0 2)) (at_assign a h 0 e is) (at_assign b g 2 at (serves_assign g at)))))
      from_assign h e (inr is) (OfOther l zero g lt sum d) =
          let at = of_assign b l g sum d in
          absurd (sides_differ 0 1 (ResultEnd 1) (ResultEnd 0) zero_one
          (names (place 1 (PartEnd 0 1)) (place 1 (PartEnd 0 2)) (at_assign a h 1 e is) (at_assign b g 2 at (serves_assign g at))))
      from_assign h e (inl is) (OfOther l (suc zero) g lt sum d) =
          let at = of_lit b l g sum d in inr (inr (inr (e ∙ ap (PartEnd number) is, at ∙ ap (PartEnd (suc number)) (serves_lit g at))))
      from_assign h e (inr is) (OfOther l (suc zero) g lt sum d) =
          let at = of_lit b l g sum d in
          absurd (sides_differ 0 2 (ResultEnd 1) (ResultEnd 0) zero_two
          (names (place 1 (PartEnd 0 1)) (place 2 (PartEnd 0 0)) (at_assign a h 1 e is) (at_lit b g 0 at (serves_lit g at))))

      by_places : Stands joining a → Stands joining b → DrivenJoint 1 1 WriteOwn number p a b
      by_places (OfOther l zero h lt sum e) place_b =
          let at = of_assign a l h sum e in from_assign h at (assign_asks h q v (ap (contact_at r) (sym at) ∙ there)) place_b
      by_places (OfOther l (suc zero) h lt sum e) place_b = absurd (lit_asks h q v (ap (contact_at r) (sym (of_lit a l h sum e)) ∙ there))
      by_places (OfOther l (suc (suc j)) h lt sum e) place_b = absurd (omega (arith, lt))
      by_places x (OfOther l (suc (suc j)) h lt sum e) = absurd (omega (arith, lt))
      by_places x (OfResult h e) = absurd (result_asks h q v (ap (contact_at r) (sym e) ∙ also))
      by_places (OfPlan plain at_a same) (OfPlan other at_b also_same) = inl (
        joint_to p a b q v right (asker_apart r a b q v there also) (also_same ∙ also)
            (one_side 0 (handshake_at p a) (handshake_at p b) (names (place 0 a) (place 0 b) at_a at_b)),
        plain,
      )
      by_places (OfPlan plain at_a same) (OfOther l zero h lt sum e) =
          let at = of_assign b l h sum e in
          absurd (sides_differ 0 1 (handshake_at p a) (ResultEnd 0) zero_one
          (names (place 0 a) (place 1 (PartEnd 0 2)) at_a (at_assign b h 2 at (serves_assign h at))))
      by_places (OfPlan plain at_a same) (OfOther l (suc zero) h lt sum e) =
          let at = of_lit b l h sum e in
          absurd (sides_differ 0 2 (handshake_at p a) (ResultEnd 0) zero_two
          (names (place 0 a) (place 2 (PartEnd 0 0)) at_a (at_lit b h 0 at (serves_lit h at))))
      by_places (OfResult h e) (OfPlan other at_b same) =
          absurd (sides_differ 0 1 (handshake_at p b) (ResultEnd h) zero_one
          (sym (names (place 1 (ResultEnd h)) (place 0 b) (ap (origin wiring) e ∙ at_result base h) at_b)))
      by_places (OfResult h e) (OfOther l zero g lt sum d) =
          let at = of_assign b l g sum d in
          inr (inr (inl (e ∙ ap ResultEnd (result_is h q v (ap (contact_at r) (sym e) ∙ there)), at ∙ ap (PartEnd number) (serves_assign g at))))
      by_places (OfResult h e) (OfOther l (suc zero) g lt sum d) =
          let at = of_lit b l g sum d in
          absurd (sides_differ 1 2 (ResultEnd h) (ResultEnd 0) one_two
          (names (place 1 (ResultEnd h)) (place 2 (PartEnd 0 0)) (ap (origin wiring) e ∙ at_result base h) (at_lit b g 0 at (serves_lit g at))))

  -- and back
  from_driven : (a b : End) → DrivenJoint 1 1 WriteOwn number p a b → Connects wiring r a b
  from_driven a b (inl (here, plain)) = plain_connects joining a b here plain
  from_driven a b (inr (inl (is_a, here))) =
      subst (λ (x : End). Connects wiring r x b) (sym is_a) (result_connects joining 1 1 b (0, omega arith, refl) refl refl here)
  from_driven a b (inr (inr (inl (is_a, is_b)))) =
      subst (λ (x : End). Connects wiring r x b) (sym is_a) (subst (λ (x : End). Connects wiring r (ResultEnd 0) x) (sym is_b)
      (own_connects joining (kinds.Assign w) 2 0 0 refl refl (own_contact joining 0) (assign_contact 2)))
  from_driven a b (inr (inr (inr (is_a, is_b)))) = (
    0,
    w,
    2,
    ap (contact_at r) is_a ∙ assign_contact 0,
    ap (contact_at r) is_b ∙ lit_contact 0,
    (
      place 2 (ResultEnd 0),
      inr (link 1 (PartEnd 0 0) 2 (ResultEnd 0), (1, omega arith, refl), inl (at_assign a 0 0 is_a refl, refl)),
      (
        place 2 (PartEnd 0 0),
        inl (lit, joint (ResultEnd 0) (PartEnd 0 0), refl, refl, (0, omega arith, refl), inl (refl, refl)),
        sym (at_lit b 0 0 is_b refl),
      ),
    ),
  )

  pub write_is_driven : IsDriven 1 1 drivers WriteOwn p r
  write_is_driven =
      record {
        right = join.right;
        parts = join.parts;
        imports = same_imports joining;
        joints = λ a b. ((λ has. to_driven a b ((join.joints a b).0 has)), (λ here. (join.joints a b).1 (from_driven a b here)));
      }
