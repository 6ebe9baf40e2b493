-- A plan behind a Share is a buffer, whose see-through plan is the plan itself with a loose part.
use Rattle.std.specs.Prelude.{◌⊎◌, ◌+◌, ◌-◌, ◌*◌, ◌<◌, ◌≤◌, ◌&&◌, ◌||◌, None, IsTrue, All, nat_eq, slice_get, length, map}
use Rattle.std.proofs.Common.{◌≡◌, ℕ, zero, suc, Bool, true, false, not, List, [], ◌∷◌, ◌++◌, Some, Contains, inl, inr, refl, sym, ◌∙◌, ap, subst, arith}
use Rattle.std.proofs.lemmas.List.Elements.{All-push}
use Rattle.std.proofs.lemmas.Option.{slice_get_within, none-some}
use Rattle.std.proofs.lemmas.Bool.{false_from_ne_true}
use Rattle.gos_types.specs.Types.{Type', IsGround}
use Rattle.gos_types.specs.Handshakes.{turned}
use Rattle.gos_types.specs.declared.shakes.Role.{Role}
use Rattle.gos_types.specs.declared.shakes.Role.TheVariants.{Serve, Ask}
use Rattle.gos_model.specs.Terms.{Term}
use Rattle.gos_plan.specs.Kinds.{Contact, asks, serves, Part, Share, contacts_of, turned_contact, part_contacts}
use Rattle.gos_plan.specs.Plans.{End, PartEnd, ImportEnd, ResultEnd, Joint, Plan, contact_at, contacts_of_part, turned_if, same_end, stands_in, is_free, Fits, AreRight, IsRight}
use Rattle.gos_plan.specs.TokenBits.{LiteralFits}
use Rattle.gos_plan.proofs.MovedJointLemmas.{map_in, in_map, right_moved}
use Rattle.gos_plan.proofs.JointLemmas.{IsIn, same_itself, fits, contained, apart_is_not_same, same_part, same_shake}
use Rattle.gos_plan.proofs.AskingLemmas.{source_at, first_caller_at, second_caller_at}
use Rattle.gos_plan.proofs.ContactLemmas.{turned_of, as_serves, turned_asks}
use Rattle.gos_realises.specs.realises.Regular.{count, IsRegular}
use Rattle.gos_realises.specs.realises.Matched.{RealisesInTurn}
use Rattle.gos_realises.specs.realises.Realises.{Suits}
use Rattle.gos_joining.specs.webs.Webs.{joint}
use Rattle.gos_joining.specs.webs.Cutting.{StandsIn}
use Rattle.gos_joining.proofs.webs.MovedLemmas.{listed}
use Rattle.gos_sharing.specs.sharing.Sharing.{source_end, caller_end, way_into, way_out_of, IsOfPart, LeadsThrough, IsSeenThrough}
use Rattle.gos_sharing.proofs.sharing.SeenTokenLemmas.{either_end}
use Rattle.gos_sharing.specs.buffers.Buffers.{IsBuffer}
use Rattle.gos_sharing.specs.buffers.Buffering.{with_part, end_behind, joint_behind, callers_joined, buffered, ResultIsJoined, BufferedIsBuffer}
use Rattle.gos_sharing.proofs.buffers.GroundLemmas.{ground_serves}
use Rattle.gos_sharing.proofs.buffers.LoosePartLemmas.{loose_part_is_free}
use Rattle.gos_sharing.proofs.buffers.RegularLemmas.{buffered_is_regular}
use Rattle.gos_sharing.proofs.buffers.MatchedLemmas.{buffered_realises}

-- lists of parts
pub at_last : (xs : List Part) (y : Part) → slice_get (xs ++ (y ∷ [])) (length xs) ≡ Some y
at_last [] y = refl
at_last (x ∷ xs) y = at_last xs y

pub before_last : (xs : List Part) (y : Part) (i : ℕ) → (i ≡ length xs → ⊥) → slice_get (xs ++ (y ∷ [])) i ≡ slice_get xs i
before_last [] y zero apart = absurd (apart refl)
before_last [] y (suc i) apart = refl
before_last (x ∷ xs) y zero apart = refl
before_last (x ∷ xs) y (suc i) apart = before_last xs y i (λ e. apart (omega (arith, e)))

none_last : (xs : List Part) → slice_get xs (length xs) ≡ None
none_last [] = refl
none_last (x ∷ xs) = none_last xs

-- numbers
pub later : (h n : ℕ) → n ≤ h → nat_eq h n ≡ false → suc n ≤ h
later h n le e = grind (arith, le, e)

pub above : (h n : ℕ) → suc n ≤ h → nat_eq h n ≡ true → ⊥
above h n le e = let same : h ≡ n = grind (arith, e) in omega (arith, same, le)

pub apart_callers : (n c j h : ℕ) → c < 2 → j < n → h < n → n + (1 - c) * n + j ≡ n + c * n + h → ⊥
apart_callers n zero j h two lt le e = omega (arith, lt, le, e)
apart_callers n (suc zero) j h two lt le e = omega (arith, lt, le, e)
apart_callers n (suc (suc c)) j h two lt le e = omega (arith, two)

pub stands_asking : (e a b : End) → e ≡ a → stands_in e (joint a b) ≡ true
stands_asking e a b same =
    let t : same_end e a ≡ true = subst (λ (x : End). same_end e x ≡ true) same (same_itself e) in rw t refl

-- joints, one after another
abbrev Onto : List Joint → List Joint → List Joint
Onto [] before = before
Onto (x ∷ xs) before = Onto xs (x ∷ before)

pub right_together : (p : Plan) (before xs ys : List Joint) → AreRight p before xs → AreRight p (Onto xs before) ys → AreRight p before (xs ++ ys)
right_together p before [] ys one other = other
right_together p before (x ∷ xs) ys one other = (one.0, right_together p (x ∷ before) xs ys one.1 other)

-- an end that stands in none is free
pub free_of : (e : End) (js : List Joint) → ((j : Joint) → IsIn j js → stands_in e j ≡ false) → IsTrue (is_free e js)
free_of e [] none = refl
free_of e (x ∷ xs) none =
    let here = none x (inl refl) in
    let rest = free_of e xs (λ j h. none j (inr h)) in
    by_test (stands_in e x) here (is_free e xs) rest
  where
    by_test : (a : Bool) → a ≡ false → (b : Bool) → b ≡ true → (not a && b) ≡ true
    by_test a h b k = grind (arith, h, k)

in_onto : (xs before : List Joint) (j : Joint) → IsIn j (Onto xs before) → IsIn j xs ⊎ IsIn j before
in_onto [] before j h = inr h
in_onto (x ∷ xs) before j h = by_side (in_onto xs (x ∷ before) j h)
  where
    by_side : IsIn j xs ⊎ ((j ≡ x) ⊎ IsIn j before) → ((j ≡ x) ⊎ IsIn j xs) ⊎ IsIn j before
    by_side (inl k) = inl (inr k)
    by_side (inr (inl k)) = inl (inl k)
    by_side (inr (inr k)) = inr k

-- the joints of the plan, and others
pub in_first : (xs ys : List Joint) (j : Joint) → IsIn j xs → IsIn j (xs ++ ys)
in_first [] ys j h = absurd h
in_first (x ∷ xs) ys j (inl e) = inl e
in_first (x ∷ xs) ys j (inr h) = inr (in_first xs ys j h)

pub in_second : (xs ys : List Joint) (j : Joint) → IsIn j ys → IsIn j (xs ++ ys)
in_second [] ys j h = h
in_second (x ∷ xs) ys j h = inr (in_second xs ys j h)

pub in_either : (xs ys : List Joint) (j : Joint) → IsIn j (xs ++ ys) → IsIn j xs ⊎ IsIn j ys
in_either [] ys j h = inr h
in_either (x ∷ xs) ys j (inl e) = inl (inl e)
in_either (x ∷ xs) ys j (inr h) = by_side (in_either xs ys j h)
  where
    by_side : IsIn j xs ⊎ IsIn j ys → ((j ≡ x) ⊎ IsIn j xs) ⊎ IsIn j ys
    by_side (inl k) = inl (inr k)
    by_side (inr k) = inr k

-- those of the callers
pub in_callers : (i : ℕ) (t : Type') (c n m : ℕ) (j : Joint) → IsIn j (callers_joined i t c n m) → (h : ℕ) × (h < n + m) × (n ≤ h) × (j ≡ joint (ResultEnd h) (caller_end i t c h))
in_callers i t c n zero j h = absurd h
in_callers i t c n (suc m) j (inl e) = (n, omega arith, omega arith, e)
in_callers i t c n (suc m) j (inr h) =
    let (g, lt, le, e) = in_callers i t c (suc n) m j h in (g, omega (arith, lt), omega (arith, le), e)

pub callers_in : (i : ℕ) (t : Type') (c n m h : ℕ) → n ≤ h → h < n + m → IsIn (joint (ResultEnd h) (caller_end i t c h)) (callers_joined i t c n m)
callers_in i t c n zero h le lt = absurd (omega (arith, le, lt))
callers_in i t c n (suc m) h le lt = by_test (nat_eq h n) refl (λ above. callers_in i t c (suc n) m h above (omega (arith, lt)))
  where
    by_test : (b : Bool) → nat_eq h n ≡ b → (suc n ≤ h → IsIn (joint (ResultEnd h) (caller_end i t c h)) (callers_joined i t c (suc n) m))
        → (joint (ResultEnd h) (caller_end i t c h) ≡ joint (ResultEnd n) (caller_end i t c n)) ⊎ IsIn (joint (ResultEnd h) (caller_end i t c h)) (callers_joined i t c (suc n) m)
    by_test true e rest = let same : h ≡ n = grind (arith, e) in inl (ap (λ x. joint (ResultEnd x) (caller_end i t c x)) same)
    by_test false e rest = inr (rest (later h n le e))

role_clash : (q a x y : ℕ) (k : Contact) → k.role ≡ Serve → Some (serves x y) ≡ Some (turned_contact k) → ⊥
role_clash q a x y k role e =
    let same : serves x y ≡ turned_contact k = cc e in
    let roles : Serve ≡ Ask = ap (λ (z : Contact). z.role) same ∙ ap turned role in cc roles

pub neither : (a b : Bool) → a ≡ false → b ≡ false → (a || b) ≡ false
neither a b h k = grind (arith, h, k)

module _ (c : ℕ) (p : Plan) (two : c < 2) (right : IsRight p) (ground : IsGround p.outcome) where
  abbrev number : ℕ
  number = length p.parts

  abbrev whole : Plan
  whole = buffered p.outcome c p

  abbrev bare : Plan
  bare = with_part (Share p.outcome) p

  -- the Share has a number of its own
  pub own_number : (h : ℕ) (k : Contact) → contact_at p (PartEnd number h) ≡ Some k → ⊥
  own_number h k there = none-some k (sym (ap (λ x. slice_get (contacts_of_part x) h) (none_last p.parts)) ∙ there)

  pub known_part : (j h : ℕ) (k : Contact) → contact_at p (PartEnd j h) ≡ Some k → j ≡ number → ⊥
  known_part j h k there e = own_number h k (subst (λ (n : ℕ). contact_at p (PartEnd n h) ≡ Some k) e there)

  pub result_shake : (h : ℕ) (k : Contact) → contact_at p (ResultEnd h) ≡ Some k → (d : Contact) × (slice_get (contacts_of p.outcome) h ≡ Some d) × (k ≡ turned_contact d)
  result_shake h k there = turned_of (slice_get (contacts_of p.outcome) h) k there

  pub result_within : (h : ℕ) (k : Contact) → contact_at p (ResultEnd h) ≡ Some k → h < count p.outcome
  result_within h k there = let at = result_shake h k there in slice_get_within (contacts_of p.outcome) h at.0 at.1

  -- the result asks
  pub result_asks : (h x y : ℕ) → contact_at p (ResultEnd h) ≡ Some (serves x y) → ⊥
  result_asks h x y there =
      let at = result_shake h (serves x y) there in
      let lt = slice_get_within (contacts_of p.outcome) h at.0 at.1 in
      let own = ground_serves p.outcome h ground lt in
      let both : Some at.0 ≡ Some own.0 = sym at.1 ∙ own.1 in
      let same : at.0 ≡ own.0 = cc both in
      role_clash 0 0 x y at.0 (ap (λ (z : Contact). z.role) same ∙ own.2) (ap Some at.2)

  pub share_last : slice_get whole.parts number ≡ Some (Share p.outcome)
  share_last = at_last p.parts (Share p.outcome)

  pub share_contact : (h : ℕ) → contact_at whole (PartEnd number h) ≡ slice_get (part_contacts (Share p.outcome)) h
  share_contact h = ap (λ x. slice_get (contacts_of_part x) h) share_last

  pub contact_behind : (e : End) (k : Contact) → contact_at p e ≡ Some k → contact_at whole (end_behind number e) ≡ Some k
  contact_behind (PartEnd j h) k there =
      ap (λ x. slice_get (contacts_of_part x) h) (before_last p.parts (Share p.outcome) j (known_part j h k there)) ∙ there
  contact_behind (ImportEnd j h) k there = there
  contact_behind (ResultEnd h) k there =
      let at = result_shake h k there in share_contact h ∙ (source_at p.outcome h at.0 at.1 ∙ ap Some (sym at.2))

  same_behind : (e d : End) (k x : Contact) → contact_at p e ≡ Some k → contact_at p d ≡ Some x → same_end (end_behind number e) (end_behind number d) ≡ same_end e d
  same_behind (PartEnd j h) (PartEnd l g) k x there also = refl
  same_behind (PartEnd j h) (ImportEnd l g) k x there also = refl
  same_behind (PartEnd j h) (ResultEnd g) k x there also = apart_is_not_same (PartEnd j h) (PartEnd number g) (λ e. known_part j h k there (same_part j h number g e))
  same_behind (ImportEnd j h) (PartEnd l g) k x there also = refl
  same_behind (ImportEnd j h) (ImportEnd l g) k x there also = refl
  same_behind (ImportEnd j h) (ResultEnd g) k x there also = refl
  same_behind (ResultEnd h) (PartEnd l g) k x there also = apart_is_not_same (PartEnd number h) (PartEnd l g) (λ e. known_part l g x also (sym (same_part number h l g e)))
  same_behind (ResultEnd h) (ImportEnd l g) k x there also = refl
  same_behind (ResultEnd h) (ResultEnd g) k x there also = let e : nat_eq number number ≡ true = grind arith in rw e refl

  -- the joints of the caller
  pub caller_contact : (h : ℕ) (k : Contact) → slice_get (contacts_of p.outcome) h ≡ Some k → contact_at whole (caller_end number p.outcome c h) ≡ Some k
  caller_contact h k there = share_contact (count p.outcome + c * count p.outcome + h) ∙ by_caller c two
    where
      by_caller : (b : ℕ) → b < 2 → slice_get (part_contacts (Share p.outcome)) (count p.outcome + b * count p.outcome + h) ≡ Some k
      by_caller zero lt =
          let is : count p.outcome + 0 * count p.outcome + h ≡ count p.outcome + h = omega arith in
          ap (slice_get (part_contacts (Share p.outcome))) is ∙ first_caller_at p.outcome h k there
      by_caller (suc zero) lt =
          let is : count p.outcome + 1 * count p.outcome + h ≡ count p.outcome + count p.outcome + h = omega arith in
          ap (slice_get (part_contacts (Share p.outcome))) is ∙ second_caller_at p.outcome h k there
      by_caller (suc (suc b)) lt = absurd (omega (arith, lt))

  pub caller_fits : (h : ℕ) → h < count p.outcome → Fits whole (joint (ResultEnd h) (caller_end number p.outcome c h))
  caller_fits h lt =
      let (k, there, role) = ground_serves p.outcome h ground lt in
      (k.ask_bits, k.answer_bits, ap turned_if there ∙ ap Some (turned_asks k role), caller_contact h k there ∙ ap Some (as_serves k role))

  -- from handshake n on, none of these joints has the ends
  abbrev NoneFrom : ℕ → List Joint → Type 0
  NoneFrom n js = (j : Joint) → IsIn j js → (h : ℕ) → n ≤ h → (stands_in (ResultEnd h) j ≡ false) × (stands_in (caller_end number p.outcome c h) j ≡ false)

  one_more : (n : ℕ) (before : List Joint) → NoneFrom n before → NoneFrom (suc n) (joint (ResultEnd n) (caller_end number p.outcome c n) ∷ before)
  one_more n before none j (inr here) h le = none j here h (omega (arith, le))
  one_more n before none j (inl e) h le = subst (λ (y : Joint). (stands_in (ResultEnd h) y ≡ false) × (stands_in (caller_end number p.outcome c h) y ≡ false)) (sym e) (first, second)
    where
      first : stands_in (ResultEnd h) (joint (ResultEnd n) (caller_end number p.outcome c n)) ≡ false
      first = neither (nat_eq h n) false (false_from_ne_true (nat_eq h n) (λ k. above h n le k)) refl

      apart : PartEnd number (count p.outcome + c * count p.outcome + h) ≡ PartEnd number (count p.outcome + c * count p.outcome + n) → ⊥
      apart k =
          let same = same_shake number (count p.outcome + c * count p.outcome + h) number (count p.outcome + c * count p.outcome + n) k in
          omega (arith, same, le)

      second : stands_in (caller_end number p.outcome c h) (joint (ResultEnd n) (caller_end number p.outcome c n)) ≡ false
      second = apart_is_not_same (caller_end number p.outcome c h) (caller_end number p.outcome c n) apart

  right_callers : (n m : ℕ) (before : List Joint) → n + m ≤ count p.outcome → NoneFrom n before → AreRight whole before (callers_joined number p.outcome c n m)
  right_callers n zero before le none = tt
  right_callers n (suc m) before le none = (
    (
      caller_fits n (omega (arith, le)),
      free_of (ResultEnd n) before (λ j h. (none j h n (omega arith)).0),
      free_of (caller_end number p.outcome c n) before (λ j h. (none j h n (omega arith)).1),
    ),
    right_callers (suc n) m (joint (ResultEnd n) (caller_end number p.outcome c n) ∷ before) (omega (arith, le)) (one_more n before none),
  )

  -- no joint behind the Share has an end of the caller
  result_not : (h : ℕ) (e : End) → same_end (ResultEnd h) (end_behind number e) ≡ false
  result_not h (PartEnd j g) = refl
  result_not h (ImportEnd j g) = refl
  result_not h (ResultEnd g) = refl

  pub caller_not : (h : ℕ) (e : End) (k : Contact) → contact_at p e ≡ Some k → caller_end number p.outcome c h ≡ end_behind number e → ⊥
  caller_not h (PartEnd j g) k there e = known_part j g k there (sym (same_part number (count p.outcome + c * count p.outcome + h) j g e))
  caller_not h (ImportEnd j g) k there e = cc e
  caller_not h (ResultEnd g) k there e =
      let lt = result_within g k there in
      let same = same_shake number (count p.outcome + c * count p.outcome + h) number g e in
      omega (arith, same, lt)

  none_behind : NoneFrom 0 (Onto (map (joint_behind number) p.joints) [])
  none_behind j here h le = by_side (in_onto (map (joint_behind number) p.joints) [] j here)
    where
      by_side : IsIn j (map (joint_behind number) p.joints) ⊎ ⊥ → (stands_in (ResultEnd h) j ≡ false) × (stands_in (caller_end number p.outcome c h) j ≡ false)
      by_side (inr none) = absurd none
      by_side (inl in_all) =
          let (k, is_in, same) = in_map (joint_behind number) p.joints j in_all in
          let fit = fits p [] p.joints k right is_in in
          subst (λ (y : Joint). (stands_in (ResultEnd h) y ≡ false) × (stands_in (caller_end number p.outcome c h) y ≡ false)) (sym same) (
            neither (same_end (ResultEnd h) (end_behind number k.asking)) (same_end (ResultEnd h) (end_behind number k.serving)) (result_not h k.asking) (result_not h k.serving),
            neither (same_end (caller_end number p.outcome c h) (end_behind number k.asking)) (same_end (caller_end number p.outcome c h) (end_behind number k.serving))
                (apart_is_not_same (caller_end number p.outcome c h) (end_behind number k.asking) (caller_not h k.asking (asks fit.0 fit.1) fit.2))
                (apart_is_not_same (caller_end number p.outcome c h) (end_behind number k.serving) (caller_not h k.serving (serves fit.0 fit.1) fit.3)),
          )

  pub whole_right : IsRight whole
  whole_right =
      right_together whole [] (map (joint_behind number) p.joints) (callers_joined number p.outcome c 0 (count p.outcome))
      (right_moved p whole (end_behind number) right same_behind contact_behind)
      (right_callers 0 (count p.outcome) (Onto (map (joint_behind number) p.joints) []) (omega arith) none_behind)

  -- the plan with the loose part
  bare_contact : (e : End) (k : Contact) → contact_at p e ≡ Some k → contact_at bare e ≡ Some k
  bare_contact (PartEnd j h) k there =
      ap (λ x. slice_get (contacts_of_part x) h) (before_last p.parts (Share p.outcome) j (known_part j h k there)) ∙ there
  bare_contact (ImportEnd j h) k there = there
  bare_contact (ResultEnd h) k there = there

  bare_rights : (before js : List Joint) → AreRight p before js → AreRight bare before js
  bare_rights before [] are = tt
  bare_rights before (x ∷ xs) are =
      let fit = are.0.0 in
      (((fit.0, fit.1, bare_contact x.asking (asks fit.0 fit.1) fit.2, bare_contact x.serving (serves fit.0 fit.1) fit.3), are.0.1, are.0.2), bare_rights (x ∷ before) xs are.1)

  pub bare_right : IsRight bare
  bare_right = bare_rights [] p.joints right

  -- a joint of the whole is one of the plan's, or the caller's
  abbrev pub Behind : End → End → Type 0
  Behind a b = (d : End) × (e : End) × IsIn (joint d e) p.joints × (a ≡ end_behind number d) × (b ≡ end_behind number e)

  abbrev pub OfCallers : End → End → Type 0
  OfCallers a b = (h : ℕ) × (h < count p.outcome) × (a ≡ ResultEnd h) × (b ≡ caller_end number p.outcome c h)

  pub of_whole : (a b : End) → Contains whole.joints (joint a b) → Behind a b ⊎ OfCallers a b
  of_whole a b has = by_side (in_either (map (joint_behind number) p.joints) (callers_joined number p.outcome c 0 (count p.outcome)) (joint a b) (contained whole.joints (joint a b) has))
    where
      by_side : IsIn (joint a b) (map (joint_behind number) p.joints) ⊎ IsIn (joint a b) (callers_joined number p.outcome c 0 (count p.outcome)) → Behind a b ⊎ OfCallers a b
      by_side (inl here) =
          let (k, is_in, same) = in_map (joint_behind number) p.joints (joint a b) here in
          inl (k.asking, k.serving, is_in, ap (λ (j : Joint). j.asking) same, ap (λ (j : Joint). j.serving) same)
      by_side (inr here) =
          let (h, lt, le, same) = in_callers number p.outcome c 0 (count p.outcome) (joint a b) here in
          inr (h, omega (arith, lt), ap (λ (j : Joint). j.asking) same, ap (λ (j : Joint). j.serving) same)

  pub behind_in : (d e : End) → IsIn (joint d e) p.joints → Contains whole.joints (joint (end_behind number d) (end_behind number e))
  behind_in d e here =
      listed whole.joints (joint (end_behind number d) (end_behind number e))
      (in_first (map (joint_behind number) p.joints) (callers_joined number p.outcome c 0 (count p.outcome)) (joint (end_behind number d) (end_behind number e)) (map_in (joint_behind number) p.joints (joint d e) here))

  pub caller_in : (h : ℕ) → h < count p.outcome → Contains whole.joints (joint (ResultEnd h) (caller_end number p.outcome c h))
  caller_in h lt =
      listed whole.joints (joint (ResultEnd h) (caller_end number p.outcome c h))
      (in_second (map (joint_behind number) p.joints) (callers_joined number p.outcome c 0 (count p.outcome)) (joint (ResultEnd h) (caller_end number p.outcome c h))
      (callers_in number p.outcome c 0 (count p.outcome) h (omega arith) (omega (arith, lt))))

  -- what serves is no end of the result
  pub server_outside : (d e : End) → IsIn (joint d e) p.joints → (end_behind number e ≡ e) × (IsOfPart number e → ⊥)
  server_outside d (PartEnd j h) here = let fit = fits p [] p.joints (joint d (PartEnd j h)) right here in (refl, known_part j h (serves fit.0 fit.1) fit.3)
  server_outside d (ImportEnd j h) here = (refl, λ of. of)
  server_outside d (ResultEnd h) here = let fit = fits p [] p.joints (joint d (ResultEnd h)) right here in absurd (result_asks h fit.0 fit.1 fit.3)

  pub apart_whole : (a b : End) → Contains whole.joints (joint a b) → IsOfPart number a → IsOfPart number b → ⊥
  apart_whole a b has one other = by_side (of_whole a b has)
    where
      by_side : Behind a b ⊎ OfCallers a b → ⊥
      by_side (inl (d, e, here, at_a, at_b)) =
          let out = server_outside d e here in out.1 (subst (λ (x : End). IsOfPart number x) (at_b ∙ out.0) other)
      by_side (inr (h, lt, at_a, at_b)) = subst (λ (x : End). IsOfPart number x) at_a one

  abbrev SeenSo : End → End → Type 0
  SeenSo a b = (Contains whole.joints (joint a b) × (IsOfPart number a → ⊥) × (IsOfPart number b → ⊥)) ⊎ LeadsThrough number p.outcome c whole a b

  to_seen : (a b : End) → Contains bare.joints (joint a b) → SeenSo a b
  to_seen a b has = by_asker a (contained p.joints (joint a b) has)
    where
      by_asker : (d : End) → IsIn (joint d b) p.joints → SeenSo d b
      by_asker (PartEnd j h) here =
          let fit = fits p [] p.joints (joint (PartEnd j h) b) right here in
          let out = server_outside (PartEnd j h) b here in
          inl (subst (λ (x : End). Contains whole.joints (joint (PartEnd j h) x)) out.0 (behind_in (PartEnd j h) b here), known_part j h (asks fit.0 fit.1) fit.2, out.1)
      by_asker (ImportEnd j h) here =
          let out = server_outside (ImportEnd j h) b here in
          inl (subst (λ (x : End). Contains whole.joints (joint (ImportEnd j h) x)) out.0 (behind_in (ImportEnd j h) b here), (λ of. of), out.1)
      by_asker (ResultEnd h) here =
          let fit = fits p [] p.joints (joint (ResultEnd h) b) right here in
          let lt = result_within h (asks fit.0 fit.1) fit.2 in
          let (k, there, role) = ground_serves p.outcome h ground lt in
          let out = server_outside (ResultEnd h) b here in
          inr (
            h,
            k,
            there,
            subst (λ (x : Role). Contains whole.joints (joint (ResultEnd h) (way_into number p.outcome c h x))) (sym role) (caller_in h lt),
            subst (λ (x : Role). Contains whole.joints (joint (way_out_of number p.outcome c h x) b)) (sym role)
                (subst (λ (x : End). Contains whole.joints (joint (source_end number h) x)) out.0 (behind_in (ResultEnd h) b here)),
          )

  -- an end behind the Share that isn't the Share's is one of the plan
  pub outside_behind : (a d : End) → a ≡ end_behind number d → (IsOfPart number a → ⊥) → a ≡ d
  outside_behind a (PartEnd j h) e apart = e
  outside_behind a (ImportEnd j h) e apart = e
  outside_behind a (ResultEnd h) e apart = absurd (apart (subst (λ (x : End). IsOfPart number x) (sym e) refl))

  -- the asker of the Share's handshake is the result
  pub source_behind : (j : ℕ) (d : End) (k : Contact) → contact_at p d ≡ Some k → source_end number j ≡ end_behind number d → d ≡ ResultEnd j
  source_behind j (PartEnd l g) k there e = absurd (known_part l g k there (sym (same_part number j l g e)))
  source_behind j (ImportEnd l g) k there e = absurd (cc e)
  source_behind j (ResultEnd g) k there e = ap ResultEnd (sym (same_shake number j number g e))

  from_through : (j : ℕ) (a b : End) → j < count p.outcome → Contains whole.joints (joint a (caller_end number p.outcome c j)) → Contains whole.joints (joint (source_end number j) b)
      → IsIn (joint a b) p.joints
  from_through j a b lt into out = by_sides (of_whole a (caller_end number p.outcome c j) into) (of_whole (source_end number j) b out)
    where
      with_server : a ≡ ResultEnd j → Behind (source_end number j) b → IsIn (joint a b) p.joints
      with_server at_a (d, e, here, at_d, at_e) =
          let fit = fits p [] p.joints (joint d e) right here in
          let is_result = source_behind j d (asks fit.0 fit.1) fit.2 at_d in
          let same : b ≡ e = at_e ∙ (server_outside d e here).0 in
          subst (λ (x : End). IsIn (joint x b) p.joints) (is_result ∙ sym at_a) (subst (λ (x : End). IsIn (joint d x) p.joints) (sym same) here)

      by_sides : Behind a (caller_end number p.outcome c j) ⊎ OfCallers a (caller_end number p.outcome c j) → Behind (source_end number j) b ⊎ OfCallers (source_end number j) b → IsIn (joint a b) p.joints
      by_sides (inl (d, e, here, at_d, at_e)) other =
          let fit = fits p [] p.joints (joint d e) right here in absurd (caller_not j e (serves fit.0 fit.1) fit.3 at_e)
      by_sides (inr (h, le, at_a, at_b)) (inr (g, ge, at_g, at_c)) = absurd (cc at_g)
      by_sides (inr (h, le, at_a, at_b)) (inl behind) =
          let same = same_shake number (count p.outcome + c * count p.outcome + j) number (count p.outcome + c * count p.outcome + h) at_b in
          let e : h ≡ j = omega (arith, same) in
          with_server (at_a ∙ ap ResultEnd e) behind

  from_seen : (a b : End) → SeenSo a b → Contains bare.joints (joint a b)
  from_seen a b (inl (has, one, other)) = by_side (of_whole a b has)
    where
      by_side : Behind a b ⊎ OfCallers a b → Contains bare.joints (joint a b)
      by_side (inl (d, e, here, at_a, at_b)) =
          listed p.joints (joint a b)
          (subst (λ (x : End). IsIn (joint x b) p.joints) (sym (outside_behind a d at_a one)) (subst (λ (x : End). IsIn (joint d x) p.joints) (sym (outside_behind b e at_b other)) here))
      by_side (inr (h, lt, at_a, at_b)) = absurd (other (subst (λ (x : End). IsOfPart number x) (sym at_b) refl))
  from_seen a b (inr (j, k, there, into, out)) =
      let lt = slice_get_within (contacts_of p.outcome) j k there in
      let own = ground_serves p.outcome j ground lt in
      let both : Some own.0 ≡ Some k = sym own.1 ∙ there in
      let same : own.0 ≡ k = cc both in
      let role : k.role ≡ Serve = ap (λ (x : Contact). x.role) (sym same) ∙ own.2 in
      listed p.joints (joint a b)
      (from_through j a b lt (subst (λ (x : Role). Contains whole.joints (joint a (way_into number p.outcome c j x))) role into)
      (subst (λ (x : Role). Contains whole.joints (joint (way_out_of number p.outcome c j x) b)) role out))

  seen_through : IsSeenThrough number p.outcome c whole bare
  seen_through =
      record {
        share = share_last;
        caller = two;
        right = whole_right;
        also_right = bare_right;
        parts = refl;
        imports = refl;
        outcome = refl;
        apart = apart_whole;
        joints = λ a b. (to_seen a b, from_seen a b);
      }

  -- the other caller
  other_alone : (j : ℕ) → j < count p.outcome → StandsIn whole (caller_end number p.outcome (1 - c) j) → ⊥
  other_alone j lt (k, has, at_end) = by_side (of_whole k.asking k.serving has)
    where
      here : IsTrue (stands_in (caller_end number p.outcome (1 - c) j) k)
      here = at_end

      not_behind : (e : End) (x : Contact) → contact_at p e ≡ Some x → (caller_end number p.outcome (1 - c) j) ≡ end_behind number e → ⊥
      not_behind (PartEnd l g) x there e = known_part l g x there (sym (same_part number (count p.outcome + (1 - c) * count p.outcome + j) l g e))
      not_behind (ImportEnd l g) x there e = cc e
      not_behind (ResultEnd g) x there e =
          let within = result_within g x there in
          let same = same_shake number (count p.outcome + (1 - c) * count p.outcome + j) number g e in
          omega (arith, same, within)

      not_caller : (h : ℕ) → h < count p.outcome → (caller_end number p.outcome (1 - c) j) ≡ caller_end number p.outcome c h → ⊥
      not_caller h le e = apart_callers (count p.outcome) c j h two lt le (same_shake number (count p.outcome + (1 - c) * count p.outcome + j) number (count p.outcome + c * count p.outcome + h) e)

      either : (a b : End) → (stands_in (caller_end number p.outcome (1 - c) j) (joint a b)) ≡ true → ((caller_end number p.outcome (1 - c) j) ≡ a) ⊎ ((caller_end number p.outcome (1 - c) j) ≡ b)
      either a b t = either_end (caller_end number p.outcome (1 - c) j) a b t

      by_side : Behind k.asking k.serving ⊎ OfCallers k.asking k.serving → ⊥
      by_side (inl (d, e, in_p, at_a, at_b)) =
          let fit = fits p [] p.joints (joint d e) right in_p in
          elim (either k.asking k.serving here) [
            | inl one ↦ not_behind d (asks fit.0 fit.1) fit.2 (one ∙ at_a)
            | inr one ↦ not_behind e (serves fit.0 fit.1) fit.3 (one ∙ at_b)
          ]
      by_side (inr (h, le, at_a, at_b)) =
          elim (either k.asking k.serving here) [
            | inl one ↦ let no : (caller_end number p.outcome (1 - c) j) ≡ ResultEnd h = one ∙ at_a in cc no
            | inr one ↦ not_caller h le (one ∙ at_b)
          ]

  source_joined : ResultIsJoined p → (j : ℕ) → j < count p.outcome → StandsIn whole (source_end number j)
  source_joined result j lt = of_joint (result j lt)
    where
      of_joint : StandsIn p (ResultEnd j) → StandsIn whole (source_end number j)
      of_joint (k, has, at_end) = by_end (either_end (ResultEnd j) k.asking k.serving at_end)
        where
          in_p : IsIn k p.joints
          in_p = contained p.joints k has

          by_end : (ResultEnd j ≡ k.asking) ⊎ (ResultEnd j ≡ k.serving) → StandsIn whole (source_end number j)
          by_end (inl e) = (
            joint_behind number k,
            behind_in k.asking k.serving in_p,
            stands_asking (source_end number j) (end_behind number k.asking) (end_behind number k.serving) (ap (end_behind number) e),
          )
          by_end (inr e) =
              let fit = fits p [] p.joints k right in_p in absurd (result_asks j fit.0 fit.1 (ap (contact_at p) e ∙ fit.3))

  pub is_buffer : ResultIsJoined p → IsBuffer number p.outcome c whole bare
  is_buffer result = record { seen = seen_through; ground = ground; alone = other_alone; goes_on = λ j lt asked. source_joined result j lt }

pub buffered_is_buffer : BufferedIsBuffer
buffered_is_buffer c p two right ground result = is_buffer c p two right ground result

-- so it realises what the plan realises
loosely : (t : Type') (c : ℕ) (p : Plan) → c < 2 → p.outcome ≡ t → IsGround t → ResultIsJoined p → IsRight p
    → IsRight (buffered t c p) × (IsRegular p → IsRegular (buffered t c p)) × ((m : Term) → RealisesInTurn p m → RealisesInTurn (buffered t c p) m)
loosely t c p two outcome ground result right =
    subst (λ (u : Type'). IsRight (buffered u c p) × (IsRegular p → IsRegular (buffered u c p)) × ((m : Term) → RealisesInTurn p m → RealisesInTurn (buffered u c p) m)) outcome (
      whole_right c p two right own,
      (λ regular. buffered_is_regular (length p.parts) p.outcome c (buffered p.outcome c p) (with_part (Share p.outcome) p) buffer ((loose_part_is_free (Share p.outcome) p right).0 regular)),
      (λ m realises. buffered_realises (length p.parts) p.outcome c (buffered p.outcome c p) (with_part (Share p.outcome) p) m buffer ((loose_part_is_free (Share p.outcome) p right).1 m realises)),
    )
  where
    own : IsGround p.outcome
    own = subst IsGround (sym outcome) ground

    buffer : IsBuffer (length p.parts) p.outcome c (buffered p.outcome c p) (with_part (Share p.outcome) p)
    buffer = is_buffer c p two right own result

pub buffered_literals : (t : Type') (c : ℕ) (p : Plan) → All LiteralFits p.parts → All LiteralFits (buffered t c p).parts
buffered_literals t c p literals = All-push LiteralFits p.parts (Share t) literals tt

pub done_suits : (t : Type') (c : ℕ) (p : Plan) (m : Term) → c < 2 → IsGround t → ResultIsJoined p → Suits t p m → Suits t (buffered t c p) m
done_suits t c p m two ground result suits =
    let found = loosely t c p two suits.outcome ground result suits.right in
    record {
      right = found.0;
      literals = buffered_literals t c p suits.literals;
      outcome = suits.outcome;
      all_ports = suits.all_ports;
      names = suits.names;
      typed = suits.typed;
      regular = found.1 suits.regular;
    }

-- a command or an expression
pub done_is_buffered : (t : Type') (c : ℕ) (p : Plan) (m : Term) → c < 2 → IsGround t → ResultIsJoined p → Suits t p m → RealisesInTurn p m → Suits t (buffered t c p) m × RealisesInTurn (buffered t c p) m
done_is_buffered t c p m two ground result suits done =
    (done_suits t c p m two ground result suits, (loosely t c p two suits.outcome ground result suits.right).2 m done)
