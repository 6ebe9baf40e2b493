-- What serves somebody else is a handshake of a Share's other caller, and stands in no joint.
use Rattle.std.specs.Prelude.{◌≢◌, ◌+◌, ◌-◌, ◌*◌, ◌<◌, ◌≤◌, ◌⊎◌, ◌||◌, length, nat_eq, nat_lt, slice_get, Contains}
use Rattle.std.proofs.Common.{◌≡◌, ℕ, zero, suc, Bool, true, false, not, List, [], ◌∷◌, ◌++◌, Option, Some, inl, inr, refl, sym, ◌∙◌, ap, subst, arith, if◌then◌else◌, true≢false, length-append}
use Rattle.std.proofs.lemmas.List.{length-map}
use Rattle.std.proofs.lemmas.Bool.Decides.{nat_tests}
use Rattle.std.proofs.lemmas.Option.{slice_get_within}
use Rattle.std.proofs.lemmas.List.Elements.{Contains-append_left, Contains-append_right}
use Rattle.std.proofs.lemmas.Bool.{eq-eqb, ne_eqb, not-true, or_right, or_left}
use Rattle.gos_types.specs.Types.{Type'}
use Rattle.gos_types.specs.declared.shakes.Role.{Role}
use Rattle.gos_types.specs.declared.shakes.Role.TheVariants.{Serve, Ask}
use Rattle.gos_model.proofs.NumberLemmas.{number_cases}
use Rattle.gos_check.specs.declared.linear.Split.{Split}
use Rattle.gos_check.specs.Linearity.{times, split_in, sides}
use Rattle.gos_check.proofs.TimesLemmas.{times_none, times_other}
use Rattle.gos_plan.specs.Kinds.{Contact, Part, Share, contacts_of, other_side, turned_contact, part_contacts}
use Rattle.gos_plan.specs.Plans.{End, PartEnd, ImportEnd, ResultEnd, Joint, Plan, contact_at, contacts_of_part, stands_in}
use Rattle.gos_plan.proofs.JointLemmas.{which_end, same_part}
use Rattle.gos_realises.specs.realises.Regular.{count}
use Rattle.gos_realises.specs.realises.Modules.{Supply}
use Rattle.gos_joining.specs.webs.Webs.{joint}
use Rattle.gos_joining.specs.webs.Cutting.{StandsIn}
use Rattle.gos_joining.proofs.webs.WebLemmas.{asks_there, serves_there}
use Rattle.gos_compile.specs.Wiring.{Types}
use Rattle.gos_sharing.specs.buffers.Buffering.{end_behind}
use Rattle.gos_sharing.proofs.buffers.BranchLemmas.{one_of_two}
use Rattle.gos_sharing.proofs.buffers.BufferedLemmas.{at_last, before_last}
use Rattle.gos_sharing.specs.behind.Behind.{outer_joint, passing, IsBehind}
use Rattle.gos_sharing.proofs.behind.SourceLemmas.{before_it}
use Rattle.gos_terms.specs.wired.Wired.{Own, Placing}
use Rattle.gos_terms.specs.wired.NodeFitting.{AreOfTypes}
use Rattle.gos_terms.specs.stages.Inside.{numbers_inside, AreSplit, SidesAgree}
use Rattle.gos_terms.specs.stages.Lodging.{Lodging, live, first_lodging, side_number, serves_side, one_lodging, lodging}
use Rattle.gos_terms.specs.stages.Folding.{serving_if, servings}
use Rattle.gos_terms.specs.stages.Served.{SparesAreOthers}
use Rattle.gos_terms.proofs.stages.InsideLemmas.{lies_there, of_cons, one_stays, one_inside}
use Rattle.gos_terms.proofs.stages.HomeLemmas.{no_side}
use Rattle.gos_terms.proofs.stages.StepLemmas.{serves_source, serves_caller, differ, side_is, side_env}
use Rattle.gos_terms.proofs.stages.LodgingLemmas.{IsTidy, tidy_on, tidy_first, of_gone, seen, seen_first, seen_second}

-- a handshake that is neither the source's nor caller c's
pub has_size : (t : Type') → length (part_contacts (Share t)) ≡ count t + count t + count t
has_size t =
    length-append (other_side (contacts_of t)) (contacts_of t ++ contacts_of t)
    ∙ (ap2 (length-map (contacts_of t) turned_contact) (length-append (contacts_of t) (contacts_of t)))
  where
    ap2 : length (other_side (contacts_of t)) ≡ count t → length (contacts_of t ++ contacts_of t) ≡ count t + count t
        → length (other_side (contacts_of t)) + length (contacts_of t ++ contacts_of t) ≡ count t + count t + count t
    ap2 a b = omega (arith, a, b)

caller_of : (t : Type') (c h : ℕ) (d : Contact) → c < 2 → slice_get (part_contacts (Share t)) h ≡ Some d → serves_side (count t) c h ≡ false
    → (j : ℕ) × (j < count t) × (h ≡ count t + (1 - c) * count t + j)
caller_of t c h d two at unserved = by_size (nat_lt h (count t)) (nat_lt h (count t + count t)) refl refl
  where
    within : h < count t + count t + count t
    within = let size = has_size t in let lt = slice_get_within (part_contacts (Share t)) h d at in omega (arith, lt, size)

    of_caller : (b : ℕ) × (j : ℕ) × (b < 2) × (j < count t) × (h ≡ count t + b * count t + j) → (j : ℕ) × (j < count t) × (h ≡ count t + (1 - c) * count t + j)
    of_caller (b, j, lt, low, same) =
        elim (one_of_two c b two lt) [
          | inl e ↦
              (let here : h ≡ count t + c * count t + j = same ∙ ap (λ (x : ℕ). count t + x * count t + j) e in
              absurd (true≢false (sym (ap (serves_side (count t) c) here ∙ serves_caller (count t) c j two low) ∙ unserved)))
          | inr e ↦ (j, low, same ∙ ap (λ (x : ℕ). count t + x * count t + j) e)
        ]

    by_size : (a b : Bool) → nat_lt h (count t) ≡ a → nat_lt h (count t + count t) ≡ b → (j : ℕ) × (j < count t) × (h ≡ count t + (1 - c) * count t + j)
    by_size true b one other =
        let lt : h < count t = grind (arith, nat_tests, one) in absurd (true≢false (sym (serves_source (count t) c h lt) ∙ unserved))
    by_size false true one other =
        let ge : count t ≤ h = grind (arith, nat_tests, one) in
        let lt : h < count t + count t = grind (arith, nat_tests, other) in
        of_caller (0, h - count t, omega arith, omega (arith, ge, lt), omega (arith, ge))
    by_size false false one other =
        let ge : count t + count t ≤ h = grind (arith, nat_tests, other) in
        of_caller (1, h - (count t + count t), omega arith, omega (arith, ge, within), omega (arith, ge))

-- a part of the plan stands in a joint behind a Share where it does before it
joint_at : (e : End) (js : List Joint) (j : Joint) → Contains js j → (e ≡ j.asking) ⊎ (e ≡ j.serving) → (k : Joint) × Contains js k × (stands_in e k ≡ true)
joint_at e js j has (inl is) = (j, has, subst (λ (x : End). stands_in x j ≡ true) (sym is) (asks_there j.asking j.serving))
joint_at e js j has (inr is) = (j, has, subst (λ (x : End). stands_in x j ≡ true) (sym is) (serves_there j.asking j.serving))

stood_before : (t : Type') (c : ℕ) (p : Plan) (k h : ℕ) → IsBehind (length p.parts) t c (passing t c p) p → k ≢ length p.parts → StandsIn (passing t c p) (PartEnd k h)
    → StandsIn p (PartEnd k h)
stood_before t c p k h is apart (j, has, stands) = of_joint ((is.joints j.asking j.serving).0 has) (which_end (PartEnd k h) j stands)
  where
    back : (e : End) → PartEnd k h ≡ end_behind (length p.parts) e → PartEnd k h ≡ e
    back (PartEnd m g) e = e
    back (ImportEnd m g) e = e
    back (ResultEnd g) e = absurd (apart (same_part k h (length p.parts) g e))

    of_outer : (n : ℕ) (r : Role) → joint j.asking j.serving ≡ outer_joint (length p.parts) t c n r → (PartEnd k h ≡ j.asking) ⊎ (PartEnd k h ≡ j.serving) → ⊥
    of_outer n Serve same (inl is) = let clash : PartEnd k h ≡ ResultEnd n = is ∙ ap (λ (x : Joint). x.asking) same in cc clash
    of_outer n Serve same (inr is) = apart (same_part k h (length p.parts) (count t + c * count t + n) (is ∙ ap (λ (x : Joint). x.serving) same))
    of_outer n Ask same (inl is) = apart (same_part k h (length p.parts) (count t + c * count t + n) (is ∙ ap (λ (x : Joint). x.asking) same))
    of_outer n Ask same (inr is) = let clash : PartEnd k h ≡ ResultEnd n = is ∙ ap (λ (x : Joint). x.serving) same in cc clash

    of_joint : ((d : End) × (e : End) × Contains p.joints (joint d e) × (j.asking ≡ end_behind (length p.parts) d) × (j.serving ≡ end_behind (length p.parts) e))
        ⊎ ((n : ℕ) × (x : Contact) × (slice_get (contacts_of t) n ≡ Some x) × (joint j.asking j.serving ≡ outer_joint (length p.parts) t c n x.role))
        → (PartEnd k h ≡ j.asking) ⊎ (PartEnd k h ≡ j.serving) → StandsIn p (PartEnd k h)
    of_joint (inl (d, e, here, at_d, at_e)) (inl is) = joint_at (PartEnd k h) p.joints (joint d e) here (inl (back d (is ∙ at_d)))
    of_joint (inl (d, e, here, at_d, at_e)) (inr is) = joint_at (PartEnd k h) p.joints (joint d e) here (inr (back e (is ∙ at_e)))
    of_joint (inr (n, x, at, same)) side = absurd (of_outer n x.role same side)

-- what is known of a spare handshake
record Spare (Known : ℕ → Type' → ℕ → Type 0) (l : Lodging) (n k h : ℕ) : Type 0 where
  number : ℕ
  ty : Type'
  side : ℕ
  shake : ℕ
  from : l.part n k ≡ Own number
  known : Known number ty side
  small : shake < count ty
  at : h ≡ count ty + (1 - side) * count ty + shake
  alone : StandsIn (l.env n).plan (PartEnd k h) → ⊥

abbrev AllSpare : (ℕ → Type' → ℕ → Type 0) → Lodging → ℕ → Type 0
AllSpare Known l n = (k h : ℕ) (d : Contact) → contact_at (l.env n).plan (PartEnd k h) ≡ Some d → l.spare n k h ≡ true → Spare Known l n k h

module _ (Known : ℕ → Type' → ℕ → Type 0) (types : Types) (q x : ℕ) (s : Split) (ss : List Split) (once : (k : ℕ) → times k (sides (s ∷ ss)) ≤ 1) (l : Lodging) (a : Option ℕ)
    (ns : List ℕ) (of : Contains ns s.of) (are : AreOfTypes types l.env ns) where
  abbrev plan : Plan
  plan = (l.env s.of).plan

  abbrev place : ℕ
  place = length (l.env s.of).plan.parts

  abbrev size : ℕ
  size = count (types s.of)

  abbrev next : Lodging
  next = one_lodging types q x s a l

  module _ (c : ℕ) (two : c < 2) (known : Known x (types s.of) c) (was : AllSpare Known l s.of) where
    abbrev n : ℕ
    n = side_number s c

    which : (b : ℕ) → b < 2 → (if nat_eq (side_number s b) s.left then 0 else 1) ≡ b
    which zero lt = ap (λ (t : Bool). if t then 0 else 1) (eq-eqb s.left s.left refl)
    which (suc zero) lt = ap (λ (t : Bool). if t then 0 else 1) (ne_eqb s.right s.left (λ e. differ types s ss once (sym e)))
    which (suc (suc b)) lt = absurd (omega (arith, lt))

    at_part : (k : ℕ) (b : Bool) → nat_eq k place ≡ b → next.part n k ≡ (if b then Own x else l.part s.of k)
    at_part k b e =
        ap (λ (t : Bool). if t then if nat_eq k place then Own x else l.part s.of k else l.part n k) (side_is types s ss once c)
        ∙ ap (λ (t : Bool). if t then Own x else l.part s.of k) e

    at_spare : (k h : ℕ) (b : Bool) → nat_eq k place ≡ b → next.spare n k h ≡ (if b then not (serves_side size c h) else l.spare s.of k h)
    at_spare k h b e =
        ap (λ (t : Bool). if t then if nat_eq k place then not (serves_side size (if nat_eq n s.left then 0 else 1) h) else l.spare s.of k h else l.spare n k h)
        (side_is types s ss once c)
        ∙ (ap (λ (b : ℕ). if nat_eq k place then not (serves_side size b h) else l.spare s.of k h) (which c two)
        ∙ ap (λ (t : Bool). if t then not (serves_side size c h) else l.spare s.of k h) e)

    side_spare : AllSpare Known next (side_number s c)
    side_spare k h d there spare = number_cases k place own old
      where
        contact : slice_get (contacts_of_part (slice_get ((l.env s.of).plan.parts ++ (Share (types s.of) ∷ [])) k)) h ≡ Some d
        contact = subst (λ (e : Supply). contact_at e.plan (PartEnd k h) ≡ Some d) (side_env types s ss once l.env c two) there

        stands : StandsIn (next.env n).plan (PartEnd k h) → StandsIn (passing (types s.of) c (l.env s.of).plan) (PartEnd k h)
        stands it = subst (λ (e : Supply). StandsIn e.plan (PartEnd k h)) (side_env types s ss once l.env c two) it

        own : k ≡ place → nat_eq k place ≡ true → Spare Known next n k h
        own e t =
            let at : slice_get (part_contacts (Share (types s.of))) h ≡ Some d =
            sym (ap (λ (y : Option Part). slice_get (contacts_of_part y) h)
            (ap (slice_get ((l.env s.of).plan.parts ++ (Share (types s.of) ∷ []))) e ∙ at_last (l.env s.of).plan.parts (Share (types s.of)))) ∙ contact
            in
            let unserved : serves_side size c h ≡ false = not-true (serves_side size c h) (sym (at_spare k h true t) ∙ spare) in
            let (j, low, same) = caller_of (types s.of) c h d two at unserved in
            record {
              number = x;
              ty = types s.of;
              side = c;
              shake = j;
              from = at_part k true t;
              known = known;
              small = low;
              at = same;
              alone =
                  λ it.
                  (before_it place (types s.of) c (passing (types s.of) c (l.env s.of).plan) (l.env s.of).plan (lies_there (types s.of) c (l.env s.of).plan two (are s.of of))).alone j low
                  (subst (λ (m : ℕ). StandsIn (passing (types s.of) c (l.env s.of).plan) (PartEnd place m)) same
                  (subst (λ (m : ℕ). StandsIn (passing (types s.of) c (l.env s.of).plan) (PartEnd m h)) e (stands it)));
            }

        old : k ≢ place → nat_eq k place ≡ false → Spare Known next n k h
        old e t =
            let at : contact_at (l.env s.of).plan (PartEnd k h) ≡ Some d =
            sym (ap (λ (y : Option Part). slice_get (contacts_of_part y) h) (before_last (l.env s.of).plan.parts (Share (types s.of)) k e)) ∙ contact
            in
            let it = was k h d at (sym (at_spare k h false t) ∙ spare) in
            record {
              number = it.number;
              ty = it.ty;
              side = it.side;
              shake = it.shake;
              from = at_part k false t ∙ it.from;
              known = it.known;
              small = it.small;
              at = it.at;
              alone = λ there. it.alone (stood_before (types s.of) c (l.env s.of).plan k h (lies_there (types s.of) c (l.env s.of).plan two (are s.of of)) e (stands there));
            }

  other_spare : (n : ℕ) → n ≢ s.left → n ≢ s.right → AllSpare Known l n → AllSpare Known next n
  other_spare n left right was k h d there spare =
      let same = one_stays types s l.env n left right in
      let at_spare : next.spare n k h ≡ l.spare n k h =
      ap (λ (t : Bool). if t then if nat_eq k place then not (serves_side size (if nat_eq n s.left then 0 else 1) h) else l.spare s.of k h else l.spare n k h)
      (no_side s n left right)
      in
      let at_part : next.part n k ≡ l.part n k = ap (λ (t : Bool). if t then if nat_eq k place then Own x else l.part s.of k else l.part n k) (no_side s n left right) in
      let it = was k h d (subst (λ (e : Supply). contact_at e.plan (PartEnd k h) ≡ Some d) same there) (sym at_spare ∙ spare) in
      record {
        number = it.number;
        ty = it.ty;
        side = it.side;
        shake = it.shake;
        from = at_part ∙ it.from;
        known = it.known;
        small = it.small;
        at = it.at;
        alone = λ standing. it.alone (subst (λ (e : Supply). StandsIn e.plan (PartEnd k h)) same standing);
      }

-- all splits
module _ (Known : ℕ → Type' → ℕ → Type 0) (types : Types) (inner : ℕ → Bool) (pl : Placing) where
  abbrev AllKnown : ℕ → List Split → Type 0
  AllKnown x ss = (y : ℕ) (t : Type') (c : ℕ) → Contains (servings types pl inner x ss) (record { part = pl.own y; ty = t; side = c }) → Known y t c

  abbrev NumbersSpare : List Split → List ℕ → List ℕ → Lodging → Type 0
  NumbersSpare ss gone ms l = (n : ℕ) → Contains ms n → times n (sides ss) ≡ 0 → times n gone ≡ 0 → live ss inner n ≡ true → AllSpare Known l n

  spare_on : (s : Split) (ss : List Split) (q x : ℕ) (l : Lodging) (gone ms : List ℕ) → IsTidy inner (s ∷ ss) gone → Contains ms s.of → AreOfTypes types l.env ms
      → ((c : ℕ) → seen types inner ss s ≡ Some c → Known x (types s.of) c) → NumbersSpare (s ∷ ss) gone ms l
      → NumbersSpare ss (s.of ∷ gone) (s.left ∷ s.right ∷ ms) (one_lodging types q x s (seen types inner ss s) l)
  spare_on s ss q x l gone ms tidy of are known was n there none away lives =
      number_cases n s.left
      (λ e t. subst (AllSpare Known (one_lodging types q x s (seen types inner ss s) l)) (sym e) (at_left (subst (λ (m : ℕ). live ss inner m ≡ true) e lives)))
      (λ left t. number_cases n s.right
      (λ e t. subst (AllSpare Known (one_lodging types q x s (seen types inner ss s) l)) (sym e) (at_right (subst (λ (m : ℕ). live ss inner m ≡ true) e lives)))
      (λ right t. elsewhere left right))
    where
      of_live : (live ss inner s.left || live ss inner s.right) ≡ true → AllSpare Known l s.of
      of_live one =
          was s.of of tidy.order.0 (of_gone inner s ss gone tidy)
          (ap (λ (b : Bool). if b then live ss inner s.left || live ss inner s.right else live ss inner s.of) (eq-eqb s.of s.of refl) ∙ one)

      at_left : live ss inner s.left ≡ true → AllSpare Known (one_lodging types q x s (seen types inner ss s) l) s.left
      at_left one =
          side_spare Known types q x s ss tidy.once l (seen types inner ss s) ms of are 0 (omega arith)
          (known 0 (seen_first (live ss inner s.left) (live ss inner s.right) one)) (of_live (or_left (live ss inner s.left) (live ss inner s.right) one))

      at_right : live ss inner s.right ≡ true → AllSpare Known (one_lodging types q x s (seen types inner ss s) l) s.right
      at_right one =
          side_spare Known types q x s ss tidy.once l (seen types inner ss s) ms of are 1 (omega arith)
          (known 1 (seen_second (live ss inner s.left) (live ss inner s.right) tidy.apart.0 one))
          (of_live (or_right (live ss inner s.left) (live ss inner s.right) one))

      listed : n ≢ s.left → n ≢ s.right → Contains ms n
      listed left right =
          elim (of_cons s.left (s.right ∷ ms) n there) [
            | inl e ↦ absurd (left (sym e))
            | inr more ↦ elim (of_cons s.right ms n more) [ inl e ↦ absurd (right (sym e)) | inr own ↦ own ]
          ]

      elsewhere : n ≢ s.left → n ≢ s.right → AllSpare Known (one_lodging types q x s (seen types inner ss s) l) n
      elsewhere left right =
          let (far, gone_too) = times_none n s.of gone away in
          let aside : times n (sides (s ∷ ss)) ≡ 0 =
          times_other n s.left (s.right ∷ sides ss) (λ e. left (sym e)) ∙ (times_other n s.right (sides ss) (λ e. right (sym e)) ∙ none)
          in
          let same : live (s ∷ ss) inner n ≡ true =
          ap (λ (b : Bool). if b then live ss inner s.left || live ss inner s.right else live ss inner n) (ne_eqb n s.of far) ∙ lives
          in
          other_spare Known types q x s ss tidy.once l (seen types inner ss s) ms of are n left right (was n (listed left right) aside gone_too same)

  final_spare : (ss : List Split) (q x : ℕ) (l : Lodging) (gone ms : List ℕ) → IsTidy inner ss gone → SidesAgree ss types → AreSplit ss ms → AreOfTypes types l.env ms
      → AllKnown x ss → NumbersSpare ss gone ms l
      → (n : ℕ) → Contains (numbers_inside ss ms) n → times n (split_in ss) ≡ 0 → times n gone ≡ 0 → inner n ≡ true → AllSpare Known (lodging types q x inner ss l) n
  final_spare [] q x l gone ms tidy agree split are known was n there none away lives = was n there refl away lives
  final_spare (s ∷ ss) q x l gone ms tidy (left, right, agree) (of, split) are known was n there none away lives =
      let (far, rest) = times_none n s.of (split_in ss) none in
      final_spare ss (suc q) (suc x) (one_lodging types q x s (seen types inner ss s) l) (s.of ∷ gone) (s.left ∷ s.right ∷ ms) (tidy_on inner s ss gone tidy) agree split
      (one_inside types s l.env ms left right of are)
      (λ y t c has. known y t c (Contains-append_right (serving_if (pl.own x) (types s.of) (seen types inner ss s)) (servings types pl inner (suc x) ss) (record { part = pl.own y; ty = t; side = c }) has))
      (spare_on s ss q x l gone ms tidy of are here was) n there rest (times_other n s.of gone (λ e. far (sym e)) ∙ away) lives
    where
      here : (c : ℕ) → seen types inner ss s ≡ Some c → Known x (types s.of) c
      here c sees =
          known x (types s.of) c
          (Contains-append_left (serving_if (pl.own x) (types s.of) (seen types inner ss s)) (servings types pl inner (suc x) ss) (record { part = pl.own x; ty = types s.of; side = c })
          (subst (λ (b : Option ℕ). Contains (serving_if (pl.own x) (types s.of) b) (record { part = pl.own x; ty = types s.of; side = c })) (sym sees) (0, omega arith, refl)))

pub spares_are_others : SparesAreOthers
spares_are_others types i inner ss env ns pl n k h d tidy agree split are there none lives contact spare =
    let it =
    final_spare (λ y t c. Contains (servings types pl inner 0 ss) (record { part = pl.own y; ty = t; side = c })) types inner pl ss i 0 (first_lodging (live ss inner) env) [] ns
    (tidy_first inner ss ns tidy) agree split are (λ y t c has. has) (λ n there none away lives k h d contact spare. absurd (true≢false (sym spare))) n there none refl lives k h d
    contact spare
    in
    record {
      number = it.number;
      ty = it.ty;
      side = it.side;
      shake = it.shake;
      from = it.from;
      serving = it.known;
      small = it.small;
      at = it.at;
      alone = it.alone;
    }
