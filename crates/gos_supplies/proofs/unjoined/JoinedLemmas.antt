-- What is joined to the whole is joined to the plan, with the same loose parts beside it.
--
-- The first plan of a wiring is the whole or the plan itself; the other plans and the links are the same. A path of the one
-- is a path of the other, and none leads from an end of the plan to a loose one.
use Rattle.std.specs.Prelude.{◌≡◌, ℕ, zero, suc, ◌+◌, ◌-◌, ◌<◌, ◌≤◌, Bool, true, false, List, [], ◌∷◌, ◌++◌, ◌⊎◌, length, Option, Some, None, nat_lt, slice_get, Contains, if◌then◌else◌}
use Rattle.std.proofs.Common.{refl, sym, ◌∙◌, ap, subst, arith, inl, inr}
use Rattle.std.proofs.lemmas.Bool.Decides.{nat_tests}
use Rattle.std.proofs.lemmas.List.{length-map}
use Rattle.std.proofs.lemmas.Option.{slice_get_within}
use Rattle.gos_types.specs.Types.{Type'}
use Rattle.gos_types.proofs.ListLemmas.{element_at, same_in_front}
use Rattle.gos_model.specs.Typing.{Imported}
use Rattle.gos_plan.specs.Kinds.{Contact, asks, serves, contacts_of}
use Rattle.gos_plan.specs.Plans.{End, PartEnd, ImportEnd, ResultEnd, Plan, contact_at, contacts_of_part, contacts_of_import, turned_if}
use Rattle.gos_plan.specs.Joining.{Place, place, Link, Wiring, LeftImport, left_among, all_parts, left_place, part_place, origin, JoinedWithin, Linked, Path, Connects, IsJoining}
use Rattle.gos_plan.proofs.WiringLemmas.{place_is}
use Rattle.gos_realises.proofs.joined.OriginLemmas.{behind_at, left_at, import_of}
use Rattle.gos_realises.proofs.joined.ReachLemmas.{Step, paths_back}
use Rattle.gos_joining.specs.webs.Webs.{joint}
use Rattle.gos_supplies.specs.unjoined.Beside.{Placing, placed, IsOwn}
use Rattle.gos_supplies.proofs.unjoined.PlacedLemmas.{IsPlaced, part_if, import_if, end_in, AreLoose, own_end, one_end, loose_apart}
use Rattle.gos_supplies.proofs.unjoined.SettledLemmas.{end_there}
use Rattle.gos_supplies.proofs.unjoined.FrontLemmas.{in_front, in_front_back, front, behind, none_front, front_within, front_get, front_forth, front_return}
use Rattle.gos_supplies.proofs.unjoined.LeftLemmas.{IsPlain, ArePlain, plain_link, numbered, all_stay, numbered_length, numbered_at, all_imports, left_imports}

-- a wiring of a first plan and others
abbrev pub wiring : Plan → List Plan → List Link → ℕ → ℕ → Type' → Wiring
wiring p ps ls giver skipped t = record { plans = p ∷ ps; links = ls; giver = giver; skipped = skipped; outcome = t }

-- where an end of plan k stands when the first plan has loose parts beside it
abbrev pub moved_in : Placing → ℕ → End → End
moved_in f zero e = placed f e
moved_in f (suc k) e = e

abbrev pub moved_place : Placing → Place → Place
moved_place f a = place a.plan (moved_in f a.plan a.end)

plain_unmoved : (f : Placing) (k : ℕ) (e : End) → IsPlain k e → moved_in f k e ≡ e
plain_unmoved f zero (PartEnd i h) plain = absurd (omega (arith, plain))
plain_unmoved f zero (ImportEnd i h) plain = absurd plain
plain_unmoved f zero (ResultEnd h) plain = refl
plain_unmoved f (suc k) e plain = refl

module _ (f : Placing) (p q : Plan) (is : IsPlaced f p q) (ps : List Plan) (ls : List Link) (plain : ArePlain ls) (giver skipped : ℕ) (t : Type') where
  -- the whole's wiring, and the plan's
  abbrev large : Wiring
  large = wiring p ps ls giver skipped t

  abbrev small : Wiring
  small = wiring q ps ls giver skipped t

  abbrev there : Place → Place
  there = moved_place f

  there_one : (a b : Place) → there a ≡ there b → a ≡ b
  there_one a b e = place_is a b plans (by_plan a.plan a.end b.end ends)
    where
      plans : a.plan ≡ b.plan
      plans = ap (λ (x : Place). x.plan) e

      ends : moved_in f a.plan a.end ≡ moved_in f a.plan b.end
      ends = ap (λ (x : Place). x.end) e ∙ ap (λ (k : ℕ). moved_in f k b.end) (sym plans)

      by_plan : (k : ℕ) (d g : End) → moved_in f k d ≡ moved_in f k g → d ≡ g
      by_plan zero d g same = one_end f p q is d g same
      by_plan (suc k) d g same = same

  -- steps of the plan's wiring are steps of the whole's
  abbrev PlanThere : ℕ → Plan → Type 0
  PlanThere k x =
      (y : Plan) × (slice_get (p ∷ ps) k ≡ Some y)
      × ((a b : End) → Contains x.joints (joint a b) → Contains y.joints (joint (moved_in f k a) (moved_in f k b)))

  plan_there : (k : ℕ) (x : Plan) → slice_get (q ∷ ps) k ≡ Some x → PlanThere k x
  plan_there zero x at =
      let same : q ≡ x = cc at in
      subst (PlanThere zero) same (p, refl, is.joints)
  plan_there (suc k) x at = (x, at, λ a b has. has)

  joint_there : (a b : Place) → JoinedWithin small a b → JoinedWithin large (there a) (there b)
  joint_there a b (x, j, same, at, has, ways) =
      let (y, at_y, moves) = plan_there a.plan x at in (
        y,
        joint (moved_in f a.plan j.asking) (moved_in f a.plan j.serving),
        same,
        at_y,
        moves j.asking j.serving has,
        elim ways [
          | inl (e, g) ↦ inl (ap (moved_in f a.plan) e, b_end ∙ ap (moved_in f a.plan) g)
          | inr (e, g) ↦ inr (ap (moved_in f a.plan) e, b_end ∙ ap (moved_in f a.plan) g)
        ],
      )
    where
      b_end : moved_in f b.plan b.end ≡ moved_in f a.plan b.end
      b_end = ap (λ (k : ℕ). moved_in f k b.end) (sym same)

  unmoved : (l : Link) → Contains ls l → (there l.one ≡ l.one) × (there l.other ≡ l.other)
  unmoved l has =
      let both = plain_link ls plain l has in (
        ap (place l.one.plan) (plain_unmoved f l.one.plan l.one.end both.0),
        ap (place l.other.plan) (plain_unmoved f l.other.plan l.other.end both.1),
      )

  link_there : (a b : Place) → Linked small a b → Linked large (there a) (there b)
  link_there a b (l, has, inl (e, g)) = let both = unmoved l has in (l, has, inl (ap there e ∙ both.0, ap there g ∙ both.1))
  link_there a b (l, has, inr (e, g)) = let both = unmoved l has in (l, has, inr (ap there e ∙ both.1, ap there g ∙ both.0))

  pub path_there : (n : ℕ) (a b : Place) → Path small n a b → Path large n (there a) (there b)
  path_there zero a b e = ap there e
  path_there (suc n) a b (d, inl s, path) = (there d, inl (joint_there a d s), path_there n d b path)
  path_there (suc n) a b (d, inr s, path) = (there d, inr (link_there a d s), path_there n d b path)

  -- and back
  abbrev Home : Place → Place → Type 0
  Home a y = (d : Place) × (y ≡ there d) × Step small a d

  joint_home : (k : ℕ) (e : End) (y : Place) → JoinedWithin large (place k (moved_in f k e)) y → Home (place k e) y
  joint_home (suc k) e y (x, j, same, at, has, ways) = (
    place (suc k) y.end,
    place_is y (place (suc k) y.end) (sym same) refl,
    inl (x, j, refl, at, has, ways),
  )
  joint_home zero e y (x, j, same, at, has, ways) = by_sort (is.all j.asking j.serving own_joint)
    where
      own_joint : Contains p.joints j
      own_joint = (let is_x : x ≡ p = cc at in subst (λ (z : Plan). Contains z.joints j) is_x has)

      lands : (d : End) → y.end ≡ placed f d → y ≡ there (place zero d)
      lands d end = place_is y (place zero (placed f d)) (sym same) end

      by_sort : IsOwn f q j.asking j.serving ⊎ AreLoose f j.asking j.serving → Home (place zero e) y
      by_sort (inl (d, g, own, at_d, at_g)) =
          elim ways [
            | inl (u, v) ↦ (
              place zero g,
              lands g (v ∙ sym at_g),
              inl (q, joint d g, refl, refl, own, inl (one_end f p q is e d (u ∙ sym at_d), refl)),
            )
            | inr (u, v) ↦ (
              place zero d,
              lands d (v ∙ sym at_d),
              inl (q, joint d g, refl, refl, own, inr (one_end f p q is e g (u ∙ sym at_g), refl)),
            )
          ]
      by_sort (inr (loose, other)) =
          elim ways [
            | inl (u, v) ↦ absurd (loose_apart f p q is j.asking e loose (sym u))
            | inr (u, v) ↦ absurd (loose_apart f p q is j.serving e other (sym u))
          ]

  step_home : (a y : Place) → Step large (there a) y → Home a y
  step_home a y (inl s) = joint_home a.plan a.end y s
  step_home a y (inr (l, has, inl (e, g))) =
      let both = unmoved l has in
      (l.other, g ∙ sym both.1, inr (l, has, inl (there_one a l.one (e ∙ sym both.0), refl)))
  step_home a y (inr (l, has, inr (e, g))) =
      let both = unmoved l has in
      (l.one, g ∙ sym both.0, inr (l, has, inr (there_one a l.other (e ∙ sym both.1), refl)))

  path_home : (n : ℕ) (a y : Place) → Path large n (there a) y → (b : Place) × (y ≡ there b) × Path small n a b
  path_home zero a y e = (a, sym e, refl)
  path_home (suc n) a y (z, s, path) =
      let (d, lands, step) = step_home a z s in
      let (b, end, rest) = path_home n d y (subst (λ (x : Place). Path large n x y) lands path) in
      (b, end, (d, step, rest))

  -- numbers
  abbrev pub numbers : Placing
  numbers =
      record {
        part = in_front (length q.parts) (length p.parts) f.part;
        number = in_front_back (length q.parts) (length p.parts) f.number;
        import = in_front (length q.imports) (length p.imports) f.import;
        import_number = in_front_back (length q.imports) (length p.imports) f.import_number;
      }

  -- where parts stand
  later_unmoved : (n : ℕ) (qs : List Plan) (i h : ℕ) → there (part_place (suc n) qs i h) ≡ part_place (suc n) qs i h
  later_unmoved n [] i h = refl
  later_unmoved n (x ∷ qs) i h = by_test (nat_lt i (length x.parts)) (later_unmoved (suc n) qs (i - length x.parts) h)
    where
      by_test : (b : Bool) → there (part_place (suc (suc n)) qs (i - length x.parts) h) ≡ part_place (suc (suc n)) qs (i - length x.parts) h
          → there (if b then place (suc n) (PartEnd i h) else part_place (suc (suc n)) qs (i - length x.parts) h)
          ≡ (if b then place (suc n) (PartEnd i h) else part_place (suc (suc n)) qs (i - length x.parts) h)
      by_test true rest = refl
      by_test false rest = rest

  first_part : (x : Plan) (i h : ℕ) → i < length x.parts → part_place 0 (x ∷ ps) i h ≡ place 0 (PartEnd i h)
  first_part x i h low =
      let test : nat_lt i (length x.parts) ≡ true = grind (arith, nat_tests, low) in
      ap (λ (b : Bool). if b then place 0 (PartEnd i h) else part_place 1 ps (i - length x.parts) h) test

  other_part : (x : Plan) (i h : ℕ) → length x.parts ≤ i → part_place 0 (x ∷ ps) i h ≡ part_place 1 ps (i - length x.parts) h
  other_part x i h large =
      let test : nat_lt i (length x.parts) ≡ false = grind (arith, nat_tests, large) in
      ap (λ (b : Bool). if b then place 0 (PartEnd i h) else part_place 1 ps (i - length x.parts) h) test

  pub part_stands : (i h : ℕ) → origin large (PartEnd (numbers.part i) h) ≡ there (origin small (PartEnd i h))
  part_stands i h = by_test (nat_lt i (length q.parts)) refl
    where
      by_test : (b : Bool) → nat_lt i (length q.parts) ≡ b → origin large (PartEnd (numbers.part i) h) ≡ there (origin small (PartEnd i h))
      by_test true test =
          let low : i < length q.parts = grind (arith, nat_tests, test) in
          let within = front_within q.parts p.parts (all_parts ps) f.part f.number is.parts is.part_number is.number_part i low in
          ap (λ (n : ℕ). part_place 0 (p ∷ ps) n h) (front (length q.parts) (length p.parts) f.part i low)
          ∙ (first_part p (f.part i) h within ∙ sym (ap there (first_part q i h low)))
      by_test false test =
          let large_i : length q.parts ≤ i = grind (arith, nat_tests, test) in
          let less : length p.parts + (i - length q.parts) - length p.parts ≡ i - length q.parts = omega arith in
          ap (λ (n : ℕ). part_place 0 (p ∷ ps) n h) (behind (length q.parts) (length p.parts) f.part i large_i)
          ∙ (other_part p (length p.parts + (i - length q.parts)) h (omega arith)
          ∙ (ap (λ (n : ℕ). part_place 1 ps n h) less
          ∙ (sym (later_unmoved 0 ps (i - length q.parts) h) ∙ sym (ap there (other_part q i h large_i)))))

  -- where imports stand
  left_front : (x : Plan) (i : ℕ) (y : Imported) → slice_get x.imports i ≡ Some y
      → slice_get (left_among ls 0 (x ∷ ps)) i ≡ Some (record { plan = 0; number = 0 + i; import = y })
  left_front x i y at =
      let size = numbered_length 0 0 x.imports in
      let within = slice_get_within x.imports i y at in
      ap (λ (zs : List LeftImport). slice_get (zs ++ left_among ls 1 ps) i) (all_stay ls plain 0 0 x.imports)
      ∙ (same_in_front (numbered 0 0 x.imports) (left_among ls 1 ps) i (omega (arith, size, within)) ∙ numbered_at 0 0 x.imports i y at)

  left_behind : (x : Plan) (i : ℕ) → length x.imports ≤ i → slice_get (left_among ls 0 (x ∷ ps)) i ≡ slice_get (left_among ls 1 ps) (i - length x.imports)
  left_behind x i past =
      let size = numbered_length 0 0 x.imports in
      ap (λ (zs : List LeftImport). slice_get (zs ++ left_among ls 1 ps) i) (all_stay ls plain 0 0 x.imports)
      ∙ (behind_at (numbered 0 0 x.imports) (left_among ls 1 ps) i (omega (arith, size, past))
      ∙ ap (λ (n : ℕ). slice_get (left_among ls 1 ps) (i - n)) size)

  first_import : (x : Plan) (i h : ℕ) → i < length x.imports → left_place (slice_get (left_among ls 0 (x ∷ ps)) i) h ≡ place 0 (ImportEnd i h)
  first_import x i h low =
      let (y, at) = element_at x.imports i low in
      let zeros : 0 + i ≡ i = omega arith in
      ap (λ (o : Option LeftImport). left_place o h) (left_front x i y at) ∙ ap (λ (n : ℕ). place 0 (ImportEnd n h)) zeros

  pub import_stands : (i h : ℕ) → i < length (left_among ls 0 (q ∷ ps)) → origin large (ImportEnd (numbers.import i) h) ≡ there (origin small (ImportEnd i h))
  import_stands i h low = by_test (nat_lt i (length q.imports)) refl
    where
      by_test : (b : Bool) → nat_lt i (length q.imports) ≡ b → origin large (ImportEnd (numbers.import i) h) ≡ there (origin small (ImportEnd i h))
      by_test true test =
          let own : i < length q.imports = grind (arith, nat_tests, test) in
          let within = front_within q.imports p.imports (all_imports ps) f.import f.import_number is.imports is.import_number is.number_import i own in
          ap (λ (n : ℕ). left_place (slice_get (left_among ls 0 (p ∷ ps)) n) h) (front (length q.imports) (length p.imports) f.import i own)
          ∙ (first_import p (f.import i) h within ∙ sym (ap there (first_import q i h own)))
      by_test false test =
          let past : length q.imports ≤ i = grind (arith, nat_tests, test) in
          let less : length p.imports + (i - length q.imports) - length p.imports ≡ i - length q.imports = omega arith in
          let (l, at) = element_at (left_among ls 0 (q ∷ ps)) i low in
          let behind_l : slice_get (left_among ls 1 ps) (i - length q.imports) ≡ Some l = sym (left_behind q i past) ∙ at in
          let plan = (left_at ls 1 ps (i - length q.imports) l behind_l).plan in
          let later : l.plan ≡ 1 + plan = (left_at ls 1 ps (i - length q.imports) l behind_l).plan_is in
          let one : 1 + plan ≡ suc plan = omega arith in
          let stays : there (place l.plan (ImportEnd l.number h)) ≡ place l.plan (ImportEnd l.number h) =
          subst (λ (n : ℕ). there (place n (ImportEnd l.number h)) ≡ place n (ImportEnd l.number h)) (sym (later ∙ one)) refl
          in
          let of_large : slice_get (left_among ls 0 (p ∷ ps)) (numbers.import i) ≡ Some l =
          ap (slice_get (left_among ls 0 (p ∷ ps))) (behind (length q.imports) (length p.imports) f.import i past)
          ∙ (left_behind p (length p.imports + (i - length q.imports)) (omega arith)
          ∙ (ap (slice_get (left_among ls 1 ps)) less ∙ behind_l))
          in
          ap (λ (o : Option LeftImport). left_place o h) of_large
          ∙ (sym stays ∙ sym (ap (λ (o : Option LeftImport). there (left_place o h)) at))

  -- the two plans
  module _ (r s : Plan) (of_large : IsJoining large r) (of_small : IsJoining small s) where
    parts : (i : ℕ) → slice_get r.parts (numbers.part i) ≡ slice_get s.parts i
    parts i =
        (λ j. slice_get (of_large.parts j) (numbers.part i))
        ∙ (front_get q.parts p.parts (all_parts ps) f.part f.number is.parts is.part_number is.number_part i
        ∙ (λ j. slice_get (sym of_small.parts j) i))

    pub large_imports : r.imports ≡ p.imports ++ all_imports ps
    large_imports = of_large.imports ∙ left_imports ls plain 0 (p ∷ ps)

    small_imports : s.imports ≡ q.imports ++ all_imports ps
    small_imports = of_small.imports ∙ left_imports ls plain 0 (q ∷ ps)

    imports : (i : ℕ) → slice_get r.imports (numbers.import i) ≡ slice_get s.imports i
    imports i =
        (λ j. slice_get (large_imports j) (numbers.import i))
        ∙ (front_get q.imports p.imports (all_imports ps) f.import f.import_number is.imports is.import_number is.number_import i
        ∙ (λ j. slice_get (sym small_imports j) i))

    outcome : r.outcome ≡ s.outcome
    outcome = of_large.outcome ∙ sym of_small.outcome

    contact_same : (e : End) → contact_at r (placed numbers e) ≡ contact_at s e
    contact_same (PartEnd i h) = ap (λ k. slice_get (contacts_of_part k) h) (parts i)
    contact_same (ImportEnd i h) = ap (λ k. slice_get (contacts_of_import k) h) (imports i)
    contact_same (ResultEnd h) = ap (λ k. turned_if (slice_get (contacts_of k) h)) outcome

    import_low : (i h : ℕ) (k : Contact) → contact_at s (ImportEnd i h) ≡ Some k → i < length (left_among ls 0 (q ∷ ps))
    import_low i h k at =
        let low : i < length s.imports = end_there s (ImportEnd i h) k at in
        let size : length s.imports ≡ length (left_among ls 0 (q ∷ ps)) =
        ap (λ (xs : List Imported). length xs) of_small.imports ∙ length-map (left_among ls 0 (q ∷ ps)) import_of
        in
        omega (arith, low, size)

    stands : (e : End) (k : Contact) → contact_at s e ≡ Some k → origin large (placed numbers e) ≡ there (origin small e)
    stands (PartEnd i h) k at = part_stands i h
    stands (ImportEnd i h) k at = import_stands i h (import_low i h k at)
    stands (ResultEnd h) k at = by_giver giver
      where
        by_giver : (n : ℕ) → place n (ResultEnd (skipped + h)) ≡ there (place n (ResultEnd (skipped + h)))
        by_giver zero = refl
        by_giver (suc n) = refl

    joint_to : (a b : End) → Contains s.joints (joint a b) → Contains r.joints (joint (placed numbers a) (placed numbers b))
    joint_to a b has =
        let (x, y, n, asked, served, path) = (of_small.joints a b).0 has in
        let moved = path_there n (origin small a) (origin small b) path in
        let at_ends : Path large n (origin large (placed numbers a)) (origin large (placed numbers b)) =
        subst (λ (z : Place). Path large n z (origin large (placed numbers b))) (sym (stands a (asks x y) asked))
        (subst (λ (z : Place). Path large n (there (origin small a)) z) (sym (stands b (serves x y) served)) moved)
        in
        (of_large.joints (placed numbers a) (placed numbers b)).1 (x, y, n, contact_same a ∙ asked, contact_same b ∙ served, at_ends)

    -- a loose end is one of the first plan
    pub loose_stands : (e : End) → end_in numbers e ≡ None → ((origin large e).plan ≡ 0) × (end_in f (origin large e).end ≡ None)
    loose_stands (PartEnd i h) none = by_number (in_front_back (length q.parts) (length p.parts) f.number i) refl none
      where
        by_number : (o : Option ℕ) → in_front_back (length q.parts) (length p.parts) f.number i ≡ o → part_if o h ≡ None
            → ((origin large (PartEnd i h)).plan ≡ 0) × (end_in f (origin large (PartEnd i h)).end ≡ None)
        by_number (Some j) at e = absurd (cc e)
        by_number None at e =
            let (low, loose) = none_front (length q.parts) (length p.parts) f.number i at in
            let stand = first_part p i h low in
            (ap (λ (a : Place). a.plan) stand, ap (λ (a : Place). end_in f a.end) stand ∙ ap (λ (o : Option ℕ). part_if o h) loose)
    loose_stands (ImportEnd i h) none = by_number (in_front_back (length q.imports) (length p.imports) f.import_number i) refl none
      where
        by_number : (o : Option ℕ) → in_front_back (length q.imports) (length p.imports) f.import_number i ≡ o → import_if o h ≡ None
            → ((origin large (ImportEnd i h)).plan ≡ 0) × (end_in f (origin large (ImportEnd i h)).end ≡ None)
        by_number (Some j) at e = absurd (cc e)
        by_number None at e =
            let (low, loose) = none_front (length q.imports) (length p.imports) f.import_number i at in
            let stand = first_import p i h low in
            (ap (λ (a : Place). a.plan) stand, ap (λ (a : Place). end_in f a.end) stand ∙ ap (λ (o : Option ℕ). import_if o h) loose)
    loose_stands (ResultEnd h) none = absurd (cc none)

    -- no path leads from one to the other
    apart : (a y : Place) → y.plan ≡ 0 → end_in f y.end ≡ None → y ≡ there a → ⊥
    apart a y first loose same = by_plan a.plan a.end (sym (ap (λ (x : Place). x.plan) same) ∙ first) (ap (λ (x : Place). x.end) same)
      where
        by_plan : (k : ℕ) (e : End) → k ≡ 0 → y.end ≡ moved_in f k e → ⊥
        by_plan zero e zeros end = loose_apart f p q is y.end e loose end
        by_plan (suc k) e zeros end = omega (arith, zeros)

    lands : (e d : End) (k : Contact) → contact_at r e ≡ Some k → placed numbers d ≡ e → (contact_at s d ≡ Some k) × (origin large e ≡ there (origin small d))
    lands e d k at is_e =
        let at_d = sym (contact_same d) ∙ (ap (contact_at r) is_e ∙ at) in
        (at_d, ap (origin large) (sym is_e) ∙ stands d k at_d)

    part_return : (i j : ℕ) → numbers.number i ≡ Some j → numbers.part j ≡ i
    part_return = front_return q.parts p.parts (all_parts ps) f.part f.number is.parts is.part_number is.number_part

    import_return : (i j : ℕ) → numbers.import_number i ≡ Some j → numbers.import j ≡ i
    import_return = front_return q.imports p.imports (all_imports ps) f.import f.import_number is.imports is.import_number is.number_import

    own : (e d : End) → end_in numbers e ≡ Some d → placed numbers d ≡ e
    own e d at = own_end numbers part_return import_return e d at

    joint_from : (a b : End) → Contains r.joints (joint a b) → IsOwn numbers s a b ⊎ AreLoose numbers a b
    joint_from a b has = by_ends (end_in numbers a) (end_in numbers b) refl refl
      where
        way : Connects large r a b
        way = (of_large.joints a b).0 has

        by_ends : (o u : Option End) → end_in numbers a ≡ o → end_in numbers b ≡ u → IsOwn numbers s a b ⊎ AreLoose numbers a b
        by_ends None None at_a at_b = inr (at_a, at_b)
        by_ends (Some d) None at_a at_b =
            let (x, y, n, asked, served, path) = way in
            let (at_d, stand) = lands a d (asks x y) asked (own a d at_a) in
            let (z, end, rest) = path_home n (origin small d) (origin large b) (subst (λ (w : Place). Path large n w (origin large b)) stand path) in
            let (first, loose) = loose_stands b at_b in
            absurd (apart z (origin large b) first loose end)
        by_ends None (Some e) at_a at_b =
            let (x, y, n, asked, served, path) = way in
            let (at_e, stand) = lands b e (serves x y) served (own b e at_b) in
            let (m, path_b) = paths_back large (origin large a) (origin large b) (n, path) in
            let (z, end, rest) = path_home m (origin small e) (origin large a) (subst (λ (w : Place). Path large m w (origin large a)) stand path_b) in
            let (first, loose) = loose_stands a at_a in
            absurd (apart z (origin large a) first loose end)
        by_ends (Some d) (Some e) at_a at_b =
            let (x, y, n, asked, served, path) = way in
            let (at_d, stand_d) = lands a d (asks x y) asked (own a d at_a) in
            let (at_e, stand_e) = lands b e (serves x y) served (own b e at_b) in
            let (z, end, rest) = path_home n (origin small d) (origin large b) (subst (λ (w : Place). Path large n w (origin large b)) stand_d path) in
            let same : z ≡ origin small e = there_one z (origin small e) (sym end ∙ stand_e) in
            let path_s : Path small n (origin small d) (origin small e) = subst (λ (w : Place). Path small n (origin small d) w) same rest in
            inl (d, e, (of_small.joints d e).1 (x, y, n, at_d, at_e, path_s), own a d at_a, own b e at_b)

    pub joinings_placed : IsPlaced numbers r s
    joinings_placed =
        record {
          whole_right = of_large.right;
          right = of_small.right;
          outcome = outcome;
          parts = parts;
          part_number = front_forth q.parts p.parts (all_parts ps) f.part f.number is.parts is.part_number is.number_part;
          number_part = part_return;
          imports = imports;
          import_number = front_forth q.imports p.imports (all_imports ps) f.import f.import_number is.imports is.import_number is.number_import;
          number_import = import_return;
          joints = joint_to;
          all = joint_from;
        }
