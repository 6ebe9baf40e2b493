-- The joinings of wirings that are one but for numbers are one but for numbers.
use Rattle.std.specs.Prelude.{◌≡◌, ℕ, ◌+◌, ◌<◌, ◌≤◌, Bool, true, false, List, ◌⊎◌, length, map, Option, Some, None, Contains, slice_get, nat_lt, option_map}
use Rattle.std.proofs.Common.{refl, sym, ◌∙◌, ap, subst, arith, inl, inr}
use Rattle.std.proofs.lemmas.Bool.Decides.{nat_tests}
use Rattle.std.proofs.lemmas.Option.{slice_get-map, slice_get_within, slice_get_past}
use Rattle.std.proofs.lemmas.List.{length-map}
use Rattle.gos_types.proofs.BoolLemmas.{same_tests}
use Rattle.gos_types.proofs.ListLemmas.{element_at}
use Rattle.gos_model.specs.Typing.{Imported}
use Rattle.gos_plan.specs.Kinds.{Part, Contact, asks, serves, contacts_of}
use Rattle.gos_plan.specs.Plans.{End, PartEnd, ImportEnd, ResultEnd, Plan, contact_at, contacts_of_part, contacts_of_import, turned_if}
use Rattle.gos_plan.specs.Joining.{Place, place, Link, Wiring, is_joined, LeftImport, all_left, all_parts, left_place, part_place, origin, JoinedWithin, Linked, IsJoining}
use Rattle.gos_plan.proofs.WiringLemmas.{place_is}
use Rattle.gos_realises.proofs.joined.OriginLemmas.{before, left_index, left_at, import_of}
use Rattle.gos_realises.proofs.joined.ReachLemmas.{Step, Paths}
use Rattle.gos_joining.specs.webs.Webs.{joint}
use Rattle.gos_joining.specs.webs.Renumbering.{Renumber, IsOneToOne, IsRenumbered, back, moved_end}
use Rattle.gos_joining.proofs.webs.IdleLemmas.{there_and_back, renumbered_back}
use Rattle.gos_joining.proofs.webs.MovedLemmas.{turned, back_and_there}
use Rattle.gos_joining.proofs.unions.WalkLemmas.{goes, mapped_walk}
use Rattle.gos_joining.proofs.unions.PathLemmas.{path_walk, walks_paths}
use Rattle.gos_joining.proofs.unions.LinkLemmas.{IsAt, joined_by, by_joined}
use Rattle.gos_joining.proofs.unions.DeepLemmas.{place_of_part}
use Rattle.gos_joining.specs.renumbered.Rewired.{rewired, IsRewired, RewiredIsRenumbered}
use Rattle.gos_joining.proofs.renumbered.SizeLemmas.{AreOneToOne, same_size, extended, below, above, extended_returns, turned_around}
use Rattle.gos_joining.proofs.renumbered.SplitLemmas.{split_at, part_get, part_low, plan_in, part_in, plan_is, part_is, left_get}

-- the numbers back
abbrev pub all_back : (ℕ → ℕ) → (ℕ → Renumber) → ℕ → Renumber
all_back undo f k = back (f (undo k))

module _ (forth undo : ℕ → ℕ) (f : ℕ → Renumber) (w v : Wiring) (is : IsRewired forth undo f w v) where
  abbrev there : Place → Place
  there = rewired forth f

  abbrev here : Place → Place
  here = rewired undo (all_back undo f)

  there_here : (a : Place) → there (here a) ≡ a
  there_here a = place_is (there (here a)) a (is.comes a.plan) (there_and_back (f (undo a.plan)) (is.one_to_one (undo a.plan)) a.end)

  here_there : (a : Place) → here (there a) ≡ a
  here_there a =
      place_is (here (there a)) a (is.returns a.plan)
      (ap (λ (k : ℕ). moved_end (back (f k)) (moved_end (f a.plan) a.end)) (is.returns a.plan) ∙ back_and_there (f a.plan) (is.one_to_one a.plan) a.end)

  pub rewired_back : IsRewired undo forth (all_back undo f) v w
  rewired_back =
      record {
        returns = is.comes;
        comes = is.returns;
        one_to_one = λ k. turned (f (undo k)) (is.one_to_one (undo k));
        plans = plans;
        no_more = λ k p at. (let (q, at_q, same) = is.plans k p at in (q, at_q));
        links = λ a b. (links_to a b, links_from a b);
        giver = sym (is.returns w.giver) ∙ ap undo (sym is.giver);
        skipped = sym is.skipped;
        outcome = sym is.outcome;
      }
    where
      plans : (k : ℕ) (q : Plan) → slice_get v.plans k ≡ Some q → (p : Plan) × (slice_get w.plans (undo k) ≡ Some p) × IsRenumbered (back (f (undo k))) q p
      plans k q at =
          let (p, at_p) = is.no_more k q at in
          let (x, at_x, same) = is.plans (undo k) p at_p in
          let both : Some x ≡ Some q = sym at_x ∙ (ap (slice_get v.plans) (is.comes k) ∙ at) in
          let is_q : x ≡ q = cc both in
          (p, at_p, renumbered_back (f (undo k)) p q (subst (λ (y : Plan). IsRenumbered (f (undo k)) p y) is_q same))

      links_to : (a b : Place) → Linked v a b → Linked w (here a) (here b)
      links_to a b linked =
          (is.links (here a) (here b)).1
          (subst (λ (x : Place). Linked v x (there (here b))) (sym (there_here a)) (subst (λ (y : Place). Linked v a y) (sym (there_here b)) linked))

      links_from : (a b : Place) → Linked w (here a) (here b) → Linked v a b
      links_from a b linked =
          subst (λ (x : Place). Linked v x b) (there_here a)
          (subst (λ (y : Place). Linked v (there (here a)) y) (there_here b) ((is.links (here a) (here b)).0 linked))

  -- steps and paths
  joint_there : (a b : Place) → JoinedWithin w a b → JoinedWithin v (there a) (there b)
  joint_there a b (p, j, same, at, has, ways) = by_plan (is.plans a.plan p at)
    where
      by_plan : (q : Plan) × (slice_get v.plans (forth a.plan) ≡ Some q) × IsRenumbered (f a.plan) p q → JoinedWithin v (there a) (there b)
      by_plan (q, at_q, moved) = (
        q,
        joint (moved_end (f a.plan) j.asking) (moved_end (f a.plan) j.serving),
        ap forth same,
        at_q,
        (moved.joints j.asking j.serving).0 has,
        elim ways [
          | inl (e, g) ↦ inl (ap (moved_end (f a.plan)) e, b_end ∙ ap (moved_end (f a.plan)) g)
          | inr (e, g) ↦ inr (ap (moved_end (f a.plan)) e, b_end ∙ ap (moved_end (f a.plan)) g)
        ],
      )
        where
          b_end : moved_end (f b.plan) b.end ≡ moved_end (f a.plan) b.end
          b_end = ap (λ (k : ℕ). moved_end (f k) b.end) (sym same)

  step_there : (a b : Place) → Step w a b → Step v (there a) (there b)
  step_there a b (inl s) = inl (joint_there a b s)
  step_there a b (inr s) = inr ((is.links a b).0 s)

  pub path_there : (a b : Place) → Paths w a b → Paths v (there a) (there b)
  path_there a b (n, u) =
      walks_paths v (there a) (there b)
      (mapped_walk Place Place (Step w) (Step v) there (λ x y s. goes Place (Step v) (there x) (there y) (step_there x y s)) n a b (path_walk w n a b u))

  -- parts
  abbrev pub part_there : ℕ → ℕ
  part_there i = before v.plans (forth (plan_in w.plans i)) + (f (plan_in w.plans i)).part (part_in w.plans i)

  pub part_goes : (k j : ℕ) (p : Plan) → slice_get w.plans k ≡ Some p → j < length p.parts
      → part_there (before w.plans k + j) ≡ before v.plans (forth k) + (f k).part j
  part_goes k j p at small =
      let plans = plan_is w.plans k j p at small in
      let parts = part_is w.plans k j p at small in
      λ i. before v.plans (forth (plans i)) + (f (plans i)).part (parts i)

  -- the plan there, with part j in it
  abbrev PartThere : ℕ → ℕ → Plan → Type 0
  PartThere k j p =
      (q : Plan) × (slice_get v.plans (forth k) ≡ Some q) × ((f k).part j < length q.parts) × (slice_get q.parts ((f k).part j) ≡ slice_get p.parts j)

  plan_there : (k j : ℕ) (p : Plan) → slice_get w.plans k ≡ Some p → j < length p.parts → PartThere k j p
  plan_there k j p at small =
      let (q, at_q, moved) = is.plans k p at in
      let (x, at_x) = element_at p.parts j small in
      (q, at_q, slice_get_within q.parts ((f k).part j) x (moved.parts j ∙ at_x), moved.parts j)

  pub part_below : (i : ℕ) → i < length (all_parts w.plans) → part_there i < length (all_parts v.plans)
  part_below i low =
      let s = split_at w.plans i low in
      let (q, at_q, small, same) = plan_there s.plan s.part s.of s.is s.small in
      subst (λ (n : ℕ). n < length (all_parts v.plans)) (sym (ap part_there s.number ∙ part_goes s.plan s.part s.of s.is s.small))
      (part_low v.plans (forth s.plan) ((f s.plan).part s.part) q at_q small)

  pub part_same : (i : ℕ) → i < length (all_parts w.plans) → slice_get (all_parts v.plans) (part_there i) ≡ slice_get (all_parts w.plans) i
  part_same i low =
      let s = split_at w.plans i low in
      let (q, at_q, small, same) = plan_there s.plan s.part s.of s.is s.small in
      ap (slice_get (all_parts v.plans)) (ap part_there s.number ∙ part_goes s.plan s.part s.of s.is s.small)
      ∙ (part_get v.plans (forth s.plan) ((f s.plan).part s.part) q at_q small
      ∙ (same ∙ sym (ap (slice_get (all_parts w.plans)) s.number ∙ part_get w.plans s.plan s.part s.of s.is s.small)))

  pub part_stands : (i h : ℕ) → i < length (all_parts w.plans) → origin v (PartEnd (part_there i) h) ≡ there (origin w (PartEnd i h))
  part_stands i h low =
      let s = split_at w.plans i low in
      let (q, at_q, small, same) = plan_there s.plan s.part s.of s.is s.small in
      let zeros : 0 + forth s.plan ≡ forth s.plan = omega arith in
      let zero_plan : s.plan ≡ 0 + s.plan = omega arith in
      ap (λ (n : ℕ). part_place 0 v.plans n h) (ap part_there s.number ∙ part_goes s.plan s.part s.of s.is s.small)
      ∙ (place_of_part 0 v.plans (forth s.plan) ((f s.plan).part s.part) h q at_q small
      ∙ (ap (λ (n : ℕ). place n (PartEnd ((f s.plan).part s.part) h)) zeros
      ∙ (ap (λ (n : ℕ). there (place n (PartEnd s.part h))) zero_plan
      ∙ sym (ap there (ap (λ (n : ℕ). part_place 0 w.plans n h) s.number ∙ place_of_part 0 w.plans s.plan s.part h s.of s.is s.small)))))

  -- imports
  same_import : (k n : ℕ) → is_joined v.links (forth k) ((f k).import n) ≡ is_joined w.links k n
  same_import k n = same_tests (is_joined v.links (forth k) ((f k).import n)) (is_joined w.links k n) from to
    where
      at_other : (l : Link) (x y : Place) → Contains w.links l → ((x ≡ l.one) × (y ≡ l.other)) ⊎ ((x ≡ l.other) × (y ≡ l.one)) → IsAt k n x
          → is_joined v.links (forth k) ((f k).import n) ≡ true
      at_other l x y has ways (h, e) =
          let (m, has_m, ways_m) = (is.links x y).0 (l, has, ways) in
          let lands : there x ≡ place (forth k) (ImportEnd ((f k).import n) h) = ap there e in
          by_joined v.links (forth k) ((f k).import n) (
            m,
            has_m,
            elim ways_m [
              | inl (a, b) ↦ inl (h, sym a ∙ lands)
              | inr (a, b) ↦ inr (h, sym a ∙ lands)
            ],
          )

      to : is_joined w.links k n ≡ true → is_joined v.links (forth k) ((f k).import n) ≡ true
      to t =
          let (l, has, ends) = joined_by w.links k n t in
          elim ends [
            | inl at ↦ at_other l l.one l.other has (inl (refl, refl)) at
            | inr at ↦ at_other l l.other l.one has (inr (refl, refl)) at
          ]

      lands_here : (h : ℕ) (x : Place) → x ≡ place (forth k) (ImportEnd ((f k).import n) h) → here x ≡ place k (ImportEnd n h)
      lands_here h x e = ap here e ∙ here_there (place k (ImportEnd n h))

      from_other : (l : Link) (x y : Place) → Contains v.links l → ((x ≡ l.one) × (y ≡ l.other)) ⊎ ((x ≡ l.other) × (y ≡ l.one))
          → IsAt (forth k) ((f k).import n) x → is_joined w.links k n ≡ true
      from_other l x y has ways (h, e) =
          let (m, has_m, ways_m) = (rewired_back.links x y).0 (l, has, ways) in
          by_joined w.links k n (
            m,
            has_m,
            elim ways_m [
              | inl (a, b) ↦ inl (h, sym a ∙ lands_here h x e)
              | inr (a, b) ↦ inr (h, sym a ∙ lands_here h x e)
            ],
          )

      from : is_joined v.links (forth k) ((f k).import n) ≡ true → is_joined w.links k n ≡ true
      from t =
          let (l, has, ends) = joined_by v.links (forth k) ((f k).import n) t in
          elim ends [
            | inl at ↦ from_other l l.one l.other has (inl (refl, refl)) at
            | inr at ↦ from_other l l.other l.one has (inr (refl, refl)) at
          ]

  abbrev left_there : LeftImport → LeftImport
  left_there l = record { plan = forth l.plan; number = (f l.plan).import l.number; import = l.import }

  abbrev index_if : Option LeftImport → ℕ
  index_if None = 0
  index_if (Some l) = left_index v.links 0 v.plans (forth l.plan) ((f l.plan).import l.number)

  abbrev pub import_there : ℕ → ℕ
  import_there i = index_if (slice_get (all_left w) i)

  pub import_goes : (i : ℕ) (l : LeftImport) → slice_get (all_left w) i ≡ Some l → slice_get (all_left v) (import_there i) ≡ Some (left_there l)
  import_goes i l at =
      let x = left_at w.links 0 w.plans i l at in
      let number : x.plan ≡ l.plan = (let sum = x.plan_is in omega (arith, sum)) in
      let (q, at_q, moved) = is.plans l.plan x.of (ap (slice_get w.plans) (sym number) ∙ x.is) in
      let zeros : 0 + forth l.plan ≡ forth l.plan = omega arith in
      let free : is_joined v.links (0 + forth l.plan) ((f l.plan).import l.number) ≡ false =
      ap (λ (k : ℕ). is_joined v.links k ((f l.plan).import l.number)) zeros ∙ (same_import l.plan l.number ∙ x.stays)
      in
      ap (λ (o : Option LeftImport). slice_get (all_left v) (index_if o)) at
      ∙ (left_get v.links 0 v.plans (forth l.plan) ((f l.plan).import l.number) q l.import at_q (moved.imports l.number ∙ x.has) free
      ∙ ap (λ (k : ℕ). Some (record { plan = k; number = (f l.plan).import l.number; import = l.import })) zeros)

  pub import_below : (i : ℕ) → i < length (all_left w) → import_there i < length (all_left v)
  import_below i low =
      let (l, at) = element_at (all_left w) i low in slice_get_within (all_left v) (import_there i) (left_there l) (import_goes i l at)

-- there and back
module _ (forth undo : ℕ → ℕ) (f : ℕ → Renumber) (w v : Wiring) (is : IsRewired forth undo f w v) where
  abbrev also : IsRewired undo forth (all_back undo f) v w
  also = rewired_back forth undo f w v is

  abbrev parts_to : ℕ → ℕ
  parts_to = part_there forth undo f w v is

  abbrev parts_from : ℕ → ℕ
  parts_from = part_there undo forth (all_back undo f) v w also

  pub parts_return : (i : ℕ) → i < length (all_parts w.plans) → parts_from (parts_to i) ≡ i
  parts_return i low =
      let s = split_at w.plans i low in
      let (q, at_q, small, same) = plan_there forth undo f w v is s.plan s.part s.of s.is s.small in
      let round : before w.plans (undo (forth s.plan)) + (f (undo (forth s.plan))).part_back ((f s.plan).part s.part) ≡ before w.plans s.plan + s.part =
      (λ i. before w.plans (is.returns s.plan i) + (f (is.returns s.plan i)).part_back ((f s.plan).part s.part))
      ∙ ap (λ (n : ℕ). before w.plans s.plan + n) ((is.one_to_one s.plan).parts s.part)
      in
      ap parts_from (ap parts_to s.number ∙ part_goes forth undo f w v is s.plan s.part s.of s.is s.small)
      ∙ (part_goes undo forth (all_back undo f) v w also (forth s.plan) ((f s.plan).part s.part) q at_q small ∙ (round ∙ sym s.number))

  abbrev imports_to : ℕ → ℕ
  imports_to = import_there forth undo f w v is

  abbrev imports_from : ℕ → ℕ
  imports_from = import_there undo forth (all_back undo f) v w also

  -- an import's number is told by its plan and its number there
  one_index : (i j : ℕ) (l m : LeftImport) → slice_get (all_left w) i ≡ Some l → slice_get (all_left w) j ≡ Some m → l.plan ≡ m.plan → l.number ≡ m.number
      → i ≡ j
  one_index i j l m at_i at_j plans numbers =
      let x = left_at w.links 0 w.plans i l at_i in
      let y = left_at w.links 0 w.plans j m at_j in
      let of_x = x.plan_is in
      let of_y = y.plan_is in
      let same : x.plan ≡ y.plan = omega (arith, of_x, of_y, plans) in
      x.place_of ∙ ((λ k. left_index w.links 0 w.plans (same k) (numbers k)) ∙ sym y.place_of)

  pub imports_return : (i : ℕ) → i < length (all_left w) → imports_from (imports_to i) ≡ i
  imports_return i low =
      let (l, at) = element_at (all_left w) i low in
      let there = import_goes forth undo f w v is i l at in
      let m = left_there forth undo f w v is l in
      let home = import_goes undo forth (all_back undo f) v w also (imports_to i) m there in
      one_index (imports_from (imports_to i)) i (left_there undo forth (all_back undo f) v w also m) l home at (is.returns l.plan)
      (ap (λ (k : ℕ). (f k).import_back ((f l.plan).import l.number)) (is.returns l.plan) ∙ (is.one_to_one l.plan).imports l.number)

-- the two plans
module _ (forth undo : ℕ → ℕ) (f : ℕ → Renumber) (w v : Wiring) (r q : Plan) (is : IsRewired forth undo f w v) (of_w : IsJoining w r) (of_v : IsJoining v q) where
  abbrev turned_round : IsRewired undo forth (all_back undo f) v w
  turned_round = rewired_back forth undo f w v is

  abbrev part_to : ℕ → ℕ
  part_to = part_there forth undo f w v is

  abbrev part_from : ℕ → ℕ
  part_from = part_there undo forth (all_back undo f) v w turned_round

  abbrev import_to : ℕ → ℕ
  import_to = import_there forth undo f w v is

  abbrev import_from : ℕ → ℕ
  import_from = import_there undo forth (all_back undo f) v w turned_round

  -- what is back of back is there
  part_comes : (i : ℕ) → i < length (all_parts v.plans) → part_to (part_from i) ≡ i
  part_comes i low =
      let s = split_at v.plans i low in
      let (x, at_x, small, same) = plan_there undo forth (all_back undo f) v w turned_round s.plan s.part s.of s.is s.small in
      let round : before v.plans (forth (undo s.plan)) + (f (undo s.plan)).part ((f (undo s.plan)).part_back s.part) ≡ before v.plans s.plan + s.part =
      (λ j. before v.plans (is.comes s.plan j) + (is.one_to_one (undo s.plan)).parts_back s.part j)
      in
      ap part_to (ap part_from s.number ∙ part_goes undo forth (all_back undo f) v w turned_round s.plan s.part s.of s.is s.small)
      ∙ (part_goes forth undo f w v is (undo s.plan) ((f (undo s.plan)).part_back s.part) x at_x small ∙ (round ∙ sym s.number))

  import_comes : (i : ℕ) → i < length (all_left v) → import_to (import_from i) ≡ i
  import_comes i low =
      let (l, at) = element_at (all_left v) i low in
      let there = import_goes undo forth (all_back undo f) v w turned_round i l at in
      let m = left_there undo forth (all_back undo f) v w turned_round l in
      let home = import_goes forth undo f w v is (import_from i) m there in
      one_index undo forth (all_back undo f) v w turned_round (import_to (import_from i)) i (left_there forth undo f w v is m) l home at (is.comes l.plan)
      ((is.one_to_one (undo l.plan)).imports_back l.number)

  parts_one : AreOneToOne (length (all_parts w.plans)) (length (all_parts v.plans)) part_to part_from
  parts_one =
      record {
        forth = part_below forth undo f w v is;
        back = part_below undo forth (all_back undo f) v w turned_round;
        returns = parts_return forth undo f w v is;
        comes = part_comes;
      }

  imports_one : AreOneToOne (length (all_left w)) (length (all_left v)) import_to import_from
  imports_one =
      record {
        forth = import_below forth undo f w v is;
        back = import_below undo forth (all_back undo f) v w turned_round;
        returns = imports_return forth undo f w v is;
        comes = import_comes;
      }

  abbrev part_count : ℕ
  part_count = length (all_parts w.plans)

  abbrev import_count : ℕ
  import_count = length (all_left w)

  parts_size : length (all_parts v.plans) ≡ part_count
  parts_size = sym (same_size part_count (length (all_parts v.plans)) part_to part_from parts_one)

  imports_size : length (all_left v) ≡ import_count
  imports_size = sym (same_size import_count (length (all_left v)) import_to import_from imports_one)

  parts_within : AreOneToOne part_count part_count part_to part_from
  parts_within = subst (λ (n : ℕ). AreOneToOne part_count n part_to part_from) parts_size parts_one

  imports_within : AreOneToOne import_count import_count import_to import_from
  imports_within = subst (λ (n : ℕ). AreOneToOne import_count n import_to import_from) imports_size imports_one

  abbrev numbers : Renumber
  numbers =
      record {
        part = extended part_count part_to;
        part_back = extended part_count part_from;
        import = extended import_count import_to;
        import_back = extended import_count import_from;
      }

  one_to_one : IsOneToOne numbers
  one_to_one =
      record {
        parts = extended_returns part_count part_to part_from parts_within;
        parts_back = extended_returns part_count part_from part_to (turned_around part_count part_count part_to part_from parts_within);
        imports = extended_returns import_count import_to import_from imports_within;
        imports_back =
            extended_returns import_count import_from import_to (turned_around import_count import_count import_to import_from imports_within);
      }

  parts : (i : ℕ) → slice_get q.parts (numbers.part i) ≡ slice_get r.parts i
  parts i =
      (λ j. slice_get (of_v.parts j) (numbers.part i)) ∙ (by_test (nat_lt i part_count) refl ∙ ap (λ (ks : List Part). slice_get ks i) (sym of_w.parts))
    where
      by_test : (b : Bool) → nat_lt i part_count ≡ b → slice_get (all_parts v.plans) (numbers.part i) ≡ slice_get (all_parts w.plans) i
      by_test true test =
          let low : i < part_count = grind (arith, nat_tests, test) in
          ap (slice_get (all_parts v.plans)) (below part_count part_to i low) ∙ part_same forth undo f w v is i low
      by_test false test =
          let high : part_count ≤ i = grind (arith, nat_tests, test) in
          let size = parts_size in
          ap (slice_get (all_parts v.plans)) (above part_count part_to i high)
          ∙ (slice_get_past (all_parts v.plans) i (omega (arith, size, high)) ∙ sym (slice_get_past (all_parts w.plans) i high))

  left_same : (i : ℕ) → option_map import_of (slice_get (all_left v) (numbers.import i)) ≡ option_map import_of (slice_get (all_left w) i)
  left_same i = by_test (nat_lt i import_count) refl
    where
      by_test : (b : Bool) → nat_lt i import_count ≡ b → option_map import_of (slice_get (all_left v) (numbers.import i)) ≡ option_map import_of (slice_get (all_left w) i)
      by_test true test =
          let low : i < import_count = grind (arith, nat_tests, test) in
          let (l, at) = element_at (all_left w) i low in
          ap (λ (n : ℕ). option_map import_of (slice_get (all_left v) n)) (below import_count import_to i low)
          ∙ (ap (option_map import_of) (import_goes forth undo f w v is i l at) ∙ sym (ap (option_map import_of) at))
      by_test false test =
          let high : import_count ≤ i = grind (arith, nat_tests, test) in
          let size = imports_size in
          ap (λ (n : ℕ). option_map import_of (slice_get (all_left v) n)) (above import_count import_to i high)
          ∙ (ap (option_map import_of) (slice_get_past (all_left v) i (omega (arith, size, high)))
          ∙ sym (ap (option_map import_of) (slice_get_past (all_left w) i high)))

  imports : (i : ℕ) → slice_get q.imports (numbers.import i) ≡ slice_get r.imports i
  imports i =
      (λ j. slice_get (of_v.imports j) (numbers.import i))
      ∙ (slice_get-map import_of (all_left v) (numbers.import i)
      ∙ (left_same i ∙ (sym (slice_get-map import_of (all_left w) i) ∙ ap (λ (xs : List Imported). slice_get xs i) (sym of_w.imports))))

  outcome : q.outcome ≡ r.outcome
  outcome = of_v.outcome ∙ (is.outcome ∙ sym of_w.outcome)

  contact_same : (e : End) → contact_at q (moved_end numbers e) ≡ contact_at r e
  contact_same (PartEnd i h) = ap (λ k. slice_get (contacts_of_part k) h) (parts i)
  contact_same (ImportEnd i h) = ap (λ k. slice_get (contacts_of_import k) h) (imports i)
  contact_same (ResultEnd h) = ap (λ t. turned_if (slice_get (contacts_of t) h)) outcome

  abbrev lands : Place → Place
  lands = rewired forth f

  -- where an end that there is stands
  part_in_range : (ks : List Part) (i h : ℕ) (c : Contact) → slice_get (contacts_of_part (slice_get ks i)) h ≡ Some c → i < length ks
  part_in_range ks i h c e = by_part (slice_get ks i) refl e
    where
      by_part : (o : Option Part) → slice_get ks i ≡ o → slice_get (contacts_of_part o) h ≡ Some c → i < length ks
      by_part None none there = absurd (cc there)
      by_part (Some k) at there = slice_get_within ks i k at

  import_in_range : (xs : List Imported) (i h : ℕ) (c : Contact) → slice_get (contacts_of_import (slice_get xs i)) h ≡ Some c → i < length xs
  import_in_range xs i h c e = by_import (slice_get xs i) refl e
    where
      by_import : (o : Option Imported) → slice_get xs i ≡ o → slice_get (contacts_of_import o) h ≡ Some c → i < length xs
      by_import None none there = absurd (cc there)
      by_import (Some x) at there = slice_get_within xs i x at

  stands : (e : End) (c : Contact) → contact_at r e ≡ Some c → origin v (moved_end numbers e) ≡ lands (origin w e)
  stands (PartEnd i h) c there =
      let low = part_in_range (all_parts w.plans) i h c (ap (λ (ks : List Part). slice_get (contacts_of_part (slice_get ks i)) h) (sym of_w.parts) ∙ there) in
      ap (λ (n : ℕ). origin v (PartEnd n h)) (below part_count part_to i low) ∙ part_stands forth undo f w v is i h low
  stands (ImportEnd i h) c there =
      let in_map =
      import_in_range (map import_of (all_left w)) i h c
      (ap (λ (xs : List Imported). slice_get (contacts_of_import (slice_get xs i)) h) (sym of_w.imports) ∙ there)
      in
      let size = length-map (all_left w) import_of in
      let low : i < import_count = omega (arith, in_map, size) in
      let (l, at) = element_at (all_left w) i low in
      ap (λ (n : ℕ). left_place (slice_get (all_left v) n) h) (below import_count import_to i low)
      ∙ (ap (λ (o : Option LeftImport). left_place o h) (import_goes forth undo f w v is i l at)
      ∙ sym (ap (λ (o : Option LeftImport). lands (left_place o h)) at))
  stands (ResultEnd h) c there = λ i. place (is.giver i) (ResultEnd (is.skipped i + h))

  joint_to : (a b : End) → Contains r.joints (joint a b) → Contains q.joints (joint (moved_end numbers a) (moved_end numbers b))
  joint_to a b has =
      let (x, y, n, asked, served, path) = (of_w.joints a b).0 has in
      let there = path_there forth undo f w v is (origin w a) (origin w b) (n, path) in
      let (m, u) =
      subst (λ (z : Place). Paths v z (origin v (moved_end numbers b))) (sym (stands a (asks x y) asked))
      (subst (λ (z : Place). Paths v (lands (origin w a)) z) (sym (stands b (serves x y) served)) there)
      in
      (of_v.joints (moved_end numbers a) (moved_end numbers b)).1 (x, y, m, contact_same a ∙ asked, contact_same b ∙ served, u)

  joint_from : (a b : End) → Contains q.joints (joint (moved_end numbers a) (moved_end numbers b)) → Contains r.joints (joint a b)
  joint_from a b has =
      let (x, y, n, asked, served, path) = (of_v.joints (moved_end numbers a) (moved_end numbers b)).0 has in
      let at_a = sym (contact_same a) ∙ asked in
      let at_b = sym (contact_same b) ∙ served in
      let there : Paths v (lands (origin w a)) (lands (origin w b)) =
      subst (λ (z : Place). Paths v z (lands (origin w b))) (stands a (asks x y) at_a)
      (subst (λ (z : Place). Paths v (origin v (moved_end numbers a)) z) (stands b (serves x y) at_b) (n, path))
      in
      let home = path_there undo forth (all_back undo f) v w turned_round (lands (origin w a)) (lands (origin w b)) there in
      let (m, u) =
      subst (λ (z : Place). Paths w z (origin w b)) (here_there forth undo f w v is (origin w a))
      (subst (λ (z : Place). Paths w (rewired undo (all_back undo f) (lands (origin w a))) z) (here_there forth undo f w v is (origin w b)) home)
      in
      (of_w.joints a b).1 (x, y, m, at_a, at_b, u)

  pub joinings_renumbered : IsRenumbered numbers r q
  joinings_renumbered =
      record {
        one_to_one = one_to_one;
        parts = parts;
        imports = imports;
        outcome = outcome;
        joints = λ a b. (joint_to a b, joint_from a b);
        right = of_w.right;
        also_right = of_v.right;
      }

pub rewired_is_renumbered : RewiredIsRenumbered
rewired_is_renumbered forth undo f w v r q is of_w of_v =
    (numbers forth undo f w v r q is of_w of_v, joinings_renumbered forth undo f w v r q is of_w of_v)
