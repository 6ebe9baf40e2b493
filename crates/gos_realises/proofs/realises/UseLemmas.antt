-- The plan of `import f : com -> com; f skip` realises it. Joined to a plan of f it is that plan joined to the plan of
-- `skip`, but for the numbers of the parts.
use Rattle.std.specs.Prelude.{◌≡◌, ◌≢◌, ℕ, zero, suc, ◌+◌, ◌-◌, ◌<◌, Bool, true, false, ◌&&◌, ◌||◌, List, [], ◌∷◌, ◌++◌, ◌⊎◌, length, map, Option, Some, None, Contains, nat_eq, nat_lt, slice_get}
use Rattle.std.proofs.Common.{refl, sym, ◌∙◌, ap, subst, arith, inl, inr, length-append}
use Rattle.std.proofs.lemmas.Bool.Decides.{nat_tests}
use Rattle.std.proofs.lemmas.Option.{slice_get_past, none-some}
use Rattle.gos_types.specs.Types.{Type', Com, Fun}
use Rattle.gos_types.proofs.ListLemmas.{none_in_empty}
use Rattle.gos_model.specs.Terms as terms
use Rattle.gos_model.specs.Terms.{App}
use Rattle.gos_model.specs.Typing.{Imported}
use Rattle.gos_plan.specs.Kinds.{Part, Skip, Contact, asks, serves, contacts_of, turned_contact}
use Rattle.gos_plan.specs.Plans.{End, PartEnd, ImportEnd, ResultEnd, Joint, Plan, contact_at, contacts_of_part, contacts_of_import, turned_if, same_end, stands_in, IsRight}
use Rattle.gos_plan.specs.Tokens.{asking_in}
use Rattle.gos_plan.specs.Joining.{Place, place, Link, Wiring, all_left, origin, JoinedWithin, Linked, Path, Connects, IsJoining, left_place, all_parts, all_weight}
use Rattle.gos_plan.specs.SmallPlans.{skip_plan}
use Rattle.gos_plan.proofs.MovedJointLemmas.{right_moved}
use Rattle.gos_realises.specs.realises.Links.{LinkFits, StandsIn, LinksFit, IsJoined}
use Rattle.gos_realises.specs.realises.Wirings.{applying, link}
use Rattle.gos_realises.specs.realises.SmallRealisers.{use_plan, UseIsRealised}
use Rattle.gos_realises.specs.realises.Renumbered.{moved, moved_if, IsRenumbered}
use Rattle.gos_realises.proofs.realises.LiteralLemmas.{literals_among}
use Rattle.gos_realises.proofs.realises.LeftLemmas.{left_list, left_all, imports_left, left_at}
use Rattle.gos_realises.proofs.realises.RenumberLemmas.{moved_twice, tests_agree, renumbering_keeps}
use Rattle.gos_realises.proofs.realises.RotateLemmas.{forth, back, returns, comes, back_below, back_at, by_place, rotated, map_contains}
use Rattle.gos_realises.proofs.realises.SkipLemmas.{skip_is_realised}

-- the two wirings
abbrev before : Plan → Wiring
before q =
    record {
      plans = use_plan ∷ q ∷ [];
      links = link 0 (ImportEnd 0 0) 1 (ResultEnd 0) ∷ link 0 (ImportEnd 0 1) 1 (ResultEnd 1) ∷ [];
      giver = 0;
      skipped = 0;
      outcome = Com;
    }

abbrev after : Plan → Wiring
after q = applying Com Com q skip_plan

left_before : (q : Plan) → all_left (before q) ≡ left_list 1 0 q.imports ++ []
left_before q = ap (λ l. l ++ []) (left_all (before q).links 1 (λ j. refl) 0 q.imports)

left_after : (q : Plan) → all_left (after q) ≡ left_list 0 0 q.imports ++ []
left_after q = ap (λ l. l ++ []) (left_all (after q).links 0 (λ j. refl) 0 q.imports)

-- joints moved
abbrev moved_joint : (ℕ → ℕ) → Joint → Joint
moved_joint f j = record { asking = moved f j.asking; serving = moved f j.serving }

joint_twice : (f g : ℕ → ℕ) → ((i : ℕ) → g (f i) ≡ i) → (js : List Joint) → map (moved_joint g) (map (moved_joint f) js) ≡ js
joint_twice f g returns [] = refl
joint_twice f g returns (j ∷ js) =
    λ i. record { asking = moved_twice f g returns j.asking i; serving = moved_twice f g returns j.serving i } ∷ joint_twice f g returns js i

same_end_moved : (f g : ℕ → ℕ) → ((i : ℕ) → g (f i) ≡ i) → (d e : End) → same_end (moved f d) (moved f e) ≡ same_end d e
same_end_moved f g returns (PartEnd i h) (PartEnd j k) =
    let e = tests_agree (f i) (f j) i j (λ e. sym (returns i) ∙ (ap g e ∙ returns j)) (λ e. ap f e) in λ l. e l && nat_eq h k
same_end_moved f g returns (PartEnd i h) (ImportEnd j k) = refl
same_end_moved f g returns (PartEnd i h) (ResultEnd k) = refl
same_end_moved f g returns (ImportEnd i h) (PartEnd j k) = refl
same_end_moved f g returns (ImportEnd i h) (ImportEnd j k) = refl
same_end_moved f g returns (ImportEnd i h) (ResultEnd k) = refl
same_end_moved f g returns (ResultEnd h) (PartEnd j k) = refl
same_end_moved f g returns (ResultEnd h) (ImportEnd j k) = refl
same_end_moved f g returns (ResultEnd h) (ResultEnd k) = refl

stands_moved : (f g : ℕ → ℕ) → ((i : ℕ) → g (f i) ≡ i) → (e : End) (j : Joint) → stands_in (moved f e) (moved_joint f j) ≡ stands_in e j
stands_moved f g returns e j = λ i. same_end_moved f g returns e j.asking i || same_end_moved f g returns e j.serving i

asking_moved : (f g : ℕ → ℕ) → ((i : ℕ) → g (f i) ≡ i) → (js : List Joint) (e : End)
    → asking_in (map (moved_joint f) js) (moved f e) ≡ moved_if f (asking_in js e)
asking_moved f g returns [] e = refl
asking_moved f g returns (j ∷ js) e = by_test (stands_in e j) refl (asking_moved f g returns js e)
  where
    by_test : (t : Bool) → stands_in e j ≡ t → asking_in (map (moved_joint f) js) (moved f e) ≡ moved_if f (asking_in js e)
        → asking_in (map (moved_joint f) (j ∷ js)) (moved f e) ≡ moved_if f (asking_in (j ∷ js) e)
    by_test true k rest = let l : stands_in (moved f e) (moved_joint f j) ≡ true = stands_moved f g returns e j ∙ k in rw (l, k) refl
    by_test false k rest = let l : stands_in (moved f e) (moved_joint f j) ≡ false = stands_moved f g returns e j ∙ k in rw (l, k) rest

-- paths of any length
abbrev pub Reach : Wiring → Place → Place → Type 0
Reach w a b = (n : ℕ) × Path w n a b

pub follow : (w : Wiring) (n : ℕ) (a b c : Place) → Path w n a b → Reach w b c → Reach w a c
follow w zero a b c e rest = subst (λ x. Reach w x c) (sym e) rest
follow w (suc n) a b c (d, step, path) rest = let (m, whole) = follow w n d b c path rest in (suc m, (d, step, whole))

-- where a place of the one wiring is in the other
abbrev there : ℕ → End → Place
there zero (PartEnd i h) = place 1 (PartEnd i h)
there zero (ImportEnd i zero) = place 1 (ResultEnd 0)
there zero (ImportEnd i (suc h)) = place 0 (ResultEnd 1)
there zero (ResultEnd h) = place 0 (ResultEnd 1)
there (suc k) e = place 0 e

abbrev here : ℕ → End → Place
here zero e = place 1 e
here (suc k) (PartEnd i h) = place 0 (PartEnd i h)
here (suc k) (ImportEnd i h) = place 0 (ImportEnd i h)
here (suc k) (ResultEnd h) = place 0 (ImportEnd 0 h)

module _ (q : Plan) where
  -- a joint or a link of the first wiring, in the second
  abbrev Step : Wiring → Place → Place → Type 0
  Step w a b = JoinedWithin w a b ⊎ Linked w a b

  one_step : (a b : Place) → Step (after q) a b → Reach (after q) a b
  one_step a b step = (1, (b, step, refl))

  skip_joint : (a b : End) → ((a ≡ ResultEnd 0) × (b ≡ PartEnd 0 0)) ⊎ ((a ≡ PartEnd 0 0) × (b ≡ ResultEnd 0)) → Reach (after q) (place 1 a) (place 1 b)
  skip_joint a b ways =
      one_step (place 1 a) (place 1 b)
      (inl (skip_plan, record { asking = ResultEnd 0; serving = PartEnd 0 0 }, refl, refl, (0, omega arith, refl), ways))

  -- the plan's own joints lead nowhere or are that of skip
  first_there : (a b : End) → ((a ≡ ResultEnd 0) × (b ≡ ImportEnd 0 1)) ⊎ ((a ≡ ImportEnd 0 1) × (b ≡ ResultEnd 0)) → Reach (after q) (there 0 a) (there 0 b)
  first_there a b (inl (e, f)) = (0, (λ i. there 0 (e i)) ∙ sym (λ i. there 0 (f i)))
  first_there a b (inr (e, f)) = (0, (λ i. there 0 (e i)) ∙ sym (λ i. there 0 (f i)))

  second_there : (a b : End) → ((a ≡ ImportEnd 0 0) × (b ≡ PartEnd 0 0)) ⊎ ((a ≡ PartEnd 0 0) × (b ≡ ImportEnd 0 0)) → Reach (after q) (there 0 a) (there 0 b)
  second_there a b (inl (e, f)) =
      subst (λ x. Reach (after q) (there 0 x) (there 0 b)) (sym e)
      (subst (λ x. Reach (after q) (place 1 (ResultEnd 0)) (there 0 x)) (sym f) (skip_joint (ResultEnd 0) (PartEnd 0 0) (inl (refl, refl))))
  second_there a b (inr (e, f)) =
      subst (λ x. Reach (after q) (there 0 x) (there 0 b)) (sym e)
      (subst (λ x. Reach (after q) (place 1 (PartEnd 0 0)) (there 0 x)) (sym f) (skip_joint (PartEnd 0 0) (ResultEnd 0) (inr (refl, refl))))

  joined_there : (k : ℕ) (a b : End) (p : Plan) (j : Joint) → slice_get (before q).plans k ≡ Some p → Contains p.joints j
      → ((a ≡ j.asking) × (b ≡ j.serving)) ⊎ ((a ≡ j.serving) × (b ≡ j.asking)) → Reach (after q) (there k a) (there k b)
  joined_there zero a b p j is has ways =
      let same : use_plan ≡ p = cc is in
      own (subst (λ (x : Plan). Contains x.joints j) (sym same) has)
    where
      own : Contains use_plan.joints j → Reach (after q) (there 0 a) (there 0 b)
      own (zero, l, e) =
          first_there a b (subst (λ (x : Joint). ((a ≡ x.asking) × (b ≡ x.serving)) ⊎ ((a ≡ x.serving) × (b ≡ x.asking))) (sym e) ways)
      own (suc zero, l, e) =
          second_there a b (subst (λ (x : Joint). ((a ≡ x.asking) × (b ≡ x.serving)) ⊎ ((a ≡ x.serving) × (b ≡ x.asking))) (sym e) ways)
      own (suc (suc n), l, e) = absurd (omega (arith, l))
  joined_there (suc zero) a b p j is has ways =
      let same : q ≡ p = cc is in
      one_step (place 0 a) (place 0 b) (inl (q, j, refl, refl, subst (λ (x : Plan). Contains x.joints j) (sym same) has, ways))
  joined_there (suc (suc k)) a b p j is has ways = absurd (cc is)

  abbrev across : Place → Place
  across a = there a.plan a.end

  abbrev homeward : Place → Place
  homeward a = here a.plan a.end

  -- the first link is that of the second wiring; the other leads nowhere
  linked_there : (a b : Place) → Linked (before q) a b → Reach (after q) (across a) (across b)
  linked_there a b (l, (zero, m, e), ways) =
      by_way (subst (λ (x : Link). ((a ≡ x.one) × (b ≡ x.other)) ⊎ ((a ≡ x.other) × (b ≡ x.one))) (sym e) ways)
    where
      by_way : ((a ≡ place 0 (ImportEnd 0 0)) × (b ≡ place 1 (ResultEnd 0))) ⊎ ((a ≡ place 1 (ResultEnd 0)) × (b ≡ place 0 (ImportEnd 0 0)))
          → Reach (after q) (across a) (across b)
      by_way (inl (f, g)) =
          subst (λ x. Reach (after q) (across x) (across b)) (sym f)
          (subst (λ x. Reach (after q) (place 1 (ResultEnd 0)) (across x)) (sym g)
          (one_step (place 1 (ResultEnd 0)) (place 0 (ResultEnd 0))
          (inr (link 0 (ResultEnd 0) 1 (ResultEnd 0), (0, omega arith, refl), inr (refl, refl)))))
      by_way (inr (f, g)) =
          subst (λ x. Reach (after q) (across x) (across b)) (sym f)
          (subst (λ x. Reach (after q) (place 0 (ResultEnd 0)) (across x)) (sym g)
          (one_step (place 0 (ResultEnd 0)) (place 1 (ResultEnd 0))
          (inr (link 0 (ResultEnd 0) 1 (ResultEnd 0), (0, omega arith, refl), inl (refl, refl)))))
  linked_there a b (l, (suc zero, m, e), ways) =
      by_way (subst (λ (x : Link). ((a ≡ x.one) × (b ≡ x.other)) ⊎ ((a ≡ x.other) × (b ≡ x.one))) (sym e) ways)
    where
      by_way : ((a ≡ place 0 (ImportEnd 0 1)) × (b ≡ place 1 (ResultEnd 1))) ⊎ ((a ≡ place 1 (ResultEnd 1)) × (b ≡ place 0 (ImportEnd 0 1)))
          → Reach (after q) (across a) (across b)
      by_way (inl (f, g)) = (0, ap (λ x. across x) f ∙ sym (ap (λ x. across x) g))
      by_way (inr (f, g)) = (0, ap (λ x. across x) f ∙ sym (ap (λ x. across x) g))
  linked_there a b (l, (suc (suc n), m, e), ways) = absurd (omega (arith, m))

  step_there : (a b : Place) → Step (before q) a b → Reach (after q) (across a) (across b)
  step_there a b (inl (p, j, same, is, has, ways)) =
      subst (λ k. Reach (after q) (across a) (there k b.end)) same (joined_there a.plan a.end b.end p j is has ways)
  step_there a b (inr linked) = linked_there a b linked

  path_there : (n : ℕ) (a b : Place) → Path (before q) n a b → Reach (after q) (across a) (across b)
  path_there zero a b e = (0, ap (λ x. across x) e)
  path_there (suc n) a b (c, step, path) =
      let (m, first) = step_there a c step in follow (after q) m (across a) (across c) (across b) first (path_there n c b path)

  -- and back
  skip_here : (a b : End) → ((a ≡ ResultEnd 0) × (b ≡ PartEnd 0 0)) ⊎ ((a ≡ PartEnd 0 0) × (b ≡ ResultEnd 0)) → JoinedWithin (before q) (here 1 a) (here 1 b)
  skip_here a b (inl (e, f)) =
      subst (λ x. JoinedWithin (before q) (here 1 x) (here 1 b)) (sym e)
      (subst (λ x. JoinedWithin (before q) (place 0 (ImportEnd 0 0)) (here 1 x)) (sym f)
      (use_plan, record { asking = ImportEnd 0 0; serving = PartEnd 0 0 }, refl, refl, (1, omega arith, refl), inl (refl, refl)))
  skip_here a b (inr (e, f)) =
      subst (λ x. JoinedWithin (before q) (here 1 x) (here 1 b)) (sym e)
      (subst (λ x. JoinedWithin (before q) (place 0 (PartEnd 0 0)) (here 1 x)) (sym f)
      (use_plan, record { asking = ImportEnd 0 0; serving = PartEnd 0 0 }, refl, refl, (1, omega arith, refl), inr (refl, refl)))

  joined_here : (k : ℕ) (a b : End) (p : Plan) (j : Joint) → slice_get (after q).plans k ≡ Some p → Contains p.joints j
      → ((a ≡ j.asking) × (b ≡ j.serving)) ⊎ ((a ≡ j.serving) × (b ≡ j.asking)) → JoinedWithin (before q) (here k a) (here k b)
  joined_here zero a b p j is has ways =
      let same : q ≡ p = cc is in
      (q, j, refl, refl, subst (λ (x : Plan). Contains x.joints j) (sym same) has, ways)
  joined_here (suc zero) a b p j is has ways =
      let same : skip_plan ≡ p = cc is in
      own (subst (λ (x : Plan). Contains x.joints j) (sym same) has)
    where
      own : Contains skip_plan.joints j → JoinedWithin (before q) (here 1 a) (here 1 b)
      own (zero, l, e) =
          skip_here a b (subst (λ (x : Joint). ((a ≡ x.asking) × (b ≡ x.serving)) ⊎ ((a ≡ x.serving) × (b ≡ x.asking))) (sym e) ways)
      own (suc n, l, e) = absurd (omega (arith, l))
  joined_here (suc (suc k)) a b p j is has ways = absurd (cc is)

  linked_here : (a b : Place) → Linked (after q) a b → Linked (before q) (homeward a) (homeward b)
  linked_here a b (l, (zero, m, e), ways) =
      by_way (subst (λ (x : Link). ((a ≡ x.one) × (b ≡ x.other)) ⊎ ((a ≡ x.other) × (b ≡ x.one))) (sym e) ways)
    where
      by_way : ((a ≡ place 0 (ResultEnd 0)) × (b ≡ place 1 (ResultEnd 0))) ⊎ ((a ≡ place 1 (ResultEnd 0)) × (b ≡ place 0 (ResultEnd 0)))
          → Linked (before q) (homeward a) (homeward b)
      by_way (inl (f, g)) = (link 0 (ImportEnd 0 0) 1 (ResultEnd 0), (0, omega arith, refl), inr (ap (λ x. homeward x) f, ap (λ x. homeward x) g))
      by_way (inr (f, g)) = (link 0 (ImportEnd 0 0) 1 (ResultEnd 0), (0, omega arith, refl), inl (ap (λ x. homeward x) f, ap (λ x. homeward x) g))
  linked_here a b (l, (suc n, m, e), ways) = absurd (omega (arith, m))

  step_here : (a b : Place) → Step (after q) a b → Step (before q) (homeward a) (homeward b)
  step_here a b (inl (p, j, same, is, has, ways)) =
      inl (subst (λ k. JoinedWithin (before q) (homeward a) (here k b.end)) same (joined_here a.plan a.end b.end p j is has ways))
  step_here a b (inr linked) = inr (linked_here a b linked)

  path_here : (n : ℕ) (a b : Place) → Path (after q) n a b → Path (before q) n (homeward a) (homeward b)
  path_here zero a b e = ap (λ x. homeward x) e
  path_here (suc n) a b (c, step, path) = (homeward c, step_here a c step, path_here n c b path)

  -- one place in both wirings
  record Spot (x y : Place) : Type 0 where
    to : across x ≡ y
    out : Reach (before q) x (homeward y)
    home : Reach (before q) (homeward y) x

  spot_at : (x y u v : Place) → x ≡ u → y ≡ v → Spot u v → Spot x y
  spot_at x y u v e f s = subst (λ a. Spot a y) (sym e) (subst (λ b. Spot u b) (sym f) s)

  result_spot : Spot (place 0 (ResultEnd 0)) (place 0 (ResultEnd 1))
  result_spot =
      record {
        to = refl;
        out = (2, (place 0 (ImportEnd 0 1), inl (inner (inl (refl, refl))), (place 1 (ResultEnd 1), inr outer, refl)));
        home = (2, (place 0 (ImportEnd 0 1), inr outward, (place 0 (ResultEnd 0), inl inward, refl)));
      }
    where
      inner : ((ResultEnd 0 ≡ ResultEnd 0) × (ImportEnd 0 1 ≡ ImportEnd 0 1)) ⊎ ((ResultEnd 0 ≡ ImportEnd 0 1) × (ImportEnd 0 1 ≡ ResultEnd 0))
          → JoinedWithin (before q) (place 0 (ResultEnd 0)) (place 0 (ImportEnd 0 1))
      inner ways = (use_plan, record { asking = ResultEnd 0; serving = ImportEnd 0 1 }, refl, refl, (0, omega arith, refl), ways)

      inward : JoinedWithin (before q) (place 0 (ImportEnd 0 1)) (place 0 (ResultEnd 0))
      inward = (use_plan, record { asking = ResultEnd 0; serving = ImportEnd 0 1 }, refl, refl, (0, omega arith, refl), inr (refl, refl))

      outer : Linked (before q) (place 0 (ImportEnd 0 1)) (place 1 (ResultEnd 1))
      outer = (link 0 (ImportEnd 0 1) 1 (ResultEnd 1), (1, omega arith, refl), inl (refl, refl))

      outward : Linked (before q) (place 1 (ResultEnd 1)) (place 0 (ImportEnd 0 1))
      outward = (link 0 (ImportEnd 0 1) 1 (ResultEnd 1), (1, omega arith, refl), inr (refl, refl))

  import_spot : (j h : ℕ) → Spot (place 1 (ImportEnd j h)) (place 0 (ImportEnd j h))
  import_spot j h = record { to = refl; out = (0, refl); home = (0, refl) }

  part_spot : (i h : ℕ) → Spot (place 1 (PartEnd i h)) (place 0 (PartEnd i h))
  part_spot i h = record { to = refl; out = (0, refl); home = (0, refl) }

  skip_spot : (h : ℕ) → Spot (place 0 (PartEnd 0 h)) (place 1 (PartEnd 0 h))
  skip_spot h = record { to = refl; out = (0, refl); home = (0, refl) }

module _ (q r : Plan) (outcome : q.outcome ≡ Fun Com Com) (right : IsRight q) (join : IsJoining (before q) r) where
  abbrev size : ℕ
  size = length q.parts

  -- the plan joined to that of skip
  abbrev renewed : Plan
  renewed =
      record {
        weight = all_weight (after q).plans;
        imports = r.imports;
        outcome = Com;
        parts = all_parts (after q).plans;
        joints = map (moved_joint (forth size)) r.joints;
      }

  parts_same : (i : ℕ) → slice_get renewed.parts (forth size i) ≡ slice_get r.parts i
  parts_same i = rotated q.parts Skip i ∙ ap (λ (ps : List Part). slice_get ps i) (sym join.parts)

  contact_forth : (e : End) → contact_at renewed (moved (forth size) e) ≡ contact_at r e
  contact_forth (PartEnd i h) = ap (λ (k : Option Part). slice_get (contacts_of_part k) h) (parts_same i)
  contact_forth (ImportEnd i h) = refl
  contact_forth (ResultEnd h) = ap (λ (t : Type'). turned_if (slice_get (contacts_of t) h)) (sym join.outcome)

  around : (e : End) → moved (forth size) (moved (back size) e) ≡ e
  around e = moved_twice (back size) (forth size) (comes size) e

  contact_back : (e : End) → contact_at r (moved (back size) e) ≡ contact_at renewed e
  contact_back e = sym (contact_forth (moved (back size) e)) ∙ ap (contact_at renewed) (around e)

  pub renumbered : IsRenumbered (forth size) (back size) r renewed
  renumbered =
      record {
        returns = returns size;
        comes = comes size;
        parts = parts_same;
        imports = refl;
        outcome = sym join.outcome;
        places = asking_moved (forth size) (back size) (returns size) r.joints;
      }

  imports_same : r.imports ≡ q.imports
  imports_same = join.imports ∙ (ap (map (λ l. l.import)) (left_before q) ∙ imports_left 1 0 q.imports)

  -- where ends stand
  part_before : (j h : ℕ) → j < size → origin (before q) (PartEnd (suc j) h) ≡ place 1 (PartEnd j h)
  part_before j h l =
      let first : nat_lt (suc j) 1 ≡ false = grind (arith, nat_tests) in
      let less : suc j - 1 ≡ j = omega arith in
      let small : nat_lt j size ≡ true = grind (arith, nat_tests, l) in
      rw (first, less, small) refl

  part_after : (j h : ℕ) → j < size → origin (after q) (PartEnd j h) ≡ place 0 (PartEnd j h)
  part_after j h l = let small : nat_lt j size ≡ true = grind (arith, nat_tests, l) in rw small refl

  skip_after : (h : ℕ) → origin (after q) (PartEnd size h) ≡ place 1 (PartEnd 0 h)
  skip_after h =
      let big : nat_lt size size ≡ false = grind (arith, nat_tests) in
      let none : size - size ≡ 0 = omega arith in
      rw (big, none) refl

  abbrev HasSpot : End → Type 0
  HasSpot e = (c : Contact) → contact_at renewed e ≡ Some c → Spot q (origin (before q) (moved (back size) e)) (origin (after q) e)

  spot : (e : End) → HasSpot e
  spot (PartEnd j h) k has = by_place (λ i. HasSpot (PartEnd i h)) size j below at_size above k has
    where
      below : j < size → HasSpot (PartEnd j h)
      below l c there =
          spot_at q (origin (before q) (PartEnd (back size j) h)) (origin (after q) (PartEnd j h)) (place 1 (PartEnd j h)) (place 0 (PartEnd j h))
          (ap (λ i. origin (before q) (PartEnd i h)) (back_below size j l) ∙ part_before j h l) (part_after j h l) (part_spot q j h)

      at_size : j ≡ size → HasSpot (PartEnd j h)
      at_size e c there =
          spot_at q (origin (before q) (PartEnd (back size j) h)) (origin (after q) (PartEnd j h)) (place 0 (PartEnd 0 h)) (place 1 (PartEnd 0 h))
          (ap (λ i. origin (before q) (PartEnd (back size i) h)) e ∙ ap (λ i. origin (before q) (PartEnd i h)) (back_at size))
          (ap (λ i. origin (after q) (PartEnd i h)) e ∙ skip_after h) (skip_spot q h)

      above : size < j → HasSpot (PartEnd j h)
      above l c there =
          let none : slice_get (q.parts ++ (Skip ∷ [])) j ≡ None =
          slice_get_past (q.parts ++ (Skip ∷ [])) j (omega (arith, l, length-append q.parts (Skip ∷ []))) in
          absurd (none-some c (sym (ap (λ (k : Option Part). slice_get (contacts_of_part k) h) none) ∙ there))
  spot (ImportEnd j h) c there = by_import (slice_get r.imports j) refl
    where
      by_import : (o : Option Imported) → slice_get r.imports j ≡ o
          → Spot q (origin (before q) (ImportEnd j h)) (origin (after q) (ImportEnd j h))
      by_import None e = absurd (none-some c (sym (ap (λ (k : Option Imported). slice_get (contacts_of_import k) h) e) ∙ there))
      by_import (Some x) e =
          let is : slice_get q.imports j ≡ Some x = ap (λ (is : List Imported). slice_get is j) (sym imports_same) ∙ e in
          spot_at q (origin (before q) (ImportEnd j h)) (origin (after q) (ImportEnd j h)) (place 1 (ImportEnd (0 + j) h)) (place 0 (ImportEnd (0 + j) h))
          (ap (λ ls. left_place (slice_get ls j) h) (left_before q) ∙ ap (λ o. left_place o h) (left_at 1 0 q.imports j x is))
          (ap (λ ls. left_place (slice_get ls j) h) (left_after q) ∙ ap (λ o. left_place o h) (left_at 0 0 q.imports j x is))
          (import_spot q (0 + j) h)
  spot (ResultEnd zero) c there = result_spot q
  spot (ResultEnd (suc h)) c there = absurd (none-some c there)

  paths_back : (n : ℕ) (a b : End) (c d : Contact) → contact_at renewed a ≡ Some c → contact_at renewed b ≡ Some d
      → Path (after q) n (origin (after q) a) (origin (after q) b)
      → Reach (before q) (origin (before q) (moved (back size) a)) (origin (before q) (moved (back size) b))
  paths_back n a b c d one other path =
      let s = spot a c one in
      let t = spot b d other in
      let w = before q in
      let x = origin w (moved (back size) a) in
      let y = origin w (moved (back size) b) in
      let u = homeward q (origin (after q) a) in
      let v = homeward q (origin (after q) b) in
      let (k, out) = s.out in
      follow w k x u y out (follow w n u v y (path_here q n (origin (after q) a) (origin (after q) b) path) t.home)

  paths_forth : (n : ℕ) (a b : End) (c d : Contact) → contact_at renewed a ≡ Some c → contact_at renewed b ≡ Some d
      → Path (before q) n (origin (before q) (moved (back size) a)) (origin (before q) (moved (back size) b))
      → Reach (after q) (origin (after q) a) (origin (after q) b)
  paths_forth n a b c d one other path =
      let s = spot a c one in
      let t = spot b d other in
      subst (λ x. Reach (after q) x (origin (after q) b)) s.to
      (subst (λ y. Reach (after q) (across q (origin (before q) (moved (back size) a))) y) t.to
      (path_there q n (origin (before q) (moved (back size) a)) (origin (before q) (moved (back size) b)) path))

  result : (h : ℕ) (c : Contact) → slice_get (contacts_of Com) h ≡ Some c → slice_get (contacts_of q.outcome) (1 + h) ≡ Some c
  result zero c there = ap (λ (t : Type'). slice_get (contacts_of t) 1) outcome ∙ there
  result (suc h) c there = absurd (none-some c there)

  fits : (a b : End) (c d : Contact) (n : ℕ) → contact_at renewed a ≡ Some c → contact_at renewed b ≡ Some d → a ≢ b
      → Path (after q) n (origin (after q) a) (origin (after q) b) → d ≡ turned_contact c
  fits a b c d n one other apart path =
      let (m, back_path) = paths_back n a b c d one other path in
      join.fits (moved (back size) a) (moved (back size) b) c d m (contact_back a ∙ one) (contact_back b ∙ other)
      (λ e. apart (sym (around a) ∙ (ap (moved (forth size)) e ∙ around b))) back_path

  abbrev joint_of : End → End → Joint
  joint_of a b = record { asking = a; serving = b }

  to : (a b : End) → Contains renewed.joints (joint_of a b) → Connects (after q) renewed a b
  to a b has =
      let in_r = subst (λ js. Contains js (joint_of (moved (back size) a) (moved (back size) b))) (joint_twice (forth size) (back size) (returns size) r.joints)
      (map_contains (moved_joint (back size)) renewed.joints (joint_of a b) has) in
      let (x, v, n, asked, served, path) = (join.joints (moved (back size) a) (moved (back size) b)).0 in_r in
      let one = sym (contact_back a) ∙ asked in
      let other = sym (contact_back b) ∙ served in
      let (m, there) = paths_forth n a b (asks x v) (serves x v) one other path in
      (x, v, m, one, other, there)

  from : (a b : End) → Connects (after q) renewed a b → Contains renewed.joints (joint_of a b)
  from a b (x, v, n, asked, served, path) =
      let (m, home) = paths_back n a b (asks x v) (serves x v) asked served path in
      let in_r = (join.joints (moved (back size) a) (moved (back size) b)).1 (x, v, m, contact_back a ∙ asked, contact_back b ∙ served, home) in
      subst (λ (j : Joint). Contains renewed.joints j) (λ i. record { asking = around a i; serving = around b i })
      (map_contains (moved_joint (forth size)) r.joints (joint_of (moved (back size) a) (moved (back size) b)) in_r)

  joining : IsJoining (after q) renewed
  joining =
      record {
        parts = refl;
        imports = imports_same ∙ sym (ap (map (λ l. l.import)) (left_after q) ∙ imports_left 0 0 q.imports);
        outcome = refl;
        weight = refl;
        right =
            right_moved r renewed (moved (forth size)) join.right (λ e d k x one other. same_end_moved (forth size) (back size) (returns size) e d)
            (λ e k at. contact_forth e ∙ at);
        result = result;
        fits = fits;
        joints = λ a b. (to a b, from a b);
      }

  abbrev the_link : Link
  the_link = link 0 (ResultEnd 0) 1 (ResultEnd 0)

  link_fits : LinkFits (after q) the_link
  link_fits = (λ e. omega (arith, e), (serves 0 0, asks 0 0, ap (λ (t : Type'). turned_if (slice_get (contacts_of t) 0)) outcome, refl, refl))

  links_fit : LinksFit (after q)
  links_fit = record { right = all_right; each = each; once = once; left = left }
    where
      all_right : (k : ℕ) (p : Plan) → slice_get (after q).plans k ≡ Some p → IsRight p
      all_right zero p is = let same : q ≡ p = cc is in subst IsRight same right
      all_right (suc zero) p is = let same : skip_plan ≡ p = cc is in subst IsRight same skip_is_realised.suits.right
      all_right (suc (suc k)) p is = absurd (cc is)

      each : (k : ℕ) (l : Link) → slice_get (after q).links k ≡ Some l → LinkFits (after q) l
      each zero l is = let same : the_link ≡ l = cc is in subst (LinkFits (after q)) same link_fits
      each (suc k) l is = absurd (cc is)

      once : (j k : ℕ) (l m : Link) (a : Place) → slice_get (after q).links j ≡ Some l → slice_get (after q).links k ≡ Some m
          → StandsIn a l → StandsIn a m → j ≡ k
      once zero zero l m a one other here there = refl
      once zero (suc k) l m a one other here there = absurd (cc other)
      once (suc j) k l m a one other here there = absurd (cc one)

      apart : (h : ℕ) → StandsIn (place 0 (ResultEnd (1 + h))) the_link → ⊥
      apart h (inl e) = let same : ResultEnd (1 + h) ≡ ResultEnd 0 = ap (λ x. x.end) e in let no : 1 + h ≡ 0 = cc same in omega (arith, no)
      apart h (inr e) = let no : 0 ≡ 1 = ap (λ x. x.plan) e in omega (arith, no)

      left : (h : ℕ) (c : Contact) → slice_get (contacts_of Com) h ≡ Some c
          → (slice_get (contacts_of q.outcome) (1 + h) ≡ Some c)
          × ((k : ℕ) (l : Link) → slice_get (after q).links k ≡ Some l → StandsIn (place 0 (ResultEnd (1 + h))) l → ⊥)
      left h c there = (result h c there, none)
        where
          none : (k : ℕ) (l : Link) → slice_get (after q).links k ≡ Some l → StandsIn (place 0 (ResultEnd (1 + h))) l → ⊥
          none zero l is stands = let same : the_link ≡ l = cc is in apart h (subst (StandsIn (place 0 (ResultEnd (1 + h)))) (sym same) stands)
          none (suc k) l is stands = absurd (cc is)

  pub joined_to_skip : IsJoined (after q) renewed
  joined_to_skip = record { fits = links_fit; joining = joining }

pub use_is_realised : UseIsRealised
use_is_realised [] r supplied join names = absurd supplied
use_is_realised (s ∷ t ∷ ss) r supplied join names = absurd supplied.1
use_is_realised (s ∷ []) r supplied join names =
    let q = s.plan in
    let suits = supplied.0.suits in
    let joined = join.joining in
    let both =
    supplied.0.means skip_plan (renewed q r suits.outcome suits.right joined) terms.Skip (λ i j has none. absurd (none_in_empty j none))
    skip_is_realised.suits skip_is_realised.means (joined_to_skip q r suits.outcome suits.right joined) in
    let same = renumbered q r suits.outcome suits.right joined in
    let keeps = renumbering_keeps (forth (length q.parts)) (back (length q.parts)) r (renewed q r suits.outcome suits.right joined) same in
    record {
      suits =
          record {
            right = joined.right;
            literals = literals_among (forth (length q.parts)) r.parts (renewed q r suits.outcome suits.right joined).parts (λ i k at. same.parts i ∙ at) both.0.literals;
            outcome = joined.outcome;
            all_ports = both.0.all_ports;
            names = both.0.names;
            typed = both.0.typed;
            regular = keeps.0 both.0.regular;
          };
      means = keeps.1 (App s.term terms.Skip) both.1;
    }
