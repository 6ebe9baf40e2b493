-- A joint of what stands for a number inside splits is a way of the node's web.
use Rattle.std.specs.Prelude.{◌≢◌, ◌+◌, ◌*◌, ◌<◌, ◌≤◌, length, nat_eq, slice_get, Contains}
use Rattle.std.proofs.Common.{◌≡◌, ℕ, zero, suc, Bool, true, false, List, [], ◌∷◌, ◌++◌, Option, Some, inl, inr, refl, sym, ◌∙◌, ap, subst, arith, if◌then◌else◌}
use Rattle.std.proofs.lemmas.Option.{slice_get_within}
use Rattle.std.proofs.lemmas.List.Elements.{Contains-append_left, Contains-append_right}
use Rattle.std.proofs.lemmas.Bool.{eq-eqb, ne_eqb}
use Rattle.gos_types.specs.declared.shakes.Role.{Role}
use Rattle.gos_types.specs.declared.shakes.Role.TheVariants.{Serve, Ask}
use Rattle.gos_types.specs.Types.{Type'}
use Rattle.gos_model.proofs.NumberLemmas.{number_cases}
use Rattle.gos_check.specs.declared.linear.Split.{Split}
use Rattle.gos_check.specs.Linearity.{times, sides}
use Rattle.gos_plan.specs.Kinds.{Contact, asks, serves, contacts_of}
use Rattle.gos_plan.specs.Plans.{End, PartEnd, ImportEnd, ResultEnd, Joint, Plan, contact_at, IsRight}
use Rattle.gos_plan.proofs.JointLemmas.{fits, contained}
use Rattle.gos_plan.proofs.ContactLemmas.{part_is_there}
use Rattle.gos_realises.specs.realises.Regular.{count}
use Rattle.gos_realises.specs.realises.Modules.{Supply}
use Rattle.gos_ties.specs.declared.points.Place.{Place}
use Rattle.gos_ties.specs.declared.points.Place.TheVariants as places
use Rattle.gos_ties.specs.declared.points.Tie as point_ties
use Rattle.gos_ties.specs.Ties as ties
use Rattle.gos_ties.specs.Ties.{point}
use Rattle.gos_joining.specs.webs.Webs.{Dot, Of, Number, Within, Tie, tie, Way, here, along, own_web, joint}
use Rattle.gos_joining.proofs.webs.WayLemmas.{way_then, way_back}
use Rattle.gos_joining.specs.unions.Unions.{within}
use Rattle.gos_joining.proofs.unions.UnionLemmas.{in_image}
use Rattle.gos_compile.specs.Wiring.{Types, row, led, share_ties, shares_ties}
use Rattle.gos_sharing.specs.sharing.Sharing.{caller_end}
use Rattle.gos_sharing.specs.buffers.Buffering.{end_behind}
use Rattle.gos_sharing.specs.behind.Behind.{outer_joint}
use Rattle.gos_terms.specs.wired.Wired.{Supplies, Own, source_dot, dot_of, dot_ties, result_ties, supply_ties, all_supply_ties}
use Rattle.gos_terms.specs.wired.NodeFitting.{AreOfTypes}
use Rattle.gos_terms.specs.stages.Inside.{numbers_inside, AreSplit, SidesAgree}
use Rattle.gos_terms.specs.stages.Lodging.{Lodging, live, first_lodging, side_number, one_lodging, lodging, lies, JointsAreWays}
use Rattle.gos_terms.proofs.stages.InsideLemmas.{lies_there, of_cons, one_stays, one_inside}
use Rattle.gos_terms.proofs.stages.HomeLemmas.{no_side}
use Rattle.gos_terms.proofs.stages.StepLemmas.{side_is, side_env}
use Rattle.gos_terms.proofs.stages.LodgingLemmas.{IsTidy, tidy_on, tidy_first, lifted, seen}
use Rattle.gos_terms.proofs.leaves.TieLemmas.{result_is_there}

-- a handshake that there is is of a part that there is, or of the result
pub known_there : (p : Plan) (k h : ℕ) (d : Contact) → contact_at p (PartEnd k h) ≡ Some d → k ≢ length p.parts
known_there p k h d at e =
    let (x, there) = part_is_there (slice_get p.parts k) h d at in
    let lt = slice_get_within p.parts k x there in
    let same : k ≡ length p.parts = e in omega (arith, lt, same)

-- ways
pub way_by_tie : (ts : List Tie) (a b : Dot) → Contains ts (tie a b) → Way ts a b
way_by_tie ts a b has = along a b b (inl has) (here b)

-- a point of a row that is led to a part
pub in_led : (place : Place) (q b n g j : ℕ) → j < n → Contains (led (row place b n) (places.Part q) g) (ties.tie (point place (b + j)) (point (places.Part q) (g + j)))
in_led place q b zero g j lt = absurd (omega (arith, lt))
in_led place q b (suc n) g zero lt =
    let one : b ≡ b + 0 = omega arith in
    let other : g ≡ g + 0 = omega arith in
    (0, omega arith, λ i. ties.tie (point place (one i)) (point (places.Part q) (other i)))
in_led place q b (suc n) g (suc j) lt =
    let (k, low, is) = in_led place q (suc b) n (suc g) j (omega (arith, lt)) in
    let one : suc b + j ≡ b + suc j = omega arith in
    let other : suc g + j ≡ g + suc j = omega arith in
    subst (λ (m : ℕ). Contains (led (row place b (suc n)) (places.Part q) g) (ties.tie (point place m) (point (places.Part q) (g + suc j)))) one
    (subst (λ (m : ℕ). Contains (led (row place b (suc n)) (places.Part q) g) (ties.tie (point place (suc b + j)) (point (places.Part q) m))) other
    (suc k, omega (arith, low), is))

abbrev Lifts : Types → ℕ → List Split → List Tie → Type 0
Lifts types q ss ts = (u : point_ties.Tie) → Contains (shares_ties q ss types) u → Contains ts (lifted u)

-- what is known of the numbers so far
abbrev AreWays : ℕ → Lodging → List ℕ → List Tie → Type 0
AreWays i l ns ts = (n : ℕ) (j : Joint) → Contains ns n → Contains (l.env n).plan.joints j → Way ts (lies i l n j.asking) (lies i l n j.serving)

-- one split more
module _ (types : Types) (i q x : ℕ) (at_q : q ≡ i + x) (s : Split) (ss : List Split) (once : (k : ℕ) → times k (sides (s ∷ ss)) ≤ 1) (l : Lodging) (a : Option ℕ) (ns : List ℕ)
    (of : Contains ns s.of) (are : AreOfTypes types l.env ns) (ts : List Tie) (shared : Lifts types q (s ∷ ss) ts) (ways : AreWays i l ns ts) where
  abbrev size : ℕ
  size = count (types s.of)

  abbrev plan : Plan
  plan = (l.env s.of).plan

  abbrev next : Lodging
  next = one_lodging types q x s a l

  right : IsRight plan
  right = (are s.of of).0

  outcome : plan.outcome ≡ types s.of
  outcome = (are s.of of).1

  own_tie : (u : point_ties.Tie) → Contains (share_ties q size s) u → Contains ts (lifted u)
  own_tie u has = shared u (Contains-append_left (share_ties q size s) (shares_ties (suc q) ss types) u has)

  abbrev ShareDot : ℕ → Dot
  ShareDot h = Within 0 (Of (PartEnd (i + x) h))

  to_own : (h : ℕ) → Within 0 (Of (PartEnd q h)) ≡ ShareDot h
  to_own h = ap (λ (r : ℕ). Within 0 (Of (PartEnd r h))) at_q

  source_way : (h : ℕ) → h < size → Way ts (Within 0 (Number s.of h)) (ShareDot h)
  source_way h lt =
      subst (Way ts (Within 0 (Number s.of h))) (to_own h)
      (way_by_tie ts (Within 0 (Number s.of h)) (Within 0 (Of (PartEnd q h)))
      (subst (λ (r : ℕ). Contains ts (tie (Within 0 (Number s.of r)) (Within 0 (Of (PartEnd q r))))) zero_on
      (own_tie (ties.tie (point (places.Number s.of) (0 + h)) (point (places.Part q) (0 + h)))
      (Contains-append_left (led (row (places.Number s.of) 0 size) (places.Part q) 0)
      (led (row (places.Number s.left) 0 size) (places.Part q) size ++ led (row (places.Number s.right) 0 size) (places.Part q) (size + size))
      (ties.tie (point (places.Number s.of) (0 + h)) (point (places.Part q) (0 + h))) (in_led (places.Number s.of) q 0 size 0 h lt)))))
    where
      zero_on : 0 + h ≡ h
      zero_on = omega arith

  caller_way : (c h : ℕ) → c < 2 → h < size → Way ts (Within 0 (Number (side_number s c) h)) (ShareDot (size + c * size + h))
  caller_way zero h two lt =
      let at : size + h ≡ size + 0 * size + h = omega arith in
      let from : 0 + h ≡ h = omega arith in
      subst (Way ts (Within 0 (Number s.left h))) (to_own (size + 0 * size + h))
      (way_by_tie ts (Within 0 (Number s.left h)) (Within 0 (Of (PartEnd q (size + 0 * size + h))))
      (subst (λ (r : ℕ). Contains ts (tie (Within 0 (Number s.left h)) (Within 0 (Of (PartEnd q r))))) at
      (subst (λ (r : ℕ). Contains ts (tie (Within 0 (Number s.left r)) (Within 0 (Of (PartEnd q (size + h)))))) from
      (own_tie (ties.tie (point (places.Number s.left) (0 + h)) (point (places.Part q) (size + h)))
      (Contains-append_right (led (row (places.Number s.of) 0 size) (places.Part q) 0)
      (led (row (places.Number s.left) 0 size) (places.Part q) size ++ led (row (places.Number s.right) 0 size) (places.Part q) (size + size))
      (ties.tie (point (places.Number s.left) (0 + h)) (point (places.Part q) (size + h)))
      (Contains-append_left (led (row (places.Number s.left) 0 size) (places.Part q) size) (led (row (places.Number s.right) 0 size) (places.Part q) (size + size))
      (ties.tie (point (places.Number s.left) (0 + h)) (point (places.Part q) (size + h))) (in_led (places.Number s.left) q 0 size size h lt)))))))
  caller_way (suc zero) h two lt =
      let at : size + size + h ≡ size + 1 * size + h = omega arith in
      let from : 0 + h ≡ h = omega arith in
      subst (Way ts (Within 0 (Number s.right h))) (to_own (size + 1 * size + h))
      (way_by_tie ts (Within 0 (Number s.right h)) (Within 0 (Of (PartEnd q (size + 1 * size + h))))
      (subst (λ (r : ℕ). Contains ts (tie (Within 0 (Number s.right h)) (Within 0 (Of (PartEnd q r))))) at
      (subst (λ (r : ℕ). Contains ts (tie (Within 0 (Number s.right r)) (Within 0 (Of (PartEnd q (size + size + h)))))) from
      (own_tie (ties.tie (point (places.Number s.right) (0 + h)) (point (places.Part q) (size + size + h)))
      (Contains-append_right (led (row (places.Number s.of) 0 size) (places.Part q) 0)
      (led (row (places.Number s.left) 0 size) (places.Part q) size ++ led (row (places.Number s.right) 0 size) (places.Part q) (size + size))
      (ties.tie (point (places.Number s.right) (0 + h)) (point (places.Part q) (size + size + h)))
      (Contains-append_right (led (row (places.Number s.left) 0 size) (places.Part q) size) (led (row (places.Number s.right) 0 size) (places.Part q) (size + size))
      (ties.tie (point (places.Number s.right) (0 + h)) (point (places.Part q) (size + size + h))) (in_led (places.Number s.right) q 0 size (size + size) h lt)))))))
  caller_way (suc (suc c)) h two lt = absurd (omega (arith, two))

  -- a side
  module _ (c : ℕ) (two : c < 2) where
    abbrev n : ℕ
    n = side_number s c

    at_part : (k h : ℕ) (b : Bool) → nat_eq k (length plan.parts) ≡ b → lies i next n (PartEnd k h) ≡ source_dot i (if b then Own x else l.part s.of k) h
    at_part k h b e =
        ap (λ (t : Bool). source_dot i (if t then if nat_eq k (length plan.parts) then Own x else l.part s.of k else l.part n k) h) (side_is types s ss once c)
        ∙ ap (λ (t : Bool). source_dot i (if t then Own x else l.part s.of k) h) e

    at_share : (h : ℕ) → lies i next n (PartEnd (length plan.parts) h) ≡ ShareDot h
    at_share h = at_part (length plan.parts) h true (eq-eqb (length plan.parts) (length plan.parts) refl)

    -- an end of the plan, and the same end behind the Share
    connects : (e : End) (k : Contact) → contact_at plan e ≡ Some k → Way ts (lies i l s.of e) (lies i next n (end_behind (length plan.parts) e))
    connects (PartEnd k h) d there =
        let apart : k ≢ length plan.parts = λ e. known_there plan k h d there e in
        subst (Way ts (source_dot i (l.part s.of k) h)) (sym (at_part k h false (ne_eqb k (length plan.parts) apart))) (here (source_dot i (l.part s.of k) h))
    connects (ImportEnd k h) d there =
        subst (λ (r : ℕ). Way ts (Within (suc (l.root s.of)) (Of (ImportEnd k h))) (Within (suc r) (Of (ImportEnd k h))))
        (sym (ap (λ (t : Bool). if t then l.root s.of else l.root n) (side_is types s ss once c))) (here (Within (suc (l.root s.of)) (Of (ImportEnd k h))))
    connects (ResultEnd h) d there =
        let lt : h < count plan.outcome = result_is_there plan h d there in
        subst (Way ts (Within 0 (Number s.of h))) (sym (at_share h)) (source_way h (subst (λ (t : Type'). h < count t) outcome lt))

    behind_way : (j : Joint) → Contains plan.joints j
        → Way ts (lies i next n (end_behind (length plan.parts) j.asking)) (lies i next n (end_behind (length plan.parts) j.serving))
    behind_way j has =
        let fit = fits plan [] plan.joints j right (contained plan.joints j has) in
        let one = lies i l s.of j.asking in
        let other = lies i l s.of j.serving in
        way_then ts (lies i next n (end_behind (length plan.parts) j.asking)) (lies i l s.of j.asking) (lies i next n (end_behind (length plan.parts) j.serving))
        (way_back ts (lies i l s.of j.asking) (lies i next n (end_behind (length plan.parts) j.asking)) (connects j.asking (asks fit.0 fit.1) fit.2))
        (way_then ts (lies i l s.of j.asking) (lies i l s.of j.serving) (lies i next n (end_behind (length plan.parts) j.serving))
        (ways s.of j of has) (connects j.serving (serves fit.0 fit.1) fit.3))

    callers_way : (h : ℕ) → h < size → Way ts (lies i next n (ResultEnd h)) (lies i next n (caller_end (length plan.parts) (types s.of) c h))
    callers_way h lt =
        subst (Way ts (Within 0 (Number n h))) (sym (at_share (size + c * size + h))) (caller_way c h two lt)

    outer_way : (h : ℕ) → h < size → (r : Role) → Way ts (lies i next n (outer_joint (length plan.parts) (types s.of) c h r).asking) (lies i next n (outer_joint (length plan.parts) (types s.of) c h r).serving)
    outer_way h lt Serve = callers_way h lt
    outer_way h lt Ask = way_back ts (lies i next n (ResultEnd h)) (lies i next n (caller_end (length plan.parts) (types s.of) c h)) (callers_way h lt)

    pub side_ways : (j : Joint) → Contains (next.env (side_number s c)).plan.joints j → Way ts (lies i next (side_number s c) j.asking) (lies i next (side_number s c) j.serving)
    side_ways j has =
        elim (((lies_there (types s.of) c plan two (are s.of of)).joints j.asking j.serving).0
        (subst (λ (e : Supply). Contains e.plan.joints j) (side_env types s ss once l.env c two) has)) [
          | inl (d, e, there, at_d, at_e) ↦
              subst (λ (b : End). Way ts (lies i next n j.asking) (lies i next n b)) (sym at_e)
              (subst (λ (a : End). Way ts (lies i next n a) (lies i next n (end_behind (length plan.parts) e))) (sym at_d) (behind_way (joint d e) there))
          | inr (h, k, at, same) ↦
              subst (λ (x : Joint). Way ts (lies i next n x.asking) (lies i next n x.serving)) (sym same)
              (outer_way h (slice_get_within (contacts_of (types s.of)) h k at) k.role)
        ]

  -- another number
  other_lies : (n : ℕ) → n ≢ s.left → n ≢ s.right → (e : End) → lies i next n e ≡ lies i l n e
  other_lies n first second (PartEnd k h) =
      ap (λ (t : Bool). source_dot i (if t then if nat_eq k (length plan.parts) then Own x else l.part s.of k else l.part n k) h) (no_side s n first second)
  other_lies n first second (ImportEnd k h) =
      ap (λ (t : Bool). Within (suc (if t then l.root s.of else l.root n)) (Of (ImportEnd k h))) (no_side s n first second)
  other_lies n first second (ResultEnd h) = refl

  pub ways_on : AreWays i next (s.left ∷ s.right ∷ ns) ts
  ways_on n j there has =
      number_cases n s.left
      (λ e t. subst (λ (m : ℕ). Way ts (lies i next m j.asking) (lies i next m j.serving)) (sym e)
      (side_ways 0 (omega arith) j (subst (λ (m : ℕ). Contains (next.env m).plan.joints j) e has)))
      (λ first t. number_cases n s.right
      (λ e t. subst (λ (m : ℕ). Way ts (lies i next m j.asking) (lies i next m j.serving)) (sym e)
      (side_ways 1 (omega arith) j (subst (λ (m : ℕ). Contains (next.env m).plan.joints j) e has)))
      (λ second t. elsewhere first second))
    where
      listed : n ≢ s.left → n ≢ s.right → Contains ns n
      listed first second =
          elim (of_cons s.left (s.right ∷ ns) n there) [
            | inl e ↦ absurd (first (sym e))
            | inr more ↦ elim (of_cons s.right ns n more) [ inl e ↦ absurd (second (sym e)) | inr own ↦ own ]
          ]

      elsewhere : n ≢ s.left → n ≢ s.right → Way ts (lies i next n j.asking) (lies i next n j.serving)
      elsewhere first second =
          subst (λ (d : Dot). Way ts d (lies i next n j.serving)) (sym (other_lies n first second j.asking))
          (subst (Way ts (lies i l n j.asking)) (sym (other_lies n first second j.serving))
          (ways n j (listed first second) (subst (λ (e : Supply). Contains e.plan.joints j) (one_stays types s l.env n first second) has)))

-- all splits
module _ (types : Types) (i : ℕ) (inner : ℕ → Bool) (ts : List Tie) where
  final_ways : (ss : List Split) (q x : ℕ) → q ≡ i + x → (l : Lodging) (gone ns : List ℕ) → IsTidy inner ss gone → SidesAgree ss types → AreSplit ss ns
      → AreOfTypes types l.env ns → Lifts types q ss ts → AreWays i l ns ts → AreWays i (lodging types q x inner ss l) (numbers_inside ss ns) ts
  final_ways [] q x at_q l gone ns tidy agree split are shared ways = ways
  final_ways (s ∷ ss) q x at_q l gone ns tidy (left, right, agree) (of, split) are shared ways =
      final_ways ss (suc q) (suc x) (omega (arith, at_q)) (one_lodging types q x s (seen types inner ss s) l) (s.of ∷ gone) (s.left ∷ s.right ∷ ns)
      (tidy_on inner s ss gone tidy) agree split (one_inside types s l.env ns left right of are)
      (λ u has. shared u (Contains-append_right (share_ties q (count (types s.of)) s) (shares_ties (suc q) ss types) u has))
      (ways_on types i q x at_q s ss tidy.once l (seen types inner ss s) ns of are ts shared ways)

  abbrev joint_tie : Joint → Tie
  joint_tie j = tie (Of j.asking) (Of j.serving)

  module _ (ss : List Split) (env : Supplies) (ns : List ℕ) (are : AreOfTypes types env ns) (has : (t : Tie) → Contains (all_supply_ties types env ns) t → Contains ts t) where
    abbrev first : Lodging
    first = first_lodging (live ss inner) env

    of_number : (ms : List ℕ) (n : ℕ) (t : Tie) → Contains ms n → Contains (supply_ties types env n) t → Contains (all_supply_ties types env ms) t
    of_number [] n t (k, lt, e) own = absurd (omega (arith, lt))
    of_number (m ∷ ms) n t (zero, lt, e) own =
        Contains-append_left (supply_ties types env m) (all_supply_ties types env ms) t (subst (λ (r : ℕ). Contains (supply_ties types env r) t) (sym e) own)
    of_number (m ∷ ms) n t (suc k, lt, e) own =
        Contains-append_right (supply_ties types env m) (all_supply_ties types env ms) t (of_number ms n t (k, omega (arith, lt), e) own)

    in_results : (n g m h : ℕ) → h < m → Contains (result_ties n g m) (tie (Within 0 (Number n (g + h))) (Within (suc n) (Of (ResultEnd (g + h)))))
    in_results n g zero h lt = absurd (omega (arith, lt))
    in_results n g (suc m) zero lt =
        let same : g ≡ g + 0 = omega arith in (0, omega arith, ap (λ (r : ℕ). tie (Within 0 (Number n r)) (Within (suc n) (Of (ResultEnd r)))) same)
    in_results n g (suc m) (suc h) lt =
        let (k, low, is) = in_results n (suc g) m h (omega (arith, lt)) in
        let same : suc g + h ≡ g + suc h = omega arith in
        subst (λ (r : ℕ). Contains (result_ties n g (suc m)) (tie (Within 0 (Number n r)) (Within (suc n) (Of (ResultEnd r))))) same
        (suc k, omega (arith, low), is)

    result_way : (n h : ℕ) → Contains ns n → h < count (types n) → Way ts (Within 0 (Number n h)) (Within (suc n) (Of (ResultEnd h)))
    result_way n h there lt =
        let same : 0 + h ≡ h = omega arith in
        way_by_tie ts (Within 0 (Number n h)) (Within (suc n) (Of (ResultEnd h)))
        (has (tie (Within 0 (Number n h)) (Within (suc n) (Of (ResultEnd h))))
        (of_number ns n (tie (Within 0 (Number n h)) (Within (suc n) (Of (ResultEnd h)))) there
        (Contains-append_right (within (suc n) (own_web (env n).plan).ties) (result_ties n 0 (count (types n))) (tie (Within 0 (Number n h)) (Within (suc n) (Of (ResultEnd h))))
        (subst (λ (r : ℕ). Contains (result_ties n 0 (count (types n))) (tie (Within 0 (Number n r)) (Within (suc n) (Of (ResultEnd r))))) same
        (in_results n 0 (count (types n)) h lt)))))

    to_end : (n : ℕ) (e : End) (k : Contact) → Contains ns n → contact_at (env n).plan e ≡ Some k → Way ts (lies i first n e) (Within (suc n) (Of e))
    to_end n (PartEnd k h) d there known = here (Within (suc n) (Of (PartEnd k h)))
    to_end n (ImportEnd k h) d there known = here (Within (suc n) (Of (ImportEnd k h)))
    to_end n (ResultEnd h) d there known =
        let lt : h < count (env n).plan.outcome = result_is_there (env n).plan h d known in
        result_way n h there (subst (λ (t : Type'). h < count t) (are n there).1 lt)

    first_ways : AreWays i first ns ts
    first_ways n j there listed =
        let plan = (env n).plan in
        let right : IsRight (env n).plan = (are n there).0 in
        let fit = fits (env n).plan [] (env n).plan.joints j right (contained (env n).plan.joints j listed) in
        way_then ts (lies i first n j.asking) (Within (suc n) (Of j.asking)) (lies i first n j.serving) (to_end n j.asking (asks fit.0 fit.1) there fit.2)
        (way_then ts (Within (suc n) (Of j.asking)) (Within (suc n) (Of j.serving)) (lies i first n j.serving)
        (way_by_tie ts (Within (suc n) (Of j.asking)) (Within (suc n) (Of j.serving))
        (has (tie (Within (suc n) (Of j.asking)) (Within (suc n) (Of j.serving)))
        (of_number ns n (tie (Within (suc n) (Of j.asking)) (Within (suc n) (Of j.serving))) there
        (Contains-append_left (within (suc n) (own_web (env n).plan).ties) (result_ties n 0 (count (types n))) (tie (Within (suc n) (Of j.asking)) (Within (suc n) (Of j.serving)))
        (in_image (λ (v : Tie). tie (Within (suc n) v.one) (Within (suc n) v.other)) (own_web (env n).plan).ties (joint_tie j)
        (in_image joint_tie (env n).plan.joints j listed))))))
        (way_back ts (lies i first n j.serving) (Within (suc n) (Of j.serving)) (to_end n j.serving (serves fit.0 fit.1) there fit.3)))

pub joints_are_ways : JointsAreWays
joints_are_ways types i inner ss env ns ts n j tidy agree split are among there has =
    final_ways types i inner ts ss i 0 (omega arith) (first_lodging (live ss inner) env) [] ns (tidy_first inner ss ns tidy) agree split are
    (λ u listed. among (lifted u) (Contains-append_left (within 0 (dot_ties (shares_ties i ss types))) (all_supply_ties types env ns) (lifted u)
    (in_image (λ (v : Tie). tie (Within 0 v.one) (Within 0 v.other)) (dot_ties (shares_ties i ss types)) (tie (dot_of u.one) (dot_of u.other))
    (in_image (λ (u : point_ties.Tie). tie (dot_of u.one) (dot_of u.other)) (shares_ties i ss types) u listed))))
    (first_ways types i inner ts ss env ns are (λ t listed. among t (Contains-append_right (within 0 (dot_ties (shares_ties i ss types))) (all_supply_ties types env ns) t listed)))
    n j there has
