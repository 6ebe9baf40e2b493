-- The plan of a plan and its giver, with supplies, is one but for numbers with the plan that has the supplied giver as a supply.
use Rattle.std.specs.Prelude.{◌≡◌, ℕ, zero, suc, ◌+◌, List, [], ◌∷◌, ◌++◌, length, Some, slice_get}
use Rattle.std.proofs.Common.{refl, sym, ◌∙◌, ap, subst, arith, inl, inr}
use Rattle.std.proofs.lemmas.Option.{slice_get_within}
use Rattle.std.proofs.lemmas.List.{length-append}
use Rattle.gos_types.proofs.ListLemmas.{found_in_front, found_behind}
use Rattle.gos_model.specs.Typing.{Imported}
use Rattle.gos_plan.specs.Plans.{ResultEnd, Plan, IsRight}
use Rattle.gos_plan.specs.Joining.{Place, place, Link, Wiring, Linked}
use Rattle.gos_plan.proofs.WiringLemmas.{place_is}
use Rattle.gos_realises.specs.realises.Links.{IsJoined}
use Rattle.gos_realises.specs.realises.Modules.{Supply, plans_of, AreSupplied, supplying}
use Rattle.gos_realises.proofs.realises.FittingLemmas.{supply_is_right}
use Rattle.gos_joining.specs.webs.Renumbering.{IsRenumbered, moved_end}
use Rattle.gos_joining.specs.unions.Flat.{all_plans}
use Rattle.gos_joining.proofs.unions.FlatLemmas.{joinings_join}
use Rattle.gos_joining.proofs.unions.FlatFitLemmas.{InTwo, in_two, links_stand}
use Rattle.gos_joining.specs.renumbered.Rewired.{rewired, IsRewired}
use Rattle.gos_joining.specs.renumbered.SmallRewirings.{unchanged}
use Rattle.gos_joining.proofs.renumbered.RewireLemmas.{rewired_is_renumbered}
use Rattle.gos_joining.proofs.renumbered.HigherLemmas.{unchanged_end, unchanged_one, is_itself}
use Rattle.gos_supplies.proofs.applications.SeamLemmas.{singles, single_plans}
use Rattle.gos_supplies.proofs.applications.SingleLemmas.{alone_joins, singles_join, singles_stand}
use Rattle.gos_supplies.proofs.applications.TogetherLemmas.{plans_two, supplied_length, plans_length, supplied_two}
use Rattle.gos_supplies.specs.instances.Served.{serving, ServedIsSupplied}
use Rattle.gos_supplies.proofs.instances.NumberLemmas.{forth, undo, forth_first, forth_behind, forth_second, undo_first, undo_at, undo_second, undo_behind, forth_undo, undo_forth}
use Rattle.gos_supplies.proofs.instances.BoundLemmas.{served_imports}
use Rattle.gos_supplies.proofs.instances.RowLemmas.{row, plans_in, row_stand, row_join}
use Rattle.gos_supplies.proofs.instances.SeamLemmas.{Seam, Served, Before, Behind, Giver, together_link, apart_link, IsSeam, joint_first, together, together_seam, seam_together, own, apart, apart_seam, seam_apart}

module _ (is js : List Imported) (x : Imported) (p q s : Plan) (v : Supply) (fs bs ts : List Supply) (imports : p.imports ≡ is ++ (x ∷ js))
    (left : s.imports ≡ (is ++ js) ++ q.imports) (enough : length s.imports ≡ length ((fs ++ bs) ++ ts)) (first_size : length fs ≡ length is)
    (last_size : length bs ≡ length js) (own_size : length (plans_of ts) ≡ length q.imports) (right_p : IsRight p) (right_q : IsRight q)
    (rights : (n : ℕ) (u : Plan) → slice_get (plans_of ((fs ++ bs) ++ ts)) n ≡ Some u → IsRight u)
  where
    abbrev us : List Supply
    us = (fs ++ bs) ++ ts

    abbrev k : ℕ
    k = length is

    abbrev j : ℕ
    j = length js

    abbrev t : ℕ
    t = length (plans_of ts)

    abbrev joined : Wiring
    joined = together is js x p q imports s us left enough

    abbrev parted : Wiring
    parted = apart is js x p q imports v fs bs ts first_size last_size

    abbrev to : ℕ → ℕ
    to = forth k j t

    abbrev from : ℕ → ℕ
    from = undo k j t

    abbrev moves : Place → Place
    moves = rewired to (λ n. unchanged)

    abbrev moves_back : Place → Place
    moves_back = rewired from (λ n. unchanged)

    home : (c : Place) → moves_back (moves c) ≡ c
    home c = place_is (moves_back (moves c)) c (forth_undo k j t c.plan) (unchanged_end (moved_end unchanged c.end) ∙ unchanged_end c.end)

    moves_one : (c d : Place) → moves c ≡ moves d → c ≡ d
    moves_one c d e = sym (home c) ∙ (ap moves_back e ∙ home d)

    -- seams move
    seam_one : (e : Seam) → moves (together_link k j e).one ≡ (apart_link k t e).one
    seam_one (Served h) = refl
    seam_one (Before i h) = refl
    seam_one (Behind i h) = refl
    seam_one (Giver i h) = refl

    seam_other : (e : Seam) → IsSeam is js x p q imports e → moves (together_link k j e).other ≡ (apart_link k t e).other
    seam_other (Served h) seam = refl
    seam_other (Before i h) (z, at, small) = ap (λ (n : ℕ). place n (ResultEnd h)) (forth_first k j t i (slice_get_within is i z at))
    seam_other (Behind i h) (z, at, small) = ap (λ (n : ℕ). place n (ResultEnd h)) (forth_behind k j t i (slice_get_within js i z at))
    seam_other (Giver i h) (z, at, small) =
        let low = slice_get_within q.imports i z at in ap (λ (n : ℕ). place n (ResultEnd h)) (forth_second k j t i (omega (arith, low, own_size)))

    link_to : (c d : Place) → Linked joined c d → Linked parted (moves c) (moves d)
    link_to c d (l, has, ways) =
        let (e, seam, same) = together_seam is js x p q imports s us left enough l has in
        let one : moves l.one ≡ (apart_link k t e).one = ap (λ (m : Link). moves m.one) same ∙ seam_one e in
        let other : moves l.other ≡ (apart_link k t e).other = ap (λ (m : Link). moves m.other) same ∙ seam_other e seam in
        let among = seam_apart is js x p q imports v fs bs ts first_size last_size e seam in
        elim ways [
          | inl (a, b) ↦ (apart_link k t e, among, inl (ap moves a ∙ one, ap moves b ∙ other))
          | inr (a, b) ↦ (apart_link k t e, among, inr (ap moves a ∙ other, ap moves b ∙ one))
        ]

    link_from : (c d : Place) → Linked parted (moves c) (moves d) → Linked joined c d
    link_from c d (l, has, ways) =
        let (e, seam, same) = apart_seam is js x p q imports v fs bs ts first_size last_size l has in
        let first = (together_link k j e).one in
        let second = (together_link k j e).other in
        let one : l.one ≡ moves first = ap (λ (m : Link). m.one) same ∙ sym (seam_one e) in
        let other : l.other ≡ moves second = ap (λ (m : Link). m.other) same ∙ sym (seam_other e seam) in
        let among = seam_together is js x p q imports s us left enough e seam in
        elim ways [
          | inl (a, b) ↦ (together_link k j e, among, inl (moves_one c first (a ∙ one), moves_one d second (b ∙ other)))
          | inr (a, b) ↦ (together_link k j e, among, inr (moves_one c second (a ∙ other), moves_one d first (b ∙ one)))
        ]

    -- plans
    fs_plans : length (plans_of fs) ≡ k
    fs_plans = plans_length fs ∙ first_size

    bs_plans : length (plans_of bs) ≡ j
    bs_plans = plans_length bs ∙ last_size

    us_plans : all_plans (singles us) ≡ (plans_of fs ++ plans_of bs) ++ plans_of ts
    us_plans = single_plans us ∙ (plans_two (fs ++ bs) ts ∙ ap (λ (ps : List Plan). ps ++ plans_of ts) (plans_two fs bs))

    abbrev rest : List Plan
    rest = (q ∷ plans_of ts) ++ plans_of bs

    row_is : all_plans (row fs bs (supplying q ts)) ≡ plans_of fs ++ rest
    row_is = plans_in fs bs (supplying q ts)

    in_row : (i : ℕ) (u : Plan) → slice_get (plans_of fs ++ rest) i ≡ Some u → slice_get parted.plans (suc i) ≡ Some u
    in_row i u at = ap (λ (ps : List Plan). slice_get ps i) row_is ∙ at

    before_there : (i : ℕ) (u : Plan) → slice_get (plans_of fs) i ≡ Some u → slice_get parted.plans (to (suc (suc i))) ≡ Some u
    before_there i u at =
        let low = slice_get_within (plans_of fs) i u at in
        ap (slice_get parted.plans) (forth_first k j t i (omega (arith, low, fs_plans))) ∙ in_row i u (found_in_front (plans_of fs) rest i u at)

    behind_there : (i n : ℕ) (u : Plan) → i ≡ length (plans_of fs) + n → slice_get (plans_of bs) n ≡ Some u
        → slice_get parted.plans (to (suc (suc i))) ≡ Some u
    behind_there i n u sum at =
        let low = slice_get_within (plans_of bs) n u at in
        let number : suc (suc i) ≡ suc (suc (k + n)) = omega (arith, sum, fs_plans) in
        let place_there : suc (suc (k + t + n)) ≡ suc (length (plans_of fs) + (suc t + n)) = omega (arith, fs_plans) in
        ap (λ (m : ℕ). slice_get parted.plans (to m)) number
        ∙ (ap (slice_get parted.plans) (forth_behind k j t n (omega (arith, low, bs_plans)) ∙ place_there)
        ∙ in_row (length (plans_of fs) + (suc t + n)) u (found_behind (plans_of fs) rest (suc t + n) ∙ (found_behind (q ∷ plans_of ts) (plans_of bs) n ∙ at)))

    giver_there : (i n : ℕ) (u : Plan) → i ≡ length (plans_of fs ++ plans_of bs) + n → slice_get (plans_of ts) n ≡ Some u
        → slice_get parted.plans (to (suc (suc i))) ≡ Some u
    giver_there i n u sum at =
        let low = slice_get_within (plans_of ts) n u at in
        let size = length-append (plans_of fs) (plans_of bs) in
        let number : suc (suc i) ≡ suc (suc (k + j + n)) = omega (arith, sum, size, fs_plans, bs_plans) in
        let place_there : suc (suc (k + n)) ≡ suc (length (plans_of fs) + suc n) = omega (arith, fs_plans) in
        ap (λ (m : ℕ). slice_get parted.plans (to m)) number
        ∙ (ap (slice_get parted.plans) (forth_second k j t n low ∙ place_there)
        ∙ in_row (length (plans_of fs) + suc n) u (found_behind (plans_of fs) rest (suc n) ∙ found_in_front (plans_of ts) (plans_of bs) n u at))

    supply_there : (i : ℕ) (u : Plan) → InTwo (plans_of fs ++ plans_of bs) (plans_of ts) i u → slice_get parted.plans (to (suc (suc i))) ≡ Some u
    supply_there i u (inr (n, sum, at)) = giver_there i n u sum at
    supply_there i u (inl at) =
        elim (in_two (plans_of fs) (plans_of bs) i u at) [
          | inl e ↦ before_there i u e
          | inr (n, sum, e) ↦ behind_there i n u sum e
        ]

    abbrev PlanThere : ℕ → Plan → Type 0
    PlanThere n u = (w : Plan) × (slice_get parted.plans (to n) ≡ Some w) × IsRenumbered unchanged u w

    q_there : slice_get parted.plans (suc k) ≡ Some q
    q_there =
        let zeros : k ≡ length (plans_of fs) + 0 = omega (arith, fs_plans) in
        ap (λ (m : ℕ). slice_get parted.plans (suc m)) zeros ∙ in_row (length (plans_of fs) + 0) q (found_behind (plans_of fs) rest 0)

    plans : (n : ℕ) (u : Plan) → slice_get joined.plans n ≡ Some u → PlanThere n u
    plans zero u at = let same : p ≡ u = cc at in (p, refl, subst (λ (w : Plan). IsRenumbered unchanged w p) same (is_itself p right_p))
    plans (suc zero) u at =
        let same : q ≡ u = cc at in (q, q_there, subst (λ (w : Plan). IsRenumbered unchanged w q) same (is_itself q right_q))
    plans (suc (suc i)) u at =
        let split = in_two (plans_of fs ++ plans_of bs) (plans_of ts) i u (ap (λ (ps : List Plan). slice_get ps i) (sym us_plans) ∙ at) in
        (u, supply_there i u split, is_itself u (rights i u (ap (λ (ps : List Plan). slice_get ps i) (sym (single_plans us)) ∙ at)))

    abbrev PlanHere : ℕ → Type 0
    PlanHere n = (u : Plan) × (slice_get joined.plans (from n) ≡ Some u)

    in_supplies : (i : ℕ) (u : Plan) → slice_get ((plans_of fs ++ plans_of bs) ++ plans_of ts) i ≡ Some u → slice_get joined.plans (suc (suc i)) ≡ Some u
    in_supplies i u at = ap (λ (ps : List Plan). slice_get ps i) us_plans ∙ at

    before_here : (i : ℕ) (u : Plan) → slice_get (plans_of fs) i ≡ Some u → PlanHere (suc i)
    before_here i u at =
        let low = slice_get_within (plans_of fs) i u at in (
          u,
          ap (slice_get joined.plans) (undo_first k j t i (omega (arith, low, fs_plans)))
              ∙ in_supplies i u (found_in_front (plans_of fs ++ plans_of bs) (plans_of ts) i u (found_in_front (plans_of fs) (plans_of bs) i u at)),
        )

    q_here : (i : ℕ) → i ≡ length (plans_of fs) + 0 → PlanHere (suc i)
    q_here i sum =
        let number : suc i ≡ suc k = omega (arith, sum, fs_plans) in
        (q, ap (λ (n : ℕ). slice_get joined.plans (from n)) number ∙ ap (slice_get joined.plans) (undo_at k j t))

    giver_here : (i n : ℕ) (u : Plan) → i ≡ length (plans_of fs) + suc n → slice_get (plans_of ts) n ≡ Some u → PlanHere (suc i)
    giver_here i n u sum at =
        let low = slice_get_within (plans_of ts) n u at in
        let size = length-append (plans_of fs) (plans_of bs) in
        let number : suc i ≡ suc (suc (k + n)) = omega (arith, sum, fs_plans) in
        let place_here : suc (suc (k + j + n)) ≡ suc (suc (length (plans_of fs ++ plans_of bs) + n)) = omega (arith, size, fs_plans, bs_plans) in (
          u,
          ap (λ (m : ℕ). slice_get joined.plans (from m)) number
              ∙ (ap (slice_get joined.plans) (undo_second k j t n low ∙ place_here)
              ∙ in_supplies (length (plans_of fs ++ plans_of bs) + n) u (found_behind (plans_of fs ++ plans_of bs) (plans_of ts) n ∙ at)),
        )

    behind_here : (i n m : ℕ) (u : Plan) → i ≡ length (plans_of fs) + n → n ≡ suc t + m → slice_get (plans_of bs) m ≡ Some u → PlanHere (suc i)
    behind_here i n m u sum more at =
        let low = slice_get_within (plans_of bs) m u at in
        let number : suc i ≡ suc (suc (k + t + m)) = omega (arith, sum, more, fs_plans) in
        let place_here : suc (suc (k + m)) ≡ suc (suc (length (plans_of fs) + m)) = omega (arith, fs_plans) in (
          u,
          ap (λ (m : ℕ). slice_get joined.plans (from m)) number
              ∙ (ap (slice_get joined.plans) (undo_behind k j t m (omega (arith, low, bs_plans)) ∙ place_here)
              ∙ in_supplies (length (plans_of fs) + m) u
              (found_in_front (plans_of fs ++ plans_of bs) (plans_of ts) (length (plans_of fs) + m) u (found_behind (plans_of fs) (plans_of bs) m ∙ at))),
        )

    giver_in : (i n : ℕ) (u : Plan) → i ≡ length (plans_of fs) + n → slice_get (q ∷ plans_of ts) n ≡ Some u → PlanHere (suc i)
    giver_in i zero u sum at = q_here i sum
    giver_in i (suc n) u sum at = giver_here i n u sum at

    rest_here : (i n : ℕ) (u : Plan) → i ≡ length (plans_of fs) + n → InTwo (q ∷ plans_of ts) (plans_of bs) n u → PlanHere (suc i)
    rest_here i n u sum (inl at) = giver_in i n u sum at
    rest_here i n u sum (inr (m, more, at)) = behind_here i n m u sum more at

    row_here : (i : ℕ) (u : Plan) → InTwo (plans_of fs) rest i u → PlanHere (suc i)
    row_here i u (inl at) = before_here i u at
    row_here i u (inr (n, sum, at)) = rest_here i n u sum (in_two (q ∷ plans_of ts) (plans_of bs) n u at)

    no_more : (n : ℕ) (u : Plan) → slice_get parted.plans n ≡ Some u → PlanHere n
    no_more zero u at = (p, refl)
    no_more (suc i) u at = row_here i u (in_two (plans_of fs) rest i u (ap (λ (ps : List Plan). slice_get ps i) (sym row_is) ∙ at))

    pub served_rewired : s.outcome ≡ p.outcome → IsRewired to from (λ n. unchanged) joined parted
    served_rewired outcome =
        record {
          returns = forth_undo k j t;
          comes = undo_forth k j t;
          one_to_one = λ n. unchanged_one;
          plans = plans;
          no_more = no_more;
          links = λ c d. (link_to c d, link_from c d);
          giver = refl;
          skipped = refl;
          outcome = sym outcome;
        }

pub served_leaves : (is js : List Imported) (x : Imported) (p q s : Plan) → p.imports ≡ is ++ (x ∷ js) → IsJoined (serving (length is) x.ty p q) s
    → s.imports ≡ (is ++ js) ++ q.imports
served_leaves is js x p q s imports joined = joined.joining.imports ∙ served_imports is js x p q imports

pub served_is_supplied : ServedIsSupplied
served_is_supplied is js x p q s y r z n fs bs ts imports of_s of_fs of_bs of_ts of_y of_r of_z =
    let us : List Supply = (fs ++ bs) ++ ts in
    let v : Supply = record { plan = y; term = n } in
    let left = served_leaves is js x p q s imports of_s in
    let all = supplied_two (is ++ js) q.imports (fs ++ bs) ts (supplied_two is js fs bs of_fs of_bs) of_ts in
    let of_us : AreSupplied s.imports us = subst (λ (l : List Imported). AreSupplied l us) (sym left) all in
    let enough : length s.imports ≡ length us = sym (supplied_length s.imports us of_us) ∙ plans_length us in
    let first_size : length fs ≡ length is = sym (plans_length fs) ∙ supplied_length is fs of_fs in
    let last_size : length bs ≡ length js = sym (plans_length bs) ∙ supplied_length js bs of_bs in
    let own_size = supplied_length q.imports ts of_ts in
    let right_p : IsRight p = of_s.fits.right 0 p refl in
    let right_q : IsRight q = of_s.fits.right 1 q refl in
    let rights : (m : ℕ) (u : Plan) → slice_get (plans_of us) m ≡ Some u → IsRight u = λ m u at. supply_is_right s.imports us m u of_us at in
    let firsts : (m : ℕ) (u : Plan) → slice_get (plans_of fs) m ≡ Some u → IsRight u = λ m u at. supply_is_right is fs m u of_fs at in
    let lasts : (m : ℕ) (u : Plan) → slice_get (plans_of bs) m ≡ Some u → IsRight u = λ m u at. supply_is_right js bs m u of_bs at in
    let apart_joins =
    joinings_join (supplying p (fs ++ (v ∷ bs))) (own is js x p q imports v fs bs ts first_size last_size) r
    (alone_joins p right_p, row_join fs bs (supplying q ts) v of_y.joining firsts lasts)
    ((singles_stand (record { plan = p; term = n } ∷ [])).0, row_stand fs bs (supplying q ts) (links_stand (supplying q ts) of_y.fits)) (links_stand (supplying p (fs ++ (v ∷ bs))) of_r.fits)
    of_r.joining
    in
    let together_joins =
    joinings_join (supplying s us) (joint_first is js x p q imports s us left enough) z (of_s.joining, singles_join us rights)
    (links_stand (serving (length is) x.ty p q) of_s.fits, singles_stand us) (links_stand (supplying s us) of_z.fits) of_z.joining
    in
    rewired_is_renumbered (forth (length is) (length js) (length (plans_of ts))) (undo (length is) (length js) (length (plans_of ts))) (λ m. unchanged)
    (together is js x p q imports s us left enough) (apart is js x p q imports v fs bs ts first_size last_size) z r
    (served_rewired is js x p q s v fs bs ts imports left enough first_size last_size own_size right_p right_q rights of_s.joining.outcome)
    together_joins apart_joins
