-- The plan of an application, with supplies, is one but for numbers with the supplied plans, applied.
use Rattle.std.specs.Prelude.{◌≡◌, ℕ, zero, suc, ◌+◌, ◌<◌, ◌≤◌, Bool, true, false, List, [], ◌∷◌, ◌++◌, length, Some, slice_get, nat_eq, nat_lt, if◌then◌else◌}
use Rattle.std.proofs.Common.{refl, sym, ◌∙◌, ap, subst, arith, inl, inr}
use Rattle.std.proofs.lemmas.Bool.Decides.{nat_tests}
use Rattle.std.proofs.lemmas.Option.{slice_get_within}
use Rattle.std.proofs.lemmas.List.{append-nil}
use Rattle.gos_types.specs.Types.{Type'}
use Rattle.gos_types.proofs.ListLemmas.{found_in_front, found_behind}
use Rattle.gos_model.specs.Typing.{Imported}
use Rattle.gos_plan.specs.Plans.{ResultEnd, Plan, IsRight}
use Rattle.gos_plan.specs.Joining.{Place, place, Link, Wiring, Linked}
use Rattle.gos_plan.proofs.WiringLemmas.{place_is}
use Rattle.gos_realises.specs.realises.Links.{IsJoined}
use Rattle.gos_realises.specs.realises.Wirings.{applying}
use Rattle.gos_realises.specs.realises.Modules.{Supply, plans_of, AreSupplied, supplying}
use Rattle.gos_realises.proofs.realises.FittingLemmas.{supply_is_right}
use Rattle.gos_joining.specs.webs.Renumbering.{IsRenumbered, moved_end}
use Rattle.gos_joining.specs.unions.Flat.{all_plans}
use Rattle.gos_joining.proofs.unions.FlatLemmas.{joinings_join}
use Rattle.gos_joining.proofs.unions.FlatFitLemmas.{InTwo, in_two, links_stand}
use Rattle.gos_joining.specs.renumbered.Rewired.{rewired, IsRewired}
use Rattle.gos_joining.specs.renumbered.SmallRewirings.{unchanged}
use Rattle.gos_joining.proofs.renumbered.RewireLemmas.{rewired_is_renumbered}
use Rattle.gos_joining.proofs.renumbered.HigherLemmas.{unchanged_end, unchanged_one, is_itself}
use Rattle.gos_supplies.specs.applications.Applied.{AppliedIsSupplied}
use Rattle.gos_supplies.proofs.applications.SeamLemmas.{singles, single_plans, applied_imports, Seam, Argument, OfFirst, OfSecond, IsSeam, together_link, apart_link, own, apart, apart_seam, seam_apart, joint_first, together, together_seam, seam_together}
use Rattle.gos_supplies.proofs.applications.SingleLemmas.{singles_join, singles_stand}

-- Function, argument, and all supplies, n of them the function's: where each plan stands where the argument comes behind these.
abbrev pub forth : ℕ → ℕ → ℕ
forth n zero = zero
forth n (suc zero) = suc n
forth n (suc (suc i)) = if nat_lt i n then suc i else suc (suc i)

abbrev pub undo : ℕ → ℕ → ℕ
undo n zero = zero
undo n (suc k) = if nat_lt k n then suc (suc k) else if nat_eq k n then 1 else suc k

pub forth_low : (n i : ℕ) → i < n → forth n (suc (suc i)) ≡ suc i
forth_low n i low = let test : nat_lt i n ≡ true = grind (arith, nat_tests, low) in ap (λ (b : Bool). if b then suc i else suc (suc i)) test

forth_high : (n i : ℕ) → n ≤ i → forth n (suc (suc i)) ≡ suc (suc i)
forth_high n i high = let test : nat_lt i n ≡ false = grind (arith, nat_tests, high) in ap (λ (b : Bool). if b then suc i else suc (suc i)) test

pub undo_low : (n k : ℕ) → k < n → undo n (suc k) ≡ suc (suc k)
undo_low n k low =
    let test : nat_lt k n ≡ true = grind (arith, nat_tests, low) in
    ap (λ (b : Bool). if b then suc (suc k) else if nat_eq k n then 1 else suc k) test

pub undo_at : (n k : ℕ) → k ≡ n → undo n (suc k) ≡ 1
undo_at n k same =
    let less : nat_lt k n ≡ false = grind (arith, nat_tests, same) in
    let test : nat_eq k n ≡ true = grind (arith, nat_tests, same) in
    (λ i. if less i then suc (suc k) else if test i then 1 else suc k)

undo_high : (n k : ℕ) → n < k → undo n (suc k) ≡ suc k
undo_high n k high =
    let less : nat_lt k n ≡ false = grind (arith, nat_tests, high) in
    let test : nat_eq k n ≡ false = grind (arith, nat_tests, high) in
    (λ i. if less i then suc (suc k) else if test i then 1 else suc k)

pub forth_undo : (n k : ℕ) → undo n (forth n k) ≡ k
forth_undo n zero = refl
forth_undo n (suc zero) = undo_at n n refl
forth_undo n (suc (suc i)) = by_test (nat_lt i n) refl
  where
    by_test : (b : Bool) → nat_lt i n ≡ b → undo n (forth n (suc (suc i))) ≡ suc (suc i)
    by_test true test = let low : i < n = grind (arith, nat_tests, test) in ap (undo n) (forth_low n i low) ∙ undo_low n i low
    by_test false test =
        let high : n ≤ i = grind (arith, nat_tests, test) in ap (undo n) (forth_high n i high) ∙ undo_high n (suc i) (omega (arith, high))

pub undo_forth : (n k : ℕ) → forth n (undo n k) ≡ k
undo_forth n zero = refl
undo_forth n (suc k) = by_tests (nat_lt k n) (nat_eq k n) refl refl
  where
    far : (j : ℕ) → k ≡ j → n < k → forth n (suc j) ≡ suc j
    far zero e high = absurd (omega (arith, e, high))
    far (suc j) e high = forth_high n j (omega (arith, e, high))

    by_tests : (b c : Bool) → nat_lt k n ≡ b → nat_eq k n ≡ c → forth n (undo n (suc k)) ≡ suc k
    by_tests true c test other = let low : k < n = grind (arith, nat_tests, test) in ap (forth n) (undo_low n k low) ∙ forth_low n k low
    by_tests false true test other =
        let same : k ≡ n = grind (arith, nat_tests, other) in ap (forth n) (undo_at n k same) ∙ ap suc (sym same)
    by_tests false false test other =
        let least : n ≤ k = grind (arith, nat_tests, test) in
        let differ : k ≡ n → ⊥ = λ e. grind (arith, nat_tests, other, e) in
        let high : n < k = omega (arith, least, differ) in
        ap (forth n) (undo_high n k high) ∙ far k refl high

pub plans_two : (ss ts : List Supply) → plans_of (ss ++ ts) ≡ plans_of ss ++ plans_of ts
plans_two [] ts = refl
plans_two (s ∷ ss) ts = ap (λ (ps : List Plan). s.plan ∷ ps) (plans_two ss ts)

pub supplied_length : (is : List Imported) (ss : List Supply) → AreSupplied is ss → length (plans_of ss) ≡ length is
supplied_length [] [] are = refl
supplied_length [] (s ∷ ss) are = absurd are
supplied_length (i ∷ is) [] are = absurd are
supplied_length (i ∷ is) (s ∷ ss) are = ap suc (supplied_length is ss are.1)

pub plans_length : (ss : List Supply) → length (plans_of ss) ≡ length ss
plans_length [] = refl
plans_length (s ∷ ss) = ap suc (plans_length ss)

module _ (a b : Type') (p q s x y : Plan) (ss ts : List Supply) (imports : s.imports ≡ p.imports ++ q.imports) (enough : length s.imports ≡ length (ss ++ ts))
    (own_size : length (plans_of ss) ≡ length p.imports) (right_p : IsRight p) (right_q : IsRight q)
    (rights : (n : ℕ) (u : Plan) → slice_get (plans_of (ss ++ ts)) n ≡ Some u → IsRight u)
  where
    abbrev us : List Supply
    us = ss ++ ts

    abbrev n : ℕ
    n = length (plans_of ss)

    abbrev joined : Wiring
    joined = together a b p q s us imports enough

    abbrev parted : Wiring
    parted = apart a b p q x y ss ts

    abbrev moves : Place → Place
    moves = rewired (forth n) (λ k. unchanged)

    abbrev moves_back : Place → Place
    moves_back = rewired (undo n) (λ k. unchanged)

    home : (c : Place) → moves_back (moves c) ≡ c
    home c = place_is (moves_back (moves c)) c (forth_undo n c.plan) (unchanged_end (moved_end unchanged c.end) ∙ unchanged_end c.end)

    moves_one : (c d : Place) → moves c ≡ moves d → c ≡ d
    moves_one c d e = sym (home c) ∙ (ap moves_back e ∙ home d)

    -- seams move
    seam_one : (k : Seam) → moves (together_link (length p.imports) k).one ≡ (apart_link n k).one
    seam_one (Argument h) = refl
    seam_one (OfFirst i h) = refl
    seam_one (OfSecond i h) = refl

    seam_other : (k : Seam) → IsSeam a p q k → moves (together_link (length p.imports) k).other ≡ (apart_link n k).other
    seam_other (Argument h) seam = refl
    seam_other (OfFirst i h) (z, at, small) =
        let low = slice_get_within p.imports i z at in ap (λ (k : ℕ). place k (ResultEnd h)) (forth_low n i (omega (arith, low, own_size)))
    seam_other (OfSecond i h) seam =
        let sum : suc (suc (length p.imports + i)) ≡ suc (suc (n + i)) = omega (arith, own_size) in
        ap (λ (k : ℕ). place k (ResultEnd h)) (forth_high n (length p.imports + i) (omega (arith, own_size)) ∙ sum)

    link_to : (c d : Place) → Linked joined c d → Linked parted (moves c) (moves d)
    link_to c d (l, has, ways) =
        let (k, seam, same) = together_seam a b p q s us imports enough l has in
        let one : moves l.one ≡ (apart_link n k).one = ap (λ (m : Link). moves m.one) same ∙ seam_one k in
        let other : moves l.other ≡ (apart_link n k).other = ap (λ (m : Link). moves m.other) same ∙ seam_other k seam in
        elim ways [
          | inl (e, f) ↦ (apart_link n k, seam_apart a b p q x y ss ts k seam, inl (ap moves e ∙ one, ap moves f ∙ other))
          | inr (e, f) ↦ (apart_link n k, seam_apart a b p q x y ss ts k seam, inr (ap moves e ∙ other, ap moves f ∙ one))
        ]

    link_from : (c d : Place) → Linked parted (moves c) (moves d) → Linked joined c d
    link_from c d (l, has, ways) =
        let (k, seam, same) = apart_seam a b p q x y ss ts l has in
        let first = (together_link (length p.imports) k).one in
        let second = (together_link (length p.imports) k).other in
        let one : l.one ≡ moves first = ap (λ (m : Link). m.one) same ∙ sym (seam_one k) in
        let other : l.other ≡ moves second = ap (λ (m : Link). m.other) same ∙ sym (seam_other k seam) in
        let among = seam_together a b p q s us imports enough k seam in
        elim ways [
          | inl (e, f) ↦ (together_link (length p.imports) k, among, inl (moves_one c first (e ∙ one), moves_one d second (f ∙ other)))
          | inr (e, f) ↦ (together_link (length p.imports) k, among, inr (moves_one c second (e ∙ other), moves_one d first (f ∙ one)))
        ]

    -- plans
    abbrev PlanThere : ℕ → Plan → Type 0
    PlanThere k u = (v : Plan) × (slice_get parted.plans (forth n k) ≡ Some v) × IsRenumbered unchanged u v

    abbrev rest : List Plan
    rest = (q ∷ plans_of ts) ++ []

    supply_there : (i : ℕ) (u : Plan) → InTwo (plans_of ss) (plans_of ts) i u → slice_get parted.plans (forth n (suc (suc i))) ≡ Some u
    supply_there i u (inl at) =
        ap (slice_get parted.plans) (forth_low n i (slice_get_within (plans_of ss) i u at)) ∙ found_in_front (plans_of ss) rest i u at
    supply_there i u (inr (j, sum, at)) =
        let next : suc i ≡ n + suc j = omega (arith, sum) in
        ap (slice_get parted.plans) (forth_high n i (omega (arith, sum)))
        ∙ (ap (slice_get (plans_of ss ++ rest)) next ∙ (found_behind (plans_of ss) rest (suc j) ∙ found_in_front (plans_of ts) [] j u at))

    split_supply : (i : ℕ) (u : Plan) → slice_get (all_plans (singles us)) i ≡ Some u → InTwo (plans_of ss) (plans_of ts) i u
    split_supply i u at =
        in_two (plans_of ss) (plans_of ts) i u (ap (λ (ps : List Plan). slice_get ps i) (sym (single_plans us ∙ plans_two ss ts)) ∙ at)

    plans : (k : ℕ) (u : Plan) → slice_get joined.plans k ≡ Some u → PlanThere k u
    plans zero u at = let same : p ≡ u = cc at in (p, refl, subst (λ (v : Plan). IsRenumbered unchanged v p) same (is_itself p right_p))
    plans (suc zero) u at =
        let same : q ≡ u = cc at in
        let sum : n ≡ n + 0 = omega arith in (
          q,
          ap (slice_get (plans_of ss ++ rest)) sum ∙ found_behind (plans_of ss) rest 0,
          subst (λ (v : Plan). IsRenumbered unchanged v q) same (is_itself q right_q),
        )
    plans (suc (suc i)) u at = (
      u,
      supply_there i u (split_supply i u at),
      is_itself u (rights i u (ap (λ (ps : List Plan). slice_get ps i) (sym (single_plans us)) ∙ at)),
    )

    abbrev PlanHere : ℕ → Type 0
    PlanHere k = (u : Plan) × (slice_get joined.plans (undo n k) ≡ Some u)

    in_supplies : (i : ℕ) (u : Plan) → slice_get (plans_of ss ++ plans_of ts) i ≡ Some u → slice_get joined.plans (suc (suc i)) ≡ Some u
    in_supplies i u at = ap (λ (ps : List Plan). slice_get ps i) (single_plans us ∙ plans_two ss ts) ∙ at

    supply_here : (k : ℕ) (u : Plan) → InTwo (plans_of ss) rest k u → PlanHere (suc k)
    supply_here k u (inl at) =
        (u, ap (slice_get joined.plans) (undo_low n k (slice_get_within (plans_of ss) k u at)) ∙ in_supplies k u (found_in_front (plans_of ss) (plans_of ts) k u at))
    supply_here k u (inr (zero, sum, at)) = (q, ap (slice_get joined.plans) (undo_at n k (omega (arith, sum))))
    supply_here k u (inr (suc j, sum, at)) =
        let next : suc k ≡ suc (suc (n + j)) = omega (arith, sum) in
        let of_ts : slice_get (plans_of ts) j ≡ Some u = ap (λ (ps : List Plan). slice_get ps j) (sym (append-nil (plans_of ts))) ∙ at in
        (u, ap (slice_get joined.plans) (undo_high n k (omega (arith, sum)) ∙ next) ∙ in_supplies (n + j) u (found_behind (plans_of ss) (plans_of ts) j ∙ of_ts))

    no_more : (k : ℕ) (u : Plan) → slice_get parted.plans k ≡ Some u → PlanHere k
    no_more zero u at = (p, refl)
    no_more (suc k) u at = supply_here k u (in_two (plans_of ss) rest k u at)

    pub supplies_rewired : s.outcome ≡ b → IsRewired (forth n) (undo n) (λ k. unchanged) joined parted
    supplies_rewired outcome =
        record {
          returns = forth_undo n;
          comes = undo_forth n;
          one_to_one = λ k. unchanged_one;
          plans = plans;
          no_more = no_more;
          links = λ c d. (link_to c d, link_from c d);
          giver = refl;
          skipped = omega arith;
          outcome = sym outcome;
        }

pub supplied_two : (is js : List Imported) (ss ts : List Supply) → AreSupplied is ss → AreSupplied js ts → AreSupplied (is ++ js) (ss ++ ts)
supplied_two [] js [] ts of_ss of_ts = of_ts
supplied_two [] js (s ∷ ss) ts of_ss of_ts = absurd of_ss
supplied_two (i ∷ is) js [] ts of_ss of_ts = absurd of_ss
supplied_two (i ∷ is) js (s ∷ ss) ts of_ss of_ts = (of_ss.0, supplied_two is js ss ts of_ss.1 of_ts)

pub imports_of : (a b : Type') (p q s : Plan) → IsJoined (applying a b p q) s → s.imports ≡ p.imports ++ q.imports
imports_of a b p q s joined = joined.joining.imports ∙ applied_imports a b p q

pub applied_is_supplied : AppliedIsSupplied
applied_is_supplied a b p q s x y r z ss ts of_s of_ss of_ts of_x of_y of_r of_z =
    let us : List Supply = ss ++ ts in
    let imports = imports_of a b p q s of_s in
    let all = supplied_two p.imports q.imports ss ts of_ss of_ts in
    let of_us : AreSupplied s.imports us = subst (λ (l : List Imported). AreSupplied l us) (sym imports) all in
    let enough : length s.imports ≡ length us = sym (supplied_length s.imports us of_us) ∙ plans_length us in
    let rights : (n : ℕ) (u : Plan) → slice_get (plans_of us) n ≡ Some u → IsRight u = λ n u at. supply_is_right s.imports us n u of_us at in
    let apart_joins =
    joinings_join (applying a b x y) (own a b p q x y ss ts) r (of_x.joining, (of_y.joining, tt))
    (links_stand (supplying p ss) of_x.fits, (links_stand (supplying q ts) of_y.fits, tt)) (links_stand (applying a b x y) of_r.fits) of_r.joining
    in
    let together_joins =
    joinings_join (supplying s us) (joint_first a b p q s us imports enough) z (of_s.joining, singles_join us rights)
    (links_stand (applying a b p q) of_s.fits, singles_stand us) (links_stand (supplying s us) of_z.fits) of_z.joining
    in
    rewired_is_renumbered (forth (length (plans_of ss))) (undo (length (plans_of ss))) (λ k. unchanged) (together a b p q s us imports enough)
    (apart a b p q x y ss ts) z r
    (supplies_rewired a b p q s x y ss ts imports enough (supplied_length p.imports ss of_ss) (of_s.fits.right 0 p refl) (of_s.fits.right 1 q refl) rights of_s.joining.outcome)
    together_joins apart_joins
