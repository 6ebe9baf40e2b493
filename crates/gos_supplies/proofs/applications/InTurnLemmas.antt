-- Supplies one after another are supplies all at once: both are joinings of the plan and all supplies, in one order.
use Rattle.std.specs.Prelude.{◌≡◌, ℕ, zero, suc, ◌+◌, ◌<◌, Bool, true, false, List, [], ◌∷◌, ◌++◌, ◌⊎◌, length, Option, Some, Contains, slice_get, if◌then◌else◌}
use Rattle.std.proofs.Common.{refl, sym, ◌∙◌, ap, subst, arith, inl, inr}
use Rattle.std.proofs.lemmas.Option.{slice_get_within}
use Rattle.gos_types.proofs.ListLemmas.{found_in_front, found_behind}
use Rattle.gos_model.specs.Typing.{Imported}
use Rattle.gos_plan.specs.Plans.{ImportEnd, ResultEnd, Plan, IsRight}
use Rattle.gos_plan.specs.Joining.{Place, place, Link, Wiring, Linked, LeftImport, is_joined, left_in, left_among, all_left, left_place}
use Rattle.gos_plan.proofs.WiringLemmas.{place_is}
use Rattle.gos_realises.specs.realises.Modules.{Supply, plans_of, imports_linked, supplying}
use Rattle.gos_realises.proofs.realises.FittingLemmas.{supply_is_right}
use Rattle.gos_joining.specs.unions.Flat.{first_of, later, later_link, origin_if, deeper, deeper_link, flat}
use Rattle.gos_joining.proofs.unions.LinkLemmas.{flat_inner, flat_outer, OfWiring, OfOuter, of_flat, IsAt, joined_by}
use Rattle.gos_joining.proofs.unions.FlatLemmas.{joinings_join}
use Rattle.gos_joining.proofs.unions.FlatFitLemmas.{in_two, links_stand}
use Rattle.gos_joining.specs.renumbered.Rewired.{rewired, IsRewired}
use Rattle.gos_joining.specs.renumbered.SmallRewirings.{unchanged}
use Rattle.gos_joining.proofs.renumbered.RewireLemmas.{rewired_is_renumbered}
use Rattle.gos_joining.proofs.renumbered.HigherLemmas.{unchanged_end, unchanged_one, is_itself}
use Rattle.gos_joining.proofs.renumbered.SupplyLemmas.{supply_link, OfImports, of_imports, in_imports, first_joined}
use Rattle.gos_supplies.specs.applications.InTurn.{supplying_first, InTurnIsAtOnce}
use Rattle.gos_supplies.proofs.applications.SeamLemmas.{singles, single_plans, single_first, single_at, single_links, listed, listed_at}
use Rattle.gos_supplies.proofs.applications.SingleLemmas.{singles_join, singles_stand}
use Rattle.gos_supplies.proofs.applications.TogetherLemmas.{supplied_length, plans_length, plans_two}
use Rattle.gos_supplies.proofs.applications.SideLemmas.{IsSupply, plain, later_plain}

-- of imports of which the first are joined, the others stay
left_free : (ls : List Link) (k i : ℕ) (xs : List Imported) → ((j : ℕ) → is_joined ls k (i + j) ≡ false) → left_in ls k i xs ≡ listed k i xs
left_free ls k i [] free = refl
left_free ls k i (x ∷ xs) free =
    let zeros : i + 0 ≡ i = omega arith in
    let here : is_joined ls k i ≡ false = ap (is_joined ls k) (sym zeros) ∙ free 0 in
    let rest = left_free ls k (suc i) xs (λ j. (let sum : suc i + j ≡ i + suc j = omega arith in ap (is_joined ls k) sum ∙ free (suc j))) in
    λ j. if here j then rest j else record { plan = k; number = i; import = x } ∷ rest j

left_behind : (ls : List Link) (k i : ℕ) (is js : List Imported) → ((j : ℕ) (z : Imported) → slice_get is j ≡ Some z → is_joined ls k (i + j) ≡ true)
    → ((j : ℕ) → is_joined ls k (i + length is + j) ≡ false) → left_in ls k i (is ++ js) ≡ listed k (i + length is) js
left_behind ls k i [] js all free =
    let zeros : i ≡ i + 0 = omega arith in
    left_free ls k i js (λ j. (let sum : i + j ≡ i + 0 + j = omega arith in ap (is_joined ls k) sum ∙ free j)) ∙ ap (λ (n : ℕ). listed k n js) zeros
left_behind ls k i (x ∷ is) js all free =
    let zeros : i ≡ i + 0 = omega arith in
    let sum : suc i + length is ≡ i + suc (length is) = omega arith in
    let here : is_joined ls k i ≡ true = ap (is_joined ls k) zeros ∙ all 0 x refl in
    let rest =
    left_behind ls k (suc i) is js (λ j z at. (let next : suc i + j ≡ i + suc j = omega arith in ap (is_joined ls k) next ∙ all (suc j) z at))
    (λ j. (let next : suc i + length is + j ≡ i + suc (length is) + j = omega arith in ap (is_joined ls k) next ∙ free j))
    in
    (λ j. if here j then left_in ls k (suc i) (is ++ js) else record { plan = k; number = i; import = x } ∷ left_in ls k (suc i) (is ++ js))
    ∙ (rest ∙ ap (λ (n : ℕ). listed k n js) sum)

others_free : (is : List Imported) (j : ℕ) → is_joined (imports_linked 0 is) 0 (0 + length is + j) ≡ false
others_free is j = by_test (is_joined (imports_linked 0 is) 0 (0 + length is + j)) refl
  where
    at_link : (l : Link) → OfImports 0 is l → IsAt 0 (0 + length is + j) l.one ⊎ IsAt 0 (0 + length is + j) l.other → ⊥
    at_link l there (inl (h, e)) =
        let same : ImportEnd (0 + there.number) there.shake ≡ ImportEnd (0 + length is + j) h = ap (λ (a : Place). a.end) (ap (λ (m : Link). m.one) (sym there.same) ∙ e) in
        let number : 0 + there.number ≡ 0 + length is + j = cc same in
        let low = slice_get_within is there.number there.import there.at in
        omega (arith, number, low)
    at_link l there (inr (h, e)) =
        let plans : suc (0 + there.number) ≡ 0 = ap (λ (a : Place). a.plan) (ap (λ (m : Link). m.other) (sym there.same) ∙ e) in omega (arith, plans)

    by_test : (b : Bool) → is_joined (imports_linked 0 is) 0 (0 + length is + j) ≡ b → is_joined (imports_linked 0 is) 0 (0 + length is + j) ≡ false
    by_test true test =
        let (l, has, ends) = joined_by (imports_linked 0 is) 0 (0 + length is + j) test in absurd (at_link l (of_imports 0 is l has) ends)
    by_test false test = test

module _ (is js : List Imported) (p x : Plan) (ss ts : List Supply) (imports : p.imports ≡ is ++ js) (first_size : length (plans_of ss) ≡ length is)
    (enough : length js ≡ length ts)
  where
    abbrev pub inner : Wiring
    inner = supplying_first p is ss

    abbrev pub wirings : List Wiring
    wirings = inner ∷ singles ts

    abbrev pub in_turn : Wiring
    in_turn = flat (supplying_first x js ts) wirings

    abbrev pub at_once : Wiring
    at_once = supplying p (ss ++ ts)

    stays_at : (j : ℕ) (z : Imported) → slice_get js j ≡ Some z → slice_get (all_left inner) j ≡ Some (record { plan = 0; number = length is + j; import = z })
    stays_at j z at =
        let listed_is : left_in (imports_linked 0 is) 0 0 p.imports ≡ listed 0 (0 + length is) js =
        ap (left_in (imports_linked 0 is) 0 0) imports ∙ left_behind (imports_linked 0 is) 0 0 is js (first_joined is) (others_free is)
        in
        let sum : 0 + length is + j ≡ length is + j = omega arith in
        found_in_front (left_in (imports_linked 0 is) 0 0 p.imports) (left_among (imports_linked 0 is) 1 (plans_of ss)) j (record { plan = 0; number = length is + j; import = z })
        (ap (λ (l : List LeftImport). slice_get l j) listed_is
        ∙ (listed_at 0 (0 + length is) js j z at ∙ (λ t. Some (record { plan = 0; number = sum t; import = z }))))

    behind_is : (j h : ℕ) (z : Imported) → slice_get js j ≡ Some z → deeper_link wirings (supply_link j h) ≡ supply_link (length is + j) h
    behind_is j h z at =
        let one : deeper wirings (place 0 (ImportEnd j h)) ≡ place 0 (ImportEnd (length is + j) h) =
        ap (λ (o : Option LeftImport). later 0 (left_place o h)) (stays_at j z at)
        in
        let low = slice_get_within js j z at in
        let small : j < length ts = omega (arith, low, enough) in
        let (u, at_u) = single_at ts j small in
        let first = single_first ts j small in
        let sum : suc (length (plans_of ss)) + first_of (singles ts) j + 0 ≡ suc (length is + j) = omega (arith, first, first_size) in
        let zeros : 0 + h ≡ h = omega arith in
        let other : deeper wirings (place (suc j) (ResultEnd h)) ≡ place (suc (length is + j)) (ResultEnd h) =
        ap (λ (o : Option Wiring). later (suc (length (plans_of ss)) + first_of (singles ts) j) (origin_if o (ResultEnd h))) at_u
        ∙ (λ t. place (sum t) (ResultEnd (zeros t)))
        in
        λ t. record { one = one t; other = other t }

    front_at : (i : ℕ) (z : Imported) → slice_get is i ≡ Some z → slice_get p.imports i ≡ Some z
    front_at i z at = ap (λ (l : List Imported). slice_get l i) imports ∙ found_in_front is js i z at

    behind_at : (j : ℕ) (z : Imported) → slice_get js j ≡ Some z → slice_get p.imports (length is + j) ≡ Some z
    behind_at j z at = ap (λ (l : List Imported). slice_get l (length is + j)) imports ∙ (found_behind is js j ∙ at)

    turn_supply : (m : Link) → Contains in_turn.links m → IsSupply p m
    turn_supply m has = by_flat (of_flat (supplying_first x js ts) wirings m has)
      where
        by_flat : OfWiring wirings m ⊎ OfOuter (supplying_first x js ts) wirings m → IsSupply p m
        by_flat (inl (zero, v, l, at, among, same)) =
            let is_v : inner ≡ v = cc at in
            let there = of_imports 0 is l (subst (λ (u : Wiring). Contains u.links l) (sym is_v) among) in
            record {
              number = there.number;
              shake = there.shake;
              import = there.import;
              at = front_at there.number there.import there.at;
              small = there.small;
              same = sym same ∙ (ap (later_link 0) there.same ∙ later_plain there.number there.shake);
            }
        by_flat (inl (suc n, v, l, at, among, same)) =
            let (j, small, e) = subst (λ (ls : List Link). Contains ls l) (single_links ts n v at) among in absurd (omega (arith, small))
        by_flat (inr (l, among, same)) =
            let there = of_imports 0 js l among in
            record {
              number = length is + there.number;
              shake = there.shake;
              import = there.import;
              at = behind_at there.number there.import there.at;
              small = there.small;
              same = sym same ∙ (ap (deeper_link wirings) (there.same ∙ plain there.number there.shake) ∙ behind_is there.number there.shake there.import there.at);
            }

    supply_turn : (m : Link) → IsSupply p m → Contains in_turn.links m
    supply_turn m there =
        subst (Contains in_turn.links) (sym there.same)
        (elim (in_two is js there.number there.import (ap (λ (l : List Imported). slice_get l there.number) (sym imports) ∙ there.at)) [
          | inl at ↦
              subst (Contains in_turn.links) (later_plain there.number there.shake)
              (flat_inner (supplying_first x js ts) wirings 0 inner (supply_link (0 + there.number) there.shake) refl
              (in_imports 0 is there.number there.shake there.import at there.small))
          | inr (j, sum, at) ↦
              subst (Contains in_turn.links)
              (ap (deeper_link wirings) (plain j there.shake) ∙ (behind_is j there.shake there.import at ∙ ap (λ (n : ℕ). supply_link n there.shake) (sym sum)))
              (flat_outer (supplying_first x js ts) wirings (supply_link (0 + j) there.shake) (in_imports 0 js j there.shake there.import at there.small))
        ])

    once_supply : (m : Link) → Contains at_once.links m → IsSupply p m
    once_supply m has =
        let there = of_imports 0 p.imports m has in
        record {
          number = there.number;
          shake = there.shake;
          import = there.import;
          at = there.at;
          small = there.small;
          same = there.same ∙ plain there.number there.shake;
        }

    supply_once : (m : Link) → IsSupply p m → Contains at_once.links m
    supply_once m there =
        subst (Contains at_once.links) (plain there.number there.shake ∙ sym there.same)
        (in_imports 0 p.imports there.number there.shake there.import there.at there.small)

    -- no number changes
    abbrev moves : Place → Place
    moves = rewired (λ n. n) (λ n. unchanged)

    stays : (c : Place) → moves c ≡ c
    stays c = place_is (moves c) c refl (unchanged_end c.end)

    link_to : (c d : Place) → Linked in_turn c d → Linked at_once (moves c) (moves d)
    link_to c d (l, has, inl (e, f)) = (l, supply_once l (turn_supply l has), inl (stays c ∙ e, stays d ∙ f))
    link_to c d (l, has, inr (e, f)) = (l, supply_once l (turn_supply l has), inr (stays c ∙ e, stays d ∙ f))

    link_from : (c d : Place) → Linked at_once (moves c) (moves d) → Linked in_turn c d
    link_from c d (l, has, inl (e, f)) = (l, supply_turn l (once_supply l has), inl (sym (stays c) ∙ e, sym (stays d) ∙ f))
    link_from c d (l, has, inr (e, f)) = (l, supply_turn l (once_supply l has), inr (sym (stays c) ∙ e, sym (stays d) ∙ f))

    same_plans : in_turn.plans ≡ at_once.plans
    same_plans = ap (λ (ps : List Plan). p ∷ (plans_of ss ++ ps)) (single_plans ts) ∙ ap (λ (ps : List Plan). p ∷ ps) (sym (plans_two ss ts))

    pub turn_rewired : x.outcome ≡ p.outcome → ((n : ℕ) (u : Plan) → slice_get at_once.plans n ≡ Some u → IsRight u)
        → IsRewired (λ n. n) (λ n. n) (λ n. unchanged) in_turn at_once
    turn_rewired outcome rights =
        record {
          returns = λ n. refl;
          comes = λ n. refl;
          one_to_one = λ n. unchanged_one;
          plans = λ n u at. (let there = ap (λ (ps : List Plan). slice_get ps n) (sym same_plans) ∙ at in (u, there, is_itself u (rights n u there)));
          no_more = λ n u at. (u, ap (λ (ps : List Plan). slice_get ps n) same_plans ∙ at);
          links = λ c d. (link_to c d, link_from c d);
          giver = refl;
          skipped = refl;
          outcome = sym outcome;
        }

pub in_turn_is_at_once : InTurnIsAtOnce
in_turn_is_at_once is js p x r z ss ts imports of_ss of_ts of_x of_r of_z =
    let first_size = supplied_length is ss of_ss in
    let enough : length js ≡ length ts = sym (supplied_length js ts of_ts) ∙ plans_length ts in
    let rights : (n : ℕ) (u : Plan) → slice_get (plans_of ts) n ≡ Some u → IsRight u = λ n u at. supply_is_right js ts n u of_ts at in
    rewired_is_renumbered (λ n. n) (λ n. n) (λ n. unchanged) (in_turn is js p x ss ts imports first_size enough) (at_once is js p x ss ts imports first_size enough) r z
    (turn_rewired is js p x ss ts imports first_size enough of_x.joining.outcome of_z.fits.right)
    (joinings_join (supplying_first x js ts) (wirings is js p x ss ts imports first_size enough) r (of_x.joining, singles_join ts rights)
    (links_stand (supplying_first p is ss) of_x.fits, singles_stand ts) (links_stand (supplying_first x js ts) of_r.fits) of_r.joining)
    of_z.joining
