-- The plan of a side, with supplies, is one but for numbers with that side of the supplied plan.
use Rattle.std.specs.Prelude.{◌≡◌, ℕ, zero, suc, ◌+◌, ◌<◌, List, [], ◌∷◌, ◌⊎◌, length, map, Option, Some, Contains, slice_get}
use Rattle.std.proofs.Common.{refl, sym, ◌∙◌, ap, subst, arith, inl, inr}
use Rattle.std.proofs.lemmas.Option.{slice_get_within}
use Rattle.std.proofs.lemmas.List.{append-nil}
use Rattle.gos_types.specs.Types.{Type', Pair}
use Rattle.gos_model.specs.Terms.{Fst, Snd}
use Rattle.gos_model.specs.Typing.{Imported}
use Rattle.gos_model.specs.Linking.{supplied}
use Rattle.gos_plan.specs.Plans.{ImportEnd, ResultEnd, Plan, IsRight}
use Rattle.gos_plan.specs.Joining.{Place, place, Link, Wiring, Linked, LeftImport, all_left, left_in, left_place, IsJoining}
use Rattle.gos_plan.proofs.WiringLemmas.{place_is}
use Rattle.gos_realises.specs.realises.Regular.{count}
use Rattle.gos_realises.specs.realises.Links.{IsJoined}
use Rattle.gos_realises.specs.realises.Wirings.{link, side}
use Rattle.gos_realises.specs.realises.Realises.{NamesDiffer, Realises}
use Rattle.gos_realises.specs.realises.Modules.{Supply, plans_of, AreSupplied, term_for, supplying}
use Rattle.gos_realises.proofs.joined.OriginLemmas.{import_of}
use Rattle.gos_realises.proofs.joined.WholeLemmas.{sides_are_joined, supplied_is_joined}
use Rattle.gos_realises.proofs.realises.FittingLemmas.{supply_is_right}
use Rattle.gos_joining.specs.webs.Renumbering.{Renumber, IsRenumbered}
use Rattle.gos_joining.specs.unions.Flat.{all_plans, first_of, later, later_link, origin_if, deeper, deeper_link, flat}
use Rattle.gos_joining.proofs.unions.LinkLemmas.{flat_inner, flat_outer, OfWiring, OfOuter, of_flat}
use Rattle.gos_joining.proofs.unions.FlatLemmas.{joinings_join}
use Rattle.gos_joining.proofs.unions.FlatFitLemmas.{links_stand}
use Rattle.gos_joining.specs.renumbered.Rewired.{rewired, IsRewired}
use Rattle.gos_joining.specs.renumbered.SmallRewirings.{unchanged}
use Rattle.gos_joining.proofs.renumbered.ImportLemmas.{names_same}
use Rattle.gos_joining.proofs.renumbered.OrderLemmas.{reordered}
use Rattle.gos_joining.proofs.renumbered.RewireLemmas.{rewired_is_renumbered}
use Rattle.gos_joining.proofs.renumbered.HigherLemmas.{unchanged_end, unchanged_one, is_itself, renumbered_is_realised}
use Rattle.gos_joining.proofs.renumbered.SupplyLemmas.{supply_link, of_imports, in_imports}
use Rattle.gos_supplies.specs.applications.Projected.{SideIsSupplied, FirstIsRealised, SecondIsRealised}
use Rattle.gos_supplies.proofs.applications.SeamLemmas.{singles, single_plans, single_first, single_at, single_links, listed, left_none, listed_imports, listed_at}
use Rattle.gos_supplies.proofs.applications.SingleLemmas.{singles_join, singles_stand}
use Rattle.gos_supplies.proofs.applications.TogetherLemmas.{supplied_length, plans_length}

-- a link of a supply
pub record IsSupply (p : Plan) (m : Link) : Type 0 where
  pub number : ℕ
  pub shake : ℕ
  pub import : Imported
  pub at : slice_get p.imports number ≡ Some import
  pub small : shake < count import.ty
  pub same : m ≡ supply_link number shake

pub plain : (i h : ℕ) → supply_link (0 + i) h ≡ supply_link i h
plain i h = let zeros : 0 + i ≡ i = omega arith in ap (λ (n : ℕ). supply_link n h) zeros

pub later_plain : (i h : ℕ) → later_link 0 (supply_link (0 + i) h) ≡ supply_link i h
later_plain i h =
    let zeros : 0 + i ≡ i = omega arith in
    let next : 0 + suc (0 + i) ≡ suc i = omega arith in
    λ j. link 0 (ImportEnd (zeros j) h) (next j) (ResultEnd h)

side_left : (t : Type') (k : ℕ) (p : Plan) → all_left (side k t p) ≡ listed 0 0 p.imports
side_left t k p = append-nil (left_in [] 0 0 p.imports) ∙ left_none [] 0 (λ j. refl) 0 p.imports

pub side_imports : (t : Type') (k : ℕ) (p s : Plan) → IsJoining (side k t p) s → s.imports ≡ p.imports
side_imports t k p s joining = joining.imports ∙ (ap (map import_of) (side_left t k p) ∙ listed_imports 0 0 p.imports)

module _ (t : Type') (k : ℕ) (p s x : Plan) (ss : List Supply) (imports : s.imports ≡ p.imports) (enough : length p.imports ≡ length ss) where
  abbrev pub parted : Wiring
  parted = flat (side k t x) (supplying p ss ∷ [])

  abbrev pub wirings : List Wiring
  wirings = side k t p ∷ singles ss

  abbrev pub joined : Wiring
  joined = flat (supplying s ss) wirings

  parted_supply : (m : Link) → Contains parted.links m → IsSupply p m
  parted_supply m has = by_flat (of_flat (side k t x) (supplying p ss ∷ []) m has)
    where
      by_flat : OfWiring (supplying p ss ∷ []) m ⊎ OfOuter (side k t x) (supplying p ss ∷ []) m → IsSupply p m
      by_flat (inl (zero, v, l, at, among, same)) =
          let is_v : supplying p ss ≡ v = cc at in
          let there = of_imports 0 p.imports l (subst (λ (u : Wiring). Contains u.links l) (sym is_v) among) in
          record {
            number = there.number;
            shake = there.shake;
            import = there.import;
            at = there.at;
            small = there.small;
            same = sym same ∙ (ap (later_link 0) there.same ∙ later_plain there.number there.shake);
          }
      by_flat (inl (suc n, v, l, at, among, same)) = absurd (cc at)
      by_flat (inr (l, (n, small, e), same)) = absurd (omega (arith, small))

  supply_parted : (m : Link) → IsSupply p m → Contains parted.links m
  supply_parted m there =
      subst (Contains parted.links) (later_plain there.number there.shake ∙ sym there.same)
      (flat_inner (side k t x) (supplying p ss ∷ []) 0 (supplying p ss) (supply_link (0 + there.number) there.shake) refl
      (in_imports 0 p.imports there.number there.shake there.import there.at there.small))

  supply_deep : (i h : ℕ) (z : Imported) → slice_get p.imports i ≡ Some z → deeper_link wirings (supply_link i h) ≡ supply_link i h
  supply_deep i h z at =
      let zero_i : 0 + i ≡ i = omega arith in
      let at_left : slice_get (all_left (side k t p)) i ≡ Some (record { plan = 0; number = i; import = z }) =
      ap (λ (l : List LeftImport). slice_get l i) (side_left t k p)
      ∙ (listed_at 0 0 p.imports i z at ∙ (λ j. Some (record { plan = 0; number = zero_i j; import = z })))
      in
      let one : deeper wirings (place 0 (ImportEnd i h)) ≡ place 0 (ImportEnd i h) = ap (λ (o : Option LeftImport). later 0 (left_place o h)) at_left in
      let low = slice_get_within p.imports i z at in
      let small : i < length ss = omega (arith, low, enough) in
      let (u, at_u) = single_at ss i small in
      let first = single_first ss i small in
      let sum : 1 + first_of (singles ss) i + 0 ≡ suc i = omega (arith, first) in
      let zeros : 0 + h ≡ h = omega arith in
      let other : deeper wirings (place (suc i) (ResultEnd h)) ≡ place (suc i) (ResultEnd h) =
      ap (λ (o : Option Wiring). later (1 + first_of (singles ss) i) (origin_if o (ResultEnd h))) at_u ∙ (λ j. place (sum j) (ResultEnd (zeros j)))
      in
      λ j. record { one = one j; other = other j }

  joined_supply : (m : Link) → Contains joined.links m → IsSupply p m
  joined_supply m has = by_flat (of_flat (supplying s ss) wirings m has)
    where
      by_flat : OfWiring wirings m ⊎ OfOuter (supplying s ss) wirings m → IsSupply p m
      by_flat (inl (zero, v, l, at, among, same)) =
          let is_v : side k t p ≡ v = cc at in
          let (n, small, e) = subst (λ (u : Wiring). Contains u.links l) (sym is_v) among in absurd (omega (arith, small))
      by_flat (inl (suc n, v, l, at, among, same)) =
          let (j, small, e) = subst (λ (ls : List Link). Contains ls l) (single_links ss n v at) among in absurd (omega (arith, small))
      by_flat (inr (l, among, same)) =
          let there = of_imports 0 s.imports l among in
          let at_p : slice_get p.imports there.number ≡ Some there.import = ap (λ (xs : List Imported). slice_get xs there.number) (sym imports) ∙ there.at in
          record {
            number = there.number;
            shake = there.shake;
            import = there.import;
            at = at_p;
            small = there.small;
            same =
                sym same
                ∙ (ap (deeper_link wirings) (there.same ∙ plain there.number there.shake) ∙ supply_deep there.number there.shake there.import at_p);
          }

  supply_joined : (m : Link) → IsSupply p m → Contains joined.links m
  supply_joined m there =
      subst (Contains joined.links)
      (ap (deeper_link wirings) (plain there.number there.shake) ∙ (supply_deep there.number there.shake there.import there.at ∙ sym there.same))
      (flat_outer (supplying s ss) wirings (supply_link (0 + there.number) there.shake)
      (in_imports 0 s.imports there.number there.shake there.import (ap (λ (xs : List Imported). slice_get xs there.number) imports ∙ there.at) there.small))

  -- no number changes
  abbrev moves : Place → Place
  moves = rewired (λ n. n) (λ n. unchanged)

  stays : (c : Place) → moves c ≡ c
  stays c = place_is (moves c) c refl (unchanged_end c.end)

  link_to : (c d : Place) → Linked joined c d → Linked parted (moves c) (moves d)
  link_to c d (l, has, inl (e, f)) = (l, supply_parted l (joined_supply l has), inl (stays c ∙ e, stays d ∙ f))
  link_to c d (l, has, inr (e, f)) = (l, supply_parted l (joined_supply l has), inr (stays c ∙ e, stays d ∙ f))

  link_from : (c d : Place) → Linked parted (moves c) (moves d) → Linked joined c d
  link_from c d (l, has, inl (e, f)) = (l, supply_joined l (parted_supply l has), inl (sym (stays c) ∙ e, sym (stays d) ∙ f))
  link_from c d (l, has, inr (e, f)) = (l, supply_joined l (parted_supply l has), inr (sym (stays c) ∙ e, sym (stays d) ∙ f))

  same_plans : joined.plans ≡ parted.plans
  same_plans = ap (λ (ps : List Plan). p ∷ ps) (single_plans ss ∙ sym (append-nil (plans_of ss)))

  pub side_rewired : s.outcome ≡ t → ((n : ℕ) (u : Plan) → slice_get joined.plans n ≡ Some u → IsRight u)
      → IsRewired (λ n. n) (λ n. n) (λ n. unchanged) joined parted
  side_rewired outcome rights =
      record {
        returns = λ n. refl;
        comes = λ n. refl;
        one_to_one = λ n. unchanged_one;
        plans = λ n u at. (u, ap (λ (ps : List Plan). slice_get ps n) (sym same_plans) ∙ at, is_itself u (rights n u at));
        no_more = λ n u at. (u, ap (λ (ps : List Plan). slice_get ps n) same_plans ∙ at);
        links = λ c d. (link_to c d, link_from c d);
        giver = refl;
        skipped = omega arith;
        outcome = sym outcome;
      }

pub side_is_supplied : SideIsSupplied
side_is_supplied t k p s x r z ss of_s of_ss of_x of_r of_z =
    let imports = side_imports t k p s of_s.joining in
    let enough : length p.imports ≡ length ss = sym (supplied_length p.imports ss of_ss) ∙ plans_length ss in
    let rights : (n : ℕ) (u : Plan) → slice_get (plans_of ss) n ≡ Some u → IsRight u = λ n u at. supply_is_right p.imports ss n u of_ss at in
    rewired_is_renumbered (λ n. n) (λ n. n) (λ n. unchanged) (joined t k p s x ss imports enough) (parted t k p s x ss imports enough) z r
    (side_rewired t k p s x ss imports enough of_s.joining.outcome (all_right rights))
    (joinings_join (supplying s ss) (wirings t k p s x ss imports enough) z (of_s.joining, singles_join ss rights)
    (links_stand (side k t p) of_s.fits, singles_stand ss) (links_stand (supplying s ss) of_z.fits) of_z.joining)
    (joinings_join (side k t x) (supplying p ss ∷ []) r (of_x.joining, tt) (links_stand (supplying p ss) of_x.fits, tt) (links_stand (side k t x) of_r.fits) of_r.joining)
  where
    all_right : ((n : ℕ) (u : Plan) → slice_get (plans_of ss) n ≡ Some u → IsRight u) → (n : ℕ) (u : Plan) → slice_get (p ∷ all_plans (singles ss)) n ≡ Some u
        → IsRight u
    all_right rights zero u at = let same : p ≡ u = cc at in subst IsRight same (of_s.fits.right 0 p refl)
    all_right rights (suc n) u at = rights n u (ap (λ (ps : List Plan). slice_get ps n) (sym (single_plans ss)) ∙ at)

-- a plan of the supplied side is the supplied plan of the side
abbrev Supplied : Type' → ℕ → Plan → Plan → List Supply → Plan → Type 0
Supplied t k p s us z = (x : Plan) × IsJoined (supplying p us) x × ((r : Plan) → IsJoined (side k t x) r → (g : Renumber) × IsRenumbered g z r)

supplied_side : (t : Type') (k : ℕ) (p s z : Plan) (us : List Supply) → IsRight p → IsJoined (side k t p) s → AreSupplied s.imports us → IsJoined (supplying s us) z
    → Supplied t k p s us z
supplied_side t k p s z us right of_s are of_z =
    let of_us : AreSupplied p.imports us = subst (λ (l : List Imported). AreSupplied l us) (side_imports t k p s of_s.joining) are in
    let (x, of_x) = supplied_is_joined p us right of_us in
    (x, of_x, λ r of_r. side_is_supplied t k p s x r z us of_s of_us of_x of_r of_z)

side_names : (t : Type') (k : ℕ) (x r z : Plan) (g : Renumber) → IsJoined (side k t x) r → IsRenumbered g z r → NamesDiffer z.imports → NamesDiffer x.imports
side_names t k x r z g of_r same names =
    subst NamesDiffer (side_imports t k x r of_r.joining) (names_same g.import g.import_back z.imports r.imports (reordered g z r same) names)

pub first_is_realised : FirstIsRealised
first_is_realised a b p s m right type_p of_s open_p us z are of_z names =
    let imports = side_imports a 0 p s of_s.joining in
    let of_us : AreSupplied p.imports us = subst (λ (l : List Imported). AreSupplied l us) imports are in
    let (x, of_x, renumber) = supplied_side a 0 p s z us right of_s are of_z in
    let type_x : x.outcome ≡ Pair a b = of_x.joining.outcome ∙ type_p in
    let (r, of_r) = (sides_are_joined a b x of_x.joining.right type_x).0 in
    let (g, same) = renumber r of_r in
    let whole : Realises (Pair a b) x (supplied (term_for p.imports us) m) =
    subst (λ (t : Type'). Realises t x (supplied (term_for p.imports us) m)) type_p (open_p us x of_us of_x (side_names a 0 x r z g of_r same names))
    in
    let (suits, means) = whole.means.0 r of_r in
    let there = renumbered_is_realised g z r a (Fst (supplied (term_for p.imports us) m)) same (record { suits = suits; means = means }) in
    subst (λ (t : Type'). Realises t z (supplied (term_for s.imports us) (Fst m))) (sym of_s.joining.outcome)
    (subst (λ (l : List Imported). Realises a z (supplied (term_for l us) (Fst m))) (sym imports) there)

pub second_is_realised : SecondIsRealised
second_is_realised a b p s m right type_p of_s open_p us z are of_z names =
    let imports = side_imports b (count a) p s of_s.joining in
    let of_us : AreSupplied p.imports us = subst (λ (l : List Imported). AreSupplied l us) imports are in
    let (x, of_x, renumber) = supplied_side b (count a) p s z us right of_s are of_z in
    let type_x : x.outcome ≡ Pair a b = of_x.joining.outcome ∙ type_p in
    let (r, of_r) = (sides_are_joined a b x of_x.joining.right type_x).1 in
    let (g, same) = renumber r of_r in
    let whole : Realises (Pair a b) x (supplied (term_for p.imports us) m) =
    subst (λ (t : Type'). Realises t x (supplied (term_for p.imports us) m)) type_p (open_p us x of_us of_x (side_names b (count a) x r z g of_r same names))
    in
    let (suits, means) = whole.means.1 r of_r in
    let there = renumbered_is_realised g z r b (Snd (supplied (term_for p.imports us) m)) same (record { suits = suits; means = means }) in
    subst (λ (t : Type'). Realises t z (supplied (term_for s.imports us) (Snd m))) (sym of_s.joining.outcome)
    (subst (λ (l : List Imported). Realises b z (supplied (term_for l us) (Snd m))) (sym imports) there)
