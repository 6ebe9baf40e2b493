-- What is joined to the core is the core of what is joined to the plan.
use Rattle.std.specs.Prelude.{ℕ, zero, suc, ◌+◌, ◌<◌, List, Option, Some, None, length, slice_get, Contains}
use Rattle.std.proofs.Common.{◌≡◌, [], ◌∷◌, ◌++◌, inl, inr, refl, sym, ◌∙◌, ap, subst, arith}
use Rattle.std.proofs.lemmas.List.{length-map}
use Rattle.gos_types.specs.Types.{Type'}
use Rattle.gos_model.specs.Typing.{Imported}
use Rattle.gos_plan.specs.Kinds.{Part, Contact, asks, serves, contacts_of}
use Rattle.gos_plan.specs.Plans.{End, PartEnd, ImportEnd, ResultEnd, Joint, Plan, contact_at, contacts_of_part, contacts_of_import, turned_if}
use Rattle.gos_plan.specs.Joining.{Place, place, Link, Wiring, all_parts, left_among, origin, JoinedWithin, Path, IsJoining}
use Rattle.gos_realises.proofs.joined.OriginLemmas.{import_of}
use Rattle.gos_joining.specs.webs.Webs.{joint}
use Rattle.gos_supplies.specs.unjoined.Beside.{placed}
use Rattle.gos_supplies.proofs.unjoined.SettledLemmas.{low, end_there}
use Rattle.gos_supplies.proofs.unjoined.LeftLemmas.{IsPlain, ArePlain, all_imports, left_imports}
use Rattle.gos_supplies.proofs.unjoined.JoinedLemmas.{moved_place, numbers, path_there, part_stands, import_stands}
use Rattle.gos_sharing.specs.cores.Core.{Core, core_end, IsCore}
use Rattle.gos_sharing.specs.cores.Joined.{wiring, IsOuter, AllOuter, ahead_back, carried, JoinedIsCore}
use Rattle.gos_sharing.proofs.cores.AheadLemmas.{ahead_same, ahead_forth, ahead_return}
use Rattle.gos_sharing.proofs.cores.CoreLemmas.{seats, live, within, live_placed}

not_first : (k : ℕ) → (k ≡ 0 → ⊥) → 0 < k
not_first zero apart = absurd (apart refl)
not_first (suc k) apart = omega arith

plain_end : (k : ℕ) (e : End) → IsOuter k e → IsPlain k e
plain_end k (PartEnd i h) outer = not_first k outer
plain_end k (ImportEnd i h) outer = outer
plain_end k (ResultEnd h) outer = tt

pub plain_links : (ls : List Link) → AllOuter ls → ArePlain ls
plain_links [] outer = tt
plain_links (l ∷ ls) outer =
    let both = outer l (0, omega arith, refl) in (
      plain_end l.one.plan l.one.end both.0,
      plain_end l.other.plan l.other.end both.1,
      plain_links ls (λ m has. (let (n, small, is) = has in outer m (suc n, omega (arith, small), is))),
    )

module _ (f : Core) (r c : Plan) (is : IsCore f r c) (ps : List Plan) (ls : List Link) (outer : AllOuter ls) (giver skipped : ℕ) (t : Type') where
  abbrev pub large : Wiring
  large = wiring r ps ls giver skipped t

  -- the wiring of the plan without its dead joints
  abbrev pub middle : Wiring
  middle = wiring (live f r c is) ps ls giver skipped t

  abbrev pub small : Wiring
  small = wiring c ps ls giver skipped t

  -- its paths are paths of the plan's
  abbrev Same : ℕ → Joint → Type 0
  Same k j = (q : Plan) × (slice_get (r ∷ ps) k ≡ Some q) × Contains q.joints j

  same_plan : (k : ℕ) (q : Plan) (j : Joint) → slice_get (live f r c is ∷ ps) k ≡ Some q → Contains q.joints j → Same k j
  same_plan zero q j at has =
      let same : live f r c is ≡ q = cc at in
      (r, refl, within f r c is j.asking j.serving (subst (λ (z : Plan). Contains z.joints j) (sym same) has))
  same_plan (suc k) q j at has = (q, at, has)

  joint_more : (a b : Place) → JoinedWithin middle a b → JoinedWithin large a b
  joint_more a b (q, j, same, at, has, ways) = let (p, is_p, has_p) = same_plan a.plan q j at has in (p, j, same, is_p, has_p, ways)

  pub path_more : (n : ℕ) (a b : Place) → Path middle n a b → Path large n a b
  path_more zero a b e = e
  path_more (suc n) a b (d, inl s, path) = (d, inl (joint_more a d s), path_more n d b path)
  path_more (suc n) a b (d, inr s, path) = (d, inr s, path_more n d b path)

  abbrev pub there : Place → Place
  there = moved_place (seats f r c is)

  module _ (x y : Plan) (of_r : IsJoining large x) (of_c : IsJoining small y) where
    abbrev pub new : Core
    new = carried f r c x

    pub large_imports : x.imports ≡ r.imports ++ all_imports ps
    large_imports = of_r.imports ∙ left_imports ls (plain_links ls outer) 0 (r ∷ ps)

    pub small_imports : y.imports ≡ c.imports ++ all_imports ps
    small_imports = of_c.imports ∙ left_imports ls (plain_links ls outer) 0 (c ∷ ps)

    parts : (j : ℕ) (k : Part) → slice_get y.parts j ≡ Some k → (slice_get x.parts (new.part j) ≡ Some k) × (new.number (new.part j) ≡ Some j)
    parts j k at =
        subst (λ (zs : List Part). (slice_get zs (new.part j) ≡ Some k) × (ahead_back (length c.parts) (length r.parts) (length zs) f.number (new.part j) ≡ Some j))
        (sym of_r.parts)
        (ahead_forth c.parts r.parts (all_parts ps) f.part f.number is.parts is.numbers j k (ap (λ (zs : List Part). slice_get zs j) (sym of_c.parts) ∙ at))

    part_returns : (i j : ℕ) → new.number i ≡ Some j → (new.part j ≡ i) × ((k : Part) × (slice_get y.parts j ≡ Some k))
    part_returns i j at =
        let (lands, (k, there)) =
        ahead_return c.parts r.parts (all_parts ps) f.part f.number is.parts is.numbers i j
        (ap (λ (zs : List Part). ahead_back (length c.parts) (length r.parts) (length zs) f.number i) (sym of_r.parts) ∙ at)
        in
        (lands, (k, ap (λ (zs : List Part). slice_get zs j) of_c.parts ∙ there))

    imports : (j : ℕ) (k : Imported) → slice_get y.imports j ≡ Some k → (slice_get x.imports (new.import j) ≡ Some k) × (new.origin (new.import j) ≡ Some j)
    imports j k at =
        subst (λ (zs : List Imported). (slice_get zs (new.import j) ≡ Some k) × (ahead_back (length c.imports) (length r.imports) (length zs) f.origin (new.import j) ≡ Some j))
        (sym large_imports)
        (ahead_forth c.imports r.imports (all_imports ps) f.import f.origin is.imports is.origins j k (ap (λ (zs : List Imported). slice_get zs j) (sym small_imports) ∙ at))

    import_returns : (i j : ℕ) → new.origin i ≡ Some j → (new.import j ≡ i) × ((k : Imported) × (slice_get y.imports j ≡ Some k))
    import_returns i j at =
        let (lands, (k, there)) =
        ahead_return c.imports r.imports (all_imports ps) f.import f.origin is.imports is.origins i j
        (ap (λ (zs : List Imported). ahead_back (length c.imports) (length r.imports) (length zs) f.origin i) (sym large_imports) ∙ at)
        in
        (lands, (k, ap (λ (zs : List Imported). slice_get zs j) small_imports ∙ there))

    outcome : x.outcome ≡ y.outcome
    outcome = of_r.outcome ∙ sym of_c.outcome

    pub contact_new : (e : End) (k : Contact) → contact_at y e ≡ Some k → contact_at x (core_end new e) ≡ Some k
    contact_new (PartEnd i h) k at = by_part (slice_get y.parts i) refl at
      where
        by_part : (o : Option Part) → slice_get y.parts i ≡ o → slice_get (contacts_of_part o) h ≡ Some k → contact_at x (core_end new (PartEnd i h)) ≡ Some k
        by_part None none there = absurd (cc there)
        by_part (Some p) is_p there = ap (λ (o : Option Part). slice_get (contacts_of_part o) h) (parts i p is_p).0 ∙ there
    contact_new (ImportEnd i h) k at = by_import (slice_get y.imports i) refl at
      where
        by_import : (o : Option Imported) → slice_get y.imports i ≡ o → slice_get (contacts_of_import o) h ≡ Some k
            → contact_at x (core_end new (ImportEnd i h)) ≡ Some k
        by_import None none there = absurd (cc there)
        by_import (Some p) is_p there = ap (λ (o : Option Imported). slice_get (contacts_of_import o) h) (imports i p is_p).0 ∙ there
    contact_new (ResultEnd h) k at = ap (λ (z : Type'). turned_if (slice_get (contacts_of z) h)) outcome ∙ at

    -- the numbers are those of the plan without dead joints
    pub number_same : (e : End) → core_end new e ≡ placed (numbers (seats f r c is) (live f r c is) c (live_placed f r c is) ps ls (plain_links ls outer) giver skipped t) e
    number_same (PartEnd i h) =
        ap (λ (n : ℕ). PartEnd n h)
        (ahead_same (length c.parts) (length r.parts) f.part (seats f r c is).part (λ j small_j. sym (low (length c.parts) (length r.parts) f.part j small_j)) i)
    number_same (ImportEnd i h) =
        ap (λ (n : ℕ). ImportEnd n h)
        (ahead_same (length c.imports) (length r.imports) f.import (seats f r c is).import (λ j small_j. sym (low (length c.imports) (length r.imports) f.import j small_j)) i)
    number_same (ResultEnd h) = refl

    -- where its ends stand
    import_low : (i h : ℕ) (k : Contact) → contact_at y (ImportEnd i h) ≡ Some k → i < length (left_among ls 0 (c ∷ ps))
    import_low i h k at =
        let within_y : i < length y.imports = end_there y (ImportEnd i h) k at in
        let size : length y.imports ≡ length (left_among ls 0 (c ∷ ps)) =
        ap (λ (zs : List Imported). length zs) of_c.imports ∙ length-map (left_among ls 0 (c ∷ ps)) import_of
        in
        omega (arith, within_y, size)

    pub stands : (e : End) (k : Contact) → contact_at y e ≡ Some k → origin large (core_end new e) ≡ there (origin small e)
    stands (PartEnd i h) k at =
        ap (origin large) (number_same (PartEnd i h))
        ∙ part_stands (seats f r c is) (live f r c is) c (live_placed f r c is) ps ls (plain_links ls outer) giver skipped t i h
    stands (ImportEnd i h) k at =
        ap (origin large) (number_same (ImportEnd i h))
        ∙ import_stands (seats f r c is) (live f r c is) c (live_placed f r c is) ps ls (plain_links ls outer) giver skipped t i h (import_low i h k at)
    stands (ResultEnd h) k at = by_giver giver
      where
        by_giver : (n : ℕ) → place n (ResultEnd (skipped + h)) ≡ there (place n (ResultEnd (skipped + h)))
        by_giver zero = refl
        by_giver (suc n) = refl

    joints : (a b : End) → Contains y.joints (joint a b) → Contains x.joints (joint (core_end new a) (core_end new b))
    joints a b has =
        let (q, v, n, asked, served, path) = (of_c.joints a b).0 has in
        let moved = path_there (seats f r c is) (live f r c is) c (live_placed f r c is) ps ls (plain_links ls outer) giver skipped t n (origin small a) (origin small b) path in
        let more = path_more n (there (origin small a)) (there (origin small b)) moved in
        let at_ends : Path large n (origin large (core_end new a)) (origin large (core_end new b)) =
        subst (λ (z : Place). Path large n z (origin large (core_end new b))) (sym (stands a (asks q v) asked))
        (subst (λ (z : Place). Path large n (there (origin small a)) z) (sym (stands b (serves q v) served)) more)
        in
        (of_r.joints (core_end new a) (core_end new b)).1 (q, v, n, contact_new a (asks q v) asked, contact_new b (serves q v) served, at_ends)

    pub new_core : IsCore new x y
    new_core =
        record {
          right = of_r.right;
          also_right = of_c.right;
          outcome = outcome;
          parts = parts;
          numbers = part_returns;
          imports = imports;
          origins = import_returns;
          joints = joints;
        }

pub joined_is_core : JoinedIsCore
joined_is_core f r c x y ps ls giver skipped t is outer of_r of_c = new_core f r c is ps ls outer giver skipped t x y of_r of_c
