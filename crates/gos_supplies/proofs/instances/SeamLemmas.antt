-- The two flat wirings of a plan, its giver, and supplies: both plans and then all supplies, and the giver, with its own supplies,
-- as a supply. They have the same links, which are the seams: of the import that is served, and of those that stay.
use Rattle.std.specs.Prelude.{◌≡◌, ℕ, zero, suc, ◌+◌, ◌<◌, List, [], ◌∷◌, ◌++◌, ◌⊎◌, length, Option, Some, Contains, slice_get}
use Rattle.std.proofs.Common.{refl, sym, ◌∙◌, ap, subst, arith, inl, inr}
use Rattle.std.proofs.lemmas.Option.{slice_get_within}
use Rattle.std.proofs.lemmas.List.{append-nil, length-append, length-map}
use Rattle.gos_types.proofs.ListLemmas.{found_in_front, found_behind}
use Rattle.gos_model.specs.Typing.{Imported}
use Rattle.gos_plan.specs.Plans.{ImportEnd, ResultEnd, Plan}
use Rattle.gos_plan.specs.Joining.{place, Link, Wiring, LeftImport, left_in, all_left, left_place}
use Rattle.gos_realises.specs.realises.Regular.{count}
use Rattle.gos_realises.specs.realises.Wirings.{link, side}
use Rattle.gos_realises.specs.realises.Modules.{Supply, plans_of, supplying}
use Rattle.gos_joining.specs.unions.Flat.{first_of, later, later_link, origin_if, deeper, deeper_link, flat}
use Rattle.gos_joining.proofs.unions.LinkLemmas.{flat_inner, flat_outer, OfWiring, OfOuter, of_flat}
use Rattle.gos_joining.proofs.unions.FlatFitLemmas.{InTwo, in_two}
use Rattle.gos_joining.proofs.renumbered.SupplyLemmas.{supply_link, OfImports, of_imports, in_imports}
use Rattle.gos_supplies.proofs.applications.SeamLemmas.{single, singles, single_first, single_at, single_links, listed, left_none, listed_at}
use Rattle.gos_supplies.proofs.applications.SideLemmas.{plain}
use Rattle.gos_supplies.specs.instances.Served.{serving}
use Rattle.gos_supplies.proofs.instances.BoundLemmas.{bound_link, of_bound, in_bound, left_first, left_behind, left_second}
use Rattle.gos_supplies.proofs.instances.RowLemmas.{row, before_at, middle_at, behind_at}

-- the links of both flat wirings
pub data Seam : Type 0 where
  Served : (shake : ℕ) → Seam
  Before : (import shake : ℕ) → Seam
  Behind : (import shake : ℕ) → Seam
  Giver : (import shake : ℕ) → Seam

abbrev IsHandshake : List Imported → ℕ → ℕ → Type 0
IsHandshake is i h = (x : Imported) × (slice_get is i ≡ Some x) × (h < count x.ty)

-- where they stand: k imports before the one that is served and n behind it, and t of the giver
abbrev pub together_link : ℕ → ℕ → Seam → Link
together_link k n (Served h) = link 0 (ImportEnd k h) 1 (ResultEnd h)
together_link k n (Before i h) = link 0 (ImportEnd i h) (suc (suc i)) (ResultEnd h)
together_link k n (Behind i h) = link 0 (ImportEnd (k + suc i) h) (suc (suc (k + i))) (ResultEnd h)
together_link k n (Giver i h) = link 1 (ImportEnd i h) (suc (suc (k + n + i))) (ResultEnd h)

abbrev pub apart_link : ℕ → ℕ → Seam → Link
apart_link k t (Served h) = link 0 (ImportEnd k h) (suc k) (ResultEnd h)
apart_link k t (Before i h) = link 0 (ImportEnd i h) (suc i) (ResultEnd h)
apart_link k t (Behind i h) = link 0 (ImportEnd (k + suc i) h) (suc (suc (k + t + i))) (ResultEnd h)
apart_link k t (Giver i h) = link (suc k) (ImportEnd i h) (suc (suc (k + i))) (ResultEnd h)

module _ (is js : List Imported) (x : Imported) (p q : Plan) (imports : p.imports ≡ is ++ (x ∷ js)) where
  abbrev pub IsSeam : Seam → Type 0
  IsSeam (Served h) = h < count x.ty
  IsSeam (Before i h) = IsHandshake is i h
  IsSeam (Behind i h) = IsHandshake js i h
  IsSeam (Giver i h) = IsHandshake q.imports i h

  abbrev pub IsOfSeam : (Seam → Link) → Link → Type 0
  IsOfSeam f m = (e : Seam) × IsSeam e × (m ≡ f e)

  abbrev k : ℕ
  k = length is

  -- all supplies behind
  module _ (s : Plan) (us : List Supply) (left : s.imports ≡ (is ++ js) ++ q.imports) (enough : length s.imports ≡ length us) where
    abbrev pub joint_first : List Wiring
    joint_first = serving k x.ty p q ∷ singles us

    abbrev pub together : Wiring
    together = flat (supplying s us) joint_first

    abbrev at_together : Seam → Link
    at_together = together_link k (length js)

    supply_end : (i h : ℕ) → i < length us → deeper joint_first (place (suc i) (ResultEnd h)) ≡ place (suc (suc i)) (ResultEnd h)
    supply_end i h low =
        let (u, at) = single_at us i low in
        let first = single_first us i low in
        let sum : 2 + first_of (singles us) i + 0 ≡ suc (suc i) = omega (arith, first) in
        let zeros : 0 + h ≡ h = omega arith in
        ap (λ (o : Option Wiring). later (2 + first_of (singles us) i) (origin_if o (ResultEnd h))) at ∙ (λ l. place (sum l) (ResultEnd (zeros l)))

    below : (i : ℕ) (z : Imported) → slice_get s.imports i ≡ Some z → i < length us
    below i z at = let low = slice_get_within s.imports i z at in omega (arith, low, enough)

    before_in : (i : ℕ) (z : Imported) → slice_get is i ≡ Some z → slice_get s.imports i ≡ Some z
    before_in i z at =
        ap (λ (l : List Imported). slice_get l i) left ∙ found_in_front (is ++ js) q.imports i z (found_in_front is js i z at)

    behind_in : (i : ℕ) (z : Imported) → slice_get js i ≡ Some z → slice_get s.imports (k + i) ≡ Some z
    behind_in i z at =
        ap (λ (l : List Imported). slice_get l (k + i)) left ∙ found_in_front (is ++ js) q.imports (k + i) z (found_behind is js i ∙ at)

    giver_in : (i : ℕ) (z : Imported) → slice_get q.imports i ≡ Some z → slice_get s.imports (length (is ++ js) + i) ≡ Some z
    giver_in i z at = ap (λ (l : List Imported). slice_get l (length (is ++ js) + i)) left ∙ (found_behind (is ++ js) q.imports i ∙ at)

    -- where a link of a supply stands
    before_is : (i h : ℕ) (z : Imported) → slice_get is i ≡ Some z → deeper_link joint_first (supply_link i h) ≡ at_together (Before i h)
    before_is i h z at =
        let one : deeper joint_first (place 0 (ImportEnd i h)) ≡ place 0 (ImportEnd i h) =
        ap (λ (o : Option LeftImport). later 0 (left_place o h)) (left_first is js x p q imports i z at)
        in
        let other = supply_end i h (below i z (before_in i z at)) in
        λ l. record { one = one l; other = other l }

    behind_is : (i h : ℕ) (z : Imported) → slice_get js i ≡ Some z → deeper_link joint_first (supply_link (k + i) h) ≡ at_together (Behind i h)
    behind_is i h z at =
        let one : deeper joint_first (place 0 (ImportEnd (k + i) h)) ≡ place 0 (ImportEnd (k + suc i) h) =
        ap (λ (o : Option LeftImport). later 0 (left_place o h)) (left_behind is js x p q imports i z at)
        in
        let other = supply_end (k + i) h (below (k + i) z (behind_in i z at)) in
        λ l. record { one = one l; other = other l }

    giver_is : (i h : ℕ) (z : Imported) → slice_get q.imports i ≡ Some z
        → deeper_link joint_first (supply_link (length (is ++ js) + i) h) ≡ at_together (Giver i h)
    giver_is i h z at =
        let one : deeper joint_first (place 0 (ImportEnd (length (is ++ js) + i) h)) ≡ place 1 (ImportEnd i h) =
        ap (λ (o : Option LeftImport). later 0 (left_place o h)) (left_second is js x p q imports i z at)
        in
        let other = supply_end (length (is ++ js) + i) h (below (length (is ++ js) + i) z (giver_in i z at)) in
        let size : length (is ++ js) ≡ k + length js = length-append is js in
        (λ l. record { one = one l; other = other l }) ∙ (λ l. link 1 (ImportEnd i h) (suc (suc (size l + i))) (ResultEnd h))

    pub together_seam : (m : Link) → Contains together.links m → IsOfSeam at_together m
    together_seam m has = by_flat (of_flat (supplying s us) joint_first m has)
      where
        by_stay : (l : Link) (number h : ℕ) (z : Imported) → h < count z.ty → l ≡ supply_link number h → deeper_link joint_first l ≡ m → InTwo is js number z
            → IsOfSeam at_together m
        by_stay l number h z small e same (inl at) =
            (Before number h, (z, at, small), sym same ∙ (ap (deeper_link joint_first) e ∙ before_is number h z at))
        by_stay l number h z small e same (inr (i, sum, at)) =
            (Behind i h, (z, at, small), sym same ∙ (ap (deeper_link joint_first) (e ∙ ap (λ (n : ℕ). supply_link n h) sum) ∙ behind_is i h z at))

        by_import : (l : Link) → OfImports 0 s.imports l → deeper_link joint_first l ≡ m → IsOfSeam at_together m
        by_import l there same =
            elim (in_two (is ++ js) q.imports there.number there.import (ap (λ (xs : List Imported). slice_get xs there.number) (sym left) ∙ there.at)) [
              | inl at ↦
                  by_stay l there.number there.shake there.import there.small (there.same ∙ plain there.number there.shake) same
                  (in_two is js there.number there.import at)
              | inr (i, sum, at) ↦ (
                Giver i there.shake,
                (there.import, at, there.small),
                sym same
                    ∙ (ap (deeper_link joint_first) (there.same ∙ (plain there.number there.shake ∙ ap (λ (n : ℕ). supply_link n there.shake) sum))
                    ∙ giver_is i there.shake there.import at),
              )
            ]

        by_flat : OfWiring joint_first m ⊎ OfOuter (supplying s us) joint_first m → IsOfSeam at_together m
        by_flat (inl (zero, v, l, at, among, same)) =
            let wirings : serving k x.ty p q ≡ v = cc at in
            let (h, small, is_l) = of_bound k 0 (count x.ty) l (subst (λ (u : Wiring). Contains u.links l) (sym wirings) among) in
            (Served h, omega (arith, small), sym same ∙ ap (later_link 0) is_l)
        by_flat (inl (suc n, v, l, at, among, same)) =
            let (j, small, e) = subst (λ (ls : List Link). Contains ls l) (single_links us n v at) among in absurd (omega (arith, small))
        by_flat (inr (l, among, same)) = by_import l (of_imports 0 s.imports l among) same

    pub seam_together : (e : Seam) → IsSeam e → Contains together.links (at_together e)
    seam_together (Served h) small =
        flat_inner (supplying s us) joint_first 0 (serving k x.ty p q) (bound_link k h) refl (in_bound k 0 (count x.ty) h (omega arith) (omega (arith, small)))
    seam_together (Before i h) (z, at, small) =
        subst (Contains together.links) (ap (deeper_link joint_first) (plain i h) ∙ before_is i h z at)
        (flat_outer (supplying s us) joint_first (supply_link (0 + i) h) (in_imports 0 s.imports i h z (before_in i z at) small))
    seam_together (Behind i h) (z, at, small) =
        subst (Contains together.links) (ap (deeper_link joint_first) (plain (k + i) h) ∙ behind_is i h z at)
        (flat_outer (supplying s us) joint_first (supply_link (0 + (k + i)) h) (in_imports 0 s.imports (k + i) h z (behind_in i z at) small))
    seam_together (Giver i h) (z, at, small) =
        subst (Contains together.links) (ap (deeper_link joint_first) (plain (length (is ++ js) + i) h) ∙ giver_is i h z at)
        (flat_outer (supplying s us) joint_first (supply_link (0 + (length (is ++ js) + i)) h)
        (in_imports 0 s.imports (length (is ++ js) + i) h z (giver_in i z at) small))

  -- the giver with its own
  module _ (v : Supply) (fs bs ts : List Supply) (first_size : length fs ≡ length is) (last_size : length bs ≡ length js) where
    abbrev pub own : List Wiring
    own = side 0 p.outcome p ∷ row fs bs (supplying q ts)

    abbrev pub apart : Wiring
    apart = flat (supplying p (fs ++ (v ∷ bs))) own

    abbrev t : ℕ
    t = length (plans_of ts)

    abbrev at_apart : Seam → Link
    at_apart = apart_link k t

    p_end : (i h : ℕ) (z : Imported) → slice_get p.imports i ≡ Some z → deeper own (place 0 (ImportEnd i h)) ≡ place 0 (ImportEnd i h)
    p_end i h z at =
        let left : all_left (side 0 p.outcome p) ≡ listed 0 0 p.imports = append-nil (left_in [] 0 0 p.imports) ∙ left_none [] 0 (λ j. refl) 0 p.imports in
        let zeros : 0 + i ≡ i = omega arith in
        ap (λ (l : List LeftImport). later 0 (left_place (slice_get l i) h)) left
        ∙ (ap (λ (o : Option LeftImport). later 0 (left_place o h)) (listed_at 0 0 p.imports i z at) ∙ ap (λ (n : ℕ). place 0 (ImportEnd n h)) zeros)

    before_end : (i h : ℕ) → i < length fs → deeper own (place (suc i) (ResultEnd h)) ≡ place (suc i) (ResultEnd h)
    before_end i h low =
        let (u, at, first) = before_at fs bs (supplying q ts) i low in
        let sum : 1 + first_of (row fs bs (supplying q ts)) i + 0 ≡ suc i = omega (arith, first) in
        let zeros : 0 + h ≡ h = omega arith in
        ap (λ (o : Option Wiring). later (1 + first_of (row fs bs (supplying q ts)) i) (origin_if o (ResultEnd h))) at
        ∙ (λ l. place (sum l) (ResultEnd (zeros l)))

    giver_at : (slice_get (row fs bs (supplying q ts)) k ≡ Some (supplying q ts)) × (1 + first_of (row fs bs (supplying q ts)) k ≡ suc k)
    giver_at =
        let (at, first) = middle_at fs bs (supplying q ts) in
        let number : length fs + 0 ≡ k = omega (arith, first_size) in
        let first_is : first_of (row fs bs (supplying q ts)) k ≡ length fs = ap (first_of (row fs bs (supplying q ts))) (sym number) ∙ first in (
          ap (slice_get (row fs bs (supplying q ts))) (sym number) ∙ at,
          omega (arith, first_is, first_size),
        )

    giver_end : (h : ℕ) → deeper own (place (suc k) (ResultEnd h)) ≡ place (suc k) (ResultEnd h)
    giver_end h =
        let first = giver_at.1 in
        let sum : 1 + first_of (row fs bs (supplying q ts)) k + 0 ≡ suc k = omega (arith, first) in
        let zeros : 0 + h ≡ h = omega arith in
        ap (λ (o : Option Wiring). later (1 + first_of (row fs bs (supplying q ts)) k) (origin_if o (ResultEnd h))) giver_at.0
        ∙ (λ l. place (sum l) (ResultEnd (zeros l)))

    behind_end : (i h : ℕ) → i < length bs → deeper own (place (suc (k + suc i)) (ResultEnd h)) ≡ place (suc (suc (k + t + i))) (ResultEnd h)
    behind_end i h low =
        let (u, at, first) = behind_at fs bs (supplying q ts) i low in
        let number : length fs + suc i ≡ k + suc i = omega (arith, first_size) in
        let first_is : first_of (row fs bs (supplying q ts)) (k + suc i) ≡ length fs + (suc t + i) =
        ap (first_of (row fs bs (supplying q ts))) (sym number) ∙ first
        in
        let sum : 1 + first_of (row fs bs (supplying q ts)) (k + suc i) + 0 ≡ suc (suc (k + t + i)) = omega (arith, first_is, first_size) in
        let zeros : 0 + h ≡ h = omega arith in
        ap (λ (o : Option Wiring). later (1 + first_of (row fs bs (supplying q ts)) (k + suc i)) (origin_if o (ResultEnd h)))
        (ap (slice_get (row fs bs (supplying q ts))) (sym number) ∙ at)
        ∙ (λ l. place (sum l) (ResultEnd (zeros l)))

    before_apart : (i : ℕ) (z : Imported) → slice_get is i ≡ Some z → slice_get p.imports i ≡ Some z
    before_apart i z at = ap (λ (l : List Imported). slice_get l i) imports ∙ found_in_front is (x ∷ js) i z at

    served_apart : slice_get p.imports k ≡ Some x
    served_apart =
        let zeros : k ≡ k + 0 = omega arith in (λ l. slice_get (imports l) (zeros l)) ∙ found_behind is (x ∷ js) 0

    behind_apart : (i : ℕ) (z : Imported) → slice_get js i ≡ Some z → slice_get p.imports (k + suc i) ≡ Some z
    behind_apart i z at = ap (λ (l : List Imported). slice_get l (k + suc i)) imports ∙ (found_behind is (x ∷ js) (suc i) ∙ at)

    before_link : (i h : ℕ) (z : Imported) → slice_get is i ≡ Some z → deeper_link own (supply_link i h) ≡ at_apart (Before i h)
    before_link i h z at =
        let one = p_end i h z (before_apart i z at) in
        let low = slice_get_within is i z at in
        let other = before_end i h (omega (arith, low, first_size)) in
        λ l. record { one = one l; other = other l }

    served_link : (h : ℕ) → deeper_link own (supply_link k h) ≡ at_apart (Served h)
    served_link h = let one = p_end k h x served_apart in let other = giver_end h in λ l. record { one = one l; other = other l }

    behind_link : (i h : ℕ) (z : Imported) → slice_get js i ≡ Some z → deeper_link own (supply_link (k + suc i) h) ≡ at_apart (Behind i h)
    behind_link i h z at =
        let one = p_end (k + suc i) h z (behind_apart i z at) in
        let low = slice_get_within js i z at in
        let other = behind_end i h (omega (arith, low, last_size)) in
        λ l. record { one = one l; other = other l }

    giver_link : (i h : ℕ) → later_link (first_of own (suc k)) (supply_link (0 + i) h) ≡ at_apart (Giver i h)
    giver_link i h =
        let first = giver_at.1 in
        let zeros : 0 + i ≡ i = omega arith in
        let at_q : 1 + first_of (row fs bs (supplying q ts)) k + 0 ≡ suc k = omega (arith, first) in
        let next : 1 + first_of (row fs bs (supplying q ts)) k + suc (0 + i) ≡ suc (suc (k + i)) = omega (arith, first) in
        λ l. link (at_q l) (ImportEnd (zeros l) h) (next l) (ResultEnd h)

    pub apart_seam : (m : Link) → Contains apart.links m → IsOfSeam at_apart m
    apart_seam m has = by_flat (of_flat (supplying p (fs ++ (v ∷ bs))) own m has)
      where
        none : (l : Link) → Contains [] l → ⊥
        none l (j, small, e) = omega (arith, small)

        by_rest : (l : Link) (number h i : ℕ) (z : Imported) → h < count z.ty → l ≡ supply_link number h → deeper_link own l ≡ m → number ≡ k + i
            → slice_get (x ∷ js) i ≡ Some z → IsOfSeam at_apart m
        by_rest l number h zero z small e same sum at =
            let is_z : x ≡ z = cc at in
            let here : number ≡ k = omega (arith, sum) in (
              Served h,
              subst (λ (y : Imported). h < count y.ty) (sym is_z) small,
              sym same ∙ (ap (deeper_link own) (e ∙ ap (λ (n : ℕ). supply_link n h) here) ∙ served_link h),
            )
        by_rest l number h (suc i) z small e same sum at =
            (Behind i h, (z, at, small), sym same ∙ (ap (deeper_link own) (e ∙ ap (λ (n : ℕ). supply_link n h) sum) ∙ behind_link i h z at))

        by_import : (l : Link) → OfImports 0 p.imports l → deeper_link own l ≡ m → IsOfSeam at_apart m
        by_import l there same =
            elim (in_two is (x ∷ js) there.number there.import (ap (λ (xs : List Imported). slice_get xs there.number) (sym imports) ∙ there.at)) [
              | inl at ↦ (
                Before there.number there.shake,
                (there.import, at, there.small),
                sym same ∙ (ap (deeper_link own) (there.same ∙ plain there.number there.shake) ∙ before_link there.number there.shake there.import at),
              )
              | inr (i, sum, at) ↦
                  by_rest l there.number there.shake i there.import there.small (there.same ∙ plain there.number there.shake) same sum at
            ]

        by_row : (n : ℕ) (w : Wiring) (l : Link) → Contains w.links l → later_link (first_of own (suc n)) l ≡ m
            → InTwo (singles fs) (supplying q ts ∷ singles bs) n w → IsOfSeam at_apart m
        by_row n w l among same (inl at) = absurd (none l (subst (λ (ls : List Link). Contains ls l) (single_links fs n w at) among))
        by_row n w l among same (inr (zero, sum, at)) =
            let wirings : supplying q ts ≡ w = cc at in
            let there = of_imports 0 q.imports l (subst (λ (u : Wiring). Contains u.links l) (sym wirings) among) in
            let size : length (singles fs) ≡ length fs = length-map fs single in
            let number : n ≡ k = omega (arith, sum, size, first_size) in (
              Giver there.number there.shake,
              (there.import, there.at, there.small),
              sym same
                  ∙ (ap (λ (j : ℕ). later_link (first_of own (suc j)) l) number
                  ∙ (ap (later_link (first_of own (suc k))) there.same ∙ giver_link there.number there.shake)),
            )
        by_row n w l among same (inr (suc i, sum, at)) =
            absurd (none l (subst (λ (ls : List Link). Contains ls l) (single_links bs i w at) among))

        by_flat : OfWiring own m ⊎ OfOuter (supplying p (fs ++ (v ∷ bs))) own m → IsOfSeam at_apart m
        by_flat (inl (zero, w, l, at, among, same)) =
            let wirings : side 0 p.outcome p ≡ w = cc at in absurd (none l (subst (λ (u : Wiring). Contains u.links l) (sym wirings) among))
        by_flat (inl (suc n, w, l, at, among, same)) = by_row n w l among same (in_two (singles fs) (supplying q ts ∷ singles bs) n w at)
        by_flat (inr (l, among, same)) = by_import l (of_imports 0 p.imports l among) same

    pub seam_apart : (e : Seam) → IsSeam e → Contains apart.links (at_apart e)
    seam_apart (Served h) small =
        subst (Contains apart.links) (ap (deeper_link own) (plain k h) ∙ served_link h)
        (flat_outer (supplying p (fs ++ (v ∷ bs))) own (supply_link (0 + k) h) (in_imports 0 p.imports k h x served_apart small))
    seam_apart (Before i h) (z, at, small) =
        subst (Contains apart.links) (ap (deeper_link own) (plain i h) ∙ before_link i h z at)
        (flat_outer (supplying p (fs ++ (v ∷ bs))) own (supply_link (0 + i) h) (in_imports 0 p.imports i h z (before_apart i z at) small))
    seam_apart (Behind i h) (z, at, small) =
        subst (Contains apart.links) (ap (deeper_link own) (plain (k + suc i) h) ∙ behind_link i h z at)
        (flat_outer (supplying p (fs ++ (v ∷ bs))) own (supply_link (0 + (k + suc i)) h) (in_imports 0 p.imports (k + suc i) h z (behind_apart i z at) small))
    seam_apart (Giver i h) (z, at, small) =
        subst (Contains apart.links) (giver_link i h)
        (flat_inner (supplying p (fs ++ (v ∷ bs))) own (suc k) (supplying q ts) (supply_link (0 + i) h) giver_at.0 (in_imports 0 q.imports i h z at small))
