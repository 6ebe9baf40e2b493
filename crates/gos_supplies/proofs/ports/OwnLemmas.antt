-- A plan with each import supplied by its own name: its terms, its imports, and where its ends stand.
use Rattle.std.specs.Prelude.{◌≡◌, ℕ, zero, suc, ◌+◌, ◌<◌, Bool, true, false, List, [], ◌∷◌, ◌++◌, length, Option, Some, None, Contains, slice_get, if◌then◌else◌}
use Rattle.std.specs.Str.{bytes_eq}
use Rattle.std.proofs.Common.{refl, sym, ◌∙◌, ap, subst, arith, inl, inr}
use Rattle.std.proofs.lemmas.Option.{slice_get_within}
use Rattle.std.proofs.lemmas.List.{append-nil}
use Rattle.gos_types.specs.Types.{Type', Com, Exp, Var, Pair, Fun}
use Rattle.gos_types.specs.Widths.{HasWidths}
use Rattle.gos_types.proofs.BytesLemmas.{bytes_eq_same}
use Rattle.gos_model.specs.Terms.{Name, Term, Skip, Lit, Bound, Import, Lam, App, Both, Fst, Snd, Seq, Par, If, While, Assign, Deref, New, NewArray, Not, Bin, Loc, Arr, Scope, Wait, Held, Put}
use Rattle.gos_model.specs.Typing.{Imported}
use Rattle.gos_model.specs.Linking.{or_import, supplied}
use Rattle.gos_plan.specs.Kinds.{Part, Contact, contacts_of}
use Rattle.gos_plan.specs.Plans.{End, PartEnd, ImportEnd, ResultEnd, Joint, Plan, contact_at, contacts_of_part, contacts_of_import}
use Rattle.gos_plan.specs.Joining.{Place, place, Link, Wiring, LeftImport, all_parts, left_in, left_among, all_left, left_place, part_place, origin}
use Rattle.gos_realises.specs.realises.Regular.{count}
use Rattle.gos_realises.specs.realises.Realises.{AllGround}
use Rattle.gos_realises.specs.realises.Modules.{Supply, plans_of, AreSupplied, term_for, imports_linked, supplying, HaveWidths}
use Rattle.gos_realises.proofs.realises.LeftLemmas.{left_joined}
use Rattle.gos_realises.proofs.joined.ReachLemmas.{Step, Paths, paths_then, paths_back}
use Rattle.gos_joining.specs.webs.Webs.{joint}
use Rattle.gos_joining.proofs.unions.DeepLemmas.{place_of_part}
use Rattle.gos_joining.proofs.renumbered.SupplyLemmas.{supply_link, OfImports, of_imports, in_imports, plan_at, supply_at, first_joined, supply_free}
use Rattle.gos_supplies.specs.typing.Supplied.{imports_of}
use Rattle.gos_supplies.specs.names.Names.{passed_on, name_plan, HasWidth, NameIsRealised}
use Rattle.gos_supplies.proofs.ports.ShadowLemmas.{Near, OfJoint, joint_near, IsShadow}

type_has : (t : Type') → HasWidths t → HasWidth t
type_has Com wide = tt
type_has (Exp w) wide = tt
type_has (Var w) wide = wide
type_has (Pair a b) wide = tt
type_has (Fun a b) wide = tt

-- the supplies by which imports stay imports
abbrev own_supply : Imported → Supply
own_supply i = record { plan = name_plan i.name i.ty; term = Import i.name }

abbrev pub own_supplies : List Imported → List Supply
own_supplies [] = []
own_supplies (i ∷ is) = own_supply i ∷ own_supplies is

pub own_are : NameIsRealised → (is : List Imported) → AllGround is → HaveWidths is → AreSupplied is (own_supplies is)
own_are named [] ground wide = tt
own_are named (i ∷ is) ground wide = (named i.name i.ty ground.0 (type_has i.ty wide.0), own_are named is ground.1 wide.1)

-- the term stays
pub own_term : (is : List Imported) (x : Name) → or_import x (term_for is (own_supplies is) x) ≡ Import x
own_term [] x = refl
own_term (i ∷ is) x = by_test (bytes_eq i.name x) refl (own_term is x)
  where
    by_test : (b : Bool) → bytes_eq i.name x ≡ b → or_import x (term_for is (own_supplies is) x) ≡ Import x
        → or_import x (if b then Some (Import i.name) else term_for is (own_supplies is) x) ≡ Import x
    by_test true test rest = ap (λ (y : Name). Import y) (bytes_eq_same i.name x test)
    by_test false test rest = rest

module _ (f : Name → Option Term) (own : (x : Name) → or_import x (f x) ≡ Import x) where
  pub supplied_stays : (m : Term) → supplied f m ≡ m
  supplied_stays Skip = refl
  supplied_stays (Lit k w) = refl
  supplied_stays (Bound n) = refl
  supplied_stays (Import x) = own x
  supplied_stays (Lam a m) = ap (λ (n : Term). Lam a n) (supplied_stays m)
  supplied_stays (App m n) = let one = supplied_stays m in let two = supplied_stays n in λ j. App (one j) (two j)
  supplied_stays (Both m n) = let one = supplied_stays m in let two = supplied_stays n in λ j. Both (one j) (two j)
  supplied_stays (Fst m) = ap (λ (n : Term). Fst n) (supplied_stays m)
  supplied_stays (Snd m) = ap (λ (n : Term). Snd n) (supplied_stays m)
  supplied_stays (Seq m n) = let one = supplied_stays m in let two = supplied_stays n in λ j. Seq (one j) (two j)
  supplied_stays (Par m n) = let one = supplied_stays m in let two = supplied_stays n in λ j. Par (one j) (two j)
  supplied_stays (If m n p) =
      let one = supplied_stays m in let two = supplied_stays n in let three = supplied_stays p in λ j. If (one j) (two j) (three j)
  supplied_stays (While m n) = let one = supplied_stays m in let two = supplied_stays n in λ j. While (one j) (two j)
  supplied_stays (Assign m n) = let one = supplied_stays m in let two = supplied_stays n in λ j. Assign (one j) (two j)
  supplied_stays (Deref m) = ap (λ (n : Term). Deref n) (supplied_stays m)
  supplied_stays (New w m) = ap (λ (n : Term). New w n) (supplied_stays m)
  supplied_stays (NewArray k w m) = ap (λ (n : Term). NewArray k w n) (supplied_stays m)
  supplied_stays (Not m) = ap (λ (n : Term). Not n) (supplied_stays m)
  supplied_stays (Bin op m n) = let one = supplied_stays m in let two = supplied_stays n in λ j. Bin op (one j) (two j)
  supplied_stays (Loc l) = refl
  supplied_stays (Arr l) = refl
  supplied_stays (Scope l m) = ap (λ (n : Term). Scope l n) (supplied_stays m)
  supplied_stays (Wait x s) = refl
  supplied_stays (Held k op m) = ap (λ (n : Term). Held k op n) (supplied_stays m)
  supplied_stays (Put m k) = ap (λ (n : Term). Put n k) (supplied_stays m)

-- no parts are added, and the imports are the same
own_parts : (is : List Imported) → all_parts (plans_of (own_supplies is)) ≡ []
own_parts [] = refl
own_parts (i ∷ is) = own_parts is

pub parts_stay : (p : Plan) → all_parts (p ∷ plans_of (own_supplies p.imports)) ≡ p.parts
parts_stay p = ap (λ (ks : List Part). p.parts ++ ks) (own_parts p.imports) ∙ append-nil p.parts

pub own_imports : (is : List Imported) → imports_of (own_supplies is) ≡ is
own_imports [] = refl
own_imports (i ∷ is) = ap (λ (l : List Imported). i ∷ l) (own_imports is)

-- each is the one import of its name's plan
abbrev own_left : ℕ → List Imported → List LeftImport
own_left k [] = []
own_left k (x ∷ xs) = record { plan = k; number = 0; import = x } ∷ own_left (suc k) xs

names_left : (is : List Imported) (k : ℕ) (xs : List Imported) → left_among (imports_linked 0 is) (suc k) (plans_of (own_supplies xs)) ≡ own_left (suc k) xs
names_left is k [] = refl
names_left is k (x ∷ xs) =
    let free = supply_free is k 0 in
    let rest = names_left is (suc k) xs in
    λ j. (if free j then [] else record { plan = suc k; number = 0; import = x } ∷ []) ++ rest j

own_at : (k : ℕ) (xs : List Imported) (i : ℕ) (x : Imported) → slice_get xs i ≡ Some x
    → slice_get (own_left k xs) i ≡ Some (record { plan = k + i; number = 0; import = x })
own_at k [] i x at = absurd (cc at)
own_at k (y ∷ xs) zero x at =
    let zeros : k ≡ k + 0 = omega arith in
    let same : y ≡ x = cc at in
    λ l. Some (record { plan = zeros l; number = 0; import = same l })
own_at k (y ∷ xs) (suc i) x at =
    let sum : suc k + i ≡ k + suc i = omega arith in own_at (suc k) xs i x at ∙ (λ l. Some (record { plan = sum l; number = 0; import = x }))

own_supply_at : (is : List Imported) (n : ℕ) (x : Imported) → slice_get is n ≡ Some x → slice_get (own_supplies is) n ≡ Some (own_supply x)
own_supply_at [] n x at = absurd (cc at)
own_supply_at (i ∷ is) zero x at = let same : i ≡ x = cc at in ap (λ (y : Imported). Some (own_supply y)) same
own_supply_at (i ∷ is) (suc n) x at = own_supply_at is n x at

of_own_supply : (is : List Imported) (n : ℕ) (s : Supply) → slice_get (own_supplies is) n ≡ Some s → (x : Imported) × (own_supply x ≡ s)
of_own_supply [] n s at = absurd (cc at)
of_own_supply (i ∷ is) zero s at = (i, cc at)
of_own_supply (i ∷ is) (suc n) s at = of_own_supply is n s at

-- the joints of a name
abbrev pub passing : ℕ → Joint
passing h = joint (ResultEnd h) (ImportEnd 0 h)

pub of_passed : (n m : ℕ) (j : Joint) → Contains (passed_on n m) j → (h : ℕ) × (j ≡ passing h)
of_passed n zero j (k, small, e) = absurd (omega (arith, small))
of_passed n (suc m) j (zero, small, e) = (n, sym e)
of_passed n (suc m) j (suc k, small, e) = of_passed (suc n) m j (k, omega (arith, small), e)

passed_later : (n m h : ℕ) → Contains (passed_on (suc n) m) (passing h) → Contains (passed_on n (suc m)) (passing h)
passed_later n m h (k, small, e) = (suc k, omega (arith, small), e)

in_passed_from : (n m d : ℕ) → d < m → Contains (passed_on n m) (passing (n + d))
in_passed_from n zero d low = absurd (omega (arith, low))
in_passed_from n (suc m) zero low = let zeros : n ≡ n + 0 = omega arith in (0, omega arith, ap passing zeros)
in_passed_from n (suc m) (suc d) low =
    let sum : suc n + d ≡ n + suc d = omega arith in
    subst (λ (h : ℕ). Contains (passed_on n (suc m)) (passing h)) sum (passed_later n m (suc n + d) (in_passed_from (suc n) m d (omega (arith, low))))

pub in_passed : (m h : ℕ) → h < m → Contains (passed_on 0 m) (passing h)
in_passed m h low = let zeros : 0 + h ≡ h = omega arith in subst (λ (k : ℕ). Contains (passed_on 0 m) (passing k)) zeros (in_passed_from 0 m h low)

pub part_in_range : (p : Plan) (i h : ℕ) (c : Contact) → slice_get (contacts_of_part (slice_get p.parts i)) h ≡ Some c → i < length p.parts
part_in_range p i h c e = by_part (slice_get p.parts i) refl e
  where
    by_part : (o : Option Part) → slice_get p.parts i ≡ o → slice_get (contacts_of_part o) h ≡ Some c → i < length p.parts
    by_part None none there = absurd (cc there)
    by_part (Some k) at there = slice_get_within p.parts i k at

pub import_there : (is : List Imported) (i h : ℕ) (c : Contact) → slice_get (contacts_of_import (slice_get is i)) h ≡ Some c
    → (x : Imported) × (slice_get is i ≡ Some x) × (h < count x.ty)
import_there is i h c e = by_import (slice_get is i) refl e
  where
    by_import : (o : Option Imported) → slice_get is i ≡ o → slice_get (contacts_of_import o) h ≡ Some c → (x : Imported) × (slice_get is i ≡ Some x) × (h < count x.ty)
    by_import None none there = absurd (cc there)
    by_import (Some x) at there = (x, at, slice_get_within (contacts_of x.ty) h c there)

-- an end stands in the plan, or an import's in the plan of its name
abbrev pub own_stand : End → Place
own_stand (PartEnd i h) = place 0 (PartEnd i h)
own_stand (ImportEnd i h) = place (suc i) (ImportEnd 0 h)
own_stand (ResultEnd h) = place 0 (ResultEnd h)

abbrev own_end : ℕ → End → End
own_end zero e = e
own_end (suc k) (PartEnd i h) = PartEnd i h
own_end (suc k) (ImportEnd i h) = ImportEnd k h
own_end (suc k) (ResultEnd h) = ImportEnd k h

abbrev pub own_home : Place → End
own_home a = own_end a.plan a.end

module _ (p : Plan) where
  abbrev named : Wiring
  named = supplying p (own_supplies p.imports)

  own_all : all_left named ≡ own_left 1 p.imports
  own_all =
      let none : left_in (imports_linked 0 p.imports) 0 0 p.imports ≡ [] = left_joined (imports_linked 0 p.imports) 0 0 p.imports (first_joined p.imports) in
      let rest = names_left p.imports 0 p.imports in
      λ j. none j ++ rest j

  stands : (e : End) (c : Contact) → contact_at p e ≡ Some c → origin named e ≡ own_stand e
  stands (PartEnd i h) c there =
      let zeros : i ≡ 0 + i = omega arith in
      ap (λ (n : ℕ). part_place 0 named.plans n h) zeros ∙ place_of_part 0 named.plans 0 i h p refl (part_in_range p i h c there)
  stands (ImportEnd i h) c there =
      let (x, at, low) = import_there p.imports i h c there in
      let sum : 1 + i ≡ suc i = omega arith in
      ap (λ (l : List LeftImport). left_place (slice_get l i) h) own_all
      ∙ (ap (λ (o : Option LeftImport). left_place o h) (own_at 1 p.imports i x at) ∙ ap (λ (n : ℕ). place n (ImportEnd 0 h)) sum)
  stands (ResultEnd h) c there = let zeros : 0 + h ≡ h = omega arith in ap (λ (n : ℕ). place 0 (ResultEnd n)) zeros

  returns : (e : End) → own_home (own_stand e) ≡ e
  returns (PartEnd i h) = refl
  returns (ImportEnd i h) = refl
  returns (ResultEnd h) = refl

  passing_home : (k h : ℕ) (j : Joint) (e f : End) → j ≡ passing h → OfJoint j e f → own_end (suc k) e ≡ own_end (suc k) f
  passing_home k h j e f same (inl (one, other)) =
      ap (own_end (suc k)) (one ∙ ap (λ (i : Joint). i.asking) same) ∙ sym (ap (own_end (suc k)) (other ∙ ap (λ (i : Joint). i.serving) same))
  passing_home k h j e f same (inr (one, other)) =
      ap (own_end (suc k)) (one ∙ ap (λ (i : Joint). i.serving) same) ∙ sym (ap (own_end (suc k)) (other ∙ ap (λ (i : Joint). i.asking) same))

  within_near : (k : ℕ) (e f : End) (q : Plan) (j : Joint) → slice_get named.plans k ≡ Some q → Contains q.joints j → OfJoint j e f
      → Near p (own_end k e) (own_end k f)
  within_near zero e f q j is has ways =
      let plans : p ≡ q = cc is in joint_near p j e f (subst (λ (x : Plan). Contains x.joints j) (sym plans) has) ways
  within_near (suc k) e f q j is has ways =
      let (s, at, same) = supply_at (own_supplies p.imports) k q is in
      let (x, of_x) = of_own_supply p.imports k s at in
      let plans : (own_supply x).plan ≡ q = ap (λ (u : Supply). u.plan) of_x ∙ same in
      let (h, passes) = of_passed 0 (count x.ty) j (subst (λ (y : Plan). Contains y.joints j) (sym plans) has) in
      inl (passing_home k h j e f passes ways)

  link_home : (l : Link) → OfImports 0 p.imports l → own_home l.one ≡ own_home l.other
  link_home l there = ap (λ (m : Link). own_home m.one) there.same ∙ sym (ap (λ (m : Link). own_home m.other) there.same)

  near : (a b : Place) → Step named a b → Near p (own_home a) (own_home b)
  near a b (inl (q, j, same, is, has, ways)) =
      subst (λ (k : ℕ). Near p (own_end a.plan a.end) (own_end k b.end)) same (within_near a.plan a.end b.end q j is has ways)
  near a b (inr (l, has, inl (e, f))) = inl (ap own_home e ∙ (link_home l (of_imports 0 p.imports l has) ∙ sym (ap own_home f)))
  near a b (inr (l, has, inr (e, f))) = inl (ap own_home e ∙ (sym (link_home l (of_imports 0 p.imports l has)) ∙ sym (ap own_home f)))

  -- from where an end stands a path leads to it in the plan
  leads : (e : End) (c : Contact) → contact_at p e ≡ Some c → Paths named (own_stand e) (place 0 e)
  leads (PartEnd i h) c there = (0, refl)
  leads (ResultEnd h) c there = (0, refl)
  leads (ImportEnd i h) c there =
      let (x, at, low) = import_there p.imports i h c there in
      let at_plan = plan_at (own_supplies p.imports) i (own_supply x) (own_supply_at p.imports i x at) in
      let linked : Contains (imports_linked 0 p.imports) (supply_link i h) =
      (let zeros : 0 + i ≡ i = omega arith in subst (λ (n : ℕ). Contains (imports_linked 0 p.imports) (supply_link n h)) zeros (in_imports 0 p.imports i h x at low))
      in (
        2,
        (
          place (suc i) (ResultEnd h),
          inl (name_plan x.name x.ty, passing h, refl, at_plan, in_passed (count x.ty) h low, inr (refl, refl)),
          (place 0 (ImportEnd i h), inr (supply_link i h, linked, inr (refl, refl)), refl),
        ),
      )

  reach : (a b : End) (c d : Contact) → contact_at p a ≡ Some c → contact_at p b ≡ Some d → Contains p.joints (joint a b)
      → Paths named (own_stand a) (own_stand b)
  reach a b c d at_a at_b has =
      paths_then named (own_stand a) (place 0 a) (own_stand b) (leads a c at_a)
      (paths_then named (place 0 a) (place 0 b) (own_stand b) (1, (place 0 b, inl (p, joint a b, refl, refl, has, inl (refl, refl)), refl))
      (paths_back named (own_stand b) (place 0 b) (leads b d at_b)))

  pub own_shadow : IsShadow named p own_stand own_home
  own_shadow = record { stands = stands; returns = returns; near = near; reach = reach }
