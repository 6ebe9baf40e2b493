-- The plan of the name of an array's import, joined to what is put in, is that.
use Rattle.std.specs.Prelude.{◌≡◌, ℕ, zero, suc, ◌+◌, ◌<◌, Bool, List, [], ◌∷◌, ◌++◌, Option, Some, None, Contains, slice_get, if◌then◌else◌}
use Rattle.std.specs.Str.{bytes_eq}
use Rattle.std.proofs.Common.{refl, sym, ◌∙◌, ap, subst, arith, inl, inr}
use Rattle.std.proofs.lemmas.List.{append-nil}
use Rattle.gos_types.specs.Types.{Type', Exp, Var, Fun}
use Rattle.gos_types.proofs.BytesLemmas.{bytes_eq_itself}
use Rattle.gos_model.specs.Terms.{Name}
use Rattle.gos_model.specs.Typing.{Imported}
use Rattle.gos_model.specs.Linking.{or_import}
use Rattle.gos_plan.specs.Kinds.{Contact, contacts_of}
use Rattle.gos_plan.specs.Plans.{End, PartEnd, ImportEnd, ResultEnd, Joint, Plan, contact_at, turned_if}
use Rattle.gos_plan.specs.Joining.{Place, place, Link, Wiring, LeftImport, left_in, all_left, left_place, part_place, origin}
use Rattle.gos_realises.specs.realises.Regular.{count}
use Rattle.gos_realises.specs.realises.Links.{IsJoined}
use Rattle.gos_realises.specs.realises.Realises.{Realises}
use Rattle.gos_realises.specs.realises.Modules.{Supply, imports_linked, supplying}
use Rattle.gos_realises.proofs.realises.LeftLemmas.{left_list, left_all, left_at, left_joined}
use Rattle.gos_realises.proofs.joined.ReachLemmas.{Step, Paths, paths_then, paths_back}
use Rattle.gos_realises.proofs.realises.CountLemmas.{below_count}
use Rattle.gos_joining.specs.webs.Webs.{joint}
use Rattle.gos_joining.proofs.unions.DeepLemmas.{place_of_part}
use Rattle.gos_joining.specs.renumbered.SmallRewirings.{unchanged}
use Rattle.gos_joining.proofs.renumbered.HigherLemmas.{renumbered_is_realised}
use Rattle.gos_joining.proofs.renumbered.SupplyLemmas.{supply_link, OfImports, of_imports, in_imports, first_joined, supply_free}
use Rattle.gos_supplies.proofs.typing.LeftLemmas.{imports_are_of_supplies}
use Rattle.gos_supplies.specs.names.Names.{imported}
use Rattle.gos_supplies.specs.arrays.ArrayNames.{array_name, ArrayNameIsOpen}
use Rattle.gos_supplies.proofs.ports.ShadowLemmas.{Near, OfJoint, joint_near, IsShadow, shadow_is_it}
use Rattle.gos_supplies.proofs.ports.OwnLemmas.{part_in_range, import_there}

-- an end stands in what is put in, and the result's in the plan of the name
abbrev given_stand : End → Place
given_stand (PartEnd i h) = place 1 (PartEnd i h)
given_stand (ImportEnd i h) = place 1 (ImportEnd i h)
given_stand (ResultEnd h) = place 0 (ResultEnd h)

abbrev given_end : ℕ → End → End
given_end zero (PartEnd i h) = PartEnd i h
given_end zero (ImportEnd i h) = ResultEnd h
given_end zero (ResultEnd h) = ResultEnd h
given_end (suc k) e = e

abbrev given_home : Place → End
given_home a = given_end a.plan a.end

module _ (x : Name) (i w : ℕ) (s : Supply) (outcome : s.plan.outcome ≡ Fun (Exp i) (Var w)) where
  abbrev t : Type'
  t = Fun (Exp i) (Var w)

  abbrev only : List Imported
  only = imported x t ∷ []

  abbrev given : Wiring
  given = supplying (array_name x i w) (s ∷ [])

  given_left : all_left given ≡ left_list 1 0 s.plan.imports ++ []
  given_left =
      let none : left_in (imports_linked 0 only) 0 0 only ≡ [] = left_joined (imports_linked 0 only) 0 0 only (first_joined only) in
      let rest = left_all (imports_linked 0 only) 1 (supply_free only 0) 0 s.plan.imports in
      λ j. none j ++ (rest j ++ [])

  stands : (e : End) (c : Contact) → contact_at s.plan e ≡ Some c → origin given e ≡ given_stand e
  stands (PartEnd i h) c there =
      let zeros : i ≡ 0 + i = omega arith in
      ap (λ (m : ℕ). part_place 0 given.plans m h) zeros ∙ place_of_part 0 given.plans 1 i h s.plan refl (part_in_range s.plan i h c there)
  stands (ImportEnd i h) c there =
      let (y, at, low) = import_there s.plan.imports i h c there in
      let zeros : 0 + i ≡ i = omega arith in
      ap (λ (l : List LeftImport). left_place (slice_get l i) h) given_left
      ∙ (ap (λ (o : Option LeftImport). left_place o h) (left_at 1 0 s.plan.imports i y at) ∙ ap (λ (m : ℕ). place 1 (ImportEnd m h)) zeros)
  stands (ResultEnd h) c there = let zeros : 0 + h ≡ h = omega arith in ap (λ (m : ℕ). place 0 (ResultEnd m)) zeros

  returns : (e : End) → given_home (given_stand e) ≡ e
  returns (PartEnd i h) = refl
  returns (ImportEnd i h) = refl
  returns (ResultEnd h) = refl

  same_home : (y j : Joint) (e f : End) → y ≡ j → given_end 0 y.asking ≡ given_end 0 y.serving → OfJoint j e f → given_end 0 e ≡ given_end 0 f
  same_home y j e f same alike (inl (one, other)) =
      ap (given_end 0) (one ∙ ap (λ (u : Joint). u.asking) (sym same)) ∙ (alike ∙ sym (ap (given_end 0) (other ∙ ap (λ (u : Joint). u.serving) (sym same))))
  same_home y j e f same alike (inr (one, other)) =
      ap (given_end 0) (one ∙ ap (λ (u : Joint). u.serving) (sym same)) ∙ (sym alike ∙ sym (ap (given_end 0) (other ∙ ap (λ (u : Joint). u.asking) (sym same))))

  passing_home : (j : Joint) (e f : End) → Contains (array_name x i w).joints j → OfJoint j e f → given_end 0 e ≡ given_end 0 f
  passing_home j e f (zero, low, at) ways = same_home (joint (ImportEnd 0 0) (ResultEnd 0)) j e f at refl ways
  passing_home j e f (suc zero, low, at) ways = same_home (joint (ResultEnd 1) (ImportEnd 0 1)) j e f at refl ways
  passing_home j e f (suc (suc zero), low, at) ways = same_home (joint (ResultEnd 2) (ImportEnd 0 2)) j e f at refl ways
  passing_home j e f (suc (suc (suc k)), low, at) ways = absurd (omega (arith, low))

  within_near : (k : ℕ) (e f : End) (q : Plan) (j : Joint) → slice_get given.plans k ≡ Some q → Contains q.joints j → OfJoint j e f
      → Near s.plan (given_end k e) (given_end k f)
  within_near zero e f q j is has ways =
      let plans : array_name x i w ≡ q = cc is in
      inl (passing_home j e f (subst (λ (y : Plan). Contains y.joints j) (sym plans) has) ways)
  within_near (suc zero) e f q j is has ways =
      let plans : s.plan ≡ q = cc is in joint_near s.plan j e f (subst (λ (y : Plan). Contains y.joints j) (sym plans) has) ways
  within_near (suc (suc k)) e f q j is has ways = absurd (cc is)

  link_home : (l : Link) → OfImports 0 only l → given_home l.one ≡ given_home l.other
  link_home l there = ap (λ (m : Link). given_home m.one) there.same ∙ sym (ap (λ (m : Link). given_home m.other) there.same)

  near : (a b : Place) → Step given a b → Near s.plan (given_home a) (given_home b)
  near a b (inl (q, j, same, is, has, ways)) =
      subst (λ (k : ℕ). Near s.plan (given_end a.plan a.end) (given_end k b.end)) same (within_near a.plan a.end b.end q j is has ways)
  near a b (inr (l, has, inl (e, f))) = inl (ap given_home e ∙ (link_home l (of_imports 0 only l has) ∙ sym (ap given_home f)))
  near a b (inr (l, has, inr (e, f))) = inl (ap given_home e ∙ (sym (link_home l (of_imports 0 only l has)) ∙ sym (ap given_home f)))

  crosses : (h : ℕ) → h < 3 → Step given (place 0 (ResultEnd h)) (place 0 (ImportEnd 0 h))
  crosses zero low = inl (array_name x i w, joint (ImportEnd 0 0) (ResultEnd 0), refl, refl, (0, omega arith, refl), inr (refl, refl))
  crosses (suc zero) low = inl (array_name x i w, joint (ResultEnd 1) (ImportEnd 0 1), refl, refl, (1, omega arith, refl), inl (refl, refl))
  crosses (suc (suc zero)) low = inl (array_name x i w, joint (ResultEnd 2) (ImportEnd 0 2), refl, refl, (2, omega arith, refl), inl (refl, refl))
  crosses (suc (suc (suc h))) low = absurd (omega (arith, low))

  leads : (e : End) (c : Contact) → contact_at s.plan e ≡ Some c → Paths given (given_stand e) (place 1 e)
  leads (PartEnd k h) c there = (0, refl)
  leads (ImportEnd k h) c there = (0, refl)
  leads (ResultEnd h) c there =
      let low : h < count t = below_count t h c (ap (λ (u : Type'). turned_if (slice_get (contacts_of u) h)) (sym outcome) ∙ there) in (
        2,
        (
          place 0 (ImportEnd 0 h),
          crosses h low,
          (place 1 (ResultEnd h), inr (supply_link 0 h, in_imports 0 only 0 h (imported x t) refl low, inl (refl, refl)), refl),
        ),
      )

  reach : (a b : End) (c d : Contact) → contact_at s.plan a ≡ Some c → contact_at s.plan b ≡ Some d → Contains s.plan.joints (joint a b)
      → Paths given (given_stand a) (given_stand b)
  reach a b c d at_a at_b has =
      paths_then given (given_stand a) (place 1 a) (given_stand b) (leads a c at_a)
      (paths_then given (place 1 a) (place 1 b) (given_stand b) (1, (place 1 b, inl (s.plan, joint a b, refl, refl, has, inl (refl, refl)), refl))
      (paths_back given (given_stand b) (place 1 b) (leads b d at_b)))

  given_shadow : IsShadow given s.plan given_stand given_home
  given_shadow = record { stands = stands; returns = returns; near = near; reach = reach }

  is_given : (r : Plan) → IsJoined given r → Realises t s.plan s.term → Realises t r s.term
  is_given r joined realised =
      let parts : r.parts ≡ s.plan.parts = joined.joining.parts ∙ append-nil s.plan.parts in
      let imports : r.imports ≡ s.plan.imports =
      imports_are_of_supplies (array_name x i w) r (s ∷ []) joined.joining ∙ append-nil s.plan.imports
      in
      renumbered_is_realised unchanged r s.plan t s.term
      (shadow_is_it given s.plan r given_stand given_home realised.suits.right joined.joining parts imports
      (joined.joining.outcome ∙ sym outcome) given_shadow) realised

pub array_name_is_open : ArrayNameIsOpen
array_name_is_open x i w [] r are joined names = absurd are
array_name_is_open x i w (s ∷ []) r are joined names =
    let t = Fun (Exp i) (Var w) in
    let term : or_import x (if bytes_eq x x then Some s.term else None) ≡ s.term =
    ap (λ (b : Bool). or_import x (if b then Some s.term else None)) (bytes_eq_itself x)
    in
    subst (Realises t r) (sym term) (is_given x i w s are.0.suits.outcome r joined are.0)
array_name_is_open x i w (s ∷ u ∷ us) r are joined names = absurd are.1
