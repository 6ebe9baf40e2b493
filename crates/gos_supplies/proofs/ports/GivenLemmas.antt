-- The plan of a name, joined to what is put in, is that.
use Rattle.std.specs.Prelude.{◌≡◌, ℕ, zero, suc, ◌+◌, ◌<◌, Bool, List, [], ◌∷◌, ◌++◌, length, Option, Some, None, Contains, slice_get, if◌then◌else◌}
use Rattle.std.specs.Str.{bytes_eq}
use Rattle.std.proofs.Common.{refl, sym, ◌∙◌, ap, subst, arith, inl, inr}
use Rattle.std.proofs.lemmas.List.{append-nil}
use Rattle.gos_types.specs.Types.{Type', Com, Var}
use Rattle.gos_types.specs.Widths.{IsWidth}
use Rattle.gos_types.proofs.BytesLemmas.{bytes_eq_itself}
use Rattle.gos_model.specs.Terms.{Name, Import}
use Rattle.gos_model.specs.Typing.{Imported}
use Rattle.gos_model.specs.Linking.{or_import}
use Rattle.gos_model.specs.SmallPrograms.{c}
use Rattle.gos_plan.specs.Kinds.{Contact, contacts_of}
use Rattle.gos_plan.specs.Plans.{End, PartEnd, ImportEnd, ResultEnd, Joint, Plan, contact_at, turned_if}
use Rattle.gos_plan.specs.Joining.{Place, place, Link, Wiring, LeftImport, left_in, all_left, left_place, part_place, origin}
use Rattle.gos_realises.specs.realises.Regular.{count}
use Rattle.gos_realises.specs.realises.Links.{IsJoined}
use Rattle.gos_realises.specs.realises.Realises.{Realises}
use Rattle.gos_realises.specs.realises.Modules.{Supply, imports_linked, supplying, RealisesOpen, RealisesModule}
use Rattle.gos_realises.specs.realises.SmallRealisers.{NameIsRealised}
use Rattle.gos_realises.proofs.realises.LeftLemmas.{left_list, left_all, left_at, left_joined}
use Rattle.gos_realises.proofs.joined.ReachLemmas.{Step, Paths, paths_then, paths_back}
use Rattle.gos_realises.proofs.realises.CountLemmas.{below_count}
use Rattle.gos_joining.specs.webs.Webs.{joint}
use Rattle.gos_joining.proofs.unions.DeepLemmas.{place_of_part}
use Rattle.gos_joining.specs.renumbered.SmallRewirings.{unchanged}
use Rattle.gos_joining.specs.webs.Renumbering.{IsRenumbered}
use Rattle.gos_joining.proofs.renumbered.HigherLemmas.{is_itself, renumbered_is_realised}
use Rattle.gos_joining.proofs.renumbered.SupplyLemmas.{supply_link, OfImports, of_imports, in_imports, first_joined, supply_free}
use Rattle.gos_supplies.proofs.typing.LeftLemmas.{imports_are_of_supplies}
use Rattle.gos_supplies.specs.names.Names as of_names
use Rattle.gos_supplies.specs.names.Names.{imported, name_plan}
use Rattle.gos_supplies.specs.ports.SmallPorts.{NameIsOpen, CallIsModule, variable_plan, VariableIsModule}
use Rattle.gos_supplies.proofs.ports.ShadowLemmas.{Near, OfJoint, joint_near, IsShadow, shadow_is_it}
use Rattle.gos_supplies.proofs.ports.OwnLemmas.{passing, of_passed, in_passed, part_in_range, import_there}

-- an end stands in what is put in, and the result's in the plan of the name
abbrev given_stand : End → Place
given_stand (PartEnd i h) = place 1 (PartEnd i h)
given_stand (ImportEnd i h) = place 1 (ImportEnd i h)
given_stand (ResultEnd h) = place 0 (ResultEnd h)

abbrev given_end : ℕ → End → End
given_end zero (PartEnd i h) = PartEnd i h
given_end zero (ImportEnd i h) = ResultEnd h
given_end zero (ResultEnd h) = ResultEnd h
given_end (suc k) e = e

abbrev given_home : Place → End
given_home a = given_end a.plan a.end

-- of any weight
abbrev called : ℕ → Name → Type' → Plan
called n x t = record (name_plan x t) { weight = n }

module _ (n : ℕ) (x : Name) (t : Type') (s : Supply) (outcome : s.plan.outcome ≡ t) where
  abbrev only : List Imported
  only = imported x t ∷ []

  abbrev given : Wiring
  given = supplying (called n x t) (s ∷ [])

  given_left : all_left given ≡ left_list 1 0 s.plan.imports ++ []
  given_left =
      let none : left_in (imports_linked 0 only) 0 0 only ≡ [] = left_joined (imports_linked 0 only) 0 0 only (first_joined only) in
      let rest = left_all (imports_linked 0 only) 1 (supply_free only 0) 0 s.plan.imports in
      λ j. none j ++ (rest j ++ [])

  stands : (e : End) (c : Contact) → contact_at s.plan e ≡ Some c → origin given e ≡ given_stand e
  stands (PartEnd i h) c there =
      let zeros : i ≡ 0 + i = omega arith in
      ap (λ (m : ℕ). part_place 0 given.plans m h) zeros ∙ place_of_part 0 given.plans 1 i h s.plan refl (part_in_range s.plan i h c there)
  stands (ImportEnd i h) c there =
      let (y, at, low) = import_there s.plan.imports i h c there in
      let zeros : 0 + i ≡ i = omega arith in
      ap (λ (l : List LeftImport). left_place (slice_get l i) h) given_left
      ∙ (ap (λ (o : Option LeftImport). left_place o h) (left_at 1 0 s.plan.imports i y at) ∙ ap (λ (m : ℕ). place 1 (ImportEnd m h)) zeros)
  stands (ResultEnd h) c there = let zeros : 0 + h ≡ h = omega arith in ap (λ (m : ℕ). place 0 (ResultEnd m)) zeros

  returns : (e : End) → given_home (given_stand e) ≡ e
  returns (PartEnd i h) = refl
  returns (ImportEnd i h) = refl
  returns (ResultEnd h) = refl

  passing_home : (h : ℕ) (j : Joint) (e f : End) → j ≡ passing h → OfJoint j e f → given_end 0 e ≡ given_end 0 f
  passing_home h j e f same (inl (one, other)) =
      ap (given_end 0) (one ∙ ap (λ (i : Joint). i.asking) same) ∙ sym (ap (given_end 0) (other ∙ ap (λ (i : Joint). i.serving) same))
  passing_home h j e f same (inr (one, other)) =
      ap (given_end 0) (one ∙ ap (λ (i : Joint). i.serving) same) ∙ sym (ap (given_end 0) (other ∙ ap (λ (i : Joint). i.asking) same))

  within_near : (k : ℕ) (e f : End) (q : Plan) (j : Joint) → slice_get given.plans k ≡ Some q → Contains q.joints j → OfJoint j e f
      → Near s.plan (given_end k e) (given_end k f)
  within_near zero e f q j is has ways =
      let plans : called n x t ≡ q = cc is in
      let (h, passes) = of_passed 0 (count t) j (subst (λ (y : Plan). Contains y.joints j) (sym plans) has) in
      inl (passing_home h j e f passes ways)
  within_near (suc zero) e f q j is has ways =
      let plans : s.plan ≡ q = cc is in joint_near s.plan j e f (subst (λ (y : Plan). Contains y.joints j) (sym plans) has) ways
  within_near (suc (suc k)) e f q j is has ways = absurd (cc is)

  link_home : (l : Link) → OfImports 0 only l → given_home l.one ≡ given_home l.other
  link_home l there = ap (λ (m : Link). given_home m.one) there.same ∙ sym (ap (λ (m : Link). given_home m.other) there.same)

  near : (a b : Place) → Step given a b → Near s.plan (given_home a) (given_home b)
  near a b (inl (q, j, same, is, has, ways)) =
      subst (λ (k : ℕ). Near s.plan (given_end a.plan a.end) (given_end k b.end)) same (within_near a.plan a.end b.end q j is has ways)
  near a b (inr (l, has, inl (e, f))) = inl (ap given_home e ∙ (link_home l (of_imports 0 only l has) ∙ sym (ap given_home f)))
  near a b (inr (l, has, inr (e, f))) = inl (ap given_home e ∙ (sym (link_home l (of_imports 0 only l has)) ∙ sym (ap given_home f)))

  leads : (e : End) (c : Contact) → contact_at s.plan e ≡ Some c → Paths given (given_stand e) (place 1 e)
  leads (PartEnd i h) c there = (0, refl)
  leads (ImportEnd i h) c there = (0, refl)
  leads (ResultEnd h) c there =
      let low : h < count t = below_count t h c (ap (λ (u : Type'). turned_if (slice_get (contacts_of u) h)) (sym outcome) ∙ there) in (
        2,
        (
          place 0 (ImportEnd 0 h),
          inl (called n x t, passing h, refl, refl, in_passed (count t) h low, inl (refl, refl)),
          (place 1 (ResultEnd h), inr (supply_link 0 h, in_imports 0 only 0 h (imported x t) refl low, inl (refl, refl)), refl),
        ),
      )

  reach : (a b : End) (c d : Contact) → contact_at s.plan a ≡ Some c → contact_at s.plan b ≡ Some d → Contains s.plan.joints (joint a b)
      → Paths given (given_stand a) (given_stand b)
  reach a b c d at_a at_b has =
      paths_then given (given_stand a) (place 1 a) (given_stand b) (leads a c at_a)
      (paths_then given (place 1 a) (place 1 b) (given_stand b) (1, (place 1 b, inl (s.plan, joint a b, refl, refl, has, inl (refl, refl)), refl))
      (paths_back given (given_stand b) (place 1 b) (leads b d at_b)))

  given_shadow : IsShadow given s.plan given_stand given_home
  given_shadow = record { stands = stands; returns = returns; near = near; reach = reach }

  is_given : (r : Plan) → IsJoined given r → Realises t s.plan s.term → Realises t r s.term
  is_given r joined realised =
      let parts : r.parts ≡ s.plan.parts = joined.joining.parts ∙ append-nil s.plan.parts in
      let imports : r.imports ≡ s.plan.imports =
      imports_are_of_supplies (called n x t) r (s ∷ []) joined.joining ∙ append-nil s.plan.imports
      in
      renumbered_is_realised unchanged r s.plan t s.term
      (shadow_is_it given s.plan r given_stand given_home realised.suits.right joined.joining parts imports
      (joined.joining.outcome ∙ sym outcome) given_shadow) realised

pub called_is_open : (n : ℕ) (x : Name) (t : Type') → RealisesOpen (called n x t) (Import x)
called_is_open n x t [] r are joined names = absurd are
called_is_open n x t (s ∷ []) r are joined names =
    let term : or_import x (if bytes_eq x x then Some s.term else None) ≡ s.term =
    ap (λ (b : Bool). or_import x (if b then Some s.term else None)) (bytes_eq_itself x)
    in
    subst (Realises t r) (sym term) (is_given n x t s are.0.suits.outcome r joined are.0)
called_is_open n x t (s ∷ u ∷ us) r are joined names = absurd are.1

pub name_is_open : NameIsOpen
name_is_open x t = called_is_open 0 x t

pub call_is_module : NameIsRealised → CallIsModule
call_is_module realised =
    record {
      right = realised.suits.right;
      names = realised.suits.names;
      result_widths = tt;
      import_widths = (tt, tt);
      typed = realised.suits.typed;
      regular = realised.suits.regular;
      slim = record { joints = omega arith; ends = omega arith; imports = omega arith };
      open_imports = called_is_open 6 c Com;
    }

-- the weight plays no part
weighed_itself : (w : ℕ) → Realises (Var w) (name_plan c (Var w)) (Import c) → Realises (Var w) (variable_plan w) (Import c)
weighed_itself w realised = renumbered_is_realised unchanged (variable_plan w) (name_plan c (Var w)) (Var w) (Import c) same realised
  where
    itself : IsRenumbered unchanged (name_plan c (Var w)) (name_plan c (Var w))
    itself = is_itself (name_plan c (Var w)) realised.suits.right

    same : IsRenumbered unchanged (variable_plan w) (name_plan c (Var w))
    same =
        record {
          one_to_one = itself.one_to_one;
          parts = itself.parts;
          imports = itself.imports;
          outcome = itself.outcome;
          joints = itself.joints;
          right = itself.right;
          also_right = itself.also_right;
        }

variable_of_width : of_names.NameIsRealised → (w : ℕ) → IsWidth w → RealisesModule (variable_plan w) (Import c)
variable_of_width named w width =
    let suits = (weighed_itself w (named c (Var w) tt width)).suits in
    let two : length (variable_plan w).joints ≡ 2 = refl in
    record {
      right = suits.right;
      names = suits.names;
      result_widths = width;
      import_widths = (width, tt);
      typed = suits.typed;
      regular = suits.regular;
      slim = record { joints = omega (arith, two); ends = omega arith; imports = omega arith };
      open_imports = called_is_open 8 c (Var w);
    }

pub variable_is_module : of_names.NameIsRealised → VariableIsModule
variable_is_module named w = (λ realises. realises.result_widths, variable_of_width named w)
