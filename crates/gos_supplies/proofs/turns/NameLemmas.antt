-- The plan of a name is regular at every type: it joins its import to its result.
use Rattle.std.specs.Prelude.{ℕ, zero, suc, true, List, Option, Some, None, slice_get}
use Rattle.std.proofs.Common.{◌≡◌, ◌⊎◌, inl, inr, refl, sym, ◌∙◌, ap, subst}
use Rattle.gos_types.specs.Types.{Type'}
use Rattle.gos_model.specs.Typing.{Imported}
use Rattle.gos_plan.specs.Kinds.{Contact, contacts_of, turned_contact}
use Rattle.gos_plan.specs.Plans.{End, PartEnd, ImportEnd, ResultEnd, Plan, contact_at, contacts_of_import, turned_if}
use Rattle.gos_plan.specs.Tokens.{IsPortEnd}
use Rattle.gos_plan.proofs.JointLemmas.{contained, same_result}
use Rattle.gos_plan.proofs.ContactLemmas.{turned_contact_twice}
use Rattle.gos_realises.specs.realises.Regular.{Pass, count, some_open, KeepsTurnsOf}
use Rattle.gos_joining.specs.webs.Webs.{joint}
use Rattle.gos_supplies.specs.turns.Resting.{NameRests}
use Rattle.gos_supplies.specs.turns.Names.{IsNamePlan, NameIsRegular}
use Rattle.gos_supplies.proofs.turns.GoesLemmas.{IsTurned}
use Rattle.gos_supplies.proofs.turns.TurnedLemmas.{imp, res, to_each, from_each}
use Rattle.gos_supplies.proofs.turns.CopyLemmas.{copy_rests, IsCopy, copy_is_regular}

pub unturned : (o : Option Contact) (c : Contact) → turned_if o ≡ Some c → o ≡ Some (turned_contact c)
unturned None c e = absurd (cc e)
unturned (Some d) c e = let same : turned_contact d ≡ c = cc e in ap Some (sym (turned_contact_twice d) ∙ ap turned_contact same)

pub import_number : (h k : ℕ) → ImportEnd 0 h ≡ ImportEnd 0 k → h ≡ k
import_number h k e = cc e

pub import_apart : (h k : ℕ) → ImportEnd 0 h ≡ ResultEnd k → ⊥
import_apart h k e = cc e

module _ (x : Imported) (p : Plan) (is : IsNamePlan x p) where
  at_import : (h : ℕ) → contact_at p (ImportEnd 0 h) ≡ slice_get (contacts_of x.ty) h
  at_import h = ap (λ (xs : List Imported). slice_get (contacts_of_import (slice_get xs 0)) h) is.imports

  at_result : (h : ℕ) → contact_at p (ResultEnd h) ≡ turned_if (slice_get (contacts_of x.ty) h)
  at_result h = ap (λ (t : Type'). turned_if (slice_get (contacts_of t) h)) is.outcome

  cover : (e : End) (c : Contact) → IsPortEnd e → contact_at p e ≡ Some c
      → ((h : ℕ) × (ImportEnd 0 h ≡ e) × (slice_get (contacts_of x.ty) h ≡ Some c))
      ⊎ ((h : ℕ) × (ResultEnd h ≡ e) × (slice_get (contacts_of x.ty) h ≡ Some (turned_contact c)))
  cover (PartEnd i h) c port there = absurd port
  cover (ImportEnd zero h) c port there = inl (h, refl, sym (at_import h) ∙ there)
  cover (ImportEnd (suc i) h) c port there =
      let never : None ≡ Some c = sym (ap (λ (xs : List Imported). slice_get (contacts_of_import (slice_get xs (suc i))) h) is.imports) ∙ there in
      absurd (cc never)
  cover (ResultEnd h) c port there = inr (h, refl, unturned (slice_get (contacts_of x.ty) h) c (sym (at_result h) ∙ there))

  reads : (past : List Pass) → IsTurned p past → KeepsTurnsOf x.ty (imp past 0) × KeepsTurnsOf x.ty (res past)
  reads past turned =
      let each = to_each p past turned in
      ((each.0 0 x (ap (λ (xs : List Imported). slice_get xs 0) is.imports)).0, subst (λ (t : Type'). KeepsTurnsOf t (res past)) is.outcome each.1)

  makes : (past : List Pass) → KeepsTurnsOf x.ty (imp past 0) → KeepsTurnsOf x.ty (res past)
      → (some_open (count x.ty) (imp past 0) ≡ true → some_open (count x.ty) (res past) ≡ true) → IsTurned p past
  makes past of_import of_result busy = from_each p past (each, subst (λ (t : Type'). KeepsTurnsOf t (res past)) (sym is.outcome) of_result)
    where
      each : (n : ℕ) (y : Imported) → slice_get p.imports n ≡ Some y
          → KeepsTurnsOf y.ty (imp past n) × (some_open (count y.ty) (imp past n) ≡ true → some_open (count p.outcome) (res past) ≡ true)
      each zero y at =
          let there : Some x ≡ Some y = sym (ap (λ (xs : List Imported). slice_get xs 0) is.imports) ∙ at in
          let same : x ≡ y = cc there in
          subst (λ (z : Imported). KeepsTurnsOf z.ty (imp past 0) × (some_open (count z.ty) (imp past 0) ≡ true → some_open (count p.outcome) (res past) ≡ true)) same
          (of_import, λ up. subst (λ (t : Type'). some_open (count t) (res past) ≡ true) (sym is.outcome) (busy up))
      each (suc n) y at =
          let never : None ≡ Some y = sym (ap (λ (xs : List Imported). slice_get xs (suc n)) is.imports) ∙ at in absurd (cc never)

  is_copy : IsCopy x.ty p (ImportEnd 0) ResultEnd
  is_copy =
      record {
        right = is.right;
        parts = is.parts;
        cover = cover;
        first_there = λ h c there. (tt, at_import h ∙ there);
        second_there = λ h c there. (tt, at_result h ∙ ap turned_if there);
        serving = λ h c there role. contained p.joints (joint (ResultEnd h) (ImportEnd 0 h)) (is.serving h c there role);
        asking = λ h c there role. contained p.joints (joint (ImportEnd 0 h) (ResultEnd h)) (is.asking h c there role);
        first_one = import_number;
        second_one = same_result;
        apart = λ h k low. import_apart h k;
        reads = λ past turned leads. reads past turned;
        makes = makes;
      }

pub name_is_regular : NameIsRegular
name_is_regular x p is = copy_is_regular x.ty p (ImportEnd 0) ResultEnd (is_copy x p is)

pub name_rests : NameRests
name_rests x p is = copy_rests x.ty p (ImportEnd 0) ResultEnd (is_copy x p is)
