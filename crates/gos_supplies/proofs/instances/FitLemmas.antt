-- The links of an import that is served fit.
use Rattle.std.specs.Prelude.{◌≡◌, ℕ, zero, suc, ◌+◌, ◌<◌, [], ◌∷◌, Option, Some, slice_get}
use Rattle.std.proofs.Common.{refl, sym, ◌∙◌, ap, subst, arith, inl, inr, get_or}
use Rattle.std.proofs.lemmas.Option.{slice_get-get_or}
use Rattle.gos_types.specs.Types.{Type'}
use Rattle.gos_model.specs.Typing.{Imported}
use Rattle.gos_plan.specs.Kinds.{Contact, asks, contacts_of, turned_contact}
use Rattle.gos_plan.specs.Plans.{End, PartEnd, ImportEnd, ResultEnd, Plan, turned_if, contacts_of_import, IsRight}
use Rattle.gos_plan.specs.Joining.{Place, place, Link}
use Rattle.gos_realises.specs.realises.Regular.{count}
use Rattle.gos_realises.specs.realises.Links.{LinkFits, StandsIn}
use Rattle.gos_realises.specs.realises.Modules.{import_linked}
use Rattle.gos_supplies.specs.instances.Served.{serving, ServingFits}
use Rattle.gos_supplies.proofs.instances.BoundLemmas.{bound_link}

-- link i is that of handshake n + i
bound_at : (k n m i : ℕ) (l : Link) → slice_get (import_linked k 1 n m) i ≡ Some l → (i < m) × (bound_link k (n + i) ≡ l)
bound_at k n zero i l at = absurd (cc at)
bound_at k n (suc m) zero l at =
    let same : bound_link k n ≡ l = cc at in
    let e : n + 0 ≡ n = omega arith in (omega arith, ap (bound_link k) e ∙ same)
bound_at k n (suc m) (suc i) l at =
    let rest = bound_at k (suc n) m i l at in
    let small = rest.0 in
    let e : n + suc i ≡ suc n + i = omega arith in (omega (arith, small), ap (bound_link k) e ∙ rest.1)

abbrev number : End → ℕ
number (PartEnd i h) = h
number (ImportEnd i h) = h
number (ResultEnd h) = h

-- a place in two of the links is of one handshake
one_shake : (k n m : ℕ) (a : Place) → StandsIn a (bound_link k n) → StandsIn a (bound_link k m) → n ≡ m
one_shake k n m a (inl e) (inl f) = ap (λ (y : Place). number y.end) (sym e ∙ f)
one_shake k n m a (inl e) (inr f) = let no = ap (λ (y : Place). y.plan) (sym e ∙ f) in absurd (omega (arith, no))
one_shake k n m a (inr e) (inl f) = let no = ap (λ (y : Place). y.plan) (sym e ∙ f) in absurd (omega (arith, no))
one_shake k n m a (inr e) (inr f) = ap (λ (y : Place). number y.end) (sym e ∙ f)

pub serving_fits : ServingFits
serving_fits k x p q right_p right_q at_k type_q = record { right = rights; each = each; once = once; left = left }
  where
    rights : (n : ℕ) (u : Plan) → slice_get (p ∷ q ∷ []) n ≡ Some u → IsRight u
    rights zero u at = let same : p ≡ u = cc at in subst IsRight same right_p
    rights (suc zero) u at = let same : q ≡ u = cc at in subst IsRight same right_q
    rights (suc (suc n)) u at = absurd (cc at)

    link_fits : (h : ℕ) → h < count x.ty → LinkFits (serving k x.ty p q) (bound_link k h)
    link_fits h small =
        let c : Contact = get_or (contacts_of x.ty) h (asks 0 0) in
        let has : slice_get (contacts_of x.ty) h ≡ Some c = slice_get-get_or (contacts_of x.ty) h (asks 0 0) small in (
          (λ e. omega (arith, e)),
          (
            c,
            turned_contact c,
            ap (λ (o : Option Imported). slice_get (contacts_of_import o) h) at_k ∙ has,
            ap (λ (t : Type'). turned_if (slice_get (contacts_of t) h)) type_q ∙ ap turned_if has,
            refl,
          ),
        )

    each : (i : ℕ) (l : Link) → slice_get (import_linked k 1 0 (count x.ty)) i ≡ Some l → LinkFits (serving k x.ty p q) l
    each i l at =
        let (small, same) = bound_at k 0 (count x.ty) i l at in
        subst (LinkFits (serving k x.ty p q)) same (link_fits (0 + i) (omega (arith, small)))

    once : (i j : ℕ) (l m : Link) (a : Place) → slice_get (import_linked k 1 0 (count x.ty)) i ≡ Some l → slice_get (import_linked k 1 0 (count x.ty)) j ≡ Some m
        → StandsIn a l → StandsIn a m → i ≡ j
    once i j l m a one other in_l in_m =
        let (small, same) = bound_at k 0 (count x.ty) i l one in
        let (low, also) = bound_at k 0 (count x.ty) j m other in
        let shakes = one_shake k (0 + i) (0 + j) a (subst (StandsIn a) (sym same) in_l) (subst (StandsIn a) (sym also) in_m) in
        omega (arith, shakes)

    free : (h n : ℕ) → StandsIn (place 0 (ResultEnd (0 + h))) (bound_link k n) → ⊥
    free h n (inl e) = let no : ResultEnd (0 + h) ≡ ImportEnd k n = ap (λ (y : Place). y.end) e in cc no
    free h n (inr e) = let no = ap (λ (y : Place). y.plan) e in omega (arith, no)

    left : (h : ℕ) (c : Contact) → slice_get (contacts_of p.outcome) h ≡ Some c
        → (slice_get (contacts_of p.outcome) (0 + h) ≡ Some c)
        × ((i : ℕ) (l : Link) → slice_get (import_linked k 1 0 (count x.ty)) i ≡ Some l → StandsIn (place 0 (ResultEnd (0 + h))) l → ⊥)
    left h c there = (
      (let e : 0 + h ≡ h = omega arith in ap (λ (n : ℕ). slice_get (contacts_of p.outcome) n) e ∙ there),
      λ i l at stands.
          let (small, same) = bound_at k 0 (count x.ty) i l at in free h (0 + i) (subst (StandsIn (place 0 (ResultEnd (0 + h)))) (sym same) stands),
    )
