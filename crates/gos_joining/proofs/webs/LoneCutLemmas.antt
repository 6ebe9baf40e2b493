-- One part with one handshake, cut out of a plan: the region's plan is that of the part alone.
use Rattle.std.specs.Prelude.{◌≡◌, ℕ, zero, suc, false, true, [], ◌∷◌, ◌⊎◌, Option, Some, Contains, slice_get}
use Rattle.std.proofs.Common.{refl, sym, ◌∙◌, ap, subst, arith, inl, inr}
use Rattle.std.proofs.lemmas.Option.{none-some}
use Rattle.gos_types.specs.Types.{Type'}
use Rattle.gos_plan.specs.Kinds.{Part}
use Rattle.gos_plan.specs.Plans.{End, PartEnd, ImportEnd, ResultEnd, Joint, Plan, contact_at, stands_in, IsRight}
use Rattle.gos_plan.specs.Tokens.{IsPortEnd}
use Rattle.gos_joining.specs.webs.Webs.{joint}
use Rattle.gos_joining.specs.webs.Cutting.{Cut, lies_at, IsInside, IsOutside, StandsIn, IsCut}

-- the plan of a part alone
abbrev pub lone_plan : ℕ → Type' → Part → Plan
lone_plan weight t k = record { weight = weight; imports = []; outcome = t; parts = k ∷ []; joints = joint (ResultEnd 0) (PartEnd 0 0) ∷ [] }

-- part n, which is asked at this end
abbrev pub lone_out : ℕ → End → (ℕ → Option ℕ) → (End → Option End) → Cut
lone_out n a number inner = record { part = λ i. n; number = number; outer = λ e. a; inner = inner }

-- a joint between others
abbrev pub AreOutside : Cut → Joint → Type 0
AreOutside f j = IsOutside f j.asking × IsOutside f j.serving

-- no other part has a number in the region, no other end has a port, and no other joint of the whole is at the part
pub record IsLone (n : ℕ) (a : End) (number : ℕ → Option ℕ) (inner : End → Option End) (k : Part) (r c : Plan) : Type 0 where
  pub whole_right : IsRight r
  pub right : IsRight c
  pub part : slice_get r.parts n ≡ Some k
  pub own_number : number n ≡ Some 0
  pub one_number : (i j : ℕ) → number i ≡ Some j → (n ≡ i) × (0 ≡ j)
  pub outside : IsOutside (lone_out n a number inner) a
  pub own_port : inner a ≡ Some (ResultEnd 0)
  pub one_port : (b e : End) → inner b ≡ Some e → (a ≡ b) × (ResultEnd 0 ≡ e)
  pub contact : contact_at r a ≡ contact_at c (ResultEnd 0)
  pub asked : Contains r.joints (joint a (PartEnd n 0))
  pub joints : (j : Joint) → Contains r.joints j → (joint a (PartEnd n 0) ≡ j) ⊎ AreOutside (lone_out n a number inner) j

outside_apart : (f : Cut) (e : End) → IsOutside f e → IsInside f e → ⊥
outside_apart f (PartEnd i h) out (j, within) = none-some j (sym out ∙ within)
outside_apart f (ImportEnd i h) out within = within
outside_apart f (ResultEnd h) out within = within

module _ (weight : ℕ) (t : Type') (k : Part) where
  abbrev c : Plan
  c = lone_plan weight t k

  abbrev one_joint : Joint
  one_joint = joint (ResultEnd 0) (PartEnd 0 0)

  -- the result alone is joined
  pub lone_port : (e : End) → IsPortEnd e → StandsIn c e → ResultEnd 0 ≡ e
  lone_port (PartEnd i h) port stands = absurd port
  lone_port (ImportEnd i h) port (j, (zero, l, is), stands) =
      let no : false ≡ true = subst (λ (x : Joint). stands_in (ImportEnd i h) x ≡ true) (sym is) stands in cc no
  lone_port (ImportEnd i h) port (j, (suc n, l, is), stands) = absurd (omega (arith, l))
  lone_port (ResultEnd zero) port stands = refl
  lone_port (ResultEnd (suc h)) port (j, (zero, l, is), stands) =
      let there : stands_in (ResultEnd (suc h)) one_joint ≡ true = subst (λ (x : Joint). stands_in (ResultEnd (suc h)) x ≡ true) (sym is) stands in
      absurd (grind (arith, there))
  lone_port (ResultEnd (suc h)) port (j, (suc n, l, is), stands) = absurd (omega (arith, l))

  result_stands : StandsIn c (ResultEnd 0)
  result_stands = (one_joint, (0, omega arith, refl), refl)

  module _ (n : ℕ) (a : End) (number : ℕ → Option ℕ) (inner : End → Option End) (r : Plan) (is : IsLone n a number inner k r c) where
    abbrev f : Cut
    f = lone_out n a number inner

    parts : (i : ℕ) (x : Part) → slice_get c.parts i ≡ Some x → (slice_get r.parts n ≡ Some x) × (number n ≡ Some i)
    parts zero x there = (is.part ∙ there, is.own_number)
    parts (suc i) x there = absurd (none-some x there)

    numbers : (i j : ℕ) → number i ≡ Some j → (n ≡ i) × ((x : Part) × (slice_get c.parts j ≡ Some x))
    numbers i j there = let (same, one) = is.one_number i j there in (same, (k, ap (λ m. slice_get c.parts m) (sym one)))

    inners : (b e : End) → inner b ≡ Some e → IsPortEnd e × StandsIn c e × (a ≡ b)
    inners b e there =
        let (same, one) = is.one_port b e there in subst (λ (x : End). IsPortEnd x × StandsIn c x × (a ≡ b)) one (tt, result_stands, same)

    joints : (d e : End) → Contains c.joints (joint d e) → Contains r.joints (joint (lies_at f d) (lies_at f e))
    joints d e (zero, l, there) = subst (λ (j : Joint). Contains r.joints (joint (lies_at f j.asking) (lies_at f j.serving))) there is.asked
    joints d e (suc i, l, there) = absurd (omega (arith, l))

    all : (d e : End) → Contains r.joints (joint d e) → IsInside f d ⊎ IsInside f e
        → (x y : End) × Contains c.joints (joint x y) × (lies_at f x ≡ d) × (lies_at f y ≡ e)
    all d e has inside = by_joint (is.joints (joint d e) has)
      where
        by_joint : (joint a (PartEnd n 0) ≡ joint d e) ⊎ AreOutside f (joint d e)
            → (x y : End) × Contains c.joints (joint x y) × (lies_at f x ≡ d) × (lies_at f y ≡ e)
        by_joint (inl there) =
            (ResultEnd 0, PartEnd 0 0, (0, omega arith, refl), ap (λ (j : Joint). j.asking) there, ap (λ (j : Joint). j.serving) there)
        by_joint (inr (one, other)) = absurd (elim inside [ inl h ↦ outside_apart f d one h | inr h ↦ outside_apart f e other h ])

    pub lone_is_cut : IsCut f r c
    lone_is_cut =
        record {
          whole_right = is.whole_right;
          right = is.right;
          parts = parts;
          numbers = numbers;
          ports = λ e port stands. (is.outside, is.own_port ∙ ap Some (lone_port e port stands));
          inners = inners;
          contacts = λ e port stands. is.contact ∙ ap (contact_at c) (lone_port e port stands);
          joints = joints;
          all = all;
        }
