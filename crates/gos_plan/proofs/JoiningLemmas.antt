-- Joining plans gives one plan, but for the order of its joints: parts, imports and result tell which ends ask and serve.
use Rattle.std.proofs.Common.{◌≡◌, ◌≢◌, ◌⊎◌, ◌+◌, inl, inr, ℕ, zero, suc, List, [], ◌∷◌, Contains, Some, refl, sym, ◌∙◌, ap, subst, arith, slice_get}
use Rattle.gos_types.specs.Types.{Type', Com, Fun}
use Rattle.gos_plan.specs.Kinds.{Part, Contact, asks, serves, contacts_of, turned_contact}
use Rattle.gos_model.specs.Typing.{Imported}
use Rattle.gos_plan.specs.Plans.{End, PartEnd, ImportEnd, ResultEnd, Joint, Plan, contacts_of_part, contacts_of_import, turned_if, contact_at}
use Rattle.gos_plan.specs.Joining.{place, origin, Path, Connects, JoiningIsOne}
use Rattle.gos_plan.specs.SmallPlans.{skip_plan, same_plan, same_of_skip, SkipIsJoined}

pub joining_is_one : JoiningIsOne
joining_is_one w r q first second =
    record {
      parts = parts;
      imports = imports;
      outcome = outcome;
      weight = first.weight ∙ sym second.weight;
      joints = λ j. (
        λ there. (second.joints j.asking j.serving).1 (forth j.asking j.serving ((first.joints j.asking j.serving).0 there)),
        λ there. (first.joints j.asking j.serving).1 (back j.asking j.serving ((second.joints j.asking j.serving).0 there)),
      );
    }
  where
    parts : r.parts ≡ q.parts
    parts = first.parts ∙ sym second.parts

    imports : r.imports ≡ q.imports
    imports = first.imports ∙ sym second.imports

    outcome : r.outcome ≡ q.outcome
    outcome = first.outcome ∙ sym second.outcome

    same_contact : (e : End) → contact_at r e ≡ contact_at q e
    same_contact (PartEnd i h) = ap (λ (ps : List Part). slice_get (contacts_of_part (slice_get ps i)) h) parts
    same_contact (ImportEnd i h) = ap (λ (is : List Imported). slice_get (contacts_of_import (slice_get is i)) h) imports
    same_contact (ResultEnd h) = ap (λ (t : Type'). turned_if (slice_get (contacts_of t) h)) outcome

    forth : (a b : End) → Connects w r a b → Connects w q a b
    forth a b (bits, answer_bits, n, asks, serves, path) = (bits, answer_bits, n, sym (same_contact a) ∙ asks, sym (same_contact b) ∙ serves, path)

    back : (a b : End) → Connects w q a b → Connects w r a b
    back a b (bits, answer_bits, n, asks, serves, path) = (bits, answer_bits, n, same_contact a ∙ asks, same_contact b ∙ serves, path)

-- The plan of `skip`, joined to that of `fun a . a`: one end asks and one serves, and a path of three leads there.
abbrev joined : Plan
joined = record skip_plan { weight = 16 }

asks_alone : (e : End) (q v : ℕ) → contact_at joined e ≡ Some (asks q v) → e ≡ ResultEnd 0
asks_alone (PartEnd zero zero) q v h = absurd (grind (arith, h))
asks_alone (PartEnd zero (suc j)) q v h = absurd (grind (arith, h))
asks_alone (PartEnd (suc i) j) q v h = absurd (grind (arith, h))
asks_alone (ImportEnd i j) q v h = absurd (grind (arith, h))
asks_alone (ResultEnd zero) q v h = refl
asks_alone (ResultEnd (suc j)) q v h = absurd (grind (arith, h))

serves_alone : (e : End) (q v : ℕ) → contact_at joined e ≡ Some (serves q v) → e ≡ PartEnd 0 0
serves_alone (PartEnd zero zero) q v h = refl
serves_alone (PartEnd zero (suc j)) q v h = absurd (grind (arith, h))
serves_alone (PartEnd (suc i) j) q v h = absurd (grind (arith, h))
serves_alone (ImportEnd i j) q v h = absurd (grind (arith, h))
serves_alone (ResultEnd zero) q v h = absurd (grind (arith, h))
serves_alone (ResultEnd (suc j)) q v h = absurd (grind (arith, h))

-- no other end is there
two_ends : (e : End) (c : Contact) → contact_at joined e ≡ Some c → ((e ≡ ResultEnd 0) × (c ≡ asks 0 0)) ⊎ ((e ≡ PartEnd 0 0) × (c ≡ serves 0 0))
two_ends (PartEnd zero zero) c h = inr (refl, sym (cc h))
two_ends (PartEnd zero (suc j)) c h = absurd (grind (arith, h))
two_ends (PartEnd (suc i) j) c h = absurd (grind (arith, h))
two_ends (ImportEnd i j) c h = absurd (grind (arith, h))
two_ends (ResultEnd zero) c h = inl (refl, sym (cc h))
two_ends (ResultEnd (suc j)) c h = absurd (grind (arith, h))

connected : Connects same_of_skip joined (ResultEnd 0) (PartEnd 0 0)
connected = (
  0,
  0,
  3,
  refl,
  refl,
  (
    place 0 (ResultEnd 0),
    inl (same_plan, record { asking = ResultEnd 1; serving = ResultEnd 0 }, refl, refl, (0, omega arith, refl), inl (refl, refl)),
    (
      place 1 (ResultEnd 0),
      inr (record { one = place 0 (ResultEnd 0); other = place 1 (ResultEnd 0) }, (0, omega arith, refl), inl (refl, refl)),
      (
        place 1 (PartEnd 0 0),
        inl (skip_plan, record { asking = ResultEnd 0; serving = PartEnd 0 0 }, refl, refl, (0, omega arith, refl), inl (refl, refl)),
        refl,
      ),
    ),
  ),
)

only : (x y : Joint) → Contains (x ∷ []) y → y ≡ x
only x y (zero, l, e) = sym e
only x y (suc k, l, e) = absurd (omega (arith, l))

pub skip_is_joined : SkipIsJoined
skip_is_joined =
    record {
      parts = refl;
      imports = refl;
      outcome = refl;
      weight = refl;
      right = (((0, 0, refl, refl), refl, refl), tt);
      result = result;
      fits = fits;
      joints = λ a b. (to a b, back a b);
    }
  where
    result : (h : ℕ) (c : Contact) → slice_get (contacts_of Com) h ≡ Some c → slice_get (contacts_of (Fun Com Com)) (1 + h) ≡ Some c
    result zero c there = there
    result (suc h) c there = absurd (grind (arith, there))

    fits : (a b : End) (c d : Contact) (n : ℕ) → contact_at joined a ≡ Some c → contact_at joined b ≡ Some d → a ≢ b
        → Path same_of_skip n (origin same_of_skip a) (origin same_of_skip b) → d ≡ turned_contact c
    fits a b c d n one other apart path =
        elim (two_ends a c one) [
          | inl x ↦
              elim (two_ends b d other) [
                | inl y ↦ absurd (apart (x.0 ∙ sym y.0))
                | inr y ↦ y.1 ∙ ap turned_contact (sym x.1)
              ]
          | inr x ↦
              elim (two_ends b d other) [
                | inl y ↦ y.1 ∙ ap turned_contact (sym x.1)
                | inr y ↦ absurd (apart (x.0 ∙ sym y.0))
              ]
        ]

    to : (a b : End) → Contains joined.joints (record { asking = a; serving = b }) → Connects same_of_skip joined a b
    to a b there =
        let same = only _ (record { asking = a; serving = b }) there in
        subst (λ (x : End). Connects same_of_skip joined x b) (sym (ap (λ (j : Joint). j.asking) same))
        (subst (λ (x : End). Connects same_of_skip joined (ResultEnd 0) x) (sym (ap (λ (j : Joint). j.serving) same)) connected)

    back : (a b : End) → Connects same_of_skip joined a b → Contains joined.joints (record { asking = a; serving = b })
    back a b (q, v, n, asked, served, path) =
        subst (λ (x : End). Contains joined.joints (record { asking = x; serving = b })) (sym (asks_alone a q v asked))
        (subst (λ (x : End). Contains joined.joints (record { asking = ResultEnd 0; serving = x })) (sym (serves_alone b q v served)) (0, omega arith, refl))
