-- The plans of small modules are theirs.
--
-- Which ends ask and which serve is read off the plan. In the last two plans points have classes, which ties keep, so that
-- a path connects no ends of different classes.
use Rattle.std.specs.Prelude.{◌≡◌, ℕ, zero, suc, ◌⊎◌, List, [], ◌∷◌, Some}
use Rattle.std.proofs.Common.{refl, ap, sym, ◌∙◌, subst, arith, inl, inr}
use Rattle.gos_model.specs.Terms as terms
use Rattle.gos_types.specs.Types.{Com}
use Rattle.gos_check.specs.Nodes.{Closed}
use Rattle.gos_plan.specs.Kinds.{Part, Array, asks, serves}
use Rattle.gos_plan.specs.Plans.{End, PartEnd, ImportEnd, ResultEnd, Joint, contact_at}
use Rattle.gos_plan.proofs.ContactLemmas.{asks_is_not_serves, serves_is_not_asks}
use Rattle.gos_ties.specs.declared.points.Place.{Place}
use Rattle.gos_ties.specs.declared.points.Place.TheVariants as places
use Rattle.gos_ties.specs.declared.points.Point.{Point}
use Rattle.gos_ties.specs.declared.points.Tie.{Tie}
use Rattle.gos_ties.specs.Ties.{point, at, Meet, Path, here, along, Connects, joint, Has}
use Rattle.gos_compile.specs.Wiring.{all_ties}
use Rattle.gos_compile.specs.SmallPlans.{skip_plan, SkipIsPlanned, same_term, same_plan, SameIsPlanned, array_term, array_plan, ArrayIsPlanned, OtherLengthIsNotPlanned, two_imports, both_term, both_plan, BothIsPlanned, TurnedIsNotPlanned, ShellIsNotPlanned}

-- the plan of skip

skip_asks : (a : End) (q v : ℕ) → contact_at skip_plan a ≡ Some (asks q v) → a ≡ ResultEnd 0
skip_asks (PartEnd zero zero) q v e = absurd (serves_is_not_asks 0 0 q v e)
skip_asks (PartEnd zero (suc h)) q v e = cc
skip_asks (PartEnd (suc i) h) q v e = cc
skip_asks (ImportEnd i h) q v e = cc
skip_asks (ResultEnd zero) q v e = refl
skip_asks (ResultEnd (suc h)) q v e = cc

skip_serves : (a : End) (q v : ℕ) → contact_at skip_plan a ≡ Some (serves q v) → a ≡ PartEnd 0 0
skip_serves (PartEnd zero zero) q v e = refl
skip_serves (PartEnd zero (suc h)) q v e = cc
skip_serves (PartEnd (suc i) h) q v e = cc
skip_serves (ImportEnd i h) q v e = cc
skip_serves (ResultEnd zero) q v e = absurd (asks_is_not_serves 0 0 q v e)
skip_serves (ResultEnd (suc h)) q v e = cc

pub skip_is_planned : SkipIsPlanned
skip_is_planned =
    record {
      imports = refl;
      outcome = refl;
      weight = refl;
      parts = refl;
      right = (((0, 0, refl, refl), refl, refl), tt);
      joints = λ a b. (sound a b, complete a b);
      order = (omega arith, tt);
    }
  where
    one : Connects (all_ties [] (Closed Com [] terms.Skip)) skip_plan (ResultEnd 0) (PartEnd 0 0)
    one = (0, 0, refl, refl, along (at (ResultEnd 0)) (at (PartEnd 0 0)) (at (PartEnd 0 0)) (inl refl) (here (at (PartEnd 0 0))))

    sound : (a b : End) → Has skip_plan.joints (joint a b) → Connects (all_ties [] (Closed Com [] terms.Skip)) skip_plan a b
    sound a b (inl e) = subst (λ (j : Joint). Connects (all_ties [] (Closed Com [] terms.Skip)) skip_plan j.asking j.serving) e one
    sound a b (inr h) = absurd h

    complete : (a b : End) → Connects (all_ties [] (Closed Com [] terms.Skip)) skip_plan a b → Has skip_plan.joints (joint a b)
    complete a b (q, v, one_asks, other_serves, path) =
        inl (λ i. joint (sym (skip_asks a q v one_asks) i) (sym (skip_serves b q v other_serves) i))

-- the plan of fun a : com . a
same_asks : (a : End) (q v : ℕ) → contact_at same_plan a ≡ Some (asks q v) → a ≡ ResultEnd 1
same_asks (PartEnd i h) q v e = cc
same_asks (ImportEnd i h) q v e = cc
same_asks (ResultEnd zero) q v e = absurd (serves_is_not_asks 0 0 q v e)
same_asks (ResultEnd (suc zero)) q v e = refl
same_asks (ResultEnd (suc (suc h))) q v e = cc

same_serves : (a : End) (q v : ℕ) → contact_at same_plan a ≡ Some (serves q v) → a ≡ ResultEnd 0
same_serves (PartEnd i h) q v e = cc
same_serves (ImportEnd i h) q v e = cc
same_serves (ResultEnd zero) q v e = refl
same_serves (ResultEnd (suc zero)) q v e = absurd (asks_is_not_serves 0 0 q v e)
same_serves (ResultEnd (suc (suc h))) q v e = cc

pub same_is_planned : SameIsPlanned
same_is_planned =
    record {
      imports = refl;
      outcome = refl;
      weight = refl;
      parts = refl;
      right = (((0, 0, refl, refl), refl, refl), tt);
      joints = λ a b. (sound a b, complete a b);
      order = (omega arith, tt);
    }
  where
    one : Connects (all_ties [] same_term) same_plan (ResultEnd 1) (ResultEnd 0)
    one = (
      0,
      0,
      refl,
      refl,
      along (at (ResultEnd 1)) (point (places.Number 0) 0) (at (ResultEnd 0)) (inr (inr (inl refl)))
          (along (point (places.Number 0) 0) (at (ResultEnd 0)) (at (ResultEnd 0)) (inr (inl refl)) (here (at (ResultEnd 0)))),
    )

    sound : (a b : End) → Has same_plan.joints (joint a b) → Connects (all_ties [] same_term) same_plan a b
    sound a b (inl e) = subst (λ (j : Joint). Connects (all_ties [] same_term) same_plan j.asking j.serving) e one
    sound a b (inr h) = absurd h

    complete : (a b : End) → Connects (all_ties [] same_term) same_plan a b → Has same_plan.joints (joint a b)
    complete a b (q, v, one_asks, other_serves, path) =
        inl (λ i. joint (sym (same_asks a q v one_asks) i) (sym (same_serves b q v other_serves) i))

-- classes of points, and ties that keep them
abbrev class : (Place → ℕ → ℕ) → Point → ℕ
class f p = f p.place p.shake

abbrev KeepClass : (Place → ℕ → ℕ) → List Tie → Type 0
KeepClass f [] = Unit {0}
KeepClass f (t ∷ ts) = (class f t.one ≡ class f t.other) × KeepClass f ts

meet_class : (f : Place → ℕ → ℕ) (ts : List Tie) → KeepClass f ts → (a b : Point) → Meet ts a b → class f a ≡ class f b
meet_class f [] k a b m = absurd m
meet_class f (t ∷ ts) (k, ks) a b (inl e) = sym (ap (λ (u : Tie). class f u.one) e) ∙ (k ∙ ap (λ (u : Tie). class f u.other) e)
meet_class f (t ∷ ts) (k, ks) a b (inr (inl e)) = sym (ap (λ (u : Tie). class f u.other) e) ∙ (sym k ∙ ap (λ (u : Tie). class f u.one) e)
meet_class f (t ∷ ts) (k, ks) a b (inr (inr m)) = meet_class f ts ks a b m

path_class : (f : Place → ℕ → ℕ) (ts : List Tie) → KeepClass f ts → (a b : Point) → Path ts a b → class f a ≡ class f b
path_class f ts k a b (here _) = refl
path_class f ts k a b (along _ c _ m l) = meet_class f ts k a c m ∙ path_class f ts k c b l

-- two ends that are known have the classes that those have
classes : (f : Place → ℕ → ℕ) (a b x y : End) → a ≡ x → b ≡ y → class f (at a) ≡ class f (at b) → class f (at x) ≡ class f (at y)
classes f a b x y e g c = sym (ap (λ (z : End). class f (at z)) e) ∙ (c ∙ ap (λ (z : End). class f (at z)) g)

-- the plan of new a[2] : 8 in skip
array_asks : (a : End) (q v : ℕ) → contact_at array_plan a ≡ Some (asks q v) → (a ≡ ResultEnd 0) ⊎ (a ≡ PartEnd 0 0) ⊎ (a ≡ PartEnd 0 1)
array_asks (PartEnd zero zero) q v e = inr (inl refl)
array_asks (PartEnd zero (suc zero)) q v e = inr (inr refl)
array_asks (PartEnd zero (suc (suc zero))) q v e = absurd (serves_is_not_asks 0 8 q v e)
array_asks (PartEnd zero (suc (suc (suc zero)))) q v e = absurd (serves_is_not_asks 8 0 q v e)
array_asks (PartEnd zero (suc (suc (suc (suc zero))))) q v e = absurd (serves_is_not_asks 0 0 q v e)
array_asks (PartEnd zero (suc (suc (suc (suc (suc h)))))) q v e = cc
array_asks (PartEnd (suc zero) zero) q v e = absurd (serves_is_not_asks 0 0 q v e)
array_asks (PartEnd (suc zero) (suc h)) q v e = cc
array_asks (PartEnd (suc (suc i)) h) q v e = cc
array_asks (ImportEnd i h) q v e = cc
array_asks (ResultEnd zero) q v e = inl refl
array_asks (ResultEnd (suc h)) q v e = cc

array_serves : (a : End) (q v : ℕ) → contact_at array_plan a ≡ Some (serves q v)
    → (a ≡ PartEnd 0 2) ⊎ (a ≡ PartEnd 0 3) ⊎ (a ≡ PartEnd 0 4) ⊎ (a ≡ PartEnd 1 0)
array_serves (PartEnd zero zero) q v e = absurd (asks_is_not_serves 0 0 q v e)
array_serves (PartEnd zero (suc zero)) q v e = absurd (asks_is_not_serves 0 1 q v e)
array_serves (PartEnd zero (suc (suc zero))) q v e = inl refl
array_serves (PartEnd zero (suc (suc (suc zero)))) q v e = inr (inl refl)
array_serves (PartEnd zero (suc (suc (suc (suc zero))))) q v e = inr (inr (inl refl))
array_serves (PartEnd zero (suc (suc (suc (suc (suc h)))))) q v e = cc
array_serves (PartEnd (suc zero) zero) q v e = inr (inr (inr refl))
array_serves (PartEnd (suc zero) (suc h)) q v e = cc
array_serves (PartEnd (suc (suc i)) h) q v e = cc
array_serves (ImportEnd i h) q v e = cc
array_serves (ResultEnd zero) q v e = absurd (asks_is_not_serves 0 0 q v e)
array_serves (ResultEnd (suc h)) q v e = cc

-- classes of its points: the array's handshakes have their numbers, but that of the block has that of the result
abbrev class_of_array : Place → ℕ → ℕ
class_of_array (places.Part zero) (suc (suc (suc (suc h)))) = 9
class_of_array (places.Part zero) h = h
class_of_array (places.Part (suc i)) h = 0
class_of_array (places.Import k) h = 9
class_of_array places.Result h = 9
class_of_array (places.Number k) h = suc h
class_of_array (places.Node j) h = 9

pick_array : (a b : End) → (a ≡ ResultEnd 0) ⊎ (a ≡ PartEnd 0 0) ⊎ (a ≡ PartEnd 0 1)
    → (b ≡ PartEnd 0 2) ⊎ (b ≡ PartEnd 0 3) ⊎ (b ≡ PartEnd 0 4) ⊎ (b ≡ PartEnd 1 0)
    → class class_of_array (at a) ≡ class class_of_array (at b) → Has array_plan.joints (joint a b)
pick_array a b (inl e) (inl g) c = let h : 9 ≡ 2 = classes class_of_array a b _ _ e g c in absurd (omega (arith, h))
pick_array a b (inl e) (inr (inl g)) c = let h : 9 ≡ 3 = classes class_of_array a b _ _ e g c in absurd (omega (arith, h))
pick_array a b (inl e) (inr (inr (inl g))) c = inl (λ i. joint (sym e i) (sym g i))
pick_array a b (inl e) (inr (inr (inr g))) c = let h : 9 ≡ 0 = classes class_of_array a b _ _ e g c in absurd (omega (arith, h))
pick_array a b (inr (inl e)) (inl g) c = let h : 0 ≡ 2 = classes class_of_array a b _ _ e g c in absurd (omega (arith, h))
pick_array a b (inr (inl e)) (inr (inl g)) c = let h : 0 ≡ 3 = classes class_of_array a b _ _ e g c in absurd (omega (arith, h))
pick_array a b (inr (inl e)) (inr (inr (inl g))) c = let h : 0 ≡ 9 = classes class_of_array a b _ _ e g c in absurd (omega (arith, h))
pick_array a b (inr (inl e)) (inr (inr (inr g))) c = inr (inl (λ i. joint (sym e i) (sym g i)))
pick_array a b (inr (inr e)) (inl g) c = let h : 1 ≡ 2 = classes class_of_array a b _ _ e g c in absurd (omega (arith, h))
pick_array a b (inr (inr e)) (inr (inl g)) c = let h : 1 ≡ 3 = classes class_of_array a b _ _ e g c in absurd (omega (arith, h))
pick_array a b (inr (inr e)) (inr (inr (inl g))) c = let h : 1 ≡ 9 = classes class_of_array a b _ _ e g c in absurd (omega (arith, h))
pick_array a b (inr (inr e)) (inr (inr (inr g))) c = let h : 1 ≡ 0 = classes class_of_array a b _ _ e g c in absurd (omega (arith, h))

pub array_is_planned : ArrayIsPlanned
array_is_planned =
    record {
      imports = refl;
      outcome = refl;
      weight = refl;
      parts = refl;
      right = (((0, 0, refl, refl), refl, refl), (((0, 0, refl, refl), refl, refl), tt));
      joints = λ a b. (sound a b, complete a b);
      order = (omega arith, (omega arith, tt));
    }
  where
    run : Connects (all_ties [] array_term) array_plan (ResultEnd 0) (PartEnd 0 4)
    run = (0, 0, refl, refl, along (at (ResultEnd 0)) (at (PartEnd 0 4)) (at (PartEnd 0 4)) (inl refl) (here (at (PartEnd 0 4))))

    body : Connects (all_ties [] array_term) array_plan (PartEnd 0 0) (PartEnd 1 0)
    body = (
      0,
      0,
      refl,
      refl,
      along (at (PartEnd 0 0)) (at (PartEnd 1 0)) (at (PartEnd 1 0)) (inr (inr (inr (inr (inr (inr (inr (inr (inl refl)))))))))
          (here (at (PartEnd 1 0))),
    )

    sound : (a b : End) → Has array_plan.joints (joint a b) → Connects (all_ties [] array_term) array_plan a b
    sound a b (inl e) = subst (λ (j : Joint). Connects (all_ties [] array_term) array_plan j.asking j.serving) e run
    sound a b (inr (inl e)) = subst (λ (j : Joint). Connects (all_ties [] array_term) array_plan j.asking j.serving) e body
    sound a b (inr (inr h)) = absurd h

    complete : (a b : End) → Connects (all_ties [] array_term) array_plan a b → Has array_plan.joints (joint a b)
    complete a b (q, v, one_asks, other_serves, path) =
        pick_array a b (array_asks a q v one_asks) (array_serves b q v other_serves)
        (path_class class_of_array (all_ties [] array_term) (refl, (refl, (refl, (refl, (refl, tt))))) (at a) (at b) path)

-- how many numbers the first part has, where it is an array
abbrev length_of : List Part → ℕ
length_of (Array w n v ∷ ks) = n
length_of ks = 0

pub other_length_is_not_planned : OtherLengthIsNotPlanned
other_length_is_not_planned planned = let h : 4 ≡ 2 = ap length_of planned.parts in omega (arith, h)

-- the plan of c ; d
both_asks : (a : End) (q v : ℕ) → contact_at both_plan a ≡ Some (asks q v) → (a ≡ ResultEnd 0) ⊎ (a ≡ PartEnd 0 0) ⊎ (a ≡ PartEnd 0 1)
both_asks (PartEnd zero zero) q v e = inr (inl refl)
both_asks (PartEnd zero (suc zero)) q v e = inr (inr refl)
both_asks (PartEnd zero (suc (suc zero))) q v e = absurd (serves_is_not_asks 0 0 q v e)
both_asks (PartEnd zero (suc (suc (suc h)))) q v e = cc
both_asks (PartEnd (suc i) h) q v e = cc
both_asks (ImportEnd zero zero) q v e = absurd (serves_is_not_asks 0 0 q v e)
both_asks (ImportEnd zero (suc h)) q v e = cc
both_asks (ImportEnd (suc zero) zero) q v e = absurd (serves_is_not_asks 0 0 q v e)
both_asks (ImportEnd (suc zero) (suc h)) q v e = cc
both_asks (ImportEnd (suc (suc i)) h) q v e = cc
both_asks (ResultEnd zero) q v e = inl refl
both_asks (ResultEnd (suc h)) q v e = cc

both_serves : (a : End) (q v : ℕ) → contact_at both_plan a ≡ Some (serves q v) → (a ≡ PartEnd 0 2) ⊎ (a ≡ ImportEnd 0 0) ⊎ (a ≡ ImportEnd 1 0)
both_serves (PartEnd zero zero) q v e = absurd (asks_is_not_serves 0 0 q v e)
both_serves (PartEnd zero (suc zero)) q v e = absurd (asks_is_not_serves 0 0 q v e)
both_serves (PartEnd zero (suc (suc zero))) q v e = inl refl
both_serves (PartEnd zero (suc (suc (suc h)))) q v e = cc
both_serves (PartEnd (suc i) h) q v e = cc
both_serves (ImportEnd zero zero) q v e = inr (inl refl)
both_serves (ImportEnd zero (suc h)) q v e = cc
both_serves (ImportEnd (suc zero) zero) q v e = inr (inr refl)
both_serves (ImportEnd (suc zero) (suc h)) q v e = cc
both_serves (ImportEnd (suc (suc i)) h) q v e = cc
both_serves (ResultEnd zero) q v e = absurd (asks_is_not_serves 0 0 q v e)
both_serves (ResultEnd (suc h)) q v e = cc

-- classes of its points
abbrev class_of_both : Place → ℕ → ℕ
class_of_both (places.Part i) zero = 1
class_of_both (places.Part i) (suc zero) = 2
class_of_both (places.Part i) (suc (suc h)) = 0
class_of_both (places.Import zero) h = 1
class_of_both (places.Import (suc k)) h = 2
class_of_both places.Result h = 0
class_of_both (places.Number zero) h = 1
class_of_both (places.Number (suc k)) h = 2
class_of_both (places.Node j) h = 0

pick : (a b : End) → (a ≡ ResultEnd 0) ⊎ (a ≡ PartEnd 0 0) ⊎ (a ≡ PartEnd 0 1) → (b ≡ PartEnd 0 2) ⊎ (b ≡ ImportEnd 0 0) ⊎ (b ≡ ImportEnd 1 0)
    → class class_of_both (at a) ≡ class class_of_both (at b) → Has both_plan.joints (joint a b)
pick a b (inl e) (inl f) c = inl (λ i. joint (sym e i) (sym f i))
pick a b (inl e) (inr (inl f)) c = let h : 0 ≡ 1 = classes class_of_both a b _ _ e f c in absurd (omega (arith, h))
pick a b (inl e) (inr (inr f)) c = let h : 0 ≡ 2 = classes class_of_both a b _ _ e f c in absurd (omega (arith, h))
pick a b (inr (inl e)) (inl f) c = let h : 1 ≡ 0 = classes class_of_both a b _ _ e f c in absurd (omega (arith, h))
pick a b (inr (inl e)) (inr (inl f)) c = inr (inl (λ i. joint (sym e i) (sym f i)))
pick a b (inr (inl e)) (inr (inr f)) c = let h : 1 ≡ 2 = classes class_of_both a b _ _ e f c in absurd (omega (arith, h))
pick a b (inr (inr e)) (inl f) c = let h : 2 ≡ 0 = classes class_of_both a b _ _ e f c in absurd (omega (arith, h))
pick a b (inr (inr e)) (inr (inl f)) c = let h : 2 ≡ 1 = classes class_of_both a b _ _ e f c in absurd (omega (arith, h))
pick a b (inr (inr e)) (inr (inr f)) c = inr (inr (inl (λ i. joint (sym e i) (sym f i))))

pub both_is_planned : BothIsPlanned
both_is_planned =
    record {
      imports = refl;
      outcome = refl;
      weight = refl;
      parts = refl;
      right = (((0, 0, refl, refl), refl, refl), (((0, 0, refl, refl), refl, refl), (((0, 0, refl, refl), refl, refl), tt)));
      joints = λ a b. (sound a b, complete a b);
      order = (omega arith, (omega arith, (omega arith, tt)));
    }
  where
    run : Connects (all_ties two_imports both_term) both_plan (ResultEnd 0) (PartEnd 0 2)
    run = (0, 0, refl, refl, along (at (ResultEnd 0)) (at (PartEnd 0 2)) (at (PartEnd 0 2)) (inr (inr (inr (inr (inl refl))))) (here (at (PartEnd 0 2))))

    first : Connects (all_ties two_imports both_term) both_plan (PartEnd 0 0) (ImportEnd 0 0)
    first = (
      0,
      0,
      refl,
      refl,
      along (at (PartEnd 0 0)) (point (places.Number 0) 0) (at (ImportEnd 0 0)) (inr (inr (inr (inr (inr (inr (inl refl)))))))
          (along (point (places.Number 0) 0) (at (ImportEnd 0 0)) (at (ImportEnd 0 0)) (inr (inl refl)) (here (at (ImportEnd 0 0)))),
    )

    second : Connects (all_ties two_imports both_term) both_plan (PartEnd 0 1) (ImportEnd 1 0)
    second = (
      0,
      0,
      refl,
      refl,
      along (at (PartEnd 0 1)) (point (places.Number 1) 0) (at (ImportEnd 1 0)) (inr (inr (inr (inr (inr (inr (inr (inr (inl refl)))))))))
          (along (point (places.Number 1) 0) (at (ImportEnd 1 0)) (at (ImportEnd 1 0)) (inr (inr (inr (inl refl)))) (here (at (ImportEnd 1 0)))),
    )

    sound : (a b : End) → Has both_plan.joints (joint a b) → Connects (all_ties two_imports both_term) both_plan a b
    sound a b (inl e) = subst (λ (j : Joint). Connects (all_ties two_imports both_term) both_plan j.asking j.serving) e run
    sound a b (inr (inl e)) = subst (λ (j : Joint). Connects (all_ties two_imports both_term) both_plan j.asking j.serving) e first
    sound a b (inr (inr (inl e))) = subst (λ (j : Joint). Connects (all_ties two_imports both_term) both_plan j.asking j.serving) e second
    sound a b (inr (inr (inr h))) = absurd h

    complete : (a b : End) → Connects (all_ties two_imports both_term) both_plan a b → Has both_plan.joints (joint a b)
    complete a b (q, v, one_asks, other_serves, path) =
        pick a b (both_asks a q v one_asks) (both_serves b q v other_serves)
        (path_class class_of_both (all_ties two_imports both_term) (refl, (refl, (refl, (refl, (refl, tt))))) (at a) (at b) path)

pub turned_is_not_planned : TurnedIsNotPlanned
turned_is_not_planned planned = let (first, (second, rest)) = planned.order in omega (arith, second)

pub shell_is_not_planned : ShellIsNotPlanned
shell_is_not_planned planned = let weight = planned.weight in omega (arith, weight)
