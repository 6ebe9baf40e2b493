-- A loose part in a driven plan: the driving parts come one number later, and nothing else changes.
use Rattle.std.specs.Prelude.{◌↔◌, ◌⊎◌, ◌+◌, ◌-◌, ◌<◌, ◌≤◌, None, nat_eq, nat_lt, slice_get, length}
use Rattle.std.proofs.Common.{◌≡◌, ℕ, suc, Bool, true, false, List, [], ◌∷◌, ◌++◌, Option, Some, Contains, inl, inr, refl, sym, ◌∙◌, ap, subst, arith, if◌then◌else◌}
use Rattle.std.proofs.lemmas.Bool.Decides.{nat_tests}
use Rattle.std.proofs.lemmas.Option.{slice_get_past, none-some}
use Rattle.std.proofs.lemmas.List.{length-append}
use Rattle.std.proofs.lemmas.Bool.{lt-ltb, le-ltb}
use Rattle.gos_model.specs.Terms.{Term}
use Rattle.gos_model.proofs.NumberLemmas.{nat_eq_itself, nat_eq_above}
use Rattle.gos_plan.specs.Kinds.{Contact, asks, serves, Part}
use Rattle.gos_plan.specs.Plans.{End, PartEnd, ImportEnd, ResultEnd, Plan, contact_at, contacts_of_part, IsRight}
use Rattle.gos_plan.specs.Tokens.{places_of}
use Rattle.gos_plan.proofs.JointLemmas.{IsIn, found, fits, contained}
use Rattle.gos_realises.specs.realises.Regular.{IsRegular}
use Rattle.gos_realises.specs.realises.Matched.{RealisesInTurn}
use Rattle.gos_realises.specs.realises.Renumbered.{moved, moved_if, IsRenumbered}
use Rattle.gos_realises.proofs.realises.RenumberLemmas.{renumbering_keeps, moved_twice}
use Rattle.gos_joining.specs.webs.Webs.{joint}
use Rattle.gos_joining.proofs.webs.MovedLemmas.{listed}
use Rattle.gos_sharing.proofs.sharing.SeenTokenLemmas.{either_end, place_asking, place_serving}
use Rattle.gos_sharing.specs.buffers.Buffering.{with_part}
use Rattle.gos_sharing.proofs.buffers.LoosePartLemmas.{with_part_right, loose_part_is_free}
use Rattle.gos_sharing.proofs.buffers.DrivenLemmas.{IsPlain, DrivenJoint, IsDriven, before_end, past_end, one_longer}

-- Number n goes behind the m numbers after it, which come one forward; and back.
abbrev pub forth : ℕ → ℕ → ℕ → ℕ
forth n m i = if nat_lt i n then i else if nat_eq i n then n + m else if nat_lt (n + m) i then i else i - 1

abbrev pub back : ℕ → ℕ → ℕ → ℕ
back n m i = if nat_lt i n then i else if nat_lt i (n + m) then suc i else if nat_eq i (n + m) then n else i

forth_low : (n m i : ℕ) → i < n → forth n m i ≡ i
forth_low n m i l = rw (lt-ltb i n l) refl

forth_at : (n m : ℕ) → forth n m n ≡ n + m
forth_at n m = rw (le-ltb n n (omega arith), nat_eq_itself n) refl

pub forth_mid : (n m i : ℕ) → n < i → i ≤ n + m → forth n m i ≡ i - 1
forth_mid n m i l k = rw (le-ltb i n (omega (arith, l)), nat_eq_above i n l, le-ltb (n + m) i k) refl

forth_high : (n m i : ℕ) → n + m < i → forth n m i ≡ i
forth_high n m i l = rw (le-ltb i n (omega (arith, l)), nat_eq_above i n (omega (arith, l)), lt-ltb (n + m) i l) refl

back_low : (n m i : ℕ) → i < n → back n m i ≡ i
back_low n m i l = rw (lt-ltb i n l) refl

pub back_mid : (n m i : ℕ) → n ≤ i → i < n + m → back n m i ≡ suc i
back_mid n m i l k = rw (le-ltb i n l, lt-ltb i (n + m) k) refl

back_at : (n m : ℕ) → back n m (n + m) ≡ n
back_at n m = rw (le-ltb (n + m) n (omega arith), le-ltb (n + m) (n + m) (omega arith), nat_eq_itself (n + m)) refl

back_high : (n m i : ℕ) → n + m < i → back n m i ≡ i
back_high n m i l = rw (le-ltb i n (omega (arith, l)), le-ltb i (n + m) (omega (arith, l)), nat_eq_above i (n + m) l) refl

-- below, at, among the next, or beyond
by_place : (P : ℕ → Type 0) (n m i : ℕ) → (i < n → P i) → (i ≡ n → P i) → (n < i → i ≤ n + m → P i) → (n + m < i → P i) → P i
by_place P n m i low here mid high = by_test (nat_lt i n) (nat_eq i n) (nat_lt (n + m) i) refl refl refl
  where
    by_test : (x y z : Bool) → nat_lt i n ≡ x → nat_eq i n ≡ y → nat_lt (n + m) i ≡ z → P i
    by_test true y z e f g = low (grind (arith, nat_tests, e))
    by_test false true z e f g = here (grind (arith, nat_tests, f))
    by_test false false true e f g = high (grind (arith, nat_tests, g))
    by_test false false false e f g = mid (grind (arith, nat_tests, e, f)) (grind (arith, nat_tests, g))

pub returns : (n m i : ℕ) → back n m (forth n m i) ≡ i
returns n m i =
    by_place (λ j. back n m (forth n m j) ≡ j) n m i
    (λ l. ap (back n m) (forth_low n m i l) ∙ back_low n m i l)
    (λ e. ap (λ j. back n m (forth n m j)) e ∙ (ap (back n m) (forth_at n m) ∙ (back_at n m ∙ sym e)))
    (λ l k. let f : suc (i - 1) ≡ i = omega (arith, l) in ap (back n m) (forth_mid n m i l k) ∙ (back_mid n m (i - 1) (omega (arith, l)) (omega (arith, l, k)) ∙ f))
    (λ l. ap (back n m) (forth_high n m i l) ∙ back_high n m i l)

-- below, among, at the end, or beyond
by_other : (P : ℕ → Type 0) (n m i : ℕ) → (i < n → P i) → (n ≤ i → i < n + m → P i) → (i ≡ n + m → P i) → (n + m < i → P i) → P i
by_other P n m i low mid here high = by_test (nat_lt i n) (nat_lt i (n + m)) (nat_eq i (n + m)) refl refl refl
  where
    by_test : (x y z : Bool) → nat_lt i n ≡ x → nat_lt i (n + m) ≡ y → nat_eq i (n + m) ≡ z → P i
    by_test true y z e f g = low (grind (arith, nat_tests, e))
    by_test false true z e f g = mid (grind (arith, nat_tests, e)) (grind (arith, nat_tests, f))
    by_test false false true e f g = here (grind (arith, nat_tests, g))
    by_test false false false e f g = high (grind (arith, nat_tests, f, g))

pub comes : (n m i : ℕ) → forth n m (back n m i) ≡ i
comes n m i =
    by_other (λ j. forth n m (back n m j) ≡ j) n m i
    (λ l. ap (forth n m) (back_low n m i l) ∙ forth_low n m i l)
    (λ l k. let f : suc i - 1 ≡ i = omega arith in ap (forth n m) (back_mid n m i l k) ∙ (forth_mid n m (suc i) (omega (arith, l)) (omega (arith, k)) ∙ f))
    (λ e. ap (λ j. forth n m (back n m j)) e ∙ (ap (forth n m) (back_at n m) ∙ (forth_at n m ∙ sym e)))
    (λ l. ap (forth n m) (back_high n m i l) ∙ forth_high n m i l)

-- the parts
moved_parts : (xs ds : List Part) (k : Part) (i : ℕ) → slice_get ((xs ++ ds) ++ (k ∷ [])) (forth (length xs) (length ds) i) ≡ slice_get ((xs ++ (k ∷ [])) ++ ds) i
moved_parts xs ds k i =
    by_place (λ j. slice_get ((xs ++ ds) ++ (k ∷ [])) (forth (length xs) (length ds) j) ≡ slice_get ((xs ++ (k ∷ [])) ++ ds) j) (length xs) (length ds) i low here mid high
  where
    both : length (xs ++ ds) ≡ length xs + length ds
    both = length-append xs ds

    longer : length (xs ++ (k ∷ [])) ≡ suc (length xs)
    longer = one_longer xs k

    low : i < length xs → slice_get ((xs ++ ds) ++ (k ∷ [])) (forth (length xs) (length ds) i) ≡ slice_get ((xs ++ (k ∷ [])) ++ ds) i
    low l =
        ap (slice_get ((xs ++ ds) ++ (k ∷ []))) (forth_low (length xs) (length ds) i l)
        ∙ (before_end (xs ++ ds) (k ∷ []) i (omega (arith, l, both))
        ∙ (before_end xs ds i l ∙ (sym (before_end xs (k ∷ []) i l) ∙ sym (before_end (xs ++ (k ∷ [])) ds i (omega (arith, l, longer))))))

    at_number : slice_get ((xs ++ ds) ++ (k ∷ [])) (forth (length xs) (length ds) (length xs)) ≡ slice_get ((xs ++ (k ∷ [])) ++ ds) (length xs)
    at_number =
        ap (slice_get ((xs ++ ds) ++ (k ∷ []))) (forth_at (length xs) (length ds))
        ∙ (past_end (xs ++ ds) (k ∷ []) (length xs + length ds) 0 (omega (arith, both))
        ∙ (sym (past_end xs (k ∷ []) (length xs) 0 (omega arith)) ∙ sym (before_end (xs ++ (k ∷ [])) ds (length xs) (omega (arith, longer)))))

    here : i ≡ length xs → slice_get ((xs ++ ds) ++ (k ∷ [])) (forth (length xs) (length ds) i) ≡ slice_get ((xs ++ (k ∷ [])) ++ ds) i
    here e = subst (λ (j : ℕ). slice_get ((xs ++ ds) ++ (k ∷ [])) (forth (length xs) (length ds) j) ≡ slice_get ((xs ++ (k ∷ [])) ++ ds) j) (sym e) at_number

    mid : length xs < i → i ≤ length xs + length ds → slice_get ((xs ++ ds) ++ (k ∷ [])) (forth (length xs) (length ds) i) ≡ slice_get ((xs ++ (k ∷ [])) ++ ds) i
    mid l u =
        ap (slice_get ((xs ++ ds) ++ (k ∷ []))) (forth_mid (length xs) (length ds) i l u)
        ∙ (before_end (xs ++ ds) (k ∷ []) (i - 1) (omega (arith, l, u, both))
        ∙ (past_end xs ds (i - 1) (i - 1 - length xs) (omega (arith, l)) ∙ sym (past_end (xs ++ (k ∷ [])) ds i (i - 1 - length xs) (omega (arith, l, longer)))))

    high : length xs + length ds < i → slice_get ((xs ++ ds) ++ (k ∷ [])) (forth (length xs) (length ds) i) ≡ slice_get ((xs ++ (k ∷ [])) ++ ds) i
    high l =
        let one = length-append (xs ++ ds) (k ∷ []) in
        let other = length-append (xs ++ (k ∷ [])) ds in
        ap (slice_get ((xs ++ ds) ++ (k ∷ []))) (forth_high (length xs) (length ds) i l)
        ∙ (slice_get_past ((xs ++ ds) ++ (k ∷ [])) i (omega (arith, l, one, both)) ∙ sym (slice_get_past ((xs ++ (k ∷ [])) ++ ds) i (omega (arith, l, other, longer))))

-- places, where joints are moved
abbrev JointsMoved : (ℕ → ℕ) → Plan → Plan → Type 0
JointsMoved f p q = (a b : End) → Contains p.joints (joint a b) ↔ Contains q.joints (joint (moved f a) (moved f b))

moved_places : (f g : ℕ → ℕ) → ((i : ℕ) → g (f i) ≡ i) → ((i : ℕ) → f (g i) ≡ i) → (p q : Plan) → IsRight p → IsRight q → JointsMoved f p q
    → (e : End) → places_of q (moved f e) ≡ moved_if f (places_of p e)
moved_places f g returns comes p q right also_right same e = by_place (places_of p e) refl
  where
    with_joint : (a b : End) → IsIn (joint a b) p.joints → (e ≡ a) ⊎ (e ≡ b) → places_of q (moved f e) ≡ Some (moved f a)
    with_joint a b here side =
        let there = contained q.joints (joint (moved f a) (moved f b)) ((same a b).0 (listed p.joints (joint a b) here)) in
        elim side [
          | inl at ↦ ap (λ (x : End). places_of q (moved f x)) at ∙ place_asking q (moved f a) (moved f b) also_right there
          | inr at ↦ ap (λ (x : End). places_of q (moved f x)) at ∙ place_serving q (moved f a) (moved f b) also_right there
        ]

    of_joint : (x y : End) → IsIn (joint x y) q.joints → (moved f e ≡ x) ⊎ (moved f e ≡ y) → places_of p e ≡ Some (moved g x)
    of_joint x y here side =
        let moved_in : Contains q.joints (joint (moved f (moved g x)) (moved f (moved g y))) =
        subst (λ (a : End). Contains q.joints (joint a (moved f (moved g y)))) (sym (moved_twice g f comes x))
        (subst (λ (b : End). Contains q.joints (joint x b)) (sym (moved_twice g f comes y)) (listed q.joints (joint x y) here)) in
        let there = contained p.joints (joint (moved g x) (moved g y)) ((same (moved g x) (moved g y)).1 moved_in) in
        elim side [
          | inl at ↦ ap (places_of p) (sym (moved_twice f g returns e) ∙ ap (moved g) at) ∙ place_asking p (moved g x) (moved g y) right there
          | inr at ↦ ap (places_of p) (sym (moved_twice f g returns e) ∙ ap (moved g) at) ∙ place_serving p (moved g x) (moved g y) right there
        ]

    none_there : places_of p e ≡ None → (o : Option End) → places_of q (moved f e) ≡ o → o ≡ None
    none_there none None there = refl
    none_there none (Some x) there =
        let at = found q.joints (moved f e) x there in
        let was = of_joint at.joint.asking at.joint.serving at.is_in (either_end (moved f e) at.joint.asking at.joint.serving at.stands) in
        let clash : None ≡ Some (moved g at.joint.asking) = sym none ∙ was in absurd (cc clash)

    by_place : (o : Option End) → places_of p e ≡ o → places_of q (moved f e) ≡ moved_if f (places_of p e)
    by_place None h = none_there h (places_of q (moved f e)) refl ∙ ap (moved_if f) (sym h)
    by_place (Some a) h =
        let at = found p.joints e a h in
        with_joint at.joint.asking at.joint.serving at.is_in (either_end e at.joint.asking at.joint.serving at.stands)
        ∙ (ap (λ (x : End). Some (moved f x)) at.named ∙ ap (moved_if f) (sym h))

-- the driving parts' joints come one number later
abbrev pub IsLater : (ℕ → End → End → Type 0) → ℕ → Type 0
IsLater Own m = (n : ℕ) (a b : End) → Own (suc n) a b ↔ Own n (moved (forth n m) a) (moved (forth n m) b)

module _
    (v f : ℕ) (ds : List Part) (Own : ℕ → End → End → Type 0) (later : IsLater Own (length ds)) (some : 0 < length ds) (k : Part) (p : Plan) (right : IsRight p) (q r : Plan)
    (loose : IsDriven v f ds Own (with_part k p) q) (driven : IsDriven v f ds Own p r) (one_outcome : q.outcome ≡ r.outcome) where
  abbrev number : ℕ
  number = length p.parts

  abbrev onto : ℕ → ℕ
  onto = forth number (length ds)

  abbrev from : ℕ → ℕ
  from = back number (length ds)

  first_is : length (p.parts ++ (k ∷ [])) ≡ suc number
  first_is = one_longer p.parts k

  -- the plan's own ends stay
  known_low : (i h : ℕ) (c : Contact) → contact_at p (PartEnd i h) ≡ Some c → i < number
  known_low i h c there = by_test (nat_lt i number) refl
    where
      by_test : (b : Bool) → nat_lt i number ≡ b → i < number
      by_test true e = grind (arith, nat_tests, e)
      by_test false e =
          let none = slice_get_past p.parts i (grind (arith, nat_tests, e)) in
          absurd (none-some c (sym (ap (λ x. slice_get (contacts_of_part x) h) none) ∙ there))

  own_stays : (e : End) (c : Contact) → contact_at p e ≡ Some c → moved onto e ≡ e
  own_stays (PartEnd i h) c there = ap (λ j. PartEnd j h) (forth_low number (length ds) i (known_low i h c there))
  own_stays (ImportEnd i h) c there = refl
  own_stays (ResultEnd h) c there = refl

  -- and so does what is moved onto one of them
  own_before : (e d : End) (c : Contact) → contact_at p d ≡ Some c → moved onto e ≡ d → e ≡ d
  own_before e d c there at =
      sym (moved_twice onto from (returns number (length ds)) e) ∙ (ap (moved from) (at ∙ sym (own_stays d c there)) ∙ moved_twice onto from (returns number (length ds)) d)

  first_moves : moved onto (PartEnd (suc number) f) ≡ PartEnd number f
  first_moves =
      let e : suc number - 1 ≡ number = omega arith in
      ap (λ j. PartEnd j f) (forth_mid number (length ds) (suc number) (omega arith) (omega (arith, some)) ∙ e)

  plain_moved : (e : End) → IsPlain e → IsPlain (moved onto e)
  plain_moved (PartEnd i h) plain = tt
  plain_moved (ImportEnd i h) plain = tt
  plain_moved (ResultEnd h) plain = absurd plain

  plain_before : (e : End) → IsPlain (moved onto e) → IsPlain e
  plain_before (PartEnd i h) plain = tt
  plain_before (ImportEnd i h) plain = tt
  plain_before (ResultEnd h) plain = absurd plain

  abbrev Loose : End → End → Type 0
  Loose a b = DrivenJoint v f Own (suc number) p a b

  abbrev Plainly : End → End → Type 0
  Plainly a b = DrivenJoint v f Own number p a b

  on : (a b : End) → Loose a b → Plainly (moved onto a) (moved onto b)
  on a b (inl (here, plain)) =
      let fit = fits p [] p.joints (joint a b) right here in
      inl (
        subst (λ (x : End). IsIn (joint x (moved onto b)) p.joints) (sym (own_stays a (asks fit.0 fit.1) fit.2))
            (subst (λ (x : End). IsIn (joint a x) p.joints) (sym (own_stays b (serves fit.0 fit.1) fit.3)) here),
        plain_moved a plain,
      )
  on a b (inr (inl (at_a, here))) =
      let fit = fits p [] p.joints (joint (ResultEnd v) b) right here in
      inr (inl (ap (moved onto) at_a ∙ first_moves, subst (λ (x : End). IsIn (joint (ResultEnd v) x) p.joints) (sym (own_stays b (serves fit.0 fit.1) fit.3)) here))
  on a b (inr (inr here)) = inr (inr ((later number a b).0 here))

  off : (a b : End) → Plainly (moved onto a) (moved onto b) → Loose a b
  off a b (inl (here, plain)) =
      let fit = fits p [] p.joints (joint (moved onto a) (moved onto b)) right here in
      inl (
        subst (λ (x : End). IsIn (joint x b) p.joints) (sym (own_before a (moved onto a) (asks fit.0 fit.1) fit.2 refl))
            (subst (λ (x : End). IsIn (joint (moved onto a) x) p.joints) (sym (own_before b (moved onto b) (serves fit.0 fit.1) fit.3 refl)) here),
        plain_before a plain,
      )
  off a b (inr (inl (at_a, here))) =
      let fit = fits p [] p.joints (joint (ResultEnd v) (moved onto b)) right here in
      inr (inl (
        sym (moved_twice onto from (returns number (length ds)) a)
            ∙ (ap (moved from) (at_a ∙ sym first_moves) ∙ moved_twice onto from (returns number (length ds)) (PartEnd (suc number) f)),
        subst (λ (x : End). IsIn (joint (ResultEnd v) x) p.joints) (sym (own_before b (moved onto b) (serves fit.0 fit.1) fit.3 refl)) here,
      ))
  off a b (inr (inr here)) = inr (inr ((later number a b).1 here))

  at_first : (a b : End) → Contains q.joints (joint a b) ↔ Loose a b
  at_first a b = subst (λ (n : ℕ). Contains q.joints (joint a b) ↔ DrivenJoint v f Own n p a b) first_is (loose.joints a b)

  joints_moved : JointsMoved onto q (with_part k r)
  joints_moved a b = (
    λ has. (driven.joints (moved onto a) (moved onto b)).1 (on a b ((at_first a b).0 has)),
    λ has. (at_first a b).1 (off a b ((driven.joints (moved onto a) (moved onto b)).0 has)),
  )

  loose_right : IsRight (with_part k r)
  loose_right = with_part_right k r driven.right

  renumbered : IsRenumbered onto from q (with_part k r)
  renumbered =
      record {
        returns = returns number (length ds);
        comes = comes number (length ds);
        parts = λ i. ap (λ (xs : List Part). slice_get (xs ++ (k ∷ [])) (onto i)) driven.parts ∙ (moved_parts p.parts ds k i ∙ ap (λ (xs : List Part). slice_get xs i) (sym loose.parts));
        imports = driven.imports ∙ sym loose.imports;
        outcome = sym one_outcome;
        places = λ e. moved_places onto from (returns number (length ds)) (comes number (length ds)) q (with_part k r) loose.right loose_right joints_moved e;
      }

  pub loose_keeps : (IsRegular r → IsRegular q) × ((m : Term) → RealisesInTurn r m → RealisesInTurn q m)
  loose_keeps =
      let free = loose_part_is_free k r driven.right in
      let keeps = renumbering_keeps onto from q (with_part k r) renumbered in
      ((λ regular. keeps.0 (free.0 regular)), (λ m realises. keeps.1 m (free.1 m realises)))
