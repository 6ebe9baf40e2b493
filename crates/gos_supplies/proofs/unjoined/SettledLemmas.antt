-- Numbers for parts and imports that are not there.
--
-- A plan beside loose parts says nothing of numbers past the end of its lists. Here each of those gets one past the end of
-- the whole's lists, so that no two ends stand in one (`IsPlaced`).
use Rattle.std.specs.Prelude.{◌≡◌, ℕ, ◌+◌, ◌-◌, ◌<◌, ◌≤◌, Bool, true, false, List, [], ◌⊎◌, length, Option, Some, None, Contains, nat_lt, slice_get, if◌then◌else◌}
use Rattle.std.proofs.Common.{refl, sym, ◌∙◌, ap, subst, arith, inl, inr}
use Rattle.std.proofs.lemmas.Bool.Decides.{nat_tests}
use Rattle.std.proofs.lemmas.Option.{slice_get_within, slice_get_past}
use Rattle.gos_types.proofs.ListLemmas.{element_at}
use Rattle.gos_model.specs.Typing.{Imported}
use Rattle.gos_plan.specs.Kinds.{Part, Contact, asks, serves}
use Rattle.gos_plan.specs.Plans.{End, PartEnd, ImportEnd, ResultEnd, Plan, IsRight, contact_at, contacts_of_part, contacts_of_import}
use Rattle.gos_plan.proofs.JointLemmas.{fits, contained}
use Rattle.gos_joining.specs.webs.Webs.{joint}
use Rattle.gos_supplies.specs.unjoined.Beside.{Placing, placed, IsLoose, IsOwn, IsBeside}
use Rattle.gos_supplies.proofs.unjoined.PlacedLemmas.{part_if, import_if, end_in, AreLoose, IsPlaced}

-- of n numbers, that have m, all others have later ones
abbrev pub settled : ℕ → ℕ → (ℕ → ℕ) → ℕ → ℕ
settled n m to i = if nat_lt i n then to i else m + i

abbrev pub settled_back : ℕ → ℕ → (ℕ → Option ℕ) → ℕ → Option ℕ
settled_back n m from i = if nat_lt i m then from i else (if nat_lt i (m + n) then None else Some (i - m))

pub low : (n m : ℕ) (to : ℕ → ℕ) (i : ℕ) → i < n → settled n m to i ≡ to i
low n m to i small =
    let test : nat_lt i n ≡ true = grind (arith, nat_tests, small) in ap (λ (b : Bool). if b then to i else m + i) test

high : (n m : ℕ) (to : ℕ → ℕ) (i : ℕ) → n ≤ i → settled n m to i ≡ m + i
high n m to i large =
    let test : nat_lt i n ≡ false = grind (arith, nat_tests, large) in ap (λ (b : Bool). if b then to i else m + i) test

pub low_back : (n m : ℕ) (from : ℕ → Option ℕ) (i : ℕ) → i < m → settled_back n m from i ≡ from i
low_back n m from i small =
    let test : nat_lt i m ≡ true = grind (arith, nat_tests, small) in
    ap (λ (b : Bool). if b then from i else (if nat_lt i (m + n) then None else Some (i - m))) test

high_back : (n m : ℕ) (from : ℕ → Option ℕ) (i : ℕ) → m + n ≤ i → settled_back n m from i ≡ Some (i - m)
high_back n m from i large =
    let test : nat_lt i m ≡ false = grind (arith, nat_tests, large) in
    let other : nat_lt i (m + n) ≡ false = grind (arith, nat_tests, large) in
    ap (λ (b : Bool). if b then from i else (if nat_lt i (m + n) then None else Some (i - m))) test
    ∙ ap (λ (b : Bool). if b then None else Some (i - m)) other

none_between : (n m : ℕ) (from : ℕ → Option ℕ) (i : ℕ) → m ≤ i → i < m + n → settled_back n m from i ≡ None
none_between n m from i large small =
    let test : nat_lt i m ≡ false = grind (arith, nat_tests, large) in
    let other : nat_lt i (m + n) ≡ true = grind (arith, nat_tests, small) in
    ap (λ (b : Bool). if b then from i else (if nat_lt i (m + n) then None else Some (i - m))) test
    ∙ ap (λ (b : Bool). if b then None else Some (i - m)) other

module _ {X : Type 0} (xs ys : List X) (to : ℕ → ℕ) (from : ℕ → Option ℕ)
    (forth : (i : ℕ) (x : X) → slice_get xs i ≡ Some x → (slice_get ys (to i) ≡ Some x) × (from (to i) ≡ Some i))
    (back : (i j : ℕ) → from i ≡ Some j → (to j ≡ i) × ((x : X) × (slice_get xs j ≡ Some x)))
  where
    abbrev n : ℕ
    n = length xs

    abbrev m : ℕ
    m = length ys

    there : (i : ℕ) → i < n → (x : X) × (slice_get xs i ≡ Some x)
    there i small = element_at xs i small

    pub settled_get : (i : ℕ) → slice_get ys (settled n m to i) ≡ slice_get xs i
    settled_get i = by_test (nat_lt i n) refl
      where
        by_test : (b : Bool) → nat_lt i n ≡ b → slice_get ys (settled n m to i) ≡ slice_get xs i
        by_test true test =
            let small : i < n = grind (arith, nat_tests, test) in
            let (x, at) = there i small in
            ap (slice_get ys) (low n m to i small) ∙ ((forth i x at).0 ∙ sym at)
        by_test false test =
            let large : n ≤ i = grind (arith, nat_tests, test) in
            ap (slice_get ys) (high n m to i large) ∙ (slice_get_past ys (m + i) (omega arith) ∙ sym (slice_get_past xs i large))

    pub settled_forth : (i : ℕ) → settled_back n m from (settled n m to i) ≡ Some i
    settled_forth i = by_test (nat_lt i n) refl
      where
        by_test : (b : Bool) → nat_lt i n ≡ b → settled_back n m from (settled n m to i) ≡ Some i
        by_test true test =
            let small : i < n = grind (arith, nat_tests, test) in
            let (x, at) = there i small in
            let both = forth i x at in
            ap (settled_back n m from) (low n m to i small) ∙ (low_back n m from (to i) (slice_get_within ys (to i) x both.0) ∙ both.1)
        by_test false test =
            let large : n ≤ i = grind (arith, nat_tests, test) in
            let same : m + i - m ≡ i = omega arith in
            ap (settled_back n m from) (high n m to i large) ∙ (high_back n m from (m + i) (omega (arith, large)) ∙ ap Some same)

    pub settled_return : (i j : ℕ) → settled_back n m from i ≡ Some j → settled n m to j ≡ i
    settled_return i j is = by_test (nat_lt i m) (nat_lt i (m + n)) refl refl
      where
        by_test : (b d : Bool) → nat_lt i m ≡ b → nat_lt i (m + n) ≡ d → settled n m to j ≡ i
        by_test true d test other =
            let small : i < m = grind (arith, nat_tests, test) in
            let (lands, (x, at)) = back i j (sym (low_back n m from i small) ∙ is) in
            low n m to j (slice_get_within xs j x at) ∙ lands
        by_test false true test other =
            let large : m ≤ i = grind (arith, nat_tests, test) in
            let small : i < m + n = grind (arith, nat_tests, other) in
            let both : None ≡ Some j = sym (none_between n m from i large small) ∙ is in
            absurd (cc both)
        by_test false false test other =
            let large : m + n ≤ i = grind (arith, nat_tests, other) in
            let both : Some (i - m) ≡ Some j = sym (high_back n m from i large) ∙ is in
            let same : i - m ≡ j = cc both in
            high n m to j (omega (arith, same, large)) ∙ omega (arith, same, large)

-- an end that is there is an end of a part or of an import that is there
abbrev pub IsIn : Plan → End → Type 0
IsIn p (PartEnd i h) = i < length p.parts
IsIn p (ImportEnd i h) = i < length p.imports
IsIn p (ResultEnd h) = Unit {0}

pub end_there : (p : Plan) (e : End) (k : Contact) → contact_at p e ≡ Some k → IsIn p e
end_there p (PartEnd i h) k at = by_part (slice_get p.parts i) refl at
  where
    by_part : (o : Option Part) → slice_get p.parts i ≡ o → slice_get (contacts_of_part o) h ≡ Some k → i < length p.parts
    by_part None none there = absurd (cc there)
    by_part (Some x) is there = slice_get_within p.parts i x is
end_there p (ImportEnd i h) k at = by_import (slice_get p.imports i) refl at
  where
    by_import : (o : Option Imported) → slice_get p.imports i ≡ o → slice_get (contacts_of_import o) h ≡ Some k → i < length p.imports
    by_import None none there = absurd (cc there)
    by_import (Some x) is there = slice_get_within p.imports i x is
end_there p (ResultEnd h) k at = tt

joint_there : (p : Plan) (a b : End) → IsRight p → Contains p.joints (joint a b) → IsIn p a × IsIn p b
joint_there p a b right has =
    let (q, v, asked, served) = fits p [] p.joints (joint a b) right (contained p.joints (joint a b) has) in
    (end_there p a (asks q v) asked, end_there p b (serves q v) served)

module _ (f : Placing) (r c : Plan) (is : IsBeside f r c) where
  abbrev pub settling : Placing
  settling =
      record {
        part = settled (length c.parts) (length r.parts) f.part;
        number = settled_back (length c.parts) (length r.parts) f.number;
        import = settled (length c.imports) (length r.imports) f.import;
        import_number = settled_back (length c.imports) (length r.imports) f.import_number;
      }

  placed_same : (e : End) → IsIn c e → placed settling e ≡ placed f e
  placed_same (PartEnd i h) there = ap (λ (k : ℕ). PartEnd k h) (low (length c.parts) (length r.parts) f.part i there)
  placed_same (ImportEnd i h) there = ap (λ (k : ℕ). ImportEnd k h) (low (length c.imports) (length r.imports) f.import i there)
  placed_same (ResultEnd h) there = refl

  pub joint_placed : (a b : End) → Contains c.joints (joint a b) → (placed settling a ≡ placed f a) × (placed settling b ≡ placed f b)
  joint_placed a b has = let both = joint_there c a b is.right has in (placed_same a both.0, placed_same b both.1)

  loose_same : (e : End) → IsIn r e → IsLoose f e → end_in settling e ≡ None
  loose_same (PartEnd i h) there loose =
      ap (λ (o : Option ℕ). part_if o h) (low_back (length c.parts) (length r.parts) f.number i there ∙ loose)
  loose_same (ImportEnd i h) there loose =
      ap (λ (o : Option ℕ). import_if o h) (low_back (length c.imports) (length r.imports) f.import_number i there ∙ loose)
  loose_same (ResultEnd h) there loose = absurd loose

  joints : (a b : End) → Contains c.joints (joint a b) → Contains r.joints (joint (placed settling a) (placed settling b))
  joints a b has =
      let both = joint_there c a b is.right has in
      subst (λ (x : End). Contains r.joints (joint x (placed settling b))) (sym (placed_same a both.0))
      (subst (λ (x : End). Contains r.joints (joint (placed f a) x)) (sym (placed_same b both.1)) (is.joints a b has))

  all : (a b : End) → Contains r.joints (joint a b) → IsOwn settling c a b ⊎ AreLoose settling a b
  all a b has = by_sort (is.all a b has)
    where
      by_sort : IsOwn f c a b ⊎ (IsLoose f a × IsLoose f b) → IsOwn settling c a b ⊎ AreLoose settling a b
      by_sort (inl (d, e, own, at_d, at_e)) =
          let both = joint_there c d e is.right own in
          inl (d, e, own, placed_same d both.0 ∙ at_d, placed_same e both.1 ∙ at_e)
      by_sort (inr (loose_a, loose_b)) =
          let both = joint_there r a b is.whole_right has in inr (loose_same a both.0 loose_a, loose_same b both.1 loose_b)

  pub settled_placed : IsPlaced settling r c
  settled_placed =
      record {
        whole_right = is.whole_right;
        right = is.right;
        outcome = is.lies.outcome;
        parts = settled_get c.parts r.parts f.part f.number is.lies.parts is.lies.numbers;
        part_number = settled_forth c.parts r.parts f.part f.number is.lies.parts is.lies.numbers;
        number_part = settled_return c.parts r.parts f.part f.number is.lies.parts is.lies.numbers;
        imports = settled_get c.imports r.imports f.import f.import_number is.lies.imports is.lies.import_numbers;
        import_number = settled_forth c.imports r.imports f.import f.import_number is.lies.imports is.lies.import_numbers;
        number_import = settled_return c.imports r.imports f.import f.import_number is.lies.imports is.lies.import_numbers;
        joints = joints;
        all = all;
      }
