-- What is free in a term with supplies is free in the term, or in the supply of one of its names.
use Rattle.std.specs.Prelude.{◌≡◌, ℕ, zero, suc, ◌-◌, ◌≤◌, Bool, true, false, List, [], ◌∷◌, ◌++◌, ◌⊎◌, length, Option, Some, Contains, nat_lt, if◌then◌else◌, slice_get}
use Rattle.std.proofs.Common.{refl, sym, ◌∙◌, ap, subst, arith, inl, inr}
use Rattle.std.proofs.lemmas.Bool.Decides.{nat_tests}
use Rattle.std.proofs.lemmas.Option.{slice_get_within}
use Rattle.std.proofs.lemmas.List.Elements.{Contains-append_left, Contains-append_right, Contains-append_cases}
use Rattle.gos_types.specs.Types.{Type', Com, Exp, Var, Pair, Fun}
use Rattle.gos_types.proofs.ListLemmas.{none_in_empty}
use Rattle.gos_types.proofs.BytesLemmas.{bytes_eq_same}
use Rattle.gos_model.specs.Terms.{Name, Term, Skip, Lit, Bound, Import, Lam, App, Both, Fst, Snd, Seq, Par, If, While, Assign, Deref, New, NewArray, Not, Bin}
use Rattle.gos_model.specs.Typing.{Imported, Imports, import_type, Thing, Variable, Named, things, Apart, Typed, array_type}
use Rattle.gos_model.specs.Linking.{or_import, supplied}
use Rattle.gos_joining.proofs.renumbered.ImportLemmas.{has_type}
use Rattle.gos_supplies.specs.typing.Supplied.{AreTyped, ShareNothing, SuppliedTermIsTyped}
use Rattle.gos_supplies.proofs.typing.NameLemmas.{typed_under}

pub of_two : (xs ys : List Thing) (x : Thing) (A : Type 0) → (Contains xs x → A) → (Contains ys x → A) → Contains (xs ++ ys) x → A
of_two xs ys x A f g has = by_side (Contains-append_cases xs ys x has)
  where
    by_side : Contains xs x ⊎ Contains ys x → A
    by_side (inl h) = f h
    by_side (inr h) = g h

-- All that is free in a typed term are names of its imports, under however many binders it stands.
module _ (i : Imports) (x : Thing) where
  pub record IsName : Type 0 where
    pub import : Imported
    pub has : Contains i import
    pub same : x ≡ Named import.name

  one_named : (y : Name) (t : Type') → import_type i y ≡ Some t → Contains (Named y ∷ []) x → IsName
  one_named y t h (zero, small, at) =
      let (j, has, named, typed) = has_type i y t h in
      let same : Named y ≡ x = at in
      record { import = j; has = has; same = sym same ∙ ap (λ z. Named z) (sym (bytes_eq_same j.name y named)) }
  one_named y t h (suc k, small, at) = absurd (omega (arith, small))

  bound_inside : (g : List Type') (d n : ℕ) (t : Type') → length g ≤ d → slice_get g n ≡ Some t → Contains (things d (Bound n)) x → IsName
  bound_inside g d n t low at has =
      let within = slice_get_within g n t at in
      let test : nat_lt n d ≡ true = grind (arith, nat_tests, low, within) in
      absurd (none_in_empty x (subst (λ (b : Bool). Contains (if b then [] else Variable (n - d) ∷ []) x) test has))

  pub named : (m : Term) (d : ℕ) (g : List Type') (t : Type') → length g ≤ d → Typed i g m t → Contains (things d m) x → IsName
  named Skip d g t low h has = absurd (none_in_empty x has)
  named (Lit k w) d g t low h has = absurd (none_in_empty x has)
  named (Bound n) d g t low h has = bound_inside g d n t low h has
  named (Import y) d g t low h has = one_named y t h has
  named (Lam a m) d g t low (b, e, h) has = named m (suc d) (a ∷ g) b (omega (arith, low)) h has
  named (App m n) d g t low (a, h, k, apart) has =
      of_two (things d m) (things d n) x IsName (named m d g (Fun a t) low h) (named n d g a low k) has
  named (Both m n) d g t low (a, b, e, h, k) has =
      of_two (things d m) (things d n) x IsName (named m d g a low h) (named n d g b low k) has
  named (Fst m) d g t low (b, h) has = named m d g (Pair t b) low h has
  named (Snd m) d g t low (a, h) has = named m d g (Pair a t) low h has
  named (Seq m n) d g t low (e, h, k) has =
      of_two (things d m) (things d n) x IsName (named m d g Com low h) (named n d g t low k) has
  named (Par m n) d g t low (e, h, k, apart) has =
      of_two (things d m) (things d n) x IsName (named m d g Com low h) (named n d g Com low k) has
  named (If m n p) d g t low (e, h, k, l) has =
      of_two (things d m) (things d n ++ things d p) x IsName (named m d g (Exp 1) low h)
      (of_two (things d n) (things d p) x IsName (named n d g t low k) (named p d g t low l)) has
  named (While m n) d g t low (e, h, k) has =
      of_two (things d m) (things d n) x IsName (named m d g (Exp 1) low h) (named n d g Com low k) has
  named (Assign m n) d g t low (w, e, h, k) has =
      of_two (things d m) (things d n) x IsName (named m d g (Var w) low h) (named n d g (Exp w) low k) has
  named (Deref m) d g t low (w, e, h) has = named m d g (Var w) low h has
  named (New w m) d g t low (e, k, h) has = named m (suc d) (Var w ∷ g) t (omega (arith, low)) h has
  named (NewArray n w m) d g t low (e, l, k, h) has = named m (suc d) (array_type n w ∷ g) t (omega (arith, low)) h has
  named (Not m) d g t low (w, e, h) has = named m d g (Exp w) low h has
  named (Bin op m n) d g t low (w, e, h, k) has =
      of_two (things d m) (things d n) x IsName (named m d g (Exp w) low h) (named n d g (Exp w) low k) has
  named m d g t low h has = absurd h

-- so what is free in a closed term is the same under any binders
no_number : (g : List Type') (d n : ℕ) (t : Type') → length g ≤ d → slice_get g n ≡ Some t → things d (Bound n) ≡ []
no_number g d n t low at =
    let within = slice_get_within g n t at in
    let test : nat_lt n d ≡ true = grind (arith, nat_tests, low, within) in
    ap (λ (b : Bool). if b then [] else Variable (n - d) ∷ []) test

same_things : (i : Imports) (m : Term) (d e : ℕ) (g : List Type') (t : Type') → length g ≤ d → length g ≤ e → Typed i g m t → things d m ≡ things e m
same_things i Skip d e g t low also h = refl
same_things i (Lit k w) d e g t low also h = refl
same_things i (Bound n) d e g t low also h = no_number g d n t low h ∙ sym (no_number g e n t also h)
same_things i (Import y) d e g t low also h = refl
same_things i (Lam a m) d e g t low also (b, is, h) = same_things i m (suc d) (suc e) (a ∷ g) b (omega (arith, low)) (omega (arith, also)) h
same_things i (App m n) d e g t low also (a, h, k, apart) =
    let one = same_things i m d e g (Fun a t) low also h in
    let two = same_things i n d e g a low also k in
    λ j. one j ++ two j
same_things i (Both m n) d e g t low also (a, b, is, h, k) =
    let one = same_things i m d e g a low also h in
    let two = same_things i n d e g b low also k in
    λ j. one j ++ two j
same_things i (Fst m) d e g t low also (b, h) = same_things i m d e g (Pair t b) low also h
same_things i (Snd m) d e g t low also (a, h) = same_things i m d e g (Pair a t) low also h
same_things i (Seq m n) d e g t low also (is, h, k) =
    let one = same_things i m d e g Com low also h in
    let two = same_things i n d e g t low also k in
    λ j. one j ++ two j
same_things i (Par m n) d e g t low also (is, h, k, apart) =
    let one = same_things i m d e g Com low also h in
    let two = same_things i n d e g Com low also k in
    λ j. one j ++ two j
same_things i (If m n p) d e g t low also (is, h, k, l) =
    let one = same_things i m d e g (Exp 1) low also h in
    let two = same_things i n d e g t low also k in
    let three = same_things i p d e g t low also l in
    λ j. one j ++ (two j ++ three j)
same_things i (While m n) d e g t low also (is, h, k) =
    let one = same_things i m d e g (Exp 1) low also h in
    let two = same_things i n d e g Com low also k in
    λ j. one j ++ two j
same_things i (Assign m n) d e g t low also (w, is, h, k) =
    let one = same_things i m d e g (Var w) low also h in
    let two = same_things i n d e g (Exp w) low also k in
    λ j. one j ++ two j
same_things i (Deref m) d e g t low also (w, is, h) = same_things i m d e g (Var w) low also h
same_things i (New w m) d e g t low also (is, k, h) =
    same_things i m (suc d) (suc e) (Var w ∷ g) t (omega (arith, low)) (omega (arith, also)) h
same_things i (NewArray n w m) d e g t low also (is, l, k, h) =
    same_things i m (suc d) (suc e) (array_type n w ∷ g) t (omega (arith, low)) (omega (arith, also)) h
same_things i (Not m) d e g t low also (w, is, h) = same_things i m d e g (Exp w) low also h
same_things i (Bin op m n) d e g t low also (w, is, h, k) =
    let one = same_things i m d e g (Exp w) low also h in
    let two = same_things i n d e g (Exp w) low also k in
    λ j. one j ++ two j
same_things i m d e g t low also h = absurd h

module _ (i j : Imports) (f : Name → Option Term) (all : AreTyped i j f) where
  module _ (z : Thing) where
    -- free in the supply of one of these names
    pub record FromSupply (xs : List Thing) : Type 0 where
      pub name : Name
      pub ty : Type'
      pub term : Term
      pub among : Contains xs (Named name)
      pub known : import_type i name ≡ Some ty
      pub is : f name ≡ Some term
      pub typed : Typed j [] term ty
      pub has : Contains (things 0 term) z

    -- or one of these things, and no name
    abbrev Whence : List Thing → Type 0
    Whence xs = (Contains xs z × ((x : Name) → z ≡ Named x → ⊥)) ⊎ FromSupply xs

    from_first : (xs ys : List Thing) → Whence xs → Whence (xs ++ ys)
    from_first xs ys (inl (has, no_name)) = inl (Contains-append_left xs ys z has, no_name)
    from_first xs ys (inr s) =
        inr
        (record {
          name = s.name;
          ty = s.ty;
          term = s.term;
          among = Contains-append_left xs ys (Named s.name) s.among;
          known = s.known;
          is = s.is;
          typed = s.typed;
          has = s.has;
        })

    from_second : (xs ys : List Thing) → Whence ys → Whence (xs ++ ys)
    from_second xs ys (inl (has, no_name)) = inl (Contains-append_right xs ys z has, no_name)
    from_second xs ys (inr s) =
        inr
        (record {
          name = s.name;
          ty = s.ty;
          term = s.term;
          among = Contains-append_right xs ys (Named s.name) s.among;
          known = s.known;
          is = s.is;
          typed = s.typed;
          has = s.has;
        })

    -- of two parts
    two : (xs ys us vs : List Thing) → (Contains us z → Whence xs) → (Contains vs z → Whence ys) → Contains (us ++ vs) z → Whence (xs ++ ys)
    two xs ys us vs f g =
        of_two us vs z (Whence (xs ++ ys)) (λ h. from_first xs ys (f h)) (λ h. from_second xs ys (g h))

    no_name : (d n : ℕ) → Contains (things d (Bound n)) z → (x : Name) → z ≡ Named x → ⊥
    no_name d n has x e = by_test (nat_lt n d) has
      where
        by_test : (b : Bool) → Contains (if b then [] else Variable (n - d) ∷ []) z → ⊥
        by_test true h = none_in_empty z h
        by_test false (zero, small, at) = let no : Variable (n - d) ≡ Named x = at ∙ e in cc no
        by_test false (suc k, small, at) = omega (arith, small)

    supply : (d : ℕ) (x : Name) (t : Type') → import_type i x ≡ Some t → Contains (things d (or_import x (f x))) z → FromSupply (Named x ∷ [])
    supply d x t h has =
        let (n, is, typed) = all x t h in
        let here : Contains (things d n) z = subst (λ (o : Option Term). Contains (things d (or_import x o)) z) is has in
        record {
          name = x;
          ty = t;
          term = n;
          among = (0, omega arith, refl);
          known = h;
          is = is;
          typed = typed;
          has = subst (λ (xs : List Thing). Contains xs z) (same_things j n d 0 [] t (omega arith) (omega arith) typed) here;
        }

    whence : (m : Term) (d : ℕ) (g : List Type') (t : Type') → Typed i g m t → Contains (things d (supplied f m)) z → Whence (things d m)
    whence Skip d g t h has = absurd (none_in_empty z has)
    whence (Lit k w) d g t h has = absurd (none_in_empty z has)
    whence (Bound n) d g t h has = inl (has, no_name d n has)
    whence (Import x) d g t h has = inr (supply d x t h has)
    whence (Lam a m) d g t (b, e, h) has = whence m (suc d) (a ∷ g) b h has
    whence (App m n) d g t (a, h, k, apart) has =
        two (things d m) (things d n) (things d (supplied f m)) (things d (supplied f n)) (whence m d g (Fun a t) h) (whence n d g a k) has
    whence (Both m n) d g t (a, b, e, h, k) has =
        two (things d m) (things d n) (things d (supplied f m)) (things d (supplied f n)) (whence m d g a h) (whence n d g b k) has
    whence (Fst m) d g t (b, h) has = whence m d g (Pair t b) h has
    whence (Snd m) d g t (a, h) has = whence m d g (Pair a t) h has
    whence (Seq m n) d g t (e, h, k) has =
        two (things d m) (things d n) (things d (supplied f m)) (things d (supplied f n)) (whence m d g Com h) (whence n d g t k) has
    whence (Par m n) d g t (e, h, k, apart) has =
        two (things d m) (things d n) (things d (supplied f m)) (things d (supplied f n)) (whence m d g Com h) (whence n d g Com k) has
    whence (If m n p) d g t (e, h, k, l) has =
        two (things d m) (things d n ++ things d p) (things d (supplied f m)) (things d (supplied f n) ++ things d (supplied f p))
        (whence m d g (Exp 1) h)
        (two (things d n) (things d p) (things d (supplied f n)) (things d (supplied f p)) (whence n d g t k) (whence p d g t l)) has
    whence (While m n) d g t (e, h, k) has =
        two (things d m) (things d n) (things d (supplied f m)) (things d (supplied f n)) (whence m d g (Exp 1) h) (whence n d g Com k) has
    whence (Assign m n) d g t (w, e, h, k) has =
        two (things d m) (things d n) (things d (supplied f m)) (things d (supplied f n)) (whence m d g (Var w) h) (whence n d g (Exp w) k) has
    whence (Deref m) d g t (w, e, h) has = whence m d g (Var w) h has
    whence (New w m) d g t (e, k, h) has = whence m (suc d) (Var w ∷ g) t h has
    whence (NewArray n w m) d g t (e, l, k, h) has = whence m (suc d) (array_type n w ∷ g) t h has
    whence (Not m) d g t (w, e, h) has = whence m d g (Exp w) h has
    whence (Bin op m n) d g t (w, e, h, k) has =
        two (things d m) (things d n) (things d (supplied f m)) (things d (supplied f n)) (whence m d g (Exp w) h) (whence n d g (Exp w) k) has
    whence m d g t h has = absurd h

  module _ (share_none : ShareNothing i f) where
    -- parts that share nothing share nothing with supplies
    still_apart : (m n : Term) (g : List Type') (t u : Type') → Typed i g m t → Typed i g n u → Apart m n → Apart (supplied f m) (supplied f n)
    still_apart m n g t u h k apart z in_m in_n = by_two (whence z m 0 g t h in_m) (whence z n 0 g u k in_n)
      where
        name_of : (s : Term) (v : Type') → Typed j [] s v → Contains (things 0 s) z → (y : Name) × (z ≡ Named y)
        name_of s v typed has = let there = named j z s 0 [] v (omega arith) typed has in (there.import.name, there.same)

        by_two : Whence z (things 0 m) → Whence z (things 0 n) → ⊥
        by_two (inl (a, not_one)) (inl (b, not_two)) = apart z a b
        by_two (inl (a, not_one)) (inr s) = let (y, e) = name_of s.term s.ty s.typed s.has in not_one y e
        by_two (inr s) (inl (b, not_two)) = let (y, e) = name_of s.term s.ty s.typed s.has in not_two y e
        by_two (inr s) (inr r) =
            share_none s.name r.name s.ty r.ty s.term r.term s.known r.known s.is r.is (λ e. apart (Named s.name) s.among (subst (λ (x : Name). Contains (things 0 n) (Named x)) (sym e) r.among)) z s.has r.has

    of_supply : (g : List Type') (x : Name) (t : Type') → import_type i x ≡ Some t → Typed j g (or_import x (f x)) t
    of_supply g x t h =
        let (n, is, typed) = all x t h in
        subst (λ (o : Option Term). Typed j g (or_import x o) t) (sym is) (typed_under j j n 0 [] g t (λ y has. refl) typed)

    pub with_supplies : (m : Term) (g : List Type') (t : Type') → Typed i g m t → Typed j g (supplied f m) t
    with_supplies Skip g t h = h
    with_supplies (Lit k w) g t h = h
    with_supplies (Bound n) g t h = h
    with_supplies (Import x) g t h = of_supply g x t h
    with_supplies (Lam a m) g t (b, e, h) = (b, e, with_supplies m (a ∷ g) b h)
    with_supplies (App m n) g t (a, h, k, apart) =
        (a, with_supplies m g (Fun a t) h, with_supplies n g a k, still_apart m n g (Fun a t) a h k apart)
    with_supplies (Both m n) g t (a, b, e, h, k) = (a, b, e, with_supplies m g a h, with_supplies n g b k)
    with_supplies (Fst m) g t (b, h) = (b, with_supplies m g (Pair t b) h)
    with_supplies (Snd m) g t (a, h) = (a, with_supplies m g (Pair a t) h)
    with_supplies (Seq m n) g t (e, h, k) = (e, with_supplies m g Com h, with_supplies n g t k)
    with_supplies (Par m n) g t (e, h, k, apart) =
        (e, with_supplies m g Com h, with_supplies n g Com k, still_apart m n g Com Com h k apart)
    with_supplies (If m n p) g t (e, h, k, l) =
        (e, with_supplies m g (Exp 1) h, with_supplies n g t k, with_supplies p g t l)
    with_supplies (While m n) g t (e, h, k) = (e, with_supplies m g (Exp 1) h, with_supplies n g Com k)
    with_supplies (Assign m n) g t (w, e, h, k) = (w, e, with_supplies m g (Var w) h, with_supplies n g (Exp w) k)
    with_supplies (Deref m) g t (w, e, h) = (w, e, with_supplies m g (Var w) h)
    with_supplies (New w m) g t (e, k, h) = (e, k, with_supplies m (Var w ∷ g) t h)
    with_supplies (NewArray n w m) g t (e, l, k, h) = (e, l, k, with_supplies m (array_type n w ∷ g) t h)
    with_supplies (Not m) g t (w, e, h) = (w, e, with_supplies m g (Exp w) h)
    with_supplies (Bin op m n) g t (w, e, h, k) = (w, e, with_supplies m g (Exp w) h, with_supplies n g (Exp w) k)
    with_supplies m g t h = absurd h

pub supplied_term_is_typed : SuppliedTermIsTyped
supplied_term_is_typed i j f g m t all share_none h = with_supplies i j f all share_none m g t h
