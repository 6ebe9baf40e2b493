-- A location in the place of an import of an array: what goes with it but labels.
use Rattle.std.specs.Prelude.{◌≡◌, ◌⊎◌, ℕ, zero, suc, Bool, true, false, List, [], ◌∷◌, Some, None, nat_eq, if◌then◌else◌}
use Rattle.std.specs.Str.{bytes_eq}
use Rattle.std.proofs.Common.{refl, sym, ap, subst, inl, inr, ◌∙◌}
use Rattle.gos_types.specs.Types.{Type', Com, Exp, Var, Pair, Fun}
use Rattle.gos_types.proofs.BytesLemmas.{same_bytes_eq}
use Rattle.gos_model.specs.Terms.{Name, Term, Skip, Lit, Bound, Import, Lam, App, Both, Fst, Snd, Seq, Par, If, While, Assign, Deref, New, NewArray, Not, Bin, Loc, Arr, Scope, Wait, Held, Put}
use Rattle.gos_model.specs.Substitution.{put_at}
use Rattle.gos_model.specs.Typing.{Imports, Typed, import_type, array_type}
use Rattle.gos_model.specs.Stores.{Store}
use Rattle.gos_model.specs.Reach.{Rel, Reached, Rewrites, Under, Aside}
use Rattle.gos_model.specs.Steps.{Computes, IsValue, Locates}
use Rattle.gos_model.specs.Moves.{Unfoldings}
use Rattle.gos_programs.specs.contexts.Contexts.{SeqFirst, ParLeft, ParRight, IfTest, BinLeft, HeldRight, NotOf, AssignRight, ScopeBody, ReadIndex, WriteIndex, ReadAt, WriteAt}
use Rattle.gos_programs.specs.contexts.Renaming.{IsInjective, IsFreeOf, beside}
use Rattle.gos_programs.proofs.contexts.BackwardLemmas.{OneHead}
use Rattle.gos_programs.proofs.contexts.PlacedLemmas.{name_cases}
use Rattle.gos_programs.proofs.contexts.ReachedLemmas.{IsLifted, reached_lifted}
use Rattle.gos_programs.proofs.contexts.RenamedStoreLemmas.{entry_beside, put_beside, without_beside, moved}
use Rattle.gos_programs.specs.variables.Waits.{HasNoWaitAt}
use Rattle.gos_programs.proofs.variables.WaitLemmas.{sources_wait, none_put, none_head}
use Rattle.gos_programs.specs.arrays.Stages.{Stage, Clear, StandsAt}
use Rattle.gos_programs.specs.arrays.LocalArray.{waits_at, index_now, arrayed, BodiesAreArrayed, SourcesStandClear}
use Rattle.gos_programs.proofs.arrays.StageLemmas.{none_stands, as_clear, value_stands, located_stands, head_stands, Keeps, keeps_in}

-- the argument of a function part that waits at y, or doesn't
abbrev pub argument : (ℕ → ℕ) → Name → ℕ → Bool → Term → Term
argument r y z b m = index_now b (arrayed r y z m)

module _ (r : ℕ → ℕ) (y : Name) (z : ℕ) where
  -- the term with the location
  abbrev pub arr : Term → Term
  arr m = arrayed r y z m

  -- a function part that waits for nothing has its argument as it is
  no_wait_at : (m : Term) → HasNoWaitAt y m → waits_at y m ≡ false
  no_wait_at (Wait x s) f = f
  no_wait_at m f = refl

  pub plain_app : (m n : Term) → HasNoWaitAt y m → arr (App m n) ≡ App (arr m) (arr n)
  plain_app m n f = ap (λ (b : Bool). App (arr m) (argument r y z b n)) (no_wait_at m f)

  pub import_arr : (x : Name) → bytes_eq x y ≡ false → arr (Import x) ≡ Import x
  import_arr x f = ap (λ (b : Bool). if b then Arr z else Import x) f

  pub wait_arr : (x : Name) (s : ℕ) → bytes_eq x y ≡ false → arr (Wait x s) ≡ Wait x s
  wait_arr x s f = ap (λ (b : Bool). if b then Arr z else Wait x s) f

  -- substitution goes with it, where nothing waits
  choice_arr : (b : Bool) (m n : Term) → arr (if b then m else n) ≡ (if b then arr m else arr n)
  choice_arr true m n = refl
  choice_arr false m n = refl

  chosen_put : (d : ℕ) (b : Bool) (q v : Term) → put_at d q v ≡ v → (if b then Arr z else v) ≡ put_at d q (if b then Arr z else v)
  chosen_put d true q v e = refl
  chosen_put d false q v e = sym e

  pub arrayed_put : (m : Term) (d : ℕ) (q : Term) → HasNoWaitAt y q → HasNoWaitAt y m → arr (put_at d q m) ≡ put_at d (arr q) (arr m)
  arrayed_put Skip d q k h = refl
  arrayed_put (Lit j w) d q k h = refl
  arrayed_put (Bound n) d q k h = choice_arr (nat_eq n d) q (Bound n)
  arrayed_put (Import x) d q k h = chosen_put d (bytes_eq x y) (arr q) (Import x) refl
  arrayed_put (Lam a m) d q k h = λ i. Lam a (arrayed_put m (suc d) q k h i)
  arrayed_put (App m n) d q k h =
      let one = arrayed_put m d q k h.0 in
      let two = arrayed_put n d q k h.1 in
      let from : arr (App (put_at d q m) (put_at d q n)) ≡ App (arr (put_at d q m)) (arr (put_at d q n)) =
      plain_app (put_at d q m) (put_at d q n) (none_put y m d q k h.0) in
      from ∙ ((λ i. App (one i) (two i)) ∙ sym (ap (put_at d (arr q)) (plain_app m n h.0)))
  arrayed_put (Both m n) d q k h = let one = arrayed_put m d q k h.0 in let two = arrayed_put n d q k h.1 in λ i. Both (one i) (two i)
  arrayed_put (Fst m) d q k h = λ i. Fst (arrayed_put m d q k h i)
  arrayed_put (Snd m) d q k h = λ i. Snd (arrayed_put m d q k h i)
  arrayed_put (Seq m n) d q k h = let one = arrayed_put m d q k h.0 in let two = arrayed_put n d q k h.1 in λ i. Seq (one i) (two i)
  arrayed_put (Par m n) d q k h = let one = arrayed_put m d q k h.0 in let two = arrayed_put n d q k h.1 in λ i. Par (one i) (two i)
  arrayed_put (If m n p) d q k h =
      let one = arrayed_put m d q k h.0 in
      let two = arrayed_put n d q k h.1 in
      let three = arrayed_put p d q k h.2 in
      λ i. If (one i) (two i) (three i)
  arrayed_put (While m n) d q k h = let one = arrayed_put m d q k h.0 in let two = arrayed_put n d q k h.1 in λ i. While (one i) (two i)
  arrayed_put (Assign m n) d q k h = let one = arrayed_put m d q k h.0 in let two = arrayed_put n d q k h.1 in λ i. Assign (one i) (two i)
  arrayed_put (Deref m) d q k h = λ i. Deref (arrayed_put m d q k h i)
  arrayed_put (New w m) d q k h = λ i. New w (arrayed_put m (suc d) q k h i)
  arrayed_put (NewArray n w m) d q k h = λ i. NewArray n w (arrayed_put m (suc d) q k h i)
  arrayed_put (Not m) d q k h = λ i. Not (arrayed_put m d q k h i)
  arrayed_put (Bin op m n) d q k h = let one = arrayed_put m d q k h.0 in let two = arrayed_put n d q k h.1 in λ i. Bin op (one i) (two i)
  arrayed_put (Loc l) d q k h = refl
  arrayed_put (Arr l) d q k h = refl
  arrayed_put (Scope l m) d q k h = λ i. Scope (r l) (arrayed_put m d q k h i)
  arrayed_put (Wait x s) d q k h = chosen_put d (bytes_eq x y) (arr q) (Wait x s) refl
  arrayed_put (Held j op n) d q k h = λ i. Held j op (arrayed_put n d q k h i)
  arrayed_put (Put m j) d q k h = λ i. Put (arrayed_put m d q k h i) j

  -- an access that was asked for its index, by whether it is of y: its index is reached
  abbrev port_index : Bool → Name → (n a : Term) → Term
  port_index b x n a = App (if b then Arr z else Wait x 0) (argument r y z b (Both n a))

  read_index : (S : Rel) (b : Bool) (x : Name) (n a c : Term) → Reached S (arr a) (arr c)
      → Reached S (Deref (port_index b x n a)) (Deref (port_index b x n c))
  read_index S true x n a c h = inr (App (Arr z) (arr c), refl, inr ((z, refl), arr c, refl, h))
  read_index S false x n a c h = inr (App (Wait x 0) (Both (arr n) (arr c)), refl, inl ((x, refl), arr c, refl, h))

  write_index : (S : Rel) (b : Bool) (x : Name) (n a c : Term) (k : ℕ) → Reached S (arr a) (arr c)
      → Reached S (Put (port_index b x n a) k) (Put (port_index b x n c) k)
  write_index S true x n a c k h = inr (App (Arr z) (arr c), refl, inr ((z, refl), arr c, refl, h))
  write_index S false x n a c k h = inr (App (Wait x 0) (Both (arr n) (arr c)), refl, inl ((x, refl), arr c, refl, h))

  -- what is reached in the term is reached in the term with the location
  abbrev pub Arrayed : Rel → Rel
  Arrayed S a b = Reached S (arr a) (arr b)

  pub arrayed_in : (S : Rel) → IsLifted (Arrayed S)
  arrayed_in S (SeqFirst n) a b h = inr (arr b, refl, h)
  arrayed_in S (ParLeft n) a b h = inr (inl (arr b, refl, h))
  arrayed_in S (ParRight n) a b h = inr (inr (arr b, refl, h))
  arrayed_in S (IfTest n p) a b h = inr (arr b, refl, h)
  arrayed_in S (BinLeft op n) a b h = inr (arr b, refl, h)
  arrayed_in S (HeldRight k op) a b h = inr (arr b, refl, h)
  arrayed_in S NotOf a b h = inr (arr b, refl, h)
  arrayed_in S (AssignRight n) a b h = inr (arr b, refl, h)
  arrayed_in S (ScopeBody l) a b h = inr (arr b, refl, h)
  arrayed_in S (ReadIndex x n) a b h = read_index S (bytes_eq x y) x n a b h
  arrayed_in S (WriteIndex x n k) a b h = write_index S (bytes_eq x y) x n a b k h
  arrayed_in S (ReadAt l) a b h = inr (App (Arr (r l)) (arr b), refl, inr ((r l, refl), arr b, refl, h))
  arrayed_in S (WriteAt l k) a b h = inr (App (Arr (r l)) (arr b), refl, inr ((r l, refl), arr b, refl, h))

  -- terms that are one with the location are one in all contexts
  abbrev pub One : Rel
  One a b = arr a ≡ arr b

  one_index : (b : Bool) (x : Name) (n a c : Term) → One a c → port_index b x n a ≡ port_index b x n c
  one_index true x n a c h = ap (λ (v : Term). App (Arr z) v) h
  one_index false x n a c h = ap (λ (v : Term). App (Wait x 0) (Both (arr n) v)) h

  pub one_in : IsLifted One
  one_in (SeqFirst n) a b h = ap (λ (v : Term). Seq v (arr n)) h
  one_in (ParLeft n) a b h = ap (λ (v : Term). Par v (arr n)) h
  one_in (ParRight n) a b h = ap (λ (v : Term). Par (arr n) v) h
  one_in (IfTest n p) a b h = ap (λ (v : Term). If v (arr n) (arr p)) h
  one_in (BinLeft op n) a b h = ap (λ (v : Term). Bin op v (arr n)) h
  one_in (HeldRight k op) a b h = ap (λ (v : Term). Held k op v) h
  one_in NotOf a b h = ap (λ (v : Term). Not v) h
  one_in (AssignRight n) a b h = ap (λ (v : Term). Assign (arr n) v) h
  one_in (ScopeBody l) a b h = ap (λ (v : Term). Scope (r l) v) h
  one_in (ReadIndex x n) a b h = ap (λ (v : Term). Deref v) (one_index (bytes_eq x y) x n a b h)
  one_in (WriteIndex x n k) a b h = ap (λ (v : Term). Put v k) (one_index (bytes_eq x y) x n a b h)
  one_in (ReadAt l) a b h = ap (λ (v : Term). Deref (App (Arr (r l)) v)) h
  one_in (WriteAt l k) a b h = ap (λ (v : Term). Put (App (Arr (r l)) v) k) h

  -- heads, where nothing waits
  rewrites_arrayed : (m t : Term) → HasNoWaitAt y m → Rewrites m t → Rewrites (arr m) (arr t)
  rewrites_arrayed (App m n) t f (a, b, em, et) =
      let lam : HasNoWaitAt y (Lam a b) = subst (HasNoWaitAt y) em f.0 in
      subst (λ (v : Term). Rewrites v (arr t)) (sym (plain_app m n f.0))
      (a, arr b, ap arr em, ap arr et ∙ arrayed_put b 0 n f.1 lam)
  rewrites_arrayed (Fst m) t f (n, e) = (arr n, ap arr e)
  rewrites_arrayed (Snd m) t f (n, e) = (arr n, ap arr e)
  rewrites_arrayed m t f h = absurd h

  -- what an unfolded function part leaves waits for nothing
  under_app : (m m' n t : Term) → HasNoWaitAt y m → HasNoWaitAt y m' → t ≡ App m' n → Rewrites (arr m) (arr m') ⊎ Under Rewrites (arr m) (arr m')
      → Under Rewrites (arr (App m n)) (arr t)
  under_app m m' n t f g e h =
      subst (λ (v : Term). Under Rewrites v (arr t)) (sym (plain_app m n f)) (arr m', ap arr e ∙ plain_app m' n g, h)

  under_arrayed : (m t : Term) → HasNoWaitAt y m → Under Rewrites m t → Under Rewrites (arr m) (arr t)
  under_arrayed (App m n) t f (m', e, inl h) =
      under_app m m' n t f.0 (none_head y m m' (inl (inl h)) f.0) e (inl (rewrites_arrayed m m' f.0 h))
  under_arrayed (App m n) t f (m', e, inr h) =
      under_app m m' n t f.0 (none_head y m m' (inl (inr h)) f.0) e (inr (under_arrayed m m' f.0 h))
  under_arrayed (Fst m) t f (m', e, inl h) = (arr m', ap arr e, inl (rewrites_arrayed m m' f h))
  under_arrayed (Fst m) t f (m', e, inr h) = (arr m', ap arr e, inr (under_arrayed m m' f h))
  under_arrayed (Snd m) t f (m', e, inl h) = (arr m', ap arr e, inl (rewrites_arrayed m m' f h))
  under_arrayed (Snd m) t f (m', e, inr h) = (arr m', ap arr e, inr (under_arrayed m m' f h))
  under_arrayed m t f h = absurd h

  aside_arrayed : (m t : Term) → HasNoWaitAt y m → Aside Rewrites m t → Aside Rewrites (arr m) (arr t)
  aside_arrayed (Put m k) t f (m', e, inl h) = (arr m', ap arr e, inl (rewrites_arrayed m m' f h))
  aside_arrayed (Put m k) t f (m', e, inr h) = (arr m', ap arr e, inr (under_arrayed m m' f h))
  aside_arrayed (Deref m) t f (m', e, inl h) = (arr m', ap arr e, inl (rewrites_arrayed m m' f h))
  aside_arrayed (Deref m) t f (m', e, inr h) = (arr m', ap arr e, inr (under_arrayed m m' f h))
  aside_arrayed m t f h = absurd h

  head_arrayed : (m t : Term) → HasNoWaitAt y m → OneHead m t → OneHead (arr m) (arr t)
  head_arrayed m t f (inl (inl h)) = inl (inl (rewrites_arrayed m t f h))
  head_arrayed m t f (inl (inr h)) = inl (inr (under_arrayed m t f h))
  head_arrayed m t f (inr h) = inr (aside_arrayed m t f h)

  keeps_head : (a b : Term) → OneHead a b → Keeps y (Arrayed OneHead) a b
  keeps_head a b h st w =
      let g = head_stands y st a b h w in (inl (head_arrayed a b g.1 h), as_clear y st b g.0 (none_head y a b h g.1))

  pub unfoldings_arrayed : (n : ℕ) (m t : Term) (st : Stage) → StandsAt y st m → Unfoldings n m t → Unfoldings n (arr m) (arr t) × StandsAt y st t
  unfoldings_arrayed zero m t st w h = (ap arr h, subst (StandsAt y st) h w)
  unfoldings_arrayed (suc n) m t st w (u, h, hs) =
      let one = reached_lifted OneHead (Keeps y (Arrayed OneHead)) keeps_head (keeps_in y (Arrayed OneHead) (arrayed_in OneHead)) m u h st w in
      let rest = unfoldings_arrayed n u t st one.1 hs in
      ((arr u, one.0, rest.0), rest.1)

  -- values
  pub value_arrayed : (v : Term) → IsValue v → arr v ≡ v
  value_arrayed v (inl e) = ap arr e ∙ sym e
  value_arrayed v (inr (k, w, e)) = ap arr e ∙ sym e

  -- what stands for a number does so at the new name
  locates_arrayed : (m : Term) (l i : ℕ) → Locates m l i → Locates (arr m) (r l) i
  locates_arrayed m l i (inl (e, first)) = inl (ap arr e, first)
  locates_arrayed m l i (inr (w, e)) = inr (w, ap arr e)

  -- computation
  module _ (f : Store) (inj : IsInjective r) (free : IsFreeOf r f) (s s' : Store) where
    abbrev Row : Rel
    Row a b = Computes (beside r s f) (beside r s' f) (arr a) (arr b)

    same_beside : s' ≡ s → beside r s' f ≡ beside r s f
    same_beside e = ap (λ (x : Store). beside r x f) e

    -- the stage after a row, where nothing waits
    left : (st : Stage) (b t : Term) → b ≡ t → st ≡ Clear → HasNoWaitAt y t → StandsAt y st b
    left st b t e z' h = subst (StandsAt y st) (sym e) (as_clear y st t z' h)

    pub arrayed_row : (a b : Term) → Computes s s' a b → (st : Stage) → StandsAt y st a → Row a b × StandsAt y st b
    arrayed_row (Seq m n) b (em, et, es) st (h, g) =
        ((ap arr em, ap arr et, same_beside es), left st b n et (value_stands y st m (inl em) h) g)
    arrayed_row (Par m n) b (em, en, et, es) st (inl (h, g)) =
        ((ap arr em, ap arr en, ap arr et, same_beside es), left st b Skip et (value_stands y st m (inl em) h) tt)
    arrayed_row (Par m n) b (em, en, et, es) st (inr (h, g)) =
        ((ap arr em, ap arr en, ap arr et, same_beside es), left st b Skip et (value_stands y st n (inl en) g) tt)
    arrayed_row (If m n p) b (inl (em, et), es) st (h, g, l) =
        ((inl (ap arr em, ap arr et), same_beside es), left st b n et (value_stands y st m (inr (1, 1, em)) h) g)
    arrayed_row (If m n p) b (inr (em, et), es) st (h, g, l) =
        ((inr (ap arr em, ap arr et), same_beside es), left st b p et (value_stands y st m (inr (0, 1, em)) h) l)
    arrayed_row (While m n) b (et, es) st (z', h) =
        ((ap arr et, same_beside es), left st b (If m (Seq n (While m n)) Skip) et z' (h.0, (h.1, h), tt))
    arrayed_row (Bin op m n) b (k, w, em, et, es) st (h, g) =
        ((k, w, ap arr em, ap arr et, same_beside es), left st b (Held k op n) et (value_stands y st m (inr (k, w, em)) h) g)
    arrayed_row (Held k op n) b (j, w, en, et, es) st h =
        let z' = value_stands y st n (inr (j, w, en)) h in
        ((j, w, ap arr en, ap arr et, same_beside es), subst (StandsAt y st) (sym et) (z', tt))
    arrayed_row (Not m) b (k, w, em, et, es) st h =
        let z' = value_stands y st m (inr (k, w, em)) h in
        ((k, w, ap arr em, ap arr et, same_beside es), subst (StandsAt y st) (sym et) (z', tt))
    arrayed_row (Assign m n) b (k, w, en, et, es) st (g, h) =
        ((k, w, ap arr en, ap arr et, same_beside es), left st b (Put m k) et (value_stands y st n (inr (k, w, en)) h) g)
    arrayed_row (Put m k) b (e, j, old, em, here, has, et, es) st h =
        let z' = located_stands y st (Some k) m e.place j em h in (
          (
            record e { place = r e.place },
            j,
            old,
            locates_arrayed m e.place j em,
            entry_beside r inj s f e.place (free e.place) ∙ ap (moved r) here,
            has,
            ap arr et,
            ap (λ (x : Store). beside r x f) es ∙ put_beside r inj s f e.place j k (free e.place),
          ),
          left st b Skip et z' tt,
        )
    arrayed_row (Deref m) b (e, j, old, em, here, has, et, es) st h =
        let z' = located_stands y st None m e.place j em h in (
          (
            record e { place = r e.place },
            j,
            old,
            locates_arrayed m e.place j em,
            entry_beside r inj s f e.place (free e.place) ∙ ap (moved r) here,
            has,
            ap arr et,
            same_beside es,
          ),
          subst (StandsAt y st) (sym et) (z', tt),
        )
    arrayed_row (New w m) b (l, absent, et, es) st (z', h) = (
      (
        r l,
        entry_beside r inj s f l (free l) ∙ ap (moved r) absent,
        ap arr et ∙ ap (λ (x : Term). Scope (r l) x) (arrayed_put m 0 (Loc l) tt h),
        ap (λ (x : Store). beside r x f) es,
      ),
      left st b (Scope l (put_at 0 (Loc l) m)) et z' (none_put y m 0 (Loc l) tt h),
    )
    arrayed_row (NewArray n w m) b (l, absent, et, es) st (z', h) = (
      (
        r l,
        entry_beside r inj s f l (free l) ∙ ap (moved r) absent,
        ap arr et ∙ ap (λ (x : Term). Scope (r l) x) (arrayed_put m 0 (Arr l) tt h),
        ap (λ (x : Store). beside r x f) es,
      ),
      left st b (Scope l (put_at 0 (Arr l) m)) et z' (none_put y m 0 (Arr l) tt h),
    )
    arrayed_row (Scope l m) b (is, et, es) st h = (
      (
        subst IsValue (sym (value_arrayed m is)) is,
        ap arr et,
        ap (λ (x : Store). beside r x f) es ∙ without_beside r inj s f l (free l),
      ),
      subst (StandsAt y st) (sym et) h,
    )
    arrayed_row a b h st w = absurd h

  -- a source without the import, and without locations
  pub sources_arrayed : (i : Imports) (g : List Type') (m : Term) (t : Type') → Typed i g m t → import_type i y ≡ None → arr m ≡ m
  sources_arrayed i g Skip t h none = refl
  sources_arrayed i g (Lit k w) t h none = refl
  sources_arrayed i g (Bound n) t h none = refl
  sources_arrayed i g (Import x) t h none =
      import_arr x (name_cases x y (λ same e. let bad : None ≡ Some t = sym none ∙ (sym (ap (import_type i) same) ∙ h) in absurd cc) (λ f. f))
  sources_arrayed i g (Lam a m) t (b, e, h) none = λ j. Lam a (sources_arrayed i (a ∷ g) m b h none j)
  sources_arrayed i g (App m n) t (a, h, k, apart) none =
      let one = sources_arrayed i g m (Fun a t) h none in
      let two = sources_arrayed i g n a k none in
      plain_app m n (sources_wait y i g m (Fun a t) h) ∙ (λ j. App (one j) (two j))
  sources_arrayed i g (Both m n) t (a, b, e, h, k) none = λ j. Both (sources_arrayed i g m a h none j) (sources_arrayed i g n b k none j)
  sources_arrayed i g (Fst m) t (b, h) none = λ j. Fst (sources_arrayed i g m (Pair t b) h none j)
  sources_arrayed i g (Snd m) t (a, h) none = λ j. Snd (sources_arrayed i g m (Pair a t) h none j)
  sources_arrayed i g (Seq m n) t (d, h, k) none = λ j. Seq (sources_arrayed i g m Com h none j) (sources_arrayed i g n t k none j)
  sources_arrayed i g (Par m n) t (e, h, k, apart) none = λ j. Par (sources_arrayed i g m Com h none j) (sources_arrayed i g n Com k none j)
  sources_arrayed i g (If m n p) t (d, h, k, o) none =
      λ j. If (sources_arrayed i g m (Exp 1) h none j) (sources_arrayed i g n t k none j) (sources_arrayed i g p t o none j)
  sources_arrayed i g (While m n) t (e, h, k) none = λ j. While (sources_arrayed i g m (Exp 1) h none j) (sources_arrayed i g n Com k none j)
  sources_arrayed i g (Assign m n) t (w, e, h, k) none = λ j. Assign (sources_arrayed i g m (Var w) h none j) (sources_arrayed i g n (Exp w) k none j)
  sources_arrayed i g (Deref m) t (w, e, h) none = λ j. Deref (sources_arrayed i g m (Var w) h none j)
  sources_arrayed i g (New w m) t (d, k, h) none = λ j. New w (sources_arrayed i (Var w ∷ g) m t h none j)
  sources_arrayed i g (NewArray n w m) t (d, l, k, h) none = λ j. NewArray n w (sources_arrayed i (array_type n w ∷ g) m t h none j)
  sources_arrayed i g (Not m) t (w, e, h) none = λ j. Not (sources_arrayed i g m (Exp w) h none j)
  sources_arrayed i g (Bin op m n) t (w, e, h, k) none =
      λ j. Bin op (sources_arrayed i g m (Exp w) h none j) (sources_arrayed i g n (Exp w) k none j)
  sources_arrayed i g m t h none = absurd h

pub bodies_are_arrayed : BodiesAreArrayed
bodies_are_arrayed r y z i a m t typed none =
    arrayed_put r y z m 0 (Import y) tt (sources_wait y i (a ∷ []) m t typed)
    ∙ (ap (λ (x : Term). put_at 0 x (arrayed r y z m)) (rw (same_bytes_eq y y refl) refl)
    ∙ ap (put_at 0 (Arr z)) (sources_arrayed r y z i (a ∷ []) m t typed none))

pub sources_stand_clear : SourcesStandClear
sources_stand_clear y i g m t typed = none_stands y m (sources_wait y i g m t typed)
