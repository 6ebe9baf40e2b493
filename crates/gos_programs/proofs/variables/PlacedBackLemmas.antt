-- What a term with a location in the place of an import does comes from the term.
use Rattle.std.specs.Prelude.{◌≡◌, ◌⊎◌, ℕ, zero, suc, Bool, true, false, if◌then◌else◌}
use Rattle.std.proofs.Common.{refl, sym, ap, subst, inl, inr, ◌∙◌}
use Rattle.std.specs.Str.{bytes_eq}
use Rattle.gos_types.specs.Types.{Type'}
use Rattle.gos_model.specs.Terms.{Name, Term, Skip, Lit, Import, Lam, App, Both, Fst, Snd, Seq, Par, If, Assign, Deref, Not, Bin, Loc, Scope, Wait, Held, Put, Arr}
use Rattle.gos_model.specs.Substitution.{instantiate}
use Rattle.gos_model.specs.Reach.{Rel, Reached, Below, InIndex, Rewrites, Under, Aside, InPortIndex}
use Rattle.gos_model.specs.Steps.{IsValue, Locates}
use Rattle.gos_model.specs.Moves.{Unfoldings}
use Rattle.gos_programs.specs.contexts.LocalVariable.{wait_for, placed}
use Rattle.gos_programs.proofs.contexts.BackwardLemmas.{OneHead}
use Rattle.gos_programs.proofs.contexts.PlacedLemmas.{name_cases, placed_put}
use Rattle.gos_programs.specs.variables.Waits.{HasNoWaitAt}
use Rattle.gos_programs.proofs.variables.WaitLemmas.{unfolds_none}

-- an import, or the location in its place, is no other form
no_skip : (z : ℕ) (x : Name) (b : Bool) → (if b then Loc z else Import x) ≡ Skip → ⊥
no_skip z x true h = cc h
no_skip z x false h = cc h

no_lit : (z : ℕ) (x : Name) (b : Bool) (k w : ℕ) → (if b then Loc z else Import x) ≡ Lit k w → ⊥
no_lit z x true k w h = cc h
no_lit z x false k w h = cc h

no_lam : (z : ℕ) (x : Name) (b : Bool) (a : Type') (c : Term) → (if b then Loc z else Import x) ≡ Lam a c → ⊥
no_lam z x true a c h = cc h
no_lam z x false a c h = cc h

no_pair : (z : ℕ) (x : Name) (b : Bool) (a c : Term) → (if b then Loc z else Import x) ≡ Both a c → ⊥
no_pair z x true a c h = cc h
no_pair z x false a c h = cc h

no_below : (S : Rel) (z : ℕ) (x : Name) (b : Bool) (v : Term) → Below S (if b then Loc z else Import x) v → ⊥
no_below S z x true v h = h
no_below S z x false v h = h

no_in_index : (S : Rel) (z : ℕ) (x : Name) (b : Bool) (v : Term) → InIndex S (if b then Loc z else Import x) v → ⊥
no_in_index S z x true v h = h
no_in_index S z x false v h = h

no_import_index : (S : Rel) (h : Term) (z : ℕ) (x : Name) (b : Bool) (v : Term) → InPortIndex S h (if b then Loc z else Import x) v → ⊥
no_import_index S h z x true v k = k
no_import_index S h z x false v k = k

no_app : (z : ℕ) (x : Name) (b : Bool) (a c : Term) → (if b then Loc z else Import x) ≡ App a c → ⊥
no_app z x true a c h = cc h
no_app z x false a c h = cc h

no_wait : (z : ℕ) (x : Name) (b : Bool) (a : Name) (s : ℕ) → (if b then Loc z else Import x) ≡ Wait a s → ⊥
no_wait z x true a s h = cc h
no_wait z x false a s h = cc h

no_arr : (z : ℕ) (x : Name) (b : Bool) (l : ℕ) → (if b then Loc z else Import x) ≡ Arr l → ⊥
no_arr z x true l h = cc h
no_arr z x false l h = cc h

no_rewrite : (z : ℕ) (x : Name) (b : Bool) (v : Term) → Rewrites (if b then Loc z else Import x) v → ⊥
no_rewrite z x true v h = h
no_rewrite z x false v h = h

no_under : (z : ℕ) (x : Name) (b : Bool) (v : Term) → Under Rewrites (if b then Loc z else Import x) v → ⊥
no_under z x true v h = h
no_under z x false v h = h

no_aside : (z : ℕ) (x : Name) (b : Bool) (v : Term) → Aside Rewrites (if b then Loc z else Import x) v → ⊥
no_aside z x true v h = h
no_aside z x false v h = h

module _ (r : ℕ → ℕ) (y : Name) (z : ℕ) where
  -- the term with the location
  abbrev pub at : Term → Term
  at m = placed r y z m

  -- a wait at another port is itself
  pub wait_at : (x : Name) (n : ℕ) → bytes_eq x y ≡ false → at (Wait x n) ≡ Wait x n
  wait_at x n f = ap (λ (b : Bool). wait_for b z x n) f

  pub import_at : (x : Name) → bytes_eq x y ≡ false → at (Import x) ≡ Import x
  import_at x f = ap (λ (b : Bool). if b then Loc z else Import x) f

  location_at : (x : Name) → bytes_eq x y ≡ true → at (Import x) ≡ Loc z
  location_at x f = ap (λ (b : Bool). if b then Loc z else Import x) f

  -- which terms become a form
  pub is_skip : (m : Term) → HasNoWaitAt y m → at m ≡ Skip → m ≡ Skip
  is_skip Skip f h = refl
  is_skip (Import x) f h = absurd (no_skip z x (bytes_eq x y) h)
  is_skip (Wait x n) f h = let bad : Wait x n ≡ Skip = sym (wait_at x n f) ∙ h in absurd (cc bad)
  is_skip m f h = absurd (cc h)

  pub is_lit : (m : Term) (k w : ℕ) → HasNoWaitAt y m → at m ≡ Lit k w → m ≡ Lit k w
  is_lit (Lit j v) k w f h = h
  is_lit (Import x) k w f h = absurd (no_lit z x (bytes_eq x y) k w h)
  is_lit (Wait x n) k w f h = let bad : Wait x n ≡ Lit k w = sym (wait_at x n f) ∙ h in absurd (cc bad)
  is_lit m k w f h = absurd (cc h)

  pub is_import : (m : Term) (x : Name) → HasNoWaitAt y m → at m ≡ Import x → (m ≡ Import x) × (bytes_eq x y ≡ false)
  is_import (Import v) x f h =
      name_cases v y
      (λ same t. let bad : Loc z ≡ Import x = sym (location_at v t) ∙ h in absurd (cc bad))
      (λ other. let one : Import v ≡ Import x = sym (import_at v other) ∙ h in
      let name : v ≡ x = cc one in (one, subst (λ (n : Name). bytes_eq n y ≡ false) name other))
  is_import (Wait v n) x f h = let bad : Wait v n ≡ Import x = sym (wait_at v n f) ∙ h in absurd (cc bad)
  is_import m x f h = absurd (cc h)

  pub is_wait : (m : Term) (x : Name) (s : ℕ) → HasNoWaitAt y m → at m ≡ Wait x s → (m ≡ Wait x s) × (bytes_eq x y ≡ false)
  is_wait (Wait v n) x s f h =
      let one : Wait v n ≡ Wait x s = sym (wait_at v n f) ∙ h in
      let name : v ≡ x = cc one in (one, subst (λ (n : Name). bytes_eq n y ≡ false) name f)
  is_wait (Import v) x s f h = absurd (no_wait z v (bytes_eq v y) x s h)
  is_wait m x s f h = absurd (cc h)

  pub is_app : (m g n : Term) → HasNoWaitAt y m → at m ≡ App g n
      → (h : Term) × (p : Term) × (m ≡ App h p) × (at h ≡ g) × (at p ≡ n) × HasNoWaitAt y h × HasNoWaitAt y p
  is_app (App h p) g n f e =
      let one : at h ≡ g = cc e in
      let other : at p ≡ n = cc e in
      (h, p, refl, one, other, f.0, f.1)
  is_app (Import x) g n f e = absurd (no_app z x (bytes_eq x y) g n e)
  is_app (Wait x s) g n f e = let bad : Wait x s ≡ App g n = sym (wait_at x s f) ∙ e in absurd (cc bad)
  is_app m g n f e = absurd (cc e)

  pub is_loc : (m : Term) (l : ℕ) → HasNoWaitAt y m → at m ≡ Loc l → ((k : ℕ) × (m ≡ Loc k) × (r k ≡ l)) ⊎ ((m ≡ Import y) × (z ≡ l))
  is_loc (Loc k) l f h = let same : r k ≡ l = cc h in inl (k, refl, same)
  is_loc (Import x) l f h =
      name_cases x y
      (λ same t. let one : Loc z ≡ Loc l = sym (location_at x t) ∙ h in
      let place : z ≡ l = cc one in inr (ap (λ (n : Name). Import n) same, place))
      (λ other. let bad : Import x ≡ Loc l = sym (import_at x other) ∙ h in absurd (cc bad))
  is_loc (Wait x n) l f h = let bad : Wait x n ≡ Loc l = sym (wait_at x n f) ∙ h in absurd (cc bad)
  is_loc m l f h = absurd (cc h)

  is_arr : (m : Term) (l : ℕ) → HasNoWaitAt y m → at m ≡ Arr l → (k : ℕ) × (m ≡ Arr k) × (r k ≡ l)
  is_arr (Arr k) l f h = let same : r k ≡ l = cc h in (k, refl, same)
  is_arr (Import x) l f h = absurd (no_arr z x (bytes_eq x y) l h)
  is_arr (Wait x n) l f h = let bad : Wait x n ≡ Arr l = sym (wait_at x n f) ∙ h in absurd (cc bad)
  is_arr m l f h = absurd (cc h)

  -- what stands for a number: at a location of the term, or at the one in the place of the import
  pub located_back : (m : Term) (l i : ℕ) → HasNoWaitAt y m → Locates (at m) l i
      → ((k : ℕ) × Locates m k i × (r k ≡ l)) ⊎ ((m ≡ Import y) × (z ≡ l) × (i ≡ 0))
  located_back m l i f (inl (e, first)) =
      elim (is_loc m l f e) [ inl k ↦ inl (k.0, inl (k.1, first), k.2) | inr k ↦ inr (k.0, k.1, first) ]
  located_back m l i f (inr (w, e)) =
      let (h, p, whole, eh, ep, fh, fp) = is_app m (Arr l) (Lit i w) f e in
      let (k, arr, same) = is_arr h l fh eh in
      inl (k, inr (w, whole ∙ (ap (λ (v : Term). App v p) arr ∙ ap (λ (v : Term). App (Arr k) v) (is_lit p i w fp ep))), same)

  is_lam : (m : Term) (a : Type') (b : Term) → HasNoWaitAt y m → at m ≡ Lam a b → (n : Term) × (m ≡ Lam a n) × (at n ≡ b)
  is_lam (Lam c n) a b f h =
      let same : c ≡ a = cc h in
      let body : at n ≡ b = cc h in
      (n, ap (λ (x : Type'). Lam x n) same, body)
  is_lam (Import x) a b f h = absurd (no_lam z x (bytes_eq x y) a b h)
  is_lam (Wait x n) a b f h = let bad : Wait x n ≡ Lam a b = sym (wait_at x n f) ∙ h in absurd (cc bad)
  is_lam m a b f h = absurd (cc h)

  pub is_pair : (m a b : Term) → HasNoWaitAt y m → at m ≡ Both a b → (c : Term) × (d : Term) × (m ≡ Both c d) × (at c ≡ a) × (at d ≡ b)
  is_pair (Both c d) a b f h =
      let one : at c ≡ a = cc h in
      let other : at d ≡ b = cc h in
      (c, d, refl, one, other)
  is_pair (Import x) a b f h = absurd (no_pair z x (bytes_eq x y) a b h)
  is_pair (Wait x n) a b f h = let bad : Wait x n ≡ Both a b = sym (wait_at x n f) ∙ h in absurd (cc bad)
  is_pair m a b f h = absurd (cc h)

  pub value_back : (m : Term) → HasNoWaitAt y m → IsValue (at m) → IsValue m
  value_back m f (inl e) = inl (is_skip m f e)
  value_back m f (inr (k, w, e)) = inr (k, w, is_lit m k w f e)

  -- what a term with the location becomes is a term with the location
  abbrev Back : Rel → Term → Term → Type 0
  Back R m v = (t : Term) × (v ≡ at t) × R m t

  mutual
    below_back : (R S : Rel) → ((a v : Term) → HasNoWaitAt y a → S (at a) v → Back R a v) → (m v : Term) → HasNoWaitAt y m → Below S (at m) v
        → Back (Below R) m v
    below_back R S g (Seq m n) v f (m', e, inl h) =
        let u = g m m' f.0 h in (Seq u.0 n, e ∙ ap (λ (x : Term). Seq x (at n)) u.1, (u.0, refl, inl u.2))
    below_back R S g (Seq m n) v f (m', e, inr h) =
        let u = below_back R S g m m' f.0 h in (Seq u.0 n, e ∙ ap (λ (x : Term). Seq x (at n)) u.1, (u.0, refl, inr u.2))
    below_back R S g (Par m n) v f (inl (m', e, inl h)) =
        let u = g m m' f.0 h in (Par u.0 n, e ∙ ap (λ (x : Term). Par x (at n)) u.1, inl (u.0, refl, inl u.2))
    below_back R S g (Par m n) v f (inl (m', e, inr h)) =
        let u = below_back R S g m m' f.0 h in (Par u.0 n, e ∙ ap (λ (x : Term). Par x (at n)) u.1, inl (u.0, refl, inr u.2))
    below_back R S g (Par m n) v f (inr (n', e, inl h)) =
        let u = g n n' f.1 h in (Par m u.0, e ∙ ap (λ (x : Term). Par (at m) x) u.1, inr (u.0, refl, inl u.2))
    below_back R S g (Par m n) v f (inr (n', e, inr h)) =
        let u = below_back R S g n n' f.1 h in (Par m u.0, e ∙ ap (λ (x : Term). Par (at m) x) u.1, inr (u.0, refl, inr u.2))
    below_back R S g (If m n p) v f (m', e, inl h) =
        let u = g m m' f.0 h in (If u.0 n p, e ∙ ap (λ (x : Term). If x (at n) (at p)) u.1, (u.0, refl, inl u.2))
    below_back R S g (If m n p) v f (m', e, inr h) =
        let u = below_back R S g m m' f.0 h in (If u.0 n p, e ∙ ap (λ (x : Term). If x (at n) (at p)) u.1, (u.0, refl, inr u.2))
    below_back R S g (Bin op m n) v f (m', e, inl h) =
        let u = g m m' f.0 h in (Bin op u.0 n, e ∙ ap (λ (x : Term). Bin op x (at n)) u.1, (u.0, refl, inl u.2))
    below_back R S g (Bin op m n) v f (m', e, inr h) =
        let u = below_back R S g m m' f.0 h in (Bin op u.0 n, e ∙ ap (λ (x : Term). Bin op x (at n)) u.1, (u.0, refl, inr u.2))
    below_back R S g (Held k op n) v f (n', e, inl h) =
        let u = g n n' f h in (Held k op u.0, e ∙ ap (λ (x : Term). Held k op x) u.1, (u.0, refl, inl u.2))
    below_back R S g (Held k op n) v f (n', e, inr h) =
        let u = below_back R S g n n' f h in (Held k op u.0, e ∙ ap (λ (x : Term). Held k op x) u.1, (u.0, refl, inr u.2))
    below_back R S g (Not m) v f (m', e, inl h) =
        let u = g m m' f h in (Not u.0, e ∙ ap (λ (x : Term). Not x) u.1, (u.0, refl, inl u.2))
    below_back R S g (Not m) v f (m', e, inr h) =
        let u = below_back R S g m m' f h in (Not u.0, e ∙ ap (λ (x : Term). Not x) u.1, (u.0, refl, inr u.2))
    below_back R S g (Assign m n) v f (n', e, inl h) =
        let u = g n n' f.1 h in (Assign m u.0, e ∙ ap (λ (x : Term). Assign (at m) x) u.1, (u.0, refl, inl u.2))
    below_back R S g (Assign m n) v f (n', e, inr h) =
        let u = below_back R S g n n' f.1 h in (Assign m u.0, e ∙ ap (λ (x : Term). Assign (at m) x) u.1, (u.0, refl, inr u.2))
    below_back R S g (Scope l m) v f (m', e, inl h) =
        let u = g m m' f h in (Scope l u.0, e ∙ ap (λ (x : Term). Scope (r l) x) u.1, (u.0, refl, inl u.2))
    below_back R S g (Scope l m) v f (m', e, inr h) =
        let u = below_back R S g m m' f h in (Scope l u.0, e ∙ ap (λ (x : Term). Scope (r l) x) u.1, (u.0, refl, inr u.2))
    below_back R S g (Import x) v f h = absurd (no_below S z x (bytes_eq x y) v h)
    below_back R S g (Wait x n) v f h = absurd (subst (λ (t : Term). Below S t v) (wait_at x n f) h)
    below_back R S g (Deref m) v f (m', e, h) = let u = index_back R S g m m' f h in (Deref u.0, e ∙ ap (λ (x : Term). Deref x) u.1, (u.0, refl, u.2))
    below_back R S g (Put m k) v f (m', e, h) = let u = index_back R S g m m' f h in (Put u.0 k, e ∙ ap (λ (x : Term). Put x k) u.1, (u.0, refl, u.2))
    below_back R S g m v f h = absurd h

    index_back : (R S : Rel) → ((a v : Term) → HasNoWaitAt y a → S (at a) v → Back R a v) → (m v : Term) → HasNoWaitAt y m → InIndex S (at m) v
        → Back (InIndex R) m v
    index_back R S g (App h n) v f (inr ((l, place), n', e, inl k)) =
        let u = g n n' f.1 k in
        let arr = is_arr h l f.0 place in
        (App h u.0, e ∙ ap (λ (t : Term). App (at h) t) u.1, inr ((arr.0, arr.1), u.0, refl, inl u.2))
    index_back R S g (App h n) v f (inr ((l, place), n', e, inr k)) =
        let u = below_back R S g n n' f.1 k in
        let arr = is_arr h l f.0 place in
        (App h u.0, e ∙ ap (λ (t : Term). App (at h) t) u.1, inr ((arr.0, arr.1), u.0, refl, inr u.2))
    index_back R S g (App h (Both b n)) v f (inl ((x, head), n', e, inl k)) =
        let u = g n n' f.1.1 k in
        (App h (Both b u.0), e ∙ ap (λ (t : Term). App (at h) (Both (at b) t)) u.1, inl ((x, (is_wait h x 0 f.0 head).0), u.0, refl, inl u.2))
    index_back R S g (App h (Both b n)) v f (inl ((x, head), n', e, inr k)) =
        let u = below_back R S g n n' f.1.1 k in
        (App h (Both b u.0), e ∙ ap (λ (t : Term). App (at h) (Both (at b) t)) u.1, inl ((x, (is_wait h x 0 f.0 head).0), u.0, refl, inr u.2))
    index_back R S g (App h (Import y')) v f (inl k) = absurd (no_import_index S (at h) z y' (bytes_eq y' y) v k)
    index_back R S g (App h (Wait y' s)) v f (inl k) = absurd (subst (λ (t : Term). InPortIndex S (at h) t v) (wait_at y' s f.1) k)
    index_back R S g (App h n) v f (inl k) = absurd k
    index_back R S g (Import x) v f h = absurd (no_in_index S z x (bytes_eq x y) v h)
    index_back R S g (Wait x n) v f h = absurd (subst (λ (t : Term). InIndex S t v) (wait_at x n f) h)
    index_back R S g m v f h = absurd h

  pub reached_back : (R S : Rel) → ((a v : Term) → HasNoWaitAt y a → S (at a) v → Back R a v) → (m v : Term) → HasNoWaitAt y m
      → Reached S (at m) v → Back (Reached R) m v
  reached_back R S g m v f (inl h) = let k = g m v f h in (k.0, k.1, inl k.2)
  reached_back R S g m v f (inr h) = let k = below_back R S g m v f h in (k.0, k.1, inr k.2)

  -- where a term with the location does something, the term does something
  mutual
    below_some : (R S : Rel) → ((a v : Term) → HasNoWaitAt y a → S (at a) v → (t : Term) × R a t) → (m v : Term) → HasNoWaitAt y m
        → Below S (at m) v → (t : Term) × Below R m t
    below_some R S g (Seq m n) v f (m', e, inl h) = let u = g m m' f.0 h in (Seq u.0 n, (u.0, refl, inl u.1))
    below_some R S g (Seq m n) v f (m', e, inr h) = let u = below_some R S g m m' f.0 h in (Seq u.0 n, (u.0, refl, inr u.1))
    below_some R S g (Par m n) v f (inl (m', e, inl h)) = let u = g m m' f.0 h in (Par u.0 n, inl (u.0, refl, inl u.1))
    below_some R S g (Par m n) v f (inl (m', e, inr h)) = let u = below_some R S g m m' f.0 h in (Par u.0 n, inl (u.0, refl, inr u.1))
    below_some R S g (Par m n) v f (inr (n', e, inl h)) = let u = g n n' f.1 h in (Par m u.0, inr (u.0, refl, inl u.1))
    below_some R S g (Par m n) v f (inr (n', e, inr h)) = let u = below_some R S g n n' f.1 h in (Par m u.0, inr (u.0, refl, inr u.1))
    below_some R S g (If m n p) v f (m', e, inl h) = let u = g m m' f.0 h in (If u.0 n p, (u.0, refl, inl u.1))
    below_some R S g (If m n p) v f (m', e, inr h) = let u = below_some R S g m m' f.0 h in (If u.0 n p, (u.0, refl, inr u.1))
    below_some R S g (Bin op m n) v f (m', e, inl h) = let u = g m m' f.0 h in (Bin op u.0 n, (u.0, refl, inl u.1))
    below_some R S g (Bin op m n) v f (m', e, inr h) = let u = below_some R S g m m' f.0 h in (Bin op u.0 n, (u.0, refl, inr u.1))
    below_some R S g (Held k op n) v f (n', e, inl h) = let u = g n n' f h in (Held k op u.0, (u.0, refl, inl u.1))
    below_some R S g (Held k op n) v f (n', e, inr h) = let u = below_some R S g n n' f h in (Held k op u.0, (u.0, refl, inr u.1))
    below_some R S g (Not m) v f (m', e, inl h) = let u = g m m' f h in (Not u.0, (u.0, refl, inl u.1))
    below_some R S g (Not m) v f (m', e, inr h) = let u = below_some R S g m m' f h in (Not u.0, (u.0, refl, inr u.1))
    below_some R S g (Assign m n) v f (n', e, inl h) = let u = g n n' f.1 h in (Assign m u.0, (u.0, refl, inl u.1))
    below_some R S g (Assign m n) v f (n', e, inr h) = let u = below_some R S g n n' f.1 h in (Assign m u.0, (u.0, refl, inr u.1))
    below_some R S g (Scope l m) v f (m', e, inl h) = let u = g m m' f h in (Scope l u.0, (u.0, refl, inl u.1))
    below_some R S g (Scope l m) v f (m', e, inr h) = let u = below_some R S g m m' f h in (Scope l u.0, (u.0, refl, inr u.1))
    below_some R S g (Import x) v f h = absurd (no_below S z x (bytes_eq x y) v h)
    below_some R S g (Wait x n) v f h = absurd (subst (λ (t : Term). Below S t v) (wait_at x n f) h)
    below_some R S g (Deref m) v f (m', e, h) = let u = index_some R S g m m' f h in (Deref u.0, (u.0, refl, u.1))
    below_some R S g (Put m k) v f (m', e, h) = let u = index_some R S g m m' f h in (Put u.0 k, (u.0, refl, u.1))
    below_some R S g m v f h = absurd h

    index_some : (R S : Rel) → ((a v : Term) → HasNoWaitAt y a → S (at a) v → (t : Term) × R a t) → (m v : Term) → HasNoWaitAt y m
        → InIndex S (at m) v → (t : Term) × InIndex R m t
    index_some R S g (App h n) v f (inr ((l, place), n', e, inl k)) =
        let u = g n n' f.1 k in let arr = is_arr h l f.0 place in (App h u.0, inr ((arr.0, arr.1), u.0, refl, inl u.1))
    index_some R S g (App h n) v f (inr ((l, place), n', e, inr k)) =
        let u = below_some R S g n n' f.1 k in let arr = is_arr h l f.0 place in (App h u.0, inr ((arr.0, arr.1), u.0, refl, inr u.1))
    index_some R S g (App h (Both b n)) v f (inl ((x, head), n', e, inl k)) =
        let u = g n n' f.1.1 k in (App h (Both b u.0), inl ((x, (is_wait h x 0 f.0 head).0), u.0, refl, inl u.1))
    index_some R S g (App h (Both b n)) v f (inl ((x, head), n', e, inr k)) =
        let u = below_some R S g n n' f.1.1 k in (App h (Both b u.0), inl ((x, (is_wait h x 0 f.0 head).0), u.0, refl, inr u.1))
    index_some R S g (App h (Import y')) v f (inl k) = absurd (no_import_index S (at h) z y' (bytes_eq y' y) v k)
    index_some R S g (App h (Wait y' s)) v f (inl k) = absurd (subst (λ (t : Term). InPortIndex S (at h) t v) (wait_at y' s f.1) k)
    index_some R S g (App h n) v f (inl k) = absurd k
    index_some R S g (Import x) v f h = absurd (no_in_index S z x (bytes_eq x y) v h)
    index_some R S g (Wait x n) v f h = absurd (subst (λ (t : Term). InIndex S t v) (wait_at x n f) h)
    index_some R S g m v f h = absurd h

  pub reached_some : (R S : Rel) → ((a v : Term) → HasNoWaitAt y a → S (at a) v → (t : Term) × R a t) → (m v : Term) → HasNoWaitAt y m
      → Reached S (at m) v → (t : Term) × Reached R m t
  reached_some R S g m v f (inl h) = let k = g m v f h in (k.0, inl k.1)
  reached_some R S g m v f (inr h) = let k = below_some R S g m v f h in (k.0, inr k.1)

  -- heads
  rewrites_back : (m v : Term) → HasNoWaitAt y m → Rewrites (at m) v → Back Rewrites m v
  rewrites_back (App m n) v f (a, b, em, et) =
      let k = is_lam m a b f.0 em in (
        instantiate k.0 n,
        et ∙ (ap (λ (x : Term). instantiate x (at n)) (sym k.2) ∙ sym (placed_put r y z k.0 0 n)),
        (a, k.0, k.1, refl),
      )
  rewrites_back (Fst m) v f (n, e) = let k = is_pair m v n f e in (k.0, sym k.3, (k.1, k.2))
  rewrites_back (Snd m) v f (n, e) = let k = is_pair m n v f e in (k.1, sym k.4, (k.0, k.2))
  rewrites_back (Import x) v f h = absurd (no_rewrite z x (bytes_eq x y) v h)
  rewrites_back (Wait x n) v f h = absurd (subst (λ (t : Term). Rewrites t v) (wait_at x n f) h)
  rewrites_back m v f h = absurd h

  under_back : (m v : Term) → HasNoWaitAt y m → Under Rewrites (at m) v → Back (Under Rewrites) m v
  under_back (App m n) v f (m', e, inl h) =
      let k = rewrites_back m m' f.0 h in (App k.0 n, e ∙ ap (λ (x : Term). App x (at n)) k.1, (k.0, refl, inl k.2))
  under_back (App m n) v f (m', e, inr h) =
      let k = under_back m m' f.0 h in (App k.0 n, e ∙ ap (λ (x : Term). App x (at n)) k.1, (k.0, refl, inr k.2))
  under_back (Fst m) v f (m', e, inl h) =
      let k = rewrites_back m m' f h in (Fst k.0, e ∙ ap (λ (x : Term). Fst x) k.1, (k.0, refl, inl k.2))
  under_back (Fst m) v f (m', e, inr h) =
      let k = under_back m m' f h in (Fst k.0, e ∙ ap (λ (x : Term). Fst x) k.1, (k.0, refl, inr k.2))
  under_back (Snd m) v f (m', e, inl h) =
      let k = rewrites_back m m' f h in (Snd k.0, e ∙ ap (λ (x : Term). Snd x) k.1, (k.0, refl, inl k.2))
  under_back (Snd m) v f (m', e, inr h) =
      let k = under_back m m' f h in (Snd k.0, e ∙ ap (λ (x : Term). Snd x) k.1, (k.0, refl, inr k.2))
  under_back (Import x) v f h = absurd (no_under z x (bytes_eq x y) v h)
  under_back (Wait x n) v f h = absurd (subst (λ (t : Term). Under Rewrites t v) (wait_at x n f) h)
  under_back m v f h = absurd h

  aside_back : (m v : Term) → HasNoWaitAt y m → Aside Rewrites (at m) v → Back (Aside Rewrites) m v
  aside_back (Put m j) v f (m', e, inl h) =
      let k = rewrites_back m m' f h in (Put k.0 j, e ∙ ap (λ (x : Term). Put x j) k.1, (k.0, refl, inl k.2))
  aside_back (Put m j) v f (m', e, inr h) =
      let k = under_back m m' f h in (Put k.0 j, e ∙ ap (λ (x : Term). Put x j) k.1, (k.0, refl, inr k.2))
  aside_back (Deref m) v f (m', e, inl h) =
      let k = rewrites_back m m' f h in (Deref k.0, e ∙ ap (λ (x : Term). Deref x) k.1, (k.0, refl, inl k.2))
  aside_back (Deref m) v f (m', e, inr h) =
      let k = under_back m m' f h in (Deref k.0, e ∙ ap (λ (x : Term). Deref x) k.1, (k.0, refl, inr k.2))
  aside_back (Import x) v f h = absurd (no_aside z x (bytes_eq x y) v h)
  aside_back (Wait x n) v f h = absurd (subst (λ (t : Term). Aside Rewrites t v) (wait_at x n f) h)
  aside_back m v f h = absurd h

  head_back : (m v : Term) → HasNoWaitAt y m → OneHead (at m) v → Back OneHead m v
  head_back m v f (inl (inl h)) = let k = rewrites_back m v f h in (k.0, k.1, inl (inl k.2))
  head_back m v f (inl (inr h)) = let k = under_back m v f h in (k.0, k.1, inl (inr k.2))
  head_back m v f (inr h) = let k = aside_back m v f h in (k.0, k.1, inr k.2)

  pub unfoldings_back : (n : ℕ) (m v : Term) → HasNoWaitAt y m → Unfoldings n (at m) v → (t : Term) × (v ≡ at t) × Unfoldings n m t × HasNoWaitAt y t
  unfoldings_back zero m v f h = (m, sym h, refl, f)
  unfoldings_back (suc n) m v f (u, h, hs) =
      let one = reached_back OneHead OneHead head_back m u f h in
      let rest = unfoldings_back n one.0 v (unfolds_none y m one.0 one.2 f) (subst (λ (x : Term). Unfoldings n x v) one.1 hs) in
      (rest.0, rest.1, (one.0, one.2, rest.2), rest.3)
