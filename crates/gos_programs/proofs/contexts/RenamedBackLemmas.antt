-- What a renamed term does comes from the term.
use Rattle.std.specs.Prelude.{◌≡◌, ℕ, zero, suc, ◌∷◌, Option, Some, None, slice_get, List}
use Rattle.std.proofs.Common.{arith, refl, sym, ap, subst, inl, inr, ◌∙◌}
use Rattle.gos_types.specs.Types.{Type'}
use Rattle.gos_model.specs.Terms.{Name, Term, Skip, Lit, Import, Lam, App, Both, Fst, Snd, Seq, Par, If, While, Assign, Deref, New, Not, Bin, Loc, Scope, Wait, Held, Put, result_of, result_width, complement, NewArray, Arr}
use Rattle.gos_model.specs.Substitution.{instantiate}
use Rattle.gos_model.specs.Typing.{Imports}
use Rattle.gos_model.specs.Stores.{Entry, variable_at, Store, entry_at, store_put, without, array_at}
use Rattle.gos_model.specs.Reach.{Rel, Reached, Below, InIndex, Rewrites, Under, Aside}
use Rattle.gos_model.specs.Steps.{Computes, IsValue, Steps, Locates}
use Rattle.gos_model.specs.Labels.{Label}
use Rattle.gos_model.specs.Moves.{Unfoldings}
use Rattle.gos_model.proofs.AccessMapLemmas.{ComesFrom, puts_back, reads_back, writes_back}
use Rattle.gos_programs.specs.contexts.Contexts.{Context, plug}
use Rattle.gos_programs.specs.contexts.Renaming.{renamed, IsInjective, IsFreeOf, beside}
use Rattle.gos_programs.proofs.contexts.BackwardLemmas.{OneHead, OneLabel}
use Rattle.gos_programs.proofs.contexts.ReachedLemmas.{reached_lifted}
use Rattle.gos_programs.proofs.contexts.RenamedStoreLemmas.{entry_beside, moved, entry_place, above, above_absent}
use Rattle.gos_programs.proofs.contexts.RenamedLemmas.{renamed_put}
use Rattle.gos_programs.proofs.contexts.PluggedLemmas.{reached_plugged}
use Rattle.std.proofs.lemmas.Option.{same_Some}

-- which terms are renamed to a form
is_skip : (r : ℕ → ℕ) (m : Term) → renamed r m ≡ Skip → m ≡ Skip
is_skip r Skip h = refl
is_skip r m h = absurd cc

is_lit : (r : ℕ → ℕ) (m : Term) (k w : ℕ) → renamed r m ≡ Lit k w → m ≡ Lit k w
is_lit r (Lit j v) k w h = h
is_lit r m k w h = absurd cc

is_import : (r : ℕ → ℕ) (m : Term) (x : Name) → renamed r m ≡ Import x → m ≡ Import x
is_import r (Import y) x h = h
is_import r m x h = absurd cc

is_wait : (r : ℕ → ℕ) (m : Term) (x : Name) (s : ℕ) → renamed r m ≡ Wait x s → m ≡ Wait x s
is_wait r (Wait y n) x s h = h
is_wait r m x s h = absurd cc

is_app : (r : ℕ → ℕ) (m f n : Term) → renamed r m ≡ App f n → (g : Term) × (p : Term) × (m ≡ App g p) × (renamed r g ≡ f) × (renamed r p ≡ n)
is_app r (App g p) f n h = (g, p, refl, cc, cc)
is_app r m f n h = absurd cc

is_loc : (r : ℕ → ℕ) (m : Term) (l : ℕ) → renamed r m ≡ Loc l → (k : ℕ) × (m ≡ Loc k) × (r k ≡ l)
is_loc r (Loc k) l h = (k, refl, cc)
is_loc r m l h = absurd cc

is_arr : (r : ℕ → ℕ) (m : Term) (l : ℕ) → renamed r m ≡ Arr l → (k : ℕ) × (m ≡ Arr k) × (r k ≡ l)
is_arr r (Arr k) l h = (k, refl, cc)
is_arr r m l h = absurd cc

is_lam : (r : ℕ → ℕ) (m : Term) (a : Type') (b : Term) → renamed r m ≡ Lam a b → (n : Term) × (m ≡ Lam a n) × (renamed r n ≡ b)
is_lam r (Lam c n) a b h = let same : c ≡ a = cc in (n, ap (λ (x : Type'). Lam x n) same, cc)
is_lam r m a b h = absurd cc

is_pair : (r : ℕ → ℕ) (m a b : Term) → renamed r m ≡ Both a b → (c : Term) × (d : Term) × (m ≡ Both c d) × (renamed r c ≡ a) × (renamed r d ≡ b)
is_pair r (Both c d) a b h = (c, d, refl, cc, cc)
is_pair r m a b h = absurd cc

pub is_value : (r : ℕ → ℕ) (m : Term) → IsValue (renamed r m) → IsValue m
is_value r m (inl e) = inl (is_skip r m e)
is_value r m (inr (k, w, e)) = inr (k, w, is_lit r m k w e)

-- what a renamed term becomes is a term renamed
abbrev Back : (ℕ → ℕ) → Rel → Term → Term → Type 0
Back r R m v = (t : Term) × (v ≡ renamed r t) × R m t

mutual
  below_back : (r : ℕ → ℕ) (R S : Rel) → ((a v : Term) → S (renamed r a) v → Back r R a v) → (m v : Term) → Below S (renamed r m) v
      → Back r (Below R) m v
  below_back r R S g (Seq m n) v (m', e, inl h) = let y = g m m' h in (Seq y.0 n, e ∙ ap (λ (x : Term). Seq x (renamed r n)) y.1, (y.0, refl, inl y.2))
  below_back r R S g (Seq m n) v (m', e, inr h) =
      let y = below_back r R S g m m' h in (Seq y.0 n, e ∙ ap (λ (x : Term). Seq x (renamed r n)) y.1, (y.0, refl, inr y.2))
  below_back r R S g (Par m n) v (inl (m', e, inl h)) = let y = g m m' h in (Par y.0 n, e ∙ ap (λ (x : Term). Par x (renamed r n)) y.1, inl (y.0, refl, inl y.2))
  below_back r R S g (Par m n) v (inl (m', e, inr h)) =
      let y = below_back r R S g m m' h in (Par y.0 n, e ∙ ap (λ (x : Term). Par x (renamed r n)) y.1, inl (y.0, refl, inr y.2))
  below_back r R S g (Par m n) v (inr (n', e, inl h)) = let y = g n n' h in (Par m y.0, e ∙ ap (λ (x : Term). Par (renamed r m) x) y.1, inr (y.0, refl, inl y.2))
  below_back r R S g (Par m n) v (inr (n', e, inr h)) =
      let y = below_back r R S g n n' h in (Par m y.0, e ∙ ap (λ (x : Term). Par (renamed r m) x) y.1, inr (y.0, refl, inr y.2))
  below_back r R S g (If m n p) v (m', e, inl h) =
      let y = g m m' h in (If y.0 n p, e ∙ ap (λ (x : Term). If x (renamed r n) (renamed r p)) y.1, (y.0, refl, inl y.2))
  below_back r R S g (If m n p) v (m', e, inr h) =
      let y = below_back r R S g m m' h in (If y.0 n p, e ∙ ap (λ (x : Term). If x (renamed r n) (renamed r p)) y.1, (y.0, refl, inr y.2))
  below_back r R S g (Bin op m n) v (m', e, inl h) = let y = g m m' h in (Bin op y.0 n, e ∙ ap (λ (x : Term). Bin op x (renamed r n)) y.1, (y.0, refl, inl y.2))
  below_back r R S g (Bin op m n) v (m', e, inr h) =
      let y = below_back r R S g m m' h in (Bin op y.0 n, e ∙ ap (λ (x : Term). Bin op x (renamed r n)) y.1, (y.0, refl, inr y.2))
  below_back r R S g (Held k op n) v (n', e, inl h) = let y = g n n' h in (Held k op y.0, e ∙ ap (λ (x : Term). Held k op x) y.1, (y.0, refl, inl y.2))
  below_back r R S g (Held k op n) v (n', e, inr h) =
      let y = below_back r R S g n n' h in (Held k op y.0, e ∙ ap (λ (x : Term). Held k op x) y.1, (y.0, refl, inr y.2))
  below_back r R S g (Not m) v (m', e, inl h) = let y = g m m' h in (Not y.0, e ∙ ap (λ (x : Term). Not x) y.1, (y.0, refl, inl y.2))
  below_back r R S g (Not m) v (m', e, inr h) = let y = below_back r R S g m m' h in (Not y.0, e ∙ ap (λ (x : Term). Not x) y.1, (y.0, refl, inr y.2))
  below_back r R S g (Assign m n) v (n', e, inl h) = let y = g n n' h in (Assign m y.0, e ∙ ap (λ (x : Term). Assign (renamed r m) x) y.1, (y.0, refl, inl y.2))
  below_back r R S g (Assign m n) v (n', e, inr h) =
      let y = below_back r R S g n n' h in (Assign m y.0, e ∙ ap (λ (x : Term). Assign (renamed r m) x) y.1, (y.0, refl, inr y.2))
  below_back r R S g (Scope l m) v (m', e, inl h) = let y = g m m' h in (Scope l y.0, e ∙ ap (λ (x : Term). Scope (r l) x) y.1, (y.0, refl, inl y.2))
  below_back r R S g (Scope l m) v (m', e, inr h) =
      let y = below_back r R S g m m' h in (Scope l y.0, e ∙ ap (λ (x : Term). Scope (r l) x) y.1, (y.0, refl, inr y.2))
  below_back r R S g (Deref m) v (m', e, h) = let y = index_back r R S g m m' h in (Deref y.0, e ∙ ap (λ (x : Term). Deref x) y.1, (y.0, refl, y.2))
  below_back r R S g (Put m k) v (m', e, h) = let y = index_back r R S g m m' h in (Put y.0 k, e ∙ ap (λ (x : Term). Put x k) y.1, (y.0, refl, y.2))
  below_back r R S g m v h = absurd h

  index_back : (r : ℕ → ℕ) (R S : Rel) → ((a v : Term) → S (renamed r a) v → Back r R a v) → (m v : Term) → InIndex S (renamed r m) v
      → Back r (InIndex R) m v
  index_back r R S g (App h n) v (inr ((l, place), n', e, inl k)) =
      let y = g n n' k in
      let (j, arr, same) = is_arr r h l place in
      (App h y.0, e ∙ ap (λ (u : Term). App (renamed r h) u) y.1, inr ((j, arr), y.0, refl, inl y.2))
  index_back r R S g (App h n) v (inr ((l, place), n', e, inr k)) =
      let y = below_back r R S g n n' k in
      let (j, arr, same) = is_arr r h l place in
      (App h y.0, e ∙ ap (λ (u : Term). App (renamed r h) u) y.1, inr ((j, arr), y.0, refl, inr y.2))
  index_back r R S g (App h (Both b n)) v (inl ((x, head), n', e, inl k)) =
      let y = g n n' k in
      (App h (Both b y.0), e ∙ ap (λ (u : Term). App (renamed r h) (Both (renamed r b) u)) y.1, inl ((x, is_wait r h x 0 head), y.0, refl, inl y.2))
  index_back r R S g (App h (Both b n)) v (inl ((x, head), n', e, inr k)) =
      let y = below_back r R S g n n' k in
      (App h (Both b y.0), e ∙ ap (λ (u : Term). App (renamed r h) (Both (renamed r b) u)) y.1, inl ((x, is_wait r h x 0 head), y.0, refl, inr y.2))
  index_back r R S g (App h n) v (inl k) = absurd k
  index_back r R S g m v h = absurd h

pub reached_back : (r : ℕ → ℕ) (R S : Rel) → ((a v : Term) → S (renamed r a) v → Back r R a v) → (m v : Term) → Reached S (renamed r m) v
    → Back r (Reached R) m v
reached_back r R S g m v (inl h) = let k = g m v h in (k.0, k.1, inl k.2)
reached_back r R S g m v (inr h) = let k = below_back r R S g m v h in (k.0, k.1, inr k.2)

-- where a renamed term does something, the term does something
mutual
  below_some : (r : ℕ → ℕ) (R S : Rel) → ((a v : Term) → S (renamed r a) v → (t : Term) × R a t) → (m v : Term) → Below S (renamed r m) v
      → (t : Term) × Below R m t
  below_some r R S g (Seq m n) v (m', e, inl h) = let y = g m m' h in (Seq y.0 n, (y.0, refl, inl y.1))
  below_some r R S g (Seq m n) v (m', e, inr h) = let y = below_some r R S g m m' h in (Seq y.0 n, (y.0, refl, inr y.1))
  below_some r R S g (Par m n) v (inl (m', e, inl h)) = let y = g m m' h in (Par y.0 n, inl (y.0, refl, inl y.1))
  below_some r R S g (Par m n) v (inl (m', e, inr h)) = let y = below_some r R S g m m' h in (Par y.0 n, inl (y.0, refl, inr y.1))
  below_some r R S g (Par m n) v (inr (n', e, inl h)) = let y = g n n' h in (Par m y.0, inr (y.0, refl, inl y.1))
  below_some r R S g (Par m n) v (inr (n', e, inr h)) = let y = below_some r R S g n n' h in (Par m y.0, inr (y.0, refl, inr y.1))
  below_some r R S g (If m n p) v (m', e, inl h) = let y = g m m' h in (If y.0 n p, (y.0, refl, inl y.1))
  below_some r R S g (If m n p) v (m', e, inr h) = let y = below_some r R S g m m' h in (If y.0 n p, (y.0, refl, inr y.1))
  below_some r R S g (Bin op m n) v (m', e, inl h) = let y = g m m' h in (Bin op y.0 n, (y.0, refl, inl y.1))
  below_some r R S g (Bin op m n) v (m', e, inr h) = let y = below_some r R S g m m' h in (Bin op y.0 n, (y.0, refl, inr y.1))
  below_some r R S g (Held k op n) v (n', e, inl h) = let y = g n n' h in (Held k op y.0, (y.0, refl, inl y.1))
  below_some r R S g (Held k op n) v (n', e, inr h) = let y = below_some r R S g n n' h in (Held k op y.0, (y.0, refl, inr y.1))
  below_some r R S g (Not m) v (m', e, inl h) = let y = g m m' h in (Not y.0, (y.0, refl, inl y.1))
  below_some r R S g (Not m) v (m', e, inr h) = let y = below_some r R S g m m' h in (Not y.0, (y.0, refl, inr y.1))
  below_some r R S g (Assign m n) v (n', e, inl h) = let y = g n n' h in (Assign m y.0, (y.0, refl, inl y.1))
  below_some r R S g (Assign m n) v (n', e, inr h) = let y = below_some r R S g n n' h in (Assign m y.0, (y.0, refl, inr y.1))
  below_some r R S g (Scope l m) v (m', e, inl h) = let y = g m m' h in (Scope l y.0, (y.0, refl, inl y.1))
  below_some r R S g (Scope l m) v (m', e, inr h) = let y = below_some r R S g m m' h in (Scope l y.0, (y.0, refl, inr y.1))
  below_some r R S g (Deref m) v (m', e, h) = let y = index_some r R S g m m' h in (Deref y.0, (y.0, refl, y.1))
  below_some r R S g (Put m k) v (m', e, h) = let y = index_some r R S g m m' h in (Put y.0 k, (y.0, refl, y.1))
  below_some r R S g m v h = absurd h

  index_some : (r : ℕ → ℕ) (R S : Rel) → ((a v : Term) → S (renamed r a) v → (t : Term) × R a t) → (m v : Term) → InIndex S (renamed r m) v
      → (t : Term) × InIndex R m t
  index_some r R S g (App h n) v (inr ((l, place), n', e, inl k)) =
      let y = g n n' k in let (j, arr, same) = is_arr r h l place in (App h y.0, inr ((j, arr), y.0, refl, inl y.1))
  index_some r R S g (App h n) v (inr ((l, place), n', e, inr k)) =
      let y = below_some r R S g n n' k in let (j, arr, same) = is_arr r h l place in (App h y.0, inr ((j, arr), y.0, refl, inr y.1))
  index_some r R S g (App h (Both b n)) v (inl ((x, head), n', e, inl k)) =
      let y = g n n' k in (App h (Both b y.0), inl ((x, is_wait r h x 0 head), y.0, refl, inl y.1))
  index_some r R S g (App h (Both b n)) v (inl ((x, head), n', e, inr k)) =
      let y = below_some r R S g n n' k in (App h (Both b y.0), inl ((x, is_wait r h x 0 head), y.0, refl, inr y.1))
  index_some r R S g (App h n) v (inl k) = absurd k
  index_some r R S g m v h = absurd h

pub reached_some : (r : ℕ → ℕ) (R S : Rel) → ((a v : Term) → S (renamed r a) v → (t : Term) × R a t) → (m v : Term) → Reached S (renamed r m) v
    → (t : Term) × Reached R m t
reached_some r R S g m v (inl h) = let k = g m v h in (k.0, inl k.1)
reached_some r R S g m v (inr h) = let k = below_some r R S g m v h in (k.0, inr k.1)

-- heads
rewrites_back : (r : ℕ → ℕ) (m v : Term) → Rewrites (renamed r m) v → Back r Rewrites m v
rewrites_back r (App m n) v (a, b, em, et) =
    let k = is_lam r m a b em in (
      instantiate k.0 n,
      et ∙ (ap (λ (x : Term). instantiate x (renamed r n)) (sym k.2) ∙ sym (renamed_put r k.0 0 n)),
      (a, k.0, k.1, refl),
    )
rewrites_back r (Fst m) v (n, e) = let k = is_pair r m v n e in (k.0, sym k.3, (k.1, k.2))
rewrites_back r (Snd m) v (n, e) = let k = is_pair r m n v e in (k.1, sym k.4, (k.0, k.2))
rewrites_back r m v h = absurd h

under_back : (r : ℕ → ℕ) (m v : Term) → Under Rewrites (renamed r m) v → Back r (Under Rewrites) m v
under_back r (App m n) v (m', e, inl h) =
    let k = rewrites_back r m m' h in (App k.0 n, e ∙ ap (λ (x : Term). App x (renamed r n)) k.1, (k.0, refl, inl k.2))
under_back r (App m n) v (m', e, inr h) =
    let k = under_back r m m' h in (App k.0 n, e ∙ ap (λ (x : Term). App x (renamed r n)) k.1, (k.0, refl, inr k.2))
under_back r (Fst m) v (m', e, inl h) = let k = rewrites_back r m m' h in (Fst k.0, e ∙ ap (λ (x : Term). Fst x) k.1, (k.0, refl, inl k.2))
under_back r (Fst m) v (m', e, inr h) = let k = under_back r m m' h in (Fst k.0, e ∙ ap (λ (x : Term). Fst x) k.1, (k.0, refl, inr k.2))
under_back r (Snd m) v (m', e, inl h) = let k = rewrites_back r m m' h in (Snd k.0, e ∙ ap (λ (x : Term). Snd x) k.1, (k.0, refl, inl k.2))
under_back r (Snd m) v (m', e, inr h) = let k = under_back r m m' h in (Snd k.0, e ∙ ap (λ (x : Term). Snd x) k.1, (k.0, refl, inr k.2))
under_back r m v h = absurd h

aside_back : (r : ℕ → ℕ) (m v : Term) → Aside Rewrites (renamed r m) v → Back r (Aside Rewrites) m v
aside_back r (Put m j) v (m', e, inl h) =
    let k = rewrites_back r m m' h in (Put k.0 j, e ∙ ap (λ (x : Term). Put x j) k.1, (k.0, refl, inl k.2))
aside_back r (Put m j) v (m', e, inr h) =
    let k = under_back r m m' h in (Put k.0 j, e ∙ ap (λ (x : Term). Put x j) k.1, (k.0, refl, inr k.2))
aside_back r (Deref m) v (m', e, inl h) = let k = rewrites_back r m m' h in (Deref k.0, e ∙ ap (λ (x : Term). Deref x) k.1, (k.0, refl, inl k.2))
aside_back r (Deref m) v (m', e, inr h) = let k = under_back r m m' h in (Deref k.0, e ∙ ap (λ (x : Term). Deref x) k.1, (k.0, refl, inr k.2))
aside_back r m v h = absurd h

head_back : (r : ℕ → ℕ) (m v : Term) → OneHead (renamed r m) v → Back r OneHead m v
head_back r m v (inl (inl h)) = let k = rewrites_back r m v h in (k.0, k.1, inl (inl k.2))
head_back r m v (inl (inr h)) = let k = under_back r m v h in (k.0, k.1, inl (inr k.2))
head_back r m v (inr h) = let k = aside_back r m v h in (k.0, k.1, inr k.2)

pub unfoldings_back : (r : ℕ → ℕ) (n : ℕ) (m v : Term) → Unfoldings n (renamed r m) v → (t : Term) × (v ≡ renamed r t) × Unfoldings n m t
unfoldings_back r zero m v h = (m, sym h, refl)
unfoldings_back r (suc n) m v (u, h, hs) =
    let one = reached_back r OneHead OneHead (head_back r) m u h in
    let rest = unfoldings_back r n one.0 v (subst (λ (x : Term). Unfoldings n x v) one.1 hs) in
    (rest.0, rest.1, (one.0, one.2, rest.2))

comes_back : (r : ℕ → ℕ) (i : Imports) (x : Name) → ComesFrom i i (renamed r) (λ (u : Term). Unit {0}) x
comes_back r i x =
    record {
      app = λ m h n free e. let (g, p, whole, eg, ep) = is_app r m h n e in (g, p, whole, eg, ep, tt, tt);
      both = λ m h n free e. let (g, p, whole, eg, ep) = is_pair r m h n e in (g, p, whole, eg, ep, tt, tt);
      literal = λ m k w free e. is_lit r m k w e;
      import = λ m free e. (is_import r m x e, refl);
      wait = λ m s free e. (is_wait r m x s e, refl);
    }

-- a label
label_some : (r : ℕ → ℕ) (i : Imports) (o : Label) (a v : Term) → OneLabel i o (renamed r a) v → (t : Term) × OneLabel i o a t
label_some r i o (Import x) v h = (v, h)
label_some r i o (Deref m) v (inl (inl (x, w, em, h, e, et))) = (v, inl (inl (x, w, is_import r m x em, h, e, et)))
label_some r i o (Put m n) v (inl (inl (x, w, em, h, e, et))) = (v, inl (inl (x, w, is_import r m x em, h, e, et)))
label_some r i o (Wait x n) v h = (v, h)
label_some r i o (Deref m) v (inl (inr (x, p, h))) =
    let y = puts_back i i (renamed r) (λ (u : Term). Unit {0}) (λ (u : Term). Deref u) x (comes_back r i x) 2 0 o.event o.value m v tt h in (y.0, inl (inr (x, p, y.1)))
label_some r i o (Deref m) v (inr (x, p, h)) =
    let y = reads_back i i (renamed r) (λ (u : Term). Unit {0}) (λ (u : Term). Deref u) x (comes_back r i x) o.event o.value m v tt h in (y.0, inr (x, p, y.1))
label_some r i o (Put m n) v (inl (inr (x, p, h))) =
    let y = puts_back i i (renamed r) (λ (u : Term). Unit {0}) (λ (u : Term). Put u n) x (comes_back r i x) 4 n o.event o.value m v tt h in (y.0, inl (inr (x, p, y.1)))
label_some r i o (Put m n) v (inr (x, p, h)) =
    let y = writes_back i i (renamed r) (λ (u : Term). Unit {0}) (λ (u : Term). Put u n) x (comes_back r i x) o.event o.value m v tt h in (y.0, inr (x, p, y.1))
label_some r i o a v (inl h) = absurd h
label_some r i o a v (inr h) = absurd h

-- a computation step to any store
abbrev pub Somehow : Store → Rel
Somehow s a t = (s' : Store) × Computes s s' a t

-- what stands for a number under a new name does so
located_back : (r : ℕ → ℕ) (m : Term) (l i : ℕ) → Locates (renamed r m) l i → (k : ℕ) × Locates m k i × (r k ≡ l)
located_back r m l i (inl (e, z)) = let (k, is, same) = is_loc r m l e in (k, inl (is, z), same)
located_back r m l i (inr (w, e)) =
    let (h, n, whole, eh, en) = is_app r m (Arr l) (Lit i w) e in
    let (k, arr, same) = is_arr r h l eh in
    (k, inr (w, whole ∙ (ap (λ (v : Term). App v n) arr ∙ ap (λ (v : Term). App (Arr k) v) (is_lit r n i w en))), same)

-- the entry, with the same numbers, of a location whose renamed one has an entry
entry_back : (r : ℕ → ℕ) (f : Store) → IsInjective r → IsFreeOf r f → (s : Store) (m : Term) (i : ℕ) (e : Entry)
    → Locates (renamed r m) e.place i → entry_at (beside r s f) e.place ≡ Some e
    → (d : Entry) × Locates m d.place i × (entry_at s d.place ≡ Some d) × (d.numbers ≡ e.numbers)
entry_back r f inj free s m i e em here =
    let b = located_back r m e.place i em in
    found b.0 b.1 (subst (λ (x : ℕ). entry_at (beside r s f) x ≡ Some e) (sym b.2) here) (entry_at s b.0) refl
  where
    found : (k : ℕ) → Locates m k i → entry_at (beside r s f) (r k) ≡ Some e → (o : Option Entry) → entry_at s k ≡ o
        → (d : Entry) × Locates m d.place i × (entry_at s d.place ≡ Some d) × (d.numbers ≡ e.numbers)
    found k is there None q =
        let bad : None ≡ Some e = sym (entry_beside r inj s f k (free k) ∙ ap (moved r) q) ∙ there in absurd cc
    found k is there (Some d) q =
        let place = entry_place s k d q in
        let renamed_one : record d { place = r d.place } ≡ e =
        same_Some (record d { place = r d.place }) e (sym (entry_beside r inj s f k (free k) ∙ ap (moved r) q) ∙ there) in
        (d, subst (λ (x : ℕ). Locates m x i) (sym place) is, ap (entry_at s) place ∙ q, ap (λ (x : Entry). x.numbers) renamed_one)

row_some : (r : ℕ → ℕ) (f : Store) → IsInjective r → IsFreeOf r f → (s u : Store) (a v : Term) → Computes (beside r s f) u (renamed r a) v
    → (t : Term) × Somehow s a t
row_some r f inj free s u (Seq m n) v (em, et, es) = (n, (s, (is_skip r m em, refl, refl)))
row_some r f inj free s u (Par m n) v (em, en, et, es) = (Skip, (s, (is_skip r m em, is_skip r n en, refl, refl)))
row_some r f inj free s u (If m n p) v (inl (em, et), es) = (n, (s, (inl (is_lit r m 1 1 em, refl), refl)))
row_some r f inj free s u (If m n p) v (inr (em, et), es) = (p, (s, (inr (is_lit r m 0 1 em, refl), refl)))
row_some r f inj free s u (While m n) v h = (If m (Seq n (While m n)) Skip, (s, (refl, refl)))
row_some r f inj free s u (Bin op m n) v (k, w, em, et, es) = (Held k op n, (s, (k, w, is_lit r m k w em, refl, refl)))
row_some r f inj free s u (Held k op n) v (j, w, en, et, es) = (Lit (result_of op w k j) (result_width op w), (s, (j, w, is_lit r n j w en, refl, refl)))
row_some r f inj free s u (Not m) v (k, w, em, et, es) = (Lit (complement w k) w, (s, (k, w, is_lit r m k w em, refl, refl)))
row_some r f inj free s u (Assign m n) v (k, w, en, et, es) = (Put m k, (s, (k, w, is_lit r n k w en, refl, refl)))
row_some r f inj free s u (Put m k) v (e, j, old, em, here, has, et, es) =
    let g = entry_back r f inj free s m j e em here in
    (Skip, (store_put s g.0.place j k, (g.0, j, old, g.1, g.2, ap (λ (ks : List ℕ). slice_get ks j) g.3 ∙ has, refl, refl)))
row_some r f inj free s u (Deref m) v (e, j, old, em, here, has, et, es) =
    let g = entry_back r f inj free s m j e em here in
    (Lit old g.0.width, (s, (g.0, j, old, g.1, g.2, ap (λ (ks : List ℕ). slice_get ks j) g.3 ∙ has, refl, refl)))
row_some r f inj free s u (New w m) v h =
    let l = above s in (Scope l (instantiate m (Loc l)), (variable_at l w 0 ∷ s, (l, above_absent s l (omega arith), refl, refl)))
row_some r f inj free s u (NewArray n w m) v h =
    let l = above s in (Scope l (instantiate m (Arr l)), (array_at l w n ∷ s, (l, above_absent s l (omega arith), refl, refl)))
row_some r f inj free s u (Scope l m) v (is, et, es) = (m, (without s l, (is_value r m is, refl, refl)))
row_some r f inj free s u m v h = absurd h

-- a step to any store at a reached place is one to some store
some_store : (s : Store) (m t : Term) → Reached (Somehow s) m t → (s' : Store) × Steps s s' m t
some_store s m t h = reached_lifted (Somehow s) (λ a b. (s' : Store) × Steps s s' a b) (λ a b g. (g.0, inl g.1)) lifted m t h
  where
    lifted : (c : Context) (a b : Term) → (s' : Store) × Steps s s' a b → (s' : Store) × Steps s s' (plug c a) (plug c b)
    lifted c a b g = (g.0, reached_plugged (Computes s g.0) c a b g.1)

pub steps_some : (r : ℕ → ℕ) (f : Store) → IsInjective r → IsFreeOf r f → (s u : Store) (m v : Term) → Steps (beside r s f) u (renamed r m) v
    → (t : Term) × (s' : Store) × Steps s s' m t
steps_some r f inj free s u m v h =
    let k = reached_some r (Somehow s) (Computes (beside r s f) u) (row_some r f inj free s u) m v h in
    let z = some_store s m k.0 k.1 in
    (k.0, z.0, z.1)

pub shows_some : (r : ℕ → ℕ) (i : Imports) (o : Label) (m v : Term) → Reached (OneLabel i o) (renamed r m) v → (t : Term) × Reached (OneLabel i o) m t
shows_some r i o m v h = reached_some r (OneLabel i o) (OneLabel i o) (label_some r i o) m v h
