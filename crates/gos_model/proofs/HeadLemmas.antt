-- What unfolds to a value is a head: it unfolds in one way, and does nothing else.
use Rattle.std.specs.Prelude.{◌≡◌, ◌⊎◌, ℕ}
use Rattle.std.proofs.Common.{arith, sym, ap, subst, inl, inr, ◌∙◌}
use Rattle.gos_types.specs.Types.{Type'}
use Rattle.gos_model.specs.Terms.{Name, Term, Arr, Lam, App, Both, Fst, Snd, Wait}
use Rattle.gos_model.specs.Stores.{Store}
use Rattle.gos_model.specs.Typing.{Imports}
use Rattle.gos_model.specs.Substitution.{instantiate}
use Rattle.gos_model.specs.Reach.{Rel, InIndex, Rewrites, Under, Unfolds}
use Rattle.gos_model.specs.Moves.{Config, Idle, Running, Act, Computing, Showing, ActsTo}

-- a head, which may stand below applications and projections; there is none below a function or a pair
abbrev pub Lower : Term → Term → Type 0
Lower m t = Rewrites m t ⊎ Under Rewrites m t

not_in_lam : (m : Term) (a : Type') (b t : Term) → m ≡ Lam a b → Lower m t → ⊥
not_in_lam m a b t is h = none (subst (λ (x : Term). Lower x t) is h)
  where
    none : Lower (Lam a b) t → ⊥
    none (inl g) = g
    none (inr g) = g

not_in_both : (m a b t : Term) → m ≡ Both a b → Lower m t → ⊥
not_in_both m a b t is h = none (subst (λ (x : Term). Lower x t) is h)
  where
    none : Lower (Both a b) t → ⊥
    none (inl g) = g
    none (inr g) = g

-- it unfolds in one way
pub lower_one : (m t u : Term) → Lower m t → Lower m u → t ≡ u
lower_one (App m n) t u (inl (a, b, em, et)) (inl (c, d, eu, ed)) =
    let both : Lam a b ≡ Lam c d = sym em ∙ eu in
    let body : b ≡ d = cc both in
    et ∙ (ap (λ (x : Term). instantiate x n) body ∙ sym ed)
lower_one (App m n) t u (inl (a, b, em, et)) (inr (m', e, h)) = absurd (not_in_lam m a b m' em h)
lower_one (App m n) t u (inr (m', e, h)) (inl (a, b, em, et)) = absurd (not_in_lam m a b m' em h)
lower_one (App m n) t u (inr (m', e, h)) (inr (m'', f, g)) = e ∙ (ap (λ (x : Term). App x n) (lower_one m m' m'' h g) ∙ sym f)
lower_one (Fst m) t u (inl (n, e)) (inl (b, f)) = let both : Both t n ≡ Both u b = sym e ∙ f in cc both
lower_one (Fst m) t u (inl (n, e)) (inr (m', f, h)) = absurd (not_in_both m t n m' e h)
lower_one (Fst m) t u (inr (m', f, h)) (inl (n, e)) = absurd (not_in_both m u n m' e h)
lower_one (Fst m) t u (inr (m', e, h)) (inr (m'', f, g)) = e ∙ (ap (λ (x : Term). Fst x) (lower_one m m' m'' h g) ∙ sym f)
lower_one (Snd m) t u (inl (n, e)) (inl (b, f)) = let both : Both n t ≡ Both b u = sym e ∙ f in cc both
lower_one (Snd m) t u (inl (n, e)) (inr (m', f, h)) = absurd (not_in_both m n t m' e h)
lower_one (Snd m) t u (inr (m', f, h)) (inl (n, e)) = absurd (not_in_both m n u m' e h)
lower_one (Snd m) t u (inr (m', e, h)) (inr (m'', f, g)) = e ∙ (ap (λ (x : Term). Snd x) (lower_one m m' m'' h g) ∙ sym f)
lower_one m t u (inl h) k = absurd h
lower_one m t u (inr h) k = absurd h

-- nor in the access of a port that waits for its index
not_in_wait : (m : Term) (x : Name) (t : Term) → m ≡ Wait x 0 → Lower m t → ⊥
not_in_wait m x t is h = none (subst (λ (y : Term). Lower y t) is h)
  where
    none : Lower (Wait x 0) t → ⊥
    none (inl g) = g
    none (inr g) = g

-- nor in that of an array of the program's own
not_in_arr : (m : Term) (l : ℕ) (t : Term) → m ≡ Arr l → Lower m t → ⊥
not_in_arr m l t is h = none (subst (λ (y : Term). Lower y t) is h)
  where
    none : Lower (Arr l) t → ⊥
    none (inl g) = g
    none (inr g) = g

pub lower_no_index : (R : Rel) (m t u : Term) → Lower m t → InIndex R m u → ⊥
lower_no_index R (App h n) t u (inl (a, b, em, et)) (inr ((l, e), n', f, rest)) = let bad : Lam a b ≡ Arr l = sym em ∙ e in cc bad
lower_no_index R (App h n) t u (inr (m', f, lower)) (inr ((l, e), n', g, rest)) = not_in_arr h l m' e lower
lower_no_index R (App h (Both k n)) t u (inl (a, b, em, et)) (inl ((x, e), n', f, rest)) = let bad : Lam a b ≡ Wait x 0 = sym em ∙ e in cc bad
lower_no_index R (App h (Both k n)) t u (inr (m', f, lower)) (inl ((x, e), n', g, rest)) = not_in_wait h x m' e lower
lower_no_index R (App h n) t u lower (inl other) = absurd other
lower_no_index R m t u lower h = absurd h

-- a term that unfolds in one way, and does nothing else
pub record IsReady (m n : Term) : Type 0 where
  pub unfolds : Unfolds m n
  pub only : (u : Term) → Unfolds m u → n ≡ u
  pub rests : (i : Imports) (a : Act) (s : Store) (c : Config) → ActsTo i a s m c → ⊥

app_rests : (f x : Term) (i : Imports) (a : Act) (s : Store) (c : Config) → ActsTo i a s (App f x) c → ⊥
app_rests f x i Computing s Idle h = h
app_rests f x i Computing s (Running t u) h = grind (arith, h)
app_rests f x i (Showing o) s Idle h = grind (arith, h)
app_rests f x i (Showing o) s (Running t u) h = grind (arith, h)

fst_rests : (f : Term) (i : Imports) (a : Act) (s : Store) (c : Config) → ActsTo i a s (Fst f) c → ⊥
fst_rests f i Computing s Idle h = h
fst_rests f i Computing s (Running t u) h = grind (arith, h)
fst_rests f i (Showing o) s Idle h = grind (arith, h)
fst_rests f i (Showing o) s (Running t u) h = grind (arith, h)

snd_rests : (f : Term) (i : Imports) (a : Act) (s : Store) (c : Config) → ActsTo i a s (Snd f) c → ⊥
snd_rests f i Computing s Idle h = h
snd_rests f i Computing s (Running t u) h = grind (arith, h)
snd_rests f i (Showing o) s Idle h = grind (arith, h)
snd_rests f i (Showing o) s (Running t u) h = grind (arith, h)

head_rests : (m n : Term) → Lower m n → (i : Imports) (a : Act) (s : Store) (c : Config) → ActsTo i a s m c → ⊥
head_rests (App f x) n h = app_rests f x
head_rests (Fst f) n h = fst_rests f
head_rests (Snd f) n h = snd_rests f
head_rests m n (inl h) = absurd h
head_rests m n (inr h) = absurd h

-- nothing below an application or a projection is reached, but a head
only_head : (m n u : Term) → Lower m n → Unfolds m u → n ≡ u
only_head m n u h (inl (inl other)) = lower_one m n u h other
only_head (App f x) n u h (inl (inr other)) = absurd other
only_head (Fst f) n u h (inl (inr other)) = absurd other
only_head (Snd f) n u h (inl (inr other)) = absurd other
only_head (App f x) n u h (inr other) = absurd other
only_head (Fst f) n u h (inr other) = absurd other
only_head (Snd f) n u h (inr other) = absurd other
only_head m n u (inl h) other = absurd h
only_head m n u (inr h) other = absurd h

pub head_ready : (m n : Term) → Lower m n → IsReady m n
head_ready m n h = record { unfolds = inl (inl h); only = λ u other. only_head m n u h other; rests = head_rests m n h }
