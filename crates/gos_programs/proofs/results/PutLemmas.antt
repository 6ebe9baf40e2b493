-- Putting a term in for a variable of its type keeps types, and so do unfoldings.
use Rattle.std.specs.Prelude.{◌≡◌, ◌≢◌, ℕ, zero, suc, List, [], ◌∷◌, Some, None, slice_get, nat_eq, if◌then◌else◌}
use Rattle.std.proofs.Common.{arith, refl, sym, ap, subst, inl, inr}
use Rattle.std.proofs.lemmas.Bool.{cond-true, cond-false}
use Rattle.gos_types.specs.Types.{Type', Com, Exp, Var, Pair, Fun}
use Rattle.gos_model.specs.Terms.{Term, Skip, Lit, Bound, Import, Lam, App, Both, Fst, Snd, Seq, Par, If, While, Assign, Deref, New, Not, Bin, Loc, Scope, Wait, Held, Put, Arr, NewArray}
use Rattle.gos_model.specs.Substitution.{put_at, instantiate}
use Rattle.gos_model.specs.Typing.{Imports, array_type}
use Rattle.gos_model.specs.Reach.{Rel, Rewrites, Under, Aside}
use Rattle.gos_model.specs.Moves.{Unfoldings}
use Rattle.gos_model.proofs.NumberLemmas.{number_cases}
use Rattle.gos_programs.specs.contexts.Contexts.{Context, SeqFirst, ParLeft, ParRight, IfTest, BinLeft, HeldRight, NotOf, AssignRight, ScopeBody, ReadIndex, WriteIndex, plug, ReadAt, WriteAt}
use Rattle.gos_programs.proofs.contexts.ReachedLemmas.{reached_lifted}
use Rattle.gos_programs.proofs.contexts.BackwardLemmas.{OneHead}
use Rattle.gos_programs.specs.results.HasTypes.{Widths, HasType}
use Rattle.gos_programs.proofs.results.TypeLemmas.{widened}

-- the binders h are those of g with one more, of type a, outside d of them
pub record Puts (d : ℕ) (h g : List Type') (a : Type') : Type 0 where
  pub here : (n : ℕ) (t : Type') → n ≡ d → slice_get h n ≡ Some t → t ≡ a
  pub other : (n : ℕ) (t : Type') → n ≢ d → slice_get h n ≡ Some t → slice_get g n ≡ Some t

puts_under : (d : ℕ) (h g : List Type') (a b : Type') → Puts d h g a → Puts (suc d) (b ∷ h) (b ∷ g) a
puts_under d h g a b p = record { here = here; other = other }
  where
    here : (n : ℕ) (t : Type') → n ≡ suc d → slice_get (b ∷ h) n ≡ Some t → t ≡ a
    here zero t e x = absurd (omega (arith, e))
    here (suc n) t e x = p.here n t (omega (arith, e)) x

    other : (n : ℕ) (t : Type') → n ≢ suc d → slice_get (b ∷ h) n ≡ Some t → slice_get (b ∷ g) n ≡ Some t
    other zero t e x = x
    other (suc n) t e x = p.other n t (λ y. e (ap suc y)) x

put_bound : (ws : Widths) (i : Imports) (d : ℕ) (h g : List Type') (a : Type') (q : Term) (n : ℕ) (t : Type')
    → Puts d h g a → HasType ws i [] q a → slice_get h n ≡ Some t → HasType ws i g (if nat_eq n d then q else Bound n) t
put_bound ws i d h g a q n t p k e =
    number_cases n d
    (λ same yes.
    subst (λ (x : Term). HasType ws i g x t) (sym (cond-true (nat_eq n d) q (Bound n) yes))
    (subst (λ (x : Type'). HasType ws i g q x) (sym (p.here n t same e)) (widened ws ws i (λ l n w x. x) q [] g a (λ j u x. absurd (none_some u x)) k)))
    (λ other no. subst (λ (x : Term). HasType ws i g x t) (sym (cond-false (nat_eq n d) q (Bound n) no)) (p.other n t other e))
  where
    none_some : (u : Type') → None ≡ Some u → ⊥
    none_some u x = cc x

pub put_typed : (ws : Widths) (i : Imports) (m : Term) (d : ℕ) (h g : List Type') (a : Type') (q : Term) (t : Type')
    → Puts d h g a → HasType ws i [] q a → HasType ws i h m t → HasType ws i g (put_at d q m) t
put_typed ws i Skip d h g a q t p k l = l
put_typed ws i (Lit j w) d h g a q t p k l = l
put_typed ws i (Bound n) d h g a q t p k l = put_bound ws i d h g a q n t p k l
put_typed ws i (Import x) d h g a q t p k l = l
put_typed ws i (Lam b m) d h g a q t p k (c, e, l) =
    (c, e, put_typed ws i m (suc d) (b ∷ h) (b ∷ g) a q c (puts_under d h g a b p) k l)
put_typed ws i (App m n) d h g a q t p k (c, l, o) = (c, put_typed ws i m d h g a q (Fun c t) p k l, put_typed ws i n d h g a q c p k o)
put_typed ws i (Both m n) d h g a q t p k (b, c, e, l, o) = (b, c, e, put_typed ws i m d h g a q b p k l, put_typed ws i n d h g a q c p k o)
put_typed ws i (Fst m) d h g a q t p k (c, l) = (c, put_typed ws i m d h g a q (Pair t c) p k l)
put_typed ws i (Snd m) d h g a q t p k (c, l) = (c, put_typed ws i m d h g a q (Pair c t) p k l)
put_typed ws i (Seq m n) d h g a q t p k (e, l, o) = (e, put_typed ws i m d h g a q Com p k l, put_typed ws i n d h g a q t p k o)
put_typed ws i (Par m n) d h g a q t p k (e, l, o) = (e, put_typed ws i m d h g a q Com p k l, put_typed ws i n d h g a q Com p k o)
put_typed ws i (If m n r) d h g a q t p k (e, l, o, u) =
    (e, put_typed ws i m d h g a q (Exp 1) p k l, put_typed ws i n d h g a q t p k o, put_typed ws i r d h g a q t p k u)
put_typed ws i (While m n) d h g a q t p k (e, l, o) =
    (e, put_typed ws i m d h g a q (Exp 1) p k l, put_typed ws i n d h g a q Com p k o)
put_typed ws i (Assign m n) d h g a q t p k (w, e, l, o) =
    (w, e, put_typed ws i m d h g a q (Var w) p k l, put_typed ws i n d h g a q (Exp w) p k o)
put_typed ws i (Deref m) d h g a q t p k (w, e, l) = (w, e, put_typed ws i m d h g a q (Var w) p k l)
put_typed ws i (New w m) d h g a q t p k (e, l) =
    (e, put_typed ws i m (suc d) (Var w ∷ h) (Var w ∷ g) a q t (puts_under d h g a (Var w) p) k l)
put_typed ws i (NewArray n w m) d h g a q t p k (e, some, l) =
    (e, some, put_typed ws i m (suc d) (array_type n w ∷ h) (array_type n w ∷ g) a q t (puts_under d h g a (array_type n w) p) k l)
put_typed ws i (Not m) d h g a q t p k (w, e, l) = (w, e, put_typed ws i m d h g a q (Exp w) p k l)
put_typed ws i (Bin op m n) d h g a q t p k (w, e, l, o) =
    (w, e, put_typed ws i m d h g a q (Exp w) p k l, put_typed ws i n d h g a q (Exp w) p k o)
put_typed ws i (Loc x) d h g a q t p k l = l
put_typed ws i (Arr x) d h g a q t p k l = l
put_typed ws i (Scope x m) d h g a q t p k (e, l) = (e, put_typed ws i m d h g a q t p k l)
put_typed ws i (Wait x s) d h g a q t p k l = l
put_typed ws i (Held j op n) d h g a q t p k (w, e, fits, l) = (w, e, fits, put_typed ws i n d h g a q (Exp w) p k l)
put_typed ws i (Put m j) d h g a q t p k (w, e, fits, l) = (w, e, fits, put_typed ws i m d h g a q (Var w) p k l)

puts_first : (a : Type') → Puts 0 (a ∷ []) [] a
puts_first a = record { here = here; other = other }
  where
    here : (n : ℕ) (t : Type') → n ≡ 0 → slice_get (a ∷ []) n ≡ Some t → t ≡ a
    here zero t e x = cc (sym x)
    here (suc n) t e x = absurd (omega (arith, e))

    other : (n : ℕ) (t : Type') → n ≢ 0 → slice_get (a ∷ []) n ≡ Some t → slice_get [] n ≡ Some t
    other zero t e x = absurd (e refl)
    other (suc n) t e x = x

-- a closed term for the one variable
pub instantiate_typed : (ws : Widths) (i : Imports) (m q : Term) (a t : Type')
    → HasType ws i (a ∷ []) m t → HasType ws i [] q a → HasType ws i [] (instantiate m q) t
instantiate_typed ws i m q a t h k = put_typed ws i m 0 (a ∷ []) [] a q t (puts_first a) k h

-- a change keeps the types that a closed term has
abbrev pub KeepsType : Widths → Imports → Rel
KeepsType ws i a b = (t : Type') → HasType ws i [] a t → HasType ws i [] b t

pub keeps_in : (ws : Widths) (i : Imports) (c : Context) (a b : Term) → KeepsType ws i a b → KeepsType ws i (plug c a) (plug c b)
keeps_in ws i (SeqFirst n) a b q t (d, h, k) = (d, q Com h, k)
keeps_in ws i (ParLeft n) a b q t (e, h, k) = (e, q Com h, k)
keeps_in ws i (ParRight n) a b q t (e, h, k) = (e, h, q Com k)
keeps_in ws i (IfTest n p) a b q t (d, h, k, l) = (d, q (Exp 1) h, k, l)
keeps_in ws i (BinLeft op n) a b q t (w, e, h, k) = (w, e, q (Exp w) h, k)
keeps_in ws i (HeldRight n op) a b q t (w, e, f, h) = (w, e, f, q (Exp w) h)
keeps_in ws i NotOf a b q t (w, e, h) = (w, e, q (Exp w) h)
keeps_in ws i (AssignRight n) a b q t (w, e, h, k) = (w, e, h, q (Exp w) k)
keeps_in ws i (ScopeBody l) a b q t (d, h) = (d, q t h)
keeps_in ws i (ReadIndex x n) a b q t (w, e, (c, h, (u, v, pair, k, l))) = (w, e, (c, h, (u, v, pair, k, q v l)))
keeps_in ws i (WriteIndex x n j) a b q t (w, e, f, (c, h, (u, v, pair, k, l))) = (w, e, f, (c, h, (u, v, pair, k, q v l)))
keeps_in ws i (ReadAt x) a b q t (w, e, (c, h, k)) = (w, e, (c, h, q c k))
keeps_in ws i (WriteAt x j) a b q t (w, e, f, (c, h, k)) = (w, e, f, (c, h, q c k))

-- heads
function_sides : (a b c d : Type') → Fun a b ≡ Fun c d → (a ≡ c) × (b ≡ d)
function_sides a b c d e = (cc, cc)

pair_sides : (a b c d : Type') → Pair a b ≡ Pair c d → (a ≡ c) × (b ≡ d)
pair_sides a b c d e = (cc, cc)

applied : (ws : Widths) (i : Imports) (a : Type') (b n : Term) (c t : Type')
    → HasType ws i [] (Lam a b) (Fun c t) → HasType ws i [] n c → HasType ws i [] (instantiate b n) t
applied ws i a b n c t (d, e, h) k =
    let sides = function_sides c t a d e in
    instantiate_typed ws i b n a t
    (subst (λ (x : Type'). HasType ws i (a ∷ []) b x) (sym sides.1) h)
    (subst (λ (x : Type'). HasType ws i [] n x) sides.0 k)

rewrite_typed : (ws : Widths) (i : Imports) (m u : Term) → Rewrites m u → KeepsType ws i m u
rewrite_typed ws i (App m n) u (a, b, em, eu) t (c, h, k) =
    subst (λ (x : Term). HasType ws i [] x t) (sym eu)
    (applied ws i a b n c t (subst (λ (x : Term). HasType ws i [] x (Fun c t)) em h) k)
rewrite_typed ws i (Fst m) u (n, e) t (b, h) =
    let both : HasType ws i [] (Both u n) (Pair t b) = subst (λ (x : Term). HasType ws i [] x (Pair t b)) e h in
    subst (λ (x : Type'). HasType ws i [] u x) (sym (pair_sides t b both.0 both.1 both.2).0) both.3
rewrite_typed ws i (Snd m) u (n, e) t (a, h) =
    let both : HasType ws i [] (Both n u) (Pair a t) = subst (λ (x : Term). HasType ws i [] x (Pair a t)) e h in
    subst (λ (x : Type'). HasType ws i [] u x) (sym (pair_sides a t both.0 both.1 both.2).1) both.4
rewrite_typed ws i m u h t k = absurd h

under_typed : (ws : Widths) (i : Imports) (m u : Term) → Under Rewrites m u → KeepsType ws i m u
under_typed ws i (App m n) u (m', e, inl h) t (a, k, l) =
    subst (λ (x : Term). HasType ws i [] x t) (sym e) (a, rewrite_typed ws i m m' h (Fun a t) k, l)
under_typed ws i (App m n) u (m', e, inr h) t (a, k, l) =
    subst (λ (x : Term). HasType ws i [] x t) (sym e) (a, under_typed ws i m m' h (Fun a t) k, l)
under_typed ws i (Fst m) u (m', e, inl h) t (b, k) =
    subst (λ (x : Term). HasType ws i [] x t) (sym e) (b, rewrite_typed ws i m m' h (Pair t b) k)
under_typed ws i (Fst m) u (m', e, inr h) t (b, k) =
    subst (λ (x : Term). HasType ws i [] x t) (sym e) (b, under_typed ws i m m' h (Pair t b) k)
under_typed ws i (Snd m) u (m', e, inl h) t (a, k) =
    subst (λ (x : Term). HasType ws i [] x t) (sym e) (a, rewrite_typed ws i m m' h (Pair a t) k)
under_typed ws i (Snd m) u (m', e, inr h) t (a, k) =
    subst (λ (x : Term). HasType ws i [] x t) (sym e) (a, under_typed ws i m m' h (Pair a t) k)
under_typed ws i m u h t k = absurd h

aside_typed : (ws : Widths) (i : Imports) (m u : Term) → Aside Rewrites m u → KeepsType ws i m u
aside_typed ws i (Put m j) u (m', e, inl h) t (w, c, f, k) =
    subst (λ (x : Term). HasType ws i [] x t) (sym e) (w, c, f, rewrite_typed ws i m m' h (Var w) k)
aside_typed ws i (Put m j) u (m', e, inr h) t (w, c, f, k) =
    subst (λ (x : Term). HasType ws i [] x t) (sym e) (w, c, f, under_typed ws i m m' h (Var w) k)
aside_typed ws i (Deref m) u (m', e, inl h) t (w, c, k) =
    subst (λ (x : Term). HasType ws i [] x t) (sym e) (w, c, rewrite_typed ws i m m' h (Var w) k)
aside_typed ws i (Deref m) u (m', e, inr h) t (w, c, k) =
    subst (λ (x : Term). HasType ws i [] x t) (sym e) (w, c, under_typed ws i m m' h (Var w) k)
aside_typed ws i m u h t k = absurd h

head_typed : (ws : Widths) (i : Imports) (m u : Term) → OneHead m u → KeepsType ws i m u
head_typed ws i m u (inl (inl h)) = rewrite_typed ws i m u h
head_typed ws i m u (inl (inr h)) = under_typed ws i m u h
head_typed ws i m u (inr h) = aside_typed ws i m u h

pub unfoldings_typed : (ws : Widths) (i : Imports) (n : ℕ) (m u : Term) → Unfoldings n m u → KeepsType ws i m u
unfoldings_typed ws i zero m u h t k = subst (λ (x : Term). HasType ws i [] x t) h k
unfoldings_typed ws i (suc n) m u (v, h, hs) t k =
    unfoldings_typed ws i n v u hs t (reached_lifted OneHead (KeepsType ws i) (head_typed ws i) (keeps_in ws i) m v h t k)
