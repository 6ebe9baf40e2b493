-- Closing a term: closed terms for all its free variables at once.
--
-- An argument that is put in for the innermost variable of a closed term is one more of these terms.
use Rattle.std.specs.Prelude.{◌≡◌, ◌≤◌, ◌<◌, ◌-◌, ℕ, zero, suc, Bool, true, false, List, [], ◌∷◌, length, nat_lt, if◌then◌else◌}
use Rattle.std.proofs.Common.{arith, refl}
use Rattle.std.proofs.lemmas.Bool.Decides.{nat_tests}
use Rattle.std.proofs.lemmas.Bool.{lt-ltb, eq-eqb, ne_eqb}
use Rattle.std.proofs.lemmas.Option.{slice_get_within}
use Rattle.gos_types.specs.Types.{Type', Com, Exp, Var, Pair, Fun}
use Rattle.gos_model.specs.Terms.{Term, Skip, Lit, Bound, Import, Lam, App, Both, Fst, Snd, Seq, Par, If, While, Assign, Deref, New, NewArray, Not, Bin, Loc, Arr, Scope, Wait, Held, Put}
use Rattle.gos_model.specs.Substitution.{put_at}
use Rattle.gos_model.specs.Typing.{Imports, array_type}
use Rattle.gos_programs.specs.results.HasTypes.{Widths, HasType}

-- the term for a variable, or any closed one
abbrev pub chosen : List Term → ℕ → Term
chosen [] n = Skip
chosen (q ∷ qs) zero = q
chosen (q ∷ qs) (suc n) = chosen qs n

-- m with these terms for the variables whose binders stand outside d binders of m
abbrev pub close : ℕ → List Term → Term → Term
close d qs Skip = Skip
close d qs (Lit k w) = Lit k w
close d qs (Bound n) = if nat_lt n d then Bound n else chosen qs (n - d)
close d qs (Import x) = Import x
close d qs (Lam a m) = Lam a (close (suc d) qs m)
close d qs (App m n) = App (close d qs m) (close d qs n)
close d qs (Both m n) = Both (close d qs m) (close d qs n)
close d qs (Fst m) = Fst (close d qs m)
close d qs (Snd m) = Snd (close d qs m)
close d qs (Seq m n) = Seq (close d qs m) (close d qs n)
close d qs (Par m n) = Par (close d qs m) (close d qs n)
close d qs (If m n p) = If (close d qs m) (close d qs n) (close d qs p)
close d qs (While m n) = While (close d qs m) (close d qs n)
close d qs (Assign m n) = Assign (close d qs m) (close d qs n)
close d qs (Deref m) = Deref (close d qs m)
close d qs (New w m) = New w (close (suc d) qs m)
close d qs (NewArray n w m) = NewArray n w (close (suc d) qs m)
close d qs (Not m) = Not (close d qs m)
close d qs (Bin op m n) = Bin op (close d qs m) (close d qs n)
close d qs (Loc l) = Loc l
close d qs (Arr l) = Arr l
close d qs (Scope l m) = Scope l (close d qs m)
close d qs (Wait x s) = Wait x s
close d qs (Held k op m) = Held k op (close d qs m)
close d qs (Put m k) = Put (close d qs m) k

-- nothing is put in for a variable of it
abbrev pub IsClosed : Term → Type 0
IsClosed m = (d : ℕ) (q : Term) → put_at d q m ≡ m

abbrev pub AllClosed : List Term → Type 0
AllClosed [] = Unit {0}
AllClosed (q ∷ qs) = IsClosed q × AllClosed qs

chosen_closed : (qs : List Term) → AllClosed qs → (n : ℕ) → IsClosed (chosen qs n)
chosen_closed [] h n = λ d q. refl
chosen_closed (q ∷ qs) h zero = h.0
chosen_closed (q ∷ qs) h (suc n) = chosen_closed qs h.1 n

-- a number is below another one, or it isn't
below_cases : {P : Type 0} (n d : ℕ) → (n < d → nat_lt n d ≡ true → P) → (d ≤ n → nat_lt n d ≡ false → P) → P
below_cases {P} n d less more = tested (nat_lt n d) refl
  where
    tested : (b : Bool) → nat_lt n d ≡ b → P
    tested true e = less (grind (arith, nat_tests)) e
    tested false e = more (grind (arith, nat_tests)) e

stays_bound : (n : ℕ) (qs : List Term) → AllClosed qs → (d e : ℕ) (q : Term) → d ≤ e → put_at e q (close d qs (Bound n)) ≡ close d qs (Bound n)
stays_bound n qs h d e q le =
    below_cases n d
    (λ less yes. rw yes (rw (ne_eqb n e (λ same. omega (arith, less, le, same))) refl))
    (λ more no. rw no (chosen_closed qs h (n - d) e q))

-- a closed term stays as it is
pub stays : (m : Term) (qs : List Term) → AllClosed qs → (d e : ℕ) (q : Term) → d ≤ e → put_at e q (close d qs m) ≡ close d qs m
stays Skip qs h d e q le = refl
stays (Lit k w) qs h d e q le = refl
stays (Bound n) qs h d e q le = stays_bound n qs h d e q le
stays (Import x) qs h d e q le = refl
stays (Lam a m) qs h d e q le = λ i. Lam a (stays m qs h (suc d) (suc e) q (omega (arith, le)) i)
stays (App m n) qs h d e q le = λ i. App (stays m qs h d e q le i) (stays n qs h d e q le i)
stays (Both m n) qs h d e q le = λ i. Both (stays m qs h d e q le i) (stays n qs h d e q le i)
stays (Fst m) qs h d e q le = λ i. Fst (stays m qs h d e q le i)
stays (Snd m) qs h d e q le = λ i. Snd (stays m qs h d e q le i)
stays (Seq m n) qs h d e q le = λ i. Seq (stays m qs h d e q le i) (stays n qs h d e q le i)
stays (Par m n) qs h d e q le = λ i. Par (stays m qs h d e q le i) (stays n qs h d e q le i)
stays (If m n p) qs h d e q le = λ i. If (stays m qs h d e q le i) (stays n qs h d e q le i) (stays p qs h d e q le i)
stays (While m n) qs h d e q le = λ i. While (stays m qs h d e q le i) (stays n qs h d e q le i)
stays (Assign m n) qs h d e q le = λ i. Assign (stays m qs h d e q le i) (stays n qs h d e q le i)
stays (Deref m) qs h d e q le = λ i. Deref (stays m qs h d e q le i)
stays (New w m) qs h d e q le = λ i. New w (stays m qs h (suc d) (suc e) q (omega (arith, le)) i)
stays (NewArray n w m) qs h d e q le = λ i. NewArray n w (stays m qs h (suc d) (suc e) q (omega (arith, le)) i)
stays (Not m) qs h d e q le = λ i. Not (stays m qs h d e q le i)
stays (Bin op m n) qs h d e q le = λ i. Bin op (stays m qs h d e q le i) (stays n qs h d e q le i)
stays (Loc l) qs h d e q le = refl
stays (Arr l) qs h d e q le = refl
stays (Scope l m) qs h d e q le = λ i. Scope l (stays m qs h d e q le i)
stays (Wait x s) qs h d e q le = refl
stays (Held k op m) qs h d e q le = λ i. Held k op (stays m qs h d e q le i)
stays (Put m k) qs h d e q le = λ i. Put (stays m qs h d e q le i) k

put_bound : (n : ℕ) (qs : List Term) → AllClosed qs → (d : ℕ) (q : Term) → put_at d q (close (suc d) qs (Bound n)) ≡ close d (q ∷ qs) (Bound n)
put_bound n qs h d q =
    below_cases n d
    (λ less yes. rw yes (rw (lt-ltb n (suc d) (omega (arith, less))) (rw (ne_eqb n d (λ same. omega (arith, less, same))) refl)))
    (λ more no.
    rw no
    (below_cases n (suc d)
    (λ less yes.
    let same : n ≡ d = omega (arith, less, more) in
    let none : n - d ≡ 0 = omega (arith, less, more) in
    rw yes (rw (eq-eqb n d same) (rw none refl)))
    (λ past not_yet.
    let rest : n - d ≡ suc (n - suc d) = omega (arith, past) in
    rw not_yet (rw rest (chosen_closed qs h (n - suc d) d q)))))

-- what is put in for the innermost variable is one more of the terms
pub put_closes : (m : Term) (qs : List Term) → AllClosed qs → (d : ℕ) (q : Term) → put_at d q (close (suc d) qs m) ≡ close d (q ∷ qs) m
put_closes Skip qs h d q = refl
put_closes (Lit k w) qs h d q = refl
put_closes (Bound n) qs h d q = put_bound n qs h d q
put_closes (Import x) qs h d q = refl
put_closes (Lam a m) qs h d q = λ i. Lam a (put_closes m qs h (suc d) q i)
put_closes (App m n) qs h d q = λ i. App (put_closes m qs h d q i) (put_closes n qs h d q i)
put_closes (Both m n) qs h d q = λ i. Both (put_closes m qs h d q i) (put_closes n qs h d q i)
put_closes (Fst m) qs h d q = λ i. Fst (put_closes m qs h d q i)
put_closes (Snd m) qs h d q = λ i. Snd (put_closes m qs h d q i)
put_closes (Seq m n) qs h d q = λ i. Seq (put_closes m qs h d q i) (put_closes n qs h d q i)
put_closes (Par m n) qs h d q = λ i. Par (put_closes m qs h d q i) (put_closes n qs h d q i)
put_closes (If m n p) qs h d q = λ i. If (put_closes m qs h d q i) (put_closes n qs h d q i) (put_closes p qs h d q i)
put_closes (While m n) qs h d q = λ i. While (put_closes m qs h d q i) (put_closes n qs h d q i)
put_closes (Assign m n) qs h d q = λ i. Assign (put_closes m qs h d q i) (put_closes n qs h d q i)
put_closes (Deref m) qs h d q = λ i. Deref (put_closes m qs h d q i)
put_closes (New w m) qs h d q = λ i. New w (put_closes m qs h (suc d) q i)
put_closes (NewArray n w m) qs h d q = λ i. NewArray n w (put_closes m qs h (suc d) q i)
put_closes (Not m) qs h d q = λ i. Not (put_closes m qs h d q i)
put_closes (Bin op m n) qs h d q = λ i. Bin op (put_closes m qs h d q i) (put_closes n qs h d q i)
put_closes (Loc l) qs h d q = refl
put_closes (Arr l) qs h d q = refl
put_closes (Scope l m) qs h d q = λ i. Scope l (put_closes m qs h d q i)
put_closes (Wait x s) qs h d q = refl
put_closes (Held k op m) qs h d q = λ i. Held k op (put_closes m qs h d q i)
put_closes (Put m k) qs h d q = λ i. Put (put_closes m qs h d q i) k

-- a term without free variables is closed by nothing
pub closed_by_none : (ws : Widths) (i : Imports) (g : List Type') (m : Term) (t : Type') → HasType ws i g m t → close (length g) [] m ≡ m
closed_by_none ws i g Skip t h = refl
closed_by_none ws i g (Lit k w) t h = refl
closed_by_none ws i g (Bound n) t h = rw (lt-ltb n (length g) (slice_get_within g n t h)) refl
closed_by_none ws i g (Import x) t h = refl
closed_by_none ws i g (Lam a m) t (b, e, h) = λ j. Lam a (closed_by_none ws i (a ∷ g) m b h j)
closed_by_none ws i g (App m n) t (a, h, k) = λ j. App (closed_by_none ws i g m (Fun a t) h j) (closed_by_none ws i g n a k j)
closed_by_none ws i g (Both m n) t (a, b, e, h, k) = λ j. Both (closed_by_none ws i g m a h j) (closed_by_none ws i g n b k j)
closed_by_none ws i g (Fst m) t (b, h) = λ j. Fst (closed_by_none ws i g m (Pair t b) h j)
closed_by_none ws i g (Snd m) t (a, h) = λ j. Snd (closed_by_none ws i g m (Pair a t) h j)
closed_by_none ws i g (Seq m n) t (d, h, k) = λ j. Seq (closed_by_none ws i g m Com h j) (closed_by_none ws i g n t k j)
closed_by_none ws i g (Par m n) t (e, h, k) = λ j. Par (closed_by_none ws i g m Com h j) (closed_by_none ws i g n Com k j)
closed_by_none ws i g (If m n p) t (d, h, k, l) = λ j. If (closed_by_none ws i g m (Exp 1) h j) (closed_by_none ws i g n t k j) (closed_by_none ws i g p t l j)
closed_by_none ws i g (While m n) t (e, h, k) = λ j. While (closed_by_none ws i g m (Exp 1) h j) (closed_by_none ws i g n Com k j)
closed_by_none ws i g (Assign m n) t (w, e, h, k) = λ j. Assign (closed_by_none ws i g m (Var w) h j) (closed_by_none ws i g n (Exp w) k j)
closed_by_none ws i g (Deref m) t (w, e, h) = λ j. Deref (closed_by_none ws i g m (Var w) h j)
closed_by_none ws i g (New w m) t (d, h) = λ j. New w (closed_by_none ws i (Var w ∷ g) m t h j)
closed_by_none ws i g (NewArray n w m) t (d, long, h) = λ j. NewArray n w (closed_by_none ws i (array_type n w ∷ g) m t h j)
closed_by_none ws i g (Not m) t (w, e, h) = λ j. Not (closed_by_none ws i g m (Exp w) h j)
closed_by_none ws i g (Bin op m n) t (w, e, h, k) = λ j. Bin op (closed_by_none ws i g m (Exp w) h j) (closed_by_none ws i g n (Exp w) k j)
closed_by_none ws i g (Loc l) t h = refl
closed_by_none ws i g (Arr l) t h = refl
closed_by_none ws i g (Scope l m) t (d, h) = λ j. Scope l (closed_by_none ws i g m t h j)
closed_by_none ws i g (Wait x s) t h = refl
closed_by_none ws i g (Held k op m) t (w, e, fits, h) = λ j. Held k op (closed_by_none ws i g m (Exp w) h j)
closed_by_none ws i g (Put m k) t (w, e, fits, h) = λ j. Put (closed_by_none ws i g m (Var w) h j) k
