-- Walks: steps of one relation, one after another; and how walks of one relation become walks of another.
use Rattle.std.specs.Prelude.{◌≡◌, ℕ, zero, suc}
use Rattle.std.proofs.Common.{refl, sym, subst}

module _ (D : Type 0) (S : D → D → Type 0) where
  -- a walk of so many steps, and of some
  abbrev pub Walk : ℕ → D → D → Type 0
  Walk zero a b = a ≡ b
  Walk (suc n) a b = (c : D) × S a c × Walk n c b

  abbrev pub Walks : D → D → Type 0
  Walks a b = (n : ℕ) × Walk n a b

  pub stays : (a : D) → Walks a a
  stays a = (0, refl)

  pub goes : (a b : D) → S a b → Walks a b
  goes a b s = (1, (b, s, refl))

  then_walk : (n : ℕ) (a b c : D) → Walk n a b → Walks b c → Walks a c
  then_walk zero a b c e v = subst (λ (x : D). Walks x c) (sym e) v
  then_walk (suc n) a b c (d, s, u) v = let (m, on) = then_walk n d b c u v in (suc m, (d, s, on))

  pub walks_then : (a b c : D) → Walks a b → Walks b c → Walks a c
  walks_then a b c (n, u) v = then_walk n a b c u v

  back_walk : ((a b : D) → S a b → S b a) → (n : ℕ) (a b : D) → Walk n a b → Walks b a
  back_walk turn zero a b e = (0, sym e)
  back_walk turn (suc n) a b (c, s, u) = walks_then b c a (back_walk turn n c b u) (goes c a (turn a c s))

  pub walks_back : ((a b : D) → S a b → S b a) → (a b : D) → Walks a b → Walks b a
  walks_back turn a b (n, u) = back_walk turn n a b u

-- where each step becomes a walk, so does each walk
pub mapped_walk : (D E : Type 0) (S : D → D → Type 0) (T : E → E → Type 0) (f : D → E) → ((a b : D) → S a b → Walks E T (f a) (f b))
    → (n : ℕ) (a b : D) → Walk D S n a b → Walks E T (f a) (f b)
mapped_walk D E S T f step zero a b e = subst (λ (x : D). Walks E T (f a) (f x)) e (stays E T (f a))
mapped_walk D E S T f step (suc n) a b (c, s, u) =
    walks_then E T (f a) (f c) (f b) (step a c s) (mapped_walk D E S T f step n c b u)

-- so too where points only correspond
pub followed_walk : (D E : Type 0) (S : D → D → Type 0) (T : E → E → Type 0) (R : D → E → Type 0)
    → ((a b : D) (x : E) → R a x → S a b → (y : E) × R b y × Walks E T x y)
    → (n : ℕ) (a b : D) (x : E) → R a x → Walk D S n a b → (y : E) × R b y × Walks E T x y
followed_walk D E S T R step zero a b x r e = (x, subst (λ (c : D). R c x) e r, stays E T x)
followed_walk D E S T R step (suc n) a b x r (c, s, u) =
    let (z, at_z, first) = step a c x r s in
    let (y, at_y, rest) = followed_walk D E S T R step n c b z at_z u in
    (y, at_y, walks_then E T x z y first rest)
