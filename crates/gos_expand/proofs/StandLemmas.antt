-- Where the cells of blocks stand, and what holds of each of them.
--
-- Read first: Blocks. A fact of all cells is one of each block, and the other way round.
use Rattle.std.proofs.Common.{◌≡◌, ◌+◌, ◌⊎◌, ℕ, zero, suc, List, [], ◌∷◌, ◌++◌, length, take, slice_get, Some, inl, inr, refl, sym, ap, ap₂, subst, ◌∙◌, zero-add, suc-add, length-append, arith}
use Rattle.std.proofs.lemmas.Option.{none-some, same_Some}
use Rattle.gos_netlist.specs.Nets.{Cell}
use Rattle.gos_expand.specs.Blocks.{blocks, total}

get_right : {A : Type 0} (xs ys : List A) (k : ℕ) → slice_get (xs ++ ys) (length xs + k) ≡ slice_get ys k
get_right [] ys k = ap (λ (n : ℕ). slice_get ys n) (zero-add k)
get_right (x ∷ xs) ys k = ap (λ (n : ℕ). slice_get (x ∷ (xs ++ ys)) n) (suc-add (length xs) k) ∙ get_right xs ys k

get_left : {A : Type 0} (xs ys : List A) (k : ℕ) (x : A) → slice_get xs k ≡ Some x → slice_get (xs ++ ys) k ≡ Some x
get_left [] ys k x h = absurd (none-some x h)
get_left (y ∷ xs) ys zero x h = h
get_left (y ∷ xs) ys (suc k) x h = get_left xs ys k x h

get_either : {A : Type 0} (xs ys : List A) (k : ℕ) (x : A) → slice_get (xs ++ ys) k ≡ Some x
    → (slice_get xs k ≡ Some x) ⊎ ((j : ℕ) × (k ≡ length xs + j) × (slice_get ys j ≡ Some x))
get_either [] ys k x h = inr (k, sym (zero-add k), h)
get_either (y ∷ xs) ys zero x h = inl h
get_either (y ∷ xs) ys (suc k) x h =
    elim (get_either xs ys k x h) [ inl g ↦ inl g | inr g ↦ inr (g.0, omega (arith, g.1), g.2) ]

-- a fact of each cell of a list whose first one is net b
abbrev pub Each : (ℕ → Cell → Type 0) → ℕ → List Cell → Type 0
Each P b cells = (k : ℕ) (c : Cell) → slice_get cells k ≡ Some c → P (b + k) c

pub each_none : (P : ℕ → Cell → Type 0) (b : ℕ) → Each P b []
each_none P b k c h = absurd (none-some c h)

pub each_moved : (P : ℕ → Cell → Type 0) (b b' : ℕ) (xs ys : List Cell) → b ≡ b' → xs ≡ ys → Each P b xs → Each P b' ys
each_moved P b b' xs ys e g h =
    subst (λ (m : ℕ). Each P m ys) e (subst (λ (zs : List Cell). Each P b zs) g h)

pub each_left : (P : ℕ → Cell → Type 0) (b : ℕ) (xs ys : List Cell) → Each P b (xs ++ ys) → Each P b xs
each_left P b xs ys all k c h = all k c (get_left xs ys k c h)

pub each_right : (P : ℕ → Cell → Type 0) (b : ℕ) (xs ys : List Cell) → Each P b (xs ++ ys) → Each P (b + length xs) ys
each_right P b xs ys all k c h =
    let e : b + (length xs + k) ≡ b + length xs + k = omega arith in
    subst (λ (n : ℕ). P n c) e (all (length xs + k) c (get_right xs ys k ∙ h))

pub each_both : (P : ℕ → Cell → Type 0) (b : ℕ) (xs ys : List Cell) → Each P b xs → Each P (b + length xs) ys → Each P b (xs ++ ys)
each_both P b xs ys left right k c h =
    elim (get_either xs ys k c h) [
      | inl g ↦ left k c g
      | inr g ↦ (let e : b + length xs + g.0 ≡ b + k = omega (arith, g.1) in subst (λ (n : ℕ). P n c) e (right g.0 c g.2))
    ]

pub length_blocks : {A : Type 0} (f : ℕ → A → List Cell) (size : ℕ → A → ℕ) → ((m : ℕ) (x : A) → length (f m x) ≡ size m x)
    → (n : ℕ) (xs : List A) → length (blocks f n xs) ≡ total size n xs
length_blocks f size sizes n [] = refl
length_blocks f size sizes n (x ∷ xs) =
    length-append (f n x) (blocks f (suc n) xs)
    ∙ ap₂ (λ (a b : ℕ). a + b) (sizes n x) (length_blocks f size sizes (suc n) xs)

-- what holds of each cell of blocks holds of each cell of one
pub each_block : {A : Type 0} (P : ℕ → Cell → Type 0) (f : ℕ → A → List Cell) (size : ℕ → A → ℕ)
    → ((m : ℕ) (x : A) → length (f m x) ≡ size m x)
    → (b n : ℕ) (xs : List A) (i : ℕ) (x : A) → slice_get xs i ≡ Some x → Each P b (blocks f n xs)
    → Each P (b + total size n (take i xs)) (f (n + i) x)
each_block P f size sizes b n [] i x h all = absurd (none-some x h)
each_block {A} P f size sizes b n (y ∷ ys) zero x h all =
    let e : n ≡ n + 0 = omega arith in
    let same : f n y ≡ f (n + 0) x = ap (λ (m : ℕ). f m y) e ∙ ap (λ (z : A). f (n + 0) z) (same_Some y x h) in
    each_moved P b (b + 0) (f n y) (f (n + 0) x) (omega arith) same (each_left P b (f n y) (blocks f (suc n) ys) all)
each_block P f size sizes b n (y ∷ ys) (suc i) x h all =
    let e : suc n + i ≡ n + suc i = omega arith in
    let behind = each_right P b (f n y) (blocks f (suc n) ys) all in
    let rest = each_block P f size sizes (b + length (f n y)) (suc n) ys i x h behind in
    let count = sizes n y in
    each_moved P (b + length (f n y) + total size (suc n) (take i ys)) (b + (size n y + total size (suc n) (take i ys))) (f (suc n + i) x)
    (f (n + suc i) x) (omega (arith, count)) (ap (λ (m : ℕ). f m x) e) rest

-- what holds of each cell of each block holds of all
pub each_of_blocks : {A : Type 0} (P : ℕ → Cell → Type 0) (f : ℕ → A → List Cell) (size : ℕ → A → ℕ)
    → ((m : ℕ) (x : A) → length (f m x) ≡ size m x)
    → (b n : ℕ) (xs : List A)
    → ((i : ℕ) (x : A) → slice_get xs i ≡ Some x → Each P (b + total size n (take i xs)) (f (n + i) x))
    → Each P b (blocks f n xs)
each_of_blocks P f size sizes b n [] all = each_none P b
each_of_blocks P f size sizes b n (y ∷ ys) all =
    let e : n + 0 ≡ n = omega arith in
    let first = each_moved P (b + 0) b (f (n + 0) y) (f n y) (omega arith) (ap (λ (m : ℕ). f m y) e) (all 0 y refl) in
    let count = sizes n y in
    each_both P b (f n y) (blocks f (suc n) ys) first
    (each_of_blocks P f size sizes (b + length (f n y)) (suc n) ys
    (λ i x h.
    let d : n + suc i ≡ suc n + i = omega arith in
    each_moved P (b + (size n y + total size (suc n) (take i ys))) (b + length (f n y) + total size (suc n) (take i ys)) (f (n + suc i) x)
    (f (suc n + i) x) (omega (arith, count)) (ap (λ (m : ℕ). f m x) d) (all (suc i) x h)))

-- these cells stand among all of them, from net b on
abbrev pub StandAt : List Cell → ℕ → List Cell → Type 0
StandAt all b cells = Each (λ n c. slice_get all n ≡ Some c) b cells

pub all_stand : (cells : List Cell) → StandAt cells 0 cells
all_stand cells k c h = ap (λ (n : ℕ). slice_get cells n) (zero-add k) ∙ h

-- where the blocks begin at 0, and the first one is that of place 0
pub first_moved : (P : ℕ → Cell → Type 0) (b b' : ℕ) (f : ℕ → List Cell) (i : ℕ) → b ≡ b' → Each P b (f (0 + i)) → Each P b' (f i)
first_moved P b b' f i e h = each_moved P b b' (f (0 + i)) (f i) e (ap f (zero-add i)) h

pub first_moved_back : (P : ℕ → Cell → Type 0) (b b' : ℕ) (f : ℕ → List Cell) (i : ℕ) → b ≡ b' → Each P b' (f i) → Each P b (f (0 + i))
first_moved_back P b b' f i e h = each_moved P b' b (f i) (f (0 + i)) (sym e) (sym (ap f (zero-add i))) h
