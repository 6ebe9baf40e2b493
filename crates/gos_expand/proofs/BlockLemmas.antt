-- Blocks of cells, their sizes and their starts, taken one at a time.
use Rattle.std.specs.Prelude.{Some}
use Rattle.std.proofs.Common.{◌≡◌, ℕ, zero, suc, ◌+◌, ◌<◌, ◌≤◌, List, [], ◌∷◌, ◌++◌, length, map, take, slice_get, get_or, subst, refl, sym, ap, arith, ◌∙◌, append_assoc}
use Rattle.std.proofs.lemmas.List.{length-append}
use Rattle.std.proofs.lemmas.Option.{slice_get_read}
use Rattle.gos_netlist.specs.Nets.{Cell}
use Rattle.gos_expand.specs.Blocks.{blocks, total}
use Rattle.gos_expand.specs.inner.Numbering.{starts}

up : (i : ℕ) → i + 1 ≡ suc i
up i = omega arith

here : (n : ℕ) → n + 0 ≡ n
here n = omega arith

shift : (n i : ℕ) → suc n + i ≡ n + suc i
shift n i = omega arith

-- an element of a list, seen by a function, and the first elements with one more
pub there_mapped : {A B : Type 0} (f : A → B) (i : ℕ) (xs : List A) (x : A) → slice_get xs i ≡ Some x → slice_get (map f xs) i ≡ Some (f x)
there_mapped f i [] x e = absurd (cc e)
there_mapped f zero (y ∷ ys) x e = let is : y ≡ x = cc e in rw is refl
there_mapped f (suc i) (y ∷ ys) x e = there_mapped f i ys x e

pub item_mapped : {A B : Type 0} (f : A → B) (i : ℕ) (xs ys : List A) (x : A) → xs ≡ ys → i < length xs → x ≡ get_or xs i x → slice_get (map f ys) i ≡ Some (f x)
item_mapped {A} f i xs ys x same within is =
    there_mapped f i ys x (subst (λ (zs : List A). slice_get zs i ≡ Some x) same (slice_get_read xs (length xs) i x refl within is))

take_suc : {A : Type 0} (i : ℕ) (xs : List A) (x : A) → slice_get xs i ≡ Some x → take (suc i) xs ≡ take i xs ++ x ∷ []
take_suc i [] x e = absurd (cc e)
take_suc zero (y ∷ ys) x e = let is : y ≡ x = cc e in rw is refl
take_suc {A} (suc i) (y ∷ ys) x e = ap (λ (zs : List A). y ∷ zs) (take_suc i ys x e)

pub take_one : {A : Type 0} (i : ℕ) (xs : List A) (x : A) → slice_get xs i ≡ Some x → take (i + 1) xs ≡ take i xs ++ x ∷ []
take_one i xs x e = ap (λ (m : ℕ). take m xs) (up i) ∙ take_suc i xs x e

-- with one element more
pub total_suc : {A : Type 0} (f : ℕ → A → ℕ) (n i : ℕ) (xs : List A) (x : A) → slice_get xs i ≡ Some x
    → total f n (take (suc i) xs) ≡ total f n (take i xs) + f (n + i) x
total_suc f n i [] x e = absurd (cc e)
total_suc f n zero (y ∷ ys) x e = let is : y ≡ x = cc e in rw (is, here n) (omega arith)
total_suc f n (suc i) (y ∷ ys) x e =
    let rest : total f (suc n) (take (suc i) ys) ≡ total f (suc n) (take i ys) + f (n + suc i) x =
    total_suc f (suc n) i ys x e ∙ ap (λ (m : ℕ). total f (suc n) (take i ys) + f m x) (shift n i) in
    omega (arith, rest)

pub total_more : {A : Type 0} (f : ℕ → A → ℕ) (n i : ℕ) (xs : List A) (x : A) → slice_get xs i ≡ Some x
    → total f n (take (i + 1) xs) ≡ total f n (take i xs) + f (n + i) x
total_more f n i xs x e = ap (λ (m : ℕ). total f n (take m xs)) (up i) ∙ total_suc f n i xs x e

append_nil : (cs : List Cell) → cs ++ [] ≡ cs
append_nil [] = refl
append_nil (c ∷ cs) = ap (λ (ds : List Cell). c ∷ ds) (append_nil cs)

blocks_suc : {A : Type 0} (f : ℕ → A → List Cell) (n i : ℕ) (xs : List A) (x : A) → slice_get xs i ≡ Some x
    → blocks f n (take (suc i) xs) ≡ blocks f n (take i xs) ++ f (n + i) x
blocks_suc f n i [] x e = absurd (cc e)
blocks_suc f n zero (y ∷ ys) x e = let is : y ≡ x = cc e in rw (is, here n) (append_nil (f n x))
blocks_suc f n (suc i) (y ∷ ys) x e =
    let rest : blocks f (suc n) (take (suc i) ys) ≡ blocks f (suc n) (take i ys) ++ f (n + suc i) x =
    blocks_suc f (suc n) i ys x e ∙ ap (λ (m : ℕ). blocks f (suc n) (take i ys) ++ f m x) (shift n i) in
    ap (λ (cs : List Cell). f n y ++ cs) rest ∙ sym (append_assoc (f n y) (blocks f (suc n) (take i ys)) (f (n + suc i) x))

pub blocks_more : {A : Type 0} (f : ℕ → A → List Cell) (n i : ℕ) (xs : List A) (x : A) → slice_get xs i ≡ Some x
    → blocks f n (take (i + 1) xs) ≡ blocks f n (take i xs) ++ f (n + i) x
blocks_more f n i xs x e = ap (λ (m : ℕ). blocks f n (take m xs)) (up i) ∙ blocks_suc f n i xs x e

starts_suc : {A : Type 0} (f : ℕ → A → ℕ) (k n i : ℕ) (xs : List A) (x : A) → slice_get xs i ≡ Some x
    → starts f k n (take (suc i) xs) ≡ starts f k n (take i xs) ++ (n + total f k (take i xs)) ∷ []
starts_suc f k n i [] x e = absurd (cc e)
starts_suc f k n zero (y ∷ ys) x e = rw (here n) refl
starts_suc f k n (suc i) (y ∷ ys) x e =
    let sum : n + f k y + total f (suc k) (take i ys) ≡ n + (f k y + total f (suc k) (take i ys)) = omega arith in
    ap (λ (ns : List ℕ). n ∷ ns)
    (starts_suc f (suc k) (n + f k y) i ys x e ∙ ap (λ (m : ℕ). starts f (suc k) (n + f k y) (take i ys) ++ m ∷ []) sum)

pub starts_more : {A : Type 0} (f : ℕ → A → ℕ) (k n i : ℕ) (xs : List A) (x : A) → slice_get xs i ≡ Some x
    → starts f k n (take (i + 1) xs) ≡ starts f k n (take i xs) ++ (n + total f k (take i xs)) ∷ []
starts_more f k n i xs x e = ap (λ (m : ℕ). starts f k n (take m xs)) (up i) ∙ starts_suc f k n i xs x e

-- each start is that of its element
pub start_of : {A : Type 0} (f : ℕ → A → ℕ) (k n i : ℕ) (xs : List A) (x : A) → slice_get xs i ≡ Some x
    → slice_get (starts f k n xs) i ≡ Some (n + total f k (take i xs))
start_of f k n i [] x e = absurd (cc e)
start_of f k n zero (y ∷ ys) x e = rw (here n) refl
start_of f k n (suc i) (y ∷ ys) x e =
    let sum : n + f k y + total f (suc k) (take i ys) ≡ n + (f k y + total f (suc k) (take i ys)) = omega arith in
    start_of f (suc k) (n + f k y) i ys x e ∙ ap (λ (m : ℕ). Some m) sum

-- the first elements with the next one are no more than all
pub total_within : {A : Type 0} (f : ℕ → A → ℕ) (n i : ℕ) (xs : List A) (x : A) → slice_get xs i ≡ Some x
    → total f n (take i xs) + f (n + i) x ≤ total f n xs
total_within f n i [] x e = absurd (cc e)
total_within f n zero (y ∷ ys) x e = let is : y ≡ x = cc e in rw (is, here n) (omega arith)
total_within f n (suc i) (y ∷ ys) x e =
    let rest : total f (suc n) (take i ys) + f (n + suc i) x ≤ total f (suc n) ys =
    rw (← shift n i) (total_within f (suc n) i ys x e) in
    omega (arith, rest)

-- the first blocks with the next one are no more cells than all
pub blocks_within : {A : Type 0} (f : ℕ → A → List Cell) (n i : ℕ) (xs : List A) (x : A) → slice_get xs i ≡ Some x
    → length (blocks f n (take i xs)) + length (f (n + i) x) ≤ length (blocks f n xs)
blocks_within f n i [] x e = absurd (cc e)
blocks_within f n zero (y ∷ ys) x e =
    let is : y ≡ x = cc e in
    let all = length-append (f n x) (blocks f (suc n) ys) in
    rw (is, here n) (omega (arith, all))
blocks_within f n (suc i) (y ∷ ys) x e =
    let rest : length (blocks f (suc n) (take i ys)) + length (f (n + suc i) x) ≤ length (blocks f (suc n) ys) =
    rw (← shift n i) (blocks_within f (suc n) i ys x e) in
    let first = length-append (f n y) (blocks f (suc n) (take i ys)) in
    let all = length-append (f n y) (blocks f (suc n) ys) in
    omega (arith, rest, first, all)
