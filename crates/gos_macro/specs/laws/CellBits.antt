-- The bits of cells, by their places behind a place, and those of cells behind others.
--
-- Read first: Fit.
use Rattle.std.proofs.Common.{◌≡◌, ℕ, zero, suc, ◌+◌, List, [], ◌∷◌, ◌++◌, subst, arith}
use Rattle.std.specs.Prelude.{length}
use Rattle.std.specs.List.{AllByRecursion}
use Rattle.gos_netlist.specs.Nets.{Cell}
use Rattle.gos_netcheck.specs.CellRules.{width_at, HasRightWidths}
use Rattle.gos_macro.specs.Fit.{HaveBits}

-- the bits of cells, by their places behind n, from place k on
abbrev pub BitsAt : List ℕ → ℕ → ℕ → ℕ → List Cell → Type 0
BitsAt bits b n k [] = Unit {0}
BitsAt bits b n k (c ∷ cs) = (width_at bits (b + (n + k)) ≡ c.width) × BitsAt bits b n (suc k) cs

bits_from : (bits : List ℕ) (b n m k : ℕ) (cs : List Cell) → m ≡ n + k → HaveBits bits b m cs → BitsAt bits b n k cs
bits_from bits b n m k [] here have = tt
bits_from bits b n m k (c ∷ cs) here have =
    (subst (λ (e : ℕ). width_at bits (b + e) ≡ c.width) here have.0, bits_from bits b n (suc m) (suc k) cs (omega (arith, here)) have.1)

pub bits_at : (bits : List ℕ) (b n : ℕ) (cs : List Cell) → HaveBits bits b n cs → BitsAt bits b n 0 cs
bits_at bits b n cs have = bits_from bits b n n 0 cs (omega arith) have

pub bits_both : (bits : List ℕ) (b n l : ℕ) (xs ys : List Cell) → length xs ≡ l → HaveBits bits b n (xs ++ ys) → HaveBits bits b n xs × HaveBits bits b (n + l) ys
bits_both bits b n l [] ys long have = let here : n ≡ n + l = omega (arith, long) in (tt, subst (λ (e : ℕ). HaveBits bits b e ys) here have)
bits_both bits b n zero (x ∷ xs) ys long have = absurd (omega (arith, long))
bits_both bits b n (suc l) (x ∷ xs) ys long have =
    let known = bits_both bits b (suc n) l xs ys (omega (arith, long)) have.1 in
    let here : suc n + l ≡ n + suc l = omega arith in
    ((have.0, known.0), subst (λ (e : ℕ). HaveBits bits b e ys) here known.1)

pub right_append : (bits : List ℕ) (xs ys : List Cell) → AllByRecursion (HasRightWidths bits) xs → AllByRecursion (HasRightWidths bits) ys → AllByRecursion (HasRightWidths bits) (xs ++ ys)
right_append bits [] ys first second = second
right_append bits (x ∷ xs) ys first second = (first.0, right_append bits xs ys first.1 second)
