-- Parts of a text between places.
use Rattle.std.proofs.Common.{◌≡◌, ℕ, zero, suc, ◌+◌, ◌-◌, ◌<◌, ◌≤◌, List, [], ◌∷◌, ◌++◌, length, take, drop, get_or, refl, ap, arith, drop-cons, add-one, length-drop}
use Rattle.std.proofs.Math.Seq.{take-add}
use Rattle.std.proofs.lemmas.List.{drop-drop, length-take-le}
use Rattle.std.specs.List.{slice_range}

pub slice_nothing : (text : List ℕ) (i : ℕ) → slice_range text i i ≡ []
slice_nothing text i = let e : i - i ≡ 0 = omega arith in rw e refl

-- a part is its first byte and what follows
pub slice_cons : (text : List ℕ) (i end : ℕ) → i < end → end ≤ length text → slice_range text i end ≡ get_or text i 0 ∷ slice_range text (i + 1) end
slice_cons text i end some within =
    let inside : i < length text = omega arith in
    let e : end - i ≡ suc (end - (i + 1)) = omega arith in
    rw (e, add-one, drop-cons text i 0) refl

-- the rest of a text, as the code takes it
pub rest_whole : (text : List ℕ) (from : ℕ) → take (length text - from) (drop from text) ≡ drop from text
rest_whole text from = take_all (drop from text) (length text - from) (omega (arith, length-drop from text))
  where
    take_all : (bytes : List ℕ) (n : ℕ) → length bytes ≤ n → take n bytes ≡ bytes
    take_all [] zero h = refl
    take_all [] (suc n) h = refl
    take_all (b ∷ bytes) zero h = absurd (omega (arith, h))
    take_all (b ∷ bytes) (suc n) h = ap (λ rest. b ∷ rest) (take_all bytes n (omega (arith, h)))

pub length_slice : (text : List ℕ) (at end : ℕ) → end ≤ length text → length (slice_range text at end) ≡ end - at
length_slice text at end within =
    let inside : end - at ≤ length (drop at text) = omega (arith, length-drop at text, within) in
    length-take-le (end - at) (drop at text) inside

pub slice_split : (text : List ℕ) (at mid end : ℕ) → at ≤ mid → mid ≤ end → slice_range text at end ≡ slice_range text at mid ++ slice_range text mid end
slice_split text at mid end below above =
    let size : end - at ≡ mid - at + (end - mid) = omega arith in
    let place : at + (mid - at) ≡ mid = omega arith in
    rw (size, take-add (mid - at) (end - mid) (drop at text), drop-drop (mid - at) at text, place) refl

-- a part and the byte after it
pub slice_snoc : (text : List ℕ) (at i : ℕ) → at ≤ i → i < length text → slice_range text at (i + 1) ≡ slice_range text at i ++ get_or text i 0 ∷ []
slice_snoc text at i below inside =
    rw (slice_split text at i (i + 1) below (omega arith), slice_cons text i (i + 1) (omega arith) (omega (arith, inside)), slice_nothing text (i + 1)) refl
