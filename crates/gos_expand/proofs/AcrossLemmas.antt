-- A Share passes on to the same handshake on another side alone, where it is made for no order and where it is made for the
-- numbers of its handshakes.
--
-- Read first: Choosing; Fast of gos_fast_share; ShareLemmas.
use Rattle.std.proofs.Common.{◌≡◌, ◌+◌, ◌*◌, ◌<◌, ◌≤◌, ◌⊎◌, ℕ, zero, suc, Bool, true, false, if◌then◌else◌, List, [], ◌∷◌, length, inl, inr, refl, arith}
use Rattle.std.specs.Prelude.{Some, ◌&&◌, ◌||◌, nat_eq, nat_lt}
use Rattle.std.proofs.lemmas.List.{length-map}
use Rattle.std.proofs.lemmas.Bool.{eqb-true}
use Rattle.std.proofs.lemmas.Bool.Decides.{nat_tests}
use Rattle.gos_types.specs.Types.{Type'}
use Rattle.gos_types.specs.Handshakes.{handshakes_of}
use Rattle.gos_plan.specs.Kinds.{Part, Share, Contact, contact, contacts_of, part_contacts}
use Rattle.gos_share.proofs.ApartLemmas.{AreApart, row_apart}
use Rattle.gos_fast_share.specs.Thread.{Asker, Nobody, asker, stands_before}
use Rattle.gos_fast_share.specs.Fast.{sets, sets_before, block_passing, row_passing}
use Rattle.gos_expand.specs.Gates.{ForEach}
use Rattle.gos_expand.specs.Fast.{numbers_from, making_by_number}
use Rattle.gos_expand.specs.inner.Choosing.{PassesAcross, AllPassAcross}
use Rattle.gos_expand.proofs.ShareLemmas.{share_shakes, thirds}

either : (a b : Bool) → (a || b) ≡ true → (a ≡ true) ⊎ (b ≡ true)
either true b is = inl refl
either false b is = inr is

both : (a b : Bool) → (a && b) ≡ true → (a ≡ true) × (b ≡ true)
both true b is = (refl, is)
both false b is = absurd (cc is)

-- among numbers from one on, what stands before another is lower
stands_low : (e j m n : ℕ) → m ≤ j → stands_before e j (numbers_from m n) ≡ true → e < j
stands_low e j m zero low stands = absurd (cc stands)
stands_low e j m (suc n) low stands = by_tests (nat_eq m j) (nat_eq m e) refl refl (stands_low e j (suc m) n) stands
  where
    by_tests : (a b : Bool) → nat_eq m j ≡ a → nat_eq m e ≡ b → (suc m ≤ j → stands_before e j (numbers_from (suc m) n) ≡ true → e < j)
        → (if a then false else b || stands_before e j (numbers_from (suc m) n)) ≡ true
        → e < j
    by_tests true b here found rest is = absurd (cc is)
    by_tests false true here found rest is = let same = eqb-true m e found in grind (arith, nat_tests, here, same, low)
    by_tests false false here found rest is = rest (grind (arith, nat_tests, here, low)) is

-- callers ask at handshakes behind those of the source
asks_high : (ks : List Contact) (e : ℕ) → sets (asker ks e) ≡ true → length ks ≤ e
asks_high ks e asks = by_test (nat_lt e (length ks)) _ refl asks
  where
    by_test : (b : Bool) (rest : Asker) → nat_lt e (length ks) ≡ b → sets (if b then Nobody else rest) ≡ true → length ks ≤ e
    by_test true rest low is = absurd (cc is)
    by_test false rest low is = grind (arith, nat_tests, low)

-- where no request comes before, a block passes on to the same handshake of another side
block_across : (h j : ℕ) (before : Bool) (from to : ℕ) → (before ≡ true → ⊥) → block_passing h j before from to ≡ true → AreApart h from to
block_across h j before from to none passes =
    elim (either (nat_eq to j && (nat_eq from (h + j) || nat_eq from (h + h + j))) _ passes) [
      | inl up ↦ to_source (both (nat_eq to j) _ up)
      | inr down ↦ to_caller (both (nat_eq to (h + j) || nat_eq to (h + h + j)) _ down)
    ]
  where
    to_source : (nat_eq to j ≡ true) × ((nat_eq from (h + j) || nat_eq from (h + h + j)) ≡ true) → AreApart h from to
    to_source (at, callers) =
        let x = eqb-true to j at in
        elim (either (nat_eq from (h + j)) _ callers) [
          | inl first ↦ (let y = eqb-true from (h + j) first in inl (omega (arith, x, y)))
          | inr second ↦ (let y = eqb-true from (h + h + j) second in inr (omega (arith, x, y)))
        ]

    to_caller : ((nat_eq to (h + j) || nat_eq to (h + h + j)) ≡ true) × ((nat_eq from j || before) ≡ true) → AreApart h from to
    to_caller (callers, at) =
        elim (either (nat_eq from j) before at) [
          | inl here ↦ (let x = eqb-true from j here in
              elim (either (nat_eq to (h + j)) _ callers) [
                | inl first ↦ (let y = eqb-true to (h + j) first in inl (omega (arith, x, y)))
                | inr second ↦ (let y = eqb-true to (h + h + j) second in inr (omega (arith, x, y)))
              ])
          | inr sooner ↦ absurd (none sooner)
        ]

row_across : (ks : List Contact) (order : List ℕ) (j : ℕ) (ls : List Contact) (from to : ℕ)
    → ((i : ℕ) → i < j + length ls → sets_before ks order i from ≡ true → ⊥)
    → row_passing ks order j ls from to ≡ true
    → AreApart (length ks) from to
row_across ks order j [] from to none passes = absurd (cc passes)
row_across ks order j (l ∷ ls) from to none passes =
    elim (either (block_passing (length ks) j (sets_before ks order j from) from to) _ passes) [
      | inl here ↦ block_across (length ks) j (sets_before ks order j from) from to (none j (omega arith)) here
      | inr behind ↦ row_across ks order (suc j) ls from to (λ i low. none i (omega (arith, low))) behind
    ]

-- by number no request comes before what the source gives
none_sooner : (ks : List Contact) (n i from : ℕ) → i < length ks → sets_before ks (numbers_from 0 n) i from ≡ true → ⊥
none_sooner ks n i from low sooner =
    let two = both (sets (asker ks from)) _ sooner in
    let high = asks_high ks from two.0 in
    let below = stands_low from i 0 n (omega arith) two.1 in
    omega (arith, low, high, below)

pub shakes_thrice : (t : Type') → length (part_contacts (Share t)) ≡ 3 * length (contacts_of t)
shakes_thrice t =
    let sides = share_shakes t in
    let long = length-map (handshakes_of t) contact in
    omega (arith, sides, long)

pub across_by_number : (k : Part) → PassesAcross (making_by_number (Some k)) k
across_by_number (Share t) = λ from to passes.
    let ks : List Contact = contacts_of t in
    let n : ℕ = length (part_contacts (Share t)) in
    thirds (length ks) n from to (shakes_thrice t) (row_across ks (numbers_from 0 n) 0 ks from to (λ i low. none_sooner ks n i from (omega (arith, low))) passes)
across_by_number k = tt

pub across_for_each : (k : Part) → PassesAcross ForEach k
across_for_each (Share t) = λ from to passes.
    thirds (length (contacts_of t)) (length (part_contacts (Share t))) from to (shakes_thrice t)
    (row_apart (length (contacts_of t)) 0 (contacts_of t) from to passes)
across_for_each k = tt

pub all_across : (parts : List Part) → AllPassAcross (λ i. ForEach) parts
all_across parts i k there = across_for_each k
