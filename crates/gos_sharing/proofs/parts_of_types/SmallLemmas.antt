-- The plan of `skip` behind a Share, and with a Share of a pair in its place.
use Rattle.std.specs.Prelude.{◌≡◌, ◌≢◌, ℕ, zero, suc, ◌+◌, ◌*◌, ◌<◌, Some, slice_get}
use Rattle.std.proofs.Common.{refl, sym, ◌∙◌, ap, arith}
use Rattle.gos_types.specs.Types.{Com, Pair}
use Rattle.gos_plan.specs.Kinds.{Contact, contacts_of}
use Rattle.gos_plan.specs.Plans.{IsRight}
use Rattle.gos_realises.specs.realises.Regular.{count}
use Rattle.gos_sharing.specs.parts_of_types.Narrow.{HasWideShare}
use Rattle.gos_sharing.specs.parts_of_types.SmallNarrow.{shared_skip, skip_of_pair, half, second_side, SkipIsNarrow, NarrowIsNoNarrow}
use Rattle.gos_sharing.proofs.parts_of_types.ThereLemmas.{is_there}

half_back : (h : ℕ) → half (h + h + 1) ≡ h
half_back zero = refl
half_back (suc h) = let two : suc h + suc h + 1 ≡ suc (suc (h + h + 1)) = omega arith in ap half two ∙ ap suc (half_back h)

other_parts : (n : ℕ) → n ≢ 0 → slice_get skip_of_pair.parts n ≡ slice_get shared_skip.parts n
other_parts zero own = absurd (own refl)
other_parts (suc n) own = refl

contacts : (j : ℕ) (k : Contact) → slice_get (contacts_of Com) j ≡ Some k → slice_get (contacts_of (Pair Com Com)) (1 + j) ≡ Some k
contacts zero k there = there
contacts (suc j) k there = absurd (cc there)

shakes : (b j : ℕ) → j < count Com → b * count Com + j + (b * count Com + j) + 1 ≡ b * count (Pair Com Com) + (1 + j)
shakes b j low =
    let one : count Com ≡ 1 = refl in
    let two : count (Pair Com Com) ≡ 2 = refl in
    let low_one : j < 1 = omega (arith, low, one) in
    (λ l. b * one l + j + (b * one l + j) + 1) ∙ (omega (arith, low_one) ∙ ap (λ (n : ℕ). b * n + (1 + j)) (sym two))

frame : HasWideShare second_side skip_of_pair shared_skip
frame =
    record {
      wide_share = refl;
      narrow_share = refl;
      others = other_parts;
      imports = refl;
      outcome = refl;
      contacts = contacts;
      shakes = shakes;
      returns = half_back;
    }

right : IsRight shared_skip
right = (((0, 0, refl, refl), refl, refl), (((0, 0, refl, refl), refl, refl), tt))

pub skip_is_narrow : SkipIsNarrow
skip_is_narrow = is_there second_side skip_of_pair shared_skip frame right

pub narrow_is_no_narrow : NarrowIsNoNarrow
narrow_is_no_narrow is = cc is.frame.wide_share
