-- The small array: each of its firings computes.
use Rattle.std.proofs.Common.{inl, inr, refl, arith}
use Rattle.gos_plan.specs.declared.kinds.Kind.TheVariants as kinds
use Rattle.gos_plan.specs.Ranges.{IsInRange}
use Rattle.gos_plan.specs.SmallArrays.{EntryClears, AccessAsks, ReadIsAtIndex, WriteIsAtIndex, OneAtATime, ServesItsType, LengthsAreKept, SmallNumbersFit}

pub entry_clears : EntryClears
entry_clears n = refl

pub access_asks : AccessAsks
access_asks a b n x = (refl, refl)

pub read_is_at_index : ReadIsAtIndex
read_is_at_index a b n = refl

pub write_is_at_index : WriteIsAtIndex
write_is_at_index a b x = refl

pub one_at_a_time : OneAtATime
one_at_a_time a b n = (refl, refl, refl)

pub serves_its_type : ServesItsType
serves_its_type w n v = refl

pub lengths_are_kept : LengthsAreKept
lengths_are_kept = (((omega arith, omega arith), inr (inl refl), omega arith), three, refl)
  where
    three : IsInRange (kinds.Array 8 3 0) → ⊥
    three (w, inl is, v) = omega (arith, is)
    three (w, inr (inl is), v) = omega (arith, is)
    three (w, inr (inr (inl is)), v) = omega (arith, is)
    three (w, inr (inr (inr is)), v) = omega (arith, is)

pub small_numbers_fit : SmallNumbersFit
small_numbers_fit = ((refl, (omega arith, (omega arith, tt))), λ h. omega (arith, h.1.0), λ h. omega (arith, h.0))
