-- A side of a plan of a product behind a Share has that side behind a narrow Share as its core, with the wide Share in place of the narrow one.
use Rattle.std.specs.Prelude.{◌≡◌, ℕ, ◌+◌, ◌<◌, length, All}
use Rattle.std.proofs.Common.{refl, ap, subst, arith}
use Rattle.std.proofs.lemmas.List.Elements.{All-push}
use Rattle.gos_types.specs.Types.{Type', Pair}
use Rattle.gos_plan.specs.Kinds.{Share}
use Rattle.gos_plan.specs.Plans.{ResultEnd, Plan, IsRight}
use Rattle.gos_plan.specs.TokenBits.{LiteralFits}
use Rattle.gos_plan.specs.Joining.{place}
use Rattle.gos_realises.specs.realises.Regular.{count, IsRegular}
use Rattle.gos_realises.specs.realises.Links.{IsJoined}
use Rattle.gos_realises.specs.realises.Wirings.{side}
use Rattle.gos_sharing.specs.behind.Behind.{passing, IsBehind}
use Rattle.gos_sharing.proofs.behind.PassingLemmas.{lies_behind_share}
use Rattle.gos_sharing.proofs.behind.RegularLemmas.{behind_is_regular}
use Rattle.gos_supplies.proofs.turns.FollowLemmas.{IsLoose}
use Rattle.gos_supplies.proofs.turns.PassLemmas.{Composes, passes_turns}
use Rattle.gos_supplies.proofs.turns.SideLemmas as sides
use Rattle.gos_supplies.proofs.turns.WholeLemmas.{goes_all}
use Rattle.gos_sharing.specs.pair_types.Sides.{HasNarrowCore, SidesHaveCores}
use Rattle.gos_sharing.proofs.pair_types.HalfLemmas.{Half, first_half, second_half}
use Rattle.gos_sharing.proofs.pair_types.SideLemmas.{parts_so, no_ports}
use Rattle.gos_sharing.proofs.pair_types.CoreLemmas.{core_of, narrowing, z, narrow, is_core}
use Rattle.gos_sharing.proofs.pair_types.StillLemmas.{GoesAlong, still}

lies : (t : Type') (c : ℕ) (p : Plan) → c < 2 → IsRight p → p.outcome ≡ t → IsBehind (length p.parts) t c (passing t c p) p
lies t c p two right outcome = subst (λ (s : Type'). IsBehind (length p.parts) s c (passing s c p) p) outcome (lies_behind_share c p two right)

-- either side
has_core : (t s o : Type') (n k : ℕ) (half : Half t s o n k) (c : ℕ) (p x v : Plan) → c < 2 → IsRight p → p.outcome ≡ t → All LiteralFits p.parts → IsRegular p
    → IsJoined (side n s (passing t c p)) x → IsJoined (side n s p) v → ((h : ℕ) → h < count o → IsLoose (side n s (passing t c p)) x (place 0 (ResultEnd (k + h))))
    → GoesAlong n s (passing t c p) x → HasNarrowCore x (passing s c v)
has_core t s o n k half c p x v two right outcome literals regular of_x of_v loose goes = (
  narrowing t s o n k half c p (passing t c p) x v (passing s c v) behind of_x of_v also,
  core_of x,
  z t s o n k half c p (passing t c p) x v (passing s c v) behind of_x of_v also,
  narrow t s o n k half c p (passing t c p) x v (passing s c v) behind of_x of_v also,
  is_core t s o n k half c p (passing t c p) x v (passing s c v) behind of_x of_v also,
  still t s o n k half c p (passing t c p) x v (passing s c v) behind of_x of_v also literals regular loose goes,
  refl,
  refl,
)
  where
    behind : IsBehind (length p.parts) t c (passing t c p) p
    behind = lies t c p two right outcome

    also : IsBehind (length p.parts) s c (passing s c v) v
    also =
        subst (λ (i : ℕ). IsBehind i s c (passing s c v) v) (ap (λ ks. length ks) (parts_so s n p v of_v)) (lies s c v two of_v.joining.right of_v.joining.outcome)

-- each side of a regular plan of a product goes along with it
module _ (a b : Type') (r : Plan) (outcome : r.outcome ≡ Pair a b) (literals : All LiteralFits r.parts) (regular : IsRegular r) (x : Plan) where
  of_side : (s : Type') (n : ℕ) → (joined : IsJoined (side n s r) x) → Composes (side n s r) x → GoesAlong n s r x
  of_side s n joined composes k w xs idle runs turns =
      goes_all (side n s r) x joined.fits (no_ports s n r x joined) joined.joining (sides.one_of a b r outcome IsRegular regular)
      (sides.one_of a b r outcome (λ (y : Plan). All LiteralFits y.parts) literals)
      (passes_turns (side n s r) x joined.fits (no_ports s n r x joined) joined.joining composes) k w xs idle runs turns

  first_goes : IsJoined (side 0 a r) x → GoesAlong 0 a r x
  first_goes joined = of_side a 0 joined (sides.first_composes a b r outcome x joined.fits joined.joining)

  second_goes : IsJoined (side (count a) b r) x → GoesAlong (count a) b r x
  second_goes joined = of_side b (count a) joined (sides.second_composes a b r outcome x joined.fits joined.joining)

  -- and what of its result is the other side's stands for nothing
  first_loose : IsJoined (side 0 a r) x → (h : ℕ) → h < count b → IsLoose (side 0 a r) x (place 0 (ResultEnd (count a + h)))
  first_loose joined h low = sides.loose a b r outcome 0 a x joined.fits joined.joining (count a + h) (λ j small same. omega (arith, small, same))

  second_loose : IsJoined (side (count a) b r) x → (h : ℕ) → h < count a → IsLoose (side (count a) b r) x (place 0 (ResultEnd (0 + h)))
  second_loose joined h low = sides.loose a b r outcome (count a) b x joined.fits joined.joining (0 + h) (λ j small same. omega (arith, low, same))

pub sides_have_cores : SidesHaveCores
sides_have_cores a b c p two right outcome literals regular = (
  λ x v of_x of_v.
      has_core (Pair a b) a b 0 (count a) (first_half a b) c p x v two right outcome literals regular of_x of_v (first_loose a b (passing (Pair a b) c p) outcome all regular_r x of_x)
      (first_goes a b (passing (Pair a b) c p) outcome all regular_r x of_x),
  λ x v of_x of_v.
      has_core (Pair a b) b a (count a) 0 (second_half a b) c p x v two right outcome literals regular of_x of_v
      (second_loose a b (passing (Pair a b) c p) outcome all regular_r x of_x) (second_goes a b (passing (Pair a b) c p) outcome all regular_r x of_x),
)
  where
    all : All LiteralFits (passing (Pair a b) c p).parts
    all = All-push LiteralFits p.parts (Share (Pair a b)) literals tt

    regular_r : IsRegular (passing (Pair a b) c p)
    regular_r = behind_is_regular (length p.parts) (Pair a b) c (passing (Pair a b) c p) p (lies (Pair a b) c p two right outcome) literals regular
