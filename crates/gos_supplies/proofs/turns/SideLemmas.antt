-- Each side of a regular plan of a product is regular.
use Rattle.std.specs.Prelude.{ℕ, zero, suc, ◌+◌, ◌-◌, ◌<◌, Bool, true, false, ◌&&◌, IsFalse, List, Option, Some, None, All, slice_get, nat_lt}
use Rattle.std.proofs.lemmas.Bool.Decides.{nat_tests}
use Rattle.std.proofs.Common.{◌≡◌, [], ◌∷◌, ◌⊎◌, inl, inr, refl, sym, ◌∙◌, ap, subst, arith, zero-add}
use Rattle.std.proofs.lemmas.Option.{slice_get_within}
use Rattle.std.proofs.lemmas.Bool.{and_right, and_left}
use Rattle.gos_types.specs.Types.{Type', Pair}
use Rattle.gos_types.specs.Events.{Direction}
use Rattle.gos_types.proofs.ListLemmas.{found_in_front}
use Rattle.gos_plan.specs.Kinds.{Contact, contacts_of}
use Rattle.gos_plan.specs.Plans.{End, PartEnd, ImportEnd, ResultEnd, Plan, contact_at, turned_if}
use Rattle.gos_plan.specs.Tokens.{way_taken}
use Rattle.gos_plan.specs.TokenBits.{LiteralFits}
use Rattle.gos_plan.specs.Joining.{Place, place, Linked, origin, IsJoining}
use Rattle.gos_plan.proofs.SideLemmas.{pairs_join}
use Rattle.gos_plan.proofs.AskingLemmas.{behind}
use Rattle.gos_realises.specs.realises.Regular.{Pass, pass, count, some_open, beyond, KeepsTurnsOf, IsRegular}
use Rattle.gos_realises.specs.realises.Links.{LinksFit}
use Rattle.gos_realises.specs.realises.Wirings.{side}
use Rattle.gos_realises.proofs.realises.GroundTurnLemmas.{some_there, there_some}
use Rattle.gos_realises.proofs.joined.OriginLemmas.{sort}
use Rattle.gos_supplies.specs.turns.Composed.{SidesAreRegular}
use Rattle.gos_supplies.proofs.turns.TrailLemmas.{LinksArePorts}
use Rattle.gos_supplies.proofs.turns.FollowLemmas.{IsLoose, sort_there}
use Rattle.gos_supplies.proofs.turns.GoesLemmas.{IsTurned, LooseShut}
use Rattle.gos_joining.proofs.renumbered.TurnLemmas.{Agree, some_agree, turns_agree}
use Rattle.gos_realises.proofs.realises.CountLemmas.{count_pair}
use Rattle.gos_supplies.proofs.turns.TurnedLemmas.{res, to_each, result_changed, in_result}
use Rattle.gos_supplies.proofs.turns.PassLemmas.{StandsForImport, StandsForArgument, Composes, passes_turns}
use Rattle.gos_supplies.proofs.turns.WholeLemmas.{joining_is_regular}
use Rattle.gos_supplies.specs.turns.Rests.{Rests}
use Rattle.gos_supplies.specs.turns.Resting.{SidesRest}
use Rattle.gos_supplies.proofs.turns.JoinedRestLemmas.{joining_rests}

pub none_open : (n : ℕ) (f : ℕ → Bool) → ((h : ℕ) → h < n → f h ≡ false) → some_open n f ≡ false
none_open n f shut = by_test (some_open n f) refl
  where
    by_test : (b : Bool) → some_open n f ≡ b → b ≡ false
    by_test false t = refl
    by_test true t =
        let (k, low, up) = some_there n f t in
        let never : true ≡ false = sym up ∙ shut k low in cc never

-- a product of which one side is closed is busy where the other is
pub pair_busy : (a b : Type') (f : ℕ → Bool) → some_open (count (Pair a b)) f ≡ true → (some_open (count a) f ≡ true) ⊎ (some_open (count b) (beyond (count a) f) ≡ true)
pair_busy a b f busy = of_open (some_there (count (Pair a b)) f busy)
  where
    of_open : (k : ℕ) × (k < count (Pair a b)) × (f k ≡ true) → (some_open (count a) f ≡ true) ⊎ (some_open (count b) (beyond (count a) f) ≡ true)
    of_open (k, low, up) = by_test (nat_lt k (count a)) refl
      where
        by_test : (t : Bool) → nat_lt k (count a) ≡ t → (some_open (count a) f ≡ true) ⊎ (some_open (count b) (beyond (count a) f) ≡ true)
        by_test true test = inl (there_some (count a) f k (grind (arith, nat_tests, test)) up)
        by_test false test =
            let high : count a + (k - count a) ≡ k = grind (arith, nat_tests, test) in
            let sum = count_pair a b in
            inr (there_some (count b) (beyond (count a) f) (k - count a) (omega (arith, low, sum, high)) (ap f high ∙ up))

module _ (a b : Type') (p : Plan) (p_type : p.outcome ≡ Pair a b) where
  pair_turns : (P : List Pass) → IsTurned p P → KeepsTurnsOf (Pair a b) (res P)
  pair_turns P turned = subst (λ (t : Type'). KeepsTurnsOf t (res P)) p_type (to_each p P turned).1

  pub one_of : (Q : Plan → Type 0) → Q p → (m : ℕ) (z : Plan) → slice_get (p ∷ []) m ≡ Some z → Q z
  one_of Q of_p zero z is = let same : p ≡ z = cc is in subst Q same of_p
  one_of Q of_p (suc m) z is = absurd (cc is)

  pub no_link : (n : ℕ) (t : Type') (c d : Place) → Linked (side n t p) c d → ⊥
  no_link n t c d (l, (k, small, is), ways) = omega (arith, small)

  pub no_ports : (n : ℕ) (t : Type') → LinksArePorts (side n t p)
  no_ports n t l (k, small, is) = absurd (omega (arith, small))

  parent : (n : ℕ) (t : Type') (m : ℕ) (z : Plan) → slice_get (p ∷ []) m ≡ Some z → (m ≡ 0) ⊎ (StandsForImport (side n t p) 0 p m z ⊎ StandsForArgument (side n t p) 0 p m z)
  parent n t zero z is = inl refl
  parent n t (suc m) z is = absurd (cc is)

  -- what of the result is not the whole's stands for nothing
  pub loose : (n : ℕ) (t : Type') (r : Plan) → LinksFit (side n t p) → (whole : IsJoining (side n t p) r) → (g : ℕ) → ((h : ℕ) → h < count t → n + h ≡ g → ⊥)
      → IsLoose (side n t p) r (place 0 (ResultEnd g))
  loose n t r fit whole g apart = ((λ c linked. no_link n t (place 0 (ResultEnd g)) c linked), of_end)
    where
      sorts : (e : End) (c : Contact) → contact_at r e ≡ Some c → origin (side n t p) e ≡ place 0 (ResultEnd g) → sort e ≡ 2
      sorts e c there same = sym (sort_there (side n t p) r fit (no_ports n t) whole e c there) ∙ ap (λ (z : Place). sort z.end) same

      of_end : (e : End) (c : Contact) → contact_at r e ≡ Some c → origin (side n t p) e ≡ place 0 (ResultEnd g) → ⊥
      of_end (PartEnd i h) c there same = let e = sorts (PartEnd i h) c there same in omega (arith, e)
      of_end (ImportEnd i h) c there same = let e = sorts (ImportEnd i h) c there same in omega (arith, e)
      of_end (ResultEnd h) c there same =
          let ends : ResultEnd (n + h) ≡ ResultEnd g = ap (λ (z : Place). z.end) same in
          let sums : n + h ≡ g = cc ends in
          apart h (by_contact (slice_get (contacts_of t) h) refl (ap (λ (x : Type'). turned_if (slice_get (contacts_of x) h)) (sym whole.outcome) ∙ there)) sums
        where
          by_contact : (o : Option Contact) → slice_get (contacts_of t) h ≡ o → turned_if o ≡ Some c → h < count t
          by_contact None none is = absurd (cc is)
          by_contact (Some d) at is = slice_get_within (contacts_of t) h d at

  module _ (r : Plan) where
    first_shut : LinksFit (side 0 a p) → IsJoining (side 0 a p) r → (P : ℕ → List Pass) → LooseShut (side 0 a p) r P
        → some_open (count b) (beyond (count a) (res (P 0))) ≡ false
    first_shut fit whole P shut =
        none_open (count b) (beyond (count a) (res (P 0)))
        (λ h low. shut (place 0 (ResultEnd (count a + h))) tt (loose 0 a r fit whole (count a + h) (λ g small same. omega (arith, small, same))))

    pub first_composes : LinksFit (side 0 a p) → IsJoining (side 0 a p) r → Composes (side 0 a p) r
    first_composes fit whole =
        record {
          giver = p;
          is_giver = refl;
          pairs = λ c d linked. absurd (no_link 0 a c d linked);
          parent = parent 0 a;
          in_rest = in_rest;
          out_rest = λ P turned. turns_agree a (res P) (λ g. res P (0 + g)) (λ g low. ap (res P) (sym (zero-add g))) (pair_turns P turned).0;
          busy_rest = busy_rest;
        }
      where
        in_rest : (P : ℕ → List Pass) (h : ℕ) (c : Contact) (way : Direction) → LooseShut (side 0 a p) r P → IsTurned p (P 0) → slice_get (contacts_of a) h ≡ Some c
            → way_taken c.role ≡ way → KeepsTurnsOf a (λ g. res (pass (ResultEnd (0 + h)) way ∷ P 0) (0 + g)) → IsTurned p (pass (ResultEnd (0 + h)) way ∷ P 0)
        in_rest P h c way shut turned there ways keeps =
            let same = zero-add h in
            subst (λ (n : ℕ). IsTurned p (pass (ResultEnd n) way ∷ P 0)) (sym same)
            (in_result p (P 0) h c way turned contact ways (subst (λ (t : Type'). KeepsTurnsOf t new) (sym p_type) (of_a, of_b, apart)))
          where
            new : ℕ → Bool
            new = res (pass (ResultEnd h) way ∷ P 0)

            contact : slice_get (contacts_of p.outcome) h ≡ Some c
            contact =
                ap (λ (t : Type'). slice_get (contacts_of t) h) p_type
                ∙ (ap (λ (cs : List Contact). slice_get cs h) (pairs_join a b).joined ∙ found_in_front (contacts_of a) (contacts_of b) h c there)

            low : h < count a
            low = slice_get_within (contacts_of a) h c there

            of_a : KeepsTurnsOf a new
            of_a =
                turns_agree a (λ g. res (pass (ResultEnd (0 + h)) way ∷ P 0) (0 + g)) new
                (λ g small. (let one = zero-add h in let two = zero-add g in λ i. res (pass (ResultEnd (one i)) way ∷ P 0) (two i))) keeps

            agree : Agree (count b) (beyond (count a) (res (P 0))) (beyond (count a) new)
            agree g small =
                sym ((result_changed (P 0) h (count a + count b) way (omega (arith, low))).else_same (count a + g) (omega (arith, small)) (λ same. omega (arith, same, low)))

            of_b : KeepsTurnsOf b (beyond (count a) new)
            of_b = turns_agree b (beyond (count a) (res (P 0))) (beyond (count a) new) agree (pair_turns (P 0) turned).1

            apart : IsFalse (some_open (count a) new && some_open (count b) (beyond (count a) new))
            apart =
                and_right (some_open (count a) new) (some_open (count b) (beyond (count a) new))
                (sym (some_agree (count b) (beyond (count a) (res (P 0))) (beyond (count a) new) agree) ∙ first_shut fit whole P shut)

        busy_rest : (P : ℕ → List Pass) → LooseShut (side 0 a p) r P → IsTurned p (P 0) → some_open (count p.outcome) (res (P 0)) ≡ true
            → some_open (count a) (λ g. res (P 0) (0 + g)) ≡ true
        busy_rest P shut turned busy =
            some_agree (count a) (λ g. res (P 0) (0 + g)) (res (P 0)) (λ g low. ap (res (P 0)) (zero-add g))
            ∙ by_side (pair_busy a b (res (P 0)) (subst (λ (t : Type'). some_open (count t) (res (P 0)) ≡ true) p_type busy))
          where
            by_side : (some_open (count a) (res (P 0)) ≡ true) ⊎ (some_open (count b) (beyond (count a) (res (P 0))) ≡ true) → some_open (count a) (res (P 0)) ≡ true
            by_side (inl up) = up
            by_side (inr up) = let never : true ≡ false = sym up ∙ first_shut fit whole P shut in absurd (cc never)

    second_shut : LinksFit (side (count a) b p) → IsJoining (side (count a) b p) r → (P : ℕ → List Pass) → LooseShut (side (count a) b p) r P
        → some_open (count a) (res (P 0)) ≡ false
    second_shut fit whole P shut =
        none_open (count a) (res (P 0)) (λ h low. shut (place 0 (ResultEnd h)) tt (loose (count a) b r fit whole h (λ g small same. omega (arith, low, same))))

    pub second_composes : LinksFit (side (count a) b p) → IsJoining (side (count a) b p) r → Composes (side (count a) b p) r
    second_composes fit whole =
        record {
          giver = p;
          is_giver = refl;
          pairs = λ c d linked. absurd (no_link (count a) b c d linked);
          parent = parent (count a) b;
          in_rest = in_rest;
          out_rest = λ P turned. (pair_turns P turned).1;
          busy_rest = busy_rest;
        }
      where
        in_rest : (P : ℕ → List Pass) (h : ℕ) (c : Contact) (way : Direction) → LooseShut (side (count a) b p) r P → IsTurned p (P 0)
            → slice_get (contacts_of b) h ≡ Some c → way_taken c.role ≡ way → KeepsTurnsOf b (beyond (count a) (res (pass (ResultEnd (count a + h)) way ∷ P 0)))
            → IsTurned p (pass (ResultEnd (count a + h)) way ∷ P 0)
        in_rest P h c way shut turned there ways keeps =
            in_result p (P 0) (count a + h) c way turned contact ways (subst (λ (t : Type'). KeepsTurnsOf t new) (sym p_type) (of_a, keeps, apart))
          where
            new : ℕ → Bool
            new = res (pass (ResultEnd (count a + h)) way ∷ P 0)

            contact : slice_get (contacts_of p.outcome) (count a + h) ≡ Some c
            contact =
                ap (λ (t : Type'). slice_get (contacts_of t) (count a + h)) p_type
                ∙ (ap (λ (cs : List Contact). slice_get cs (count a + h)) (pairs_join a b).joined
                ∙ (behind (contacts_of a) (contacts_of b) h (count a + h) refl ∙ there))

            low : h < count b
            low = slice_get_within (contacts_of b) h c there

            agree : Agree (count a) (res (P 0)) new
            agree g small =
                sym ((result_changed (P 0) (count a + h) (count a + count b) way (omega (arith, low))).else_same g (omega (arith, small)) (λ same. omega (arith, same, small)))

            of_a : KeepsTurnsOf a new
            of_a = turns_agree a (res (P 0)) new agree (pair_turns (P 0) turned).0

            apart : IsFalse (some_open (count a) new && some_open (count b) (beyond (count a) new))
            apart =
                and_left (some_open (count a) new) (some_open (count b) (beyond (count a) new))
                (sym (some_agree (count a) (res (P 0)) new agree) ∙ second_shut fit whole P shut)

        busy_rest : (P : ℕ → List Pass) → LooseShut (side (count a) b p) r P → IsTurned p (P 0) → some_open (count p.outcome) (res (P 0)) ≡ true
            → some_open (count b) (beyond (count a) (res (P 0))) ≡ true
        busy_rest P shut turned busy =
            by_side (pair_busy a b (res (P 0)) (subst (λ (t : Type'). some_open (count t) (res (P 0)) ≡ true) p_type busy))
          where
            by_side : (some_open (count a) (res (P 0)) ≡ true) ⊎ (some_open (count b) (beyond (count a) (res (P 0))) ≡ true)
                → some_open (count b) (beyond (count a) (res (P 0))) ≡ true
            by_side (inl up) = let never : true ≡ false = sym up ∙ second_shut fit whole P shut in absurd (cc never)
            by_side (inr up) = up

pub sides_are_regular : SidesAreRegular
sides_are_regular a b p p_type literals regular = (
  λ r joined.
      joining_is_regular (side 0 a p) r joined.fits (no_ports a b p p_type 0 a) joined.joining (one_of a b p p_type IsRegular regular)
      (one_of a b p p_type (λ (z : Plan). All LiteralFits z.parts) literals)
      (passes_turns (side 0 a p) r joined.fits (no_ports a b p p_type 0 a) joined.joining (first_composes a b p p_type r joined.fits joined.joining)),
  λ r joined.
      joining_is_regular (side (count a) b p) r joined.fits (no_ports a b p p_type (count a) b) joined.joining (one_of a b p p_type IsRegular regular)
      (one_of a b p p_type (λ (z : Plan). All LiteralFits z.parts) literals)
      (passes_turns (side (count a) b p) r joined.fits (no_ports a b p p_type (count a) b) joined.joining (second_composes a b p p_type r joined.fits joined.joining)),
)

-- and rests where the plan does
pub sides_rest : SidesRest
sides_rest a b p p_type literals regular rests = (
  λ r joined.
      joining_rests (side 0 a p) r joined.fits (no_ports a b p p_type 0 a) joined.joining (one_of a b p p_type IsRegular regular)
      (one_of a b p p_type (λ (z : Plan). All LiteralFits z.parts) literals) (one_of a b p p_type Rests rests)
      (first_composes a b p p_type r joined.fits joined.joining),
  λ r joined.
      joining_rests (side (count a) b p) r joined.fits (no_ports a b p p_type (count a) b) joined.joining (one_of a b p p_type IsRegular regular)
      (one_of a b p p_type (λ (z : Plan). All LiteralFits z.parts) literals) (one_of a b p p_type Rests rests)
      (second_composes a b p p_type r joined.fits joined.joining),
)
