-- The parts of a child's plan are parts of its node's, and are told by them.
use Rattle.std.specs.Prelude.{◌+◌, ◌-◌, ◌<◌, ◌≤◌, ◌⊎◌, length, nat_eq, nat_lt, slice_get, None, Contains}
use Rattle.std.proofs.Common.{◌≡◌, ℕ, suc, Bool, true, false, not, List, [], ◌∷◌, Option, Some, inl, inr, refl, sym, ◌∙◌, ap, subst, arith, if◌then◌else◌}
use Rattle.std.proofs.lemmas.Bool.Decides.{nat_tests}
use Rattle.std.proofs.lemmas.Option.{slice_get_within, none-some}
use Rattle.std.proofs.lemmas.Bool.{lt-ltb, ltb-true, cases_lt}
use Rattle.gos_types.proofs.ListLemmas.{element_at}
use Rattle.gos_plan.specs.Kinds.{Part}
use Rattle.gos_plan.specs.Plans.{End, PartEnd, ResultEnd, Plan}
use Rattle.gos_ties.specs.declared.points.Place.TheVariants as places
use Rattle.gos_joining.specs.webs.Webs.{Of, Within, Tie}
use Rattle.gos_compile.specs.Wiring.{parts_of}
use Rattle.gos_terms.specs.wired.Wired.{Source, Own, Supplied, Placing, IsFrom, placed, source_dot}
use Rattle.gos_terms.specs.stages.Lodging.{Spot, spot_if}
use Rattle.gos_terms.specs.stages.Housing.{IsOutsider, IsThere}
use Rattle.gos_terms.specs.stages.Folding.{Lead, AtOwn, AtResult, of_own, Child, is_used, lodge, in_range, spot_dot, asks_child, child_back, child_source, part_of_dot, IsChild, IsLaid}
use Rattle.gos_terms.specs.stages.Folded.{HasChild, ChildIsPart}
use Rattle.gos_terms.proofs.stages.PartHomeLemmas.{numbers_are_at_home}
use Rattle.gos_terms.proofs.stages.HousingLemmas.{parts_are_from, parts_are_outsiders, homes_are_there, far_is_nothing, first_is_kept}
use Rattle.gos_terms.proofs.stages.ChildBackLemmas.{own_back, plain_share, spot_used, used_so}

pub told_range : (a n k : ℕ) → in_range a n k ≡ true → (a ≤ k) × (k < a + n)
told_range a n k h = (grind (arith, nat_tests, h), grind (arith, nat_tests, h))

module _ (f : Child) (ts : List Tie) (pl plc : Placing) (is : IsChild f ts) where
  -- a part of what stands for a number
  pub plain_source : (z : Source) (h : ℕ) → IsOutsider (length f.splits) z → child_back f (source_dot f.first z h) ≡ spot_dot ((lodge f).home (source_dot f.first z h))
  plain_source (Own y) h lt = plain_share f ts pl is (f.first + y) h (omega (arith, lt))
  plain_source (Supplied n k) h it = refl

  outsider : (n k : ℕ) → IsOutsider (length f.splits) ((lodge f).part n k)
  outsider n k = parts_are_outsiders f.types f.first (is_used f) f.splits f.env n k

  pub supplied_back : (n k h : ℕ) → Contains f.uses n → k < length ((lodge f).env n).plan.parts
      → child_back f (source_dot f.first ((lodge f).part n k) h) ≡ spot_dot (spot_if (not ((lodge f).spare n k h)) n (PartEnd k h))
  supplied_back n k h there lt =
      plain_source ((lodge f).part n k) h (outsider n k)
      ∙ ap spot_dot ((numbers_are_at_home f.types f.first (is_used f) f.splits f.env f.numbers n is.tidy (is.scope n there).1 (used_so f ts pl is n there)).parts k h lt)

  pub own_source_back : (k h : ℕ) → k < length (parts_of f.types f.term)
      → child_back f (source_dot f.first (Own (f.off + k)) h) ≡ Some (source_dot (f.first + f.off) (Own k) h)
  own_source_back k h lt =
      let same : f.first + f.off + k ≡ f.first + (f.off + k) = omega arith in
      subst (λ (r : ℕ). child_back f (Within 0 (Of (PartEnd r h))) ≡ Some (Within 0 (Of (PartEnd (f.first + f.off + k) h)))) same
      (own_back f ts pl is (places.Part (f.first + f.off + k)) h (omega arith, omega (arith, lt)))

  -- at the first handshake
  pub first_back : (s : Source) (y : Part) → IsFrom (parts_of f.types f.term) f.uses (lodge f).env y s
      → child_back f (source_dot f.first (child_source f s) 0) ≡ Some (source_dot (f.first + f.off) s 0)
  first_back (Own k) y at = own_source_back k 0 (slice_get_within (parts_of f.types f.term) k y at)
  first_back (Supplied n k) y (there, at) =
      supplied_back n k 0 there (slice_get_within ((lodge f).env n).plan.parts k y at)
      ∙ ap (λ (b : Bool). spot_dot (spot_if (not b) n (PartEnd k 0)))
      (first_is_kept f.types f.first (is_used f) f.splits f.env n k)

  pub number_of_source : (s : Source) → part_of_dot f plc (Some (source_dot (f.first + f.off) s 0)) ≡ Some (placed plc s)
  number_of_source (Own k) = let same : f.first + f.off + k - (f.first + f.off) ≡ k = omega arith in ap (λ (j : ℕ). Some (plc.own j)) same
  number_of_source (Supplied n k) = refl

  module _ (own : List Part) (r c : Plan) (has : HasChild f own r.outcome c) (laid : IsLaid own f.numbers f.env pl r)
      (laidc : IsLaid (parts_of f.types f.term) f.uses (lodge f).env plc c) where
    abbrev cut_part : ℕ → ℕ
    cut_part j = placed pl (child_source f (plc.source j))

    abbrev cut_number : ℕ → Option ℕ
    cut_number j = if nat_lt j (length r.parts) then part_of_dot f plc (child_back f (source_dot f.first (pl.source j) 0)) else None

    pub source_from : (y : Part) (s : Source) → IsFrom (parts_of f.types f.term) f.uses (lodge f).env y s → IsFrom own f.numbers f.env y (child_source f s)
    source_from y (Own k) at = has.child k y at
    source_from y (Supplied n k) (there, at) =
        parts_are_from f.types f.first (is_used f) f.splits f.env f.numbers own n k y is.tidy is.split has.shares (is.scope n there).0 at

    -- by its source
    pub part_lies : (s : Source) (y : Part) → IsFrom (parts_of f.types f.term) f.uses (lodge f).env y s
        → (slice_get r.parts (placed pl (child_source f s)) ≡ Some y) × (pl.source (placed pl (child_source f s)) ≡ child_source f s)
    part_lies s y from = laid.parts y (child_source f s) (source_from y s from)

    pub number_so : (s : Source) (y : Part) → IsFrom (parts_of f.types f.term) f.uses (lodge f).env y s → cut_number (placed pl (child_source f s)) ≡ Some (placed plc s)
    number_so s y from =
        let (at, same) = part_lies s y from in
        ap (λ (b : Bool). if b then part_of_dot f plc (child_back f (source_dot f.first (pl.source (placed pl (child_source f s))) 0)) else None)
        (lt-ltb (placed pl (child_source f s)) (length r.parts) (slice_get_within r.parts (placed pl (child_source f s)) y at))
        ∙ (ap (λ (z : Source). part_of_dot f plc (child_back f (source_dot f.first z 0))) same
        ∙ (ap (part_of_dot f plc) (first_back s y from) ∙ number_of_source s))

    pub parts_so : (j : ℕ) (y : Part) → slice_get c.parts j ≡ Some y → (slice_get r.parts (cut_part j) ≡ Some y) × (cut_number (cut_part j) ≡ Some j)
    parts_so j y at =
        let (from, same) = laidc.no_more j y at in ((part_lies (plc.source j) y from).0, number_so (plc.source j) y from ∙ ap Some same)

    -- and back
    abbrev Told : ℕ → ℕ → Type 0
    Told i j = (cut_part j ≡ i) × ((y : Part) × (slice_get c.parts j ≡ Some y))

    back_of : (s : Source) (y : Part) (i j : ℕ) → IsFrom (parts_of f.types f.term) f.uses (lodge f).env y s → placed pl (child_source f s) ≡ i → placed plc s ≡ j → Told i j
    back_of s y i j from at_i at_j =
        let (at, same) = laidc.parts y s from in
        subst (Told i) at_j (ap (λ (z : Source). placed pl (child_source f z)) same ∙ at_i, (y, at))

    -- a spot that is told
    by_spot : (s : Source) (i j : ℕ) → IsThere (length f.splits) f.numbers f.env s → placed pl s ≡ i → (a : Option Spot) → (lodge f).home (source_dot f.first s 0) ≡ a
        → part_of_dot f plc (spot_dot a) ≡ Some j → Told i j
    by_spot s i j there at_i None at e = absurd (none-some j e)
    by_spot s i j there at_i (Some z) at e =
        let it = homes_are_there f.types f.first (is_used f) f.splits f.env f.numbers s 0 z is.tidy there at in
        let (y, listed) = element_at ((lodge f).env z.number).plan.parts it.part it.within in
        let number : Some (plc.supplied z.number it.part) ≡ Some j = sym (ap (λ (d : End). part_of_dot f plc (Some (Within (suc z.number) (Of d)))) it.end) ∙ e in
        let same : plc.supplied z.number it.part ≡ j = cc number in
        back_of (Supplied z.number it.part) y i j (spot_used f ts pl is (source_dot f.first s 0) z at, listed) (ap (placed pl) it.from ∙ at_i) same

    -- a part of the node
    asked_none : (ls : List Lead) (k h j : ℕ) → part_of_dot f plc (of_own ls k h) ≡ Some j → ⊥
    asked_none [] k h j e = none-some j e
    asked_none (AtOwn s ∷ ls) k h j e = by_test (nat_eq h s) e (asked_none ls (suc k) h j)
      where
        by_test : (b : Bool) → part_of_dot f plc (if b then Some (Within 0 (Of (ResultEnd k))) else of_own ls (suc k) h) ≡ Some j
            → (part_of_dot f plc (of_own ls (suc k) h) ≡ Some j → ⊥) → ⊥
        by_test true e more = none-some j e
        by_test false e more = more e
    asked_none (AtResult s ∷ ls) k h j e = asked_none ls (suc k) h j e

    by_own : (q i j : ℕ) → placed pl (Own q) ≡ i → part_of_dot f plc (child_back f (source_dot f.first (Own q) 0)) ≡ Some j → Told i j
    by_own q i j at_i e = by_asking (nat_eq (f.first + q) (f.first + f.own)) refl e
      where
        in_child : in_range (f.first + f.off) (length (parts_of f.types f.term)) (f.first + q) ≡ true → Some (plc.own (f.first + q - (f.first + f.off))) ≡ Some j → Told i j
        in_child t e =
            let (le, lt) = told_range (f.first + f.off) (length (parts_of f.types f.term)) (f.first + q) t in
            let k : ℕ = q - f.off in
            let same : f.off + (q - f.off) ≡ q = omega (arith, le) in
            let number : f.first + q - (f.first + f.off) ≡ q - f.off = omega arith in
            let (y, listed) = element_at (parts_of f.types f.term) (q - f.off) (omega (arith, lt, le)) in
            let is_j : plc.own (f.first + q - (f.first + f.off)) ≡ j = cc e in
            back_of (Own (q - f.off)) y i j listed (ap (λ (m : ℕ). placed pl (Own m)) same ∙ at_i) (ap plc.own (sym number) ∙ is_j)

        by_home : (b : Bool) → in_range (f.first + f.off) (length (parts_of f.types f.term)) (f.first + q) ≡ b
            → part_of_dot f plc (if b then Some (Within 0 (Of (PartEnd (f.first + q) 0))) else spot_dot ((lodge f).home (Within 0 (Of (PartEnd (f.first + q) 0))))) ≡ Some j → Told i j
        by_home true t e = in_child t e
        by_home false t e = by_size (cases_lt q (length f.splits))
          where
            by_size : (q < length f.splits) ⊎ (length f.splits ≤ q) → Told i j
            by_size (inl lt) = by_spot (Own q) i j lt at_i ((lodge f).home (source_dot f.first (Own q) 0)) refl e
            by_size (inr le) =
                let none = far_is_nothing f.types f.first (is_used f) f.splits f.env q 0 le in
                absurd (none-some j (sym (ap (λ (a : Option Spot). part_of_dot f plc (spot_dot a)) none) ∙ e))

        by_asking : (b : Bool) → nat_eq (f.first + q) (f.first + f.own) ≡ b
            → part_of_dot f plc
            (if b then asks_child f 0
            else if in_range (f.first + f.off) (length (parts_of f.types f.term)) (f.first + q) then Some (Within 0 (Of (PartEnd (f.first + q) 0)))
            else spot_dot ((lodge f).home (Within 0 (Of (PartEnd (f.first + q) 0))))) ≡ Some j → Told i j
        by_asking true t e = absurd (asked_none f.out 0 0 j e)
        by_asking false t e = by_home (in_range (f.first + f.off) (length (parts_of f.types f.term)) (f.first + q)) refl e

    by_source : (s : Source) (y : Part) (i j : ℕ) → IsFrom own f.numbers f.env y s → placed pl s ≡ i
        → part_of_dot f plc (child_back f (source_dot f.first s 0)) ≡ Some j → Told i j
    by_source (Own q) y i j from at_i e = by_own q i j at_i e
    by_source (Supplied n k) y i j (there, at) at_i e =
        by_spot (Supplied n k) i j (there, slice_get_within (f.env n).plan.parts k y at) at_i ((lodge f).home (source_dot f.first (Supplied n k) 0)) refl e

    pub numbers_so : (i j : ℕ) → cut_number i ≡ Some j → Told i j
    numbers_so i j e = by_size (nat_lt i (length r.parts)) refl e
      where
        by_size : (b : Bool) → nat_lt i (length r.parts) ≡ b
            → (if b then part_of_dot f plc (child_back f (source_dot f.first (pl.source i) 0)) else None) ≡ Some j → Told i j
        by_size false t e = absurd (none-some j e)
        by_size true t e =
            let (y, listed) = element_at r.parts i (ltb-true i (length r.parts) t) in
            let (from, same) = laid.no_more i y listed in
            by_source (pl.source i) y i j from same e

pub child_is_part : ChildIsPart
child_is_part f own ts pl plc r c is has laid laidc =
    record { parts = parts_so f ts pl plc is own r c has laid laidc; numbers = numbers_so f ts pl plc is own r c has laid laidc }
