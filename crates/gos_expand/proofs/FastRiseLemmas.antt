-- Ranks that go up along the passages of Shares made by number do so along those of Shares that follow them.
--
-- Read first: Fast, FastRuns; FastOrderLemmas; Pairs of gos_fast_share. A Share that follows ranks passes on where one made by number
-- does, and from a request to what passes on from a source's side behind it.
use Rattle.std.proofs.Common.{◌≡◌, ℕ, suc, ◌+◌, ◌<◌, ◌≤◌, true, List, [], ◌∷◌, ◌++◌, Option, Some, length, slice_get, refl, sym, ◌∙◌, ap, subst, arith}
use Rattle.std.proofs.lemmas.Bool.{and_parts}
use Rattle.std.proofs.lemmas.List.{length-map, length-append}
use Rattle.gos_types.specs.Types.{Type'}
use Rattle.gos_plan.specs.Kinds.{Part, Skip, Lit, Seq, Par, If, While, Op, Not, Assign, Deref, Local, Array, Share, Contact, contacts_of, part_contacts, other_side, turned_contact}
use Rattle.gos_plan.specs.Plans.{End, PartEnd, Plan}
use Rattle.gos_macro.specs.Law.{Order}
use Rattle.gos_fast_share.specs.Thread.{asker, stands_before}
use Rattle.gos_fast_share.specs.Fast.{sets, fast_passing}
use Rattle.gos_fast_share.specs.Order.{IsByRank}
use Rattle.gos_fast_share.specs.laws.Pairs.{AtPairs, AtAllPairs, Passes, where_it_passes, all_pass}
use Rattle.gos_expand.specs.Gates.{Making, passing_of}
use Rattle.gos_expand.specs.Starts.{Laying}
use Rattle.gos_expand.specs.Facts.{PassesOn, order_at}
use Rattle.gos_expand.specs.Fast.{numbers_from, making_by_number, by_number}
use Rattle.gos_expand.specs.FastRuns.{FollowersRise}
use Rattle.gos_expand.proofs.FastOrderLemmas.{no_higher, above_all, all_below}

-- a Share has three handshakes for each of its type
pub three_sides : (t : Type') → length (part_contacts (Share t)) ≡ length (contacts_of t) + (length (contacts_of t) + length (contacts_of t))
three_sides t =
    let ks : List Contact = contacts_of t in
    let all = length-append (other_side ks) (ks ++ ks) in
    let source = length-map ks turned_contact in
    let callers = length-append ks ks in
    omega (arith, all, source, callers)

-- the order by number
abbrev pub numbered : Type' → List ℕ
numbered t = numbers_from 0 (length (part_contacts (Share t)))

-- from one handshake of the Share to another: a handshake that stands no lower passes on there, by number
abbrev Leads : Type' → Order → ℕ → ℕ → Type 0
Leads t rank from to =
    from < length (part_contacts (Share t))
    → (j : ℕ) × (j < length (part_contacts (Share t))) × (fast_passing (contacts_of t) (numbered t) j to ≡ true) × (rank from ≤ rank j)

module _ (t : Type') (order : List ℕ) (rank : Order) (follows : IsByRank t order rank) where
  -- what stands in the order before a source's side has no higher rank
  lower : (e j : ℕ) → j < length (contacts_of t) → stands_before e j order ≡ true → rank e ≤ rank j
  lower e j low before =
      let top : ℕ = above_all rank (length (part_contacts (Share t))) in
      let is = follows top (all_below rank (length (part_contacts (Share t)))) in
      let sides = three_sides t in
      no_higher rank top (part_contacts (Share t)) e j (omega (arith, low, sides)) (ap (stands_before e j) is ∙ before)

  one_pair : (j : ℕ) → j < length (contacts_of t) → AtPairs (Passes (fast_passing (contacts_of t) (numbered t))) (contacts_of t) (numbered t) j
      → AtPairs (Leads t rank) (contacts_of t) order j
  one_pair j low each =
      record {
        up = ((λ here. (length (contacts_of t) + j, here, each.up.0, omega arith)), (λ here. (length (contacts_of t) + length (contacts_of t) + j, here, each.up.1, omega arith)));
        down = ((λ here. (j, here, each.down.0, omega arith)), (λ here. (j, here, each.down.1, omega arith)));
        by_request = λ e before.
            let stands = (and_parts (sets (asker (contacts_of t) e)) (stands_before e j order) before).1 in
            let sides = three_sides t in
            let within : j < length (part_contacts (Share t)) = omega (arith, low, sides) in (
              λ here. (j, within, each.down.0, lower e j low stands),
              λ here. (j, within, each.down.1, lower e j low stands),
            );
      }

  all_pairs : (j : ℕ) (ls : List Contact) → j + length ls ≡ length (contacts_of t)
      → AtAllPairs (Passes (fast_passing (contacts_of t) (numbered t))) (contacts_of t) (numbered t) j ls
      → AtAllPairs (Leads t rank) (contacts_of t) order j ls
  all_pairs j [] all each = tt
  all_pairs j (l ∷ ls) all each = (one_pair j (omega (arith, all)) each.0, all_pairs (suc j) ls (omega (arith, all)) each.1)

  pub leads : (from to : ℕ) → fast_passing (contacts_of t) order from to ≡ true → Leads t rank from to
  leads from to passes =
      where_it_passes (Leads t rank) (contacts_of t) order 0 from to (contacts_of t)
      (all_pairs 0 (contacts_of t) (omega arith) (all_pass (contacts_of t) (numbered t))) passes

-- the same passage by another handshake of the part, of gates made by number
moved : (p : Plan) (lay : Laying) (i from j : ℕ) (to : End) (x : PassesOn lay p i from to) → j < length (part_contacts x.part)
    → passing_of (making_by_number (Some x.part)) x.part j x.out ≡ true → PassesOn (by_number p lay.keep) p i j to
moved p lay i from j to x low passes =
    record {
      joint = x.joint;
      passed = x.passed;
      way = x.way;
      part = x.part;
      out = x.out;
      stands = x.stands;
      straight = x.straight;
      leaves = x.leaves;
      there = x.there;
      from_there = low;
      out_there = x.out_there;
      passes = subst (λ (o : Option Part). passing_of (making_by_number o) x.part j x.out ≡ true) (sym x.there) passes;
      arrives = x.arrives;
    }

pub followers_rise : FollowersRise
followers_rise p lay rank rises follow i from to x = by_kind x.part refl
  where
    -- a Share passes on by one of its handshakes that stands no lower
    of_share : (t : Type') → x.part ≡ Share t → rank (PartEnd i from) < rank to
    of_share t is =
        let there : slice_get p.parts i ≡ Some (Share t) = x.there ∙ ap (λ (k : Part). Some k) is in
        let (order, made, follows) = follow.shares i t there in
        let low : from < length (part_contacts (Share t)) = subst (λ (k : Part). from < length (part_contacts k)) is x.from_there in
        let passes : fast_passing (contacts_of t) order from x.out ≡ true =
        ((λ d. passing_of (sym made d) (sym is d) from x.out) ∙ x.passes) in
        let (j, here, goes, no_lower) = leads t order (order_at rank i) follows from x.out passes low in
        let on = moved p lay i from j to x (subst (λ (k : Part). j < length (part_contacts k)) (sym is) here)
        (subst (λ (k : Part). passing_of (making_by_number (Some k)) k j x.out ≡ true) (sym is) goes) in
        let up = rises i j to on in
        omega (arith, no_lower, up)

    -- what else there is passes on as by number
    of_other : ((m : Making) → passing_of m x.part from x.out ≡ passing_of (making_by_number (Some x.part)) x.part from x.out) → rank (PartEnd i from) < rank to
    of_other same = rises i from to (moved p lay i from from to x x.from_there (sym (same (lay.making i)) ∙ x.passes))

    by_kind : (k : Part) → x.part ≡ k → rank (PartEnd i from) < rank to
    by_kind Skip is = of_other (λ m. rw is refl)
    by_kind (Lit w k) is = of_other (λ m. rw is refl)
    by_kind (Seq v) is = of_other (λ m. rw is refl)
    by_kind Par is = of_other (λ m. rw is refl)
    by_kind (If v) is = of_other (λ m. rw is refl)
    by_kind While is = of_other (λ m. rw is refl)
    by_kind (Op op w) is = of_other (λ m. rw is refl)
    by_kind (Not w) is = of_other (λ m. rw is refl)
    by_kind (Assign w) is = of_other (λ m. rw is refl)
    by_kind (Deref w) is = of_other (λ m. rw is refl)
    by_kind (Local w v) is = of_other (λ m. rw is refl)
    by_kind (Array w n v) is = of_other (λ m. rw is refl)
    by_kind (Share t) is = of_share t is
