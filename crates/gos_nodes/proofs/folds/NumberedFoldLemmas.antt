-- The first child of `c ; c` where a number lies between the Seq and the Share.
use Rattle.std.specs.Prelude.{zero, suc, Contains}
use Rattle.std.proofs.Common.{subst, arith, inl, refl}
use Rattle.gos_plan.specs.Plans.{PartEnd, ImportEnd, ResultEnd}
use Rattle.gos_joining.specs.webs.Webs.{Dot, Of, Number, Node, Within, Tie, tie, Way, here, along, IsOfWeb, SameWays, own_web}
use Rattle.gos_joining.proofs.webs.WebLemmas.{right_is_of_its_web, same_ways}
use Rattle.gos_joining.proofs.webs.WayLemmas.{mapped_way}
use Rattle.gos_nodes.specs.windows.SmallNodes.{calls_plan, call_plan}
use Rattle.gos_nodes.proofs.windows.SmallRegionLemmas.{call_is_region}
use Rattle.gos_nodes.specs.folds.Folds.{Follows}
use Rattle.gos_nodes.specs.folds.SmallFolds.{call_dot, numbered_web, numbered_back, NumberedIsFold, UnnumberedIsNone}
use Rattle.gos_nodes.proofs.folds.SmallFoldLemmas.{its_ports, its_others, its_ends, its_comes}

-- one tie is a way
one_tie : (a b : Dot) → Contains numbered_web.ties (tie a b) → Way numbered_web.ties a b
one_tie a b has = along a b b (inl has) (here b)

between : Way numbered_web.ties (Of (PartEnd 0 0)) (Of (PartEnd 1 1))
between = along (Of (PartEnd 0 0)) (Number 0 0) (Of (PartEnd 1 1)) (inl (1, omega arith, refl)) (one_tie (Number 0 0) (Of (PartEnd 1 1)) (2, omega arith, refl))

-- the web connects what the plan's own connects
abbrev There : Tie → Type 0
There t = Way numbered_web.ties t.one t.other

each_there : (t : Tie) → Contains (own_web calls_plan).ties t → There t
each_there t (zero, l, is) = subst There is (one_tie (Of (ResultEnd 0)) (Of (PartEnd 0 2)) (0, omega arith, refl))
each_there t (suc zero, l, is) = subst There is between
each_there t (suc (suc zero), l, is) = subst There is (one_tie (Of (PartEnd 0 1)) (Of (PartEnd 1 2)) (3, omega arith, refl))
each_there t (suc (suc (suc zero)), l, is) = subst There is (one_tie (Of (PartEnd 1 0)) (Of (ImportEnd 0 0)) (4, omega arith, refl))
each_there t (suc (suc (suc (suc n))), l, is) = absurd (omega (arith, l))

abbrev without_number : Dot → Dot
without_number (Of e) = Of e
without_number (Number n h) = Of (PartEnd 0 0)
without_number (Node n h) = Node n h
without_number (Within k d) = Within k d

abbrev Here : Tie → Type 0
Here t = Way (own_web calls_plan).ties (without_number t.one) (without_number t.other)

own_tie : (a b : Dot) → Contains (own_web calls_plan).ties (tie a b) → Way (own_web calls_plan).ties a b
own_tie a b has = along a b b (inl has) (here b)

each_here : (t : Tie) → Contains numbered_web.ties t → Here t
each_here t (zero, l, is) = subst Here is (own_tie (Of (ResultEnd 0)) (Of (PartEnd 0 2)) (0, omega arith, refl))
each_here t (suc zero, l, is) = subst Here is (here (Of (PartEnd 0 0)))
each_here t (suc (suc zero), l, is) = subst Here is (own_tie (Of (PartEnd 0 0)) (Of (PartEnd 1 1)) (1, omega arith, refl))
each_here t (suc (suc (suc zero)), l, is) = subst Here is (own_tie (Of (PartEnd 0 1)) (Of (PartEnd 1 2)) (2, omega arith, refl))
each_here t (suc (suc (suc (suc zero))), l, is) =
    subst Here is (own_tie (Of (PartEnd 1 0)) (Of (ImportEnd 0 0)) (3, omega arith, refl))
each_here t (suc (suc (suc (suc (suc n)))), l, is) = absurd (omega (arith, l))

same : SameWays (own_web calls_plan) numbered_web calls_plan
same a b c d at_a at_b = (
  mapped_way (own_web calls_plan).ties numbered_web.ties (λ x. x) each_there (Of a) (Of b),
  mapped_way numbered_web.ties (own_web calls_plan).ties without_number each_here (Of a) (Of b),
)

of_numbered : IsOfWeb numbered_web calls_plan
of_numbered = same_ways (own_web calls_plan) numbered_web calls_plan same (right_is_of_its_web calls_plan call_is_region.whole_right)

-- the ties
abbrev Laid : Tie → Type 0
Laid t = Way numbered_web.ties (call_dot t.one) (call_dot t.other)

its_ways : (t : Tie) → Contains (own_web call_plan).ties t → Laid t
its_ways t (zero, l, is) = subst Laid is between
its_ways t (suc zero, l, is) = subst Laid is (one_tie (Of (PartEnd 1 0)) (Of (ImportEnd 0 0)) (4, omega arith, refl))
its_ways t (suc (suc n), l, is) = absurd (omega (arith, l))

abbrev Stays : Tie → Type 0
Stays t = Follows (own_web call_plan).ties (numbered_back t.one) (numbered_back t.other)

child_tie : (a b : Dot) → Contains (own_web call_plan).ties (tie a b) → Way (own_web call_plan).ties a b
child_tie a b has = along a b b (inl has) (here b)

its_stays : (t : Tie) → Contains numbered_web.ties t → Stays t
its_stays t (zero, l, is) = subst Stays is tt
its_stays t (suc zero, l, is) = subst Stays is (here (Of (ResultEnd 0)))
its_stays t (suc (suc zero), l, is) = subst Stays is (child_tie (Of (ResultEnd 0)) (Of (PartEnd 0 1)) (0, omega arith, refl))
its_stays t (suc (suc (suc zero)), l, is) = subst Stays is tt
its_stays t (suc (suc (suc (suc zero))), l, is) =
    subst Stays is (child_tie (Of (PartEnd 0 0)) (Of (ImportEnd 0 0)) (1, omega arith, refl))
its_stays t (suc (suc (suc (suc (suc n)))), l, is) = absurd (omega (arith, l))

pub numbered_is_fold : NumberedIsFold
numbered_is_fold =
    record {
      whole = of_numbered;
      parts = call_is_region.parts;
      numbers = call_is_region.numbers;
      ports = its_ports;
      serving = call_is_region.serving;
      others = its_others;
      ends = its_ends;
      ways = its_ways;
      stays = its_stays;
      comes = its_comes;
    }

pub unnumbered_is_none : UnnumberedIsNone
unnumbered_is_none is = is.stays (tie (Of (PartEnd 0 0)) (Number 0 0)) (1, omega arith, refl)
