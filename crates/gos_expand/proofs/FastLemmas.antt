-- The fast circuit of a plan that can be laid out is accepted and small, its cycles are lists of the plan, its outputs are silent, and
-- a plan has one.
--
-- Read first: Fast, FastRuns; FastRiseLemmas, RunLemmas.
use Rattle.std.proofs.Common.{◌≡◌, ◌⊎◌, ℕ, zero, suc, ◌≤◌, List, Option, Some, None, length, slice_get, inl, inr, refl, sym, ◌∙◌, ap, subst, arith}
use Rattle.gos_types.specs.Types.{Type'}
use Rattle.gos_netlist.specs.Nets.{Netlist}
use Rattle.gos_netlist.specs.Settling.{IsRun}
use Rattle.gos_netcheck.specs.Accepted.{IsAccepted}
use Rattle.gos_pace.specs.RunProtocol.{InputsInRange}
use Rattle.gos_pace.specs.Silence.{InputsAreClean, OutputsAreSilent}
use Rattle.gos_pace.specs.Cycles.{CyclesAreLists}
use Rattle.gos_plan.specs.Kinds.{Part, Skip, Lit, Seq, Par, If, While, Op, Not, Assign, Deref, Local, Array, Share, part_contacts}
use Rattle.gos_plan.specs.Plans.{End, PartEnd, Plan}
use Rattle.gos_plan.specs.Seen.{plan_of}
use Rattle.gos_plan.specs.Size.{plan_size}
use Rattle.gos_macro.specs.Law.{Order}
use Rattle.gos_fast_share.specs.Order.{IsByRank}
use Rattle.gos_expand.specs.Gates.{Making, ForEach, ForOrder}
use Rattle.gos_expand.specs.Kept.{IsMadeFor, IsWhole}
use Rattle.gos_expand.specs.Starts.{Keep, Laying}
use Rattle.gos_expand.specs.Laid.{Seat, seat_of, circuit_cells, circuit}
use Rattle.gos_expand.specs.Facts.{PassesOn, Rises, order_at}
use Rattle.gos_expand.specs.Acceptance.{AreWhole}
use Rattle.gos_expand.specs.Runs.{AreMadeFor}
use Rattle.gos_expand.specs.Fast.{by_number, AreDepths, SharesFollow, IsFast}
use Rattle.gos_expand.specs.FastRuns.{FastIsAccepted, FastIsSmall, FastMakesLists, FastStaysSilent, FastIsOne}
use Rattle.gos_expand.proofs.KeptLemmas.{all_paths}
use Rattle.gos_expand.proofs.AcceptLemmas.{circuit_accepted}
use Rattle.gos_expand.proofs.FewLemmas.{circuit_small}
use Rattle.gos_expand.proofs.RunLemmas.{circuit_makes_lists, rings_cycles, ringless}
use Rattle.gos_expand.proofs.SilentRunLemmas.{circuit_stays_silent}
use Rattle.gos_expand.proofs.OneLayoutLemmas.{few_is_one}
use Rattle.gos_expand.proofs.FastOrderLemmas.{as_long, above_all, all_below}
use Rattle.gos_expand.proofs.FastRiseLemmas.{followers_rise}

-- a way to lay out that is fast has ranks that go up
fast_rises : (p : Plan) (lay : Laying) (fast : IsFast p lay) → Rises lay p fast.rank
fast_rises p lay fast = followers_rise p lay fast.rank fast.depths.rises fast.follow

-- and gates that are made for them
fast_made : (p : Plan) (lay : Laying) (fast : IsFast p lay) → AreMadeFor lay p fast.rank
fast_made p lay fast i k there = by_kind k refl
  where
    of_other : (l : Part) → ((t : Type') → l ≡ Share t → ⊥) → (m : Making) → IsMadeFor m l (order_at fast.rank i)
    of_other Skip other ForEach = tt
    of_other Skip other (ForOrder order) = tt
    of_other (Lit w n) other ForEach = tt
    of_other (Lit w n) other (ForOrder order) = tt
    of_other (Seq v) other ForEach = tt
    of_other (Seq v) other (ForOrder order) = tt
    of_other Par other ForEach = tt
    of_other Par other (ForOrder order) = tt
    of_other (If v) other ForEach = tt
    of_other (If v) other (ForOrder order) = tt
    of_other While other ForEach = tt
    of_other While other (ForOrder order) = tt
    of_other (Op op w) other ForEach = tt
    of_other (Op op w) other (ForOrder order) = tt
    of_other (Not w) other ForEach = tt
    of_other (Not w) other (ForOrder order) = tt
    of_other (Assign w) other ForEach = tt
    of_other (Assign w) other (ForOrder order) = tt
    of_other (Deref w) other ForEach = tt
    of_other (Deref w) other (ForOrder order) = tt
    of_other (Local w v) other ForEach = tt
    of_other (Local w v) other (ForOrder order) = tt
    of_other (Array w n v) other ForEach = tt
    of_other (Array w n v) other (ForOrder order) = tt
    of_other (Share t) other m = absurd (other t refl)

    by_kind : (l : Part) → k ≡ l → IsMadeFor (lay.making i) k (order_at fast.rank i)
    by_kind (Share t) is =
        let (order, made, follows) = fast.follow.shares i t (there ∙ ap (λ (x : Part). Some x) is) in
        subst (λ (x : Part). IsMadeFor (lay.making i) x (order_at fast.rank i)) (sym is)
        (subst (λ (m : Making). IsMadeFor m (Share t) (order_at fast.rank i)) (sym made) follows)
    by_kind Skip is = of_other k (λ t same. cc (is, same)) (lay.making i)
    by_kind (Lit w n) is = of_other k (λ t same. cc (is, same)) (lay.making i)
    by_kind (Seq v) is = of_other k (λ t same. cc (is, same)) (lay.making i)
    by_kind Par is = of_other k (λ t same. cc (is, same)) (lay.making i)
    by_kind (If v) is = of_other k (λ t same. cc (is, same)) (lay.making i)
    by_kind While is = of_other k (λ t same. cc (is, same)) (lay.making i)
    by_kind (Op op w) is = of_other k (λ t same. cc (is, same)) (lay.making i)
    by_kind (Not w) is = of_other k (λ t same. cc (is, same)) (lay.making i)
    by_kind (Assign w) is = of_other k (λ t same. cc (is, same)) (lay.making i)
    by_kind (Deref w) is = of_other k (λ t same. cc (is, same)) (lay.making i)
    by_kind (Local w v) is = of_other k (λ t same. cc (is, same)) (lay.making i)
    by_kind (Array w n v) is = of_other k (λ t same. cc (is, same)) (lay.making i)

pub fast_accepted : FastIsAccepted
fast_accepted p root net can (lay, fast, is) =
    let plan : Plan = plan_of p in
    subst IsAccepted (sym is)
    (circuit_accepted lay p root can (λ cycle. ringless lay plan fast.rank (fast_rises plan lay fast) ((rings_cycles all_paths lay p root can).0 cycle)))

-- an order of ranks has all handshakes
order_whole : (t : Type') (order : List ℕ) (rank : Order) → IsByRank t order rank → length order ≡ length (part_contacts (Share t))
order_whole t order rank follows =
    let n : ℕ = length (part_contacts (Share t)) in
    let is = follows (above_all rank n) (all_below rank n) in
    ap (λ (es : List ℕ). length es) (sym is) ∙ as_long rank (above_all rank n) (part_contacts (Share t)) (all_below rank n)

fast_whole : (p : Plan) (lay : Laying) (fast : IsFast p lay) → AreWhole lay p
fast_whole p lay fast i k there = by_making (lay.making i) k refl there
  where
    by_making : (m : Making) (l : Part) → lay.making i ≡ m → slice_get p.parts i ≡ Some l → IsWhole m l
    by_making ForEach l made at = tt
    by_making (ForOrder order) (Share t) made at =
        let (other, also, follows) = fast.follow.shares i t at in
        let same : order ≡ other = cc (made, also) in
        ap (λ (es : List ℕ). length es) same ∙ order_whole t other (order_at fast.rank i) follows
    by_making (ForOrder order) Skip made at = tt
    by_making (ForOrder order) (Lit w n) made at = tt
    by_making (ForOrder order) (Seq v) made at = tt
    by_making (ForOrder order) Par made at = tt
    by_making (ForOrder order) (If v) made at = tt
    by_making (ForOrder order) While made at = tt
    by_making (ForOrder order) (Op op w) made at = tt
    by_making (ForOrder order) (Not w) made at = tt
    by_making (ForOrder order) (Assign w) made at = tt
    by_making (ForOrder order) (Deref w) made at = tt
    by_making (ForOrder order) (Local w v) made at = tt
    by_making (ForOrder order) (Array w n v) made at = tt

pub fast_small : FastIsSmall
fast_small p root net can (lay, fast, is) =
    subst (λ (n : Netlist). length n.cells ≤ plan_size (plan_of p)) (sym is) (circuit_small lay p root can (fast_whole (plan_of p) lay fast))

pub fast_makes_lists : FastMakesLists
fast_makes_lists p root net ins vs can (lay, fast, is) range run =
    let plan : Plan = plan_of p in
    subst (λ (n : Netlist). CyclesAreLists plan n vs) (sym is)
    (circuit_makes_lists all_paths lay p root fast.rank ins vs can (fast_rises plan lay fast) (fast_made plan lay fast)
    (subst (λ (n : Netlist). InputsInRange n ins) is range) (subst (λ (n : Netlist). IsRun n.cells ins vs) is run))

pub fast_stays_silent : FastStaysSilent
fast_stays_silent p root net ins vs can (lay, fast, is) clean run =
    let plan : Plan = plan_of p in
    subst (λ (n : Netlist). OutputsAreSilent n vs) (sym is)
    (circuit_stays_silent all_paths lay p root fast.rank ins vs can (fast_rises plan lay fast) (fast_made plan lay fast)
    (subst (λ (n : Netlist). InputsAreClean n ins) is clean) (subst (λ (n : Netlist). IsRun n.cells ins vs) is run))

-- depths are no greater than any ranks that are depths
no_deeper : (lay : Laying) (p : Plan) (rank other : End → ℕ) → AreDepths lay p rank → AreDepths lay p other
    → (n : ℕ) (e : End) → rank e ≤ n → rank e ≤ other e
no_deeper lay p rank other one two zero e low = omega (arith, low)
no_deeper lay p rank other one two (suc n) e low = by_seat (seat_of p e) refl (λ i from. no_deeper lay p rank other one two n (PartEnd i from))
  where
    by_seat : (o : Option Seat) → seat_of p e ≡ o → ((i from : ℕ) → rank (PartEnd i from) ≤ n → rank (PartEnd i from) ≤ other (PartEnd i from)) → rank e ≤ other e
    by_seat None none go = let nothing = one.loose e none in omega (arith, nothing)
    by_seat (Some s) seat go = by_depth (one.least e s seat) (two.least e s seat)
      where
        by_depth : (rank e ≡ 1) ⊎ ((i from : ℕ) × PassesOn lay p i from e × (rank e ≡ suc (rank (PartEnd i from))))
            → (other e ≡ 1) ⊎ ((i from : ℕ) × PassesOn lay p i from e × (other e ≡ suc (other (PartEnd i from)))) → rank e ≤ other e
        by_depth (inl first) (inl here) = omega (arith, first, here)
        by_depth (inl first) (inr (i, from, on, here)) = omega (arith, first, here)
        by_depth (inr (i, from, on, is)) least =
            let before = go i from (omega (arith, low, is)) in
            let up = two.rises i from e on in
            omega (arith, is, before, up)

one_depth : (lay : Laying) (p : Plan) (rank other : End → ℕ) → AreDepths lay p rank → AreDepths lay p other → rank ≡ other
one_depth lay p rank other one two = λ d e. same e d
  where
    same : (e : End) → rank e ≡ other e
    same e =
        let up = no_deeper lay p rank other one two (rank e) e (omega arith) in
        let down = no_deeper lay p other rank two one (other e) e (omega arith) in
        omega (arith, up, down)

-- ranks have one order
one_order : (t : Type') (order other : List ℕ) (rank : Order) → IsByRank t order rank → IsByRank t other rank → order ≡ other
one_order t order other rank one two =
    let n : ℕ = length (part_contacts (Share t)) in
    sym (one (above_all rank n) (all_below rank n)) ∙ two (above_all rank n) (all_below rank n)

one_making : (p : Plan) (lay other : Laying) (rank : End → ℕ) → SharesFollow lay p rank → SharesFollow other p rank → (i : ℕ) → lay.making i ≡ other.making i
one_making p lay other rank one two i = by_part (slice_get p.parts i) refl
  where
    others : (k : Option Part) → slice_get p.parts i ≡ k → ((t : Type') → k ≡ Some (Share t) → ⊥) → lay.making i ≡ other.making i
    others k there none =
        let apart : (t : Type') → slice_get p.parts i ≡ Some (Share t) → ⊥ = λ t is. none t (sym there ∙ is) in
        one.others i apart ∙ sym (two.others i apart)

    by_part : (k : Option Part) → slice_get p.parts i ≡ k → lay.making i ≡ other.making i
    by_part None there = others None there (λ t is. cc is)
    by_part (Some (Share t)) there =
        let (order, made, follows) = one.shares i t there in
        let (order_too, also, follow_too) = two.shares i t there in
        made ∙ (ap (λ (es : List ℕ). ForOrder es) (one_order t order order_too (order_at rank i) follows follow_too) ∙ sym also)
    by_part (Some Skip) there = others (Some Skip) there (λ t is. cc is)
    by_part (Some (Lit w n)) there = others (Some (Lit w n)) there (λ t is. cc is)
    by_part (Some (Seq v)) there = others (Some (Seq v)) there (λ t is. cc is)
    by_part (Some Par) there = others (Some Par) there (λ t is. cc is)
    by_part (Some (If v)) there = others (Some (If v)) there (λ t is. cc is)
    by_part (Some While) there = others (Some While) there (λ t is. cc is)
    by_part (Some (Op op w)) there = others (Some (Op op w)) there (λ t is. cc is)
    by_part (Some (Not w)) there = others (Some (Not w)) there (λ t is. cc is)
    by_part (Some (Assign w)) there = others (Some (Assign w)) there (λ t is. cc is)
    by_part (Some (Deref w)) there = others (Some (Deref w)) there (λ t is. cc is)
    by_part (Some (Local w v)) there = others (Some (Local w v)) there (λ t is. cc is)
    by_part (Some (Array w n v)) there = others (Some (Array w n v)) there (λ t is. cc is)

pub fast_is_one : FastIsOne
fast_is_one p root net other (lay, fast, is) (lay_too, also, is_too) =
    let keeps : lay.keep ≡ lay_too.keep = few_is_one (λ keep. circuit_cells (by_number p keep) p) p lay.keep lay_too.keep fast.few also.few in
    let depths : AreDepths (by_number p lay.keep) p also.rank = subst (λ (keep : Keep). AreDepths (by_number p keep) p also.rank) (sym keeps) also.depths in
    let ranks : also.rank ≡ fast.rank = one_depth (by_number p lay.keep) p also.rank fast.rank depths fast.depths in
    let follow : SharesFollow lay_too p fast.rank = subst (λ (rank : End → ℕ). SharesFollow lay_too p rank) ranks also.follow in
    let makings : lay.making ≡ lay_too.making = λ d i. one_making p lay lay_too fast.rank fast.follow follow i d in
    let same : lay ≡ lay_too = λ d. record { keep = keeps d; making = makings d } in
    is ∙ (ap (λ (l : Laying). circuit l p root) same ∙ sym is_too)
