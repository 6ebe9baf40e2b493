-- Ranks of ends by the depths of directions are the depths of ends.
--
-- Read first: Ranks, Directions; Fast; DirectionLemmas.
use Rattle.std.proofs.Common.{◌≡◌, ◌+◌, ◌<◌, ◌/◌, ◌⊎◌, ℕ, suc, List, inl, inr, Option, Some, refl, sym, ap, ap₂, subst, ◌∙◌, zero-add, arith}
use Rattle.std.specs.Prelude.{None}
use Rattle.gos_order.specs.Rings.{Graph, HasEdge}
use Rattle.gos_order.specs.Depths as order
use Rattle.gos_types.specs.Events.{Request, Answer}
use Rattle.gos_plan.specs.Plans.{End, PartEnd, Plan, IsRight}
use Rattle.gos_expand.specs.Starts.{Laying, place_of}
use Rattle.gos_expand.specs.Laid.{Seat, seat_of}
use Rattle.gos_expand.specs.Facts.{PassesOn, Rises, source}
use Rattle.gos_expand.specs.Fast.{AreDepths}
use Rattle.gos_expand.specs.inner.Directions.{directions, IsDirection, ArrivesAt, PassesThrough, IsInner, IsLink, AreEdges}
use Rattle.gos_expand.specs.inner.Ranks.{rank_by, rank_at}
use Rattle.gos_expand.proofs.SeatLemmas.{Seated, IsSide, seat_found}
use Rattle.gos_expand.proofs.RegisterLemmas.{seat_there}
use Rattle.gos_expand.proofs.DirectionLemmas.{direction_low, passes_on}

-- the direction of an end's seat arrives there
pub seat_arrives : (p : Plan) (e : End) (s : Seat) → seat_of p e ≡ Some s → ArrivesAt p (place_of s.joint s.way) e
seat_arrives p e s seated = by_seat (seat_found 0 p.joints e s seated)
  where
    by_seat : Seated 0 p.joints e s → ArrivesAt p (place_of s.joint s.way) e
    by_seat f = by_side f.side
      where
        number : s.joint ≡ f.place
        number = f.number ∙ zero-add f.place

        by_side : IsSide f.at_joint e s → ArrivesAt p (place_of s.joint s.way) e
        by_side (inl (end, way, other)) =
            (record { joint = f.place; way = Answer; number = ap₂ place_of number way; passed = f.at_joint; stands = f.found }, sym end)
        by_side (inr (end, way, other)) =
            (record { joint = f.place; way = Request; number = ap₂ place_of number way; passed = f.at_joint; stands = f.found }, sym end)

-- the rank of the end at which a direction arrives
pub arrival_rank : (p : Plan) (depths : List ℕ) (e : End) (a : ℕ) → IsRight p → ArrivesAt p a e → rank_at p depths e ≡ suc (order.at depths a / 2)
arrival_rank p depths e a right (x, here) =
    ap (rank_by depths) seat ∙ ap (λ (m : ℕ). suc (order.at depths m / 2)) (sym x.number)
  where
    seat : seat_of p e ≡ Some (record { joint = x.joint; way = x.way; other = source x.passed x.way })
    seat = sym (ap (seat_of p) here) ∙ seat_there p x.joint x.passed x.way right x.stands

half_rises : (a m d : ℕ) → a < m → m < d → suc (a / 2) < suc (d / 2)
half_rises a m d low high = omega (arith, low, high)

half_more : (a : ℕ) → suc (suc (suc a) / 2) ≡ suc (suc (a / 2))
half_more a = omega arith

-- they rise where what comes in passes on
ranks_rise : (lay : Laying) (p : Plan) (g : Graph) (depths : List ℕ) → IsRight p → AreEdges lay p g.edges → order.AreDepths g depths
    → Rises lay p (rank_at p depths)
ranks_rise lay p g depths right are deep i from to x = by_seat (seat_of p (PartEnd i from)) refl
  where
    d : ℕ
    d = place_of x.joint x.way

    there : IsDirection p d
    there = record { joint = x.joint; way = x.way; number = refl; passed = x.passed; stands = x.stands }

    to_rank : rank_at p depths to ≡ suc (order.at depths d / 2)
    to_rank = arrival_rank p depths to d right (there, x.arrives)

    by_seat : (o : Option Seat) → seat_of p (PartEnd i from) ≡ o → rank_at p depths (PartEnd i from) < rank_at p depths to
    by_seat None loose = let first = ap (rank_by depths) loose in omega (arith, first, to_rank)
    by_seat (Some s) seated =
        let a : ℕ = place_of s.joint s.way in
        let through : PassesThrough lay.making p a d =
        record {
          part = i;
          kind = x.part;
          there = x.there;
          from = from;
          from_there = x.from_there;
          arrives = seat_arrives p (PartEnd i from) s seated;
          to = x.out;
          to_there = x.out_there;
          leaves = (there, x.leaves);
          passes = x.passes;
        } in
        let low = deep.rise a (directions p + d) ((are a (directions p + d)).1 (inl (d, refl, through))) in
        let high = deep.rise (directions p + d) d ((are (directions p + d) d).1 (inr (there, refl, x.straight))) in
        let first = ap (rank_by depths) seated in
        let rises = half_rises (order.at depths a) (order.at depths (directions p + d)) (order.at depths d) low high in
        omega (arith, first, to_rank, rises)

-- and none is greater than it has to be
ranks_least : (lay : Laying) (p : Plan) (g : Graph) (depths : List ℕ) → IsRight p → g.nodes ≡ directions p + directions p → AreEdges lay p g.edges
    → order.AreDepths g depths
    → (e : End) (s : Seat) → seat_of p e ≡ Some s
    → (rank_at p depths e ≡ 1) ⊎ ((i from : ℕ) × PassesOn lay p i from e × (rank_at p depths e ≡ suc (rank_at p depths (PartEnd i from))))
ranks_least lay p g depths right nodes are deep e s seated =
    by_least (deep.least d (omega (arith, low, nodes)))
  where
    d : ℕ
    d = place_of s.joint s.way

    here : ArrivesAt p d e
    here = seat_arrives p e s seated

    low : d < directions p
    low = direction_low p d here.0

    rank : rank_at p depths e ≡ suc (order.at depths d / 2)
    rank = ap (rank_by depths) seated

    Least : Type 0
    Least = (rank_at p depths e ≡ 1) ⊎ ((i from : ℕ) × PassesOn lay p i from e × (rank_at p depths e ≡ suc (rank_at p depths (PartEnd i from))))

    by_part : (m a : ℕ) → IsLink lay.keep p m d → order.at depths d ≡ suc (order.at depths m) → order.at depths m ≡ suc (order.at depths a)
        → IsInner lay.making p a m ⊎ IsLink lay.keep p a m
        → Least
    by_part m a link is so (inr wrong) =
        absurd (let high = link.1 in let bound = direction_low p m wrong.0 in omega (arith, high, bound))
    by_part m a link is so (inl (c, at, through)) =
        let where_m = link.1 in
        let same : c ≡ d = omega (arith, at, where_m) in
        let begin = arrival_rank p depths (PartEnd through.part through.from) a right through.arrives in
        let deeper : order.at depths d ≡ suc (suc (order.at depths a)) = is ∙ ap suc so in
        let whole = rank ∙ (ap (λ (n : ℕ). suc (n / 2)) deeper ∙ half_more (order.at depths a)) in
        inr (
          through.part,
          through.from,
          passes_on lay p a d (record { part = through.part; number = through.from }) e (subst (λ (n : ℕ). PassesThrough lay.making p a n) same through)
              (subst (λ (n : ℕ). IsLink lay.keep p n d) where_m link) through.arrives here,
          whole ∙ ap suc (sym begin),
        )

    by_link : (m : ℕ) → order.at depths d ≡ suc (order.at depths m) → IsInner lay.making p m d ⊎ IsLink lay.keep p m d → Least
    by_link m is (inl inner) = absurd (let high = inner.1 in omega (arith, high, low))
    by_link m is (inr link) =
        let where_m = link.1 in
        elim (deep.least m (omega (arith, low, nodes, where_m))) [
          | inl none ↦ inl (rank ∙ ap (λ (n : ℕ). suc (n / 2)) (is ∙ ap suc none))
          | inr (a, edge, so) ↦ by_part m a link is so ((are a m).0 edge)
        ]

    by_least : (order.at depths d ≡ 0) ⊎ ((m : ℕ) × HasEdge g.edges m d × (order.at depths d ≡ suc (order.at depths m))) → Least
    by_least (inl none) = inl (rank ∙ ap (λ (n : ℕ). suc (n / 2)) none)
    by_least (inr (m, edge, is)) = by_link m is ((are m d).0 edge)

-- so they are depths of ends
pub ranks_deep : (lay : Laying) (p : Plan) (g : Graph) (depths : List ℕ) → IsRight p → g.nodes ≡ directions p + directions p → AreEdges lay p g.edges
    → order.AreDepths g depths
    → AreDepths lay p (rank_at p depths)
ranks_deep lay p g depths right nodes are deep =
    record {
      rises = ranks_rise lay p g depths right are deep;
      loose = λ e none. ap (rank_by depths) none;
      least = ranks_least lay p g depths right nodes are deep;
    }
