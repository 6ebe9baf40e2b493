-- Rings of the graph of directions are the rings of handshakes.
--
-- Read first: Directions.
use Rattle.std.proofs.Common.{◌≡◌, ◌+◌, ◌<◌, ◌⊎◌, ℕ, List, [], ◌∷◌, length, slice_get, inl, inr, refl, sym, ap, subst, ◌∙◌, arith}
use Rattle.std.proofs.lemmas.Option.{same_Some, slice_get_within}
use Rattle.gos_types.specs.Events.{Direction, Request, Answer}
use Rattle.gos_plan.specs.Plans.{End, PartEnd, Joint, Plan}
use Rattle.gos_expand.specs.Gates.{passing_of}
use Rattle.gos_expand.specs.Starts.{Laying, place_of}
use Rattle.gos_expand.specs.Facts.{PassesOn, source, target}
use Rattle.gos_expand.specs.Rings.{Shake, PassesBy, HasRing}
use Rattle.gos_expand.specs.inner.Directions.{directions, IsDirection, ArrivesAt, PassesThrough, IsInner, IsLink, AreEdges}
use Rattle.gos_order.specs.Rings as graph
use Rattle.gos_order.specs.Rings.{Edge, HasEdge, Leads, along, further}

-- a place is that of one direction
pub one_place : (x y : ℕ) (a b : Direction) → place_of x a ≡ place_of y b → (x ≡ y) × (a ≡ b)
one_place x y Request Request same = (omega (arith, same), refl)
one_place x y Request Answer same = absurd (omega (arith, same))
one_place x y Answer Request same = absurd (omega (arith, same))
one_place x y Answer Answer same = (omega (arith, same), refl)

place_low : (x n : ℕ) (way : Direction) → x < n → place_of x way < n + n
place_low x n Request low = omega (arith, low)
place_low x n Answer low = omega (arith, low)

pub direction_low : (p : Plan) (d : ℕ) → IsDirection p d → d < directions p
direction_low p d x =
    let low = place_low x.joint (length p.joints) x.way (slice_get_within p.joints x.joint x.passed x.stands) in
    let is = x.number in omega (arith, low, is)

-- two views of one direction
same_direction : (p : Plan) (d : ℕ) (x y : IsDirection p d) → (x.joint ≡ y.joint) × (x.way ≡ y.way) × (x.passed ≡ y.passed)
same_direction p d x y =
    let one = one_place x.joint y.joint x.way y.way (sym x.number ∙ y.number) in
    (one.0, one.1, same_Some x.passed y.passed (sym x.stands ∙ (ap (slice_get p.joints) one.0 ∙ y.stands)))

same_target : (p : Plan) (d : ℕ) (x y : IsDirection p d) → target x.passed x.way ≡ target y.passed y.way
same_target p d x y =
    let one = same_direction p d x y in
    ap (λ (j : Joint). target j x.way) one.2 ∙ ap (target y.passed) one.1

same_source : (p : Plan) (d : ℕ) (x y : IsDirection p d) → source x.passed x.way ≡ source y.passed y.way
same_source p d x y =
    let one = same_direction p d x y in
    ap (λ (j : Joint). source j x.way) one.2 ∙ ap (source y.passed) one.1

same_end_of_part : (i j h g : ℕ) → PartEnd i h ≡ PartEnd j g → (i ≡ j) × (h ≡ g)
same_end_of_part i j h g same = (grind (arith, same), grind (arith, same))

-- an edge from where something arrives is one through a part, and one from where it leaves is a link
pub from_arrival : (lay : Laying) (p : Plan) (a b : ℕ) → a < directions p → IsInner lay.making p a b ⊎ IsLink lay.keep p a b → IsInner lay.making p a b
from_arrival lay p a b low (inl inner) = inner
from_arrival lay p a b low (inr link) = absurd (let is = link.1 in omega (arith, low, is))

pub from_leaving : (lay : Laying) (p : Plan) (d b : ℕ) → IsInner lay.making p (directions p + d) b ⊎ IsLink lay.keep p (directions p + d) b → (b ≡ d) × IsLink lay.keep p (directions p + d) b
from_leaving lay p d b (inl inner) =
    absurd (let low = direction_low p (directions p + d) inner.2.arrives.0 in omega (arith, low))
from_leaving lay p d b (inr link) = (let is = link.1 in omega (arith, is), link)

-- through a part and along a direction
pub passes_on : (lay : Laying) (p : Plan) (a d : ℕ) (s : Shake) (e : End) → PassesThrough lay.making p a d → IsLink lay.keep p (directions p + d) d
    → ArrivesAt p a (PartEnd s.part s.number)
    → ArrivesAt p d e
    → PassesOn lay p s.part s.number e
passes_on lay p a d s e x link here there =
    let begin = same_end_of_part x.part s.part x.from s.number
    (sym x.arrives.1 ∙ (same_target p a x.arrives.0 here.0 ∙ here.1)) in
    record {
      joint = link.0.joint;
      passed = link.0.passed;
      way = link.0.way;
      part = x.kind;
      out = x.to;
      stands = link.0.stands;
      straight = link.2;
      leaves =
          same_source p d link.0 x.leaves.0 ∙ (x.leaves.1 ∙ ap (λ (i : ℕ). PartEnd i x.to) begin.0);
      there = ap (slice_get p.parts) (sym begin.0) ∙ x.there;
      from_there = let low = x.from_there in let same = begin.1 in omega (arith, low, same);
      out_there = x.to_there;
      passes = (λ z. passing_of (lay.making (sym begin.0 z)) x.kind (sym begin.1 z) x.to) ∙ x.passes;
      arrives = same_target p d link.0 there.0 ∙ there.1;
    }

-- what is known of a way from where a direction arrives to handshake t
abbrev Passed : Laying → Plan → ℕ → Shake → Type 0
Passed lay p a t = (s : Shake) × ArrivesAt p a (PartEnd s.part s.number) × ((cs : List Shake) × PassesBy lay p s cs t)

-- through a part, along a direction, and on
passes_then : (lay : Laying) (p : Plan) (a m c : ℕ) (t : Shake) → (inner : IsInner lay.making p a m) → IsInner lay.making p m c ⊎ IsLink lay.keep p m c
    → (c < directions p → ArrivesAt p c (PartEnd t.part t.number) ⊎ Passed lay p c t)
    → Passed lay p a t
passes_then lay p a m c t inner edge rest =
    by_rest (rest (direction_low p c link.1.0))
  where
    link : (c ≡ inner.0) × IsLink lay.keep p (directions p + inner.0) c
    link = from_leaving lay p inner.0 c (subst (λ (x : ℕ). IsInner lay.making p x c ⊎ IsLink lay.keep p x c) inner.1 edge)

    begin : Shake
    begin = record { part = inner.2.part; number = inner.2.from }

    through : PassesThrough lay.making p a c
    through = subst (λ (x : ℕ). PassesThrough lay.making p a x) (sym link.0) inner.2

    along_c : IsLink lay.keep p (directions p + c) c
    along_c = subst (λ (x : ℕ). IsLink lay.keep p (directions p + x) c) (sym link.0) link.1

    by_rest : ArrivesAt p c (PartEnd t.part t.number) ⊎ Passed lay p c t → Passed lay p a t
    by_rest (inl there) = (begin, inner.2.arrives, ([], passes_on lay p a c begin (PartEnd t.part t.number) through along_c inner.2.arrives there))
    by_rest (inr (u, there, (cs, passes))) =
        (begin, inner.2.arrives, (u ∷ cs, (passes_on lay p a c begin (PartEnd u.part u.number) through along_c inner.2.arrives there, passes)))

-- a way from where one direction arrives to where another does passes from handshake to handshake
pub passes_along : (lay : Laying) (p : Plan) (edges : List Edge) → AreEdges lay p edges → (a b : ℕ) → a < directions p → b < directions p
    → (t : Shake) → ArrivesAt p b (PartEnd t.part t.number) → Leads edges a b → Passed lay p a t
passes_along lay p edges are a b low high t there (along _ _ edge) =
    let inner = from_arrival lay p a b low ((are a b).0 edge) in
    absurd (let is = inner.1 in omega (arith, is, high))
passes_along lay p edges are a b low high t there (further _ m _ edge (along _ _ link)) =
    passes_then lay p a m b t (from_arrival lay p a m low ((are a m).0 edge)) ((are m b).0 link) (λ below. inl there)
passes_along lay p edges are a b low high t there (further _ m _ edge (further _ c _ link rest)) =
    passes_then lay p a m c t (from_arrival lay p a m low ((are a m).0 edge)) ((are m c).0 link)
    (λ below. inr (passes_along lay p edges are c b below high t there rest))

-- the first edge of a way, and what is behind it
leads_further : (edges : List Edge) (a b c : ℕ) → Leads edges a b → HasEdge edges b c → Leads edges a c
leads_further edges a b c (along _ _ first) second = further a b c first (along b c second)
leads_further edges a b c (further _ m _ first rest) second = further a m c first (leads_further edges m b c rest second)

first_inner : (lay : Laying) (p : Plan) (edges : List Edge) → AreEdges lay p edges → (a b : ℕ) → a < directions p → Leads edges a b
    → (s : Shake) × ArrivesAt p a (PartEnd s.part s.number)
first_inner lay p edges are a b low (along _ _ edge) =
    let inner = from_arrival lay p a b low ((are a b).0 edge) in
    (record { part = inner.2.part; number = inner.2.from }, inner.2.arrives)
first_inner lay p edges are a b low (further _ m _ edge rest) =
    let inner = from_arrival lay p a m low ((are a m).0 edge) in
    (record { part = inner.2.part; number = inner.2.from }, inner.2.arrives)

ring_at : (lay : Laying) (p : Plan) (edges : List Edge) → AreEdges lay p edges → (a : ℕ) → a < directions p → Leads edges a a → HasRing lay p
ring_at lay p edges are a low round =
    let first = first_inner lay p edges are a a low round in
    let passed = passes_along lay p edges are a a low low first.0 first.1 round in
    let same = same_end_of_part passed.0.part first.0.part passed.0.number first.0.number
    (sym passed.1.1 ∙ (same_target p a passed.1.0 first.1.0 ∙ first.1.1)) in
    (first.0, passed.2.0, subst (λ (s : Shake). PassesBy lay p s passed.2.0 first.0) (same_shake passed.0 first.0 same.0 same.1) passed.2.1)
  where
    same_shake : (s t : Shake) → s.part ≡ t.part → s.number ≡ t.number → s ≡ t
    same_shake s t e f = grind (arith, e, f)

-- a ring of the graph is one of handshakes
pub circle_is_ring : (lay : Laying) (p : Plan) (edges : List Edge) → AreEdges lay p edges → graph.HasRing edges → HasRing lay p
circle_is_ring lay p edges are (a, along _ _ edge) = by_edge ((are a a).0 edge)
  where
    by_edge : IsInner lay.making p a a ⊎ IsLink lay.keep p a a → HasRing lay p
    by_edge (inl inner) =
        absurd (let is = inner.1 in let low = direction_low p a inner.2.arrives.0 in omega (arith, is, low))
    by_edge (inr link) = absurd (let is = link.1 in let low = direction_low p a link.0 in omega (arith, is, low))
circle_is_ring lay p edges are (a, further _ m _ edge rest) = by_edge ((are a m).0 edge)
  where
    by_edge : IsInner lay.making p a m ⊎ IsLink lay.keep p a m → HasRing lay p
    by_edge (inl inner) = ring_at lay p edges are a (direction_low p a inner.2.arrives.0) (further a m a edge rest)
    by_edge (inr link) = ring_at lay p edges are m (direction_low p m link.0) (leads_further edges m a m rest edge)

-- The other way. A handshake that passes on to another does so along a direction.
abbrev pub direction_of : (lay : Laying) (p : Plan) (s t : Shake) → PassesOn lay p s.part s.number (PartEnd t.part t.number) → ℕ
direction_of lay p s t x = place_of x.joint x.way

abbrev is_direction : (lay : Laying) (p : Plan) (s t : Shake) (x : PassesOn lay p s.part s.number (PartEnd t.part t.number))
    → IsDirection p (direction_of lay p s t x)
is_direction lay p s t x = record { joint = x.joint; way = x.way; number = refl; passed = x.passed; stands = x.stands }

arrives_there : (lay : Laying) (p : Plan) (s t : Shake) (x : PassesOn lay p s.part s.number (PartEnd t.part t.number))
    → ArrivesAt p (direction_of lay p s t x) (PartEnd t.part t.number)
arrives_there lay p s t x = (is_direction lay p s t x, x.arrives)

leads_there : (lay : Laying) (p : Plan) (edges : List Edge) → AreEdges lay p edges → (s t : Shake)
    → (x : PassesOn lay p s.part s.number (PartEnd t.part t.number))
    → (a : ℕ) → ArrivesAt p a (PartEnd s.part s.number) → Leads edges a (direction_of lay p s t x)
leads_there lay p edges are s t x a here =
    let d : ℕ = direction_of lay p s t x in
    let through : PassesThrough lay.making p a d =
    record {
      part = s.part;
      kind = x.part;
      there = x.there;
      from = s.number;
      from_there = x.from_there;
      arrives = here;
      to = x.out;
      to_there = x.out_there;
      leaves = (is_direction lay p s t x, x.leaves);
      passes = x.passes;
    } in
    let first = (are a (directions p + d)).1 (inl (d, refl, through)) in
    let second = (are (directions p + d) d).1 (inr (is_direction lay p s t x, refl, x.straight)) in
    further a (directions p + d) d first (along (directions p + d) d second)

-- the last direction of several handshakes that pass on
abbrev last_of : (lay : Laying) (p : Plan) (s : Shake) (cs : List Shake) (t : Shake) → PassesBy lay p s cs t → ℕ
last_of lay p s [] t x = direction_of lay p s t x
last_of lay p s (c ∷ cs) t (x, xs) = last_of lay p c cs t xs

arrives_last : (lay : Laying) (p : Plan) (s : Shake) (cs : List Shake) (t : Shake) (x : PassesBy lay p s cs t)
    → ArrivesAt p (last_of lay p s cs t x) (PartEnd t.part t.number)
arrives_last lay p s [] t x = arrives_there lay p s t x
arrives_last lay p s (c ∷ cs) t (x, xs) = arrives_last lay p c cs t xs

leads_behind : (edges : List Edge) (a b c : ℕ) → Leads edges a b → Leads edges b c → Leads edges a c
leads_behind edges a b c (along _ _ first) second = further a b c first second
leads_behind edges a b c (further _ m _ first rest) second = further a m c first (leads_behind edges m b c rest second)

leads_last : (lay : Laying) (p : Plan) (edges : List Edge) → AreEdges lay p edges → (s : Shake) (cs : List Shake) (t : Shake) (x : PassesBy lay p s cs t)
    → (a : ℕ) → ArrivesAt p a (PartEnd s.part s.number) → Leads edges a (last_of lay p s cs t x)
leads_last lay p edges are s [] t x a here = leads_there lay p edges are s t x a here
leads_last lay p edges are s (c ∷ cs) t (x, xs) a here =
    leads_behind edges a (direction_of lay p s c x) (last_of lay p c cs t xs) (leads_there lay p edges are s c x a here)
    (leads_last lay p edges are c cs t xs (direction_of lay p s c x) (arrives_there lay p s c x))

-- a ring of handshakes is one of the graph
pub ring_is_circle : (lay : Laying) (p : Plan) (edges : List Edge) → AreEdges lay p edges → HasRing lay p → graph.HasRing edges
ring_is_circle lay p edges are (s, cs, x) =
    (last_of lay p s cs s x, leads_last lay p edges are s cs s x (last_of lay p s cs s x) (arrives_last lay p s cs s x))
