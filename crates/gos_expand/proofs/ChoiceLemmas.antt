-- The graph with the edges of the directions left out is that of the choice which leaves them out. So a choice that is few in
-- terms of the graph's rings is so in terms of the plan's.
--
-- Read first: Choosing, Directions; DirectionLemmas, LinkedLemmas.
use Rattle.std.proofs.Common.{◌≡◌, ◌+◌, ◌<◌, ◌⊎◌, ◌↔◌, ℕ, zero, suc, Bool, true, false, not, if◌then◌else◌, List, [], ◌∷◌, length, take, slice_get, get_or, Some, inl, inr, refl, sym, ap, subst, arith}
use Rattle.std.specs.Prelude.{nat_lt, nat_eq}
use Rattle.std.proofs.lemmas.Option.{none-some, slice_get_within, get_or_from_slice_get}
use Rattle.std.proofs.lemmas.Bool.Decides.{nat_tests}
use Rattle.gos_types.specs.Events.{Direction, Request, Answer}
use Rattle.gos_plan.specs.Plans.{Plan}
use Rattle.gos_expand.specs.Gates.{Making}
use Rattle.gos_expand.specs.Starts.{chosen, place_of}
use Rattle.gos_expand.specs.Choices.{left_out_at}
use Rattle.gos_expand.specs.inner.Directions.{directions, IsDirection, IsInner, IsLink, AreEdges}
use Rattle.gos_expand.specs.inner.Numbering.{laying}
use Rattle.gos_expand.specs.inner.Choosing.{linked, AreFew, KeepsFewRings}
use Rattle.gos_order.specs.Rings.{Edge, HasEdge, and_edge}
use Rattle.gos_expand.proofs.GoodLemmas.{is_there}
use Rattle.gos_expand.proofs.DirectionLemmas.{circle_is_ring, ring_is_circle}
use Rattle.gos_expand.proofs.LinkedLemmas.{edge_behind, edge_before, edge_last, IsLeftOut, linked_edges, edges_kept, edge_linked}

-- each place below all is that of a direction
half : (d n : ℕ) → d < n + n → (x : ℕ) × (way : Direction) × (d ≡ place_of x way) × (x < n)
half zero zero low = absurd (omega (arith, low))
half zero (suc n) low = (0, Request, refl, omega arith)
half (suc zero) zero low = absurd (omega (arith, low))
half (suc zero) (suc n) low = (0, Answer, refl, omega arith)
half (suc (suc d)) zero low = absurd (omega (arith, low))
half (suc (suc d)) (suc n) low = by_half (half d n (omega (arith, low)))
  where
    by_half : (x : ℕ) × (way : Direction) × (d ≡ place_of x way) × (x < n) → (x : ℕ) × (way : Direction) × (suc (suc d) ≡ place_of x way) × (x < suc n)
    by_half (x, Request, is, small) = (suc x, Request, omega (arith, is), omega (arith, small))
    by_half (x, Answer, is, small) = (suc x, Answer, omega (arith, is), omega (arith, small))

pub direction_there : (p : Plan) (d : ℕ) → d < directions p → IsDirection p d
direction_there p d low =
    let (x, way, is, small) = half d (length p.joints) low in
    let (j, stands) = is_there p.joints x small in
    record { joint = x; way = way; number = is; passed = j; stands = stands }

-- what is known of the first n of a list
take_is : (n : ℕ) (keeps : List Bool) (m : ℕ) (k : Bool) → slice_get (take n keeps) m ≡ Some k → (m < n) × (slice_get keeps m ≡ Some k)
take_is zero keeps m k is = absurd (none-some k is)
take_is (suc n) [] m k is = absurd (none-some k is)
take_is (suc n) (x ∷ keeps) zero k is = (omega arith, is)
take_is (suc n) (x ∷ keeps) (suc m) k is = let rest = take_is n keeps m k is in (let low = rest.0 in omega (arith, low), rest.1)

is_take : (n : ℕ) (keeps : List Bool) (m : ℕ) (k : Bool) → m < n → slice_get keeps m ≡ Some k → slice_get (take n keeps) m ≡ Some k
is_take zero keeps m k low is = absurd (omega (arith, low))
is_take (suc n) [] m k low is = is
is_take (suc n) (x ∷ keeps) zero k low is = is
is_take (suc n) (x ∷ keeps) (suc m) k low is = is_take n keeps m k (omega (arith, low)) is

-- which directions the choice leaves out
left_out_is : (keeps : List Bool) (n x : ℕ) (way : Direction) → left_out_at (chosen keeps) n x way ≡ false
    → (place_of x way ≡ n) ⊎ ((place_of x way < n) × (get_or keeps (place_of x way) true ≡ false))
left_out_is keeps n x way is = by_tests (nat_lt (place_of x way) n) (nat_eq (place_of x way) n) refl refl is
  where
    by_tests : (less same : Bool) → nat_lt (place_of x way) n ≡ less → nat_eq (place_of x way) n ≡ same
        → (if less then get_or keeps (place_of x way) true else not same) ≡ false
        → (place_of x way ≡ n) ⊎ ((place_of x way < n) × (get_or keeps (place_of x way) true ≡ false))
    by_tests true same el es kept = inr (grind (arith, nat_tests, el), kept)
    by_tests false true el es kept = inl (grind (arith, nat_tests, es))
    by_tests false false el es kept = cc kept

is_left_out : (keeps : List Bool) (n x : ℕ) (way : Direction)
    → (place_of x way ≡ n) ⊎ ((place_of x way < n) × (get_or keeps (place_of x way) true ≡ false))
    → left_out_at (chosen keeps) n x way ≡ false
is_left_out keeps n x way is = by_tests (nat_lt (place_of x way) n) (nat_eq (place_of x way) n) refl refl is
  where
    by_tests : (less same : Bool) → nat_lt (place_of x way) n ≡ less → nat_eq (place_of x way) n ≡ same
        → (place_of x way ≡ n) ⊎ ((place_of x way < n) × (get_or keeps (place_of x way) true ≡ false))
        → (if less then get_or keeps (place_of x way) true else not same) ≡ false
    by_tests true same el es (inl here) = absurd (grind (arith, nat_tests, el, here))
    by_tests true same el es (inr kept) = kept.1
    by_tests false true el es h = refl
    by_tests false false el es (inl here) = absurd (grind (arith, nat_tests, es, here))
    by_tests false false el es (inr kept) = absurd (let low = kept.0 in grind (arith, nat_tests, el, low))

get_false : (keeps : List Bool) (m : ℕ) → get_or keeps m true ≡ false → slice_get keeps m ≡ Some false
get_false [] m is = cc is
get_false (x ∷ keeps) zero is = ap (λ (b : Bool). Some b) is
get_false (x ∷ keeps) (suc m) is = get_false keeps m is

-- The graph with the edges of the directions left out so far and of this one is that of the choice.
pub graph_of_choice : (making : ℕ → Making) (p : Plan) (edges : List Edge) → ((a b : ℕ) → HasEdge edges a b ↔ IsInner making p a b) → (keeps : List Bool) (n : ℕ)
    → length keeps ≡ directions p
    → n < directions p
    → AreEdges (laying (left_out_at (chosen keeps) n) making) p (and_edge (linked (directions p) edges 0 (take n keeps)) (directions p + n) n)
graph_of_choice making p edges inner keeps n long low a b = (forth, back)
  where
    link : (m : ℕ) → m < directions p → (m ≡ n) ⊎ ((m < n) × (get_or keeps m true ≡ false)) → IsLink (left_out_at (chosen keeps) n) p (directions p + m) m
    link m small out =
        let x = direction_there p m small in (
          x,
          refl,
          is_left_out keeps n x.joint x.way
              (subst (λ (k : ℕ). (k ≡ n) ⊎ ((k < n) × (get_or keeps k true ≡ false))) x.number out),
        )

    of_left_out : IsLeftOut (directions p) 0 (take n keeps) a b → IsLink (left_out_at (chosen keeps) n) p a b
    of_left_out x =
        let (less, is) = take_is n keeps x.place false x.is in
        let from = x.from in
        let to = x.to in
        let e : directions p + x.place ≡ a = omega (arith, from) in
        let f : x.place ≡ b = omega (arith, to) in
        subst (λ (k : ℕ). IsLink (left_out_at (chosen keeps) n) p k b) e
        (subst (λ (k : ℕ). IsLink (left_out_at (chosen keeps) n) p (directions p + x.place) k) f
        (link x.place (omega (arith, less, low)) (inr (less, get_or_from_slice_get keeps x.place false true is))))

    forth : HasEdge (and_edge (linked (directions p) edges 0 (take n keeps)) (directions p + n) n) a b
        → IsInner making p a b ⊎ IsLink (left_out_at (chosen keeps) n) p a b
    forth edge = by_last (edge_behind (linked (directions p) edges 0 (take n keeps)) (directions p + n) n a b edge)
      where
        by_last : HasEdge (linked (directions p) edges 0 (take n keeps)) a b ⊎ ((directions p + n ≡ a) × (n ≡ b))
            → IsInner making p a b ⊎ IsLink (left_out_at (chosen keeps) n) p a b
        by_last (inr (e, f)) =
            inr
            (subst (λ (k : ℕ). IsLink (left_out_at (chosen keeps) n) p k b) e
            (subst (λ (k : ℕ). IsLink (left_out_at (chosen keeps) n) p (directions p + n) k) f (link n low (inl refl))))
        by_last (inl among) =
            elim (linked_edges (directions p) edges 0 (take n keeps) a b among) [
              | inl first ↦ inl ((inner a b).0 first)
              | inr out ↦ inr (of_left_out out)
            ]

    of_link : IsLink (left_out_at (chosen keeps) n) p a b → HasEdge (and_edge (linked (directions p) edges 0 (take n keeps)) (directions p + n) n) a b
    of_link (x, from, out) =
        by_out (subst (λ (k : ℕ). (k ≡ n) ⊎ ((k < n) × (get_or keeps k true ≡ false))) (sym x.number) (left_out_is keeps n x.joint x.way out))
      where
        by_out : (b ≡ n) ⊎ ((b < n) × (get_or keeps b true ≡ false))
            → HasEdge (and_edge (linked (directions p) edges 0 (take n keeps)) (directions p + n) n) a b
        by_out (inl same) =
            let e : directions p + n ≡ a = omega (arith, from, same) in
            subst (λ (k : ℕ). HasEdge (and_edge (linked (directions p) edges 0 (take n keeps)) (directions p + n) n) k b) e
            (subst (λ (k : ℕ). HasEdge (and_edge (linked (directions p) edges 0 (take n keeps)) (directions p + n) n) (directions p + n) k) (sym same)
            (edge_last (linked (directions p) edges 0 (take n keeps)) (directions p + n) n))
        by_out (inr (less, is)) =
            let e : directions p + (0 + b) ≡ a = omega (arith, from) in
            let f : 0 + b ≡ b = omega arith in
            edge_before (linked (directions p) edges 0 (take n keeps)) (directions p + n) n a b
            (subst (λ (k : ℕ). HasEdge (linked (directions p) edges 0 (take n keeps)) k b) e
            (subst (λ (k : ℕ). HasEdge (linked (directions p) edges 0 (take n keeps)) (directions p + (0 + b)) k) f
            (edge_linked (directions p) edges 0 (take n keeps) b (is_take n keeps b false less (get_false keeps b is)))))

    back : IsInner making p a b ⊎ IsLink (left_out_at (chosen keeps) n) p a b
        → HasEdge (and_edge (linked (directions p) edges 0 (take n keeps)) (directions p + n) n) a b
    back (inl first) =
        edge_before (linked (directions p) edges 0 (take n keeps)) (directions p + n) n a b
        (edges_kept (directions p) edges 0 (take n keeps) a b ((inner a b).1 first))
    back (inr link) = of_link link

-- the graph with the edges of all directions that are left out is that of the whole choice
pub graph_of_all : (making : ℕ → Making) (p : Plan) (edges : List Edge) → ((a b : ℕ) → HasEdge edges a b ↔ IsInner making p a b) → (keeps : List Bool)
    → length keeps ≡ directions p
    → AreEdges (laying (chosen keeps) making) p (linked (directions p) edges 0 keeps)
graph_of_all making p edges inner keeps long a b = (forth, back)
  where
    of_left_out : IsLeftOut (directions p) 0 keeps a b → IsLink (chosen keeps) p a b
    of_left_out x =
        let low = slice_get_within keeps x.place false x.is in
        let from = x.from in
        let to = x.to in
        let d = direction_there p x.place (omega (arith, low, long)) in
        let out : chosen keeps d.joint d.way ≡ false =
        subst (λ (m : ℕ). get_or keeps m true ≡ false) d.number (get_or_from_slice_get keeps x.place false true x.is) in
        let e : directions p + x.place ≡ a = omega (arith, from) in
        let f : x.place ≡ b = omega (arith, to) in
        subst (λ (k : ℕ). IsLink (chosen keeps) p k b) e
        (subst (λ (k : ℕ). IsLink (chosen keeps) p (directions p + x.place) k) f (d, refl, out))

    forth : HasEdge (linked (directions p) edges 0 keeps) a b → IsInner making p a b ⊎ IsLink (chosen keeps) p a b
    forth edge =
        elim (linked_edges (directions p) edges 0 keeps a b edge) [
          | inl first ↦ inl ((inner a b).0 first)
          | inr out ↦ inr (of_left_out out)
        ]

    of_link : IsLink (chosen keeps) p a b → HasEdge (linked (directions p) edges 0 keeps) a b
    of_link (x, from, out) =
        let is : slice_get keeps b ≡ Some false = get_false keeps b (subst (λ (m : ℕ). get_or keeps m true ≡ false) (sym x.number) out) in
        let e : directions p + (0 + b) ≡ a = omega (arith, from) in
        let f : 0 + b ≡ b = omega arith in
        subst (λ (k : ℕ). HasEdge (linked (directions p) edges 0 keeps) k b) e
        (subst (λ (k : ℕ). HasEdge (linked (directions p) edges 0 keeps) (directions p + (0 + b)) k) f
        (edge_linked (directions p) edges 0 keeps b is))

    back : IsInner making p a b ⊎ IsLink (chosen keeps) p a b → HasEdge (linked (directions p) edges 0 keeps) a b
    back (inl first) = edges_kept (directions p) edges 0 keeps a b ((inner a b).1 first)
    back (inr link) = of_link link

-- so few directions keep their registers
pub few_rings : (making : ℕ → Making) (p : Plan) (edges : List Edge) → ((a b : ℕ) → HasEdge edges a b ↔ IsInner making p a b) → (keeps : List Bool) → length keeps ≡ directions p
    → AreFew (directions p) edges keeps
    → KeepsFewRings making p keeps
few_rings making p edges inner keeps long few =
    record {
      all = long;
      kept = λ n is.
          circle_is_ring (laying (left_out_at (chosen keeps) n) making) p (and_edge (linked (directions p) edges 0 (take n keeps)) (directions p + n) n)
          (graph n true is) (few.kept n is);
      left_out = λ n is ring.
          few.left_out n is
          (ring_is_circle (laying (left_out_at (chosen keeps) n) making) p (and_edge (linked (directions p) edges 0 (take n keeps)) (directions p + n) n)
          (graph n false is) ring);
      ringless = λ ring.
          few.ringless
          (ring_is_circle (laying (chosen keeps) making) p (linked (directions p) edges 0 keeps) (graph_of_all making p edges inner keeps long) ring);
    }
  where
    graph : (n : ℕ) (k : Bool) → slice_get keeps n ≡ Some k
        → AreEdges (laying (left_out_at (chosen keeps) n) making) p (and_edge (linked (directions p) edges 0 (take n keeps)) (directions p + n) n)
    graph n k is =
        let low = slice_get_within keeps n k is in graph_of_choice making p edges inner keeps n long (omega (arith, low, long))
