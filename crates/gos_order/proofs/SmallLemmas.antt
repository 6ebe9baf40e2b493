-- The small graphs: along each edge of one without a ring a number rises.
use Rattle.std.specs.Prelude.{◌<◌, ◌∷◌, [], ℕ, List}
use Rattle.std.proofs.Common.{refl, arith, inl, inr}
use Rattle.gos_order.specs.Rings.{Edge, HasEdge, Leads, along, further, HasRing}
use Rattle.gos_order.specs.SmallRings.{SameIsRing, TwoAreRing, ChainHasNone, ForkHasNone, RingsStay}

-- edges to greater numbers alone
record AreUp (edges : List Edge) : Type 0 where
  rise : (a b : ℕ) → HasEdge edges a b → a < b

up_path : (edges : List Edge) (a b : ℕ) → AreUp edges → Leads edges a b → a < b
up_path edges a b up (along _ _ edge) = up.rise a b edge
up_path edges a b up (further _ x _ edge path) = omega (arith, up.rise a x edge, up_path edges x b up path)

-- have no ring
up_ringless : {edges : List Edge} → AreUp edges → HasRing edges → ⊥
up_ringless {edges} up (a, ring) = omega (arith, up_path edges a a up ring)

up_none : AreUp []
up_none = record { rise = λ a b edge. absurd edge }

up_more : (from to : ℕ) {edges : List Edge} → from < to → AreUp edges → AreUp (record { from = from; to = to } ∷ edges)
up_more from to {edges} up rest = record { rise = each }
  where
    each : (a b : ℕ) → HasEdge (record { from = from; to = to } ∷ edges) a b → a < b
    each a b (inl (is_from, is_to)) = omega (arith, up, is_from, is_to)
    each a b (inr old) = rest.rise a b old

pub same_is_ring : SameIsRing
same_is_ring a = (a, along a a (inl (refl, refl)))

pub two_are_ring : TwoAreRing
two_are_ring = (0, further 0 1 0 (inl (refl, refl)) (along 1 0 (inr (inl (refl, refl)))))

pub chain_has_none : ChainHasNone
chain_has_none = (
  up_ringless (up_more 0 1 (omega arith) (up_more 2 3 (omega arith) (up_more 1 2 (omega arith) up_none))),
  further 0 1 3 (inl (refl, refl)) (further 1 2 3 (inr (inr (inl (refl, refl)))) (along 2 3 (inr (inl (refl, refl))))),
  up_ringless up_none,
)

pub fork_has_none : ForkHasNone
fork_has_none =
    up_ringless (up_more 0 1 (omega arith) (up_more 0 2 (omega arith) (up_more 1 3 (omega arith) (up_more 2 3 (omega arith) up_none))))

path_more : (edge : Edge) (edges : List Edge) (a b : ℕ) → Leads edges a b → Leads (edge ∷ edges) a b
path_more edge edges a b (along _ _ h) = along a b (inr h)
path_more edge edges a b (further _ x _ h path) = further a x b (inr h) (path_more edge edges x b path)

pub rings_stay : RingsStay
rings_stay edges from to (a, ring) = (a, path_more (record { from = from; to = to }) edges a a ring)
