-- Two moves at different places can be in either order, whatever each unfolds before.
use Rattle.std.specs.Prelude.{◌≡◌, ◌⊎◌, ℕ, zero, suc, List}
use Rattle.std.proofs.Common.{refl, sym, subst, inl, inr}
use Rattle.gos_model.specs.Terms.{Term, Par}
use Rattle.gos_model.specs.Typing.{Imports}
use Rattle.gos_model.specs.Stores.{Store}
use Rattle.gos_model.specs.Reach.{Rewrites, Unfolds}
use Rattle.gos_model.specs.Moves.{Act, Computing as Silent, Showing as Shows, Unfoldings}
use Rattle.gos_programs.specs.contexts.Contexts.{plug_all}
use Rattle.gos_programs.proofs.variables.UnfoldedLemmas.{unfoldings_meet}
use Rattle.gos_swaps.specs.doings.Heads.{HeadAt}
use Rattle.gos_swaps.specs.doings.Doings.{Unfolding, DoesAt, doing, SameSort}
use Rattle.gos_swaps.specs.doings.Sides.{OnSides}
use Rattle.gos_swaps.specs.orders.Orders.{MovesEitherOrder}
use Rattle.gos_swaps.proofs.doings.HeadLemmas.{head_of, head_path}
use Rattle.gos_swaps.proofs.doings.PlaceLemmas.{does_on_left, does_on_right}
use Rattle.gos_swaps.proofs.doings.SideLemmas.{Places, places}
use Rattle.gos_swaps.proofs.proper.ProperLemmas.{Settled, settled_after}
use Rattle.gos_swaps.proofs.orders.OrderLemmas.{order_of}

not_unfolding : (a : Act) → SameSort (doing a) Unfolding → ⊥
not_unfolding Silent h = h
not_unfolding (Shows o) h = h

-- a step or a label, and an unfolding, each of which is there after the other
abbrev Beside : Imports → List ℕ → Act → Store → Store → Term → Term → Type 0
Beside i p a s u t x = (y : Term) × DoesAt i p (doing a) s u x y × Unfolds t y

beside_unfolding :
    (i : Imports) (p : List ℕ) (a : Act) (s u : Store) (m t x : Term) → DoesAt i p (doing a) s u m t → Unfolds m x → Beside i p a s u t x
beside_unfolding i p a s u m t x h g = of_path (head_path Rewrites m x g).0 (head_path Rewrites m x g).1
  where
    of_path : (q : List ℕ) → HeadAt q Rewrites m x → Beside i p a s u t x
    of_path q at = by_places (places i p q (doing a) Unfolding s u s s m t x h (at, refl))
      where
        by_sides : OnSides i p q (doing a) Unfolding s u s m t x ⊎ OnSides i q p Unfolding (doing a) s s u m x t → Beside i p a s u t x
        by_sides (inl o) = (
          plug_all o.around (Par o.new_left o.new_right),
          does_on_left i o.around p o.left_path (doing a) s u o.left o.new_left o.new_right x o.first_path o.after_second o.does_left,
          head_of Rewrites q t (plug_all o.around (Par o.new_left o.new_right))
              (does_on_right i o.around q o.right_path Unfolding s s o.right o.new_right o.new_left t o.second_path o.after_first o.does_right).0,
        )
        by_sides (inr o) = (
          plug_all o.around (Par o.new_left o.new_right),
          does_on_right i o.around p o.right_path (doing a) s u o.right o.new_right o.new_left x o.second_path o.after_first o.does_right,
          head_of Rewrites q t (plug_all o.around (Par o.new_left o.new_right))
              (does_on_left i o.around q o.left_path Unfolding s s o.left o.new_left o.new_right t o.first_path o.after_second o.does_left).0,
        )

        by_places : Places i p q (doing a) Unfolding s u s s m t x → Beside i p a s u t x
        by_places (inl (same, kind)) = absurd (not_unfolding a kind.0)
        by_places (inr f) = by_sides (f refl)

beside_unfoldings :
    (i : Imports) (p : List ℕ) (a : Act) (s u : Store) (n : ℕ) (m t x : Term) → DoesAt i p (doing a) s u m t → Unfoldings n m x
    → (y : Term) × DoesAt i p (doing a) s u x y × Unfoldings n t y
beside_unfoldings i p a s u zero m t x h e = (t, subst (λ (z : Term). DoesAt i p (doing a) s u z t) e h, refl)
beside_unfoldings i p a s u (suc n) m t x h (v, g, gs) =
    let (y, does, one) = beside_unfolding i p a s u m t v h g in
    let (z, does', more) = beside_unfoldings i p a s u n v y x does gs in
    (z, does', (y, one, more))

-- two lists of unfoldings come together
abbrev Many : Term → Term → Type 0
Many m t = (n : ℕ) × Unfoldings n m t

many_then : (n : ℕ) (m t u : Term) → Unfoldings n m t → Many t u → Many m u
many_then zero m t u e h = subst (λ (z : Term). Many z u) (sym e) h
many_then (suc n) m t u (v, g, gs) h = let (k, more) = many_then n v t u gs h in (suc k, (v, g, more))

abbrev Together : Term → Term → Type 0
Together x y = (z : Term) × Many x z × Many y z

one_and_many : (k : ℕ) (m x y : Term) → Unfolds m x → Unfoldings k m y → Together x y
one_and_many zero m x y h e = (x, (0, refl), (1, (x, subst (λ (z : Term). Unfolds z x) e h, refl)))
one_and_many (suc k) m x y h (u, g, gs) = by_meeting (unfoldings_meet m x u h g) (λ w other. one_and_many k u w y other gs)
  where
    by_meeting : (x ≡ u) ⊎ ((w : Term) × Unfolds x w × Unfolds u w) → ((w : Term) → Unfolds u w → Together w y) → Together x y
    by_meeting (inl same) later = (y, (k, subst (λ (z : Term). Unfoldings k z y) (sym same) gs), (0, refl))
    by_meeting (inr (w, left, right)) later = let (z, (j, js), more) = later w right in (z, (suc j, (w, left, js)), more)

many_and_many : (n k : ℕ) (m x y : Term) → Unfoldings n m x → Unfoldings k m y → Together x y
many_and_many zero k m x y e gs = (y, (k, subst (λ (z : Term). Unfoldings k z y) e gs), (0, refl))
many_and_many (suc n) k m x y (v, h, hs) gs =
    let (z, (j, js), (l, ls)) = one_and_many k m v y h gs in
    let (w, of_x, of_z) = many_and_many n j v x z hs js in
    (w, of_x, many_then l y z w ls of_z)

pub moves_either_order : MovesEitherOrder
moves_either_order i p q a b s u v m t r proper other (n, x, hs, h) (k, y, gs, g) =
    let (z, (j, js), (l, ls)) = many_and_many n k m x y hs gs in
    let (t', does_a, ts) = beside_unfoldings i p a s u j x t z h js in
    let (r', does_b, rs) = beside_unfoldings i q b s v l y r z g ls in
    let start : Settled m s = record { apart = proper.apart; closed = proper.closed; standing = proper.standing } in
    let kept : Settled z s = settled_after s j x z (settled_after s n m x start hs) js in
    let (e, f, w, o, first, second, alike) = order_of i p q (doing a) (doing b) s u v z t' r' kept.apart kept.standing other does_a does_b in
    (e, f, w, o, (j, t', ts, first), (l, r', rs, second), alike)
