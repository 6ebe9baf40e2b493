-- Wirings that are one but for the numbers of their plans, and of the parts and imports of these.
--
-- Read first: Renumbering of webs; Joining of gos_plan. Joining doesn't see these numbers: it gives plans that are one
-- but for the numbers of their parts and imports.
use Rattle.std.specs.Prelude.{◌≡◌, ◌↔◌, ℕ, Some, slice_get}
use Rattle.gos_plan.specs.Plans.{Plan}
use Rattle.gos_plan.specs.Joining.{Place, place, Linked, Wiring, IsJoining}
use Rattle.gos_joining.specs.webs.Renumbering.{Renumber, IsOneToOne, IsRenumbered, moved_end}

-- Where a place stands in the other wiring: plan k is its plan `forth k`, with the numbers `f k`.
abbrev pub rewired : (ℕ → ℕ) → (ℕ → Renumber) → Place → Place
rewired forth f a = place (forth a.plan) (moved_end (f a.plan) a.end)

-- v is w with these numbers. The order of links, and which end of a link stands first, is free.
pub record IsRewired (forth back : ℕ → ℕ) (f : ℕ → Renumber) (w v : Wiring) : Type 0 where
  pub returns : (k : ℕ) → back (forth k) ≡ k
  pub comes : (k : ℕ) → forth (back k) ≡ k
  pub one_to_one : (k : ℕ) → IsOneToOne (f k)
  pub plans : (k : ℕ) (p : Plan) → slice_get w.plans k ≡ Some p → (q : Plan) × (slice_get v.plans (forth k) ≡ Some q) × IsRenumbered (f k) p q
  pub no_more : (k : ℕ) (q : Plan) → slice_get v.plans k ≡ Some q → (p : Plan) × (slice_get w.plans (back k) ≡ Some p)
  pub links : (a b : Place) → Linked w a b ↔ Linked v (rewired forth f a) (rewired forth f b)
  pub giver : v.giver ≡ forth w.giver
  pub skipped : v.skipped ≡ w.skipped
  pub outcome : v.outcome ≡ w.outcome

-- The joinings are one but for the numbers.
abbrev pub RewiredIsRenumbered : Type 0
RewiredIsRenumbered =
    (forth back : ℕ → ℕ) (f : ℕ → Renumber) (w v : Wiring) (r q : Plan)
    → IsRewired forth back f w v → IsJoining w r → IsJoining v q → (g : Renumber) × IsRenumbered g r q
