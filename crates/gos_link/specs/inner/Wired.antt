-- Where the ends of linked plans lie in the whole, and the ties of their joints.
--
-- Read first: Linked, Opens; Ties of gos_ties. The parts of all plans are numbered in their order, and so are the imports that
-- stay. A served import and the result of the instance that serves it are one place.
use Rattle.std.specs.Prelude.{◌≡◌, ℕ, zero, suc, ◌+◌, List, [], ◌∷◌, ◌++◌, Option, Some, None, length, nat_eq, position, slice_get, if◌then◌else◌}
use Rattle.gos_model.specs.Typing.{Imported}
use Rattle.gos_plan.specs.Plans.{End, PartEnd, ImportEnd, ResultEnd, Joint, Plan, IsRight}
use Rattle.gos_ties.specs.declared.points.Place.{Place}
use Rattle.gos_ties.specs.declared.points.Place.TheVariants as places
use Rattle.gos_ties.specs.declared.points.Point.{Point}
use Rattle.gos_ties.specs.declared.points.Tie.{Tie}
use Rattle.gos_ties.specs.Ties.{point, tie}
use Rattle.gos_link.specs.declared.services.Service.{Service}
use Rattle.gos_link.specs.inner.Opens.{number_bound}

-- the number of the first service by a giver
abbrev pub number_used : List Service → ℕ → Option ℕ
number_used ss giver = position (λ s. nat_eq s.giver giver) ss

-- 1 for an import that stays, and 0 for one that is served; and how many of the first n imports of plan k stay
abbrev pub stays : Option ℕ → ℕ
stays None = 1
stays (Some t) = 0

abbrev pub rank : List Service → ℕ → ℕ → ℕ
rank ss k zero = 0
rank ss k (suc n) = rank ss k n + stays (number_bound ss k n)

-- how many parts, and how many imports that stay, the first n plans have; the first of them has number k
abbrev pub parts_before : List Plan → ℕ → ℕ
parts_before [] n = 0
parts_before (p ∷ ps) zero = 0
parts_before (p ∷ ps) (suc n) = length p.parts + parts_before ps n

abbrev pub stays_before : List Service → ℕ → List Plan → ℕ → ℕ
stays_before ss k [] n = 0
stays_before ss k (p ∷ ps) zero = 0
stays_before ss k (p ∷ ps) (suc n) = rank ss k (length p.imports) + stays_before ss (k + 1) ps n

-- the place of an import, by the number of its service and its own among those that stay
abbrev pub place_bound : Option ℕ → ℕ → Place
place_bound None n = places.Import n
place_bound (Some t) n = places.Node t

-- the place of a result, by the number of its service
abbrev pub place_used : ℕ → Option ℕ → Place
place_used k None = places.Number k
place_used k (Some t) = places.Node t

abbrev pub place_of_result : List Service → ℕ → ℕ → Place
place_of_result ss root k = if nat_eq k root then places.Result else place_used k (number_used ss k)

abbrev pub place_of_import : List Service → ℕ → ℕ → ℕ → Place
place_of_import ss k start i = place_bound (number_bound ss k i) (start + rank ss k i)

-- where an end of plan k lies, whose parts and imports that stay are numbered from these on
abbrev pub point_in : List Service → ℕ → ℕ → ℕ → ℕ → End → Point
point_in ss root k parts imports (PartEnd i h) = point (places.Part (parts + i)) h
point_in ss root k parts imports (ImportEnd i h) = point (place_of_import ss k imports i) h
point_in ss root k parts imports (ResultEnd h) = point (place_of_result ss root k) h

-- where an end of plan k of these lies
abbrev pub point_of : List Plan → List Service → ℕ → ℕ → End → Point
point_of ps ss root k e = point_in ss root k (parts_before ps k) (stays_before ss 0 ps k) e

abbrev pub ties_in : List Service → ℕ → ℕ → ℕ → ℕ → List Joint → List Tie
ties_in ss root k parts imports [] = []
ties_in ss root k parts imports (j ∷ js) =
    tie (point_in ss root k parts imports j.asking) (point_in ss root k parts imports j.serving) ∷ ties_in ss root k parts imports js

-- the ties of plans of which the first has number k
abbrev pub ties_from : List Service → ℕ → ℕ → ℕ → ℕ → List Plan → List Tie
ties_from ss root k parts imports [] = []
ties_from ss root k parts imports (p ∷ ps) =
    ties_in ss root k parts imports p.joints
    ++ ties_from ss root (k + 1) (parts + length p.parts) (imports + rank ss k (length p.imports)) ps

-- Services along which plans may be joined: each is of an import that there is, whose type is that of the giver's result. No
-- import is served twice, and no giver serves twice; the root serves none.
pub record AreJoinable (ps : List Plan) (ss : List Service) (root : ℕ) : Type 0 where
  pub fits :
      (t : ℕ) (s : Service) → slice_get ss t ≡ Some s
      → (p : Plan) × (q : Plan) × (x : Imported) × (slice_get ps s.user ≡ Some p) × (slice_get ps s.giver ≡ Some q)
      × (slice_get p.imports s.import ≡ Some x) × (x.ty ≡ q.outcome)
  pub bound : (t : ℕ) (s : Service) → slice_get ss t ≡ Some s → number_bound ss s.user s.import ≡ Some t
  pub used : (t : ℕ) (s : Service) → slice_get ss t ≡ Some s → number_used ss s.giver ≡ Some t
  pub unused : number_used ss root ≡ None
  pub some_root : (p : Plan) × (slice_get ps root ≡ Some p)

-- the places of a plan's imports, of which those that stay are numbered from this on
abbrev pub PlacesAre : List Service → ℕ → ℕ → List Place → Type 0
PlacesAre ss k from each = (i : ℕ) (p : Place) → slice_get each i ≡ Some p → p ≡ place_of_import ss k from i

-- each of plans is right
abbrev pub AllRight : List Plan → Type 0
AllRight ps = (n : ℕ) (p : Plan) → slice_get ps n ≡ Some p → IsRight p
