-- Joinings of joinings: the flat wiring, in which the plans of each joining stand in its place.
--
-- Read first: Unions; Links of gos_realises. Plan k of an outer wiring is the joining of wiring k of a list. An end of it
-- stands where that wiring says.
use Rattle.std.specs.Prelude.{◌≡◌, ℕ, zero, suc, ◌+◌, List, [], ◌∷◌, ◌++◌, length, map, Option, Some, None, slice_get, Contains}
use Rattle.gos_plan.specs.Plans.{End, PartEnd, ImportEnd, ResultEnd, Plan}
use Rattle.gos_plan.specs.Joining.{Place, place, Link, Wiring, origin, IsJoining}
use Rattle.gos_realises.specs.realises.Links.{IsUnjoined, StandsIn, LinksFit, IsJoined}
use Rattle.gos_joining.specs.unions.Unions.{LinksStand, HasResult}

abbrev pub all_plans : List Wiring → List Plan
all_plans [] = []
all_plans (v ∷ vs) = v.plans ++ all_plans vs

-- the number of the first plan of wiring k
abbrev pub first_of : List Wiring → ℕ → ℕ
first_of [] k = 0
first_of (v ∷ vs) zero = 0
first_of (v ∷ vs) (suc k) = length v.plans + first_of vs k

-- a place, and links, so many plans later
abbrev pub later : ℕ → Place → Place
later n a = place (n + a.plan) a.end

abbrev pub later_link : ℕ → Link → Link
later_link n l = record { one = later n l.one; other = later n l.other }

abbrev pub inner_links : ℕ → List Wiring → List Link
inner_links n [] = []
inner_links n (v ∷ vs) = map (later_link n) v.links ++ inner_links (n + length v.plans) vs

-- where a place of the joinings stands in their plans
abbrev pub origin_if : Option Wiring → End → Place
origin_if None e = place 0 e
origin_if (Some v) e = origin v e

abbrev pub deeper : List Wiring → Place → Place
deeper vs a = later (first_of vs a.plan) (origin_if (slice_get vs a.plan) a.end)

abbrev pub deeper_link : List Wiring → Link → Link
deeper_link vs l = record { one = deeper vs l.one; other = deeper vs l.other }

abbrev pub giver_if : Option Wiring → ℕ
giver_if None = 0
giver_if (Some v) = v.giver

abbrev pub skipped_if : Option Wiring → ℕ
skipped_if None = 0
skipped_if (Some v) = v.skipped

abbrev pub flat : Wiring → List Wiring → Wiring
flat w vs =
    record {
      plans = all_plans vs;
      links = inner_links 0 vs ++ map (deeper_link vs) w.links;
      giver = first_of vs w.giver + giver_if (slice_get vs w.giver);
      skipped = skipped_if (slice_get vs w.giver) + w.skipped;
      outcome = w.outcome;
    }

-- each plan is the joining of its wiring
abbrev pub AreJoinings : List Wiring → List Plan → Type 0
AreJoinings [] [] = Unit {0}
AreJoinings [] (p ∷ ps) = ⊥
AreJoinings (v ∷ vs) [] = ⊥
AreJoinings (v ∷ vs) (p ∷ ps) = IsJoining v p × AreJoinings vs ps

abbrev pub AreJoined : List Wiring → List Plan → Type 0
AreJoined [] [] = Unit {0}
AreJoined [] (p ∷ ps) = ⊥
AreJoined (v ∷ vs) [] = ⊥
AreJoined (v ∷ vs) (p ∷ ps) = IsJoined v p × AreJoined vs ps

-- The inner links have to stand as well: one that names a plan beyond its wiring's would, in the flat wiring, join a plan of
-- the next.
abbrev pub AllLinksStand : List Wiring → Type 0
AllLinksStand [] = Unit {0}
AllLinksStand (v ∷ vs) = LinksStand v × AllLinksStand vs

-- A joining of joinings is the joining of the flat wiring.
abbrev pub JoiningsJoin : Type 0
JoiningsJoin =
    (w : Wiring) (vs : List Wiring) (r : Plan)
    → AreJoinings vs w.plans → AllLinksStand vs → LinksStand w → IsJoining w r → IsJoining (flat w vs) r

-- And the joining of the flat wiring is the joining of the joinings.
abbrev pub FlatJoins : Type 0
FlatJoins =
    (w : Wiring) (vs : List Wiring) (r : Plan)
    → AreJoinings vs w.plans → AllLinksStand vs → LinksStand w → HasResult w → IsJoining (flat w vs) r → IsJoining w r

-- A part's end of the joining is bare: its plan joins it to nothing, and no link does. In the joining alone this can't be
-- seen, since a joint of a part to a port that leads nowhere is no joint of the joining.
abbrev pub IsBare : Option Wiring → End → Type 0
IsBare None e = Unit {0}
IsBare (Some v) (PartEnd i h) =
    IsUnjoined (slice_get v.plans (origin v (PartEnd i h)).plan) (origin v (PartEnd i h)).end
    × ((k : ℕ) (l : Link) → slice_get v.links k ≡ Some l → StandsIn (origin v (PartEnd i h)) l → ⊥)
IsBare (Some v) (ImportEnd i h) = Unit {0}
IsBare (Some v) (ResultEnd h) = Unit {0}

-- the parts' ends that are linked are bare
abbrev pub LinkedPartsAreBare : Wiring → List Wiring → Type 0
LinkedPartsAreBare w vs = (l : Link) (a : Place) → Contains w.links l → StandsIn a l → IsBare (slice_get vs a.plan) a.end

-- Where the inner and the outer links fit, the flat ones do.
abbrev pub FlatFits : Type 0
FlatFits =
    (w : Wiring) (vs : List Wiring) → AreJoined vs w.plans → LinkedPartsAreBare w vs → LinksFit w → LinksFit (flat w vs)

-- The two laws for joinings of links that fit.
abbrev pub JoinedIsFlat : Type 0
JoinedIsFlat =
    (w : Wiring) (vs : List Wiring) (r : Plan)
    → AreJoined vs w.plans → LinkedPartsAreBare w vs → IsJoined w r → IsJoined (flat w vs) r

abbrev pub FlatIsJoined : Type 0
FlatIsJoined =
    (w : Wiring) (vs : List Wiring) (r : Plan) → AreJoined vs w.plans → LinksFit w → IsJoining (flat w vs) r → IsJoined w r
