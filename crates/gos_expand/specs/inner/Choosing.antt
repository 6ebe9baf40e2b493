-- How it is chosen which directions of joints keep their registers: the graph of directions is built, and then each direction is
-- left out where that closes no ring.
--
-- Read first: Directions, Arrivals; Choices. Between the functions of this crate.
use Rattle.std.specs.Prelude.{◌≡◌, ◌↔◌, ℕ, suc, ◌+◌, ◌*◌, ◌<◌, ◌≤◌, ◌⊎◌, Bool, true, false, if◌then◌else◌, List, [], ◌∷◌, length, take, Option, None, Some, slice_get}
use Rattle.std.specs.Int.{abs_diff}
use Rattle.gos_types.specs.declared.shakes.Role.{Role}
use Rattle.gos_types.specs.declared.shakes.Role.TheVariants.{Serve, Ask}
use Rattle.gos_types.specs.Events.{Request, Answer}
use Rattle.gos_plan.specs.Kinds.{Part, Share, part_contacts}
use Rattle.gos_plan.specs.Plans.{End, PartEnd, Joint, Plan, same_end}
use Rattle.gos_expand.specs.declared.arrivals.Origin.{Origin}
use Rattle.gos_expand.specs.declared.arrivals.Origin.TheVariants.{Cells, Other}
use Rattle.gos_expand.specs.declared.arrivals.Arrival.{Arrival}
use Rattle.gos_expand.specs.declared.arrivals.Arrivals.{Arrivals}
use Rattle.gos_expand.specs.declared.choosing.Directions as declared
use Rattle.gos_expand.specs.Gates.{Making, ForEach, passing_of}
use Rattle.gos_expand.specs.declared.whole.Policy.{Policy}
use Rattle.gos_expand.specs.declared.whole.Policy.TheVariants as policies
use Rattle.gos_expand.specs.Starts.{keep_all, chosen, place_of}
use Rattle.gos_expand.specs.Choices.{left_out_at}
use Rattle.gos_expand.specs.Rings.{HasRing}
use Rattle.gos_expand.specs.inner.Arrivals.{or_else, some_if, arrival_at}
use Rattle.gos_expand.specs.inner.Directions.{directions}
use Rattle.gos_expand.specs.inner.Numbering.{laying}
use Rattle.gos_order.specs.Rings as graph
use Rattle.gos_order.specs.Rings.{Edge, HasEdge, and_edge}

-- The joint at an end among these, of which the first is joint x; the table of arrivals holds its number in the place of a cell's.
abbrev pub joint_among : ℕ → List Joint → End → Option Origin
joint_among x [] e = None
joint_among x (j ∷ js) e =
    or_else (or_else (some_if (same_end e j.asking) (Cells x)) (some_if (same_end e j.serving) (Cells x))) (joint_among (suc x) js e)

abbrev pub joint_at : Plan → End → Option Origin
joint_at p = joint_among 0 p.joints

-- The two directions at an end: the one that arrives there, and the one that leaves.
pub record Ways : Type 0 where
  pub arriving : ℕ
  pub leaving : ℕ

abbrev pub ways_by : Role → ℕ → Ways
ways_by Serve x = record { arriving = place_of x Request; leaving = place_of x Answer }
ways_by Ask x = record { arriving = place_of x Answer; leaving = place_of x Request }

abbrev pub ways_in : Role → Option ℕ → Option Ways
ways_in role None = None
ways_in role (Some x) = Some (ways_by role x)

-- the number that an entry holds
abbrev pub number_in : Option Origin → Option ℕ
number_in None = None
number_in (Some (Cells x)) = Some x
number_in (Some (Other e)) = None

abbrev pub ways_of : Option Arrival → Option Ways
ways_of None = None
ways_of (Some a) = ways_in a.contact.role (number_in a.origin)

abbrev pub ways_at : Arrivals → End → Option Ways
ways_at table e = ways_of (arrival_at table e)

-- the two directions as the program holds them
abbrev pub ways_seen : declared.Directions → Ways
ways_seen d = record { arriving = d.arriving; leaving = d.leaving }

-- the numbers of joints are small
abbrev pub HasSmallJoints : Arrivals → Type 0
HasSmallJoints table = (e : End) (a : Arrival) (x : ℕ) → arrival_at table e ≡ Some a → number_in a.origin ≡ Some x → x < 2147483647

-- each direction is one of so many
abbrev pub AreWithin : ℕ → Arrivals → Type 0
AreWithin d table = (e : End) (w : Ways) → ways_at table e ≡ Some w → (w.arriving < d) × (w.leaving < d)

-- edges from where something arrives to where it leaves have no ring
abbrev pub GoAcross : ℕ → List Edge → Type 0
GoAcross d edges = (a b : ℕ) → HasEdge edges a b → (a < d) × (d ≤ b)

-- these edges were added
abbrev pub Adds : (ℕ → ℕ → Type 0) → List Edge → List Edge → Type 0
Adds P before after = (a b : ℕ) → HasEdge after a b ↔ (HasEdge before a b ⊎ P a b)

-- what arrives at one end of a part leads to what leaves at another
pub record IsPassage (d : ℕ) (table : Arrivals) (part from to a b : ℕ) : Type 0 where
  pub first : Ways
  pub comes : ways_at table (PartEnd part from) ≡ Some first
  pub second : Ways
  pub goes : ways_at table (PartEnd part to) ≡ Some second
  pub arriving : a ≡ first.arriving
  pub leaving : b ≡ d + second.leaving

-- where the gates of the part pass it on, to the first n handshakes, from the first n, or of the first n parts
abbrev pub PassesTo : ℕ → Arrivals → Making → Part → ℕ → ℕ → ℕ → ℕ → ℕ → Type 0
PassesTo d table m k part from n a b = (to : ℕ) × (to < n) × (passing_of m k from to ≡ true) × IsPassage d table part from to a b

abbrev pub PassesFrom : ℕ → Arrivals → Making → Part → ℕ → ℕ → ℕ → ℕ → Type 0
PassesFrom d table m k part n a b = (from : ℕ) × (from < n) × PassesTo d table m k part from (length (part_contacts k)) a b

abbrev pub PassesAt : ℕ → Arrivals → (ℕ → Making) → List Part → ℕ → ℕ → ℕ → Type 0
PassesAt d table making parts n a b =
    (part : ℕ) × (k : Part) × (part < n) × (slice_get parts part ≡ Some k)
    × PassesFrom d table (making part) k part (length (part_contacts k)) a b

-- What comes in at a Share goes out on other sides alone, at the same handshake: a third of its handshakes apart, or two.
abbrev pub PassesAcross : Making → Part → Type 0
PassesAcross m (Share t) =
    (from to : ℕ) → passing_of m (Share t) from to ≡ true
    → (3 * abs_diff from to ≡ length (part_contacts (Share t))) ⊎ (3 * abs_diff from to ≡ 2 * length (part_contacts (Share t)))
PassesAcross m k = Unit {0}

abbrev pub AllPassAcross : (ℕ → Making) → List Part → Type 0
AllPassAcross making parts = (i : ℕ) (k : Part) → slice_get parts i ≡ Some k → PassesAcross (making i) k

-- the edges with those of the directions that aren't kept, of which the first is direction n
abbrev pub linked : ℕ → List Edge → ℕ → List Bool → List Edge
linked d edges n [] = edges
linked d edges n (keep ∷ keeps) = linked d (if keep then edges else and_edge edges (d + n) n) (suc n) keeps

-- A direction is kept exactly where its edge would close a ring with those before it, and no ring is left.
pub record AreFew (d : ℕ) (edges : List Edge) (keeps : List Bool) : Type 0 where
  pub kept : (n : ℕ) → slice_get keeps n ≡ Some true → graph.HasRing (and_edge (linked d edges 0 (take n keeps)) (d + n) n)
  pub left_out : (n : ℕ) → slice_get keeps n ≡ Some false → graph.HasRing (and_edge (linked d edges 0 (take n keeps)) (d + n) n) → ⊥
  pub ringless : graph.HasRing (linked d edges 0 keeps) → ⊥

-- so it is of all directions of a plan, in terms of its rings by such gates
pub record KeepsFewRings (making : ℕ → Making) (p : Plan) (keeps : List Bool) : Type 0 where
  pub all : length keeps ≡ directions p
  pub kept : (n : ℕ) → slice_get keeps n ≡ Some true → HasRing (laying (left_out_at (chosen keeps) n) making) p
  pub left_out : (n : ℕ) → slice_get keeps n ≡ Some false → HasRing (laying (left_out_at (chosen keeps) n) making) p → ⊥
  pub ringless : HasRing (laying (chosen keeps) making) p → ⊥

-- the choice of a policy
abbrev pub IsChoiceOf : Policy → Plan → List Bool → Type 0
IsChoiceOf policies.All p keeps = chosen keeps ≡ keep_all
IsChoiceOf policies.Few p keeps = KeepsFewRings (λ i. ForEach) p keeps
