-- Where what comes in at each end begins, as the program keeps it.
--
-- Read first: Starts; Contacts of gos_plan. Between the functions of this crate.
use Rattle.std.specs.Prelude.{◌≡◌, ℕ, suc, ◌+◌, Bool, true, false, if◌then◌else◌, List, [], ◌∷◌, map, Option, None, Some, slice_get, IsSome}
use Rattle.gos_types.specs.Events.{Request, Answer}
use Rattle.gos_plan.specs.declared.plan.End as declared
use Rattle.gos_plan.specs.declared.plan.End.TheVariants as ends
use Rattle.gos_plan.specs.Kinds.{Contact}
use Rattle.gos_plan.specs.Contacts.{held_contact, contact_held}
use Rattle.gos_plan.specs.Plans.{End, PartEnd, ImportEnd, ResultEnd, Joint, Plan, contact_at, same_end}
use Rattle.gos_plan.specs.Seen.{end_of}
use Rattle.gos_plan.specs.Tokens.{bits_of, way_taken}
use Rattle.gos_expand.specs.declared.arrivals.Origin.{Origin}
use Rattle.gos_expand.specs.declared.arrivals.Origin.TheVariants.{Cells, Other}
use Rattle.gos_expand.specs.declared.arrivals.Arrival.{Arrival}
use Rattle.gos_expand.specs.declared.arrivals.Arrivals.{Arrivals}
use Rattle.gos_expand.specs.Blocks.{Nets, nets_from}
use Rattle.gos_expand.specs.Starts.{Laying, way_size, joint_size, loose_size, joints_start, loose_ends_start, loose_ends}

-- an end, as the program holds it
abbrev pub held_end : End → declared.End
held_end (PartEnd i h) = ends.Part i h
held_end (ImportEnd i h) = ends.Import i h
held_end (ResultEnd h) = ends.Result h

-- the entry of a handshake of which it isn't known yet where what comes in begins
abbrev pub new_arrival : Contact → Arrival
new_arrival c = record { contact = held_contact c; origin = None }

-- the entry at an end
abbrev pub arrival_in : Option (List Arrival) → ℕ → Option Arrival
arrival_in None h = None
arrival_in (Some entries) h = slice_get entries h

abbrev pub arrival_at : Arrivals → End → Option Arrival
arrival_at table (PartEnd i h) = arrival_in (slice_get (map (λ s. s.items) table.parts.items) i) h
arrival_at table (ImportEnd i h) = arrival_in (slice_get (map (λ s. s.items) table.imports.items) i) h
arrival_at table (ResultEnd h) = slice_get table.result.items h

-- the entry of a handshake that there is
abbrev pub arrival_if : Option Origin → Option Contact → Option Arrival
arrival_if origin None = None
arrival_if origin (Some c) = Some (record { contact = held_contact c; origin = origin })

-- There is an entry for each end of the plan, and it has this origin.
abbrev pub AreAt : Plan → (End → Option Origin) → Arrivals → Type 0
AreAt p origins table = (e : End) → arrival_at table e ≡ arrival_if (origins e) (contact_at p e)

-- the first of two
abbrev pub or_else : Option Origin → Option Origin → Option Origin
or_else None b = b
or_else (Some a) b = Some a

abbrev pub some_if : Bool → Origin → Option Origin
some_if true a = Some a
some_if false a = None

-- an entry with an origin, unless it has one
abbrev pub filled : Origin → Arrival → Arrival
filled origin a = record a { origin = or_else a.origin (Some origin) }

abbrev pub filled_if : Bool → Origin → Option Arrival → Option Arrival
filled_if b origin None = None
filled_if b origin (Some a) = Some (if b then filled origin a else a)

-- one end more has an origin
abbrev pub Fills : End → Origin → Arrivals → Arrivals → Type 0
Fills e origin before after = (d : End) → arrival_at after d ≡ filled_if (same_end d e) origin (arrival_at before d)

-- where what comes in by a direction of a joint begins: with registers at net n, or else with what goes in at the other end
abbrev pub by_way : Bool → ℕ → End → Origin
by_way true n other = Cells n
by_way false n other = Other (held_end other)

-- where what comes in at an end begins by joint x whose first cell is n
abbrev pub start_by : Laying → Plan → ℕ → ℕ → Joint → End → Option Origin
start_by lay p x n j e =
    or_else (some_if (same_end e j.asking) (by_way (lay.keep x Answer) (n + way_size lay p x j Request) j.serving))
    (some_if (same_end e j.serving) (by_way (lay.keep x Request) n j.asking))

-- by these joints, of which the first is joint x
abbrev pub start_by_joints : Laying → Plan → ℕ → ℕ → List Joint → End → Option Origin
start_by_joints lay p x n [] e = None
start_by_joints lay p x n (j ∷ js) e = or_else (start_by lay p x n j e) (start_by_joints lay p (suc x) (n + joint_size lay p x j) js e)

-- where it begins among these ends, of which the first begins at net n
abbrev pub start_by_ends : Plan → ℕ → List End → End → Option Origin
start_by_ends p n [] e = None
start_by_ends p n (d ∷ ds) e = or_else (some_if (same_end e d) (Cells n)) (start_by_ends p (n + loose_size p 0 d) ds e)

-- by the plan's joints, and at all ends
abbrev pub joined_start : Laying → Plan → End → Option Origin
joined_start lay p = start_by_joints lay p 0 (joints_start p) p.joints

abbrev pub start_at : Laying → Plan → End → Option Origin
start_at lay p e = or_else (joined_start lay p e) (start_by_ends p (loose_ends_start lay p) (loose_ends p) e)

-- The nets of what comes in, of so many bits, where these leave at other ends; `rest` is where it begins if that isn't known.
abbrev pub nets_by : (End → Nets) → ℕ → ℕ → Option Origin → Nets
nets_by leaving rest w None = nets_from w rest
nets_by leaving rest w (Some (Cells n)) = nets_from w n
nets_by leaving rest w (Some (Other e)) = leaving (end_of e)

abbrev pub nets_of : (End → Nets) → ℕ → Arrival → Nets
nets_of leaving rest a = nets_by leaving rest (bits_of (contact_held a.contact) (way_taken a.contact.role)) a.origin

-- each of these ends is one of the plan
abbrev pub Exist : Plan → List End → Type 0
Exist p [] = Unit {0}
Exist p (e ∷ es) = IsSome (contact_at p e) × Exist p es
