-- Where the blocks of a plan's netlist begin, as the program keeps it.
--
-- Read first: Arrivals, Departures, Acceptance. Between the functions of this crate.
use Rattle.std.specs.Prelude.{◌≡◌, ℕ, zero, suc, ◌+◌, ◌≤◌, List, [], ◌∷◌, map}
use Rattle.gos_plan.specs.Seen.{end_of}
use Rattle.gos_plan.specs.Size.{plan_size}
use Rattle.gos_plan.specs.Plans.{End, PartEnd, ImportEnd, ResultEnd, Plan}
use Rattle.gos_expand.specs.declared.places.Place.{Place}
use Rattle.gos_expand.specs.declared.places.Place.TheVariants as places
use Rattle.gos_expand.specs.declared.numbering.Numbering.{Numbering}
use Rattle.gos_expand.specs.Blocks.{total}
use Rattle.gos_expand.specs.Gates.{Making, part_size}
use Rattle.gos_expand.specs.inner.Orders.{making_in, AreOrdersOf}
use Rattle.gos_expand.specs.Starts.{Keep, Laying, chosen, port_size, ports_of, loose_ends, parts_start}
use Rattle.gos_expand.specs.inner.Tokens.{held_nets}
use Rattle.gos_expand.specs.inner.Arrivals.{AreAt, start_at}
use Rattle.gos_expand.specs.inner.Departures.{departures_from}

-- where each of these blocks begins, of which the first begins at net n
abbrev pub starts : {A : Type 0} → (ℕ → A → ℕ) → ℕ → ℕ → List A → List ℕ
starts {A} size k n [] = []
starts {A} size k n (x ∷ xs) = n ∷ starts size (suc k) (n + size k x) xs

-- the end of this number there
abbrev pub end_at : Place → ℕ → End
end_at (places.OfPart i) h = PartEnd i h
end_at (places.OfImport i) h = ImportEnd i h
end_at places.OfResult h = ResultEnd h

-- the ends of so many handshakes, from handshake h on
abbrev pub ends_from : (ℕ → End) → ℕ → ℕ → List End
ends_from end h zero = []
ends_from end h (suc n) = end h ∷ ends_from end (suc h) n

-- how many cells there are
abbrev pub laid_size : Laying → Plan → ℕ
laid_size lay p = parts_start lay p + total (λ n k. part_size (lay.making n) k) 0 p.parts

-- which directions of joints keep their registers, and for which orders gates are made
abbrev pub laying : Keep → (ℕ → Making) → Laying
laying keep making = record { keep = keep; making = making }

abbrev pub laying_in : Numbering → Laying
laying_in n = laying (chosen n.keep.now) (making_in n.orders.now)

-- the program's numbers are those of the plan
pub record IsNumbered (p : Plan) (n : Numbering) : Type 0 where
  pub of_arrivals : AreAt p (start_at (laying_in n) p) n.arrivals
  pub of_loose : map end_of n.loose.items ≡ loose_ends p
  pub of_ports : n.ports.items ≡ starts port_size 0 0 (ports_of p)
  pub of_departures : map (λ s. map held_nets s.items) n.departures.parts.items ≡ departures_from (making_in n.orders.now) 0 (parts_start (laying_in n) p) p.parts
  pub of_orders : AreOrdersOf (making_in n.orders.now) p.parts
  pub first_part : n.parts_start ≡ parts_start (laying_in n) p
  pub whole : n.size ≡ laid_size (laying_in n) p
  pub room : n.size ≤ 4000000000
  pub few : n.size ≤ plan_size p
