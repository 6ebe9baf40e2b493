-- The port at a place, and what is true before and after its cells are placed.
--
-- Read first: Laid, Numbering. Between the functions of this crate.
use Rattle.std.specs.Prelude.{[], slice_get}
use Rattle.gos_netlist.specs.Nets.{Side, Give, Take}
use Rattle.gos_plan.specs.Kinds.{contacts_of}
use Rattle.gos_plan.specs.Plans.{PartEnd, ImportEnd, ResultEnd, Plan, contacts_of_import}
use Rattle.gos_expand.specs.declared.places.Place.{Place}
use Rattle.gos_expand.specs.declared.places.Place.TheVariants as places
use Rattle.gos_expand.specs.Starts.{Outer}

-- the side of a port
abbrev pub side_at : Place → Side
side_at places.OfResult = Give
side_at place = Take

-- the port at a place; a part has none
abbrev pub outer_at : Plan → Place → Outer
outer_at p places.OfResult = record { side = Give; contacts = contacts_of p.outcome; end_at = ResultEnd }
outer_at p (places.OfImport i) = record { side = Take; contacts = contacts_of_import (slice_get p.imports i); end_at = ImportEnd i }
outer_at p (places.OfPart i) = record { side = Take; contacts = []; end_at = PartEnd i }
