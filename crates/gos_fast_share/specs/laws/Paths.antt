-- The gates of a Share by order keep what is asked of paths, at each type and in each order.
--
-- Read first: Order; Paths of gos_macro.
use Rattle.std.proofs.Common.{inl, ℕ, ◌<◌, List, refl}
use Rattle.std.specs.Prelude.{length, slice_get}
use Rattle.gos_types.specs.Types.{Type', type_of}
use Rattle.gos_plan.specs.Kinds.{Share, contacts_of, part_contacts}
use Rattle.gos_macro.specs.Paths.{LeadsOn, PulseLeadsOn, TellsIfItPasses}
use Rattle.gos_share.specs.laws.Paths.{pulse_goes_out}
use Rattle.gos_fast_share.specs.Fast.{fast_cells, fast_outs, fast_passing}
use Rattle.gos_fast_share.specs.Order.{FastKeepPaths}
use Rattle.gos_fast_share.specs.laws.Puts.{fast_puts}
use Rattle.gos_fast_share.specs.laws.Ways.{fast_ways}
use Rattle.gos_fast_share.specs.laws.Origins.{fast_from}
use Rattle.gos_fast_share.specs.laws.Renamed.{fast_named}

-- the table is exact
fast_passes : (t : Type') (order : List ℕ) (from to : ℕ) → from < length (part_contacts (Share t))
    → TellsIfItPasses (Share t) (fast_cells (contacts_of t) order) (fast_outs (contacts_of t) order) from to (fast_passing (contacts_of t) order from to)
fast_passes t order from to low b i apart = (
  (λ yes. leads (fast_ways b i (contacts_of t) order from to yes)),
  (λ path. fast_from b i (contacts_of t) order from to apart low path),
)
  where
    leads : PulseLeadsOn b i (fast_cells (contacts_of t) order b i) (fast_outs (contacts_of t) order b) from to
        → LeadsOn (part_contacts (Share t)) b i (fast_cells (contacts_of t) order b i) (fast_outs (contacts_of t) order b) from to
    leads (z, ns, out, path) = (i.pulse from, z, ns, inl refl, pulse_goes_out (slice_get (fast_outs (contacts_of t) order b) to) z out, path)

pub fast_paths : FastKeepPaths
fast_paths t order =
    record {
      exact = λ from to low near. fast_passes (type_of t) order from to low;
      pulses = λ b i from to apart low near yes. fast_ways b i (contacts_of (type_of t)) order from to yes;
      waits = λ from to low near late. cc late;
      puts = fast_puts (type_of t) order;
      named = λ f b d i o names. fast_named (contacts_of (type_of t)) order f b d i o names;
    }
