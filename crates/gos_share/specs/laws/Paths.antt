-- The gates of a Share keep what is asked of paths, at each type.
--
-- Read first: Layout; Paths.
use Rattle.std.proofs.Common.{inl, ℕ, ◌<◌, Option, None, Some, refl}
use Rattle.std.specs.Prelude.{length, slice_get}
use Rattle.gos_types.specs.declared.types.Ty.{Ty}
use Rattle.gos_types.specs.Types.{Type', type_of}
use Rattle.gos_plan.specs.Kinds.{Share, contacts_of, part_contacts}
use Rattle.gos_plan.specs.Ranges.{IsSmall}
use Rattle.gos_macro.specs.Gates.{Outgoing, Bare, Bearing}
use Rattle.gos_macro.specs.Paths.{IsOut, IsPulseOut, LeadsOn, PulseLeadsOn, TellsIfItPasses, KeepPaths}
use Rattle.gos_share.specs.Layout.{layout, outs_of, late_of, passing_of}
use Rattle.gos_share.specs.laws.Pairs.{share_waits}
use Rattle.gos_share.specs.laws.Puts.{share_puts}
use Rattle.gos_share.specs.laws.Origins.{share_from}
use Rattle.gos_share.specs.laws.Ways.{share_ways}
use Rattle.gos_share.specs.laws.Named.{share_named}

-- what the law says of the Share of a type
abbrev pub SharePaths : Ty → Type 0
SharePaths t =
    KeepPaths (Share (type_of t)) (layout (Share (type_of t))) (outs_of (Share (type_of t))) (late_of (Share (type_of t))) (passing_of (Share (type_of t)))

pub pulse_goes_out : (o : Option Outgoing) (z : ℕ) → IsPulseOut o z → IsOut o z
pulse_goes_out None z out = out
pulse_goes_out (Some (Bare p)) z out = out
pulse_goes_out (Some (Bearing p a)) z out = inl out

-- the table is exact
pub share_passes : (t : Type') (from to : ℕ) → from < length (part_contacts (Share t))
    → TellsIfItPasses (Share t) (layout (Share t)) (outs_of (Share t)) from to (passing_of (Share t) from to)
share_passes t from to low b i apart = (
  (λ yes. leads (share_ways b i (contacts_of t) from to yes)),
  (λ path. share_from b i (contacts_of t) from to apart low path),
)
  where
    leads : PulseLeadsOn b i (layout (Share t) b i) (outs_of (Share t) b) from to
        → LeadsOn (part_contacts (Share t)) b i (layout (Share t) b i) (outs_of (Share t) b) from to
    leads (z, ns, out, path) = (i.pulse from, z, ns, inl refl, pulse_goes_out (slice_get (outs_of (Share t) b) to) z out, path)

pub share_paths : (t : Ty) → IsSmall t → SharePaths t
share_paths t small =
    record {
      exact = λ from to low near. share_passes (type_of t) from to low;
      pulses = λ b i from to apart low near yes. share_ways b i (contacts_of (type_of t)) from to yes;
      waits = λ from to low near late. share_waits (contacts_of (type_of t)) from to late;
      puts = share_puts (type_of t);
      named = λ f b d i o names. share_named (contacts_of (type_of t)) f b d i o names;
    }
