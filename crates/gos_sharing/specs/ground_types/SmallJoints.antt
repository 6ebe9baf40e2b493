-- Small plans of a variable, joined at both handshakes and at one.
--
-- Read first: Joints.
use Rattle.std.specs.Prelude.{[], ◌∷◌}
use Rattle.gos_types.specs.Types.{Var}
use Rattle.gos_model.specs.Terms.{Term}
use Rattle.gos_model.specs.SmallPrograms.{c}
use Rattle.gos_plan.specs.Plans.{Plan, ImportEnd, ResultEnd}
use Rattle.gos_realises.specs.realises.Realises.{Realises}
use Rattle.gos_joining.specs.webs.Webs.{joint}
use Rattle.gos_sharing.specs.buffers.Buffering.{ResultIsJoined}

-- `import c : var 8; c`
abbrev pub named_variable : Plan
named_variable =
    record {
      weight = 10;
      imports = record { name = c; ty = Var 8 } ∷ [];
      outcome = Var 8;
      parts = [];
      joints = joint (ResultEnd 0) (ImportEnd 0 0) ∷ joint (ResultEnd 1) (ImportEnd 0 1) ∷ [];
    }

abbrev pub NamedIsJoined : Type 0
NamedIsJoined = ResultIsJoined named_variable

-- Where it can be read alone, or written alone, it realises nothing.
abbrev pub only_read : Plan
only_read = record named_variable { joints = joint (ResultEnd 0) (ImportEnd 0 0) ∷ [] }

abbrev pub only_written : Plan
only_written = record named_variable { joints = joint (ResultEnd 1) (ImportEnd 0 1) ∷ [] }

abbrev pub OnlyReadIsNone : Type 0
OnlyReadIsNone = (m : Term) → Realises (Var 8) only_read m → ⊥

abbrev pub OnlyWrittenIsNone : Type 0
OnlyWrittenIsNone = (m : Term) → Realises (Var 8) only_written m → ⊥
