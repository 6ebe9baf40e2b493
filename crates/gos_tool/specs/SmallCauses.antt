-- Of which commands the weight and the size of a build are causes.
--
-- Read first: Causes, Run. They show that the kinds of causes can be met and can be missed.
use Rattle.std.specs.Prelude.{ℕ}
use Rattle.gos_lex.specs.Lines.{Word}
use Rattle.gos_link.specs.declared.fault.LinkFault.TheVariants as faults
use Rattle.gos_command.specs.declared.status.Cause.TheVariants as causes
use Rattle.gos_tool.specs.Causes.{IsOneOf}
use Rattle.gos_tool.specs.Command.{Link, Build, Demo, Explain, Verify}
use Rattle.gos_tool.specs.Run.{kinds_of}

-- of `link` it is
abbrev pub LinkMayBeTooLarge : Type 0
LinkMayBeTooLarge = (own : Word) (size ports : ℕ) → IsOneOf (kinds_of (Link own)) (causes.Link (faults.TooLarge size ports))

-- of `build` and `demo` it is not
abbrev pub BuildIsNeverTooLarge : Type 0
BuildIsNeverTooLarge = (own : Word) (size ports : ℕ) → IsOneOf (kinds_of (Build own)) (causes.Link (faults.TooLarge size ports)) → ⊥

abbrev pub DemoIsNeverTooLarge : Type 0
DemoIsNeverTooLarge = (levels size ports : ℕ) → IsOneOf (kinds_of (Demo levels)) (causes.Link (faults.TooLarge size ports)) → ⊥

-- its weight is one of `build`, and none of `explain` and `verify`, which compile nothing
abbrev pub BuildMayBeTooHeavy : Type 0
BuildMayBeTooHeavy = (own : Word) (weight : ℕ) → IsOneOf (kinds_of (Build own)) (causes.Link (faults.TooHeavy weight))

abbrev pub ExplainedIsNeverTooHeavy : Type 0
ExplainedIsNeverTooHeavy =
    (own moves : Word) (weight : ℕ) → (IsOneOf (kinds_of (Explain own moves)) (causes.Link (faults.TooHeavy weight)) → ⊥)
    × (IsOneOf (kinds_of (Verify own moves)) (causes.Link (faults.TooHeavy weight)) → ⊥)
