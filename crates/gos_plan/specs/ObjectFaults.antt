-- Which texts are read as a plan, and why the others are not.
--
-- Read first: ObjectText, ObjectItems, Faults. Places count bytes from 0.
use Rattle.std.specs.Prelude.{◌≡◌, ℕ, ◌<◌, ◌≤◌, ◌⊎◌, List, ◌++◌, length, codes, Some, slice_get}
use Rattle.gos_lex.specs.Items.{StopsAt}
use Rattle.gos_plan.specs.declared.fault.ObjectFault.{ObjectFault}
use Rattle.gos_plan.specs.declared.fault.ObjectFault.TheVariants as faults
use Rattle.gos_plan.specs.Plans.{Plan, IsRight}
use Rattle.gos_plan.specs.Faults.{IsFirstWrong}
use Rattle.gos_plan.specs.TextItems.{IsItem}
use Rattle.gos_plan.specs.declared.format.Format.{Format}
use Rattle.gos_plan.specs.declared.format.Format.TheVariants.{One}
use Rattle.gos_plan.specs.Kinds.{Array}
use Rattle.gos_plan.specs.ObjectText.{text_in, IsWritable, IsSmallPlan}
use Rattle.gos_plan.specs.ObjectItems.{whole}

-- a text of the format, and the longest that is read
abbrev pub IsObjectText : List ℕ → Type 0
IsObjectText text = IsItem whole text

abbrev pub IsShort : List ℕ → Type 0
IsShort text = length text ≤ 4194304

-- a limit is exceeded at this place
abbrev pub IsOverLimit : List ℕ → ℕ → Type 0
IsOverLimit text at = whole.Over text 0 at

-- the text is that of these values in a format, and all limits are kept
pub record IsTextOfValues (text : List ℕ) (p : Plan) : Type 0 where
  pub format : Format
  pub short : IsShort text
  pub is : text ≡ text_in format p
  pub writable : IsWritable format p
  pub small : IsSmallPlan p

-- the text is that of this plan
abbrev pub IsRead : List ℕ → Plan → Type 0
IsRead text p = IsTextOfValues text p × IsRight p

-- Why a text is refused. `Form`: `at` is the first place at which it can't go on as a text of the format, or its end.
abbrev pub HasFault : List ℕ → ObjectFault → Type 0
HasFault text (faults.Form at) =
    IsShort text × ((place : ℕ) → IsOverLimit text place → ⊥) × StopsAt IsObjectText text 0 at × (IsObjectText text → ⊥)
HasFault text (faults.Limit at) = ((4194304 < length text) × (at ≡ 4194304)) ⊎ (IsShort text × IsOverLimit text at)
HasFault text (faults.Joint index) = (p : Plan) × IsTextOfValues text p × IsFirstWrong p index
HasFault text faults.NoMemory = Unit {0}

-- a text is of one format at most, and that of one plan at most, but for the order of parts and joints, which is the plan's
abbrev pub IsOnePlan : List ℕ → Type 0
IsOnePlan text =
    (format other_format : Format) (p other : Plan) → IsWritable format p → IsWritable other_format other
    → text ≡ text_in format p → text ≡ text_in other_format other → (format ≡ other_format) × (p ≡ other)

-- a text of format 1, with the 1 of its first line written as 2, is that of the same plan
abbrev pub OneReadsAsTwo : Type 0
OneReadsAsTwo = (rest : List ℕ) (p : Plan) → IsRead (codes "gosobj 1" ++ rest) p → IsRead (codes "gosobj 2" ++ rest) p

-- an array has no text of format 1
abbrev pub OneHasNoArrays : Type 0
OneHasNoArrays = (w n v i : ℕ) (p : Plan) → slice_get p.parts i ≡ Some (Array w n v) → IsWritable One p → ⊥

-- a text that is read has no fault but want of memory
abbrev pub ReadHasNoFault : List ℕ → Type 0
ReadHasNoFault text = (p : Plan) (fault : ObjectFault) → IsRead text p → HasFault text fault → fault ≡ faults.NoMemory

-- a text has one fault at most beside want of memory
abbrev pub HasOneFault : List ℕ → Type 0
HasOneFault text =
    (fault other : ObjectFault) → HasFault text fault → HasFault text other
    → (fault ≡ other) ⊎ ((fault ≡ faults.NoMemory) ⊎ (other ≡ faults.NoMemory))
