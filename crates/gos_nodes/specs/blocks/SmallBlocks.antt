-- The plans of `new x : 1 in skip` and of `new a[2] : 1 in skip`: each is a block, whose body is the plan of `skip` with an import that is
-- not used. And a block whose body reads an array, and leaves the index unjoined.
--
-- Read first: Block; SmallPlans of gos_plan, SmallParallel of parallel.
use Rattle.std.specs.Prelude.{zero, suc, [], ◌∷◌, Option, Some, None}
use Rattle.gos_types.specs.Types.{Com, Exp, Var}
use Rattle.gos_model.specs.Terms as terms
use Rattle.gos_model.specs.Terms.{New, NewArray}
use Rattle.gos_model.specs.SmallPrograms.{c}
use Rattle.gos_model.specs.Typing.{Imported, array_type}
use Rattle.gos_plan.specs.Kinds.{Skip, Deref, Local, Array}
use Rattle.gos_plan.specs.Plans.{End, PartEnd, ImportEnd, ResultEnd, Plan}
use Rattle.gos_plan.specs.SmallPlans.{skip_plan}
use Rattle.gos_joining.specs.webs.Webs.{joint}
use Rattle.gos_joining.specs.webs.Cutting.{Cut, StandsIn}
use Rattle.gos_realises.specs.realises.Realises.{Realises}
use Rattle.gos_nodes.specs.parallel.SmallParallel.{skip_number}
use Rattle.gos_nodes.specs.blocks.Servers.{local_server, array_server}
use Rattle.gos_nodes.specs.blocks.Block.{Block, IsBlock}

abbrev pub one_bit : Imported
one_bit = record { name = c; ty = Var 1 }

-- the body
abbrev pub unused : Plan
unused = record skip_plan { imports = one_bit ∷ [] }

abbrev pub new_skip : Plan
new_skip =
    record {
      weight = 10;
      imports = [];
      outcome = Com;
      parts = Local 1 0 ∷ Skip ∷ [];
      joints = joint (ResultEnd 0) (PartEnd 0 3) ∷ joint (PartEnd 0 0) (PartEnd 1 0) ∷ [];
    }

-- the body's end behind an end of the whole, and the other way
abbrev pub body_outer : End → End
body_outer (PartEnd i h) = PartEnd 0 0
body_outer (ImportEnd i h) = PartEnd 0 (suc h)
body_outer (ResultEnd h) = PartEnd 0 0

abbrev pub body_inner : End → Option End
body_inner (PartEnd zero zero) = Some (ResultEnd 0)
body_inner (PartEnd zero (suc h)) = None
body_inner (PartEnd (suc i) h) = None
body_inner (ImportEnd i h) = None
body_inner (ResultEnd h) = None

abbrev pub body_out : Cut
body_out = record { part = λ i. 1; number = skip_number; outer = body_outer; inner = body_inner }

abbrev pub skip_block : Block
skip_block = record { own = 0; server = local_server 1 0; body = unused; cut = body_out; place = 0; variable = one_bit }

-- it is a block
abbrev pub NewSkipIsBlock : Type 0
NewSkipIsBlock = IsBlock new_skip skip_block

-- without an import for the variable it isn't
abbrev pub VariableIsNeeded : Type 0
VariableIsNeeded = IsBlock new_skip (record skip_block { body = skip_plan }) → ⊥

-- nor with a variable of another width, or with another part in the place of the server
abbrev pub WidthIsNeeded : Type 0
WidthIsNeeded = IsBlock new_skip (record skip_block { server = local_server 2 0 }) → ⊥

abbrev pub OtherPartIsNot : Type 0
OtherPartIsNot = IsBlock new_skip (record skip_block { own = 1 }) → ⊥

-- So it realises the block, where the body's plan realises `skip`: all else that the law asks for is there.
abbrev pub NewSkipIsRealised : Type 0
NewSkipIsRealised = Realises Com unused terms.Skip → Realises Com new_skip (New 1 terms.Skip)

-- An array of two numbers in the place of the variable.
abbrev pub two_bits : Imported
two_bits = record { name = c; ty = array_type 2 1 }

abbrev pub unused_array : Plan
unused_array = record skip_plan { imports = two_bits ∷ [] }

abbrev pub new_array : Plan
new_array =
    record new_skip {
      parts = Array 1 2 0 ∷ Skip ∷ [];
      joints = joint (ResultEnd 0) (PartEnd 0 4) ∷ joint (PartEnd 0 0) (PartEnd 1 0) ∷ [];
    }

abbrev pub array_block : Block
array_block = record skip_block { server = array_server 1 2 0; body = unused_array; variable = two_bits }

abbrev pub NewArrayIsBlock : Type 0
NewArrayIsBlock = IsBlock new_array array_block

abbrev pub NewArrayIsRealised : Type 0
NewArrayIsRealised = Realises Com unused_array terms.Skip → Realises Com new_array (NewArray 2 1 terms.Skip)

-- An array of another length isn't its server, nor is a variable.
abbrev pub LengthIsNeeded : Type 0
LengthIsNeeded =
    (IsBlock new_array (record array_block { server = array_server 1 4 0 }) → ⊥)
    × (IsBlock new_array (record array_block { server = local_server 1 0 }) → ⊥)

-- An array that is read at an index that stands in no joint. The request for it is lost, in the body and in the whole.
abbrev pub reading : Plan
reading =
    record {
      weight = 10;
      imports = two_bits ∷ [];
      outcome = Exp 1;
      parts = Deref 1 ∷ [];
      joints = joint (ResultEnd 0) (PartEnd 0 1) ∷ joint (PartEnd 0 0) (ImportEnd 0 1) ∷ [];
    }

abbrev pub new_reading : Plan
new_reading =
    record {
      weight = 20;
      imports = [];
      outcome = Exp 1;
      parts = Array 1 2 1 ∷ Deref 1 ∷ [];
      joints = joint (ResultEnd 0) (PartEnd 0 4) ∷ joint (PartEnd 0 0) (PartEnd 1 1) ∷ joint (PartEnd 1 0) (PartEnd 0 2) ∷ [];
    }

abbrev pub reading_inner : End → Option End
reading_inner (PartEnd zero zero) = Some (ResultEnd 0)
reading_inner (PartEnd zero (suc zero)) = None
reading_inner (PartEnd zero (suc (suc zero))) = Some (ImportEnd 0 1)
reading_inner (PartEnd zero (suc (suc (suc h)))) = None
reading_inner (PartEnd (suc i) h) = None
reading_inner (ImportEnd i h) = None
reading_inner (ResultEnd h) = None

abbrev pub reading_out : Cut
reading_out = record body_out { inner = reading_inner }

abbrev pub reading_block : Block
reading_block = record { own = 0; server = array_server 1 2 1; body = reading; cut = reading_out; place = 0; variable = two_bits }

abbrev pub ReadingIsBlock : Type 0
ReadingIsBlock = IsBlock new_reading reading_block × (StandsIn reading (ImportEnd 0 0) → ⊥)
