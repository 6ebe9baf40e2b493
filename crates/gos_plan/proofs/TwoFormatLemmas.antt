-- A text of format 1 is one of format 2 but for its first line. An array has no text of format 1.
use Rattle.std.proofs.Common.{◌≡◌, ℕ, zero, suc, ◌++◌, List, [], ◌∷◌, Some, slice_get, get_or, drop, ap, sym, subst, arith}
use Rattle.std.specs.Prelude.{codes}
use Rattle.std.specs.List.{AllByRecursion}
use Rattle.gos_types.specs.Types.{Type', Com, Exp, Var, Pair, Fun}
use Rattle.gos_model.specs.Typing.{Imported}
use Rattle.gos_plan.specs.declared.format.Format.{Format}
use Rattle.gos_plan.specs.declared.format.Format.TheVariants.{One, Two}
use Rattle.gos_plan.specs.Formats.{IsWidthIn, HasWidthsIn}
use Rattle.gos_plan.specs.Kinds.{Part, Skip, Lit, Seq, Par, If, While, Op, Not, Assign, Deref, Local, Array, Share}
use Rattle.gos_plan.specs.Plans.{Plan}
use Rattle.gos_plan.specs.ObjectText.{text_in, IsWritablePart, IsWritableImport, IsWritable}
use Rattle.gos_plan.specs.ObjectFaults.{IsTextOfValues, OneReadsAsTwo, OneHasNoArrays}

width_on : (w : ℕ) → IsWidthIn One w → IsWidthIn Two w
width_on w is = (is.0, omega (arith, is.1))

widths_on : (t : Type') → HasWidthsIn One t → HasWidthsIn Two t
widths_on Com is = tt
widths_on (Exp w) is = width_on w is
widths_on (Var w) is = width_on w is
widths_on (Pair a b) is = (widths_on a is.0, widths_on b is.1)
widths_on (Fun a b) is = (widths_on a is.0, widths_on b is.1)

part_on : (k : Part) → IsWritablePart One k → IsWritablePart Two k
part_on Skip is = tt
part_on (Lit w k) is = (width_on w is.0, is.1)
part_on (Seq v) is = omega (arith, is)
part_on Par is = tt
part_on (If v) is = omega (arith, is)
part_on While is = tt
part_on (Op op w) is = width_on w is
part_on (Not w) is = width_on w is
part_on (Assign w) is = width_on w is
part_on (Deref w) is = width_on w is
part_on (Local w v) is = (width_on w is.0, omega (arith, is.1))
part_on (Array w n v) is = absurd is.0
part_on (Share t) is = widths_on t is

parts_on : (ks : List Part) → AllByRecursion (IsWritablePart One) ks → AllByRecursion (IsWritablePart Two) ks
parts_on [] are = tt
parts_on (k ∷ ks) are = (part_on k are.0, parts_on ks are.1)

imports_on : (is : List Imported) → AllByRecursion (IsWritableImport One) is → AllByRecursion (IsWritableImport Two) is
imports_on [] are = tt
imports_on (i ∷ is) are = ((are.0.0, widths_on i.ty are.0.1), imports_on is are.1)

plan_on : (p : Plan) → IsWritable One p → IsWritable Two p
plan_on p is =
    record {
      weight = is.weight;
      imports = (is.imports.0, imports_on p.imports is.imports.1);
      outcome = widths_on p.outcome is.outcome;
      parts = (is.parts.0, parts_on p.parts is.parts.1);
      joints = is.joints;
    }

pub one_reads_as_two : OneReadsAsTwo
one_reads_as_two rest p (is, right) = (again is.format is.is is.writable, right)
  where
    again : (format : Format) → codes "gosobj 1" ++ rest ≡ text_in format p → IsWritable format p → IsTextOfValues (codes "gosobj 2" ++ rest) p
    again Two same writable = let byte : 49 ≡ 50 = ap (λ (bytes : List ℕ). get_or bytes 7 0) same in absurd (omega (arith, byte))
    again One same writable =
        record {
          format = Two;
          short = is.short;
          is = ap (λ (bytes : List ℕ). codes "gosobj 2" ++ drop 8 bytes) same;
          writable = plan_on p writable;
          small = is.small;
        }

no_array : (w n v i : ℕ) (ks : List Part) → slice_get ks i ≡ Some (Array w n v) → AllByRecursion (IsWritablePart One) ks → ⊥
no_array w n v i [] at are = absurd cc
no_array w n v zero (k ∷ ks) at are = let same : k ≡ Array w n v = cc at in (subst (IsWritablePart One) same are.0).0
no_array w n v (suc i) (k ∷ ks) at are = no_array w n v i ks at are.1

pub one_has_no_arrays : OneHasNoArrays
one_has_no_arrays w n v i p at is = no_array w n v i p.parts at is.parts.1
