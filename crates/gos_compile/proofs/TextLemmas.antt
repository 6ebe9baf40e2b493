-- How long the text of a slim plan is: at most 21 bytes a part and 4 for each of its handshakes, 46 a joint and 1,031 an
-- import.
use Rattle.std.specs.Prelude.{◌≡◌, ℕ, zero, suc, ◌+◌, ◌*◌, ◌^◌, ◌<◌, ◌≤◌, List, [], ◌∷◌, ◌++◌, length, codes}
use Rattle.std.specs.Fmt.{decimal}
use Rattle.std.specs.List.{AllByRecursion, flat_map}
use Rattle.std.proofs.Common.{inl, inr, arith, length-append}
use Rattle.std.proofs.lemmas.Fmt.{length-decimal-le}
use Rattle.std.proofs.Math.Pow.{pow_mono}
use Rattle.gos_types.specs.declared.widths.TheConstants.{GREATEST_WIDTH}
use Rattle.gos_types.specs.Types.{Type', Com, Exp, Var, Pair, Fun}
use Rattle.gos_model.specs.Typing.{Imported, IsLength}
use Rattle.gos_plan.specs.Kinds as kinds
use Rattle.gos_model.specs.Terms as terms
use Rattle.gos_model.specs.Terms.{Op as Operation}
use Rattle.gos_plan.specs.Kinds.{Part, part_contacts}
use Rattle.gos_plan.specs.Plans.{End, PartEnd, ImportEnd, ResultEnd, Joint, Plan}
use Rattle.gos_plan.specs.declared.format.Format.TheVariants.{Two}
use Rattle.gos_plan.specs.Formats.{HasWidthsIn, head_text}
use Rattle.gos_plan.specs.ObjectText.{number_text, type_text, bits_text, body_text, word_text, word_of, operands_text, part_text, import_text, end_text, joint_text, section_text, imports_text, parts_text, joints_text, text_of, IsNumber, IsWritablePart, IsWritableImport, IsWritableEnd, IsWritableJoint, IsWritable, IsSmallType, IsSmallPlan}
use Rattle.gos_realises.specs.realises.Regular.{count}
use Rattle.gos_realises.specs.realises.Slim.{all_shakes, IsSlim}
use Rattle.gos_realises.proofs.realises.CountLemmas.{count_pair, count_fun}
use Rattle.gos_compile.proofs.BoundLemmas.{same_count}
use Rattle.gos_compile.proofs.LoadLemmas.{share_shakes}

-- numbers
number_length : (e k n : ℕ) → 0 < k → n < 10 ^ k → n < 2 ^ 64 → length (number_text e n) ≤ k + 1
number_length e k n some below fits =
    let all = length-append (decimal n) (e ∷ []) in let digits = length-decimal-le k n some below fits in omega (arith, all, digits)

big_length : (e n : ℕ) → IsNumber n → length (number_text e n) ≤ 11
big_length e n is = number_length e 10 n (omega arith) (omega (arith, is)) (omega (arith, is))

bits_length : (e w : ℕ) → w ≤ GREATEST_WIDTH → length (number_text e w) ≤ 3
bits_length e w is = number_length e 2 w (omega arith) (omega (arith, is)) (omega (arith, is))

-- types
type_length : (e : ℕ) (t : Type') → HasWidthsIn Two t → length (type_text e t) + 5 ≤ 12 * count t
type_length e Com is = omega arith
type_length e (Exp w) is =
    let all = length-append (codes "exp ") (number_text e w) in let digits = bits_length e w is.1 in omega (arith, all, digits)
type_length e (Var w) is =
    let all = length-append (codes "var ") (number_text e w) in let digits = bits_length e w is.1 in omega (arith, all, digits)
type_length e (Pair a b) is =
    let all = length-append (codes "pair ") (type_text 32 a ++ type_text e b) in
    let both = length-append (type_text 32 a) (type_text e b) in
    let one = type_length 32 a is.0 in
    let other = type_length e b is.1 in
    let shakes = count_pair a b in
    omega (arith, all, both, one, other, shakes)
type_length e (Fun a b) is =
    let all = length-append (codes "fun ") (type_text 32 a ++ type_text e b) in
    let both = length-append (type_text 32 a) (type_text e b) in
    let one = type_length 32 a is.0 in
    let other = type_length e b is.1 in
    let shakes = count_fun a b in
    omega (arith, all, both, one, other, shakes)

-- parts
bits_few : (v : ℕ) → v ≤ GREATEST_WIDTH → length (bits_text v) ≤ 3
bits_few zero is = omega arith
bits_few (suc v) is = bits_length 10 (suc v) is

body_length : (v : ℕ) → v ≤ GREATEST_WIDTH → length (body_text v) ≤ 7
body_length zero is = omega arith
body_length (suc v) is =
    let all = length-append (codes "exp ") (number_text 10 (suc v)) in let digits = bits_length 10 (suc v) is in omega (arith, all, digits)

operator_length : (op : Operation) (w : ℕ) → length (word_text (word_of (kinds.Op op w))) ≤ 7
operator_length terms.Add w = omega arith
operator_length terms.Sub w = omega arith
operator_length terms.And w = omega arith
operator_length terms.Or w = omega arith
operator_length terms.Xor w = omega arith
operator_length terms.Eq w = omega arith
operator_length terms.Less w = omega arith

word_length : (k : Part) → length (word_text (word_of k)) ≤ 7
word_length kinds.Skip = omega arith
word_length (kinds.Lit w k) = omega arith
word_length (kinds.Seq zero) = omega arith
word_length (kinds.Seq (suc v)) = omega arith
word_length kinds.Par = omega arith
word_length (kinds.If zero) = omega arith
word_length (kinds.If (suc v)) = omega arith
word_length kinds.While = omega arith
word_length (kinds.Op op w) = operator_length op w
word_length (kinds.Not w) = omega arith
word_length (kinds.Assign w) = omega arith
word_length (kinds.Deref w) = omega arith
word_length (kinds.Local w v) = omega arith
word_length (kinds.Array w n v) = omega arith
word_length (kinds.Share t) = omega arith

length_few : (n : ℕ) → IsLength n → n ≤ 16
length_few n (inl is) = omega (arith, is)
length_few n (inr (inl is)) = omega (arith, is)
length_few n (inr (inr (inl is))) = omega (arith, is)
length_few n (inr (inr (inr is))) = omega (arith, is)

operands_length : (k : Part) → IsWritablePart Two k → length (operands_text k) ≤ 24 + 4 * length (part_contacts k)
operands_length kinds.Skip is = omega arith
operands_length (kinds.Lit w k) is =
    let all = length-append (number_text 32 w) (number_text 10 k) in
    let one = bits_length 32 w is.0.1 in
    let small : 2 ^ w ≤ 2 ^ GREATEST_WIDTH = pow_mono is.0.1 in
    let low = is.1 in
    let other = number_length 10 20 k (omega arith) (omega (arith, low, small)) (omega (arith, low, small)) in
    omega (arith, all, one, other)
operands_length (kinds.Seq v) is = let digits = bits_few v is in omega (arith, digits)
operands_length kinds.Par is = omega arith
operands_length (kinds.If v) is = let digits = bits_few v is in omega (arith, digits)
operands_length kinds.While is = omega arith
operands_length (kinds.Op op w) is = let digits = bits_length 10 w is.1 in omega (arith, digits)
operands_length (kinds.Not w) is = let digits = bits_length 10 w is.1 in omega (arith, digits)
operands_length (kinds.Assign w) is = let digits = bits_length 10 w is.1 in omega (arith, digits)
operands_length (kinds.Deref w) is = let digits = bits_length 10 w is.1 in omega (arith, digits)
operands_length (kinds.Local w v) is =
    let all = length-append (number_text 32 w) (body_text v) in
    let one = bits_length 32 w is.0.1 in
    let other = body_length v is.1 in
    omega (arith, all, one, other)
operands_length (kinds.Array w n v) is =
    let all = length-append (number_text 32 w) (number_text 32 n ++ body_text v) in
    let more = length-append (number_text 32 n) (body_text v) in
    let one = bits_length 32 w is.1.1 in
    let few = length_few n is.2 in
    let two = number_length 32 2 n (omega arith) (omega (arith, few)) (omega (arith, few)) in
    let other = body_length v is.3 in
    omega (arith, all, more, one, two, other)
operands_length (kinds.Share t) is = let text = type_length 10 t is in let shakes = share_shakes t in omega (arith, text, shakes)

part_length : (k : Part) → IsWritablePart Two k → length (part_text k) ≤ 31 + 4 * length (part_contacts k)
part_length k is =
    let all = length-append (word_text (word_of k)) (operands_text k) in
    let word = word_length k in
    let operands = operands_length k is in
    omega (arith, all, word, operands)

parts_length : (ks : List Part) → AllByRecursion (IsWritablePart Two) ks → length (flat_map part_text ks) ≤ 31 * length ks + 4 * all_shakes ks
parts_length [] is = omega arith
parts_length (k ∷ ks) is =
    let all = length-append (part_text k) (flat_map part_text ks) in
    let one = part_length k is.0 in
    let rest = parts_length ks is.1 in
    omega (arith, all, one, rest)

-- imports, where types are small
import_length : (i : Imported) → IsWritableImport Two i → IsSmallType i.ty → length (import_text i) ≤ 1031
import_length i is small =
    let all = length-append (codes "import ") ((i.name ++ 32 ∷ []) ++ type_text 10 i.ty) in
    let two = length-append (i.name ++ 32 ∷ []) (type_text 10 i.ty) in
    let name = length-append i.name (32 ∷ []) in
    let short = is.0.short in
    let type = type_length 10 i.ty is.1 in
    let same = same_count i.ty in
    omega (arith, all, two, name, short, type, same, small)

imports_length : (is : List Imported) → AllByRecursion (IsWritableImport Two) is → AllByRecursion (λ i. IsSmallType i.ty) is
    → length (flat_map import_text is) ≤ 1031 * length is
imports_length [] w s = omega arith
imports_length (i ∷ is) w s =
    let all = length-append (import_text i) (flat_map import_text is) in
    let one = import_length i w.0 s.0 in
    let rest = imports_length is w.1 s.1 in
    omega (arith, all, one, rest)

-- joints
end_length : (x : ℕ) (e : End) → IsWritableEnd e → length (end_text x e) ≤ 23
end_length x (PartEnd i h) is =
    let all = length-append (codes "p") (number_text 46 i ++ number_text x h) in
    let both = length-append (number_text 46 i) (number_text x h) in
    let one = big_length 46 i is.0 in
    let other = big_length x h is.1 in
    omega (arith, all, both, one, other)
end_length x (ImportEnd i h) is =
    let all = length-append (codes "i") (number_text 46 i ++ number_text x h) in
    let both = length-append (number_text 46 i) (number_text x h) in
    let one = big_length 46 i is.0 in
    let other = big_length x h is.1 in
    omega (arith, all, both, one, other)
end_length x (ResultEnd h) is = let all = length-append (codes "r.") (number_text x h) in let one = big_length x h is in omega (arith, all, one)

joints_length : (js : List Joint) → AllByRecursion IsWritableJoint js → length (flat_map joint_text js) ≤ 46 * length js
joints_length [] is = omega arith
joints_length (j ∷ js) is =
    let all = length-append (joint_text j) (flat_map joint_text js) in
    let both = length-append (end_text 32 j.asking) (end_text 10 j.serving) in
    let one = end_length 32 j.asking is.0.0 in
    let other = end_length 10 j.serving is.0.1 in
    let rest = joints_length js is.1 in
    omega (arith, all, both, one, other, rest)

-- the sections, and the whole text
section_length : (V : Type 0) (text : V → List ℕ) (head : List ℕ) (vs : List V) → IsNumber (length vs)
    → length (head ++ section_text V text vs) ≤ length head + 11 + length (flat_map text vs)
section_length V text head vs is =
    let all = length-append head (section_text V text vs) in
    let lines = length-append (number_text 10 (length vs)) (flat_map text vs) in
    let many = big_length 10 (length vs) is in
    omega (arith, all, lines, many)

-- the lines behind the one of the weight
sections_length : (p : Plan) → length (text_of p)
    ≡ 16 + length (number_text 10 p.weight) + length (imports_text p.imports) + 7 + length (type_text 10 p.outcome) + length (parts_text p.parts)
    + length (joints_text p.joints) + 4
sections_length p =
    let weight : List ℕ = number_text 10 p.weight in
    let imports : List ℕ = imports_text p.imports in
    let result : List ℕ = type_text 10 p.outcome in
    let parts : List ℕ = parts_text p.parts in
    let joints : List ℕ = joints_text p.joints in
    let last : List ℕ = codes "end\n" in
    let result_line : List ℕ = codes "result " ++ (result ++ (parts ++ (joints ++ last))) in
    let first = length-append (head_text Two) (weight ++ (imports ++ result_line)) in
    let second = length-append weight (imports ++ result_line) in
    let third = length-append imports result_line in
    let fourth = length-append (codes "result ") (result ++ (parts ++ (joints ++ last))) in
    let fifth = length-append result (parts ++ (joints ++ last)) in
    let sixth = length-append parts (joints ++ last) in
    let seventh = length-append joints last in
    omega (arith, first, second, third, fourth, fifth, sixth, seventh)

pub text_length : (p : Plan) → IsSlim p → IsWritable Two p → IsSmallPlan p → length (text_of p) ≤ 4194304
text_length p slim is small =
    let heavy = is.weight.1 in
    let all = sections_length p in
    let weight = big_length 10 p.weight (omega (arith, heavy)) in
    let imports = section_length Imported import_text (codes "imports ") p.imports is.imports.0 in
    let of_imports = imports_length p.imports is.imports.1 small.imports.1 in
    let few = small.imports.0 in
    let result = type_length 10 p.outcome is.outcome in
    let small_result = small.outcome in
    let same = same_count p.outcome in
    let parts = section_length Part part_text (codes "parts ") p.parts is.parts.0 in
    let of_parts = parts_length p.parts is.parts.1 in
    let joints = section_length Joint joint_text (codes "joints ") p.joints is.joints.0 in
    let of_joints = joints_length p.joints is.joints.1 in
    let ends = slim.ends in
    let joined = slim.joints in
    let of_parts_few : length (parts_text p.parts) ≤ 1015825 = omega (arith, heavy, parts, of_parts, ends) in
    let of_joints_few : length (joints_text p.joints) ≤ 753682 = omega (arith, heavy, joints, of_joints, joined) in
    let of_imports_few : length (imports_text p.imports) ≤ 66003 = omega (arith, imports, of_imports, few) in
    let of_result_few : length (type_text 10 p.outcome) ≤ 768 = omega (arith, result, small_result, same) in
    omega (arith, all, weight, of_parts_few, of_joints_few, of_imports_few, of_result_few)
