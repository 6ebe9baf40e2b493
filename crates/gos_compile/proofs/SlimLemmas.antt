-- The plan of a checked module is slim.
--
-- Read first: LoadLemmas, EndLemmas.
use Rattle.std.specs.Prelude.{◌≡◌, ◌≤◌, List, [], ◌∷◌, ◌++◌, All, length, sum_by}
use Rattle.std.proofs.Common.{refl, ap, sym, ◌∙◌, arith, length-append}
use Rattle.std.proofs.lemmas.List.{length-map}
use Rattle.std.proofs.lemmas.List.Elements.{All-nil, All-cons}
use Rattle.std.proofs.lemmas.List.Sums.{sum_by-cons}
use Rattle.gos_types.specs.Types.{Type', type_of}
use Rattle.gos_syntax.specs.Modules.{SeenImport}
use Rattle.gos_model.specs.Typing.{Imported, Imports}
use Rattle.gos_model.specs.Terms as terms
use Rattle.gos_model.specs.Terms.{Term}
use Rattle.gos_model.specs.Weight as weights
use Rattle.gos_model.specs.Laws.{NodeHasType}
use Rattle.gos_check.specs.Accepted.{AreWritten}
use Rattle.gos_check.specs.Checked.{SeenLinear, IsChecked, program_in}
use Rattle.gos_check.specs.Linearity.{import_at}
use Rattle.gos_check.specs.declared.linear.Split.{Split}
use Rattle.gos_check.specs.Nodes.{Numbered, Closed, Use, Under, One, Two, If, Binding, OfFun, OfNew, OfArray, OneForm, OfFst, OfSnd, OfDeref, OfNot, TwoForm, OfApp, OfBoth, OfSeq, OfPar, OfWhile, OfAssign, OfBin, node_seen}
use Rattle.gos_plan.specs.Kinds as kinds
use Rattle.gos_plan.specs.Kinds.{Part, part_contacts, contacts_of, other_side}
use Rattle.gos_plan.specs.Plans.{Plan}
use Rattle.gos_plan.specs.Size.{numbers_of}
use Rattle.gos_realises.specs.realises.Regular.{count}
use Rattle.gos_realises.specs.realises.Slim.{all_shakes, IsSlim}
use Rattle.gos_realises.proofs.realises.CountLemmas.{some_shake, numbers-append}
use Rattle.gos_compile.specs.Wiring.{Types, type_of_node, shares, closed_part, binder_part, one_part, two_part, parts_of, all_types, all_parts, IsPlanOf}
use Rattle.gos_compile.specs.inner.Loads.{HasFewShakes}
use Rattle.gos_compile.proofs.BoundLemmas.{same_count, binder_length, lengths}
use Rattle.gos_compile.proofs.EndLemmas.{imports_shakes, few_joints}
use Rattle.gos_compile.proofs.LoadLemmas.{few_ends}
use Rattle.gos_compile.proofs.RangeLemmas.{node_typed}

-- each import has a handshake, which is in the weight
pub imports_weigh : (is : Imports) → (length is ≤ imports_shakes is) × (imports_shakes is ≡ sum_by (λ (x : Imported). weights.count x.ty) is)
imports_weigh [] = (omega arith, refl)
imports_weigh (i ∷ is) =
    let one = some_shake i.ty in
    let same = same_count i.ty in
    let (few, rest) = imports_weigh is in
    let first = sum_by-cons (λ (x : Imported). weights.count x.ty) i is in
    (omega (arith, one, few), omega (arith, same, rest, first))

-- and so has each part
part_shake : (k : Part) → 1 ≤ length (part_contacts k)
part_shake (kinds.Share t) =
    let one = length-append (other_side (contacts_of t)) (contacts_of t ++ contacts_of t) in
    let two = length-append (contacts_of t) (contacts_of t) in
    let some = some_shake t in
    omega (arith, one, two, some)
part_shake kinds.Skip = omega arith
part_shake (kinds.Lit w k) = omega arith
part_shake (kinds.Seq v) = omega arith
part_shake kinds.Par = omega arith
part_shake (kinds.If v) = omega arith
part_shake kinds.While = omega arith
part_shake (kinds.Op op w) = omega arith
part_shake (kinds.Not w) = omega arith
part_shake (kinds.Assign w) = omega arith
part_shake (kinds.Deref w) = omega arith
part_shake (kinds.Local w v) = omega arith
part_shake (kinds.Array w n v) = omega arith

pub parts_shake : (ks : List Part) → length ks ≤ all_shakes ks
parts_shake [] = omega arith
parts_shake (k ∷ ks) = let one = part_shake k in let rest = parts_shake ks in omega (arith, one, rest)

-- Only blocks have arrays.
no_shares : (ss : List Split) (types : Types) → numbers_of (shares ss types) ≡ 0
no_shares [] types = refl
no_shares (s ∷ ss) types = let rest = no_shares ss types in omega (arith, rest)

no_closed : (c : Term) → numbers_of (closed_part c) ≡ 0
no_closed (terms.Lit k w) = refl
no_closed c = refl

binder_numbers : (b : Binding) (t : Type') → numbers_of (binder_part b t) ≡ binder_length b
binder_numbers OfFun t = refl
binder_numbers (OfNew w) t = refl
binder_numbers (OfArray k w) t = omega arith

no_one : (f : OneForm) (t : Type') → numbers_of (one_part f t) ≡ 0
no_one OfFst t = refl
no_one OfSnd t = refl
no_one OfDeref t = refl
no_one OfNot t = refl

no_two : (f : TwoForm) (t u : Type') → numbers_of (two_part f t u) ≡ 0
no_two OfApp t u = refl
no_two OfBoth t u = refl
no_two OfSeq t u = refl
no_two OfPar t u = refl
no_two OfWhile t u = refl
no_two OfAssign t u = refl
no_two (OfBin op) t u = refl

all_numbers : (types : Types) (m : Numbered) → numbers_of (parts_of types m) ≡ lengths m
all_numbers types (Closed t ss c) =
    let all = numbers-append (shares ss types) (closed_part c) in
    let some = no_shares ss types in
    let own = no_closed c in
    omega (arith, all, some, own)
all_numbers types (Use t ss n) = no_shares ss types
all_numbers types (Under t ss b n m) =
    let all = numbers-append (shares ss types) (binder_part b t ++ parts_of types m) in
    let parted = numbers-append (binder_part b t) (parts_of types m) in
    let some = no_shares ss types in
    let own = binder_numbers b t in
    let rest = all_numbers types m in
    omega (arith, all, parted, some, own, rest)
all_numbers types (One t ss f m) =
    let all = numbers-append (shares ss types) (one_part f t ++ parts_of types m) in
    let parted = numbers-append (one_part f t) (parts_of types m) in
    let some = no_shares ss types in
    let own = no_one f t in
    let rest = all_numbers types m in
    omega (arith, all, parted, some, own, rest)
all_numbers types (Two t ss f m n) =
    let u : Type' = type_of_node n in
    let all = numbers-append (shares ss types) (two_part f t u ++ (parts_of types m ++ parts_of types n)) in
    let parted = numbers-append (two_part f t u) (parts_of types m ++ parts_of types n) in
    let parted_two = numbers-append (parts_of types m) (parts_of types n) in
    let some = no_shares ss types in
    let own = no_two f t u in
    let left = all_numbers types m in
    let right = all_numbers types n in
    omega (arith, all, parted, parted_two, some, own, left, right)
all_numbers types (If t ss m n p) =
    let all = numbers-append (shares ss types) (parts_of types (If t [] m n p)) in
    let parted = numbers-append (parts_of types m) (parts_of types n ++ parts_of types p) in
    let parted_two = numbers-append (parts_of types n) (parts_of types p) in
    let some = no_shares ss types in
    let test = all_numbers types m in
    let left = all_numbers types n in
    let right = all_numbers types p in
    omega (arith, all, parted, parted_two, some, test, left, right)

-- the plan of a checked module
pub is_slim : NodeHasType → (l : SeenLinear) → IsChecked l → (p : Plan)
    → IsPlanOf (program_in l).imports (type_of l.result) l.weight (node_seen l.term) p → IsSlim p
is_slim law l c p plan =
    let is : Imports = (program_in l).imports in
    let m : Numbered = node_seen l.term in
    let ends = few_ends l c in
    let (few, weigh) = imports_weigh is in
    let joined = few_joints p plan.right in
    let result : count p.outcome ≡ count (type_of_node m) =
    ap (λ (t : Type'). count t) (plan.outcome ∙ sym (node_typed law is [] (import_at is) m (type_of l.result) c.term.types c.typed))
    in
    let shakes : all_shakes p.parts ≡ all_shakes (all_parts is m) = ap (λ (ks : List Part). all_shakes ks) plan.parts in
    let parts : length p.parts ≡ length (all_parts is m) = ap (λ (ks : List Part). length ks) plan.parts in
    let numbers : numbers_of p.parts ≡ lengths m = ap (λ (ks : List Part). numbers_of ks) plan.parts ∙ all_numbers (all_types is m) m in
    let imports : length p.imports ≡ length is = ap (λ (xs : Imports). length xs) plan.imports in
    let of_imports : imports_shakes p.imports ≡ imports_shakes is = ap (λ (xs : Imports). imports_shakes xs) plan.imports in
    let weight : p.weight ≡ l.weight = plan.weight in
    record {
      joints = omega (arith, ends, weigh, joined, result, shakes, of_imports, numbers, weight);
      ends = omega (arith, ends, shakes, parts, numbers, weight);
      imports = omega (arith, ends, few, weigh, imports, numbers, weight);
    }

-- few parts and joints
pub few_parts : (l : SeenLinear) → IsChecked l → (p : Plan) → p.weight ≡ l.weight → IsSlim p → (length p.parts ≤ 16384) × (length p.joints ≤ 16384)
few_parts l c p weight slim =
    let some = parts_shake p.parts in
    let ends = slim.ends in
    let joints = slim.joints in
    let limit = c.light in
    (omega (arith, some, ends, limit, weight), omega (arith, joints, limit, weight))

-- what the walk asks of the imports
pub all_small : (is : List SeenImport) → AreWritten is → All HasFewShakes is
all_small [] h = All-nil HasFewShakes
all_small (i ∷ is) (written, h) =
    let small = written.1 in let same = same_count (type_of i.ty) in All-cons HasFewShakes i is (omega (arith, small, same)) (all_small is h)

pub few_imports : (l : SeenLinear) → IsChecked l → length l.imports ≤ 65536
few_imports l c =
    let ends = few_ends l c in
    let (few, weigh) = imports_weigh (program_in l).imports in
    let same : length (program_in l).imports ≡ length l.imports = simp length-map refl in
    let limit = c.light in
    omega (arith, ends, few, weigh, same, limit)
