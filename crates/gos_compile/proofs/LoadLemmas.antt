-- What a checked module's term adds is little for its weight: each side of a split is used once, so that there are no more
-- handshakes of splits than of uses, and each use is a node.
--
-- Read first: AgreeLemmas; Loads.
use Rattle.std.specs.Prelude.{◌≡◌, ◌≢◌, ℕ, zero, suc, ◌+◌, ◌*◌, ◌≤◌, ◌<◌, List, [], ◌∷◌, ◌++◌, length, map, sum_by, true}
use Rattle.std.proofs.Common.{refl, ap, sym, ◌∙◌, arith, length-append, true≢false}
use Rattle.std.proofs.lemmas.List.{length-map}
use Rattle.gos_types.specs.Types.{Type', type_of}
use Rattle.gos_types.proofs.BytesLemmas.{same_bytes_eq}
use Rattle.gos_syntax.specs.Modules.{SeenImport}
use Rattle.gos_model.specs.Terms as terms
use Rattle.gos_model.specs.Terms.{Name, Term}
use Rattle.gos_model.specs.Typing.{Imports, Imported}
use Rattle.gos_model.specs.Weight as weights
use Rattle.gos_model.specs.Weight.{node_type, weight}
use Rattle.gos_model.specs.Sources.{import_of}
use Rattle.gos_check.proofs.NameLemmas.{other_false}
use Rattle.gos_check.proofs.TimesLemmas.{times-append}
use Rattle.gos_check.specs.declared.linear.Split.{Split}
use Rattle.gos_check.specs.Accepted.{IsNew, NamesDiffer}
use Rattle.gos_check.specs.Checked.{SeenLinear, IsChecked, program_in}
use Rattle.gos_check.specs.Linearity.{times, split_in, sides, used, made, all_sides, import_at}
use Rattle.gos_check.specs.Nodes.{Numbered, Closed, Use, Under, One, Two, If, OfFun, OfNew, OfArray, OfFst, OfSnd, OfDeref, OfNot, OfApp, OfBoth, OfSeq, OfPar, OfWhile, OfAssign, OfBin, Binding, OneForm, TwoForm, Meaning, node_seen}
use Rattle.gos_plan.specs.Kinds as kinds
use Rattle.gos_plan.specs.Kinds.{Part, part_contacts, contacts_of, other_side}
use Rattle.gos_realises.specs.realises.Regular.{count}
use Rattle.gos_realises.specs.realises.Slim.{all_shakes}
use Rattle.gos_realises.proofs.realises.CountLemmas.{shakes-append}
use Rattle.gos_compile.specs.Wiring.{Types, type_of_node, shares, closed_part, binder_part, one_part, two_part, parts_of, import_types, all_types}
use Rattle.gos_compile.specs.inner.Loads.{share_load, splits_load, load}
use Rattle.gos_compile.proofs.KnownLemmas.{is_bound, UsesBound, none_lost, total, total-append, total_fewer}
use Rattle.gos_compile.proofs.BoundLemmas.{AllBound, all_bound, import_names, uses_bound, burden, weigh, lengths}
use Rattle.gos_compile.proofs.AgreeLemmas.{types_keep, SplitsAgree, Agree, all_agree, AreTyped, UsesTyped, uses_typed}

-- what is counted of all splits, and of all uses
abbrev pub of_splits : (ℕ → ℕ) → Numbered → ℕ
of_splits f (Closed t ss c) = total f (split_in ss)
of_splits f (Use t ss n) = total f (split_in ss)
of_splits f (Under t ss b n m) = total f (split_in ss) + of_splits f m
of_splits f (One t ss g m) = total f (split_in ss) + of_splits f m
of_splits f (Two t ss g m n) = total f (split_in ss) + (of_splits f m + of_splits f n)
of_splits f (If t ss m n p) = total f (split_in ss) + (of_splits f m + (of_splits f n + of_splits f p))

abbrev pub of_uses : (ℕ → ℕ) → Numbered → ℕ
of_uses f (Closed t ss c) = 0
of_uses f (Use t ss n) = f n
of_uses f (Under t ss b n m) = of_uses f m
of_uses f (One t ss g m) = of_uses f m
of_uses f (Two t ss g m n) = of_uses f m + of_uses f n
of_uses f (If t ss m n p) = of_uses f m + (of_uses f n + of_uses f p)

used_total : (f : ℕ → ℕ) (m : Numbered) → total f (used m) ≡ of_splits f m + of_uses f m
used_total f (Closed t ss c) = omega arith
used_total f (Use t ss n) = let parted = total-append f (split_in ss) (n ∷ []) in omega (arith, parted)
used_total f (Under t ss b n m) = let parted = total-append f (split_in ss) (used m) in let rest = used_total f m in omega (arith, parted, rest)
used_total f (One t ss g m) = let parted = total-append f (split_in ss) (used m) in let rest = used_total f m in omega (arith, parted, rest)
used_total f (Two t ss g m n) =
    let parted = total-append f (split_in ss) (used m ++ used n) in
    let parted_two = total-append f (used m) (used n) in
    let left = used_total f m in
    let right = used_total f n in
    omega (arith, parted, parted_two, left, right)
used_total f (If t ss m n p) =
    let parted = total-append f (split_in ss) (used m ++ (used n ++ used p)) in
    let parted_three = total-append f (used m) (used n ++ used p) in
    let parted_two = total-append f (used n) (used p) in
    let test = used_total f m in
    let left = used_total f n in
    let right = used_total f p in
    omega (arith, parted, parted_three, parted_two, test, left, right)

sides_twice : (types : Types) (ss : List Split) → SplitsAgree ss types → total (share_load types) (sides ss) ≡ 2 * total (share_load types) (split_in ss)
sides_twice types [] agrees = omega arith
sides_twice types (s ∷ ss) (left, right, agrees) =
    let rest = sides_twice types ss agrees in
    let of_left = ap (λ (t : Type'). 1 + 3 * count t) left in
    let of_right = ap (λ (t : Type'). 1 + 3 * count t) right in
    omega (arith, rest, of_left, of_right)

all_twice : (types : Types) (m : Numbered) → Agree types m → total (share_load types) (all_sides m) ≡ 2 * of_splits (share_load types) m
all_twice types (Closed t ss c) agrees = sides_twice types ss agrees
all_twice types (Use t ss n) agrees = sides_twice types ss agrees
all_twice types (Under t ss b n m) (agrees, there, more) =
    let parted = total-append (share_load types) (sides ss) (all_sides m) in
    let one = sides_twice types ss agrees in
    let rest = all_twice types m more in
    omega (arith, parted, one, rest)
all_twice types (One t ss g m) (agrees, more) =
    let parted = total-append (share_load types) (sides ss) (all_sides m) in
    let one = sides_twice types ss agrees in
    let rest = all_twice types m more in
    omega (arith, parted, one, rest)
all_twice types (Two t ss g m n) (agrees, more, moren) =
    let parted = total-append (share_load types) (sides ss) (all_sides m ++ all_sides n) in
    let parted_two = total-append (share_load types) (all_sides m) (all_sides n) in
    let one = sides_twice types ss agrees in
    let left = all_twice types m more in
    let right = all_twice types n moren in
    omega (arith, parted, parted_two, one, left, right)
all_twice types (If t ss m n p) (agrees, more, moren, morep) =
    let parted = total-append (share_load types) (sides ss) (all_sides m ++ (all_sides n ++ all_sides p)) in
    let parted_three = total-append (share_load types) (all_sides m) (all_sides n ++ all_sides p) in
    let parted_two = total-append (share_load types) (all_sides n) (all_sides p) in
    let one = sides_twice types ss agrees in
    let test = all_twice types m more in
    let left = all_twice types n moren in
    let right = all_twice types p morep in
    omega (arith, parted, parted_three, parted_two, one, test, left, right)

-- a side is made where it stands
pub sides_made : (k : ℕ) (m : Numbered) → times k (all_sides m) ≤ times k (made m)
sides_made k (Closed t ss c) = omega arith
sides_made k (Use t ss n) = omega arith
sides_made k (Under t ss b n m) =
    let one = times-append k (sides ss) (all_sides m) in
    let other = times-append k (sides ss) (n ∷ made m) in
    let rest = sides_made k m in
    omega (arith, one, other, rest)
sides_made k (One t ss f m) =
    let one = times-append k (sides ss) (all_sides m) in
    let other = times-append k (sides ss) (made m) in
    let rest = sides_made k m in
    omega (arith, one, other, rest)
sides_made k (Two t ss f m n) =
    let one = times-append k (sides ss) (all_sides m ++ all_sides n) in
    let one_two = times-append k (all_sides m) (all_sides n) in
    let other = times-append k (sides ss) (made m ++ made n) in
    let other_two = times-append k (made m) (made n) in
    let left = sides_made k m in
    let right = sides_made k n in
    omega (arith, one, one_two, other, other_two, left, right)
sides_made k (If t ss m n p) =
    let one = times-append k (sides ss) (all_sides m ++ (all_sides n ++ all_sides p)) in
    let one_three = times-append k (all_sides m) (all_sides n ++ all_sides p) in
    let one_two = times-append k (all_sides n) (all_sides p) in
    let other = times-append k (sides ss) (made m ++ (made n ++ made p)) in
    let other_three = times-append k (made m) (made n ++ made p) in
    let other_two = times-append k (made n) (made p) in
    let test = sides_made k m in
    let left = sides_made k n in
    let right = sides_made k p in
    omega (arith, one, one_three, one_two, other, other_three, other_two, test, left, right)

-- no more of splits than of uses
few_splits : (types : Types) (m : Numbered) → Agree types m → ((k : ℕ) → times k (made m) ≤ 1)
    → ((k : ℕ) → 0 < times k (all_sides m) → times k (used m) ≡ 1)
    → of_splits (share_load types) m ≤ of_uses (share_load types) m
few_splits types m agrees once used_there =
    let among = total_fewer (share_load types) (all_sides m) (used m) (λ k. by k (times k (all_sides m)) refl) in
    let twice = all_twice types m agrees in
    let all = used_total (share_load types) m in
    omega (arith, among, twice, all)
  where
    by : (k n : ℕ) → times k (all_sides m) ≡ n → times k (all_sides m) ≤ times k (used m)
    by k zero e = omega (arith, e)
    by k (suc n) e =
        let here = used_there k (omega (arith, e)) in let one = sides_made k m in let few = once k in omega (arith, here, one, few)

-- the Shares, and the handshakes of a form's own part
splits_total : (types : Types) (ss : List Split) → splits_load ss types ≡ total (share_load types) (split_in ss)
splits_total types [] = refl
splits_total types (s ∷ ss) = let rest = splits_total types ss in omega (arith, rest)

pub share_shakes : (t : Type') → length (part_contacts (kinds.Share t)) ≡ 3 * count t
share_shakes t =
    let one = length-append (other_side (contacts_of t)) (contacts_of t ++ contacts_of t) in
    let two = length-append (contacts_of t) (contacts_of t) in
    let turned : length (other_side (contacts_of t)) ≡ length (contacts_of t) = simp length-map refl in
    omega (arith, one, two, turned)

-- so many parts, and their handshakes
abbrev size : List Part → ℕ
size ks = length ks + all_shakes ks

size-append : (ks ls : List Part) → size (ks ++ ls) ≡ size ks + size ls
size-append ks ls = let one = length-append ks ls in let other = shakes-append ks ls in omega (arith, one, other)

shares_size : (ss : List Split) (types : Types) → size (shares ss types) ≡ total (share_load types) (split_in ss)
shares_size [] types = omega arith
shares_size (s ∷ ss) types = let one = share_shakes (types s.of) in let rest = shares_size ss types in omega (arith, one, rest)

closed_size : (c : Term) → size (closed_part c) ≤ 5
closed_size (terms.Lit k w) = omega arith
closed_size c = omega arith

binder_size : (b : Binding) (t : Type') → size (binder_part b t) ≤ 6
binder_size OfFun t = omega arith
binder_size (OfNew w) t = omega arith
binder_size (OfArray k w) t = omega arith

one_size : (f : OneForm) (t : Type') → size (one_part f t) ≤ 5
one_size OfFst t = omega arith
one_size OfSnd t = omega arith
one_size OfDeref t = omega arith
one_size OfNot t = omega arith

two_size : (f : TwoForm) (t u : Type') → size (two_part f t u) ≤ 5
two_size OfApp t u = omega arith
two_size OfBoth t u = omega arith
two_size OfSeq t u = omega arith
two_size OfPar t u = omega arith
two_size OfWhile t u = omega arith
two_size OfAssign t u = omega arith
two_size (OfBin op) t u = omega arith

-- The parts, their handshakes, those of the result and the numbers of arrays are few for what the nodes weigh, as a use has no part.
slim_parts : (types : Types) (m : Numbered) → UsesTyped types m
    → size (parts_of types m) + 4 * lengths m + count (type_of_node m) + of_uses (share_load types) m ≤ of_splits (share_load types) m + 4 * burden m
slim_parts types (Closed t ss c) typed =
    let parted = size-append (shares ss types) (closed_part c) in
    let some = shares_size ss types in
    let own = closed_size c in
    omega (arith, parted, some, own)
slim_parts types (Use t ss n) typed =
    let some = shares_size ss types in let same = ap (λ (u : Type'). count u) typed in omega (arith, some, same)
slim_parts types (Under t ss b n m) typed =
    let parted = size-append (shares ss types) (binder_part b t ++ parts_of types m) in
    let parted_own = size-append (binder_part b t) (parts_of types m) in
    let some = shares_size ss types in
    let own = binder_size b t in
    let rest = slim_parts types m typed in
    omega (arith, parted, parted_own, some, own, rest)
slim_parts types (One t ss f m) typed =
    let parted = size-append (shares ss types) (one_part f t ++ parts_of types m) in
    let parted_own = size-append (one_part f t) (parts_of types m) in
    let some = shares_size ss types in
    let own = one_size f t in
    let rest = slim_parts types m typed in
    omega (arith, parted, parted_own, some, own, rest)
slim_parts types (Two t ss f m n) (typed, typedn) =
    let u : Type' = type_of_node n in
    let parted = size-append (shares ss types) (two_part f t u ++ (parts_of types m ++ parts_of types n)) in
    let parted_own = size-append (two_part f t u) (parts_of types m ++ parts_of types n) in
    let parted_two = size-append (parts_of types m) (parts_of types n) in
    let some = shares_size ss types in
    let own = two_size f t u in
    let left = slim_parts types m typed in
    let right = slim_parts types n typedn in
    omega (arith, parted, parted_own, parted_two, some, own, left, right)
slim_parts types (If t ss m n p) (typed, typedn, typedp) =
    let parted = size-append (shares ss types) (parts_of types (If t [] m n p)) in
    let parted_three = size-append (parts_of types m) (parts_of types n ++ parts_of types p) in
    let parted_two = size-append (parts_of types n) (parts_of types p) in
    let some = shares_size ss types in
    let test = slim_parts types m typed in
    let left = slim_parts types n typedn in
    let right = slim_parts types p typedp in
    omega (arith, parted, parted_three, parted_two, some, test, left, right)

-- and so is all that the term adds
light_load : (types : Types) (m : Numbered) → UsesTyped types m
    → load types m + count (type_of_node m) + of_uses (share_load types) m ≤ of_splits (share_load types) m + 8 * burden m
light_load types (Closed t ss c) typed = let some = splits_total types ss in omega (arith, some)
light_load types (Use t ss n) typed = let some = splits_total types ss in let same = ap (λ (u : Type'). count u) typed in omega (arith, some, same)
light_load types (Under t ss b n m) typed = let some = splits_total types ss in let rest = light_load types m typed in omega (arith, some, rest)
light_load types (One t ss f m) typed = let some = splits_total types ss in let rest = light_load types m typed in omega (arith, some, rest)
light_load types (Two t ss f m n) (typed, typedn) =
    let some = splits_total types ss in
    let left = light_load types m typed in
    let right = light_load types n typedn in
    omega (arith, some, left, right)
light_load types (If t ss m n p) (typed, typedn, typedp) =
    let some = splits_total types ss in
    let test = light_load types m typed in
    let left = light_load types n typedn in
    let right = light_load types p typedp in
    omega (arith, some, test, left, right)

-- An import's number has the import's type: no other import has its name.
import_past : (x : Name) (t : Type') (is : List SeenImport) → IsNew x is → (k : ℕ) → is_bound (import_at (map import_of is) k) ≡ true
    → node_type (record { name = x; ty = t } ∷ map import_of is) [] (import_at (map import_of is) k)
    ≡ node_type (map import_of is) [] (import_at (map import_of is) k)
import_past x t is new k bound = by (import_at (map import_of is) k) bound (elsewhere x is new k)
  where
    elsewhere : (x : Name) (is : List SeenImport) → IsNew x is → (k : ℕ) (y : Name) → import_at (map import_of is) k ≡ terms.Import y → x ≢ y
    elsewhere x [] new k y e = cc
    elsewhere x (i ∷ is) (other, new) zero y e = λ same. other (let named : i.name ≡ y = cc in named ∙ sym same)
    elsewhere x (i ∷ is) (other, new) (suc k) y e = elsewhere x is new k y e

    by : (m : Term) → is_bound m ≡ true → ((y : Name) → m ≡ terms.Import y → x ≢ y)
        → node_type (record { name = x; ty = t } ∷ map import_of is) [] m ≡ node_type (map import_of is) [] m
    by (terms.Bound i) b h = refl
    by (terms.Import y) b h = rw (other_false x y (h y refl)) refl
    by m b h = absurd (true≢false (sym b))

imports_typed : (is : List SeenImport) → NamesDiffer is → AreTyped (map import_of is) [] (import_at (map import_of is)) (import_types (map import_of is))
imports_typed [] differ k h = absurd (true≢false (sym h))
imports_typed (i ∷ is) (new, differ) zero h = rw (same_bytes_eq i.name i.name refl) refl
imports_typed (i ∷ is) (new, differ) (suc k) h =
    imports_typed is differ k h ∙ sym (import_past i.name (type_of i.ty) is new k h)

-- no number that is bound outside is made in the term
import_low : (is : Imports) (k : ℕ) → is_bound (import_at is k) ≡ true → k < length is
import_low [] k h = absurd (true≢false (sym h))
import_low (i ∷ is) zero h = omega arith
import_low (i ∷ is) (suc k) h = let rest = import_low is k h in omega (arith, rest)

-- what is known of a checked module's term
pub record IsLight (l : SeenLinear) : Type 0 where
  pub agrees : Agree (all_types (program_in l).imports (node_seen l.term)) (node_seen l.term)
  pub uses : UsesTyped (all_types (program_in l).imports (node_seen l.term)) (node_seen l.term)
  pub splits : of_splits (share_load (all_types (program_in l).imports (node_seen l.term))) (node_seen l.term)
      ≤ of_uses (share_load (all_types (program_in l).imports (node_seen l.term))) (node_seen l.term)
  pub weighs : burden (node_seen l.term) + sum_by (λ (x : Imported). weights.count x.ty) (program_in l).imports ≤ l.weight

pub is_light : (l : SeenLinear) → IsChecked l → IsLight l
is_light l c =
    record {
      agrees = agrees;
      uses = uses_typed is [] env m types known agrees bound uses c.term.types;
      splits = few_splits types m agrees c.term.made_once c.term.sides_used;
      weighs = (let w = weigh is [] env m (type_of l.result) c.term.types c.typed in let all = c.weight in omega (arith, w, all));
    }
  where
    is : Imports
    is = map import_of l.imports

    m : Numbered
    m = node_seen l.term

    env : Meaning
    env = import_at (map import_of l.imports)

    types : Types
    types = all_types (map import_of l.imports) (node_seen l.term)

    uses : UsesBound env m
    uses = uses_bound is [] env m (type_of l.result) (import_names is) c.typed

    bound : AllBound env m
    bound = all_bound env m (none_lost (program_in l) m c.term uses)

    before : (k : ℕ) → is_bound (env k) ≡ true → times k (made m) ≡ 0
    before k h = by (times k (made m)) refl
      where
        by : (n : ℕ) → times k (made m) ≡ n → times k (made m) ≡ 0
        by zero e = e
        by (suc n) e = let low = import_low is k h in let high = c.term.no_import k (omega (arith, e)) in absurd (omega (arith, low, high))

    agrees : Agree types m
    agrees = all_agree m env (import_types is) c.term.made_once before bound

    known : AreTyped is [] env types
    known k h = types_keep k m (import_types is) (before k h) ∙ imports_typed l.imports c.names k h

-- all counters of the walk stay within 65,536
pub counters : (l : SeenLinear) → IsChecked l
    → count (type_of_node (node_seen l.term)) + load (all_types (program_in l).imports (node_seen l.term)) (node_seen l.term) ≤ 65536
counters l c =
    let light = is_light l c in
    let all = light_load (all_types (program_in l).imports (node_seen l.term)) (node_seen l.term) light.uses in
    let few = light.splits in
    let weighs = light.weighs in
    let limit = c.light in
    omega (arith, all, few, weighs, limit)

-- the parts, their handshakes, those of the result and those of the imports, and the numbers of arrays
pub few_ends : (l : SeenLinear) → IsChecked l
    → length (parts_of (all_types (program_in l).imports (node_seen l.term)) (node_seen l.term))
    + all_shakes (parts_of (all_types (program_in l).imports (node_seen l.term)) (node_seen l.term)) + count (type_of_node (node_seen l.term))
    + 4 * lengths (node_seen l.term) + 4 * sum_by (λ (x : Imported). weights.count x.ty) (program_in l).imports
    ≤ 4 * l.weight
few_ends l c =
    let light = is_light l c in
    let all = slim_parts (all_types (program_in l).imports (node_seen l.term)) (node_seen l.term) light.uses in
    let few = light.splits in
    let weighs = light.weighs in
    omega (arith, all, few, weighs)

-- a module weighs something
some_burden : (m : Numbered) → 1 ≤ burden m
some_burden (Closed t ss c) = omega arith
some_burden (Use t ss n) = omega arith
some_burden (Under t ss b n m) = omega arith
some_burden (One t ss f m) = omega arith
some_burden (Two t ss f m n) = omega arith
some_burden (If t ss m n p) = omega arith

pub some_weight : (l : SeenLinear) → IsChecked l → 1 ≤ l.weight
some_weight l c = let light = is_light l c in let weighs = light.weighs in let some = some_burden (node_seen l.term) in omega (arith, weighs, some)
