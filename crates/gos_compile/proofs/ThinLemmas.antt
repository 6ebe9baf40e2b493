-- No point of a checked module's ties is in more than two of them, and no end in more than one.
--
-- Read first: TallyLemmas. What it counts for a part, a node, an import and the result is once, and for a number as often
-- as it is used and made.
use Rattle.std.specs.Prelude.{◌≡◌, ℕ, zero, suc, ◌+◌, ◌≤◌, ◌<◌, List, [], ◌∷◌, ◌++◌, length, nat_eq, if◌then◌else◌, false, Some}
use Rattle.std.proofs.Common.{refl, ap, arith, length-append}
use Rattle.std.proofs.lemmas.Bool.{ne_eqb}
use Rattle.gos_check.proofs.TimesLemmas.{times-append}
use Rattle.gos_check.specs.declared.linear.Split.{Split}
use Rattle.gos_check.specs.Nodes.{Numbered, Closed, Use, Under, One, Two, If, Binding, OfFun, OfNew, OfArray, OneForm, OfFst, OfSnd, OfDeref, OfNot, TwoForm, OfApp, OfBoth, OfSeq, OfPar, OfWhile, OfAssign, OfBin}
use Rattle.gos_check.specs.Linearity.{times, split_in, sides, used, made, StandsFor}
use Rattle.gos_types.specs.Types.{Type'}
use Rattle.gos_model.specs.Terms as terms
use Rattle.gos_model.specs.Terms.{Term}
use Rattle.gos_model.specs.Typing.{Imports}
use Rattle.gos_model.specs.Moves.{Program}
use Rattle.gos_model.proofs.NumberLemmas.{number_cases}
use Rattle.gos_plan.specs.Plans.{End}
use Rattle.gos_ties.specs.declared.points.Place.{Place}
use Rattle.gos_ties.specs.declared.points.Place.TheVariants as places
use Rattle.gos_ties.specs.declared.points.Point.{Point}
use Rattle.gos_realises.specs.realises.Regular.{count}
use Rattle.gos_compile.specs.Wiring.{Types, row, led, shares, closed_part, binder_part, one_part, two_part, parts_of, ties_of, type_of_node, nodes, import_ties, all_types, all_ties}
use Rattle.gos_ties.specs.Ties.{end_of_place}
use Rattle.gos_ties.specs.Counted.{place_once, meetings, IsThin}
use Rattle.gos_compile.proofs.TallyLemmas.{meetings-append, led_row, row_once, shares_tally, binder_tally, one_tally, two_tally, tally, tallied}

-- 1 where k is one of the n numbers from i on, and else 0
abbrev pub span : ℕ → ℕ → ℕ → ℕ
span k i zero = 0
span k i (suc n) = (if nat_eq i k then 1 else 0) + span k (suc i) n

span_parted : (k i a b : ℕ) → span k i (a + b) ≡ span k i a + span k (i + a) b
span_parted k i zero b =
    let none : 0 + b ≡ b = omega arith in
    let start : i ≡ i + 0 = omega arith in
    let count_same = ap (λ (n : ℕ). span k i n) none in
    let start_same = ap (λ (n : ℕ). span k n b) start in
    omega (arith, count_same, start_same)
span_parted k i (suc a) b =
    let rest = span_parted k (suc i) a b in
    let more : suc a + b ≡ suc (a + b) = omega arith in
    let count_same = ap (λ (n : ℕ). span k i n) more in
    let start : suc i + a ≡ i + suc a = omega arith in
    let start_same = ap (λ (n : ℕ). span k n b) start in
    omega (arith, rest, count_same, start_same)

pub span_beyond : (k i n : ℕ) → k < i → span k i n ≡ 0
span_beyond k i zero low = refl
span_beyond k i (suc n) low =
    let rest = span_beyond k (suc i) n (omega (arith, low)) in
    let other : nat_eq i k ≡ false = ne_eqb i k (λ e. let f : i ≡ k = e in omega (arith, f, low)) in
    rw other (omega (arith, rest))

pub span_once : (k i n : ℕ) → span k i n ≤ 1
span_once k i zero = omega arith
span_once k i (suc n) =
    number_cases i k
    (λ e t. let rest = span_beyond k (suc i) n (omega (arith, e)) in rw t (omega (arith, rest)))
    (λ e t. let rest = span_once k (suc i) n in rw t (omega (arith, rest)))

pub span_past : (k i n : ℕ) → i + n ≤ k → span k i n ≡ 0
span_past k i zero low = refl
span_past k i (suc n) low =
    let rest = span_past k (suc i) n (omega (arith, low)) in
    let other : nat_eq i k ≡ false = ne_eqb i k (λ e. let f : i ≡ k = e in omega (arith, f, low)) in
    rw other (omega (arith, rest))

-- the parts of a term
pub shares_length : (ss : List Split) (types : Types) → length (shares ss types) ≡ length ss
shares_length [] types = refl
shares_length (s ∷ ss) types = ap (λ (n : ℕ). suc n) (shares_length ss types)

pub closed_length : (c : Term) → length (closed_part c) ≡ 1
closed_length (terms.Lit k w) = refl
closed_length c = refl

shares_part : (k i : ℕ) (ss : List Split) → shares_tally (places.Part k) i ss ≡ span k i (length ss)
shares_part k i [] = refl
shares_part k i (s ∷ ss) = let h = shares_part k (suc i) ss in omega (arith, h)

binder_tells : (k i n : ℕ) (b : Binding) (t : Type') → binder_tally (places.Part k) b i n ≡ span k i (length (binder_part b t))
binder_tells k i n OfFun t = refl
binder_tells k i n (OfNew w) t = refl
binder_tells k i n (OfArray c w) t = refl

one_tells : (k i j : ℕ) (f : OneForm) (t : Type') → one_tally (places.Part k) f i j ≡ span k i (length (one_part f t))
one_tells k i j OfFst t = refl
one_tells k i j OfSnd t = refl
one_tells k i j OfDeref t = refl
one_tells k i j OfNot t = omega arith

two_tells : (k i j : ℕ) (f : TwoForm) (t u : Type') → two_tally (places.Part k) f i j ≡ span k i (length (two_part f t u))
two_tells k i j OfApp t u = omega arith
two_tells k i j OfBoth t u = omega arith
two_tells k i j OfSeq t u = omega arith
two_tells k i j OfPar t u = omega arith
two_tells k i j OfWhile t u = omega arith
two_tells k i j OfAssign t u = omega arith
two_tells k i j (OfBin op) t u = omega arith

pub part_tells : (k : ℕ) (types : Types) (i j : ℕ) (m : Numbered) → tally (places.Part k) types i j m ≡ span k i (length (parts_of types m))
part_tells k types i j (Closed t ss c) =
    let all = length-append (shares ss types) (closed_part c) in
    let own = closed_length c in
    let of_shares = shares_length ss types in
    let same : length (parts_of types (Closed t ss c)) ≡ length ss + 1 = omega (arith, all, own, of_shares) in
    let counted = ap (λ (n : ℕ). span k i n) same in
    let parted = span_parted k i (length ss) 1 in
    let tells = shares_part k i ss in
    omega (arith, counted, parted, tells)
part_tells k types i j (Use t ss n) =
    let counted = ap (λ (n : ℕ). span k i n) (shares_length ss types) in let tells = shares_part k i ss in omega (arith, counted, tells)
part_tells k types i j (Under t ss b n m) =
    let i' : ℕ = i + length ss in
    let x : ℕ = length (binder_part b t) in
    let y : ℕ = length (parts_of types m) in
    let all = length-append (shares ss types) (binder_part b t ++ parts_of types m) in
    let rest = length-append (binder_part b t) (parts_of types m) in
    let of_shares = shares_length ss types in
    let same : length (parts_of types (Under t ss b n m)) ≡ length ss + (x + y) = omega (arith, all, rest, of_shares) in
    let counted = ap (λ (n : ℕ). span k i n) same in
    let parted = span_parted k i (length ss) (x + y) in
    let parted_own = span_parted k i' x y in
    let tells = shares_part k i ss in
    let own = binder_tells k i' n b t in
    let below = part_tells k types (i' + x) (suc j) m in
    omega (arith, counted, parted, parted_own, tells, own, below)
part_tells k types i j (One t ss f m) =
    let i' : ℕ = i + length ss in
    let x : ℕ = length (one_part f t) in
    let y : ℕ = length (parts_of types m) in
    let all = length-append (shares ss types) (one_part f t ++ parts_of types m) in
    let rest = length-append (one_part f t) (parts_of types m) in
    let of_shares = shares_length ss types in
    let same : length (parts_of types (One t ss f m)) ≡ length ss + (x + y) = omega (arith, all, rest, of_shares) in
    let counted = ap (λ (n : ℕ). span k i n) same in
    let parted = span_parted k i (length ss) (x + y) in
    let parted_own = span_parted k i' x y in
    let tells = shares_part k i ss in
    let own = one_tells k i' j f t in
    let below = part_tells k types (i' + x) (suc j) m in
    omega (arith, counted, parted, parted_own, tells, own, below)
part_tells k types i j (Two t ss f m n) =
    let i' : ℕ = i + length ss in
    let x : ℕ = length (two_part f t (type_of_node n)) in
    let y : ℕ = length (parts_of types m) in
    let z : ℕ = length (parts_of types n) in
    let all = length-append (shares ss types) (two_part f t (type_of_node n) ++ (parts_of types m ++ parts_of types n)) in
    let rest = length-append (two_part f t (type_of_node n)) (parts_of types m ++ parts_of types n) in
    let both = length-append (parts_of types m) (parts_of types n) in
    let of_shares = shares_length ss types in
    let same : length (parts_of types (Two t ss f m n)) ≡ length ss + (x + (y + z)) = omega (arith, all, rest, both, of_shares) in
    let counted = ap (λ (n : ℕ). span k i n) same in
    let parted = span_parted k i (length ss) (x + (y + z)) in
    let parted_own = span_parted k i' x (y + z) in
    let parted_two = span_parted k (i' + x) y z in
    let tells = shares_part k i ss in
    let own = two_tells k i' j f t (type_of_node n) in
    let left = part_tells k types (i' + x) (suc j) m in
    let right = part_tells k types (i' + x + y) (suc j + nodes m) n in
    omega (arith, counted, parted, parted_own, parted_two, tells, own, left, right)
part_tells k types i j (If t ss m n p) =
    let i' : ℕ = i + length ss in
    let x : ℕ = length (parts_of types m) in
    let y : ℕ = length (parts_of types n) in
    let z : ℕ = length (parts_of types p) in
    let l : ℕ = i' + 1 in
    let inner = parts_of types m ++ (parts_of types n ++ parts_of types p) in
    let all = length-append (shares ss types) (parts_of types (If t [] m n p)) in
    let three = length-append (parts_of types m) (parts_of types n ++ parts_of types p) in
    let two = length-append (parts_of types n) (parts_of types p) in
    let of_shares = shares_length ss types in
    let same : length (parts_of types (If t ss m n p)) ≡ length ss + (1 + (x + (y + z))) = omega (arith, all, three, two, of_shares) in
    let counted = ap (λ (n : ℕ). span k i n) same in
    let parted = span_parted k i (length ss) (1 + (x + (y + z))) in
    let parted_own = span_parted k i' 1 (x + (y + z)) in
    let parted_three = span_parted k l x (y + z) in
    let parted_two = span_parted k (l + x) y z in
    let tells = shares_part k i ss in
    let test = part_tells k types l (suc j) m in
    let left = part_tells k types (l + x) (suc j + nodes m) n in
    let right = part_tells k types (l + x + y) (suc j + nodes m + nodes n) p in
    omega (arith, counted, parted, parted_own, parted_three, parted_two, tells, test, left, right)

-- the nodes of a term
shares_node : (k i : ℕ) (ss : List Split) → shares_tally (places.Node k) i ss ≡ 0
shares_node k i [] = refl
shares_node k i (s ∷ ss) = let h = shares_node k (suc i) ss in omega (arith, h)

binder_node : (k i n : ℕ) (b : Binding) → binder_tally (places.Node k) b i n ≡ 0
binder_node k i n OfFun = refl
binder_node k i n (OfNew w) = refl
binder_node k i n (OfArray c w) = refl

one_node : (k i j : ℕ) (f : OneForm) → one_tally (places.Node k) f i j ≤ (if nat_eq j k then 1 else 0)
one_node k i j OfFst = omega arith
one_node k i j OfSnd = omega arith
one_node k i j OfDeref = omega arith
one_node k i j OfNot = omega arith

two_node : (k i j : ℕ) (f : TwoForm) → two_tally (places.Node k) f i j ≤ (if nat_eq j k then 1 else 0) + (if nat_eq j k then 1 else 0)
two_node k i j OfApp = omega arith
two_node k i j OfBoth = omega arith
two_node k i j OfSeq = omega arith
two_node k i j OfPar = omega arith
two_node k i j OfWhile = omega arith
two_node k i j OfAssign = omega arith
two_node k i j (OfBin op) = omega arith

pub node_tells : (k : ℕ) (types : Types) (i j : ℕ) (m : Numbered) → tally (places.Node k) types i j m ≤ span k j (nodes m) + span k j (nodes m)
node_tells k types i j (Closed t ss c) = let tells = shares_node k i ss in omega (arith, tells)
node_tells k types i j (Use t ss n) = let tells = shares_node k i ss in omega (arith, tells)
node_tells k types i j (Under t ss b n m) =
    let tells = shares_node k i ss in
    let own = binder_node k (i + length ss) n b in
    let below = node_tells k types (i + length ss + length (binder_part b t)) (suc j) m in
    omega (arith, tells, own, below)
node_tells k types i j (One t ss f m) =
    let tells = shares_node k i ss in
    let own = one_node k (i + length ss) j f in
    let below = node_tells k types (i + length ss + length (one_part f t)) (suc j) m in
    omega (arith, tells, own, below)
node_tells k types i j (Two t ss f m n) =
    let i' : ℕ = i + length ss + length (two_part f t (type_of_node n)) in
    let tells = shares_node k i ss in
    let own = two_node k (i + length ss) j f in
    let parted = span_parted k (suc j) (nodes m) (nodes n) in
    let left = node_tells k types i' (suc j) m in
    let right = node_tells k types (i' + length (parts_of types m)) (suc j + nodes m) n in
    omega (arith, tells, own, parted, left, right)
node_tells k types i j (If t ss m n p) =
    let i' : ℕ = i + length ss + 1 in
    let tells = shares_node k i ss in
    let parted = span_parted k (suc j) (nodes m + nodes n) (nodes p) in
    let parted_two = span_parted k (suc j) (nodes m) (nodes n) in
    let start : suc j + (nodes m + nodes n) ≡ suc j + nodes m + nodes n = omega arith in
    let start_same = ap (λ (a : ℕ). span k a (nodes p)) start in
    let test = node_tells k types i' (suc j) m in
    let left = node_tells k types (i' + length (parts_of types m)) (suc j + nodes m) n in
    let right = node_tells k types (i' + length (parts_of types m) + length (parts_of types n)) (suc j + nodes m + nodes n) p in
    omega (arith, tells, parted, parted_two, start_same, test, left, right)

-- the numbers of a term
shares_number : (k i : ℕ) (ss : List Split) → shares_tally (places.Number k) i ss ≡ times k (split_in ss) + times k (sides ss)
shares_number k i [] = omega arith
shares_number k i (s ∷ ss) = let h = shares_number k (suc i) ss in omega (arith, h)

binder_number : (k i n : ℕ) (b : Binding) → binder_tally (places.Number k) b i n ≡ (if nat_eq n k then 1 else 0)
binder_number k i n OfFun = refl
binder_number k i n (OfNew w) = omega arith
binder_number k i n (OfArray c w) = omega arith

one_number : (k i j : ℕ) (f : OneForm) → one_tally (places.Number k) f i j ≡ 0
one_number k i j OfFst = refl
one_number k i j OfSnd = refl
one_number k i j OfDeref = refl
one_number k i j OfNot = refl

two_number : (k i j : ℕ) (f : TwoForm) → two_tally (places.Number k) f i j ≡ 0
two_number k i j OfApp = refl
two_number k i j OfBoth = refl
two_number k i j OfSeq = refl
two_number k i j OfPar = refl
two_number k i j OfWhile = refl
two_number k i j OfAssign = refl
two_number k i j (OfBin op) = refl

pub number_tells : (k : ℕ) (types : Types) (i j : ℕ) (m : Numbered) → tally (places.Number k) types i j m ≤ times k (used m) + times k (made m)
number_tells k types i j (Closed t ss c) = let tells = shares_number k i ss in omega (arith, tells)
number_tells k types i j (Use t ss n) =
    let tells = shares_number k i ss in let uses = times-append k (split_in ss) (n ∷ []) in omega (arith, tells, uses)
number_tells k types i j (Under t ss b n m) =
    let tells = shares_number k i ss in
    let own = binder_number k (i + length ss) n b in
    let below = number_tells k types (i + length ss + length (binder_part b t)) (suc j) m in
    let uses = times-append k (split_in ss) (used m) in
    let makes = times-append k (sides ss) (n ∷ made m) in
    omega (arith, tells, own, below, uses, makes)
number_tells k types i j (One t ss f m) =
    let tells = shares_number k i ss in
    let own = one_number k (i + length ss) j f in
    let below = number_tells k types (i + length ss + length (one_part f t)) (suc j) m in
    let uses = times-append k (split_in ss) (used m) in
    let makes = times-append k (sides ss) (made m) in
    omega (arith, tells, own, below, uses, makes)
number_tells k types i j (Two t ss f m n) =
    let i' : ℕ = i + length ss + length (two_part f t (type_of_node n)) in
    let tells = shares_number k i ss in
    let own = two_number k (i + length ss) j f in
    let left = number_tells k types i' (suc j) m in
    let right = number_tells k types (i' + length (parts_of types m)) (suc j + nodes m) n in
    let uses = times-append k (split_in ss) (used m ++ used n) in
    let uses_two = times-append k (used m) (used n) in
    let makes = times-append k (sides ss) (made m ++ made n) in
    let makes_two = times-append k (made m) (made n) in
    omega (arith, tells, own, left, right, uses, uses_two, makes, makes_two)
number_tells k types i j (If t ss m n p) =
    let i' : ℕ = i + length ss + 1 in
    let tells = shares_number k i ss in
    let test = number_tells k types i' (suc j) m in
    let left = number_tells k types (i' + length (parts_of types m)) (suc j + nodes m) n in
    let right = number_tells k types (i' + length (parts_of types m) + length (parts_of types n)) (suc j + nodes m + nodes n) p in
    let uses = times-append k (split_in ss) (used m ++ (used n ++ used p)) in
    let uses_three = times-append k (used m) (used n ++ used p) in
    let uses_two = times-append k (used n) (used p) in
    let makes = times-append k (sides ss) (made m ++ (made n ++ made p)) in
    let makes_three = times-append k (made m) (made n ++ made p) in
    let makes_two = times-append k (made n) (made p) in
    omega (arith, tells, test, left, right, uses, uses_three, uses_two, makes, makes_three, makes_two)

-- An end of the plan itself is in no tie of a term, beside where its handshakes lead.
abbrev pub IsOutside : Place → Type 0
IsOutside q = (n : ℕ) → place_once q (places.Part n) + place_once q (places.Number n) + place_once q (places.Node n) ≡ 0

shares_outside : (q : Place) → IsOutside q → (i : ℕ) (ss : List Split) → shares_tally q i ss ≡ 0
shares_outside q out i [] = refl
shares_outside q out i (s ∷ ss) =
    let rest = shares_outside q out (suc i) ss in
    let part = out i in
    let of = out s.of in
    let left = out s.left in
    let right = out s.right in
    omega (arith, rest, part, of, left, right)

binder_outside : (q : Place) → IsOutside q → (i n : ℕ) (b : Binding) → binder_tally q b i n ≡ 0
binder_outside q out i n OfFun = let number = out n in omega (arith, number)
binder_outside q out i n (OfNew w) = let part = out i in let number = out n in omega (arith, part, number)
binder_outside q out i n (OfArray c w) = let part = out i in let number = out n in omega (arith, part, number)

one_outside : (q : Place) → IsOutside q → (i j : ℕ) (f : OneForm) → one_tally q f i j ≡ 0
one_outside q out i j OfFst = let node = out j in omega (arith, node)
one_outside q out i j OfSnd = let node = out j in omega (arith, node)
one_outside q out i j OfDeref = let part = out i in let node = out j in omega (arith, part, node)
one_outside q out i j OfNot = let part = out i in omega (arith, part)

two_outside : (q : Place) → IsOutside q → (i j : ℕ) (f : TwoForm) → two_tally q f i j ≡ 0
two_outside q out i j OfApp = let node = out j in omega (arith, node)
two_outside q out i j OfBoth = refl
two_outside q out i j OfSeq = let part = out i in omega (arith, part)
two_outside q out i j OfPar = let part = out i in omega (arith, part)
two_outside q out i j OfWhile = let part = out i in omega (arith, part)
two_outside q out i j OfAssign = let part = out i in let node = out j in omega (arith, part, node)
two_outside q out i j (OfBin op) = let part = out i in omega (arith, part)

pub outside_tells : (q : Place) → IsOutside q → (types : Types) (i j : ℕ) (m : Numbered) → tally q types i j m ≡ 0
outside_tells q out types i j (Closed t ss c) =
    let tells = shares_outside q out i ss in let part = out (i + length ss) in omega (arith, tells, part)
outside_tells q out types i j (Use t ss n) = let tells = shares_outside q out i ss in let number = out n in omega (arith, tells, number)
outside_tells q out types i j (Under t ss b n m) =
    let tells = shares_outside q out i ss in
    let own = binder_outside q out (i + length ss) n b in
    let below = outside_tells q out types (i + length ss + length (binder_part b t)) (suc j) m in
    omega (arith, tells, own, below)
outside_tells q out types i j (One t ss f m) =
    let tells = shares_outside q out i ss in
    let own = one_outside q out (i + length ss) j f in
    let below = outside_tells q out types (i + length ss + length (one_part f t)) (suc j) m in
    omega (arith, tells, own, below)
outside_tells q out types i j (Two t ss f m n) =
    let i' : ℕ = i + length ss + length (two_part f t (type_of_node n)) in
    let tells = shares_outside q out i ss in
    let own = two_outside q out (i + length ss) j f in
    let left = outside_tells q out types i' (suc j) m in
    let right = outside_tells q out types (i' + length (parts_of types m)) (suc j + nodes m) n in
    omega (arith, tells, own, left, right)
outside_tells q out types i j (If t ss m n p) =
    let i' : ℕ = i + length ss + 1 in
    let tells = shares_outside q out i ss in
    let part = out (i + length ss) in
    let test = outside_tells q out types i' (suc j) m in
    let left = outside_tells q out types (i' + length (parts_of types m)) (suc j + nodes m) n in
    let right = outside_tells q out types (i' + length (parts_of types m) + length (parts_of types n)) (suc j + nodes m + nodes n) p in
    omega (arith, tells, part, test, left, right)

-- the imports
abbrev imports_tally : Place → ℕ → Imports → ℕ
imports_tally q k [] = 0
imports_tally q k (i ∷ is) = place_once q (places.Import k) + place_once q (places.Number k) + imports_tally q (suc k) is

imports_tallied : (q : Point) (k : ℕ) (is : Imports) → meetings q (import_ties k is) ≤ imports_tally q.place k is
imports_tallied q k [] = omega arith
imports_tallied q k (i ∷ is) =
    let split = meetings-append q (led (row (places.Import k) 0 (count i.ty)) (places.Number k) 0) (import_ties (suc k) is) in
    let there = led_row q (places.Import k) (places.Number k) (count i.ty) 0 in
    let of_import = row_once q (places.Import k) 0 (count i.ty) in
    let of_number = row_once q (places.Number k) 0 (count i.ty) in
    let rest = imports_tallied q (suc k) is in
    omega (arith, split, there, of_import, of_number, rest)

import_tells : (n k : ℕ) (is : Imports) → imports_tally (places.Import n) k is ≡ span n k (length is)
import_tells n k [] = refl
import_tells n k (i ∷ is) = let rest = import_tells n (suc k) is in omega (arith, rest)

import_number : (n k : ℕ) (is : Imports) → imports_tally (places.Number n) k is ≡ span n k (length is)
import_number n k [] = refl
import_number n k (i ∷ is) = let rest = import_number n (suc k) is in omega (arith, rest)

import_other : (q : Place) → ((k : ℕ) → place_once q (places.Import k) + place_once q (places.Number k) ≡ 0) → (k : ℕ) (is : Imports)
    → imports_tally q k is ≡ 0
import_other q out k [] = refl
import_other q out k (i ∷ is) = let rest = import_other q out (suc k) is in let here = out k in omega (arith, rest, here)

-- all of a module
abbrev whole : Place → Imports → Numbered → ℕ
whole q is m = imports_tally q 0 is + (place_once q places.Result + tally q (all_types is m) 0 0 m)

whole_tallied : (q : Point) (is : Imports) (m : Numbered) → meetings q (all_ties is m) ≤ whole q.place is m
whole_tallied q is m =
    let n : ℕ = count (type_of_node m) in
    let split = meetings-append q (import_ties 0 is) (ties_of (all_types is m) 0 0 m (row places.Result 0 n)) in
    let imports = imports_tallied q 0 is in
    let term = tallied q (all_types is m) 0 0 m (row places.Result 0 n) in
    let own = row_once q places.Result 0 n in
    omega (arith, split, imports, term, own)

number_bound : (p : Program) (m : Numbered) (k : ℕ) → StandsFor p m → whole (places.Number k) p.imports m ≤ 2
number_bound p m k stands =
    let term = number_tells k (all_types p.imports m) 0 0 m in
    let imports = import_number k 0 p.imports in
    let uses = stands.used_once k in
    let makes = stands.made_once k in
    let once_there = span_once k 0 (length p.imports) in
    by (times k (made m)) refl term imports uses makes once_there
  where
    by : (n : ℕ) → times k (made m) ≡ n → tally (places.Number k) (all_types p.imports m) 0 0 m ≤ times k (used m) + times k (made m)
        → imports_tally (places.Number k) 0 p.imports ≡ span k 0 (length p.imports) → times k (used m) ≤ 1 → times k (made m) ≤ 1
        → span k 0 (length p.imports) ≤ 1 → whole (places.Number k) p.imports m ≤ 2
    by zero e term imports uses makes once_there = omega (arith, e, term, imports, uses, makes, once_there)
    by (suc n) e term imports uses makes once_there =
        let high : length p.imports ≤ k = stands.no_import k (omega (arith, e)) in
        let none = span_past k 0 (length p.imports) (omega (arith, high)) in
        omega (arith, term, imports, uses, makes, none)

place_bound : (p : Program) (m : Numbered) (q : Place) → StandsFor p m → whole q p.imports m ≤ 2
place_bound p m (places.Part k) stands =
    let term = part_tells k (all_types p.imports m) 0 0 m in
    let imports = import_other (places.Part k) (λ n. refl) 0 p.imports in
    let one = span_once k 0 (length (parts_of (all_types p.imports m) m)) in
    omega (arith, term, imports, one)
place_bound p m (places.Import k) stands =
    let term = outside_tells (places.Import k) (λ n. refl) (all_types p.imports m) 0 0 m in
    let imports = import_tells k 0 p.imports in
    let one = span_once k 0 (length p.imports) in
    omega (arith, term, imports, one)
place_bound p m places.Result stands =
    let term = outside_tells places.Result (λ n. refl) (all_types p.imports m) 0 0 m in
    let imports = import_other places.Result (λ n. refl) 0 p.imports in
    omega (arith, term, imports)
place_bound p m (places.Number k) stands = number_bound p m k stands
place_bound p m (places.Node k) stands =
    let term = node_tells k (all_types p.imports m) 0 0 m in
    let imports = import_other (places.Node k) (λ n. refl) 0 p.imports in
    let one = span_once k 0 (nodes m) in
    omega (arith, term, imports, one)

end_bound : (p : Program) (m : Numbered) (q : Place) (h : ℕ) (e : End) → end_of_place q h ≡ Some e → whole q p.imports m ≤ 1
end_bound p m (places.Part k) h e is =
    let term = part_tells k (all_types p.imports m) 0 0 m in
    let imports = import_other (places.Part k) (λ n. refl) 0 p.imports in
    let one = span_once k 0 (length (parts_of (all_types p.imports m) m)) in
    omega (arith, term, imports, one)
end_bound p m (places.Import k) h e is =
    let term = outside_tells (places.Import k) (λ n. refl) (all_types p.imports m) 0 0 m in
    let imports = import_tells k 0 p.imports in
    let one = span_once k 0 (length p.imports) in
    omega (arith, term, imports, one)
end_bound p m places.Result h e is =
    let term = outside_tells places.Result (λ n. refl) (all_types p.imports m) 0 0 m in
    let imports = import_other places.Result (λ n. refl) 0 p.imports in
    omega (arith, term, imports)
end_bound p m (places.Number k) h e is = cc
end_bound p m (places.Node k) h e is = cc

-- the ties of a term that stands for a program
pub thin : (p : Program) (m : Numbered) → StandsFor p m → IsThin (all_ties p.imports m)
thin p m stands =
    record {
      points = λ q. let all = whole_tallied q p.imports m in let few = place_bound p m q.place stands in omega (arith, all, few);
      ends = λ q e is. let all = whole_tallied q p.imports m in let few = end_bound p m q.place q.shake e is in omega (arith, all, few);
    }
