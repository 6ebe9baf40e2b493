-- The uses of a typed term stand for variables and imports, its splits split what is bound, and its nodes weigh at most
-- what the term does.
--
-- Read first: KnownLemmas.
use Rattle.std.specs.Prelude.{◌≡◌, ℕ, zero, suc, ◌+◌, ◌≤◌, ◌||◌, Bool, true, false, List, [], ◌∷◌, ◌++◌, length, nat_eq, if◌then◌else◌}
use Rattle.std.proofs.Common.{refl, ap, sym, ◌∙◌, arith, true≢false, length-append}
use Rattle.std.proofs.lemmas.List.{length-map}
use Rattle.gos_types.specs.Types.{Type', Com, Exp, Var, Pair, Fun}
use Rattle.gos_model.specs.Terms as terms
use Rattle.gos_model.specs.Terms.{Term}
use Rattle.gos_model.specs.Typing.{Imports, Typed, array_type}
use Rattle.gos_model.specs.Weight as weights
use Rattle.gos_model.specs.Weight.{node_type, nodes_weight}
use Rattle.gos_check.specs.declared.linear.Split.{Split}
use Rattle.gos_check.specs.Nodes.{Numbered, Binding, Closed, Use, Under, One, Two, If, OfFun, OfNew, OfArray, OfFst, OfSnd, OfDeref, OfNot, OfApp, OfBoth, OfSeq, OfPar, OfWhile, OfAssign, OfBin, Meaning, meaning, below, shifted, inside, inside_one, HasTypes, argument_of}
use Rattle.gos_check.specs.Linearity.{import_at}
use Rattle.gos_realises.specs.realises.Regular.{count}
use Rattle.gos_compile.proofs.KnownLemmas.{is_bound, UsesBound, lost, all_lost}

-- a term is a variable, an import or a location
abbrev pub is_name : Term → Bool
is_name (terms.Bound i) = true
is_name (terms.Import x) = true
is_name (terms.Loc l) = true
is_name m = false

abbrev pub AreNames : Meaning → Type 0
AreNames env = (k : ℕ) → is_name (env k) ≡ true

name_typed : (i : Imports) (g : List Type') (m : Term) (t : Type') → is_name m ≡ true → Typed i g m t → is_bound m ≡ true
name_typed i g (terms.Bound n) t h k = refl
name_typed i g (terms.Import x) t h k = refl
name_typed i g (terms.Loc l) t h k = absurd k
name_typed i g m t h k = absurd (true≢false (sym h))

shifted_name : (m : Term) → is_name m ≡ true → is_name (shifted m) ≡ true
shifted_name (terms.Bound n) h = refl
shifted_name m h = h

pub below_names : (n : ℕ) (env : Meaning) → AreNames env → AreNames (below n env)
below_names n env names k = by (nat_eq k n)
  where
    by : (b : Bool) → is_name (if b then terms.Bound 0 else shifted (env k)) ≡ true
    by true = refl
    by false = shifted_name (env k) (names k)

one_names : (s : Split) (env : Meaning) → AreNames env → AreNames (inside_one s env)
one_names s env names k = by (nat_eq k s.left || nat_eq k s.right)
  where
    by : (b : Bool) → is_name (if b then env s.of else env k) ≡ true
    by true = names s.of
    by false = names k

pub inside_names : (ss : List Split) (env : Meaning) → AreNames env → AreNames (inside ss env)
inside_names [] env names = names
inside_names (s ∷ ss) env names = inside_names ss (inside_one s env) (one_names s env names)

pub import_names : (is : Imports) → AreNames (import_at is)
import_names [] k = refl
import_names (i ∷ is) zero = refl
import_names (i ∷ is) (suc k) = import_names is k

pub uses_bound : (i : Imports) (g : List Type') (env : Meaning) (m : Numbered) (t : Type') → AreNames env → Typed i g (meaning env m) t
    → UsesBound env m
uses_bound i g env (Closed u ss c) t names h = tt
uses_bound i g env (Use u ss n) t names h = name_typed i g (env n) t (names n) h
uses_bound i g env (Under u ss OfFun n m) t names (b, f, h) =
    uses_bound i (argument_of u ∷ g) (below n (inside ss env)) m b (below_names n (inside ss env) (inside_names ss env names)) h
uses_bound i g env (Under u ss (OfNew w) n m) t names (done, width, h) =
    uses_bound i (Var w ∷ g) (below n (inside ss env)) m t (below_names n (inside ss env) (inside_names ss env names)) h
uses_bound i g env (Under u ss (OfArray k w) n m) t names (done, length, width, h) =
    uses_bound i (array_type k w ∷ g) (below n (inside ss env)) m t (below_names n (inside ss env) (inside_names ss env names)) h
uses_bound i g env (One u ss OfFst m) t names (b, h) = uses_bound i g (inside ss env) m (Pair t b) (inside_names ss env names) h
uses_bound i g env (One u ss OfSnd m) t names (a, h) = uses_bound i g (inside ss env) m (Pair a t) (inside_names ss env names) h
uses_bound i g env (One u ss OfDeref m) t names (w, f, h) = uses_bound i g (inside ss env) m (Var w) (inside_names ss env names) h
uses_bound i g env (One u ss OfNot m) t names (w, f, h) = uses_bound i g (inside ss env) m (Exp w) (inside_names ss env names) h
uses_bound i g env (Two u ss OfApp m n) t names (a, h, j, apart) = (
  uses_bound i g (inside ss env) m (Fun a t) (inside_names ss env names) h,
  uses_bound i g (inside ss env) n a (inside_names ss env names) j,
)
uses_bound i g env (Two u ss OfBoth m n) t names (a, b, f, h, j) = (
  uses_bound i g (inside ss env) m a (inside_names ss env names) h,
  uses_bound i g (inside ss env) n b (inside_names ss env names) j,
)
uses_bound i g env (Two u ss OfSeq m n) t names (d, h, j) = (
  uses_bound i g (inside ss env) m Com (inside_names ss env names) h,
  uses_bound i g (inside ss env) n t (inside_names ss env names) j,
)
uses_bound i g env (Two u ss OfPar m n) t names (f, h, j, apart) = (
  uses_bound i g (inside ss env) m Com (inside_names ss env names) h,
  uses_bound i g (inside ss env) n Com (inside_names ss env names) j,
)
uses_bound i g env (Two u ss OfWhile m n) t names (f, h, j) = (
  uses_bound i g (inside ss env) m (Exp 1) (inside_names ss env names) h,
  uses_bound i g (inside ss env) n Com (inside_names ss env names) j,
)
uses_bound i g env (Two u ss OfAssign m n) t names (w, f, h, j) = (
  uses_bound i g (inside ss env) m (Var w) (inside_names ss env names) h,
  uses_bound i g (inside ss env) n (Exp w) (inside_names ss env names) j,
)
uses_bound i g env (Two u ss (OfBin op) m n) t names (w, f, h, j) = (
  uses_bound i g (inside ss env) m (Exp w) (inside_names ss env names) h,
  uses_bound i g (inside ss env) n (Exp w) (inside_names ss env names) j,
)
uses_bound i g env (If u ss m n p) t names (d, h, j, q) = (
  uses_bound i g (inside ss env) m (Exp 1) (inside_names ss env names) h,
  uses_bound i g (inside ss env) n t (inside_names ss env names) j,
  uses_bound i g (inside ss env) p t (inside_names ss env names) q,
)

-- what is split is bound where it is split
abbrev pub SplitsBound : Meaning → List Split → Type 0
SplitsBound env [] = Unit {0}
SplitsBound env (s ∷ ss) = (is_bound (env s.of) ≡ true) × SplitsBound (inside_one s env) ss

abbrev pub AllBound : Meaning → Numbered → Type 0
AllBound env (Closed t ss c) = SplitsBound env ss
AllBound env (Use t ss n) = SplitsBound env ss
AllBound env (Under t ss b n m) = SplitsBound env ss × AllBound (below n (inside ss env)) m
AllBound env (One t ss f m) = SplitsBound env ss × AllBound (inside ss env) m
AllBound env (Two t ss f m n) = SplitsBound env ss × AllBound (inside ss env) m × AllBound (inside ss env) n
AllBound env (If t ss m n p) = SplitsBound env ss × AllBound (inside ss env) m × AllBound (inside ss env) n × AllBound (inside ss env) p

none_split : (env : Meaning) (ss : List Split) → length (lost env ss) ≡ 0 → SplitsBound env ss
none_split env [] h = tt
none_split env (s ∷ ss) h = by (is_bound (env s.of)) refl (none_split (inside_one s env) ss) h
  where
    by : (b : Bool) → is_bound (env s.of) ≡ b → (length (lost (inside_one s env) ss) ≡ 0 → SplitsBound (inside_one s env) ss)
        → length (if b then lost (inside_one s env) ss else s ∷ lost (inside_one s env) ss) ≡ 0 → SplitsBound env (s ∷ ss)
    by true e rest l = (e, rest l)
    by false e rest l = absurd (omega (arith, l))

pub all_bound : (env : Meaning) (m : Numbered) → length (all_lost env m) ≡ 0 → AllBound env m
all_bound env (Closed t ss c) h = none_split env ss h
all_bound env (Use t ss n) h = none_split env ss h
all_bound env (Under t ss b n m) h =
    let env' : Meaning = below n (inside ss env) in
    let parted = length-append (lost env ss) (all_lost env' m) in
    (none_split env ss (omega (arith, h, parted)), all_bound env' m (omega (arith, h, parted)))
all_bound env (One t ss f m) h =
    let env' : Meaning = inside ss env in
    let parted = length-append (lost env ss) (all_lost env' m) in
    (none_split env ss (omega (arith, h, parted)), all_bound env' m (omega (arith, h, parted)))
all_bound env (Two t ss f m n) h =
    let env' : Meaning = inside ss env in
    let parted = length-append (lost env ss) (all_lost env' m ++ all_lost env' n) in
    let parted_two = length-append (all_lost env' m) (all_lost env' n) in (
      none_split env ss (omega (arith, h, parted)),
      all_bound env' m (omega (arith, h, parted, parted_two)),
      all_bound env' n (omega (arith, h, parted, parted_two)),
    )
all_bound env (If t ss m n p) h =
    let env' : Meaning = inside ss env in
    let parted = length-append (lost env ss) (all_lost env' m ++ (all_lost env' n ++ all_lost env' p)) in
    let parted_three = length-append (all_lost env' m) (all_lost env' n ++ all_lost env' p) in
    let parted_two = length-append (all_lost env' n) (all_lost env' p) in (
      none_split env ss (omega (arith, h, parted)),
      all_bound env' m (omega (arith, h, parted, parted_three)),
      all_bound env' n (omega (arith, h, parted, parted_three, parted_two)),
      all_bound env' p (omega (arith, h, parted, parted_three, parted_two)),
    )

-- the handshakes of a type are counted alike
pub same_count : (t : Type') → count t ≡ weights.count t
same_count t = simp length-map refl

-- how many numbers a block's array has, and the arrays of a term together
abbrev pub binder_length : Binding → ℕ
binder_length OfFun = 0
binder_length (OfNew w) = 0
binder_length (OfArray k w) = k

abbrev pub lengths : Numbered → ℕ
lengths (Closed t ss c) = 0
lengths (Use t ss n) = 0
lengths (Under t ss b n m) = binder_length b + lengths m
lengths (One t ss f m) = lengths m
lengths (Two t ss f m n) = lengths m + lengths n
lengths (If t ss m n p) = lengths m + lengths n + lengths p

-- what the nodes weigh
abbrev pub burden : Numbered → ℕ
burden (Closed t ss c) = 4 + count t
burden (Use t ss n) = 4 + count t
burden (Under t ss b n m) = binder_length b + 4 + count t + burden m
burden (One t ss f m) = 4 + count t + burden m
burden (Two t ss f m n) = 4 + count t + burden m + burden n
burden (If t ss m n p) = 4 + count t + burden m + burden n + burden p

heavy : (i : Imports) (g : List Type') (m : Term) (t : Type') → Typed i g m t → 4 + weights.count (node_type i g m) ≤ nodes_weight i g m
heavy i g terms.Skip t h = omega arith
heavy i g (terms.Lit k w) t h = omega arith
heavy i g (terms.Bound n) t h = omega arith
heavy i g (terms.Import x) t h = omega arith
heavy i g (terms.Lam a m) t h = omega arith
heavy i g (terms.App m n) t h = omega arith
heavy i g (terms.Both m n) t h = omega arith
heavy i g (terms.Fst m) t h = omega arith
heavy i g (terms.Snd m) t h = omega arith
heavy i g (terms.Seq m n) t h = omega arith
heavy i g (terms.Par m n) t h = omega arith
heavy i g (terms.If m n p) t h = omega arith
heavy i g (terms.While m n) t h = omega arith
heavy i g (terms.Assign m n) t h = omega arith
heavy i g (terms.Deref m) t h = omega arith
heavy i g (terms.New w m) t h = omega arith
heavy i g (terms.NewArray n w m) t h = omega arith
heavy i g (terms.Not m) t h = omega arith
heavy i g (terms.Bin op m n) t h = omega arith
heavy i g (terms.Loc l) t h = absurd h
heavy i g (terms.Arr l) t h = absurd h
heavy i g (terms.Scope l m) t h = absurd h
heavy i g (terms.Wait x s) t h = absurd h
heavy i g (terms.Held k op n) t h = absurd h
heavy i g (terms.Put m k) t h = absurd h

-- the handshakes of a node's type are those of its term's
seen_count : (t u : Type') → t ≡ u → count t ≡ weights.count u
seen_count t u e = same_count t ∙ ap (λ (v : Type'). weights.count v) e

pub weigh : (i : Imports) (g : List Type') (env : Meaning) (m : Numbered) (t : Type') → HasTypes i g env m → Typed i g (meaning env m) t
    → burden m ≤ nodes_weight i g (meaning env m)
weigh i g env (Closed u ss c) t e h = let one = heavy i g c t h in let same = seen_count u (node_type i g c) e in omega (arith, one, same)
weigh i g env (Use u ss n) t e h = let one = heavy i g (env n) t h in let same = seen_count u (node_type i g (env n)) e in omega (arith, one, same)
weigh i g env (Under u ss OfFun n m) t (e, has) (b, f, h) =
    let env' : Meaning = below n (inside ss env) in
    let same = seen_count u (node_type i g (terms.Lam (argument_of u) (meaning env' m))) e in
    let rest = weigh i (argument_of u ∷ g) env' m b has h in
    omega (arith, same, rest)
weigh i g env (Under u ss (OfNew w) n m) t (e, has) (done, width, h) =
    let env' : Meaning = below n (inside ss env) in
    let same = seen_count u (node_type i g (terms.New w (meaning env' m))) e in
    let rest = weigh i (Var w ∷ g) env' m t has h in
    omega (arith, same, rest)
weigh i g env (Under u ss (OfArray k w) n m) t (e, has) (done, length, width, h) =
    let env' : Meaning = below n (inside ss env) in
    let same = seen_count u (node_type i g (terms.NewArray k w (meaning env' m))) e in
    let rest = weigh i (array_type k w ∷ g) env' m t has h in
    omega (arith, same, rest)
weigh i g env (One u ss OfFst m) t (e, has) (b, h) =
    let same = seen_count u (node_type i g (terms.Fst (meaning (inside ss env) m))) e in
    let rest = weigh i g (inside ss env) m (Pair t b) has h in
    omega (arith, same, rest)
weigh i g env (One u ss OfSnd m) t (e, has) (a, h) =
    let same = seen_count u (node_type i g (terms.Snd (meaning (inside ss env) m))) e in
    let rest = weigh i g (inside ss env) m (Pair a t) has h in
    omega (arith, same, rest)
weigh i g env (One u ss OfDeref m) t (e, has) (w, f, h) =
    let same = seen_count u (node_type i g (terms.Deref (meaning (inside ss env) m))) e in
    let rest = weigh i g (inside ss env) m (Var w) has h in
    omega (arith, same, rest)
weigh i g env (One u ss OfNot m) t (e, has) (w, f, h) =
    let same = seen_count u (node_type i g (terms.Not (meaning (inside ss env) m))) e in
    let rest = weigh i g (inside ss env) m (Exp w) has h in
    omega (arith, same, rest)
weigh i g env (Two u ss OfApp m n) t (e, has, hasn) (a, h, j, apart) =
    let same = seen_count u (node_type i g (terms.App (meaning (inside ss env) m) (meaning (inside ss env) n))) e in
    let left = weigh i g (inside ss env) m (Fun a t) has h in
    let right = weigh i g (inside ss env) n a hasn j in
    omega (arith, same, left, right)
weigh i g env (Two u ss OfBoth m n) t (e, has, hasn) (a, b, f, h, j) =
    let same = seen_count u (node_type i g (terms.Both (meaning (inside ss env) m) (meaning (inside ss env) n))) e in
    let left = weigh i g (inside ss env) m a has h in
    let right = weigh i g (inside ss env) n b hasn j in
    omega (arith, same, left, right)
weigh i g env (Two u ss OfSeq m n) t (e, has, hasn) (d, h, j) =
    let same = seen_count u (node_type i g (terms.Seq (meaning (inside ss env) m) (meaning (inside ss env) n))) e in
    let left = weigh i g (inside ss env) m Com has h in
    let right = weigh i g (inside ss env) n t hasn j in
    omega (arith, same, left, right)
weigh i g env (Two u ss OfPar m n) t (e, has, hasn) (f, h, j, apart) =
    let same = seen_count u (node_type i g (terms.Par (meaning (inside ss env) m) (meaning (inside ss env) n))) e in
    let left = weigh i g (inside ss env) m Com has h in
    let right = weigh i g (inside ss env) n Com hasn j in
    omega (arith, same, left, right)
weigh i g env (Two u ss OfWhile m n) t (e, has, hasn) (f, h, j) =
    let same = seen_count u (node_type i g (terms.While (meaning (inside ss env) m) (meaning (inside ss env) n))) e in
    let left = weigh i g (inside ss env) m (Exp 1) has h in
    let right = weigh i g (inside ss env) n Com hasn j in
    omega (arith, same, left, right)
weigh i g env (Two u ss OfAssign m n) t (e, has, hasn) (w, f, h, j) =
    let same = seen_count u (node_type i g (terms.Assign (meaning (inside ss env) m) (meaning (inside ss env) n))) e in
    let left = weigh i g (inside ss env) m (Var w) has h in
    let right = weigh i g (inside ss env) n (Exp w) hasn j in
    omega (arith, same, left, right)
weigh i g env (Two u ss (OfBin op) m n) t (e, has, hasn) (w, f, h, j) =
    let same = seen_count u (node_type i g (terms.Bin op (meaning (inside ss env) m) (meaning (inside ss env) n))) e in
    let left = weigh i g (inside ss env) m (Exp w) has h in
    let right = weigh i g (inside ss env) n (Exp w) hasn j in
    omega (arith, same, left, right)
weigh i g env (If u ss m n p) t (e, has, hasn, hasp) (d, h, j, q) =
    let same = seen_count u (node_type i g (terms.If (meaning (inside ss env) m) (meaning (inside ss env) n) (meaning (inside ss env) p))) e in
    let test = weigh i g (inside ss env) m (Exp 1) has h in
    let left = weigh i g (inside ss env) n t hasn j in
    let right = weigh i g (inside ss env) p t hasp q in
    omega (arith, same, test, left, right)
