-- The joining of a tree of instances realises the tree's substituted program.
use Rattle.std.specs.Prelude.{◌≡◌, ℕ, zero, suc, ◌+◌, ◌≤◌, Bool, true, false, List, [], ◌∷◌, ◌++◌, length, map, Option, Some, slice_get, if◌then◌else◌}
use Rattle.std.specs.Str.{bytes_eq}
use Rattle.std.proofs.Common.{refl, sym, ◌∙◌, ap, subst, arith}
use Rattle.std.proofs.lemmas.List.{map-append, length-append}
use Rattle.gos_types.specs.Types.{Type'}
use Rattle.gos_types.proofs.BytesLemmas.{bytes_eq_itself, bytes_eq_same}
use Rattle.gos_model.specs.Terms.{Name, Term}
use Rattle.gos_model.specs.Typing.{Imported, import_type}
use Rattle.gos_model.specs.Linking.{or_import, supplied}
use Rattle.gos_realises.specs.realises.Realises.{NamesDiffer, Realises}
use Rattle.gos_realises.specs.realises.Modules.{Supply, AreSupplied, term_for}
use Rattle.gos_realises.proofs.realises.PlaceLemmas.{contains_at}
use Rattle.gos_joining.proofs.renumbered.ImportLemmas.{names_same}
use Rattle.gos_joining.proofs.renumbered.OrderLemmas.{reordered}
use Rattle.gos_joining.proofs.renumbered.RewireLemmas.{rewired_is_renumbered}
use Rattle.gos_joining.specs.renumbered.Open.{RenumberedIsOpen}
use Rattle.gos_supplies.proofs.applications.TermLemmas.{supplied_same}
use Rattle.gos_supplies.specs.instances.Trees.{terms_of, first, after, term_among, Tree, Alone, Serve, left_of, meaning, IsTree, wired, names_of, body_of, HasTypes, TreeIsOpen, RewiredTreeIsOpen}
use Rattle.gos_supplies.proofs.instances.TermLemmas.{or_supplied, supplied_then, supplied_twice}
use Rattle.gos_supplies.proofs.instances.TreeLemmas.{tree_imports, tree_is_joined, tree_is_realised}

-- the first terms and those behind, with something put in each
module _ (h : Term → Term) where
  first_given : (n : ℕ) (ts : List Term) → map h (first n ts) ≡ first n (map h ts)
  first_given zero ts = refl
  first_given (suc n) [] = refl
  first_given (suc n) (t ∷ ts) = ap (λ (l : List Term). h t ∷ l) (first_given n ts)

  after_given : (n : ℕ) (ts : List Term) → map h (after n ts) ≡ after n (map h ts)
  after_given zero ts = refl
  after_given (suc n) [] = refl
  after_given (suc n) (t ∷ ts) = after_given n ts

first_length : (n : ℕ) (ts : List Term) → n ≤ length ts → length (first n ts) ≡ n
first_length zero ts few = refl
first_length (suc n) [] few = absurd (omega (arith, few))
first_length (suc n) (t ∷ ts) few = ap suc (first_length n ts (omega (arith, few)))

after_length : (n : ℕ) (ts : List Term) → n ≤ length ts → length (after n ts) + n ≡ length ts
after_length zero ts few = omega arith
after_length (suc n) [] few = absurd (omega (arith, few))
after_length (suc n) (t ∷ ts) few = let rest = after_length n ts (omega (arith, few)) in omega (arith, rest)

among_given : (is : List Imported) (ts : List Term) (g : Name → Option Term) → length ts ≡ length is → (x : Name) (t : Type') → import_type is x ≡ Some t
    → supplied_then (term_among is ts) g x ≡ term_among is (map (supplied g) ts) x
among_given [] ts g size x t e = absurd (cc e)
among_given (i ∷ is) [] g size x t e = absurd (omega (arith, size))
among_given (i ∷ is) (m ∷ ts) g size x t e =
    by_test (bytes_eq i.name x) e (λ h. (let rest : length ts ≡ length is = omega (arith, size) in among_given is ts g rest x t h))
  where
    by_test : (b : Bool) → (if b then Some i.ty else import_type is x) ≡ Some t
        → (import_type is x ≡ Some t → or_supplied g (term_among is ts x) (g x) ≡ term_among is (map (supplied g) ts) x)
        → or_supplied g (if b then Some m else term_among is ts x) (g x) ≡ (if b then Some (supplied g m) else term_among is (map (supplied g) ts) x)
    by_test true has rest = refl
    by_test false has rest = rest has

-- what a tree makes of terms, with something put in
abbrev Natural : Tree → Type 0
Natural t = (g : Name → Option Term) (ts : List Term) → length ts ≡ length (left_of t) → supplied g (meaning t ts) ≡ meaning t (map (supplied g) ts)

serve_given : (is js : List Imported) (x : Imported) (t u : Tree) → left_of t ≡ is ++ (x ∷ js) → Natural t → Natural u → Natural (Serve is js x t u)
serve_given is js x t u lefts of_t of_u g ts size =
    let k : ℕ = length is in
    let j : ℕ = length js in
    let rest : List Term = after k ts in
    let mine : List Term = after j rest in
    let both = length-append (is ++ js) (left_of u) in
    let two = length-append is js in
    let many : k ≤ length ts = omega (arith, size, both, two) in
    let rest_size : length rest + k ≡ length ts = after_length k ts many in
    let enough : j ≤ length rest = omega (arith, rest_size, size, both, two) in
    let mine_size : length mine + j ≡ length rest = after_length j rest enough in
    let mine_all : length mine ≡ length (left_of u) = omega (arith, mine_size, rest_size, size, both, two) in
    let user : List Term = first k ts ++ (meaning u mine ∷ first j rest) in
    let first_size = first_length k ts many in
    let last_size = first_length j rest enough in
    let user_size : length user ≡ length (left_of t) =
    length-append (first k ts) (meaning u mine ∷ first j rest)
    ∙ ((λ i. first_size i + suc (last_size i)) ∙ (sym (length-append is (x ∷ js)) ∙ ap (λ (l : List Imported). length l) (sym lefts)))
    in
    let h : Term → Term = supplied g in
    let rest_is : map h rest ≡ after k (map h ts) = after_given h k ts in
    let giver : h (meaning u mine) ≡ meaning u (after j (after k (map h ts))) =
    of_u g mine mine_all ∙ ap (meaning u) (after_given h j rest ∙ ap (after j) rest_is)
    in
    let firsts : map h (first k ts) ≡ first k (map h ts) = first_given h k ts in
    let lasts : map h (first j rest) ≡ first j (after k (map h ts)) = first_given h j rest ∙ ap (first j) rest_is in
    of_t g user user_size
    ∙ (ap (meaning t) (map-append h (first k ts) (meaning u mine ∷ first j rest)) ∙ (λ i. meaning t (firsts i ++ (giver i ∷ lasts i))))

meaning_given : (t : Tree) → IsTree t → HasTypes t → Natural t
meaning_given (Alone p m) is types g ts size =
    supplied_twice (term_among p.imports ts) g m
    ∙ supplied_same p.imports (supplied_then (term_among p.imports ts) g) (term_among p.imports (map (supplied g) ts)) (among_given p.imports ts g size) [] m
    p.outcome types
meaning_given (Serve is js x t u) (of_t, of_u, lefts, outcomes) (types_t, types_u) g ts size =
    serve_given is js x t u lefts (meaning_given t of_t types_t) (meaning_given u of_u types_u) g ts size

-- the names of imports, with their supplies put in
term_at : (is : List Imported) (ss : List Supply) → NamesDiffer is → (n : ℕ) (i : Imported) (s : Supply) → slice_get is n ≡ Some i → slice_get ss n ≡ Some s
    → term_for is ss i.name ≡ Some s.term
term_at [] ss differ n i s at at_s = absurd (cc at)
term_at (j ∷ is) [] differ n i s at at_s = absurd (cc at_s)
term_at (j ∷ is) (r ∷ ss) differ zero i s at at_s =
    let same : j ≡ i = cc at in
    let also : r ≡ s = cc at_s in
    let test : bytes_eq j.name i.name ≡ true = ap (λ (z : Imported). bytes_eq z.name i.name) same ∙ bytes_eq_itself i.name in
    (λ k. if test k then Some r.term else term_for is ss i.name) ∙ ap (λ (z : Supply). Some z.term) also
term_at (j ∷ is) (r ∷ ss) differ (suc n) i s at at_s = by_test (bytes_eq j.name i.name) refl (term_at is ss differ.1 n i s at at_s)
  where
    by_test : (b : Bool) → bytes_eq j.name i.name ≡ b → term_for is ss i.name ≡ Some s.term
        → (if b then Some r.term else term_for is ss i.name) ≡ Some s.term
    by_test true test rest = absurd (differ.0 i (contains_at is n i at) (bytes_eq_same j.name i.name test))
    by_test false test rest = rest

names_given : (g : Name → Option Term) (is : List Imported) (ss : List Supply) → AreSupplied is ss
    → ((n : ℕ) (i : Imported) (s : Supply) → slice_get is n ≡ Some i → slice_get ss n ≡ Some s → g i.name ≡ Some s.term)
    → map (supplied g) (names_of is) ≡ terms_of ss
names_given g [] [] are each = refl
names_given g [] (s ∷ ss) are each = absurd are
names_given g (i ∷ is) [] are each = absurd are
names_given g (i ∷ is) (s ∷ ss) are each =
    let one = ap (or_import i.name) (each 0 i s refl refl) in
    let rest = names_given g is ss are.1 (λ n j r at at_r. each (suc n) j r at at_r) in
    λ k. one k ∷ rest k

pub names_length : (is : List Imported) → length (names_of is) ≡ length is
names_length [] = refl
names_length (i ∷ is) = ap suc (names_length is)

pub tree_is_open : TreeIsOpen
tree_is_open t r is types names joining ss z are of_z names_z =
    let imports : r.imports ≡ left_of t = tree_imports t r is joining in
    let are_left : AreSupplied (left_of t) ss = subst (λ (l : List Imported). AreSupplied l ss) imports are in
    let g : Name → Option Term = term_for (left_of t) ss in
    let given : supplied g (body_of t) ≡ meaning t (terms_of ss) =
    meaning_given t is types g (names_of (left_of t)) (names_length (left_of t))
    ∙ ap (meaning t) (names_given g (left_of t) ss are_left (term_at (left_of t) ss names))
    in
    let terms : meaning t (terms_of ss) ≡ supplied (term_for r.imports ss) (body_of t) =
    sym given ∙ ap (λ (l : List Imported). supplied (term_for l ss) (body_of t)) (sym imports)
    in
    subst (λ (m : Term). Realises r.outcome z m) terms (tree_is_realised t r is joining ss z are of_z names_z)

pub rewired_tree_is_open : RenumberedIsOpen → RewiredTreeIsOpen
rewired_tree_is_open renumbered_is_open t w forth back f r is types rewired joining names =
    let (q, of_q) = tree_is_joined t is in
    let (g, same) = rewired_is_renumbered forth back f w (wired t) r q rewired joining of_q.joining in
    let names_q : NamesDiffer q.imports = names_same g.import g.import_back r.imports q.imports (reordered g r q same) names in
    let names_left : NamesDiffer (left_of t) = subst NamesDiffer (tree_imports t q is of_q.joining) names_q in
    renumbered_is_open g r q (body_of t) same names (tree_is_open t q is types names_left of_q.joining)
