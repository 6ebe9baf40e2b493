-- The numbered term of a typed module, with the imports' places as their numbers, stands for the module's program.
use Rattle.std.specs.Prelude.{◌≡◌, ◌≢◌, ◌⊎◌, ℕ, suc, ◌+◌, ◌<◌, ◌≤◌, List, [], ◌∷◌, map, length, false, Option, Some, None}
use Rattle.std.specs.Str.{bytes_eq}
use Rattle.std.proofs.Common.{arith, refl, sym, ap, subst, ◌∙◌, inl, inr}
use Rattle.std.proofs.lemmas.List.{length-map}
use Rattle.std.proofs.lemmas.Bool.{eq-eqb, ne_eqb}
use Rattle.gos_types.specs.Types.{Type', Com, Exp, Var}
use Rattle.gos_types.proofs.BytesLemmas.{same_bytes_eq}
use Rattle.gos_syntax.specs.Trees as trees
use Rattle.gos_syntax.specs.Trees.{Tree, tree_of}
use Rattle.gos_syntax.specs.Modules.{SeenImport, SeenModule}
use Rattle.gos_model.specs.Terms as terms
use Rattle.gos_model.specs.Terms.{Name}
use Rattle.gos_model.specs.Typing.{Imports, import_type, array_type, Typed}
use Rattle.gos_model.specs.Weight.{or_com, node_type}
use Rattle.gos_model.specs.Sources.{use_of, binder_of, bound_or_import, one_further, op_of, term_of, import_of, program_of}
use Rattle.gos_model.proofs.NumberLemmas.{number_cases}
use Rattle.gos_check.specs.declared.opens.Open.{Open}
use Rattle.gos_check.specs.Scopes.{Binders, type_at}
use Rattle.gos_check.specs.inner.Walked.{names_of, types_of}
use Rattle.gos_check.specs.Nodes.{OfFst, OfSnd, OfDeref, OfNot, OfApp, OfBoth, OfSeq, OfPar, OfWhile, OfAssign, OfBin, Numbered, Meaning, meaning, HasTypes}
use Rattle.gos_check.specs.Linearity.{times, used, all_sides, made, SidesApart, import_at, StandsFor}
use Rattle.gos_check.specs.Opens.{number_in, others, next_if, outside, merged_names}
use Rattle.gos_check.specs.Numbering.{Result, numbered, exchanged, raised, import_number, with_place, placed, typed_term, inner_names, inner_next}
use Rattle.gos_check.proofs.NameLemmas.{name_cases, other_false}
use Rattle.gos_check.proofs.TimesLemmas.{times_same}
use Rattle.gos_check.proofs.MergeLemmas.{numbers, Lacks, Differ, Gives, lacks_none, lacks_others, number_others, number_times}
use Rattle.gos_check.proofs.NumberLemmas.{Good, closed_good, use_good, one_good, two_good, fun_good, new_good, array_good, choice_good}
use Rattle.gos_check.proofs.RenameLemmas.{exchange_back, meaning_renamed, types_renamed, used_times, all_sides_times, made_times, apart_renamed}

-- the type of a name under binders is that of what it stands for
use_types : (i : Imports) (g : Binders) (x : Name) → or_com (type_at i g x) ≡ node_type i (types_of g) (use_of (names_of g) x)
use_types i [] x = refl
use_types i (b ∷ g) x =
    name_cases b.name x (λ e t. rw t refl)
    (λ other f. rw f (use_types i g x ∙ further (binder_of (names_of g) x)))
  where
    further : (o : Option ℕ) → node_type i (types_of g) (bound_or_import x o) ≡ node_type i (b.ty ∷ types_of g) (bound_or_import x (one_further o))
    further None = refl
    further (Some n) = refl

-- each term that is numbered is
numbered_good : (i : Imports) (g : Binders) (n : ℕ) (tree : Tree) → Good i g n (term_of (names_of g) tree) (numbered i g n tree)
numbered_good i g n (trees.Skip s) = closed_good i g n Com terms.Skip refl
numbered_good i g n (trees.Lit s v w) = closed_good i g n (Exp w) (terms.Lit v w) refl
numbered_good i g n (trees.Use s x) = use_good i g n (or_com (type_at i g x)) x (use_types i g x)
numbered_good i g n (trees.Lam s x a t m) = fun_good i g n x a _ _ (numbered_good i (record { name = x; ty = a } ∷ g) n m)
numbered_good i g n (trees.New s x w t m) = new_good i g n x w _ _ (numbered_good i (record { name = x; ty = Var w } ∷ g) n m)
numbered_good i g n (trees.Array s x l u w t m) =
    array_good i g n x l w _ _ (numbered_good i (record { name = x; ty = array_type l w } ∷ g) n m)
numbered_good i g n (trees.App s l r) = two_good i g n OfApp _ _ _ _ (numbered_good i g n l) (numbered_good i g _ r)
numbered_good i g n (trees.Both s l r) = two_good i g n OfBoth _ _ _ _ (numbered_good i g n l) (numbered_good i g _ r)
numbered_good i g n (trees.Fst s m) = one_good i g n OfFst _ _ (numbered_good i g n m)
numbered_good i g n (trees.Snd s m) = one_good i g n OfSnd _ _ (numbered_good i g n m)
numbered_good i g n (trees.Seq s l r) = two_good i g n OfSeq _ _ _ _ (numbered_good i g n l) (numbered_good i g _ r)
numbered_good i g n (trees.Par s l r) = two_good i g n OfPar _ _ _ _ (numbered_good i g n l) (numbered_good i g _ r)
numbered_good i g n (trees.If s l r m) =
    choice_good i g n _ _ _ _ _ _ (numbered_good i g n l) (numbered_good i g _ r) (numbered_good i g _ m)
numbered_good i g n (trees.While s l r) = two_good i g n OfWhile _ _ _ _ (numbered_good i g n l) (numbered_good i g _ r)
numbered_good i g n (trees.Assign s l r) = two_good i g n OfAssign _ _ _ _ (numbered_good i g n l) (numbered_good i g _ r)
numbered_good i g n (trees.Deref s m) = one_good i g n OfDeref _ _ (numbered_good i g n m)
numbered_good i g n (trees.Not s m) = one_good i g n OfNot _ _ (numbered_good i g n m)
numbered_good i g n (trees.Bin s op l r) = two_good i g n (OfBin (op_of op)) _ _ _ _ (numbered_good i g n l) (numbered_good i g _ r)

-- a name of names
abbrev IsOpen : Name → List Open → Type 0
IsOpen x os = (k : ℕ) × (number_in os x ≡ Some k)

open_merged : (x : Name) (os ps : List Open) (n : ℕ) → IsOpen x (merged_names os ps n) → IsOpen x os ⊎ IsOpen x ps
open_merged x [] ps n h = inr h
open_merged x (o ∷ os) ps n h =
    looked (number_in ps o.name) h (open_merged x os (others o.name ps) (next_if (number_in ps o.name) n))
  where
    looked : (r : Option ℕ) → IsOpen x (outside r n o ∷ merged_names os (others o.name ps) (next_if r n))
        → (IsOpen x (merged_names os (others o.name ps) (next_if r n)) → IsOpen x os ⊎ IsOpen x (others o.name ps))
        → IsOpen x (o ∷ os) ⊎ IsOpen x ps
    looked None q rest =
        name_cases o.name x (λ e t. inl (o.number, rw t refl))
        (λ other f. elim (rest (q.0, sym (rw f refl) ∙ q.1)) [
          | inl a ↦ inl (a.0, rw f a.1)
          | inr b ↦ inr (b.0, sym (number_others o.name x ps other) ∙ b.1)
        ])
    looked (Some b) q rest =
        name_cases o.name x (λ e t. inl (o.number, rw t refl))
        (λ other f. elim (rest (q.0, sym (rw f refl) ∙ q.1)) [
          | inl a ↦ inl (a.0, rw f a.1)
          | inr c ↦ inr (c.0, sym (number_others o.name x ps other) ∙ c.1)
        ])

open_others : (x y : Name) (os : List Open) → IsOpen y (others x os) → (x ≡ y → ⊥) × IsOpen y os
open_others x y os h =
    name_cases x y
    (λ e t.
    let z : None ≡ Some h.0 = sym (subst (λ (v : Name). number_in (others x os) v ≡ None) e (lacks_none x (others x os) (lacks_others x os))) ∙ h.1 in
    absurd (cc))
    (λ other f. (other, (h.0, sym (number_others x y os other) ∙ h.1)))

-- a name of an import
abbrev IsKnown : Imports → Name → Type 0
IsKnown i x = (t : Type') × (import_type i x ≡ Some t)

-- what is open in a typed term, and has no binder around it, is an import
known : (i : Imports) (g : Binders) (n : ℕ) (tree : Tree) (t : Type') → Typed i (types_of g) (term_of (names_of g) tree) t
    → (x : Name) → IsOpen x (numbered i g n tree).names → binder_of (names_of g) x ≡ None → IsKnown i x
known i g n (trees.Skip s) t h x o b = let z : None ≡ Some o.0 = o.1 in absurd (cc)
known i g n (trees.Lit s k w) t h x o b = let z : None ≡ Some o.0 = o.1 in absurd (cc)
known i g n (trees.Use s y) t h x o b =
    name_cases y x
    (λ e u.
    let k : Typed i (types_of g) (use_of (names_of g) x) t = subst (λ (v : Name). Typed i (types_of g) (use_of (names_of g) v) t) e h in
    (t, subst (λ (q : Option ℕ). Typed i (types_of g) (bound_or_import x q) t) b k))
    (λ other f. let z : None ≡ Some o.0 = sym (rw f refl) ∙ o.1 in absurd (cc))
known i g n (trees.Lam s y a u m) t h x o b =
    let p = open_others y x _ o in
    known i (record { name = y; ty = a } ∷ g) n m h.0 h.2 x p.1 (rw (other_false y x p.0, b) refl)
known i g n (trees.New s y w u m) t h x o b =
    let p = open_others y x _ o in
    known i (record { name = y; ty = Var w } ∷ g) n m t h.2 x p.1 (rw (other_false y x p.0, b) refl)
known i g n (trees.Array s y l u w v m) t h x o b =
    let p = open_others y x _ o in
    known i (record { name = y; ty = array_type l w } ∷ g) n m t h.3 x p.1 (rw (other_false y x p.0, b) refl)
known i g n (trees.App s l r) t h x o b =
    elim (open_merged x _ _ _ o) [ inl p ↦ known i g n l _ h.1 x p b | inr p ↦ known i g _ r _ h.2 x p b ]
known i g n (trees.Both s l r) t h x o b =
    elim (open_merged x _ _ _ o) [ inl p ↦ known i g n l _ h.3 x p b | inr p ↦ known i g _ r _ h.4 x p b ]
known i g n (trees.Fst s m) t h x o b = known i g n m _ h.1 x o b
known i g n (trees.Snd s m) t h x o b = known i g n m _ h.1 x o b
known i g n (trees.Seq s l r) t h x o b =
    elim (open_merged x _ _ _ o) [ inl p ↦ known i g n l _ h.1 x p b | inr p ↦ known i g _ r _ h.2 x p b ]
known i g n (trees.Par s l r) t h x o b =
    elim (open_merged x _ _ _ o) [ inl p ↦ known i g n l _ h.1 x p b | inr p ↦ known i g _ r _ h.2 x p b ]
known i g n (trees.If s l r m) t h x o b =
    let first : Result = numbered i g n l in
    let second : Result = numbered i g first.next r in
    let third : Result = numbered i g (inner_next first second) m in
    elim (open_merged x (inner_names first second) third.names third.next o) [
      | inl q ↦ elim (open_merged x first.names second.names second.next q) [
        | inl p ↦ known i g n l (Exp 1) h.1 x p b
        | inr p ↦ known i g first.next r t h.2 x p b
      ]
      | inr p ↦ known i g (inner_next first second) m t h.3 x p b
    ]
known i g n (trees.While s l r) t h x o b =
    elim (open_merged x _ _ _ o) [ inl p ↦ known i g n l _ h.1 x p b | inr p ↦ known i g _ r _ h.2 x p b ]
known i g n (trees.Assign s l r) t h x o b =
    elim (open_merged x _ _ _ o) [ inl p ↦ known i g n l _ h.2 x p b | inr p ↦ known i g _ r _ h.3 x p b ]
known i g n (trees.Deref s m) t h x o b = known i g n m _ h.2 x o b
known i g n (trees.Not s m) t h x o b = known i g n m _ h.2 x o b
known i g n (trees.Bin s op l r) t h x o b =
    elim (open_merged x _ _ _ o) [ inl p ↦ known i g n l _ h.2 x p b | inr p ↦ known i g _ r _ h.3 x p b ]

next_number : (i : SeenImport) (is : List SeenImport) (x : Name) (p : ℕ) → bytes_eq i.name x ≡ false → import_number is x ≡ Some p
    → import_number (i ∷ is) x ≡ Some (1 + p)
next_number i is x p f e = rw (f, e) refl

-- an import has a place
place_exists : (is : List SeenImport) (x : Name) → IsKnown (map import_of is) x → (p : ℕ) × (import_number is x ≡ Some p)
place_exists [] x h = let z : None ≡ Some h.0 = h.1 in absurd (cc)
place_exists (i ∷ is) x h =
    name_cases i.name x (λ e t. (0, rw t refl))
    (λ other f.
    let q : import_type (map import_of is) x ≡ Some h.0 = sym (rw f refl) ∙ h.1 in
    let r : (p : ℕ) × (import_number is x ≡ Some p) = place_exists is x (h.0, q) in
    (1 + r.0, next_number i is x r.0 f r.1))

-- and there it is
place_at : (is : List SeenImport) (x : Name) (p : ℕ) → import_number is x ≡ Some p
    → (p < length is) × (import_at (map import_of is) p ≡ terms.Import x)
place_at [] x p h = cc
place_at (i ∷ is) x p h =
    name_cases i.name x
    (λ e t.
    let z : Some 0 ≡ Some p = sym (rw t refl) ∙ h in
    let first : 0 ≡ p = cc in
    subst (λ (q : ℕ). (q < length (i ∷ is)) × (import_at (map import_of (i ∷ is)) q ≡ terms.Import x)) first (omega arith, ap terms.Import e))
    (λ other f. looked (import_number is x) refl (sym (rw f refl) ∙ h) (λ q k. place_at is x q k))
  where
    looked : (r : Option ℕ) → import_number is x ≡ r → raised 1 r ≡ Some p
        → ((q : ℕ) → import_number is x ≡ Some q → (q < length is) × (import_at (map import_of is) q ≡ terms.Import x))
        → (p < length (i ∷ is)) × (import_at (map import_of (i ∷ is)) p ≡ terms.Import x)
    looked None e k rest = cc
    looked (Some q) e k rest =
        let same : 1 + q ≡ p = cc in
        let next : suc q ≡ p = omega (arith, same) in
        let r = rest q e in
        subst (λ (v : ℕ). (v < length (i ∷ is)) × (import_at (map import_of (i ∷ is)) v ≡ terms.Import x)) next (omega (arith, r.0), r.1)

-- the exchange of a number with a place
abbrev swapped : Option ℕ → ℕ → ℕ → ℕ
swapped None n k = k
swapped (Some p) n k = exchanged n p k

-- the meaning before numbers are placed, of which one is given after
abbrev pulled : List SeenImport → List Open → Meaning → Meaning
pulled is [] env = env
pulled is (o ∷ os) env = λ k. pulled is os env (swapped (import_number is o.name) o.number k)

placed_meaning : (is : List SeenImport) (os : List Open) (node : Numbered) (env : Meaning)
    → meaning env (placed is os node) ≡ meaning (pulled is os env) node
placed_meaning is [] node env = refl
placed_meaning is (o ∷ os) node env =
    placed_meaning is os (with_place (import_number is o.name) o.number node) env ∙ one (import_number is o.name)
  where
    one : (r : Option ℕ) → meaning (pulled is os env) (with_place r o.number node) ≡ meaning (λ k. pulled is os env (swapped r o.number k)) node
    one None = refl
    one (Some p) = meaning_renamed (exchanged o.number p) (exchange_back o.number p) (pulled is os env) node

placed_types : (is : List SeenImport) (os : List Open) (node : Numbered) (i : Imports) (g : List Type') (env : Meaning)
    → HasTypes i g (pulled is os env) node → HasTypes i g env (placed is os node)
placed_types is [] node i g env h = h
placed_types is (o ∷ os) node i g env h =
    placed_types is os (with_place (import_number is o.name) o.number node) i g env (one (import_number is o.name) h)
  where
    one : (r : Option ℕ) → HasTypes i g (λ k. pulled is os env (swapped r o.number k)) node
        → HasTypes i g (pulled is os env) (with_place r o.number node)
    one None k = k
    one (Some p) k = types_renamed (exchanged o.number p) (exchange_back o.number p) i g (pulled is os env) node k

placed_apart : (is : List SeenImport) (os : List Open) (node : Numbered) → SidesApart node → SidesApart (placed is os node)
placed_apart is [] node h = h
placed_apart is (o ∷ os) node h = placed_apart is os (with_place (import_number is o.name) o.number node) (one (import_number is o.name))
  where
    one : (r : Option ℕ) → SidesApart (with_place r o.number node)
    one None = h
    one (Some p) = apart_renamed (exchanged o.number p) (exchange_back o.number p) node h

-- how often a number is open, made, used and a side: once at most, and no place of an import is open or made
abbrev Rooted : ℕ → List Open → Numbered → Type 0
Rooted first os node =
    (k : ℕ) → (times k (numbers os) + times k (made node) ≤ 1) × (times k (used node) ≤ 1) × (times k (all_sides node) ≤ times k (used node))
    × ((times k (numbers os) + times k (made node) ≡ 0) ⊎ (first ≤ k))

placed_rooted : (is : List SeenImport) (os : List Open) (node : Numbered) → Rooted (length is) os node → Rooted (length is) [] (placed is os node)
placed_rooted is [] node h = h
placed_rooted is (o ∷ os) node h =
    placed_rooted is os (with_place (import_number is o.name) o.number node) (one (import_number is o.name) refl)
  where
    one : (r : Option ℕ) → import_number is o.name ≡ r → Rooted (length is) os (with_place r o.number node)
    one None e k = let q = h k in (omega (arith, q.0), q.1, q.2, elim q.3 [ inl z ↦ inl (omega (arith, z)) | inr l ↦ inr l ])
    one (Some p) e k =
        let f : ℕ → ℕ = exchanged o.number p in
        let m = made_times f (exchange_back o.number p) k node in
        let u = used_times f (exchange_back o.number p) k node in
        let s = all_sides_times f (exchange_back o.number p) k node in
        let q = h (f k) in
        let at = placing p (place_at is o.name p e).0 k in
        (omega (arith, at.0, m), omega (arith, q.1, u), omega (arith, q.2, u, s), elim at.1 [ inl z ↦ inl (omega (arith, z, m)) | inr l ↦ inr l ])
      where
        placing : (p : ℕ) → p < length is → (k : ℕ)
            → (times k (numbers os) + times (exchanged o.number p k) (made node) ≤ 1)
            × ((times k (numbers os) + times (exchanged o.number p k) (made node) ≡ 0) ⊎ (length is ≤ k))
        placing p low k =
            let here = h o.number in let same = times_same o.number (numbers os) in
            let old : length is ≤ o.number = elim here.3 [ inl z ↦ absurd (omega (arith, z, same)) | inr l ↦ l ] in
            let there = h p in
            let none : times p (numbers (o ∷ os)) + times p (made node) ≡ 0 = elim there.3 [ inl z ↦ z | inr l ↦ absurd (omega (arith, l, low)) ] in
            number_cases k o.number
            (λ e t.
            let gone : times k (numbers os) ≡ 0 = subst (λ (j : ℕ). times j (numbers os) ≡ 0) (sym e) (omega (arith, here.0, same)) in
            rw t (omega (arith, gone, none), inr (omega (arith, old, e))))
            (λ other f.
            number_cases k p
            (λ e t.
            let gone : times k (numbers os) ≡ 0 = subst (λ (j : ℕ). times j (numbers os) ≡ 0) (sym e) (omega (arith, none)) in
            rw (f, t) (omega (arith, gone, here.0, same), inl (omega (arith, gone, here.0, same))))
            (λ differs g.
            let q = h k in
            rw (f, g) (omega (arith, q.0), elim q.3 [ inl z ↦ inl (omega (arith, z)) | inr l ↦ inr l ])))

-- a place is no other name's, and no number
pulled_place : (is : List SeenImport) (os : List Open) (env : Meaning) (x : Name) (p : ℕ) → import_number is x ≡ Some p
    → Lacks x os → ((k : ℕ) → (times k (numbers os) ≡ 0) ⊎ (length is ≤ k)) → pulled is os env p ≡ env p
pulled_place is [] env x p h l far = refl
pulled_place is (o ∷ os) env x p h l far =
    ap (pulled is os env) (stays (import_number is o.name) refl)
    ∙ pulled_place is os env x p h l.1 (λ k. elim (far k) [ inl z ↦ inl (omega (arith, z)) | inr q ↦ inr q ])
  where
    stays : (r : Option ℕ) → import_number is o.name ≡ r → swapped r o.number p ≡ p
    stays None e = refl
    stays (Some q) e =
        let a = place_at is x p h in let b = place_at is o.name q e in
        let old : length is ≤ o.number = elim (far o.number) [ inl z ↦ absurd (omega (arith, z, times_same o.number (numbers os))) | inr v ↦ v ] in
        let other : p ≢ q = λ same.
        let one : terms.Import o.name ≡ terms.Import x = sym b.1 ∙ (subst (λ (v : ℕ). import_at (map import_of is) v ≡ terms.Import x) same a.1) in
        l.0 (cc) in
        rw (ne_eqb p o.number (λ z. omega (arith, z, old, a.0)), ne_eqb p q other) refl

-- before the numbers are placed, each name's number stands for its import
pulled_gives : (is : List SeenImport) (os : List Open) → Differ os
    → ((k : ℕ) → times k (numbers os) ≤ 1) → ((k : ℕ) → (times k (numbers os) ≡ 0) ⊎ (length is ≤ k))
    → ((x : Name) → IsOpen x os → (p : ℕ) × (import_number is x ≡ Some p))
    → Gives (use_of []) os (pulled is os (import_at (map import_of is)))
pulled_gives is [] d once far all x k h = cc
pulled_gives is (o ∷ os) d once far all x k h =
    name_cases o.name x
    (λ e t.
    let z : Some o.number ≡ Some k = sym (rw t refl) ∙ h in
    let number : o.number ≡ k = cc in
    let p = all o.name (o.number, rw (same_bytes_eq o.name o.name refl) refl) in
    let a = place_at is o.name p.0 p.1 in
    subst (λ (j : ℕ). pulled is (o ∷ os) (import_at (map import_of is)) j ≡ terms.Import x) number
    (ap (λ (r : Option ℕ). pulled is os (import_at (map import_of is)) (swapped r o.number o.number)) p.1
    ∙ (ap (pulled is os (import_at (map import_of is))) (to_place p.0)
    ∙ (pulled_place is os (import_at (map import_of is)) o.name p.0 p.1 d.0 (λ v. elim (far v) [ inl y ↦ inl (omega (arith, y)) | inr q ↦ inr q ])
    ∙ (a.1 ∙ ap terms.Import e)))))
    (λ other f.
    let q : number_in os x ≡ Some k = sym (rw f refl) ∙ h in
    let there = number_times os x k q in
    let new : length is ≤ k = elim (far k) [ inl y ↦ absurd (omega (arith, y, there)) | inr v ↦ v ] in
    let ne : k ≢ o.number = λ z. let w : 0 < times o.number (numbers os) = subst (λ (j : ℕ). 0 < times j (numbers os)) z there in
    omega (arith, w, once o.number, times_same o.number (numbers os)) in
    ap (pulled is os (import_at (map import_of is))) (stays (import_number is o.name) refl k new ne)
    ∙ pulled_gives is os d.1 (λ v. omega (arith, once v)) (λ v. elim (far v) [ inl y ↦ inl (omega (arith, y)) | inr w ↦ inr w ])
    (λ y w. all y (still y w)) x k q)
  where
    to_place : (p : ℕ) → exchanged o.number p o.number ≡ p
    to_place p = rw (eq-eqb o.number o.number refl) refl

    stays : (r : Option ℕ) → import_number is o.name ≡ r → (k : ℕ) → length is ≤ k → k ≢ o.number → swapped r o.number k ≡ k
    stays None e k new ne = refl
    stays (Some p) e k new ne =
        let a = place_at is o.name p e in rw (ne_eqb k o.number ne, ne_eqb k p (λ z. omega (arith, z, a.0, new))) refl

    still : (y : Name) → IsOpen y os → IsOpen y (o ∷ os)
    still y w = name_cases o.name y (λ e t. (o.number, rw t refl)) (λ other f. (w.0, rw f w.1))

-- the term that is numbered and placed stands for the program
pub stands : (m : SeenModule) (t : Type') → Typed (program_of m).imports [] (program_of m).body t
    → StandsFor (program_of m) (typed_term m)
stands m t typed =
    record {
      body = placed_meaning m.imports r.names r.node (import_at i) ∙ good.term (pulled m.imports r.names (import_at i)) gives;
      types = placed_types m.imports r.names r.node i [] (import_at i) (good.types (pulled m.imports r.names (import_at i)) gives);
      made_once = λ k. omega (arith, (rooted k).0);
      no_import = λ k h.
          elim (rooted k).3 [ inl z ↦ absurd (omega (arith, z, h)) | inr l ↦ subst (λ (j : ℕ). j ≤ k) (sym (length-map m.imports import_of)) l ];
      used_once = λ k. (rooted k).1;
      sides_used = λ k h. omega (arith, (rooted k).1, (rooted k).2, h);
      apart = placed_apart m.imports r.names r.node good.apart;
    }
  where
    i : Imports
    i = map import_of m.imports

    r : Result
    r = numbered i [] (length m.imports) (tree_of m.body.form m.body.span)

    good : Good i [] (length m.imports) (program_of m).body r
    good = numbered_good i [] (length m.imports) (tree_of m.body.form m.body.span)

    far : (k : ℕ) → (times k (numbers r.names) ≡ 0) ⊎ (length m.imports ≤ k)
    far k = elim (good.counts k).3 [ inl z ↦ inl (omega (arith, z)) | inr l ↦ inr l.0 ]

    gives : Gives (use_of []) r.names (pulled m.imports r.names (import_at i))
    gives =
        pulled_gives m.imports r.names good.differ (λ k. omega (arith, (good.counts k).0)) far
        (λ x o. place_exists m.imports x (known i [] (length m.imports) (tree_of m.body.form m.body.span) t typed x o refl))

    rooted : Rooted (length m.imports) [] (placed m.imports r.names r.node)
    rooted =
        placed_rooted m.imports r.names r.node
        (λ k. let c = good.counts k in
        (c.0, c.1, omega (arith, c.2), elim c.3 [ inl z ↦ inl (omega (arith, z)) | inr l ↦ inr l.0 ]))
