-- A term that is numbered keeps its meaning and its types, and each number is made once and used at most once.
use Rattle.std.specs.Prelude.{◌≡◌, ◌≢◌, ◌⊎◌, ℕ, ◌+◌, ◌<◌, ◌≤◌, List, [], ◌∷◌, ◌++◌, false, Option, Some, None}
use Rattle.std.specs.Str.{bytes_eq}
use Rattle.std.proofs.Common.{arith, refl, sym, ap, subst, ◌∙◌, inl, inr}
use Rattle.std.proofs.lemmas.Bool.{eq-eqb, ne_eqb}
use Rattle.gos_types.specs.Types.{Type', Var, Fun}
use Rattle.gos_types.proofs.BytesLemmas.{same_bytes_eq}
use Rattle.gos_model.specs.Terms as terms
use Rattle.gos_model.specs.Terms.{Name, Term}
use Rattle.gos_model.specs.Typing.{Imports, array_type}
use Rattle.gos_model.specs.Weight.{node_type}
use Rattle.gos_model.specs.Sources.{use_of, binder_of, bound_or_import, one_further}
use Rattle.gos_model.proofs.NumberLemmas.{number_cases}
use Rattle.gos_check.specs.declared.linear.Split.{Split}
use Rattle.gos_check.specs.declared.opens.Open.{Open}
use Rattle.gos_check.specs.Scopes.{Binders}
use Rattle.gos_check.specs.inner.Walked.{names_of, types_of}
use Rattle.gos_check.specs.Nodes.{Binding, OfFun, OfNew, OfArray, OneForm, OfFst, OfSnd, OfDeref, OfNot, TwoForm, OfApp, OfBoth, OfSeq, OfPar, OfWhile, OfAssign, OfBin, Numbered, Meaning, shifted, below, inside, meaning, HasTypes, bound_type, binder_term, one_term, two_term, type_of_node}
use Rattle.gos_check.specs.Linearity.{times, split_in, sides, used, all_sides, made, IsOneOf, Comes, itself, by_left, by_right, IsSplitBetween, SidesApart}
use Rattle.gos_check.specs.Opens.{number_in, others, merged_splits, merged_names, merged_next, binder_number, binder_next}
use Rattle.gos_check.specs.Numbering.{one_type, two_type, binder_type, Result, closed_result, use_result, binder_result, one_result, two_result, inner_splits, inner_names, inner_next, choice_result}
use Rattle.gos_check.proofs.NameLemmas.{name_cases}
use Rattle.gos_check.proofs.TimesLemmas.{times_same, times_other, times-append, split_in-append, sides-append, inside-append, inside_other}
use Rattle.gos_check.proofs.MergeLemmas.{numbers, Differ, Gives, Fits, differ_others, number_others, number_times, taken, others_count, merged_differ, merged_upto, merged_fresh, merged_count, merged_gives, split_where}

-- a number is none of some, or it is in an interval
abbrev pub Lies : ℕ → ℕ → ℕ → ℕ → Type 0
Lies low high total k = (total ≡ 0) ⊎ ((low ≤ k) × (k < high))

-- How often a number k is open (o), made (m), used (u) and a side (s): it is open or made once at most, used once at most,
-- and used where it is open or a side; and it lies in the interval where it is any of these.
abbrev pub Counts : ℕ → ℕ → ℕ → ℕ → ℕ → ℕ → ℕ → Type 0
Counts low high k o m u s = (o + m ≤ 1) × (u ≤ 1) × (o + s ≤ u) × Lies low high (o + m + u) k

-- two parts, one behind the other, and what is new behind both
two_counts : (low mid high end k : ℕ) (o1 m1 u1 s1 o2 m2 u2 s2 o f d : ℕ)
    → Counts low mid k o1 m1 u1 s1 → Counts mid high k o2 m2 u2 s2 → (f ≡ 0) ⊎ ((f ≡ 1) × (high ≤ k) × (k < end))
    → o1 + o2 + f ≡ o + d → low ≤ mid → mid ≤ high → high ≤ end
    → Counts low end k o (d + (m1 + m2)) (f + (u1 + u2)) (d + (s1 + s2))
two_counts low mid high end k o1 m1 u1 s1 o2 m2 u2 s2 o f d a b c e x y z = looked a.3 b.3 c
  where
    looked : Lies low mid (o1 + m1 + u1) k → Lies mid high (o2 + m2 + u2) k → (f ≡ 0) ⊎ ((f ≡ 1) × (high ≤ k) × (k < end))
        → Counts low end k o (d + (m1 + m2)) (f + (u1 + u2)) (d + (s1 + s2))
    looked (inl p) (inl q) (inl r) =
        (omega (arith, p, q, r, e), omega (arith, p, q, r), omega (arith, p, q, r, e, a.2, b.2), inl (omega (arith, p, q, r, e)))
    looked (inl p) (inl q) (inr r) =
        (omega (arith, p, q, r.0, e), omega (arith, p, q, r.0), omega (arith, p, q, r.0, e, a.2, b.2), inr (omega (arith, r.1, x, y), r.2))
    looked (inl p) (inr q) (inl r) =
        (omega (arith, p, b.0, r, e), omega (arith, p, b.1, r), omega (arith, p, b.2, r, e, a.2), inr (omega (arith, q.0, x), omega (arith, q.1, z)))
    looked (inl p) (inr q) (inr r) = absurd (omega (arith, q.1, r.1))
    looked (inr p) (inl q) (inl r) =
        (omega (arith, a.0, q, r, e), omega (arith, a.1, q, r), omega (arith, a.2, q, r, e, b.2), inr (p.0, omega (arith, p.1, y, z)))
    looked (inr p) (inl q) (inr r) = absurd (omega (arith, p.1, r.1, y))
    looked (inr p) (inr q) r = absurd (omega (arith, p.1, q.0))

-- equal numbers have equal counts
counts_same : (low high k o m u s m' u' s' : ℕ) → m ≡ m' → u ≡ u' → s ≡ s' → Counts low high k o m' u' s' → Counts low high k o m u s
counts_same low high k o m u s m' u' s' p q r c =
    subst (λ (j : ℕ). Counts low high k o j u s) (sym p)
    (subst (λ (j : ℕ). Counts low high k o m' j s) (sym q) (subst (λ (j : ℕ). Counts low high k o m' u' j) (sym r) c))

times-two : (k : ℕ) (a b c : List ℕ) → times k (a ++ (b ++ c)) ≡ times k a + (times k b + times k c)
times-two k a b c = let p = times-append k a (b ++ c) in let q = times-append k b c in omega (arith, p, q)

times-three : (k : ℕ) (a b c d e : List ℕ)
    → times k ((a ++ b) ++ (c ++ (d ++ e))) ≡ times k a + ((times k b + (times k c + times k d)) + times k e)
times-three k a b c d e =
    let p = times-append k (a ++ b) (c ++ (d ++ e)) in let q = times-append k a b in let r = times-two k c d e in
    omega (arith, p, q, r)

-- open numbers of two parts, one behind the other, fit
fits_of : (low mid high : ℕ) (os ps : List Open) (m1 u1 s1 m2 u2 s2 : ℕ → ℕ)
    → ((k : ℕ) → Counts low mid k (times k (numbers os)) (m1 k) (u1 k) (s1 k))
    → ((k : ℕ) → Counts mid high k (times k (numbers ps)) (m2 k) (u2 k) (s2 k)) → mid ≤ high → Fits os ps high
fits_of low mid high os ps m1 u1 s1 m2 u2 s2 a b up k = looked (a k) (b k)
  where
    looked : Counts low mid k (times k (numbers os)) (m1 k) (u1 k) (s1 k) → Counts mid high k (times k (numbers ps)) (m2 k) (u2 k) (s2 k)
        → (times k (numbers os) + times k (numbers ps) ≤ 1) × ((times k (numbers os) + times k (numbers ps) ≡ 0) ⊎ (k < high))
    looked (a0, a1, a2, inl z) (b0, b1, b2, inl y) = (omega (arith, z, y), inl (omega (arith, z, y)))
    looked (a0, a1, a2, inl z) (b0, b1, b2, inr y) = (omega (arith, z, b0), inr y.1)
    looked (a0, a1, a2, inr z) (b0, b1, b2, inl y) = (omega (arith, a0, y), inr (omega (arith, z.1, up)))
    looked (a0, a1, a2, inr z) (b0, b1, b2, inr y) = absurd (omega (arith, z.1, y.0))

-- what holds of a numbered term
pub record Good (i : Imports) (g : Binders) (n : ℕ) (m : Term) (r : Result) : Type 0 where
  pub upto : n ≤ r.next
  pub counts : (k : ℕ)
      → Counts n r.next k (times k (numbers r.names)) (times k (made r.node)) (times k (used r.node)) (times k (all_sides r.node))
  pub differ : Differ r.names
  pub term : (env : Meaning) → Gives (use_of (names_of g)) r.names env → meaning env r.node ≡ m
  pub types : (env : Meaning) → Gives (use_of (names_of g)) r.names env → HasTypes i (types_of g) env r.node
  pub ty : type_of_node r.node ≡ node_type i (types_of g) m
  pub apart : SidesApart r.node

-- a number that is used lies in the interval
used_lies : (i : Imports) (g : Binders) (n : ℕ) (term : Term) (r : Result) → Good i g n term r
    → (k : ℕ) → 0 < times k (used r.node) → (n ≤ k) × (k < r.next)
used_lies i g n term r h k u = elim (h.counts k).3 [ inl z ↦ absurd (omega (arith, z, u)) | inr l ↦ l ]

-- so does one that is open
open_lies : (i : Imports) (g : Binders) (n : ℕ) (term : Term) (r : Result) → Good i g n term r
    → (k : ℕ) → 0 < times k (numbers r.names) → (n ≤ k) × (k < r.next)
open_lies i g n term r h k u = elim (h.counts k).3 [ inl z ↦ absurd (omega (arith, z, u)) | inr l ↦ l ]

-- the names of two parts, one behind the other, fit
fits : (i : Imports) (g : Binders) (n : ℕ) (a b : Term) (l r : Result) → Good i g n a l → Good i g l.next b r → Fits l.names r.names r.next
fits i g n a b l r h q =
    fits_of n l.next r.next l.names r.names (λ k. times k (made l.node)) (λ k. times k (used l.node)) (λ k. times k (all_sides l.node))
    (λ k. times k (made r.node)) (λ k. times k (used r.node)) (λ k. times k (all_sides r.node)) h.counts q.counts q.upto

-- what comes from a number by splits has what the splits keep
pub comes_keeps : (P : ℕ → Type 0) (ss : List Split) → ((s : Split) → IsOneOf s ss → P s.of → P s.left × P s.right)
    → (n a : ℕ) → Comes ss n a → P n → P a
comes_keeps P ss keeps n a (itself _) p = p
comes_keeps P ss keeps n a (by_left s _ h c) p = comes_keeps P ss keeps s.left a c (keeps s h p).0
comes_keeps P ss keeps n a (by_right s _ h c) p = comes_keeps P ss keeps s.right a c (keeps s h p).1

-- no splits lie between nothing
none_between : (part : Numbered) → IsSplitBetween [] part
none_between part s a b h = absurd h

-- a term without names
pub closed_good : (i : Imports) (g : Binders) (n : ℕ) (t : Type') (c : Term) → t ≡ node_type i (types_of g) c → Good i g n c (closed_result t c n)
closed_good i g n t c e =
    record {
      upto = omega arith;
      counts = λ k. (omega arith, omega arith, omega arith, inl refl);
      differ = tt;
      term = λ env h. refl;
      types = λ env h. e;
      ty = e;
      apart = tt;
    }

-- a name
pub use_good : (i : Imports) (g : Binders) (n : ℕ) (t : Type') (x : Name) → t ≡ node_type i (types_of g) (use_of (names_of g) x)
    → Good i g n (use_of (names_of g) x) (use_result t x n)
use_good i g n t x e =
    record {
      upto = omega arith;
      counts = λ k. number_cases n k
          (λ same f. rw f (omega arith, omega arith, omega arith, inr (omega (arith, same), omega (arith, same))))
          (λ other f. rw f (omega arith, omega arith, omega arith, inl (omega arith)));
      differ = (tt, tt);
      term = λ env h. h x n (rw (same_bytes_eq x x refl) refl);
      types = λ env h. e ∙ ap (node_type i (types_of g)) (sym (h x n (rw (same_bytes_eq x x refl) refl)));
      ty = e;
      apart = tt;
    }

one_law : (i : Imports) (g : List Type') (f : OneForm) (a : Term) → node_type i g (one_term f a) ≡ one_type f (node_type i g a)
one_law i g OfFst a = refl
one_law i g OfSnd a = refl
one_law i g OfDeref a = refl
one_law i g OfNot a = refl

two_law : (i : Imports) (g : List Type') (f : TwoForm) (a b : Term) → node_type i g (two_term f a b) ≡ two_type f (node_type i g a) (node_type i g b)
two_law i g OfApp a b = refl
two_law i g OfBoth a b = refl
two_law i g OfSeq a b = refl
two_law i g OfPar a b = refl
two_law i g OfWhile a b = refl
two_law i g OfAssign a b = refl
two_law i g (OfBin op) a b = refl

-- a form of one part
pub one_good : (i : Imports) (g : Binders) (n : ℕ) (f : OneForm) (a : Term) (r : Result) → Good i g n a r → Good i g n (one_term f a) (one_result f r)
one_good i g n f a r h =
    let ty : one_type f (type_of_node r.node) ≡ node_type i (types_of g) (one_term f a) = ap (one_type f) h.ty ∙ sym (one_law i (types_of g) f a) in
    record {
      upto = h.upto;
      counts = h.counts;
      differ = h.differ;
      term = λ env e. ap (one_term f) (h.term env e);
      types = λ env e. (ty ∙ ap (λ (m : Term). node_type i (types_of g) (one_term f m)) (sym (h.term env e)), h.types env e);
      ty = ty;
      apart = (none_between r.node, h.apart);
    }

-- a form of two parts
pub two_good : (i : Imports) (g : Binders) (n : ℕ) (f : TwoForm) (a b : Term) (l r : Result) → Good i g n a l → Good i g l.next b r
    → Good i g n (two_term f a b) (two_result f l r)
two_good i g n f a b l r h q =
    let ss : List Split = merged_splits l.names r.names r.next in
    let inner : (env : Meaning) → Gives (use_of (names_of g)) (merged_names l.names r.names r.next) env
    → Gives (use_of (names_of g)) l.names (inside ss env) × Gives (use_of (names_of g)) r.names (inside ss env) =
    λ env e. merged_gives (use_of (names_of g)) l.names r.names r.next env h.differ q.differ (fits i g n a b l r h q) e in
    let ty : two_type f (type_of_node l.node) (type_of_node r.node) ≡ node_type i (types_of g) (two_term f a b) =
    (λ j. two_type f (h.ty j) (q.ty j)) ∙ sym (two_law i (types_of g) f a b) in
    let body : (env : Meaning) → Gives (use_of (names_of g)) (merged_names l.names r.names r.next) env
    → two_term f (meaning (inside ss env) l.node) (meaning (inside ss env) r.node) ≡ two_term f a b =
    λ env e. let p = inner env e in λ j. two_term f (h.term (inside ss env) p.0 j) (q.term (inside ss env) p.1 j) in
    record {
      upto = let u = merged_upto l.names r.names r.next in omega (arith, u, h.upto, q.upto);
      counts = λ k.
          counts_same n (merged_next l.names r.names r.next) k (times k (numbers (merged_names l.names r.names r.next))) _ _ _ _ _ _
          (times-two k (sides ss) (made l.node) (made r.node))
          (times-two k (split_in ss) (used l.node) (used r.node))
          (times-two k (sides ss) (all_sides l.node) (all_sides r.node))
          (two_counts n l.next r.next (merged_next l.names r.names r.next) k _ _ _ _ _ _ _ _ (times k (numbers (merged_names l.names r.names r.next)))
          (times k (split_in ss)) (times k (sides ss))
          (h.counts k) (q.counts k) (merged_fresh k l.names r.names r.next) (merged_count k l.names r.names r.next q.differ)
          h.upto q.upto (merged_upto l.names r.names r.next));
      differ = merged_differ l.names r.names r.next h.differ q.differ;
      term = body;
      types = λ env e. let p = inner env e in
          (ty ∙ ap (node_type i (types_of g)) (sym (body env e)), h.types (inside ss env) p.0, q.types (inside ss env) p.1);
      ty = ty;
      apart = (between_left, between_right, h.apart, q.apart);
    }
  where
    where_of : (s : Split) → IsOneOf s (merged_splits l.names r.names r.next)
        → (s.left < l.next) × (l.next ≤ s.right) × (s.right < r.next) × (r.next ≤ s.of)
    where_of s m =
        let w = split_where s l.names r.names r.next m in
        let x = open_lies i g n a l h s.left w.0 in let y = open_lies i g l.next b r q s.right w.1 in
        (x.1, y.0, y.1, w.2)

    left_side : (s : Split) (c : ℕ) → IsOneOf s (merged_splits l.names r.names r.next) → Comes (merged_splits l.names r.names r.next) s.left c → c < l.next
    left_side s c m comes =
        comes_keeps (λ (k : ℕ). k < l.next) (merged_splits l.names r.names r.next)
        (λ t o below. let w = where_of t o in absurd (omega (arith, below, w.3, q.upto))) s.left c comes (where_of s m).0

    right_side : (s : Split) (c : ℕ) → IsOneOf s (merged_splits l.names r.names r.next) → Comes (merged_splits l.names r.names r.next) s.right c
        → (l.next ≤ c) × (c < r.next)
    right_side s c m comes =
        comes_keeps (λ (k : ℕ). (l.next ≤ k) × (k < r.next)) (merged_splits l.names r.names r.next)
        (λ t o at. let w = where_of t o in absurd (omega (arith, at.1, w.3))) s.right c comes ((where_of s m).1, (where_of s m).2)

    between_left : IsSplitBetween (merged_splits l.names r.names r.next) l.node
    between_left s c d m x y u v =
        let z = used_lies i g n a l h d v in let w = right_side s d m y in omega (arith, z.1, w.0)

    between_right : IsSplitBetween (merged_splits l.names r.names r.next) r.node
    between_right s c d m x y u v =
        let z = used_lies i g l.next b r q c u in let w = left_side s c m x in omega (arith, z.0, w)

shift_use : (x : Name) (o : Option ℕ) → shifted (bound_or_import x o) ≡ bound_or_import x (one_further o)
shift_use x None = refl
shift_use x (Some n) = refl

-- below a binder its name stands for it, and each other name for what it stood for outside
binder_gives : (names : List Name) (x : Name) (os : List Open) (n : ℕ) (env : Meaning)
    → Differ os → ((k : ℕ) → times k (numbers os) ≤ 1) → ((k : ℕ) → 0 < times k (numbers os) → k < n)
    → Gives (use_of names) (others x os) env → Gives (use_of (x ∷ names)) os (below (binder_number (number_in os x) n) env)
binder_gives names x os n env d once old gives = looked (number_in os x) refl
  where
    other_name : (c k : ℕ) (y : Name) → (x ≡ y → ⊥) → bytes_eq x y ≡ false → number_in os y ≡ Some k → k ≢ c → below c env k ≡ use_of (x ∷ names) y
    other_name c k y other f q ne =
        let out : env k ≡ use_of names y = gives y k (number_others x y os other ∙ q) in
        rw (ne_eqb k c ne, f) (ap shifted out ∙ shift_use y (binder_of names y))

    looked : (r : Option ℕ) → number_in os x ≡ r → Gives (use_of (x ∷ names)) os (below (binder_number r n) env)
    looked None h y k q =
        name_cases x y
        (λ e t. let z : None ≡ Some k = sym (subst (λ (v : Name). number_in os v ≡ None) e h) ∙ q in cc)
        (λ other f. let l = old k (number_times os y k q) in other_name n k y other f q (λ z. omega (arith, z, l)))
    looked (Some c) h y k q =
        name_cases x y
        (λ e t.
        let z : Some c ≡ Some k = sym (subst (λ (v : Name). number_in os v ≡ Some c) e h) ∙ q in
        let same : k ≡ c = cc in
        rw (eq-eqb k c same, t) refl)
        (λ other f.
        other_name c k y other f q (λ z.
        let there : 0 < times k (numbers (others x os)) = number_times (others x os) y k (number_others x y os other ∙ q) in
        let there_c : 0 < times c (numbers (others x os)) = subst (λ (j : ℕ). 0 < times j (numbers (others x os))) z there in
        let fewer : times c (numbers (others x os)) + taken c (Some c) ≡ times c (numbers os) =
        subst (λ (o : Option ℕ). times c (numbers (others x os)) + taken c o ≡ times c (numbers os)) h (others_count c x os d) in
        let one : taken c (Some c) ≡ 1 = omega (arith, times_same c []) in
        omega (arith, there_c, fewer, one, once c)))

-- a binder
binder_good : (i : Imports) (g : Binders) (n : ℕ) (b : Binding) (x : Name) (a : Type') (m : Term) (r : Result)
    → bound_type b (binder_type b a (type_of_node r.node)) ≡ a
    → binder_type b a (type_of_node r.node) ≡ node_type i (types_of g) (binder_term b (binder_type b a (type_of_node r.node)) m)
    → Good i (record { name = x; ty = a } ∷ g) n m r
    → Good i g n (binder_term b (binder_type b a (type_of_node r.node)) m) (binder_result b x a r)
binder_good i g n b x a m r bound law h =
    record {
      upto = next_upto (number_in r.names x);
      counts = λ k. counted k (number_in r.names x) (others_count k x r.names h.differ) (h.counts k);
      differ = differ_others x r.names h.differ;
      term = λ env e. ap (binder_term b (binder_type b a (type_of_node r.node))) (h.term _ (inner env e));
      types = λ env e. (
        law ∙ ap (λ (t : Term). node_type i (types_of g) (binder_term b (binder_type b a (type_of_node r.node)) t)) (sym (h.term _ (inner env e))),
        subst (λ (t : Type'). HasTypes i (t ∷ types_of g) (below (binder_number (number_in r.names x) r.next) env) r.node) (sym bound) (h.types _ (inner env e)),
      );
      ty = law;
      apart = (none_between r.node, h.apart);
    }
  where
    inner : (env : Meaning) → Gives (use_of (names_of g)) (others x r.names) env
        → Gives (use_of (x ∷ names_of g)) r.names (below (binder_number (number_in r.names x) r.next) env)
    inner env e =
        binder_gives (names_of g) x r.names r.next env h.differ (λ k. omega (arith, (h.counts k).0))
        (λ k o. (open_lies i (record { name = x; ty = a } ∷ g) n m r h k o).1) e

    next_upto : (o : Option ℕ) → n ≤ binder_next o r.next
    next_upto None = omega (arith, h.upto)
    next_upto (Some j) = h.upto

    counted : (k : ℕ) (o : Option ℕ) → times k (numbers (others x r.names)) + taken k o ≡ times k (numbers r.names)
        → Counts n r.next k (times k (numbers r.names)) (times k (made r.node)) (times k (used r.node)) (times k (all_sides r.node))
        → Counts n (binder_next o r.next) k (times k (numbers (others x r.names))) (times k (binder_number o r.next ∷ made r.node))
        (times k (used r.node)) (times k (all_sides r.node))
    counted k None e (c0, c1, c2, inl z) =
        number_cases r.next k
        (λ same t. rw t (omega (arith, e, z), c1, omega (arith, e, c2), inr (omega (arith, same, h.upto), omega (arith, same))))
        (λ other f. rw f (omega (arith, e, z), c1, omega (arith, e, c2), inl (omega (arith, e, z))))
    counted k None e (c0, c1, c2, inr l) =
        let s : times k (r.next ∷ made r.node) ≡ times k (made r.node) = times_other k r.next (made r.node) (λ z. omega (arith, z, l.1)) in
        (omega (arith, e, s, c0), c1, omega (arith, e, c2), inr (l.0, omega (arith, l.1)))
    counted k (Some j) e (c0, c1, c2, inl z) =
        (omega (arith, e, c0), c1, omega (arith, e, c2), inl (omega (arith, e, z)))
    counted k (Some j) e (c0, c1, c2, inr l) =
        (omega (arith, e, c0), c1, omega (arith, e, c2), inr l)

-- a function
pub fun_good : (i : Imports) (g : Binders) (n : ℕ) (x : Name) (a : Type') (m : Term) (r : Result)
    → Good i (record { name = x; ty = a } ∷ g) n m r → Good i g n (terms.Lam a m) (binder_result OfFun x a r)
fun_good i g n x a m r h = binder_good i g n OfFun x a m r refl (ap (λ (t : Type'). Fun a t) h.ty) h

-- a block with a variable or with an array
pub new_good : (i : Imports) (g : Binders) (n : ℕ) (x : Name) (w : ℕ) (m : Term) (r : Result)
    → Good i (record { name = x; ty = Var w } ∷ g) n m r → Good i g n (terms.New w m) (binder_result (OfNew w) x (Var w) r)
new_good i g n x w m r h = binder_good i g n (OfNew w) x (Var w) m r refl h.ty h

pub array_good : (i : Imports) (g : Binders) (n : ℕ) (x : Name) (l w : ℕ) (m : Term) (r : Result)
    → Good i (record { name = x; ty = array_type l w } ∷ g) n m r → Good i g n (terms.NewArray l w m) (binder_result (OfArray l w) x (array_type l w) r)
array_good i g n x l w m r h = binder_good i g n (OfArray l w) x (array_type l w) m r refl h.ty h

one_of-append : (s : Split) (ss ts : List Split) → IsOneOf s (ss ++ ts) → IsOneOf s ss ⊎ IsOneOf s ts
one_of-append s [] ts h = inr h
one_of-append s (u ∷ ss) ts (inl e) = inl (inl e)
one_of-append s (u ∷ ss) ts (inr h) = elim (one_of-append s ss ts h) [ inl a ↦ inl (inr a) | inr b ↦ inr b ]

-- a choice
pub choice_good : (i : Imports) (g : Binders) (n : ℕ) (p q t : Term) (a b c : Result)
    → Good i g n p a → Good i g a.next q b → Good i g (inner_next a b) t c → Good i g n (terms.If p q t) (choice_result a b c)
choice_good i g n p q t a b c h j k =
    record {
      upto = omega (arith, h.upto, j.upto, k.upto, merged_upto a.names b.names b.next, merged_upto (inner_names a b) c.names c.next);
      counts = λ v.
          counts_same n (merged_next (inner_names a b) c.names c.next) v (times v (numbers (merged_names (inner_names a b) c.names c.next))) _ _ _ _ _ _
          (ap (λ (ns : List ℕ). times v (ns ++ (made a.node ++ (made b.node ++ made c.node)))) (sides-append (outer_splits) (inner_splits a b))
          ∙ times-three v (sides outer_splits) (sides (inner_splits a b)) (made a.node) (made b.node) (made c.node))
          (ap (λ (ns : List ℕ). times v (ns ++ (used a.node ++ (used b.node ++ used c.node)))) (split_in-append outer_splits (inner_splits a b))
          ∙ times-three v (split_in outer_splits) (split_in (inner_splits a b)) (used a.node) (used b.node) (used c.node))
          (ap (λ (ns : List ℕ). times v (ns ++ (all_sides a.node ++ (all_sides b.node ++ all_sides c.node)))) (sides-append outer_splits (inner_splits a b))
          ∙ times-three v (sides outer_splits) (sides (inner_splits a b)) (all_sides a.node) (all_sides b.node) (all_sides c.node))
          (two_counts n (inner_next a b) c.next (merged_next (inner_names a b) c.names c.next) v _ _ _ _ _ _ _ _
          (times v (numbers (merged_names (inner_names a b) c.names c.next))) (times v (split_in outer_splits)) (times v (sides outer_splits))
          (inner_counts v) (k.counts v) (merged_fresh v (inner_names a b) c.names c.next)
          (merged_count v (inner_names a b) c.names c.next k.differ)
          inner_upto k.upto (merged_upto (inner_names a b) c.names c.next));
      differ = merged_differ (inner_names a b) c.names c.next inner_differ k.differ;
      term = body;
      types = λ env e. (
        ty ∙ ap (node_type i (types_of g)) (sym (body env e)),
        h.types _ (gives_a env e),
        j.types _ (gives_b env e),
        k.types _ (gives_c env e),
      );
      ty = ty;
      apart = (between_a, between_b, between_c, h.apart, j.apart, k.apart);
    }
  where
    outer_splits : List Split
    outer_splits = merged_splits (inner_names a b) c.names c.next

    splits : List Split
    splits = outer_splits ++ inner_splits a b

    inner_differ : Differ (inner_names a b)
    inner_differ = merged_differ a.names b.names b.next h.differ j.differ

    inner_upto : n ≤ inner_next a b
    inner_upto = omega (arith, h.upto, j.upto, merged_upto a.names b.names b.next)

    inner_counts : (v : ℕ) → Counts n (inner_next a b) v (times v (numbers (inner_names a b)))
        (times v (sides (inner_splits a b)) + (times v (made a.node) + times v (made b.node)))
        (times v (split_in (inner_splits a b)) + (times v (used a.node) + times v (used b.node)))
        (times v (sides (inner_splits a b)) + (times v (all_sides a.node) + times v (all_sides b.node)))
    inner_counts v =
        two_counts n a.next b.next (inner_next a b) v _ _ _ _ _ _ _ _ (times v (numbers (inner_names a b)))
        (times v (split_in (inner_splits a b))) (times v (sides (inner_splits a b)))
        (h.counts v) (j.counts v) (merged_fresh v a.names b.names b.next) (merged_count v a.names b.names b.next j.differ)
        h.upto j.upto (merged_upto a.names b.names b.next)

    outer_fits : Fits (inner_names a b) c.names c.next
    outer_fits =
        fits_of n (inner_next a b) c.next (inner_names a b) c.names
        (λ v. times v (sides (inner_splits a b)) + (times v (made a.node) + times v (made b.node)))
        (λ v. times v (split_in (inner_splits a b)) + (times v (used a.node) + times v (used b.node)))
        (λ v. times v (sides (inner_splits a b)) + (times v (all_sides a.node) + times v (all_sides b.node)))
        (λ v. times v (made c.node)) (λ v. times v (used c.node)) (λ v. times v (all_sides c.node)) inner_counts k.counts k.upto

    outer : (env : Meaning) → Gives (use_of (names_of g)) (merged_names (inner_names a b) c.names c.next) env
        → Gives (use_of (names_of g)) (inner_names a b) (inside outer_splits env) × Gives (use_of (names_of g)) c.names (inside outer_splits env)
    outer env e = merged_gives (use_of (names_of g)) (inner_names a b) c.names c.next env inner_differ k.differ outer_fits e

    nested : (env : Meaning) → inside splits env ≡ inside (inner_splits a b) (inside outer_splits env)
    nested env = inside-append outer_splits (inner_splits a b) env

    both : (env : Meaning) → Gives (use_of (names_of g)) (merged_names (inner_names a b) c.names c.next) env
        → Gives (use_of (names_of g)) a.names (inside (inner_splits a b) (inside outer_splits env))
        × Gives (use_of (names_of g)) b.names (inside (inner_splits a b) (inside outer_splits env))
    both env e =
        merged_gives (use_of (names_of g)) a.names b.names b.next (inside outer_splits env) h.differ j.differ (fits i g n p q a b h j) (outer env e).0

    gives_a : (env : Meaning) → Gives (use_of (names_of g)) (merged_names (inner_names a b) c.names c.next) env
        → Gives (use_of (names_of g)) a.names (inside splits env)
    gives_a env e = subst (λ (v : Meaning). Gives (use_of (names_of g)) a.names v) (sym (nested env)) (both env e).0

    gives_b : (env : Meaning) → Gives (use_of (names_of g)) (merged_names (inner_names a b) c.names c.next) env
        → Gives (use_of (names_of g)) b.names (inside splits env)
    gives_b env e = subst (λ (v : Meaning). Gives (use_of (names_of g)) b.names v) (sym (nested env)) (both env e).1

    -- a number of the last part is no side of the splits of the first two
    later : (v : ℕ) → inner_next a b ≤ v → times v (sides (inner_splits a b)) ≡ 0
    later v up = elim (inner_counts v).3 [ inl z ↦ omega (arith, z) | inr l ↦ absurd (omega (arith, l.1, up)) ]

    gives_c : (env : Meaning) → Gives (use_of (names_of g)) (merged_names (inner_names a b) c.names c.next) env
        → Gives (use_of (names_of g)) c.names (inside splits env)
    gives_c env e =
        subst (λ (v : Meaning). Gives (use_of (names_of g)) c.names v) (sym (nested env))
        (λ x v o.
        let l = open_lies i g (inner_next a b) t c k v (number_times c.names x v o) in
        inside_other (inner_splits a b) (inside outer_splits env) v (later v l.0) ∙ (outer env e).1 x v o)

    body : (env : Meaning) → Gives (use_of (names_of g)) (merged_names (inner_names a b) c.names c.next) env
        → terms.If (meaning (inside splits env) a.node) (meaning (inside splits env) b.node) (meaning (inside splits env) c.node) ≡ terms.If p q t
    body env e =
        let x = h.term _ (gives_a env e) in let y = j.term _ (gives_b env e) in let z = k.term _ (gives_c env e) in
        λ v. terms.If (x v) (y v) (z v)

    ty : type_of_node b.node ≡ node_type i (types_of g) (terms.If p q t)
    ty = j.ty

    where_inner : (s : Split) → IsOneOf s (inner_splits a b)
        → (s.left < a.next) × (a.next ≤ s.right) × (s.right < b.next) × (b.next ≤ s.of) × (s.of < inner_next a b)
    where_inner s m =
        let w = split_where s a.names b.names b.next m in
        let x = open_lies i g n p a h s.left w.0 in let y = open_lies i g a.next q b j s.right w.1 in
        (x.1, y.0, y.1, w.2, w.3)

    where_outer : (s : Split) → IsOneOf s outer_splits
        → (s.left < inner_next a b) × (inner_next a b ≤ s.right) × (s.right < c.next) × (c.next ≤ s.of)
    where_outer s m =
        let w = split_where s (inner_names a b) c.names c.next m in
        let y = open_lies i g (inner_next a b) t c k s.right w.1 in
        let x : s.left < inner_next a b =
        elim (inner_counts s.left).3 [ inl z ↦ absurd (omega (arith, z, w.0)) | inr l ↦ l.1 ] in
        (x, y.0, y.1, w.2)

    -- what comes from a number below a bound stays below it, where no split reaches out
    below_left : (s : Split) (v : ℕ) → IsOneOf s (inner_splits a b) → Comes splits s.left v → v < a.next
    below_left s v m comes =
        comes_keeps (λ (u : ℕ). u < a.next) splits
        (λ r o l. elim (one_of-append r outer_splits (inner_splits a b) o) [
          | inl x ↦ let w = where_outer r x in absurd (omega (arith, w.3, l, k.upto, merged_upto a.names b.names b.next, j.upto))
          | inr x ↦ let w = where_inner r x in absurd (omega (arith, w.3, l, j.upto))
        ]) s.left v comes (where_inner s m).0

    within_right : (s : Split) (v : ℕ) → IsOneOf s (inner_splits a b) → Comes splits s.right v → (a.next ≤ v) × (v < b.next)
    within_right s v m comes =
        comes_keeps (λ (u : ℕ). (a.next ≤ u) × (u < b.next)) splits
        (λ r o l. elim (one_of-append r outer_splits (inner_splits a b) o) [
          | inl x ↦ let w = where_outer r x in absurd (omega (arith, w.3, l.1, k.upto, merged_upto a.names b.names b.next))
          | inr x ↦ let w = where_inner r x in absurd (omega (arith, w.3, l.1))
        ]) s.right v comes ((where_inner s m).1, (where_inner s m).2)

    below_outer : (s : Split) (v : ℕ) → IsOneOf s outer_splits → Comes splits s.left v → v < inner_next a b
    below_outer s v m comes =
        comes_keeps (λ (u : ℕ). u < inner_next a b) splits
        (λ r o l. elim (one_of-append r outer_splits (inner_splits a b) o) [
          | inl x ↦ let w = where_outer r x in absurd (omega (arith, w.3, l, k.upto))
          | inr x ↦ let w = where_inner r x in
              let up = merged_upto a.names b.names b.next in (omega (arith, w.0, j.upto, up), omega (arith, w.2, up))
        ]) s.left v comes (where_outer s m).0

    within_outer : (s : Split) (v : ℕ) → IsOneOf s outer_splits → Comes splits s.right v → (inner_next a b ≤ v) × (v < c.next)
    within_outer s v m comes =
        comes_keeps (λ (u : ℕ). (inner_next a b ≤ u) × (u < c.next)) splits
        (λ r o l. elim (one_of-append r outer_splits (inner_splits a b) o) [
          | inl x ↦ let w = where_outer r x in absurd (omega (arith, w.3, l.1))
          | inr x ↦ let w = where_inner r x in absurd (omega (arith, w.4, l.0))
        ]) s.right v comes ((where_outer s m).1, (where_outer s m).2)

    between_a : IsSplitBetween splits a.node
    between_a s u v m x y used_u used_v =
        let l = used_lies i g n p a h v used_v in
        elim (one_of-append s outer_splits (inner_splits a b) m) [
          | inl o ↦ let w = within_outer s v o y in absurd (omega (arith, w.0, l.1, merged_upto a.names b.names b.next, j.upto))
          | inr o ↦ let w = within_right s v o y in absurd (omega (arith, w.0, l.1))
        ]

    between_b : IsSplitBetween splits b.node
    between_b s u v m x y used_u used_v =
        elim (one_of-append s outer_splits (inner_splits a b) m) [
          | inl o ↦
              let l = used_lies i g a.next q b j v used_v in
              let w = within_outer s v o y in absurd (omega (arith, w.0, l.1, merged_upto a.names b.names b.next))
          | inr o ↦
              let l = used_lies i g a.next q b j u used_u in
              let w = below_left s u o x in absurd (omega (arith, w, l.0))
        ]

    between_c : IsSplitBetween splits c.node
    between_c s u v m x y used_u used_v =
        let l = used_lies i g (inner_next a b) t c k u used_u in
        elim (one_of-append s outer_splits (inner_splits a b) m) [
          | inl o ↦ let w = below_outer s u o x in absurd (omega (arith, w, l.0))
          | inr o ↦ let w = below_left s u o x in absurd (omega (arith, w, l.0, merged_upto a.names b.names b.next, j.upto))
        ]
