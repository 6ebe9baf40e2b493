-- A list that has the first nodes of another, and copies of some of the others.
use Rattle.std.proofs.Common.{◌≡◌, ◌<◌, ◌≤◌, ◌+◌, ◌-◌, ◌⊎◌, ℕ, zero, suc, List, [], ◌∷◌, ◌++◌, length, take, drop, refl, sym, ap, subst, arith, Option, Some, None, inl, inr, ◌∙◌}
use Rattle.std.specs.Prelude.{slice_get, IfSome}
use Rattle.std.proofs.lemmas.Option.{slice_get_within}
use Rattle.gos_model.specs.Terms.{Term, If}
use Rattle.gos_witness.specs.Sizes.{size}
use Rattle.gos_witness.specs.Needs.{needs}
use Rattle.gos_witness.specs.declared.nodes.Form.{Form}
use Rattle.gos_witness.specs.declared.nodes.Form.TheVariants as forms
use Rattle.gos_witness.specs.declared.nodes.Node.{Node}
use Rattle.gos_witness.specs.NodeLists.{Tables, Listed, one_term, two_term, seen, shape, Fits, IsCount, IsRight, IsKept}
use Rattle.gos_witness.specs.inner.Keeping.{KeepsTables, Keeps}
use Rattle.gos_witness.specs.inner.Compaction.{IsCopy, IsBeginning, ArePlaces, IsMoved}
use Rattle.gos_witness.proofs.KeepLemmas.{with_node, node_keeps, keeps_same, keeps_twice, tables_twice, shape_keeps, leaf_keeps, one_keeps, fits_keeps, fits_one}
use Rattle.gos_witness.proofs.TableLemmas.{retabled}

-- more nodes keep those before them
behind_one : (xs : List Node) (n : Node) (ns : List Node) → (xs ++ n ∷ []) ++ ns ≡ xs ++ n ∷ ns
behind_one [] n ns = refl
behind_one (x ∷ xs) n ns = ap (λ (ys : List Node). x ∷ ys) (behind_one xs n ns)

behind_none : (xs : List Node) → xs ++ [] ≡ xs
behind_none [] = refl
behind_none (x ∷ xs) = ap (λ (ys : List Node). x ∷ ys) (behind_none xs)

more_keep : (l : Listed) (ns : List Node) → Keeps l (record l { nodes = l.nodes ++ ns })
more_keep l [] = subst (λ (xs : List Node). Keeps l (record l { nodes = xs })) (sym (behind_none l.nodes)) (keeps_same l)
more_keep l (n ∷ ns) =
    keeps_twice l (with_node l n) (record l { nodes = l.nodes ++ n ∷ ns }) (node_keeps l n)
    (subst (λ (xs : List Node). Keeps (with_node l n) (record l { nodes = xs })) (behind_one l.nodes n ns) (more_keep (with_node l n) ns))

two_pieces : (k : ℕ) (ns : List Node) → take k ns ++ drop k ns ≡ ns
two_pieces zero ns = refl
two_pieces (suc k) [] = refl
two_pieces (suc k) (n ∷ ns) = ap (λ (xs : List Node). n ∷ xs) (two_pieces k ns)

get_first : (k : ℕ) (ns : List Node) (i : ℕ) (n : Node) → slice_get (take k ns) i ≡ Some n → slice_get ns i ≡ Some n
get_first zero ns i n e = absurd (cc e)
get_first (suc k) [] i n e = e
get_first (suc k) (m ∷ ns) zero n e = e
get_first (suc k) (m ∷ ns) (suc i) n e = get_first k ns i n e

pub first_length : (k : ℕ) (ns : List Node) → k ≤ length ns → length (take k ns) ≡ k
first_length zero ns h = refl
first_length (suc k) [] h = absurd (omega (arith, h))
first_length (suc k) (n ∷ ns) h = ap suc (first_length k ns (omega (arith, h)))

-- the first nodes
abbrev pub first : ℕ → Listed → Listed
first k l = record l { nodes = take k l.nodes }

first_keeps : (k : ℕ) (l : Listed) → Keeps (first k l) l
first_keeps k l = subst (λ (ns : List Node). Keeps (first k l) (record l { nodes = ns })) (two_pieces k l.nodes) (more_keep (first k l) (drop k l.nodes))

-- are right where the list is
first_kept : (k : ℕ) (l : Listed) → IsKept l → IsKept (first k l)
first_kept k l kept i n e = by (kept i n (get_first k l.nodes i n e))
  where
    within : i < length (take k l.nodes)
    within = slice_get_within (take k l.nodes) i n e

    keeps : Keeps (first k l) l
    keeps = first_keeps k l

    by : IsRight l i n → IsRight (first k l) i n
    by r = record {
      term = sym (keeps.terms i within) ∙ r.term ∙ shape_keeps (first k l) l i n.form keeps (omega (arith, within)) r.fits;
      fits = r.fits;
      size = subst (λ (m : Term). IsCount n.size (size m)) (keeps.terms i within) r.size;
      needs = r.needs ∙ ap needs (keeps.terms i within);
      few = r.few;
    }

-- with copied tables they are a beginning
pub begun : (k : ℕ) (l : Listed) (b : Tables) → IsKept l → k ≤ length l.nodes → KeepsTables l.tables b
    → IsKept (record { tables = b; nodes = take k l.nodes }) × IsBeginning l k (record { tables = b; nodes = take k l.nodes })
begun k l b kept h tables =
    let (right, keeps) = retabled (first k l) b (first_kept k l kept) tables in
    let count = first_length k l.nodes h in
    let back = first_keeps k l in (
      right,
      record {
        tables = tables;
        more = omega (arith, count);
        terms = λ i w. let within : i < length (take k l.nodes) = omega (arith, count, w) in keeps.terms i within ∙ sym (back.terms i within);
      },
    )

-- a form with the places of its parts has the same term
pub moved_fits : (l k : Listed) (i : ℕ) (f g : Form) → KeepsTables l.tables k.tables → Fits l.tables i f → IsMoved l k f g → Fits k.tables (length k.nodes) g
moved_fits l k i (forms.Leaf f) g t fits is =
    subst (λ (x : Form). Fits k.tables (length k.nodes) x) (sym is) (fits_keeps l.tables k.tables 0 (length k.nodes) (forms.Leaf f) t (omega arith) fits)
moved_fits l k i (forms.One o a) g t fits (p, is, at) =
    subst (λ (x : Form). Fits k.tables (length k.nodes) x) (sym is) (fits_one l.tables k.tables o t fits.0, at.0)
moved_fits l k i (forms.Two o a b) g t fits (p, q, is, at, bt) = subst (λ (x : Form). Fits k.tables (length k.nodes) x) (sym is) (at.0, bt.0)
moved_fits l k i (forms.If a b c) g t fits (p, q, r, is, at, bt, ct) =
    subst (λ (x : Form). Fits k.tables (length k.nodes) x) (sym is) (at.0, bt.0, ct.0)

pub moved_shape : (l k : Listed) (i : ℕ) (f g : Form) → KeepsTables l.tables k.tables → Fits l.tables i f → IsMoved l k f g → shape k g ≡ shape l f
moved_shape l k i (forms.Leaf f) g t fits is = ap (shape k) is ∙ leaf_keeps l.tables k.tables f t fits
moved_shape l k i (forms.One o a) g t fits (p, is, at) =
    ap (shape k) is ∙ one_keeps l.tables k.tables o (seen k p) t fits.0 ∙ ap (λ (x : Term). one_term l.tables o x) at.1
moved_shape l k i (forms.Two o a b) g t fits (p, q, is, at, bt) = ap (shape k) is ∙ (λ j. two_term o (at.1 j) (bt.1 j))
moved_shape l k i (forms.If a b c) g t fits (p, q, r, is, at, bt, ct) = ap (shape k) is ∙ (λ j. If (at.1 j) (bt.1 j) (ct.1 j))

-- copies stay
copy_stays : (l k k' : Listed) (i p : ℕ) → Keeps k k' → IsCopy l k i p → IsCopy l k' i p
copy_stays l k k' i p keeps at = (omega (arith, at.0, keeps.more), keeps.terms p at.0 ∙ at.1)

pub beginning_stays : (l k k' : Listed) (base : ℕ) → Keeps k k' → IsBeginning l base k → IsBeginning l base k'
beginning_stays l k k' base keeps begins = record {
  tables = tables_twice l.tables k.tables k'.tables begins.tables keeps.tables;
  more = omega (arith, begins.more, keeps.more);
  terms = λ i h. keeps.terms i (omega (arith, h, begins.more)) ∙ begins.terms i h;
}

last_of : (xs : List (Option ℕ)) (x y : Option ℕ) (i : ℕ) → slice_get (xs ++ x ∷ []) i ≡ Some y → (slice_get xs i ≡ Some y) ⊎ ((i ≡ length xs) × (x ≡ y))
last_of [] x y zero e = inr (refl, cc e)
last_of [] x y (suc i) e = absurd (cc e)
last_of (z ∷ xs) x y zero e = inl e
last_of (z ∷ xs) x y (suc i) e = later (last_of xs x y i e)
  where
    later : (slice_get xs i ≡ Some y) ⊎ ((i ≡ length xs) × (x ≡ y)) → (slice_get xs i ≡ Some y) ⊎ ((suc i ≡ suc (length xs)) × (x ≡ y))
    later (inl h) = inl h
    later (inr h) = inr (ap suc h.0, h.1)

-- a place more
pub place_more : (l k k' : Listed) (base n : ℕ) (places : List (Option ℕ)) (place : Option ℕ) → ArePlaces l k base places → Keeps k k' → base + length places ≡ n
    → IfSome place (IsCopy l k' n) → ArePlaces l k' base (places ++ place ∷ [])
place_more l k k' base n places place are keeps count copied i p e = by (last_of places place (Some p) i e)
  where
    by : (slice_get places i ≡ Some (Some p)) ⊎ ((i ≡ length places) × (place ≡ Some p)) → IsCopy l k' (base + i) p
    by (inl h) = copy_stays l k k' (base + i) p keeps (are i p h)
    by (inr (here, is)) =
        let same : n ≡ base + i = omega (arith, here, count) in
        subst (λ (j : ℕ). IsCopy l k' j p) same (subst (λ (o : Option ℕ). IfSome o (IsCopy l k' n)) is copied)

-- the place of a node behind the first ones
pub place_copied : (l k : Listed) (base n : ℕ) (places : List (Option ℕ)) (place : Option ℕ) → ArePlaces l k base places → base ≤ n → slice_get places (n - base) ≡ Some place
    → IfSome place (IsCopy l k n)
place_copied l k base n places None are h e = tt
place_copied l k base n places (Some p) are h e =
    let same : base + (n - base) ≡ n = omega (arith, h) in
    subst (λ (i : ℕ). IsCopy l k i p) same (are (n - base) p e)
