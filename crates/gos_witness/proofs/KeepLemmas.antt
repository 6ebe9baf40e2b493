-- A list that grows keeps what it had.
use Rattle.std.proofs.Common.{◌≡◌, ◌<◌, ◌≤◌, ◌+◌, ◌⊎◌, ℕ, zero, suc, List, [], ◌∷◌, ◌++◌, length, refl, sym, ap, subst, arith, Some, inl, inr, ◌∙◌}
use Rattle.std.specs.Prelude.{get_or, slice_get}
use Rattle.std.proofs.Math.Seq.{get_or-append_seam}
use Rattle.std.proofs.lemmas.List.{get_or_append_left}
use Rattle.std.proofs.lemmas.Option.{slice_get_within}
use Rattle.gos_model.specs.Terms.{Term, Skip, Import, Lam, If, Wait}
use Rattle.gos_witness.specs.Sizes.{size}
use Rattle.gos_witness.specs.Needs.{needs}
use Rattle.gos_witness.specs.declared.nodes.Leaf.{Leaf}
use Rattle.gos_witness.specs.declared.nodes.Leaf.TheVariants as leaves
use Rattle.gos_witness.specs.declared.nodes.OnePart.{OnePart}
use Rattle.gos_witness.specs.declared.nodes.OnePart.TheVariants as one
use Rattle.gos_witness.specs.declared.nodes.Form.{Form}
use Rattle.gos_witness.specs.declared.nodes.Form.TheVariants as forms
use Rattle.gos_witness.specs.declared.nodes.Node.{Node}
use Rattle.gos_witness.specs.declared.nodes.TheConstants.{MOST_NODES}
use Rattle.gos_witness.specs.NodeLists.{Tables, Listed, leaf_term, one_term, two_term, form_term, grown, terms, seen, shape, FitsLeaf, FitsOne, Fits, IsCount, IsRight, IsKept}
use Rattle.gos_witness.specs.inner.Keeping.{KeepsTables, Keeps}

-- the terms of one node more
grown_more : (a : Tables) (ts : List Term) (ns : List Node) (n : Node)
    → grown a ts (ns ++ n ∷ []) ≡ grown a ts ns ++ form_term a (grown a ts ns) n.form ∷ []
grown_more a ts [] n = refl
grown_more a ts (m ∷ ns) n = grown_more a (ts ++ form_term a ts m.form ∷ []) ns n

pub one_longer : {A : Type 0} (xs : List A) (x : A) → length (xs ++ x ∷ []) ≡ suc (length xs)
one_longer [] x = refl
one_longer (y ∷ xs) x = ap suc (one_longer xs x)

-- there is a term for each node
grown_length : (a : Tables) (ts : List Term) (ns : List Node) → length (grown a ts ns) ≡ length ts + length ns
grown_length a ts [] = omega arith
grown_length a ts (n ∷ ns) =
    let rest = grown_length a (ts ++ form_term a ts n.form ∷ []) ns in
    let more = one_longer ts (form_term a ts n.form) in
    omega (arith, rest, more)

terms_length : (l : Listed) → length (terms l) ≡ length l.nodes
terms_length l = let count = grown_length l.tables [] l.nodes in omega (arith, count)

-- the list with one node more
abbrev pub with_node : Listed → Node → Listed
with_node l n = record l { nodes = l.nodes ++ n ∷ [] }

pub node_terms : (l : Listed) (n : Node) (i : ℕ) → i < length l.nodes → seen (with_node l n) i ≡ seen l i
node_terms l n i h =
    let count = terms_length l in
    let within : i < length (terms l) = omega (arith, count, h) in
    ap (λ ts. get_or ts i Skip) (grown_more l.tables [] l.nodes n)
    ∙ get_or_append_left (terms l) (shape l n.form ∷ []) Skip i within

pub node_term : (l : Listed) (n : Node) → seen (with_node l n) (length l.nodes) ≡ shape l n.form
node_term l n =
    let count = terms_length l in
    ap (λ ts. get_or ts (length l.nodes) Skip) (grown_more l.tables [] l.nodes n)
    ∙ subst (λ (k : ℕ). get_or (terms l ++ shape l n.form ∷ []) k Skip ≡ shape l n.form) count (get_or-append_seam (terms l) (shape l n.form) [] Skip)

pub same_tables : (a : Tables) → KeepsTables a a
same_tables a = record {
  more_types = omega arith;
  types = λ i h. refl;
  more_names = omega arith;
  names = λ i h. refl;
}

pub keeps_same : (l : Listed) → Keeps l l
keeps_same l = record {
  more = omega arith;
  terms = λ i h. refl;
  tables = same_tables l.tables;
}

pub tables_twice : (a b c : Tables) → KeepsTables a b → KeepsTables b c → KeepsTables a c
tables_twice a b c h k = record {
  more_types = omega (arith, h.more_types, k.more_types);
  types = λ i w. k.types i (omega (arith, w, h.more_types)) ∙ h.types i w;
  more_names = omega (arith, h.more_names, k.more_names);
  names = λ i w. k.names i (omega (arith, w, h.more_names)) ∙ h.names i w;
}

pub keeps_twice : (a b c : Listed) → Keeps a b → Keeps b c → Keeps a c
keeps_twice a b c h k = record {
  more = omega (arith, h.more, k.more);
  terms = λ i w. k.terms i (omega (arith, w, h.more)) ∙ h.terms i w;
  tables = tables_twice a.tables b.tables c.tables h.tables k.tables;
}

pub node_keeps : (l : Listed) (n : Node) → Keeps l (with_node l n)
node_keeps l n =
    let longer = one_longer l.nodes n in
    record {
      more = omega (arith, longer);
      terms = node_terms l n;
      tables = same_tables l.tables;
    }

-- what a form is stays
pub leaf_keeps : (a b : Tables) (f : Leaf) → KeepsTables a b → FitsLeaf a f → leaf_term b f ≡ leaf_term a f
leaf_keeps a b leaves.Skip h fits = refl
leaf_keeps a b (leaves.Lit k w) h fits = refl
leaf_keeps a b (leaves.Bound n) h fits = refl
leaf_keeps a b (leaves.Import x) h fits = ap Import (h.names x fits)
leaf_keeps a b (leaves.Loc p) h fits = refl
leaf_keeps a b (leaves.Arr p) h fits = refl
leaf_keeps a b (leaves.Wait x s) h fits = ap (λ y. Wait y s) (h.names x fits)

pub one_keeps : (a b : Tables) (f : OnePart) (m : Term) → KeepsTables a b → FitsOne a f → one_term b f m ≡ one_term a f m
one_keeps a b (one.Lam t) m h fits = ap (λ u. Lam u m) (h.types t fits)
one_keeps a b (one.New w) m h fits = refl
one_keeps a b (one.NewArray n w) m h fits = refl
one_keeps a b one.Fst m h fits = refl
one_keeps a b one.Snd m h fits = refl
one_keeps a b one.Deref m h fits = refl
one_keeps a b one.Not m h fits = refl
one_keeps a b (one.Scope p) m h fits = refl
one_keeps a b (one.Held k op) m h fits = refl
one_keeps a b (one.Put k) m h fits = refl

fits_leaf : (a b : Tables) (f : Leaf) → KeepsTables a b → FitsLeaf a f → FitsLeaf b f
fits_leaf a b leaves.Skip h fits = tt
fits_leaf a b (leaves.Lit k w) h fits = fits
fits_leaf a b (leaves.Bound n) h fits = tt
fits_leaf a b (leaves.Import x) h fits = omega (arith, fits, h.more_names)
fits_leaf a b (leaves.Loc p) h fits = tt
fits_leaf a b (leaves.Arr p) h fits = tt
fits_leaf a b (leaves.Wait x s) h fits = omega (arith, fits, h.more_names)

pub fits_one : (a b : Tables) (f : OnePart) → KeepsTables a b → FitsOne a f → FitsOne b f
fits_one a b (one.Lam t) h fits = omega (arith, fits, h.more_types)
fits_one a b (one.New w) h fits = fits
fits_one a b (one.NewArray n w) h fits = fits
fits_one a b one.Fst h fits = tt
fits_one a b one.Snd h fits = tt
fits_one a b one.Deref h fits = tt
fits_one a b one.Not h fits = tt
fits_one a b (one.Scope p) h fits = tt
fits_one a b (one.Held k op) h fits = tt
fits_one a b (one.Put k) h fits = tt

pub fits_keeps : (a b : Tables) (i j : ℕ) (f : Form) → KeepsTables a b → i ≤ j → Fits a i f → Fits b j f
fits_keeps a b i j (forms.Leaf f) h le fits = fits_leaf a b f h fits
fits_keeps a b i j (forms.One o m) h le fits = (fits_one a b o h fits.0, omega (arith, le, fits.1))
fits_keeps a b i j (forms.Two o m n) h le fits = (omega (arith, le, fits.0), omega (arith, le, fits.1))
fits_keeps a b i j (forms.If m n p) h le fits = (omega (arith, le, fits.0), omega (arith, le, fits.1), omega (arith, le, fits.2))

pub shape_keeps : (l l' : Listed) (i : ℕ) (f : Form) → Keeps l l' → i ≤ length l.nodes → Fits l.tables i f → shape l' f ≡ shape l f
shape_keeps l l' i (forms.Leaf f) h le fits = leaf_keeps l.tables l'.tables f h.tables fits
shape_keeps l l' i (forms.One o m) h le fits =
    one_keeps l.tables l'.tables o (seen l' m) h.tables fits.0
    ∙ ap (λ x. one_term l.tables o x) (h.terms m (omega (arith, le, fits.1)))
shape_keeps l l' i (forms.Two o m n) h le fits = λ k.
    two_term o (h.terms m (omega (arith, le, fits.0)) k) (h.terms n (omega (arith, le, fits.1)) k)
shape_keeps l l' i (forms.If m n p) h le fits = λ k.
    If (h.terms m (omega (arith, le, fits.0)) k) (h.terms n (omega (arith, le, fits.1)) k) (h.terms p (omega (arith, le, fits.2)) k)

-- what is right stays so
pub right_keeps : (l l' : Listed) (i : ℕ) (n : Node) → i < length l.nodes → Keeps l l' → IsRight l i n → IsRight l' i n
right_keeps l l' i n h k r = record {
  term = k.terms i h ∙ r.term ∙ sym (shape_keeps l l' i n.form k (omega (arith, h)) r.fits);
  fits = fits_keeps l.tables l'.tables i i n.form k.tables (omega arith) r.fits;
  size = subst (λ (m : Term). IsCount n.size (size m)) (sym (k.terms i h)) r.size;
  needs = r.needs ∙ sym (ap needs (k.terms i h));
  few = r.few;
}

at_end : (ns : List Node) (n m : Node) (i : ℕ) → slice_get (ns ++ n ∷ []) i ≡ Some m
    → (slice_get ns i ≡ Some m) ⊎ ((i ≡ length ns) × (n ≡ m))
at_end [] n m zero e = inr (refl, grind (arith, e))
at_end [] n m (suc i) e = absurd (grind (arith, e))
at_end (k ∷ ns) n m zero e = inl e
at_end (k ∷ ns) n m (suc i) e = later (at_end ns n m i e)
  where
    later : (slice_get ns i ≡ Some m) ⊎ ((i ≡ length ns) × (n ≡ m)) → (slice_get ns i ≡ Some m) ⊎ ((suc i ≡ suc (length ns)) × (n ≡ m))
    later (inl h) = inl h
    later (inr h) = inr (ap suc h.0, h.1)

pub kept_more : (l : Listed) (n : Node) → IsKept l → Fits l.tables (length l.nodes) n.form → IsCount n.size (size (shape l n.form))
    → n.needs ≡ needs (shape l n.form) → n.needs ≤ 4294967296 → IsKept (with_node l n)
kept_more l n kept fits sized needed few i m e = by (at_end l.nodes n m i e)
  where
    keeps : Keeps l (with_node l n)
    keeps = node_keeps l n

    by : (slice_get l.nodes i ≡ Some m) ⊎ ((i ≡ length l.nodes) × (n ≡ m)) → IsRight (with_node l n) i m
    by (inl h) = right_keeps l (with_node l n) i m (slice_get_within l.nodes i m h) keeps (kept i m h)
    by (inr (place, same)) =
        subst (λ (x : Node). IsRight (with_node l n) i x) same (subst (λ (j : ℕ). IsRight (with_node l n) j n) (sym place) (record {
          term = node_term l n ∙ sym (shape_keeps l (with_node l n) (length l.nodes) n.form keeps (omega arith) fits);
          fits = fits;
          size = subst (λ (t : Term). IsCount n.size (size t)) (sym (node_term l n)) sized;
          needs = needed ∙ sym (ap needs (node_term l n));
          few = few;
        }))

-- a node more: what is known of the list, and of the new term
pub pushed : (l l' : Listed) (f : Form) (n : Node) → IsKept l → Fits l.tables (length l.nodes) f → IsCount n.size (size (shape l f))
    → n.needs ≡ needs (shape l f) → n.needs ≤ 4294967296 → n.form ≡ f → l' ≡ with_node l n
    → IsKept l' × Keeps l l' × (seen l' (length l.nodes) ≡ shape l f) × (length l.nodes < length l'.nodes)
pushed l l' f n kept fits sized needed few form is =
    let longer = one_longer l.nodes n in
    let there : length l.nodes < length (with_node l n).nodes = omega (arith, longer) in
    let fits' = subst (λ (g : Form). Fits l.tables (length l.nodes) g) (sym form) fits in
    let sized' = subst (λ (g : Form). IsCount n.size (size (shape l g))) (sym form) sized in
    let needed' = subst (λ (g : Form). n.needs ≡ needs (shape l g)) (sym form) needed in
    subst (λ (x : Listed). IsKept x × Keeps l x × (seen x (length l.nodes) ≡ shape l f) × (length l.nodes < length x.nodes)) (sym is)
    (kept_more l n kept fits' sized' needed' few, node_keeps l n, node_term l n ∙ ap (shape l) form, there)

pub counted : (k n : ℕ) → IsCount k n → k ≤ MOST_NODES
counted k n (inl h) = omega (arith, h.0, h.1)
counted k n (inr h) = omega (arith, h.0, h.1)
