-- Tables that grow, or are copied.
use Rattle.std.proofs.Common.{◌≡◌, ◌<◌, ℕ, zero, suc, List, [], ◌∷◌, ◌++◌, length, map, refl, ap, arith, Some, ◌∙◌}
use Rattle.std.specs.Prelude.{get_or, slice_get}
use Rattle.std.proofs.lemmas.Option.{slice_get_within}
use Rattle.gos_types.specs.declared.types.Ty.{Ty}
use Rattle.gos_types.specs.Types.{type_of}
use Rattle.gos_model.specs.Terms.{Name, Term, Skip}
use Rattle.gos_witness.specs.declared.nodes.Form.{Form}
use Rattle.gos_witness.specs.declared.nodes.Form.TheVariants as forms
use Rattle.gos_witness.specs.declared.nodes.Node.{Node}
use Rattle.gos_witness.specs.NodeLists.{Tables, Listed, type_or_com, name_or_none, form_term, grown, terms, Fits, IsKept}
use Rattle.gos_witness.specs.inner.Keeping.{KeepsTables, Keeps}
use Rattle.gos_witness.proofs.KeepLemmas.{leaf_keeps, one_keeps, right_keeps, one_longer}

-- forms are the same by the new tables
form_same : (a b : Tables) (us : List Term) (i : ℕ) (f : Form) → KeepsTables a b → Fits a i f → form_term b us f ≡ form_term a us f
form_same a b us i (forms.Leaf f) k fits = leaf_keeps a b f k fits
form_same a b us i (forms.One o m) k fits = one_keeps a b o (get_or us m Skip) k fits.0
form_same a b us i (forms.Two o m n) k fits = refl
form_same a b us i (forms.If m n p) k fits = refl

grown_same : (a b : Tables) (ts : List Term) (ns : List Node)
    → ((us : List Term) (i : ℕ) (n : Node) → slice_get ns i ≡ Some n → form_term b us n.form ≡ form_term a us n.form) → grown b ts ns ≡ grown a ts ns
grown_same a b ts [] h = refl
grown_same a b ts (n ∷ ns) h =
    ap (λ f. grown b (ts ++ f ∷ []) ns) (h ts zero n refl)
    ∙ grown_same a b (ts ++ form_term a ts n.form ∷ []) ns (λ us i m e. h us (suc i) m e)

-- a list with tables that have more
pub retabled : (l : Listed) (b : Tables) → IsKept l → KeepsTables l.tables b → IsKept (record l { tables = b }) × Keeps l (record l { tables = b })
retabled l b kept k = (λ i n e. right_keeps l new i n (slice_get_within l.nodes i n e) keeps (kept i n e), keeps)
  where
    new : Listed
    new = record l { tables = b }

    same : terms new ≡ terms l
    same = grown_same l.tables b [] l.nodes (λ us i n e. form_same l.tables b us i n.form k (kept i n e).fits)

    keeps : Keeps l new
    keeps = record {
      more = omega arith;
      terms = λ i h. ap (λ ts. get_or ts i Skip) same;
      tables = k;
    }

-- one more, at the end
get_more : {A : Type 0} (xs : List A) (x : A) (i : ℕ) → i < length xs → slice_get (xs ++ x ∷ []) i ≡ slice_get xs i
get_more [] x i h = absurd (omega (arith, h))
get_more (y ∷ xs) x zero h = refl
get_more (y ∷ xs) x (suc i) h = get_more xs x i (omega (arith, h))

pub type_more : (a : Tables) (t : Ty) → KeepsTables a (record a { types = a.types ++ t ∷ [] })
type_more a t =
    let longer = one_longer a.types t in
    record {
      more_types = omega (arith, longer);
      types = λ i h. ap type_or_com (get_more a.types t i h);
      more_names = omega arith;
      names = λ i h. refl;
    }

pub name_more : (a : Tables) (x : Name) → KeepsTables a (record a { names = a.names ++ x ∷ [] })
name_more a x =
    let longer = one_longer a.names x in
    record {
      more_types = omega arith;
      types = λ i h. refl;
      more_names = omega (arith, longer);
      names = λ i h. ap name_or_none (get_more a.names x i h);
    }

-- copies
copied_at : (xs ys : List Ty) → map type_of ys ≡ map type_of xs → (i : ℕ) → type_or_com (slice_get ys i) ≡ type_or_com (slice_get xs i)
copied_at [] [] e i = refl
copied_at [] (y ∷ ys) e i = let n = ap length e in absurd (grind (arith, n))
copied_at (x ∷ xs) [] e i = let n = ap length e in absurd (grind (arith, n))
copied_at (x ∷ xs) (y ∷ ys) e zero = grind (arith, e)
copied_at (x ∷ xs) (y ∷ ys) e (suc i) = copied_at xs ys (grind (arith, e)) i

same_count : (xs ys : List Ty) → map type_of ys ≡ map type_of xs → length ys ≡ length xs
same_count [] [] e = refl
same_count [] (y ∷ ys) e = let n = ap length e in absurd (grind (arith, n))
same_count (x ∷ xs) [] e = let n = ap length e in absurd (grind (arith, n))
same_count (x ∷ xs) (y ∷ ys) e = ap suc (same_count xs ys (grind (arith, e)))

pub tables_copied : (a : Tables) (types : List Ty) → map type_of types ≡ map type_of a.types → KeepsTables a (record a { types = types })
tables_copied a types e =
    let count = same_count a.types types e in
    record {
      more_types = omega (arith, count);
      types = λ i h. copied_at a.types types e i;
      more_names = omega arith;
      names = λ i h. refl;
    }
