-- Which names are free in a term, and which things of the model these are.
use Rattle.std.specs.Prelude.{◌≡◌, ◌≢◌, ◌⊎◌, List, [], ◌∷◌, ◌++◌, Bool, true, false, Option, Some, None, Ok, if◌then◌else◌}
use Rattle.std.specs.Str.{bytes_eq}
use Rattle.std.proofs.Common.{refl, sym, subst, ◌∙◌, inl, inr}
use Rattle.gos_types.proofs.BytesLemmas.{bytes_eq_same, same_bytes_eq}
use Rattle.gos_lex.specs.declared.token.Span.{Span}
use Rattle.gos_model.specs.Terms.{Name}
use Rattle.gos_check.specs.declared.free.Occurrence.{Occurrence}
use Rattle.gos_check.specs.Free.{place_in, new_before, besides, joined, without, apart, apart_from}

-- a name is in a list of names
abbrev pub Has : Name → List Occurrence → Type 0
Has x [] = ⊥
Has x (o ∷ os) = (o.name ≡ x) ⊎ Has x os

-- a name is none of these
abbrev pub IsNone : Name → List Name → Type 0
IsNone x [] = Unit {0}
IsNone x (y ∷ ys) = (y ≢ x) × IsNone x ys

false_other : (x y : Name) → bytes_eq x y ≡ false → x ≡ y → ⊥
false_other x y h e = let t : bytes_eq x y ≡ true = same_bytes_eq x y e in cc

-- a test of two names that differ
pub other_false : (x y : Name) → (x ≡ y → ⊥) → bytes_eq x y ≡ false
other_false x y other = tested (bytes_eq x y) refl
  where
    tested : (b : Bool) → bytes_eq x y ≡ b → bytes_eq x y ≡ false
    tested true e = absurd (other (bytes_eq_same x y e))
    tested false e = e

-- a test of names is one of two
pub name_cases : {P : Type 0} (x y : Name) → ((x ≡ y) → bytes_eq x y ≡ true → P) → ((x ≡ y → ⊥) → bytes_eq x y ≡ false → P) → P
name_cases {P} x y same other = tested (bytes_eq x y) refl
  where
    tested : (b : Bool) → bytes_eq x y ≡ b → P
    tested true e = same (bytes_eq_same x y e) e
    tested false e = other (false_other x y e) e

-- a name without a place is not there
pub not_there : (os : List Occurrence) (x : Name) → place_in os x ≡ None → Has x os → ⊥
not_there [] x h k = k
not_there (o ∷ os) x h k =
    name_cases o.name x (λ e t. let q : (Some o.span) ≡ None = sym (rw t refl) ∙ h in cc)
    (λ other f. let q : place_in os x ≡ None = sym (rw f refl) ∙ h in elim k [ inl e ↦ other e | inr r ↦ not_there os x q r ])

-- a name that is not there has no place
pub no_place : (os : List Occurrence) (x : Name) → (Has x os → ⊥) → place_in os x ≡ None
no_place [] x h = refl
no_place (o ∷ os) x h = rw (other_false o.name x (λ e. h (inl e))) (no_place os x (λ k. h (inr k)))

-- what is found apart shares no name
pub apart_shares_none : (os ps : List Occurrence) (x : Name) → apart os ps ≡ Ok tt → Has x os → Has x ps → ⊥
apart_shares_none [] ps x h k l = k
apart_shares_none (o ∷ os) ps x h k l = looked (place_in ps o.name) refl h (λ q r. apart_shares_none os ps x q r l)
  where
    looked : (p : Option Span) → place_in ps o.name ≡ p → apart_from o p (apart os ps) ≡ Ok tt → (apart os ps ≡ Ok tt → Has x os → ⊥) → ⊥
    looked None e q others = elim k [ inl same ↦ not_there ps o.name e (subst (λ (y : Name). Has y ps) (sym same) l) | inr r ↦ others q r ]
    looked (Some s) e q others = cc

-- what shares no name is found apart
pub apart_where_none : (os ps : List Occurrence) → ((x : Name) → Has x os → Has x ps → ⊥) → apart os ps ≡ Ok tt
apart_where_none [] ps h = refl
apart_where_none (o ∷ os) ps h =
    rw (no_place ps o.name (λ k. h o.name (inl refl) k)) (apart_where_none os ps (λ x k l. h x (inr k) l))

append_has : (os ps : List Occurrence) (x : Name) → Has x (os ++ ps) → Has x os ⊎ Has x ps
append_has [] ps x k = inr k
append_has (o ∷ os) ps x (inl e) = inl (inl e)
append_has (o ∷ os) ps x (inr k) = elim (append_has os ps x k) [ inl a ↦ inl (inr a) | inr b ↦ inr b ]

has_append_left : (os ps : List Occurrence) (x : Name) → Has x os → Has x (os ++ ps)
has_append_left [] ps x k = absurd k
has_append_left (o ∷ os) ps x (inl e) = inl e
has_append_left (o ∷ os) ps x (inr k) = inr (has_append_left os ps x k)

has_append_right : (os ps : List Occurrence) (x : Name) → Has x ps → Has x (os ++ ps)
has_append_right [] ps x k = k
has_append_right (o ∷ os) ps x k = inr (has_append_right os ps x k)

has_place : (os : List Occurrence) (x : Name) (s : Span) → place_in os x ≡ Some s → Has x os
has_place [] x s h = cc
has_place (o ∷ os) x s h =
    name_cases o.name x (λ e t. inl e) (λ other f. let q : place_in os x ≡ Some s = sym (rw f refl) ∙ h in inr (has_place os x s q))

new_has : (p : Option Span) (o : Occurrence) (os : List Occurrence) (x : Name) → Has x (new_before p o os) → Has x (o ∷ os)
new_has None o os x k = k
new_has (Some s) o os x k = inr k

besides_has : (os ps : List Occurrence) (x : Name) → Has x (besides os ps) → Has x ps
besides_has os [] x k = k
besides_has os (p ∷ ps) x k =
    elim (new_has (place_in os p.name) p (besides os ps) x k) [ inl e ↦ inl e | inr r ↦ inr (besides_has os ps x r) ]

has_new : (p : Option Span) (o : Occurrence) (os : List Occurrence) (x : Name) → Has x os → Has x (new_before p o os)
has_new None o os x k = inr k
has_new (Some s) o os x k = k

has_besides : (os ps : List Occurrence) (x : Name) → Has x ps → Has x os ⊎ Has x (besides os ps)
has_besides os [] x k = inr k
has_besides os (p ∷ ps) x (inl e) = looked (place_in os p.name) refl
  where
    looked : (q : Option Span) → place_in os p.name ≡ q → Has x os ⊎ Has x (new_before q p (besides os ps))
    looked None h = inr (inl e)
    looked (Some s) h = inl (subst (λ (y : Name). Has y os) e (has_place os p.name s h))
has_besides os (p ∷ ps) x (inr k) =
    elim (has_besides os ps x k) [ inl a ↦ inl a | inr b ↦ inr (has_new (place_in os p.name) p (besides os ps) x b) ]

-- a joined list has the names of both
pub joined_has : (os ps : List Occurrence) (x : Name) → Has x (joined os ps) → Has x os ⊎ Has x ps
joined_has os ps x k =
    elim (append_has os (besides os ps) x k) [ inl a ↦ inl a | inr b ↦ inr (besides_has os ps x b) ]

pub has_joined : (os ps : List Occurrence) (x : Name) → Has x os ⊎ Has x ps → Has x (joined os ps)
has_joined os ps x (inl k) = has_append_left os (besides os ps) x k
has_joined os ps x (inr k) =
    elim (has_besides os ps x k)
    [ inl a ↦ has_append_left os (besides os ps) x a | inr b ↦ has_append_right os (besides os ps) x b ]

-- all names but one
pub without_has : (y : Name) (os : List Occurrence) (x : Name) → Has x (without y os) → Has x os × (y ≢ x)
without_has y [] x k = absurd k
without_has y (o ∷ os) x k =
    name_cases o.name y
    (λ e t. let q = without_has y os x (subst (λ (b : Bool). Has x (if b then without y os else o ∷ without y os)) t k) in (inr q.0, q.1))
    (λ other f. kept other (λ r. without_has y os x r) (subst (λ (b : Bool). Has x (if b then without y os else o ∷ without y os)) f k))
  where
    kept : (o.name ≡ y → ⊥) → (Has x (without y os) → Has x os × (y ≢ x)) → Has x (o ∷ without y os) → Has x (o ∷ os) × (y ≢ x)
    kept other others (inl e) = (inl e, λ same. other (e ∙ sym same))
    kept other others (inr r) = let q = others r in (inr q.0, q.1)

pub has_without : (y : Name) (os : List Occurrence) (x : Name) → Has x os → y ≢ x → Has x (without y os)
has_without y [] x k other = absurd k
has_without y (o ∷ os) x (inl e) other =
    rw (other_false o.name y (λ same. other (sym same ∙ e))) (inl e)
has_without y (o ∷ os) x (inr k) other =
    name_cases o.name y (λ e t. rw t (has_without y os x k other)) (λ differs f. rw f (inr (has_without y os x k other)))
