-- Whether two types are one, as a test and as an equation.
use Rattle.std.specs.Prelude.{◌≡◌, true, Ok, Err}
use Rattle.std.proofs.Common.{refl, sym, ap, subst, ◌∙◌, eq-eqb}
use Rattle.std.proofs.lemmas.Bool.{eqb-true, false_from_ne_true, and_from}
use Rattle.gos_lex.specs.declared.token.Span.{Span}
use Rattle.gos_types.specs.Types.{Type', Com, Exp, Var, Pair, Fun}
use Rattle.gos_types.proofs.BoolLemmas.{and_first, and_second}
use Rattle.gos_check.specs.Faults.{Differs, Just}
use Rattle.gos_check.specs.Demands.{same_type, demanded}

-- a type is itself
pub same_self : (a : Type') → same_type a a ≡ true
same_self Com = refl
same_self (Exp w) = eq-eqb w w refl
same_self (Var w) = eq-eqb w w refl
same_self (Pair a b) = and_from (same_type a a) (same_type b b) (same_self a) (same_self b)
same_self (Fun a b) = and_from (same_type a a) (same_type b b) (same_self a) (same_self b)

-- types that are tested to be the same are one
pub one_of_same : (a b : Type') → same_type a b ≡ true → a ≡ b
one_of_same Com Com h = refl
one_of_same (Exp v) (Exp w) h = ap Exp (eqb-true v w h)
one_of_same (Var v) (Var w) h = ap Var (eqb-true v w h)
one_of_same (Pair a b) (Pair c d) h =
    ap (λ x. Pair x b) (one_of_same a c (and_first _ _ h)) ∙ ap (λ x. Pair c x) (one_of_same b d (and_second _ _ h))
one_of_same (Fun a b) (Fun c d) h =
    ap (λ x. Fun x b) (one_of_same a c (and_first _ _ h)) ∙ ap (λ x. Fun c x) (one_of_same b d (and_second _ _ h))
one_of_same a b h = cc

-- the type that is demanded
pub demanded_same : (span : Span) (want got : Type') → want ≡ got → demanded span want got ≡ Ok got
demanded_same span want got e = subst (λ (t : Type'). demanded span t got ≡ Ok got) (sym e) (rw (same_self got) refl)

-- another type than is demanded
pub demanded_other : (span : Span) (want got : Type') → (want ≡ got → ⊥) → demanded span want got ≡ Err (Differs span (Just want) got)
demanded_other span want got other = rw (false_from_ne_true (same_type want got) (λ h. other (one_of_same want got h))) refl
