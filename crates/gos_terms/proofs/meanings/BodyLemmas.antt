-- The body of a binder with a closed term for its variable.
use Rattle.std.specs.Prelude.{◌≡◌, ℕ, suc, Bool, true, false, [], ◌⊎◌, nat_eq, if◌then◌else◌}
use Rattle.std.proofs.Common.{refl, sym, ◌∙◌, ap, arith, inl, inr}
use Rattle.gos_types.specs.Types.{Type'}
use Rattle.gos_model.specs.Terms as terms
use Rattle.gos_model.specs.Terms.{Term}
use Rattle.gos_model.specs.Substitution.{put_at}
use Rattle.gos_check.specs.Nodes.{Numbered, Closed, Use, Under, One, Two, If, Binding, OfFun, OfNew, OfArray, OneForm, OfFst, OfSnd, OfDeref, OfNot, TwoForm, OfApp, OfBoth, OfSeq, OfPar, OfWhile, OfAssign, OfBin, Meaning, shifted, below, inside, binder_term, one_term, two_term}
use Rattle.gos_terms.specs.meanings.Meanings.{IsLeaf, BodyIsInstantiated, standing}
use Rattle.gos_terms.proofs.meanings.MapLemmas.{IsByForms, UsesKnown, IsShifted, mapped}
use Rattle.gos_terms.proofs.meanings.StillLemmas.{other, put_still, shift_still}
use Rattle.gos_realises.proofs.realises.RenumberLemmas.{tests_agree}

module _ (t : Term) where
  puts : ℕ → Term → Term
  puts d m = put_at d t m

  puts_leaf : (d : ℕ) (c : Term) → IsLeaf c → put_at d t c ≡ c
  puts_leaf d terms.Skip leaf = refl
  puts_leaf d (terms.Lit k w) leaf = refl
  puts_leaf d (terms.Bound j) leaf = absurd leaf
  puts_leaf d (terms.Import x) leaf = absurd leaf
  puts_leaf d (terms.Lam a m) leaf = absurd leaf
  puts_leaf d (terms.App m p) leaf = absurd leaf
  puts_leaf d (terms.Both m p) leaf = absurd leaf
  puts_leaf d (terms.Fst m) leaf = absurd leaf
  puts_leaf d (terms.Snd m) leaf = absurd leaf
  puts_leaf d (terms.Seq m p) leaf = absurd leaf
  puts_leaf d (terms.Par m p) leaf = absurd leaf
  puts_leaf d (terms.If m p q) leaf = absurd leaf
  puts_leaf d (terms.While m p) leaf = absurd leaf
  puts_leaf d (terms.Assign m p) leaf = absurd leaf
  puts_leaf d (terms.Deref m) leaf = absurd leaf
  puts_leaf d (terms.New w m) leaf = absurd leaf
  puts_leaf d (terms.NewArray n w m) leaf = absurd leaf
  puts_leaf d (terms.Not m) leaf = absurd leaf
  puts_leaf d (terms.Bin op m p) leaf = absurd leaf
  puts_leaf d (terms.Loc j) leaf = absurd leaf
  puts_leaf d (terms.Arr j) leaf = absurd leaf
  puts_leaf d (terms.Scope j m) leaf = absurd leaf
  puts_leaf d (terms.Wait x s) leaf = absurd leaf
  puts_leaf d (terms.Held k op m) leaf = absurd leaf
  puts_leaf d (terms.Put m k) leaf = absurd leaf

  puts_binder : (d : ℕ) (b : Binding) (a : Type') (m : Term) → put_at d t (binder_term b a m) ≡ binder_term b a (put_at (suc d) t m)
  puts_binder d OfFun a m = refl
  puts_binder d (OfNew w) a m = refl
  puts_binder d (OfArray k w) a m = refl

  puts_one : (d : ℕ) (g : OneForm) (m : Term) → put_at d t (one_term g m) ≡ one_term g (put_at d t m)
  puts_one d OfFst m = refl
  puts_one d OfSnd m = refl
  puts_one d OfDeref m = refl
  puts_one d OfNot m = refl

  puts_two : (d : ℕ) (g : TwoForm) (m n : Term) → put_at d t (two_term g m n) ≡ two_term g (put_at d t m) (put_at d t n)
  puts_two d OfApp m n = refl
  puts_two d OfBoth m n = refl
  puts_two d OfSeq m n = refl
  puts_two d OfPar m n = refl
  puts_two d OfWhile m n = refl
  puts_two d OfAssign m n = refl
  puts_two d (OfBin op) m n = refl

  puts_forms : IsByForms (λ d m. put_at d t m)
  puts_forms = record { leaf = puts_leaf; binder = puts_binder; one = puts_one; two = puts_two; choice = λ d m n p. refl }

  -- A number stands for a variable before, and for the term with ours after; or for a term without variables.
  abbrev R : ℕ → Term → Term → Type 0
  R d a b = (put_at d t a ≡ b) × (((j : ℕ) × (a ≡ terms.Bound j)) ⊎ ((shifted a ≡ a) × ((e : ℕ) → put_at e t a ≡ a)))

  abbrev all : Term → Bool
  all m = true

  all_known : (env : Meaning) (m : Numbered) → UsesKnown all env m
  all_known env (Closed u ss c) = tt
  all_known env (Use u ss n) = refl
  all_known env (Under u ss b n m) = all_known (below n (inside ss env)) m
  all_known env (One u ss f m) = all_known (inside ss env) m
  all_known env (Two u ss f m n) = (all_known (inside ss env) m, all_known (inside ss env) n)
  all_known env (If u ss m n p) = (all_known (inside ss env) m, all_known (inside ss env) n, all_known (inside ss env) p)

  module _ (same : shifted t ≡ t) where
    suc_same : (j d : ℕ) → nat_eq (suc j) (suc d) ≡ nat_eq j d
    suc_same j d = tests_agree (suc j) (suc d) j d (λ e. omega (arith, e)) (λ e. ap suc e)

    variable_further : (d j : ℕ) → put_at (suc d) t (terms.Bound (suc j)) ≡ shifted (put_at d t (terms.Bound j))
    variable_further d j = ap (λ (b : Bool). if b then t else terms.Bound (suc j)) (suc_same j d) ∙ by_test (nat_eq j d)
      where
        by_test : (b : Bool) → (if b then t else terms.Bound (suc j)) ≡ shifted (if b then t else terms.Bound j)
        by_test true = sym same
        by_test false = refl

    further : (d : ℕ) (a b : Term) → R d a b → R (suc d) (shifted a) (shifted b)
    further d a b (is, inl (j, e)) = (
      ap (λ (x : Term). put_at (suc d) t (shifted x)) e
          ∙ (variable_further d j ∙ (ap (λ (x : Term). shifted (put_at d t x)) (sym e) ∙ ap shifted is)),
      inl (suc j, ap shifted e),
    )
    further d a b (is, inr (still, puts)) =
        let after : a ≡ b = sym (puts d) ∙ is in (
          ap (put_at (suc d) t) still ∙ (puts (suc d) ∙ (after ∙ (sym after ∙ (sym still ∙ ap shifted after)))),
          inr (ap shifted still, λ e. ap (put_at e t) still ∙ (puts e ∙ sym still)),
        )

    shifts : IsShifted (λ d m. put_at d t m) all R
    shifts =
        record {
          gives = λ d a b r. r.0;
          first = λ d. (ap (λ (b : Bool). if b then t else terms.Bound 0) (other 0 (suc d) (omega arith)), inl (0, refl));
          further = further;
          known_before = λ a is. refl;
        }

pub body_is_instantiated : BodyIsInstantiated
body_is_instantiated i env n m t a leaves typed closed =
    mapped (λ d x. put_at d t x) (all t) (R t) (puts_forms t) (shifts t (shift_still i t a typed)) 0 m (below n env) (standing n t env) leaves
    (all_known t (below n env) m) related
  where
    related : (k : ℕ) → true ≡ true → R t 0 (below n env k) (standing n t env k)
    related k is = by_test (nat_eq k n)
      where
        by_test : (b : Bool) → R t 0 (if b then terms.Bound 0 else shifted (env k)) (if b then t else env k)
        by_test true = (refl, inl (0, refl))
        by_test false =
            let (b, h) = closed k in
            let still = shift_still i (env k) b h in (
              ap (put_at 0 t) still ∙ put_still i [] (env k) t b 0 (omega arith) h,
              inr (ap shifted still, λ e. ap (put_at e t) still ∙ (put_still i [] (env k) t b e (omega arith) h ∙ sym still)),
            )
