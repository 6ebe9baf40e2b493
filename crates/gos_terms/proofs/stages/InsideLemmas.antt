-- Inside splits, split by split: what stands for a side is what stands for what is split, behind a Share.
use Rattle.std.specs.Prelude.{◌≢◌, ◌<◌, ◌⊎◌, ◌||◌, length, nat_eq, Contains}
use Rattle.std.proofs.Common.{◌≡◌, ℕ, zero, suc, Bool, true, false, List, [], ◌∷◌, inl, inr, refl, sym, ◌∙◌, ap, subst, arith, if◌then◌else◌}
use Rattle.std.proofs.lemmas.List.Elements.{All-push}
use Rattle.std.proofs.lemmas.Bool.{ne_eqb}
use Rattle.gos_types.specs.Types.{Type'}
use Rattle.gos_model.proofs.NumberLemmas.{number_cases}
use Rattle.gos_plan.specs.Kinds.{Share}
use Rattle.gos_plan.specs.Plans.{Plan, IsRight}
use Rattle.gos_plan.specs.TokenBits.{LiteralFits}
use Rattle.gos_realises.specs.realises.Realises.{Realises}
use Rattle.gos_realises.specs.realises.Modules.{Supply}
use Rattle.gos_check.specs.declared.linear.Split.{Split}
use Rattle.gos_check.specs.Nodes.{Meaning, inside, inside_one}
use Rattle.gos_check.specs.Linearity.{sides}
use Rattle.gos_check.proofs.TimesLemmas.{times_none}
use Rattle.gos_compile.specs.Wiring.{Types}
use Rattle.gos_sharing.specs.behind.Behind.{passing, IsBehind}
use Rattle.gos_sharing.proofs.behind.PassingLemmas.{lies_behind_share}
use Rattle.gos_sharing.proofs.behind.RegularLemmas.{behind_is_regular}
use Rattle.gos_sharing.specs.pair_types.Passing.{AnyPassingIsRealised}
use Rattle.gos_terms.specs.wired.Wired.{Supplies, terms_of}
use Rattle.gos_terms.specs.wired.NodeFitting.{AreOfTypes}
use Rattle.gos_terms.specs.stages.Inside.{behind_share, inside_one_supply, IsOrdered, AreOrdered, InsideIsOfTypes, InsideIsOrdered, RealisedAreOrdered, InsideIsRealised, InsideMeans, OthersStay}

-- a plan of a type, and behind a Share
abbrev pub IsOf : Type' → Plan → Type 0
IsOf t p = IsRight p × (p.outcome ≡ t)

pub lies_there : (t : Type') (c : ℕ) (p : Plan) → c < 2 → IsOf t p → IsBehind (length p.parts) t c (passing t c p) p
lies_there t c p two (right, outcome) =
    subst (λ (s : Type'). IsBehind (length p.parts) s c (passing s c p) p) outcome (lies_behind_share c p two right)

of_type : (t : Type') (c : ℕ) (p : Plan) → c < 2 → IsOf t p → IsOf t (passing t c p)
of_type t c p two of = ((lies_there t c p two of).right, of.1)

ordered : (t : Type') (c : ℕ) (p : Plan) → c < 2 → IsOf t p → IsOrdered p → IsOrdered (passing t c p)
ordered t c p two of is =
    record {
      literals = All-push LiteralFits p.parts (Share t) is.literals tt;
      regular = behind_is_regular (length p.parts) t c (passing t c p) p (lies_there t c p two of) is.literals is.regular;
    }

pub of_cons : (x : ℕ) (xs : List ℕ) (y : ℕ) → Contains (x ∷ xs) y → (x ≡ y) ⊎ Contains xs y
of_cons x xs y (zero, lt, e) = inl e
of_cons x xs y (suc n, lt, e) = inr (n, omega (arith, lt), e)

-- a number that is neither side of a split
apart : (s : Split) (ns : List ℕ) (n : ℕ) → n ≢ s.left → n ≢ s.right → Contains (s.left ∷ s.right ∷ ns) n → Contains ns n
apart s ns n l r there =
    elim (of_cons s.left (s.right ∷ ns) n there) [
      | inl e ↦ absurd (l (sym e))
      | inr more ↦ elim (of_cons s.right ns n more) [ inl e ↦ absurd (r (sym e)) | inr here ↦ here ]
    ]

-- Inside one split: what holds of each supply, at its number's type, and of the supply of what is split behind a Share.
module _ (Q : Type' → Supply → Type 0) (types : Types) (s : Split) (env : Supplies) (ns : List ℕ) (left : types s.left ≡ types s.of) (right : types s.right ≡ types s.of)
    (of : Contains ns s.of) (behind : (c : ℕ) → c < 2 → Q (types s.of) (env s.of) → Q (types s.of) (behind_share (types s.of) c (env s.of)))
    (are : (n : ℕ) → Contains ns n → Q (types n) (env n)) where
  side_so : (n c : ℕ) → c < 2 → types n ≡ types s.of → Q (types n) (behind_share (types s.of) c (env s.of))
  side_so n c two same =
      subst (λ (u : Type'). Q u (behind_share (types s.of) c (env s.of))) (sym same) (behind c two (are s.of of))

  abbrev Chosen : ℕ → Bool → Bool → Type 0
  Chosen n a b = Q (types n) (if a then behind_share (types s.of) 0 (env s.of) else if b then behind_share (types s.of) 1 (env s.of) else env n)

  pub one_so : (n : ℕ) → Contains (s.left ∷ s.right ∷ ns) n → Q (types n) (inside_one_supply types s env n)
  one_so n there =
      number_cases n s.left
      (λ e t. subst (λ (a : Bool). Chosen n a (nat_eq n s.right)) (sym t) (side_so n 0 (omega arith) (ap types e ∙ left)))
      (λ l f. subst (λ (a : Bool). Chosen n a (nat_eq n s.right)) (sym f)
      (number_cases n s.right
      (λ e t. subst (λ (b : Bool). Chosen n false b) (sym t) (side_so n 1 (omega arith) (ap types e ∙ right)))
      (λ r g. subst (λ (b : Bool). Chosen n false b) (sym g) (are n (apart s ns n l r there)))))

-- types
pub one_inside : (types : Types) (s : Split) (env : Supplies) (ns : List ℕ) → types s.left ≡ types s.of → types s.right ≡ types s.of → Contains ns s.of
    → AreOfTypes types env ns → AreOfTypes types (inside_one_supply types s env) (s.left ∷ s.right ∷ ns)
one_inside types s env ns left right of are =
    one_so (λ t x. IsOf t x.plan) types s env ns left right of (λ c two is. of_type (types s.of) c (env s.of).plan two is) are

pub inside_is_of_types : InsideIsOfTypes
inside_is_of_types types [] env ns agree split are = are
inside_is_of_types types (s ∷ ss) env ns (left, right, agree) (of, split) are =
    inside_is_of_types types ss (inside_one_supply types s env) (s.left ∷ s.right ∷ ns) agree split (one_inside types s env ns left right of are)

-- order
pub one_ordered : (types : Types) (s : Split) (env : Supplies) (ns : List ℕ) → types s.left ≡ types s.of → types s.right ≡ types s.of → Contains ns s.of
    → AreOfTypes types env ns → AreOrdered env ns → AreOrdered (inside_one_supply types s env) (s.left ∷ s.right ∷ ns)
one_ordered types s env ns left right of are have =
    one_so (λ t x. IsOrdered x.plan) types s env ns left right of (λ c two is. ordered (types s.of) c (env s.of).plan two (are s.of of) is) have

pub inside_is_ordered : InsideIsOrdered
inside_is_ordered types [] env ns agree split are have = have
inside_is_ordered types (s ∷ ss) env ns (left, right, agree) (of, split) are have =
    inside_is_ordered types ss (inside_one_supply types s env) (s.left ∷ s.right ∷ ns) agree split (one_inside types s env ns left right of are)
    (one_ordered types s env ns left right of are have)

pub realised_are_ordered : RealisedAreOrdered
realised_are_ordered types env ns are n there = record { literals = (are n there).suits.literals; regular = (are n there).suits.regular }

-- terms
pub inside_is_realised : AnyPassingIsRealised → InsideIsRealised
inside_is_realised passed types [] env ns agree split are = are
inside_is_realised passed types (s ∷ ss) env ns (left, right, agree) (of, split) are =
    inside_is_realised passed types ss (inside_one_supply types s env) (s.left ∷ s.right ∷ ns) agree split
    (one_so (λ t x. Realises t x.plan x.term) types s env ns left right of
    (λ c two is. passed (types s.of) c (env s.of).plan (env s.of).term two is) are)

picked : (t : Type') (x y : Supply) (a b : Bool)
    → (if a then behind_share t 0 x else if b then behind_share t 1 x else y).term ≡ (if a || b then x.term else y.term)
picked t x y true b = refl
picked t x y false true = refl
picked t x y false false = refl

one_means : (types : Types) (s : Split) (env : Supplies) → terms_of (inside_one_supply types s env) ≡ inside_one s (terms_of env)
one_means types s env = λ i k. at k i
  where
    at : (k : ℕ) → terms_of (inside_one_supply types s env) k ≡ inside_one s (terms_of env) k
    at k = picked (types s.of) (env s.of) (env k) (nat_eq k s.left) (nat_eq k s.right)

pub inside_means : InsideMeans
inside_means types [] env k = refl
inside_means types (s ∷ ss) env k =
    inside_means types ss (inside_one_supply types s env) k ∙ ap (λ (e : Meaning). inside ss e k) (one_means types s env)

-- and other numbers
pub one_stays : (types : Types) (s : Split) (env : Supplies) (k : ℕ) → k ≢ s.left → k ≢ s.right → inside_one_supply types s env k ≡ env k
one_stays types s env k l r = rw (ne_eqb k s.left l, ne_eqb k s.right r) refl

pub others_stay : OthersStay
others_stay types [] env k none = refl
others_stay types (s ∷ ss) env k none =
    let l = times_none k s.left (s.right ∷ sides ss) none in
    let r = times_none k s.right (sides ss) l.1 in
    others_stay types ss (inside_one_supply types s env) k r.1 ∙ one_stays types s env k l.0 r.0
