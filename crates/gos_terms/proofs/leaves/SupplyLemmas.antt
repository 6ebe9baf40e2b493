-- What comes from the supply of one number; and dots that are both at home, or both away.
use Rattle.std.specs.Prelude.{◌≡◌, ◌≢◌, ℕ, Option, Some, None, slice_get, nat_eq, true, false}
use Rattle.std.proofs.Common.{sym, ◌∙◌, subst}
use Rattle.gos_model.specs.Typing.{Imported}
use Rattle.gos_model.proofs.NumberLemmas.{number_cases}
use Rattle.gos_plan.specs.Kinds.{Part}
use Rattle.gos_joining.specs.webs.Webs.{Dot, Web, Way}
use Rattle.gos_terms.specs.wired.Wired.{Supplies, Supplied, Origin}
use Rattle.gos_supplies.specs.unjoined.Homes.{AreHome}
use Rattle.gos_terms.proofs.leaves.TieLemmas.{if_number, same_number, is_number}

-- the imports of the supply of n
abbrev pub import_by : ℕ → Origin → Option ℕ
import_by n o = if_number o.number n o.import

pub part_is : (env : Supplies) (n m l k : ℕ) (x : Part) → slice_get (env m).plan.parts l ≡ Some x → if_number m n l ≡ Some k
    → (Supplied n k ≡ Supplied m l) × (slice_get (env n).plan.parts k ≡ Some x)
part_is env n m l k x from picked =
    let (number, part) = is_number m n l k picked in (
      (λ a. Supplied (sym number a) (sym part a)),
      subst (λ (a : ℕ). slice_get (env a).plan.parts k ≡ Some x) number (subst (λ (a : ℕ). slice_get (env m).plan.parts a ≡ Some x) part from),
    )

pub import_is : (env : Supplies) (n : ℕ) (o : Origin) (x : Imported) (k : ℕ) → slice_get (env o.number).plan.imports o.import ≡ Some x → import_by n o ≡ Some k
    → (record { number = n; import = k } ≡ o) × (slice_get (env n).plan.imports k ≡ Some x)
import_is env n o x k from picked =
    let (number, part) = is_number o.number n o.import k picked in (
      (λ a. record { number = sym number a; import = sym part a }),
      subst (λ (a : ℕ). slice_get (env a).plan.imports k ≡ Some x) number
          (subst (λ (a : ℕ). slice_get (env o.number).plan.imports a ≡ Some x) part from),
    )

-- what isn't of this number is of another
pub other_one : {A : Type 0} (m n : ℕ) (x : A) → if_number m n x ≡ None → m ≢ n
other_one m n x none e = let both : Some x ≡ None = sym (same_number m n x e) ∙ none in cc both

pub at_home : (v : Web) (a b : Dot) (o u : Option Dot) → o ≡ Some a → u ≡ Some b → Way v.ties a b → AreHome v o u
at_home v a b o u first second way =
    subst (λ (x : Option Dot). AreHome v x u) (sym first) (subst (λ (x : Option Dot). AreHome v (Some a) x) (sym second) way)

pub away : (v : Web) (o u : Option Dot) → o ≡ None → u ≡ None → AreHome v o u
away v o u first second =
    subst (λ (x : Option Dot). AreHome v x u) (sym first) (subst (λ (x : Option Dot). AreHome v None x) (sym second) tt)

-- two dots of one number alone
pub both_home : (v : Web) (n k : ℕ) (a b : Dot) (o u : Option Dot) → (k ≡ n → (o ≡ Some a) × (u ≡ Some b) × Way v.ties a b)
    → (k ≢ n → (o ≡ None) × (u ≡ None)) → AreHome v o u
both_home v n k a b o u same other = number_cases k n here there
  where
    here : k ≡ n → nat_eq k n ≡ true → AreHome v o u
    here e h = let (first, second, way) = same e in at_home v a b o u first second way

    there : k ≢ n → nat_eq k n ≡ false → AreHome v o u
    there e h = let (first, second) = other e in away v o u first second
