-- What a typed term means where its numbers stand for something else: for a term in the place of a bound variable, or of an import.
--
-- Read first: Nodes and Linearity of gos_check; Substitution and Linking of gos_model; Modules of gos_realises.
use Rattle.std.specs.Prelude.{◌≡◌, ℕ, List, [], Option, Some, None, nat_eq, slice_get, if◌then◌else◌}
use Rattle.gos_types.specs.Types.{Type'}
use Rattle.gos_model.specs.Terms as terms
use Rattle.gos_model.specs.Terms.{Term, Name}
use Rattle.gos_model.specs.Typing.{Imports, Typed}
use Rattle.gos_model.specs.Substitution.{instantiate}
use Rattle.gos_model.specs.Linking.{supplied}
use Rattle.gos_check.specs.Nodes.{Numbered, Closed, Use, Under, One, Two, If, Meaning, below, meaning}
use Rattle.gos_check.specs.Linearity.{import_at}
use Rattle.gos_realises.specs.realises.Realises.{NamesDiffer}
use Rattle.gos_realises.specs.realises.Modules.{Supply, term_for}

-- the nodes without parts are `skip` and literals
abbrev pub IsLeaf : Term → Type 0
IsLeaf terms.Skip = Unit {0}
IsLeaf (terms.Lit k w) = Unit {0}
IsLeaf c = ⊥

abbrev pub HasLeaves : Numbered → Type 0
HasLeaves (Closed t ss c) = IsLeaf c
HasLeaves (Use t ss n) = Unit {0}
HasLeaves (Under t ss b n m) = HasLeaves m
HasLeaves (One t ss f m) = HasLeaves m
HasLeaves (Two t ss f m n) = HasLeaves m × HasLeaves n
HasLeaves (If t ss m n p) = HasLeaves m × HasLeaves n × HasLeaves p

-- a number that stands for another term
abbrev pub standing : ℕ → Term → Meaning → Meaning
standing n t env = λ k. if nat_eq k n then t else env k

-- The body of a binder with a closed term for its variable is the body where the binder's number stands for that term.
abbrev pub BodyIsInstantiated : Type 0
BodyIsInstantiated =
    (i : Imports) (env : Meaning) (n : ℕ) (m : Numbered) (t : Term) (a : Type')
    → HasLeaves m → Typed i [] t a → ((k : ℕ) → (b : Type') × Typed i [] (env k) b)
    → instantiate (meaning (below n env) m) t ≡ meaning (standing n t env) m

-- the terms of supplies, by the numbers of the imports
abbrev pub term_or : Option Supply → Term
term_or None = terms.Skip
term_or (Some s) = s.term

-- The term of a module with its supplies is that term where the imports' numbers stand for these.
abbrev pub ModuleIsSupplied : Type 0
ModuleIsSupplied =
    (is : Imports) (js : Imports) (ss : List Supply) (m : Numbered) (t : Type')
    → HasLeaves m → NamesDiffer is → Typed is [] (meaning (import_at is) m) t
    → ((k : ℕ) (s : Supply) → slice_get ss k ≡ Some s → (a : Type') × Typed js [] s.term a)
    → ((k : ℕ) (x : Name) → import_at is k ≡ terms.Import x → (s : Supply) × (slice_get ss k ≡ Some s))
    → supplied (term_for is ss) (meaning (import_at is) m) ≡ meaning (λ k. term_or (slice_get ss k)) m

-- a node of `skip` has such leaves, and one of a variable has not
abbrev pub SkipHasLeaves : Type 0
SkipHasLeaves = (t : Type') → HasLeaves (Closed t [] terms.Skip)

abbrev pub VariableIsNoLeaf : Type 0
VariableIsNoLeaf = (t : Type') (n : ℕ) → HasLeaves (Closed t [] (terms.Bound n)) → ⊥
