-- How tables of first numbers grow.
use Rattle.std.specs.Prelude.{◌≡◌, ℕ, ◌+◌, Bool, true, false, List, [], ◌∷◌, Option, Some, None}
use Rattle.std.specs.List.{position_from}
use Rattle.std.specs.Cmp.Lexicographic.{nat_list_eq_equiv}
use Rattle.std.specs.Str.{bytes_eq}
use Rattle.std.specs.Map.{lookup}
use Rattle.std.proofs.Common.{refl, sym, ap, ◌∙◌, cond}
use Rattle.std.proofs.lemmas.Iterator.Adapters.{position_from-zero}
use Rattle.gos_lex.specs.Lines.{Word}
use Rattle.gos_link.specs.declared.build.Instance.{Instance}
use Rattle.gos_link.specs.Services.{instance_named}
use Rattle.gos_link.specs.inner.Firsts.{or_first, AreFirst}

-- the number that was found, or else one that is found later
abbrev or_later : Option ℕ → Option ℕ → Option ℕ
or_later None later = later
or_later (Some k) later = Some k

not_later : (found : Option ℕ) → or_later found None ≡ found
not_later None = refl
not_later (Some k) = refl

one_sooner : (found : Option ℕ) (own : Bool) (n : ℕ) (later : Option ℕ) → or_later (or_first found own n) later ≡ or_later found (cond own (Some n) later)
one_sooner None true n later = refl
one_sooner None false n later = refl
one_sooner (Some k) own n later = refl

same_test : (a b : Word) → bytes_eq a b ≡ bytes_eq b a
same_test a b = nat_list_eq_equiv.symm a b

-- the number of the first of instances of this name, where the first of all has number n
abbrev named_from : Word → ℕ → List Instance → Option ℕ
named_from name n is = position_from (λ i. bytes_eq i.name name) n is

-- a name that the entries don't have is found among the instances that are left, from number n on, or nowhere
abbrev pub AreFirstSo : List (Word × ℕ) → ℕ → List Instance → List Instance → Type 0
AreFirstSo entries n rest is = (name : Word) → or_later (lookup (bytes_eq name) entries) (named_from name n rest) ≡ instance_named is name

pub none_yet : (is : List Instance) → AreFirstSo [] 0 is is
none_yet is name = sym (position_from-zero (λ i. bytes_eq i.name name) is)

pub one_more : (is rest others : List Instance) (n : ℕ) (i : Instance) (old new : List (Word × ℕ)) → AreFirstSo old n rest is → rest ≡ i ∷ others
    → ((name : Word) → lookup (bytes_eq name) new ≡ or_first (lookup (bytes_eq name) old) (bytes_eq name i.name) n) → AreFirstSo new (n + 1) others is
one_more is rest others n i old new known here adds name =
    let now = lookup (bytes_eq name) old in
    ap (λ (found : Option ℕ). or_later found (named_from name (n + 1) others)) (adds name)
    ∙ (one_sooner now (bytes_eq name i.name) n (named_from name (n + 1) others)
    ∙ (ap (λ (own : Bool). or_later now (cond own (Some n) (named_from name (n + 1) others))) (same_test name i.name)
    ∙ (ap (λ (is : List Instance). or_later now (named_from name n is)) (sym here) ∙ known name)))

pub all_found : (is rest : List Instance) (n : ℕ) (entries : List (Word × ℕ)) → AreFirstSo entries n rest is → rest ≡ [] → AreFirst is entries
all_found is rest n entries known ends name =
    sym (not_later (lookup (bytes_eq name) entries)) ∙ (ap (λ (is : List Instance). or_later (lookup (bytes_eq name) entries) (named_from name n is)) (sym ends) ∙ known name)
