-- A name that no import has: it is longer than all of theirs together.
use Rattle.std.specs.Prelude.{◌≡◌, ◌≢◌, zero, suc, ◌≤◌, [], ◌∷◌, ◌++◌, length, Contains}
use Rattle.std.proofs.Common.{ap, arith}
use Rattle.std.proofs.lemmas.List.{length-append}
use Rattle.gos_model.specs.Terms.{Name}
use Rattle.gos_model.specs.Typing.{Imported, Imports}

abbrev names_joined : Imports → Name
names_joined [] = []
names_joined (i ∷ is) = i.name ++ names_joined is

abbrev pub fresh_name : Imports → Name
fresh_name is = 0 ∷ names_joined is

no_longer : (is : Imports) (i : Imported) → Contains is i → length i.name ≤ length (names_joined is)
no_longer [] i (k, small, e) = absurd (omega (arith, small))
no_longer (j ∷ is) i (zero, small, e) =
    let same : length j.name ≡ length i.name = ap (λ (x : Imported). length x.name) e in
    let sum = length-append j.name (names_joined is) in
    omega (arith, same, sum)
no_longer (j ∷ is) i (suc k, small, e) =
    let rest = no_longer is i (k, omega (arith, small), e) in
    let sum = length-append j.name (names_joined is) in
    omega (arith, rest, sum)

pub is_fresh : (is : Imports) (i : Imported) → Contains is i → i.name ≢ fresh_name is
is_fresh is i has e =
    let short = no_longer is i has in
    let same : length i.name ≡ length (fresh_name is) = ap (λ (x : Name). length x) e in
    omega (arith, short, same)
