-- What each element is left as, and what is read of one.
use Rattle.std.specs.Prelude.{◌≡◌, ℕ, ◌<◌, List, [], ◌∷◌, get_or, length, map}
use Rattle.std.proofs.Common.{ap, refl, sym, ◌∙◌}
use Rattle.std.proofs.lemmas.List.{get_or-map}
use Rattle.gos_netlist.specs.Settling.{at}

pub map_same : (xs : List ℕ) → map (λ n. n) xs ≡ xs
map_same [] = refl
map_same (x ∷ xs) = ap (λ (ys : List ℕ). x ∷ ys) (map_same xs)

-- the number of a word that is read
pub number_read : {A : Type 0} (number : A → ℕ) (words : List A) (i : ℕ) (word : A) → i < length words → word ≡ get_or words i word → at (map number words) i ≡ number word
number_read number words i word low is = get_or-map number words i word 0 low ∙ ap number (sym is)
