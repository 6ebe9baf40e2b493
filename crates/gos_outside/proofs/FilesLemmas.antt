-- A file that is put into the map leaves all others as they were.
use Rattle.std.proofs.Common.{◌≡◌, ◌≢◌, ℕ, Bool, true, false, cond, List, refl, ◌∙◌}
use Rattle.std.specs.Cmp.Lexicographic.{nat_list_cmp_total}
use Rattle.std.specs.FinMap.{get, insert, get-insert}
use Rattle.std.proofs.lemmas.Map.Views.{tells_apart}
use Rattle.std.proofs.lemmas.Map.Lookups.{exact_bytes}
use Rattle.gos_outside.specs.Files.{Files}

-- what a test chooses where it can't be true
chosen_last : {A : Type 0} (b : Bool) (x y : A) → (b ≡ true → ⊥) → cond b x y ≡ y
chosen_last true x y never = absurd (never refl)
chosen_last false x y never = refl

pub others_keep : (files : Files) (name bytes other : List ℕ) → other ≢ name → get (insert files name bytes) other ≡ get files other
others_keep files name bytes other apart =
    get-insert nat_list_cmp_total files name bytes other ∙ chosen_last _ _ _ (λ same. apart (tells_apart exact_bytes other name same))
