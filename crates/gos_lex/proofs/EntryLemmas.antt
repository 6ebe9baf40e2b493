-- What a table has for a name once a key is added. Keys are of any type that holds the bytes of a name.
use Rattle.std.proofs.Common.{◌≡◌, ℕ, Bool, true, false, cond, List, [], ◌∷◌, refl, sym, ◌∙◌, ap, true≢false, Option, Some}
use Rattle.std.specs.Prelude.{if◌then◌else◌}
use Rattle.std.specs.Str.{bytes_eq}
use Rattle.std.specs.Map.{lookup}
use Rattle.std.proofs.lemmas.Slice.Eq.{bytes_eq-Decides}
use Rattle.indexmap.specs.IndexMap.{insert_entry}

-- an entry whose key is this one, changed in place
changed : {X : Type 0} (s t : Bool) (v x : X) (found : Option X) → s ≡ t → cond s (Some v) found ≡ cond t (Some v) (cond s (Some x) found)
changed true true v x found same = refl
changed true false v x found same = absurd (true≢false same)
changed false true v x found same = absurd (true≢false (sym same))
changed false false v x found same = refl

-- an entry of another key, which stays
kept : {X : Type 0} (s t : Bool) (v x : X) (rest found : Option X) → (s ≡ true → t ≡ true → ⊥) → rest ≡ cond t (Some v) found → cond s (Some x) rest ≡ cond t (Some v) (cond s (Some x) found)
kept true true v x rest found apart is = absurd (apart refl refl)
kept true false v x rest found apart is = refl
kept false t v x rest found apart is = is

module _ {K X : Type 0} (k : K) (v : X) (bytes : K → List ℕ) (name : List ℕ) where
  -- whether a key is that of the name
  abbrev test : K → Bool
  test key = bytes_eq name (bytes key)

  abbrev same : K → K → Bool
  same x y = bytes_eq (bytes x) (bytes y)

  step : (b : Bool) (e : K × X) (es : List (K × X)) → same k e.0 ≡ b → lookup test (insert_entry same es k v) ≡ cond (test k) (Some v) (lookup test es) → lookup test (if b then (e.0, v) ∷ es else e ∷ insert_entry same es k v) ≡ cond (test k) (Some v) (cond (test e.0) (Some e.1) (lookup test es))
  step true e es is rest =
      let equal : bytes k ≡ bytes e.0 = (bytes_eq-Decides (bytes k) (bytes e.0)).0 is in
      changed (test e.0) (test k) v e.1 (lookup test es) (ap (bytes_eq name) (sym equal))
  step false e es is rest =
      kept (test e.0) (test k) v e.1 (lookup test (insert_entry same es k v)) (lookup test es)
      (λ at_e at_k.
      let first : name ≡ bytes e.0 = (bytes_eq-Decides name (bytes e.0)).0 at_e in
      let second : name ≡ bytes k = (bytes_eq-Decides name (bytes k)).0 at_k in
      true≢false (sym ((bytes_eq-Decides (bytes k) (bytes e.0)).1 (sym second ∙ first)) ∙ is))
      rest

  -- what the entries have for a name, once a key is added
  pub lookup_added : (es : List (K × X)) → lookup test (insert_entry same es k v) ≡ (if bytes_eq name (bytes k) then Some v else lookup test es)
  lookup_added [] = refl
  lookup_added (e ∷ es) = step (same k e.0) e es refl (lookup_added es)
