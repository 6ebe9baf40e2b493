-- The bytes written to a sink that tells them, and how many writes it was asked for.
use Rattle.std.specs.Prelude.{◌≡◌, ◌⊎◌, ℕ, suc, List, ◌++◌, take, Option, Some, None}

-- the bytes written so far, and then these, where the sink tells them
abbrev pub appended : List ℕ → Option (List ℕ) → Option (List ℕ)
appended bytes None = None
appended bytes (Some written) = Some (written ++ bytes)

-- at most these bytes were appended: some first part of them, and the sink still tells its bytes if it did
abbrev pub AppendsPrefix : List ℕ → Option (List ℕ) → Option (List ℕ) → Type 0
AppendsPrefix bytes None None = Unit {0}
AppendsPrefix bytes None (Some new) = ⊥
AppendsPrefix bytes (Some old) None = ⊥
AppendsPrefix bytes (Some old) (Some new) = (n : ℕ) × (new ≡ old ++ take n bytes)

-- one more write, where the sink counts them; and one more or none
abbrev pub one_more : Option ℕ → Option ℕ
one_more None = None
one_more (Some n) = Some (suc n)

abbrev pub AtMostOneMore : Option ℕ → Option ℕ → Type 0
AtMostOneMore old new = (new ≡ old) ⊎ (new ≡ one_more old)
