-- The free names of a numbered term, each with its number there, and what becomes of them at a binder and where two parts
-- come together.
--
-- Read first: Nodes (splits).
use Rattle.std.specs.Prelude.{ℕ, suc, List, [], ◌∷◌, ◌++◌, Option, Some, None, if◌then◌else◌}
use Rattle.std.specs.Str.{bytes_eq}
use Rattle.gos_check.specs.declared.opens.Open.{Open}
use Rattle.gos_check.specs.declared.linear.Split.{Split}

-- the number of a name
abbrev pub number_in : List Open → List ℕ → Option ℕ
number_in [] x = None
number_in (o ∷ os) x = if bytes_eq o.name x then Some o.number else number_in os x

-- all names but one
abbrev pub others : List ℕ → List Open → List Open
others x [] = []
others x (o ∷ os) = if bytes_eq o.name x then others x os else o ∷ others x os

-- the next number, where one is taken if a name has a number already
abbrev pub next_if : Option ℕ → ℕ → ℕ
next_if None n = n
next_if (Some r) n = suc n

-- a name of the left part, with a new number if the right part has it too
abbrev pub outside : Option ℕ → ℕ → Open → Open
outside None n o = o
outside (Some r) n o = record { name = o.name; number = n }

-- the split of that name, if it needs one
abbrev pub split_of : Option ℕ → ℕ → Open → List Split
split_of None n o = []
split_of (Some r) n o = record { of = n; left = o.number; right = r } ∷ []

-- the splits of two parts, the names that they leave open together, and the next number
abbrev pub merged_splits : List Open → List Open → ℕ → List Split
merged_splits [] ps n = []
merged_splits (o ∷ os) ps n =
    split_of (number_in ps o.name) n o ++ merged_splits os (others o.name ps) (next_if (number_in ps o.name) n)

abbrev pub merged_names : List Open → List Open → ℕ → List Open
merged_names [] ps n = ps
merged_names (o ∷ os) ps n =
    outside (number_in ps o.name) n o ∷ merged_names os (others o.name ps) (next_if (number_in ps o.name) n)

abbrev pub merged_next : List Open → List Open → ℕ → ℕ
merged_next [] ps n = n
merged_next (o ∷ os) ps n = merged_next os (others o.name ps) (next_if (number_in ps o.name) n)

-- the number of a binder, which is new where its name isn't used
abbrev pub binder_number : Option ℕ → ℕ → ℕ
binder_number None n = n
binder_number (Some r) n = r

-- the next number after a binder
abbrev pub binder_next : Option ℕ → ℕ → ℕ
binder_next None n = suc n
binder_next (Some r) n = n
