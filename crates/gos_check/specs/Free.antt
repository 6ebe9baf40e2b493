-- The free names of a term, and those that two parts share.
--
-- Read first: Trees of gos_syntax, Faults.
use Rattle.std.specs.Prelude.{ℕ, List, [], ◌∷◌, ◌++◌, Option, Some, None, Ok, Err, if◌then◌else◌}
use Rattle.std.specs.Str.{bytes_eq}
use Rattle.gos_lex.specs.declared.token.Span.{Span}
use Rattle.gos_syntax.specs.Trees.{Tree, Skip, Lit, Use, Lam, New, Array, App, Both, Fst, Snd, Seq, Par, If, While, Assign, Deref, Not, Bin}
use Rattle.gos_check.specs.declared.free.Occurrence.{Occurrence}
use Rattle.gos_check.specs.Faults.{Shared, Found}

-- where a name stands first in a list of names
abbrev pub place_in : List Occurrence → List ℕ → Option Span
place_in [] x = None
place_in (o ∷ os) x = if bytes_eq o.name x then Some o.span else place_in os x

-- a name before others, where it has no place
abbrev pub new_before : Option Span → Occurrence → List Occurrence → List Occurrence
new_before None o os = o ∷ os
new_before (Some span) o os = os

-- the names of a list that another hasn't
abbrev pub besides : List Occurrence → List Occurrence → List Occurrence
besides os [] = []
besides os (p ∷ ps) = new_before (place_in os p.name) p (besides os ps)

-- the names of one part, and then those that only the other has
abbrev pub joined : List Occurrence → List Occurrence → List Occurrence
joined os ps = os ++ besides os ps

-- all names but one
abbrev pub without : List ℕ → List Occurrence → List Occurrence
without x [] = []
without x (o ∷ os) = if bytes_eq o.name x then without x os else o ∷ without x os

-- the free names of a tree, each once at its first occurrence, in their order
abbrev pub free : Tree → List Occurrence
free (Skip s) = []
free (Lit s k w) = []
free (Use s x) = record { name = x; span = s } ∷ []
free (Lam s x a t m) = without x (free m)
free (New s x w t m) = without x (free m)
free (Array s x n u w t m) = without x (free m)
free (App s m n) = joined (free m) (free n)
free (Both s m n) = joined (free m) (free n)
free (Fst s m) = free m
free (Snd s m) = free m
free (Seq s m n) = joined (free m) (free n)
free (Par s m n) = joined (free m) (free n)
free (If s m n p) = joined (joined (free m) (free n)) (free p)
free (While s m n) = joined (free m) (free n)
free (Assign s m n) = joined (free m) (free n)
free (Deref s m) = free m
free (Not s m) = free m
free (Bin s op m n) = joined (free m) (free n)

-- the fault of a name that the right part has at a place, or what else is found
abbrev pub apart_from : Occurrence → Option Span → Found (Unit {0}) → Found (Unit {0})
apart_from o None others = others
apart_from o (Some second) others = Err (Shared o.name o.span second)

-- two parts share no name; else the fault names the first of the left part that the right part has
abbrev pub apart : List Occurrence → List Occurrence → Found (Unit {0})
apart [] ps = Ok tt
apart (o ∷ os) ps = apart_from o (place_in ps o.name) (apart os ps)
