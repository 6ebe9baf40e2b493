-- The substituted program of linked modules.
--
-- Read first: Moves, Weight. It is the root's body, in which each bound import is the substituted program of its giver. The
-- open imports stay as names, in the order of the instances.
use Rattle.std.specs.Prelude.{ℕ, zero, suc, List, [], ◌∷◌, ◌++◌, length, sum_by, Option, Some, None, nat_eq, ◌&&◌, if◌then◌else◌}
use Rattle.std.specs.Str.{bytes_eq}
use Rattle.gos_model.specs.Terms.{Name, Term, Skip, Lit, Bound, Import, Lam, App, Both, Fst, Snd, Seq, Par, If, While, Assign, Deref, New, NewArray, Not, Bin, Loc, Arr, Scope, Wait, Held, Put}
use Rattle.gos_model.specs.Typing.{Imports, Imported}
use Rattle.gos_model.specs.Weight.{weight}
use Rattle.gos_model.specs.Moves.{Program}

-- what stands for an import
abbrev pub or_import : Name → Option Term → Term
or_import x None = Import x
or_import x (Some n) = n

-- A term with f x for each import x that f gives a term for. These terms have no free variable.
abbrev pub supplied : (Name → Option Term) → Term → Term
supplied f Skip = Skip
supplied f (Lit k w) = Lit k w
supplied f (Bound i) = Bound i
supplied f (Import x) = or_import x (f x)
supplied f (Lam a m) = Lam a (supplied f m)
supplied f (App m n) = App (supplied f m) (supplied f n)
supplied f (Both m n) = Both (supplied f m) (supplied f n)
supplied f (Fst m) = Fst (supplied f m)
supplied f (Snd m) = Snd (supplied f m)
supplied f (Seq m n) = Seq (supplied f m) (supplied f n)
supplied f (Par m n) = Par (supplied f m) (supplied f n)
supplied f (If m n p) = If (supplied f m) (supplied f n) (supplied f p)
supplied f (While m n) = While (supplied f m) (supplied f n)
supplied f (Assign m n) = Assign (supplied f m) (supplied f n)
supplied f (Deref m) = Deref (supplied f m)
supplied f (New w m) = New w (supplied f m)
supplied f (NewArray n w m) = NewArray n w (supplied f m)
supplied f (Not m) = Not (supplied f m)
supplied f (Bin op m n) = Bin op (supplied f m) (supplied f n)
supplied f (Loc l) = Loc l
supplied f (Arr l) = Arr l
supplied f (Scope l m) = Scope l (supplied f m)
supplied f (Wait x s) = Wait x s
supplied f (Held k op n) = Held k op (supplied f n)
supplied f (Put m k) = Put (supplied f m) k

-- the giver at instance number `giver` serves the import at instance number `user`
pub record Bind : Type 0 where
  pub user : ℕ
  pub import : Name
  pub giver : ℕ

-- the modules' programs, by the number of their instance
abbrev pub Instances : Type 0
Instances = List Program

-- the giver of import x of instance u
abbrev pub giver_of : List Bind → ℕ → Name → Option ℕ
giver_of [] u x = None
giver_of (b ∷ bs) u x = if nat_eq b.user u && bytes_eq b.import x then Some b.giver else giver_of bs u x

-- the body of an instance
abbrev pub body_at : Instances → ℕ → Term
body_at [] i = Skip
body_at (p ∷ ps) zero = p.body
body_at (p ∷ ps) (suc i) = body_at ps i

-- the term of the giver, where there is one
abbrev pub with_giver : (ℕ → Term) → Option ℕ → Option Term
with_giver f None = None
with_giver f (Some g) = Some (f g)

-- The body of instance i with its givers put in, and theirs in them, n levels deep. A link has no ring, so its number
-- of instances is deep enough.
abbrev pub linked : Instances → List Bind → ℕ → ℕ → Term
linked ps bs zero i = body_at ps i
linked ps bs (suc n) i = supplied (λ x. with_giver (linked ps bs n) (giver_of bs i x)) (body_at ps i)

-- an import with the ones after it, if nothing serves it
abbrev pub add_open : Option ℕ → Imported → Imports → Imports
add_open None i is = i ∷ is
add_open (Some g) i is = is

-- the imports of an instance that nothing serves
abbrev pub open_of : List Bind → ℕ → Imports → Imports
open_of bs u [] = []
open_of bs u (i ∷ is) = add_open (giver_of bs u i.name) i (open_of bs u is)

-- the open imports of all instances, from number u on
abbrev pub open_from : List Bind → ℕ → Instances → Imports
open_from bs u [] = []
open_from bs u (p ∷ ps) = open_of bs u p.imports ++ open_from bs (suc u) ps

-- the root's body with all givers put in, and the open imports of all instances
abbrev pub substituted : Instances → List Bind → ℕ → Program
substituted ps bs root = record { imports = open_from bs 0 ps; body = linked ps bs (length ps) root }

-- the weight of a link: the sum over its instances
abbrev pub link_weight : Instances → ℕ
link_weight = sum_by (λ p. weight p.imports p.body)
