-- Ways down a term, and what stands around a place.
--
-- Read first: NodeLists; Paths of gos_model, Heads of gos_swaps. A way goes down reached places (ReachedAt), or reached places and then heads
-- (HeadAt), by zones. Beside these relations stand the part that it leads to, and the whole with another term there.
use Rattle.std.specs.Prelude.{◌≡◌, ◌<◌, ℕ, zero, suc, List, [], ◌∷◌, Option, Some, None, length}
use Rattle.gos_model.specs.Terms.{Term, Lam, App, Both, Fst, Snd, Seq, Par, If, While, Assign, Deref, New, NewArray, Not, Bin, Arr, Scope, Wait, Held, Put}
use Rattle.gos_model.specs.Reach.{Rel, IsArrayHead, IsArrayPlace}
use Rattle.gos_model.specs.Paths.{ReachedAt}
use Rattle.gos_swaps.specs.doings.Heads.{HeadAt}
use Rattle.gos_witness.specs.NodeLists.{Tables, Listed, one_term, two_term, seen, shape, FitsOne, Fits}
use Rattle.gos_witness.specs.declared.nodes.Form.{Form}
use Rattle.gos_witness.specs.declared.reading_nodes.Access.{Access}
use Rattle.gos_witness.specs.declared.reading_nodes.Access.TheVariants as accesses
use Rattle.gos_witness.specs.declared.walking.Zone.{Zone}
use Rattle.gos_witness.specs.declared.walking.Zone.TheVariants as zones
use Rattle.gos_witness.specs.declared.walking.Frame.{Frame}
use Rattle.gos_witness.specs.declared.walking.Frame.TheVariants as frames
use Rattle.gos_witness.specs.declared.walking.Entered.{Entered}
use Rattle.gos_witness.specs.declared.walking.Place.{Place}

-- what a step down leads to: a reached part, the function part of a head, and the variable of a read or a write
abbrev pub reached : Zone → Term → Option (Zone × Term)
reached zones.Reached m = Some (zones.Reached, m)
reached zones.Head m = Some (zones.Head, m)
reached z m = None

abbrev pub under : Zone → Term → Option (Zone × Term)
under zones.Head m = Some (zones.Under, m)
under zones.Under m = Some (zones.Under, m)
under zones.Aside m = Some (zones.Under, m)
under z m = None

abbrev pub aside : Zone → Term → Option (Zone × Term)
aside zones.Reached m = Some (zones.Access, m)
aside zones.Head m = Some (zones.Aside, m)
aside z m = None

-- The argument of an access whose index is reached. That of a port is a pair, whose second is the index, as it is now; that of an
-- array of the program's own is the index.
abbrev pub pair : Zone → Term → Option (Zone × Term)
pair zones.Access m = Some (zones.Pair, m)
pair zones.Aside m = Some (zones.HeadPair, m)
pair z m = None

abbrev pub own : Zone → Term → Option (Zone × Term)
own zones.Access m = Some (zones.Reached, m)
own zones.Aside m = Some (zones.Head, m)
own z m = None

abbrev pub argument : Zone → Term → Term → Option (Zone × Term)
argument z (Wait x zero) n = pair z n
argument z (Arr l) n = own z n
argument z m n = None

-- which access an application is, by its function part
abbrev pub IsAccess : Access → Term → Type 0
IsAccess accesses.No m = (IsArrayHead m → ⊥) × (IsArrayPlace m → ⊥)
IsAccess accesses.Port m = IsArrayHead m
IsAccess (accesses.Array l) m = m ≡ Arr l

abbrev pub index : Zone → Term → Option (Zone × Term)
index zones.Pair m = Some (zones.Reached, m)
index zones.HeadPair m = Some (zones.Head, m)
index z m = None

-- one step down, to the child with this number
abbrev pub child : Zone → Term → ℕ → Option (Zone × Term)
child z (Seq m n) zero = reached z m
child z (Par m n) zero = reached z m
child z (Par m n) (suc zero) = reached z n
child z (If m n p) zero = reached z m
child z (Bin op m n) zero = reached z m
child z (Held k op n) zero = reached z n
child z (Not m) zero = reached z m
child z (Assign m n) (suc zero) = reached z n
child z (Scope l m) zero = reached z m
child z (App m n) zero = under z m
child z (App m n) (suc zero) = argument z m n
child z (Both m n) (suc zero) = index z n
child z (Fst m) zero = under z m
child z (Snd m) zero = under z m
child z (Put m k) zero = aside z m
child z (Deref m) zero = aside z m
child z m i = None

-- a term with another child
abbrev pub with_child : ℕ → Term → Term → Term
with_child zero (Lam a m) x = Lam a x
with_child zero (App m n) x = App x n
with_child zero (Both m n) x = Both x n
with_child zero (Fst m) x = Fst x
with_child zero (Snd m) x = Snd x
with_child zero (Seq m n) x = Seq x n
with_child zero (Par m n) x = Par x n
with_child zero (If m n p) x = If x n p
with_child zero (While m n) x = While x n
with_child zero (Assign m n) x = Assign x n
with_child zero (Deref m) x = Deref x
with_child zero (New w m) x = New w x
with_child zero (NewArray n w m) x = NewArray n w x
with_child zero (Not m) x = Not x
with_child zero (Bin op m n) x = Bin op x n
with_child zero (Scope l m) x = Scope l x
with_child zero (Held k op n) x = Held k op x
with_child zero (Put m k) x = Put x k
with_child (suc zero) (App m n) x = App m x
with_child (suc zero) (Both m n) x = Both m x
with_child (suc zero) (Seq m n) x = Seq m x
with_child (suc zero) (Par m n) x = Par m x
with_child (suc zero) (While m n) x = While m x
with_child (suc zero) (Assign m n) x = Assign m x
with_child (suc zero) (Bin op m n) x = Bin op m x
with_child i m x = m

abbrev pub and_part : (Zone → Term → Option Term) → Option (Zone × Term) → Option Term
and_part f None = None
and_part f (Some c) = f c.0 c.1

abbrev pub and_term : (Zone → Term → Term) → Term → Option (Zone × Term) → Term
and_term f m None = m
and_term f m (Some c) = f c.0 c.1

-- the part at which a way ends in a zone; the way to an index doesn't end before it
abbrev pub ended : Zone → Term → Option Term
ended zones.Access m = None
ended zones.Pair m = None
ended zones.HeadPair m = None
ended z m = Some m

-- the part to which a way leads
abbrev pub part_at : Zone → List ℕ → Term → Option Term
part_at z [] m = ended z m
part_at z (i ∷ path) m = and_part (λ y c. part_at y path c) (child z m i)

-- the whole with another term there
abbrev pub replaced : Zone → List ℕ → Term → Term → Term
replaced z [] m x = x
replaced z (i ∷ path) m x = with_child i m (and_term (λ y c. replaced y path c x) m (child z m i))

-- R changes the place at this way, which begins among reached places or heads
abbrev pub At : Zone → List ℕ → Rel → Rel
At zones.Reached path R m t = ReachedAt path R m t
At zones.Head path R m t = HeadAt path R m t
At z path R m t = ⊥

-- a frame around a term
abbrev pub fill : Listed → Frame → Term → Term
fill l (frames.One o) m = one_term l.tables o m
fill l (frames.First o b) m = two_term o m (seen l b)
fill l (frames.Second o a) m = two_term o (seen l a) m
fill l (frames.Test b c) m = If m (seen l b) (seen l c)

-- frames around a term, the outermost first
abbrev pub plug : Listed → List Frame → Term → Term
plug l [] m = m
plug l (f ∷ fs) m = fill l f (plug l fs m)

-- the numbers in a frame are in range
abbrev pub FitsFrame : Tables → ℕ → Frame → Type 0
FitsFrame a i (frames.One o) = FitsOne a o
FitsFrame a i (frames.First o b) = b < i
FitsFrame a i (frames.Second o c) = c < i
FitsFrame a i (frames.Test b c) = (b < i) × (c < i)

abbrev pub AreFrames : Tables → ℕ → List Frame → Type 0
AreFrames a i [] = Unit {0}
AreFrames a i (f ∷ fs) = FitsFrame a i f × AreFrames a i fs

-- a step down from a form
pub record EntersAt (l : Listed) (z : Zone) (number : ℕ) (form : Form) (e : Entered) : Type 0 where
  pub child : child z (shape l form) number ≡ Some (e.zone, seen l e.part)
  pub others : (x : Term) → with_child number (shape l form) x ≡ fill l e.frame x
  pub part : (a : Tables) (i : ℕ) → Fits a i form → e.part < i
  pub frame : (a : Tables) (i : ℕ) → Fits a i form → FitsFrame a i e.frame

-- a way leads from a node to a place
pub record IsPlace (l : Listed) (root : ℕ) (z : Zone) (steps : List ℕ) (place : Place) : Type 0 where
  pub part : part_at z steps (seen l root) ≡ Some (seen l place.node)
  pub whole : (x : Term) → replaced z steps (seen l root) x ≡ plug l place.frames.items x
  pub there : place.node < length l.nodes
  pub frames : AreFrames l.tables (length l.nodes) place.frames.items
