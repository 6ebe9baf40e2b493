-- Small arrays: what a block with an array begins with, and what is read and written at an index.
--
-- Read first: Moves, Weight, Stores. The location of each array here is 0 where it is given.
use Rattle.std.specs.Prelude.{◌≡◌, ℕ, ◌^◌, ◌<◌, ◌≤◌, [], ◌∷◌, codes, Some, None}
use Rattle.gos_types.specs.Types.{Com, Exp, Var, Fun}
use Rattle.gos_model.specs.Terms.{Name, Term, Lit, Bound, Import, App, Seq, Assign, Deref, NewArray, Bin, Add, Arr, Scope, Wait, Put}
use Rattle.gos_model.specs.Substitution.{instantiate}
use Rattle.gos_model.specs.Typing.{IsLength, index_width, Imports, Typed}
use Rattle.gos_model.specs.Weight.{weight}
use Rattle.gos_model.specs.Stores.{array_at, Store, number_at}
use Rattle.gos_model.specs.Steps.{Computes, Steps}
use Rattle.gos_model.specs.Labels.{given, taken}
use Rattle.gos_model.specs.Moves.{Program, Trace, Computing, Showing, Running, Acts, Move}

-- as many numbers as its index has
abbrev pub LengthIsPower : Type 0
LengthIsPower = (n : ℕ) → IsLength n → (n ≡ 2 ^ index_width n) × (1 ≤ index_width n) × (index_width n ≤ 4)

-- A block begins with zeros: its array has as many numbers as it is long, and no more.
abbrev pub ArrayIsZeros : Type 0
ArrayIsZeros =
    (n w : ℕ) (m t : Term) (s : Store)
    → Move (record { imports = []; body = NewArray n w m }) Computing (Running (NewArray n w m) []) (Running t s)
    → (l : ℕ) × (t ≡ Scope l (instantiate m (Arr l))) × (s ≡ array_at l w n ∷ [])
    × ((j : ℕ) → j < n → number_at s l j ≡ Some 0) × ((j : ℕ) → n ≤ j → number_at s l j ≡ None)

-- `(arr l) j`, with an index of i bits
abbrev pub at_index : ℕ → ℕ → ℕ → Term
at_index l j i = App (Arr l) (Lit j i)

-- A write at an index leaves the number there, and all others as they were: so one at 1 leaves 0.
abbrev pub WriteIsAtIndex : Type 0
WriteIsAtIndex =
    (s s' : Store) (l j i k : ℕ) (t : Term) → Computes s s' (Put (at_index l j i) k) t
    → (number_at s' l j ≡ Some k) × ((h : ℕ) → (j ≡ h → ⊥) → number_at s' l h ≡ number_at s l h)

-- An index outside the array has no step: neither a read nor a write.
abbrev pub OutsideHasNoStep : Type 0
OutsideHasNoStep =
    (s s' : Store) (l j i k : ℕ) (t : Term) → number_at s l j ≡ None
    → (Steps s s' (Deref (at_index l j i)) t → ⊥) × (Steps s s' (Put (at_index l j i) k) t → ⊥)

-- the names of an index and of a right side
abbrev pub b : Name
b = codes "b"

abbrev pub r : Name
r = codes "r"

-- `import b : exp 1` and `import r : exp 8`
abbrev pub two_numbers : Imports
two_numbers = record { name = b; ty = Exp 1 } ∷ record { name = r; ty = Exp 8 } ∷ []

-- The index is evaluated before the read: while it isn't a number nothing is computed, and b is asked.
abbrev pub ReadWaits : Type 0
ReadWaits =
    (s s' : Store) (t : Term)
    → (Steps s s' (Deref (App (Arr 0) (Import b))) t → ⊥)
    × Acts two_numbers (Showing (taken b 0 0)) s s (Deref (App (Arr 0) (Import b))) (Deref (App (Arr 0) (Wait b 1)))

-- And it is evaluated after the right side and before the write: `(arr 0) b := r` asks r and not b, and with a number for r
-- it asks b, before it writes.
abbrev pub WriteWaits : Type 0
WriteWaits =
    (s s' : Store) (t : Term) (k : ℕ)
    → (Acts two_numbers (Showing (taken b 0 0)) s s' (Assign (App (Arr 0) (Import b)) (Import r)) t → ⊥)
    × (Steps s s' (Put (App (Arr 0) (Import b)) k) t → ⊥)
    × Acts two_numbers (Showing (taken b 0 0)) s s (Put (App (Arr 0) (Import b)) k) (Put (App (Arr 0) (Wait b 1)) k)

-- `new a[4] : 8 in (a 1:2 := 7:8 ; !(a 1:2) + !(a 0:2))`
abbrev pub four : Program
four =
    record {
      imports = [];
      body =
          NewArray 4 8
          (Seq (Assign (App (Bound 0) (Lit 1 2)) (Lit 7 8)) (Bin Add (Deref (App (Bound 0) (Lit 1 2))) (Deref (App (Bound 0) (Lit 0 2)))));
    }

-- it answers 7: what was written at 1, and 0 at 0
abbrev pub FourAnswers : Type 0
FourAnswers = Trace four (given 0 0 ∷ given 1 7 ∷ [])

-- it is an expression of 8 bits, and not one of 2
abbrev pub FourHasType : Type 0
FourHasType = Typed [] [] four.body (Exp 8) × (Typed [] [] four.body (Exp 2) → ⊥)

-- its weight: 14 nodes of 4, their handshakes, and its 4 numbers
abbrev pub FourWeighs : Type 0
FourWeighs = weight [] four.body ≡ 93

-- An array of three numbers has no type, nor has a block that gives its array away.
abbrev pub ThreeHasNoType : Type 0
ThreeHasNoType =
    (i : Imports) (m : Term) (w : ℕ)
    → (Typed i [] (NewArray 3 w m) Com → ⊥) × (Typed i [] (NewArray 2 w (Bound 0)) (Fun (Exp 1) (Var w)) → ⊥)

-- nor has an access in an index of the same array, for a name is in both parts of an application
abbrev pub NestedHasNoType : Type 0
NestedHasNoType = (w : ℕ) → Typed [] (Fun (Exp 1) (Var 1) ∷ []) (Deref (App (Bound 0) (Deref (App (Bound 0) (Lit 0 1))))) (Exp w) → ⊥
