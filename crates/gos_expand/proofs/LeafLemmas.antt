-- The gates of a part, whichever crate lays them out, and that its nets go out of them.
use Rattle.std.specs.Prelude.{Some}
use Rattle.std.proofs.Common.{◌≡◌, ℕ, zero, suc, ◌<◌, List, [], ◌∷◌, length, refl, subst, arith, slice_get}
use Rattle.gos_plan.specs.declared.kinds.Kind.{Kind}
use Rattle.gos_plan.specs.declared.kinds.Kind.TheVariants as kinds
use Rattle.gos_plan.specs.Kinds.{Part, part_contacts}
use Rattle.gos_macro.specs.Gates.{Incoming, Outgoing}
use Rattle.gos_macro.specs.Fit.{AllGoOut}
use Rattle.gos_plan.specs.Seen.{part_of}
use Rattle.gos_expand.specs.Laid.{laid}
use Rattle.gos_expand.specs.Gates.{Making, ForEach, ForOrder, outs_of}
use Rattle.gos_expand.specs.inner.Dispatch.{gates_for, part_in, cells_in, outs_in, IsLaidOut, gates_fit}

-- the part and the nets of its gates, whichever crate lays them out
pub part_for : (m : Making) (k : Kind) → part_in (gates_for m k) ≡ part_of k
part_for m kinds.Skip = refl
part_for ForEach (kinds.Share t) = refl
part_for (ForOrder order) (kinds.Share t) = refl
part_for m k = refl

pub outs_for : (m : Making) (k : Kind) → outs_in (gates_for m k) ≡ outs_of m (part_of k)
outs_for m kinds.Skip = refl
outs_for ForEach (kinds.Share t) = refl
outs_for (ForOrder order) (kinds.Share t) = refl
outs_for m k = refl

-- they go out
pub nets_go_out : (m : Making) (k : Kind) (b : ℕ) → IsLaidOut (gates_for m k) → (i : Incoming)
    → AllGoOut b (cells_in (gates_for m k) b i) (part_contacts (part_of k)) (outs_of m (part_of k) b)
nets_go_out m k b laid i =
    subst (λ (os : ℕ → List Outgoing). AllGoOut b (cells_in (gates_for m k) b i) (part_contacts (part_of k)) (os b)) (outs_for m k)
    (subst (λ (p : Part). AllGoOut b (cells_in (gates_for m k) b i) (part_contacts p) (outs_in (gates_for m k) b)) (part_for m k)
    ((gates_fit (gates_for m k) laid).outgoing b i))

-- an element that there is
pub some_there : {A : Type 0} (xs : List A) (i : ℕ) → i < length xs → (x : A) × (slice_get xs i ≡ Some x)
some_there [] i within = absurd (omega (arith, within))
some_there (x ∷ xs) zero within = (x, refl)
some_there (x ∷ xs) (suc i) within = some_there xs i (omega (arith, within))

pub there_within : {A : Type 0} (xs : List A) (i : ℕ) (x : A) → slice_get xs i ≡ Some x → i < length xs
there_within [] i x there = absurd (cc there)
there_within (y ∷ ys) zero x there = omega arith
there_within (y ∷ ys) (suc i) x there = let rest = there_within ys i x there in omega (arith, rest)
