-- The literals of a plan fit where those of what it is made of do.
--
-- A joining has the parts of its plans, in order; a plan that is one with another but for numbers has its parts.
use Rattle.std.specs.Prelude.{◌≡◌, ℕ, suc, ◌^◌, ◌<◌, List, [], ◌∷◌, ◌++◌, Some, All, slice_get}
use Rattle.std.specs.List.{AllByRecursion}
use Rattle.std.proofs.Common.{refl}
use Rattle.std.proofs.lemmas.List.Elements.{All-nil, All-cons, All-append, All-same, All-contains, All-from_recursion}
use Rattle.gos_plan.specs.Kinds as kinds
use Rattle.gos_plan.specs.Kinds.{Part}
use Rattle.gos_plan.specs.Plans.{Plan}
use Rattle.gos_plan.specs.TokenBits.{LiteralFits}
use Rattle.gos_plan.specs.Joining.{all_parts}
use Rattle.gos_realises.proofs.realises.PlaceLemmas.{contains_at}

-- no parts, a part that reads, and two that write
pub no_literals : All LiteralFits []
no_literals = All-nil LiteralFits

pub reading_literals : (w : ℕ) → All LiteralFits (kinds.Deref w ∷ [])
reading_literals w = All-cons LiteralFits (kinds.Deref w) [] tt no_literals

pub writing_literals : (w k : ℕ) → k < 2 ^ w → All LiteralFits (kinds.Assign w ∷ kinds.Lit w k ∷ [])
writing_literals w k small =
    All-cons LiteralFits (kinds.Assign w) (kinds.Lit w k ∷ []) tt (All-cons LiteralFits (kinds.Lit w k) [] small no_literals)

-- the same parts, parts one after another, and what is joined to a plan
pub literals_same : (xs ys : List Part) → xs ≡ ys → All LiteralFits ys → All LiteralFits xs
literals_same xs ys same fit = All-same LiteralFits xs ys same fit

pub literals_append : (xs ys : List Part) → All LiteralFits xs → All LiteralFits ys → All LiteralFits (xs ++ ys)
literals_append xs ys one other = All-append LiteralFits xs ys one other

pub literals_joined : (p : Plan) (ps : List Plan) (r : Plan) → r.parts ≡ all_parts (p ∷ ps) → All LiteralFits p.parts
    → All LiteralFits (all_parts ps) → All LiteralFits r.parts
literals_joined p ps r are one others = literals_same r.parts (p.parts ++ all_parts ps) are (literals_append p.parts (all_parts ps) one others)

-- parts that each stand somewhere among others
pub each_fits : (xs : List Part) → ((k : ℕ) (x : Part) → slice_get xs k ≡ Some x → LiteralFits x) → AllByRecursion LiteralFits xs
each_fits [] each = tt
each_fits (x ∷ xs) each = (each 0 x refl, each_fits xs (λ k y at. each (suc k) y at))

pub literals_among : (f : ℕ → ℕ) (xs ys : List Part) → ((k : ℕ) (x : Part) → slice_get xs k ≡ Some x → slice_get ys (f k) ≡ Some x)
    → All LiteralFits ys → All LiteralFits xs
literals_among f xs ys moved fit =
    All-from_recursion LiteralFits xs (each_fits xs (λ k x at. All-contains LiteralFits ys x fit (contains_at ys (f k) x (moved k x at))))
