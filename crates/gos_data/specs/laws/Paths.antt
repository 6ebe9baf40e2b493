-- Paths lead through the gates of each kind where `passing_of` says. A search tells it, kind by kind; how wide a number is
-- doesn't matter, nor which number a literal is.
--
-- Read first: Layout, Ranges; Told of path_search.
use Rattle.std.proofs.Common.{◌≡◌, inl, inr, ℕ, zero, suc, true, refl, sym, subst, arith}
use Rattle.std.specs.List.{AllByRecursion}
use Rattle.gos_model.specs.Terms.{Op as Operation}
use Rattle.gos_model.specs.Terms as operations
use Rattle.gos_model.specs.Typing.{IsLength}
use Rattle.gos_plan.specs.declared.kinds.Kind.{Kind}
use Rattle.gos_plan.specs.declared.kinds.Kind.TheVariants as kinds
use Rattle.gos_plan.specs.Kinds.{Part, Lit, Op, Not, Assign, Deref, Local, Array, part_contacts}
use Rattle.gos_plan.specs.Firing.{Phase, Rest, Left, Right, Waiting, Value, Writing, Active, Cells, Reading, WritingTo, rows}
use Rattle.gos_plan.specs.Seen.{operation_of, part_of}
use Rattle.gos_macro.specs.Paths.{KeepPaths}
use Rattle.gos_macro.specs.laws.Putting.{RowPasses, puts_pass}
use Rattle.gos_macro.specs.path_search.Fixed.{fixed, AreNamed, OutsAreNamed}
use Rattle.gos_macro.specs.path_search.Search.{is_told}
use Rattle.gos_macro.specs.path_search.laws.Told.{told_is_kept}
use Rattle.gos_data.specs.Layout.{layout, outs_of, late_of, passing_of}
use Rattle.gos_data.specs.Ranges.{IsArith}

-- what each row of a part puts early goes where a path leads
abbrev RowsPass : Part → Type 0
RowsPass k = (p : Phase) (n : ℕ) → AllByRecursion (RowPasses (late_of k) (passing_of k)) (rows k p n)

-- what is asked of the paths of a part
abbrev pub HasPaths : Part → Type 0
HasPaths k = KeepPaths k (layout k) (outs_of k) (late_of k) (passing_of k)

told : (k : Part) → AreNamed (layout k) → OutsAreNamed (outs_of k)
    → is_told (part_contacts k) (layout k 0 fixed) (outs_of k 0) (late_of k) (passing_of k) ≡ true → RowsPass k → HasPaths k
told k named outs_named is rows_pass =
    told_is_kept k (layout k) (outs_of k) (late_of k) (passing_of k) named outs_named is (puts_pass k (late_of k) (passing_of k) rows_pass)

-- What each kind puts by a token that isn't late goes where a path leads; by one that is late nothing is said.
lit_rows : (w k : ℕ) → RowsPass (Lit w k)
lit_rows w k Rest n = ((λ early x. (refl, tt)), tt)
lit_rows w k p n = tt

op_rows : (op : Operation) (w : ℕ) → RowsPass (Op op w)
op_rows op w Rest n = ((λ early x. (refl, tt)), tt)
op_rows op w Left n = ((λ early x. (refl, tt)), tt)
op_rows op w Right n = ((λ early x. (refl, tt)), tt)
op_rows op w p n = tt

not_rows : (w : ℕ) → RowsPass (Not w)
not_rows w Rest n = ((λ early x. (refl, tt)), tt)
not_rows w Waiting n = ((λ early x. (refl, tt)), tt)
not_rows w p n = tt

assign_rows : (w : ℕ) → RowsPass (Assign w)
assign_rows w Rest n = ((λ early x. (refl, tt)), tt)
assign_rows w Value n = ((λ early x. (refl, tt)), tt)
assign_rows w Writing n = ((λ early x. (refl, tt)), tt)
assign_rows w p n = tt

deref_rows : (w : ℕ) → RowsPass (Deref w)
deref_rows w Rest n = ((λ early x. (refl, tt)), tt)
deref_rows w Waiting n = ((λ early x. (refl, tt)), tt)
deref_rows w p n = tt

local_rows : (w v : ℕ) → RowsPass (Local w v)
local_rows w v Rest n = ((λ early x. absurd (cc early)), tt)
local_rows w v Active n = ((λ early x. (refl, tt)), ((λ early x. absurd (cc early)), ((λ early x. (refl, tt)), tt)))
local_rows w v p n = tt

array_rows : (w k v : ℕ) → RowsPass (Array w k v)
array_rows w k v Rest n = ((λ early x. absurd (cc early)), tt)
array_rows w k v (Cells ns) n = ((λ early x. absurd (cc early)), ((λ early x. absurd (cc early)), ((λ early x. (refl, tt)), tt)))
array_rows w k v (Reading ns) n = ((λ early x. absurd (cc early)), tt)
array_rows w k v (WritingTo ns) n = ((λ early x. absurd (cc early)), tt)
array_rows w k v p n = tt

op_paths : (op : Operation) (w : ℕ) → HasPaths (Op op (suc w))
op_paths operations.Add w = told (Op operations.Add (suc w)) (λ b i. refl) (λ b. refl) refl (op_rows operations.Add (suc w))
op_paths operations.Sub w = told (Op operations.Sub (suc w)) (λ b i. refl) (λ b. refl) refl (op_rows operations.Sub (suc w))
op_paths operations.And w = told (Op operations.And (suc w)) (λ b i. refl) (λ b. refl) refl (op_rows operations.And (suc w))
op_paths operations.Or w = told (Op operations.Or (suc w)) (λ b i. refl) (λ b. refl) refl (op_rows operations.Or (suc w))
op_paths operations.Xor w = told (Op operations.Xor (suc w)) (λ b i. refl) (λ b. refl) refl (op_rows operations.Xor (suc w))
op_paths operations.Eq w = told (Op operations.Eq (suc w)) (λ b i. refl) (λ b. refl) refl (op_rows operations.Eq (suc w))
op_paths operations.Less w = told (Op operations.Less (suc w)) (λ b i. refl) (λ b. refl) refl (op_rows operations.Less (suc w))

local_paths : (w v : ℕ) → HasPaths (Local (suc w) v)
local_paths w zero = told (Local (suc w) 0) (λ b i. refl) (λ b. refl) refl (local_rows (suc w) 0)
local_paths w (suc v) = told (Local (suc w) (suc v)) (λ b i. refl) (λ b. refl) refl (local_rows (suc w) (suc v))

-- the number of words is one of four
array_paths : (w n v : ℕ) → IsLength n → HasPaths (Array (suc w) n v)
array_paths w n zero (inl is) = subst (λ (m : ℕ). HasPaths (Array (suc w) m 0)) (sym is) (told (Array (suc w) 2 0) (λ b i. refl) (λ b. refl) refl (array_rows (suc w) 2 0))
array_paths w n (suc v) (inl is) = subst (λ (m : ℕ). HasPaths (Array (suc w) m (suc v))) (sym is) (told (Array (suc w) 2 (suc v)) (λ b i. refl) (λ b. refl) refl (array_rows (suc w) 2 (suc v)))
array_paths w n zero (inr (inl is)) = subst (λ (m : ℕ). HasPaths (Array (suc w) m 0)) (sym is) (told (Array (suc w) 4 0) (λ b i. refl) (λ b. refl) refl (array_rows (suc w) 4 0))
array_paths w n (suc v) (inr (inl is)) = subst (λ (m : ℕ). HasPaths (Array (suc w) m (suc v))) (sym is) (told (Array (suc w) 4 (suc v)) (λ b i. refl) (λ b. refl) refl (array_rows (suc w) 4 (suc v)))
array_paths w n zero (inr (inr (inl is))) = subst (λ (m : ℕ). HasPaths (Array (suc w) m 0)) (sym is) (told (Array (suc w) 8 0) (λ b i. refl) (λ b. refl) refl (array_rows (suc w) 8 0))
array_paths w n (suc v) (inr (inr (inl is))) = subst (λ (m : ℕ). HasPaths (Array (suc w) m (suc v))) (sym is) (told (Array (suc w) 8 (suc v)) (λ b i. refl) (λ b. refl) refl (array_rows (suc w) 8 (suc v)))
array_paths w n zero (inr (inr (inr is))) = subst (λ (m : ℕ). HasPaths (Array (suc w) m 0)) (sym is) (told (Array (suc w) 16 0) (λ b i. refl) (λ b. refl) refl (array_rows (suc w) 16 0))
array_paths w n (suc v) (inr (inr (inr is))) = subst (λ (m : ℕ). HasPaths (Array (suc w) m (suc v))) (sym is) (told (Array (suc w) 16 (suc v)) (λ b i. refl) (λ b. refl) refl (array_rows (suc w) 16 (suc v)))

pub arith_paths : (k : Kind) → IsArith k → HasPaths (part_of k)
arith_paths (kinds.Lit w k) is = told (Lit w k) (λ b i. refl) (λ b. refl) refl (lit_rows w k)
arith_paths (kinds.Op op zero) is = absurd (let some = is.0 in omega (arith, some))
arith_paths (kinds.Op op (suc w)) is = op_paths (operation_of op) w
arith_paths (kinds.Not zero) is = absurd (let some = is.0 in omega (arith, some))
arith_paths (kinds.Not (suc w)) is = told (Not (suc w)) (λ b i. refl) (λ b. refl) refl (not_rows (suc w))
arith_paths (kinds.Assign zero) is = absurd (let some = is.0 in omega (arith, some))
arith_paths (kinds.Assign (suc w)) is = told (Assign (suc w)) (λ b i. refl) (λ b. refl) refl (assign_rows (suc w))
arith_paths (kinds.Deref zero) is = absurd (let some = is.0 in omega (arith, some))
arith_paths (kinds.Deref (suc w)) is = told (Deref (suc w)) (λ b i. refl) (λ b. refl) refl (deref_rows (suc w))
arith_paths (kinds.Local zero v) is = absurd (let some = is.0.0 in omega (arith, some))
arith_paths (kinds.Local (suc w) v) is = local_paths w v
arith_paths (kinds.Array zero n v) is = absurd (let some = is.0.0 in omega (arith, some))
arith_paths (kinds.Array (suc w) n v) is = array_paths w n v is.1
arith_paths k is = absurd is
