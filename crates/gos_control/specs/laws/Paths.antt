-- Paths lead through the gates of each kind of control where `passing_of` says. A search tells it, kind by kind; how wide a
-- number is doesn't matter.
--
-- Read first: Layout, Ranges; Told of path_search.
use Rattle.std.proofs.Common.{◌≡◌, ℕ, zero, suc, Bool, true, false, [], ◌∷◌, refl, arith}
use Rattle.std.specs.Prelude.{nat_eq, if◌then◌else◌}
use Rattle.std.specs.List.{AllByRecursion}
use Rattle.gos_plan.specs.declared.kinds.Kind.{Kind}
use Rattle.gos_plan.specs.declared.kinds.Kind.TheVariants as kinds
use Rattle.gos_plan.specs.Kinds.{Part, Seq, Par, If, While, part_contacts}
use Rattle.gos_plan.specs.Firing.{Phase, Rest, First, Second, Both, LeftOnly, RightOnly, Test, Branch, Body, Req, Ans, rows, put}
use Rattle.gos_plan.specs.Seen.{part_of}
use Rattle.gos_macro.specs.Paths.{KeepPaths}
use Rattle.gos_macro.specs.laws.Putting.{AllPass, RowPasses, puts_pass}
use Rattle.gos_macro.specs.laws.SkipPaths.{skip_paths}
use Rattle.gos_macro.specs.path_search.Fixed.{fixed, AreNamed, OutsAreNamed}
use Rattle.gos_macro.specs.path_search.Search.{is_told}
use Rattle.gos_macro.specs.path_search.laws.Told.{told_is_kept}
use Rattle.gos_control.specs.Layout.{layout, outs_of, late_of, passing_of}
use Rattle.gos_control.specs.Ranges.{IsControl}

-- what each row of a part puts early goes where a path leads
abbrev RowsPass : Part → Type 0
RowsPass k = (p : Phase) (n : ℕ) → AllByRecursion (RowPasses (late_of k) (passing_of k)) (rows k p n)

-- what is asked of the paths of a part
abbrev pub HasPaths : Part → Type 0
HasPaths k = KeepPaths k (layout k) (outs_of k) (late_of k) (passing_of k)

told : (k : Part) → AreNamed (layout k) → OutsAreNamed (outs_of k)
    → is_told (part_contacts k) (layout k 0 fixed) (outs_of k 0) (late_of k) (passing_of k) ≡ true → RowsPass k → HasPaths k
told k named outs_named is rows_pass =
    told_is_kept k (layout k) (outs_of k) (late_of k) (passing_of k) named outs_named is (puts_pass k (late_of k) (passing_of k) rows_pass)

seq_rows : (u : ℕ) → RowsPass (Seq u)
seq_rows u Rest n = ((λ early x. (refl, tt)), tt)
seq_rows u First n = ((λ early x. (refl, tt)), tt)
seq_rows u Second n = ((λ early x. (refl, tt)), tt)
seq_rows u p n = tt

par_rows : RowsPass Par
par_rows Rest n = ((λ early x. (refl, (refl, tt))), tt)
par_rows Both n = ((λ early x. tt), ((λ early x. tt), tt))
par_rows LeftOnly n = ((λ early x. (refl, tt)), tt)
par_rows RightOnly n = ((λ early x. (refl, tt)), tt)
par_rows p n = tt

choice_rows : (u : ℕ) → RowsPass (If u)
choice_rows u Rest n = ((λ early x. (refl, tt)), tt)
choice_rows u Test n = ((λ early x. to_either (nat_eq x 1)), tt)
  where
    to_either : (t : Bool) → AllPass (passing_of (If u)) 0 ((if t then put (Req 1) 0 else put (Req 2) 0) ∷ [])
    to_either true = (refl, tt)
    to_either false = (refl, tt)
choice_rows u Branch n = ((λ early x. of_either (nat_eq n 1) x), tt)
  where
    of_either : (t : Bool) (x : ℕ) → AllPass (passing_of (If u)) (if t then 1 else 2) (put (Ans 3) x ∷ [])
    of_either true x = (refl, tt)
    of_either false x = (refl, tt)
choice_rows u p n = tt

repeat_rows : RowsPass While
repeat_rows Rest n = ((λ early x. (refl, tt)), tt)
repeat_rows Test n = ((λ early x. to_either (nat_eq x 1)), tt)
  where
    to_either : (t : Bool) → AllPass (passing_of While) 0 ((if t then put (Req 1) 0 else put (Ans 2) 0) ∷ [])
    to_either true = (refl, tt)
    to_either false = (refl, tt)
repeat_rows Body n = ((λ early x. absurd (cc early)), tt)
repeat_rows p n = tt

pub control_paths : (k : Kind) → IsControl k → HasPaths (part_of k)
control_paths kinds.Skip is = skip_paths
control_paths kinds.Seq is = told (Seq 0) (λ b i. refl) (λ b. refl) refl (seq_rows 0)
control_paths (kinds.SeqExp zero) is = absurd (let some = is.1.0 in omega (arith, some))
control_paths (kinds.SeqExp (suc w)) is = told (Seq (suc w)) (λ b i. refl) (λ b. refl) refl (seq_rows (suc w))
control_paths kinds.Par is = told Par (λ b i. refl) (λ b. refl) refl par_rows
control_paths kinds.If is = told (If 0) (λ b i. refl) (λ b. refl) refl (choice_rows 0)
control_paths (kinds.IfExp zero) is = absurd (let some = is.1.0 in omega (arith, some))
control_paths (kinds.IfExp (suc w)) is = told (If (suc w)) (λ b i. refl) (λ b. refl) refl (choice_rows (suc w))
control_paths kinds.While is = told While (λ b i. refl) (λ b. refl) refl repeat_rows
control_paths k is = absurd is.0
