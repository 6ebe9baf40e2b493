-- The loop that fills in the table of joints: one joint more, at both of its ends.
--
-- Read first: Choosing, Arrivals.
use Rattle.std.proofs.Common.{◌≡◌, ◌+◌, ℕ, suc, List, [], ◌∷◌, ◌++◌, length, take, slice_get, Option, Some, sym, ap, ◌∙◌, arith}
use Rattle.gos_plan.specs.Plans.{End, Joint, Plan, same_end}
use Rattle.gos_expand.specs.declared.arrivals.Origin.{Origin}
use Rattle.gos_expand.specs.declared.arrivals.Origin.TheVariants.{Cells}
use Rattle.gos_expand.specs.declared.arrivals.Arrivals.{Arrivals}
use Rattle.gos_expand.specs.inner.Arrivals.{AreAt, or_else, some_if, Fills}
use Rattle.gos_expand.specs.inner.Choosing.{joint_among}
use Rattle.gos_expand.proofs.BlockLemmas.{take_one}
use Rattle.gos_expand.proofs.PlaceLemmas.{length_first}
use Rattle.gos_expand.proofs.NumberLemmas.{or_else_assoc, or_else_none, same_table, table_filled}

joint_more : (x : ℕ) (js : List Joint) (j : Joint) (e : End)
    → joint_among x (js ++ j ∷ []) e
    ≡ or_else (or_else (joint_among x js e) (some_if (same_end e j.asking) (Cells (x + length js)))) (some_if (same_end e j.serving) (Cells (x + length js)))
joint_more x [] j e =
    let here : x + 0 ≡ x = omega arith in
    rw here (or_else_none (or_else (some_if (same_end e j.asking) (Cells x)) (some_if (same_end e j.serving) (Cells x))))
joint_more x (k ∷ js) j e =
    let shift : suc x + length js ≡ x + suc (length js) = omega arith in
    let first : Option Origin = or_else (some_if (same_end e k.asking) (Cells x)) (some_if (same_end e k.serving) (Cells x)) in
    let rest : Option Origin = joint_among (suc x) js e in
    ap (or_else first) (joint_more (suc x) js j e)
    ∙ (sym (or_else_assoc first (or_else rest (some_if (same_end e j.asking) (Cells (suc x + length js)))) (some_if (same_end e j.serving) (Cells (suc x + length js))))
    ∙ (ap (λ (o : Option Origin). or_else o (some_if (same_end e j.serving) (Cells (suc x + length js))))
    (sym (or_else_assoc first rest (some_if (same_end e j.asking) (Cells (suc x + length js)))))
    ∙ ap
    (λ (m : ℕ). or_else (or_else (or_else first rest) (some_if (same_end e j.asking) (Cells m))) (some_if (same_end e j.serving) (Cells m))) shift))

-- the table with the ends of one joint more
pub joint_filled : (p : Plan) (i : ℕ) (j : Joint) → slice_get p.joints i ≡ Some j → (first second third : Arrivals)
    → AreAt p (joint_among 0 (take i p.joints)) first
    → Fills j.asking (Cells i) first second
    → Fills j.serving (Cells i) second third
    → AreAt p (joint_among 0 (take (i + 1) p.joints)) third
joint_filled p i j there first second third are asks serves =
    let long = length_first i p.joints j there in
    let count : 0 + length (take i p.joints) ≡ i = omega (arith, long) in
    let filled = table_filled p (λ d. or_else (joint_among 0 (take i p.joints) d) (some_if (same_end d j.asking) (Cells i))) j.serving (Cells i) second third
    (table_filled p (joint_among 0 (take i p.joints)) j.asking (Cells i) first second are asks) serves in
    same_table p _ _ third
    (λ e.
    sym
    (ap (λ (ks : List Joint). joint_among 0 ks e) (take_one i p.joints j there)
    ∙ (joint_more 0 (take i p.joints) j e
    ∙ ap
    (λ (m : ℕ). or_else (or_else (joint_among 0 (take i p.joints) e) (some_if (same_end e j.asking) (Cells m))) (some_if (same_end e j.serving) (Cells m)))
    count)))
    filled
