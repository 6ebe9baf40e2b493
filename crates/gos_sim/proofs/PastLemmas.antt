-- The last two settlings after a cycle.
use Rattle.std.specs.Prelude.{◌≡◌, ℕ, Bool, true, false, IsTrue, IsFalse, List, [], ◌∷◌, take}
use Rattle.std.proofs.Common.{refl, ap, sym, subst, ◌∙◌}
use Rattle.gos_netlist.specs.Nets.{Cell}
use Rattle.gos_netlist.specs.Settling.{Numbers, at}
use Rattle.gos_sim.specs.declared.past.Past.{Past}
use Rattle.gos_sim.specs.declared.past.Past.TheVariants.{Reset, First, Later, Still}
use Rattle.gos_sim.specs.declared.active.Active.{Active}
use Rattle.gos_sim.specs.declared.course.Course.{Course}
use Rattle.gos_sim.specs.declared.course.Course.TheVariants as course
use Rattle.gos_sim.specs.Visits.{IsZeroSettling}
use Rattle.gos_sim.specs.inner.Past.{HasCome, IsPast, is_all, is_few, is_rest, past_after, settlings_of}
use Rattle.gos_sim.specs.inner.Active.{Lacks}

-- a cycle has come
pub come_after : (past : Past) (rests : Bool) → HasCome (past_after past rests)
come_after past true = tt
come_after Reset false = tt
come_after First false = tt
come_after Later false = tt
come_after Still false = tt

-- the settlings are the new values and the newest one before; where the values rest, a cycle has come before and they are its own
pub settlings_after : (past : Past) (rests : Bool) (old before values kept : Numbers) → (IsTrue rests → HasCome past) → (IsTrue rests → values ≡ old)
    → (IsFalse rests → kept ≡ old) → settlings_of (past_after past rests) values kept ≡ values ∷ take 1 (settlings_of past old before)
settlings_after Reset true old before values kept come same turned = absurd (come refl)
settlings_after First true old before values kept come same turned = ap (λ v. values ∷ v ∷ []) (same refl)
settlings_after Later true old before values kept come same turned = ap (λ v. values ∷ v ∷ []) (same refl)
settlings_after Still true old before values kept come same turned = ap (λ v. values ∷ v ∷ []) (same refl)
settlings_after Reset false old before values kept come same turned = refl
settlings_after First false old before values kept come same turned = ap (λ v. values ∷ v ∷ []) (turned refl)
settlings_after Later false old before values kept come same turned = ap (λ v. values ∷ v ∷ []) (turned refl)
settlings_after Still false old before values kept come same turned = ap (λ v. values ∷ v ∷ []) (turned refl)

-- what is known of them
pub past_kept : (cells : List Cell) (past : Past) (rests : Bool) (old before values kept : Numbers) → (IsFalse rests → kept ≡ old) → IsPast cells past old before
    → IsPast cells (past_after past rests) values kept
past_kept cells past true old before values kept turned came = tt
past_kept cells Reset false old before values kept turned came = subst (IsZeroSettling cells) (sym (turned refl)) came
past_kept cells First false old before values kept turned came = tt
past_kept cells Later false old before values kept turned came = tt
past_kept cells Still false old before values kept turned came = tt

-- what is noted after a cycle: a place that isn't has what it had before
pub noted_after : (way : Course) (old new : Active) (values before moved kept after : Numbers) → (IsTrue (is_rest way) → new ≡ old)
    → (IsTrue (is_rest way) → after ≡ values) → (IsTrue (is_rest way) → kept ≡ before) → (IsTrue (is_few way) → moved ≡ values)
    → (IsFalse (is_rest way) → kept ≡ values)
    → (IsTrue (is_few way) → (p : ℕ) → Lacks new.wake.touched p → at after p ≡ at moved p) → (IsTrue (is_all way) → IsTrue new.wake.touched.full)
    → (IsTrue old.settled → (p : ℕ) → Lacks old.wake.touched p → at before p ≡ at values p)
    → IsTrue new.settled → (p : ℕ) → Lacks new.wake.touched p → at kept p ≡ at after p
noted_after course.Rest old new values before moved kept after same rest left few turned noted full known settled p lacks =
    ap (λ (v : Numbers). at v p) (left refl)
    ∙ (known (subst (λ (a : Active). IsTrue a.settled) (same refl) settled) p (subst (λ (a : Active). Lacks a.wake.touched p) (same refl) lacks)
    ∙ ap (λ (v : Numbers). at v p) (sym (rest refl)))
noted_after course.Few old new values before moved kept after same rest left few turned noted full known settled p lacks =
    ap (λ (v : Numbers). at v p) (turned refl ∙ sym (few refl)) ∙ sym (noted refl p lacks)
noted_after course.All old new values before moved kept after same rest left few turned noted full known settled p lacks =
    let never : true ≡ false = sym (full refl) ∙ lacks.0 in
    absurd (cc)
