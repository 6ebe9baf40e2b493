-- `import c : com; c` with the plan of `skip` for c, wired, and with its joint left out.
use Rattle.std.specs.Prelude.{◌≡◌, ◌≢◌, ◌⊎◌, ℕ, zero, suc, List, [], ◌∷◌, Some, Contains, slice_get}
use Rattle.std.proofs.Common.{refl, sym, ◌∙◌, ap, subst, arith, inl, inr}
use Rattle.gos_plan.specs.Kinds.{Part, Contact, asks, serves, turned_contact}
use Rattle.gos_plan.specs.Plans.{End, PartEnd, ImportEnd, ResultEnd, Joint, contact_at}
use Rattle.gos_plan.specs.SmallPlans.{skip_plan}
use Rattle.gos_plan.proofs.ContactLemmas.{serves_is_not_asks}
use Rattle.gos_plan.proofs.SmallPlanLemmas.{skip_is_right}
use Rattle.gos_ties.specs.Ties as paths
use Rattle.gos_joining.specs.webs.Webs.{Of, Number, Within, Tie, Way, here, along, Connects, joint}
use Rattle.gos_terms.specs.wired.Wired.{Source, Own, Supplied, IsFrom, placed, wired_ties, wired_web}
use Rattle.gos_terms.specs.wired.SmallWired.{commands, skips, one_use, from_first, UseIsWired, UnjoinedIsNotWired, SkipFits, SeqDoesNotFit}

-- the two ends of the plan of `skip`
there : (e : End) (c : Contact) → contact_at skip_plan e ≡ Some c → ((e ≡ ResultEnd 0) × (c ≡ asks 0 0)) ⊎ ((e ≡ PartEnd 0 0) × (c ≡ serves 0 0))
there (PartEnd zero zero) c e = inr (refl, cc e)
there (PartEnd zero (suc h)) c e = absurd (cc e)
there (PartEnd (suc i) h) c e = absurd (cc e)
there (ImportEnd i h) c e = absurd (cc e)
there (ResultEnd zero) c e = inl (refl, cc e)
there (ResultEnd (suc h)) c e = absurd (cc e)

fits : (a b : End) (c d : Contact) → contact_at skip_plan a ≡ Some c → contact_at skip_plan b ≡ Some d → a ≢ b → d ≡ turned_contact c
fits a b c d at_a at_b differ = by_ends (there a c at_a) (there b d at_b)
  where
    by_ends : ((a ≡ ResultEnd 0) × (c ≡ asks 0 0)) ⊎ ((a ≡ PartEnd 0 0) × (c ≡ serves 0 0))
        → ((b ≡ ResultEnd 0) × (d ≡ asks 0 0)) ⊎ ((b ≡ PartEnd 0 0) × (d ≡ serves 0 0)) → d ≡ turned_contact c
    by_ends (inl (e, x)) (inl (f, y)) = absurd (differ (e ∙ sym f))
    by_ends (inl (e, x)) (inr (f, y)) = y ∙ sym (ap turned_contact x)
    by_ends (inr (e, x)) (inl (f, y)) = y ∙ sym (ap turned_contact x)
    by_ends (inr (e, x)) (inr (f, y)) = absurd (differ (e ∙ sym f))

abbrev ties : List Tie
ties = wired_ties commands 0 0 one_use (0 ∷ []) skips

-- from the result to the number, to the supply's result, and to its Skip
the_way : Way ties (Within 0 (Of (ResultEnd 0))) (Within 1 (Of (PartEnd 0 0)))
the_way =
    along (Within 0 (Of (ResultEnd 0))) (Within 0 (Number 0 0)) (Within 1 (Of (PartEnd 0 0))) (inl (0, omega arith, refl))
    (along (Within 0 (Number 0 0)) (Within 1 (Of (ResultEnd 0))) (Within 1 (Of (PartEnd 0 0))) (inl (2, omega arith, refl))
    (along (Within 1 (Of (ResultEnd 0))) (Within 1 (Of (PartEnd 0 0))) (Within 1 (Of (PartEnd 0 0))) (inl (1, omega arith, refl))
    (here (Within 1 (Of (PartEnd 0 0))))))

one_number : (n : ℕ) → Contains (0 ∷ []) n → 0 ≡ n
one_number n (zero, small, e) = e
one_number n (suc k, small, e) = absurd (omega (arith, small))

parts : (x : Part) (s : Source) → IsFrom [] (0 ∷ []) skips x s
    → (slice_get skip_plan.parts (placed from_first s) ≡ Some x) × (from_first.source (placed from_first s) ≡ s)
parts x (Own k) has = absurd (cc has)
parts x (Supplied n k) (among, has) = (has, ap (λ (i : ℕ). Supplied i k) (one_number n among))

asked : (a : End) (q v : ℕ) → contact_at skip_plan a ≡ Some (asks q v) → ResultEnd 0 ≡ a
asked (PartEnd zero zero) q v e = absurd (serves_is_not_asks 0 0 q v e)
asked (PartEnd zero (suc h)) q v e = absurd (cc e)
asked (PartEnd (suc i) h) q v e = absurd (cc e)
asked (ImportEnd i h) q v e = absurd (cc e)
asked (ResultEnd zero) q v e = refl
asked (ResultEnd (suc h)) q v e = absurd (cc e)

served : (a : End) (q v : ℕ) → contact_at skip_plan a ≡ Some (serves q v) → PartEnd 0 0 ≡ a
served (PartEnd zero zero) q v e = refl
served (PartEnd zero (suc h)) q v e = absurd (cc e)
served (PartEnd (suc i) h) q v e = absurd (cc e)
served (ImportEnd i h) q v e = absurd (cc e)
served (ResultEnd zero) q v e = absurd (serves_is_not_asks q v 0 0 (sym e))
served (ResultEnd (suc h)) q v e = absurd (cc e)

connects : Connects (wired_web commands 0 0 one_use (0 ∷ []) skips from_first) skip_plan (ResultEnd 0) (PartEnd 0 0)
connects = (0, 0, refl, refl, the_way)

joined : (a b : End) → Contains skip_plan.joints (joint a b) → Connects (wired_web commands 0 0 one_use (0 ∷ []) skips from_first) skip_plan a b
joined a b (zero, small, e) =
    subst (λ (j : Joint). Connects (wired_web commands 0 0 one_use (0 ∷ []) skips from_first) skip_plan j.asking j.serving) e connects
joined a b (suc n, small, e) = absurd (omega (arith, small))

pub use_is_wired : UseIsWired
use_is_wired =
    record {
      outcome = refl;
      parts = parts;
      no_more = λ k x has. (((0, omega arith, refl), has), refl);
      imports = λ n k x among has. absurd (cc has);
      no_import = λ k x has. absurd (cc has);
      web =
          record {
            right = skip_is_right;
            fits = λ a b c d at_a at_b differ way. fits a b c d at_a at_b differ;
            joints = λ a b. (
              joined a b,
              λ led. (0, omega arith, (λ i. joint (asked a led.0 led.1 led.2 i) (served b led.0 led.1 led.3 i))),
            );
          };
    }

pub unjoined_is_not_wired : UnjoinedIsNotWired
unjoined_is_not_wired is = none ((is.web.joints (ResultEnd 0) (PartEnd 0 0)).1 (0, 0, refl, refl, the_way))
  where
    none : Contains [] (joint (ResultEnd 0) (PartEnd 0 0)) → ⊥
    none (n, small, e) = omega (arith, small)

pub skip_fits : SkipFits
skip_fits a b c d at_a at_b differ path = fits a b c d at_a at_b differ

pub seq_does_not_fit : SeqDoesNotFit
seq_does_not_fit fit =
    serves_is_not_asks 0 0 0 0
    (ap (λ (k : Contact). Some k)
    (sym (fit (ResultEnd 0) (PartEnd 0 0) (asks 0 0) (asks 0 0) refl refl (λ e. cc e)
    (paths.along (paths.at (ResultEnd 0)) (paths.at (PartEnd 0 0)) (paths.at (PartEnd 0 0)) (inl refl) (paths.here (paths.at (PartEnd 0 0)))))))
