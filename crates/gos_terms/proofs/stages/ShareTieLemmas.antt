-- The ties of a split's own Share, and what its numbers stand for then.
use Rattle.std.specs.Prelude.{◌≢◌, ◌+◌, ◌*◌, ◌<◌, ◌≤◌, ◌||◌, length, nat_eq, None}
use Rattle.std.proofs.Common.{◌≡◌, ℕ, zero, suc, Bool, true, false, List, ◌∷◌, Option, Some, refl, sym, ◌∙◌, ap, subst, arith, if◌then◌else◌}
use Rattle.std.proofs.lemmas.Bool.{eq-eqb, ne_eqb}
use Rattle.gos_model.proofs.NumberLemmas.{number_cases}
use Rattle.gos_check.specs.declared.linear.Split.{Split}
use Rattle.gos_check.specs.Linearity.{times, sides}
use Rattle.gos_check.proofs.TimesLemmas.{times_none, times_other}
use Rattle.gos_plan.specs.Plans.{End, PartEnd, ResultEnd}
use Rattle.gos_realises.specs.realises.Regular.{count}
use Rattle.gos_realises.specs.realises.Modules.{Supply}
use Rattle.gos_joining.specs.webs.Webs.{Of, Number, Within, tie, Way, here, own_web}
use Rattle.gos_compile.specs.Wiring.{Types}
use Rattle.gos_terms.specs.wired.Wired.{Supplies}
use Rattle.gos_terms.specs.stages.Inside.{inside_one_supply}
use Rattle.gos_terms.specs.stages.Lodging.{Spot, spot, spot_if, Lodging, live, seen_from, side_number, serves_side, moved_spot, moved, share_spot, side_spot, one_lodging, Near}
use Rattle.gos_terms.proofs.stages.HomeLemmas.{way_to_caller, IsOld, neither_side, no_side, plainly}
use Rattle.gos_terms.proofs.stages.StepLemmas.{serves_source, serves_caller, serves_first_alone, serves_second_alone, IsKept, differ, side_gone, side_is, side_env, old_moved}

module _ (types : Types) (s : Split) (ss : List Split) (once : (k : ℕ) → times k (sides (s ∷ ss)) ≤ 1) where
  abbrev size : ℕ
  size = count (types s.of)

  abbrev Ends : Supplies → ℕ → End → End → Bool → Bool → Type 0
  Ends env n d e a b = Near (inside_one_supply types s env) (spot_if a n d) (spot_if b n e)

  ends : (env : Supplies) (n : ℕ) (d e : End) (a b x y : Bool) → a ≡ x → b ≡ y → Ends env n d e x y → Ends env n d e a b
  ends env n d e a b x y at_a at_b it = subst (λ (u : Bool). Ends env n d e u b) (sym at_a) (subst (λ (u : Bool). Ends env n d e x u) (sym at_b) it)

  -- the source
  abbrev Source : Supplies → ℕ → ℕ → ℕ → Bool → Bool → Type 0
  Source env c k h a b =
      Near (inside_one_supply types s env) (Some (moved_spot a (side_number s c) k (spot s.of (ResultEnd h)))) (spot_if b (side_number s c) (PartEnd k h))

  of_source : (env : Supplies) (c k h : ℕ) → h < size → Source env c k h (nat_eq s.of s.of) (serves_side size c h)
  of_source env c k h lt =
      subst (λ (a : Bool). Source env c k h a (serves_side size c h)) (sym (eq-eqb s.of s.of refl))
      (subst (λ (b : Bool). Source env c k h true b) (sym (serves_source size c h lt)) (refl, here (Of (PartEnd k h))))

  source_near : (env : Supplies) (k h : ℕ) (a b : Bool) → h < size
      → Near (inside_one_supply types s env) (moved s (seen_from a b) k (spot_if (a || b) s.of (ResultEnd h))) (share_spot size k s (seen_from a b) h)
  source_near env k h true b lt = of_source env 0 k h lt
  source_near env k h false true lt = of_source env 1 k h lt
  source_near env k h false false lt = tt

  -- a caller
  of_caller : (env : Supplies) (c h : ℕ) → c < 2 → h < size
      → Ends env (side_number s c) (ResultEnd h) (PartEnd (length (env s.of).plan.parts) (size + c * size + h))
      (nat_eq (side_number s c) (side_number s c)) (serves_side size c (size + c * size + h))
  of_caller env c h two lt =
      ends env (side_number s c) (ResultEnd h) (PartEnd (length (env s.of).plan.parts) (size + c * size + h))
      (nat_eq (side_number s c) (side_number s c)) (serves_side size c (size + c * size + h)) true true
      (eq-eqb (side_number s c) (side_number s c) refl) (serves_caller size c h two lt) (
        refl,
        subst (λ (z : Supply). Way (own_web z.plan).ties (Of (ResultEnd h)) (Of (PartEnd (length (env s.of).plan.parts) (size + c * size + h))))
            (sym (side_env types s ss once env c two)) (way_to_caller (types s.of) c (env s.of).plan h lt),
      )

  neither_end : (env : Supplies) (m n : ℕ) (d e : End) (a b : Bool) → a ≡ false → b ≡ false
      → Near (inside_one_supply types s env) (spot_if a m d) (spot_if b n e)
  neither_end env m n d e a b at_a at_b =
      subst (λ (u : Bool). Near (inside_one_supply types s env) (spot_if u m d) (spot_if b n e)) (sym at_a)
      (subst (λ (u : Bool). Near (inside_one_supply types s env) None (spot_if u n e)) (sym at_b) tt)

  caller_near : (env : Supplies) (h : ℕ) (a b : Bool) (c : ℕ) → c < 2 → h < size
      → Near (inside_one_supply types s env) (side_spot s (seen_from a b) (side_number s c) h)
      (share_spot size (length (env s.of).plan.parts) s (seen_from a b) (size + c * size + h))
  caller_near env h true b zero two lt = of_caller env 0 h two lt
  caller_near env h true b (suc zero) two lt =
      neither_end env s.right s.left (ResultEnd h) (PartEnd (length (env s.of).plan.parts) (size + 1 * size + h))
      (nat_eq s.right s.left) (serves_side size 0 (size + 1 * size + h))
      (ne_eqb s.right s.left (λ e. differ types s ss once (sym e))) (serves_first_alone size h)
  caller_near env h false true zero two lt =
      neither_end env s.left s.right (ResultEnd h) (PartEnd (length (env s.of).plan.parts) (size + 0 * size + h))
      (nat_eq s.left s.right) (serves_side size 1 (size + 0 * size + h))
      (ne_eqb s.left s.right (differ types s ss once)) (serves_second_alone size h lt)
  caller_near env h false true (suc zero) two lt = of_caller env 1 h two lt
  caller_near env h false false c two lt = tt
  caller_near env h a b (suc (suc c)) two lt = absurd (omega (arith, two))

  -- the numbers
  side_left_held : (a b : Bool) (h : ℕ) → side_spot s (seen_from a b) s.left h ≡ spot_if a s.left (ResultEnd h)
  side_left_held true b h = ap (λ (u : Bool). spot_if u s.left (ResultEnd h)) (eq-eqb s.left s.left refl)
  side_left_held false true h = ap (λ (u : Bool). spot_if u s.left (ResultEnd h)) (ne_eqb s.left s.right (differ types s ss once))
  side_left_held false false h = refl

  side_right_held : (a b : Bool) (h : ℕ) → (a ≡ true → b ≡ true → ⊥) → side_spot s (seen_from a b) s.right h ≡ spot_if b s.right (ResultEnd h)
  side_right_held true true h apart = absurd (apart refl refl)
  side_right_held true false h apart =
      ap (λ (u : Bool). spot_if u s.right (ResultEnd h)) (ne_eqb s.right s.left (λ e. differ types s ss once (sym e)))
  side_right_held false true h apart = ap (λ (u : Bool). spot_if u s.right (ResultEnd h)) (eq-eqb s.right s.right refl)
  side_right_held false false h apart = refl

  other_held : (c : Option ℕ) (k n h : ℕ) (v : Bool) → n ≢ s.of → moved s c k (spot_if v n (ResultEnd h)) ≡ spot_if v n (ResultEnd h)
  other_held None k n h v apart = refl
  other_held (Some c) k n h false apart = refl
  other_held (Some c) k n h true apart =
      ap (λ (b : Bool). Some (moved_spot b (side_number s c) k (spot n (ResultEnd h)))) (ne_eqb n s.of apart)

  module _ (inner : ℕ → Bool) (apart : live ss inner s.left ≡ true → live ss inner s.right ≡ true → ⊥) (q x : ℕ) (l : Lodging) where
    abbrev caller : Option ℕ
    caller = seen_from (live ss inner s.left) (live ss inner s.right)

    abbrev next : Lodging
    next = one_lodging types q x s caller l

    abbrev place : ℕ
    place = length (l.env s.of).plan.parts

    live_of : live (s ∷ ss) inner s.of ≡ (live ss inner s.left || live ss inner s.right)
    live_of = ap (λ (b : Bool). if b then live ss inner s.left || live ss inner s.right else live ss inner s.of) (eq-eqb s.of s.of refl)

    live_other : (n : ℕ) → n ≢ s.of → live (s ∷ ss) inner n ≡ live ss inner n
    live_other n far = ap (λ (b : Bool). if b then live ss inner s.left || live ss inner s.right else live ss inner n) (ne_eqb n s.of far)

    at_side : (c h : ℕ) → next.home (Within 0 (Number (side_number s c) h)) ≡ side_spot s caller (side_number s c) h
    at_side c h =
        ap (λ (b : Bool). if b then side_spot s caller (side_number s c) h else moved s caller place (l.home (Within 0 (Number (side_number s c) h))))
        (side_is types s ss once c)

    at_share : (h : ℕ) → next.home (Within 0 (Of (PartEnd q h))) ≡ share_spot size place s caller h
    at_share h =
        ap (λ (b : Bool). if b then share_spot size place s caller h else moved s caller place (l.home (Within 0 (Of (PartEnd q h))))) (eq-eqb q q refl)

    -- each number that is not split yet is held
    pub held_on : (gone : List ℕ)
        → ((n h : ℕ) → times n (sides (s ∷ ss)) ≡ 0 → times n gone ≡ 0 → l.home (Within 0 (Number n h)) ≡ spot_if (live (s ∷ ss) inner n) n (ResultEnd h))
        → (n h : ℕ) → times n (sides ss) ≡ 0 → times n (s.of ∷ gone) ≡ 0 → next.home (Within 0 (Number n h)) ≡ spot_if (live ss inner n) n (ResultEnd h)
    held_on gone held n h none kept =
        number_cases n s.left
        (λ e t. subst (λ (m : ℕ). next.home (Within 0 (Number m h)) ≡ spot_if (live ss inner m) m (ResultEnd h)) (sym e)
        (at_side 0 h ∙ side_left_held (live ss inner s.left) (live ss inner s.right) h))
        (λ left t. number_cases n s.right
        (λ e t. subst (λ (m : ℕ). next.home (Within 0 (Number m h)) ≡ spot_if (live ss inner m) m (ResultEnd h)) (sym e)
        (at_side 1 h ∙ side_right_held (live ss inner s.left) (live ss inner s.right) h apart))
        (λ right t. elsewhere left right))
      where
        far : (n ≢ s.of) × (times n gone ≡ 0)
        far = times_none n s.of gone kept

        elsewhere : n ≢ s.left → n ≢ s.right → next.home (Within 0 (Number n h)) ≡ spot_if (live ss inner n) n (ResultEnd h)
        elsewhere left right =
            let aside : times n (sides (s ∷ ss)) ≡ 0 =
            times_other n s.left (s.right ∷ sides ss) (λ e. left (sym e)) ∙ (times_other n s.right (sides ss) (λ e. right (sym e)) ∙ none)
            in
            ap (λ (b : Bool). if b then side_spot s caller n h else moved s caller place (l.home (Within 0 (Number n h)))) (no_side s n left right)
            ∙ (ap (moved s caller place) (held n h aside far.1 ∙ ap (λ (b : Bool). spot_if b n (ResultEnd h)) (live_other n far.0))
            ∙ other_held caller place n h (live ss inner n) far.0)

    -- the split's own ties
    pub source_kept : (h : ℕ) → times s.of (sides (s ∷ ss)) ≡ 0 → h < size → l.home (Within 0 (Number s.of h)) ≡ spot_if (live (s ∷ ss) inner s.of) s.of (ResultEnd h)
        → IsKept (suc q) ss next (tie (Within 0 (Number s.of h)) (Within 0 (Of (PartEnd q h))))
    source_kept h before lt held =
        record {
          near =
              subst (λ (a : Option Spot). Near next.env a (next.home (Within 0 (Of (PartEnd q h))))) (sym at_one)
              (subst (λ (b : Option Spot). Near next.env (moved s caller place (spot_if (live ss inner s.left || live ss inner s.right) s.of (ResultEnd h))) b) (sym (at_share h))
              (source_near l.env place h (live ss inner s.left) (live ss inner s.right) lt));
          one = (neither_side s ss s.of before).2;
          other = omega arith;
          old =
              subst (IsOld ss) (sym at_one)
              (old_moved types s ss once caller place (spot_if (live ss inner s.left || live ss inner s.right) s.of (ResultEnd h))
              (is_old (live ss inner s.left || live ss inner s.right)));
        }
      where
        at_one : next.home (Within 0 (Number s.of h)) ≡ moved s caller place (spot_if (live ss inner s.left || live ss inner s.right) s.of (ResultEnd h))
        at_one =
            plainly q size place s ss caller l.home (Within 0 (Number s.of h)) before
            ∙ ap (moved s caller place) (held ∙ ap (λ (b : Bool). spot_if b s.of (ResultEnd h)) live_of)

        is_old : (b : Bool) → IsOld (s ∷ ss) (spot_if b s.of (ResultEnd h))
        is_old true = before
        is_old false = tt

    pub caller_kept : (c h : ℕ) → c < 2 → h < size → IsKept (suc q) ss next (tie (Within 0 (Number (side_number s c) h)) (Within 0 (Of (PartEnd q (size + c * size + h)))))
    caller_kept c h two lt =
        record {
          near =
              subst (λ (a : Option Spot). Near next.env a (next.home (Within 0 (Of (PartEnd q (size + c * size + h)))))) (sym (at_side c h))
              (subst (λ (b : Option Spot). Near next.env (side_spot s caller (side_number s c) h) b) (sym (at_share (size + c * size + h)))
              (caller_near l.env h (live ss inner s.left) (live ss inner s.right) c two lt));
          one = side_gone types s ss once c;
          other = omega arith;
          old = subst (IsOld ss) (sym (at_side c h)) (is_old caller);
        }
      where
        if_so : (b : Bool) → IsOld ss (spot_if b (side_number s c) (ResultEnd h))
        if_so true = side_gone types s ss once c
        if_so false = tt

        is_old : (a : Option ℕ) → IsOld ss (side_spot s a (side_number s c) h)
        is_old None = tt
        is_old (Some d) = if_so (nat_eq (side_number s c) (side_number s d))
