-- The parts and imports of what stands for a live number are at home there.
use Rattle.std.specs.Prelude.{◌≢◌, ◌+◌, ◌<◌, ◌≤◌, ◌||◌, length, nat_eq, None}
use Rattle.std.proofs.Common.{◌≡◌, ℕ, zero, suc, Bool, true, false, not, List, [], ◌∷◌, ◌++◌, Option, Some, refl, sym, ◌∙◌, ap, subst, arith, if◌then◌else◌}
use Rattle.std.proofs.lemmas.Bool.{eq-eqb, ne_eqb, or_right, or_left}
use Rattle.gos_model.proofs.NumberLemmas.{number_cases}
use Rattle.gos_check.specs.declared.linear.Split.{Split}
use Rattle.gos_check.specs.Linearity.{times, split_in, sides}
use Rattle.gos_check.proofs.TimesLemmas.{times_none, times_other}
use Rattle.gos_plan.specs.Kinds.{Share}
use Rattle.gos_plan.specs.Plans.{End, PartEnd, ImportEnd}
use Rattle.gos_realises.specs.realises.Regular.{count}
use Rattle.gos_realises.specs.realises.Modules.{Supply}
use Rattle.gos_joining.specs.webs.Webs.{Dot, Of, Within}
use Rattle.gos_compile.specs.Wiring.{Types}
use Rattle.gos_sharing.proofs.buffers.DrivenLemmas.{one_longer}
use Rattle.gos_terms.specs.wired.Wired.{Supplies, Source, Own, source_dot}
use Rattle.gos_terms.specs.stages.Lodging.{Spot, spot, spot_if, Lodging, live, first_lodging, side_number, serves_side, moved_spot, moved, share_spot, one_lodging, lodging, IsAtHome, NumbersAreAtHome}
use Rattle.gos_terms.proofs.stages.InsideLemmas.{one_stays}
use Rattle.gos_terms.proofs.stages.HomeLemmas.{Untouched, no_side, untouched_later, plainly}
use Rattle.gos_terms.proofs.stages.StepLemmas.{differ, side_is, side_env}
use Rattle.gos_terms.proofs.stages.LodgingLemmas.{IsTidy, tidy_on, tidy_first, of_gone, seen, seen_first, seen_second}

-- where a part's handshake is at home, and no later split touches it
abbrev Placed : ℕ → ℕ → List Split → (Dot → Option Spot) → Source → Bool → ℕ → ℕ → ℕ → Type 0
Placed i q ss home from spare n k h = (home (source_dot i from h) ≡ spot_if (not spare) n (PartEnd k h)) × Untouched q ss (source_dot i from h)

pub record IsPlaced (i q : ℕ) (ss : List Split) (l : Lodging) (n : ℕ) : Type 0 where
  pub parts : (k h : ℕ) → k < length (l.env n).plan.parts → Placed i q ss l.home (l.part n k) (l.spare n k h) n k h
  pub imports : (k h : ℕ) → l.home (Within (suc (l.root n)) (Of (ImportEnd k h))) ≡ Some (spot n (ImportEnd k h))

twice_not : (b : Bool) → not (not b) ≡ b
twice_not true = refl
twice_not false = refl

module _ (types : Types) (i q x : ℕ) (at_q : q ≡ i + x) (s : Split) (ss : List Split) (once : (k : ℕ) → times k (sides (s ∷ ss)) ≤ 1) (l : Lodging) (a : Option ℕ) where
  abbrev size : ℕ
  size = count (types s.of)

  abbrev place : ℕ
  place = length (l.env s.of).plan.parts

  abbrev next : Lodging
  next = one_lodging types q x s a l

  -- what is of the number that is split is of the side from which the Share is seen
  moved_of : (c : ℕ) (b : Bool) (k h : ℕ) → moved s (Some c) place (spot_if b s.of (PartEnd k h)) ≡ spot_if b (side_number s c) (PartEnd k h)
  moved_of c true k h =
      ap (λ (t : Bool). Some (moved_spot t (side_number s c) place (spot s.of (PartEnd k h)))) (eq-eqb s.of s.of refl)
  moved_of c false k h = refl

  moved_import : (c k h : ℕ) → moved s (Some c) place (Some (spot s.of (ImportEnd k h))) ≡ Some (spot (side_number s c) (ImportEnd k h))
  moved_import c k h =
      ap (λ (t : Bool). Some (moved_spot t (side_number s c) place (spot s.of (ImportEnd k h)))) (eq-eqb s.of s.of refl)

  plain : (d : Dot) → Untouched q (s ∷ ss) d → next.home d ≡ moved s a place (l.home d)
  plain d u = plainly q size place s ss a l.home d u

  -- a side
  module _ (c : ℕ) (two : c < 2) (sees : a ≡ Some c) (was : IsPlaced i q (s ∷ ss) l s.of) where
    abbrev n : ℕ
    n = side_number s c

    which : (b : ℕ) → b < 2 → (if nat_eq (side_number s b) s.left then 0 else 1) ≡ b
    which zero lt = ap (λ (t : Bool). if t then 0 else 1) (eq-eqb s.left s.left refl)
    which (suc zero) lt = ap (λ (t : Bool). if t then 0 else 1) (ne_eqb s.right s.left (λ e. differ types s ss once (sym e)))
    which (suc (suc b)) lt = absurd (omega (arith, lt))

    abbrev from : ℕ → Bool → Source
    from k b = if b then Own x else l.part s.of k

    abbrev spared : ℕ → ℕ → Bool → Bool
    spared k h b = if b then not (serves_side size c h) else l.spare s.of k h

    at_part : (k : ℕ) → next.part n k ≡ from k (nat_eq k place)
    at_part k = ap (λ (t : Bool). if t then from k (nat_eq k place) else l.part n k) (side_is types s ss once c)

    at_spare : (k h : ℕ) → next.spare n k h ≡ spared k h (nat_eq k place)
    at_spare k h =
        ap (λ (t : Bool). if t then if nat_eq k place then not (serves_side size (if nat_eq n s.left then 0 else 1) h) else l.spare s.of k h else l.spare n k h)
        (side_is types s ss once c)
        ∙ ap (λ (b : ℕ). if nat_eq k place then not (serves_side size b h) else l.spare s.of k h) (which c two)

    at_share : (h : ℕ) → next.home (Within 0 (Of (PartEnd q h))) ≡ spot_if (serves_side size c h) n (PartEnd place h)
    at_share h =
        ap (λ (t : Bool). if t then share_spot size place s a h else moved s a place (l.home (Within 0 (Of (PartEnd q h))))) (eq-eqb q q refl)
        ∙ ap (λ (b : Option ℕ). share_spot size place s b h) sees

    own_part : (k h : ℕ) → k ≡ place → Placed i (suc q) ss next.home (Own x) (not (serves_side size c h)) n k h
    own_part k h e = (
      ap (λ (r : ℕ). next.home (Within 0 (Of (PartEnd r h)))) (sym at_q)
          ∙ (at_share h
          ∙ (ap (λ (t : Bool). spot_if t n (PartEnd place h)) (sym (twice_not (serves_side size c h)))
          ∙ ap (λ (r : ℕ). spot_if (not (not (serves_side size c h))) n (PartEnd r h)) (sym e))),
      omega (arith, at_q),
    )

    old_part : (k h : ℕ) → k < place → Placed i (suc q) ss next.home (l.part s.of k) (l.spare s.of k h) n k h
    old_part k h lt =
        let (here, free) = was.parts k h lt in (
          plain (source_dot i (l.part s.of k) h) free
              ∙ (ap (λ (b : Option ℕ). moved s b place (l.home (source_dot i (l.part s.of k) h))) sees
              ∙ (ap (moved s (Some c) place) here ∙ moved_of c (not (l.spare s.of k h)) k h)),
          untouched_later q s ss (source_dot i (l.part s.of k) h) free,
        )

    chosen_part : (k h : ℕ) → k < suc place → Placed i (suc q) ss next.home (from k (nat_eq k place)) (spared k h (nat_eq k place)) n k h
    chosen_part k h lt =
        number_cases k place
        (λ e t. subst (λ (b : Bool). Placed i (suc q) ss next.home (from k b) (spared k h b) n k h) (sym t) (own_part k h e))
        (λ e t. subst (λ (b : Bool). Placed i (suc q) ss next.home (from k b) (spared k h b) n k h) (sym t) (old_part k h (below e)))
      where
        below : k ≢ place → k < place
        below e = grind (arith, lt, e)

    longer : (k : ℕ) → k < length (next.env n).plan.parts → k < suc place
    longer k lt =
        let here : k < length ((l.env s.of).plan.parts ++ (Share (types s.of) ∷ [])) =
        subst (λ (e : Supply). k < length e.plan.parts) (side_env types s ss once l.env c two) lt
        in
        let size' = one_longer (l.env s.of).plan.parts (Share (types s.of)) in
        omega (arith, here, size')

    at_root : next.root n ≡ l.root s.of
    at_root = ap (λ (t : Bool). if t then l.root s.of else l.root n) (side_is types s ss once c)

    pub side_placed : IsPlaced i (suc q) ss next (side_number s c)
    side_placed =
        record {
          parts =
              λ k h lt.
              subst (λ (b : Bool). Placed i (suc q) ss next.home (next.part n k) b n k h) (sym (at_spare k h))
              (subst (λ (z : Source). Placed i (suc q) ss next.home z (spared k h (nat_eq k place)) n k h) (sym (at_part k))
              (chosen_part k h (longer k lt)));
          imports =
              λ k h.
              ap (λ (r : ℕ). next.home (Within (suc r) (Of (ImportEnd k h)))) at_root
              ∙ (plain (Within (suc (l.root s.of)) (Of (ImportEnd k h))) tt
              ∙ (ap (λ (b : Option ℕ). moved s b place (l.home (Within (suc (l.root s.of)) (Of (ImportEnd k h))))) sees
              ∙ (ap (moved s (Some c) place) (was.imports k h) ∙ moved_import c k h)));
        }

  -- another number
  stays_moved : (b : Option ℕ) (n : ℕ) (v : Bool) (e : End) → n ≢ s.of → moved s b place (spot_if v n e) ≡ spot_if v n e
  stays_moved None n v e far = refl
  stays_moved (Some c) n false e far = refl
  stays_moved (Some c) n true e far = ap (λ (t : Bool). Some (moved_spot t (side_number s c) place (spot n e))) (ne_eqb n s.of far)

  module _ (n : ℕ) (left : n ≢ s.left) (right : n ≢ s.right) (far : n ≢ s.of) (was : IsPlaced i q (s ∷ ss) l n) where
    at_old_part : (k : ℕ) → next.part n k ≡ l.part n k
    at_old_part k = ap (λ (t : Bool). if t then if nat_eq k place then Own x else l.part s.of k else l.part n k) (no_side s n left right)

    at_old_spare : (k h : ℕ) → next.spare n k h ≡ l.spare n k h
    at_old_spare k h =
        ap (λ (t : Bool). if t then if nat_eq k place then not (serves_side size (if nat_eq n s.left then 0 else 1) h) else l.spare s.of k h else l.spare n k h)
        (no_side s n left right)

    at_old_root : next.root n ≡ l.root n
    at_old_root = ap (λ (t : Bool). if t then l.root s.of else l.root n) (no_side s n left right)

    kept_part : (k h : ℕ) → k < length (l.env n).plan.parts → Placed i (suc q) ss next.home (l.part n k) (l.spare n k h) n k h
    kept_part k h lt =
        let (here, free) = was.parts k h lt in (
          plain (source_dot i (l.part n k) h) free ∙ (ap (moved s a place) here ∙ stays_moved a n (not (l.spare n k h)) (PartEnd k h) far),
          untouched_later q s ss (source_dot i (l.part n k) h) free,
        )

    pub other_placed : IsPlaced i (suc q) ss next n
    other_placed =
        record {
          parts =
              λ k h lt.
              subst (λ (b : Bool). Placed i (suc q) ss next.home (next.part n k) b n k h) (sym (at_old_spare k h))
              (subst (λ (z : Source). Placed i (suc q) ss next.home z (l.spare n k h) n k h) (sym (at_old_part k))
              (kept_part k h (subst (λ (e : Supply). k < length e.plan.parts) (one_stays types s l.env n left right) lt)));
          imports =
              λ k h.
              ap (λ (r : ℕ). next.home (Within (suc r) (Of (ImportEnd k h)))) at_old_root
              ∙ (plain (Within (suc (l.root n)) (Of (ImportEnd k h))) tt
              ∙ (ap (moved s a place) (was.imports k h) ∙ stays_moved a n true (ImportEnd k h) far));
        }

-- all splits
module _ (types : Types) (i : ℕ) (inner : ℕ → Bool) where
  abbrev AllPlaced : ℕ → List Split → List ℕ → Lodging → Type 0
  AllPlaced q ss gone l =
      (n : ℕ) → times n (sides ss) ≡ 0 → times n gone ≡ 0 → live ss inner n ≡ true → IsPlaced i q ss l n

  placed_on : (s : Split) (ss : List Split) (q x : ℕ) → q ≡ i + x → (l : Lodging) (gone : List ℕ) → IsTidy inner (s ∷ ss) gone → AllPlaced q (s ∷ ss) gone l
      → AllPlaced (suc q) ss (s.of ∷ gone) (one_lodging types q x s (seen types inner ss s) l)
  placed_on s ss q x at_q l gone tidy placed n none away lives =
      number_cases n s.left
      (λ e t. subst (λ (m : ℕ). IsPlaced i (suc q) ss next m) (sym e) (at_left (subst (λ (m : ℕ). live ss inner m ≡ true) e lives)))
      (λ left t. number_cases n s.right
      (λ e t. subst (λ (m : ℕ). IsPlaced i (suc q) ss next m) (sym e) (at_right (subst (λ (m : ℕ). live ss inner m ≡ true) e lives)))
      (λ right t. elsewhere left right))
    where
      next : Lodging
      next = one_lodging types q x s (seen types inner ss s) l

      of_live : (live ss inner s.left || live ss inner s.right) ≡ true → IsPlaced i q (s ∷ ss) l s.of
      of_live one =
          placed s.of tidy.order.0 (of_gone inner s ss gone tidy)
          (ap (λ (b : Bool). if b then live ss inner s.left || live ss inner s.right else live ss inner s.of) (eq-eqb s.of s.of refl) ∙ one)

      at_left : live ss inner s.left ≡ true → IsPlaced i (suc q) ss (one_lodging types q x s (seen types inner ss s) l) s.left
      at_left one =
          side_placed types i q x at_q s ss tidy.once l (seen types inner ss s) 0 (omega arith)
          (seen_first (live ss inner s.left) (live ss inner s.right) one) (of_live (or_left (live ss inner s.left) (live ss inner s.right) one))

      at_right : live ss inner s.right ≡ true → IsPlaced i (suc q) ss (one_lodging types q x s (seen types inner ss s) l) s.right
      at_right one =
          side_placed types i q x at_q s ss tidy.once l (seen types inner ss s) 1 (omega arith)
          (seen_second (live ss inner s.left) (live ss inner s.right) tidy.apart.0 one)
          (of_live (or_right (live ss inner s.left) (live ss inner s.right) one))

      elsewhere : n ≢ s.left → n ≢ s.right → IsPlaced i (suc q) ss (one_lodging types q x s (seen types inner ss s) l) n
      elsewhere left right =
          let (far, gone_too) = times_none n s.of gone away in
          let aside : times n (sides (s ∷ ss)) ≡ 0 =
          times_other n s.left (s.right ∷ sides ss) (λ e. left (sym e)) ∙ (times_other n s.right (sides ss) (λ e. right (sym e)) ∙ none)
          in
          let same : live (s ∷ ss) inner n ≡ true =
          ap (λ (b : Bool). if b then live ss inner s.left || live ss inner s.right else live ss inner n) (ne_eqb n s.of far) ∙ lives
          in
          other_placed types i q x at_q s ss tidy.once l (seen types inner ss s) n left right far (placed n aside gone_too same)

  final_placed : (ss : List Split) (q x : ℕ) → q ≡ i + x → (l : Lodging) (gone : List ℕ) → IsTidy inner ss gone → AllPlaced q ss gone l
      → (n : ℕ) → times n (split_in ss) ≡ 0 → times n gone ≡ 0 → inner n ≡ true → IsAtHome i (lodging types q x inner ss l) n
  final_placed [] q x at_q l gone tidy placed n none away lives =
      let here = placed n refl away lives in record { parts = λ k h lt. (here.parts k h lt).0; imports = here.imports }
  final_placed (s ∷ ss) q x at_q l gone tidy placed n none away lives =
      let (far, rest) = times_none n s.of (split_in ss) none in
      final_placed ss (suc q) (suc x) (omega (arith, at_q)) (one_lodging types q x s (seen types inner ss s) l) (s.of ∷ gone) (tidy_on inner s ss gone tidy)
      (placed_on s ss q x at_q l gone tidy placed) n rest (times_other n s.of gone (λ e. far (sym e)) ∙ away) lives

  first_placed : (ss : List Split) (env : Supplies) (q : ℕ) → AllPlaced q ss [] (first_lodging (live ss inner) env)
  first_placed ss env q n none away lives =
      record {
        parts = λ k h lt. (ap (λ (b : Bool). spot_if b n (PartEnd k h)) lives, tt);
        imports = λ k h. ap (λ (b : Bool). spot_if b n (ImportEnd k h)) lives;
      }

pub numbers_are_at_home : NumbersAreAtHome
numbers_are_at_home types i inner ss env ns n tidy none lives =
    final_placed types i inner ss i 0 (omega arith) (first_lodging (live ss inner) env) [] (tidy_first inner ss ns tidy)
    (first_placed types i inner ss env i) n none refl lives
