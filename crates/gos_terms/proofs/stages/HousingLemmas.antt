-- Parts and imports of supplies inside splits, split by split.
use Rattle.std.specs.Prelude.{◌≢◌, ◌+◌, ◌<◌, ◌≤◌, length, nat_eq, slice_get, None, Contains}
use Rattle.std.proofs.Common.{◌≡◌, ℕ, suc, Bool, true, false, not, List, [], ◌∷◌, ◌++◌, Option, Some, inl, inr, refl, sym, ◌∙◌, ap, subst, arith, if◌then◌else◌}
use Rattle.std.proofs.lemmas.Bool.{eq-eqb, ne_eqb}
use Rattle.std.proofs.lemmas.Option.{none-some}
use Rattle.gos_model.proofs.NumberLemmas.{number_cases}
use Rattle.gos_check.specs.declared.linear.Split.{Split}
use Rattle.gos_check.specs.Linearity.{times, sides}
use Rattle.gos_plan.specs.Kinds.{Part, Share}
use Rattle.gos_plan.specs.Plans.{PartEnd}
use Rattle.gos_realises.specs.realises.Regular.{count}
use Rattle.gos_realises.specs.realises.Modules.{Supply}
use Rattle.gos_realises.proofs.realises.CountLemmas.{some_shake}
use Rattle.gos_joining.specs.webs.Webs.{Of, Within}
use Rattle.gos_compile.specs.Wiring.{Types, shares}
use Rattle.gos_sharing.specs.buffers.Buffering.{end_behind}
use Rattle.gos_sharing.proofs.buffers.BufferedLemmas.{at_last, before_last}
use Rattle.gos_sharing.proofs.buffers.DrivenLemmas.{one_longer}
use Rattle.gos_terms.specs.wired.Wired.{Supplies, Source, Own, Supplied, IsFrom, source_dot}
use Rattle.gos_terms.specs.stages.Inside.{numbers_inside, AreSplit}
use Rattle.gos_terms.specs.stages.Lodging.{Spot, spot, spot_if, Lodging, live, first_lodging, side_number, is_side, serves_side, moved_spot, moved, share_spot, one_lodging, lodging, lodged}
use Rattle.gos_terms.specs.stages.Housing.{FarIsNothing, FirstIsKept, PartsAreFrom, ImportsAreFrom, IsOutsider, PartsAreOutsiders, IsIn, HomesAreThere}
use Rattle.gos_terms.proofs.stages.InsideLemmas.{of_cons, one_stays}
use Rattle.gos_terms.proofs.stages.HomeLemmas.{Untouched, IsOld, neither_side, no_side, plainly}
use Rattle.gos_terms.proofs.stages.StepLemmas.{serves_source, side_is, side_env, side_gone, seen_caller, IsCaller}
use Rattle.gos_terms.proofs.stages.LodgingLemmas.{IsTidy, tidy_on, tidy_first, seen}

-- parts and imports that come from outside
abbrev AreFrom : List Part → List ℕ → Supplies → Lodging → List ℕ → Type 0
AreFrom own ns env l ms = (n k : ℕ) (y : Part) → Contains ms n → slice_get (l.env n).plan.parts k ≡ Some y → IsFrom own ns env y (l.part n k)

abbrev HaveRoots : List ℕ → Supplies → Lodging → List ℕ → Type 0
HaveRoots ns env l ms = (n : ℕ) → Contains ms n → Contains ns (l.root n) × ((l.env n).plan.imports ≡ (env (l.root n)).plan.imports)

module _ (types : Types) (q x : ℕ) (s : Split) (ss : List Split) (once : (k : ℕ) → times k (sides (s ∷ ss)) ≤ 1) (l : Lodging) (a : Option ℕ) where
  abbrev place : ℕ
  place = length (l.env s.of).plan.parts

  abbrev next : Lodging
  next = one_lodging types q x s a l

  -- each number inside is a side or was one before
  by_number : (Q : ℕ → Type 0) (ms : List ℕ) → ((c : ℕ) → c < 2 → Q (side_number s c))
      → ((n : ℕ) → n ≢ s.left → n ≢ s.right → Contains ms n → Q n) → (n : ℕ) → Contains (s.left ∷ s.right ∷ ms) n → Q n
  by_number Q ms side other n there =
      number_cases n s.left
      (λ e t. subst Q (sym e) (side 0 (omega arith)))
      (λ l t. number_cases n s.right
      (λ e t. subst Q (sym e) (side 1 (omega arith)))
      (λ r t. other n l r (apart l r)))
    where
      apart : n ≢ s.left → n ≢ s.right → Contains ms n
      apart l r =
          elim (of_cons s.left (s.right ∷ ms) n there) [
            | inl e ↦ absurd (l (sym e))
            | inr more ↦ elim (of_cons s.right ms n more) [ inl e ↦ absurd (r (sym e)) | inr own ↦ own ]
          ]

  side_part : (c k : ℕ) → next.part (side_number s c) k ≡ (if nat_eq k place then Own x else l.part s.of k)
  side_part c k = ap (λ (t : Bool). if t then if nat_eq k place then Own x else l.part s.of k else l.part (side_number s c) k) (side_is types s ss once c)

  other_part : (n k : ℕ) → n ≢ s.left → n ≢ s.right → next.part n k ≡ l.part n k
  other_part n k left right = ap (λ (t : Bool). if t then if nat_eq k place then Own x else l.part s.of k else l.part n k) (no_side s n left right)

  -- where parts come from
  from_on : (own : List Part) (ns ms : List ℕ) (env : Supplies) → slice_get own x ≡ Some (Share (types s.of)) → Contains ms s.of
      → AreFrom own ns env l ms → AreFrom own ns env next (s.left ∷ s.right ∷ ms)
  from_on own ns ms env share of are n k y there has =
      by_number (λ (m : ℕ). slice_get (next.env m).plan.parts k ≡ Some y → IsFrom own ns env y (next.part m k)) ms of_side of_other n there has
    where
      at_place : (k : ℕ) → slice_get ((l.env s.of).plan.parts ++ (Share (types s.of) ∷ [])) k ≡ Some y
          → IsFrom own ns env y (if nat_eq k place then Own x else l.part s.of k)
      at_place k has =
          number_cases k place
          (λ e t. subst (λ (b : Bool). IsFrom own ns env y (if b then Own x else l.part s.of k)) (sym t)
          (share ∙ (sym (at_last (l.env s.of).plan.parts (Share (types s.of)))
          ∙ (ap (slice_get ((l.env s.of).plan.parts ++ (Share (types s.of) ∷ []))) (sym e) ∙ has))))
          (λ e t. subst (λ (b : Bool). IsFrom own ns env y (if b then Own x else l.part s.of k)) (sym t)
          (are s.of k y of (sym (before_last (l.env s.of).plan.parts (Share (types s.of)) k e) ∙ has)))

      of_side : (c : ℕ) → c < 2 → slice_get (next.env (side_number s c)).plan.parts k ≡ Some y → IsFrom own ns env y (next.part (side_number s c) k)
      of_side c two has =
          subst (IsFrom own ns env y) (sym (side_part c k))
          (at_place k (subst (λ (e : Supply). slice_get e.plan.parts k ≡ Some y) (side_env types s ss once l.env c two) has))

      of_other : (n : ℕ) → n ≢ s.left → n ≢ s.right → Contains ms n → slice_get (next.env n).plan.parts k ≡ Some y → IsFrom own ns env y (next.part n k)
      of_other n left right own_number has =
          subst (IsFrom own ns env y) (sym (other_part n k left right))
          (are n k y own_number (subst (λ (e : Supply). slice_get e.plan.parts k ≡ Some y) (one_stays types s l.env n left right) has))

  -- whose imports they are
  roots_on : (ns ms : List ℕ) (env : Supplies) → Contains ms s.of → HaveRoots ns env l ms → HaveRoots ns env next (s.left ∷ s.right ∷ ms)
  roots_on ns ms env of are n there =
      by_number (λ (m : ℕ). Contains ns (next.root m) × ((next.env m).plan.imports ≡ (env (next.root m)).plan.imports)) ms of_side of_other n there
    where
      of_side : (c : ℕ) → c < 2 → Contains ns (next.root (side_number s c)) × ((next.env (side_number s c)).plan.imports ≡ (env (next.root (side_number s c))).plan.imports)
      of_side c two =
          let root : next.root (side_number s c) ≡ l.root s.of =
          ap (λ (t : Bool). if t then l.root s.of else l.root (side_number s c)) (side_is types s ss once c)
          in
          subst (λ (r : ℕ). Contains ns r × ((next.env (side_number s c)).plan.imports ≡ (env r).plan.imports)) (sym root)
          ((are s.of of).0, ap (λ (e : Supply). e.plan.imports) (side_env types s ss once l.env c two) ∙ (are s.of of).1)

      of_other : (n : ℕ) → n ≢ s.left → n ≢ s.right → Contains ms n → Contains ns (next.root n) × ((next.env n).plan.imports ≡ (env (next.root n)).plan.imports)
      of_other n left right own_number =
          let root : next.root n ≡ l.root n = ap (λ (t : Bool). if t then l.root s.of else l.root n) (no_side s n left right) in
          subst (λ (r : ℕ). Contains ns r × ((next.env n).plan.imports ≡ (env r).plan.imports)) (sym root)
          ((are n own_number).0, ap (λ (e : Supply). e.plan.imports) (one_stays types s l.env n left right) ∙ (are n own_number).1)

  -- a part that is at home in a supply
  longer : (c : ℕ) → c < 2 → length (next.env (side_number s c)).plan.parts ≡ suc place
  longer c two =
      ap (λ (e : Supply). length e.plan.parts) (side_env types s ss once l.env c two) ∙ one_longer (l.env s.of).plan.parts (Share (types s.of))

  abbrev Comes : Source → ℕ → Option Spot → Option Spot → Type 0
  Comes from h old new = (z : Spot) → new ≡ Some z → IsIn next from h z × IsOld ss (Some z)

  -- what is of neither side stays
  stay : (from : Source) (h : ℕ) (y : Spot) → IsIn l from h y × IsOld (s ∷ ss) (Some y) → IsIn next from h y × IsOld ss (Some y)
  stay from h y (it, old) =
      let (left, right, rest) = neither_side s ss y.number old in (
        record {
          part = it.part;
          end = it.end;
          from = other_part y.number it.part left right ∙ it.from;
          within = subst (λ (e : Supply). it.part < length e.plan.parts) (sym (one_stays types s l.env y.number left right)) it.within;
        },
        rest,
      )

  moved_in : (from : Source) (h : ℕ) (b : Option ℕ) → IsCaller b → (old : Option Spot) → ((z : Spot) → old ≡ Some z → IsIn l from h z × IsOld (s ∷ ss) (Some z))
      → (z : Spot) → moved s b place old ≡ Some z → IsIn next from h z × IsOld ss (Some z)
  moved_in from h b two None was z e = absurd (none_moved b e)
    where
      none_moved : (b : Option ℕ) → moved s b place None ≡ Some z → ⊥
      none_moved None e = none-some z e
      none_moved (Some c) e = none-some z e
  moved_in from h None two (Some y) was z e = subst (λ (w : Spot). IsIn next from h w × IsOld ss (Some w)) same (stay from h y (was y refl))
    where
      same : y ≡ z
      same = cc e
  moved_in from h (Some c) two (Some y) was z e =
      subst (λ (w : Spot). IsIn next from h w × IsOld ss (Some w)) same
      (number_cases y.number s.of
      (λ e t. subst (λ (b : Bool). IsIn next from h (moved_spot b (side_number s c) place y) × IsOld ss (Some (moved_spot b (side_number s c) place y))) (sym t) (goes (was y refl) e))
      (λ e t. subst (λ (b : Bool). IsIn next from h (moved_spot b (side_number s c) place y) × IsOld ss (Some (moved_spot b (side_number s c) place y))) (sym t) (stay from h y (was y refl))))
    where
      same : moved_spot (nat_eq y.number s.of) (side_number s c) place y ≡ z
      same = cc e

      goes : IsIn l from h y × IsOld (s ∷ ss) (Some y) → y.number ≡ s.of → IsIn next from h (spot (side_number s c) (end_behind place y.end)) × IsOld ss (Some (spot (side_number s c) (end_behind place y.end)))
      goes (it, old) of =
          let here : it.part < place = subst (λ (n : ℕ). it.part < length (l.env n).plan.parts) of it.within in
          let size = longer c two in
          let far : nat_eq it.part place ≡ false = ne_eqb it.part place (λ e. let both : it.part ≡ place = e in omega (arith, both, here)) in (
            record {
              part = it.part;
              end = ap (end_behind place) it.end;
              from =
                  side_part c it.part
                  ∙ (ap (λ (t : Bool). if t then Own x else l.part s.of it.part) far ∙ (ap (λ (n : ℕ). l.part n it.part) (sym of) ∙ it.from));
              within = omega (arith, here, size);
            },
            side_gone types s ss once c,
          )

  share_in : (h : ℕ) (b : Option ℕ) → IsCaller b → (z : Spot) → share_spot (count (types s.of)) place s b h ≡ Some z → IsIn next (Own x) h z × IsOld ss (Some z)
  share_in h None two z e = absurd (none-some z e)
  share_in h (Some c) two z e = served (serves_side (count (types s.of)) c h) e
    where
      served : (t : Bool) → spot_if t (side_number s c) (PartEnd place h) ≡ Some z → IsIn next (Own x) h z × IsOld ss (Some z)
      served false e = absurd (none-some z e)
      served true e =
          let same : spot (side_number s c) (PartEnd place h) ≡ z = cc e in
          let size = longer c two in
          subst (λ (w : Spot). IsIn next (Own x) h w × IsOld ss (Some w)) same (
            record {
              part = place;
              end = refl;
              from = side_part c place ∙ ap (λ (t : Bool). if t then Own x else l.part s.of place) (eq-eqb place place refl);
              within = omega (arith, size);
            },
            side_gone types s ss once c,
          )

-- all splits
module _ (types : Types) (inner : ℕ → Bool) where
  final_from : (own : List Part) (ns : List ℕ) (env : Supplies) (ss : List Split) (q x : ℕ) (l : Lodging) (gone ms : List ℕ) → IsTidy inner ss gone → AreSplit ss ms
      → ((y : ℕ) (z : Part) → slice_get (shares ss types) y ≡ Some z → slice_get own (x + y) ≡ Some z)
      → AreFrom own ns env l ms → AreFrom own ns env (lodging types q x inner ss l) (numbers_inside ss ms)
  final_from own ns env [] q x l gone ms tidy split has are = are
  final_from own ns env (s ∷ ss) q x l gone ms tidy (of, split) has are =
      final_from own ns env ss (suc q) (suc x) (one_lodging types q x s (seen types inner ss s) l) (s.of ∷ gone) (s.left ∷ s.right ∷ ms)
      (tidy_on inner s ss gone tidy) split
      (λ y z e. let same : x + suc y ≡ suc x + y = omega arith in subst (λ (k : ℕ). slice_get own k ≡ Some z) same (has (suc y) z e))
      (from_on types q x s ss tidy.once l (seen types inner ss s) own ns ms env
      (let same : x + 0 ≡ x = omega arith in subst (λ (k : ℕ). slice_get own k ≡ Some (Share (types s.of))) same (has 0 (Share (types s.of)) refl)) of are)

  final_roots : (ns : List ℕ) (env : Supplies) (ss : List Split) (q x : ℕ) (l : Lodging) (gone ms : List ℕ) → IsTidy inner ss gone → AreSplit ss ms
      → HaveRoots ns env l ms → HaveRoots ns env (lodging types q x inner ss l) (numbers_inside ss ms)
  final_roots ns env [] q x l gone ms tidy split are = are
  final_roots ns env (s ∷ ss) q x l gone ms tidy (of, split) are =
      final_roots ns env ss (suc q) (suc x) (one_lodging types q x s (seen types inner ss s) l) (s.of ∷ gone) (s.left ∷ s.right ∷ ms)
      (tidy_on inner s ss gone tidy) split (roots_on types q x s ss tidy.once l (seen types inner ss s) ns ms env of are)

  final_outsiders : (ss : List Split) (q x : ℕ) (l : Lodging) → ((n k : ℕ) → IsOutsider x (l.part n k)) → (n k : ℕ) → IsOutsider (x + length ss) ((lodging types q x inner ss l).part n k)
  final_outsiders [] q x l are n k =
      let same : x ≡ x + 0 = omega arith in subst (λ (m : ℕ). IsOutsider m (l.part n k)) same (are n k)
  final_outsiders (s ∷ ss) q x l are n k =
      let same : suc x + length ss ≡ x + suc (length ss) = omega arith in
      subst (λ (m : ℕ). IsOutsider m ((lodging types q x inner (s ∷ ss) l).part n k)) same
      (final_outsiders ss (suc q) (suc x) (one_lodging types q x s (seen types inner ss s) l) (plain s ss q x l are) n k)
    where
      plain : (s : Split) (ss : List Split) (q x : ℕ) (l : Lodging) → ((n k : ℕ) → IsOutsider x (l.part n k)) → (n k : ℕ) → IsOutsider (suc x) ((one_lodging types q x s (seen types inner ss s) l).part n k)
      plain s ss q x l are n k = by_side (is_side s n) (nat_eq k (length (l.env s.of).plan.parts))
        where
          later : (z : Source) → IsOutsider x z → IsOutsider (suc x) z
          later (Own y) lt = omega (arith, lt)
          later (Supplied m j) it = tt

          by_side : (b c : Bool) → IsOutsider (suc x) (if b then if c then Own x else l.part s.of k else l.part n k)
          by_side true true = omega arith
          by_side true false = later (l.part s.of k) (are s.of k)
          by_side false c = later (l.part n k) (are n k)

  -- homes
  abbrev AllIn : ℕ → List Split → Lodging → Source → ℕ → Type 0
  AllIn i ss l from h = (z : Spot) → l.home (source_dot i from h) ≡ Some z → IsIn l from h z × IsOld ss (Some z)

  untouched_source : (i q : ℕ) (ss : List Split) (from : Source) (h : ℕ) → IsOutsider q from → Untouched (i + q) ss (source_dot i from h)
  untouched_source i q ss (Own y) h lt = omega (arith, lt)
  untouched_source i q ss (Supplied n k) h lt = tt

  final_in : (i : ℕ) (ss : List Split) (q x : ℕ) → q ≡ i + x → (l : Lodging) (gone : List ℕ) → IsTidy inner ss gone → (from : Source) (h : ℕ) → IsOutsider x from
      → AllIn i ss l from h → (z : Spot) → (lodging types q x inner ss l).home (source_dot i from h) ≡ Some z → IsIn (lodging types q x inner ss l) from h z
  final_in i [] q x at_q l gone tidy from h early was z e = (was z e).0
  final_in i (s ∷ ss) q x at_q l gone tidy from h early was z e =
      final_in i ss (suc q) (suc x) (omega (arith, at_q)) (one_lodging types q x s (seen types inner ss s) l) (s.of ∷ gone) (tidy_on inner s ss gone tidy) from h
      (later from early)
      (λ y e. moved_in types q x s ss tidy.once l (seen types inner ss s) from h (seen types inner ss s)
      (seen_caller (live ss inner s.left) (live ss inner s.right)) (l.home (source_dot i from h)) was y
      (sym (plainly q (count (types s.of)) (length (l.env s.of).plan.parts) s ss (seen types inner ss s) l.home (source_dot i from h)
      (subst (λ (r : ℕ). Untouched r (s ∷ ss) (source_dot i from h)) (sym at_q) (untouched_source i x (s ∷ ss) from h early))) ∙ e)) z e
    where
      later : (z : Source) → IsOutsider x z → IsOutsider (suc x) z
      later (Own y) lt = omega (arith, lt)
      later (Supplied m j) it = tt

  -- a Share's own
  final_share : (i : ℕ) (ss : List Split) (q x : ℕ) → q ≡ i + x → (l : Lodging) (gone : List ℕ) → IsTidy inner ss gone → (y h : ℕ) → x ≤ y → y < x + length ss
      → (z : Spot) → (lodging types q x inner ss l).home (source_dot i (Own y) h) ≡ Some z → IsIn (lodging types q x inner ss l) (Own y) h z
  final_share i [] q x at_q l gone tidy y h le lt z e = absurd (omega (arith, le, lt))
  final_share i (s ∷ ss) q x at_q l gone tidy y h le lt z e =
      number_cases y x
      (λ same t. subst (λ (m : ℕ). (z : Spot) → after.home (source_dot i (Own m) h) ≡ Some z → IsIn after (Own m) h z) (sym same) here z e)
      (λ apart t. final_share i ss (suc q) (suc x) (omega (arith, at_q)) (one_lodging types q x s (seen types inner ss s) l) (s.of ∷ gone) (tidy_on inner s ss gone tidy) y h
      (above apart) (omega (arith, lt)) z e)
    where
      after : Lodging
      after = lodging types q x inner (s ∷ ss) l

      above : y ≢ x → suc x ≤ y
      above apart = grind (arith, le, apart)

      here : (z : Spot) → (lodging types q x inner (s ∷ ss) l).home (source_dot i (Own x) h) ≡ Some z → IsIn (lodging types q x inner (s ∷ ss) l) (Own x) h z
      here z e =
          final_in i ss (suc q) (suc x) (omega (arith, at_q)) (one_lodging types q x s (seen types inner ss s) l) (s.of ∷ gone) (tidy_on inner s ss gone tidy) (Own x) h
          (omega arith)
          (λ y e. share_in types q x s ss tidy.once l (seen types inner ss s) h (seen types inner ss s) (seen_caller (live ss inner s.left) (live ss inner s.right)) y
          (sym (at_share (i + x) (sym at_q)) ∙ e)) z e
        where
          at_share : (r : ℕ) → r ≡ q
              → (one_lodging types q x s (seen types inner ss s) l).home (Within 0 (Of (PartEnd r h))) ≡ share_spot (count (types s.of)) (length (l.env s.of).plan.parts) s (seen types inner ss s) h
          at_share r e =
              ap (λ (t : Bool). if t then share_spot (count (types s.of)) (length (l.env s.of).plan.parts) s (seen types inner ss s) h
              else moved s (seen types inner ss s) (length (l.env s.of).plan.parts) (l.home (Within 0 (Of (PartEnd r h))))) (eq-eqb r q e)

-- a part behind the Shares
far_moved : (s : Split) (b : Option ℕ) (k : ℕ) → moved s b k None ≡ None
far_moved s None k = refl
far_moved s (Some c) k = refl

far_on : (types : Types) (inner : ℕ → Bool) (i : ℕ) (ss : List Split) (q x : ℕ) → q ≡ i + x → (l : Lodging) (y h : ℕ) → x + length ss ≤ y
    → l.home (source_dot i (Own y) h) ≡ None → (lodging types q x inner ss l).home (source_dot i (Own y) h) ≡ None
far_on types inner i [] q x at_q l y h le none = none
far_on types inner i (s ∷ ss) q x at_q l y h le none =
    far_on types inner i ss (suc q) (suc x) (omega (arith, at_q)) (one_lodging types q x s (seen types inner ss s) l) y h (omega (arith, le)) next
  where
    apart : nat_eq (i + y) q ≡ false
    apart = ne_eqb (i + y) q (λ e. let same : i + y ≡ q = e in omega (arith, same, at_q, le))

    next : (one_lodging types q x s (seen types inner ss s) l).home (source_dot i (Own y) h) ≡ None
    next =
        ap (λ (t : Bool). if t then share_spot (count (types s.of)) (length (l.env s.of).plan.parts) s (seen types inner ss s) h
        else moved s (seen types inner ss s) (length (l.env s.of).plan.parts) (l.home (Within 0 (Of (PartEnd (i + y) h))))) apart
        ∙ (ap (moved s (seen types inner ss s) (length (l.env s.of).plan.parts)) none ∙ far_moved s (seen types inner ss s) (length (l.env s.of).plan.parts))

pub far_is_nothing : FarIsNothing
far_is_nothing types i inner ss env x h le =
    far_on types inner i ss i 0 (omega arith) (first_lodging (live ss inner) env) x h (omega (arith, le)) refl

-- the first handshake
first_on : (types : Types) (inner : ℕ → Bool) (ss : List Split) (q x : ℕ) (l : Lodging)
    → ((n k : ℕ) → l.spare n k 0 ≡ false) → (n k : ℕ) → (lodging types q x inner ss l).spare n k 0 ≡ false
first_on types inner [] q x l none n k = none n k
first_on types inner (s ∷ ss) q x l none n k =
    first_on types inner ss (suc q) (suc x) (one_lodging types q x s (seen types inner ss s) l) next n k
  where
    next : (n k : ℕ) → (one_lodging types q x s (seen types inner ss s) l).spare n k 0 ≡ false
    next n k = by_side (is_side s n) (nat_eq k (length (l.env s.of).plan.parts))
      where
        served : (c : ℕ) → not (serves_side (count (types s.of)) c 0) ≡ false
        served c = ap not (serves_source (count (types s.of)) c 0 (some_shake (types s.of)))

        by_side : (b d : Bool) → (if b then if d then not (serves_side (count (types s.of)) (if nat_eq n s.left then 0 else 1) 0) else l.spare s.of k 0 else l.spare n k 0) ≡ false
        by_side true true = served (if nat_eq n s.left then 0 else 1)
        by_side true false = none s.of k
        by_side false d = none n k

pub first_is_kept : FirstIsKept
first_is_kept types i inner ss env n k = first_on types inner ss i 0 (first_lodging (live ss inner) env) (λ n k. refl) n k

pub parts_are_from : PartsAreFrom
parts_are_from types i inner ss env ns own n k y tidy split has there at =
    final_from types inner own ns env ss i 0 (first_lodging (live ss inner) env) [] ns (tidy_first inner ss ns tidy) split
    (λ x z e. let same : x ≡ 0 + x = omega arith in subst (λ (m : ℕ). slice_get own m ≡ Some z) same (has x z e))
    (λ n k y there at. (there, at)) n k y there at

pub imports_are_from : ImportsAreFrom
imports_are_from types i inner ss env ns n tidy split there =
    final_roots types inner ns env ss i 0 (first_lodging (live ss inner) env) [] ns (tidy_first inner ss ns tidy) split (λ n there. (there, refl)) n there

pub parts_are_outsiders : PartsAreOutsiders
parts_are_outsiders types i inner ss env n k =
    let same : 0 + length ss ≡ length ss = omega arith in
    subst (λ (m : ℕ). IsOutsider m ((lodged types i inner ss env).part n k)) same
    (final_outsiders types inner ss i 0 (first_lodging (live ss inner) env) (λ n k. tt) n k)

pub homes_are_there : HomesAreThere
homes_are_there types i inner ss env ns (Own y) h z tidy there e =
    final_share types inner i ss i 0 (omega arith) (first_lodging (live ss inner) env) [] (tidy_first inner ss ns tidy) y h (omega arith) (omega (arith, there)) z e
homes_are_there types i inner ss env ns (Supplied n k) h z tidy there e =
    final_in types inner i ss i 0 (omega arith) (first_lodging (live ss inner) env) [] (tidy_first inner ss ns tidy) (Supplied n k) h tt first z e
  where
    first : (z : Spot) → (first_lodging (live ss inner) env).home (source_dot i (Supplied n k) h) ≡ Some z
        → IsIn (first_lodging (live ss inner) env) (Supplied n k) h z × IsOld ss (Some z)
    first z e = by_live (live ss inner n) e
      where
        by_live : (b : Bool) → spot_if b n (PartEnd k h) ≡ Some z → IsIn (first_lodging (live ss inner) env) (Supplied n k) h z × IsOld ss (Some z)
        by_live false e = absurd (none-some z e)
        by_live true e =
            let same : spot n (PartEnd k h) ≡ z = cc e in
            subst (λ (w : Spot). IsIn (first_lodging (live ss inner) env) (Supplied n k) h w × IsOld ss (Some w)) same
            (record { part = k; end = refl; from = refl; within = there.1 }, tidy.outside n there.0)
