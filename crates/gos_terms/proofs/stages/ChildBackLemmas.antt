-- What a tie of the node's web connects stands for nothing of the child, or for what its own web connects.
use Rattle.std.specs.Prelude.{◌+◌, ◌<◌, ◌≤◌, ◌⊎◌, ◌||◌, ◌&&◌, not, length, map, nat_eq, nat_lt, slice_get, None, Contains}
use Rattle.std.proofs.Common.{◌≡◌, ℕ, zero, suc, Bool, true, false, List, [], ◌∷◌, ◌++◌, Option, Some, inl, inr, refl, sym, ◌∙◌, ap, subst, arith, if◌then◌else◌}
use Rattle.std.proofs.lemmas.List.Elements.{Contains-append_left, Contains-append_right, Contains-append_cases}
use Rattle.std.proofs.lemmas.Bool.{eqb-true, lt-ltb, le-ltb, ltb-true, eq-eqb, ne_eqb}
use Rattle.gos_types.specs.Types.{Type'}
use Rattle.gos_check.specs.declared.linear.Split.{Split}
use Rattle.gos_check.specs.Nodes.{type_of_node}
use Rattle.gos_check.specs.Linearity.{times, used, made}
use Rattle.gos_check.proofs.TimesLemmas.{some_times, listed_times}
use Rattle.gos_plan.specs.Plans.{End, PartEnd, ResultEnd}
use Rattle.gos_realises.specs.realises.Regular.{count}
use Rattle.gos_ties.specs.declared.points.Place.{Place}
use Rattle.gos_ties.specs.declared.points.Place.TheVariants as places
use Rattle.gos_ties.specs.declared.points.Tie as point_ties
use Rattle.gos_ties.specs.Ties as ties
use Rattle.gos_ties.specs.Ties.{point}
use Rattle.gos_joining.specs.webs.Webs.{Dot, Of, Number, Node, Within, Tie, tie, Way, own_web}
use Rattle.gos_joining.proofs.webs.WayLemmas.{way_then}
use Rattle.gos_joining.specs.unions.Unions.{within}
use Rattle.gos_joining.proofs.unions.UnionLemmas.{of_image, in_image}
use Rattle.gos_nodes.specs.folds.Folds.{Follows}
use Rattle.gos_compile.specs.Wiring.{row, led, parts_of, nodes, ties_of, share_ties, shares_ties}
use Rattle.gos_terms.specs.wired.Wired.{Placing, dot_of_place, dot_of, dot_ties, result_ties, supply_ties, all_supply_ties}
use Rattle.gos_terms.specs.stages.Inside.{numbers_inside, AreSplit, SidesAgree}
use Rattle.gos_ties.specs.declared.points.Point.{Point}
use Rattle.gos_terms.specs.stages.Leading.{or_point, dot_leading}
use Rattle.gos_terms.specs.stages.Ranges.{IsWithin}
use Rattle.gos_terms.specs.stages.Lodging.{spot, spot_if, Spot, Near}
use Rattle.gos_terms.specs.stages.Folding.{Lead, AtOwn, AtResult, lead_point, of_own, of_result, AreDistinct, Child, is_used, lodge, child_out, child_web, in_range, spot_dot, asks_child, is_number, child_back, shared_ties, own_ties, IsChild, ChildStays}
use Rattle.gos_terms.proofs.stages.RangeLemmas.{ties_stay_within}
use Rattle.gos_terms.proofs.stages.LodgingLemmas.{lifted, led_listed, homes_are_kept, numbers_are_held}
use Rattle.gos_terms.proofs.stages.LiveLemmas.{spots_are_live}
use Rattle.gos_terms.proofs.stages.HomeLemmas.{way_mapped}
use Rattle.gos_terms.proofs.stages.ChildTieLemmas.{dot_tie, put_in, of_supplies, ResultTie, in_results, of_supply, led_of}
use Rattle.gos_terms.proofs.wired.TieLemmas.{in_supplies}
use Rattle.gos_terms.proofs.stages.WayLemmas.{way_by_tie}

pub range_in : (a n k : ℕ) → a ≤ k → k < a + n → in_range a n k ≡ true
range_in a n k le lt = rw (le-ltb k a le, lt-ltb k (a + n) lt) refl

pub range_below : (a n k : ℕ) → k < a → in_range a n k ≡ false
range_below a n k lt = rw (lt-ltb k a lt) refl

pub range_past : (a n k : ℕ) → a + n ≤ k → in_range a n k ≡ false
range_past a n k le = ap (λ (t : Bool). not (nat_lt k a) && t) (le-ltb k (a + n) le) ∙ never (not (nat_lt k a))
  where
    never : (t : Bool) → (t && false) ≡ false
    never true = refl
    never false = refl

-- what a tie connects, from what it stands for
pub follows_by : (ts : List Tie) (a b : Option Dot) (x y : Dot) → a ≡ Some x → b ≡ Some y → Way ts x y → Follows ts a b
follows_by ts a b x y at_a at_b way =
    subst (λ (z : Option Dot). Follows ts z b) (sym at_a) (subst (λ (z : Option Dot). Follows ts (Some x) z) (sym at_b) way)

-- the handshake that leads there
abbrev pub lead_back : List Lead → ℕ → Lead → Option Dot
lead_back ls k (AtOwn s) = of_own ls k s
lead_back ls k (AtResult s) = of_result ls k s

no_lead : (l : Lead) → None ≡ Some l → ⊥
no_lead l e = cc e

pub at_lead : (ls : List Lead) (h : ℕ) → h < length ls → (l : Lead) × (slice_get ls h ≡ Some l)
at_lead [] h lt = absurd (omega (arith, lt))
at_lead (l ∷ ls) zero lt = (l, refl)
at_lead (l ∷ ls) (suc h) lt = at_lead ls h (omega (arith, lt))

-- one alone
pub one_lead : (l : Lead) → AreDistinct (l ∷ [])
one_lead l zero zero x at_h at_k = refl
one_lead l zero (suc k) x at_h at_k = absurd (no_lead x at_k)
one_lead l (suc h) k x at_h at_k = absurd (no_lead x at_h)

behind_distinct : (x : Lead) (ls : List Lead) → AreDistinct (x ∷ ls) → AreDistinct ls
behind_distinct x ls apart h k l at_h at_k = let same = apart (suc h) (suc k) l at_h at_k in omega (arith, same)

here_back : (l : Lead) (ls : List Lead) (k : ℕ) → lead_back (l ∷ ls) k l ≡ Some (Within 0 (Of (ResultEnd k)))
here_back (AtOwn s) ls k = ap (λ (b : Bool). if b then Some (Within 0 (Of (ResultEnd k))) else of_own ls (suc k) s) (eq-eqb s s refl)
here_back (AtResult s) ls k = ap (λ (b : Bool). if b then Some (Within 0 (Of (ResultEnd k))) else of_result ls (suc k) s) (eq-eqb s s refl)

later_back : (x l : Lead) (ls : List Lead) (k : ℕ) → (x ≡ l → ⊥) → lead_back (x ∷ ls) k l ≡ lead_back ls (suc k) l
later_back (AtOwn a) (AtOwn s) ls k apart =
    ap (λ (b : Bool). if b then Some (Within 0 (Of (ResultEnd k))) else of_own ls (suc k) s) (ne_eqb s a (λ e. apart (ap AtOwn (sym e))))
later_back (AtOwn a) (AtResult s) ls k apart = refl
later_back (AtResult a) (AtOwn s) ls k apart = refl
later_back (AtResult a) (AtResult s) ls k apart =
    ap (λ (b : Bool). if b then Some (Within 0 (Of (ResultEnd k))) else of_result ls (suc k) s) (ne_eqb s a (λ e. apart (ap AtResult (sym e))))

found_lead : (ls : List Lead) (k h : ℕ) (l : Lead) → AreDistinct ls → slice_get ls h ≡ Some l → lead_back ls k l ≡ Some (Within 0 (Of (ResultEnd (k + h))))
found_lead [] k h l apart at = absurd (no_lead l at)
found_lead (x ∷ ls) k zero l apart at =
    let same : x ≡ l = cc at in
    let sum : k ≡ k + 0 = omega arith in
    subst (λ (z : Lead). lead_back (x ∷ ls) k z ≡ Some (Within 0 (Of (ResultEnd (k + 0))))) same (here_back x ls k ∙ ap (λ (m : ℕ). Some (Within 0 (Of (ResultEnd m)))) sum)
found_lead (x ∷ ls) k (suc h) l apart at =
    let sum : suc k + h ≡ k + suc h = omega arith in
    later_back x l ls k (λ e. let same = apart 0 (suc h) l (ap Some e) at in omega (arith, same))
    ∙ (found_lead ls (suc k) h l (behind_distinct x ls apart) at ∙ ap (λ (m : ℕ). Some (Within 0 (Of (ResultEnd m)))) sum)

-- and back
abbrev Told : List Lead → ℕ → Lead → Dot → Type 0
Told ls k l y = (h : ℕ) × (slice_get ls h ≡ Some l) × (y ≡ Within 0 (Of (ResultEnd (k + h))))

told_here : (ls : List Lead) (l : Lead) (k : ℕ) (y : Dot) → Some (Within 0 (Of (ResultEnd k))) ≡ Some y → Told (l ∷ ls) k l y
told_here ls l k y e =
    let same : Within 0 (Of (ResultEnd k)) ≡ y = cc e in
    let sum : k ≡ k + 0 = omega arith in (0, refl, sym same ∙ ap (λ (m : ℕ). Within 0 (Of (ResultEnd m))) sum)

told_later : (x : Lead) (ls : List Lead) (l : Lead) (k : ℕ) (y : Dot) → Told ls (suc k) l y → Told (x ∷ ls) k l y
told_later x ls l k y (h, at, same) =
    let sum : suc k + h ≡ k + suc h = omega arith in (suc h, at, same ∙ ap (λ (m : ℕ). Within 0 (Of (ResultEnd m))) sum)

pub told_lead : (ls : List Lead) (k : ℕ) (l : Lead) (y : Dot) → lead_back ls k l ≡ Some y → Told ls k l y
told_lead [] k (AtOwn s) y e = absurd (cc e)
told_lead [] k (AtResult s) y e = absurd (cc e)
told_lead (AtOwn a ∷ ls) k (AtOwn s) y e = by_test (nat_eq s a) refl e (λ d. told_lead ls (suc k) (AtOwn s) y d)
  where
    by_test : (b : Bool) → nat_eq s a ≡ b → (if b then Some (Within 0 (Of (ResultEnd k))) else of_own ls (suc k) s) ≡ Some y
        → (of_own ls (suc k) s ≡ Some y → Told ls (suc k) (AtOwn s) y) → Told (AtOwn a ∷ ls) k (AtOwn s) y
    by_test true t e more = subst (λ (m : ℕ). Told (AtOwn m ∷ ls) k (AtOwn s) y) (eqb-true s a t) (told_here ls (AtOwn s) k y e)
    by_test false t e more = told_later (AtOwn a) ls (AtOwn s) k y (more e)
told_lead (AtOwn a ∷ ls) k (AtResult s) y e = told_later (AtOwn a) ls (AtResult s) k y (told_lead ls (suc k) (AtResult s) y e)
told_lead (AtResult a ∷ ls) k (AtOwn s) y e = told_later (AtResult a) ls (AtOwn s) k y (told_lead ls (suc k) (AtOwn s) y e)
told_lead (AtResult a ∷ ls) k (AtResult s) y e = by_test (nat_eq s a) refl e (λ d. told_lead ls (suc k) (AtResult s) y d)
  where
    by_test : (b : Bool) → nat_eq s a ≡ b → (if b then Some (Within 0 (Of (ResultEnd k))) else of_result ls (suc k) s) ≡ Some y
        → (of_result ls (suc k) s ≡ Some y → Told ls (suc k) (AtResult s) y) → Told (AtResult a ∷ ls) k (AtResult s) y
    by_test true t e more = subst (λ (m : ℕ). Told (AtResult m ∷ ls) k (AtResult s) y) (eqb-true s a t) (told_here ls (AtResult s) k y e)
    by_test false t e more = told_later (AtResult a) ls (AtResult s) k y (more e)

mapped_at : (q : ℕ) (ls : List Lead) (h : ℕ) (l : Lead) → slice_get ls h ≡ Some l → slice_get (map (lead_point q) ls) h ≡ Some (lead_point q l)
mapped_at q [] h l at = absurd (no_lead l at)
mapped_at q (x ∷ ls) zero l at = let same : x ≡ l = cc at in ap (λ (z : Lead). Some (lead_point q z)) same
mapped_at q (x ∷ ls) (suc h) l at = mapped_at q ls h l at

module _ (f : Child) (ts : List Tie) (pl : Placing) (is : IsChild f ts) where
  -- where its handshakes lead, and what that stands for
  pub lead_lies : (h : ℕ) (l : Lead) → slice_get f.out h ≡ Some l → dot_leading (child_out f) (Of (ResultEnd h)) ≡ dot_of (lead_point (f.first + f.own) l)
  lead_lies h l at = ap (λ (o : Option Point). dot_of (or_point o (point places.Result h))) (mapped_at (f.first + f.own) f.out h l at)

  pub lead_stands : (h : ℕ) (l : Lead) → slice_get f.out h ≡ Some l → child_back f (Within 0 (dot_of (lead_point (f.first + f.own) l))) ≡ Some (Within 0 (Of (ResultEnd h)))
  lead_stands h l at = to_back l ∙ (found_lead f.out 0 h l is.distinct at ∙ ap (λ (m : ℕ). Some (Within 0 (Of (ResultEnd m)))) sum)
    where
      sum : 0 + h ≡ h
      sum = omega arith

      to_back : (l : Lead) → child_back f (Within 0 (dot_of (lead_point (f.first + f.own) l))) ≡ lead_back f.out 0 l
      to_back (AtOwn s) =
          ap (λ (b : Bool). if b then asks_child f s
          else if in_range (f.first + f.off) (length (parts_of f.types f.term)) (f.first + f.own) then Some (Within 0 (Of (PartEnd (f.first + f.own) s)))
          else spot_dot ((lodge f).home (Within 0 (Of (PartEnd (f.first + f.own) s))))) (eq-eqb (f.first + f.own) (f.first + f.own) refl)
      to_back (AtResult s) = refl

  abbrev web : List Tie
  web = (child_web f pl).ties

  abbrev mine : List point_ties.Tie
  mine = ties_of f.types (f.first + f.off) f.node f.term (row places.Result 0 (count (type_of_node f.term)))

  pub used_so : (n : ℕ) → Contains f.uses n → is_used f n ≡ true
  used_so n there = lt-ltb 0 (times n f.uses) (some_times n f.uses there)

  pub used_in : (n : ℕ) → is_used f n ≡ true → Contains f.uses n
  used_in n t = listed_times n f.uses (ltb-true 0 (times n f.uses) t)

  made_so : (n : ℕ) → 0 < times n (made f.term) → is_number f n ≡ true
  made_so n some = let t = lt-ltb 0 (times n (made f.term)) some in either (is_used f n) (nat_lt 0 (times n (made f.term))) t
    where
      either : (a b : Bool) → b ≡ true → (a || b) ≡ true
      either true b e = refl
      either false b e = e

  uses_so : (n : ℕ) → Contains f.uses n → is_number f n ≡ true
  uses_so n there = ap (λ (b : Bool). b || nat_lt 0 (times n (made f.term))) (used_so n there)

  -- the child's own points
  pub own_back : (p : Place) (h : ℕ) → IsWithin f.types (f.first + f.off) f.node f.term (count (type_of_node f.term)) p h
      → child_back f (Within 0 (dot_leading (child_out f) (dot_of_place p h))) ≡ Some (Within 0 (dot_of_place p h))
  own_back (places.Part q) h (le, lt) =
      let far : nat_eq q (f.first + f.own) ≡ false =
      ne_eqb q (f.first + f.own) (λ e. let same : q ≡ f.first + f.own = e in not_own same is.own_apart)
      in
      ap (λ (b : Bool). if b then asks_child f h
      else if in_range (f.first + f.off) (length (parts_of f.types f.term)) q then Some (Within 0 (Of (PartEnd q h)))
      else spot_dot ((lodge f).home (Within 0 (Of (PartEnd q h))))) far
      ∙ ap (λ (b : Bool). if b then Some (Within 0 (Of (PartEnd q h))) else spot_dot ((lodge f).home (Within 0 (Of (PartEnd q h)))))
      (range_in (f.first + f.off) (length (parts_of f.types f.term)) q le lt)
    where
      not_own : q ≡ f.first + f.own → (f.own < f.off) ⊎ (f.off + length (parts_of f.types f.term) ≤ f.own) → ⊥
      not_own same (inl less) = omega (arith, same, less, le)
      not_own same (inr more) = omega (arith, same, more, lt)
  own_back (places.Import q) h inside = absurd inside
  own_back places.Result h inside =
      let long = is.long in
      let (l, at) = at_lead f.out h (omega (arith, inside, long)) in
      ap (λ (d : Dot). child_back f (Within 0 d)) (lead_lies h l at) ∙ lead_stands h l at
  own_back (places.Number n) h some =
      ap (λ (b : Bool). if b then Some (Within 0 (Number n h)) else spot_dot ((lodge f).home (Within 0 (Number n h)))) number
    where
      of_used : (0 < times n (made f.term)) ⊎ Contains f.uses n → is_number f n ≡ true
      of_used (inl some) = made_so n some
      of_used (inr there) = uses_so n there

      by_size : (a b : ℕ) → a ≡ times n (used f.term) → b ≡ times n (made f.term) → is_number f n ≡ true
      by_size zero zero at_a at_b = absurd (omega (arith, some, at_a, at_b))
      by_size zero (suc b) at_a at_b = made_so n (omega (arith, at_b))
      by_size (suc a) b at_a at_b = of_used (is.covers n (omega (arith, at_a)))

      number : is_number f n ≡ true
      number = by_size (times n (used f.term)) (times n (made f.term)) refl refl
  own_back (places.Node q) h (le, lt) =
      ap (λ (b : Bool). if b then Some (Within 0 (Node q h)) else None) (range_in f.node (nodes f.term) q le lt)

  own_stays : (t : Tie) → Contains (own_ties f) t → Follows web (child_back f t.one) (child_back f t.other)
  own_stays t has =
      let (u, listed, same) = led_of f ts pl is t has in
      let (one, other) = ties_stay_within f.types (f.first + f.off) f.node f.term (count (type_of_node f.term)) u listed in
      subst (λ (x : Tie). Follows web (child_back f x.one) (child_back f x.other)) same
      (follows_by web (child_back f (Within 0 (dot_leading (child_out f) (dot_of u.one)))) (child_back f (Within 0 (dot_leading (child_out f) (dot_of u.other))))
      (Within 0 (dot_of u.one)) (Within 0 (dot_of u.other)) (own_back u.one.place u.one.shake one) (own_back u.other.place u.other.shake other)
      (way_by_tie web (Within 0 (dot_of u.one)) (Within 0 (dot_of u.other))
      (Contains-append_left (within 0 (dot_ties mine)) (all_supply_ties f.types (lodge f).env f.uses) (lifted u)
      (in_image (put_in 0) (dot_ties mine) (dot_tie u) (in_image dot_tie mine u listed)))))

  -- within what stands for one number
  in_web : (n : ℕ) (t : Tie) → Contains f.uses n → Contains (supply_ties f.types (lodge f).env n) t → Contains web t
  in_web n t there own =
      Contains-append_right (within 0 (dot_ties mine)) (all_supply_ties f.types (lodge f).env f.uses) t
      (in_supplies f.types (lodge f).env f.uses n t there own)

  supply_way : (n : ℕ) (a b : End) → Contains f.uses n → Way (own_web ((lodge f).env n).plan).ties (Of a) (Of b)
      → Way web (Within (suc n) (Of a)) (Within (suc n) (Of b))
  supply_way n a b there way =
      way_mapped (Within (suc n)) (own_web ((lodge f).env n).plan).ties web
      (λ t has. in_web n (put_in (suc n) t) there
      (Contains-append_left (within (suc n) (own_web ((lodge f).env n).plan).ties) (result_ties n 0 (count (f.types n))) (put_in (suc n) t)
      (in_image (put_in (suc n)) (own_web ((lodge f).env n).plan).ties t has)))
      (Of a) (Of b) way

  near_follows : (a b : Option Spot) → ((x : Spot) → a ≡ Some x → Contains f.uses x.number) → Near (lodge f).env a b → Follows web (spot_dot a) (spot_dot b)
  near_follows None None lives near = tt
  near_follows None (Some y) lives near = near
  near_follows (Some x) None lives near = near
  near_follows (Some x) (Some y) lives (same, way) =
      subst (λ (n : ℕ). Way web (Within (suc x.number) (Of x.end)) (Within (suc n) (Of y.end))) same (supply_way x.number x.end y.end (lives x refl) way)

  number_follows : (n h : ℕ) (b : Option Spot) → Contains f.uses n → h < count (f.types n) → Near (lodge f).env (Some (spot n (ResultEnd h))) b
      → Follows web (Some (Within 0 (Number n h))) (spot_dot b)
  number_follows n h None there lt near = near
  number_follows n h (Some y) there lt (same, way) =
      way_then web (Within 0 (Number n h)) (Within (suc n) (Of (ResultEnd h))) (Within (suc y.number) (Of y.end))
      (way_by_tie web (Within 0 (Number n h)) (Within (suc n) (Of (ResultEnd h)))
      (in_web n (ResultTie n h) there
      (Contains-append_right (within (suc n) (own_web ((lodge f).env n).plan).ties) (result_ties n 0 (count (f.types n))) (ResultTie n h)
      (in_results n 0 (count (f.types n)) h (omega arith) (omega (arith, lt))))))
      (subst (λ (m : ℕ). Way web (Within (suc n) (Of (ResultEnd h))) (Within (suc m) (Of y.end))) same (supply_way n (ResultEnd h) y.end there way))

  pub spot_used : (d : Dot) (x : Spot) → (lodge f).home d ≡ Some x → Contains f.uses x.number
  spot_used d x at = used_in x.number (spots_are_live f.types f.first (is_used f) f.splits f.env d x at)

  -- A tie that is shared: its first dot is a number's or in a supply, its other one is no number's and no own part's.
  abbrev Plainly : Dot → Type 0
  Plainly d = child_back f d ≡ spot_dot ((lodge f).home d)

  plain_stays : (t : Tie) → Contains (shared_ties f) t → Plainly t.one → Plainly t.other → Follows web (child_back f t.one) (child_back f t.other)
  plain_stays t has one other =
      subst (λ (z : Option Dot). Follows web z (child_back f t.other)) (sym one)
      (subst (λ (z : Option Dot). Follows web (spot_dot ((lodge f).home t.one)) z) (sym other)
      (near_follows ((lodge f).home t.one) ((lodge f).home t.other) (spot_used t.one)
      (homes_are_kept f.types f.first (is_used f) f.splits f.env f.numbers t is.tidy has)))

  number_stays : (n h : ℕ) (d : Dot) → Contains (shared_ties f) (tie (Within 0 (Number n h)) d) → Contains (numbers_inside f.splits f.numbers) n
      → h < count (f.types n) → Plainly d → Follows web (child_back f (Within 0 (Number n h))) (child_back f d)
  number_stays n h d has scope lt other = by_use (is_used f n) refl
    where
      unmade : nat_lt 0 (times n (made f.term)) ≡ false
      unmade = let none = is.unmade n scope in le-ltb 0 (times n (made f.term)) (omega (arith, none))

      number : (b : Bool) → is_used f n ≡ b → is_number f n ≡ b
      number true e = ap (λ (x : Bool). x || nat_lt 0 (times n (made f.term))) e
      number false e = ap (λ (x : Bool). x || nat_lt 0 (times n (made f.term))) e ∙ unmade

      at_number : (b : Bool) → is_used f n ≡ b
          → child_back f (Within 0 (Number n h)) ≡ (if b then Some (Within 0 (Number n h)) else spot_dot ((lodge f).home (Within 0 (Number n h))))
      at_number b e = ap (λ (x : Bool). if x then Some (Within 0 (Number n h)) else spot_dot ((lodge f).home (Within 0 (Number n h)))) (number b e)

      by_use : (b : Bool) → is_used f n ≡ b → Follows web (child_back f (Within 0 (Number n h))) (child_back f d)
      by_use false e = plain_stays (tie (Within 0 (Number n h)) d) has (at_number false e) other
      by_use true e =
          let uses = used_in n e in
          let held : (lodge f).home (Within 0 (Number n h)) ≡ Some (spot n (ResultEnd h)) =
          numbers_are_held f.types f.first (is_used f) f.splits f.env f.numbers n h is.tidy (is.scope n uses).1
          ∙ ap (λ (b : Bool). spot_if b n (ResultEnd h)) e
          in
          subst (λ (z : Option Dot). Follows web z (child_back f d)) (sym (at_number true e))
          (subst (λ (z : Option Dot). Follows web (Some (Within 0 (Number n h))) z) (sym other)
          (number_follows n h ((lodge f).home d) uses lt
          (subst (λ (a : Option Spot). Near (lodge f).env a ((lodge f).home d)) held
          (homes_are_kept f.types f.first (is_used f) f.splits f.env f.numbers (tie (Within 0 (Number n h)) d) is.tidy has))))

  -- the ties of the Shares
  pub plain_share : (q h : ℕ) → q < f.first + length f.splits → Plainly (Within 0 (Of (PartEnd q h)))
  plain_share q h lt =
      let less = is.shares_first in
      let more = is.off_first in
      let far : nat_eq q (f.first + f.own) ≡ false =
      ne_eqb q (f.first + f.own) (λ e. let same : q ≡ f.first + f.own = e in omega (arith, same, less, lt))
      in
      ap (λ (b : Bool). if b then asks_child f h
      else if in_range (f.first + f.off) (length (parts_of f.types f.term)) q then Some (Within 0 (Of (PartEnd q h)))
      else spot_dot ((lodge f).home (Within 0 (Of (PartEnd q h))))) far
      ∙ ap (λ (b : Bool). if b then Some (Within 0 (Of (PartEnd q h))) else spot_dot ((lodge f).home (Within 0 (Of (PartEnd q h)))))
      (range_below (f.first + f.off) (length (parts_of f.types f.term)) q (omega (arith, lt, more)))

  -- a tie of a Share: of a number that is there, at a handshake of its type
  abbrev ShareTie : List ℕ → ℕ → ℕ → point_ties.Tie → Type 0
  ShareTie ns q m u =
      (n : ℕ) × (h : ℕ) × (r : ℕ) × (g : ℕ) × Contains ns n × (h < count (f.types n)) × (r < q + m) × (ties.tie (point (places.Number n) h) (point (places.Part r) g) ≡ u)

  inner_keeps : (ss : List Split) (ns : List ℕ) (n : ℕ) → Contains ns n → Contains (numbers_inside ss ns) n
  inner_keeps [] ns n there = there
  inner_keeps (s ∷ ss) ns n (k, lt, e) = inner_keeps ss (s.left ∷ s.right ∷ ns) n (suc (suc k), omega (arith, lt), e)

  share_of : (ss : List Split) (ns : List ℕ) (q : ℕ) → SidesAgree ss f.types → AreSplit ss ns → (u : point_ties.Tie) → Contains (shares_ties q ss f.types) u
      → ShareTie (numbers_inside ss ns) q (length ss) u
  share_of [] ns q agree split u (k, lt, e) = absurd (omega (arith, lt))
  share_of (s ∷ ss) ns q (left, right, agree) (of, split) u has =
      let size = count (f.types s.of) in
      let sources = led (row (places.Number s.of) 0 (count (f.types s.of))) (places.Part q) 0 in
      let lefts = led (row (places.Number s.left) 0 (count (f.types s.of))) (places.Part q) (count (f.types s.of)) in
      let rights = led (row (places.Number s.right) 0 (count (f.types s.of))) (places.Part q) (count (f.types s.of) + count (f.types s.of)) in
      let scope : (n : ℕ) → Contains (s.left ∷ s.right ∷ ns) n → Contains (numbers_inside ss (s.left ∷ s.right ∷ ns)) n =
      inner_keeps ss (s.left ∷ s.right ∷ ns)
      in
      elim (Contains-append_cases (share_ties q (count (f.types s.of)) s) (shares_ties (suc q) ss f.types) u has) [
        | inl own ↦
            elim (Contains-append_cases sources (lefts ++ rights) u own) [
              | inl first ↦
                  (let (j, lt, e) = led_listed (places.Number s.of) q 0 (count (f.types s.of)) 0 u first in
                  (s.of, 0 + j, q, 0 + j, scope s.of (suc (suc of.0), omega (arith, of.1), of.2), omega (arith, lt), omega arith, e))
              | inr more ↦
                  elim (Contains-append_cases lefts rights u more) [
                    | inl second ↦
                        (let (j, lt, e) = led_listed (places.Number s.left) q 0 (count (f.types s.of)) (count (f.types s.of)) u second in
                        let small : 0 + j < count (f.types s.of) = omega (arith, lt) in (
                          s.left,
                          0 + j,
                          q,
                          count (f.types s.of) + j,
                          scope s.left (0, omega arith, refl),
                          subst (λ (t : Type'). 0 + j < count t) (sym left) small,
                          omega arith,
                          e,
                        ))
                    | inr third ↦
                        (let (j, lt, e) = led_listed (places.Number s.right) q 0 (count (f.types s.of)) (count (f.types s.of) + count (f.types s.of)) u third in
                        let small : 0 + j < count (f.types s.of) = omega (arith, lt) in (
                          s.right,
                          0 + j,
                          q,
                          count (f.types s.of) + count (f.types s.of) + j,
                          scope s.right (1, omega arith, refl),
                          subst (λ (t : Type'). 0 + j < count t) (sym right) small,
                          omega arith,
                          e,
                        ))
                  ]
            ]
        | inr rest ↦
            (let (n, h, r, g, there, lt-ltb, lt, e) = share_of ss (s.left ∷ s.right ∷ ns) (suc q) agree split u rest in
            (n, h, r, g, there, lt-ltb, omega (arith, lt), e))
      ]

  shared_stays : (t : Tie) → Contains (shared_ties f) t → Follows web (child_back f t.one) (child_back f t.other)
  shared_stays t has =
      elim (Contains-append_cases (within 0 (dot_ties (shares_ties f.first f.splits f.types))) (all_supply_ties f.types f.env f.numbers) t has) [
        | inl share ↦
            (let (v, there, at_v) = of_image (put_in 0) (dot_ties (shares_ties f.first f.splits f.types)) t share in
            let (u, listed, at_u) = of_image dot_tie (shares_ties f.first f.splits f.types) v there in
            let (n, h, r, g, scope, lt, below, e) = share_of f.splits f.numbers f.first is.agree is.split u listed in
            let same : tie (Within 0 (Number n h)) (Within 0 (Of (PartEnd r g))) ≡ t = ap lifted e ∙ (ap (put_in 0) at_u ∙ at_v) in
            subst (λ (x : Tie). Follows web (child_back f x.one) (child_back f x.other)) same
            (number_stays n h (Within 0 (Of (PartEnd r g))) (subst (Contains (shared_ties f)) (sym same) has) scope lt (plain_share r g below)))
        | inr supply ↦
            (let (n, there, own) = of_supplies f.types f.env f.numbers t supply in
            elim (of_supply f.types f.env n t own) [
              | inl joint ↦
                  (let (j, listed, same) = joint in
                  plain_stays t has (subst (λ (x : Tie). Plainly x.one) same refl) (subst (λ (x : Tie). Plainly x.other) same refl))
              | inr result ↦
                  (let (h, lt, same) = result in
                  subst (λ (x : Tie). Follows web (child_back f x.one) (child_back f x.other)) same
                  (number_stays n h (Within (suc n) (Of (ResultEnd h))) (subst (Contains (shared_ties f)) (sym same) has)
                  (inner_keeps f.splits f.numbers n there) lt refl))
            ])
      ]

  pub stays_so : (t : Tie) → Contains ts t → Follows web (child_back f t.one) (child_back f t.other)
  stays_so t has =
      elim (is.only t has) [
        | inl shared ↦ shared_stays t shared
        | inr more ↦
            elim more [
              | inl own ↦ own_stays t own
              | inr foreign ↦
                  subst (λ (z : Option Dot). Follows web z (child_back f t.other)) (sym foreign.0)
                  (subst (λ (z : Option Dot). Follows web None z) (sym foreign.1) tt)
            ]
      ]

pub child_stays : ChildStays
child_stays f ts pl t is has = stays_so f ts pl is t has
