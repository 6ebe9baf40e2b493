-- What a dot stands for is of a live number.
use Rattle.std.specs.Prelude.{◌≢◌, ◌||◌, length, nat_eq, None}
use Rattle.std.proofs.Common.{◌≡◌, ℕ, zero, suc, Bool, true, false, List, [], ◌∷◌, Option, Some, refl, sym, ◌∙◌, ap, subst, if◌then◌else◌, true≢false}
use Rattle.std.proofs.lemmas.Bool.{eq-eqb, ne_eqb}
use Rattle.gos_model.proofs.NumberLemmas.{number_cases}
use Rattle.gos_check.specs.declared.linear.Split.{Split}
use Rattle.gos_plan.specs.Plans.{End, PartEnd, ResultEnd}
use Rattle.gos_realises.specs.realises.Regular.{count}
use Rattle.gos_joining.specs.webs.Webs.{Dot, Of, Number, Within}
use Rattle.gos_compile.specs.Wiring.{Types}
use Rattle.gos_terms.specs.stages.Lodging.{Spot, spot_if, Lodging, live, first_home, first_lodging, seen_from, side_number, is_side, serves_side, moved_spot, moved, share_spot, side_spot, one_home, one_lodging, lodging, SpotsAreLive}
use Rattle.gos_terms.proofs.stages.LodgingLemmas.{seen}

abbrev IsLive : (ℕ → Bool) → List Split → Option Spot → Type 0
IsLive inner ss None = Unit {0}
IsLive inner ss (Some x) = live ss inner x.number ≡ true

live_if : (inner : ℕ → Bool) (ss : List Split) (b : Bool) (n : ℕ) (e : End) → live ss inner n ≡ true → IsLive inner ss (spot_if b n e)
live_if inner ss true n e lives = lives
live_if inner ss false n e lives = tt

module _ (inner : ℕ → Bool) (s : Split) (ss : List Split) where
  live_old : (x : Spot) → live (s ∷ ss) inner x.number ≡ true → x.number ≢ s.of → live ss inner x.number ≡ true
  live_old x lives far =
      sym (ap (λ (b : Bool). if b then live ss inner s.left || live ss inner s.right else live ss inner x.number) (ne_eqb x.number s.of far)) ∙ lives

  live_split : (n : ℕ) → n ≡ s.of → live (s ∷ ss) inner n ≡ (live ss inner s.left || live ss inner s.right)
  live_split n e = ap (λ (b : Bool). if b then live ss inner s.left || live ss inner s.right else live ss inner n) (eq-eqb n s.of e)

  at_side : (c k : ℕ) (x : Spot) → live ss inner (side_number s c) ≡ true → live (s ∷ ss) inner x.number ≡ true
      → IsLive inner ss (Some (moved_spot (nat_eq x.number s.of) (side_number s c) k x))
  at_side c k x side lives =
      number_cases x.number s.of
      (λ e t. subst (λ (b : Bool). IsLive inner ss (Some (moved_spot b (side_number s c) k x))) (sym t) side)
      (λ e t. subst (λ (b : Bool). IsLive inner ss (Some (moved_spot b (side_number s c) k x))) (sym t) (live_old x lives e))

  live_moved : (a b : Bool) → live ss inner s.left ≡ a → live ss inner s.right ≡ b → (k : ℕ) (x : Option Spot) → IsLive inner (s ∷ ss) x
      → IsLive inner ss (moved s (seen_from a b) k x)
  live_moved true b left right k None lives = tt
  live_moved false true left right k None lives = tt
  live_moved false false left right k None lives = tt
  live_moved true b left right k (Some x) lives = at_side 0 k x left lives
  live_moved false true left right k (Some x) lives = at_side 1 k x right lives
  live_moved false false left right k (Some x) lives = live_old x lives far
    where
      far : x.number ≢ s.of
      far e =
          let split = live_split x.number e in
          let none : (live ss inner s.left || live ss inner s.right) ≡ false = ap (λ (c : Bool). c || live ss inner s.right) left ∙ right in
          true≢false (sym lives ∙ (split ∙ none))

  live_share : (a b : Bool) → live ss inner s.left ≡ a → live ss inner s.right ≡ b → (m k h : ℕ) → IsLive inner ss (share_spot m k s (seen_from a b) h)
  live_share true b left right m k h = live_if inner ss (serves_side m 0 h) s.left (PartEnd k h) left
  live_share false true left right m k h = live_if inner ss (serves_side m 1 h) s.right (PartEnd k h) right
  live_share false false left right m k h = tt

  one_side : (c n h : ℕ) → live ss inner (side_number s c) ≡ true → IsLive inner ss (spot_if (nat_eq n (side_number s c)) n (ResultEnd h))
  one_side c n h side =
      number_cases n (side_number s c)
      (λ e t. live_if inner ss (nat_eq n (side_number s c)) n (ResultEnd h) (ap (live ss inner) e ∙ side))
      (λ e t. subst (λ (b : Bool). IsLive inner ss (spot_if b n (ResultEnd h))) (sym t) tt)

  live_side : (a b : Bool) → live ss inner s.left ≡ a → live ss inner s.right ≡ b → (n h : ℕ) → IsLive inner ss (side_spot s (seen_from a b) n h)
  live_side true b left right n h = one_side 0 n h left
  live_side false true left right n h = one_side 1 n h right
  live_side false false left right n h = tt

  either : (b : Bool) (x y : Option Spot) → IsLive inner ss x → IsLive inner ss y → IsLive inner ss (if b then x else y)
  either true x y one other = one
  either false x y one other = other

  abbrev caller : Option ℕ
  caller = seen_from (live ss inner s.left) (live ss inner s.right)

  live_on : (q m k : ℕ) (home : Dot → Option Spot) → ((d : Dot) → IsLive inner (s ∷ ss) (home d)) → (d : Dot) → IsLive inner ss (one_home q m k s caller home d)
  live_on q m k home lives (Within zero (Of (PartEnd i h))) =
      either (nat_eq i q) (share_spot m k s caller h) (moved s caller k (home (Within 0 (Of (PartEnd i h)))))
      (live_share (live ss inner s.left) (live ss inner s.right) refl refl m k h)
      (live_moved (live ss inner s.left) (live ss inner s.right) refl refl k (home (Within 0 (Of (PartEnd i h)))) (lives (Within 0 (Of (PartEnd i h)))))
  live_on q m k home lives (Within zero (Number n h)) =
      either (is_side s n) (side_spot s caller n h) (moved s caller k (home (Within 0 (Number n h))))
      (live_side (live ss inner s.left) (live ss inner s.right) refl refl n h)
      (live_moved (live ss inner s.left) (live ss inner s.right) refl refl k (home (Within 0 (Number n h))) (lives (Within 0 (Number n h))))
  live_on q m k home lives d = live_moved (live ss inner s.left) (live ss inner s.right) refl refl k (home d) (lives d)

final_live : (types : Types) (inner : ℕ → Bool) (ss : List Split) (q x : ℕ) (l : Lodging) → ((d : Dot) → IsLive inner ss (l.home d))
    → (d : Dot) → IsLive inner [] ((lodging types q x inner ss l).home d)
final_live types inner [] q x l lives d = lives d
final_live types inner (s ∷ ss) q x l lives d =
    final_live types inner ss (suc q) (suc x) (one_lodging types q x s (seen types inner ss s) l)
    (live_on inner s ss q (count (types s.of)) (length (l.env s.of).plan.parts) l.home lives) d

alive : (inner : ℕ → Bool) (ss : List Split) (b : Bool) (n : ℕ) (e : End) → live ss inner n ≡ b → IsLive inner ss (spot_if b n e)
alive inner ss true n e lives = lives
alive inner ss false n e lives = tt

first_live : (inner : ℕ → Bool) (ss : List Split) (d : Dot) → IsLive inner ss (first_home (live ss inner) d)
first_live inner ss (Within zero (Number n h)) = alive inner ss (live ss inner n) n (ResultEnd h) refl
first_live inner ss (Within (suc n) (Of e)) = alive inner ss (live ss inner n) n e refl
first_live inner ss d = tt

pub spots_are_live : SpotsAreLive
spots_are_live types i inner ss env d x is =
    subst (IsLive inner []) is (final_live types inner ss i 0 (first_lodging (live ss inner) env) (first_live inner ss) d)
