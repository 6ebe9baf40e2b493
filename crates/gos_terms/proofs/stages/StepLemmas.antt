-- One split more: the ties so far stay within plans, and so are those of the split's own Share.
use Rattle.std.specs.Prelude.{◌≢◌, ◌+◌, ◌*◌, ◌<◌, ◌≤◌, length, nat_eq, nat_lt, None}
use Rattle.std.proofs.Common.{◌≡◌, ℕ, zero, suc, Bool, true, false, List, ◌∷◌, Option, Some, refl, sym, ◌∙◌, ap, subst, arith}
use Rattle.std.proofs.lemmas.Bool.Decides.{nat_tests}
use Rattle.std.proofs.lemmas.Bool.{lt-ltb, le-ltb, eq-eqb, ne_eqb}
use Rattle.gos_model.proofs.NumberLemmas.{number_cases}
use Rattle.gos_check.specs.declared.linear.Split.{Split}
use Rattle.gos_check.specs.Linearity.{times, sides}
use Rattle.gos_check.proofs.TimesLemmas.{times_same}
use Rattle.gos_plan.specs.Plans.{End}
use Rattle.gos_realises.specs.realises.Regular.{count}
use Rattle.gos_realises.specs.realises.Modules.{Supply}
use Rattle.gos_joining.specs.webs.Webs.{Dot, Of, Tie, Way, own_web}
use Rattle.gos_compile.specs.Wiring.{Types}
use Rattle.gos_sharing.specs.buffers.Buffering.{end_behind}
use Rattle.gos_terms.specs.wired.Wired.{Supplies}
use Rattle.gos_terms.specs.stages.Inside.{behind_share, inside_one_supply}
use Rattle.gos_terms.specs.stages.Lodging.{Spot, Lodging, seen_from, side_number, is_side, serves_side, moved_spot, moved, one_lodging, Near}
use Rattle.gos_terms.proofs.stages.InsideLemmas.{one_stays}
use Rattle.gos_terms.proofs.stages.HomeLemmas.{way_behind, Untouched, IsOld, neither_side, left_side, right_side, untouched_later, plainly}

pub told_high : (a b : ℕ) → nat_lt a b ≡ false → b ≤ a
told_high a b h = grind (arith, nat_tests)

-- the handshakes of a Share
pub serves_source : (m c h : ℕ) → h < m → serves_side m c h ≡ true
serves_source m c h lt = rw (lt-ltb h m lt) refl

pub serves_caller : (m c h : ℕ) → c < 2 → h < m → serves_side m c (m + c * m + h) ≡ true
serves_caller m c h two lt =
    let one : nat_lt (m + c * m + h) m ≡ false = le-ltb (m + c * m + h) m (omega arith) in
    let other : nat_lt (m + c * m + h) (m + c * m) ≡ false = le-ltb (m + c * m + h) (m + c * m) (omega arith) in
    let last : nat_lt (m + c * m + h) (m + c * m + m) ≡ true = lt-ltb (m + c * m + h) (m + c * m + m) (omega (arith, lt)) in
    rw (one, other, last) refl

pub serves_first_alone : (m h : ℕ) → serves_side m 0 (m + 1 * m + h) ≡ false
serves_first_alone m h =
    let one : nat_lt (m + 1 * m + h) m ≡ false = le-ltb (m + 1 * m + h) m (omega arith) in
    let other : nat_lt (m + 1 * m + h) (m + 0 * m) ≡ false = le-ltb (m + 1 * m + h) (m + 0 * m) (omega arith) in
    let last : nat_lt (m + 1 * m + h) (m + 0 * m + m) ≡ false = le-ltb (m + 1 * m + h) (m + 0 * m + m) (omega arith) in
    rw (one, other, last) refl

pub serves_second_alone : (m h : ℕ) → h < m → serves_side m 1 (m + 0 * m + h) ≡ false
serves_second_alone m h lt =
    let one : nat_lt (m + 0 * m + h) m ≡ false = le-ltb (m + 0 * m + h) m (omega arith) in
    let other : nat_lt (m + 0 * m + h) (m + 1 * m) ≡ true = lt-ltb (m + 0 * m + h) (m + 1 * m) (omega (arith, lt)) in
    rw (one, other) refl

-- no more than two callers
abbrev pub IsCaller : Option ℕ → Type 0
IsCaller None = Unit {0}
IsCaller (Some c) = c < 2

pub seen_caller : (a b : Bool) → IsCaller (seen_from a b)
seen_caller true b = omega arith
seen_caller false true = omega arith
seen_caller false false = tt

-- a tie that is kept
pub record IsKept (q : ℕ) (ss : List Split) (l : Lodging) (t : Tie) : Type 0 where
  pub near : Near l.env (l.home t.one) (l.home t.other)
  pub one : Untouched q ss t.one
  pub other : Untouched q ss t.other
  pub old : IsOld ss (l.home t.one)

module _ (types : Types) (s : Split) (ss : List Split) (once : (k : ℕ) → times k (sides (s ∷ ss)) ≤ 1) where
  pub differ : s.left ≢ s.right
  differ e =
      let all = once s.left in
      let first = times_same s.left (s.right ∷ sides ss) in
      let second = subst (λ (n : ℕ). times n (s.right ∷ sides ss) ≡ 1 + times n (sides ss)) (sym e) (times_same s.right (sides ss)) in
      omega (arith, all, first, second)

  pub left_gone : times s.left (sides ss) ≡ 0
  left_gone = let all = once s.left in let first = times_same s.left (s.right ∷ sides ss) in omega (arith, all, first)

  pub right_gone : times s.right (sides ss) ≡ 0
  right_gone = let all = once s.right in let second = times_same s.right (sides ss) in omega (arith, all, second)

  pub side_gone : (c : ℕ) → times (side_number s c) (sides ss) ≡ 0
  side_gone zero = left_gone
  side_gone (suc c) = right_gone

  pub side_is : (c : ℕ) → is_side s (side_number s c) ≡ true
  side_is zero = left_side s
  side_is (suc c) = right_side s

  -- what stands for a side
  pub side_env : (env : Supplies) (c : ℕ) → c < 2 → inside_one_supply types s env (side_number s c) ≡ behind_share (types s.of) c (env s.of)
  side_env env zero two = rw (eq-eqb s.left s.left refl) refl
  side_env env (suc zero) two = rw (ne_eqb s.right s.left (λ e. differ (sym e)), eq-eqb s.right s.right refl) refl
  side_env env (suc (suc c)) two = absurd (omega (arith, two))

  abbrev Joined : Supply → End → End → Type 0
  Joined e a b = Way (own_web e.plan).ties (Of a) (Of b)

  other_env : (env : Supplies) (n : ℕ) → times n (sides (s ∷ ss)) ≡ 0 → env n ≡ inside_one_supply types s env n
  other_env env n none = let (l, r, rest) = neither_side s ss n none in sym (one_stays types s env n l r)

  abbrev Moved : Supplies → ℕ → ℕ → Spot → Spot → Bool → Bool → Type 0
  Moved env c k x y a b = Near (inside_one_supply types s env) (Some (moved_spot a (side_number s c) k x)) (Some (moved_spot b (side_number s c) k y))

  -- what was near is near
  near_moved : (env : Supplies) (c : Option ℕ) → IsCaller c → (a b : Option Spot) → Near env a b → IsOld (s ∷ ss) a
      → Near (inside_one_supply types s env) (moved s c (length (env s.of).plan.parts) a) (moved s c (length (env s.of).plan.parts) b)
  near_moved env None two None None near old = tt
  near_moved env (Some c) two None None near old = tt
  near_moved env c two None (Some y) near old = absurd near
  near_moved env c two (Some x) None near old = absurd near
  near_moved env None two (Some x) (Some y) (same, way) old =
      (same, subst (λ (e : Supply). Joined e x.end y.end) (other_env env x.number old) way)
  near_moved env (Some c) two (Some x) (Some y) (same, way) old =
      number_cases x.number s.of
      (λ e t. both true t (
        refl,
        subst (λ (z : Supply). Joined z (end_behind k x.end) (end_behind k y.end)) (sym (side_env env c two))
            (way_behind (types s.of) c (env s.of).plan x.end y.end (subst (λ (n : ℕ). Joined (env n) x.end y.end) e way)),
      ))
      (λ e t. both false t (same, subst (λ (z : Supply). Joined z x.end y.end) (other_env env x.number old) way))
    where
      k : ℕ
      k = length (env s.of).plan.parts

      both : (b : Bool) → nat_eq x.number s.of ≡ b → Moved env c k x y b b → Moved env c k x y (nat_eq x.number s.of) (nat_eq y.number s.of)
      both b t g =
          let u : nat_eq y.number s.of ≡ b = ap (λ (n : ℕ). nat_eq n s.of) (sym same) ∙ t in
          subst (λ (a : Bool). Moved env c k x y a (nat_eq y.number s.of)) (sym t) (subst (λ (a : Bool). Moved env c k x y b a) (sym u) g)

  pub old_moved : (c : Option ℕ) (k : ℕ) (a : Option Spot) → IsOld (s ∷ ss) a → IsOld ss (moved s c k a)
  old_moved None k None old = tt
  old_moved None k (Some x) old = (neither_side s ss x.number old).2
  old_moved (Some c) k None old = tt
  old_moved (Some c) k (Some x) old = by_test (nat_eq x.number s.of)
    where
      by_test : (b : Bool) → IsOld ss (Some (moved_spot b (side_number s c) k x))
      by_test true = side_gone c
      by_test false = (neither_side s ss x.number old).2

  -- a tie that was kept is kept
  pub kept_on : (q x : ℕ) (c : Option ℕ) (l : Lodging) (t : Tie) → IsCaller c → IsKept q (s ∷ ss) l t → IsKept (suc q) ss (one_lodging types q x s c l) t
  kept_on q x c l t two kept =
      record {
        near =
            subst (λ (a : Option Spot). Near env a ((one_lodging types q x s c l).home t.other)) (sym (plain t.one kept.one))
            (subst (λ (b : Option Spot). Near env (moved s c k (l.home t.one)) b) (sym (plain t.other kept.other))
            (near_moved l.env c two (l.home t.one) (l.home t.other) kept.near kept.old));
        one = untouched_later q s ss t.one kept.one;
        other = untouched_later q s ss t.other kept.other;
        old = subst (IsOld ss) (sym (plain t.one kept.one)) (old_moved c k (l.home t.one) kept.old);
      }
    where
      k : ℕ
      k = length (l.env s.of).plan.parts

      env : Supplies
      env = inside_one_supply types s l.env

      plain : (d : Dot) → Untouched q (s ∷ ss) d → (one_lodging types q x s c l).home d ≡ moved s c k (l.home d)
      plain d u = plainly q (count (types s.of)) k s ss c l.home d u
