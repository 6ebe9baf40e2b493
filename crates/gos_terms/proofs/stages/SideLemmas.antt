-- Each number that is there outside splits is live for somebody, and each Share serves somebody from either side.
use Rattle.std.specs.Prelude.{◌≢◌, ◌+◌, ◌*◌, ◌<◌, ◌||◌, nat_eq, nat_lt, slice_get, Option, Contains}
use Rattle.std.proofs.Common.{◌≡◌, ℕ, zero, suc, Bool, true, false, List, [], ◌∷◌, Some, refl, sym, ◌∙◌, ap, subst, arith, if◌then◌else◌}
use Rattle.std.proofs.lemmas.List.Elements.{Contains-append_left, Contains-append_right}
use Rattle.std.proofs.lemmas.Bool.{lt-ltb, le-ltb, ltb-true}
use Rattle.std.proofs.lemmas.Option.{none-some}
use Rattle.gos_types.specs.Types.{Type'}
use Rattle.gos_model.proofs.NumberLemmas.{number_cases}
use Rattle.gos_check.specs.declared.linear.Split.{Split}
use Rattle.gos_check.specs.Linearity.{times, split_in, sides}
use Rattle.gos_check.proofs.TimesLemmas.{times_same, times_other, times_none}
use Rattle.gos_plan.specs.Kinds.{Share}
use Rattle.gos_nodes.specs.windows.Regions.{Serving}
use Rattle.gos_compile.specs.Wiring.{Types, shares}
use Rattle.gos_terms.specs.wired.Wired.{Placing}
use Rattle.gos_terms.specs.stages.Inside.{numbers_inside}
use Rattle.gos_terms.specs.stages.Lodging.{live, seen_from, serves_side, AreInOrder, AreApart}
use Rattle.gos_terms.specs.stages.Folding.{serving_if, servings}
use Rattle.gos_terms.proofs.stages.StepLemmas.{told_high}
use Rattle.gos_terms.proofs.stages.LodgingLemmas.{seen_first, seen_second}

-- a handshake of a Share with n of each is the source's or a caller's
pub served_side : (n h : ℕ) → h < n + (n + n) → (c : ℕ) × (c < 2) × (serves_side n c h ≡ true)
served_side n h lt = by_tests (nat_lt h n) (nat_lt h (n + n)) refl refl
  where
    by_tests : (a b : Bool) → nat_lt h n ≡ a → nat_lt h (n + n) ≡ b → (c : ℕ) × (c < 2) × (serves_side n c h ≡ true)
    by_tests true b one both = (0, omega arith, rw one refl)
    by_tests false true one both =
        let le = told_high h n one in
        let below = ltb-true h (n + n) both in
        let begins : nat_lt h (n + 0 * n) ≡ false = le-ltb h (n + 0 * n) (omega (arith, le)) in
        let ends : nat_lt h (n + 0 * n + n) ≡ true = lt-ltb h (n + 0 * n + n) (omega (arith, below)) in
        (0, omega arith, rw (one, begins, ends) refl)
    by_tests false false one both =
        let le = told_high h (n + n) both in
        let begins : nat_lt h (n + 1 * n) ≡ false = le-ltb h (n + 1 * n) (omega (arith, le)) in
        let ends : nat_lt h (n + 1 * n + n) ≡ true = lt-ltb h (n + 1 * n + n) (omega (arith, lt)) in
        (1, omega arith, rw (one, begins, ends) refl)

-- Each p uses some numbers, as a branch does.
module _ {P : Type 0} (inner : P → ℕ → Bool) where
  abbrev pub IsUsed : ℕ → Type 0
  IsUsed k = (p : P) × (inner p k ≡ true)

  -- What is there inside the splits is used, but for what they split, or was split before.
  abbrev pub AreUsed : List Split → List ℕ → List ℕ → Type 0
  AreUsed ss ns old = (k : ℕ) → Contains (numbers_inside ss ns) k → times k old + times k (split_in ss) ≡ 0 → IsUsed k

  -- what was split before is no side
  abbrev pub AreOld : List Split → List ℕ → Type 0
  AreOld ss old = (k : ℕ) → 0 < times k (sides ss) → times k old ≡ 0

  -- so it is behind the first split
  used_behind : (s : Split) (ss : List Split) (ns old : List ℕ) → AreUsed (s ∷ ss) ns old → AreUsed ss (s.left ∷ s.right ∷ ns) (s.of ∷ old)
  used_behind s ss ns old used k there none = used k there (omega (arith, none))

  old_behind : (s : Split) (ss : List Split) (old : List ℕ) → AreInOrder (s ∷ ss) → AreOld (s ∷ ss) old → AreOld ss (s.of ∷ old)
  old_behind s ss old (apart, order) far k some = number_cases s.of k same other
    where
      same : s.of ≡ k → nat_eq s.of k ≡ true → times k (s.of ∷ old) ≡ 0
      same e t =
          let none = subst (λ (m : ℕ). times m (s.left ∷ s.right ∷ sides ss) ≡ 0) e apart in
          absurd (omega (arith, none, some))

      other : s.of ≢ k → nat_eq s.of k ≡ false → times k (s.of ∷ old) ≡ 0
      other e t = times_other k s.of old e ∙ far k (omega (arith, some))

  -- the sides are new
  left_new : (s : Split) (ss : List Split) (old : List ℕ) → AreInOrder (s ∷ ss) → AreOld (s ∷ ss) old → times s.left (s.of ∷ old) ≡ 0
  left_new s ss old (apart, order) far =
      let (not_left, rest) = times_none s.of s.left (s.right ∷ sides ss) apart in
      let here = times_same s.left (s.right ∷ sides ss) in
      times_other s.left s.of old not_left ∙ far s.left (omega (arith, here))

  right_new : (s : Split) (ss : List Split) (old : List ℕ) → AreInOrder (s ∷ ss) → AreOld (s ∷ ss) old → times s.right (s.of ∷ old) ≡ 0
  right_new s ss old (apart, order) far =
      let (not_left, rest) = times_none s.of s.left (s.right ∷ sides ss) apart in
      let (not_right, more) = times_none s.of s.right (sides ss) rest in
      let here = times_same s.right (sides ss) in
      times_other s.right s.of old not_right ∙ far s.right (omega (arith, here))

  -- a number is live for one of them
  abbrev pub Lives : List Split → ℕ → Type 0
  Lives ss n = (p : P) × (live ss (inner p) n ≡ true)

  one_live : (s : Split) (ss : List Split) (ns old : List ℕ) → AreInOrder (s ∷ ss) → AreOld (s ∷ ss) old
      → ((k : ℕ) → Contains (s.left ∷ s.right ∷ ns) k → times k (s.of ∷ old) ≡ 0 → Lives ss k)
      → (n : ℕ) → Contains ns n → times n old ≡ 0 → Lives (s ∷ ss) n
  one_live s ss ns old order far behind n there new = number_cases n s.of split stays
    where
      split : n ≡ s.of → nat_eq n s.of ≡ true → Lives (s ∷ ss) n
      split e t =
          let (p, alive) = behind s.left (0, omega arith, refl) (left_new s ss old order far) in (
            p,
            ap (λ (b : Bool). if b then live ss (inner p) s.left || live ss (inner p) s.right else live ss (inner p) n) t
                ∙ ap (λ (b : Bool). b || live ss (inner p) s.right) alive,
          )

      stays : n ≢ s.of → nat_eq n s.of ≡ false → Lives (s ∷ ss) n
      stays e t =
          let (k, lt, at) = there in
          let (p, alive) = behind n (suc (suc k), omega (arith, lt), at) (times_other n s.of old (λ same. e (sym same)) ∙ new) in
          (p, ap (λ (b : Bool). if b then live ss (inner p) s.left || live ss (inner p) s.right else live ss (inner p) n) t ∙ alive)

  pub all_live : (ss : List Split) (ns old : List ℕ) → AreUsed ss ns old → AreInOrder ss → AreOld ss old
      → (n : ℕ) → Contains ns n → times n old ≡ 0 → Lives ss n
  all_live [] ns old used order far n there new = used n there (omega (arith, new))
  all_live (s ∷ ss) ns old used order far n there new =
      one_live s ss ns old order far
      (λ k has fresh. all_live ss (s.left ∷ s.right ∷ ns) (s.of ∷ old) (used_behind s ss ns old used) order.1 (old_behind s ss old order far) k has fresh)
      n there new

  module _ (types : Types) (pl : Placing) where
    abbrev serving : ℕ → Type' → ℕ → Serving
    serving x t c = record { part = pl.own x; ty = t; side = c }

    -- Share q of the node, of type t, serves one of them from side c; the Shares have numbers from x on
    abbrev pub Serves : List Split → ℕ → ℕ → Type' → ℕ → Type 0
    Serves ss x q t c = (p : P) × Contains (servings types pl (inner p) x ss) (serving q t c)

    -- the first one
    seen : (s : Split) (ss : List Split) (x c : ℕ) (p : P) → seen_from (live ss (inner p) s.left) (live ss (inner p) s.right) ≡ Some c
        → Serves (s ∷ ss) x x (types s.of) c
    seen s ss x c p sees = (
      p,
      Contains-append_left (serving_if (pl.own x) (types s.of) (seen_from (live ss (inner p) s.left) (live ss (inner p) s.right)))
          (servings types pl (inner p) (suc x) ss) (serving x (types s.of) c)
          (subst (λ (b : Option ℕ). Contains (serving_if (pl.own x) (types s.of) b) (serving x (types s.of) c)) (sym sees) (0, omega arith, refl)),
    )

    by_side : (s : Split) (ss : List Split) (x c : ℕ) → ((p : P) → AreApart (inner p) (s ∷ ss)) → Lives ss s.left → Lives ss s.right → c < 2
        → Serves (s ∷ ss) x x (types s.of) c
    by_side s ss x zero apart (p, alive) right two =
        seen s ss x 0 p (seen_first (live ss (inner p) s.left) (live ss (inner p) s.right) alive)
    by_side s ss x (suc zero) apart left (p, alive) two =
        seen s ss x 1 p (seen_second (live ss (inner p) s.left) (live ss (inner p) s.right) (apart p).0 alive)
    by_side s ss x (suc (suc c)) apart left right two = absurd (omega (arith, two))

    pub all_serve : (ss : List Split) (ns old : List ℕ) → AreUsed ss ns old → AreInOrder ss → AreOld ss old → ((p : P) → AreApart (inner p) ss)
        → (x y q : ℕ) (t : Type') (c : ℕ) → q ≡ x + y → slice_get (shares ss types) y ≡ Some (Share t) → c < 2 → Serves ss x q t c
    all_serve [] ns old used order far apart x y q t c at share two = absurd (none-some (Share t) share)
    all_serve (s ∷ ss) ns old used order far apart x zero q t c at share two =
        let same : types s.of ≡ t = cc share in
        let here : q ≡ x = omega (arith, at) in
        subst (λ (u : Type'). Serves (s ∷ ss) x q u c) same
        (subst (λ (r : ℕ). Serves (s ∷ ss) x r (types s.of) c) (sym here)
        (by_side s ss x c apart (behind s.left (0, omega arith, refl) (left_new s ss old order far))
        (behind s.right (1, omega arith, refl) (right_new s ss old order far)) two))
      where
        behind : (k : ℕ) → Contains (s.left ∷ s.right ∷ ns) k → times k (s.of ∷ old) ≡ 0 → Lives ss k
        behind = all_live ss (s.left ∷ s.right ∷ ns) (s.of ∷ old) (used_behind s ss ns old used) order.1 (old_behind s ss old order far)
    all_serve (s ∷ ss) ns old used order far apart x (suc y) q t c at share two =
        let (p, listed) =
        all_serve ss (s.left ∷ s.right ∷ ns) (s.of ∷ old) (used_behind s ss ns old used) order.1 (old_behind s ss old order far) (λ p. (apart p).1)
        (suc x) y q t c (omega (arith, at)) share two
        in (
          p,
          Contains-append_right (serving_if (pl.own x) (types s.of) (seen_from (live ss (inner p) s.left) (live ss (inner p) s.right)))
              (servings types pl (inner p) (suc x) ss) (serving q t c) listed,
        )
