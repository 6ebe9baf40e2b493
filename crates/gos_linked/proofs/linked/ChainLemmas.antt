-- The services of right bind lines: from each instance so many services lead up to the root.
use Rattle.std.specs.Prelude.{◌≡◌, ◌≢◌, ◌<◌, ◌≤◌, ◌+◌, ◌-◌, ℕ, zero, suc, Bool, true, false, List, [], ◌∷◌, length, Some, slice_get, nat_eq}
use Rattle.std.proofs.Common.{refl, sym, ◌∙◌, subst, arith, inl, inr}
use Rattle.std.proofs.lemmas.Bool.{eqb-true, eqb-false}
use Rattle.gos_model.specs.Typing.{Imported}
use Rattle.gos_plan.specs.Plans.{Plan}
use Rattle.gos_link.specs.declared.services.Service.{Service}
use Rattle.gos_link.specs.Services.{HasService, Gives, once, on, HasRing}
use Rattle.gos_linked.proofs.linked.CountLemmas.{In, Distinct, short}

-- Each service is between plans that there are, and fits; no import is served twice, no instance serves twice, and there is no ring.
pub record IsSound (ps : List Plan) (ss : List Service) : Type 0 where
  pub fits : (s : Service) → HasService ss s
      → (p : Plan) × (q : Plan) × (x : Imported) × (slice_get ps s.user ≡ Some p) × (slice_get ps s.giver ≡ Some q)
      × (slice_get p.imports s.import ≡ Some x) × (q.outcome ≡ x.ty)
  pub one_import : (s t : Service) → HasService ss s → HasService ss t → s.user ≡ t.user → s.import ≡ t.import → s ≡ t
  pub one_giver : (s t : Service) → HasService ss s → HasService ss t → s.giver ≡ t.giver → s ≡ t
  pub ringless : HasRing ss → ⊥

-- and each instance but the root serves
pub record IsRooted (ps : List Plan) (ss : List Service) (root : ℕ) : Type 0 where
  pub sound : IsSound ps ss
  pub low : root < length ps
  pub serves : (k : ℕ) → k < length ps → k ≢ root → (s : Service) × HasService ss s × (s.giver ≡ k)

-- so many services lead from k up to v
abbrev pub Below : List Service → ℕ → ℕ → ℕ → Type 0
Below ss zero k v = k ≡ v
Below ss (suc i) k v = (s : Service) × HasService ss s × (s.giver ≡ k) × Below ss i s.user v

module _ (ss : List Service) where
  pub below_then : (i j k v w : ℕ) → Below ss i k v → Below ss j v w → Below ss (i + j) k w
  below_then zero j k v w e h =
      let none : j ≡ 0 + j = omega arith in subst (λ (n : ℕ). Below ss n k w) none (subst (λ (u : ℕ). Below ss j u w) (sym e) h)
  below_then (suc i) j k v w (s, has, e, rest) h =
      let sum : suc (i + j) ≡ suc i + j = omega arith in
      subst (λ (n : ℕ). Below ss n k w) sum (s, has, e, below_then i j s.user v w rest h)

  -- the last of them
  pub from_top : (i k v : ℕ) → Below ss (suc i) k v → (s : Service) × HasService ss s × (s.user ≡ v) × Below ss i k s.giver
  from_top zero k v (s, has, e, up) = (s, has, up, sym e)
  from_top (suc i) k v (s, has, e, rest) =
      let (t, has_t, top, up) = from_top i s.user v rest in (t, has_t, top, (s, has, e, up))

  pub gives : (i k v : ℕ) → Below ss (suc i) k v → Gives ss k v
  gives zero k v (s, has, e, up) = subst (λ (a : ℕ). Gives ss a v) e (subst (λ (b : ℕ). Gives ss s.giver b) up (once s has))
  gives (suc i) k v (s, has, e, rest) = subst (λ (a : ℕ). Gives ss a v) e (on s.giver s.user v (once s has) (gives i s.user v rest))

module _ (ps : List Plan) (ss : List Service) (sound : IsSound ps ss) where
  pub no_ring : (i k : ℕ) → Below ss (suc i) k k → ⊥
  no_ring i k h = sound.ringless (k, gives ss i k k h)

  -- of two ways up from an instance the longer one goes on where the other one ends
  goes_on : (i j k v w : ℕ) → Below ss i k v → Below ss (i + j) k w → Below ss j v w
  goes_on zero j k v w e h =
      let none : 0 + j ≡ j = omega arith in subst (λ (u : ℕ). Below ss j u w) e (subst (λ (n : ℕ). Below ss n k w) none h)
  goes_on (suc i) j k v w (s, has, e, rest) h =
      let sum : suc i + j ≡ suc (i + j) = omega arith in
      let (t, has_t, f, rest_t) = subst (λ (n : ℕ). Below ss n k w) sum h in
      let one : t ≡ s = sound.one_giver t s has_t has (f ∙ sym e) in
      goes_on i j s.user v w rest (subst (λ (r : Service). Below ss (i + j) r.user w) one rest_t)

  pub same_level : (i j k v : ℕ) → Below ss i k v → Below ss j k v → i ≡ j
  same_level i j k v one two = by_order (i - j) (j - i) refl refl
    where
      by_order : (a b : ℕ) → i - j ≡ a → j - i ≡ b → i ≡ j
      by_order zero zero e f = omega (arith, e, f)
      by_order (suc a) b e f =
          let sum : i ≡ j + suc a = omega (arith, e) in
          absurd (no_ring a v (goes_on j (suc a) k v v two (subst (λ (n : ℕ). Below ss n k v) sum one)))
      by_order zero (suc b) e f =
          let sum : j ≡ i + suc b = omega (arith, f) in
          absurd (no_ring b v (goes_on i (suc b) k v v one (subst (λ (n : ℕ). Below ss n k v) sum two)))

  pub same_top : (i k v w : ℕ) → Below ss i k v → Below ss i k w → v ≡ w
  same_top i k v w one two =
      let none : i ≡ i + 0 = omega arith in goes_on i 0 k v w one (subst (λ (n : ℕ). Below ss n k w) none two)

module _ (ps : List Plan) (ss : List Service) (root : ℕ) (rooted : IsRooted ps ss root) where
  abbrev sound : IsSound ps ss
  sound = rooted.sound

  -- numbers from which services lead up to k
  abbrev AllUnder : List ℕ → ℕ → Type 0
  AllUnder vs k = (v : ℕ) → In vs v → (i : ℕ) × Below ss (suc i) v k

  abbrev Up : ℕ → ℕ → Type 0
  Up k n = (i : ℕ) × (i + n < length ps) × Below ss i k root

  within : {X : Type 0} (xs : List X) (i : ℕ) (x : X) → slice_get xs i ≡ Some x → i < length xs
  within [] i x e = absurd (cc e)
  within (y ∷ xs) zero x e = omega arith
  within (y ∷ xs) (suc i) x e = let h = within xs i x e in omega (arith, h)

  pub user_low : (s : Service) → HasService ss s → s.user < length ps
  user_low s has = let (p, q, x, at, at_q, at_x, type) = sound.fits s has in within ps s.user p at

  pub giver_low : (s : Service) → HasService ss s → s.giver < length ps
  giver_low s has = let (p, q, x, at_p, at, at_x, type) = sound.fits s has in within ps s.giver q at

  fresh : (k : ℕ) (vs : List ℕ) → AllUnder vs k → In vs k → ⊥
  fresh k vs under has = let (i, ring) = under k has in no_ring ps ss sound i k ring

  abbrev AllLow : List ℕ → Type 0
  AllLow vs = (v : ℕ) → In vs v → v < length ps

  more_low : (k : ℕ) (vs : List ℕ) → k < length ps → AllLow vs → AllLow (k ∷ vs)
  more_low k vs low all_low v (inl e) = subst (λ (n : ℕ). n < length ps) e low
  more_low k vs low all_low v (inr h) = all_low v h

  more_under : (s : Service) (k : ℕ) (vs : List ℕ) → HasService ss s → s.giver ≡ k → AllUnder vs k → AllUnder (k ∷ vs) s.user
  more_under s k vs has e under v (inl same_k) = (0, (s, has, e ∙ same_k, refl))
  more_under s k vs has e under v (inr h) =
      let (i, up) = under v h in
      let sum : suc i + 1 ≡ suc (suc i) = omega arith in
      (suc i, subst (λ (n : ℕ). Below ss n v s.user) sum (below_then ss (suc i) 1 v k s.user up (s, has, e, refl)))

  enough : (k : ℕ) (vs : List ℕ) → k < length ps → AllLow vs → Distinct vs → AllUnder vs k → suc (length vs) ≤ length ps
  enough k vs low all_low distinct under = short (length ps) (k ∷ vs) (fresh k vs under, distinct) (more_low k vs low all_low)

  -- where the root isn't reached yet, one service more leads up
  walk : (f k : ℕ) (vs : List ℕ) → k < length ps → AllLow vs → Distinct vs → AllUnder vs k → f + length vs ≡ length ps → Up k (length vs)
  walk zero k vs low all_low distinct under size = let most = enough k vs low all_low distinct under in absurd (omega (arith, most, size))
  walk (suc f) k vs low all_low distinct under size =
      by_root (nat_eq k root) refl
      (λ apart.
      let (s, has, e) = rooted.serves k low apart in
      let sizes : f + length (k ∷ vs) ≡ length ps = omega (arith, size) in
      let (i, small, up) =
      walk f s.user (k ∷ vs) (user_low s has) (more_low k vs low all_low) (fresh k vs under, distinct) (more_under s k vs has e under) sizes
      in
      (suc i, omega (arith, small), (s, has, e, up)))
    where
      by_root : (b : Bool) → nat_eq k root ≡ b → (k ≢ root → Up k (length vs)) → Up k (length vs)
      by_root true test rest = let most = enough k vs low all_low distinct under in (0, omega (arith, most), eqb-true k root test)
      by_root false test rest = rest (eqb-false k root test)

  -- Each instance is fewer services below the root than there are instances.
  pub reached : (k : ℕ) → k < length ps → (i : ℕ) × (i < length ps) × Below ss i k root
  reached k low =
      let all : length ps + 0 ≡ length ps = omega arith in
      let (i, small, up) = walk (length ps) k [] low (λ v h. absurd h) tt (λ v h. absurd h) all in
      (i, omega (arith, small), up)
