-- Turns of a type, as one of its handshakes opens or closes.
--
-- A handshake by which the holder of a term asks is never the only open one. So where the other side opens or closes a
-- handshake, something was open before if something is after; and where the holder does, it is if it was.
use Rattle.std.specs.Prelude.{ℕ, zero, suc, ◌+◌, ◌-◌, ◌<◌, Bool, true, false, List, Some, slice_get, nat_eq, nat_lt, length}
use Rattle.std.proofs.Common.{◌≡◌, ◌++◌, ◌⊎◌, inl, inr, refl, sym, ◌∙◌, ap, arith, length-append}
use Rattle.std.proofs.lemmas.Bool.Decides.{nat_tests}
use Rattle.std.proofs.lemmas.Option.{none-some}
use Rattle.gos_types.specs.declared.shakes.Role.{Role}
use Rattle.gos_types.specs.declared.shakes.Role.TheVariants.{Serve, Ask}
use Rattle.gos_types.specs.Types.{Type', Com, Exp, Var, Pair, Fun}
use Rattle.gos_types.specs.Events.{Direction}
use Rattle.gos_types.proofs.ListLemmas.{same_in_front}
use Rattle.gos_types.proofs.RoleLemmas.{serve_is_not_ask}
use Rattle.gos_plan.specs.Kinds.{Contact, contacts_of, other_side}
use Rattle.gos_plan.specs.Tokens.{way_taken, way_put}
use Rattle.gos_plan.proofs.SideLemmas.{pairs_join, functions_join}
use Rattle.gos_realises.specs.realises.Regular.{count, some_open, beyond, KeepsTurnsOf, is_request}
use Rattle.gos_realises.proofs.realises.GroundTurnLemmas.{some_there, there_some, count_fun}
use Rattle.gos_realises.proofs.realises.CountLemmas.{count_pair}
use Rattle.gos_realises.proofs.joined.OriginLemmas.{behind_at}

-- another handshake is open
abbrev Beside : ℕ → (ℕ → Bool) → ℕ → Type 0
Beside n f h = (g : ℕ) × (g < n) × (g ≡ h → ⊥) × (f g ≡ true)

pub sides : (a b : Type') → length (other_side (contacts_of a)) ≡ count a
sides a b =
    let joined = ap (λ (cs : List Contact). length cs) (functions_join a b).joined in
    let both = length-append (other_side (contacts_of a)) (contacts_of b) in
    let sum = count_fun a b in
    omega (arith, joined, both, sum)

role_is : (c d : Contact) → Some c ≡ Some d → d.role ≡ Ask → c.role ≡ Ask
role_is c d same role = let is : c ≡ d = cc same in ap (λ (x : Contact). x.role) is ∙ role

-- an open handshake by which the holder asks has another beside it
pub beside : (t : Type') (f : ℕ → Bool) (h : ℕ) (c : Contact) → KeepsTurnsOf t f → slice_get (contacts_of t) h ≡ Some c → c.role ≡ Ask → f h ≡ true → Beside (count t) f h
beside Com f zero c keeps there role up = absurd (serve_is_not_ask (role_is _ c there role))
beside Com f (suc h) c keeps there role up = absurd (none-some c there)
beside (Exp w) f zero c keeps there role up = absurd (serve_is_not_ask (role_is _ c there role))
beside (Exp w) f (suc h) c keeps there role up = absurd (none-some c there)
beside (Var w) f zero c keeps there role up = absurd (serve_is_not_ask (role_is _ c there role))
beside (Var w) f (suc zero) c keeps there role up = absurd (serve_is_not_ask (role_is _ c there role))
beside (Var w) f (suc (suc h)) c keeps there role up = absurd (none-some c there)
beside (Pair a b) f h c (first, second, shut) there role up = by_test (nat_lt h (count a)) refl (beside a f h c first) (beside b (beyond (count a) f) (h - count a) c second)
  where
    at : slice_get (contacts_of a ++ contacts_of b) h ≡ Some c
    at = sym (ap (λ (cs : List Contact). slice_get cs h) (pairs_join a b).joined) ∙ there

    by_test : (t : Bool) → nat_lt h (count a) ≡ t → (slice_get (contacts_of a) h ≡ Some c → c.role ≡ Ask → f h ≡ true → Beside (count a) f h)
        → (slice_get (contacts_of b) (h - count a) ≡ Some c → c.role ≡ Ask → beyond (count a) f (h - count a) ≡ true → Beside (count b) (beyond (count a) f) (h - count a))
        → Beside (count (Pair a b)) f h
    by_test true test of_a of_b =
        let low : h < count a = grind (arith, nat_tests, test) in
        let (g, small, apart, open_g) = of_a (sym (same_in_front (contacts_of a) (contacts_of b) h low) ∙ at) role up in
        let sum = count_pair a b in
        (g, omega (arith, small, sum), apart, open_g)
    by_test false test of_a of_b =
        let high : count a + (h - count a) ≡ h = grind (arith, nat_tests, test) in
        let large : length (contacts_of a) < suc h = omega (arith, high) in
        let (g, small, apart, open_g) = of_b (sym (behind_at (contacts_of a) (contacts_of b) h (omega (arith, large))) ∙ at) role (ap f high ∙ up) in
        let sum = count_pair a b in
        (count a + g, omega (arith, small, sum), (λ same. apart (omega (arith, same))), open_g)
beside (Fun a b) f h c (first, second, leads) there role up = by_test (nat_lt h (count a)) refl (beside b (beyond (count a) f) (h - count a) c second)
  where
    at : slice_get (other_side (contacts_of a) ++ contacts_of b) h ≡ Some c
    at = sym (ap (λ (cs : List Contact). slice_get cs h) (functions_join a b).joined) ∙ there

    by_test : (t : Bool) → nat_lt h (count a) ≡ t
        → (slice_get (contacts_of b) (h - count a) ≡ Some c → c.role ≡ Ask → beyond (count a) f (h - count a) ≡ true → Beside (count b) (beyond (count a) f) (h - count a))
        → Beside (count (Fun a b)) f h
    by_test true test of_b =
        let low : h < count a = grind (arith, nat_tests, test) in
        let (g, small, open_g) = some_there (count b) (beyond (count a) f) (leads (there_some (count a) f h low up)) in
        let sum = count_fun a b in
        (count a + g, omega (arith, small, sum), (λ same. omega (arith, same, low)), open_g)
    by_test false test of_b =
        let high : count a + (h - count a) ≡ h = grind (arith, nat_tests, test) in
        let long = sides a b in
        let (g, small, apart, open_g) =
        of_b (ap (slice_get (contacts_of b)) (let e : h - count a ≡ h - length (other_side (contacts_of a)) = omega (arith, long) in e)
        ∙ (sym (behind_at (other_side (contacts_of a)) (contacts_of b) h (omega (arith, long, high))) ∙ at)) role (ap f high ∙ up) in
        let sum = count_fun a b in
        (count a + g, omega (arith, small, sum), (λ same. apart (omega (arith, same))), open_g)

-- one handshake has opened or closed
pub record Changed (n : ℕ) (f g : ℕ → Bool) (h : ℕ) (way : Direction) : Type 0 where
  pub low : h < n
  pub here : g h ≡ is_request way
  pub else_same : (k : ℕ) → k < n → (k ≡ h → ⊥) → g k ≡ f k

pub told_same : (m n : ℕ) → (m ≡ n) ⊎ (m ≡ n → ⊥)
told_same m n = by_test (nat_eq m n) refl
  where
    by_test : (b : Bool) → nat_eq m n ≡ b → (m ≡ n) ⊎ (m ≡ n → ⊥)
    by_test true t = inl (grind (arith, t))
    by_test false t = inr (λ same. grind (arith, t, same))

-- the holder's side: what was busy is
pub still_busy : (t : Type') (f g : ℕ → Bool) (h : ℕ) (c : Contact) (way : Direction) → Changed (count t) f g h way → slice_get (contacts_of t) h ≡ Some c
    → way_taken c.role ≡ way → KeepsTurnsOf t f → some_open (count t) f ≡ true → some_open (count t) g ≡ true
still_busy t f g h c way changed there is keeps busy = by_role c.role refl
  where
    by_role : (role : Role) → c.role ≡ role → some_open (count t) g ≡ true
    by_role Serve role = there_some (count t) g h changed.low (changed.here ∙ (ap is_request (sym is) ∙ ap (λ (x : Role). is_request (way_taken x)) role))
    by_role Ask role = of_open (some_there (count t) f busy)
      where
        of_open : (k : ℕ) × (k < count t) × (f k ≡ true) → some_open (count t) g ≡ true
        of_open (k, low, up) = by_told (told_same k h)
          where
            by_told : (k ≡ h) ⊎ (k ≡ h → ⊥) → some_open (count t) g ≡ true
            by_told (inr apart) = there_some (count t) g k low (changed.else_same k low apart ∙ up)
            by_told (inl same) =
                let (m, small, apart, open_m) = beside t f h c keeps there role (ap f (sym same) ∙ up) in
                there_some (count t) g m small (changed.else_same m small apart ∙ open_m)

-- the other side: what is busy was
pub was_busy : (t : Type') (f g : ℕ → Bool) (h : ℕ) (c : Contact) (way : Direction) → Changed (count t) f g h way → slice_get (contacts_of t) h ≡ Some c
    → way_put c.role ≡ way → KeepsTurnsOf t g → some_open (count t) g ≡ true → some_open (count t) f ≡ true
was_busy t f g h c way changed there is keeps busy = of_open (some_there (count t) g busy)
  where
    of_open : (k : ℕ) × (k < count t) × (g k ≡ true) → some_open (count t) f ≡ true
    of_open (k, low, up) = by_told (told_same k h)
      where
        by_role : k ≡ h → (role : Role) → c.role ≡ role → some_open (count t) f ≡ true
        by_role same Serve role =
            let never : true ≡ false =
            sym up ∙ (ap g same ∙ (changed.here ∙ (ap is_request (sym is) ∙ ap (λ (x : Role). is_request (way_put x)) role))) in absurd (cc never)
        by_role same Ask role =
            let (m, small, apart, open_m) = beside t g h c keeps there role (ap g (sym same) ∙ up) in
            there_some (count t) f m small (sym (changed.else_same m small apart) ∙ open_m)

        by_told : (k ≡ h) ⊎ (k ≡ h → ⊥) → some_open (count t) f ≡ true
        by_told (inr apart) = there_some (count t) f k low (sym (changed.else_same k low apart) ∙ up)
        by_told (inl same) = by_role same c.role refl
