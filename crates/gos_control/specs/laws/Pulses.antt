-- What gates show, for pulses of 0 or 1.
--
-- Read first: Passing.
use Rattle.std.proofs.Common.{◌≡◌, ℕ, zero, suc, ◌+◌, ◌≤◌, Bool, true, false, List, ◌++◌, refl, sym, ap, subst, arith}
use Rattle.std.specs.Prelude.{◌-◌, ◌<◌, nat_eq, if◌then◌else◌, bit_or, bit_and}
use Rattle.std.proofs.lemmas.Nat.{le_or_l, le_or_r}
use Rattle.gos_plan.specs.Firing.{Req, Token}
use Rattle.gos_macro.specs.Gates.{held}
use Rattle.gos_plan.specs.Firings.{due}
use Rattle.gos_macro.specs.laws.Passing.{repeated, due_behind}

-- what is due with a request that a register holds: at handshake 0, and beside it
pub due_with_request : (m : ℕ) (ts : List Token) → m ≤ 1 → due 0 (held (Req 0) m ++ ts) ≡ m + due 0 ts
due_with_request m ts small = due_behind 0 (Req 0) m ts small

pub due_beside_request : (j m : ℕ) (ts : List Token) → m ≤ 1 → due (suc j) (held (Req 0) m ++ ts) ≡ due (suc j) ts
due_beside_request j m ts small = let behind = due_behind (suc j) (Req 0) m ts small in grind (arith, behind)

-- what goes out by a test t with the pulse p, to each of two sides
pub test_table : (p t : ℕ) → p ≤ 1 → t < 2 → (bit_and p t ≡ (if nat_eq t 1 then p else 0)) × (bit_and p (1 - t) ≡ (if nat_eq t 1 then 0 else p))
test_table zero zero h k = (refl, refl)
test_table zero (suc zero) h k = (refl, refl)
test_table (suc zero) zero h k = (refl, refl)
test_table (suc zero) (suc zero) h k = (refl, refl)
test_table (suc (suc p)) t h k = absurd (omega (arith, h))
test_table p (suc (suc t)) h k = absurd (omega (arith, k))

-- nothing goes to either side without a pulse
pub to_no_side : (t : Bool) (p : ℕ) → p ≡ 0 → (0 ≡ (if t then p else 0)) × (0 ≡ (if t then 0 else p))
to_no_side true p h = (sym h, refl)
to_no_side false p h = (refl, sym h)

-- one more on the side of a test
pub one_more : (t : Bool) (d m : ℕ) → d ≡ (if t then m else 0) → (if t then suc d else d) ≡ (if t then suc m else 0)
one_more true d m h = ap suc h
one_more false d m h = h

pub one_less : (t : Bool) (d m : ℕ) → d ≡ (if t then 0 else m) → (if t then d else suc d) ≡ (if t then 0 else suc m)
one_less true d m h = h
one_less false d m h = ap suc h

-- of two pulses at most one comes
pub or_table : (p q : ℕ) → p + q ≤ 1 → bit_or p q ≡ p + q
or_table zero zero h = refl
or_table zero (suc zero) h = refl
or_table (suc zero) zero h = refl
or_table (suc zero) (suc q) h = absurd (omega (arith, h))
or_table (suc (suc p)) q h = absurd (omega (arith, h))
or_table p (suc (suc q)) h = absurd (omega (arith, h))

-- the value that comes with one of two pulses
pub joined : (p q a b : ℕ) → p + q ≤ 1 → repeated p a + repeated q b ≡ (if nat_eq q 1 then b else (if nat_eq p 1 then a else 0))
joined zero zero a b h = omega arith
joined zero (suc zero) a b h = omega arith
joined (suc zero) zero a b h = omega arith
joined (suc zero) (suc q) a b h = absurd (omega (arith, h))
joined (suc (suc p)) q a b h = absurd (omega (arith, h))
joined p (suc (suc q)) a b h = absurd (omega (arith, h))

-- where neither of two pulses comes, nothing goes out by their Or
pub neither : (p q : ℕ) → bit_or p q ≡ 0 → (p ≡ 0) × (q ≡ 0)
neither p q none =
    let left = le_or_l p q in
    let right = le_or_r p q in
    (omega (arith, none, left), omega (arith, none, right))

-- a number that is chosen by a pulse is not chosen without it
pub passed_over : (p a c : ℕ) → p ≡ 0 → (if nat_eq p 1 then a else c) ≡ c
passed_over p a c none = subst (λ (q : ℕ). (if nat_eq q 1 then a else c) ≡ c) (sym none) refl
