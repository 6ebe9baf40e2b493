-- How many tokens registers hold for each handshake, and with which numbers.
--
-- Read first: Share, Answers.
use Rattle.std.proofs.Common.{◌≡◌, inl, inr, ◌⊎◌, ℕ, zero, suc, ◌+◌, ◌≤◌, Bool, true, false, List, [], ◌∷◌, ◌++◌, refl, arith}
use Rattle.std.specs.Prelude.{◌≢◌, ◌<◌, length, nat_eq, if◌then◌else◌}
use Rattle.gos_types.specs.declared.shakes.Role.{Role}
use Rattle.gos_types.specs.declared.shakes.Role.TheVariants.{Serve, Ask}
use Rattle.gos_netlist.specs.Settling.{Numbers, at}
use Rattle.gos_plan.specs.Kinds.{Contact}
use Rattle.gos_plan.specs.Firing.{Req, Token}
use Rattle.gos_macro.specs.laws.Passing.{repeated, due_append, value_append}
use Rattle.gos_share.specs.Blocks.{block_size}
use Rattle.gos_share.specs.Share.{number_of, held_number, block_pending, row_pending, BlockHolds, RowHolds}
use Rattle.gos_share.specs.laws.Answers.{Puts, no_test}

-- tokens with others that are put elsewhere, ahead of them and behind them
pub puts_behind : (d m a : ℕ) (ts us : List Token) → Puts d 0 0 ts → Puts d m a us → Puts d m a (ts ++ us)
puts_behind d m a ts us none some =
    let dues = due_append d ts us in
    let values = value_append d ts us in
    let n0 = none.0 in
    let n1 = none.1 in
    let s0 = some.0 in
    let s1 = some.1 in
    (omega (arith, dues, n0, s0), omega (arith, values, n1, s1))

pub puts_before : (d m a : ℕ) (ts us : List Token) → Puts d m a ts → Puts d 0 0 us → Puts d m a (ts ++ us)
puts_before d m a ts us some none =
    let dues = due_append d ts us in
    let values = value_append d ts us in
    let n0 = none.0 in
    let n1 = none.1 in
    let s0 = some.0 in
    let s1 = some.1 in
    (omega (arith, dues, n0, s0), omega (arith, values, n1, s1))

-- what a register holds: at its handshake, and at another one
held_there : (w d m a : ℕ) → m ≤ 1 → Puts d m (repeated m (number_of w a)) (held_number w (Req d) m a)
held_there w d zero a small = (refl, refl)
held_there w d (suc zero) a small = rw (same d) (refl, refl)
  where
    same : (e : ℕ) → nat_eq e e ≡ true
    same e = grind arith
held_there w d (suc (suc m)) a small = absurd (omega (arith, small))

held_elsewhere : (w e d m a : ℕ) → e ≢ d → Puts d 0 0 (held_number w (Req e) m a)
held_elsewhere w e d m a apart = by_test (nat_eq m 1)
  where
    by_test : (t : Bool) → Puts d 0 0 (if t then record { slot = Req e; value = number_of w a } ∷ [] else [])
    by_test true = rw (no_test e d apart) (refl, refl)
    by_test false = (refl, refl)

-- a handshake that is none of the three sides of m
abbrev pub Apart : ℕ → ℕ → ℕ → Type 0
Apart h d m = (m ≢ d) × (h + m ≢ d) × (h + h + m ≢ d)

block_elsewhere : (r : Role) (q h j b n d : ℕ) (regs : Numbers) → Apart h d j → Puts d 0 0 (block_pending r q h j b n regs)
block_elsewhere Serve q h j b n d regs apart = held_elsewhere q j d (at regs (b + (n + 2 + 1))) (at regs (b + (n + 2 + 3))) apart.0
block_elsewhere Ask q h j b n d regs apart =
    puts_behind d 0 0 (held_number q (Req (h + j)) (at regs (b + (n + 2))) (at regs (b + (n + 4)))) (held_number q (Req (h + h + j)) (at regs (b + (n + 3))) (at regs (b + (n + 4))))
    (held_elsewhere q (h + j) d (at regs (b + (n + 2))) (at regs (b + (n + 4))) apart.1)
    (held_elsewhere q (h + h + j) d (at regs (b + (n + 3))) (at regs (b + (n + 4))) apart.2)

row_elsewhere : (h j b n d : ℕ) (regs : Numbers) (ks : List Contact) → j + length ks ≤ h → ((m : ℕ) → j ≤ m → m < h → Apart h d m)
    → Puts d 0 0 (row_pending h j b n regs ks)
row_elsewhere h j b n d regs [] within apart = (refl, refl)
row_elsewhere h j b n d regs (k ∷ ks) within apart =
    let size = block_size k.role k.ask_bits k.answer_bits in
    puts_behind d 0 0 (block_pending k.role k.ask_bits h j b n regs) (row_pending h (suc j) b (n + size) regs ks)
    (block_elsewhere k.role k.ask_bits h j b n d regs (apart j (omega arith) (omega (arith, within))))
    (row_elsewhere h (suc j) b (n + size) d regs ks (omega (arith, within)) (λ m low high. apart m (omega (arith, low)) high))

-- what is put at the three sides of a handshake
abbrev pub BlockPuts : Role → ℕ → ℕ → ℕ → ℕ → ℕ → Numbers → List Token → Type 0
BlockPuts Serve q h j b n regs ts =
    Puts j (at regs (b + (n + 2 + 1))) (repeated (at regs (b + (n + 2 + 1))) (number_of q (at regs (b + (n + 2 + 3))))) ts
    × Puts (h + j) 0 0 ts
    × Puts (h + h + j) 0 0 ts
BlockPuts Ask q h j b n regs ts =
    Puts j 0 0 ts
    × Puts (h + j) (at regs (b + (n + 2))) (repeated (at regs (b + (n + 2))) (number_of q (at regs (b + (n + 4))))) ts
    × Puts (h + h + j) (at regs (b + (n + 3))) (repeated (at regs (b + (n + 3))) (number_of q (at regs (b + (n + 4))))) ts

abbrev pub RowPuts : ℕ → ℕ → ℕ → ℕ → Numbers → List Token → List Contact → Type 0
RowPuts h j b n regs ts [] = Unit {0}
RowPuts h j b n regs ts (k ∷ ks) =
    BlockPuts k.role k.ask_bits h j b n regs ts × RowPuts h (suc j) b (n + block_size k.role k.ask_bits k.answer_bits) regs ts ks

block_puts : (r : Role) (q h j b n : ℕ) (regs : Numbers) → j < h → BlockHolds r b n regs → BlockPuts r q h j b n regs (block_pending r q h j b n regs)
block_puts Serve q h j b n regs low holds = (
  held_there q j (at regs (b + (n + 2 + 1))) (at regs (b + (n + 2 + 3))) holds,
  held_elsewhere q j (h + j) (at regs (b + (n + 2 + 1))) (at regs (b + (n + 2 + 3))) (λ f. omega (arith, f, low)),
  held_elsewhere q j (h + h + j) (at regs (b + (n + 2 + 1))) (at regs (b + (n + 2 + 3))) (λ f. omega (arith, f, low)),
)
block_puts Ask q h j b n regs low holds =
    let r0 = at regs (b + (n + 2)) in
    let r1 = at regs (b + (n + 3)) in
    let a = at regs (b + (n + 4)) in
    let first = held_number q (Req (h + j)) r0 a in
    let second = held_number q (Req (h + h + j)) r1 a in (
      puts_behind j 0 0 first second (held_elsewhere q (h + j) j r0 a (λ f. omega (arith, f, low))) (held_elsewhere q (h + h + j) j r1 a (λ f. omega (arith, f, low))),
      puts_before (h + j) r0 (repeated r0 (number_of q a)) first second (held_there q (h + j) r0 a holds.0) (held_elsewhere q (h + h + j) (h + j) r1 a (λ f. omega (arith, f, low))),
      puts_behind (h + h + j) r1 (repeated r1 (number_of q a)) first second (held_elsewhere q (h + j) (h + h + j) r0 a (λ f. omega (arith, f, low))) (held_there q (h + h + j) r1 a holds.1),
    )

-- a handshake on one side, of those from j on
abbrev InRest : ℕ → ℕ → ℕ → Type 0
InRest h j d = ((j ≤ d) × (d < h)) ⊎ (((h + j ≤ d) × (d < h + h)) ⊎ (h + h + j ≤ d))

rest_apart : (h j d : ℕ) → j < h → InRest h (suc j) d → Apart h d j
rest_apart h j d low (inl (above, below)) = ((λ f. omega (arith, f, above)), (λ f. omega (arith, f, below)), (λ f. omega (arith, f, below)))
rest_apart h j d low (inr (inl (above, below))) = ((λ f. omega (arith, f, above, low)), (λ f. omega (arith, f, above)), (λ f. omega (arith, f, below)))
rest_apart h j d low (inr (inr above)) = ((λ f. omega (arith, f, above, low)), (λ f. omega (arith, f, above, low)), (λ f. omega (arith, f, above)))

rest_less : (h j d : ℕ) → InRest h (suc j) d → InRest h j d
rest_less h j d (inl (above, below)) = inl (omega (arith, above), below)
rest_less h j d (inr (inl (above, below))) = inr (inl (omega (arith, above), below))
rest_less h j d (inr (inr above)) = inr (inr (omega (arith, above)))

-- what those from j on put is what all put there
lifted : (r : Role) (q h j b n : ℕ) (regs : Numbers) (ts us : List Token) → ((d m a : ℕ) → InRest h j d → Puts d m a ts → Puts d m a us) → j < h
    → BlockPuts r q h j b n regs ts → BlockPuts r q h j b n regs us
lifted Serve q h j b n regs ts us all low puts = (
  all j _ _ (inl (omega arith, low)) puts.0,
  all (h + j) 0 0 (inr (inl (omega arith, omega (arith, low)))) puts.1,
  all (h + h + j) 0 0 (inr (inr (omega arith))) puts.2,
)
lifted Ask q h j b n regs ts us all low puts = (
  all j 0 0 (inl (omega arith, low)) puts.0,
  all (h + j) _ _ (inr (inl (omega arith, omega (arith, low)))) puts.1,
  all (h + h + j) _ _ (inr (inr (omega arith))) puts.2,
)

with_rest : (r : Role) (q h j b n : ℕ) (regs : Numbers) (ts us : List Token) → Puts j 0 0 us → Puts (h + j) 0 0 us → Puts (h + h + j) 0 0 us
    → BlockPuts r q h j b n regs ts → BlockPuts r q h j b n regs (ts ++ us)
with_rest Serve q h j b n regs ts us one two three puts = (
  puts_before j _ _ ts us puts.0 one,
  puts_before (h + j) 0 0 ts us puts.1 two,
  puts_before (h + h + j) 0 0 ts us puts.2 three,
)
with_rest Ask q h j b n regs ts us one two three puts = (
  puts_before j 0 0 ts us puts.0 one,
  puts_before (h + j) _ _ ts us puts.1 two,
  puts_before (h + h + j) _ _ ts us puts.2 three,
)

pub row_puts : (h j b n : ℕ) (regs : Numbers) (us : List Token) (ks : List Contact) → j + length ks ≤ h → RowHolds b n regs ks
    → ((d m a : ℕ) → InRest h j d → Puts d m a (row_pending h j b n regs ks) → Puts d m a us) → RowPuts h j b n regs us ks
row_puts h j b n regs us [] within holds all = tt
row_puts h j b n regs us (k ∷ ks) within holds all =
    let size = block_size k.role k.ask_bits k.answer_bits in
    let low : j < h = omega (arith, within) in
    let rest = row_pending h (suc j) b (n + size) regs ks in
    let block = block_pending k.role k.ask_bits h j b n regs in
    let none : (d : ℕ) → ((m : ℕ) → suc j ≤ m → m < h → Apart h d m) → Puts d 0 0 rest = λ d. row_elsewhere h (suc j) b (n + size) d regs ks (omega (arith, within)) in
    let here = with_rest k.role k.ask_bits h j b n regs block rest
    (none j (λ m above below. ((λ f. omega (arith, f, above)), (λ f. omega (arith, f, low)), (λ f. omega (arith, f, low)))))
    (none (h + j) (λ m above below. ((λ f. omega (arith, f, below)), (λ f. omega (arith, f, above)), (λ f. omega (arith, f, low)))))
    (none (h + h + j) (λ m above below. ((λ f. omega (arith, f, below)), (λ f. omega (arith, f, below)), (λ f. omega (arith, f, above)))))
    (block_puts k.role k.ask_bits h j b n regs low holds.0) in (
      lifted k.role k.ask_bits h j b n regs (block ++ rest) us all low here,
      row_puts h (suc j) b (n + size) regs us ks (omega (arith, within)) holds.1
          (λ d m a there puts. all d m a (rest_less h j d there) (puts_behind d m a block rest (block_elsewhere k.role k.ask_bits h j b n d regs (rest_apart h j d low there)) puts)),
    )

pub all_puts : (b : ℕ) (regs : Numbers) (ks : List Contact) → RowHolds b 3 regs ks → RowPuts (length ks) 0 b 3 regs (row_pending (length ks) 0 b 3 regs ks) ks
all_puts b regs ks holds = row_puts (length ks) 0 b 3 regs (row_pending (length ks) 0 b 3 regs ks) ks (omega arith) holds (λ d m a there puts. puts)
