-- What the cells of a handshake show, in the words of pulses of 0 or 1 and numbers that come with them.
--
-- Read first: Fast, Threaded; Shown of gos_share.
use Rattle.std.proofs.Common.{◌≡◌, ℕ, zero, suc, ◌+◌, ◌≤◌, ◌<◌, List, [], ◌∷◌, ◌++◌, refl, sym, ◌∙◌, ap, subst, arith, nat_eq, if◌then◌else◌}
use Rattle.std.specs.Prelude.{length, bit_and}
use Rattle.gos_types.specs.declared.shakes.Role.{Role}
use Rattle.gos_netlist.specs.Settling.{Numbers, at}
use Rattle.gos_plan.specs.Kinds.{Contact}
use Rattle.gos_plan.specs.Firing.{Token}
use Rattle.gos_plan.specs.Firings.{due, value_due}
use Rattle.gos_macro.specs.Gates.{Incoming, Outgoing, Settled, NetsShow, pulse_in}
use Rattle.gos_macro.specs.laws.AnyOrder.{EachShown}
use Rattle.gos_macro.specs.laws.Passing.{repeated}
use Rattle.gos_macro.specs.laws.SettledCells.{settled_both, settled_at}
use Rattle.gos_share.specs.Blocks.{outgoing, told_cells, told_size}
use Rattle.gos_share.specs.Share.{number_of}
use Rattle.gos_share.specs.laws.Answers.{Puts}
use Rattle.gos_share.specs.laws.Shown.{to_first, to_second, first_small, second_small, told_shown}
use Rattle.gos_fast_share.specs.Thread.{when, requests_before}
use Rattle.gos_fast_share.specs.Fast.{up_bits, down_bits, split_cells, split_size, block_cells, block_size, row_cells, source_outs, caller_out, caller_outs}
use Rattle.gos_fast_share.specs.laws.Threaded.{ThreadShows}

first_table : (m p : ℕ) → m ≤ 1 → (if nat_eq m 1 then 0 else p) ≡ to_first m p
first_table zero p small = refl
first_table (suc zero) p small = refl
first_table (suc (suc m)) p small = absurd (omega (arith, small))

second_table : (m p : ℕ) → m ≤ 1 → p ≤ 1 → bit_and p m ≡ to_second m p
second_table zero zero g h = refl
second_table zero (suc zero) g h = refl
second_table (suc zero) zero g h = refl
second_table (suc zero) (suc zero) g h = refl
second_table (suc (suc m)) p g h = absurd (omega (arith, g))
second_table m (suc (suc p)) g h = absurd (omega (arith, h))

gated : (p a : ℕ) → p ≤ 1 → (if nat_eq p 1 then a else 0) ≡ repeated p a
gated zero a h = refl
gated (suc zero) a h = omega arith
gated (suc (suc p)) a h = absurd (omega (arith, h))

-- what comes in from the source, by the branch m
pub split_shown : (w : ℕ) (i : Incoming) (j b n c m : ℕ) (x : ℕ → ℕ) (v regs after : Numbers) → at v c ≡ m → at v (b + 0) ≡ 0 → m ≤ 1
    → x j ≡ number_of w (at v (i.value j)) → at v (i.pulse j) ≤ 1 → Settled v regs after b n (split_cells w i j b n c)
    → NetsShow v (outgoing w (b + (n + 0)) (b + (n + 2))) (to_first m (at v (i.pulse j))) (repeated (to_first m (at v (i.pulse j))) (x j))
    × NetsShow v (outgoing w (b + (n + 1)) (b + (n + 3))) (to_second m (at v (i.pulse j))) (repeated (to_second m (at v (i.pulse j))) (x j))
split_shown zero i j b n c m x v regs after is none one number small settled =
    let p = at v (i.pulse j) in
    let c0 = settled_at v regs after b n (split_cells zero i j b n c) settled in
    let c1 = c0.2 in
    (c0.0 ∙ ((λ e. if nat_eq (is e) 1 then none e else p) ∙ first_table m p one), c1.0 ∙ (ap (bit_and p) is ∙ second_table m p one small))
split_shown (suc w) i j b n c m x v regs after is none one number small settled =
    let p = at v (i.pulse j) in
    let c0 = settled_at v regs after b n (split_cells (suc w) i j b n c) settled in
    let c1 = c0.2 in
    let c2 = c1.2 in
    let c3 = c2.2 in
    let to_one = c0.0 ∙ ((λ e. if nat_eq (is e) 1 then none e else p) ∙ first_table m p one) in
    let to_two = c1.0 ∙ (ap (bit_and p) is ∙ second_table m p one small) in (
      (to_one, c2.0 ∙ ((λ e. if nat_eq (to_one e) 1 then sym number e else 0) ∙ gated (to_first m p) (x j) (first_small m p small))),
      (to_two, c3.0 ∙ ((λ e. if nat_eq (to_two e) 1 then sym number e else 0) ∙ gated (to_second m p) (x j) (second_small m p small))),
    )

pub told_length : (w : ℕ) (i : Incoming) (h j b n : ℕ) → length (told_cells w i h j b n) ≡ told_size w
told_length zero i h j b n = refl
told_length (suc w) i h j b n = refl

pub block_length : (r : Role) (q a : ℕ) (i : Incoming) (h j b n c : ℕ) → length (block_cells r q a i h j b n c) ≡ block_size r q a
block_length r q a i h j b n c = by_bits (up_bits r q a) (down_bits r q a)
  where
    by_bits : (u d : ℕ) → length (told_cells u i h j b n ++ split_cells d i j b (n + told_size u) c) ≡ told_size u + split_size d
    by_bits zero zero = refl
    by_bits zero (suc d) = refl
    by_bits (suc u) zero = refl
    by_bits (suc u) (suc d) = refl

-- the numbers that come in at the three sides of a handshake
pub record NumbersCome (x a : ℕ → ℕ) (h : ℕ) (k : Contact) (j : ℕ) : Type 0 where
  pub source : x j ≡ number_of (down_bits k.role k.ask_bits k.answer_bits) (a j)
  pub first : x (h + j) ≡ number_of (up_bits k.role k.ask_bits k.answer_bits) (a (h + j))
  pub second : x (h + h + j) ≡ number_of (up_bits k.role k.ask_bits k.answer_bits) (a (h + h + j))

abbrev pub AllNumbersCome : (ℕ → ℕ) → (ℕ → ℕ) → ℕ → ℕ → List Contact → Type 0
AllNumbersCome x a h j [] = Unit {0}
AllNumbersCome x a h j (k ∷ ks) = NumbersCome x a h k j × AllNumbersCome x a h (suc j) ks

-- how many tokens are due at the three sides of a handshake, and with which sum, where its source's side finds the branch m
pub record AreDue (p x : ℕ → ℕ) (h j m : ℕ) (ts : List Token) : Type 0 where
  pub source : Puts j (p (h + j) + p (h + h + j)) (repeated (p (h + j)) (x (h + j)) + repeated (p (h + h + j)) (x (h + h + j))) ts
  pub first : Puts (h + j) (to_first m (p j)) (repeated (to_first m (p j)) (x j)) ts
  pub second : Puts (h + h + j) (to_second m (p j)) (repeated (to_second m (p j)) (x j)) ts

-- nets that show so much show what is due
abbrev ShownAlone : Numbers → Outgoing → List Token → ℕ → Type 0
ShownAlone v o ts d = due d ts ≤ 1 → NetsShow v o (due d ts) (value_due d ts)

as_due : (v : Numbers) (o : Outgoing) (ts : List Token) (d m a : ℕ) → Puts d m a ts → (m ≤ 1 → NetsShow v o m a) → ShownAlone v o ts d
as_due v o ts d m a puts shows alone =
    let one : m ≤ 1 = subst (λ (c : ℕ). c ≤ 1) puts.0 alone in
    subst (λ (c : ℕ). NetsShow v o c (value_due d ts)) (sym puts.0) (subst (λ (c : ℕ). NetsShow v o m c) (sym puts.1) (shows one))

-- what a block shows
pub record BlockShown (r : Role) (q a h j b n : ℕ) (v : Numbers) (ts : List Token) : Type 0 where
  pub source : ShownAlone v (outgoing (up_bits r q a) (b + (n + 0)) (b + (n + 2))) ts j
  pub first : ShownAlone v (caller_out 0 r q a b n) ts (h + j)
  pub second : ShownAlone v (caller_out 1 r q a b n) ts (h + h + j)

block_shown : (k : Contact) (i : Incoming) (h j b n c m : ℕ) (x : ℕ → ℕ) (v regs after : Numbers) (ts : List Token)
    → at v c ≡ m → at v (b + 0) ≡ 0 → m ≤ 1 → at v (i.pulse j) ≤ 1 → NumbersCome x (λ e. at v (i.value e)) h k j → AreDue (pulse_in v i) x h j m ts
    → Settled v regs after b n (block_cells k.role k.ask_bits k.answer_bits i h j b n c) → BlockShown k.role k.ask_bits k.answer_bits h j b n v ts
block_shown k i h j b n c m x v regs after ts is none one small numbers dues settled =
    let u = up_bits k.role k.ask_bits k.answer_bits in
    let d = down_bits k.role k.ask_bits k.answer_bits in
    let parts = settled_both v regs after b n (told_size u) (told_cells u i h j b n) (split_cells d i j b (n + told_size u) c) (told_length u i h j b n) settled in
    let split = split_shown d i j b (n + told_size u) c m x v regs after is none one numbers.source small parts.1 in
    record {
      source = as_due v (outgoing u (b + (n + 0)) (b + (n + 2))) ts j _ _ dues.source (λ alone. told_shown u i h j b n x v regs after numbers.first numbers.second alone parts.0);
      first = as_due v (caller_out 0 k.role k.ask_bits k.answer_bits b n) ts (h + j) _ _ dues.first (λ alone. split.0);
      second = as_due v (caller_out 1 k.role k.ask_bits k.answer_bits b n) ts (h + h + j) _ _ dues.second (λ alone. split.1);
    }

-- what the whole row shows, from handshake j on
pub record RowShown (h j f g b n : ℕ) (v : Numbers) (ts : List Token) (ls : List Contact) : Type 0 where
  pub source : EachShown v j (source_outs b n ls) ts
  pub first : EachShown v f (caller_outs 0 b n ls) ts
  pub second : EachShown v g (caller_outs 1 b n ls) ts

pub row_shown : (ks : List Contact) (order : List ℕ) (i : Incoming) (j f g b n m : ℕ) (x : ℕ → ℕ) (v regs after : Numbers) (ts : List Token) (ls : List Contact)
    → f ≡ length ks + j → g ≡ length ks + length ks + j → j + length ls ≤ length ks
    → at v (b + 0) ≡ 0 → ThreadShows ks (pulse_in v i) b 1 m v order
    → ((e : ℕ) → e < length ks + (length ks + length ks) → pulse_in v i e ≤ 1)
    → AllNumbersCome x (λ e. at v (i.value e)) (length ks) j ls
    → ((e : ℕ) → e < length ks → AreDue (pulse_in v i) x (length ks) e (when ks (pulse_in v i) e m order) ts)
    → Settled v regs after b n (row_cells ks order i j b n ls) → RowShown (length ks) j f g b n v ts ls
row_shown ks order i j f g b n m x v regs after ts [] at_first at_second within none thread pulses numbers dues settled =
    record { source = tt; first = tt; second = tt }
row_shown ks order i j f g b n m x v regs after ts (l ∷ ls) at_first at_second within none thread pulses numbers dues settled =
    let size = block_size l.role l.ask_bits l.answer_bits in
    let net = b + (1 + requests_before ks j order) in
    let block = block_cells l.role l.ask_bits l.answer_bits i (length ks) j b n net in
    let parts = settled_both v regs after b n size block (row_cells ks order i (suc j) b (n + size) ls)
    (block_length l.role l.ask_bits l.answer_bits i (length ks) j b n net) settled in
    let here = block_shown l i (length ks) j b n net (when ks (pulse_in v i) j m order) x v regs after ts (thread.each j) none (thread.each_small j)
    (pulses j (omega (arith, within))) numbers.0 (dues j (omega (arith, within))) parts.0 in
    let rest = row_shown ks order i (suc j) (suc f) (suc g) b (n + size) m x v regs after ts ls (omega (arith, at_first)) (omega (arith, at_second)) (omega (arith, within))
    none thread pulses numbers.1 dues parts.1 in
    record {
      source = (here.source, rest.source);
      first = (subst (λ (d : ℕ). ShownAlone v (caller_out 0 l.role l.ask_bits l.answer_bits b n) ts d) (sym at_first) here.first, rest.first);
      second = (subst (λ (d : ℕ). ShownAlone v (caller_out 1 l.role l.ask_bits l.answer_bits b n) ts d) (sym at_second) here.second, rest.second);
    }
