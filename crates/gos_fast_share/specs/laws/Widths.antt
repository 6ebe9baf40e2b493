-- The cells of a Share by order have the widths of their pins.
--
-- Read first: Fit of gos_macro; Named.
use Rattle.std.proofs.Common.{◌≡◌, ℕ, zero, suc, ◌+◌, ◌≤◌, ◌<◌, Bool, true, false, List, [], ◌∷◌, ◌++◌, Some, ◌∙◌, subst, arith}
use Rattle.std.specs.Prelude.{length, slice_get, nat_eq, if◌then◌else◌}
use Rattle.std.specs.List.{AllByRecursion}
use Rattle.std.proofs.lemmas.Option.{slice_get_within}
use Rattle.gos_types.specs.declared.widths.TheConstants.{GREATEST_WIDTH}
use Rattle.gos_types.specs.declared.shakes.Role.{Role}
use Rattle.gos_types.specs.declared.shakes.Role.TheVariants.{Serve, Ask}
use Rattle.gos_netcheck.specs.CellRules.{width_at, HasRightWidths}
use Rattle.gos_plan.specs.Kinds.{Contact, turned_contact}
use Rattle.gos_macro.specs.Gates.{Incoming, bits_in, incoming_bits}
use Rattle.gos_macro.specs.Fit.{BitsComeIn, HaveBits}
use Rattle.gos_macro.specs.laws.CellBits.{bits_at, bits_both, right_append}
use Rattle.gos_share.specs.Blocks.{told_cells, told_size}
use Rattle.gos_share.specs.laws.Slots.{bits_there}
use Rattle.gos_share.specs.laws.Comes.{sides, ArePlaced, all_placed}
use Rattle.gos_share.specs.laws.Widths.{AreNarrow}
use Rattle.gos_fast_share.specs.Thread.{Asker, Nobody, Caller0, Caller1, asker, one_if_asks, requests, requests_before}
use Rattle.gos_fast_share.specs.Fast.{set_cells, thread_cells, up_bits, down_bits, split_cells, block_size, row_cells, fast_cells}
use Rattle.gos_fast_share.specs.laws.Threaded.{set_length, IsThere, asker_there}
use Rattle.gos_fast_share.specs.laws.Shown.{told_length, block_length}
use Rattle.gos_fast_share.specs.laws.Keeping.{sides_length, thread_length, up_is, down_is}

-- the nets of a handshake have their bits
abbrev SideBits : List ℕ → Incoming → ℕ → ℕ → Type 0
SideBits bits i w e = (width_at bits (i.pulse e) ≡ 1) × (0 < w → width_at bits (i.value e) ≡ w)

side_bits : (contacts : List Contact) (i : Incoming) (bits : List ℕ) (w e : ℕ) (k : Contact) → BitsComeIn contacts i bits → slice_get contacts e ≡ Some k → bits_in k.role k ≡ w
    → SideBits bits i w e
side_bits contacts i bits w e k come there is =
    let known = come e (slice_get_within contacts e k there) in
    let same : incoming_bits contacts e ≡ w = bits_there e contacts k there ∙ is in
    (known.0, λ some. known.1 (omega (arith, some, same)) ∙ same)

told_right : (w : ℕ) (i : Incoming) (h j b n : ℕ) (bits : List ℕ) → w ≤ GREATEST_WIDTH → SideBits bits i w (h + j) → SideBits bits i w (h + h + j)
    → HaveBits bits b n (told_cells w i h j b n) → AllByRecursion (HasRightWidths bits) (told_cells w i h j b n)
told_right zero i h j b n bits narrow first second have = ((omega arith, omega arith, (first.0, second.0)), tt)
told_right (suc w) i h j b n bits narrow first second have =
    let own = bits_at bits b n (told_cells (suc w) i h j b n) have in
    let o1 = own.1 in
    let some : 1 ≤ suc w = omega arith in (
      (omega arith, omega arith, (first.0, second.0)),
      ((some, narrow, (second.0, second.1 (omega arith), first.1 (omega arith))), ((some, narrow, (own.0, o1.0)), tt)),
    )

split_right : (w : ℕ) (i : Incoming) (j b n c : ℕ) (bits : List ℕ) → w ≤ GREATEST_WIDTH → SideBits bits i w j → width_at bits (b + 0) ≡ 1 → width_at bits c ≡ 1
    → HaveBits bits b n (split_cells w i j b n c) → AllByRecursion (HasRightWidths bits) (split_cells w i j b n c)
split_right zero i j b n c bits narrow source none branch have =
    ((omega arith, omega arith, (branch, none, source.0)), ((omega arith, omega arith, (source.0, branch)), tt))
split_right (suc w) i j b n c bits narrow source none branch have =
    let own = bits_at bits b n (split_cells (suc w) i j b n c) have in
    let o1 = own.1 in
    let some : 1 ≤ suc w = omega arith in (
      (omega arith, omega arith, (branch, none, source.0)),
      (
        (omega arith, omega arith, (source.0, branch)),
        ((some, narrow, (own.0, source.1 (omega arith))), ((some, narrow, (o1.0, source.1 (omega arith))), tt)),
      ),
    )

-- the thread has one bit throughout
record ThreadBits (ks : List Contact) (i : Incoming) (b n : ℕ) (bits : List ℕ) (es : List ℕ) : Type 0 where
  pub right : AllByRecursion (HasRightWidths bits) (thread_cells ks i b n es)
  pub last : width_at bits (b + (n + requests ks es)) ≡ 1
  pub each : (j : ℕ) → width_at bits (b + (n + requests_before ks j es)) ≡ 1

set_right : (ks : List Contact) (i : Incoming) (b n e : ℕ) (bits : List ℕ) (a : Asker) → BitsComeIn (sides ks) i bits → IsThere ks e a
    → width_at bits (b + 0) ≡ 1 → width_at bits (b + n) ≡ 1 → HaveBits bits b (suc n) (set_cells a (i.pulse e) b n)
    → AllByRecursion (HasRightWidths bits) (set_cells a (i.pulse e) b n) × (width_at bits (b + (n + one_if_asks a)) ≡ 1)
set_right ks i b n e bits Nobody come there none branch have =
    let here : n ≡ n + 0 = omega arith in (tt, subst (λ (m : ℕ). width_at bits (b + m) ≡ 1) here branch)
set_right ks i b n e bits Caller0 come there none branch have =
    let here : suc n ≡ n + 1 = omega arith in
    let long = sides_length ks in
    let pulse = (come e (omega (arith, there, long))).0 in
    (((omega arith, omega arith, (pulse, none, branch)), tt), subst (λ (m : ℕ). width_at bits (b + m) ≡ 1) here have.0)
set_right ks i b n e bits Caller1 come there none branch have =
    let here : suc n ≡ n + 1 = omega arith in
    let long = sides_length ks in
    let pulse = (come e (omega (arith, there, long))).0 in
    (((omega arith, omega arith, (branch, pulse)), tt), subst (λ (m : ℕ). width_at bits (b + m) ≡ 1) here have.0)

thread_step : (ks : List Contact) (i : Incoming) (b n e : ℕ) (bits : List ℕ) (es : List ℕ) → width_at bits (b + n) ≡ 1
    → AllByRecursion (HasRightWidths bits) (set_cells (asker ks e) (i.pulse e) b n) → ThreadBits ks i b (n + one_if_asks (asker ks e)) bits es → ThreadBits ks i b n bits (e ∷ es)
thread_step ks i b n e bits es branch first rest =
    record {
      right = right_append bits (set_cells (asker ks e) (i.pulse e) b n) (thread_cells ks i b (n + size) es) first rest.right;
      last = subst (λ (m : ℕ). width_at bits (b + m) ≡ 1) further rest.last;
      each = λ j. by_test j (nat_eq e j);
    }
  where
    size : ℕ
    size = one_if_asks (asker ks e)

    further : n + size + requests ks es ≡ n + (size + requests ks es)
    further = omega arith

    by_test : (j : ℕ) (t : Bool) → width_at bits (b + (n + (if t then 0 else size + requests_before ks j es))) ≡ 1
    by_test j true = let here : n ≡ n + 0 = omega arith in subst (λ (m : ℕ). width_at bits (b + m) ≡ 1) here branch
    by_test j false =
        let there : n + size + requests_before ks j es ≡ n + (size + requests_before ks j es) = omega arith in
        subst (λ (m : ℕ). width_at bits (b + m) ≡ 1) there (rest.each j)

thread_right : (ks : List Contact) (i : Incoming) (b n : ℕ) (bits : List ℕ) (es : List ℕ) → BitsComeIn (sides ks) i bits → width_at bits (b + 0) ≡ 1
    → width_at bits (b + n) ≡ 1 → HaveBits bits b (suc n) (thread_cells ks i b n es) → ThreadBits ks i b n bits es
thread_right ks i b n bits [] come none branch have =
    let here : n ≡ n + 0 = omega arith in
    let same = subst (λ (m : ℕ). width_at bits (b + m) ≡ 1) here branch in
    record { right = tt; last = same; each = λ j. same }
thread_right ks i b n bits (e ∷ es) come none branch have =
    let who = asker ks e in
    let size = one_if_asks who in
    let here : suc n + size ≡ suc (n + size) = omega arith in
    let parts = bits_both bits b (suc n) size (set_cells who (i.pulse e) b n) (thread_cells ks i b (n + size) es) (set_length who (i.pulse e) b n) have in
    let first = set_right ks i b n e bits who come (asker_there ks e) none branch parts.0 in
    thread_step ks i b n e bits es branch first.0
    (thread_right ks i b (n + size) bits es come none first.1 (subst (λ (m : ℕ). HaveBits bits b m (thread_cells ks i b (n + size) es)) here parts.1))

narrow_bits : (r : Role) (q a : ℕ) → q ≤ GREATEST_WIDTH → a ≤ GREATEST_WIDTH → (up_bits r q a ≤ GREATEST_WIDTH) × (down_bits r q a ≤ GREATEST_WIDTH)
narrow_bits Serve q a asks answers = (asks, answers)
narrow_bits Ask q a asks answers = (answers, asks)

row_right : (ks : List Contact) (order : List ℕ) (i : Incoming) (j b n : ℕ) (bits : List ℕ) (ls : List Contact) → BitsComeIn (sides ks) i bits → ArePlaced ks j ls → AreNarrow ls
    → width_at bits (b + 0) ≡ 1 → ((e : ℕ) → width_at bits (b + (1 + requests_before ks e order)) ≡ 1)
    → HaveBits bits b n (row_cells ks order i j b n ls) → AllByRecursion (HasRightWidths bits) (row_cells ks order i j b n ls)
row_right ks order i j b n bits [] come placed narrow none branch have = tt
row_right ks order i j b n bits (l ∷ ls) come placed narrow none branch have =
    let q = l.ask_bits in
    let a = l.answer_bits in
    let h = length ks in
    let u = up_bits l.role q a in
    let d = down_bits l.role q a in
    let size = block_size l.role q a in
    let net = b + (1 + requests_before ks j order) in
    let told = told_cells u i h j b n in
    let split = split_cells d i j b (n + told_size u) net in
    let row = row_cells ks order i (suc j) b (n + size) ls in
    let parts = bits_both bits b n size (told ++ split) row (block_length l.role q a i h j b n net) have in
    let both = bits_both bits b n (told_size u) told split (told_length u i h j b n) parts.0 in
    let small = narrow_bits l.role q a narrow.0 narrow.1 in
    right_append bits (told ++ split) row
    (right_append bits told split
    (told_right u i h j b n bits small.0 (side_bits (sides ks) i bits u (h + j) l come placed.0.first (up_is l.role l))
    (side_bits (sides ks) i bits u (h + h + j) l come placed.0.second (up_is l.role l)) both.0)
    (split_right d i j b (n + told_size u) net bits small.1 (side_bits (sides ks) i bits d j (turned_contact l) come placed.0.source (down_is l.role l)) none (branch j) both.1))
    (row_right ks order i (suc j) b (n + size) bits ls come placed.1 narrow.2 none branch parts.1)

pub fast_right : (b : ℕ) (i : Incoming) (bits : List ℕ) (ks : List Contact) (order : List ℕ) → AreNarrow ks → BitsComeIn (sides ks) i bits → HaveBits bits b 0 (fast_cells ks order b i)
    → AllByRecursion (HasRightWidths bits) (fast_cells ks order b i)
fast_right b i bits ks order narrow come (w0, (w1, rest)) =
    let row = row_cells ks order i 0 b (2 + requests ks order) ks in
    let parts = bits_both bits b 2 (requests ks order) (thread_cells ks i b 1 order) row (thread_length ks i b 1 order) rest in
    let thread = thread_right ks i b 1 bits order come w0 w1 parts.0 in (
      (omega arith, omega arith, omega arith),
      (
        (omega arith, omega arith, thread.last),
        right_append bits (thread_cells ks i b 1 order) row thread.right
            (row_right ks order i 0 b (2 + requests ks order) bits ks come (all_placed ks) narrow w0 thread.each parts.1),
      ),
    )
