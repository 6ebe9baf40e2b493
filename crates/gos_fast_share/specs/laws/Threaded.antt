-- What the cells of the thread show: the branch behind each request.
--
-- Read first: Fast.
use Rattle.std.proofs.Common.{◌≡◌, ℕ, zero, suc, ◌+◌, ◌-◌, ◌≤◌, ◌<◌, Bool, true, false, List, [], ◌∷◌, refl, ◌∙◌, ap, subst, arith, nat_eq, if◌then◌else◌}
use Rattle.std.specs.Prelude.{length, bit_or, nat_lt}
use Rattle.gos_netlist.specs.Settling.{Numbers}
use Rattle.gos_netlist.specs.Settling as nets
use Rattle.gos_plan.specs.Kinds.{Contact}
use Rattle.gos_macro.specs.Gates.{Incoming, Settled, pulse_in}
use Rattle.gos_macro.specs.laws.SettledCells.{settled_both}
use Rattle.gos_fast_share.specs.Thread.{Asker, Nobody, Caller0, Caller1, asked_at, asker, set_by, set_at, behind, when, one_if_asks, requests, requests_before}
use Rattle.gos_fast_share.specs.Fast.{set_cells, thread_cells}

pub set_length : (a : Asker) (pulse b n : ℕ) → length (set_cells a pulse b n) ≡ one_if_asks a
set_length Nobody pulse b n = refl
set_length Caller0 pulse b n = refl
set_length Caller1 pulse b n = refl

-- who asks, asks at a handshake of the Share
asked_low : (ks : List Contact) (j : ℕ) → asked_at ks j ≡ true → j < length ks
asked_low [] j is = absurd (cc is)
asked_low (k ∷ ks) zero is = omega arith
asked_low (k ∷ ks) (suc j) is = let rest = asked_low ks j is in omega (arith, rest)

abbrev pub IsThere : List Contact → ℕ → Asker → Type 0
IsThere ks e Nobody = Unit {0}
IsThere ks e Caller0 = e < length ks + (length ks + length ks)
IsThere ks e Caller1 = e < length ks + (length ks + length ks)

pub asker_there : (ks : List Contact) (e : ℕ) → IsThere ks e (asker ks e)
asker_there ks e = by_tests (nat_lt e (length ks)) (nat_lt e (length ks + length ks)) refl refl (asked_at ks (e - length ks)) refl (asked_at ks (e - (length ks + length ks))) refl
  where
    by_tests : (a b : Bool) → nat_lt e (length ks) ≡ a → nat_lt e (length ks + length ks) ≡ b
        → (c : Bool) → asked_at ks (e - length ks) ≡ c → (d : Bool) → asked_at ks (e - (length ks + length ks)) ≡ d
        → IsThere ks e (if a then Nobody else (if b then (if c then Caller0 else Nobody) else (if d then Caller1 else Nobody)))
    by_tests true b f g c u d w = tt
    by_tests false true f g true u d w = let low : e < length ks + length ks = grind (arith, g) in omega (arith, low)
    by_tests false true f g false u d w = tt
    by_tests false false f g c u true w = let low = asked_low ks (e - (length ks + length ks)) w in omega (arith, low)
    by_tests false false f g c u false w = tt

-- the branch behind one request
set_shown : (a : Asker) (pulse b n m : ℕ) (v regs after : Numbers) → m ≤ 1 → (one_if_asks a ≡ 1 → nets.at v pulse ≤ 1) → nets.at v (b + 0) ≡ 0 → nets.at v (b + n) ≡ m
    → Settled v regs after b (suc n) (set_cells a pulse b n) → nets.at v (b + (n + one_if_asks a)) ≡ (if nat_eq (nets.at v pulse) 1 then set_by a m else m)
set_shown Nobody pulse b n m v regs after small one none is settled =
    let here : n ≡ n + 0 = omega arith in
    subst (λ (e : ℕ). nets.at v (b + e) ≡ (if nat_eq (nets.at v pulse) 1 then m else m)) here (is ∙ by_test (nat_eq (nets.at v pulse) 1))
  where
    by_test : (t : Bool) → m ≡ (if t then m else m)
    by_test true = refl
    by_test false = refl
set_shown Caller0 pulse b n m v regs after small one none is settled =
    let here : suc n ≡ n + 1 = omega arith in
    subst (λ (e : ℕ). nets.at v (b + e) ≡ (if nat_eq (nets.at v pulse) 1 then 0 else m)) here
    (settled.0 ∙ (λ i. if nat_eq (nets.at v pulse) 1 then none i else is i))
set_shown Caller1 pulse b n m v regs after small one none is settled =
    let here : suc n ≡ n + 1 = omega arith in
    subst (λ (e : ℕ). nets.at v (b + e) ≡ (if nat_eq (nets.at v pulse) 1 then 1 else m)) here
    (settled.0 ∙ (ap (λ (c : ℕ). bit_or c (nets.at v pulse)) is ∙ either m (nets.at v pulse) small (one refl)))
  where
    either : (c d : ℕ) → c ≤ 1 → d ≤ 1 → bit_or c d ≡ (if nat_eq d 1 then 1 else c)
    either zero zero f g = refl
    either zero (suc zero) f g = refl
    either (suc zero) zero f g = refl
    either (suc zero) (suc zero) f g = refl
    either (suc (suc c)) d f g = absurd (omega (arith, f))
    either c (suc (suc d)) f g = absurd (omega (arith, g))

set_small : (ks : List Contact) (p : ℕ → ℕ) (e n : ℕ) → n ≤ 1 → set_at ks p e n ≤ 1
set_small ks p e n small = by_test (nat_eq (p e) 1) (asker ks e)
  where
    by_test : (t : Bool) (a : Asker) → (if t then set_by a n else n) ≤ 1
    by_test true Nobody = small
    by_test true Caller0 = omega arith
    by_test true Caller1 = omega arith
    by_test false a = small

-- The net behind all requests shows the branch behind them, and the one that the block of handshake j uses shows the branch
-- that there is when its source's side comes.
pub record ThreadShows (ks : List Contact) (p : ℕ → ℕ) (b n m : ℕ) (v : Numbers) (es : List ℕ) : Type 0 where
  pub last : nets.at v (b + (n + requests ks es)) ≡ behind ks p m es
  pub each : (j : ℕ) → nets.at v (b + (n + requests_before ks j es)) ≡ when ks p j m es
  pub each_small : (j : ℕ) → when ks p j m es ≤ 1
  pub last_small : behind ks p m es ≤ 1

-- the pulse of a request is small, as all are
request_small : (ks : List Contact) (p : ℕ → ℕ) (e : ℕ) (a : Asker) → ((d : ℕ) → d < length ks + (length ks + length ks) → p d ≤ 1) → IsThere ks e a → one_if_asks a ≡ 1 → p e ≤ 1
request_small ks p e Nobody pulses there asks = absurd (omega (arith, asks))
request_small ks p e Caller0 pulses there asks = pulses e there
request_small ks p e Caller1 pulses there asks = pulses e there

-- one handshake more
thread_step : (ks : List Contact) (p : ℕ → ℕ) (b n m e : ℕ) (v : Numbers) (es : List ℕ) → m ≤ 1 → nets.at v (b + n) ≡ m
    → ThreadShows ks p b (n + one_if_asks (asker ks e)) (set_at ks p e m) v es → ThreadShows ks p b n m v (e ∷ es)
thread_step ks p b n m e v es small is rest =
    record {
      last = subst (λ (c : ℕ). nets.at v (b + c) ≡ behind ks p next es) further rest.last;
      each = λ j. by_test j (nat_eq e j);
      each_small = λ j. small_by j (nat_eq e j);
      last_small = rest.last_small;
    }
  where
    size : ℕ
    size = one_if_asks (asker ks e)

    next : ℕ
    next = set_at ks p e m

    further : n + size + requests ks es ≡ n + (size + requests ks es)
    further = omega arith

    by_test : (j : ℕ) (t : Bool) → nets.at v (b + (n + (if t then 0 else size + requests_before ks j es))) ≡ (if t then m else when ks p j next es)
    by_test j true = let here : n ≡ n + 0 = omega arith in subst (λ (c : ℕ). nets.at v (b + c) ≡ m) here is
    by_test j false =
        let there : n + size + requests_before ks j es ≡ n + (size + requests_before ks j es) = omega arith in
        subst (λ (c : ℕ). nets.at v (b + c) ≡ when ks p j next es) there (rest.each j)

    small_by : (j : ℕ) (t : Bool) → (if t then m else when ks p j next es) ≤ 1
    small_by j true = small
    small_by j false = rest.each_small j

pub thread_shows : (ks : List Contact) (i : Incoming) (b n m : ℕ) (v regs after : Numbers) (es : List ℕ) → m ≤ 1
    → ((e : ℕ) → e < length ks + (length ks + length ks) → pulse_in v i e ≤ 1) → nets.at v (b + 0) ≡ 0 → nets.at v (b + n) ≡ m
    → Settled v regs after b (suc n) (thread_cells ks i b n es) → ThreadShows ks (pulse_in v i) b n m v es
thread_shows ks i b n m v regs after [] small pulses none is settled =
    let here : n ≡ n + 0 = omega arith in
    let shown = subst (λ (e : ℕ). nets.at v (b + e) ≡ m) here is in
    record { last = shown; each = λ j. shown; each_small = λ j. small; last_small = small }
thread_shows ks i b n m v regs after (e ∷ es) small pulses none is settled =
    let who = asker ks e in
    let size = one_if_asks who in
    let next = set_at ks (pulse_in v i) e m in
    let here : suc n + size ≡ suc (n + size) = omega arith in
    let parts = settled_both v regs after b (suc n) size (set_cells who (i.pulse e) b n) (thread_cells ks i b (n + size) es) (set_length who (i.pulse e) b n) settled in
    let shown = set_shown who (i.pulse e) b n m v regs after small (request_small ks (pulse_in v i) e who pulses (asker_there ks e)) none is parts.0 in
    thread_step ks (pulse_in v i) b n m e v es small is
    (thread_shows ks i b (n + size) next v regs after es (set_small ks (pulse_in v i) e m small) pulses none shown
    (subst (λ (c : ℕ). Settled v regs after b c (thread_cells ks i b (n + size) es)) here parts.1))
