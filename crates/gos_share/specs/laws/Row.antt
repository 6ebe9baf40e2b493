-- What the whole row of blocks shows, keeps, and makes of the branch.
--
-- Read first: Shown, Comes, Pending, Requests.
use Rattle.std.proofs.Common.{◌≡◌, inl, inr, ◌⊎◌, ℕ, zero, suc, ◌+◌, ◌*◌, ◌≤◌, Bool, true, false, List, [], ◌∷◌, ◌++◌, refl, sym, ◌∙◌, ap, subst, arith}
use Rattle.std.specs.Prelude.{◌-◌, ◌<◌, length, nat_eq, if◌then◌else◌, bit_or}
use Rattle.gos_types.specs.declared.shakes.Role.{Role}
use Rattle.gos_types.specs.declared.shakes.Role.TheVariants.{Serve, Ask}
use Rattle.gos_types.specs.Handshakes.{turned}
use Rattle.gos_netlist.specs.Settling.{Numbers, at}
use Rattle.gos_plan.specs.Kinds.{Contact, other_side}
use Rattle.gos_plan.specs.Firing.{Slot, Ans, Token}
use Rattle.gos_macro.specs.Gates.{Incoming, Outgoing, Settled, NetsShow, Shows, SameTokens, pulse_in}
use Rattle.gos_plan.specs.Firings.{due, value_due, times}
use Rattle.gos_macro.specs.laws.Passing.{repeated, due_append, value_append}
use Rattle.gos_share.specs.Blocks.{asked_cells, asked_size, answered_cells, sent_cells, sent_size, told_cells, branch_cells, block_cells, block_size, kept_net, source_out, caller_out}
use Rattle.gos_share.specs.Share.{place_behind, row_cells, source_outs, caller_outs, block_pending, row_pending, BlockHolds, RowHolds}
use Rattle.gos_share.specs.laws.Answers.{Puts}
use Rattle.gos_share.specs.laws.Requests.{passed_at, passed, branch_at, branch_behind}
use Rattle.gos_macro.specs.laws.SettledCells.{settled_both, settled_at}
use Rattle.gos_share.specs.laws.Shown.{to_first, to_second, first_small, second_small, asked_shown, answered_shown, sent_shown, told_shown}
use Rattle.gos_share.specs.laws.Comes.{in_bits, Comes, AllCome}
use Rattle.gos_share.specs.laws.Pending.{puts_before, puts_behind, BlockPuts, RowPuts}

-- how many cells there are
pub asked_length : (w : ℕ) (i : Incoming) (h j b n : ℕ) → length (asked_cells w i h j b n) ≡ asked_size w
asked_length zero i h j b n = refl
asked_length (suc w) i h j b n = refl

pub sent_length : (w : ℕ) (i : Incoming) (j b n : ℕ) → length (sent_cells w i j b n) ≡ sent_size w
sent_length zero i j b n = refl
sent_length (suc w) i j b n = refl

pub block_length : (r : Role) (q a : ℕ) (i : Incoming) (h j b n c d : ℕ) → length (block_cells r q a i h j b n c d) ≡ block_size r q a
block_length Serve zero zero i h j b n c d = refl
block_length Serve zero (suc a) i h j b n c d = refl
block_length Serve (suc q) zero i h j b n c d = refl
block_length Serve (suc q) (suc a) i h j b n c d = refl
block_length Ask zero zero i h j b n c d = refl
block_length Ask zero (suc a) i h j b n c d = refl
block_length Ask (suc q) zero i h j b n c d = refl
block_length Ask (suc q) (suc a) i h j b n c d = refl

-- a net shows the tokens of its handshake, of which there is at most one
abbrev pub ShowsAt : Numbers → ℕ → Outgoing → List Token → Type 0
ShowsAt v d o ts = (due d ts ≤ 1) × NetsShow v o (due d ts) (value_due d ts)

shows_at : (v : Numbers) (d m a : ℕ) (o : Outgoing) (ts : List Token) → m ≤ 1 → Puts d m a ts → NetsShow v o m a → ShowsAt v d o ts
shows_at v d m a o ts small puts shows =
    (subst (λ (c : ℕ). c ≤ 1) (sym puts.0) small, subst (λ (c : ℕ). NetsShow v o c (value_due d ts)) (sym puts.0) (subst (λ (c : ℕ). NetsShow v o m c) (sym puts.1) shows))

-- what the early firings put, in the branch n
pub record Early (h n : ℕ) (x : ℕ → ℕ) (fs : List Slot) (ts : List Token) : Type 0 where
  pub first : (j : ℕ) → j < h → Puts (h + j) (to_first n (times (Ans j) fs)) (repeated (to_first n (times (Ans j) fs)) (x j)) ts
  pub second : (j : ℕ) → j < h → Puts (h + h + j) (to_second n (times (Ans j) fs)) (repeated (to_second n (times (Ans j) fs)) (x j)) ts
  pub source : (j : ℕ) → j < h → Puts j (times (Ans (h + j)) fs + times (Ans (h + h + j)) fs) (repeated (times (Ans (h + j)) fs) (x (h + j)) + repeated (times (Ans (h + h + j)) fs) (x (h + h + j))) ts
  pub one_side : (j : ℕ) → j < h → (times (Ans (h + j)) fs ≡ 0) ⊎ (times (Ans (h + h + j)) fs ≡ 0)

-- at most one caller asks at each handshake
abbrev pub OneAsks : Role → (ℕ → ℕ) → ℕ → ℕ → Type 0
OneAsks Serve p h j = p (h + j) + p (h + h + j) ≤ 1
OneAsks Ask p h j = Unit {0}

abbrev pub AllOneAsk : (ℕ → ℕ) → ℕ → ℕ → List Contact → Type 0
AllOneAsk p h j [] = Unit {0}
AllOneAsk p h j (k ∷ ks) = OneAsks k.role p h j × AllOneAsk p h (suc j) ks

-- what a block shows of these tokens, and keeps
pub record BlockShown (r : Role) (q a : ℕ) (h j b n k : ℕ) (p x : ℕ → ℕ) (v after : Numbers) (ts : List Token) : Type 0 where
  pub source : ShowsAt v j (source_out r q a b n) ts
  pub first : ShowsAt v (h + j) (caller_out 0 r q a b n) ts
  pub second : ShowsAt v (h + h + j) (caller_out 1 r q a b n) ts
  pub pending :
      block_pending r q h j b n after
      ≡ passed_at (turned r) (p j) (x j) (h + k * h + j) ++ (passed_at r (p (h + j)) (x (h + j)) j ++ passed_at r (p (h + h + j)) (x (h + h + j)) j)
  pub holds : BlockHolds r b n after

end_nil : (ts : List Token) → ts ++ [] ≡ ts
end_nil [] = refl
end_nil (t ∷ ts) = ap (λ (us : List Token). t ∷ us) (end_nil ts)

none_puts : (d m : ℕ) (y : ℕ) (ts : List Token) → m ≡ 0 → Puts d m (repeated m y) ts → Puts d 0 0 ts
none_puts d m y ts none puts = (puts.0 ∙ none, puts.1 ∙ ap (λ (c : ℕ). repeated c y) none)

neither_puts : (d m l y z : ℕ) (ts : List Token) → m ≡ 0 → l ≡ 0 → Puts d (m + l) (repeated m y + repeated l z) ts → Puts d 0 0 ts
neither_puts d m l y z ts none no_other puts =
    let p0 = puts.0 in
    let v0 : repeated m y ≡ 0 = ap (λ (c : ℕ). repeated c y) none in
    let v1 : repeated l z ≡ 0 = ap (λ (c : ℕ). repeated c z) no_other in
    let p1 = puts.1 in
    (omega (arith, p0, none, no_other), omega (arith, p1, v0, v1))

first_none : (n m : ℕ) → m ≡ 0 → to_first n m ≡ 0
first_none zero m none = none
first_none (suc n) m none = refl

second_none : (n m : ℕ) → m ≡ 0 → to_second n m ≡ 0
second_none zero m none = refl
second_none (suc n) m none = none

pub block_shown : (r : Role) (q a : ℕ) (i : Incoming) (h j b n c d k : ℕ) (x : ℕ → ℕ) (v regs after : Numbers) (fs : List Slot) (held ts : List Token)
    → at v (b + 0) ≡ k → at v (b + 1) ≡ 1 - k → k ≤ 1 → Early h k x fs ts → j < h
    → Comes (pulse_in v i) x (λ e. at v (i.value e)) fs (turned r) (in_bits (turned r) q a) j
    → Comes (pulse_in v i) x (λ e. at v (i.value e)) fs r (in_bits r q a) (h + j)
    → Comes (pulse_in v i) x (λ e. at v (i.value e)) fs r (in_bits r q a) (h + h + j)
    → OneAsks r (pulse_in v i) h j → BlockHolds r b n regs → BlockPuts r q h j b n regs held
    → Settled v regs after b n (block_cells r q a i h j b n c d) → BlockShown r q a h j b n k (pulse_in v i) x v after (held ++ ts)
block_shown Serve q a i h j b n c d k x v regs after fs held ts is isn't small early low source first second one holds puts settled =
    let p : ℕ → ℕ = pulse_in v i in
    let parts = settled_both v regs after b n 2 (branch_cells i h j b c d) (asked_cells q i h j b (n + 2) ++ answered_cells a i j b (n + 2 + asked_size q)) refl settled in
    let both = settled_both v regs after b (n + 2) (asked_size q) (asked_cells q i h j b (n + 2)) (answered_cells a i j b (n + 2 + asked_size q)) (asked_length q i h j b (n + 2)) parts.1 in
    let asked = asked_shown q i h j b (n + 2) x v regs after first.number second.number one holds both.0 in
    let answered = answered_shown a i j b (n + 2 + asked_size q) k x v regs after is isn't small source.number source.pulse both.1 in
    let taken = source.taken in
    record {
      source = shows_at v j _ _ (source_out Serve q a b n) (held ++ ts) holds (puts_before j _ _ held ts puts.0 (neither_puts j _ _ (x (h + j)) (x (h + h + j)) ts first.taken second.taken (early.source j low))) asked.shows;
      first = shows_at v (h + j) (to_first k (p j)) (repeated (to_first k (p j)) (x j)) (caller_out 0 Serve q a b n) (held ++ ts) (first_small k (p j) source.pulse)
          (puts_behind (h + j) _ _ held ts puts.1 (subst (λ (m : ℕ). Puts (h + j) (to_first k m) (repeated (to_first k m) (x j)) ts) taken (early.first j low))) answered.0;
      second = shows_at v (h + h + j) (to_second k (p j)) (repeated (to_second k (p j)) (x j)) (caller_out 1 Serve q a b n) (held ++ ts) (second_small k (p j) source.pulse)
          (puts_behind (h + h + j) _ _ held ts puts.2 (subst (λ (m : ℕ). Puts (h + h + j) (to_second k m) (repeated (to_second k m) (x j)) ts) taken (early.second j low))) answered.1;
      pending = asked.holds;
      holds = asked.one;
    }
block_shown Ask q a i h j b n c d k x v regs after fs held ts is isn't small early low source first second one holds puts settled =
    let p : ℕ → ℕ = pulse_in v i in
    let parts = settled_both v regs after b n (sent_size q) (sent_cells q i j b n) (told_cells a i h j b (n + sent_size q)) (sent_length q i j b n) settled in
    let sent = sent_shown q i h j b n k x v regs after is isn't small source.number source.pulse holds.0 holds.1 parts.0 in
    let taken : times (Ans j) fs ≡ 0 = source.taken in
    let m0 = times (Ans (h + j)) fs in
    let m1 = times (Ans (h + h + j)) fs in
    let t0 : m0 ≡ p (h + j) = first.taken in
    let t1 : m1 ≡ p (h + h + j) = second.taken in
    let s0 = first.pulse in
    let s1 = second.pulse in
    let apart : p (h + j) + p (h + h + j) ≤ 1 = elim (early.one_side j low) [ inl e ↦ omega (arith, e, t0, s1) | inr e ↦ omega (arith, e, t1, s0) ] in
    let told = told_shown a i h j b (n + sent_size q) x v regs after first.number second.number apart parts.1 in
    let back : Puts j (p (h + j) + p (h + h + j)) (repeated (p (h + j)) (x (h + j)) + repeated (p (h + h + j)) (x (h + h + j))) ts =
    subst (λ (m : ℕ). Puts j (m + p (h + h + j)) (repeated m (x (h + j)) + repeated (p (h + h + j)) (x (h + h + j))) ts) t0
    (subst (λ (m : ℕ). Puts j (m0 + m) (repeated m0 (x (h + j)) + repeated m (x (h + h + j))) ts) t1 (early.source j low)) in
    record {
      source = shows_at v j _ _ (source_out Ask q a b n) (held ++ ts) apart (puts_behind j _ _ held ts puts.0 back) told;
      first = shows_at v (h + j) _ _ (caller_out 0 Ask q a b n) (held ++ ts) holds.0 (puts_before (h + j) _ _ held ts puts.1 (none_puts (h + j) _ (x j) ts (first_none k (times (Ans j) fs) taken) (early.first j low))) sent.first;
      second = shows_at v (h + h + j) _ _ (caller_out 1 Ask q a b n) (held ++ ts) holds.1 (puts_before (h + h + j) _ _ held ts puts.2 (none_puts (h + h + j) _ (x j) ts (second_none k (times (Ans j) fs) taken) (early.second j low))) sent.second;
      pending = sent.holds ∙ sym (end_nil (passed_at Serve (p j) (x j) (h + k * h + j)));
      holds = (sent.one, sent.two);
    }

-- both nets of the branch behind a block
abbrev pub to_zero : ℕ → ℕ
to_zero n = 0

abbrev pub to_one : ℕ → ℕ
to_one n = 1

or_one : (d p : ℕ) → d ≤ 1 → p ≤ 1 → bit_or d p ≡ (if nat_eq p 1 then 1 else d)
or_one zero zero f g = refl
or_one zero (suc zero) f g = refl
or_one (suc zero) zero f g = refl
or_one (suc zero) (suc zero) f g = refl
or_one (suc (suc d)) p f g = absurd (omega (arith, f))
or_one d (suc (suc p)) f g = absurd (omega (arith, g))

pub branch_kept : (r : Role) (q a : ℕ) (i : Incoming) (h j b n c d : ℕ) (v regs after : Numbers) → at v (b + 2) ≡ 0 → at v d ≤ 1 → pulse_in v i (h + h + j) ≤ 1
    → Settled v regs after b n (block_cells r q a i h j b n c d)
    → (at v (kept_net r (b + (n + 0)) c) ≡ branch_at r to_zero (pulse_in v i (h + j)) (at v c))
    × (at v (kept_net r (b + (n + 1)) d) ≡ branch_at r to_one (pulse_in v i (h + h + j)) (at v d))
branch_kept Serve q a i h j b n c d v regs after none small pulse settled =
    let parts = settled_both v regs after b n 2 (branch_cells i h j b c d) (asked_cells q i h j b (n + 2) ++ answered_cells a i j b (n + 2 + asked_size q)) refl settled in
    let c0 = settled_at v regs after b n (branch_cells i h j b c d) parts.0 in
    let c1 = c0.2 in (
      c0.0 ∙ (λ e. if nat_eq (pulse_in v i (h + j)) 1 then none e else at v c),
      c1.0 ∙ or_one (at v d) (pulse_in v i (h + h + j)) small pulse,
    )
branch_kept Ask q a i h j b n c d v regs after none small pulse settled = (refl, refl)

branch_small : (r : Role) (m n : ℕ) → n ≤ 1 → branch_at r to_one m n ≤ 1
branch_small Ask m n small = small
branch_small Serve m n small = by_test (nat_eq m 1)
  where
    by_test : (t : Bool) → (if t then 1 else n) ≤ 1
    by_test true = omega arith
    by_test false = small

-- what the row shows of these tokens, keeps, and makes of the branch
pub record RowShown (h j e1 e2 e0 b n c d k : ℕ) (p x : ℕ → ℕ) (v after : Numbers) (ts : List Token) (ks : List Contact) : Type 0 where
  pub source : Shows v j (source_outs b n ks) ts
  pub first : Shows v e1 (caller_outs 0 b n ks) ts
  pub second : Shows v e2 (caller_outs 1 b n ks) ts
  pub pending : SameTokens (row_pending h j b n after ks) (passed p x j e0 (other_side ks) ++ (passed p x e1 j ks ++ passed p x e2 j ks))
  pub holds : RowHolds b n after ks
  pub branch : at v (b + place_behind n ks) ≡ bit_or (branch_behind to_zero p e1 (at v c) ks) (branch_behind to_one p e2 (at v d) ks)

-- tokens of a block and of those behind it
joined : (block rest a1 a2 b1 b2 c1 c2 : List Token) → block ≡ a1 ++ (b1 ++ c1) → SameTokens rest (a2 ++ (b2 ++ c2))
    → SameTokens (block ++ rest) ((a1 ++ a2) ++ ((b1 ++ b2) ++ (c1 ++ c2)))
joined block rest a1 a2 b1 b2 c1 c2 same others e =
    let d0 = due_append e block rest in
    let d1 : due e block ≡ due e (a1 ++ (b1 ++ c1)) = ap (due e) same in
    let d2 = due_append e a1 (b1 ++ c1) in
    let d3 = due_append e b1 c1 in
    let d4 = (others e).0 in
    let d5 = due_append e a2 (b2 ++ c2) in
    let d6 = due_append e b2 c2 in
    let d7 = due_append e (a1 ++ a2) ((b1 ++ b2) ++ (c1 ++ c2)) in
    let d8 = due_append e (b1 ++ b2) (c1 ++ c2) in
    let d9 = due_append e a1 a2 in
    let da = due_append e b1 b2 in
    let db = due_append e c1 c2 in
    let v0 = value_append e block rest in
    let v1 : value_due e block ≡ value_due e (a1 ++ (b1 ++ c1)) = ap (value_due e) same in
    let v2 = value_append e a1 (b1 ++ c1) in
    let v3 = value_append e b1 c1 in
    let v4 = (others e).1 in
    let v5 = value_append e a2 (b2 ++ c2) in
    let v6 = value_append e b2 c2 in
    let v7 = value_append e (a1 ++ a2) ((b1 ++ b2) ++ (c1 ++ c2)) in
    let v8 = value_append e (b1 ++ b2) (c1 ++ c2) in
    let v9 = value_append e a1 a2 in
    let va = value_append e b1 b2 in
    let vb = value_append e c1 c2 in
    (omega (arith, d0, d1, d2, d3, d4, d5, d6, d7, d8, d9, da, db), omega (arith, v0, v1, v2, v3, v4, v5, v6, v7, v8, v9, va, vb))

pub row_shown : (i : Incoming) (h j e1 e2 e0 b n c d k : ℕ) (x : ℕ → ℕ) (v regs after : Numbers) (fs : List Slot) (held ts : List Token) (ks : List Contact)
    → at v (b + 0) ≡ k → at v (b + 1) ≡ 1 - k → k ≤ 1 → at v (b + 2) ≡ 0 → at v d ≤ 1 → Early h k x fs ts
    → j + length ks ≤ h → e1 ≡ h + j → e2 ≡ h + h + j → e0 ≡ h + k * h + j
    → AllCome (pulse_in v i) x (λ e. at v (i.value e)) fs h j ks → AllOneAsk (pulse_in v i) h j ks → RowHolds b n regs ks → RowPuts h j b n regs held ks
    → Settled v regs after b n (row_cells i h j b n c d ks) → RowShown h j e1 e2 e0 b n c d k (pulse_in v i) x v after (held ++ ts) ks
row_shown i h j e1 e2 e0 b n c d k x v regs after fs held ts [] is isn't small none d_small early within is1 is2 is0 comes one holds puts settled =
    record { source = tt; first = tt; second = tt; pending = λ e. (refl, refl); holds = tt; branch = settled.0 }
row_shown i h j e1 e2 e0 b n c d k x v regs after fs held ts (l ∷ ks) is isn't small none d_small early within is1 is2 is0 comes one holds puts settled =
    let p : ℕ → ℕ = pulse_in v i in
    let q = l.ask_bits in
    let a = l.answer_bits in
    let size = block_size l.role q a in
    let next_c = kept_net l.role (b + (n + 0)) c in
    let next_d = kept_net l.role (b + (n + 1)) d in
    let parts = settled_both v regs after b n size (block_cells l.role q a i h j b n c d) (row_cells i h (suc j) b (n + size) next_c next_d ks) (block_length l.role q a i h j b n c d) settled in
    let low : j < h = omega (arith, within) in
    let here = block_shown l.role q a i h j b n c d k x v regs after fs held ts is isn't small early low comes.0 comes.1 comes.2 one.0 holds.0 puts.0 parts.0 in
    let behind = branch_kept l.role q a i h j b n c d v regs after none d_small (comes.2).pulse parts.0 in
    let next_small : at v next_d ≤ 1 = subst (λ (m : ℕ). m ≤ 1) (sym behind.1) (branch_small l.role (p (h + h + j)) (at v d) d_small) in
    let rest = row_shown i h (suc j) (suc e1) (suc e2) (suc e0) b (n + size) next_c next_d k x v regs after fs held ts ks is isn't small none next_small early
    (omega (arith, within)) (omega (arith, is1)) (omega (arith, is2)) (omega (arith, is0)) comes.3 one.1 holds.1 puts.1 parts.1 in
    let pend : block_pending l.role q h j b n after ≡ passed_at (turned l.role) (p j) (x j) e0 ++ (passed_at l.role (p e1) (x e1) j ++ passed_at l.role (p e2) (x e2) j) =
    rw (is1, is2, is0) here.pending in
    let last : at v (b + place_behind (n + size) ks) ≡ bit_or (branch_behind to_zero p (suc e1) (branch_at l.role to_zero (p e1) (at v c)) ks) (branch_behind to_one p (suc e2) (branch_at l.role to_one (p e2) (at v d)) ks) =
    rest.branch ∙ (rw (is1, is2) (λ m. bit_or (branch_behind to_zero p (suc (h + j)) (behind.0 m) ks) (branch_behind to_one p (suc (h + h + j)) (behind.1 m) ks))) in
    record {
      source = (here.source.0, here.source.1, rest.source);
      first = rw is1 ((here.first.0, here.first.1, subst (λ (m : ℕ). Shows v (suc m) (caller_outs 0 b (n + size) ks) (held ++ ts)) is1 rest.first));
      second = rw is2 ((here.second.0, here.second.1, subst (λ (m : ℕ). Shows v (suc m) (caller_outs 1 b (n + size) ks) (held ++ ts)) is2 rest.second));
      pending = joined (block_pending l.role q h j b n after) (row_pending h (suc j) b (n + size) after ks)
          (passed_at (turned l.role) (p j) (x j) e0) (passed p x (suc j) (suc e0) (other_side ks))
          (passed_at l.role (p e1) (x e1) j) (passed p x (suc e1) (suc j) ks)
          (passed_at l.role (p e2) (x e2) j) (passed p x (suc e2) (suc j) ks) pend rest.pending;
      holds = (here.holds, rest.holds);
      branch = last;
    }
