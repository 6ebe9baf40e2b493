-- What the registers of an array hold in the next cycle: what the late firings put, and the state that they reach.
--
-- Read first: Array, ArrayFires.
use Rattle.std.proofs.Common.{◌≡◌, ℕ, zero, suc, ◌+◌, ◌-◌, ◌≤◌, List, [], ◌∷◌, ◌++◌, refl, sym, ap, ◌∙◌, subst, arith}
use Rattle.std.specs.Prelude.{get_or, set, replicate, nat_eq, bit_and, bit_or, if◌then◌else◌}
use Rattle.gos_netlist.specs.Settling.{Numbers}
use Rattle.gos_netlist.specs.Settling as nets
use Rattle.gos_plan.specs.Kinds.{Array}
use Rattle.gos_plan.specs.Firing.{Phase, Rest, Cells, Reading, WritingTo, State, Req, Ans, Token, at, put}
use Rattle.gos_plan.specs.Firings.{Asked, Fires}
use Rattle.gos_macro.specs.Gates.{held}
use Rattle.gos_data.specs.Words.{numbers_held, kept_numbers, next_numbers}
use Rattle.gos_data.specs.Array.{array_pending, found, HoldNumbers, HoldAccess}
use Rattle.gos_data.specs.laws.ArrayFires.{late_pulses, Begun, cells_begin, begun, access_ends}

-- The next registers, by the late pulses: a is that of an index j, c of a read, d of a write of y, and e of an entry.
pub record Next (n b : ℕ) (regs after : Numbers) (a c d e j y : ℕ) : Type 0 where
  pub entered : nets.at after (b + 0) ≡ e
  pub asked : nets.at after (b + 2) ≡ bit_or c d
  pub writes : nets.at after (b + 6) ≡ bit_or d (bit_and (nets.at regs (b + 6)) (1 - c))
  pub keeps : nets.at after (b + 8) ≡ (if nat_eq d 1 then y else nets.at regs (b + 8))
  pub read : nets.at after (b + 12) ≡ bit_and a (1 - nets.at regs (b + 6))
  pub written : nets.at after (b + 13) ≡ bit_and a (nets.at regs (b + 6))
  pub picked : nets.at after (b + 14) ≡ get_or (numbers_held regs b 19 n) j 0
  pub numbers : numbers_held after b 19 n ≡ next_numbers n (bit_and a (nets.at regs (b + 6))) (1 - e) j (nets.at regs (b + 8)) (numbers_held regs b 19 n)

-- what gates of one bit show
branch_table : (m : ℕ) → m ≤ 1 → (bit_or 0 (bit_and m 1) ≡ m) × (bit_or 0 (bit_and m 0) ≡ 0) × (bit_or 1 (bit_and m 1) ≡ 1)
branch_table zero small = (refl, refl, refl)
branch_table (suc zero) small = (refl, refl, refl)
branch_table (suc (suc m)) small = absurd (omega (arith, small))

no_index : (m : ℕ) → m ≤ 1 → (bit_and 0 (1 - m) ≡ 0) × (bit_and 0 m ≡ 0)
no_index zero small = (refl, refl)
no_index (suc zero) small = (refl, refl)
no_index (suc (suc m)) small = absurd (omega (arith, small))

pub and_small : (a m : ℕ) → a ≤ 1 → m ≤ 1 → bit_and a m ≤ 1
and_small zero zero f g = omega arith
and_small zero (suc zero) f g = omega arith
and_small (suc zero) zero f g = omega arith
and_small (suc zero) (suc zero) f g = omega arith
and_small (suc (suc a)) m f g = absurd (omega (arith, f))
and_small a (suc (suc m)) f g = absurd (omega (arith, g))

pub or_small : (a m : ℕ) → a ≤ 1 → m ≤ 1 → bit_or a m ≤ 1
or_small zero zero f g = omega arith
or_small zero (suc zero) f g = omega arith
or_small (suc zero) zero f g = omega arith
or_small (suc zero) (suc zero) f g = omega arith
or_small (suc (suc a)) m f g = absurd (omega (arith, f))
or_small a (suc (suc m)) f g = absurd (omega (arith, g))

-- registers that hold the same stand for the same
same_numbers : (n b : ℕ) (regs after : Numbers) (p : Phase) → numbers_held after b 19 n ≡ numbers_held regs b 19 n → HoldNumbers n b regs p → HoldNumbers n b after p
same_numbers n b regs after Rest same numbers = tt
same_numbers n b regs after (Cells ns) same numbers = same ∙ numbers
same_numbers n b regs after (Reading ns) same numbers = same ∙ numbers
same_numbers n b regs after (WritingTo ns) same numbers = same ∙ numbers
same_numbers n b regs after p same numbers = absurd numbers

same_access : (b : ℕ) (regs after : Numbers) (p : Phase) (k : ℕ) → nets.at after (b + 6) ≡ nets.at regs (b + 6) → nets.at after (b + 8) ≡ nets.at regs (b + 8)
    → HoldAccess b regs p k → HoldAccess b after p k
same_access b regs after (Reading ns) k writes keeps access = writes ∙ access
same_access b regs after (WritingTo ns) k writes keeps access = (writes ∙ access.0, keeps ∙ access.1)
same_access b regs after p k writes keeps access = access

-- The registers behind what begins, where those of before it stand for the phase p, and an entry clears the numbers.
record Stood (n b : ℕ) (after : Numbers) (s : State) (us : List Token) : Type 0 where
  puts : held (Req 0) (nets.at after (b + 0)) ++ held (Req 1) (nets.at after (b + 2)) ≡ us
  numbers : HoldNumbers n b after s.phase
  access : HoldAccess b after s.phase s.number

stood : (n b : ℕ) (regs after : Numbers) (a c d e j y : ℕ) (p : Phase) (k : ℕ) (s : State) (us : List Token) → Next n b regs after a c d e j y → nets.at regs (b + 6) ≤ 1
    → (e ≡ 0 → HoldNumbers n b after p) → (p ≡ Rest → e ≡ 1 → numbers_held after b 19 n ≡ replicate n 0) → HoldAccess b regs p k
    → Begun c d e n y p k s us → Stood n b after s us
stood n b regs after a zero zero zero j y p k s us next small numbers cleared access (stays, none) =
    record {
      puts = (λ z. held (Req 0) (next.entered z) ++ held (Req 1) (next.asked z)) ∙ sym none;
      numbers = subst (λ (q : State). HoldNumbers n b after q.phase) (sym stays) (numbers refl);
      access =
          subst (λ (q : State). HoldAccess b after q.phase q.number) (sym stays)
          (same_access b regs after p k (next.writes ∙ (branch_table (nets.at regs (b + 6)) small).0) next.keeps access);
    }
stood n b regs after a (suc zero) zero zero j y (Cells ns) k s us next small numbers cleared access (stays, one) =
    record {
      puts = (λ z. held (Req 0) (next.entered z) ++ held (Req 1) (next.asked z)) ∙ sym one;
      numbers = subst (λ (q : State). HoldNumbers n b after q.phase) (sym stays) (numbers refl);
      access =
          subst (λ (q : State). HoldAccess b after q.phase q.number) (sym stays) (next.writes ∙ (branch_table (nets.at regs (b + 6)) small).1);
    }
stood n b regs after a zero (suc zero) zero j y (Cells ns) k s us next small numbers cleared access (stays, one) =
    record {
      puts = (λ z. held (Req 0) (next.entered z) ++ held (Req 1) (next.asked z)) ∙ sym one;
      numbers = subst (λ (q : State). HoldNumbers n b after q.phase) (sym stays) (numbers refl);
      access =
          subst (λ (q : State). HoldAccess b after q.phase q.number) (sym stays)
          (next.writes ∙ (branch_table (nets.at regs (b + 6)) small).2, next.keeps);
    }
stood n b regs after a zero zero (suc zero) j y Rest k s us next small numbers cleared access (stays, one) =
    record {
      puts = (λ z. held (Req 0) (next.entered z) ++ held (Req 1) (next.asked z)) ∙ sym one;
      numbers = subst (λ (q : State). HoldNumbers n b after q.phase) (sym stays) (cleared refl refl);
      access = subst (λ (q : State). HoldAccess b after q.phase q.number) (sym stays) tt;
    }
stood n b regs after a c d e j y p k s us next small numbers cleared access none = absurd none

-- the same behind all late firings
pub record Late (n b : ℕ) (after : Numbers) (s : State) (us : List Token) : Type 0 where
  pub puts : array_pending b after ≡ us
  pub numbers : HoldNumbers n b after s.phase
  pub access : HoldAccess b after s.phase s.number

both_put : (n b : ℕ) (after : Numbers) (s : State) (us vs ws : List Token) → found (nets.at after (b + 12)) (nets.at after (b + 14)) ++ held (Ans 3) (nets.at after (b + 13)) ≡ vs
    → Stood n b after s ws → us ≡ vs ++ ws → Late n b after s us
both_put n b after s us vs ws answers known all =
    record { puts = (λ z. answers z ++ known.puts z) ∙ sym all; numbers = known.numbers; access = known.access }

cells_no_rest : (ns : List ℕ) → Cells ns ≡ Rest → ⊥
cells_no_rest ns same = cc same

pub late_kept : (w n u : ℕ) (x : ℕ → ℕ) (b : ℕ) (regs after : Numbers) (o : Asked) (a c d e : ℕ) (p : Phase) (k : ℕ) (o' : Asked) (s : State) (us : List Token)
    → a ≤ 1 → c ≤ 1 → d ≤ 1 → e ≤ 1 → Next n b regs after a c d e (x 1) (x 3) → nets.at regs (b + 6) ≤ 1 → HoldNumbers n b regs p → HoldAccess b regs p k
    → Fires (Array w n u) x o (at p k) (late_pulses a c d e) o' s us → Late n b after s us
late_kept w n u x b regs after o zero c d e p k o' s us f g h i next small numbers access fires =
    let none = no_index (nets.at regs (b + 6)) small in
    let ks = numbers_held regs b 19 n in
    let kept : numbers_held after b 19 n ≡ kept_numbers n (1 - e) ks =
    next.numbers ∙ ap (λ (m : ℕ). next_numbers n m (1 - e) (x 1) (nets.at regs (b + 8)) ks) none.1 in
    let answers : found (nets.at after (b + 12)) (nets.at after (b + 14)) ++ held (Ans 3) (nets.at after (b + 13)) ≡ [] =
    (λ z. found ((next.read ∙ none.0) z) (nets.at after (b + 14)) ++ held (Ans 3) ((next.written ∙ none.1) z)) in
    both_put n b after s us [] us answers
    (stood n b regs after 0 c d e (x 1) (x 3) p k s us next small
    (λ no_entry. same_numbers n b regs after p (kept ∙ ap (λ (m : ℕ). kept_numbers n (1 - m) ks) no_entry) numbers)
    (λ rests entry. kept ∙ ap (λ (m : ℕ). kept_numbers n (1 - m) ks) entry)
    access (begun w n u x b regs o c d e p k o' s us g h i numbers fires))
    refl
late_kept w n u x b regs after o (suc zero) c d e (Reading ns) k o' s us f g h i next small numbers access fires =
    let r = access_ends w n u x b regs o c d e (Reading ns) k o' s us numbers fires in
    let ks = numbers_held regs b 19 n in
    let kept : numbers_held after b 19 n ≡ kept_numbers n (1 - e) ks =
    next.numbers ∙ ap (λ (m : ℕ). next_numbers n (bit_and 1 m) (1 - e) (x 1) (nets.at regs (b + 8)) ks) access in
    let number : nets.at after (b + 14) ≡ get_or ns (x 1) 0 = next.picked ∙ ap (λ (ms : List ℕ). get_or ms (x 1) 0) numbers in
    let read : nets.at after (b + 12) ≡ 1 = next.read ∙ ap (λ (m : ℕ). bit_and 1 (1 - m)) access in
    let written : nets.at after (b + 13) ≡ 0 = next.written ∙ ap (λ (m : ℕ). bit_and 1 m) access in
    both_put n b after s us (put (Ans 2) (get_or ns (x 1) 0) ∷ []) r.behind (λ z. found (read z) (number z) ++ held (Ans 3) (written z))
    (stood n b regs after 1 c d e (x 1) (x 3) (Cells ns) k s r.behind next small
    (λ no_entry. kept ∙ (ap (λ (m : ℕ). kept_numbers n (1 - m) ks) no_entry ∙ numbers))
    (λ rests entry. absurd (cells_no_rest ns rests))
    tt (cells_begin w n u x r.before c d e ns k o' s r.behind g h i r.go))
    r.puts
late_kept w n u x b regs after o (suc zero) c d e (WritingTo ns) k o' s us f g h i next small numbers access fires =
    let r = access_ends w n u x b regs o c d e (WritingTo ns) k o' s us numbers fires in
    let ks = numbers_held regs b 19 n in
    let kept : numbers_held after b 19 n ≡ set (kept_numbers n (1 - e) ks) (x 1) k =
    next.numbers ∙ (λ z. next_numbers n (bit_and 1 (access.0 z)) (1 - e) (x 1) (access.1 z) ks) in
    let read : nets.at after (b + 12) ≡ 0 = next.read ∙ ap (λ (m : ℕ). bit_and 1 (1 - m)) access.0 in
    let written : nets.at after (b + 13) ≡ 1 = next.written ∙ ap (λ (m : ℕ). bit_and 1 m) access.0 in
    both_put n b after s us (put (Ans 3) 0 ∷ []) r.behind (λ z. found (read z) (nets.at after (b + 14)) ++ held (Ans 3) (written z))
    (stood n b regs after 1 c d e (x 1) (x 3) (Cells (set ns (x 1) k)) k s r.behind next small
    (λ no_entry. kept ∙ (ap (λ (m : ℕ). set (kept_numbers n (1 - m) ks) (x 1) k) no_entry ∙ ap (λ (ms : List ℕ). set ms (x 1) k) numbers))
    (λ rests entry. absurd (cells_no_rest (set ns (x 1) k) rests))
    tt (cells_begin w n u x r.before c d e (set ns (x 1) k) k o' s r.behind g h i r.go))
    r.puts
late_kept w n u x b regs after o (suc zero) c d e p k o' s us f g h i next small numbers access fires =
    absurd (access_ends w n u x b regs o c d e p k o' s us numbers fires)
late_kept w n u x b regs after o (suc (suc a)) c d e p k o' s us f g h i next small numbers access fires = absurd (omega (arith, f))
