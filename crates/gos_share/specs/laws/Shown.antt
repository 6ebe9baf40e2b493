-- What the cells of a handshake show and keep, in the words of pulses of 0 or 1 and numbers that come with them.
--
-- Read first: Blocks, Share, Requests.
use Rattle.std.proofs.Common.{◌≡◌, ℕ, zero, suc, ◌+◌, ◌*◌, ◌≤◌, ◌++◌, refl, sym, ◌∙◌, ap, arith}
use Rattle.std.specs.Prelude.{◌-◌, nat_eq, if◌then◌else◌, bit_or, bit_and}
use Rattle.gos_types.specs.declared.shakes.Role.TheVariants.{Serve}
use Rattle.gos_netlist.specs.Settling.{Numbers, at}
use Rattle.gos_plan.specs.Firing.{Req}
use Rattle.gos_macro.specs.Gates.{Incoming, Settled, NetsShow}
use Rattle.gos_macro.specs.laws.Passing.{repeated}
use Rattle.gos_macro.specs.laws.SettledCells.{settled_at}
use Rattle.gos_share.specs.Blocks.{outgoing, asked_cells, answered_cells, sent_cells, told_cells}
use Rattle.gos_share.specs.Share.{number_of, held_number}
use Rattle.gos_share.specs.laws.Requests.{passed_at}

-- where a pulse goes by the branch: to caller 0, and to caller 1
abbrev pub to_first : ℕ → ℕ → ℕ
to_first zero p = p
to_first (suc n) p = 0

abbrev pub to_second : ℕ → ℕ → ℕ
to_second zero p = 0
to_second (suc n) p = p

first_table : (n p : ℕ) → n ≤ 1 → p ≤ 1 → bit_and p (1 - n) ≡ to_first n p
first_table zero zero g h = refl
first_table zero (suc zero) g h = refl
first_table (suc zero) zero g h = refl
first_table (suc zero) (suc zero) g h = refl
first_table (suc (suc n)) p g h = absurd (omega (arith, g))
first_table n (suc (suc p)) g h = absurd (omega (arith, h))

pub second_table : (n p : ℕ) → n ≤ 1 → p ≤ 1 → bit_and p n ≡ to_second n p
second_table zero zero g h = refl
second_table zero (suc zero) g h = refl
second_table (suc zero) zero g h = refl
second_table (suc zero) (suc zero) g h = refl
second_table (suc (suc n)) p g h = absurd (omega (arith, g))
second_table n (suc (suc p)) g h = absurd (omega (arith, h))

pub first_small : (n p : ℕ) → p ≤ 1 → to_first n p ≤ 1
first_small zero p h = h
first_small (suc n) p h = omega arith

pub second_small : (n p : ℕ) → p ≤ 1 → to_second n p ≤ 1
second_small zero p h = omega arith
second_small (suc n) p h = h

either_table : (p q : ℕ) → p + q ≤ 1 → bit_or p q ≡ p + q
either_table zero zero h = refl
either_table zero (suc zero) h = refl
either_table (suc zero) zero h = refl
either_table (suc zero) (suc q) h = absurd (omega (arith, h))
either_table (suc (suc p)) q h = absurd (omega (arith, h))
either_table p (suc (suc q)) h = absurd (omega (arith, h))

-- a number that is let through with a pulse
pub gated : (p a : ℕ) → p ≤ 1 → (if nat_eq p 1 then a else 0) ≡ repeated p a
gated zero a h = refl
gated (suc zero) a h = omega arith
gated (suc (suc p)) a h = absurd (omega (arith, h))

-- the number that comes with one of two pulses
chosen : (p q a c : ℕ) → p + q ≤ 1 → (if nat_eq (p + q) 1 then (if nat_eq q 1 then c else a) else 0) ≡ repeated p a + repeated q c
chosen zero zero a c h = refl
chosen zero (suc zero) a c h = omega arith
chosen (suc zero) zero a c h = omega arith
chosen (suc zero) (suc q) a c h = absurd (omega (arith, h))
chosen (suc (suc p)) q a c h = absurd (omega (arith, h))
chosen p (suc (suc q)) a c h = absurd (omega (arith, h))

-- a request of the callers: what goes out of the registers, and what they hold next
pub record AskedShown (w : ℕ) (h j b n : ℕ) (x : ℕ → ℕ) (p q : ℕ) (v regs after : Numbers) : Type 0 where
  pub shows : NetsShow v (outgoing w (b + (n + 1)) (b + (n + 4))) (at regs (b + (n + 1))) (repeated (at regs (b + (n + 1))) (number_of w (at regs (b + (n + 3)))))
  pub holds : held_number w (Req j) (at after (b + (n + 1))) (at after (b + (n + 3))) ≡ passed_at Serve p (x (h + j)) j ++ passed_at Serve q (x (h + h + j)) j
  pub one : at after (b + (n + 1)) ≤ 1

-- a register that took one of two pulses, and one that took the number
both_held : (w j m a p q x y : ℕ) → p + q ≤ 1 → m ≡ p + q → (p ≡ 1 → number_of w a ≡ x) → (q ≡ 1 → number_of w a ≡ y)
    → held_number w (Req j) m a ≡ passed_at Serve p x j ++ passed_at Serve q y j
both_held w j m a zero zero x y small is one two = rw is refl
both_held w j m a zero (suc zero) x y small is one two = rw (is, two refl) refl
both_held w j m a (suc zero) zero x y small is one two = rw (is, one refl) refl
both_held w j m a (suc zero) (suc q) x y small is one two = absurd (omega (arith, small))
both_held w j m a (suc (suc p)) q x y small is one two = absurd (omega (arith, small))
both_held w j m a p (suc (suc q)) x y small is one two = absurd (omega (arith, small))

pub asked_shown : (w : ℕ) (i : Incoming) (h j b n : ℕ) (x : ℕ → ℕ) (v regs after : Numbers)
    → x (h + j) ≡ number_of w (at v (i.value (h + j))) → x (h + h + j) ≡ number_of w (at v (i.value (h + h + j)))
    → at v (i.pulse (h + j)) + at v (i.pulse (h + h + j)) ≤ 1 → at regs (b + (n + 1)) ≤ 1
    → Settled v regs after b n (asked_cells w i h j b n) → AskedShown w h j b n x (at v (i.pulse (h + j))) (at v (i.pulse (h + h + j))) v regs after
asked_shown zero i h j b n x v regs after first second small one settled =
    let p = at v (i.pulse (h + j)) in
    let q = at v (i.pulse (h + h + j)) in
    let c0 = settled_at v regs after b n (asked_cells zero i h j b n) settled in
    let c1 = c0.2 in
    let is : at after (b + (n + 1)) ≡ p + q = c1.1 ∙ (c0.0 ∙ either_table p q small) in
    record {
      shows = c1.0;
      holds = both_held 0 j (at after (b + (n + 1))) (at after (b + (n + 3))) p q (x (h + j)) (x (h + h + j)) small is (λ f. sym first) (λ f. sym second);
      one = omega (arith, is, small);
    }
asked_shown (suc w) i h j b n x v regs after first second small one settled =
    let p = at v (i.pulse (h + j)) in
    let q = at v (i.pulse (h + h + j)) in
    let c0 = settled_at v regs after b n (asked_cells (suc w) i h j b n) settled in
    let c1 = c0.2 in
    let c2 = c1.2 in
    let c3 = c2.2 in
    let c4 = c3.2 in
    let is : at after (b + (n + 1)) ≡ p + q = c1.1 ∙ (c0.0 ∙ either_table p q small) in
    let takes : at after (b + (n + 3)) ≡ (if nat_eq q 1 then at v (i.value (h + h + j)) else at v (i.value (h + j))) = c3.1 ∙ c2.0 in
    record {
      shows = (
        c1.0,
        c4.0 ∙ ((λ e. if nat_eq (c1.0 e) 1 then c3.0 e else 0) ∙ gated (at regs (b + (n + 1))) (at regs (b + (n + 3))) one),
      );
      holds = both_held (suc w) j (at after (b + (n + 1))) (at after (b + (n + 3))) p q (x (h + j)) (x (h + h + j)) small is
          (λ f. let none : q ≡ 0 = omega (arith, f, small) in takes ∙ (rw none (sym first)))
          (λ f. takes ∙ (rw f (sym second)));
      one = omega (arith, is, small);
    }

-- what an answer of the source shows to the callers
pub answered_shown : (w : ℕ) (i : Incoming) (j b n c : ℕ) (x : ℕ → ℕ) (v regs after : Numbers) → at v (b + 0) ≡ c → at v (b + 1) ≡ 1 - c → c ≤ 1
    → x j ≡ number_of w (at v (i.value j)) → at v (i.pulse j) ≤ 1 → Settled v regs after b n (answered_cells w i j b n)
    → NetsShow v (outgoing w (b + (n + 0)) (b + (n + 2))) (to_first c (at v (i.pulse j))) (repeated (to_first c (at v (i.pulse j))) (x j))
    × NetsShow v (outgoing w (b + (n + 1)) (b + (n + 3))) (to_second c (at v (i.pulse j))) (repeated (to_second c (at v (i.pulse j))) (x j))
answered_shown zero i j b n c x v regs after is isn't one number small settled =
    let p = at v (i.pulse j) in
    let c0 = settled_at v regs after b n (answered_cells zero i j b n) settled in
    let c1 = c0.2 in
    (c0.0 ∙ (ap (bit_and p) isn't ∙ first_table c p one small), c1.0 ∙ (ap (bit_and p) is ∙ second_table c p one small))
answered_shown (suc w) i j b n c x v regs after is isn't one number small settled =
    let p = at v (i.pulse j) in
    let c0 = settled_at v regs after b n (answered_cells (suc w) i j b n) settled in
    let c1 = c0.2 in
    let c2 = c1.2 in
    let c3 = c2.2 in
    let to_one = c0.0 ∙ (ap (bit_and p) isn't ∙ first_table c p one small) in
    let to_two = c1.0 ∙ (ap (bit_and p) is ∙ second_table c p one small) in (
      (to_one, c2.0 ∙ ((λ e. if nat_eq (to_one e) 1 then sym number e else 0) ∙ gated (to_first c p) (x j) (first_small c p small))),
      (to_two, c3.0 ∙ ((λ e. if nat_eq (to_two e) 1 then sym number e else 0) ∙ gated (to_second c p) (x j) (second_small c p small))),
    )

-- a request of the source: what goes out of the registers, and what they hold next
pub record SentShown (w : ℕ) (h j b n c : ℕ) (x : ℕ → ℕ) (p : ℕ) (v regs after : Numbers) : Type 0 where
  pub first : NetsShow v (outgoing w (b + (n + 2)) (b + (n + 5))) (at regs (b + (n + 2))) (repeated (at regs (b + (n + 2))) (number_of w (at regs (b + (n + 4)))))
  pub second : NetsShow v (outgoing w (b + (n + 3)) (b + (n + 6))) (at regs (b + (n + 3))) (repeated (at regs (b + (n + 3))) (number_of w (at regs (b + (n + 4)))))
  pub holds : held_number w (Req (h + j)) (at after (b + (n + 2))) (at after (b + (n + 4))) ++ held_number w (Req (h + h + j)) (at after (b + (n + 3))) (at after (b + (n + 4))) ≡ passed_at Serve p (x j) (h + c * h + j)
  pub one : at after (b + (n + 2)) ≤ 1
  pub two : at after (b + (n + 3)) ≤ 1

one_held : (w h j c m l a p x : ℕ) → c ≤ 1 → p ≤ 1 → m ≡ to_first c p → l ≡ to_second c p → number_of w a ≡ x
    → held_number w (Req (h + j)) m a ++ held_number w (Req (h + h + j)) l a ≡ passed_at Serve p x (h + c * h + j)
one_held w h j zero m l a zero x one small is other number = rw (is, other) refl
one_held w h j zero m l a (suc zero) x one small is other number =
    let here : h + j ≡ h + 0 * h + j = omega arith in rw (is, other, number, sym here) refl
one_held w h j (suc zero) m l a zero x one small is other number = rw (is, other) refl
one_held w h j (suc zero) m l a (suc zero) x one small is other number =
    let here : h + h + j ≡ h + 1 * h + j = omega arith in rw (is, other, number, sym here) refl
one_held w h j (suc (suc c)) m l a p x one small is other number = absurd (omega (arith, one))
one_held w h j c m l a (suc (suc p)) x one small is other number = absurd (omega (arith, small))

pub sent_shown : (w : ℕ) (i : Incoming) (h j b n c : ℕ) (x : ℕ → ℕ) (v regs after : Numbers) → at v (b + 0) ≡ c → at v (b + 1) ≡ 1 - c → c ≤ 1
    → x j ≡ number_of w (at v (i.value j)) → at v (i.pulse j) ≤ 1 → at regs (b + (n + 2)) ≤ 1 → at regs (b + (n + 3)) ≤ 1
    → Settled v regs after b n (sent_cells w i j b n) → SentShown w h j b n c x (at v (i.pulse j)) v regs after
sent_shown zero i h j b n c x v regs after is isn't one number small low high settled =
    let p = at v (i.pulse j) in
    let c0 = settled_at v regs after b n (sent_cells zero i j b n) settled in
    let c1 = c0.2 in
    let c2 = c1.2 in
    let c3 = c2.2 in
    let to_one : at after (b + (n + 2)) ≡ to_first c p = c2.1 ∙ (c0.0 ∙ (ap (bit_and p) isn't ∙ first_table c p one small)) in
    let to_two : at after (b + (n + 3)) ≡ to_second c p = c3.1 ∙ (c1.0 ∙ (ap (bit_and p) is ∙ second_table c p one small)) in
    record {
      first = c2.0;
      second = c3.0;
      holds = one_held 0 h j c (at after (b + (n + 2))) (at after (b + (n + 3))) (at after (b + (n + 4))) p (x j) one small to_one to_two (sym number);
      one = omega (arith, to_one, first_small c p small);
      two = omega (arith, to_two, second_small c p small);
    }
sent_shown (suc w) i h j b n c x v regs after is isn't one number small low high settled =
    let p = at v (i.pulse j) in
    let c0 = settled_at v regs after b n (sent_cells (suc w) i j b n) settled in
    let c1 = c0.2 in
    let c2 = c1.2 in
    let c3 = c2.2 in
    let c4 = c3.2 in
    let c5 = c4.2 in
    let c6 = c5.2 in
    let to_one : at after (b + (n + 2)) ≡ to_first c p = c2.1 ∙ (c0.0 ∙ (ap (bit_and p) isn't ∙ first_table c p one small)) in
    let to_two : at after (b + (n + 3)) ≡ to_second c p = c3.1 ∙ (c1.0 ∙ (ap (bit_and p) is ∙ second_table c p one small)) in
    record {
      first = (c2.0, c5.0 ∙ ((λ e. if nat_eq (c2.0 e) 1 then c4.0 e else 0) ∙ gated (at regs (b + (n + 2))) (at regs (b + (n + 4))) low));
      second = (c3.0, c6.0 ∙ ((λ e. if nat_eq (c3.0 e) 1 then c4.0 e else 0) ∙ gated (at regs (b + (n + 3))) (at regs (b + (n + 4))) high));
      holds = one_held (suc w) h j c (at after (b + (n + 2))) (at after (b + (n + 3))) (at after (b + (n + 4))) p (x j) one small to_one to_two (c4.1 ∙ sym number);
      one = omega (arith, to_one, first_small c p small);
      two = omega (arith, to_two, second_small c p small);
    }

-- what an answer of the callers shows to the source
pub told_shown : (w : ℕ) (i : Incoming) (h j b n : ℕ) (x : ℕ → ℕ) (v regs after : Numbers)
    → x (h + j) ≡ number_of w (at v (i.value (h + j))) → x (h + h + j) ≡ number_of w (at v (i.value (h + h + j)))
    → at v (i.pulse (h + j)) + at v (i.pulse (h + h + j)) ≤ 1 → Settled v regs after b n (told_cells w i h j b n)
    → NetsShow v (outgoing w (b + (n + 0)) (b + (n + 2))) (at v (i.pulse (h + j)) + at v (i.pulse (h + h + j)))
    (repeated (at v (i.pulse (h + j))) (x (h + j)) + repeated (at v (i.pulse (h + h + j))) (x (h + h + j)))
told_shown zero i h j b n x v regs after first second small settled =
    let c0 = settled_at v regs after b n (told_cells zero i h j b n) settled in
    c0.0 ∙ either_table (at v (i.pulse (h + j))) (at v (i.pulse (h + h + j))) small
told_shown (suc w) i h j b n x v regs after first second small settled =
    let p = at v (i.pulse (h + j)) in
    let q = at v (i.pulse (h + h + j)) in
    let c0 = settled_at v regs after b n (told_cells (suc w) i h j b n) settled in
    let c1 = c0.2 in
    let c2 = c1.2 in
    let is = c0.0 ∙ either_table p q small in (
      is,
      c2.0 ∙ ((λ e. if nat_eq (is e) 1 then (c1.0 ∙ (λ f. if nat_eq q 1 then sym second f else sym first f)) e else 0) ∙ chosen p q (x (h + j)) (x (h + h + j)) small),
    )
