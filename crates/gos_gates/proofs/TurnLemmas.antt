-- A chain of bits, from its first one on: what is laid, with what is still to come, is always the whole chain.
use Rattle.std.specs.Prelude.{◌≡◌, ℕ, ◌+◌, ◌*◌, ◌<◌, ◌≤◌, ◌⊎◌, List, [], ◌∷◌, ◌++◌, length, drop, get_or, min}
use Rattle.std.proofs.Common.{arith, refl, sym, ap, inl, inr, ◌∙◌, append_assoc, length-append}
use Rattle.std.proofs.lemmas.List.{append-nil, drop_more, drop_all}
use Rattle.std.proofs.lemmas.Bool.{cases_lt}
use Rattle.gos_gates.specs.declared.kinds.Kind.{Kind}
use Rattle.gos_gates.specs.inner.Layout.{bit_gates, bit_cost, bit_literal, bit_carry, chain_gates, chain_literals, chain_carry}
use Rattle.gos_gates.specs.inner.Laying.{Laid, next_variable}
use Rattle.gos_gates.proofs.ChainLemmas.{bit_count}
use Rattle.gos_gates.proofs.BackLemmas.{cost_low}

pub record Chains (kind : Kind) (old new : Laid) (ms bs before now : List ℕ) (first carry i : ℕ) : Type 0 where
  pub base : new.base ≡ old.base
  pub nets : new.nets ≡ old.nets
  pub gates : old.gates ++ chain_gates kind (next_variable old) first ms bs ≡ new.gates ++ chain_gates kind (next_variable new) carry (drop i ms) (drop i bs)
  pub bits : before ++ chain_literals kind (next_variable old) ms bs ≡ now ++ chain_literals kind (next_variable new) (drop i ms) (drop i bs)
  pub last : chain_carry kind (next_variable old) first ms bs ≡ chain_carry kind (next_variable new) carry (drop i ms) (drop i bs)
  pub few : length new.gates ≤ length old.gates + 7 * i

pub chains_more : (kind : Kind) (old new next : Laid) (ms bs before now : List ℕ) (first carry i literal also : ℕ) → Chains kind old new ms bs before now first carry i
    → i < length ms → i < length bs
    → next ≡ record new { gates = new.gates ++ bit_gates kind (next_variable new) carry (get_or ms i 0) (get_or bs i 0) }
    → literal ≡ bit_literal kind (next_variable new) → also ≡ bit_carry kind (next_variable new) carry
    → Chains kind old next ms bs before (now ++ literal ∷ []) first also (i + 1)
chains_more kind old new next ms bs before now first carry i literal also so low_m low_b e el ec =
    let one : ℕ = get_or ms i 0 in
    let other : ℕ = get_or bs i 0 in
    let here : List (ℕ × ℕ) = bit_gates kind (next_variable new) carry one other in
    let em : drop i ms ≡ one ∷ drop (i + 1) ms = drop_more ms i 0 low_m in
    let eb : drop i bs ≡ other ∷ drop (i + 1) bs = drop_more bs i 0 low_b in
    let gates : next.gates ≡ new.gates ++ here = ap (λ (x : Laid). x.gates) e in
    let count : length here ≡ bit_cost kind = bit_count kind (next_variable new) carry one other in
    let later : next_variable new + bit_cost kind ≡ next_variable next =
    omega (arith, ap (λ (x : Laid). x.base) e, ap length gates, length-append new.gates here, count) in
    let rest_g : List (ℕ × ℕ) = chain_gates kind (next_variable new + bit_cost kind) (bit_carry kind (next_variable new) carry) (drop (i + 1) ms) (drop (i + 1) bs) in
    let rest_l : List ℕ = chain_literals kind (next_variable new + bit_cost kind) (drop (i + 1) ms) (drop (i + 1) bs) in
    record {
      base = ap (λ (x : Laid). x.base) e ∙ so.base;
      nets = ap (λ (x : Laid). x.nets) e ∙ so.nets;
      gates =
          so.gates
          ∙ ((λ j. new.gates ++ chain_gates kind (next_variable new) carry (em j) (eb j))
          ∙ (sym (append_assoc new.gates here rest_g)
          ∙ (λ j. sym gates j ++ chain_gates kind (later j) (sym ec j) (drop (i + 1) ms) (drop (i + 1) bs))));
      bits =
          so.bits
          ∙ ((λ j. now ++ chain_literals kind (next_variable new) (em j) (eb j))
          ∙ (sym (append_assoc now (bit_literal kind (next_variable new) ∷ []) rest_l)
          ∙ (λ j. (now ++ sym el j ∷ []) ++ chain_literals kind (later j) (drop (i + 1) ms) (drop (i + 1) bs))));
      last =
          so.last
          ∙ ((λ j. chain_carry kind (next_variable new) carry (em j) (eb j))
          ∙ (λ j. chain_carry kind (later j) (sym ec j) (drop (i + 1) ms) (drop (i + 1) bs)));
      few = omega (arith, so.few, ap length gates, length-append new.gates here, count, cost_low kind);
    }

-- nothing is to come behind the end of either
none_gates : (kind : Kind) (v c : ℕ) (ms : List ℕ) → chain_gates kind v c ms [] ≡ []
none_gates kind v c [] = refl
none_gates kind v c (m ∷ ms) = refl

none_literals : (kind : Kind) (v : ℕ) (ms : List ℕ) → chain_literals kind v ms [] ≡ []
none_literals kind v [] = refl
none_literals kind v (m ∷ ms) = refl

none_carry : (kind : Kind) (v c : ℕ) (ms : List ℕ) → chain_carry kind v c ms [] ≡ c
none_carry kind v c [] = refl
none_carry kind v c (m ∷ ms) = refl

-- What a chain gives at its end.
pub record HasChained (kind : Kind) (old new : Laid) (ms bs before now : List ℕ) (first carry : ℕ) : Type 0 where
  pub draft : new ≡ record old { gates = old.gates ++ chain_gates kind (next_variable old) first ms bs }
  pub bits : now ≡ before ++ chain_literals kind (next_variable old) ms bs
  pub last : carry ≡ chain_carry kind (next_variable old) first ms bs

pub chains_end : (kind : Kind) (old new : Laid) (ms bs before now : List ℕ) (first carry i : ℕ) → Chains kind old new ms bs before now first carry i
    → min (length ms) (length bs) ≤ i → HasChained kind old new ms bs before now first carry
chains_end kind old new ms bs before now first carry i so past = by_end (cases_lt i (length ms))
  where
    v : ℕ
    v = next_variable new

    ended : (g : chain_gates kind v carry (drop i ms) (drop i bs) ≡ []) (l : chain_literals kind v (drop i ms) (drop i bs) ≡ []) (c : chain_carry kind v carry (drop i ms) (drop i bs) ≡ carry)
        → HasChained kind old new ms bs before now first carry
    ended g l c =
        let gates : new.gates ≡ old.gates ++ chain_gates kind (next_variable old) first ms bs = sym (so.gates ∙ (ap (λ (gs : List (ℕ × ℕ)). new.gates ++ gs) g ∙ append-nil new.gates)) in
        record {
          draft = (λ j. record { base = so.base j; gates = gates j; nets = so.nets j });
          bits = sym (so.bits ∙ (ap (λ (ls : List ℕ). now ++ ls) l ∙ append-nil now));
          last = sym (so.last ∙ c);
        }

    by_end : (i < length ms) ⊎ (length ms ≤ i) → HasChained kind old new ms bs before now first carry
    by_end (inr done) =
        let e : drop i ms ≡ [] = drop_all i ms done in
        ended (ap (λ (xs : List ℕ). chain_gates kind v carry xs (drop i bs)) e) (ap (λ (xs : List ℕ). chain_literals kind v xs (drop i bs)) e) (ap (λ (xs : List ℕ). chain_carry kind v carry xs (drop i bs)) e)
    by_end (inl more) =
        let e : drop i bs ≡ [] = drop_all i bs (omega (arith, more, past)) in
        ended (ap (λ (xs : List ℕ). chain_gates kind v carry (drop i ms) xs) e ∙ none_gates kind v carry (drop i ms))
        (ap (λ (xs : List ℕ). chain_literals kind v (drop i ms) xs) e ∙ none_literals kind v (drop i ms))
        (ap (λ (xs : List ℕ). chain_carry kind v carry (drop i ms) xs) e ∙ none_carry kind v carry (drop i ms))
