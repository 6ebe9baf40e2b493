-- The gates of a cell, bit by bit: its literals show the values of its bits.
use Rattle.std.specs.Prelude.{◌≡◌, ℕ, suc, ◌+◌, Bool, List, [], ◌∷◌, ◌++◌, length, map}
use Rattle.std.proofs.Common.{arith, refl, sym, ap, subst, ◌∙◌, append_assoc, length-append}
use Rattle.std.proofs.lemmas.List.{append-nil}
use Rattle.gos_gates.specs.Gates.{Bits, shown_by, after_gates}
use Rattle.gos_gates.specs.declared.kinds.Kind.{Kind}
use Rattle.gos_gates.specs.declared.kinds.Kind.TheVariants.{And, Or, Gate, Xor, Mux, Add, Sub, Eq, Less}
use Rattle.gos_gates.specs.inner.Layout.{bit_gates, bit_cost, bit_literal, bit_carry, bit_value, carry_value, chain_gates, chain_literals, chain_carry, chain_values, chain_end}
use Rattle.gos_gates.specs.inner.Shown.{bit_shown}
use Rattle.gos_gates.specs.inner.Standing.{Holds, HoldAll}
use Rattle.gos_gates.proofs.BitLemmas.{holds_on, bit_more, bit_holds, carry_holds}

pub hold_all_on : (bits more : Bits) (ls : List ℕ) (xs : List Bool) → HoldAll bits ls xs → HoldAll (bits ++ more) ls xs
hold_all_on bits more [] [] h = tt
hold_all_on bits more [] (x ∷ xs) h = absurd h
hold_all_on bits more (l ∷ ls) [] h = absurd h
hold_all_on bits more (l ∷ ls) (x ∷ xs) h = (holds_on bits more l x h.0, hold_all_on bits more ls xs h.1)

pub hold_all_shown : (bits : Bits) (ls : List ℕ) (xs : List Bool) → HoldAll bits ls xs → map (shown_by bits) ls ≡ xs
hold_all_shown bits [] [] h = refl
hold_all_shown bits [] (x ∷ xs) h = absurd h
hold_all_shown bits (l ∷ ls) [] h = absurd h
hold_all_shown bits (l ∷ ls) (x ∷ xs) h =
    let first : shown_by bits l ≡ x = ap (λ (b : Bits). shown_by b l) (sym (append-nil bits)) ∙ h.0 [] in
    (λ i. first i ∷ hold_all_shown bits ls xs h.1 i)

pub hold_all_length : (bits : Bits) (ls : List ℕ) (xs : List Bool) → HoldAll bits ls xs → length ls ≡ length xs
hold_all_length bits ls xs h = sym (length_map (shown_by bits) ls) ∙ ap length (hold_all_shown bits ls xs h)
  where
    length_map : (f : ℕ → Bool) (ls : List ℕ) → length (map f ls) ≡ length ls
    length_map f [] = refl
    length_map f (l ∷ ls) = ap suc (length_map f ls)

joined : (bits a b : Bits) (l : ℕ) (x : Bool) → Holds ((bits ++ a) ++ b) l x → Holds (bits ++ (a ++ b)) l x
joined bits a b l x h = let P : Bits → Type 0 = λ c. Holds c l x in subst P (append_assoc bits a b) h

all_joined : (bits a b : Bits) (ls : List ℕ) (xs : List Bool) → HoldAll ((bits ++ a) ++ b) ls xs → HoldAll (bits ++ (a ++ b)) ls xs
all_joined bits a b ls xs h = let P : Bits → Type 0 = λ c. HoldAll c ls xs in subst P (append_assoc bits a b) h

-- what gates add behind these bits, and the literals that show it
pub record Adds (bits : Bits) (gates : List (ℕ × ℕ)) (ls : List ℕ) (xs : List Bool) (c : ℕ) (z : Bool) : Type 0 where
  pub more : Bits
  pub after : (gs : List (ℕ × ℕ)) → after_gates (gates ++ gs) bits ≡ after_gates gs (bits ++ more)
  pub size : length more ≡ length gates
  pub literals : HoldAll (bits ++ more) ls xs
  pub carry : Holds (bits ++ more) c z

bit_size : (k : Kind) (v c a b : ℕ) (z x y : Bool) → length (bit_shown k z x y) ≡ length (bit_gates k v c a b)
bit_size And v c a b z x y = refl
bit_size Or v c a b z x y = refl
bit_size Gate v c a b z x y = refl
bit_size Xor v c a b z x y = refl
bit_size Mux v c a b z x y = refl
bit_size Add v c a b z x y = refl
bit_size Sub v c a b z x y = refl
bit_size Eq v c a b z x y = refl
bit_size Less v c a b z x y = refl

pub bit_count : (k : Kind) (v c a b : ℕ) → length (bit_gates k v c a b) ≡ bit_cost k
bit_count And v c a b = refl
bit_count Or v c a b = refl
bit_count Gate v c a b = refl
bit_count Xor v c a b = refl
bit_count Mux v c a b = refl
bit_count Add v c a b = refl
bit_count Sub v c a b = refl
bit_count Eq v c a b = refl
bit_count Less v c a b = refl

none_added : (bits : Bits) (c : ℕ) (z : Bool) → Holds bits c z → Adds bits [] [] [] c z
none_added bits c z hc = record {
  more = [];
  after = λ gs. ap (after_gates gs) (sym (append-nil bits));
  size = refl;
  literals = tt;
  carry = let P : Bits → Type 0 = λ b. Holds b c z in subst P (sym (append-nil bits)) hc;
}

pub chain_adds : (k : Kind) (bits : Bits) (v c : ℕ) (ms bs : List ℕ) (z : Bool) (xs ys : List Bool) → v ≡ length bits
    → Holds bits c z → HoldAll bits ms xs → HoldAll bits bs ys
    → Adds bits (chain_gates k v c ms bs) (chain_literals k v ms bs) (chain_values k z xs ys) (chain_carry k v c ms bs) (chain_end k z xs ys)
chain_adds k bits v c [] bs z [] ys e hc ha hb = none_added bits c z hc
chain_adds k bits v c [] bs z (x ∷ xs) ys e hc ha hb = absurd ha
chain_adds k bits v c (a ∷ ls) bs z [] ys e hc ha hb = absurd ha
chain_adds k bits v c (a ∷ ls) [] z (x ∷ xs) [] e hc ha hb = none_added bits c z hc
chain_adds k bits v c (a ∷ ls) [] z (x ∷ xs) (y ∷ ys) e hc ha hb = absurd hb
chain_adds k bits v c (a ∷ ls) (b ∷ bs) z (x ∷ xs) [] e hc ha hb = absurd hb
chain_adds k bits v c (a ∷ ls) (b ∷ bs) z (x ∷ xs) (y ∷ ys) e hc ha hb =
    let new : Bits = bit_shown k z x y in
    let long : v + bit_cost k ≡ length (bits ++ new) = omega (arith, e, length-append bits new, bit_size k v c a b z x y, bit_count k v c a b) in
    let rest : Adds (bits ++ new) (chain_gates k (v + bit_cost k) (bit_carry k v c) ls bs) (chain_literals k (v + bit_cost k) ls bs) (chain_values k (carry_value k z x y) xs ys)
    (chain_carry k (v + bit_cost k) (bit_carry k v c) ls bs) (chain_end k (carry_value k z x y) xs ys) =
    chain_adds k (bits ++ new) (v + bit_cost k) (bit_carry k v c) ls bs (carry_value k z x y) xs ys long
    (carry_holds k bits v c z x y e hc) (hold_all_on bits new ls xs ha.1) (hold_all_on bits new bs ys hb.1) in
    let tail : List (ℕ × ℕ) = chain_gates k (v + bit_cost k) (bit_carry k v c) ls bs in
    record {
      more = new ++ rest.more;
      after = λ gs.
          ap (λ (hs : List (ℕ × ℕ)). after_gates hs bits) (append_assoc (bit_gates k v c a b) tail gs)
          ∙ (bit_more k bits v c a b z x y (tail ++ gs) e hc ha.0 hb.0 ∙ (rest.after gs ∙ ap (after_gates gs) (append_assoc bits new rest.more)));
      size = omega (arith, length-append new rest.more, length-append (bit_gates k v c a b) tail, rest.size, bit_size k v c a b z x y);
      literals = (joined bits new rest.more (bit_literal k v) (bit_value k z x y) (holds_on (bits ++ new) rest.more _ _ (bit_holds k bits v z x y e)), all_joined bits new rest.more _ _ rest.literals);
      carry = joined bits new rest.more _ _ rest.carry;
    }
