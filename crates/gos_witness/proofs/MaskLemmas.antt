-- Which ports stand in a term, bit by bit.
use Rattle.std.proofs.Common.{◌≡◌, ◌↔◌, ◌⊎◌, ◌<◌, ◌≤◌, ◌/◌, ◌%◌, ◌^◌, ◌*◌, ◌+◌, ℕ, zero, suc, List, [], ◌∷◌, ◌++◌, Option, Some, None, length, refl, sym, ap, subst, arith, inl, inr, ◌∙◌}
use Rattle.std.specs.Prelude.{Contains, Bool, true, false, nat_eq, nat_lt, ◌-◌, if◌then◌else◌, slice_get, get_or}
use Rattle.std.specs.Int.{bit_at}
use Rattle.std.proofs.Math.Seq.{get_or-append_seam}
use Rattle.std.proofs.lemmas.List.{get_or_append_left}
use Rattle.gos_witness.proofs.KeepLemmas.{one_longer}
use Rattle.std.specs.Int.Bits.{bit_or}
use Rattle.std.proofs.lemmas.Nat.Bits.{bit_at_or, bit_at-zero, bit_at-lt, bit_at-pow_same, bit_at-pow_other}
use Rattle.std.proofs.Math.Pow.{pow-lt}
use Rattle.std.proofs.Math.Nat.{mod-eq_of_lt}
use Rattle.gos_model.specs.Terms.{Name, Term, Skip, Lit, Bound, Import, Lam, App, Both, Fst, Snd, Seq, Par, If, While, Assign, Deref, New, NewArray, Not, Bin, Loc, Arr, Scope, Wait, Held, Put}
use Rattle.gos_model.specs.Labels.{Taken}
use Rattle.gos_swaps.specs.needed.Needed.{HasPort}
use Rattle.gos_model.specs.Typing.{Thing, Variable, Named, Place, things}
use Rattle.gos_swaps.proofs.proper.ThingLemmas.{there, left_part, right_part, by_parts, only_one, nothing}
use Rattle.gos_witness.specs.declared.nodes.Leaf.{Leaf}
use Rattle.gos_witness.specs.declared.nodes.OnePart.{OnePart}
use Rattle.gos_witness.specs.declared.nodes.OnePart.TheVariants as one
use Rattle.gos_witness.specs.declared.nodes.TwoParts.{TwoParts}
use Rattle.gos_witness.specs.declared.nodes.TwoParts.TheVariants as two
use Rattle.gos_witness.specs.declared.program.ProgramPort.{ProgramPort}
use Rattle.gos_witness.specs.declared.masks.Masks.{Masks}
use Rattle.gos_witness.specs.NodeLists.{Tables, Listed, seen, name_at, leaf_term, one_term, two_term}
use Rattle.gos_witness.specs.Ports.{ArePorts, name_of, port_of}
use Rattle.gos_witness.specs.inner.PortMasks.{Mentions, IsNumberOf, HasBit, IsMask, AreMasks, IsMarked, Knows}
use Rattle.gos_witness.specs.inner.Keeping.{Keeps}

-- what is mentioned is among the things of a term, and the other way round

named_is : (x y : Name) → Named x ≡ Named y → y ≡ x
named_is x y e = ap name_of (sym e)
  where
    name_of : Thing → Name
    name_of (Named z) = z
    name_of t = []

two_mentioned :
    (x : Name) (m n : Term) (d : ℕ) → (Mentions x m → Contains (things d m) (Named x)) → (Mentions x n → Contains (things d n) (Named x))
    → Mentions x m ⊎ Mentions x n → Contains (things d m ++ things d n) (Named x)
two_mentioned x m n d f g (inl h) = left_part (things d m) (things d n) (Named x) (f h)
two_mentioned x m n d f g (inr h) = right_part (things d m) (things d n) (Named x) (g h)

pub mentioned : (x : Name) (m : Term) (d : ℕ) → Mentions x m → Contains (things d m) (Named x)
mentioned x (Import y) d e = subst (λ (z : Name). Contains (Named y ∷ []) (Named z)) e (there (Named y))
mentioned x (Wait y s) d e = subst (λ (z : Name). Contains (Named y ∷ []) (Named z)) e (there (Named y))
mentioned x (Lam a m) d h = mentioned x m (suc d) h
mentioned x (App m n) d h = two_mentioned x m n d (λ k. mentioned x m d k) (λ k. mentioned x n d k) h
mentioned x (Both m n) d h = two_mentioned x m n d (λ k. mentioned x m d k) (λ k. mentioned x n d k) h
mentioned x (Fst m) d h = mentioned x m d h
mentioned x (Snd m) d h = mentioned x m d h
mentioned x (Seq m n) d h = two_mentioned x m n d (λ k. mentioned x m d k) (λ k. mentioned x n d k) h
mentioned x (Par m n) d h = two_mentioned x m n d (λ k. mentioned x m d k) (λ k. mentioned x n d k) h
mentioned x (If m n p) d (inl h) = left_part (things d m) (things d n ++ things d p) (Named x) (mentioned x m d h)
mentioned x (If m n p) d (inr h) = right_part (things d m) (things d n ++ things d p) (Named x) (two_mentioned x n p d (λ k. mentioned x n d k) (λ k. mentioned x p d k) h)
mentioned x (While m n) d h = two_mentioned x m n d (λ k. mentioned x m d k) (λ k. mentioned x n d k) h
mentioned x (Assign m n) d h = two_mentioned x m n d (λ k. mentioned x m d k) (λ k. mentioned x n d k) h
mentioned x (Deref m) d h = mentioned x m d h
mentioned x (New w m) d h = mentioned x m (suc d) h
mentioned x (NewArray n w m) d h = mentioned x m (suc d) h
mentioned x (Not m) d h = mentioned x m d h
mentioned x (Bin op m n) d h = two_mentioned x m n d (λ k. mentioned x m d k) (λ k. mentioned x n d k) h
mentioned x (Scope l m) d h = right_part (Place l ∷ []) (things d m) (Named x) (mentioned x m d h)
mentioned x (Held k op n) d h = mentioned x n d h
mentioned x (Put m k) d h = mentioned x m d h
mentioned x m d h = absurd h

not_variable : (x : Name) (n : ℕ) → Named x ≡ Variable n → ⊥
not_variable x n e = cc e

not_place : (x : Name) (l : ℕ) → Named x ≡ Place l → ⊥
not_place x l e = cc e

two_of :
    (x : Name) (m n : Term) (d : ℕ) → (Contains (things d m) (Named x) → Mentions x m) → (Contains (things d n) (Named x) → Mentions x n)
    → Contains (things d m ++ things d n) (Named x) → Mentions x m ⊎ Mentions x n
two_of x m n d f g h = by_parts (things d m) (things d n) (Named x) (λ k. inl (f k)) (λ k. inr (g k)) h

pub mentions_of : (x : Name) (m : Term) (d : ℕ) → Contains (things d m) (Named x) → Mentions x m
mentions_of x Skip d h = nothing (Named x) h
mentions_of x (Lit k w) d h = nothing (Named x) h
mentions_of x (Bound i) d h = by (nat_lt i d) h
  where
    by : (b : Bool) → Contains (if b then [] else Variable (i - d) ∷ []) (Named x) → ⊥
    by true k = nothing (Named x) k
    by false k = not_variable x (i - d) (only_one (Variable (i - d)) (Named x) k)
mentions_of x (Import y) d h = named_is x y (only_one (Named y) (Named x) h)
mentions_of x (Wait y s) d h = named_is x y (only_one (Named y) (Named x) h)
mentions_of x (Lam a m) d h = mentions_of x m (suc d) h
mentions_of x (App m n) d h = two_of x m n d (λ k. mentions_of x m d k) (λ k. mentions_of x n d k) h
mentions_of x (Both m n) d h = two_of x m n d (λ k. mentions_of x m d k) (λ k. mentions_of x n d k) h
mentions_of x (Fst m) d h = mentions_of x m d h
mentions_of x (Snd m) d h = mentions_of x m d h
mentions_of x (Seq m n) d h = two_of x m n d (λ k. mentions_of x m d k) (λ k. mentions_of x n d k) h
mentions_of x (Par m n) d h = two_of x m n d (λ k. mentions_of x m d k) (λ k. mentions_of x n d k) h
mentions_of x (If m n p) d h =
    by_parts (things d m) (things d n ++ things d p) (Named x) (λ k. inl (mentions_of x m d k)) (λ k. inr (two_of x n p d (λ j. mentions_of x n d j) (λ j. mentions_of x p d j) k)) h
mentions_of x (While m n) d h = two_of x m n d (λ k. mentions_of x m d k) (λ k. mentions_of x n d k) h
mentions_of x (Assign m n) d h = two_of x m n d (λ k. mentions_of x m d k) (λ k. mentions_of x n d k) h
mentions_of x (Deref m) d h = mentions_of x m d h
mentions_of x (New w m) d h = mentions_of x m (suc d) h
mentions_of x (NewArray n w m) d h = mentions_of x m (suc d) h
mentions_of x (Not m) d h = mentions_of x m d h
mentions_of x (Bin op m n) d h = two_of x m n d (λ k. mentions_of x m d k) (λ k. mentions_of x n d k) h
mentions_of x (Loc l) d h = not_place x l (only_one (Place l) (Named x) h)
mentions_of x (Arr l) d h = not_place x l (only_one (Place l) (Named x) h)
mentions_of x (Scope l m) d h =
    by_parts (Place l ∷ []) (things d m) (Named x) (λ k. absurd (not_place x l (only_one (Place l) (Named x) k))) (λ k. mentions_of x m d k) h
mentions_of x (Held k op n) d h = mentions_of x n d h
mentions_of x (Put m k) d h = mentions_of x m d h

-- Bits.

pub no_bit : (k : ℕ) → HasBit 0 k → ⊥
no_bit k h = omega (arith, h, bit_at-zero k)

pub either_bit : (a b k : ℕ) → HasBit (bit_or a b) k ↔ (HasBit a k ⊎ HasBit b k)
either_bit a b k = (to, back)
  where
    to : HasBit (bit_or a b) k → HasBit a k ⊎ HasBit b k
    to h = by (bit_at a k) refl
      where
        by : (n : ℕ) → bit_at a k ≡ n → HasBit a k ⊎ HasBit b k
        by zero e = inr (omega (arith, h, e, bit_at_or a b k))
        by (suc zero) e = inl e
        by (suc (suc n)) e = absurd (omega (arith, e, bit_at-lt a k))

    back : HasBit a k ⊎ HasBit b k → HasBit (bit_or a b) k
    back (inl h) = bit_at_or a b k ∙ omega (arith, h, bit_at-lt b k)
    back (inr h) = bit_at_or a b k ∙ omega (arith, h, bit_at-lt a k)

pub one_bit : (n k : ℕ) → HasBit (2 ^ n) k ↔ (k ≡ n)
one_bit n k = (to, λ e. subst (λ (z : ℕ). HasBit (2 ^ n) z) (sym e) (bit_at-pow_same n))
  where
    to : HasBit (2 ^ n) k → k ≡ n
    to h = by (nat_eq k n) refl
      where
        by : (b : Bool) → nat_eq k n ≡ b → k ≡ n
        by true e = grind (arith, e)
        by false e = absurd (omega (arith, h, bit_at-pow_other n k (λ same. absurd (grind (arith, e, same)))))

pub shifted_bit : (n k : ℕ) → n < 64 → HasBit (1 * 2 ^ n % 18446744073709551616) k ↔ (k ≡ n)
shifted_bit n k less =
    let small : 2 ^ n < 2 ^ 64 = pow-lt less in
    let one : 1 * 2 ^ n ≡ 2 ^ n = omega arith in
    let same : 1 * 2 ^ n % 18446744073709551616 ≡ 2 ^ n = ap (λ (z : ℕ). z % 18446744073709551616) one ∙ mod-eq_of_lt small in
    subst (λ (z : ℕ). HasBit z k ↔ (k ≡ n)) (sym same) (one_bit n k)

some_one : (q p : ProgramPort) → Some q ≡ Some p → q ≡ p
some_one q p e = ap (λ (z : Option ProgramPort). of_some z) e
  where
    of_some : Option ProgramPort → ProgramPort
    of_some None = q
    of_some (Some z) = z

-- The port of a name is looked for.

pub none_with_next :
    (ports : List ProgramPort) (x : Name) (n : ℕ) (q : ProgramPort) → ((k : ℕ) (p : ProgramPort) → 0 < k → k < n → slice_get ports k ≡ Some p → p.name ≡ x → ⊥)
    → slice_get ports n ≡ Some q → (q.name ≡ x → ⊥) → (k : ℕ) (p : ProgramPort) → 0 < k → k < n + 1 → slice_get ports k ≡ Some p → p.name ≡ x → ⊥
none_with_next ports x n q before here other k p some less at e = by (nat_lt k n) refl
  where
    by : (b : Bool) → nat_lt k n ≡ b → ⊥
    by true below = before k p some (grind (arith, below)) at e
    by false from =
        let not_below : n ≤ k = grind (arith, from) in
        let same : n ≡ k = omega (arith, less, not_below) in
        other (ap (λ (z : ProgramPort). z.name) (some_one q p (sym here ∙ (ap (slice_get ports) same ∙ at))) ∙ e)

-- Masks of the forms.

module _ (ports : List ProgramPort) (block : ℕ) where
  pub mask_none : (m : Term) → ((x : Name) → Mentions x m → ⊥) → IsMask ports block 0 m
  mask_none m none k p some at here = ((λ h. absurd (no_bit (k % 64) h)), λ h. absurd (none p.name h))

  pub mask_one : (mask : ℕ) (a : Tables) (o : OnePart) (m : Term) → IsMask ports block mask m → IsMask ports block mask (one_term a o m)
  mask_one mask a (one.Lam t) m h = h
  mask_one mask a (one.New w) m h = h
  mask_one mask a (one.NewArray n w) m h = h
  mask_one mask a one.Fst m h = h
  mask_one mask a one.Snd m h = h
  mask_one mask a one.Deref m h = h
  mask_one mask a one.Not m h = h
  mask_one mask a (one.Scope l) m h = h
  mask_one mask a (one.Held k op) m h = h
  mask_one mask a (one.Put k) m h = h

  pub mask_or : (x y : ℕ) (m n : Term) → IsMask ports block x m → IsMask ports block y n
      → (k : ℕ) (p : ProgramPort) → 0 < k → slice_get ports k ≡ Some p → k / 64 ≡ block → HasBit (bit_or x y) (k % 64) ↔ (Mentions p.name m ⊎ Mentions p.name n)
  mask_or x y m n f g k p some at here = (
    λ h. first ((either_bit x y (k % 64)).0 h),
    λ h. (either_bit x y (k % 64)).1 (second h),
  )
    where
      first : HasBit x (k % 64) ⊎ HasBit y (k % 64) → Mentions p.name m ⊎ Mentions p.name n
      first (inl h) = inl ((f k p some at here).0 h)
      first (inr h) = inr ((g k p some at here).0 h)

      second : Mentions p.name m ⊎ Mentions p.name n → HasBit x (k % 64) ⊎ HasBit y (k % 64)
      second (inl h) = inl ((f k p some at here).1 h)
      second (inr h) = inr ((g k p some at here).1 h)

  pub mask_two : (x y : ℕ) (o : TwoParts) (m n : Term) → IsMask ports block x m → IsMask ports block y n → IsMask ports block (bit_or x y) (two_term o m n)
  mask_two x y two.App m n f g = mask_or x y m n f g
  mask_two x y two.Both m n f g = mask_or x y m n f g
  mask_two x y two.Seq m n f g = mask_or x y m n f g
  mask_two x y two.Par m n f g = mask_or x y m n f g
  mask_two x y two.While m n f g = mask_or x y m n f g
  mask_two x y two.Assign m n f g = mask_or x y m n f g
  mask_two x y (two.Bin op) m n f g = mask_or x y m n f g

  pub mask_three : (x y z : ℕ) (m n p : Term) → IsMask ports block x m → IsMask ports block y n → IsMask ports block z p
      → IsMask ports block (bit_or x (bit_or y z)) (If m n p)
  mask_three x y z m n p f g h = mask_or x (bit_or y z) m (Par n p) f (mask_or y z n p g h)

  -- a name of a port in the block, in another one, and of no port
  abbrev pub IsNameMask : ℕ → Name → Type 0
  IsNameMask mask x = (k : ℕ) (p : ProgramPort) → 0 < k → slice_get ports k ≡ Some p → k / 64 ≡ block → HasBit mask (k % 64) ↔ (x ≡ p.name)

  pub name_bit : ArePorts ports → (x : Name) (j mask : ℕ) → IsNumberOf ports x (Some j) → j / 64 ≡ block
      → ((k : ℕ) → HasBit mask k ↔ (k ≡ j % 64)) → IsNameMask mask x
  name_bit are x j mask (some_j, q, at_j, named) here bits k p some at there = (to, back)
    where
      to : HasBit mask (k % 64) → x ≡ p.name
      to h =
          let low = (bits (k % 64)).0 h in
          let same : k ≡ j = omega (arith, low, here, there) in
          let one : q ≡ p = some_one q p (sym at_j ∙ (ap (slice_get ports) (sym same) ∙ at)) in
          sym named ∙ ap (λ (z : ProgramPort). z.name) one

      back : x ≡ p.name → HasBit mask (k % 64)
      back e =
          let same : j ≡ k = are.apart j k q p at_j at (named ∙ e) in
          (bits (k % 64)).1 (ap (λ (z : ℕ). z % 64) (sym same))

  pub name_elsewhere : ArePorts ports → (x : Name) (j : ℕ) → IsNumberOf ports x (Some j) → (j / 64 ≡ block → ⊥) → IsNameMask 0 x
  name_elsewhere are x j (some_j, q, at_j, named) other k p some at there = (
    λ h. absurd (no_bit (k % 64) h),
    λ e. absurd (other (ap (λ (z : ℕ). z / 64) (are.apart j k q p at_j at (named ∙ e)) ∙ there)),
  )

  pub name_none : (x : Name) → IsNumberOf ports x None → IsNameMask 0 x
  name_none x none k p some at there = ((λ h. absurd (no_bit (k % 64) h)), λ e. absurd (none k p some at (sym e)))

  pub mask_leaf : (a : Tables) (leaf : Leaf) → ((x : Name) → Mentions x (leaf_term a leaf) → ⊥) → IsMask ports block 0 (leaf_term a leaf)
  mask_leaf a leaf none = mask_none (leaf_term a leaf) none

-- The masks of a list.

none_there : (ports : List ProgramPort) (n : ℕ) → n < length ports → slice_get ports n ≡ None → ⊥
none_there [] n less e = omega (arith, less)
none_there (p ∷ ports) zero less e = cc e
none_there (p ∷ ports) (suc n) less e = none_there ports n (omega (arith, less)) e

pub no_masks : (ports : List ProgramPort) (l : Listed) (s : Masks) → s.ports.items ≡ [] → s.masks.items ≡ [] → AreMasks ports l s
no_masks ports l s names masks =
    let few = ap length names in
    let none = ap length masks in
    record {
      few_names = omega (arith, few);
      numbers = λ i less. absurd (omega (arith, few, less));
      few = omega (arith, none);
      masks = λ i less. absurd (omega (arith, none, less));
    }

-- a list that grows keeps them
pub masks_kept : (ports : List ProgramPort) (l l' : Listed) (s : Masks) → Keeps l l' → AreMasks ports l s → AreMasks ports l' s
masks_kept ports l l' s keeps are = record {
  few_names = omega (arith, are.few_names, keeps.tables.more_names);
  numbers = λ i less.
      subst (λ (x : Name). IsNumberOf ports x (get_or s.ports.items i None)) (sym (keeps.tables.names i (omega (arith, less, are.few_names)))) (are.numbers i less);
  few = omega (arith, are.few, keeps.more);
  masks = λ i less.
      subst (λ (m : Term). IsMask ports s.block (get_or s.masks.items i 0) m) (sym (keeps.terms i (omega (arith, less, are.few)))) (are.masks i less);
}

-- the port that they say
pub knows : (ports : List ProgramPort) (l : Listed) (port : ℕ) (s : Masks) → port < length ports → AreMasks ports l s → length s.masks.items ≡ length l.nodes
    → s.block ≡ port / 64 → Knows l (port_of ports port) port s
knows ports l zero s within are all block = record { all = all; marked = λ i less. ((λ h. absurd (omega (arith, h.0))), λ h. absurd h) }
knows ports l (suc n) s within are all block = record { all = all; marked = λ i less. by (slice_get ports (suc n)) refl i less }
  where
    by : (x : Option ProgramPort) → slice_get ports (suc n) ≡ x → (i : ℕ) → i < length l.nodes
        → IsMarked s (suc n) i ↔ HasPort (Taken (name_of x)) (seen l i)
    by None e i less = absurd (none_there ports (suc n) within e)
    by (Some p) e i less =
        let mask = are.masks i (omega (arith, all, less)) (suc n) p (omega arith) e (sym block) in (
          λ h. mentioned p.name (seen l i) 0 (mask.0 h.1),
          λ h. (omega arith, mask.1 (mentions_of p.name (seen l i) 0 h)),
        )

-- what holds of each element holds with one more
one_more_holds :
    {A : Type 0} (P : ℕ → A → Type 0) (xs : List A) (x d : A) → ((i : ℕ) → i < length xs → P i (get_or xs i d)) → P (length xs) x
    → (i : ℕ) → i < length (xs ++ x ∷ []) → P i (get_or (xs ++ x ∷ []) i d)
one_more_holds P xs x d holds last i less = by (nat_lt i (length xs)) refl
  where
    by : (b : Bool) → nat_lt i (length xs) ≡ b → P i (get_or (xs ++ x ∷ []) i d)
    by true e =
        let within : i < length xs = grind (arith, e) in
        subst (P i) (sym (get_or_append_left xs (x ∷ []) d i within)) (holds i within)
    by false e =
        let longer = one_longer xs x in
        let not_within : length xs ≤ i = grind (arith, e) in
        let same : length xs ≡ i = omega (arith, longer, less, not_within) in
        subst (λ (k : ℕ). P k (get_or (xs ++ x ∷ []) k d)) same (subst (P (length xs)) (sym (get_or-append_seam xs x [] d)) last)

pub one_name : (ports : List ProgramPort) (l : Listed) (s t : Masks) (found : Option ℕ) → AreMasks ports l s → length s.ports.items < length l.tables.names
    → IsNumberOf ports (name_at l.tables (length s.ports.items)) found → t.ports.items ≡ s.ports.items ++ found ∷ [] → t.masks.items ≡ s.masks.items → t.block ≡ s.block
    → AreMasks ports l t
one_name ports l s t found are less number names masks block =
    let longer = one_longer s.ports.items found in
    record {
      few_names = subst (λ (xs : List (Option ℕ)). length xs ≤ length l.tables.names) (sym names) (omega (arith, longer, less));
      numbers =
          subst (λ (xs : List (Option ℕ)). (i : ℕ) → i < length xs → IsNumberOf ports (name_at l.tables i) (get_or xs i None)) (sym names)
          (one_more_holds (λ i k. IsNumberOf ports (name_at l.tables i) k) s.ports.items found None are.numbers number);
      few = subst (λ (xs : List ℕ). length xs ≤ length l.nodes) (sym masks) are.few;
      masks =
          subst (λ (xs : List ℕ). (i : ℕ) → i < length xs → IsMask ports t.block (get_or xs i 0) (seen l i)) (sym masks)
          (subst (λ (b : ℕ). (i : ℕ) → i < length s.masks.items → IsMask ports b (get_or s.masks.items i 0) (seen l i)) (sym block) are.masks);
    }

-- with no masks any block will do
pub masks_cleared : (ports : List ProgramPort) (l : Listed) (s t : Masks) → AreMasks ports l s → t.ports.items ≡ s.ports.items → t.masks.items ≡ []
    → AreMasks ports l t
masks_cleared ports l s t are names masks =
    let none = ap length masks in
    record {
      few_names = subst (λ (xs : List (Option ℕ)). length xs ≤ length l.tables.names) (sym names) are.few_names;
      numbers =
          subst (λ (xs : List (Option ℕ)). (i : ℕ) → i < length xs → IsNumberOf ports (name_at l.tables i) (get_or xs i None)) (sym names) are.numbers;
      few = omega (arith, none);
      masks = λ i less. absurd (omega (arith, none, less));
    }
