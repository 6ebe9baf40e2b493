-- A table of words: where none of them stands, it breaks off where the one that goes furthest does.
use Rattle.std.proofs.Common.{◌≡◌, inl, inr, ◌⊎◌, ℕ, ◌+◌, ◌<◌, ◌≤◌, List, [], ◌++◌, length, get_or, sym, ◌∙◌, ap, subst, arith, append_assoc}
use Rattle.std.specs.List.{slice_range}
use Rattle.std.proofs.lemmas.Bool.{cases_lt}
use Rattle.gos_lex.specs.Items.{IsJust, Misses}
use Rattle.gos_lex.proofs.PlaceLemmas.{slice_split}
use Rattle.gos_lex.specs.ItemTexts.{IsTextOf}
use Rattle.gos_lex.proofs.SequenceLemmas.{misses_as}

-- one of the first so many words
abbrev pub IsAmongFirst : ℕ → List (List ℕ) → List ℕ → Type 0
IsAmongFirst n words = IsTextOf ℕ (λ k. k < n) (λ k. get_or words k [])

-- the first word alone
pub first_word : (words : List (List ℕ)) (word text : List ℕ) (at place : ℕ) → get_or words 0 [] ≡ word → Misses (IsJust word) text at place → Misses (IsAmongFirst 1 words) text at place
first_word words word text at place is =
    misses_as (IsJust word) (IsAmongFirst 1 words) text at place (λ bytes same. (0, omega arith, same ∙ sym is))
    (λ bytes item. let none : item.0 ≡ 0 = omega (arith, item.1) in item.2 ∙ (ap (λ (k : ℕ). get_or words k []) none ∙ is))

-- of two kinds of items the one that goes further
either : (P Q R : List ℕ → Type 0) (text : List ℕ) (at near far : ℕ) → near ≤ far → ((bytes : List ℕ) → R bytes → P bytes ⊎ Q bytes) → ((bytes : List ℕ) → Q bytes → R bytes)
    → Misses P text at near → Misses Q text at far → Misses R text at far
either P Q R text at near far order cases holds before this =
    record {
      stops = record {
        after = this.stops.after;
        within = this.stops.within;
        before = (this.stops.before.0, holds _ this.stops.before.1);
        stops = λ some longer. stopped some longer.0 (cases _ longer.1);
      };
      none = λ end after within item. no_end end after within (cases _ item);
    }
  where
    stopped : far < length text → (more : List ℕ) → P (slice_range text at (far + 1) ++ more) ⊎ Q (slice_range text at (far + 1) ++ more) → ⊥
    stopped some more (inr item) = this.stops.stops some (more, item)
    stopped some more (inl item) =
        let split = slice_split text at (near + 1) (far + 1) (omega (arith, before.stops.after)) (omega (arith, order)) in
        let whole : slice_range text at (far + 1) ++ more ≡ slice_range text at (near + 1) ++ (slice_range text (near + 1) (far + 1) ++ more) =
        ap (λ part. part ++ more) split ∙ append_assoc (slice_range text at (near + 1)) (slice_range text (near + 1) (far + 1)) more in
        before.stops.stops (omega (arith, order, some)) (slice_range text (near + 1) (far + 1) ++ more, subst P whole item)

    no_end : (end : ℕ) → at ≤ end → end ≤ length text → P (slice_range text at end) ⊎ Q (slice_range text at end) → ⊥
    no_end end after within (inl item) = before.none end after within item
    no_end end after within (inr item) = this.none end after within item

-- with one word more
pub next_word : (n : ℕ) (words : List (List ℕ)) (word text : List ℕ) (at near far place : ℕ) → get_or words n [] ≡ word → near ≤ place → far ≤ place → (place ≡ near) ⊎ (place ≡ far)
    → Misses (IsAmongFirst n words) text at near → Misses (IsJust word) text at far → Misses (IsAmongFirst (n + 1) words) text at place
next_word n words word text at near far place is at_least reached same before this = by same
  where
    of_either : (bytes : List ℕ) → IsAmongFirst (n + 1) words bytes → IsAmongFirst n words bytes ⊎ IsJust word bytes
    of_either bytes item =
        elim (cases_lt item.0 n) [
          | inl earlier ↦ inl (item.0, earlier, item.2)
          | inr later ↦ let here : item.0 ≡ n = omega (arith, item.1, later) in inr (item.2 ∙ (ap (λ (k : ℕ). get_or words k []) here ∙ is))
        ]

    earlier : (bytes : List ℕ) → IsAmongFirst n words bytes → IsAmongFirst (n + 1) words bytes
    earlier bytes item = (item.0, omega (arith, item.1), item.2)

    last : (bytes : List ℕ) → IsJust word bytes → IsAmongFirst (n + 1) words bytes
    last bytes item = (n, omega arith, item ∙ sym is)

    swapped : (bytes : List ℕ) → IsAmongFirst n words bytes ⊎ IsJust word bytes → IsJust word bytes ⊎ IsAmongFirst n words bytes
    swapped bytes (inl item) = inr item
    swapped bytes (inr item) = inl item

    by : (place ≡ near) ⊎ (place ≡ far) → Misses (IsAmongFirst (n + 1) words) text at place
    by (inl here) =
        subst (Misses (IsAmongFirst (n + 1) words) text at) (sym here)
        (either (IsJust word) (IsAmongFirst n words) (IsAmongFirst (n + 1) words) text at far near (omega (arith, here, reached)) (λ bytes item. swapped bytes (of_either bytes item)) earlier this before)
    by (inr here) =
        subst (Misses (IsAmongFirst (n + 1) words) text at) (sym here)
        (either (IsAmongFirst n words) (IsJust word) (IsAmongFirst (n + 1) words) text at near far (omega (arith, here, at_least)) of_either last before this)
