-- How many cells an array has, and how its words are placed one behind the other.
use Rattle.std.proofs.Common.{◌≡◌, ℕ, zero, suc, ◌+◌, ◌*◌, ◌≤◌, List, [], ◌∷◌, ◌++◌, refl, sym, ◌∙◌, ap, subst, arith, append_assoc, append-nil}
use Rattle.std.specs.Prelude.{◌<◌, ◌-◌, length}
use Rattle.std.proofs.lemmas.List.{length-append}
use Rattle.gos_netlist.specs.Nets.{Cell}
use Rattle.gos_pool.specs.Pools.{Pool, KeepsClosed, with_cell}
use Rattle.gos_model.specs.Typing.{index_width}
use Rattle.gos_macro.specs.Gates.{Incoming}
use Rattle.gos_macro.specs.Cells.{Places}
use Rattle.gos_data.specs.BodyAnswer.{number_cells}
use Rattle.gos_data.specs.Words.{WordNets, word_cells, words_cells, picked_net}
use Rattle.gos_data.specs.Array.{array_head, array_nets, array_words, array_cells}
use Rattle.gos_data.specs.inner.Sizes.{array_size}
use Rattle.gos_data.specs.laws.WordsKept.{words_length}

pub array_length : (w n v b : ℕ) (i : Incoming) → length (array_cells w n v b i) ≡ array_size n v
array_length w n zero b i =
    let words = words_length w (index_width n) (array_nets b i) b 19 0 (b + 17) n in
    let behind = length-append (array_words w n b i) [] in
    omega (arith, words, behind)
array_length w n (suc v) b i =
    let words = words_length w (index_width n) (array_nets b i) b 19 0 (b + 17) n in
    let behind = length-append (array_words w n b i) (number_cells (suc v) i) in
    omega (arith, words, behind)

pub size_at_least : (n v : ℕ) → 19 + 7 * n ≤ array_size n v
size_at_least n zero = omega arith
size_at_least n (suc v) = omega arith

pub size_with_number : (n v : ℕ) → 0 < v → array_size n v ≡ 20 + 7 * n
size_with_number n zero some = absurd (omega (arith, some))
size_with_number n (suc v) some = refl

-- the first of some words, and the others
pub next_word : (w i : ℕ) (a : WordNets) (b n x s left : ℕ) → 0 < left
    → words_cells w i a b n x s left ≡ word_cells w i a b n x s ++ words_cells w i a b (n + 7) (suc x) (b + (n + 6)) (left - 1)
next_word w i a b n x s zero some = absurd (omega (arith, some))
next_word w i a b n x s (suc left) some =
    let here : left ≡ suc left - 1 = omega arith in
    ap (λ (m : ℕ). word_cells w i a b n x s ++ words_cells w i a b (n + 7) (suc x) (b + (n + 6)) m) here

-- the net of what all words pick
pub last_picked : (b n s left : ℕ) → picked_net b n s (suc left) ≡ b + (n + (7 * left + 6))
last_picked b n s zero = omega arith
last_picked b n s (suc left) = let rest = last_picked b (n + 7) (b + (n + 6)) left in omega (arith, rest)

-- cells that are placed behind others that were
pub both_placed : (xs ys : List Cell) (old mid new : Pool) → Places xs old mid → Places ys mid new → Places (xs ++ ys) old new
both_placed xs ys old mid new first second =
    let long = length-append xs ys in
    let used_first = first.used in
    let used_second = second.used in
    record {
      added = second.added ∙ (ap (λ (cs : List Cell). cs ++ ys) first.added ∙ append_assoc old.cells xs ys);
      used = omega (arith, long, used_first, used_second);
      begun = second.begun ∙ first.begun;
      closed = second.closed ∙ first.closed;
      kept =
          record {
            closed = λ region there. second.kept.closed region (first.kept.closed region there);
            cells = λ region there. second.kept.cells region (first.kept.closed region there) ∙ first.kept.cells region there;
          };
    }

-- no cells are placed already
pub none_placed : (pool : Pool) → Places [] pool pool
none_placed pool =
    record {
      added = sym (append-nil pool.cells);
      used = omega arith;
      begun = refl;
      closed = refl;
      kept = record { closed = λ region there. there; cells = λ region there. refl };
    }

-- one word is placed, and then who places the others places all
pub word_placed : (w i : ℕ) (a : WordNets) (b n x s left y net : ℕ) (whole : List Cell) (first old mid : Pool) → 0 < left → y ≡ suc x → net ≡ b + (n + 6)
    → Places (word_cells w i a b n x s) old mid → ((new : Pool) → Places (words_cells w i a b n x s left) old new → Places whole first new)
    → (new : Pool) → Places (words_cells w i a b (n + 7) y net (left - 1)) mid new → Places whole first new
word_placed w i a b n x s left y net whole first old mid some next picked here all new behind =
    let rest = subst (λ (m : ℕ). Places (words_cells w i a b (n + 7) (suc x) m (left - 1)) mid new) picked
    (subst (λ (z : ℕ). Places (words_cells w i a b (n + 7) z net (left - 1)) mid new) next behind) in
    all new
    (subst (λ (cs : List Cell). Places cs old new) (sym (next_word w i a b n x s left some))
    (both_placed (word_cells w i a b n x s) (words_cells w i a b (n + 7) (suc x) (b + (n + 6)) (left - 1)) old mid new here rest))

-- the cells ahead of the words, which know where the number is picked
pub picked_is : (b n : ℕ) → 0 < n → b + (18 + 7 * n) ≡ picked_net b 19 (b + 17) n
picked_is b zero some = absurd (omega (arith, some))
picked_is b (suc n) some = let last = last_picked b 19 (b + 17) n in omega (arith, last)

-- all cells: those ahead, the words, and what the body answers
pub without_number : (w n v b : ℕ) (i : Incoming) (old mid new : Pool) → v ≡ 0 → Places (array_head w b (picked_net b 19 (b + 17) n) i) old mid
    → Places (array_words w n b i) mid new → Places (array_cells w n v b i) old new
without_number w n v b i old mid new none head words =
    subst (λ (m : ℕ). Places (array_cells w n m b i) old new) (sym none)
    (subst (λ (cs : List Cell). Places (array_head w b (picked_net b 19 (b + 17) n) i ++ cs) old new) (sym (append-nil (array_words w n b i)))
    (both_placed (array_head w b (picked_net b 19 (b + 17) n) i) (array_words w n b i) old mid new head words))

pub with_number : (w n v b : ℕ) (i : Incoming) (cell : Cell) (old mid late new : Pool) → cell ∷ [] ≡ number_cells v i → 0 < late.spare
    → Places (array_head w b (picked_net b 19 (b + 17) n) i) old mid → Places (array_words w n b i) mid late → new ≡ with_cell late cell → KeepsClosed late new
    → Places (array_cells w n v b i) old new
with_number w n v b i cell old mid late new is some head words put kept =
    let number : Places (cell ∷ []) late new =
    record {
      added = ap (λ (p : Pool). p.cells) put;
      used = (let spare = ap (λ (p : Pool). p.spare) put in omega (arith, spare, some));
      begun = ap (λ (p : Pool). p.begun) put;
      closed = ap (λ (p : Pool). p.closed) put;
      kept = kept;
    } in
    both_placed (array_head w b (picked_net b 19 (b + 17) n) i) (array_words w n b i ++ number_cells v i) old mid new head
    (both_placed (array_words w n b i) (number_cells v i) mid late new words (subst (λ (cs : List Cell). Places cs late new) is number))

-- where the body is an expression there is room for its number behind the words
pub room_left : (w n v b d : ℕ) (i : Incoming) (old mid late : Pool) → 0 < v → array_size n v ≤ old.spare
    → Places (array_head w b (picked_net b 19 (b + 17) n) i) old mid → Places (array_words w n d i) mid late → 0 < late.spare
room_left w n v b d i old mid late some room head words =
    let size = size_with_number n v some in
    let long = words_length w (index_width n) (array_nets d i) d 19 0 (d + 17) n in
    let first = head.used in
    let second = words.used in
    omega (arith, size, long, first, second, room)
