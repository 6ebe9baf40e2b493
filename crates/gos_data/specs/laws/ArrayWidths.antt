-- The cells of an array have the widths of their pins.
--
-- Read first: Array, WordsKept; Fit; CellBits of laws.
use Rattle.std.proofs.Common.{◌≡◌, inl, inr, ℕ, zero, suc, ◌+◌, ◌*◌, ◌^◌, ◌≤◌, List, ◌++◌, refl, sym, ◌∙◌, subst, arith}
use Rattle.std.specs.Prelude.{◌<◌}
use Rattle.std.specs.List.{AllByRecursion}
use Rattle.gos_netcheck.specs.CellRules.{width_at, HasRightWidths}
use Rattle.gos_types.specs.declared.widths.TheConstants.{GREATEST_WIDTH}
use Rattle.gos_types.specs.Widths.{IsWidth}
use Rattle.gos_model.specs.Typing.{IsLength, index_width}
use Rattle.gos_plan.specs.Kinds.{Array, part_contacts}
use Rattle.gos_macro.specs.Gates.{Incoming}
use Rattle.gos_macro.specs.Fit.{BitsComeIn, HaveBits}
use Rattle.gos_macro.specs.laws.CellBits.{bits_at, bits_both, right_append}
use Rattle.gos_data.specs.BodyAnswer.{number_cells}
use Rattle.gos_data.specs.Words.{WordNets, word_cells, words_cells, picked_net}
use Rattle.gos_data.specs.Array.{array_head, array_nets, array_words, array_cells}
use Rattle.gos_data.specs.laws.WordsKept.{words_length}

-- the bits of an index are a width, and there are enough for each number
pub record IsIndexed (n : ℕ) : Type 0 where
  pub narrow : IsWidth (index_width n)
  pub room : n ≤ 2 ^ index_width n

pub indexed : (n : ℕ) → IsLength n → IsIndexed n
indexed n (inl is) = subst IsIndexed (sym is) (record { narrow = (omega arith, omega arith); room = omega arith })
indexed n (inr (inl is)) = subst IsIndexed (sym is) (record { narrow = (omega arith, omega arith); room = omega arith })
indexed n (inr (inr (inl is))) = subst IsIndexed (sym is) (record { narrow = (omega arith, omega arith); room = omega arith })
indexed n (inr (inr (inr is))) = subst IsIndexed (sym is) (record { narrow = (omega arith, omega arith); room = omega arith })

-- the widths
word_widths : (w i : ℕ) (a : WordNets) (b n x s : ℕ) (bits : List ℕ) → IsWidth w → IsWidth i → x < 2 ^ i → width_at bits a.index ≡ i → width_at bits a.writes ≡ 1
    → width_at bits a.written ≡ w → width_at bits a.stays ≡ 1 → width_at bits s ≡ w → HaveBits bits b n (word_cells w i a b n x s)
    → AllByRecursion (HasRightWidths bits) (word_cells w i a b n x s)
word_widths w i a b n x s bits (low, high) (some, few) small index writes written stays picked have =
    let (w0, (w1, (w2, (w3, (w4, (w5, (w6, nothing))))))) = bits_at bits b n (word_cells w i a b n x s) have in (
      (some, few, small),
      (
        (omega arith, omega arith, (index ∙ sym w0, refl)),
        (
          (omega arith, omega arith, (writes, w1)),
          (
            (low, high, (stays, w5)),
            ((low, high, (w2, written, w3)), ((low, high, w4), ((low, high, (w1, w5, picked)), tt))),
          ),
        ),
      ),
    )

words_widths : (w i : ℕ) (a : WordNets) (b n x s count : ℕ) (bits : List ℕ) → IsWidth w → IsWidth i → x + count ≤ 2 ^ i → width_at bits a.index ≡ i
    → width_at bits a.writes ≡ 1 → width_at bits a.written ≡ w → width_at bits a.stays ≡ 1 → width_at bits s ≡ w
    → HaveBits bits b n (words_cells w i a b n x s count) → AllByRecursion (HasRightWidths bits) (words_cells w i a b n x s count)
words_widths w i a b n x s zero bits width narrow room index writes written stays picked have = tt
words_widths w i a b n x s (suc count) bits width narrow room index writes written stays picked have =
    let word = word_cells w i a b n x s in
    let rest = words_cells w i a b (n + 7) (suc x) (b + (n + 6)) count in
    let both = bits_both bits b n 7 word rest refl have in
    let (w0, (w1, (w2, (w3, (w4, (w5, (w6, nothing))))))) = bits_at bits b n word both.0 in
    right_append bits word rest (word_widths w i a b n x s bits width narrow (omega (arith, room)) index writes written stays picked both.0)
    (words_widths w i a b (n + 7) (suc x) (b + (n + 6)) count bits width narrow (omega (arith, room)) index writes written stays w6 both.1)

number_widths : (w n u : ℕ) → u ≤ GREATEST_WIDTH → (i : Incoming) (bits : List ℕ) → BitsComeIn (part_contacts (Array w n u)) i bits
    → AllByRecursion (HasRightWidths bits) (number_cells u i)
number_widths w n zero small i bits come = tt
number_widths w n (suc u) small i bits come =
    let answer = come 0 (omega arith) in
    ((omega arith, small, (answer.0, answer.1 (omega arith))), tt)

pub array_widths : (w n u : ℕ) → IsWidth w → IsIndexed n → u ≤ GREATEST_WIDTH → (b : ℕ) (i : Incoming) (bits : List ℕ) → BitsComeIn (part_contacts (Array w n u)) i bits
    → HaveBits bits b 0 (array_cells w n u b i) → AllByRecursion (HasRightWidths bits) (array_cells w n u b i)
array_widths w n u width known small b i bits come have =
    let head = array_head w b (picked_net b 19 (b + 17) n) i in
    let words = array_words w n b i in
    let both = bits_both bits b 0 19 head (words ++ number_cells u i) refl have in
    let behind = bits_both bits b 19 (7 * n) words (number_cells u i) (words_length w (index_width n) (array_nets b i) b 19 0 (b + 17) n) both.1 in
    let (w0, (w1, (w2, (w3, (w4, (w5, (w6, (w7, (w8, (w9, (w10, (w11, (w12, (w13, (w14, (w15, (w16, (w17, (w18, nothing))))))))))))))))))) = both.0 in
    let body = (come 0 (omega arith)).0 in
    let index = come 1 (omega arith) in
    let read = (come 2 (omega arith)).0 in
    let write = come 3 (omega arith) in
    let request = (come 4 (omega arith)).0 in
    let low = width.0 in
    let high = width.1 in
    let one : 1 ≤ GREATEST_WIDTH = omega arith in
    right_append bits head (words ++ number_cells u i) (
      (omega arith, one, request),
      (
        (omega arith, one, (read, write.0)),
        (
          (omega arith, one, w1),
          (
            (omega arith, one, read),
            (
              (omega arith, one, (w6, w3)),
              (
                (omega arith, one, (write.0, w4)),
                (
                  (omega arith, one, w5),
                  (
                    (low, high, (write.0, write.1 low, w8)),
                    (
                      (low, high, w7),
                      (
                        (omega arith, one, w6),
                        (
                          (omega arith, one, (index.0, w9)),
                          (
                            (omega arith, one, (index.0, w6)),
                            (
                              (omega arith, one, w10),
                              (
                                (omega arith, one, w11),
                                (
                                  (low, high, picked_width w (index_width n) (array_nets b i) b 19 0 (b + 17) n bits w17 behind.0),
                                  (
                                    (low, high, (w12, w14)),
                                    (
                                      (omega arith, one, request),
                                      (
                                        (low, high, power_is_some w),
                                        (
                                          (omega arith, one, (body, body)),
                                          tt,
                                        ),
                                      ),
                                    ),
                                  ),
                                ),
                              ),
                            ),
                          ),
                        ),
                      ),
                    ),
                  ),
                ),
              ),
            ),
          ),
        ),
      ),
    )
    (right_append bits words (number_cells u i)
    (words_widths w (index_width n) (array_nets b i) b 19 0 (b + 17) n bits width known.narrow (let room = known.room in omega (arith, room)) (index.1 known.narrow.0) w11 w8 w16 w17 behind.0)
    (number_widths w n u small i bits come))
  where
    power_is_some : (w : ℕ) → 0 < 2 ^ w
    power_is_some zero = omega arith
    power_is_some (suc w) = let some = power_is_some w in omega (arith, some)

    picked_width : (w i : ℕ) (a : WordNets) (b n x s count : ℕ) (bits : List ℕ) → width_at bits s ≡ w → HaveBits bits b n (words_cells w i a b n x s count)
        → width_at bits (picked_net b n s count) ≡ w
    picked_width w i a b n x s zero bits known have = known
    picked_width w i a b n x s (suc count) bits known have =
        let word = word_cells w i a b n x s in
        let both = bits_both bits b n 7 word (words_cells w i a b (n + 7) (suc x) (b + (n + 6)) count) refl have in
        let (w0, (w1, (w2, (w3, (w4, (w5, (w6, nothing))))))) = bits_at bits b n word both.0 in
        picked_width w i a b (n + 7) (suc x) (b + (n + 6)) count bits w6 both.1
