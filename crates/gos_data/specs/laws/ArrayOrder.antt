-- The cells of an array: none is an input, no gate names a later gate, and what goes out are cells of its own.
--
-- Read first: Array, WordsKept; Fit; StandingCells of laws.
use Rattle.std.proofs.Common.{◌≡◌, inl, inr, ℕ, zero, suc, ◌+◌, ◌*◌, ◌≤◌, List, ◌++◌, Some, refl, subst, arith}
use Rattle.std.specs.Prelude.{slice_get}
use Rattle.std.proofs.lemmas.Option.{slice_get_within}
use Rattle.gos_netlist.specs.Nets.{Gate, Cell}
use Rattle.gos_types.specs.Widths.{IsWidth}
use Rattle.gos_model.specs.Typing.{index_width}
use Rattle.gos_plan.specs.Kinds.{Array, Contact, part_contacts}
use Rattle.gos_macro.specs.Gates.{Incoming}
use Rattle.gos_macro.specs.Fit.{IsOwn, AllGoOut, HasNoInput, IsKnown, NameEarlier}
use Rattle.gos_macro.specs.Cells.{wide}
use Rattle.gos_macro.specs.laws.StandingCells.{StandAt, stands_itself, stand_left, stand_right, no_input_append, names_from, names_append, own, any_own}
use Rattle.gos_data.specs.BodyAnswer.{number_cells}
use Rattle.gos_data.specs.Words.{WordNets, word_cells, words_cells, picked_net}
use Rattle.gos_data.specs.Array.{array_head, array_nets, array_words, array_cells, array_outs}
use Rattle.gos_data.specs.laws.WordsKept.{words_length}

-- no inputs
head_inner : (w b picked : ℕ) (i : Incoming) → HasNoInput (array_head w b picked i)
head_inner w b picked i = (
  (λ same. cc same),
  (
    (λ same. cc same),
    (
      (λ same. cc same),
      (
        (λ same. cc same),
        (
          (λ same. cc same),
          (
            (λ same. cc same),
            (
              (λ same. cc same),
              (
                (λ same. cc same),
                (
                  (λ same. cc same),
                  (
                    (λ same. cc same),
                    (
                      (λ same. cc same),
                      (
                        (λ same. cc same),
                        (
                          (λ same. cc same),
                          (
                            (λ same. cc same),
                            ((λ same. cc same), ((λ same. cc same), ((λ same. cc same), ((λ same. cc same), ((λ same. cc same), tt))))),
                          ),
                        ),
                      ),
                    ),
                  ),
                ),
              ),
            ),
          ),
        ),
      ),
    ),
  ),
)

words_inner : (w i : ℕ) (a : WordNets) (b n x s count : ℕ) → HasNoInput (words_cells w i a b n x s count)
words_inner w i a b n x s zero = tt
words_inner w i a b n x s (suc count) = (
  (λ same. cc same),
  (
    (λ same. cc same),
    (
      (λ same. cc same),
      (
        (λ same. cc same),
        (
          (λ same. cc same),
          (
            (λ same. cc same),
            (
              (λ same. cc same),
              words_inner w i a b (n + 7) (suc x) (b + (n + 6)) count,
            ),
          ),
        ),
      ),
    ),
  ),
)

number_inner : (u : ℕ) (i : Incoming) → HasNoInput (number_cells u i)
number_inner zero i = tt
number_inner (suc u) i = ((λ same. cc same), tt)

pub array_inner : (w n u b : ℕ) (i : Incoming) → HasNoInput (array_cells w n u b i)
array_inner w n u b i =
    no_input_append (array_head w b (picked_net b 19 (b + 17) n) i) (array_words w n b i ++ number_cells u i) (head_inner w b _ i)
    (no_input_append (array_words w n b i) (number_cells u i) (words_inner w (index_width n) (array_nets b i) b 19 0 (b + 17) n) (number_inner u i))

-- where the cells stand: the words behind the head, and the number of the body behind these
words_stand : (w n u b : ℕ) (i : Incoming) → StandAt (array_cells w n u b i) 19 (array_words w n b i)
words_stand w n u b i =
    stand_left (array_cells w n u b i) 19 (array_words w n b i) (number_cells u i)
    (stand_right (array_cells w n u b i) 0 19 (array_head w b (picked_net b 19 (b + 17) n) i) (array_words w n b i ++ number_cells u i) refl (stands_itself (array_cells w n u b i)))

number_stands : (w n u b : ℕ) (i : Incoming) → StandAt (array_cells w n u b i) (19 + 7 * n) (number_cells u i)
number_stands w n u b i =
    stand_right (array_cells w n u b i) 19 (7 * n) (array_words w n b i) (number_cells u i) (words_length w (index_width n) (array_nets b i) b 19 0 (b + 17) n)
    (stand_right (array_cells w n u b i) 0 19 (array_head w b (picked_net b 19 (b + 17) n) i) (array_words w n b i ++ number_cells u i) refl (stands_itself (array_cells w n u b i)))

-- what is picked is an own net
picked_own : (all : List Cell) (w i : ℕ) (a : WordNets) (b n x s count : ℕ) → StandAt all n (words_cells w i a b n x s count) → IsOwn b all s w
    → IsOwn b all (picked_net b n s count) w
picked_own all w i a b n x s zero stand known = known
picked_own all w i a b n x s (suc count) stand known =
    picked_own all w i a b (n + 7) (suc x) (b + (n + 6)) count
    (stand_right all n 7 (word_cells w i a b n x s) (words_cells w i a b (n + 7) (suc x) (b + (n + 6)) count) refl stand)
    (n + 6, _, refl, stand 6 _ refl, refl)

-- a net that is known from a place on
abbrev KnownFrom : List Contact → Incoming → ℕ → List Cell → ℕ → ℕ → Type 0
KnownFrom contacts i b all n net = (m : ℕ) → n ≤ m → IsKnown contacts i b all m net

word_order : (contacts : List Contact) (o : Incoming) (b : ℕ) (all : List Cell) (w i : ℕ) (a : WordNets) (n x s : ℕ)
    → KnownFrom contacts o b all n a.index → KnownFrom contacts o b all n a.writes → KnownFrom contacts o b all n a.written → KnownFrom contacts o b all n a.stays
    → KnownFrom contacts o b all n s → StandAt all n (word_cells w i a b n x s) → NameEarlier contacts o b all n (word_cells w i a b n x s)
word_order contacts o b all w i a n x s index writes written stays picked stand =
    let cs = word_cells w i a b n x s in
    let number : (m : ℕ) → IsKnown contacts o b all m (b + (n + 5)) = λ m. inr (n + 5, _, refl, stand 5 _ refl, inr (b + (n + 4), refl)) in
    names_from contacts o b all n n 0 cs (omega arith) (
      tt,
      (
        (index (n + 1) (omega arith), (own contacts o b all n 0 (n + 1) cs _ stand refl (omega arith), tt)),
        (
          (writes (n + 2) (omega arith), (own contacts o b all n 1 (n + 2) cs _ stand refl (omega arith), tt)),
          (
            (stays (n + 3) (omega arith), (number (n + 3), tt)),
            (
              (
                own contacts o b all n 2 (n + 4) cs _ stand refl (omega arith),
                (written (n + 4) (omega arith), (own contacts o b all n 3 (n + 4) cs _ stand refl (omega arith), tt)),
              ),
              (
                (any_own contacts o b all n 4 cs _ stand refl, tt),
                ((own contacts o b all n 1 (n + 6) cs _ stand refl (omega arith), (number (n + 6), (picked (n + 6) (omega arith), tt))), tt),
              ),
            ),
          ),
        ),
      ),
    )

words_order : (contacts : List Contact) (o : Incoming) (b : ℕ) (all : List Cell) (w i : ℕ) (a : WordNets) (n x s count : ℕ)
    → KnownFrom contacts o b all n a.index → KnownFrom contacts o b all n a.writes → KnownFrom contacts o b all n a.written → KnownFrom contacts o b all n a.stays
    → KnownFrom contacts o b all n s → StandAt all n (words_cells w i a b n x s count) → NameEarlier contacts o b all n (words_cells w i a b n x s count)
words_order contacts o b all w i a n x s zero index writes written stays picked stand = tt
words_order contacts o b all w i a n x s (suc count) index writes written stays picked stand =
    let word = word_cells w i a b n x s in
    let rest = words_cells w i a b (n + 7) (suc x) (b + (n + 6)) count in
    let first = stand_left all n word rest stand in
    let from : (m : ℕ) → n + 7 ≤ m → n ≤ m = λ m high. omega (arith, high) in
    names_append contacts o b all n 7 word rest refl (word_order contacts o b all w i a n x s index writes written stays picked first)
    (words_order contacts o b all w i a (n + 7) (suc x) (b + (n + 6)) count
    (λ m high. index m (from m high)) (λ m high. writes m (from m high)) (λ m high. written m (from m high)) (λ m high. stays m (from m high))
    (λ m high. own contacts o b all n 6 m word _ first refl (omega (arith, high)))
    (stand_right all n 7 word rest refl stand))

number_order : (w n u b : ℕ) (i : Incoming) (m : ℕ) → NameEarlier (part_contacts (Array w n u)) i b (array_cells w n u b i) m (number_cells u i)
number_order w n zero b i m = tt
number_order w n (suc u) b i m = ((inl (0, omega arith, inl refl), (inl (0, omega arith, inr (omega arith, refl)), tt)), tt)

head_order : (w n u : ℕ) → IsWidth w → (b : ℕ) (i : Incoming)
    → NameEarlier (part_contacts (Array w n u)) i b (array_cells w n u b i) 0 (array_head w b (picked_net b 19 (b + 17) n) i)
head_order w n u width b i =
    let all = array_cells w n u b i in
    let pulse : (h m : ℕ) → h ≤ 4 → IsKnown (part_contacts (Array w n u)) i b all m (i.pulse h) = λ h m there. inl (h, omega (arith, there), inl refl) in
    let picked = picked_own all w (index_width n) (array_nets b i) b 19 0 (b + 17) n (words_stand w n u b i) (17, _, refl, refl, refl) in
    let (k, c, is, there, bits) = picked in
    let writes : (m : ℕ) → IsKnown (part_contacts (Array w n u)) i b all m (b + 6) = λ m. inr (6, _, refl, refl, inr (b + 5, refl)) in
    let held : (m : ℕ) → IsKnown (part_contacts (Array w n u)) i b all m (b + 8) = λ m. inr (8, _, refl, refl, inr (b + 7, refl)) in (
      (pulse 4 _ (omega arith), tt),
      (
        (pulse 2 1 (omega arith), (pulse 3 1 (omega arith), tt)),
        (
          (inr (1, _, refl, refl, inl (omega arith)), tt),
          (
            (pulse 2 3 (omega arith), tt),
            (
              (writes 4, (inr (3, _, refl, refl, inl (omega arith)), tt)),
              (
                (pulse 3 5 (omega arith), (inr (4, _, refl, refl, inl (omega arith)), tt)),
                (
                  (inr (5, _, refl, refl, inl (omega arith)), tt),
                  (
                    (pulse 3 7 (omega arith), (inl (3, omega arith, inr (width.0, refl)), (held 7, tt))),
                    (
                      (inr (7, _, refl, refl, inl (omega arith)), tt),
                      (
                        (writes 9, tt),
                        (
                          (pulse 1 10 (omega arith), (inr (9, _, refl, refl, inl (omega arith)), tt)),
                          (
                            (pulse 1 11 (omega arith), (writes 11, tt)),
                            (
                              (inr (10, _, refl, refl, inl (omega arith)), tt),
                              (
                                (inr (11, _, refl, refl, inl (omega arith)), tt),
                                (
                                  (inr (k, c, is, there, inl (slice_get_within all k c there)), tt),
                                  (
                                    (inr (12, _, refl, refl, inr (b + 10, refl)), (inr (14, _, refl, refl, inr (picked_net b 19 (b + 17) n, refl)), tt)),
                                    (
                                      (pulse 4 16 (omega arith), tt),
                                      (
                                        tt,
                                        (
                                          (pulse 0 18 (omega arith), (pulse 0 18 (omega arith), tt)),
                                          tt,
                                        ),
                                      ),
                                    ),
                                  ),
                                ),
                              ),
                            ),
                          ),
                        ),
                      ),
                    ),
                  ),
                ),
              ),
            ),
          ),
        ),
      ),
    )

pub array_order : (w n u : ℕ) → IsWidth w → 1 ≤ index_width n → (b : ℕ) (i : Incoming)
    → NameEarlier (part_contacts (Array w n u)) i b (array_cells w n u b i) 0 (array_cells w n u b i)
array_order w n u width some b i =
    let contacts = part_contacts (Array w n u) in
    let all = array_cells w n u b i in
    let words = array_words w n b i in
    names_append contacts i b all 0 19 (array_head w b (picked_net b 19 (b + 17) n) i) (words ++ number_cells u i) refl (head_order w n u width b i)
    (names_append contacts i b all 19 (7 * n) words (number_cells u i) (words_length w (index_width n) (array_nets b i) b 19 0 (b + 17) n)
    (words_order contacts i b all w (index_width n) (array_nets b i) 19 0 (b + 17) n
    (λ m high. inl (1, omega arith, inr (some, refl)))
    (λ m high. inr (11, _, refl, refl, inl (omega (arith, high))))
    (λ m high. inr (8, _, refl, refl, inl (omega (arith, high))))
    (λ m high. inr (16, _, refl, refl, inl (omega (arith, high))))
    (λ m high. inr (17, _, refl, refl, inl (omega (arith, high))))
    (words_stand w n u b i))
    (number_order w n u b i (19 + 7 * n)))

-- what goes out
pub array_out : (w n u : ℕ) → IsWidth w → (b : ℕ) (i : Incoming) → AllGoOut b (array_cells w n u b i) (part_contacts (Array w n u)) (array_outs n u b)
array_out w n zero width b i = (
  (refl, (0, _, refl, refl, refl)),
  (
    (refl, (2, _, refl, refl, refl)),
    (
      (width.0, (12, _, refl, refl, refl), (15, _, refl, refl, refl)),
      ((refl, (13, _, refl, refl, refl)), ((refl, (18, _, refl, refl, refl)), tt)),
    ),
  ),
)
array_out w n (suc u) width b i =
    let here : (19 + 7 * n) + 0 ≡ 19 + 7 * n = omega arith in
    let last = wide (suc u) (Gate (i.pulse 0) (i.value 0)) in
    let there = subst (λ (m : ℕ). slice_get (array_cells w n (suc u) b i) m ≡ Some last) here (number_stands w n (suc u) b i 0 last refl) in (
      (refl, (0, _, refl, refl, refl)),
      (
        (refl, (2, _, refl, refl, refl)),
        (
          (width.0, (12, _, refl, refl, refl), (15, _, refl, refl, refl)),
          (
            (refl, (13, _, refl, refl, refl)),
            ((omega arith, (18, _, refl, refl, refl), (19 + 7 * n, last, refl, there, refl)), tt),
          ),
        ),
      ),
    )
