-- Where small texts of moves break off: their count is wrong, or a child is none.
use Rattle.std.proofs.Common.{◌≡◌, ℕ, zero, suc, ◌≤◌, List, [], ◌∷◌, ◌++◌, length, get_or, refl, sym, ◌∙◌, ap, arith, append_assoc}
use Rattle.std.specs.Prelude.{codes}
use Rattle.std.specs.Fmt.{decimal, digits}
use Rattle.std.specs.List.{AllByRecursion, flat_map}
use Rattle.std.proofs.lemmas.List.{append_cancel_left}
use Rattle.gos_lex.specs.Items.{StopsAt}
use Rattle.gos_lex.specs.ItemTexts.{ended}
use Rattle.gos_lex.proofs.NumberTextLemmas.{number_code}
use Rattle.gos_witness.specs.declared.moves.Line.{Line}
use Rattle.gos_witness.specs.declared.moves.Line.TheVariants.{Unfold, Step, Label, Root}
use Rattle.gos_witness.specs.Paths.{IsChild}
use Rattle.gos_witness.specs.MovesText.{line_text, HasPath, IsMovesTextOf, IsMovesText}
use Rattle.gos_witness.specs.SmallTexts.{SmallMovesBreaks}
use Rattle.gos_witness.specs.inner.Parts.{foot}
use Rattle.gos_witness.proofs.LineLemmas.{line_code}
use Rattle.gos_witness.proofs.MovesLemmas.{head, text_parts}

abbrev first : List ℕ → ℕ
first bytes = get_or bytes 0 0

-- behind the count
behind_count : (lines : List Line) (n : ℕ) (more : List ℕ) → n ≤ 18446744073709551615 → IsMovesTextOf (head ++ (ended 10 (decimal n) ++ more)) lines
    → (length lines ≡ n) × AllByRecursion HasPath lines × (flat_map line_text lines ++ foot ≡ more)
behind_count lines n more few is =
    let whole = append_cancel_left head (ended 10 (decimal n) ++ more) (ended 10 (decimal (length lines)) ++ (flat_map line_text lines ++ foot)) (is.is ∙ text_parts lines) in
    let known = number_code 0 18446744073709551615 10 (omega arith) refl n (length lines) more (flat_map line_text lines ++ foot) (omega arith, few) (omega arith, is.are.few) whole in
    (sym known.0, is.are.paths, sym known.1)

-- no line begins with an `e`
no_letter : (a : Line) (rest more : List ℕ) → line_text a ++ rest ≡ codes "e" ++ more → ⊥
no_letter (Unfold path) rest more same =
    let letter : 117 ≡ 101 = ap first same in
    omega (arith, letter)
no_letter (Step path) rest more same =
    let letter : 115 ≡ 101 = ap first same in
    omega (arith, letter)
no_letter (Label path) rest more same =
    let letter : 108 ≡ 101 = ap first same in
    omega (arith, letter)
no_letter Root rest more same =
    let letter : 114 ≡ 101 = ap first same in
    omega (arith, letter)

-- one line for two
too_few : (lines : List Line) (more : List ℕ) → length lines ≡ 2 → AllByRecursion HasPath lines → flat_map line_text lines ++ foot ≡ codes "r\ne" ++ more → ⊥
too_few [] more two paths same = omega (arith, two)
too_few (a ∷ []) more two paths same = omega (arith, two)
too_few (a ∷ (b ∷ rest)) more two paths same =
    let behind = line_text b ++ flat_map line_text rest in
    let known = line_code a Root (behind ++ foot) (codes "e" ++ more) paths.0 tt (sym (append_assoc (line_text a) behind foot) ∙ same) in
    no_letter b (flat_map line_text rest ++ foot) more (sym (append_assoc (line_text b) (flat_map line_text rest) foot) ∙ known.1)

-- two lines for one
too_many : (lines : List Line) (more : List ℕ) → length lines ≡ 1 → AllByRecursion HasPath lines → flat_map line_text lines ++ foot ≡ codes "r\nr" ++ more → ⊥
too_many [] more one paths same = omega (arith, one)
too_many (a ∷ []) more one paths same =
    let known = line_code a Root foot (codes "r" ++ more) paths.0 tt (sym (append_assoc (line_text a) [] foot) ∙ same) in
    let letter : 101 ≡ 114 = ap first known.1 in
    omega (arith, letter)
too_many (a ∷ (b ∷ rest)) more one paths same = omega (arith, one)

-- the bytes from a place on
abbrev byte_at : ℕ → List ℕ → ℕ
byte_at k bytes = get_or bytes k 0

no_fourth_of : (path more rest : List ℕ) → AllByRecursion IsChild path → line_text (Step path) ++ rest ≡ codes "s 0.3" ++ more → ⊥
unfolding digits
no_fourth_of [] more rest are same =
    let byte : 46 ≡ 48 = ap (byte_at 2) same in
    omega (arith, byte)
no_fourth_of (zero ∷ []) more rest are same =
    let byte : 10 ≡ 46 = ap (byte_at 3) same in
    omega (arith, byte)
no_fourth_of (zero ∷ (zero ∷ path)) more rest are same =
    let byte : 48 ≡ 51 = ap (byte_at 4) same in
    omega (arith, byte)
no_fourth_of (zero ∷ (suc zero ∷ path)) more rest are same =
    let byte : 49 ≡ 51 = ap (byte_at 4) same in
    omega (arith, byte)
no_fourth_of (zero ∷ (suc (suc zero) ∷ path)) more rest are same =
    let byte : 50 ≡ 51 = ap (byte_at 4) same in
    omega (arith, byte)
no_fourth_of (zero ∷ (suc (suc (suc i)) ∷ path)) more rest are same = omega (arith, are.1.0)
no_fourth_of (suc zero ∷ path) more rest are same =
    let byte : 49 ≡ 48 = ap (byte_at 2) same in
    omega (arith, byte)
no_fourth_of (suc (suc zero) ∷ path) more rest are same =
    let byte : 50 ≡ 48 = ap (byte_at 2) same in
    omega (arith, byte)
no_fourth_of (suc (suc (suc i)) ∷ path) more rest are same = omega (arith, are.0)

-- no path goes on with a 3
no_fourth : (lines : List Line) (more : List ℕ) → length lines ≡ 1 → AllByRecursion HasPath lines → flat_map line_text lines ++ foot ≡ codes "s 0.3" ++ more → ⊥
no_fourth [] more one paths same = omega (arith, one)
no_fourth (Unfold path ∷ rest) more one paths same =
    let letter : 117 ≡ 115 = ap first same in
    omega (arith, letter)
no_fourth (Step path ∷ rest) more one paths same =
    no_fourth_of path more (flat_map line_text rest ++ foot) paths.0 (sym (append_assoc (line_text (Step path)) (flat_map line_text rest) foot) ∙ same)
no_fourth (Label path ∷ rest) more one paths same =
    let letter : 108 ≡ 115 = ap first same in
    omega (arith, letter)
no_fourth (Root ∷ rest) more one paths same =
    let letter : 114 ≡ 115 = ap first same in
    omega (arith, letter)

few_break : StopsAt IsMovesText (codes "gosmoves 1\nlines 2\nr\nend\n") 0 21
unfolding digits
few_break =
    record {
      after = omega arith;
      within = omega arith;
      before = (codes "r\nend\n", (Root ∷ Root ∷ [], record { are = record { paths = (tt, (tt, tt)); few = omega arith }; is = refl }));
      stops = λ some longer.
          let (more, (lines, is)) = longer in
          let known = behind_count lines 2 (codes "r\ne" ++ more) (omega arith) is in
          too_few lines more known.0 known.1 known.2;
    }

many_break : StopsAt IsMovesText (codes "gosmoves 1\nlines 1\nr\nr\nend\n") 0 21
unfolding digits
many_break =
    record {
      after = omega arith;
      within = omega arith;
      before = (codes "end\n", (Root ∷ [], record { are = record { paths = (tt, tt); few = omega arith }; is = refl }));
      stops = λ some longer.
          let (more, (lines, is)) = longer in
          let known = behind_count lines 1 (codes "r\nr" ++ more) (omega arith) is in
          too_many lines more known.0 known.1 known.2;
    }

fourth_breaks : StopsAt IsMovesText (codes "gosmoves 1\nlines 1\ns 0.3\nend\n") 0 23
unfolding digits
fourth_breaks =
    record {
      after = omega arith;
      within = omega arith;
      before = (
        codes "0\nend\n",
        (Step (0 ∷ 0 ∷ []) ∷ [], record { are = record { paths = ((omega arith, (omega arith, tt)), tt); few = omega arith }; is = refl }),
      );
      stops = λ some longer.
          let (more, (lines, is)) = longer in
          let known = behind_count lines 1 (codes "s 0.3" ++ more) (omega arith) is in
          no_fourth lines more known.0 known.1 known.2;
    }

pub small_moves_breaks : SmallMovesBreaks
small_moves_breaks = (few_break, many_break, fourth_breaks)
