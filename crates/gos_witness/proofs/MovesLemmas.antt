-- The text of a list of moves: a head, a count, so many lines, and an end.
use Rattle.std.proofs.Common.{◌≡◌, ℕ, zero, suc, ◌≤◌, List, [], ◌∷◌, ◌++◌, length, refl, sym, ◌∙◌, ap, subst, arith, append_assoc, append-nil}
use Rattle.std.specs.Prelude.{codes}
use Rattle.std.specs.Fmt.{decimal}
use Rattle.std.specs.List.{AllByRecursion, flat_map}
use Rattle.gos_netlist.specs.NetText.{line}
use Rattle.gos_lex.specs.Items.{TextAt, IsJust, Misses}
use Rattle.gos_lex.specs.ItemTexts.{IsTextOf, IsInRange, IsNumberText, Passed, ended}
use Rattle.gos_lex.proofs.SequenceLemmas.{misses_as}
use Rattle.gos_lex.proofs.NumberTextLemmas.{number_code}
use Rattle.gos_witness.specs.declared.fault.ExplainFault.{ExplainFault}
use Rattle.gos_witness.specs.declared.fault.ExplainFault.TheVariants as faults
use Rattle.gos_witness.specs.declared.moves.Line.{Line}
use Rattle.gos_witness.specs.declared.moves.Line.TheVariants.{Root}
use Rattle.gos_witness.specs.MovesText.{line_text, moves_text, HasPath, IsMovesTextOf, IsMovesText}
use Rattle.gos_witness.specs.TextFaults.{IsFormFault}
use Rattle.gos_witness.specs.inner.Left.{HasLeft, Behind, End, Leads, Breaks}
use Rattle.gos_witness.specs.inner.Parts.{BreaksOff, IsLineText, WholeLeft, foot, CountLeft, LinesLeft}
use Rattle.gos_witness.proofs.LeftLemmas.{Stage, IsOne, one_end, stage_one, fixed_code, item_passed, item_missed, leads_on, breaks_on, all_passed, breaks_off, left_over}
use Rattle.gos_witness.proofs.LineLemmas.{line_code}

-- what stands before the count
abbrev pub head : List ℕ
head = codes "gosmoves 1\nlines "

abbrev most : ℕ
most = 18446744073709551615

abbrev count_text : ℕ → List ℕ
count_text n = ended 10 (decimal n)

-- the text by its parts
pub text_parts : (lines : List Line) → moves_text lines ≡ head ++ (count_text (length lines) ++ (flat_map line_text lines ++ foot))
text_parts lines =
    let count : List ℕ = line (codes "lines " ++ decimal (length lines)) in
    let all : List ℕ = flat_map line_text lines in
    append_assoc (line (codes "gosmoves 1") ++ count) all foot
    ∙ append_assoc (line (codes "gosmoves 1")) count (all ++ foot)

-- so many lines that have no path
roots : (k : ℕ) → (rest : List Line) × (length rest ≡ k) × AllByRecursion HasPath rest
roots zero = ([], refl, tt)
roots (suc k) = let rest = roots k in (Root ∷ rest.0, ap suc rest.1, (tt, rest.2))

some_lines : (k : ℕ) (done : List Line) → (bytes : List ℕ) × HasLeft (List Line) (LinesLeft k done) bytes
some_lines k done =
    let rest = roots k in
    (flat_map line_text rest.0 ++ foot, (done ++ rest.0, (rest.0, rest.1, rest.2, refl, refl)))

-- the head
head_stage : Stage (List Line) (Unit {0}) WholeLeft (λ _. Unit {0}) (λ _. head) (λ _. CountLeft)
head_stage =
    record {
      to = λ v bytes left. (tt, count_text (length v) ++ (flat_map line_text v ++ foot), tt, (left.are, refl), left.is ∙ text_parts v);
      from = λ v bytes behind. from v bytes behind;
      code = fixed_code head;
      completes = λ u is. (count_text 0 ++ foot, ([], (record { paths = tt; few = omega arith }, refl)));
    }
  where
    from : (v : List Line) (bytes : List ℕ) → Behind (List Line) (Unit {0}) (λ _. Unit {0}) (λ _. head) (λ _. CountLeft) v bytes → WholeLeft v bytes
    from v bytes (u, more, is, (are, left), same) = record { are = are; is = same ∙ (ap (λ rest. head ++ rest) left ∙ sym (text_parts v)) }

-- the count
count_stage : Stage (List Line) ℕ CountLeft (IsInRange 0 most) count_text (λ n. LinesLeft n [])
count_stage =
    record {
      to = λ v bytes left. (length v, flat_map line_text v ++ foot, (omega arith, left.0.few), (v, refl, left.0.paths, refl, refl), left.1);
      from = λ v bytes behind. from v bytes behind;
      code = number_code 0 most 10 (omega arith) refl;
      completes = λ n is. some_lines n [];
    }
  where
    from : (v : List Line) (bytes : List ℕ) → Behind (List Line) ℕ (IsInRange 0 most) count_text (λ n. LinesLeft n []) v bytes → CountLeft v bytes
    from v bytes (n, more, range, (rest, many, all, whole, left), same) =
        let long : length v ≡ n = ap length whole ∙ many in (
          record { paths = subst (AllByRecursion HasPath) (sym whole) all; few = omega (arith, long, range.1) },
          same ∙ ((λ i. count_text (sym long i) ++ left i) ∙ ap (λ (lines : List Line). count_text (length v) ++ (flat_map line_text lines ++ foot)) (sym whole)),
        )

-- a line
line_stage : (left : ℕ) (done : List Line) → Stage (List Line) Line (LinesLeft (suc left) done) HasPath line_text (λ l. LinesLeft left (done ++ l ∷ []))
line_stage left done =
    record {
      to = to;
      from = from;
      code = line_code;
      completes = λ l is. some_lines left (done ++ l ∷ []);
    }
  where
    to : (v : List Line) (bytes : List ℕ) → LinesLeft (suc left) done v bytes → Behind (List Line) Line HasPath line_text (λ l. LinesLeft left (done ++ l ∷ [])) v bytes
    to v bytes ([], many, all, whole, same) = absurd (omega (arith, many))
    to v bytes (l ∷ rest, many, all, whole, same) = (
      l,
      flat_map line_text rest ++ foot,
      all.0,
      (rest, omega (arith, many), all.1, whole ∙ sym (append_assoc done (l ∷ []) rest), refl),
      same ∙ append_assoc (line_text l) (flat_map line_text rest) foot,
    )

    from : (v : List Line) (bytes : List ℕ) → Behind (List Line) Line HasPath line_text (λ l. LinesLeft left (done ++ l ∷ [])) v bytes → LinesLeft (suc left) done v bytes
    from v bytes (l, more, is, (rest, many, all, whole, behind), same) = (
      l ∷ rest,
      ap suc many,
      (is, all),
      whole ∙ append_assoc done (l ∷ []) rest,
      same ∙ (ap (λ part. line_text l ++ part) behind ∙ sym (append_assoc (line_text l) (flat_map line_text rest) foot)),
    )

-- the end
foot_stage : (done : List Line) → Stage (List Line) (Unit {0}) (LinesLeft 0 done) (λ _. Unit {0}) (λ _. foot) (λ _. End (List Line) done)
foot_stage done =
    record {
      to = to;
      from = from;
      code = fixed_code foot;
      completes = λ u is. ([], (done, (refl, refl)));
    }
  where
    to : (v : List Line) (bytes : List ℕ) → LinesLeft 0 done v bytes → Behind (List Line) (Unit {0}) (λ _. Unit {0}) (λ _. foot) (λ _. End (List Line) done) v bytes
    to v bytes ([], many, all, whole, same) = (tt, [], tt, (whole ∙ append-nil done, refl), same)
    to v bytes (l ∷ rest, many, all, whole, same) = absurd (omega (arith, many))

    from : (v : List Line) (bytes : List ℕ) → Behind (List Line) (Unit {0}) (λ _. Unit {0}) (λ _. foot) (λ _. End (List Line) done) v bytes → LinesLeft 0 done v bytes
    from v bytes (u, more, is, (whole, nothing), same) =
        ([], refl, tt, whole ∙ sym (append-nil done), same ∙ ap (λ rest. foot ++ rest) nothing)

-- fixed bytes that are missed, as an item
fixed_missed : (bytes text : List ℕ) (at place : ℕ) → Misses (IsJust bytes) text at place → Misses (IsTextOf (Unit {0}) (λ _. Unit {0}) (λ _. bytes)) text at place
fixed_missed bytes text at place = misses_as (IsJust bytes) (IsTextOf (Unit {0}) (λ _. Unit {0}) (λ _. bytes)) text at place (λ part is. (tt, tt, is)) (λ part item. item.2)

-- Where the reader stands.

pub head_passed : (old new : TextAt) → Passed old new head → Leads (List Line) WholeLeft CountLeft old new
head_passed old new passed = item_passed (List Line) (Unit {0}) WholeLeft (λ _. Unit {0}) (λ _. head) (λ _. CountLeft) head_stage old new tt tt passed

pub no_head : (old : TextAt) (place : ℕ) → Misses (IsJust head) old.text old.at place → Breaks (List Line) WholeLeft old place
no_head old place misses =
    item_missed (List Line) (Unit {0}) WholeLeft (λ _. Unit {0}) (λ _. head) (λ _. CountLeft) head_stage old place (fixed_missed head old.text old.at place misses)

pub count_passed : (old mid new : TextAt) (n : ℕ) → Leads (List Line) WholeLeft CountLeft old mid → n ≤ 18446744073709551615 → Passed mid new (ended 10 (decimal n)) → Leads (List Line) WholeLeft (LinesLeft n []) old new
count_passed old mid new n far few passed =
    leads_on (List Line) WholeLeft CountLeft (LinesLeft n []) old mid new far
    (item_passed (List Line) ℕ CountLeft (IsInRange 0 most) count_text (λ k. LinesLeft k []) count_stage mid new n (omega arith, few) passed)

pub no_count : (old mid : TextAt) (place : ℕ) → Leads (List Line) WholeLeft CountLeft old mid → Misses (IsNumberText 0 18446744073709551615 10) mid.text mid.at place → Breaks (List Line) WholeLeft old place
no_count old mid place far misses =
    breaks_on (List Line) WholeLeft CountLeft old mid place far
    (item_missed (List Line) ℕ CountLeft (IsInRange 0 most) count_text (λ k. LinesLeft k []) count_stage mid place misses)

-- one line more is passed, where so many are left
pub line_more : (old mid new : TextAt) (count before left : ℕ) (done : List Line) (l : Line) → before ≡ suc left → Leads (List Line) (LinesLeft count []) (LinesLeft before done) old mid
    → HasPath l → Passed mid new (line_text l) → Leads (List Line) (LinesLeft count []) (LinesLeft left (done ++ l ∷ [])) old new
line_more old mid new count before left done l fewer far is passed =
    let here = subst (λ (k : ℕ). Leads (List Line) (LinesLeft count []) (LinesLeft k done) old mid) fewer far in
    leads_on (List Line) (LinesLeft count []) (LinesLeft (suc left) done) (LinesLeft left (done ++ l ∷ [])) old mid new here
    (item_passed (List Line) Line (LinesLeft (suc left) done) HasPath line_text (λ k. LinesLeft left (done ++ k ∷ [])) (line_stage left done) mid new l is passed)

pub no_line : (old mid : TextAt) (count before left : ℕ) (done : List Line) (fault : ExplainFault) → before ≡ suc left → Leads (List Line) (LinesLeft count []) (LinesLeft before done) old mid
    → BreaksOff IsLineText mid fault → BreaksOff (HasLeft (List Line) (LinesLeft count [])) old fault
no_line old mid count before left done (faults.Form place) fewer far misses =
    let here = subst (λ (k : ℕ). Leads (List Line) (LinesLeft count []) (LinesLeft k done) old mid) fewer far in
    breaks_on (List Line) (LinesLeft count []) (LinesLeft (suc left) done) old mid place here
    (item_missed (List Line) Line (LinesLeft (suc left) done) HasPath line_text (λ k. LinesLeft left (done ++ k ∷ [])) (line_stage left done) mid place misses)
no_line old mid count before left done faults.NoMemory fewer far any = tt
no_line old mid count before left done (faults.Wrong n) fewer far none = absurd none
no_line old mid count before left done (faults.Labels n) fewer far none = absurd none
no_line old mid count before left done (faults.NotTrace n) fewer far none = absurd none
no_line old mid count before left done (faults.Spent n) fewer far none = absurd none
no_line old mid count before left done faults.Taken fewer far none = absurd none
no_line old mid count before left done (faults.Nodes n) fewer far none = absurd none

-- all lines are passed
pub no_line_left : (old new : TextAt) (count left : ℕ) (done : List Line) → left ≡ 0 → Leads (List Line) (LinesLeft count []) (LinesLeft left done) old new → Leads (List Line) (LinesLeft count []) (LinesLeft 0 done) old new
no_line_left old new count left done none far = subst (λ (k : ℕ). Leads (List Line) (LinesLeft count []) (LinesLeft k done) old new) none far

-- what stands behind the count
pub behind_count : (old mid new : TextAt) (count : ℕ) (done : List Line) → Leads (List Line) WholeLeft (LinesLeft count []) old mid → Leads (List Line) (LinesLeft count []) (LinesLeft 0 done) mid new → Leads (List Line) WholeLeft (LinesLeft 0 done) old new
behind_count old mid new count done first second = leads_on (List Line) WholeLeft (LinesLeft count []) (LinesLeft 0 done) old mid new first second

pub foot_passed : (old mid new : TextAt) (done : List Line) → Leads (List Line) WholeLeft (LinesLeft 0 done) old mid → Passed mid new foot → Leads (List Line) WholeLeft (End (List Line) done) old new
foot_passed old mid new done far passed =
    leads_on (List Line) WholeLeft (LinesLeft 0 done) (End (List Line) done) old mid new far
    (item_passed (List Line) (Unit {0}) (LinesLeft 0 done) (λ _. Unit {0}) (λ _. foot) (λ _. End (List Line) done) (foot_stage done) mid new tt tt passed)

pub no_foot : (old mid : TextAt) (done : List Line) (place : ℕ) → Leads (List Line) WholeLeft (LinesLeft 0 done) old mid → Misses (IsJust foot) mid.text mid.at place → Breaks (List Line) WholeLeft old place
no_foot old mid done place far misses =
    breaks_on (List Line) WholeLeft (LinesLeft 0 done) old mid place far
    (item_missed (List Line) (Unit {0}) (LinesLeft 0 done) (λ _. Unit {0}) (λ _. foot) (λ _. End (List Line) done) (foot_stage done) mid place (fixed_missed foot mid.text mid.at place misses))

-- What the reader of a whole text answers.

pub moves_break : (text : List ℕ) (old : TextAt) (place : ℕ) → old.text ≡ text → old.at ≡ 0 → Breaks (List Line) WholeLeft old place → IsFormFault IsMovesText text (faults.Form place)
moves_break text old place same none breaks = breaks_off (List Line) WholeLeft text old place same none breaks

pub moves_fault : (text : List ℕ) (old mid : TextAt) (count : ℕ) (fault : ExplainFault) → old.text ≡ text → old.at ≡ 0 → Leads (List Line) WholeLeft (LinesLeft count []) old mid
    → BreaksOff (HasLeft (List Line) (LinesLeft count [])) mid fault → IsFormFault IsMovesText text fault
moves_fault text old mid count (faults.Form place) same none far breaks =
    moves_break text old place same none (breaks_on (List Line) WholeLeft (LinesLeft count []) old mid place far breaks)
moves_fault text old mid count faults.NoMemory same none far any = tt
moves_fault text old mid count (faults.Wrong n) same none far absent = absent
moves_fault text old mid count (faults.Labels n) same none far absent = absent
moves_fault text old mid count (faults.NotTrace n) same none far absent = absent
moves_fault text old mid count (faults.Spent n) same none far absent = absent
moves_fault text old mid count faults.Taken same none far absent = absent
moves_fault text old mid count (faults.Nodes n) same none far absent = absent

pub moves_over : (text : List ℕ) (old new : TextAt) (lines : List Line) (place : ℕ) → old.text ≡ text → old.at ≡ 0 → Leads (List Line) WholeLeft (End (List Line) lines) old new → (new.at ≡ length new.text → ⊥) → place ≡ new.at
    → IsFormFault IsMovesText text (faults.Form place)
moves_over text old new lines place same none leads more here = left_over (List Line) WholeLeft text old new lines place same none leads more here

pub moves_read : (text : List ℕ) (old new : TextAt) (lines : List Line) → old.text ≡ text → old.at ≡ 0 → Leads (List Line) WholeLeft (End (List Line) lines) old new → new.at ≡ length new.text → IsMovesTextOf text lines
moves_read text old new lines same none leads finished = all_passed (List Line) WholeLeft text old new lines same none leads finished

-- A text is that of one list of moves.

lines_one : (k : ℕ) (done : List Line) → IsOne (List Line) (LinesLeft k done)
lines_one zero done =
    stage_one (List Line) (Unit {0}) (LinesLeft 0 done) (λ _. Unit {0}) (λ _. foot) (λ _. End (List Line) done) (foot_stage done) (λ u is. one_end (List Line) done)
lines_one (suc left) done =
    stage_one (List Line) Line (LinesLeft (suc left) done) HasPath line_text (λ l. LinesLeft left (done ++ l ∷ [])) (line_stage left done) (λ l is. lines_one left (done ++ l ∷ []))

pub moves_one : IsOne (List Line) WholeLeft
moves_one =
    stage_one (List Line) (Unit {0}) WholeLeft (λ _. Unit {0}) (λ _. head) (λ _. CountLeft) head_stage
    (λ u is. stage_one (List Line) ℕ CountLeft (IsInRange 0 most) count_text (λ n. LinesLeft n []) count_stage (λ n range. lines_one n []))
