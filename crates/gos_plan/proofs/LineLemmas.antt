-- The lines of imports and of joints.
use Rattle.std.proofs.Common.{◌≡◌, inl, inr, ℕ, false, List, refl, sym, ◌∙◌, ap, subst, arith}
use Rattle.std.specs.Prelude.{codes}
use Rattle.std.specs.Char.{is_ascii_digit}
use Rattle.gos_types.specs.Types.{Type'}
use Rattle.gos_lex.specs.Items.{TextAt}
use Rattle.gos_plan.specs.declared.fault.ObjectFault.{ObjectFault}
use Rattle.gos_plan.specs.declared.word.EndWord.{EndWord}
use Rattle.gos_plan.specs.declared.word.EndWord.TheVariants as ends
use Rattle.gos_plan.specs.declared.format.Format.{Format}
use Rattle.gos_plan.specs.Plans.{End, PartEnd, ImportEnd, ResultEnd}
use Rattle.gos_plan.specs.TextItems.{Item, Fails, Reads, both, exactly, words, any_name}
use Rattle.gos_plan.specs.ObjectText.{end_text}
use Rattle.gos_plan.specs.ObjectItems.{typed, end_word_text, end_word_of, end_numbers_text, end_numbers, any_number, two_numbers, ended_end, joint_line, import_line}
use Rattle.gos_plan.proofs.TextLemmas.{Lawful, Via, lawful_both, lawful_exactly, via_lawful, via_fails, rest_fails, both_read, reads_as}
use Rattle.gos_plan.proofs.TableLemmas.{lawful_words}
use Rattle.gos_plan.proofs.WordLemmas.{end_table}
use Rattle.gos_plan.proofs.ItemLemmas.{lawful_number, lawful_name}
use Rattle.gos_plan.proofs.TypeLemmas.{lawful_typed}

-- An end: its word, and its numbers.
abbrev pub end_parts : ℕ → Item
end_parts end = both (words EndWord end_word_text) (end_numbers end)

pub end_text_parts : (end : ℕ) (e : End) → end_text end e ≡ (end_parts end).text (end_word_of e, e)
end_text_parts end (PartEnd i h) = refl
end_text_parts end (ImportEnd i h) = refl
end_text_parts end (ResultEnd h) = refl

no_over_end : (end : ℕ) (source : List ℕ) (at place : ℕ) → (end_parts end).Over source at place → ⊥
no_over_end end source at place (inl over) = over
no_over_end end source at place (inr (word, mid, is, keeps, spans, over)) = over

pub end_via : (end : ℕ) → Via (ended_end end) (end_parts end)
end_via end =
    record {
      into = λ e. (end_word_of e, e);
      from = λ v. v.1;
      text = λ e is. end_text_parts end e;
      is = λ e is. (tt, (is, refl));
      keeps = λ e is keeps. (tt, tt);
      back = λ e is. refl;
      from_is = λ v is. is.1.0;
      there = λ v is. (λ i. (is.1.1 i, v.1));
      over = λ source at place over. absurd over;
      over_back = λ source at place over. no_over_end end source at place over;
    }

abbrev place_of : End → ℕ
place_of (PartEnd i h) = i
place_of (ImportEnd i h) = i
place_of (ResultEnd h) = 0

abbrev shake_of : End → ℕ
shake_of (PartEnd i h) = h
shake_of (ImportEnd i h) = h
shake_of (ResultEnd h) = h

abbrev rebuilt : EndWord → ℕ → ℕ → End
rebuilt ends.Part i h = PartEnd i h
rebuilt ends.Import i h = ImportEnd i h
rebuilt ends.Result i h = ResultEnd h

rebuilt_own : (e : End) → e ≡ rebuilt (end_word_of e) (place_of e) (shake_of e)
rebuilt_own (PartEnd i h) = refl
rebuilt_own (ImportEnd i h) = refl
rebuilt_own (ResultEnd h) = refl

is_of : (word : EndWord) (e : End) → end_word_of e ≡ word → e ≡ rebuilt word (place_of e) (shake_of e)
is_of word e same = rebuilt_own e ∙ ap (λ (u : EndWord). rebuilt u (place_of e) (shake_of e)) same

no_over_two : (end : ℕ) (source : List ℕ) (at place : ℕ) → (two_numbers end).Over source at place → ⊥
no_over_two end source at place (inl over) = over
no_over_two end source at place (inr (word, mid, is, keeps, spans, over)) = over

-- the numbers of an end of a part
pub part_end_via : (end : ℕ) → Via (end_numbers end ends.Part) (two_numbers end)
part_end_via end =
    record {
      into = λ e. (place_of e, shake_of e);
      from = λ v. PartEnd v.0 v.1;
      text = λ e is. ap (end_numbers_text end) (is_of ends.Part e is.1);
      is = λ e is. let known = subst (λ (d : End). (end_numbers end ends.Part).Is d) (is_of ends.Part e is.1) is in ((omega arith, known.0.0), (omega arith, known.0.1));
      keeps = λ e is keeps. (tt, tt);
      back = λ e is. sym (is_of ends.Part e is.1);
      from_is = λ v is. ((is.0.1, is.1.1), refl);
      there = λ v is. refl;
      over = λ source at place over. absurd over;
      over_back = λ source at place over. no_over_two end source at place over;
    }

-- of an import
pub import_end_via : (end : ℕ) → Via (end_numbers end ends.Import) (two_numbers end)
import_end_via end =
    record {
      into = λ e. (place_of e, shake_of e);
      from = λ v. ImportEnd v.0 v.1;
      text = λ e is. ap (end_numbers_text end) (is_of ends.Import e is.1);
      is = λ e is. let known = subst (λ (d : End). (end_numbers end ends.Import).Is d) (is_of ends.Import e is.1) is in ((omega arith, known.0.0), (omega arith, known.0.1));
      keeps = λ e is keeps. (tt, tt);
      back = λ e is. sym (is_of ends.Import e is.1);
      from_is = λ v is. ((is.0.1, is.1.1), refl);
      there = λ v is. refl;
      over = λ source at place over. absurd over;
      over_back = λ source at place over. no_over_two end source at place over;
    }

-- and of the result
pub result_end_via : (end : ℕ) → Via (end_numbers end ends.Result) (any_number end)
result_end_via end =
    record {
      into = shake_of;
      from = λ h. ResultEnd h;
      text = λ e is. ap (end_numbers_text end) (is_of ends.Result e is.1);
      is = λ e is. let known = subst (λ (d : End). (end_numbers end ends.Result).Is d) (is_of ends.Result e is.1) is in (omega arith, known.0);
      keeps = λ e is keeps. tt;
      back = λ e is. sym (is_of ends.Result e is.1);
      from_is = λ v is. (is.1, refl);
      there = λ v is. refl;
      over = λ source at place over. over;
      over_back = λ source at place over. over;
    }

pub lawful_any_number : (end : ℕ) → is_ascii_digit end ≡ false → Lawful (any_number end)
lawful_any_number end is_end = lawful_number 0 4294967295 end (omega arith) (omega arith) is_end

lawful_two : (end : ℕ) → is_ascii_digit end ≡ false → Lawful (two_numbers end)
lawful_two end is_end = lawful_both (any_number 46) (λ i. any_number end) (lawful_any_number 46 refl) (λ i is. lawful_any_number end is_end)

lawful_end_numbers : (end : ℕ) → is_ascii_digit end ≡ false → (word : EndWord) → Lawful (end_numbers end word)
lawful_end_numbers end is_end ends.Part = via_lawful (end_numbers end ends.Part) (two_numbers end) (part_end_via end) (lawful_two end is_end)
lawful_end_numbers end is_end ends.Import = via_lawful (end_numbers end ends.Import) (two_numbers end) (import_end_via end) (lawful_two end is_end)
lawful_end_numbers end is_end ends.Result = via_lawful (end_numbers end ends.Result) (any_number end) (result_end_via end) (lawful_any_number end is_end)

pub some_end_numbers : (end : ℕ) (word : EndWord) → (e : End) × (end_numbers end word).Is e
some_end_numbers end ends.Part = (PartEnd 0 0, ((omega arith, omega arith), refl))
some_end_numbers end ends.Import = (ImportEnd 0 0, ((omega arith, omega arith), refl))
some_end_numbers end ends.Result = (ResultEnd 0, (omega arith, refl))

pub lawful_end_words : Lawful (words EndWord end_word_text)
lawful_end_words = lawful_words EndWord end_word_text end_table ends.Part

pub lawful_end : (end : ℕ) → is_ascii_digit end ≡ false → Lawful (ended_end end)
lawful_end end is_end =
    via_lawful (ended_end end) (end_parts end) (end_via end) (lawful_both (words EndWord end_word_text) (end_numbers end) lawful_end_words (λ word is. lawful_end_numbers end is_end word))

-- the word of an end, and its numbers
pub end_reads : (end : ℕ) (e : End) (word : EndWord) (old mid new : TextAt) → Reads (words EndWord end_word_text) old mid word → Reads (end_numbers end word) mid new e → Reads (ended_end end) old new e
end_reads end e word old mid new first second =
    let whole = both_read (words EndWord end_word_text) (end_numbers end) old mid new word e first second in
    let known = subst (λ (w : EndWord). Reads (end_parts end) old new (w, e)) (sym second.is.1) whole in
    reads_as (ended_end end) (end_parts end) old new e (end_word_of e, e) (end_text_parts end e) second.is.0 tt known

pub part_end_reads : (end i h : ℕ) (old new : TextAt) → Reads (two_numbers end) old new (i, h) → Reads (end_numbers end ends.Part) old new (PartEnd i h)
part_end_reads end i h old new reads = reads_as (end_numbers end ends.Part) (two_numbers end) old new (PartEnd i h) (i, h) refl ((reads.is.0.1, reads.is.1.1), refl) tt reads

pub import_end_reads : (end i h : ℕ) (old new : TextAt) → Reads (two_numbers end) old new (i, h) → Reads (end_numbers end ends.Import) old new (ImportEnd i h)
import_end_reads end i h old new reads = reads_as (end_numbers end ends.Import) (two_numbers end) old new (ImportEnd i h) (i, h) refl ((reads.is.0.1, reads.is.1.1), refl) tt reads

pub result_end_reads : (end h : ℕ) (old new : TextAt) → Reads (any_number end) old new h → Reads (end_numbers end ends.Result) old new (ResultEnd h)
result_end_reads end h old new reads = reads_as (end_numbers end ends.Result) (any_number end) old new (ResultEnd h) h refl (reads.is.1, refl) tt reads

-- A joint: two ends.
abbrev pub two_ends : Item
two_ends = both (ended_end 32) (λ e. ended_end 10)

no_over_joint : (source : List ℕ) (at place : ℕ) → two_ends.Over source at place → ⊥
no_over_joint source at place (inl over) = over
no_over_joint source at place (inr (word, mid, is, keeps, spans, over)) = over

pub joint_via : Via joint_line two_ends
joint_via =
    record {
      into = λ j. (j.asking, j.serving);
      from = λ v. record { asking = v.0; serving = v.1 };
      text = λ j is. refl;
      is = λ j is. is;
      keeps = λ j is keeps. (tt, tt);
      back = λ j is. refl;
      from_is = λ v is. is;
      there = λ v is. refl;
      over = λ source at place over. absurd over;
      over_back = no_over_joint;
    }

pub lawful_joint : Lawful joint_line
lawful_joint = via_lawful joint_line two_ends joint_via (lawful_both (ended_end 32) (λ e. ended_end 10) (lawful_end 32 refl) (λ e is. lawful_end 10 refl))

-- An import: a word, a name, and a type.
abbrev pub named_type : (format : Format) → Item
named_type format = both any_name (λ name. typed format 10 0)

abbrev pub import_parts : (format : Format) → Item
import_parts format = both (exactly (codes "import ")) (λ u. named_type format)

pub import_via : (format : Format) → Via (import_line format) (import_parts format)
import_via format =
    record {
      into = λ i. (tt, (i.name, i.ty));
      from = λ v. record { name = v.1.0; ty = v.1.1 };
      text = λ i is. refl;
      is = λ i is. (tt, is);
      keeps = λ i is keeps. (tt, (tt, omega (arith, keeps)));
      back = λ i is. refl;
      from_is = λ v is. is.1;
      there = λ v is. refl;
      over = λ source at place over. over;
      over_back = λ source at place over. over;
    }

pub lawful_named_type : (format : Format) → Lawful (named_type format)
lawful_named_type format = lawful_both any_name (λ name. typed format 10 0) lawful_name (λ name is. lawful_typed format 10 0 refl)

pub lawful_import_word : Lawful (exactly (codes "import "))
lawful_import_word = lawful_exactly (codes "import ")

pub lawful_import : (format : Format) → Lawful (import_line format)
lawful_import format = via_lawful (import_line format) (import_parts format) (import_via format) (lawful_both (exactly (codes "import ")) (λ u. named_type format) lawful_import_word (λ u is. lawful_named_type format))

pub import_reads : (format : Format) (name : List ℕ) (ty : Type') (old mid last new : TextAt) → Reads (exactly (codes "import ")) old mid tt → Reads any_name mid last name → Reads (typed format 10 0) last new ty
    → Reads (import_line format) old new (record { name = name; ty = ty })
import_reads format name ty old mid last new first second third =
    let whole = both_read (exactly (codes "import ")) (λ u. named_type format) old mid new tt (name, ty) first (both_read any_name (λ name. typed format 10 0) mid last new name ty second third) in
    reads_as (import_line format) (import_parts format) old new (record { name = name; ty = ty }) (tt, (name, ty)) refl (second.is, third.is) (omega (arith, third.keeps)) whole

-- where the numbers behind an end's word fail, the end does
pub numbers_fail : (last : ℕ) (w word : EndWord) (old mid : TextAt) → w ≡ word → Reads (words EndWord end_word_text) old mid w
    → (A : Item) → Via (end_numbers last word) A → (fault : ObjectFault) → Fails A mid.text mid.at fault → Fails (ended_end last) old.text old.at fault
numbers_fail last w word old mid is first A via fault fails =
    via_fails (ended_end last) (end_parts last) (end_via last) old.text old.at fault
    (rest_fails (words EndWord end_word_text) (end_numbers last) lawful_end_words old mid word
    (subst (λ (u : EndWord). Reads (words EndWord end_word_text) old mid u) is first) fault
    (via_fails (end_numbers last word) A via mid.text mid.at fault fails))
