-- The whole text: its sections one behind the other, and nothing behind them.
use Rattle.std.proofs.Common.{◌≡◌, ◌≢◌, inr, ℕ, ◌+◌, ◌<◌, All, List, [], ◌∷◌, ◌++◌, length, map, refl, sym, ◌∙◌, ap, subst, arith, append_assoc, append-nil, length-append}
use Rattle.std.specs.Prelude.{codes}
use Rattle.std.specs.List.{AllByRecursion, slice_range}
use Rattle.std.proofs.lemmas.List.Elements.{All-from_recursion}
use Rattle.gos_types.specs.Types.{Type', type_of}
use Rattle.gos_plan.specs.declared.format.Format.{Format}
use Rattle.gos_plan.specs.declared.format.Format.TheVariants.{One, Two}
use Rattle.gos_plan.specs.Formats.{head_text}
use Rattle.gos_lex.specs.Items.{TextAt}
use Rattle.gos_lex.proofs.PlaceLemmas.{length_slice, rest_whole, slice_split}
use Rattle.gos_plan.specs.declared.fault.ObjectFault.{ObjectFault}
use Rattle.gos_plan.specs.declared.fault.ObjectFault.TheVariants as faults
use Rattle.gos_plan.specs.declared.plan.PlanImport.{PlanImport}
use Rattle.gos_plan.specs.Kinds.{Part}
use Rattle.gos_model.specs.Typing.{Imported}
use Rattle.gos_plan.specs.Plans.{Joint, Plan}
use Rattle.gos_plan.specs.Seen.{SeenPlan, plan_of, import_of}
use Rattle.gos_plan.specs.Ranges.{IsSmall, IsInRange, AreInRange}
use Rattle.gos_plan.specs.TextItems.{Item, Reads, Fails, both, exactly, words, number_in}
use Rattle.gos_plan.specs.ObjectText.{IsWritableImport, IsWritable, IsSmallType, IsSmallPlan}
use Rattle.gos_plan.specs.ObjectItems.{typed, import_line, part_line, joint_line, imports_section, parts_section, joints_section, weight_line, result_line, foot, sections, whole}
use Rattle.gos_plan.specs.ObjectFaults.{IsShort, IsTextOfValues, HasFault}
use Rattle.gos_plan.proofs.TextLemmas.{Lawful, Via, lawful_both, lawful_exactly, via_lawful, via_fails, first_fails, rest_fails, both_read, reads_as}
use Rattle.gos_plan.proofs.TableLemmas.{lawful_words}
use Rattle.gos_plan.proofs.WordLemmas.{head_table}
use Rattle.gos_plan.proofs.ItemLemmas.{lawful_number}
use Rattle.gos_plan.proofs.FormatLemmas.{widths_there}
use Rattle.gos_plan.proofs.TypeLemmas.{lawful_typed}
use Rattle.gos_plan.proofs.PartLemmas.{lawful_part}
use Rattle.gos_plan.proofs.LineLemmas.{lawful_import, lawful_joint}
use Rattle.gos_plan.proofs.SectionLemmas.{lawful_headed}

-- what stands from each section on
abbrev Joints : Item
Joints = both joints_section (λ j. foot)

abbrev Parts : (format : Format) → Item
Parts format = both (parts_section format) (λ p. Joints)

abbrev Result : (format : Format) → Item
Result format = both (result_line format) (λ r. Parts format)

abbrev Imports : (format : Format) → Item
Imports format = both (imports_section format) (λ i. Result format)

pub lawful_heads : Lawful (words Format head_text)
lawful_heads = lawful_words Format head_text head_table Two

lawful_weight : Lawful weight_line
lawful_weight = lawful_both (words Format head_text) (λ format. number_in 1 8192 10) lawful_heads (λ format is. lawful_number 1 8192 10 (omega arith) (omega arith) refl)

lawful_imports : (format : Format) → Lawful (imports_section format)
lawful_imports format = lawful_headed (codes "imports ") 64 (import_line format) (lawful_import format)

lawful_result : (format : Format) → Lawful (result_line format)
lawful_result format = lawful_both (exactly (codes "result ")) (λ u. typed format 10 0) (lawful_exactly (codes "result ")) (λ u is. lawful_typed format 10 0 refl)

lawful_parts : (format : Format) → Lawful (parts_section format)
lawful_parts format = lawful_headed (codes "parts ") 16384 (part_line format) (lawful_part format)

lawful_joints : Lawful joints_section
lawful_joints = lawful_headed (codes "joints ") 65536 joint_line lawful_joint

from_joints : Lawful Joints
from_joints = lawful_both joints_section (λ j. foot) lawful_joints (λ j is. lawful_exactly (codes "end\n"))

from_parts : (format : Format) → Lawful (Parts format)
from_parts format = lawful_both (parts_section format) (λ p. Joints) (lawful_parts format) (λ p is. from_joints)

from_result : (format : Format) → Lawful (Result format)
from_result format = lawful_both (result_line format) (λ r. Parts format) (lawful_result format) (λ r is. from_parts format)

from_imports : (format : Format) → Lawful (Imports format)
from_imports format = lawful_both (imports_section format) (λ i. Result format) (lawful_imports format) (λ i is. from_result format)

all_units : (js : List Joint) → AllByRecursion (λ (j : Joint). Unit {0}) js
all_units [] = tt
all_units (j ∷ js) = (tt, all_units js)

-- the sections of a plan in a format
abbrev sections_of : whole.Value → sections.Value
sections_of (format, p) = ((format, p.weight), ((tt, p.imports), ((tt, p.outcome), ((tt, p.parts), ((tt, p.joints), tt)))))

abbrev plan_with : ℕ → List Imported → Type' → List Part → List Joint → Plan
plan_with w is r ps js = record { weight = w; imports = is; outcome = r; parts = ps; joints = js }

abbrev plan_from : sections.Value → whole.Value
plan_from ((format, w), ((u1, is), ((u2, r), ((u3, ps), ((u4, js), u5))))) = (format, plan_with w is r ps js)

writable_from : (v : sections.Value) → sections.Is v → whole.Is (plan_from v)
writable_from ((format, w), ((u1, imports), ((u2, r), ((u3, ps), ((u4, js), u5))))) ((i0, is_w), ((i1, is_i), ((i2, is_r), ((i3, is_p), ((i4, is_j), i5))))) =
    record { weight = is_w; imports = is_i; outcome = is_r; parts = is_p; joints = is_j }

same_sections : (v : sections.Value) → sections_of (plan_from v) ≡ v
same_sections v = refl

whole_text : (format : Format) (p : Plan) → whole.text (format, p) ≡ sections.text (sections_of (format, p))
whole_text One p = refl
whole_text Two p = refl

whole_via : Via whole sections
whole_via =
    record {
      into = sections_of;
      from = plan_from;
      text = λ v is. whole_text v.0 v.1;
      is = λ v is. ((tt, is.weight), ((tt, is.imports), ((tt, is.outcome), ((tt, is.parts), ((tt, is.joints), tt)))));
      keeps = λ v is small. ((tt, tt), ((tt, small.imports), ((tt, omega (arith, small.outcome)), ((tt, small.parts), ((tt, (small.joints, all_units v.1.joints)), tt)))));
      back = λ v is. refl;
      from_is = writable_from;
      there = λ v is. same_sections v;
      over = λ source at place over. over;
      over_back = λ source at place over. over;
    }

pub lawful_whole : Lawful whole
lawful_whole = via_lawful whole sections whole_via (lawful_both weight_line (λ w. Imports w.0) lawful_weight (λ w is. from_imports w.0))

-- Where a section fails, the whole does.
abbrev FailsAt : TextAt → ObjectFault → Type 0
FailsAt old fault = Fails whole old.text old.at fault

pub weight_fails : (old : TextAt) (fault : ObjectFault) → Fails weight_line old.text old.at fault → FailsAt old fault
weight_fails old fault fails =
    via_fails whole sections whole_via old.text old.at fault
    (first_fails weight_line (λ w. Imports w.0) (λ w is. ((from_imports w.0).some, (from_imports w.0).some_is)) old.text old.at fault fails)

behind_weight : (format : Format) (old a : TextAt) (w : ℕ) → Reads weight_line old a (format, w) → (fault : ObjectFault) → Fails (Imports format) a.text a.at fault → FailsAt old fault
behind_weight format old a w read fault fails =
    via_fails whole sections whole_via old.text old.at fault (rest_fails weight_line (λ w. Imports w.0) lawful_weight old a (format, w) read fault fails)

pub imports_fail : (format : Format) (old a : TextAt) (w : ℕ) → Reads weight_line old a (format, w) → (fault : ObjectFault) → Fails (imports_section format) a.text a.at fault → FailsAt old fault
imports_fail format old a w read fault fails =
    behind_weight format old a w read fault (first_fails (imports_section format) (λ i. Result format) (λ i is. ((from_result format).some, (from_result format).some_is)) a.text a.at fault fails)

behind_imports : (format : Format) (old a b : TextAt) (w : ℕ) (is : List Imported) → Reads weight_line old a (format, w) → Reads (imports_section format) a b (tt, is) → (fault : ObjectFault)
    → Fails (Result format) b.text b.at fault → FailsAt old fault
behind_imports format old a b w is one two fault fails = behind_weight format old a w one fault (rest_fails (imports_section format) (λ i. Result format) (lawful_imports format) a b (tt, is) two fault fails)

pub result_fails : (format : Format) (old a b : TextAt) (w : ℕ) (is : List Imported) → Reads weight_line old a (format, w) → Reads (imports_section format) a b (tt, is) → (fault : ObjectFault)
    → Fails (result_line format) b.text b.at fault → FailsAt old fault
result_fails format old a b w is one two fault fails =
    behind_imports format old a b w is one two fault (first_fails (result_line format) (λ r. Parts format) (λ r i. ((from_parts format).some, (from_parts format).some_is)) b.text b.at fault fails)

behind_result : (format : Format) (old a b d : TextAt) (w : ℕ) (is : List Imported) (r : Type') → Reads weight_line old a (format, w) → Reads (imports_section format) a b (tt, is) → Reads (result_line format) b d (tt, r)
    → (fault : ObjectFault) → Fails (Parts format) d.text d.at fault → FailsAt old fault
behind_result format old a b d w is r one two three fault fails = behind_imports format old a b w is one two fault (rest_fails (result_line format) (λ r. Parts format) (lawful_result format) b d (tt, r) three fault fails)

pub parts_fail : (format : Format) (old a b d : TextAt) (w : ℕ) (is : List Imported) (r : Type') → Reads weight_line old a (format, w) → Reads (imports_section format) a b (tt, is) → Reads (result_line format) b d (tt, r)
    → (fault : ObjectFault) → Fails (parts_section format) d.text d.at fault → FailsAt old fault
parts_fail format old a b d w is r one two three fault fails =
    behind_result format old a b d w is r one two three fault (first_fails (parts_section format) (λ p. Joints) (λ p i. (from_joints.some, from_joints.some_is)) d.text d.at fault fails)

behind_parts : (format : Format) (old a b d e : TextAt) (w : ℕ) (is : List Imported) (r : Type') (ps : List Part) → Reads weight_line old a (format, w) → Reads (imports_section format) a b (tt, is) → Reads (result_line format) b d (tt, r)
    → Reads (parts_section format) d e (tt, ps) → (fault : ObjectFault) → Fails Joints e.text e.at fault → FailsAt old fault
behind_parts format old a b d e w is r ps one two three four fault fails =
    behind_result format old a b d w is r one two three fault (rest_fails (parts_section format) (λ p. Joints) (lawful_parts format) d e (tt, ps) four fault fails)

pub joints_fail : (format : Format) (old a b d e : TextAt) (w : ℕ) (is : List Imported) (r : Type') (ps : List Part) → Reads weight_line old a (format, w) → Reads (imports_section format) a b (tt, is) → Reads (result_line format) b d (tt, r)
    → Reads (parts_section format) d e (tt, ps) → (fault : ObjectFault) → Fails joints_section e.text e.at fault → FailsAt old fault
joints_fail format old a b d e w is r ps one two three four fault fails =
    behind_parts format old a b d e w is r ps one two three four fault (first_fails joints_section (λ j. foot) (λ j i. (tt, tt)) e.text e.at fault fails)

pub foot_fails : (format : Format) (old a b d e f : TextAt) (w : ℕ) (is : List Imported) (r : Type') (ps : List Part) (js : List Joint) → Reads weight_line old a (format, w) → Reads (imports_section format) a b (tt, is) → Reads (result_line format) b d (tt, r)
    → Reads (parts_section format) d e (tt, ps) → Reads joints_section e f (tt, js) → (fault : ObjectFault) → Fails foot f.text f.at fault → FailsAt old fault
foot_fails format old a b d e f w is r ps js one two three four five fault fails =
    behind_parts format old a b d e w is r ps one two three four fault (rest_fails joints_section (λ j. foot) lawful_joints e f (tt, js) five fault fails)

-- all sections are read
pub sections_read : (format : Format) (old a b d e f new : TextAt) (w : ℕ) (is : List Imported) (r : Type') (ps : List Part) (js : List Joint) → Reads weight_line old a (format, w) → Reads (imports_section format) a b (tt, is) → Reads (result_line format) b d (tt, r)
    → Reads (parts_section format) d e (tt, ps) → Reads joints_section e f (tt, js) → Reads foot f new tt → Reads whole old new (format, plan_with w is r ps js)
sections_read format old a b d e f new w is r ps js one two three four five six =
    let from_e = both_read joints_section (λ j. foot) e f new (tt, js) tt five six in
    let from_d = both_read (parts_section format) (λ p. Joints) d e new (tt, ps) ((tt, js), tt) four from_e in
    let from_b = both_read (result_line format) (λ r. Parts format) b d new (tt, r) ((tt, ps), ((tt, js), tt)) three from_d in
    let from_a = both_read (imports_section format) (λ i. Result format) a b new (tt, is) ((tt, r), ((tt, ps), ((tt, js), tt))) two from_b in
    let all = both_read weight_line (λ w. Imports w.0) old a new (format, w) ((tt, is), ((tt, r), ((tt, ps), ((tt, js), tt)))) one from_a in
    reads_as whole sections old new (format, plan_with w is r ps js) (sections_of (format, plan_with w is r ps js)) (whole_text format (plan_with w is r ps js))
    (record { weight = one.is.1; imports = two.is.1; outcome = three.is.1; parts = four.is.1; joints = five.is.1 })
    (record { imports = two.keeps.1; outcome = omega (arith, three.keeps.1); parts = four.keeps.1; joints = five.keeps.1.0 })
    all

slice_whole : (text : List ℕ) → slice_range text 0 (length text) ≡ text
slice_whole text = rest_whole text 0

-- what is read from the beginning to the end
pub all_read : (text : List ℕ) (new : TextAt) (v : whole.Value) → IsShort text → Reads whole (record { text = text; at = 0 }) new v → new.at ≡ length text → IsTextOfValues text v.1
all_read text new v short read ended =
    record {
      format = v.0;
      short = short;
      is = sym (slice_whole text) ∙ (ap (λ (n : ℕ). slice_range text 0 n) (sym ended) ∙ read.spans.is);
      writable = read.is;
      small = read.keeps;
    }

-- why the text is refused, where its sections are not read
pub text_fails : (text : List ℕ) (fault : ObjectFault) → IsShort text → Fails whole text 0 fault → HasFault text fault
text_fails text (faults.Form place) short (misses, none) = (
  short,
  none,
  misses.stops,
  λ is. misses.none (length text) (omega arith) (omega arith) (is.0, is.1, slice_whole text ∙ is.2),
)
text_fails text (faults.Limit place) short over = inr (short, over)
text_fails text (faults.Joint index) short none = absurd none
text_fails text faults.NoMemory short any = tt

-- something stands behind the end
pub fault_behind : (text : List ℕ) (new : TextAt) (p : whole.Value) → IsShort text → Reads whole (record { text = text; at = 0 }) new p → new.at ≢ length text → HasFault text (faults.Form new.at)
fault_behind text new p short read more = (
  short,
  λ place over. lawful_whole.under text 0 new.at place p read.is read.keeps read.spans over,
  record {
    after = omega arith;
    within = read.spans.within;
    before = ([], (p, read.is, append-nil (slice_range text 0 new.at) ∙ read.spans.is));
    stops = λ some longer. longer_no some longer.0 longer.1.0 longer.1.1 longer.1.2;
  },
  λ all. not_whole all.0 all.1 all.2,
)
  where
    inside : new.at < length text
    inside = omega (arith, read.spans.within, more)

    longer_no : new.at < length text → (rest : List ℕ) (other : whole.Value) → whole.Is other → slice_range text 0 (new.at + 1) ++ rest ≡ whole.text other → ⊥
    longer_no some rest other is_other same =
        let parts : slice_range text 0 (new.at + 1) ≡ whole.text p ++ slice_range text new.at (new.at + 1) =
        slice_split text 0 new.at (new.at + 1) (omega arith) (omega arith) ∙ ap (λ part. part ++ slice_range text new.at (new.at + 1)) read.spans.is in
        let both : whole.text p ++ (slice_range text new.at (new.at + 1) ++ rest) ≡ whole.text other ++ [] =
        sym (append_assoc (whole.text p) (slice_range text new.at (new.at + 1)) rest) ∙ (ap (λ part. part ++ rest) (sym parts) ∙ (same ∙ sym (append-nil (whole.text other)))) in
        let known = lawful_whole.code p other (slice_range text new.at (new.at + 1) ++ rest) [] read.is is_other both in
        omega (arith, ap length known.1, length-append (slice_range text new.at (new.at + 1)) rest, length_slice text new.at (new.at + 1) (omega (arith, some)))

    not_whole : (other : whole.Value) → whole.Is other → text ≡ whole.text other → ⊥
    not_whole other is_other same =
        let parts : text ≡ whole.text p ++ slice_range text new.at (length text) =
        sym (slice_whole text) ∙ (slice_split text 0 new.at (length text) (omega arith) read.spans.within ∙ ap (λ part. part ++ slice_range text new.at (length text)) read.spans.is) in
        let known = lawful_whole.code p other (slice_range text new.at (length text)) [] read.is is_other (sym parts ∙ (same ∙ sym (append-nil (whole.text other)))) in
        omega (arith, ap length known.1, length_slice text new.at (length text) (omega arith), inside)

-- what is read is in range
small_imports : (format : Format) (imports : List PlanImport) → AllByRecursion (IsWritableImport format) (map import_of imports) → AllByRecursion (λ i. IsSmallType i.ty) (map import_of imports)
    → AllByRecursion (λ i. IsSmall i.ty) imports
small_imports format [] are small = tt
small_imports format (i ∷ imports) are small = ((widths_there format (type_of i.ty) are.0.1, small.0), small_imports format imports are.1 small.1)

pub in_range : (format : Format) (v : SeenPlan) → IsWritable format (plan_of v) → IsSmallPlan (plan_of v) → All IsInRange v.parts → AreInRange v.imports v.outcome v.parts
in_range format v is small parts =
    record {
      of_imports = All-from_recursion (λ i. IsSmall i.ty) v.imports (small_imports format v.imports is.imports.1 small.imports.1);
      of_result = (widths_there format (type_of v.outcome) is.outcome, small.outcome);
      of_parts = parts;
    }

-- a cursor at the start
pub from_start : (text : List ℕ) (old new : TextAt) (p : whole.Value) → old.text ≡ text → old.at ≡ 0 → Reads whole old new p → Reads whole (record { text = text; at = 0 }) new p
from_start text old new p same start read =
    subst (λ (place : TextAt). Reads whole place new p) (λ i. record { text = same i; at = start i }) read

pub fails_from_start : (text : List ℕ) (old : TextAt) (fault : ObjectFault) → old.text ≡ text → old.at ≡ 0 → Fails whole old.text old.at fault → Fails whole text 0 fault
fails_from_start text old fault same start fails =
    subst (λ (n : ℕ). Fails whole text n fault) start (subst (λ (source : List ℕ). Fails whole source old.at fault) same fails)
