-- Line by line to the end of the lines.
use Rattle.std.proofs.Common.{◌≡◌, ◌<◌, ◌≤◌, ◌+◌, ℕ, zero, suc, Bool, true, false, nat_lt, List, [], ◌∷◌, length, take, drop, refl, sym, ap, subst, arith, Some, inl, inr, ◌∙◌}
use Rattle.std.specs.Prelude.{get_or, slice_get, IfSome}
use Rattle.std.proofs.lemmas.Option.{none-some}
use Rattle.std.proofs.lemmas.List.{take_all}
use Rattle.gos_witness.specs.declared.labels.Label.{Label}
use Rattle.gos_witness.specs.declared.moves.Line.{Line}
use Rattle.gos_witness.specs.declared.moves.Line.TheVariants.{Unfold, Step, Label as LabelLine, Root}
use Rattle.gos_witness.specs.declared.program.ProgramPort.{ProgramPort}
use Rattle.gos_witness.specs.declared.verifying.Stage.{Stage}
use Rattle.gos_witness.specs.Sizes.{size_of}
use Rattle.gos_witness.specs.Ports.{labels_of}
use Rattle.gos_witness.specs.Programs.{SeenProgram, program_of}
use Rattle.gos_witness.specs.Lines.{Stand, start, Lead, IsIdle, IsWrong, IsTooLarge, IsLeft, limit}
use Rattle.gos_witness.specs.inner.Keeping.{Keeps}
use Rattle.gos_witness.specs.inner.Rows.{AreNarrow}
use Rattle.gos_witness.specs.inner.Stages.{config_of, stand_of, IsMade, IsPassed}
use Rattle.gos_witness.proofs.VerifyLemmas.{wrong_here, large_here, lead_on, not_at_end}

-- a line by its number
pub got : (lines : List Line) (n : ℕ) (line : Line) → slice_get lines n ≡ Some line → (n < length lines) × (line ≡ get_or lines n line)
got [] n line e = absurd (none-some line e)
got (l ∷ lines) zero line e = let same : l ≡ line = cc e in (omega arith, sym same)
got (l ∷ lines) (suc n) line e = let (within, is) = got lines n line e in (omega (arith, within), is)

none_behind : (k : ℕ) (ls : List Line) → length ls ≤ k → drop k ls ≡ []
none_behind zero [] h = refl
none_behind zero (l ∷ ls) h = absurd (omega (arith, h))
none_behind (suc k) [] h = refl
none_behind (suc k) (l ∷ ls) h = none_behind k ls (omega (arith, h))

-- the line with this number is the last and an unfolding, or it isn't
pub idle_here : (lines : List Line) (n : ℕ) (line : Line) → suc n ≡ length lines → IsIdle line [] → IsIdle line (drop (suc n) lines)
idle_here lines n line last idle = subst (λ (ls : List Line). IsIdle line ls) (sym (none_behind (suc n) lines (omega (arith, last)))) idle

none_after : (k : ℕ) (ls : List Line) → k < length ls → drop k ls ≡ [] → ⊥
none_after zero [] h e = omega (arith, h)
none_after zero (l ∷ ls) h e = let n = ap length e in omega (arith, n)
none_after (suc k) [] h e = omega (arith, h)
none_after (suc k) (l ∷ ls) h e = none_after k ls (omega (arith, h)) e

never_idle : (x : Line) (ls : List Line) → (ls ≡ [] → ⊥) → IsIdle x ls → ⊥
never_idle (Unfold path) [] some h = some refl
never_idle (Unfold path) (l ∷ ls) some h = h
never_idle (Step path) ls some h = h
never_idle (LabelLine path) ls some h = h
never_idle Root ls some h = h

pub not_idle_here : (lines : List Line) (n : ℕ) (line : Line) → n < length lines → (suc n ≡ length lines → IsIdle line [] → ⊥) → IsIdle line (drop (suc n) lines) → ⊥
not_idle_here lines n line within never idle = by (nat_lt (suc n) (length lines)) refl
  where
    by : (b : Bool) → nat_lt (suc n) (length lines) ≡ b → ⊥
    by true e = let less : suc n < length lines = grind (arith, e) in never_idle line (drop (suc n) lines) (none_after (suc n) lines less) idle
    by false e =
        let last : suc n ≡ length lines = grind (arith, e, within) in
        never last (subst (λ (ls : List Line). IsIdle line ls) (none_behind (suc n) lines (omega (arith, last))) idle)

pub passed_one : (p : SeenProgram) (labels : List Label) (lines : List Line) (n : ℕ) (line : Line) (g h : Stage) → IsPassed p labels lines n g → n < length lines
    → line ≡ get_or lines n line → IsMade p labels line g h true → size_of (config_of h.list h.running h.store.items) ≤ limit
    → (IsIdle line (drop (suc n) lines) → ⊥) → IsPassed p labels lines (suc n) h
passed_one p labels lines n line g h passed within is made small never = record {
  stage = made.0;
  lead = lead_on (program_of p) (labels_of p.ports labels) lines n line (stand_of p.ports labels g) (stand_of p.ports labels h) within is passed.lead made.1 small;
  whole = λ last. not_at_end lines n line within is last never;
}

pub passed_idle : (p : SeenProgram) (labels : List Label) (lines : List Line) (n : ℕ) (line : Line) (g : Stage) → IsPassed p labels lines n g → n < length lines
    → line ≡ get_or lines n line → IsIdle line (drop (suc n) lines) → IsWrong (program_of p) (labels_of p.ports labels) lines n
passed_idle p labels lines n line g passed within is idle =
    wrong_here (program_of p) (labels_of p.ports labels) lines n line (stand_of p.ports labels g) within is passed.lead (inr idle)

pub passed_wrong : (p : SeenProgram) (labels : List Label) (lines : List Line) (n : ℕ) (line : Line) (g h : Stage) → IsPassed p labels lines n g → n < length lines
    → line ≡ get_or lines n line → IsMade p labels line g h false → IsWrong (program_of p) (labels_of p.ports labels) lines n
passed_wrong p labels lines n line g h passed within is cant =
    wrong_here (program_of p) (labels_of p.ports labels) lines n line (stand_of p.ports labels g) within is passed.lead (inl cant)

pub passed_large : (p : SeenProgram) (labels : List Label) (lines : List Line) (n : ℕ) (line : Line) (g h : Stage) (nodes : ℕ) → IsPassed p labels lines n g → n < length lines
    → line ≡ get_or lines n line → IsMade p labels line g h true → nodes ≡ size_of (config_of h.list h.running h.store.items) → limit < nodes
    → (IsIdle line (drop (suc n) lines) → ⊥) → IsTooLarge (program_of p) (labels_of p.ports labels) lines nodes
passed_large p labels lines n line g h nodes passed within is made has large never =
    large_here (program_of p) (labels_of p.ports labels) lines n line (stand_of p.ports labels g) (stand_of p.ports labels h) nodes within is passed.lead made.1 never
    large has

-- a stage that stands at the same place serves as well
pub passed_same : (p : SeenProgram) (labels : List Label) (lines : List Line) (n : ℕ) (g h : Stage) → IsPassed p labels lines n g → Keeps p.list h.list
    → IfSome h.running (λ i. i < length h.list.nodes)
    → config_of h.list h.running g.store.items ≡ config_of g.list g.running g.store.items → h.store ≡ g.store → h.matched ≡ g.matched
    → IsPassed p labels lines n h
passed_same p labels lines n g h passed keeps running ec es em = record {
  stage = record {
    running = running;
    narrow = subst AreNarrow (sym items) passed.stage.narrow;
    program = keeps;
    matched = subst (λ (k : ℕ). k ≤ length labels) (sym em) passed.stage.matched;
  };
  lead = subst (λ (x : Stand). Lead (program_of p) (take n lines) (start (labels_of p.ports labels)) x) (sym same) passed.lead;
  whole = passed.whole;
}
  where
    items : h.store.items ≡ g.store.items
    items = λ i. (es i).items

    config : config_of h.list h.running h.store.items ≡ config_of g.list g.running g.store.items
    config = ap (config_of h.list h.running) items ∙ ec

    same : stand_of p.ports labels h ≡ stand_of p.ports labels g
    same = λ i. record { config = config i; left = labels_of p.ports (drop (em i) labels) }

-- all lines are passed
whole_lead : (p : SeenProgram) (labels : List Label) (lines : List Line) (g : Stage) → IsPassed p labels lines (length lines) g
    → Lead (program_of p) lines (start (labels_of p.ports labels)) (stand_of p.ports labels g)
whole_lead p labels lines g passed =
    subst (λ (ls : List Line). Lead (program_of p) ls (start (labels_of p.ports labels)) (stand_of p.ports labels g)) (take_all (length lines) lines (omega arith)) passed.lead

pub labels_length : (ports : List ProgramPort) (labels : List Label) → length (labels_of ports labels) ≡ length labels
labels_length ports [] = refl
labels_length ports (o ∷ labels) = ap suc (labels_length ports labels)

pub rest_length : (ports : List ProgramPort) (labels : List Label) (n : ℕ) → n ≤ length labels → n + length (labels_of ports (drop n labels)) ≡ length labels
rest_length ports labels zero h = let all = labels_length ports labels in omega (arith, all)
rest_length ports [] (suc n) h = absurd (omega (arith, h))
rest_length ports (o ∷ labels) (suc n) h = let rest = rest_length ports labels n (omega (arith, h)) in omega (arith, rest)

pub passed_left : (p : SeenProgram) (labels : List Label) (lines : List Line) (g : Stage) → IsPassed p labels lines (length lines) g → g.matched < length labels
    → IsLeft (program_of p) (labels_of p.ports labels) lines g.matched
passed_left p labels lines g passed some =
    let rest = rest_length p.ports labels g.matched passed.stage.matched in
    let all = labels_length p.ports labels in
    record {
      stand = stand_of p.ports labels g;
      lead = whole_lead p labels lines g passed;
      whole = passed.whole refl;
      some = λ none. let n = ap length none in absurd (omega (arith, n, rest, some));
      used = omega (arith, rest, all);
    }

pub none_left : (ports : List ProgramPort) (labels : List Label) (n : ℕ) → length labels ≤ n → labels_of ports (drop n labels) ≡ []
none_left ports [] zero h = refl
none_left ports [] (suc n) h = refl
none_left ports (o ∷ labels) zero h = absurd (omega (arith, h))
none_left ports (o ∷ labels) (suc n) h = none_left ports labels n (omega (arith, h))
