-- A line made at a stage leads from where the stage stands to where the next one does.
use Rattle.std.proofs.Common.{◌≡◌, ◌<◌, ◌≤◌, ℕ, zero, suc, true, false, List, [], ◌∷◌, length, drop, refl, sym, ap, subst, arith, Option, Some, None, inl, inr, ◌∙◌}
use Rattle.std.specs.Prelude.{slice_get, IfSome}
use Rattle.std.proofs.lemmas.Option.{slice_get_within, none-some}
use Rattle.gos_model.specs.Terms.{Term, Lit}
use Rattle.gos_model.specs.Labels as shown
use Rattle.gos_model.specs.Labels.{Given, given}
use Rattle.gos_model.specs.Moves.{Program, Config, Idle, Running, Answers}
use Rattle.gos_witness.specs.declared.labels.Label.{Label}
use Rattle.gos_witness.specs.declared.moves.Line.{Line}
use Rattle.gos_witness.specs.declared.moves.Line.TheVariants as lines
use Rattle.gos_witness.specs.declared.program.ProgramPort.{ProgramPort}
use Rattle.gos_witness.specs.declared.store.Entry.{Entry}
use Rattle.gos_witness.specs.declared.verifying.Stage.{Stage}
use Rattle.gos_witness.specs.NodeLists.{Listed, seen}
use Rattle.gos_witness.specs.Ports.{port_of, label_of, labels_of, AreOfPorts, imports_of}
use Rattle.gos_witness.specs.Programs.{SeenProgram, program_of}
use Rattle.gos_witness.specs.Lines.{Stand, MakesFrom}
use Rattle.gos_witness.specs.inner.Keeping.{Keeps}
use Rattle.gos_witness.specs.inner.Rows.{AreNarrow, entries_of}
use Rattle.gos_witness.specs.inner.Changes.{ShowsAt}
use Rattle.gos_witness.specs.inner.Stages.{HasValue, config_of, stand_of, IsStage, IsMade}
use Rattle.gos_witness.proofs.KeepLemmas.{keeps_twice}

-- a line from another configuration, and with other labels left, that are the same
from_there : (p : Program) (line : Line) (c d : Config) (xs ys : List shown.Label) (b : Stand) → c ≡ d → xs ≡ ys → MakesFrom p line d ys b → MakesFrom p line c xs b
from_there p line c d xs ys b ec el h =
    subst (λ (x : Config). MakesFrom p line x xs b) (sym ec) (subst (λ (zs : List shown.Label). MakesFrom p line d zs b) (sym el) h)

-- the labels that are left
drop_some : (labels : List Label) (n : ℕ) (o : Label) → slice_get labels n ≡ Some o → drop n labels ≡ o ∷ drop (suc n) labels
drop_some [] n o e = absurd (none-some o e)
drop_some (l ∷ labels) zero o e = let same : l ≡ o = cc e in ap (λ (x : Label). x ∷ labels) same
drop_some (l ∷ labels) (suc n) o e = drop_some labels n o e

drop_none : (labels : List Label) (n : ℕ) → slice_get labels n ≡ None → drop n labels ≡ []
drop_none [] zero e = refl
drop_none [] (suc n) e = refl
drop_none (l ∷ labels) zero e = absurd (none-some l (sym e))
drop_none (l ∷ labels) (suc n) e = drop_none labels n e

pub left_some : (ports : List ProgramPort) (labels : List Label) (n : ℕ) (o : Label) → slice_get labels n ≡ Some o
    → labels_of ports (drop n labels) ≡ label_of ports o ∷ labels_of ports (drop (suc n) labels)
left_some ports labels n o e = ap (labels_of ports) (drop_some labels n o e)

left_none : (ports : List ProgramPort) (labels : List Label) (n : ℕ) → slice_get labels n ≡ None → labels_of ports (drop n labels) ≡ []
left_none ports labels n e = ap (labels_of ports) (drop_none labels n e)

pub of_port : (ports : List ProgramPort) (labels : List Label) (n : ℕ) (o : Label) → AreOfPorts ports labels → slice_get labels n ≡ Some o → o.port < length ports
of_port ports [] n o are e = absurd (none-some o e)
of_port ports (l ∷ labels) zero o are e = let same : l ≡ o = cc e in subst (λ (x : Label). x.port < length ports) same are.0
of_port ports (l ∷ labels) (suc n) o are e = of_port ports labels n o are.1 e

-- the root's labels
given_of : (ports : List ProgramPort) (o : Label) (s k : ℕ) → o.port ≡ 0 → o.place ≡ s → o.value ≡ k → label_of ports o ≡ given s k
given_of ports o s k ep es ek = λ i. record { port = port_of ports (ep i); event = es i; value = ek i }

root_port : (ports : List ProgramPort) (n : ℕ) → port_of ports n ≡ Given → n ≡ 0
root_port ports zero e = refl
root_port ports (suc n) e = absurd (cc e)

pub given_is : (ports : List ProgramPort) (o : Label) (s k : ℕ) → label_of ports o ≡ given s k → (o.port ≡ 0) × (o.place ≡ s) × (o.value ≡ k)
given_is ports o s k e = (
  root_port ports o.port (ap (λ (q : shown.Label). q.port) e),
  ap (λ (q : shown.Label). q.event) e,
  ap (λ (q : shown.Label). q.value) e,
)

-- what is known of the next stage
staged : (p : SeenProgram) (labels : List Label) (g h : Stage) (r : Option ℕ) → IsStage p labels g → h.running ≡ r → IfSome r (λ i. i < length h.list.nodes)
    → AreNarrow h.store.items → Keeps g.list h.list → h.matched ≤ length labels → IsStage p labels h
staged p labels g h r stage er running narrow keeps matched = record {
  running = subst (λ (o : Option ℕ). IfSome o (λ i. i < length h.list.nodes)) (sym er) running;
  narrow = narrow;
  program = keeps_twice p.list g.list h.list stage.program keeps;
  matched = matched;
}

-- where the next stage stands
stands : (p : SeenProgram) (labels : List Label) (h : Stage) (c : Config) (n : ℕ) → config_of h.list h.running h.store.items ≡ c → h.matched ≡ n
    → stand_of p.ports labels h ≡ record { config = c; left = labels_of p.ports (drop n labels) }
stands p labels h c n ec en = λ i. record { config = ec i; left = labels_of p.ports (drop (en i) labels) }

runs : (l : Listed) (r : Option ℕ) (root : ℕ) (s : List Entry) → r ≡ Some root → config_of l r s ≡ Running (seen l root) (entries_of s)
runs l r root s e = ap (λ (o : Option ℕ). config_of l o s) e

idles : (l : Listed) (r : Option ℕ) (s : List Entry) → r ≡ None → config_of l r s ≡ Idle
idles l r s e = ap (λ (o : Option ℕ). config_of l o s) e

-- the root's request
pub begin_made : (p : SeenProgram) (labels : List Label) (g h : Stage) (o : Label) → IsStage p labels g → p.root < length p.list.nodes → g.running ≡ None
    → slice_get labels g.matched ≡ Some o → o.port ≡ 0 → o.place ≡ 0 → o.value ≡ 0 → Keeps g.list h.list → h.running ≡ Some p.root → h.store.items ≡ []
    → h.matched ≡ suc g.matched → IsMade p labels lines.Root g h true
begin_made p labels g h o stage there none at ep es ek keeps er empty em =
    let known : IsStage p labels h = staged p labels g h (Some p.root) stage er root_there (subst (λ (s : List Entry). AreNarrow s) (sym empty) tt) keeps next in (
      known,
      from_there (program_of p) lines.Root (config_of g.list g.running g.store.items) Idle (labels_of p.ports (drop g.matched labels))
          (label_of p.ports o ∷ labels_of p.ports (drop (suc g.matched) labels)) (stand_of p.ports labels h) (idles g.list g.running g.store.items none)
          (left_some p.ports labels g.matched o at)
          (given_of p.ports o 0 0 ep es ek, stands p labels h (Running (seen p.list p.root) []) (suc g.matched) (config known) em),
      keeps,
    )
  where
    next : h.matched ≤ length labels
    next = let within = slice_get_within labels g.matched o at in omega (arith, within, em)

    root_there : p.root < length h.list.nodes
    root_there = omega (arith, there, stage.program.more, keeps.more)

    config : IsStage p labels h → config_of h.list h.running h.store.items ≡ Running (seen p.list p.root) []
    config known =
        runs h.list h.running p.root h.store.items er
        ∙ (λ i. Running (known.program.terms p.root there i) (entries_of (empty i)))

-- no label is left
pub root_none : (p : SeenProgram) (labels : List Label) (g h : Stage) → slice_get labels g.matched ≡ None → IsMade p labels lines.Root g h false
root_none p labels g h none b makes =
    by (config_of g.list g.running g.store.items) (from_there (program_of p) lines.Root (config_of g.list g.running g.store.items)
    (config_of g.list g.running g.store.items) [] (labels_of p.ports (drop g.matched labels)) b refl (sym (left_none p.ports labels g.matched none)) makes)
  where
    by : (c : Config) → MakesFrom (program_of p) lines.Root c [] b → ⊥
    by Idle h = h
    by (Running m s) h = h

pub begin_wrong : (p : SeenProgram) (labels : List Label) (g h : Stage) (o : Label) → g.running ≡ None → slice_get labels g.matched ≡ Some o
    → ((o.port ≡ 0) × (o.place ≡ 0) × (o.value ≡ 0) → ⊥) → IsMade p labels lines.Root g h false
begin_wrong p labels g h o none at other b makes =
    let (same, is) =
    from_there (program_of p) lines.Root Idle (config_of g.list g.running g.store.items) (label_of p.ports o ∷ labels_of p.ports (drop (suc g.matched) labels))
    (labels_of p.ports (drop g.matched labels)) b (sym (idles g.list g.running g.store.items none)) (sym (left_some p.ports labels g.matched o at)) makes in
    other (given_is p.ports o 0 0 same)

-- the root's answer
pub answer_made : (p : SeenProgram) (labels : List Label) (g h : Stage) (root : ℕ) (o : Label) → IsStage p labels g → g.running ≡ Some root
    → slice_get labels g.matched ≡ Some o → Answers (label_of p.ports o) (seen g.list root) → Keeps g.list h.list → h.running ≡ None → AreNarrow h.store.items
    → h.matched ≡ suc g.matched → IsMade p labels lines.Root g h true
answer_made p labels g h root o stage some at answers keeps er narrow em = (
  staged p labels g h None stage er tt narrow keeps next,
  from_there (program_of p) lines.Root (config_of g.list g.running g.store.items) (Running (seen g.list root) (entries_of g.store.items))
      (labels_of p.ports (drop g.matched labels)) (label_of p.ports o ∷ labels_of p.ports (drop (suc g.matched) labels)) (stand_of p.ports labels h)
      (runs g.list g.running root g.store.items some) (left_some p.ports labels g.matched o at)
      (answers, stands p labels h Idle (suc g.matched) (idles h.list h.running h.store.items er) em),
  keeps,
)
  where
    next : h.matched ≤ length labels
    next = let within = slice_get_within labels g.matched o at in omega (arith, within, em)

pub answer_wrong : (p : SeenProgram) (labels : List Label) (g h : Stage) (root : ℕ) (o : Label) → g.running ≡ Some root → slice_get labels g.matched ≡ Some o
    → (Answers (label_of p.ports o) (seen g.list root) → ⊥) → IsMade p labels lines.Root g h false
answer_wrong p labels g h root o some at never b makes =
    let (answers, is) =
    from_there (program_of p) lines.Root (Running (seen g.list root) (entries_of g.store.items)) (config_of g.list g.running g.store.items)
    (label_of p.ports o ∷ labels_of p.ports (drop (suc g.matched) labels)) (labels_of p.ports (drop g.matched labels)) b
    (sym (runs g.list g.running root g.store.items some)) (sym (left_some p.ports labels g.matched o at)) makes in
    never answers

-- an answer is the root's, and has the value's number
has_answers : (ports : List ProgramPort) (o : Label) (m : Term) (k : ℕ) → HasValue m k → o.port ≡ 0 → o.place ≡ 1 → o.value ≡ k → Answers (label_of ports o) m
has_answers ports o m k (inl (is, none)) ep es ek = inl (is, given_of ports o 1 0 ep es (ek ∙ none))
has_answers ports o m k (inr (w, is)) ep es ek = inr (k, w, is, given_of ports o 1 k ep es ek)

answers_have : (ports : List ProgramPort) (o : Label) (m : Term) → Answers (label_of ports o) m → (k : ℕ) × HasValue m k × ((o.port ≡ 0) × (o.place ≡ 1) × (o.value ≡ k))
answers_have ports o m (inl (is, same)) = (0, inl (is, refl), given_is ports o 1 0 same)
answers_have ports o m (inr (k, w, is, same)) = (k, inr (w, is), given_is ports o 1 k same)

abbrev number_in : Term → ℕ
number_in (Lit k w) = k
number_in m = 0

in_value : (m : Term) (k : ℕ) → HasValue m k → number_in m ≡ k
in_value m k (inl (is, none)) = ap number_in is ∙ sym none
in_value m k (inr (w, is)) = ap number_in is

pub value_made : (p : SeenProgram) (labels : List Label) (g h : Stage) (root : ℕ) (o : Label) (k : ℕ) → IsStage p labels g → g.running ≡ Some root
    → slice_get labels g.matched ≡ Some o → HasValue (seen g.list root) k → (o.port ≡ 0) × (o.place ≡ 1) × (o.value ≡ k) → Keeps g.list h.list → h.running ≡ None
    → AreNarrow h.store.items → h.matched ≡ suc g.matched → IsMade p labels lines.Root g h true
value_made p labels g h root o k stage some at value (ep, es, ek) keeps er narrow em =
    answer_made p labels g h root o stage some at (has_answers p.ports o (seen g.list root) k value ep es ek) keeps er narrow em

pub value_wrong : (p : SeenProgram) (labels : List Label) (g h : Stage) (root : ℕ) (o : Label) (k : ℕ) → g.running ≡ Some root → slice_get labels g.matched ≡ Some o
    → HasValue (seen g.list root) k → ((o.port ≡ 0) × (o.place ≡ 1) × (o.value ≡ k) → ⊥) → IsMade p labels lines.Root g h false
value_wrong p labels g h root o k some at value never = answer_wrong p labels g h root o some at stop
  where
    stop : Answers (label_of p.ports o) (seen g.list root) → ⊥
    stop answers =
        let (j, other, (ep, es, ek)) = answers_have p.ports o (seen g.list root) answers in
        never (ep, es, ek ∙ (sym (in_value (seen g.list root) j other) ∙ in_value (seen g.list root) k value))

pub value_none : (p : SeenProgram) (labels : List Label) (g h : Stage) (root : ℕ) (o : Label) → g.running ≡ Some root → slice_get labels g.matched ≡ Some o
    → ((k : ℕ) → HasValue (seen g.list root) k → ⊥) → IsMade p labels lines.Root g h false
value_none p labels g h root o some at never =
    answer_wrong p labels g h root o some at (λ answers. let (j, value, same) = answers_have p.ports o (seen g.list root) answers in never j value)

-- a label
pub show_made : (p : SeenProgram) (labels : List Label) (g h : Stage) (root next : ℕ) (path : List ℕ) (o : Label) → IsStage p labels g → g.running ≡ Some root
    → slice_get labels g.matched ≡ Some o → ShowsAt h.list (imports_of p.ports) (label_of p.ports o) path (seen g.list root) (Some next)
    → Keeps g.list h.list → h.running ≡ Some next → h.store.items ≡ g.store.items → h.matched ≡ suc g.matched → IsMade p labels (lines.Label path) g h true
show_made p labels g h root next path o stage some at (there, does) keeps er es em = (
  staged p labels g h (Some next) stage er there (subst AreNarrow (sym es) stage.narrow) keeps used,
  from_there (program_of p) (lines.Label path) (config_of g.list g.running g.store.items) (Running (seen g.list root) (entries_of g.store.items))
      (labels_of p.ports (drop g.matched labels)) (label_of p.ports o ∷ labels_of p.ports (drop (suc g.matched) labels)) (stand_of p.ports labels h)
      (runs g.list g.running root g.store.items some) (left_some p.ports labels g.matched o at)
      (seen h.list next, does, stands p labels h (Running (seen h.list next) (entries_of g.store.items)) (suc g.matched) config em),
  keeps,
)
  where
    used : h.matched ≤ length labels
    used = let within = slice_get_within labels g.matched o at in omega (arith, within, em)

    config : config_of h.list h.running h.store.items ≡ Running (seen h.list next) (entries_of g.store.items)
    config = runs h.list h.running next h.store.items er ∙ ap (λ (s : List Entry). Running (seen h.list next) (entries_of s)) es

pub show_wrong : (p : SeenProgram) (labels : List Label) (g h : Stage) (l : Listed) (root : ℕ) (path : List ℕ) (o : Label) → g.running ≡ Some root
    → slice_get labels g.matched ≡ Some o → ShowsAt l (imports_of p.ports) (label_of p.ports o) path (seen g.list root) None
    → IsMade p labels (lines.Label path) g h false
show_wrong p labels g h l root path o some at never b makes =
    let (t, does, is) =
    from_there (program_of p) (lines.Label path) (Running (seen g.list root) (entries_of g.store.items)) (config_of g.list g.running g.store.items)
    (label_of p.ports o ∷ labels_of p.ports (drop (suc g.matched) labels)) (labels_of p.ports (drop g.matched labels)) b
    (sym (runs g.list g.running root g.store.items some)) (sym (left_some p.ports labels g.matched o at)) makes in
    never t does

pub show_none : (p : SeenProgram) (labels : List Label) (g h : Stage) (root : ℕ) (path : List ℕ) → g.running ≡ Some root → slice_get labels g.matched ≡ None
    → IsMade p labels (lines.Label path) g h false
show_none p labels g h root path some none b makes =
    from_there (program_of p) (lines.Label path) (Running (seen g.list root) (entries_of g.store.items)) (config_of g.list g.running g.store.items) []
    (labels_of p.ports (drop g.matched labels)) b (sym (runs g.list g.running root g.store.items some)) (sym (left_none p.ports labels g.matched none)) makes
