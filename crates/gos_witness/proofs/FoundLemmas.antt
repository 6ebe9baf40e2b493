-- The lines so far lead on, and so do they with one more.
use Rattle.std.proofs.Common.{◌≡◌, ◌≢◌, ◌⊎◌, inl, inr, ◌<◌, ◌≤◌, ◌+◌, ℕ, true, false, zero, suc, List, [], ◌∷◌, ◌++◌, length, drop, refl, sym, ap, subst, arith, ◌∙◌}
use Rattle.std.specs.Prelude.{IfSome}
use Rattle.std.specs.List.{AllByRecursion}
use Rattle.gos_types.specs.Types.{Type'}
use Rattle.gos_model.specs.Typing.{Typed}
use Rattle.gos_model.specs.Labels as shown
use Rattle.gos_model.specs.Moves.{Program, Config, Idle, Running}
use Rattle.gos_witness.specs.declared.labels.Label.{Label}
use Rattle.gos_witness.specs.declared.fault.ExplainFault.{ExplainFault}
use Rattle.gos_witness.specs.declared.fault.ExplainFault.TheVariants as faults
use Rattle.gos_witness.specs.declared.moves.Line.{Line}
use Rattle.gos_witness.specs.declared.moves.Line.TheVariants as kinds
use Rattle.gos_witness.specs.declared.program.ProgramPort.{ProgramPort}
use Rattle.gos_witness.specs.declared.verifying.Stage.{Stage}
use Rattle.gos_witness.specs.Paths.{IsChild}
use Rattle.gos_witness.specs.Sizes.{size_of}
use Rattle.gos_witness.specs.Ports.{imports_of, label_of, labels_of}
use Rattle.gos_witness.specs.Programs.{SeenProgram, program_of}
use Rattle.gos_witness.specs.Lines.{Stand, start, CantMake, MakesFrom, IsSmall, Lead, EndsIdly, Explains, limit}
use Rattle.gos_witness.specs.inner.Keeping.{Keeps}
use Rattle.gos_witness.specs.inner.Rows.{AreNarrow}
use Rattle.gos_witness.specs.inner.Stages.{config_of, stand_of, IsStage, IsMade}
use Rattle.gos_witness.specs.inner.PortMasks.{AreMasks}
use Rattle.gos_witness.specs.declared.masks.Masks.{Masks}
use Rattle.gos_witness.proofs.MaskLemmas.{masks_kept}
use Rattle.gos_witness.specs.inner.Finds.{IsAdvanced, steps_in, IsFound, Overgrows, IsHalt}
use Rattle.gos_witness.specs.Find.{IsNotTrace, IsSpent, budget, IsFaultOfFind}
use Rattle.gos_witness.specs.inner.Searches.{IsSearch, IsNeededFor, IsNextLine}
use Rattle.gos_witness.proofs.KeepLemmas.{one_longer}
use Rattle.gos_witness.proofs.LeadLemmas.{large_found}
use Rattle.gos_witness.proofs.SearchLemmas.{search_none, search_one}
use Rattle.gos_witness.proofs.RefusedLemmas.{spent_found, refused_found}
use Rattle.gos_witness.proofs.PassLemmas.{labels_length, rest_length, none_left}
use Rattle.gos_witness.proofs.VerifyLemmas.{lead_more, not_ending}

pub one_child_more : (xs : List ℕ) (x : ℕ) → AllByRecursion IsChild xs → IsChild x → AllByRecursion IsChild (xs ++ x ∷ [])
one_child_more [] x all is = (is, tt)
one_child_more (y ∷ xs) x all is = (all.0, one_child_more xs x all.1 is)

none_ends : EndsIdly [] → ⊥
none_ends (before, line, e, idle) = let n = ap length e in let one = one_longer before line in absurd (omega (arith, n, one))

pub found_none : (p : SeenProgram) (labels : List Label) (g : Stage) (steps : ℕ) → IsStage p labels g
    → stand_of p.ports labels g ≡ start (labels_of p.ports labels) → steps ≡ 0 → IsFound p labels [] g steps
found_none p labels g steps stage is none =
    let ls = labels_of p.ports labels in
    record {
      stage = stage;
      lead = sym is;
      some = λ ends. absurd (none_ends ends);
      count = none;
      search =
          subst (λ (k : ℕ). IsSearch (program_of p) ls k (stand_of p.ports labels g)) (sym none)
          (subst (IsSearch (program_of p) ls 0) (sym is) (search_none (program_of p) ls));
    }

-- an unfolding uses no label
unfold_keeps : (p : Program) (path : List ℕ) (c : Config) (left : List shown.Label) (b : Stand) → MakesFrom p (kinds.Unfold path) c left b → b.left ≡ left
unfold_keeps p path Idle left b h = absurd h
unfold_keeps p path (Running m s) left b (t, at, e) = ap (λ (x : Stand). x.left) e

still_some : (p : SeenProgram) (labels : List Label) (lines : List Line) (line : Line) (g h : Stage) → g.matched < length labels → IsAdvanced p labels line g h
    → EndsIdly (lines ++ line ∷ []) → h.matched < length labels
still_some p labels lines (kinds.Unfold path) g h some next ends =
    let same = ap length (unfold_keeps (program_of p) path (stand_of p.ports labels g).config (stand_of p.ports labels g).left (stand_of p.ports labels h) next.makes) in
    let before = rest_length p.ports labels g.matched (omega (arith, some)) in
    let after = rest_length p.ports labels h.matched next.stage.matched in
    omega (arith, some, same, before, after)
still_some p labels lines (kinds.Step path) g h some next ends = absurd (not_ending lines (kinds.Step path) (λ idle. idle) ends)
still_some p labels lines (kinds.Label path) g h some next ends = absurd (not_ending lines (kinds.Label path) (λ idle. idle) ends)
still_some p labels lines kinds.Root g h some next ends = absurd (not_ending lines kinds.Root (λ idle. idle) ends)

steps_more : (lines : List Line) (line : Line) → steps_in (lines ++ line ∷ []) ≡ steps_in (line ∷ []) + steps_in lines
steps_more [] line = omega arith
steps_more (kinds.Step path ∷ lines) line = let rest = steps_more lines line in omega (arith, rest)
steps_more (kinds.Unfold path ∷ lines) line = steps_more lines line
steps_more (kinds.Label path ∷ lines) line = steps_more lines line
steps_more (kinds.Root ∷ lines) line = steps_more lines line

pub found_one : (p : SeenProgram) (labels : List Label) (lines : List Line) (line : Line) (g h : Stage) (n k : ℕ)
    → (ty : Type') × Typed (imports_of p.ports) [] (program_of p).body ty → IsFound p labels lines g n → g.matched < length labels
    → IsAdvanced p labels line g h → k ≡ steps_in (line ∷ []) + n → IsFound p labels (lines ++ line ∷ []) h k
found_one p labels lines line g h n k typed found some next more =
    let count = found.count in
    let longer = steps_more lines line in
    record {
      stage = next.stage;
      lead = lead_more (program_of p) lines line (start (labels_of p.ports labels)) (stand_of p.ports labels g) (stand_of p.ports labels h) found.lead next.makes next.small;
      some = still_some p labels lines line g h some next;
      count = omega (arith, more, count, longer);
      search =
          subst (λ (j : ℕ). IsSearch (program_of p) (labels_of p.ports labels) j (stand_of p.ports labels h)) (sym more)
          (search_one (program_of p) typed.0 typed.1 (labels_of p.ports labels) n line (stand_of p.ports labels g) (stand_of p.ports labels h) found.search next.makes
          next.needed);
    }

pub found_all : (p : SeenProgram) (labels : List Label) (lines : List Line) (g : Stage) (steps : ℕ) → IsFound p labels lines g steps → length labels ≤ g.matched
    → Explains (program_of p) (labels_of p.ports labels) lines
found_all p labels lines g steps found none = record {
  config = config_of g.list g.running g.store.items;
  lead =
      subst (λ (xs : List shown.Label). Lead (program_of p) lines (start (labels_of p.ports labels)) (record { config = config_of g.list g.running g.store.items; left = xs }))
      (none_left p.ports labels g.matched none) found.lead;
  whole = λ ends. let some = found.some ends in omega (arith, some, none);
}

-- a line that was made, and a stage behind it that stands at the same place
pub advanced : (p : SeenProgram) (labels : List Label) (line : Line) (g h k : Stage) → IsStage p labels h
    → MakesFrom (program_of p) line (stand_of p.ports labels g).config (stand_of p.ports labels g).left (stand_of p.ports labels h)
    → size_of (config_of h.list h.running h.store.items) ≤ limit → Keeps p.list k.list → IfSome k.running (λ i. i < length k.list.nodes)
    → config_of k.list k.running h.store.items ≡ config_of h.list h.running h.store.items → k.store ≡ h.store → k.matched ≡ h.matched
    → IsNeededFor line (stand_of p.ports labels g).config (stand_of p.ports labels g).left → IsAdvanced p labels line g k
advanced p labels line g h k stage makes small keeps running ec es em needed = record {
  stage = record {
    running = running;
    narrow = subst AreNarrow (sym items) stage.narrow;
    program = keeps;
    matched = subst (λ (n : ℕ). n ≤ length labels) (sym em) stage.matched;
  };
  makes = subst (λ (x : Stand). MakesFrom (program_of p) line (stand_of p.ports labels g).config (stand_of p.ports labels g).left x) (sym same) makes;
  small = subst IsSmall (sym same) small;
  needed = needed;
}
  where
    items : k.store.items ≡ h.store.items
    items = λ i. (es i).items

    config : config_of k.list k.running k.store.items ≡ config_of h.list h.running h.store.items
    config = ap (config_of k.list k.running) items ∙ ec

    same : stand_of p.ports labels k ≡ stand_of p.ports labels h
    same = λ i. record { config = config i; left = labels_of p.ports (drop (em i) labels) }

-- where no line is found
some_left : (ports : List ProgramPort) (labels : List Label) (n : ℕ) → n < length labels
    → (o : shown.Label) × (left : List shown.Label) × (labels_of ports (drop n labels) ≡ o ∷ left)
some_left ports [] n less = absurd (omega (arith, less))
some_left ports (o ∷ labels) zero less = (label_of ports o, labels_of ports labels, refl)
some_left ports (o ∷ labels) (suc n) less = some_left ports labels n (omega (arith, less))

pub found_fault : (p : SeenProgram) (labels : List Label) (lines : List Line) (g : Stage) (steps : ℕ) (fault : ExplainFault) → IsFound p labels lines g steps
    → g.matched < length labels → IsHalt p labels g steps fault → fault ≢ faults.NoMemory → IsFaultOfFind (program_of p) (labels_of p.ports labels) fault
found_fault p labels lines g steps (faults.Nodes nodes) found some halt other =
    large_found (program_of p) (labels_of p.ports labels) lines halt.line (stand_of p.ports labels g) halt.next nodes found.lead halt.makes halt.has halt.large
found_fault p labels lines g steps (faults.NotTrace k) found some (is, never) other =
    let (o, left, first) = some_left p.ports labels g.matched some in
    let rest = rest_length p.ports labels g.matched found.stage.matched in
    let all = labels_length p.ports labels in
    subst (IsNotTrace (program_of p) (labels_of p.ports labels)) (sym is)
    (refused_found (program_of p) (labels_of p.ports labels) lines (stand_of p.ports labels g) steps g.matched o left first (omega (arith, rest, all)) found.search
    found.lead never)
found_fault p labels lines g steps (faults.Spent k) found some (is, large) other =
    let (o, left, first) = some_left p.ports labels g.matched some in
    let rest = rest_length p.ports labels g.matched found.stage.matched in
    let all = labels_length p.ports labels in
    subst (IsSpent (program_of p) (labels_of p.ports labels)) (sym is)
    (spent_found (program_of p) (labels_of p.ports labels) lines (stand_of p.ports labels g) steps g.matched o left first (omega (arith, rest, all)) found.search
    found.lead found.count (subst (λ (j : ℕ). budget j ≤ steps) is large))
found_fault p labels lines g steps faults.NoMemory found some halt other = absurd (other refl)
found_fault p labels lines g steps (faults.Form at) found some halt other = absurd halt
found_fault p labels lines g steps (faults.Wrong n) found some halt other = absurd halt
found_fault p labels lines g steps (faults.Labels n) found some halt other = absurd halt
found_fault p labels lines g steps faults.Taken found some halt other = elim halt [ ]

-- a line was made, and leads to a term that is too large
pub overgrown : (p : SeenProgram) (labels : List Label) (line : Line) (g h : Stage) (nodes : ℕ)
    → MakesFrom (program_of p) line (stand_of p.ports labels g).config (stand_of p.ports labels g).left (stand_of p.ports labels h)
    → nodes ≡ size_of (config_of h.list h.running h.store.items) → limit < nodes → Overgrows p labels g nodes
overgrown p labels line g h nodes makes has large =
    record { line = line; next = stand_of p.ports labels h; makes = makes; has = has; large = large }

-- the line to try can't be made
pub halted : (p : SeenProgram) (labels : List Label) (line : Line) (g : Stage) (steps : ℕ) → IsNextLine (program_of p) line (stand_of p.ports labels g)
    → CantMake (program_of p) line (stand_of p.ports labels g) → IsHalt p labels g steps (faults.NotTrace g.matched)
halted p labels line g steps next cant = (refl, next.blocked cant)

-- A line is tried at a stage that is the same but for its name.
module _ (p : SeenProgram) (labels : List Label) (g h : Stage) (steps : ℕ) (same : h ≡ g) where
  pub halt_counted : (fault : ExplainFault) → (fault ≡ faults.NoMemory) ⊎ ((fault ≡ faults.Spent g.matched) × (budget g.matched ≤ steps)) → IsHalt p labels g steps fault
  halt_counted fault (inl e) = subst (IsHalt p labels g steps) (sym e) tt
  halt_counted fault (inr (e, large)) = subst (IsHalt p labels g steps) (sym e) (refl, large)

  module _ (line : Line) (k : Stage) (next : IsNextLine (program_of p) line (stand_of p.ports labels g)) where
    pub halt_cant : IsMade p labels line h k false → IsHalt p labels g steps (faults.NotTrace g.matched)
    halt_cant cant = halted p labels line g steps next (subst (λ (z : Stage). IsMade p labels line z k false) same cant)

    module _ (made : IsMade p labels line h k true) (nodes : ℕ) (is : nodes ≡ size_of (config_of k.list k.running k.store.items)) where
      here : IsMade p labels line g k true
      here = subst (λ (z : Stage). IsMade p labels line z k true) same made

      pub halt_large : limit < nodes → IsHalt p labels g steps (faults.Nodes nodes)
      halt_large large = overgrown p labels line g k nodes here.1 is large

      pub advanced_to : (f : Stage) → nodes ≤ limit → Keeps p.list f.list → IfSome f.running (λ i. i < length f.list.nodes)
          → config_of f.list f.running k.store.items ≡ config_of k.list k.running k.store.items → f.store ≡ k.store → f.matched ≡ k.matched → IsAdvanced p labels line g f
      advanced_to f few keeps running ec es em =
          advanced p labels line g k f here.0 here.1 (subst (λ (n : ℕ). n ≤ limit) is few) keeps running ec es em next.needed

-- the masks of a stage are those of the next one
pub masks_after : (ports : List ProgramPort) (g h k : Stage) (s t : Masks) → h ≡ g → t ≡ s → Keeps h.list k.list → AreMasks ports g.list s → AreMasks ports k.list t
masks_after ports g h k s t same et keeps are =
    subst (AreMasks ports k.list) (sym et) (masks_kept ports g.list k.list s (subst (λ (z : Stage). Keeps z.list k.list) same keeps) are)
