-- The line to try at a stage.
use Rattle.std.proofs.Common.{◌≡◌, ◌≢◌, ◌⊎◌, inl, inr, ◌<◌, ℕ, zero, suc, List, [], ◌∷◌, length, drop, refl, sym, ap, subst, arith, Option, Some, None, ◌∙◌}
use Rattle.std.specs.Prelude.{slice_get}
use Rattle.gos_model.specs.Labels as shown
use Rattle.gos_model.specs.Labels.{Given}
use Rattle.gos_model.specs.Moves.{Program, Config, Idle, Running}
use Rattle.gos_model.specs.Steps.{IsValue}
use Rattle.gos_swaps.specs.proper.Proper.{PartsApart}
use Rattle.gos_swaps.specs.needed.Needed.{HasPort}
use Rattle.gos_witness.specs.declared.labels.Label.{Label}
use Rattle.gos_witness.specs.declared.moves.Line.{Line}
use Rattle.gos_witness.specs.declared.moves.Line.TheVariants as lines
use Rattle.gos_witness.specs.declared.masks.Masks.{Masks}
use Rattle.gos_witness.specs.declared.store.Entry.{Entry}
use Rattle.gos_witness.specs.declared.verifying.Stage.{Stage}
use Rattle.gos_witness.specs.NodeLists.{Listed, seen}
use Rattle.gos_witness.specs.Ports.{port_of, label_of, labels_of}
use Rattle.gos_witness.specs.Programs.{SeenProgram, program_of}
use Rattle.gos_witness.specs.Lines.{Stand, MakesFrom}
use Rattle.gos_witness.specs.inner.Rows.{entries_of}
use Rattle.gos_witness.specs.inner.Stages.{config_of, stand_of}
use Rattle.gos_witness.specs.inner.Searches.{IsSound, IsNeededFor, NeverComes, IsNextLine}
use Rattle.gos_witness.specs.inner.PortMasks.{IsMarked, Knows}
use Rattle.gos_witness.specs.inner.Ends.{IsPlaced}
use Rattle.gos_witness.proofs.StageLemmas.{left_some}
use Rattle.gos_witness.proofs.EndLemmas.{placed_needed, placed_blocked, absent_blocked, asked_blocked, idle_blocked, value_blocked}

module _ (p : SeenProgram) (labels : List Label) (g : Stage) where
  abbrev pub left : List shown.Label
  left = labels_of p.ports (drop g.matched labels)

  -- at a configuration and with labels left that are known
  at_once : (c : Config) (ls : List shown.Label) (line : Line) → config_of g.list g.running g.store.items ≡ c → left ≡ ls → IsNeededFor line c ls
      → (((b : Stand) → MakesFrom (program_of p) line c ls b → ⊥) → NeverComes (program_of p) c ls) → IsNextLine (program_of p) line (stand_of p.ports labels g)
  at_once c ls line ec el needed blocked = record {
    needed = subst (λ (z : Config). IsNeededFor line z left) (sym ec) (subst (IsNeededFor line c) (sym el) needed);
    blocked = λ cant.
        subst (λ (z : Config). NeverComes (program_of p) z left) (sym ec)
        (subst (NeverComes (program_of p) c) (sym el)
        (blocked (λ b makes. cant b
        (subst (λ (z : Config). MakesFrom (program_of p) line z left b) (sym ec)
        (subst (λ (z : List shown.Label). MakesFrom (program_of p) line c z b) (sym el) makes)))));
  }

  never_once : (c : Config) (ls : List shown.Label) → config_of g.list g.running g.store.items ≡ c → left ≡ ls → NeverComes (program_of p) c ls
      → NeverComes (program_of p) (config_of g.list g.running g.store.items) left
  never_once c ls ec el never = subst (λ (z : Config). NeverComes (program_of p) z left) (sym ec) (subst (NeverComes (program_of p) c) (sym el) never)

  pub next_idle : g.running ≡ None → IsNextLine (program_of p) lines.Root (stand_of p.ports labels g)
  next_idle none =
      at_once Idle left lines.Root (ap (λ (i : Option ℕ). config_of g.list i g.store.items) none) refl tt (idle_blocked (program_of p) left)

  module _ (root : ℕ) (is : g.running ≡ Some root) where
    running : config_of g.list g.running g.store.items ≡ Running (seen g.list root) (entries_of g.store.items)
    running = ap (λ (i : Option ℕ). config_of g.list i g.store.items) is

    pub next_value : IsValue (seen g.list root) → IsNextLine (program_of p) lines.Root (stand_of p.ports labels g)
    next_value value =
        at_once (Running (seen g.list root) (entries_of g.store.items)) left lines.Root running refl tt
        (value_blocked (program_of p) (seen g.list root) (entries_of g.store.items) left value)

    module _ (o : Label) (at : slice_get labels g.matched ≡ Some o) (sound : IsSound (config_of g.list g.running g.store.items)) where
      pub next_placed : (line : Line) → IsPlaced (port_of p.ports o.port) (seen g.list root) line → IsNextLine (program_of p) line (stand_of p.ports labels g)
      next_placed line placed =
          at_once (Running (seen g.list root) (entries_of g.store.items)) (label_of p.ports o ∷ labels_of p.ports (drop (suc g.matched) labels)) line running
          (left_some p.ports labels g.matched o at)
          (placed_needed line (seen g.list root) (entries_of g.store.items) (label_of p.ports o) (labels_of p.ports (drop (suc g.matched) labels)) placed)
          (placed_blocked (program_of p) line (seen g.list root) (entries_of g.store.items) (label_of p.ports o) (labels_of p.ports (drop (suc g.matched) labels))
          (subst IsSound running sound) placed)

      pub never_asked : o.port ≡ 0 → o.place ≢ 1 → NeverComes (program_of p) (config_of g.list g.running g.store.items) left
      never_asked root_port other =
          never_once (Running (seen g.list root) (entries_of g.store.items)) (label_of p.ports o ∷ labels_of p.ports (drop (suc g.matched) labels)) running
          (left_some p.ports labels g.matched o at)
          (asked_blocked (program_of p) (seen g.list root) (entries_of g.store.items) (label_of p.ports o) (labels_of p.ports (drop (suc g.matched) labels))
          (ap (port_of p.ports) root_port) other)

      pub never_absent : o.port ≢ 0 → (HasPort (port_of p.ports o.port) (seen g.list root) → ⊥)
          → NeverComes (program_of p) (config_of g.list g.running g.store.items) left
      never_absent taken out =
          never_once (Running (seen g.list root) (entries_of g.store.items)) (label_of p.ports o ∷ labels_of p.ports (drop (suc g.matched) labels)) running
          (left_some p.ports labels g.matched o at)
          (absent_blocked (program_of p) (seen g.list root) (entries_of g.store.items) (label_of p.ports o) (labels_of p.ports (drop (suc g.matched) labels))
          (subst IsSound running sound) out (λ given. taken (root_of o.port given)))
        where
          root_of : (n : ℕ) → port_of p.ports n ≡ Given → n ≡ 0
          root_of zero e = refl
          root_of (suc n) e = absurd (cc e)

      -- what can't come by its label alone
      pub never_comes : (masks : Masks) → root < length g.list.nodes → Knows g.list (port_of p.ports o.port) o.port masks
          → ((o.port ≡ 0) × (o.place ≢ 1)) ⊎ ((o.port ≢ 0) × (IsMarked masks o.port root → ⊥))
          → NeverComes (program_of p) (config_of g.list g.running g.store.items) left
      never_comes masks there knows (inl (root_port, other)) = never_asked root_port other
      never_comes masks there knows (inr (taken, out)) = never_absent taken (λ has. out ((knows.marked root there).1 has))

-- the parts of a running term are apart
pub apart_of : (l : Listed) (r : Option ℕ) (s : List Entry) (root : ℕ) → r ≡ Some root → IsSound (config_of l r s) → PartsApart (seen l root)
apart_of l r s root e sound = (subst IsSound (ap (λ (i : Option ℕ). config_of l i s) e) sound).apart
