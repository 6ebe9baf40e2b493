-- What a trace's text says hangs on the names and the types of ports alone.
use Rattle.std.specs.Prelude.{◌≡◌, ◌∷◌, ◌++◌, [], ℕ, zero, suc, List, Option, Some, None, codes, map, option_map, slice_get}
use Rattle.std.proofs.Common.{refl, sym, ◌∙◌, ap, subst}
use Rattle.std.proofs.lemmas.Option.{slice_get-map}
use Rattle.std.specs.Fmt.{decimal}
use Rattle.gos_types.specs.Types.{Type'}
use Rattle.gos_netlist.specs.NetText.{line}
use Rattle.gos_model.specs.Labels as shown
use Rattle.gos_model.specs.Terms.{Name}
use Rattle.gos_model.specs.Typing.{Imported}
use Rattle.gos_witness.specs.declared.labels.Label.{Label}
use Rattle.gos_witness.specs.declared.program.ProgramPort.{ProgramPort}
use Rattle.gos_witness.specs.Ports.{imported, label_of, labels_of, name_of, port_of}
use Rattle.gos_witness.specs.TraceText.{HasEvent, IsLabel, IsTraceTextOf, LinesText, event_text, label_text, port_label}

-- the name of a port, and the text of its label, by its face
abbrev face_name : Option Imported → Name
face_name None = []
face_name (Some i) = i.name

abbrev face_label : Option Imported → Label → List ℕ
face_label None o = []
face_label (Some i) o = i.name ++ codes "." ++ event_text i.ty o.place o.value

name_is : (p : Option ProgramPort) → name_of p ≡ face_name (option_map imported p)
name_is None = refl
name_is (Some p) = refl

label_is : (p : Option ProgramPort) (o : Label) → port_label p o ≡ face_label (option_map imported p) o
label_is None o = refl
label_is (Some p) o = refl

found : (o : Option ProgramPort) (p : ProgramPort) → option_map imported o ≡ Some (imported p) → (q : ProgramPort) × (o ≡ Some q) × (imported q ≡ imported p)
found None p e = absurd (cc e)
found (Some q) p e = (q, refl, cc e)

module _ (ports also : List ProgramPort) (same : map imported ports ≡ map imported also) where
  there : (n : ℕ) → option_map imported (slice_get ports n) ≡ option_map imported (slice_get also n)
  there n = sym (slice_get-map imported ports n) ∙ (ap (λ (xs : List Imported). slice_get xs n) same ∙ slice_get-map imported also n)

  -- a label is the same
  port_same : (n : ℕ) → port_of ports n ≡ port_of also n
  port_same zero = refl
  port_same (suc n) =
      ap (λ (x : Name). shown.Taken x)
      (name_is (slice_get ports (suc n)) ∙ (ap face_name (there (suc n)) ∙ sym (name_is (slice_get also (suc n)))))

  label_same : (o : Label) → label_of ports o ≡ label_of also o
  label_same o = ap (λ (p : shown.Port). record { port = p; event = o.place; value = o.value }) (port_same o.port)

  pub labels_same : (labels : List Label) → labels_of ports labels ≡ labels_of also labels
  labels_same [] = refl
  labels_same (o ∷ labels) = let rest = labels_same labels in λ i. label_same o i ∷ rest i

  -- and so is its text
  text_same : (o : Label) → label_text ports o ≡ label_text also o
  text_same o =
      label_is (slice_get ports o.port) o
      ∙ (ap (λ (i : Option Imported). face_label i o) (there o.port) ∙ sym (label_is (slice_get also o.port) o))

  label_too : (o : Label) → IsLabel ports o → IsLabel also o
  label_too o (p, at, has) =
      let (q, is, face) = found (slice_get also o.port) p (sym (there o.port) ∙ ap (option_map imported) at) in
      (q, is, subst (λ (t : Type'). HasEvent t o.place o.value) (ap (λ (i : Imported). i.ty) (sym face)) has)

  lines_too : (from n : ℕ) (labels : List Label) (text : List ℕ) → LinesText ports from n labels text → LinesText also from n labels text
  lines_too from n [] text is = is
  lines_too from n (o ∷ labels) text (t, rest, late, low, label, lines, is) = (
    t,
    rest,
    late,
    low,
    label_too o label,
    lines_too t n labels rest lines,
    is ∙ ap (λ (x : List ℕ). line (decimal t ++ codes " " ++ x) ++ rest) (text_same o),
  )

  pub trace_too : (text : List ℕ) (labels : List Label) → IsTraceTextOf ports text labels → IsTraceTextOf also text labels
  trace_too text labels (n, some, most, lines) = (n, some, most, lines_too 0 n labels text lines)
