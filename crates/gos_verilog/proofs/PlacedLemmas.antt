-- The places of inputs by name: what is known once another input is added.
use Rattle.std.proofs.Common.{◌≡◌, ℕ, ◌+◌, Bool, true, false, Some, List, refl, sym, ◌∙◌, ap, subst, arith, inl, inr, true≢false, slice_get}
use Rattle.std.specs.Prelude.{if◌then◌else◌}
use Rattle.std.specs.Str.{bytes_eq}
use Rattle.std.proofs.lemmas.Bool.{cases_eq}
use Rattle.std.proofs.lemmas.Slice.Eq.{bytes_eq-Decides}
use Rattle.gos_lex.specs.declared.table.NameTable.{NameTable}
use Rattle.gos_verilog.specs.PortNets.{PortNet}
use Rattle.gos_verilog.specs.inner.Stages.{HaveOwnNames}
use Rattle.gos_lex.specs.NameTables.{number_at, added}
use Rattle.gos_verilog.specs.inner.Noted.{HasPlaces}

-- another name is not this one
other_bytes : (a b : List ℕ) → (a ≡ b → ⊥) → bytes_eq a b ≡ false
other_bytes a b apart = by (bytes_eq a b) refl
  where
    by : (t : Bool) → bytes_eq a b ≡ t → bytes_eq a b ≡ false
    by false is = is
    by true is = absurd (apart ((bytes_eq-Decides a b).0 is))

-- an output adds nothing
pub place_passes : (nets : List PortNet) (places : NameTable) (n : ℕ) (net : PortNet) → slice_get nets n ≡ Some net → net.input ≡ false → HasPlaces nets n places → HasPlaces nets (n + 1) places
place_passes nets places n net here output has k other before at input =
    elim (cases_eq k n) [
      | inl last ↦
          let there : slice_get nets n ≡ Some other = subst (λ (m : ℕ). slice_get nets m ≡ Some other) last at in
          let both : Some net ≡ Some other = sym here ∙ there in
          let same : net ≡ other = cc both in
          absurd (true≢false (sym input ∙ (ap (λ (p : PortNet). p.input) (sym same) ∙ output)))
      | inr earlier ↦ has k other (omega (arith, before, earlier)) at input
    ]

-- an input more is added
pub place_more : (nets : List PortNet) (old new : NameTable) (n : ℕ) (net : PortNet) (name : List ℕ) → slice_get nets n ≡ Some net → name ≡ net.name → HaveOwnNames nets
    → ((other : List ℕ) → number_at new other ≡ added name n (number_at old other) other) → HasPlaces nets n old → HasPlaces nets (n + 1) new
place_more nets old new n net name here named own adds has k other before at input =
    elim (cases_eq k n) [
      | inl last ↦
          let there : slice_get nets n ≡ Some other = subst (λ (m : ℕ). slice_get nets m ≡ Some other) last at in
          let both : Some net ≡ Some other = sym here ∙ there in
          let same : net ≡ other = cc both in
          let equal : other.name ≡ name = ap (λ (p : PortNet). p.name) (sym same) ∙ sym named in
          adds other.name ∙ (ap (λ (b : Bool). if b then Some n else number_at old other.name) ((bytes_eq-Decides other.name name).1 equal) ∙ ap Some (sym last))
      | inr earlier ↦
          let apart : bytes_eq other.name name ≡ false = other_bytes other.name name (λ same. earlier (own k n other net at here (same ∙ named))) in
          adds other.name ∙ (ap (λ (b : Bool). if b then Some n else number_at old other.name) apart ∙ has k other (omega (arith, before, earlier)) at input)
    ]
