-- The plan of a child of a node: its imports, its literals and the type of its term, and so what it realises.
use Rattle.std.specs.Prelude.{◌≡◌, ℕ, ◌+◌, true, List, [], Some, Contains, length, slice_get, All}
use Rattle.std.specs.Str.{bytes_eq}
use Rattle.std.proofs.Common.{sym, ◌∙◌, subst, arith}
use Rattle.std.proofs.lemmas.Slice.Eq.{bytes_eq-Decides}
use Rattle.gos_types.specs.Types.{Type'}
use Rattle.gos_model.specs.Terms.{Name}
use Rattle.gos_model.specs.Typing.{import_type, Named, things, Typed}
use Rattle.gos_check.specs.Nodes.{Meaning, inside, meaning, type_of_node}
use Rattle.gos_plan.specs.Kinds.{Part}
use Rattle.gos_plan.specs.Plans.{Plan}
use Rattle.gos_plan.specs.TokenBits.{LiteralFits}
use Rattle.gos_realises.proofs.realises.LiteralLemmas.{literals_among}
use Rattle.gos_realises.specs.realises.Realises.{NamesDiffer, Realises}
use Rattle.gos_realises.proofs.realises.PlaceLemmas.{contains_at, place_of}
use Rattle.gos_joining.proofs.renumbered.ImportLemmas.{type_has}
use Rattle.gos_joining.specs.webs.Webs.{Tie}
use Rattle.gos_supplies.proofs.typing.WhenceLemmas.{named}
use Rattle.gos_supplies.proofs.typing.NameLemmas.{typed_under_fewer}
use Rattle.gos_terms.specs.wired.Wired.{Supplies, Placing, IsWired, AreRealised, terms_of}
use Rattle.gos_terms.specs.stages.Inside.{inside_supplies, numbers_inside, InsideIsRealised}
use Rattle.gos_terms.specs.stages.Folding.{Child, lodge, child_cut, IsChild, IsLaid}
use Rattle.gos_terms.specs.stages.Regions.{IsStaged}
use Rattle.gos_terms.proofs.stages.InsideLemmas.{inside_means}
use Rattle.gos_terms.proofs.stages.ChildNameLemmas.{outside, names_below}
use Rattle.gos_terms.specs.meanings.Meanings.{HasLeaves}
use Rattle.gos_terms.specs.numbers.Kept.{InScope}
use Rattle.gos_terms.specs.ground_forms.Cases.{RealisesWired}
use Rattle.gos_terms.proofs.ground_forms.WhoseLemmas.{whose}
use Rattle.gos_terms.proofs.ground_forms.WiredLemmas.{fewer}

module _ (f : Child) (own : List Part) (ts : List Tie) (pl plc : Placing) (r c : Plan) (is : IsChild f ts) (laid : IsLaid own f.numbers f.env pl r)
    (wired : IsWired f.types (f.first + f.off) f.node f.term f.uses (inside_supplies f.types f.splits f.env) plc c)
    (among : (k : ℕ) (x : Part) → slice_get c.parts k ≡ Some x → slice_get r.parts ((child_cut f pl plc (length r.parts)).part k) ≡ Some x)
    (within : InsideIsRealised) (realised : AreRealised f.types f.env f.numbers) where
  -- what stands for its numbers
  abbrev Inner : Supplies
  Inner = inside_supplies f.types f.splits f.env

  abbrev root : ℕ → ℕ
  root n = (lodge f).root n

  supplied : AreRealised f.types Inner f.uses
  supplied =
      fewer f.types Inner (numbers_inside f.splits f.numbers) f.uses (λ k has. (is.scope k has).0)
      (within f.types f.splits f.env f.numbers is.agree is.split realised)

  below : NamesDiffer r.imports → NamesDiffer c.imports
  below = names_below f own ts pl plc r c is laid wired

  -- the terms that its numbers stand for
  terms_within : terms_of Inner ≡ inside f.splits (terms_of f.env)
  terms_within = λ i k. inside_means f.types f.splits f.env k i

  typed_below : (t : Type') → NamesDiffer r.imports → HasLeaves f.term → InScope f.uses f.term
      → Typed r.imports [] (meaning (terms_of Inner) f.term) t → Typed c.imports [] (meaning (terms_of Inner) f.term) t
  typed_below t differ leaves scope typed = typed_under_fewer r.imports c.imports [] (meaning (terms_of Inner) f.term) t agree typed
    where
      agree : (x : Name) → Contains (things 0 (meaning (terms_of Inner) f.term)) (Named x) → import_type c.imports x ≡ import_type r.imports x
      agree x has =
          let (k, d, in_uses, of_k) = whose f.term f.uses (terms_of Inner) 0 x leaves scope has in
          let of : Realises (f.types k) (Inner k).plan (Inner k).term = supplied k in_uses in
          let name = named (Inner k).plan.imports (Named x) (Inner k).term d [] (f.types k) (omega arith) of.suits.typed of_k in
          let (q, at_q) = place_of (Inner k).plan.imports name.import name.has in
          let is_x : bytes_eq name.import.name x ≡ true = (bytes_eq-Decides name.import.name x).1 (sym (cc (name.same))) in
          let here = wired.imports k q name.import in_uses at_q in
          let there = outside f own ts pl plc r c is laid wired k q name.import in_uses at_q in
          type_has c.imports (below differ) x name.import (contains_at c.imports (plc.import k q) name.import here.0) is_x
          ∙ sym (type_has r.imports differ x name.import (contains_at r.imports (pl.import (root k) q) name.import there.0) is_x)

  literals_below : All LiteralFits r.parts → All LiteralFits c.parts
  literals_below fit = literals_among (child_cut f pl plc (length r.parts)).part c.parts r.parts among fit

  pub wired_child_realises : RealisesWired f.types f.uses f.term → NamesDiffer r.imports → All LiteralFits r.parts → HasLeaves f.term → InScope f.uses f.term
      → Typed r.imports [] (meaning (inside f.splits (terms_of f.env)) f.term) (type_of_node f.term)
      → Realises (type_of_node f.term) c (meaning (inside f.splits (terms_of f.env)) f.term)
  wired_child_realises real differ fit leaves scope typed =
      subst (λ (e : Meaning). Realises (type_of_node f.term) c (meaning e f.term)) terms_within
      (real (f.first + f.off) f.node Inner plc c wired supplied (below differ) (literals_below fit)
      (typed_below (type_of_node f.term) differ leaves scope
      (subst (λ (e : Meaning). Typed r.imports [] (meaning e f.term) (type_of_node f.term)) (sym terms_within) typed)))

pub child_realises : (f : Child) (own : List Part) (ts : List Tie) (pl plc : Placing) (r c : Plan)
    → IsChild f ts → IsLaid own f.numbers f.env pl r → IsStaged f pl plc r c → InsideIsRealised
    → AreRealised f.types f.env f.numbers → RealisesWired f.types f.uses f.term
    → NamesDiffer r.imports → All LiteralFits r.parts → HasLeaves f.term → InScope f.uses f.term
    → Typed r.imports [] (meaning (inside f.splits (terms_of f.env)) f.term) (type_of_node f.term)
    → Realises (type_of_node f.term) c (meaning (inside f.splits (terms_of f.env)) f.term)
child_realises f own ts pl plc r c is laid staged = wired_child_realises f own ts pl plc r c is laid staged.wired (λ k x at. (staged.region.parts k x at).0)
