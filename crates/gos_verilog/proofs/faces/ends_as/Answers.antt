use Rattle.std.proofs.Common.{◌≡◌, ◌++◌, ℕ, List, inl, inr, length, take, drop, sym, ◌∙◌, ap, arith, length-append}
use Rattle.std.proofs.Math.Seq.{take-append_seam}
use Rattle.std.proofs.lemmas.Bool.{cases_lt}
use Rattle.std.proofs.lemmas.List.{take-append-drop}
use Rattle.gos_verilog.proofs.FreeLemmas.{contrary}
use Rattle.gos_verilog.proofs.faces.ends_as.Goals as goal

pub loop-k-preserved : goal.loop-k-preserved
loop-k-preserved c = λ j front inside free is.
    let suffix = c.suffix-suffix.result.now in
    elim (cases_lt j c.loop-k.k) [
      | inl before ↦ c.loop-k.invariant j front before free is
      | inr over ↦
          let e : j ≡ c.loop-k.k = omega (arith, inside, over) in
          contrary (c.free_before.ensures.only front free (is ∙ ap (λ (n : ℕ). front ++ take n suffix) e)) c.if-free_before.false
    ]

pub returns-then-free_before-clause-is : goal.returns-then-free_before-clause-is
returns-then-free_before-clause-is c = λ _.
    let suffix = c.suffix-suffix.result.now in
    let k = c.loop-k.k in
    let found = c.free_before.ensures.is c.if-free_before.true in
    (found.0, take k suffix, drop k suffix, found.1, found.2, sym c.suffix-suffix.ensures ∙ sym (take-append-drop k suffix))

pub returns-clause-only : goal.returns-clause-only
returns-clause-only c = λ front end more free is parts.
    let suffix = c.suffix-suffix.result.now in
    let whole : suffix ≡ end ++ more = c.suffix-suffix.ensures ∙ parts in
    let size = ap length whole ∙ length-append end more in
    let part : take (length end) suffix ≡ end = ap (take (length end)) whole ∙ take-append_seam end more in
    absurd (c.loop-k.invariant (length end) front (omega (arith, size, c.loop-k-test.false)) free (is ∙ ap (λ (b : List ℕ). front ++ b) (sym part)))
